-- The definitions that a case computes with, opened under one name, a few at a time.
use mathlib.Core.List.{List}
use Prim.Native.Nat.{ℕ}
use Rattle.bits.specs as bits
use Rattle.register.specs.Lists
use Rattle.register.specs.Plan
use Rattle.register.specs.Server
use Rattle.register.specs.Cluster
use Rattle.register.specs.Reading
use Rattle.register.specs.Regular
use Rattle.plan.specs.Header
use Rattle.plan.specs.Parts
use Rattle.plan.specs.Packed
use Rattle.plan.specs.Check
use Rattle.answers.specs.Answers
use Rattle.results.specs.Look
use Rattle.results.specs.Judge
use Rattle.decimal.specs.Decimal
use Rattle.lines.specs.Text
use Rattle.cases.specs.Hex
use Rattle.cases.specs.Starred as S

fields : ℕ
unfolding bits.Field.bit_of bits.Field.field_of bits.Layout.bits_of bits.Layout.packed_bits bits.Layout.word_of bits.Layout.bytes_of bits.Layout.in_bytes Hex.hex
fields = 0

lists : ℕ
unfolding fields Lists.count Lists.any_up_to Lists.all_up_to Lists.tab_from Lists.flat Lists.any Lists.filter Lists.distinct Lists.highest Lists.same_list
lists = 0

pairs : ℕ
unfolding lists Plan.stamped Plan.value_of Plan.number_of Plan.k_of Plan.is_move Server.claim_of Server.has Server.pairs_of Server.insert Server.insert_all Server.take_in Server.quorum
pairs = 0

servers : ℕ
unfolding pairs Server.voted_in Server.deliver Server.stage1 Server.stage2 Server.moved Server.stage3 Server.stage4
servers = 0

ticks : ℕ
unfolding servers Cluster.sent_in Cluster.writes_in Cluster.reads_in Cluster.votes_from Cluster.forged_in Cluster.votes_in Cluster.step Cluster.server_of Cluster.tick Cluster.cluster
ticks = 0

reads : ℕ
unfolding ticks Reading.same_read Reading.reply_from Reading.forged_to Reading.noted Reading.noted_by Reading.count_naming Reading.best Reading.answer_from
reads = 0

promises : ℕ
unfolding reads Regular.finished Regular.concurrent Regular.last_finished Regular.allowed Header.header_of Header.moves
promises = 0

parts : ℕ
unfolding promises Parts.in_placement Parts.operation_of Parts.forgery_of Parts.delay_of Parts.operations_of Parts.is_link Parts.writes_from Parts.reads_from Packed.plan_of
parts = 0

tests : ℕ
unfolding parts Check.header_in_range Check.enough_servers Check.end_of Check.placement_stands Check.operation_rises Check.operation_waits Check.operation_stands Check.read_open
tests = 0

checks : ℕ
unfolding tests Check.forgery_rises Check.forgery_stands Check.delay_stands Check.final_bits_zero Check.placements_stand Check.operations_stand Check.forgeries_stand Check.delays_stand Check.check_of
checks = 0

answers : ℕ
unfolding checks Answers.answer_bytes Answers.answers_for Answers.answers_of Answers.begin_in Answers.reader_in Answers.pair_in Answers.zero_in
answers = 0

judged : ℕ
unfolding answers Look.condition_of Look.shown_by Judge.answer_fits Judge.answer_allowed Judge.judge_after Judge.judge_of
judged = 0

lines : ℕ
unfolding judged Decimal.digits_within Decimal.decimal_of Text.line_with Text.line_of Text.lines_for Text.text_after Text.text_of
lines = 0

cases : ℕ
unfolding lines S.k_one S.k_two S.period_short S.five S.four S.six S.five_two S.no_reads S.one_read S.written S.takeover S.six_writes S.last_five S.just_set S.just_written S.from_the_start S.reads_one
cases = 0

unfoldable pub opened : List ℕ → Check.Outcome ℕ
unfolding cases S.starred S.ended_as_begun
opened s = Check.check_of S.one_width s
