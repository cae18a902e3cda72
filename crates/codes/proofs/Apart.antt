-- A caller can tell a result from a refusal: one law of all codes, and for each operation that its results are below refused_from.
-- It stands on how many reads and bytes an accepted plan has, how many bytes a carried one has, and how many pairs a server keeps.
use mathlib.Core.Path.{◌≡◌, refl, ◌∙◌}
use mathlib.Core.Bool.{Bool, true, false, cond}
use mathlib.Core.List.{List}
use Prim.Native.Nat.{ℕ, ◌-◌, ◌≤◌, ◌<◌}
use native.Mathlib.Omega.{arith}
use lib.Dec.{ltb, lit<}
use borrow.Author.Tests.{lt-ltb, le-ltb}
use Rattle.register.specs.Cluster.{cluster, server_of}
use Rattle.plan.specs.{Header.header_of, Packed.plan_of, Form.is_form, Form.width_of, Form.most_width, Limits.most_bytes}
use Rattle.plan.specs.Check.{Outcome, refused, result, check_of}
use Rattle.plan.proofs.{Longest.longest, Longest.most_reads_lem, Forms.form_known, Forms.by_form, Accept.in_range, Accept.playable, Sizes.implied_few}
use Rattle.lists.specs.Lists.{Lists, reads_listed, packed_plan}
use Rattle.pack.specs.Pack.{pack_in}
use Rattle.pack.proofs.Inverted.{form_packed_well}
use Rattle.results.specs.Look.{Condition, is_faulty, is_cured, is_correct, shown_by}
use Rattle.results.proofs.Keeps.{few_shown}
use Rattle.carrying.specs.Carrying.{carry_of}
use Rattle.carrying.proofs as carrying
use Rattle.codes.specs.Codes.{refused_from, refusal_code, code_of, verdict_number, condition_code, shown_number}

-- what a caller takes from a code
abbrev pub outcome_in : ℕ → Outcome ℕ
outcome_in code = cond (ltb code refused_from) (result code) (refused (code - refused_from))

-- The law of all codes: an outcome can be taken back from its code, so no refusal has the code of another one or of a result.
pub code_apart : (o : Outcome ℕ) → ((m : ℕ) → o ≡ result m → m < refused_from) → outcome_in (code_of o) ≡ o
code_apart (refused number) below =
    let e : refusal_code number - refused_from ≡ number = omega arith in
    rw (le-ltb (refusal_code number) refused_from (omega arith), e)
code_apart (result m) below = rw (lt-ltb m refused_from (below m refl))

-- of Check and Play, at every width
pub reads_below : (w : ℕ) (s : List ℕ) (m : ℕ) → check_of w s ≡ result m → m < refused_from
reads_below w s m e = omega (arith, most_reads_lem w s m e)

-- of Judge
pub verdict_below : (yes : Bool) → verdict_number yes < refused_from
verdict_below true = omega arith
verdict_below false = omega arith

condition_few : (c : Condition) → condition_code c ≤ 2
condition_few is_faulty = omega arith
condition_few is_cured = omega arith
condition_few is_correct = omega arith

-- of Look
pub shown_below : (w : ℕ) (s : List ℕ) (t b : ℕ) → b < (header_of w s).n → shown_number (shown_by w (server_of (cluster (plan_of w s) t) b)) < refused_from
shown_below w s t b l =
    let x = shown_by w (server_of (cluster (plan_of w s) t) b) in
    omega (arith, condition_few x.condition, few_shown w s t b l)

-- of Pack
most_below : (form : ℕ) → is_form form ≡ true → most_bytes form < refused_from
most_below = by_form (λ (form : ℕ). most_bytes form < refused_from) (lit< tt) (lit< tt)

pub bytes_below : (form : ℕ) (l : Lists) (out : List ℕ) (m : ℕ) → (pack_in form l out).outcome ≡ result m → m < refused_from
bytes_below form l out m e =
    let (known, p) = form_packed_well form l out m e in
    let s = packed_plan (width_of form) l in
    omega (arith, p.bytes, most_below form known, longest form s (reads_listed (width_of form) l) (form_known form s known ∙ p.checked))

-- of Carry, to values of at most as many bits as the code can take
pub carried_below : (v w : ℕ) (s out : List ℕ) (m : ℕ) → w ≤ most_width → (carry_of v w s out).outcome ≡ result m → m < refused_from
carried_below v w s out m narrow e =
    let (reads, accepted, fit, size) = carrying.Carrying.carried_from v w s out m e in
    let r = in_range v s (playable v s reads accepted) in
    omega (arith, size, (carrying.Checked.carried_whole v w s fit).size, implied_few w (header_of v s) r narrow)
