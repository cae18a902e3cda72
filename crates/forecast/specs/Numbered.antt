-- The numbers of an accepted plan, or the refusal's number, for every case of what Forecast returns.
use Rattle.std.specs.Prelude.{Result, Ok, Err}
use Rattle.plan.specs.declared.Refusal.{Refusal}
use Rattle.plan.specs.Check.{Outcome, refused, result}
use Rattle.plan.specs.Numbered.{refusal_number}
use Rattle.forecast.specs.declared.Counts as declared
use Rattle.forecast.specs.Forecast.{Counts}

abbrev pub counts : declared.Counts → Counts
counts x = record {
  answer_bytes = x.answer_bytes;
  moves = x.moves;
  write_messages = x.write_messages;
  read_messages = x.read_messages;
  votes = x.votes;
  most_forgeries = x.most_forgeries;
}

abbrev pub foreseen : Result declared.Counts Refusal → Outcome Counts
foreseen (Ok x) = result (counts x)
foreseen (Err why) = refused (refusal_number why)
