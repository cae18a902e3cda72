-- `Server::moved` meets its contract.
use mathlib.Core.Path.{refl, sym, ◌∙◌}
use Rattle.serving.proofs.StageLaws.{seized}
use Rattle.tallies.proofs.TallyLaws.{others_none}
use Rattle.serving.proofs.Server.moved.Goals as goal

pub returns-then-faulty : goal.returns-then-faulty
returns-then-faulty c = let w = c.wipe.ensures in
    record {
      others = w.others;
      stage = λ m h. rw c.if-faulty.true (seized c.args.t _ _ (w.blank m h) refl);
      valued = λ values v. w.valued values;
    }

pub returns-then-is_faulty : goal.returns-then-is_faulty
returns-then-is_faulty c = let w = c.wipe-then-is_faulty.ensures in
    record {
      others = w.others;
      stage = λ m h. rw (c.if-faulty.false, sym c.is_faulty.ensures ∙ c.if-is_faulty.true) (w.blank m h);
      valued = λ values v. w.valued values;
    }

pub returns : goal.returns
returns c = record {
  others = others_none _ _;
  stage = λ m h. rw (c.if-faulty.false, sym c.is_faulty.ensures ∙ c.if-is_faulty.false);
  valued = λ values v. v;
}
