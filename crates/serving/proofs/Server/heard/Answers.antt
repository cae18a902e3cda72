-- `Server::heard` meets its contract.
use mathlib.Core.Path.{refl, sym, ◌∙◌}
use Rattle.serving.proofs.StageLaws.{written_status, written_pending, written_keys}
use Rattle.tallies.proofs.TallyLaws.{joined_both}
use Rattle.serving.proofs.Server.heard.Goals as goal

pub returns-then-is_quorate : goal.returns-then-is_quorate
returns-then-is_quorate c = let a = c.args in
    let w = c.write.ensures in
    record {
      table = joined_both a.sets.now c.join.new.sets c.join-2.new.sets a.at a.got c.join.ensures c.join-2.ensures;
      status = written_status a.p.number a.self c.write.result w.0;
      pending = written_pending a.p.number a.self c.write.result w.0;
      kept = rw (sym c.is_quorate.ensures ∙ c.if-is_quorate.true) (written_keys a.p.number a.self c.write.result w.0);
      valued = w.1;
    }

pub returns : goal.returns
returns c = let a = c.args in
    record {
      table = joined_both a.sets.now c.join.new.sets c.join-2.new.sets a.at a.got c.join.ensures c.join-2.ensures;
      status = refl;
      pending = refl;
      kept = rw (sym c.is_quorate.ensures ∙ c.if-is_quorate.false);
      valued = λ values v f. v;
    }
