-- `tick::turn_of` meets its contract: where no request reaches the server, no WRITE and no READ does.
use mathlib.Core.Path.{◌≡◌, sym, ◌∙◌, fun_ext}
use mathlib.Core.Bool.{Bool}
use Prim.Native.Nat.{ℕ}
use Rattle.limits.specs.Bits.{bit}
use Rattle.limits.proofs.Bits.{bit_zero}
use Rattle.cluster.specs.Inputs.{wrote_at, asks_at}
use Rattle.cluster.proofs.Asking.{none_wrote, none_asks}
use Rattle.cluster.proofs.tick.turn_of.Goals as goal

pub returns : goal.returns
returns c = let requests = c.args.feed.arrivals.requests in
    let number = c.args.feed.arrivals.number in
    let wrote : c.if-has.wrote.0 ≡ wrote_at requests number c.args.b = elim c.if-has.branch [
      | goal.then-has y ↦ rw y.wrote-is y.wrote_at.ensures
      | goal.else-has y ↦ rw y.wrote-is (sym (none_wrote requests c.args.b (sym c.requires.1 ∙ (sym c.has.ensures ∙ y.if-has.false)) number))
    ] in
    let asks : ◌≡◌ {A = ℕ → Bool} (λ x. bit x c.if-has.wrote.1) (asks_at requests c.args.b) = elim c.if-has.branch [
      | goal.then-has y ↦ rw y.wrote-is y.asks_at.ensures
      | goal.else-has y ↦ rw y.wrote-is (fun_ext (λ x. bit_zero x ∙ sym (none_asks requests c.args.b (sym c.requires.1 ∙ (sym c.has.ensures ∙ y.if-has.false)) x)))
    ] in
    record { turn = rw (wrote, c.row.ensures.0, c.from.ensures); asks = asks }
