-- `look` meets its contract: each way that it ends is its definition's.
use mathlib.Core.Path.{◌≡◌, sym, ap}
use native.Mathlib.Omega.{arith}
use Rattle.std.proofs.lemmas.Result.{err_from_is_err_and}
use Rattle.plan.specs.{Form.width_of, Header.Header, Header.header_of, Check.result, Check.check_of, Shape.shape}
use Rattle.plan.proofs.{Accept.playable, Accept.header_there, Forms.form_passed}
use Rattle.look.proofs.LookCases.{look_checked, look_ten, look_server, look_tick, look_done, shown}
use Rattle.look.proofs.look.Goals.{After-read-shape, After-width-width}
use Rattle.look.proofs.look.Goals as goal

-- the plan that Check accepted, at the width of its form
checked-at : (c : After-width-width) → check_of c.width-width.result c.args.plan.now ≡ result c.in_ok-check.field-0
checked-at c = rw c.width-width.ensures.0 (form_passed _ _ _ (sym c.in_ok-check.ensures)).1

-- the header that was read is the plan's
header : (c : After-read-shape) → shape c.read-shape.result ≡ header_of (width_of c.args.form) c.args.plan.now
header c = rw c.width-width.ensures.0 at c.read-shape.ensures.0

pub returns-then-work-lt-WORKSPACE_BYTES : goal.returns-then-work-lt-WORKSPACE_BYTES
returns-then-work-lt-WORKSPACE_BYTES c = look_ten _ _ _ _ _ _ (sym c.in_ok-check.ensures) c.if-work-lt-WORKSPACE_BYTES.true

pub read-shape-requires : goal.read-shape-requires
read-shape-requires c = (header_there _ _ (playable _ _ _ (checked-at (goal.at.read-shape-requires c).After-width-width)), c.width-width.ensures.1)

pub returns-then-from-server : goal.returns-then-from-server
returns-then-from-server c = let n = ap (λ (h : Header). h.n) (header (goal.at.returns-then-from-server c).After-read-shape) in
    look_server _ _ _ _ _ _ (sym c.in_ok-check.ensures) c.if-work-lt-WORKSPACE_BYTES.false (omega (arith, n, c.if-from-server.true))

pub returns-then-from-tick : goal.returns-then-from-tick
returns-then-from-tick c = let n = ap (λ (h : Header). h.n) (header (goal.at.returns-then-from-tick c).After-read-shape) in
    let t = ap (λ (h : Header). h.ticks) (header (goal.at.returns-then-from-tick c).After-read-shape) in
    (look_tick _ _ _ _ _ _ (sym c.in_ok-check.ensures) c.if-work-lt-WORKSPACE_BYTES.false (omega (arith, n, c.if-from-server.false)) (omega (arith, t, c.if-from-tick.true)))

pub look-s-requires : goal.look-s-requires
look-s-requires c = let n = ap (λ (h : Header). h.n) c.read-shape.ensures.0 in
    let t = ap (λ (h : Header). h.ticks) c.read-shape.ensures.0 in
    (playable _ _ _ (checked-at (goal.at.look-s-requires c).After-width-width), c.width-width.ensures.1, c.if-work-lt-WORKSPACE_BYTES.false, omega (arith, n, c.if-from-server.false), omega (arith, t, c.if-from-tick.false))

pub returns-in_err-check : goal.returns-in_err-check
returns-in_err-check c = let p = err_from_is_err_and c.from_residual.result c.from_residual.ensures.1 in
    rw (p.1, p.2) (look_checked _ _ _ _ _ _ (sym c.in_err-check.ensures))

pub returns : goal.returns
returns c = let n = ap (λ (h : Header). h.n) (header (goal.at.returns c).After-read-shape) in
    let t = ap (λ (h : Header). h.ticks) (header (goal.at.returns c).After-read-shape) in
    let x = rw c.width-width.ensures.0 at c.look-s.ensures in
    look_done _ _ _ _ _ _ (sym c.in_ok-check.ensures) c.if-work-lt-WORKSPACE_BYTES.false (omega (arith, n, c.if-from-server.false)) (omega (arith, t, c.if-from-tick.false)) _
    (shown _ _ _ c.look-s.result.kept x.status x.kept x.narrow _ _ _ _ c.condition.ensures c.shown_places.ensures x.workspace)
