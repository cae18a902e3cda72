-- `check_at` meets its contract: a refusal of the header, of the bound, or the rest.
use mathlib.Core.Path.{sym, ◌∙◌}
use Rattle.std.proofs.lemmas.Result.{err_from_is_err_and}
use Rattle.plan.specs.Shape.{shape}
use Rattle.plan.proofs.{Accept.header_ranged, Chain.goes, Chain.stops, Chain.header_is, Chain.check_leaves, Chain.check_refused, Chain.rest_is}
use Rattle.checks.proofs.check_at.Goals as goal

pub returns-in_err-h : goal.returns-in_err-h
returns-in_err-h c = let p = err_from_is_err_and c.from_residual.result c.from_residual.ensures.1 in
    rw (p.1, p.2) (sym (check_refused _ _ _ c.in_err-h.ensures))

pub returns-then-not-has_enough_servers : goal.returns-then-not-has_enough_servers
returns-then-not-has_enough_servers c = let e = c.in_ok-h.ensures in
    stops (check_leaves _ _ (shape c.in_ok-h.h) e.0) (sym c.if-not-has_enough_servers.ensures)

pub rest-requires : goal.rest-requires
rest-requires c = let e = c.in_ok-h.ensures in
    (header_ranged _ _ _ e.0, rw e.1 c.requires, rw e.1 (header_is _ _ _ e.0))

pub returns : goal.returns
returns c = let e = c.in_ok-h.ensures in
    let l = goes (check_leaves _ _ (shape c.in_ok-h.h) e.0) (sym c.if-not-has_enough_servers.ensures) in
    (rw e.1 at c.rest.ensures) ∙ sym (rest_is _ _ (shape c.in_ok-h.h) l)
