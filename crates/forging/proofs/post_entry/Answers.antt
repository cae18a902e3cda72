-- `forging::post_entry` meets its contract: where the entry goes, by its receiver and its arrival.
use mathlib.Core.Path.{sym, ap, ◌∙◌}
use lib.Dec.{eqb}
use Rattle.forging.proofs.Forgeries.{goes_server, goes_writer, goes_nowhere, goes_late, goes_reader, entry_posted, entry_none}
use Rattle.forging.proofs.post_entry.Goals.{then-y-gt-READERS-via-then-y-gt-READERS as nowhere, then-y-gt-READERS-via-else-y-gt-READERS+then-from-arrival as late}
use Rattle.forging.proofs.post_entry.Goals as goal

pub returns-then-receiver-n : goal.returns-then-receiver-n
returns-then-receiver-n c = let e = c.of-entry.ensures in
    entry_posted _ _ _ _ _ _ _ _ _ _ (c.from-receiver.ensures ∙ e.receiver) (c.from-arrival.ensures ∙ e.arrival) (c.from-sender.ensures ∙ e.sender) e.number
    (λ x. goes_server _ _ _ _ x c.if-receiver-n.true ∙ ap (eqb x) (sym c.row.ensures.0))
    c.post.ensures

pub returns-then-receiver-n-2 : goal.returns-then-receiver-n-2
returns-then-receiver-n-2 c = let e = c.of-entry.ensures in
    entry_none _ _ _ _ _ _ (c.from-receiver.ensures ∙ e.receiver) (c.from-arrival.ensures ∙ e.arrival) (λ x. goes_writer _ _ _ _ x c.if-receiver-n.false c.if-receiver-n-2.true)

pub returns-then-y-gt-READERS : goal.returns-then-y-gt-READERS
returns-then-y-gt-READERS c = let e = c.of-entry.ensures in
    entry_none _ _ _ _ _ _ (c.from-receiver.ensures ∙ e.receiver) (c.from-arrival.ensures ∙ e.arrival) (λ x. elim c.then-y-gt-READERS.branch [
      | nowhere w ↦ goes_nowhere _ _ _ _ x c.if-receiver-n-2.false w.if-y-gt-READERS.true
      | late w ↦ goes_late _ _ _ _ x c.if-receiver-n-2.false w.if-y-gt-READERS.false (rw w.from.ensures at w.if-from-arrival.true)
    ])

pub returns : goal.returns
returns c = let e = c.of-entry.ensures in
    entry_posted _ _ _ _ _ _ _ _ _ _ (c.from-receiver.ensures ∙ e.receiver) (c.from-arrival.ensures ∙ e.arrival) (c.from-sender.ensures ∙ e.sender) e.number
    (λ x. goes_reader _ _ _ _ x c.if-receiver-n-2.false c.if-y-gt-READERS.false (rw c.from.ensures at c.if-from-arrival.false)
    ∙ ap (eqb x) (sym c.row-2.ensures.0))
    c.post-2.ensures
