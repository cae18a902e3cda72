-- A request sent is the plan's, and those of several reads come one by one. It stands on the laws of requests.
use mathlib.Core.Path.{ap, ◌∙◌}
use mathlib.Core.Bool.{◌&&◌, or_comm}
use mathlib.Core.List.{List}
use Prim.Native.Nat.{ℕ, ◌+◌, ◌%◌, ◌≤◌}
use native.Mathlib.Numerals.{add-one}
use lib.Dec.{eqb, leb, ltb}
use lib.ListN.{get_or}
use borrow.Author.Tests.{le-leb, lt-leb, ltb-true}
use Rattle.register.specs.Lists.{any_up_to}
use Rattle.register.proofs as register-laws
use Rattle.calendar.proofs.Laws.{under}
use Rattle.tables.specs as tables-specs
use Rattle.tables.proofs.LinkLaws.{link_at}
use Rattle.requests.specs.Requests.{asked_first, Asked}
use Rattle.requests.proofs.Requesting.{asked_none, asked_eq, asked_trans}
use Rattle.requests.specs.Asking.{asked_by, asked_between}

module _ (plan : List ℕ) (links : tables-specs.declared.Links.Links) (n t : ℕ) where
  pub asked_sent : (p : ℕ) (s : tables-specs.declared.sending.Sending.Sending) → tables-specs.Sending.Sent plan (tables-specs.Links.link_bit links t (n + p) 0) n t p s → (a r : List ℕ) → Asked a r (asked_first s p s.n) → Asked a r (asked_by plan links n t p)
  unfolding asked_by
  asked_sent p s S a r A = asked_eq a r _ (asked_by plan links n t p) A (λ u q b l.
      ap (λ (m : ℕ). ltb b m && (eqb q p && eqb (tables-specs.Sending.arrival_of s b % 16) (u % 16))) S.servers
      ∙ under (ltb b n) _ _ (λ e. rw (S.arrives b (ltb-true b n e), link_at links t (n + p) b)))

  module _ (by : List ℕ) (from : ℕ) where
    pub between_none : (a : List ℕ) → Asked a a (asked_between plan links n t by from from)
    unfolding asked_between
    between_none a = asked_none a _ (λ s q b. register-laws.Counting.none_up from _ (λ i l. rw (lt-leb from i l)))

    pub between_more : (a b c : List ℕ) (i : ℕ) → from ≤ i → Asked a b (asked_between plan links n t by from i) → Asked b c (asked_by plan links n t (get_or by i 0))
        → Asked a c (asked_between plan links n t by from (i + 1))
    unfolding asked_between any_up_to
    between_more a b c i h A B = asked_eq a c _ _ (asked_trans a b c _ _ A B) (λ s q x l. rw (add-one i, le-leb from i h)
        (or_comm (any_up_to i (λ i. leb from i && asked_by plan links n t (get_or by i 0) s q x)) (asked_by plan links n t (get_or by i 0) s q x)))
