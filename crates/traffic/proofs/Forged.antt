-- The forged messages that arrive in a tick: by index; and those among them that the step rules deliver to a server, and that a read notes by its end.
-- It stands on Sums.
use mathlib.Core.Path.{◌≡◌, refl, sym, ap, ◌∙◌, fun_ext}
use mathlib.Core.Bool.{Bool, true, false, ◌&&◌, cond, and-true, and-false, and_assoc, and_comm}
use mathlib.Core.List.{List, [], ◌∷◌, map}
use Prim.Native.Nat.{ℕ, suc, ◌+◌}
use native.Mathlib.Omega.{arith}
use native.Mathlib.Decide.{dec_le}
use lib.Dec.{eqb, leb}
use lib.ListN.{length, get_or, length-map}
use borrow.Author.Tests.{eqb-true, le-leb, lt-leb}
use Rattle.register.specs.Lists.{one_if, count, filter}
use Rattle.register.specs.Plan.{Plan, Read, Forgery, read_end}
use Rattle.register.specs.Server.{Claim, claim_of}
use Rattle.register.specs.Cluster.{forged_in}
use Rattle.register.specs.Reading.{forged_to}
use Rattle.register.proofs.Counting.{count_cong}
use Rattle.traffic.specs.Traffic.{sum, forged_arriving, forgeries_in}
use Rattle.traffic.proofs.Sums as sums

-- one test behind another
filter_both : {A : Type 0} (p q : A → Bool) (xs : List A) → filter p (filter q xs) ≡ filter (λ x. p x && q x) xs
unfolding filter
filter_both p q [] = refl
filter_both {A} p q (x ∷ xs) = go (q x) (p x) refl (filter_both p q xs)
  where
    go : (b c : Bool) → p x ≡ c → filter p (filter q xs) ≡ filter (λ x. p x && q x) xs
        → filter p (cond b (x ∷ filter q xs) (filter q xs)) ≡ cond (c && b) (x ∷ filter (λ x. p x && q x) xs) (filter (λ x. p x && q x) xs)
    go true true e ih = rw (e, ih)
    go true false e ih = rw (e, ih)
    go false c e ih = rw (ih, and-false c)

-- a number that stands for one of the first E + 1 ticks
count_by : (p : Bool) (a E : ℕ) → count (λ t. p && eqb a t) (suc E) ≡ one_if (p && leb a E)
count_by p a E =
    count_cong _ (λ t. eqb a t && p) (suc E) (λ t l. and_comm p (eqb a t))
    ∙ elim (dec_le a E) [
      | yes h ↦ sums.count_at (λ t. p) a (suc E) (omega arith) ∙ rw (le-leb a E h, and-true p)
      | no h ↦ sums.count_before (λ t. p) a (suc E) (omega arith) ∙ rw (lt-leb a E (omega arith), and-false p)
    ]

module _ (P : Plan) where
  -- the tick in which a forged message arrives
  abbrev pub arrives_in : Forgery → ℕ
  arrives_in g = g.at + P.delay g.at g.from g.to

  pub forgeries_counted : (t : ℕ) (d : Forgery) → forgeries_in P t ≡ count (λ e. eqb (arrives_in (get_or P.forged e d)) t) (length P.forged)
  unfolding forged_arriving
  forgeries_counted t d = sums.length_filter (λ g. eqb (arrives_in g) t) P.forged d

  -- the claim that a forged message makes
  abbrev claim : Forgery → Claim
  claim g = claim_of g.from g.pair

  -- the forged votes that the step rules deliver to server b in tick t
  pub votes_arrive : (t b : ℕ) → forged_in P t b ≡ map claim (filter (λ g. eqb g.to b) (forged_arriving P t))
  unfolding forged_in forged_arriving
  votes_arrive t b =
      ap (map claim) (ap (λ (p : Forgery → Bool). filter p P.forged) (fun_ext (λ g. on_link g (eqb g.to b) refl))
      ∙ sym (filter_both (λ g. eqb g.to b) (λ g. eqb (arrives_in g) t) P.forged))
    where
      on_link : (g : Forgery) (c : Bool) → eqb g.to b ≡ c → c && eqb (g.at + P.delay g.at g.from b) t ≡ c && eqb (arrives_in g) t
      on_link g true e = rw (eqb-true g.to b e)
      on_link g false e = refl

  -- the forged replies to a read that the step rules note: those to its reader, sent from its begin on, that arrive in the ticks up to its end
  module _ (r : Read) where
    abbrev meant : Forgery → Bool
    meant g = eqb g.to (P.n + r.reader) && leb r.begun g.at

    pub replies_arrive : (d : Forgery) → length (forged_to P r) ≡ sum (λ t. length (filter meant (forged_arriving P t))) (suc (read_end P r))
    unfolding forged_to forged_arriving
    replies_arrive d =
        length-map (filter _ P.forged) claim
        ∙ sums.length_filter _ P.forged d
        ∙ sums.count_sum _ (length P.forged)
        ∙ sums.sum_cong _ _ (length P.forged) (λ e l.
        let g : Forgery = get_or P.forged e d in
        ap one_if (sym (and_assoc (eqb g.to (P.n + r.reader)) (leb r.begun g.at) (leb (arrives_in g) (read_end P r))))
        ∙ sym (count_by (meant g) (arrives_in g) (read_end P r)))
        ∙ sym (sums.count_swap (λ t e. meant (get_or P.forged e d) && eqb (arrives_in (get_or P.forged e d)) t) (suc (read_end P r)) (length P.forged))
        ∙ sums.sum_cong _ _ (suc (read_end P r)) (λ t l.
        sym (ap length (filter_both meant (λ g. eqb (arrives_in g) t) P.forged) ∙ sums.length_filter _ P.forged d))
