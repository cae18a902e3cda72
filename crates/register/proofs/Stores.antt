-- Stores: falling lists without repeats. What is taken in comes from the pairs given or was kept; a falling list stays one; and a pair
-- stays among the first k unless k of them stand above it. It stands on Lists.
use mathlib.Core.Path.{◌≡◌, refl, sym, ap, ◌∙◌}
use mathlib.Core.Bool.{Bool, true, false, not, cond}
use mathlib.Core.Logic.{◌⊎◌, inl, inr, ◌≢◌}
use mathlib.Core.List.{List, [], ◌∷◌}
use Prim.Native.Nat.{ℕ, zero, suc, ◌≤◌, ◌<◌}
use native.Mathlib.Omega.{arith}
use lib.Dec.{T, ltb, eqb, eqb→eq, eqb_refl, ltb→lt, lt→ltb, nltb→le, T_not, not_T}
use lib.ListN.{take, length}
use Rattle.register.specs.Lists.{filter, In}
use Rattle.register.specs.Server.{insert, insert_all, take_in}
use Rattle.register.proofs.Logic.{cond_e, cond_f}
use Rattle.register.proofs.Lists.{filter_in, in_take}

-- a falling list
abbrev pub Falling : List ℕ → Type 0
Falling [] = Unit {0}
Falling (x ∷ l) = ((q : ℕ) → In q l → q < x) × Falling l

pub in_insert : (p q : ℕ) (l : List ℕ) → In q (insert p l) → (q ≡ p) ⊎ In q l
unfolding insert
in_insert p q [] (inl e) = inl e
in_insert p q [] (inr i) = absurd i
in_insert p q (x ∷ l) i =
    go (ltb x p) (eqb x p) i (in_insert p q l)
  where
    go : (a b : Bool) → In q (cond a (p ∷ x ∷ l) (cond b (x ∷ l) (x ∷ insert p l))) → (In q (insert p l) → (q ≡ p) ⊎ In q l)
        → (q ≡ p) ⊎ In q (x ∷ l)
    go true b (inl h) ih = inl h
    go true b (inr h) ih = inr h
    go false true h ih = inr h
    go false false (inl h) ih = inr (inl h)
    go false false (inr h) ih = elim (ih h) [ inl e ↦ inl e | inr k ↦ inr (inr k) ]

pub in_insert_all : (q : ℕ) (ps l : List ℕ) → In q (insert_all ps l) → In q ps ⊎ In q l
unfolding insert_all
in_insert_all q [] l i = inr i
in_insert_all q (p ∷ ps) l i = go (in_insert_all q ps (insert p l) i)
  where
    last_reset : (q ≡ p) ⊎ In q l → In q (p ∷ ps) ⊎ In q l
    last_reset (inl e) = inl (inl e)
    last_reset (inr h) = inr h

    go : In q ps ⊎ In q (insert p l) → In q (p ∷ ps) ⊎ In q l
    go (inl h) = inl (inr h)
    go (inr h) = last_reset (in_insert p q l h)

pub in_take_in : (q depth : ℕ) (ps l : List ℕ) → In q (take_in depth ps l) → In q ps ⊎ In q l
unfolding take_in
in_take_in q depth ps l i = in_insert_all q ps l (in_take q depth (insert_all ps l) i)

pub falling_insert : (p : ℕ) (l : List ℕ) → Falling l → Falling (insert p l)
unfolding insert
falling_insert p [] d = (λ q i. absurd i, tt)
falling_insert p (x ∷ l) d = go (ltb x p) (eqb x p) refl refl (falling_insert p l d.1)
  where
    less : (q : ℕ) → x < p → In q (x ∷ l) → q < p
    less q h (inl e) = omega arith
    less q h (inr i) = omega (arith, d.0 q i)

    less' : (q : ℕ) → p < x → In q (insert p l) → q < x
    less' q h i = elim (in_insert p q l i) [ inl e ↦ omega arith | inr k ↦ d.0 q k ]

    go : (a b : Bool) → ltb x p ≡ a → eqb x p ≡ b → Falling (insert p l) → Falling (cond a (p ∷ x ∷ l) (cond b (x ∷ l) (x ∷ insert p l)))
    go true b e f ih = (λ q i. less q (ltb→lt x p (rw e tt)) i, d)
    go false true e f ih = d
    go false false e f ih =
        let u : p ≤ x = nltb→le x p (rw e tt) in
        let v : x ≢ p = (λ h. T_not (eqb x p) (rw f tt) (rw h (eqb_refl p))) in
        (λ q i. less' q (omega arith) i, ih)

pub falling_take : (k : ℕ) (l : List ℕ) → Falling l → Falling (take k l)
falling_take zero l d = tt
falling_take (suc k) [] d = tt
falling_take (suc k) (x ∷ l) d = (λ q i. d.0 q (in_take q k l i), falling_take k l d.1)

pub falling_insert_all : (ps l : List ℕ) → Falling l → Falling (insert_all ps l)
unfolding insert_all
falling_insert_all [] l d = d
falling_insert_all (p ∷ ps) l d = falling_insert_all ps (insert p l) (falling_insert p l d)

pub falling_take_in : (depth : ℕ) (ps l : List ℕ) → Falling l → Falling (take_in depth ps l)
unfolding take_in
falling_take_in depth ps l d = falling_take depth (insert_all ps l) (falling_insert_all ps l d)

pub insert_in : (x p : ℕ) (l : List ℕ) → (p ≡ x) ⊎ In p l → In p (insert x l)
unfolding insert
insert_in x p [] (inl e) = inl e
insert_in x p [] (inr i) = absurd i
insert_in x p (y ∷ l) h = go (ltb y x) (eqb y x) refl h (insert_in x p l)
  where
    go : (a b : Bool) → eqb y x ≡ b → (p ≡ x) ⊎ In p (y ∷ l) → ((p ≡ x) ⊎ In p l → In p (insert x l))
        → In p (cond a (x ∷ y ∷ l) (cond b (y ∷ l) (y ∷ insert x l)))
    go true b e (inl k) ih = inl k
    go true b e (inr k) ih = inr k
    go false true e (inl k) ih = inl (k ∙ sym (eqb→eq y x (rw e tt)))
    go false true e (inr k) ih = k
    go false false e (inl k) ih = inr (ih (inl k))
    go false false e (inr (inl k)) ih = inl k
    go false false e (inr (inr k)) ih = inr (ih (inr k))

pub insert_all_in : (q : ℕ) (ps l : List ℕ) → In q ps ⊎ In q l → In q (insert_all ps l)
unfolding insert_all
insert_all_in q [] l (inl i) = absurd i
insert_all_in q [] l (inr i) = i
insert_all_in q (p ∷ ps) l (inl (inl e)) = insert_all_in q ps (insert p l) (inr (insert_in p q l (inl e)))
insert_all_in q (p ∷ ps) l (inl (inr i)) = insert_all_in q ps (insert p l) (inl i)
insert_all_in q (p ∷ ps) l (inr i) = insert_all_in q ps (insert p l) (inr (insert_in p q l (inr i)))

-- a pair of a falling list is among its first k, or those are k pairs above it
pub first_or_above : (p k : ℕ) (l : List ℕ) → Falling l → In p l
    → In p (take k l) ⊎ ((length (take k l) ≡ k) × ((q : ℕ) → In q (take k l) → p < q))
first_or_above p zero l d i = inr (refl, λ q k. absurd k)
first_or_above p (suc k) [] d i = absurd i
first_or_above p (suc k) (x ∷ l) d (inl e) = inl (inl e)
first_or_above p (suc k) (x ∷ l) d (inr i) = go (first_or_above p k l d.1 i)
  where
    above : ((q : ℕ) → In q (take k l) → p < q) → (q : ℕ) → (q ≡ x) ⊎ In q (take k l) → p < q
    above f q (inl e) = rw e (d.0 p i)
    above f q (inr j) = f q j

    go : In p (take k l) ⊎ ((length (take k l) ≡ k) × ((q : ℕ) → In q (take k l) → p < q))
        → In p (x ∷ take k l) ⊎ ((length (x ∷ take k l) ≡ suc k) × ((q : ℕ) → In q (x ∷ take k l) → p < q))
    go (inl j) = inl (inr j)
    go (inr (e, f)) = inr (ap suc e, above f)

length_filter_le : (g : ℕ → Bool) (m : List ℕ) → length (filter g m) ≤ length m
unfolding filter
length_filter_le g [] = omega arith
length_filter_le g (y ∷ m) =
    cond_e (λ (l : List ℕ). length l ≤ suc (length m)) (g y) (y ∷ filter g m) (filter g m)
    (λ t. omega (arith, length_filter_le g m)) (λ t. omega (arith, length_filter_le g m))

length_filter_lt : (g : ℕ → Bool) (x : ℕ) (m : List ℕ) → T (not (g x)) → In x m → length (filter g m) < length m
unfolding filter
length_filter_lt g x [] n i = absurd i
length_filter_lt g x (y ∷ m) n (inl e) =
    let n' : T (not (g y)) = rw e at n in
    rw (cond_f (g y) (y ∷ filter g m) (filter g m) n') (omega (arith, length_filter_le g m))
length_filter_lt g x (y ∷ m) n (inr i) =
    cond_e (λ (l : List ℕ). length l < suc (length m)) (g y) (y ∷ filter g m) (filter g m)
    (λ t. omega (arith, length_filter_lt g x m n i)) (λ t. omega (arith, length_filter_lt g x m n i))

-- a falling list whose elements all stand in m is no longer than m
pub falling_length : (l m : List ℕ) → Falling l → ((q : ℕ) → In q l → In q m) → length l ≤ length m
falling_length [] m d f = omega arith
falling_length (x ∷ l) m d f =
    omega (
      arith,
      falling_length l (filter (λ y. ltb y x) m) d.1 (λ q i. filter_in (λ y. ltb y x) q m (f q (inr i)) (lt→ltb q x (d.0 q i))),
      length_filter_lt (λ y. ltb y x) x m (not_T (ltb x x) (λ t. let h = ltb→lt x x t in omega arith)) (f x (inl refl)),
    )
