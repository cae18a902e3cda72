-- Taking in depends only on the set of candidates, so the engine may take in the WRITE's pair first and then the known pairs by number.
-- It stands on register's laws of stores.
use mathlib.Core.Path.{◌≡◌, refl, sym, ap, subst, ◌∙◌}
use mathlib.Core.Bool.{Bool, true, false, ◌||◌, cond}
use mathlib.Core.Logic.{inl, inr}
use mathlib.Core.List.{List, [], ◌∷◌, ◌++◌, map}
use Prim.Native.Nat.{ℕ, zero, suc, ◌≤◌, ◌<◌}
use native.Mathlib.Omega.{arith}
use native.Mathlib.Decide.{dec_le}
use lib.Dec.{T, ltb, eqb, eqb→eq, eqb_refl}
use lib.ListN.{length, take, length-take, length-map}
use lib.Seq.{take-take, take_all}
use borrow.Author.Tests.{lt-ltb, le-ltb}
use Rattle.register.specs.Lists.{In, flat}
use Rattle.register.specs.Server.{insert, insert_all, take_in}
use Rattle.register.proofs.Logic.{or_e, or_l, or_r, T_eq}
use Rattle.register.proofs.Lists.{in_flat, flat_in}
use Rattle.register.proofs.Rising.{take_map, insert_map}
use Rattle.register.proofs.Stores.{Falling, in_insert_all, falling_insert_all, insert_all_in}
use Rattle.plan.specs.Packed.{store_depth}
use Rattle.serving.specs.Stages.{taken}
use Rattle.serving.proofs.Settled.{put_cut}

-- two falling lists with the same members are equal
falling_ext : (l m : List ℕ) → Falling l → Falling m → ((q : ℕ) → In q l → In q m) → ((q : ℕ) → In q m → In q l) → l ≡ m
falling_ext [] [] d e f g = refl
falling_ext [] (y ∷ m) d e f g = absurd (g y (inl refl))
falling_ext (x ∷ l) [] d e f g = absurd (f x (inl refl))
falling_ext (x ∷ l) (y ∷ m) d e f g =
    let h : x ≡ y = elim (f x (inl refl)) [
      | inl a ↦ a
      | inr a ↦ elim (g y (inl refl)) [ inl b ↦ sym b | inr b ↦ absurd (omega (arith, e.0 x a, d.0 y b)) ]
    ] in
    rw h (ap (λ (k : List ℕ). y ∷ k) (falling_ext l m d.1 e.1
    (λ q i. elim (f q (inr i)) [ inl a ↦ absurd (omega (arith, d.0 q i)) | inr a ↦ a ])
    (λ q i. elim (g q (inr i)) [ inl a ↦ absurd (omega (arith, e.0 q i)) | inr a ↦ a ])))

-- what is cut off does not matter for what is put in later
take_insert_all : (k : ℕ) (ps l : List ℕ) → take k (insert_all ps (take k l)) ≡ take k (insert_all ps l)
unfolding insert_all
take_insert_all k [] l = take-take k k l (omega arith)
take_insert_all k (p ∷ ps) l = sym (take_insert_all k ps (insert p (take k l))) ∙ rw (put_cut k p l) (take_insert_all k ps (insert p l))

-- taking in depends only on the set of candidates
take_in_set : (k : ℕ) (ps qs l : List ℕ) → Falling l → ((q : ℕ) → In q ps → In q qs) → ((q : ℕ) → In q qs → In q ps) → take_in k ps l ≡ take_in k qs l
unfolding take_in
take_in_set k ps qs l d f g =
    ap (take k) (falling_ext (insert_all ps l) (insert_all qs l) (falling_insert_all ps l d) (falling_insert_all qs l d) (to ps qs f) (to qs ps g))
  where
    to : (a b : List ℕ) → ((q : ℕ) → In q a → In q b) → (q : ℕ) → In q (insert_all a l) → In q (insert_all b l)
    to a b f q i = insert_all_in q b l (elim (in_insert_all q a l i) [ inl x ↦ inl (f q x) | inr y ↦ inr y ])

-- ---- by number

-- the pairs 0 .. m - 1 that pass
abbrev picked : (ℕ → Bool) → (ℕ → ℕ) → ℕ → List ℕ
picked c g m = flat m (λ j. cond (c j) (g j ∷ []) [])

all_append : (a b l : List ℕ) → insert_all (a ++ b) l ≡ insert_all b (insert_all a l)
unfolding insert_all
all_append [] b l = refl
all_append (x ∷ a) b l = all_append a b (insert x l)

picked_in : (c : ℕ → Bool) (g : ℕ → ℕ) (m j : ℕ) → j < m → T (c j) → In (g j) (picked c g m)
picked_in c g m j h t = flat_in (g j) m (λ j. cond (c j) (g j ∷ []) []) j h (rw (T_eq (c j) t) (inl refl))

in_picked : (c : ℕ → Bool) (g : ℕ → ℕ) (m q : ℕ) → In q (picked c g m) → (j : ℕ) × (j < m) × T (c j) × (q ≡ g j)
in_picked c g m q i = let (j, h, k) = in_flat q m (λ j. cond (c j) (g j ∷ []) []) i in let (t, e) = one j (c j) k in (j, h, t, e)
  where
    one : (j : ℕ) (b : Bool) → In q (cond b (g j ∷ []) []) → T b × (q ≡ g j)
    one j true (inl h) = (tt, h)
    one j true (inr h) = absurd h
    one j false h = absurd h

-- ---- the engine's stores have the numbers of known pairs, pair j is g j

module _ (g : ℕ → ℕ) (rising : (i j : ℕ) → i < j → g i < g j) where
  put-number : (j : ℕ) (l : List ℕ) → map g (take store_depth (insert j l)) ≡ take store_depth (insert (g j) (map g l))
  put-number j l = rw (insert_map g rising j l, take_map g store_depth (insert j l))

  taken-picked : (c : ℕ → Bool) (m : ℕ) (l : List ℕ) → length l ≤ store_depth → map g (taken c m l) ≡ take_in store_depth (picked c g m) (map g l)
  unfolding taken flat take_in insert_all
  taken-picked c zero l h = sym (take_all store_depth (map g l) (rw (length-map l g) h))
  taken-picked c (suc j) l h = rw (all_append (picked c g j) (cond (c j) (g j ∷ []) []) (map g l)) (go (c j) (taken-picked c j l h))
    where
      go : (b : Bool) → map g (taken c j l) ≡ take store_depth (insert_all (picked c g j) (map g l))
          → map g (cond b (take store_depth (insert j (taken c j l))) (taken c j l)) ≡ take store_depth (insert_all (cond b (g j ∷ []) []) (insert_all (picked c g j) (map g l)))
      go true e = put-number j (taken c j l) ∙ rw e (put_cut store_depth (g j) (insert_all (picked c g j) (map g l)))
      go false e = e

  -- the WRITE's pair first, then the others by number, is taking in, for the same set
  pub by_number : (c : ℕ → Bool) (m w : ℕ) (ps l : List ℕ) → Falling (map g l) → length l ≤ store_depth
      → ((q : ℕ) → In q ps → (j : ℕ) × (j < m) × T (eqb j w || c j) × (q ≡ g j)) → ((j : ℕ) → j < m → T (eqb j w || c j) → In (g j) ps)
      → take_in store_depth ps (map g l) ≡ map g (taken c m (cond (ltb w m) (take store_depth (insert w l)) l))
  unfolding take_in insert_all
  by_number c m w ps l d h f k = elim (dec_le m w) [
    | yes e ↦ rw (le-ltb w m e)
        (take_in_set store_depth ps (picked c g m) (map g l) d
        (λ q i. let (j, a, y, z) = f q i in elim (or_e (eqb j w) (c j) y) [ inl x ↦ absurd (omega (arith, eqb→eq j w x)) | inr x ↦ rw z (picked_in c g m j a x) ])
        others
        ∙ sym (taken-picked c m l h))
    | no e ↦ rw (lt-ltb w m (omega arith))
        (take_in_set store_depth ps (g w ∷ picked c g m) (map g l) d
        (λ q i. let (j, a, y, z) = f q i in elim (or_e (eqb j w) (c j) y) [ inl x ↦ inl (z ∙ ap g (eqb→eq j w x)) | inr x ↦ inr (subst (λ (y : ℕ). In y (picked c g m)) (sym z) (picked_in c g m j a x)) ])
        (λ q i. elim i [ inl x ↦ rw x (k w (omega arith) (or_l (eqb w w) (c w) (eqb_refl w))) | inr x ↦ others q x ])
        ∙ sym (taken-picked c m (take store_depth (insert w l)) (omega (arith, length-take store_depth (insert w l)))
        ∙ ap (take_in store_depth (picked c g m)) (put-number w l) ∙ take_insert_all store_depth (picked c g m) (insert (g w) (map g l))))
  ]
    where
      others : (q : ℕ) → In q (picked c g m) → In q ps
      others q i = let (j, a, y, z) = in_picked c g m q i in rw z (k j a (or_r (eqb j w) (c j) y))
