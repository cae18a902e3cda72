-- Membership laws of the list functions: one way in and one way out for append, filter, any, map, flat, take and tab; and what an index
-- of a table, a map or an append gives. It stands on Logic.
use mathlib.Core.Path.{◌≡◌, refl, sym, ap, ◌∙◌}
use mathlib.Core.Bool.{Bool, true, false, ◌||◌, cond}
use mathlib.Core.Logic.{◌⊎◌, inl, inr}
use mathlib.Core.List.{List, [], ◌∷◌, ◌++◌, map}
use Prim.Native.Nat.{ℕ, zero, suc, ◌+◌, ◌-◌, ◌≤◌, ◌<◌, max}
use native.Mathlib.Nat.{add-zero}
use native.Mathlib.Omega.{arith}
use native.Mathlib.Decide.{ℕ_discrete}
use lib.Dec.{T, eqb, eqb→eq, T_not}
use lib.ListN.{get_or, set, take, drop, length, length-drop, replicate}
use lib.Seq.{take_all, drop-cons, set_at, take-suc, append_snoc, length-take-le}
use Rattle.register.specs.Lists.{tab_from, tab, flat, any, filter, In, member, distinct, highest, same_list}
use Rattle.register.proofs.Logic.{and_l, and_r, or_e, or_l, or_r, cond_e, max_cases}

module _ {A : Type 0} where
  -- the part of a list from a place on, cut to its length: how a callee has it
  pub part_from : (a : ℕ) (s : List A) → take (length s - a) (drop a s) ≡ drop a s
  part_from a s = take_all (length s - a) (drop a s) (rw length-drop (omega arith))

  -- a turn of a loop that copies a list over the start of another
  pub copy_more : (s d : List A) (i : ℕ) (x : A) → i < length s → i < length d → set (take i s ++ drop i d) i (get_or s i x) ≡ take (suc i) s ++ drop (suc i) d
  copy_more s d i x h k =
      rw (drop-cons d i x k)
      (set_at (take i s) (get_or d i x) (drop (suc i) d) (get_or s i x) i (length-take-le i s (omega arith))
      ∙ sym (append_snoc (take i s) (get_or s i x) (drop (suc i) d))
      ∙ ap (λ (r : List A). r ++ drop (suc i) d) (sym (take-suc s i x h)))

  pub in_append : (x : A) (l m : List A) → In x (l ++ m) → In x l ⊎ In x m
  in_append x [] m i = inr i
  in_append x (y ∷ l) m (inl e) = inl (inl e)
  in_append x (y ∷ l) m (inr i) = elim (in_append x l m i) [ inl a ↦ inl (inr a) | inr b ↦ inr b ]

  pub in_left : (x : A) (l m : List A) → In x l → In x (l ++ m)
  in_left x [] m i = absurd i
  in_left x (y ∷ l) m (inl e) = inl e
  in_left x (y ∷ l) m (inr i) = inr (in_left x l m i)

  pub in_right : (x : A) (l m : List A) → In x m → In x (l ++ m)
  in_right x [] m i = i
  in_right x (y ∷ l) m i = inr (in_right x l m i)

  pub in_filter : (p : A → Bool) (x : A) (l : List A) → In x (filter p l) → In x l × T (p x)
  unfolding filter
  in_filter p x [] i = absurd i
  in_filter p x (y ∷ l) i = go (p y) refl i (in_filter p x l)
    where
      go : (b : Bool) → p y ≡ b → In x (cond b (y ∷ filter p l) (filter p l)) → (In x (filter p l) → In x l × T (p x))
          → In x (y ∷ l) × T (p x)
      go true e (inl h) ih = (inl h, rw (h, e) tt)
      go true e (inr h) ih = (inr (ih h).0, (ih h).1)
      go false e h ih = (inr (ih h).0, (ih h).1)

  pub filter_in : (p : A → Bool) (x : A) (l : List A) → In x l → T (p x) → In x (filter p l)
  unfolding filter
  filter_in p x [] i t = absurd i
  filter_in p x (y ∷ l) (inl e) t =
      cond_e (λ (m : List A). In x m) (p y) (y ∷ filter p l) (filter p l) (λ u. inl e) (λ u. absurd (T_not (p y) u (rw e at t)))
  filter_in p x (y ∷ l) (inr i) t =
      cond_e (λ (m : List A). In x m) (p y) (y ∷ filter p l) (filter p l) (λ u. inr (filter_in p x l i t)) (λ u. filter_in p x l i t)

  pub any_in : (p : A → Bool) (l : List A) → T (any p l) → (x : A) × In x l × T (p x)
  unfolding any
  any_in p [] t = absurd t
  any_in p (y ∷ l) t = go (or_e (p y) (any p l) t) (any_in p l)
    where
      go : T (p y) ⊎ T (any p l) → (T (any p l) → (x : A) × In x l × T (p x)) → (x : A) × In x (y ∷ l) × T (p x)
      go (inl h) ih = (y, inl refl, h)
      go (inr h) ih = let r = ih h in (r.0, inr r.1, r.2)

  pub in_any : (p : A → Bool) (x : A) (l : List A) → In x l → T (p x) → T (any p l)
  unfolding any
  in_any p x [] i t = absurd i
  in_any p x (y ∷ l) (inl e) t = or_l (p y) (any p l) (rw e at t)
  in_any p x (y ∷ l) (inr i) t = or_r (p y) (any p l) (in_any p x l i t)

  pub any_append : (p : A → Bool) (l m : List A) → any p (l ++ m) ≡ any p l || any p m
  unfolding any
  any_append p [] m = refl
  any_append p (y ∷ l) m = go (p y) (any_append p l m)
    where
      go : (b : Bool) → any p (l ++ m) ≡ any p l || any p m → b || any p (l ++ m) ≡ (b || any p l) || any p m
      go true e = refl
      go false e = e

  pub in_flat : (x : A) (n : ℕ) (g : ℕ → List A) → In x (flat n g) → (i : ℕ) × (i < n) × In x (g i)
  unfolding flat
  in_flat x zero g h = absurd h
  in_flat x (suc n) g h = go (in_append x (flat n g) (g n) h) (in_flat x n g)
    where
      go : In x (flat n g) ⊎ In x (g n) → (In x (flat n g) → (i : ℕ) × (i < n) × In x (g i)) → (i : ℕ) × (i < suc n) × In x (g i)
      go (inr u) ih = (n, omega arith, u)
      go (inl u) ih = let r = ih u in (r.0, omega arith, r.2)

  pub flat_in : (x : A) (n : ℕ) (g : ℕ → List A) (i : ℕ) → i < n → In x (g i) → In x (flat n g)
  unfolding flat
  flat_in x zero g i u h = absurd (omega arith)
  flat_in x (suc n) g i u h = go (ℕ_discrete i n) (λ v. flat_in x n g i v h)
    where
      go : Dec (i ≡ n) → (i < n → In x (flat n g)) → In x (flat n g ++ g n)
      go (yes e) ih = in_right x (flat n g) (g n) (rw e at h)
      go (no d) ih = in_left x (flat n g) (g n) (ih (omega arith))

  pub in_take : (x : A) (k : ℕ) (l : List A) → In x (take k l) → In x l
  in_take x zero l i = absurd i
  in_take x (suc k) [] i = absurd i
  in_take x (suc k) (y ∷ l) (inl e) = inl e
  in_take x (suc k) (y ∷ l) (inr i) = inr (in_take x k l i)

  pub length_tab_from : (a n : ℕ) (g : ℕ → A) → length (tab_from a n g) ≡ n
  unfolding tab_from
  length_tab_from a zero g = refl
  length_tab_from a (suc n) g = ap suc (length_tab_from (suc a) n g)

  pub get_d_tab_from : (a n : ℕ) (g : ℕ → A) (i : ℕ) (d : A) → i < n → get_or (tab_from a n g) i d ≡ g (a + i)
  unfolding tab_from
  get_d_tab_from a zero g i d l = absurd (omega arith)
  get_d_tab_from a (suc n) g zero d l = rw add-zero
  get_d_tab_from a (suc n) g (suc i) d l = rw (get_d_tab_from (suc a) n g i d (omega arith)) (ap g (omega arith))

  pub get_d_tab : (n : ℕ) (g : ℕ → A) (i : ℕ) (d : A) → i < n → get_or (tab n g) i d ≡ g i
  get_d_tab n g i d l = rw (get_d_tab_from 0 n g i d l) (ap g (omega arith))

  pub in_tab_from : (x : A) (a n : ℕ) (g : ℕ → A) → In x (tab_from a n g) → (i : ℕ) × (i < a + n) × (x ≡ g i)
  unfolding tab_from
  in_tab_from x a zero g h = absurd h
  in_tab_from x a (suc n) g (inl e) = (a, omega arith, e)
  in_tab_from x a (suc n) g (inr h) = let r = in_tab_from x (suc a) n g h in (r.0, omega arith, r.2)

  -- a table grows at its end
  pub tab_last : (a n : ℕ) (g : ℕ → A) → tab_from a (suc n) g ≡ tab_from a n g ++ (g (a + n) ∷ [])
  unfolding tab_from
  tab_last a zero g = rw add-zero
  tab_last a (suc n) g = let e : suc a + n ≡ a + suc n = omega arith in ap (λ (l : List A). g a ∷ l) (rw e at (tab_last (suc a) n g))

  -- a table of one value has it at every place
  pub get_d_replicate_same : (k j : ℕ) (d : A) → get_or (replicate k d) j d ≡ d
  get_d_replicate_same zero j d = refl
  get_d_replicate_same (suc k) zero d = refl
  get_d_replicate_same (suc k) (suc j) d = get_d_replicate_same k j d

  -- what holds of all elements and of the default holds at every index
  pub get_d_all : (Q : A → Type 0) (l : List A) (d : A) → ((x : A) → In x l → Q x) → Q d → (i : ℕ) → Q (get_or l i d)
  get_d_all Q [] d f q i = q
  get_d_all Q (y ∷ l) d f q zero = f y (inl refl)
  get_d_all Q (y ∷ l) d f q (suc i) = get_d_all Q l d (λ x h. f x (inr h)) q i

  -- what holds at every index of two lists holds at every index of the two in a row
  pub get_d_append_all : (Q : A → Type 0) (l m : List A) (d : A) → ((i : ℕ) → Q (get_or l i d)) → ((i : ℕ) → Q (get_or m i d)) → (i : ℕ)
      → Q (get_or (l ++ m) i d)
  get_d_append_all Q [] m d f g i = g i
  get_d_append_all Q (y ∷ l) m d f g zero = f zero
  get_d_append_all Q (y ∷ l) m d f g (suc i) = get_d_append_all Q l m d (λ j. f (suc j)) g i

module _ {A B : Type 0} where
  pub in_map : (f : A → B) (y : B) (l : List A) → In y (map f l) → (x : A) × In x l × (y ≡ f x)
  in_map f y [] i = absurd i
  in_map f y (x ∷ l) (inl e) = (x, inl refl, e)
  in_map f y (x ∷ l) (inr i) = let r = in_map f y l i in (r.0, inr r.1, r.2)

  pub map_in : (f : A → B) (x : A) (l : List A) → In x l → In (f x) (map f l)
  map_in f x [] i = absurd i
  map_in f x (y ∷ l) (inl e) = inl (ap f e)
  map_in f x (y ∷ l) (inr i) = inr (map_in f x l i)

-- equal tests for same_list are equal lists
pub same_list_eq : (xs ys : List ℕ) → T (same_list xs ys) → xs ≡ ys
unfolding same_list
same_list_eq [] [] t = refl
same_list_eq [] (y ∷ ys) t = absurd t
same_list_eq (x ∷ xs) [] t = absurd t
same_list_eq (x ∷ xs) (y ∷ ys) t =
    let e = eqb→eq x y (and_l (eqb x y) (same_list xs ys) t) in
    let d = same_list_eq xs ys (and_r (eqb x y) (same_list xs ys) t) in
    cc

-- the highest: one of them, and no lower than any
pub highest_in : (p : ℕ) (qs : List ℕ) → (highest p qs ≡ p) ⊎ In (highest p qs) qs
unfolding highest
highest_in p [] = inl refl
highest_in p (q ∷ qs) = go (highest_in (max p q) qs) (max_cases p q)
  where
    go : (highest (max p q) qs ≡ max p q) ⊎ In (highest (max p q) qs) qs → (max p q ≡ p) ⊎ (max p q ≡ q)
        → (highest (max p q) qs ≡ p) ⊎ In (highest (max p q) qs) (q ∷ qs)
    go (inl e) (inl d) = inl (e ∙ d)
    go (inl e) (inr d) = inr (inl (e ∙ d))
    go (inr i) d = inr (inr i)

pub highest_le : (p : ℕ) (qs : List ℕ) → p ≤ highest p qs
unfolding highest
highest_le p [] = omega arith
highest_le p (q ∷ qs) = omega (arith, highest_le (max p q) qs)

pub highest_all : (p : ℕ) (qs : List ℕ) (x : ℕ) → In x qs → x ≤ highest p qs
unfolding highest
highest_all p [] x i = absurd i
highest_all p (q ∷ qs) x (inl e) = omega (arith, highest_le (max p q) qs)
highest_all p (q ∷ qs) x (inr i) = highest_all (max p q) qs x i

-- each element once: the same members
pub in_distinct : (x : ℕ) (l : List ℕ) → In x l → In x (distinct l)
unfolding distinct
in_distinct x [] i = absurd i
in_distinct x (y ∷ l) (inl e) = go (member y (distinct l)) refl
  where
    go : (b : Bool) → member y (distinct l) ≡ b → In x (cond b (distinct l) (y ∷ distinct l))
    go true q = let r = any_in (λ z. eqb z y) (distinct l) (rw q tt) in rw (e ∙ sym (eqb→eq r.0 y r.2)) r.1
    go false q = inl e
in_distinct x (y ∷ l) (inr i) =
    cond_e (λ (m : List ℕ). In x m) (member y (distinct l)) (distinct l) (y ∷ distinct l) (λ t. in_distinct x l i)
    (λ t. inr (in_distinct x l i))
