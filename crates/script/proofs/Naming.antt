-- The forged entries name what the plan's forged messages name.
-- It stands on the laws of claims, and on what an entry says.
use mathlib.Core.Path.{◌≡◌, refl, ◌∙◌}
use mathlib.Core.Bool.{Bool, ◌&&◌}
use mathlib.Core.List.{List}
use Prim.Native.Nat.{ℕ, ◌^◌, ◌≤◌, ◌<◌}
use native.Mathlib.Omega.{arith}
use lib.Dec.{eqb, ltb, eqb→eq, eqb_refl}
use lib.ListN.{get_or}
use borrow.Author.Tests.{lt-ltb, eq-eqb}
use Rattle.register.specs.Lists.{tab, any, any_up_to}
use Rattle.register.specs.Plan.{Forgery, stamped, value_of, number_of}
use Rattle.register.proofs.Logic.{T_iff, and_r, eqb_comm}
use Rattle.register.proofs as register-laws
use Rattle.plan.specs.Header.{header_of}
use Rattle.plan.specs.Packed.{plan_of}
use Rattle.register.proofs.Stamped.{value_stamped, number_stamped, stamped_back}
use Rattle.tables.specs as tables-specs
use Rattle.refinement.specs.Way.{forged_as}
use Rattle.forging.specs.Entries.{entry_at, number_in, Entry}
use Rattle.tables.specs.Forged.{message_of, message_delay}
use Rattle.script.specs.Script.{message_number}
use Rattle.tables.proofs.Tables.{tab_in, taken}

-- one of the messages of a table passes a test
any_tab : (n : ℕ) (G : ℕ → Forgery) (F : Forgery → Bool) → any F (tab n G) ≡ any_up_to n (λ e. F (G e))
any_tab n G F = T_iff _ _
    (λ y.
    let (g, ig, fg) = register-laws.Lists.any_in F (tab n G) y in
    let (e, le, ee) = register-laws.Lists.in_tab_from g 0 n G ig in
    register-laws.Counting.any_up_to_i n (λ e. F (G e)) e (omega arith) (rw ee at fg))
    (λ y.
    let (e, l, t) = register-laws.Counting.any_up_to_e n (λ e. F (G e)) y in
    register-laws.Lists.in_any F (G e) (tab n G) (tab_in n G e l) t)

-- a pair is known by its number
module _ (w : ℕ) (values : List ℕ) (m : ℕ) (few : m ≤ 65) (small : (j : ℕ) → get_or values j 0 < 2 ^ w) where
  known-number : (p j : ℕ) → j < m → eqb p (stamped w (get_or values j 0) j) ≡ eqb j (number_in values m (value_of w p) (number_of w p))
  unfolding number_in
  known-number p j l = T_iff _ _
      (λ y.
      let e : p ≡ stamped w (get_or values j 0) j = eqb→eq p (stamped w (get_or values j 0) j) y in
      let v : value_of w p ≡ get_or values j 0 = rw e (value_stamped w (get_or values j 0) j (small j)) in
      let n : number_of w p ≡ j = rw e (number_stamped w (get_or values j 0) j (small j)) in
      rw (v, n, lt-ltb j m l, eq-eqb (get_or values j 0) (get_or values j 0) refl) (eqb_refl j))
      (λ y.
      let test : Bool = ltb (number_of w p) m && eqb (get_or values (number_of w p) 0) (value_of w p) in
      let (e, c) = taken j (number_of w p) test (omega arith) y in
      let v : get_or values (number_of w p) 0 ≡ value_of w p = eqb→eq (get_or values (number_of w p) 0) (value_of w p) (and_r (ltb (number_of w p) m) _ c) in
      rw (e, v, stamped_back w p) (eqb_refl p))

-- the entries of a plan's forged messages
module _ (w : ℕ) (s : List ℕ) (known : tables-specs.declared.Known.Known) (few : known.m ≤ 65) (small : (j : ℕ) → get_or known.values j 0 < 2 ^ w) (work : List ℕ)
    (E : (e : ℕ) → e < (header_of w s).forgeries → Entry work e (message_of w s e) (message_delay w s e) (message_number w s known.values known.m e)) where
  -- entry e was sent in tick t, goes to party q, arrives in tick u, names pair j and comes from server i
  abbrev pub entry_as : ℕ → ℕ → ℕ → ℕ → ℕ → ℕ → Bool
  entry_as t u q j i e =
      eqb (entry_at work e 0) t && (eqb (entry_at work e 2) q && (eqb (entry_at work e 1) u && (eqb j (entry_at work e 4) && eqb i (entry_at work e 3))))

  module _ (t u q j i : ℕ) (known-pair : j < known.m) where
    abbrev says : Forgery → Bool
    says x = eqb x.at t && forged_as (plan_of w s) u q (tables-specs.Known.pair_at w known j) i x

    says-entry : (e : ℕ) → e < (header_of w s).forgeries → says (message_of w s e) ≡ entry_as t u q j i e
    says-entry e l =
        rw (
          (E e l).sent,
          (E e l).arrival,
          (E e l).receiver,
          (E e l).sender,
          (E e l).known,
          eqb_comm (message_of w s e).from i,
          known-number w known.values known.m few small (message_of w s e).pair j known-pair,
        )

    pub messages_named : any says (plan_of w s).forged ≡ any_up_to (header_of w s).forgeries (entry_as t u q j i)
    unfolding plan_of
    messages_named = any_tab _ (message_of w s) says ∙ register-laws.Counting.any_cong _ _ (entry_as t u q j i) says-entry
