-- The number of bytes that were read counts bytes of the buffer, and what follows a read is as the definition has it.
use mathlib.Core.Path.{◌≡◌, ◌∙◌, refl, sym, subst}
use mathlib.Core.List.{List}
use Prim.Native.Nat.{ℕ, zero, suc, ◌+◌, ◌-◌, ◌≤◌, ◌<◌}
use native.Mathlib.Omega.{arith}
use lib.ListN.{length}
use lib.Seq.{length-take-le}
use Rattle.std.specs.Prelude.{Result, Ok, Err}
use Rattle.std.specs.declared.io.Error.{Error}
use Rattle.std.specs.declared.ops.ControlFlow.{ControlFlow}
use Rattle.std.specs.declared.ops.ControlFlow.TheVariants.{Break, Continue}
use Rattle.input.specs.Taken.{IsPrefixLen, Moved, Within, next_of}

-- What comes after a read, by its two sides: reading stops with what it gave, or so many bytes are there and it goes on.
abbrev pub Next : Type 0
Next = Result (ControlFlow ℕ ℕ) Error

abbrev pub stop : Result ℕ Error → Next
stop (Ok n) = Ok (Break n)
stop (Err e) = Err e

abbrev pub go_on : ℕ → Next
go_on n = Ok (Continue n)

pub counted : (bytes : List ℕ) {t : Result ℕ Error} {n : ℕ} → t ≡ Ok n → Within t bytes → IsPrefixLen n bytes
counted bytes e = subst (λ (t : Result ℕ Error). Within t bytes) e

-- a read that failed, and one that moved so many bytes
pub failed : {got : Result ℕ Error} {e : Error} → got ≡ Err e → (done : ℕ) → stop (Err e) ≡ next_of got done
failed is done = rw is refl

module _ (got : Result ℕ Error) (n : ℕ) (is : got ≡ Ok n) where
  pub moved : (room : ℕ) → Moved room got → n ≤ room
  moved room m = subst (λ (r : Result ℕ Error). Moved room r) is m

  pub ended : (done : ℕ) → n ≡ 0 → stop (Ok done) ≡ next_of got done
  ended done e = rw (is, e) refl

  pub more : (done : ℕ) → (n ≡ 0 → ⊥) → go_on (done + n) ≡ next_of got done
  more done e = rw is (above n e)
    where
      above : (k : ℕ) → (k ≡ 0 → ⊥) → go_on (done + k) ≡ next_of (Ok k) done
      above zero e = absurd (e refl)
      above (suc k) e = refl

-- What stops reading lies within the buffer; where it goes on, there are more bytes than before and no more than fit.
abbrev pub Grown : ℕ → List ℕ → Next → Type 0
Grown done bytes (Err e) = Within (Err e) bytes
Grown done bytes (Ok (Break n)) = Within (Ok n) bytes
Grown done bytes (Ok (Continue n)) = (done < n) × (n ≤ length bytes)

grows : (got : Result ℕ Error) (done : ℕ) (bytes : List ℕ) → done ≤ length bytes → Moved (length bytes - done) got → Grown done bytes (next_of got done)
grows (Err e) done bytes l m = tt
grows (Ok zero) done bytes l m = (l, sym (length-take-le done bytes l))
grows (Ok (suc k)) done bytes l m = (omega arith, omega arith)

stopped_with : (done : ℕ) (bytes : List ℕ) (taken : Result ℕ Error) → Grown done bytes (stop taken) → Within taken bytes
stopped_with done bytes (Ok n) g = g
stopped_with done bytes (Err e) g = g

module _ (got : Result ℕ Error) (done : ℕ) (bytes : List ℕ) (l : done ≤ length bytes) (m : Moved (length bytes - done) got) {t : Next} (e : t ≡ next_of got done) where
  pub grown : {n : ℕ} → t ≡ go_on n → (done < n) × (n ≤ length bytes)
  grown f = subst (λ (t : Next). Grown done bytes t) (sym e ∙ f) (grows got done bytes l m)

  pub stopped : (taken : Result ℕ Error) → t ≡ stop taken → Within taken bytes
  stopped taken f = stopped_with done bytes taken (subst (λ (t : Next). Grown done bytes t) (sym e ∙ f) (grows got done bytes l m))
