-- Rows of the calendar that are empty or get emptied, and what a tick needs of the sizes once messages are posted.
-- It stands on the calendar's laws of clearing.
use mathlib.Core.{Path.◌≡◌, Path.refl, Path.◌∙◌, List.List}
use mathlib.Core.Bool.{false, not, ◌&&◌, not-eq-not}
use Prim.Native.Nat.{ℕ, ◌<◌}
use native.Mathlib.{Omega.arith, Decide.ℕ_discrete}
use lib.Dec.{eqb}
use borrow.Author.Tests.{eq-eqb, ne_eqb}
use Rattle.calendar.specs.Layout.{rows, high_of, sender}
use Rattle.limits.specs.Limits.{places}
use Rattle.calendar.specs.View.{SamePast, Spanned, Cleared}
use Rattle.calendar.proofs as calendar-laws
use Rattle.tables.specs.declared.Rules.{Rules}
use Rattle.tables.specs.declared.Links.{Links}
use Rattle.cluster.specs.Inputs.{Tickable}

-- what the calendar leaves alone stays so
pub past_same : (a : List ℕ) → SamePast a a
past_same a = record { size = refl; past = λ k l. refl }

pub past_trans : (a b c : List ℕ) → SamePast a b → SamePast b c → SamePast a c
past_trans a b c A B = record { size = B.size ∙ A.size; past = λ k l. B.past k l ∙ A.past k l }

-- all that arrives in a row is taken
pub record Emptied (work after : List ℕ) (row : ℕ) : Type 0 where
  pub rest : SamePast work after
  pub spans : Spanned after
  pub cells : (x j i : ℕ) → x < rows → j < places → sender after x j i ≡ (not (eqb x row) && sender work x j i)

module _ (work : List ℕ) (row : ℕ) (S : Spanned work) where
  pub emptied_now : (after : List ℕ) → Cleared work after row → Emptied work after row
  emptied_now after C = record {
    rest = C.rest;
    spans = calendar-laws.Spans.cleared_spanned work after row C S;
    cells = λ x j i h m. calendar-laws.Spans.cleared_cells work after row C S x j i h m;
  }

  -- nothing arrives in a row without a span
  pub empty_row : row < rows → high_of work row ≡ 0 → (j i : ℕ) → j < places → sender work row j i ≡ false
  empty_row l none j i m = (not-eq-not {b = false}).0 (λ e. omega (arith, (S.within row j i l m e).1))

  pub emptied_before : row < rows → high_of work row ≡ 0 → Emptied work work row
  emptied_before l none = record {
    rest = past_same work;
    spans = S;
    cells = λ x j i h m. elim (ℕ_discrete x row) [ yes e ↦ rw (e, eq-eqb row row refl) (empty_row l none j i m) | no d ↦ rw (ne_eqb x row d) ];
  }

-- the sizes stay
pub sized_after : (plan work after : List ℕ) (t : ℕ) (rules : Rules) (m : ℕ) (links : Links)
    → Tickable plan work t rules m links → SamePast work after → Spanned after → Tickable plan after t rules m links
sized_after plan work after t rules m links Z P S = record {
  room = omega (arith, Z.room, P.size);
  spans = S;
  tick = Z.tick;
  servers = Z.servers;
  delta = Z.delta;
  pairs = Z.pairs;
  echo = Z.echo;
  reply = Z.reply;
  same = Z.same;
  linked = Z.linked;
  delays = Z.delays;
}
