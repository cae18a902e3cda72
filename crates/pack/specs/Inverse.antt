-- What packing is to Check and to reading a plan field by field (document 02, 'One'), in both directions.
use Rattle.std.specs.Prelude.{◌≡◌, List, ◌++◌, ℕ, ◌≤◌, length, drop}
use Rattle.bits.specs.Field.{Bytes}
use Rattle.plan.specs.Check.{result, check_of}
use Rattle.lists.specs.Lists.{Lists, reads_listed, lists_of, packed_plan}
use Rattle.pack.specs.Pack.{pack_of}

-- Lists that are packed: the plan passes Check with the reads that are listed, and 'read field by field, gives the lists it came from'.
pub record PacksWell (w : ℕ) (l : Lists) (m : ℕ) : Type 0 where
  pub bytes : m ≡ length (packed_plan w l)
  pub checked : check_of w (packed_plan w l) ≡ result (reads_listed w l)
  pub fields : lists_of w (packed_plan w l) ≡ l

-- An accepted plan: its lists are packed to it, given room, and 'each accepted plan is the only packing of its lists'.
pub record IsPacking (w : ℕ) (s : List ℕ) : Type 0 where
  pub packed : (out : List ℕ) → length s ≤ length out → pack_of w (lists_of w s) out ≡ record { outcome = result (length s); out = s ++ drop (length s) out }
  pub only : (t : List ℕ) (m : ℕ) → Bytes t → check_of w t ≡ result m → lists_of w t ≡ lists_of w s → t ≡ s
