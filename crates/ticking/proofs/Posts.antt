-- The forged messages that the code posts in a tick are those that the plan lists for it.
-- It stands on Tables, Feeding, and the laws of scripts and of forging.
use mathlib.Core.{Path.◌≡◌, Path.◌∙◌, Path.ap, Bool.Bool, Bool.true, Bool.false, Bool.◌&&◌, Bool.and-false, List.List}
use Prim.Native.Nat.{ℕ, ◌+◌, ◌-◌, ◌≤◌, ◌<◌}
use native.Mathlib.{Omega.arith, Decide.dec_le}
use lib.Dec.{T, eqb, leb, ltb, eqb→eq, eqb_refl, leb→le, le→leb, lt→ltb}
use lib.ListN.{length, get_or}
use borrow.Author.Tests.{lt-leb}
use Rattle.register.specs.{Lists.any, Plan.Forgery}
use Rattle.register.proofs.{Logic.T_iff, Logic.and_l, Logic.and_r, Logic.and_i, Counting.any_up_to_e, Counting.any_up_to_i}
use Rattle.plan.specs.{Header.header_of, Packed.plan_of}
use Rattle.calendar.specs.Layout.{row_of}
use Rattle.requests.specs.Requests.{SameBehind}
use Rattle.refinement.specs.Way.{forged_as}
use Rattle.tables.specs.Known.{pair_at}
use Rattle.script.specs as script-specs
use Rattle.tables.specs as tables-specs
use Rattle.script.specs.Script.{width_in, Decoded}
use Rattle.forging.specs.Entries.{entries_end, entry_at, Entry, Starts}
use Rattle.script.proofs as script-laws
use Rattle.tables.proofs as tables-laws
use Rattle.forging.specs.Forging.{goes_to, forged_entry, SentIn, forges}
use Rattle.forging.proofs.Forgeries as forging-laws
use Rattle.ticking.proofs as ticking-laws

-- `between` is the workspace when they are posted, `ends` has the ends of the readers' reads
module _ (s : List ℕ) (r : script-specs.declared.Script.Script) (R : Decoded s r) (t : ℕ) (below : t < r.shape.ticks) (between : List ℕ) (again : SameBehind R.after between) (ends : List ℕ) where
  abbrev nf : ℕ
  nf = (header_of (width_in r) s).forgeries

  abbrev from : ℕ
  from = get_or r.starts t 0

  abbrev to : ℕ
  to = get_or r.starts (t + 1) 0

  abbrev pub posts : ℕ → ℕ → ℕ → Bool
  posts = forges ends r.rules.n between from to

  E : (e : ℕ) → e < nf → Entry between e (tables-specs.Forged.message_of (width_in r) s e) (tables-specs.Forged.message_delay (width_in r) s e) (script-specs.Script.message_number (width_in r) s r.writes.known.values r.writes.known.m e)
  E = script-laws.Fitting.entries_kept (width_in r) s R.after between r.writes.known.values r.writes.known.m again R.scripted.forged.filled.entry

  Z : Starts between nf r.starts
  Z = script-laws.Fitting.starts_kept (width_in r) s R.after between r.writes.known.values r.writes.known.m again r.starts R.scripted.forged.started

  few : t < 128
  few = script-laws.Feeding.few_ticks s r R t below

  to-few : to ≤ nf
  to-few = script-laws.Windows.start_few (width_in r) s R.playable between r.writes.known.values r.writes.known.m E r.starts Z (t + 1) (omega (arith, few))

  narrow : r.rules.n ≤ 16
  narrow = omega (arith, ticking-laws.Tables.servers_same s r R, ticking-laws.Tables.few_servers s r R)

  pub can_forge : entries_end ≤ length between → (r.rules.n ≤ 16) × (t < 128) × (entries_end ≤ length between) × SentIn between r.starts t
  can_forge room = (
    narrow,
    few,
    room,
    record {
      ordered = script-laws.Windows.starts_rise (width_in r) s R.playable between r.writes.known.values r.writes.known.m E r.starts Z t (t + 1) (omega arith) (omega (arith, few));
      few = omega (arith, to-few, (script-laws.Feeding.range s r R).forgeries_hi);
      senders = λ e l. rw (E e (omega (arith, to-few))).sender
          (omega (arith, tables-laws.Messages.sender_below (width_in r) s R.playable e (omega (arith, to-few)), (script-laws.Feeding.range s r R).n_hi));
    },
  )

  -- the entries of the range are those sent in this tick
  later : (u e : ℕ) → u < 129 → get_or r.starts u 0 ≤ e → e < nf → u ≤ entry_at between e 0
  later u e h a l = script-laws.Windows.sent_later (width_in r) s R.playable between r.writes.known.values r.writes.known.m E r.starts Z u h e a l

  earlier : (u e : ℕ) → u < 129 → e < get_or r.starts u 0 → entry_at between e 0 < u
  earlier u e h a = script-laws.Windows.sent_earlier (width_in r) s R.playable between r.writes.known.values r.writes.known.m E r.starts Z u h e a

  arrives : (e : ℕ) → e < nf → entry_at between e 0 ≡ t → (t < entry_at between e 1) × (entry_at between e 1 ≤ t + 15)
  arrives e l z =
      let a = script-laws.Windows.arrives_after (width_in r) s R.playable between r.writes.known.values r.writes.known.m E r.starts Z e l in
      (omega (arith, a.0), omega (arith, a.1, (script-laws.Feeding.range s r R).delta_hi))

  from_below : (e : ℕ) → e < nf → entry_at between e 3 < (plan_of (width_in r) s).n
  unfolding plan_of
  from_below e l = rw (E e l).sender (tables-laws.Messages.sender_below (width_in r) s R.playable e l)

  -- what is posted in row x, and what the plan's list says of a receiver q, if what goes to the row goes to q in time
  module _ (x u j i q : ℕ) (known-pair : j < r.writes.known.m) (late : Bool)
      (goes : (e : ℕ) → e < nf → entry_at between e 0 ≡ t → T (goes_to ends r.rules.n (entry_at between e 2) (entry_at between e 1) x)
      → (entry_at between e 2 ≡ q) × (entry_at between e 1 ≡ u) × T late)
      (back : T late → T (goes_to ends r.rules.n q u x)) where
    abbrev entries : ℕ → Bool
    entries = script-laws.Naming.entry_as (width_in r) s r.writes.known R.scripted.writes.few R.scripted.writes.small between E t u q j i

    posts-are : posts x j i ≡ ltb i (plan_of (width_in r) s).n && (late && any (λ (y : Forgery). eqb y.at t && forged_as (plan_of (width_in r) s) u q (pair_at (width_in r) r.writes.known j) i y) (plan_of (width_in r) s).forged)
    posts-are =
        rw (script-laws.Naming.messages_named (width_in r) s r.writes.known R.scripted.writes.few R.scripted.writes.small between E t u q j i known-pair) (T_iff _ _
        (λ y.
        let (e, l, z) = any_up_to_e to (λ e. leb from e && forged_entry ends r.rules.n between e x j i) y in
        let lo = leb→le from e (search and_l) in
        let le : e < nf = omega (arith, to-few) in
        let sent : entry_at between e 0 ≡ t = omega (arith, later t e (omega (arith, few)) lo le, earlier (t + 1) e (omega (arith, few)) l) in
        let (eq, eu, la) = goes e le sent (search (and_l, and_r)) in
        let ei : T (eqb i (entry_at between e 3)) = search (and_l, and_r) in
        let ej : T (eqb j (entry_at between e 4)) = search (and_l, and_r) in
        and_i (ltb i (plan_of (width_in r) s).n) _ (lt→ltb i (plan_of (width_in r) s).n (rw (eqb→eq i (entry_at between e 3) ei) (from_below e le)))
        (and_i late _ la (any_up_to_i nf entries e le
        (and_i (eqb (entry_at between e 0) t) _ (rw sent (eqb_refl t))
        (and_i (eqb (entry_at between e 2) q) _ (rw eq (eqb_refl q))
        (and_i (eqb (entry_at between e 1) u) _ (rw eu (eqb_refl u)) (and_i (eqb j (entry_at between e 4)) (eqb i (entry_at between e 3)) ej ei)))))))
        (λ y.
        let w = and_r (ltb i (plan_of (width_in r) s).n) _ y in
        let (e, l, z) = any_up_to_e nf entries (and_r late _ w) in
        let sent = eqb→eq (entry_at between e 0) t (search and_l) in
        let eq = eqb→eq (entry_at between e 2) q (search (and_l, and_r)) in
        let eu = eqb→eq (entry_at between e 1) u (search (and_l, and_r)) in
        let lo : from ≤ e = elim (dec_le from e) [ yes a ↦ a | no a ↦ absurd (omega (arith, earlier t e (omega (arith, few)) (omega arith))) ] in
        let hi : e < to = elim (dec_le to e) [ yes a ↦ absurd (omega (arith, later (t + 1) e (omega (arith, few)) a l)) | no a ↦ omega arith ] in
        any_up_to_i to (λ e. leb from e && forged_entry ends r.rules.n between e x j i) e hi
        (and_i (leb from e) _ (le→leb from e lo)
        (and_i (goes_to ends r.rules.n (entry_at between e 2) (entry_at between e 1) x) _ (rw (eq, eu) (back (and_l late _ w)))
        (and_i (eqb i (entry_at between e 3)) (eqb j (entry_at between e 4)) (search (and_l, and_r)) (search (and_l, and_r)))))))

  pub server_posts : (u b j i : ℕ) → t < u → u ≤ t + 16 → b < (plan_of (width_in r) s).n → j < r.writes.known.m
      → posts (row_of u b) j i ≡ ltb i (plan_of (width_in r) s).n && any (λ (y : Forgery). eqb y.at t && forged_as (plan_of (width_in r) s) u b (pair_at (width_in r) r.writes.known j) i y) (plan_of (width_in r) s).forged
  server_posts u b j i a z lb lj =
      let own : b < r.rules.n = omega (arith, ticking-laws.Tables.servers_same s r R) in
      posts-are (row_of u b) u j i b lj true
      (λ e le sent g.
      let (lo, hi) = arrives e le sent in
      let (eq, eu) = forging-laws.server_row ends r.rules.n t (entry_at between e 2) (entry_at between e 1) u narrow lo hi a z b own g in
      (eq, eu, tt))
      (λ y. forging-laws.row_server ends r.rules.n u b own)

  -- to a reader, what arrives by the end of its read
  pub reader_posts : (u j i y : ℕ) → t < u → u ≤ t + 16 → (1 ≤ y) × (y ≤ 4) → j < r.writes.known.m
      → posts (row_of u (15 + y)) j i ≡ ltb i (plan_of (width_in r) s).n
      && (leb u (get_or ends (y - 1) 0) && any (λ (x : Forgery). eqb x.at t && forged_as (plan_of (width_in r) s) u ((plan_of (width_in r) s).n + y) (pair_at (width_in r) r.writes.known j) i x) (plan_of (width_in r) s).forged)
  reader_posts u j i y a z (one, four) lj =
      let n = ticking-laws.Tables.servers_same s r R in
      posts-are (row_of u (15 + y)) u j i ((plan_of (width_in r) s).n + y) lj (leb u (get_or ends (y - 1) 0))
      (λ e le sent g.
      let (lo, hi) = arrives e le sent in
      let (eq, eu, by) = forging-laws.reader_row ends r.rules.n t (entry_at between e 2) (entry_at between e 1) u narrow lo hi a z y one four g in
      (eq ∙ ap (λ (k : ℕ). k + y) n, eu, le→leb u (get_or ends (y - 1) 0) by))
      (λ h. rw (← n) (forging-laws.row_reader ends r.rules.n u y one four (leb→le u (get_or ends (y - 1) 0) h)))

  pub reader_none : (u j i y : ℕ) → t < u → u ≤ t + 16 → (1 ≤ y) × (y ≤ 4) → j < r.writes.known.m → get_or ends (y - 1) 0 < u → posts (row_of u (15 + y)) j i ≡ false
  reader_none u j i y a z l lj h = reader_posts u j i y a z l lj ∙ rw (lt-leb u (get_or ends (y - 1) 0) h) (and-false (ltb i (plan_of (width_in r) s).n))
