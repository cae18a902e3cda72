-- Replies to one read of one server that is not faulty from the read's begin to delta later: the READ arrives and stays pending, and once
-- the server is correct and keeps p, it has replied with p: a new READ, changed pairs and the end of a cure each make it reply. It stands
-- on Stages and Statuses.
use mathlib.Core.Path.{◌≡◌}
use mathlib.Core.Bool.{Bool, not}
use mathlib.Core.Logic.{◌⊎◌, inl, inr}
use Prim.Native.Nat.{ℕ, zero, suc, ◌+◌, ◌-◌, ◌≤◌, ◌<◌}
use native.Mathlib.Omega.{arith}
use lib.Dec.{T, eqb, eqb_refl}
use Rattle.register.specs.Lists.{In, same_list}
use Rattle.register.specs.Plan.{Read, Plan}
use Rattle.register.specs.Server.{is_faulty, is_correct}
use Rattle.register.specs.Cluster.{reads_in}
use Rattle.register.proofs.Logic.{test}
use Rattle.register.proofs.Lists.{in_left, in_right, filter_in, same_list_eq}
use Rattle.register.proofs.Good.{Good}
use Rattle.register.proofs.Placements.{FreeSince}
use Rattle.register.proofs.Trace.{before, mid}
use Rattle.register.proofs.Stages.{Cause, next_same, reply_is_kept, replies_to_lem, mid_lists}
use Rattle.register.proofs.Statuses.{not_faulty}

-- server b has sent a reply to the read that names p, after the read's begin and by tick u
abbrev pub RepliedBy : Plan → Read → ℕ → ℕ → ℕ → Type 0
RepliedBy P r b p u = (g : ℕ) × (r.begun < g) × (g ≤ u) × In r (mid P g b).sent.reply_to × In p (mid P g b).sent.reply_with

-- the tick in which READ arrives at server b
abbrev pub arrival_of : Plan → Read → ℕ → ℕ
arrival_of P r b = r.begun + P.delay r.begun (P.n + r.reader) b

module _ (P : Plan) (G : Good P) (r : Read) (ri : In r P.reads) (b : ℕ) (l : b < P.n) where
  abbrev arrival : ℕ
  arrival = arrival_of P r b

  pub arrival_lo : r.begun < arrival
  arrival_lo = omega (arith, G.delay_lo r.begun (P.n + r.reader) b)

  pub arrival_hi : arrival ≤ r.begun + P.delta
  arrival_hi = omega (arith, G.delay_hi r.begun (P.n + r.reader) b)

  pub read_arrives : In r (reads_in P arrival b)
  unfolding reads_in
  read_arrives =
      filter_in (λ (q : Read). eqb (q.begun + P.delay q.begun (P.n + q.reader) b) arrival) r P.reads ri (eqb_refl arrival)

  module _ (f : FreeSince P b r.begun (r.begun + P.delta)) where
    -- not faulty at the deliveries of the ticks from the one after the begin
    free-at : (x : ℕ) → r.begun < x → x ≤ r.begun + P.delta → T (not (is_faulty (before P x b).status))
    free-at x lo hi = let e : x ≡ suc (x - 1) = omega arith in rw e (not_faulty P G (x - 1) b l (f (x - 1) (omega arith) (omega arith)))

    -- from one tick to the next: all but the votes stay
    abbrev Next : ℕ → Type 0
    Next x = ((before P (suc x) b).kept ≡ (mid P x b).server.kept) × ((before P (suc x) b).pending ≡ (mid P x b).server.pending)
        × ((before P (suc x) b).status ≡ (mid P x b).server.status)

    next : (x : ℕ) → r.begun < x → x < r.begun + P.delta → Next x
    next x lo hi = let n = next_same P x b l (free-at x lo (omega arith)) (f x (omega arith) hi) in (n.0, n.1, n.4)

    stays-pending : (e : ℕ) → arrival + e ≤ r.begun + P.delta → In r (mid P (arrival + e) b).server.pending
    stays-pending zero h =
        let q : arrival + 0 ≡ arrival = omega arith in
        rw (q, (mid_lists P arrival b (free-at arrival arrival_lo arrival_hi)).2)
        (in_right r (before P arrival b).pending (reads_in P arrival b) read_arrives)
    stays-pending (suc e) h =
        let q : arrival + suc e ≡ suc (arrival + e) = omega arith in
        let lo = arrival_lo in
        let n = next (arrival + e) (omega arith) (omega arith) in
        let k : In r (before P (suc (arrival + e)) b).pending = rw n.1 (stays-pending e (omega arith)) in
        rw (q, (mid_lists P (suc (arrival + e)) b (free-at (suc (arrival + e)) (omega arith) (omega arith))).2)
        (in_left r (before P (suc (arrival + e)) b).pending (reads_in P (suc (arrival + e)) b) k)

    -- it replies in tick x for one of three reasons
    replies-at : (p x : ℕ) → r.begun < x → x ≤ r.begun + P.delta → T (is_correct (mid P x b).server.status)
        → In r (mid P x b).server.pending
        → In p (mid P x b).server.kept
        → Cause P x b r (mid P x b).server.kept
        → RepliedBy P r b p x
    replies-at p x lo hi s i k why =
        let h = free-at x lo hi in
        (x, lo, omega arith, replies_to_lem P x b r h s i why, rw (reply_is_kept P x b h) k)

    pub has_replied : (p e : ℕ) → arrival + e ≤ r.begun + P.delta → T (is_correct (mid P (arrival + e) b).server.status)
        → In p (mid P (arrival + e) b).server.kept → RepliedBy P r b p (arrival + e)
    has_replied p zero h s k =
        let q : arrival + 0 ≡ arrival = omega arith in
        replies-at p (arrival + 0) (omega (arith, arrival_lo)) h s (stays-pending 0 h) k (inl (rw q read_arrives))
    has_replied p (suc e) h s k =
        go (test (is_correct (before P x b).status)) (test same) (has_replied p e (omega arith))
      where
        x : ℕ
        x = arrival + suc e

        same : Bool
        same = same_list (before P x b).kept (mid P x b).server.kept

        now : Cause P x b r (mid P x b).server.kept → RepliedBy P r b p x
        now why = replies-at p x (omega (arith, arrival_lo)) h s (stays-pending (suc e) h) k why

        go : T (is_correct (before P x b).status) ⊎ T (not (is_correct (before P x b).status))
            → T same ⊎ T (not same)
            → (T (is_correct (mid P (arrival + e) b).server.status) → In p (mid P (arrival + e) b).server.kept
            → RepliedBy P r b p (arrival + e))
            → RepliedBy P r b p x
        go (inr u) c ih = now (inr (inr u))
        go (inl u) (inr c) ih = now (inr (inl c))
        go (inl u) (inl c) ih =
            let lo = arrival_lo in
            let q : x ≡ suc (arrival + e) = omega arith in
            let n = next (arrival + e) (omega arith) (omega arith) in
            let k' : In p (before P x b).kept = rw (same_list_eq (before P x b).kept (mid P x b).server.kept c) k in
            let i = ih (rw n.2 at (rw q at u)) (rw n.0 at (rw q at k')) in
            (i.0, i.1, omega arith, i.3, i.4)
