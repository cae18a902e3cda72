-- The receipts that the code counts for a WRITE are those of the plan: the delays and the placements that it reads are the plan's.
-- It stands on where the parts stand in the plan's bits, and on what Check accepts.
use mathlib.Core.Path.{◌≡◌, ap, sym, subst, ◌∙◌}
use mathlib.Core.Bool.{not}
use mathlib.Core.List.{List}
use Prim.Native.Nat.{ℕ, ◌+◌, ◌-◌, ◌≤◌, ◌<◌}
use native.Mathlib.Omega.{arith}
use lib.Dec.{T}
use lib.ListN.{get_or}
use borrow.Author.Tests.{lt-ltb, le-ltb}
use Rattle.bits.specs.Field.{field_of}
use Rattle.register.specs.Lists.{count}
use Rattle.register.proofs.Counting.{count_cong}
use Rattle.traffic.specs.Alone.{reached_in, receipts_of}
use Rattle.plan.specs.{Form.most_width, Header.header_of, Header.delay_bits, Parts.is_link, Packed.plan_of, Playable.Playable}
use Rattle.plan.proofs.{Accept.in_range, AcceptGood.delay_range}
use Rattle.tables.specs.declared.sending.Sending.{Sending}
use Rattle.limits.specs.Limits.{most_servers}
use Rattle.limits.specs.Bits.{bit}
use Rattle.tables.specs.Sending.{arrival_of, Sent}
use Rattle.tables.specs.declared.Links.{Links}
use Rattle.tables.specs.Links.{link_bit, link_delay, Linked}
use Rattle.tables.proofs.LinkLaws.{link_at}
use Rattle.tables.specs.Rules.{LinksOf}
use Rattle.tables.proofs.Placing.{table, link_delay_lem, placed_bit}
use Rattle.forecast.specs.Steps.{most_ticks, InForce, receipts_by}

-- what one party sends reaches a server when its delay is over
pub sent_receipts : (plan : List ℕ) (links : Links) (n t i : ℕ) (x : Sending) (placements : List ℕ) → Sent plan (link_bit links t n 0) n t i x
    → count (λ b. not (bit (most_servers - 1 - b) (get_or placements (arrival_of x b - 1) 0))) x.n ≡ receipts_by plan links n placements t
unfolding receipts_by
sent_receipts plan links n t i x placements S =
    ap (count (λ b. not (bit (most_servers - 1 - b) (get_or placements (arrival_of x b - 1) 0)))) S.servers
    ∙ count_cong _ _ n (λ b l. ap (λ a. not (bit (most_servers - 1 - b) (get_or placements (a - 1) 0))) (S.arrives b l ∙ rw (link_at links t n b)))

-- a WRITE goes on a link
to_server : (n b : ℕ) → b < n → T (is_link n n b)
unfolding is_link
to_server n b l = rw (le-ltb n n (omega arith), lt-ltb b n l) tt

module _ (w : ℕ) (s : List ℕ) (A : Playable w s) (links : Links) (L : LinksOf w (header_of w s) links) (n : ℕ) (servers : n ≡ (header_of w s).n) where
  -- the delays of a tick in which a write begins lie in the plan
  pub linked : w ≤ most_width → (u : ℕ) → u + (header_of w s).delta < (header_of w s).ticks → Linked s links n (u + 1)
  linked narrow u below = subst (λ m. Linked s links m (u + 1)) (L.n ∙ sym servers) (table w s A links L narrow (u + 1) (omega arith))

  module _ (u : ℕ) (below : u + (header_of w s).delta < (header_of w s).ticks) where
    arrives : (b : ℕ) → b < n → u + link_delay s links u n b ≡ reached_in (plan_of w s) u b
    unfolding plan_of
    arrives b l = rw servers (ap (λ d. u + d) (link_delay_lem w s A links L u (header_of w s).n b (omega arith) (omega arith) (omega arith) (to_server (header_of w s).n b (omega arith))))

    within : (b : ℕ) → (1 ≤ reached_in (plan_of w s) u b) × (reached_in (plan_of w s) u b < (header_of w s).ticks)
    within b = let d = delay_range w s A u (plan_of w s).n b in (omega (arith, d), omega (arith, d))

    -- a WRITE arrives in a tick of the plan, behind the first
    pub sent_within : (i : ℕ) (x : Sending) → Sent s (link_bit links u n 0) n u i x → (b : ℕ) → b < x.n → (1 ≤ arrival_of x b) × (arrival_of x b < most_ticks)
    sent_within i x S b l =
        let k : b < n = omega (arith, S.servers) in
        let e = S.arrives b k ∙ ap (λ at. u + field_of s at delay_bits) (link_at links u n b) ∙ arrives b k in
        (omega (arith, e, within b), omega (arith, e, within b, (in_range w s A).ticks_hi))

    pub receipts_are : (placements : List ℕ) → InForce w s (header_of w s) (header_of w s).ticks placements → receipts_by s links n placements u ≡ receipts_of (plan_of w s) u
    unfolding receipts_by receipts_of plan_of
    receipts_are placements F =
        count_cong _ _ n (λ b l.
        let before : reached_in (plan_of w s) u b - 1 < (header_of w s).ticks = omega (arith, within b) in
        rw (arrives b l, F.each (reached_in (plan_of w s) u b - 1) before)
        (ap not (placed_bit w s A (reached_in (plan_of w s) u b - 1) b before (omega arith))))
        ∙ ap (count _) servers
