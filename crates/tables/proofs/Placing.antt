-- Where the parts of a plan that can be played stand in its bits: the delays of each link and the placements.
-- It stands on what Check accepts.
use mathlib.Core.Path.{◌≡◌, sym}
use mathlib.Core.List.{List}
use Prim.Native.Nat.{ℕ, ◌+◌, ◌*◌, ◌-◌, ◌/◌, ◌≤◌, ◌<◌}
use native.Mathlib.Nat.{mul-le-mul_right, div-mul-le_self}
use native.Mathlib.Omega.{arith}
use lib.Dec.{T}
use lib.ListN.{length}
use borrow.Author.Tests.{lt-ltb, ne_eqb}
use Rattle.bits.specs.Field.{field_of}
use Rattle.bits.proofs.Laws.{field_inner}
use Rattle.register.proofs.Logic.{T_eq}
use Rattle.plan.specs as plan-specs
use Rattle.plan.specs.Header.{header_of, placement_bits, placement_at, moves, parties, bit_length}
use Rattle.plan.specs.Packed.{plan_of}
use Rattle.plan.proofs as plan-laws
use Rattle.limits.specs.Bits.{bit}
use Rattle.tables.specs as tables-specs
use Rattle.limits.proofs.Bits.{bit_test}

-- links from a server
pub other_link : (n i b : ℕ) → i < n → (b ≡ i → ⊥) → (b ≡ n → ⊥) → T (plan-specs.Parts.is_link n i b)
unfolding plan-specs.Parts.is_link
other_link n i b l d e = rw (lt-ltb i n l, ne_eqb i b (λ z. d (sym z)), ne_eqb b n e) tt

module _ (w : ℕ) (s : List ℕ) (A : plan-specs.Playable.Playable w s) where
  -- all the plan's bits are there
  pub bits_inside : bit_length w (header_of w s) ≤ 8 * length s
  bits_inside = omega (arith, plan-laws.Accept.exact w s A)

  pub few_moves : moves (header_of w s) ≤ 128
  unfolding moves
  few_moves =
      let H = plan-laws.Accept.in_range w s A in
      omega (arith, plan-laws.Laws.moves_few (header_of w s).ticks (header_of w s).period (omega (arith, H.delta_lo, H.period_lo)), H.ticks_hi)

  -- the placement of a movement below H
  pub placement_inside : (t : ℕ) → t < (header_of w s).ticks → placement_at w (t / (header_of w s).period) + placement_bits ≤ 8 * length s
  unfolding moves
  placement_inside t l =
      let p = (header_of w s).period in
      let H = plan-laws.Accept.in_range w s A in
      let some : 0 < p = omega (arith, H.delta_lo, H.period_lo) in
      let below : t / p < moves (header_of w s) = plan-laws.Ranges.movement_of (header_of w s).ticks t p some l in
      omega (arith, bits_inside)

  -- server b of it, as its bit from the top
  pub placed_bit : (t b : ℕ) → t < (header_of w s).ticks → b < (header_of w s).n
      → bit (15 - b) (field_of s (placement_at w (t / (header_of w s).period)) placement_bits) ≡ (plan_of w s).placed (t / (header_of w s).period) b
  unfolding plan_of plan-specs.Parts.in_placement
  placed_bit t b below l =
      let p = (header_of w s).period in
      let h : t / p * p < (header_of w s).ticks = omega (arith, div-mul-le_self t p) in
      let z : b + 1 + (15 - b) ≡ 16 = omega (arith, (plan-laws.Accept.in_range w s A).n_hi) in
      rw (lt-ltb (t / p * p) (header_of w s).ticks h, lt-ltb b (header_of w s).n l, rw z at (field_inner s (placement_at w (t / p)) b 1 (15 - b)))
      (sym (bit_test (15 - b) (field_of s (placement_at w (t / p)) placement_bits)))

  module _ (links : tables-specs.declared.Links.Links) (L : tables-specs.Rules.LinksOf w (header_of w s) links) where
    -- the delays of all ticks below t
    pub table : w ≤ plan-specs.Form.most_width → (t : ℕ) → t ≤ (header_of w s).ticks → tables-specs.Links.Linked s links links.n t
    table narrow t l =
        let H = plan-laws.Accept.in_range w s A in
        let p = parties (header_of w s) in
        record {
          start = omega (arith, L.at, (plan-laws.Sizes.playable_sizes w s narrow A).bits_hi);
          ticks = omega (arith, H.ticks_hi);
          servers = omega (arith, L.n, H.n_hi);
          writer = omega (arith, L.n, L.parties);
          readers = omega (arith, L.n, L.parties, H.readers_hi);
          inside = rw (L.at, L.parties) (omega (arith, bits_inside, mul-le-mul_right (p * p) l));
        }

    -- a link's delay is the plan's
    pub link_delay_lem : (u i b : ℕ) → u < (header_of w s).ticks → i < parties (header_of w s) → b < parties (header_of w s)
        → T (plan-specs.Parts.is_link (header_of w s).n i b) → tables-specs.Links.link_delay s links u i b ≡ (plan_of w s).delay u i b
    unfolding tables-specs.Links.link_bit plan_of plan-specs.Parts.delay_of
    link_delay_lem u i b lu li lb t =
        rw (
          L.at,
          L.parties,
          lt-ltb u (header_of w s).ticks lu,
          lt-ltb i (parties (header_of w s)) li,
          lt-ltb b (parties (header_of w s)) lb,
          T_eq (plan-specs.Parts.is_link (header_of w s).n i b) t,
        )

    -- so is that from a server to another one or to a reader
    pub server_delay : (u i b : ℕ) → u < (header_of w s).ticks → i < (header_of w s).n → b < parties (header_of w s) → (b ≡ i → ⊥) → (b ≡ (header_of w s).n → ⊥)
        → tables-specs.Links.link_delay s links u i b ≡ (plan_of w s).delay u i b
    server_delay u i b lu li lb d e = link_delay_lem u i b lu (omega arith) lb (other_link (header_of w s).n i b li d e)
