-- Where the delays of the links stand in the plan: their places are small, and lie in it.
use mathlib.Core.Path.{◌≡◌}
use mathlib.Core.List.{List}
use Prim.Native.Nat.{ℕ, ◌+◌, ◌*◌, ◌^◌, ◌≤◌, ◌<◌}
use native.Mathlib.Nat.{mul-le-mul}
use native.Mathlib.Omega.{arith}
use Rattle.plan.specs.Header.{delay_bits, DelaysIn}
use Rattle.tables.specs.declared.Links.{Links}
use Rattle.tables.specs.Links.{link_bit, Linked}

pub row_small : (u p : ℕ) → u < 128 → p ≤ 24 → u * p ≤ 3048
row_small u p h l = mul-le-mul {n₂ = 127} {m₂ = 24} (omega arith) l

pub links_small : (u p i : ℕ) → u < 128 → p ≤ 24 → i < p → (u * p + i) * p ≤ 73704
links_small u p i h l k = mul-le-mul {n₂ = 3071} {m₂ = 24} (omega (arith, row_small u p h l)) l

pub link_at : (links : Links) (u i b : ℕ) → link_bit links u i 0 + delay_bits * b ≡ link_bit links u i b
unfolding link_bit
link_at links u i b = omega arith

module _ (plan : List ℕ) (links : Links) (n u : ℕ) (L : Linked plan links n (u + 1)) where
  pub parties_few : links.parties ≤ 24
  parties_few = omega (arith, L.servers, L.readers)

  pub link_small : (i : ℕ) → i < links.parties → link_bit links u i 0 < 2 ^ 33
  unfolding link_bit
  link_small i h = omega (arith, L.start, links_small u links.parties i (omega (arith, L.ticks)) parties_few h)

  -- all delays of party i in tick u lie in the plan
  pub link_inside : (i : ℕ) → i < links.parties → DelaysIn plan (link_bit links u i 0) links.parties
  unfolding link_bit
  link_inside i h =
      let p = links.parties in
      let m : (u * p + (i + 1)) * p ≤ (u * p + p) * p = mul-le-mul {n₂ = u * p + p} {m₂ = p} (omega arith) (omega arith) in
      omega (arith, m, L.inside)
