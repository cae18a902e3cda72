-- The reads of a script's table are the plan's, in the order of their begins.
-- It stands on what Check accepts and on the laws of scripts.
use mathlib.Core.Path.{◌≡◌, ◌∙◌}
use mathlib.Core.List.{List}
use Prim.Native.Nat.{ℕ, ◌+◌, ◌≤◌, ◌<◌}
use native.Mathlib.Omega.{arith}
use native.Mathlib.Decide.{ℕ_discrete}
use lib.ListN.{get_or}
use Rattle.register.specs.Lists.{In}
use Rattle.register.specs.Plan.{Read}
use Rattle.plan.specs.Packed.{plan_of}
use Rattle.plan.proofs.Tests.{get_d_in, in_get_d}
use Rattle.plan.proofs.AcceptReads.{read_stands, reads_rise}
use Rattle.tables.specs.Known.{pair_at, Knows}
use Rattle.script.specs.declared.Script.{Script}
use Rattle.script.specs.Script.{width_in, Decoded}
use Rattle.tables.specs.Operations.{no_read}
use Rattle.script.proofs.Fitting.{script_knows}
use Rattle.reading.specs.Reading.{Until, There, read_at}

module _ (s : List ℕ) (r : Script) (R : Decoded s r) where
  abbrev begun_at : ℕ → ℕ
  begun_at i = get_or r.reads.begun i 0

  abbrev reader_at : ℕ → ℕ
  reader_at i = get_or r.reads.reader i 0

  pub knows : Knows (plan_of (width_in r) s) (pair_at (width_in r) r.writes.known) r.writes.known.m
  knows = script_knows s R.before R.after r R.playable R.scripted

  pub servers_same : r.rules.n ≡ (plan_of (width_in r) s).n
  unfolding plan_of
  servers_same = R.scripted.rules.n

  pub links_same : r.links.n ≡ (plan_of (width_in r) s).n
  unfolding plan_of
  links_same = R.scripted.links.n

  pub delta_same : r.rules.delta ≡ (plan_of (width_in r) s).delta
  unfolding plan_of
  delta_same = R.scripted.rules.delta

  pub few_servers : (plan_of (width_in r) s).n ≤ 16
  few_servers = knows.servers

  pub listed : (i : ℕ) → i < r.reads.m → In (read_at r.reads i) (plan_of (width_in r) s).reads
  listed i l = rw (R.scripted.reads.each i l) at (get_d_in (plan_of (width_in r) s).reads i no_read (omega (arith, R.scripted.reads.count)))

  pub in_table : (q : Read) → In q (plan_of (width_in r) s).reads → (i : ℕ) × (i < r.reads.m) × (q ≡ read_at r.reads i)
  in_table q h =
      let (i, l, e) = in_get_d (plan_of (width_in r) s).reads q no_read h in
      let b : i < r.reads.m = omega (arith, R.scripted.reads.count) in
      (i, b, e ∙ R.scripted.reads.each i b)

  pub reader_range : (i : ℕ) → i < r.reads.m → (1 ≤ reader_at i) × (reader_at i ≤ 4)
  reader_range i l = knows.readers (read_at r.reads i) (listed i l)

  begins-rise : (i j : ℕ) → i ≤ j → j < r.reads.m → begun_at i ≤ begun_at j
  begins-rise i j h l = elim (ℕ_discrete i j) [
    | yes e ↦ rw e (omega arith)
    | no d ↦ (let a = R.scripted.reads.each i (omega arith) in
        let b = R.scripted.reads.each j l in
        let x = rw (a, b) at (reads_rise (width_in r) s R.playable no_read i j (omega arith) (omega (arith, R.scripted.reads.count))) in
        omega (arith, x, (reader_range i (omega arith)).1, (reader_range j l).1))
  ]

  -- from its cursor on, no read begins before the tick
  pub not_before : (u k i : ℕ) → Until r.reads.begun r.reads.m 0 u k → k ≤ i → i < r.reads.m → u ≤ begun_at i
  not_before u k i U h l = omega (arith, U.next (omega arith), begins-rise k i h l)

  -- the reads between two cursors
  pub there : (k k' : ℕ) → k ≤ k' → k' ≤ r.reads.m → There r.reads.reader k k'
  there k k' h l = record { ordered = h; few = omega (arith, R.scripted.reads.few); readers = λ i a b. reader_range i (omega arith) }

  -- every reader is a party
  pub readers_there : (i : ℕ) → i < r.reads.m → r.links.n + reader_at i < r.links.parties
  readers_there i l =
      omega (arith, R.scripted.links.n, R.scripted.links.parties, (read_stands (width_in r) s R.playable (read_at r.reads i) (listed i l)).reader_hi)
