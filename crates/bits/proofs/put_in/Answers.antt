-- `put_in` meets its contract: the bytes are the bits above, the field and the bits below.
use mathlib.Core.Path.{◌≡◌}
use Prim.Native.Nat.{◌+◌, ◌-◌, ◌*◌, ◌/◌, ◌%◌}
use native.Mathlib.Nat.{div-add-mod, lt_of_lt_of_le}
use native.Mathlib.Omega.{arith}
use lib.Pow.{pow_mono}
use Rattle.bits.proofs.Laws.{field_lt, field_below, field_above}
use Rattle.bits.proofs.Written.{behind_lt, wrote_field}
use borrow.Author.Rules.{rules}
use Rattle.bits.proofs.put_in.Goals as goal

pub behind-above-requires : goal.behind-above-requires
behind-above-requires c = let a = c.args in
    let x = a.at % 8 in
    let y = 8 * a.n - x - a.width in
    let p = 8 * (a.at / 8) in
    let e : 8 * a.n ≡ x + a.width + y = omega arith in
    (search rules, rw (c.bytes_from-all.ensures, field_above a.out.now p (8 * a.n) x a.width y e) (field_below a.out.now p x (64 - a.width) (omega arith)))

pub behind-requires : goal.behind-requires
behind-requires c = let a = c.args in
    let x = a.at % 8 in
    let y = 8 * a.n - x - a.width in
    let p = 8 * (a.at / 8) in
    let e : 8 * a.n ≡ x + a.width + y = omega arith in (
      search rules,
      rw (c.behind-above.ensures, c.bytes_from-all.ensures, field_above a.out.now p (8 * a.n) x a.width y e)
          (lt_of_lt_of_le (behind_lt x a.width a.value (field_lt a.out.now p x)) (pow_mono (omega arith))),
    )

pub returns : goal.returns
returns c = let a = c.args in
    let x = a.at % 8 in
    let y = 8 * a.n - x - a.width in
    let p = 8 * (a.at / 8) in
    let e : 8 * a.n ≡ x + a.width + y = omega arith in
    rw (div-add-mod a.at 8) at
    (wrote_field p (8 * a.n) x a.width y a.value e
    (rw (c.behind.ensures, c.behind-above.ensures, c.bytes_from-all.ensures) at c.put_bytes.ensures))
