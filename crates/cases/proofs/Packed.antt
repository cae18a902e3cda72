-- The example of docs/FORMATS.md, packed from its lists, and lists that are refused: computed from the definitions.
use mathlib.Core.Path.{◌≡◌, refl}
use mathlib.Core.List.{[], ◌∷◌, ◌++◌}
use Rattle.plan.specs.Check.{refused, result}
use Rattle.plan.specs.Buffer.{into_buffer}
use Rattle.bits.specs.Layout as Layout
use Rattle.lists.specs.Lists as lists
use Rattle.pack.specs.Pack as pack
use Rattle.pack.specs.Pack.{pack_of, pack_in}
use Rattle.cases.specs.Hex.{lent}
use Rattle.cases.specs.Starred as S
use Rattle.cases.specs.FormTwo as F
use Rattle.cases.specs.Lists.{first_lists, nine_numbers, wide_party}
use Rattle.cases.proofs.Opened.{opened}

pub packs : pack_of S.one_width first_lists (lent 33) ≡ record { outcome = result 31; out = S.one_read ++ (255 ∷ 255 ∷ []) }
unfolding opened Layout.records Layout.fits lists.plan_bits lists.packed_plan pack.lengths_implied pack.part_tests into_buffer pack.pack_tests pack_of S.one_read
packs = refl

-- in form two, and in a form that there is not
pub packs_two : pack_in 2 first_lists (lent 34) ≡ record { outcome = result 33; out = F.one_read_two ++ (255 ∷ []) }
unfolding opened Layout.records Layout.fits lists.plan_bits lists.packed_plan pack.lengths_implied pack.part_tests into_buffer pack.pack_tests pack_in F.one_read_two
packs_two = refl

pub unknown_refused : pack_in 3 nine_numbers (lent 33) ≡ record { outcome = refused 1; out = lent 33 }
unfolding into_buffer pack_in
unknown_refused = refl

pub short : pack_of S.one_width first_lists (lent 30) ≡ record { outcome = refused 14; out = lent 30 }
unfolding opened Layout.records Layout.fits lists.plan_bits lists.packed_plan pack.lengths_implied pack.part_tests into_buffer pack.pack_tests pack_of
short = refl

pub nine_refused : pack_of S.one_width nine_numbers (lent 33) ≡ record { outcome = refused 2; out = lent 33 }
unfolding Layout.fits into_buffer pack.pack_tests pack_of
nine_refused = refl

pub wide_refused : pack_of S.one_width wide_party (lent 33) ≡ record { outcome = refused 6; out = lent 33 }
unfolding opened Layout.records Layout.fits lists.plan_bits lists.packed_plan pack.lengths_implied pack.part_tests into_buffer pack.pack_tests pack_of
wide_refused = refl
