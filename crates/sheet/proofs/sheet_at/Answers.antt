-- `sheet_at` meets its contract: a page that is too short, or the whole sheet.
use Rattle.sheet.proofs.Pages.{has_room}
use Rattle.sheet.proofs.sheet_at.Goals.{Start}
use Rattle.sheet.proofs.sheet_at.Goals as goal

pub returns : goal.returns
returns c = has_room c.args.width _ _ c.args.count c.requires.0 c.requires.1 _ c.if-page-count.false c.write.ensures
