-- `obey` meets its contract: each function says what it did.
use mathlib.Core.Path.{◌∙◌, sym}
use Rattle.console.proofs.obey.Goals as goal

pub returns-in-Help : goal.returns-in-Help
returns-in-Help g c = c.print_help.ensures ∙ sym c.in-Help.is ∙ c.asked_of.ensures

pub returns-in-Version : goal.returns-in-Version
returns-in-Version g c = c.print_version.ensures ∙ sym c.in-Version.is ∙ c.asked_of.ensures

pub returns-in-Unknown : goal.returns-in-Unknown
returns-in-Unknown g c = c.refuse_option.ensures ∙ sym c.in-Unknown.is ∙ c.asked_of.ensures

pub returns-in-Plan : goal.returns-in-Plan
returns-in-Plan g c = c.rehearse_file.ensures ∙ sym c.in-Plan.is ∙ c.asked_of.ensures
