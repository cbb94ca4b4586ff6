-- `host::mark_sheet` meets its contract. Assumes nothing.
use mathlib.Core.Path.{ap, ◌∙◌}
use Rattle.host.specs.Number.{sheet_number}
use Rattle.host.proofs.mark_sheet.Goals as goal

pub returns : goal.returns
returns c = c.sheet_number.ensures ∙ ap sheet_number c.mark_sheet.ensures
