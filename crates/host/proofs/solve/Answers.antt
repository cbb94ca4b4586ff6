-- `host::solve` meets its contract. Assumes nothing.
use mathlib.Core.Path.{ap, ◌∙◌}
use Rattle.host.specs.Number.{solve_number}
use Rattle.host.proofs.solve.Goals as goal

pub returns : goal.returns
returns c =
    let s = c.solve.ensures in
    (c.solve_number.ensures ∙ ap solve_number s.0, s.1)
