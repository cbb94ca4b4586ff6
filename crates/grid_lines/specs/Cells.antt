-- The cells of a line, and what a definition says of each line. Assumes nothing.
use Rattle.std.specs.Prelude.{ℕ, List}
use Rattle.rules.specs.Strided.{strided, each}
use Rattle.grid_lines.specs.declared.Line.{Line}
use Rattle.grid_lines.specs.declared.Lines.{Lines}

-- the cells of a line, in order
abbrev pub line_cells : Line → List ℕ
line_cells l = strided l.start l.stride l.cells.now l.len

-- what f says of each of the lines
abbrev pub each_line : {A : Type 0} → (List ℕ → A) → Lines → List A
each_line f ls = each f ls.step ls.stride ls.cells.now ls.count ls.count
