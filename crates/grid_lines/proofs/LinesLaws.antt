-- What a definition says of each of the lines, from what the lines are. Assumes nothing.
use Rattle.std.specs.Prelude.{ℕ, ◌≡◌, List}
use Rattle.rules.specs.Strided.{strided, each}
use Rattle.grid_lines.specs.declared.Line.{Line}
use Rattle.grid_lines.specs.declared.Lines.{Lines}
use Rattle.grid_lines.specs.Cells.{line_cells, each_line}

pub each_of : {A : Type 0} (f : List ℕ → A) (lines : Lines) {g : List ℕ} {step stride n : ℕ} →
    (lines.cells.now ≡ g) × (lines.step ≡ step) × (lines.stride ≡ stride) × (lines.count ≡ n) → each_line f lines ≡ each f step stride g n n
each_of f lines e = rw (e.0, e.1, e.2, e.3)

pub cells_of : (line : Line) {g : List ℕ} {start stride n : ℕ} →
    (line.cells.now ≡ g) × (line.start ≡ start) × (line.stride ≡ stride) × (line.len ≡ n) → line_cells line ≡ strided start stride g n
cells_of line e = rw (e.0, e.1, e.2, e.3)
