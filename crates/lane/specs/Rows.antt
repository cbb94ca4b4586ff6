-- The rows and the columns as the code walks them, nine cells to a row. Assumes nothing.
use Rattle.std.specs.Prelude.{ℕ, ◌+◌, ◌*◌, ◌≡◌}
use Rattle.rules.specs.Mark.{left_black, upper_black}
use Rattle.lane.specs.declared.Lane.{Lane}

-- Row r with n cells, which are next to each other.
abbrev pub RowLane : ℕ → ℕ → Lane → Type 0
RowLane n r lane = (lane.number ≡ r) × (lane.start ≡ r * 9) × (lane.stride ≡ 1) × (lane.first ≡ left_black) × (lane.len ≡ n)

-- Column c with n cells, which are a row apart.
abbrev pub ColumnLane : ℕ → ℕ → Lane → Type 0
ColumnLane n c lane = (lane.number ≡ 9 + c) × (lane.start ≡ c) × (lane.stride ≡ 9) × (lane.first ≡ upper_black) × (lane.len ≡ n)
