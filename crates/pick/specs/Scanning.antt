-- What is seen of the open cells while they are looked through, row by row. Assumes nothing.
use Rattle.std.specs.Prelude.{ℕ, ◌+◌, ◌*◌, ◌≤◌, ◌<◌, ◌≡◌, ◌⊎◌, cond, leb, List, Option, Some, None}
use Rattle.rules.specs.Order.{row_value}
use Rattle.bits.specs.Bit.{bit}
use Rattle.pick.specs.Choice.{Open, Foremost}
use Rattle.pick.specs.declared.RowValue.{RowValue}

-- The mask has the bits of the row_half candidates of a cell if it is open, else none.
pub record OpenHalf (l : List ℕ) (x m : ℕ) : Type 0 where
  pub has : (v : ℕ) → v < 16 → bit v m ≡ 1 → Open l x v
  pub all : (v : ℕ) → Open l x v → bit v m ≡ 1

-- The mask has the bits of the values that open cells have among the first k of row r.
pub record OpenValues (l : List ℕ) (r k m : ℕ) : Type 0 where
  pub has : (v : ℕ) → v < 16 → bit v m ≡ 1 → (c : ℕ) × (c < k) × Open l (r * 9 + c) v
  pub all : (v c : ℕ) → c < k → Open l (r * 9 + c) v → bit v m ≡ 1

-- An open cell of the row has the value.
pub record Undecided (n : ℕ) (l : List ℕ) (s : RowValue) : Type 0 where
  pub row_in : s.row < n
  pub column : ℕ
  pub column_in : column < n
  pub open_here : Open l (s.row * 9 + column) s.value

-- The greatest digit that an open cell of the first k rows has, and the first row of those that have it.
pub record Leading (n : ℕ) (l : List ℕ) (k : ℕ) (s : RowValue) : Type 0 where
  pub undecided : Undecided n l s
  pub seen : s.row < k
  pub digit : s.value < 8
  pub greatest : (r c w : ℕ) → r < k → c < n → Open l (r * 9 + c) w → (w < s.value) ⊎ ((w ≡ s.value) × (s.row ≤ r))

-- What the first k rows lead to: that digit, or no cell of them is open.
abbrev pub Led : ℕ → List ℕ → ℕ → Option RowValue → Type 0
Led n l k (Some s) = Leading n l k s
Led n l k None = (r c w : ℕ) → r < k → c < n → Open l (r * 9 + c) w → ⊥

-- The next one if its value is greater than that of the best, else the best.
abbrev pub greater_of : Option RowValue → RowValue → Option RowValue
greater_of None next = Some next
greater_of (Some best) next = cond (leb next.value best.value) (Some best) (Some next)

-- The value to branch on, or none where no cell is open.
abbrev pub FirstValue : ℕ → List ℕ → Option RowValue → Type 0
FirstValue n l (Some s) = Undecided n l s × Foremost n l (row_value s.row s.value)
FirstValue n l None = (r c w : ℕ) → r < n → c < n → Open l (r * 9 + c) w → ⊥

-- The last of the first k columns whose cell in the row is open and has the value; if none is, column 0.
pub record LastColumn (l : List ℕ) (s : RowValue) (k c : ℕ) : Type 0 where
  pub here : (j : ℕ) → j < k → Open l (s.row * 9 + j) s.value → (c < k) × Open l (s.row * 9 + c) s.value
  pub last : (j : ℕ) → c < j → j < k → Open l (s.row * 9 + j) s.value → ⊥
