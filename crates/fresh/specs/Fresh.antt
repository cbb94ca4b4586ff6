-- The state before any strike, place by place. Assumes nothing.
use Rattle.std.specs.Prelude.{ℕ, ◌-◌, ◌/◌, ◌%◌, ◌^◌, ◌≤◌, ◌<◌, ◌≡◌, ◌⊎◌, ◌&&◌, cond, List, eqb, ltb, length, get_or}
use Rattle.bits.specs.Bit.{bit}
use Rattle.table.specs.Table.{every_value, mask_of}
use Rattle.queue_state.specs.Layout.{queue_at, line_masks_at, line_mask_place, counters_at, row_half_at, row_blacks_at, lengths_at, slab_size}
use Rattle.queue_state.specs.Slab.{line_mask}

-- The state's memory before anything is in it.
pub record Blank (l : List ℕ) : Type 0 where
  pub size : length l ≡ slab_size
  pub zero : (p : ℕ) → get_or l p 0 ≡ 0

-- What a cell at place x has if the first m rows of size n are full.
unfoldable pub cell_in : ℕ → ℕ → ℕ → ℕ → ℕ
cell_in n m full x = cond (ltb (x / 9) m && ltb (x % 9) n) full 0

-- The first m rows of size n are full, and all else is 0.
pub record RowsFull (l : List ℕ) (n m full : ℕ) : Type 0 where
  pub size : length l ≡ slab_size
  pub cells : (x : ℕ) → x < 81 → get_or l x 0 ≡ cell_in n m full x
  pub rest : (p : ℕ) → queue_at ≤ p → get_or l p 0 ≡ 0

-- The places of a line of size n that have the value v, as a mask: all of them, if it is a value of the size.
unfoldable pub places_of : ℕ → ℕ → ℕ
places_of n v = cond (eqb (bit v (mask_of (every_value n))) 1) (2 ^ n - 1) 0

-- All masks of line ℓ are 0.
pub record FillLineAsk (l : List ℕ) (ℓ : ℕ) : Type 0 where
  pub size : length l ≡ slab_size
  pub line : ℓ < 18
  pub none : (v : ℕ) → v < 16 → line_mask l ℓ v ≡ 0

-- The masks of line ℓ of size n are full, and nothing else changes.
pub record LineFull (l l' : List ℕ) (n ℓ : ℕ) : Type 0 where
  pub size : length l' ≡ length l
  pub masks : (v : ℕ) → v < 16 → line_mask l' ℓ v ≡ places_of n v
  pub rest : (p : ℕ) → (p < line_mask_place ℓ 0) ⊎ (line_mask_place ℓ 16 ≤ p) → get_or l' p 0 ≡ get_or l p 0

-- What the mask of the value v in line ℓ is if the first m rows and columns of size n are full.
unfoldable pub mask_in_line : ℕ → ℕ → ℕ → ℕ → ℕ
mask_in_line n m ℓ v = cond (ltb (ℓ % 9) m) (places_of n v) 0

-- The masks of the first m rows and columns of size n are full, those of the others are 0, and nothing else changes.
pub record MasksFull (l l' : List ℕ) (n m : ℕ) : Type 0 where
  pub size : length l' ≡ length l
  pub masks : (ℓ v : ℕ) → ℓ < 18 → v < 16 → line_mask l' ℓ v ≡ mask_in_line n m ℓ v
  pub rest : (p : ℕ) → (p < line_masks_at) ⊎ (counters_at ≤ p) → get_or l' p 0 ≡ get_or l p 0

-- The fresh state of size n: each cell of the grid has every candidate, each half and each line's value n places, each cell two blacks of each kind;
-- the masks of its rows and columns are full, the queue is empty and no arrangement is listed yet.
pub record Fresh (n : ℕ) (l : List ℕ) : Type 0 where
  pub size : length l ≡ slab_size
  pub cells : (x : ℕ) → x < 81 → get_or l x 0 ≡ cell_in n n (mask_of (every_value n)) x
  pub queue : (p : ℕ) → queue_at ≤ p → p < line_masks_at → get_or l p 0 ≡ 0
  pub masks : (ℓ v : ℕ) → ℓ < 18 → v < 16 → line_mask l ℓ v ≡ mask_in_line n n ℓ v
  pub counters : (p : ℕ) → row_half_at ≤ p → p < row_blacks_at → get_or l p 0 ≡ n
  pub blacks : (p : ℕ) → row_blacks_at ≤ p → p < lengths_at → get_or l p 0 ≡ 2
  pub arcs : (p : ℕ) → lengths_at ≤ p → get_or l p 0 ≡ 0
