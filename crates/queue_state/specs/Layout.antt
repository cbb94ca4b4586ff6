-- What stands where in the one slice of the state: the names of `Slab` (src/lib.rt) for the definitions. Assumes nothing.
use Rattle.std.specs.Prelude.{ℕ, ◌+◌, ◌*◌}

-- The candidates of the 81 cells stand first, and the queue of strikes begins behind them.
abbrev pub queue_at : ℕ
queue_at = 81

-- The queue has room for seven digits and four blacks of each cell.
abbrev pub queue_room : ℕ
queue_room = 81 * 11

-- Strike i of the queue.
abbrev pub entry_place : ℕ → ℕ
entry_place i = queue_at + i

-- How many strikes the queue has.
abbrev pub tail_at : ℕ
tail_at = queue_at + queue_room

-- ---- line masks: strikes change them with the candidates

-- The line masks begin behind the queue.
abbrev pub line_masks_at : ℕ
line_masks_at = tail_at + 1

-- Which places of line ℓ have the value v, as a mask.
abbrev pub line_mask_place : ℕ → ℕ → ℕ
line_mask_place ℓ v = line_masks_at + ℓ * 16 + v

-- ---- counters: strikes move nothing from here on

-- The counters begin with how many candidates the row half of each cell has.
abbrev pub counters_at : ℕ
counters_at = line_masks_at + 18 * 16

-- How many candidates the row half and the column half of the cell at place x have.
abbrev pub row_half_at : ℕ
row_half_at = counters_at

abbrev pub row_half_place : ℕ → ℕ
row_half_place x = row_half_at + x

abbrev pub col_half_at : ℕ
col_half_at = row_half_at + 81

abbrev pub col_half_place : ℕ → ℕ
col_half_place x = col_half_at + x

-- How many places the value v has in line ℓ.
abbrev pub places_at : ℕ
places_at = col_half_at + 81

abbrev pub value_place : ℕ → ℕ → ℕ
value_place ℓ v = places_at + ℓ * 16 + v

-- How many row blacks and how many column blacks the cell at place x has.
abbrev pub row_blacks_at : ℕ
row_blacks_at = places_at + 18 * 16

abbrev pub row_blacks_place : ℕ → ℕ
row_blacks_place x = row_blacks_at + x

abbrev pub col_blacks_at : ℕ
col_blacks_at = row_blacks_at + 81

abbrev pub col_blacks_place : ℕ → ℕ
col_blacks_place x = col_blacks_at + x

-- ---- arrangements

-- How many live arrangements line ℓ has.
abbrev pub lengths_at : ℕ
lengths_at = col_blacks_at + 81

abbrev pub length_place : ℕ → ℕ
length_place ℓ = lengths_at + ℓ

-- Which they are: the list of a line has room for per_line of them, and j is the place in the list.
abbrev pub live_at : ℕ
live_at = lengths_at + 18

abbrev pub per_line : ℕ
per_line = 78

abbrev pub live_place : ℕ → ℕ → ℕ
live_place ℓ j = live_at + ℓ * per_line + j

-- How many live arrangements have the value v at a place of a line: y is line * 9 + place.
abbrev pub support_at : ℕ
support_at = live_at + 18 * per_line

abbrev pub support_place : ℕ → ℕ → ℕ
support_place y v = support_at + y * 16 + v

-- How many numbers the state has.
abbrev pub slab_size : ℕ
slab_size = support_at + 18 * 9 * 16
