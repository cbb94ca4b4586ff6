-- The count under a cap. Assumes nothing.
use Rattle.std.specs.Prelude.{ℕ, ◌+◌, ◌-◌, ◌≤◌, ◌<◌, min, ◌≡◌, List}
use Rattle.std.proofs.Common.{arith}
use Rattle.rules.specs.Grid.{Puzzle}
use Rattle.rules.specs.Number.{number, capped}

-- the cap 0 gives 0
pub capped_zero : (p : Puzzle) (ms : List ℕ) → capped 0 p ms ≡ 0
unfolding capped
capped_zero p ms = omega arith

-- A HIGHER CAP never changes a count that is below the cap
pub capped_steady : (p : Puzzle) (ms : List ℕ) (c d : ℕ) → c ≤ d → capped c p ms < c → capped d p ms ≡ capped c p ms
unfolding capped
capped_steady p ms c d l h = omega arith

-- and never lowers one
pub capped_rising : (p : Puzzle) (ms : List ℕ) (c d : ℕ) → c ≤ d → capped c p ms ≤ capped d p ms
unfolding capped
capped_rising p ms c d l = omega arith

-- a count below the cap is the number
pub capped_below : (p : Puzzle) (ms : List ℕ) (c : ℕ) → capped c p ms < c → capped c p ms ≡ number p ms
unfolding capped
capped_below p ms c h = omega arith

-- two parts share a cap: the second gets what the first leaves of it
pub cap_split : (c a b : ℕ) → min c (a + b) ≡ min c a + min (c - min c a) b
cap_split c a b = omega arith
