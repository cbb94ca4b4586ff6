-- Handling one strike. Assumes nothing.
use Rattle.std.specs.Prelude.{ℕ, ◌+◌, ◌*◌, ◌≤◌, ◌<◌, List}
use Rattle.queue_state.specs.Slab.{lag, Grown}
use Rattle.queue_state.specs.Ready.{Next}
use Rattle.singles.specs.Handling.{Handling}
use Rattle.invariants.specs.State.{Counted}
use Rattle.propagate.specs.Flow.{Flows}

-- What it asks: the strike at the head, with all counters up to it.
pub record UpdateAsk (n : ℕ) (l : List ℕ) (r c v : ℕ) : Type 0 where
  pub head : ℕ
  pub strike : Handling n l r c v head
  pub once : (x w : ℕ) → w < 16 → lag l 0 x w ≤ 1
  pub counted : Counted n l head

-- What it gives: the counters with the strike handled, and nothing of a stable table lost.
pub record UpdateDone (n : ℕ) (l l' : List ℕ) (r c v : ℕ) : Type 0 where
  pub grown : Grown l l'
  pub flows : Flows n l l'
  pub counted : (h : ℕ) → Next l h (r * 9 + c) v → Counted n l h → Counted n l' (h + 1)
