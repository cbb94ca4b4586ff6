-- One way to fill some places, place by place. Assumes nothing.
use Rattle.std.specs.Prelude.{ℕ, zero, suc}
use mathlib.Core.List.{List, [], ◌∷◌, Memᴰ}

-- x is a way to put a value of s into each of k places: it is one of `ways s k`.
pub data Way {A : Type 0} (s : List A) : ℕ → List A → Type 0 where
  done : Way s zero []
  put : {c : A} {k : ℕ} {x : List A} → Memᴰ c s → Way s k x → Way s (suc k) (c ∷ x)
