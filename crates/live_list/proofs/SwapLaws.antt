-- Swaps of numbers. Assumes nothing.
use Prim.Native.Nat.{ℕ, ◌<◌}
use mathlib.Core.Path.{◌≡◌, sym, ap, ◌∙◌, subst}
use mathlib.Core.List.{List}
use native.Mathlib.Decide.{ℕ_discrete}
use lib.ListN.{length, length-set, get_or, set}
use lib.Seq.{get_or-set_same, get_or-set_other}
use Rattle.live_list.specs.Swap.{exchanged}

-- what stands where afterwards
module _ (l : List ℕ) (p q : ℕ) where
  between : List ℕ
  between = set l p (get_or l q 0)

  pub exchanged_here : p < length l → q < length l → get_or (exchanged l p q) p 0 ≡ get_or l q 0
  unfolding between
  exchanged_here h k = go (ℕ_discrete p q)
    where
      go : Dec (p ≡ q) → get_or (exchanged l p q) p 0 ≡ get_or l q 0
      go (no d) = get_or-set_other between q p (get_or l p 0) 0 d ∙ get_or-set_same l p (get_or l q 0) 0 h
      go (yes e) =
          ap (λ r. get_or (exchanged l p q) r 0) e
          ∙ get_or-set_same between q (get_or l p 0) 0 (subst (λ n. q < n) (sym (length-set l p (get_or l q 0))) k)
          ∙ ap (λ r. get_or l r 0) e

  pub exchanged_other : (k : ℕ) → (k ≡ p → ⊥) → (k ≡ q → ⊥) → get_or (exchanged l p q) k 0 ≡ get_or l k 0
  unfolding between
  exchanged_other k d e = get_or-set_other between q k (get_or l p 0) 0 e ∙ get_or-set_other l p k (get_or l q 0) 0 d
