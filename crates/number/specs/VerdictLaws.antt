-- None, exactly one and several grids, told apart by the number. Assumes nothing.
use Rattle.std.specs.Prelude.{ℕ, zero, suc, ◌*◌, ◌≤◌, ◌<◌, min, ◌≡◌, refl, Bool, true, false, List}
use Rattle.std.proofs.Common.{sym, ap, ◌∙◌, true≢false, arith}
use Rattle.tally.proofs.TallyLaws.{count_none, count_one, same_list, same_refl, same_eq}
use Rattle.tally.proofs.WayLaws.{count_find, count_some, count_two, count_another}
use Rattle.rules.proofs.GridLaws.{solution_way, way_solution, symbols_once}
use Rattle.rules.specs.Grid.{Puzzle}
use Rattle.rules.specs.Number.{grids, solves, number, unsolvable, unique, multiple, verdict_of, Solution}
use Rattle.rules.specs.Short.{symbols}

module _ (p : Puzzle) (ms : List ℕ) where
  -- NONE
  pub none_zero : ((g : List ℕ) → Solution p ms g → ⊥) → number p ms ≡ 0
  unfolding number grids
  none_zero h = count_none (symbols p.size) (p.size * p.size) (solves p ms) (λ g w t. h g (way_solution w t))

  -- where the number is not 0 there is a grid
  pub some_grid : 0 < number p ms → (g : List ℕ) × Solution p ms g
  unfolding number grids
  some_grid h =
      let f = count_find (symbols p.size) (p.size * p.size) (solves p ms) h in (f.0, way_solution f.1 f.2)

  module _ (fits : p.size ≤ 9) where
    -- and where there is a grid the number is not 0
    pub grid_some : (g : List ℕ) → Solution p ms g → 0 < number p ms
    unfolding number grids
    grid_some g s = count_some (symbols p.size) (symbols_once p.size fits) (p.size * p.size) (solves p ms) g (solution_way s) s.right

    pub zero_none : number p ms ≡ 0 → (g : List ℕ) → Solution p ms g → ⊥
    zero_none e g s = omega (arith, grid_some g s)

    -- ONE
    pub only_one : (g : List ℕ) → Solution p ms g → ((h : List ℕ) → Solution p ms h → h ≡ g) → number p ms ≡ 1
    unfolding number grids
    only_one g s u =
        count_one (symbols p.size) (symbols_once p.size fits) (p.size * p.size) (solves p ms) g (solution_way s) s.right (λ h w t. u h (way_solution w t))

    -- SEVERAL
    pub two_several : (g h : List ℕ) → Solution p ms g → Solution p ms h → (h ≡ g → ⊥) → 2 ≤ number p ms
    unfolding number grids
    two_several g h s t d =
        count_two (symbols p.size) (symbols_once p.size fits) (p.size * p.size) (solves p ms) g (solution_way s) s.right h (solution_way t) t.right d

    -- and where it is 1, all grids are one
    pub one_only : number p ms ≡ 1 → (g h : List ℕ) → Solution p ms g → Solution p ms h → h ≡ g
    one_only e g h s t = go (same_list h g) refl
      where
        go : (b : Bool) → same_list h g ≡ b → h ≡ g
        go true q = same_eq h g q
        go false q = absurd (omega (arith, two_several g h s t (λ z. true≢false (sym (same_refl g) ∙ ap (λ x. same_list x g) (sym z) ∙ q))))

    pub several_two : (g : List ℕ) → Solution p ms g → 2 ≤ number p ms → (h : List ℕ) × Solution p ms h × (h ≡ g → ⊥)
    unfolding number grids
    several_two g s l =
        let o = count_another (symbols p.size) (symbols_once p.size fits) (p.size * p.size) (solves p ms) g (solution_way s) s.right l in
        (o.0, way_solution o.1 o.2, o.3)

-- ---- the verdict is that of the number

pub verdict_none : (k : ℕ) → verdict_of k ≡ unsolvable → k ≡ 0
unfolding verdict_of
verdict_none zero e = refl
verdict_none (suc zero) e = let z : ◌≡◌ {A = ℕ} 0 1 = cc in absurd (omega arith)
verdict_none (suc (suc k)) e = let z : ◌≡◌ {A = ℕ} 0 1 = cc in absurd (omega arith)

pub verdict_one : (k : ℕ) → verdict_of k ≡ unique → k ≡ 1
unfolding verdict_of
verdict_one zero e = let z : ◌≡◌ {A = ℕ} 0 1 = cc in absurd (omega arith)
verdict_one (suc zero) e = refl
verdict_one (suc (suc k)) e = let z : ◌≡◌ {A = ℕ} 0 1 = cc in absurd (omega arith)

pub verdict_several : (k : ℕ) → verdict_of k ≡ multiple → 2 ≤ k
unfolding verdict_of
verdict_several zero e = let z : ◌≡◌ {A = ℕ} 0 1 = cc in absurd (omega arith)
verdict_several (suc zero) e = let z : ◌≡◌ {A = ℕ} 0 1 = cc in absurd (omega arith)
verdict_several (suc (suc k)) e = omega arith

-- a count to the cap 2 tells the verdict
pub verdict_capped : (k : ℕ) → verdict_of (min 2 k) ≡ verdict_of k
unfolding verdict_of
verdict_capped zero = refl
verdict_capped (suc zero) = refl
verdict_capped (suc (suc k)) = let e : min 2 (suc (suc k)) ≡ 2 = omega arith in rw e
