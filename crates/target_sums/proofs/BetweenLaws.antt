-- The cells from place j of a line on: to the first black, and from there to the next. Assumes nothing.
use Prim.Native.Nat.{ℕ, ◌+◌, ◌*◌, ◌≤◌, ◌<◌}
use mathlib.Core.Path.{◌≡◌, sym, ◌∙◌}
use mathlib.Core.Bool.{true, false}
use mathlib.Core.List.{List, []}
use native.Mathlib.Omega.{arith}
use native.Mathlib.Numerals.{add-one}
use lib.ListN.{length, get_or, drop, drop_of_length-le}
use lib.Seq.{drop-cons}
use borrow.Author.Tests.{eq-eqb, ne_eqb}
use Rattle.tally.specs.Tally.{sum}
use Rattle.rules.specs.Grid.{is_black, until_black, inside}
use Rattle.rules.specs.Strided.{strided}
use Rattle.rules.proofs.StridedLaws.{strided_length, strided_at}

module _ (start stride : ℕ) (g : List ℕ) (n j : ℕ) where
  -- the cells behind the last one
  pub none_left : n ≤ j → drop j (strided start stride g n) ≡ []
  none_left h = let past : length (strided start stride g n) ≤ j = omega (arith, strided_length start stride g n) in drop_of_length-le (strided start stride g n) past

  module _ (h : j < n) where
    within : j < length (strided start stride g n)
    within = omega (arith, strided_length start stride g n)

    is_black_lem : get_or g (start + j * stride) 0 ≡ 255 → is_black (get_or (strided start stride g n) j 0) ≡ true
    is_black_lem e = eq-eqb _ _ (strided_at start stride g n j h ∙ e)

    is_white : (get_or g (start + j * stride) 0 ≡ 255 → ⊥) → is_black (get_or (strided start stride g n) j 0) ≡ false
    is_white e = ne_eqb _ _ (λ q. e (sym (strided_at start stride g n j h) ∙ q))

    -- the first black
    pub inside_found : get_or g (start + j * stride) 0 ≡ 255 → inside (drop j (strided start stride g n)) ≡ until_black (drop (j + 1) (strided start stride g n))
    unfolding inside
    inside_found e = rw (add-one, drop-cons (strided start stride g n) j 0 within, is_black_lem e)

    pub inside_skip : (get_or g (start + j * stride) 0 ≡ 255 → ⊥) → inside (drop j (strided start stride g n)) ≡ inside (drop (j + 1) (strided start stride g n))
    unfolding inside
    inside_skip e = rw (add-one, drop-cons (strided start stride g n) j 0 within, is_white e)

    -- the next one
    pub until_found : get_or g (start + j * stride) 0 ≡ 255 → sum (until_black (drop j (strided start stride g n))) ≡ 0
    unfolding until_black sum
    until_found e = rw (drop-cons (strided start stride g n) j 0 within, is_black_lem e)

    pub until_skip : (get_or g (start + j * stride) 0 ≡ 255 → ⊥) →
        sum (until_black (drop j (strided start stride g n))) ≡ get_or g (start + j * stride) 0 + sum (until_black (drop (j + 1) (strided start stride g n)))
    unfolding until_black sum
    until_skip e = rw (← strided_at start stride g n j h, add-one, drop-cons (strided start stride g n) j 0 within, is_white e)

  pub until_end : n ≤ j → sum (until_black (drop j (strided start stride g n))) ≡ 0
  unfolding until_black sum
  until_end h = rw (none_left h)

  pub inside_end : n ≤ j → inside (drop j (strided start stride g n)) ≡ until_black (drop j (strided start stride g n))
  unfolding inside until_black
  inside_end h = rw (none_left h)
