-- The six families of counters are fine, and which counter counts a candidate. Assumes nothing.
use Prim.Native.Nat.{ℕ, ◌+◌, ◌-◌, ◌/◌, ◌≤◌, ◌<◌}
use mathlib.Core.Path.{◌≡◌}
use mathlib.Core.Bool.{true}
use mathlib.Core.Logic.{◌⊎◌, inl, inr, ⊎_elim}
use mathlib.Core.List.{List}
use native.Mathlib.Omega.{arith}
use native.Mathlib.Decide.{dec_lt}
use lib.Dec.{ltb, leb}
use borrow.Author.Tests.{lt-ltb, le-ltb, le-leb, ltb-true, leb-true}
use Rattle.rules.specs.Grid.{Line, across, down}
use Rattle.tally.proofs.TallyLaws.{or_split}
use Rattle.queue_state.specs.Layout.{counters_at, row_half_at, places_at, row_blacks_at, lengths_at}
use Rattle.queue_state.specs.Slab.{tail, Grown}
use Rattle.queue_state.proofs.SlabLaws.{cand_lt}
use Rattle.queue_state.proofs.StruckLaws.{grown_gone}
use Rattle.queue_state.specs.Ready.{Moved}
use Rattle.set_cell.proofs.SettingLaws.{or_left, or_right}
use Rattle.counters.specs.Counters.{Fam, IsSet, AllSet, NoBlacks, in_line, half_value, place_along, halves_base, places_base, halves, line_places, blacks_base, own_black, cross_black, cell_blacks, HalvesOf, PlacesOf, BlacksOf, Halves, LinePlaces, Blacks}
use Rattle.counters.proofs.CounterLaws.{Fine, ruled_moved}

-- ---- the values of a half in order

-- The value j of a column half: a digit, or a black.
column_value : (j : ℕ) → ((j < 7) × (half_value (down 0) j ≡ j + 1)) ⊎ ((7 ≤ j) × (half_value (down 0) j ≡ j + 3))
column_value j = elim (dec_lt j 7) [ yes h ↦ inl (h, rw (lt-ltb j 7 h)) | no h ↦ inr (omega arith, rw (le-ltb j 7 (omega arith))) ]

pub value_narrow : (ℓ : Line) (j : ℕ) → j < 9 → (1 ≤ half_value ℓ j) × (half_value ℓ j < 12)
value_narrow (across r) j h = omega arith
value_narrow (down c) j h = ⊎_elim (λ q. omega (arith, q.0, q.1)) (λ q. omega (arith, q.0, q.1)) (column_value j)

pub value_once : (ℓ : Line) (j k : ℕ) → half_value ℓ j ≡ half_value ℓ k → j ≡ k
value_once (across r) j k e = omega arith
value_once (down c) j k e =
    ⊎_elim
    (λ q. ⊎_elim (λ u. omega (arith, q.0, q.1, u.0, u.1)) (λ u. omega (arith, q.0, q.1, u.0, u.1)) (column_value k))
    (λ q. ⊎_elim (λ u. omega (arith, q.0, q.1, u.0, u.1)) (λ u. omega (arith, q.0, q.1, u.0, u.1)) (column_value k))
    (column_value j)

pub value_in : (ℓ : Line) (j : ℕ) → j < 9 → in_line ℓ (half_value ℓ j) ≡ true
value_in (across r) j h = lt-ltb (j + 1) 10 (omega arith)
value_in (down c) j h =
    ⊎_elim
    (λ q. rw q.1 (or_left (ltb (j + 1) 8) (leb 10 (j + 1)) (lt-ltb (j + 1) 8 (omega (arith, q.0)))))
    (λ q. rw q.1 (or_right (ltb (j + 3) 8) (leb 10 (j + 3)) (le-leb 10 (j + 3) (omega (arith, q.0)))))
    (column_value j)

-- The place of a value in its half.
pub record HalfPlace (ℓ : Line) (v : ℕ) : Type 0 where
  pub place : ℕ
  pub small : place < 9
  pub is : half_value ℓ place ≡ v

pub half_place : (ℓ : Line) (v : ℕ) → 1 ≤ v → v < 12 → in_line ℓ v ≡ true → HalfPlace ℓ v
half_place (across r) v a b t = let h = ltb-true v 10 t in record { place = v - 1; small = omega arith; is = omega arith }
half_place (down c) v a b t =
    ⊎_elim
    (λ s. let h = ltb-true v 8 s in let q : v - 1 < 7 = omega arith in record {
      place = v - 1;
      small = omega arith;
      is = rw (lt-ltb (v - 1) 7 q)
          (omega arith);
    })
    (λ s. let h = leb-true 10 v s in let q : 7 ≤ v - 3 = omega arith in record {
      place = v - 3;
      small = omega arith;
      is = rw (le-ltb (v - 3) 7 q)
          (omega arith);
    })
    (or_split (ltb v 8) (leb 10 v) t)

-- ---- rules stay while the table shrinks

pub set_down : {l l' : List ℕ} {x v : ℕ} → v < 16 → Grown l l' → IsSet l x v → IsSet l' x v
set_down {l} {l'} {x} {v} h g s =
    record { struck = λ e y w k t. grown_gone g y w k (s.struck (omega (arith, g.sub x v h, cand_lt l x v)) y w k t) }

all_set_down : (F : Fam) → ((i j : ℕ) → i < F.size → j < F.n → F.value i j < 16) → (l l' : List ℕ) (i : ℕ) → i < F.size → Grown l l' → AllSet F l i →
    AllSet F l' i
all_set_down F narrow l l' i h g r j k = set_down (narrow i j h k) g (r j k)

blacks_down : (k : ℕ) → k < 15 → (l l' : List ℕ) (x : ℕ) → Grown l l' → NoBlacks k l x → NoBlacks k l' x
blacks_down k h l l' x g r = (grown_gone g x k (omega arith) r.0, grown_gone g x (k + 1) (omega arith) r.1)

-- ---- the families

pub fine_halves : (ℓ : Line) → Fine (halves ℓ) (AllSet (halves ℓ))
fine_halves ℓ =
    record {
      from = from ℓ;
      within = λ n i h u. omega (arith, u.0);
      narrow = λ i j a b. omega (arith, value_narrow ℓ j (omega arith));
      once = λ i j i' j' a b a' b' e d. (e, value_once ℓ j j' d);
      down = all_set_down (halves ℓ) (λ i j a b. omega (arith, value_narrow ℓ j (omega arith)));
    }
  where
    from : (ℓ : Line) → counters_at ≤ halves_base ℓ
    from (across r) = omega arith
    from (down c) = omega arith

place_once : (ℓ : Line) (k j k' j' : ℕ) → k < 9 → j < 9 → k' < 9 → j' < 9 → place_along ℓ k j ≡ place_along ℓ k' j' → (k ≡ k') × (j ≡ j')
place_once (across r) k j k' j' h₁ h₂ h₃ h₄ e = omega arith
place_once (down c) k j k' j' h₁ h₂ h₃ h₄ e = omega arith

pub fine_places : (ℓ : Line) → Fine (line_places ℓ) (AllSet (line_places ℓ))
fine_places ℓ =
    record {
      from = from ℓ;
      within = λ n i h u. omega (arith, u.0);
      narrow = λ i j a b. omega arith;
      once = λ i j i' j' a b a' b' e d.
          let q = place_once ℓ (i / 16) j (i' / 16) j' (omega arith) b (omega arith) b' e in (omega (arith, q.0), q.1);
      down = all_set_down (line_places ℓ) (λ i j a b. omega arith);
    }
  where
    from : (ℓ : Line) → counters_at ≤ places_base ℓ
    from (across r) = omega arith
    from (down c) = omega arith

pub black_range : (ℓ : Line) → (row_blacks_at ≤ blacks_base ℓ) × (blacks_base ℓ + 81 ≤ lengths_at) × (own_black ℓ < 11) × (cross_black ℓ < 11)
black_range (across r) = omega arith
black_range (down c) = omega arith

pub fine_blacks : (ℓ : Line) → Fine (cell_blacks ℓ) (NoBlacks (cross_black ℓ))
fine_blacks ℓ =
    record {
      from = omega (arith, black_range ℓ);
      within = λ n i h u. omega (arith, u.0);
      narrow = λ i j a b. omega (arith, black_range ℓ);
      once = λ i j i' j' a b a' b' e d. (e, omega arith);
      down = λ l l' i h g r. blacks_down (cross_black ℓ) (omega (arith, black_range ℓ)) l l' i g r;
    }

-- ---- they stay while counters elsewhere move

module _ {n a b h : ℕ} {l l' : List ℕ} (z : n ≤ 9) (m : Moved l l' a b) (k : h ≤ tail l) where
  pub half_moved : (ℓ : Line) → (halves_base ℓ + 81 ≤ a) ⊎ (b ≤ halves_base ℓ) → HalvesOf ℓ n l h → HalvesOf ℓ n l' h
  half_moved ℓ d w = ruled_moved (halves ℓ) 1 (AllSet (halves ℓ)) (fine_halves ℓ) n z m d k w

  pub place_moved : (ℓ : Line) → (places_base ℓ + 144 ≤ a) ⊎ (b ≤ places_base ℓ) → PlacesOf ℓ n l h → PlacesOf ℓ n l' h
  place_moved ℓ d w = ruled_moved (line_places ℓ) 1 (AllSet (line_places ℓ)) (fine_places ℓ) n z m d k w

  pub black_moved : (ℓ : Line) → (blacks_base ℓ + 81 ≤ a) ⊎ (b ≤ blacks_base ℓ) → BlacksOf ℓ n l h → BlacksOf ℓ n l' h
  black_moved ℓ d w = ruled_moved (cell_blacks ℓ) 0 (NoBlacks (cross_black ℓ)) (fine_blacks ℓ) n z m d k w

  pub halves_moved : (places_at ≤ a) ⊎ (b ≤ row_half_at) → Halves n l h → Halves n l' h
  halves_moved d w =
      record {
        rows = half_moved (across 0) (⊎_elim (λ x. inl (omega arith)) (λ x. inr (omega arith)) d) w.rows;
        columns = half_moved (down 0) (⊎_elim (λ x. inl (omega arith)) (λ x. inr (omega arith)) d) w.columns;
      }

  pub places_moved : (row_blacks_at ≤ a) ⊎ (b ≤ places_at) → LinePlaces n l h → LinePlaces n l' h
  places_moved d w =
      record {
        rows = place_moved (across 0) (⊎_elim (λ x. inl (omega arith)) (λ x. inr (omega arith)) d) w.rows;
        columns = place_moved (down 0) (⊎_elim (λ x. inl (omega arith)) (λ x. inr (omega arith)) d) w.columns;
      }

  pub blacks_moved : (lengths_at ≤ a) ⊎ (b ≤ row_blacks_at) → Blacks n l h → Blacks n l' h
  blacks_moved d w =
      record {
        rows = black_moved (across 0) (⊎_elim (λ x. inl (omega arith)) (λ x. inr (omega arith)) d) w.rows;
        columns = black_moved (down 0) (⊎_elim (λ x. inl (omega arith)) (λ x. inr (omega arith)) d) w.columns;
      }
