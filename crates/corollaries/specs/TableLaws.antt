-- Where a grid is left, there is one table that Candidates may write, whatever the order in which it strikes. Assumes nothing.
use Rattle.std.specs.Prelude.{ℕ, ◌<◌, ◌≡◌, true, List}
use Rattle.std.proofs.Math.Path.{sym, ap, subst}
use Rattle.std.proofs.Common.{◌∙◌, arith}
use Rattle.std.proofs.Math.Decide.{ℕ_discrete}
use borrow.Author.Tests.{eqb-true, eq-eqb}
use Rattle.tally.proofs.TallyLaws.{test_ext}
use Rattle.bits.specs.Bit.{bit}
use Rattle.bits.proofs.BitLaws.{bit_lt, bits_same}
use Rattle.rules.specs.Grid.{Puzzle, cell}
use Rattle.rules.specs.Number.{number}
use Rattle.table.specs.Table.{has_bit, table_of}
use Rattle.line_laws.proofs.GridLines.{grid_ext}
use Rattle.table.specs.Value.{IsValue}
use Rattle.soundness.proofs.StableLaws.{after_same}
use Rattle.candidates.specs.Remaining.{WrittenTable}

-- numbers with the same bits
same_bits : (x y : ℕ) → ((b : ℕ) → has_bit x b ≡ has_bit y b) → x ≡ y
unfolding has_bit bit
same_bits x y f = bits_same x y (λ b. each b (ℕ_discrete (bit b x) 1) (ℕ_discrete (bit b y) 1))
  where
    each : (b : ℕ) → Dec (bit b x ≡ 1) → Dec (bit b y ≡ 1) → bit b x ≡ bit b y
    each b (yes e) _ = e ∙ sym (eqb-true (bit b y) 1 (sym (f b) ∙ eq-eqb (bit b x) 1 e))
    each b (no d) (yes e) = absurd (d (eqb-true (bit b x) 1 (f b ∙ eq-eqb (bit b y) 1 e)))
    each b (no d) (no e) = omega (arith, bit_lt b x, bit_lt b y)

-- Two tables that keep its promise have equal masks.
pub one_written : (p : Puzzle) (ms a b : List ℕ) → 0 < number p ms → WrittenTable p ms a → WrittenTable p ms b → a ≡ b
unfolding table_of
one_written p ms a b h x y =
    grid_ext p.size a b x.size y.size (λ r c hr hc. same_bits (cell p.size a r c) (cell p.size b r c) (λ k.
    test_ext (has_bit (cell p.size a r c) k) (has_bit (cell p.size b r c) k) (onto a b x same r c hr hc k) (onto b a y (λ r c v hr hc m. sym (same r c v hr hc m)) r c hr hc k)))
  where
    Same : List ℕ → List ℕ → Type 0
    Same a b = (r c v : ℕ) → r < p.size → c < p.size → IsValue p.size v → table_of p.size a r c v ≡ table_of p.size b r c v

    same : Same a b
    same = after_same p ms (table_of p.size a) (table_of p.size b) (x.greatest h) (y.greatest h)

    onto : (a b : List ℕ) → WrittenTable p ms a → Same a b → (r c : ℕ) → r < p.size → c < p.size → (k : ℕ) → has_bit (cell p.size a r c) k ≡ true →
        has_bit (cell p.size b r c) k ≡ true
    onto a b x s r c hr hc k e =
        let u = x.plain r c k hr hc e in
        subst (λ k. has_bit (cell p.size b r c) k ≡ true) u.2 (sym (s r c u.0 hr hc u.1) ∙ ap (has_bit (cell p.size a r c)) u.2 ∙ e)
