-- The answer of Candidates over bytes from that over lent entries. Assumes nothing.
use Prim.Native.Nat.{ℕ, ◌*◌, ◌≤◌, min}
use mathlib.Core.Path.{◌≡◌, refl, sym, ap, ◌∙◌, subst}
use mathlib.Core.Logic.{inl, inr, ⊎_elim}
use mathlib.Core.List.{List}
use native.Mathlib.Omega.{arith}
use native.Mathlib.Decide.{ℕ_discrete}
use native.Mathlib.Nat.{mul-le-mul}
use lib.ListN.{length}
use Rattle.std.specs.Prelude.{⊤, Result, Ok, Err}
use Rattle.refusal.specs.declared.Refusal.{Refusal}
use Rattle.refusal.specs.Number.{refusal_number, number_of}
use Rattle.units.specs.declared.Unit.{Unit}
use Rattle.rules.specs.Grid.{Puzzle}
use Rattle.rules.specs.Check.{checked, refusal, count_checks, solve_checks}
use Rattle.rules.proofs.CheckLaws.{passed_number, passed_checks}
use Rattle.table.specs.Table.{entries_of}
use Rattle.engine.proofs.CountLaws.{count_asked}
use Rattle.engine.proofs.SolveLaws.{refused_count, refused_7, refused_0, solve_asked}
use Rattle.candidates.specs.declared.Outcome.{Outcome}
use Rattle.candidates.specs.declared.Outcome.TheVariants.{Contradicted, Written}
use Rattle.candidates.specs.Remaining.{WrittenTable, TableGiven}
use Rattle.table_bytes.specs.Entries.{most_lent}
use Rattle.table_bytes.proofs.EntryLaws.{entries_bytes}
use Rattle.host.specs.Number.{table_number, TableNumbered}

-- ---- the most entries that are lent are refused as any larger number is

module _ (u : Unit) (p : Puzzle) (ms : List ℕ) where
  accepted_square : Ok tt ≡ checked (count_checks u p ms) → p.size * p.size ≤ 81
  accepted_square z = (count_asked u p ms (passed_number _ (sym z))).puzzle.size.square

  lent_checked : (k : ℕ) → checked (solve_checks u p ms (min k most_lent)) ≡ checked (solve_checks u p ms k)
  lent_checked k = go (checked (count_checks u p ms)) refl
    where
      go : (r : Result ⊤ Refusal) → r ≡ checked (count_checks u p ms) → checked (solve_checks u p ms (min k most_lent)) ≡ checked (solve_checks u p ms k)
      go (Err f) z = sym (refused_count u p ms (min k most_lent) f z) ∙ refused_count u p ms k f z
      go (Ok tt) z =
          let s = accepted_square z in
          elim (ℕ_discrete k (p.size * p.size)) [
            | yes e ↦ sym (refused_0 u p ms (min k most_lent) z (omega arith)) ∙ refused_0 u p ms k z e
            | no e ↦ sym (refused_7 u p ms (min k most_lent) z (λ q. e (omega arith))) ∙ refused_7 u p ms k z e
          ]

-- ---- the answer

-- Candidates answered over lent entries: as many as the bytes have, up to the most.
module _ {u : Unit} {p : Puzzle} {ms es es' : List ℕ} {a : Result Outcome Refusal} (bs : List ℕ) (lent : length es ≡ min (length (entries_of bs)) most_lent) (g : TableGiven u p ms a es es') where
  same : checked (solve_checks u p ms (length es)) ≡ checked (solve_checks u p ms (length (entries_of bs)))
  same = ap (λ k. checked (solve_checks u p ms k)) lent ∙ lent_checked u p ms (length (entries_of bs))

  -- what is not written leaves the bytes
  unwritten : {k : ℕ} → (a ≡ Ok Written → ⊥) → k ≡ table_number a → TableNumbered u p ms k bs bs
  unwritten n e =
      record {
        answer = a;
        given = record {
          refused = λ k x. ((g.refused k (same ∙ x)).0, refl);
          answered = λ x. ⊎_elim (λ w. absurd (n w.0)) (λ w. inr (w.0, w.1, refl)) (g.answered (same ∙ x));
        };
        number_is = e;
        untouched = λ _. refl;
      }

  pub numbered_refused : {k : Refusal} → a ≡ Err k → TableNumbered u p ms (refusal_number k) bs bs
  numbered_refused {k} e = unwritten (λ w. let z : Ok Written ≡ Err k = sym w ∙ e in cc) (sym (ap table_number e))

  pub numbered_none : a ≡ Ok Contradicted → TableNumbered u p ms 100 bs bs
  numbered_none e = unwritten (λ w. let z : ◌≡◌ {A = Result Outcome Refusal} (Ok Written) (Ok Contradicted) = sym w ∙ e in cc) (sym (ap table_number e))

  module _ (e : a ≡ Ok Written) where
    taken : refusal (solve_checks u p ms (length es)) ≡ 0
    unfolding refusal
    taken = go (checked (solve_checks u p ms (length es))) refl
      where
        go : (r : Result ⊤ Refusal) → checked (solve_checks u p ms (length es)) ≡ r → number_of r ≡ 0
        go (Ok tt) z = refl
        go (Err k) z = let q : Ok Written ≡ Err k = sym e ∙ (g.refused k z).0 in cc

    passed : checked (solve_checks u p ms (length es)) ≡ Ok tt
    passed = passed_checks _ taken

    -- the bytes have room for the entries
    pub written_room : length es' ≡ length es → length bs ≡ 2 * length es'
    written_room l =
        let a = solve_asked u p ms (length es) taken in
        let s = a.count.puzzle.size in
        let some : 4 ≤ p.size * p.size = mul-le-mul s.low s.low in
        let all : length es ≡ length (entries_of bs) = omega (arith, lent, a.room, s.square, some) in
        omega (arith, all, l, entries_bytes bs (omega (arith, all, a.room, some)))

    pub numbered_written : {bs' : List ℕ} → entries_of bs' ≡ es' → TableNumbered u p ms 0 bs bs'
    numbered_written q =
        record {
          answer = a;
          given = record {
            refused = λ k x. let z : Ok tt ≡ Err k = sym passed ∙ same ∙ x in cc;
            answered = λ x. ⊎_elim (λ w. inl (w.0, subst (WrittenTable p ms) (sym q) w.1))
                (λ w. let z : ◌≡◌ {A = Result Outcome Refusal} (Ok Written) (Ok Contradicted) = sym e ∙ w.0 in cc) (g.answered (same ∙ x));
          };
          number_is = sym (ap table_number e);
          untouched = λ x. absurd (x refl);
        }
