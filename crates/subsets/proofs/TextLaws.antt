-- The line of a subset piece by piece, and the lines of the table one after the other. Assumes nothing.
use Rattle.std.proofs.Common.{ℕ, ◌+◌, ◌<◌, ◌≤◌, ◌≡◌, sym, ap, ◌∙◌, List, [], ◌∷◌, ◌++◌, append_assoc, append-nil, get_or, take, add-one}
use Rattle.std.proofs.lemmas.Grind.{flat_map-append}
use Rattle.std.proofs.lemmas.List.Folds.{flat_map-map}
use lib.Seq.{take-suc, take_all}
use Rattle.std.specs.Fmt.{decimal}
use Rattle.std.specs.Prelude.{flat_map}
use Rattle.table.specs.Closed.{printed}
use Rattle.subset_table.specs.declared.Subset.{Subset}
use Rattle.subset_table.specs.declared.TheConstants.{SUBSETS}
use Rattle.subset_table.specs.Subsets.{subset_of, no_digits}
use Rattle.subset_table.proofs.SubsetFacts.{subsets_printed}
use Rattle.subsets.specs.Text.{subset_line, printed_text}

-- three numbers and what stands behind each are a line
pub line_put : (out : List ℕ) (s : Subset) {a b c d e f : List ℕ} → a ≡ out ++ decimal s.mask → b ≡ a ++ 32 ∷ [] → c ≡ b ++ decimal s.sum → d ≡ c ++ 32 ∷ [] →
    e ≡ d ++ decimal s.size → f ≡ e ++ 10 ∷ [] → f ≡ out ++ subset_line s
unfolding subset_line
line_put out s p q r t u v =
    rw (v, u, t, r, q, p)
    (append_assoc (out ++ decimal s.mask ++ 32 ∷ [] ++ decimal s.sum ++ 32 ∷ []) (decimal s.size) (10 ∷ [])
    ∙ append_assoc (out ++ decimal s.mask ++ 32 ∷ [] ++ decimal s.sum) (32 ∷ []) (decimal s.size ++ 10 ∷ [])
    ∙ append_assoc (out ++ decimal s.mask ++ 32 ∷ []) (decimal s.sum) (32 ∷ (decimal s.size ++ 10 ∷ []))
    ∙ append_assoc (out ++ decimal s.mask) (32 ∷ []) (decimal s.sum ++ 32 ∷ (decimal s.size ++ 10 ∷ []))
    ∙ append_assoc out (decimal s.mask) (32 ∷ (decimal s.sum ++ 32 ∷ (decimal s.size ++ 10 ∷ []))))

-- one line more
lines_next : (i : ℕ) → i < 128 →
    flat_map subset_line (take (i + 1) SUBSETS) ≡ flat_map subset_line (take i SUBSETS) ++ subset_line (get_or SUBSETS i no_digits)
lines_next i h =
    ap (λ k. flat_map subset_line (take k SUBSETS)) (add-one i)
    ∙ ap (flat_map subset_line) (take-suc SUBSETS i no_digits h)
    ∙ flat_map-append subset_line (take i SUBSETS) (get_or SUBSETS i no_digits ∷ [])
    ∙ ap (λ l. flat_map subset_line (take i SUBSETS) ++ l) (append-nil (subset_line (get_or SUBSETS i no_digits)))

pub lines_put : (i : ℕ) → i < 128 → (out : List ℕ) {a b : List ℕ} → a ≡ out ++ flat_map subset_line (take i SUBSETS) →
    b ≡ a ++ subset_line (get_or SUBSETS i no_digits) → b ≡ out ++ flat_map subset_line (take (i + 1) SUBSETS)
lines_put i h out e f =
    f
    ∙ ap (λ l. l ++ subset_line (get_or SUBSETS i no_digits)) e
    ∙ append_assoc out (flat_map subset_line (take i SUBSETS)) (subset_line (get_or SUBSETS i no_digits))
    ∙ ap (λ l. out ++ l) (sym (lines_next i h))

-- the lines of the whole table are those of the subsets as they are printed
pub lines_all : (i : ℕ) → 128 ≤ i → flat_map subset_line (take i SUBSETS) ≡ printed_text
unfolding printed_text
lines_all i h =
    ap (flat_map subset_line) (take_all i SUBSETS h ∙ subsets_printed)
    ∙ flat_map-map subset_line subset_of (printed 9)
