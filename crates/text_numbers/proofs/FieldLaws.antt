-- The fields of a line, as its bytes are split at the spaces. Assumes nothing.
use Rattle.std.proofs.Common.{ℕ, ◌+◌, ◌*◌, ◌≤◌, ◌<◌, ◌≡◌, refl, sym, ap, subst, ◌∙◌, Bool, true, false, true≢false, cond, List, [], ◌∷◌, ◌++◌, map, append-nil, append_assoc, length, length-append, Some, None, Bor, arith}
use lib.Dec.{eqb}
use lib.ListN.{get_or}
use borrow.Author.Tests.{le-leb, lt-leb}
use denote.Param.Members.{Mut}
use Rattle.std.specs.Bool.{MatchBool, then_some}
use Rattle.std.specs.Fn.{ComputesKey}
use Rattle.std.specs.List.{All, slice_split, onto_first, IsFirstMatchOrLen}
use Rattle.std.specs.Slice.Iter.{split_rest, split_done, split_callee, split_steps}
use Rattle.std.specs.declared.slice.Split.{Split}
use Rattle.std.proofs.lemmas.List.Splits.{slice_split_none, slice_split_at}
use Rattle.std.proofs.lemmas.Grind.{common_steps}
use Rattle.tally.specs.Tally.{all}
use Rattle.text_rules.specs.Fields.{space, in_first, fields, value, is_decimal, shaped, well_formed, numbers}

-- A byte is a space.
abbrev pub is_space : ℕ → Bool
is_space b = eqb b space

first_same : (b : ℕ) (fs : List (List ℕ)) → in_first b fs ≡ onto_first b fs
unfolding in_first
first_same b [] = refl
first_same b (f ∷ fs) = refl

fields_split : (l : List ℕ) → fields l ≡ slice_split is_space l
unfolding fields
fields_split [] = refl
fields_split (b ∷ l) =
    let e = fields_split l in
    ap (λ t. cond (is_space b) ([] ∷ t) (in_first b t)) e ∙ ap (λ t. cond (is_space b) ([] ∷ slice_split is_space l) t) (first_same b (slice_split is_space l))

-- The fields that are left.
abbrev pub fields_left : Bool → List ℕ → List (List ℕ)
fields_left finished rest = cond finished [] (fields rest)

-- A part that is split off is the first field of what was left.
part : (rest x rest' : List ℕ) (finished : Bool) → MatchBool finished (rest ≡ x) ((b : ℕ) × (rest ≡ x ++ b ∷ rest'))
    → IsFirstMatchOrLen is_space rest (length x) → fields rest ≡ x ∷ fields_left finished rest'
part rest x rest' true e h =
    fields_split rest ∙ ap (slice_split is_space) e
    ∙ slice_split_none is_space x (λ k d l. subst (λ ys. is_space (get_or ys k d) ≡ false) e (h.0 k d (omega arith) l))
part rest x rest' false e h =
    let front : All (λ z. is_space z ≡ false) x = λ k d l. let a = h.0 k d (omega arith) l in let b = e.1 in grind (arith, common_steps) in
    let hit : is_space e.0 ≡ true = let b = e.1 in let a = h.1 (grind (arith, common_steps)) e.0 in grind (arith, common_steps) in
    fields_split rest ∙ ap (slice_split is_space) e.1 ∙ slice_split_at is_space x e.0 rest' front hit ∙ ap (λ t. x ∷ t) (sym (fields_split rest'))

-- The numbers of the fields that are passed are read.
pub record Reading (line rest : List ℕ) (finished : Bool) (read : List ℕ) : Type 0 where
  pub tests : all is_decimal (fields line) ≡ all is_decimal (fields_left finished rest)
  pub values : numbers line ≡ read ++ map value (fields_left finished rest)
  pub spread : 2 * length read + cond finished 0 (length rest + 1) ≤ length line + 1

pub reading_start : (line : List ℕ) → Reading line line false []
unfolding numbers
reading_start line = record { tests = refl; values = refl; spread = omega arith }

pub reading_end : {line rest : List ℕ} {finished : Bool} {read : List ℕ} → Reading line rest finished read → finished ≡ true → length line ≤ 80
    → (well_formed line ≡ true) × (read ≡ numbers line)
unfolding well_formed all
reading_end {line} {rest} {finished} {read} w e h = (
  rw (le-leb (length line) 80 h) (w.tests ∙ ap (λ t. all is_decimal (fields_left t rest)) e),
  sym (w.values ∙ ap (λ t. read ++ map value (fields_left t rest)) e ∙ append-nil read),
)

pub line_long : (line : List ℕ) → 80 < length line → well_formed line ≡ false
unfolding well_formed
line_long line h = rw (lt-leb (length line) 80 h)

some_byte : (f : List ℕ) → is_decimal f ≡ true → 1 ≤ length f
unfolding is_decimal shaped
some_byte [] e = absurd (true≢false (sym e))
some_byte (b ∷ f) e = omega arith

none_false : (b : Bool) (v : ℕ) → None ≡ then_some b v → b ≡ false
none_false true v e = cc
none_false false v e = refl

some_true : (b : Bool) (v w : ℕ) → Some w ≡ then_some b v → (b ≡ true) × (w ≡ v)
some_true true v w e = (refl, cc)
some_true false v w e = cc

-- A field x is split off.
module _ {F : Type 0} (g : Mut F (Bor ℕ × Unit {0}) Bool) (s t : Split ℕ F) (x : Bor (List ℕ)) {line read : List ℕ}
    (by : ComputesKey g is_space (split_callee s)) (k : split_steps g s (Some x) t) (w : Reading line (split_rest s) (split_done s) read) where
  is_first : fields_left (split_done s) (split_rest s) ≡ x.now ∷ fields_left (split_done t) (split_rest t)
  is_first = ap (λ b. fields_left b (split_rest s)) k.0 ∙ part _ _ _ _ k.1 (k.2 is_space by).1

  pub reading_room : 2 * length read + length (split_rest s) ≤ length line
  reading_room = omega (arith, w.spread, ap (λ b. cond b 0 (length (split_rest s) + 1)) k.0)

  pub reading_none : None ≡ then_some (is_decimal x.now) (value x.now) → length line ≤ 80 → well_formed line ≡ false
  unfolding well_formed all
  reading_none e h =
      rw (le-leb (length line) 80 h) (w.tests ∙ ap (all is_decimal) is_first ∙ rw (none_false _ _ e))

  passed : (finished : Bool) (rest : List ℕ) → MatchBool finished (split_rest s ≡ x.now) ((b : ℕ) × (split_rest s ≡ x.now ++ b ∷ rest)) → 1 ≤ length x.now
      → 2 + cond finished 0 (length rest + 1) ≤ length (split_rest s) + 1
  passed true rest e h = omega (arith, ap length e)
  passed false rest e h = omega (arith, ap length e.1, length-append x.now (e.0 ∷ rest))

  pub reading_next : {v : ℕ} → Some v ≡ then_some (is_decimal x.now) (value x.now) → Reading line (split_rest t) (split_done t) (read ++ v ∷ [])
  unfolding all
  reading_next {v} e =
      let d = some_true _ _ _ e in
      record {
        tests = w.tests ∙ ap (all is_decimal) is_first ∙ rw d.0;
        values =
            w.values ∙ ap (λ t. read ++ map value t) is_first ∙ ap (λ u. read ++ u ∷ map value (fields_left (split_done t) (split_rest t))) (sym d.1)
            ∙ sym (append_assoc read (v ∷ []) (map value (fields_left (split_done t) (split_rest t))));
        spread = omega (arith, length-append read (v ∷ []), reading_room, passed _ _ k.1 (some_byte x.now d.0));
      }
