-- Bytes fed one after the other, and the stream value from block to block. Assumes nothing.
use Rattle.std.proofs.Common.{ℕ, suc, ◌+◌, ◌-◌, ◌*◌, ◌≤◌, ◌<◌, ◌≡◌, refl, sym, ap, subst, ◌∙◌, Bool, true, false, not, cond, min, List, [], ◌∷◌, ◌++◌, append_assoc, append-nil, length, take, drop, length-append, Some, None, Result, IsOk, arith, add-one}
use Rattle.std.proofs.lemmas.Bool.{false≢true}
use Rattle.std.proofs.lemmas.List.{take-append-drop, take_rest}
use Rattle.std.proofs.lemmas.List.Quantifiers.{position-Some}
use Rattle.std.specs.List.{position, position_or_len}
use native.Mathlib.Decide.{dec_lt}
use lib.Dec.{eqb, ltb}
use lib.ListN.{length-take}
use lib.Seq.{take_all, take-append-le, take-append-add, length-take-le, drop-cons}
use borrow.Author.Tests.{eq-eqb, eqb-true, lt-ltb}
use Rattle.text_rules.specs.Answered.{Answered}
use Rattle.text_rules.specs.Stream.{line_end, Written, nothing, byte, ended, none, last, streamed}
use Rattle.text_line.specs.Line.{LineText, LineGiven}
use Rattle.text_stream.specs.declared.Stream.{Stream}
use Rattle.text_stream.specs.Fed.{Keeps, LineEnded, LineClosed, GoesOn}
use Rattle.text_stream.specs.Put.{Put}
use Rattle.text_stream.specs.Stream.{kept_bytes, Begun, BlockFed, BlockPut, LastGiven, LastPut}
use Rattle.text_stream.proofs.PutLaws.{put_none, put_both, put_behind}
use Rattle.text_stream.proofs.StreamLaws.{answered_short, answered_kept, written_then}

-- ---- a line end

module _ {T E : Type 0} {line : List ℕ} {room : ℕ} {told : Result T E} {out l : List ℕ} (h : 101 ≤ room) (w : LineGiven line room told out l) where
  given : LineText line out l
  given = (w.answered (omega arith)).1

  pub ended_ok : IsOk told
  ended_ok = (w.answered (omega arith)).0

  pub ended_room : length l ≤ length out + 100
  ended_room = omega (arith, ap length given.put, length-append out given.text, answered_short line given.text given.answers)

  pub line_ended : {l' : List ℕ} → l' ≡ l ++ line_end ∷ [] → LineEnded line out l'
  line_ended e =
      record {
        text = given.text;
        answers = given.answers;
        put = e ∙ ap (λ x. x ++ line_end ∷ []) given.put ∙ append_assoc out given.text (line_end ∷ []);
        most = omega (arith, ap length e, length-append l (line_end ∷ []), ended_room);
      }

-- ---- the bytes of a line

-- A byte is a line end.
abbrev pub is_end : ℕ → Bool
is_end b = eqb b line_end

-- Bytes in front of a line end go on with the line.
written_front : (begun xs : List ℕ) → Written begun (take (position_or_len is_end xs) xs) (begun ++ take (position_or_len is_end xs) xs) []
written_front begun [] = subst (λ l. Written begun [] l []) (sym (append-nil begun)) nothing
written_front begun (b ∷ xs) = go (is_end b) refl (written_front (begun ++ b ∷ []) xs)
  where
    front : Bool → List ℕ
    front t = take (cond (not t) (1 + position_or_len is_end xs) 0) (b ∷ xs)

    more : List ℕ
    more = take (position_or_len is_end xs) xs

    go : (t : Bool) → is_end b ≡ t → Written (begun ++ b ∷ []) more ((begun ++ b ∷ []) ++ more) [] → Written begun (front t) (begun ++ front t) []
    go true e w = subst (λ l. Written begun [] l []) (sym (append-nil begun)) nothing
    go false e w =
        let first : Written begun (b ∷ []) (begun ++ b ∷ []) [] = byte b (λ q. false≢true (sym e ∙ eq-eqb b line_end q)) nothing in
        let one : 1 + position_or_len is_end xs ≡ suc (position_or_len is_end xs) = omega arith in
        rw one (subst (λ l. Written begun (b ∷ more) l []) (append_assoc begun (b ∷ []) more) (written_then first w))

found : (t : Bool) (n i : ℕ) → cond t (Some n) None ≡ Some i → n ≡ i
found true n i e = cc
found false n i e = cc

lost : (n m : ℕ) → cond (ltb n m) (Some n) None ≡ None → m ≤ n
lost n m e = go (dec_lt n m)
  where
    go : Dec (n < m) → m ≤ n
    go (yes h) = let q : Some n ≡ None = rw (lt-ltb n m h) at e in cc
    go (no h) = omega arith

written_to_end : (begun xs : List ℕ) (i : ℕ) → position is_end xs ≡ Some i → Written begun (take i xs) (begun ++ take i xs) []
written_to_end begun xs i e =
    subst (λ n. Written begun (take n xs) (begun ++ take n xs) []) (found (ltb (position_or_len is_end xs) (length xs)) _ _ e) (written_front begun xs)

written_whole : (begun xs : List ℕ) → position is_end xs ≡ None → Written begun xs (begun ++ xs) []
written_whole begun xs e =
    subst (λ l. Written begun l (begun ++ l) []) (take_all (position_or_len is_end xs) xs (lost _ _ e)) (written_front begun xs)

-- What there is room for is kept.
kept_on : (line xs : List ℕ) {kept : List ℕ} → Keeps kept line → Keeps (kept ++ take (81 - length kept) xs) (line ++ xs)
kept_on line xs {kept} k = go (dec_lt (length line) 81)
  where
    go : Dec (length line < 81) → kept ++ take (81 - length kept) xs ≡ take 81 (line ++ xs)
    go (yes h) =
        let e : kept ≡ line = k ∙ take_all 81 line (omega arith) in
        let n : length line + (81 - length line) ≡ 81 = omega arith in
        ap (λ l. l ++ take (81 - length l) xs) e ∙ sym (take-append-add line xs (81 - length line)) ∙ ap (λ m. take m (line ++ xs)) n
    go (no h) =
        let n : 81 - length kept ≡ 0 = omega (arith, ap length k, length-take 81 line) in
        ap (λ m. kept ++ take m xs) n ∙ append-nil kept ∙ k ∙ sym (take-append-le 81 line xs (omega arith))

nothing_kept : (line : List ℕ) → 0 ≡ length (take 81 line) → line ≡ []
nothing_kept [] e = refl
nothing_kept (b ∷ line) e = absurd (omega arith)

-- As many as there is room for, or all.
taken : (xs : List ℕ) (n : ℕ) {m : ℕ} → m ≡ min (length xs) n → take m xs ≡ take n xs
taken xs n {m} e = go (dec_lt n (length xs))
  where
    go : Dec (n < length xs) → take m xs ≡ take n xs
    go (yes h) = let q : m ≡ n = omega (arith, e) in ap (λ k. take k xs) q
    go (no h) = take_all m xs (omega (arith, e)) ∙ sym (take_all n xs (omega arith))

-- They stand behind those that are kept.
pub kept_next : (bytes kept : List ℕ) {ys : List ℕ} {k m n : ℕ} → length kept ≡ 81 → k ≤ 81 → m ≡ min (length bytes) (81 - k)
    → Put (take m bytes) n (take (81 - k) (drop k kept)) ys
    → take (k + n) (take k kept ++ (ys ++ drop (81 - k) (drop k kept))) ≡ take k kept ++ take (81 - length (take k kept)) bytes
kept_next bytes kept {k = k} long h e w =
    let front : length (take k kept) ≡ k = length-take-le k kept (omega (arith, long)) in
    put_behind kept long h w ∙ ap (λ l. take k kept ++ l) (taken bytes (81 - k) e ∙ ap (λ i. take (81 - i) bytes) (sym front))

-- ---- a line that has begun ends

-- It is answered where it stands.
pub closed_whole : {kept more out out' : List ℕ} → length kept ≡ 0 → LineEnded more out out' → LineClosed kept more out out'
closed_whole {more = more} z v =
    record {
      text = v.text;
      answers = λ begun k. subst (λ l. Answered (l ++ more) v.text) (sym (nothing_kept begun (sym z ∙ ap length k))) v.answers;
      put = v.put;
      most = v.most;
    }

-- It goes on with what is kept.
pub closed_kept : {kept kept' more out out' : List ℕ} → kept' ≡ kept ++ take (81 - length kept) more → LineEnded kept' out out' → LineClosed kept more out out'
closed_kept {more = more} is v =
    record {
      text = v.text;
      answers = λ begun k. answered_kept (begun ++ more) v.text (subst (λ l. Answered l v.text) (is ∙ kept_on begun more k) v.answers);
      put = v.put;
      most = v.most;
    }

-- The text in a buffer of its own is to be written behind another.
closed_behind : {kept more empty piece : List ℕ} (out : List ℕ) → empty ≡ [] → LineClosed kept more empty piece → LineClosed kept more out (out ++ piece)
closed_behind {piece = piece} out e v =
    let is : piece ≡ v.text ++ line_end ∷ [] = v.put ∙ ap (λ l. l ++ (v.text ++ line_end ∷ [])) e in
    record {
      text = v.text;
      answers = v.answers;
      put = ap (λ l. out ++ l) is;
      most = omega (arith, v.most, ap length e, length-append out piece);
    }

-- ---- a block

-- What is passed of a block is fed.
pub record Feeding (block kept₀ out₀ rest kept out : List ℕ) : Type 0 where
  pub passed : List ℕ
  pub whole : block ≡ passed ++ rest
  pub count : length out ≤ length out₀ + 101 * length passed
  pub goes_on : (begun : List ℕ) → Keeps kept₀ begun → GoesOn begun passed out₀ kept out

pub feeding_start : (block kept out : List ℕ) → Feeding block kept out block kept out
feeding_start block kept out =
    record {
      passed = [];
      whole = refl;
      count = omega arith;
      goes_on = λ begun k. record { left = begun; output = []; writes = nothing; keeps = k; put = sym (append-nil out) };
    }

module _ {block kept₀ out₀ rest kept out : List ℕ} (w : Feeding block kept₀ out₀ rest kept out) where
  -- A line of the block, and its end.
  pub feeding_next : (i : ℕ) {kept' out' : List ℕ} → Some i ≡ position is_end rest → LineClosed kept (take i rest) out out' → kept' ≡ []
      → Feeding block kept₀ out₀ (take (length rest - (i + 1)) (drop (i + 1) rest)) kept' out'
  feeding_next i e v empty =
      let line : List ℕ = take i rest in
      let at_end = position-Some is_end rest i 0 (sym e) in
      let cut : drop i rest ≡ line_end ∷ drop (i + 1) rest =
      drop-cons rest i 0 at_end.0 ∙ rw (add-one i) (ap (λ b. b ∷ drop (suc i) rest) (eqb-true _ line_end at_end.1)) in
      let split : rest ≡ (line ++ line_end ∷ []) ++ drop (i + 1) rest =
      sym (take-append-drop i rest) ∙ ap (λ l. line ++ l) cut ∙ sym (append_assoc line (line_end ∷ []) (drop (i + 1) rest)) in
      record {
        passed = w.passed ++ (line ++ line_end ∷ []);
        whole =
            w.whole ∙ ap (λ l. w.passed ++ l) split ∙ sym (append_assoc w.passed (line ++ line_end ∷ []) (drop (i + 1) rest))
            ∙ ap (λ l. (w.passed ++ (line ++ line_end ∷ [])) ++ l) (sym (take_rest rest (i + 1)));
        count = omega (arith, v.most, w.count, length-append w.passed (line ++ line_end ∷ []), length-append line (line_end ∷ []));
        goes_on = λ begun k.
            let g = w.goes_on begun k in
            record {
              left = [];
              output = g.output ++ (v.text ++ line_end ∷ []);
              writes = written_then g.writes (ended v.text (v.answers g.left g.keeps) (written_to_end g.left rest i (sym e)));
              keeps = empty;
              put = v.put ∙ ap (λ l. l ++ (v.text ++ line_end ∷ [])) g.put ∙ append_assoc out₀ g.output (v.text ++ line_end ∷ []);
            };
      }

  -- What stands behind the last line end of the block.
  pub feeding_end : {s s' : Stream} → kept_bytes s ≡ kept₀ → None ≡ position is_end rest → kept_bytes s' ≡ kept ++ take (81 - length kept) rest
      → BlockFed s s' block out₀ out
  feeding_end {s} {s'} is₀ e is =
      record {
        carries = λ input output before.
            let g = w.goes_on before.left (sym is₀ ∙ before.keeps) in
            let on : Written before.left (w.passed ++ rest) (g.left ++ rest) (g.output ++ []) = written_then g.writes (written_whole g.left rest (sym e)) in
            let all : Written before.left block (g.left ++ rest) g.output = rw (w.whole, ← append-nil g.output) on in
            record {
              text = g.output;
              after = record { left = g.left ++ rest; writes = written_then before.writes all; keeps = is ∙ kept_on g.left rest g.keeps };
              put = g.put;
            };
      }

-- ---- a block whose texts stand at the front of a buffer

-- What is passed of a block is fed, and what is to be written for it stands at the front.
pub record FeedingPut (block kept₀ out₀ rest kept : List ℕ) (n : ℕ) (out : List ℕ) : Type 0 where
  pub text : List ℕ
  pub feeds : Feeding block kept₀ [] rest kept text
  pub put : Put text n out₀ out

pub feeding_put_start : (block kept out : List ℕ) → FeedingPut block kept out block kept 0 out
feeding_put_start block kept out = record { text = []; feeds = feeding_start block kept []; put = put_none out }

module _ {block kept₀ out₀ rest kept : List ℕ} {n : ℕ} {out : List ℕ} (w : FeedingPut block kept₀ out₀ rest kept n out) where
  -- A line of the block, and its end: its text, in a buffer of its own, is put behind those before.
  pub feeding_put_next : (i : ℕ) {kept' empty piece ys : List ℕ} {m : ℕ} → Some i ≡ position is_end rest → empty ≡ []
      → LineClosed kept (take i rest) empty piece → kept' ≡ [] → Put piece m (take (length out - n) (drop n out)) ys
      → FeedingPut block kept₀ out₀ (take (length rest - (i + 1)) (drop (i + 1) rest)) kept' (n + m) (take n out ++ (ys ++ drop (length out - n) (drop n out)))
  feeding_put_next i {piece = piece} e is v z p =
      record { text = w.text ++ piece; feeds = feeding_next w.feeds i e (closed_behind w.text is v) z; put = put_both w.put p }

  pub feeding_put_end : {s s' : Stream} → kept_bytes s ≡ kept₀ → None ≡ position is_end rest → kept_bytes s' ≡ kept ++ take (81 - length kept) rest
      → BlockPut s block out₀ (record { stream = s'; written = n }) out
  feeding_put_end {s} {s'} is₀ e is =
      record {
        count = w.put.fits;
        carries = λ input output before.
            let c = (feeding_end w.feeds {s = s} {s' = s'} is₀ e is).carries input output before in
            record { text = c.text; after = c.after; put = subst (λ t. Put t n out₀ out) c.put w.put };
      }

-- ---- the ends of the input

pub none_kept : (kept : List ℕ) {k : ℕ} → k ≡ 0 → take k kept ≡ []
none_kept kept e = ap (λ k. take k kept) e

pub begun : (s : Stream) → s.len ≡ 0 → Begun s
begun s e = record { left = []; writes = nothing; keeps = none_kept s.kept e }

pub last_none : {s : Stream} (out : List ℕ) → s.len ≡ 0 → LastGiven s out out
last_none {s} out z =
    record {
      ends = λ input output before.
          let q : 0 ≡ length (take 81 before.left) = sym (ap length (none_kept s.kept z)) ∙ ap length before.keeps in
          record { text = []; whole = streamed before.writes (none (nothing_kept before.left q)); put = sym (append-nil out) };
    }

pub last_line : {s : Stream} {out out' : List ℕ} → length s.kept ≡ 81 → (s.len ≡ 0 → ⊥) → LineEnded (kept_bytes s) out out' → LastGiven s out out'
last_line {s} long z w =
    record {
      ends = λ input output before.
          let n : length (kept_bytes s) ≡ s.len = length-take-le s.len s.kept (omega (arith, s.within)) in
          record {
            text = w.text ++ line_end ∷ [];
            whole =
                streamed before.writes
                (last w.text (λ q. z (sym n ∙ ap length before.keeps ∙ ap (λ l. length (take 81 l)) q))
                (answered_kept before.left w.text (subst (λ l. Answered l w.text) before.keeps w.answers)));
            put = w.put;
          };
    }

-- The same at the front of a buffer.
pub last_put : {s : Stream} {empty text out out' : List ℕ} {n : ℕ} → empty ≡ [] → LastGiven s empty text → Put text n out out' → LastPut s n out out'
last_put {out = out} {out' = out'} {n = n} e w p =
    record {
      count = p.fits;
      ends = λ input output before.
          let f = w.ends input output before in
          record { text = f.text; whole = f.whole; put = subst (λ t. Put t n out out') (f.put ∙ ap (λ l. l ++ f.text) e) p };
    }
