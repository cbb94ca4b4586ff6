-- How blocks are joined, and what is written for them. Assumes nothing.
use Rattle.std.proofs.Common.{◌≡◌, ◌≢◌, ℕ, List, [], ◌++◌, Option, None, Some, Result, Ok, Err, OnOk, OnErr, IfOk, MatchResult, is_ok, sym, ap, subst, ◌∙◌, append_assoc, append-nil, inl, inr}
use Rattle.std.proofs.lemmas.Bool.{false≢true}
use Rattle.std.specs.IoError.{error_kind}
use Rattle.std.specs.declared.io.Error.{Error}
use Rattle.std.specs.declared.io.ErrorKind.TheVariants.{Interrupted}
use Rattle.std.specs.Io.KnownBytes.{Appends, Consumes, IsAtEnd}
use Rattle.std.proofs.KnownBytes.{Consumes-trans, Appends-trans}
use Rattle.text_rules.specs.Stream.{Written, Streamed}
use Rattle.text_stream.specs.declared.Stream.{Stream}
use Rattle.text_stream.specs.Stream.{BlockFed, LastGiven}
use Rattle.output.specs.Output.{StartsOut}
use Rattle.sheet.specs.declared.Failure.{Failure}
use Rattle.sheet.specs.declared.Failure.TheVariants.{Read}
use Rattle.sheet.specs.Run.{ReadFailed, LinesAnswered, AllAnswered, PartAnswered}

-- ---- results, and the same with another error

-- The second result is the first with another error.
pub ok_told : {A E F : Type 0} (r : Result A E) (r' : Result A F) {P Q : Type 0} → is_ok r' ≡ is_ok r → OnOk r P → (P → Q) → OnOk r' Q
ok_told (Ok x) (Ok y) e p f = f p
ok_told (Err e) (Ok y) q p f = absurd (false≢true (sym q))
ok_told r (Err e) q p f = tt

pub err_told : {A E F : Type 0} (r : Result A E) (r' : Result A F) {P Q : Type 0} → is_ok r' ≡ is_ok r → OnErr r P → (P → Q) → OnErr r' Q
err_told (Err e) (Err e') q p f = f p
err_told (Ok x) (Err e) q p f = absurd (false≢true q)
err_told r (Ok y) q p f = tt

pub was_err : {A E F : Type 0} (r : Result A E) (r' : Result A F) {f : F} {P : Type 0} → is_ok r' ≡ is_ok r → r' ≡ Err f → OnErr r P → P
was_err (Ok x) r' q e p = absurd (false≢true (sym (ap is_ok e) ∙ q))
was_err (Err x) r' q e p = p

pub was_ok : {A E F : Type 0} (r : Result A E) (r' : Result A F) {x : A} {P : Type 0} → is_ok r' ≡ is_ok r → r' ≡ Ok x → OnOk r P → P
was_ok (Ok y) r' q e p = p
was_ok (Err y) r' q e p = absurd (false≢true (sym q ∙ ap is_ok e))

-- ---- a read that failed

-- What a failed read is to the program is nothing only where it was interrupted, and else tells that it failed.
pub read_failed :
    (e : Error) (r : Option Failure) {f : Failure} → (error_kind e ≡ Interrupted → r ≡ None) → (error_kind e ≢ Interrupted → r ≡ Some (Read e)) → r ≡ Some f
    → ReadFailed f
read_failed e r {f} again stops is =
    let other : error_kind e ≢ Interrupted = λ p. let q : Some f ≡ None = sym is ∙ again p in cc in
    let told : f ≡ Read e = let q : Some f ≡ Some (Read e) = sym is ∙ stops other in cc in
    subst ReadFailed (sym told) other

-- ---- the lines answered so far

module _ {r₀ r w₀ w : Option (List ℕ)} {s : Stream} (l : LinesAnswered r₀ r w₀ w s) where
  all_read : (r' : Option (List ℕ)) → Consumes r r' [] → Consumes r₀ r' l.input
  all_read r' reads = subst (Consumes r₀ r') (append-nil l.input) (Consumes-trans _ _ _ _ _ l.reads reads)

  -- Nothing more was read.
  pub lines_cut : {r' : Option (List ℕ)} → Consumes r r' [] → PartAnswered r₀ r' w₀ w
  lines_cut {r'} reads =
      record {
        input = l.input;
        text = l.text;
        cut = [];
        reads = all_read _ reads;
        writes = l.writes;
        outputs = inl (l.after.left, subst (Written [] l.input l.after.left) (sym (append-nil l.text)) l.after.writes);
      }

  -- A block more was read, and what is written for it stands in the buffer.
  module _ {r' w' : Option (List ℕ)} {s' : Stream} {block out out' : List ℕ} (reads : Consumes r r' block) (empty : out ≡ []) (fed : BlockFed s s' block out out') where
    pub lines_then : Appends w w' out' → LinesAnswered r₀ r' w₀ w' s'
    lines_then writes =
        let k = fed.carries l.input l.text l.after in
        let e : out' ≡ k.text = k.put ∙ ap (λ x. x ++ k.text) empty in
        record {
          input = l.input ++ block;
          text = l.text ++ k.text;
          reads = Consumes-trans _ _ _ _ _ l.reads reads;
          writes = Appends-trans _ _ _ _ _ l.writes (subst (Appends w w') e writes);
          after = k.after;
        }

    pub block_cut : StartsOut w w' out' → PartAnswered r₀ r' w₀ w'
    block_cut starts =
        let k = fed.carries l.input l.text l.after in
        let e : k.text ≡ starts.text ++ starts.cut = sym (k.put ∙ ap (λ x. x ++ k.text) empty) ∙ starts.whole in
        record {
          input = l.input ++ block;
          text = l.text ++ starts.text;
          cut = starts.cut;
          reads = Consumes-trans _ _ _ _ _ l.reads reads;
          writes = Appends-trans _ _ _ _ _ l.writes starts.writes;
          outputs =
              let t = ap (λ x. l.text ++ x) e ∙ sym (append_assoc l.text starts.text starts.cut) in
              inl (k.after.left, subst (Written [] (l.input ++ block) k.after.left) t k.after.writes);
        }

  -- The input has ended, and what is written for it stands in the buffer.
  module _ {r' w' : Option (List ℕ)} {out out' : List ℕ} (reads : Consumes r r' []) (empty : out ≡ []) (given : LastGiven s out out') where
    pub all_answered : IsAtEnd r' → Appends w w' out' → AllAnswered r₀ r' w₀ w'
    all_answered end writes =
        let k = given.ends l.input l.text l.after in
        let e : out' ≡ k.text = k.put ∙ ap (λ x. x ++ k.text) empty in
        record {
          input = l.input;
          output = l.text ++ k.text;
          reads = all_read _ reads;
          at_end = end;
          writes = Appends-trans _ _ _ _ _ l.writes (subst (Appends w w') e writes);
          streams = k.whole;
        }

    pub end_cut : StartsOut w w' out' → PartAnswered r₀ r' w₀ w'
    end_cut starts =
        let k = given.ends l.input l.text l.after in
        let e : k.text ≡ starts.text ++ starts.cut = sym (k.put ∙ ap (λ x. x ++ k.text) empty) ∙ starts.whole in
        record {
          input = l.input;
          text = l.text ++ starts.text;
          cut = starts.cut;
          reads = all_read _ reads;
          writes = Appends-trans _ _ _ _ _ l.writes starts.writes;
          outputs = inr (subst (Streamed l.input) (ap (λ x. l.text ++ x) e ∙ sym (append_assoc l.text starts.text starts.cut)) k.whole);
        }
