-- A text at the front of a buffer, and one behind another. Assumes nothing.
use Rattle.std.proofs.Common.{ℕ, ◌+◌, ◌-◌, ◌≤◌, ◌≡◌, refl, sym, ap, ap₂, subst, ◌∙◌, List, [], ◌++◌, append_assoc, append-nil, length, take, drop, length-append, length-drop, arith}
use Rattle.std.proofs.lemmas.List.{take-append-drop, drop_all}
use lib.Seq.{length-take-le, take_at, drop_at, take_all, drop-drop}
use Rattle.text_stream.specs.Put.{Put}

pub put_none : (out : List ℕ) → Put [] 0 out out
put_none out = record { count = refl; bytes = refl; size = refl; fits = omega arith }

-- a part of the buffer from k on comes back with a text at its front
pub put_both : {a b : List ℕ} {k m : ℕ} {out l ys : List ℕ} → Put a k out l → Put b m (take (length l - k) (drop k l)) ys
    → Put (a ++ b) (k + m) out (take k l ++ (ys ++ drop (length l - k) (drop k l)))
put_both {a} {b} {k} {m} {out} {l} {ys} v w =
    let some = length-drop k l in
    let tail : drop k l ≡ drop k out = ap (drop k) v.bytes ∙ drop_at a (drop k out) k (sym v.count) in
    let head : take k l ≡ a = ap (take k) v.bytes ∙ take_at a (drop k out) k (sym v.count) in
    let part : take (length l - k) (drop k l) ≡ drop k l = take_all (length l - k) (drop k l) (omega arith) in
    let none : drop (length l - k) (drop k l) ≡ [] = drop_all (length l - k) (drop k l) (omega arith) in
    let rest : ys ≡ b ++ drop (k + m) out = w.bytes ∙ ap (λ t. b ++ drop m t) (part ∙ tail) ∙ ap (λ t. b ++ t) (drop-drop m k out) in
    let long : length ys ≡ length (drop k l) = w.size ∙ ap length part in
    let fits : length a + length (drop k out) ≡ length out = sym (length-append a (drop k out)) ∙ ap length (sym v.bytes) ∙ v.size in
    record {
      count = simp length-append (omega (arith, v.count, w.count));
      bytes = ap₂ ◌++◌ head (ap₂ ◌++◌ rest none ∙ append-nil (b ++ drop (k + m) out)) ∙ sym (append_assoc a b (drop (k + m) out));
      size = ap₂ (λ x y. length (x ++ (ys ++ y))) head none ∙ simp (length-append, append-nil) (omega (arith, ap length tail));
      fits = omega (arith, w.fits, v.count, ap length part, ap length tail);
    }

-- a text at the front of the part behind the first k bytes stands behind these
pub put_behind : (kept : List ℕ) {more ys : List ℕ} {k n room : ℕ} → length kept ≡ room → k ≤ room → Put more n (take (room - k) (drop k kept)) ys
    → take (k + n) (take k kept ++ (ys ++ drop (room - k) (drop k kept))) ≡ take k kept ++ more
put_behind kept {more} {ys} {k} {n} e =
    subst (λ s. k ≤ s → Put more n (take (s - k) (drop k kept)) ys → take (k + n) (take k kept ++ (ys ++ drop (s - k) (drop k kept))) ≡ take k kept ++ more) e
    (λ h w.
    let first : Put (take k kept) k kept kept =
    record { count = sym (length-take-le k kept h); bytes = sym (take-append-drop k kept); size = refl; fits = h } in
    let p = put_both first w in
    ap (take (k + n)) p.bytes ∙ take_at (take k kept ++ more) (drop (k + n) kept) (k + n) (sym p.count))
