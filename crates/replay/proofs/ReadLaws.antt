-- What stands at the front of the room behind a read. Assumes nothing.
use Rattle.std.proofs.Common.{◌≡◌, ℕ, ◌+◌, ◌≤◌, List, ◌++◌, Option, arith, length, take, drop, sym, ap, ◌∙◌, subst, le_refl, length-append, length-take-le}
use Rattle.std.proofs.lemmas.Slice.{take-put_mid_below}
use Rattle.std.specs.Io.KnownBytes.{Consumes, Keeps}
use Rattle.std.proofs.KnownBytes.{Consumes-trans, Consumes-kept}
use borrow.Rule.Slice.PartMut.{put_mid, post_of}
use lib.Seq.{drop_at, take-add, take-append-le}

length_read : (a k n : ℕ) (xs ys : List ℕ) → a ≤ length xs → n ≤ length ys → a + n ≤ length (put_mid a k xs ys)
length_read a k n xs ys within fits =
    let post = post_of a k xs in
    omega (arith, length-append (take a xs) (ys ++ post), length-append ys post, length-take-le a xs within)

front_read : (a k n : ℕ) (xs ys : List ℕ) → a ≤ length xs → n ≤ length ys → take (a + n) (put_mid a k xs ys) ≡ take a xs ++ take n ys
front_read a k n xs ys within fits =
    let post = post_of a k xs in
    let all = put_mid a k xs ys in
    take-add a n all ∙ ap (λ l. l ++ take n (drop a all)) (take-put_mid_below a k xs ys a (le_refl a) within)
    ∙ ap (λ l. take a xs ++ take n l) (drop_at (take a xs) (ys ++ post) a (length-take-le a xs within)) ∙ ap (λ l. take a xs ++ l) (take-append-le n ys post fits)

-- The room holds what was read so far.
abbrev pub Filled : (r r' : Option (List ℕ)) (done : ℕ) (room : List ℕ) → Type 0
Filled r r' done room = (done ≤ length room) × Consumes r r' (take done room)

-- A read behind the reads before it.
pub filled_more : (r r' r'' : Option (List ℕ)) (done k n done' : ℕ) (room part : List ℕ) → done' ≡ done + n → n ≤ length part → Filled r r' done room
    → Consumes r' r'' (take n part) → Filled r r'' done' (put_mid done k room part)
filled_more r r' r'' done k n done' room part is fits f more =
    let all = put_mid done k room part in
    subst (λ m. Filled r r'' m all) (sym is)
    (length_read done k n room part f.0 fits, subst (Consumes r r'') (sym (front_read done k n room part f.0 fits)) (Consumes-trans r r' r'' _ _ f.1 more))

-- A read that gave nothing.
pub filled_kept : (r r' r'' : Option (List ℕ)) (done k done' : ℕ) (room part : List ℕ) → done' ≡ done → Filled r r' done room → Keeps r' r''
    → Filled r r'' done' (put_mid done k room part)
filled_kept r r' r'' done k done' room part is f kept =
    let all = put_mid done k room part in
    let long : done ≤ length all = omega (arith, length-append (take done room) (part ++ post_of done k room), length-take-le done room f.0) in
    subst (λ m. Filled r r'' m all) (sym is)
    (long, subst (Consumes r r'') (sym (take-put_mid_below done k room part done (le_refl done) f.0)) (Consumes-kept r r' r'' _ f.1 kept))
