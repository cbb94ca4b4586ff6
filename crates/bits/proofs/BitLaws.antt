-- Laws of single bits, of counts of ones and of trailing zeros. Assumes nothing.
use mathlib.Core.Path.{◌≡◌, refl, sym, ap, ◌∙◌}
use Prim.Native.Nat.{ℕ, zero, suc, ◌+◌, ◌-◌, ◌*◌, ◌/◌, ◌%◌, ◌^◌, min, max, ◌≤◌, ◌<◌}
use native.Mathlib.Nat.{mod-eq_of_lt, mod-lt, pow-suc}
use native.Mathlib.Numerals.{one-add}
use native.Mathlib.Omega.{arith}
use lib.Dec.{lit<}
use lib.Arith.{digits_mod}
use lib.Pow.{pow_pos, pow_mono, pow-lt, shr-shr}
use lib.Count.{ones, ones_step, count_trailing_zeros, under}
use lib.Bits.{bit_and, bit_or, and_shr, or_shr, and_step, or_step}
use Rattle.bits.specs.Bit.{bit}
use Rattle.bits.specs.Sum.{sum_over}
use Rattle.bits.proofs.SumLaws.{sum_shift}

pub bit_lt : (k x : ℕ) → bit k x < 2
unfolding bit
bit_lt k x = mod-lt (x / 2 ^ k) (lit< tt)

min_lt : (a b : ℕ) → a < 2 → min a b < 2
min_lt a b h = omega arith

max_lt : (a b : ℕ) → a < 2 → b < 2 → max a b < 2
max_lt a b h k = omega arith

pub bit_and_lem : (k a b : ℕ) → bit k (bit_and a b) ≡ min (bit k a) (bit k b)
unfolding bit
bit_and_lem k a b =
    ap (λ (x : ℕ). x % 2) (and_shr a b k ∙ and_step (a / 2 ^ k) (b / 2 ^ k))
    ∙ digits_mod (bit_and (a / 2 ^ k / 2) (b / 2 ^ k / 2)) (min_lt (a / 2 ^ k % 2) (b / 2 ^ k % 2) (mod-lt (a / 2 ^ k) (lit< tt)))

pub bit_or_lem : (k a b : ℕ) → bit k (bit_or a b) ≡ max (bit k a) (bit k b)
unfolding bit
bit_or_lem k a b =
    ap (λ (x : ℕ). x % 2) (or_shr a b k ∙ or_step (a / 2 ^ k) (b / 2 ^ k))
    ∙ digits_mod (bit_or (a / 2 ^ k / 2) (b / 2 ^ k / 2)) (max_lt (a / 2 ^ k % 2) (b / 2 ^ k % 2) (mod-lt (a / 2 ^ k) (lit< tt)) (mod-lt (b / 2 ^ k) (lit< tt)))

pub bit_zero : (x : ℕ) → bit 0 x ≡ x % 2
unfolding bit
bit_zero x = ap (λ (y : ℕ). y % 2) (omega arith)

pub bit_suc : (k x : ℕ) → bit (suc k) x ≡ bit k (x / 2)
unfolding bit
bit_suc k x = ap (λ (y : ℕ). y % 2) (sym (shr-shr x 1 k ∙ ap (λ (j : ℕ). x / 2 ^ j) (one-add k)))

comp_half : (p m : ℕ) → m < p * 2 → (p * 2 - 1 - m) / 2 ≡ p - 1 - m / 2
comp_half p m h = omega arith

comp_odd : (p m : ℕ) → m < p * 2 → (p * 2 - 1 - m) % 2 ≡ 1 - m % 2
comp_odd p m h = omega arith

pub bit_not : (w k m : ℕ) → k < w → m < 2 ^ w → bit k (2 ^ w - 1 - m) ≡ 1 - bit k m
bit_not zero k m h g = absurd (omega arith)
bit_not (suc w) zero m h g =
    bit_zero _ ∙ rw pow-suc (comp_odd (2 ^ w) m (rw pow-suc at g)) ∙ ap (λ (y : ℕ). 1 - y) (sym (bit_zero m))
bit_not (suc w) (suc k) m h g =
    let g2 : m < 2 ^ w * 2 = rw pow-suc at g in
    bit_suc k _ ∙ ap (bit k) (rw pow-suc (comp_half (2 ^ w) m g2)) ∙ bit_not w k (m / 2) (omega arith) (omega arith) ∙ ap (λ (y : ℕ). 1 - y) (sym (bit_suc k m))

-- two numbers of w bits with the same bits are equal
pub bit_ext : (w a b : ℕ) → a < 2 ^ w → b < 2 ^ w → ((k : ℕ) → k < w → bit k a ≡ bit k b) → a ≡ b
bit_ext zero a b ha hb e = omega arith
bit_ext (suc w) a b ha hb e =
    let ha2 : a < 2 ^ w * 2 = rw pow-suc at ha in
    let hb2 : b < 2 ^ w * 2 = rw pow-suc at hb in
    let e0 : a % 2 ≡ b % 2 = sym (bit_zero a) ∙ e 0 (omega arith) ∙ bit_zero b in
    let ih : a / 2 ≡ b / 2 = bit_ext w (a / 2) (b / 2) (omega arith) (omega arith) (λ k h. sym (bit_suc k a) ∙ e (suc k) (omega arith) ∙ bit_suc k b) in
    omega arith

pub bit_none : (k : ℕ) → bit k 0 ≡ 0
bit_none zero = bit_zero 0
bit_none (suc k) = bit_suc k 0 ∙ bit_none k

-- a single bit
pub bit_pow_same : (k : ℕ) → bit k (2 ^ k) ≡ 1
bit_pow_same zero = bit_zero 1
bit_pow_same (suc k) = bit_suc k _ ∙ ap (bit k) (rw pow-suc (omega arith)) ∙ bit_pow_same k

pub bit_pow_other : (k j : ℕ) → (k ≡ j → ⊥) → bit k (2 ^ j) ≡ 0
bit_pow_other zero zero n = absurd (n refl)
bit_pow_other zero (suc j) n = bit_zero _ ∙ rw pow-suc (omega arith)
bit_pow_other (suc k) zero n = bit_suc k 1 ∙ bit_none k
bit_pow_other (suc k) (suc j) n = bit_suc k _ ∙ ap (bit k) (rw pow-suc (omega arith)) ∙ bit_pow_other k j (λ e. n (ap suc e))

-- ---- counts
pub ones_0 : ones 0 ≡ 0
unfolding ones
ones_0 = refl

ones_1 : ones 1 ≡ 1
unfolding ones
ones_1 = refl

ones_digit : (d : ℕ) → d < 2 → ones d ≡ d
ones_digit zero h = ones_0
ones_digit (suc zero) h = ones_1
ones_digit (suc (suc d)) h = absurd (omega arith)

pub ones_none : (w x : ℕ) → x < 2 ^ w → ones x ≡ 0 → x ≡ 0
ones_none zero x h e = omega arith
ones_none (suc w) x h e =
    let h2 : x < 2 ^ w * 2 = rw pow-suc at h in
    let s : x % 2 + ones (x / 2) ≡ 0 = sym (ones_step x) ∙ e in
    let ih : x / 2 ≡ 0 = ones_none w (x / 2) (omega arith) (omega arith) in
    omega arith

-- one set bit: a power of two
pub ones_one : (w x : ℕ) → x < 2 ^ w → ones x ≡ 1 → (k : ℕ) × (k < w) × (x ≡ 2 ^ k)
ones_one zero x h e = absurd (let z : x ≡ 0 = omega arith in let y : ones x ≡ 0 = ap ones z ∙ ones_0 in omega arith)
ones_one (suc w) x h e =
    let h2 : x < 2 ^ w * 2 = rw pow-suc at h in
    let s : x % 2 + ones (x / 2) ≡ 1 = sym (ones_step x) ∙ e in
    go (λ a b. ones_one w (x / 2) a b) h2 s (x % 2) refl
  where
    go : (x / 2 < 2 ^ w → ones (x / 2) ≡ 1 → (k : ℕ) × (k < w) × (x / 2 ≡ 2 ^ k)) → x < 2 ^ w * 2 → x % 2 + ones (x / 2) ≡ 1 → (d : ℕ) → x % 2 ≡ d → (k : ℕ) × (k < suc w) × (x ≡ 2 ^ k)
    go ih h2 s zero p =
        let r = ih (omega arith) (omega arith) in
        (suc r.0, omega (arith, r.1), rw pow-suc (omega (arith, r.2)))
    go ih h2 s (suc d) p =
        let z : x / 2 ≡ 0 = ones_none w (x / 2) (omega arith) (omega arith) in
        (0, omega arith, omega arith)

-- trailing zeros: the place of the lowest set bit
under_zero : (d t : ℕ) → d ≡ 0 → under d t ≡ suc t
under_zero d t e = ap (λ (x : ℕ). under x t) e

pub trailing_pow : (w k : ℕ) → k < w → count_trailing_zeros w (2 ^ k) ≡ k
unfolding count_trailing_zeros
trailing_pow zero k h = absurd (omega arith)
trailing_pow (suc w) zero h = refl
trailing_pow (suc w) (suc k) h =
    under_zero (2 ^ suc k % 2) (count_trailing_zeros w (2 ^ suc k / 2)) (rw pow-suc (omega arith))
    ∙ ap (λ (x : ℕ). suc (count_trailing_zeros w x)) (rw pow-suc (omega arith))
    ∙ ap suc (trailing_pow w k (omega arith))

pub record Lowest (w x k : ℕ) : Type 0 where
  pub in_width : k < w
  pub here : bit k x ≡ 1
  pub below : (j : ℕ) → j < k → bit j x ≡ 0

pub trailing_lowest : (w x : ℕ) → x < 2 ^ w → 0 < x → Lowest w x (count_trailing_zeros w x)
unfolding count_trailing_zeros
trailing_lowest zero x h p = absurd (omega arith)
trailing_lowest (suc w) x h p = go (λ a b. trailing_lowest w (x / 2) a b) (rw pow-suc at h) (x % 2) refl
  where
    go : (x / 2 < 2 ^ w → 0 < x / 2 → Lowest w (x / 2) (count_trailing_zeros w (x / 2))) → x < 2 ^ w * 2 → (d : ℕ) → x % 2 ≡ d → Lowest (suc w) x (under (x % 2) (count_trailing_zeros w (x / 2)))
    go ih h2 zero e = rw e (
        let r = ih (omega arith) (omega arith) in
        record { in_width = omega (arith, r.in_width); here = bit_suc _ x ∙ r.here; below = low r.below })
      where
        low : ((j : ℕ) → j < count_trailing_zeros w (x / 2) → bit j (x / 2) ≡ 0) → (j : ℕ) → j < suc (count_trailing_zeros w (x / 2)) → bit j x ≡ 0
        low f zero g = bit_zero x ∙ e
        low f (suc j) g = bit_suc j x ∙ f j (omega arith)
    go ih h2 (suc d) e = rw e (record { in_width = omega arith; here = bit_zero x ∙ omega arith; below = λ j g. absurd (omega arith) })

-- the ones of a number of w bits are its bits, summed
pub ones_sum : (w x : ℕ) → x < 2 ^ w → ones x ≡ sum_over 0 w (λ (k : ℕ). bit k x)
unfolding sum_over
ones_sum zero x h = let z : x ≡ 0 = omega arith in rw z ones_0
ones_sum (suc w) x h =
    let h2 : x < 2 ^ w * 2 = rw pow-suc at h in
    let ih = ones_sum w (x / 2) (omega arith) in
    ones_step x ∙ omega (arith, sum_shift w (λ (k : ℕ). bit k x) (λ (k : ℕ). bit k (x / 2)) (λ k. bit_suc k x), bit_zero x)

-- ---- taking one bit away

pub bit_le : (v x : ℕ) → bit v x ≡ 1 → 2 ^ v ≤ x
bit_le zero x e = omega (arith, bit_zero x)
bit_le (suc v) x e = let ih = bit_le v (x / 2) (sym (bit_suc v x) ∙ e) in rw pow-suc (omega arith)

pub bit_taken : (v x : ℕ) → bit v x ≡ 1 → bit v (x - 2 ^ v) ≡ 0
bit_taken zero x e = bit_zero _ ∙ omega (arith, bit_zero x)
bit_taken (suc v) x e =
    let f = sym (bit_suc v x) ∙ e in
    let half : (x - 2 ^ v * 2) / 2 ≡ x / 2 - 2 ^ v = omega (arith, bit_le v (x / 2) f) in
    bit_suc v _ ∙ rw (pow-suc, half) (bit_taken v (x / 2) f)

pub bit_kept : (v x w : ℕ) → bit v x ≡ 1 → (w ≡ v → ⊥) → bit w (x - 2 ^ v) ≡ bit w x
bit_kept zero x zero e d = absurd (d refl)
bit_kept zero x (suc w) e d =
    let o = bit_zero x in
    let half : (x - 1) / 2 ≡ x / 2 = omega arith in
    bit_suc w _ ∙ ap (bit w) half ∙ sym (bit_suc w x)
bit_kept (suc v) x zero e d =
    let f = sym (bit_suc v x) ∙ e in
    let odd : (x - 2 ^ v * 2) % 2 ≡ x % 2 = omega (arith, bit_le v (x / 2) f) in
    bit_zero _ ∙ rw pow-suc odd ∙ sym (bit_zero x)
bit_kept (suc v) x (suc w) e d =
    let f = sym (bit_suc v x) ∙ e in
    let half : (x - 2 ^ v * 2) / 2 ≡ x / 2 - 2 ^ v = omega (arith, bit_le v (x / 2) f) in
    bit_suc w _ ∙ rw (pow-suc, half) (bit_kept v (x / 2) w f (λ q. d (ap suc q))) ∙ sym (bit_suc w x)

-- a number with no set bit below w is 0
pub bits_none : (w x : ℕ) → x < 2 ^ w → ((k : ℕ) → k < w → bit k x ≡ 0) → x ≡ 0
bits_none w x h e = bit_ext w x 0 h (pow_pos w) (λ k l. e k l ∙ sym (bit_none k))

-- numbers with the same bits are equal
pub bits_same : (x y : ℕ) → ((k : ℕ) → bit k x ≡ bit k y) → x ≡ y
bits_same x y f = bit_ext (x + y) x y (wide x (x + y) (omega arith)) (wide y (x + y) (omega arith)) (λ k _. f k)
  where
    below : (x : ℕ) → x < 2 ^ x
    below zero = omega arith
    below (suc x) = rw pow-suc (omega (arith, below x))

    wide : (k w : ℕ) → k ≤ w → k < 2 ^ w
    wide k w h = let m : 2 ^ k ≤ 2 ^ w = pow_mono h in omega (arith, below k)

-- `1 << k` of 16 bits
pub shl_one : (k : ℕ) → k < 16 → 1 * 2 ^ k % 65536 ≡ 2 ^ k
shl_one k h = let z : 1 * 2 ^ k ≡ 2 ^ k = omega arith in rw z (mod-eq_of_lt (pow-lt h))
