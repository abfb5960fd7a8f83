-- A number of two words of W digits, hi * 2 ^ W + lo: its digits from a place on, and the number moved down and up with new digits.
use mathlib.Core.Path.{◌≡◌, sym, ap, ap₂, ◌∙◌, subst}
use Prim.Native.Nat.{ℕ, ◌+◌, ◌-◌, ◌*◌, ◌/◌, ◌%◌, ◌^◌, ◌≤◌, ◌<◌}
use native.Mathlib.Nat.{mul_assoc, add-mul, add_assoc, mul-mod_left, mod-eq_of_lt, add-zero, add_comm, mul-add-div_right, mul-add-mod_self_right, mul_right_comm, lt_of_le_of_lt, lt_of_lt_of_le}
use native.Mathlib.Omega.{arith}
use lib.Pow.{pow_pos, pow-add, pow_mono, shr_lt, shl-shr, shl_exact, shr-shr, shr_le, mod-pow-add, mod-mod-pow, high, low, split}
use lib.Bits.{bit_or, or_shifted_r}

-- a shifted number's low digits
shl_mod : (n t k : ℕ) → n * 2 ^ k % 2 ^ (t + k) ≡ n % 2 ^ t * 2 ^ k
shl_mod n t k =
    mod-pow-add (n * 2 ^ k) t k
    ∙ ap₂ (λ (x y : ℕ). x % 2 ^ t * 2 ^ k + y) (shl-shr n k) (mul-mod_left n (2 ^ k))
    ∙ add-zero (n % 2 ^ t * 2 ^ k)

-- the whole number moved down by t
join_shr : (hi lo t k : ℕ) → (hi * 2 ^ (t + k) + lo) / 2 ^ t ≡ hi * 2 ^ k + lo / 2 ^ t
join_shr hi lo t k =
    ap (λ (x : ℕ). (x + lo) / 2 ^ t)
    (ap (λ (x : ℕ). hi * x) (ap (λ (e : ℕ). 2 ^ e) (add_comm t k) ∙ pow-add 2 k t) ∙ sym (mul_assoc hi (2 ^ k) (2 ^ t)))
    ∙ mul-add-div_right (pow_pos t) (hi * 2 ^ k) lo

window_low : (hi lo t k : ℕ) → lo < 2 ^ (t + k) → bit_or (lo / 2 ^ t) (hi * 2 ^ k % 2 ^ (t + k)) ≡ (hi * 2 ^ (t + k) + lo) / 2 ^ t % 2 ^ (t + k)
window_low hi lo t k h =
    let b : lo / 2 ^ t < 2 ^ k = shr_lt k t (rw add_comm at h) in
    ap (bit_or (lo / 2 ^ t)) (shl_mod hi t k)
    ∙ or_shifted_r (hi % 2 ^ t) k (lo / 2 ^ t) b
    ∙ sym (ap (λ (x : ℕ). x % 2 ^ (t + k)) (join_shr hi lo t k)
    ∙ mod-pow-add (hi * 2 ^ k + lo / 2 ^ t) t k
    ∙ ap₂ (λ (x y : ℕ). x % 2 ^ t * 2 ^ k + y) (high hi k b) (low hi k b))

-- `(lo >> t) | (hi << (W - t))`
pub window_within : (W hi lo t : ℕ) → t ≤ W → lo < 2 ^ W → bit_or (lo / 2 ^ t) (hi * 2 ^ (W - t) % 2 ^ W) ≡ (hi * 2 ^ W + lo) / 2 ^ t % 2 ^ W
window_within W hi lo t g =
    let e : t + (W - t) ≡ W = omega arith in
    subst (λ (x : ℕ). lo < 2 ^ x → bit_or (lo / 2 ^ t) (hi * 2 ^ (W - t) % 2 ^ x) ≡ (hi * 2 ^ x + lo) / 2 ^ t % 2 ^ x) e
    (window_low hi lo t (W - t))

-- `hi >> (t - W)`
pub window_above : (W hi lo t : ℕ) → W ≤ t → hi < 2 ^ W → lo < 2 ^ W → hi / 2 ^ (t - W) ≡ (hi * 2 ^ W + lo) / 2 ^ t % 2 ^ W
window_above W hi lo t g hh hl =
    let e : W + (t - W) ≡ t = omega arith in
    sym (ap (λ (x : ℕ). (hi * 2 ^ W + lo) / 2 ^ x % 2 ^ W) (sym e)
    ∙ ap (λ (x : ℕ). x % 2 ^ W) (sym (shr-shr (hi * 2 ^ W + lo) W (t - W)) ∙ ap (λ (x : ℕ). x / 2 ^ (t - W)) (high hi W hl))
    ∙ mod-eq_of_lt (lt_of_le_of_lt (shr_le hi (t - W)) hh))

-- the high word, moved down
high_shr : (W hi lo j : ℕ) → lo < 2 ^ W → (hi * 2 ^ W + lo) / 2 ^ j / 2 ^ W ≡ hi / 2 ^ j
high_shr W hi lo j h =
    let n : ℕ = hi * 2 ^ W + lo in
    shr-shr n j W ∙ ap (λ (x : ℕ). n / 2 ^ x) (add_comm j W) ∙ sym (shr-shr n W j) ∙ ap (λ (x : ℕ). x / 2 ^ j) (high hi W h)

-- digits from place p on, over a number m of fewer digits than p
over_low : (q p new m : ℕ) → m < 2 ^ p → new / 2 ^ q * 2 ^ (q + p) + bit_or m (new * 2 ^ p % 2 ^ (q + p)) ≡ new * 2 ^ p + m
over_low q p new m h =
    ap₂ (λ (x y : ℕ). new / 2 ^ q * x + y) (pow-add 2 q p) (ap (bit_or m) (shl_mod new q p) ∙ or_shifted_r (new % 2 ^ q) p m h)
    ∙ ap (λ (x : ℕ). x + (new % 2 ^ q * 2 ^ p + m)) (sym (mul_assoc (new / 2 ^ q) (2 ^ q) (2 ^ p)))
    ∙ sym (add_assoc (new / 2 ^ q * 2 ^ q * 2 ^ p) (new % 2 ^ q * 2 ^ p) m)
    ∙ ap (λ (x : ℕ). x + m) (sym (add-mul (new / 2 ^ q * 2 ^ q) (new % 2 ^ q) (2 ^ p)) ∙ ap (λ (x : ℕ). x * 2 ^ p) (split new q))

-- a number moved down by w, with w new digits from place p on, where p is in the low word
pub push_low : (W n w p new : ℕ) → p ≤ W → n < 2 ^ (w + p) → new / 2 ^ (W - p) * 2 ^ W + bit_or (n / 2 ^ w % 2 ^ W) (new * 2 ^ p % 2 ^ W) ≡ new * 2 ^ p + n / 2 ^ w
push_low W n w p new g h =
    let e : W - p + p ≡ W = omega arith in
    let b : n / 2 ^ w < 2 ^ p = shr_lt p w (rw add_comm at h) in
    let s : n / 2 ^ w % 2 ^ W ≡ n / 2 ^ w = mod-eq_of_lt (lt_of_lt_of_le b (pow_mono g)) in
    ap (λ (x : ℕ). new / 2 ^ (W - p) * 2 ^ W + bit_or x (new * 2 ^ p % 2 ^ W)) s
    ∙ subst (λ (x : ℕ). new / 2 ^ (W - p) * 2 ^ x + bit_or (n / 2 ^ w) (new * 2 ^ p % 2 ^ x) ≡ new * 2 ^ p + n / 2 ^ w) e
    (over_low (W - p) p new (n / 2 ^ w) b)

-- the same where p is in the high word
pub push_high : (W hi lo w p new : ℕ) → W ≤ p → w + p ≤ W + W → lo < 2 ^ W → new < 2 ^ w → hi * 2 ^ W + lo < 2 ^ (w + p)
    → bit_or (hi / 2 ^ w) (new * 2 ^ (p - W) % 2 ^ W) * 2 ^ W + (hi * 2 ^ W + lo) / 2 ^ w % 2 ^ W ≡ new * 2 ^ p + (hi * 2 ^ W + lo) / 2 ^ w
push_high W hi lo w p new g t hl hn h =
    let n : ℕ = hi * 2 ^ W + lo in
    let q : ℕ = p - W in
    let e : q + W ≡ p = omega arith in
    let m : ℕ = n / 2 ^ w in
    let b : m < 2 ^ (q + W) = rw e (shr_lt p w (subst (λ (x : ℕ). n < 2 ^ x) (add_comm w p) h)) in
    let s : hi / 2 ^ w ≡ m / 2 ^ W = sym (high_shr W hi lo w hl) in
    let c : m / 2 ^ W < 2 ^ q = shr_lt q W b in
    let x : new * 2 ^ q % 2 ^ W ≡ new * 2 ^ q = shl_exact w q W hn (omega arith) in
    ap₂ (λ (y z : ℕ). bit_or y z * 2 ^ W + m % 2 ^ W) s x
    ∙ ap (λ (y : ℕ). y * 2 ^ W + m % 2 ^ W) (or_shifted_r new q (m / 2 ^ W) c)
    ∙ ap (λ (y : ℕ). y + m % 2 ^ W) (add-mul (new * 2 ^ q) (m / 2 ^ W) (2 ^ W))
    ∙ add_assoc (new * 2 ^ q * 2 ^ W) (m / 2 ^ W * 2 ^ W) (m % 2 ^ W)
    ∙ ap₂ (λ (y z : ℕ). y + z) (mul_assoc new (2 ^ q) (2 ^ W) ∙ ap (λ (y : ℕ). new * y) (sym (pow-add 2 q W) ∙ ap (λ (y : ℕ). 2 ^ y) e)) (split m W)

-- ---- moved up

-- both words moved up by n make the number moved up by n, where nothing drops out
pub words_shl : (W n hi lo : ℕ) → n ≤ W → (hi * 2 ^ W + lo) * 2 ^ n < 2 ^ (W + W)
    → (hi * 2 ^ W + lo) / 2 ^ (W - n) % 2 ^ W * 2 ^ W + lo * 2 ^ n % 2 ^ W ≡ (hi * 2 ^ W + lo) * 2 ^ n
words_shl W n hi lo g h =
    let v : ℕ = hi * 2 ^ W + lo in
    let e : n + (W - n) ≡ W = omega arith in
    let above : v / 2 ^ (W - n) ≡ v * 2 ^ n / 2 ^ W =
    ap (λ (x : ℕ). x / 2 ^ (W - n)) (sym (shl-shr v n)) ∙ shr-shr (v * 2 ^ n) n (W - n) ∙ ap (λ (x : ℕ). v * 2 ^ n / 2 ^ x) e in
    let below : lo * 2 ^ n % 2 ^ W ≡ v * 2 ^ n % 2 ^ W =
    sym (ap (λ (x : ℕ). x % 2 ^ W) (add-mul (hi * 2 ^ W) lo (2 ^ n) ∙ ap (λ (x : ℕ). x + lo * 2 ^ n) (mul_right_comm hi (2 ^ W) (2 ^ n)))
    ∙ mul-add-mod_self_right (hi * 2 ^ n) (2 ^ W) (lo * 2 ^ n)) in
    ap₂ (λ (x y : ℕ). x * 2 ^ W + y) (ap (λ (x : ℕ). x % 2 ^ W) above ∙ mod-eq_of_lt (shr_lt W W h)) below ∙ split (v * 2 ^ n) W

-- a number moved up by w, with w new digits below; its q digits of the high word are those below place p. The high word is moved up and
-- down again by e, so that what is above falls out.
pub pull_words : (W q r w e p hi lo new : ℕ) → r + w ≡ W → q + e ≡ W → q + r ≡ p → lo < 2 ^ W → new < 2 ^ w
    → (hi * 2 ^ W + lo) / 2 ^ r % 2 ^ W * 2 ^ e % 2 ^ W / 2 ^ e * 2 ^ W + bit_or new (lo * 2 ^ w % 2 ^ W) ≡ (hi * 2 ^ W + lo) % 2 ^ p * 2 ^ w + new
pull_words W q r w e p hi lo new er ee ep hl hn =
    let n : ℕ = hi * 2 ^ W + lo in
    let v : ℕ = n / 2 ^ r % 2 ^ W in
    let above : v * 2 ^ e % 2 ^ W / 2 ^ e ≡ n / 2 ^ r % 2 ^ q =
    ap (λ (x : ℕ). v * 2 ^ e % 2 ^ x / 2 ^ e) (sym ee)
    ∙ ap (λ (x : ℕ). x / 2 ^ e) (shl_mod v q e)
    ∙ shl-shr (v % 2 ^ q) e
    ∙ ap (λ (x : ℕ). n / 2 ^ r % 2 ^ x % 2 ^ q) (sym (add_comm e q ∙ ee))
    ∙ mod-mod-pow (n / 2 ^ r) e q in
    let kept : lo % 2 ^ r ≡ n % 2 ^ r =
    ap (λ (x : ℕ). x % 2 ^ r) (sym (low hi W hl)) ∙ ap (λ (x : ℕ). n % 2 ^ x % 2 ^ r) (sym (add_comm w r ∙ er)) ∙ mod-mod-pow n w r in
    let below : bit_or new (lo * 2 ^ w % 2 ^ W) ≡ n % 2 ^ r * 2 ^ w + new =
    ap (λ (x : ℕ). bit_or new (lo * 2 ^ w % 2 ^ x)) (sym er)
    ∙ ap (bit_or new) (shl_mod lo r w ∙ ap (λ (x : ℕ). x * 2 ^ w) kept)
    ∙ or_shifted_r (n % 2 ^ r) w new hn in
    let word : 2 ^ W ≡ 2 ^ r * 2 ^ w = ap (λ (x : ℕ). 2 ^ x) (sym er) ∙ pow-add 2 r w in
    ap₂ (λ (x y : ℕ). x * 2 ^ W + y) above below
    ∙ ap (λ (x : ℕ). n / 2 ^ r % 2 ^ q * x + (n % 2 ^ r * 2 ^ w + new)) word
    ∙ ap (λ (x : ℕ). x + (n % 2 ^ r * 2 ^ w + new)) (sym (mul_assoc (n / 2 ^ r % 2 ^ q) (2 ^ r) (2 ^ w)))
    ∙ sym (add_assoc (n / 2 ^ r % 2 ^ q * 2 ^ r * 2 ^ w) (n % 2 ^ r * 2 ^ w) new)
    ∙ ap (λ (x : ℕ). x + new) (sym (add-mul (n / 2 ^ r % 2 ^ q * 2 ^ r) (n % 2 ^ r) (2 ^ w)))
    ∙ ap (λ (x : ℕ). x * 2 ^ w + new) (sym (mod-pow-add n q r) ∙ ap (λ (x : ℕ). n % 2 ^ x) ep)
