-- A number of p + w digits moved up by w, with w new digits below: n % 2 ^ p * 2 ^ w + new. Its bits, and the register before w steps.
use mathlib.Core.List.{List, [], ◌∷◌, ◌++◌}
use mathlib.Core.Logic.{⊎_elim, ◌⊎◌, inl, inr}
use mathlib.Core.Path.{◌≡◌, refl, sym, ap, ap₂, ◌∙◌}
use Prim.Native.Nat.{ℕ, zero, suc, ◌+◌, ◌-◌, ◌*◌, ◌/◌, ◌%◌, ◌^◌, ◌≤◌, ◌<◌}
use native.Mathlib.Nat.{add_comm, le_trans, mod-lt, div-eq_of_lt}
use native.Mathlib.Omega.{arith}
use lib.Arith.{digits_lt}
use lib.ListN.{drop}
use lib.Pow.{pow_pos, pow_mono, pow-add, high, low, split}
use Rattle.quark.specs.Bytes.{tabulate}
use Rattle.quark.specs.Word.{word_bit, word_bits}
use Rattle.quark.proofs.Word.{word_bit-shr, word_bit-mod, snoc-word_bits, move_word_bits}

-- new bits that are those of a number
pub tabulate-word : (m w : ℕ) (b : ℕ → ℕ) → ((j : ℕ) → j < w → b j ≡ word_bit m j) → tabulate w b ≡ word_bits w m
unfolding tabulate word_bits
tabulate-word m zero b h = refl
tabulate-word m (suc w) b h =
    ap₂ (λ (l : List ℕ) (v : ℕ). l ++ (v ∷ [])) (tabulate-word m w b (λ j g. h j (omega arith))) (h w (omega arith)) ∙ sym (snoc-word_bits w m)

-- a number below 2 ^ w has no bit from w on
pub past_end : (n w i : ℕ) → n < 2 ^ w → w ≤ i → word_bit n i ≡ 0
unfolding word_bit
past_end n w i small more = ap (λ (x : ℕ). x % 2) (div-eq_of_lt (le_trans small (pow_mono more)))

-- a bit below w is new
pub low_bit : (n w a i : ℕ) → a < 2 ^ w → i < w → word_bit (n * 2 ^ w + a) i ≡ word_bit a i
low_bit n w a i h less = sym (word_bit-mod (n * 2 ^ w + a) w i less) ∙ ap (λ (x : ℕ). word_bit x i) (low n w h)

-- the others have moved up
pub high_bit : (n w a i : ℕ) → a < 2 ^ w → w ≤ i → word_bit (n * 2 ^ w + a) i ≡ word_bit n (i - w)
high_bit n w a i h more =
    let e : w + (i - w) ≡ i = omega arith in
    ap (word_bit (n * 2 ^ w + a)) (sym e) ∙ sym (word_bit-shr (n * 2 ^ w + a) w (i - w)) ∙ ap (λ (x : ℕ). word_bit x (i - w)) (high n w h)

pub below : (k n : ℕ) → (k < n) ⊎ (n ≤ k)
below k zero = inr (omega arith)
below zero (suc n) = inl (omega arith)
below (suc k) (suc n) = ⊎_elim (λ h. inl (omega arith)) (λ h. inr (omega arith)) (below k n)

-- so a sequence that begins with w new bits and goes on with v bits of n begins with those of both
pub joined_bits : (s : ℕ → ℕ) (n w a v : ℕ) → a < 2 ^ w → ((k : ℕ) → k < w → s k ≡ word_bit a k) → ((k : ℕ) → k < v → s (w + k) ≡ word_bit n k)
    → (k : ℕ) → k < w + v → s k ≡ word_bit (n * 2 ^ w + a) k
joined_bits s n w a v h first next k less =
    ⊎_elim (λ g. first k g ∙ sym (low_bit n w a k h g))
    (λ g. (let e : w + (k - w) ≡ k = omega arith in ap s (sym e) ∙ next (k - w) (omega arith) ∙ sym (high_bit n w a k h g)))
    (below k w)

pub same_above : (n w a b i : ℕ) → a < 2 ^ w → b < 2 ^ w → w ≤ i → word_bit (n * 2 ^ w + a) i ≡ word_bit (n * 2 ^ w + b) i
same_above n w a b i ha hb more = high_bit n w a i ha more ∙ sym (high_bit n w b i hb more)

pub up_lt : (n p w new : ℕ) → new < 2 ^ w → n % 2 ^ p * 2 ^ w + new < 2 ^ (w + p)
up_lt n p w new h = rw (add_comm w p, pow-add) (digits_lt (mod-lt n (pow_pos p)) h)

-- w steps lead from the number moved up to the number, where they give its last w bits
pub up_moved : (half n p w new : ℕ) (b : ℕ → ℕ) → w + p ≡ half → new < 2 ^ w → ((j : ℕ) → j < w → b j ≡ word_bit n (p + j))
    → drop w (word_bits half (n % 2 ^ p * 2 ^ w + new)) ++ tabulate w b ≡ word_bits half n
up_moved half n p w new b e h gains =
    let m : ℕ = n % 2 ^ p * 2 ^ w + new in
    ap₂ (λ (k : ℕ) (r : List ℕ). drop w (word_bits k m) ++ r) (sym e) (tabulate-word (n / 2 ^ p) w b (λ j less. gains j less ∙ sym (word_bit-shr n p j)))
    ∙ move_word_bits w p m (n / 2 ^ p) (up_lt n p w new h)
    ∙ ap₂ word_bits (add_comm p w ∙ e) (ap (λ (x : ℕ). n / 2 ^ p * 2 ^ p + x) (high (n % 2 ^ p) w h) ∙ split n p)
