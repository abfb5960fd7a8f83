-- Padding, for any rate above 0: a padded form is total div r + 1 whole blocks, has as few zeros as make it so, and comes from one message
-- alone.
use mathlib.Core.List.{List, [], ◌∷◌, ◌++◌}
use mathlib.Core.Path.{◌≡◌, refl, sym, ap, ap₂, ◌∙◌}
use Prim.Native.Nat.{ℕ, zero, suc, ◌+◌, ◌*◌, ◌-◌, ◌/◌, ◌%◌, ◌<◌}
use native.Mathlib.Nat.{suc-ne-zero, mod-lt, div-add-mod', mul-mod_left, div-eq_of_lt-le, mul-add-mod_self_right, mod-eq_of_lt}
use native.Mathlib.Omega.{arith}
use lib.ListN.{length, replicate, length-append, length-replicate}
use Rattle.quark.specs.Instance.{Instance}
use Rattle.quark.specs.Sponge.{pad, block_count}
use Rattle.quark.proofs.Bits.{Bits, more, bits-append, bits-replicate}

head_eq : {x y : ℕ} {xs ys : List ℕ} → x ∷ xs ≡ y ∷ ys → x ≡ y
head_eq e = cc

tail_eq : {x y : ℕ} {xs ys : List ℕ} → x ∷ xs ≡ y ∷ ys → xs ≡ ys
tail_eq e = cc

-- zeros alone hold no 1
no_one : (m : List ℕ) (z z' : ℕ) → replicate z 0 ≡ m ++ (1 ∷ replicate z' 0) → ⊥
no_one [] zero z' e = suc-ne-zero (length (replicate z' 0)) (sym (ap length e))
no_one [] (suc z) z' e = suc-ne-zero 0 (sym (head_eq e))
no_one (x ∷ m) zero z' e = suc-ne-zero (length (m ++ (1 ∷ replicate z' 0))) (sym (ap length e))
no_one (x ∷ m) (suc z) z' e = no_one m z z' (tail_eq e)

-- the last 1 tells where the message ends
unpad : (m m' : List ℕ) (z z' : ℕ) → m ++ (1 ∷ replicate z 0) ≡ m' ++ (1 ∷ replicate z' 0) → m ≡ m'
unpad [] [] z z' e = refl
unpad [] (y ∷ m') z z' e = absurd (no_one m' z z' (tail_eq e))
unpad (x ∷ m) [] z z' e = absurd (no_one m z' z (sym (tail_eq e)))
unpad (x ∷ m) (y ∷ m') z z' e = ap₂ (λ (a : ℕ) (l : List ℕ). a ∷ l) (head_eq e) (unpad m m' z z' (tail_eq e))

module _ (I : Instance) where
  pub pad-injective : (m m' : List ℕ) → pad I m ≡ pad I m' → m ≡ m'
  unfolding pad
  pad-injective m m' e = unpad m m' (I.r - 1 - length m % I.r) (I.r - 1 - length m' % I.r) e

  pub bits-pad : (m : List ℕ) → Bits m → Bits (pad I m)
  unfolding pad
  bits-pad m b = bits-append b (more (omega arith) (bits-replicate (I.r - 1 - length m % I.r) (omega arith)))

  pub length-parts : (m : List ℕ) → length (pad I m) ≡ length m + 1 + (I.r - 1 - length m % I.r)
  unfolding pad
  length-parts m = simp (length-append, length-replicate) (omega arith)

  -- ---- for every total of bits, from the count of zeros alone

  module _ (some_rate : 0 < I.r) (total : ℕ) where
    whole-blocks : total + 1 + (I.r - 1 - total % I.r) ≡ (total / I.r + 1) * I.r
    whole-blocks = omega (arith, div-add-mod' total I.r, mod-lt total some_rate)

    -- a padded length is a multiple of r: line 8 never holds
    pub whole-padding : (total + 1 + (I.r - 1 - total % I.r)) % I.r ≡ 0
    whole-padding = ap (λ (k : ℕ). k % I.r) whole-blocks ∙ mul-mod_left (total / I.r + 1) I.r

  -- ---- for a message

  module _ (some_rate : 0 < I.r) (m : List ℕ) where
    pub length-pad : length (pad I m) ≡ (length m / I.r + 1) * I.r
    length-pad = length-parts m ∙ whole-blocks some_rate (length m)

    pub pad-whole : length (pad I m) % I.r ≡ 0
    pad-whole = ap (λ (k : ℕ). k % I.r) (length-parts m) ∙ whole-padding some_rate (length m)

    pub block-count : block_count I m ≡ length m / I.r + 1
    unfolding block_count
    block-count =
        let whole = length-pad in
        let parts = div-add-mod' (length m) I.r in
        let less = mod-lt (length m) some_rate in
        div-eq_of_lt-le I.r (omega arith) (omega arith)

    pub length-blocks : length (pad I m) ≡ block_count I m * I.r
    length-blocks = length-pad ∙ ap (λ (k : ℕ). k * I.r) (sym block-count)

    -- fewer zeros do not reach a multiple of r
    pub pad-least : (z : ℕ) → z < I.r - 1 - length m % I.r → (length m + 1 + z) % I.r ≡ 0 → ⊥
    pad-least z less e =
        let k = length m % I.r in
        let q = length m / I.r in
        let whole : length m + 1 + z ≡ q * I.r + (k + 1 + z) = omega (arith, div-add-mod' (length m) I.r) in
        let left : (length m + 1 + z) % I.r ≡ k + 1 + z =
        ap (λ (n : ℕ). n % I.r) whole ∙ mul-add-mod_self_right q I.r (k + 1 + z) ∙ mod-eq_of_lt (omega arith) in
        omega arith
