-- Taking bits one by one, as the operations work, gives the definition's block-wise sponge, for every message and every cut into pieces;
-- and finishing gives its closed state and its digest. For any regular instance.
use mathlib.Core.Bool.{Bool, cond}
use mathlib.Core.List.{List, [], ◌∷◌, ◌++◌, append_assoc, append-nil}
use mathlib.Core.Path.{◌≡◌, sym, ap, ap₂, ◌∙◌}
use Prim.Native.Nat.{ℕ, suc, ◌+◌, ◌*◌, ◌-◌, ◌/◌, ◌%◌, ◌≤◌, ◌<◌}
use native.Mathlib.Nat.{mod-lt, div-add-mod', suc-ne-zero, mul-add-div_right, mul-add-mod_self_right, div-eq_of_lt, mod-eq_of_lt, add-zero}
use native.Mathlib.Decide.{ℕ_discrete}
use native.Mathlib.Numerals.{add-one}
use native.Mathlib.Omega.{arith}
use borrow.Author.Tests.{eq-eqb, ne_eqb}
use lib.ListN.{length, drop, replicate, length-append, length-drop, length-replicate}
use lib.Seq.{take_all}
use Rattle.quark.specs.Instance.{Instance}
use Rattle.quark.specs.Sponge.{Counted, run_P, add_last, absorb, block, before, pad, absorbing, absorbed, squeezed, output, closed, digest}
use Rattle.quark.proofs.Instance.{Regular}
use Rattle.quark.proofs.Padding.{block-count}
use Rattle.quark.proofs.Sums.{add_from, add_at, add_from_nil, add_from_zeros, add_from_snoc}
use Rattle.quark.proofs.Blocks.{block-rest, block-past, before-append, wide_before}
use Rattle.sponge.specs.Taking.{Content, holding, bit_index, add_bit, take_bit, take_bits, after_padding, finish_output, finished}

-- quotient and remainder by what makes them up
pub divided : (r q k n : ℕ) → k < r → n ≡ q * r + k → (n / r ≡ q) × (n % r ≡ k)
divided r q k n h e = (
  ap (λ (a : ℕ). a / r) e ∙ mul-add-div_right (omega arith) q k ∙ ap (λ (a : ℕ). q + a) (div-eq_of_lt h) ∙ add-zero q,
  ap (λ (a : ℕ). a % r) e ∙ mul-add-mod_self_right q r k ∙ mod-eq_of_lt h,
)

-- what is held of an open message, by its blocks
unfoldable pub open_content : Instance → List ℕ → Content
open_content I m = record { total = length m; extra = 0; sponge = absorbing I m }

unfoldable pub closed_content : Instance → List ℕ → Content
closed_content I m = record { total = length m; extra = 0; sponge = closed I m }

module _ (I : Instance) (R : Regular I) where
  -- adding nothing
  pub absorb-nil : (s : Counted) → absorb I s [] ≡ s
  unfolding absorb add_last
  absorb-nil s = ap (λ (l : List ℕ). record { bits = l; runs = s.runs }) (add_from_nil (I.b - I.r) s.bits)

  module _ (m : List ℕ) where
    whole_part : length m / I.r * I.r + length m % I.r ≡ length m
    whole_part = div-add-mod' (length m) I.r

    part_lt : length m % I.r < I.r
    part_lt = mod-lt (length m) R.some_rate

    length_rest : length (block I m (length m / I.r)) ≡ length m % I.r
    unfolding block
    length_rest =
        ap length (take_all I.r (drop (length m / I.r * I.r) m) (rw length-drop (omega (arith, whole_part, part_lt))))
        ∙ length-drop (length m / I.r * I.r) m
        ∙ omega (arith, whole_part)

    -- a bit after the message, with zeros after it, goes into the block that the message has begun
    add-next : (x z : ℕ) → length m % I.r + suc z ≤ I.r
        → add_bit I (bit_index I (length m)) x (absorbing I m)
        ≡ absorb I (before I (m ++ (x ∷ replicate z 0)) (length m / I.r)) (block I (m ++ (x ∷ replicate z 0)) (length m / I.r))
    unfolding add_bit bit_index absorbing absorb add_last
    add-next x z h =
        let k = I.b - I.r in
        let s = before I m (length m / I.r) in
        let u = block I m (length m / I.r) in
        let l = m ++ (x ∷ replicate z 0) in
        let w = wide_before I R m (length m / I.r) in
        let same-before : before I l (length m / I.r) ≡ s = before-append I m (x ∷ replicate z 0) (length m / I.r) (omega (arith, whole_part)) in
        let same_block : block I l (length m / I.r) ≡ u ++ (x ∷ replicate z 0) =
        block-rest I m (x ∷ replicate z 0) (length m / I.r) (omega (arith, whole_part)) (omega (arith, whole_part, length-replicate {A = ℕ} z 0)) in
        let bits : add_at (add_from k s.bits u) (k + length m % I.r) x ≡ add_from k s.bits (u ++ (x ∷ replicate z 0)) =
        ap (λ (i : ℕ). add_at (add_from k s.bits u) (k + i) x) (sym length_rest)
        ∙ add_from_snoc k s.bits u x (omega (arith, length_rest, part_lt, w.0, R.rate_fits))
        ∙ sym (add_from_zeros k s.bits (u ++ (x ∷ [])) z w.1)
        ∙ ap (add_from k s.bits) (append_assoc u (x ∷ []) (replicate z 0)) in
        ap (λ (a : List ℕ). record { bits = a; runs = s.runs }) bits ∙ sym (ap₂ (absorb I) same-before same_block)

    length-snoc : (x : ℕ) → length (m ++ (x ∷ [])) ≡ length m + 1
    length-snoc x = length-append m (x ∷ [])

    -- the bit fills the block
    bit-fills : (x : ℕ) → suc (length m % I.r) ≡ I.r → take_bit I (open_content I m) x ≡ open_content I (m ++ (x ∷ []))
    unfolding take_bit open_content absorbing before
    bit-fills x e =
        let l = m ++ (x ∷ []) in
        let d = divided I.r (suc (length m / I.r)) 0 (length m + 1) R.some_rate (omega (arith, whole_part)) in
        let full : length l / I.r ≡ suc (length m / I.r) = ap (λ (k : ℕ). k / I.r) (length-snoc x) ∙ d.0 in
        let added = add_bit I (bit_index I (length m)) x (absorbing I m) in
        ap₂ (λ (n : ℕ) (c : Counted). record { total = n; extra = 0; sponge = c }) (sym (length-snoc x))
        (ap (λ (t : Bool). cond t (run_P I added) added) (eq-eqb ((length m + 1) % I.r) 0 d.1)
        ∙ ap (run_P I) (add-next x 0 (omega (arith, part_lt)))
        ∙ sym (absorb-nil (before I l (suc (length m / I.r))))
        ∙ ap (absorb I (before I l (suc (length m / I.r))))
        (sym (block-past I l (suc (length m / I.r)) (omega (arith, whole_part, length-snoc x))))
        ∙ ap (λ (k : ℕ). absorb I (before I l k) (block I l k)) (sym full))

    -- the bit leaves room in the block
    bit-leaves : (x : ℕ) → suc (length m % I.r) < I.r → take_bit I (open_content I m) x ≡ open_content I (m ++ (x ∷ []))
    unfolding take_bit open_content absorbing
    bit-leaves x h =
        let l = m ++ (x ∷ []) in
        let d = divided I.r (length m / I.r) (suc (length m % I.r)) (length m + 1) h (omega (arith, whole_part)) in
        let same : length l / I.r ≡ length m / I.r = ap (λ (k : ℕ). k / I.r) (length-snoc x) ∙ d.0 in
        let added = add_bit I (bit_index I (length m)) x (absorbing I m) in
        ap₂ (λ (n : ℕ) (c : Counted). record { total = n; extra = 0; sponge = c }) (sym (length-snoc x))
        (ap (λ (t : Bool). cond t (run_P I added) added) (ne_eqb ((length m + 1) % I.r) 0 (λ z. suc-ne-zero (length m % I.r) (sym d.1 ∙ z)))
        ∙ add-next x 0 (omega (arith, h))
        ∙ ap (λ (k : ℕ). absorb I (before I l k) (block I l k)) (sym same))

    pub take-bit : (x : ℕ) → take_bit I (open_content I m) x ≡ open_content I (m ++ (x ∷ []))
    take-bit x = elim (ℕ_discrete (suc (length m % I.r)) I.r) [ yes e ↦ bit-fills x e | no d ↦ bit-leaves x (omega (arith, part_lt)) ]

    -- the 1, and zeros to the end of its block
    pad-absorbed : after_padding I (open_content I m) ≡ absorbed I m
    unfolding after_padding open_content absorbed before pad
    pad-absorbed =
        ap (run_P I) (add-next 1 (I.r - 1 - length m % I.r) (omega (arith, part_lt)))
        ∙ ap (before I (pad I m)) (sym (block-count I R.some_rate m ∙ add-one (length m / I.r)))

    pub finish-closed : finished I (open_content I m) ≡ closed_content I m
    unfolding finished open_content closed_content closed
    finish-closed = ap (λ (c : Counted). holding (open_content I m) (squeezed I (I.n / I.r - 1) c)) pad-absorbed

    pub finish-digest : finish_output I (open_content I m) ≡ digest I m
    unfolding finish_output digest
    finish-digest = ap (output I (I.n / I.r)) pad-absorbed

  -- the bits of a piece, one after the other
  pub take-bits : (m xs : List ℕ) → take_bits I (open_content I m) xs ≡ open_content I (m ++ xs)
  unfolding take_bits
  take-bits m [] = ap (open_content I) (sym (append-nil m))
  take-bits m (x ∷ xs) =
      ap (λ (h : Content). take_bits I h xs) (take-bit m x) ∙ take-bits (m ++ (x ∷ [])) xs ∙ ap (open_content I) (append_assoc m (x ∷ []) xs)
