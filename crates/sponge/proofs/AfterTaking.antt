-- What is held after bits are taken, and after a finish: b bits, the total, the extra blocks, and the runs of P. For any regular instance.
use mathlib.Core.Bool.{Bool, true, false, cond}
use mathlib.Core.List.{List, [], ◌∷◌, ◌++◌}
use mathlib.Core.Logic.{◌↔◌}
use mathlib.Core.Path.{◌≡◌, refl, sym, ap, ◌∙◌}
use Prim.Native.Nat.{ℕ, zero, suc, ◌+◌, ◌*◌, ◌-◌, ◌/◌, ◌%◌, ◌<◌, ◌≤◌}
use native.Mathlib.Nat.{mod-lt, div-add-mod', suc-ne-zero, add-zero}
use native.Mathlib.Decide.{ℕ_discrete}
use native.Mathlib.Numerals.{add-one}
use native.Mathlib.Omega.{arith}
use borrow.Author.Tests.{eq-eqb, ne_eqb}
use lib.Dec.{eqb}
use lib.ListN.{length, set, length-set}
use Rattle.quark.specs.Bytes.{bit, tabulate, bit_at, bits_of}
use Rattle.quark.specs.Instance.{Instance}
use Rattle.quark.specs.Sponge.{Counted, run_P, squeezed}
use Rattle.quark.proofs.Bits.{Bits, none, more, Wide, parity_lt}
use Rattle.quark.proofs.Blocks.{wide_squeezed}
use Rattle.quark.proofs.Instance.{Regular, P-wide}
use Rattle.quark.proofs.Runs.{runs-squeezed, squeezed-run}
use Rattle.sponge.specs.Taking.{Content, holding, bit_index, add_bit, take_bit, take_bits, after_padding, finished}
use Rattle.sponge.proofs.Taking.{divided}

bits-set : {s : List ℕ} (k v : ℕ) → v < 2 → Bits s → Bits (set s k v)
bits-set k v h none = none
bits-set zero v h (more p b) = more h b
bits-set (suc k) v h (more p b) = more p (bits-set k v h b)

pub wide_added : (I : Instance) (at x : ℕ) (c : Counted) → Wide I.b c.bits → Wide I.b (add_bit I at x c).bits
unfolding add_bit
wide_added I at x c w =
    let v = (bit c.bits at + x) % 2 in
    (length-set c.bits at v ∙ w.0, bits-set at v (parity_lt (bit c.bits at + x)) w.1)

-- the next bit's index is the one at a total that is a multiple of r, the first of a block, exactly where its own total is a multiple of r
pub first-of_block : (I : Instance) (t u : ℕ) → u % I.r ≡ 0 → (bit_index I t ≡ bit_index I u) ↔ (t % I.r ≡ 0)
unfolding bit_index
first-of_block I t u first = (λ e. omega (arith, first), λ z. omega (arith, first))

module _ (I : Instance) (R : Regular I) where
  -- the next bit's index is within the state
  pub bit-index_lt : (t : ℕ) → bit_index I t < I.b
  unfolding bit_index
  bit-index_lt t = omega (arith, R.rate_fits, mod-lt t R.some_rate)

  -- ---- b bits stay b bits

  wide_run : (c : Counted) → Wide I.b c.bits → Wide I.b (run_P I c).bits
  unfolding run_P
  wide_run c w = P-wide I R c.bits w

  wide_take_bit : (h : Content) (x : ℕ) → Wide I.b h.sponge.bits → Wide I.b (take_bit I h x).sponge.bits
  unfolding take_bit
  wide_take_bit h x w = either (eqb ((h.total + 1) % I.r) 0)
    where
      added : Counted
      added = add_bit I (bit_index I h.total) x h.sponge

      either : (t : Bool) → Wide I.b (cond t (run_P I added) added).bits
      either true = wide_run added (wide_added I (bit_index I h.total) x h.sponge w)
      either false = wide_added I (bit_index I h.total) x h.sponge w

  pub wide_take_bits : (h : Content) (xs : List ℕ) → Wide I.b h.sponge.bits → Wide I.b (take_bits I h xs).sponge.bits
  unfolding take_bits
  wide_take_bits h [] w = w
  wide_take_bits h (x ∷ xs) w = wide_take_bits (take_bit I h x) xs (wide_take_bit h x w)

  pub wide_finished : (h : Content) → Wide I.b h.sponge.bits → Wide I.b (finished I h).sponge.bits
  unfolding finished after_padding
  wide_finished h w =
      wide_squeezed I R (I.n / I.r - 1) (after_padding I h)
      (wide_run (add_bit I (bit_index I h.total) 1 h.sponge) (wide_added I (bit_index I h.total) 1 h.sponge w))

  -- ---- the total

  pub total-take_bits : (h : Content) (xs : List ℕ) → (take_bits I h xs).total ≡ h.total + length xs
  unfolding take_bits take_bit
  total-take_bits h [] = sym (add-zero h.total)
  total-take_bits h (x ∷ xs) = total-take_bits (take_bit I h x) xs ∙ omega arith

  -- ---- the extra blocks stay

  pub extra-take_bits : (h : Content) (xs : List ℕ) → (take_bits I h xs).extra ≡ h.extra
  unfolding take_bits take_bit
  extra-take_bits h [] = refl
  extra-take_bits h (x ∷ xs) = extra-take_bits (take_bit I h x) xs

  -- ---- the runs: total div r while bits are taken, and n/r more by a finish

  runs-take_bit : (h : Content) (x : ℕ) → h.sponge.runs ≡ h.total / I.r → (take_bit I h x).sponge.runs ≡ (take_bit I h x).total / I.r
  unfolding take_bit add_bit run_P
  runs-take_bit h x e =
      elim (ℕ_discrete (suc (h.total % I.r)) I.r) [
        | yes f ↦ fills (divided I.r (suc (h.total / I.r)) 0 (h.total + 1) R.some_rate (omega (arith, whole)))
        | no d ↦ leaves (divided I.r (h.total / I.r) (suc (h.total % I.r)) (h.total + 1) (omega (arith, mod-lt h.total R.some_rate)) (omega (arith, whole)))
      ]
    where
      whole : h.total / I.r * I.r + h.total % I.r ≡ h.total
      whole = div-add-mod' h.total I.r

      added : Counted
      added = add_bit I (bit_index I h.total) x h.sponge

      fills : ((h.total + 1) / I.r ≡ suc (h.total / I.r)) × ((h.total + 1) % I.r ≡ 0)
          → (cond (eqb ((h.total + 1) % I.r) 0) (run_P I added) added).runs ≡ (h.total + 1) / I.r
      fills d = rw (eq-eqb _ _ d.1) (ap suc e ∙ sym d.0)

      leaves : ((h.total + 1) / I.r ≡ h.total / I.r) × ((h.total + 1) % I.r ≡ suc (h.total % I.r))
          → (cond (eqb ((h.total + 1) % I.r) 0) (run_P I added) added).runs ≡ (h.total + 1) / I.r
      leaves d = rw (ne_eqb _ _ (λ z. suc-ne-zero (h.total % I.r) (sym d.1 ∙ z))) (e ∙ sym d.0)

  pub runs-take_bits : (h : Content) (xs : List ℕ) → h.sponge.runs ≡ h.total / I.r → (take_bits I h xs).sponge.runs ≡ (take_bits I h xs).total / I.r
  unfolding take_bits
  runs-take_bits h [] e = e
  runs-take_bits h (x ∷ xs) e = runs-take_bits (take_bit I h x) xs (runs-take_bit h x e)

  pub runs-finished : (h : Content) → h.sponge.runs ≡ h.total / I.r → (finished I h).sponge.runs ≡ h.total / I.r + I.n / I.r
  unfolding finished after_padding add_bit run_P
  runs-finished h e = runs-squeezed I (I.n / I.r - 1) (after_padding I h) ∙ omega (arith, e, R.some_output)

  -- ---- a finish is n/r runs of P, once the 1 is added

  pub finished-squeezed : (h : Content)
      → finished I h ≡ holding h (squeezed I (I.n / I.r) (add_bit I (bit_index I h.total) 1 h.sponge))
  unfolding finished after_padding
  finished-squeezed h =
      let added = add_bit I (bit_index I h.total) 1 h.sponge in
      let count : suc (I.n / I.r - 1) ≡ I.n / I.r = omega (arith, R.some_output) in
      ap (holding h) (squeezed-run I (I.n / I.r - 1) added ∙ ap (λ (k : ℕ). squeezed I k added) count)

-- P runs at most once for each bit
module _ (I : Instance) where
  once : (h : Content) (x : ℕ) → (take_bit I h x).sponge.runs ≤ h.sponge.runs + 1
  unfolding take_bit add_bit run_P
  once h x = either (eqb ((h.total + 1) % I.r) 0)
    where
      added : Counted
      added = add_bit I (bit_index I h.total) x h.sponge

      either : (t : Bool) → (cond t (run_P I added) added).runs ≤ h.sponge.runs + 1
      either true = omega arith
      either false = omega arith

  pub most-runs : (h : Content) (xs : List ℕ) → (take_bits I h xs).sponge.runs ≤ h.sponge.runs + length xs
  unfolding take_bits
  most-runs h [] = omega arith
  most-runs h (x ∷ xs) = omega (arith, once h x, most-runs (take_bit I h x) xs)

-- ---- one bit more

module _ (I : Instance) (h : Content) where
  take-bits_snoc : (g : Content) (xs : List ℕ) (x : ℕ) → take_bits I g (xs ++ (x ∷ [])) ≡ take_bit I (take_bits I g xs) x
  unfolding take_bits
  take-bits_snoc g [] x = refl
  take-bits_snoc g (y ∷ xs) x = take-bits_snoc (take_bit I g y) xs x

  pub take-bits_next : (bytes : List ℕ) (k : ℕ) → take_bits I h (bits_of (k + 1) bytes) ≡ take_bit I (take_bits I h (bits_of k bytes)) (bit_at bytes k)
  unfolding bits_of tabulate
  take-bits_next bytes k = ap (λ (n : ℕ). take_bits I h (bits_of n bytes)) (add-one k) ∙ take-bits_snoc h (bits_of k bytes) (bit_at bytes k)
