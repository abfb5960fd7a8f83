-- Groups of w steps of an instance, forward or back: what X and Y gain in each step, of registers that are words.
use mathlib.Core.Path.{◌≡◌, sym, ◌∙◌}
use Prim.Native.Nat.{ℕ, ◌+◌, ◌/◌, ◌^◌, ◌<◌, ◌≤◌}
use native.Mathlib.Omega.{arith}
use Rattle.quark.specs.Bytes.{bit}
use Rattle.quark.specs.Feedback.{Taps}
use Rattle.quark.specs.Step.{steps_L}
use Rattle.quark.specs.Word.{word_bit, word_bits}
use Rattle.quark.specs.Together.{from, gain_X, gain_Y, gains}
use Rattle.quark.proofs.Together.{gain_X-local, gain_Y-local}
use Rattle.quark.proofs.Word.{word_bit-shr, get_or-word_bits}
use Rattle.words.specs.Words.{word_registers}
use Rattle.words.specs.leaf.Groups.{Firsts}
use Rattle.words.specs.leaf.TapsOf.{Grouping}

module _ {T : Taps} {w kept : ℕ} (G : Grouping T w kept) (x y l word : ℕ) (firsts : Firsts w (word_bits 10 l) word) where
  -- the bits that the taps reach in step j
  reached : (n j : ℕ) → j < w → (i : ℕ) → i + w ≤ T.half → from j (bit (word_bits T.half n)) i ≡ word_bit (n / 2 ^ j) i
  reached n j less i q = get_or-word_bits T.half n (j + i) (omega arith) ∙ sym (word_bit-shr n j i)

  pub gained-x : (j : ℕ) → j < w → gains gain_X T (word_registers T x y l) j ≡ gain_X T (word_bit (x / 2 ^ j)) (word_bit (y / 2 ^ j)) (λ i. word_bit word j)
  unfolding word_registers gains
  gained-x j less =
      gain_X-local T G.lawful w G.reach (from j (bit (word_bits T.half x))) (word_bit (x / 2 ^ j)) (from j (bit (word_bits T.half y)))
      (word_bit (y / 2 ^ j)) (bit (steps_L j (word_bits 10 l))) (λ i. word_bit word j) (reached x j less) (reached y j less) (firsts j less)

  pub gained-y : (j : ℕ) → j < w → gains gain_Y T (word_registers T x y l) j ≡ gain_Y T (word_bit (x / 2 ^ j)) (word_bit (y / 2 ^ j)) (λ i. word_bit word j)
  unfolding word_registers gains
  gained-y j less =
      gain_Y-local T G.lawful w G.reach (from j (bit (word_bits T.half x))) (word_bit (x / 2 ^ j)) (from j (bit (word_bits T.half y)))
      (word_bit (y / 2 ^ j)) (bit (steps_L j (word_bits 10 l))) (λ i. word_bit word j) (reached x j less) (reached y j less) (firsts j less)
