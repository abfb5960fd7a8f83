-- `words::back::known_terms` meets its contract.
use native.Mathlib.Omega.{arith}
use Rattle.words.specs.Words.{value}
use Rattle.words.specs.leaf.Solving.{known_X, known_Y}
use Rattle.words.proofs.Sums.{same_bit, itself, ◌⊞◌, low_lt, low_sum, window_place}
use Rattle.words.proofs.back.known_terms.Goals as goal

pub returns : goal.returns
unfolding known_X known_Y
returns c =
    let a = c.args in
    let whole = a.by.whole in
    let words = a.words in
    record {
      few_X = low_lt _ a.by.width c.low_bits.ensures;
      few_Y = low_lt _ a.by.width c.low_bits-2.ensures;
      bit_X = λ k less.
          low_sum a.by.width c.low_bits.ensures less
          (same_bit _ _ (window_place (value a.s.x) a.by.kept k (omega arith) c.window-2.ensures) ⊞ itself words.f k
          ⊞ (same_bit _ _ (window_place (value a.s.y) a.by.kept k (omega arith) c.window.ensures) ⊞ itself words.g k));
      bit_Y = λ k less.
          low_sum a.by.width c.low_bits-2.ensures less
          (same_bit _ _ (window_place (value a.s.y) a.by.kept k (omega arith) c.window.ensures) ⊞ itself words.g k ⊞ itself words.h k);
    }
