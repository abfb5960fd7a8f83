-- `several::write_word` meets its contract: after i passes the first i cells hold the lowest i bits.
use Rattle.std.specs.Prelude.{ℕ, List, set}
use mathlib.Core.Path.{refl, ap, ◌∙◌}
use native.Mathlib.Omega.{arith}
use Rattle.quark.specs.Word.{word_bit, word_bits}
use Rattle.permutation.proofs.CellWords.{written_more}
use Rattle.permutation.proofs.several.write_word.Goals as goal

pub loop-i-init : goal.loop-i-init
unfolding word_bits
loop-i-init c = refl

pub loop-i-preserved : goal.loop-i-preserved
unfolding word_bit
loop-i-preserved c =
    let a = c.args in
    let i = c.loop-i.i in
    ap (λ (t : List ℕ). set t i (word_bit a.word i)) c.loop-i.invariant ∙ written_more a.cells.now a.word i (omega arith)
