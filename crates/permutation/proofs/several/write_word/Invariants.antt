-- `several::write_word` meets its contract: after i passes the first i cells hold the lowest i bits.
use Rattle.std.specs.Prelude.{◌≡◌, ◌++◌, drop}
use Rattle.quark.specs.Word.{word_bits}
use Rattle.permutation.proofs.several.write_word.Given as goal

abbrev pub invariant-loop-i : goal.invariant-loop-i
invariant-loop-i l = l.cells ≡ word_bits l.i l.word ++ drop l.i l.initial.cells
