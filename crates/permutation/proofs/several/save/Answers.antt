-- `several::save` meets its contract.
use Rattle.std.specs.Prelude.{◌≡◌, ℕ, ◌+◌, ◌^◌, ◌<◌, List, ◌++◌, length}
use mathlib.Core.Path.{ap, ap₂, ◌∙◌}
use native.Mathlib.Omega.{arith}
use borrow.Author.Rules.{rules}
use Rattle.quark.specs.Word.{word_bits}
use Rattle.permutation.proofs.CellWords.{words_beside}
use Rattle.permutation.proofs.several.save.Goals as goal

pub returns : goal.returns
returns c =
    let r = c.args.r in
    let parts = c.split_at_mut-lo.ensures in
    let low : r.lo < 2 ^ 64 = search rules in
    let back : length c.split_at_mut-lo.result.1.now + 64 ≡ length c.args.cells.now = parts.back_len in
    ap₂ (λ (s t : List ℕ). s ++ t) c.write_word.ensures c.write_word-2.ensures
    ∙ ap (λ (n : ℕ). word_bits n r.lo ++ word_bits (length c.split_at_mut-lo.result.1.now) r.hi) parts.front_len
    ∙ words_beside 64 (length c.split_at_mut-lo.result.1.now) (length c.args.cells.now) r.lo r.hi low (omega arith)
