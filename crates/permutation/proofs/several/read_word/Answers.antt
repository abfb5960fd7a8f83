-- `several::read_word` meets its contract: from the last cell to the first, each is put below those after it.
use Rattle.std.proofs.Common.{rules, ◌≡◌, reverse}
use Rattle.std.specs.List.{fold}
use Rattle.permutation.proofs.CellWords.{below, read_back}
use Rattle.permutation.proofs.several.read_word.Goals as goal

pub returns : goal.returns
returns c =
    let cells = c.args.cells.now in
    let e : c.fold.result ≡ fold below 0 (reverse cells) = search rules in
    rw e (read_back cells c.requires.0 c.requires.1)
