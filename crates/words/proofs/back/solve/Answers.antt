-- `words::back::solve` meets its contract.
use Rattle.words.proofs.Solving.{without_G_lt, by_G, solved}
use Rattle.words.proofs.back.solve.Goals as goal

pub solve_word-y-requires : goal.solve_word-y-requires
solve_word-y-requires c =
    let a = c.args in
    let able = c.requires.2 in
    (without_G_lt a.width a.known a.taps c.requires.0 c.requires.1, able.above, able.ordered, able.inside.1, able.inside.3)

pub returns : goal.returns
unfolding by_G
returns c =
    let a = c.args in
    let e = c.solve_word-y.ensures in
    solved a.width a.known a.derivatives a.taps c.requires.2 c.requires.0 c.solve_word-y.result e.0 e.1
