-- `words::strides::group_of_l` meets its contract.
use mathlib.Core.Path.{sym, subst}
use Prim.Native.Nat.{ℕ, ◌+◌, ◌*◌, ◌%◌}
use Rattle.quark.specs.Word.{word_bits}
use Rattle.words.specs.leaf.Groups.{Firsts, SteppedL}
use Rattle.words.proofs.Groups.{L-composes}
use Rattle.words.proofs.LStrides.{firsts_eight, firsts_sixteen}
use Rattle.words.proofs.Widths.{sixteen}
use Rattle.words.proofs.strides.group_of_l.Goals as goal

pub returns-then-width-eq8 : goal.returns-then-width-eq8
returns-then-width-eq8 c =
    let l = c.args.l in
    let next = c.eight_steps_of_l-next.result in
    subst (λ (w : ℕ). SteppedL w l next × Firsts w (word_bits 10 l) l) (sym c.if-width-eq8.true) (c.eight_steps_of_l-next.ensures, firsts_eight l)

pub returns-else-width-eq8 : goal.returns-else-width-eq8
returns-else-width-eq8 c =
    let l = c.args.l in
    let next = c.eight_steps_of_l-next.result in
    subst (λ (w : ℕ). SteppedL w l c.eight_steps_of_l.result × Firsts w (word_bits 10 l) (next * 256 + l % 256))
    (sym (sixteen c.args.width c.requires.0 c.if-width-eq8.false))
    (L-composes.join 8 8 l next _ c.eight_steps_of_l-next.ensures c.eight_steps_of_l.ensures, firsts_sixteen l next c.eight_steps_of_l-next.ensures.stepped)
