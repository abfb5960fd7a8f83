-- `words::strides::group_of_l_back` meets its contract.
use mathlib.Core.Path.{sym, subst}
use Prim.Native.Nat.{ℕ, ◌+◌, ◌*◌, ◌%◌}
use Rattle.quark.specs.Word.{word_bits}
use Rattle.words.specs.leaf.Groups.{Firsts, PrecedingL}
use Rattle.words.proofs.Groups.{L-back_composes}
use Rattle.words.proofs.LStrides.{firsts_eight, firsts_sixteen}
use Rattle.words.proofs.Widths.{sixteen}
use Rattle.words.proofs.strides.group_of_l_back.Goals as goal

pub returns-then-width-eq8 : goal.returns-then-width-eq8
returns-then-width-eq8 c =
    let l = c.args.l in
    let later = c.eight_steps_of_l_back-later.result in
    subst (λ (w : ℕ). PrecedingL w l later × Firsts w (word_bits 10 later) later) (sym c.if-width-eq8.true)
    (c.eight_steps_of_l_back-later.ensures, firsts_eight later)

pub returns-else-width-eq8 : goal.returns-else-width-eq8
returns-else-width-eq8 c =
    let l = c.args.l in
    let later = c.eight_steps_of_l_back-later.result in
    let before = c.eight_steps_of_l_back-before.result in
    subst (λ (w : ℕ). PrecedingL w l before × Firsts w (word_bits 10 before) (later * 256 + before % 256))
    (sym (sixteen c.args.width c.requires.0 c.if-width-eq8.false)) (
      L-back_composes.join 8 8 l later before c.eight_steps_of_l_back-later.ensures c.eight_steps_of_l_back-before.ensures,
      firsts_sixteen before later (sym c.eight_steps_of_l_back-before.ensures.redone),
    )
