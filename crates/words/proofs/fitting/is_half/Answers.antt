-- `words::fitting::is_half` meets its contract: the high word decides.
use mathlib.Core.Path.{refl, sym, ap, ◌∙◌}
use Prim.Native.Nat.{◌^◌, ◌<◌}
use borrow.Author.Rules.{rules}
use lib.Dec.{ltb}
use Rattle.quark.specs.Instance.{Instance, U, D, S}
use Rattle.words.specs.declared.instances.Instance.TheVariants as variants
use Rattle.words.specs.Instances.{named}
use Rattle.words.specs.Words.{value}
use Rattle.words.proofs.Fits.{half-test, half_full}
use Rattle.words.proofs.Widths.{is_named}
use Rattle.words.proofs.fitting.is_half.Goals as goal

pub returns-in-U : goal.returns-in-U
unfolding U named
returns-in-U c =
    let r = c.args.r in
    let low : r.lo < 2 ^ 64 = search rules in
    half-test 68 4 r.hi r.lo refl low ∙ ap (λ (I : Instance). ltb (value r) (2 ^ I.taps.half)) (sym (is_named variants.U c.in-U.is c.from.ensures))

pub returns-in-D : goal.returns-in-D
unfolding D named
returns-in-D c =
    let r = c.args.r in
    let low : r.lo < 2 ^ 64 = search rules in
    half-test 88 24 r.hi r.lo refl low ∙ ap (λ (I : Instance). ltb (value r) (2 ^ I.taps.half)) (sym (is_named variants.D c.in-D.is c.from.ensures))

pub returns-in-S : goal.returns-in-S
unfolding S named
returns-in-S c =
    let r = c.args.r in
    let low : r.lo < 2 ^ 64 = search rules in
    let high : r.hi < 2 ^ 64 = search rules in
    half_full 128 64 r.hi r.lo refl low high ∙ ap (λ (I : Instance). ltb (value r) (2 ^ I.taps.half)) (sym (is_named variants.S c.in-S.is c.from.ensures))
