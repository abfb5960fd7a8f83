-- `words::undo` meets its contract.
use mathlib.Core.Bool.{true}
use mathlib.Core.Path.{◌≡◌, sym, subst}
use Prim.Native.Nat.{ℕ}
use borrow.Author.Rules.{rules}
use Rattle.quark.specs.Instance.{Instance, instance_of}
use Rattle.quark.proofs.Instance.{regular}
use Rattle.words.specs.declared.RegisterWords.{RegisterWords}
use Rattle.words.specs.Words.{fits}
use Rattle.words.specs.leaf.Groups.{WidthIn, Fitting, SteppedL, Preceding}
use Rattle.words.proofs.Fits.{tested_fits, fits_width, fits-answer}
use Rattle.words.proofs.Groups.{whole-eights, undone_words}
use Rattle.words.proofs.Widths.{some_width, in_instance}
use Rattle.words.proofs.undo.Goals as goal

pub ahead-requires : goal.ahead-requires
ahead-requires c =
    let a = c.args in
    let tested : fits a.instance a.width a.count a.state ≡ true = search rules in
    (tested_fits a.instance a.width a.count a.state tested).words.fits_L

pub steps_back-requires : goal.steps_back-requires
steps_back-requires c =
    let a = c.args in
    let tested : fits a.instance a.width a.count a.state ≡ true = search rules in
    let f = tested_fits a.instance a.width a.count a.state tested in
    let e = sym c.from.ensures in
    let after : RegisterWords = record { x = a.state.x; y = a.state.y; l = c.ahead.result } in (
      subst (λ (I : Instance). WidthIn I.taps a.width) e (in_instance a.instance a.width (fits_width f)),
      f.whole,
      subst (λ (I : Instance). Fitting I.taps after) e
          (record { fits_X = f.words.fits_X; fits_Y = f.words.fits_Y; fits_L = c.ahead.ensures.fits }),
    )

pub returns : goal.returns
returns c =
    let a = c.args in
    let s = a.state in
    let tested : fits a.instance a.width a.count s ≡ true = search rules in
    let f = tested_fits a.instance a.width a.count s tested in
    let r = c.steps_back.result in
    let after : RegisterWords = record { x = s.x; y = s.y; l = c.ahead.result } in
    fits-answer _ _ _ _ f
    (undone_words (instance_of a.instance).taps (regular a.instance).lawful a.count s r c.ahead.result (search rules) (search rules)
    (subst (λ (n : ℕ). SteppedL n s.l c.ahead.result) (whole-eights a.width a.count (some_width a.instance a.width (fits_width f)) f.whole) c.ahead.ensures)
    (subst (λ (I : Instance). Preceding I.taps a.count after r) c.from.ensures c.steps_back.ensures))
