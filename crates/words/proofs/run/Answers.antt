-- `words::run` meets its contract.
use mathlib.Core.Bool.{true}
use mathlib.Core.Path.{◌≡◌, sym, subst}
use borrow.Author.Rules.{rules}
use Rattle.quark.specs.Instance.{Instance, instance_of}
use Rattle.words.specs.Words.{fits}
use Rattle.words.specs.leaf.Groups.{WidthIn, Fitting, Stepped}
use Rattle.words.proofs.Fits.{tested_fits, fits_width, fits-answer}
use Rattle.words.proofs.Groups.{stepped-words}
use Rattle.words.proofs.Widths.{in_instance}
use Rattle.words.proofs.run.Goals as goal

pub steps-requires : goal.steps-requires
steps-requires c =
    let a = c.args in
    let tested : fits a.instance a.width a.count a.state ≡ true = search rules in
    let f = tested_fits a.instance a.width a.count a.state tested in
    let e = sym c.from.ensures in (
      subst (λ (I : Instance). WidthIn I.taps a.width) e (in_instance a.instance a.width (fits_width f)),
      f.whole,
      subst (λ (I : Instance). Fitting I.taps a.state) e f.words,
    )

pub returns : goal.returns
returns c =
    let a = c.args in
    let tested : fits a.instance a.width a.count a.state ≡ true = search rules in
    fits-answer _ _ _ _ (tested_fits a.instance a.width a.count a.state tested)
    (stepped-words (instance_of a.instance).taps a.count a.state c.steps.result (search rules) (search rules)
    (subst (λ (I : Instance). Stepped I.taps a.count a.state c.steps.result) c.from.ensures c.steps.ensures))
