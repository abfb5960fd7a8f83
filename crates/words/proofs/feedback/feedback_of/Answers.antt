-- `words::feedback::feedback_of` meets its contract.
use mathlib.Core.Path.{◌∙◌}
use Rattle.words.proofs.FeedbackWords.{feedback-bits}
use Rattle.words.proofs.feedback.feedback_of.Goals as goal

pub returns : goal.returns
returns g c =
    let of = g.met.T.Quark.of in
    feedback-bits c.args.l _ _ _ _ c.requires.0 of.masking c.requires.1 (c.F.ensures ∙ of.F_is) (c.G.ensures ∙ of.G_is) (c.H.ensures ∙ of.H_is)
    c.products.ensures c.products-2.ensures c.mixed.ensures c.h_alone.ensures
