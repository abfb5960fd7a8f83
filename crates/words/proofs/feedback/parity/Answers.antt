-- `words::feedback::parity` meets its contract.
use Prim.Native.Nat.{◌^◌, ◌<◌}
use mathlib.Core.Path.{◌∙◌}
use borrow.Author.Rules.{rules}
use Rattle.words.proofs.Sums.{parity_of_words}
use Rattle.words.proofs.feedback.parity.Goals as goal

pub returns : goal.returns
returns c =
    let r = c.args.r in
    let mask = c.args.mask in
    let low : r.lo < 2 ^ 64 = search rules in
    let mask-high : mask.hi < 2 ^ 64 = search rules in
    let mask-low : mask.lo < 2 ^ 64 = search rules in
    c.from.ensures ∙ parity_of_words r.hi r.lo mask.hi mask.lo low mask-low mask-high
