-- `recalled` meets its contract: the lines of the state and of the buffer come first, then those of the mark that is found.
use mathlib.Core.Path.{◌≡◌, refl, ap, ◌∙◌}
use Prim.Native.Nat.{ℕ}
use Rattle.std.specs.Prelude.{Result, Ok, Err, IsErrAnd}
use Rattle.refusals.specs.declared.lines.Line.{Line}
use Rattle.refusals.specs.declared.lines.Line.TheVariants.{NoSuchMark}
use Rattle.refusals.specs.Lines.{refused_by, number}
use Rattle.refusals.proofs.Outcome.{no_line_0}
use Rattle.sponge.specs.declared.State.{State}
use Rattle.sponge.proofs.Passed.{recall-by_front, marks_fit, no_mark, by_mark}
use Rattle.sponge.proofs.recalled.Goals as goal

-- what hands on a line is refused by it
handed_on : (line : Line) (lines : ℕ) → number line ≡ lines → (answer : Result State Line) → IsErrAnd answer (λ l. l ≡ line) → refused_by answer ≡ lines
unfolding refused_by
handed_on line lines e (Ok given) is = elim is [ ]
handed_on line lines e (Err l) is = ap number is ∙ e

pub returns-in_err-recall_line-clause-line : goal.returns-in_err-recall_line-clause-line
unfolding refused_by
returns-in_err-recall_line-clause-line c =
    handed_on _ _ (recall-by_front _ _ _ _ _ c.in_err-recall_line.ensures (no_line_0 _)) _ c.from_residual.ensures.1

pub latest-requires : goal.latest-requires
unfolding refused_by
latest-requires c = let a = c.args in marks_fit a.state a.name a.buffer.now a.count 0 c.in_ok-recall_line.ensures refl

pub returns-in_err-mark-clause-line : goal.returns-in_err-mark-clause-line
unfolding refused_by number
returns-in_err-mark-clause-line c =
    let none = c.in_err-mark.ensures in
    let missing = rw none.ok_part at c.latest.ensures in
    let value = rw none.ok_part at none.value in
    let is : c.in_err-mark.field-0.0 ≡ NoSuchMark = cc in
    handed_on _ _ (ap number is ∙ no_mark _ _ _ _ 0 c.in_ok-recall_line.ensures refl missing) _
    c.from_residual-in_err-mark.ensures.1

pub returns-in_err-found_line-clause-line : goal.returns-in_err-found_line-clause-line
unfolding refused_by
returns-in_err-found_line-clause-line c =
    let there = rw c.in_ok-mark.ensures.ok_part at c.latest.ensures in
    handed_on _ _ (by_mark _ _ _ _ 0 c.in_ok-recall_line.ensures refl there c.in_err-found_line.ensures) _
    c.from_residual-in_err-found_line.ensures.1

pub returns-clause-line : goal.returns-clause-line
unfolding refused_by
returns-clause-line c =
    let there = rw c.in_ok-mark.ensures.ok_part at c.latest.ensures in
    by_mark _ _ _ _ 0 c.in_ok-recall_line.ensures refl there c.in_ok-found_line.ensures
