-- `first` meets its contract: a line that does not hold is passed.
use mathlib.Core.Path.{sym, ◌∙◌}
use native.Mathlib.Omega.{arith}
use Rattle.refusals.proofs.Rows.{decided, passed, none_left}
use Rattle.refusals.proofs.lines.first.Goals as goal

pub returns-then-holds : goal.returns-then-holds
returns-then-holds g c = sym (c.loop-holds.invariant ∙ decided _ _ _ c.loop-holds-test.true c.loop-holds-item.is c.if-holds.true)

pub loop-holds-preserved : goal.loop-holds-preserved
loop-holds-preserved g c = c.loop-holds.invariant ∙ passed _ _ _ c.loop-holds-test.true c.loop-holds-item.is c.if-holds.false

pub returns : goal.returns
returns g c = sym (c.loop-holds.invariant ∙ none_left c.args.lines.now c.loop-holds.holds-index (omega (arith, c.loop-holds-test.false)))
