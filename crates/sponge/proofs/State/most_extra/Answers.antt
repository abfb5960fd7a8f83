-- `most_extra` meets its contract: the number that each arm gives.
use borrow.Author.Rules.{rules}
use borrow.Author.Tests.{eq-eqb, ne_eqb}
use Rattle.sponge.specs.Soundness.{most_extra}
use Rattle.sponge.proofs.State.most_extra.Goals as goal

pub returns-in-0 : goal.returns-in-0
unfolding most_extra
returns-in-0 c = simp (eq-eqb _ _ c.in-0.is)

pub returns-in_default : goal.returns-in_default
unfolding most_extra
returns-in_default c = simp (ne_eqb c.args.self.now.phase 0 (search rules))
