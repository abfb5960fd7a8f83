-- `words::instances::is_width` meets its contract.
use mathlib.Core.Logic.{⊎_elim}
use native.Mathlib.Omega.{arith}
use borrow.Author.Rules.{rules}
use borrow.Author.Tests.{eq-eqb, ne_eqb}
use Rattle.quark.specs.Instance.{is_width}
use Rattle.words.proofs.instances.is_width.Goals as goal

pub returns-in-1 : goal.returns-in-1
unfolding is_width
returns-in-1 c = ⊎_elim (λ e. simp (eq-eqb c.args.width 1 e)) (λ e. simp (ne_eqb c.args.width 1 (λ one. omega arith), eq-eqb c.args.width 8 e)) c.in-1.is

pub returns-in-16 : goal.returns-in-16
unfolding is_width
returns-in-16 c =
    let e = c.in-16.is in
    simp (ne_eqb c.args.width 1 (λ one. omega arith), ne_eqb c.args.width 8 (λ eight. omega arith), eq-eqb c.args.width 16 e)

pub returns-in_default : goal.returns-in_default
unfolding is_width
returns-in_default c = search rules
