-- `words::instances::is_instance` meets its contract.
use mathlib.Core.Path.{sym}
use native.Mathlib.Omega.{arith}
use Rattle.words.proofs.Widths.{one_to_three, no_instance}
use Rattle.words.proofs.instances.is_instance.Goals as goal

pub returns-in-1-to-3 : goal.returns-in-1-to-3
returns-in-1-to-3 c = sym (one_to_three c.args.instance (omega arith) (omega arith))

pub returns-in_default : goal.returns-in_default
returns-in_default c = sym (no_instance c.args.instance (λ e. omega arith) (λ e. omega arith) (λ e. omega arith))

pub returns-in_default-2 : goal.returns-in_default-2
returns-in_default-2 c = sym (no_instance c.args.instance (λ e. omega arith) (λ e. omega arith) (λ e. omega arith))
