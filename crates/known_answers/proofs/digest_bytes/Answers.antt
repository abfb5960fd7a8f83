-- A state is at most 256 bits.
use Rattle.std.proofs.Common.{arith}
use Rattle.quark.specs.Instance.{state_bytes}
use Rattle.quark.proofs.Instance.{in_bytes}
use Rattle.known_answers.proofs.digest_bytes.Goals as goal

pub returns-clause-bound : goal.returns-clause-bound
unfolding state_bytes
returns-clause-bound c = omega (arith, c.state_bytes.ensures, (in_bytes c.args.instance).at-most_256)
