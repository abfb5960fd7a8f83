-- `bit_at` meets its contract.
use mathlib.Core.Path.{refl}
use Rattle.quark.specs.Bytes.{bit_at}
use Rattle.sponge.proofs.pieces.bit_at.Goals as goal

pub returns : goal.returns
unfolding bit_at
returns c = refl
