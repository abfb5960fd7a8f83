-- `initial` meets its contract: the bytes of the initial bits are computed.
use mathlib.Core.Path.{ap}
use Rattle.words.specs.Instances.{named}
use Rattle.quark.specs.Bytes.{tabulate, bit_at, bits_of, byte_at, bytes_of}
use Rattle.quark.specs.Instance.{Instance, U, D, S}
use Rattle.sponge.proofs.fresh.initial.Goals as goal

pub returns-in-U : goal.returns-in-U
unfolding named U bytes_of bits_of byte_at bit_at tabulate
returns-in-U c = ap (λ (I : Instance). bytes_of 32 I.initial) c.in-U.ensures

pub returns-in-D : goal.returns-in-D
unfolding named D bytes_of bits_of byte_at bit_at tabulate
returns-in-D c = ap (λ (I : Instance). bytes_of 32 I.initial) c.in-D.ensures

pub returns-in-S : goal.returns-in-S
unfolding named S bytes_of bits_of byte_at bit_at tabulate
returns-in-S c = ap (λ (I : Instance). bytes_of 32 I.initial) c.in-S.ensures
