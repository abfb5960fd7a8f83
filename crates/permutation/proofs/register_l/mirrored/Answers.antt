-- `register_l::mirrored` meets its contract: of the 32 bits reversed, the last ten are moved to the lowest places.
use mathlib.Core.Path.{ap, ◌∙◌}
use Rattle.std.specs.Prelude.{ℕ, ◌/◌}
use Rattle.permutation.proofs.RegisterL.{mirrored-bits}
use Rattle.permutation.proofs.register_l.mirrored.Goals as goal

pub returns : goal.returns
returns c = ap (λ (v : ℕ). v / 4194304) c.reverse_bits.ensures ∙ mirrored-bits c.args.l c.requires
