-- `serial::bits_at` meets its contract: after k passes the bits at the first k taps are stored.
use Rattle.std.specs.Prelude.{ℕ, List, get_or, set, replicate}
use mathlib.Core.Path.{refl, ap, ◌∙◌}
use native.Mathlib.Omega.{arith}
use Rattle.quark.specs.Bytes.{tabulate, bit}
use Rattle.permutation.proofs.Tabulate.{tabulate-store}
use Rattle.permutation.proofs.serial.bits_at.Goals as goal

pub loop-k-init : goal.loop-k-init
unfolding tabulate
loop-k-init c = refl

pub loop-k-preserved : goal.loop-k-preserved
loop-k-preserved c =
    let a = c.args in
    let k = c.loop-k.k in
    let F : ℕ → ℕ = λ j. bit a.register.now (get_or a.taps.now j 0) in
    ap (λ (l : List ℕ). set l k (F k)) c.loop-k.invariant ∙ tabulate-store F (replicate 13 0) k (omega arith)
