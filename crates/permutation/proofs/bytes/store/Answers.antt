-- `bytes::store` meets its contract: after j passes the first j bytes are stored.
use Rattle.std.specs.Prelude.{◌≡◌, ℕ, List, length, set}
use mathlib.Core.Path.{refl, ap₂, ◌∙◌}
use native.Mathlib.Omega.{arith}
use Rattle.quark.specs.Bytes.{tabulate, byte_at, bytes_of}
use Rattle.permutation.proofs.Tabulate.{tabulate-store, tabulate-full}
use Rattle.permutation.proofs.bytes.store.Goals as goal

pub loop-j-init : goal.loop-j-init
unfolding tabulate
loop-j-init c = refl

pub loop-j-preserved : goal.loop-j-preserved
loop-j-preserved c =
    let l = c.loop-j in
    let bytes = byte_at c.args.bits.now in
    ap₂ (λ (b : List ℕ) (v : ℕ). set b l.j v) l.invariant c.byte_at.ensures ∙ tabulate-store bytes c.args.buffer.now l.j (omega arith)

pub returns : goal.returns
unfolding bytes_of
returns c =
    let l = c.loop-j in
    let n = length c.args.buffer.now in
    let e : l.j ≡ n = omega arith in
    l.invariant ∙ tabulate-full (byte_at c.args.bits.now) c.args.buffer.now l.j n e refl
