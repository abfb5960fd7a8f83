-- `bytes::load` meets its contract: after i passes the first i bits are stored.
use Rattle.std.specs.Prelude.{◌≡◌, ℕ, ◌*◌, ◌<◌, List, ◌++◌, length, take, drop, set}
use mathlib.Core.Path.{refl, ap, ◌∙◌}
use native.Mathlib.Omega.{arith}
use Rattle.std.proofs.lemmas.List.{length-take-le}
use Rattle.quark.specs.Bytes.{tabulate, bit_at, bits_of}
use Rattle.permutation.proofs.Tabulate.{tabulate-store, tabulate-full}
use Rattle.permutation.proofs.bytes.load.Goals as goal

pub loop-i-init : goal.loop-i-init
unfolding tabulate
loop-i-init c = refl

pub loop-i-preserved : goal.loop-i-preserved
unfolding bit_at
loop-i-preserved c =
    let buffer = c.args.buffer.now in
    let i = c.loop-i.i in
    let cells = take (8 * length buffer) c.args.bits.now in
    let p : i < length cells = omega arith in
    ap (λ (l : List ℕ). set l i (bit_at buffer i)) c.loop-i.invariant ∙ tabulate-store (bit_at buffer) cells i p

pub returns : goal.returns
unfolding bits_of
returns c =
    let buffer = c.args.buffer.now in
    let n = 8 * length buffer in
    let cells = take n c.args.bits.now in
    let all : c.loop-i.i ≡ n = omega arith in
    ap (λ (l : List ℕ). l ++ drop n c.args.bits.now) (c.loop-i.invariant ∙ tabulate-full (bit_at buffer) cells c.loop-i.i n all (length-take-le n c.args.bits.now (omega arith)))
