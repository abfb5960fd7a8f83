-- `take_bits` meets its contract: after i passes the first i bits are taken.
use mathlib.Core.Path.{◌≡◌, sym, ap, ◌∙◌}
use Prim.Native.Nat.{ℕ}
use native.Mathlib.Omega.{arith}
use mir.Val.{Fits}
use mir.Syntax.{w8}
use borrow.Author.Rules.{rules}
use lib.ListN.{length, get_or}
use Rattle.quark.specs.Bytes.{tabulate, bits_of}
use Rattle.quark.specs.Instance.{instance_of}
use Rattle.sponge.specs.Taking.{take_bit, take_bits}
use Rattle.sponge.specs.Soundness.{content_of, state_with}
use Rattle.sponge.proofs.Contents.{state-with_content, bit-lt, total-after_bits, runs-after_bits, next_bit}
use Rattle.sponge.proofs.pieces.Running.take_bits.Goals as goal

pub loop-i-init : goal.loop-i-init
unfolding take_bits bits_of tabulate
loop-i-init c =
    let s = c.args.self.state in
    let n : length s.bits ≡ 32 = search rules in
    let fit : (j : ℕ) → Fits w8 (get_or s.bits j 0) = λ j. search rules in
    sym (state-with_content s n (λ j. (fit j).fits) c.args.self.zero_past)

pub take_bit-requires : goal.take_bit-requires
take_bit-requires c =
    let s = c.args.self.state in
    let bytes = c.args.bytes.now in
    let i = c.loop-i.i in
    let t = c.loop-i.self.state in
    let e = c.loop-i.invariant in (
      omega (arith, c.bit_at.ensures, bit-lt bytes i),
      omega (arith, total-after_bits s bytes i t e, c.requires),
      omega (arith, runs-after_bits s bytes i t e, c.requires),
    )

pub loop-i-preserved : goal.loop-i-preserved
loop-i-preserved c =
    let s = c.args.self.state in
    let i = c.loop-i.i in
    let t = c.loop-i.self.state in
    c.take_bit.ensures
    ∙ ap (λ (x : ℕ). state_with t.instance t.phase (take_bit (instance_of t.instance) (content_of t) x)) c.bit_at.ensures
    ∙ next_bit s c.args.bytes.now i t c.loop-i.invariant
