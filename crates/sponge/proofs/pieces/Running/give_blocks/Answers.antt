-- `give_blocks` meets its contract: each pass gives out one block more (`BlocksOut` of proofs/Squeezing.antt).
use mathlib.Core.Path.{◌≡◌, ap, ◌∙◌}
use Prim.Native.Nat.{ℕ, ◌-◌, ◌*◌, ◌/◌}
use native.Mathlib.Omega.{arith}
use mir.Val.{Fits}
use mir.Syntax.{w8}
use borrow.Author.Rules.{rules}
use lib.ListN.{length, get_or, drop}
use lib.Seq.{paste}
use Rattle.quark.specs.Bytes.{bytes_of}
use Rattle.quark.specs.Instance.{instance_of}
use Rattle.sponge.specs.Soundness.{content_of}
use Rattle.sponge.proofs.Squeezing.{block_fits, blocks_none, blocks_runs, run-instance, blocks_next}
use Rattle.sponge.proofs.pieces.Running.give_blocks.Goals as goal

pub loop-block-init : goal.loop-block-init
loop-block-init c =
    let s = c.args.self.state in
    let n : length s.bits ≡ 32 = search rules in
    let fit : (j : ℕ) → Fits w8 (get_or s.bits j 0) = λ j. search rules in
    blocks_none s n (λ j. (fit j).fits) c.args.self.zero_past c.args.buffer.now

pub run_p-requires : goal.run_p-requires
run_p-requires c = omega (arith, blocks_runs _ _ _ _ _ c.loop-block.invariant, c.requires.1, c.loop-block-test.true)

pub give-requires : goal.give-requires
give-requires c =
    let g = c.loop-block.invariant in
    let fits = block_fits c.args.self.state.instance c.loop-block.block c.args.count c.loop-block-test.true c.block_bytes-step.ensures c.requires.0 in
    omega (arith, fits, ap (λ (i : ℕ). (instance_of i).r / 8) (run-instance _ _ _ _ _ g _ c.run_p.ensures), g.long)

pub loop-block-preserved : goal.loop-block-preserved
loop-block-preserved c =
    let loop = c.loop-block in
    let step = c.block_bytes-step in
    let u = c.run_p.new.self.state in
    let U = instance_of u.instance in
    let give = c.give in
    blocks_next _ _ _ _ _ loop.invariant u c.run_p.ensures give.new.buffer
    (give.ensures ∙ ap (λ (q : ℕ). paste loop.buffer (loop.block * q) (bytes_of (U.r / 8) (drop (U.b - U.r) (content_of u).sponge.bits)) (U.r / 8)) step.ensures)
    give.auto.buffer
