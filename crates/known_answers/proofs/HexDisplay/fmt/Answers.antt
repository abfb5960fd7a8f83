-- Each write adds the two digits of a byte.
use Rattle.std.proofs.Common.{rules, arith, refl}
use Rattle.std.proofs.Output.{has_written_append, has_written_of_eq}
use Rattle.known_answers.specs.Hex.{hex}
use Rattle.known_answers.proofs.HexText.{byte_after}
use Rattle.known_answers.proofs.HexDisplay.fmt.Goals as goal

pub loop-byte-init : goal.loop-byte-init
unfolding hex
loop-byte-init g c = search rules

pub loop-byte-preserved : goal.loop-byte-preserved
loop-byte-preserved g c = λ plain.
    let so_far = c.loop-byte.invariant plain in
    let step = rw (c.laid_out.ensures, c.in_radix.ensures) at c.in_ok-write.ensures.writes in
    has_written_of_eq _ _ _ _ _ (byte_after c.args.self.now.0.now c.loop-byte.byte-index (omega arith) (omega arith)) (has_written_append _ _ _ _ _ _ so_far (step so_far.plain refl))
