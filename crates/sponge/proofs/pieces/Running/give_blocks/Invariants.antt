-- `give_blocks` meets its contract: each pass gives out one block more (`BlocksOut` of proofs/Squeezing.antt).
use Rattle.sponge.proofs.Squeezing.{BlocksOut}
use Rattle.sponge.proofs.pieces.Running.give_blocks.Given as goal

abbrev pub invariant-loop-block : goal.invariant-loop-block
invariant-loop-block l = BlocksOut l.initial.self.state l.initial.buffer l.buffer l.self.state l.block
