-- `mark_at` meets its contract: the first 64 bytes from 64 times the index on.
use Rattle.sponge.proofs.MarkBytes.{mark-part}
use Rattle.sponge.proofs.marks.mark_at.Goals as goal

pub returns : goal.returns
returns c = let first = rw c.unwrap.ensures at c.first_chunk.ensures.cases in mark-part c.args.buffer.now c.args.j first.same
