-- `buffer::overwrite` meets its contract: the bits of the buffer go through the cells, and the bytes that are stored are those of the
-- registers reached.
use Rattle.permutation.proofs.Overwriting.{load_fits, load_cells, buffer-reached}
use Rattle.permutation.proofs.buffer.overwrite.Goals as goal

pub load-requires : goal.load-requires
load-requires g c = load_fits _ c.args.buffer.now c.requires

pub invariant_of-state-2 : goal.invariant_of-state-2
invariant_of-state-2 g c = record { single = load_cells _ c.args.buffer.now c.requires _ c.load.ensures }

pub store-requires-clause-buffer_bound : goal.store-requires-clause-buffer_bound
store-requires-clause-buffer_bound g c = load_fits _ c.args.buffer.now c.requires

pub returns : goal.returns
returns g c = rw c.store.ensures (buffer-reached _ c.args.buffer.now c.requires _ _ c.load.ensures g.D.Direction.inverse _ c.run.ensures)
