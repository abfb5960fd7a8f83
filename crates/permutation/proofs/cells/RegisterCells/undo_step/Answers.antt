-- `RegisterCells::undo_step` meets its contract.
use Rattle.std.specs.Prelude.{◌≡◌, length}
use native.Mathlib.Omega.{arith}
use Rattle.permutation.proofs.SerialSteps.{unstepped}
use Rattle.permutation.proofs.cells.RegisterCells.undo_step.Goals as goal

pub invariant_of-self-2 : goal.invariant_of-self-2
invariant_of-self-2 c =
    let full : length c.args.self.now.bits ≡ 256 = omega arith in
    let laid =
    unstepped c.args.instance c.args.self.now c.of.result.now c.of.ensures.taps full c.copy_within.new.self c.previous-self.result.value c.copy_within.ensures.after
    c.feedbacks-old.result.f c.feedbacks-old.result.g c.feedbacks-old.result.h c.feedbacks-old.ensures c.previous-self.ensures in
    record { single = laid.cells }

pub returns : goal.returns
returns c =
    let full : length c.args.self.now.bits ≡ 256 = omega arith in
    let laid =
    unstepped c.args.instance c.args.self.now c.of.result.now c.of.ensures.taps full c.copy_within.new.self c.previous-self.result.value c.copy_within.ensures.after
    c.feedbacks-old.result.f c.feedbacks-old.result.g c.feedbacks-old.result.h c.feedbacks-old.ensures c.previous-self.ensures in
    record { holds = laid.holds; rest = laid.rest; full = laid.full }
