-- `RegisterCells::step` meets its contract.
use Rattle.std.specs.Prelude.{◌≡◌, length}
use native.Mathlib.Omega.{arith}
use Rattle.permutation.proofs.SerialSteps.{stepped}
use Rattle.permutation.proofs.cells.RegisterCells.step.Goals as goal

pub invariant_of-self : goal.invariant_of-self
invariant_of-self c =
    let full : length c.args.self.now.bits ≡ 256 = omega arith in
    let laid =
    stepped c.args.instance c.args.self.now c.of.result.now c.of.ensures.taps full c.copy_within.new.self c.next-self.result.value
    c.feedbacks-old.result.f c.feedbacks-old.result.g c.feedbacks-old.result.h c.feedbacks-old.ensures c.copy_within.ensures.after c.next-self.ensures in
    record { single = laid.cells }

pub returns : goal.returns
returns c =
    let full : length c.args.self.now.bits ≡ 256 = omega arith in
    let laid =
    stepped c.args.instance c.args.self.now c.of.result.now c.of.ensures.taps full c.copy_within.new.self c.next-self.result.value
    c.feedbacks-old.result.f c.feedbacks-old.result.g c.feedbacks-old.result.h c.feedbacks-old.ensures c.copy_within.ensures.after c.next-self.ensures in
    record { holds = laid.holds; rest = laid.rest; full = laid.full }
