-- `RegisterCells::undo` meets its contract: what is left to undo leads from the cells to the same end.
use Rattle.std.specs.Prelude.{◌≡◌, ◌-◌, length, take, drop}
use Rattle.quark.specs.Step.{loaded, steps_L}
use Rattle.quark.specs.Inverse.{undo_steps}
use Rattle.quark.specs.Word.{word_bits}
use Rattle.words.specs.Instances.{named}
use Rattle.permutation.specs.leaf.Core.{held}
use Rattle.permutation.proofs.cells.RegisterCells.undo.Given as goal

abbrev pub invariant-loop : goal.invariant-loop
invariant-loop l =
    (length l.self.bits ≡ 256) × (drop (named l.instance).b l.self.bits ≡ drop (named l.instance).b l.fn.self.bits)
    × (undo_steps (named l.instance).taps (l.count - l.counter) (held (named l.instance) l.self)
    ≡ undo_steps (named l.instance).taps l.count
    (loaded (named l.instance).taps (take (named l.instance).b l.fn.self.bits) (steps_L l.count (word_bits 10 l.fn.self.l.value))))
