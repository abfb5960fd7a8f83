-- `several::run` meets its contract: the words are loaded from the cells, taken the steps or the steps back, and written back.
use Rattle.std.specs.Prelude.{◌≡◌, ℕ, ◌*◌, length}
use mathlib.Core.Path.{ap}
use native.Mathlib.Omega.{arith}
use lib.ListN.{length-take, length-drop, length-append}
use Rattle.quark.proofs.Bits.{bits_at, bits_of, bits-take, bits-drop}
use Rattle.quark.proofs.Word.{length-word_bits}
use Rattle.permutation.proofs.CellWords.{call_reached}
use Rattle.permutation.proofs.several.run.Goals as goal

pub load-requires-2 : goal.load-requires-2
load-requires-2 g c =
    let full : length c.args.state.now.bits ≡ 256 = omega arith in
    let half = c.of.ensures.half_size in
    let back = c.split_at.ensures.back_len in (
      omega (arith, length-take {A = ℕ}),
      omega (arith, length-take {A = ℕ}),
      rw c.split_at.ensures.back (bits_at (bits-drop c.of.result.now.half (bits-take (2 * c.of.result.now.half) (bits_of c.args.state.now.bits c.args.state.now.single)))),
    )

pub overflow_cast-state : goal.overflow_cast-state
overflow_cast-state g c =
    let full : length c.args.state.now.bits ≡ 256 = omega arith in
    let parts = c.split_at.ensures in
    let reached =
    call_reached c.from.result c.args.state.now c.of.result.now c.load.result c.load-2.result g.D.Direction.inverse c.from.ensures c.of.ensures.taps full
    parts.front parts.back c.load.ensures c.load-2.ensures c.args.steps.allowed c.requires c.from-2.ensures c.together-after.ensures c.save.ensures c.save-2.ensures (omega (arith, length-take {A = ℕ}))
    (omega (arith, length-take {A = ℕ}, length-drop {A = ℕ}, length-append {A = ℕ}, ap length c.save.ensures, length-word_bits)) in
    omega (arith, reached.1)

pub invariant_of-state : goal.invariant_of-state
invariant_of-state g c =
    let full : length c.args.state.now.bits ≡ 256 = omega arith in
    let parts = c.split_at.ensures in
    let reached =
    call_reached c.from.result c.args.state.now c.of.result.now c.load.result c.load-2.result g.D.Direction.inverse c.from.ensures c.of.ensures.taps full
    parts.front parts.back c.load.ensures c.load-2.ensures c.args.steps.allowed c.requires c.from-2.ensures c.together-after.ensures c.save.ensures c.save-2.ensures (omega (arith, length-take {A = ℕ}))
    (omega (arith, length-take {A = ℕ}, length-drop {A = ℕ}, length-append {A = ℕ}, ap length c.save.ensures, length-word_bits)) in
    record { small = reached.1 }

pub invariant_of-state-2 : goal.invariant_of-state-2
invariant_of-state-2 g c =
    let full : length c.args.state.now.bits ≡ 256 = omega arith in
    let parts = c.split_at.ensures in
    let reached =
    call_reached c.from.result c.args.state.now c.of.result.now c.load.result c.load-2.result g.D.Direction.inverse c.from.ensures c.of.ensures.taps full
    parts.front parts.back c.load.ensures c.load-2.ensures c.args.steps.allowed c.requires c.from-2.ensures c.together-after.ensures c.save.ensures c.save-2.ensures (omega (arith, length-take {A = ℕ}))
    (omega (arith, length-take {A = ℕ}, length-drop {A = ℕ}, length-append {A = ℕ}, ap length c.save.ensures, length-word_bits)) in
    record { single = reached.0.cells }

pub returns : goal.returns
returns g c =
    let full : length c.args.state.now.bits ≡ 256 = omega arith in
    let parts = c.split_at.ensures in
    let reached =
    call_reached c.from.result c.args.state.now c.of.result.now c.load.result c.load-2.result g.D.Direction.inverse c.from.ensures c.of.ensures.taps full
    parts.front parts.back c.load.ensures c.load-2.ensures c.args.steps.allowed c.requires c.from-2.ensures c.together-after.ensures c.save.ensures c.save-2.ensures (omega (arith, length-take {A = ℕ}))
    (omega (arith, length-take {A = ℕ}, length-drop {A = ℕ}, length-append {A = ℕ}, ap length c.save.ensures, length-word_bits)) in
    record { holds = reached.0.holds; rest = reached.0.rest; full = reached.0.full }
