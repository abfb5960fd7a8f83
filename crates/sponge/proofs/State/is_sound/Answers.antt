-- `is_sound` meets its contract: its tests are the definition's.
use mathlib.Core.Path.{◌≡◌}
use Prim.Native.Nat.{◌-◌}
use native.Mathlib.Omega.{arith}
use borrow.Author.Rules.{rules}
use lib.ListN.{length, take, drop, length-drop}
use lib.Seq.{take_all}
use Rattle.quark.specs.Instance.{state_bytes}
use Rattle.quark.proofs.Instance.{in_bytes}
use Rattle.sponge.specs.Soundness.{sound}
use Rattle.sponge.proofs.AllZero.{each_zero}
use Rattle.sponge.proofs.State.is_sound.Goals as goal

pub slice_bounds-all_zero-count : goal.slice_bounds-all_zero-count
unfolding state_bytes
slice_bounds-all_zero-count c = omega (arith, c.state_bytes.ensures, (in_bytes c.args.self.now.instance).at-most_256)

pub slice_bounds-all_zero-start : goal.slice_bounds-all_zero-start
unfolding state_bytes
slice_bounds-all_zero-start c = omega (arith, c.state_bytes.ensures, (in_bytes c.args.self.now.instance).at-most_256)

pub returns : goal.returns
unfolding sound
returns c =
    let s = c.args.self.now in
    let n : length s.bits ≡ 32 = search rules in
    let k = state_bytes s.instance in
    let rest : take (32 - k) (drop k s.bits) ≡ drop k s.bits = take_all (32 - k) (drop k s.bits) (rw length-drop (omega arith)) in
    rw (c.all_zero-zeros.ensures, c.state_bytes.ensures, each_zero, rest) cc
