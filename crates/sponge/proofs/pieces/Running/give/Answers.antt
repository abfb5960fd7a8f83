-- `give` meets its contract: the r/8 bytes from (b - r)/8 on are the last.
use mathlib.Core.List.{List}
use mathlib.Core.Path.{◌≡◌, ap, ap₂, ◌∙◌}
use Prim.Native.Nat.{ℕ, ◌+◌, ◌-◌, ◌/◌, ◌≤◌}
use native.Mathlib.Omega.{arith}
use mir.Val.{Fits}
use mir.Syntax.{w8}
use borrow.Author.Rules.{rules}
use lib.ListN.{length, get_or}
use lib.Seq.{paste}
use Rattle.quark.specs.Instance.{instance_of}
use Rattle.quark.proofs.Instance.{in_bytes, regular}
use Rattle.sponge.specs.Soundness.{content_of}
use Rattle.sponge.proofs.StateBytes.{last-part, last-size, bytes-last}
use Rattle.sponge.proofs.pieces.Running.give.Goals as goal

-- the part ends within the 32 bytes
within : (i : ℕ) {from size : ℕ} → from ≡ ((instance_of i).b - (instance_of i).r) / 8 → size ≡ (instance_of i).r / 8 → from + size ≤ 32
within i ef es = omega (arith, (regular i).rate_fits, (in_bytes i).at-most_256)

pub overflow_add-end : goal.overflow_add-end
overflow_add-end c = omega (arith, within c.args.self.now.state.instance c.last_block-from.ensures c.block_bytes.ensures)

pub slice_bounds-put-end : goal.slice_bounds-put-end
slice_bounds-put-end c = omega (arith, within c.args.self.now.state.instance c.last_block-from.ensures c.block_bytes.ensures)

pub returns : goal.returns
unfolding content_of
returns c =
    let s = c.args.self.now.state in
    let n : length s.bits ≡ 32 = search rules in
    let fit : (j : ℕ) → Fits w8 (get_or s.bits j 0) = λ j. search rules in
    let same = last-part s.instance s.bits n _ _ c.last_block-from.ensures c.block_bytes.ensures in
    c.put.ensures
    ∙ ap₂ (λ (l : List ℕ) (m : ℕ). paste c.args.buffer.now c.args.at l m) (same ∙ bytes-last s.instance s.bits n (λ j. (fit j).fits))
    (ap length same ∙ last-size s.instance s.bits n)
