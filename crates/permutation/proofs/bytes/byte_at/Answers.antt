-- `bytes::byte_at` meets its contract: after k passes the byte is the number of the first k bits.
use Rattle.std.specs.Prelude.{◌≡◌, ℕ, ◌+◌, ◌-◌, ◌*◌, ◌<◌, List, get_or, take, drop}
use mathlib.Core.Path.{refl, sym, ap, ◌∙◌}
use native.Mathlib.Omega.{arith}
use lib.ListN.{length-take, length-drop}
use lib.Seq.{get_or-take, get_or-drop}
use Rattle.quark.specs.Bytes.{bit}
use Rattle.quark.proofs.Bytes.{byte-weighed}
use Rattle.quark.proofs.Weights.{weighed, weighed_next, weighed_fits}
use Rattle.permutation.specs.leaf.Cells.{Cells}
use Rattle.permutation.proofs.bytes.byte_at.Goals as goal

pub loop-bit-init : goal.loop-bit-init
unfolding weighed
loop-bit-init c = refl

-- the bit at k of the eight
of_eight : (bits : List ℕ) (at k : ℕ) → k < 8 → get_or (take (at + 8 - at) (drop at bits)) k 0 ≡ bit bits (at + k)
of_eight bits at k h = get_or-take (at + 8 - at) (drop at bits) k 0 (omega arith) ∙ get_or-drop at bits k 0

-- fewer than eight bits leave room for one more
room : (bits : List ℕ) (at k : ℕ) → Cells bits → k < 8 → weighed (λ i. bit bits (at + i)) k < 128
room bits at k single h = weighed_fits (λ i. bit bits (at + i)) (λ i. single (at + i)) k 7 (omega arith)

index : (c : goal.In-loop-bit) → c.loop-bit.bit-index < 8
index c = omega (arith, length-take {A = ℕ})

pub overflow_mul-byte : goal.overflow_mul-byte
overflow_mul-byte c =
    let l = c.loop-bit in
    omega (arith, l.invariant, room c.args.bits.now (8 * c.args.j) l.bit-index c.requires.cells (index c))

pub overflow_add-byte : goal.overflow_add-byte
overflow_add-byte c =
    let l = c.loop-bit in
    let bits = c.args.bits.now in
    let k : l.bit-index < 8 = omega (arith, length-take {A = ℕ}) in
    omega (arith, l.invariant, room bits (8 * c.args.j) l.bit-index c.requires.cells k, of_eight bits (8 * c.args.j) l.bit-index k, c.requires.cells (8 * c.args.j + l.bit-index))

pub loop-bit-preserved : goal.loop-bit-preserved
loop-bit-preserved c =
    let l = c.loop-bit in
    let bits = c.args.bits.now in
    let k : l.bit-index < 8 = omega (arith, length-take {A = ℕ}) in
    rw (of_eight bits (8 * c.args.j) l.bit-index k, l.invariant, weighed_next (λ i. bit bits (8 * c.args.j + i)) l.bit-index)

pub returns : goal.returns
returns c =
    let l = c.loop-bit in
    let bits = c.args.bits.now in
    let all : l.bit-index ≡ 8 = omega (arith, length-take {A = ℕ}, length-drop {A = ℕ}) in
    l.invariant ∙ ap (weighed (λ i. bit bits (8 * c.args.j + i))) all ∙ sym (byte-weighed bits c.args.j)
