-- `add_bit` meets its contract: a bit is added in its byte, and the other bits stay. An index under the mask 7 is its remainder by 8.
use mathlib.Core.Path.{◌≡◌, refl}
use Prim.Native.Nat.{ℕ, ◌<◌}
use native.Mathlib.Omega.{arith}
use mir.Val.{Fits}
use mir.Syntax.{w8}
use borrow.Author.Rules.{rules}
use lib.ListN.{length, get_or}
use Rattle.quark.specs.Instance.{instance_of}
use Rattle.quark.proofs.Instance.{in_bytes, regular}
use Rattle.sponge.specs.Taking.{bit_index, add_bit}
use Rattle.sponge.specs.Soundness.{content_of}
use Rattle.sponge.proofs.AfterTaking.{bit-index_lt}
use Rattle.sponge.proofs.Contents.{added, added_bytes, wide_next, zeros_of_wide, with_sponge_lem}
use Rattle.sponge.proofs.pieces.Running.add_bit.Goals as goal

-- the index is within the 32 bytes
within : (i total : ℕ) {at : ℕ} → at ≡ bit_index (instance_of i) total → at < 256
within i total e = omega (arith, bit-index_lt (instance_of i) (regular i) total, (in_bytes i).at-most_256)

pub bounds-self-at : goal.bounds-self-at
bounds-self-at c = let s = c.args.self.now.state in omega (arith, within s.instance s.total c.bit_index-at.ensures)

pub bounds-self-at-2 : goal.bounds-self-at-2
bounds-self-at-2 c = let s = c.args.self.now.state in omega (arith, within s.instance s.total c.bit_index-at.ensures)

pub invariant_of-self : goal.invariant_of-self
invariant_of-self c =
    let r = c.args.self.now in
    let s = r.state in
    let x = c.args.bit in
    let n : length s.bits ≡ 32 = search rules in
    let fit : (j : ℕ) → Fits w8 (get_or s.bits j 0) = λ j. search rules in
    record {
      has_instance = r.has_instance;
      has_width = r.has_width;
      zero_past = zeros_of_wide s.instance (added s x).bits (wide_next s x)
          (added_bytes s x c.bit_index-at.result c.bit_index-at.ensures c.requires n (λ j. (fit j).fits) r.zero_past);
    }

pub returns : goal.returns
unfolding add_bit content_of
returns c =
    let r = c.args.self.now in
    let s = r.state in
    let x = c.args.bit in
    let n : length s.bits ≡ 32 = search rules in
    let fit : (j : ℕ) → Fits w8 (get_or s.bits j 0) = λ j. search rules in
    with_sponge_lem s (added s x) refl
    (added_bytes s x c.bit_index-at.result c.bit_index-at.ensures c.requires n (λ j. (fit j).fits) r.zero_past)
