-- `run_p` meets its contract: P on the first b/8 bytes is P on the b bits.
use mathlib.Core.Path.{◌≡◌, sym}
use Prim.Native.Nat.{ℕ, ◌≤◌}
use native.Mathlib.Omega.{arith}
use borrow.Author.Rules.{rules}
use lib.ListN.{length}
use lib.Seq.{length-take-le}
use Rattle.quark.specs.Sponge.{run_P}
use Rattle.quark.specs.Instance.{instance_of, state_bytes}
use Rattle.quark.proofs.Instance.{in_bytes}
use Rattle.sponge.specs.Soundness.{content_of}
use Rattle.sponge.proofs.Contents.{ran_bytes, with_sponge_lem}
use Rattle.sponge.proofs.Ready.{Ready}
use Rattle.sponge.proofs.pieces.Running.run_p.Goals as goal

-- b/8 bytes are at most the 32
front : (i : ℕ) {size n : ℕ} → size ≡ state_bytes i → n ≡ 32 → size ≤ n
unfolding state_bytes
front i es en = omega (arith, (in_bytes i).at-most_256)

pub slice_bounds-bits-end : goal.slice_bounds-bits-end
slice_bounds-bits-end c =
    let s = c.args.self.now.state in
    let n : length s.bits ≡ 32 = search rules in
    front s.instance c.state_bytes-size.ensures n

pub slice_bounds-permute-end : goal.slice_bounds-permute-end
slice_bounds-permute-end c =
    let s = c.args.self.now.state in
    let n : length s.bits ≡ 32 = search rules in
    sym (length-take-le _ _ (front s.instance c.state_bytes-size.ensures n))

pub returns : goal.returns
unfolding run_P content_of
returns c =
    let r = c.args.self.now in
    let s = r.state in
    let n : length s.bits ≡ 32 = search rules in
    let ready : Ready s r.width = record { has_instance = r.has_instance; has_width = r.has_width; zero_past = r.zero_past } in
    with_sponge_lem s (run_P (instance_of s.instance) (content_of s).sponge) (omega arith)
    (ran_bytes s r.width c.state_bytes-size.result c.state_bytes-size.ensures c.permute.ensures.bytes ready n)
