-- `close` meets its contract: with the 1 added and the phase closed, the digest is the n/r blocks that are given out.
use mathlib.Core.Path.{◌≡◌, sym, ap, ap₂, ◌∙◌}
use Prim.Native.Nat.{ℕ, ◌*◌, ◌/◌}
use native.Mathlib.Omega.{arith}
use Rattle.quark.specs.Bytes.{bytes_of}
use Rattle.quark.specs.Instance.{instance_of}
use Rattle.quark.specs.Sponge.{run_P, squeezed, output}
use Rattle.quark.proofs.Instance.{regular}
use Rattle.sponge.specs.declared.State.{State}
use Rattle.sponge.specs.Taking.{holding, add_bit, after_padding, finish_output}
use Rattle.sponge.specs.Soundness.{closed_phase, content_of, state_with}
use Rattle.sponge.specs.leaf.Steps.{with_sponge}
use Rattle.sponge.proofs.AfterTaking.{finished-squeezed}
use Rattle.sponge.proofs.StateBytes.{outputs_small}
use Rattle.sponge.proofs.Contents.{padded, padded_state, of_content, added, wide_next}
use Rattle.sponge.proofs.Squeezing.{whole-output}
use Rattle.sponge.proofs.pieces.Running.close.Goals as goal

pub give_blocks-requires : goal.give_blocks-requires
unfolding with_sponge state_with add_bit content_of
give_blocks-requires c =
    let s = c.args.self.state in
    let e = c.add_bit.ensures in
    let outputs = c.outputs-count.ensures ∙ ap (λ (t : State). (instance_of t.instance).n / (instance_of t.instance).r) e in (
      c.requires.0
          ∙ sym (whole-output s.instance)
          ∙ sym (ap₂ (λ (k i : ℕ). k * ((instance_of i).r / 8)) outputs (ap (λ (t : State). t.instance) e)),
      omega (arith, ap (λ (t : State). t.runs) e, c.requires.1, outputs, outputs_small s.instance),
    )

pub returns : goal.returns
unfolding with_sponge state_with content_of finish_output after_padding
returns c =
    let s = c.args.self.state in
    let i = s.instance in
    let I = instance_of i in
    let blocks = c.give_blocks.ensures in
    let k = c.outputs-count.result in
    let outputs : k ≡ I.n / I.r =
    c.outputs-count.ensures ∙ ap (λ (t : State). (instance_of t.instance).n / (instance_of t.instance).r) c.add_bit.ensures in
    let p = padded_state s _ c.add_bit.ensures in record {
      left = blocks.left
          ∙ of_content i closed_phase (padded s) (wide_next s 1) _ p
          (λ j q h. state_with j q (holding h (squeezed (instance_of j) k h.sponge)))
          ∙ ap (λ (k : ℕ). state_with i closed_phase (holding (content_of s) (squeezed I k (added s 1)))) outputs
          ∙ ap (state_with i closed_phase) (sym (finished-squeezed I (regular i) (content_of s)));
      bytes = blocks.bytes
          ∙ of_content i closed_phase (padded s) (wide_next s 1) _ p
          (λ j q h. bytes_of (k * ((instance_of j).r / 8)) (output (instance_of j) k (run_P (instance_of j) h.sponge)))
          ∙ ap (λ (k : ℕ). bytes_of (k * (I.r / 8)) (output I k (run_P I (added s 1)))) outputs
          ∙ ap (λ (n : ℕ). bytes_of n (output I (I.n / I.r) (run_P I (added s 1)))) (whole-output i);
    }
