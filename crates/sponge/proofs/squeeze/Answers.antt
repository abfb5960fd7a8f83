-- `squeeze` meets its contract: where no line holds, the state is sound and closed, and `give_extra` gives out the blocks.
use mathlib.Core.Path.{sym, ap, ◌∙◌}
use Prim.Native.Nat.{ℕ}
use native.Mathlib.Nat.{div-le_self}
use native.Mathlib.Omega.{arith}
use Rattle.refusals.proofs.Outcome.{refused-left, accepted-left, some_line}
use Rattle.quark.specs.Instance.{instance_of}
use Rattle.sponge.specs.Taking.{extra_squeezed}
use Rattle.sponge.specs.Soundness.{content_of, state_with}
use Rattle.sponge.specs.Outcomes.{blocks_bytes, squeeze_result, squeeze_bytes}
use Rattle.sponge.proofs.StateBytes.{outputs_small}
use Rattle.refusals.specs.Lines.{refused_by}
use Rattle.sponge.proofs.Passed.{squeeze-passed, refused-result, accepted-result}
use Rattle.sponge.proofs.squeeze.Goals as goal

-- past the test no line holds
pub invariant_of-give_extra : goal.invariant_of-give_extra
unfolding refused_by
invariant_of-give_extra c =
    let p = squeeze-passed _ _ _ _ (sym c.in-Ok.ensures) in
    record { has_instance = p.ready.has_instance; has_width = p.ready.has_width; zero_past = p.ready.zero_past }

pub give_extra-requires : goal.give_extra-requires
unfolding refused_by blocks_bytes
give_extra-requires c =
    let p = squeeze-passed _ _ _ _ (sym c.in-Ok.ensures) in
    let s = c.args.state in (
      p.fits,
      omega (
        arith,
        p.room,
        p.state.total-within,
        p.state.runs-are,
        outputs_small s.instance,
        div-le_self s.total (instance_of s.instance).r,
      ),
      p.room,
    )

pub returns-in-Ok : goal.returns-in-Ok
unfolding refused_by squeeze_result squeeze_bytes blocks_bytes
returns-in-Ok c =
    let a = c.args in
    let s = a.state in
    let none = sym c.in-Ok.ensures in
    let done = c.give_extra.ensures in record {
      reply = c.accepted.ensures
          ∙ accepted-result _ _ _ _ none
          (done.left
          ∙ ap (λ (p : ℕ). state_with s.instance p (extra_squeezed (instance_of s.instance) a.k (content_of s))) (squeeze-passed _ _ _ _ none).state.phase_is);
      bytes = done.bytes ∙ accepted-left _ _ _ none;
    }

pub returns-in-Err : goal.returns-in-Err
unfolding squeeze_result squeeze_bytes
returns-in-Err c = record {
  reply = c.refused.ensures ∙ refused-result _ _ _ _ c.in-Err.ensures;
  bytes = refused-left _ _ _ (some_line _ _ c.in-Err.ensures);
}
