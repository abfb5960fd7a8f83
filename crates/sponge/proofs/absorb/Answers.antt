-- `absorb` meets its contract: where no line holds, the state is sound and absorbing, and its bits are taken.
use mathlib.Core.Path.{sym, ap, ◌∙◌}
use Prim.Native.Nat.{ℕ}
use native.Mathlib.Nat.{div-le_self}
use native.Mathlib.Omega.{arith}
use Rattle.quark.specs.Bytes.{bits_of}
use Rattle.quark.specs.Instance.{instance_of}
use Rattle.sponge.specs.Taking.{take_bits}
use Rattle.sponge.specs.Soundness.{content_of, state_with}
use Rattle.sponge.specs.Outcomes.{absorb_result}
use Rattle.refusals.specs.Lines.{refused_by}
use Rattle.sponge.proofs.Passed.{absorb-passed, refused-result, accepted-result}
use Rattle.sponge.proofs.absorb.Goals as goal

-- past the test no line holds
pub invariant_of-take_bits : goal.invariant_of-take_bits
unfolding refused_by
invariant_of-take_bits c =
    let p = absorb-passed _ _ _ _ (sym c.in-Ok.ensures) in
    record { has_instance = p.ready.has_instance; has_width = p.ready.has_width; zero_past = p.ready.zero_past }

pub take_bits-requires : goal.take_bits-requires
unfolding refused_by
take_bits-requires c =
    let s = c.args.state in
    let p = absorb-passed _ _ _ _ (sym c.in-Ok.ensures) in
    (p.within, omega (arith, p.room), omega (arith, p.room, p.state.runs-are, div-le_self s.total (instance_of s.instance).r))

pub returns-in-Ok : goal.returns-in-Ok
unfolding refused_by absorb_result
returns-in-Ok c =
    let a = c.args in
    let s = a.state in
    let none = sym c.in-Ok.ensures in
    c.accepted.ensures
    ∙ accepted-result _ _ _ _ none
    (c.take_bits.ensures
    ∙ ap (λ (p : ℕ). state_with s.instance p (take_bits (instance_of s.instance) (content_of s) (bits_of a.count a.bytes.now)))
    (absorb-passed _ _ _ _ none).state.phase_is)

pub returns-in-Err : goal.returns-in-Err
unfolding absorb_result
returns-in-Err c = c.refused.ensures ∙ refused-result _ _ _ _ c.in-Err.ensures
