-- `finish` meets its contract: where no line holds, the state is sound and absorbing, and `close` finishes it.
use mathlib.Core.Path.{sym, ◌∙◌}
use native.Mathlib.Nat.{div-le_self}
use native.Mathlib.Omega.{arith}
use Rattle.quark.specs.Instance.{instance_of}
use Rattle.refusals.proofs.Outcome.{refused-left, accepted-left, some_line}
use Rattle.sponge.specs.Outcomes.{finish_result, finish_bytes}
use Rattle.refusals.specs.Lines.{refused_by}
use Rattle.sponge.proofs.Passed.{finish-passed, refused-result, accepted-result}
use Rattle.sponge.proofs.finish.Goals as goal

-- past the test no line holds
pub invariant_of-close : goal.invariant_of-close
unfolding refused_by
invariant_of-close c =
    let p = finish-passed _ _ _ (sym c.in-Ok.ensures) in
    record { has_instance = p.ready.has_instance; has_width = p.ready.has_width; zero_past = p.ready.zero_past }

pub close-requires : goal.close-requires
unfolding refused_by
close-requires c =
    let s = c.args.state in
    let p = finish-passed _ _ _ (sym c.in-Ok.ensures) in
    (p.fits, omega (arith, p.state.total-within, p.state.runs-are, div-le_self s.total (instance_of s.instance).r))

pub returns-in-Ok : goal.returns-in-Ok
unfolding refused_by finish_result finish_bytes
returns-in-Ok c =
    let none = sym c.in-Ok.ensures in
    let done = c.close.ensures in record {
      reply = c.accepted.ensures ∙ accepted-result _ _ _ _ none done.left;
      bytes = done.bytes ∙ accepted-left _ _ _ none;
    }

pub returns-in-Err : goal.returns-in-Err
unfolding finish_result finish_bytes
returns-in-Err c = record {
  reply = c.refused.ensures ∙ refused-result _ _ _ _ c.in-Err.ensures;
  bytes = refused-left _ _ _ (some_line _ _ c.in-Err.ensures);
}
