-- `digest` meets its contract: where no line holds, a fresh state takes the message and `close` gives out the paper's digest.
use mathlib.Core.Path.{sym, ap, ◌∙◌}
use native.Mathlib.Omega.{arith}
use Rattle.refusals.specs.Lines.{refused_by}
use Rattle.refusals.specs.Outcome.{outcome_of}
use Rattle.refusals.proofs.Outcome.{handed_on, some_line, accepted-outcome, refused-left, accepted-left}
use Rattle.quark.specs.Bytes.{bits_of}
use Rattle.quark.specs.Instance.{state_bytes}
use Rattle.sponge.specs.declared.State.{State}
use Rattle.sponge.specs.Soundness.{state_with, fresh}
use Rattle.sponge.specs.Outcomes.{digest_outcome, digest_bytes}
use Rattle.sponge.proofs.Contents.{runs-after_bits}
use Rattle.sponge.proofs.Passed.{digest-passed}
use Rattle.sponge.proofs.WholeDigest.{fresh-ready, fresh-total, fresh-runs, whole-message, whole-digest}
use Rattle.sponge.proofs.digest.Goals as goal

pub returns-in_err-digest_line : goal.returns-in_err-digest_line
unfolding digest_outcome digest_bytes
returns-in_err-digest_line c = record {
  answer = handed_on _ _ c.in_err-digest_line.ensures _ _ c.from_residual.ensures.1;
  bytes = refused-left _ _ _ (some_line _ _ c.in_err-digest_line.ensures);
}

-- past the test no line holds, and the fresh state can take the message
pub invariant_of-running : goal.invariant_of-running
unfolding refused_by
invariant_of-running c =
    let p = digest-passed _ _ _ _ _ (sym c.in_ok-digest_line.ensures) in
    let ready = fresh-ready _ _ c.fresh-state.ensures _ p.has_instance p.width in
    record { has_instance = ready.has_instance; has_width = ready.has_width; zero_past = ready.zero_past }

pub take_bits-requires : goal.take_bits-requires
unfolding refused_by
take_bits-requires c =
    let p = digest-passed _ _ _ _ _ (sym c.in_ok-digest_line.ensures) in
    let ef = c.fresh-state.ensures in
    (p.within, omega (arith, fresh-total _ _ ef, p.room), omega (arith, fresh-runs _ _ ef, p.room))

pub close-requires : goal.close-requires
unfolding refused_by fresh state_with
close-requires c =
    let p = digest-passed _ _ _ _ _ (sym c.in_ok-digest_line.ensures) in
    let ef = c.fresh-state.ensures in
    let et = c.take_bits.ensures in (
      p.fits ∙ sym (ap (λ (s : State). state_bytes s.instance) et ∙ ap (λ (s : State). state_bytes s.instance) ef),
      omega (arith, fresh-runs _ _ ef, runs-after_bits c.fresh-state.result _ _ _ et, p.room),
    )

pub returns : goal.returns
unfolding refused_by outcome_of digest_outcome digest_bytes
returns c =
    let a = c.args in
    let m = bits_of a.count a.message.now in
    let ef = c.fresh-state.ensures in
    let none = sym c.in_ok-digest_line.ensures in record {
      answer = accepted-outcome tt _ (sym none);
      bytes = c.close.ensures.bytes
          ∙ whole-digest a.instance m _ (c.take_bits.ensures ∙ whole-message a.instance _ ef m)
          ∙ accepted-left _ _ _ none;
    }
