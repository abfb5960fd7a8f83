-- The part that is lent, and what is left of the space, are zeros before the call.
use Rattle.std.proofs.Common.{arith, ℕ, List, take, ◌≡◌, ◌≤◌, ◌++◌, refl, replicate, drop}
use Rattle.std.proofs.lemmas.List.{take-replicate, drop-replicate}
use mathlib.Core.Path.{ap, ◌∙◌}
use Rattle.quark.specs.Instance.{state_bytes}
use Rattle.refusals.specs.Outcome.{number_of}
use Rattle.refusals.proofs.Outcome.{number_of_answer}
use Rattle.sponge.specs.Outcomes.{digest_outcome, digest_bytes}
use Rattle.known_answers.specs.Digest.{whole_digest}
use Rattle.known_answers.proofs.whole_digest.Goals as goal

made : (i : ℕ) (message : List ℕ) (bits count size number : ℕ) (lent : List ℕ) → size ≡ state_bytes i → size ≤ 32
    → number ≡ number_of (digest_outcome i 8 message count (take size (replicate 32 0)))
    → lent ≡ digest_bytes i 8 message count (take size (replicate 32 0))
    → count ≡ bits
    → record { instance = i; number = number; space = lent ++ drop size (replicate 32 0) } ≡ whole_digest i message bits
unfolding whole_digest
made i message bits count size number lent same fits answer bytes all =
    rw (answer, bytes, take-replicate {X = ℕ} size 32 0 fits, drop-replicate {X = ℕ} size 32 0, same, all) refl

pub returns : goal.returns
returns c =
    let answer = number_of_answer _ _ c.number_of-number.ensures ∙ ap number_of c.digest.ensures.answer in
    made _ _ c.args.bits _ _ _ _ c.digest_bytes.ensures.value c.digest_bytes.ensures.bound answer c.digest.ensures.bytes (omega arith)
