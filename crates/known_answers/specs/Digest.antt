-- The digest of a whole message, and what it is as text.
use Rattle.std.specs.Prelude.{List, ◌++◌, ◌-◌, ℕ, codes, take, replicate}
use Rattle.std.specs.Fmt.{decimal}
use Rattle.quark.specs.Instance.{state_bytes}
use Rattle.refusals.specs.Outcome.{number_of}
use Rattle.sponge.specs.Outcomes.{digest_outcome, digest_bytes}
use Rattle.known_answers.specs.Hex.{hex}
use Rattle.known_answers.specs.declared.Digest.{Digest}

-- of the first bits of a message, as many as `count`: the digest in front of 32 bytes that were zeros
unfoldable pub whole_digest : ℕ → List ℕ → ℕ → Digest
whole_digest i message count =
    let size = state_bytes i in
    let buffer = replicate size 0 in
    record { instance = i; number = number_of (digest_outcome i 8 message count buffer); space = digest_bytes i 8 message count buffer ++ replicate (32 - size) 0 }

-- the number, and the bytes of the digest
abbrev pub digest_text : Digest → List ℕ
digest_text digest = decimal digest.number ++ codes ", " ++ hex (take (state_bytes digest.instance) digest.space)
