-- More blocks from a closed state (document 02, 2.1): the statements about `squeeze` beside its contract and demand 3. Their proofs are in
-- proofs/MoreBlocks.antt.
use Rattle.std.specs.Prelude.{true, List, ◌++◌, ◌≡◌, ℕ, ◌+◌, ◌/◌, ◌≤◌, length}
use Rattle.quark.specs.Bytes.{bytes_of}
use Rattle.quark.specs.Instance.{instance_of, is_instance, state_bytes}
use Rattle.quark.specs.Sponge.{absorbed, output}
use Rattle.sponge.specs.declared.State.{State}
use Rattle.sponge.specs.Soundness.{most_blocks, sound}
use Rattle.sponge.specs.Outcomes.{finish_number, finish_bytes, blocks_bytes, squeeze_number, squeeze_result, squeeze_bytes}
use Rattle.sponge.specs.Calls.{finish, squeeze, Message, extended}
use Rattle.sponge.specs.Lists.{CallList, run, message_of}

-- an accepted call gives a sound state
unfoldable pub SqueezeSound : Type 0
SqueezeSound = (s : State) (w k buffer : ℕ) → squeeze_number s w k buffer ≡ 0 → sound (squeeze_result s w k buffer).state ≡ true

-- ---- j blocks and then k are j + k at once

-- two calls in a row that are accepted, on a state s and on what the first hands back, for no more blocks together than one call gives
pub record TwoCalls (s : State) (w w' j k : ℕ) (buffer buffer' : List ℕ) : Type 0 where
  pub first : squeeze_number s w j (length buffer) ≡ 0
  pub second : squeeze_number (squeeze_result s w j (length buffer)).state w' k (length buffer') ≡ 0
  pub in_one : j + k ≤ most_blocks

-- one call for all the blocks is accepted, leaves the same state and writes the same bytes
pub record OneCall (s : State) (w w' j k : ℕ) (buffer buffer' : List ℕ) : Type 0 where
  pub accepted : squeeze_number s w (j + k) (length (buffer ++ buffer')) ≡ 0
  pub same-state : (squeeze_result s w (j + k) (length (buffer ++ buffer'))).state
      ≡ (squeeze_result (squeeze_result s w j (length buffer)).state w' k (length buffer')).state
  pub same_bytes : squeeze_bytes s w (j + k) (buffer ++ buffer')
      ≡ squeeze_bytes s w j buffer ++ squeeze_bytes (squeeze_result s w j (length buffer)).state w' k buffer'

unfoldable pub AtOnce : Type 0
AtOnce = (s : State) (w w' j k : ℕ) (buffer buffer' : List ℕ) → TwoCalls s w w' j k buffer buffer' → OneCall s w w' j k buffer buffer'

-- ---- digest and blocks together

-- all that a closed message gives out: n/r blocks of the definition's output, the digest, and then its extras
unfoldable pub given_out : ℕ → Message → List ℕ
given_out i m =
    bytes_of (state_bytes i + blocks_bytes i m.extras)
    (output (instance_of i) ((instance_of i).n / (instance_of i).r + m.extras) (absorbed (instance_of i) m.bits))

-- in a list, an accepted finish writes the first of it
unfoldable pub DigestFirst : Type 0
DigestFirst =
    (i : ℕ) → is_instance i ≡ true → (list : CallList) (w : ℕ) (buffer : List ℕ) → finish_number (run i list).state w (length buffer) ≡ 0
    → finish_bytes (run i list).state w buffer ≡ given_out i (extended i (message_of i list) (finish w (length buffer)))

-- and an accepted squeeze what comes next
unfoldable pub BlocksNext : Type 0
BlocksNext =
    (i : ℕ) → is_instance i ≡ true → (list : CallList) (w k : ℕ) (buffer : List ℕ) → squeeze_number (run i list).state w k (length buffer) ≡ 0
    → given_out i (message_of i list) ++ squeeze_bytes (run i list).state w k buffer ≡ given_out i (extended i (message_of i list) (squeeze w k (length buffer)))

pub record MoreBlocks : Type 0 where
  pub squeeze-sound : SqueezeSound
  pub at_once : AtOnce
  pub digest-first : DigestFirst
  pub blocks_next : BlocksNext
