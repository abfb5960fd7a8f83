-- Calls on a state alone, pieces, finishes and squeezes, and what each makes of a message, with its extras (document 01, "Pieces and
-- finish"; document 02, 2.1; demand 3). Lists of calls are in `Lists`.
use Rattle.std.specs.Prelude.{Bool, true, false, not, cond, List, [], ◌∷◌, ◌++◌, ℕ, ◌+◌, eqb, length}
use Rattle.refusals.specs.Lines.{first_line, line5}
use Rattle.quark.specs.Bytes.{bits_of}
use Rattle.quark.specs.Instance.{state_bytes}
use Rattle.permutation.specs.Lines.{line4}
use Rattle.sponge.specs.declared.State.{State}
use Rattle.sponge.specs.Outcomes.{line6, line7, line14, line15, absorb_number, absorb_result, finish_number, finish_result, blocks_bytes, squeeze_number, squeeze_result}

-- a call's arguments but the state: of a piece the bytes of its slice at the call, its bit count and its step width; of a finish its step
-- width and the length of its buffer; of a squeeze its step width, its number of blocks and the length of its buffer
pub data Call : Type 0 where
  piece : (bytes : List ℕ) (count width : ℕ) → Call
  finish : (width buffer : ℕ) → Call
  squeeze : (width k buffer : ℕ) → Call

-- ---- a call on a state, as `absorb`, `finish` and `squeeze` answer it

-- the number of the line that refuses it, 0 where it is accepted
unfoldable pub state_number : State → Call → ℕ
state_number s (piece bytes count width) = absorb_number s width (length bytes) count
state_number s (finish width buffer) = finish_number s width buffer
state_number s (squeeze width k buffer) = squeeze_number s width k buffer

-- the state that it hands back
unfoldable pub after : State → Call → State
after s (piece bytes count width) = (absorb_result s width bytes count).state
after s (finish width buffer) = (finish_result s width buffer).state
after s (squeeze width k buffer) = (squeeze_result s width k buffer).state

-- ---- the message, worked out from arguments and from no state

-- its bits, and whether it is closed; and beside it the extras, the blocks given out since the finish
pub record Message : Type 0 where
  pub bits : List ℕ
  pub closed : Bool
  pub extras : ℕ

-- before the first call: no bits, open, and no extras
abbrev pub empty : Message
empty = record { bits = []; closed = false; extras = 0 }

-- what a call answers on a message, in checking order: 3 where the message is closed; else 4, 6 and 7 for a piece, and 4 and 5 for a finish.
-- A squeeze answers 3 where the message is open; else 4, 5, 14 and 15
unfoldable pub message_number : ℕ → Message → Call → ℕ
message_number i m (piece bytes count width) =
    first_line ((m.closed, 3) ∷ (line4 i width, 4) ∷ (line6 (length bytes) count, 6) ∷ (line7 (length m.bits) count, 7) ∷ [])
message_number i m (finish width buffer) = first_line ((m.closed, 3) ∷ (line4 i width, 4) ∷ (line5 buffer (state_bytes i), 5) ∷ [])
message_number i m (squeeze width k buffer) =
    first_line
    ((not m.closed, 3) ∷ (line4 i width, 4) ∷ (line5 buffer (blocks_bytes i k), 5) ∷ (line14 k, 14) ∷ (line15 m.extras k, 15) ∷ [])

-- what an accepted call makes of a message: a piece makes it longer by `count` bits, a finish closes it, and a squeeze leaves it as it is and
-- adds k to the extras
unfoldable pub grown : Message → Call → Message
grown m (piece bytes count width) = record { bits = m.bits ++ bits_of count bytes; closed = false; extras = 0 }
grown m (finish width buffer) = record { bits = m.bits; closed = true; extras = 0 }
grown m (squeeze width k buffer) = record { bits = m.bits; closed = m.closed; extras = m.extras + k }

-- the message after one more call: it grows exactly where no line holds, so that a refused call adds nothing
unfoldable pub extended : ℕ → Message → Call → Message
extended i m call = cond (eqb (message_number i m call) 0) (grown m call) m
