-- Lists of calls (document 01, "Pieces and finish"; document 02, 2.1 and 2.5; demand 3): pieces, finishes and squeezes, and markings and
-- returns, for which each list has one buffer and a count of marks. What the calls leave; and the message of a list, with its extras and
-- with those that its markings saved, worked out from the calls' arguments and the buffer's length alone.
use Rattle.std.specs.Prelude.{Bool, false, not, ◌||◌, cond, List, [], ◌∷◌, ◌≡◌, ℕ, eqb, length}
use Rattle.refusals.specs.Lines.{first_line}
use Rattle.refusals.specs.Outcome.{Outcome, accepted, refused}
use Rattle.sponge.specs.declared.State.{State}
use Rattle.sponge.specs.Bytes.{same}
use Rattle.sponge.specs.Marks.{name_size}
use Rattle.sponge.specs.Outcomes.{line17, line19, init_result, mark_number, mark_outcome, mark_bytes, recall_number, recall_result}
use Rattle.sponge.specs.Calls.{Call, state_number, after, Message, empty, message_number, extended}

-- the name of a mark: 16 bytes
pub record Name : Type 0 where
  pub bytes : List ℕ
  pub sixteen : length bytes ≡ name_size

-- a call of a list: a piece, a finish or a squeeze; a marking under a name; or a return to a name
pub data ListCall : Type 0 where
  on_state : Call → ListCall
  mark : Name → ListCall
  recall : Name → ListCall

-- a list of calls, and its buffer before the first of them: of any length, with any bytes
pub record CallList : Type 0 where
  pub buffer : List ℕ
  pub calls : List ListCall

-- ---- the calls one after another, as the operations answer them

-- what a call leaves for the next one: the state last handed back, the list's buffer, and the count of marks last answered
pub record ListState : Type 0 where
  pub state : State
  pub buffer : List ℕ
  pub count : ℕ

-- the number of the line that refuses a call, 0 where it is accepted
unfoldable pub list_number : ListState → ListCall → ℕ
list_number h (on_state call) = state_number h.state call
list_number h (mark name) = mark_number h.state (length h.buffer) h.count
list_number h (recall name) = recall_number h.state name.bytes h.buffer h.count

-- the count after a marking: the one that it answers; where it is refused, the one before
unfoldable pub count_after : ℕ → Outcome ℕ → ℕ
count_after before (accepted count) = count
count_after before (refused number place) = before

-- what a call leaves: only a marking writes the buffer and changes the count, and it leaves the state as it is
unfoldable pub list_after : ListState → ListCall → ListState
list_after h (on_state call) = record { state = after h.state call; buffer = h.buffer; count = h.count }
list_after h (mark name) = record {
  state = h.state;
  buffer = mark_bytes h.state name.bytes h.buffer h.count;
  count = count_after h.count (mark_outcome h.state (length h.buffer) h.count);
}
list_after h (recall name) = record { state = (recall_result h.state name.bytes h.buffer h.count).state; buffer = h.buffer; count = h.count }

-- the calls of a list one after the other, each on what the previous one left
unfoldable pub run_from : ListState → List ListCall → ListState
run_from h [] = h
run_from h (call ∷ calls) = run_from (list_after h call) calls

-- from the state that `init` makes, the list's buffer, and no mark
unfoldable pub run : ℕ → CallList → ListState
run i list = run_from (record { state = (init_result i).state; buffer = list.buffer; count = 0 }) list.calls

-- ---- the message of a list, worked out from arguments and from no state

-- a message, with its extras, that a marking saved under a name
pub record Saved : Type 0 where
  pub name : Name
  pub message : Message

-- the message so far, and those saved, the latest first
pub record Messages : Type 0 where
  pub current : Message
  pub saved : List Saved

-- whether one is saved under a name
unfoldable pub is_saved : Name → List Saved → Bool
is_saved name [] = false
is_saved name (s ∷ earlier) = same s.name.bytes name.bytes || is_saved name earlier

-- the latest that is saved under a name; `other` where none is
unfoldable pub latest_saved : Name → List Saved → (other : Message) → Message
latest_saved name [] other = other
latest_saved name (s ∷ earlier) other = cond (same s.name.bytes name.bytes) s.message (latest_saved name earlier other)

-- what a call answers, in checking order, in a list whose buffer has this many bytes: a piece, a finish or a squeeze what the message says; a
-- marking 17 and 19, with as many marks in use as are saved; a return 17, and 18 where none is saved under the name
unfoldable pub messages_number : (i bytes : ℕ) → Messages → ListCall → ℕ
messages_number i bytes m (on_state call) = message_number i m.current call
messages_number i bytes m (mark name) = first_line ((line17 bytes (length m.saved), 17) ∷ (line19 bytes (length m.saved), 19) ∷ [])
messages_number i bytes m (recall name) = first_line ((line17 bytes (length m.saved), 17) ∷ (not (is_saved name m.saved), 18) ∷ [])

-- the messages after one more call: a piece, a finish or a squeeze changes the message so far; an accepted marking saves it; an accepted
-- return brings back the latest that is saved under the name; and a refused call changes nothing
unfoldable pub messages_after : (i bytes : ℕ) → Messages → ListCall → Messages
messages_after i bytes m (on_state call) = record { current = extended i m.current call; saved = m.saved }
messages_after i bytes m (mark name) =
    cond (eqb (messages_number i bytes m (mark name)) 0)
    (record { current = m.current; saved = record { name = name; message = m.current } ∷ m.saved }) m
messages_after i bytes m (recall name) =
    cond (eqb (messages_number i bytes m (recall name)) 0)
    (record { current = latest_saved name m.saved m.current; saved = m.saved }) m

unfoldable pub messages_from : (i bytes : ℕ) → Messages → List ListCall → Messages
messages_from i bytes m [] = m
messages_from i bytes m (call ∷ calls) = messages_from i bytes (messages_after i bytes m call) calls

-- of a whole list: at first the empty message, and none saved
unfoldable pub messages_of : ℕ → CallList → Messages
messages_of i list = messages_from i (length list.buffer) (record { current = empty; saved = [] }) list.calls

-- its message
abbrev pub message_of : ℕ → CallList → Message
message_of i list = (messages_of i list).current
