-- Marks read back (document 02, 2.5): the statements about `mark` and `recall` beside their contracts and demand 3. Their proofs are in
-- proofs/ReadBack.antt.
use Rattle.std.specs.Prelude.{Bool, true, false, not, ◌&&◌, List, [], ◌∷◌, ◌≡◌, ℕ, ◌+◌, length}
use Rattle.refusals.specs.Outcome.{accepted}
use Rattle.quark.specs.Instance.{is_instance}
use Rattle.sponge.specs.declared.State.{State}
use Rattle.sponge.specs.Bytes.{same}
use Rattle.sponge.specs.Marks.{name_size}
use Rattle.sponge.specs.Soundness.{sound}
use Rattle.sponge.specs.Outcomes.{mark_number, mark_bytes, recall_number, recall_result}
use Rattle.sponge.specs.Lists.{Name, ListCall, on_state, mark, recall, Messages, messages_number, messages_after, messages_from}

-- ---- a marking, and a return right after it

-- an accepted marking of a state s, whose bits are 32 bytes, under a name of 16 bytes
pub record Marking (s : State) (name buffer : List ℕ) (count : ℕ) : Type 0 where
  pub bytes-32 : length s.bits ≡ 32
  pub name-16 : length name ≡ name_size
  pub accepted : mark_number s (length buffer) count ≡ 0

-- a return to the name, from any sound state of an instance, is accepted, and the state is the one that was marked
unfoldable pub SameState : Type 0
SameState =
    (s t : State) (name buffer : List ℕ) (count : ℕ) → Marking s name buffer count → is_instance t.instance ≡ true → sound t ≡ true
    → recall_result t name (mark_bytes s name buffer count) (count + 1) ≡ record { outcome = accepted tt; state = s }

-- a return to another name, from any state, is answered as without the marking
unfoldable pub OthersStay : Type 0
OthersStay =
    (s t : State) (name buffer : List ℕ) (count : ℕ) → Marking s name buffer count → (other : List ℕ) → same name other ≡ false
    → recall_result t other (mark_bytes s name buffer count) (count + 1) ≡ recall_result t other buffer count

-- ---- an accepted return

-- it is made from a sound state of an instance
unfoldable pub FromSound : Type 0
FromSound = (s : State) (name buffer : List ℕ) (count : ℕ) → recall_number s name buffer count ≡ 0 → (is_instance s.instance ≡ true) × (sound s ≡ true)

-- and gives such a state, wherever the mark is from
unfoldable pub RecallSound : Type 0
RecallSound =
    (s : State) (name buffer : List ℕ) (count : ℕ) → recall_number s name buffer count ≡ 0
    → (is_instance (recall_result s name buffer count).state.instance ≡ true) × (sound (recall_result s name buffer count).state ≡ true)

-- ---- in a list

-- whether calls mark nothing under a name; a marking that is refused counts as one
unfoldable pub leaves_name : Name → List ListCall → Bool
leaves_name name [] = true
leaves_name name (on_state call ∷ calls) = leaves_name name calls
leaves_name name (mark other ∷ calls) = not (same other.bytes name.bytes) && leaves_name name calls
leaves_name name (recall other ∷ calls) = leaves_name name calls

-- after an accepted marking and any calls that mark nothing under its name, a return to it is accepted, and message and extras are those
-- when the mark was set
unfoldable pub BackToMark : Type 0
BackToMark =
    (i bytes : ℕ) (m : Messages) (name : Name) (calls : List ListCall) → messages_number i bytes m (mark name) ≡ 0 → leaves_name name calls ≡ true
    → (messages_number i bytes (messages_from i bytes m (mark name ∷ calls)) (recall name) ≡ 0)
    × ((messages_after i bytes (messages_from i bytes m (mark name ∷ calls)) (recall name)).current ≡ m.current)

pub record ReadBack : Type 0 where
  pub same-state : SameState
  pub others-stay : OthersStay
  pub from-sound : FromSound
  pub recall-sound : RecallSound
  pub back-to_mark : BackToMark
