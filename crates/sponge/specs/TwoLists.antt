-- Demand 3 of document 01, with document 02, 2.1 and 2.5: the statement about two whole lists of calls, of which any may be refused, each
-- from a fresh state of one and the same instance, and each with its own buffer for marks. Its proof is in proofs/TwoLists.antt.
use Rattle.std.specs.Prelude.{true, cond, List, [], ◌∷◌, ◌↔◌, ◌⊎◌, ◌≡◌, ℕ, ◌+◌, ◌*◌, length, drop}
use Rattle.refusals.specs.Outcome.{outcome}
use Rattle.quark.specs.Bytes.{bits_of}
use Rattle.quark.specs.Instance.{instance_of, is_instance}
use Rattle.quark.specs.Sponge.{Counted, pad, block_count, absorbing, squeezed, closed}
use Rattle.quark.specs.CloseAlike.{OnlyDiffering, Meet}
use Rattle.sponge.specs.declared.State.{State}
use Rattle.sponge.specs.Soundness.{absorbing_phase, closed_phase, sound}
use Rattle.sponge.specs.Marks.{mark_size, name_in, state_in, ends_in_zeros, mark_at}
use Rattle.sponge.specs.Outcomes.{mark_outcome}
use Rattle.sponge.specs.Calls.{Message}
use Rattle.sponge.specs.Lists.{Name, ListCall, mark, CallList, list_number, run, Saved, messages_number, messages_of, message_of}

-- ---- a list follows its message

unfoldable pub phase_of : Message → ℕ
phase_of m = cond m.closed closed_phase absorbing_phase

-- the definition's sponge over the message, with a run of P for each extra block once it is closed: its bits, and how often it ran P
unfoldable pub sponge_of : ℕ → Message → Counted
sponge_of i m = cond m.closed (squeezed (instance_of i) m.extras (closed (instance_of i) m.bits)) (absorbing (instance_of i) m.bits)

-- a state is the one that a message determines, with its extras
pub record Follows (i : ℕ) (m : Message) (s : State) : Type 0 where
  pub is_sound : sound s ≡ true
  pub instance-is : s.instance ≡ i
  pub phase_is : s.phase ≡ phase_of m
  pub total-is : s.total ≡ length m.bits
  pub runs-are : s.runs ≡ (sponge_of i m).runs
  pub extra-is : s.extra ≡ m.extras
  pub bits_are : bits_of (instance_of i).b s.bits ≡ (sponge_of i m).bits

-- the marks in a buffer are those that were saved, the earliest one at its start: each has its name, the state that its message determines,
-- and two zeros
unfoldable pub MarksFollow : ℕ → (buffer : List ℕ) → List Saved → Type 0
MarksFollow i buffer [] = Unit {0}
MarksFollow i buffer (s ∷ earlier) =
    (name_in (mark_at buffer (length earlier)) ≡ s.name.bytes) × Follows i s.message (state_in (mark_at buffer (length earlier)))
    × (ends_in_zeros (mark_at buffer (length earlier)) ≡ true) × MarksFollow i buffer earlier

-- after a list the state is the one that the list's message determines, with its extras; there are as many marks as were saved, and they are
-- those; and after them the buffer is as it was at first
pub record ListFollows (i : ℕ) (list : CallList) : Type 0 where
  pub state-follows : Follows i (message_of i list) (run i list).state
  pub count-is : (run i list).count ≡ length (messages_of i list).saved
  pub marks_follow : MarksFollow i (run i list).buffer (messages_of i list).saved
  pub rest-stays : drop (mark_size * length (messages_of i list).saved) (run i list).buffer
      ≡ drop (mark_size * length (messages_of i list).saved) list.buffer

unfoldable pub RunFollows : Type 0
RunFollows = (i : ℕ) → is_instance i ≡ true → (list : CallList) → ListFollows i list

-- and the messages determine what each further call answers: in a list lines 1, 2 and 8 never refuse, not for a mark that is found either; 3
-- refuses a piece or a finish only on a closed message, and a squeeze only on an open one; and 18 refuses a return only where nothing was
-- saved under the name
unfoldable pub AnswersFollow : Type 0
AnswersFollow =
    (i : ℕ) → is_instance i ≡ true → (list : CallList) (call : ListCall)
    → list_number (run i list) call ≡ messages_number i (length list.buffer) (messages_of i list) call

-- with the count that a marking answers: one more than were saved
unfoldable pub CountsFollow : Type 0
CountsFollow =
    (i : ℕ) → is_instance i ≡ true → (list : CallList) (name : Name)
    → mark_outcome (run i list).state (length (run i list).buffer) (run i list).count
    ≡ outcome (messages_number i (length list.buffer) (messages_of i list) (mark name)) (length (messages_of i list).saved + 1)

-- ---- two lists

-- the bits of a list's message
abbrev pub bits_in : ℕ → CallList → List ℕ
bits_in i list = (message_of i list).bits

-- two lists of one instance that both end closed, with messages that pad to equally many blocks, and with equal extras
pub record Comparable (i : ℕ) (list list' : CallList) : Type 0 where
  pub has_instance : is_instance i ≡ true
  pub closes : (message_of i list).closed ≡ true
  pub closes' : (message_of i list').closed ≡ true
  pub equal_counts : block_count (instance_of i) (bits_in i list) ≡ block_count (instance_of i) (bits_in i list')
  pub equal_extras : (message_of i list).extras ≡ (message_of i list').extras

-- document 01's "close alike": all b bits of the two closed states are equal
unfoldable pub ListsCloseAlike : ℕ → CallList → CallList → Type 0
ListsCloseAlike i list list' = bits_of (instance_of i).b (run i list).state.bits ≡ bits_of (instance_of i).b (run i list').state.bits

-- they close alike exactly when the messages are equal, or when they aren't and the states just before the last differing block differ by
-- exactly the difference of those two blocks in the last r bits and nowhere else
unfoldable pub TwoLists : Type 0
TwoLists =
    (i : ℕ) (list list' : CallList) → Comparable i list list'
    → ListsCloseAlike i list list' ↔ (bits_in i list ≡ bits_in i list') ⊎ Meet (instance_of i) (bits_in i list) (bits_in i list')

-- so messages whose padded forms differ in just one block never close alike
unfoldable pub OneBlockApart : Type 0
OneBlockApart =
    (i : ℕ) (list list' : CallList) → Comparable i list list'
    → (k : ℕ) → OnlyDiffering (instance_of i) (pad (instance_of i) (bits_in i list)) (pad (instance_of i) (bits_in i list')) (block_count (instance_of i) (bits_in i list)) k
    → ¬ ListsCloseAlike i list list'

-- demand 3, whole
pub record Demand3 : Type 0 where
  pub run-follows : RunFollows
  pub answers_follow : AnswersFollow
  pub counts_follow : CountsFollow
  pub two_lists : TwoLists
  pub one_block_apart : OneBlockApart
