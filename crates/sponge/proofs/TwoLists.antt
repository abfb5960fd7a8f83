-- Demand 3: what a list's calls leave is what the list's messages determine (`Lists`), and two closed states are compared by the definition's
-- sponge over the two messages.
use mathlib.Core.Bool.{true}
use mathlib.Core.List.{List, [], ◌∷◌}
use mathlib.Core.Logic.{◌↔◌, ◌⊎◌}
use mathlib.Core.Path.{◌≡◌, refl, sym, ap, ap₂, ◌∙◌, subst}
use Prim.Native.Nat.{ℕ, ◌+◌, ◌*◌}
use lib.ListN.{length, drop}
use Rattle.refusals.specs.Outcome.{outcome}
use Rattle.quark.specs.Bytes.{bits_of}
use Rattle.quark.specs.Instance.{instance_of, is_instance}
use Rattle.quark.specs.Sponge.{Counted, pad, block_count, squeezed, closed}
use Rattle.quark.specs.CloseAlike.{CloseAlike, OnlyDiffering, Meet}
use Rattle.quark.proofs.Blocks.{wide_closed}
use Rattle.quark.proofs.CloseAlike.{close_alike, one_block_apart}
use Rattle.quark.proofs.Forward.{squeezed-same, squeezed-injective}
use Rattle.quark.proofs.Instance.{regular}
use Rattle.sponge.specs.Soundness.{state_with}
use Rattle.sponge.specs.Marks.{mark_size, name_in, state_in, ends_in_zeros}
use Rattle.sponge.specs.Outcomes.{mark_outcome}
use Rattle.sponge.specs.Calls.{Call, state_number, Message, message_number}
use Rattle.sponge.specs.Lists.{Name, ListCall, on_state, mark, CallList, ListState, list_number, list_after, run, Saved, messages_number, messages_after, messages_of, message_of}
use Rattle.sponge.specs.TwoLists.{sponge_of, Follows, MarksFollow, ListFollows, RunFollows, AnswersFollow, CountsFollow, bits_in, Comparable, ListsCloseAlike, TwoLists, OneBlockApart, Demand3}
use Rattle.sponge.proofs.StateBytes.{bits-content}
use Rattle.sponge.proofs.WrittenMarks.{name_back, zeros_back}
use Rattle.sponge.proofs.Messages.{state_of, wide_sponge, sponge-closed, sound-message, Admissible}
use Rattle.sponge.proofs.Lists.{refused-leaves, refused-saves_nothing, MarksOfSaved, Invariant, invariant, long_state, state-of_mark, answers}

-- ---- one list

-- the state of a message follows it
follows-message : (i : ℕ) (m : Message) → Admissible m → Follows i m (state_of i m)
unfolding state_of state_with
follows-message i m h = record {
  is_sound = sound-message i m h;
  instance-is = refl;
  phase_is = refl;
  total-is = refl;
  runs-are = refl;
  extra-is = refl;
  bits_are = bits-content i (sponge_of i m).bits (wide_sponge i m);
}

module _ (i : ℕ) (has_instance : is_instance i ≡ true) where
  -- and so do the marks
  marks_follow : (b : List ℕ) (saved : List Saved) → MarksOfSaved i has_instance saved b → MarksFollow i b saved
  unfolding MarksFollow MarksOfSaved
  marks_follow b [] k = tt
  marks_follow b (s ∷ earlier) k =
      let name = s.name in (
        ap name_in k.0 ∙ name_back name.bytes (state_of i s.message) name.sixteen,
        subst (Follows i s.message) (sym (ap state_in k.0 ∙ state-of_mark i has_instance name s.message k.1)) (follows-message i s.message k.1),
        ap ends_in_zeros k.0 ∙ zeros_back name.bytes (state_of i s.message) name.sixteen (long_state i has_instance s.message),
        marks_follow b earlier k.2,
      )

  module _ (list : CallList) where
    abbrev s : Invariant i has_instance list.buffer (messages_of i list) (run i list)
    s = invariant i has_instance list

    pub run-state : ((run i list).state ≡ state_of i (message_of i list)) × Admissible (message_of i list)
    run-state = (ap (λ (h : ListState). h.state) s.is, s.within)

    follows : ListFollows i list
    follows =
        let saved = (messages_of i list).saved in
        let buffer : (run i list).buffer ≡ s.buffer = ap (λ (h : ListState). h.buffer) s.is in
        record {
          state-follows = subst (Follows i (message_of i list)) (sym run-state.0) (follows-message i (message_of i list) s.within);
          count-is = ap (λ (h : ListState). h.count) s.is;
          marks_follow = subst (λ (b : List ℕ). MarksFollow i b saved) (sym buffer) (marks_follow s.buffer saved s.has_marks.marks);
          rest-stays = ap (drop (mark_size * length saved)) buffer ∙ s.has_marks.rest;
        }

    each_answer : (call : ListCall) → list_number (run i list) call ≡ messages_number i (length list.buffer) (messages_of i list) call
    each_answer call = answers i has_instance list.buffer (messages_of i list) (run i list) s call

    -- of a piece, a finish or a squeeze
    pub state-answer : (call : Call) → state_number (run i list).state call ≡ message_number i (message_of i list) call
    unfolding list_number messages_number
    state-answer call = each_answer (on_state call)

    counts : (name : Name)
        → mark_outcome (run i list).state (length (run i list).buffer) (run i list).count
        ≡ outcome (messages_number i (length list.buffer) (messages_of i list) (mark name)) (length (messages_of i list).saved + 1)
    unfolding mark_outcome list_number
    counts name = ap₂ (λ (n k : ℕ). outcome n (k + 1)) (each_answer (mark name)) follows.count-is

    -- a call that is refused changes nothing: neither state, buffer and count, nor the messages
    pub refused-changes_nothing : (call : ListCall) → (list_number (run i list) call ≡ 0 → ⊥)
        → (list_after (run i list) call ≡ run i list) × (messages_after i (length list.buffer) (messages_of i list) call ≡ messages_of i list)
    refused-changes_nothing call refused = (
      refused-leaves (run i list) call refused,
      refused-saves_nothing i (length list.buffer) (messages_of i list) call (λ z. refused (each_answer call ∙ z)),
    )

    -- the bits of a closed state
    closed-bits : (message_of i list).closed ≡ true
        → bits_of (instance_of i).b (run i list).state.bits ≡ (squeezed (instance_of i) (message_of i list).extras (closed (instance_of i) (bits_in i list))).bits
    closed-bits e = follows.state-follows.bits_are ∙ ap (λ (c : Counted). c.bits) (sponge-closed i (message_of i list) e)

-- ---- two lists

module _ (i : ℕ) (list list' : CallList) (both : Comparable i list list') where
  abbrev m : List ℕ
  m = bits_in i list

  abbrev m' : List ℕ
  m' = bits_in i list'

  -- two lists close alike exactly when their messages do: equally many extra blocks neither join states nor part them
  messages_alike : ListsCloseAlike i list list' ↔ CloseAlike (instance_of i) m m'
  unfolding ListsCloseAlike
  messages_alike =
      let I = instance_of i in
      let e = (message_of i list).extras in
      let s = closed I m in
      let t = closed I m' in
      let left = closed-bits i both.has_instance list both.closes in
      let right = closed-bits i both.has_instance list' both.closes' ∙ ap (λ (n : ℕ). (squeezed I n t).bits) (sym both.equal_extras) in (
        λ p. squeezed-injective I (regular i) e s t (wide_closed I (regular i) m) (wide_closed I (regular i) m') (sym left ∙ p ∙ right),
        λ p. left ∙ squeezed-same I e s t p ∙ sym right,
      )

  two : ListsCloseAlike i list list' ↔ (m ≡ m') ⊎ Meet (instance_of i) m m'
  two =
      let alike = close_alike (instance_of i) (regular i) m m' both.equal_counts in
      (λ p. alike.0 (messages_alike.0 p), λ p. messages_alike.1 (alike.1 p))

  apart : (k : ℕ) → OnlyDiffering (instance_of i) (pad (instance_of i) m) (pad (instance_of i) m') (block_count (instance_of i) m) k
      → ¬ ListsCloseAlike i list list'
  apart k only p =
      one_block_apart (instance_of i) (regular i) m m' both.equal_counts (run-state i both.has_instance list).1.of_bits
      (run-state i both.has_instance list').1.of_bits k only (messages_alike.0 p)

-- ---- the theorem

pub demand_3 : Demand3
unfolding RunFollows AnswersFollow CountsFollow TwoLists OneBlockApart
demand_3 = record { run-follows = follows; answers_follow = each_answer; counts_follow = counts; two_lists = two; one_block_apart = apart }
