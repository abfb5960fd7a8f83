-- A list of calls follows its messages: the state, the buffer and the count that its calls leave are those that the messages determine, and
-- each call is answered as they say.
use mathlib.Core.Bool.{Bool, true, false, cond, ◌||◌, false≢true}
use mathlib.Core.List.{List, [], ◌∷◌}
use mathlib.Core.Logic.{◌⊎◌, inl, inr}
use mathlib.Core.Path.{◌≡◌, refl, sym, ap, ap₂, ◌∙◌, subst}
use Prim.Native.Nat.{ℕ, zero, suc, ◌+◌, ◌*◌, ◌-◌, ◌≤◌, ◌<◌}
use native.Mathlib.Decide.{ℕ_discrete}
use native.Mathlib.Nat.{le_refl, le_step, suc-ne-zero}
use native.Mathlib.Numerals.{add-one}
use native.Mathlib.Omega.{arith}
use borrow.Author.Tests.{ne_eqb, not-false}
use lib.Dec.{eqb}
use lib.ListN.{length, drop}
use lib.Seq.{drop-drop}
use Rattle.refusals.specs.Lines.{first_line}
use Rattle.refusals.specs.Outcome.{outcome}
use Rattle.refusals.proofs.FirstLine.{none_holds}
use Rattle.refusals.proofs.Outcome.{refused-left, accepted-left}
use Rattle.quark.specs.Instance.{is_instance}
use Rattle.quark.proofs.Bytes.{length-bytes_of}
use Rattle.permutation.specs.Lines.{line1}
use Rattle.sponge.specs.declared.State.{State}
use Rattle.sponge.specs.Bytes.{same}
use Rattle.sponge.specs.Soundness.{sound, state_with}
use Rattle.sponge.specs.Marks.{mark_size, mark_of, name_in, state_in, ends_in_zeros, mark_at, with_mark, up_to_latest, found}
use Rattle.sponge.specs.Outcomes.{line2, line2_mark, line17, line18, line19, result_by, mark_number, mark_outcome, mark_bytes, recall_number, recall_result}
use Rattle.sponge.specs.Calls.{Message}
use Rattle.sponge.specs.Lists.{Name, ListCall, on_state, mark, recall, CallList, ListState, list_number, count_after, list_after, run_from, run, Saved, Messages, is_saved, latest_saved, messages_number, messages_after, messages_from, messages_of}
use Rattle.sponge.proofs.Passed.{mark-room, found_lines}
use Rattle.sponge.proofs.WrittenMarks.{in_four_bytes, name_back, length-mark, zeros_back, state-back, length-with_mark, mark-written, earlier_stay, rest-stays}
use Rattle.sponge.proofs.Messages.{state_of, Admissible, admissible_empty, sound-message, init_empty, refused-adds_nothing, refused-keeps, same_number, after_call, admissible_after}

-- ---- the count after a marking

counted_accepted : (count number : ℕ) → number ≡ 0 → count_after count (outcome number (count + 1)) ≡ suc count
unfolding count_after outcome
counted_accepted count number e = ap (λ (n : ℕ). count_after count (outcome n (count + 1))) e ∙ add-one count

counted_refused : (count number : ℕ) → (number ≡ 0 → ⊥) → count_after count (outcome number (count + 1)) ≡ count
unfolding count_after outcome
counted_refused count zero some = absurd (some refl)
counted_refused count (suc number) some = omega arith

-- ---- a refused call changes nothing

-- neither state nor buffer nor count
pub refused-leaves : (h : ListState) (call : ListCall) → (list_number h call ≡ 0 → ⊥) → list_after h call ≡ h
unfolding list_number list_after mark_bytes mark_outcome recall_result result_by
refused-leaves h (on_state call) refused =
    ap (λ (s : State). record { state = s; buffer = h.buffer; count = h.count }) (refused-keeps h.state call refused)
refused-leaves h (mark name) refused =
    ap₂ (λ (b : List ℕ) (n : ℕ). record { state = h.state; buffer = b; count = n }) (sym (refused-left _ h.buffer _ refused))
    (counted_refused h.count _ refused)
refused-leaves h (recall name) refused =
    ap (λ (s : State). record { state = s; buffer = h.buffer; count = h.count }) (sym (refused-left _ h.state _ refused))

-- nor the messages
pub refused-saves_nothing : (i bytes : ℕ) (m : Messages) (call : ListCall) → (messages_number i bytes m call ≡ 0 → ⊥) → messages_after i bytes m call ≡ m
unfolding messages_number messages_after
refused-saves_nothing i bytes m (on_state call) refused =
    ap (λ (x : Message). record { current = x; saved = m.saved }) (refused-adds_nothing i m.current call refused)
refused-saves_nothing i bytes m (mark name) refused = sym (refused-left _ m _ refused)
refused-saves_nothing i bytes m (recall name) refused = sym (refused-left _ m _ refused)

module _ (i : ℕ) (has_instance : is_instance i ≡ true) where
  -- ---- the mark of a message

  pub long_state : (m : Message) → length (state_of i m).bits ≡ 32
  unfolding state_of state_with
  long_state m = length-bytes_of 32 _

  abbrev marked_as : Name → Message → List ℕ
  marked_as name m = mark_of name.bytes (state_of i m)

  long_mark : (name : Name) (m : Message) → length (marked_as name m) ≡ mark_size
  long_mark name m = length-mark name.bytes (state_of i m) name.sixteen (long_state m)

  pub state-of_mark : (name : Name) (m : Message) → Admissible m → state_in (marked_as name m) ≡ state_of i m
  state-of_mark name m h = state-back name.bytes (state_of i m) name.sixteen (long_state m) (in_four_bytes (state_of i m) (sound-message i m h))

  -- ---- the marks in a buffer are those of the messages saved, the latest last

  unfoldable pub MarksOfSaved : List Saved → List ℕ → Type 0
  MarksOfSaved [] buffer = Unit {0}
  MarksOfSaved (s ∷ earlier) buffer =
      (mark_at buffer (length earlier) ≡ marked_as s.name s.message) × Admissible s.message × MarksOfSaved earlier buffer

  marks_stay : (saved : List Saved) (b b' : List ℕ) → ((j : ℕ) → j < length saved → mark_at b' j ≡ mark_at b j) → MarksOfSaved saved b → MarksOfSaved saved b'
  unfolding MarksOfSaved
  marks_stay [] b b' stays k = tt
  marks_stay (s ∷ earlier) b b' stays k =
      (stays (length earlier) (le_refl (suc (length earlier))) ∙ k.0, k.1, marks_stay earlier b b' (λ j h. stays j (le_step h)) k.2)

  -- ---- the search of a return: it finds nothing and nothing is saved under the name, or it finds the mark of the latest that is saved

  -- nothing is saved under it, and nothing is found
  record Missing (saved : Bool) (upto : ℕ) : Type 0 where
    none_saved : saved ≡ false
    none_found : upto ≡ 0

  -- what is found is the mark of a message
  record Present (saved : Bool) (upto : ℕ) (b : List ℕ) (m : Message) : Type 0 where
    name : Name
    some_saved : saved ≡ true
    some_found : eqb upto 0 ≡ false
    mark-is : mark_at b (upto - 1) ≡ marked_as name m
    within : Admissible m

  look_up : (name : Name) (saved : List Saved) (b : List ℕ) (other : Message) → MarksOfSaved saved b
      → Missing (is_saved name saved) (up_to_latest name.bytes b (length saved))
      ⊎ Present (is_saved name saved) (up_to_latest name.bytes b (length saved)) b (latest_saved name saved other)
  unfolding is_saved up_to_latest latest_saved MarksOfSaved
  look_up name [] b other k = inl (record { none_saved = refl; none_found = refl })
  look_up name (s ∷ earlier) b other k =
      rw (ap name_in k.0 ∙ name_back s.name.bytes (state_of i s.message) s.name.sixteen)
      (by_name (same s.name.bytes name.bytes) (look_up name earlier b other k.2))
    where
      n : ℕ
      n = length earlier

      back : suc n - 1 ≡ n
      back = omega arith

      -- by whether the latest of the saved has the name
      by_name : {e : Bool} {upto : ℕ} {m : Message} (t : Bool) → Missing e upto ⊎ Present e upto b m
          → Missing (t || e) (cond t (suc n) upto) ⊎ Present (t || e) (cond t (suc n) upto) b (cond t s.message m)
      by_name true others =
          inr (record { name = s.name; some_saved = refl; some_found = ne_eqb (suc n) 0 (suc-ne-zero n); mark-is = ap (mark_at b) back ∙ k.0; within = k.1 })
      by_name false others = others

  -- ---- what a list has, as its messages determine it

  module _ (first : List ℕ) where
    -- a buffer, which was `first` before the calls: the marks of the messages saved, and then the bytes that it had
    pub record HasMarks (saved : List Saved) (b : List ℕ) : Type 0 where
      pub long : length b ≡ length first
      pub marks : MarksOfSaved saved b
      pub rest : drop (mark_size * length saved) b ≡ drop (mark_size * length saved) first

    -- the state and the count that the messages determine, with a buffer
    abbrev determined : Messages → List ℕ → ListState
    determined m b = record { state = state_of i m.current; buffer = b; count = length m.saved }

    -- the invariant of a list's calls
    pub record Invariant (m : Messages) (h : ListState) : Type 0 where
      pub buffer : List ℕ
      pub is : h ≡ determined m buffer
      pub has_marks : HasMarks m.saved buffer
      pub within : Admissible m.current

    module _ (m : Messages) (b : List ℕ) (has_marks : HasMarks m.saved b) (within : Admissible m.current) where
      abbrev h : ListState
      h = determined m b

      abbrev c : ℕ
      c = length m.saved

      stays : Invariant m h
      stays = record { buffer = b; is = refl; has_marks = has_marks; within = within }

      is_sound : sound (state_of i m.current) ≡ true
      is_sound = sound-message i m.current within

      -- lines 1 and 2 do not hold for a message's state, so line 17 comes first
      front : (more : List (Bool × ℕ))
          → first_line ((line1 (state_of i m.current).instance, 1) ∷ (line2 (state_of i m.current), 2) ∷ (line17 (length b) c, 17) ∷ more)
          ≡ first_line ((line17 (length first) c, 17) ∷ more)
      unfolding first_line line1 line2 state_of state_with
      front more = rw (has_instance, is_sound, has_marks.long)

      -- ---- a marking

      mark-answer : (name : Name) → list_number h (mark name) ≡ messages_number i (length first) m (mark name)
      unfolding list_number messages_number mark_number
      mark-answer name = front ((line19 (length b) c, 19) ∷ []) ∙ rw has_marks.long

      marked : (name : Name) → messages_number i (length first) m (mark name) ≡ 0
          → Invariant (record { current = m.current; saved = record { name = name; message = m.current } ∷ m.saved })
          (record { state = state_of i m.current; buffer = with_mark b c (marked_as name m.current); count = suc c })
      unfolding messages_number MarksOfSaved
      marked name accepted =
          let none = none_holds _ refl accepted in
          let space : mark_size * c + mark_size ≤ length first = mark-room (length first) c (search none) in
          let space-b : mark_size * c + mark_size ≤ length b = omega (arith, has_marks.long) in
          let size = long_mark name m.current in
          let new = marked_as name m.current in
          let next : mark_size * suc c ≡ mark_size * c + mark_size = omega arith in
          record {
            buffer = with_mark b c new;
            is = refl;
            has_marks = record {
              long = length-with_mark b new c space-b size ∙ has_marks.long;
              marks = (mark-written b new c space-b size, within, marks_stay m.saved b (with_mark b c new) (earlier_stay b new c space-b size) has_marks.marks);
              rest = rw next
                  (rest-stays b new c space-b size
                  ∙ sym (drop-drop mark_size (mark_size * c) b)
                  ∙ ap (drop mark_size) has_marks.rest
                  ∙ drop-drop mark_size (mark_size * c) first);
            };
            within = within;
          }

      after-mark : (name : Name) → messages_number i (length first) m (mark name) ≡ 0
          → Invariant (messages_after i (length first) m (mark name)) (list_after h (mark name))
      unfolding messages_after list_after mark_bytes mark_outcome list_number
      after-mark name accepted =
          let e = mark-answer name ∙ accepted in
          subst (λ (x : Messages). Invariant x (list_after h (mark name))) (accepted-left _ m _ accepted)
          (subst (Invariant (record { current = m.current; saved = record { name = name; message = m.current } ∷ m.saved }))
          (ap₂ (λ (l : List ℕ) (n : ℕ). record { state = state_of i m.current; buffer = l; count = n }) (accepted-left _ b _ e) (sym (counted_accepted c _ e)))
          (marked name accepted))

      -- ---- a return

      module _ (name : Name) where
        abbrev is_missing : Type 0
        is_missing = Missing (is_saved name m.saved) (up_to_latest name.bytes b c)

        abbrev back : Message
        back = latest_saved name m.saved m.current

        abbrev is_present : Type 0
        is_present = Present (is_saved name m.saved) (up_to_latest name.bytes b c) b back

        found-state : (p : is_present) → state_in (found name.bytes b c) ≡ state_of i back
        unfolding found
        found-state p = ap state_in p.mark-is ∙ state-of_mark p.name back p.within

        found-zeros : (p : is_present) → ends_in_zeros (found name.bytes b c) ≡ true
        unfolding found
        found-zeros p = ap ends_in_zeros p.mark-is ∙ zeros_back p.name.bytes (state_of i back) p.name.sixteen (long_state back)

        recall-answer_by : is_missing ⊎ is_present → list_number h (recall name) ≡ messages_number i (length first) m (recall name)
        unfolding list_number messages_number recall_number first_line line18 line1 line2_mark state_of state_with
        recall-answer_by (inl p) = front (found_lines name.bytes b c) ∙ rw (p.none_saved, p.none_found)
        recall-answer_by (inr p) =
            front (found_lines name.bytes b c) ∙ rw (p.some_saved, p.some_found, found-state p, found-zeros p, has_instance, sound-message i back p.within)

        looked_up : is_missing ⊎ is_present
        looked_up = look_up name m.saved b m.current has_marks.marks

        recall-answer : list_number h (recall name) ≡ messages_number i (length first) m (recall name)
        recall-answer = recall-answer_by looked_up

        -- where nothing is saved under the name, it is refused
        missing_refused : is_missing → messages_number i (length first) m (recall name) ≡ 0 → ⊥
        unfolding messages_number
        missing_refused p accepted = let none = none_holds _ refl accepted in false≢true (sym p.none_saved ∙ not-false (is_saved name m.saved) (search none))

        after-recall : is_missing ⊎ is_present → messages_number i (length first) m (recall name) ≡ 0
            → Invariant (messages_after i (length first) m (recall name)) (list_after h (recall name))
        unfolding messages_after list_after recall_result result_by list_number
        after-recall (inl p) accepted = absurd (missing_refused p accepted)
        after-recall (inr p) accepted =
            subst (λ (x : Messages). Invariant x (list_after h (recall name))) (accepted-left _ m _ accepted)
            (record {
              buffer = b;
              is = ap (λ (s : State). record { state = s; buffer = b; count = c })
                  (sym (accepted-left _ (state_of i m.current) _ (recall-answer ∙ accepted)) ∙ found-state p);
              has_marks = has_marks;
              within = p.within;
            })

      -- ---- any call

      answer : (call : ListCall) → list_number h call ≡ messages_number i (length first) m call
      unfolding list_number messages_number
      answer (on_state call) = same_number i has_instance m.current within call
      answer (mark name) = mark-answer name
      answer (recall name) = recall-answer name

      accepted-next : (call : ListCall) → messages_number i (length first) m call ≡ 0 → Invariant (messages_after i (length first) m call) (list_after h call)
      unfolding messages_after list_after
      accepted-next (on_state call) accepted = record {
        buffer = b;
        is = ap (λ (s : State). record { state = s; buffer = b; count = c }) (after_call i has_instance m.current within call);
        has_marks = has_marks;
        within = admissible_after i has_instance m.current within call;
      }
      accepted-next (mark name) accepted = after-mark name accepted
      accepted-next (recall name) accepted = after-recall name (looked_up name) accepted

      next : (call : ListCall) → Invariant (messages_after i (length first) m call) (list_after h call)
      next call =
          elim (ℕ_discrete (messages_number i (length first) m call) 0) [
            | yes accepted ↦ accepted-next call accepted
            | no refused ↦
                subst (λ (x : Messages). Invariant x (list_after h call)) (sym (refused-saves_nothing i (length first) m call refused))
                (subst (Invariant m) (sym (refused-leaves h call (λ z. refused (sym (answer call) ∙ z)))) stays)
          ]

    module _ (m : Messages) (h : ListState) (s : Invariant m h) where
      pub answers : (call : ListCall) → list_number h call ≡ messages_number i (length first) m call
      answers call =
          ap (λ (x : ListState). list_number x call) s.is ∙ answer m s.buffer s.has_marks s.within call

      invariant_next : (call : ListCall) → Invariant (messages_after i (length first) m call) (list_after h call)
      invariant_next call =
          subst (λ (x : ListState). Invariant (messages_after i (length first) m call) (list_after x call)) (sym s.is)
          (next m s.buffer s.has_marks s.within call)

    invariant_from : (m : Messages) (h : ListState) (calls : List ListCall) → Invariant m h → Invariant (messages_from i (length first) m calls) (run_from h calls)
    unfolding messages_from run_from
    invariant_from m h [] s = s
    invariant_from m h (call ∷ calls) s = invariant_from (messages_after i (length first) m call) (list_after h call) calls (invariant_next m h s call)

  -- ---- a whole list

  pub invariant : (list : CallList) → Invariant list.buffer (messages_of i list) (run i list)
  unfolding messages_of run MarksOfSaved
  invariant list =
      invariant_from list.buffer _ _ list.calls
      (record {
        buffer = list.buffer;
        is = ap (λ (s : State). record { state = s; buffer = list.buffer; count = 0 }) (init_empty i has_instance);
        has_marks = record { long = refl; marks = tt; rest = refl };
        within = admissible_empty;
      })
