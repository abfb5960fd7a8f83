-- Marks read back: after an accepted marking a return to its name gives the state, a return to another name is answered as before, and what
-- an accepted return gives is sound. In a list: `BackToMark`.
use mathlib.Core.Bool.{Bool, true, false, ◌&&◌, cond, and-eq-true_iff}
use mathlib.Core.List.{List, [], ◌∷◌}
use mathlib.Core.Path.{◌≡◌, refl, sym, ap, ap₂, ◌∙◌}
use Prim.Native.Nat.{ℕ, zero, suc, ◌+◌, ◌*◌, ◌-◌, ◌≤◌, ◌<◌}
use native.Mathlib.Decide.{ℕ_discrete}
use native.Mathlib.Nat.{suc-ne-zero, le_refl, le_step}
use native.Mathlib.Numerals.{add-one}
use native.Mathlib.Omega.{arith}
use borrow.Author.Tests.{ne_eqb, not-false}
use lib.Dec.{eqb}
use lib.ListN.{length}
use Rattle.refusals.specs.Lines.{first_line}
use Rattle.refusals.specs.Outcome.{accepted, outcome}
use Rattle.refusals.proofs.FirstLine.{none_holds}
use Rattle.refusals.proofs.Outcome.{accepted-left}
use Rattle.quark.specs.Instance.{is_instance}
use Rattle.permutation.specs.Lines.{line1}
use Rattle.sponge.specs.declared.State.{State}
use Rattle.sponge.specs.Bytes.{same}
use Rattle.sponge.specs.Soundness.{sound}
use Rattle.sponge.specs.Marks.{mark_size, mark_of, name_in, state_in, ends_in_zeros, mark_at, with_mark, up_to_latest, found}
use Rattle.sponge.specs.Outcomes.{Result, result_by, line2, line2_mark, line17, line18, line19, mark_number, mark_bytes, recall_number, recall_result}
use Rattle.sponge.specs.ReadBack.{Marking, SameState, OthersStay, FromSound, RecallSound, BackToMark, ReadBack}
use Rattle.sponge.proofs.Compared.{equal_same}
use Rattle.sponge.proofs.BackToMark.{back-to_mark}
use Rattle.sponge.proofs.MarkBytes.{latest_within}
use Rattle.sponge.proofs.Passed.{mark-room, count_next}
use Rattle.sponge.proofs.WrittenMarks.{in_four_bytes, name_back, length-mark, zeros_back, state-back, length-with_mark, mark-written, earlier_stay}

-- ---- the search

-- it reads no mark after the first `count`
latest_same : (name b b' : List ℕ) (count : ℕ) → ((j : ℕ) → j < count → mark_at b' j ≡ mark_at b j) → up_to_latest name b' count ≡ up_to_latest name b count
unfolding up_to_latest
latest_same name b b' zero stays = refl
latest_same name b b' (suc j) stays =
    ap₂ (λ (mark : List ℕ) (others : ℕ). cond (same (name_in mark) name) (suc j) others) (stays j (le_refl (suc j)))
    (latest_same name b b' j (λ k h. stays k (le_step h)))

-- ---- what a return answers by what the search finds, where the buffer is lawful

abbrev recalled : State → (upto : ℕ) → List ℕ → Result
recalled t upto mark =
    result_by
    (first_line
    ((line1 t.instance, 1) ∷ (line2 t, 2) ∷ (false, 17) ∷ (eqb upto 0, 18) ∷ (line1 (state_in mark).instance, 1) ∷ (line2_mark mark, 2) ∷ []))
    t (state_in mark)

recall-is : (t : State) (name b : List ℕ) (count : ℕ) → line17 (length b) count ≡ false → recall_result t name b count ≡ recalled t (up_to_latest name b count) (found name b count)
unfolding recall_result recall_number line18 first_line
recall-is t name b count e = rw e

-- where nothing is found, no mark matters: it is refused by 1, 2 or 18
nothing_found : (t : State) (mark mark' : List ℕ) → recalled t 0 mark ≡ recalled t 0 mark'
unfolding result_by first_line
nothing_found t mark mark' = by_lines (line1 t.instance) (line2 t)
  where
    by_lines : (one two : Bool)
        → result_by (first_line ((one, 1) ∷ (two, 2) ∷ (false, 17) ∷ (true, 18) ∷ [])) t (state_in mark)
        ≡ result_by (first_line ((one, 1) ∷ (two, 2) ∷ (false, 17) ∷ (true, 18) ∷ [])) t (state_in mark')
    by_lines true two = refl
    by_lines false true = refl
    by_lines false false = refl

module _ (s t : State) (name buffer : List ℕ) (count : ℕ) (a : Marking s name buffer count) where
  abbrev mark : List ℕ
  mark = mark_of name s

  abbrev b : List ℕ
  b = mark_bytes s name buffer count

  -- none of lines 1, 2, 17 and 19 holds for the marking
  passed : (is_instance s.instance ≡ true) × (sound s ≡ true) × (line17 (length buffer) count ≡ false) × (line19 (length buffer) count ≡ false)
  unfolding mark_number line1 line2
  passed =
      let none = none_holds _ refl a.accepted in
      (not-false (is_instance s.instance) (search none), not-false (sound s) (search none), search none, search none)

  space : mark_size * count + mark_size ≤ length buffer
  space = mark-room (length buffer) count passed.3

  long : length mark ≡ mark_size
  long = length-mark name s a.name-16 a.bytes-32

  written : b ≡ with_mark buffer count mark
  unfolding mark_bytes
  written = sym (accepted-left _ buffer _ a.accepted)

  -- line 17 does not hold with one more mark in use
  lawful : line17 (length b) (count + 1) ≡ false
  lawful =
      ap₂ line17 (ap length written ∙ length-with_mark buffer mark count space long) (add-one count)
      ∙ count_next (length buffer) count passed.2 passed.3

  mark-there : mark_at b count ≡ mark
  mark-there = ap (λ (l : List ℕ). mark_at l count) written ∙ mark-written buffer mark count space long

  others-there : (j : ℕ) → j < count → mark_at b j ≡ mark_at buffer j
  others-there j h = ap (λ (l : List ℕ). mark_at l j) written ∙ earlier_stay buffer mark count space long j h

  -- the search in one more mark, for any name
  latest_next : (other : List ℕ) → up_to_latest other b (count + 1) ≡ cond (same name other) (suc count) (up_to_latest other buffer count)
  unfolding up_to_latest
  latest_next other =
      ap (up_to_latest other b) (add-one count)
      ∙ ap₂ (λ (l : List ℕ) (others : ℕ). cond (same l other) (suc count) others) (ap name_in mark-there ∙ name_back name s a.name-16)
      (latest_same other buffer b count others-there)

  same-state : is_instance t.instance ≡ true → sound t ≡ true → recall_result t name b (count + 1) ≡ record { outcome = accepted tt; state = s }
  unfolding found result_by first_line line1 line2 line2_mark outcome
  same-state has_instance is_sound =
      let upto : up_to_latest name b (count + 1) ≡ suc count = latest_next name ∙ rw (equal_same name) in
      let back : suc count - 1 ≡ count = omega arith in
      let mark-is : found name b (count + 1) ≡ mark = ap (λ (n : ℕ). mark_at b (n - 1)) upto ∙ ap (mark_at b) back ∙ mark-there in
      let state-is : state_in mark ≡ s = state-back name s a.name-16 a.bytes-32 (in_four_bytes s passed.1) in
      recall-is t name b (count + 1) lawful
      ∙ ap₂ (recalled t) upto mark-is
      ∙ rw (has_instance, is_sound, ne_eqb (suc count) 0 (suc-ne-zero count), state-is, zeros_back name s a.name-16 a.bytes-32, passed.0, passed.1)

  others-stay : (other : List ℕ) → same name other ≡ false → recall_result t other b (count + 1) ≡ recall_result t other buffer count
  unfolding found
  others-stay other differs =
      let upto = up_to_latest other buffer count in
      let upto_is : up_to_latest other b (count + 1) ≡ upto = latest_next other ∙ rw differs in
      recall-is t other b (count + 1) lawful
      ∙ ap (λ (n : ℕ). recalled t n (mark_at b (n - 1))) upto_is
      ∙ by_found
      ∙ sym (recall-is t other buffer count passed.2)
    where
      -- nothing is found, or a mark before the new one
      by_found : recalled t (up_to_latest other buffer count) (mark_at b (up_to_latest other buffer count - 1))
          ≡ recalled t (up_to_latest other buffer count) (mark_at buffer (up_to_latest other buffer count - 1))
      by_found =
          elim (ℕ_discrete (up_to_latest other buffer count) 0) [
            | yes none ↦ rw none (nothing_found t (mark_at b (0 - 1)) (mark_at buffer (0 - 1)))
            | no some ↦ ap (recalled t (up_to_latest other buffer count)) (others-there (up_to_latest other buffer count - 1) (omega (arith, latest_within other buffer count)))
          ]

-- ---- an accepted return: from a sound state, and to one

recall-sound : (s : State) (name buffer : List ℕ) (count : ℕ) → recall_number s name buffer count ≡ 0
    → (is_instance (recall_result s name buffer count).state.instance ≡ true) × (sound (recall_result s name buffer count).state ≡ true)
unfolding recall_number recall_result result_by line1 line2_mark
recall-sound s name buffer count e =
    let none = none_holds _ refl e in
    let mark = found name buffer count in
    let back = sym (accepted-left _ s (state_in mark) e) in (
      ap (λ (t : State). is_instance t.instance) back ∙ not-false (is_instance (state_in mark).instance) (search none),
      ap sound back ∙ ((and-eq-true_iff (ends_in_zeros mark) (sound (state_in mark))).0 (not-false (ends_in_zeros mark && sound (state_in mark)) (search none))).1,
    )

from-sound : (s : State) (name buffer : List ℕ) (count : ℕ) → recall_number s name buffer count ≡ 0 → (is_instance s.instance ≡ true) × (sound s ≡ true)
unfolding recall_number line1 line2
from-sound s name buffer count e =
    let none = none_holds _ refl e in (not-false (is_instance s.instance) (search none), not-false (sound s) (search none))

pub read_back : ReadBack
unfolding SameState OthersStay FromSound RecallSound BackToMark
read_back = record { same-state = same-state; others-stay = others-stay; from-sound = from-sound; recall-sound = recall-sound; back-to_mark = back-to_mark }
