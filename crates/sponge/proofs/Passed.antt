-- What follows where no line refuses a call, and the reply by the number that the lines give.
use mathlib.Core.Bool.{Bool, true, false, not, ◌||◌}
use mathlib.Core.List.{List, [], ◌∷◌}
use mathlib.Core.Path.{◌≡◌, refl, sym, ◌∙◌}
use Prim.Native.Nat.{ℕ, suc, ◌+◌, ◌*◌, ◌/◌, ◌%◌, ◌<◌, ◌≤◌}
use native.Mathlib.Omega.{arith}
use borrow.Author.Tests.{ltb-false, leb-false, eqb-true, not-false, eq-eqb, ne_eqb, le-ltb}
use lib.Dec.{ltb, eqb}
use lib.ListN.{length}
use Rattle.std.specs.Prelude.{Err}
use Rattle.refusals.specs.declared.lines.Line.{Line}
use Rattle.refusals.specs.Lines.{first_line, number, refused_by}
use Rattle.refusals.specs.Outcome.{accepted, refused}
use Rattle.refusals.proofs.FirstLine.{none_holds, none_in_front, decided_before, neither, right_length}
use Rattle.refusals.proofs.Outcome.{refused-outcome, accepted-outcome, refused-left, accepted-left, no_line_0, some_line}
use Rattle.quark.specs.Instance.{is_instance, is_width, state_bytes}
use Rattle.permutation.specs.Lines.{line1, line4}
use Rattle.sponge.specs.declared.State.{State}
use Rattle.sponge.specs.Soundness.{limit, extra_limit, most_blocks, sound}
use Rattle.sponge.specs.Marks.{mark_size, most_mark_bytes, state_in, up_to_latest, found}
use Rattle.sponge.specs.Outcomes.{Result, result_by, line2, line2_mark, line3, line3_squeeze, line6, line7, line14, line15, line17, line18, line19, blocks_bytes, absorb_number, finish_number, squeeze_number, mark_number, recall_number, digest_number}
use Rattle.sponge.proofs.Ready.{ZeroPast, Ready}
use Rattle.sponge.proofs.Soundness.{either_way, phase_byte, Absorbing, absorbing, Closed, closed}

-- lines 1 and 4, and the zeros of a sound state
ready_passed : (s : State) (w : ℕ) → line1 s.instance ≡ false → line4 s.instance w ≡ false → ZeroPast s → Ready s w
unfolding line1 line4
ready_passed s w one four zeros =
    record { has_instance = not-false (is_instance s.instance) one; has_width = not-false (is_width s.instance w) four; zero_past = zeros }

-- ---- a piece and a finish

-- a state that lines 1 to 4 let pass
record StatePassed (s : State) (w : ℕ) : Type 0 where
  pub state : Absorbing s
  pub ready : Ready s w

state-passed : (s : State) (w : ℕ) → line1 s.instance ≡ false → line2 s ≡ false → line3 s ≡ false → line4 s.instance w ≡ false → StatePassed s w
unfolding line2 line3
state-passed s w one two three four =
    let state = absorbing s (not-false (sound s) two) three in
    record { state = state; ready = ready_passed s w one four state.zeros }

pub record AbsorbPassed (s : State) (w bytes count : ℕ) : Type 0 where
  pub state : Absorbing s
  pub ready : Ready s w
  pub within : count ≤ 8 * bytes
  pub room : s.total + count ≤ limit

pub absorb-passed : (s : State) (w bytes count : ℕ) → absorb_number s w bytes count ≡ 0 → AbsorbPassed s w bytes count
unfolding absorb_number line6 line7
absorb-passed s w bytes count e =
    let none = none_holds _ refl e in
    let p = state-passed s w (search none) (search none) (search none) (search none) in
    record {
      state = p.state;
      ready = p.ready;
      within = ltb-false (8 * bytes) count (search none);
      room = ltb-false limit (s.total + count) (search none);
    }

pub record FinishPassed (s : State) (w buffer : ℕ) : Type 0 where
  pub state : Absorbing s
  pub ready : Ready s w
  pub fits : buffer ≡ state_bytes s.instance

pub finish-passed : (s : State) (w buffer : ℕ) → finish_number s w buffer ≡ 0 → FinishPassed s w buffer
unfolding finish_number
finish-passed s w buffer e =
    let none = none_holds _ refl e in
    let p = state-passed s w (search none) (search none) (search none) (search none) in
    record { state = p.state; ready = p.ready; fits = right_length buffer (state_bytes s.instance) (search none) }

-- ---- a squeeze

pub record SqueezePassed (s : State) (w k buffer : ℕ) : Type 0 where
  pub state : Closed s
  pub ready : Ready s w
  pub fits : buffer ≡ blocks_bytes s.instance k
  pub some : 1 ≤ k
  pub at_most : k ≤ most_blocks
  pub room : s.extra + k ≤ extra_limit

pub squeeze-passed : (s : State) (w k buffer : ℕ) → squeeze_number s w k buffer ≡ 0 → SqueezePassed s w k buffer
unfolding squeeze_number line2 line3_squeeze line14 line15
squeeze-passed s w k buffer e =
    let none = none_holds _ refl e in
    let state = closed s (not-false (sound s) (search none)) (search none) in
    let range = neither (ltb k 1) (ltb most_blocks k) (search none) in
    record {
      state = state;
      ready = ready_passed s w (search none) (search none) state.zeros;
      fits = right_length buffer (blocks_bytes s.instance k) (search none);
      some = ltb-false k 1 range.0;
      at_most = ltb-false most_blocks k range.1;
      room = ltb-false extra_limit (s.extra + k) (search none);
    }

-- ---- a marking

-- an instance's number is a byte
instance-byte : (i : ℕ) → is_instance i ≡ true → i < 256
unfolding is_instance
instance-byte i =
    either_way (eqb i 1 || eqb i 2) (eqb i 3)
    (either_way (eqb i 1) (eqb i 2) (λ h. omega (arith, eqb-true i 1 h)) (λ h. omega (arith, eqb-true i 2 h)))
    (λ h. omega (arith, eqb-true i 3 h))

-- where line 19 does not hold, there is room for one more mark
pub mark-room : (bytes count : ℕ) → line19 bytes count ≡ false → 64 * count + 64 ≤ bytes
unfolding line19
mark-room bytes count e = omega (arith, leb-false (bytes / mark_size) count e)

-- where neither 17 nor 19 holds, 17 does not hold with one more mark in use
pub count_next : (bytes count : ℕ) → line17 bytes count ≡ false → line19 bytes count ≡ false → line17 bytes (suc count) ≡ false
unfolding line17 line19
count_next bytes count e f =
    let lawful = (neither (ltb most_mark_bytes bytes || not (eqb (bytes % mark_size) 0)) (ltb (bytes / mark_size) count) e).0 in
    rw lawful (le-ltb (bytes / mark_size) (suc count) (omega (arith, leb-false (bytes / mark_size) count f)))

-- where line 17 does not hold, the marks in use fit the buffer
count-passed : (bytes count : ℕ) → line17 bytes count ≡ false → 64 * count ≤ bytes
unfolding line17
count-passed bytes count e =
    let within = (neither (ltb most_mark_bytes bytes || not (eqb (bytes % mark_size) 0)) (ltb (bytes / mark_size) count) e).1 in
    omega (arith, ltb-false (bytes / mark_size) count within)

pub record MarkPassed (s : State) (bytes count : ℕ) : Type 0 where
  pub instance-small : s.instance < 256
  pub phase_small : s.phase < 256
  pub room : 64 * count + 64 ≤ bytes

pub mark-passed : (s : State) (bytes count : ℕ) → mark_number s bytes count ≡ 0 → MarkPassed s bytes count
unfolding mark_number line1 line2
mark-passed s bytes count e =
    let none = none_holds _ refl e in
    record {
      instance-small = instance-byte s.instance (not-false (is_instance s.instance) (search none));
      phase_small = phase_byte s (not-false (sound s) (search none));
      room = mark-room bytes count (search none);
    }

-- ---- a return

-- the lines of the state and of the buffer come first, then those of the mark that is found
abbrev front_lines : State → (bytes count : ℕ) → List (Bool × ℕ)
front_lines s bytes count = (line1 s.instance, 1) ∷ (line2 s, 2) ∷ (line17 bytes count, 17) ∷ []

abbrev pub found_lines : (name buffer : List ℕ) (count : ℕ) → List (Bool × ℕ)
found_lines name buffer count =
    (line18 name buffer count, 18) ∷ (line1 (state_in (found name buffer count)).instance, 1) ∷ (line2_mark (found name buffer count), 2) ∷ []

module _ (s : State) (name buffer : List ℕ) (count front : ℕ) (e : front ≡ first_line (front_lines s (length buffer) count)) where
  -- one of the first lines holds: the others are not read
  pub recall-by_front : (front ≡ 0 → ⊥) → front ≡ recall_number s name buffer count
  unfolding recall_number
  recall-by_front = decided_before [] (front_lines s (length buffer) count) (found_lines name buffer count) front e

  -- none of them holds: the marks in use fit the buffer, and the others decide
  module _ (none : front ≡ 0) where
    pub marks_fit : 64 * count ≤ length buffer
    marks_fit =
        let each = none_holds (front_lines s (length buffer) count) refl (sym e ∙ none) in
        count-passed (length buffer) count (search each)

    -- the line of what is found, in front of which none of the first lines holds
    rest_decide : recall_number s name buffer count ≡ first_line (found_lines name buffer count)
    unfolding recall_number
    rest_decide = none_in_front (front_lines s (length buffer) count) (found_lines name buffer count) refl (sym e ∙ none)

    pub no_mark : up_to_latest name buffer count ≡ 0 → 18 ≡ recall_number s name buffer count
    unfolding first_line line18
    no_mark missing = sym (rest_decide ∙ rw (eq-eqb _ 0 missing))

    -- the mark that is found decides
    pub by_mark : {mark : List ℕ} {rest : ℕ} → (0 < up_to_latest name buffer count) × (mark ≡ found name buffer count)
        → rest ≡ first_line ((line1 (state_in mark).instance, 1) ∷ (line2_mark mark, 2) ∷ []) → rest ≡ recall_number s name buffer count
    unfolding first_line line18
    by_mark (some, is) er = er ∙ sym (rest_decide ∙ rw (is, ne_eqb _ 0 (λ (z : up_to_latest name buffer count ≡ 0). omega (arith, some, z))))

-- ---- the whole digest

pub record DigestPassed (i w bytes count buffer : ℕ) : Type 0 where
  pub has_instance : is_instance i ≡ true
  pub width : is_width i w ≡ true
  pub fits : buffer ≡ state_bytes i
  pub within : count ≤ 8 * bytes
  pub room : count ≤ limit

pub digest-passed : (i w bytes count buffer : ℕ) → digest_number i w bytes count buffer ≡ 0 → DigestPassed i w bytes count buffer
unfolding digest_number line1 line4 line6 line7
digest-passed i w bytes count buffer e =
    let none = none_holds _ refl e in
    let seven : line7 0 count ≡ false = search none in
    record {
      has_instance = not-false (is_instance i) (search none);
      width = not-false (is_width i w) (search none);
      fits = right_length buffer (state_bytes i) (search none);
      within = ltb-false (8 * bytes) count (search none);
      room = omega (arith, ltb-false limit (0 + count) seven);
    }

-- ---- the reply by the number

pub refused-result : (line : Line) (lines : ℕ) (s t : State) → refused_by {A = Unit {0}} (Err line) ≡ lines
    → ◌≡◌ {A = Result} (record { outcome = refused (number line) 0; state = s }) (result_by lines s t)
unfolding result_by refused_by
refused-result line lines s t e = cc (refused-outcome (tt {0}) (number line) lines e (no_line_0 line), refused-left lines s t (some_line line lines e))

pub accepted-result : (lines : ℕ) (s t t' : State) → lines ≡ 0 → t' ≡ t → ◌≡◌ {A = Result} (record { outcome = accepted tt; state = t' }) (result_by lines s t)
unfolding result_by
accepted-result lines s t t' e et = cc (accepted-outcome (tt {0}) lines (sym e), accepted-left lines s t e)
