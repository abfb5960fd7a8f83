-- The statements of specs/NamedClocks: what `steps` and `steps_back` do together. Each goes from the buffer to its bits, where it is a law of
-- the definition's steps, and back.
use Rattle.std.specs.Prelude.{◌≡◌, ℕ, ◌+◌, ◌*◌, ◌/◌, ◌%◌, ◌<◌, ◌≤◌, Bool, true, false, cond, eqb, List, length}
use mathlib.Core.Path.{refl, sym, ap, ap₂, ◌∙◌, subst}
use native.Mathlib.Nat.{div-add-mod'}
use native.Mathlib.Omega.{arith}
use borrow.Author.Tests.{eq-eqb, le-ltb}
use Rattle.refusals.specs.Lines.{first_line}
use Rattle.refusals.specs.Outcome.{accepted, outcome}
use Rattle.refusals.proofs.FirstLine.{length-right}
use Rattle.refusals.proofs.Outcome.{refused-left, accepted-left, refused-outcome, outcome-accepted, number_of_outcome}
use Rattle.quark.specs.Bytes.{tabulate, bits_of, bytes_of}
use Rattle.quark.specs.Feedback.{Taps}
use Rattle.quark.specs.Step.{Registers, steps, steps_L, all_ones, loaded, stored, rounds, P}
use Rattle.quark.specs.Inverse.{undo_steps, undo_P}
use Rattle.quark.specs.Instance.{instance_of, is_instance, is_width, state_bytes}
use Rattle.quark.specs.Together.{groups}
use Rattle.quark.proofs.Bits.{Wide}
use Rattle.quark.proofs.Bytes.{wide_bits_of, length-bytes_of, bits_of_bytes, bytes-of_bits}
use Rattle.quark.proofs.Instance.{in_bytes, regular}
use Rattle.quark.proofs.Taps.{Reach}
use Rattle.quark.proofs.Together.{steps-L}
use Rattle.quark.proofs.Groups.{groups-steps, redo_groups}
use Rattle.quark.proofs.Inverse.{Sized, wide_steps_L, sized_loaded, stored_loaded, wide_run, wide_undone, undo_run, run-undone, run_on, undone_on}
use Rattle.permutation.specs.Lines.{line1, line4, most_steps, line20}
use Rattle.permutation.specs.Permute.{permute_number, permute_outcome, on_bytes, overwritten}
use Rattle.permutation.specs.Steps.{bits_of_L, value_of_L, registers_after, registers_before, steps_number, steps_outcome, steps_back_outcome, steps_bytes}
use Rattle.permutation.specs.NamedClocks.{AreBytes, AcceptedExactly, RefusedLeaves, AllOfP, NoSteps, WidthsAgree, InGroups, BackInGroups, UndoEachOther, GoingOn, NamedClocks}
use Rattle.permutation.proofs.Accepted.{accepted-instance, accepted-width, InRange, accepted-range, accepted-P, accepted-state}
use Rattle.permutation.proofs.RegisterL.{wide_bits_of_L, value-small, bits-value, value-bits}
use Rattle.permutation.proofs.Widths.{width-reach, rounds-whole}

-- ---- the numbers

-- line 20 does not hold
not_20 : {i w l count : ℕ} → InRange i w l count → line20 i w l count ≡ false
unfolding line20
not_20 {i} {w} {l} {count} r =
    let start : l ≤ 1023 = omega (arith, r.start) in
    simp (le-ltb 1023 l start, le-ltb (most_steps i) count r.few, eq-eqb (count % w) 0 r.whole)

-- no line holds
none_steps : {i w l count size : ℕ} → is_instance i ≡ true → is_width i w ≡ true → InRange i w l count → size ≡ state_bytes i → steps_number i w l count size ≡ 0
unfolding steps_number first_line line1 line4
none_steps {i} {w} {l} {count} {size} instance width range e = simp (instance, width, not_20 range, length-right size (state_bytes i) e)

-- with 1,023 and 4b line 20 holds nowhere where line 4 does not
all_number : (i w size : ℕ) → steps_number i w 1023 (rounds (instance_of i).taps) size ≡ permute_number i w size
unfolding steps_number permute_number first_line line4 most_steps
all_number i w size = by_width (is_width i w) refl
  where
    by_width : (lawful : Bool) → is_width i w ≡ lawful → steps_number i w 1023 (rounds (instance_of i).taps) size ≡ permute_number i w size
    by_width false e = simp e
    by_width true e =
        let range : InRange i w 1023 (rounds (instance_of i).taps) = record { start = omega arith; few = omega arith; whole = rounds-whole i w e } in
        simp (not_20 range)

-- two widths of an instance give one number at a count that is a multiple of both
same_number : (i w w' l count size : ℕ) → is_width i w ≡ true → is_width i w' ≡ true → count % w ≡ 0 → count % w' ≡ 0
    → steps_number i w l count size ≡ steps_number i w' l count size
unfolding steps_number first_line line4 line20
same_number i w w' l count size width width' whole whole' = simp (width, width', eq-eqb (count % w) 0 whole, eq-eqb (count % w') 0 whole')

-- ---- through the buffer

-- the bits of what a function of b bits leaves
bits-on_bytes : (F : Taps → List ℕ → List ℕ) (i : ℕ) (bytes : List ℕ) → Wide (instance_of i).b (F (instance_of i).taps (bits_of (instance_of i).b bytes))
    → bits_of (instance_of i).b (on_bytes F i bytes) ≡ F (instance_of i).taps (bits_of (instance_of i).b bytes)
unfolding on_bytes state_bytes
bits-on_bytes F i bytes wide = bits_of_bytes (instance_of i).b (state_bytes i) _ (omega (arith, (in_bytes i).whole-bytes)) wide

on_bytes-on_bytes : (F G : Taps → List ℕ → List ℕ) (i : ℕ) (bytes : List ℕ)
    → Wide (instance_of i).b (G (instance_of i).taps (bits_of (instance_of i).b bytes))
    → on_bytes F i (on_bytes G i bytes) ≡ on_bytes (λ T s. F T (G T s)) i bytes
unfolding on_bytes
on_bytes-on_bytes F G i bytes wide = ap (λ (s : List ℕ). bytes_of (state_bytes i) (F (instance_of i).taps s)) (bits-on_bytes G i bytes wide)

on_bytes-same : (F : Taps → List ℕ → List ℕ) (i : ℕ) (bytes : List ℕ) → length bytes ≡ state_bytes i → AreBytes bytes
    → F (instance_of i).taps (bits_of (instance_of i).b bytes) ≡ bits_of (instance_of i).b bytes → on_bytes F i bytes ≡ bytes
unfolding on_bytes state_bytes
on_bytes-same F i bytes n are e =
    ap (bytes_of (state_bytes i)) (e ∙ ap (λ (b : ℕ). bits_of b bytes) (in_bytes i).whole-bytes) ∙ bytes-of_bits (state_bytes i) bytes n are

-- the registers to which a call leads
abbrev Ways : Type 0
Ways = (l count : ℕ) → Taps → List ℕ → Registers

module _ (R : Ways) (i w l count : ℕ) (bytes : List ℕ) (none : steps_number i w l count (length bytes) ≡ 0) where
  accepted-call : steps_bytes R i w l count bytes ≡ on_bytes (λ T s. stored (R l count T s)) i bytes
  unfolding steps_bytes
  accepted-call = sym (accepted-left _ _ _ none)

  length-call : length (steps_bytes R i w l count bytes) ≡ length bytes
  unfolding on_bytes
  length-call = ap length accepted-call ∙ length-bytes_of (state_bytes i) _ ∙ sym (accepted-state i w l count (length bytes) none)

  bits-call : Wide (instance_of i).b (stored (R l count (instance_of i).taps (bits_of (instance_of i).b bytes)))
      → bits_of (instance_of i).b (steps_bytes R i w l count bytes) ≡ stored (R l count (instance_of i).taps (bits_of (instance_of i).b bytes))
  bits-call wide = ap (bits_of (instance_of i).b) accepted-call ∙ bits-on_bytes (λ T s. stored (R l count T s)) i bytes wide

-- two calls in a row: the second is accepted too, and both lead through the registers of the first
module _ (R : Ways) (i w w' l l' m n : ℕ) (bytes : List ℕ) (first : steps_number i w l m (length bytes) ≡ 0)
    (second : steps_number i w' l' n (length bytes) ≡ 0) where
  second-number : steps_number i w' l' n (length (steps_bytes R i w l m bytes)) ≡ 0
  second-number = ap (steps_number i w' l' n) (length-call R i w l m bytes first) ∙ second

  back-accepted : steps_back_outcome i w' l' n (steps_bytes R i w l m bytes) ≡ accepted tt
  unfolding steps_back_outcome outcome
  back-accepted = ap (λ (k : ℕ). outcome k tt) second-number

module _ (R R' : Ways) (i w w' l l' m n : ℕ) (bytes : List ℕ) (first : steps_number i w l m (length bytes) ≡ 0)
    (second : steps_number i w' l' n (length bytes) ≡ 0) (wide : Wide (instance_of i).b (stored (R l m (instance_of i).taps (bits_of (instance_of i).b bytes)))) where
  two_calls : steps_bytes R' i w' l' n (steps_bytes R i w l m bytes) ≡ on_bytes (λ T s. stored (R' l' n T (stored (R l m T s)))) i bytes
  two_calls =
      accepted-call R' i w' l' n (steps_bytes R i w l m bytes) (second-number R i w w' l l' m n bytes first second)
      ∙ ap (on_bytes (λ T s. stored (R' l' n T s)) i) (accepted-call R i w l m bytes first)
      ∙ on_bytes-on_bytes (λ T s. stored (R' l' n T s)) (λ T s. stored (R l m T s)) i bytes wide

-- ---- on the bits

module _ (i : ℕ) (bytes : List ℕ) where
  abbrev T : Taps
  T = (instance_of i).taps

  abbrev s : List ℕ
  s = bits_of (instance_of i).b bytes

  halves : Wide (2 * T.half) s
  halves = subst (λ (b : ℕ). Wide b s) (regular i).two_halves (wide_bits_of (instance_of i).b bytes)

  sized_bits : (L : List ℕ) → Wide 10 L → Sized T (loaded T s L)
  sized_bits L = sized_loaded T (regular i).lawful s L halves

  of_b : (q : List ℕ) → Wide (2 * T.half) q → Wide (instance_of i).b q
  of_b q = subst (λ (b : ℕ). Wide b q) (sym (regular i).two_halves)

  module _ (l count : ℕ) where
    wide_after : Wide (instance_of i).b (stored (registers_after l count T s))
    unfolding registers_after
    wide_after = of_b _ (wide_run T (regular i).lawful count s halves (bits_of_L l) (wide_bits_of_L l))

    wide_before : Wide (instance_of i).b (stored (registers_before l count T s))
    unfolding registers_before
    wide_before =
        of_b _ (wide_undone T (regular i).lawful count s halves (steps_L count (bits_of_L l)) (wide_steps_L count (bits_of_L l) (wide_bits_of_L l)))

    before-after : stored (registers_before l count T (stored (registers_after l count T s))) ≡ s
    unfolding registers_before registers_after
    before-after = undo_run T (regular i).lawful count s halves (bits_of_L l) (wide_bits_of_L l)

    after-before : stored (registers_after l count T (stored (registers_before l count T s))) ≡ s
    unfolding registers_before registers_after
    after-before = run-undone T (regular i).lawful count s halves (bits_of_L l) (wide_bits_of_L l)

  -- from the L after m steps on
  module _ (l m n l' : ℕ) (e : l' ≡ value_of_L (registers_after l m T s).L) where
    value_there : l' ≡ value_of_L (steps_L m (bits_of_L l))
    unfolding registers_after loaded
    value_there = e ∙ ap value_of_L (steps-L T m (loaded T s (bits_of_L l)))

    small-there : l' < 1024
    small-there = rw value_there (value-small (steps_L m (bits_of_L l)) (wide_steps_L m (bits_of_L l) (wide_bits_of_L l)))

    there : bits_of_L l' ≡ steps_L m (bits_of_L l)
    there = ap bits_of_L value_there ∙ bits-value (steps_L m (bits_of_L l)) (wide_steps_L m (bits_of_L l) (wide_bits_of_L l))

    after_on : registers_after l' n T (stored (registers_after l m T s)) ≡ registers_after l (m + n) T s
    unfolding registers_after
    after_on =
        ap (λ (q : List ℕ). steps T n (loaded T (stored (registers_after l m T s)) q)) there
        ∙ run_on T (regular i).lawful m n s halves (bits_of_L l) (wide_bits_of_L l)

    before_on : registers_before l m T (stored (registers_before l' n T s)) ≡ registers_before l (m + n) T s
    unfolding registers_before
    before_on =
        ap (λ (q : List ℕ). undo_steps T m (loaded T (stored (undo_steps T n (loaded T s (steps_L n q)))) (steps_L m (bits_of_L l)))) there
        ∙ undone_on T (regular i).lawful m n s halves (bits_of_L l) (wide_bits_of_L l)

-- ---- the statements

accepted-exactly : AcceptedExactly
unfolding AcceptedExactly most_steps
accepted-exactly i w l count size = (
  λ none. let of-P = accepted-P i w l count size none in
      let range = accepted-range i w l count size none in
      record {
        instance = accepted-instance i w size of-P;
        width = accepted-width i w size of-P;
        start = omega (arith, range.start);
        few = omega (arith, range.few);
        whole = range.whole;
        whole_state = accepted-state i w l count size none;
      },
  λ call. none_steps call.instance call.width (record { start = omega (arith, call.start); few = omega (arith, call.few); whole = call.whole }) call.whole_state,
)

refused-leaves : RefusedLeaves
unfolding RefusedLeaves steps_outcome steps_back_outcome steps_bytes
refused-leaves i w l count bytes some =
    let number = steps_number i w l count (length bytes) in
    record {
      outcome = sym (refused-outcome _ number number refl some);
      back-outcome = sym (refused-outcome tt number number refl some);
      after = sym (refused-left number bytes _ some);
      before = sym (refused-left number bytes _ some);
    }

all_of_P : AllOfP
unfolding AllOfP steps_outcome steps_back_outcome steps_bytes permute_outcome overwritten on_bytes registers_after registers_before bits_of_L tabulate all_ones P undo_P
all_of_P i w bytes =
    let size = length bytes in
    let e = all_number i w size in
    record {
      same_number =
          number_of_outcome (steps_number i w 1023 (rounds (instance_of i).taps) size) _ ∙ e ∙ sym (number_of_outcome (permute_number i w size) tt);
      same_outcome = ap (λ (n : ℕ). outcome n tt) e;
      permuted = ap (λ (n : ℕ). cond (eqb n 0) (on_bytes P i bytes) bytes) e;
      inverted = ap (λ (n : ℕ). cond (eqb n 0) (on_bytes undo_P i bytes) bytes) e;
    }

no_steps : NoSteps
unfolding NoSteps steps_outcome outcome registers_after registers_before steps undo_steps steps_L loaded
no_steps i w l bytes are none =
    let size = accepted-state i w l 0 (length bytes) none in
    let same = stored_loaded (instance_of i).taps (regular i).lawful (bits_of (instance_of i).b bytes) (bits_of_L l) in (
      ap₂ (λ (n v : ℕ). outcome n v) none (value-bits l (accepted-range i w l 0 (length bytes) none).start),
      accepted-call registers_after i w l 0 bytes none ∙ on_bytes-same _ i bytes size are same,
      accepted-call registers_before i w l 0 bytes none ∙ on_bytes-same _ i bytes size are same,
    )

widths_agree : WidthsAgree
unfolding WidthsAgree steps_outcome steps_back_outcome steps_bytes
widths_agree i w w' l count bytes width width' whole whole' =
    let e = same_number i w w' l count (length bytes) width width' whole whole' in
    record { outcome = rw e; back-outcome = rw e; after = rw e; before = rw e }

-- groups of an accepted call's width
module _ (i w l count : ℕ) (bytes : List ℕ) (none : steps_number i w l count (length bytes) ≡ 0) where
  call_reach : Reach (instance_of i).taps w
  call_reach = width-reach i w (accepted-width i w (length bytes) (accepted-P i w l count (length bytes) none))

  all_groups : count / w * w ≡ count
  all_groups = omega (arith, div-add-mod' count w, (accepted-range i w l count (length bytes) none).whole)

in_groups : InGroups
unfolding InGroups registers_after
in_groups i w l count bytes none =
    let T = (instance_of i).taps in
    let start = loaded T (bits_of (instance_of i).b bytes) (bits_of_L l) in
    let sized = sized_bits i bytes (bits_of_L l) (wide_bits_of_L l) in
    sym (groups-steps T (regular i).lawful w (call_reach i w l count bytes none) (count / w) start sized
    ∙ ap (λ (n : ℕ). steps T n start) (all_groups i w l count bytes none))

back-in_groups : BackInGroups
unfolding BackInGroups registers_before
back-in_groups i w l count bytes none =
    let T = (instance_of i).taps in
    let L = steps_L count (bits_of_L l) in
    let end = loaded T (bits_of (instance_of i).b bytes) L in
    let sized = sized_bits i bytes L (wide_steps_L count (bits_of_L l) (wide_bits_of_L l)) in
    ap (λ (n : ℕ). groups T w (count / w) (undo_steps T n end)) (sym (all_groups i w l count bytes none))
    ∙ redo_groups T (regular i).lawful w (call_reach i w l count bytes none) (count / w) end sized

undo_each_other : UndoEachOther
unfolding UndoEachOther steps_outcome
undo_each_other i w w' l count bytes are none none' =
    let size = accepted-state i w l count (length bytes) none in
    record {
      back-accepted = back-accepted registers_after i w w' l l count count bytes none none';
      back =
          two_calls registers_after registers_before i w w' l l count count bytes none none' (wide_after i bytes l count)
          ∙ on_bytes-same _ i bytes size are (before-after i bytes l count);
      again-accepted = number_of_outcome _ _ ∙ second-number registers_before i w w' l l count count bytes none none';
      again =
          two_calls registers_before registers_after i w w' l l count count bytes none none' (wide_before i bytes l count)
          ∙ on_bytes-same _ i bytes size are (after-before i bytes l count);
    }

going_on : GoingOn
unfolding GoingOn steps_outcome steps_back_outcome outcome on_bytes
going_on i w w' w'' l m n l' bytes stop =
    let T = (instance_of i).taps in
    let s = bits_of (instance_of i).b bytes in
    let first = outcome-accepted _ (steps_number i w l m (length bytes)) l' (sym stop.stops) in
    let none : steps_number i w l m (length bytes) ≡ 0 = first.0 in
    let through = accepted-range i w'' l (m + n) (length bytes) stop.through in
    let more : InRange i w' l' n =
    record { start = small-there i bytes l m n l' first.1; few = omega (arith, through.few); whole = stop.whole } in
    let none' : steps_number i w' l' n (length bytes) ≡ 0 =
    none_steps (accepted-instance i w (length bytes) (accepted-P i w l m (length bytes) none)) stop.width more (accepted-state i w l m (length bytes) none) in
    let on : registers_after l' n T (stored (registers_after l m T s)) ≡ registers_after l (m + n) T s = after_on i bytes l m n l' first.1 in
    record {
      outcome =
          ap₂ (λ (k v : ℕ). outcome k v)
          (second-number registers_after i w w' l l' m n bytes none none' ∙ sym stop.through)
          (ap (λ (r : Registers). value_of_L r.L)
          (ap (registers_after l' n T) (bits-call registers_after i w l m bytes none (wide_after i bytes l m)) ∙ on));
      after =
          two_calls registers_after registers_after i w w' l l' m n bytes none none' (wide_after i bytes l m)
          ∙ ap (λ (r : Registers). bytes_of (state_bytes i) (stored r)) on
          ∙ sym (accepted-call registers_after i w'' l (m + n) bytes stop.through);
      back-accepted = ap (λ (k : ℕ). outcome k tt) none';
      back-on_accepted = back-accepted registers_before i w' w l' l n m bytes none' none;
      before =
          two_calls registers_before registers_before i w' w l' l n m bytes none' none (wide_before i bytes l' n)
          ∙ ap (λ (r : Registers). bytes_of (state_bytes i) (stored r)) (before_on i bytes l m n l' first.1)
          ∙ sym (accepted-call registers_before i w'' l (m + n) bytes stop.through);
    }

pub named_clocks : NamedClocks
named_clocks = record {
  accepted-exactly = accepted-exactly;
  refused-leaves = refused-leaves;
  all_of_P = all_of_P;
  no_steps = no_steps;
  widths_agree = widths_agree;
  in_groups = in_groups;
  back-in_groups = back-in_groups;
  undo_each_other = undo_each_other;
  going_on = going_on;
}
