-- Stopping at a named clock (document 02, 2.6): the statements about `steps` and `steps_back` beside their contracts. Their proofs are in
-- proofs/NamedClocks.antt.
use Rattle.std.specs.Prelude.{◌≡◌, ℕ, ◌+◌, ◌/◌, ◌%◌, ◌<◌, ◌≤◌, true, ◌↔◌, List, length, ◌≢◌, slice_index}
use Rattle.refusals.specs.Outcome.{accepted, refused, number_of}
use Rattle.quark.specs.Bytes.{bits_of}
use Rattle.quark.specs.Step.{steps_L, loaded, rounds, P}
use Rattle.quark.specs.Inverse.{undo_P}
use Rattle.quark.specs.Instance.{instance_of, is_instance, is_width, state_bytes}
use Rattle.quark.specs.Together.{groups}
use Rattle.permutation.specs.Permute.{permute_outcome, overwritten}
use Rattle.permutation.specs.Steps.{bits_of_L, registers_after, registers_before, steps_number, steps_outcome, steps_back_outcome, steps_bytes}

-- every element is a byte
abbrev pub AreBytes : List ℕ → Type 0
AreBytes l = (j : ℕ) → slice_index l j < 256

-- ---- which calls are accepted

-- what a call on a buffer of `size` bytes has to keep
pub record LawfulCall (i w l count size : ℕ) : Type 0 where
  pub instance : is_instance i ≡ true
  pub width : is_width i w ≡ true
  pub start : l ≤ 1023
  pub few : count ≤ rounds (instance_of i).taps
  pub whole : count % w ≡ 0
  pub whole_state : size ≡ state_bytes i

-- such calls, and no others
unfoldable pub AcceptedExactly : Type 0
AcceptedExactly = (i w l count size : ℕ) → (steps_number i w l count size ≡ 0) ↔ LawfulCall i w l count size

-- ---- refused calls

-- both answer the number of their lines, with place 0, and leave the buffer
pub record BothRefused (i w l count : ℕ) (bytes : List ℕ) : Type 0 where
  pub outcome : steps_outcome i w l count bytes ≡ refused (steps_number i w l count (length bytes)) 0
  pub back-outcome : steps_back_outcome i w l count bytes ≡ refused (steps_number i w l count (length bytes)) 0
  pub after : steps_bytes registers_after i w l count bytes ≡ bytes
  pub before : steps_bytes registers_before i w l count bytes ≡ bytes

-- wherever a line holds
unfoldable pub RefusedLeaves : Type 0
RefusedLeaves = (i w l count : ℕ) (bytes : List ℕ) → (steps_number i w l count (length bytes) ≢ 0) → BothRefused i w l count bytes

-- ---- P and its inverse

-- with 1,023 and 4b the calls are P and its inverse, refused ones too
pub record AllSteps (i w : ℕ) (bytes : List ℕ) : Type 0 where
  pub same_number : number_of (steps_outcome i w 1023 (rounds (instance_of i).taps) bytes) ≡ number_of (permute_outcome i w bytes)
  pub same_outcome : steps_back_outcome i w 1023 (rounds (instance_of i).taps) bytes ≡ permute_outcome i w bytes
  pub permuted : steps_bytes registers_after i w 1023 (rounds (instance_of i).taps) bytes ≡ overwritten P i w bytes
  pub inverted : steps_bytes registers_before i w 1023 (rounds (instance_of i).taps) bytes ≡ overwritten undo_P i w bytes

-- for every instance, width and buffer
unfoldable pub AllOfP : Type 0
AllOfP = (i w : ℕ) (bytes : List ℕ) → AllSteps i w bytes

-- no steps: accepted, `steps` answers the start value, and both calls leave the buffer
unfoldable pub NoSteps : Type 0
NoSteps =
    (i w l : ℕ) (bytes : List ℕ) → AreBytes bytes → steps_number i w l 0 (length bytes) ≡ 0
    → (steps_outcome i w l 0 bytes ≡ accepted l) × (steps_bytes registers_after i w l 0 bytes ≡ bytes) × (steps_bytes registers_before i w l 0 bytes ≡ bytes)

-- ---- widths

-- two calls that differ in the width alone have one outcome, refused or not, and leave one buffer
pub record SameCalls (i w w' l count : ℕ) (bytes : List ℕ) : Type 0 where
  pub outcome : steps_outcome i w l count bytes ≡ steps_outcome i w' l count bytes
  pub back-outcome : steps_back_outcome i w l count bytes ≡ steps_back_outcome i w' l count bytes
  pub after : steps_bytes registers_after i w l count bytes ≡ steps_bytes registers_after i w' l count bytes
  pub before : steps_bytes registers_before i w l count bytes ≡ steps_bytes registers_before i w' l count bytes

-- they do, for two widths of an instance, at each count that is a multiple of both
unfoldable pub WidthsAgree : Type 0
WidthsAgree =
    (i w w' l count : ℕ) (bytes : List ℕ) → is_width i w ≡ true → is_width i w' ≡ true → count % w ≡ 0 → count % w' ≡ 0
    → SameCalls i w w' l count bytes

-- the registers after an accepted call are those after groups of its width, each taken from the registers at its start
unfoldable pub InGroups : Type 0
InGroups =
    (i w l count : ℕ) (bytes : List ℕ) → steps_number i w l count (length bytes) ≡ 0
    → registers_after l count (instance_of i).taps (bits_of (instance_of i).b bytes)
    ≡ groups (instance_of i).taps w (count / w) (loaded (instance_of i).taps (bits_of (instance_of i).b bytes) (bits_of_L l))

-- the registers from before the steps of an accepted call lead, in groups of its width, to its buffer and the L after the steps
unfoldable pub BackInGroups : Type 0
BackInGroups =
    (i w l count : ℕ) (bytes : List ℕ) → steps_number i w l count (length bytes) ≡ 0
    → groups (instance_of i).taps w (count / w) (registers_before l count (instance_of i).taps (bits_of (instance_of i).b bytes))
    ≡ loaded (instance_of i).taps (bits_of (instance_of i).b bytes) (steps_L count (bits_of_L l))

-- ---- there and back

-- steps taken and then undone with the same start value, and steps undone and then taken again, are accepted and leave the buffer as it was
pub record ThereAndBack (i w w' l count : ℕ) (bytes : List ℕ) : Type 0 where
  pub back-accepted : steps_back_outcome i w' l count (steps_bytes registers_after i w l count bytes) ≡ accepted tt
  pub back : steps_bytes registers_before i w' l count (steps_bytes registers_after i w l count bytes) ≡ bytes
  pub again-accepted : number_of (steps_outcome i w' l count (steps_bytes registers_before i w l count bytes)) ≡ 0
  pub again : steps_bytes registers_after i w' l count (steps_bytes registers_before i w l count bytes) ≡ bytes

-- at any two widths at which the calls are accepted
unfoldable pub UndoEachOther : Type 0
UndoEachOther =
    (i w w' l count : ℕ) (bytes : List ℕ) → AreBytes bytes → steps_number i w l count (length bytes) ≡ 0 → steps_number i w' l count (length bytes) ≡ 0
    → ThereAndBack i w w' l count bytes

-- ---- stopping and going on

-- m steps that are accepted and answer l', at the width w; n more at w'; and m + n at once at w''
pub record Stop (i w w' w'' l m n l' : ℕ) (bytes : List ℕ) : Type 0 where
  pub stops : steps_outcome i w l m bytes ≡ accepted l'
  pub width : is_width i w' ≡ true
  pub whole : n % w' ≡ 0
  pub through : steps_number i w'' l (m + n) (length bytes) ≡ 0

-- n more steps from the L answered do what m + n at once do, and undoing these n and then the m does what undoing m + n at once does
pub record GoesOn (i w w' w'' l m n l' : ℕ) (bytes : List ℕ) : Type 0 where
  pub outcome : steps_outcome i w' l' n (steps_bytes registers_after i w l m bytes) ≡ steps_outcome i w'' l (m + n) bytes
  pub after : steps_bytes registers_after i w' l' n (steps_bytes registers_after i w l m bytes) ≡ steps_bytes registers_after i w'' l (m + n) bytes
  pub back-accepted : steps_back_outcome i w' l' n bytes ≡ accepted tt
  pub back-on_accepted : steps_back_outcome i w l m (steps_bytes registers_before i w' l' n bytes) ≡ accepted tt
  pub before : steps_bytes registers_before i w l m (steps_bytes registers_before i w' l' n bytes) ≡ steps_bytes registers_before i w'' l (m + n) bytes

-- wherever a call stops
unfoldable pub GoingOn : Type 0
GoingOn = (i w w' w'' l m n l' : ℕ) (bytes : List ℕ) → Stop i w w' w'' l m n l' bytes → GoesOn i w w' w'' l m n l' bytes

-- all of it
pub record NamedClocks : Type 0 where
  pub accepted-exactly : AcceptedExactly
  pub refused-leaves : RefusedLeaves
  pub all_of_P : AllOfP
  pub no_steps : NoSteps
  pub widths_agree : WidthsAgree
  pub in_groups : InGroups
  pub back-in_groups : BackInGroups
  pub undo_each_other : UndoEachOther
  pub going_on : GoingOn
