-- The state that a message and its extras determine: it holds the definition's sponge over them, and it is sound. A fresh state is that of the
-- empty message; a call answers on the state what it answers on the message, and leaves the state that the message after it determines.
use mathlib.Core.Bool.{Bool, true, false, cond, not, ◌||◌}
use mathlib.Core.List.{List, []}
use mathlib.Core.Path.{◌≡◌, refl, sym, ap, ap₂, ◌∙◌, subst}
use Prim.Native.Nat.{ℕ, ◌+◌, ◌-◌, ◌%◌, ◌≤◌}
use native.Mathlib.Decide.{ℕ_discrete}
use native.Mathlib.Nat.{zero-div}
use native.Mathlib.Omega.{arith}
use borrow.Author.Tests.{eq-eqb, ltb-false, not-false}
use lib.Dec.{eqb}
use lib.ListN.{length, length-append}
use Rattle.refusals.specs.Lines.{first_line}
use Rattle.refusals.proofs.FirstLine.{none_holds}
use Rattle.refusals.proofs.Outcome.{refused-left, accepted-left}
use Rattle.quark.specs.Bytes.{bits_of}
use Rattle.quark.specs.Instance.{instance_of, is_instance}
use Rattle.quark.specs.Sponge.{Counted, before, block, absorb, absorbing, squeezed, closed}
use Rattle.quark.proofs.Bits.{Bits, none, Wide, bits-append}
use Rattle.quark.proofs.Blocks.{block-past, wide_absorbing, wide_squeezed, wide_closed}
use Rattle.quark.proofs.Bytes.{wide_bits_of}
use Rattle.quark.proofs.Instance.{regular}
use Rattle.quark.proofs.Padding.{whole-padding}
use Rattle.quark.proofs.Runs.{runs-absorbing, runs-squeezed, squeezed-squeezed, runs_closed}
use Rattle.permutation.specs.Lines.{line1}
use Rattle.sponge.specs.declared.State.{State}
use Rattle.sponge.specs.Taking.{Content, holding, take_bits, finished, extra_squeezed}
use Rattle.sponge.specs.Soundness.{limit, extra_limit, absorbing_phase, closed_phase, sound_runs, most_extra, sound, content_of, state_with, fresh}
use Rattle.sponge.specs.Outcomes.{result_by, line2, line3, line3_squeeze, line7, line8, line15, init_number, init_result, absorb_number, absorb_result, finish_number, finish_result, squeeze_number, squeeze_result}
use Rattle.sponge.specs.Calls.{Call, piece, finish, squeeze, state_number, after, Message, empty, message_number, grown, extended}
use Rattle.sponge.specs.TwoLists.{phase_of, sponge_of}
use Rattle.sponge.proofs.Taking.{open_content, closed_content, absorb-nil, take-bits, finish-closed}
use Rattle.sponge.proofs.Contents.{content_state_with}
use Rattle.sponge.proofs.Soundness.{sound-state}

abbrev pub message_content : ℕ → Message → Content
message_content i m = record { total = length m.bits; extra = m.extras; sponge = sponge_of i m }

unfoldable pub state_of : ℕ → Message → State
state_of i m = state_with i (phase_of m) (message_content i m)

-- ---- messages that lists have: within the limits, and of bits

pub record Admissible (m : Message) : Type 0 where
  pub within : length m.bits ≤ limit
  pub extras-within : m.extras ≤ most_extra (phase_of m)
  pub of_bits : Bits m.bits

pub admissible_empty : Admissible empty
unfolding phase_of most_extra
admissible_empty = record { within = omega arith; extras-within = omega arith; of_bits = none }

-- an open message has no extras
pub no_extras : (m : Message) → Admissible m → m.closed ≡ false → m.extras ≡ 0
unfolding phase_of most_extra
no_extras m h open' = let none : m.extras ≤ 0 = rw open' at h.extras-within in omega arith

-- ---- it holds the definition's sponge

-- by whether the message is closed
pub sponge-closed : (i : ℕ) (m : Message) → m.closed ≡ true → sponge_of i m ≡ squeezed (instance_of i) m.extras (closed (instance_of i) m.bits)
unfolding sponge_of
sponge-closed i m e = rw e

sponge-open : (i : ℕ) (m : Message) → m.closed ≡ false → sponge_of i m ≡ absorbing (instance_of i) m.bits
unfolding sponge_of
sponge-open i m e = rw e

pub wide_sponge : (i : ℕ) (m : Message) → Wide (instance_of i).b (sponge_of i m).bits
unfolding sponge_of
wide_sponge i m = either m.closed
  where
    either : (c : Bool)
        → Wide (instance_of i).b (cond c (squeezed (instance_of i) m.extras (closed (instance_of i) m.bits)) (absorbing (instance_of i) m.bits)).bits
    either true =
        wide_squeezed (instance_of i) (regular i) m.extras (closed (instance_of i) m.bits) (wide_closed (instance_of i) (regular i) m.bits)
    either false = wide_absorbing (instance_of i) (regular i) m.bits

pub content_message : (i : ℕ) (m : Message) → content_of (state_of i m) ≡ message_content i m
unfolding state_of
content_message i m = content_state_with i (phase_of m) (message_content i m) (wide_sponge i m)

pub content_open : (i : ℕ) (m : Message) → m.closed ≡ false → m.extras ≡ 0 → content_of (state_of i m) ≡ open_content (instance_of i) m.bits
unfolding open_content
content_open i m e z =
    content_message i m ∙ ap₂ (λ (n : ℕ) (c : Counted). record { total = length m.bits; extra = n; sponge = c }) z (sponge-open i m e)

-- ---- it is sound

phase_allowed : (c : Bool) → (eqb (cond c closed_phase absorbing_phase) absorbing_phase || eqb (cond c closed_phase absorbing_phase) closed_phase) ≡ true
phase_allowed true = refl
phase_allowed false = refl

sound-runs : (i : ℕ) (m : List ℕ) (e : ℕ) (c : Bool)
    → (cond c (squeezed (instance_of i) e (closed (instance_of i) m)) (absorbing (instance_of i) m)).runs
    ≡ sound_runs (instance_of i) (cond c closed_phase absorbing_phase) (length m) e
unfolding sound_runs
sound-runs i m e true = runs-squeezed (instance_of i) e (closed (instance_of i) m) ∙ ap (λ (n : ℕ). n + e) (runs_closed (instance_of i) (regular i) m)
sound-runs i m e false = runs-absorbing (instance_of i) m

pub sound-message : (i : ℕ) (m : Message) → Admissible m → sound (state_of i m) ≡ true
unfolding state_of phase_of sponge_of
sound-message i m h =
    sound-state i (phase_of m) (message_content i m) (wide_sponge i m) h.within h.extras-within (sound-runs i m.bits m.extras m.closed)
    (phase_allowed m.closed)

-- ---- a fresh state is that of the empty message

pub fresh-empty : (i : ℕ) → fresh i ≡ state_of i empty
unfolding fresh state_of sponge_of absorbing before phase_of
fresh-empty i =
    let I = instance_of i in
    let start : absorbing I [] ≡ record { bits = I.initial; runs = 0 } =
    ap (λ (q : ℕ). absorb I (before I [] q) (block I [] q)) (zero-div I.r)
    ∙ ap (absorb I (before I [] 0)) (block-past I [] 0 (omega arith))
    ∙ absorb-nil I (regular i) (before I [] 0) in
    ap (λ (c : Counted). state_with i absorbing_phase (holding (message_content i empty) c)) (sym start)

pub init_empty : (i : ℕ) → is_instance i ≡ true → (init_result i).state ≡ state_of i empty
unfolding init_result result_by init_number first_line line1
init_empty i has_instance = rw has_instance (fresh-empty i)

-- ---- a message after one more call

-- a refused call adds nothing
pub refused-adds_nothing : (i : ℕ) (m : Message) (call : Call) → (message_number i m call ≡ 0 → ⊥) → extended i m call ≡ m
unfolding extended
refused-adds_nothing i m call refused = sym (refused-left (message_number i m call) m (grown m call) refused)

pub accepted-grows : (i : ℕ) (m : Message) (call : Call) → message_number i m call ≡ 0 → extended i m call ≡ grown m call
unfolding extended
accepted-grows i m call accepted = sym (accepted-left (message_number i m call) m (grown m call) accepted)

-- an accepted piece or finish came to an open message, and an accepted squeeze to a closed one
piece-open : (i : ℕ) (m : Message) (bytes : List ℕ) (count width : ℕ) → message_number i m (piece bytes count width) ≡ 0 → m.closed ≡ false
unfolding message_number
piece-open i m bytes count width accepted = let none = none_holds _ refl accepted in search none

pub finish-open : (i : ℕ) (m : Message) (width buffer : ℕ) → message_number i m (finish width buffer) ≡ 0 → m.closed ≡ false
unfolding message_number
finish-open i m width buffer accepted = let none = none_holds _ refl accepted in search none

pub squeeze-closed : (i : ℕ) (m : Message) (width k buffer : ℕ) → message_number i m (squeeze width k buffer) ≡ 0 → m.closed ≡ true
unfolding message_number
squeeze-closed i m width k buffer accepted = let none = none_holds _ refl accepted in not-false m.closed (search none)

accepted-within : (i : ℕ) (m : Message) (call : Call) → message_number i m call ≡ 0 → Admissible m → Admissible (grown m call)
unfolding message_number grown line7 line15 phase_of most_extra
accepted-within i m (piece bytes count width) accepted h =
    let none = none_holds _ refl accepted in
    let room = ltb-false limit (length m.bits + count) (search none) in
    let piece-bits = wide_bits_of count bytes in
    record { within = rw (length-append, piece-bits.0) room; extras-within = omega arith; of_bits = bits-append h.of_bits piece-bits.1 }
accepted-within i m (finish width buffer) accepted h = record { within = h.within; extras-within = omega arith; of_bits = h.of_bits }
accepted-within i m (squeeze width k buffer) accepted h =
    let none = none_holds _ refl accepted in
    let room : m.extras + k ≤ extra_limit = ltb-false extra_limit (m.extras + k) (search none) in
    record { within = h.within; extras-within = rw (squeeze-closed i m width k buffer accepted) room; of_bits = h.of_bits }

-- ---- a call on the state that a message determines

-- line 8 never holds
pub never_line_8 : (i total : ℕ) → line8 i total ≡ false
unfolding line8
never_line_8 i total =
    let I = instance_of i in
    ap not (eq-eqb ((total + 1 + (I.r - 1 - total % I.r)) % I.r) 0 (whole-padding I (regular i).some_rate total))

closed-phase : (c : Bool) → eqb (cond c closed_phase absorbing_phase) closed_phase ≡ c
closed-phase true = refl
closed-phase false = refl

absorbing-phase : (c : Bool) → eqb (cond c closed_phase absorbing_phase) absorbing_phase ≡ not c
absorbing-phase true = refl
absorbing-phase false = refl

-- a refused call hands back the state that it was given
pub refused-keeps : (s : State) (call : Call) → (state_number s call ≡ 0 → ⊥) → after s call ≡ s
unfolding after state_number absorb_result finish_result squeeze_result result_by
refused-keeps s (piece bytes count width) refused = sym (refused-left _ s _ refused)
refused-keeps s (finish width buffer) refused = sym (refused-left _ s _ refused)
refused-keeps s (squeeze width k buffer) refused = sym (refused-left _ s _ refused)

-- k extra blocks after those of the message
after-squeeze : (i : ℕ) (m : Message) (k : ℕ) → m.closed ≡ true
    → state_with i closed_phase (extra_squeezed (instance_of i) k (message_content i m))
    ≡ state_of i (record { bits = m.bits; closed = m.closed; extras = m.extras + k })
unfolding extra_squeezed state_of phase_of
after-squeeze i m k shut =
    let I = instance_of i in
    let next : Message = record { bits = m.bits; closed = m.closed; extras = m.extras + k } in
    ap₂ (λ (p : ℕ) (c : Counted). state_with i p (record { total = length m.bits; extra = m.extras + k; sponge = c }))
    (ap (λ (c : Bool). cond c closed_phase absorbing_phase) (sym shut))
    (ap (squeezed I k) (sponge-closed i m shut) ∙ squeezed-squeezed I m.extras k (closed I m.bits) ∙ sym (sponge-closed i next shut))

module _ (i : ℕ) (has_instance : is_instance i ≡ true) (m : Message) (h : Admissible m) where
  -- the state is of an instance and sound, and its phase and total are the message's
  pub same_number : (call : Call) → state_number (state_of i m) call ≡ message_number i m call
  unfolding state_number message_number absorb_number finish_number squeeze_number first_line line1 line2 line3 line3_squeeze state_of state_with phase_of
  same_number (piece bytes count width) = rw (has_instance, sound-message i m h, closed-phase m.closed)
  same_number (finish width buffer) = rw (has_instance, sound-message i m h, closed-phase m.closed, never_line_8 i (length m.bits))
  same_number (squeeze width k buffer) = rw (has_instance, sound-message i m h, absorbing-phase m.closed)

  -- an accepted call leaves the state of the grown message
  accepted-follows : (call : Call) → message_number i m call ≡ 0 → after (state_of i m) call ≡ state_of i (grown m call)
  unfolding after state_number absorb_result finish_result squeeze_result result_by grown state_of state_with phase_of sponge_of open_content closed_content squeezed
  accepted-follows (piece bytes count width) accepted =
      let call = piece bytes count width in
      let open' = piece-open i m bytes count width accepted in
      sym (accepted-left _ (state_of i m) _ (same_number call ∙ accepted))
      ∙ ap (λ (q : Content). state_with i absorbing_phase (take_bits (instance_of i) q (bits_of count bytes))) (content_open i m open' (no_extras m h open'))
      ∙ ap (state_with i absorbing_phase) (take-bits (instance_of i) (regular i) m.bits (bits_of count bytes))
  accepted-follows (finish width buffer) accepted =
      let call = finish width buffer in
      let open' = finish-open i m width buffer accepted in
      sym (accepted-left _ (state_of i m) _ (same_number call ∙ accepted))
      ∙ ap (λ (q : Content). state_with i closed_phase (finished (instance_of i) q)) (content_open i m open' (no_extras m h open'))
      ∙ ap (state_with i closed_phase) (finish-closed (instance_of i) (regular i) m.bits)
  accepted-follows (squeeze width k buffer) accepted =
      let I = instance_of i in
      let call = squeeze width k buffer in
      let shut = squeeze-closed i m width k buffer accepted in
      sym (accepted-left _ (state_of i m) _ (same_number call ∙ accepted))
      ∙ ap (λ (q : Content). state_with i closed_phase (extra_squeezed I k q)) (content_message i m)
      ∙ after-squeeze i m k shut

  pub after_call : (call : Call) → after (state_of i m) call ≡ state_of i (extended i m call)
  after_call call =
      elim (ℕ_discrete (message_number i m call) 0) [
        | yes accepted ↦ accepted-follows call accepted ∙ ap (state_of i) (sym (accepted-grows i m call accepted))
        | no refused ↦ refused-keeps (state_of i m) call (λ z. refused (sym (same_number call) ∙ z)) ∙ ap (state_of i) (sym (refused-adds_nothing i m call refused))
      ]

  pub admissible_after : (call : Call) → Admissible (extended i m call)
  admissible_after call =
      elim (ℕ_discrete (message_number i m call) 0) [
        | yes accepted ↦ subst Admissible (sym (accepted-grows i m call accepted)) (accepted-within i m call accepted h)
        | no refused ↦ subst Admissible (sym (refused-adds_nothing i m call refused)) h
      ]
