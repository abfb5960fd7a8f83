-- The whole digest: a fresh state that takes a message's bits is the state that the open message determines, so finishing it gives the
-- paper's digest; and where `digest` is accepted, `init`, one `absorb` and `finish` are too, and the buffer is the same.
use mathlib.Core.Bool.{true, false}
use mathlib.Core.List.{List, []}
use mathlib.Core.Path.{◌≡◌, refl, sym, ap, ◌∙◌, subst}
use Prim.Native.Nat.{ℕ, ◌+◌, ◌*◌}
use native.Mathlib.Omega.{arith}
use borrow.Author.Tests.{eq-eqb, le-ltb}
use lib.ListN.{length}
use Rattle.refusals.specs.Lines.{first_line, line5}
use Rattle.quark.specs.Bytes.{bits_of, bytes_of}
use Rattle.quark.specs.Instance.{instance_of, is_instance, is_width, state_bytes}
use Rattle.quark.specs.Sponge.{digest}
use Rattle.quark.proofs.Bytes.{wide_bits_of}
use Rattle.quark.proofs.Instance.{regular}
use Rattle.permutation.specs.Lines.{line4}
use Rattle.sponge.specs.declared.State.{State}
use Rattle.sponge.specs.Taking.{Content, take_bits, finish_output}
use Rattle.sponge.specs.Soundness.{limit, absorbing_phase, most_extra, content_of, state_with, fresh}
use Rattle.sponge.specs.Outcomes.{line6, line7, init_result, absorb_number, absorb_result, finish_number, finish_bytes, digest_number, digest_bytes}
use Rattle.sponge.specs.Calls.{piece, finish, state_number, after, Message, empty, message_number, grown}
use Rattle.sponge.specs.TwoLists.{phase_of, sponge_of}
use Rattle.sponge.proofs.Taking.{open_content, take-bits, finish-digest}
use Rattle.sponge.proofs.Contents.{zeros_of_wide}
use Rattle.sponge.proofs.Ready.{Ready}
use Rattle.sponge.proofs.Messages.{state_of, content_open, fresh-empty, init_empty, Admissible, admissible_empty, accepted-grows, same_number, after_call}
use Rattle.sponge.proofs.Passed.{DigestPassed, digest-passed}

-- an open message
abbrev opened : List ℕ → Message
opened m = record { bits = m; closed = false; extras = 0 }

-- ---- what `fresh`, `take_bits` and `close` make

module _ (i : ℕ) (f : State) (ef : f ≡ fresh i) where
  pub fresh-ready : (w : ℕ) → is_instance i ≡ true → is_width i w ≡ true → Ready f w
  unfolding fresh state_with
  fresh-ready w has_instance width =
      subst (λ (s : State). Ready s w) (sym ef)
      (record { has_instance = has_instance; has_width = width; zero_past = zeros_of_wide i (instance_of i).initial (regular i).wide_initial refl })

  pub fresh-total : f.total ≡ 0
  unfolding fresh state_with
  fresh-total = ap (λ (s : State). s.total) ef

  pub fresh-runs : f.runs ≡ 0
  unfolding fresh state_with
  fresh-runs = ap (λ (s : State). s.runs) ef

  -- a message's bits, taken by the fresh state
  pub whole-message : (m : List ℕ) → state_with f.instance f.phase (take_bits (instance_of f.instance) (content_of f) m) ≡ state_of i (opened m)
  unfolding state_of state_with sponge_of phase_of open_content
  whole-message m =
      ap (λ (s : State). state_with s.instance s.phase (take_bits (instance_of s.instance) (content_of s) m)) (ef ∙ fresh-empty i)
      ∙ ap (λ (h : Content). state_with i absorbing_phase (take_bits (instance_of i) h m)) (content_open i empty refl refl)
      ∙ ap (state_with i absorbing_phase) (take-bits (instance_of i) (regular i) [] m)

pub whole-digest : (i : ℕ) (m : List ℕ) (t : State) → t ≡ state_of i (opened m)
    → bytes_of (state_bytes t.instance) (finish_output (instance_of t.instance) (content_of t)) ≡ bytes_of (state_bytes i) (digest (instance_of i) m)
unfolding state_of state_with
whole-digest i m t e =
    ap (λ (s : State). bytes_of (state_bytes s.instance) (finish_output (instance_of s.instance) (content_of s))) e
    ∙ ap (bytes_of (state_bytes i)) (ap (finish_output (instance_of i)) (content_open i (opened m) refl refl) ∙ finish-digest (instance_of i) (regular i) m)

-- ---- digest is init, one absorb and finish

module _ (i w : ℕ) (bytes : List ℕ) (count : ℕ) (buffer : List ℕ) (none : digest_number i w (length bytes) count (length buffer) ≡ 0) where
  p : DigestPassed i w (length bytes) count (length buffer)
  p = digest-passed i w (length bytes) count (length buffer) none

  abbrev m : List ℕ
  m = bits_of count bytes

  admissible_m : Admissible (opened m)
  unfolding phase_of most_extra
  admissible_m = record { within = omega (arith, (wide_bits_of count bytes).0, p.room); extras-within = omega arith; of_bits = (wide_bits_of count bytes).1 }

  -- on messages: the piece is taken, and the finish closes
  piece-accepted : message_number i empty (piece bytes count w) ≡ 0
  unfolding message_number first_line line4 line6 line7
  piece-accepted = simp (p.width, le-ltb (8 * length bytes) count p.within, le-ltb limit (0 + count) (omega (arith, p.room)))

  finish-accepted : message_number i (opened m) (finish w (length buffer)) ≡ 0
  unfolding message_number first_line line4 line5
  finish-accepted = simp (p.width, eq-eqb (length buffer) (state_bytes i) p.fits)

  -- `absorb` accepts the state that `init` hands back
  pub digest-absorb : absorb_number (init_result i).state w (length bytes) count ≡ 0
  unfolding state_number
  digest-absorb =
      ap (λ (s : State). state_number s (piece bytes count w)) (init_empty i p.has_instance)
      ∙ same_number i p.has_instance empty admissible_empty (piece bytes count w)
      ∙ piece-accepted

  digest-state : (absorb_result (init_result i).state w bytes count).state ≡ state_of i (opened m)
  unfolding after grown
  digest-state =
      ap (λ (s : State). after s (piece bytes count w)) (init_empty i p.has_instance)
      ∙ after_call i p.has_instance empty admissible_empty (piece bytes count w)
      ∙ ap (state_of i) (accepted-grows i empty (piece bytes count w) piece-accepted)

  -- `finish` accepts the state that `absorb` hands back
  pub digest-finish : finish_number (absorb_result (init_result i).state w bytes count).state w (length buffer) ≡ 0
  unfolding state_number
  digest-finish =
      ap (λ (s : State). state_number s (finish w (length buffer))) digest-state
      ∙ same_number i p.has_instance (opened m) admissible_m (finish w (length buffer))
      ∙ finish-accepted

  -- and the buffer is the same
  pub digest-bytes : finish_bytes (absorb_result (init_result i).state w bytes count).state w buffer ≡ digest_bytes i w bytes count buffer
  unfolding finish_bytes digest_bytes
  digest-bytes =
      rw (eq-eqb (finish_number (absorb_result (init_result i).state w bytes count).state w (length buffer)) 0 digest-finish)
      (rw (eq-eqb (digest_number i w (length bytes) count (length buffer)) 0 none) (whole-digest i m _ digest-state))
