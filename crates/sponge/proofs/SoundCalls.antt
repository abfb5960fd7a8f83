-- The initial state is sound, and an accepted piece, finish or squeeze gives a sound state: the runs that a state holds stay those of its
-- total and its extra blocks.
use mathlib.Core.Bool.{true}
use mathlib.Core.List.{List}
use mathlib.Core.Path.{◌≡◌, refl, ap, ◌∙◌}
use Prim.Native.Nat.{ℕ, ◌+◌}
use native.Mathlib.Omega.{arith}
use borrow.Author.Tests.{eq-eqb}
use lib.ListN.{length}
use Rattle.quark.specs.Bytes.{bits_of}
use Rattle.quark.specs.Instance.{instance_of, is_instance}
use Rattle.quark.proofs.Blocks.{wide_squeezed}
use Rattle.quark.proofs.Bytes.{wide_bits_of}
use Rattle.quark.proofs.Instance.{regular}
use Rattle.quark.proofs.Runs.{runs-squeezed}
use Rattle.sponge.specs.declared.State.{State}
use Rattle.sponge.specs.Taking.{take_bits, finished, extra_squeezed}
use Rattle.sponge.specs.Soundness.{absorbing_phase, closed_phase, sound_runs, most_extra, sound, content_of}
use Rattle.sponge.specs.Outcomes.{result_by, init_result, absorb_number, absorb_result, finish_number, finish_result, squeeze_number, squeeze_result}
use Rattle.sponge.specs.Calls.{empty}
use Rattle.sponge.specs.MoreBlocks.{SqueezeSound}
use Rattle.sponge.proofs.AfterTaking.{wide_take_bits, wide_finished, total-take_bits, extra-take_bits, runs-take_bits, runs-finished}
use Rattle.sponge.proofs.Contents.{wide_content}
use Rattle.sponge.proofs.Soundness.{sound-state}
use Rattle.sponge.proofs.Messages.{sound-message, init_empty, admissible_empty}
use Rattle.sponge.proofs.Passed.{absorb-passed, finish-passed, squeeze-passed}

pub init_sound : (i : ℕ) → is_instance i ≡ true → sound (init_result i).state ≡ true
init_sound i has_instance = ap sound (init_empty i has_instance) ∙ sound-message i empty admissible_empty

pub absorb-sound : (s : State) (w : ℕ) (bytes : List ℕ) (count : ℕ) → absorb_number s w (length bytes) count ≡ 0
    → sound (absorb_result s w bytes count).state ≡ true
unfolding absorb_result result_by content_of sound_runs most_extra
absorb-sound s w bytes count e =
    let i = s.instance in
    let I = instance_of i in
    let R = regular i in
    let p = absorb-passed s w (length bytes) count e in
    let xs = bits_of count bytes in
    let total : (take_bits I (content_of s) xs).total ≡ s.total + count =
    total-take_bits I R (content_of s) xs ∙ ap (λ (n : ℕ). s.total + n) (wide_bits_of count bytes).0 in
    rw (eq-eqb (absorb_number s w (length bytes) count) 0 e)
    (sound-state i absorbing_phase (take_bits I (content_of s) xs) (wide_take_bits I R (content_of s) xs (wide_content s)) (omega (arith, total, p.room))
    (omega (arith, extra-take_bits I R (content_of s) xs, p.state.no_extra))
    (runs-take_bits I R (content_of s) xs p.state.runs-are) refl)

pub finish-sound : (s : State) (w buffer : ℕ) → finish_number s w buffer ≡ 0 → sound (finish_result s w buffer).state ≡ true
unfolding finish_result result_by content_of finished sound_runs most_extra
finish-sound s w buffer e =
    let i = s.instance in
    let I = instance_of i in
    let R = regular i in
    let p = finish-passed s w buffer e in
    rw (eq-eqb (finish_number s w buffer) 0 e)
    (sound-state i closed_phase (finished I (content_of s)) (wide_finished I R (content_of s) (wide_content s)) p.state.total-within (omega (arith, p.state.no_extra))
    (runs-finished I R (content_of s) p.state.runs-are ∙ omega (arith, p.state.no_extra)) refl)

pub squeeze-sound : SqueezeSound
unfolding SqueezeSound squeeze_result result_by content_of extra_squeezed sound_runs most_extra
squeeze-sound s w k buffer e =
    let i = s.instance in
    let I = instance_of i in
    let p = squeeze-passed s w k buffer e in
    rw (eq-eqb (squeeze_number s w k buffer) 0 e)
    (sound-state i closed_phase (extra_squeezed I k (content_of s)) (wide_squeezed I (regular i) k (content_of s).sponge (wide_content s)) p.state.total-within
    p.room (runs-squeezed I k (content_of s).sponge ∙ omega (arith, p.state.runs-are)) refl)
