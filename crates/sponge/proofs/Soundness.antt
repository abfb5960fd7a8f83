-- Sound states: which states by what they hold are sound, and what a sound state has that is not closed, or not absorbing.
use mathlib.Core.Bool.{Bool, true, false, ◌&&◌, ◌||◌, true≢false, and-eq-true_iff, or_comm}
use mathlib.Core.Path.{◌≡◌, refl, sym, ◌∙◌}
use Prim.Native.Nat.{ℕ, ◌+◌, ◌/◌, ◌<◌, ◌≤◌}
use native.Mathlib.Omega.{arith}
use borrow.Author.Tests.{le-leb, leb-true, eq-eqb, eqb-true}
use lib.Dec.{leb, eqb}
use Rattle.quark.specs.Instance.{instance_of}
use Rattle.quark.proofs.Bits.{Wide}
use Rattle.sponge.specs.declared.State.{State}
use Rattle.sponge.specs.Taking.{Content}
use Rattle.sponge.specs.Soundness.{limit, extra_limit, absorbing_phase, closed_phase, rest_zero, sound_runs, most_extra, sound, state_with}
use Rattle.sponge.proofs.Ready.{ZeroPast}
use Rattle.sponge.proofs.StateBytes.{zero_past}

-- b bits, a total and extra blocks within their limits, the runs of both, and a phase of 0 or 1
pub sound-state : (i p : ℕ) (h : Content) → Wide (instance_of i).b h.sponge.bits → h.total ≤ limit → h.extra ≤ most_extra p
    → h.sponge.runs ≡ sound_runs (instance_of i) p h.total h.extra → (eqb p absorbing_phase || eqb p closed_phase) ≡ true
    → sound (state_with i p h) ≡ true
unfolding sound state_with
sound-state i p h w within few runs phase =
    rw (
      le-leb h.total limit within,
      le-leb h.extra (most_extra p) few,
      zero_past i h.sponge.bits w,
      eq-eqb h.sponge.runs (sound_runs (instance_of i) p h.total h.extra) runs,
      phase,
    )

-- the tests of a sound state
pub record Sound (s : State) : Type 0 where
  pub total-within : s.total ≤ limit
  pub extra-within : s.extra ≤ most_extra s.phase
  pub zeros : ZeroPast s
  pub runs-are : s.runs ≡ sound_runs (instance_of s.instance) s.phase s.total s.extra
  pub phases : (eqb s.phase absorbing_phase || eqb s.phase closed_phase) ≡ true

pub tests : (s : State) → sound s ≡ true → Sound s
unfolding sound
tests s e =
    let total = leb s.total limit in
    let extra = leb s.extra (most_extra s.phase) in
    let zeros = rest_zero s in
    let runs = eqb s.runs (sound_runs (instance_of s.instance) s.phase s.total s.extra) in
    let five = (and-eq-true_iff (total && extra && zeros && runs) (eqb s.phase absorbing_phase || eqb s.phase closed_phase)).0 e in
    let four = (and-eq-true_iff (total && extra && zeros) runs).0 five.0 in
    let three = (and-eq-true_iff (total && extra) zeros).0 four.0 in
    let two = (and-eq-true_iff total extra).0 three.0 in
    record {
      total-within = leb-true s.total limit two.0;
      extra-within = leb-true s.extra (most_extra s.phase) two.1;
      zeros = three.1;
      runs-are = eqb-true s.runs (sound_runs (instance_of s.instance) s.phase s.total s.extra) four.1;
      phases = five.1;
    }

-- of two tests one holds: where one does not, the other does
other_holds : (a b : Bool) → (a || b) ≡ true → b ≡ false → a ≡ true
other_holds true b e f = refl
other_holds false b e f = absurd (true≢false (sym e ∙ f))

-- what follows from each of two tests follows where one holds
pub either_way : (a b : Bool) {A : Type 0} → (a ≡ true → A) → (b ≡ true → A) → (a || b) ≡ true → A
either_way true b f g e = f refl
either_way false b f g e = g e

-- the phase is a byte
pub phase_byte : (s : State) → sound s ≡ true → s.phase < 256
phase_byte s e =
    let p = s.phase in
    either_way (eqb p absorbing_phase) (eqb p closed_phase) (λ h. omega (arith, eqb-true p absorbing_phase h)) (λ h. omega (arith, eqb-true p closed_phase h))
    (tests s e).phases

pub record Absorbing (s : State) : Type 0 where
  pub total-within : s.total ≤ limit
  pub no_extra : s.extra ≡ 0
  pub zeros : ZeroPast s
  pub phase_is : s.phase ≡ absorbing_phase
  pub runs-are : s.runs ≡ s.total / (instance_of s.instance).r

pub absorbing : (s : State) → sound s ≡ true → eqb s.phase closed_phase ≡ false → Absorbing s
unfolding sound_runs most_extra
absorbing s e open' =
    let t = tests s e in
    let first : eqb s.phase absorbing_phase ≡ true = other_holds (eqb s.phase absorbing_phase) (eqb s.phase closed_phase) t.phases open' in
    let none : s.extra ≤ 0 = rw first at t.extra-within in
    record {
      total-within = t.total-within;
      no_extra = omega arith;
      zeros = t.zeros;
      phase_is = eqb-true s.phase absorbing_phase first;
      runs-are = t.runs-are ∙ rw first;
    }

pub record Closed (s : State) : Type 0 where
  pub total-within : s.total ≤ limit
  pub extra-within : s.extra ≤ extra_limit
  pub zeros : ZeroPast s
  pub phase_is : s.phase ≡ closed_phase
  pub runs-are : s.runs ≡ s.total / (instance_of s.instance).r + (instance_of s.instance).n / (instance_of s.instance).r + s.extra

pub closed : (s : State) → sound s ≡ true → eqb s.phase absorbing_phase ≡ false → Closed s
unfolding sound_runs most_extra
closed s e shut =
    let t = tests s e in
    let phases : (eqb s.phase closed_phase || eqb s.phase absorbing_phase) ≡ true = or_comm (eqb s.phase closed_phase) (eqb s.phase absorbing_phase) ∙ t.phases in
    record {
      total-within = t.total-within;
      extra-within = rw shut at t.extra-within;
      zeros = t.zeros;
      phase_is = eqb-true s.phase closed_phase (other_holds (eqb s.phase closed_phase) (eqb s.phase absorbing_phase) phases shut);
      runs-are = t.runs-are ∙ rw shut;
    }
