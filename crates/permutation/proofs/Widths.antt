-- The widths that the word form takes.
use Rattle.std.specs.Prelude.{◌≡◌, ℕ, ◌%◌, true}
use mathlib.Core.Logic.{⊎_elim}
use mathlib.Core.Path.{refl, ap, ap₂, ◌∙◌}
use native.Mathlib.Decide.{ℕ_discrete}
use native.Mathlib.Nat.{mod-one}
use native.Mathlib.Omega.{arith}
use Rattle.quark.specs.Step.{rounds}
use Rattle.quark.specs.Instance.{U, D, S, instance_of, is_width}
use Rattle.quark.proofs.Instance.{of_each}
use Rattle.quark.proofs.Taps.{Reach, reach_less, lawful_U, lawful_D, lawful_S}
use Rattle.words.proofs.Widths.{several}

-- a width of an instance, added to its highest tap, is at most the half
reach_8 : (i : ℕ) → Reach (instance_of i).taps 8
reach_8 = of_each (λ I. Reach I.taps 8) lawful_U.1 lawful_D.1 (reach_less S.taps 8 16 (omega arith) lawful_S.1)

pub width-reach : (i w : ℕ) → is_width i w ≡ true → Reach (instance_of i).taps w
unfolding instance_of
width-reach i w e =
    elim (ℕ_discrete w 1) [
      | yes one ↦ rw one (reach_less (instance_of i).taps 1 8 (omega arith) (reach_8 i))
      | no more ↦ ⊎_elim (λ e. rw e (reach_8 i)) (λ e. rw (e.0, e.1) lawful_S.1) (several i w e more)
    ]

-- P's steps are whole groups of a width
eights : (i : ℕ) → rounds (instance_of i).taps % 8 ≡ 0
unfolding rounds U D S
eights = of_each (λ I. rounds I.taps % 8 ≡ 0) refl refl refl

pub rounds-whole : (i w : ℕ) → is_width i w ≡ true → rounds (instance_of i).taps % w ≡ 0
unfolding rounds instance_of S
rounds-whole i w e =
    elim (ℕ_discrete w 1) [
      | yes one ↦ ap (λ (k : ℕ). rounds (instance_of i).taps % k) one ∙ mod-one (rounds (instance_of i).taps)
      | no more ↦ ⊎_elim (λ e. ap (λ (k : ℕ). rounds (instance_of i).taps % k) e ∙ eights i)
          (λ e. ap₂ (λ (j k : ℕ). rounds (instance_of j).taps % k) e.0 e.1) (several i w e more)
    ]
