-- The widths of groups, and the numbers and names of the instances.
use mathlib.Core.Bool.{Bool, true, false, ◌&&◌, ◌||◌, false≢true}
use mathlib.Core.Logic.{◌⊎◌, ⊎_elim, inl, inr}
use mathlib.Core.Path.{◌≡◌, refl, sym, ap, ◌∙◌, subst}
use Prim.Native.Nat.{ℕ, zero, suc, ◌<◌, ◌≤◌}
use native.Mathlib.Omega.{arith}
use borrow.Author.Tests.{eqb-true, ne_eqb}
use lib.Dec.{eqb}
use Rattle.quark.specs.Feedback.{Taps}
use Rattle.quark.specs.Instance as quark
use Rattle.quark.specs.Instance.{is_instance, is_width}
use Rattle.words.specs.declared.instances.Instance.{Instance}
use Rattle.words.specs.Instances.{named}
use Rattle.words.specs.leaf.Groups.{Width, WidthIn}

pub width_fits : (w : ℕ) → Width w → (0 < w) × (w ≤ 16)
width_fits w = ⊎_elim (λ e. omega arith) (λ e. omega arith)

-- the width of an instance's groups, by its number: 8, and for S 16 too
abbrev pub WidthOf : ℕ → ℕ → Type 0
WidthOf instance w = (w ≡ 8) ⊎ ((instance ≡ 3) × (w ≡ 16))

pub some_width : (i w : ℕ) → WidthOf i w → Width w
some_width i w = ⊎_elim inl (λ e. inr e.1)

-- where it is not 8 it is 16
pub sixteen : (w : ℕ) → Width w → (w ≡ 8 → ⊥) → w ≡ 16
sixteen w width n = ⊎_elim (λ e. absurd (n e)) (λ e. e) width

-- a width of an instance that is not 1
pub several : (i w : ℕ) → is_width i w ≡ true → (w ≡ 1 → ⊥) → WidthOf i w
unfolding is_width
several i w e more = cases (eqb w 8) (eqb w 16) (eqb i 3) refl refl refl (rw (ne_eqb w 1 more) at e)
  where
    cases : (a b c : Bool) → eqb w 8 ≡ a → eqb w 16 ≡ b → eqb i 3 ≡ c → (false || a || (b && c)) ≡ true → WidthOf i w
    cases true b c p q s t = inl (eqb-true w 8 p)
    cases false true true p q s t = inr (eqb-true i 3 s, eqb-true w 16 q)
    cases false true false p q s t = absurd (false≢true t)
    cases false false c p q s t = absurd (false≢true t)

-- the width of an instance's groups
pub a_width : (T : Taps) (w : ℕ) → WidthIn T w → Width w
a_width T w = ⊎_elim inl (λ e. inr e.1)

pub in_instance : (i w : ℕ) → WidthOf i w → WidthIn (quark.instance_of i).taps w
unfolding quark.instance_of quark.S
in_instance i w = ⊎_elim inl (λ e. inr (subst (λ (j : ℕ). (quark.instance_of j).taps.half ≡ 128) (sym e.0) refl, e.1))

-- ---- the numbers of the instances

pub one_to_three : (i : ℕ) → 1 ≤ i → i ≤ 3 → is_instance i ≡ true
unfolding is_instance
one_to_three zero above below = absurd (omega arith)
one_to_three (suc zero) above below = refl
one_to_three (suc (suc zero)) above below = refl
one_to_three (suc (suc (suc zero))) above below = refl
one_to_three (suc (suc (suc (suc i)))) above below = absurd (omega arith)

pub no_instance : (i : ℕ) → (i ≡ 1 → ⊥) → (i ≡ 2 → ⊥) → (i ≡ 3 → ⊥) → is_instance i ≡ false
unfolding is_instance
no_instance i n1 n2 n3 = simp (ne_eqb i 1 n1, ne_eqb i 2 n2, ne_eqb i 3 n3)

-- what a name says of the instance of a number
pub is_named : (name : Instance) {given : Instance} {of_number : quark.Instance} → given ≡ name → named given ≡ of_number → of_number ≡ named name
is_named name e f = sym f ∙ ap named e
