-- Groups of steps one after another. Any relation that leads from a to b in n steps and composes leads through all groups: the steps of L,
-- the steps of registers in words, and these undone. The words that come out are those of the definition's steps and of its inverse.
use mathlib.Core.Logic.{⊎_elim}
use mathlib.Core.Path.{◌≡◌, refl, sym, ap, ◌∙◌, subst}
use Prim.Native.Nat.{ℕ, ◌+◌, ◌*◌, ◌/◌, ◌%◌, ◌^◌, ◌<◌}
use native.Mathlib.Nat.{add_comm, add-mul, add-zero, one-mul, zero-mul, div-add-mod'}
use native.Mathlib.Omega.{arith}
use Rattle.quark.specs.Feedback.{Taps}
use Rattle.quark.specs.Inverse.{undo_steps}
use Rattle.quark.specs.Step.{steps, steps_L}
use Rattle.quark.specs.Word.{word_bits}
use Rattle.quark.proofs.Inverse.{undo_steps_lem}
use Rattle.quark.proofs.Taps.{Lawful}
use Rattle.quark.proofs.Together.{registers-path, steps-add, steps_L-add}
use Rattle.words.specs.declared.RegisterWords.{RegisterWords}
use Rattle.words.specs.declared.instances.Instance.{Instance}
use Rattle.words.specs.Instances.{named}
use Rattle.words.specs.Words.{value, word_registers, registers_of, in_words, words_after, words_before}
use Rattle.words.specs.leaf.Groups.{Width, Fitting, Stepped, SteppedL, PrecedingL, Preceding}
use Rattle.words.proofs.InWords.{sized_words, words_held}

-- ---- a relation that composes

pub record Composes {A : Type 0} (Start : A → Type 0) (R : ℕ → A → A → Type 0) : Type 0 where
  pub none : (a : A) → Start a → R 0 a a
  pub join : (m n : ℕ) (a b c : A) → R m a b → R n b c → R (m + n) a c

module _ {A : Type 0} {Start : A → Type 0} {R : ℕ → A → A → Type 0} (C : Composes Start R) (w : ℕ) (a : A) where
  pub no_groups : Start a → R (0 * w) a a
  no_groups start = subst (λ (n : ℕ). R n a a) (sym (zero-mul w)) (C.none a start)

  pub one_group_more : (i : ℕ) (b c : A) → R (i * w) a b → R w b c → R ((i + 1) * w) a c
  one_group_more i b c before group =
      subst (λ (n : ℕ). R n a c) (sym (add-mul i 1 w ∙ ap (λ (n : ℕ). i * w + n) (one-mul w))) (C.join (i * w) w a b c before group)

  pub all_groups : (i count : ℕ) (b : A) → i ≡ count → R (i * w) a b → R (count * w) a b
  all_groups i count b e = subst (λ (n : ℕ). R (n * w) a b) e

-- ---- the relations

pub L-composes : Composes (λ l. l < 1024) SteppedL
unfolding steps_L
L-composes = record {
  none = λ l small. record { fits = small; stepped = refl };
  join = λ m n a b c before after. record {
    fits = after.fits;
    stepped = after.stepped ∙ ap (steps_L n) before.stepped ∙ sym (steps_L-add m n (word_bits 10 a));
  };
}

pub L-back_composes : Composes (λ l. l < 1024) PrecedingL
unfolding steps_L
L-back_composes = record {
  none = λ l small. record { fits = small; redone = refl };
  join = λ m n a b c before after. record {
    fits = after.fits;
    redone = ap (λ (k : ℕ). steps_L k (word_bits 10 c)) (add_comm m n) ∙ steps_L-add n m (word_bits 10 c) ∙ ap (steps_L m) after.redone ∙ before.redone;
  };
}

-- registers in words, forward and back
pub forward_composes : (T : Taps) → Composes (Fitting T) (Stepped T)
unfolding steps
forward_composes T = record {
  none = λ s words. record { fitting = words; stepped = refl };
  join = λ m n s t u before after. record {
    fitting = after.fitting;
    stepped = after.stepped ∙ ap (steps T n) before.stepped ∙ sym (steps-add T m n (registers_of T s));
  };
}

pub back-composes : (T : Taps) → Composes (Fitting T) (Preceding T)
unfolding steps
back-composes T = record {
  none = λ s words. record { fitting = words; redone = refl };
  join = λ m n s t u before after. record {
    fitting = after.fitting;
    redone =
        ap (λ (k : ℕ). steps T k (registers_of T u)) (add_comm m n)
        ∙ steps-add T n m (registers_of T u)
        ∙ ap (steps T m) after.redone
        ∙ before.redone;
  };
}

-- ---- counts of steps that are whole groups

pub whole-groups : (n w : ℕ) → n % w ≡ 0 → n / w * w ≡ n
whole-groups n w e = sym (add-zero (n / w * w)) ∙ ap (λ (r : ℕ). n / w * w + r) (sym e) ∙ div-add-mod' n w

-- so what is shown of the groups of an instance is shown of the steps of its name, and what is known of the name is known of the instance
pub from_name : (P : Taps → ℕ → Type 0) {given name : Instance} → given ≡ name → (n w v : ℕ) → w ≡ v → n % w ≡ 0 → P (named name).taps (n / v * v)
    → P (named given).taps n
from_name P {given} {name} e n w v ev whole shown =
    subst (λ (I : Instance). P (named I).taps n) (sym e)
    (subst (P (named name).taps) (whole-groups n v (subst (λ (u : ℕ). n % u ≡ 0) ev whole)) shown)

pub for_name : (P : Taps → Type 0) {given name : Instance} → given ≡ name → P (named given).taps → P (named name).taps
for_name P e known = subst (λ (I : Instance). P (named I).taps) e known

-- they are whole eights too, for L
pub whole-eights : (w n : ℕ) → Width w → n % w ≡ 0 → n / 8 * 8 ≡ n
whole-eights w n = ⊎_elim eight sixteen
  where
    eight : w ≡ 8 → n % w ≡ 0 → n / 8 * 8 ≡ n
    eight e z =
        let z8 : n % 8 ≡ 0 = subst (λ (v : ℕ). n % v ≡ 0) e z in
        omega arith

    sixteen : w ≡ 16 → n % w ≡ 0 → n / 8 * 8 ≡ n
    sixteen e z =
        let z16 : n % 16 ≡ 0 = subst (λ (v : ℕ). n % v ≡ 0) e z in
        omega arith

-- ---- the definition's words, some steps on or before

-- words that are those of a state n steps on
pub stepped-words : (T : Taps) (n : ℕ) (s t : RegisterWords) → t.x.lo < 2 ^ 64 → t.y.lo < 2 ^ 64 → Stepped T n s t → t ≡ words_after T n s
unfolding words_after
stepped-words T n s t x y a = sym (words_held T t x y a.fitting) ∙ ap in_words a.stepped

-- words whose n steps lead to X and Y of a state, and to L's value after n steps from the state's
pub undone_words : (T : Taps) → Lawful T → (n : ℕ) (s t : RegisterWords) (after : ℕ) → t.x.lo < 2 ^ 64 → t.y.lo < 2 ^ 64
    → SteppedL n s.l after → Preceding T n (record { x = s.x; y = s.y; l = after }) t → t ≡ words_before T n s
unfolding word_registers words_before
undone_words T lawful n s t after x y e a =
    let found = registers_of T t in
    sym (words_held T t x y a.fitting)
    ∙ ap in_words
    (sym (undo_steps_lem T lawful n found (sized_words T (value t.x) (value t.y) t.l))
    ∙ ap (undo_steps T n) (a.redone ∙ registers-path refl refl e.stepped))
