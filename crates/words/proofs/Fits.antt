-- Calls that fit: the test says what the groups need, and the other way round. A register of two words is below 2 ^ (64 + k) where its high
-- word is below 2 ^ k.
use mathlib.Core.Bool.{Bool, true, false, not, cond, ◌&&◌, and-eq-true_iff}
use mathlib.Core.Path.{◌≡◌, refl, sym, subst}
use Prim.Native.Nat.{ℕ, ◌+◌, ◌*◌, ◌%◌, ◌^◌, ◌<◌, ◌≤◌}
use native.Mathlib.Nat.{le_trans, le-add_right, mul-le-mul_right}
use borrow.Author.Tests.{eqb-true, eqb-false, eq-eqb, ne_eqb, not-true, ltb-true, ltb-false, lt-ltb, le-ltb}
use lib.Arith.{digits_lt}
use lib.Dec.{eqb, ltb}
use lib.Pow.{pow-add}
use Rattle.quark.specs.Instance.{instance_of, is_instance, is_width}
use Rattle.words.specs.declared.RegisterWords.{RegisterWords}
use Rattle.words.specs.Words.{value, fits}
use Rattle.words.specs.leaf.Groups.{Fitting}
use Rattle.words.proofs.Widths.{WidthOf, width_fits, some_width, several}

-- ---- the test of a call

-- what a call that fits has
pub record Fits (i w n : ℕ) (s : RegisterWords) : Type 0 where
  pub has_instance : is_instance i ≡ true
  pub width : is_width i w ≡ true
  pub more : w ≡ 1 → ⊥
  pub whole : n % w ≡ 0
  pub words : Fitting (instance_of i).taps s

pub tested_fits : (i w n : ℕ) (s : RegisterWords) → fits i w n s ≡ true → Fits i w n s
unfolding fits
tested_fits i w n s e =
    let bound = 2 ^ (instance_of i).taps.half in
    let l = ltb s.l 1024 in
    let y = ltb (value s.y) bound in
    let x = ltb (value s.x) bound in
    let whole = eqb (n % w) 0 in
    let more = not (eqb w 1) in
    let width = is_instance i && is_width i w in
    let five = (and-eq-true_iff (width && more && whole && x && y) l).0 e in
    let four = (and-eq-true_iff (width && more && whole && x) y).0 five.0 in
    let three = (and-eq-true_iff (width && more && whole) x).0 four.0 in
    let two = (and-eq-true_iff (width && more) whole).0 three.0 in
    let one = (and-eq-true_iff width more).0 two.0 in
    let first = (and-eq-true_iff (is_instance i) (is_width i w)).0 one.0 in
    record {
      has_instance = first.0;
      width = first.1;
      more = eqb-false w 1 (not-true (eqb w 1) one.1);
      whole = eqb-true (n % w) 0 two.1;
      words = record {
        fits_X = ltb-true (value s.x) bound three.1;
        fits_Y = ltb-true (value s.y) bound four.1;
        fits_L = ltb-true s.l 1024 five.1;
      };
    }

pub fits-tested : (i w n : ℕ) (s : RegisterWords) → Fits i w n s → fits i w n s ≡ true
unfolding fits
fits-tested i w n s f =
    let bound = 2 ^ (instance_of i).taps.half in
    simp (
      f.has_instance,
      f.width,
      ne_eqb w 1 f.more,
      eq-eqb (n % w) 0 f.whole,
      lt-ltb (value s.x) bound f.words.fits_X,
      lt-ltb (value s.y) bound f.words.fits_Y,
      lt-ltb s.l 1024 f.words.fits_L,
    )

pub fits_width : {i w n : ℕ} {s : RegisterWords} → Fits i w n s → WidthOf i w
fits_width {i} {w} f = several i w f.width f.more

-- a width of an instance that is not 1 is above 0
pub some_steps : (i w : ℕ) → is_width i w ≡ true → (w ≡ 1 → ⊥) → 0 < w
some_steps i w e more = (width_fits w (some_width i w (several i w e more))).0

-- what comes back of a call that fits
pub fits-answer : (i w n : ℕ) (s : RegisterWords) {r after : RegisterWords} → Fits i w n s → r ≡ after → r ≡ cond (fits i w n s) after s
fits-answer i w n s f e = rw (fits-tested i w n s f) e

-- ---- a register of two words

below : (half k hi lo : ℕ) → k + 64 ≡ half → lo < 2 ^ 64 → hi < 2 ^ k → hi * 2 ^ 64 + lo < 2 ^ half
below half k hi lo e p q = subst (λ (h : ℕ). hi * 2 ^ 64 + lo < 2 ^ h) e (rw pow-add (digits_lt q p))

past : (half k hi lo : ℕ) → k + 64 ≡ half → 2 ^ k ≤ hi → 2 ^ half ≤ hi * 2 ^ 64 + lo
past half k hi lo e q =
    subst (λ (h : ℕ). 2 ^ h ≤ hi * 2 ^ 64 + lo) e (rw pow-add (le_trans (mul-le-mul_right (2 ^ 64) q) (le-add_right (hi * 2 ^ 64) lo)))

-- the high word decides
pub half-test : (half k hi lo : ℕ) → k + 64 ≡ half → lo < 2 ^ 64 → ltb hi (2 ^ k) ≡ ltb (hi * 2 ^ 64 + lo) (2 ^ half)
half-test half k hi lo e p = cases (ltb hi (2 ^ k)) refl
  where
    cases : (b : Bool) → ltb hi (2 ^ k) ≡ b → b ≡ ltb (hi * 2 ^ 64 + lo) (2 ^ half)
    cases true q = sym (lt-ltb (hi * 2 ^ 64 + lo) (2 ^ half) (below half k hi lo e p (ltb-true hi (2 ^ k) q)))
    cases false q = sym (le-ltb (hi * 2 ^ 64 + lo) (2 ^ half) (past half k hi lo e (ltb-false hi (2 ^ k) q)))

pub half_full : (half k hi lo : ℕ) → k + 64 ≡ half → lo < 2 ^ 64 → hi < 2 ^ k → true ≡ ltb (hi * 2 ^ 64 + lo) (2 ^ half)
half_full half k hi lo e p q = sym (lt-ltb (hi * 2 ^ 64 + lo) (2 ^ half) (below half k hi lo e p q))
