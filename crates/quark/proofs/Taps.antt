-- What the laws ask of an instance's taps, as a fact and as a test that is computed: a0 of f and of g alone is at 0, h's taps are above 0,
-- and every tap, `reach` added, is at most the half. The three instances meet it.
use mathlib.Core.Bool.{Bool, true, ◌&&◌}
use mathlib.Core.List.{List, [], ◌∷◌, ◌++◌}
use mathlib.Core.Path.{◌≡◌}
use Prim.Native.Nat.{ℕ, zero, suc, ◌+◌, ◌≤◌, ◌<◌}
use native.Mathlib.Nat.{le_of_suc-le-suc, not-suc-le-zero}
use native.Mathlib.Omega.{arith}
use lib.Dec.{T, leb, ltb, eqb, leb→le, eqb→eq, lit≤}
use lib.ListN.{length, get_or, drop, set, replicate}
use Rattle.quark.specs.Feedback.{Taps}
use Rattle.quark.specs.Instance.{U, D, S}
use Rattle.quark.proofs.Tests.{both, every, each}

-- ---- every element of a list has a property

abbrev pub All : (ℕ → Type 0) → List ℕ → Type 0
All F [] = Unit {0}
All F (t ∷ ts) = F t × All F ts

pub all_at : (F : ℕ → Type 0) (ts : List ℕ) → All F ts → (k : ℕ) → k < length ts → F (get_or ts k 0)
all_at F [] a k h = absurd (not-suc-le-zero h)
all_at F (t ∷ ts) a zero h = a.0
all_at F (t ∷ ts) a (suc k) h = all_at F ts a.1 k (le_of_suc-le-suc h)

pub all_map : (F G : ℕ → Type 0) → ((t : ℕ) → F t → G t) → (ts : List ℕ) → All F ts → All G ts
all_map F G m [] a = tt
all_map F G m (t ∷ ts) a = (m t a.0, all_map F G m ts a.1)

pub all_set : (F : ℕ → Type 0) (ts : List ℕ) (i v : ℕ) → All F ts → F v → All F (set ts i v)
all_set F [] i v a h = tt
all_set F (t ∷ ts) zero v a h = (h, a.1)
all_set F (t ∷ ts) (suc i) v a h = (a.0, all_set F ts i v a.1 h)

pub all_left : (F : ℕ → Type 0) (ss ts : List ℕ) → All F (ss ++ ts) → All F ss
all_left F [] ts a = tt
all_left F (s ∷ ss) ts a = (a.0, all_left F ss ts a.1)

pub all_right : (F : ℕ → Type 0) (ss ts : List ℕ) → All F (ss ++ ts) → All F ts
all_right F [] ts a = a
all_right F (s ∷ ss) ts a = all_right F ss ts a.1

-- ---- the conditions

-- every tap of h in X, and in Y
abbrev pub x_taps : Taps → List ℕ
x_taps T = T.h_X ++ (T.x_low ∷ T.x_mid ∷ T.x_high ∷ [])

abbrev pub y_taps : Taps → List ℕ
y_taps T = T.h_Y ++ (T.y_low ∷ T.y_high ∷ [])

-- thirteen taps a0 to a12, of which a0 alone is at 0
pub record FirstAtZero (taps : List ℕ) : Type 0 where
  pub count : length taps ≡ 13
  pub first : get_or taps 0 0 ≡ 0
  pub others : All (λ t. 0 < t) (drop 1 taps)

pub record Lawful (T : Taps) : Type 0 where
  pub f : FirstAtZero T.f_taps
  pub g : FirstAtZero T.g_taps
  pub x_above : All (λ t. 0 < t) (x_taps T)
  pub y_above : All (λ t. 0 < t) (y_taps T)
  pub some_half : 0 < T.half

-- every tap, and w more, is within the half
pub record Reach (T : Taps) (w : ℕ) : Type 0 where
  pub f-within : All (λ t. t + w ≤ T.half) T.f_taps
  pub g_within : All (λ t. t + w ≤ T.half) T.g_taps
  pub x_within : All (λ t. t + w ≤ T.half) (x_taps T)
  pub y_within : All (λ t. t + w ≤ T.half) (y_taps T)

-- a shorter reach
pub reach_less : (T : Taps) (v w : ℕ) → v ≤ w → Reach T w → Reach T v
reach_less T v w h R =
    let less : (t : ℕ) → t + w ≤ T.half → t + v ≤ T.half = λ t g. omega arith in
    record {
      f-within = all_map (λ t. t + w ≤ T.half) (λ t. t + v ≤ T.half) less T.f_taps R.f-within;
      g_within = all_map (λ t. t + w ≤ T.half) (λ t. t + v ≤ T.half) less T.g_taps R.g_within;
      x_within = all_map (λ t. t + w ≤ T.half) (λ t. t + v ≤ T.half) less (x_taps T) R.x_within;
      y_within = all_map (λ t. t + w ≤ T.half) (λ t. t + v ≤ T.half) less (y_taps T) R.y_within;
    }

-- ---- the test

-- every element of a list passes a test
unfoldable pub test_all : (ℕ → Bool) → List ℕ → Bool
test_all q [] = true
test_all q (t ∷ ts) = q t && test_all q ts

pub all_tested : (q : ℕ → Bool) (F : ℕ → Type 0) → ((t : ℕ) → T (q t) → F t) → (ts : List ℕ) → T (test_all q ts) → All F ts
unfolding test_all
all_tested q F m [] c = tt
all_tested q F m (t ∷ ts) c =
    let c' = both (q t) (test_all q ts) c in
    (m t c'.0, all_tested q F m ts c'.1)

above : ℕ → Bool
above t = ltb 0 t

within : Taps → ℕ → ℕ → Bool
within A w t = leb (t + w) A.half

-- the tests of lawful taps, then of their reach
tests : Taps → ℕ → List Bool
tests A w =
    eqb (length A.f_taps) 13
    ∷ eqb (length A.g_taps) 13
    ∷ eqb (get_or A.f_taps 0 0) 0
    ∷ eqb (get_or A.g_taps 0 0) 0
    ∷ test_all above (drop 1 A.f_taps)
    ∷ test_all above (drop 1 A.g_taps)
    ∷ test_all above (x_taps A)
    ∷ test_all above (y_taps A)
    ∷ above A.half
    ∷ test_all (within A w) A.f_taps
    ∷ test_all (within A w) A.g_taps
    ∷ test_all (within A w) (x_taps A)
    ∷ test_all (within A w) (y_taps A)
    ∷ []

tested : (A : Taps) (w : ℕ) → T (every (tests A w)) → Lawful A × Reach A w
unfolding tests above within
tested A w t =
    let c = each (tests A w) t in
    let up : (s : ℕ) → T (above s) → 0 < s = λ s q. leb→le 1 s q in
    let fits : (s : ℕ) → T (within A w s) → s + w ≤ A.half = λ s q. leb→le (s + w) A.half q in (
      record {
        f = record {
          count = eqb→eq (length A.f_taps) 13 c.0;
          first = eqb→eq (get_or A.f_taps 0 0) 0 c.1.1.0;
          others = all_tested above (λ s. 0 < s) up (drop 1 A.f_taps) c.1.1.1.1.0;
        };
        g = record {
          count = eqb→eq (length A.g_taps) 13 c.1.0;
          first = eqb→eq (get_or A.g_taps 0 0) 0 c.1.1.1.0;
          others = all_tested above (λ s. 0 < s) up (drop 1 A.g_taps) c.1.1.1.1.1.0;
        };
        x_above = all_tested above (λ s. 0 < s) up (x_taps A) c.1.1.1.1.1.1.0;
        y_above = all_tested above (λ s. 0 < s) up (y_taps A) c.1.1.1.1.1.1.1.0;
        some_half = up A.half c.1.1.1.1.1.1.1.1.0;
      },
      record {
        f-within = all_tested (within A w) (λ s. s + w ≤ A.half) fits A.f_taps c.1.1.1.1.1.1.1.1.1.0;
        g_within = all_tested (within A w) (λ s. s + w ≤ A.half) fits A.g_taps c.1.1.1.1.1.1.1.1.1.1.0;
        x_within = all_tested (within A w) (λ s. s + w ≤ A.half) fits (x_taps A) c.1.1.1.1.1.1.1.1.1.1.1.0;
        y_within = all_tested (within A w) (λ s. s + w ≤ A.half) fits (y_taps A) c.1.1.1.1.1.1.1.1.1.1.1.1.0;
      },
    )

-- ---- the three instances, each at the greatest width that document 01 allows it

pub lawful_U : Lawful U.taps × Reach U.taps 8
unfolding U tests test_all above within
lawful_U = tested U.taps 8 tt

pub lawful_D : Lawful D.taps × Reach D.taps 8
unfolding D tests test_all above within
lawful_D = tested D.taps 8 tt

pub lawful_S : Lawful S.taps × Reach S.taps 16
unfolding S tests test_all above within
lawful_S = tested S.taps 16 tt

-- ---- the greatest widths for which the laws of several steps hold

-- every tap, and w more, is within the half, and no more than w
abbrev pub Greatest : Taps → ℕ → Type 0
Greatest A w = Reach A w × (Reach A (suc w) → ⊥)

-- w is too much for a12 of f
too_wide : (A : Taps) (w : ℕ) → 12 < length A.f_taps → A.half < get_or A.f_taps 12 0 + w → Reach A w → ⊥
too_wide A w long past R =
    let within : get_or A.f_taps 12 0 + w ≤ A.half = all_at (λ t. t + w ≤ A.half) A.f_taps R.f-within 12 long in
    omega (arith, past, within)

-- the highest taps are 59, 79 and 111, each a12 of f
pub greatest_reach : Greatest U.taps 9 × Greatest D.taps 9 × Greatest S.taps 17
unfolding U D S tests test_all above within
greatest_reach = (
  ((tested U.taps 9 tt).1, too_wide U.taps 10 (lit≤ tt) (lit≤ tt)),
  ((tested D.taps 9 tt).1, too_wide D.taps 10 (lit≤ tt) (lit≤ tt)),
  ((tested S.taps 17 tt).1, too_wide S.taps 18 (lit≤ tt) (lit≤ tt)),
)

-- ---- the laws are not about the three instances alone

-- U's taps in halves of 1,000 bits
unfoldable pub wide : Taps
wide = record {
  half = 1000;
  f_taps = U.taps.f_taps;
  g_taps = U.taps.g_taps;
  h_X = U.taps.h_X;
  h_Y = U.taps.h_Y;
  y_low = U.taps.y_low;
  x_low = U.taps.x_low;
  x_mid = U.taps.x_mid;
  x_high = U.taps.x_high;
  y_high = U.taps.y_high;
}

pub lawful_wide : Lawful wide × Reach wide 941
unfolding wide U tests test_all above within
lawful_wide = tested wide 941 tt

-- taps in no order and some of them equal, none that h adds by itself in X, and an odd half
unfoldable pub other : Taps
other = record {
  half = 1001;
  f_taps = 0 ∷ 60 ∷ 59 ∷ 59 ∷ 40 ∷ 33 ∷ 33 ∷ 12 ∷ 7 ∷ 7 ∷ 2 ∷ 1 ∷ 1 ∷ [];
  g_taps = 0 ∷ replicate 12 1;
  h_X = [];
  h_Y = 60 ∷ 1 ∷ 60 ∷ [];
  y_low = 60;
  x_low = 5;
  x_mid = 5;
  x_high = 4;
  y_high = 1;
}

pub lawful_other : Lawful other × Reach other 941
unfolding other tests test_all above within
lawful_other = tested other 941 tt
