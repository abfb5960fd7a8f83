-- The taps that the serial form reads: all below the half.
use Rattle.std.specs.Prelude.{ℕ, ◌+◌, ◌<◌, ◌≤◌, [], ◌∷◌, length, get_or}
use native.Mathlib.Omega.{arith}
use Rattle.quark.specs.Feedback.{Taps, exchange}
use Rattle.quark.specs.Instance as quark
use Rattle.quark.specs.Instance.{instance_of}
use Rattle.quark.proofs.Taps.{all_at, all_left, all_right, Lawful, Reach, reach_less, lawful_U, lawful_D, lawful_S}
use Rattle.quark.proofs.Feedback.{all_exchange, first-at_zero}
use Rattle.quark.proofs.Instance.{of_each, regular}
use Rattle.words.specs.Instances.{named}
use Rattle.words.specs.declared.instances.Instance.{Instance}
use Rattle.words.specs.declared.instances.Instance.TheVariants.{U, D, S}

-- every tap that the code reads is below the half
pub record Below (T : Taps) : Type 0 where
  pub f-taps : (k : ℕ) → k < 13 → get_or T.f_taps k 0 < T.half
  pub g-taps : (k : ℕ) → k < 13 → get_or (exchange T.g_taps) k 0 < T.half
  pub h-x : (k : ℕ) → k < length T.h_X → get_or T.h_X k 0 < T.half
  pub h-y : (k : ℕ) → k < length T.h_Y → get_or T.h_Y k 0 < T.half
  pub low_y : T.y_low < T.half
  pub low_x : T.x_low < T.half
  pub mid_x : T.x_mid < T.half
  pub high_x : T.x_high < T.half
  pub high_y : T.y_high < T.half

taps-below : (T : Taps) → Lawful T → Reach T 1 → Below T
taps-below T W R =
    let F : ℕ → Type 0 = λ t. t + 1 ≤ T.half in
    let less : (t : ℕ) → F t → t < T.half = λ t p. omega arith in
    let x-products = all_right F T.h_X (T.x_low ∷ T.x_mid ∷ T.x_high ∷ []) R.x_within in
    let y-products = all_right F T.h_Y (T.y_low ∷ T.y_high ∷ []) R.y_within in
    record {
      f-taps = λ k p. less _ (all_at F T.f_taps R.f-within k (rw W.f.count p));
      g-taps = λ k p.
          less _ (all_at F (exchange T.g_taps) (all_exchange F T.g_taps W.g.count R.g_within) k (rw (first-at_zero T.g_taps W.g).count p));
      h-x = λ k p. less _ (all_at F T.h_X (all_left F T.h_X (T.x_low ∷ T.x_mid ∷ T.x_high ∷ []) R.x_within) k p);
      h-y = λ k p. less _ (all_at F T.h_Y (all_left F T.h_Y (T.y_low ∷ T.y_high ∷ []) R.y_within) k p);
      low_y = less _ y-products.0;
      low_x = less _ x-products.0;
      mid_x = less _ x-products.1.0;
      high_x = less _ x-products.1.1.0;
      high_y = less _ y-products.1.0;
    }

reach : (i : ℕ) → Reach (instance_of i).taps 1
reach =
    of_each (λ I. Reach I.taps 1) (reach_less quark.U.taps 1 8 (omega arith) lawful_U.1) (reach_less quark.D.taps 1 8 (omega arith) lawful_D.1)
    (reach_less quark.S.taps 1 16 (omega arith) lawful_S.1)

-- what holds for each number holds for each name
pub by_name : (P : quark.Instance → Type 0) → ((i : ℕ) → P (instance_of i)) → (n : Instance) → P (named n)
unfolding named instance_of
by_name P e U = e 1
by_name P e D = e 2
by_name P e S = e 3

pub below : (n : Instance) → Below (named n).taps
below = by_name (λ I. Below I.taps) (λ i. taps-below (instance_of i).taps (regular i).lawful (reach i))
