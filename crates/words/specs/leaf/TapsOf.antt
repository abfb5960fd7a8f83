-- What the taps of an instance meet, so that groups of its steps are taken and undone in words: the laws of the trait `Quark`, and that U, D
-- and S meet them. They are tests that are computed. Only the contracts of private functions cite these forms.
-- The proofs stand here and not in `proofs/`, since the ghost members of a trait cite them.
use mathlib.Core.Logic.{⊎_elim}
use mathlib.Core.Bool.{Bool}
use mathlib.Core.List.{List, [], ◌∷◌}
use mathlib.Core.Path.{◌≡◌, refl, sym, subst}
use Prim.Native.Nat.{ℕ, zero, suc, ◌+◌, ◌-◌, ◌<◌, ◌≤◌}
use native.Mathlib.Omega.{arith}
use lib.Dec.{ltb, ltb→lt, leb, leb→le, lit<, lit≤}
use lib.ListN.{get_or, drop}
use Rattle.quark.specs.Feedback.{Taps, exchange}
use Rattle.quark.specs.Instance.{U, D, S}
use Rattle.quark.specs.leaf.Places.{put_if, places_from}
use Rattle.quark.proofs.Taps.{All, test_all, all_tested, Lawful, Reach, reach_less, lawful_U, lawful_D, lawful_S}
use Rattle.quark.proofs.Tests.{every, each}
use Rattle.words.specs.declared.back.LowTaps.{LowTaps}
use Rattle.words.specs.declared.taps.Masks.{Masks}
use Rattle.words.specs.declared.taps.MixedTaps.{MixedTaps}
use Rattle.words.specs.leaf.FeedbackWords.{InRegister, linear_taps, Masking, mixed_taps, MixedInRegister}
use Rattle.words.specs.leaf.Groups.{WidthIn}
use Rattle.words.specs.leaf.Solving.{Solvable}
use lib.Dec as dec

-- ---- groups of w steps: each takes w new bits into a register, which keeps the others

pub record Grouping (T : Taps) (w kept : ℕ) : Type 0 where
  pub lawful : Lawful T
  pub reach : Reach T w
  pub few : w ≤ 16
  pub whole : w + kept ≡ T.half

-- ---- every other tap is at w or above, so that it reads none of w new bits

pub record LowTapsOf (T : Taps) (low : LowTaps) (w : ℕ) : Type 0 where
  pub g_low : get_or (exchange T.g_taps) 1 0 ≡ low.g
  pub h_X : T.h_X ≡ 1 ∷ low.x ∷ drop 2 T.h_X
  pub h_Y : T.h_Y ≡ low.y ∷ drop 1 T.h_Y
  pub y_low : T.y_low ≡ low.h
  pub f_others : All (λ t. w ≤ t) (drop 1 T.f_taps)
  pub g_others : All (λ t. w ≤ t) (drop 2 (exchange T.g_taps))
  pub h_X_others : All (λ t. w ≤ t) (drop 2 T.h_X)
  pub h_Y_others : All (λ t. w ≤ t) (drop 1 T.h_Y)
  pub x_low : w ≤ T.x_low
  pub x_mid : w ≤ T.x_mid
  pub x_high : w ≤ T.x_high
  pub y_high : w ≤ T.y_high

tests : Taps → ℕ → List Bool
tests T w =
    test_all (leb w) (drop 1 T.f_taps)
    ∷ test_all (leb w) (drop 2 (exchange T.g_taps))
    ∷ test_all (leb w) (drop 2 T.h_X)
    ∷ test_all (leb w) (drop 1 T.h_Y)
    ∷ leb w T.x_low
    ∷ leb w T.x_mid
    ∷ leb w T.x_high
    ∷ leb w T.y_high
    ∷ []

tested : (T : Taps) (low : LowTaps) (w : ℕ) → get_or (exchange T.g_taps) 1 0 ≡ low.g → T.h_X ≡ 1 ∷ low.x ∷ drop 2 T.h_X
    → T.h_Y ≡ low.y ∷ drop 1 T.h_Y → T.y_low ≡ low.h → dec.T (every (tests T w)) → LowTapsOf T low w
unfolding tests
tested T low w eg ex ey eh t =
    let c = each (tests T w) t in
    let above : (ts : List ℕ) → dec.T (test_all (leb w) ts) → All (λ t. w ≤ t) ts = all_tested (leb w) (λ t. w ≤ t) (leb→le w) in
    record {
      g_low = eg;
      h_X = ex;
      h_Y = ey;
      y_low = eh;
      f_others = above (drop 1 T.f_taps) c.0;
      g_others = above (drop 2 (exchange T.g_taps)) c.1.0;
      h_X_others = above (drop 2 T.h_X) c.1.1.0;
      h_Y_others = above (drop 1 T.h_Y) c.1.1.1.0;
      x_low = leb→le w T.x_low c.1.1.1.1.0;
      x_mid = leb→le w T.x_mid c.1.1.1.1.1.0;
      x_high = leb→le w T.x_high c.1.1.1.1.1.1.0;
      y_high = leb→le w T.y_high c.1.1.1.1.1.1.1.0;
    }

-- ---- the equations can be solved

solvable_tests : LowTaps → ℕ → List Bool
solvable_tests low w =
    ltb 0 low.y
    ∷ leb low.y low.h
    ∷ ltb low.x 64
    ∷ ltb low.h 64
    ∷ ltb low.g 64
    ∷ ltb w 64
    ∷ leb w (low.g + low.x)
    ∷ leb w (low.g + low.y)
    ∷ leb w (low.g + low.g)
    ∷ []

solvable : (low : LowTaps) (w : ℕ) → dec.T (every (solvable_tests low w)) → Solvable low w
unfolding solvable_tests
solvable low w t =
    let c = each (solvable_tests low w) t in
    record {
      above = ltb→lt 0 low.y c.0;
      ordered = leb→le low.y low.h c.1.0;
      inside = (
        ltb→lt low.x 64 c.1.1.0,
        ltb→lt low.h 64 c.1.1.1.0,
        ltb→lt low.g 64 c.1.1.1.1.0,
        ltb→lt w 64 c.1.1.1.1.1.0,
      );
      past_X = leb→le w (low.g + low.x) c.1.1.1.1.1.1.0;
      past_Y = leb→le w (low.g + low.y) c.1.1.1.1.1.1.1.0;
      past_G = leb→le w (low.g + low.g) c.1.1.1.1.1.1.1.1.0;
    }

-- ---- an instance

pub record TapsOf (T : Taps) (half : ℕ) (F G : List ℕ) (H : MixedTaps) (M : Masks) (low : LowTaps) : Type 0 where
  pub half_is : half ≡ T.half
  pub sized : (64 < half) × (half ≤ 128)
  pub F_is : F ≡ T.f_taps
  pub G_is : G ≡ exchange T.g_taps
  pub H_is : H ≡ mixed_taps T
  pub F_inside : InRegister F
  pub G_inside : InRegister G
  pub H_inside : MixedInRegister H
  pub masking : Masking T M
  pub grouping : (w : ℕ) → WidthIn T w → Grouping T w (half - w)
  pub lows : (w : ℕ) → WidthIn T w → LowTapsOf T low w
  pub solvable : (w : ℕ) → WidthIn T w → Solvable low w

all_places : (taps : List ℕ) → All (λ t. t < 128) taps → InRegister taps
all_places [] a k = lit< tt
all_places (t ∷ ts) a zero = a.0
all_places (t ∷ ts) a (suc k) = all_places ts a.1 k

-- every tap of a list is a place of a register
inside : (taps : List ℕ) → dec.T (test_all (λ t. ltb t 128) taps) → InRegister taps
unfolding test_all
inside taps t = all_places taps (all_tested (λ t. ltb t 128) (λ t. t < 128) (λ t. ltb→lt t 128) taps t)

-- what is shown at the width 8 alone, or at 8 and at 16
eight : (T : Taps) (P : ℕ → Type 0) → (T.half ≡ 128 → ⊥) → P 8 → (w : ℕ) → WidthIn T w → P w
eight T P narrow shown w = ⊎_elim (λ e. subst P (sym e) shown) (λ e. absurd (narrow e.0))

both_widths : (T : Taps) (P : ℕ → Type 0) → P 8 → P 16 → (w : ℕ) → WidthIn T w → P w
both_widths T P at-8 at-16 w = ⊎_elim (λ e. subst P (sym e) at-8) (λ e. subst P (sym e.1) at-16)

-- ---- U

abbrev pub f_U : List ℕ
f_U = 0 ∷ 9 ∷ 14 ∷ 15 ∷ 21 ∷ 28 ∷ 33 ∷ 37 ∷ 45 ∷ 50 ∷ 52 ∷ 55 ∷ 59 ∷ []

abbrev pub g_U : List ℕ
g_U = 0 ∷ 7 ∷ 16 ∷ 15 ∷ 20 ∷ 30 ∷ 35 ∷ 37 ∷ 42 ∷ 49 ∷ 51 ∷ 54 ∷ 58 ∷ []

abbrev pub mixed_U : MixedTaps
mixed_U = record { y_low = 3; x_low = 25; x_mid = 46; x_high = 55; y_high = 59 }

abbrev pub masks_U : Masks
masks_U = record { f = record { hi = 0; lo = 0x94_2022_1020_4201 }; g = record { hi = 0; lo = 0x4a_0428_4011_0081 } }

abbrev pub low_U : LowTaps
low_U = record { x = 4; y = 2; h = 3; g = 7 }

not_128_U : U.taps.half ≡ 128 → ⊥
unfolding U
not_128_U e = omega arith

-- its width is 8
pub eight_U : (w : ℕ) → WidthIn U.taps w → w ≡ 8
eight_U w = ⊎_elim (λ e. e) (λ e. absurd (not_128_U e.0))

grouping_U : Grouping U.taps 8 (68 - 8)
unfolding U
grouping_U = record { lawful = lawful_U.0; reach = lawful_U.1; few = lit≤ tt; whole = refl }

low_taps_U : LowTapsOf U.taps low_U 8
unfolding U exchange tests test_all
low_taps_U = tested U.taps low_U 8 refl refl refl refl tt

solvable_U : Solvable low_U 8
unfolding solvable_tests
solvable_U = solvable low_U 8 tt

masking_U : Masking U.taps masks_U
unfolding U places_from put_if linear_taps exchange
masking_U = record { f_places = refl; g_places = refl; f_narrow = lit< tt; g_narrow = lit< tt }

pub taps_of_U : TapsOf U.taps 68 f_U g_U mixed_U masks_U low_U
unfolding U exchange mixed_taps test_all
taps_of_U = record {
  half_is = refl;
  sized = (lit< tt, lit≤ tt);
  F_is = refl;
  G_is = refl;
  H_is = refl;
  F_inside = inside f_U tt;
  G_inside = inside g_U tt;
  H_inside = record { y_low = lit< tt; x_low = lit< tt; x_mid = lit< tt; x_high = lit< tt; y_high = lit< tt };
  masking = masking_U;
  grouping = eight U.taps (λ w. Grouping U.taps w (68 - w)) not_128_U grouping_U;
  lows = eight U.taps (LowTapsOf U.taps low_U) not_128_U low_taps_U;
  solvable = eight U.taps (Solvable low_U) not_128_U solvable_U;
}

-- ---- D

abbrev pub f_D : List ℕ
f_D = 0 ∷ 11 ∷ 18 ∷ 19 ∷ 27 ∷ 36 ∷ 42 ∷ 47 ∷ 58 ∷ 64 ∷ 67 ∷ 71 ∷ 79 ∷ []

abbrev pub g_D : List ℕ
g_D = 0 ∷ 9 ∷ 20 ∷ 19 ∷ 25 ∷ 38 ∷ 44 ∷ 47 ∷ 54 ∷ 63 ∷ 67 ∷ 69 ∷ 78 ∷ []

abbrev pub mixed_D : MixedTaps
mixed_D = record { y_low = 4; x_low = 35; x_mid = 57; x_high = 68; y_high = 79 }

abbrev pub masks_D : Masks
masks_D = record { f = record { hi = 0x89; lo = 0x400_8410_0804_0801 }; g = record { hi = 0x28; lo = 0x8040_9040_0210_0201 } }

abbrev pub low_D : LowTaps
low_D = record { x = 5; y = 2; h = 4; g = 9 }

not_128_D : D.taps.half ≡ 128 → ⊥
unfolding D
not_128_D e = omega arith

-- its width is 8
pub eight_D : (w : ℕ) → WidthIn D.taps w → w ≡ 8
eight_D w = ⊎_elim (λ e. e) (λ e. absurd (not_128_D e.0))

grouping_D : Grouping D.taps 8 (88 - 8)
unfolding D
grouping_D = record { lawful = lawful_D.0; reach = lawful_D.1; few = lit≤ tt; whole = refl }

low_taps_D : LowTapsOf D.taps low_D 8
unfolding D exchange tests test_all
low_taps_D = tested D.taps low_D 8 refl refl refl refl tt

solvable_D : Solvable low_D 8
unfolding solvable_tests
solvable_D = solvable low_D 8 tt

masking_D : Masking D.taps masks_D
unfolding D places_from put_if linear_taps exchange
masking_D = record { f_places = refl; g_places = refl; f_narrow = lit< tt; g_narrow = lit< tt }

pub taps_of_D : TapsOf D.taps 88 f_D g_D mixed_D masks_D low_D
unfolding D exchange mixed_taps test_all
taps_of_D = record {
  half_is = refl;
  sized = (lit< tt, lit≤ tt);
  F_is = refl;
  G_is = refl;
  H_is = refl;
  F_inside = inside f_D tt;
  G_inside = inside g_D tt;
  H_inside = record { y_low = lit< tt; x_low = lit< tt; x_mid = lit< tt; x_high = lit< tt; y_high = lit< tt };
  masking = masking_D;
  grouping = eight D.taps (λ w. Grouping D.taps w (88 - w)) not_128_D grouping_D;
  lows = eight D.taps (LowTapsOf D.taps low_D) not_128_D low_taps_D;
  solvable = eight D.taps (Solvable low_D) not_128_D solvable_D;
}

-- ---- S

abbrev pub f_S : List ℕ
f_S = 0 ∷ 16 ∷ 26 ∷ 28 ∷ 39 ∷ 52 ∷ 61 ∷ 69 ∷ 84 ∷ 94 ∷ 97 ∷ 103 ∷ 111 ∷ []

abbrev pub g_S : List ℕ
g_S = 0 ∷ 13 ∷ 30 ∷ 28 ∷ 37 ∷ 56 ∷ 65 ∷ 69 ∷ 79 ∷ 92 ∷ 96 ∷ 101 ∷ 109 ∷ []

abbrev pub mixed_S : MixedTaps
mixed_S = record { y_low = 8; x_low = 47; x_mid = 72; x_high = 100; y_high = 111 }

abbrev pub masks_S : Masks
masks_S = record { f = record { hi = 0x82_4010_0020; lo = 0x2010_0080_0401_0001 }; g = record { hi = 0x21_1000_8022; lo = 0x100_0020_4000_2001 } }

abbrev pub low_S : LowTaps
low_S = record { x = 7; y = 3; h = 8; g = 13 }

grouping_S_8 : Grouping S.taps 8 (128 - 8)
unfolding S
grouping_S_8 = record { lawful = lawful_S.0; reach = reach_less S.taps 8 16 (lit≤ tt) lawful_S.1; few = lit≤ tt; whole = refl }

grouping_S_16 : Grouping S.taps 16 (128 - 16)
unfolding S
grouping_S_16 = record { lawful = lawful_S.0; reach = lawful_S.1; few = lit≤ tt; whole = refl }

low_taps_S_8 : LowTapsOf S.taps low_S 8
unfolding S exchange tests test_all
low_taps_S_8 = tested S.taps low_S 8 refl refl refl refl tt

low_taps_S_16 : LowTapsOf S.taps low_S 16
unfolding S exchange tests test_all
low_taps_S_16 = tested S.taps low_S 16 refl refl refl refl tt

solvable_S_8 : Solvable low_S 8
unfolding solvable_tests
solvable_S_8 = solvable low_S 8 tt

solvable_S_16 : Solvable low_S 16
unfolding solvable_tests
solvable_S_16 = solvable low_S 16 tt

masking_S : Masking S.taps masks_S
unfolding S places_from put_if linear_taps exchange
masking_S = record { f_places = refl; g_places = refl; f_narrow = lit< tt; g_narrow = lit< tt }

pub taps_of_S : TapsOf S.taps 128 f_S g_S mixed_S masks_S low_S
unfolding S exchange mixed_taps test_all
taps_of_S = record {
  half_is = refl;
  sized = (lit< tt, lit≤ tt);
  F_is = refl;
  G_is = refl;
  H_is = refl;
  F_inside = inside f_S tt;
  G_inside = inside g_S tt;
  H_inside = record { y_low = lit< tt; x_low = lit< tt; x_mid = lit< tt; x_high = lit< tt; y_high = lit< tt };
  masking = masking_S;
  grouping = both_widths S.taps (λ w. Grouping S.taps w (128 - w)) grouping_S_8 grouping_S_16;
  lows = both_widths S.taps (LowTapsOf S.taps low_S) low_taps_S_8 low_taps_S_16;
  solvable = both_widths S.taps (Solvable low_S) solvable_S_8 solvable_S_16;
}
