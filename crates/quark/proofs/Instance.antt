-- The three instances are regular: their taps are lawful, a state is two halves, and the initial bits are b bits. That a state is also whole
-- bytes, at most 32, is apart from that: no law of the definition's sponge needs it.
use mathlib.Core.Bool.{Bool, true, false, cond}
use mathlib.Core.List.{List, [], ◌∷◌}
use mathlib.Core.Path.{◌≡◌, refl, sym, subst}
use Prim.Native.Nat.{ℕ, ◌*◌, ◌/◌, ◌<◌, ◌≤◌}
use lib.Dec.{T, leb, ltb, eqb, leb→le, eqb→eq, lit≤}
use Rattle.quark.specs.Step.{P}
use Rattle.quark.specs.Inverse.{undo_P}
use Rattle.quark.specs.Instance.{Instance, U, D, S, instance_of}
use Rattle.quark.proofs.Bits.{Wide}
use Rattle.quark.proofs.Bytes.{wide_bits_of}
use Rattle.quark.proofs.Inverse.{wide_P, undo_P_lem, redo_P}
use Rattle.quark.proofs.Taps.{Lawful, lawful_U, lawful_D, lawful_S}
use Rattle.quark.proofs.Tests.{every, each}

pub record Regular (I : Instance) : Type 0 where
  pub lawful : Lawful I.taps
  pub two_halves : I.b ≡ 2 * I.taps.half
  pub some_rate : 0 < I.r
  pub rate_fits : I.r ≤ I.b
  pub some_output : 0 < I.n / I.r
  pub wide_initial : Wide I.b I.initial

-- the byte form of a state: whole bytes, at most 32
pub record InBytes (I : Instance) : Type 0 where
  pub whole-bytes : I.b ≡ 8 * (I.b / 8)
  pub at-most_256 : I.b ≤ 256

tests : Instance → List Bool
tests I =
    eqb I.b (2 * I.taps.half)
    ∷ ltb 0 I.r
    ∷ leb I.r I.b
    ∷ ltb 0 (I.n / I.r)
    ∷ []

tested : (I : Instance) → Lawful I.taps → Wide I.b I.initial → T (every (tests I)) → Regular I
unfolding tests
tested I lawful wide t =
    let c = each (tests I) t in
    record {
      lawful = lawful;
      two_halves = eqb→eq I.b (2 * I.taps.half) c.0;
      some_rate = leb→le 1 I.r c.1.0;
      rate_fits = leb→le I.r I.b c.1.1.0;
      some_output = leb→le 1 (I.n / I.r) c.1.1.1.0;
      wide_initial = wide;
    }

regular_U : Regular U
unfolding U tests
regular_U = tested U lawful_U.0 (wide_bits_of 136 _) tt

regular_D : Regular D
unfolding D tests
regular_D = tested D lawful_D.0 (wide_bits_of 176 _) tt

regular_S : Regular S
unfolding S tests
regular_S = tested S lawful_S.0 (wide_bits_of 256 _) tt

-- a fact of U, of D and of S is a fact of the instance of every number
pub of_each {ℓ} : (F : Instance → Type ℓ) → F U → F D → F S → (i : ℕ) → F (instance_of i)
unfolding instance_of
of_each F u d s i = first (eqb i 1) (eqb i 2)
  where
    first : (one two : Bool) → F (cond one U (cond two D S))
    first true two = u
    first false true = d
    first false false = s

pub regular : (i : ℕ) → Regular (instance_of i)
regular = of_each Regular regular_U regular_D regular_S

pub in_bytes : (i : ℕ) → InBytes (instance_of i)
unfolding U D S
in_bytes =
    of_each InBytes (record { whole-bytes = refl; at-most_256 = lit≤ tt }) (record { whole-bytes = refl; at-most_256 = lit≤ tt })
    (record { whole-bytes = refl; at-most_256 = lit≤ tt })

-- P and its inverse, on the b bits of a regular instance
module _ (I : Instance) (R : Regular I) (s : List ℕ) (w : Wide I.b s) where
  halves : Wide (2 * I.taps.half) s
  halves = subst (λ (b : ℕ). Wide b s) R.two_halves w

  pub P-wide : Wide I.b (P I.taps s)
  P-wide = subst (λ (b : ℕ). Wide b (P I.taps s)) (sym R.two_halves) (wide_P I.taps R.lawful s halves)

  pub undo_P-P : undo_P I.taps (P I.taps s) ≡ s
  undo_P-P = undo_P_lem I.taps R.lawful s halves

  pub P-undo_P : P I.taps (undo_P I.taps s) ≡ s
  P-undo_P = redo_P I.taps R.lawful s halves
