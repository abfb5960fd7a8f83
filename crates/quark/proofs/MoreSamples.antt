-- More facts about the definition, by computation: those that the starred samples don't see.
use mathlib.Core.List.{[], ◌∷◌}
use mathlib.Core.Path.{◌≡◌, refl}
use Prim.Native.Nat.{◌*◌, ◌/◌}
use lib.ListN.{take, replicate, set}
use Rattle.quark.specs.Bytes.{tabulate, bit_at, bits_of, byte_at, bytes_of}
use Rattle.quark.specs.Feedback.{g, feedback, exchange}
use Rattle.quark.specs.Step.{rounds}
use Rattle.quark.specs.Instance.{U, D, S}
use Rattle.quark.specs.Sponge.{sum, pad, add_last, squeezed, output}
use Rattle.quark.proofs.Samples.{only, only_two}

pub more :
    -- U, g with only Y16: 1; only Y15: 0; Y7 and Y15: 0
    (g U.taps (only U 16) ≡ 1) × (g U.taps (only U 15) ≡ 0) × (g U.taps (only_two U 7 15) ≡ 0)
    -- D, with Y20, Y19, and Y9 and Y19
    × (g D.taps (only D 20) ≡ 1) × (g D.taps (only D 19) ≡ 0) × (g D.taps (only_two D 9 19) ≡ 0)
    -- S, with Y30, Y28, and Y13 and Y28
    × (g S.taps (only S 30) ≡ 1) × (g S.taps (only S 28) ≡ 0) × (g S.taps (only_two S 13 28) ≡ 0)
    -- Appendix A's own example: U's initial state begins 1101
    × (take 4 U.initial ≡ 1 ∷ 1 ∷ 0 ∷ 1 ∷ [])
    -- the byte form there and back
    × (bits_of 16 (0xD8 ∷ 0x01 ∷ []) ≡ 1 ∷ 1 ∷ 0 ∷ 1 ∷ 1 ∷ 0 ∷ 0 ∷ 0 ∷ 0 ∷ 0 ∷ 0 ∷ 0 ∷ 0 ∷ 0 ∷ 0 ∷ 1 ∷ [])
    × (bytes_of 2 (bits_of 16 (0xD8 ∷ 0x01 ∷ [])) ≡ 0xD8 ∷ 0x01 ∷ [])
    × (bits_of 136 (bytes_of 17 U.initial) ≡ U.initial)
    -- the table: steps 4b, n/r
    × (rounds U.taps ≡ 4 * U.b) × (4 * U.b ≡ 544) × (U.n / U.r ≡ 17)
    × (rounds D.taps ≡ 4 * D.b) × (4 * D.b ≡ 704) × (D.n / D.r ≡ 11)
    × (rounds S.taps ≡ 4 * S.b) × (4 * S.b ≡ 1024) × (S.n / S.r ≡ 8)
    -- the padded forms of no bits, of seven bits and of a full block of U
    × (pad U [] ≡ 1 ∷ 0 ∷ 0 ∷ 0 ∷ 0 ∷ 0 ∷ 0 ∷ 0 ∷ [])
    × (pad U (replicate 7 0) ≡ 0 ∷ 0 ∷ 0 ∷ 0 ∷ 0 ∷ 0 ∷ 0 ∷ 1 ∷ [])
    × (pad U (replicate 8 0) ≡ 0 ∷ 0 ∷ 0 ∷ 0 ∷ 0 ∷ 0 ∷ 0 ∷ 0 ∷ 1 ∷ 0 ∷ 0 ∷ 0 ∷ 0 ∷ 0 ∷ 0 ∷ 0 ∷ [])
    -- bits are added from place b - r of a state on, and given out from there
    × (add_last U (replicate 136 0) (1 ∷ 1 ∷ []) ≡ set (set (replicate 136 0) 128 1) 129 1)
    × (output U 1 (record { bits = set (replicate 136 0) 128 1; runs = 0 }) ≡ 1 ∷ replicate 7 0)
unfolding g feedback exchange tabulate bit_at bits_of byte_at bytes_of rounds U D S pad sum add_last squeezed output
more = (
  refl,
  refl,
  refl,
  refl,
  refl,
  refl,
  refl,
  refl,
  refl,
  refl,
  refl,
  refl,
  refl,
  refl,
  refl,
  refl,
  refl,
  refl,
  refl,
  refl,
  refl,
  refl,
  refl,
  refl,
  refl,
  refl,
  refl,
)
