-- Sound states and fresh states (document 01, "Pieces and finish"; document 02, 2.1).
use Rattle.std.specs.Prelude.{Bool, true, ◌&&◌, ◌||◌, cond, List, [], ◌∷◌, ℕ, ◌+◌, ◌/◌, leb, eqb, drop, replicate}
use Rattle.quark.specs.Bytes.{bits_of, bytes_of}
use Rattle.quark.specs.Instance.{Instance, instance_of, state_bytes}
use Rattle.sponge.specs.declared.State.{State}
use Rattle.sponge.specs.Taking.{Content}

-- the greatest total of bits
abbrev pub limit : ℕ
limit = 16777215

-- the greatest number of extra blocks of a closed state, and the greatest in one call
abbrev pub extra_limit : ℕ
extra_limit = 1048576

abbrev pub most_blocks : ℕ
most_blocks = 1024

-- the phases
abbrev pub absorbing_phase : ℕ
absorbing_phase = 0

abbrev pub closed_phase : ℕ
closed_phase = 1

-- every byte is zero; so it is where there is none
unfoldable pub all_zero : List ℕ → Bool
all_zero [] = true
all_zero (x ∷ xs) = eqb x 0 && all_zero xs

-- the runs of a sound state: total div r, and where it is closed n/r more for the digest and one for each extra block
unfoldable pub sound_runs : Instance → (phase total extra : ℕ) → ℕ
sound_runs I phase total extra = cond (eqb phase absorbing_phase) (total / I.r) (total / I.r + I.n / I.r + extra)

-- the most extra blocks that a sound state has: none while it is absorbing
unfoldable pub most_extra : (phase : ℕ) → ℕ
most_extra phase = cond (eqb phase absorbing_phase) 0 extra_limit

-- nothing but zeros after the first b/8 bytes
abbrev pub rest_zero : State → Bool
rest_zero s = all_zero (drop (state_bytes s.instance) s.bits)

-- sound: the total and the extra blocks are within their limits, only zeros stand after the first b/8 bytes, the runs are those of phase, total
-- and extra blocks, and the phase is one of the two
unfoldable pub sound : State → Bool
sound s =
    leb s.total limit && leb s.extra (most_extra s.phase) && rest_zero s
    && eqb s.runs (sound_runs (instance_of s.instance) s.phase s.total s.extra)
    && (eqb s.phase absorbing_phase || eqb s.phase closed_phase)

-- what a state holds
unfoldable pub content_of : State → Content
content_of s = record { total = s.total; extra = s.extra; sponge = record { bits = bits_of (instance_of s.instance).b s.bits; runs = s.runs } }

-- the state of an instance with a phase and this content: 32 bytes, of which those after the first b/8 are zero
unfoldable pub state_with : (i phase : ℕ) → Content → State
state_with i phase h = record {
  instance = i;
  phase = phase;
  total = h.total;
  runs = h.sponge.runs;
  extra = h.extra;
  bits = bytes_of 32 h.sponge.bits;
}

-- the fresh state: no bit taken, no run made, no extra block given out, and the initial bits
unfoldable pub fresh : ℕ → State
fresh i = state_with i absorbing_phase (record { total = 0; extra = 0; sponge = record { bits = (instance_of i).initial; runs = 0 } })

-- what comes back where the instance is refused
abbrev pub all_zeros : State
all_zeros = record { instance = 0; phase = 0; total = 0; runs = 0; extra = 0; bits = replicate 32 0 }
