-- What the steps of an operation make of a state. Only the contracts of private functions cite these forms.
use Rattle.std.specs.Prelude.{List, ℕ, ◌-◌, ◌*◌, ◌/◌, drop}
use Rattle.quark.specs.Instance.{instance_of}
use Rattle.quark.specs.Bytes.{bytes_of}
use Rattle.quark.specs.Sponge.{Counted, run_P, squeezed, output}
use Rattle.sponge.specs.declared.State.{State}
use Rattle.sponge.specs.Taking.{holding, bit_index, add_bit, take_bit, take_bits}
use Rattle.sponge.specs.Soundness.{content_of, state_with}

-- a state with other bits and runs
unfoldable pub with_sponge : State → Counted → State
with_sponge s sponge = state_with s.instance s.phase (holding (content_of s) sponge)

-- a bit is added where the next bit goes
abbrev pub with_bit : State → (bit : ℕ) → State
with_bit s x = with_sponge s (add_bit (instance_of s.instance) (bit_index (instance_of s.instance) s.total) x (content_of s).sponge)

-- P has run
abbrev pub after_P : State → State
after_P s = with_sponge s (run_P (instance_of s.instance) (content_of s).sponge)

-- a bit is taken, and some bits
abbrev pub after_bit : State → (bit : ℕ) → State
after_bit s x = state_with s.instance s.phase (take_bit (instance_of s.instance) (content_of s) x)

abbrev pub after_bits : State → (bits : List ℕ) → State
after_bits s xs = state_with s.instance s.phase (take_bits (instance_of s.instance) (content_of s) xs)

-- the bytes of a block, and a state's last r bits as bytes
abbrev pub block_bytes : State → ℕ
block_bytes s = (instance_of s.instance).r / 8

abbrev pub last_block : State → List ℕ
last_block s = bytes_of (block_bytes s) (drop ((instance_of s.instance).b - (instance_of s.instance).r) (content_of s).sponge.bits)

-- k blocks are given out, with a run of P before each: the state, and the blocks
abbrev pub after_blocks : State → (k : ℕ) → State
after_blocks s k = with_sponge s (squeezed (instance_of s.instance) k (content_of s).sponge)

abbrev pub blocks : State → (k : ℕ) → List ℕ
blocks s k = bytes_of (k * block_bytes s) (output (instance_of s.instance) k (run_P (instance_of s.instance) (content_of s).sponge))
