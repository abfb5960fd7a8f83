-- What the stepping cores leave in the 256 cells of the serial form, of which the first b hold X, then Y. Only the contracts of private
-- functions cite these forms. L is a number with bit i at weight 2 ^ i.
use Rattle.std.specs.Prelude.{◌≡◌, ℕ, ◌<◌, Bool, cond, List, length, take, drop}
use Rattle.quark.specs.Bytes.{bits_of}
use Rattle.quark.specs.Feedback.{Taps}
use Rattle.quark.specs.Step.{Registers, steps, steps_L, loaded, stored, P}
use Rattle.quark.specs.Inverse.{undo_steps, undo_P}
use Rattle.quark.specs.Instance.{Instance, instance_of}
use Rattle.quark.specs.Word.{word_bits}
use Rattle.permutation.specs.declared.cells.RegisterCells.{RegisterCells}
use Rattle.permutation.specs.Permute.{on_bytes}

-- the registers after `count` steps from the state s and L's value l; in the inverse direction, those from before `count` steps that
-- lead to s, where L began at l
unfoldable pub registers_reached : (inverse : Bool) → Taps → (l count : ℕ) → List ℕ → Registers
registers_reached inverse T l count s =
    cond inverse (undo_steps T count (loaded T s (steps_L count (word_bits 10 l)))) (steps T count (loaded T s (word_bits 10 l)))

-- X and Y in the first b cells, and L's value l
unfoldable pub registers : Instance → List ℕ → ℕ → Registers
registers I cells l = loaded I.taps (take I.b cells) (word_bits 10 l)

-- the registers in the cells
abbrev pub held : Instance → RegisterCells → Registers
held I c = registers I c.bits c.l.value

-- the cells hold the registers s, and those from b on are as they were
pub record CellsHold (I : Instance) (s : Registers) (before after : RegisterCells) : Type 0 where
  pub holds : held I after ≡ s
  pub rest : drop I.b after.bits ≡ drop I.b before.bits
  pub full : length after.bits ≡ 256

-- the cells after `count` steps, or from before them
abbrev pub CellsReached : (inverse : Bool) → Instance → (count : ℕ) → (before after : RegisterCells) → Type 0
CellsReached inverse I count before after =
    CellsHold I (registers_reached inverse I.taps before.l.value count (take I.b before.bits)) before after

-- a buffer and L's value after `count` steps from L's value l, or from before them
pub record BufferReached (inverse : Bool) (instance l count : ℕ) (before after : List ℕ) (l-reached : ℕ) : Type 0 where
  pub bytes : after ≡ on_bytes (λ T s. stored (registers_reached inverse T l count s)) instance before
  pub small : l-reached < 1024
  pub holds-L : word_bits 10 l-reached ≡ (registers_reached inverse (instance_of instance).taps l count (bits_of (instance_of instance).b before)).L

-- P, or in the inverse direction its inverse
abbrev pub permuted : (inverse : Bool) → Taps → List ℕ → List ℕ
permuted inverse T s = cond inverse (undo_P T s) (P T s)
