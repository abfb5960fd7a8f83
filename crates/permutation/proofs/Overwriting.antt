-- The cells on the way from a buffer through the stepping cores and back: the bytes that are stored are those of the registers reached. After
-- all steps of P they are P's, or its inverse's.
use Rattle.std.specs.Prelude.{◌≡◌, ℕ, ◌-◌, ◌*◌, ◌≤◌, Bool, true, false, cond, List, ◌++◌, length, take, drop, replicate}
use mathlib.Core.Path.{refl, sym, ap, ap₂, ◌∙◌, subst}
use native.Mathlib.Omega.{arith}
use lib.ListN.{take-append-drop}
use lib.Seq.{length-take-le, take_at}
use Rattle.std.proofs.lemmas.List.{drop-replicate}
use Rattle.quark.specs.Bytes.{bits_of, bytes_of}
use Rattle.quark.specs.Feedback.{Taps}
use Rattle.quark.specs.Step.{Registers, steps, steps_L, all_ones, loaded, stored, rounds, P}
use Rattle.quark.specs.Inverse.{undo_steps, undo_P}
use Rattle.quark.specs.Instance.{instance_of, state_bytes}
use Rattle.quark.specs.Word.{word_bits}
use Rattle.quark.proofs.Bits.{Wide, bits_at, bits-append, bits-replicate}
use Rattle.quark.proofs.Bytes.{bytes-front, wide_bits_of}
use Rattle.quark.proofs.Instance.{in_bytes, regular}
use Rattle.quark.proofs.Inverse.{stored_loaded}
use Rattle.permutation.specs.Permute.{on_bytes}
use Rattle.permutation.specs.Steps.{value_of_L, registers_after, registers_before}
use Rattle.permutation.specs.leaf.Cells.{Cells}
use Rattle.permutation.specs.leaf.Core.{registers_reached, registers, CellsReached, BufferReached, permuted}
use Rattle.permutation.specs.declared.cells.RegisterCells.{RegisterCells}
use Rattle.permutation.proofs.RegisterL.{start-bits}

-- 4b steps from all ones: P and its inverse
all_rounds : (inverse : Bool) (T : Taps) (s : List ℕ) → stored (registers_reached inverse T 1023 (rounds T) s) ≡ permuted inverse T s
unfolding registers_reached P undo_P all_ones word_bits
all_rounds true T s = refl
all_rounds false T s = refl

-- steps from a start value, whose bit 0 has weight 512
start-reached : (inverse : Bool) (T : Taps) (l start count : ℕ) (s : List ℕ) → start ≡ value_of_L (word_bits 10 l)
    → registers_reached inverse T start count s ≡ cond inverse registers_before registers_after l count T s
unfolding registers_reached registers_before registers_after
start-reached true T l start count s e = ap (λ (q : List ℕ). undo_steps T count (loaded T s (steps_L count q))) (ap (word_bits 10) e ∙ start-bits l)
start-reached false T l start count s e = ap (λ (q : List ℕ). steps T count (loaded T s q)) (ap (word_bits 10) e ∙ start-bits l)

-- bits, and zeros after them
cells_of : (n z : ℕ) (s : List ℕ) → Wide n s → Cells (s ++ replicate z 0)
cells_of n z s w = bits_at (bits-append w.1 (bits-replicate z (omega arith)))

-- a buffer of a state's length, loaded
module _ (i : ℕ) (bytes : List ℕ) (n : length bytes ≡ state_bytes i) where
  abbrev cells : List ℕ
  cells = bits_of (8 * length bytes) bytes ++ drop (8 * length bytes) (replicate 256 0)

  width : 8 * length bytes ≡ (instance_of i).b
  unfolding state_bytes
  width = ap (λ (k : ℕ). 8 * k) n ∙ sym (in_bytes i).whole-bytes

  pub load_fits : 8 * length bytes ≤ 256
  load_fits = omega (arith, width, (in_bytes i).at-most_256)

  loaded-cells : Cells cells
  loaded-cells =
      let n = 8 * length bytes in
      subst (λ (rest : List ℕ). Cells (bits_of n bytes ++ rest)) (sym (drop-replicate n 256 0)) (cells_of n (256 - n) (bits_of n bytes) (wide_bits_of n bytes))

  -- its bits stand in the first b cells
  first-cells : take (instance_of i).b cells ≡ bits_of (instance_of i).b bytes
  first-cells =
      let s = bits_of (8 * length bytes) bytes in
      let z : List ℕ = drop (8 * length bytes) (replicate 256 0) in
      take_at s z (instance_of i).b ((wide_bits_of (8 * length bytes) bytes).0 ∙ width) ∙ ap (λ (k : ℕ). bits_of k bytes) width

  -- the cells after loading
  pub load_cells : (before : List ℕ) → before ≡ cells → Cells before
  load_cells before e = subst Cells (sym e) loaded-cells

  -- the buffer once the cells that were reached are stored
  module _ (before after : RegisterCells) (e : before.bits ≡ cells) (inverse : Bool) (count : ℕ)
      (reached : CellsReached inverse (instance_of i) count before after) where
    front_cells : take (instance_of i).b before.bits ≡ bits_of (instance_of i).b bytes
    front_cells = ap (take (instance_of i).b) e ∙ first-cells

    registers-reached : registers (instance_of i) after.bits after.l.value ≡ registers_reached inverse (instance_of i).taps before.l.value count (bits_of (instance_of i).b bytes)
    registers-reached = reached.holds ∙ ap (registers_reached inverse (instance_of i).taps before.l.value count) front_cells

    pub buffer-reached : BufferReached inverse i before.l.value count bytes (bytes_of (length bytes) after.bits) after.l.value
    unfolding on_bytes registers loaded
    buffer-reached =
        let b = (instance_of i).b in
        let size : length (take b after.bits) ≡ b = length-take-le b after.bits (omega (arith, reached.full, (in_bytes i).at-most_256)) in
        record {
          bytes =
              ap (bytes_of (length bytes)) (sym (take-append-drop b after.bits))
              ∙ bytes-front (length bytes) (take b after.bits) (drop b after.bits) (omega (arith, width))
              ∙ ap₂ (λ (n : ℕ) (s : List ℕ). bytes_of n s) n
              (sym (stored_loaded (instance_of i).taps (regular i).lawful (take b after.bits) (word_bits 10 after.l.value)) ∙ ap stored registers-reached);
          small = after.l.small;
          holds-L = ap (λ (r : Registers). r.L) registers-reached;
        }

-- ---- the buffer of a call

module _ (i : ℕ) (before after : List ℕ) where
  -- P, or its inverse
  pub permuted-bytes : (inverse : Bool) (count l : ℕ) → count ≡ rounds (instance_of i).taps → BufferReached inverse i 1023 count before after l
      → after ≡ on_bytes (permuted inverse) i before
  unfolding on_bytes
  permuted-bytes inverse count l e reached =
      reached.bytes
      ∙ ap (bytes_of (state_bytes i))
      (ap (λ (n : ℕ). stored (registers_reached inverse (instance_of i).taps 1023 n (bits_of (instance_of i).b before))) e
      ∙ all_rounds inverse (instance_of i).taps (bits_of (instance_of i).b before))

  -- steps from a start value, or back to it
  module _ (inverse : Bool) (l start count l' : ℕ) (e : start ≡ value_of_L (word_bits 10 l)) (reached : BufferReached inverse i start count before after l') where
    pub stepped-bytes : after ≡ on_bytes (λ T s. stored (cond inverse registers_before registers_after l count T s)) i before
    unfolding on_bytes
    stepped-bytes =
        reached.bytes ∙ ap (λ (r : Registers). bytes_of (state_bytes i) (stored r)) (start-reached inverse (instance_of i).taps l start count _ e)

    pub stepped-L : value_of_L (word_bits 10 l')
        ≡ value_of_L (cond inverse registers_before registers_after l count (instance_of i).taps (bits_of (instance_of i).b before)).L
    stepped-L =
        ap value_of_L (reached.holds-L ∙ ap (λ (r : Registers). r.L) (start-reached inverse (instance_of i).taps l start count _ e))
