-- The registers X and Y in the first b of 256 cells: the parts that are lent, and what a step, a step undone and many of either leave.
use Rattle.std.specs.Prelude.{◌≡◌, ℕ, ◌+◌, ◌-◌, ◌*◌, ◌%◌, ◌<◌, ◌≤◌, List, ◌++◌, length, get_or, take, drop, set}
use mathlib.Core.List.{append_assoc}
use mathlib.Core.Path.{refl, sym, ap, ap₂, ◌∙◌, subst}
use native.Mathlib.Nat.{add-zero}
use native.Mathlib.Omega.{arith}
use lib.Bits.{bit_xor}
use Rattle.std.specs.List.{copy_within}
use lib.ListN.{length-append, length-take, length-drop, take-append-drop, get_or-append}
use lib.Seq.{take_at, drop_at, get_or-append-add}
use Rattle.quark.specs.Bytes.{bit}
use Rattle.quark.specs.Feedback.{Taps, feedback, f, g, h}
use Rattle.quark.specs.Step.{Registers, shift, step_L, step, loaded}
use Rattle.quark.specs.Inverse.{unshift, gained, undo_step_L, undo_step}
use Rattle.quark.specs.Instance.{Instance}
use Rattle.quark.specs.Word.{word_bits}
use Rattle.quark.specs.Together.{gain_X, gain_Y}
use Rattle.quark.proofs.Bits.{Bits, more, Wide, parity_lt, bits-append, bits-take, bits-drop, bits_at, bits_of}
use Rattle.quark.proofs.Word.{wide_word_bits}
use Rattle.quark.proofs.Together.{registers-path}
use Rattle.quark.proofs.Inverse.{Sized, sized_loaded, sized_step, sized_undo_step}
use Rattle.quark.proofs.Instance.{Regular, regular, in_bytes}
use Rattle.words.specs.Instances.{named}
use Rattle.words.specs.declared.instances.Instance as code
use Rattle.permutation.specs.declared.cells.RegisterCells.{RegisterCells}
use Rattle.permutation.specs.declared.taps.Taps as code-taps
use Rattle.permutation.specs.leaf.Cells.{Cells}
use Rattle.permutation.specs.leaf.Core.{registers, held}
use Rattle.permutation.specs.leaf.Serial.{Fed}
use Rattle.permutation.specs.leaf.Taps.{AreTaps}
use Rattle.permutation.proofs.Instances.{by_name}
use Rattle.permutation.proofs.MovedCells.{down, up, copied_down, copied-up, down_two, up_two, set-fronts}
use Rattle.permutation.proofs.SingleBits.{single, exact, sum, ◌⊕◌}

-- the bits of f, g and h are single bits, and so is the bit that a register gained
pub f-small : (T : Taps) (X : ℕ → ℕ) → f T X < 2
unfolding f feedback
f-small T X = parity_lt _

pub g-small : (T : Taps) (Y : ℕ → ℕ) → g T Y < 2
unfolding g feedback
g-small T Y = parity_lt _

pub h-small : (T : Taps) (X Y L : ℕ → ℕ) → h T X Y L < 2
unfolding h
h-small T X Y L = parity_lt _

pub gained-small : {X : List ℕ} → Bits X → gained X < 2
unfolding gained
gained-small {X} p = bits_at p (length X - 1)

-- a register with 0 for the bit that a step dropped
wide_zero : {n : ℕ} {r : List ℕ} → 0 < n → Wide n r → Wide n (unshift 0 r)
unfolding unshift
wide_zero {n} {r} p w =
    let e = w.0 in
    let z : 0 < 2 = omega arith in
    (simp length-take (omega arith), more z (bits-take (length r - 1) w.1))

-- ---- X, then Y, then others

split : (I : Instance) (cells : List ℕ) (l : ℕ) → (registers I cells l).X ++ ((registers I cells l).Y ++ drop I.b cells) ≡ cells
unfolding registers loaded
split I cells l =
    sym (append_assoc (take I.taps.half (take I.b cells)) (drop I.taps.half (take I.b cells)) (drop I.b cells))
    ∙ ap (λ (s : List ℕ). s ++ drop I.b cells) (take-append-drop I.taps.half (take I.b cells))
    ∙ take-append-drop I.b cells

-- 256 single bits, of which the first b hold X and Y of an instance
pub record SerialCells (I : Instance) (cells : List ℕ) (l half : ℕ) : Type 0 where
  pub regular : Regular I
  pub fits : I.b ≤ 256
  pub full : length cells ≡ 256
  pub single : Cells cells
  pub is_half : half ≡ I.taps.half

pub serial_cells : (n : code.Instance) (c : RegisterCells) (t : code-taps.Taps) → AreTaps (named n).taps t → length c.bits ≡ 256
    → SerialCells (named n) c.bits c.l.value t.half
serial_cells n c t e full = record {
  regular = by_name Regular regular n;
  fits = by_name (λ I. I.b ≤ 256) (λ i. (in_bytes i).at-most_256) n;
  full = full;
  single = c.single;
  is_half = e.half;
}

-- cells that hold the registers s, with the others after them as they were
pub record Laid (I : Instance) (s : Registers) (before after : List ℕ) (l : ℕ) : Type 0 where
  pub holds : registers I after l ≡ s
  pub rest : drop I.b after ≡ drop I.b before
  pub full : length after ≡ 256
  pub cells : Cells after

module _ {I : Instance} {cells : List ℕ} {l half : ℕ} (given : SerialCells I cells l half) where
  pub both_halves : 2 * half ≡ I.b
  both_halves = omega (arith, given.is_half, given.regular.two_halves)

  -- the parts of the cells that the code lends as X and as Y
  pub x_part : take half (take (2 * half) cells) ≡ (registers I cells l).X
  unfolding registers loaded
  x_part = ap₂ (λ (h b : ℕ). take h (take b cells)) given.is_half both_halves

  pub y_part : drop half (take (2 * half) cells) ≡ (registers I cells l).Y
  unfolding registers loaded
  y_part = ap₂ (λ (h b : ℕ). drop h (take b cells)) given.is_half both_halves

  pub sized : Sized I.taps (registers I cells l)
  unfolding registers
  sized =
      let n : length (take I.b cells) ≡ 2 * I.taps.half =
      simp length-take (omega (arith, given.full, given.regular.two_halves, given.fits)) in
      sized_loaded I.taps given.regular.lawful (take I.b cells) (word_bits 10 l) (n, bits-take I.b (bits_of cells given.single))
      (wide_word_bits 10 l)

  nx : length (registers I cells l).X ≡ half
  nx = sized.wide_X.0 ∙ sym given.is_half

  ny : length (registers I cells l).Y ≡ half
  ny = sized.wide_Y.0 ∙ sym given.is_half

  positive : 0 < half
  positive = rw given.is_half given.regular.lawful.some_half

  -- ---- the cells that a step reads besides f, g and h

  x_at : (k : ℕ) → k < half → get_or cells k 0 ≡ bit (registers I cells l).X k
  x_at k p =
      ap (λ (c : List ℕ). get_or c k 0) (sym (split I cells l))
      ∙ get_or-append (registers I cells l).X ((registers I cells l).Y ++ drop I.b cells) 0 k (rw nx p)

  y_at : (k : ℕ) → k < half → get_or cells (half + k) 0 ≡ bit (registers I cells l).Y k
  y_at k p =
      ap₂ (λ (c : List ℕ) (n : ℕ). get_or c (n + k) 0) (sym (split I cells l)) (sym nx)
      ∙ get_or-append-add (registers I cells l).X ((registers I cells l).Y ++ drop I.b cells) k 0
      ∙ get_or-append (registers I cells l).Y (drop I.b cells) 0 k (rw ny p)

  pub y_first : get_or cells half 0 ≡ bit (registers I cells l).Y 0
  y_first = ap (λ (k : ℕ). get_or cells k 0) (sym (add-zero half)) ∙ y_at 0 positive

  pub x_gained : get_or cells (half - 1) 0 ≡ gained (registers I cells l).X
  unfolding gained
  x_gained = x_at (half - 1) (omega (arith, positive)) ∙ ap (λ (n : ℕ). bit (registers I cells l).X (n - 1)) (sym nx)

  pub y_gained : get_or cells (half + half - 1) 0 ≡ gained (registers I cells l).Y
  unfolding gained
  y_gained =
      let e : half + half - 1 ≡ half + (half - 1) = omega (arith, positive) in
      ap (λ (k : ℕ). get_or cells k 0) e
      ∙ y_at (half - 1) (omega (arith, positive))
      ∙ ap (λ (n : ℕ). bit (registers I cells l).Y (n - 1)) (sym ny)

  -- ---- a step, and a step undone

  module _ (l' : ℕ) where
    -- cells that hold other registers, with the same others after them
    pub cells-hold : (s : Registers) → Sized I.taps s → word_bits 10 l' ≡ s.L → {after : List ℕ} → after ≡ s.X ++ (s.Y ++ drop I.b cells)
        → Laid I s cells after l'
    unfolding registers loaded
    cells-hold s z el {after} e =
        let b = I.b in
        let rest = drop b cells in
        let two = given.regular.two_halves in
        let nX : length s.X ≡ I.taps.half = z.wide_X.0 in
        let nY : length s.Y ≡ I.taps.half = z.wide_Y.0 in
        let n : length (s.X ++ s.Y) ≡ b = simp length-append (omega arith) in
        let grouped : after ≡ (s.X ++ s.Y) ++ rest = e ∙ sym (append_assoc s.X s.Y rest) in
        let front : take b after ≡ s.X ++ s.Y = ap (take b) grouped ∙ take_at (s.X ++ s.Y) rest b n in
        record {
          holds = registers-path (ap (take I.taps.half) front ∙ take_at s.X s.Y I.taps.half nX)
              (ap (drop I.taps.half) front ∙ drop_at s.X s.Y I.taps.half nX) el;
          rest = ap (drop b) grouped ∙ drop_at (s.X ++ s.Y) rest b n;
          full = ap length grouped ∙ simp (length-append, length-drop) (omega (arith, given.full, given.fits));
          cells = λ i. rw e (bits_at (bits-append z.wide_X.1 (bits-append z.wide_Y.1 (bits-drop b (bits_of cells given.single)))) i);
        }

    pub after-step : (x y : ℕ) (moved : List ℕ) → moved ≡ down (half + half) cells
        → x ≡ gain_X I.taps (bit (registers I cells l).X) (bit (registers I cells l).Y) (bit (registers I cells l).L)
        → y ≡ gain_Y I.taps (bit (registers I cells l).X) (bit (registers I cells l).Y) (bit (registers I cells l).L)
        → word_bits 10 l' ≡ step_L (registers I cells l).L
        → Laid I (step I.taps (registers I cells l)) cells (set (set moved (half - 1) x) (half + half - 1) y) l'
    unfolding step gain_X gain_Y
    after-step x y moved em ex ey el =
        let s = registers I cells l in
        cells-hold (step I.taps s) (sized_step I.taps given.regular.lawful s sized) el
        (ap (λ (c : List ℕ). set (set c (half - 1) x) (half + half - 1) y) (em ∙ ap (down (half + half)) (sym (split I cells l)))
        ∙ down_two s.X s.Y (drop I.b cells) half x y positive nx ny
        ∙ ap₂ (λ (v w : ℕ). shift s.X v ++ (shift s.Y w ++ drop I.b cells)) ex ey)

    -- the registers before the step, with 0 for the bits that it dropped
    abbrev pub zeroed : Registers
    zeroed = record { X = unshift 0 (registers I cells l).X; Y = unshift 0 (registers I cells l).Y; L = word_bits 10 l' }

    module _ (moved : List ℕ) (em : moved ≡ up (half + half) cells) where
      zeroed_cells : set (set moved 0 0) half 0 ≡ zeroed.X ++ (zeroed.Y ++ drop I.b cells)
      zeroed_cells =
          ap (λ (c : List ℕ). set (set c 0 0) half 0) (em ∙ ap (up (half + half)) (sym (split I cells l)))
          ∙ up_two (registers I cells l).X (registers I cells l).Y (drop I.b cells) half positive nx ny

      pub after-zeros : Laid I zeroed cells (set (set moved 0 0) half 0) l'
      after-zeros =
          let p = given.regular.lawful.some_half in
          cells-hold zeroed (record { wide_X = wide_zero p sized.wide_X; wide_Y = wide_zero p sized.wide_Y; wide_L = wide_word_bits 10 l' }) refl zeroed_cells

      pub after-undo : (x0 y0 : ℕ)
          → y0 ≡ (gained (registers I cells l).Y + g I.taps (bit zeroed.Y) + h I.taps (bit zeroed.X) (bit zeroed.Y) (bit zeroed.L)) % 2
          → x0 ≡ (gained (registers I cells l).X + y0 + f I.taps (bit zeroed.X) + h I.taps (bit zeroed.X) (bit zeroed.Y) (bit zeroed.L)) % 2
          → word_bits 10 l' ≡ undo_step_L (registers I cells l).L
          → Laid I (undo_step I.taps (registers I cells l)) cells (set (set (set (set moved 0 0) half 0) half y0) 0 x0) l'
      unfolding undo_step
      after-undo x0 y0 ey ex el =
          let s = registers I cells l in
          cells-hold (undo_step I.taps s) (sized_undo_step I.taps given.regular.lawful s sized) el
          (ap (λ (c : List ℕ). set (set c half y0) 0 x0) zeroed_cells
          ∙ set-fronts s.X s.Y (drop I.b cells) half 0 0 x0 y0 positive nx
          ∙ ap₂ (λ (v w : ℕ). unshift v s.X ++ (unshift w s.Y ++ drop I.b cells)) (cc (ex, ey, el)) (cc (ey, el)))

-- ---- a step of the code, and a step undone: the cells copied within by one, with the new bits

module _ (n : code.Instance) (c : RegisterCells) (t : code-taps.Taps) (e : AreTaps (named n).taps t) (full : length c.bits ≡ 256) (moved : List ℕ) (l' : ℕ) where
  R : SerialCells (named n) c.bits c.l.value t.half
  R = serial_cells n c t e full

  abbrev T : Taps
  T = (named n).taps

  twice : 2 * t.half ≡ t.half + t.half
  twice = omega arith

  pub stepped : (f-bit g-bit h-bit : ℕ) → Fed T (held (named n) c) f-bit g-bit h-bit → moved ≡ copy_within c.bits 1 (2 * t.half) 0
      → word_bits 10 l' ≡ step_L (word_bits 10 c.l.value)
      → Laid (named n) (step T (held (named n) c)) c.bits
      (set (set moved (t.half - 1) (bit_xor (bit_xor (get_or c.bits t.half 0) f-bit) h-bit)) (2 * t.half - 1) (bit_xor g-bit h-bit)) l'
  unfolding registers loaded gain_X gain_Y
  stepped f-bit g-bit h-bit fed em el =
      let y0 = exact (y_first R) (bits_at (sized R).wide_Y.1 0) in
      let f-sum = exact fed.is_F (f-small T _) in
      let g-sum = exact fed.is_G (g-small T _) in
      let h-sum = exact fed.is_H (h-small T _ _ _) in
      let x = bit_xor (bit_xor (get_or c.bits t.half 0) f-bit) h-bit in
      let y = bit_xor g-bit h-bit in
      let down-one : moved ≡ down (t.half + t.half) c.bits = em ∙ copied_down c.bits (2 * t.half) ∙ ap (λ (b : ℕ). down b c.bits) twice in
      subst (λ (b : ℕ). Laid (named n) (step T (registers (named n) c.bits c.l.value)) c.bits (set (set moved (t.half - 1) x) (b - 1) y) l') (sym twice)
      (after-step R l' x y moved down-one (sum y0 ⊕ f-sum ⊕ h-sum).same (sum g-sum ⊕ h-sum).same el)

  module _ (em : moved ≡ copy_within c.bits 0 (2 * t.half - 1) 1) where
    up-one : moved ≡ up (t.half + t.half) c.bits
    up-one = em ∙ copied-up c.bits (2 * t.half) (omega (arith, e.half, R.regular.lawful.some_half)) ∙ ap (λ (b : ℕ). up b c.bits) twice

    pub unstepped : (f-bit g-bit h-bit : ℕ) → Fed T (registers (named n) (set (set moved 0 0) t.half 0) l') f-bit g-bit h-bit
        → word_bits 10 l' ≡ undo_step_L (word_bits 10 c.l.value)
        → let y0 = bit_xor (bit_xor (get_or c.bits (2 * t.half - 1) 0) g-bit) h-bit in
        let x0 = bit_xor (bit_xor (bit_xor (get_or c.bits (t.half - 1) 0) y0) f-bit) h-bit in
        Laid (named n) (undo_step T (held (named n) c)) c.bits (set (set (set (set moved 0 0) t.half 0) t.half y0) 0 x0) l'
    unfolding registers loaded
    unstepped f-bit g-bit h-bit given el =
        let zeros = after-zeros R l' moved up-one in
        let fed = rw zeros.holds at given in
        let x-last = exact (x_gained R) (gained-small (sized R).wide_X.1) in
        let y-last = exact (ap (λ (b : ℕ). get_or c.bits (b - 1) 0) twice ∙ y_gained R) (gained-small (sized R).wide_Y.1) in
        let f-sum = exact fed.is_F (f-small T _) in
        let g-sum = exact fed.is_G (g-small T _) in
        let h-sum = exact fed.is_H (h-small T _ _ _) in
        let y0 = sum y-last ⊕ g-sum ⊕ h-sum in
        after-undo R l' moved up-one _ _ y0.same (sum x-last ⊕ single y0.small ⊕ f-sum ⊕ h-sum).same el
