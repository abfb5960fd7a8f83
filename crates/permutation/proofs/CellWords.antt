-- Bits in cells and in words: the number that some cells hold, and the cells with a number's bits in them.
use Rattle.std.specs.Prelude.{◌≡◌, ℕ, suc, ◌+◌, ◌-◌, ◌*◌, ◌%◌, ◌^◌, ◌<◌, ◌≤◌, Bool, true, false, List, [], ◌∷◌, ◌++◌, length, get_or, take, drop, set}
use mathlib.Core.List.{append_assoc}
use mathlib.Core.Path.{refl, sym, ap, ap₂, ◌∙◌, subst}
use native.Mathlib.Numerals.{add-one}
use native.Mathlib.Nat.{mod-eq_of_lt, add_comm, pow-suc}
use native.Mathlib.Omega.{arith}
use lib.Arith.{digits_lt}
use lib.ListN.{length-append}
use lib.Bits.{bit_or, or_shifted}
use lib.Pow.{pow-add, pow_mono}
use Rattle.std.specs.Prelude.{reverse, if◌then◌else◌}
use Rattle.std.specs.List.{fold}
use Rattle.std.proofs.lemmas.List.{reverse-append}
use Rattle.std.proofs.lemmas.List.Sums.{fold-append}
use lib.Seq.{drop-cons, set_at, drop-drop, drop_at, take_at}
use borrow.Rule.Slice.PartMut.{put_mid, post_of}
use Rattle.quark.specs.Instance.{Instance, instance_of}
use Rattle.quark.specs.Step.{Registers, steps_L, loaded}
use Rattle.quark.specs.Word.{word_bit, word_bits}
use Rattle.quark.proofs.Inverse.{Sized}
use Rattle.quark.proofs.Together.{registers-path}
use Rattle.quark.proofs.Word.{length-word_bits, append_word_bits, cons-word_bits, snoc-word_bits}
use Rattle.words.specs.Instances.{named}
use Rattle.words.specs.declared.instances.Instance as code
use Rattle.words.specs.declared.Register.{Register}
use Rattle.words.specs.declared.RegisterWords.{RegisterWords}
use Rattle.words.specs.Words.{value, word_registers, fits}
use Rattle.words.proofs.Fits.{fits-tested}
use Rattle.words.proofs.InWords.{Held, sized_words, held_after, held_before}
use Rattle.permutation.specs.declared.cells.RegisterCells.{RegisterCells}
use Rattle.permutation.specs.declared.taps.Taps as code-taps
use Rattle.permutation.specs.leaf.Cells.{Cells, Allowed}
use Rattle.permutation.specs.leaf.Core.{registers_reached, registers}
use Rattle.permutation.specs.leaf.Several.{ran_or_undone_words}
use Rattle.permutation.specs.leaf.Taps.{AreTaps}
use Rattle.permutation.proofs.SerialSteps.{SerialCells, serial_cells, Laid, sized, x_part, y_part, both_halves, cells-hold}

-- r is the number of the cells s
abbrev pub Holds : List ℕ → ℕ → Type 0
Holds s r = (r < 2 ^ length s) × (word_bits (length s) r ≡ s)

-- a cell put below a word of at most 63 bits
abbrev pub below : ℕ → ℕ → ℕ
below word cell = bit_or (word * 2 % 2 ^ 64) cell

below-digits : (word cell k : ℕ) → word < 2 ^ k → k ≤ 63 → cell < 2 → below word cell ≡ word * 2 + cell
below-digits word cell k h g b =
    let p : 2 ^ k ≤ 2 ^ 63 = pow_mono g in
    let e : word * 2 % 2 ^ 64 ≡ word * 2 = mod-eq_of_lt (omega arith) in
    ap (λ (w : ℕ). bit_or w cell) e ∙ or_shifted word 1 cell b

-- the cells, from the last to the first, each put below those after it
pub read_back : (s : List ℕ) → length s ≤ 64 → Cells s → Holds s (fold below 0 (reverse s))
unfolding word_bits
read_back [] h single = (omega arith, refl)
read_back (b ∷ s) h single =
    let w = fold below 0 (reverse s) in
    let rest : Holds s w = read_back s (omega arith) (λ i. single (suc i)) in
    let e : fold below 0 (reverse (b ∷ s)) ≡ w * 2 + b =
    ap (fold below 0) (reverse-append (b ∷ []) s) ∙ fold-append below 0 (reverse s) (b ∷ []) ∙ below-digits w b (length s) rest.0 (omega arith) (single 0) in
    rw e (rw pow-suc (digits_lt rest.0 (single 0)), cons-word_bits (length s) w b (single 0) ∙ ap (λ (l : List ℕ). b ∷ l) rest.1)

-- two words that hold cells and those after them hold both
pub both : (s t : List ℕ) (lo hi : ℕ) → Holds s lo → Holds t hi → Holds (s ++ t) (hi * 2 ^ length s + lo)
both s t lo hi p q = (
  rw (length-append s t, add_comm (length s) (length t), pow-add) (digits_lt q.0 p.0),
  ap (λ (n : ℕ). word_bits n (hi * 2 ^ length s + lo)) (length-append s t)
      ∙ sym (append_word_bits (length s) (length t) lo hi p.0)
      ∙ ap₂ ◌++◌ p.1 q.1,
)

-- the digits of two words, of which the lower has a digits
pub words_beside : (a c n lo hi : ℕ) → lo < 2 ^ a → a + c ≡ n → word_bits a lo ++ word_bits c hi ≡ word_bits n (hi * 2 ^ a + lo)
words_beside a c n lo hi h e = append_word_bits a c lo hi h ∙ ap (λ (k : ℕ). word_bits k (hi * 2 ^ a + lo)) e

-- one more cell written
pub written_more : (s : List ℕ) (word i : ℕ) → i < length s
    → set (word_bits i word ++ drop i s) i (word_bit word i) ≡ word_bits (i + 1) word ++ drop (i + 1) s
written_more s word i h =
    ap (λ (t : List ℕ). set (word_bits i word ++ t) i (word_bit word i)) (drop-cons s i 0 h)
    ∙ set_at (word_bits i word) (get_or s i 0) (drop (suc i) s) (word_bit word i) i (length-word_bits i word)
    ∙ sym (append_assoc (word_bits i word) (word_bit word i ∷ []) (drop (suc i) s))
    ∙ ap (λ (t : List ℕ). t ++ drop (suc i) s) (sym (snoc-word_bits i word))
    ∙ ap (λ (n : ℕ). word_bits n word ++ drop n s) (sym (add-one i))

-- ---- X and Y taken as words from the cells, stepped, and written back

read_part : {s t : List ℕ} {r : ℕ} → s ≡ t → Holds s r → Holds t r
read_part {s} {t} {r} e p = subst (λ (u : List ℕ). Holds u r) e p

-- a list of h bits
at_half : (s : List ℕ) (h r : ℕ) → length s ≡ h → Holds s r → (r < 2 ^ h) × (word_bits h r ≡ s)
at_half s h r e p = subst (λ (n : ℕ). (r < 2 ^ n) × (word_bits n r ≡ s)) e p

-- the first h elements, and the h after them, written over
written_halves : (s a b : List ℕ) (h : ℕ) → length a ≡ h → put_mid h (2 * h - h) (a ++ post_of 0 h s) b ≡ a ++ (b ++ drop (2 * h) s)
written_halves s a b h e =
    let n : h + (2 * h - h) ≡ 2 * h = omega arith in
    ap₂ (λ (u v : List ℕ). u ++ (b ++ drop (2 * h - h) v)) (take_at a (drop h s) h e) (drop_at a (drop h s) h e)
    ∙ ap (λ (v : List ℕ). a ++ (b ++ v)) (drop-drop (2 * h - h) h s ∙ ap (λ (k : ℕ). drop k s) n)

module _ {I : Instance} {bits : List ℕ} {l half : ℕ} (R : SerialCells I bits l half) (x y : Register) where
  module _ (hx : Holds (take half (take (2 * half) bits)) (value x)) (hy : Holds (drop half (take (2 * half) bits)) (value y)) where
    fitted-x : (value x < 2 ^ I.taps.half) × (word_bits I.taps.half (value x) ≡ (registers I bits l).X)
    fitted-x = at_half (registers I bits l).X I.taps.half (value x) (sized R).wide_X.0 (subst (λ (s : List ℕ). Holds s (value x)) (x_part R) hx)

    fitted-y : (value y < 2 ^ I.taps.half) × (word_bits I.taps.half (value y) ≡ (registers I bits l).Y)
    fitted-y = at_half (registers I bits l).Y I.taps.half (value y) (sized R).wide_Y.0 (subst (λ (s : List ℕ). Holds s (value y)) (y_part R) hy)

    loaded-words : (L : List ℕ) → loaded I.taps (take I.b bits) L ≡ record { X = word_bits I.taps.half (value x); Y = word_bits I.taps.half (value y); L = L }
    unfolding registers loaded
    loaded-words L = registers-path (sym fitted-x.1) (sym fitted-y.1) refl

    -- such words, with an L of ten bits, fit
    loaded-fit : {i w n start : ℕ} → I ≡ instance_of i → Allowed i w start n → l < 1024 → (w ≡ 1 → ⊥) → fits i w n (record { x = x; y = y; l = l }) ≡ true
    loaded-fit {i} {w} {n} e given small more =
        fits-tested i w n (record { x = x; y = y; l = l })
        (record {
          has_instance = given.has_instance;
          width = given.has_width;
          more = more;
          whole = given.whole;
          words = record { fits_X = rw e at fitted-x.0; fits_Y = rw e at fitted-y.0; fits_L = small };
        })

    -- so the word form steps them
    stepped-words : {i w n start l' : ℕ} {t : RegisterWords} (inverse : Bool) → I ≡ instance_of i → Allowed i w start n → l < 1024 → (w ≡ 1 → ⊥) → l' ≡ l
        → t ≡ (if fits i w n (record { x = x; y = y; l = l' })
        then ran_or_undone_words inverse (instance_of i).taps n (record { x = x; y = y; l = l' }) else (record { x = x; y = y; l = l' }))
        → t ≡ ran_or_undone_words inverse I.taps n (record { x = x; y = y; l = l })
    stepped-words {i} {w} {n} {start} {l'} {t} inverse e given small more el et =
        let now : RegisterWords = record { x = x; y = y; l = l } in
        let et' : t ≡ (if fits i w n now then ran_or_undone_words inverse (instance_of i).taps n now else now) =
        subst (λ (k : ℕ). t ≡ (if fits i w n (record { x = x; y = y; l = k }) then ran_or_undone_words inverse (instance_of i).taps n (record { x = x; y = y; l = k }) else (record { x = x; y = y; l = k }))) el et in
        et'
        ∙ ap (λ (b : Bool). (if b then ran_or_undone_words inverse (instance_of i).taps n now else now)) (loaded-fit e given small more)
        ∙ ap (λ (J : Instance). ran_or_undone_words inverse J.taps n now) (sym e)

    module _ (n : ℕ) where
      abbrev start : RegisterWords
      start = record { x = x; y = y; l = l }

      -- they hold the registers reached
      held : (inverse : Bool) → Held I.taps (ran_or_undone_words inverse I.taps n start) (registers_reached inverse I.taps l n (take I.b bits))
      unfolding registers_reached word_registers
      held false = rw (loaded-words (word_bits 10 l)) (held_after I.taps R.regular.lawful n start)
      held true = rw (loaded-words (steps_L n (word_bits 10 l))) (held_before I.taps R.regular.lawful n start)

      -- and so do the cells, once they are written
      words_reached : (inverse : Bool) (t : RegisterWords) → t ≡ ran_or_undone_words inverse I.taps n start → (a b : List ℕ) (k m : ℕ)
          → a ≡ word_bits k (value t.x) → b ≡ word_bits m (value t.y) → k ≡ half → m ≡ half
          → Laid I (registers_reached inverse I.taps l n (take I.b bits)) bits (put_mid half (2 * half - half) (a ++ post_of 0 half bits) b) t.l
          × (t.l < 1024)
      unfolding word_registers
      words_reached inverse t et a b k m ea eb ek em =
          let q = registers_reached inverse I.taps l n (take I.b bits) in
          let h : Held I.taps t q = subst (λ (u : RegisterWords). Held I.taps u q) (sym et) (held inverse) in
          let z : Sized I.taps q = subst (Sized I.taps) h.0 (sized_words I.taps (value t.x) (value t.y) t.l) in
          let ax : a ≡ q.X = ea ∙ ap (λ (j : ℕ). word_bits j (value t.x)) (ek ∙ R.is_half) ∙ ap (λ (r : Registers). r.X) h.0 in
          let by : b ≡ q.Y = eb ∙ ap (λ (j : ℕ). word_bits j (value t.y)) (em ∙ R.is_half) ∙ ap (λ (r : Registers). r.Y) h.0 in
          let long : length a ≡ half = ap length ax ∙ z.wide_X.0 ∙ sym R.is_half in (
            cells-hold R t.l q z (ap (λ (r : Registers). r.L) h.0)
                (written_halves bits a b half long
                ∙ ap₂ (λ (u v : List ℕ). u ++ (v ++ drop (2 * half) bits)) ax by
                ∙ ap (λ (c : ℕ). q.X ++ (q.Y ++ drop c bits)) (both_halves R)),
            h.1.fits_L,
          )

-- a call of the word form: X and Y are read from the first cells, and the answer's are written over them
pub call_reached : (n : code.Instance) (state : RegisterCells) (taps : code-taps.Taps) (x y : Register) {i w count given l k m : ℕ} {t : RegisterWords}
    {front back a b : List ℕ} (inverse : Bool) → named n ≡ instance_of i → AreTaps (named n).taps taps → length state.bits ≡ 256
    → front ≡ take taps.half (take (2 * taps.half) state.bits) → back ≡ drop taps.half (take (2 * taps.half) state.bits)
    → Holds front (value x) → Holds back (value y) → Allowed i w given count → (w ≡ 1 → ⊥) → l ≡ state.l.value
    → t ≡ (if fits i w count (record { x = x; y = y; l = l })
    then ran_or_undone_words inverse (instance_of i).taps count (record { x = x; y = y; l = l }) else (record { x = x; y = y; l = l }))
    → a ≡ word_bits k (value t.x) → b ≡ word_bits m (value t.y) → k ≡ taps.half → m ≡ taps.half
    → Laid (instance_of i) (registers_reached inverse (instance_of i).taps state.l.value count (take (instance_of i).b state.bits)) state.bits
    (put_mid taps.half (2 * taps.half - taps.half) (a ++ post_of 0 taps.half state.bits) b) t.l
    × (t.l < 1024)
call_reached n state taps x y inverse e of full at-front at-back hx hy allowed more el et ea eb ek em =
    let R = subst (λ (I : Instance). SerialCells I state.bits state.l.value taps.half) e (serial_cells n state taps of full) in
    let px = read_part at-front hx in
    let py = read_part at-back hy in
    words_reached R x y px py _ inverse _ (stepped-words R x y px py inverse refl allowed state.l.small more el et) _ _ _ _ ea eb ek em
