-- A group of w steps on registers that are words: each moves down by w, and its new bits are those of f, g and h.
use mathlib.Core.List.{List, ◌++◌}
use mathlib.Core.Path.{◌≡◌, refl, sym, ap, ap₂, ◌∙◌, subst}
use Prim.Native.Nat.{ℕ, ◌+◌, ◌*◌, ◌/◌, ◌%◌, ◌^◌, ◌<◌}
use native.Mathlib.Nat.{add_comm}
use lib.Arith.{digits_lt}
use lib.ListN.{drop}
use lib.Pow.{pow-add, shr_lt}
use Rattle.quark.specs.Bytes.{tabulate}
use Rattle.quark.specs.Feedback.{Taps}
use Rattle.quark.specs.Step.{Registers}
use Rattle.quark.specs.Word.{word_bit, word_bits}
use Rattle.quark.specs.Together.{gain_X, gain_Y, gains, moved}
use Rattle.quark.proofs.Together.{registers-path, steps-together}
use Rattle.quark.proofs.Word.{length-word_bits, move_word_bits}
use Rattle.words.specs.declared.RegisterWords.{RegisterWords}
use Rattle.words.specs.declared.feedback.Feedback.{Feedback}
use Rattle.words.specs.Words.{value, word_registers, registers_of}
use Rattle.words.specs.leaf.FeedbackWords.{in_step, FeedbackBits}
use Rattle.words.specs.leaf.Groups.{Firsts, Fitting, Stepped, SteppedL, AfterGroup}
use Rattle.words.proofs.Gained.{gained-x, gained-y}
use Rattle.words.specs.leaf.TapsOf.{Grouping}
use Rattle.words.proofs.MovedUp.{tabulate-word}

-- ---- one register

-- a number moved down by w, with w new digits from place p on
down_lt : (half n new p w : ℕ) → w + p ≡ half → new < 2 ^ w → n < 2 ^ half → new * 2 ^ p + n / 2 ^ w < 2 ^ half
down_lt half n new p w e few less =
    subst (λ (k : ℕ). new * 2 ^ p + n / 2 ^ w < 2 ^ k) e
    (rw pow-add (digits_lt few (shr_lt p w (subst (λ (k : ℕ). n < 2 ^ k) (sym e ∙ add_comm w p) less))))

down_moved : (half n new p w : ℕ) (b : ℕ → ℕ) → w + p ≡ half → n < 2 ^ half → ((j : ℕ) → j < w → b j ≡ word_bit new j)
    → drop w (word_bits half n) ++ tabulate w b ≡ word_bits half (new * 2 ^ p + n / 2 ^ w)
down_moved half n new p w b e less same =
    ap₂ (λ (k : ℕ) (r : List ℕ). drop w (word_bits k n) ++ r) (sym e) (tabulate-word new w b same)
    ∙ move_word_bits w p n new (subst (λ (k : ℕ). n < 2 ^ k) (sym e) less)
    ∙ ap (λ (k : ℕ). word_bits k (new * 2 ^ p + n / 2 ^ w)) (add_comm p w ∙ e)

-- ---- both registers

module _ {T : Taps} {w kept : ℕ} (G : Grouping T w kept) {s : RegisterWords} (fitting : Fitting T s) (word : ℕ) (firsts : Firsts w (word_bits 10 s.l) word)
    {words : Feedback} (bits : FeedbackBits T w s.x s.y word words) {t : RegisterWords} (after : AfterGroup s words kept w t) where
  start : Registers
  start = registers_of T s

  new-x : (j : ℕ) → j < w → gains gain_X T start j ≡ word_bit after.new.x j
  unfolding start gain_X
  new-x j less =
      gained-x G (value s.x) (value s.y) s.l word firsts j less
      ∙ ap₂ (λ (m n : ℕ). (in_step j s.y 0 + m + n) % 2) (sym (bits.of_F j less)) (sym (bits.of_H j less))
      ∙ sym (after.bit_X j less)

  new-y : (j : ℕ) → j < w → gains gain_Y T start j ≡ word_bit after.new.y j
  unfolding start gain_Y
  new-y j less =
      gained-y G (value s.x) (value s.y) s.l word firsts j less
      ∙ ap₂ (λ (m n : ℕ). (m + n) % 2) (sym (bits.of_G j less)) (sym (bits.of_H j less))
      ∙ sym (after.bit_Y j less)

  -- a state that holds the registers so moved, and L after w steps, is w steps on
  pub group_steps : {next : ℕ} → t.l ≡ next → SteppedL w s.l next → Stepped T w s t
  unfolding start word_registers moved
  group_steps e el =
      let half = T.half in
      let x = value s.x in
      let y = value s.y in
      record {
        fitting = record {
          fits_X = subst (λ (n : ℕ). n < 2 ^ half) (sym after.moved_X) (down_lt half x after.new.x kept w G.whole after.few_X fitting.fits_X);
          fits_Y = subst (λ (n : ℕ). n < 2 ^ half) (sym after.moved_Y) (down_lt half y after.new.y kept w G.whole after.few_Y fitting.fits_Y);
          fits_L = subst (λ (n : ℕ). n < 1024) (sym e) el.fits;
        };
        stepped =
            registers-path (ap (word_bits half) after.moved_X) (ap (word_bits half) after.moved_Y) (ap (word_bits 10) e ∙ el.stepped)
            ∙ sym (steps-together T G.lawful w G.reach start (length-word_bits half x) (length-word_bits half y)
            ∙ registers-path (down_moved half x after.new.x kept w (gains gain_X T start) G.whole fitting.fits_X new-x)
            (down_moved half y after.new.y kept w (gains gain_Y T start) G.whole fitting.fits_Y new-y) refl);
      }
