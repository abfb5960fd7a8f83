-- Several steps together, for any taps and any width w with every tap + w at most the half: w steps are the registers moved by w, with
-- w new bits, each from the old registers. L goes its own way.
use mathlib.Core.List.{List, [], ◌∷◌, ◌++◌, append_assoc, append-nil}
use mathlib.Core.Path.{◌≡◌, refl, sym, ap, ◌∙◌}
use Prim.Native.Nat.{ℕ, zero, suc, ◌+◌, ◌<◌, ◌≤◌}
use native.Mathlib.Nat.{add-zero, add-suc, le_refl}
use native.Mathlib.Numerals.{add-one}
use native.Mathlib.Omega.{arith}
use lib.ListN.{length, get_or, drop, length-drop, get_or-append}
use lib.Seq.{drop-append-le, drop-drop, get_or-drop}
use Rattle.quark.specs.Bytes.{bit, tabulate}
use Rattle.quark.specs.Feedback.{Taps, h}
use Rattle.quark.specs.Step.{Registers, shift, step_L, step, steps, steps_L}
use Rattle.quark.specs.Together.{from, gain_X, gain_Y, gains, moved}
use Rattle.quark.proofs.Taps.{all_at, Lawful, Reach}
use Rattle.quark.proofs.Feedback.{f_local, g-local, h-local}

pub registers-path : {X X' Y Y' L L' : List ℕ} → X ≡ X' → Y ≡ Y' → L ≡ L'
    → ◌≡◌ {A = Registers} (record { X = X; Y = Y; L = L }) (record { X = X'; Y = Y'; L = L' })
registers-path ex ey el i = record { X = ex i; Y = ey i; L = el i }

-- ---- steps add up

pub steps-add : (T : Taps) (m n : ℕ) (s : Registers) → steps T (m + n) s ≡ steps T n (steps T m s)
unfolding steps
steps-add T m zero s = ap (λ (k : ℕ). steps T k s) (add-zero m)
steps-add T m (suc n) s = ap (λ (k : ℕ). steps T k s) (add-suc m n) ∙ ap (step T) (steps-add T m n s)

pub steps_L-add : (m n : ℕ) (l : List ℕ) → steps_L (m + n) l ≡ steps_L n (steps_L m l)
unfolding steps_L
steps_L-add m zero l = ap (λ (k : ℕ). steps_L k l) (add-zero m)
steps_L-add m (suc n) l = ap (λ (k : ℕ). steps_L k l) (add-suc m n) ∙ ap step_L (steps_L-add m n l)

-- L goes its own way
pub steps-L : (T : Taps) (n : ℕ) (s : Registers) → (steps T n s).L ≡ steps_L n s.L
unfolding steps steps_L step
steps-L T zero s = refl
steps-L T (suc n) s = ap step_L (steps-L T n s)

-- ---- what the registers gain

pub step-gains : (T : Taps) (s : Registers) → let X = bit s.X in let Y = bit s.Y in let L = bit s.L in
    step T s ≡ record { X = shift s.X (gain_X T X Y L); Y = shift s.Y (gain_Y T X Y L); L = step_L s.L }
unfolding step gain_X gain_Y
step-gains T s = registers-path (ap (shift s.X) (omega arith)) (ap (shift s.Y) (omega arith)) refl

-- ---- a register that has moved

pub shift-moved : (j : ℕ) (r new : List ℕ) (v : ℕ) → j < length r → shift (drop j r ++ new) v ≡ drop (suc j) r ++ (new ++ (v ∷ []))
unfolding shift
shift-moved j r new v h =
    let one : 1 ≤ length (drop j r) = simp length-drop (omega arith) in
    rw (drop-append-le 1 (drop j r) new one, drop-drop, add-one, append_assoc)

bit_moved : (j : ℕ) (r new : List ℕ) (i : ℕ) → j + i < length r → bit (drop j r ++ new) i ≡ from j (bit r) i
bit_moved j r new i h =
    let inside : i < length (drop j r) = simp length-drop (omega arith) in
    get_or-append (drop j r) new 0 i inside ∙ get_or-drop j r i 0

-- ---- what a register gains is the same where the bits that the taps reach are

module _ (T : Taps) (lawful : Lawful T) (w : ℕ) (reach : Reach T w) where
  pub width_fits : w ≤ T.half
  width_fits =
      let first : get_or T.f_taps 0 0 + w ≤ T.half =
      all_at (λ t. t + w ≤ T.half) T.f_taps reach.f-within 0 (let n = lawful.f.count in omega arith) in
      omega arith

  module _ (X X' Y Y' L L' : ℕ → ℕ) (ex : (i : ℕ) → i + w ≤ T.half → X i ≡ X' i) (ey : (i : ℕ) → i + w ≤ T.half → Y i ≡ Y' i) (el : L 0 ≡ L' 0) where
    pub gain_X-local : gain_X T X Y L ≡ gain_X T X' Y' L'
    unfolding gain_X
    gain_X-local = cc (ey 0 (omega (arith, width_fits)), f_local T lawful w reach X X' ex, h-local T lawful w reach X X' ex Y Y' L L' ey el)

    pub gain_Y-local : gain_Y T X Y L ≡ gain_Y T X' Y' L'
    unfolding gain_Y
    gain_Y-local = cc (g-local T lawful w reach Y Y' ey, h-local T lawful w reach X X' ex Y Y' L L' ey el)

  -- ---- the steps

  module _ (s : Registers) (nx : length s.X ≡ T.half) (ny : length s.Y ≡ T.half) where
    one_more : (j : ℕ) → j < w → step T (moved T j s) ≡ moved T (suc j) s
    unfolding steps_L moved gains tabulate
    one_more j less =
        let mx = tabulate j (gains gain_X T s) in
        let my = tabulate j (gains gain_Y T s) in
        let X = bit (drop j s.X ++ mx) in
        let Y = bit (drop j s.Y ++ my) in
        let L = bit (steps_L j s.L) in
        let fits = width_fits in
        let ex : (i : ℕ) → i + w ≤ T.half → X i ≡ from j (bit s.X) i = λ i q. bit_moved j s.X mx i (omega arith) in
        let ey : (i : ℕ) → i + w ≤ T.half → Y i ≡ from j (bit s.Y) i = λ i q. bit_moved j s.Y my i (omega arith) in
        step-gains T (moved T j s)
        ∙ registers-path
        (shift-moved j s.X mx (gain_X T X Y L) (omega arith)
        ∙ ap (λ (v : ℕ). drop (suc j) s.X ++ (mx ++ (v ∷ []))) (gain_X-local X (from j (bit s.X)) Y (from j (bit s.Y)) L L ex ey refl))
        (shift-moved j s.Y my (gain_Y T X Y L) (omega arith)
        ∙ ap (λ (v : ℕ). drop (suc j) s.Y ++ (my ++ (v ∷ []))) (gain_Y-local X (from j (bit s.X)) Y (from j (bit s.Y)) L L ex ey refl))
        refl

    upto : (j : ℕ) → j ≤ w → steps T j s ≡ moved T j s
    unfolding steps steps_L moved tabulate
    upto zero less = registers-path (sym (append-nil s.X)) (sym (append-nil s.Y)) refl
    upto (suc j) less = ap (step T) (upto j (omega arith)) ∙ one_more j less

    pub steps-together : steps T w s ≡ moved T w s
    steps-together = upto w (le_refl w)
