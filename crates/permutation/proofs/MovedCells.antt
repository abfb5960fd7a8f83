-- Cells that hold X, then Y, then others: moved down or up by one, with two bits set, they hold X and Y after a step or before it.
use Rattle.std.specs.Prelude.{◌≡◌, ℕ, suc, ◌+◌, ◌-◌, ◌<◌, ◌≤◌, List, [], ◌∷◌, ◌++◌, length, get_or, take, drop, set}
use mathlib.Core.Path.{refl, sym, ap, ap₂, ◌∙◌}
use mathlib.Core.List.{append_assoc}
use native.Mathlib.Nat.{not-suc-le-zero, zero-add, sub-zero}
use native.Mathlib.Omega.{arith}
use lib.ListN.{length-append, length-take}
use lib.Seq.{drop-cons, set_at, take_at, drop_at, take-append-le, take-append-add, length-take-le}
use Rattle.std.specs.List.{copy_within}
use Rattle.quark.specs.Step.{shift}
use Rattle.quark.specs.Inverse.{unshift}
use Rattle.quark.proofs.Bits.{split_last}

-- the first b cells moved down by one, and moved up by one
abbrev pub down : ℕ → List ℕ → List ℕ
down b c = take (b - 1) (drop 1 c) ++ drop (b - 1) c

abbrev pub up : ℕ → List ℕ → List ℕ
up b c = take 1 c ++ (take (b - 1) c ++ drop b c)

-- copied within by one
pub copied_down : (c : List ℕ) (b : ℕ) → copy_within c 1 b 0 ≡ down b c
copied_down c b = ap (λ (k : ℕ). take (b - 1) (drop 1 c) ++ drop k c) (zero-add (b - 1))

pub copied-up : (c : List ℕ) (b : ℕ) → 0 < b → copy_within c 0 (b - 1) 1 ≡ up b c
copied-up c b z =
    let e : 1 + (b - 1) ≡ b = omega arith in
    ap (λ (n : ℕ). (take 1 c ++ take n c) ++ drop (1 + n) c) (sub-zero (b - 1))
    ∙ ap (λ (k : ℕ). (take 1 c ++ take (b - 1) c) ++ drop k c) e
    ∙ append_assoc (take 1 c) (take (b - 1) c) (drop b c)

-- ---- X, then Y, then others

-- moved down by one, with a new bit at the end of X and of Y
pub down_two : (X Y R : List ℕ) (h x y : ℕ) → 0 < h → length X ≡ h → length Y ≡ h
    → set (set (down (h + h) (X ++ (Y ++ R))) (h - 1) x) (h + h - 1) y ≡ shift X x ++ (shift Y y ++ R)
unfolding shift
down_two [] Y R h x y z p q = absurd (omega arith)
down_two (x0 ∷ X) [] R h x y z p q = absurd (omega arith)
down_two (x0 ∷ X) (y0 ∷ Y) R h x y z p q =
    let last = h + h - 1 in
    let c = x0 ∷ (X ++ (y0 ∷ (Y ++ R))) in
    let v = get_or c last 0 in
    let n : length X ≡ h - 1 = omega arith in
    let m : length (X ++ (y0 ∷ Y)) ≡ last = simp length-append (omega arith) in
    let m' : length (X ++ (x ∷ Y)) ≡ last = simp length-append (omega arith) in
    let k : last < length c = simp length-append (omega arith) in
    let front : take last (X ++ (y0 ∷ (Y ++ R))) ≡ X ++ (y0 ∷ Y) =
    ap (λ (l : List ℕ). take last l) (sym (append_assoc X (y0 ∷ Y) R)) ∙ take_at (X ++ (y0 ∷ Y)) R last m in
    let back : drop last c ≡ v ∷ R =
    drop-cons c last 0 k
    ∙ ap (λ (l : List ℕ). v ∷ drop last l) (sym (append_assoc X (y0 ∷ Y) R))
    ∙ ap (λ (l : List ℕ). v ∷ l) (drop_at (X ++ (y0 ∷ Y)) R last m) in
    ap₂ (λ (a b : List ℕ). set (set (a ++ b) (h - 1) x) last y) front back
    ∙ ap (λ (l : List ℕ). set (set l (h - 1) x) last y) (append_assoc X (y0 ∷ Y) (v ∷ R))
    ∙ ap (λ (l : List ℕ). set l last y) (set_at X y0 (Y ++ (v ∷ R)) x (h - 1) n)
    ∙ ap (λ (l : List ℕ). set l last y) (sym (append_assoc X (x ∷ Y) (v ∷ R)))
    ∙ set_at (X ++ (x ∷ Y)) v R y last m'
    ∙ simp append_assoc

-- 0 for the first of the cells
first-zero : (c Z : List ℕ) → 0 < length c → set (take 1 c ++ Z) 0 0 ≡ 0 ∷ Z
first-zero [] Z p = absurd (not-suc-le-zero p)
first-zero (v ∷ c) Z p = refl

-- the cells but the last of Y, and the cells after Y
up_front : (X Y R : List ℕ) (h : ℕ) → 0 < h → length X ≡ h → length Y ≡ h → take (h + h - 1) (X ++ (Y ++ R)) ≡ X ++ take (h - 1) Y
up_front X Y R h z p q =
    let e : h + h - 1 ≡ length X + (h - 1) = omega arith in
    let k : h - 1 ≤ length Y = omega arith in
    ap (λ (n : ℕ). take n (X ++ (Y ++ R))) e
    ∙ take-append-add X (Y ++ R) (h - 1)
    ∙ ap (λ (l : List ℕ). X ++ l) (take-append-le (h - 1) Y R k)

up_back : (X Y R : List ℕ) (h : ℕ) → length X ≡ h → length Y ≡ h → drop (h + h) (X ++ (Y ++ R)) ≡ R
up_back X Y R h p q =
    let n : length (X ++ Y) ≡ h + h = simp length-append (omega arith) in
    ap (drop (h + h)) (sym (append_assoc X Y R)) ∙ drop_at (X ++ Y) R (h + h) n

-- moved up by one, with 0 in front of X and of Y
pub up_two : (X Y R : List ℕ) (h : ℕ) → 0 < h → length X ≡ h → length Y ≡ h
    → set (set (up (h + h) (X ++ (Y ++ R))) 0 0) h 0 ≡ unshift 0 X ++ (unshift 0 Y ++ R)
unfolding unshift
up_two X Y R h z p q =
    let n = h - 1 in
    let v = get_or X n 0 in
    let e : h ≡ suc n = omega arith in
    let nx : n ≡ length X - 1 = omega arith in
    let ny : n ≡ length Y - 1 = omega arith in
    let front : take (h + h - 1) (X ++ (Y ++ R)) ≡ X ++ take n Y = up_front X Y R h z p q in
    let back : drop (h + h) (X ++ (Y ++ R)) ≡ R = up_back X Y R h p q in
    let regroup : (X ++ take n Y) ++ R ≡ take n X ++ (v ∷ (take n Y ++ R)) =
    ap (λ (l : List ℕ). (l ++ take n Y) ++ R) (sym (split_last n X (omega arith))) ∙ simp append_assoc in
    ap (λ (l : List ℕ). set l h 0) (first-zero (X ++ (Y ++ R)) _ (simp length-append (omega arith)))
    ∙ ap₂ (λ (a c : List ℕ). set (0 ∷ (a ++ c)) h 0) front back
    ∙ ap₂ (λ (l : List ℕ) (k : ℕ). set (0 ∷ l) k 0) regroup e
    ∙ ap (λ (l : List ℕ). 0 ∷ l) (set_at (take n X) v (take n Y ++ R) 0 n (length-take-le n X (omega arith)))
    ∙ ap₂ (λ (j k : ℕ). 0 ∷ (take j X ++ (0 ∷ (take k Y ++ R)))) nx ny

length-unshift : (v : ℕ) (X : List ℕ) → 0 < length X → length (unshift v X) ≡ length X
unfolding unshift
length-unshift v X p = simp length-take (omega arith)

-- other bits in front of X and of Y
pub set-fronts : (X Y R : List ℕ) (h x y x0 y0 : ℕ) → 0 < h → length X ≡ h
    → set (set (unshift x X ++ (unshift y Y ++ R)) h y0) 0 x0 ≡ unshift x0 X ++ (unshift y0 Y ++ R)
unfolding unshift
set-fronts X Y R h x y x0 y0 z p =
    let n : length (unshift x X) ≡ h = length-unshift x X (omega arith) ∙ p in
    ap (λ (l : List ℕ). set l 0 x0) (set_at (unshift x X) y (take (length Y - 1) Y ++ R) y0 h n)
