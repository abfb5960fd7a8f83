-- Sums of lists of bits, bit by bit, and what is added from a place on.
use mathlib.Core.List.{List, [], ◌∷◌, ◌++◌}
use mathlib.Core.Path.{◌≡◌, refl, sym, ap, ap₂, ◌∙◌, subst}
use Prim.Native.Nat.{ℕ, zero, suc, ◌+◌, ◌%◌, ◌<◌, ◌≤◌}
use native.Mathlib.Nat.{le_of_suc-le-suc, not-suc-le-zero, suc-ne-zero, suc_inj, zero-add, suc-add}
use native.Mathlib.Omega.{arith}
use lib.ListN.{length, get_or, set, take, drop, replicate, length-append, length-drop, length-replicate, take-append-drop}
use lib.Seq.{ext_get_or, take_at, drop_at, length-take-le}
use Rattle.quark.specs.Sponge.{sum}
use Rattle.quark.proofs.Bits.{Bits, none, more, parity_lt, bits-append, bits-take, bits-drop}

cons-eq : {x y : ℕ} {xs ys : List ℕ} → x ≡ y → xs ≡ ys → x ∷ xs ≡ y ∷ ys
cons-eq p q = ap₂ (λ (a : ℕ) (l : List ℕ). a ∷ l) p q

-- ys is added from place k on
abbrev pub add_from : ℕ → List ℕ → List ℕ → List ℕ
add_from k s ys = take k s ++ sum (drop k s) ys

-- one bit is added at a place
abbrev pub add_at : List ℕ → (place bit : ℕ) → List ℕ
add_at s i x = set s i ((get_or s i 0 + x) % 2)

-- ---- sums

pub length-sum : (xs ys : List ℕ) → length (sum xs ys) ≡ length xs
unfolding sum
length-sum [] ys = refl
length-sum (x ∷ xs) [] = refl
length-sum (x ∷ xs) (y ∷ ys) = ap suc (length-sum xs ys)

pub bits-sum : {xs : List ℕ} (ys : List ℕ) → Bits xs → Bits (sum xs ys)
unfolding sum
bits-sum ys none = none
bits-sum [] (more p b) = more p b
bits-sum (y ∷ ys) (more p b) = more (parity_lt _) (bits-sum ys b)

sum-nil : (xs : List ℕ) → sum xs [] ≡ xs
unfolding sum
sum-nil [] = refl
sum-nil (x ∷ xs) = refl

take-sum : (k : ℕ) (xs ys : List ℕ) → take k (sum xs ys) ≡ sum (take k xs) (take k ys)
unfolding sum
take-sum zero xs ys = refl
take-sum (suc k) [] ys = refl
take-sum (suc k) (x ∷ xs) [] = refl
take-sum (suc k) (x ∷ xs) (y ∷ ys) = cons-eq refl (take-sum k xs ys)

pub drop-sum : (k : ℕ) (xs ys : List ℕ) → drop k (sum xs ys) ≡ sum (drop k xs) (drop k ys)
unfolding sum
drop-sum zero xs ys = refl
drop-sum (suc k) [] ys = refl
drop-sum (suc k) (x ∷ xs) [] = sym (sum-nil (drop k xs))
drop-sum (suc k) (x ∷ xs) (y ∷ ys) = drop-sum k xs ys

-- zeros at the end of what is added change no bit
sum_zeros : (xs : List ℕ) (n : ℕ) → Bits xs → sum xs (replicate n 0) ≡ xs
unfolding sum
sum_zeros [] n b = refl
sum_zeros (x ∷ xs) zero b = refl
sum_zeros (x ∷ xs) (suc n) (more p b) = cons-eq (omega arith) (sum_zeros xs n b)

sum-append_zeros : (xs ys : List ℕ) (n : ℕ) → Bits xs → sum xs (ys ++ replicate n 0) ≡ sum xs ys
unfolding sum
sum-append_zeros [] ys n b = refl
sum-append_zeros (x ∷ xs) [] n b = sum_zeros (x ∷ xs) n b
sum-append_zeros (x ∷ xs) (y ∷ ys) n (more p b) = cons-eq refl (sum-append_zeros xs ys n b)

-- element by element
get_or-sum : (xs ys : List ℕ) (i : ℕ) → i < length xs → i < length ys → get_or (sum xs ys) i 0 ≡ (get_or xs i 0 + get_or ys i 0) % 2
unfolding sum
get_or-sum [] ys i h g = absurd (not-suc-le-zero h)
get_or-sum (x ∷ xs) [] i h g = absurd (not-suc-le-zero g)
get_or-sum (x ∷ xs) (y ∷ ys) zero h g = refl
get_or-sum (x ∷ xs) (y ∷ ys) (suc i) h g = get_or-sum xs ys i (le_of_suc-le-suc h) (le_of_suc-le-suc g)

-- a + b and c + d are equal exactly when a + c and b + d are
swap_bits : (a b c d : ℕ) → (a + b) % 2 ≡ (c + d) % 2 → (a + c) % 2 ≡ (b + d) % 2
swap_bits a b c d e = omega arith

swap_sums : (a b c d : List ℕ) → length b ≡ length a → length c ≡ length a → length d ≡ length a → sum a b ≡ sum c d → sum a c ≡ sum b d
swap_sums a b c d hb hc hd e =
    ext_get_or 0 (sum a c) (sum b d) (length-sum a c ∙ sym hb ∙ sym (length-sum b d))
    (λ i h. let g : i < length a = subst (λ (n : ℕ). i < n) (length-sum a c) h in
    get_or-sum a c i g (omega arith)
    ∙ swap_bits (get_or a i 0) (get_or b i 0) (get_or c i 0) (get_or d i 0)
    (sym (get_or-sum a b i g (omega arith)) ∙ ap (λ (l : List ℕ). get_or l i 0) e ∙ get_or-sum c d i (omega arith) (omega arith))
    ∙ sym (get_or-sum b d i (omega arith) (omega arith)))

-- lists of bits as long differ nowhere exactly when they are equal
pub sum_same : (xs : List ℕ) → sum xs xs ≡ replicate (length xs) 0
unfolding sum
sum_same [] = refl
sum_same (x ∷ xs) = cons-eq (omega arith) (sum_same xs)

pub sum-zero : (xs ys : List ℕ) (n : ℕ) → length xs ≡ n → length ys ≡ n → Bits xs → Bits ys → sum xs ys ≡ replicate n 0 → xs ≡ ys
unfolding sum
sum-zero [] [] n h g bx by e = refl
sum-zero [] (y ∷ ys) n h g bx by e = absurd (suc-ne-zero (length ys) (g ∙ sym h))
sum-zero (x ∷ xs) [] n h g bx by e = absurd (suc-ne-zero (length xs) (h ∙ sym g))
sum-zero (x ∷ xs) (y ∷ ys) zero h g bx by e = absurd (suc-ne-zero (length xs) h)
sum-zero (x ∷ xs) (y ∷ ys) (suc n) h g (more px bx) (more py by) e =
    let p : (x + y) % 2 ≡ 0 = ap (λ (l : List ℕ). get_or l 0 0) e in
    cons-eq (omega arith) (sum-zero xs ys n (suc_inj h) (suc_inj g) bx by (ap (λ (l : List ℕ). drop 1 l) e))

-- ---- what is added from a place on

pub length-add_from : (k : ℕ) (s ys : List ℕ) → length (add_from k s ys) ≡ length s
length-add_from k s ys =
    length-append (take k s) (sum (drop k s) ys)
    ∙ ap (λ (n : ℕ). length (take k s) + n) (length-sum (drop k s) ys)
    ∙ sym (length-append (take k s) (drop k s))
    ∙ ap length (take-append-drop k s)

pub bits-add_from : (k : ℕ) {s : List ℕ} (ys : List ℕ) → Bits s → Bits (add_from k s ys)
bits-add_from k ys b = bits-append (bits-take k b) (bits-sum ys (bits-drop k b))

pub add_from_nil : (k : ℕ) (s : List ℕ) → add_from k s [] ≡ s
add_from_nil k s = ap (λ (l : List ℕ). take k s ++ l) (sum-nil (drop k s)) ∙ take-append-drop k s

-- what is added twice is gone
sum_twice : (xs ys : List ℕ) → Bits xs → sum (sum xs ys) ys ≡ xs
unfolding sum
sum_twice [] ys b = refl
sum_twice (x ∷ xs) [] b = refl
sum_twice (x ∷ xs) (y ∷ ys) (more p b) = cons-eq (omega arith) (sum_twice xs ys b)

pub add_from_twice : (k : ℕ) (s ys : List ℕ) → k ≤ length s → Bits s → add_from k (add_from k s ys) ys ≡ s
add_from_twice k s ys h b =
    let front = take k s in
    let n : length front ≡ k = length-take-le k s h in
    ap₂ (λ (a c : List ℕ). a ++ sum c ys) (take_at front (sum (drop k s) ys) k n) (drop_at front (sum (drop k s) ys) k n)
    ∙ ap (λ (l : List ℕ). front ++ l) (sum_twice (drop k s) ys (bits-drop k b))
    ∙ take-append-drop k s

pub add_from_zeros : (k : ℕ) (s ys : List ℕ) (n : ℕ) → Bits s → add_from k s (ys ++ replicate n 0) ≡ add_from k s ys
add_from_zeros k s ys n b = ap (λ (l : List ℕ). take k s ++ l) (sum-append_zeros (drop k s) ys n (bits-drop k b))

-- one more bit is added right after what is added already
sum-snoc : (s ys : List ℕ) (x : ℕ) → length ys < length s → add_at (sum s ys) (length ys) x ≡ sum s (ys ++ (x ∷ []))
unfolding sum
sum-snoc [] ys x h = absurd (not-suc-le-zero h)
sum-snoc (a ∷ s) [] x h = cons-eq refl (sym (sum-nil s))
sum-snoc (a ∷ s) (y ∷ ys) x h = cons-eq refl (sum-snoc s ys x (le_of_suc-le-suc h))

pub add_from_snoc : (k : ℕ) (s ys : List ℕ) (x : ℕ) → k + length ys < length s → add_at (add_from k s ys) (k + length ys) x ≡ add_from k s (ys ++ (x ∷ []))
add_from_snoc zero s ys x h = rw zero-add (sum-snoc s ys x (rw zero-add at h))
add_from_snoc (suc k) [] ys x h = absurd (not-suc-le-zero h)
add_from_snoc (suc k) (a ∷ s) ys x h = rw suc-add (cons-eq refl (add_from_snoc k s ys x (le_of_suc-le-suc (rw suc-add at h))))

-- what is added to two lists gives the same exactly when the lists differ by the difference of what is added, from k on, and nowhere before
module _ (k n : ℕ) (s t ys zs : List ℕ) (hs : length s ≡ k + n) (ht : length t ≡ k + n) (hy : length ys ≡ n) (hz : length zs ≡ n) where
  length_front : length (take k s) ≡ k
  length_front = length-take-le k s (omega arith)

  length-front' : length (take k t) ≡ k
  length-front' = length-take-le k t (omega arith)

  length_back : length (drop k s) ≡ n
  length_back = length-drop k s ∙ omega arith

  length-back' : length (drop k t) ≡ n
  length-back' = length-drop k t ∙ omega arith

  pub differ_of_same : add_from k s ys ≡ add_from k t zs → sum s t ≡ replicate k 0 ++ sum ys zs
  differ_of_same e =
      sym (take-append-drop k (sum s t))
      ∙ ap₂ (λ (a b : List ℕ). a ++ b)
      (take-sum k s t ∙ ap (λ (l : List ℕ). sum (take k s) l) (sym front) ∙ sum_same (take k s) ∙ ap (λ (m : ℕ). replicate m 0) length_front)
      (drop-sum k s t ∙ swap_sums (drop k s) ys (drop k t) zs (hy ∙ sym length_back) (length-back' ∙ sym length_back) (hz ∙ sym length_back) back)
    where
      front : take k s ≡ take k t
      front =
          sym (take_at (take k s) (sum (drop k s) ys) k length_front)
          ∙ ap (λ (l : List ℕ). take k l) e
          ∙ take_at (take k t) (sum (drop k t) zs) k length-front'

      back : sum (drop k s) ys ≡ sum (drop k t) zs
      back =
          sym (drop_at (take k s) (sum (drop k s) ys) k length_front)
          ∙ ap (λ (l : List ℕ). drop k l) e
          ∙ drop_at (take k t) (sum (drop k t) zs) k length-front'

  pub same-of_differ : Bits s → Bits t → sum s t ≡ replicate k 0 ++ sum ys zs → add_from k s ys ≡ add_from k t zs
  same-of_differ bs bt e =
      ap₂ (λ (a b : List ℕ). a ++ b)
      (sum-zero (take k s) (take k t) k length_front length-front' (bits-take k bs) (bits-take k bt)
      (sym (take-sum k s t) ∙ ap (λ (l : List ℕ). take k l) e ∙ take_at (replicate k 0) (sum ys zs) k (length-replicate k 0)))
      (swap_sums (drop k s) (drop k t) ys zs (length-back' ∙ sym length_back) (hy ∙ sym length_back) (hz ∙ sym length_back)
      (sym (drop-sum k s t) ∙ ap (λ (l : List ℕ). drop k l) e ∙ drop_at (replicate k 0) (sum ys zs) k (length-replicate k 0)))

  -- where the lists are equal and differ by that difference, what is added is equal
  pub same-added : s ≡ t → Bits ys → Bits zs → sum s t ≡ replicate k 0 ++ sum ys zs → ys ≡ zs
  same-added same by bz e =
      sum-zero ys zs n hy hz by bz
      (sym (drop_at (replicate k 0) (sum ys zs) k (length-replicate k 0))
      ∙ ap (drop k) (sym e ∙ ap (sum s) (sym same))
      ∙ drop-sum k s s
      ∙ sum_same (drop k s)
      ∙ ap (λ (m : ℕ). replicate m 0) length_back)
