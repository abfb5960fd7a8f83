-- Blocks of a list of bits, the state just before each, and that states are b bits.
use mathlib.Core.List.{List, [], ◌++◌}
use mathlib.Core.Path.{◌≡◌, refl, sym, ap, ap₂, ◌∙◌}
use Prim.Native.Nat.{ℕ, zero, suc, ◌+◌, ◌*◌, ◌-◌, ◌/◌, ◌%◌, ◌≤◌, ◌<◌}
use native.Mathlib.Nat.{le_trans, mod-lt, div-add-mod', mul-le-mul_right, div-lt_iff_lt-mul}
use native.Mathlib.Omega.{arith}
use lib.ListN.{length, get_or, take, drop, length-append, length-drop, drop_of_length-le}
use lib.Seq.{ext_get_or, take_all, length-take-le, take-append-le, drop-append-le, get_or-take, get_or-drop}
use Rattle.quark.specs.Step.{P}
use Rattle.quark.specs.Instance.{Instance}
use Rattle.quark.specs.Sponge.{Counted, run_P, add_last, absorb, block, before, absorbing, absorbed, squeezed, closed, pad, block_count}
use Rattle.quark.proofs.Bits.{Bits, Wide, bits-take, bits-drop}
use Rattle.quark.proofs.Instance.{Regular, P-wide}
use Rattle.quark.proofs.Sums.{length-add_from, bits-add_from}

module _ (I : Instance) where
  -- ---- blocks

  pub bits-block : (l : List ℕ) (k : ℕ) → Bits l → Bits (block I l k)
  unfolding block
  bits-block l k b = bits-take I.r (bits-drop (k * I.r) b)

  pub length-block : (l : List ℕ) (k : ℕ) → suc k * I.r ≤ length l → length (block I l k) ≡ I.r
  unfolding block
  length-block l k h = length-take-le I.r (drop (k * I.r) l) (rw length-drop (omega arith))

  pub block-append : (l x : List ℕ) (k : ℕ) → suc k * I.r ≤ length l → block I (l ++ x) k ≡ block I l k
  unfolding block
  block-append l x k h =
      ap (λ (a : List ℕ). take I.r a) (drop-append-le (k * I.r) l x (omega arith))
      ∙ take-append-le I.r (drop (k * I.r) l) x (rw length-drop (omega arith))

  -- the last block, in which x ends
  pub block-rest : (l x : List ℕ) (k : ℕ) → k * I.r ≤ length l → length l + length x ≤ suc k * I.r → block I (l ++ x) k ≡ block I l k ++ x
  unfolding block
  block-rest l x k h g =
      ap (λ (a : List ℕ). take I.r a) (drop-append-le (k * I.r) l x h)
      ∙ take_all I.r (drop (k * I.r) l ++ x) (simp (length-append, length-drop) (omega arith))
      ∙ ap (λ (a : List ℕ). a ++ x) (sym (take_all I.r (drop (k * I.r) l) (rw length-drop (omega arith))))

  pub block-past : (l : List ℕ) (k : ℕ) → length l ≤ k * I.r → block I l k ≡ []
  unfolding block
  block-past l k h = take_all I.r (drop (k * I.r) l) (rw length-drop (omega arith)) ∙ drop_of_length-le l h

  -- lists of N blocks are equal when their blocks are
  pub blocks_all : 0 < I.r → (x y : List ℕ) (N : ℕ) → length x ≡ N * I.r → length y ≡ N * I.r
      → ((j : ℕ) → j < N → block I x j ≡ block I y j) → x ≡ y
  unfolding block
  blocks_all pos x y N hx hy h =
      ext_get_or 0 x y (hx ∙ sym hy)
      (λ i g. sym (in_block x i) ∙ ap (λ (l : List ℕ). get_or l (i % I.r) 0) (h (i / I.r) ((div-lt_iff_lt-mul pos).1 (rw hx at g))) ∙ in_block y i)
    where
      in_block : (l : List ℕ) (i : ℕ) → get_or (block I l (i / I.r)) (i % I.r) 0 ≡ get_or l i 0
      in_block l i =
          get_or-take I.r (drop (i / I.r * I.r) l) (i % I.r) 0 (mod-lt i pos)
          ∙ get_or-drop (i / I.r * I.r) l (i % I.r) 0
          ∙ ap (λ (k : ℕ). get_or l k 0) (div-add-mod' i I.r)

  -- ---- the state just before a block

  -- through one block and its P
  pub before-suc : (l : List ℕ) (k : ℕ) → (before I l (suc k)).bits ≡ P I.taps (add_last I (before I l k).bits (block I l k))
  unfolding before run_P absorb
  before-suc l k = refl

  -- it depends on the blocks before it alone
  pub before_same : (x y : List ℕ) (k : ℕ) → ((j : ℕ) → j < k → block I x j ≡ block I y j) → before I x k ≡ before I y k
  unfolding before
  before_same x y zero h = refl
  before_same x y (suc k) h =
      ap₂ (λ (s : Counted) (l : List ℕ). run_P I (absorb I s l)) (before_same x y k (λ j g. h j (omega arith))) (h k (omega arith))

  pub before-append : (l x : List ℕ) (k : ℕ) → k * I.r ≤ length l → before I (l ++ x) k ≡ before I l k
  before-append l x k h = before_same (l ++ x) l k (λ j g. block-append l x j (le_trans (mul-le-mul_right I.r g) h))

  -- ---- states are b bits

  module _ (R : Regular I) where
    pub wide_add : (s ys : List ℕ) → Wide I.b s → Wide I.b (add_last I s ys)
    unfolding add_last
    wide_add s ys w = (length-add_from (I.b - I.r) s ys ∙ w.0, bits-add_from (I.b - I.r) ys w.1)

    pub wide_before : (l : List ℕ) (k : ℕ) → Wide I.b (before I l k).bits
    unfolding before run_P absorb
    wide_before l zero = R.wide_initial
    wide_before l (suc k) =
        let s = (before I l k).bits in
        P-wide I R (add_last I s (block I l k)) (wide_add s (block I l k) (wide_before l k))

    pub wide_squeezed : (k : ℕ) (s : Counted) → Wide I.b s.bits → Wide I.b (squeezed I k s).bits
    unfolding squeezed run_P
    wide_squeezed zero s w = w
    wide_squeezed (suc k) s w = P-wide I R (squeezed I k s).bits (wide_squeezed k s w)

    pub wide_absorbing : (m : List ℕ) → Wide I.b (absorbing I m).bits
    unfolding absorbing absorb
    wide_absorbing m = wide_add (before I m (length m / I.r)).bits (block I m (length m / I.r)) (wide_before m (length m / I.r))

    pub wide_closed : (m : List ℕ) → Wide I.b (closed I m).bits
    unfolding closed absorbed
    wide_closed m = wide_squeezed (I.n / I.r - 1) (absorbed I m) (wide_before (pad I m) (block_count I m))
