-- Two messages that pad to equally many blocks close alike exactly when they are equal, or when they are not and the states just before
-- their last differing block differ by exactly the difference of those two blocks in the last r bits. So messages whose padded forms
-- differ in one block alone never close alike. For any regular instance: P can be undone, so blocks that are equal, and the squeezing
-- runs, neither make states equal nor keep them so unless they were.
use mathlib.Core.List.{List, List-discrete}
use mathlib.Core.Logic.{◌↔◌, ◌≢◌, ◌⊎◌, inl, inr}
use mathlib.Core.Path.{◌≡◌, refl, sym, ap, ◌∙◌, subst}
use Prim.Native.Nat.{ℕ, zero, suc, ◌+◌, ◌*◌, ◌-◌, ◌/◌, ◌≤◌, ◌<◌, zero-le}
use native.Mathlib.Nat.{le_refl, le_trans, le_of_lt, lt_irrefl, mul-le-mul_right}
use native.Mathlib.Decide.{ℕ_discrete}
use native.Mathlib.Omega.{arith}
use lib.ListN.{length}
use Rattle.quark.specs.Instance.{Instance}
use Rattle.quark.specs.Sponge.{Counted, pad, block_count, block, before, absorbed, closed}
use Rattle.quark.specs.CloseAlike.{CloseAlike, LastDiffering, OnlyDiffering, Cancels, Meet}
use Rattle.quark.proofs.Bits.{Bits}
use Rattle.quark.proofs.Blocks.{bits-block, length-block, blocks_all, before-suc, before_same, wide_before}
use Rattle.quark.proofs.Forward.{forward_before, forward_same, forward_injective, one_block, squeezed-same, squeezed-injective}
use Rattle.quark.proofs.Instance.{Regular}
use Rattle.quark.proofs.Padding.{pad-injective, bits-pad, length-blocks}
use Rattle.quark.proofs.Sums.{same-added}

-- ---- the last differing block of two lists of N blocks

module _ (I : Instance) (x y : List ℕ) (N : ℕ) where
  -- from block j on all blocks are equal
  last-below : (j : ℕ) → j ≤ N → ((i : ℕ) → j ≤ i → i < N → block I x i ≡ block I y i)
      → ((i : ℕ) → i < N → block I x i ≡ block I y i) ⊎ ((k : ℕ) × LastDiffering I x y N k)
  last-below zero h later = inl (λ i g. later i zero-le g)
  last-below (suc j) h later =
      elim (List-discrete ℕ_discrete (block I x j) (block I y j)) [
        | yes e ↦ last-below j (omega arith) (λ i g l. elim (ℕ_discrete j i) [
          | yes p ↦ subst (λ (a : ℕ). block I x a ≡ block I y a) p e
          | no p ↦ later i (omega arith) l
        ])
        | no d ↦ inr (j, record { within = h; differs = d; later = later })
      ]

  -- all blocks are equal, or one is the last that differs
  pub last-differing : ((i : ℕ) → i < N → block I x i ≡ block I y i) ⊎ ((k : ℕ) × LastDiffering I x y N k)
  last-differing = last-below N (le_refl N) (λ i g l. absurd (lt_irrefl i (le_trans l g)))

module _ (I : Instance) (R : Regular I) (x y : List ℕ) where
  -- before d equal blocks and after them: the states are equal at both points or at none
  pub equal_blocks : (k d : ℕ) → ((j : ℕ) → k ≤ j → j < k + d → block I x j ≡ block I y j)
      → (before I x k).bits ≡ (before I y k).bits ↔ (before I x (k + d)).bits ≡ (before I y (k + d)).bits
  equal_blocks k d same =
      let s = (before I x k).bits in
      let t = (before I y k).bits in (
        λ e. sym (forward_before I x k d) ∙ forward_same I x y k d s t same e ∙ forward_before I y k d,
        λ e. forward_injective I R x k d s t (wide_before I R x k) (wide_before I R y k)
            (forward_before I x k d ∙ e ∙ sym (forward_before I y k d) ∙ sym (forward_same I x y k d t t same refl)),
      )

  module _ (N : ℕ) (hx : length x ≡ N * I.r) (hy : length y ≡ N * I.r) where
    inside : (k : ℕ) → k < N → (length (block I x k) ≡ I.r) × (length (block I y k) ≡ I.r)
    inside k h =
        let within : suc k * I.r ≤ N * I.r = mul-le-mul_right I.r h in
        (length-block I x k (omega arith), length-block I y k (omega arith))

    -- right after a block the states are equal exactly when the difference of the blocks cancels that of the states
    pub equal_after : (k : ℕ) → k < N → (before I x (suc k)).bits ≡ (before I y (suc k)).bits ↔ Cancels I x y k
    equal_after k h =
        let one =
        one_block I R (before I x k).bits (before I y k).bits (block I x k) (block I y k) (wide_before I R x k) (wide_before I R y k)
        (inside k h).0 (inside k h).1 in
        (λ e. one.0 (sym (before-suc I x k) ∙ e ∙ before-suc I y k), λ e. before-suc I x k ∙ one.1 e ∙ sym (before-suc I y k))

    -- at the end, and at the last differing block
    pub at-last_differing : (k : ℕ) → LastDiffering I x y N k → (before I x N).bits ≡ (before I y N).bits ↔ Cancels I x y k
    at-last_differing k last =
        let less = last.within in
        let end : suc k + (N - suc k) ≡ N = omega arith in
        let later = subst (λ (n : ℕ). (before I x (suc k)).bits ≡ (before I y (suc k)).bits ↔ (before I x n).bits ≡ (before I y n).bits) end
        (equal_blocks (suc k) (N - suc k) (λ j g h. last.later j g (omega arith))) in
        (λ e. (equal_after k less).0 (later.1 e), λ e. later.0 ((equal_after k less).1 e))

    -- where the states just before a block are equal and the difference cancels, the blocks are equal
    pub equal_blocks_at : Bits x → Bits y → (k : ℕ) → k < N → (before I x k).bits ≡ (before I y k).bits → Cancels I x y k → block I x k ≡ block I y k
    equal_blocks_at bx by k h same e =
        let fits = R.rate_fits in
        same-added (I.b - I.r) I.r (before I x k).bits (before I y k).bits (block I x k) (block I y k) (omega (arith, (wide_before I R x k).0))
        (omega (arith, (wide_before I R y k).0)) (inside k h).0 (inside k h).1 same (bits-block I x k bx) (bits-block I y k by) e

    -- lists that differ in one block alone end apart
    one_differs : Bits x → Bits y → (k : ℕ) → OnlyDiffering I x y N k → (before I x N).bits ≢ (before I y N).bits
    one_differs bx by k only e =
        let less = only.within in
        let last : LastDiffering I x y N k = record { within = less; differs = only.differs; later = λ j g l. only.others j (omega arith) l } in
        let before-it : before I x k ≡ before I y k = before_same I x y k (λ j g. only.others j (omega arith) (le_trans g (le_of_lt less))) in
        only.differs (equal_blocks_at bx by k less (ap (λ (s : Counted). s.bits) before-it) ((at-last_differing k last).0 e))

-- ---- two messages with equally many blocks

module _ (I : Instance) (R : Regular I) (m m' : List ℕ) (same_count : block_count I m ≡ block_count I m') where
  long : length (pad I m) ≡ block_count I m * I.r
  long = length-blocks I R.some_rate m

  long' : length (pad I m') ≡ block_count I m * I.r
  long' = length-blocks I R.some_rate m' ∙ ap (λ (n : ℕ). n * I.r) (sym same_count)

  -- the squeezing runs neither join states nor part them
  alike_absorbed : CloseAlike I m m' ↔ (before I (pad I m) (block_count I m)).bits ≡ (before I (pad I m') (block_count I m)).bits
  unfolding closed absorbed
  alike_absorbed =
      let s = before I (pad I m) (block_count I m) in
      let t = before I (pad I m') (block_count I m') in
      let same_end : t.bits ≡ (before I (pad I m') (block_count I m)).bits = ap (λ (n : ℕ). (before I (pad I m') n).bits) (sym same_count) in
      let k = I.n / I.r - 1 in (
        λ e. squeezed-injective I R k s t (wide_before I R (pad I m) (block_count I m)) (wide_before I R (pad I m') (block_count I m')) e ∙ same_end,
        λ e. squeezed-same I k s t (e ∙ sym same_end),
      )

  pub close_alike : CloseAlike I m m' ↔ (m ≡ m') ⊎ Meet I m m'
  close_alike = (λ e. apart e (last-differing I (pad I m) (pad I m') (block_count I m)), together)
    where
      apart : CloseAlike I m m' → ((i : ℕ) → i < block_count I m → block I (pad I m) i ≡ block I (pad I m') i)
          ⊎ ((k : ℕ) × LastDiffering I (pad I m) (pad I m') (block_count I m) k) → (m ≡ m') ⊎ Meet I m m'
      apart e (inl all) = inl (pad-injective I m m' (blocks_all I R.some_rate (pad I m) (pad I m') (block_count I m) long long' all))
      apart e (inr f) =
          inr (record {
            not_equal = λ p. f.1.differs (ap (λ (z : List ℕ). block I (pad I z) f.0) p);
            at = f.0;
            last = f.1;
            cancels = (at-last_differing I R (pad I m) (pad I m') (block_count I m) long long' f.0 f.1).0 (alike_absorbed.0 e);
          })

      together : (m ≡ m') ⊎ Meet I m m' → CloseAlike I m m'
      together (inl e) = ap (λ (z : List ℕ). (closed I z).bits) e
      together (inr f) = alike_absorbed.1 ((at-last_differing I R (pad I m) (pad I m') (block_count I m) long long' f.at f.last).1 f.cancels)

  -- messages whose padded forms differ in one block alone never close alike
  pub one_block_apart : Bits m → Bits m' → (k : ℕ) → OnlyDiffering I (pad I m) (pad I m') (block_count I m) k → ¬ CloseAlike I m m'
  one_block_apart bm bm' k only e =
      one_differs I R (pad I m) (pad I m') (block_count I m) long long' (bits-pad I m bm) (bits-pad I m' bm') k only (alike_absorbed.0 e)
