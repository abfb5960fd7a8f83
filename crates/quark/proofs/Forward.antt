-- From any b bits through the blocks of a list, each added to the last bits and followed by P, and through the squeezing runs; and back. For
-- any regular instance each of these can be undone, so that no two states lead to one.
use mathlib.Core.List.{List, ◌++◌}
use mathlib.Core.Logic.{◌↔◌}
use mathlib.Core.Path.{◌≡◌, refl, sym, ap, ap₂, ◌∙◌}
use Prim.Native.Nat.{ℕ, zero, suc, ◌+◌, ◌-◌, ◌≤◌, ◌<◌}
use native.Mathlib.Nat.{add-zero, add-suc}
use native.Mathlib.Omega.{arith}
use lib.ListN.{length, replicate}
use Rattle.quark.specs.Step.{P}
use Rattle.quark.specs.Inverse.{undo_P}
use Rattle.quark.specs.Instance.{Instance}
use Rattle.quark.specs.Sponge.{sum, Counted, run_P, add_last, block, before, squeezed}
use Rattle.quark.proofs.Bits.{Wide}
use Rattle.quark.proofs.Blocks.{before-suc, wide_add, wide_squeezed}
use Rattle.quark.proofs.Instance.{Regular, P-wide, undo_P-P}
use Rattle.quark.proofs.Sums.{add_from_twice, differ_of_same, same-of_differ}

module _ (I : Instance) where
  -- the bits after d blocks of l from block k on, from the bits s before them
  unfoldable pub forward : List ℕ → (k d : ℕ) → List ℕ → List ℕ
  forward l k zero s = s
  forward l k (suc d) s = P I.taps (add_last I (forward l k d s) (block I l (k + d)))

  -- the bits before these blocks, from the bits s after them: from the last block on, P is undone and the block is added again
  unfoldable pub backward : List ℕ → (k d : ℕ) → List ℕ → List ℕ
  backward l k zero s = s
  backward l k (suc d) s = backward l k d (add_last I (undo_P I.taps s) (block I l (k + d)))

  -- k runs of P undone
  unfoldable pub unsqueezed : ℕ → List ℕ → List ℕ
  unsqueezed zero s = s
  unsqueezed (suc k) s = unsqueezed k (undo_P I.taps s)

  -- from the state before block k
  pub forward_before : (l : List ℕ) (k d : ℕ) → forward l k d (before I l k).bits ≡ (before I l (k + d)).bits
  unfolding forward
  forward_before l k zero = ap (λ (n : ℕ). (before I l n).bits) (sym (add-zero k))
  forward_before l k (suc d) =
      ap (λ (s : List ℕ). P I.taps (add_last I s (block I l (k + d)))) (forward_before l k d)
      ∙ sym (before-suc I l (k + d))
      ∙ ap (λ (n : ℕ). (before I l n).bits) (sym (add-suc k d))

  -- equal blocks lead equal bits to equal bits
  pub forward_same : (x y : List ℕ) (k d : ℕ) (s t : List ℕ) → ((j : ℕ) → k ≤ j → j < k + d → block I x j ≡ block I y j) → s ≡ t
      → forward x k d s ≡ forward y k d t
  unfolding forward
  forward_same x y k zero s t same e = e
  forward_same x y k (suc d) s t same e =
      ap₂ (λ (a u : List ℕ). P I.taps (add_last I a u)) (forward_same x y k d s t (λ j g h. same j g (omega arith)) e)
      (same (k + d) (omega arith) (omega arith))

  pub squeezed-same : (k : ℕ) (s t : Counted) → s.bits ≡ t.bits → (squeezed I k s).bits ≡ (squeezed I k t).bits
  unfolding squeezed run_P
  squeezed-same zero s t e = e
  squeezed-same (suc k) s t e = ap (P I.taps) (squeezed-same k s t e)

module _ (I : Instance) (R : Regular I) where
  pub P-injective : (s t : List ℕ) → Wide I.b s → Wide I.b t → P I.taps s ≡ P I.taps t → s ≡ t
  P-injective s t ws wt e = sym (undo_P-P I R s ws) ∙ ap (undo_P I.taps) e ∙ undo_P-P I R t wt

  -- ---- one block

  -- one block and its P undone: P is undone and the block is added again
  pub undo_block : (s u : List ℕ) → Wide I.b s → add_last I (undo_P I.taps (P I.taps (add_last I s u))) u ≡ s
  unfolding add_last
  undo_block s u w =
      ap (λ (t : List ℕ). add_last I t u) (undo_P-P I R (add_last I s u) (wide_add I R s u w))
      ∙ add_from_twice (I.b - I.r) s u (omega (arith, w.0)) w.1

  -- two states lead through a block each to one state exactly when they differ by the difference of the blocks in the last r bits
  pub one_block : (s t u v : List ℕ) → Wide I.b s → Wide I.b t → length u ≡ I.r → length v ≡ I.r
      → P I.taps (add_last I s u) ≡ P I.taps (add_last I t v) ↔ sum s t ≡ replicate (I.b - I.r) 0 ++ sum u v
  unfolding add_last
  one_block s t u v ws wt lu lv =
      let fits = R.rate_fits in
      let ls : length s ≡ I.b - I.r + I.r = omega (arith, ws.0) in
      let lt : length t ≡ I.b - I.r + I.r = omega (arith, wt.0) in (
        λ e. differ_of_same (I.b - I.r) I.r s t u v ls lt lu lv
            (P-injective (add_last I s u) (add_last I t v) (wide_add I R s u ws) (wide_add I R t v wt) e),
        λ e. ap (P I.taps) (same-of_differ (I.b - I.r) I.r s t u v ls lt lu lv ws.1 wt.1 e),
      )

  -- ---- several blocks

  pub wide_forward : (l : List ℕ) (k d : ℕ) (s : List ℕ) → Wide I.b s → Wide I.b (forward I l k d s)
  unfolding forward
  wide_forward l k zero s w = w
  wide_forward l k (suc d) s w =
      let t = forward I l k d s in
      P-wide I R (add_last I t (block I l (k + d))) (wide_add I R t (block I l (k + d)) (wide_forward l k d s w))

  pub backward_forward : (l : List ℕ) (k d : ℕ) (s : List ℕ) → Wide I.b s → backward I l k d (forward I l k d s) ≡ s
  unfolding forward backward
  backward_forward l k zero s w = refl
  backward_forward l k (suc d) s w =
      ap (backward I l k d) (undo_block (forward I l k d s) (block I l (k + d)) (wide_forward l k d s w)) ∙ backward_forward l k d s w

  pub forward_injective : (l : List ℕ) (k d : ℕ) (s t : List ℕ) → Wide I.b s → Wide I.b t → forward I l k d s ≡ forward I l k d t → s ≡ t
  forward_injective l k d s t ws wt e =
      sym (backward_forward l k d s ws) ∙ ap (backward I l k d) e ∙ backward_forward l k d t wt

  -- ---- the squeezing runs

  pub unsqueezed_squeezed : (k : ℕ) (s : Counted) → Wide I.b s.bits → unsqueezed I k (squeezed I k s).bits ≡ s.bits
  unfolding unsqueezed squeezed run_P
  unsqueezed_squeezed zero s w = refl
  unsqueezed_squeezed (suc k) s w =
      ap (unsqueezed I k) (undo_P-P I R (squeezed I k s).bits (wide_squeezed I R k s w)) ∙ unsqueezed_squeezed k s w

  pub squeezed-injective : (k : ℕ) (s t : Counted) → Wide I.b s.bits → Wide I.b t.bits → (squeezed I k s).bits ≡ (squeezed I k t).bits → s.bits ≡ t.bits
  squeezed-injective k s t ws wt e = sym (unsqueezed_squeezed k s ws) ∙ ap (unsqueezed I k) e ∙ unsqueezed_squeezed k t wt
