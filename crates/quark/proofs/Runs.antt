-- How often the definition runs P: once for each block before a state, total div r times while absorbing, and n/r times more until the
-- state is closed. The squeezing phase in parts: j runs and then k are j + k at once, and so are the blocks given out.
use mathlib.Core.List.{List, ◌++◌, append_assoc, append-nil}
use mathlib.Core.Path.{◌≡◌, refl, sym, ap, ap₂, ◌∙◌}
use Prim.Native.Nat.{ℕ, zero, suc, ◌+◌, ◌-◌, ◌/◌}
use native.Mathlib.Nat.{add-zero, add-suc}
use native.Mathlib.Omega.{arith}
use lib.ListN.{length, drop}
use Rattle.quark.specs.Instance.{Instance}
use Rattle.quark.specs.Sponge.{Counted, run_P, absorb, pad, block_count, before, absorbing, absorbed, squeezed, output, closed}
use Rattle.quark.proofs.Instance.{Regular}
use Rattle.quark.proofs.Padding.{block-count}

module _ (I : Instance) where
  pub runs-before : (l : List ℕ) (k : ℕ) → (before I l k).runs ≡ k
  unfolding before run_P absorb
  runs-before l zero = refl
  runs-before l (suc k) = omega (arith, runs-before l k)

  pub runs-absorbing : (m : List ℕ) → (absorbing I m).runs ≡ length m / I.r
  unfolding absorbing absorb
  runs-absorbing m = runs-before m (length m / I.r)

  pub runs-squeezed : (k : ℕ) (s : Counted) → (squeezed I k s).runs ≡ s.runs + k
  unfolding squeezed run_P
  runs-squeezed zero s = omega arith
  runs-squeezed (suc k) s = omega (arith, runs-squeezed k s)

  -- j runs, and then k
  pub squeezed-squeezed : (j k : ℕ) (s : Counted) → squeezed I k (squeezed I j s) ≡ squeezed I (j + k) s
  unfolding squeezed
  squeezed-squeezed j zero s = ap (λ (n : ℕ). squeezed I n s) (sym (add-zero j))
  squeezed-squeezed j (suc k) s = ap (run_P I) (squeezed-squeezed j k s) ∙ ap (λ (n : ℕ). squeezed I n s) (sym (add-suc j k))

  -- one run, and then k
  pub squeezed-run : (k : ℕ) (s : Counted) → squeezed I k (run_P I s) ≡ squeezed I (suc k) s
  unfolding squeezed
  squeezed-run k s = let next : 1 + k ≡ suc k = omega arith in squeezed-squeezed 1 k s ∙ ap (λ (n : ℕ). squeezed I n s) next

  -- j blocks, and then k from where they end
  pub output-append : (j k : ℕ) (s : Counted) → output I j s ++ output I k (squeezed I j s) ≡ output I (j + k) s
  unfolding output
  output-append j zero s = append-nil (output I j s) ∙ ap (λ (n : ℕ). output I n s) (sym (add-zero j))
  output-append j (suc k) s =
      sym (append_assoc (output I j s) (output I k (squeezed I j s)) (drop (I.b - I.r) (squeezed I k (squeezed I j s)).bits))
      ∙ ap₂ (λ (l : List ℕ) (c : Counted). l ++ drop (I.b - I.r) c.bits) (output-append j k s) (squeezed-squeezed j k s)
      ∙ ap (λ (n : ℕ). output I n s) (sym (add-suc j k))

  pub runs_closed : Regular I → (m : List ℕ) → (closed I m).runs ≡ length m / I.r + I.n / I.r
  unfolding closed absorbed
  runs_closed R m =
      runs-squeezed (I.n / I.r - 1) (before I (pad I m) (block_count I m))
      ∙ omega (arith, runs-before (pad I m) (block_count I m), block-count I R.some_rate m, R.some_output)

  -- one run more on a closed state with e more: n/r + e runs since the last block was absorbed
  pub run-closed : Regular I → (e : ℕ) (m : List ℕ) → run_P I (squeezed I e (closed I m)) ≡ squeezed I (I.n / I.r + e) (absorbed I m)
  unfolding closed squeezed
  run-closed R e m =
      let all : suc (I.n / I.r - 1 + e) ≡ I.n / I.r + e = omega (arith, R.some_output) in
      ap (run_P I) (squeezed-squeezed (I.n / I.r - 1) e (absorbed I m)) ∙ ap (λ (n : ℕ). squeezed I n (absorbed I m)) all

  -- the blocks that follow the digest and e more go on with the definition's output
  pub output-goes_on : Regular I → (e k : ℕ) (m : List ℕ)
      → output I (I.n / I.r + e) (absorbed I m) ++ output I k (run_P I (squeezed I e (closed I m))) ≡ output I (I.n / I.r + e + k) (absorbed I m)
  output-goes_on R e k m =
      ap (λ (c : Counted). output I (I.n / I.r + e) (absorbed I m) ++ output I k c) (run-closed R e m) ∙ output-append (I.n / I.r + e) k (absorbed I m)
