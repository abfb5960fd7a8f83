-- When two messages close alike (document 01, "Pieces and finish"): the terms of demand 3, for two messages of one instance whose padded
-- forms have equally many blocks.
use Rattle.std.specs.Prelude.{List, ◌++◌, ◌≢◌, ◌≡◌, ℕ, ◌-◌, ◌<◌, replicate}
use Rattle.quark.specs.Instance.{Instance}
use Rattle.quark.specs.Sponge.{sum, pad, block_count, block, before, closed}

module _ (I : Instance) where
  -- document 01's "close alike": all b bits of the closed states are equal
  abbrev pub CloseAlike : List ℕ → List ℕ → Type 0
  CloseAlike m m' = (closed I m).bits ≡ (closed I m').bits

  -- k is the last of `count` blocks in which x and y differ
  pub record LastDiffering (x y : List ℕ) (count k : ℕ) : Type 0 where
    pub within : k < count
    pub differs : block I x k ≢ block I y k
    pub later : (j : ℕ) → k < j → j < count → block I x j ≡ block I y j

  -- k is the only one of `count` blocks in which x and y differ
  pub record OnlyDiffering (x y : List ℕ) (count k : ℕ) : Type 0 where
    pub within : k < count
    pub differs : block I x k ≢ block I y k
    pub others : (j : ℕ) → j ≢ k → j < count → block I x j ≡ block I y j

  -- the states just before block k differ by exactly the difference of the two blocks in the last r bits, and nowhere else
  abbrev pub Cancels : (x y : List ℕ) (k : ℕ) → Type 0
  Cancels x y k = sum (before I x k).bits (before I y k).bits ≡ replicate (I.b - I.r) 0 ++ sum (block I x k) (block I y k)

  -- two messages that are not equal, with their last differing block, at which the states differ by the difference of the blocks
  pub record Meet (m m' : List ℕ) : Type 0 where
    pub not_equal : m ≢ m'
    pub at : ℕ
    pub last : LastDiffering (pad I m) (pad I m') (block_count I m) at
    pub cancels : Cancels (pad I m) (pad I m') at
