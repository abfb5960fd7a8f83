-- The sponge (QUARK 3.1; document 01, "Pieces and finish"): the padded form, its blocks, absorbing and squeezing, over P of an instance.
-- Each application of P is counted where it is made.
use Rattle.std.specs.Prelude.{List, [], ◌∷◌, ◌++◌, ℕ, zero, suc, ◌+◌, ◌*◌, ◌-◌, ◌/◌, ◌%◌, length, take, drop, replicate}
use Rattle.quark.specs.Step.{P}
use Rattle.quark.specs.Instance.{Instance}

-- the sum bit by bit; where the second list ends, the first goes on. Of two lists as long it is document 01's difference.
unfoldable pub sum : List ℕ → List ℕ → List ℕ
sum [] ys = []
sum (x ∷ xs) [] = x ∷ xs
sum (x ∷ xs) (y ∷ ys) = (x + y) % 2 ∷ sum xs ys

-- the bits of a state, and document 01's runs: how often P has run to make them
pub record Counted : Type 0 where
  pub bits : List ℕ
  pub runs : ℕ

module _ (I : Instance) where
  -- P runs once
  unfoldable pub run_P : Counted → Counted
  run_P s = record { bits = P I.taps s.bits; runs = suc s.runs }

  -- bits are added, modulo 2, to a state's last bits, the first of them at place b - r
  unfoldable pub add_last : List ℕ → List ℕ → List ℕ
  add_last s ys = take (I.b - I.r) s ++ sum (drop (I.b - I.r) s) ys

  unfoldable pub absorb : Counted → List ℕ → Counted
  absorb s ys = record { bits = add_last s.bits ys; runs = s.runs }

  -- document 01's padded form: a 1 after the message, and then zeros up to the end of a block
  unfoldable pub pad : List ℕ → List ℕ
  pad m = m ++ (1 ∷ replicate (I.r - 1 - length m % I.r) 0)

  -- how many blocks a message pads to
  unfoldable pub block_count : List ℕ → ℕ
  block_count m = length (pad m) / I.r

  -- block k, counted from 0: r bits, or as many as are left
  unfoldable pub block : List ℕ → ℕ → List ℕ
  block l k = take I.r (drop (k * I.r) l)

  -- document 01's state just before block k: the initial bits, with each earlier block added in order and a run of P after each
  unfoldable pub before : List ℕ → ℕ → Counted
  before l zero = record { bits = I.initial; runs = 0 }
  before l (suc k) = run_P (absorb (before l k) (block l k))

  -- the state of an open message: its full blocks have gone in with P after each, and what is left is added
  unfoldable pub absorbing : List ℕ → Counted
  absorbing m = absorb (before m (length m / I.r)) (block m (length m / I.r))

  -- after the absorbing phase
  unfoldable pub absorbed : List ℕ → Counted
  absorbed m = before (pad m) (block_count m)

  -- the squeezing phase: P, k times
  unfoldable pub squeezed : ℕ → Counted → Counted
  squeezed zero s = s
  squeezed (suc k) s = run_P (squeezed k s)

  -- the last r bits, k times, with P between
  unfoldable pub output : ℕ → Counted → List ℕ
  output zero s = []
  output (suc k) s = output k s ++ drop (I.b - I.r) (squeezed k s).bits

  -- document 01's closed state: n/r times the last r bits have been given out
  unfoldable pub closed : List ℕ → Counted
  closed m = squeezed (I.n / I.r - 1) (absorbed m)

  unfoldable pub digest : List ℕ → List ℕ
  digest m = output (I.n / I.r) (absorbed m)
