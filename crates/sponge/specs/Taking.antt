-- Taking bits one by one and finishing (document 01, "Pieces and finish"), and more blocks after it (document 02, 2.1), on what a state
-- holds.
use Rattle.std.specs.Prelude.{cond, List, [], ◌∷◌, ℕ, ◌+◌, ◌-◌, ◌/◌, ◌%◌, eqb, set}
use Rattle.quark.specs.Bytes.{bit}
use Rattle.quark.specs.Instance.{Instance}
use Rattle.quark.specs.Sponge.{Counted, run_P, squeezed, output}

-- how many bits were taken, how many extra blocks were given out since the finish, the state's bits, and how often P has run
pub record Content : Type 0 where
  pub total : ℕ
  pub extra : ℕ
  pub sponge : Counted

-- the same with other bits and runs
abbrev pub holding : Content → Counted → Content
holding h s = record { total = h.total; extra = h.extra; sponge = s }

module _ (I : Instance) where
  -- where the next bit goes
  unfoldable pub bit_index : ℕ → ℕ
  bit_index total = I.b - I.r + total % I.r

  -- a bit is added at an index
  unfoldable pub add_bit : ℕ → ℕ → Counted → Counted
  add_bit at x s = record { bits = set s.bits at ((bit s.bits at + x) % 2); runs = s.runs }

  -- one bit: it is added at its index and counted, and where it is the last of its block, P runs
  unfoldable pub take_bit : Content → ℕ → Content
  take_bit h x =
      let total = h.total + 1 in
      let added = add_bit (bit_index h.total) x h.sponge in
      record { total = total; extra = h.extra; sponge = cond (eqb (total % I.r) 0) (run_P I added) added }

  -- the bits of a piece, in order
  unfoldable pub take_bits : Content → List ℕ → Content
  take_bits h [] = h
  take_bits h (x ∷ xs) = take_bits (take_bit h x) xs

  -- the 1 of the padding goes where the next bit would, and P runs; the total stays that of the message
  unfoldable pub after_padding : Content → Counted
  after_padding h = run_P I (add_bit (bit_index h.total) 1 h.sponge)

  -- then n/r blocks are given out, each the last r bits, and from one to the next P runs: what is given out, and what is held after it
  unfoldable pub finish_output : Content → List ℕ
  finish_output h = output I (I.n / I.r) (after_padding h)

  unfoldable pub finished : Content → Content
  finished h = holding h (squeezed I (I.n / I.r - 1) (after_padding h))

  -- k extra blocks: for each P runs once, and then the last r bits are given out; what is given out, and what is held after it
  unfoldable pub squeeze_output : ℕ → Content → List ℕ
  squeeze_output k h = output I k (run_P I h.sponge)

  unfoldable pub extra_squeezed : ℕ → Content → Content
  extra_squeezed k h = record { total = h.total; extra = h.extra + k; sponge = squeezed I k h.sponge }
