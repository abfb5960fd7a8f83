-- What each operation answers, for every input (document 01, "Pieces and finish"; document 02, 2.1 and 2.5; the lines are those of
-- docs/RULES.md). Where a call is refused, the lent bytes are as they were, and so is the state, where one was given.
use Rattle.std.specs.Prelude.{Bool, not, ◌&&◌, ◌||◌, cond, List, [], ◌∷◌, ℕ, ◌+◌, ◌*◌, ◌-◌, ◌/◌, ◌%◌, leb, ltb, eqb, length}
use Rattle.refusals.specs.Lines.{first_line, line5}
use Rattle.refusals.specs.Outcome.{Outcome, outcome, outcome_of}
use Rattle.quark.specs.Bytes.{bits_of, bytes_of}
use Rattle.quark.specs.Instance.{instance_of, state_bytes}
use Rattle.quark.specs.Sponge.{digest}
use Rattle.permutation.specs.Lines.{line1, line4}
use Rattle.sponge.specs.declared.State.{State}
use Rattle.sponge.specs.declared.Reply.{Reply}
use Rattle.sponge.specs.Taking.{take_bits, finish_output, finished, squeeze_output, extra_squeezed}
use Rattle.sponge.specs.Soundness.{limit, extra_limit, most_blocks, absorbing_phase, closed_phase, sound, content_of, state_with, fresh, all_zeros}
use Rattle.sponge.specs.Marks.{mark_size, most_mark_bytes, mark_of, state_in, ends_in_zeros, with_mark, up_to_latest, found}

-- ---- the lines

-- 2. The state is not sound.
unfoldable pub line2 : State → Bool
line2 s = not (sound s)

-- 3. The state is closed and takes nothing more, or absorbing and gives out no blocks yet.
-- For a piece and a finish: it is closed.
unfoldable pub line3 : State → Bool
line3 s = eqb s.phase closed_phase

-- For a squeeze: it is absorbing.
unfoldable pub line3_squeeze : State → Bool
line3_squeeze s = eqb s.phase absorbing_phase

-- 6. There are fewer bits than the count says.
unfoldable pub line6 : (bytes count : ℕ) → Bool
line6 bytes count = ltb (8 * bytes) count

-- 7. The message would have more than 16,777,215 bits.
unfoldable pub line7 : (total count : ℕ) → Bool
line7 total count = ltb limit (total + count)

-- 8. The padded message does not end with a whole block.
unfoldable pub line8 : (i total : ℕ) → Bool
line8 i total = not (eqb ((total + 1 + ((instance_of i).r - 1 - total % (instance_of i).r)) % (instance_of i).r) 0)

-- 14. The number of blocks asked for is not 1 to 1,024.
unfoldable pub line14 : (k : ℕ) → Bool
line14 k = ltb k 1 || ltb most_blocks k

-- 15. The state would have given out more than 1,048,576 extra blocks.
unfoldable pub line15 : (extra k : ℕ) → Bool
line15 extra k = ltb extra_limit (extra + k)

-- 17. The buffer is not 0 to 1,000 whole marks, or has fewer marks than the count says.
unfoldable pub line17 : (bytes count : ℕ) → Bool
line17 bytes count = ltb most_mark_bytes bytes || not (eqb (bytes % mark_size) 0) || ltb (bytes / mark_size) count

-- 18. No mark in use has the name.
unfoldable pub line18 : (name buffer : List ℕ) (count : ℕ) → Bool
line18 name buffer count = eqb (up_to_latest name buffer count) 0

-- 19. Every mark of the buffer is in use.
unfoldable pub line19 : (bytes count : ℕ) → Bool
line19 bytes count = leb (bytes / mark_size) count

-- 2, for a mark that is found: its state is not sound, or one of its last two bytes is not zero.
unfoldable pub line2_mark : List ℕ → Bool
line2_mark mark = not (ends_in_zeros mark && sound (state_in mark))

-- ---- a call's answer with the state that it hands back

pub record Result : Type 0 where
  pub outcome : Outcome (Unit {0})
  pub state : State

unfoldable pub result_of : Reply → Result
result_of r = record { outcome = outcome_of r.answer; state = r.state }

-- by the number that the lines give: refused, the state is `before`; accepted, it is `after`
unfoldable pub result_by : (number : ℕ) (before after : State) → Result
result_by number before after = record { outcome = outcome number tt; state = cond (eqb number 0) after before }

-- ---- init

unfoldable pub init_number : ℕ → ℕ
init_number i = first_line ((line1 i, 1) ∷ [])

unfoldable pub init_result : ℕ → Result
init_result i = result_by (init_number i) all_zeros (fresh i)

-- ---- absorb

unfoldable pub absorb_number : State → (w bytes count : ℕ) → ℕ
absorb_number s w bytes count =
    first_line
    ((line1 s.instance, 1) ∷ (line2 s, 2) ∷ (line3 s, 3) ∷ (line4 s.instance w, 4) ∷ (line6 bytes count, 6) ∷ (line7 s.total count, 7)
    ∷ [])

unfoldable pub absorb_result : State → (w : ℕ) (bytes : List ℕ) (count : ℕ) → Result
absorb_result s w bytes count =
    result_by (absorb_number s w (length bytes) count) s
    (state_with s.instance absorbing_phase (take_bits (instance_of s.instance) (content_of s) (bits_of count bytes)))

-- ---- finish

unfoldable pub finish_number : State → (w buffer : ℕ) → ℕ
finish_number s w buffer =
    first_line
    ((line1 s.instance, 1) ∷ (line2 s, 2) ∷ (line3 s, 3) ∷ (line4 s.instance w, 4) ∷ (line5 buffer (state_bytes s.instance), 5)
    ∷ (line8 s.instance s.total, 8) ∷ [])

unfoldable pub finish_result : State → (w buffer : ℕ) → Result
finish_result s w buffer = result_by (finish_number s w buffer) s (state_with s.instance closed_phase (finished (instance_of s.instance) (content_of s)))

-- the buffer after finish: the digest, n bits
unfoldable pub finish_bytes : State → (w : ℕ) → List ℕ → List ℕ
finish_bytes s w buffer =
    cond (eqb (finish_number s w (length buffer)) 0) (bytes_of (state_bytes s.instance) (finish_output (instance_of s.instance) (content_of s))) buffer

-- ---- squeeze

-- the length of its buffer: k blocks of r/8 bytes
unfoldable pub blocks_bytes : (i k : ℕ) → ℕ
blocks_bytes i k = k * ((instance_of i).r / 8)

unfoldable pub squeeze_number : State → (w k buffer : ℕ) → ℕ
squeeze_number s w k buffer =
    first_line
    ((line1 s.instance, 1) ∷ (line2 s, 2) ∷ (line3_squeeze s, 3) ∷ (line4 s.instance w, 4) ∷ (line5 buffer (blocks_bytes s.instance k), 5)
    ∷ (line14 k, 14) ∷ (line15 s.extra k, 15) ∷ [])

unfoldable pub squeeze_result : State → (w k buffer : ℕ) → Result
squeeze_result s w k buffer =
    result_by (squeeze_number s w k buffer) s (state_with s.instance closed_phase (extra_squeezed (instance_of s.instance) k (content_of s)))

-- the buffer after squeeze: k blocks
unfoldable pub squeeze_bytes : State → (w k : ℕ) → List ℕ → List ℕ
squeeze_bytes s w k buffer =
    cond (eqb (squeeze_number s w k (length buffer)) 0) (bytes_of (blocks_bytes s.instance k) (squeeze_output (instance_of s.instance) k (content_of s))) buffer

-- ---- mark

unfoldable pub mark_number : State → (bytes count : ℕ) → ℕ
mark_number s bytes count =
    first_line ((line1 s.instance, 1) ∷ (line2 s, 2) ∷ (line17 bytes count, 17) ∷ (line19 bytes count, 19) ∷ [])

-- accepted, the new count is answered
unfoldable pub mark_outcome : State → (bytes count : ℕ) → Outcome ℕ
mark_outcome s bytes count = outcome (mark_number s bytes count) (count + 1)

-- the buffer after mark: the mark stands after those in use
unfoldable pub mark_bytes : State → (name buffer : List ℕ) (count : ℕ) → List ℕ
mark_bytes s name buffer count = cond (eqb (mark_number s (length buffer) count) 0) (with_mark buffer count (mark_of name s)) buffer

-- ---- recall

-- the lines of the state and of the buffer, then those of the mark that is found
unfoldable pub recall_number : State → (name buffer : List ℕ) (count : ℕ) → ℕ
recall_number s name buffer count =
    first_line
    ((line1 s.instance, 1) ∷ (line2 s, 2) ∷ (line17 (length buffer) count, 17) ∷ (line18 name buffer count, 18)
    ∷ (line1 (state_in (found name buffer count)).instance, 1) ∷ (line2_mark (found name buffer count), 2) ∷ [])

unfoldable pub recall_result : State → (name buffer : List ℕ) (count : ℕ) → Result
recall_result s name buffer count = result_by (recall_number s name buffer count) s (state_in (found name buffer count))

-- ---- digest

unfoldable pub digest_number : (i w bytes count buffer : ℕ) → ℕ
digest_number i w bytes count buffer =
    first_line ((line1 i, 1) ∷ (line4 i w, 4) ∷ (line5 buffer (state_bytes i), 5) ∷ (line6 bytes count, 6) ∷ (line7 0 count, 7) ∷ (line8 i count, 8) ∷ [])

unfoldable pub digest_outcome : (i w : ℕ) (bytes : List ℕ) (count : ℕ) (buffer : List ℕ) → Outcome (Unit {0})
digest_outcome i w bytes count buffer = outcome (digest_number i w (length bytes) count (length buffer)) tt

-- the buffer after digest: the paper's digest of the message
unfoldable pub digest_bytes : (i w : ℕ) (bytes : List ℕ) (count : ℕ) (buffer : List ℕ) → List ℕ
digest_bytes i w bytes count buffer =
    cond (eqb (digest_number i w (length bytes) count (length buffer)) 0) (bytes_of (state_bytes i) (digest (instance_of i) (bits_of count bytes))) buffer
