-- The lines' numbers (docs/RULES.md), the line of a wrong length, which the crates above share, and the first line that holds of some in
-- checking order.
use Rattle.std.specs.Prelude.{Bool, true, not, ◌&&◌, cond, List, [], ◌∷◌, ℕ, ltb, eqb, Result, Ok, Err}
use Rattle.refusals.specs.declared.lines.Line.{Line}
use Rattle.refusals.specs.declared.lines.Line.TheVariants.{UnknownInstance, UnsoundState, WrongPhase, UnknownWidth, WrongLength, CountOverBytes, TotalOverLimit, PaddedLength, WrongJournalLength, BrokenLayout, NotFollowing, DifferentSeal, NoSuchRecord, BlocksOutOfRange, ExtraOverLimit, BlankKey, WrongMarkBuffer, NoSuchMark, NoFreeMark, StepsOutOfRange}

-- the number of a line
unfoldable pub number : Line → ℕ
number UnknownInstance = 1
number UnsoundState = 2
number WrongPhase = 3
number UnknownWidth = 4
number WrongLength = 5
number CountOverBytes = 6
number TotalOverLimit = 7
number PaddedLength = 8
number WrongJournalLength = 9
number BrokenLayout = 10
number NotFollowing = 11
number DifferentSeal = 12
number NoSuchRecord = 13
number BlocksOutOfRange = 14
number ExtraOverLimit = 15
number BlankKey = 16
number WrongMarkBuffer = 17
number NoSuchMark = 18
number NoFreeMark = 19
number StepsOutOfRange = 20

-- the number of the line by which lines in checking order refuse, 0 where they do not
unfoldable pub refused_by : {A : Type 0} → Result A Line → ℕ
refused_by (Ok values) = 0
refused_by (Err line) = number line

-- 5. A slice whose length is fixed has another length.
unfoldable pub line5 : (length right : ℕ) → Bool
line5 length right = not (eqb length right)

-- lines in checking order, whatever a line is: a refusal by the first that holds, none where none does
unfoldable pub first_holding : {L : Type 0} → List (Bool × L) → Result (Unit {0}) L
first_holding [] = Ok tt
first_holding (line ∷ lines) = cond line.0 (Err line.1) (first_holding lines)

-- lines in checking order, each with its number: the number of the first that holds, 0 where none does
unfoldable pub first_line : List (Bool × ℕ) → ℕ
first_line [] = 0
first_line (line ∷ lines) = cond line.0 line.1 (first_line lines)

-- lines by name, each with its number
unfoldable pub rows : List (Bool × Line) → List (Bool × ℕ)
rows [] = []
rows (line ∷ lines) = (line.0, number line.1) ∷ rows lines

-- each line, or each rule that a line is about, has a number above 0, since 0 stands for no line
abbrev pub numbered : {A : Type 0} → List (A × ℕ) → Bool
numbered [] = true
numbered (line ∷ lines) = ltb 0 line.1 && numbered lines
