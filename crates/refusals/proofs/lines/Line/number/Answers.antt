-- `Line::number` meets its contract: the number of each line is the one that its declaration gives.
use Rattle.std.proofs.Common.{◌≡◌, refl, ◌+◌}
use denote.Enum.Declared.{tag_of}
use Rattle.refusals.specs.contracts.lines.Line.{the_type}
use Rattle.refusals.specs.declared.lines.Line.{Line}
use Rattle.refusals.specs.declared.lines.Line.TheVariants.{UnknownInstance, UnsoundState, WrongPhase, UnknownWidth, WrongLength, CountOverBytes, TotalOverLimit, PaddedLength, WrongJournalLength, BrokenLayout, NotFollowing, DifferentSeal, NoSuchRecord, BlocksOutOfRange, ExtraOverLimit, BlankKey, WrongMarkBuffer, NoSuchMark, NoFreeMark, StepsOutOfRange}
use Rattle.refusals.specs.Lines.{number}
use Rattle.refusals.proofs.lines.Line.number.Goals as goal

pub returns : goal.returns
unfolding number
returns c = declared_number c.args.self
  where
    declared_number : (line : Line) → tag_of the_type line + 1 ≡ number line
    declared_number UnknownInstance = refl
    declared_number UnsoundState = refl
    declared_number WrongPhase = refl
    declared_number UnknownWidth = refl
    declared_number WrongLength = refl
    declared_number CountOverBytes = refl
    declared_number TotalOverLimit = refl
    declared_number PaddedLength = refl
    declared_number WrongJournalLength = refl
    declared_number BrokenLayout = refl
    declared_number NotFollowing = refl
    declared_number DifferentSeal = refl
    declared_number NoSuchRecord = refl
    declared_number BlocksOutOfRange = refl
    declared_number ExtraOverLimit = refl
    declared_number BlankKey = refl
    declared_number WrongMarkBuffer = refl
    declared_number NoSuchMark = refl
    declared_number NoFreeMark = refl
    declared_number StepsOutOfRange = refl
