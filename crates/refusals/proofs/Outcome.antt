-- The outcome, and what is left of a lent thing, by the number that a call's lines give.
use mathlib.Core.Bool.{Bool, cond}
use mathlib.Core.Path.{◌≡◌, refl, sym, ap, ◌∙◌}
use Prim.Native.Nat.{ℕ, zero, suc}
use native.Mathlib.Nat.{suc-ne-zero}
use native.Mathlib.Omega.{arith}
use borrow.Author.Tests.{eq-eqb, ne_eqb}
use lib.Dec.{eqb}
use Rattle.std.specs.Prelude.{Result, Ok, Err, IsErrAnd, MatchResult}
use Rattle.refusals.specs.declared.Refusal.{Refusal}
use Rattle.refusals.specs.declared.lines.Line.{Line}
use Rattle.refusals.specs.declared.lines.Line.TheVariants.{UnknownInstance, UnsoundState, WrongPhase, UnknownWidth, WrongLength, CountOverBytes, TotalOverLimit, PaddedLength, WrongJournalLength, BrokenLayout, NotFollowing, DifferentSeal, NoSuchRecord, BlocksOutOfRange, ExtraOverLimit, BlankKey, WrongMarkBuffer, NoSuchMark, NoFreeMark, StepsOutOfRange}
use Rattle.refusals.specs.Lines.{number, refused_by}
use Rattle.refusals.specs.Outcome.{accepted, refused, outcome, outcome_of, number_of, value_or}

module _ {A : Type 0} (values : A) where
  -- ---- the outcome of an answer, by the number

  pub refused-outcome : (number lines : ℕ) → number ≡ lines → (number ≡ 0 → ⊥) → refused number 0 ≡ outcome lines values
  unfolding outcome
  refused-outcome zero lines e some = absurd (some refl)
  refused-outcome (suc number) lines e some = ap (λ (k : ℕ). outcome k values) e

  pub accepted-outcome : (lines : ℕ) → 0 ≡ lines → accepted values ≡ outcome lines values
  unfolding outcome
  accepted-outcome lines e = ap (λ (k : ℕ). outcome k values) e

  -- ---- the number and the values, by the outcome

  pub outcome-accepted : (lines : ℕ) (given : A) → accepted given ≡ outcome lines values → (lines ≡ 0) × (given ≡ values)
  unfolding outcome
  outcome-accepted zero given e = (refl, cc)
  outcome-accepted (suc lines) given e = let z : ◌≡◌ {A = ℕ} 0 1 = cc in absurd (omega arith)

  pub outcome-refused : (lines number : ℕ) → refused number 0 ≡ outcome lines values → (lines ≡ number) × (lines ≡ 0 → ⊥)
  unfolding outcome
  outcome-refused zero number e = let z : ◌≡◌ {A = ℕ} 0 1 = cc in absurd (omega arith)
  outcome-refused (suc lines) number e = (cc, suc-ne-zero lines)

-- ---- a call that hands on what its lines refuse by

pub no_line_0 : (line : Line) → number line ≡ 0 → ⊥
unfolding number
no_line_0 UnknownInstance e = absurd (omega arith)
no_line_0 UnsoundState e = absurd (omega arith)
no_line_0 WrongPhase e = absurd (omega arith)
no_line_0 UnknownWidth e = absurd (omega arith)
no_line_0 WrongLength e = absurd (omega arith)
no_line_0 CountOverBytes e = absurd (omega arith)
no_line_0 TotalOverLimit e = absurd (omega arith)
no_line_0 PaddedLength e = absurd (omega arith)
no_line_0 WrongJournalLength e = absurd (omega arith)
no_line_0 BrokenLayout e = absurd (omega arith)
no_line_0 NotFollowing e = absurd (omega arith)
no_line_0 DifferentSeal e = absurd (omega arith)
no_line_0 NoSuchRecord e = absurd (omega arith)
no_line_0 BlocksOutOfRange e = absurd (omega arith)
no_line_0 ExtraOverLimit e = absurd (omega arith)
no_line_0 BlankKey e = absurd (omega arith)
no_line_0 WrongMarkBuffer e = absurd (omega arith)
no_line_0 NoSuchMark e = absurd (omega arith)
no_line_0 NoFreeMark e = absurd (omega arith)
no_line_0 StepsOutOfRange e = absurd (omega arith)

module _ (line : Line) (lines : ℕ) (e : refused_by {A = Unit {0}} (Err line) ≡ lines) where
  pub some_line : lines ≡ 0 → ⊥
  unfolding refused_by
  some_line none = no_line_0 line (e ∙ none)

  pub handed_on : {A : Type 0} (values : A) (answer : Result A Refusal) → IsErrAnd answer (λ r. r ≡ record { line = line; place = 0 })
      → outcome_of answer ≡ outcome lines values
  unfolding outcome_of refused_by
  handed_on values (Ok given) is = elim is [ ]
  handed_on {A} values (Err r) is = ap (λ (r : Refusal). outcome_of {A = A} (Err r)) is ∙ refused-outcome values (number line) lines e (no_line_0 line)

-- the number of an answer whose refusal is a `Refusal`, as `number_of` gives it, is its outcome's
pub number_of_answer : {A : Type 0} (answer : Result A Refusal) (n : ℕ) → MatchResult answer (λ _. n ≡ 0) (λ r. n ≡ number r.line)
    → n ≡ number_of (outcome_of answer)
unfolding number_of outcome_of
number_of_answer (Ok values) n e = e
number_of_answer (Err r) n e = e

pub number_of_outcome : {A : Type 0} (number : ℕ) (values : A) → number_of (outcome number values) ≡ number
unfolding number_of outcome
number_of_outcome zero values = refl
number_of_outcome (suc number) values = refl

-- a lent number holds the value of an accepted call, and else what it held
pub value-or : {A : Type 0} (value before : A) (number place : ℕ)
    → (value_or (accepted value) before ≡ value) × (value_or (refused number place) before ≡ before)
unfolding value_or
value-or value before number place = (refl, refl)

-- ---- what a call leaves of a state or of lent bytes: `before` where it is refused, else `after`

module _ {A : Type 0} (lines : ℕ) (before after : A) where
  pub refused-left : (lines ≡ 0 → ⊥) → before ≡ cond (eqb lines 0) after before
  refused-left some = sym (ap (λ (b : Bool). cond b after before) (ne_eqb lines 0 some))

  pub accepted-left : lines ≡ 0 → after ≡ cond (eqb lines 0) after before
  accepted-left none = sym (ap (λ (b : Bool). cond b after before) (eq-eqb lines 0 none))
