-- What a call answers (docs/RULES.md).
use Rattle.std.specs.Prelude.{ℕ, zero, suc, List, ◌++◌, codes, Result, Ok, Err}
use Rattle.std.specs.Fmt.{decimal}
use Rattle.refusals.specs.declared.Refusal.{Refusal}
use Rattle.refusals.specs.Lines.{number}

-- accepted, with the call's values; or refused, with a line's number and a place
pub data Outcome (A : Type 0) : Type 0 where
  accepted : A → Outcome A
  refused : (number place : ℕ) → Outcome A

-- the outcome of a call whose lines give a number, where no record of a journal is at fault: place 0
unfoldable pub outcome : {A : Type 0} → (number : ℕ) → A → Outcome A
outcome zero values = accepted values
outcome (suc number) values = refused (suc number) 0

-- what an answer stands for
unfoldable pub outcome_of : {A : Type 0} → Result A Refusal → Outcome A
outcome_of (Ok values) = accepted values
outcome_of (Err r) = refused (number r.line) r.place

-- the number that stands for an outcome: 0 where the call was accepted, else the line's
unfoldable pub number_of : {A : Type 0} → Outcome A → ℕ
number_of (accepted values) = 0
number_of (refused number place) = number

-- the place that stands for an outcome: 0 where the call was accepted
unfoldable pub place_of : {A : Type 0} → Outcome A → ℕ
place_of (accepted values) = 0
place_of (refused number place) = place

-- what a lent number holds after a call: the call's value where it was accepted, else what it held before
unfoldable pub value_or : {A : Type 0} → Outcome A → (before : A) → A
value_or (accepted value) before = value
value_or (refused number place) before = before

-- a refusal in print: the line's number and the place, in decimal
abbrev pub refusal_text : Refusal → List ℕ
refusal_text r = decimal (number r.line) ++ codes " " ++ decimal r.place
