-- A refusal as text.
use Rattle.std.specs.Prelude.{List, ◌++◌, ℕ, [], codes}
use Rattle.std.specs.Fmt.{decimal}
use Rattle.refusals.specs.Outcome.{Outcome, accepted, refused}

-- a line with the number of the refusal, and nothing where the call was accepted
unfoldable pub refused_text : {A : Type 0} → Outcome A → List ℕ
refused_text (accepted values) = []
refused_text (refused number place) = codes "refused " ++ decimal number ++ codes "\n"
