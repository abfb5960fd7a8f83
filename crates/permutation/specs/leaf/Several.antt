-- The words that the word form gives. Only the contracts of private functions cite this form.
use Rattle.std.specs.Prelude.{ℕ, Bool, cond}
use Rattle.quark.specs.Feedback.{Taps}
use Rattle.words.specs.declared.RegisterWords.{RegisterWords}
use Rattle.words.specs.Words.{words_after, words_before}

-- the words n steps on, or in the inverse direction n steps before
abbrev pub ran_or_undone_words : (inverse : Bool) → Taps → ℕ → RegisterWords → RegisterWords
ran_or_undone_words inverse T n s = cond inverse (words_before T n s) (words_after T n s)
