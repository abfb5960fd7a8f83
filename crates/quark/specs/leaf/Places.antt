-- The places of a mask's ones. Only the contracts of private functions and the laws cite these forms.
use Rattle.std.specs.Prelude.{List, [], ◌∷◌, ℕ, zero, suc, ◌/◌, ◌%◌}

-- place i in front of a list, or not, by a digit
unfoldable pub put_if : ℕ → ℕ → List ℕ → List ℕ
put_if zero i l = l
put_if (suc d) i l = i ∷ l

-- the places of the ones among the k digits of a mask, counted from i
unfoldable pub places_from : (k i mask : ℕ) → List ℕ
unfolding put_if
places_from zero i mask = []
places_from (suc k) i mask = put_if (mask % 2) i (places_from k (suc i) (mask / 2))
