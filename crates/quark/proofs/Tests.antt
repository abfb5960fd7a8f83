-- Several tests at once: where all of them pass by computation, each has passed.
use mathlib.Core.Bool.{Bool, true, false, ◌&&◌}
use mathlib.Core.List.{List, [], ◌∷◌}
use lib.Dec.{T}

pub both : (a b : Bool) → T (a && b) → T a × T b
both true b t = (tt, t)
both false b t = absurd t

-- all of some tests
abbrev pub every : List Bool → Bool
every [] = true
every (b ∷ bs) = b && every bs

abbrev pub Every : List Bool → Type 0
Every [] = Unit {0}
Every (b ∷ bs) = T b × Every bs

pub each : (bs : List Bool) → T (every bs) → Every bs
each [] t = tt
each (b ∷ bs) t =
    let c = both b (every bs) t in
    (c.0, each bs c.1)
