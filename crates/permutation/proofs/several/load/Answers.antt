-- `several::load` meets its contract.
use Rattle.std.specs.Prelude.{◌≡◌, ℕ, ◌+◌, ◌*◌, ◌^◌, List, ◌++◌}
use mathlib.Core.Path.{ap₂, ◌∙◌, subst}
use lib.ListN.{take-append-drop}
use Rattle.permutation.proofs.CellWords.{Holds, both}
use Rattle.permutation.proofs.several.load.Goals as goal

pub returns : goal.returns
returns c =
    let parts = c.split_at.ensures in
    let lo = c.read_word-2.result in
    let hi = c.read_word.result in
    let joined : c.split_at.result.0.now ++ c.split_at.result.1.now ≡ c.args.cells.now =
    ap₂ (λ (s t : List ℕ). s ++ t) parts.front parts.back ∙ take-append-drop 64 c.args.cells.now in
    subst (λ (s : List ℕ). Holds s (hi * 2 ^ 64 + lo)) joined
    (subst (λ (n : ℕ). Holds (c.split_at.result.0.now ++ c.split_at.result.1.now) (hi * 2 ^ n + lo)) parts.front_len
    (both c.split_at.result.0.now c.split_at.result.1.now lo hi c.read_word-2.ensures c.read_word.ensures))
