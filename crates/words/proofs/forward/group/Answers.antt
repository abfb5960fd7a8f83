-- `words::forward::group` meets its contract.
use mathlib.Core.Path.{sym, subst}
use Prim.Native.Nat.{ℕ, ◌-◌}
use Rattle.words.specs.leaf.TapsOf.{Grouping}
use Rattle.words.proofs.GroupForward.{group_steps}
use Rattle.words.proofs.forward.group.Goals as goal

pub returns : goal.returns
returns g c =
    let w = g.row.WIDTH in
    let grouping = subst (λ (h : ℕ). Grouping g.T.Quark.taps w (h - w)) (sym c.HALF.ensures) (g.met.T.Quark.of.grouping w c.requires.0) in
    let after = c.group_of_l-after in
    group_steps grouping c.requires.1 after.result.firsts after.ensures.1 c.feedback_of-words.ensures c.after_group.ensures.0 c.after_group.ensures.1
    after.ensures.0
