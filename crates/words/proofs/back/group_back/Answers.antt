-- `words::back::group_back` meets its contract.
use mathlib.Core.Path.{refl, sym, subst}
use Prim.Native.Nat.{ℕ, ◌-◌}
use Rattle.words.specs.declared.back.LowTaps.{LowTaps}
use Rattle.words.specs.leaf.Solving.{Solvable}
use Rattle.words.specs.leaf.TapsOf.{Grouping, LowTapsOf}
use Rattle.words.proofs.GroupBack.{group_back_steps}
use Rattle.words.proofs.Solving.{found-bits}
use Rattle.words.proofs.back.group_back.Goals as goal

pub solve-new-requires : goal.solve-new-requires
solve-new-requires g c =
    let w = g.row.WIDTH in (
      c.known_terms-known.ensures.few_X,
      c.known_terms-known.ensures.few_Y,
      subst (λ (low : LowTaps). Solvable low w) (sym c.LOW.ensures) (g.met.T.Quark.of.solvable w c.requires.0),
    )

pub returns : goal.returns
returns g c =
    let w = g.row.WIDTH in
    let T = g.T.Quark.taps in
    let of = g.met.T.Quark.of in
    let grouping = subst (λ (h : ℕ). Grouping T w (h - w)) (sym c.HALF.ensures) (of.grouping w c.requires.0) in
    let lows = subst (λ (low : LowTaps). LowTapsOf T low w) (sym c.LOW.ensures) (of.lows w c.requires.0) in
    let before = c.group_of_l_back-before in
    let found =
    found-bits c.known_terms-known.ensures c.solve-new.ensures (record { x = c.pull.result; y = c.pull-2.result; l = before.result.l })
    c.pull.ensures c.pull-2.ensures in
    group_back_steps grouping lows before.result.l before.result.firsts before.ensures.1 c.pull-x.ensures c.pull-y.ensures c.feedback_of-words.ensures
    c.derivatives_of-derivatives.ensures found refl before.ensures.0
