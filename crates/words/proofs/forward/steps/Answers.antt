-- `words::forward::steps` meets its contract: each branch is an instance.
use mathlib.Core.Logic.{inl, inr}
use mathlib.Core.Path.{refl}
use Rattle.quark.specs.Instance.{S}
use Rattle.words.specs.Instances.{named}
use Rattle.words.specs.leaf.Groups.{WidthIn, Fitting, Stepped}
use Rattle.words.specs.leaf.TapsOf.{eight_U, eight_D}
use Rattle.words.proofs.Groups.{from_name, for_name}
use Rattle.words.proofs.Widths.{a_width, sixteen}
use Rattle.words.proofs.forward.steps.Goals as goal

pub groups-requires : goal.groups-requires
unfolding named
groups-requires c = (inl refl, for_name (λ T. Fitting T c.args.state) c.in-U.is c.requires.2)

pub groups-requires-in-D : goal.groups-requires-in-D
unfolding named
groups-requires-in-D c = (inl refl, for_name (λ T. Fitting T c.args.state) c.in-D.is c.requires.2)

pub groups-requires-in-S : goal.groups-requires-in-S
unfolding named
groups-requires-in-S c = (inl refl, for_name (λ T. Fitting T c.args.state) c.in-S.is c.requires.2)

pub groups-requires-in-S-2 : goal.groups-requires-in-S-2
unfolding named S
groups-requires-in-S-2 c = (inr (refl, refl), for_name (λ T. Fitting T c.args.state) c.in-S-2.is c.requires.2)

pub returns-in-U : goal.returns-in-U
unfolding named
returns-in-U c =
    let a = c.args in
    let e = c.in-U.is in
    from_name (λ T n. Stepped T n a.state c.groups.result) e a.count a.width 8 (eight_U a.width (for_name (λ T. WidthIn T a.width) e c.requires.0)) c.requires.1
    c.groups.ensures

pub returns-in-D : goal.returns-in-D
unfolding named
returns-in-D c =
    let a = c.args in
    let e = c.in-D.is in
    from_name (λ T n. Stepped T n a.state c.groups-in-D.result) e a.count a.width 8 (eight_D a.width (for_name (λ T. WidthIn T a.width) e c.requires.0)) c.requires.1
    c.groups-in-D.ensures

pub returns-in-S : goal.returns-in-S
unfolding named
returns-in-S c =
    let a = c.args in
    from_name (λ T n. Stepped T n a.state c.groups-in-S.result) c.in-S.is a.count a.width 8 c.if-width-eq8.true c.requires.1 c.groups-in-S.ensures

pub returns-in-S-2 : goal.returns-in-S-2
unfolding named
returns-in-S-2 c =
    let a = c.args in
    from_name (λ T n. Stepped T n a.state c.groups-in-S-2.result) c.in-S-2.is a.count a.width 16
    (sixteen a.width (a_width (named a.instance).taps a.width c.requires.0) c.if-width-eq8.false) c.requires.1 c.groups-in-S-2.ensures
