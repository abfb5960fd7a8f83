-- `latest` meets its contract. The loop's invariant: the marks that are not tried yet decide.
use mathlib.Core.Path.{refl, sym, ◌∙◌}
use native.Mathlib.Omega.{arith}
use Rattle.sponge.proofs.MarkBytes.{last-named, last-not_named, none_left}
use Rattle.sponge.proofs.marks.latest.Goals as goal

pub returns-then-is_named : goal.returns-then-is_named
returns-then-is_named c =
    last-named _ _ _ _ _ c.mark_at-mark.ensures (omega arith) _ c.loop-j.invariant.1 (sym c.is_named.ensures ∙ c.if-is_named.true)

pub loop-j-preserved : goal.loop-j-preserved
loop-j-preserved c = (
  omega arith,
  c.loop-j.invariant.1
      ∙ last-not_named _ _ _ _ _ c.mark_at-mark.ensures (omega arith) (sym c.is_named.ensures ∙ c.if-is_named.false) refl,
)

pub returns : goal.returns
returns c = c.loop-j.invariant.1 ∙ none_left _ _ _ (omega arith)
