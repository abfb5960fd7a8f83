-- `is_named` meets its contract. The loop's invariant: the bytes of both names from the offset on decide.
use mathlib.Core.Path.{◌≡◌, refl, sym, ◌∙◌}
use native.Mathlib.Omega.{arith}
use borrow.Author.Rules.{rules}
use lib.ListN.{length}
use Rattle.sponge.specs.Marks.{name_in}
use Rattle.sponge.proofs.Compared.{same_next, same_differs, same_end}
use Rattle.sponge.proofs.MarkBytes.{name-size, name-byte}
use Rattle.sponge.proofs.marks.is_named.Goals as goal

pub loop-j-init : goal.loop-j-init
loop-j-init c = refl

pub returns-then-mark-j : goal.returns-then-mark-j
returns-then-mark-j c =
    let at-loop = c.loop-j in
    let mark = c.args.mark.now in
    let n : length c.args.name ≡ 16 = search rules in
    let m = name-size mark c.told-mark in
    sym (at-loop.invariant
    ∙ same_differs (name_in mark) c.args.name at-loop.j (omega arith) (omega arith)
    (λ e. c.if-mark-j.true (sym (name-byte mark at-loop.j (omega arith)) ∙ e)))

pub loop-j-preserved : goal.loop-j-preserved
loop-j-preserved c =
    let at-loop = c.loop-j in
    let mark = c.args.mark.now in
    let n : length c.args.name ≡ 16 = search rules in
    let m = name-size mark c.told-mark in
    at-loop.invariant ∙ same_next (name_in mark) c.args.name at-loop.j (omega arith) (omega arith) (name-byte mark at-loop.j (omega arith) ∙ c.if-mark-j.false)

pub returns : goal.returns
returns c =
    let at-loop = c.loop-j in
    let mark = c.args.mark.now in
    let n : length c.args.name ≡ 16 = search rules in
    let m = name-size mark c.told-mark in
    sym (at-loop.invariant ∙ same_end (name_in mark) c.args.name at-loop.j (omega arith) (omega arith))
