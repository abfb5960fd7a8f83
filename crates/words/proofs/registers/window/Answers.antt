-- `words::registers::window` meets its contract.
use Prim.Native.Nat.{◌^◌, ◌<◌}
use borrow.Author.Rules.{rules}
use Rattle.words.proofs.TwoWords.{window_within, window_above}
use Rattle.words.proofs.registers.window.Goals as goal

pub returns-else-t-eq0 : goal.returns-else-t-eq0
returns-else-t-eq0 c =
    let r = c.args.r in
    let low : r.lo < 2 ^ 64 = search rules in
    window_within 64 r.hi r.lo c.args.t (search rules) low

pub returns-else-t-lt64 : goal.returns-else-t-lt64
returns-else-t-lt64 c =
    let r = c.args.r in
    let high : r.hi < 2 ^ 64 = search rules in
    let low : r.lo < 2 ^ 64 = search rules in
    window_above 64 r.hi r.lo c.args.t (search rules) high low
