-- `words::registers::up` meets its contract.
use mathlib.Core.Path.{ap, ◌∙◌}
use Prim.Native.Nat.{ℕ, ◌+◌, ◌*◌, ◌%◌, ◌^◌}
use borrow.Author.Rules.{rules}
use Rattle.words.proofs.TwoWords.{words_shl}
use Rattle.words.proofs.registers.up.Goals as goal

pub returns : goal.returns
returns c =
    let r = c.args.r in
    let n = c.args.n in
    ap (λ (x : ℕ). x * 2 ^ 64 + r.lo * 2 ^ n % 2 ^ 64) c.window.ensures ∙ words_shl 64 n r.hi r.lo (search rules) c.requires.1
