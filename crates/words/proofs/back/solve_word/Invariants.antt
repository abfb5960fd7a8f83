-- `words::back::solve_word` meets its contract. The invariant: as many of the last bits as were counted are right.
use Prim.Native.Nat.{◌^◌, ◌<◌}
use Rattle.words.proofs.Solving.{Right}
use Rattle.words.proofs.back.solve_word.Given as goal

abbrev pub invariant-loop : goal.invariant-loop
invariant-loop l = (l.word < 2 ^ l.width) × Right l.known l.factor l.low l.high l.width l.counter l.word
