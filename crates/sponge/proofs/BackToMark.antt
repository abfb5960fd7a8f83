-- In a list a return brings back what its marking saved: nothing but a marking under the same name comes between.
use mathlib.Core.Bool.{Bool, true, false, not, cond, and-eq-true_iff}
use mathlib.Core.List.{List, [], ◌∷◌}
use mathlib.Core.Path.{◌≡◌, refl, sym, subst}
use Prim.Native.Nat.{ℕ}
use native.Mathlib.Decide.{ℕ_discrete}
use borrow.Author.Tests.{not-true}
use lib.Dec.{eqb}
use lib.ListN.{length}
use Rattle.refusals.specs.Lines.{first_line}
use Rattle.refusals.proofs.FirstLine.{none_holds}
use Rattle.refusals.proofs.Outcome.{refused-left, accepted-left}
use Rattle.sponge.specs.Bytes.{same}
use Rattle.sponge.specs.Outcomes.{line17}
use Rattle.sponge.specs.Calls.{Call, Message}
use Rattle.sponge.specs.Lists.{Name, ListCall, on_state, mark, recall, Saved, Messages, is_saved, latest_saved, messages_number, messages_after, messages_from}
use Rattle.sponge.specs.ReadBack.{leaves_name, BackToMark}
use Rattle.sponge.proofs.Compared.{equal_same}
use Rattle.sponge.proofs.Passed.{count_next}

module _ (i bytes : ℕ) (name : Name) (m : Message) where
  -- a marking under the name saved m, and none after it has the name; and line 17 does not hold
  record Saves (saved : List Saved) : Type 0 where
    counted : line17 bytes (length saved) ≡ false
    some_saved : is_saved name saved ≡ true
    latest_is : (other : Message) → latest_saved name saved other ≡ m

  -- right after the marking
  marked_now : (x : Messages) → x.current ≡ m → messages_number i bytes x (mark name) ≡ 0 → Saves (messages_after i bytes x (mark name)).saved
  unfolding messages_number messages_after is_saved latest_saved
  marked_now x e accepted =
      let none = none_holds _ refl accepted in
      subst (λ (y : Messages). Saves y.saved) (accepted-left _ x _ accepted)
      (record {
        counted = count_next bytes (length x.saved) (search none) (search none);
        some_saved = rw (equal_same name.bytes);
        latest_is = λ other. rw (equal_same name.bytes) e;
      })

  -- after a marking under another name
  marked_other : (x : Messages) (other : Name) → same other.bytes name.bytes ≡ false → Saves x.saved
      → Saves (messages_after i bytes x (mark other)).saved
  unfolding messages_after messages_number is_saved latest_saved
  marked_other x other differs h =
      elim (ℕ_discrete (messages_number i bytes x (mark other)) 0) [
        | yes accepted ↦
            let none = none_holds _ refl accepted in
            subst (λ (y : Messages). Saves y.saved) (accepted-left _ x _ accepted)
            (record {
              counted = count_next bytes (length x.saved) (search none) (search none);
              some_saved = rw differs h.some_saved;
              latest_is = λ message. rw differs (h.latest_is message);
            })
        | no refused ↦ subst (λ (y : Messages). Saves y.saved) (refused-left _ x _ refused) h
      ]

  -- a return saves nothing
  recall-saves : (x : Messages) (other : Name) → (messages_after i bytes x (recall other)).saved ≡ x.saved
  unfolding messages_after
  recall-saves x other = either_way (eqb (messages_number i bytes x (recall other)) 0) x _ refl
    where
      either_way : (t : Bool) (x y : Messages) → y.saved ≡ x.saved → (cond t y x).saved ≡ x.saved
      either_way true x y e = e
      either_way false x y e = refl

  -- a piece, a finish or a squeeze saves nothing
  on_state_saves : (x : Messages) (call : Call) → Saves x.saved → Saves (messages_after i bytes x (on_state call)).saved
  unfolding messages_after
  on_state_saves x call h = h

  -- after any calls that mark nothing under it
  saves_from : (x : Messages) (calls : List ListCall) → leaves_name name calls ≡ true → Saves x.saved → Saves (messages_from i bytes x calls).saved
  unfolding messages_from leaves_name
  saves_from x [] leaves h = h
  saves_from x (on_state call ∷ calls) leaves h = saves_from (messages_after i bytes x (on_state call)) calls leaves (on_state_saves x call h)
  saves_from x (mark other ∷ calls) leaves h =
      let parts = (and-eq-true_iff (not (same other.bytes name.bytes)) (leaves_name name calls)).0 leaves in
      saves_from (messages_after i bytes x (mark other)) calls parts.1 (marked_other x other (not-true (same other.bytes name.bytes) parts.0) h)
  saves_from x (recall other ∷ calls) leaves h =
      saves_from (messages_after i bytes x (recall other)) calls leaves (subst Saves (sym (recall-saves x other)) h)

pub back-to_mark : BackToMark
unfolding BackToMark messages_from messages_number messages_after first_line
back-to_mark i bytes m name calls accepted leaves =
    let now = messages_after i bytes m (mark name) in
    let later = messages_from i bytes now calls in
    let h = saves_from i bytes name m.current now calls leaves (marked_now i bytes name m.current m refl accepted) in
    (rw (h.counted, h.some_saved), rw (h.counted, h.some_saved) (h.latest_is later.current))
