-- The bytes of marks: writing a mark part by part, the parts of a mark, and the latest mark with a name.
use mathlib.Core.Bool.{Bool, true, false, cond}
use mathlib.Core.List.{List, [], ◌∷◌, ◌++◌, append_assoc}
use mathlib.Core.Path.{◌≡◌, sym, ap, ap₂, ◌∙◌}
use Prim.Native.Nat.{ℕ, zero, suc, ◌+◌, ◌*◌, ◌-◌, ◌<◌, ◌≤◌}
use native.Mathlib.Omega.{arith}
use lib.ListN.{length, get_or, take, drop, length-append, length-drop}
use lib.Seq.{paste, take-length, take_all, take-paste, drop-paste, drop-drop, get_or-take, length-take-le}
use Rattle.sponge.specs.declared.State.{State}
use Rattle.sponge.specs.Bytes.{same}
use Rattle.sponge.specs.Marks.{four_bytes, mark_fields, mark_of, name_in, mark_at, with_mark, up_to_latest, found}

-- ---- writing

-- b is the buffer d after the n bytes s are written from an offset on
pub record Written (d : List ℕ) (at : ℕ) (s : List ℕ) (n : ℕ) (b : List ℕ) : Type 0 where
  pub size : length s ≡ n
  pub bytes : b ≡ paste d at s (length s)

-- a whole part that is written after another: both are written as one
paste_after : (d : List ℕ) (at : ℕ) (s t : List ℕ) → at + length s + length t ≤ length d
    → paste (paste d at s (length s)) (at + length s) t (length t) ≡ paste d at (s ++ t) (length (s ++ t))
paste_after d at s t h =
    let n = length s in
    let all : at + n + length t ≡ at + length (s ++ t) = omega (arith, length-append s t) in
    let front : take (at + n) (paste d at s n) ≡ take at d ++ s =
    take-paste d at s n (omega arith) (omega arith) ∙ ap (λ (l : List ℕ). take at d ++ l) (take-length s) in
    let rest : drop (at + n + length t) (paste d at s n) ≡ drop (at + length (s ++ t)) d =
    sym (drop-drop (length t) (at + n) (paste d at s n))
    ∙ ap (drop (length t)) (drop-paste d at s n (omega arith) (omega arith))
    ∙ drop-drop (length t) (at + n) d
    ∙ ap (λ (k : ℕ). drop k d) all in
    ap₂ (λ (l r : List ℕ). l ++ take (length t) t ++ r) front rest
    ∙ ap (λ (l : List ℕ). take at d ++ s ++ l ++ drop (at + length (s ++ t)) d) (take-length t)
    ∙ ap (λ (l : List ℕ). l ++ drop (at + length (s ++ t)) d) (append_assoc (take at d) s t)
    ∙ ap (λ (l : List ℕ). take at d ++ l ++ drop (at + length (s ++ t)) d) (sym (take-length (s ++ t)))

pub written_after : {d : List ℕ} {at : ℕ} {s : List ℕ} {n : ℕ} {b : List ℕ} → Written d at s n b → (t : List ℕ) {b' : List ℕ} {m : ℕ}
    → b' ≡ paste b (at + n) t (length t) → length t ≡ m → at + n + m ≤ length d → Written d at (s ++ t) (n + m) b'
written_after {d} {at} {s} {n} w t {b'} {m} e size room =
    let long = w.size in
    let end : at + n ≡ at + length s = omega arith in
    let sum : length (s ++ t) ≡ n + m = omega (arith, length-append s t) in
    record { size = sum; bytes = e ∙ ap₂ (λ (l : List ℕ) (i : ℕ). paste l i t (length t)) w.bytes end ∙ paste_after d at s t (omega arith) }

-- where the parts of a mark are written one after another from 64 j on, it is mark j of the buffer
pub parts_are_mark : (buffer : List ℕ) (j : ℕ) (name : List ℕ) (s : State) {total runs extra b : List ℕ}
    → total ≡ four_bytes s.total → runs ≡ four_bytes s.runs → extra ≡ four_bytes s.extra
    → Written buffer (64 * j) (name ++ (s.instance ∷ s.phase ∷ []) ++ total ++ runs ++ extra ++ s.bits ++ (0 ∷ 0 ∷ [])) 64 b
    → b ≡ with_mark buffer j (mark_of name s)
unfolding with_mark mark_of mark_fields four_bytes
parts_are_mark buffer j name s {total} {runs} {extra} et er ee w =
    let parts = name ++ (s.instance ∷ s.phase ∷ []) ++ total ++ runs ++ extra ++ s.bits ++ (0 ∷ 0 ∷ []) in
    w.bytes
    ∙ ap₂ (λ (l : List ℕ) (k : ℕ). take (64 * j) buffer ++ l ++ drop (64 * j + k) buffer) (take-length parts) w.size
    ∙ ap (λ (l : List ℕ). take (64 * j) buffer ++ l ++ drop (64 * j + 64) buffer) (rw (et, er, ee) (simp append_assoc))

-- ---- reading

-- the first 64 bytes of the buffer from 64 j on, as the code cuts them out
pub mark-part : (buffer : List ℕ) (j : ℕ) {mark : List ℕ} → mark ≡ take 64 (take (length buffer - 64 * j) (drop (64 * j) buffer)) → mark ≡ mark_at buffer j
unfolding mark_at
mark-part buffer j e = e ∙ ap (take 64) (take_all (length buffer - 64 * j) (drop (64 * j) buffer) (rw length-drop (omega arith)))

-- the name in a mark: its size, and byte j
pub name-size : (mark : List ℕ) → length mark ≡ 64 → length (name_in mark) ≡ 16
unfolding name_in
name-size mark size = length-take-le 16 mark (omega arith)

pub name-byte : (mark : List ℕ) (j : ℕ) → j < 16 → get_or (name_in mark) j 0 ≡ get_or mark j 0
unfolding name_in
name-byte mark j h = get_or-take 16 mark j 0 h

-- ---- the latest mark with a name

-- of the first j + 1 marks it is the last, if that has the name; else it is the latest of the first j
module _ (name buffer mark : List ℕ) (j k : ℕ) (e : mark ≡ mark_at buffer j) (last : k ≡ j + 1) where
  by_last : up_to_latest name buffer k ≡ cond (same (name_in mark) name) (j + 1) (up_to_latest name buffer j)
  unfolding up_to_latest
  by_last =
      let n : k ≡ suc j = omega arith in
      let m : j + 1 ≡ suc j = omega arith in
      rw (e, n, m)

  -- if these decide which is the latest of `count`, it is the one that is found among them
  pub last-named : (count : ℕ) → up_to_latest name buffer count ≡ up_to_latest name buffer k → same (name_in mark) name ≡ true
      → (0 < up_to_latest name buffer count) × (mark ≡ found name buffer count)
  unfolding found
  last-named count decide named =
      let upto : up_to_latest name buffer count ≡ j + 1 = decide ∙ by_last ∙ rw named in
      (omega (arith, upto), e ∙ ap (mark_at buffer) (omega (arith, upto)))

  pub last-not_named : {i : ℕ} → same (name_in mark) name ≡ false → i ≡ j → up_to_latest name buffer k ≡ up_to_latest name buffer i
  last-not_named other e' = by_last ∙ rw other (ap (up_to_latest name buffer) (sym e'))

-- among no marks none has the name
pub none_left : (name buffer : List ℕ) (k : ℕ) → k ≡ 0 → up_to_latest name buffer k ≡ 0
unfolding up_to_latest
none_left name buffer k none = ap (up_to_latest name buffer) none

-- it is among the first k
pub latest_within : (name buffer : List ℕ) (k : ℕ) → up_to_latest name buffer k ≤ k
unfolding up_to_latest
latest_within name buffer zero = omega arith
latest_within name buffer (suc j) = by_test (same (name_in (mark_at buffer j)) name) (latest_within name buffer j)
  where
    by_test : (t : Bool) {l : ℕ} → l ≤ j → cond t (suc j) l ≤ suc j
    by_test true h = omega arith
    by_test false h = omega arith
