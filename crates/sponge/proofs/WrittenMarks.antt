-- A mark read back: its name, its state and its two zeros; and the marks of a buffer once one more is written.
use mathlib.Core.Bool.{Bool, true, false, cond, ◌&&◌}
use mathlib.Core.List.{List, [], ◌∷◌, ◌++◌, append_assoc}
use mathlib.Core.Path.{◌≡◌, sym, ap, ap₂, ◌∙◌, subst}
use Prim.Native.Nat.{ℕ, ◌+◌, ◌*◌, ◌/◌, ◌%◌, ◌≤◌, ◌<◌}
use native.Mathlib.Nat.{add_assoc, div-le_self}
use native.Mathlib.Omega.{arith}
use borrow.Author.Tests.{eq-eqb}
use lib.Dec.{eqb}
use lib.ListN.{length, take, drop, length-append, length-drop, take-append-drop}
use lib.Seq.{length-take-le, take-append-le, drop-append-le, get_or-append-add, take_at, drop_at, drop-drop}
use Rattle.quark.specs.Instance.{instance_of}
use Rattle.sponge.specs.declared.State.{State}
use Rattle.sponge.specs.Bytes.{byte, four_byte_number}
use Rattle.sponge.specs.Soundness.{extra_limit, absorbing_phase, sound_runs, most_extra, sound}
use Rattle.sponge.specs.Marks.{name_size, mark_size, four_bytes, mark_fields, mark_of, name_in, state_in, ends_in_zeros, mark_at, with_mark}
use Rattle.sponge.proofs.StateBytes.{outputs_small}
use Rattle.sponge.proofs.Soundness.{tests}

-- ---- a number in four bytes

-- a number is the sum of its digits to the base 256
digits : (x y z a b c d : ℕ) → x ≡ y * 256 + d → y ≡ z * 256 + c → z ≡ a * 256 + b → a * 16777216 + b * 65536 + c * 256 + d ≡ x
digits x y z a b c d p q r = omega arith

number_back : (n : ℕ) → n < 4294967296 → n / 16777216 % 256 * 16777216 + n / 65536 % 256 * 65536 + n / 256 % 256 * 256 + n % 256 ≡ n
number_back n h = digits n (n / 256) (n / 65536) (n / 16777216 % 256) (n / 65536 % 256) (n / 256 % 256) (n % 256) (omega arith) (omega arith) (omega arith)

-- ---- the numbers of a sound state have four bytes

pub record InFourBytes (s : State) : Type 0 where
  pub total-fits : s.total < 4294967296
  pub runs_fit : s.runs < 4294967296
  pub extra-fits : s.extra < 4294967296

few-extra : (absorbing : Bool) (extra : ℕ) → extra ≤ cond absorbing 0 extra_limit → extra ≤ extra_limit
few-extra true extra h = omega arith
few-extra false extra h = h

few-runs : (absorbing : Bool) (blocks outputs extra : ℕ) → cond absorbing blocks (blocks + outputs + extra) ≤ blocks + outputs + extra
few-runs true blocks outputs extra = omega arith
few-runs false blocks outputs extra = omega arith

pub in_four_bytes : (s : State) → sound s ≡ true → InFourBytes s
unfolding sound_runs most_extra
in_four_bytes s e =
    let t = tests s e in
    let I = instance_of s.instance in
    let few : s.extra ≤ extra_limit = few-extra (eqb s.phase absorbing_phase) s.extra t.extra-within in
    let runs : s.runs ≤ s.total / I.r + I.n / I.r + s.extra =
    subst (λ (n : ℕ). n ≤ s.total / I.r + I.n / I.r + s.extra) (sym t.runs-are)
    (few-runs (eqb s.phase absorbing_phase) (s.total / I.r) (I.n / I.r) s.extra) in
    record {
      total-fits = omega (arith, t.total-within);
      runs_fit = omega (arith, t.total-within, outputs_small s.instance, div-le_self s.total I.r);
      extra-fits = omega arith;
    }

-- ---- a mark read back

module _ (name : List ℕ) (s : State) (named : length name ≡ name_size) where
  -- what stands after the name
  abbrev rest : List ℕ
  rest = mark_fields s ++ (s.bits ++ (0 ∷ 0 ∷ []))

  name-first : mark_of name s ≡ name ++ rest
  unfolding mark_of
  name-first = append_assoc (name ++ mark_fields s) s.bits (0 ∷ 0 ∷ []) ∙ append_assoc name (mark_fields s) (s.bits ++ (0 ∷ 0 ∷ []))

  after-name : (j : ℕ) → byte (mark_of name s) (16 + j) ≡ byte rest j
  after-name j =
      ap (λ (l : List ℕ). byte l (16 + j)) name-first
      ∙ subst (λ (n : ℕ). byte (name ++ rest) (n + j) ≡ byte rest j) named (get_or-append-add name rest j 0)

  pub name_back : name_in (mark_of name s) ≡ name
  unfolding name_in
  name_back = ap (take name_size) name-first ∙ take_at name rest name_size named

  number_after_name : (j : ℕ) → four_byte_number (mark_of name s) (16 + j) ≡ four_byte_number rest j
  unfolding four_byte_number
  number_after_name j =
      let next : (k : ℕ) → byte (mark_of name s) (16 + j + k) ≡ byte rest (j + k) =
      λ k. ap (byte (mark_of name s)) (add_assoc 16 j k) ∙ after-name (j + k) in
      rw (after-name j, next 1, next 2, next 3)

  module _ (long : length s.bits ≡ 32) where
    pub length-mark : length (mark_of name s) ≡ mark_size
    unfolding mark_fields four_bytes
    length-mark =
        ap length name-first ∙ length-append name rest ∙ omega (arith, length-append s.bits (0 ∷ 0 ∷ []))

    pub zeros_back : ends_in_zeros (mark_of name s) ≡ true
    unfolding ends_in_zeros mark_fields four_bytes
    zeros_back =
        let at : (k : ℕ) → byte (s.bits ++ (0 ∷ 0 ∷ [])) (32 + k) ≡ byte (0 ∷ 0 ∷ []) k =
        λ k. subst (λ (n : ℕ). byte (s.bits ++ (0 ∷ 0 ∷ [])) (n + k) ≡ byte (0 ∷ 0 ∷ []) k) long (get_or-append-add s.bits (0 ∷ 0 ∷ []) k 0) in
        ap₂ ◌&&◌ (eq-eqb (byte (mark_of name s) 62) 0 (after-name 46 ∙ at 0)) (eq-eqb (byte (mark_of name s) 63) 0 (after-name 47 ∙ at 1))

    pub state-back : InFourBytes s → state_in (mark_of name s) ≡ s
    unfolding state_in mark_fields four_bytes four_byte_number
    state-back fits j = record {
      instance = after-name 0 j;
      phase = after-name 1 j;
      total = (number_after_name 2 ∙ number_back s.total fits.total-fits) j;
      runs = (number_after_name 6 ∙ number_back s.runs fits.runs_fit) j;
      extra = (number_after_name 10 ∙ number_back s.extra fits.extra-fits) j;
      bits = bits_back j;
    }
      where
        bits_back : take 32 (drop 30 (mark_of name s)) ≡ s.bits
        bits_back =
            ap (λ (l : List ℕ). take 32 (drop 30 l)) name-first
            ∙ ap (take 32) (sym (drop-drop 14 16 (name ++ rest)) ∙ ap (drop 14) (drop_at name rest 16 named))
            ∙ take_at s.bits (0 ∷ 0 ∷ []) 32 long

-- ---- the marks of a buffer once one more is written

module _ (buffer mark : List ℕ) (c : ℕ) (fits : mark_size * c + mark_size ≤ length buffer) (long : length mark ≡ mark_size) where
  length_front : length (take (mark_size * c) buffer) ≡ mark_size * c
  length_front = length-take-le (mark_size * c) buffer (omega arith)

  length_both : length (take (mark_size * c) buffer ++ mark) ≡ mark_size * c + mark_size
  length_both = length-append (take (mark_size * c) buffer) mark ∙ omega (arith, length_front)

  pub length-with_mark : length (with_mark buffer c mark) ≡ length buffer
  unfolding with_mark
  length-with_mark =
      length-append (take (mark_size * c) buffer ++ mark) (drop (mark_size * c + mark_size) buffer)
      ∙ omega (arith, length_both, length-drop (mark_size * c + mark_size) buffer)

  -- mark c is the one that was written
  pub mark-written : mark_at (with_mark buffer c mark) c ≡ mark
  unfolding mark_at with_mark
  mark-written =
      ap (λ (l : List ℕ). take mark_size (drop (mark_size * c) l)) (append_assoc (take (mark_size * c) buffer) mark (drop (mark_size * c + mark_size) buffer))
      ∙ ap (take mark_size) (drop_at (take (mark_size * c) buffer) (mark ++ drop (mark_size * c + mark_size) buffer) (mark_size * c) length_front)
      ∙ take_at mark (drop (mark_size * c + mark_size) buffer) mark_size long

  -- those before it stay
  front_stays : (j : ℕ) (after : List ℕ) → j < c → mark_at (take (mark_size * c) buffer ++ after) j ≡ mark_at (take (mark_size * c) buffer) j
  unfolding mark_at
  front_stays j after h =
      ap (take mark_size) (drop-append-le (mark_size * j) (take (mark_size * c) buffer) after (omega (arith, length_front)))
      ∙ take-append-le mark_size (drop (mark_size * j) (take (mark_size * c) buffer)) after (rw length-drop (omega (arith, length_front)))

  pub earlier_stay : (j : ℕ) → j < c → mark_at (with_mark buffer c mark) j ≡ mark_at buffer j
  unfolding with_mark
  earlier_stay j h =
      ap (λ (l : List ℕ). mark_at l j) (append_assoc (take (mark_size * c) buffer) mark (drop (mark_size * c + mark_size) buffer))
      ∙ front_stays j (mark ++ drop (mark_size * c + mark_size) buffer) h
      ∙ sym (front_stays j (drop (mark_size * c) buffer) h)
      ∙ ap (λ (l : List ℕ). mark_at l j) (take-append-drop (mark_size * c) buffer)

  -- and so does what stands after it
  pub rest-stays : drop (mark_size * c + mark_size) (with_mark buffer c mark) ≡ drop (mark_size * c + mark_size) buffer
  unfolding with_mark
  rest-stays = drop_at (take (mark_size * c) buffer ++ mark) (drop (mark_size * c + mark_size) buffer) (mark_size * c + mark_size) length_both
