-- A byte as `{:02X}` writes it is its two digits.
use Rattle.std.proofs.Common.{◌≡◌, ◌∙◌, ℕ, ◌+◌, ◌<◌, ◌/◌, ◌%◌, Bool, true, false, nat_eq, [], ◌∷◌, ◌++◌, List, length, take, slice_index_or, arith, refl, ap, sym}
use Rattle.std.proofs.lemmas.Bool.{eqb-true, eq-eqb}
use Rattle.std.proofs.lemmas.Grind.{common_steps}
use Rattle.std.specs.Fmt.{digits, padded_integral, format_spec, char_count}
use Rattle.known_answers.specs.Hex.{hex, two_digits, digit}

-- under `02`
abbrev pub two_wide : List ℕ → List ℕ
two_wide numeral = padded_integral (format_spec 32 0 4 2 18446744073709551615) false [] numeral

one : (a : ℕ) → two_wide (a ∷ []) ≡ 48 ∷ a ∷ []
unfolding padded_integral char_count
one a = refl

two : (a b : ℕ) → two_wide (a ∷ b ∷ []) ≡ a ∷ b ∷ []
unfolding padded_integral char_count
two a b = refl

below_16 : (n : ℕ) → nat_eq (n / 16) 0 ≡ true → digits 16 true n ≡ digit (n % 16) ∷ []
unfolding digit digits
below_16 n e = rw e refl

from_16 : (n : ℕ) → nat_eq (n / 16) 0 ≡ false → nat_eq (n / 16 / 16) 0 ≡ true → digits 16 true n ≡ digit (n / 16 % 16) ∷ digit (n % 16) ∷ []
unfolding digit digits
from_16 n e f = rw (e, f) refl

by_case : (n : ℕ) → n < 256 → (t : Bool) → nat_eq (n / 16) 0 ≡ t → two_wide (digits 16 true n) ≡ two_digits n
unfolding digit two_digits
by_case n small true e =
    let none = eqb-true (n / 16) 0 e in
    ap two_wide (below_16 n e) ∙ one (digit (n % 16)) ∙ ap (λ (d : ℕ). digit d ∷ digit (n % 16) ∷ []) (sym none)
by_case n small false e =
    let last = eq-eqb (n / 16 / 16) 0 (omega arith) in
    let same : n / 16 % 16 ≡ n / 16 = omega arith in
    ap two_wide (from_16 n e last) ∙ two (digit (n / 16 % 16)) (digit (n % 16)) ∙ ap (λ (d : ℕ). digit d ∷ digit (n % 16) ∷ []) same

more : (bytes : List ℕ) (i : ℕ) → i < length bytes → hex (take i bytes) ++ two_digits (slice_index_or bytes i 0) ≡ hex (take (i + 1) bytes)
unfolding hex
more bytes i within = grind (arith, common_steps)

-- the text so far, and a byte after it
pub byte_after : (bytes : List ℕ) (i : ℕ) → i < length bytes → slice_index_or bytes i 0 < 256
    → hex (take i bytes) ++ two_wide (digits 16 true (slice_index_or bytes i 0)) ≡ hex (take (i + 1) bytes)
byte_after bytes i within small =
    ap (λ (text : List ℕ). hex (take i bytes) ++ text) (by_case (slice_index_or bytes i 0) small _ refl) ∙ more bytes i within
