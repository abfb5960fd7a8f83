-- States by what they hold: a state with b bits is determined by what it holds, and taking bits keeps it so.
use mathlib.Core.Bool.{true}
use mathlib.Core.List.{List, ◌++◌}
use mathlib.Core.Logic.{◌↔◌}
use mathlib.Core.Path.{◌≡◌, refl, sym, ap, ◌∙◌}
use Prim.Native.Nat.{ℕ, ◌+◌, ◌-◌, ◌/◌, ◌*◌, ◌%◌, ◌^◌, ◌<◌, ◌≤◌}
use native.Mathlib.Nat.{mod-eq_of_lt}
use native.Mathlib.Omega.{arith}
use borrow.Author.Tests.{eq-eqb, ne_eqb}
use lib.Bits.{bit_and, bit_xor, and_mask}
use lib.ListN.{length, get_or, set, take, drop}
use lib.Seq.{length-take-le}
use Rattle.refusals.specs.Lines.{first_line, line5}
use Rattle.quark.specs.Bytes.{bit_at, bits_of, bytes_of}
use Rattle.quark.specs.Instance.{instance_of, is_instance, is_width, state_bytes}
use Rattle.quark.specs.Sponge.{Counted, run_P}
use Rattle.quark.specs.Step.{P}
use Rattle.quark.proofs.Bits.{Wide, parity_lt}
use Rattle.quark.proofs.Bytes.{wide_bits_of}
use Rattle.quark.proofs.Instance.{regular, in_bytes}
use Rattle.permutation.specs.Lines.{line1, line4}
use Rattle.permutation.specs.Permute.{permute_number, on_bytes, overwritten}
use Rattle.permutation.proofs.Accepted.{accepted-bytes}
use Rattle.sponge.specs.declared.State.{State}
use Rattle.sponge.specs.Taking.{Content, holding, bit_index, add_bit, take_bit, take_bits}
use Rattle.sponge.specs.Soundness.{all_zero, closed_phase, content_of, state_with}
use Rattle.sponge.specs.leaf.Steps.{with_sponge}
use Rattle.sponge.proofs.Ready.{ZeroPast, Ready}
use Rattle.sponge.proofs.AfterTaking.{bit-index_lt, first-of_block, wide_added, wide_take_bits, total-take_bits, most-runs, take-bits_next}
use Rattle.sponge.proofs.StateBytes.{Bytes, multiple_of_32, weight_lt, flipped, bytes-added, bytes-permuted, bits-content, zero_past, bytes-content}

-- ---- P runs where no line refuses it

permute_number_lem : (i w size : ℕ) → is_instance i ≡ true → is_width i w ≡ true → size ≡ state_bytes i → permute_number i w size ≡ 0
unfolding permute_number first_line line1 line4 line5
permute_number_lem i w size has_instance wide e = simp (has_instance, wide, eq-eqb _ _ e)

pub permute_accepted : (i w : ℕ) (l : List ℕ) → is_instance i ≡ true → is_width i w ≡ true → length l ≡ state_bytes i → overwritten P i w l ≡ on_bytes P i l
permute_accepted i w l has_instance wide e = sym (accepted-bytes P i w 0 l (sym (permute_number_lem i w (length l) has_instance wide e)) refl)

-- ---- states that differ in some fields; no other law names all fields

-- in runs and bytes, from a state s
pub with_sponge_lem : (s : State) (c : Counted) {runs : ℕ} {bytes : List ℕ} → runs ≡ c.runs → bytes ≡ bytes_of 32 c.bits
    → ◌≡◌ {A = State} (record { instance = s.instance; phase = s.phase; total = s.total; runs = runs; extra = s.extra; bits = bytes }) (with_sponge s c)
unfolding with_sponge state_with content_of
with_sponge_lem s c e f k = record { instance = s.instance; phase = s.phase; total = s.total; runs = e k; extra = s.extra; bits = f k }

-- in phase, total and extra blocks
abbrev pub changed : (phase total extra : ℕ) → State → State
changed phase total extra s = record { instance = s.instance; phase = phase; total = total; runs = s.runs; extra = extra; bits = s.bits }

pub with_changed : (phase total extra : State → ℕ) (s t : State) (c : Counted) → t ≡ with_sponge s c
    → changed (phase t) (total t) (extra t) t
    ≡ state_with s.instance (phase (with_sponge s c)) (record { total = total (with_sponge s c); extra = extra (with_sponge s c); sponge = c })
unfolding with_sponge state_with content_of
with_changed phase total extra s t c e = ap (λ (x : State). changed (phase x) (total x) (extra x) x) e

-- ---- what a state holds

pub content_state_with : (i p : ℕ) (h : Content) → Wide (instance_of i).b h.sponge.bits → content_of (state_with i p h) ≡ h
unfolding content_of state_with
content_state_with i p h w = ap (λ (l : List ℕ). holding h (record { bits = l; runs = h.sponge.runs })) (bits-content i h.sponge.bits w)

pub state-with_content : (s : State) → length s.bits ≡ 32 → Bytes s.bits → ZeroPast s → state_with s.instance s.phase (content_of s) ≡ s
unfolding content_of with_sponge
state-with_content s n small z = sym (with_sponge_lem s (content_of s).sponge refl (sym (bytes-content s.instance s.bits n small z)))

pub wide_content : (s : State) → Wide (instance_of s.instance).b (content_of s).sponge.bits
unfolding content_of
wide_content s = wide_bits_of (instance_of s.instance).b s.bits

-- the bytes of b bits end in zeros
pub zeros_of_wide : (i : ℕ) (bits : List ℕ) {l : List ℕ} → Wide (instance_of i).b bits → l ≡ bytes_of 32 bits → all_zero (drop (state_bytes i) l) ≡ true
zeros_of_wide i bits w e = ap (λ (l : List ℕ). all_zero (drop (state_bytes i) l)) e ∙ zero_past i bits w

-- ---- a state t that holds h

module _ (i p : ℕ) (h : Content) (wide : Wide (instance_of i).b h.sponge.bits) (t : State) (e : t ≡ state_with i p h) where
  -- what is made of t's instance, phase and content is made of i, p and h
  pub of_content : {X : Type 0} (F : (i p : ℕ) → Content → X) → F t.instance t.phase (content_of t) ≡ F i p h
  unfolding state_with
  of_content F = ap (λ (x : State). F x.instance x.phase (content_of x)) e ∙ ap (F i p) (content_state_with i p h wide)

-- ---- a bit is taken

module _ (s : State) (x : ℕ) where
  abbrev pub added : Counted
  added = add_bit (instance_of s.instance) (bit_index (instance_of s.instance) s.total) x (content_of s).sponge

  pub wide_next : Wide (instance_of s.instance).b added.bits
  wide_next = wide_added (instance_of s.instance) (bit_index (instance_of s.instance) s.total) x (content_of s).sponge (wide_content s)

  -- the bytes with the bit added, as the code finds them
  pub added_bytes : (at : ℕ) → at ≡ bit_index (instance_of s.instance) s.total → x < 2 → length s.bits ≡ 32 → Bytes s.bits → ZeroPast s
      → set s.bits (at / 8) (bit_xor (get_or s.bits (at / 8) 0) (x * 2 ^ (7 - bit_and at 7) % 256)) ≡ bytes_of 32 added.bits
  unfolding add_bit content_of
  added_bytes at e single n small z =
      ap (λ (k : ℕ). set s.bits (at / 8) (bit_xor (get_or s.bits (at / 8) 0) (x * 2 ^ (7 - k) % 256))) (and_mask at 3)
      ∙ ap (λ (v : ℕ). set s.bits (at / 8) (bit_xor (get_or s.bits (at / 8) 0) v)) (mod-eq_of_lt (weight_lt x (at % 8) single))
      ∙ ap (λ (k : ℕ). flipped s.bits k x) e
      ∙ bytes-added s.instance s.bits n small z (bit_index (instance_of s.instance) s.total) x
      (bit-index_lt (instance_of s.instance) (regular s.instance) s.total) single

  -- what it holds once the bit is added and counted
  abbrev pub counted : Content
  counted = record { total = s.total + 1; extra = s.extra; sponge = added }

  module _ (t : State) (e : t ≡ with_sponge s added) where
    pub counted_state : changed t.phase (t.total + 1) t.extra t ≡ state_with s.instance s.phase counted
    unfolding with_sponge state_with content_of
    counted_state = with_changed (λ t. t.phase) (λ t. t.total + 1) (λ t. t.extra) s t added e

    -- the code's test: the next index is that of the total 0, the first of a block, exactly where the total after the bit is a multiple of r
    pub block_ends : {next first : ℕ} → next ≡ bit_index (instance_of t.instance) (t.total + 1) → first ≡ bit_index (instance_of t.instance) 0
        → (next ≡ first) ↔ ((s.total + 1) % (instance_of s.instance).r ≡ 0)
    unfolding with_sponge state_with content_of
    block_ends en ef =
        let n = en ∙ ap (λ (y : State). bit_index (instance_of y.instance) (y.total + 1)) e in
        let f = ef ∙ ap (λ (y : State). bit_index (instance_of y.instance) 0) e in
        let ends = first-of_block (instance_of s.instance) (s.total + 1) _ (multiple_of_32 s.instance _ refl) in
        (λ q. ends.0 (sym n ∙ q ∙ f), λ z. n ∙ ends.1 z ∙ sym f)

  -- the bit is the last of its block, and P runs
  pub take-bit_runs : (t : State) → t ≡ state_with s.instance s.phase counted
      → (s.total + 1) % (instance_of s.instance).r ≡ 0
      → with_sponge t (run_P (instance_of t.instance) (content_of t).sponge) ≡ state_with s.instance s.phase (take_bit (instance_of s.instance) (content_of s) x)
  unfolding take_bit content_of with_sponge
  take-bit_runs t e z =
      of_content s.instance s.phase counted wide_next t e (λ i p h. state_with i p (holding h (run_P (instance_of i) h.sponge)))
      ∙ rw (eq-eqb _ _ z)

  -- it is not
  pub take-bit_waits : ((s.total + 1) % (instance_of s.instance).r ≡ 0 → ⊥)
      → state_with s.instance s.phase counted
      ≡ state_with s.instance s.phase (take_bit (instance_of s.instance) (content_of s) x)
  unfolding take_bit content_of
  take-bit_waits z = rw (ne_eqb _ _ z)

-- ---- the 1 of the padding is added, and the phase is closed

module _ (s : State) where
  abbrev pub padded : Content
  padded = holding (content_of s) (added s 1)

  pub padded_state : (t : State) → t ≡ with_sponge s (added s 1) → changed closed_phase t.total t.extra t ≡ state_with s.instance closed_phase padded
  unfolding with_sponge state_with content_of
  padded_state t e = with_changed (λ t. closed_phase) (λ t. t.total) (λ t. t.extra) s t (added s 1) e

  -- ---- P runs

  -- the bytes after P, as the code finds them: its answer's, and the rest as it was
  pub ran_bytes : (w size : ℕ) {out : List ℕ} → size ≡ state_bytes s.instance → out ≡ overwritten P s.instance w (take size s.bits) → Ready s w
      → length s.bits ≡ 32 → out ++ drop size s.bits ≡ bytes_of 32 (run_P (instance_of s.instance) (content_of s).sponge).bits
  unfolding run_P content_of state_bytes
  ran_bytes w size es eo ready n =
      let m : length (take size s.bits) ≡ state_bytes s.instance =
      length-take-le size s.bits (omega (arith, (in_bytes s.instance).at-most_256)) ∙ es in
      ap (λ (l : List ℕ). l ++ drop size s.bits) (eo ∙ permute_accepted s.instance w (take size s.bits) ready.has_instance ready.has_width m)
      ∙ ap (λ (k : ℕ). on_bytes P s.instance (take k s.bits) ++ drop k s.bits) es
      ∙ bytes-permuted s.instance s.bits n ready.zero_past

-- ---- the first k bits of some bytes are taken

pub bit-lt : (bytes : List ℕ) (k : ℕ) → bit_at bytes k < 2
unfolding bit_at
bit-lt bytes k = parity_lt (get_or bytes (k / 8) 0 / 2 ^ (7 - k % 8))

module _ (s : State) (bytes : List ℕ) (k : ℕ) where
  abbrev pub after_bits : Content
  after_bits = take_bits (instance_of s.instance) (content_of s) (bits_of k bytes)

  wide_after_bits : Wide (instance_of s.instance).b after_bits.sponge.bits
  wide_after_bits = wide_take_bits (instance_of s.instance) (regular s.instance) (content_of s) (bits_of k bytes) (wide_content s)

  module _ (t : State) (e : t ≡ state_with s.instance s.phase after_bits) where
    pub total-after_bits : t.total ≡ s.total + k
    unfolding state_with content_of
    total-after_bits =
        ap (λ (y : State). y.total) e
        ∙ total-take_bits (instance_of s.instance) (regular s.instance) (content_of s) (bits_of k bytes)
        ∙ ap (λ (n : ℕ). s.total + n) (wide_bits_of k bytes).0

    -- P has run at most once for each bit
    pub runs-after_bits : t.runs ≤ s.runs + k
    unfolding state_with content_of
    runs-after_bits =
        let most = most-runs (instance_of s.instance) (content_of s) (bits_of k bytes) in
        omega (arith, most, ap (λ (y : State). y.runs) e, (wide_bits_of k bytes).0)

    -- and one bit more
    pub next_bit : state_with t.instance t.phase (take_bit (instance_of t.instance) (content_of t) (bit_at bytes k))
        ≡ state_with s.instance s.phase (take_bits (instance_of s.instance) (content_of s) (bits_of (k + 1) bytes))
    next_bit =
        of_content s.instance s.phase after_bits wide_after_bits t e (λ i p h. state_with i p (take_bit (instance_of i) h (bit_at bytes k)))
        ∙ ap (state_with s.instance s.phase) (sym (take-bits_next (instance_of s.instance) (content_of s) bytes k))
