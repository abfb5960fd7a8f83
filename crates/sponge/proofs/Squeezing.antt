-- Giving out blocks: a run of P for each, then the state's last r bits as bytes.
use mathlib.Core.List.{List, [], ◌++◌}
use mathlib.Core.Path.{◌≡◌, refl, sym, ap, ap₂, ◌∙◌}
use Prim.Native.Nat.{ℕ, zero, suc, ◌+◌, ◌*◌, ◌-◌, ◌/◌, ◌≤◌, ◌<◌}
use native.Mathlib.Nat.{zero-mul, add-mul, mul-le-mul_right}
use native.Mathlib.Numerals.{add-one}
use native.Mathlib.Omega.{arith}
use lib.ListN.{length, take, drop, length-append, length-drop}
use lib.Seq.{paste, take_at, drop_at, drop-drop, take_all}
use Rattle.quark.specs.Bytes.{tabulate, bytes_of}
use Rattle.quark.specs.Instance.{Instance, U, D, S, instance_of, state_bytes}
use Rattle.quark.specs.Sponge.{Counted, run_P, squeezed, output}
use Rattle.quark.proofs.Bits.{Wide}
use Rattle.quark.proofs.Bytes.{length-bytes_of, bytes-append}
use Rattle.quark.proofs.Instance.{of_each, regular}
use Rattle.quark.proofs.Blocks.{wide_squeezed}
use Rattle.quark.proofs.Runs.{runs-squeezed, squeezed-run}
use Rattle.sponge.specs.declared.State.{State}
use Rattle.sponge.specs.Taking.{Content, holding, squeeze_output, extra_squeezed}
use Rattle.sponge.specs.Soundness.{content_of, state_with}
use Rattle.sponge.specs.leaf.Steps.{with_sponge}
use Rattle.sponge.proofs.Ready.{ZeroPast}
use Rattle.sponge.proofs.StateBytes.{Bytes, whole-rate}
use Rattle.sponge.proofs.Contents.{state-with_content, wide_content, of_content}

-- ---- lists

-- a part is written after what was written
paste_next : (x y d : List ℕ) (m q : ℕ) → length x ≡ m → length y ≡ q → paste (x ++ drop m d) m y q ≡ (x ++ y) ++ drop (m + q) d
paste_next x y d m q ex ey =
    ap₂ (λ (a b : List ℕ). a ++ take q y ++ b) (take_at x (drop m d) m ex)
    (sym (drop-drop q m (x ++ drop m d)) ∙ ap (drop q) (drop_at x (drop m d) m ex) ∙ drop-drop q m d)
    ∙ ap (λ (z : List ℕ). x ++ z ++ drop (m + q) d) (take_all q y (omega arith))

-- of `count` parts of q bytes, part k fits
part_fits : (k q count : ℕ) → k < count → k * q + q ≤ count * q
part_fits k q count h = omega (arith, add-mul k 1 q, mul-le-mul_right {m = k + 1} {n = count} q (omega arith))

-- the next block fits into the buffer
pub block_fits : (i k count : ℕ) {step size : ℕ} → k < count → step ≡ (instance_of i).r / 8 → size ≡ count * ((instance_of i).r / 8)
    → k * step + (instance_of i).r / 8 ≤ size
block_fits i k count {step} h es en =
    omega (arith, part_fits k step count h, ap (λ (q : ℕ). count * q) es)

-- n/r blocks of r/8 bytes are b/8 bytes
pub whole-output : (i : ℕ) → (instance_of i).n / (instance_of i).r * ((instance_of i).r / 8) ≡ state_bytes i
unfolding U D S state_bytes
whole-output = of_each (λ I. I.n / I.r * (I.r / 8) ≡ I.b / 8) refl refl refl

-- ---- extra blocks

-- each is the last r bits after its own run of P
pub next_block : (I : Instance) (k : ℕ) (h : Content)
    → squeeze_output I (suc k) h ≡ squeeze_output I k h ++ drop (I.b - I.r) (extra_squeezed I (suc k) h).sponge.bits
unfolding squeeze_output extra_squeezed output
next_block I k h = ap (λ (c : Counted). output I k (run_P I h.sponge) ++ drop (I.b - I.r) c.bits) (squeezed-run I k h.sponge)

-- ---- one block more, from c

module _ (i : ℕ) (c : Counted) (wide : Wide (instance_of i).b c.bits) where
  -- block k: the last r bits after k runs
  abbrev last_of : ℕ → List ℕ
  last_of k = drop ((instance_of i).b - (instance_of i).r) (squeezed (instance_of i) k c).bits

  length_last : (k : ℕ) → length (last_of k) ≡ 8 * ((instance_of i).r / 8)
  length_last k =
      length-drop ((instance_of i).b - (instance_of i).r) (squeezed (instance_of i) k c).bits
      ∙ omega (arith, (wide_squeezed (instance_of i) (regular i) k c wide).0, (regular i).rate_fits, whole-rate i)

  pub length-output : (k : ℕ) → length (output (instance_of i) k c) ≡ 8 * (k * ((instance_of i).r / 8))
  unfolding output
  length-output zero = omega arith
  length-output (suc k) = length-append (output (instance_of i) k c) (last_of k) ∙ omega (arith, length-output k, length_last k)

  output-next : (k : ℕ) (d buffer : List ℕ) → let q = (instance_of i).r / 8 in buffer ≡ bytes_of (k * q) (output (instance_of i) k c) ++ drop (k * q) d
      → paste buffer (k * q) (bytes_of q (last_of k)) q ≡ bytes_of ((k + 1) * q) (output (instance_of i) (k + 1) c) ++ drop ((k + 1) * q) d
  unfolding output
  output-next k d buffer e =
      let q = (instance_of i).r / 8 in
      let out = output (instance_of i) k c in
      ap (λ (l : List ℕ). paste l (k * q) (bytes_of q (last_of k)) q) e
      ∙ paste_next (bytes_of (k * q) out) (bytes_of q (last_of k)) d (k * q) q (length-bytes_of (k * q) out) (length-bytes_of q (last_of k))
      ∙ ap (λ (l : List ℕ). l ++ drop (k * q + q) d) (sym (bytes-append (k * q) q out (last_of k) (length-output k)))
      ∙ ap₂ (λ (m n : ℕ). bytes_of m (output (instance_of i) n c) ++ drop m d) (omega (arith, add-mul k 1 q)) (sym (add-one k))

-- ---- after k blocks

-- the state after the last run, and the buffer, which was d
pub record BlocksOut (s : State) (d buffer : List ℕ) (t : State) (k : ℕ) : Type 0 where
  pub state-is : t ≡ with_sponge s (squeezed (instance_of s.instance) k (content_of s).sponge)
  pub buffer-is : buffer
      ≡ bytes_of (k * ((instance_of s.instance).r / 8)) (output (instance_of s.instance) k (run_P (instance_of s.instance) (content_of s).sponge))
      ++ drop (k * ((instance_of s.instance).r / 8)) d
  pub long : length buffer ≡ length d

-- none yet
pub blocks_none : (s : State) → length s.bits ≡ 32 → Bytes s.bits → ZeroPast s → (d : List ℕ) → BlocksOut s d d s 0
unfolding squeezed output with_sponge content_of bytes_of tabulate
blocks_none s n small z d = record {
  state-is = sym (state-with_content s n small z);
  buffer-is = ap (λ (n : ℕ). bytes_of n [] ++ drop n d) (sym (zero-mul ((instance_of s.instance).r / 8)));
  long = refl;
}

module _ (s : State) where
  abbrev squeezed_content : ℕ → Content
  squeezed_content j = holding (content_of s) (squeezed (instance_of s.instance) j (content_of s).sponge)

  wide_squeezed_content : (j : ℕ) → Wide (instance_of s.instance).b (squeezed_content j).sponge.bits
  wide_squeezed_content j = wide_squeezed (instance_of s.instance) (regular s.instance) j (content_of s).sponge (wide_content s)

module _ (s : State) (d buffer : List ℕ) (t : State) (k : ℕ) (g : BlocksOut s d buffer t k) where
  pub blocks_runs : t.runs ≡ s.runs + k
  unfolding with_sponge state_with content_of
  blocks_runs = ap (λ (y : State). y.runs) g.state-is ∙ runs-squeezed (instance_of s.instance) k (content_of s).sponge

  -- one block more, from the state u after P
  module _ (u : State) (e : u ≡ with_sponge t (run_P (instance_of t.instance) (content_of t).sponge)) where
    after_run : u ≡ state_with s.instance s.phase (squeezed_content s (suc k))
    unfolding with_sponge squeezed content_of
    after_run =
        e
        ∙ of_content s.instance s.phase (squeezed_content s k) (wide_squeezed_content s k) t g.state-is
        (λ i p h. state_with i p (holding h (run_P (instance_of i) h.sponge)))

    pub run-instance : u.instance ≡ s.instance
    unfolding state_with
    run-instance = ap (λ (y : State). y.instance) after_run

    pub blocks_next : (next : List ℕ)
        → next ≡ paste buffer (k * ((instance_of s.instance).r / 8)) (bytes_of ((instance_of u.instance).r / 8) (drop ((instance_of u.instance).b - (instance_of u.instance).r) (content_of u).sponge.bits)) ((instance_of u.instance).r / 8)
        → length next ≡ length buffer
        → BlocksOut s d next u (k + 1)
    unfolding with_sponge content_of run_P squeezed
    blocks_next next en long =
        let I = instance_of s.instance in
        let q = I.r / 8 in
        let c = (content_of s).sponge in
        let wide : Wide I.b (run_P I c).bits = wide_squeezed_content s 1 in
        let last : bytes_of ((instance_of u.instance).r / 8) (drop ((instance_of u.instance).b - (instance_of u.instance).r) (content_of u).sponge.bits)
        ≡ bytes_of q (drop (I.b - I.r) (squeezed I k (run_P I c)).bits) =
        of_content s.instance s.phase (squeezed_content s (suc k)) (wide_squeezed_content s (suc k)) u after_run
        (λ i p h. bytes_of ((instance_of i).r / 8) (drop ((instance_of i).b - (instance_of i).r) h.sponge.bits))
        ∙ ap (λ (x : Counted). bytes_of q (drop (I.b - I.r) x.bits)) (sym (squeezed-run I k c)) in
        record {
          state-is = after_run ∙ ap (λ (j : ℕ). state_with s.instance s.phase (squeezed_content s j)) (sym (add-one k));
          buffer-is = en
              ∙ ap₂ (λ (l : List ℕ) (i : ℕ). paste buffer (k * q) l ((instance_of i).r / 8)) last run-instance
              ∙ output-next s.instance (run_P I c) wide k d buffer g.buffer-is;
          long = long ∙ g.long;
        }
