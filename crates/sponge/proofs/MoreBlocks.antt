-- More blocks from a closed state: j blocks and then k are j + k at once, and in a list the digest and the extra blocks are the definition's
-- output over the message, cut where each call ends.
use mathlib.Core.Bool.{Bool, true, false}
use mathlib.Core.List.{List, ◌++◌}
use mathlib.Core.Path.{◌≡◌, refl, sym, ap, ap₂, ◌∙◌}
use Prim.Native.Nat.{ℕ, ◌+◌, ◌*◌, ◌/◌}
use native.Mathlib.Nat.{add_assoc, add-mul, add-zero, zero-mul}
use native.Mathlib.Omega.{arith}
use borrow.Author.Tests.{le-ltb}
use lib.ListN.{length, length-append}
use Rattle.refusals.specs.Lines.{first_line}
use Rattle.refusals.proofs.FirstLine.{none_holds, length-right}
use Rattle.refusals.proofs.Outcome.{accepted-left}
use Rattle.quark.specs.Bytes.{bytes_of}
use Rattle.quark.specs.Instance.{Instance, instance_of, is_instance, state_bytes}
use Rattle.quark.specs.Sponge.{Counted, run_P, pad, block_count, absorbed, squeezed, output, closed, digest}
use Rattle.quark.proofs.Bits.{Wide}
use Rattle.quark.proofs.Blocks.{wide_squeezed, wide_before}
use Rattle.quark.proofs.Bytes.{bytes-append}
use Rattle.quark.proofs.Instance.{regular}
use Rattle.quark.proofs.Runs.{squeezed-run, squeezed-squeezed, output-append, output-goes_on}
use Rattle.permutation.specs.Lines.{line1, line4}
use Rattle.sponge.specs.declared.State.{State}
use Rattle.sponge.specs.Taking.{Content, squeeze_output, extra_squeezed}
use Rattle.sponge.specs.Soundness.{extra_limit, most_blocks, closed_phase, content_of, state_with}
use Rattle.sponge.specs.Outcomes.{line2, line3_squeeze, line14, line15, finish_number, finish_bytes, blocks_bytes, squeeze_number, squeeze_result, squeeze_bytes, result_by}
use Rattle.sponge.specs.Calls.{finish, squeeze, state_number, Message, grown, extended}
use Rattle.sponge.specs.Lists.{CallList, run, message_of}
use Rattle.sponge.specs.MoreBlocks.{TwoCalls, OneCall, AtOnce, given_out, DigestFirst, BlocksNext, MoreBlocks}
use Rattle.sponge.proofs.Contents.{wide_content, of_content}
use Rattle.sponge.proofs.Passed.{squeeze-passed}
use Rattle.sponge.proofs.Messages.{state_of, no_extras, content_message, sponge-closed, accepted-grows, finish-open, squeeze-closed}
use Rattle.sponge.proofs.SoundCalls.{squeeze-sound}
use Rattle.sponge.proofs.TwoLists.{run-state, state-answer}
use Rattle.sponge.proofs.WholeDigest.{whole-digest}
use Rattle.sponge.proofs.Squeezing.{length-output, whole-output}

-- ---- j blocks and then k

-- blocks of r/8 bytes
bytes-of_both : (i j k : ℕ) → blocks_bytes i (j + k) ≡ blocks_bytes i j + blocks_bytes i k
unfolding blocks_bytes
bytes-of_both i j k = add-mul j k ((instance_of i).r / 8)

-- the digest is n/r blocks
digest-blocks : (i : ℕ) → blocks_bytes i ((instance_of i).n / (instance_of i).r) ≡ state_bytes i
unfolding blocks_bytes
digest-blocks i = whole-output i

length-blocks_out : (i : ℕ) (c : Counted) → Wide (instance_of i).b c.bits → (k : ℕ) → length (output (instance_of i) k c) ≡ 8 * blocks_bytes i k
unfolding blocks_bytes
length-blocks_out i c wide k = length-output i c wide k

module _ (i j k : ℕ) (h : Content) where
  -- what is held
  squeezed-both : extra_squeezed (instance_of i) k (extra_squeezed (instance_of i) j h) ≡ extra_squeezed (instance_of i) (j + k) h
  unfolding extra_squeezed
  squeezed-both =
      ap₂ (λ (e : ℕ) (c : Counted). record { total = h.total; extra = e; sponge = c }) (add_assoc h.extra j k)
      (squeezed-squeezed (instance_of i) j k h.sponge)

  -- what is given out
  output-both : Wide (instance_of i).b h.sponge.bits
      → bytes_of (blocks_bytes i (j + k)) (squeeze_output (instance_of i) (j + k) h)
      ≡ bytes_of (blocks_bytes i j) (squeeze_output (instance_of i) j h)
      ++ bytes_of (blocks_bytes i k) (squeeze_output (instance_of i) k (extra_squeezed (instance_of i) j h))
  unfolding squeeze_output extra_squeezed blocks_bytes squeezed
  output-both wide =
      let I = instance_of i in
      let c = run_P I h.sponge in
      let wide-c : Wide I.b c.bits = wide_squeezed I (regular i) 1 h.sponge wide in
      ap₂ bytes_of (bytes-of_both i j k) (sym (output-append I j k c) ∙ ap (λ (x : Counted). output I j c ++ output I k x) (squeezed-run I j h.sponge))
      ∙ bytes-append (blocks_bytes i j) (blocks_bytes i k) (output I j c) (output I k (run_P I (squeezed I j h.sponge))) (length-blocks_out i c wide-c j)

module _ (s : State) (w w' j k : ℕ) (buffer buffer' : List ℕ) (both : TwoCalls s w w' j k buffer buffer') where
  abbrev i : ℕ
  i = s.instance

  abbrev I : Instance
  I = instance_of s.instance

  -- the state that the first call hands back
  abbrev t : State
  t = (squeeze_result s w j (length buffer)).state

  t_is : t ≡ state_with i closed_phase (extra_squeezed I j (content_of s))
  unfolding squeeze_result result_by
  t_is = sym (accepted-left _ _ _ both.first)

  same-instance : t.instance ≡ i
  unfolding state_with
  same-instance = ap (λ (x : State). x.instance) t_is

  more_extra : t.extra ≡ s.extra + j
  unfolding state_with extra_squeezed content_of
  more_extra = ap (λ (x : State). x.extra) t_is

  -- what is made of t's instance and content
  of_t : {X : Type 0} (F : ℕ → Content → X) → F t.instance (content_of t) ≡ F i (extra_squeezed I j (content_of s))
  unfolding extra_squeezed
  of_t F =
      of_content i closed_phase (extra_squeezed I j (content_of s)) (wide_squeezed I (regular i) j (content_of s).sponge (wide_content s)) t t_is
      (λ n p h. F n h)

  both_long : length (buffer ++ buffer') ≡ blocks_bytes i (j + k)
  both_long =
      length-append buffer buffer'
      ∙ ap₂ (λ (m n : ℕ). m + n) (squeeze-passed s w j (length buffer) both.first).fits
      ((squeeze-passed t w' k (length buffer') both.second).fits ∙ ap (λ (n : ℕ). blocks_bytes n k) same-instance)
      ∙ sym (bytes-of_both i j k)

  -- lines 1 to 4 are those of the first call
  state-lines : (line1 i ≡ false) × (line2 s ≡ false) × (line3_squeeze s ≡ false) × (line4 i w ≡ false)
  unfolding squeeze_number
  state-lines = let none = none_holds _ refl both.first in (search none, search none, search none, search none)

  one_accepted : squeeze_number s w (j + k) (length (buffer ++ buffer')) ≡ 0
  unfolding squeeze_number first_line line14 line15
  one_accepted =
      let p = squeeze-passed s w j (length buffer) both.first in
      let q = squeeze-passed t w' k (length buffer') both.second in
      rw (
        state-lines.0,
        state-lines.1,
        state-lines.2,
        state-lines.3,
        length-right (length (buffer ++ buffer')) (blocks_bytes i (j + k)) both_long,
        le-ltb (j + k) 1 (omega (arith, p.some)),
        le-ltb most_blocks (j + k) both.in_one,
        le-ltb extra_limit (s.extra + (j + k)) (omega (arith, q.room, more_extra)),
      )

  one_call : OneCall s w w' j k buffer buffer'
  unfolding squeeze_result result_by squeeze_bytes
  one_call = record {
    accepted = one_accepted;
    same-state = sym (accepted-left _ s _ one_accepted)
        ∙ ap (state_with i closed_phase) (sym (squeezed-both i j k (content_of s)))
        ∙ sym (of_t (λ n h. state_with n closed_phase (extra_squeezed (instance_of n) k h)))
        ∙ accepted-left _ t _ both.second;
    same_bytes = sym (accepted-left _ (buffer ++ buffer') _ one_accepted)
        ∙ output-both i j k (content_of s) (wide_content s)
        ∙ ap₂ (λ (x y : List ℕ). x ++ y) (accepted-left _ buffer _ both.first)
        (sym (of_t (λ n h. bytes_of (blocks_bytes n k) (squeeze_output (instance_of n) k h))) ∙ accepted-left _ buffer' _ both.second);
  }

-- ---- digest and blocks together

module _ (i : ℕ) (has_instance : is_instance i ≡ true) (list : CallList) where
  abbrev m : Message
  m = message_of i list

  -- n/r + e blocks and k more, as bytes
  blocks_out : (e k : ℕ)
      → bytes_of (state_bytes i + blocks_bytes i e) (output (instance_of i) ((instance_of i).n / (instance_of i).r + e) (absorbed (instance_of i) m.bits))
      ++ bytes_of (blocks_bytes i k) (output (instance_of i) k (run_P (instance_of i) (squeezed (instance_of i) e (closed (instance_of i) m.bits))))
      ≡ bytes_of (state_bytes i + blocks_bytes i (e + k)) (output (instance_of i) ((instance_of i).n / (instance_of i).r + (e + k)) (absorbed (instance_of i) m.bits))
  unfolding absorbed
  blocks_out e k =
      let I = instance_of i in
      let c = absorbed I m.bits in
      let wide : Wide I.b c.bits = wide_before I (regular i) (pad I m.bits) (block_count I m.bits) in
      let size : blocks_bytes i (I.n / I.r + e) ≡ state_bytes i + blocks_bytes i e =
      bytes-of_both i (I.n / I.r) e ∙ ap (λ (n : ℕ). n + blocks_bytes i e) (digest-blocks i) in
      let long : length (output I (I.n / I.r + e) c) ≡ 8 * (state_bytes i + blocks_bytes i e) = length-blocks_out i c wide (I.n / I.r + e) ∙ ap (λ (n : ℕ). 8 * n) size in
      sym (bytes-append (state_bytes i + blocks_bytes i e) (blocks_bytes i k) (output I (I.n / I.r + e) c)
      (output I k (run_P I (squeezed I e (closed I m.bits)))) long)
      ∙ ap₂ bytes_of (add_assoc (state_bytes i) (blocks_bytes i e) (blocks_bytes i k) ∙ ap (λ (n : ℕ). state_bytes i + n) (sym (bytes-of_both i e k)))
      (output-goes_on I (regular i) e k m.bits ∙ ap (λ (n : ℕ). output I n c) (add_assoc (I.n / I.r) e k))

  first_out : (w : ℕ) (buffer : List ℕ) → finish_number (run i list).state w (length buffer) ≡ 0
      → finish_bytes (run i list).state w buffer ≡ given_out i (extended i m (finish w (length buffer)))
  unfolding finish_bytes state_number given_out grown digest blocks_bytes
  first_out w buffer accepted =
      let I = instance_of i in
      let call = finish w (length buffer) in
      let r = run-state i has_instance list in
      let taken = sym (state-answer i has_instance list call) ∙ accepted in
      let open' = finish-open i m w (length buffer) taken in
      let is_open = ap₂ {C = Message} (λ (c : Bool) (e : ℕ). record { bits = m.bits; closed = c; extras = e }) open' (no_extras m r.1 open') in
      let size : state_bytes i ≡ state_bytes i + 0 * (I.r / 8) = omega (arith, zero-mul (I.r / 8)) in
      sym (accepted-left _ buffer _ accepted)
      ∙ whole-digest i m.bits (run i list).state (r.0 ∙ ap (state_of i) is_open)
      ∙ ap₂ (λ (n k : ℕ). bytes_of n (output I k (absorbed I m.bits))) size (sym (add-zero (I.n / I.r)))
      ∙ ap (given_out i) (sym (accepted-grows i m call taken))

  next_out : (w k : ℕ) (buffer : List ℕ) → squeeze_number (run i list).state w k (length buffer) ≡ 0
      → given_out i m ++ squeeze_bytes (run i list).state w k buffer ≡ given_out i (extended i m (squeeze w k (length buffer)))
  unfolding squeeze_bytes state_number given_out grown squeeze_output state_of state_with
  next_out w k buffer accepted =
      let I = instance_of i in
      let call = squeeze w k (length buffer) in
      let taken = sym (state-answer i has_instance list call) ∙ accepted in
      let shut = squeeze-closed i m w k (length buffer) taken in
      ap (λ (l : List ℕ). given_out i m ++ l)
      (sym (accepted-left _ buffer _ accepted)
      ∙ ap (λ (s : State). bytes_of (blocks_bytes s.instance k) (squeeze_output (instance_of s.instance) k (content_of s))) (run-state i has_instance list).0
      ∙ ap (λ (h : Content). bytes_of (blocks_bytes i k) (squeeze_output I k h)) (content_message i m)
      ∙ ap (λ (c : Counted). bytes_of (blocks_bytes i k) (output I k (run_P I c))) (sponge-closed i m shut))
      ∙ blocks_out m.extras k
      ∙ ap (given_out i) (sym (accepted-grows i m call taken))

pub more_blocks : MoreBlocks
unfolding AtOnce DigestFirst BlocksNext
more_blocks = record { squeeze-sound = squeeze-sound; at_once = one_call; digest-first = first_out; blocks_next = next_out }
