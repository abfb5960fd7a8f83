-- A step undone is the start and an undone step redone is too, for any lawful taps; so are n steps, and P and its inverse on b bits.
-- Steps, P and their inverses keep lengths and bits.
use mathlib.Core.List.{List, [], ◌∷◌, ◌++◌}
use mathlib.Core.Path.{◌≡◌, refl, sym, ap, ap₂, ◌∙◌}
use Prim.Native.Nat.{ℕ, zero, suc, ◌+◌, ◌*◌, ◌-◌, ◌%◌, ◌<◌}
use native.Mathlib.Nat.{not-suc-le-zero, add-zero, add-suc}
use native.Mathlib.Omega.{arith}
use lib.ListN.{get_or-append, length, take, length-append, length-take, length-drop, take-append-drop}
use lib.Seq.{take_at, drop_at, get_or_at, get_or-take}
use Rattle.quark.specs.Bytes.{bit}
use Rattle.quark.specs.Feedback.{Taps, f, g, h, p}
use Rattle.quark.specs.Step.{Registers, shift, step_L, step, steps, steps_L, all_ones, loaded, stored, rounds, P}
use Rattle.quark.specs.Inverse.{unshift, gained, undo_step_L, undo_step, undo_steps, undo_P}
use Rattle.quark.specs.Together.{gain_X, gain_Y}
use Rattle.quark.proofs.Bits.{none, more, Wide, parity_lt, bits-append, bits-take, bits-drop, bits_at, split_last, bits-replicate}
use Rattle.quark.proofs.Taps.{Lawful}
use Rattle.quark.proofs.Feedback.{f-zero, g-zero, h-zero}
use Rattle.quark.proofs.Together.{registers-path, steps-add, steps_L-add, steps-L, step-gains}

-- ---- a register that has gained a bit

-- its bits but the last
front : List ℕ → List ℕ
front r = take (length r - 1) r

front_snoc : (r : List ℕ) (v : ℕ) → front (r ++ (v ∷ [])) ≡ r
unfolding front
front_snoc r v = take_at r (v ∷ []) (length (r ++ (v ∷ [])) - 1) (let e = length-append r (v ∷ []) in omega arith)

gained-snoc : (r : List ℕ) (v : ℕ) → gained (r ++ (v ∷ [])) ≡ v
unfolding gained
gained-snoc r v = get_or_at r v [] 0 (length (r ++ (v ∷ [])) - 1) (let e = length-append r (v ∷ []) in omega arith)

bit-above : (v w : ℕ) (r : List ℕ) (i : ℕ) → 0 < i → bit (v ∷ r) i ≡ bit (w ∷ r) i
bit-above v w r zero h = absurd (not-suc-le-zero h)
bit-above v w r (suc i) h = refl

-- ---- L

undo_L : (l : List ℕ) → Wide 10 l → undo_step_L (step_L l) ≡ l
unfolding undo_step_L step_L shift p unshift front
undo_L [] w = absurd (let n = w.0 in omega arith)
undo_L (a ∷ t) w =
    let n : suc (length t) ≡ 10 = w.0 in
    let small : a < 2 = bits_at w.1 0 in
    let v = p (bit (a ∷ t)) in
    let third : bit (t ++ (v ∷ [])) 2 ≡ bit t 2 = get_or-append t (v ∷ []) 0 2 (omega arith) in
    let last : gained (t ++ (v ∷ [])) ≡ v = gained-snoc t v in
    ap₂ (λ (x : ℕ) (r : List ℕ). x ∷ r) (omega arith) (front_snoc t v)

redo_L : (l : List ℕ) → Wide 10 l → step_L (undo_step_L l) ≡ l
unfolding undo_step_L step_L shift p unshift gained
redo_L l w =
    let n : length l ≡ 10 = w.0 in
    let third : bit (take (length l - 1) l) 2 ≡ bit l 2 = get_or-take (length l - 1) l 2 0 (omega arith) in
    let small : bit l (length l - 1) < 2 = bits_at w.1 (length l - 1) in
    ap (λ (v : ℕ). take (length l - 1) l ++ (v ∷ [])) (omega arith) ∙ split_last (length l - 1) l (omega arith)

-- ---- lengths and bits are kept

wide_shift : (n : ℕ) (r : List ℕ) (v : ℕ) → 0 < n → v < 2 → Wide n r → Wide n (shift r v)
unfolding shift
wide_shift n r v some small w =
    (simp (length-append, length-drop) (let e = w.0 in omega arith), bits-append (bits-drop 1 w.1) (more small none))

wide_unshift : (n : ℕ) (r : List ℕ) (v : ℕ) → 0 < n → v < 2 → Wide n r → Wide n (unshift v r)
unfolding unshift
wide_unshift n r v some small w = (simp length-take (let e = w.0 in omega arith), more small (bits-take (length r - 1) w.1))

pub wide_step_L : (l : List ℕ) → Wide 10 l → Wide 10 (step_L l)
unfolding step_L p
wide_step_L l w = wide_shift 10 l _ (omega arith) (parity_lt _) w

wide_ones : Wide 10 all_ones
unfolding all_ones
wide_ones = (refl, bits-replicate 10 (omega arith))

pub wide_steps_L : (n : ℕ) (l : List ℕ) → Wide 10 l → Wide 10 (steps_L n l)
unfolding steps_L
wide_steps_L zero l w = w
wide_steps_L (suc n) l w = wide_step_L (steps_L n l) (wide_steps_L n l w)

-- ---- one step

-- X and Y are half as wide as a state, and L has ten bits
pub record Sized (T : Taps) (s : Registers) : Type 0 where
  pub wide_X : Wide T.half s.X
  pub wide_Y : Wide T.half s.Y
  pub wide_L : Wide 10 s.L

module _ (T : Taps) (lawful : Lawful T) where
  -- what X and Y gain, by the bits that they drop and by f, g and h with 0 for these bits
  module _ (x0 y0 : ℕ) (tx ty : List ℕ) (L : ℕ → ℕ) where
    h-cons : h T (bit (x0 ∷ tx)) (bit (y0 ∷ ty)) L ≡ h T (bit (0 ∷ tx)) (bit (0 ∷ ty)) L
    h-cons = h-zero T lawful (bit (x0 ∷ tx)) (bit (0 ∷ tx)) (bit (y0 ∷ ty)) (bit (0 ∷ ty)) L (bit-above x0 0 tx) (bit-above y0 0 ty)

    gain_X-cons : gain_X T (bit (x0 ∷ tx)) (bit (y0 ∷ ty)) L ≡ (x0 + y0 + f T (bit (0 ∷ tx)) + h T (bit (0 ∷ tx)) (bit (0 ∷ ty)) L) % 2
    unfolding gain_X
    gain_X-cons = omega (arith, f-zero (bit (x0 ∷ tx)) (bit (0 ∷ tx)) (bit-above x0 0 tx) refl T lawful, h-cons)

    gain_Y-cons : gain_Y T (bit (x0 ∷ tx)) (bit (y0 ∷ ty)) L ≡ (y0 + g T (bit (0 ∷ ty)) + h T (bit (0 ∷ tx)) (bit (0 ∷ ty)) L) % 2
    unfolding gain_Y
    gain_Y-cons = omega (arith, g-zero (bit (y0 ∷ ty)) (bit (0 ∷ ty)) (bit-above y0 0 ty) refl T lawful, h-cons)

  undo_parts : (x0 y0 : ℕ) (tx ty l : List ℕ) → x0 < 2 → y0 < 2 → Wide 10 l
      → undo_step T (step T (record { X = x0 ∷ tx; Y = y0 ∷ ty; L = l })) ≡ record { X = x0 ∷ tx; Y = y0 ∷ ty; L = l }
  unfolding undo_step unshift shift front
  undo_parts x0 y0 tx ty l bx by wl =
      let vx = gain_X T (bit (x0 ∷ tx)) (bit (y0 ∷ ty)) (bit l) in
      let vy = gain_Y T (bit (x0 ∷ tx)) (bit (y0 ∷ ty)) (bit l) in
      let ex = gain_X-cons x0 y0 tx ty (bit l) in
      let ey = gain_Y-cons x0 y0 tx ty (bit l) in
      ap (undo_step T) (step-gains T (record { X = x0 ∷ tx; Y = y0 ∷ ty; L = l }))
      ∙ rw (front_snoc tx vx, gained-snoc tx vx, front_snoc ty vy, gained-snoc ty vy, undo_L l wl)
      (registers-path (ap (λ (v : ℕ). v ∷ tx) (omega arith)) (ap (λ (v : ℕ). v ∷ ty) (omega arith)) refl)

  -- a step undone is the start
  pub undo_step_lem : (s : Registers) → Sized T s → undo_step T (step T s) ≡ s
  undo_step_lem s z = parts s.X s.Y s.L z.wide_X z.wide_Y z.wide_L
    where
      parts : (x y l : List ℕ) → Wide T.half x → Wide T.half y → Wide 10 l
          → undo_step T (step T (record { X = x; Y = y; L = l })) ≡ record { X = x; Y = y; L = l }
      parts [] y l wx wy wl = absurd (let n = wx.0 in omega (arith, lawful.some_half))
      parts (x0 ∷ tx) [] l wx wy wl = absurd (let n = wy.0 in omega (arith, lawful.some_half))
      parts (x0 ∷ tx) (y0 ∷ ty) l wx wy wl = undo_parts x0 y0 tx ty l (bits_at wx.1 0) (bits_at wy.1 0) wl

  -- an undone step redone is the start
  pub redo_step : (s : Registers) → Sized T s → step T (undo_step T s) ≡ s
  unfolding undo_step unshift shift gained
  redo_step s z =
      let tx = take (length s.X - 1) s.X in
      let ty = take (length s.Y - 1) s.Y in
      let l = undo_step_L s.L in
      -- the bits that come back
      let x0 = bit (undo_step T s).X 0 in
      let y0 = bit (undo_step T s).Y 0 in
      let ex = gain_X-cons x0 y0 tx ty (bit l) in
      let ey = gain_Y-cons x0 y0 tx ty (bit l) in
      let bx : gained s.X < 2 = bits_at z.wide_X.1 (length s.X - 1) in
      let by : gained s.Y < 2 = bits_at z.wide_Y.1 (length s.Y - 1) in
      let nx = z.wide_X.0 in
      let ny = z.wide_Y.0 in
      step-gains T (undo_step T s)
      ∙ registers-path
      (ap (λ (v : ℕ). tx ++ (v ∷ [])) (omega arith) ∙ split_last (length s.X - 1) s.X (omega (arith, lawful.some_half)))
      (ap (λ (v : ℕ). ty ++ (v ∷ [])) (omega arith) ∙ split_last (length s.Y - 1) s.Y (omega (arith, lawful.some_half)))
      (redo_L s.L z.wide_L)

  -- ---- n steps, there and back, keep lengths and bits

  pub sized_step : (s : Registers) → Sized T s → Sized T (step T s)
  unfolding step
  sized_step s z = record {
    wide_X = wide_shift T.half s.X _ lawful.some_half (parity_lt _) z.wide_X;
    wide_Y = wide_shift T.half s.Y _ lawful.some_half (parity_lt _) z.wide_Y;
    wide_L = wide_step_L s.L z.wide_L;
  }

  pub sized_undo_step : (s : Registers) → Sized T s → Sized T (undo_step T s)
  unfolding undo_step undo_step_L
  sized_undo_step s z = record {
    wide_X = wide_unshift T.half s.X _ lawful.some_half (parity_lt _) z.wide_X;
    wide_Y = wide_unshift T.half s.Y _ lawful.some_half (parity_lt _) z.wide_Y;
    wide_L = wide_unshift 10 s.L _ (omega arith) (parity_lt _) z.wide_L;
  }

  pub sized_steps : (n : ℕ) (s : Registers) → Sized T s → Sized T (steps T n s)
  unfolding steps
  sized_steps zero s z = z
  sized_steps (suc n) s z = sized_step (steps T n s) (sized_steps n s z)

  pub sized_undo_steps : (n : ℕ) (s : Registers) → Sized T s → Sized T (undo_steps T n s)
  unfolding undo_steps
  sized_undo_steps zero s z = z
  sized_undo_steps (suc n) s z = sized_undo_steps n (undo_step T s) (sized_undo_step s z)

  pub undo_steps_lem : (n : ℕ) (s : Registers) → Sized T s → undo_steps T n (steps T n s) ≡ s
  unfolding steps undo_steps
  undo_steps_lem zero s z = refl
  undo_steps_lem (suc n) s z = ap (undo_steps T n) (undo_step_lem (steps T n s) (sized_steps n s z)) ∙ undo_steps_lem n s z

  pub redo_steps : (n : ℕ) (s : Registers) → Sized T s → steps T n (undo_steps T n s) ≡ s
  unfolding steps undo_steps
  redo_steps zero s z = refl
  redo_steps (suc n) s z = ap (step T) (redo_steps n (undo_step T s) (sized_undo_step s z)) ∙ redo_step s z

  -- undone steps add up: the last ones first
  pub undo_steps-add : (m n : ℕ) (s : Registers) → undo_steps T (m + n) s ≡ undo_steps T m (undo_steps T n s)
  unfolding undo_steps
  undo_steps-add m zero s = ap (λ (k : ℕ). undo_steps T k s) (add-zero m)
  undo_steps-add m (suc n) s = ap (λ (k : ℕ). undo_steps T k s) (add-suc m n) ∙ undo_steps-add m n (undo_step T s)

  -- the undone L depends on L alone
  undo_steps-L : (n : ℕ) (s t : Registers) → s.L ≡ t.L → (undo_steps T n s).L ≡ (undo_steps T n t).L
  unfolding undo_steps undo_step
  undo_steps-L zero s t e = e
  undo_steps-L (suc n) s t e = undo_steps-L n (undo_step T s) (undo_step T t) (ap undo_step_L e)

  -- ---- P and its inverse, on b bits

  pub sized_loaded : (s l : List ℕ) → Wide (2 * T.half) s → Wide 10 l → Sized T (loaded T s l)
  unfolding loaded
  sized_loaded s l w wl = record {
    wide_X = (simp length-take (let n = w.0 in omega arith), bits-take T.half w.1);
    wide_Y = (simp length-drop (let n = w.0 in omega arith), bits-drop T.half w.1);
    wide_L = wl;
  }

  pub wide_stored : (s : Registers) → Sized T s → Wide (2 * T.half) (stored s)
  unfolding stored
  wide_stored s z =
      let nx = z.wide_X.0 in
      let ny = z.wide_Y.0 in
      (simp length-append (omega arith), bits-append z.wide_X.1 z.wide_Y.1)

  pub loaded-stored : (s : Registers) → Sized T s → loaded T (stored s) s.L ≡ s
  unfolding loaded stored
  loaded-stored s z = registers-path (take_at s.X s.Y T.half z.wide_X.0) (drop_at s.X s.Y T.half z.wide_X.0) refl

  pub stored_loaded : (s l : List ℕ) → stored (loaded T s l) ≡ s
  unfolding loaded stored
  stored_loaded s l = take-append-drop T.half s

  -- n steps from any L of ten bits, undone with L's bits
  module _ (n : ℕ) (s : List ℕ) (w : Wide (2 * T.half) s) (l : List ℕ) (wl : Wide 10 l) where
    pub wide_run : Wide (2 * T.half) (stored (steps T n (loaded T s l)))
    wide_run = wide_stored (steps T n (loaded T s l)) (sized_steps n (loaded T s l) (sized_loaded s l w wl))

    pub wide_undone : Wide (2 * T.half) (stored (undo_steps T n (loaded T s l)))
    wide_undone = wide_stored (undo_steps T n (loaded T s l)) (sized_undo_steps n (loaded T s l) (sized_loaded s l w wl))

    pub undo_run : stored (undo_steps T n (loaded T (stored (steps T n (loaded T s l))) (steps_L n l))) ≡ s
    unfolding loaded
    undo_run =
        let start = loaded T s l in
        let z = sized_loaded s l w wl in
        let end = steps T n start in
        let e : loaded T (stored end) (steps_L n l) ≡ end =
        ap (loaded T (stored end)) (sym (steps-L T n start)) ∙ loaded-stored end (sized_steps n start z) in
        ap (λ (q : Registers). stored (undo_steps T n q)) e ∙ ap stored (undo_steps_lem n start z) ∙ stored_loaded s l

    -- L is undone to l, as from any registers that L's steps led to
    pub undone_L : (undo_steps T n (loaded T s (steps_L n l))).L ≡ l
    unfolding loaded
    undone_L =
        let other = loaded T s l in
        undo_steps-L n (loaded T s (steps_L n l)) (steps T n other) (sym (steps-L T n other))
        ∙ ap (λ (q : Registers). q.L) (undo_steps_lem n other (sized_loaded s l w wl))

    pub run-undone : stored (steps T n (loaded T (stored (undo_steps T n (loaded T s (steps_L n l)))) l)) ≡ s
    run-undone =
        let end = loaded T s (steps_L n l) in
        let z = sized_loaded s (steps_L n l) w (wide_steps_L n l wl) in
        let start = undo_steps T n end in
        let e : loaded T (stored start) l ≡ start = ap (loaded T (stored start)) (sym undone_L) ∙ loaded-stored start (sized_undo_steps n end z) in
        ap (λ (q : Registers). stored (steps T n q)) e ∙ ap stored (redo_steps n end z) ∙ stored_loaded s (steps_L n l)

  -- a stop after m of m + n steps, with the L there, on the way forward and on the way back
  module _ (m n : ℕ) (s : List ℕ) (w : Wide (2 * T.half) s) (l : List ℕ) (wl : Wide 10 l) where
    pub run_on : steps T n (loaded T (stored (steps T m (loaded T s l))) (steps_L m l)) ≡ steps T (m + n) (loaded T s l)
    unfolding loaded
    run_on =
        let start = loaded T s l in
        let stop = steps T m start in
        let e : loaded T (stored stop) (steps_L m l) ≡ stop =
        ap (loaded T (stored stop)) (sym (steps-L T m start)) ∙ loaded-stored stop (sized_steps m start (sized_loaded s l w wl)) in
        ap (steps T n) e ∙ sym (steps-add T m n start)

    pub undone_on : undo_steps T m (loaded T (stored (undo_steps T n (loaded T s (steps_L n (steps_L m l))))) (steps_L m l))
        ≡ undo_steps T (m + n) (loaded T s (steps_L (m + n) l))
    undone_on =
        let there = steps_L m l in
        let wide = wide_steps_L m l wl in
        let end = loaded T s (steps_L n there) in
        let stop = undo_steps T n end in
        let e : loaded T (stored stop) there ≡ stop =
        ap (loaded T (stored stop)) (sym (undone_L n s w there wide))
        ∙ loaded-stored stop (sized_undo_steps n end (sized_loaded s (steps_L n there) w (wide_steps_L n there wide))) in
        ap (undo_steps T m) e ∙ sym (undo_steps-add m n end) ∙ ap (λ (q : List ℕ). undo_steps T (m + n) (loaded T s q)) (sym (steps_L-add m n l))

  -- P and its inverse, in whatever equal way they write L's start: for that `steps_L` unfolds
  module _ (s : List ℕ) (w : Wide (2 * T.half) s) where
    pub undo_P_lem : undo_P T (P T s) ≡ s
    unfolding P undo_P steps_L
    undo_P_lem = undo_run (rounds T) s w all_ones wide_ones

    pub redo_P : P T (undo_P T s) ≡ s
    unfolding P undo_P steps_L
    redo_P = run-undone (rounds T) s w all_ones wide_ones

    pub wide_P : Wide (2 * T.half) (P T s)
    unfolding P steps_L
    wide_P = wide_run (rounds T) s w all_ones wide_ones

    pub wide_undo_P : Wide (2 * T.half) (undo_P T s)
    unfolding undo_P steps_L
    wide_undo_P = wide_undone (rounds T) s w (steps_L (rounds T) all_ones) (wide_steps_L (rounds T) all_ones wide_ones)
