-- The three instances (QUARK 3.3, Table 1 and Appendix A; document 01, "Taps and feedback").
--
--   No.  instance  r   b and n  steps 4b  n/r
--   1    U         8   136      544       17
--   2    D         16  176      704       11
--   3    S         32  256      1024      8
use Rattle.std.specs.Prelude.{Bool, ◌&&◌, ◌||◌, cond, List, [], ◌∷◌, ℕ, ◌/◌, eqb}
use Rattle.quark.specs.Bytes.{bits_of}
use Rattle.quark.specs.Feedback.{Taps}

pub record Instance : Type 0 where
  -- the rate: the bits of a block
  pub r : ℕ
  -- the width: the bits of a state
  pub b : ℕ
  -- the bits of a digest
  pub n : ℕ
  pub taps : Taps
  -- the bits of a fresh state
  pub initial : List ℕ

unfoldable pub U : Instance
U = record {
  r = 8;
  b = 136;
  n = 136;
  taps = record {
    half = 68;
    f_taps = 0 ∷ 9 ∷ 14 ∷ 15 ∷ 21 ∷ 28 ∷ 33 ∷ 37 ∷ 45 ∷ 50 ∷ 52 ∷ 55 ∷ 59 ∷ [];
    g_taps = 0 ∷ 7 ∷ 15 ∷ 16 ∷ 20 ∷ 30 ∷ 35 ∷ 37 ∷ 42 ∷ 49 ∷ 51 ∷ 54 ∷ 58 ∷ [];
    h_X = 1 ∷ 4 ∷ 25 ∷ 31 ∷ 56 ∷ [];
    h_Y = 2 ∷ 10 ∷ 43 ∷ 59 ∷ [];
    y_low = 3;
    x_low = 25;
    x_mid = 46;
    x_high = 55;
    y_high = 59;
  };
  -- D8DACA44414A099719C80AA3AF065644DB
  initial =
      bits_of 136
      (0xD8 ∷ 0xDA ∷ 0xCA ∷ 0x44 ∷ 0x41 ∷ 0x4A ∷ 0x09 ∷ 0x97 ∷ 0x19 ∷ 0xC8 ∷ 0x0A ∷ 0xA3 ∷ 0xAF ∷ 0x06 ∷ 0x56 ∷ 0x44 ∷ 0xDB ∷ []);
}

-- h: L0 + X1 + Y2 + X5 + Y12 + Y24 + X35 + X40 + X48 + Y55 + Y61 + X72 + Y79
--    + Y4 X68 + X57 X68 + X68 Y79 + Y4 X35 X57 + Y4 X57 X68 + Y4 X57 Y79 + L0 X35 X57 Y79 + L0 X35
unfoldable pub D : Instance
D = record {
  r = 16;
  b = 176;
  n = 176;
  taps = record {
    half = 88;
    f_taps = 0 ∷ 11 ∷ 18 ∷ 19 ∷ 27 ∷ 36 ∷ 42 ∷ 47 ∷ 58 ∷ 64 ∷ 67 ∷ 71 ∷ 79 ∷ [];
    g_taps = 0 ∷ 9 ∷ 19 ∷ 20 ∷ 25 ∷ 38 ∷ 44 ∷ 47 ∷ 54 ∷ 63 ∷ 67 ∷ 69 ∷ 78 ∷ [];
    h_X = 1 ∷ 5 ∷ 35 ∷ 40 ∷ 48 ∷ 72 ∷ [];
    h_Y = 2 ∷ 12 ∷ 24 ∷ 55 ∷ 61 ∷ 79 ∷ [];
    y_low = 4;
    x_low = 35;
    x_mid = 57;
    x_high = 68;
    y_high = 79;
  };
  -- CC6C4AB7D11FA9BDF6EEDE03D87B68F91BAA706C20E9
  initial =
      bits_of 176
      (0xCC ∷ 0x6C ∷ 0x4A ∷ 0xB7 ∷ 0xD1 ∷ 0x1F ∷ 0xA9 ∷ 0xBD ∷ 0xF6 ∷ 0xEE ∷ 0xDE ∷ 0x03 ∷ 0xD8 ∷ 0x7B ∷ 0x68 ∷ 0xF9 ∷ 0x1B ∷ 0xAA ∷ 0x70 ∷ 0x6C ∷ 0x20
      ∷ 0xE9 ∷ []);
}

-- h: L0 + X1 + Y3 + X7 + Y18 + Y34 + X47 + X58 + Y71 + Y80 + X90 + Y91 + X105 + Y111
--    + Y8 X100 + X72 X100 + X100 Y111 + Y8 X47 X72 + Y8 X72 X100 + Y8 X72 Y111 + L0 X47 X72 Y111 + L0 X47
unfoldable pub S : Instance
S = record {
  r = 32;
  b = 256;
  n = 256;
  taps = record {
    half = 128;
    f_taps = 0 ∷ 16 ∷ 26 ∷ 28 ∷ 39 ∷ 52 ∷ 61 ∷ 69 ∷ 84 ∷ 94 ∷ 97 ∷ 103 ∷ 111 ∷ [];
    g_taps = 0 ∷ 13 ∷ 28 ∷ 30 ∷ 37 ∷ 56 ∷ 65 ∷ 69 ∷ 79 ∷ 92 ∷ 96 ∷ 101 ∷ 109 ∷ [];
    h_X = 1 ∷ 7 ∷ 47 ∷ 58 ∷ 90 ∷ 105 ∷ [];
    h_Y = 3 ∷ 18 ∷ 34 ∷ 71 ∷ 80 ∷ 91 ∷ 111 ∷ [];
    y_low = 8;
    x_low = 47;
    x_mid = 72;
    x_high = 100;
    y_high = 111;
  };
  -- 397251CEE1DE8AA73EA26250C6D7BE128CD3E79DD718C24B8A19D09C2492DA5D
  initial =
      bits_of 256
      (0x39 ∷ 0x72 ∷ 0x51 ∷ 0xCE ∷ 0xE1 ∷ 0xDE ∷ 0x8A ∷ 0xA7 ∷ 0x3E ∷ 0xA2 ∷ 0x62 ∷ 0x50 ∷ 0xC6 ∷ 0xD7 ∷ 0xBE ∷ 0x12 ∷ 0x8C ∷ 0xD3 ∷ 0xE7 ∷ 0x9D ∷ 0xD7
      ∷ 0x18 ∷ 0xC2 ∷ 0x4B ∷ 0x8A ∷ 0x19 ∷ 0xD0 ∷ 0x9C ∷ 0x24 ∷ 0x92 ∷ 0xDA ∷ 0x5D ∷ []);
}

-- the instance of a number: 1 is U, 2 is D, 3 is S. Any other number gives S too, so that r, b and n need no condition; every operation
-- tests the number first.
unfoldable pub instance_of : ℕ → Instance
instance_of i = cond (eqb i 1) U (cond (eqb i 2) D S)

-- the numbers of the instances
unfoldable pub is_instance : ℕ → Bool
is_instance i = eqb i 1 || eqb i 2 || eqb i 3

-- the step widths of an instance: 1 and 8 for each, 16 for S only
unfoldable pub is_width : (i w : ℕ) → Bool
is_width i w = eqb w 1 || eqb w 8 || (eqb w 16 && eqb i 3)

-- the bytes of a state and of a digest: b/8
unfoldable pub state_bytes : ℕ → ℕ
state_bytes i = (instance_of i).b / 8
