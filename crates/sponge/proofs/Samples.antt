-- The edges of the lines and of soundness, the order of lines, and messages of lists, by computation.
use mathlib.Core.Bool.{Bool, true, false}
use mathlib.Core.List.{List, [], ◌∷◌, ◌++◌}
use mathlib.Core.Path.{◌≡◌, refl}
use Prim.Native.Nat.{ℕ, ◌+◌}
use lib.ListN.{replicate}
use Rattle.std.specs.Prelude.{Ok, Err}
use Rattle.refusals.specs.declared.lines.Line.TheVariants.{NoFreeMark}
use Rattle.refusals.specs.Lines.{first_line, line5, number}
use Rattle.quark.specs.Bytes.{tabulate, bit_at, bits_of}
use Rattle.quark.specs.Instance.{instance_of, U, D, S, is_instance, is_width, state_bytes}
use Rattle.permutation.specs.Lines.{line1, line4}
use Rattle.sponge.specs.declared.State.{State}
use Rattle.refusals.specs.Outcome.{accepted, refused, outcome, outcome_of}
use Rattle.sponge.specs.Bytes.{same, four_byte_number}
use Rattle.sponge.specs.Soundness.{all_zero, sound_runs, most_extra, sound, all_zeros}
use Rattle.sponge.specs.Marks.{four_bytes, mark_fields, mark_of, name_in, state_in, ends_in_zeros, mark_at, with_mark, up_to_latest, found}
use Rattle.sponge.specs.Outcomes.{line2, line2_mark, line3_squeeze, line6, line7, line8, line14, line15, line17, line18, line19, blocks_bytes, squeeze_number, mark_number, mark_outcome, mark_bytes, recall_number, digest_number}
use Rattle.sponge.specs.ReadBack.{Marking}
use Rattle.sponge.specs.Calls.{Message, piece, finish, squeeze, message_number, grown, extended}
use Rattle.sponge.specs.Lists.{Name, on_state, mark, recall, is_saved, latest_saved, messages_number, messages_after, messages_from, messages_of, message_of}

-- a state whose bytes are one byte, 32 times, and whether it is sound
abbrev state_at : (instance phase total runs extra byte : ℕ) → State
state_at instance phase total runs extra byte = record { instance = instance; phase = phase; total = total; runs = runs; extra = extra; bits = replicate 32 byte }

pub sound_at : (instance phase total runs extra byte : ℕ) → Bool
sound_at instance phase total runs extra byte = sound (state_at instance phase total runs extra byte)

pub edges :
    -- a count of 8 bits in one byte, and of 9; 0 bits in none
    (line6 1 8 ≡ false) × (line6 1 9 ≡ true) × (line6 0 0 ≡ false)
    -- a total of 16,777,215 bits, and one more
    × (line7 0 16777215 ≡ false) × (line7 0 16777216 ≡ true) × (line7 16777215 0 ≡ false) × (line7 16777215 1 ≡ true)
    -- a state of U with all bits zero: 17 bits, absorbing after 2 runs, closed after 19
    × (sound_at 1 0 17 2 0 0 ≡ true)
    × (sound_at 1 0 17 19 0 0 ≡ false)
    × (sound_at 1 1 17 19 0 0 ≡ true)
    × (sound_at 1 2 17 19 0 0 ≡ false)
    -- the same with 16 bits, a full message: one block more is absorbed, so that 18 runs are one too few
    × (sound_at 1 1 16 19 0 0 ≡ true)
    × (sound_at 1 1 16 18 0 0 ≡ false)
    × (sound_at 3 0 16777215 524287 0 255 ≡ true)
    × (sound_at 3 0 16777216 524288 0 255 ≡ false)
    × (sound_at 2 0 0 0 0 255 ≡ false)
unfolding line6 line7 sound_at sound sound_runs most_extra all_zero state_bytes instance_of U D S
edges = (refl, refl, refl, refl, refl, refl, refl, refl, refl, refl, refl, refl, refl, refl, refl, refl)

pub extra-edges :
    -- 0, 1, 1,024 and 1,025 blocks asked for
    (line14 0 ≡ true) × (line14 1 ≡ false) × (line14 1024 ≡ false) × (line14 1025 ≡ true)
    -- the bytes of 3 blocks
    × (blocks_bytes 1 3 ≡ 3) × (blocks_bytes 2 3 ≡ 6) × (blocks_bytes 3 3 ≡ 12)
    -- 1,048,576 extra blocks, and one more
    × (line15 1047552 1024 ≡ false) × (line15 1047553 1024 ≡ true)
    -- the closed state of U with 17 bits has a run more for each extra block, up to 1,048,576 of them
    × (sound_at 1 1 17 22 3 0 ≡ true)
    × (sound_at 1 1 17 19 3 0 ≡ false)
    × (sound_at 1 1 17 1048595 1048576 0 ≡ true)
    × (sound_at 1 1 17 1048596 1048577 0 ≡ false)
    -- and an absorbing state has none
    × (sound_at 1 0 17 2 1 0 ≡ false)
    × (sound_at 1 0 17 3 1 0 ≡ false)
    -- what comes back where the instance is refused has none either
    × (all_zeros ≡ state_at 0 0 0 0 0 0)
unfolding line14 line15 blocks_bytes sound_at sound sound_runs most_extra all_zero state_bytes instance_of U D S
extra-edges = (refl, refl, refl, refl, refl, refl, refl, refl, refl, refl, refl, refl, refl, refl, refl, refl)

-- a whole digest that several lines refuse answers the first of them: lines 1, 4, 5 and 6, then 4, 5 and 6, then 5 and 6, then 6 and 7, then 7
-- alone, and then none
pub order :
    (digest_number 0 2 0 1 0 ≡ 1) × (digest_number 1 2 0 1 0 ≡ 4) × (digest_number 1 8 0 1 0 ≡ 5) × (digest_number 1 8 0 16777216 17 ≡ 6)
    × (digest_number 1 8 2097152 16777216 17 ≡ 7) × (digest_number 1 8 2097152 16777215 17 ≡ 0)
unfolding digest_number first_line line1 line4 line5 line6 line7 line8 is_instance is_width state_bytes instance_of U
order = (refl, refl, refl, refl, refl, refl)

-- what squeeze answers a state of no bits taken, with all bits zero
pub squeeze_at : (instance phase runs extra w k buffer : ℕ) → ℕ
squeeze_at instance phase runs extra w k buffer = squeeze_number (state_at instance phase 0 runs extra 0) w k buffer

-- a squeeze that several lines refuse answers the first of them: lines 1, 2 and 3 each with all lines after it, then 4, 5, 14 and 15 in turn,
-- and then none. k = 0 is 14 with an empty buffer, and else 5. S alone has width 16
pub squeeze-order :
    (squeeze_at 0 0 0 1048577 2 1025 0 ≡ 1) × (squeeze_at 1 0 0 1048577 2 1025 0 ≡ 2) × (squeeze_at 1 0 0 0 2 1048577 0 ≡ 3) × (squeeze_at 1 1 1048593 1048576 2 1025 0 ≡ 4)
    × (squeeze_at 1 1 1048593 1048576 8 1025 1024 ≡ 5) × (squeeze_at 1 1 1048593 1048576 8 1025 1025 ≡ 14) × (squeeze_at 1 1 1048593 1048576 8 1 1 ≡ 15)
    × (squeeze_at 1 1 1048592 1048575 8 1 1 ≡ 0) × (squeeze_at 1 1 17 0 8 0 0 ≡ 14) × (squeeze_at 1 1 17 0 8 0 1 ≡ 5)
    × (squeeze_at 2 1 11 0 16 1 2 ≡ 4) × (squeeze_at 3 1 8 0 16 1 4 ≡ 0)
unfolding squeeze_at squeeze_number first_line line1 line2 line3_squeeze line4 line5 line14 line15 blocks_bytes sound sound_runs most_extra all_zero is_instance is_width state_bytes instance_of U D S
squeeze-order = (refl, refl, refl, refl, refl, refl, refl, refl, refl, refl, refl, refl)

-- a list of calls of U: a piece of 3 bits, one whose width is refused, one that is too short, a finish whose buffer is too short, a squeeze
-- that comes too early, a piece of 6 bits, a finish, 2 blocks, a squeeze whose buffer is too short, 3 blocks, and a piece that comes too late
pub message :
    message_of 1
    (record {
      buffer = [];
      calls = on_state (piece (0b10100000 ∷ []) 3 1) ∷ on_state (piece (255 ∷ []) 8 16) ∷ on_state (piece [] 1 8) ∷ on_state (finish 1 16)
          ∷ on_state (squeeze 8 1 1) ∷ on_state (piece (0b11000100 ∷ []) 6 8) ∷ on_state (finish 8 17) ∷ on_state (squeeze 8 2 2)
          ∷ on_state (squeeze 8 2 1) ∷ on_state (squeeze 1 3 3) ∷ on_state (piece (255 ∷ []) 8 1) ∷ [];
    })
    ≡ record { bits = 1 ∷ 0 ∷ 1 ∷ 1 ∷ 1 ∷ 0 ∷ 0 ∷ 0 ∷ 1 ∷ []; closed = true; extras = 5 }
unfolding messages_of messages_from messages_after extended message_number grown first_line line4 line5 line6 line7 line14 line15 blocks_bytes is_width state_bytes instance_of U bits_of tabulate bit_at
message = refl

-- a closed message of U with one extra block to the limit: 2 blocks are refused and add nothing, and 1 is the last
abbrev with_extras : ℕ → Message
with_extras e = record { bits = []; closed = true; extras = e }

pub extras : (extended 1 (with_extras 1048575) (squeeze 8 2 2) ≡ with_extras 1048575) × (extended 1 (with_extras 1048575) (squeeze 8 1 1) ≡ with_extras 1048576)
unfolding extended message_number grown first_line line4 line5 line14 line15 blocks_bytes is_width instance_of U
extras = (refl, refl)

-- ---- marks

-- a name of one byte, 16 times
abbrev named : ℕ → List ℕ
named x = replicate 16 x

-- the bytes of a mark, and the state in it
pub mark-bytes :
    (mark_of (named 255) (state_at 3 1 0x01020304 0x05060708 0x090A0B0C 170)
    ≡ named 255 ++ (3 ∷ 1 ∷ 1 ∷ 2 ∷ 3 ∷ 4 ∷ 5 ∷ 6 ∷ 7 ∷ 8 ∷ 9 ∷ 10 ∷ 11 ∷ 12 ∷ (replicate 32 170 ++ (0 ∷ 0 ∷ []))))
    × (state_in (named 255 ++ (3 ∷ 1 ∷ 1 ∷ 2 ∷ 3 ∷ 4 ∷ 5 ∷ 6 ∷ 7 ∷ 8 ∷ 9 ∷ 10 ∷ 11 ∷ 12 ∷ (replicate 32 170 ++ (0 ∷ 0 ∷ []))))
    ≡ state_at 3 1 0x01020304 0x05060708 0x090A0B0C 170)
unfolding mark_of mark_fields four_bytes state_in four_byte_number
mark-bytes = (refl, refl)

-- a mark whose byte j is j, but for its last two: each byte of each field stands at its own offset
abbrev in_place : State
in_place = record { instance = 16; phase = 17; total = 0x12131415; runs = 0x16171819; extra = 0x1A1B1C1D; bits = tabulate 32 (λ j. 30 + j) }

pub mark-offsets :
    (mark_of (tabulate 16 (λ j. j)) in_place ≡ tabulate 62 (λ j. j) ++ (0 ∷ 0 ∷ []))
    × (name_in (tabulate 64 (λ j. j)) ≡ tabulate 16 (λ j. j)) × (state_in (tabulate 64 (λ j. j)) ≡ in_place)
unfolding mark_of mark_fields four_bytes name_in state_in four_byte_number tabulate
mark-offsets = (refl, refl, refl)

pub mark-edges :
    -- no bytes, 64, 64,000 and 64,064, a byte less and more than a mark, and a mark and a half
    (line17 0 0 ≡ false) × (line17 64 0 ≡ false) × (line17 64000 0 ≡ false) × (line17 64064 0 ≡ true) × (line17 63 0 ≡ true) × (line17 65 0 ≡ true) × (line17 96 0 ≡ true)
    -- as many marks in use as there are, and one more
    × (line17 64000 1000 ≡ false) × (line17 64000 1001 ≡ true) × (line17 0 1 ≡ true) × (line17 64 18446744073709551615 ≡ true)
    -- all in use, and one left
    × (line19 0 0 ≡ true) × (line19 64 0 ≡ false) × (line19 64 1 ≡ true) × (line19 64000 999 ≡ false) × (line19 64000 1000 ≡ true)
unfolding line17 line19
mark-edges = (refl, refl, refl, refl, refl, refl, refl, refl, refl, refl, refl, refl, refl, refl, refl, refl)

-- what an answer of mark stands for, and the count that it has: one more than were in use
pub mark-answers :
    (outcome_of {A = ℕ} (Ok 2) ≡ accepted 2) × (outcome_of {A = ℕ} (Err (record { line = NoFreeMark; place = 0 })) ≡ refused 19 0)
    × (mark_outcome (state_at 1 0 0 0 0 0) 128 1 ≡ accepted 2) × (mark_outcome (state_at 1 0 0 0 0 0) 64 1 ≡ refused 19 0)
unfolding outcome_of number mark_outcome outcome mark_number first_line line1 line2 line17 line19 sound sound_runs most_extra all_zero is_instance state_bytes instance_of U
mark-answers = (refl, refl, refl, refl)

-- the second of three marks is written, and no other byte; refused, none is
pub written :
    (mark_bytes (state_at 1 0 0 0 0 0) (named 1) (replicate 64 3 ++ replicate 64 4 ++ replicate 64 5) 1
    ≡ replicate 64 3 ++ mark_of (named 1) (state_at 1 0 0 0 0 0) ++ replicate 64 5)
    × (mark_bytes (state_at 1 0 0 0 0 0) (named 1) (replicate 64 3) 1 ≡ replicate 64 3)
unfolding mark_bytes with_mark mark_number first_line line1 line2 line17 line19 sound sound_runs most_extra all_zero is_instance state_bytes instance_of U
written = (refl, refl)

-- `ReadBack` speaks of such a marking
pub marking : Marking (state_at 1 0 0 0 0 0) (named 1) (replicate 64 0) 0
unfolding mark_number first_line line1 line2 line17 line19 sound sound_runs most_extra all_zero is_instance state_bytes instance_of U
marking = record { bytes-32 = refl; name-16 = refl; accepted = refl }

-- a mark of a state of no bits taken, with all bits zero, and its last two bytes
abbrev mark_with : (name : List ℕ) (instance phase runs x y : ℕ) → List ℕ
mark_with name instance phase runs x y = name ++ mark_fields (state_at instance phase 0 runs 0 0) ++ replicate 32 0 ++ (x ∷ y ∷ [])

-- five marks: the names 1, 2 and 1 again, and two that differ from 1 in the last byte, or the first
abbrev five : List ℕ
five =
    mark_with (named 1) 1 0 0 0 0 ++ mark_with (named 2) 2 0 0 0 0 ++ mark_with (named 1) 3 0 0 0 0 ++ mark_with (replicate 15 1 ++ (7 ∷ [])) 1 0 0 0 0
    ++ mark_with (7 ∷ replicate 15 1) 1 0 0 0 0

pub searched :
    -- the latest of the first 5 marks, of the first 2, and of none
    (up_to_latest (named 1) five 5 ≡ 3) × (up_to_latest (named 1) five 2 ≡ 1) × (up_to_latest (named 1) five 0 ≡ 0)
    × (up_to_latest (named 2) five 5 ≡ 2) × (up_to_latest (named 2) five 1 ≡ 0)
    -- a name of which only the first, or the last, byte differs
    × (up_to_latest (replicate 15 1 ++ (7 ∷ [])) five 5 ≡ 4) × (up_to_latest (7 ∷ replicate 15 1) five 5 ≡ 5)
    × ((state_in (found (named 1) five 5)).instance ≡ 3)
unfolding up_to_latest found mark_at name_in same mark_fields four_bytes state_in
searched = (refl, refl, refl, refl, refl, refl, refl, refl)

-- what mark answers a state of no bits taken, with all bits zero
pub mark_number_at : (instance runs bytes count : ℕ) → ℕ
mark_number_at instance runs bytes count = mark_number (state_at instance 0 0 runs 0 0) bytes count

-- a marking that several lines refuse answers the first of them: lines 1, 2 and 17 each with all that come after it, then 19, and then none
pub mark-order :
    (mark_number_at 0 1 65 1 ≡ 1) × (mark_number_at 1 1 65 1 ≡ 2) × (mark_number_at 1 0 65 1 ≡ 17) × (mark_number_at 1 0 64 2 ≡ 17)
    × (mark_number_at 1 0 64 1 ≡ 19) × (mark_number_at 1 0 64 0 ≡ 0)
unfolding mark_number_at mark_number first_line line1 line2 line17 line19 sound sound_runs most_extra all_zero is_instance state_bytes instance_of U S
mark-order = (refl, refl, refl, refl, refl, refl)

-- what recall answers such a state, under the name 1
pub recall_number_at : (instance runs : ℕ) (buffer : List ℕ) (count : ℕ) → ℕ
recall_number_at instance runs buffer count = recall_number (state_at instance 0 0 runs 0 0) (named 1) buffer count

-- a return that several lines refuse answers the first of them: 1, 2 and 17 where no mark has the name; then 18. The mark that is found is
-- broken in its instance and its last byte, then in its last byte, in the byte before, in its runs, in both last bytes, and in its instance; a
-- sound one before it is not tried. Then none holds
pub recall-order :
    (recall_number_at 0 1 (1 ∷ mark_with (named 2) 0 0 0 0 1) 2 ≡ 1)
    × (recall_number_at 1 1 (1 ∷ mark_with (named 2) 0 0 0 0 1) 2 ≡ 2)
    × (recall_number_at 1 0 (1 ∷ mark_with (named 2) 0 0 0 0 1) 1 ≡ 17)
    × (recall_number_at 1 0 (mark_with (named 2) 0 0 0 0 1) 2 ≡ 17)
    × (recall_number_at 1 0 (mark_with (named 2) 0 0 0 0 1) 1 ≡ 18)
    × (recall_number_at 1 0 (mark_with (named 1) 1 0 0 0 0) 0 ≡ 18)
    × (recall_number_at 1 0 [] 0 ≡ 18)
    × (recall_number_at 1 0 (mark_with (named 1) 0 0 0 0 1) 1 ≡ 1)
    × (recall_number_at 1 0 (mark_with (named 1) 1 0 0 0 1) 1 ≡ 2)
    × (recall_number_at 1 0 (mark_with (named 1) 1 0 0 1 0) 1 ≡ 2)
    × (recall_number_at 1 0 (mark_with (named 1) 1 0 1 0 0) 1 ≡ 2)
    × (recall_number_at 1 0 (mark_with (named 1) 1 0 0 128 128) 1 ≡ 2)
    × (recall_number_at 1 0 (mark_with (named 1) 4 0 0 0 0) 1 ≡ 1)
    × (recall_number_at 1 0 (mark_with (named 1) 1 0 0 0 0 ++ mark_with (named 1) 0 0 0 0 0) 2 ≡ 1)
    × (recall_number_at 1 0 (mark_with (named 1) 0 0 0 0 0 ++ mark_with (named 1) 3 0 0 0 0) 2 ≡ 0)
unfolding recall_number_at recall_number first_line line1 line2 line17 line18 line2_mark ends_in_zeros up_to_latest found mark_at name_in same mark_fields four_bytes state_in four_byte_number sound sound_runs most_extra all_zero is_instance state_bytes instance_of U S
recall-order = (refl, refl, refl, refl, refl, refl, refl, refl, refl, refl, refl, refl, refl, refl, refl)

-- ---- a list with marks

abbrev A : Name
A = record { bytes = named 1; sixteen = refl }

abbrev B : Name
B = record { bytes = named 2; sixteen = refl }

-- a message of U
abbrev message_with : List ℕ → Bool → ℕ → Message
message_with bits closed extras = record { bits = bits; closed = closed; extras = extras }

-- nothing is marked as A yet; a bit 1 is taken, and marked as A; then a bit 0, a finish and 2 blocks, marked as B; a third mark is one too many; a return to A opens the
-- message again, a bit 1 is taken, and a return to B brings back the closed one with its blocks, to which a squeeze adds one
pub marked_list :
    messages_of 1
    (record {
      buffer = replicate 128 0;
      calls = recall A ∷ on_state (piece (0b10000000 ∷ []) 1 1) ∷ mark A ∷ on_state (piece (0 ∷ []) 1 8) ∷ on_state (finish 8 17)
          ∷ on_state (squeeze 8 2 2) ∷ mark B ∷ mark A ∷ recall A ∷ on_state (piece (0b10000000 ∷ []) 1 1) ∷ recall B ∷ on_state (squeeze 8 1 1) ∷ [];
    })
    ≡ record {
      current = message_with (1 ∷ 0 ∷ []) true 3;
      saved = record { name = B; message = message_with (1 ∷ 0 ∷ []) true 2 } ∷ record { name = A; message = message_with (1 ∷ []) false 0 } ∷ [];
    }
unfolding messages_of messages_from messages_after messages_number is_saved latest_saved same line17 line19 extended message_number grown first_line line4 line5 line6 line7 line14 line15 blocks_bytes is_width state_bytes instance_of U bits_of tabulate bit_at
marked_list = refl

-- the name A twice: a bit 1, marked; a bit 0, marked again; a finish and a block; nothing is marked as B; a return to A brings back the later,
-- open again, and a bit 1 is taken
pub marked_twice :
    messages_of 1
    (record {
      buffer = replicate 192 0;
      calls = on_state (piece (0b10000000 ∷ []) 1 1) ∷ mark A ∷ on_state (piece (0 ∷ []) 1 8) ∷ mark A ∷ on_state (finish 8 17)
          ∷ on_state (squeeze 8 1 1) ∷ recall B ∷ recall A ∷ on_state (piece (0b10000000 ∷ []) 1 1) ∷ [];
    })
    ≡ record {
      current = message_with (1 ∷ 0 ∷ 1 ∷ []) false 0;
      saved = record { name = A; message = message_with (1 ∷ 0 ∷ []) false 0 } ∷ record { name = A; message = message_with (1 ∷ []) false 0 } ∷ [];
    }
unfolding messages_of messages_from messages_after messages_number is_saved latest_saved same line17 line19 extended message_number grown first_line line4 line5 line6 line7 line14 line15 blocks_bytes is_width state_bytes instance_of U bits_of tabulate bit_at
marked_twice = refl
