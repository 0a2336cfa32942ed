-- Calls of `excerpt` and `strongest`, computed: each pins a limit, an order or a place. Rests on specs/Excerpt and
-- specs/Strongest alone.
use Prim.Native.Nat.{ℕ, zero, suc, ◌+◌, ◌-◌, ◌*◌, ◌%◌, ◌≤◌, ◌<◌}
use mathlib.Core.Path.{◌≡◌, refl, sym}
use mathlib.Core.List.{List, [], ◌∷◌, ◌++◌, map}
use lib.ListN.{length, get_or, take, drop, replicate}
use native.Mathlib.Omega.{arith}
use Rattle.lists.proofs.Lists.{up_from}
use Rattle.cells.specs.Excerpt.{place_of, Excerpt}
use Rattle.frames.specs.Codes.{sample_of}
use Rattle.cells.specs.Strongest.{squared, channel_codes, squares, window_sum, window_found, strongest_refusal, strongest_of, strongest_answer}
use Rattle.std.specs.Prelude.{Ok, Err}
use Rattle.refusals.specs.declared.Refusal.TheVariants.{FewFrames}
use Rattle.cells.proofs.Computed.{computed}
use Rattle.cells.proofs.Excerpts.{place_shape, past, place_part}

-- A frame with code c in channel 0 and a in the others; n frames alike.
abbrev framed : ℕ → ℕ → ℕ → List ℕ
framed c a enable = c ∷ a ∷ a ∷ a ∷ a ∷ a ∷ enable ∷ []

abbrev copies : ℕ → List ℕ → List ℕ
copies zero frame = []
copies (suc n) frame = frame ++ copies n frame

abbrev six : List ℕ
six = copies 8 (513 ∷ 514 ∷ 515 ∷ 516 ∷ 517 ∷ 518 ∷ 0 ∷ [])

abbrev up_to20 : List ℕ
up_to20 = 0 ∷ 1 ∷ 2 ∷ 3 ∷ 4 ∷ 5 ∷ 6 ∷ 7 ∷ 8 ∷ 9 ∷ 10 ∷ 11 ∷ 12 ∷ 13 ∷ 14 ∷ 15 ∷ 16 ∷ 17 ∷ 18 ∷ 19 ∷ 20 ∷ []

-- Three frames are 21 cells; a place is counted in cells, and not in frames.
pub record ExcerptCalls : Type 0 where
  pub one : place_of (replicate 21 0) 1 1 ≡ record { start = 7; length = 7 }
  pub two : place_of (replicate 21 0) 1 2 ≡ record { start = 7; length = 14 }
  -- f + n may reach the frames, and not exceed them
  pub all : place_of (replicate 21 0) 0 3 ≡ record { start = 0; length = 21 }
  pub last : place_of (replicate 21 0) 2 1 ≡ record { start = 14; length = 7 }
  pub past : place_of (replicate 21 0) 2 2 ≡ record { start = 0; length = 0 }
  pub too_many : place_of (replicate 21 0) 0 4 ≡ record { start = 0; length = 0 }
  -- none from a frame on is the empty part there, at the end too; from past the end, at the start
  pub none_inside : place_of (replicate 21 0) 1 0 ≡ record { start = 7; length = 0 }
  pub none : place_of (replicate 21 0) 3 0 ≡ record { start = 21; length = 0 }
  pub none_past : place_of (replicate 21 0) 4 0 ≡ record { start = 0; length = 0 }
  -- f + n never wraps, in 64 bits or in fewer
  pub far : (place_of (replicate 21 0) 18446744073709551615 2 ≡ record { start = 0; length = 0 })
      × (place_of (replicate 21 0) 4294967296 1 ≡ record { start = 0; length = 0 })
  pub far_count : (place_of (replicate 21 0) 2 18446744073709551615 ≡ record { start = 0; length = 0 })
      × (place_of (replicate 21 0) 1 4294967296 ≡ record { start = 0; length = 0 })
  -- cells no multiple of seven, by one too many and by one too few
  pub ragged : (place_of (replicate 22 0) 1 1 ≡ record { start = 0; length = 0 })
      × (place_of (replicate 20 0) 1 1 ≡ record { start = 0; length = 0 })
  -- no limit of 4,096 frames, none of 16 bits, and no cell's value matters
  pub many : (place_of (replicate 70000 9999) 9999 1 ≡ record { start = 69993; length = 7 })
      × (place_of (replicate 70000 9999) 0 10000 ≡ record { start = 0; length = 70000 })
  pub no_cells : (place_of [] 0 0 ≡ record { start = 0; length = 0 }) × (place_of [] 0 1 ≡ record { start = 0; length = 0 })
  -- the values, and the place in memory: frame 1 is 14 bytes further on in the same block
  pub one_part : (part : List ℕ) (place : ℕ × ℕ) → Excerpt up_to20 (5, 100) 1 1 part place
      → (part ≡ 7 ∷ 8 ∷ 9 ∷ 10 ∷ 11 ∷ 12 ∷ 13 ∷ []) × (place.0 ≡ 5) × (place.1 ≡ 114)
  pub two_part : (part : List ℕ) (place : ℕ × ℕ) → Excerpt up_to20 (5, 100) 1 2 part place
      → (part ≡ 7 ∷ 8 ∷ 9 ∷ 10 ∷ 11 ∷ 12 ∷ 13 ∷ 14 ∷ 15 ∷ 16 ∷ 17 ∷ 18 ∷ 19 ∷ 20 ∷ []) × (place.0 ≡ 5) × (place.1 ≡ 114)
  pub end_part : (part : List ℕ) (place : ℕ × ℕ) → Excerpt up_to20 (5, 100) 3 0 part place
      → (part ≡ []) × (place.0 ≡ 5) × (place.1 ≡ 142)
  pub past_part : (part : List ℕ) (place : ℕ × ℕ) → Excerpt up_to20 (5, 100) 1 3 part place
      → (part ≡ []) × (place.0 ≡ 5) × (place.1 ≡ 100)
  pub ragged_first_frame : (place_of (replicate 22 0) 0 1 ≡ record { start = 0; length = 0 })
      × (place_of (replicate 22 0) 1 0 ≡ record { start = 0; length = 0 })
  pub ragged_each : map (λ l. place_of (replicate l 0) 1 1) (22 ∷ 23 ∷ 24 ∷ 25 ∷ 26 ∷ 27 ∷ []) ≡ replicate 6 (record { start = 0; length = 0 })
  -- every excerpt: within the frames, past them, and of cells no multiple of seven
  pub every_inside : (cells : List ℕ) (f n : ℕ) → length cells % 7 ≡ 0 → 7 * (f + n) ≤ length cells
      → place_of cells f n ≡ record { start = 7 * f; length = 7 * n }
  pub every_past : (cells : List ℕ) (f n : ℕ) → length cells % 7 ≡ 0 → length cells < 7 * (f + n)
      → place_of cells f n ≡ record { start = 0; length = 0 }
  pub every_ragged : (cells : List ℕ) (f n : ℕ) → (length cells % 7 ≡ 0 → ⊥) → place_of cells f n ≡ record { start = 0; length = 0 }

pub excerpts : ExcerptCalls
excerpts =
    record {
      one = refl;
      two = refl;
      all = refl;
      last = refl;
      past = refl;
      too_many = refl;
      none_inside = refl;
      none = refl;
      none_past = refl;
      far = (refl, refl);
      far_count = (refl, refl);
      ragged = (refl, refl);
      many = (refl, refl);
      no_cells = (refl, refl);
      one_part = λ p q e. (e.values, e.block, e.offset);
      two_part = λ p q e. (e.values, e.block, e.offset);
      end_part = λ p q e. (e.values, e.block, e.offset);
      past_part = λ p q e. (e.values, e.block, e.offset);
      ragged_first_frame = (refl, refl);
      ragged_each = refl;
      every_inside = λ cells f n w h. sym (place_part cells f n w (omega arith) (omega arith));
      every_past = λ cells f n w h. sym (past cells f n w (omega arith));
      every_ragged = λ cells f n h. sym (place_shape cells f n h);
    }

-- Of each refusal, and of accepted answers, some are written out: `window_found` could give its fields in another order, in the definition and here
-- alike.
pub record StrongestCalls : Type 0 where
  -- sums: eight samples of 0, of −512 and of 511; another channel's codes and the enable bytes do not count
  pub zeros : strongest_of (copies 8 (framed 512 0 127)) 0 ≡ window_found 0 0 0
  pub lowest : strongest_of (copies 8 (framed 0 512 0)) 0 ≡ window_found 0 2097152 0
  pub highest : strongest_of (copies 8 (framed 512 1023 0)) 5 ≡ window_found 0 2088968 0
  pub each_channel : (strongest_of six 0 ≡ window_found 0 8 0) × (strongest_of six 1 ≡ window_found 0 32 0) × (strongest_of six 2 ≡ window_found 0 72 0)
      × (strongest_of six 3 ≡ window_found 0 128 0) × (strongest_of six 4 ≡ window_found 0 200 0) × (strongest_of six 5 ≡ window_found 0 288 0)
  -- two windows: the last one, the first of two equal ones, the larger of two
  pub last : strongest_of (copies 8 (framed 512 512 0) ++ framed 513 512 0) 0 ≡ window_found 0 1 1
  pub first : strongest_of (framed 513 512 0 ++ (copies 7 (framed 512 512 0) ++ framed 511 512 0)) 0 ≡ window_found 0 1 0
  pub larger : strongest_of (framed 513 512 0 ++ (copies 7 (framed 512 512 0) ++ framed 514 512 0)) 0 ≡ record { refusal = 0; sum = 4; frame = 1 }
  -- three windows, with the sums 8, 8, 8; 1, 4, 4; 4, 5, 1; 4, 0, 1 (it is the largest so far that counts, and not the window before)
  pub three_equal : strongest_of (copies 10 (framed 511 0 0)) 0 ≡ record { refusal = 0; sum = 8; frame = 0 }
  pub two_equal : strongest_of (framed 0 513 1 ++ (copies 7 (framed 0 512 127) ++ (framed 0 510 64 ++ framed 0 512 0))) 5
      ≡ record { refusal = 0; sum = 4; frame = 1 }
  pub middle : strongest_of (framed 512 0 0 ++ (framed 514 0 0 ++ (copies 6 (framed 512 0 0) ++ (framed 511 0 0 ++ framed 512 0 0)))) 0
      ≡ record { refusal = 0; sum = 5; frame = 1 }
  pub falling : strongest_of (framed 0 514 0 ++ (copies 8 (framed 0 512 0) ++ framed 0 513 0)) 1 ≡ record { refusal = 0; sum = 4; frame = 0 }
  -- a window far on
  pub far : strongest_of (copies 256 (framed 512 0 0) ++ copies 8 (framed 513 0 0)) 0 ≡ record { refusal = 0; sum = 8; frame = 256 }
  -- 12: the cells, by one too many and by one too few, and the channel, however far
  pub ragged : strongest_of (copies 8 (framed 512 512 0) ++ (0 ∷ [])) 0 ≡ record { refusal = 12; sum = 0; frame = 0 }
  pub ragged_short : strongest_of (replicate 69 512) 0 ≡ record { refusal = 12; sum = 0; frame = 0 }
  pub channel_5 : strongest_of (copies 8 (framed 512 512 0)) 5 ≡ window_found 0 0 0
  pub channel_6 : strongest_of (copies 8 (framed 512 513 0)) 6 ≡ record { refusal = 12; sum = 0; frame = 0 }
  pub channel_far : (strongest_of (copies 8 (framed 513 513 0)) 4294967296 ≡ record { refusal = 12; sum = 0; frame = 0 })
      × (strongest_of (copies 8 (framed 513 513 0)) 18446744073709551615 ≡ record { refusal = 12; sum = 0; frame = 0 })
  -- 9: any channel's code, any enable byte, in any frame
  pub code_1024 : strongest_of (copies 8 (framed 512 513 0) ++ framed 512 1024 0) 0 ≡ record { refusal = 9; sum = 0; frame = 0 }
  pub first_code : strongest_of (framed 1024 513 0 ++ copies 8 (framed 512 513 0)) 5 ≡ record { refusal = 9; sum = 0; frame = 0 }
  pub code_65535 : strongest_of (copies 8 (framed 65535 513 0)) 0 ≡ record { refusal = 9; sum = 0; frame = 0 }
  pub enable_128 : strongest_of (copies 8 (framed 512 513 0) ++ framed 512 512 128) 0 ≡ record { refusal = 9; sum = 0; frame = 0 }
  pub first_enable : strongest_of (framed 512 513 128 ++ copies 8 (framed 512 513 0)) 1 ≡ record { refusal = 9; sum = 0; frame = 0 }
  pub frames_4097 : strongest_of (replicate (7 * 4097) 0) 0 ≡ record { refusal = 9; sum = 0; frame = 0 }
  -- the refusal alone, which the law `is_refusal` says is the one answered: 4,089 windows are more than antt computes
  pub frames_4096 : strongest_refusal (replicate (7 * 4096) 0) 0 ≡ 0
  -- 13
  pub seven_frames : strongest_of (copies 7 (framed 513 512 0)) 0 ≡ record { refusal = 13; sum = 0; frame = 0 }
  pub no_frames : strongest_of [] 0 ≡ window_found 13 0 0
  -- 12, by the cells and by the channel, then 9, then 13
  pub shape_first : strongest_of (framed 1024 0 0) 6 ≡ window_found 12 0 0
  pub channel_before_cell : strongest_of (copies 8 (framed 1024 512 0)) 6 ≡ record { refusal = 12; sum = 0; frame = 0 }
  pub channel_before_few : strongest_of (framed 512 512 0) 6 ≡ window_found 12 0 0
  pub ragged_first : strongest_of (framed 1024 0 0 ++ (0 ∷ [])) 0 ≡ window_found 12 0 0
  pub ragged_before_few : strongest_of (512 ∷ []) 0 ≡ window_found 12 0 0
  pub shape_before_count : (strongest_of (replicate (7 * 4097) 0) 6 ≡ window_found 12 0 0)
      × (strongest_of (replicate (7 * 4097 + 1) 0) 0 ≡ window_found 12 0 0)
  pub range_first : strongest_of (copies 7 (framed 1024 512 0)) 0 ≡ window_found 9 0 0
  pub enable_before_few : strongest_of (framed 512 512 128) 0 ≡ window_found 9 0 0
  -- 9 before 13, in the last of seven frames; 12 before both, where a cell is bad too and where there is no frame
  pub few_last_cell : (strongest_of (copies 6 (framed 512 512 0) ++ framed 512 1024 0) 0 ≡ record { refusal = 9; sum = 0; frame = 0 })
      × (strongest_of (copies 6 (framed 512 512 0) ++ framed 512 512 128) 0 ≡ record { refusal = 9; sum = 0; frame = 0 })
  pub no_frames_channel : strongest_of [] 6 ≡ record { refusal = 12; sum = 0; frame = 0 }
  pub channel_7_bad : strongest_of (copies 8 (framed 1024 513 128)) 7 ≡ record { refusal = 12; sum = 0; frame = 0 }
  -- what is answered, in numbers
  pub answered : (strongest_answer (Ok (record { sum = 8; frame = 256 })) ≡ record { refusal = 0; sum = 8; frame = 256 })
      × (strongest_answer (Err FewFrames) ≡ record { refusal = 13; sum = 0; frame = 0 })
  -- sums of windows near and far, of every code, and a channel's codes in four hundred frames
  pub last_window : window_sum (replicate 4088 512 ++ replicate 8 513) 4088 ≡ 8
  pub windows : map (window_sum (up_from 512 300)) (0 ∷ 3 ∷ 100 ∷ 200 ∷ 292 ∷ []) ≡ 140 ∷ 380 ∷ 85740 ∷ 331340 ∷ 698604 ∷ []
  pub all_codes : squares (up_from 0 1024) ≡ 89478656
  pub middle_codes : map (λ c. squares (c ∷ [])) (412 ∷ 612 ∷ 329 ∷ 695 ∷ 256 ∷ 768 ∷ 12 ∷ 1012 ∷ [])
      ≡ 10000 ∷ 10000 ∷ 33489 ∷ 33489 ∷ 65536 ∷ 65536 ∷ 250000 ∷ 250000 ∷ []
  pub codes_of : map (λ c. channel_codes c 400 (copies 400 (up_from 0 7))) (up_from 0 6) ≡ map (λ c. replicate 400 c) (up_from 0 6)
  -- the square of every code's sample; every window, each a frame on from the one before; every frame's code, seven cells on
  pub each_square : map (λ c. squares (c ∷ [])) (up_from 0 1024)
      ≡ map (λ c. (512 - c) * (512 - c)) (up_from 0 512) ++ map (λ d. d * d) (up_from 0 512)
  pub next_square : (c : ℕ) (codes : List ℕ) → squares (c ∷ codes) ≡ squared (sample_of c) + squares codes
  pub first_window : (codes : List ℕ) → window_sum codes 0 ≡ squares (take 8 codes)
  pub next_window : (c f : ℕ) (codes : List ℕ) → window_sum (c ∷ codes) (suc f) ≡ window_sum codes f
  pub next_code : (channel n : ℕ) (cells : List ℕ) → channel_codes channel (suc n) cells ≡ get_or cells channel 0 ∷ channel_codes channel n (drop 7 cells)

pub strongests : StrongestCalls
unfolding computed
strongests =
    record {
      zeros = refl;
      lowest = refl;
      highest = refl;
      each_channel = (refl, refl, refl, refl, refl, refl);
      last = refl;
      first = refl;
      larger = refl;
      three_equal = refl;
      two_equal = refl;
      middle = refl;
      falling = refl;
      far = refl;
      ragged = refl;
      ragged_short = refl;
      channel_5 = refl;
      channel_6 = refl;
      channel_far = (refl, refl);
      code_1024 = refl;
      first_code = refl;
      code_65535 = refl;
      enable_128 = refl;
      first_enable = refl;
      frames_4097 = refl;
      frames_4096 = refl;
      seven_frames = refl;
      no_frames = refl;
      shape_first = refl;
      channel_before_cell = refl;
      channel_before_few = refl;
      ragged_first = refl;
      ragged_before_few = refl;
      shape_before_count = (refl, refl);
      range_first = refl;
      enable_before_few = refl;
      few_last_cell = (refl, refl);
      answered = (refl, refl);
      last_window = refl;
      windows = refl;
      all_codes = refl;
      middle_codes = refl;
      codes_of = refl;
      no_frames_channel = refl;
      channel_7_bad = refl;
      each_square = refl;
      next_square = λ c codes. refl;
      first_window = λ codes. refl;
      next_window = λ c f codes. refl;
      next_code = λ channel n cells. refl;
    }
