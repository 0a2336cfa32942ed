-- Calls of `generate`, computed: each pins a limit, an order, a place or a bit. Rests on the definitions alone.
use Rattle.std.proofs.Common.{◌≡◌, ℕ, ◌+◌, ◌*◌, ◌%◌, ◌^◌, List, [], ◌∷◌, ◌++◌, map, get_or, set, replicate, refl}
use Rattle.lists.proofs.Lists.{up_from}
use Rattle.refusals.specs.Outcomes.{Outcome}
use Rattle.generator.specs.Generator.{made_number, frames_made, generate_of}
use Rattle.generator.proofs.Computed.{computed}

-- The numbers k · 2^26 + 1, k = 1 to 55: the k-th made number is (k + 31 + k) · 2^26 + 2, as long as k is at most 24 and it does not wrap.
abbrev steps : List ℕ
steps = map (λ k. k * 2 ^ 26 + 1) (up_from 1 55)

-- Numbers without a pattern.
abbrev mixed : List ℕ
mixed = map (λ k. (k * k * 2654435761 + k * 40503 + 12345) % 2 ^ 32) (up_from 1 55)

-- One number at a place, two numbers at two places, else zeros.
abbrev only : ℕ → ℕ → List ℕ
only place number = set (replicate 55 0) place number

abbrev both : ℕ → ℕ → ℕ → ℕ → List ℕ
both a x b y = set (only a x) b y

abbrev evens : List ℕ
evens = replicate 55 4294967294

abbrev refused : ℕ → List ℕ → Outcome
refused k cells = record { refusal = k; count = 0; buffer = cells }

pub record GenerateCalls : Type 0 where
  -- the figures by hand, the third frame with its wrap; the cell past them stays
  pub three : generate_of steps 3 (replicate 22 9)
      ≡ record {
        refusal = 0;
        count = 3;
        buffer = 528 ∷ 560 ∷ 592 ∷ 624 ∷ 656 ∷ 688 ∷ 0x7F ∷ 720 ∷ 752 ∷ 784 ∷ 816 ∷ 848 ∷ 880 ∷ 0x7F
            ∷ 912 ∷ 944 ∷ 976 ∷ 1008 ∷ 16 ∷ 48 ∷ 0x7F ∷ 9 ∷ [];
      }
  -- eleven frames: from the fifth on a sum has a made number in it, in the eleventh it has no other; and numbers of later frames
  pub eleven : frames_made mixed 11
      ≡ 496 ∷ 523 ∷ 10 ∷ 1004 ∷ 433 ∷ 346 ∷ 127 ∷ 742 ∷ 598 ∷ 937 ∷ 736 ∷ 1018 ∷ 760 ∷ 127 ∷
      985 ∷ 669 ∷ 837 ∷ 465 ∷ 576 ∷ 146 ∷ 127 ∷ 200 ∷ 737 ∷ 734 ∷ 191 ∷ 130 ∷ 554 ∷ 127 ∷
      774 ∷ 309 ∷ 570 ∷ 531 ∷ 194 ∷ 582 ∷ 127 ∷ 671 ∷ 462 ∷ 977 ∷ 170 ∷ 88 ∷ 731 ∷ 127 ∷
      52 ∷ 97 ∷ 868 ∷ 316 ∷ 489 ∷ 364 ∷ 127 ∷ 963 ∷ 240 ∷ 242 ∷ 969 ∷ 374 ∷ 503 ∷ 127 ∷
      672 ∷ 397 ∷ 65 ∷ 700 ∷ 254 ∷ 774 ∷ 127 ∷ 214 ∷ 959 ∷ 477 ∷ 180 ∷ 68 ∷ 141 ∷ 127 ∷
      398 ∷ 840 ∷ 442 ∷ 230 ∷ 202 ∷ 358 ∷ 127 ∷ []
  pub late : map (made_number mixed) (383 ∷ 384 ∷ 389 ∷ 390 ∷ []) ≡ 3339223857 ∷ 263344568 ∷ 2369819477 ∷ 131203677 ∷ []
  -- no frames, in any cells and in none
  pub none : (generate_of steps 0 (7 ∷ 8 ∷ []) ≡ record { refusal = 0; count = 0; buffer = 7 ∷ 8 ∷ [] })
      × (generate_of steps 0 [] ≡ record { refusal = 0; count = 0; buffer = [] })
  -- the space is counted in cells: seven for a frame, and the cells need be no multiple of seven
  pub just_fits : generate_of steps 1 (replicate 7 9)
      ≡ record { refusal = 0; count = 1; buffer = 528 ∷ 560 ∷ 592 ∷ 624 ∷ 656 ∷ 688 ∷ 0x7F ∷ [] }
  pub one_more : generate_of steps 1 (replicate 8 9)
      ≡ record { refusal = 0; count = 1; buffer = 528 ∷ 560 ∷ 592 ∷ 624 ∷ 656 ∷ 688 ∷ 0x7F ∷ 9 ∷ [] }
  pub no_room : (generate_of steps 1 (replicate 6 9) ≡ refused 11 (replicate 6 9))
      × (generate_of steps 2 (replicate 13 9) ≡ refused 11 (replicate 13 9)) × (generate_of steps 1 [] ≡ refused 11 [])
  -- "up to 4,096 frames", and no limit of 16, 32 or 64 bits
  pub most : ((generate_of steps 4096 (replicate 28672 9)).refusal ≡ 0) × ((generate_of steps 4096 (replicate 28672 9)).count ≡ 4096)
      × (generate_of steps 4096 (replicate 28671 9) ≡ refused 11 (replicate 28671 9))
  pub too_many : (generate_of steps 4097 (replicate 28679 9) ≡ refused 9 (replicate 28679 9))
      × (generate_of steps 65536 [] ≡ refused 9 []) × (generate_of steps 4294967296 [] ≡ refused 9 [])
      × (generate_of steps 18446744073709551615 (9 ∷ []) ≡ refused 9 (9 ∷ []))
  pub many_room_for_most : (generate_of steps 4097 (replicate 28672 9) ≡ refused 9 (replicate 28672 9))
      × (generate_of steps 4097 (replicate 28678 9) ≡ refused 9 (replicate 28678 9))
      × (generate_of steps 4098 (replicate 28679 9) ≡ refused 9 (replicate 28679 9))
  -- "24 .., before 9 and 11": alone, with no frames, with each of the others, and with both; and 9 before 11
  pub even : (generate_of evens 1 (replicate 7 9) ≡ refused 24 (replicate 7 9))
      × (generate_of (replicate 55 0) 1 (replicate 7 9) ≡ refused 24 (replicate 7 9))
  pub even_none : (generate_of evens 0 [] ≡ refused 24 []) × (generate_of evens 0 (9 ∷ []) ≡ refused 24 (9 ∷ []))
  pub even_many : generate_of evens 4097 (replicate 28679 9) ≡ refused 24 (replicate 28679 9)
  pub even_no_room : generate_of evens 1 (replicate 6 9) ≡ refused 24 (replicate 6 9)
  pub even_all : generate_of evens 4097 (replicate 6 9) ≡ refused 24 (replicate 6 9)
  pub many_no_room : generate_of steps 4097 (replicate 6 9) ≡ refused 9 (replicate 6 9)
  -- one odd number among 54 even ones, wherever it stands, and 54 odd ones
  pub one_odd : map (λ k. (generate_of (set evens k 1) 0 []).refusal) (up_from 0 55) ≡ replicate 55 0
  pub one_even : map (λ k. (generate_of (set (replicate 55 1) k 4294967294) 0 []).refusal) (up_from 0 55) ≡ replicate 55 0
  pub odd_frame : generate_of (set evens 31 4294967295) 1 (replicate 7 9)
      ≡ record { refusal = 0; count = 1; buffer = replicate 6 1023 ++ (0x7F ∷ []) }
  -- "the numbers 24 and 55 places back", the oldest given first: which made numbers have a number in them
  pub oldest : map (made_number (only 0 1)) (0 ∷ 1 ∷ 23 ∷ 24 ∷ 25 ∷ 48 ∷ 54 ∷ 55 ∷ []) ≡ 1 ∷ 0 ∷ 0 ∷ 1 ∷ 0 ∷ 1 ∷ 0 ∷ 1 ∷ []
  pub second : map (made_number (only 1 1)) (0 ∷ 1 ∷ 2 ∷ 24 ∷ 25 ∷ 26 ∷ []) ≡ 0 ∷ 1 ∷ 0 ∷ 0 ∷ 1 ∷ 0 ∷ []
  pub middle : map (made_number (only 30 1)) (0 ∷ 1 ∷ 23 ∷ 29 ∷ 30 ∷ 31 ∷ []) ≡ 0 ∷ 0 ∷ 0 ∷ 0 ∷ 1 ∷ 0 ∷ []
  pub back_24 : map (made_number (only 31 1)) (0 ∷ 1 ∷ 23 ∷ 24 ∷ 25 ∷ 31 ∷ 32 ∷ []) ≡ 1 ∷ 0 ∷ 0 ∷ 1 ∷ 0 ∷ 1 ∷ 0 ∷ []
  pub newest : map (made_number (only 54 1)) (0 ∷ 22 ∷ 23 ∷ 24 ∷ 47 ∷ 53 ∷ 54 ∷ 55 ∷ []) ≡ 0 ∷ 0 ∷ 1 ∷ 0 ∷ 1 ∷ 0 ∷ 1 ∷ 0 ∷ []
  -- "the sum modulo 2^32", and "the top ten bits"
  pub wraps : (made_number (both 0 4294967295 31 1) 0 ≡ 0) × (made_number (both 0 4294967295 31 4294967295) 0 ≡ 4294967294)
      × (made_number (both 0 2147483648 31 2147483648) 0 ≡ 0) × (made_number (both 0 2147483647 31 1) 0 ≡ 2147483648)
  pub bits : map (λ v. get_or (frames_made (only 0 v) 1) 0 0) (4194303 ∷ 4194304 ∷ 8388608 ∷ 2147483648 ∷ 4290772991 ∷ 4290772992 ∷ 4294967295 ∷ [])
      ≡ 0 ∷ 1 ∷ 2 ∷ 512 ∷ 1022 ∷ 1023 ∷ 1023 ∷ []
  -- a carry out of the low 22 bits counts
  pub carries : (get_or (frames_made (both 0 4194303 31 1) 1) 0 0 ≡ 1) × (get_or (frames_made (both 0 4194303 31 4194303) 1) 0 0 ≡ 1)
  -- six numbers a frame, one channel after another, and the next six in the next frame
  pub channels : map (λ k. frames_made (only k 4294967295) 1) (0 ∷ 1 ∷ 5 ∷ 6 ∷ [])
      ≡ (1023 ∷ 0 ∷ 0 ∷ 0 ∷ 0 ∷ 0 ∷ 0x7F ∷ []) ∷ (0 ∷ 1023 ∷ 0 ∷ 0 ∷ 0 ∷ 0 ∷ 0x7F ∷ [])
      ∷ (0 ∷ 0 ∷ 0 ∷ 0 ∷ 0 ∷ 1023 ∷ 0x7F ∷ []) ∷ (0 ∷ 0 ∷ 0 ∷ 0 ∷ 0 ∷ 0 ∷ 0x7F ∷ []) ∷ []
  pub next_frame : frames_made (only 6 4294967295) 2 ≡ 0 ∷ 0 ∷ 0 ∷ 0 ∷ 0 ∷ 0 ∷ 0x7F ∷ 1023 ∷ 0 ∷ 0 ∷ 0 ∷ 0 ∷ 0 ∷ 0x7F ∷ []

pub calls : GenerateCalls
unfolding computed
calls =
    record {
      three = refl;
      eleven = refl;
      late = refl;
      none = (refl, refl);
      just_fits = refl;
      one_more = refl;
      no_room = (refl, refl, refl);
      most = (refl, refl, refl);
      too_many = (refl, refl, refl, refl);
      many_room_for_most = (refl, refl, refl);
      even = (refl, refl);
      even_none = (refl, refl);
      even_many = refl;
      even_no_room = refl;
      even_all = refl;
      many_no_room = refl;
      one_odd = refl;
      one_even = refl;
      odd_frame = refl;
      oldest = refl;
      second = refl;
      middle = refl;
      back_24 = refl;
      newest = refl;
      wraps = (refl, refl, refl, refl);
      bits = refl;
      carries = (refl, refl);
      channels = refl;
      next_frame = refl;
    }
