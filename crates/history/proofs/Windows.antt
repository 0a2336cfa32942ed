-- Every window of the history holds samples of accepted codes, so that what is known of the amplitude holds of it.
-- Rests on the laws of the relay's definitions.
use Prim.Native.Nat.{ℕ, zero, suc, ◌%◌, ◌<◌}
use mathlib.Core.Path.{◌≡◌, refl}
use mathlib.Core.Bool.{Bool, true, false, ◌&&◌, cond}
use mathlib.Core.List.{List, [], ◌∷◌, ◌++◌}
use lib.IntN.{pos}
use lib.Dec.{eqb}
use lib.ListN.{get_or}
use borrow.Author.Tests.{eqb-true}
use Rattle.lists.proofs.Each.{every_true, get_d_table}
use Rattle.frames.specs.Bits.{bit_of}
use Rattle.frames.specs.Codes.{sample_sound}
use Rattle.frames.proofs.Samples.{sample_is_sound}
use Rattle.phasor.specs.Window.{window_sound}
use Rattle.frames.proofs.Ranges.{codes_below}
use Rattle.history.specs.Calls.{Codes, Call, frame, reset, change, frame_refused_by, is_accepted}
use Rattle.history.specs.History.{Event, sampled, cleared, changed, input_of, own_levels, channel_history, input_at, latest_in_slot, window_of}
use Rattle.history.proofs.Accepted.{frame_codes}

abbrev SamplesSound : List Event → Type 0
SamplesSound es = (n : ℕ) → sample_sound (input_at es n).sample ≡ true

-- an event that came or did not
one_more : (b : Bool) (e : Event) (es : List Event) → (b ≡ true → SamplesSound (e ∷ [])) → SamplesSound es → SamplesSound (cond b (e ∷ []) [] ++ es)
one_more true (sampled i) es s rest zero = s refl 0
one_more true (sampled i) es s rest (suc n) = rest n
one_more true cleared es s rest n = rest n
one_more true (changed new) es s rest n = rest n
one_more false e es s rest n = rest n

code_sound : (c : ℕ) (codes : Codes) (enable : ℕ) → c < 6 → is_accepted (frame codes enable) ≡ true
    → SamplesSound (sampled (input_of c codes.list enable) ∷ [])
code_sound c codes enable h e zero =
    sample_is_sound (get_or codes.list c 0)
    (codes_below codes.list (frame_codes codes.list enable (eqb-true (frame_refused_by codes.list enable) 0 e)) c h)
code_sound c codes enable h e (suc n) = refl

history_sound : (c : ℕ) → c < 6 → (calls : List Call) → SamplesSound (channel_history c calls)
history_sound c h [] = λ n. refl
history_sound c h (frame codes enable ∷ calls) =
    one_more (is_accepted (frame codes enable)) _ (channel_history c calls) (code_sound c codes enable h) (history_sound c h calls)
history_sound c h (reset mask ∷ calls) =
    one_more (is_accepted (reset mask) && bit_of mask c) cleared (channel_history c calls) (λ e n. refl) (history_sound c h calls)
history_sound c h (change new ∷ calls) =
    one_more (is_accepted (change new)) (changed (own_levels new c)) (channel_history c calls) (λ e n. refl) (history_sound c h calls)

latest_sound : (es : List Event) → SamplesSound es → (n k : ℕ) → sample_sound (latest_in_slot es n k) ≡ true
latest_sound es s zero k = refl
latest_sound es s (suc n) k = by (eqb (n % 8) k) (latest_sound es s n k)
  where
    by : (b : Bool) → sample_sound (latest_in_slot es n k) ≡ true → sample_sound (cond b (input_at es n).sample (latest_in_slot es n k)) ≡ true
    by true rest = s n
    by false rest = rest

pub window_sound_lem : (c : ℕ) → c < 6 → (calls : List Call) (n : ℕ) → window_sound (window_of (channel_history c calls) n) ≡ true
unfolding window_sound window_of
window_sound_lem c h calls n =
    every_true 8 _ (λ k l. rw (get_d_table 8 (latest_in_slot (channel_history c calls) n) (pos 0) k l)
    (latest_sound (channel_history c calls) (history_sound c h calls) n k))
