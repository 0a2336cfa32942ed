-- `Relay::accepted_frame` meets its contract: what the six channels' functions answer, put together.
use Prim.Native.Nat.{ℕ, ◌<◌}
use Rattle.frames.proofs.Output.{bits_same}
use Rattle.frames.proofs.Samples.{sample_is_sound}
use Rattle.frames.specs.Bits.{bit_of, enabled_in}
use Rattle.lists.proofs.Each.{get_d_table, table_same}
use Rattle.phasor.proofs.Samples.{window_set}
use Rattle.phasor.specs.Cordic.{amplitude_of}
use Rattle.phasor.specs.Lanes.{channel_window, no_window, WindowsSound, amplitudes_of}
use Rattle.phasor.specs.declared.Window.{Window}
use Rattle.relay.proofs.Sound.{relay_passed, codes_passed, slot_passed, window_is_sound}
use Rattle.frames.proofs.Ranges.{codes_below}
use Rattle.relay.specs.Channel.{no_channel, channel_with, channel_after, latch_on}
use Rattle.relay.specs.Internal.{stored_at, windows_of, channel_in, on_in, channels_and_output}
use Rattle.relay.specs.Relay.{found_by, counted, age_after, slot_after, window_in, amplitude_in, next_channel, output_in, accepted_frame, frame_refusal}
use Rattle.relay.specs.Settings.{levels_of, settled}
use Rattle.relay.specs.declared.Channel.{Channel}
use Rattle.relay.specs.declared.ChannelsAndOutput.{ChannelsAndOutput}
use Rattle.relay.specs.declared.FrameAnswer.{FrameAnswer}
use Rattle.relay.specs.declared.Relay.{Relay}
use borrow.Author.Rules.{rules}
use lib.IntN.{ℤ}
use lib.Dec.{leb}
use lib.ListN.{get_or}
use mathlib.Core.Bool.{Bool, ◌&&◌}
use mathlib.Core.List.{List}
use mathlib.Core.Path.{◌≡◌, ap, ◌∙◌}
use Rattle.relay.proofs.Relay.accepted_frame.Goals as goal

-- what is made from the windows that step 1 leaves is what the frame's definitions say
module _ (r : Relay) (codes : List ℕ) (enable slot : ℕ) (windows : List Window) (z : slot ≡ r.slot)
    (e : windows ≡ windows_of slot codes r.channels) where
  window_is : (c : ℕ) → c < 6 → channel_window windows c ≡ window_in r.slot codes r.channels c
  unfolding windows_of
  window_is c h =
      ap (λ (ws : List Window). channel_window ws c) (e ∙ ap (λ (k : ℕ). windows_of k codes r.channels) z)
      ∙ ap (λ (w : Window). w.samples) (get_d_table 6 (stored_at r.slot codes r.channels) no_window c h)

  windows_sound_lem : frame_refusal r codes enable ≡ 0 → WindowsSound windows
  windows_sound_lem h c l =
      let sample = sample_is_sound _ (codes_below codes (codes_passed r codes enable h) c l) in
      rw (window_is c l) (window_set _ _ _ (window_is_sound r (relay_passed r codes enable h) c l) sample)

  amplitude_is : (c : ℕ) → c < 6 → amplitude_of 1 (channel_window windows c) ≡ amplitude_in r.slot codes r.channels c
  unfolding amplitude_in
  amplitude_is c h = ap (amplitude_of 1) (window_is c h)

  channel_is : (c : ℕ) → c < 6
      → channel_in r.settings (counted r enable) enable windows r.channels c
      ≡ next_channel r.settings r.slot (counted r enable) codes enable r.channels c
  unfolding channel_in next_channel channel_after
  channel_is c h =
      ap (λ (w : List ℤ). channel_with r.settings.lengths (levels_of r.settings.levels c) (counted r enable) (enabled_in enable c) w
      (get_or r.channels c no_channel)) (window_is c h)

  on_is : (c : ℕ) → c < 6
      → on_in r.settings (counted r enable) enable windows r.channels c
      ≡ output_in r.settings r.slot (counted r enable) codes enable r.channels c
  unfolding on_in output_in
  on_is c h = ap (λ (ch : Channel). latch_on ch && enabled_in enable c) (channel_is c h)

  made : (amplitudes : List ℕ) (found age next : ℕ) (on : Bool) (m : ChannelsAndOutput)
      → m ≡ channels_and_output r.settings (leb settled found) enable windows r.channels
      → amplitudes ≡ amplitudes_of windows
      → on ≡ bit_of enable 6
      → found ≡ found_by r.device_on on r.age
      → age ≡ age_after found
      → next ≡ slot_after r.slot
      → ◌≡◌ {A = FrameAnswer} (record {
        relay = record { channels = m.channels; age = age; slot = next; device_on = on; settings = r.settings };
        refusal = 0;
        amplitudes = amplitudes;
        output = m.output;
      }) (accepted_frame r codes enable)
  unfolding accepted_frame channels_and_output
  made amplitudes found age next on m p q o f a s =
      rw (p, q, a, s, f, o, table_same 6 _ _ amplitude_is, table_same 6 _ _ channel_is, bits_same 6 _ _ on_is)

pub windows_after-windows-requires : goal.windows_after-windows-requires
windows_after-windows-requires c = rw c.from-slot.ensures (search (slot_passed, codes_passed))

pub amplitudes-amplitudes-requires : goal.amplitudes-amplitudes-requires
amplitudes-amplitudes-requires c = search windows_sound_lem

pub unrestrained_channels-unrestrained-requires : goal.unrestrained_channels-unrestrained-requires
unrestrained_channels-unrestrained-requires c = record { windows_sound = search windows_sound_lem; amplitudes_value = search rules }

pub returns : goal.returns
returns c = search made
