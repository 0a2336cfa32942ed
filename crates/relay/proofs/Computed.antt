-- One name for all that a computed call of the relay unfolds: `unfolding computed`. A new definition has its entry here alone.
use Rattle.frames.proofs.Computed as frames
use Rattle.phasor.proofs.Computed as phasor
use Rattle.relay.specs.Settings.{drops_sound, pickups_sound, restraints_sound, lengths_sound, levels_of}
use Rattle.relay.specs.Channel.{fresh_channel, next_run, channel_after}
use Rattle.relay.specs.Sound.{channel_sound, channels_sound, sound_of}
use Rattle.relay.specs.Relay.{unused_relay, level_refusal, fresh_refusal, fresh_of}
use Rattle.relay.specs.Relay.{next_channel, amplitude_in, output_in, accepted_frame, refused_frame, input_refusal, frame_refusal, frame_of}
use Rattle.relay.specs.Relay.{reset_channel, accepted_reset, refused_reset, mask_refusal, reset_refusal, reset_of}
use Rattle.relay.specs.Relay.{changed_channel, accepted_change, refused_change, change_refusal, change_of}

unfoldable pub computed : Unit {0}
unfolding frames.computed phasor.computed drops_sound pickups_sound restraints_sound lengths_sound levels_of fresh_channel next_run channel_after channel_sound
    channels_sound sound_of unused_relay level_refusal fresh_refusal fresh_of next_channel amplitude_in output_in accepted_frame refused_frame input_refusal
    frame_refusal frame_of reset_channel accepted_reset refused_reset mask_refusal reset_refusal reset_of changed_channel accepted_change
    refused_change change_refusal change_of
computed = tt
