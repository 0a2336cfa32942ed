-- `Channel::after` meets its contract: the runs are those that `run_after` answers.
use Prim.Native.Nat.{ℕ, ◌<◌}
use Rattle.frames.specs.Bits.{enabled_in}
use Rattle.lists.proofs.Each.{get_d_table}
use Rattle.phasor.specs.Cordic.{amplitude_of}
use Rattle.phasor.specs.Lanes.{channel_window, amplitudes_of}
use Rattle.phasor.specs.declared.Window.{Window}
use Rattle.relay.specs.Channel.{run_after, next_run, next_latch, channel_with}
use Rattle.relay.specs.Internal.{unrestrained_at, unrestrained_in}
use Rattle.relay.specs.Settings.{levels_of, unrestrained_by, loss, over}
use Rattle.relay.specs.declared.Channel.{Channel}
use Rattle.relay.specs.declared.ChannelLevels.{ChannelLevels}
use Rattle.relay.specs.declared.Settings.{Settings}
use lib.Dec.{ltb, leb}
use lib.ListN.{get_or}
use mathlib.Core.Bool.{Bool, false, ◌&&◌}
use mathlib.Core.List.{List}
use mathlib.Core.Path.{◌≡◌}
use Rattle.relay.proofs.Channel.after.Goals as goal

module _
    (settings : Settings) (counted : Bool) (enable c : ℕ) (windows : List Window) (amplitudes : List ℕ) (free : List Bool)
    (levels : ChannelLevels) (enabled : Bool) (loss_count over_count : ℕ) (ch : Channel) (h : c < 6)
    (e : amplitudes ≡ amplitudes_of windows) (f : free ≡ unrestrained_in settings windows)
    (p : levels ≡ levels_of settings.levels c) (q : enabled ≡ enabled_in enable c)
  where
    amplitude_is : get_or amplitudes c 0 ≡ amplitude_of 1 (channel_window windows c)
    amplitude_is = rw e (get_d_table 6 (λ k. amplitude_of 1 (channel_window windows k)) 0 c h)

    free_is : get_or free c false ≡ unrestrained_by levels.restraint (channel_window windows c)
    unfolding unrestrained_in unrestrained_at
    free_is = rw (f, p) (get_d_table 6 (unrestrained_at settings windows) false c h)

    made : loss_count ≡ run_after counted (enabled && ltb (get_or amplitudes c 0) levels.drop) settings.lengths.loss ch.loss_run
        → over_count
        ≡ run_after counted (enabled && (levels.current && (leb levels.pickup (get_or amplitudes c 0) && get_or free c false)))
        settings.lengths.over ch.over_run
        → ◌≡◌ {A = Channel} (record {
          samples = channel_window windows c;
          loss_run = loss_count;
          over_run = over_count;
          loss_latch = next_latch (loss settings.lengths) loss_count ch.loss_latch;
          over_latch = next_latch (over settings.lengths) over_count ch.over_latch;
        }) (channel_with settings.lengths (levels_of settings.levels c) counted (enabled_in enable c) (channel_window windows c) ch)
    unfolding next_run
    made l o = rw (l, o, amplitude_is, free_is, ← p, ← q)

pub returns : goal.returns
returns c = search made
