-- Settings, levels, the two kinds of run (document 01, "Frames, runs, latches, resets"), harmonic restraint (document
-- 02, Paper 8), what a run's own level is (Paper 6), and run lengths (Paper 9): all that a level or a length is stands
-- here. Rests on the amplitude of a window.
use Rattle.std.specs.Prelude.{ℕ, ◌-◌, ◌*◌, Bool, ◌&&◌, ◌||◌, cond, List, ℤ, ltb, leb, eqb, get_or, replicate}
use Rattle.lists.specs.Each.{every}
use Rattle.phasor.specs.Cordic.{amplitude_of}
use Rattle.relay.specs.declared.ChannelLevels.{ChannelLevels}
use Rattle.relay.specs.declared.Lengths.{Lengths}
use Rattle.relay.specs.declared.Levels.{Levels}
use Rattle.relay.specs.declared.Settings.{Settings}

-- "Channels 0, 1, 2 are voltages; 3, 4, 5 are currents."
abbrev pub is_current : ℕ → Bool
is_current c = leb 3 c

-- ---- levels

-- a level is "1 to 10,700"
abbrev pub most_level : ℕ
most_level = 10700

-- level k of some levels is in range; each of the first n is
abbrev pub level_in_range : List ℕ → ℕ → Bool
level_in_range levels k = leb 1 (get_or levels k 0) && leb (get_or levels k 0) most_level

abbrev pub levels_in_range : ℕ → List ℕ → Bool
levels_in_range n levels = every n (level_in_range levels)

-- "Settings: a drop level for each channel and a pickup level for each current, 1 to 10,700."
unfoldable pub drops_sound : List ℕ → Bool
drops_sound drop = levels_in_range 6 drop

unfoldable pub pickups_sound : List ℕ → Bool
pickups_sound pickup = levels_in_range 3 pickup

abbrev pub nine_sound : Levels → Bool
nine_sound l = drops_sound l.drop && pickups_sound l.pickup

-- Paper 8: "Each current gets a restraint level r, 1 to 100 or 0 for off."
abbrev pub most_restraint : ℕ
most_restraint = 100

abbrev pub restraint_in_range : List ℕ → ℕ → Bool
restraint_in_range restraint k = leb (get_or restraint k 0) most_restraint

unfoldable pub restraints_sound : List ℕ → Bool
restraints_sound restraint = every 3 (restraint_in_range restraint)

-- Paper 9: "Loss and over lengths become settings of the relay, 1 to 24, one pair for the device"
abbrev pub most_length : ℕ
most_length = 24

abbrev pub length_in_range : ℕ → Bool
length_in_range len = leb 1 len && leb len most_length

unfoldable pub lengths_sound : Lengths → Bool
lengths_sound l = length_in_range l.loss && length_in_range l.over

abbrev pub settings_sound : Settings → Bool
settings_sound s = nine_sound s.levels && restraints_sound s.levels.restraint && lengths_sound s.lengths

-- the settings of the relay that making a fresh one returns where it is refused
abbrev pub zero_settings : Settings
zero_settings =
    record {
      levels = record { drop = replicate 6 0; pickup = replicate 3 0; restraint = replicate 3 0 };
      lengths = record { loss = 0; over = 0 };
    }

-- channel c's own levels; a voltage has no pickup and no restraint, and their places hold 0
unfoldable pub levels_of : Levels → ℕ → ChannelLevels
levels_of l c =
    record {
      drop = get_or l.drop c 0;
      pickup = cond (is_current c) (get_or l.pickup (c - 3) 0) 0;
      restraint = cond (is_current c) (get_or l.restraint (c - 3) 0) 0;
      current = is_current c;
    }

-- ---- runs

-- the age of a relay whose frames are counted
abbrev pub settled : ℕ
settled = 72

-- Kind (our word): loss or over; how many frames make a full run (document 01's term), whether a window meets the
-- level, and whether two levels of a channel are equal in what is the run's "own level" (Paper 6's term). "Wherever a
-- rule on runs says 16 or 4 it means these" (Paper 9): a device's kinds have the lengths that it was made with.
pub record Kind : Type 0 where
  pub len : ℕ
  pub meets : ChannelLevels → List ℤ → Bool
  pub same : ChannelLevels → ChannelLevels → Bool

-- the loss run's own level is the drop
abbrev pub same_drop : ChannelLevels → ChannelLevels → Bool
same_drop old new = eqb old.drop new.drop

-- the loss run: frames with m < drop
abbrev pub loss : Lengths → Kind
loss lengths =
    record {
      len = lengths.loss;
      meets = λ levels w. ltb (amplitude_of 1 w) levels.drop;
      same = same_drop;
    }

-- Paper 8: "only if r is 0 or 100 times the second-harmonic amplitude is less than r times the fundamental".
-- Unrestrained (our word): this test of r and of the two amplitudes of one window.
abbrev pub unrestrained : ℕ → ℕ → ℕ → Bool
unrestrained r fundamental second = eqb r 0 || ltb (100 * second) (r * fundamental)

abbrev pub unrestrained_by : ℕ → List ℤ → Bool
unrestrained_by r w = unrestrained r (amplitude_of 1 w) (amplitude_of 2 w)

-- the over run's own level is the pickup, and "Changed levels carry r too, as part of the over run's own level" (Paper
-- 8)
abbrev pub same_pickup : ChannelLevels → ChannelLevels → Bool
same_pickup old new = eqb old.pickup new.pickup && eqb old.restraint new.restraint

-- the over run: frames with m ≥ pickup that are unrestrained; a voltage has none
abbrev pub over : Lengths → Kind
over lengths =
    record {
      len = lengths.over;
      meets = λ levels w.
          levels.current && (leb levels.pickup (amplitude_of 1 w) && unrestrained_by levels.restraint w);
      same = same_pickup;
    }
