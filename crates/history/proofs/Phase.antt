-- What one channel goes by: the clock, its own levels and itself. Each event of its own history makes these anew and nothing else of the relay is
-- asked, so that after a list of calls they are a fold over that history (`played`). Demand 3 and Paper 14 (crate `one_phase`) rest on it. "Phase" is
-- Paper 14's word for a channel. Rests on Channel and on the laws of the relay's definitions.
use Prim.Native.Nat.{ℕ, ◌<◌}
use mathlib.Core.Path.{◌≡◌, refl, sym, ap, ◌∙◌}
use mathlib.Core.Bool.{Bool, true, false, ◌&&◌, cond}
use mathlib.Core.List.{List, [], ◌∷◌, ◌++◌, append-nil, append_assoc}
use Rattle.frames.specs.Bits.{bit_of}
use Rattle.relay.specs.declared.Channel.{Channel}
use Rattle.relay.specs.declared.ChannelLevels.{ChannelLevels}
use Rattle.relay.specs.declared.Levels.{Levels}
use Rattle.relay.specs.declared.Settings.{Settings}
use Rattle.relay.specs.declared.Relay.{Relay}
use Rattle.relay.specs.Settings.{Kind, levels_of, loss, over}
use Rattle.relay.specs.Channel.{fresh_channel, cleared_of, channel_after}
use Rattle.relay.specs.Relay.{channel_at, unused_relay, fresh_relay, next_channel, accepted_frame, reset_channel, accepted_reset}
use Rattle.relay.specs.Relay.{changed_channel, accepted_change}
use Rattle.relay.proofs.Changes.{change_channel}
use Rattle.relay.proofs.Laws.{fresh_channel_lem, frame_channel, reset_channel_lem}
use Rattle.history.specs.History.{Event, sampled, cleared, changed, input_of, own_levels, frames, levels_at}
use Rattle.history.proofs.History.{◌▷◌, frames_append, levels_end}
use Rattle.history.proofs.Clock.{Clock, clock_of, fresh_clock, counted_by, ticked}
use Rattle.history.proofs.Channel.{ChannelIs, channel_by, carried_by, channel_fresh, channel_cleared, channel_changed, channel_sampled}

pub record Phase : Type 0 where
  pub clock : Clock
  pub levels : ChannelLevels
  pub channel : Channel

abbrev pub phase_of : Relay → ℕ → Phase
phase_of r c = record { clock = clock_of r; levels = own_levels r.settings.levels c; channel = channel_at r c }

abbrev pub fresh_phase : ChannelLevels → Phase
fresh_phase made = record { clock = fresh_clock; levels = made; channel = fresh_channel }

module _ (loss_kind over_kind : Kind) where
  -- what an event makes of it, and a history
  abbrev pub step : Phase → Event → Phase
  step p (sampled i) =
      record {
        clock = ticked p.clock i.bit6;
        levels = p.levels;
        channel = channel_by loss_kind over_kind p.levels p.clock.slot (counted_by p.clock i.bit6) (i.channel_bit && i.bit6) i.sample
            p.channel;
      }
  step p cleared = record { clock = p.clock; levels = p.levels; channel = cleared_of p.channel }
  step p (changed new) = record { clock = p.clock; levels = new; channel = carried_by loss_kind over_kind p.levels new p.channel }

  abbrev pub played : Phase → List Event → Phase
  played p [] = p
  played p (e ∷ es) = played (step p e) es

  pub played_append : (p : Phase) (es fs : List Event) → played p (es ++ fs) ≡ played (played p es) fs
  played_append p [] fs = refl
  played_append p (e ∷ es) fs = played_append (step p e) es fs

  -- it is as the history says
  module _ (loss_some : 0 < loss_kind.len) (over_some : 0 < over_kind.len) (made : ChannelLevels) where
    pub record PhaseIs (es : List Event) (p : Phase) : Type 0 where
      pub channel : ChannelIs loss_kind over_kind made es p.clock p.channel
      pub levels : p.levels ≡ levels_at made es (frames es)

    -- the levels after one event more
    levels_after : (es : List Event) (e : Event)
        → levels_at made (es ▷ e) (frames (es ▷ e)) ≡ levels_at (levels_at made es (frames es)) (e ∷ []) (frames (e ∷ []))
    levels_after es e = levels_end made es (e ∷ []) (frames (e ∷ [])) (frames (es ▷ e)) (frames_append es (e ∷ []))

    step_is : (es : List Event) (p : Phase) → PhaseIs es p → (e : Event) → PhaseIs (es ▷ e) (step p e)
    step_is es p v (sampled i) =
        record {
          channel = channel_sampled loss_kind over_kind loss_some over_some made es p.clock p.channel v.channel p.levels v.levels i;
          levels = v.levels ∙ sym (levels_after es (sampled i));
        }
    step_is es p v cleared =
        record {
          channel = channel_cleared loss_kind over_kind loss_some over_some made es p.clock p.channel v.channel;
          levels = v.levels ∙ sym (levels_after es cleared);
        }
    step_is es p v (changed new) =
        record {
          channel = channel_changed loss_kind over_kind loss_some over_some made es p.clock p.channel v.channel p.levels new v.levels;
          levels = sym (levels_after es (changed new));
        }

    from : (past es : List Event) (p : Phase) → PhaseIs past p → PhaseIs (past ++ es) (played p es)
    from past [] p v = rw append-nil v
    from past (e ∷ es) p v = rw (← append_assoc past (e ∷ []) es) (from (past ▷ e) es (step p e) (step_is past p v e))

    pub played_is : (es : List Event) → PhaseIs es (played (fresh_phase made) es)
    played_is es =
        from [] es (fresh_phase made)
        (record { channel = channel_fresh loss_kind over_kind loss_some over_some made; levels = refl })

-- ---- a fresh relay

pub fresh_phase_lem : (s : Settings) (c : ℕ) → c < 6 → phase_of (fresh_relay s) c ≡ fresh_phase (own_levels s.levels c)
unfolding unused_relay
fresh_phase_lem s c h =
    ap (λ (ch : Channel). record { clock = fresh_clock; levels = own_levels s.levels c; channel = ch }) (fresh_channel_lem s c h)

-- ---- accepted calls, on any relay, sound or not

-- with the lengths that the relay has
abbrev pub played_in : Relay → Phase → List Event → Phase
played_in r = played (loss r.settings.lengths) (over r.settings.lengths)

module _ (r : Relay) (c : ℕ) (h : c < 6) where
  pub frame_phase : (codes : List ℕ) (enable : ℕ)
      → phase_of (accepted_frame r codes enable).relay c ≡ played_in r (phase_of r c) (sampled (input_of c codes enable) ∷ [])
  unfolding accepted_frame next_channel channel_after levels_of
  frame_phase codes enable =
      ap (λ (ch : Channel). record { clock = ticked (clock_of r) (bit_of enable 6); levels = own_levels r.settings.levels c; channel = ch })
      (frame_channel r codes enable c h)

  pub reset_phase : (mask : ℕ)
      → phase_of (accepted_reset r mask).relay c ≡ played_in r (phase_of r c) (cond (bit_of mask c) (cleared ∷ []) [])
  unfolding accepted_reset reset_channel
  reset_phase mask = ap with_channel (reset_channel_lem r mask c h) ∙ by (bit_of mask c)
    where
      with_channel : Channel → Phase
      with_channel ch = record { clock = clock_of r; levels = own_levels r.settings.levels c; channel = ch }

      by : (b : Bool) → with_channel (cond b (cleared_of (channel_at r c)) (channel_at r c)) ≡ played_in r (phase_of r c) (cond b (cleared ∷ []) [])
      by true = refl
      by false = refl

  pub change_phase : (new : Levels)
      → phase_of (accepted_change r new).relay c ≡ played_in r (phase_of r c) (changed (own_levels new c) ∷ [])
  unfolding accepted_change changed_channel levels_of
  change_phase new = ap (λ (ch : Channel). record { clock = clock_of r; levels = own_levels new c; channel = ch }) (change_channel r new c h)
