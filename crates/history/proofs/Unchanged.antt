-- On a list that holds no change of levels the rule for a latch is document 01's own, with the levels that the relay was made with: its text from
-- before document 02, Paper 6, stands here again. So nothing of the base was lost. Rests on the definitions of the history.
use Prim.Native.Nat.{ℕ, zero, suc, ◌+◌, ◌≤◌}
use mathlib.Core.Path.{◌≡◌, refl, sym, ◌∙◌, subst}
use mathlib.Core.Logic.{◌↔◌}
use mathlib.Core.Bool.{Bool, true, false, ◌&&◌, cond, false≢true}
use mathlib.Core.List.{List, [], ◌∷◌, ◌++◌}
use lib.IntN.{ℤ}
use lib.Dec.{T}
use Rattle.frames.specs.Bits.{bit_of}
use Rattle.relay.specs.declared.ChannelLevels.{ChannelLevels}
use Rattle.relay.specs.Settings.{Kind}
use Rattle.history.specs.Calls.{Call, frame, reset, change, is_accepted}
use Rattle.history.specs.History.{Input, Event, sampled, cleared, input_of, channel_history, frames, resets, resets_before}
use Rattle.history.specs.History.{levels_at, changes_before, window_at, Counted, Enabled, InEach, InRun, FullRunMeeting, LatchOn}
use Rattle.history.specs.WrongRelays.{no_change}

-- in each frame the levels are those made with, and no change came before it
pub record NoneIn (kind : Kind) (made : ChannelLevels) (es : List Event) : Type 0 where
  pub levels : (n : ℕ) → levels_at made es n ≡ made
  pub changes : (n : ℕ) → changes_before kind made es n ≡ 0

module _ (kind : Kind) (made : ChannelLevels) where
  none_sampled : (b : Bool) (i : Input) (es : List Event) → NoneIn kind made es → NoneIn kind made (cond b (sampled i ∷ []) [] ++ es)
  none_sampled true i es v = record { levels = levels; changes = changes }
    where
      levels : (n : ℕ) → levels_at made (sampled i ∷ es) n ≡ made
      levels zero = refl
      levels (suc n) = v.levels n

      changes : (n : ℕ) → changes_before kind made (sampled i ∷ es) n ≡ 0
      changes zero = refl
      changes (suc n) = v.changes n
  none_sampled false i es v = v

  none_cleared : (b : Bool) (es : List Event) → NoneIn kind made es → NoneIn kind made (cond b (cleared ∷ []) [] ++ es)
  none_cleared true es v = record { levels = v.levels; changes = v.changes }
  none_cleared false es v = v

  pub none_in : (c : ℕ) (calls : List Call) → no_change calls ≡ true → NoneIn kind made (channel_history c calls)
  none_in c [] e = record { levels = λ n. refl; changes = λ n. refl }
  none_in c (frame codes enable ∷ calls) e =
      none_sampled (is_accepted (frame codes enable)) (input_of c codes.list enable) (channel_history c calls) (none_in c calls e)
  none_in c (reset mask ∷ calls) e = none_cleared (is_accepted (reset mask) && bit_of mask c) (channel_history c calls) (none_in c calls e)
  none_in c (change new ∷ calls) e = absurd (false≢true e)

-- ---- document 01's rule

module _ (len : ℕ) (meets : List ℤ → Bool) (es : List Event) where
  pub record PlainInRun (j n : ℕ) : Type 0 where
    pub counted : Counted es n
    pub enabled : Enabled es n
    pub not_separated : resets_before es n ≡ resets_before es j

  -- "A full run is 16 (loss) or 4 (over) successive counted frames with the channel enabled, none separated by an accepted reset naming it." It
  -- "meets its level", and it "lies wholly after the last accepted reset naming the channel, or after the start if there is none".
  pub record PlainRunMeeting (j : ℕ) : Type 0 where
    pub within : j + len ≤ frames es
    pub each : InEach j len (PlainInRun j)
    pub meeting : InEach j len (λ n. T (meets (window_at es n)))
    pub after_last_reset : resets_before es j ≡ resets es

  abbrev pub PlainLatchOn : Type 0
  PlainLatchOn = (j : ℕ) × PlainRunMeeting j

pub plain_rule : (kind : Kind) (made : ChannelLevels) (c : ℕ) (calls : List Call) → no_change calls ≡ true
    → LatchOn kind made (channel_history c calls) ↔ PlainLatchOn kind.len (kind.meets made) (channel_history c calls)
plain_rule kind made c calls e = (λ l. (l.0, to l.0 l.1), λ l. (l.0, from l.0 l.1))
  where
    es : List Event
    es = channel_history c calls

    none : NoneIn kind made (channel_history c calls)
    none = none_in kind made c calls e

    to : (j : ℕ) → FullRunMeeting kind made (channel_history c calls) j → PlainRunMeeting kind.len (kind.meets made) (channel_history c calls) j
    to j m =
        record {
          within = m.run.within;
          each = λ n a b.
              let r : InRun kind made es j n = m.run.each n a b in
              record { counted = r.counted; enabled = r.enabled; not_separated = r.not_separated };
          meeting = λ n a b. subst (λ (l : ChannelLevels). T (kind.meets l (window_at es n))) (none.levels n) (m.meets n a b);
          after_last_reset = m.after_last_reset;
        }

    from : (j : ℕ) → PlainRunMeeting kind.len (kind.meets made) (channel_history c calls) j → FullRunMeeting kind made (channel_history c calls) j
    from j m =
        record {
          run = record {
            within = m.within;
            each = λ n a b.
                let r : PlainInRun kind.len (kind.meets made) es j n = m.each n a b in
                record {
                  counted = r.counted;
                  enabled = r.enabled;
                  not_separated = r.not_separated;
                  not_changed = none.changes n ∙ sym (none.changes j);
                };
          };
          meets = λ n a b. subst (λ (l : ChannelLevels). T (kind.meets l (window_at es n))) (sym (none.levels n)) (m.meeting n a b);
          after_last_reset = m.after_last_reset;
        }
