-- The relay after a list of calls: it is sound, and its levels, age, slot, memory and six channels are those that the calls tell.
-- One step for a call at the end, by cases on its refusal; then every list. Rests on Phase and on the laws of the relay's definitions.
use Prim.Native.Nat.{ℕ, zero, suc, ◌<◌}
use native.Mathlib.Decide.{ℕ_discrete}
use native.Mathlib.Omega.{arith}
use mathlib.Core.Path.{◌≡◌, refl, sym, ap, ap₂, ◌∙◌, subst}
use mathlib.Core.Bool.{Bool, true, false, ◌&&◌, cond}
use mathlib.Core.List.{List, [], ◌∷◌, ◌++◌, append-nil, append_assoc}
use lib.Dec.{leb}
use lib.ListN.{length, get_or, get_or-append}
use lib.Seq.{get_or-append_seam}
use borrow.Author.Tests.{ne_eqb}
use Rattle.relay.specs.declared.Lengths.{Lengths}
use Rattle.relay.specs.declared.Levels.{Levels}
use Rattle.relay.specs.declared.Settings.{Settings}
use Rattle.relay.specs.declared.Relay.{Relay}
use Rattle.frames.specs.Bits.{bit_of}
use Rattle.relay.specs.declared.ChannelLevels.{ChannelLevels}
use Rattle.relay.specs.Settings.{Kind, loss, over}
use Rattle.relay.specs.Sound.{sound_of}
use Rattle.relay.specs.Relay.{channel_at, unused_relay, fresh_relay, accepted_frame, accepted_reset, accepted_change}
use Rattle.relay.proofs.Changes.{change_sound}
use Rattle.relay.proofs.Laws.{fresh_is, fresh_sound, frame_sound, reset_sound}
use Rattle.history.specs.Calls.{Codes, Call, frame, reset, change, frame_refused_by, reset_refused_by, change_refused_by, refusal_of, is_accepted}
use Rattle.history.specs.Calls.{accepted_frames, device_bits, device_bit, in_force}
use Rattle.history.specs.Calls.{Implementation, the_relay, handed_back, after}
use Rattle.history.specs.History.{Input, Event, sampled, cleared, changed, input_of, own_levels, events_of, channel_history, frames, levels_at}
use Rattle.history.specs.Demand.{made_with, relay_after, AcceptedSettings}
use Rattle.history.proofs.Accepted.{frame_codes, frame_accepted, frame_refused, reset_accepted, reset_refused, settings_sound_lem}
use Rattle.history.proofs.Accepted.{change_refusal_lem, change_accepted, change_refused}
use Rattle.history.proofs.History.{◌▷◌, frames_sampled}
use Rattle.history.proofs.Clock.{clock_of, bit6_in}
use Rattle.history.proofs.Channel.{ChannelIs}
use Rattle.history.proofs.Phase.{Phase, phase_of, fresh_phase, played, played_in, played_append, played_is}
use Rattle.history.proofs.Phase.{fresh_phase_lem, frame_phase, reset_phase, change_phase}

-- ---- each channel's history of the calls

pub history_append : (c : ℕ) (calls more : List Call) → channel_history c (calls ++ more) ≡ channel_history c calls ++ channel_history c more
history_append c [] more = refl
history_append c (x ∷ calls) more =
    rw (history_append c calls more) (sym (append_assoc (events_of c x) (channel_history c calls) (channel_history c more)))

history_end : (c : ℕ) (calls : List Call) (call : Call) → channel_history c (calls ++ (call ∷ [])) ≡ channel_history c calls ++ events_of c call
history_end c calls call =
    history_append c calls (call ∷ []) ∙ ap (λ (es : List Event). channel_history c calls ++ es) (append-nil (events_of c call))

pub history_frame : (c : ℕ) (calls : List Call) (codes : Codes) (enable : ℕ) → frame_refused_by codes.list enable ≡ 0
    → channel_history c (calls ++ (frame codes enable ∷ [])) ≡ channel_history c calls ▷ sampled (input_of c codes.list enable)
history_frame c calls codes enable e = rw (history_end, e)

pub history_reset : (c : ℕ) (calls : List Call) (mask : ℕ) → reset_refused_by mask ≡ 0
    → channel_history c (calls ++ (reset mask ∷ [])) ≡ channel_history c calls ++ cond (bit_of mask c) (cleared ∷ []) []
history_reset c calls mask e = rw (history_end, e)

pub history_change : (c : ℕ) (calls : List Call) (new : Levels) → change_refused_by new ≡ 0
    → channel_history c (calls ++ (change new ∷ [])) ≡ channel_history c calls ▷ changed (own_levels new c)
history_change c calls new e = rw (history_end, e)

pub history_refused : (c : ℕ) (calls : List Call) (call : Call) → ¬ (refusal_of call ≡ 0)
    → channel_history c (calls ++ (call ∷ [])) ≡ channel_history c calls
history_refused c calls (frame codes enable) e =
    rw (history_end, ne_eqb (frame_refused_by codes.list enable) 0 e) (append-nil (channel_history c calls))
history_refused c calls (reset mask) e = rw (history_end, ne_eqb (reset_refused_by mask) 0 e) (append-nil (channel_history c calls))
history_refused c calls (change new) e = rw (history_end, ne_eqb (change_refused_by new) 0 e) (append-nil (channel_history c calls))

-- each channel's history has as many frames as were accepted
one_frame : (b : Bool) (i : Input) (es : List Event) → frames (cond b (sampled i ∷ []) [] ++ es) ≡ cond b (suc (frames es)) (frames es)
one_frame true i es = refl
one_frame false i es = refl

no_frame : (b : Bool) (es : List Event) → frames (cond b (cleared ∷ []) [] ++ es) ≡ frames es
no_frame true es = refl
no_frame false es = refl

no_frame_changed : (b : Bool) (new : ChannelLevels) (es : List Event) → frames (cond b (changed new ∷ []) [] ++ es) ≡ frames es
no_frame_changed true new es = refl
no_frame_changed false new es = refl

pub frames_same : (c : ℕ) (calls : List Call) → frames (channel_history c calls) ≡ accepted_frames calls
frames_same c [] = refl
frames_same c (frame codes enable ∷ calls) =
    rw (← frames_same c calls) (one_frame (is_accepted (frame codes enable)) (input_of c codes.list enable) (channel_history c calls))
frames_same c (reset mask ∷ calls) = no_frame (is_accepted (reset mask) && bit_of mask c) (channel_history c calls) ∙ frames_same c calls
frames_same c (change new ∷ calls) = no_frame_changed (is_accepted (change new)) (own_levels new c) (channel_history c calls) ∙ frames_same c calls

pub frames_frame : (calls : List Call) (codes : Codes) (enable : ℕ) → frame_refused_by codes.list enable ≡ 0
    → accepted_frames (calls ++ (frame codes enable ∷ [])) ≡ suc (accepted_frames calls)
frames_frame calls codes enable e =
    sym (frames_same 0 (calls ++ (frame codes enable ∷ []))) ∙ ap frames (history_frame 0 calls codes enable e)
    ∙ frames_sampled (channel_history 0 calls) (input_of 0 codes.list enable) ∙ ap suc (frames_same 0 calls)

-- and frame n has the same bit 6 in each
one_bit : (b : Bool) (i : Input) (bits : List Bool) (es : List Event) → ((n : ℕ) → get_or bits n false ≡ bit6_in es n)
    → (n : ℕ) → get_or (cond b (i.bit6 ∷ bits) bits) n false ≡ bit6_in (cond b (sampled i ∷ []) [] ++ es) n
one_bit true i bits es same zero = refl
one_bit true i bits es same (suc n) = same n
one_bit false i bits es same n = same n

no_bit : (b : Bool) (es : List Event) (n : ℕ) → bit6_in es n ≡ bit6_in (cond b (cleared ∷ []) [] ++ es) n
no_bit true es n = refl
no_bit false es n = refl

no_bit_changed : (b : Bool) (new : ChannelLevels) (es : List Event) (n : ℕ) → bit6_in es n ≡ bit6_in (cond b (changed new ∷ []) [] ++ es) n
no_bit_changed true new es n = refl
no_bit_changed false new es n = refl

pub device_same : (c : ℕ) (calls : List Call) (n : ℕ) → device_bit calls n ≡ bit6_in (channel_history c calls) n
device_same c [] n = refl
device_same c (frame codes enable ∷ calls) n =
    one_bit (is_accepted (frame codes enable)) (input_of c codes.list enable) (device_bits calls) (channel_history c calls) (device_same c calls) n
device_same c (reset mask ∷ calls) n =
    device_same c calls n ∙ no_bit (is_accepted (reset mask) && bit_of mask c) (channel_history c calls) n
device_same c (change new ∷ calls) n = device_same c calls n ∙ no_bit_changed (is_accepted (change new)) (own_levels new c) (channel_history c calls) n

-- bit 6 of each accepted frame after a frame more, and after a reset
length_bits : (calls : List Call) → length (device_bits calls) ≡ accepted_frames calls
length_bits [] = refl
length_bits (frame codes enable ∷ calls) = by (is_accepted (frame codes enable)) (length_bits calls)
  where
    by : (b : Bool) {n : ℕ} → length (device_bits calls) ≡ n
        → length (cond b (bit_of enable 6 ∷ device_bits calls) (device_bits calls)) ≡ cond b (suc n) n
    by true e = ap suc e
    by false e = e
length_bits (reset mask ∷ calls) = length_bits calls
length_bits (change new ∷ calls) = length_bits calls

bits_end : (calls : List Call) (call : Call) → device_bits (calls ++ (call ∷ [])) ≡ device_bits calls ++ device_bits (call ∷ [])
bits_end [] call = refl
bits_end (frame codes enable ∷ calls) call = rw (bits_end calls call) (by (is_accepted (frame codes enable)))
  where
    by : (b : Bool) → cond b (bit_of enable 6 ∷ (device_bits calls ++ device_bits (call ∷ []))) (device_bits calls ++ device_bits (call ∷ []))
        ≡ cond b (bit_of enable 6 ∷ device_bits calls) (device_bits calls) ++ device_bits (call ∷ [])
    by true = refl
    by false = refl
bits_end (reset mask ∷ calls) call = bits_end calls call
bits_end (change new ∷ calls) call = bits_end calls call

pub bits_reset : (calls : List Call) (mask : ℕ) → device_bits (calls ++ (reset mask ∷ [])) ≡ device_bits calls
bits_reset calls mask = bits_end calls (reset mask) ∙ append-nil (device_bits calls)

pub frames_reset : (calls : List Call) (mask : ℕ) → accepted_frames (calls ++ (reset mask ∷ [])) ≡ accepted_frames calls
frames_reset calls mask = sym (length_bits (calls ++ (reset mask ∷ []))) ∙ ap length (bits_reset calls mask) ∙ length_bits calls

module _ (calls : List Call) (codes : Codes) (enable : ℕ) (taken : frame_refused_by codes.list enable ≡ 0) where
  bits_frame : device_bits (calls ++ (frame codes enable ∷ [])) ≡ device_bits calls ++ (bit_of enable 6 ∷ [])
  bits_frame = bits_end calls (frame codes enable) ∙ rw taken

  pub bit_before : (k : ℕ) → k < accepted_frames calls → device_bit calls k ≡ device_bit (calls ++ (frame codes enable ∷ [])) k
  bit_before k l = sym (ap (λ (bits : List Bool). get_or bits k false) bits_frame
      ∙ get_or-append (device_bits calls) (bit_of enable 6 ∷ []) false k (rw length_bits l))

  pub bit_last : device_bit (calls ++ (frame codes enable ∷ [])) (accepted_frames calls) ≡ bit_of enable 6
  bit_last =
      ap₂ (λ (bits : List Bool) (k : ℕ). get_or bits k false) bits_frame (sym (length_bits calls))
      ∙ get_or-append_seam (device_bits calls) (bit_of enable 6) [] false

-- ---- levels

-- the levels in force after more calls
pub force_end : (made : Levels) (calls more : List Call) → in_force made (calls ++ more) ≡ in_force (in_force made calls) more
force_end made [] more = refl
force_end made (frame codes enable ∷ calls) more = force_end made calls more
force_end made (reset mask ∷ calls) more = force_end made calls more
force_end made (change new ∷ calls) more = force_end (cond (is_accepted (change new)) new made) calls more

pub force_refused : (made : Levels) (call : Call) → ¬ (refusal_of call ≡ 0) → in_force made (call ∷ []) ≡ made
force_refused made (frame codes enable) e = refl
force_refused made (reset mask) e = refl
force_refused made (change new) e = rw (ne_eqb (change_refused_by new) 0 e)

pub force_change : (made new : Levels) → change_refused_by new ≡ 0 → in_force made (change new ∷ []) ≡ new
force_change made new e = rw e

-- channel c's own of the levels in force are those that its history has at the end
pub own_in_force : (made : Levels) (c : ℕ) (calls : List Call)
    → levels_at (own_levels made c) (channel_history c calls) (frames (channel_history c calls)) ≡ own_levels (in_force made calls) c
own_in_force made c [] = refl
own_in_force made c (frame codes enable ∷ calls) = by (is_accepted (frame codes enable)) ∙ own_in_force made c calls
  where
    by : (b : Bool)
        → (let es : List Event = cond b (sampled (input_of c codes.list enable) ∷ []) [] ++ channel_history c calls in
        levels_at (own_levels made c) es (frames es) ≡ levels_at (own_levels made c) (channel_history c calls) (frames (channel_history c calls)))
    by true = refl
    by false = refl
own_in_force made c (reset mask ∷ calls) = by (is_accepted (reset mask) && bit_of mask c) ∙ own_in_force made c calls
  where
    by : (b : Bool)
        → (let es : List Event = cond b (cleared ∷ []) [] ++ channel_history c calls in
        levels_at (own_levels made c) es (frames es) ≡ levels_at (own_levels made c) (channel_history c calls) (frames (channel_history c calls)))
    by true = refl
    by false = refl
own_in_force made c (change new ∷ calls) = by (is_accepted (change new)) (own_in_force new c calls) (own_in_force made c calls)
  where
    by : (b : Bool)
        → levels_at (own_levels new c) (channel_history c calls) (frames (channel_history c calls)) ≡ own_levels (in_force new calls) c
        → levels_at (own_levels made c) (channel_history c calls) (frames (channel_history c calls)) ≡ own_levels (in_force made calls) c
        → (let es : List Event = cond b (changed (own_levels new c) ∷ []) [] ++ channel_history c calls in
        levels_at (own_levels made c) es (frames es) ≡ own_levels (in_force (cond b new made) calls) c)
    by true e f = e
    by false e f = f

-- whatever they are, they are those of a voltage or of a current by the channel's number
pub current_at : (c : ℕ) (calls : List Call) (made : ChannelLevels) → made.current ≡ leb 3 c → (n : ℕ)
    → (levels_at made (channel_history c calls) n).current ≡ leb 3 c
current_at c [] made e n = e
current_at c (frame codes enable ∷ calls) made e n = by (is_accepted (frame codes enable)) n (current_at c calls made e)
  where
    by : (b : Bool) (n : ℕ) → ((k : ℕ) → (levels_at made (channel_history c calls) k).current ≡ leb 3 c)
        → (levels_at made (cond b (sampled (input_of c codes.list enable) ∷ []) [] ++ channel_history c calls) n).current ≡ leb 3 c
    by true zero rest = e
    by true (suc n) rest = rest n
    by false n rest = rest n
current_at c (reset mask ∷ calls) made e n = by (is_accepted (reset mask) && bit_of mask c) (current_at c calls made e n)
  where
    by : (b : Bool) → (levels_at made (channel_history c calls) n).current ≡ leb 3 c
        → (levels_at made (cond b (cleared ∷ []) [] ++ channel_history c calls) n).current ≡ leb 3 c
    by true rest = rest
    by false rest = rest
current_at c (change new ∷ calls) made e n =
    by (is_accepted (change new)) (current_at c calls (own_levels new c) refl n) (current_at c calls made e n)
  where
    by : (b : Bool) → (levels_at (own_levels new c) (channel_history c calls) n).current ≡ leb 3 c
        → (levels_at made (channel_history c calls) n).current ≡ leb 3 c
        → (levels_at made (cond b (changed (own_levels new c) ∷ []) [] ++ channel_history c calls) n).current ≡ leb 3 c
    by true new_rest rest = new_rest
    by false new_rest rest = rest

-- ---- the relay

module _ (settings : Settings) where
  -- its kinds of run, and its settings under other levels: the lengths are those that it was made with
  abbrev loss_kind : Kind
  loss_kind = loss settings.lengths

  abbrev over_kind : Kind
  over_kind = over settings.lengths

  abbrev under : Levels → Settings
  under levels = record { levels = levels; lengths = settings.lengths }

  -- channel c of a fresh one, after a history of its own
  abbrev played_of : ℕ → List Event → Phase
  played_of c es = played loss_kind over_kind (fresh_phase (made_with settings c)) es

  pub record Is (calls : List Call) (r : Relay) : Type 0 where
    pub sound : sound_of r ≡ true
    pub phase : (c : ℕ) → c < 6 → phase_of r c ≡ played_of c (channel_history c calls)
    pub held : r.settings ≡ under (in_force settings.levels calls)

  -- and so channel c is as that history says, where the lengths are above 0
  pub channel_is : AcceptedSettings settings → (calls : List Call) (r : Relay) → Is calls r → (c : ℕ) → c < 6
      → ChannelIs loss_kind over_kind (made_with settings c) (channel_history c calls) (clock_of r) (channel_at r c)
  channel_is ok calls r v c h =
      subst (λ (p : Phase). ChannelIs loss_kind over_kind (made_with settings c) (channel_history c calls) p.clock p.channel) (sym (v.phase c h))
      (played_is loss_kind over_kind (omega (arith, ok.loss_length)) (omega (arith, ok.over_length)) (made_with settings c)
      (channel_history c calls)).channel

  fresh_is_so : AcceptedSettings settings → Is [] (fresh_relay settings)
  unfolding unused_relay
  fresh_is_so ok =
      record {
        sound = fresh_sound settings (settings_sound_lem settings ok);
        phase = fresh_phase_lem settings;
        held = refl;
      }

  -- an accepted call's part in channel c's history, played by the relay's own lengths
  on : (calls : List Call) (r : Relay) → Is calls r → (c : ℕ) → c < 6 → (es : List Event)
      → played_in r (phase_of r c) es ≡ played_of c (channel_history c calls ++ es)
  on calls r v c h es =
      ap₂ (λ (l : Lengths) (p : Phase). played (loss l) (over l) p es) (ap (λ (s : Settings). s.lengths) v.held) (v.phase c h)
      ∙ sym (played_append loss_kind over_kind (fresh_phase (made_with settings c)) (channel_history c calls) es)

  pub frame_is : (calls : List Call) (r : Relay) (codes : Codes) (enable : ℕ) → frame_refused_by codes.list enable ≡ 0 → Is calls r
      → Is (calls ++ (frame codes enable ∷ [])) (accepted_frame r codes.list enable).relay
  unfolding accepted_frame
  frame_is calls r codes enable e v =
      record {
        sound = frame_sound r codes.list enable v.sound (frame_codes codes.list enable e);
        phase = λ c h. rw (history_frame c calls codes enable e)
            (frame_phase r c h codes.list enable ∙ on calls r v c h (sampled (input_of c codes.list enable) ∷ []));
        held = v.held ∙ ap under (sym (force_end settings.levels calls (frame codes enable ∷ [])));
      }

  reset_is : (calls : List Call) (r : Relay) (mask : ℕ) → reset_refused_by mask ≡ 0 → Is calls r
      → Is (calls ++ (reset mask ∷ [])) (accepted_reset r mask).relay
  unfolding accepted_reset
  reset_is calls r mask e v =
      record {
        sound = reset_sound r mask v.sound;
        phase = λ c h. rw (history_reset c calls mask e)
            (reset_phase r c h mask ∙ on calls r v c h (cond (bit_of mask c) (cleared ∷ []) []));
        held = v.held ∙ ap under (sym (force_end settings.levels calls (reset mask ∷ [])));
      }

  change_is : (calls : List Call) (r : Relay) (new : Levels) → change_refused_by new ≡ 0 → Is calls r
      → Is (calls ++ (change new ∷ [])) (accepted_change r new).relay
  unfolding accepted_change
  change_is calls r new e v =
      record {
        sound = change_sound r new v.sound (change_refusal_lem new ∙ e);
        phase = λ c h. rw (history_change c calls new e) (change_phase r c h new ∙ on calls r v c h (changed (own_levels new c) ∷ []));
        held = ap₂ (λ (l : Levels) (n : Lengths). record { levels = l; lengths = n })
            (sym (force_end settings.levels calls (change new ∷ []) ∙ force_change (in_force settings.levels calls) new e))
            (ap (λ (s : Settings). s.lengths) v.held);
      }

  refused_is : (calls : List Call) (r : Relay) (call : Call) → ¬ (refusal_of call ≡ 0) → Is calls r → Is (calls ++ (call ∷ [])) r
  refused_is calls r call e v =
      record {
        sound = v.sound;
        phase = λ c h. rw (history_refused c calls call e) (v.phase c h);
        held = v.held ∙ ap under (sym (force_end settings.levels calls (call ∷ []) ∙ force_refused (in_force settings.levels calls) call e));
      }

  call_is : (calls : List Call) (r : Relay) (call : Call) → Dec (refusal_of call ≡ 0) → Is calls r
      → Is (calls ++ (call ∷ [])) (handed_back the_relay r call)
  call_is calls r (frame codes enable) (yes e) v =
      rw (handed_back, frame_accepted r codes.list enable v.sound e) (frame_is calls r codes enable e v)
  call_is calls r (frame codes enable) (no e) v = rw (handed_back, frame_refused r codes.list enable v.sound e) (refused_is calls r _ e v)
  call_is calls r (reset mask) (yes e) v = rw (handed_back, reset_accepted r mask v.sound e) (reset_is calls r mask e v)
  call_is calls r (reset mask) (no e) v = rw (handed_back, reset_refused r mask v.sound e) (refused_is calls r (reset mask) e v)
  call_is calls r (change new) (yes e) v = rw (handed_back, change_accepted r new v.sound e) (change_is calls r new e v)
  call_is calls r (change new) (no e) v = rw (handed_back, change_refused r new v.sound e) (refused_is calls r (change new) e v)

  -- a list of calls on from others
  from : (past calls : List Call) (r : Relay) → Is past r → Is (past ++ calls) (after the_relay r calls)
  from past [] r v = rw append-nil v
  from past (call ∷ calls) r v =
      rw (← append_assoc past (call ∷ []) calls)
      (from (past ++ (call ∷ [])) calls (handed_back the_relay r call) (call_is past r call (ℕ_discrete (refusal_of call) 0) v))

  pub relay_is : AcceptedSettings settings → (calls : List Call) → Is calls (relay_after the_relay settings calls)
  relay_is ok calls = rw (fresh_is settings (settings_sound_lem settings ok)) (from [] calls (fresh_relay settings) (fresh_is_so ok))

-- one call more
pub after_end : (d : Implementation) (r : Relay) (past : List Call) (call : Call)
    → after d r (past ++ (call ∷ [])) ≡ handed_back d (after d r past) call
after_end d r [] call = refl
after_end d r (x ∷ past) call = after_end d (handed_back d r x) past call
