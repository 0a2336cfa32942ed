-- Where a latch goes on in a frame, a full run ends there, in any implementation that meets demand 3: its frames are counted and enabled. So none
-- that grows a run over a disabled frame meets it. Rests on Laws.
use Prim.Native.Nat.{ℕ, suc, ◌+◌, ◌≤◌, ◌<◌}
use native.Mathlib.Omega.{arith}
use mathlib.Core.Path.{◌≡◌, refl, sym, ap, ◌∙◌, subst}
use mathlib.Core.Bool.{◌&&◌}
use mathlib.Core.List.{List}
use lib.Dec.{T, leb→le}
use mir.Facts.{and_yes}
use Rattle.frames.specs.Bits.{bit_of}
use Rattle.relay.specs.declared.Settings.{Settings}
use Rattle.history.specs.Calls.{Call, Implementation}
use Rattle.history.specs.History.{Input, Event, input_of, channel_history, frames, input_at, levels_at, FullRun}
use Rattle.history.specs.Demand.{made_with, OverOn, over_after, AcceptedSettings, Demanded}
use Rattle.history.specs.WrongRelays.{Latch, the_loss_latch, the_over_latch, latch_after, length_of, kind_of, GoesOn, number_of, calls_of, full_length, made_in, events}
use Rattle.history.proofs.History.{input_last}
use Rattle.history.proofs.Laws.{relay_says, loss_near, over_near}
use Rattle.history.proofs.Relay.{history_frame, frames_frame, frames_same, current_at}

module _ (d : Implementation) (meets : Demanded d) where
  -- a voltage's over latch is never on
  is_current_lem : (settings : Settings) → AcceptedSettings settings → (calls : List Call) (c : ℕ) → c < 6 → T (over_after d settings calls c) → 3 ≤ c
  is_current_lem settings ok calls c h t =
      let on : OverOn settings c calls = ((relay_says d meets settings ok calls).over_latch c h).0 t in
      leb→le 3 c (subst T (current_at c calls (made_with settings c) refl on.0)
      (and_yes (levels_at (made_with settings c) (channel_history c calls) on.0).current _ (on.1.meets on.0 (omega arith) (omega (arith, ok.over_length)))).0)

  module _ (g : GoesOn d) where
    pub frames_are : frames (events g) ≡ suc (number_of g)
    frames_are = frames_same g.channel (calls_of g) ∙ frames_frame g.past g.codes g.enable g.taken

    abbrev Ends : Latch → Type 0
    Ends latch =
        let len : ℕ = length_of latch g.settings.lengths in
        (j : ℕ) × (j + len ≡ frames (events g)) × FullRun (kind_of latch g.settings.lengths) (made_in g) (events g) len j

    pub run_ends : Ends g.latch
    run_ends = by g.latch g.was g.now
      where
        by : (latch : Latch) → ¬ T (latch_after d latch g.settings g.past g.channel)
            → T (latch_after d latch g.settings (calls_of g) g.channel) → Ends latch
        by the_loss_latch was now =
            let run = loss_near d meets g.settings g.accepted g.past g.codes g.enable g.taken g.channel g.is_channel was now in
            (run.0, run.1, run.2)
        by the_over_latch was now =
            let run = over_near d meets g.settings g.accepted g.past g.codes g.enable g.taken g.channel
            (is_current_lem g.settings g.accepted (calls_of g) g.channel g.is_channel now) g.is_channel was now in
            (run.0, run.1, run.2)

    pub some : 0 < full_length g
    some = by g.latch
      where
        by : (latch : Latch) → 0 < length_of latch g.settings.lengths
        by the_loss_latch = omega (arith, g.accepted.loss_length)
        by the_over_latch = omega (arith, g.accepted.over_length)

    pub grows_disabled_lem : T (bit_of g.enable g.channel && bit_of g.enable 6)
    grows_disabled_lem =
        subst (λ (i : Input). T (i.channel_bit && i.bit6)) last
        (run_ends.2.each (number_of g) (omega (arith, run_ends.1, frames_are, some)) (omega (arith, run_ends.1, frames_are))).enabled
      where
        last : input_at (events g) (number_of g) ≡ input_of g.channel g.codes.list g.enable
        last =
            ap (input_at (events g)) (sym (frames_same g.channel g.past))
            ∙ ap (λ (es : List Event). input_at es (frames (channel_history g.channel g.past)))
            (history_frame g.channel g.past g.codes g.enable g.taken)
            ∙ input_last (channel_history g.channel g.past) (input_of g.channel g.codes.list g.enable)
