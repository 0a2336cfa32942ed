-- `Relay::frame` meets its contract, accepted or refused.
use Prim.Native.Nat.{ℕ}
use Rattle.refusals.specs.declared.Refusal.{Refusal}
use Rattle.refusals.specs.Refusals.{number_of}
use Rattle.relay.specs.Relay.{accepted_frame, refused_frame, frame_refusal, frame_of}
use Rattle.relay.specs.declared.FrameAnswer.{FrameAnswer}
use Rattle.relay.specs.declared.Relay.{Relay}
use Rattle.refusals.proofs.Exits.{not_accepted}
use mathlib.Core.List.{List}
use mathlib.Core.Path.{◌≡◌}
use Rattle.relay.proofs.Relay.frame.Goals as goal

module _ (r : Relay) (codes : List ℕ) (enable : ℕ) (a : FrameAnswer) where
  accepted : 0 ≡ frame_refusal r codes enable → a ≡ accepted_frame r codes enable → a ≡ frame_of r codes enable
  unfolding frame_of
  accepted q p = rw (p, ← q)

  refused : (refusal : Refusal) → number_of refusal ≡ frame_refusal r codes enable
      → a ≡ refused_frame r (number_of refusal) → a ≡ frame_of r codes enable
  unfolding frame_of
  refused refusal q p = rw (p, ← q, not_accepted refusal)

pub returns-in-Ok : goal.returns-in-Ok
returns-in-Ok c = search (accepted, c.in-Ok.ensures)

pub returns-in-Err : goal.returns-in-Err
returns-in-Err c = search (refused, c.in-Err.ensures)
