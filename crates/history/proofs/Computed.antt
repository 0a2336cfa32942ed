-- One name for all that a computed call of the history unfolds: `unfolding computed`. A new definition has its entry here alone.
use Rattle.relay.proofs.Computed as relay
use Rattle.history.specs.Calls.{frame_refused_by, reset_refused_by, change_refused_by}
use Rattle.history.specs.History.{window_of}

unfoldable pub computed : Unit {0}
unfolding relay.computed frame_refused_by reset_refused_by change_refused_by window_of
computed = tt
