-- One name for all that a computed call of this crate unfolds: `unfolding computed`. A new definition has its entry here alone.
use Rattle.frames.proofs.Computed as frames
use Rattle.cells.specs.Strongest.{squared, channel_codes, squares, window_sum, strongest_up_to, strongest_of}
use Rattle.cells.specs.Rolling.{square_at, rolled_on, carried_to}

unfoldable pub computed : Unit {0}
unfolding frames.computed squared channel_codes squares window_sum strongest_up_to strongest_of square_at rolled_on carried_to
computed = tt
