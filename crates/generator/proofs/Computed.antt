-- One name for all that a computed call of this crate unfolds: `unfolding computed`. A new definition has its entry here alone.
use Rattle.frames.proofs.Computed as frames
use Rattle.lists.specs.Each.{every, table}
use Rattle.generator.specs.Generator.{places_back, next_number, given_and_made, codes_made, frames_made, all_are_even, generate_of}

unfoldable pub computed : Unit {0}
unfolding frames.computed every table places_back next_number given_and_made codes_made frames_made all_are_even generate_of
computed = tt
