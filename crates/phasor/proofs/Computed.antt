-- One name for all that a computed call of this crate unfolds: `unfolding computed`. A new definition has its entry here alone.
use Rattle.lists.specs.Each.{every, table}
use Rattle.phasor.specs.Window.{window_sound}
use Rattle.phasor.specs.Fourier.{cosines, sines, sum_over, re, im}
use Rattle.phasor.specs.Cordic.{step_at, steps, start_of, last_x, scaled_of, amplitude_of}
use Rattle.phasor.specs.Exact.{exact_p, exact_q, AtLeast, AtMost}
use Rattle.phasor.specs.Estimate.{estimate_refusal, estimate_of}

unfoldable pub computed : Unit {0}
unfolding every table window_sound cosines sines sum_over re im step_at steps start_of last_x scaled_of amplitude_of exact_p exact_q
    AtLeast AtMost estimate_refusal estimate_of
computed = tt
