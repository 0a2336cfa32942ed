-- The starred bench figures hold. Each was computed where its definition stands, so that an edit of the definition meets it there; here they are
-- gathered.
-- Rests on the figures of phasor and of the capture.
use Rattle.phasor.proofs.Figures.{figures as amplitudes}
use Rattle.capture.proofs.Figures.{figures as numbers}
use Rattle.figures.specs.Figures.{StarredFigures}

pub figures : StarredFigures
figures =
    record {
      zeros_m = amplitudes.m_zeros;
      hundreds_m = amplitudes.m_hundreds;
      wave_m = amplitudes.m_wave;
      slot_0 = (amplitudes.x_slot0, amplitudes.m_slot0);
      slot_1 = (amplitudes.x_slot1, amplitudes.m_slot1);
      one_byte = numbers.one_byte;
      two_bytes = numbers.two_bytes;
      not_shortest = numbers.not_shortest;
      up = numbers.up;
      down = numbers.down;
    }
