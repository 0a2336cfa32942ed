-- Six windows at once, as the contracts of `amplitudes` and `seconds` name them.
-- Rests on Window and Cordic.
use Rattle.std.specs.Prelude.{ℕ, ◌+◌, ◌<◌, ◌≤◌, ◌≡◌, List, [], true, get_or, ℤ}
use Rattle.lists.specs.Each.{table}
use Rattle.phasor.specs.declared.Window.{Window}
use Rattle.phasor.specs.Cordic.{amplitude_of, most_amplitude}
use Rattle.phasor.specs.Window.{window_sound}

abbrev pub no_window : Window
no_window = record { samples = [] }

-- the window of channel c
abbrev pub channel_window : List Window → ℕ → List ℤ
channel_window ws c = (get_or ws c no_window).samples

-- that of current k, 0 to 2: channels 3, 4 and 5 are currents
abbrev pub current_window : List Window → ℕ → List ℤ
current_window ws k = channel_window ws (k + 3)

-- each of six windows is sound
abbrev pub WindowsSound : List Window → Type 0
WindowsSound ws = (c : ℕ) → c < 6 → window_sound (channel_window ws c) ≡ true

-- the amplitudes of six windows, and those of the second harmonic of the last three, the currents'
abbrev pub amplitudes_of : List Window → List ℕ
amplitudes_of ws = table 6 (λ c. amplitude_of 1 (channel_window ws c))

abbrev pub seconds_of : List Window → List ℕ
seconds_of ws = table 3 (λ k. amplitude_of 2 (current_window ws k))

-- an amplitude "is never above 10,700"
abbrev pub NeverAbove : List ℕ → Type 0
NeverAbove m = (c : ℕ) → c < 6 → get_or m c 0 ≤ most_amplitude 1
