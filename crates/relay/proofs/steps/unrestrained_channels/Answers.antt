-- `unrestrained_channels` meets its contract: all are unrestrained where no restraint is on; otherwise a loop over the currents.
use Prim.Native.Nat.{ℕ, ◌+◌, ◌-◌, ◌<◌, ◌≤◌}
use Rattle.lists.specs.Each.{table}
use Rattle.lists.proofs.Each.{get_d_table}
use Rattle.phasor.specs.Cordic.{amplitude_of}
use Rattle.phasor.specs.Lanes.{channel_window, current_window, amplitudes_of, seconds_of}
use Rattle.phasor.specs.declared.Window.{Window}
use Rattle.relay.specs.Settings.{levels_of, unrestrained}
use Rattle.relay.specs.Internal.{unrestrained_at, unrestrained_in}
use Rattle.relay.specs.declared.Settings.{Settings}
use Rattle.std.specs.Cmp.Lexicographic.{same_text}
use lib.Pointwise.{pointwise}
use borrow.Author.Tests.{le-leb, lt-leb}
use lib.Dec.{eqb}
use lib.ListN.{get_or}
use mathlib.Core.Bool.{Bool, true}
use mathlib.Core.List.{List, [], ◌∷◌}
use mathlib.Core.Path.{◌≡◌, ap, ◌∙◌}
use native.Mathlib.Omega.{arith}
use Rattle.std.proofs.Common.{rules}
use Rattle.lists.proofs.Made.{made_table}
use Rattle.relay.proofs.steps.unrestrained_channels.Goals as goal

-- no restraint is on
off : (settings : Settings) (windows : List Window) → true ≡ pointwise eqb settings.levels.restraint (0 ∷ 0 ∷ 0 ∷ [])
    → ◌≡◌ {A = List Bool} (true ∷ true ∷ true ∷ true ∷ true ∷ true ∷ []) (unrestrained_in settings windows)
unfolding unrestrained_in unrestrained_at levels_of table
off settings windows h = rw (same_text settings.levels.restraint (0 ∷ 0 ∷ 0 ∷ []) h)

-- each number is that of the channel's window; a voltage has no restraint
module _ (settings : Settings) (windows : List Window) (amplitudes seconds : List ℕ) (e : amplitudes ≡ amplitudes_of windows)
    (f : seconds ≡ seconds_of windows) where
  voltage : (c : ℕ) (v : Bool) → c < 3 → v ≡ true → v ≡ unrestrained_at settings windows c
  unfolding unrestrained_at levels_of
  voltage c v h q = rw (lt-leb 3 c h) q

  current : (c : ℕ) (v : Bool) → 3 ≤ c → c < 6
      → v ≡ unrestrained (get_or settings.levels.restraint (c - 3) 0) (get_or amplitudes c 0) (get_or seconds (c - 3) 0)
      → v ≡ unrestrained_at settings windows c
  unfolding unrestrained_at levels_of
  current c v l h q = rw (q, le-leb 3 c l, first, second)
    where
      first : get_or amplitudes c 0 ≡ amplitude_of 1 (channel_window windows c)
      first = rw e (get_d_table 6 (λ k. amplitude_of 1 (channel_window windows k)) 0 c h)

      second : get_or seconds (c - 3) 0 ≡ amplitude_of 2 (channel_window windows c)
      second =
          rw f (get_d_table 3 (λ k. amplitude_of 2 (current_window windows k)) 0 (c - 3) (omega arith))
          ∙ ap (λ (k : ℕ). amplitude_of 2 (channel_window windows k)) (let q : c - 3 + 3 ≡ c = omega arith in q)

pub returns-then-eq : goal.returns-then-eq
returns-then-eq c = search (off, c.if-eq.ensures)

pub returns : goal.returns
unfolding unrestrained_in
returns c = made_table _ (unrestrained_at c.args.settings c.args.windows) _ 6 (λ i y q l k. search (rules, voltage, current)) _ c.from_fn.ensures.items
