-- `Channel::window_after` meets its contract. The invariant of its loop: the sample is stored once its slot is passed.
use Prim.Native.Nat.{ℕ, ◌≤◌}
use lib.Dec.{ltb}
use lib.IntN.{ℤ}
use lib.ListN.{set}
use mathlib.Core.Bool.{cond}
use mathlib.Core.List.{List}
use mathlib.Core.Path.{◌≡◌}
use Rattle.relay.proofs.Channel.window_after.Given as goal

pub record Storing (slot : ℕ) (s : ℤ) (old samples : List ℤ) (k : ℕ) : Type 0 where
  pub within : k ≤ 8
  pub stored : samples ≡ cond (ltb slot k) (set old slot s) old

abbrev pub invariant-loop-k : goal.invariant-loop-k
invariant-loop-k l = Storing l.slot l.s l.initial.samples l.samples l.k
