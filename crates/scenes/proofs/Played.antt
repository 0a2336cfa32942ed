-- The frames of a wave, one by one, and the steps of a scene.
use Rattle.std.proofs.Common.{arith, ◌≡◌, ℕ, suc, ◌+◌, ◌-◌, ◌<◌, ◌≤◌, ◌%◌, List, ◌∷◌, length, drop, replicate, get_or, refl, ap, ◌∙◌}
use Rattle.std.proofs.lemmas.List.{at_drop_more, at_drop_all}
use Rattle.relay.specs.declared.Levels.{Levels}
use Rattle.relay.specs.declared.Relay.{Relay}
use Rattle.relay.specs.Relay.{frame_of, change_of}
use Rattle.scenes.specs.declared.scene.Step.{Step}
use Rattle.scenes.specs.declared.scene.Step.TheVariants.{Feed, Change}
use Rattle.scenes.specs.Played.{fed, played}

-- before its first frame a wave has changed nothing
pub fed_none : (r : Relay) (wave : List ℕ) (first : ℕ) → fed r wave first (first - first) ≡ r
unfolding fed
fed_none r wave first = let e : first - first ≡ 0 = omega arith in rw e refl

-- frame n is fed to the relay that the frames before it leave
pub fed_more : (r : Relay) (wave : List ℕ) (first n : ℕ) → first ≤ n →
    fed r wave first (n + 1 - first)
    ≡ (frame_of (fed r wave first (n - first)) (replicate 6 (get_or wave (n % 8) 0)) 127).relay
unfolding fed
fed_more r wave first n h =
    let e : n + 1 - first ≡ suc (n - first) = omega arith in
    let f : first + (n - first) ≡ n = omega arith in
    let before = fed r wave first (n - first) in
    rw e (ap (λ k. (frame_of before (replicate 6 (get_or wave (k % 8) 0)) 127).relay) f)

-- what is left of the steps, where step i is a wave
pub played_feed : (r : Relay) (first : ℕ) (steps : List Step) (i : ℕ) (d : Step) (wave : List ℕ) (end : ℕ) →
    i < length steps → get_or steps i d ≡ Feed wave end →
    played r first (drop i steps) ≡ played (fed r wave first (end - first)) end (drop (i + 1) steps)
unfolding played
played_feed r first steps i d wave end h e =
    at_drop_more (played r first) steps i d h ∙ ap (λ s. played r first (s ∷ drop (i + 1) steps)) e

-- .. and where it is new levels
pub played_change : (r : Relay) (first : ℕ) (steps : List Step) (i : ℕ) (d : Step) (levels : Levels) →
    i < length steps → get_or steps i d ≡ Change levels →
    played r first (drop i steps) ≡ played (change_of r levels).relay first (drop (i + 1) steps)
unfolding played
played_change r first steps i d levels h e =
    at_drop_more (played r first) steps i d h ∙ ap (λ s. played r first (s ∷ drop (i + 1) steps)) e

-- behind the last step the relay is what it was
pub played_all : (r : Relay) (first : ℕ) (steps : List Step) (i : ℕ) → length steps ≤ i →
    played r first (drop i steps) ≡ r
unfolding played
played_all r first steps i h = at_drop_all (played r first) steps i h
