-- The lines of a wave's frames, one by one, and those of a scene's steps.
use Rattle.std.proofs.Common.{arith, ◌≡◌, ℕ, suc, ◌+◌, ◌-◌, ◌<◌, ◌≤◌, List, [], ◌∷◌, ◌++◌}
use Rattle.std.proofs.Common.{length, drop, get_or, refl, ap, ◌∙◌}
use Rattle.std.proofs.lemmas.List.{at_drop_more, at_drop_all}
use Rattle.relay.specs.declared.Levels.{Levels}
use Rattle.relay.specs.declared.Relay.{Relay}
use Rattle.relay.specs.Relay.{change_of}
use Rattle.scenes.specs.declared.scene.Step.{Step}
use Rattle.scenes.specs.declared.scene.Step.TheVariants.{Feed, Change}
use Rattle.scenes.specs.Lines.{change_line}
use Rattle.scenes.specs.Played.{fed}
use Rattle.scenes.specs.PlayedText.{fed_line, fed_text, steps_text}

-- before its first frame a wave has no line
pub text_none : (r : Relay) (wave : List ℕ) (first : ℕ) → fed_text r wave first (first - first) ≡ []
unfolding fed_text
text_none r wave first = let e : first - first ≡ 0 = omega arith in rw e refl

-- frame n's line is behind those of the frames before it
pub text_more : (r : Relay) (wave : List ℕ) (first n : ℕ) → first ≤ n →
    fed_text r wave first (n + 1 - first)
    ≡ fed_text r wave first (n - first) ++ fed_line (fed r wave first (n - first)) wave n
unfolding fed_text
text_more r wave first n h =
    let e : n + 1 - first ≡ suc (n - first) = omega arith in
    let f : first + (n - first) ≡ n = omega arith in
    let before = fed r wave first (n - first) in
    rw e (ap (λ k. fed_text r wave first (n - first) ++ fed_line before wave k) f)

-- what is left of the steps, where step i is a wave
pub text_feed : (r : Relay) (first : ℕ) (steps : List Step) (i : ℕ) (d : Step) (wave : List ℕ) (end : ℕ) →
    i < length steps → get_or steps i d ≡ Feed wave end →
    steps_text r first (drop i steps)
    ≡ fed_text r wave first (end - first) ++ steps_text (fed r wave first (end - first)) end (drop (i + 1) steps)
unfolding steps_text
text_feed r first steps i d wave end h e =
    at_drop_more (steps_text r first) steps i d h ∙ ap (λ s. steps_text r first (s ∷ drop (i + 1) steps)) e

-- .. and where it is new levels
pub text_change : (r : Relay) (first : ℕ) (steps : List Step) (i : ℕ) (d : Step) (levels : Levels) →
    i < length steps → get_or steps i d ≡ Change levels →
    steps_text r first (drop i steps)
    ≡ change_line (change_of r levels).refusal ++ steps_text (change_of r levels).relay first (drop (i + 1) steps)
unfolding steps_text
text_change r first steps i d levels h e =
    at_drop_more (steps_text r first) steps i d h ∙ ap (λ s. steps_text r first (s ∷ drop (i + 1) steps)) e

-- behind the last step nothing is printed
pub text_end : (r : Relay) (first : ℕ) (steps : List Step) (i : ℕ) → length steps ≤ i →
    steps_text r first (drop i steps) ≡ []
unfolding steps_text
text_end r first steps i h = at_drop_all (steps_text r first) steps i h
