-- The runs of a frame's line, one by one.
use Rattle.std.proofs.Common.{◌≡◌, ℕ, ◌+◌, ◌<◌, ◌≤◌, List, ◌∷◌, ◌++◌, length, drop, map, get_or}
use Rattle.std.proofs.lemmas.List.{at_drop_more, at_drop_all}
use Rattle.text.specs.Text.{space, decimal, spaced}
use Rattle.relay.specs.declared.Channel.{Channel}

-- the run of a loop's channel stands before those of the channels behind it and before the other runs
pub runs_more : (run : Channel → ℕ) (channels : List Channel) (i : ℕ) (d : Channel) (others : List ℕ) →
    i < length channels →
    spaced (map run (drop i channels) ++ others)
    ≡ (space ∷ decimal (run (get_or channels i d))) ++ spaced (map run (drop (i + 1) channels) ++ others)
unfolding spaced
runs_more run channels i d others h = at_drop_more (λ cs. spaced (map run cs ++ others)) channels i d h

-- behind the last channel there are the other runs alone
pub runs_end : (run : Channel → ℕ) (channels : List Channel) (i : ℕ) (others : List ℕ) → length channels ≤ i →
    spaced (map run (drop i channels) ++ others) ≡ spaced others
runs_end run channels i others h = at_drop_all (λ cs. spaced (map run cs ++ others)) channels i h
