-- What is still to be printed: whoever appends that has appended the whole text.
use Rattle.std.proofs.Common.{ℕ, List, [], ◌++◌}
use Rattle.std.specs.Prelude.{Option}
use Rattle.std.specs.Io.KnownBytes.{Appends}
use Rattle.std.proofs.KnownBytes.{Appends-nil, Appends-trans}

-- since the writer held `old`, all of the whole text but the rest was printed, and it holds `now`
abbrev pub Leaves : Option (List ℕ) → Option (List ℕ) → List ℕ → List ℕ → Type 0
Leaves old now rest whole = (end : Option (List ℕ)) → Appends now end rest → Appends old end whole

-- at first nothing was printed
pub leaves_all : (old : Option (List ℕ)) (whole : List ℕ) → Leaves old old whole whole
leaves_all old whole end p = p

-- the front of the rest is printed
pub leaves_rest : (old now next : Option (List ℕ)) (front rest whole : List ℕ) →
    Leaves old now (front ++ rest) whole → Appends now next front → Leaves old next rest whole
leaves_rest old now next front rest whole left p end q = left end (Appends-trans now next end front rest p q)

-- no rest is left
pub leaves_none : (old now : Option (List ℕ)) (whole : List ℕ) → Leaves old now [] whole → Appends old now whole
leaves_none old now whole left = left now (Appends-nil now)

-- three texts, one behind the other
pub three_printed : (old a b new : Option (List ℕ)) (xs ys zs : List ℕ) →
    Appends old a xs → Appends a b ys → Appends b new zs → Appends old new (xs ++ (ys ++ zs))
three_printed old a b new xs ys zs p q r = Appends-trans old a new xs (ys ++ zs) p (Appends-trans a b new ys zs q r)
