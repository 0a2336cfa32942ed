-- Each return is a case of Outcome.
use Rattle.generator.proofs.Outcome.{generate_cases}
use Rattle.generator.proofs.generate.Goals as goal

pub returns-then-all_even : goal.returns-then-all_even
returns-then-all_even c = search generate_cases

pub returns-then-n-gt-MOST_FRAMES : goal.returns-then-n-gt-MOST_FRAMES
returns-then-n-gt-MOST_FRAMES c = search generate_cases

pub returns-then-cells-n : goal.returns-then-cells-n
returns-then-cells-n c = search generate_cases

pub returns : goal.returns
returns c = search generate_cases
