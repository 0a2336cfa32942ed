-- `refused_frame` meets its contract, by computation.
use Rattle.relay.specs.Relay.{refused_frame}
use Rattle.relay.proofs.refused_frame.Goals as goal

pub returns : goal.returns
unfolding refused_frame
returns c = rw c.into.ensures
