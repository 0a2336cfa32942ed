-- `Channel::fresh` meets its contract, by computation.
use Rattle.relay.specs.Channel.{fresh_channel}
use mathlib.Core.Path.{refl}
use Rattle.relay.proofs.Channel.fresh.Goals as goal

pub returns : goal.returns
unfolding fresh_channel
returns c = refl
