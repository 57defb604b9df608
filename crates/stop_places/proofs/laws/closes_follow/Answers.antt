use Rattle.stop_places.proofs.Order.{closes_follow}
use Rattle.stop_places.proofs.laws.closes_follow.Goals as goal

pub returns : goal.returns
returns c = λ L j k at. closes_follow L j k at
