use Rattle.tree_laws.proofs.Guests.{guests_rest, splits_make_guests}
use Rattle.tree_laws.proofs.laws.guests_come_and_rest.Goals as goal

pub returns : goal.returns
returns g c = record { begins = splits_make_guests _; rests = guests_rest }
