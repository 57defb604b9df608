use Rattle.tree_laws.proofs.Along.{called_after, called_tidy}
use Rattle.tree_laws.proofs.Cancels.{called_cancel}
use Rattle.tree_laws.proofs.Kept.{called_rises, events_stay}
use Rattle.tree_laws.proofs.Room.{called_room}
use Rattle.tree_laws.proofs.Said.{called_ends, called_said}
use Rattle.tree_laws.proofs.laws.what_is_noted.Goals as goal

pub returns : goal.returns
returns g c = record {
  tidy = λ a b Cs s h. called_tidy s h;
  shelf = λ a b Cs s e h. called_said s e h;
  exits = λ a b Cs s e h. called_ends s e h;
  rises = λ a b Cs s h. called_rises s h;
  stays = λ a b Cs h. ((called_after h).by, λ e m. events_stay h e m);
  cancels = λ a b Cs j T h m. called_cancel j T h m;
  room = λ a b Cs s l h. called_room s l h;
}
