use Rattle.std.proofs.Common.{[], ◌∷◌, inr}
use Rattle.chunk_core.specs.Lists.IsAmong.{here}
use Rattle.tree_scripts.proofs.Endings.{reopened, three_number, two_free, two_opened, two_room, two_root}
use Rattle.tree_scripts.proofs.ThreeRows.{three_open}
use Rattle.tree_scripts.proofs.scripts.close_and_open.Goals as goal

pub close-requires-clause-scope : goal.close-requires-clause-scope
close-requires-clause-scope g c = three_open c.requires.three.3 1 (inr (0, here ((2, 1) ∷ [])))

pub open-requires-clause-root : goal.open-requires-clause-root
open-requires-clause-root g c = two_root c.requires.three.3 c.close.ensures.closes

pub open-requires-clause-at : goal.open-requires-clause-at
open-requires-clause-at g c = two_opened c.requires.three.3 c.close.ensures.closes

pub open-requires-clause-room : goal.open-requires-clause-room
open-requires-clause-room g c = two_room c.requires.three.3 c.close.ensures.closes c.close.ensures.closes.scopes

pub open-requires-clause-free : goal.open-requires-clause-free
open-requires-clause-free g c = two_free c.requires.three.3 c.close.ensures.closes

pub returns-clause-number : goal.returns-clause-number
returns-clause-number g c = three_number c.requires.three.3 c.close.ensures.closes c.open.ensures.opens

pub returns-clause-reopened : goal.returns-clause-reopened
returns-clause-reopened g c = reopened c.requires.three.3 c.close.ensures.closes c.open.ensures.opens
