use Rattle.std.proofs.Common.{◌≡◌, List, [], ◌∷◌, length, sym, ◌∙◌}
use Rattle.std.specs.Prelude.{IfNone, IfSome, OnErr, OnOk}
use Rattle.par_eval.specs.Dealers.{CollectsAt, FoundEmptyAt, FoundFullAt, LaneSeen, PostsAt, SendsEnds, TakesAt}
use Rattle.par_eval.proofs.SeatLists.{back, moved}
use Rattle.par_eval.proofs.seats.Seats.collect.Goals as goal

pub returns : goal.returns
returns g c =
    moved (λ a b. CollectsAt c.args.hand a b) c.as_mut_slice.result.now c.args.self.now c.collect.new.seats _ (c.as_mut_slice.ensures.value ∙ c.self.view_is)
    (sym (back c.self.inside.items.len c.collect.new.seats c.self.inside.items.items (c.collect.auto.seats ∙ c.as_mut_slice.ensures.len))) c.collect.ensures
