use Rattle.std.proofs.Common.{◌≡◌, List, [], ◌∷◌, length, sym, ◌∙◌}
use Rattle.std.specs.Prelude.{IfNone, IfSome, OnErr, OnOk}
use Rattle.par_eval.specs.Dealers.{CollectsAt, FoundEmptyAt, FoundFullAt, LaneSeen, PostsAt, SendsEnds, TakesAt}
use Rattle.par_eval.proofs.SeatLists.{back, moved}
use Rattle.par_eval.proofs.seats.Seats.take.Goals as goal

pub returns-clause-some : goal.returns-clause-some
returns-clause-some g c =
    moved (λ a b. IfSome c.take.result (λ w. TakesAt (w ∷ []) c.args.number a b)) c.as_mut_slice.result.now c.args.self.now c.take.new.seats _ (c.as_mut_slice.ensures.value ∙ c.self.view_is)
    (sym (back c.self.inside.items.len c.take.new.seats c.self.inside.items.items (c.take.auto.seats ∙ c.as_mut_slice.ensures.len))) c.take.ensures.some

pub returns-clause-none : goal.returns-clause-none
returns-clause-none g c =
    moved (λ a b. IfNone c.take.result (TakesAt [] c.args.number a b)) c.as_mut_slice.result.now c.args.self.now c.take.new.seats _ (c.as_mut_slice.ensures.value ∙ c.self.view_is)
    (sym (back c.self.inside.items.len c.take.new.seats c.self.inside.items.items (c.take.auto.seats ∙ c.as_mut_slice.ensures.len))) c.take.ensures.none

pub returns-clause-empty : goal.returns-clause-empty
returns-clause-empty g c =
    moved (λ a b. IfNone c.take.result (FoundEmptyAt g.A.May.may b c.args.number)) c.as_mut_slice.result.now c.args.self.now c.take.new.seats _ (c.as_mut_slice.ensures.value ∙ c.self.view_is)
    (sym (back c.self.inside.items.len c.take.new.seats c.self.inside.items.items (c.take.auto.seats ∙ c.as_mut_slice.ensures.len))) c.take.ensures.empty
