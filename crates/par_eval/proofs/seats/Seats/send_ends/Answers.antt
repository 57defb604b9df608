use Rattle.std.proofs.Common.{◌≡◌, List, [], ◌∷◌, length, sym, ◌∙◌}
use Rattle.std.specs.Prelude.{IfNone, IfSome, OnErr, OnOk}
use Rattle.par_eval.specs.Dealers.{CollectsAt, FoundEmptyAt, FoundFullAt, LaneSeen, PostsAt, SendsEnds, TakesAt}
use Rattle.par_eval.proofs.SeatLists.{back, moved}
use Rattle.par_eval.proofs.seats.Seats.send_ends.Goals as goal

pub returns-clause-sends : goal.returns-clause-sends
returns-clause-sends g c =
    moved (λ a b. SendsEnds c.args.from c.send_ends.result.0 a b) c.as_mut_slice.result.now c.args.self.now c.send_ends.new.seats _ (c.as_mut_slice.ensures.value ∙ c.self.view_is)
    (sym (back c.self.inside.items.len c.send_ends.new.seats c.self.inside.items.items (c.send_ends.auto.seats ∙ c.as_mut_slice.ensures.len))) c.send_ends.ensures.sends

pub returns-clause-full : goal.returns-clause-full
returns-clause-full g c =
    moved (λ a b. OnErr c.send_ends.result.1 (FoundFullAt g.A.May.may a c.send_ends.result.0)) c.as_mut_slice.result.now c.args.self.now c.send_ends.new.seats _ (c.as_mut_slice.ensures.value ∙ c.self.view_is)
    (sym (back c.self.inside.items.len c.send_ends.new.seats c.self.inside.items.items (c.send_ends.auto.seats ∙ c.as_mut_slice.ensures.len))) c.send_ends.ensures.full
