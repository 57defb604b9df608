use Rattle.std.proofs.Common.{◌≡◌, List, [], ◌∷◌, length, sym, ◌∙◌}
use Rattle.std.specs.Prelude.{IfNone, IfSome, OnErr, OnOk}
use Rattle.par_eval.specs.Dealers.{CollectsAt, FoundEmptyAt, FoundFullAt, LaneSeen, PostsAt, SendsEnds, TakesAt}
use Rattle.par_eval.proofs.SeatLists.{back, moved}
use Rattle.par_eval.proofs.seats.Seats.post.Goals as goal

pub returns-clause-sent : goal.returns-clause-sent
returns-clause-sent g c =
    moved (λ a b. OnOk c.post.result (PostsAt c.args.body c.args.number a b)) c.as_mut_slice.result.now c.args.self.now c.post.new.seats _ (c.as_mut_slice.ensures.value ∙ c.self.view_is)
    (sym (back c.self.inside.items.len c.post.new.seats c.self.inside.items.items (c.post.auto.seats ∙ c.as_mut_slice.ensures.len))) c.post.ensures.sent

pub returns-clause-unsent : goal.returns-clause-unsent
returns-clause-unsent g c =
    moved (λ a b. OnErr c.post.result (b ≡ a)) c.as_mut_slice.result.now c.args.self.now c.post.new.seats _ (c.as_mut_slice.ensures.value ∙ c.self.view_is)
    (sym (back c.self.inside.items.len c.post.new.seats c.self.inside.items.items (c.post.auto.seats ∙ c.as_mut_slice.ensures.len))) c.post.ensures.unsent

pub returns-clause-full : goal.returns-clause-full
returns-clause-full g c =
    moved (λ a b. OnErr c.post.result (FoundFullAt g.A.May.may a c.args.number)) c.as_mut_slice.result.now c.args.self.now c.post.new.seats _ (c.as_mut_slice.ensures.value ∙ c.self.view_is)
    (sym (back c.self.inside.items.len c.post.new.seats c.self.inside.items.items (c.post.auto.seats ∙ c.as_mut_slice.ensures.len))) c.post.ensures.full
