use Rattle.std.proofs.Common.{drop, refl, ap, ◌∙◌, subst}
use Rattle.cut_frames.specs.Taken.{IsTaken}
use Rattle.cut_frames.proofs.Turns.{rest_is}
use Rattle.cut_frames.proofs.cutter.Cutter.feed.Goals as goal

pub returns : goal.returns
returns c =
    let grown = c.in_ok-extend_from_slice.ensures.items in
    record {
      wanted = refl;
      taken = subst (λ text. IsTaken c.args.self.now.wanted c.args.self.now.place text c.in_ok-fed.fed c.in_ok-fed.place) (c.as_slice.ensures.value ∙ grown) c.in_ok-fed.ensures;
      held = c.in_ok-self.ensures.items ∙ (rest_is _ c.in_ok-fed.fed.taken ∙ ap (drop c.in_ok-fed.fed.taken) (c.deref.ensures.value ∙ grown));
    }
