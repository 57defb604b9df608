use Rattle.std.proofs.Common.{◌-◌, ◌++◌, [], take, arith, ap, length, length-append, subst, sym}
use Rattle.cut_frames.specs.Frames.{IsWithin}
use Rattle.cut_frames.specs.Heads.{head_text}
use Rattle.cut_frames.proofs.Steps.{front_of, head_is_some, took_head}
use Rattle.cut_frames.proofs.step.step_between.Goals as goal

pub returns : goal.returns
returns c =
    let e = c.in-Some.ensures in
    let text = c.args.text.now in
    let rest = c.in-Some.rest.now in
    let head = head_text c.in-Some.stream c.in-Some.left in
    let size = ap (λ l. length l) e.2 in
    let some = head_is_some c.in-Some.stream c.in-Some.left e.0 in (
      omega (arith, size, some, length-append head rest),
      omega arith,
      λ front given b. subst (λ (g : _). IsWithin c.args.wanted c.in-Some.left g (front ++ take (length text - length rest) text) (given ++ [])) (sym c.is_asked_for-gives.ensures)
          (took_head c.args.wanted front given c.in-Some.stream c.in-Some.left e.0 e.1 _ (front_of text head rest e.2) b),
    )
