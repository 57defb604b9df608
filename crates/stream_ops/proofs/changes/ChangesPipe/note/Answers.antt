use Rattle.std.proofs.Common.{◌≡◌, ◌-◌, ◌<◌, ◌∙◌, ap, arith, length, drop, slice_get}
use Rattle.std.proofs.lemmas.Grind.{common_steps}
use Rattle.chunk_core.specs.Elements.{elements}
use Rattle.stream_ops.proofs.Differing.{last_is}
use Rattle.stream_ops.proofs.changes.ChangesPipe.note.Goals as goal

pub returns : goal.returns
returns c =
    let xs = elements c.args.load in
    let some : 0 < length xs = grind (arith, common_steps) in
    let rest : elements c.in_ok-load.load ≡ drop (length xs - 1) xs = c.in_ok-load.ensures ∙ (c.in_ok-split.ensures.rest ∙ ap (λ n. drop (n - 1) xs) c.len.ensures) in
    ap (λ l. slice_get l 0) rest ∙ last_is (slice_get (elements c.args.self.now.last) 0) xs some
