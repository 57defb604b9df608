use Rattle.std.proofs.Common.{◌++◌, ◌∙◌, ap, sym, append_assoc}
use Rattle.std.specs.Str.Lossy.{utf8_lossy}
use Rattle.text_pipes.proofs.LossyParts.{lossy-parts}
use Rattle.text_pipes.proofs.lossy.push_lossy.Goals as goal

pub parts-preserved : goal.parts-preserved
parts-preserved c =
    let text = c.parts.text.items in
    let part = c.split_at-in-parts.result.0.now in
    let more = c.split_at-in-parts.result.1.now in
    let read = lossy-parts c.parts.left.now c.split_at.result.0.now c.split_at.result.1.now part more 512 c.finished_len.result c.split_at.ensures.front c.split_at.ensures.back
    c.finished_len.ensures.within c.finished_len.ensures.front c.finished_len.ensures.rest c.split_at-in-parts.ensures.front c.split_at-in-parts.ensures.back in
    ap (λ t. t ++ utf8_lossy more) c.in_ok-push_part.ensures ∙ (append_assoc text (utf8_lossy part) (utf8_lossy more) ∙ (ap (λ t. text ++ t) (sym read) ∙ c.parts.invariant))
