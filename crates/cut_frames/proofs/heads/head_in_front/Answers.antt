use Rattle.std.proofs.Common.{◌<◌, ◌^◌, ◌≡◌, ◌++◌, MatchOption, sym, subst}
use Rattle.cut_frames.specs.Heads.{HasNoHead, head_text}
use Rattle.cut_frames.proofs.Fronts.{no_second}
use Rattle.cut_frames.proofs.heads.head_in_front.Goals as goal

pub returns-in_err-length : goal.returns-in_err-length
returns-in_err-length c =
    let first = c.in_ok-stream.ensures in
    subst (λ o. MatchOption o (HasNoHead c.args.text.now) (λ p. (p.0 < 2 ^ 64) × (p.1 < 2 ^ 64) × (c.args.text.now ≡ head_text p.0 p.1 ++ p.2.now))) (sym c.from_residual-in_err-length.ensures)
    (no_second c.args.text.now c.in_ok-stream.rest.now c.in_ok-stream.stream first.0 first.1 c.in_err-length.ensures)
