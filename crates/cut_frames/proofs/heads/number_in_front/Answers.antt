use Rattle.std.proofs.Common.{◌<◌, ◌^◌, ◌++◌, ◌∷◌, [], decimal, sym, subst}
use Rattle.cut_frames.specs.Heads.{IsReadInFront}
use Rattle.cut_frames.proofs.Numbers.{front_none}
use Rattle.cut_frames.proofs.Fronts.{lacks_end}
use Rattle.cut_frames.proofs.heads.number_in_front.Goals as goal

pub returns-in_err-number : goal.returns-in_err-number
returns-in_err-number c =
    let cut = c.in_ok-digits.ensures in
    subst (λ o. IsReadInFront (λ n. n < 2 ^ 64) (λ n. decimal n ++ c.args.end ∷ []) c.args.text.now o) (sym c.from_residual-in_err-number.ensures)
    (front_none c.args.end (λ n. n < 2 ^ 64) decimal (lacks_end c.args.end c.requires) c.args.text.now _ _ cut.0 cut.1 c.in_err-number.ensures)
