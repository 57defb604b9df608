use Rattle.std.proofs.Common.{sym, ◌∙◌}
use Rattle.shared_scripts.proofs.Racing.{lessee_fits, outer_inner}
use Rattle.shared_scripts.proofs.races.leave_beside.Goals as goal

pub returns-clause-lessee : goal.returns-clause-lessee
returns-clause-lessee g c =
    let m = c.args.owner in let o = c.args.lessee in let p = c.join-left.result.0.0 in let s = c.args.second in let e = c.join-left.result.0.1 in let d = c.join-left.result.1.1 in
    let owner = c.join-left.ensures.second in let lessee = c.join-left.ensures.first in let f = c.requires.fits in
    let me = lessee.1.1 m (λ q. outer_inner 1 (sym c.requires.owner.by ∙ q)) f.1 in
    let od = owner.1.1 o (λ q. outer_inner 1 (sym q ∙ c.requires.lessee.by)) f.2 in
    lessee_fits m o p s d e f.1 me f.3 od lessee.1.0 c.requires.owner lessee.0
