use Rattle.std.proofs.Common.{sym, ap, ◌∙◌, subst}
use Rattle.scope_tree.specs.Kept.{Kept, Shelved}
use Rattle.scope_tree.specs.Trace.{owed}
use Rattle.scope_tree.proofs.Calling.{joined_scopes, seated}
use Rattle.scope_tree.proofs.Parting.{join_keeps, join_owed, join_shelved}
use Rattle.chunk_core.specs.Lists.{IsAmong}
use Rattle.chunk_core.proofs.Members.{among_left}
use Rattle.scope_tree.specs.Rights.{HasNoLeaseBut}
use Rattle.scope_tree.proofs.Rights.{joined_only}
use Rattle.scope_tree.proofs.tree.Tree.join.Goals as goal

pub returns-clause-scopes : goal.returns-clause-scopes
returns-clause-scopes g c = joined_scopes (g.S.RowSeat.view c.args.other) c.join.ensures.view c.join.ensures.apart

pub returns-clause-owed : goal.returns-clause-owed
returns-clause-owed g c = ap owed c.join.ensures.view ∙ join_owed (g.S.RowSeat.view c.args.self.now.seat) (g.S.RowSeat.view c.args.other) c.join.ensures.apart

pub returns-clause-fits : goal.returns-clause-fits
returns-clause-fits g c =
    let t = c.args.self.now in let v = g.S.RowSeat.view t.seat in let w = g.S.RowSeat.view c.args.other in let bs = t.branches.items in let hs = t.acquisitions.items in let xs = t.shelf.items in let z = c.requires.fits.0.sound in let e = c.join.ensures.view in let apart = c.join.ensures.apart in let rest = c.requires.can.2 in
    record { seat = c.join.ensures.fits; sound = seated g.S.RowSeat.view t c.join.new.self (subst (λ x. Kept x bs hs) (sym e) (join_keeps v w bs hs xs z.kept z.shelved apart rest)) (subst (λ x. Shelved x hs xs) (sym e) (join_shelved v w bs hs xs z.kept z.shelved apart rest)) z }

pub returns-clause-empty : goal.returns-clause-empty
returns-clause-empty g c = λ r m. subst (λ v. IsAmong r v.empty) (sym c.join.ensures.view) (among_left (g.S.RowSeat.view c.args.other).empty m)

pub returns-clause-leases : goal.returns-clause-leases
returns-clause-leases g c = λ Ls h. subst (λ v. HasNoLeaseBut v Ls) (sym c.join.ensures.view) (joined_only (g.S.RowSeat.view c.args.self.now.seat) (g.S.RowSeat.view c.args.other) Ls h)
