use Rattle.std.proofs.Common.{sym, subst}
use Rattle.scope_tree.specs.Calls.{AtStart}
use Rattle.scope_tree.specs.Kept.{Kept, Shelved}
use Rattle.scope_tree.proofs.Calling.{seated}
use Rattle.scope_tree.proofs.Parting.{split_keeps, split_shelved, split_start}
use Rattle.scope_tree.specs.Rights.{DropsLease}
use Rattle.scope_tree.proofs.Rights.{split_drops}
use Rattle.scope_tree.proofs.tree.Tree.split.Goals as goal

pub returns-clause-start : goal.returns-clause-start
returns-clause-start g c =
    let t = c.args.self.now in let v = g.S.RowSeat.view t.seat in let z = c.requires.fits.sound in let y = c.in_ok-seat.ensures.ok in
    λ one. subst (λ x. AtStart x) (sym y.1) (split_start v t.branches.items t.acquisitions.items t.shelf.items z.kept z.shelved c.args.stream c.args.rows.from c.args.rows.to c.args.events c.requires.can one)

pub returns-clause-scopes : goal.returns-clause-scopes
returns-clause-scopes g c = rw c.in_ok-seat.ensures.ok.0 (record { usable = λ s u. u; closed = λ s x. x })

pub returns-in_err-seat-clause-scopes : goal.returns-in_err-seat-clause-scopes
returns-in_err-seat-clause-scopes g c = rw c.in_err-seat.ensures.err (record { usable = λ s u. u; closed = λ s x. x })

pub returns-clause-fits : goal.returns-clause-fits
returns-clause-fits g c =
    let t = c.args.self.now in let v = g.S.RowSeat.view t.seat in let bs = t.branches.items in let hs = t.acquisitions.items in let xs = t.shelf.items in let z = c.requires.fits.sound in let e = c.in_ok-seat.ensures.ok.0 in let j = c.args.stream in let from = c.args.rows.from in let to = c.args.rows.to in let n = c.args.events in
    record { seat = c.split.ensures.fits; sound = seated g.S.RowSeat.view t c.split.new.self (subst (λ x. Kept x bs hs) (sym e) (split_keeps v bs hs xs z.kept z.shelved j from to n c.requires.free)) (subst (λ x. Shelved x hs xs) (sym e) (split_shelved v bs hs xs z.kept z.shelved j from to n)) z }

pub returns-in_err-seat-clause-fits : goal.returns-in_err-seat-clause-fits
returns-in_err-seat-clause-fits g c =
    let t = c.args.self.now in let bs = t.branches.items in let hs = t.acquisitions.items in let xs = t.shelf.items in let z = c.requires.fits.sound in let e = c.in_err-seat.ensures.err in
    record { seat = c.split.ensures.fits; sound = seated g.S.RowSeat.view t c.split.new.self (subst (λ x. Kept x bs hs) (sym e) z.kept) (subst (λ x. Shelved x hs xs) (sym e) z.shelved) z }

pub returns-clause-leases : goal.returns-clause-leases
returns-clause-leases g c = λ T.
    let v = g.S.RowSeat.view c.args.self.now.seat in
    subst (λ w. DropsLease v c.args.stream T w) (sym c.in_ok-seat.ensures.ok.0) (split_drops v c.args.stream c.args.rows.from c.args.rows.to c.args.events T)
