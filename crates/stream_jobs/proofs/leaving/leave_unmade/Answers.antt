-- The root is closed, and then the tree leaves as that of a stepper that was stopped at once.
use Rattle.std.proofs.Common.{refl, sym, subst, ◌∙◌, ap}
use Rattle.pull_turns.specs.Piping.{standing}
use Rattle.row_seat.specs.Views.{OthersFit}
use Rattle.scope_tree.specs.Trees.{seen}
use Rattle.res_ledger.specs.declared.event.StreamNo.TheVariants.{Inner}
use Rattle.stream_jobs.proofs.Unmade.{last_unmade, unmade_by, unmade_ends, unmade_leaves, unmade_left, unmade_visits}
use Rattle.stream_jobs.proofs.leaving.leave_unmade.Goals as goal

pub close-requires-clause-scope : goal.close-requires-clause-scope
close-requires-clause-scope g c = c.requires.unmade.2.is_of.room.root

pub part-requires-clause-ended : goal.part-requires-clause-ended
part-requires-clause-ended g c =
    let told = g.V.Device.told in
    let P = standing g.F.Feed.stands g.F.Feed.comes in
    let view = g.S.RowSeat.view in
    let l = c.args.lease in
    let w = c.requires.unmade.1 in
    let u = c.requires.unmade.2 in
    let a = seen view c.args.tree in
    let b = seen view c.close.new.self in
    let e = c.close.ensures in (
      w.start.site,
      last_unmade told P u.node a b c.args.devices w u.is_of e.closes e.room e.free (e.owed refl),
      unmade_ends told P u.node a b c.args.devices w u.is_of e.closes e.room e.free (e.owed refl),
      unmade_visits told P u.node a b c.args.devices w u.is_of e.closes e.room e.free (e.owed refl) l.stream l.rows.items (sym u.stream) (sym u.leased),
      unmade_leaves told P u.node a b c.args.devices w u.is_of e.closes e.room e.free (e.owed refl) l.rows.items (sym u.leased),
    )

pub returns-clause-left : goal.returns-clause-left
returns-clause-left g c board w u =
    let told = g.V.Device.told in
    let P = standing g.F.Feed.stands g.F.Feed.comes in
    let view = g.S.RowSeat.view in
    let l = c.args.lease in
    let a = seen view c.args.tree in
    let b = seen view c.close.new.self in
    let e = c.close.ensures in
    let left = c.part.result in
    unmade_left told P u.node a b c.args.devices w u.is_of e.closes e.room e.free (e.owed refl) l.stream l.rows.items (sym u.stream) (sym u.leased) left.how (view left.seat) left.shelf left.unopened
    (c.part.ensures.leaves w.start.site (last_unmade told P u.node a b c.args.devices w u.is_of e.closes e.room e.free (e.owed refl)) (unmade_ends told P u.node a b c.args.devices w u.is_of e.closes e.room e.free (e.owed refl))
    (unmade_visits told P u.node a b c.args.devices w u.is_of e.closes e.room e.free (e.owed refl) l.stream l.rows.items (sym u.stream) (sym u.leased)))

pub returns-clause-others : goal.returns-clause-others
returns-clause-others g c =
    let view = g.S.RowSeat.view in
    let fits = g.S.RowSeat.fits in
    let u = c.requires.unmade.2 in
    let first = subst (λ k. OthersFit view fits k c.args.desk.now c.close.new.desk) (unmade_by g.V.Device.told u.node (seen view c.args.tree) c.args.devices c.requires.unmade.1 u.is_of ∙ ap Inner u.stream) c.close.ensures.others in
    λ o ne f. c.part.ensures.others o ne (first o ne f)
