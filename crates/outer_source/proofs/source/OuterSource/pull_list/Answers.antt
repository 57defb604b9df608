-- A line of the list is read, and comes to something.
use Rattle.std.proofs.Common.{◌≡◌, Some, length, sym, ◌∙◌, ap, subst}
use Rattle.chain_pipes.specs.Chains.{StandsFor}
use Rattle.chunk_core.specs.Lists.{IsAmong}
use Rattle.list_lines.specs.declared.listed.Listed.TheVariants as listed
use Rattle.list_rows.specs.Reading.{KeepsRowsBut, ReadsLine}
use Rattle.list_runs.specs.Meant.{list_meaning}
use Rattle.pipeline_desc.specs.Meant.{stream_limit}
use Rattle.list_runs.proofs.Timely.{gives_lines}
use Rattle.row_seat.specs.Views.{HasRow}
use Rattle.scope_tree.specs.Calls.{Seen}
use Rattle.scope_tree.specs.Trace.{trace}
use Rattle.scope_tree.specs.Trees.{seen}
use Rattle.outer_source.specs.Pulls.{HasLine}
use Rattle.outer_source.specs.declared.source.OuterSource.{OuterSource}
use Rattle.outer_source.proofs.Reading.{comes_then, has_ended, has_line, row_at, row_mode, row_open, row_there}
use Rattle.outer_source.proofs.source.OuterSource.pull_list.Goals as goal

pub next_line-requires-clause-row : goal.next_line-requires-clause-row
next_line-requires-clause-row g c =
    let m = c.requires.may in
    let same : c.len-row.result ≡ length c.args.plan.now.tables = c.len-row.ensures ∙ ap length c.tables.ensures.value in
    subst (λ r. HasRow (seen g.S.RowSeat.view c.args.tree.now).seat.opened r) (sym same) (row_there g.V.Device.told c.args.plan.now m.0 m.1 m.2 m.3 m.4 m.7 c.requires.fits.sound.kept.holds.once)

pub next_line-requires-clause-open : goal.next_line-requires-clause-open
next_line-requires-clause-open g c d i =
    let m = c.requires.may in
    let same : c.len-row.result ≡ length c.args.plan.now.tables = c.len-row.ensures ∙ ap length c.tables.ensures.value in
    row_open g.V.Device.told c.args.plan.now m.0 m.1 m.2 m.3 m.4 m.7 c.requires.fits.sound.kept.holds.once d (subst (λ r. IsAmong (r, d) (seen g.S.RowSeat.view c.args.tree.now).seat.opened) same i)

pub next_line-requires-clause-mode : goal.next_line-requires-clause-mode
next_line-requires-clause-mode g c d i =
    let m = c.requires.may in
    let same : c.len-row.result ≡ length c.args.plan.now.tables = c.len-row.ensures ∙ ap length c.tables.ensures.value in
    row_mode g.V.Device.told c.args.plan.now m.0 m.1 m.2 m.3 m.4 m.7 c.requires.fits.sound.kept.holds.once d (subst (λ r. IsAmong (r, d) (seen g.S.RowSeat.view c.args.tree.now).seat.opened) same i)

pub next_line-requires-clause-at : goal.next_line-requires-clause-at
next_line-requires-clause-at g c =
    let m = c.requires.may in
    let same : c.len-row.result ≡ length c.args.plan.now.tables = c.len-row.ensures ∙ ap length c.tables.ensures.value in (
      list_meaning,
      m.4,
      gives_lines,
      λ d i. row_at g.V.Device.told c.args.plan.now m.0 m.1 m.2 m.3 m.4 m.7 c.requires.fits.sound.kept.holds.once c.in-Some.list c.in-Some.is d (subst (λ r. IsAmong (r, d) (seen g.S.RowSeat.view c.args.tree.now).seat.opened) same i),
    )

pub give_line-requires-clause-has : goal.give_line-requires-clause-has
give_line-requires-clause-has g c =
    let told = g.V.Device.told in
    let p = c.args.plan.now in
    let m = c.requires.may in
    let once = c.requires.fits.sound.kept.holds.once in
    let a = seen g.S.RowSeat.view c.args.tree.now in
    let b = seen g.S.RowSeat.view c.next_line.new.tree in
    let e = c.in-Line.ensures in
    let reader = c.next_line.new.list in
    let line = c.in-Line.line in
    let x = c.args.self.now in
    let x1 : OuterSource = record x { list = Some reader } in
    let same : c.len-row.result ≡ length p.tables = c.len-row.ensures ∙ ap length c.tables.ensures.value in
    let at = λ (d : _) (i : IsAmong (c.len-row.result, d) a.seat.opened). row_at told p m.0 m.1 m.2 m.3 m.4 m.7 once c.in-Some.list c.in-Some.is d (subst (λ r. IsAmong (r, d) a.seat.opened) same i) in
    let r : ReadsLine told StandsFor (length p.tables) list_meaning m.4 a b reader (listed.Line line) = subst (λ k. ReadsLine told StandsFor k list_meaning m.4 a b reader (listed.Line line)) same (e.reads list_meaning m.4 gives_lines at) in
    let rows : KeepsRowsBut (length p.tables) a.seat b.seat = subst (λ k. KeepsRowsBut k a.seat b.seat) same e.rows in
    let has : HasLine told p m.0 m.1 m.2 m.3 m.4 m.5 x1 line b = has_line told p m.0 m.1 m.2 m.3 m.4 e.gives e.guests rows e.events (e.main m.1 (stream_limit p) m.5 m.7.stands.main) e.scopes m.7 reader (listed.Line line) r once line r.comes in
    (m.0, m.1, m.2, m.3, m.4, m.5, subst (λ z. HasLine told p m.0 m.1 m.2 m.3 m.4 m.5 x1 z b) (sym c.as_slice.ensures) has)

pub end_list-requires-clause-ended : goal.end_list-requires-clause-ended
end_list-requires-clause-ended g c =
    let told = g.V.Device.told in
    let p = c.args.plan.now in
    let m = c.requires.may in
    let once = c.requires.fits.sound.kept.holds.once in
    let a = seen g.S.RowSeat.view c.args.tree.now in
    let b = seen g.S.RowSeat.view c.next_line.new.tree in
    let e = c.in-Over.ensures in
    let reader = c.next_line.new.list in
    let h = c.in-Over.how in
    let same : c.len-row.result ≡ length p.tables = c.len-row.ensures ∙ ap length c.tables.ensures.value in
    let at = λ (d : _) (i : IsAmong (c.len-row.result, d) a.seat.opened). row_at told p m.0 m.1 m.2 m.3 m.4 m.7 once c.in-Some.list c.in-Some.is d (subst (λ r. IsAmong (r, d) a.seat.opened) same i) in
    let r : ReadsLine told StandsFor (length p.tables) list_meaning m.4 a b reader (listed.Over h) = subst (λ k. ReadsLine told StandsFor k list_meaning m.4 a b reader (listed.Over h)) same (e.reads list_meaning m.4 gives_lines at) in
    let rows : KeepsRowsBut (length p.tables) a.seat b.seat = subst (λ k. KeepsRowsBut k a.seat b.seat) same e.rows in
    (p, m.0, m.1, m.2, m.3, m.4, m.5, m.6, has_ended told p m.0 m.1 m.2 m.3 m.4 e.gives e.guests rows e.events (e.main m.1 (stream_limit p) m.5 m.7.stands.main) e.scopes m.7 reader (listed.Over h) r once h r.comes)

pub returns-in-Line-clause-comes : goal.returns-in-Line-clause-comes
returns-in-Line-clause-comes g c parts width l first lines q some h =
    let told = g.V.Device.told in
    let p = c.args.plan.now in
    let once = c.requires.fits.sound.kept.holds.once in
    let a = seen g.S.RowSeat.view c.args.tree.now in
    let b = seen g.S.RowSeat.view c.next_line.new.tree in
    let d = seen g.S.RowSeat.view c.give_line.new.tree in
    let e = c.in-Line.ensures in
    let reader = c.next_line.new.list in
    let line = c.in-Line.line in
    let x = c.args.self.now in
    let x1 : OuterSource = record x { list = Some reader } in
    let same : c.len-row.result ≡ length p.tables = c.len-row.ensures ∙ ap length c.tables.ensures.value in
    let at = λ (v : _) (i : IsAmong (c.len-row.result, v) a.seat.opened). row_at told p parts width l first lines h once c.in-Some.list c.in-Some.is v (subst (λ r. IsAmong (r, v) a.seat.opened) same i) in
    let r : ReadsLine told StandsFor (length p.tables) list_meaning lines a b reader (listed.Line line) = subst (λ k. ReadsLine told StandsFor k list_meaning lines a b reader (listed.Line line)) same (e.reads list_meaning lines gives_lines at) in
    let rows : KeepsRowsBut (length p.tables) a.seat b.seat = subst (λ k. KeepsRowsBut k a.seat b.seat) same e.rows in
    let has : HasLine told p parts width l first lines q x1 line b = has_line told p parts width l first lines e.gives e.guests rows e.events (e.main width (stream_limit p) q h.stands.main) e.scopes h reader (listed.Line line) r once line r.comes in
    let k = c.give_line.ensures.comes parts width l first lines q (subst (λ z. HasLine told p parts width l first lines q x1 z b) (sym c.as_slice.ensures) has) in
    (k.0, comes_then told p parts width l first lines e.gives e.guests rows e.events q x.outer c.give_line.new.self d c.give_line.result k.0 (ap (λ (z : Seen _). trace z.seat) r.tree) k.1)

pub returns-in-Over-clause-comes : goal.returns-in-Over-clause-comes
returns-in-Over-clause-comes g c parts width l first lines q some h =
    let told = g.V.Device.told in
    let p = c.args.plan.now in
    let once = c.requires.fits.sound.kept.holds.once in
    let a = seen g.S.RowSeat.view c.args.tree.now in
    let b = seen g.S.RowSeat.view c.next_line.new.tree in
    let d = seen g.S.RowSeat.view c.end_list.new.tree in
    let e = c.in-Over.ensures in
    let reader = c.next_line.new.list in
    let w = c.in-Over.how in
    let x = c.args.self.now in
    let same : c.len-row.result ≡ length p.tables = c.len-row.ensures ∙ ap length c.tables.ensures.value in
    let at = λ (v : _) (i : IsAmong (c.len-row.result, v) a.seat.opened). row_at told p parts width l first lines h once c.in-Some.list c.in-Some.is v (subst (λ r. IsAmong (r, v) a.seat.opened) same i) in
    let r : ReadsLine told StandsFor (length p.tables) list_meaning lines a b reader (listed.Over w) = subst (λ k. ReadsLine told StandsFor k list_meaning lines a b reader (listed.Over w)) same (e.reads list_meaning lines gives_lines at) in
    let rows : KeepsRowsBut (length p.tables) a.seat b.seat = subst (λ k. KeepsRowsBut k a.seat b.seat) same e.rows in
    let has = has_ended told p parts width l first lines e.gives e.guests rows e.events (e.main width (stream_limit p) q h.stands.main) e.scopes h reader (listed.Over w) r once w r.comes in
    let k = c.end_list.ensures.comes p parts width l first lines q some has in
    (k.0, comes_then told p parts width l first lines e.gives e.guests rows e.events q x.outer c.end_list.new.self d c.end_list.result k.0 (ap (λ (z : Seen _). trace z.seat) r.tree) k.1)
