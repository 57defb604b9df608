-- The outer stream is pulled by its parts, or by its list.
use Rattle.std.proofs.Common.{◌≡◌, Some, length, refl, sym, ◌∙◌}
use Rattle.chunk_core.specs.declared.code.How.TheVariants as how
use Rattle.join_tree.specs.Progress.{reading}
use Rattle.outer_stream.specs.declared.next.Next.TheVariants as next_part
use Rattle.pipeline_desc.specs.Meant.{stream_limit}
use Rattle.scope_tree.specs.Trees.{seen}
use Rattle.outer_source.proofs.Behind.{may_open}
use Rattle.outer_source.proofs.Pulling.{in_list_so, in_parts_so, none_so, opens_with, pulled_behind, pulled_leased, pulled_listed, pulled_over, pulls_done, pulls_with}
use Rattle.outer_source.proofs.Standing.{open_at}
use Rattle.outer_source.proofs.source.OuterSource.pull.Goals as goal

pub pull_list-requires-clause-may : goal.pull_list-requires-clause-may
pull_list-requires-clause-may g c =
    let m = c.requires.main in
    let i = in_list_so g.D.Dev.Device.told c.args.plan.now c.args.parts.now m.0 m.4 (sym c.is_some.ensures ∙ c.if-is_some.true) in
    (c.args.parts.now, m.0, i.l, i.first, m.2, m.3, m.4.some_parts, i.may)

pub returns-then-is_some-clause-pulls : goal.returns-then-is_some-clause-pulls
returns-then-is_some-clause-pulls g c width openings lines q s =
    let told = g.D.Dev.Device.told in
    let p = c.args.plan.now in
    let i = in_list_so told p c.args.parts.now width s (sym c.is_some.ensures ∙ c.if-is_some.true) in
    let e = c.pull_list.ensures.comes c.args.parts.now width i.l i.first lines q s.some_parts i.may in
    pulled_listed told p c.args.parts.now width s i c.pull_list.new.self (g.D.Depot.told c.args.depot.now) (seen g.S.RowSeat.view c.pull_list.new.tree) c.pull_list.result e.0 e.1

pub pull-requires-clause-main : goal.pull-requires-clause-main
pull-requires-clause-main g c =
    let told = g.D.Dev.Device.told in
    let p = c.args.plan.now in
    let P = c.args.parts.now in
    let x = c.args.self.now in
    let m = c.requires.main in
    let i = in_parts_so told p P m.0 m.4 (none_so x.list (sym c.is_some.ensures ∙ c.if-is_some.false)) in
    let same : c.as_slice-tables.result.now ≡ p.tables = c.as_slice-tables.ensures ∙ c.tables.ensures.value in
    (length p.streams, m.0, stream_limit p, m.3, opens_with told p P m.0 same (open_at told p P m.0 m.3 x (seen g.S.RowSeat.view c.args.tree.now) i.source i.amid))

pub begin_list-requires-clause-may : goal.begin_list-requires-clause-may
begin_list-requires-clause-may g c =
    let told = g.D.Dev.Device.told in
    let p = c.args.plan.now in
    let P = c.args.parts.now in
    let x = c.args.self.now in
    let m = c.requires.main in
    let i = in_parts_so told p P m.0 m.4 (none_so x.list (sym c.is_some.ensures ∙ c.if-is_some.false)) in
    let same : c.as_slice-tables.result.now ≡ p.tables = c.as_slice-tables.ensures ∙ c.tables.ensures.value in
    let o = opens_with told p P m.0 same (open_at told p P m.0 m.3 x (seen g.S.RowSeat.view c.args.tree.now) i.source i.amid) in
    let f = pulls_done told p P m.0 same c.in-Over.how c.in-Done.is (c.in-Over.ensures.pulls (length p.streams) m.0 (stream_limit p) m.3 o) in
    (P, m.0, reading (reading m.3 f.goes.noted) f.comes.noted, may_open told p P m.0 i.source i.amid c.in-Some.list (sym c.list.ensures ∙ c.in-Some.is) f.goes f.comes)

pub returns-in-Leased-clause-pulls : goal.returns-in-Leased-clause-pulls
returns-in-Leased-clause-pulls g c width openings lines q s =
    let told = g.D.Dev.Device.told in
    let p = c.args.plan.now in
    let P = c.args.parts.now in
    let x = c.args.self.now in
    let i = in_parts_so told p P width s (none_so x.list (sym c.is_some.ensures ∙ c.if-is_some.false)) in
    let same : c.as_slice-tables.result.now ≡ p.tables = c.as_slice-tables.ensures ∙ c.tables.ensures.value in
    let o = opens_with told p P width same (open_at told p P width q x (seen g.S.RowSeat.view c.args.tree.now) i.source i.amid) in
    let f = pulls_with told p P width same (next_part.Leased c.in-Leased.lease) (c.in-Leased.ensures.pulls (length p.streams) width (stream_limit p) q o) in
    pulled_leased told p P width s i {y = record x { outer = c.pull.new.self }} c.in-Leased.lease f refl

pub returns-in-Some-clause-pulls : goal.returns-in-Some-clause-pulls
returns-in-Some-clause-pulls g c width openings lines q s =
    let told = g.D.Dev.Device.told in
    let p = c.args.plan.now in
    let P = c.args.parts.now in
    let x = c.args.self.now in
    let i = in_parts_so told p P width s (none_so x.list (sym c.is_some.ensures ∙ c.if-is_some.false)) in
    let same : c.as_slice-tables.result.now ≡ p.tables = c.as_slice-tables.ensures ∙ c.tables.ensures.value in
    let o = opens_with told p P width same (open_at told p P width q x (seen g.S.RowSeat.view c.args.tree.now) i.source i.amid) in
    let f = pulls_done told p P width same c.in-Over.how c.in-Done.is (c.in-Over.ensures.pulls (length p.streams) width (stream_limit p) q o) in
    let is : p.list ≡ Some c.in-Some.list = sym c.list.ensures ∙ c.in-Some.is in
    let e = c.begin_list.ensures.begins P width (reading (reading q f.goes.noted) f.comes.noted) (may_open told p P width i.source i.amid c.in-Some.list is f.goes f.comes) in
    pulled_behind told p P width s i f c.in-Some.list is c.begin_list.result e.0 e.1 e.2

pub returns-in-None-clause-pulls : goal.returns-in-None-clause-pulls
returns-in-None-clause-pulls g c width openings lines q s =
    let told = g.D.Dev.Device.told in
    let p = c.args.plan.now in
    let P = c.args.parts.now in
    let x = c.args.self.now in
    let i = in_parts_so told p P width s (none_so x.list (sym c.is_some.ensures ∙ c.if-is_some.false)) in
    let same : c.as_slice-tables.result.now ≡ p.tables = c.as_slice-tables.ensures ∙ c.tables.ensures.value in
    let o = opens_with told p P width same (open_at told p P width q x (seen g.S.RowSeat.view c.args.tree.now) i.source i.amid) in
    let f = pulls_done told p P width same c.in-Over.how c.in-Done.is (c.in-Over.ensures.pulls (length p.streams) width (stream_limit p) q o) in
    pulled_over told p P width s i {y = record x { outer = c.pull.new.self }} how.Done f (λ e. sym c.list.ensures ∙ c.in-None.is)

pub returns-in_default-clause-pulls : goal.returns-in_default-clause-pulls
returns-in_default-clause-pulls g c width openings lines q s =
    let told = g.D.Dev.Device.told in
    let p = c.args.plan.now in
    let P = c.args.parts.now in
    let x = c.args.self.now in
    let i = in_parts_so told p P width s (none_so x.list (sym c.is_some.ensures ∙ c.if-is_some.false)) in
    let same : c.as_slice-tables.result.now ≡ p.tables = c.as_slice-tables.ensures ∙ c.tables.ensures.value in
    let o = opens_with told p P width same (open_at told p P width q x (seen g.S.RowSeat.view c.args.tree.now) i.source i.amid) in
    let f = pulls_with told p P width same (next_part.Over c.in-Over.how) (c.in-Over.ensures.pulls (length p.streams) width (stream_limit p) q o) in
    pulled_over told p P width s i {y = record x { outer = c.pull.new.self }} c.in-Over.how f (λ e. absurd (c.in_default.not-Done e))
