-- A line is given a stream, or isn't.
use Rattle.std.proofs.Common.{◌≡◌, ◌≢◌, ◌++◌, ◌+◌, ◌<◌, false, [], ◌∷◌, length, Ok, refl, sym, ◌∙◌, ap, subst}
use Rattle.outer_stream.specs.Steps.{ends}
use Rattle.pipeline_desc.specs.Meant.{stream_limit}
use Rattle.plan_work.specs.Listed.{is_bad_line}
use Rattle.scope_tree.specs.Trees.{seen}
use Rattle.join_tree.specs.Given.{GivesMore}
use Rattle.join_tree.specs.Steps.{LeasesNext}
use Rattle.res_ledger.specs.declared.event.What.TheVariants.{Lease as lease_note}
use Rattle.outer_source.specs.Pulls.{GivesListed}
use Rattle.outer_source.specs.declared.source.OuterSource.{OuterSource}
use Rattle.outer_source.proofs.Lines.{lease_free, lease_scope, line_bad, line_given, line_is_text, line_less, line_too_many, line_unmade}
use Rattle.outer_source.proofs.source.OuterSource.give_line.Goals as goal

pub returns-then-self-stream_limit-clause-comes : goal.returns-then-self-stream_limit-clause-comes
returns-then-self-stream_limit-clause-comes g c parts width l first lines q h = (lines, (refl, line_too_many g.V.Device.told c.args.plan.now parts width l first lines h (c.if-self-stream_limit.true ∙ c.stream_limit.ensures.value)))

pub text_of-text-requires : goal.text_of-text-requires
text_of-text-requires g c = let m = c.requires.has in line_is_text g.V.Device.told c.args.plan.now m.0 m.1 m.2 m.3 m.4 m.6

pub returns-then-is_bad-clause-comes : goal.returns-then-is_bad-clause-comes
returns-then-is_bad-clause-comes g c parts width l first lines q h =
    let p = c.args.plan.now in (
      lines,
      (
        refl,
        line_bad g.V.Device.told p parts width l first lines h (λ e. c.if-self-stream_limit.false (e ∙ sym c.stream_limit.ensures.value))
            (ap (is_bad_line p) (sym c.text_of-text.ensures) ∙ (sym c.is_bad.ensures ∙ c.if-is_bad.true)),
      ),
    )

pub returns-in_default-clause-comes : goal.returns-in_default-clause-comes
returns-in_default-clause-comes g c parts width l first lines q h = (lines, (refl, line_unmade g.V.Device.told c.args.plan.now parts width l first lines h (seen g.S.RowSeat.view c.args.tree.now) refl))

pub lease_next-requires-clause-main : goal.lease_next-requires-clause-main
lease_next-requires-clause-main g c =
    let m = c.requires.has in
    let s = m.6.stands in
    (m.1, stream_limit c.args.plan.now, m.5, s.main, s.root, s.leased, subst (λ i. i < stream_limit c.args.plan.now) (sym s.leased) (line_less g.V.Device.told c.args.plan.now m.0 m.1 m.2 m.3 m.4 m.6 (λ e. c.if-self-stream_limit.false (e ∙ sym c.stream_limit.ensures.value))))

pub lease_next-requires-clause-scope : goal.lease_next-requires-clause-scope
lease_next-requires-clause-scope g c = let m = c.requires.has in lease_scope g.V.Device.told c.args.plan.now m.0 m.1 m.2 m.3 m.4 m.6

pub lease_next-requires-clause-free : goal.lease_next-requires-clause-free
lease_next-requires-clause-free g c = let m = c.requires.has in lease_free g.V.Device.told c.args.plan.now m.0 m.1 m.2 m.3 m.4 m.6 (λ e. c.if-self-stream_limit.false (e ∙ sym c.stream_limit.ensures.value))

pub returns-in_default-lease_next-clause-comes : goal.returns-in_default-lease_next-clause-comes
returns-in_default-lease_next-clause-comes g c parts width l first lines q h =
    let told = g.V.Device.told in
    let p = c.args.plan.now in
    let ne : c.args.self.now.outer.leased ≢ stream_limit p = λ e. c.if-self-stream_limit.false (e ∙ sym c.stream_limit.ensures.value) in
    let s = h.stands in
    let same = c.in_default-lease_next.ensures.leases width (stream_limit p) q s.main s.root s.leased (subst (λ i. i < stream_limit p) (sym s.leased) (line_less told p parts width l first lines h ne)) s.narrow in
    (lines, (refl, line_unmade told p parts width l first lines h (seen g.S.RowSeat.view c.lease_next.new.tree) same))

pub returns-clause-comes : goal.returns-clause-comes
returns-clause-comes g c parts width l first lines q h =
    let told = g.V.Device.told in
    let p = c.args.plan.now in
    let ne : c.args.self.now.outer.leased ≢ stream_limit p = λ e. c.if-self-stream_limit.false (e ∙ sym c.stream_limit.ensures.value) in
    let s = h.stands in
    let e = c.in-Ok-lease_next.ensures in
    let r = e.leases width (stream_limit p) q s.main s.root s.leased (subst (λ i. i < stream_limit p) (sym s.leased) (line_less told p parts width l first lines h ne)) s.narrow in
    let a = seen g.S.RowSeat.view c.args.tree.now in
    let b = seen g.S.RowSeat.view c.lease_next.new.tree in
    let line = c.args.line.now in
    let lease = c.in-Ok-lease_next.lease in
    let x = c.args.self.now in
    let k = length parts in
    let y : OuterSource = record x { outer = record x.outer { leased = x.outer.leased + 1 } } in
    let next : LeasesNext (ends told) width (stream_limit p) a b q k (Ok lease) = subst (λ i. LeasesNext (ends told) width (stream_limit p) a b q i (Ok lease)) h.amid.scope r in
    let gives : GivesMore (lease_note x.outer.leased k ∷ []) a b = subst (λ i. GivesMore (lease_note x.outer.leased i ∷ []) a b) h.amid.scope e.gives in
    let good : is_bad_line p line ≡ false = ap (is_bad_line p) (sym c.text_of-text.ensures) ∙ (sym c.is_bad.ensures ∙ c.if-is_bad.false) in
    let same : c.in-Ok.path ≡ line = c.in-Ok.ensures ∙ c.text_of-text.ensures in (
      lines ++ c.in-Ok.path ∷ [],
      (
        refl,
        subst (λ z. GivesListed told p parts width l first lines q x.outer y a b lease z) (sym same) (line_given told p parts width l first lines h b lease y refl ne good next gives e.scopes e.guests e.rows e.opened e.events),
      ),
    )
