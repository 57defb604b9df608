-- The scope of the list is closed where it is done.
use Rattle.std.proofs.Common.{◌≡◌, [], ◌∷◌, length, refl, sym, subst}
use Rattle.chunk_core.specs.declared.code.Exit.TheVariants.{Succeeded}
use Rattle.chunk_core.specs.declared.code.How.TheVariants as how
use Rattle.join_tree.specs.Given.{GivesMore}
use Rattle.join_tree.specs.Mains.{IsMain}
use Rattle.join_tree.specs.Progress.{reading}
use Rattle.outer_stream.specs.Steps.{ends}
use Rattle.pipeline_desc.specs.Meant.{stream_limit}
use Rattle.res_ledger.specs.declared.event.What.TheVariants.{Close}
use Rattle.scope_tree.specs.Trees.{seen}
use Rattle.outer_source.specs.Pulls.{EndsList, HasEnded}
use Rattle.outer_source.proofs.Lines.{close_may, ends_done, ends_undone}
use Rattle.outer_source.proofs.source.OuterSource.end_list.Goals as goal

pub close_child-requires-clause-main : goal.close_child-requires-clause-main
close_child-requires-clause-main g c = let m = c.requires.ended in (m.2, stream_limit m.0, m.6, m.8.stands.main, m.8.stands.root)

pub close_child-requires-clause-child : goal.close_child-requires-clause-child
close_child-requires-clause-child g c = let m = c.requires.ended in close_may g.V.Device.told m.0 m.1 m.2 m.3 m.4 m.5 m.7 m.8

pub returns-in-Done-clause-comes : goal.returns-in-Done-clause-comes
returns-in-Done-clause-comes g c p parts width l first lines q some h =
    let told = g.V.Device.told in
    let a = seen g.S.RowSeat.view c.args.tree.now in
    let b = seen g.S.RowSeat.view c.close_child.new.tree in
    let x = c.args.self.now in
    let e = c.close_child.ensures in
    let at : c.args.how ≡ how.Done = c.in-Done.is in
    let done : HasEnded told p parts width l first lines q x.outer a how.Done = subst (λ k. HasEnded told p parts width l first lines q x.outer a k) at h in
    let main : IsMain (ends told) width (stream_limit p) b (reading q (Close (length parts) Succeeded ∷ [])) = subst (λ i. IsMain (ends told) width (stream_limit p) b (reading q (Close i Succeeded ∷ []))) h.amid.scope (e.main width (stream_limit p) q h.stands.main h.stands.root) in
    let gives : GivesMore (Close (length parts) Succeeded ∷ []) a b = subst (λ i. GivesMore (Close i Succeeded ∷ []) a b) h.amid.scope e.gives in
    (lines, (refl, subst (λ k. EndsList told p parts width l first lines q x.outer x a b k) (sym at) (ends_done told p parts width l first lines done refl refl main gives e.guests e.rows e.events)))

pub returns-in_default : goal.returns-in_default
returns-in_default g c = record {
  comes = λ p parts width l first lines q some h. (lines, (refl, ends_undone g.V.Device.told p parts width l first lines c.args.how c.in_default.not-Done h refl refl));
  fits = c.requires.fits;
  others = λ o n f. f;
}
