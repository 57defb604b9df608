-- A walk from the end of a ledger to its front.
use Rattle.std.proofs.Common.{◌≡◌, ℕ, ◌≤◌, List, [], ◌∷◌, ◌++◌, Option, Some, None, refl, sym, ap, ◌∙◌}
use Rattle.std.specs.Prelude.{reverse}
use Rattle.std.proofs.lemmas.List.{append-nil, reverse-append}
use Rattle.res_ledger.specs.declared.event.Event.{Event}
use Rattle.chart_marks.specs.declared.marks.Thing.{Thing}
use Rattle.chart_marks.specs.declared.marks.End.{End}
use Rattle.chart_marks.specs.declared.marks.Mark.{Mark}
use Rattle.chart_marks.specs.Marks.{begun_by, end_in, end_or, ended_by, mark_for, marks_of}

-- the ends and the marks of these events are found, the last mark first
pub record IsWalked (find : Thing → Option End) (drawn : List Mark) (L : List Event) : Type 0 where
  pub ends : (q : Thing) → find q ≡ end_in q L
  pub found : drawn ≡ reverse (marks_of L)

pub walked_more : (find next : Thing → Option End) (marks more : List Mark) (e : Event) (L : List Event) → IsWalked find marks L
    → ((q : Thing) → next q ≡ end_or q e.stamp (ended_by e.what) (find q)) → more ≡ marks ++ mark_for e (begun_by e.what) next → IsWalked next more (e ∷ L)
walked_more find next marks more e L w kept added = record {
  ends = ends;
  found = added ∙ ap (λ m. m ++ mark_for e (begun_by e.what) next) w.found ∙ ap (λ m. reverse (marks_of L) ++ m) (same (begun_by e.what)) ∙ front (begun_by e.what);
}
  where
    ends : (q : Thing) → next q ≡ end_in q (e ∷ L)
    ends q = kept q ∙ ap (end_or q e.stamp (ended_by e.what)) (w.ends q)

    same : (o : Option (Thing × ℕ)) → mark_for e o next ≡ mark_for e o (λ q. end_in q (e ∷ L))
    same None = refl
    same (Some t) = ap (λ (v : Option End). let m : Mark = record { by = e.by; thing = t.0; scope = t.1; begin = e.stamp; end = v } in m ∷ []) (ends t.0)

    front : (o : Option (Thing × ℕ)) → reverse (marks_of L) ++ mark_for e o (λ q. end_in q (e ∷ L)) ≡ reverse (mark_for e o (λ q. end_in q (e ∷ L)) ++ marks_of L)
    front None = append-nil (reverse (marks_of L))
    front (Some t) = let m : Mark = record { by = e.by; thing = t.0; scope = t.1; begin = e.stamp; end = end_in t.0 (e ∷ L) } in sym (reverse-append (m ∷ []) (marks_of L))
