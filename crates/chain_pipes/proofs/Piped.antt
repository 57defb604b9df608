-- What passes through a pipe.
use Rattle.std.proofs.Common.{◌≡◌, List, ◌++◌, Option, None, Some, refl, ap, sym, subst, ◌∙◌, append_assoc}
use Rattle.std.proofs.lemmas.List.Concat.{flat_map-append}
use Rattle.std.proofs.lemmas.List.Elements.{All-append}
use Rattle.chunk_core.specs.Elements.{Element, elements, kind_of, elements_of}
use Rattle.chunk_core.specs.Feed.{Given, Meaning}
use Rattle.chunk_core.specs.Outcomes.{Cut, Done, End, Fault}
use Rattle.chunk_core.specs.declared.code.Code.{Code}
use Rattle.chunk_core.specs.declared.load.Load.{Load}
use Rattle.any_pipe.specs.Pouring.{AreOf, FeedsAll, FinishesAll, MakesUp, StopsAtFault}
use Rattle.pull_nodes.specs.Laws.{IsSteady}
use Rattle.pull_nodes.specs.Runs.{end_by_fault}
use Rattle.chain_pipes.specs.Over.{Came, came, through}
use Rattle.chain_pipes.specs.Links.{GoesOn, Passes, PassesPipe, end_of, pipe_over, tail_of}
use Rattle.chain_pipes.specs.declared.batch.Batch.{Batch}
use Rattle.chain_pipes.specs.declared.batch.Tail.{Tail}
use Rattle.chain_pipes.specs.declared.batch.Tail.TheVariants as tail

-- a fault came before the end of the loads
pub pipe_stops : (m : Meaning) (xs : List Element) (b r : Batch) (c : Code) (Stands : List Element → Type 0)
    → IsSteady m → StopsAtFault m xs b.loads.items r.loads.items c → r.tail ≡ tail.Fault c → PassesPipe m xs b r Stands
pipe_stops m xs b r c Stands steady s is =
    let e = end_of b.tail in
    let ws = xs ++ elements_of b.loads.items in
    let front = xs ++ elements_of s.front in
    let more : front ++ elements_of s.unfed ≡ ws = append_assoc xs (elements_of s.front) (elements_of s.unfed) ∙ ap (λ l. xs ++ l) (sym (ap elements_of s.whole ∙ flat_map-append elements s.front s.unfed)) in
    let same : m.part ws ≡ m.part front = ap m.part (sym more) ∙ (steady.stops front (elements_of s.unfed) c (sym s.made.fault)).0 in
    let ends : end_of r.tail ≡ Fault c = ap end_of is in
    record {
      kinds = s.made.kinds;
      made =
          ap (λ (g : Given). through g.fault g (m.all ws) e) same
          ∙ (ap (λ f. through f (m.part front) (m.all ws) e) (sym s.made.fault)
          ∙ (ap (λ l. came l (Fault c)) (sym s.made.list) ∙ ap (λ g. came ((m.part xs).list ++ elements_of r.loads.items) g) (sym ends)));
      goes = λ cut. absurd (let no : Fault c ≡ Cut = sym ends ∙ cut in cc);
    }

-- what follows a whole input
whole_end : (f : Option Code) → end_of (tail_of f) ≡ end_by_fault f Done
whole_end None = refl
whole_end (Some c) = refl

never_cut : (f : Option Code) → end_of (tail_of f) ≡ Cut → ⊥
never_cut None e = cc
never_cut (Some c) e = cc

-- the input ended behind the loads
pub pipe_ends : (m : Meaning) (xs : List Element) (b r : Batch) (before : List Load) (f : Option Code) (Stands : List Element → Type 0)
    → b.tail ≡ tail.End → MakesUp m xs before None (m.part (xs ++ elements_of b.loads.items)) → FinishesAll m (xs ++ elements_of b.loads.items) before r.loads.items f → r.tail ≡ tail_of f
    → PassesPipe m xs b r Stands
pipe_ends m xs b r before f Stands done fed end is =
    let ws = xs ++ elements_of b.loads.items in
    let both : elements_of r.loads.items ≡ elements_of before ++ elements_of end.rest = ap elements_of end.whole ∙ flat_map-append elements before end.rest in
    let list : (m.part xs).list ++ elements_of r.loads.items ≡ (m.all ws).list =
    ap (λ l. (m.part xs).list ++ l) both ∙ (sym (append_assoc (m.part xs).list (elements_of before) (elements_of end.rest)) ∙ (ap (λ l. l ++ elements_of end.rest) fed.list ∙ end.made.list)) in
    let ends : end_of r.tail ≡ end_by_fault (m.all ws).fault Done = ap end_of is ∙ (whole_end f ∙ ap (λ g. end_by_fault g Done) end.made.fault) in
    record {
      kinds = subst (λ l. AreOf m.gives l) (sym end.whole) (All-append (λ l. kind_of l ≡ m.gives) before end.rest fed.kinds end.made.kinds);
      made =
          ap (λ t. through (m.part ws).fault (m.part ws) (m.all ws) (end_of t)) done
          ∙ (ap (λ g. through g (m.part ws) (m.all ws) Done) (sym fed.fault)
          ∙ (ap (λ l. came l (end_by_fault (m.all ws).fault Done)) (sym list) ∙ ap (λ g. came ((m.part xs).list ++ elements_of r.loads.items) g) (sym ends)));
      goes = λ cut. absurd (never_cut f (sym (ap end_of is) ∙ cut));
    }
