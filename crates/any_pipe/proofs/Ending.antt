-- What is still to come, once the end was told.
use Rattle.std.proofs.Common.{◌≡◌, List, [], ◌∷◌, ◌++◌, ◌⊎◌, inl, inr, Some, ap, sym, ◌∙◌, append_assoc, append-nil}
use Rattle.std.specs.Prelude.{Option}
use Rattle.std.proofs.lemmas.List.{flat_map_more}
use Rattle.std.proofs.lemmas.List.Elements.{All-push, All-nil}
use Rattle.chunk_core.specs.Elements.{Element, LoadKind, elements, kind_of, elements_of}
use Rattle.chunk_core.specs.Feed.{Meaning, Continues, Finishes}
use Rattle.chunk_core.specs.declared.code.Code.{Code}
use Rattle.chunk_core.specs.declared.feed.Fed.{Fed}
use Rattle.chunk_core.specs.declared.feed.Fed.TheVariants as fed
use Rattle.chunk_core.specs.declared.load.Load.{Load}
use Rattle.any_pipe.specs.Pouring.{AreOf, FinishesAll}

-- xs is the whole input, some loads came behind those before, and what P holds of is left
pub record Left (m : Meaning) (xs : List Element) (before given : List Load) (P : List Element → Type 0) : Type 0 where
  pub rest : List Load
  pub left : List Element
  pub whole : given ≡ before ++ rest
  pub kinds : AreOf m.gives rest
  pub list : (m.part xs).list ++ (elements_of rest ++ left) ≡ (m.all xs).list
  pub holds : P left

-- nothing was asked yet, or something is still to come
abbrev pub Goes : (m : Meaning) (xs : List Element) (before given : List Load) → Type 0 → (LoadKind → List Element → Option Code → Type 0) → Type 0
Goes m xs before given Stands Comes = (Stands × (given ≡ before)) ⊎ Left m xs before given (λ ys. Comes m.gives ys (m.all xs).fault)

-- the next answer, whichever it is
pub answered : (m : Meaning) (xs : List Element) (before given : List Load) (Stands : Type 0) (Comes NewComes : LoadKind → List Element → Option Code → Type 0) (answer : Fed)
    → (Stands → Finishes m xs answer (NewComes m.gives))
    → ((kind : LoadKind) (ys : List Element) (c : Option Code) → Comes kind ys c → Continues kind ys c answer (NewComes kind))
    → Goes m xs before given Stands Comes → Left m xs before given (λ ys. Continues m.gives ys (m.all xs).fault answer (NewComes m.gives))
answered m xs before given Stands Comes NewComes answer first next (inl (s, same)) =
    let f = first s in
    record { rest = []; left = f.rest; whole = same ∙ sym (append-nil before); kinds = All-nil (λ l. kind_of l ≡ m.gives); list = f.whole; holds = f.given }
answered m xs before given Stands Comes NewComes answer first next (inr h) =
    record { rest = h.rest; left = h.left; whole = h.whole; kinds = h.kinds; list = h.list; holds = next m.gives h.left (m.all xs).fault h.holds }

-- one load more came
came_more : (rest : List Load) (load : Load) (more : List Element) → elements_of rest ++ (elements load ++ more) ≡ elements_of (rest ++ load ∷ []) ++ more
came_more rest load more = sym (append_assoc (elements_of rest) (elements load) more) ∙ ap (λ l. l ++ more) (flat_map_more elements [] rest load)

-- the loads that came, and one more
one_more : (before given came rest : List Load) (load : Load) → given ≡ before ++ rest → came ≡ given ++ load ∷ [] → came ≡ before ++ (rest ++ load ∷ [])
one_more before given came rest load whole more = more ∙ (ap (λ l. l ++ load ∷ []) whole ∙ append_assoc before rest (load ∷ []))

pub goes_on : (m : Meaning) (xs : List Element) (before given came : List Load) (load : Load) (Stands : Type 0) (Comes : LoadKind → List Element → Option Code → Type 0)
    → Left m xs before given (λ ys. Continues m.gives ys (m.all xs).fault (fed.Out load) (Comes m.gives)) → came ≡ given ++ load ∷ [] → Goes m xs before came Stands Comes
goes_on m xs before given came load Stands Comes h more =
    inr (
    record {
      rest = h.rest ++ load ∷ [];
      left = h.holds.2;
      whole = one_more before given came h.rest load h.whole more;
      kinds = All-push (λ l. kind_of l ≡ m.gives) h.rest load h.kinds h.holds.0;
      list = ap (λ l. (m.part xs).list ++ l) (sym (came_more h.rest load h.holds.2) ∙ ap (λ l. elements_of h.rest ++ l) (sym h.holds.3)) ∙ h.list;
      holds = h.holds.4;
    }
    )

pub failed : (m : Meaning) (xs : List Element) (before given came : List Load) (load : Load) (c : Code) (Comes : LoadKind → List Element → Option Code → Type 0)
    → Left m xs before given (λ ys. Continues m.gives ys (m.all xs).fault (fed.Fault load c) (Comes m.gives)) → came ≡ given ++ load ∷ [] → FinishesAll m xs before came (Some c)
failed m xs before given came load c Comes h more =
    record {
      rest = h.rest ++ load ∷ [];
      whole = one_more before given came h.rest load h.whole more;
      made = record {
        kinds = All-push (λ l. kind_of l ≡ m.gives) h.rest load h.kinds h.holds.0;
        list = ap (λ l. (m.part xs).list ++ l) (sym (flat_map_more elements [] h.rest load) ∙ ap (λ l. elements_of h.rest ++ l) (sym h.holds.1)) ∙ h.list;
        fault = sym h.holds.2;
      };
    }
