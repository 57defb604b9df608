-- Loads that are fed one after another.
use Rattle.std.proofs.Common.{◌≡◌, ◌+◌, ◌<◌, List, [], ◌∷◌, ◌++◌, None, Some, map, length, take, drop, get_or, ap, sym, subst, ◌∙◌}
use Rattle.std.proofs.lemmas.List.{flat_map_more, map-id, take_more, take-append-drop}
use Rattle.std.proofs.lemmas.List.Elements.{All-push}
use Rattle.chunk_core.specs.Elements.{Element, elements, kind_of, elements_of}
use Rattle.chunk_core.specs.Feed.{Meaning, Feeds, Extends}
use Rattle.chunk_core.specs.declared.code.Code.{Code}
use Rattle.chunk_core.specs.declared.feed.Fed.TheVariants as fed
use Rattle.chunk_core.specs.declared.load.Load.{Load}
use Rattle.any_pipe.specs.Pouring.{StopsAtFault, FeedsAll, MakesUp}
use Rattle.std.specs.Prelude.{Option}

-- a load more was fed, and a load more came
made_more : (m : Meaning) (xs : List Element) (ys given : List Load) (load out : Load) (b c : Option Code)
    → MakesUp m xs given b (m.part (xs ++ elements_of ys)) → Extends m (xs ++ elements_of ys) (elements load) out c
    → MakesUp m xs (given ++ out ∷ []) c (m.part (xs ++ elements_of (ys ++ load ∷ [])))
made_more m xs ys given load out b c made ext =
    let fed : (xs ++ elements_of ys) ++ elements load ≡ xs ++ elements_of (ys ++ load ∷ []) = flat_map_more elements xs ys load in
    let came : ((m.part xs).list ++ elements_of given) ++ elements out ≡ (m.part xs).list ++ elements_of (given ++ out ∷ []) = flat_map_more elements (m.part xs).list given out in
    record {
      kinds = All-push (λ l. kind_of l ≡ m.gives) given out made.kinds ext.kind;
      list = sym came ∙ (ap (λ l. l ++ elements out) made.list ∙ (ext.list ∙ ap (λ l. (m.part l).list) fed));
      fault = sym ext.fault ∙ ap (λ l. (m.part l).fault) fed;
    }

-- a load more was fed, and no fault came
pub fed_more : (m : Meaning) (xs : List Element) (ys given : List Load) (load out : Load) (Now New : List Element → Type 0)
    → FeedsAll m xs ys given None Now → Feeds m (xs ++ elements_of ys) (elements load) (fed.Out out) New
    → FeedsAll m xs (ys ++ load ∷ []) (given ++ out ∷ []) None New
fed_more m xs ys given load out Now New so_far answer =
    (made_more m xs ys given load out None None so_far.0 answer.0, subst New (flat_map_more elements xs ys load) answer.1)

-- a load more was fed, and a fault came behind the last load
pub broken_off : (m : Meaning) (xs : List Element) (loads ys given came : List Load) (load out : Load) (c : Code) (Now New : List Element → Type 0)
    → FeedsAll m xs ys given None Now → Feeds m (xs ++ elements_of ys) (elements load) (fed.Fault out c) New → (unfed : List Load) → loads ≡ (ys ++ load ∷ []) ++ unfed
    → came ≡ given ++ out ∷ [] → StopsAtFault m xs loads came c
broken_off m xs loads ys given came load out c Now New so_far answer unfed whole more =
    let made = made_more m xs ys given load out None (Some c) so_far.0 answer in
    record { front = ys ++ load ∷ []; unfed = unfed; whole = whole; made = subst (λ l. MakesUp m xs l (Some c) (m.part (xs ++ elements_of (ys ++ load ∷ [])))) (sym more) made }

-- the turn's load stands behind those before it
pub up_to : (all ys : List Load) (load : Load) → map (λ y. y) ys ≡ take (length ys) all → (length ys < length all) × (load ≡ get_or all (length ys) load)
    → all ≡ (ys ++ load ∷ []) ++ drop (length ys + 1) all
up_to all ys load so_far turn =
    let n = length ys in
    let before : ys ≡ take n all = sym (map-id ys) ∙ so_far in
    let fed : take (n + 1) all ≡ ys ++ load ∷ [] = take_more all n load turn.0 ∙ (ap (λ l. l ++ get_or all n load ∷ []) (sym before) ∙ ap (λ x. ys ++ x ∷ []) (sym turn.1)) in
    sym (take-append-drop (n + 1) all) ∙ ap (λ l. l ++ drop (n + 1) all) fed
