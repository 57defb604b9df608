-- Pieces, and the loads that render them.
use Rattle.std.proofs.Common.{◌≡◌, ◌≢◌, ℕ, Bool, if◌then◌else◌, List, [], ◌∷◌, ◌++◌, map, flat_map, refl, sym, ap, ◌∙◌, ne_eqb}
use Rattle.std.proofs.lemmas.Grind.{flat_map-append}
use Rattle.chunk_core.specs.Elements.{Element, element_text, rendering_of}
use Rattle.chunk_core.specs.Lists.{IsAmong}
use Rattle.chunk_core.specs.Lists.IsAmong.{here, there}
use Rattle.run_rules.specs.Outputs.{elements_in_pieces}
use Rattle.join_tale.specs.Tales.{Body, Message, loads_of}
use Rattle.join_tale.specs.Tales.Body.{End, Load}

-- where the images fall into two parts, so do the elements
pub map_parts : {A B : Type 0} (f : A → B) (zs : List A) (xs ys : List B) → map f zs ≡ xs ++ ys → (ps : List A) × (qs : List A) × (zs ≡ ps ++ qs) × (map f ps ≡ xs) × (map f qs ≡ ys)
map_parts f zs [] ys e = ([], zs, refl, refl, e)
map_parts f [] (x ∷ xs) ys e = cc
map_parts f (z ∷ zs) (x ∷ xs) ys e =
    let same : f z ≡ x = cc in
    let more : map f zs ≡ xs ++ ys = cc in
    let p = map_parts f zs xs ys more in
    (z ∷ p.0, p.1, ap (λ l. z ∷ l) p.2, ap (λ y. y ∷ map f p.0) same ∙ ap (λ l. x ∷ l) p.3, p.4)

-- the loads of pieces render their elements
pub rendered : (pieces : List (List Element)) → flat_map (λ x. x) (map rendering_of pieces) ≡ rendering_of (elements_in_pieces pieces)
rendered [] = refl
rendered (p ∷ pieces) = ap (λ b. rendering_of p ++ b) (rendered pieces) ∙ sym (flat_map-append element_text p (elements_in_pieces pieces))

pub elements_both : (ps qs : List (List Element)) → elements_in_pieces (ps ++ qs) ≡ elements_in_pieces ps ++ elements_in_pieces qs
elements_both ps qs = flat_map-append (λ (xs : List Element). xs) ps qs

abbrev loads_by : Bool → Body → List (List ℕ)
loads_by b body = if b then elim body [ Load x ↦ x ∷ [] | End h ↦ [] ] else []

-- where no message is of stream k, none is a load of it
pub loads_none : (k : ℕ) (ms : List Message) → ((m : Message) → IsAmong m ms → m.stream ≢ k) → loads_of k ms ≡ []
loads_none k [] h = refl
loads_none k (m ∷ ms) h = ap (λ b. loads_by b m.body ++ loads_of k ms) (ne_eqb m.stream k (h m (here ms))) ∙ loads_none k ms (λ n i. h n (there m i))
