-- What was received of a stream are the texts of its loads.
use Rattle.std.proofs.Common.{◌≡◌, ℕ, Bool, true, false, nat_eq, if◌then◌else◌, List, [], ◌∷◌, ◌++◌, map, refl, sym, ◌∙◌, ap}
use Rattle.std.proofs.lemmas.Grind.{flat_map-append}
use Rattle.std.proofs.lemmas.List.Folds.{flat_map-map}
use Rattle.channel_bounded.specs.declared.message.Msg.{Msg}
use Rattle.channel_bounded.specs.Streams.{of_stream}
use Rattle.chunk_core.specs.Elements.{Element, elements, elements_of, rendering_of}
use Rattle.chunk_core.specs.declared.code.How.{How}
use Rattle.chunk_core.specs.declared.load.Load.{Load}
use Rattle.chunk_core.proofs.Bools.{itself}
use Rattle.join_tale.specs.Tales as tales
use Rattle.join_tale.specs.Tales.{Tale, loads_in, loads_of, loads_received}
use Rattle.run_rules.specs.Outputs.{elements_in_pieces}
use Rattle.stream_jobs.specs.Messages.{AreTextsOf, end_message, load_messages, text_of}
use Rattle.dealt_streams.specs.Kept.{told_message}

-- the load of a message
abbrev found_in : Msg → List (List ℕ)
found_in m = elim (told_message m).body [ tales.Body.Load x ↦ x ∷ [] | tales.Body.End h ↦ [] ]

-- messages of other streams have none of its loads
loads_chosen : (k : ℕ) (ms : List Msg) → loads_of k (map told_message ms) ≡ loads_of k (map told_message (of_stream k ms))
loads_chosen k [] = refl
loads_chosen k (m ∷ ms) = by_test (loads_chosen k ms) (nat_eq m.stream k) refl
  where
    by_test : loads_of k (map told_message ms) ≡ loads_of k (map told_message (of_stream k ms)) → (c : Bool) → nat_eq m.stream k ≡ c → (if nat_eq m.stream k then found_in m else []) ++ loads_of k (map told_message ms) ≡ loads_of k (map told_message (if nat_eq m.stream k then m ∷ of_stream k ms else of_stream k ms))
    by_test i true e =
        ap (λ c. (if c then found_in m else []) ++ loads_of k (map told_message ms)) e
        ∙ (ap (λ l. found_in m ++ l) i
        ∙ (sym (ap (λ c. (if c then found_in m else []) ++ loads_of k (map told_message (of_stream k ms))) e) ∙ sym (ap (λ c. loads_of k (map told_message (if c then m ∷ of_stream k ms else of_stream k ms))) e)))
    by_test i false e =
        ap (λ c. (if c then found_in m else []) ++ loads_of k (map told_message ms)) e ∙ (i ∙ sym (ap (λ c. loads_of k (map told_message (if c then m ∷ of_stream k ms else of_stream k ms))) e))

-- what is printed of what a stream sent
loads_sent : (k : ℕ) (loads : List Load) (h : How) → loads_of k (map told_message (load_messages k loads ++ end_message k h ∷ [])) ≡ map text_of loads
loads_sent k [] h = ap (λ c. (if c then ◌++◌ {A = List ℕ} [] [] else []) ++ []) (itself k)
loads_sent k (l ∷ loads) h = ap (λ c. (if c then rendering_of (elements l) ∷ [] else []) ++ loads_of k (map told_message (load_messages k loads ++ end_message k h ∷ []))) (itself k) ∙ ap (λ xs. rendering_of (elements l) ∷ xs) (loads_sent k loads h)

pub loads_got : (k : ℕ) (t : Tale) (got : List Msg) (loads texts : List Load) (h : How) → map told_message got ≡ t.front ++ t.late → AreTextsOf loads texts → of_stream k got ≡ load_messages k texts ++ end_message k h ∷ [] → loads_received k t ≡ map rendering_of (map elements loads)
loads_got k t got loads texts h all are sent =
    sym (flat_map-append (loads_in k) t.front t.late)
    ∙ (ap (loads_of k) (sym all) ∙ (loads_chosen k got ∙ (ap (λ ms. loads_of k (map told_message ms)) sent ∙ (loads_sent k texts h ∙ (are.same ∙ twice loads)))))
  where
    twice : (xs : List Load) → map text_of xs ≡ map rendering_of (map elements xs)
    twice [] = refl
    twice (x ∷ xs) = ap (λ l. rendering_of (elements x) ∷ l) (twice xs)

-- the elements of its loads, piece by piece
pub in_pieces : (loads : List Load) → elements_of loads ≡ elements_in_pieces (map elements loads)
in_pieces loads = sym (flat_map-map (λ (xs : List Element). xs) elements loads)
