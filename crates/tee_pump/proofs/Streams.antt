-- The frames of one branch among those of all, by what it said.
use Rattle.std.proofs.Common.{◌≡◌, ◌==◌, ℕ, ◌<◌, Bool, true, false, cond, List, [], ◌∷◌, ◌++◌, map, filter, length, refl, ap, ◌∙◌, eq-eqb, append-nil}
use Rattle.std.specs.Prelude.{nat_eq}
use Rattle.std.specs.List.{AllByRecursion, flat_map}
use Rattle.std.proofs.lemmas.Grind.{flat_map-append}
use Rattle.std.proofs.lemmas.List.{map-append}
use Rattle.std.proofs.lemmas.List.Elements.{filter-append}
use Rattle.chunk_core.proofs.Each.{each_append}
use Rattle.chunk_core.proofs.Filters.{filter_among}
use Rattle.chunk_core.specs.Elements.{Element, rendering_of}
use Rattle.chunk_core.specs.Lists.{IsAmong}
use Rattle.chunk_core.specs.Texts.{Frame}
use Rattle.chunk_core.specs.declared.code.How.{How}
use Rattle.chunk_core.specs.declared.load.Load.TheVariants as load
use Rattle.channel_bounded.specs.Streams.{of_stream}
use Rattle.channel_bounded.specs.declared.message.Body.{Body}
use Rattle.channel_bounded.specs.declared.message.Body.TheVariants as body
use Rattle.channel_bounded.specs.declared.message.Msg.{Msg}
use Rattle.pull_nodes.specs.Plain.{IsFront}
use Rattle.run_rules.specs.Outputs.{payloads_by}
use Rattle.tee_branches.specs.Messages.{text_message, text_messages}
use Rattle.tee_texts.specs.Texts.{IsText, end_message, frames_in, frames_in_body}
use Rattle.tee_pump.proofs.Fronts.{last_alone, not_mapped}

pub stream_among : (k : ℕ) (m : Msg) (ms : List Msg) → m.stream ≡ k → IsAmong m ms → IsAmong m (of_stream k ms)
stream_among k m ms e i = filter_among (λ (x : Msg). x.stream == k) m ms i (eq-eqb m.stream k e)

pub stream_append : (k : ℕ) (xs ys : List Msg) → of_stream k (xs ++ ys) ≡ of_stream k xs ++ of_stream k ys
stream_append k xs ys = filter-append (λ (x : Msg). x.stream == k) xs ys

pub stream_front : (k : ℕ) (xs ys : List Msg) → IsFront xs ys → IsFront (of_stream k xs) (of_stream k ys)
stream_front k xs ys f = (of_stream k f.0, ap (of_stream k) f.1 ∙ stream_append k xs f.0)

not_text : (i k : ℕ) (h : How) (p : List Element) → end_message i h ≡ text_message k p → ⊥
not_text i k h p e = let b : body.End h ≡ body.Load (load.Bytes (rendering_of p)) = ap (λ (m : Msg). m.body) e in cc

same_end : (h g : How) → body.End h ≡ body.End g → h ≡ g
same_end h g e = cc

-- of a branch that said these pieces and then its end
pub end_said : (i : ℕ) (h g : How) (pieces : List (List Element)) → IsAmong (end_message i h) (text_messages i pieces ++ end_message i g ∷ []) → h ≡ g
end_said i h g pieces m = same_end h g (ap (λ (x : Msg). x.body) (last_alone (text_message i) (end_message i g) (end_message i h) (not_text i i h) pieces m))

pub no_end_said : (i : ℕ) (h : How) (pieces : List (List Element)) → IsAmong (end_message i h) (text_messages i pieces) → ⊥
no_end_said i h pieces m = not_mapped (text_message i) (end_message i h) (not_text i i h) pieces m

-- the payload of a text
abbrev pub payload_in : Body → List (List ℕ)
payload_in (body.Load (load.Bytes bytes)) = bytes ∷ []
payload_in (body.Load l) = []
payload_in (body.End h) = []

abbrev pub payloads_in : List Msg → List (List ℕ)
payloads_in ms = flat_map (λ (m : Msg). payload_in m.body) ms

by_append : (k : ℕ) (F G : List Frame) → payloads_by k (F ++ G) ≡ payloads_by k F ++ payloads_by k G
by_append k F G = ap (map (λ (f : Frame). f.payload)) (filter-append (λ (f : Frame). nat_eq f.stream k) F G) ∙ map-append (λ (f : Frame). f.payload) (filter (λ (f : Frame). nat_eq f.stream k) F) (filter (λ (f : Frame). nat_eq f.stream k) G)

by_body : (k j : ℕ) (b : Body) → payloads_by k (frames_in_body j b) ≡ cond (nat_eq j k) (payload_in b) []
by_body k j (body.Load (load.Bytes bytes)) = elim (nat_eq j k) as (λ c. map (λ (f : Frame). f.payload) (cond c ((record { stream = j; payload = bytes }) ∷ []) []) ≡ cond c (bytes ∷ []) []) [ true ↦ refl | false ↦ refl ]
by_body k j (body.Load (load.Lines l)) = elim (nat_eq j k) as (λ c. let x : List (List ℕ) = [] in x ≡ cond c [] []) [ true ↦ refl | false ↦ refl ]
by_body k j (body.Load (load.Rows l)) = elim (nat_eq j k) as (λ c. let x : List (List ℕ) = [] in x ≡ cond c [] []) [ true ↦ refl | false ↦ refl ]
by_body k j (body.End h) = elim (nat_eq j k) as (λ c. let x : List (List ℕ) = [] in x ≡ cond c [] []) [ true ↦ refl | false ↦ refl ]

one_more : (c : Bool) (m : Msg) (ms : List Msg) → cond c (payload_in m.body) [] ++ payloads_in ms ≡ payloads_in (cond c (m ∷ ms) ms)
one_more true m ms = refl
one_more false m ms = refl

-- the payloads of the frames of branch k are those of its own texts
pub payloads_of_stream : (k : ℕ) (ms : List Msg) → payloads_by k (frames_in ms) ≡ payloads_in (of_stream k ms)
payloads_of_stream k [] = refl
payloads_of_stream k (m ∷ ms) =
    by_append k (frames_in_body m.stream m.body) (frames_in ms)
    ∙ (ap (λ l. l ++ payloads_by k (frames_in ms)) (by_body k m.stream m.body)
    ∙ (ap (λ l. cond (nat_eq m.stream k) (payload_in m.body) [] ++ l) (payloads_of_stream k ms)
    ∙ one_more (nat_eq m.stream k) m (of_stream k ms)))

pub payloads_of_texts : (k : ℕ) (pieces : List (List Element)) → payloads_in (text_messages k pieces) ≡ map rendering_of pieces
payloads_of_texts k [] = refl
payloads_of_texts k (p ∷ ps) = ap (λ l. rendering_of p ∷ l) (payloads_of_texts k ps)

pub payloads_and_end : (k : ℕ) (pieces : List (List Element)) (h : How) → payloads_in (text_messages k pieces ++ end_message k h ∷ []) ≡ map rendering_of pieces
payloads_and_end k pieces h = flat_map-append (λ (m : Msg). payload_in m.body) (text_messages k pieces) (end_message k h ∷ []) ∙ (append-nil (payloads_in (text_messages k pieces)) ∙ payloads_of_texts k pieces)

-- frames of texts of the first n branches are of them, and have something in them
text_numbered : (n k : ℕ) (b : Body) → k < n → IsText b → AllByRecursion (λ (f : Frame). (f.stream < n) × (0 < length f.payload)) (frames_in_body k b)
text_numbered n k (body.Load (load.Bytes bytes)) l t = ((l, t), tt)
text_numbered n k (body.Load (load.Lines x)) l t = absurd t
text_numbered n k (body.Load (load.Rows x)) l t = absurd t
text_numbered n k (body.End h) l t = tt

pub frames_numbered : (n : ℕ) (ms : List Msg) → AllByRecursion (λ (m : Msg). (m.stream < n) × IsText m.body) ms → AllByRecursion (λ (f : Frame). (f.stream < n) × (0 < length f.payload)) (frames_in ms)
frames_numbered n [] h = tt
frames_numbered n (m ∷ ms) h = each_append (λ (f : Frame). (f.stream < n) × (0 < length f.payload)) (frames_in_body m.stream m.body) (frames_in ms) (text_numbered n m.stream m.body h.0.0 h.0.1) (frames_numbered n ms h.1)
