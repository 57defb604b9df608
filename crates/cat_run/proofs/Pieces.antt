-- The frames of pieces, and their bytes.
use Rattle.std.proofs.Common.{◌≡◌, ℕ, ◌<◌, ◌≤◌, Bool, true, false, cond, nat_eq, List, [], ◌∷◌, ◌++◌, length, filter, flat_map, map, Option, Some, None, is_some, refl, sym, ◌∙◌, ap, arith, length-append}
use Rattle.std.proofs.lemmas.Grind.{flat_map-append}
use Rattle.std.specs.List.{AllByRecursion}
use Rattle.chunk_core.specs.Elements.{Element, element_text, rendering_of}
use Rattle.chunk_core.specs.Elements.Element.{Byte}
use Rattle.chunk_core.specs.Texts.{Frame, payloads_of}
use Rattle.frames.proofs.Rendered.{rendering_some}
use Rattle.run_rules.specs.Outputs.{elements_in_pieces, payloads_by}
use Rattle.cat_run.specs.Alone.{IsByte, IsSmallPiece, frame_of}
use Rattle.chunk_core.proofs.Bools.{itself}
use Rattle.chunk_core.proofs.Each.{each_left, each_right}

-- the payloads render the elements
pub payloads_pieces : (k : ℕ) (pieces : List (List Element)) → payloads_of k (map (frame_of k) pieces) ≡ rendering_of (elements_in_pieces pieces)
payloads_pieces k [] = refl
payloads_pieces k (p ∷ pieces) =
    ap (λ b. flat_map (λ (f : Frame). f.payload) (cond b (frame_of k p ∷ filter (λ f. nat_eq f.stream k) (map (frame_of k) pieces)) (filter (λ f. nat_eq f.stream k) (map (frame_of k) pieces)))) (itself k)
    ∙ (ap (λ b. rendering_of p ++ b) (payloads_pieces k pieces) ∙ sym (flat_map-append element_text p (elements_in_pieces pieces)))

-- the payloads of these frames are the texts of the pieces
pub frames_pieces : (k : ℕ) (pieces : List (List Element)) → payloads_by k (map (frame_of k) pieces) ≡ map rendering_of pieces
frames_pieces k [] = refl
frames_pieces k (p ∷ pieces) =
    ap (λ b. map (λ (f : Frame). f.payload) (cond b (frame_of k p ∷ filter (λ f. nat_eq f.stream k) (map (frame_of k) pieces)) (filter (λ f. nat_eq f.stream k) (map (frame_of k) pieces)))) (itself k)
    ∙ ap (λ b. rendering_of p ∷ b) (frames_pieces k pieces)

pub pieces_numbers : (k n : ℕ) → k < n → (pieces : List (List Element)) → AllByRecursion IsSmallPiece pieces → AllByRecursion (λ f. (f.stream < n) × (0 < length f.payload)) (map (frame_of k) pieces)
pieces_numbers k n l [] h = tt
pieces_numbers k n l (p ∷ pieces) h = ((l, rendering_some p h.0), pieces_numbers k n l pieces h.1)

-- the frame of the piece that was next, where its write failed
abbrev pub cut_of : ℕ → Bool → List Element → Option Frame
cut_of k true next = Some (frame_of k next)
cut_of k false next = None

pub cut_is : (k : ℕ) (failed : Bool) (next : List Element) → is_some (cut_of k failed next) ≡ failed
cut_is k true next = refl
cut_is k false next = refl

-- Bytes.

pub bytes_are : (bytes : List ℕ) → AllByRecursion IsByte (map Byte bytes)
bytes_are [] = tt
bytes_are (b ∷ bytes) = ((b, refl), bytes_are bytes)

pub bytes_length : (xs : List Element) → AllByRecursion IsByte xs → length (rendering_of xs) ≡ length xs
bytes_length [] h = refl
bytes_length (x ∷ xs) h =
    let one : length (element_text x) ≡ 1 = ap (λ y. length (element_text y)) h.0.1 in
    let rest = bytes_length xs h.1 in
    omega (arith, one, rest, length-append (element_text x) (rendering_of xs))

-- each frame of bytes has at most size of them
pub pieces_fit : (k size : ℕ) (pieces : List (List Element)) → AllByRecursion (λ xs. length xs ≤ size) pieces → AllByRecursion IsByte (elements_in_pieces pieces) → AllByRecursion (λ f. length f.payload ≤ size) (map (frame_of k) pieces)
pieces_fit k size [] h b = tt
pieces_fit k size (p ∷ pieces) h b = (omega (arith, h.0, bytes_length p (each_left IsByte p (elements_in_pieces pieces) b)), pieces_fit k size pieces h.1 (each_right IsByte p (elements_in_pieces pieces) b))
