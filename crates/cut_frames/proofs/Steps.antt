-- What is taken of a text of frames.
use Rattle.std.proofs.Common.{◌≡◌, ℕ, ◌+◌, ◌-◌, ◌<◌, ◌≤◌, ◌^◌, Bool, true, false, cond, nat_eq, if◌then◌else◌, List, [], ◌∷◌, ◌++◌, length, get_or, take, filter, flat_map, Option, Some, None, decimal, refl, sym, ap, ◌∙◌, arith, append_assoc, length-append}
use Rattle.std.proofs.lemmas.List.{append-nil}
use Rattle.std.proofs.lemmas.Bool.{eqb-false}
use Rattle.std.proofs.lemmas.Grind.{flat_map-append}
use Rattle.std.proofs.lemmas.List.Elements.{filter-append}
use Rattle.std.proofs.Math.Seq.{take-append_seam}
use Rattle.chunk_core.proofs.Each.{each_snoc}
use Rattle.chunk_core.specs.Texts.{Frame, frame_text, frames_text, payloads_of}
use Rattle.cut_frames.specs.Heads.{head_text}
use Rattle.cut_frames.specs.Frames.{IsBetween, IsSmallFrame, IsWithin, chosen, is_chosen}

-- a frame's text is its head, its payload and an LF
pub frame_is : (k : ℕ) (p : List ℕ) → frame_text k p ≡ (head_text k (length p) ++ p) ++ 10 ∷ []
frame_is k p =
    ap (λ l. decimal k ++ (32 ∷ l)) (sym (append_assoc (decimal (length p)) (10 ∷ []) (p ++ 10 ∷ [])))
    ∙ sym (append_assoc (decimal k) (32 ∷ []) ((decimal (length p) ++ 10 ∷ []) ++ (p ++ 10 ∷ [])))
    ∙ sym (append_assoc (decimal k ++ 32 ∷ []) (decimal (length p) ++ 10 ∷ []) (p ++ 10 ∷ []))
    ∙ sym (append_assoc (head_text k (length p)) p (10 ∷ []))

-- one frame more
pub text_more : (F : List Frame) (f : Frame) → frames_text (F ++ f ∷ []) ≡ frames_text F ++ ((head_text f.stream (length f.payload) ++ f.payload) ++ 10 ∷ [])
text_more F f = flat_map-append (λ (g : Frame). frame_text g.stream g.payload) F (f ∷ []) ∙ ap (λ l. frames_text F ++ l) (append-nil (frame_text f.stream f.payload) ∙ frame_is f.stream f.payload)

given_if : (b : Bool) (f : Frame) → flat_map (λ (g : Frame). g.payload) (cond b (f ∷ []) []) ≡ (if b then f.payload else [])
given_if true f = append-nil f.payload
given_if false f = refl

pub chosen_more : (wanted : Option ℕ) (F : List Frame) (f : Frame) → chosen wanted (F ++ f ∷ []) ≡ chosen wanted F ++ (if is_chosen wanted f.stream then f.payload else [])
chosen_more None F f = flat_map-append (λ (g : Frame). g.payload) F (f ∷ []) ∙ ap (λ l. chosen None F ++ l) (append-nil f.payload)
chosen_more (Some k) F f =
    ap (flat_map (λ (g : Frame). g.payload)) (filter-append (λ (g : Frame). nat_eq g.stream k) F (f ∷ []))
    ∙ flat_map-append (λ (g : Frame). g.payload) (filter (λ (g : Frame). nat_eq g.stream k) F) (filter (λ (g : Frame). nat_eq g.stream k) (f ∷ []))
    ∙ ap (λ l. payloads_of k F ++ l) (given_if (nat_eq f.stream k) f)

nothing : (b : Bool) (xs : List ℕ) → xs ≡ [] → (if b then xs else []) ≡ []
nothing true xs e = e
nothing false xs e = refl

-- the front of a text, by what is left of it
pub front_of : (text h rest : List ℕ) → text ≡ h ++ rest → take (length text - length rest) text ≡ h
front_of text h rest is =
    let count : length text - length rest ≡ length h = omega (arith, ap (λ l. length l) is, length-append h rest) in
    ap (λ n. take n text) count ∙ ap (λ l. take (length h) l) is ∙ take-append_seam h rest

module _ (wanted : Option ℕ) (front given : List ℕ) where
  -- a head was taken
  pub took_head : (k n : ℕ) → k < 2 ^ 64 → n < 2 ^ 64 → (head : List ℕ) → head ≡ head_text k n → IsBetween wanted front given → IsWithin wanted n (is_chosen wanted k) (front ++ head) (given ++ [])
  took_head k n small fits head is b = let none : 0 + n ≡ n = omega arith in record {
    frames = b.frames;
    small = b.small;
    stream = k;
    taken = [];
    fits = (small, omega (arith, fits, none));
    is_asked_for = refl;
    text = ap (λ l. l ++ head) b.text ∙ ap (λ l. frames_text b.frames ++ l) (is ∙ sym (append-nil (head_text k n)) ∙ ap (λ m. head_text k m ++ []) (sym none));
    out = append-nil given ∙ b.out ∙ sym (append-nil (chosen wanted b.frames)) ∙ ap (λ l. chosen wanted b.frames ++ l) (sym (nothing (is_chosen wanted k) [] refl));
  }

  -- the LF behind a payload was taken
  pub took_end : (gives : Bool) (end : List ℕ) → end ≡ 10 ∷ [] → IsWithin wanted 0 gives front given → IsBetween wanted (front ++ end) (given ++ [])
  took_end gives end is w =
      let f : Frame = record { stream = w.stream; payload = w.taken } in
      let size : length w.taken + 0 ≡ length w.taken = omega arith in
      record {
        frames = w.frames ++ f ∷ [];
        small = each_snoc IsSmallFrame w.frames f w.small (let g = w.fits in (g.0, omega (arith, g.1)));
        text = ap (λ l. l ++ end) (w.text ∙ ap (λ n. frames_text w.frames ++ (head_text w.stream n ++ w.taken)) size) ∙ ap (λ l. (frames_text w.frames ++ (head_text w.stream (length w.taken) ++ w.taken)) ++ l) is
            ∙ append_assoc (frames_text w.frames) (head_text w.stream (length w.taken) ++ w.taken) (10 ∷ []) ∙ sym (text_more w.frames f);
        out = append-nil given ∙ w.out ∙ ap (λ b. chosen wanted w.frames ++ (if b then w.taken else [])) w.is_asked_for ∙ sym (chosen_more wanted w.frames f);
      }

  given_more : (gives : Bool) (xs ys zs : List ℕ) → (xs ++ (if gives then ys else [])) ++ (if gives then zs else []) ≡ xs ++ (if gives then ys ++ zs else [])
  given_more true xs ys zs = append_assoc xs ys zs
  given_more false xs ys zs = append_assoc xs [] []

  -- a part of a payload was taken
  pub took_part : (left count : ℕ) (gives : Bool) (part : List ℕ) → length part ≡ count → count ≤ left → IsWithin wanted left gives front given
      → IsWithin wanted (left - count) gives (front ++ part) (given ++ (if gives then part else []))
  took_part left count gives part size few w =
      let whole : length w.taken + left ≡ length (w.taken ++ part) + (left - count) = omega (arith, size, few, length-append w.taken part) in
      record {
        frames = w.frames;
        small = w.small;
        stream = w.stream;
        taken = w.taken ++ part;
        fits = let g = w.fits in (g.0, omega (arith, g.1, whole));
        is_asked_for = w.is_asked_for;
        text = ap (λ l. l ++ part) w.text ∙ append_assoc (frames_text w.frames) (head_text w.stream (length w.taken + left) ++ w.taken) part
            ∙ ap (λ l. frames_text w.frames ++ l) (append_assoc (head_text w.stream (length w.taken + left)) w.taken part ∙ ap (λ n. head_text w.stream n ++ (w.taken ++ part)) whole);
        out = ap (λ l. l ++ (if gives then part else [])) w.out ∙ given_more gives (chosen wanted w.frames) w.taken part;
      }

pub some_bytes : (text : List ℕ) → nat_eq (length text) 0 ≡ false → 1 ≤ length text
some_bytes text e = omega (arith, eqb-false (length text) 0 e)

pub first_byte : (text : List ℕ) (c : ℕ) → 1 ≤ length text → get_or text 0 0 ≡ c → take 1 text ≡ c ∷ []
first_byte [] c full e = absurd (omega (arith, full))
first_byte (x ∷ xs) c full e = ap (λ y. y ∷ []) e

pub head_is_some : (k n : ℕ) → k < 2 ^ 64 → 1 ≤ length (head_text k n)
head_is_some k n small = omega (arith, length-append (decimal k ++ 32 ∷ []) (decimal n ++ 10 ∷ []), length-append (decimal k) (32 ∷ []))
