-- A tally, frame by frame.
use Rattle.std.proofs.Common.{◌≡◌, ℕ, ◌+◌, ◌<◌, ◌^◌, List, [], ◌∷◌, ◌++◌, length, ap, arith}
use Rattle.std.proofs.lemmas.List.Sums.{sum_by-cons}
use Rattle.chunk_core.specs.Texts.{Frame, frame_text, frames_text}
use Rattle.gen_case.specs.Tally.{AreNumbered, bytes_in, digit_sum, digits_in, tally_of}
use Rattle.gen_case.specs.declared.tally.Tally.{Tally}

-- with the frames that are left, the rest of the text, the tally comes to that of all frames
pub record GoesOn (t : Tally) (F : List Frame) (rest : List ℕ) : Type 0 where
  pub left : List Frame
  pub numbered : AreNumbered left
  pub text : rest ≡ frames_text left
  pub frames : t.frames + length left ≡ length F
  pub bytes : t.bytes + bytes_in left ≡ bytes_in F
  pub digits : t.digits + digits_in left ≡ digits_in F

pub begun : (t : Tally) (F : List Frame) (out : List ℕ) → t.frames ≡ 0 → t.bytes ≡ 0 → t.digits ≡ 0 → AreNumbered F → out ≡ frames_text F → GoesOn t F out
begun t F out f b d n e = record { left = F; numbered = n; text = e; frames = omega arith; bytes = omega arith; digits = omega arith }

same_tally : (t : Tally) (f b d : ℕ) → t.frames ≡ f → t.bytes ≡ b → t.digits ≡ d → t ≡ record { frames = f; bytes = b; digits = d }
same_tally t f b d x y z = λ i. record { frames = x i; bytes = y i; digits = z i }

module _ (t : Tally) (F : List Frame) (rest : List ℕ) where
  stopped_at : (left : List Frame) → AreNumbered left → rest ≡ frames_text left → t.frames + length left ≡ length F → t.bytes + bytes_in left ≡ bytes_in F → t.digits + digits_in left ≡ digits_in F
      → ((f : Frame) (back : List ℕ) → f.stream < 2 ^ 32 → rest ≡ frame_text f.stream f.payload ++ back → ⊥) → t ≡ tally_of F
  stopped_at [] n e f b d none = same_tally t (length F) (bytes_in F) (digits_in F) (omega arith) (omega arith) (omega arith)
  stopped_at (x ∷ left) n e f b d none = absurd (none x (frames_text left) n.0 e)

  -- where the rest begins with no frame, the tally is that of all frames
  pub stopped : ((f : Frame) (back : List ℕ) → f.stream < 2 ^ 32 → rest ≡ frame_text f.stream f.payload ++ back → ⊥) → GoesOn t F rest → t ≡ tally_of F
  stopped none g = stopped_at g.left g.numbered g.text g.frames g.bytes g.digits none

  module _ (u : Tally) (payload back : List ℕ) (first : (f : Frame) (more : List ℕ) → f.stream < 2 ^ 32 → rest ≡ frame_text f.stream f.payload ++ more → (payload ≡ f.payload) × (back ≡ more))
      (some : 0 < length rest) (frames : u.frames ≡ t.frames + 1) (bytes : u.bytes ≡ t.bytes + length payload) (digits : u.digits ≡ t.digits + digit_sum payload) where
    next_at : (left : List Frame) → AreNumbered left → rest ≡ frames_text left → t.frames + length left ≡ length F → t.bytes + bytes_in left ≡ bytes_in F → t.digits + digits_in left ≡ digits_in F → GoesOn u F back
    next_at [] n e f b d = absurd (omega (arith, ap length e))
    next_at (x ∷ left) n e f b d =
        let p = first x (frames_text left) n.0 e in
        let long : length payload ≡ length x.payload = ap length p.0 in
        let sum : digit_sum payload ≡ digit_sum x.payload = ap digit_sum p.0 in
        let more : bytes_in (x ∷ left) ≡ length x.payload + bytes_in left = sum_by-cons (λ y. length y.payload) x left in
        let values : digits_in (x ∷ left) ≡ digit_sum x.payload + digits_in left = sum_by-cons (λ y. digit_sum y.payload) x left in
        record { left = left; numbered = n.1; text = p.1; frames = omega arith; bytes = omega arith; digits = omega arith }

    -- the first frame of the rest is counted
    pub next : GoesOn t F rest → GoesOn u F back
    next g = next_at g.left g.numbered g.text g.frames g.bytes g.digits
