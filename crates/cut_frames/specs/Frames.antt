-- Where a reader of frames stands, and where they go on no further.
use Rattle.std.specs.Prelude.{◌≡◌, ◌≢◌, ◌⊎◌, ℕ, ◌+◌, ◌<◌, ◌≤◌, ◌^◌, Bool, true, nat_eq, if◌then◌else◌, List, [], ◌++◌, All, length, take, flat_map, get_or, Option, Some, None}
use Rattle.std.specs.List.{AllByRecursion}
use Rattle.chunk_core.specs.Texts.{Frame, frames_text, payloads_of}
use Rattle.cut_frames.specs.Heads.{HasNoHead, head_text}
use Rattle.cut_frames.specs.declared.step.Place.{Place}
use Rattle.cut_frames.specs.declared.step.Place.TheVariants.{Between, Within}
use Rattle.cut_frames.specs.declared.step.Step.{Step}
use Rattle.cut_frames.specs.declared.step.Step.TheVariants.{Takes, Waits, Refuses}

-- both numbers of a frame's head are below 2^64
abbrev pub IsSmallFrame : Frame → Type 0
IsSmallFrame f = (f.stream < 2 ^ 64) × (length f.payload < 2 ^ 64)

-- the payloads of the stream that is asked for, or of all where none is
abbrev pub chosen : Option ℕ → List Frame → List ℕ
chosen None F = flat_map (λ f. f.payload) F
chosen (Some k) F = payloads_of k F

-- whether the frames of stream j are asked for
abbrev pub is_chosen : Option ℕ → ℕ → Bool
is_chosen None j = true
is_chosen (Some k) j = nat_eq j k

-- so many bytes of what a reader has behind a front that it took stand within a payload, of which the bytes p were taken
pub record IsWithin (wanted : Option ℕ) (left : ℕ) (gives : Bool) (front given : List ℕ) : Type 0 where
  pub frames : List Frame
  pub small : AllByRecursion IsSmallFrame frames
  pub stream : ℕ
  pub taken : List ℕ
  pub fits : (stream < 2 ^ 64) × (length taken + left < 2 ^ 64)
  pub is_asked_for : gives ≡ is_chosen wanted stream
  pub text : front ≡ frames_text frames ++ (head_text stream (length taken + left) ++ taken)
  pub out : given ≡ chosen wanted frames ++ (if gives then taken else [])

-- the front is whole frames, whose payloads were given
pub record IsBetween (wanted : Option ℕ) (front given : List ℕ) : Type 0 where
  pub frames : List Frame
  pub small : AllByRecursion IsSmallFrame frames
  pub text : front ≡ frames_text frames
  pub out : given ≡ chosen wanted frames

-- the place is where a reader stands who took this front and gave these bytes
abbrev pub Stands : Option ℕ → Place → List ℕ → List ℕ → Type 0
Stands wanted Between front given = IsBetween wanted front given
Stands wanted (Within left gives) front given = IsWithin wanted left gives front given

-- a digit, by which a head begins, and no line of a tail
abbrev pub IsDigit : ℕ → Type 0
IsDigit c = (48 ≤ c) × (c ≤ 57)

-- more than any head has
abbrev pub most_head : ℕ
most_head = 42

-- The text behind the place doesn't go on as frames do: behind a payload stands no LF; or it begins with a digit and with no head, and goes on behind
-- its first line, or is longer than heads are.
abbrev pub IsWrong : Place → List ℕ → Type 0
IsWrong Between text = IsDigit (get_or text 0 0) × HasNoHead text × ((most_head ≤ length text) ⊎ ¬ (All (λ c. c ≢ 10) text))
IsWrong (Within left gives) text = (left ≡ 0) × (0 < length text) × (get_or text 0 0 ≢ 10)

-- more is to come before anything can be taken: a head that isn't ended; or the frames are over
abbrev pub IsHeld : Place → List ℕ → Type 0
IsHeld Between text = ¬ (IsDigit (get_or text 0 0)) ⊎ ((length text < most_head) × All (λ c. c ≢ 10) text)
IsHeld (Within left gives) text = text ≡ []

-- what a step tells of the text behind the place
abbrev pub Steps : Option ℕ → Place → List ℕ → Step → Type 0
Steps wanted place text (Takes n gives next) = (1 ≤ n) × (n ≤ length text)
    × ((front given : List ℕ) → Stands wanted place front given → Stands wanted next (front ++ take n text) (given ++ (if gives then take n text else [])))
Steps wanted place text Waits = IsHeld place text
Steps wanted place text Refuses = IsWrong place text
