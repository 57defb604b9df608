-- What was printed.
use Rattle.std.specs.Prelude.{◌≡◌, ◌⊎◌, ℕ, ◌+◌, ◌<◌, ◌≤◌, true, nat_eq, List, [], ◌∷◌, ◌++◌, map, filter, flat_map, length, Option, Some, None, IfSome}
use Rattle.std.specs.List.{AllByRecursion}
use Rattle.chunk_core.specs.Lists.{IsAmong}
use Rattle.chunk_core.specs.Texts.{Frame, frame_text}
use Rattle.chunk_core.specs.Elements.{Element, rendering_of}
use Rattle.chunk_core.specs.Outcomes.{End, Done, Fault, Cut, Outcomes}
use Rattle.chunk_core.specs.declared.code.How.{How}
use Rattle.chunk_core.specs.declared.code.How.TheVariants as how
use Rattle.device_port.specs.Device.{DeviceTold}
use Rattle.run_rules.specs.declared.end.EndOf.{EndOf}
use Rattle.run_rules.specs.Work.{Work, Stream, Values, RunRecord, begun_frames, inner_ends, most_of, runs_in_turn}

-- the end of a run, as it is reported
abbrev pub IsReported : End → How → Type 0
IsReported Done h = h ≡ how.Done
IsReported (Fault c) h = h ≡ how.Fault c
IsReported Cut h = (h ≡ how.Halted) ⊎ (h ≡ how.Memory)

-- these elements come first in a run of A
abbrev pub StartsRunOf : Outcomes → List Element → Type 0
StartsRunOf A ys = (more : List Element) × (e : End) × A (ys ++ more) e

-- A gives these elements and ends so; of one that was left these are a front, wherever it went on to
abbrev pub RunsOrLeft : Outcomes → Outcomes
RunsOrLeft A ys e = A ys e ⊎ ((e ≡ Cut) × StartsRunOf A ys)

-- the elements of pieces, one piece after another
abbrev pub elements_in_pieces : List (List Element) → List Element
elements_in_pieces pieces = flat_map (λ xs. xs) pieces

-- the payloads of the frames of stream k, in order
abbrev pub payloads_by : ℕ → List Frame → List (List ℕ)
payloads_by k F = map (λ f. f.payload) (filter (λ f. nat_eq f.stream k) F)

module _ (work : Work) (v : Values) (w : ℕ → DeviceTold) (F : List Frame) where
  -- each frame of stream k renders a piece of a run with the end that is reported, or of one that was left
  pub record IsOutput (k : ℕ) (h : How) : Type 0 where
    pub pieces : List (List Element)
    pub end : End
    pub run : RunsOrLeft (work.runs k v w) (elements_in_pieces pieces) end
    pub printed : payloads_by k F ≡ map rendering_of pieces
    pub reported : IsReported end h

  -- each stream from k on has its output
  abbrev pub AreOutputs : ℕ → List Stream → List EndOf → Type 0
  AreOutputs k [] es = es ≡ []
  AreOutputs k (s ∷ ss) [] = ⊥
  AreOutputs k (s ∷ ss) (e ∷ es) = IsOutput k e.how × AreOutputs (k + 1) ss es

  -- the rest is a proper front of the text of a frame, whose payload goes on with a run of its stream
  pub record IsCutFrame (f : Frame) (rest : List ℕ) : Type 0 where
    pub stream : f.stream < length work.streams
    pub some : 0 < length f.payload
    pub more : List ℕ
    pub front : 0 < length more
    pub text : rest ++ more ≡ frame_text f.stream f.payload
    pub pieces : List (List Element)
    pub run : StartsRunOf (work.runs f.stream v w) (elements_in_pieces pieces)
    pub goes_on : payloads_by f.stream F ++ f.payload ∷ [] ≡ map rendering_of pieces

  -- what was written behind the whole frames: a front of the frame whose write failed, else nothing
  abbrev pub IsRest : Option Frame → List ℕ → Type 0
  IsRest None rest = rest ≡ []
  IsRest (Some f) rest = IsCutFrame f rest

-- no frame of a later stream stands before one of an earlier one
abbrev pub NeverFall : List Frame → Type 0
NeverFall F = (A B : List Frame) (f g : Frame) → F ≡ A ++ g ∷ B → IsAmong f A → f.stream ≤ g.stream

pub record HaveOutputs (work : Work) (c : RunRecord) (v : Values) (w : ℕ → DeviceTold) : Type 0 where
  pub numbers : AllByRecursion (λ f. (f.stream < length work.streams) × (0 < length f.payload)) c.frames
  pub few : IfSome (most_of work) (λ n. length (begun_frames c) ≤ n)
  pub in_turn : runs_in_turn work ≡ true → NeverFall (begun_frames c)
  pub outputs : AreOutputs work v w c.frames 0 work.streams (inner_ends work c.ends)
  pub rest : IsRest work v w c.frames c.cut c.rest
