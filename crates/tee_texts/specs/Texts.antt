-- What goes through the channel of a tee.
use Rattle.std.specs.Prelude.{◌≡◌, ◌<◌, ℕ, List, [], ◌∷◌, ◌++◌, flat_map, length}
use Rattle.std.specs.List.{AllByRecursion}
use Rattle.chunk_core.specs.Texts.{Frame}
use Rattle.chunk_core.specs.declared.code.How.{How}
use Rattle.chunk_core.specs.declared.load.Load.TheVariants as load
use Rattle.channel_bounded.specs.declared.message.Body.{Body}
use Rattle.channel_bounded.specs.declared.message.Body.TheVariants as body
use Rattle.channel_bounded.specs.declared.message.Msg.{Msg}

-- an end, or bytes, of which there are some
abbrev pub IsText : Body → Type 0
IsText (body.Load (load.Bytes bytes)) = 0 < length bytes
IsText (body.Load l) = ⊥
IsText (body.End h) = Unit {0}

-- a message of branch k
abbrev pub IsTextOf : ℕ → Msg → Type 0
IsTextOf k m = (m.stream ≡ k) × IsText m.body

-- the message that branch k ended so
abbrev pub end_message : ℕ → How → Msg
end_message k h = record { stream = k; body = body.End h }

-- all that came and is queued are ends and texts
abbrev pub AreTexts : List Msg → List Msg → Type 0
AreTexts got queued = AllByRecursion (λ m. IsText m.body) (got ++ queued)

-- the frame of a text
abbrev pub frames_in_body : ℕ → Body → List Frame
frames_in_body k (body.Load (load.Bytes bytes)) = record { stream = k; payload = bytes } ∷ []
frames_in_body k (body.Load l) = []
frames_in_body k (body.End h) = []

-- the frames of messages in order
abbrev pub frames_in : List Msg → List Frame
frames_in messages = flat_map (λ m. frames_in_body m.stream m.body) messages
