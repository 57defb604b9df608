-- What a branch receives, and what it says.
use Rattle.std.specs.Prelude.{◌≡◌, ◌⊎◌, ℕ, ◌<◌, List, [], ◌∷◌, ◌++◌, map, length, Option, Some, None}
use Rattle.std.specs.List.{AllByRecursion}
use Rattle.chunk_core.specs.Elements.{Bytes, Element, elements_of, kind_of, rendering_of}
use Rattle.chunk_core.specs.Feed.{Given, Meaning}
use Rattle.chunk_core.specs.Outcomes.{Cut, Done, End}
use Rattle.chunk_core.specs.declared.code.How.{How}
use Rattle.chunk_core.specs.declared.code.How.TheVariants as how
use Rattle.chunk_core.specs.declared.load.Load.{Load}
use Rattle.chunk_core.specs.declared.load.Load.TheVariants as load
use Rattle.channel_bounded.specs.declared.message.Body.{Body}
use Rattle.channel_bounded.specs.declared.message.Body.TheVariants as body
use Rattle.channel_bounded.specs.declared.message.Msg.{Msg}
use Rattle.pull_nodes.specs.Plain.{IsFront}
use Rattle.run_rules.specs.Outputs.{elements_in_pieces}

-- the message with what is printed of a piece
abbrev pub text_message : ℕ → List Element → Msg
text_message k piece = record { stream = k; body = body.Load (load.Bytes (rendering_of piece)) }

-- one message for each piece
abbrev pub text_messages : ℕ → List (List Element) → List Msg
text_messages k pieces = map (text_message k) pieces

-- none or one
abbrev pub held : Option Msg → List Msg
held None = []
held (Some m) = m ∷ []

-- branch k said these elements, in pieces
pub record Says (k : ℕ) (said : List Msg) (ys : List Element) : Type 0 where
  pub pieces : List (List Element)
  pub filled : AllByRecursion (λ p. 0 < length p) pieces
  pub messages : said ≡ text_messages k pieces
  pub all : elements_in_pieces pieces ≡ ys

-- what is said of elements that came: nothing where there are none
abbrev pub IsNews : ℕ → List Element → Option Msg → Type 0
IsNews k ys message = ((ys ≡ []) × (message ≡ None)) ⊎ ((0 < length ys) × (message ≡ Some (text_message k ys)))

-- loads of bytes were received, of these elements
pub record AreReceived (got : List Body) (xs : List Element) : Type 0 where
  pub loads : List Load
  pub got_is : got ≡ map body.Load loads
  pub kinds : AllByRecursion (λ l. kind_of l ≡ Bytes) loads
  pub all : xs ≡ elements_of loads

-- of what was received these are the elements at the front, and more may come; or they are all of them, and the end came behind them
abbrev pub IsReceived : List Body → List Element → End → Type 0
IsReceived got xs Cut = (before after : List Body) × (got ≡ before ++ after) × AreReceived before xs
IsReceived got xs Done = (before : List Body) × (got ≡ before ++ body.End how.Done ∷ []) × AreReceived before xs
IsReceived got xs e = ⊥

-- an end came that isn't a whole one
abbrev pub IsStoppedBefore : List Body → Type 0
IsStoppedBefore got = (before : List Body) × (h : How) × (got ≡ before ++ body.End h ∷ []) × (h ≡ how.Done → ⊥)

-- what a pipe gives of an input that ended so: of a whole one all, else what it has given
abbrev pub gives : Meaning → List Element → End → Given
gives m xs Done = m.all xs
gives m xs e = m.part xs

-- what a branch says where it ended so, whose pipe came to this: all, or a front where it was stopped
abbrev pub IsSaidOf : How → End → Given → List Element → Type 0
IsSaidOf how.Done e g ys = (e ≡ Done) × (g.fault ≡ None) × (ys ≡ g.list)
IsSaidOf (how.Fault c) e g ys = (g.fault ≡ Some c) × (ys ≡ g.list)
IsSaidOf how.Halted e g ys = IsFront ys g.list
IsSaidOf how.Memory e g ys = IsFront ys g.list
