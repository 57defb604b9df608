-- What a job says to the collector.
use Rattle.std.specs.Prelude.{◌≡◌, ℕ, ◌<◌, List, [], ◌∷◌, length, map, Option, Some, None}
use Rattle.std.specs.List.{AllByRecursion}
use Rattle.chunk_core.specs.Elements.{elements, rendering_of}
use Rattle.chunk_core.specs.declared.code.How.{How}
use Rattle.chunk_core.specs.declared.load.Load.{Load}
use Rattle.channel_bounded.specs.declared.message.Body.{Body}
use Rattle.channel_bounded.specs.declared.message.Body.TheVariants as body
use Rattle.channel_bounded.specs.declared.message.Msg.{Msg}

-- the message with a load of stream k
abbrev pub load_message : ℕ → Load → Msg
load_message k l = record { stream = k; body = body.Load l }

-- the message that stream k has ended so
abbrev pub end_message : ℕ → How → Msg
end_message k h = record { stream = k; body = body.End h }

-- the messages with these loads
abbrev pub load_messages : ℕ → List Load → List Msg
load_messages k loads = map (load_message k) loads

-- none or one
abbrev pub held : {T : Type 0} → Option T → List T
held None = []
held (Some x) = x ∷ []

-- what is printed of a load
abbrev pub text_of : Load → List ℕ
text_of l = rendering_of (elements l)

-- of the text is printed what is printed of the load, and it has elements where the load has
pub record IsTextOf (load text : Load) : Type 0 where
  pub same : text_of text ≡ text_of load
  pub some : 0 < length (elements load) → 0 < length (elements text)

-- each load has elements
abbrev pub AreFilled : List Load → Type 0
AreFilled loads = AllByRecursion (λ l. 0 < length (elements l)) loads

-- of the texts is printed what is printed of the loads, one by one, and each has elements
pub record AreTextsOf (loads texts : List Load) : Type 0 where
  pub same : map text_of texts ≡ map text_of loads
  pub filled : AreFilled texts

-- what is said of a turn: the end, where the stepper has ended, else the text of the load that came, if one came
abbrev pub IsNews : ℕ → Option How → Option Load → List Msg → Type 0
IsNews k (Some h) load said = said ≡ end_message k h ∷ []
IsNews k None None said = said ≡ []
IsNews k None (Some load) said = (text : Load) × IsTextOf load text × (said ≡ load_message k text ∷ [])

-- a load has elements
abbrev pub IsFullBody : Body → Type 0
IsFullBody (body.Load l) = 0 < length (elements l)
IsFullBody (body.End h) = Unit {0}

-- the message is an end, or its load has elements
abbrev pub IsFullMessage : Msg → Type 0
IsFullMessage m = IsFullBody m.body
