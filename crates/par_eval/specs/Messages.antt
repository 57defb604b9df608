-- Loads and results as messages: a load is one message, and a result is two, its load and its end.
use Rattle.std.specs.Prelude.{◌≡◌, ℕ, ◌⊎◌, ⊤, List, [], ◌∷◌, ◌++◌, map}
use Rattle.chunk_core.specs.Elements.{Element, elements}
use Rattle.chunk_core.specs.Totals.{IsAt}
use Rattle.chunk_core.specs.declared.code.How.{How}
use Rattle.chunk_core.specs.declared.code.How.TheVariants as how
use Rattle.chunk_core.specs.declared.load.Load.{Load as Piece}
use Rattle.channel_bounded.specs.Streams.{of_stream}
use Rattle.channel_bounded.specs.declared.message.Body.{Body}
use Rattle.channel_bounded.specs.declared.message.Body.TheVariants.{Load, End}
use Rattle.channel_bounded.specs.declared.message.Msg.{Msg}
use Rattle.par_eval.specs.declared.work.Worked.{Worked}

abbrev pub bodies : List Msg → List Body
bodies ms = map (λ m. m.body) ms

-- the loads, in order
abbrev pub loads_in : List Body → List Piece
loads_in [] = []
loads_in (Load l ∷ bs) = l ∷ loads_in bs
loads_in (End h ∷ bs) = loads_in bs

-- the results that came whole, in order
abbrev pub results_in : List Body → List Worked
results_in [] = []
results_in (End h ∷ bs) = []
results_in (Load r ∷ []) = []
results_in (Load r ∷ Load s ∷ bs) = []
results_in (Load r ∷ End h ∷ bs) = record { out = r; how = h } ∷ results_in bs

-- results as messages
abbrev pub messages_of : List Worked → List Body
messages_of [] = []
messages_of (w ∷ ws) = Load w.out ∷ End w.how ∷ messages_of ws

-- each load has its end behind it, but that of the last one may be still to come
abbrev pub IsPaired : List Body → Type 0
IsPaired [] = ⊤
IsPaired (End h ∷ bs) = ⊥
IsPaired (Load r ∷ []) = ⊤
IsPaired (Load r ∷ Load s ∷ bs) = ⊥
IsPaired (Load r ∷ End h ∷ bs) = IsPaired bs

-- the number of the one stream in each queue
abbrev pub the_stream : ℕ
the_stream = 0

-- beside a fact of the caller's own, the results of a queue come as they should
abbrev pub paired : (List Msg → List Msg → Type 0) → List Msg → List Msg → Type 0
paired may got queued = may got queued × IsPaired (bodies (of_stream the_stream (got ++ queued)))

-- what work makes of elements, and how it ends
abbrev pub Meaning : Type 0
Meaning = List Element → List Element × How

-- memory was wanting: the result is empty
abbrev pub IsLacking : Worked → Type 0
IsLacking w = (elements w.out ≡ []) × (w.how ≡ how.Memory)

-- what comes of the load, or want of memory
abbrev pub IsResult : Meaning → Piece → Worked → Type 0
IsResult f l w = ((elements w.out, w.how) ≡ f (elements l)) ⊎ IsLacking w

-- each of the results is that of the load with its number
abbrev pub AreResults : Meaning → List Piece → List Worked → Type 0
AreResults f loads ws = (q : ℕ) (w : Worked) → IsAt ws q w → (l : Piece) × IsAt loads q l × IsResult f l w
