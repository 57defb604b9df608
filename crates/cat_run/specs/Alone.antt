-- What one stream that ran alone has done.
use Rattle.std.specs.Prelude.{◌≡◌, ◌⊎◌, ℕ, ◌+◌, ◌<◌, ◌≤◌, Bool, true, false, cond, List, [], ◌∷◌, ◌++◌, map, length}
use Rattle.std.specs.List.{AllByRecursion}
use Rattle.chunk_core.specs.Elements.{Element, rendering_of}
use Rattle.chunk_core.specs.Elements.Element.{Byte}
use Rattle.chunk_core.specs.Outcomes.{End, Cut, Outcomes}
use Rattle.chunk_core.specs.Texts.{Frame, frame_text, frames_text}
use Rattle.chunk_core.specs.declared.code.How.{How}
use Rattle.chunk_core.specs.declared.code.How.TheVariants as how
use Rattle.res_ledger.specs.declared.event.StreamNo.TheVariants.{Inner}
use Rattle.device_port.specs.Device.{Place, DeviceTold}
use Rattle.device_port.specs.Depot.{DepotTold}
use Rattle.device_port.specs.Sink.{SinkTold, with_bytes}
use Rattle.run_rules.specs.Facts.{is_halted, is_memory}
use Rattle.run_rules.specs.Outputs.{IsReported, elements_in_pieces}
use Rattle.lone_stream.specs.Account.{ComesBack, IsAccount}
use Rattle.cat_run.specs.declared.outcome.Outcome.{Outcome}

-- one more where a call failed
abbrev pub and_one : Bool → ℕ → ℕ
and_one failed n = cond failed (n + 1) n

-- What was printed.

abbrev pub IsByte : Element → Type 0
IsByte x = (b : ℕ) × (x ≡ Byte b)

-- a piece has elements
abbrev pub IsSmallPiece : List Element → Type 0
IsSmallPiece xs = 0 < length xs

-- the frame of a piece of stream k
abbrev pub frame_of : ℕ → List Element → Frame
frame_of k xs = record { stream = k; payload = rendering_of xs }

-- where a write failed, rest is a proper front of the frame of one further piece of stream k
abbrev pub IsCutAt : ℕ → Bool → List Element → List ℕ → Type 0
IsCutAt k false next rest = (next ≡ []) × (rest ≡ [])
IsCutAt k true next rest = IsSmallPiece next × (more : List ℕ) × (0 < length more) × (rest ++ more ≡ frame_text k (rendering_of next))

-- pieces of stream k were printed, each in a frame, and where a write failed a front of the frame of the next one
pub record PrintsPieces (k : ℕ) (old new : SinkTold) (failed : Bool) : Type 0 where
  pub pieces : List (List Element)
  pub some : AllByRecursion IsSmallPiece pieces
  pub next : List Element
  pub rest : List ℕ
  pub cut : IsCutAt k failed next rest
  pub wrote : new ≡ record (with_bytes old (frames_text (map (frame_of k) pieces) ++ rest)) { faults = and_one failed old.faults }

-- no piece has more than size elements, nor has the one of which a front was written
pub record AreSmall (size : ℕ) (pieces : List (List Element)) (next : List Element) : Type 0 where
  pub fits : AllByRecursion (λ xs. length xs ≤ size) pieces
  pub next_fits : length next ≤ size

-- a piece of other elements than bytes came behind these, and was lost
pub record LosesPiece (runs : Outcomes) (pieces : List (List Element)) : Type 0 where
  pub lost : List Element
  pub some : IsSmallPiece lost
  pub unlike : ¬ (AllByRecursion IsByte lost)
  pub run : runs (elements_in_pieces pieces ++ lost) Cut

-- memory was wanting for a run that ended so, or for the text of a piece
abbrev pub WantsMemory : Outcomes → List (List Element) → How → Type 0
WantsMemory runs pieces h = (h ≡ how.Memory) ⊎ ((h ≡ how.Halted) × LosesPiece runs pieces)

-- The pieces are those of a run with the end that is reported, and what the next one goes on with may be left there; the run was halted where a write failed,
-- and else only for want of memory. Memory is told to be wanting only where no write failed and the run ended so or a piece was lost.
pub record IsRunIn (runs : Outcomes) (pieces : List (List Element)) (next : List Element) (failed memory : Bool) (how : How) : Type 0 where
  pub end : End
  pub run : runs (elements_in_pieces pieces) end
  pub goes_on : failed ≡ true → runs (elements_in_pieces pieces ++ next) Cut
  pub reported : IsReported end how
  pub silenced : failed ≡ true → is_halted how ≡ true
  pub halted : is_halted how ≡ true → (failed ≡ true) ⊎ (memory ≡ true)
  pub remembered : is_memory how ≡ true → memory ≡ true
  pub wanting : memory ≡ true → (failed ≡ false) × WantsMemory runs pieces how

-- the stream ran over devices for these places, with at most so many scopes, in pieces of at most size elements
pub record RunsAlone (places : List Place) (scopes : ℕ) (runs : (ℕ → DeviceTold) → Outcomes) (size : ℕ) (depot_old depot_new : DepotTold) (old new : SinkTold) (o : Outcome) : Type 0 where
  pub home : ℕ → DeviceTold
  pub how : How
  pub devices : ComesBack depot_old depot_new places home
  pub account : IsAccount (length places) scopes home how o.ledger
  pub printed : PrintsPieces 0 old new o.sink_failed
  pub small : AreSmall size printed.pieces printed.next
  pub run : IsRunIn (runs home) printed.pieces printed.next o.sink_failed o.memory how
  pub ends : o.ends ≡ record { who = Inner 0; how = how } ∷ []
