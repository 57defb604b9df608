-- A tale that is written out, and tales that can't be.
use Rattle.std.specs.Prelude.{true, false, List, [], ◌∷◌, Some, None}
use Rattle.chunk_core.specs.declared.code.Code.TheVariants as code
use Rattle.chunk_core.specs.declared.code.How.TheVariants as how
use Rattle.interrupt_ctx.specs.Views.{interruption}
use Rattle.interrupt_ctx.specs.declared.why.Stop.{Stop}
use Rattle.interrupt_ctx.specs.declared.why.Why.{Why}
use Rattle.interrupt_ctx.specs.declared.why.Why.TheVariants as why
use Rattle.res_ledger.specs.declared.event.StreamNo.TheVariants.{Outer, Inner}
use Rattle.run_rules.specs.Work.{Opener, Stream}
use Rattle.join_tale.specs.Bounds.{Bounds, bounds_of}
use Rattle.join_tale.specs.Ended.{Ended}
use Rattle.join_tale.specs.Keeping.{IsTale}
use Rattle.join_tale.specs.Steps.{first_tale}
use Rattle.join_tale.specs.Tales.{Fate, Message, Tale, end_of, load_of}
use Rattle.join_tale.specs.Tales.Fate.{Begun, Skipped}

-- a stop that names no front of the ledger
abbrev pub for_cause : Why → Stop
for_cause w = record { why = w; at = 0 }

-- two streams, of which one is open at a time, and two frames at most
abbrev pub one_stream : Stream
one_stream = record { places = []; scopes = 1; until = None }

abbrev pub two_frames : Opener
two_frames = record { tables = []; groups = []; list = None; fault_of = λ bytes. None; value_of = λ bytes key. None; max_open = 1; most = Some 2 }

abbrev pub two_streams : Bounds
two_streams = bounds_of two_frames (one_stream ∷ one_stream ∷ [])

-- two streams that may be open at once, and two frames at most
abbrev pub wide_streams : Bounds
wide_streams = bounds_of (record two_frames { max_open = 2 }) (one_stream ∷ one_stream ∷ [])

-- two streams, of which one is open at a time, any number of frames, and the end of the second stops the first
abbrev pub stopped_streams : Bounds
stopped_streams = bounds_of (record two_frames { most = None }) (record one_stream { until = Some 1 } ∷ one_stream ∷ [])

-- stream 0 gave A and was done; stream 1 gave B, the last frame, and then C, which came too late, and was done; the outer stream found the code
abbrev pub worked_tale : Tale
worked_tale = record {
  front = load_of 0 (65 ∷ []) ∷ end_of 0 how.Done ∷ load_of 1 (66 ∷ []) ∷ [];
  late = load_of 1 (67 ∷ []) ∷ end_of 1 how.Done ∷ [];
  fates = Begun ∷ Begun ∷ [];
  outer = Some how.Halted;
  set = interruption 0 (for_cause why.Take) ∷ [];
  seen = interruption 0 (for_cause why.Take) ∷ [];
  obeyed = (Outer, for_cause why.Take) ∷ [];
  ceased = true;
  cut = None;
  memory = false;
  pulled = [];
  room = λ k. [];
}

-- it is a tale, by which stream 0 is done and stream 1, which wasn't printed whole, is halted
pub record IsWorked : Type 0 where
  pub tale : IsTale two_streams worked_tale
  pub first : Ended worked_tale 0 how.Done
  pub second : Ended worked_tale 1 how.Halted

-- these messages came, of these streams, and no code was set or found
abbrev pub plain_tale : List Message → List Fate → Tale
plain_tale ms fates = record first_tale { front = ms; fates = fates }

-- no tale: a stream is halted for nothing; three frames were printed; a stream was begun behind one that failed; a load came of a stream that wasn't begun, or an empty one; a stream ended twice; no code was set though enough was printed; a frame of stream 0 came behind one of stream 1; memory was wanting for nothing; stream 0 is halted by the end of stream 1, which began only once stream 0 had ended; where two may be open, one was begun behind one that was skipped since the outer stream failed; where one may be open, the outer stream was pulled behind one that failed
pub record AreRefused : Type 0 where
  pub halted_for_nothing : ¬ (IsTale two_streams (record (plain_tale (end_of 0 how.Halted ∷ []) (Begun ∷ [])) { obeyed = (Inner 0, for_cause why.Take) ∷ [] }))
  pub three_frames : ¬ (IsTale two_streams (plain_tale (load_of 0 (65 ∷ []) ∷ load_of 0 (66 ∷ []) ∷ load_of 0 (67 ∷ []) ∷ []) (Begun ∷ [])))
  pub begun_behind_fault : ¬ (IsTale two_streams (record (plain_tale (end_of 0 (how.Fault code.Read) ∷ []) (Begun ∷ Begun ∷ [])) { set = interruption 0 (for_cause why.Fault) ∷ [] }))
  pub never_begun : ¬ (IsTale two_streams (plain_tale (load_of 1 (65 ∷ []) ∷ []) (Begun ∷ [])))
  pub empty_load : ¬ (IsTale two_streams (plain_tale (load_of 0 [] ∷ []) (Begun ∷ [])))
  pub ended_twice : ¬ (IsTale two_streams (plain_tale (end_of 0 how.Done ∷ end_of 0 (how.Fault code.Read) ∷ []) (Begun ∷ [])))
  pub frames_fall : ¬ (IsTale stopped_streams (plain_tale (load_of 1 (65 ∷ []) ∷ load_of 0 (66 ∷ []) ∷ end_of 0 how.Done ∷ []) (Begun ∷ Begun ∷ [])))
  pub wanting_for_nothing : ¬ (IsTale two_streams (record (plain_tale [] (Begun ∷ [])) { set = interruption 0 (for_cause why.Memory) ∷ []; ceased = true; memory = true }))
  pub halted_by_a_later_end : ¬ (IsTale stopped_streams (record (plain_tale (end_of 0 how.Halted ∷ end_of 1 how.Done ∷ []) (Begun ∷ Begun ∷ [])) { set = interruption 1 (for_cause why.Until) ∷ []; seen = interruption 1 (for_cause why.Until) ∷ []; obeyed = (Inner 0, for_cause why.Until) ∷ [] }))
  pub begun_behind_skipped : ¬ (IsTale wide_streams (record (plain_tale [] (Skipped ∷ Begun ∷ [])) { outer = Some (how.Fault code.Read); set = interruption 0 (for_cause why.Fault) ∷ []; seen = interruption 0 (for_cause why.Fault) ∷ [] }))
  pub pulled_behind_fault : ¬ (IsTale two_streams (record (plain_tale (end_of 0 (how.Fault code.Read) ∷ []) (Begun ∷ [])) { set = interruption 0 (for_cause why.Fault) ∷ []; pulled = 1 ∷ [] }))
  pub goes_on : ¬ (IsTale two_streams (plain_tale (load_of 0 (65 ∷ []) ∷ load_of 0 (66 ∷ []) ∷ []) (Begun ∷ [])))
