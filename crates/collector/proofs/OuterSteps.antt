-- What the outer stream's steps keep of a collector.
use Rattle.std.proofs.Common.{◌≡◌, ◌⊎◌, ℕ, ◌<◌, ◌≤◌, List, [], ◌∷◌, length, map, Option, Some, None, false, true, is_some, refl, sym, ◌∙◌, subst, ⊎_elim, arith}
use Rattle.chunk_core.specs.Lists.{IsAmong}
use Rattle.chunk_core.specs.declared.code.How.{How}
use Rattle.chunk_core.specs.declared.code.How.TheVariants as how
use Rattle.chunk_core.proofs.Filters.{among_right}
use Rattle.chunk_core.proofs.Members.{among_last, among_left}
use Rattle.device_port.specs.Device.{DeviceTold}
use Rattle.device_port.specs.Depot.{DepotTold}
use Rattle.device_port.specs.Sink.{SinkTold}
use Rattle.interrupt_ctx.specs.Views.{interruption}
use Rattle.interrupt_ctx.specs.declared.view.Interruption.{Interruption}
use Rattle.interrupt_ctx.specs.declared.why.Stop.{Stop}
use Rattle.interrupt_ctx.specs.declared.why.Why.TheVariants as why
use Rattle.join_report.specs.Calls.{EndsOuter}
use Rattle.join_report.specs.Stopping.{Finds, IsSeated, Learns, view_of}
use Rattle.join_report.specs.declared.report.Report.{Report}
use Rattle.join_report.specs.declared.stops.Stops.{Stops}
use Rattle.join_tale.specs.Steps.{Marks, TellsOuter, heeded, learned, outer_ended}
use Rattle.join_tale.specs.Tales.{Tale}
use Rattle.outer_stream.specs.Pulls.{IsOverBy}
use Rattle.outer_stream.specs.Pulls.IsOverBy.{done, unleased, unread}
use Rattle.outer_stream.specs.declared.next.OuterPart.{OuterPart}
use Rattle.outer_stream.specs.declared.outer.Outer.{Outer as Outer_stream}
use Rattle.outer_tables.specs.declared.not_read.NotRead.TheVariants as lacks
use Rattle.pipeline_desc.specs.Meant.{PlanMeant}
use Rattle.pipeline_desc.specs.declared.table.TableSpec.{TableSpec}
use Rattle.pull_stepper.specs.Held.{FinishesDevice}
use Rattle.res_ledger.specs.declared.event.StreamNo.TheVariants.{Outer}
use Rattle.row_seat.specs.Views.{OthersFit}
use Rattle.scope_tree.specs.Calls.{Seen}
use Rattle.scope_tree.specs.Trees.{Fits, seen}
use Rattle.scope_tree.specs.declared.tree.Tree.{Tree}
use Rattle.dealt_streams.specs.Parts.{fate_of}
use Rattle.dealt_streams.specs.Works.{plan_bounds}
use Rattle.collector.specs.declared.collector.Collector.{Collector}
use Rattle.collector.specs.Collecting.{IsCollecting, Moment}
use Rattle.collector.specs.Members.{Members}
use Rattle.collector.specs.Starting.{ClosesOuter, ClosesOuterBehind, cause_of}
use Rattle.collector.proofs.Steps.{halt_step, learns_step, widened}
use Rattle.collector.proofs.Telling.{learns_none, seen_so, tells_fault, tells_halted, tells_memory}

-- a look at the whole run that found this found it there
pub whole_found : (old new : Stops) (cs : List Interruption) (w : Stop) → Learns old new [] cs → IsAmong (interruption 0 w) cs ⊎ IsAmong (interruption 0 w) cs → IsAmong (interruption 0 w) (view_of new).seen
whole_found old new cs w l r = subst (λ xs. IsAmong (interruption 0 w) xs) (sym l.seen) (among_right (interruption 0 w) (view_of old).seen cs (⊎_elim (λ m. m) (λ m. m) r))

-- what was found stays so at the same seat
pub found_still : (new again : Stops) (w : Stop) → IsAmong (interruption 0 w) (view_of new).seen → again ≡ new → IsAmong (interruption 0 w) (view_of again).seen
found_still new again w m same = subst (λ s. IsAmong (interruption 0 w) (view_of s).seen) (sym same) m

-- what a look found, if it found something
pub finds_this : (old new : Stops) (answer : Option Stop) (w : Stop) → answer ≡ Some w → Finds old new 0 answer → Finds old new 0 (Some w)
finds_this old new answer w is f = subst (λ o. Finds old new 0 o) is f

pub finds_none : (old new : Stops) (answer : Option Stop) → answer ≡ None → Finds old new 0 answer → Finds old new 0 None
finds_none old new answer is f = subst (λ o. Finds old new 0 o) is f

-- where it has no end it is none
pub open_so : {A : Type 0} (o : Option A) → is_some o ≡ false → o ≡ None
open_so None e = refl
open_so (Some x) e = cc

-- where it has one it isn't none
pub ended_already : {A X : Type 0} (o : Option A) → is_some o ≡ true → o ≡ None → X
ended_already None e n = absurd cc
ended_already (Some x) e n = absurd cc

-- a stream that is over so had the run interrupted for this cause
pub tells_stop : (p : PlanMeant) (h : How) (w : Stop) → cause_of h ≡ Some w.why → (v : Tale) (vs cs : List Interruption) → Marks 0 w vs cs → TellsOuter (plan_bounds p) (learned (outer_ended v h) vs cs) h vs
tells_stop p (how.Fault f) w e v vs cs m = tells_fault p v f w vs cs (let same : w.why ≡ why.Fault = cc in same) m
tells_stop p how.Memory w e v vs cs m = tells_memory p v w vs cs (let same : w.why ≡ why.Memory = cc in same) m
tells_stop p how.Done w e v vs cs m = cc
tells_stop p how.Halted w e v vs cs m = cc

-- where that is no cause it gave all streams
pub surely_done : (h : How) → (h ≡ how.Halted → ⊥) → cause_of h ≡ None → h ≡ how.Done
surely_done how.Done live e = refl
surely_done how.Halted live e = absurd (live refl)
surely_done (how.Fault f) live e = cc
surely_done how.Memory live e = cc

module _ {S V F D T : Type 0} {M : Members S V F D T} {p : PlanMeant} {d0 : DepotTold} {s0 : SinkTold} {m : Moment S V F D T} (k : IsCollecting M p d0 s0 m) where
  abbrev c : Collector S V F D T
  c = m.collector

  -- nothing was found, and so many may wait
  pub looked : (again : ℕ) (stops : Stops) (cs : List Interruption) → Learns c.stops stops [] cs → IsSeated stops → length m.waiting ≤ again → (0 < again → 1 ≤ length m.waiting) → IsCollecting M p d0 s0 (record m { waits = again; collector = record c { stops = stops } })
  looked again stops cs l seated few some = widened (learns_step k stops cs l seated) again few (λ n. some)

  -- more may wait, since none is to come or one waits
  pub more_may : (again : ℕ) → m.waits ≤ again → (c.outer ≡ None → 1 ≤ length m.waiting) → IsCollecting M p d0 s0 (record m { waits = again })
  more_may again high some = widened k again (let few = k.tree.few in omega (arith, few, high)) (λ n l. some n)

  -- it found a code, and closed its root behind what this names
  pub halted : (again : ℕ) (tree : Tree S V D) (report : Report) (e : D) (x : Stop) → length m.waiting ≤ again → c.outer ≡ None → IsAmong (interruption 0 x) (view_of c.stops).seen → ClosesOuter (FinishesDevice M.told) how.Halted (seen M.view c.tree) (seen M.view tree) → ClosesOuterBehind x.at (seen M.view tree) → Fits M.view M.fits tree e
      → OthersFit M.view M.fits Outer m.desk e → EndsOuter how.Halted c.report report → IsCollecting M p d0 s0 (record m { waits = again; desk = e; collector = record c { tree = tree; report = report; outer = Some how.Halted } })
  halted again tree report e x few none found close behind fit others ends =
      let seen_there = seen_so p c.outer c.report c.stops (length m.jobs) s0 m.sink (map fate_of k.parts) k.tale k.telling 0 x found in
      widened (halt_step k tree report e x none close behind fit others ends (tells_halted p (learned (outer_ended (heeded k.tale ((Outer, x) ∷ [])) how.Halted) [] []) (x, among_last k.tale.obeyed (Outer, x), among_left [] seen_there)) (learns_none c.stops)) again few (λ n l. cc)
