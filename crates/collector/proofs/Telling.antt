-- The tale of a collector, call by call.
use Rattle.std.proofs.Common.{◌≡◌, ◌⊎◌, ℕ, ◌+◌, Bool, true, false, ◌||◌, List, [], ◌∷◌, ◌++◌, length, Option, Some, None, inr, refl, sym, ◌∙◌, ap, subst, append-nil}
use Rattle.chunk_core.specs.Lists.{IsAmong}
use Rattle.chunk_core.specs.declared.code.Code.{Code}
use Rattle.chunk_core.specs.declared.code.How.{How}
use Rattle.chunk_core.specs.declared.code.How.TheVariants as how
use Rattle.chunk_core.proofs.Members.{among_nil}
use Rattle.device_port.specs.Sink.{SinkTold}
use Rattle.device_port.proofs.Puts.{with_bytes_none}
use Rattle.interrupt_ctx.specs.Ends.{BoardSeen}
use Rattle.interrupt_ctx.specs.Views.{interruption}
use Rattle.interrupt_ctx.specs.declared.view.Interruption.{Interruption}
use Rattle.interrupt_ctx.specs.declared.why.Stop.{Stop}
use Rattle.interrupt_ctx.specs.declared.why.Why.TheVariants as why
use Rattle.join_report.specs.Calls.{EndsOuter, MissesStream}
use Rattle.join_report.specs.Stopping.{IsSeated, Learns, view_of, with_seat_out}
use Rattle.join_report.specs.declared.report.Report.{Report}
use Rattle.join_report.specs.declared.stops.Stops.{Stops}
use Rattle.join_report.proofs.Learning.{learns_known}
use Rattle.join_report.proofs.Steps as reports
use Rattle.join_tale.specs.Steps.{Marks, MayBegin, TellsOuter, fated, first_tale, heeded, learned, outer_ended, unmade}
use Rattle.join_tale.specs.Tales as tales
use Rattle.join_tale.specs.Tales.{Fate, IsCaused, IsFoundSet, IsKnown, Tale}
use Rattle.join_tale.specs.Keeping.{IsOuterStopped, IsOuterTold, IsOwnCode, IsTale}
use Rattle.join_tale.proofs.Growing.{marked_caused, marked_known}
use Rattle.join_tale.proofs.Heeding.{heeds}
use Rattle.join_tale.proofs.Steps as steps
use Rattle.join_tale.specs.Bounds.{Bounds}
use Rattle.res_ledger.specs.declared.event.StreamNo.{StreamNo}
use Rattle.pipeline_desc.specs.Meant.{PlanMeant, stream_limit}
use Rattle.dealt_streams.specs.Works.{plan_bounds}
use Rattle.collector.specs.Collecting.{KeepsTale, WritesTale}

-- nothing was learned
pub learns_none : (s : Stops) → Learns s s [] []
learns_none s = record { board = refl; set = sym (append-nil (view_of s).set); seen = sym (append-nil (view_of s).seen); out = refl }

-- nothing was written
pub wrote_none : (s : SinkTold) (fates : List Fate) (outer : Option How) (set seen : List Interruption) (ceased memory : Bool) → WritesTale s s (record first_tale { fates = fates; outer = outer; set = set; seen = seen; ceased = ceased; memory = memory })
wrote_none s fates outer set seen ceased memory = record { rest = []; cut = refl; wrote = sym (with_bytes_none s) }

module _ (p : PlanMeant) (outer : Option How) (report : Report) (stops : Stops) (out : ℕ) (old new : SinkTold) (fates : List Fate) (t : Tale) (kt : KeepsTale p outer report stops out old new fates t) where
  -- contexts were found set
  pub tale_learns : (again : Stops) (cs : List Interruption) → Learns stops again [] cs → IsSeated again → KeepsTale p outer report again out old new fates (learned t [] cs)
  tale_learns again cs l seated = record {
    is_tale = steps.learns (plan_bounds p) t kt.is_tale [] cs (λ context w m. absurd (among_nil m));
    fates_are = kt.fates_are;
    outer_is = kt.outer_is;
    report_is = reports.learns p.take (stream_limit p) t report kt.report_is [] cs;
    known = learns_known t stops again [] cs kt.known l;
    seated = seated;
    seats = l.out ∙ kt.seats;
    contexts = ap (λ (b : BoardSeen). b.contexts) l.board ∙ kt.contexts;
    wrote = record { rest = kt.wrote.rest; cut = kt.wrote.cut; wrote = kt.wrote.wrote };
  }

  -- streams were halted
  pub tale_heeds : (os : List (StreamNo × Stop)) → KeepsTale p outer report stops out old new fates (heeded t os)
  tale_heeds os = record {
    is_tale = heeds (plan_bounds p) t kt.is_tale os;
    fates_are = kt.fates_are;
    outer_is = kt.outer_is;
    report_is = reports.heeds p.take (stream_limit p) t report kt.report_is os;
    known = record { set = kt.known.set; seen = kt.known.seen };
    seated = kt.seated;
    seats = kt.seats;
    contexts = kt.contexts;
    wrote = record { rest = kt.wrote.rest; cut = kt.wrote.cut; wrote = kt.wrote.wrote };
  }

  -- whose turn it was is told otherwise
  pub tale_turns : (pulled : List ℕ) (room : ℕ → List ℕ) → IsTale (plan_bounds p) (record t { pulled = pulled; room = room }) → KeepsTale p outer report stops out old new fates (record t { pulled = pulled; room = room })
  tale_turns pulled room is = record {
    is_tale = is;
    fates_are = kt.fates_are;
    outer_is = kt.outer_is;
    report_is = reports.turns p.take (stream_limit p) t report kt.report_is pulled room;
    known = record { set = kt.known.set; seen = kt.known.seen };
    seated = kt.seated;
    seats = kt.seats;
    contexts = kt.contexts;
    wrote = record { rest = kt.wrote.rest; cut = kt.wrote.cut; wrote = kt.wrote.wrote };
  }

  -- the next stream was skipped
  pub tale_skips : IsFoundSet t 0 ⊎ IsOwnCode (plan_bounds p) t (length t.fates) ⊎ IsOuterStopped t → KeepsTale p outer report stops out old new (fates ++ tales.Fate.Skipped ∷ []) (fated t tales.Fate.Skipped)
  tale_skips cause = record {
    is_tale = steps.skips (plan_bounds p) t kt.is_tale cause;
    fates_are = ap (λ fs. fs ++ tales.Fate.Skipped ∷ []) kt.fates_are;
    outer_is = kt.outer_is;
    report_is = reports.fates p.take (stream_limit p) t report kt.report_is tales.Fate.Skipped (λ e. cc);
    known = record { set = kt.known.set; seen = kt.known.seen };
    seated = kt.seated;
    seats = kt.seats;
    contexts = kt.contexts;
    wrote = record { rest = kt.wrote.rest; cut = kt.wrote.cut; wrote = kt.wrote.wrote };
  }

  -- the outer stream ended
  pub tale_closes : (h : How) (again : Stops) (told : Report) (vs cs : List Interruption) → outer ≡ None → Learns stops again vs cs → IsSeated again → EndsOuter h report told → TellsOuter (plan_bounds p) (learned (outer_ended t h) vs cs) h vs → KeepsTale p (Some h) told again out old new fates (learned (outer_ended t h) vs cs)
  tale_closes h again told vs cs none l seated ends tells = record {
    is_tale = steps.outer_ends (plan_bounds p) t kt.is_tale h vs cs (kt.outer_is ∙ none) tells;
    fates_are = kt.fates_are;
    outer_is = refl;
    report_is = reports.learns p.take (stream_limit p) (outer_ended t h) told (ends p.take (stream_limit p) t kt.report_is) vs cs;
    known = learns_known (outer_ended t h) stops again vs cs (record { set = kt.known.set; seen = kt.known.seen }) l;
    seated = seated;
    seats = l.out ∙ kt.seats;
    contexts = ap (λ (b : BoardSeen). b.contexts) l.board ∙ kt.contexts;
    wrote = record { rest = kt.wrote.rest; cut = kt.wrote.cut; wrote = kt.wrote.wrote };
  }

  -- there was no memory to make the next stream
  pub tale_misses : (k : ℕ) (again : Stops) (told : Report) {w : Stop} (vs cs : List Interruption) → length t.fates ≡ k → w.why ≡ why.Memory → Marks 0 w vs cs → Learns stops again vs cs → IsSeated again → MissesStream k report told → KeepsTale p outer told again out old new (fates ++ tales.Fate.Unmade ∷ []) (learned (unmade t) vs cs)
  tale_misses k again told vs cs count cause mark l seated misses = record {
    is_tale = steps.wants (plan_bounds p) t kt.is_tale vs cs cause mark;
    fates_are = ap (λ fs. fs ++ tales.Fate.Unmade ∷ []) kt.fates_are;
    outer_is = kt.outer_is;
    report_is = reports.learns p.take (stream_limit p) (unmade t) told (misses p.take (stream_limit p) t kt.report_is count) vs cs;
    known = learns_known (unmade t) stops again vs cs (record { set = kt.known.set; seen = kt.known.seen }) l;
    seated = seated;
    seats = l.out ∙ kt.seats;
    contexts = ap (λ (b : BoardSeen). b.contexts) l.board ∙ kt.contexts;
    wrote = record { rest = kt.wrote.rest; cut = kt.wrote.cut; wrote = kt.wrote.wrote };
  }

  -- the next stream began
  pub tale_begins : IsSeated (with_seat_out stops) → MayBegin (plan_bounds p) t → KeepsTale p outer report (with_seat_out stops) (out + 1) old new (fates ++ tales.Fate.Begun ∷ []) (fated t tales.Fate.Begun)
  tale_begins seated may = record {
    is_tale = steps.begins (plan_bounds p) t kt.is_tale may;
    fates_are = ap (λ fs. fs ++ tales.Fate.Begun ∷ []) kt.fates_are;
    outer_is = kt.outer_is;
    report_is = reports.fates p.take (stream_limit p) t report kt.report_is tales.Fate.Begun (λ e. cc);
    known = record { set = kt.known.set; seen = kt.known.seen };
    seated = seated;
    seats = ap (λ n. n + 1) kt.seats;
    contexts = kt.contexts;
    wrote = record { rest = kt.wrote.rest; cut = kt.wrote.cut; wrote = kt.wrote.wrote };
  }

  -- what is found stands in the tale
  pub seen_so : (context : ℕ) (w : Stop) → IsAmong (interruption context w) (view_of stops).seen → IsAmong (interruption context w) t.seen
  seen_so context w m = subst (λ l. IsAmong (interruption context w) l) (sym kt.known.seen) m

  pub found_so : (context : ℕ) (w : Stop) → IsAmong (interruption context w) (view_of stops).seen → IsFoundSet t context
  found_so context w m = (w, seen_so context w m)

-- where nothing is known of the whole run the outer stream gave all streams, if it has ended
pub outer_done : (bounds : Bounds) (t : Tale) → IsTale bounds t → ¬ (IsKnown t 0) → (h : How) → t.outer ≡ Some h → h ≡ how.Done
outer_done bounds t i free how.Done e = refl
outer_done bounds t i free how.Halted e = absurd (free (inr (let q = i.fates.outer_halted e in (q.0, q.2))))
outer_done bounds t i free (how.Fault c) e = absurd (free (i.fates.outer_fault c e))
outer_done bounds t i free how.Memory e = absurd (free (i.stop (wanting t.ceased refl)))
  where
    wanting : (b : Bool) → t.ceased ≡ b → t.ceased ≡ true
    wanting true q = q
    wanting false q = let z : false ≡ true = sym (i.frames.quiet q).2 ∙ i.fates.outer_memory e in cc

-- what is told where the outer stream ends: it gave all streams, or it found a code, or it set one at a fault or for want of memory
pub tells_done : (p : PlanMeant) (u : Tale) → TellsOuter (plan_bounds p) u how.Done []
tells_done p u = record { caused = λ context w m. absurd (among_nil m); halted = λ e. cc; fault = λ c e. cc; memory = λ e. cc }

pub tells_halted : (p : PlanMeant) (u : Tale) → IsOuterTold u → TellsOuter (plan_bounds p) u how.Halted []
tells_halted p u f = record { caused = λ context w m. absurd (among_nil m); halted = λ e. f; fault = λ c e. cc; memory = λ e. cc }

pub tells_fault : (p : PlanMeant) (t : Tale) (c : Code) (w : Stop) (vs cs : List Interruption) → w.why ≡ why.Fault → Marks 0 w vs cs → TellsOuter (plan_bounds p) (learned (outer_ended t (how.Fault c)) vs cs) (how.Fault c) vs
tells_fault p t c w vs cs cause mark = record {
  caused = marked_caused (plan_bounds p) (learned (outer_ended t (how.Fault c)) vs cs) 0 w vs cs mark (subst (λ y. IsCaused (plan_bounds p) (learned (outer_ended t (how.Fault c)) vs cs) 0 y) (sym cause) (refl, inr (c, refl)));
  halted = λ e. cc;
  fault = λ d e. marked_known (outer_ended t (how.Fault c)) 0 w vs cs mark;
  memory = λ e. cc;
}

pub tells_memory : (p : PlanMeant) (t : Tale) (w : Stop) (vs cs : List Interruption) → w.why ≡ why.Memory → Marks 0 w vs cs → TellsOuter (plan_bounds p) (learned (outer_ended t how.Memory) vs cs) how.Memory vs
tells_memory p t w vs cs cause mark = record {
  caused = marked_caused (plan_bounds p) (learned (outer_ended t how.Memory) vs cs) 0 w vs cs mark (subst (λ y. IsCaused (plan_bounds p) (learned (outer_ended t how.Memory) vs cs) 0 y) (sym cause) (refl, or_true t.memory));
  halted = λ e. cc;
  fault = λ d e. cc;
  memory = λ e. marked_known (outer_ended t how.Memory) 0 w vs cs mark;
}
  where
    or_true : (b : Bool) → (b || true) ≡ true
    or_true true = refl
    or_true false = refl
