-- What others do at the desk leaves a job its fit.
use Rattle.std.proofs.Common.{◌≡◌, ◌≢◌, ℕ, ◌++◌, List, sym, ◌∙◌, ap}
use Rattle.chunk_core.specs.Tables.{Values}
use Rattle.channel_bounded.specs.declared.message.Msg.{Msg}
use Rattle.device_port.specs.Device.{DeviceTold}
use Rattle.pull_turns.specs.Piping.{StateMeaning}
use Rattle.res_ledger.specs.declared.event.StreamNo.TheVariants.{Inner, Outer}
use Rattle.row_seat.specs.declared.view.View.{View}
use Rattle.scope_tree.proofs.Follows.{released_follows, same_by}
use Rattle.stream_jobs.specs.declared.job.Job.{Job}
use Rattle.stream_jobs.specs.declared.running.Stage.{Stage}
use Rattle.stream_jobs.specs.declared.running.Stage.TheVariants as stage
use Rattle.stream_jobs.specs.Jobs.{FitsJob, IsJob}
use Rattle.stream_jobs.specs.Laws.{OthersLeaveJobs}
use Rattle.stream_jobs.specs.Messages.{held}
use Rattle.stream_jobs.specs.Running.{FitsStage, Origin, Stands}
use Rattle.stream_jobs.proofs.Working.{stage_stands}

other_stream : (m k : ℕ) → m ≢ k → Inner k ≢ Inner m
other_stream m k n e = n (let f : m ≡ k = cc in f)

not_outer : (k : ℕ) → Inner k ≢ Outer
not_outer k e = cc

module _ {S V F D T : Type 0} (view : S → View V) (values : T → Values) (told : V → DeviceTold) (P : Values → StateMeaning F) (fits : S → D → Type 0) (w : Origin V F) where
  -- the seats of the stream fit a desk as they fit another
  abbrev OwnFit : D → D → Type 0
  OwnFit d e = (o : S) → (view o).by ≡ Inner w.stream → fits o d → fits o e

  stage_fits : (s : Stage S V F V D T) (said : List Msg) (d e : D) → Stands told P view values w s said → FitsStage told view fits s d → OwnFit d e → FitsStage told view fits s e
  stage_fits (stage.Running r) said d e h f o =
      let t = f.stands.tree in
      let by = h.given.since.alone.by ∙ h.begun.guest.by in
      record {
        stands = record {
          tree = record { seat = o r.stepper.runner.outside.tree.seat by t.seat; sound = t.sound };
          order = f.stands.order;
          held = f.stands.held;
        };
        empty = f.empty;
        enough = f.enough;
      }
  stage_fits (stage.Left l) said d e h f o =
      let by = ap (λ v. v.by) h.leaves.seat_is ∙ (same_by (released_follows h.leaves.cancels.left.2) ∙ (h.run.since.alone.by ∙ h.begun.guest.by)) in
      o l.seat by f

  job_fits : (j : Job S V F V D T) (d e : D) → IsJob view values told P w j → FitsJob view told fits j d → OwnFit d e → FitsJob view told fits j e
  job_fits j d e h f o = (f.0, f.1, stage_fits f.0 (j.sender.sent ++ held j.waiting) d e (stage_stands view values told P w j f.0 h f.1) f.2 o)

pub others_leave : {S V F D T : Type 0} (view : S → View V) (values : T → Values) (told : V → DeviceTold) (P : Values → StateMeaning F) (fits : S → D → Type 0) → OthersLeaveJobs view values told P fits
others_leave view values told P fits = record {
  inner = λ w m n j d e h f o. job_fits view values told P fits w j d e h f (λ s by. o s (λ q. other_stream m w.stream n (sym by ∙ q)));
  outer = λ w j d e h f o. job_fits view values told P fits w j d e h f (λ s by. o s (λ q. not_outer w.stream (sym by ∙ q)));
  both = λ w m n j d e h f o. job_fits view values told P fits w j d e h f (λ s by. o s (λ q. not_outer w.stream (sym by ∙ q)) (λ q. other_stream m w.stream n (sym by ∙ q)));
}
