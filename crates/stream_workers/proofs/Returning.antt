-- A job that was run to its end at a desk of its own fits each desk that it fitted.
use Rattle.std.proofs.Common.{◌≡◌, ℕ, ◌++◌, List, false, refl, ◌∙◌, ap, subst}
use Rattle.chunk_core.specs.Tables.{Values}
use Rattle.channel_bounded.specs.declared.message.Msg.{Msg}
use Rattle.device_port.specs.Device.{DeviceTold}
use Rattle.pull_turns.specs.Piping.{StateMeaning}
use Rattle.res_ledger.specs.declared.event.StreamNo.{StreamNo}
use Rattle.res_ledger.specs.declared.event.StreamNo.TheVariants.{Inner}
use Rattle.row_seat.specs.declared.view.View.{View}
use Rattle.row_seat.specs.Views.{OthersFit}
use Rattle.scope_tree.proofs.Follows.{released_follows, same_main}
use Rattle.stream_jobs.specs.declared.job.Job.{Job}
use Rattle.stream_jobs.specs.declared.running.Stage.{Stage}
use Rattle.stream_jobs.specs.declared.running.Stage.TheVariants as stage
use Rattle.stream_jobs.specs.Jobs.{FitsJob, IsJob, IsSameJob, seen_job}
use Rattle.stream_jobs.specs.Messages.{held}
use Rattle.stream_jobs.specs.Running.{FitsStage, Origin, Stands}
use Rattle.stream_jobs.proofs.Working.{some_same, stage_stands}
use Rattle.stream_workers.specs.Returns.{ComesBack}

module _ {S V F D T : Type 0} (view : S → View V) (values : T → Values) (told : V → DeviceTold) (P : Values → StateMeaning F) (fits : S → D → Type 0) where
  -- the seat of a stage
  abbrev seat_in : Stage S V F V D T → S
  seat_in (stage.Running r) = r.stepper.runner.outside.tree.seat
  seat_in (stage.Left l) = l.seat

  seat_fits : (s : Stage S V F V D T) (d : D) → FitsStage told view fits s d → fits (seat_in s) d
  seat_fits (stage.Running r) d f = f.stands.tree.seat
  seat_fits (stage.Left l) d f = f

  -- it isn't the main seat
  side_seat : (w : Origin V F) (s : Stage S V F V D T) (said : List Msg) → Stands told P view values w s said → (view (seat_in s)).main ≡ false
  side_seat w (stage.Running r) said h = h.given.since.alone.main ∙ h.begun.guest.main
  side_seat w (stage.Left l) said h = ap (λ v. v.main) h.leaves.seat_is ∙ (same_main (released_follows h.leaves.cancels.left.2) ∙ (h.run.since.alone.main ∙ h.begun.guest.main))

  -- a stage whose seat fits another desk fits it
  stage_fits : (s : Stage S V F V D T) (d e : D) → FitsStage told view fits s d → fits (seat_in s) e → FitsStage told view fits s e
  stage_fits (stage.Running r) d e f o =
      let t = f.stands.tree in
      record {
        stands = record {
          tree = record { seat = o; sound = t.sound };
          order = f.stands.order;
          held = f.stands.held;
        };
        empty = f.empty;
        enough = f.enough;
      }
  stage_fits (stage.Left l) d e f o = o

  module _ (agree : (s o : S) (d e : D) → fits s d → fits s e → fits o e → (view o).main ≡ false → fits o d) (stays : (s o : S) (k : StreamNo) (d e : D) → fits s d → OthersFit view fits k d e → (view o).main ≡ false → fits o e → fits o d)
      (w : Origin V F) (a b : Job S V F V D T) (k : ℕ) (first last : D) (is_job : IsJob view values told P w a) (fits_first : FitsJob view told fits a first) (others : OthersFit view fits (Inner k) first last) (still : (x : Origin V F) → IsJob view values told P x a → IsJob view values told P x b) (fits_last : FitsJob view told fits b last) where
    fits_each : (d : D) → FitsJob view told fits a d → FitsJob view told fits b d
    fits_each d f =
        let s = fits_first.0 in
        let z = fits_last.0 in
        let one : fits (seat_in s) first = seat_fits s first fits_first.2 in
        let there : fits (seat_in s) d = subst (λ x. fits (seat_in x) d) (some_same a.stage f.0 s f.1 fits_first.1) (seat_fits f.0 d f.2) in
        let side = side_seat w z (b.sender.sent ++ held b.waiting) (stage_stands view values told P w b z (still w is_job) fits_last.1) in
        let back : fits (seat_in z) first = stays (seat_in s) (seat_in z) (Inner k) first last one others side (seat_fits z last fits_last.2) in
        (z, fits_last.1, stage_fits z last d fits_last.2 (agree (seat_in s) (seat_in z) d first there one back side))

    -- another job that fitted the first desk fits the last one
    pub fits_last_too : (x : Origin V F) (j : Job S V F V D T) → IsJob view values told P x j → FitsJob view told fits j first → FitsJob view told fits j last
    fits_last_too x j is f =
        let s = fits_first.0 in
        let z = fits_last.0 in
        let one : fits (seat_in s) first = seat_fits s first fits_first.2 in
        let side = side_seat w z (b.sender.sent ++ held b.waiting) (stage_stands view values told P w b z (still w is_job) fits_last.1) in
        let here : fits (seat_in z) last = seat_fits z last fits_last.2 in
        let back : fits (seat_in z) first = stays (seat_in s) (seat_in z) (Inner k) first last one others side here in
        let its = side_seat x f.0 (j.sender.sent ++ held j.waiting) (stage_stands view values told P x j f.0 is f.1) in
        (f.0, f.1, stage_fits f.0 first last f.2 (agree (seat_in z) (seat_in f.0) last first here back (seat_fits f.0 first f.2) its))

    pub comes_back : IsSameJob (seen_job view values a) (seen_job view values b) → ComesBack view values told P fits a b
    comes_back same = record { job = still; same = same; fits_desk = fits_each }

  -- what a job fits behind a call it fitted before
  pub job_back : (stays : (s o : S) (k : StreamNo) (d e : D) → fits s d → OthersFit view fits k d e → (view o).main ≡ false → fits o e → fits o d) (w : Origin V F) (j : Job S V F V D T) → IsJob view values told P w j → (s : S) (k : StreamNo) (d e : D) → fits s d → OthersFit view fits k d e → FitsJob view told fits j e → FitsJob view told fits j d
  job_back stays w j is s k d e one others f =
      let side = side_seat w f.0 (j.sender.sent ++ held j.waiting) (stage_stands view values told P w j f.0 is f.1) in
      (f.0, f.1, stage_fits f.0 e d f.2 (stays s (seat_in f.0) k d e one others side (seat_fits f.0 e f.2)))

  -- and where a desk fits each seat that another fits, so does it with jobs
  pub job_on : (j : Job S V F V D T) (d e : D) → ((s : S) → fits s d → fits s e) → FitsJob view told fits j d → FitsJob view told fits j e
  job_on j d e all f = (f.0, f.1, stage_fits f.0 d e f.2 (all (seat_in f.0) (seat_fits f.0 d f.2)))

  -- a job that stayed here comes back as it is
  pub same_back : (a b : Job S V F V D T) → a ≡ b → ComesBack view values told P fits a b
  same_back a b e = subst (λ x. ComesBack view values told P fits a x) e (record { job = λ w h. h; same = record { stream = refl; hub = refl; board = refl }; fits_desk = λ d f. f })

  pub back_further : (a b c : Job S V F V D T) → ComesBack view values told P fits a b → ComesBack view values told P fits b c → ComesBack view values told P fits a c
  back_further a b c x y = record {
    job = λ w h. y.job w (x.job w h);
    same = record { stream = y.same.stream ∙ x.same.stream; hub = y.same.hub ∙ x.same.hub; board = y.same.board ∙ x.same.board };
    fits_desk = λ d f. y.fits_desk d (x.fits_desk d f);
  }

  -- a job at its desk that was taken further, at that desk
  pub record Continues (a : Job S V F V D T) (first : D) (b : Job S V F V D T) (last : D) : Type 0 where
    pub job : (w : Origin V F) → IsJob view values told P w a → IsJob view values told P w b
    pub same : IsSameJob (seen_job view values a) (seen_job view values b)
    pub fits_desk : FitsJob view told fits b last
    pub others : OthersFit view fits (Inner a.sender.stream) first last

  -- and by one turn more
  pub further : (a : Job S V F V D T) (first : D) (b : Job S V F V D T) (mid : D) (c : Job S V F V D T) (last : D) → Continues a first b mid → ((w : Origin V F) → IsJob view values told P w b → IsJob view values told P w c)
      → IsSameJob (seen_job view values b) (seen_job view values c) → FitsJob view told fits c last → OthersFit view fits (Inner b.sender.stream) mid last → Continues a first c last
  further a first b mid c last h job same at others =
      let own = subst (λ k. OthersFit view fits (Inner k) mid last) h.same.stream others in
      record {
        job = λ w is. job w (h.job w is);
        same = record { stream = same.stream ∙ h.same.stream; hub = same.hub ∙ h.same.hub; board = same.board ∙ h.same.board };
        fits_desk = at;
        others = λ o n f. own o n (h.others o n f);
      }
