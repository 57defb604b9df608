-- A job stays one.
use Rattle.std.proofs.Common.{◌≡◌, ℕ, ◌<◌, length, List, [], ◌∷◌, ◌++◌, Option, Some, None, IfSome, IsSome, refl, sym, ◌∙◌, ap, subst, ⊎_elim, append-nil}
use Rattle.chunk_core.specs.Elements.{elements}
use Rattle.chunk_core.specs.Tables.{Values}
use Rattle.chunk_core.specs.declared.code.How.{How}
use Rattle.chunk_core.specs.declared.code.How.TheVariants as how
use Rattle.chunk_core.specs.declared.load.Load.{Load}
use Rattle.channel_bounded.specs.declared.message.Msg.{Msg}
use Rattle.device_port.specs.Device.{DeviceTold}
use Rattle.interrupt_ctx.specs.Ends.{SeatSeen}
use Rattle.pull_turns.specs.Piping.{StateMeaning}
use Rattle.row_seat.specs.declared.view.View.{View}
use Rattle.pull_stepper.specs.Stepping.{Stepping}
use Rattle.stream_jobs.specs.declared.job.Job.{Job}
use Rattle.stream_jobs.specs.declared.running.Stage.{Stage}
use Rattle.stream_jobs.specs.Jobs.{IsJob, IsOver, JobSeen}
use Rattle.stream_jobs.specs.Learned.{HasLearned}
use Rattle.stream_jobs.specs.Messages.{IsFullMessage, IsNews, end_message, held, load_message}
use Rattle.stream_jobs.specs.Running.{Origin, StagePlaces, Stands, ended_at}
use Rattle.stream_jobs.specs.Steps.{Interrupts, MovesOn}

-- the stream of the first message, where there is one
abbrev head_stream : List Msg → ℕ → ℕ
head_stream [] k = k
head_stream (m ∷ ms) k = m.stream

-- what is said is of the stream
pub news_stream : (k : ℕ) (h : Option How) (load : Option Load) (message : Option Msg) → IsNews k h load (held message) → IfSome message (λ m. m.stream ≡ k)
news_stream k h load None e = tt
news_stream k (Some h) load (Some m) e = ap (λ xs. head_stream xs k) e
news_stream k None (Some l) (Some m) e = ap (λ xs. head_stream xs k) e.2
news_stream k None None (Some m) e = ap (λ xs. head_stream xs k) e

-- what is said is full, where the load that came is
pub news_full : (k : ℕ) (h : Option How) (load : Option Load) (message : Option Msg) → IsNews k h load (held message) → IfSome load (λ l. 0 < length (elements l)) → IfSome message IsFullMessage
news_full k h load None e f = tt
news_full k (Some h) load (Some m) e f = let q : m ≡ end_message k h = cc in subst IsFullMessage (sym q) tt
news_full k None (Some l) (Some m) e f = let s : m ∷ [] ≡ load_message k e.0 ∷ [] = e.2 in let q : m ≡ load_message k e.0 = cc in subst IsFullMessage (sym q) (e.1.some f)
news_full k None None (Some m) e f = absurd (let q : m ∷ [] ≡ [] = e in cc)

-- nothing waits, and the job isn't over: so its stepper hasn't ended
pub runs_still : {V F : Type 0} (running : Option (Stepping V F)) (j : JobSeen V F) → j.running ≡ running → ¬ (IsOver j) → j.waiting ≡ None → IsSome j.running
runs_still (Some s) j e n w = subst IsSome (sym e) refl
runs_still None j e n w = absurd (n (record { ended = e; sent = w }))

pub some_same : {T : Type 0} (o : Option T) (x y : T) → o ≡ Some x → o ≡ Some y → x ≡ y
some_same o x y a b = let e : Some x ≡ Some y = sym a ∙ b in cc

-- a job whose stepper hasn't ended isn't over
pub running_open : {V F : Type 0} (j : JobSeen V F) (s : Stepping V F) → j.running ≡ Some s → ¬ (IsOver j)
running_open j s e o = let f : None ≡ Some s = sym o.ended ∙ e in cc

-- nor is one whose message waits
pub waiting_open : {V F : Type 0} (j : JobSeen V F) (m : Msg) → j.waiting ≡ Some m → ¬ (IsOver j)
waiting_open j m e o = let f : None ≡ Some m = sym o.sent ∙ e in cc

module _ {S V F D T : Type 0} (view : S → View V) (values : T → Values) (told : V → DeviceTold) (P : Values → StateMeaning F) (w : Origin V F) where
  -- a stage of the job stands as the job does
  pub stage_stands : (j : Job S V F V D T) (s : Stage S V F V D T) → IsJob view values told P w j → j.stage ≡ Some s → Stands told P view values w s (j.sender.sent ++ held j.waiting)
  stage_stands j s h e = subst (λ x. Stands told P view values w x (j.sender.sent ++ held j.waiting)) (some_same j.stage h.stage s h.stage_is e) h.stands

  -- a message more is to be said, and nothing waited
  pub job_on : (a b : Job S V F V D T) (s : Stage S V F V D T) → IsJob view values told P w a → a.waiting ≡ None → b.sender ≡ a.sender → b.stream ≡ a.stream → b.stage ≡ Some s → IfSome b.waiting (λ m. m.stream ≡ w.stream) → IfSome b.waiting IsFullMessage
      → Stands told P view values w s ((a.sender.sent ++ held a.waiting) ++ held b.waiting) → HasLearned w.stream w.board b.board (ended_at s) → StagePlaces view w.stream b.board.view s → IsJob view values told P w b
  job_on a b s h none same number is waits full stands learned places =
      let before : a.sender.sent ++ held a.waiting ≡ b.sender.sent = ap (λ o. a.sender.sent ++ held o) none ∙ (append-nil a.sender.sent ∙ sym (ap (λ x. x.sent) same)) in
      record {
        number = number ∙ h.number;
        sender = ap (λ x. x.stream) same ∙ h.sender;
        waits = waits;
        full = full;
        stage = s;
        stage_is = is;
        stands = subst (λ xs. Stands told P view values w s (xs ++ held b.waiting)) before stands;
        learned = learned;
        places = places;
      }

  -- the same was said
  pub job_sends : (a b : Job S V F V D T) → IsJob view values told P w a → b.stage ≡ a.stage → b.stream ≡ a.stream → b.board ≡ a.board → b.sender.sent ++ held b.waiting ≡ a.sender.sent ++ held a.waiting → b.sender.stream ≡ a.sender.stream → IfSome b.waiting (λ m. m.stream ≡ b.sender.stream) → IfSome b.waiting IsFullMessage → IsJob view values told P w b
  job_sends a b h stage_same number board says stream waits full = record {
    number = number ∙ h.number;
    sender = stream ∙ h.sender;
    waits = subst (λ k. IfSome b.waiting (λ m. m.stream ≡ k)) (stream ∙ h.sender) waits;
    full = full;
    stage = h.stage;
    stage_is = stage_same ∙ h.stage_is;
    stands = subst (λ xs. Stands told P view values w h.stage xs) (sym says) h.stands;
    learned = subst (λ s. HasLearned w.stream w.board s (ended_at h.stage)) (sym board) h.learned;
    places = subst (λ (s : SeatSeen). StagePlaces view w.stream s.view h.stage) (sym board) h.places;
  }

-- the seat stays at its board
interrupts_board : (h : How) (u v : SeatSeen) → Interrupts h u v → v.board ≡ u.board
interrupts_board how.Done u v e = ap (λ x. x.board) e
interrupts_board how.Halted u v e = ap (λ x. x.board) e
interrupts_board (how.Fault c) u v e = ⊎_elim (λ s. ap (λ x. x.board) s.2) (λ f. ap (λ x. x.board) f.1) e
interrupts_board how.Memory u v e = ⊎_elim (λ s. ap (λ x. x.board) s.2) (λ f. ap (λ x. x.board) f.1) e

pub moves_board : {V F : Type 0} (P : Values → StateMeaning F) (told : V → DeviceTold) (k : ℕ) (s : Stepping V F) (running : Option (Stepping V F)) (u v : SeatSeen) (fresh : List Msg) → MovesOn P told k s running u v fresh → v.board ≡ u.board
moves_board P told k s running u v fresh m =
    let by_end : (o : Option How) → m.behind.how ≡ o → v.board ≡ u.board = λ o. elim o as (λ x. m.behind.how ≡ x → v.board ≡ u.board) [
      | None ↦ (λ e. ap (λ x. x.board) ((m.stays e).1 ∙ m.looks))
      | Some h ↦ (λ e. interrupts_board h m.looked v (m.leaves h e).1 ∙ ap (λ x. x.board) m.looks)
    ] in
    by_end m.behind.how refl
