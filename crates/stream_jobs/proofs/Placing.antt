-- Where the interruptions lie that a stream set and obeyed.
use Rattle.std.proofs.Common.{◌≡◌, ◌⊎◌, ℕ, ◌<◌, ◌≤◌, Bool, true, false, List, [], ◌∷◌, ◌++◌, sym, ◌∙◌, ap, subst, ⊎_elim, arith}
use Rattle.chunk_core.specs.Lists.{IsAmong}
use Rattle.chunk_core.specs.Tables.{Values}
use Rattle.chunk_core.specs.declared.code.Exit.{Exit}
use Rattle.chunk_core.specs.declared.code.How.{How}
use Rattle.chunk_core.specs.declared.code.How.TheVariants as how
use Rattle.chunk_core.specs.declared.load.Load.{Load}
use Rattle.chunk_core.proofs.Filters.{among_append}
use Rattle.chunk_core.proofs.Members.{among_cons, among_nil}
use Rattle.channel_bounded.specs.declared.message.Msg.{Msg}
use Rattle.device_port.specs.Device.{DeviceTold}
use Rattle.interrupt_ctx.specs.Ends.{HasFound, HasSet, SeatSeen}
use Rattle.interrupt_ctx.specs.Views.{interruption}
use Rattle.interrupt_ctx.specs.declared.view.Interruption.{Interruption}
use Rattle.interrupt_ctx.specs.declared.why.Stop.{Stop}
use Rattle.pull_turns.specs.Piping.{StateMeaning}
use Rattle.res_ledger.specs.declared.event.Event.{Event}
use Rattle.res_ledger.specs.declared.event.StreamNo.TheVariants.{Inner}
use Rattle.res_ledger.specs.declared.event.What.{What}
use Rattle.res_ledger.specs.declared.event.What.TheVariants.{Cancel, Close}
use Rattle.row_seat.specs.Fronts.{sight_of}
use Rattle.row_seat.specs.declared.front.Sight.{Sight}
use Rattle.row_seat.specs.declared.view.View.{View}
use Rattle.scope_tree.specs.declared.branch.Spent.{Spent}
use Rattle.scope_tree.specs.Calls.{Cancels, Seen}
use Rattle.scope_tree.specs.Trace.{canceling}
use Rattle.scope_tree.proofs.Follows.{is_end, same_by}
use Rattle.scope_tree.proofs.Use.{cancel_follows}
use Rattle.pull_stepper.specs.Behind.{ClosesRootBehind}
use Rattle.pull_stepper.specs.Sites.{Site}
use Rattle.pull_stepper.specs.Stepping.{Stepping}
use Rattle.stream_jobs.specs.Leaving.{Leaves}
use Rattle.stream_jobs.specs.Places.{CloseBehind, HasPlaces, NameBehind}
use Rattle.stream_jobs.specs.Running.{HasRun, IsBegun, IsEndedJob, Origin}
use Rattle.stream_jobs.specs.Steps.{Interrupts}
use Rattle.stream_jobs.proofs.Learning.{HasSeen}

-- a Close isn't the Cancel of a lease, nor the end of a row
not_cancel : (w : What) (j s : ℕ) (x y : Exit) → w ≡ Cancel j x → w ≡ Close s y → ⊥
not_cancel w j s x y c e = let f : Cancel j x ≡ Close s y = sym c ∙ e in cc

not_end : (w : What) (s : ℕ) (y : Exit) → is_end w ≡ true → w ≡ Close s y → ⊥
not_end w s y t e = let f : false ≡ true = sym (ap is_end e) ∙ t in cc

module _ {P : Type 0} {ends : P → Exit → Bool → P → Type 0} {a b : Seen P} {j : ℕ} {T : List ℕ} {x : Exit} (c : Cancels ends a j T x b) where
  -- a Close that stands there behind a cancellation stood there before
  cancelled_closes : (e : Event) (s : ℕ) (y : Exit) → IsAmong e b.seat.events → e.what ≡ Close s y → IsAmong e a.seat.events
  cancelled_closes e s y m is =
      let f = cancel_follows c in
      let n = canceling a.seat j x c.stamp in
      ⊎_elim
      (λ i. ⊎_elim
      (λ q. q)
      (λ q. ⊎_elim (λ o. absurd (not_cancel e.what j s x y (ap (λ (z : Event). z.what) o) is)) (λ o. absurd (among_nil o)) (among_cons q))
      (among_append e a.seat.events (n ∷ []) i))
      (λ i. absurd (not_end e.what s y (f.events.2 e i).1 is))
      (among_append e (a.seat.events ++ n ∷ []) f.events.0 (subst (λ L. IsAmong e L) f.events.1 m))

-- the seat stays in the name of its stream
pub ended_by : {V F : Type 0} (told : V → DeviceTold) (j : ℕ) (T : List ℕ) (x : Site V) (s : Stepping V F) (seat : View V) (shelf : List (Spent V)) (unopened : List V) (h : How) → Leaves told j T x s seat shelf unopened h → seat.by ≡ s.site.tree.seat.by
ended_by {V = V} told j T x s seat shelf unopened h l = ap (λ (v : View V). v.by) l.seat_is ∙ same_by (cancel_follows l.cancels)

module _ {V F : Type 0} (told : V → DeviceTold) (P : Values → StateMeaning F) (w : Origin V F) (s : Stepping V F) (j : ℕ) (T : List ℕ) (h g : How) (loads : List Load) (seat : View V) (shelf : List (Spent V)) (unopened : List V)
    (begun : IsBegun told w) (run : HasRun told P w s h loads) (left : Leaves told j T w.start.site s seat shelf unopened g) where
  -- all that the stream noted is in its own name
  own_events : (e : Event) → IsAmong e s.site.tree.seat.events → e.by ≡ s.site.tree.seat.by
  own_events e m = ⊎_elim (λ o. absurd (among_nil (subst (λ L. IsAmong e L) begun.guest.start.events o))) (λ o. o.0) (run.since.alone.events e m)

  -- what closed its root behind a front before it left, did so
  pub left_behind : (n : ℕ) → ClosesRootBehind s.site.tree.seat n → CloseBehind seat.events n
  left_behind n b e y m is =
      let i = cancelled_closes left.cancels e 0 y (subst (λ (v : View V). IsAmong e v.events) left.seat_is m) is in
      b e y i (own_events e i) is

-- what a job left is in the name of its stream
pub job_by : {V F : Type 0} (told : V → DeviceTold) (P : Values → StateMeaning F) (w : Origin V F) (seat : View V) (shelf : List (Spent V)) (unopened : List V) (h : How) (said : List Msg) → IsEndedJob told P w seat shelf unopened h said → seat.by ≡ Inner w.stream
job_by told P w seat shelf unopened h said d = ended_by told w.stream w.leased w.start.site d.last_step seat shelf unopened h d.leaves ∙ (d.run.since.alone.by ∙ d.begun.guest.by)

-- where the stream has left, and was halted only for a stop that was found, behind the front that this names
pub places_by : {V : Type 0} (k : ℕ) (seat same : View V) (looked new : SeatSeen) (h : How) → same ≡ seat → NameBehind seat.events new.view.set → Interrupts h looked new
    → (h ≡ how.Halted → (stop : Stop) × HasSeen k looked stop × CloseBehind seat.events stop.at) → HasPlaces k same new.view h
places_by {V = V} k seat same looked new h is named stops obeyed = subst (λ (v : View V). HasPlaces k v new.view h) (sym is) (record {
  named = named;
  obeyed = λ e. let o = obeyed e in let q : new ≡ looked = subst (λ x. Interrupts x looked new) e stops in (o.0, subst (λ (s : SeatSeen). HasSeen k s o.0) (sym q) o.1, o.2);
})

-- a seat that had set nothing, and sets or finds a stop that names a front behind these events
pub names_by : (L : List Event) (old new : SeatSeen) (stop : Stop) → old.view.set ≡ [] → ((e : Event) → IsAmong e L → e.stamp < stop.at) → HasSet old new 0 stop ⊎ ((there : Stop) × HasFound old new 0 there) → NameBehind L new.view.set
names_by L old new stop none behind t = ⊎_elim
    (λ (s : HasSet old new 0 stop). subst (λ (z : SeatSeen). NameBehind L z.view.set) (sym s) (λ x m e i.
    ⊎_elim
    (λ o. absurd (among_nil (subst (λ xs. IsAmong x xs) none o)))
    (λ o. ⊎_elim (λ q. subst (λ (y : Interruption). e.stamp < y.stop.at) (sym q) (behind e i)) (λ n. absurd (among_nil n)) (among_cons o))
    (among_append x old.view.set (interruption 0 stop ∷ []) m)))
    (λ (f : (there : Stop) × HasFound old new 0 there). subst (λ (z : SeatSeen). NameBehind L z.view.set) (sym f.1) (λ x m e i. absurd (among_nil (subst (λ xs. IsAmong x xs) none m))))
    t

-- what was seen, in the words of a stepper that is the same
pub sight_seen : {V F : Type 0} (s t : Stepping V F) (x : Sight) (n : ℕ) → x ≡ sight_of s.site.tree.seat n → s ≡ t → x ≡ sight_of t.site.tree.seat x.front
sight_seen {V = V} {F = F} s t x n is same = is ∙ (ap (λ (u : Stepping V F). sight_of u.site.tree.seat n) same ∙ ap (λ (k : ℕ). sight_of t.site.tree.seat k) (sym (ap (λ (z : Sight). z.front) is)))

-- what is closed behind a front is closed behind each lower one
pub closes_sooner : {P : Type 0} (v : View P) (m n : ℕ) → m ≤ n → ClosesRootBehind v n → ClosesRootBehind v m
closes_sooner v m n le b e x i by is = let q = b e x i by is in omega (arith, le, q)
