-- A pump that prints, stops and gives turns.
use Rattle.std.proofs.Common.{◌≡◌, ◌⊎◌, Bool, true, false, ℕ, ◌≤◌, List, inl, inr, length, vec_capacity, Option, sym, ◌∙◌, subst, ap, ⊎_elim}
use Rattle.std.specs.Global.{Global}
use Rattle.std.specs.declared.vec.Vec.{Vec}
use Rattle.chunk_core.specs.Elements.{Element, LoadKind}
use Rattle.chunk_core.specs.Feed.{Meaning}
use Rattle.chunk_core.specs.declared.code.Code.{Code}
use Rattle.chunk_core.specs.declared.code.How.{How}
use Rattle.chunk_core.specs.declared.code.How.TheVariants as how
use Rattle.device_port.specs.Sink.{SinkTold}
use Rattle.std.specs.Bool.{OnFalse, OnTrue}
use Rattle.chunk_core.proofs.Members.{among_last}
use Rattle.interrupt_ctx.specs.Ends.{BoardSeen, HasFound, HasSet, SeatSeen}
use Rattle.interrupt_ctx.specs.Views.{Knows, interruption}
use Rattle.interrupt_ctx.specs.declared.why.Stop.{Stop}
use Rattle.tee_prints.specs.Printed.{MustStop}
use Rattle.tee_pump.specs.declared.pump.Pump.{Pump}
use Rattle.tee_pump.specs.Branches.{AreHired, SharedSeen}
use Rattle.tee_pump.specs.Printing.{GoesOn, HasCause, IsPrinting}
use Rattle.tee_pump.specs.Pumps.{IsServing}
use Rattle.tee_pump.specs.Stopping.{Interrupts, IsEarly, IsSeat, IsStopped, StopsWhere}
use Rattle.tee_pump.proofs.Printing.{cause_stays, told_cause}

-- the seat is interrupted where it must stop, which is a cause
pub seat_stops : (board : BoardSeen) (n : ℕ) (C D must : Type 0) (a b : SeatSeen) → IsSeat board n C a → StopsWhere must a b → (must → D) → (C → D) → IsSeat board n D b
seat_stops board n C D must a b h (inl (m, i)) new old = record { board_is = i.board_is ∙ h.board_is; first = i.first ∙ h.first; out = i.out ∙ h.out; caused = λ stop c. new m }
seat_stops board n C D must a b h (inr (non, e)) new old = subst (λ s. IsSeat board n D s) (sym e) (record { board_is = h.board_is; first = h.first; out = h.out; caused = λ stop c. old (h.caused stop c) })

pub stopped_where : (must : Type 0) (a b : SeatSeen) → StopsWhere must a b → must → IsStopped b
stopped_where must a b (inl (m, i)) h = i.stopped
stopped_where must a b (inr (non, e)) h = absurd (non h)

-- whoever set it, the run is interrupted
pub set_stops : (a c : SeatSeen) (stop : Stop) (b : Bool) (X : Stop → Type 0) → OnTrue b (HasSet a c 0 stop) → OnFalse b ((there : Stop) × HasFound a c 0 there × X there) → Interrupts a c
set_stops a c stop true X t f = record {
  board_is = ap (λ (s : SeatSeen). s.board) t;
  first = ap (λ (s : SeatSeen). s.view.first) t;
  out = ap (λ (s : SeatSeen). s.view.out) t;
  stopped = (stop, subst (λ (s : SeatSeen). Knows s.view 0 stop) (sym t) (inl (among_last a.view.set (interruption 0 stop))));
}
set_stops a c stop false X t f = record {
  board_is = ap (λ (s : SeatSeen). s.board) f.1;
  first = ap (λ (s : SeatSeen). s.view.first) f.1;
  out = ap (λ (s : SeatSeen). s.view.out) f.1;
  stopped = (f.0, subst (λ (s : SeatSeen). Knows s.view 0 f.0) (sym f.1) (inr (among_last a.view.seen (interruption 0 f.0))));
}

module _ {F : Type 0} (StandsFor : F → Meaning → List Element → Type 0) (Comes : F → LoadKind → List Element → Option Code → Type 0) (s : SharedSeen) (ms : List Meaning) where
  pub served : (reader : How) (start now after : SinkTold) (p q : Pump F) → IsServing StandsFor Comes s ms reader start now p → IsPrinting s.hub (length ms) start after q.printer → GoesOn p.printer q.printer
      → StopsWhere (MustStop q.printer.ends.items q.printer.broken) p.seat q.seat → AreHired StandsFor Comes s ms q.hired.items → q.ends ≡ p.ends → IsServing StandsFor Comes s ms reader start after q
  served reader start now after p q h printing on stops hired ends = record {
    hired = hired;
    printing = printing;
    context = h.context;
    seat = seat_stops s.board (length ms) (HasCause (length ms) p.printer ⊎ IsEarly reader) (HasCause (length ms) q.printer ⊎ IsEarly reader) (MustStop q.printer.ends.items q.printer.broken) p.seat q.seat h.seat stops
        (λ m. inl (told_cause s.hub (length ms) start after q.printer printing m)) (λ c. ⊎_elim (λ x. inl (cause_stays (length ms) p.printer q.printer on x)) (λ x. inr x) c);
    obeyed = stopped_where (MustStop q.printer.ends.items q.printer.broken) p.seat q.seat stops;
    none_told = ap (λ (e : Vec How Global). e.items) ends ∙ h.none_told;
    room = subst (λ (e : Vec How Global). length ms ≤ vec_capacity e) (sym ends) h.room;
  }

  -- only the publisher did something
  pub serving_same : (reader : How) (start now : SinkTold) (p q : Pump F) → q.printer ≡ p.printer → q.seat ≡ p.seat → q.hired ≡ p.hired → q.ends ≡ p.ends → IsServing StandsFor Comes s ms reader start now p → IsServing StandsFor Comes s ms reader start now q
  serving_same reader start now p q a b c d h = record {
    hired = subst (λ v. AreHired StandsFor Comes s ms v.items) (sym c) h.hired;
    printing = subst (λ v. IsPrinting s.hub (length ms) start now v) (sym a) h.printing;
    context = h.context;
    seat = subst (λ v. IsSeat s.board (length ms) (HasCause (length ms) v ⊎ IsEarly reader) q.seat) (sym a) (subst (λ v. IsSeat s.board (length ms) (HasCause (length ms) p.printer ⊎ IsEarly reader) v) (sym b) h.seat);
    obeyed = subst (λ v. MustStop v.ends.items v.broken → IsStopped q.seat) (sym a) (subst (λ v. MustStop p.printer.ends.items p.printer.broken → IsStopped v) (sym b) h.obeyed);
    none_told = ap (λ (e : Vec How Global). e.items) d ∙ h.none_told;
    room = subst (λ (e : Vec How Global). length ms ≤ vec_capacity e) (sym d) h.room;
  }

  -- the run was interrupted since the reader wasn't done
  pub serving_closed : (reader : How) (start now : SinkTold) (p q : Pump F) → IsEarly reader → q.printer ≡ p.printer → Interrupts p.seat q.seat → q.hired ≡ p.hired → q.ends ≡ p.ends → IsServing StandsFor Comes s ms how.Done start now p → IsServing StandsFor Comes s ms reader start now q
  serving_closed reader start now p q early a i c d h = record {
    hired = subst (λ v. AreHired StandsFor Comes s ms v.items) (sym c) h.hired;
    printing = subst (λ v. IsPrinting s.hub (length ms) start now v) (sym a) h.printing;
    context = h.context;
    seat = record { board_is = i.board_is ∙ h.seat.board_is; first = i.first ∙ h.seat.first; out = i.out ∙ h.seat.out; caused = λ stop m. inr early };
    obeyed = λ m. i.stopped;
    none_told = ap (λ (e : Vec How Global). e.items) d ∙ h.none_told;
    room = subst (λ (e : Vec How Global). length ms ≤ vec_capacity e) (sym d) h.room;
  }
