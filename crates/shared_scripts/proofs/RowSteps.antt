-- The steps of a row in a scope of its own, call by call.
use Rattle.std.proofs.Common.{◌≡◌, ℕ, ◌+◌, ◌≤◌, Bool, [], ◌∷◌, ◌++◌, inl, inr, refl, sym, ap, ◌∙◌, subst, arith}
use Rattle.chunk_core.specs.declared.code.Exit.TheVariants.{Succeeded}
use Rattle.chunk_core.specs.Lists.{IsAmong}
use Rattle.chunk_core.proofs.Filters.{among_right}
use Rattle.chunk_core.proofs.Members.{among_last}
use Rattle.chunk_core.specs.Lists.IsAmong.{here}
use Rattle.res_ledger.specs.declared.event.Event.{Event}
use Rattle.res_ledger.specs.declared.event.What.{What}
use Rattle.res_ledger.specs.declared.event.What.TheVariants.{Acquire, Close, Open}
use Rattle.res_ledger.specs.Ledger.{Notes}
use Rattle.res_ledger.specs.Ledger.LiesWithin.{same}
use Rattle.row_seat.specs.declared.view.Left.TheVariants.{Stays, Yours}
use Rattle.row_seat.specs.declared.view.View.{View}
use Rattle.row_seat.specs.Views.{CanClose, CanPlace, CanTake, ClosesRow, LeavesRow, MayNote, handed_over, noted, placed}
use Rattle.shared_scripts.specs.Rows.{AllPast, CanOpenRow, CanShutRow, IsPast, with_note, with_row_open}
use Rattle.shared_scripts.proofs.Pasts.{grow, more_notes, not_acquired, not_closed, not_opened, root_open}

module _ {P : Type 0} where
  pub last_note : (v : View P) (s : ℕ) (w : What) → Notes (with_note v s w).events v.by w
  last_note v s w = let e : Event = record { stamp = s; by = v.by; what = w } in (e, among_last v.events e, refl, refl)

  module _ (v : View P) (r : ℕ) (can : CanOpenRow v r) (s t : ℕ) where
    abbrev pub opening : View P
    opening = with_note v s (Open (r + 1) 0)

    abbrev pub acquiring : View P
    acquiring = with_note opening t (Acquire r (r + 1))

    pub may_open : MayNote v (Open (r + 1) 0) × (1 ≤ v.spare)
    may_open = let room = can.3 in (((λ e. omega arith), not_opened v.events can.1 v.by (r + 1) (omega arith), (inl refl, root_open v.events can.1 v.by)), omega arith)

    past_open : AllPast opening (r + 1) r can.0 r
    past_open = grow v.events can.1 (r + 1) r can.0 r (omega arith) (omega arith) (omega arith) (omega arith) (record { stamp = s; by = v.by; what = Open (r + 1) 0 }) (omega arith, omega arith, refl)

    pub may_acquire : MayNote opening (Acquire r (r + 1)) × (1 ≤ opening.spare)
    may_acquire = let room = can.3 in ((can.2, not_acquired opening.events past_open r (omega arith), (inr (0, last_note v s (Open (r + 1) 0)), not_closed opening.events past_open v.by (r + 1) (omega arith))), omega arith)

    pub can_place : CanPlace acquiring r
    can_place = (can.2, (r + 1, last_note opening t (Acquire r (r + 1))))

  module _ (v : View P) (r : ℕ) (can : CanShutRow v r) (s : ℕ) where
    abbrev pub closing : View P
    closing = with_note v s (Close (r + 1) Succeeded)

    pub may_close : MayNote v (Close (r + 1) Succeeded) × (1 ≤ v.spare)
    may_close = let room = can.5 in (can.2, omega arith)

    pub can_close : CanClose closing r
    can_close = (
      can.0,
      (r + 1, more_notes _ can.1, (r + 1, same (r + 1), (Succeeded, last_note v s (Close (r + 1) Succeeded)))),
      λ j m. let l = can.3 j m in (l.0, more_notes _ l.1),
    )

    pub close_takes : (u : View P) → ClosesRow closing r Yours u → CanTake u r × (1 ≤ u.spare)
    close_takes u x = let room = can.5 in subst (λ z. CanTake z r × (1 ≤ z.spare)) (sym x.2) ((among_last v.handed r, can.4), omega arith)

pub leave_takes : {P : Type 0} (v u : View P) (j r : ℕ) → ¬ (IsAmong r v.taken) → 1 ≤ v.spare → LeavesRow v j r Yours u → CanTake u r × (1 ≤ u.spare)
leave_takes v u j r not room x = subst (λ z. CanTake z r × (1 ≤ z.spare)) (sym x.1) ((among_last v.handed r, not), room)
