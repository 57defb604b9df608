-- Two seats with one row, call by call, and the handles that they come back with.
use Rattle.std.proofs.Common.{◌≡◌, ◌≢◌, ℕ, ◌≤◌, Bool, false, [], ◌∷◌, ◌++◌, refl, sym, ap, ◌∙◌, subst, ⊎_elim, arith}
use Rattle.std.proofs.lemmas.Bool.{cases_Bool}
use Rattle.chunk_core.specs.declared.code.Exit.TheVariants.{Succeeded}
use Rattle.chunk_core.specs.Lists.{IsAmong}
use Rattle.chunk_core.specs.Lists.IsAmong.{here}
use Rattle.chunk_core.proofs.Members.{among_last, among_left, among_nil}
use Rattle.res_ledger.specs.declared.event.Event.{Event}
use Rattle.res_ledger.specs.declared.event.What.{What}
use Rattle.res_ledger.specs.declared.event.What.TheVariants.{Cancel, Close, Final}
use Rattle.res_ledger.specs.declared.event.StreamNo.TheVariants.{Inner, Outer}
use Rattle.res_ledger.specs.Ledger.{IsAcquired}
use Rattle.res_ledger.specs.Ledger.LiesWithin.{same}
use Rattle.row_seat.specs.declared.view.Left.TheVariants.{Stays, Yours}
use Rattle.row_seat.specs.declared.view.View.{View}
use Rattle.row_seat.specs.Views.{CanClose, CanFinish, CanJoin, CanLeave, CanTake, ClosesRow, LeavesRow, MayNote, joined, name_of, noted, took, without, without_pair, without_row}
use Rattle.row_shared.specs.declared.seat.SharedSeat.{SharedSeat}
use Rattle.row_shared.specs.declared.seat.TableRef.{TableRef}
use Rattle.row_shared.specs.Seats.{SharedFits, shown}
use Rattle.row_shared.specs.Handles.{fits_other}
use Rattle.shared_scripts.specs.Races.{HasClosed, HasLeft, IsEnded, IsLessee, IsOwner}

pub outer_inner : (n : ℕ) → Outer ≢ Inner n
outer_inner n e = cc

module _ {P : Type 0} where
  abbrev pub event : View P → ℕ → What → Event
  event v n x = record { stamp = n; by = v.by; what = x }

  -- a payload was taken and its Final noted
  abbrev ended : View P → ℕ → ℕ → Bool → View P
  ended v r n ok = noted (took v r) (event v n (Final r Succeeded ok))

  -- the main seat, with the Close of the root noted
  module _ (v : View P) (o : IsOwner v) (n : ℕ) where
    abbrev pub closing : View P
    closing = noted v (event v n (Close 0 Succeeded))

    pub can_close : CanClose closing 0
    can_close = (
      (o.pay, subst (λ l. IsAmong (0, o.pay) l) (sym o.opened) (here [])),
      (0, (let a = o.acquired in (a.0, among_left (event v n (Close 0 Succeeded) ∷ []) a.1, a.2, a.3)), (0, same 0, (Succeeded, (event v n (Close 0 Succeeded), among_last v.events (event v n (Close 0 Succeeded)), refl, refl)))),
      λ j m. absurd (among_nil (subst (λ l. IsAmong (j, 0) l) o.pairs m)),
    )

    no_row : without_row 0 v.opened ≡ []
    no_row = ap (λ l. without_row 0 l) o.opened

    pub stays : (w : View P) → ClosesRow closing 0 Stays w → HasClosed w
    stays w c = let e = c.2 in record {
      main = ap (λ z. z.main) e ∙ o.main;
      by = ap (λ z. z.by) e ∙ o.by;
      empty = ap (λ z. z.empty) e ∙ o.empty;
      opened = ap (λ z. z.opened) e ∙ no_row;
      pairs = ap (λ z. z.pairs) e ∙ o.pairs;
      kept = ap (λ z. z.kept) e ∙ o.kept;
      handed = ap (λ z. z.handed) e ∙ o.handed;
      taken = ap (λ z. z.taken) e ∙ o.taken;
      out = ap (λ z. z.out) e ∙ o.out;
    }

    pub yours_takes : (w : View P) → ClosesRow closing 0 Yours w → CanTake w 0 × (1 ≤ w.spare)
    yours_takes w c = subst (λ z. CanTake z 0 × (1 ≤ z.spare)) (sym c.2) ((among_last v.handed 0, λ m. among_nil (subst (λ l. IsAmong 0 l) o.taken m)), (let s = o.spare in omega arith))

    pub yours : (w u : View P) → ClosesRow closing 0 Yours w → (ok : Bool) → IsEnded w 0 ok u → HasClosed u
    yours w u c ok is = let e = is.1 ∙ ap (λ z. ended z 0 is.0 ok) c.2 in record {
      main = ap (λ z. z.main) e ∙ o.main;
      by = ap (λ z. z.by) e ∙ o.by;
      empty = ap (λ z. z.empty) e ∙ o.empty;
      opened = ap (λ z. z.opened) e ∙ no_row;
      pairs = ap (λ z. z.pairs) e ∙ o.pairs;
      kept = ap (λ z. z.kept) e ∙ o.kept;
      handed = ap (λ z. z.handed) e ∙ ap (λ l. without 0 (l ++ 0 ∷ [])) o.handed;
      taken = ap (λ z. z.taken) e ∙ ap (λ l. without 0 (l ++ 0 ∷ [])) o.taken;
      out = ap (λ z. z.out) e ∙ o.out;
    }

    pub closed_by : (w : View P) → w ≡ closing → w.by ≡ Outer
    closed_by w e = ap (λ z. z.by) e ∙ o.by

  -- the seat of the stream 1, with its Cancel noted
  module _ (v : View P) (o : IsLessee v) (n : ℕ) where
    abbrev pub leaving : View P
    leaving = noted v (event v n (Cancel 1 Succeeded))

    pub may_cancel : MayNote v (Cancel 1 Succeeded)
    may_cancel = (subst (λ l. IsAmong 1 l) (sym o.kept) (here []), λ b r s a. absurd (among_nil (subst (λ l. IsAmong a.0 l) o.events a.1)))

    pub can_leave : CanLeave leaving 1 0
    can_leave = (subst (λ l. IsAmong (1, 0) l) (sym o.pairs) (here []), (Succeeded, (event v n (Cancel 1 Succeeded), among_last v.events (event v n (Cancel 1 Succeeded)), refl, refl)))

    pub leave_stays : (w : View P) → LeavesRow leaving 1 0 Stays w → HasLeft w
    leave_stays w c = let e = c.0 in record {
      by = ap (λ z. z.by) e ∙ o.by;
      empty = ap (λ z. z.empty) e ∙ o.empty;
      opened = ap (λ z. z.opened) e ∙ o.opened;
      pairs = ap (λ z. z.pairs) e ∙ ap (λ l. without_pair 1 0 l) o.pairs;
      kept = ap (λ z. z.kept) e ∙ ap (λ l. without 1 l) o.kept;
      handed = ap (λ z. z.handed) e ∙ o.handed;
      taken = ap (λ z. z.taken) e ∙ o.taken;
    }

    pub leave_takes : (w : View P) → LeavesRow leaving 1 0 Yours w → CanTake w 0 × (1 ≤ w.spare)
    leave_takes w c = subst (λ z. CanTake z 0 × (1 ≤ z.spare)) (sym c.1) ((among_last v.handed 0, λ m. among_nil (subst (λ l. IsAmong 0 l) o.taken m)), (let s = o.spare in omega arith))

    pub leave_yours : (w u : View P) → LeavesRow leaving 1 0 Yours w → (ok : Bool) → IsEnded w 0 ok u → HasLeft u
    leave_yours w u c ok is = let e = is.1 ∙ ap (λ z. ended z 0 is.0 ok) c.1 in record {
      by = ap (λ z. z.by) e ∙ o.by;
      empty = ap (λ z. z.empty) e ∙ o.empty;
      opened = ap (λ z. z.opened) e ∙ o.opened;
      pairs = ap (λ z. z.pairs) e ∙ ap (λ l. without_pair 1 0 l) o.pairs;
      kept = ap (λ z. z.kept) e ∙ ap (λ l. without 1 l) o.kept;
      handed = ap (λ z. z.handed) e ∙ ap (λ l. without 0 (l ++ 0 ∷ [])) o.handed;
      taken = ap (λ z. z.taken) e ∙ ap (λ l. without 0 (l ++ 0 ∷ [])) o.taken;
    }

  -- the seats meet again
  module _ (v w : View P) (c : HasClosed v) (l : HasLeft w) where
    none_empty : (r : ℕ) → IsAmong r w.empty → ¬ (IsAcquired w.events r)
    none_empty r m = absurd (among_nil (subst (λ x. IsAmong r x) l.empty m))

    pub may_join : CanJoin v w
    may_join = (c.main, (1, l.by, subst (λ x. IsAmong 1 x) (sym c.out) (here [])), (l.opened, none_empty, l.pairs, l.kept, l.handed, l.taken))

    pub may_finish : (u : View P) → u ≡ joined v w → CanFinish u
    may_finish u e = subst CanFinish (sym e) (
      c.main,
      (c.opened, (λ r m. absurd (among_nil (subst (λ x. IsAmong r x) (ap (λ y. y ++ w.empty) c.empty ∙ l.empty) m))), c.pairs, c.kept, c.handed, c.taken),
      ap (λ k. without k v.out) (ap name_of l.by) ∙ ap (λ x. without 1 x) c.out,
    )

-- a lessee that comes back with the handle e fits the handle d with which the owner comes back: before the race the owner m and the lessee o fitted the handles of both threads
pub lessee_fits : {P : Type 0} (m o p : SharedSeat P) (s d e : TableRef P) → SharedFits m s → SharedFits m e → SharedFits o s → SharedFits o d → SharedFits p e → IsOwner (shown m) → HasLeft (shown p) → SharedFits p d
lessee_fits m o p s d e ms me os od pe owner left =
    let side : (shown p).main ≡ false = ⊎_elim (λ t. absurd (outer_inner 1 (sym owner.by ∙ (me.first owner.main ∙ (sym (pe.first t) ∙ left.by))))) (λ x. x) (cases_Bool (shown p).main) in
    fits_other o p d s od os (fits_other m p s e ms me pe side) side
