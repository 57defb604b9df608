-- Where the device of a place stands, in a site that is in order.
use Rattle.std.proofs.Common.{◌≡◌, ℕ, ◌<◌, zero, suc, true, false, List, length, slice_index_or, Some, None, inl, inr, refl, sym, ap, ◌∙◌, subst, ⊎_elim, arith, nat_eq}
use Rattle.chunk_core.specs.Lists.{IsAmong}
use Rattle.device_port.specs.Device.{DeviceTold}
use Rattle.pull_turns.specs.Around.{OpenAreHeld}
use Rattle.res_ledger.specs.Ledger.{IsClosed, IsUsable}
use Rattle.res_ledger.specs.Order.{firsts}
use Rattle.res_ledger.specs.Own.{rows}
use Rattle.row_seat.specs.declared.view.View.{View}
use Rattle.row_seat.specs.Views.{HasRow}
use Rattle.scope_tree.specs.declared.branch.Branch.{Branch}
use Rattle.scope_tree.specs.declared.branch.AcquiredRow.{AcquiredRow}
use Rattle.scope_tree.specs.declared.branch.Spent.{Spent}
use Rattle.scope_tree.specs.Kept.{Kept, Shelved}
use Rattle.std.specs.List.{IsDistinct}
use Rattle.scope_tree.specs.Released.{said}
use Rattle.scope_tree.specs.Trace.{trace}
use Rattle.scope_tree.proofs.Beneath.{noted_parent}
use Rattle.scope_tree.proofs.Walking.{parent_any}
use Rattle.scope_tree.specs.Trees.{Fits}
use Rattle.pull_stepper.specs.declared.resources.Resources.{Resources}
use Rattle.pull_stepper.specs.Resources.{AreInOrder, site}
use Rattle.pull_stepper.specs.Sites.{InOrder, Site, around, pay_of, pays, slot, told_at, told_by, told_or}
use Rattle.pull_stepper.proofs.Payloads.{pay_right, pay_spent, pays_row, spent_pay}

no : true ≡ false → ⊥
no e = cc

-- a scope that a tree keeps and that isn't closed is open
kept_usable : {V : Type 0} (v : View V) (bs : List Branch) (hs : List AcquiredRow) (k : Kept v bs hs) (s : ℕ) → s < length bs → ¬ (IsClosed v.events v.by s) → IsUsable v.events v.by s
kept_usable v bs hs k zero l n = (inl refl, n)
kept_usable v bs hs k (suc s) l n =
    let d : Branch = record { parent = 0; shut = false } in let p = (slice_index_or bs (suc s) d).parent in
    (inr (p, noted_parent v bs hs k (suc s) p (omega arith) l (parent_any bs (suc s) d l)), n)

-- the scope of an open row is open
pub row_scope : {V : Type 0} (v : View V) (bs : List Branch) (hs : List AcquiredRow) (k : Kept v bs hs) (q : ℕ) → HasRow v.opened q → (t : ℕ) × IsAmong (q, t) (rows (trace v)) × IsUsable v.events v.by t
row_scope v bs hs k q h = let t = k.holds.only q h in (t.0, subst (λ l. IsAmong (q, t.0) l) (sym k.mirrors.rows) t.1, kept_usable v bs hs k t.0 (k.mirrors.ranged q t.0 t.1) t.2)

module _ {V : Type 0} (told : V → DeviceTold) (x : Site V) (hs : List AcquiredRow) (shelved : Shelved x.tree.seat hs x.tree.shelf) where
  -- the device of a row that ended tells for its place
  pub ended_told : (s : Spent V) → slot x s.row ≡ Some None → IsAmong s x.tree.shelf → told_at told x s.row ≡ told s.pay
  ended_told s e m =
      let d : IsDistinct nat_eq (firsts (said x.tree.shelf)) = shelved.distinct in
      let opened : ¬ (HasRow x.tree.seat.opened s.row) = λ h. shelved.opened s.row h (pays_row x.tree.shelf s.row (s.pay, spent_pay x.tree.shelf s m)) in
      ap (λ o. told_by told o (pay_of x.tree s.row)) e ∙ ap (told_or told) (pay_right s.row x.tree.seat.opened (pays x.tree.shelf) opened ∙ pay_spent x.tree.shelf s d m)

  module _ (bs : List Branch) (k : Kept x.tree.seat bs hs) (order : InOrder told x) where
    -- where the device of a place is open, its row is
    pub open_row : (q : ℕ) → (told_at told x q).is_open ≡ true → HasRow x.tree.seat.opened q
    open_row q h =
        (elim (slot x q) as (λ o. slot x q ≡ o → HasRow x.tree.seat.opened q) [
          | None ↦ λ e. absurd (no (sym h ∙ ap (λ o. (told_by told o (pay_of x.tree q)).is_open) e))
          | Some o ↦ λ e.
              (elim o as (λ w. o ≡ w → HasRow x.tree.seat.opened q) [
                | Some d ↦ λ f. let e' : slot x q ≡ Some (Some d) = e ∙ ap Some f in absurd (no (sym h ∙ ap (λ o. (told_by told o (pay_of x.tree q)).is_open) e' ∙ (order.waits q d e').1.is_open))
                | None ↦ λ f.
                    let e' : slot x q ≡ Some None = e ∙ ap Some f in
                    ⊎_elim
                    (λ r. r)
                    (λ s. absurd (no (sym h ∙ ap (λ z. (told_at told x z).is_open) (sym s.2) ∙ ap (λ t. t.is_open) (ended_told s.0 (subst (λ z. slot x z ≡ Some None) (sym s.2) e') s.1) ∙ s.3.is_open)))
                    (order.gone q e')
              ]) refl
        ]) refl

    pub open_held : OpenAreHeld (around told x)
    open_held q h = let r = open_row q h in let t = row_scope x.tree.seat bs hs k q r in (t.0, (t.1, r), t.2)

-- a tree that fits its desk, with devices in order
pub stands : {S V D : Type 0} (view : S → View V) (told : V → DeviceTold) (fits : S → D → Type 0) (o : Resources S V V D) (d : D) → Fits view fits o.tree d → InOrder told (site view o) → AreInOrder view told fits o d
stands view told fits o d f order = record { tree = f; order = order; held = open_held told (site view o) o.tree.acquisitions.items f.sound.shelved o.tree.branches.items f.sound.kept order }
