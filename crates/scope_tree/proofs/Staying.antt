-- What a close leaves open.
use Rattle.std.proofs.Common.{◌≡◌, ℕ, ◌⊎◌, Bool, List, [], ◌∷◌, ◌++◌, inl, inr, refl, sym, ap, ◌∙◌, subst, ⊎_elim, arith}
use Rattle.chunk_core.specs.declared.code.Exit.{Exit}
use Rattle.chunk_core.specs.Lists.{IsAmong}
use Rattle.chunk_core.proofs.Members.{among_snoc}
use Rattle.res_ledger.specs.declared.event.What.TheVariants.{Close, Open}
use Rattle.res_ledger.specs.Ledger.{LiesWithin, Notes, NotesClose}
use Rattle.res_ledger.specs.Ledger.LiesWithin.{same, below}
use Rattle.res_ledger.specs.Order.{finals}
use Rattle.res_ledger.specs.Own.{opens, closes}
use Rattle.res_ledger.proofs.Noted.{closes_notes, notes_closes, notes_opens, opens_notes}
use Rattle.row_seat.specs.declared.view.View.{View}
use Rattle.scope_tree.specs.declared.branch.Branch.{Branch}
use Rattle.scope_tree.specs.declared.branch.AcquiredRow.{AcquiredRow}
use Rattle.scope_tree.specs.Calls.{ClosesScope, IsClosedScope, IsOpenScope, LeavesOpen, Seen}
use Rattle.scope_tree.specs.Kept.{Kept}
use Rattle.scope_tree.specs.Released.{said}
use Rattle.scope_tree.specs.Trace.{trace}
use Rattle.scope_tree.proofs.Beneath.{noted_scope, usable_scope}
use Rattle.scope_tree.proofs.Bridge.{closes_append}
use Rattle.scope_tree.proofs.Grown.{Grown, closes_finals, grown_noted, grown_opens, grown_release, opens_finals, within_opens}
use Rattle.scope_tree.proofs.Keeps.{root_closes, under_root, within_trans}
use Rattle.scope_tree.proofs.Use.{closed_now}

module _ {P : Type 0} {ends : P → Exit → Bool → P → Type 0} {x : Exit} {a b : Seen P} {s : ℕ} (c : ClosesScope ends a s x b) where
  grown : Grown a.seat b.seat (Close s x ∷ finals x (said c.torn.0))
  grown = grown_release a.seat c.stamp (Close s x) c.torn.2

  -- it opens no scope, and has the one Close
  pub close_opens : opens (trace b.seat) ≡ opens (trace a.seat)
  close_opens = grown_opens grown (opens_finals x (said c.torn.0))

  pub close_closes : closes (trace b.seat) ≡ closes (trace a.seat) ++ s ∷ []
  close_closes = ap closes grown.trace ∙ closes_append (trace a.seat) (Close s x ∷ finals x (said c.torn.0)) ∙ ap (λ l. closes (trace a.seat) ++ s ∷ l) (closes_finals x (said c.torn.0))

  within_before : {t u : ℕ} → LiesWithin b.seat.events b.seat.by t u → LiesWithin a.seat.events a.seat.by t u
  within_before = within_opens (λ t p m. opens_notes a.seat.events a.seat.by (t, p) (subst (λ o. IsAmong (t, p) o) close_opens (notes_opens b.seat.events b.seat.by t p m)))

  close_before : (t : ℕ) → NotesClose b.seat.events b.seat.by t → NotesClose a.seat.events a.seat.by t ⊎ (t ≡ s)
  close_before t m = ⊎_elim (λ i. inl (closes_notes a.seat.events a.seat.by t i)) (λ i. inr i) (among_snoc (closes (trace a.seat)) t s (subst (λ l. IsAmong t l) close_closes (notes_closes b.seat.events b.seat.by t m)))

  -- what lies within the scope is closed
  pub within_closed : (t : ℕ) → LiesWithin a.seat.events a.seat.by t s → IsClosedScope b t
  within_closed t w = let z = closed_now c in (z.0, within_trans (within_opens (λ u p n. grown_noted grown n) w) z.1, z.2)

  -- what doesn't and was open is open
  pub usable_still : (t : ℕ) → IsOpenScope a t → ¬ (LiesWithin a.seat.events a.seat.by t s) → IsOpenScope b t
  usable_still t o n = (
    ⊎_elim (λ e. inl e) (λ i. inr (i.0, grown_noted grown i.1)) o.0,
    λ z. let w = within_before z.1 in ⊎_elim (λ y. o.1 (z.0, w, y)) (λ e. n (subst (λ q. LiesWithin a.seat.events a.seat.by t q) e w)) (close_before z.0 z.2),
  )

module _ {P : Type 0} (v : View P) (bs : List Branch) (hs : List AcquiredRow) (k : Kept v bs hs) where
  -- the root lies within itself alone
  pub root_alone : (t s : ℕ) → t ≡ 0 → LiesWithin v.events v.by t s → s ≡ 0
  root_alone t s e (same u) = e
  root_alone t s e (below u p q n w) = let z = (noted_scope v bs hs k u p n).0 in absurd (omega (z, e, arith))

  -- each scope lies within the root
  pub each_within : (t : ℕ) → (t ≡ 0) ⊎ ((p : ℕ) × Notes v.events v.by (Open t p)) → LiesWithin v.events v.by t 0
  each_within t o = ⊎_elim (λ e. subst (λ u. LiesWithin v.events v.by u 0) (sym e) (same 0)) (λ i. let z = (noted_scope v bs hs k t i.0 i.1).1 in under_root v bs hs k t t (omega arith) z) o

pub close_stays : {P : Type 0} {ends : P → Exit → Bool → P → Type 0} {x : Exit} {a b : Seen P} {s : ℕ} (c : ClosesScope ends a s x b) (bs : List Branch) (hs : List AcquiredRow) → Kept a.seat bs hs → IsOpenScope a s → LeavesOpen a s b
close_stays {a = a} {s = s} c bs hs k u = record {
  usable = usable_still c;
  root = λ ne. usable_still c 0 (inl refl, λ z. u.1 (root_closes a.seat bs hs k s (usable_scope a.seat bs hs k s u) z)) (λ w. ne (root_alone a.seat bs hs k 0 s refl w));
}
