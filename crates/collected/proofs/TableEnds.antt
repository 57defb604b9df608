-- The rows of the outer stream have ended, once the ledger is there: each stands on a shelf, with the device that was opened for it.
use Rattle.std.proofs.Common.{◌≡◌, ◌⊎◌, ℕ, Bool, true, List, [], inl, inr, sym, ◌∙◌, ap, subst, ⊎_elim}
use Rattle.chunk_core.specs.Lists.{IsAmong}
use Rattle.chunk_core.specs.Lists.IsAmong.{here, there}
use Rattle.chunk_core.specs.declared.code.Exit.{Exit}
use Rattle.chunk_core.proofs.Members.{among_cons, among_nil}
use Rattle.device_port.specs.Device.{DeviceTold}
use Rattle.join_tree.specs.Mains.{IsMain}
use Rattle.join_tree.specs.Progress.{Progress}
use Rattle.join_tree.specs.Settled.{Settles}
use Rattle.pull_stepper.specs.Held.{FinishesDevice, closed_as}
use Rattle.res_ledger.specs.declared.event.Event.{Event}
use Rattle.res_ledger.specs.declared.event.StreamNo.TheVariants.{Outer}
use Rattle.res_ledger.specs.declared.event.What.{What}
use Rattle.res_ledger.specs.declared.event.What.TheVariants.{Acquire, Final}
use Rattle.res_ledger.specs.Ledger.{IsFinalized, Notes}
use Rattle.res_ledger.proofs.Noted.{flat_found, flat_holds, notes_own, own_notes}
use Rattle.row_seat.specs.declared.view.View.{View}
use Rattle.scope_tree.specs.declared.branch.Spent.{Spent}
use Rattle.scope_tree.specs.Calls.{AtStart, Seen}
use Rattle.scope_tree.specs.Trace.{trace}
use Rattle.tree_laws.specs.Called.{Called}
use Rattle.tree_laws.specs.Shelves.{finals_of, shelf_ends}
use Rattle.tree_laws.proofs.Given.{called_given}
use Rattle.tree_laws.proofs.Said.{called_ends}
use Rattle.job_runs.proofs.Closing.{on_shelf}

-- what the tree of a stream did that came back with the seat of y, and stood so last, whose seat was taken in again
pub record CameIn {P : Type 0} (ends : P → Exit → Bool → P → Type 0) (b y : Seen P) : Type 0 where
  pub first : Seen P
  pub last : Seen P
  pub seat : y.seat ≡ last.seat
  pub start : AtStart first.seat
  pub bare : first.shelf ≡ []
  pub cancelled : List (ℕ × List ℕ)
  pub calls : Called ends first cancelled last
  pub given : (z : ℕ × P) → IsAmong z last.seat.given → IsAmong z b.seat.given

module _ {V : Type 0} (told : V → DeviceTold) (width most : ℕ) (b : Seen V) (q : Progress V) (L : List Event) (main : IsMain (FinishesDevice told) width most b q) (s : Settles width most b q L) (guests : (y : Seen V) → IsAmong y q.back → CameIn (FinishesDevice told) b y) where
  -- the Acquire that the main tree noted stands in the ledger
  pub acquired_so : (i t : ℕ) → Notes b.seat.events Outer (Acquire i t) → Notes L Outer (Acquire i t)
  acquired_so i t m = (m.0, (s.ledger.whole m.0).1 m.1, m.2, m.3)

  -- where a row stands that has ended
  abbrev pub StandsAt : Spent V → Type 0
  StandsAt x = IsAmong x b.shelf ⊎ ((y : Seen V) × (m : IsAmong y q.back) × IsAmong x (guests y m).last.shelf)

  -- what its finalizer took was handed to the main seat, or to one that it took in
  abbrev Took : Spent V → Type 0
  Took x = (p : V) × IsAmong (x.row, p) b.seat.given × FinishesDevice told p x.exit x.ok x.pay

  on_a_shelf : (first c : Seen V) (Cs : List (ℕ × List ℕ)) → AtStart first.seat → first.shelf ≡ [] → Called (FinishesDevice told) first Cs c → (i : ℕ) (x : Exit) (ok : Bool) → Notes c.seat.events c.seat.by (Final i x ok)
      → (z : Spent V) × IsAmong z c.shelf × (z.row ≡ i) × ((p : V) × IsAmong (z.row, p) c.seat.given × FinishesDevice told p z.exit z.ok z.pay)
  on_a_shelf first c Cs start bare calls i x ok m =
      let here_it = notes_own c.seat.events c.seat.by (Final i x ok) m in
      let z = on_shelf c.shelf (i, x, ok) (subst (λ l. IsAmong (i, x, ok) l) (called_ends start bare calls) (flat_holds finals_of (Final i x ok) (trace c.seat) (i, x, ok) here_it (here []))) in
      (z.0, z.1, ap (λ (f : ℕ × Exit × Bool). f.0) z.2, called_given bare calls z.0 z.1)

  -- each row that has ended stands on a shelf
  stands_so : (i : ℕ) → IsFinalized L i → (x : Spent V) × StandsAt x × (x.row ≡ i) × Took x
  stands_so i f =
      let e = f.2.1.0 in
      let m = f.2.1.1 in
      ⊎_elim
      (λ o.
      let z = on_a_shelf main.family.first b main.family.cancelled main.family.start main.shelf main.family.calls i f.2.0 f.1 (e, (s.ledger.whole e).0 m, o ∙ sym main.by, f.2.1.3) in
      (z.0, inl z.1, z.2, z.3))
      (λ y.
      let c = guests y.0 y.1 in
      let z = on_a_shelf c.first c.last c.cancelled c.start c.bare c.calls i f.2.0 f.1 (subst (λ (v : View V). Notes v.events v.by (Final i f.2.0 f.1)) c.seat (e, (s.told.own y.0 y.1 e y.2).0 m, y.2, f.2.1.3)) in
      (z.0, inr (y.0, y.1, z.1), z.2, (z.3.0, c.given (z.0.row, z.3.0) z.3.1, z.3.2)))
      (s.told.whose e m)

  -- so the row of a device that was opened stands there, and the device was closed as it says
  pub table_ended : (i t : ℕ) (d : V) → Notes b.seat.events Outer (Acquire i t) → IsAmong (i, d) b.seat.left → (told d).is_open ≡ true → (x : Spent V) × StandsAt x × (x.row ≡ i) × (told x.pay ≡ closed_as x.exit x.ok (told d))
  table_ended i t d noted left is_open =
      let f = s.ledger.ended i (Outer, t, acquired_so i t noted) in
      let x = stands_so i f in
      let p = s.ledger.payloads i f in
      let same : x.3.0 ≡ d = p.4 x.3.0 (subst (λ r. IsAmong (r, x.3.0) b.seat.given) x.2 x.3.1) ∙ sym (p.3 d left) in
      (x.0, x.1, x.2, (subst (λ v. FinishesDevice told v x.0.exit x.0.ok x.0.pay) same x.3.2).closed is_open)

  -- a Final that the main tree noted stands on its shelf
  pub outer_final : (r : ℕ) (x : Exit) (ok : Bool) → Notes L Outer (Final r x ok) → (z : Spent V) × IsAmong z b.shelf × (z.row ≡ r) × (z.exit ≡ x) × (z.ok ≡ ok)
  outer_final r x ok m =
      let here_it = notes_own b.seat.events b.seat.by (Final r x ok) (m.0, (s.ledger.whole m.0).0 m.1, m.2 ∙ sym main.by, m.3) in
      let z = on_shelf b.shelf (r, x, ok) (subst (λ l. IsAmong (r, x, ok) l) (called_ends main.family.start main.shelf main.family.calls) (flat_holds finals_of (Final r x ok) (trace b.seat) (r, x, ok) here_it (here []))) in
      (z.0, z.1, ap (λ (f : ℕ × Exit × Bool). f.0) z.2, ap (λ (f : ℕ × Exit × Bool). f.1) z.2, ap (λ (f : ℕ × Exit × Bool). f.2) z.2)

shelf_end : {P : Type 0} (x : Spent P) (xs : List (Spent P)) → IsAmong x xs → IsAmong (x.row, x.exit, x.ok) (shelf_ends xs)
shelf_end x xs (here ys) = here (shelf_ends ys)
shelf_end x xs (there {xs = ys} y m) = there (y.row, y.exit, y.ok) (shelf_end x ys m)

end_shape : (w : What) (f : ℕ × Exit × Bool) → IsAmong f (finals_of w) → w ≡ Final f.0 f.1 f.2
end_shape (Final r x ok) f m = ⊎_elim (λ e. ap (λ (y : ℕ × Exit × Bool). Final y.0 y.1 y.2) (sym e)) (λ n. absurd (among_nil n)) (among_cons m)
end_shape w f m = absurd (among_nil m)

-- a row that stands on the shelf of a tree has a Final that its stream noted
pub shelf_noted : {P : Type 0} (ends : P → Exit → Bool → P → Type 0) (first c : Seen P) (Cs : List (ℕ × List ℕ)) → AtStart first.seat → first.shelf ≡ [] → Called ends first Cs c → (x : Spent P) → IsAmong x c.shelf → Notes c.seat.events c.seat.by (Final x.row x.exit x.ok)
shelf_noted ends first c Cs start bare calls x m =
    let f = flat_found finals_of (trace c.seat) (x.row, x.exit, x.ok) (subst (λ l. IsAmong (x.row, x.exit, x.ok) l) (sym (called_ends start bare calls)) (shelf_end x c.shelf m)) in
    own_notes c.seat.events c.seat.by (Final x.row x.exit x.ok) (subst (λ w. IsAmong w (trace c.seat)) (end_shape f.0 (x.row, x.exit, x.ok) f.2) f.1)
