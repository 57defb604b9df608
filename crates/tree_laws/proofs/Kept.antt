-- What calls keep of leases.
use Rattle.std.proofs.Common.{◌≡◌, ℕ, Bool, true, false, cond, List, [], ◌∷◌, ◌++◌, inl, refl, sym, ap, ◌∙◌, subst, ⊎_elim, append_assoc}
use Rattle.chunk_core.specs.declared.code.Exit.{Exit}
use Rattle.chunk_core.specs.Lists.{IsAmong}
use Rattle.chunk_core.specs.Lists.IsAmong.{here, there}
use Rattle.chunk_core.proofs.Members.{among_cons, among_left, among_nil}
use Rattle.res_ledger.specs.declared.event.Event.{Event}
use Rattle.res_ledger.specs.declared.event.What.TheVariants.{Acquire}
use Rattle.res_ledger.specs.Ledger.{IsFinalized, Notes, NotesCancel}
use Rattle.res_ledger.specs.Own.{leased_rows, own, picked, reaches, rows}
use Rattle.res_ledger.specs.Streams.{by_stream}
use Rattle.res_ledger.specs.Rising.{Rises}
use Rattle.row_seat.specs.declared.view.View.{View}
use Rattle.scope_tree.specs.declared.tree.Tree.{Tree}
use Rattle.scope_tree.specs.Calls.{AtStart, IsClosedScope, Leases, Seen}
use Rattle.scope_tree.specs.Trees.{IsConsistent, seen}
use Rattle.scope_tree.specs.Trace.{leasing, numbers, own_rows, trace}
use Rattle.res_ledger.proofs.Noted.{notes_rows, rows_notes}
use Rattle.res_ledger.proofs.Prefixes.{front_notes}
use Rattle.scope_tree.proofs.Keeps.{nothing_open}
use Rattle.scope_tree.proofs.Parting.{shelf_final}
use Rattle.tree_laws.specs.Called.{Called}
use Rattle.tree_laws.specs.Lent.{Lent}
use Rattle.tree_laws.proofs.After.{IsAfter, folio}
use Rattle.tree_laws.proofs.Along.{called_after}

picked_number : (f : ℕ → Bool) (r : ℕ) (xs : List (ℕ × ℕ)) → IsAmong r (picked f xs) → (s : ℕ) × IsAmong (r, s) xs
picked_number f r [] m = absurd (among_nil m)
picked_number f r (x ∷ xs) m = (elim (f x.1) as (λ b. IsAmong r (cond b (x.0 ∷ picked f xs) (picked f xs)) → (s : ℕ) × IsAmong (r, s) (x ∷ xs)) [
  | true ↦ λ n. ⊎_elim
      (λ e. (x.1, subst (λ z. IsAmong (z, x.1) (x ∷ xs)) (sym e) (here xs)))
      (λ o. let t = picked_number f r xs o in (t.0, there x t.1))
      (among_cons n)
  | false ↦ λ n. let t = picked_number f r xs n in (t.0, there x t.1)
]) m

number_in : (r s : ℕ) (xs : List (ℕ × ℕ)) → IsAmong (r, s) xs → IsAmong r (numbers xs)
number_in r s [] m = absurd (among_nil m)
number_in r s (x ∷ xs) m = ⊎_elim
    (λ e. subst (λ z. IsAmong z (x.0 ∷ numbers xs)) (sym (ap (λ (y : ℕ × ℕ). y.0) e)) (here (numbers xs)))
    (λ n. there x.0 (number_in r s xs n))
    (among_cons m)

module _ {P : Type 0} where
  pub lent_own : (v : View P) (j : ℕ) (T : List ℕ) → Lent v j T → (r : ℕ) → IsAmong r T → IsAmong r (own_rows v)
  lent_own v j T l r m =
      let t = picked_number (reaches (own v.by l.before) l.scope) r (rows (own v.by l.before)) (subst (λ x. IsAmong r x) l.rows m) in
      let n : Notes v.events v.by (Acquire r t.0) = subst (λ L. Notes L v.by (Acquire r t.0)) (sym l.stands) (front_notes (l.event ∷ l.rest) (rows_notes l.before v.by (r, t.0) t.1)) in
      number_in r t.0 (rows (trace v)) (notes_rows v.events v.by r t.0 n)

  pub leases_lent : {a b : Seen P} {s j : ℕ} {T : List ℕ} → Leases a s j T b → Lent b.seat j T
  leases_lent {a = a} {b = b} {s = s} {j = j} o =
      let by : b.seat.by ≡ a.seat.by = ap (λ v. v.by) o.seat in record {
        before = a.seat.events;
        event = leasing a.seat j s o.stamp;
        rest = [];
        scope = s;
        stands = ap (λ v. v.events) o.seat;
        by = sym by;
        what = refl;
        rows = o.covered ∙ ap (λ k. leased_rows (own k a.seat.events) s) (sym by);
      }

module _ {P : Type 0} {ends : P → Exit → Bool → P → Type 0} where
  pub lent_stays : {a b : Seen P} {Cs : List (ℕ × List ℕ)} {j : ℕ} {T : List ℕ} → Called ends a Cs b → Lent a.seat j T → Lent b.seat j T
  lent_stays {a = a} {b = b} c l =
      let f : IsAfter (folio a.seat) (folio b.seat) = called_after c in record {
        before = l.before;
        event = l.event;
        rest = l.rest ++ f.more;
        scope = l.scope;
        stands = f.events ∙ ap (λ x. x ++ f.more) l.stands ∙ append_assoc l.before (l.event ∷ l.rest) f.more;
        by = l.by ∙ sym f.by;
        what = l.what;
        rows = l.rows ∙ ap (λ k. leased_rows (own k l.before) l.scope) (sym f.by);
      }

  pub events_stay : {a b : Seen P} {Cs : List (ℕ × List ℕ)} → Called ends a Cs b → (e : Event) → IsAmong e a.seat.events → IsAmong e b.seat.events
  events_stay c e m = let f = called_after c in subst (λ l. IsAmong e l) (sym f.events) (among_left f.more m)

  pub called_rises : {a b : Seen P} {Cs : List (ℕ × List ℕ)} → AtStart a.seat → Called ends a Cs b → Rises (by_stream b.seat.by b.seat.events)
  called_rises {a = a} s c = (called_after c).rises (subst (λ L. Rises (by_stream a.seat.by L)) (sym s.events) tt)

  -- a kept Lease is still kept, or its stream has a seat, or it is cancelled
  pub kept_canceled : {a b : Seen P} {Cs : List (ℕ × List ℕ)} (j : ℕ) → a.seat.main ≡ false → a.seat.had ≡ [] → Called ends a Cs b → b.seat.kept ≡ [] → IsAmong j a.seat.kept → NotesCancel b.seat.events b.seat.by j
  kept_canceled {a = a} {b = b} j m h c k i =
      let f : IsAfter (folio a.seat) (folio b.seat) = called_after c in
      ⊎_elim (λ x. absurd (among_nil (subst (λ l. IsAmong j l) k x))) (λ o. ⊎_elim (λ x. absurd (among_nil (subst (λ l. IsAmong j l) (f.had m ∙ h) x))) (λ x. x) o) (f.met j (inl i))

-- a row of a closed root has ended, where no other seat holds it back
pub closed_rows_end : {S P D : Type 0} (view : S → View P) (t : Tree S P D) → IsConsistent view t → (view t.seat).main ≡ false → IsClosedScope (seen view t) 0 → (r s : ℕ) → Notes (view t.seat).events (view t.seat).by (Acquire r s) → IsFinalized (view t.seat).events r
closed_rows_end view t sound main closed r s n =
    let v = view t.seat in let bs = t.branches.items in let hs = t.acquisitions.items in
    let m = subst (λ l. IsAmong {A = ℕ × ℕ} (r, s) l) sound.kept.mirrors.rows (notes_rows v.events v.by r s n) in
    ⊎_elim
    (λ h. absurd (among_nil (subst (λ l. IsAmong {A = ℕ × _} (r, h.0) l) (nothing_open v bs hs sound.kept closed) h.1)))
    (λ o. ⊎_elim
    (λ i. let f = shelf_final v hs t.shelf.items sound.shelved r i in (v.by, f.0, f.1))
    (λ w. absurd (let z : true ≡ false = sym w.0 ∙ main in cc))
    o)
    (sound.shelved.ended r s m)
