-- Child scopes of the root are opened and closed.
use Rattle.std.proofs.Common.{◌≡◌, ℕ, zero, suc, ◌+◌, ◌<◌, ◌≤◌, ◌⊎◌, Bool, true, false, List, [], ◌∷◌, None, length, inl, inr, refl, sym, ap, ◌∙◌, subst, ⊎_elim, arith}
use Rattle.chunk_core.specs.declared.code.Exit.{Exit}
use Rattle.chunk_core.specs.Lists.{IsAmong}
use Rattle.chunk_core.specs.Lists.IsAmong.{here}
use Rattle.chunk_core.proofs.Members.{among_cons, among_left, among_nil, among_snoc}
use Rattle.res_ledger.specs.declared.event.Event.{Event}
use Rattle.res_ledger.specs.declared.event.What.TheVariants.{Acquire, Close, Open}
use Rattle.res_ledger.specs.Ledger.{LiesWithin, Notes}
use Rattle.res_ledger.specs.Ledger.LiesWithin.{same, below}
use Rattle.res_ledger.specs.Own.{leased_of, opens, rows}
use Rattle.scope_tree.specs.declared.branch.AcquiredRow.{AcquiredRow}
use Rattle.scope_tree.specs.declared.branch.Branch.{Branch}
use Rattle.row_seat.specs.declared.view.View.{View}
use Rattle.row_seat.specs.Views.{AreApart, joined}
use Rattle.res_ledger.specs.Order.{firsts}
use Rattle.scope_tree.specs.Released.{said}
use Rattle.scope_tree.specs.Rows.{strangers}
use Rattle.scope_tree.proofs.Parting.{join_trace}
use Rattle.scope_tree.specs.Calls.{ClosesScope, IsOpenScope, KeepsScopes, OpensScope, Seen, TakesRoom}
use Rattle.scope_tree.specs.Kept.{Kept}
use Rattle.scope_tree.specs.Trace.{closing as closing_event, numbers, opening as opening_event, own_rows, trace}
use Rattle.scope_tree.proofs.Beneath.{noted_scope}
use Rattle.scope_tree.proofs.Follows.{is_end}
use Rattle.scope_tree.proofs.Use.{close_follows, first_is}
use Rattle.tree_laws.specs.Called.{Called, MayOpen}
use Rattle.tree_laws.specs.Called.Called.{none, opened}
use Rattle.tree_laws.proofs.Kept.{lent_stays}
use Rattle.join_tree.specs.Mains.{IsMain}
use Rattle.join_tree.specs.Notes.{is_table_note}
use Rattle.join_tree.specs.Progress.{Progress, reading}
use Rattle.join_tree.specs.Steps.{KeepsGuests, KeepsRows}
use Rattle.join_tree.proofs.Growing.{main_closes_child, main_reads, root_open}
use Rattle.tree_families.proofs.Noting.{follows_cases}

module _ {P : Type 0} {ends : P → Exit → Bool → P → Type 0} where
  -- the events of a close open nothing
  older_open : (b c : Seen P) (s : ℕ) (x : Exit) (o : ClosesScope ends b s x c) (i p : ℕ) → Notes c.seat.events c.seat.by (Open i p) → Notes b.seat.events b.seat.by (Open i p)
  older_open b c s x o i p n =
      let f = close_follows o in
      let y : Event = closing_event b.seat s x o.stamp in
      let by : c.seat.by ≡ b.seat.by = ap (λ v. v.by) f.same in
      ⊎_elim
      (λ m. (n.0, m, n.2 ∙ by, n.3))
      (λ m. absurd (⊎_elim
      (λ e. let z : Open i p ≡ Close s x = sym n.3 ∙ ap (λ (e : Event). e.what) e in cc)
      (λ e. let z : false ≡ true = ap is_end (sym n.3) ∙ e.1 in cc)
      m))
      (follows_cases b.seat c.seat y f n.0 n.1)

  -- nor does it close another scope by name
  older_close : (b c : Seen P) (s : ℕ) (x z : Exit) (o : ClosesScope ends b s x c) (i : ℕ) → Notes c.seat.events c.seat.by (Close i z) → Notes b.seat.events b.seat.by (Close i z) ⊎ (i ≡ s)
  older_close b c s x z o i n =
      let f = close_follows o in
      let y : Event = closing_event b.seat s x o.stamp in
      let by : c.seat.by ≡ b.seat.by = ap (λ v. v.by) f.same in
      ⊎_elim
      (λ m. inl (n.0, m, n.2 ∙ by, n.3))
      (λ m. ⊎_elim
      (λ e. inr (scope_is i s z x (sym n.3 ∙ ap (λ (e : Event). e.what) e)))
      (λ e. absurd (let w : false ≡ true = ap is_end (sym n.3) ∙ e.1 in cc))
      m)
      (follows_cases b.seat c.seat y f n.0 n.1)
    where
      scope_is : (i s : ℕ) (z x : Exit) → Close i z ≡ Close s x → i ≡ s
      scope_is i s z x e = cc

  -- the root stays open where another scope is closed
  pub root_stays_open : (b c : Seen P) (s : ℕ) (x : Exit) (bs : List Branch) (hs : List AcquiredRow) → Kept b.seat bs hs → 1 ≤ s → IsOpenScope b 0 → ClosesScope ends b s x c → IsOpenScope c 0
  root_stays_open b c s x bs hs k some open' o = (inl refl, λ shut. only shut.0 shut.1 shut.2.0 shut.2.1)
    where
      top : (a : ℕ) → LiesWithin c.seat.events c.seat.by 0 a → a ≡ 0
      top a (same i) = refl
      top a (below i p t n w) = absurd (let l = (noted_scope b.seat bs hs k 0 p (older_open b c s x o 0 p n)).0 in omega (l, arith))

      only : (a : ℕ) → LiesWithin c.seat.events c.seat.by 0 a → (z : Exit) → Notes c.seat.events c.seat.by (Close a z) → ⊥
      only a w z n =
          let zero' = top a w in
          ⊎_elim
          (λ m. open'.1 (0, same 0, (z, subst (λ i. Notes b.seat.events b.seat.by (Close i z)) zero' m)))
          (λ e. omega (e, zero', some, arith))
          (older_close b c s x z o a n)

module _ {P : Type 0} {ends : P → Exit → Bool → P → Type 0} {width n : ℕ} where
  pub closes_child : (b c : Seen P) (p : Progress P) (s : ℕ) (x : Exit) → IsMain ends width n b p → p.root ≡ None → 1 ≤ s → IsOpenScope b s → ClosesScope ends b s x c → IsOpenScope c 0 → IsMain ends width n c (reading p (Close s x ∷ []))
  closes_child b c p zero x h root some open' o still = absurd (omega (some, arith))
  closes_child b c p (suc s) x h root some open' o still = main_closes_child b c p s x h root open' o still

  may_open : (b : Seen P) (p : Progress P) → IsMain ends width n b p → p.root ≡ None → length (opens (trace b.seat)) + 1 < b.scopes → MayOpen b 0
  may_open b p h root room = record { root = (root_open h root).1; known = inl refl; room = room }

  opens_call : (b c : Seen P) (p : Progress P) (s : ℕ) → IsMain ends width n b p → p.root ≡ None → length (opens (trace b.seat)) + 1 < b.scopes → OpensScope b 0 s c → Called ends b [] c
  opens_call b c p s h root room o = opened b c 0 s none (may_open b p h root room) o

  -- a child of the root was opened
  pub main_opens : (b c : Seen P) (p : Progress P) (s : ℕ) → IsMain ends width n b p → p.root ≡ None → length (opens (trace b.seat)) + 1 < b.scopes → OpensScope b 0 s c → KeepsScopes b c → IsMain ends width n c (reading p (Open s 0 ∷ []))
  main_opens b c p s h root room o keeps =
      let first : o.parent ≡ 0 = first_is (root_open h root).1 o.nearest in
      let x : Event = opening_event b.seat s o.parent o.stamp in
      let what : x.what ≡ Open s 0 = ap (λ i. Open s i) first in
      let old : (e : Event) → IsAmong e c.seat.events → IsAmong e b.seat.events ⊎ (e ≡ x) = λ e m. among_snoc b.seat.events e x (subst (λ l. IsAmong e l) (ap (λ v. v.events) o.seat) m) in
      main_reads b c p (Open s 0 ∷ []) h root (opens_call b c p s h root room o)
      (record {
        by = ap (λ v. v.by) o.seat;
        main = ap (λ v. v.main) o.seat;
        pairs = ap (λ v. v.pairs) o.seat;
        kept = ap (λ v. v.kept) o.seat;
        had = ap (λ v. v.had) o.seat;
        out = ap (λ v. v.out) o.seat;
        events = λ e m. ⊎_elim (λ i. inl i) (λ i. inr (ap (λ (y : Event). y.by) i ∙ sym (ap (λ v. v.by) o.seat), ap (λ (y : Event). leased_of y.what) i)) (old e m);
      })
      (keeps.usable 0 (root_open h root))
      (λ e m. ⊎_elim (λ i. inl i) (λ i. inr (subst (λ w. IsAmong w (Open s 0 ∷ [])) (sym (ap (λ (y : Event). y.what) i ∙ what)) (here []))) (old e m))
      (λ w m. ⊎_elim (λ e. ap is_table_note e) (λ z. absurd (among_nil z)) (among_cons m))
      (λ r m. absurd (no_acquire r 0 m))
      (λ r m. absurd (no_acquire r 0 m))
      (λ e f r i q t m a by z of' l k. h.gives.rise e f r i q t (old_one e r i m of') (old_one f q t a l) by z of' l k)
    where
      no_acquire : (r i : ℕ) → IsAmong (Acquire r i) (Open s 0 ∷ []) → ⊥
      no_acquire r i m = ⊎_elim (λ (e : Acquire r i ≡ Open s 0). cc) (λ z. among_nil z) (among_cons m)

      old_one : (e : Event) (r i : ℕ) → IsAmong e c.seat.events → e.what ≡ Acquire r i → IsAmong e b.seat.events
      old_one e r i m w = ⊎_elim (λ (a : IsAmong e b.seat.events). a) (λ (q : e ≡ opening_event b.seat s o.parent o.stamp). let z : Acquire r i ≡ Open s o.parent = sym w ∙ ap (λ (y : Event). y.what) q in cc) (among_snoc b.seat.events e (opening_event b.seat s o.parent o.stamp) (subst (λ l. IsAmong e l) (ap (λ v. v.events) o.seat) m))

  pub keeps_opens : (b c : Seen P) (p : Progress P) (s : ℕ) → IsMain ends width n b p → p.root ≡ None → length (opens (trace b.seat)) + 1 < b.scopes → OpensScope b 0 s c → KeepsGuests b c
  keeps_opens b c p s h root room o = record {
    out = ap (λ u. u.out) o.seat;
    splits = ap (λ u. u.splits) o.seat;
    empty = λ r m. subst (λ l. IsAmong r l) (sym (ap (λ u. u.empty) o.seat)) m;
    lent = λ j U l. lent_stays {ends = ends} (opens_call b c p s h root room o) l;
  }

pub open_pays : {P : Type 0} (b c : Seen P) (s : ℕ) → OpensScope b 0 s c → KeepsRows b.seat c.seat
open_pays b c s o = record {
  noted = λ e m. subst (λ xs. IsAmong e xs) (sym (ap (λ u. u.events) o.seat)) (among_left _ m);
  left = λ y m. subst (λ xs. IsAmong y xs) (sym (ap (λ u. u.left) o.seat)) m;
  given = λ y m. subst (λ xs. IsAmong y xs) (sym (ap (λ u. u.given) o.seat)) m;
  opened = λ y m. inl (subst (λ xs. IsAmong y xs) (sym (ap (λ u. u.opened) o.seat)) m);
}

-- a seat that is taken in leaves the tree's room as it is
pub joined_room : {P : Type 0} (a b : Seen P) (w : View P) → AreApart a.seat w → b ≡ record a { seat = joined a.seat w } → TakesRoom 0 0 a b
joined_room a b w apart is =
    let same : trace b.seat ≡ trace a.seat = ap (λ x. trace x.seat) is ∙ join_trace a.seat w apart in
    let shelf : b.shelf ≡ a.shelf = ap (λ x. x.shelf) is in
    let own : own_rows b.seat ≡ own_rows a.seat = ap (λ E. numbers (rows E)) same in
    let open' = ap (λ E. length (opens E)) same in
    let rows' = ap (λ E. length (rows E)) same in
    let others : strangers (own_rows b.seat) (firsts (said b.shelf)) ≡ strangers (own_rows a.seat) (firsts (said a.shelf)) = ap (λ R. strangers R (firsts (said b.shelf))) own ∙ ap (λ x. strangers (own_rows a.seat) (firsts (said x))) shelf in
    record {
      opens = omega (open', arith);
      used = omega (rows', others, arith);
      own = λ T. let e = ap (λ R. strangers R T) own in omega (e, arith);
      scopes = ap (λ x. x.scopes) is;
      rows = ap (λ x. x.rows) is;
    }
