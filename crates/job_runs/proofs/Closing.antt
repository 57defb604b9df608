-- What a ledger has of one stream, by what stands on the shelf of its tree.
use Rattle.std.proofs.Common.{◌≡◌, ◌↔◌, ℕ, ◌<◌, ◌≤◌, Bool, nat_eq, List, [], ◌∷◌, ◌++◌, length, None, Some, refl, sym, ◌∙◌, ap, subst, ⊎_elim, append_assoc}
use Rattle.chunk_core.specs.Lists.{IsAmong}
use Rattle.chunk_core.specs.Lists.IsAmong.{here, there}
use Rattle.chunk_core.proofs.Filters.{among_append}
use Rattle.chunk_core.proofs.Members.{among_nil, among_cons, among_left}
use Rattle.chunk_core.specs.Outcomes.{exit_of}
use Rattle.chunk_core.specs.declared.code.Exit.{Exit}
use Rattle.chunk_core.specs.declared.code.How.{How}
use Rattle.res_ledger.specs.declared.event.StreamNo.{StreamNo}
use Rattle.res_ledger.specs.declared.event.What.{What}
use Rattle.res_ledger.specs.declared.event.What.TheVariants.{Acquire, Open, Lease, Close, Final}
use Rattle.res_ledger.specs.declared.event.Event.{Event}
use Rattle.res_ledger.specs.Ledger.{MayFollow, Notes, NotesClose, LiesWithin, IsClosed, IsLegal}
use Rattle.res_ledger.specs.Order.{firsts}
use Rattle.res_ledger.specs.Ledger.LiesWithin.{same, below}
use Rattle.res_ledger.specs.Own.{leased_of, opens, own}
use Rattle.res_ledger.proofs.Ledgers.{at_noted, closed_map}
use Rattle.res_ledger.proofs.Noted.{flat_found, flat_holds, notes_own, own_notes}
use Rattle.res_ledger.proofs.Prefixes.{split_at}
use Rattle.device_port.specs.Device.{DeviceTold}
use Rattle.row_seat.specs.declared.view.View.{View}
use Rattle.row_seat.specs.Views.{IsLedgerOf, IsWithin}
use Rattle.scope_tree.specs.declared.branch.Spent.{Spent}
use Rattle.scope_tree.specs.Released.{said}
use Rattle.scope_tree.specs.Trace.{trace}
use Rattle.tree_laws.specs.Shelves.{finals_of, noted_ends, shelf_ends}
use Rattle.tree_laws.specs.Whole.{IsWholeLedger}
use Rattle.run_rules.specs.Facts.{leased_stream}
use Rattle.job_runs.specs.Rows.{CoversNone, EndsAs}

some_none : {A : Type 0} (x : A) (xs : List A) → x ∷ xs ≡ [] → ⊥
some_none x xs e = cc

pub lease_none : (j s : ℕ) (w : What) → w ≡ Lease j s → leased_of w ≡ [] → ⊥
lease_none j s w e n = let lease : ℕ × ℕ = (j, s) in some_none lease [] (sym (ap leased_of e) ∙ n)

pub not_leased : (w : What) → leased_of w ≡ [] → leased_stream w ≡ None
not_leased (Lease j s) e = let lease : ℕ × ℕ = (j, s) in absurd (some_none lease [] e)
not_leased w e = refl

end_shape : (w : What) (f : ℕ × Exit × Bool) → IsAmong f (finals_of w) → w ≡ Final f.0 f.1 f.2
end_shape (Final r x ok) f m = ⊎_elim (λ e. ap (λ (y : ℕ × Exit × Bool). Final y.0 y.1 y.2) (sym e)) (λ n. absurd (among_nil n)) (among_cons m)
end_shape w f m = absurd (among_nil m)

-- where no lease covers one of these rows, none does at the front
pub front_uncovered : (from to : ℕ) (L A B : List Event) (e : Event) → CoversNone from to L → L ≡ A ++ e ∷ B → CoversNone from to A
front_uncovered from to L A B e uncovered is j r q w c = uncovered j r q w (c.0, c.1 ++ e ∷ B, c.2, c.3, is ∙ (ap (λ X. X ++ e ∷ B) c.4 ∙ append_assoc c.0 (c.2 ∷ c.1) (e ∷ B)), c.5, c.6, c.7)

-- no Open opens the root
root_alone : (L : List Event) (k : StreamNo) (s a : ℕ) → IsLegal L → LiesWithin L k s a → s ≡ 0 → a ≡ 0
root_alone L k s a legal (same t) e = e
root_alone L k s a legal (below t p b n w) e = absurd ((at_noted L k (Open t p) legal n).1.0 e)

-- what the stream k noted that has these rows and ended so
pub record Part (k : StreamNo) (from to scopes : ℕ) (w : ℕ → DeviceTold) (how : How) (L : List Event) : Type 0 where
  pub opened : length (opens (own k L)) ≤ scopes
  pub leases : (e : Event) → IsAmong e L → e.by ≡ k → leased_stream e.what ≡ None
  pub acquired : (r s : ℕ) → Notes L k (Acquire r s) → (from ≤ r) × (r < to) × ((w r).opens ≡ 1)
  pub each : (r : ℕ) → from ≤ r → r < to → (w r).opens ≡ 1 → (s : ℕ) × Notes L k (Acquire r s)
  pub ended : (r : ℕ) (x : Exit) (ok : Bool) → Notes L k (Final r x ok) → ((w r).exit ≡ Some x) × (ok ≡ nat_eq (w r).close_faults 0)
  pub closed : NotesClose L k 0
  pub exits : (x : Exit) → Notes L k (Close 0 x) → x ≡ exit_of how

module _ {P : Type 0} where
  -- a row on a shelf, with its exit and its answer
  abbrev ended_as : Spent P → ℕ × Exit × Bool
  ended_as x = (x.row, x.exit, x.ok)

  pub on_shelf : (xs : List (Spent P)) (f : ℕ × Exit × Bool) → IsAmong f (shelf_ends xs) → (x : Spent P) × IsAmong x xs × (ended_as x ≡ f)
  on_shelf [] f m = absurd (among_nil m)
  on_shelf (x ∷ xs) f m = ⊎_elim (λ e. (x, here xs, sym e)) (λ n. let y = on_shelf xs f n in (y.0, there x y.1, y.2)) (among_cons m)

  shelf_on : (x : Spent P) (xs : List (Spent P)) → IsAmong x xs → IsAmong (ended_as x) (shelf_ends xs)
  shelf_on x xs (here ys) = here (shelf_ends ys)
  shelf_on x xs (there {xs = ys} y m) = there (ended_as y) (shelf_on x ys m)

  -- a row that stands on a shelf
  pub row_in : (x : Spent P) (xs : List (Spent P)) → IsAmong x xs → IsAmong x.row (firsts (said xs))
  row_in x xs (here ys) = here (firsts (said ys))
  row_in x xs (there {xs = ys} y m) = there y.row (row_in x ys m)

  pub in_row : (r : ℕ) (xs : List (Spent P)) → IsAmong r (firsts (said xs)) → (x : Spent P) × IsAmong x xs × (x.row ≡ r)
  in_row r [] m = absurd (among_nil m)
  in_row r (x ∷ xs) m = ⊎_elim (λ e. (x, here xs, sym e)) (λ n. let y = in_row r xs n in (y.0, there x y.1, y.2)) (among_cons m)

  -- what the shelf says of the devices: it has the rows whose devices were opened, each with its exit and its answer
  pub record ShelfTells (from to : ℕ) (w : ℕ → DeviceTold) (shelf : List (Spent P)) : Type 0 where
    pub rows : (x : Spent P) → IsAmong x shelf → IsWithin from to x.row × ((w x.row).opens ≡ 1) × ((w x.row).exit ≡ Some x.exit) × (x.ok ≡ nat_eq (w x.row).close_faults 0)
    pub each : (r : ℕ) → from ≤ r → r < to → (w r).opens ≡ 1 → (x : Spent P) × IsAmong x shelf × (x.row ≡ r)

  -- so it says of all that agree on its rows
  pub tells_same : {from to : ℕ} {shelf : List (Spent P)} (v w : ℕ → DeviceTold) → ((r : ℕ) → IsWithin from to r → w r ≡ v r) → ShelfTells from to v shelf → ShelfTells from to w shelf
  tells_same v w agree tells = record {
    rows = λ x m. let t = tells.rows x m in let e = subst (λ d. (d.opens ≡ 1) × (d.exit ≡ Some x.exit) × (x.ok ≡ nat_eq d.close_faults 0)) (sym (agree x.row t.0)) (t.1, t.2, t.3) in (t.0, e.0, e.1, e.2);
    each = λ r b l o. tells.each r b l (subst (λ d. d.opens ≡ 1) (agree r (b, l)) o);
  }

  -- a Final of a shelf stands there with its row
  pub shelf_has : (xs : List (Spent P)) (r : ℕ) (x : Exit) (ok : Bool) → IsAmong (r, x, ok) (shelf_ends xs) → IsAmong r (firsts (said xs))
  shelf_has xs r x ok m = let y = on_shelf xs (r, x, ok) m in subst (λ q. IsAmong q (firsts (said xs))) (ap (λ (z : ℕ × Exit × Bool). z.0) y.2) (row_in y.0 xs y.1)

  -- The tree of a stream, which stands as v with this shelf, of its own rows and of others, closed its root; L is the ledger of the seat u, which has the events of v, and no lease covers a row of its own in it.
  module _ (v u : View P) (L : List Event) (shelf lent : List (Spent P)) (k : StreamNo) (from to scopes : ℕ) (w : ℕ → DeviceTold) (how : How) (name : v.by ≡ k) (ledger : IsLedgerOf u L) (mine : (e : Event) → e.by ≡ v.by → IsAmong e u.events ↔ IsAmong e v.events)
      (whole : IsWholeLedger L) (uncovered : CoversNone from to L) (opened : length (opens (own k L)) ≤ scopes) (leaseless : (e : Event) → IsAmong e v.events → e.by ≡ v.by → leased_of e.what ≡ []) (finals : noted_ends (trace v) ≡ shelf_ends (shelf ++ lent))
      (over : (r s : ℕ) → Notes v.events v.by (Acquire r s) → IsAmong r (firsts (said shelf))) (closed : IsClosed v.events v.by 0) (exits : (x : Exit) → Notes v.events v.by (Close 0 x) → x ≡ exit_of how) (tells : ShelfTells from to w shelf)
      (others : (x : Spent P) → IsAmong x lent → EndsAs w x) where
    to_ledger : (x : What) → Notes v.events v.by x → Notes L v.by x
    to_ledger x n = (n.0, (ledger.whole n.0).1 ((mine n.0 n.2).1 n.1), n.2, n.3)

    from_ledger : (x : What) → Notes L v.by x → Notes v.events v.by x
    from_ledger x n = (n.0, (mine n.0 n.2).0 ((ledger.whole n.0).0 n.1), n.2, n.3)

    to_k : (x : What) → Notes L v.by x → Notes L k x
    to_k x n = subst (λ q. Notes L q x) name n

    from_k : (x : What) → Notes L k x → Notes v.events v.by x
    from_k x n = from_ledger x (subst (λ q. Notes L q x) (sym name) n)

    -- a row that has a Final stands on the shelf with its exit and its answer
    final_row : (r : ℕ) (x : Exit) (ok : Bool) → Notes L k (Final r x ok) → (y : Spent P) × IsAmong y (shelf ++ lent) × (ended_as y ≡ (r, x, ok))
    final_row r x ok n =
        let here_it : IsAmong (Final r x ok) (trace v) = notes_own v.events v.by (Final r x ok) (from_k (Final r x ok) n) in
        on_shelf (shelf ++ lent) (r, x, ok) (subst (λ l. IsAmong (r, x, ok) l) finals (flat_holds finals_of (Final r x ok) (trace v) (r, x, ok) here_it (here [])))

    row_final : (x : Spent P) → IsAmong x shelf → Notes L v.by (Final x.row x.exit x.ok)
    row_final x m =
        let f = flat_found finals_of (trace v) (ended_as x) (subst (λ l. IsAmong (ended_as x) l) (sym finals) (shelf_on x (shelf ++ lent) (among_left lent m))) in
        to_ledger (Final x.row x.exit x.ok) (own_notes v.events v.by (Final x.row x.exit x.ok) (subst (λ y. IsAmong y (trace v)) (end_shape f.0 (ended_as x) f.2) f.1))

    -- a row on the shelf was acquired here
    row_acquired : (x : Spent P) → IsAmong x shelf → (s : ℕ) × Notes L k (Acquire x.row s)
    row_acquired x m =
        let n = row_final x m in
        let parts = split_at n.0 L n.1 in
        let may : MayFollow parts.0 v.by (Final x.row x.exit x.ok) = subst (λ q. MayFollow parts.0 q (Final x.row x.exit x.ok)) n.2 (subst (λ y. MayFollow parts.0 n.0.by y) n.3 (whole.legal parts.0 parts.1 n.0 parts.2)) in
        ⊎_elim
        (λ a. (a.0, to_k (Acquire x.row a.0) (a.1.0, subst (λ l. IsAmong a.1.0 l) (sym parts.2) (among_left (n.0 ∷ parts.1) a.1.1), a.1.2, a.1.3)))
        (λ c. absurd (front_uncovered from to L parts.0 parts.1 n.0 uncovered parts.2 c.0 x.row c.1 (tells.rows x m).0 c.2))
        may.1

    pub part : Part k from to scopes w how L
    part = record {
      opened = opened;
      leases = λ e m by. let mine_by = by ∙ sym name in not_leased e.what (leaseless e ((mine e mine_by).0 ((ledger.whole e).0 m)) mine_by);
      acquired = λ r s n.
          let x = in_row r shelf (over r s (from_k (Acquire r s) n)) in
          let t = tells.rows x.0 x.1 in
          let P' : ℕ → Type 0 = λ q. (from ≤ q) × (q < to) × ((w q).opens ≡ 1) in
          subst P' x.2 (t.0.0, t.0.1, t.1);
      each = λ r b l o. let x = tells.each r b l o in subst (λ q. (s : ℕ) × Notes L k (Acquire q s)) x.2 (row_acquired x.0 x.1);
      ended = λ r x ok n.
          let y = final_row r x ok n in
          let P' : ℕ × Exit × Bool → Type 0 = λ f. ((w f.0).exit ≡ Some f.1) × (f.2 ≡ nat_eq (w f.0).close_faults 0) in
          subst P' y.2 (⊎_elim (λ i. let t = tells.rows y.0 i in (t.2, t.3)) (others y.0) (among_append y.0 shelf lent y.1));
      closed =
          let c = closed_map v.events L v.by to_ledger 0 closed in
          let n = subst (λ a. NotesClose L v.by a) (root_alone L v.by 0 c.0 whole.legal c.1 refl) c.2 in
          (n.0, to_k (Close 0 n.0) n.1);
      exits = λ x n. exits x (from_k (Close 0 x) n);
    }
