-- What calls of a tree use of its room.
use Rattle.std.proofs.Common.{◌≡◌, ℕ, ◌+◌, ◌<◌, ◌≤◌, suc, Bool, true, false, cond, List, [], ◌∷◌, ◌++◌, length, refl, sym, ap, ◌∙◌, subst, ⊎_elim, arith, add-zero, append-nil, length-append}
use Rattle.chunk_core.specs.declared.code.Exit.{Exit}
use Rattle.chunk_core.specs.Lists.{IsAmong, has}
use Rattle.chunk_core.specs.Lists.IsAmong.{here, there}
use Rattle.chunk_core.proofs.Members.{among_left, among_snoc}
use Rattle.res_ledger.specs.declared.event.What.{What}
use Rattle.res_ledger.specs.declared.event.What.TheVariants.{Acquire, Cancel, Close, Lease, Open}
use Rattle.res_ledger.specs.Order.{finals, firsts}
use Rattle.res_ledger.specs.Own.{opens, rows}
use Rattle.chunk_core.proofs.Bools.{has_in, in_has}
use Rattle.scope_tree.specs.Calls.{AcquiresRow, Cancels, ClosesScope, Leases, OpensScope, Seen, TakesRoom}
use Rattle.scope_tree.specs.declared.branch.Branch.{Branch}
use Rattle.scope_tree.specs.declared.branch.AcquiredRow.{AcquiredRow}
use Rattle.scope_tree.specs.declared.branch.Spent.{Spent}
use Rattle.scope_tree.specs.Kept.{Kept}
use Rattle.scope_tree.specs.Released.{said}
use Rattle.scope_tree.specs.Rows.{strangers}
use Rattle.scope_tree.specs.Trace.{numbers, own_rows, trace}
use Rattle.scope_tree.proofs.Beneath.{shut_not, whole_is, whole_under}
use Rattle.scope_tree.proofs.Bridge.{opens_append, rows_append}
use Rattle.scope_tree.proofs.Distinct.{firsts_append, picks_among, picks_strangers, said_append, strangers_append, strangers_less}
use Rattle.scope_tree.proofs.Grown.{opens_finals, rows_finals}
use Rattle.scope_tree.proofs.Parts.{row_of_pair}
use Rattle.scope_tree.proofs.Releasing.{released_picks}
use Rattle.scope_tree.proofs.Rooms.{own_is, strangers_reverse, strangers_none}
use Rattle.scope_tree.proofs.Use.{acquired_said, canceled_said, closed_said, leased_said, opened_said}

numbers_snoc : (os : List (ℕ × ℕ)) (o : ℕ × ℕ) → numbers (os ++ o ∷ []) ≡ numbers os ++ o.0 ∷ []
numbers_snoc [] o = refl
numbers_snoc (x ∷ os) o = ap (λ l. x.0 ∷ l) (numbers_snoc os o)

-- a row that isn't in the list makes none of it less strange
strangers_snoc : (own : List ℕ) (r : ℕ) (T : List ℕ) → ¬ (IsAmong r T) → strangers (own ++ r ∷ []) T ≡ strangers own T
strangers_snoc own r [] n = refl
strangers_snoc own r (q ∷ T) n =
    let t = strangers_snoc own r T (λ m. n (there q m)) in
    let same : has q (own ++ r ∷ []) ≡ has q own = elim (has q own) as (λ b. has q own ≡ b → has q (own ++ r ∷ []) ≡ b) [
      | true ↦ λ e. in_has q (own ++ r ∷ []) (among_left (r ∷ []) (has_in q own e))
      | false ↦ λ e. (elim (has q (own ++ r ∷ [])) as (λ b. has q (own ++ r ∷ []) ≡ b → b ≡ false) [
        | true ↦ λ h. absurd (⊎_elim (λ m. shut_not (sym (in_has q own m) ∙ e)) (λ i. n (subst (λ z. IsAmong z (q ∷ T)) i (here T))) (among_snoc own q r (has_in q (own ++ r ∷ []) h)))
        | false ↦ λ h. refl
      ]) refl
    ] refl in
    ap (λ b. cond b (strangers (own ++ r ∷ []) T) (suc (strangers (own ++ r ∷ []) T))) same ∙ ap (λ n. cond (has q own) n (suc n)) t

module _ {P : Type 0} where
  -- where the stream noted E, of which no row was acquired
  takes : {a b : Seen P} {m n : ℕ} (E : List What) → trace b.seat ≡ trace a.seat ++ E → rows E ≡ [] → length (opens E) ≡ m → strangers (own_rows a.seat) (firsts (said b.shelf)) ≡ strangers (own_rows a.seat) (firsts (said a.shelf)) + n → b.scopes ≡ a.scopes → b.rows ≡ a.rows → TakesRoom m n a b
  takes {a = a} {b = b} E w none count more s r =
      let R : rows (trace b.seat) ≡ rows (trace a.seat) = ap rows w ∙ rows_append (trace a.seat) E ∙ ap (λ l. rows (trace a.seat) ++ l) none ∙ append-nil (rows (trace a.seat)) in
      let o : length (opens (trace b.seat)) ≡ length (opens (trace a.seat) ++ opens E) = ap (λ l. length (opens l)) w ∙ ap length (opens_append (trace a.seat) E) in
      let l = length-append (opens (trace a.seat)) (opens E) in let F = firsts (said b.shelf) in
      let u : length (rows (trace b.seat)) + strangers (own_rows b.seat) F ≡ length (rows (trace a.seat)) + strangers (own_rows a.seat) F = ap (λ z. length z + strangers (numbers z) F) R in
      record { opens = omega (o, l, count, arith); used = omega (u, more, arith); own = λ T. (let e = ap (λ z. strangers (numbers z) T) R in omega (e, arith)); scopes = s; rows = r }

  same_shelf : (a b : Seen P) → b.shelf ≡ a.shelf → strangers (own_rows a.seat) (firsts (said b.shelf)) ≡ strangers (own_rows a.seat) (firsts (said a.shelf)) + 0
  same_shelf a b e = let s = ap (λ l. strangers (own_rows a.seat) (firsts (said l))) e in omega (s, arith)

  shelf_more : (a b : Seen P) (xs : List (Spent P)) → b.shelf ≡ a.shelf ++ xs → strangers (own_rows a.seat) (firsts (said b.shelf)) ≡ strangers (own_rows a.seat) (firsts (said a.shelf)) + strangers (own_rows a.seat) (firsts (said xs))
  shelf_more a b xs e =
      let own = own_rows a.seat in
      ap (λ l. strangers own (firsts (said l))) e ∙ ap (λ l. strangers own (firsts l)) (said_append a.shelf xs) ∙ ap (strangers own) (firsts_append (said a.shelf) (said xs)) ∙ strangers_append own (firsts (said a.shelf)) (firsts (said xs))

  pub open_takes : {a b : Seen P} {at c : ℕ} → OpensScope a at c b → TakesRoom 1 0 a b
  open_takes {a = a} {b = b} {c = c} o = takes (Open c o.parent ∷ []) (opened_said o) refl refl (same_shelf a b o.shelf) o.scopes o.rows

  pub lease_takes : {a b : Seen P} {s j : ℕ} {T : List ℕ} → Leases a s j T b → TakesRoom 0 0 a b
  lease_takes {a = a} {b = b} {s = s} {j = j} o = takes (Lease j s ∷ []) (leased_said o) refl refl (same_shelf a b o.shelf) o.scopes o.rows

  -- a row that isn't on the shelf
  pub acquire_takes : {a b : Seen P} {s r : ℕ} {p : P} → AcquiresRow a s r p b → ¬ (IsAmong r (firsts (said a.shelf))) → TakesRoom 0 1 a b
  acquire_takes {a = a} {b = b} {s = s} {r = r} o n =
      let R : rows (trace b.seat) ≡ rows (trace a.seat) ++ (r, s) ∷ [] = ap rows (acquired_said o) ∙ rows_append (trace a.seat) (Acquire r s ∷ []) in
      let O : opens (trace b.seat) ≡ opens (trace a.seat) = ap opens (acquired_said o) ∙ opens_append (trace a.seat) (Acquire r s ∷ []) ∙ append-nil (opens (trace a.seat)) in
      let l = length-append (rows (trace a.seat)) ((r, s) ∷ []) in let F = firsts (said a.shelf) in let c = ap length O in
      let u : length (rows (trace b.seat)) + strangers (own_rows b.seat) (firsts (said b.shelf)) ≡ length (rows (trace a.seat) ++ (r, s) ∷ []) + strangers (own_rows a.seat ++ r ∷ []) F = ap (λ z. length z + strangers (numbers z) (firsts (said b.shelf))) R ∙ ap (λ z. length (rows (trace a.seat) ++ (r, s) ∷ []) + strangers (numbers (rows (trace a.seat) ++ (r, s) ∷ [])) (firsts (said z))) o.shelf ∙ ap (λ z. length (rows (trace a.seat) ++ (r, s) ∷ []) + strangers z F) (numbers_snoc (rows (trace a.seat)) (r, s)) in
      let t = strangers_snoc (own_rows a.seat) r F n in
      record { opens = omega (c, arith); used = omega (u, l, t, arith); own = λ T. (let e = ap (λ z. strangers z T) (ap numbers R ∙ numbers_snoc (rows (trace a.seat)) (r, s)) in let m = strangers_less (own_rows a.seat) (own_rows a.seat ++ r ∷ []) T (λ q i. among_left (r ∷ []) i) in omega (e, m, arith)); scopes = o.scopes; rows = o.rows }

  module _ {ends : P → Exit → Bool → P → Type 0} {x : Exit} {a b : Seen P} where
    -- the rows that a close ends are the tree's own
    close_own : {s : ℕ} (bs : List Branch) (hs : List AcquiredRow) → Kept a.seat bs hs → s < length bs → (c : ClosesScope ends a s x b) → strangers (own_rows a.seat) (firsts (said b.shelf)) ≡ strangers (own_rows a.seat) (firsts (said a.shelf))
    close_own {s = s} bs hs k l c =
        let xs = c.torn.0 in let own = own_rows a.seat in
        shelf_more a b xs c.torn.1
        ∙ ap (λ n. strangers own (firsts (said a.shelf)) + n) (strangers_none own (firsts (said xs)) (λ r m. let y = whole_under bs hs r s l (subst (λ T. IsAmong r T) (sym (whole_is a.seat bs hs k s l)) (picks_among r (released_picks c.torn.2) m)) in subst (λ T. IsAmong r T) (sym (own_is a.seat bs hs k)) (row_of_pair r y.0 hs y.1)))
        ∙ add-zero _

    pub close_takes : {s : ℕ} (bs : List Branch) (hs : List AcquiredRow) → Kept a.seat bs hs → s < length bs → (c : ClosesScope ends a s x b) → TakesRoom 0 0 a b
    close_takes {s = s} bs hs k l c = let e = close_own bs hs k l c in takes (Close s x ∷ finals x (said c.torn.0)) (closed_said c) (rows_finals x (said c.torn.0)) (ap length (opens_finals x (said c.torn.0))) (omega (e, arith)) c.scopes c.rows

    -- a cancellation uses no more than the rows that others acquired
    pub cancel_takes : {j : ℕ} {T : List ℕ} → Cancels ends a j T x b → (n : ℕ) × (n ≤ strangers (own_rows a.seat) T) × TakesRoom 0 n a b
    cancel_takes {j = j} {T = T} c =
        let xs = c.left.0 in let own = own_rows a.seat in
        let more = shelf_more a b xs c.left.1 in
        let few = picks_strangers own (released_picks c.left.2) in let same = strangers_reverse own T in
        (strangers own (firsts (said xs)), omega (few, same, arith), takes (Cancel j x ∷ finals x (said xs)) (canceled_said c) (rows_finals x (said xs)) (ap length (opens_finals x (said xs))) more c.scopes c.rows)
