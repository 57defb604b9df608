-- What is left of a tree whose root is closed after a lease.
use Rattle.res_ledger.specs.Own.{opens, picked, reaches, rows, teardown}
use Rattle.chunk_core.proofs.Bools.{has_in, in_has}
use Rattle.scope_tree.proofs.Beneath.{shut_not, one_open, open_pos, usable_scope}
use Rattle.std.proofs.Common.{◌≡◌, ◌≢◌, ℕ, ◌+◌, ◌-◌, ◌≤◌, Bool, true, false, cond, List, [], ◌∷◌, ◌++◌, inl, refl, sym, ap, ◌∙◌, subst, ⊎_elim, arith, length-append, append-nil, nat_eq}
use Rattle.chunk_core.specs.Lists.{IsAmong, has}
use Rattle.chunk_core.specs.Lists.IsAmong.{here, there}
use Rattle.chunk_core.proofs.Filters.{among_append}
use Rattle.chunk_core.proofs.Members.{among_cons}
use Rattle.res_ledger.specs.declared.event.StreamNo.TheVariants.{Inner}
use Rattle.res_ledger.specs.declared.event.What.TheVariants.{Close, Lease}
use Rattle.res_ledger.specs.Ledger.{IsUsable}
use Rattle.res_ledger.specs.Order.{finals, firsts}
use Rattle.res_ledger.proofs.Ledgers.{usable_map}
use Rattle.res_ledger.proofs.Growth.{noted_more}
use Rattle.row_seat.specs.Views.{HasPair, HasRow, noted}
use Rattle.scope_tree.specs.declared.branch.Branch.{Branch}
use Rattle.scope_tree.specs.declared.branch.AcquiredRow.{AcquiredRow}
use Rattle.scope_tree.specs.Calls.{ClosesScope, IsOpenScope, Leases, Seen}
use Rattle.scope_tree.specs.Kept.{Kept, Shelved}
use Rattle.scope_tree.specs.Leased.{leased_all, pairs_for}
use Rattle.std.specs.List.{IsDistinct}
use Rattle.scope_tree.specs.Released.{said}
use Rattle.tree_scripts.specs.Waiting.{IsAlone, WaitsForCancel}
use Rattle.scope_tree.specs.Trace.{leasing, numbers, owed, own_rows, trace}
use Rattle.scope_tree.proofs.Bridge.{rows_append}
use Rattle.scope_tree.proofs.Distinct.{firsts_append, length_said, said_append}
use Rattle.scope_tree.proofs.Leased.{lease_back, lease_distinct, lease_rows_open}
use Rattle.scope_tree.proofs.Leasing.{among_pairs}
use Rattle.chunk_core.proofs.Distinct.{distinct_append, distinct_tail}
use Rattle.chunk_core.specs.declared.code.Exit.{Exit}
use Rattle.scope_tree.proofs.Follows.{follows_alone, same_by}
use Rattle.scope_tree.proofs.Grown.{rows_finals}
use Rattle.scope_tree.proofs.Keeps.{root_closes}
use Rattle.scope_tree.proofs.Lists.{fit_in}
use Rattle.scope_tree.proofs.Owning.{owner_has}
use Rattle.scope_tree.proofs.Releasing.{released_spare}
use Rattle.scope_tree.proofs.Use.{close_follows, close_pairs, closed_now, closed_said, leased_said}
use Rattle.tree_scripts.proofs.Alone.{alone_more}
use Rattle.tree_scripts.proofs.Outcomes.{owner_opens}

picked_number : (f : ℕ → Bool) (xs : List (ℕ × ℕ)) (r : ℕ) → IsAmong r (picked f xs) → IsAmong r (numbers xs)
picked_number f [] r m = m
picked_number f (x ∷ xs) r m = (elim (f x.1) as (λ b. IsAmong r (cond b (x.0 ∷ picked f xs) (picked f xs)) → IsAmong r (numbers (x ∷ xs))) [
  | true ↦ λ n. ⊎_elim (λ e. subst (λ z. IsAmong z (numbers (x ∷ xs))) (sym e) (here (numbers xs))) (λ i. there x.0 (picked_number f xs r i)) (among_cons n)
  | false ↦ λ n. there x.0 (picked_number f xs r n)
]) m

distinct_back : (T U : List ℕ) → IsDistinct nat_eq (T ++ U) → IsDistinct nat_eq U
distinct_back [] U d = d
distinct_back (x ∷ T) U d = distinct_back T U (distinct_tail x (T ++ U) d)

module _ {P : Type 0} where
  pub close_alone : {ends : P → Exit → Bool → P → Type 0} {x : Exit} {a b : Seen P} {s : ℕ} → ClosesScope ends a s x b → IsAlone a.seat → IsAlone b.seat
  close_alone {x = x} {a = a} {s = s} c al = let f = close_follows c in record {
    main = ap (λ z. z.main) f.same ∙ al.main;
    pairs = close_pairs c ∙ al.pairs;
    kept = ap (λ z. z.kept) f.same ∙ al.kept;
    out = ap (λ z. z.out) f.same ∙ al.out;
    events = follows_alone f (alone_more a.seat c.stamp (Close s x) al.events);
  }

  -- what was open and isn't is taken down
  pub close_takes : {ends : P → Exit → Bool → P → Type 0} {x : Exit} {a b : Seen P} {s : ℕ} (r : ℕ) → ClosesScope ends a s x b → HasRow a.seat.opened r → ¬ (HasRow b.seat.opened r) → IsAmong r (teardown (trace a.seat) s)
  close_takes {a = a} {s = s} r c h n =
      let T = teardown (trace a.seat) s in
      elim (has r T) as (λ x. has r T ≡ x → IsAmong r T) [ true ↦ λ e. has_in r T e | false ↦ λ e. absurd (n (owner_has r c.torn.2 (λ m. shut_not (sym (in_has r T m) ∙ e)) h)) ] refl

  module _ {a m : Seen P} {s j : ℕ} {T : List ℕ} (bs : List Branch) (hs : List AcquiredRow) (k : Kept a.seat bs hs) (sh : Shelved a.seat hs a.shelf) (u : IsOpenScope a s) (o : Leases a s j T m) where
    -- a lease leaves each scope open
    pub lease_open : (t : ℕ) → IsOpenScope a t → IsOpenScope m t
    lease_open t y =
        subst (λ v. IsUsable v.events v.by t) (sym o.seat)
        (usable_map a.seat.events (noted (leased_all a.seat j T) (leasing a.seat j s o.stamp)).events a.seat.by (λ w n. noted_more a.seat.events (leasing a.seat j s o.stamp) n) t (λ x c. lease_back a.seat bs hs a.shelf k sh s j u o.stamp T o.covered x c) y)

    -- the root is open where a scope is
    pub root_open : IsOpenScope a 0
    root_open = (inl refl, λ c. u.1 (root_closes a.seat bs hs k s (usable_scope a.seat bs hs k s u) c))

    -- once the root is closed the lease waits alone
    pub lease_waits : {b : Seen P} {ends : P → Exit → Bool → P → Type 0} {x : Exit} (cs : List Branch) (is : List AcquiredRow) → Kept b.seat cs is → Shelved b.seat is b.shelf → IsAlone a.seat → a.seat.by ≢ Inner j → owed a.seat + 2 ≤ a.seat.spare → ClosesScope ends m 0 x b → WaitsForCancel b j T
    lease_waits {b = b} {x = x} cs is k' sh' al ne f c =
        let g = close_follows c in let v = noted (leased_all a.seat j T) (leasing a.seat j s o.stamp) in
        let open' : (r : ℕ) → IsAmong r T → HasRow a.seat.opened r = λ r i. lease_rows_open a.seat bs hs a.shelf k sh s j u r (subst (λ l. IsAmong r l) o.covered i) in
        let F = firsts (said c.torn.0) in
        let dF : IsDistinct nat_eq F = distinct_back (firsts (said m.shelf)) F (subst (IsDistinct nat_eq) (ap (λ l. firsts (said l)) c.torn.1 ∙ ap firsts (said_append m.shelf c.torn.0) ∙ firsts_append (said m.shelf) (said c.torn.0)) sh'.distinct) in
        let dT : IsDistinct nat_eq T = subst (IsDistinct nat_eq) (sym o.covered) (lease_distinct a.seat bs hs a.shelf k sh s j u) in
        let pair : (r : ℕ) → IsAmong r T → HasPair m.seat r = λ r i. (j, subst (λ w. IsAmong (j, r) w.pairs) (sym o.seat) (subst (λ l. IsAmong (j, r) (l ++ pairs_for j T)) (sym al.pairs) (among_pairs j r T i))) in
        let fit = fit_in (T ++ F) a.seat.opened (distinct_append T F dT dF (λ r i h. (owner_opens r c.torn.2 h).1 (pair r i)))
        (λ r i. ⊎_elim (open' r) (λ h. subst (λ w. HasRow w.opened r) o.seat (owner_opens r c.torn.2 h).0) (among_append r T F i)) in
        let le = length-append T F in let lf = length_said c.torn.0 in let sp = released_spare c.torn.2 in
        let ms : m.seat.spare ≡ a.seat.spare - 1 = ap (λ w. w.spare) o.seat in
        let z = one_open a.seat s u in let p = open_pos (trace a.seat) (0 ∷ numbers (opens (trace a.seat))) s z.1 z.0 in
        let own : own_rows b.seat ≡ own_rows a.seat = ap (λ E. numbers (rows E)) (closed_said c) ∙ ap numbers (rows_append (trace m.seat) (Close 0 x ∷ finals x (said c.torn.0)) ∙ ap (λ l. rows (trace m.seat) ++ l) (rows_finals x (said c.torn.0)) ∙ append-nil (rows (trace m.seat)))
        ∙ ap (λ E. numbers (rows E)) (leased_said o) ∙ ap numbers (rows_append (trace a.seat) (Lease j s ∷ []) ∙ append-nil (rows (trace a.seat))) in
        record {
          main = ap (λ z. z.main) g.same ∙ ap (λ w. w.main) o.seat ∙ al.main;
          by = λ e. ne (sym (same_by g ∙ ap (λ w. w.by) o.seat) ∙ e);
          closed = closed_now c;
          pairs = close_pairs c ∙ ap (λ w. w.pairs) o.seat ∙ ap (λ l. l ++ pairs_for j T) al.pairs;
          kept = ap (λ z. z.kept) g.same ∙ ap (λ w. w.kept) o.seat ∙ ap (λ l. l ++ j ∷ []) al.kept;
          out = ap (λ z. z.out) g.same ∙ ap (λ w. w.out) o.seat ∙ al.out;
          events = follows_alone g (alone_more m.seat c.stamp (Close 0 x) (subst (λ w. (e : _) → IsAmong e w.events → e.by ≡ w.by) (sym o.seat) (alone_more (leased_all a.seat j T) o.stamp (Lease j s) al.events)));
          rows = λ r i. subst (λ l. IsAmong r l) (sym own) (picked_number (reaches (trace a.seat) s) (rows (trace a.seat)) r (subst (λ l. IsAmong r l) o.covered i));
          spare = omega (fit, le, lf, sp, ms, p, f, arith);
        }
