-- What calls of a tree leave of its leases.
use Rattle.std.proofs.Common.{◌≡◌, ◌≢◌, ℕ, Bool, not, eqb, List, [], ◌∷◌, ◌++◌, refl, sym, ap, ◌∙◌, subst, ⊎_elim, eq-eqb, ne_eqb}
use Rattle.chunk_core.specs.declared.code.Exit.{Exit}
use Rattle.chunk_core.specs.Lists.{IsAmong}
use Rattle.chunk_core.specs.Lists.IsAmong.{here, there}
use Rattle.chunk_core.proofs.Filters.{among_append, among_filter, filter_among}
use Rattle.chunk_core.proofs.Members.{among_cons, among_last, among_left, among_nil, among_snoc}
use Rattle.row_seat.proofs.Members.{among_kept, among_without}
use Rattle.res_ledger.specs.declared.event.Event.{Event}
use Rattle.res_ledger.specs.declared.event.StreamNo.{StreamNo}
use Rattle.res_ledger.specs.declared.event.StreamNo.TheVariants.{Inner}
use Rattle.res_ledger.specs.declared.event.What.{What}
use Rattle.res_ledger.specs.declared.event.What.TheVariants.{Close, Lease}
use Rattle.res_ledger.specs.Ledger.{IsAcquired, IsLeased}
use Rattle.res_ledger.specs.Own.{leased_of}
use Rattle.res_ledger.proofs.Growth.{noted_snoc}
use Rattle.row_seat.specs.declared.view.View.{View}
use Rattle.row_seat.specs.Views.{AtRest, joined, kept_after, noted, split_main, start, without}
use Rattle.scope_tree.specs.Calls.{Cancels, ClosesScope, Seen}
use Rattle.scope_tree.specs.Leased.{leased_all, pairs_for}
use Rattle.scope_tree.specs.Rights.{AddsLease, DropsLease, HasNoLeaseBut, IsNewStream, IsSameSeat, KeepsLeases}
use Rattle.scope_tree.specs.Trace.{canceling, leasing}
use Rattle.scope_tree.proofs.Beneath.{shut_not}
use Rattle.chunk_core.proofs.Reversed.{reverse_among}
use Rattle.scope_tree.proofs.Follows.{Follows, follows_old, released_follows}
use Rattle.scope_tree.proofs.Leasing.{pairs_among}
use Rattle.scope_tree.proofs.Lessee.{lease_gone, lease_others}
use Rattle.scope_tree.proofs.Owning.{owner_pairs}

pub lease_apart : (w : What) (j s : ℕ) → leased_of w ≡ [] → ¬ (w ≡ Lease j s)
lease_apart w j s e q = among_nil (subst (λ l. IsAmong (j, s) l) (sym (ap leased_of q) ∙ e) (here []))

-- an event that is no Lease
pub lease_before : (L : List Event) (e : Event) → leased_of e.what ≡ [] → (j : ℕ) → IsLeased (L ++ e ∷ []) j → IsLeased L j
lease_before L e none j l = ⊎_elim (λ n. (l.0, l.1, n)) (λ q. absurd (lease_apart e.what j l.1 none q.1)) (noted_snoc L e l.0 (Lease j l.1) l.2)

-- another than the first stands in the rest
other_of : (x y : ℕ × List ℕ) (ys : List (ℕ × List ℕ)) → ¬ (x ≡ y) → IsAmong x (y ∷ ys) → IsAmong x ys
other_of x y ys ne m = ⊎_elim (λ e. absurd (ne e)) (λ i. i) (among_cons m)

none_in : {A : Type 0} (xs : List A) → ((y : A) → ¬ (IsAmong y xs)) → xs ≡ []
none_in [] n = refl
none_in (x ∷ xs) n = absurd (n x (here xs))

module _ {P : Type 0} where
  pub seat_self : (v : View P) → IsSameSeat v v
  seat_self v = record { by = refl; main = refl; had = refl; out = refl }

  pub leases_self : (v : View P) → KeepsLeases v v
  leases_self v = record { new = λ j n. n; may = λ j x ne m. m; pairs = λ j r m. m; only = λ Ls h. h }

  -- where as many are kept, no lease on a row came or went, and no Lease is new
  keeps : (v w : View P) → w.by ≡ v.by → w.had ≡ v.had → w.kept ≡ v.kept → w.pairs ≡ v.pairs → ((j : ℕ) → IsLeased w.events j → IsLeased v.events j) → KeepsLeases v w
  keeps v w b h k p l = record {
    new = λ j n. ((λ e. n.0 (sym b ∙ e)), (λ m. n.1 (subst (λ z. IsAmong j z) h m)), (λ y. n.2 (l j y)));
    may = λ j x ne m. (subst (λ z. IsAmong j z) (sym k) m.0, λ e. absurd (ne (sym b ∙ e)));
    pairs = λ j r m. subst (λ z. IsAmong (j, r) z) (sym p) m;
    only = λ Ls o. record { kept = λ j m. o.kept j (subst (λ z. IsAmong j z) k m); pairs = λ j r m. o.pairs j r (subst (λ z. IsAmong (j, r) z) p m) };
  }

  -- an event that is neither a Lease nor a Cancel
  pub note_leases : (v : View P) (n : ℕ) (u : What) → leased_of u ≡ [] → kept_after u v.kept ≡ v.kept → KeepsLeases v (noted v (record { stamp = n; by = v.by; what = u }))
  note_leases v n u l k = keeps v (noted v (record { stamp = n; by = v.by; what = u })) refl refl k refl (lease_before v.events (record { stamp = n; by = v.by; what = u }) l)

  follows_leases : {v w : View P} → Follows v w → (j : ℕ) → IsLeased w.events j → IsLeased v.events j
  follows_leases f j l = (l.0, l.1, follows_old f refl l.2)

  follows_seat : {v w : View P} → Follows v w → IsSameSeat v w
  follows_seat f = record { by = ap (λ z. z.by) f.same; main = ap (λ z. z.main) f.same; had = ap (λ z. z.had) f.same; out = ap (λ z. z.out) f.same }

  module _ {ends : P → Exit → Bool → P → Type 0} {x : Exit} {a b : Seen P} where
    pub close_seat : {s : ℕ} → ClosesScope ends a s x b → IsSameSeat a.seat b.seat
    close_seat c = let f = follows_seat (released_follows c.torn.2) in record { by = f.by; main = f.main; had = f.had; out = f.out }

    pub close_leases : {s : ℕ} → ClosesScope ends a s x b → KeepsLeases a.seat b.seat
    close_leases {s = s} c =
        let f = released_follows c.torn.2 in let o = follows_seat f in
        keeps a.seat b.seat o.by o.had (ap (λ z. z.kept) f.same) (owner_pairs c.torn.2) (λ j l. lease_before a.seat.events (record { stamp = c.stamp; by = a.seat.by; what = Close s x }) refl j (follows_leases f j l))

    pub cancel_seat : {j : ℕ} {T : List ℕ} → Cancels ends a j T x b → IsSameSeat a.seat b.seat
    cancel_seat c = let f = follows_seat (released_follows c.left.2) in record { by = f.by; main = f.main; had = f.had; out = f.out }

    pub cancel_new : {j : ℕ} {T : List ℕ} → Cancels ends a j T x b → (i : ℕ) → IsNewStream a.seat i → IsNewStream b.seat i
    cancel_new {j = j} c i n =
        let f = released_follows c.left.2 in let o = follows_seat f in (
          (λ e. n.0 (sym o.by ∙ e)),
          (λ m. n.1 (subst (λ z. IsAmong i z) o.had m)),
          (λ y. n.2 (lease_before a.seat.events (canceling a.seat j x c.stamp) refl i (follows_leases f i y))),
        )

    pub cancel_drops : {j : ℕ} {T : List ℕ} → Cancels ends a j T x b → DropsLease a.seat j T b.seat
    cancel_drops {j = j} {T = T} c =
        let f = released_follows c.left.2 in let o = follows_seat f in
        let k : b.seat.kept ≡ without j a.seat.kept = ap (λ z. z.kept) f.same in record {
          may = λ i y ne by m. (subst (λ z. IsAmong i z) (sym k) (among_kept j a.seat.kept i m.0 ne), λ e. absurd (by (sym o.by ∙ e)));
          pairs = λ i r ne m. lease_others (i, r) c.left.2 (λ z. ne z.0) m;
          only = λ Ls h. record {
            kept = λ i m.
                let w = among_without j a.seat.kept i (subst (λ z. IsAmong i z) k m) in let t = h.kept i w.0 in
                (t.0, other_of (i, t.0) (j, T) Ls (λ e. w.1 (ap (λ y. y.0) e)) t.1);
            pairs = λ i r m.
                let t = h.pairs i r (f.pairs (i, r) m) in
                (t.0, (other_of (i, t.0) (j, T) Ls (λ e. lease_gone r c.left.2 (reverse_among r T (subst (λ l. IsAmong r l) (ap (λ y. y.1) e) t.2)) (subst (λ z. IsAmong (z, r) b.seat.pairs) (ap (λ y. y.0) e) m)) t.1), t.2);
          };
        }

  -- the view once the lease for the stream j on the rows T was made
  pub lease_adds : (v : View P) (s j n : ℕ) (T : List ℕ) → v.by ≢ Inner j → AddsLease v j T (noted (leased_all v j T) (leasing v j s n))
  lease_adds v s j n T ne = record {
    new = λ i ni k. (k.0, k.1, (λ y. ⊎_elim (λ o. k.2 (y.0, y.1, o)) (λ q. ni (let z : What = Lease j s in let e : z ≡ Lease i y.1 = q.1 in let r : i ≡ j = cc in r)) (noted_snoc v.events (leasing v j s n) y.0 (Lease i y.1) y.2)));
    may = λ i x by m. (among_left (j ∷ []) m.0, λ e. absurd (by e));
    other = ne;
    may_it = λ x. (among_last v.kept j, λ e. absurd (ne e));
    pairs = λ i r m. among_left (pairs_for j T) m;
    only = λ Ls h. record {
      kept = λ i m. ⊎_elim (λ o. let t = h.kept i o in (t.0, there (j, T) t.1)) (λ e. (T, subst (λ z. IsAmong (z, T) ((j, T) ∷ Ls)) (sym e) (here Ls))) (among_snoc v.kept i j m);
      pairs = λ i r m. ⊎_elim (λ o. let t = h.pairs i r o in (t.0, there (j, T) t.1, t.2)) (λ o. let p = pairs_among j i r T o in (T, subst (λ z. IsAmong (z, T) ((j, T) ∷ Ls)) (sym p.0) (here Ls), p.1)) (among_append (i, r) v.pairs (pairs_for j T) m);
    };
  }

  -- with the seat of the stream j its leases go
  pub split_drops : (v : View P) (j from to n : ℕ) (T : List ℕ) → DropsLease v j T (split_main v j from to n)
  split_drops v j from to n T = record {
    may = λ i x ne by m. (among_kept j v.kept i m.0 ne, λ e. absurd (by e));
    pairs = λ i r ne m. filter_among (λ y. not (eqb y.0 j)) (i, r) v.pairs m (ap not (ne_eqb i j ne));
    only = λ Ls h. record {
      kept = λ i m. let w = among_without j v.kept i m in let t = h.kept i w.0 in (t.0, other_of (i, t.0) (j, T) Ls (λ e. w.1 (ap (λ y. y.0) e)) t.1);
      pairs = λ i r m. let w = among_filter (λ y. not (eqb y.0 j)) (i, r) v.pairs m in let t = h.pairs i r w.0 in (t.0, other_of (i, t.0) (j, T) Ls (λ e. shut_not (sym w.1 ∙ ap not (eq-eqb i j (ap (λ y. y.0) e)))) t.1, t.2);
    };
  }

  pub joined_only : (v w : View P) (Ls : List (ℕ × List ℕ)) → HasNoLeaseBut v Ls → HasNoLeaseBut (joined v w) Ls
  joined_only v w Ls h = record { kept = h.kept; pairs = h.pairs }

  -- a seat with no lease is at rest where nothing is open
  pub at_rest : (v : View P) → HasNoLeaseBut v [] → v.opened ≡ [] → ((r : ℕ) → IsAmong r v.empty → ¬ (IsAcquired v.events r)) → v.handed ≡ [] → v.taken ≡ [] → AtRest v
  at_rest v h op e ha ta = (op, e, none_in v.pairs (λ y i. among_nil (h.pairs y.0 y.1 i).1), none_in v.kept (λ j i. among_nil (h.kept j i).1), ha, ta)

  -- a first seat has no lease, and may lease for each other stream
  pub start_leases : (v : View P) (k : StreamNo) (rows events splits : ℕ) → v ≡ start k rows events splits → HasNoLeaseBut v []
  start_leases v k rows events splits e = record { kept = λ j m. absurd (among_nil (subst (λ l. IsAmong j l) (ap (λ v. v.kept) e) m)); pairs = λ j r m. absurd (among_nil (subst (λ l. IsAmong (j, r) l) (ap (λ v. v.pairs) e) m)) }

  pub start_new : (v : View P) (k : StreamNo) (rows events splits j : ℕ) → k ≢ Inner j → v ≡ start k rows events splits → IsNewStream v j
  start_new v k rows events splits j ne e = (
    (λ b. ne (sym (ap (λ v. v.by) e) ∙ b)),
    (λ m. among_nil (subst (λ l. IsAmong j l) (ap (λ v. v.had) e) m)),
    (λ l. among_nil (subst (λ L. IsAmong l.2.0 L) (ap (λ v. v.events) e) l.2.1)),
  )
