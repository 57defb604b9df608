-- What callers read off the clauses of a tree.
use Rattle.std.proofs.Common.{flat_map, ◌≡◌, ℕ, ◌+◌, ◌⊎◌, Bool, true, List, [], ◌∷◌, ◌++◌, length, inl, inr, refl, sym, ap, ◌∙◌, subst, ⊎_elim, arith, reverse}
use Rattle.res_ledger.specs.Ledger.LiesWithin.{same}
use Rattle.res_ledger.specs.declared.event.StreamNo.{StreamNo}
use Rattle.res_ledger.specs.declared.event.What.{What}
use Rattle.res_ledger.specs.declared.event.What.TheVariants.{Open, Acquire, Lease, Cancel, Close}
use Rattle.res_ledger.specs.declared.event.Event.{Event}
use Rattle.row_seat.specs.declared.view.View.{View}
use Rattle.row_seat.specs.Views.{noted}
use Rattle.chunk_core.specs.declared.code.Exit.{Exit}
use Rattle.chunk_core.specs.Lists.{IsAmong}
use Rattle.res_ledger.specs.Ledger.{Notes, IsClosed, IsUsable, Covers}
use Rattle.chunk_core.proofs.Members.{among_nil, among_mid}
use Rattle.chunk_core.specs.Lists.IsAmong.{here}
use Rattle.res_ledger.specs.Own.{own, opens, closes, teardown, leased_of}
use Rattle.res_ledger.proofs.Noted.{flat_holds, notes_closes, only}
use Rattle.res_ledger.specs.Order.{Picks, finals, firsts}
use Rattle.res_ledger.specs.Order.Picks.{none, pick, pass}
use Rattle.res_ledger.specs.Order.{IsInBlocks, IsAny}
use Rattle.res_ledger.proofs.Blocks.{picks_map, blocks_plain, blocks_close, blocks_cancel}
use Rattle.scope_tree.specs.Walks.{FirstOpen}
use Rattle.scope_tree.specs.Walks.FirstOpen.{this_one, above_it}
use Rattle.scope_tree.specs.Released.{said}
use Rattle.scope_tree.specs.Rights.{HasNoLeaseBut}
use Rattle.scope_tree.specs.Calls.{AtStart, Seen, OpensScope, AcquiresRow, ClosesScope, Cancels, Leases}
use Rattle.scope_tree.specs.Trace.{owed, trace, canceling, opening, acquiring, leasing, shutting}
use Rattle.scope_tree.proofs.Bridge.{own_snoc, noted_in, in_noted, in_opens}
use Rattle.scope_tree.proofs.Follows.{Follows, released_follows, same_by}
use Rattle.scope_tree.proofs.Grown.{grown_closed, grown_release}
use Rattle.scope_tree.proofs.Lessee.{lease_ends_all}
use Rattle.scope_tree.proofs.Owning.{owner_pairs, owner_picks}
use Rattle.scope_tree.proofs.Releasing.{released_picks}

-- with nothing that may be left out, nothing is
pub all_picked : {may : ℕ → Type 0} {xs ys : List ℕ} → ((r : ℕ) → may r → ⊥) → Picks may xs ys → xs ≡ ys
all_picked n none = refl
all_picked n (pick x p) = ap (λ l. x ∷ l) (all_picked n p)
all_picked n (pass y m p) = absurd (n y m)

-- the leases that were noted
abbrev pub leases : List What → List (ℕ × ℕ)
leases E = flat_map leased_of E

lease_in : (j s : ℕ) (E : List What) → IsAmong (Lease j s) E → IsAmong (j, s) (leases E)
lease_in j s E m = flat_holds leased_of (Lease j s) E (j, s) m (here [])

module _ {P : Type 0} where
  -- without a lease no row is covered
  pub no_cover : (v : View P) (k : StreamNo) (j r : ℕ) → v.by ≡ k → leases (trace v) ≡ [] → Covers v.events j k r → ⊥
  no_cover v k j r b e c =
      let n : Notes v.events v.by (Lease j c.3) = (c.2, subst (λ l. IsAmong c.2 l) (sym c.4) (among_mid c.0 c.1 c.2), c.5 ∙ sym b, c.6) in
      among_nil (subst (λ l. IsAmong (j, c.3) l) e (lease_in j c.3 (trace v) (noted_in v.by (Lease j c.3) v.events n)))

  -- where callers see the same of two trees but for the seat
  pub seen_is : (a b : Seen P) (v : View P) → b.seat ≡ v → b.shelf ≡ a.shelf → b.scopes ≡ a.scopes → b.rows ≡ a.rows → b ≡ record a { seat = v }
  seen_is a b v x y z w =
      ap (λ s. let c : Seen P = record b { seat = s } in c) x ∙ ap (λ s. let c : Seen P = record b { seat = v; shelf = s } in c) y
      ∙ ap (λ s. let c : Seen P = record b { seat = v; shelf = a.shelf; scopes = s } in c) z ∙ ap (λ s. let c : Seen P = record a { seat = v; rows = s } in c) w

  -- without a close each scope that was opened is open
  pub all_open : (v : View P) (s : ℕ) → closes (trace v) ≡ [] → (s ≡ 0) ⊎ ((p : ℕ) × IsAmong (s, p) (opens (trace v))) → IsUsable v.events v.by s
  all_open v s e o = (
    ⊎_elim (λ z. inl z) (λ z. inr (z.0, in_noted v.by (Open s z.0) v.events (in_opens s z.0 (trace v) z.1))) o,
    λ c. among_nil (subst (λ l. IsAmong c.0 l) e (notes_closes v.events v.by c.0 c.2)),
  )

  pub opened_said : {a b : Seen P} {at c : ℕ} (o : OpensScope a at c b) → trace b.seat ≡ trace a.seat ++ Open c o.parent ∷ []
  opened_said {a = a} {c = c} o = ap trace o.seat ∙ own_snoc a.seat.by a.seat.events (opening a.seat c o.parent o.stamp) refl

  pub acquired_said : {a b : Seen P} {s r : ℕ} {p : P} → AcquiresRow a s r p b → trace b.seat ≡ trace a.seat ++ Acquire r s ∷ []
  acquired_said {a = a} {s = s} {r = r} o = ap trace o.seat ∙ own_snoc a.seat.by a.seat.events (acquiring a.seat r s o.stamp) refl

  pub leased_said : {a b : Seen P} {s j : ℕ} {T : List ℕ} (o : Leases a s j T b) → trace b.seat ≡ trace a.seat ++ Lease j s ∷ []
  leased_said {a = a} {s = s} {j = j} o = ap trace o.seat ∙ own_snoc a.seat.by a.seat.events (leasing a.seat j s o.stamp) refl

  pub closed_said : {ends : P → Exit → Bool → P → Type 0} {x : Exit} {a b : Seen P} {s : ℕ} (c : ClosesScope ends a s x b) → trace b.seat ≡ trace a.seat ++ Close s x ∷ finals x (said c.torn.0)
  closed_said {x = x} {a = a} {s = s} c = (grown_release a.seat c.stamp (Close s x) c.torn.2).trace

  pub closed_picks : {ends : P → Exit → Bool → P → Type 0} {x : Exit} {a b : Seen P} {s : ℕ} (c : ClosesScope ends a s x b) → Picks (λ r. (j : ℕ) × Covers b.seat.events j a.seat.by r) (firsts (said c.torn.0)) (teardown (trace a.seat) s)
  closed_picks {a = a} c = owner_picks a.seat.by c.torn.2 refl

  pub closed_by : {ends : P → Exit → Bool → P → Type 0} {x : Exit} {a b : Seen P} {s : ℕ} (c : ClosesScope ends a s x b) → b.seat.by ≡ a.seat.by
  closed_by c = same_by (released_follows c.torn.2)

  pub canceled_said : {ends : P → Exit → Bool → P → Type 0} {x : Exit} {a b : Seen P} {j : ℕ} {T : List ℕ} (c : Cancels ends a j T x b) → trace b.seat ≡ trace a.seat ++ Cancel j x ∷ finals x (said c.left.0)
  canceled_said {x = x} {a = a} {j = j} c = (grown_release a.seat c.stamp (Cancel j x) c.left.2).trace

  -- what a close keeps after its event, and what a cancellation does
  pub close_follows : {ends : P → Exit → Bool → P → Type 0} {x : Exit} {a b : Seen P} {s : ℕ} (c : ClosesScope ends a s x b) → Follows (shutting a.seat s x c.stamp) b.seat
  close_follows c = released_follows c.torn.2

  pub close_pairs : {ends : P → Exit → Bool → P → Type 0} {x : Exit} {a b : Seen P} {s : ℕ} → ClosesScope ends a s x b → b.seat.pairs ≡ a.seat.pairs
  close_pairs c = owner_pairs c.torn.2

  pub cancel_follows : {ends : P → Exit → Bool → P → Type 0} {x : Exit} {a b : Seen P} {j : ℕ} {T : List ℕ} (c : Cancels ends a j T x b) → Follows (noted a.seat (canceling a.seat j x c.stamp)) b.seat
  cancel_follows c = released_follows c.left.2

  -- where no other lease and no seat is left and nothing is open, a cancellation ends each of its rows
  pub cancel_ends : {ends : P → Exit → Bool → P → Type 0} {x : Exit} {a b : Seen P} {j : ℕ} {T : List ℕ} (c : Cancels ends a j T x b) → a.seat.main ≡ true → a.seat.out ≡ [] → HasNoLeaseBut a.seat ((j, T) ∷ []) → a.seat.opened ≡ [] → firsts (said c.left.0) ≡ reverse T
  cancel_ends {j = j} {T = T} c m o h e = lease_ends_all c.left.2 m o (λ i r p. let t = h.pairs i r p in ap (λ y. y.0) (only (i, t.0) (j, T) t.1)) e

  pub cancel_closed : {ends : P → Exit → Bool → P → Type 0} {x : Exit} {a b : Seen P} {j : ℕ} {T : List ℕ} (c : Cancels ends a j T x b) (s : ℕ) → IsClosed a.seat.events a.seat.by s → IsClosed b.seat.events b.seat.by s
  cancel_closed {x = x} {a = a} {j = j} c s i = grown_closed (grown_release a.seat c.stamp (Cancel j x) c.left.2) s i

  -- each call keeps the order of the stream's own events
  module _ {may : ℕ → Type 0} {due : ℕ → List ℕ} where
    pub open_in_order : {a b : Seen P} {p c : ℕ} → OpensScope a p c b → IsInBlocks may due [] (trace a.seat) → IsInBlocks may due [] (trace b.seat)
    open_in_order {a = a} {c = c} o i = subst (λ E. IsInBlocks may due [] E) (sym (opened_said o)) (blocks_plain (trace a.seat) (Open c o.parent) refl i)

    pub acquire_in_order : {a b : Seen P} {s r : ℕ} {p : P} → AcquiresRow a s r p b → IsInBlocks may due [] (trace a.seat) → IsInBlocks may due [] (trace b.seat)
    acquire_in_order {a = a} {s = s} {r = r} o i = subst (λ E. IsInBlocks may due [] E) (sym (acquired_said o)) (blocks_plain (trace a.seat) (Acquire r s) refl i)

    pub close_in_order : {ends : P → Exit → Bool → P → Type 0} {x : Exit} {a b : Seen P} {s : ℕ} (c : ClosesScope ends a s x b) → ((r j : ℕ) → Covers b.seat.events j a.seat.by r → may r) → IsInBlocks may due [] (trace a.seat) → IsInBlocks may due [] (trace b.seat)
    close_in_order {x = x} {a = a} {s = s} c h i = subst (λ E. IsInBlocks may due [] E) (sym (closed_said c)) (blocks_close (trace a.seat) s x (said c.torn.0) (picks_map (λ r m. h r m.0 m.1) (closed_picks c)) i)

    -- where the rows of the lease, latest first, are those that are due
    pub cancel_in_order : {ends : P → Exit → Bool → P → Type 0} {x : Exit} {a b : Seen P} {j : ℕ} {T : List ℕ} (c : Cancels ends a j T x b) → due j ≡ reverse T → IsInBlocks may due [] (trace a.seat) → IsInBlocks may due [] (trace b.seat)
    cancel_in_order {x = x} {a = a} {j = j} c e i =
        subst (λ E. IsInBlocks may due [] E) (sym (canceled_said c))
        (blocks_cancel (trace a.seat) j x (said c.left.0) (subst (λ l. Picks IsAny (firsts (said c.left.0)) l) (sym e) (released_picks c.left.2)) i)

-- an open scope is the first open scope from itself
pub first_is : {L : List Event} {k : StreamNo} {c q : ℕ} → ¬ (IsClosed L k c) → FirstOpen L k c q → q ≡ c
first_is n (this_one c m) = refl
first_is n (above_it c p q x o f) = absurd (n x)

-- a scope that was just closed is closed
pub closed_now : {P : Type 0} {ends : P → Exit → Bool → P → Type 0} {x : Exit} {a b : Seen P} {s : ℕ} → ClosesScope ends a s x b → IsClosed b.seat.events b.seat.by s
closed_now {x = x} {a = a} {b = b} {s = s} c =
    (s, same s, (x, in_noted b.seat.by (Close s x) b.seat.events (subst (λ E. IsAmong (Close s x) E) (sym (closed_said c)) (among_mid (trace a.seat) (finals x (said c.torn.0)) (Close s x)))))

no_length : {A : Type 0} (xs : List A) → length xs ≡ 0 → xs ≡ []
no_length [] e = refl
no_length (x ∷ xs) e = absurd (omega arith)

module _ {P : Type 0} where
  -- what the first calls of a tree say
  pub start_said : (v w : View P) → AtStart v → w ≡ v → trace w ≡ []
  start_said v w a e = ap trace e ∙ ap (own v.by) a.events

  pub open_number : {a b : Seen P} {c : ℕ} → trace a.seat ≡ [] → OpensScope a 0 c b → c ≡ 1
  open_number w o = o.number ∙ ap (λ E. length (opens E) + 1) w

  pub open_one : {a b : Seen P} {c : ℕ} → trace a.seat ≡ [] → OpensScope a 0 c b → trace b.seat ≡ Open 1 0 ∷ []
  open_one {a = a} {c = c} w o = opened_said o ∙ ap (λ E. E ++ Open c o.parent ∷ []) w ∙ ap (λ n. Open c n ∷ []) (first_is (all_open a.seat 0 (ap closes w) (inl refl)).1 o.nearest) ∙ ap (λ n. Open n 0 ∷ []) (open_number w o)

  pub acquire_more : {a b : Seen P} {s r : ℕ} {p : P} {E : List What} → trace a.seat ≡ E → AcquiresRow a s r p b → trace b.seat ≡ E ++ Acquire r s ∷ []
  acquire_more {s = s} {r = r} w o = acquired_said o ∙ ap (λ E. E ++ Acquire r s ∷ []) w

  -- where nothing is owed nothing is open
  pub none_owed : (v : View P) → owed v ≡ 0 → v.opened ≡ []
  none_owed v e = no_length v.opened (omega (e, arith))
