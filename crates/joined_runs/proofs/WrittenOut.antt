-- How a ledger that is written out, of an outer stream and the streams that it gives, is judged.
use Rattle.std.proofs.Common.{◌≡◌, ◌⊎◌, ℕ, zero, suc, ◌+◌, ◌<◌, ◌≤◌, Bool, true, false, ◌&&◌, not, nat_eq, if◌then◌else◌, List, [], ◌∷◌, ◌++◌, inr, Some, None, count_by, refl, sym, ◌∙◌, ap, subst, ⊎_elim, length, arith}
use Rattle.std.specs.List.{list_any as any, list_all as all, AllByRecursion, range_with_len}
use Rattle.std.proofs.lemmas.Bool.{false≢true}
use Rattle.std.proofs.lemmas.List.Sums.{count_by-le-length}
use Rattle.chunk_core.specs.Lists.{IsAmong}
use Rattle.chunk_core.specs.Outcomes.{exit_of}
use Rattle.chunk_core.specs.declared.code.Exit.TheVariants.{Succeeded}
use Rattle.chunk_core.specs.declared.code.How.{How}
use Rattle.chunk_core.proofs.Bools.{all_at, any_found, both, number}
use Rattle.chunk_core.proofs.Each.{among_each}
use Rattle.chunk_core.proofs.Members.{among_mid}
use Rattle.res_ledger.specs.declared.event.StreamNo.{StreamNo}
use Rattle.res_ledger.specs.declared.event.StreamNo.TheVariants.{Inner, Outer}
use Rattle.res_ledger.specs.declared.event.What.{What}
use Rattle.res_ledger.specs.declared.event.What.TheVariants.{Acquire, Cancel, Close, Final, Lease, Open}
use Rattle.res_ledger.specs.declared.event.Event.{Event}
use Rattle.res_ledger.specs.Judge.{each_after, is_complete, is_legal}
use Rattle.res_ledger.specs.Ledger.{Notes, NotesClose}
use Rattle.res_ledger.specs.Order.{is_ordered, same_exit}
use Rattle.res_ledger.specs.Own.{opens, own}
use Rattle.res_ledger.specs.Streams.{same_stream}
use Rattle.res_ledger.specs.Whole.{is_cancel}
use Rattle.res_ledger.proofs.Judged.{complete_sound, each_event, legal_sound}
use Rattle.res_ledger.proofs.Ledgers.{inner_is}
use Rattle.res_ledger.proofs.Ordering.{ordered_sound}
use Rattle.res_ledger.proofs.Permuted.{range_among}
use Rattle.res_ledger.proofs.Stamps.{stamped_sound}
use Rattle.res_ledger.proofs.Tests.{exit_is, name}
use Rattle.device_port.specs.Device.{DeviceTold}
use Rattle.run_rules.specs.Facts.{first_numbers, has_event, holds_number, leased_stream, root_exit}
use Rattle.run_rules.specs.Pace.{IsAnnounced, LeasesAhead, LeasesInOrder, is_active, is_standing}
use Rattle.run_rules.specs.Giving.{GivesInOrder}
use Rattle.run_rules.specs.Work.{Opener, opener_places}
use Rattle.joined_runs.specs.Shares.{ClosesRootBelow, IsJoinedLedger, IsOuterNote, IsShare}

-- the outer stream leased for k
abbrev leases_it : ℕ → Event → Bool
leases_it k e = same_stream e.by Outer && holds_number (leased_stream e.what) k

-- the outer stream closed its root as succeeded
abbrev closes_well : Event → Bool
closes_well e = same_stream e.by Outer && elim (root_exit e.what) [ Some x ↦ same_exit x Succeeded | None ↦ false ]

-- before each event of stream k the outer one leased for it, and closed its root
abbrev pub is_ahead : List Event → Event → Bool
is_ahead P e = elim e.by [ Outer ↦ true | Inner k ↦ any (leases_it k) P && any closes_well P ]

-- before each lease there are those for the streams before its own
abbrev pub is_next : List Event → Event → Bool
is_next P e = elim (leased_stream e.what) [ Some j ↦ all (λ i. any (λ x. holds_number (leased_stream x.what) i) P) (first_numbers j) | None ↦ true ]

lease_of : (k : ℕ) (v : What) → holds_number (leased_stream v) k ≡ true → (s : ℕ) × (v ≡ Lease k s)
lease_of k (Lease j s) e = (s, ap (λ i. Lease i s) (number j k e))
lease_of k v e = absurd (false≢true e)

root_of : (v : What) → elim (root_exit v) [ Some x ↦ same_exit x Succeeded | None ↦ false ] ≡ true → v ≡ Close 0 Succeeded
root_of (Close s x) e = zero_if (nat_eq s 0) refl e
  where
    zero_if : (b : Bool) → nat_eq s 0 ≡ b → elim (if b then Some x else None) [ Some y ↦ same_exit y Succeeded | None ↦ false ] ≡ true → Close s x ≡ Close 0 Succeeded
    zero_if true q t = ap (λ k. Close k x) (number s 0 q) ∙ ap (λ y. Close 0 y) (exit_is x Succeeded t)
    zero_if false q t = absurd (false≢true t)
root_of v e = absurd (false≢true e)

announced : (P : List Event) (k : ℕ) → (any (leases_it k) P && any closes_well P) ≡ true → IsAnnounced P k
announced P k t =
    let b = both (any (leases_it k) P) (any closes_well P) t in
    let l = any_found (leases_it k) P b.0 in
    let m = both (same_stream l.0.by Outer) (holds_number (leased_stream l.0.what) k) l.2 in
    let c = any_found closes_well P b.1 in
    let d = both (same_stream c.0.by Outer) (elim (root_exit c.0.what) [ Some x ↦ same_exit x Succeeded | None ↦ false ]) c.2 in
    let s = lease_of k l.0.what m.1 in
    record { lease = (s.0, (l.0, l.1, name l.0.by Outer m.0, s.1)); next = inr (c.0, c.1, name c.0.by Outer d.0, root_of c.0.what d.1) }

ahead : (L : List Event) → each_after is_ahead [] L ≡ true → LeasesAhead L
ahead L h P Q e k is by = announced P k (subst (λ (q : StreamNo). elim q [ Outer ↦ true | Inner k ↦ any (leases_it k) P && any closes_well P ] ≡ true) by (each_event is_ahead L P Q e h is))

in_order : (L : List Event) → each_after is_next [] L ≡ true → LeasesInOrder L
in_order L h P Q e i j s is what l =
    let those : all (λ k. any (λ x. holds_number (leased_stream x.what) k) P) (first_numbers j) ≡ true = subst (λ v. elim (leased_stream v) [ Some j ↦ all (λ k. any (λ x. holds_number (leased_stream x.what) k) P) (first_numbers j) | None ↦ true ] ≡ true) what (each_event is_next L P Q e h is) in
    let f = any_found (λ (x : Event). holds_number (leased_stream x.what) i) P (all_at (λ k. any (λ x. holds_number (leased_stream x.what) k) P) i (first_numbers j) (range_among 0 j i (omega arith) (omega (arith, l))) those) in
    let v = lease_of i f.0.what f.2 in
    (f.0.by, v.0, (f.0, f.1, refl, v.1))

numbers_count : (a n : ℕ) → length (range_with_len a n) ≡ n
numbers_count a zero = refl
numbers_count a (suc n) = ap suc (numbers_count (a + 1) n)

-- no more of the first numbers pass than there are
few_pass : (p : ℕ → Bool) (n m : ℕ) → n ≤ m → count_by p (first_numbers n) ≤ m
few_pass p n m l = let few = count_by-le-length p (first_numbers n) in let all = numbers_count 0 n in omega (arith, few, all, l)

-- an event is by the outer stream, or by one of n streams
abbrev pub IsByOne : ℕ → Event → Type 0
IsByOne n e = (e.by ≡ Outer) ⊎ ((k : ℕ) × (k < n) × (e.by ≡ Inner k))

module _ (opener : Opener) (n : ℕ) (how : How) (L : List Event) where
  -- what the outer stream may note
  abbrev IsNote : What → Type 0
  IsNote w = IsOuterNote (length (opener_places opener)) n how w

  -- a ledger that is written out, of an outer stream and of no more streams than may be open, is judged by its tests
  pub account_of : n ≤ opener.max_open → AllByRecursion (IsByOne n) L → AllByRecursion (λ e. e.by ≡ Outer → IsNote e.what) L → NotesClose L Outer 0 → GivesInOrder opener n L
      → each_after (λ P e. nat_eq e.stamp (length P)) [] L ≡ true → is_legal L ≡ true → is_complete L ≡ true → is_ordered L ≡ true → each_after is_ahead [] L ≡ true → each_after is_next [] L ≡ true → IsJoinedLedger opener n how L
  account_of wide by outer_notes root order in_place legal complete ordered before behind =
      let names : (e : Event) → IsAmong e L → IsByOne n e = λ e i. among_each (IsByOne n) e L by i in
      let notes : (e : Event) → IsAmong e L → e.by ≡ Outer → IsNote e.what = λ e i b. among_each (λ (x : Event). x.by ≡ Outer → IsNote x.what) e L outer_notes i b in
      record {
        stamped = stamped_sound L L refl in_place;
        legal = legal_sound L legal;
        complete = complete_sound L (legal_sound L legal) complete;
        ordered = ordered_sound L ordered;
        order = order;
        paced = record {
          ahead = ahead L before;
          within = λ P Q e is. few_pass (is_active P e) n opener.max_open wide;
          leases = in_order L behind;
          waits = λ P Q e is. few_pass (is_standing (P ++ e ∷ [])) n (opener.max_open + 1) (omega (arith, wide));
          begins = λ P Q e k is b. below k (names e (stands P Q e is)) b (few_pass (λ i. not (has_event (is_cancel i) P)) k k (omega arith));
        };
        names = names;
        outer_notes = notes;
        root = root;
      }
    where
      stands : (P Q : List Event) (e : Event) → L ≡ P ++ e ∷ Q → IsAmong e L
      stands P Q e is = subst (λ l. IsAmong e l) (sym is) (among_mid P Q e)

      below : {m : ℕ} {q : StreamNo} (k : ℕ) → (q ≡ Outer) ⊎ ((j : ℕ) × (j < n) × (q ≡ Inner j)) → q ≡ Inner k → m ≤ k → m < opener.max_open
      below k x b few = ⊎_elim (λ o. absurd (let y : Outer ≡ Inner k = sym o ∙ b in let z : ⊥ = cc in z)) (λ i. let j_is = inner_is i.0 k (sym i.2 ∙ b) in let l = i.1 in omega (arith, l, j_is, few, wide)) x

module _ (k from to scopes : ℕ) (w : ℕ → DeviceTold) (how : How) (L : List Event) where
  -- what stream k notes with this stamp
  abbrev pub IsInnerNote : ℕ → What → Type 0
  IsInnerNote n (Acquire r s) = (from ≤ r) × (r < to) × ((w r).opens ≡ 1)
  IsInnerNote n (Final r x ok) = ((w r).exit ≡ Some x) × (ok ≡ nat_eq (w r).close_faults 0)
  IsInnerNote n (Close zero x) = x ≡ exit_of how
  IsInnerNote n (Close (suc s) x) = Unit {0}
  IsInnerNote n (Cancel j x) = (j ≡ k) × (x ≡ exit_of how) × ClosesRootBelow n L (Inner k)
  IsInnerNote n (Open s p) = Unit {0}
  IsInnerNote n (Lease j s) = ⊥

  none_leased : (n : ℕ) (v : What) → IsInnerNote n v → leased_stream v ≡ None
  none_leased n (Lease j s) h = absurd h
  none_leased n v h = refl

  pub share_of : length (opens (own (Inner k) L)) ≤ scopes → AllByRecursion (λ e. e.by ≡ Inner k → IsInnerNote e.stamp e.what) L → ((r : ℕ) → from ≤ r → r < to → (w r).opens ≡ 1 → (s : ℕ) × Notes L (Inner k) (Acquire r s)) → NotesClose L (Inner k) 0 → IsShare k from to scopes w how L
  share_of few outer_notes each closed =
      let word : (e : Event) → IsAmong e L → e.by ≡ Inner k → IsInnerNote e.stamp e.what = λ e i b. among_each (λ (x : Event). x.by ≡ Inner k → IsInnerNote x.stamp x.what) e L outer_notes i b in
      record {
        opened = few;
        leases = λ e i b. none_leased e.stamp e.what (word e i b);
        acquired = λ r s n. subst (λ v. IsInnerNote n.0.stamp v) n.3 (word n.0 n.1 n.2);
        each = each;
        ended = λ r x ok n. subst (λ v. IsInnerNote n.0.stamp v) n.3 (word n.0 n.1 n.2);
        closed = closed;
        exits = λ x n. subst (λ v. IsInnerNote n.0.stamp v) n.3 (word n.0 n.1 n.2);
        leaves = λ e j x i b v. subst (λ y. IsInnerNote e.stamp y) v (word e i b);
      }
