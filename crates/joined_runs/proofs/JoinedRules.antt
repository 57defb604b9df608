-- The rules of a ledger that an outer stream and the streams that it gives share.
use Rattle.std.proofs.Common.{◌≡◌, ℕ, zero, suc, ◌+◌, ◌<◌, ◌≤◌, Bool, nat_eq, List, [], ◌∷◌, ◌++◌, map, flat_map, length, Option, Some, None, refl, sym, ◌∙◌, ap, subst, ⊎_elim, arith, length-append}
use Rattle.std.proofs.lemmas.Bool.{cases_lt}
use Rattle.std.specs.List.{AllByRecursion}
use Rattle.chunk_core.specs.Lists.{IsAmong}
use Rattle.chunk_core.specs.Lists.IsAmong.{here, there}
use Rattle.chunk_core.specs.Outcomes.{Outcomes}
use Rattle.chunk_core.specs.declared.code.Exit.{Exit}
use Rattle.chunk_core.specs.declared.code.How.{How}
use Rattle.chunk_core.proofs.Each.{each_among}
use Rattle.chunk_core.proofs.Members.{among_mid}
use Rattle.res_ledger.specs.declared.event.StreamNo.{StreamNo}
use Rattle.res_ledger.specs.declared.event.StreamNo.TheVariants.{Inner, Outer}
use Rattle.res_ledger.specs.declared.event.What.{What}
use Rattle.res_ledger.specs.declared.event.What.TheVariants.{Acquire, Cancel, Final, Lease}
use Rattle.res_ledger.specs.declared.event.Event.{Event}
use Rattle.res_ledger.specs.Ledger.{IsAcquired, Notes}
use Rattle.res_ledger.specs.Own.{opens, own}
use Rattle.res_ledger.proofs.Prefixes.{split_append, split_at}
use Rattle.device_port.specs.Device.{DeviceTold}
use Rattle.run_rules.specs.Facts.{at, leased_stream}
use Rattle.run_rules.specs.Rules.{ClosesBeforeLeaving, HaveScopes, IsOurs, KeepsRules}
use Rattle.run_rules.specs.Work.{Opener, Stream, Values, Work, names_from, names_of, opener_places, owners_from, owners_of, scopes_by}
use Rattle.plan_work.specs.Joined.{joined, places_in}
use Rattle.joined_runs.specs.Shares.{AreTablesKept, ClosesRootBelow, IsJoinedLedger, IsOuterNote}
use Rattle.joined_runs.proofs.Lending.{few_opened, lends}
use Rattle.joined_runs.proofs.MadeRows.{at_some}
use Rattle.joined_runs.proofs.RowAccounts.{AreRowsKept}
use Rattle.joined_runs.proofs.RowPlaces.{owner_left}

-- whose the rows are: those of the outer stream come first
abbrev pub owners_in : Opener → List Stream → List StreamNo
owners_in opener streams = map (λ p. Outer) (opener_places opener) ++ owners_from 0 streams

-- what the streams noted, each of rows of its own, and of rows of tables that it was the last to leave
pub record AreSharesKept (opener : Opener) (streams : List Stream) (w : ℕ → DeviceTold) (L : List Event) : Type 0 where
  pub acquired : (k r s : ℕ) → k < length streams → Notes L (Inner k) (Acquire r s) → (r < length (places_in opener streams)) × ((w r).opens ≡ 1) × (at (owners_in opener streams) r ≡ Some (Inner k))
  pub each : (r : ℕ) → length (opener_places opener) ≤ r → r < length (places_in opener streams) → (w r).opens ≡ 1 → IsAcquired L r
  pub ended : (k r : ℕ) (x : Exit) (ok : Bool) → k < length streams → Notes L (Inner k) (Final r x ok) → ((w r).exit ≡ Some x) × (ok ≡ nat_eq (w r).close_faults 0)
  pub leases : (k : ℕ) (e : Event) → k < length streams → IsAmong e L → e.by ≡ Inner k → leased_stream e.what ≡ None
  pub opened : (k : ℕ) (s : Stream) → at streams k ≡ Some s → length (opens (own (Inner k) L)) ≤ s.scopes
  pub leaves : (k : ℕ) (e : Event) (j : ℕ) (x : Exit) → k < length streams → IsAmong e L → e.by ≡ Inner k → e.what ≡ Cancel j x → (j ≡ k) × ClosesRootBelow e.stamp L (Inner k)

-- the streams' names, in order
pub name_among : (j i k : ℕ) (ss : List Stream) → k ≡ j + i → i < length ss → IsAmong (Inner k) (names_from j ss)
name_among j i k [] is l = absurd (omega (arith, l))
name_among j zero k (s ∷ ss) is l = let same : j ≡ k = omega (arith, is) in subst (λ n. IsAmong (Inner n) (Inner j ∷ names_from (suc j) ss)) same (here (names_from (suc j) ss))
name_among j (suc i) k (s ∷ ss) is l = there (Inner j) (name_among (suc j) i k ss (omega (arith, is)) (omega (arith, l)))

-- what holds of each stream holds of each name
each_name : (P : StreamNo → Type 0) (j : ℕ) (ss : List Stream) → ((i : ℕ) → i < length ss → P (Inner (j + i))) → AllByRecursion P (names_from j ss)
each_name P j [] h = tt
each_name P j (s ∷ ss) h =
    let first : j + 0 ≡ j = omega arith in
    (subst (λ i. P (Inner i)) first (h 0 (omega arith)), each_name P (suc j) ss (λ i l. let next : j + suc i ≡ suc j + i = omega arith in subst (λ k. P (Inner k)) next (h (suc i) (omega arith))))

same_inner : (j k : ℕ) → Inner j ≡ Inner k → j ≡ k
same_inner j k e = cc

pub not_outer : (k : ℕ) → Outer ≡ Inner k → ⊥
not_outer k e = cc

-- who leases nothing leases for no stream
pub none_leased : (v : What) (j s : ℕ) → leased_stream v ≡ None → v ≡ Lease j s → ⊥
none_leased v j s none is = let x : Some j ≡ None = ap leased_stream (sym is) ∙ none in cc

module _ (opener : Opener) (streams : List Stream) (runs ideal : ℕ → Values → (ℕ → DeviceTold) → Outcomes) (listing ideal_listing : DeviceTold → Outcomes) (w : ℕ → DeviceTold) (how : How) (L : List Event)
    (a : IsJoinedLedger opener (length streams) how L) (t : AreTablesKept (length (opener_places opener)) w L) (k : AreSharesKept opener streams w L) where
  abbrev work : Work
  work = joined opener streams runs ideal listing ideal_listing

  abbrev n : ℕ
  n = length streams

  abbrev count : ℕ
  count = length (places_in opener streams)

  -- whose an event is
  by_whom : (P : StreamNo → Type 0) (e : Event) → IsAmong e L → (e.by ≡ Outer → P Outer) → ((j : ℕ) → j < n → e.by ≡ Inner j → P (Inner j)) → P e.by
  by_whom P e i p q = ⊎_elim (λ o. subst P (sym o) (p o)) (λ x. subst P (sym x.2) (q x.0 x.1 x.2)) (a.names e i)

  -- the rows of the outer stream are rows
  outer_row : (r : ℕ) → r < length (opener_places opener) → r < count
  outer_row r l = let sum = length-append (opener_places opener) (flat_map (λ (s : Stream). s.places) streams) in omega (arith, l, sum)

  acquired : (q : StreamNo) (r s : ℕ) → Notes L q (Acquire r s) → (r < count) × ((w r).opens ≡ 1)
  acquired q r s m =
      by_whom (λ b. (r < count) × ((w r).opens ≡ 1)) m.0 m.1
      (λ o. let x : IsOuterNote (length (opener_places opener)) n how (Acquire r s) = subst (λ v. IsOuterNote (length (opener_places opener)) n how v) m.3 (a.outer_notes m.0 m.1 o) in (outer_row r x, t.acquired r s (m.0, m.1, o, m.3)))
      (λ j l o. let x = k.acquired j r s l (m.0, m.1, o, m.3) in (x.0, x.1))

  each : (r : ℕ) → r < count → (w r).opens ≡ 1 → IsAcquired L r
  each r l o = ⊎_elim (λ (b : r < length (opener_places opener)). (let x = t.each r b o in (Outer, x.0, x.1))) (λ (b : length (opener_places opener) ≤ r). k.each r b l o) (cases_lt r (length (opener_places opener)))

  ended : (q : StreamNo) (r : ℕ) (x : Exit) (ok : Bool) → Notes L q (Final r x ok) → ((w r).exit ≡ Some x) × (ok ≡ nat_eq (w r).close_faults 0)
  ended q r x ok m =
      by_whom (λ b. ((w r).exit ≡ Some x) × (ok ≡ nat_eq (w r).close_faults 0)) m.0 m.1
      (λ o. t.ended r x ok (m.0, m.1, o, m.3))
      (λ j l o. k.ended j r x ok l (m.0, m.1, o, m.3))

  pub rows_kept : AreRowsKept count w L
  rows_kept = record { legal = a.legal; complete = a.complete; acquired = acquired; each = each; ended = ended }

  -- so may b note what e says
  abbrev IsOursBy : Event → StreamNo → Type 0
  IsOursBy e b = IsAmong b (names_of work) × ((j s : ℕ) → e.what ≡ Lease j s → (b ≡ Outer) × (j < n)) × ((r s : ℕ) → e.what ≡ Acquire r s → at (owners_of work) r ≡ Some b)

  ours : (e : Event) → IsAmong e L → IsOurs work e
  ours e i =
      let x = by_whom (IsOursBy e) e i
      (λ o. (
        here (names_from 0 streams),
        (λ j s v. let y : IsOuterNote (length (opener_places opener)) n how (Lease j s) = subst (λ z. IsOuterNote (length (opener_places opener)) n how z) v (a.outer_notes e i o) in (refl, y)),
        (λ r s v. let y : IsOuterNote (length (opener_places opener)) n how (Acquire r s) = subst (λ z. IsOuterNote (length (opener_places opener)) n how z) v (a.outer_notes e i o) in owner_left Outer (opener_places opener) (owners_from 0 streams) r y),
      ))
      (λ j l o. (
        there Outer (name_among 0 j j streams (omega arith) l),
        (λ m s v. absurd (none_leased e.what m s (k.leases j e l i o) v)),
        (λ r s v. (k.acquired j r s l (e, i, o, v)).2),
      )) in
      record { by = x.0; leases = x.1; owns = x.2 }

  scopes : HaveScopes work L
  scopes = (
    few_opened opener n L a.order,
    each_name (λ q. length (opens (own q L)) ≤ scopes_by work q) 0 streams (λ i l.
        let s = at_some streams i l in
        let same : i ≡ 0 + i = omega arith in
        subst (λ j. length (opens (own (Inner j) L)) ≤ scopes_by work (Inner j)) same
        (subst (λ (o : Option Stream). length (opens (own (Inner i) L)) ≤ elim o [ Some s ↦ s.scopes | None ↦ 0 ]) (sym s.1) (k.opened i s.0 s.1))),
  )

  -- what has a lower stamp stands before
  stands_before : (P Q : List Event) (e f : Event) → L ≡ P ++ e ∷ Q → IsAmong f L → f.stamp < e.stamp → IsAmong f P
  stands_before P Q e f is i less =
      let parts = split_at f L i in
      let at_f = a.stamped parts.0 parts.1 f parts.2 in
      let at_e = a.stamped P Q e is in
      ⊎_elim
      (λ x. subst (λ l. IsAmong f l) (sym x.1) (among_mid parts.0 x.0 f))
      (λ x. let long = ap length x.1 in let sum = length-append P x.0 in absurd (omega (arith, at_f, at_e, less, long, sum)))
      (split_append P (e ∷ Q) parts.0 parts.1 f (sym is ∙ parts.2))

  leaving : ClosesBeforeLeaving L
  leaving P Q e j x is by what =
      let i : IsAmong e L = subst (λ l. IsAmong e l) (sym is) (among_mid P Q e) in
      ⊎_elim
      (λ o. absurd (not_outer j (sym o ∙ by)))
      (λ m.
      let c = k.leaves m.0 e j x m.1 i m.2 what in
      let f = c.1 in
      (f.1, (f.0, stands_before P Q e f.0 is f.2 f.5, f.3 ∙ ap (λ z. Inner z) (sym c.0), f.4)))
      (a.names e i)

  pub keeps_rules : KeepsRules work L
  keeps_rules = record {
    stamped = a.stamped;
    legal = a.legal;
    complete = a.complete;
    ordered = a.ordered;
    ours = each_among (IsOurs work) L ours;
    scopes = scopes;
    leaving = leaving;
    given = record { order = a.order; tables = lends opener n L a.order a.legal; pace = a.paced };
  }
