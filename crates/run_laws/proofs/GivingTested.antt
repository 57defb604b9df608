-- The tests of what the outer stream gives are exact.
use Rattle.std.proofs.Common.{◌≡◌, ℕ, ◌<◌, Bool, true, false, ◌&&◌, ◌||◌, not, nat_eq, List, [], ◌∷◌, ◌++◌, length, flat_map, Option, Some, None, IfSome, refl, sym, ap, ◌∙◌, subst}
use Rattle.std.specs.Prelude.{take}
use Rattle.std.specs.Bool.{Decides}
use Rattle.std.specs.List.{list_all as all, AllByRecursion}
use Rattle.std.proofs.lemmas.Bool.{false≢true}
use Rattle.chunk_core.specs.Lists.{IsAmong, has}
use Rattle.chunk_core.specs.Lists.IsAmong.{here}
use Rattle.chunk_core.specs.Outcomes.{Outcomes}
use Rattle.chunk_core.specs.declared.code.Exit.{Exit}
use Rattle.chunk_core.specs.declared.code.How.{How}
use Rattle.chunk_core.proofs.Bools.{has_in, in_has}
use Rattle.chunk_core.proofs.Each.{among_each}
use Rattle.res_ledger.specs.declared.event.Event.{Event}
use Rattle.res_ledger.specs.declared.event.StreamNo.TheVariants.{Outer}
use Rattle.res_ledger.specs.declared.event.What.{What}
use Rattle.res_ledger.specs.declared.event.What.TheVariants.{Open, Acquire, Lease, Cancel, Close, Final}
use Rattle.res_ledger.specs.Judge.{each_after, is_complete, is_leased, is_legal}
use Rattle.res_ledger.specs.Ledger.{Covers, IsLeased, IsLegal, Notes}
use Rattle.res_ledger.specs.Order.{covered_by, is_ordered, same_exit}
use Rattle.res_ledger.specs.Own.{leased_of, own}
use Rattle.res_ledger.proofs.Judged.{complete_sound, legal_sound}
use Rattle.res_ledger.proofs.Leases.{covered_by_found, covered_by_sound}
use Rattle.res_ledger.proofs.Ledgers.{covers_leased}
use Rattle.res_ledger.proofs.Noted.{flat_holds, leased_notes, notes_own}
use Rattle.res_ledger.proofs.Ordering.{ordered_sound}
use Rattle.res_ledger.proofs.Stamps.{stamped_sound}
use Rattle.res_ledger.proofs.Tests.{exit_is, exit_same}
use Rattle.device_port.specs.Device.{DeviceTold}
use Rattle.run_rules.specs.Facts.{IsOver, first_numbers}
use Rattle.run_rules.specs.Giving.{GivesAll, GivesInOrder, givings, giving_all}
use Rattle.run_rules.specs.Homes.{is_tried}
use Rattle.run_rules.specs.Opening.{AreTablesRead, AreUntried, IsListed, IsOuterEnd, OuterHasRun}
use Rattle.run_rules.specs.Rules.{HaveScopes, IsGiven, IsGivenBy, IsOurs, KeepsRules, LendsTables}
use Rattle.run_rules.specs.Work.{Opener, RunRecord, Work, all_parts, is_lent, list_row, opener_places, rows_up_to, streams_before}
use Rattle.run_laws.specs.GivingTests.{are_lent, are_same, gives_all, gives_in_order, is_front_of, is_given_by, is_given_well, is_its_turn, lends_tables, same_flag, same_what, takes_turns}
use Rattle.run_laws.specs.LedgerTests.{is_leaving_closed, is_ours, is_paced}
use Rattle.run_laws.specs.Laws.{TakesTurns}
use Rattle.run_laws.proofs.Deciding.{Decides-to, all_so, always, and_so, each_so, first_so, flag, if_so, same_number}
use Rattle.run_laws.proofs.Tested.{leased_so, leaving_so, one_lease, ours_so, paced_so}

-- Notes one by one.

same_exit_so : (x y : Exit) → Decides (same_exit x y) (x ≡ y)
same_exit_so x y = (λ h. exit_is x y h, λ e. subst (λ z. same_exit x z ≡ true) e (exit_same x))

same_flag_so : (a b : Bool) → Decides (same_flag a b) (a ≡ b)
same_flag_so true b = (λ h. sym h, λ e. sym e)
same_flag_so false true = (λ h. absurd (false≢true h), λ e. absurd (false≢true e))
same_flag_so false false = (λ h. refl, λ e. refl)

pub same_what_so : (v w : What) → Decides (same_what v w) (v ≡ w)
same_what_so (Open s p) (Open t q) = Decides-to (nat_eq s t && nat_eq p q) (λ e. ap (λ x. Open x p) e.0 ∙ ap (λ y. Open t y) e.1) (λ e. (cc, cc)) (and_so (nat_eq s t) (nat_eq p q) (same_number s t) (same_number p q))
same_what_so (Acquire r s) (Acquire q t) = Decides-to (nat_eq r q && nat_eq s t) (λ e. ap (λ x. Acquire x s) e.0 ∙ ap (λ y. Acquire q y) e.1) (λ e. (cc, cc)) (and_so (nat_eq r q) (nat_eq s t) (same_number r q) (same_number s t))
same_what_so (Lease j s) (Lease k t) = Decides-to (nat_eq j k && nat_eq s t) (λ e. ap (λ x. Lease x s) e.0 ∙ ap (λ y. Lease k y) e.1) (λ e. (cc, cc)) (and_so (nat_eq j k) (nat_eq s t) (same_number j k) (same_number s t))
same_what_so (Cancel j x) (Cancel k y) = Decides-to (nat_eq j k && same_exit x y) (λ e. ap (λ i. Cancel i x) e.0 ∙ ap (λ z. Cancel k z) e.1) (λ e. (cc, cc)) (and_so (nat_eq j k) (same_exit x y) (same_number j k) (same_exit_so x y))
same_what_so (Close s x) (Close t y) = Decides-to (nat_eq s t && same_exit x y) (λ e. ap (λ i. Close i x) e.0 ∙ ap (λ z. Close t z) e.1) (λ e. (cc, cc)) (and_so (nat_eq s t) (same_exit x y) (same_number s t) (same_exit_so x y))
same_what_so (Final r x a) (Final q y b) = Decides-to (nat_eq r q && (same_exit x y && same_flag a b)) (λ e. ap (λ i. Final i x a) e.0 ∙ (ap (λ z. Final q z a) e.1.0 ∙ ap (λ c. Final q y c) e.1.1)) (λ e. (cc, (cc, cc)))
    (and_so (nat_eq r q) (same_exit x y && same_flag a b) (same_number r q) (and_so (same_exit x y) (same_flag a b) (same_exit_so x y) (same_flag_so a b)))
same_what_so v w = (λ h. absurd (false≢true h), λ e. let n : ⊥ = cc in absurd n)

-- the second list begins with the first
abbrev IsFrontOf : List What → List What → Type 0
IsFrontOf xs ys = (rest : List What) × (xs ++ rest ≡ ys)

cons_front : (x y : What) (xs ys : List What) → (x ≡ y) × IsFrontOf xs ys → IsFrontOf (x ∷ xs) (y ∷ ys)
cons_front x y xs ys f = (f.1.0, ap (λ z. z ∷ (xs ++ f.1.0)) f.0 ∙ ap (λ l. y ∷ l) f.1.1)

front_cons : (x y : What) (xs ys : List What) → IsFrontOf (x ∷ xs) (y ∷ ys) → (x ≡ y) × IsFrontOf xs ys
front_cons x y xs ys f = let e = f.1 in (cc, (f.0, cc))

pub front_so : (xs ys : List What) → Decides (is_front_of xs ys) (IsFrontOf xs ys)
front_so [] ys = (λ h. (ys, refl), λ f. refl)
front_so (x ∷ xs) [] = (λ h. absurd (false≢true h), λ f. let e = f.1 in let n : ⊥ = cc in absurd n)
front_so (x ∷ xs) (y ∷ ys) = Decides-to (is_front_of (x ∷ xs) (y ∷ ys)) (cons_front x y xs ys) (front_cons x y xs ys) (and_so (same_what x y) (is_front_of xs ys) (same_what_so x y) (front_so xs ys))

pub same_so : (xs ys : List What) → Decides (are_same xs ys) (xs ≡ ys)
same_so [] [] = (λ h. refl, λ e. refl)
same_so [] (y ∷ ys) = (λ h. absurd (false≢true h), λ e. let n : ⊥ = cc in absurd n)
same_so (x ∷ xs) [] = (λ h. absurd (false≢true h), λ e. let n : ⊥ = cc in absurd n)
same_so (x ∷ xs) (y ∷ ys) = Decides-to (are_same (x ∷ xs) (y ∷ ys)) (λ e. ap (λ z. z ∷ xs) e.0 ∙ ap (λ l. y ∷ l) e.1) (λ e. (cc, cc)) (and_so (same_what x y) (are_same xs ys) (same_what_so x y) (same_so xs ys))

module _ (o : Opener) (n : ℕ) (L : List Event) where
  pub order_so : Decides (gives_in_order o n L) (GivesInOrder o n L)
  order_so = front_so (givings L) (giving_all o n)

  pub all_given_so : Decides (gives_all o n L) (GivesAll o n L)
  all_given_so = same_so (givings L) (giving_all o n)

  -- Tables that are lent.

  -- the stream j is lent these rows, and no other
  abbrev AreLent : ℕ → List ℕ → Type 0
  AreLent j covered = ((r : ℕ) → r < length (opener_places o) → is_lent o n r j ≡ true → has r covered ≡ true) × ((r : ℕ) → IsAmong r covered → is_lent o n r j ≡ true)

  are_lent_so : (j : ℕ) (covered : List ℕ) → Decides (are_lent o n j covered) (AreLent j covered)
  are_lent_so j covered =
      and_so (all (λ r. not (is_lent o n r j) || has r covered) (first_numbers (length (opener_places o)))) (all (λ r. is_lent o n r j) covered)
      (first_so (λ r. not (is_lent o n r j) || has r covered) (λ r. is_lent o n r j ≡ true → has r covered ≡ true) (λ r. if_so (is_lent o n r j) (has r covered) (flag (is_lent o n r j)) (flag (has r covered))) (length (opener_places o)))
      (all_so (λ r. is_lent o n r j) (λ r. is_lent o n r j ≡ true) (λ r. flag (is_lent o n r j)) covered)

  module _ (legal : IsLegal L) where
    -- what the lease of the outer stream for j covers is covered by it
    covered : (j s r : ℕ) → Notes L Outer (Lease j s) → has r (covered_by L j) ≡ true → Covers L j Outer r
    covered j s r m h =
        let c = covered_by_sound L legal j r (has_in r (covered_by L j) h) in
        let b = covers_leased L j r c.0 c.1 in
        subst (λ k. Covers L j k r) (one_lease L j b.0 s c.0 Outer legal b.1 m) c.1

    pub lends_so : Decides (lends_tables o n L) (LendsTables o n L)
    lends_so = Decides-to (lends_tables o n L)
        (λ f. record {
          covers = λ j s r m l t. covered j s r m ((f (j, s) (among j s m)).0 r l t);
          only = λ j s r m c. (f (j, s) (among j s m)).1 r (covered_by_found L legal j r Outer c);
        })
        (λ t x i. (
          λ r l u. in_has r (covered_by L x.0) (covered_by_found L legal x.0 r Outer (t.covers x.0 x.1 r (leased_notes L Outer x i) l u)),
          λ r m. t.only x.0 x.1 r (leased_notes L Outer x i) (covered x.0 x.1 r (leased_notes L Outer x i) (in_has r (covered_by L x.0) m)),
        ))
        (all_so (λ x. are_lent o n x.0 (covered_by L x.0)) (λ x. AreLent x.0 (covered_by L x.0)) (λ x. are_lent_so x.0 (covered_by L x.0)) (flat_map leased_of (own Outer L)))
      where
        among : (j s : ℕ) → Notes L Outer (Lease j s) → IsAmong (j, s) (flat_map leased_of (own Outer L))
        among j s m = flat_holds leased_of (Lease j s) (own Outer L) (j, s) (notes_own L Outer (Lease j s) m) (here [])

    pub given_well_so : Decides (is_given_well o n L) (IsGiven o n L)
    given_well_so = Decides-to (is_given_well o n L) (λ t. record { order = t.0; tables = t.1.0; pace = t.1.1 }) (λ r. (r.order, (r.tables, r.pace)))
        (and_so (gives_in_order o n L) (lends_tables o n L && is_paced o.max_open n L) order_so (and_so (lends_tables o n L) (is_paced o.max_open n L) lends_so (paced_so o.max_open n L)))

pub given_by_so : (o : Option Opener) (n : ℕ) (L : List Event) → IsLegal L → Decides (is_given_by o n L) (IsGivenBy o n L)
given_by_so None n L legal = always
given_by_so (Some o) n L legal = given_well_so o n L legal

-- Rows that are tried in their turn.

abbrev IsItsTurn : Opener → ℕ → List Event → (ℕ → DeviceTold) → ℕ → Type 0
IsItsTurn o n L w r = is_tried (w r) ≡ true → (j : ℕ) → j < streams_before 0 0 (all_parts o n) r → IsLeased L j

pub turns_so : (o : Opener) (n : ℕ) (L : List Event) (w : ℕ → DeviceTold) → Decides (takes_turns o n L w) (TakesTurns o n L w)
turns_so o n L w = Decides-to (takes_turns o n L w) (λ f r j l t b. f r l t j b) (λ f r l t j b. f r j l t b)
    (first_so (is_its_turn o n L w) (IsItsTurn o n L w)
    (λ r. if_so (is_tried (w r)) (all (is_leased L) (first_numbers (streams_before 0 0 (all_parts o n) r))) (flag (is_tried (w r))) (first_so (is_leased L) (IsLeased L) (leased_so L) (streams_before 0 0 (all_parts o n) r)))
    (length (opener_places o)))

-- The outer stream has run, where all tables up to those of its part were read for each lease, and rows were tried in their turn.

abbrev pub IsReadFor : Opener → ℕ → RunRecord → (ℕ → DeviceTold) → ℕ → Type 0
IsReadFor o n c w j = AreTablesRead o c w 0 (take (rows_up_to 0 0 (all_parts o n) j) o.tables)

pub outer_by : {o : Opener} {A : DeviceTold → Outcomes} {n : ℕ} {c : RunRecord} {w : ℕ → DeviceTold} {h : How} → IsOuterEnd o A n c w h → AllByRecursion (λ (l : ℕ × ℕ). IsReadFor o n c w l.0) (flat_map leased_of (own Outer c.events)) → takes_turns o n c.events w ≡ true
    → IfSome o.list (λ l. is_tried (w (list_row o)) ≡ true → AreTablesRead o c w 0 o.tables) → IfSome o.list (λ l. IsListed l n c.events (w (list_row o))) → (o.most ≡ Some 0 → AreUntried w 0 (opener_places o) × ¬ (IsOver h)) → OuterHasRun o A n c w h
outer_by {o = o} {A = A} {n = n} {c = c} {w = w} {h = h} end read turns behind listed nobody = record {
  end = end;
  gives = λ j s m. among_each (λ (l : ℕ × ℕ). IsReadFor o n c w l.0) (j, s) (flat_map leased_of (own Outer c.events)) read (flat_holds leased_of (Lease j s) (own Outer c.events) (j, s) (notes_own c.events Outer (Lease j s) m) (here []));
  turns = (turns_so o n c.events w).0 turns;
  behind = behind;
  listed = listed;
  nobody = nobody;
}

-- the rules, where the tests pass
pub rules_by : (work : Work) (L : List Event) → each_after (λ P e. nat_eq e.stamp (length P)) [] L ≡ true → is_legal L ≡ true → is_complete L ≡ true → is_ordered L ≡ true → all (is_ours work) L ≡ true → HaveScopes work L → is_leaving_closed L ≡ true → is_given_by work.opener (length work.streams) L ≡ true
    → KeepsRules work L
rules_by work L stamped legal complete ordered ours scopes leaving given = record {
  stamped = stamped_sound L L refl stamped;
  legal = legal_sound L legal;
  complete = complete_sound L (legal_sound L legal) complete;
  ordered = ordered_sound L ordered;
  ours = (each_so (is_ours work) (IsOurs work) (ours_so work) L).0 ours;
  scopes = scopes;
  leaving = (leaving_so L).0 leaving;
  given = (given_by_so work.opener (length work.streams) L (legal_sound L legal)).0 given;
}
