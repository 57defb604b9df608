-- An outer stream that gives in its order lends each stream the rows that are lent to it, and opens no more scopes than it has parts for them.
use Rattle.std.proofs.Common.{◌≡◌, ℕ, zero, suc, ◌≤◌, true, if◌then◌else◌, List, [], ◌∷◌, ◌++◌, filter, length, inr, refl, sym, ◌∙◌, ap, subst, ⊎_elim, append_assoc, arith, length-append}
use Rattle.std.proofs.lemmas.Grind.{flat_map-append}
use Rattle.std.proofs.lemmas.List.Elements.{filter-append}
use Rattle.chunk_core.specs.Lists.{IsAmong}
use Rattle.chunk_core.specs.declared.code.Exit.TheVariants.{Succeeded}
use Rattle.chunk_core.proofs.Filters.{among_filter, filter_among}
use Rattle.res_ledger.specs.declared.event.StreamNo.TheVariants.{Outer}
use Rattle.res_ledger.specs.declared.event.What.{What}
use Rattle.res_ledger.specs.declared.event.What.TheVariants.{Open, Acquire, Lease, Cancel, Close, Final}
use Rattle.res_ledger.specs.declared.event.Event.{Event}
use Rattle.res_ledger.specs.Ledger.{Covers, IsClosed, IsLegal, IsUsable, LiesWithin, MayFollow, Notes}
use Rattle.res_ledger.specs.Ledger.LiesWithin.{same, below}
use Rattle.res_ledger.specs.Own.{opens, opens_of, own}
use Rattle.res_ledger.specs.Streams.{same_stream}
use Rattle.res_ledger.proofs.Noted.{notes_own, own_notes}
use Rattle.res_ledger.proofs.Prefixes.{split_at}
use Rattle.res_ledger.proofs.Scopes.{own_append}
use Rattle.run_rules.specs.Giving.{GivesInOrder, givings, is_giving}
use Rattle.run_rules.specs.Rules.{LendsTables}
use Rattle.run_rules.specs.Work.{Opener, is_lent, parts_of}
use Rattle.joined_runs.proofs.Giving.{StandsBeforeLease, all_open, before_any_lease}

-- what is given in a ledger was noted there, and the other way round
given_notes : (P : List Event) (w : What) → IsAmong w (givings P) → Notes P Outer w
given_notes P w i = own_notes P Outer w (among_filter is_giving w (own Outer P) i).0

notes_given : (P : List Event) (w : What) → is_giving w ≡ true → Notes P Outer w → IsAmong w (givings P)
notes_given P w is n = filter_among is_giving w (own Outer P) (notes_own P Outer w n) is

-- what is given in two ledgers, one behind the other
given_both : (P Q : List Event) → givings (P ++ Q) ≡ givings P ++ givings Q
given_both P Q = ap (filter is_giving) (own_append Outer P Q) ∙ filter-append is_giving (own Outer P) (own Outer Q)

-- the first event of a ledger gives a stream
lease_first : (e : Event) (Q : List Event) (j s : ℕ) → e.by ≡ Outer → e.what ≡ Lease j s → givings (e ∷ Q) ≡ Lease j s ∷ givings Q
lease_first e Q j s by what = ap (λ b. filter is_giving (if same_stream b Outer then e.what ∷ own Outer Q else own Outer Q)) by ∙ ap (λ w. filter is_giving (w ∷ own Outer Q)) what

module _ (o : Opener) (n : ℕ) (L : List Event) (order : GivesInOrder o n L) where
  -- what stands before a lease
  stands : (P Q : List Event) (e : Event) (j s : ℕ) → L ≡ P ++ e ∷ Q → e.by ≡ Outer → e.what ≡ Lease j s → StandsBeforeLease o n (givings P) j s
  stands P Q e j s is by what =
      let parts : givings L ≡ givings P ++ Lease j s ∷ givings Q = ap givings is ∙ (given_both P (e ∷ Q) ∙ ap (λ l. givings P ++ l) (lease_first e Q j s by what)) in
      before_any_lease o n j s (givings P) (givings Q ++ order.0) (sym order.1 ∙ (ap (λ l. l ++ order.0) parts ∙ append_assoc (givings P) (Lease j s ∷ givings Q) order.0))

  -- a scope that a usable one lies within isn't closed
  open_above : (P : List Event) (s t : ℕ) → IsUsable P Outer s → ((a : ℕ) → LiesWithin P Outer t a → LiesWithin P Outer s a) → ¬ (IsClosed P Outer t)
  open_above P s t usable up closed = usable.1 (closed.0, up closed.0 closed.1, closed.2)

  covers : IsLegal L → (j s r : ℕ) → Notes L Outer (Lease j s) → is_lent o n r j ≡ true → Covers L j Outer r
  covers legal j s r (e, i, by, what) lent =
      let at = split_at e L i in
      let P = at.0 in
      let may : MayFollow P Outer (Lease j s) = subst (λ w. MayFollow P Outer w) what (subst (λ k. MayFollow P k e.what) by (legal P at.1 e at.2)) in
      let row = (stands P at.1 e j s at.2 by what).covers r lent in
      let t = row.0 in
      let acquired : Notes P Outer (Acquire r t) = given_notes P (Acquire r t) row.1 in
      ⊎_elim
      (λ (z : t ≡ s). (P, at.1, e, s, at.2, by, what, (t, acquired, inr (subst (λ x. LiesWithin P Outer s x) (sym z) (same s)), open_above P s t may.2 (λ a w. subst (λ x. LiesWithin P Outer x a) z w))))
      (λ z.
      let opened : Notes P Outer (Open s t) = subst (λ x. Notes P Outer (Open s x)) (sym z.0) (given_notes P (Open s 0) z.1) in
      (P, at.1, e, s, at.2, by, what, (t, acquired, inr (below s t t opened (same t)), open_above P s t may.2 (λ a w. below s t a opened w))))
      row.2

  only : (j r : ℕ) → Covers L j Outer r → is_lent o n r j ≡ true
  only j r (P, Q, e, s, is, by, what, (t, acquired, there, unclosed)) =
      ⊎_elim
      (λ l. l)
      (λ c. absurd (unclosed (t, same t, (Succeeded, given_notes P (Close t Succeeded) c))))
      ((stands P Q e j s is by what).only r t (notes_given P (Acquire r t) refl acquired))

  -- each lease covers the rows that its stream is lent, and no other
  pub lends : IsLegal L → LendsTables o n L
  lends legal = record { covers = λ j s r k l lent. covers legal j s r k lent; only = λ j s r k c. only j r c }

-- nothing else opens a scope
opens_given : (E : List What) → opens (filter is_giving E) ≡ opens E
opens_given [] = refl
opens_given (Open s p ∷ E) = ap (λ l. (s, p) ∷ l) (opens_given E)
opens_given (Acquire r s ∷ E) = opens_given E
opens_given (Lease j s ∷ E) = opens_given E
opens_given (Cancel j x ∷ E) = opens_given E
opens_given (Close zero x ∷ E) = opens_given E
opens_given (Close (suc s) x ∷ E) = opens_given E
opens_given (Final r x ok ∷ E) = opens_given E

-- the outer stream opens no more scopes than it has parts for them
pub few_opened : (o : Opener) (n : ℕ) (L : List Event) → GivesInOrder o n L → length (opens (own Outer L)) ≤ length (parts_of o)
few_opened o n L order =
    let same_opens = ap length (opens_given (own Outer L)) in
    let both = ap length (flat_map-append opens_of (givings L) order.0) in
    let sum = length-append (opens (givings L)) (opens order.0) in
    let all = ap (λ E. length (opens E)) order.1 in
    let most = all_open o n in
    omega (arith, same_opens, both, sum, all, most)
