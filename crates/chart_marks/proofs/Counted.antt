-- An event that begins something has just one mark.
use Rattle.std.proofs.Common.{◌≡◌, ℕ, suc, ◌+◌, ◌<◌, Bool, true, false, cond, nat_eq, List, [], ◌∷◌, ◌++◌, Option, Some, None, refl, sym, ap, ◌∙◌, subst, length, length-append, arith}
use Rattle.std.specs.Prelude.{is_some}
use Rattle.std.specs.List.{count_by, sum_by}
use Rattle.std.proofs.lemmas.Bool.{false≢true}
use Rattle.std.proofs.lemmas.List.Recursion.{is_count_by}
use Rattle.std.proofs.lemmas.List.Sums.{sum_by-append}
use Rattle.chunk_core.specs.Lists.{IsAmong}
use Rattle.chunk_core.specs.Lists.IsAmong.{here, there}
use Rattle.chunk_core.proofs.Bools.{number, itself}
use Rattle.res_ledger.specs.declared.event.Event.{Event}
use Rattle.res_ledger.specs.Ledger.{IsStamped}
use Rattle.chart_marks.specs.declared.marks.Thing.{Thing}
use Rattle.chart_marks.specs.declared.marks.End.{End}
use Rattle.chart_marks.specs.declared.marks.Mark.{Mark}
use Rattle.chart_marks.specs.Marks.{begun_by, end_in, mark_for, marks_of}
use Rattle.chart_marks.specs.Laws.{MarkIsOne, MarksAreCounted}

-- how many marks begin at place k
abbrev begun_at : ℕ → List Mark → ℕ
begun_at k marks = count_by (λ m. nat_eq m.begin k) marks

-- the events' stamps are the numbers from n on
abbrev IsFrom : ℕ → List Event → Type 0
IsFrom n L = (P Q : List Event) (e : Event) → L ≡ P ++ e ∷ Q → e.stamp ≡ n + length P

from_next : (n : ℕ) (e : Event) (L : List Event) → IsFrom n (e ∷ L) → IsFrom (suc n) L
from_next n e L s P Q f h = let t : f.stamp ≡ n + suc (length P) = s (e ∷ P) Q f (ap (λ l. e ∷ l) h) in omega arith

from_head : (n : ℕ) (e : Event) (L : List Event) → IsFrom n (e ∷ L) → e.stamp ≡ n
from_head n e L s = let t : e.stamp ≡ n + 0 = s [] L e refl in omega arith

-- a mark of another event doesn't begin there
head_apart : (e : Event) (o : Option (Thing × ℕ)) (find : Thing → Option End) (k : ℕ) → (e.stamp ≡ k → ⊥) → begun_at k (mark_for e o find) ≡ 0
head_apart e None find k n = refl
head_apart e (Some t) find k n = at (nat_eq e.stamp k) refl
  where
    at : (b : Bool) → nat_eq e.stamp k ≡ b → 0 + cond b 1 0 ≡ 0
    at true h = absurd (n (number e.stamp k h))
    at false h = refl

head_here : (e : Event) (t : Thing × ℕ) (find : Thing → Option End) → begun_at e.stamp (mark_for e (Some t) find) ≡ 1
head_here e t find = ap (λ b. 0 + cond b 1 0) (itself e.stamp)

parts : (k : ℕ) (xs ys : List Mark) → begun_at k (xs ++ ys) ≡ begun_at k xs + begun_at k ys
parts k xs ys = sum_by-append (λ m. cond (nat_eq m.begin k) 1 0) xs ys

-- no mark begins in front of the events
below : (n k : ℕ) (L : List Event) → IsFrom n L → k < n → begun_at k (marks_of L) ≡ 0
below n k [] s h = refl
below n k (e ∷ L) s h =
    let find : Thing → Option End = λ q. end_in q (e ∷ L) in
    let a = parts k (mark_for e (begun_by e.what) find) (marks_of L) in
    let b = head_apart e (begun_by e.what) find k (λ x. let y = from_head n e L s in omega arith) in
    let d = below (suc n) k L (from_next n e L s) (omega arith) in
    omega (arith, a, b, d)

one : (n : ℕ) (P Q : List Event) (e : Event) (t : Thing × ℕ) → IsFrom n (P ++ e ∷ Q) → begun_by e.what ≡ Some t → begun_at e.stamp (marks_of (P ++ e ∷ Q)) ≡ 1
one n [] Q e t s h =
    let find : Thing → Option End = λ q. end_in q (e ∷ Q) in
    let a = parts e.stamp (mark_for e (begun_by e.what) find) (marks_of Q) in
    let b : begun_at e.stamp (mark_for e (begun_by e.what) find) ≡ 1 = subst (λ o. begun_at e.stamp (mark_for e o find) ≡ 1) (sym h) (head_here e t find) in
    let d = below (suc n) e.stamp Q (from_next n e Q s) (let y = from_head n e Q s in omega arith) in
    omega (arith, a, b, d)
one n (f ∷ P) Q e t s h =
    let find : Thing → Option End = λ q. end_in q (f ∷ (P ++ e ∷ Q)) in
    let a = parts e.stamp (mark_for f (begun_by f.what) find) (marks_of (P ++ e ∷ Q)) in
    let far : e.stamp ≡ n + suc (length P) = s (f ∷ P) Q e refl in
    let b = head_apart f (begun_by f.what) find e.stamp (λ x. let y = from_head n f (P ++ e ∷ Q) s in omega arith) in
    let d = one (suc n) P Q e t (from_next n f (P ++ e ∷ Q) s) h in
    omega (arith, a, b, d)

among_right : (xs : List Mark) {ys : List Mark} {m : Mark} → IsAmong m ys → IsAmong m (xs ++ ys)
among_right [] h = h
among_right (x ∷ xs) h = there x (among_right xs h)

mark_among : (P Q : List Event) (e : Event) (q : Thing) (s : ℕ) → begun_by e.what ≡ Some (q, s)
    → IsAmong (record { by = e.by; thing = q; scope = s; begin = e.stamp; end = end_in q (e ∷ Q) }) (marks_of (P ++ e ∷ Q))
mark_among [] Q e q s h = subst (λ o. IsAmong (record { by = e.by; thing = q; scope = s; begin = e.stamp; end = end_in q (e ∷ Q) }) (mark_for e o (λ r. end_in r (e ∷ Q)) ++ marks_of Q)) (sym h) (here (marks_of Q))
mark_among (f ∷ P) Q e q s h = among_right (mark_for f (begun_by f.what) (λ r. end_in r (f ∷ (P ++ e ∷ Q)))) (mark_among P Q e q s h)

pub mark_is_one : MarkIsOne
mark_is_one L P Q e q s stamps is begins = (
  subst (λ l. IsAmong (record { by = e.by; thing = q; scope = s; begin = e.stamp; end = end_in q (e ∷ Q) }) (marks_of l)) (sym is) (mark_among P Q e q s begins),
  subst (λ l. begun_at e.stamp (marks_of l) ≡ 1) (sym is) (one 0 P Q e (q, s) (λ A B f h. let t = stamps A B f (is ∙ h) in omega arith) begins),
)

counted_more : (e : Event) (L : List Event) → length (marks_of (e ∷ L)) ≡ cond (is_some (begun_by e.what)) (1 + length (marks_of L)) (length (marks_of L))
counted_more e L = length-append (mark_for e (begun_by e.what) (λ q. end_in q (e ∷ L))) (marks_of L) ∙ at (begun_by e.what) (λ q. end_in q (e ∷ L)) (length (marks_of L))
  where
    at : (o : Option (Thing × ℕ)) (find : Thing → Option End) (n : ℕ) → length (mark_for e o find) + n ≡ cond (is_some o) (1 + n) n
    at None find n = omega arith
    at (Some t) find n = omega arith

pub marks_are_counted : MarksAreCounted
marks_are_counted L = is_count_by (λ l. length (marks_of l)) (λ e. is_some (begun_by e.what)) refl counted_more L
