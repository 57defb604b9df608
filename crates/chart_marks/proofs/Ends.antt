-- An end is the first event that ends the same.
use Rattle.std.proofs.Common.{◌≡◌, ◌↔◌, ◌⊎◌, ℕ, Bool, true, false, if◌then◌else◌, List, [], ◌∷◌, ◌++◌, Option, Some, None, refl, sym, ap, ◌∙◌, subst, ⊎_elim}
use Rattle.std.proofs.lemmas.Bool.{false≢true}
use Rattle.chunk_core.specs.Lists.{IsAmong}
use Rattle.chunk_core.specs.Lists.IsAmong.{here, there}
use Rattle.chunk_core.proofs.Bools.{number, itself}
use Rattle.chunk_core.proofs.Members.{among_cons, among_mid, among_nil}
use Rattle.chunk_core.specs.declared.code.Exit.{Exit}
use Rattle.res_ledger.specs.declared.event.Event.{Event}
use Rattle.chart_marks.specs.declared.marks.Thing.{Thing}
use Rattle.chart_marks.specs.declared.marks.Thing.TheVariants.{Row, Lease, Close}
use Rattle.chart_marks.specs.declared.marks.End.{End}
use Rattle.chart_marks.specs.Marks.{end_in, end_or, ended_by, same_thing}
use Rattle.chart_marks.specs.Laws.{EndIsFirst, IsEndedIn, NoEndIsNone}

same_is_one : (a b : Thing) → same_thing a b ≡ true → a ≡ b
same_is_one (Row r) (Row q) h = ap Row (number r q h)
same_is_one (Lease r) (Lease q) h = ap Lease (number r q h)
same_is_one (Close r) (Close q) h = ap Close (number r q h)
same_is_one a b h = absurd (false≢true h)

same_itself : (a : Thing) → same_thing a a ≡ true
same_itself (Row r) = itself r
same_itself (Lease r) = itself r
same_itself (Close r) = itself r

-- the event ends q
abbrev EndsThing : Event → Thing → Type 0
EndsThing e q = (x : Exit) × (ok : Bool) × (ended_by e.what ≡ Some (q, x, ok))

-- the first event that ends q, with what it says of the end
abbrev IsFirstEnd : List Event → Thing → End → Type 0
IsFirstEnd L q x = (P Q : List Event) × (e : Event) × (L ≡ P ++ e ∷ Q) × (e.stamp ≡ x.place) × (ended_by e.what ≡ Some (q, x.exit, x.ok)) × ¬ (IsEndedIn P q)

nothing_ends : (q : Thing) → ¬ (IsEndedIn [] q)
nothing_ends q m = among_nil m.1

ended_cons : (e : Event) (L : List Event) (q : Thing) → ¬ (EndsThing e q) → ¬ (IsEndedIn L q) → ¬ (IsEndedIn (e ∷ L) q)
ended_cons e L q n m a = ⊎_elim (λ s. n (subst (λ f. EndsThing f q) s a.2)) (λ l. m (a.0, l, a.2)) (among_cons a.1)

-- which case an event is for q, and what is told of its end
data Case (e : Event) (q : Thing) (later : Option End) : Option End → Type 0 where
  ends : (x : Exit) (ok : Bool) → ended_by e.what ≡ Some (q, x, ok) → Case e q later (Some (record { place = e.stamp; exit = x; ok = ok }))
  other : ¬ (EndsThing e q) → Case e q later later

case_of : (e : Event) (q : Thing) (later : Option End) → Case e q later (end_or q e.stamp (ended_by e.what) later)
case_of e q later = at (ended_by e.what) refl
  where
    tested : (t : Thing × Exit × Bool) (b : Bool) → same_thing t.0 q ≡ b → ended_by e.what ≡ Some t → Case e q later (if b then Some (record { place = e.stamp; exit = t.1; ok = t.2 }) else later)
    tested t true s h = ends t.1 t.2 (h ∙ ap (λ a. let u : Thing × Exit × Bool = (a, t.1, t.2) in Some u) (same_is_one t.0 q s))
    tested t false s h = other (λ m. let u : Some t ≡ Some (q, m.0, m.1) = sym h ∙ m.2 in let v : t.0 ≡ q = cc in false≢true (sym s ∙ ap (λ a. same_thing a q) v ∙ same_itself q))

    at : (o : Option (Thing × Exit × Bool)) → ended_by e.what ≡ o → Case e q later (end_or q e.stamp o later)
    at None h = other (λ m. let u : None ≡ Some (q, m.0, m.1) = sym h ∙ m.2 in cc)
    at (Some t) h = tested t (same_thing t.0 q) refl h

none_is_some : (x : End) → None ≡ Some x → ⊥
none_is_some x h = cc

first_case : (e : Event) (L : List Event) (q : Thing) (x : End) (o : Option End) → (end_in q L ≡ Some x → IsFirstEnd L q x) → Case e q (end_in q L) o → o ≡ Some x → IsFirstEnd (e ∷ L) q x
first_case e L q x o rest (ends y ok s) h =
    let z : End = record { place = e.stamp; exit = y; ok = ok } in
    let v : z ≡ x = cc in
    subst (λ w. IsFirstEnd (e ∷ L) q w) v ([], L, e, refl, refl, s, nothing_ends q)
first_case e L q x o rest (other n) h = let t = rest h in (e ∷ t.0, t.1, t.2, ap (λ l. e ∷ l) t.3, t.4, t.5, ended_cons e t.0 q n t.6)

first_end : (L : List Event) (q : Thing) (x : End) → end_in q L ≡ Some x → IsFirstEnd L q x
first_end [] q x h = absurd (none_is_some x h)
first_end (e ∷ L) q x h = first_case e L q x (end_or q e.stamp (ended_by e.what) (end_in q L)) (first_end L q x) (case_of e q (end_in q L)) h

none_case : (e : Event) (L : List Event) (q : Thing) (o : Option End) → (end_in q L ≡ None → ¬ (IsEndedIn L q)) → Case e q (end_in q L) o → o ≡ None → ¬ (IsEndedIn (e ∷ L) q)
none_case e L q o rest (ends y ok s) h = absurd (none_is_some (record { place = e.stamp; exit = y; ok = ok }) (sym h))
none_case e L q o rest (other n) h = ended_cons e L q n (rest h)

none_ends : (L : List Event) (q : Thing) → end_in q L ≡ None → ¬ (IsEndedIn L q)
none_ends [] q h = nothing_ends q
none_ends (e ∷ L) q h = none_case e L q (end_or q e.stamp (ended_by e.what) (end_in q L)) (none_ends L q) (case_of e q (end_in q L)) h

-- what is told of an end
abbrev Told : Type 0
Told = Thing × Exit × Bool

told_is : (a b : Told) → Some a ≡ Some b → a ≡ b
told_is a b h = cc

one_end : (a b : ℕ) (c d : Exit) (f g : Bool) → a ≡ b → c ≡ d → f ≡ g → Some (let l : End = record { place = a; exit = c; ok = f } in l) ≡ Some (let r : End = record { place = b; exit = d; ok = g } in r)
one_end a b c d f g h i j = cc

here_case : (e : Event) (Q : List Event) (q : Thing) (x : End) (o : Option End) → e.stamp ≡ x.place → ended_by e.what ≡ Some (q, x.exit, x.ok) → Case e q (end_in q Q) o → o ≡ Some x
here_case e Q q x o p s (ends y ok t) =
    let u : Told = (q, y, ok) in
    let v : Told = (q, x.exit, x.ok) in
    let w : u ≡ v = told_is u v (sym t ∙ s) in
    one_end e.stamp x.place y x.exit ok x.ok p (ap (λ (z : Told). z.1) w) (ap (λ (z : Told). z.2) w)
here_case e Q q x o p s (other m) = absurd (m (x.exit, x.ok, s))

skip_case : (f : Event) (L : List Event) (q : Thing) (x : End) (o : Option End) → ¬ (EndsThing f q) → end_in q L ≡ Some x → Case f q (end_in q L) o → o ≡ Some x
skip_case f L q x o n h (ends y ok t) = absurd (n (y, ok, t))
skip_case f L q x o n h (other m) = h

some_end : (P Q : List Event) (e : Event) (q : Thing) (x : End) → e.stamp ≡ x.place → ended_by e.what ≡ Some (q, x.exit, x.ok) → ¬ (IsEndedIn P q) → end_in q (P ++ e ∷ Q) ≡ Some x
some_end [] Q e q x p s n = here_case e Q q x (end_or q e.stamp (ended_by e.what) (end_in q Q)) p s (case_of e q (end_in q Q))
some_end (f ∷ P) Q e q x p s n =
    skip_case f (P ++ e ∷ Q) q x (end_or q f.stamp (ended_by f.what) (end_in q (P ++ e ∷ Q))) (λ m. n (f, here P, m)) (some_end P Q e q x p s (λ a. n (a.0, there f a.1, a.2)))
    (case_of f q (end_in q (P ++ e ∷ Q)))

pub end_is_first : EndIsFirst
end_is_first L q x = (first_end L q x, λ t. ap (end_in q) t.3 ∙ some_end t.0 t.1 t.2 q x t.4 t.5 t.6)

some_is_ended : (L : List Event) (q : Thing) (o : Option End) → end_in q L ≡ o → ¬ (IsEndedIn L q) → o ≡ None
some_is_ended L q None h n = refl
some_is_ended L q (Some x) h n = let t = first_end L q x h in absurd (n (t.2, subst (λ l. IsAmong t.2 l) (sym t.3) (among_mid t.0 t.1 t.2), (x.exit, x.ok, t.5)))

pub no_end_is_none : NoEndIsNone
no_end_is_none L q = (none_ends L q, some_is_ended L q (end_in q L) refl)
