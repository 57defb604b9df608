-- The verdict on a ledger by tests.
use Rattle.std.proofs.Common.{◌≡◌, ◌≤◌, Bool, true, false, cond, List, [], ◌∷◌, ◌++◌, ◌⊎◌, inl, inr, refl, sym, ap, ◌∙◌, subst, ⊎_elim, append_assoc, append-nil, length, arith, Option, None, Some}
use Rattle.std.specs.Prelude.{is_some}
use Rattle.std.proofs.lemmas.Bool.{false≢true}
use Rattle.std.specs.List.{list_all as all, list_any as any}
use Rattle.chunk_core.specs.Lists.{IsAmong}
use Rattle.chunk_core.specs.Lists.IsAmong.{here, there}
use Rattle.chunk_core.proofs.Bools.{all_at, any_at, any_found, each_passes, tested, no}
use Rattle.chunk_core.proofs.Cuts.{cut}
use Rattle.res_ledger.specs.declared.event.StreamNo.{StreamNo}
use Rattle.res_ledger.specs.declared.event.Event.{Event}
use Rattle.res_ledger.specs.Ledger.{IsLegal}
use Rattle.res_ledger.specs.Streams.{same_stream}
use Rattle.res_ledger.specs.Own.{own}
use Rattle.res_ledger.specs.Order.{is_ordered}
use Rattle.res_ledger.specs.Judge.{is_legal, is_complete}
use Rattle.res_ledger.proofs.Tests.{name}
use Rattle.res_ledger.proofs.Ordering.{ordered_sound}
use Rattle.res_ledger.proofs.Judged.{legal_sound, legal_found, complete_sound, complete_found}
use Rattle.res_ledger.proofs.Prefixes.{front_legal}
use Rattle.ledger_verdict.specs.declared.verdict.Rule.TheVariants.{Legal, Ordered, Complete}
use Rattle.ledger_verdict.specs.declared.verdict.Verdict.{Verdict}
use Rattle.ledger_verdict.specs.declared.verdict.Verdict.TheVariants.{Clean, Broken}
use Rattle.ledger_verdict.specs.Verdict.{IsOrderedSoFar, IsSoundUpTo, IsVerdict, ThereIsAVerdict}
use Rattle.ledger_verdict.specs.Pending.{Due, nothing_due, due_along}
use Rattle.ledger_verdict.proofs.SoFar.{due_at, may_of, due_of, so_far_due, due_so_far}
use Rattle.ledger_verdict.proofs.Fronts.{front_is_ordered_so_far}
use Rattle.ledger_verdict.proofs.Settled.{ordered_so_far_is_ordered}

-- something is due at the end of each stream's list
abbrev pub is_so_far : List Event → Bool
is_so_far L = all (λ e. is_some (due_at L e.by)) L

own_none : (k : StreamNo) (L : List Event) → ((e : Event) → IsAmong e L → same_stream e.by k ≡ true → ⊥) → own k L ≡ []
own_none k [] h = refl
own_none k (e ∷ L) h = at (same_stream e.by k) refl (h e (here L)) (own_none k L (λ f m. h f (there e m)))
  where
    at : (b : Bool) → same_stream e.by k ≡ b → (same_stream e.by k ≡ true → ⊥) → own k L ≡ [] → cond b (e.what ∷ own k L) (own k L) ≡ []
    at true q n z = absurd (n q)
    at false q n z = z

is_one : (o : Option Due) → is_some o ≡ true → (d : Due) × (o ≡ Some d)
is_one None h = absurd (false≢true h)
is_one (Some d) h = (d, refl)

pub so_far_sound : (L : List Event) → is_so_far L ≡ true → IsOrderedSoFar L
so_far_sound L h k = ⊎_elim
    (λ t. let f = any_found (λ e. same_stream e.by k) L t in
    let d = is_one (due_at L k) (subst (λ j. is_some (due_at L j) ≡ true) (name f.0.by k f.2) (all_at (λ e. is_some (due_at L e.by)) f.0 L f.1 h)) in
    due_so_far L k d.0 d.1)
    (λ t. let z = own_none k L (λ e m s. no (any (λ e. same_stream e.by k) L) t (any_at (λ e. same_stream e.by k) e L m s)) in
    due_so_far L k nothing_due (ap (due_along (may_of L) (due_of L) [] nothing_due) z))
    (tested (any (λ e. same_stream e.by k) L))

pub so_far_found : (L : List Event) → IsOrderedSoFar L → is_so_far L ≡ true
so_far_found L o = each_passes (λ e. is_some (due_at L e.by)) L (λ e m. let d = so_far_due L e.by (o e.by) in ap is_some d.1)

-- of two fronts of a list the shorter is a front of the other
front_of : (P Q A B : List Event) → P ++ Q ≡ A ++ B → length A ≤ length P → (C : List Event) × (P ≡ A ++ C)
front_of P Q [] B h l = (P, refl)
front_of [] Q (a ∷ A) B h l = absurd (omega arith)
front_of (p ∷ P) Q (a ∷ A) B h l =
    let c = cut p (P ++ Q) (A ++ B) a h in
    let t = front_of P Q A B c.1 (omega arith) in
    (t.0, ap (λ x. x ∷ P) c.0 ∙ ap (λ m. a ∷ m) t.1)

pub sound_up_to : (P Q : List Event) → IsLegal P → IsOrderedSoFar P → IsSoundUpTo (P ++ Q) (length P)
sound_up_to P Q l o A B h n =
    let t = front_of P Q A B h n in
    (front_legal A t.0 (subst IsLegal t.1 l), front_is_ordered_so_far A t.0 (subst IsLegal t.1 l) (subst IsOrderedSoFar t.1 o))

pub clean : (L : List Event) → is_legal L ≡ true → is_complete L ≡ true → is_ordered L ≡ true → IsVerdict L Clean
clean L l c o = let legal = legal_sound L l in (legal, complete_sound L legal c, ordered_sound L o)

pub unfinished : (L : List Event) → is_legal L ≡ true → is_so_far L ≡ true → is_complete L ≡ false → IsVerdict L (Broken (length L) Complete)
unfinished L l o c = let legal = legal_sound L l in (refl, legal, so_far_sound L o, λ f. false≢true (sym c ∙ complete_found L legal f))

pub disordered : (P Q : List Event) (e : Event) → is_legal (P ++ e ∷ []) ≡ true → is_so_far P ≡ true → is_so_far (P ++ e ∷ []) ≡ false → IsVerdict (P ++ e ∷ Q) (Broken (length P) Ordered)
disordered P Q e l o b =
    let legal = legal_sound (P ++ e ∷ []) l in
    (sound_up_to P (e ∷ Q) (front_legal P (e ∷ []) legal) (so_far_sound P o), (P, Q, e, refl, refl, (legal, λ s. false≢true (sym b ∙ so_far_found (P ++ e ∷ []) s))))

pub illegal : (P Q : List Event) (e : Event) → is_legal P ≡ true → is_so_far P ≡ true → is_legal (P ++ e ∷ []) ≡ false → IsVerdict (P ++ e ∷ Q) (Broken (length P) Legal)
illegal P Q e l o b =
    let legal = legal_sound P l in
    (sound_up_to P (e ∷ Q) legal (so_far_sound P o), (P, Q, e, refl, refl, λ s. false≢true (sym b ∙ legal_found (P ++ e ∷ []) s)))

decide : (b : Bool) → (b ≡ true) ⊎ (b ≡ false)
decide true = inl refl
decide false = inr refl

walk : (Q P : List Event) → is_legal P ≡ true → is_so_far P ≡ true → (v : Verdict) × IsVerdict (P ++ Q) v
walk [] P l o =
    let legal = legal_sound P l in
    let so = so_far_sound P o in
    subst (λ L. (v : Verdict) × IsVerdict L v) (sym (append-nil P)) (⊎_elim
    (λ c. let full = complete_sound P legal c in (Clean, (legal, full, ordered_so_far_is_ordered P legal full so)))
    (λ c. (Broken (length P) Complete, unfinished P l o c))
    (decide (is_complete P)))
walk (e ∷ Q) P l o = ⊎_elim
    (λ t. ⊎_elim
    (λ s. subst (λ L. (v : Verdict) × IsVerdict L v) (append_assoc P (e ∷ []) Q) (walk Q (P ++ e ∷ []) t s))
    (λ s. (Broken (length P) Ordered, disordered P Q e t o s))
    (decide (is_so_far (P ++ e ∷ []))))
    (λ t. (Broken (length P) Legal, illegal P Q e l o t))
    (decide (is_legal (P ++ e ∷ [])))

pub there_is_one : ThereIsAVerdict
there_is_one L = walk L [] refl refl
