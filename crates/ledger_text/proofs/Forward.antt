-- A row's standing only goes forward.
use Rattle.std.proofs.Common.{ℕ, List, [], ◌∷◌, ◌++◌, inl, inr, refl, sym, ap, ◌∙◌, subst, ⊎_elim, arith}
use Rattle.chunk_core.specs.Lists.{IsAmong}
use Rattle.chunk_core.proofs.Members.{among_left, among_snoc}
use Rattle.res_ledger.specs.declared.event.StreamNo.{StreamNo}
use Rattle.res_ledger.specs.declared.event.What.TheVariants as what
use Rattle.res_ledger.specs.declared.event.Event.{Event}
use Rattle.res_ledger.specs.Ledger.{Notes, IsClosed, IsFinalized, IsRowClosed, IsCanceled, IsHanded, Covers, IsLegal, MayFollow}
use Rattle.ledger_text.specs.Standings.{StandingGoesForward, StandingNeverGoesBack, StandingIsOne}
use Rattle.res_ledger.specs.Standing.Standing.{Open, Awaiting, Handed, Finalized}
use Rattle.res_ledger.proofs.Prefixes.{front_notes, front_closed, front_row_closed, front_finalized, front_canceled, split_append, row_scope_closed}

-- a lease that covers a row covers it from its note on
covers_before : (P Q : List Event) (r j : ℕ) (k : StreamNo) → IsLegal (P ++ Q) → IsRowClosed P r → Covers (P ++ Q) j k r → Covers P j k r
covers_before P Q r j k h c v =
    let A = v.0 in let B = v.1 in let e = v.2 in let s = v.3 in
    ⊎_elim
    (λ f. (A, f.0, e, s, f.1, v.5, v.6, v.7))
    (λ f.
    let a : IsAmong v.7.1.0 (P ++ Q) = subst (λ l. IsAmong v.7.1.0 l) (sym v.4) (among_left (e ∷ B) v.7.1.1) in
    let m : Notes (P ++ Q) k (what.Acquire r v.7.0) = (v.7.1.0, a, v.7.1.2, v.7.1.3) in
    let d : IsClosed P k v.7.0 = row_scope_closed (P ++ Q) P h (λ j w x. front_notes Q x) r k v.7.0 m c in
    absurd (v.7.3 (subst (λ l. IsClosed l k v.7.0) (sym f.1) (front_closed f.0 d))))
    (split_append P Q A B e v.4)

-- a row that is free of leases in a front stays so
stays_free : (P Q : List Event) (r : ℕ) → IsLegal (P ++ Q) → IsRowClosed P r → ((j : ℕ) (k : StreamNo) → Covers P j k r → IsCanceled P j) → (j : ℕ) (k : StreamNo) → Covers (P ++ Q) j k r → IsCanceled (P ++ Q) j
stays_free P Q r h c f j k v = front_canceled Q (f j k (covers_before P Q r j k h c v))

pub never_goes_back : StandingNeverGoesBack
never_goes_back P Q r Open t h x y = omega arith
never_goes_back P Q r Awaiting Open h x y = absurd (y.1.1 (front_row_closed Q x.1.1))
never_goes_back P Q r Awaiting Awaiting h x y = omega arith
never_goes_back P Q r Awaiting Handed h x y = omega arith
never_goes_back P Q r Awaiting Finalized h x y = omega arith
never_goes_back P Q r Handed Open h x y = absurd (y.1.1 (front_row_closed Q x.1.1))
never_goes_back P Q r Handed Awaiting h x y = let w = y.1.2 in absurd (w.3 (stays_free P Q r h x.1.1 x.1.2 w.0 w.1 w.2))
never_goes_back P Q r Handed Handed h x y = omega arith
never_goes_back P Q r Handed Finalized h x y = omega arith
never_goes_back P Q r Finalized Open h x y = absurd (y.1.0 (front_finalized Q x.1))
never_goes_back P Q r Finalized Awaiting h x y = absurd (y.1.0 (front_finalized Q x.1))
never_goes_back P Q r Finalized Handed h x y = absurd (y.1.0 (front_finalized Q x.1))
never_goes_back P Q r Finalized Finalized h x y = omega arith

-- a row that is finalized by one event was handed before
handed_before : (P : List Event) (e : Event) (r : ℕ) → IsLegal (P ++ e ∷ []) → ¬ (IsFinalized P r) → IsFinalized (P ++ e ∷ []) r → IsHanded P r
handed_before P e r h n f = ⊎_elim
    (λ m. absurd (n (f.0, f.1, (f.2.0, (f.2.1.0, m, f.2.1.2, f.2.1.3)))))
    (λ q. let w : MayFollow P e.by (what.Final r f.2.0 f.1) = subst (λ x. MayFollow P e.by x) (ap (λ x. x.what) (sym q) ∙ f.2.1.3) (h P [] e refl) in w.0)
    (among_snoc P f.2.1.0 e f.2.1.1)

pub goes_forward : StandingGoesForward
goes_forward P e r Open Open h x y = λ q. cc
goes_forward P e r Open Awaiting h x y = λ q. cc
goes_forward P e r Open Handed h x y = λ q. cc
goes_forward P e r Open Finalized h x y = λ q. x.1.1 (handed_before P e r h x.1.0 y.1).0
goes_forward P e r Awaiting Open h x y = absurd (y.1.1 (front_row_closed (e ∷ []) x.1.1))
goes_forward P e r Awaiting Awaiting h x y = inl refl
goes_forward P e r Awaiting Handed h x y = inr refl
goes_forward P e r Awaiting Finalized h x y = let d = handed_before P e r h x.1.0 y.1 in let w = x.1.2 in absurd (w.3 (d.1 w.0 w.1 w.2))
goes_forward P e r Handed Open h x y = absurd (y.1.1 (front_row_closed (e ∷ []) x.1.1))
goes_forward P e r Handed Awaiting h x y = let w = y.1.2 in absurd (w.3 (stays_free P (e ∷ []) r h x.1.1 x.1.2 w.0 w.1 w.2))
goes_forward P e r Handed Handed h x y = inl refl
goes_forward P e r Handed Finalized h x y = inr refl
goes_forward P e r Finalized Open h x y = absurd (y.1.0 (front_finalized (e ∷ []) x.1))
goes_forward P e r Finalized Awaiting h x y = absurd (y.1.0 (front_finalized (e ∷ []) x.1))
goes_forward P e r Finalized Handed h x y = absurd (y.1.0 (front_finalized (e ∷ []) x.1))
goes_forward P e r Finalized Finalized h x y = refl

pub standing_is_one : StandingIsOne
standing_is_one L r Open Open x y = refl
standing_is_one L r Open Awaiting x y = absurd (x.1.1 y.1.1)
standing_is_one L r Open Handed x y = absurd (x.1.1 y.1.1)
standing_is_one L r Open Finalized x y = absurd (x.1.0 y.1)
standing_is_one L r Awaiting Open x y = absurd (y.1.1 x.1.1)
standing_is_one L r Awaiting Awaiting x y = refl
standing_is_one L r Awaiting Handed x y = let w = x.1.2 in absurd (w.3 (y.1.2 w.0 w.1 w.2))
standing_is_one L r Awaiting Finalized x y = absurd (x.1.0 y.1)
standing_is_one L r Handed Open x y = absurd (y.1.1 x.1.1)
standing_is_one L r Handed Awaiting x y = let w = y.1.2 in absurd (w.3 (x.1.2 w.0 w.1 w.2))
standing_is_one L r Handed Handed x y = refl
standing_is_one L r Handed Finalized x y = absurd (x.1.0 y.1)
standing_is_one L r Finalized Open x y = absurd (y.1.0 x.1)
standing_is_one L r Finalized Awaiting x y = absurd (y.1.0 x.1)
standing_is_one L r Finalized Handed x y = absurd (y.1.0 x.1)
standing_is_one L r Finalized Finalized x y = refl
