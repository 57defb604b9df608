-- The rows that the Lease of a lease covers in a ledger.
use Rattle.std.proofs.Common.{◌≡◌, ℕ, cond, true, false, List, [], ◌∷◌, ◌++◌, refl, sym, ap, ◌∙◌, subst, append_assoc, append-nil, nat_eq, flat_map, map}
use Rattle.chunk_core.specs.Lists.{IsAmong}
use Rattle.chunk_core.specs.Lists.IsAmong.{here, there}
use Rattle.chunk_core.proofs.Cuts.{among_parts}
use Rattle.chunk_core.proofs.Members.{among_mid}
use Rattle.res_ledger.specs.declared.event.Event.{Event}
use Rattle.res_ledger.specs.declared.event.StreamNo.{StreamNo}
use Rattle.res_ledger.specs.declared.event.What.{What}
use Rattle.res_ledger.specs.declared.event.What.TheVariants.{Open, Acquire, Lease, Cancel, Close, Final}
use Rattle.res_ledger.specs.Ledger.{IsLeased, IsLegal, MayFollow}
use Rattle.res_ledger.specs.Order.{covered_by, covered_for, gathered}
use Rattle.res_ledger.specs.Own.{leased_of, leased_rows, own}
use Rattle.res_ledger.specs.Streams.{by_stream, same_stream}
use Rattle.res_ledger.proofs.Ledgers.{by_both, by_place, stream_same}
use Rattle.chunk_core.proofs.Bools.{number, itself}
use Rattle.row_seat.specs.declared.view.View.{View}
use Rattle.scope_tree.proofs.Tidy.{own_by}
use Rattle.tree_laws.specs.Lent.{Lent}

gathered_append : (of : List Event → Event → List ℕ) (P A B : List Event) → gathered of P (A ++ B) ≡ gathered of P A ++ gathered of (P ++ A) B
gathered_append of P [] B = ap (λ l. gathered of l B) (sym (append-nil P))
gathered_append of P (e ∷ A) B = ap (λ l. of P e ++ l) (gathered_append of (P ++ e ∷ []) A B ∙ ap (λ l. gathered of (P ++ e ∷ []) A ++ gathered of l B) (append_assoc P (e ∷ []) A)) ∙ sym (append_assoc (of P e) (gathered of (P ++ e ∷ []) A) (gathered of (P ++ e ∷ A) B))

-- an event that is no Lease for j draws nothing for it
no_lease : (j : ℕ) (A : List Event) (e : Event) (w : What) → e.what ≡ w → ((s : ℕ) → w ≡ Lease j s → ⊥) → covered_for j A e ≡ []
no_lease j A e (Open s p) is n = ap (λ x. flat_map (λ l. cond (nat_eq l.0 j) (leased_rows (own e.by A) l.1) []) (leased_of x)) is
no_lease j A e (Acquire r s) is n = ap (λ x. flat_map (λ l. cond (nat_eq l.0 j) (leased_rows (own e.by A) l.1) []) (leased_of x)) is
no_lease j A e (Lease i s) is n =
    ap (λ x. flat_map (λ l. cond (nat_eq l.0 j) (leased_rows (own e.by A) l.1) []) (leased_of x)) is
    ∙ (elim (nat_eq i j) as (λ b. nat_eq i j ≡ b → cond b (leased_rows (own e.by A) s) [] ++ [] ≡ []) [ true ↦ (λ h. absurd (n s (ap (λ x. Lease x s) (number i j h)))) | false ↦ (λ h. refl) ]) refl
no_lease j A e (Cancel i x) is n = ap (λ y. flat_map (λ l. cond (nat_eq l.0 j) (leased_rows (own e.by A) l.1) []) (leased_of y)) is
no_lease j A e (Close s x) is n = ap (λ y. flat_map (λ l. cond (nat_eq l.0 j) (leased_rows (own e.by A) l.1) []) (leased_of y)) is
no_lease j A e (Final r x ok) is n = ap (λ y. flat_map (λ l. cond (nat_eq l.0 j) (leased_rows (own e.by A) l.1) []) (leased_of y)) is

-- a Lease for j draws the rows that it covers
one_lease : (j s : ℕ) (A : List Event) (e : Event) → e.what ≡ Lease j s → covered_for j A e ≡ leased_rows (own e.by A) s
one_lease j s A e is =
    ap (λ x. flat_map (λ l. cond (nat_eq l.0 j) (leased_rows (own e.by A) l.1) []) (leased_of x)) is
    ∙ ap (λ b. cond b (leased_rows (own e.by A) s) [] ++ []) (itself j)
    ∙ append-nil (leased_rows (own e.by A) s)

-- events without a Lease for j draw nothing for it
none_leased : (j : ℕ) (A B : List Event) → ((e : Event) (s : ℕ) → IsAmong e B → e.what ≡ Lease j s → ⊥) → gathered (covered_for j) A B ≡ []
none_leased j A [] n = refl
none_leased j A (e ∷ B) n = ap (λ l. l ++ gathered (covered_for j) (A ++ e ∷ []) B) (no_lease j A e e.what refl (λ s w. n e s (here B) w)) ∙ none_leased j (A ++ e ∷ []) B (λ x s m. n x s (there e m))

own_same : (k : StreamNo) (A B : List Event) → by_stream k A ≡ by_stream k B → own k A ≡ own k B
own_same k A B is = own_by k A ∙ ap (map (λ (e : Event). e.what)) is ∙ sym (own_by k B)

-- in a legal list the Lease of j that stands behind A is the only one
covered_one : (L A B : List Event) (e : Event) (j s : ℕ) → IsLegal L → L ≡ A ++ e ∷ B → e.what ≡ Lease j s → covered_by L j ≡ leased_rows (own e.by A) s
covered_one L A B e j s legal is w =
    let first : ¬ (IsLeased A j) = (subst (λ x. MayFollow A e.by x) w (legal A B e is)).0 in
    let before : gathered (covered_for j) [] A ≡ [] = none_leased j [] A (λ x t m v. first (x.by, t, (x, m, refl, v))) in
    let later : (x : Event) (t : ℕ) → IsAmong x B → x.what ≡ Lease j t → ⊥ = λ x t m v.
    let p = among_parts x B m in
    let at : L ≡ (A ++ e ∷ p.0) ++ x ∷ p.1 = is ∙ ap (λ l. A ++ e ∷ l) p.2 ∙ sym (append_assoc A (e ∷ p.0) (x ∷ p.1)) in
    (subst (λ y. MayFollow (A ++ e ∷ p.0) x.by y) v (legal (A ++ e ∷ p.0) p.1 x at)).0 (e.by, s, (e, among_mid A p.0 e, refl, w)) in
    ap (gathered (covered_for j) []) is
    ∙ gathered_append (covered_for j) [] A (e ∷ B)
    ∙ ap (λ l. l ++ (covered_for j A e ++ gathered (covered_for j) (A ++ e ∷ []) B)) before
    ∙ ap (λ l. covered_for j A e ++ l) (none_leased j (A ++ e ∷ []) B later)
    ∙ append-nil (covered_for j A e)
    ∙ one_lease j s A e w

pub lent_covered : {P : Type 0} (v : View P) (L : List Event) (j : ℕ) (T : List ℕ) → Lent v j T → IsLegal L → by_stream v.by L ≡ by_stream v.by v.events → covered_by L j ≡ T
lent_covered v L j T l legal is =
    let k = v.by in
    let own' : by_stream k (l.event ∷ l.rest) ≡ l.event ∷ by_stream k l.rest = ap (λ b. cond b (l.event ∷ by_stream k l.rest) (by_stream k l.rest)) (ap (λ a. same_stream a k) l.by ∙ stream_same k) in
    let cut : by_stream k L ≡ by_stream k l.before ++ l.event ∷ by_stream k l.rest = is ∙ ap (by_stream k) l.stands ∙ by_both k l.before (l.event ∷ l.rest) ∙ ap (λ x. by_stream k l.before ++ x) own' in
    let t = by_place k L (by_stream k l.before) (by_stream k l.rest) l.event cut in
    covered_one L t.0 t.1 l.event j l.scope legal t.2 l.what
    ∙ ap (λ a. leased_rows (own a t.0) l.scope) l.by
    ∙ ap (λ E. leased_rows E l.scope) (own_same k t.0 l.before t.3)
    ∙ sym l.rows
