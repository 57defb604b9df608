-- What a Close takes down in a legal ledger.
use Rattle.std.proofs.Common.{◌≡◌, ◌≢◌, ℕ, Bool, true, false, cond, nat_eq, List, [], ◌∷◌, ◌++◌, refl, sym, ap, ◌∙◌, subst, ⊎_elim, append_assoc, append-nil}
use Rattle.std.proofs.lemmas.Bool.{false≢true}
use Rattle.std.specs.List.{IsDistinct}
use Rattle.std.proofs.lemmas.Grind.{flat_map-append}
use Rattle.chunk_core.specs.Lists.{IsAmong, has}
use Rattle.chunk_core.specs.Lists.IsAmong.{here, there}
use Rattle.chunk_core.proofs.Members.{among_cons, among_nil, among_snoc}
use Rattle.chunk_core.proofs.Filters.{among_append, chosen}
use Rattle.chunk_core.proofs.Distinct.{distinct_nil, distinct_one, distinct_append}
use Rattle.chunk_core.proofs.Bools.{in_has}
use Rattle.res_ledger.specs.declared.event.StreamNo.{StreamNo}
use Rattle.res_ledger.specs.declared.event.What.{What}
use Rattle.res_ledger.specs.declared.event.What.TheVariants.{Open, Acquire}
use Rattle.res_ledger.specs.declared.event.Event.{Event}
use Rattle.res_ledger.specs.Ledger.{Notes, NotesClose, LiesWithin, IsClosed, IsOpened, IsRowClosed, MayFollow, IsLegal}
use Rattle.res_ledger.specs.Ledger.LiesWithin.{same, below}
use Rattle.res_ledger.specs.Streams.{same_stream}
use Rattle.res_ledger.specs.Own.{own, opens, opens_of, rows, acquires_of, closes, latest, rows_beneath, teardown}
use Rattle.res_ledger.proofs.Tests.{name}
use Rattle.res_ledger.proofs.Scopes.{own_append}
use Rattle.res_ledger.proofs.Noted.{opens_notes, rows_notes, notes_closes, notes_opens}
use Rattle.res_ledger.proofs.Prefixes.{acquired_once, row_scope_closed}
use Rattle.res_ledger.proofs.Ledgers.{at_noted}
use Rattle.ledger_verdict.proofs.Torn.{Hangs, IsIn, IsForward, beneath_in, beneath_distinct, below_self, latest_in, parent_is}
use Rattle.ledger_verdict.proofs.Torn.Hangs.{self, child}

nothing_in : (x : ℕ) → IsIn x [] → ⊥
nothing_in x i = among_nil i.1

forward_snoc : (os : List (ℕ × ℕ)) (o : ℕ × ℕ) → IsForward os → ¬ (IsIn o.0 os) → ((c p : ℕ) → IsAmong (c, p) os → p ≢ o.0) → o.1 ≢ o.0 → IsForward (os ++ o ∷ [])
forward_snoc [] o f n g d = (nothing_in o.0, nothing_in o.1, d, tt)
forward_snoc (x ∷ os) o f n g d = (
  λ i. ⊎_elim (λ m. f.0 (i.0, m)) (λ e. n (x.1, subst (λ y. IsAmong (y, x.1) (x ∷ os)) (ap (λ (y : ℕ × ℕ). y.0) e) (here os))) (among_snoc os (x.0, i.0) o i.1),
  λ i. ⊎_elim (λ m. f.1 (i.0, m)) (λ e. g x.0 x.1 (here os) (ap (λ (y : ℕ × ℕ). y.0) e)) (among_snoc os (x.1, i.0) o i.1),
  f.2,
  forward_snoc os o f.3 (λ i. n (i.0, there x i.1)) (λ c p m. g c p (there x m)) d,
)

-- no first number stands twice
abbrev pub IsOnce : List (ℕ × ℕ) → Type 0
IsOnce [] = Unit {0}
IsOnce (x ∷ xs) = ¬ (IsIn x.0 xs) × IsOnce xs

once_snoc : (xs : List (ℕ × ℕ)) (o : ℕ × ℕ) → IsOnce xs → ¬ (IsIn o.0 xs) → IsOnce (xs ++ o ∷ [])
once_snoc [] o f n = (nothing_in o.0, tt)
once_snoc (x ∷ xs) o f n = (
  λ i. ⊎_elim (λ m. f.0 (i.0, m)) (λ e. n (x.1, subst (λ y. IsAmong (y, x.1) (x ∷ xs)) (ap (λ (y : ℕ × ℕ). y.0) e) (here xs))) (among_snoc xs (x.0, i.0) o i.1),
  once_snoc xs o f.1 (λ i. n (i.0, there x i.1)),
)

pub latest_distinct : (xs : List (ℕ × ℕ)) → IsOnce xs → (s : ℕ) → IsDistinct nat_eq (latest xs s)
latest_distinct [] f s = distinct_nil
latest_distinct (x ∷ xs) f s = distinct_append (latest xs s) (cond (nat_eq x.1 s) (x.0 ∷ []) []) (latest_distinct xs f.1 s)
    (elim (nat_eq x.1 s) as (λ b. IsDistinct nat_eq (cond b (x.0 ∷ []) [])) [ true ↦ distinct_one x.0 | false ↦ distinct_nil ])
    (λ r m n. let t = chosen (nat_eq x.1 s) (x.0 ∷ []) r n in ⊎_elim (λ e. f.0 (s, subst (λ y. IsAmong (y, s) xs) e (latest_in xs s r m))) (λ z. among_nil z) (among_cons t.1))

-- what both lists of a legal ledger keep
abbrev IsKept : List Event → StreamNo → Type 0
IsKept P k = IsForward (opens (own k P)) × IsOnce (rows (own k P))

parent_not : (P : List Event) (k : StreamNo) (s : ℕ) → IsLegal P → s ≢ 0 → ¬ (IsOpened P k s) → (c p : ℕ) → IsAmong (c, p) (opens (own k P)) → p ≢ s
parent_not P k s l z n c p m e =
    let t = at_noted P k (Open c p) l (opens_notes P k (c, p) m) in
    ⊎_elim (λ q. z (sym e ∙ q)) (λ o. n (o.0, subst (λ x. Notes P k (Open x o.0)) e (o.1.0, t.2 o.1.0 o.1.1, o.1.2, o.1.3))) t.1.2.0

kept_what : (P : List Event) (k : StreamNo) (w : What) → IsLegal P → MayFollow P k w → IsKept P k → IsForward (opens (own k P) ++ opens (w ∷ [])) × IsOnce (rows (own k P) ++ rows (w ∷ []))
kept_what P k (Open s p) l m t = (
  forward_snoc (opens (own k P)) (s, p) t.0 (λ i. m.1 (i.0, opens_notes P k (s, i.0) i.1)) (parent_not P k s l m.0 m.1) (λ e. ⊎_elim (λ z. m.0 (sym e ∙ z)) (λ o. m.1 (subst (IsOpened P k) e o)) m.2.0),
  subst IsOnce (sym (append-nil (rows (own k P)))) t.1,
)
kept_what P k (Acquire r s) l m t = (
  subst IsForward (sym (append-nil (opens (own k P)))) t.0,
  once_snoc (rows (own k P)) (r, s) t.1 (λ i. m.0 (k, i.0, rows_notes P k (r, i.0) i.1)),
)
kept_what P k w l m t = (subst IsForward (sym (append-nil (opens (own k P)))) t.0, subst IsOnce (sym (append-nil (rows (own k P)))) t.1)

kept_event : (P : List Event) (k : StreamNo) (e : Event) (b : Bool) → same_stream e.by k ≡ b → IsLegal P → MayFollow P e.by e.what → IsKept P k → IsForward (opens (own k P) ++ opens (cond b (e.what ∷ []) [])) × IsOnce (rows (own k P) ++ rows (cond b (e.what ∷ []) []))
kept_event P k e true h l m t = kept_what P k e.what l (subst (λ q. MayFollow P q e.what) (name e.by k h) m) t
kept_event P k e false h l m t = (subst IsForward (sym (append-nil (opens (own k P)))) t.0, subst IsOnce (sym (append-nil (rows (own k P)))) t.1)

front : (P Q : List Event) → IsLegal (P ++ Q) → IsLegal P
front P Q h A B e q = h A (B ++ Q) e (ap (λ l. l ++ Q) q ∙ append_assoc A (e ∷ B) Q)

kept_from : (P Q : List Event) (k : StreamNo) → IsLegal (P ++ Q) → IsKept P k → IsKept (P ++ Q) k
kept_from P [] k h t = subst (λ l. IsKept l k) (sym (append-nil P)) t
kept_from P (e ∷ Q) k h t =
    let n = kept_event P k e (same_stream e.by k) refl (front P (e ∷ Q) h) (h P Q e refl) t in
    let next : IsKept (P ++ e ∷ []) k = (
      subst IsForward (sym (ap opens (own_append k P (e ∷ [])) ∙ flat_map-append opens_of (own k P) (own k (e ∷ [])))) n.0,
      subst IsOnce (sym (ap rows (own_append k P (e ∷ [])) ∙ flat_map-append acquires_of (own k P) (own k (e ∷ [])))) n.1,
    ) in
    subst (λ l. IsKept l k) (append_assoc P (e ∷ []) Q) (kept_from (P ++ e ∷ []) Q k (subst IsLegal (sym (append_assoc P (e ∷ []) Q)) h) next)

pub kept : (L : List Event) (k : StreamNo) → IsLegal L → IsKept L k
kept L k h = kept_from [] L k h (tt, tt)

one_scope : (P : List Event) (k : StreamNo) → IsLegal P → (r c d : ℕ) → IsAmong (r, c) (rows (own k P)) → IsAmong (r, d) (rows (own k P)) → c ≡ d
one_scope P k l r c d m n = (acquired_once P l r k k c d (rows_notes P k (r, c) m) (rows_notes P k (r, d) n)).1

-- no row is taken down twice
pub torn_once : (P : List Event) (k : StreamNo) (s : ℕ) → IsLegal P → IsDistinct nat_eq (teardown (own k P) s)
torn_once P k s l =
    let t = kept P k l in
    let shut : ℕ → Bool = λ c. has c (closes (own k P)) in
    let xs = rows (own k P) in
    distinct_append (rows_beneath (opens (own k P)) shut xs s) (latest xs s)
    (beneath_distinct shut xs (one_scope P k l) (latest_distinct xs t.1) (opens (own k P)) t.0 s)
    (latest_distinct xs t.1 s)
    (λ r m n. below_self shut xs (one_scope P k l) (opens (own k P)) t.0 s r m (latest_in xs s r n))

-- the row was acquired by k in a scope that hangs below s
pub torn_row : (P : List Event) (k : StreamNo) (s r : ℕ) → IsAmong r (teardown (own k P) s) → (c : ℕ) × Notes P k (Acquire r c) × Hangs (opens (own k P)) (λ c. has c (closes (own k P))) c s
torn_row P k s r m =
    let shut : ℕ → Bool = λ c. has c (closes (own k P)) in
    let xs = rows (own k P) in
    ⊎_elim
    (λ n. let b = beneath_in shut xs (opens (own k P)) s r n in (b.scope, rows_notes P k (r, b.scope) b.row, child b.scope b.parent s b.opened b.free b.hangs))
    (λ n. (s, rows_notes P k (r, s) (latest_in xs s r n), self s))
    (among_append r (rows_beneath (opens (own k P)) shut xs s) (latest xs s) m)

hangs_open : (P : List Event) (k : StreamNo) → IsLegal P → {c s : ℕ} → Hangs (opens (own k P)) (λ c. has c (closes (own k P))) c s → ¬ (IsClosed P k s) → ¬ (IsClosed P k c)
hangs_open P k l (self s) n c = n c
hangs_open P k l (child x p s m h u) n c = within_open x c.0 c.1 c.2 m h (hangs_open P k l u n)
  where
    within_open : (x a : ℕ) → LiesWithin P k x a → NotesClose P k a → {p : ℕ} → IsAmong (x, p) (opens (own k P)) → has x (closes (own k P)) ≡ false → ¬ (IsClosed P k p) → ⊥
    within_open x a (same y) z m h n = false≢true (sym h ∙ in_has y (closes (own k P)) (notes_closes P k y z))
    within_open x a (below y q b o w) z m h n = n (b, subst (λ v. LiesWithin P k v b) (parent_is (opens (own k P)) (kept P k l).0 y q _ (notes_opens P k y q o) m) w, z)

-- a row that a Close takes down isn't closed before
pub torn_open : (P : List Event) (k : StreamNo) (s r : ℕ) → IsLegal P → ¬ (IsClosed P k s) → IsAmong r (teardown (own k P) s) → ¬ (IsRowClosed P r)
torn_open P k s r l n m c = let t = torn_row P k s r m in hangs_open P k l t.2 n (row_scope_closed P P l (λ q w h. h) r k t.0 t.1 c)
