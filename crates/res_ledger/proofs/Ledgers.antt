-- Ledgers that grow, and the events of one stream.
use Rattle.std.proofs.Common.{◌≡◌, ◌≢◌, ℕ, ◌<◌, ◌⊎◌, Bool, true, false, cond, List, [], ◌∷◌, ◌++◌, length, inl, inr, refl, sym, ap, ◌∙◌, subst, ⊎_elim, arith, ne_eqb, eq-eqb, length-append}
use Rattle.std.proofs.lemmas.Bool.{cases_eq}
use Rattle.res_ledger.specs.declared.event.What.TheVariants.{Acquire, Cancel, Close, Final, Lease, Open}
use Rattle.res_ledger.specs.Ledger.{Covers, IsAcquired, IsCanceled, IsClosed, IsCoveredBy, IsLeased, IsLegal, IsStamped, IsUsable, LiesWithin, MayFollow, Notes}
use Rattle.res_ledger.specs.declared.event.Event.{Event}
use Rattle.res_ledger.specs.Streams.{HasRight, by_stream, same_stream}
use Rattle.res_ledger.specs.declared.event.StreamNo.TheVariants.{Inner, Outer}
use Rattle.chunk_core.specs.Lists.{IsAmong}
use Rattle.chunk_core.specs.declared.code.Exit.{Exit}
use Rattle.res_ledger.specs.declared.event.StreamNo.{StreamNo}
use Rattle.res_ledger.specs.declared.event.What.{What}
use Rattle.chunk_core.proofs.Members.{among_cons, among_left, among_mid, among_nil}
use Rattle.chunk_core.proofs.Cuts.{among_parts, append_assoc, append_nil, cut, split_snoc, two_places}
use Rattle.res_ledger.specs.Ledger.LiesWithin.{below, same}
use Rattle.chunk_core.specs.Lists.IsAmong.{here, there}
use Rattle.res_ledger.proofs.Growth.{noted_more, noted_snoc}

-- names
pub stream_same : (k : StreamNo) → same_stream k k ≡ true
stream_same Outer = refl
stream_same (Inner j) = eq-eqb j j refl

pub inner_is : (i j : ℕ) → Inner i ≡ Inner j → i ≡ j
inner_is i j e = let number : StreamNo → ℕ = elim [ Outer ↦ 0 | Inner n ↦ n ] in ap number e

pub stream_cases : (a b : StreamNo) → ((a ≡ b) × (same_stream a b ≡ true)) ⊎ ((a ≢ b) × (same_stream a b ≡ false))
stream_cases Outer Outer = inl (refl, refl)
stream_cases Outer (Inner j) = inr ((λ e. cc), refl)
stream_cases (Inner i) Outer = inr ((λ e. cc), refl)
stream_cases (Inner i) (Inner j) = ⊎_elim (λ e. inl (ap Inner e, eq-eqb i j e)) (λ ne. inr ((λ e. ne (inner_is i j e)), ne_eqb i j ne)) (cases_eq i j)

-- the events of one stream
pub by_in : (k : StreamNo) (L : List Event) (e : Event) → IsAmong e (by_stream k L) → IsAmong e L × (e.by ≡ k)
by_in k [] e h = absurd (among_nil h)
by_in k (x ∷ L) e h =
    ⊎_elim
    (λ t. let h' : IsAmong e (x ∷ by_stream k L) = subst (λ b. IsAmong e (cond b (x ∷ by_stream k L) (by_stream k L))) t.1 h in
    ⊎_elim (λ s. (subst (λ y. IsAmong e (y ∷ L)) s (here L), ap (λ y. y.by) s ∙ t.0)) (λ m. let r = by_in k L e m in (there x r.0, r.1)) (among_cons h'))
    (λ t. let r = by_in k L e (subst (λ b. IsAmong e (cond b (x ∷ by_stream k L) (by_stream k L))) t.1 h) in (there x r.0, r.1))
    (stream_cases x.by k)

pub by_out : (k : StreamNo) (L : List Event) (e : Event) → IsAmong e L → e.by ≡ k → IsAmong e (by_stream k L)
by_out k [] e h by = absurd (among_nil h)
by_out k (x ∷ L) e h by =
    ⊎_elim
    (λ t. subst (λ b. IsAmong e (cond b (x ∷ by_stream k L) (by_stream k L))) (sym t.1)
    (⊎_elim (λ s. subst (λ y. IsAmong e (y ∷ by_stream k L)) s (here (by_stream k L))) (λ m. there x (by_out k L e m by)) (among_cons h)))
    (λ t. subst (λ b. IsAmong e (cond b (x ∷ by_stream k L) (by_stream k L))) (sym t.1)
    (⊎_elim (λ s. absurd (t.0 (ap (λ y. y.by) (sym s) ∙ by))) (λ m. by_out k L e m by) (among_cons h)))
    (stream_cases x.by k)

pub by_both : (k : StreamNo) (L M : List Event) → by_stream k (L ++ M) ≡ by_stream k L ++ by_stream k M
by_both k [] M = refl
by_both k (x ∷ L) M = elim (same_stream x.by k) as (λ b. cond b (x ∷ by_stream k (L ++ M)) (by_stream k (L ++ M)) ≡ cond b (x ∷ by_stream k L) (by_stream k L) ++ by_stream k M)
    [ true ↦ ap (λ l. x ∷ l) (by_both k L M) | false ↦ by_both k L M ]

pub by_none : (k : StreamNo) (L : List Event) → ((e : Event) → IsAmong e L → e.by ≢ k) → by_stream k L ≡ []
by_none k [] h = refl
by_none k (x ∷ L) h = ⊎_elim (λ t. absurd (h x (here L) t.0)) (λ t. subst (λ b. cond b (x ∷ by_stream k L) (by_stream k L) ≡ []) (sym t.1) (by_none k L (λ e m. h e (there x m)))) (stream_cases x.by k)

pub by_other : (k : StreamNo) (L : List Event) (e : Event) → e.by ≢ k → by_stream k (L ++ e ∷ []) ≡ by_stream k L
by_other k L e ne = by_both k L (e ∷ []) ∙ (ap (λ l. by_stream k L ++ l) (by_none k (e ∷ []) (λ d m b. ⊎_elim (λ s. ne (ap (λ y. y.by) (sym s) ∙ b)) (λ n. among_nil n) (among_cons m))) ∙ append_nil (by_stream k L))

-- two lists with the same events of k
module _ (k : StreamNo) (L M : List Event) (is : by_stream k L ≡ by_stream k M) where
  pub noted_own : (w : What) → Notes L k w → Notes M k w
  noted_own w n = (n.0, (by_in k M n.0 (subst (λ l. IsAmong n.0 l) is (by_out k L n.0 n.1 n.2))).0, n.2, n.3)

module _ (L M : List Event) (k : StreamNo) (f : (w : What) → Notes L k w → Notes M k w) where
  pub within_map : {s a : ℕ} → LiesWithin L k s a → LiesWithin M k s a
  within_map (same s) = same s
  within_map (below s p a n w) = below s p a (f (Open s p) n) (within_map w)

  pub closed_map : (s : ℕ) → IsClosed L k s → IsClosed M k s
  closed_map s c = (c.0, within_map c.1, (c.2.0, f (Close c.0 c.2.0) c.2.1))

  pub usable_map : (s : ℕ) → ((t : ℕ) → IsClosed M k t → IsClosed L k t) → IsUsable L k s → IsUsable M k s
  usable_map s back u = (⊎_elim (λ e. inl e) (λ o. inr (o.0, f (Open s o.0) o.1)) u.0, λ c. u.1 (back s c))

  pub covered_map : (s r : ℕ) → ((t : ℕ) → IsClosed M k t → IsClosed L k t) → IsCoveredBy L k s r → IsCoveredBy M k s r
  covered_map s r back c = (c.0, f (Acquire r c.0) c.1, ⊎_elim (λ o. inl (f (Open c.0 s) o)) (λ w. inr (within_map w)) c.2, λ d. c.3 (back c.0 d))

-- one more event
module _ (L : List Event) (e : Event) where
  pub covers_more : {j r : ℕ} {k : StreamNo} → Covers L j k r → Covers (L ++ e ∷ []) j k r
  covers_more c = (c.0, c.1 ++ e ∷ [], c.2, c.3, ap (λ l. l ++ e ∷ []) c.4 ∙ append_assoc c.0 (c.2 ∷ c.1) (e ∷ []), c.5, c.6, c.7)

  pub covers_new : (j s r : ℕ) → e.what ≡ Lease j s → IsCoveredBy L e.by s r → Covers (L ++ e ∷ []) j e.by r
  covers_new j s r w c = (L, [], e, s, refl, refl, w, c)

  pub covers_snoc : (j r : ℕ) (k : StreamNo) → Covers (L ++ e ∷ []) j k r → Covers L j k r ⊎ ((s : ℕ) × (e.by ≡ k) × (e.what ≡ Lease j s) × IsCoveredBy L k s r)
  covers_snoc j r k c = ⊎_elim
      (λ t. inr (c.3, ap (λ y. y.by) t.1 ∙ c.5, ap (λ y. y.what) t.1 ∙ c.6, subst (λ l. IsCoveredBy l k c.3 r) (sym t.0) c.7))
      (λ t. inl (c.0, t.0, c.2, c.3, t.1, c.5, c.6, c.7))
      (split_snoc L c.0 c.1 e c.2 c.4)

  pub canceled_more : {j : ℕ} → IsCanceled L j → IsCanceled (L ++ e ∷ []) j
  canceled_more c = (c.0, (c.1.0, noted_more L e c.1.1))

  pub leased_more : {j : ℕ} → IsLeased L j → IsLeased (L ++ e ∷ []) j
  leased_more c = (c.0, c.1, noted_more L e c.2)

  pub acquired_more : {r : ℕ} → IsAcquired L r → IsAcquired (L ++ e ∷ []) r
  acquired_more c = (c.0, c.1, noted_more L e c.2)

  pub acquired_snoc : (r : ℕ) → IsAcquired (L ++ e ∷ []) r → IsAcquired L r ⊎ ((s : ℕ) × (e.what ≡ Acquire r s))
  acquired_snoc r a = ⊎_elim (λ n. inl (a.0, a.1, n)) (λ t. inr (a.1, t.1)) (noted_snoc L e a.0 (Acquire r a.1) a.2)

  pub canceled_snoc : (j : ℕ) → IsCanceled (L ++ e ∷ []) j → IsCanceled L j ⊎ ((x : Exit) × (e.what ≡ Cancel j x))
  canceled_snoc j c = ⊎_elim (λ n. inl (c.0, (c.1.0, n))) (λ t. inr (c.1.0, t.1)) (noted_snoc L e c.0 (Cancel j c.1.0) c.1.1)

  pub leased_snoc : (j : ℕ) → IsLeased (L ++ e ∷ []) j → IsLeased L j ⊎ ((s : ℕ) × (e.what ≡ Lease j s))
  leased_snoc j c = ⊎_elim (λ n. inl (c.0, c.1, n)) (λ t. inr (c.1, t.1)) (noted_snoc L e c.0 (Lease j c.1) c.2)

  pub right_more : (k : StreamNo) (r : ℕ) → HasRight L k r → HasRight (L ++ e ∷ []) k r
  right_more k r h = ⊎_elim (λ a. inl (a.0, noted_more L e a.1)) (λ c. inr (c.0, c.1, covers_more c.2, (c.3.0, noted_more L e c.3.1))) h

pub covers_leased : (L : List Event) (j r : ℕ) (k : StreamNo) → Covers L j k r → (s : ℕ) × Notes L k (Lease j s)
covers_leased L j r k c = (c.3, (c.2, subst (λ l. IsAmong c.2 l) (sym c.4) (among_mid c.0 c.1 c.2), c.5, c.6))

pub covers_acquired : (L : List Event) (j r : ℕ) (k : StreamNo) → Covers L j k r → (t : ℕ) × Notes L k (Acquire r t)
covers_acquired L j r k c = (c.7.0, (c.7.1.0, subst (λ l. IsAmong c.7.1.0 l) (sym c.4) (among_left (c.2 ∷ c.1) c.7.1.1), c.7.1.2, c.7.1.3))

-- no row has two Acquires
pub one_acquire : (L : List Event) (r s t : ℕ) (k q : StreamNo) → IsLegal L → Notes L k (Acquire r s) → Notes L q (Acquire r t) → k ≡ q
one_acquire L r s t k q legal m n =
    let a = among_parts m.0 L m.1 in let b = among_parts n.0 L n.1 in
    let first : MayFollow a.0 m.0.by (Acquire r s) = subst (λ w. MayFollow a.0 m.0.by w) m.3 (legal a.0 a.1 m.0 a.2) in
    let second : MayFollow b.0 n.0.by (Acquire r t) = subst (λ w. MayFollow b.0 n.0.by w) n.3 (legal b.0 b.1 n.0 b.2) in
    ⊎_elim (λ e. sym m.2 ∙ (ap (λ y. y.by) e.0 ∙ n.2))
    (λ e. ⊎_elim (λ h. absurd (second.0 (k, s, (m.0, h, m.2, m.3)))) (λ h. absurd (first.0 (q, t, (n.0, h, n.2, n.3)))) e)
    (two_places a.0 a.1 b.0 b.1 m.0 n.0 (sym a.2 ∙ b.2))

-- every event of a stamped list has a stamp below its length
pub stamp_below : (L : List Event) (e : Event) → IsStamped L → IsAmong e L → e.stamp < length L
stamp_below L e stamped m = let t = among_parts e L m in rw (stamped t.0 t.1 e t.2) (let l = length-append t.0 (e ∷ t.1) in let n = ap length t.2 in omega arith)

-- what an event isn't
pub acquire_row : (r s q t : ℕ) → Acquire r s ≡ Acquire q t → r ≡ q
acquire_row r s q t e = cc

pub final_row : (q r : ℕ) (x y : Exit) (a b : Bool) → Final q x a ≡ Final r y b → q ≡ r
final_row q r x y a b e = cc

pub lease_stream : (q r a b : ℕ) → Lease q a ≡ Lease r b → (q ≡ r) × (a ≡ b)
lease_stream q r a b e = (cc, cc)

pub cancel_stream : (q r : ℕ) (x y : Exit) → Cancel q x ≡ Cancel r y → q ≡ r
cancel_stream q r x y e = cc

-- what stands where an event stands
pub at_noted : (L : List Event) (k : StreamNo) (w : What) → IsLegal L → Notes L k w → (P : List Event) × MayFollow P k w × ((x : Event) → IsAmong x P → IsAmong x L)
at_noted L k w legal n =
    let t = among_parts n.0 L n.1 in
    (t.0, subst (λ x. MayFollow t.0 x w) n.2 (subst (λ x. MayFollow t.0 n.0.by x) n.3 (legal t.0 t.1 n.0 t.2)), λ x m. subst (λ l. IsAmong x l) (sym t.2) (among_left (n.0 ∷ t.1) m))

pub canceled_leased : (L : List Event) (j : ℕ) → IsLegal L → IsCanceled L j → IsLeased L j
canceled_leased L j legal c = let t = at_noted L c.0 (Cancel j c.1.0) legal c.1.1 in let l = t.1.0 in (l.0, l.1, (l.2.0, t.2 l.2.0 l.2.1, l.2.2, l.2.3))

pub lease_other : (L : List Event) (j s : ℕ) (k : StreamNo) → IsLegal L → Notes L k (Lease j s) → k ≢ Inner j
lease_other L j s k legal n = (at_noted L k (Lease j s) legal n).1.1

by_head : (k : StreamNo) (x : Event) (M P Q : List Event) (e : Event) → same_stream x.by k ≡ true → x ∷ by_stream k M ≡ P ++ e ∷ Q → ((P' Q' : List Event) → by_stream k M ≡ P' ++ e ∷ Q' → (R S : List Event) × (M ≡ R ++ e ∷ S) × (by_stream k R ≡ P')) → (R S : List Event) × (x ∷ M ≡ R ++ e ∷ S) × (by_stream k R ≡ P)
by_head k x M [] Q e is h more = ([], M, ap (λ y. y ∷ M) (cut x (by_stream k M) Q e h).0, refl)
by_head k x M (p ∷ P) Q e is h more =
    let t = cut x (by_stream k M) (P ++ e ∷ Q) p h in let r = more P Q t.1 in
    (x ∷ r.0, r.1, ap (λ l. x ∷ l) r.2, subst (λ b. cond b (x ∷ by_stream k r.0) (by_stream k r.0) ≡ p ∷ P) (sym is) (ap (λ y. y ∷ by_stream k r.0) t.0 ∙ ap (λ l. p ∷ l) r.3))

-- a place among the events of k is a place among all
pub by_place : (k : StreamNo) (M P Q : List Event) (e : Event) → by_stream k M ≡ P ++ e ∷ Q → (R S : List Event) × (M ≡ R ++ e ∷ S) × (by_stream k R ≡ P)
by_place k [] P Q e h = absurd (let l = ap length h in let m = length-append P (e ∷ Q) in omega arith)
by_place k (x ∷ M) P Q e h =
    ⊎_elim
    (λ t. by_head k x M P Q e t.1 (subst (λ b. cond b (x ∷ by_stream k M) (by_stream k M) ≡ P ++ e ∷ Q) t.1 h) (λ P' Q' h'. by_place k M P' Q' e h'))
    (λ t. let r = by_place k M P Q e (subst (λ b. cond b (x ∷ by_stream k M) (by_stream k M) ≡ P ++ e ∷ Q) t.1 h) in
    (x ∷ r.0, r.1, ap (λ l. x ∷ l) r.2, subst (λ b. cond b (x ∷ by_stream k r.0) (by_stream k r.0) ≡ P) (sym t.1) r.3))
    (stream_cases x.by k)

pub covers_own : (k : StreamNo) (L M : List Event) → by_stream k L ≡ by_stream k M → (j r : ℕ) → Covers L j k r → Covers M j k r
covers_own k L M is j r c =
    let cut' : by_stream k L ≡ by_stream k c.0 ++ c.2 ∷ by_stream k c.1 = ap (by_stream k) c.4 ∙ (by_both k c.0 (c.2 ∷ c.1) ∙ ⊎_elim (λ t. subst (λ b. by_stream k c.0 ++ cond b (c.2 ∷ by_stream k c.1) (by_stream k c.1) ≡ by_stream k c.0 ++ c.2 ∷ by_stream k c.1) (sym t.1) refl) (λ t. absurd (t.0 c.5)) (stream_cases c.2.by k)) in
    let t = by_place k M (by_stream k c.0) (by_stream k c.1) c.2 (sym is ∙ cut') in
    (t.0, t.1, c.2, c.3, t.2, c.5, c.6, covered_map c.0 t.0 k (noted_own k c.0 t.0 (sym t.3)) c.3 r (closed_map t.0 c.0 k (noted_own k t.0 c.0 t.3)) c.7)
