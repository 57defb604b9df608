-- The tests of the rules are exact.
use Rattle.std.proofs.Common.{◌≡◌, ◌≢◌, ℕ, Bool, true, false, ◌&&◌, ◌||◌, not, nat_eq, List, [], ◌∷◌, ◌++◌, ◌⊎◌, inl, inr, refl, sym, ap, ◌∙◌, subst, ⊎_elim, append_assoc, append-nil}
use Rattle.std.specs.List.{flat_map}
use Rattle.chunk_core.specs.Lists.{IsAmong, has}
use Rattle.std.specs.List.{list_any as any, list_all as all}
use Rattle.chunk_core.specs.Lists.IsAmong.{here}
use Rattle.chunk_core.proofs.Members.{among_mid}
use Rattle.chunk_core.specs.declared.code.Exit.{Exit}
use Rattle.res_ledger.specs.declared.event.StreamNo.{StreamNo}
use Rattle.res_ledger.specs.declared.event.StreamNo.TheVariants.{Inner}
use Rattle.res_ledger.specs.declared.event.What.{What}
use Rattle.res_ledger.specs.declared.event.What.TheVariants.{Open, Acquire, Lease, Cancel, Close, Final}
use Rattle.res_ledger.specs.declared.event.Event.{Event}
use Rattle.res_ledger.specs.Ledger.{Notes, NotesCancel, IsOpened, IsUsable, IsAcquired, IsFinalized, IsLeased, IsCanceled, Covers, IsRowClosed, IsHanded, MayFollow, IsLegal}
use Rattle.res_ledger.specs.Own.{own, opens, rows, acquires_of, leased_of, canceled_of, is_closed}
use Rattle.res_ledger.specs.Streams.{same_stream}
use Rattle.res_ledger.specs.Order.{covered_by}
use Rattle.res_ledger.specs.Whole.{is_final, is_cancel, final_count, cancel_count, IsComplete}
use Rattle.res_ledger.specs.Judge.{each_after, is_noted, is_of, is_acquired, is_leased, is_usable, is_row_closed, is_released, is_handed, is_inherited, is_finished, is_unstarted, may_follow, is_legal, is_answered, is_late, is_complete}
use Rattle.res_ledger.proofs.Tests.{name, named}
use Rattle.chunk_core.proofs.Bools.{both, either, no, or_left, or_right, and_true, tested, number, itself, all_at, each_passes, any_at, any_found, has_in, in_has, fails}
use Rattle.res_ledger.proofs.Noted.{notes_own, opens_notes, rows_notes, leased_notes, canceled_notes, notes_opens, notes_rows, rows_shape, leased_shape, is_final_shape, is_cancel_shape, noted_at, noted_found, flat_holds}
use Rattle.res_ledger.proofs.Scopes.{closed_sound, closed_found}
use Rattle.res_ledger.proofs.Leases.{covered_by_sound, covered_by_found}
use Rattle.res_ledger.proofs.Prefixes.{front_legal, legal_more, nothing_is}

each_after_at : (test : List Event → Event → Bool) (A B : List Event) (e : Event) (P : List Event) → each_after test P (A ++ e ∷ B) ≡ true → test (P ++ A) e ≡ true
each_after_at test [] B e P h = subst (λ l. test l e ≡ true) (sym (append-nil P)) (both (test P e) (each_after test (P ++ e ∷ []) B) h).0
each_after_at test (a ∷ A) B e P h = subst (λ l. test l e ≡ true) (append_assoc P (a ∷ []) A) (each_after_at test A B e (P ++ a ∷ []) (both (test P a) (each_after test (P ++ a ∷ []) (A ++ e ∷ B)) h).1)

-- what a test of each event says where a ledger is split
pub each_event : (test : List Event → Event → Bool) (L A B : List Event) (e : Event) → each_after test [] L ≡ true → L ≡ A ++ e ∷ B → test A e ≡ true
each_event test L A B e h q = each_after_at test A B e [] (subst (λ l. each_after test [] l ≡ true) q h)

each_after_from : (test : List Event → Event → Bool) (P Q : List Event) → ((A B : List Event) (e : Event) → P ++ Q ≡ A ++ e ∷ B → test A e ≡ true) → each_after test P Q ≡ true
each_after_from test P [] h = refl
each_after_from test P (e ∷ Q) h = and_true (test P e) (each_after test (P ++ e ∷ []) Q) (h P Q e refl) (each_after_from test (P ++ e ∷ []) Q (λ A B x q. h A B x (sym (append_assoc P (e ∷ []) Q) ∙ q)))

-- each event passes where it does at each split
pub each_split : (test : List Event → Event → Bool) (L : List Event) → ((A B : List Event) (e : Event) → L ≡ A ++ e ∷ B → test A e ≡ true) → each_after test [] L ≡ true
each_split test L h = each_after_from test [] L h

opened_in : (P : List Event) (k : StreamNo) (s : ℕ) → any (is_of s) (opens (own k P)) ≡ true → IsOpened P k s
opened_in P k s h = let f = any_found (is_of s) (opens (own k P)) h in (f.0.1, subst (λ x. Notes P k (Open x f.0.1)) (number f.0.0 s f.2) (opens_notes P k f.0 f.1))

opened_found : (P : List Event) (k : StreamNo) (s : ℕ) → IsOpened P k s → any (is_of s) (opens (own k P)) ≡ true
opened_found P k s o = let q : ℕ × ℕ = (s, o.0) in any_at (is_of s) q (opens (own k P)) (notes_opens P k s o.0 o.1) (itself s)

pub acquired_in : (P : List Event) (r : ℕ) → is_acquired P r ≡ true → IsAcquired P r
acquired_in P r h =
    let f = noted_found (λ w. any (is_of r) (acquires_of w)) P h in
    let x = any_found (is_of r) (acquires_of f.1) f.3 in
    (f.0, x.0.1, (f.2.0, f.2.1, f.2.2, f.2.3 ∙ rows_shape f.1 x.0 x.1 ∙ ap (λ y. Acquire y x.0.1) (number x.0.0 r x.2)))

acquired_found : (P : List Event) (r : ℕ) → IsAcquired P r → is_acquired P r ≡ true
acquired_found P r o = noted_at (λ w. any (is_of r) (acquires_of w)) P o.0 (Acquire r o.1) o.2 (or_left (nat_eq r r) false (itself r))

leased_in : (P : List Event) (j : ℕ) → is_leased P j ≡ true → IsLeased P j
leased_in P j h =
    let f = noted_found (λ w. any (is_of j) (leased_of w)) P h in
    let l = any_found (is_of j) (leased_of f.1) f.3 in
    (f.0, l.0.1, (f.2.0, f.2.1, f.2.2, f.2.3 ∙ leased_shape f.1 l.0 l.1 ∙ ap (λ y. Lease y l.0.1) (number l.0.0 j l.2)))

leased_found : (P : List Event) (j : ℕ) → IsLeased P j → is_leased P j ≡ true
leased_found P j o = noted_at (λ w. any (is_of j) (leased_of w)) P o.0 (Lease j o.1) o.2 (or_left (nat_eq j j) false (itself j))

canceled_in : (P : List Event) (j : ℕ) → is_noted (is_cancel j) P ≡ true → IsCanceled P j
canceled_in P j h = let f = noted_found (is_cancel j) P h in let g = is_cancel_shape j f.1 f.3 in (f.0, (g.0, (f.2.0, f.2.1, f.2.2, f.2.3 ∙ g.1)))

pub canceled_found : (P : List Event) (j : ℕ) → IsCanceled P j → is_noted (is_cancel j) P ≡ true
canceled_found P j c = noted_at (is_cancel j) P c.0 (Cancel j c.1.0) c.1.1 (itself j)

pub final_in : (P : List Event) (r : ℕ) → is_noted (is_final r) P ≡ true → IsFinalized P r
final_in P r h = let f = noted_found (is_final r) P h in let g = is_final_shape r f.1 f.3 in (f.0, g.1, (g.0, (f.2.0, f.2.1, f.2.2, f.2.3 ∙ g.2)))

pub final_found : (P : List Event) (r : ℕ) → IsFinalized P r → is_noted (is_final r) P ≡ true
final_found P r f = noted_at (is_final r) P f.0 (Final r f.2.0 f.1) f.2.1 (itself r)

usable_sound : (P : List Event) → IsLegal P → (k : StreamNo) (s : ℕ) → is_usable (own k P) s ≡ true → IsUsable P k s
usable_sound P l k s h =
    let b = both (nat_eq s 0 || any (is_of s) (opens (own k P))) (not (is_closed (own k P) s)) h in
    (elim (either (nat_eq s 0) (any (is_of s) (opens (own k P))) b.0) [ inl g ↦ inl (number s 0 g) | inr g ↦ inr (opened_in P k s g) ], λ c. no (is_closed (own k P) s) b.1 (closed_found P l k s c))

known : (P : List Event) (k : StreamNo) (s : ℕ) → (s ≡ 0) ⊎ IsOpened P k s → (nat_eq s 0 || any (is_of s) (opens (own k P))) ≡ true
known P k s (inl z) = or_left (nat_eq s 0) (any (is_of s) (opens (own k P))) (subst (λ x. nat_eq x 0 ≡ true) (sym z) (itself 0))
known P k s (inr o) = or_right (nat_eq s 0) (any (is_of s) (opens (own k P))) (opened_found P k s o)

usable_found : (P : List Event) (k : StreamNo) (s : ℕ) → IsUsable P k s → is_usable (own k P) s ≡ true
usable_found P k s u = and_true (nat_eq s 0 || any (is_of s) (opens (own k P))) (not (is_closed (own k P) s)) (known P k s u.0) (fails (is_closed (own k P) s) (λ h. u.1 (closed_sound P k s h)))

pub row_closed_sound : (P : List Event) (r : ℕ) → is_row_closed P r ≡ true → IsRowClosed P r
row_closed_sound P r h =
    let f = any_found (λ e. any (λ x. nat_eq x.0 r && is_closed (own e.by P) x.1) (acquires_of e.what)) P h in
    let e = f.0 in
    let x = any_found (λ x. nat_eq x.0 r && is_closed (own e.by P) x.1) (acquires_of e.what) f.2 in
    let b = both (nat_eq x.0.0 r) (is_closed (own e.by P) x.0.1) x.2 in
    (e.by, x.0.1, (e, f.1, refl, rows_shape e.what x.0 x.1 ∙ ap (λ y. Acquire y x.0.1) (number x.0.0 r b.0)), closed_sound P e.by x.0.1 b.1)

pub row_closed_found : (P : List Event) → IsLegal P → (r : ℕ) → IsRowClosed P r → is_row_closed P r ≡ true
row_closed_found P l r c =
    let k = c.0 in let s = c.1 in let n = c.2 in
    let q : ℕ × ℕ = (r, s) in
    let t : any (λ x. nat_eq x.0 r && is_closed (own k P) x.1) (q ∷ []) ≡ true =
    or_left (nat_eq r r && is_closed (own k P) s) false (and_true (nat_eq r r) (is_closed (own k P) s) (itself r) (closed_found P l k s c.3)) in
    let u : any (λ x. nat_eq x.0 r && is_closed (own n.0.by P) x.1) (acquires_of n.0.what) ≡ true =
    subst (λ j. any (λ x. nat_eq x.0 r && is_closed (own j P) x.1) (acquires_of n.0.what) ≡ true) (sym n.2) (subst (λ w. any (λ x. nat_eq x.0 r && is_closed (own k P) x.1) (acquires_of w) ≡ true) (sym n.3) t) in
    any_at (λ e. any (λ x. nat_eq x.0 r && is_closed (own e.by P) x.1) (acquires_of e.what)) n.0 P n.1 u

-- each lease that covers a released row was canceled
pub released_sound : (L : List Event) → IsLegal L → (P : List Event) (r : ℕ) → is_released L P r ≡ true → (j : ℕ) (k : StreamNo) → Covers L j k r → IsCanceled P j
released_sound L l P r h j k c =
    let A = c.0 in let e = c.2 in let s = c.3 in
    let q : ℕ × ℕ = (j, s) in
    let m : IsAmong e L = subst (λ x. IsAmong e x) (sym c.4) (among_mid A c.1 e) in
    let g = all_at (λ e. all (λ l. is_noted (is_cancel l.0) P || not (has r (covered_by L l.0))) (leased_of e.what)) e L m h in
    let i : IsAmong q (leased_of e.what) = subst (λ w. IsAmong q (leased_of w)) (sym c.6) (here []) in
    elim (either (is_noted (is_cancel j) P) (not (has r (covered_by L j))) (all_at (λ l. is_noted (is_cancel l.0) P || not (has r (covered_by L l.0))) q (leased_of e.what) i g)) [
      | inl z ↦ canceled_in P j z
      | inr z ↦ absurd (no (has r (covered_by L j)) z (in_has r (covered_by L j) (covered_by_found L l j r k c)))
    ]

released_lease : (L : List Event) → IsLegal L → (P : List Event) (r j : ℕ) → ((j : ℕ) (k : StreamNo) → Covers L j k r → IsCanceled P j) → (is_noted (is_cancel j) P || not (has r (covered_by L j))) ≡ true
released_lease L l P r j f = ⊎_elim
    (λ h. let c = covered_by_sound L l j r (has_in r (covered_by L j) h) in or_left (is_noted (is_cancel j) P) (not (has r (covered_by L j))) (canceled_found P j (f j c.0 c.1)))
    (λ h. or_right (is_noted (is_cancel j) P) (not (has r (covered_by L j))) h)
    (tested (has r (covered_by L j)))

released_found : (L : List Event) → IsLegal L → (P : List Event) (r : ℕ) → ((j : ℕ) (k : StreamNo) → Covers L j k r → IsCanceled P j) → is_released L P r ≡ true
released_found L l P r f = each_passes (λ e. all (λ l. is_noted (is_cancel l.0) P || not (has r (covered_by L l.0))) (leased_of e.what)) L (λ e m. each_passes (λ l. is_noted (is_cancel l.0) P || not (has r (covered_by L l.0))) (leased_of e.what) (λ x i. released_lease L l P r x.0 f))

handed_sound : (P : List Event) → IsLegal P → (r : ℕ) → is_handed P r ≡ true → IsHanded P r
handed_sound P l r h =
    let a = both (is_row_closed P r) (is_released P P r && not (is_noted (is_final r) P)) h in
    let b = both (is_released P P r) (not (is_noted (is_final r) P)) a.1 in
    (row_closed_sound P r a.0, released_sound P l P r b.0, λ f. no (is_noted (is_final r) P) b.1 (final_found P r f))

handed_found : (P : List Event) → IsLegal P → (r : ℕ) → IsHanded P r → is_handed P r ≡ true
handed_found P l r h =
    and_true (is_row_closed P r) (is_released P P r && not (is_noted (is_final r) P)) (row_closed_found P l r h.0)
    (and_true (is_released P P r) (not (is_noted (is_final r) P)) (released_found P l P r h.1) (fails (is_noted (is_final r) P) (λ f. h.2 (final_in P r f))))

inherited_sound : (P : List Event) → IsLegal P → (k : StreamNo) (r : ℕ) → is_inherited P k r ≡ true → (j : ℕ) × (q : StreamNo) × Covers P j q r × NotesCancel P k j
inherited_sound P l k r h =
    let f = any_found (λ j. has r (covered_by P j)) (flat_map canceled_of (own k P)) h in
    let c = covered_by_sound P l f.0 r (has_in r (covered_by P f.0) f.2) in
    (f.0, c.0, c.1, canceled_notes P k f.0 f.1)

inherited_found : (P : List Event) → IsLegal P → (k : StreamNo) (r j : ℕ) (q : StreamNo) → Covers P j q r → NotesCancel P k j → is_inherited P k r ≡ true
inherited_found P l k r j q c n = any_at (λ j. has r (covered_by P j)) j (flat_map canceled_of (own k P)) (flat_holds canceled_of (Cancel j n.0) (own k P) j (notes_own P k (Cancel j n.0) n.1) (here [])) (in_has r (covered_by P j) (covered_by_found P l j r q c))

-- who may cancel the lease for j
abbrev Cancels : List Event → StreamNo → ℕ → Type 0
Cancels P k j = ((k ≡ Inner j) × ((r s : ℕ) → Notes P k (Acquire r s) → IsFinalized P r)) ⊎ (((s : ℕ) × Notes P k (Lease j s)) × ((e : Event) → IsAmong e P → e.by ≢ Inner j))

cancels_sound : (P : List Event) (k : StreamNo) (j : ℕ) → (is_finished P k j || is_unstarted P k j) ≡ true → Cancels P k j
cancels_sound P k j h = elim (either (is_finished P k j) (is_unstarted P k j) h) [
  | inl x ↦
      let c = both (same_stream k (Inner j)) (all (λ x. is_noted (is_final x.0) P) (rows (own k P))) x in
      inl (name k (Inner j) c.0, λ r s n. let y : ℕ × ℕ = (r, s) in final_in P r (all_at (λ x. is_noted (is_final x.0) P) y (rows (own k P)) (notes_rows P k r s n) c.1))
  | inr x ↦
      let c = both (any (is_of j) (flat_map leased_of (own k P))) (not (any (λ e. same_stream e.by (Inner j)) P)) x in
      let l = any_found (is_of j) (flat_map leased_of (own k P)) c.0 in
      inr ((l.0.1, subst (λ y. Notes P k (Lease y l.0.1)) (number l.0.0 j l.2) (leased_notes P k l.0 l.1)), λ e m b. no (any (λ e. same_stream e.by (Inner j)) P) c.1 (any_at (λ e. same_stream e.by (Inner j)) e P m (subst (λ y. same_stream y (Inner j) ≡ true) (sym b) (named (Inner j)))))
]

cancels_found : (P : List Event) (k : StreamNo) (j : ℕ) → Cancels P k j → (is_finished P k j || is_unstarted P k j) ≡ true
cancels_found P k j (inl a) = or_left (is_finished P k j) (is_unstarted P k j)
    (and_true (same_stream k (Inner j)) (all (λ x. is_noted (is_final x.0) P) (rows (own k P))) (subst (λ x. same_stream x (Inner j) ≡ true) (sym a.0) (named (Inner j)))
    (each_passes (λ x. is_noted (is_final x.0) P) (rows (own k P)) (λ x m. final_found P x.0 (a.1 x.0 x.1 (rows_notes P k x m)))))
cancels_found P k j (inr a) =
    let q : ℕ × ℕ = (j, a.0.0) in
    or_right (is_finished P k j) (is_unstarted P k j)
    (and_true (any (is_of j) (flat_map leased_of (own k P))) (not (any (λ e. same_stream e.by (Inner j)) P))
    (any_at (is_of j) q (flat_map leased_of (own k P)) (flat_holds leased_of (Lease j a.0.0) (own k P) q (notes_own P k (Lease j a.0.0) a.0.1) (here [])) (itself j))
    (fails (any (λ e. same_stream e.by (Inner j)) P) (λ h. let f = any_found (λ e. same_stream e.by (Inner j)) P h in a.1 f.0 f.1 (name f.0.by (Inner j) f.2))))

may_follow_sound : (P : List Event) → IsLegal P → (k : StreamNo) (w : What) → may_follow P k w ≡ true → MayFollow P k w
may_follow_sound P l k (Open s p) h =
    let a = both (not (nat_eq s 0)) (not (any (is_of s) (opens (own k P))) && is_usable (own k P) p) h in
    let b = both (not (any (is_of s) (opens (own k P)))) (is_usable (own k P) p) a.1 in
    (λ e. no (nat_eq s 0) a.0 (subst (λ x. nat_eq x 0 ≡ true) (sym e) (itself 0)), λ o. no (any (is_of s) (opens (own k P))) b.0 (opened_found P k s o), usable_sound P l k p b.1)
may_follow_sound P l k (Acquire r s) h =
    let a = both (not (is_acquired P r)) (is_usable (own k P) s) h in
    (λ o. no (is_acquired P r) a.0 (acquired_found P r o), usable_sound P l k s a.1)
may_follow_sound P l k (Lease j s) h =
    let a = both (not (is_leased P j)) (not (same_stream k (Inner j)) && is_usable (own k P) s) h in
    let b = both (not (same_stream k (Inner j))) (is_usable (own k P) s) a.1 in
    (λ o. no (is_leased P j) a.0 (leased_found P j o), λ e. no (same_stream k (Inner j)) b.0 (subst (λ x. same_stream x (Inner j) ≡ true) (sym e) (named (Inner j))), usable_sound P l k s b.1)
may_follow_sound P l k (Cancel j x) h =
    let a = both (is_leased P j) (not (is_noted (is_cancel j) P) && (is_finished P k j || is_unstarted P k j)) h in
    let b = both (not (is_noted (is_cancel j) P)) (is_finished P k j || is_unstarted P k j) a.1 in
    (leased_in P j a.0, λ o. no (is_noted (is_cancel j) P) b.0 (canceled_found P j o), cancels_sound P k j b.1)
may_follow_sound P l k (Close s x) h = usable_sound P l k s h
may_follow_sound P l k (Final r x ok) h =
    let a = both (is_handed P r) (any (is_of r) (rows (own k P)) || is_inherited P k r) h in (
      handed_sound P l r a.0,
      elim (either (any (is_of r) (rows (own k P))) (is_inherited P k r) a.1) [
        | inl x ↦ let f = any_found (is_of r) (rows (own k P)) x in inl (f.0.1, subst (λ y. Notes P k (Acquire y f.0.1)) (number f.0.0 r f.2) (rows_notes P k f.0 f.1))
        | inr x ↦ inr (inherited_sound P l k r x)
      ],
    )

ender_found : (P : List Event) → IsLegal P → (k : StreamNo) (r : ℕ) → ((s : ℕ) × Notes P k (Acquire r s)) ⊎ ((j : ℕ) × (q : StreamNo) × Covers P j q r × NotesCancel P k j) → (any (is_of r) (rows (own k P)) || is_inherited P k r) ≡ true
ender_found P l k r (inl a) = let q : ℕ × ℕ = (r, a.0) in or_left (any (is_of r) (rows (own k P))) (is_inherited P k r) (any_at (is_of r) q (rows (own k P)) (notes_rows P k r a.0 a.1) (itself r))
ender_found P l k r (inr a) = or_right (any (is_of r) (rows (own k P))) (is_inherited P k r) (inherited_found P l k r a.0 a.1 a.2 a.3)

may_follow_found : (P : List Event) → IsLegal P → (k : StreamNo) (w : What) → MayFollow P k w → may_follow P k w ≡ true
may_follow_found P l k (Open s p) m =
    and_true (not (nat_eq s 0)) (not (any (is_of s) (opens (own k P))) && is_usable (own k P) p) (fails (nat_eq s 0) (λ h. m.0 (number s 0 h)))
    (and_true (not (any (is_of s) (opens (own k P)))) (is_usable (own k P) p) (fails (any (is_of s) (opens (own k P))) (λ h. m.1 (opened_in P k s h))) (usable_found P k p m.2))
may_follow_found P l k (Acquire r s) m = and_true (not (is_acquired P r)) (is_usable (own k P) s) (fails (is_acquired P r) (λ h. m.0 (acquired_in P r h))) (usable_found P k s m.1)
may_follow_found P l k (Lease j s) m =
    and_true (not (is_leased P j)) (not (same_stream k (Inner j)) && is_usable (own k P) s) (fails (is_leased P j) (λ h. m.0 (leased_in P j h)))
    (and_true (not (same_stream k (Inner j))) (is_usable (own k P) s) (fails (same_stream k (Inner j)) (λ h. m.1 (name k (Inner j) h))) (usable_found P k s m.2))
may_follow_found P l k (Cancel j x) m =
    and_true (is_leased P j) (not (is_noted (is_cancel j) P) && (is_finished P k j || is_unstarted P k j)) (leased_found P j m.0)
    (and_true (not (is_noted (is_cancel j) P)) (is_finished P k j || is_unstarted P k j) (fails (is_noted (is_cancel j) P) (λ h. m.1 (canceled_in P j h))) (cancels_found P k j m.2))
may_follow_found P l k (Close s x) m = usable_found P k s m
may_follow_found P l k (Final r x ok) m = and_true (is_handed P r) (any (is_of r) (rows (own k P)) || is_inherited P k r) (handed_found P l r m.0) (ender_found P l k r m.1)

legal_from : (P Q : List Event) → IsLegal P → each_after (λ P e. may_follow P e.by e.what) P Q ≡ true → IsLegal (P ++ Q)
legal_from P [] l h = subst IsLegal (sym (append-nil P)) l
legal_from P (e ∷ Q) l h =
    let b = both (may_follow P e.by e.what) (each_after (λ P e. may_follow P e.by e.what) (P ++ e ∷ []) Q) h in
    subst IsLegal (append_assoc P (e ∷ []) Q) (legal_from (P ++ e ∷ []) Q (legal_more P e l (may_follow_sound P l e.by e.what b.0)) b.1)

legal_none : IsLegal []
legal_none [] Q e q = absurd (nothing_is e Q q)
legal_none (a ∷ P) Q e q = absurd (nothing_is a (P ++ e ∷ Q) q)

-- what the test of legality accepts is legal
pub legal_sound : (L : List Event) → is_legal L ≡ true → IsLegal L
legal_sound L h = legal_from [] L legal_none h

-- the test of legality accepts what is legal
pub legal_found : (L : List Event) → IsLegal L → is_legal L ≡ true
legal_found L l = each_split (λ P e. may_follow P e.by e.what) L (λ A B e q. may_follow_found A (front_legal A (e ∷ B) (subst IsLegal q l)) e.by e.what (l A B e q))

answered_at : (L : List Event) (k : StreamNo) (w : What) → all (λ e. is_answered L e.by e.what) L ≡ true → Notes L k w → is_answered L k w ≡ true
answered_at L k w h n = subst (λ x. is_answered L k x ≡ true) n.3 (subst (λ x. is_answered L x n.0.what ≡ true) n.2 (all_at (λ e. is_answered L e.by e.what) n.0 L n.1 h))

-- what the test of completeness accepts is complete
pub complete_sound : (L : List Event) → IsLegal L → is_complete L ≡ true → IsComplete L
complete_sound L l h =
    let b = both (all (λ e. is_answered L e.by e.what) L) (each_after (λ P e. is_late L P e.what) [] L) h in
    let row = λ (k : StreamNo) (r s : ℕ) (n : Notes L k (Acquire r s)). both (nat_eq (final_count r L) 1) (is_closed (own k L) 0) (answered_at L k (Acquire r s) b.0 n) in
    let late = λ (P Q : List Event) (e : Event) (r : ℕ) (x : Exit) (ok : Bool) (q : L ≡ P ++ e ∷ Q) (w : e.what ≡ Final r x ok). both (is_row_closed P r) (is_released L P r) (subst (λ v. is_late L P v ≡ true) w (each_event (λ P e. is_late L P e.what) L P Q e b.1 q)) in
    record {
      finalized_once = λ k r s n. number (final_count r L) 1 (row k r s n).0;
      after_close = λ P Q e r x ok q w. row_closed_sound P r (late P Q e r x ok q w).0;
      after_leases = λ P Q e r x ok q w. released_sound L l P r (late P Q e r x ok q w).1;
      canceled_once = λ k j s n. number (cancel_count j L) 1 (answered_at L k (Lease j s) b.0 n);
      scopes_closed = λ k s p n. closed_sound L k s (answered_at L k (Open s p) b.0 n);
      roots_closed = λ k r s n. closed_sound L k 0 (row k r s n).1;
    }

one : (n : ℕ) → n ≡ 1 → nat_eq n 1 ≡ true
one n e = subst (λ x. nat_eq x 1 ≡ true) (sym e) (itself 1)

answered_found : (L : List Event) → IsLegal L → IsComplete L → (k : StreamNo) (w : What) → Notes L k w → is_answered L k w ≡ true
answered_found L l c k (Open s p) n = closed_found L l k s (c.scopes_closed k s p n)
answered_found L l c k (Acquire r s) n = and_true (nat_eq (final_count r L) 1) (is_closed (own k L) 0) (one (final_count r L) (c.finalized_once k r s n)) (closed_found L l k 0 (c.roots_closed k r s n))
answered_found L l c k (Lease j s) n = one (cancel_count j L) (c.canceled_once k j s n)
answered_found L l c k w n = refl

late_found : (L : List Event) → IsLegal L → IsComplete L → (A B : List Event) (e : Event) (w : What) → L ≡ A ++ e ∷ B → e.what ≡ w → is_late L A w ≡ true
late_found L l c A B e (Final r x ok) q i =
    and_true (is_row_closed A r) (is_released L A r) (row_closed_found A (front_legal A (e ∷ B) (subst IsLegal q l)) r (c.after_close A B e r x ok q i)) (released_found L l A r (c.after_leases A B e r x ok q i))
late_found L l c A B e w q i = refl

-- the test of completeness accepts what is complete
pub complete_found : (L : List Event) → IsLegal L → IsComplete L → is_complete L ≡ true
complete_found L l c =
    and_true (all (λ e. is_answered L e.by e.what) L) (each_after (λ P e. is_late L P e.what) [] L)
    (each_passes (λ e. is_answered L e.by e.what) L (λ e m. answered_found L l c e.by e.what (e, m, refl, refl)))
    (each_split (λ P e. is_late L P e.what) L (λ A B e q. late_found L l c A B e e.what q refl))
