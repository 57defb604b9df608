-- Where scopes are closed, told ahead.
use Rattle.std.proofs.Common.{◌≡◌, ◌≢◌, ◌↔◌, ℕ, ◌<◌, ◌≤◌, ◌^◌, Bool, true, false, cond, List, [], ◌∷◌, ◌++◌, ◌⊎◌, inl, inr, refl, sym, ap, ◌∙◌, subst, ⊎_elim, length, arith, Option, None, Some, slice_get}
use Rattle.std.specs.Prelude.{is_some, unwrap_or}
use Rattle.std.proofs.lemmas.Bool.{false≢true}
use Rattle.chunk_core.specs.Lists.{IsAmong}
use Rattle.chunk_core.proofs.Members.{among_nil, among_snoc}
use Rattle.chunk_core.specs.declared.code.Exit.{Exit}
use Rattle.res_ledger.specs.declared.event.StreamNo.{StreamNo}
use Rattle.res_ledger.specs.declared.event.What.TheVariants.{Open, Close}
use Rattle.res_ledger.specs.declared.event.Event.{Event}
use Rattle.res_ledger.specs.Ledger.{Notes, LiesWithin, IsOpened, IsClosed, IsLegal, MayFollow}
use Rattle.res_ledger.specs.Ledger.LiesWithin.{same, below}
use Rattle.res_ledger.proofs.Prefixes.{front_legal, front_notes, front_within}
use Rattle.ledger_books.specs.declared.index.Key.{Key}
use Rattle.ledger_books.specs.declared.index.Key.TheVariants.{Closed, Opened}
use Rattle.ledger_books.specs.declared.index.Index.{Index}
use Rattle.ledger_books.specs.declared.ends.Ends.{Ends}
use Rattle.ledger_books.specs.Key.{place_of, same_key}
use Rattle.ledger_books.specs.Keyed.{KeepsFirst, NotesAt, key_of, number_of}
use Rattle.ledger_books.specs.Ends.{EndsBefore, Foresees, Foretells, IsFirsts, OpensEnd, close_of, end_of}
use Rattle.ledger_books.specs.Untils.{Settles}
use Rattle.ledger_books.proofs.Keys.{close_key, number_is}
use Rattle.ledger_books.proofs.Noting.{at_snoc, key_itself, same_key_is}
use Rattle.ledger_books.proofs.Placed.{among_at, at_among, at_front, at_more, may_at, noted_at_place}

pub firsts_none : (x : Index) → ((q : Key) → place_of x q ≡ None) → IsFirsts x []
firsts_none x n = record { found = λ q i h. (let u = sym (n q) ∙ h in cc); first = λ m e h. cc }

at_end : (P : List Event) (e : Event) → slice_get (P ++ e ∷ []) (length P) ≡ Some e
at_end [] e = refl
at_end (x ∷ P) e = at_end P e

pub firsts_more : (x y : Index) (P : List Event) (e : Event) → IsFirsts x P → KeepsFirst x y (key_of e.by e.what) (length P) → IsFirsts y (P ++ e ∷ [])
firsts_more x y P e f (inl k) = subst (λ z. IsFirsts z (P ++ e ∷ [])) (sym k.0) (record {
  found = λ q i h. let t = f.found q i h in (t.0, (at_more P (e ∷ []) i t.0 t.1).0, t.2);
  first = λ m g h. ⊎_elim
      (λ l. f.first m g l)
      (λ l. kept (place_of x (key_of e.by e.what)) refl k.1 m g l.0 l.1)
      (at_snoc P e g m h);
})
  where
    kept : (o : Option ℕ) → place_of x (key_of e.by e.what) ≡ o → is_some o ≡ true → (m : ℕ) (g : Event) → m ≡ length P → g ≡ e → (i : ℕ) × (place_of x (key_of g.by g.what) ≡ Some i) × (i ≤ m)
    kept None h s m g l q = absurd (false≢true s)
    kept (Some i) h s m g l q =
        let t = f.found (key_of e.by e.what) i h in
        let w = (at_more P [] i t.0 t.1).1 in
        (i, ap (λ z. place_of x (key_of z.by z.what)) q ∙ h, (omega arith))
firsts_more x y P e f (inr k) = record {
  found = λ q i h. found q i (same_key (key_of e.by e.what) q) refl (sym (k.1 q) ∙ h);
  first = λ m g h. ⊎_elim
      (λ l. let t = f.first m g l in (t.0, k.1 (key_of g.by g.what) ∙ kept g t.0 (same_key (key_of e.by e.what) (key_of g.by g.what)) refl t.1, t.2))
      (λ l. (length P, k.1 (key_of g.by g.what) ∙ ap (λ c. cond c (Some (length P)) (place_of x (key_of g.by g.what))) (ap (λ z. same_key (key_of e.by e.what) (key_of z.by z.what)) l.1 ∙ key_itself (key_of e.by e.what)), (let w = l.0 in omega arith)))
      (at_snoc P e g m h);
}
  where
    found : (q : Key) (i : ℕ) (c : Bool) → same_key (key_of e.by e.what) q ≡ c → cond c (Some (length P)) (place_of x q) ≡ Some i → (g : Event) × (slice_get (P ++ e ∷ []) i ≡ Some g) × (key_of g.by g.what ≡ q)
    found q i true s h = let m : length P ≡ i = cc in (e, subst (λ n. slice_get (P ++ e ∷ []) n ≡ Some e) m (at_end P e), same_key_is (key_of e.by e.what) q s)
    found q i false s h = let t = f.found q i h in (t.0, (at_more P (e ∷ []) i t.0 t.1).0, t.2)

    kept : (g : Event) (i : ℕ) (c : Bool) → same_key (key_of e.by e.what) (key_of g.by g.what) ≡ c → place_of x (key_of g.by g.what) ≡ Some i → cond c (Some (length P)) (place_of x (key_of g.by g.what)) ≡ Some i
    kept g i false s h = h
    kept g i true s h = let u = sym k.0 ∙ ap (place_of x) (same_key_is (key_of e.by e.what) (key_of g.by g.what) s) ∙ h in cc

module _ (x : Index) (L : List Event) (f : IsFirsts x L) (k : StreamNo) (s i : ℕ) (small : i < 2 ^ 64) where
  -- a Close in front of a place is told by its first place
  pub close_before : (unwrap_or (place_of x (Closed (number_of k) s)) 18446744073709551615 < i) ↔ ((m : ℕ) × (y : Exit) × (m < i) × NotesAt L m k (Close s y))
  close_before = (
    there (place_of x (Closed (number_of k) s)) refl,
    (λ t.
        let u = f.first t.0 t.3.0 t.3.1 in
        let q : place_of x (Closed (number_of k) s) ≡ Some u.0 = ap (place_of x) (sym (ap (key_of t.3.0.by) t.3.3 ∙ ap (λ j. Closed (number_of j) s) t.3.2)) ∙ u.1 in
        subst (λ o. unwrap_or o 18446744073709551615 < i) (sym q) (let a = u.2 in let b = t.2 in omega arith)),
  )
    where
      there : (o : Option ℕ) → place_of x (Closed (number_of k) s) ≡ o → unwrap_or o 18446744073709551615 < i → (m : ℕ) × (y : Exit) × (m < i) × NotesAt L m k (Close s y)
      there None h l = absurd (omega arith)
      there (Some m) h l =
          let t = f.found (Closed (number_of k) s) m h in
          let c = close_key t.0 k s (inl t.2) in
          (m, c.1.0, l, (t.0, t.1, c.0, c.1.1))

-- nothing was opened
within_none : (k : StreamNo) (s a : ℕ) → LiesWithin [] k s a → s ≡ a
within_none k s a (same y) = refl
within_none k s a (below y q b n w) = absurd (among_nil n.1)

pub foresees_none : (x : Ends) (L : List Event) → IsFirsts x.firsts L → Settles x.untils x.firsts L → ((q : Key) → place_of x.ends q ≡ None) → Foresees x L []
foresees_none x L f g n = record { firsts = f; untils = g; ends = λ k s i l. subst (λ o. (unwrap_or o (close_of x (number_of k) s) < i) ↔ EndsBefore L [] k s i) (sym (n (Opened (number_of k) s))) (at k s i l) }
  where
    at : (k : StreamNo) (s i : ℕ) → i < 2 ^ 64 → (close_of x (number_of k) s < i) ↔ EndsBefore L [] k s i
    at k s i l = ((λ h. (s, same s, (close_before x.firsts L f k s i l).0 h)), (λ t. (close_before x.firsts L f k s i l).1 (let e = within_none k s t.0 t.1 in subst (λ a. (m : ℕ) × (y : Exit) × (m < i) × NotesAt L m k (Close a y)) (sym e) t.2)))

-- what k opens is nothing that it lay below before
module _ (P : List Event) (e : Event) (legal : IsLegal (P ++ e ∷ [])) (k : StreamNo) where
  abbrev IsNew : ℕ → Type 0
  IsNew s = (p : ℕ) × (e.by ≡ k) × (e.what ≡ Open s p)

  new_parent : (s p : ℕ) → Notes P k (Open s p) → ¬ (IsNew p)
  new_parent s p n w =
      let m : MayFollow P k (Open p w.0) = subst (MayFollow P k) w.2 (subst (λ j. MayFollow P j e.what) w.1 (legal P [] e refl)) in
      let t = noted_at_place P (front_legal P (e ∷ []) legal) k (Open s p) n in
      let u = may_at P (front_legal P (e ∷ []) legal) k t.0 (Open s p) t.1 in
      ⊎_elim (λ z. m.0 z) (λ o. m.1 (o.0, subst (λ l. Notes l k (Open p o.0)) (sym u.3) (front_notes (u.2 ∷ u.1) o.1))) u.5.2.0

  pub within_old : {s a : ℕ} → ¬ (IsNew s) → LiesWithin (P ++ e ∷ []) k s a → LiesWithin P k s a
  within_old n (same s) = same s
  within_old n (below s p a o w) = ⊎_elim
      (λ l. let u : Notes P k (Open s p) = (o.0, l, o.2, o.3) in below s p a u (within_old (new_parent s p u) w))
      (λ q. absurd (n (p, ap (λ z. z.by) (sym q) ∙ o.2, ap (λ z. z.what) (sym q) ∙ o.3)))
      (among_snoc P o.0 e o.1)

  -- what lies below what was opened lies there by its parent, or is it
  pub within_new : {s a : ℕ} (p : ℕ) → e.by ≡ k → e.what ≡ Open s p → LiesWithin (P ++ e ∷ []) k s a → (s ≡ a) ⊎ LiesWithin P k p a
  within_new p b w (same s) = inl refl
  within_new p b w (below s q a o v) = ⊎_elim
      (λ l.
      let m : MayFollow P k (Open s p) = subst (MayFollow P k) w (subst (λ j. MayFollow P j e.what) b (legal P [] e refl)) in
      absurd (m.1 (q, (o.0, l, o.2, o.3))))
      (λ g.
      let r : Open s q ≡ Open s p = sym o.3 ∙ ap (λ z. z.what) g ∙ w in
      let f : q ≡ p = cc in
      let m : MayFollow P k (Open s p) = subst (MayFollow P k) w (subst (λ j. MayFollow P j e.what) b (legal P [] e refl)) in
      let old : ¬ (IsNew p) = λ x.
      let d : Open s p ≡ Open p x.0 = sym w ∙ x.2 in
      let h : s ≡ p = cc in
      ⊎_elim (λ z. m.0 (h ∙ z)) (λ y. m.1 (subst (IsOpened P k) (sym h) y)) m.2.0 in
      inr (within_old old (subst (λ z. LiesWithin (P ++ e ∷ []) k z a) f v)))
      (among_snoc P o.0 e o.1)

  pub ends_still : (L : List Event) (s i : ℕ) → ¬ (IsNew s) → EndsBefore L P k s i ↔ EndsBefore L (P ++ e ∷ []) k s i
  ends_still L s i n = ((λ t. (t.0, front_within (e ∷ []) t.1, t.2)), (λ t. (t.0, within_old n t.1, t.2)))

pub same_end : (k s l t : ℕ) → same_key (Opened k s) (Opened l t) ≡ true → (k ≡ l) × (s ≡ t)
same_end k s l t h = let e = same_key_is (Opened k s) (Opened l t) h in ((cc), (cc))

-- a scope is opened
pub foresees_open : (x y : Ends) (L P : List Event) (e : Event) → IsLegal (P ++ e ∷ []) → Foresees x L P → (s p : ℕ) → e.what ≡ Open s p → OpensEnd x y (number_of e.by) s p → Foresees y L (P ++ e ∷ [])
foresees_open x y L P e legal f s p w o = record {
  firsts = subst (λ z. IsFirsts z L) (sym o.firsts) f.firsts;
  untils = subst (λ z. Settles y.untils z L) (sym o.firsts) (subst (λ z. Settles z x.firsts L) (sym o.untils) f.untils);
  ends = λ k t i l. subst (λ z. (unwrap_or z (close_of y (number_of k) t) < i) ↔ EndsBefore L (P ++ e ∷ []) k t i) (sym (o.end.2 (Opened (number_of k) t))) (at k t i l (same_key (Opened (number_of e.by) s) (Opened (number_of k) t)) refl);
}
  where
    at : (k : StreamNo) (t i : ℕ) → i < 2 ^ 64 → (c : Bool) → same_key (Opened (number_of e.by) s) (Opened (number_of k) t) ≡ c → (unwrap_or (cond c (Some o.end.0) (place_of x.ends (Opened (number_of k) t))) (close_of y (number_of k) t) < i) ↔ EndsBefore L (P ++ e ∷ []) k t i
    at k t i l true h =
        let q = same_end (number_of e.by) s (number_of k) t h in
        let b : e.by ≡ k = number_is e.by k q.0 in
        let v : e.what ≡ Open t p = w ∙ ap (λ z. Open z p) q.1 in
        let u : (o.end.0 < i) ↔ ((close_of x (number_of k) t < i) ⊎ (end_of x (number_of k) p < i)) = subst (λ n. (o.end.0 < i) ↔ ((close_of x n t < i) ⊎ (end_of x n p < i))) q.0 (subst (λ z. (o.end.0 < i) ↔ ((close_of x (number_of e.by) z < i) ⊎ (end_of x (number_of e.by) p < i))) q.1 (o.end.1 i)) in (
          (λ m. ⊎_elim
              (λ a. (t, same t, (close_before x.firsts L f.firsts k t i l).0 a))
              (λ a. let d = (f.ends k p i l).0 a in (d.0, below t p d.0 (e, among_end P, b, v) (front_within (e ∷ []) d.1), d.2))
              (u.0 m)),
          (λ d. u.1 (⊎_elim
              (λ a. inl ((close_before x.firsts L f.firsts k t i l).1 (subst (λ z. (m : ℕ) × (y : Exit) × (m < i) × NotesAt L m k (Close z y)) (sym a) d.2)))
              (λ a. inr ((f.ends k p i l).1 (d.0, a, d.2)))
              (within_new P e legal k p b v d.1))),
        )
      where
        among_end : (P : List Event) → IsAmong e (P ++ e ∷ [])
        among_end P = at_among (P ++ e ∷ []) (length P) e (at_end P e)
    at k t i l false h =
        let n : ¬ (IsNew P e legal k t) = λ m.
        let r : Open s p ≡ Open t m.0 = sym w ∙ m.2 in
        let q : s ≡ t = cc in
        false≢true (sym h ∙ ap (λ j. same_key (Opened (number_of j) s) (Opened (number_of k) t)) m.1 ∙ ap (λ z. same_key (Opened (number_of k) z) (Opened (number_of k) t)) q ∙ key_itself (Opened (number_of k) t)) in
        let a : (end_of x (number_of k) t < i) ↔ EndsBefore L P k t i = f.ends k t i l in
        let b : (unwrap_or (place_of x.ends (Opened (number_of k) t)) (close_of y (number_of k) t) < i) ↔ EndsBefore L P k t i = subst (λ z. (unwrap_or (place_of x.ends (Opened (number_of k) t)) (unwrap_or (place_of z (Closed (number_of k) t)) 18446744073709551615) < i) ↔ EndsBefore L P k t i) (sym o.firsts) a in
        let d = ends_still P e legal k L t i n in
        ((λ m. d.0 (b.0 m)), (λ m. b.1 (d.1 m)))

-- no scope is opened
pub foresees_still : (x : Ends) (L P : List Event) (e : Event) → IsLegal (P ++ e ∷ []) → Foresees x L P → ((s p : ℕ) → e.what ≢ Open s p) → Foresees x L (P ++ e ∷ [])
foresees_still x L P e legal f n = record { firsts = f.firsts; untils = f.untils; ends = λ k s i l. let d = ends_still P e legal k L s i (λ m. n s m.0 m.2) in let a = f.ends k s i l in ((λ m. d.0 (a.0 m)), (λ m. a.1 (d.1 m))) }

-- a scope is closed exactly where it is told to be closed in front of the next place
pub closed_by_end : (x : Ends) (P : List Event) → Foretells x P → length P < 2 ^ 64 → (k : StreamNo) (s : ℕ) → (end_of x (number_of k) s < length P) ↔ IsClosed P k s
closed_by_end x P f l k s =
    let a = f.3.ends k s (length P) l in (
      (λ h. let t = a.0 h in
          let u = t.2.3 in
          let g : slice_get (P ++ f.1) t.2.0 ≡ Some u.0 = ap (λ z. slice_get z t.2.0) (sym f.2) ∙ u.1 in
          (t.0, t.1, (t.2.1, (u.0, at_among P t.2.0 u.0 (at_front P f.1 t.2.0 u.0 t.2.2 g), u.2, u.3)))),
      (λ c. a.1 (let n = c.2.1 in
          let v = among_at n.0 P n.1 in
          let w = at_more P f.1 v.0 n.0 v.1 in
          (c.0, c.1, (v.0, c.2.0, w.1, (n.0, ap (λ z. slice_get z v.0) f.2 ∙ w.0, n.2, n.3))))),
    )
