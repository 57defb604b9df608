-- By when leases are canceled, told ahead.
use Rattle.std.proofs.Common.{◌≡◌, ◌≢◌, ℕ, suc, Bool, true, false, ◌<◌, ◌≤◌, ◌^◌, List, ◌∷◌, ◌++◌, refl, sym, ap, ◌∙◌, subst, ⊎_elim, length, arith, Option, None, Some, slice_get, cond}
use Rattle.std.specs.Prelude.{unwrap_or}
use Rattle.std.proofs.lemmas.Option.{slice_get_within}
use Rattle.chunk_core.specs.declared.code.Exit.{Exit}
use Rattle.res_ledger.specs.declared.event.StreamNo.{StreamNo}
use Rattle.res_ledger.specs.declared.event.StreamNo.TheVariants.{Inner}
use Rattle.res_ledger.specs.declared.event.What.{What}
use Rattle.res_ledger.specs.declared.event.What.TheVariants.{Open, Acquire, Lease, Cancel, Close, Final}
use Rattle.res_ledger.specs.declared.event.Event.{Event}
use Rattle.res_ledger.specs.Ledger.{Covers, IsCanceled, IsLegal, Notes, NotesCancel}
use Rattle.ledger_books.specs.declared.index.Key.TheVariants.{Acquired, Canceled}
use Rattle.ledger_books.specs.declared.index.Index.{Index}
use Rattle.ledger_books.specs.declared.ends.Ends.{Ends}
use Rattle.ledger_books.specs.Key.{place_of, same_key}
use Rattle.ledger_books.specs.Keyed.{CoversAt, NotesAt, key_of, number_of}
use Rattle.ledger_books.specs.Untils.{IsFresh, RaisesFor, SetsUntil, WalksBack, cancel_of, latest_of}
use Rattle.ledger_books.specs.Ends.{Foretells, until_of}
use Rattle.ledger_books.proofs.Canceling.{leased_by_one}
use Rattle.ledger_books.proofs.Covering.{covers_mine, covers_to}
use Rattle.chunk_core.specs.Lists.{IsAmong}
use Rattle.chunk_core.proofs.Bools.{number}
use Rattle.chunk_core.proofs.Members.{among_left}
use Rattle.ledger_books.proofs.Noting.{key_itself}
use Rattle.ledger_books.proofs.Placed.{among_at, at_among, at_front, at_more, may_at, noted_before, places}
use Rattle.ledger_books.proofs.Walking.{same_lease}

-- nothing stands from the end on
pub walks_none : (x y f : Index) (L : List Event) (n : ℕ) → length L ≤ n → WalksBack x y f L n
walks_none x y f L n l = record {
  latest = λ k i j s h a. let w = slice_get_within L i a.0 a.1 in absurd (omega arith);
  rows = λ k m r t h a g. let w = slice_get_within L m a.0 a.1 in absurd (omega arith);
}

raised : (x y f : Index) (k : StreamNo) (w : What) → RaisesFor x y f k w → (n : ℕ) → latest_of x n ≤ latest_of y n
raised x y f k (Lease j s) r n = r.more n
raised x y f k (Open s p) r n = subst (λ z. latest_of x n ≤ latest_of z n) (sym r) (omega arith)
raised x y f k (Acquire s p) r n = subst (λ z. latest_of x n ≤ latest_of z n) (sym r) (omega arith)
raised x y f k (Cancel s p) r n = subst (λ z. latest_of x n ≤ latest_of z n) (sym r) (omega arith)
raised x y f k (Close s p) r n = subst (λ z. latest_of x n ≤ latest_of z n) (sym r) (omega arith)
raised x y f k (Final s p o) r n = subst (λ z. latest_of x n ≤ latest_of z n) (sym r) (omega arith)

-- another row keeps its place
set_still : (x y : Index) (u : ℕ) (w : What) (r : ℕ) → SetsUntil x y u w → ((t : ℕ) → w ≢ Acquire r t) → place_of y (Acquired r) ≡ place_of x (Acquired r)
set_still x y u (Acquire q t) r s n = s (Acquired r) ∙ other (same_key (Acquired q) (Acquired r)) refl
  where
    other : (c : Bool) → same_key (Acquired q) (Acquired r) ≡ c → cond c (Some u) (place_of x (Acquired r)) ≡ place_of x (Acquired r)
    other false h = refl
    other true h = absurd (n t (ap (λ z. Acquire z t) (number q r h)))
set_still x y u (Lease j s) r e n = ap (λ z. place_of z (Acquired r)) e
set_still x y u (Open j s) r e n = ap (λ z. place_of z (Acquired r)) e
set_still x y u (Cancel j s) r e n = ap (λ z. place_of z (Acquired r)) e
set_still x y u (Close j s) r e n = ap (λ z. place_of z (Acquired r)) e
set_still x y u (Final j s o) r e n = ap (λ z. place_of z (Acquired r)) e

module _ (x y p q f : Index) (L : List Event) (n : ℕ) (e : Event) (stands : slice_get L n ≡ Some e) (w : WalksBack x p f L (suc n)) (set : SetsUntil p q (latest_of x (number_of e.by)) e.what) (up : RaisesFor x y f e.by e.what) where
  is_it : (i : ℕ) (k : StreamNo) (v : What) → i ≡ n → NotesAt L i k v → (e.by ≡ k) × (e.what ≡ v)
  is_it i k v h a =
      let s : Some e ≡ Some a.0 = sym stands ∙ ap (slice_get L) (sym h) ∙ a.1 in
      let g : e ≡ a.0 = cc in
      (ap (λ z. z.by) g ∙ a.2, ap (λ z. z.what) g ∙ a.3)

  -- one event more, in front
  pub walks_more : WalksBack y q f L n
  walks_more = record {
    latest = λ k i j s h a. ⊎_elim
        (λ z.
        let t = is_it i k (Lease j s) z a in
        let r : RaisesFor x y f k (Lease j s) = subst (λ g. RaisesFor x y f k g) t.1 (subst (λ g. RaisesFor x y f g e.what) t.0 up) in
        r.reaches)
        (λ o. ⊎_elim
        (λ l. absurd (omega arith))
        (λ l. let a1 = w.latest k i j s (omega arith) a in let a2 = raised x y f e.by e.what up (number_of k) in omega arith)
        o)
        (places i n);
    rows = λ k m r t h a g. ⊎_elim
        (λ z.
        let b = is_it m k (Acquire r t) z a in
        let s : SetsUntil p q (latest_of x (number_of k)) (Acquire r t) = subst (SetsUntil p q (latest_of x (number_of k))) b.1 (subst (λ o. SetsUntil p q (latest_of x (number_of o)) e.what) b.0 set) in
        (latest_of x (number_of k), s (Acquired r) ∙ ap (λ c. cond c (Some (latest_of x (number_of k))) (place_of p (Acquired r))) (key_itself (Acquired r)), λ i j u l c. w.latest k i j u (omega arith) c))
        (λ o. ⊎_elim
        (λ l. absurd (omega arith))
        (λ l.
        let other : (u : ℕ) → e.what ≢ Acquire r u = λ u v. g n e.by u (omega arith) l (e, stands, refl, v) in
        let b = w.rows k m r t (omega arith) a (λ i c u v d. g i c u (omega arith) d) in
        (b.0, set_still p q (latest_of x (number_of e.by)) e.what r set other ∙ b.1, b.2))
        o)
        (places m n);
  }

cancel_shape : (k : StreamNo) (w : What) (j : ℕ) → key_of k w ≡ Canceled j → (y : Exit) × (w ≡ Cancel j y)
cancel_shape k (Cancel i y) j e = (y, (cc))
cancel_shape k (Final q x ok) j e = cc
cancel_shape k (Open t p) j e = cc
cancel_shape k (Acquire t p) j e = cc
cancel_shape k (Lease t p) j e = cc
cancel_shape k (Close t p) j e = cc

module _ (x : Ends) (P : List Event) (f : Foretells x P) (small : length P < 2 ^ 64) where
  -- a lease whose Cancel is told in front of the next place is canceled
  canceled_by_then : (j : ℕ) → cancel_of x.firsts j < length P → IsCanceled P j
  canceled_by_then j l = there (place_of x.firsts (Canceled j)) refl l
    where
      there : (o : Option ℕ) → place_of x.firsts (Canceled j) ≡ o → unwrap_or o 18446744073709551615 < length P → IsCanceled P j
      there None h l = absurd (omega arith)
      there (Some m) h l =
          let t = f.3.firsts.found (Canceled j) m h in
          let c = cancel_shape t.0.by t.0.what j t.2 in
          let g : slice_get (P ++ f.1) m ≡ Some t.0 = ap (λ z. slice_get z m) (sym f.2) ∙ t.1 in
          (t.0.by, (c.0, (t.0, at_among P m t.0 (at_front P f.1 m t.0 l g), refl, c.1)))

  -- where that is told of each lease behind a row, those that cover it are canceled
  pub free_by_then : IsLegal P → (at r t : ℕ) (q : StreamNo) → NotesAt P at q (Acquire r t) → until_of x r < length P → (j : ℕ) (k : StreamNo) → Covers P j k r → IsCanceled P j
  free_by_then legal at r t q row u j k v =
      let c = covers_to P j r k v in
      let m = covers_mine P legal k q c.0 j c.1 r at t c.2 row c.3 in
      let wide : (i : ℕ) (h : StreamNo) (w : What) → NotesAt P i h w → NotesAt f.0 i h w = λ i h w a. (a.0, ap (λ z. slice_get z i) f.2 ∙ (at_more P f.1 i a.0 a.1).0, a.2, a.3) in
      let long = (at_more P f.1 at row.0 row.1).1 in
      let fresh : IsFresh f.0 r 0 at = λ l h s z d a.
      let b : NotesAt P l h (Acquire r s) = (a.0, at_front P f.1 l a.0 (omega arith) (ap (λ y. slice_get y l) (sym f.2) ∙ a.1), a.2, a.3) in
      let g = may_at P legal q at (Acquire r t) row in
      g.5.0 (h, s, noted_before P at g.2 g.0 g.1 h (Acquire r s) g.3 g.4 l d b) in
      let s = f.3.untils q at r t (wide at q (Acquire r t) row) fresh in
      let lease : NotesAt f.0 c.0 q (Lease j c.1) = wide c.0 q (Lease j c.1) (subst (λ h. NotesAt P c.0 h (Lease j c.1)) m.0 c.2) in
      let a1 = s.2 c.0 j c.1 m.1 lease in
      let a2 : s.0 < length P = subst (λ o. unwrap_or o 18446744073709551615 < length P) s.1 u in
      canceled_by_then j (omega arith)

-- a stream is leased for at one place
pub leased_at_one : (P : List Event) → IsLegal P → (i h j s t : ℕ) (k q : StreamNo) → NotesAt P i k (Lease j s) → NotesAt P h q (Lease j t) → (i ≡ h) × (s ≡ t) × (k ≡ q)
leased_at_one P legal i h j s u k q a b = ⊎_elim
    (λ e. let t = same_lease P h j j s u k q (subst (λ z. NotesAt P z k (Lease j s)) e a) b in (e, t.1, t.2))
    (λ o. absurd (⊎_elim
    (λ l. let m = may_at P legal q h (Lease j u) b in m.5.0 (k, s, noted_before P h m.2 m.0 m.1 k (Lease j s) m.3 m.4 i l a))
    (λ l. let m = may_at P legal k i (Lease j s) a in m.5.0 (q, u, noted_before P i m.2 m.0 m.1 q (Lease j u) m.3 m.4 h l b))
    o))
    (places i h)

-- who cancels a lease that covers the row of another stream is the stream that it is for
pub canceled_own : (P : List Event) → IsLegal P → (at r t j : ℕ) (q k h : StreamNo) → NotesAt P at q (Acquire r t) → k ≢ q → Covers P j h r → NotesCancel P k j → k ≡ Inner j
canceled_own P legal at r t j q k h row other v c =
    let p = among_at c.1.0 P c.1.1 in
    let m = may_at P legal k p.0 (Cancel j c.0) (c.1.0, p.1, c.1.2, c.1.3) in
    ⊎_elim
    (λ a. a.0)
    (λ b.
    let d = covers_to P j r h v in
    let mine = covers_mine P legal h q d.0 j d.1 r at t d.2 row d.3 in
    let n : Notes P k (Lease j b.0.0) = (b.0.1.0, in_front P m.0 (m.2 ∷ m.1) m.3 b.0.1.0 b.0.1.1, b.0.1.2, b.0.1.3) in
    absurd (other (sym (leased_by_one P legal d.0 j d.1 b.0.0 h k d.2 n) ∙ mine.0)))
    m.5.2
  where
    in_front : (P A B : List Event) → P ≡ A ++ B → (e : Event) → IsAmong e A → IsAmong e P
    in_front P A B c e m = subst (IsAmong e) (sym c) (among_left B m)

-- a covering lease is the one that is noted for its stream
pub covers_noted : (P : List Event) → IsLegal P → (i j s r : ℕ) (k h : StreamNo) → NotesAt P i k (Lease j s) → Covers P j h r → CoversAt P i k s r
covers_noted P legal i j s r k h a v =
    let d = covers_to P j r h v in
    let e = leased_at_one P legal d.0 i j d.1 s h k d.2 a in
    subst (λ z. CoversAt P i z s r) e.2 (subst (λ z. CoversAt P i h z r) e.1 (subst (λ z. CoversAt P z h d.1 r) e.0 d.3))
