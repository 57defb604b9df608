-- What a step keeps of a tree's shelf.
use Rattle.std.proofs.Common.{◌≡◌, ℕ, ◌<◌, ◌⊎◌, Bool, cond, List, [], ◌∷◌, ◌++◌, inl, inr, refl, sym, ap, ◌∙◌, subst, ⊎_elim, append_assoc, append-nil, nat_eq}
use Rattle.res_ledger.specs.Ledger.{Covers}
use Rattle.std.proofs.lemmas.Grind.{flat_map-append}
use Rattle.chunk_core.specs.declared.code.Exit.{Exit}
use Rattle.chunk_core.specs.Lists.{IsAmong}
use Rattle.chunk_core.specs.Lists.IsAmong.{here, there}
use Rattle.chunk_core.proofs.Filters.{among_append, among_right}
use Rattle.chunk_core.proofs.Members.{among_nil, among_cons, among_left, among_snoc}
use Rattle.res_ledger.specs.declared.event.Event.{Event}
use Rattle.res_ledger.specs.declared.event.StreamNo.{StreamNo}
use Rattle.res_ledger.specs.declared.event.What.{What}
use Rattle.res_ledger.specs.declared.event.What.TheVariants.{Final}
use Rattle.res_ledger.specs.Order.{firsts}
use Rattle.std.proofs.lemmas.Bool.{cases_eq}
use Rattle.res_ledger.specs.Streams.{by_stream, same_stream}
use Rattle.res_ledger.proofs.Growth.{noted_more}
use Rattle.res_ledger.proofs.Ledgers.{by_both, by_in, covers_more, stream_same}
use Rattle.res_ledger.specs.Rising.{Rises}
use Rattle.row_seat.specs.declared.view.Left.{Left}
use Rattle.row_seat.specs.declared.view.Left.TheVariants.{Stays, Yours}
use Rattle.row_seat.specs.declared.view.View.{View}
use Rattle.row_seat.specs.Views.{HasPair, HasRow, IsFreshStamp, noted, without_pair}
use Rattle.scope_tree.specs.declared.branch.AcquiredRow.{AcquiredRow}
use Rattle.scope_tree.specs.declared.branch.Spent.{Spent}
use Rattle.scope_tree.specs.Rows.{Once}
use Rattle.std.specs.List.{IsDistinct}
use Rattle.scope_tree.specs.Released.{CanLetGo, CanRelease, Holder, LetsGo, MayWait, Released, finalized, said}
use Rattle.scope_tree.specs.Released.Holder.{owner, lease}
use Rattle.scope_tree.specs.Released.Released.{done, stays, ends_so}
use Rattle.scope_tree.specs.Trace.{ended_rows, ends_of, trace}
use Rattle.scope_tree.specs.Kept.{Shelved}
use Rattle.scope_tree.proofs.Bridge.{own_snoc}
use Rattle.scope_tree.proofs.Distinct.{firsts_append, said_append}
use Rattle.scope_tree.proofs.Once.{gone_without}
use Rattle.chunk_core.proofs.Distinct.{distinct_append, distinct_nil, distinct_one}
use Rattle.scope_tree.proofs.Follows.{Follows, end_follows, follows_covers, follows_mine, follows_then, go_follows, let_go, same_by, same_empty, same_main}
use Rattle.scope_tree.proofs.Lists.{keep_row, lose_pair, lost_pair}
use Rattle.scope_tree.proofs.Releasing.{can_ends, can_stays}

pub rises_snoc : (L : List Event) (e : Event) → Rises L → ((x : Event) → IsAmong x L → x.stamp < e.stamp) → Rises (L ++ e ∷ [])
rises_snoc [] e r h = ((λ x m. absurd (among_nil m)), tt)
rises_snoc (y ∷ L) e r h = ((λ x m. ⊎_elim (λ n. r.0 x n) (λ i. subst (λ (z : Event). y.stamp < z.stamp) (sym i) (h y (here L))) (among_snoc L x e m)), rises_snoc L e r.1 (λ x m. h x (there y m)))

pub by_snoc : (k : StreamNo) (L : List Event) (e : Event) → e.by ≡ k → by_stream k (L ++ e ∷ []) ≡ by_stream k L ++ e ∷ []
by_snoc k L e h = by_both k L (e ∷ []) ∙ ap (λ b. by_stream k L ++ cond b (e ∷ []) []) (ap (λ a. same_stream a k) h ∙ stream_same k)

module _ {P : Type 0} where
  pub rises_next : (v : View P) (n : ℕ) (w : What) → IsFreshStamp v n → Rises (by_stream v.by v.events) → Rises (by_stream v.by (v.events ++ record { stamp = n; by = v.by; what = w } ∷ []))
  rises_next v n w f r =
      let e : Event = record { stamp = n; by = v.by; what = w } in
      subst Rises (sym (by_snoc v.by v.events e refl)) (rises_snoc (by_stream v.by v.events) e r (λ x m. f.1 x (by_in v.by v.events x m).0))

  pub ended_next : (v : View P) (n : ℕ) (w : What) → ended_rows (trace (noted v (record { stamp = n; by = v.by; what = w }))) ≡ ended_rows (trace v) ++ ends_of w
  ended_next v n w =
      let e : Event = record { stamp = n; by = v.by; what = w } in
      ap ended_rows (own_snoc v.by v.events e refl) ∙ flat_map-append ends_of (trace v) (w ∷ []) ∙ ap (λ l. ended_rows (trace v) ++ l) (append-nil (ends_of w))

  -- an event that isn't a Final
  pub note_shelved : (v : View P) (hs : List AcquiredRow) (xs : List (Spent P)) (n : ℕ) (w : What) → ends_of w ≡ [] → IsFreshStamp v n → Shelved v hs xs → Shelved (noted v (record { stamp = n; by = v.by; what = w })) hs xs
  note_shelved v hs xs n w no' f k =
      let e : Event = record { stamp = n; by = v.by; what = w } in record {
        said_are = ended_next v n w ∙ ap (λ l. ended_rows (trace v) ++ l) no' ∙ append-nil (ended_rows (trace v)) ∙ k.said_are;
        distinct = k.distinct;
        opened = k.opened;
        pairs = k.pairs;
        empty = k.empty;
        leased = λ j r m. ⊎_elim (λ b. inl b) (λ s. inr (s.0, noted_more v.events e s.1)) (k.leased j r m);
        ended = λ q t i. ⊎_elim (λ o. inl o) (λ o. inr (⊎_elim (λ a. inl a) (λ y. inr (y.0, (y.1.0, covers_more v.events e y.1.1))) o)) (k.ended q t i);
        rises = rises_next v n w f k.rises;
      }

  -- what was neither open nor leased isn't after
  still_out : {v w : View P} → Follows v w → ((r : ℕ) → HasRow v.opened r ⊎ HasPair v r → ¬ (IsAmong r v.empty)) → (r : ℕ) → HasRow w.opened r ⊎ HasPair w r → ¬ (IsAmong r w.empty)
  still_out f out r a m = out r (⊎_elim (λ o. inl (o.0, f.opened (r, o.0) o.1)) (λ p. inr (p.0, f.pairs (p.0, r) p.1)) a) (subst (λ z. IsAmong r z) (same_empty f) m)

  -- who lets a row go has it open, or has a lease on it
  holds_or : (h : Holder) (v : View P) (r : ℕ) → CanLetGo h v r → HasRow v.opened r ⊎ HasPair v r
  holds_or owner v r c = inl c.0
  holds_or (lease j) v r c = inr (j, c.0)

  -- a row that is let go alone leaves the open rows
  open_or : (h : Holder) (v u : View P) (r q : ℕ) (a : Left) → LetsGo h v r a u → HasRow v.opened q → HasRow u.opened q ⊎ (q ≡ r)
  open_or owner v u r q a l o = ⊎_elim (λ e. inr e) (λ ne. inl (o.0, subst (λ x. IsAmong (q, o.0) x) (sym (let_go owner v r a u l).opened) (keep_row r q o.0 v.opened o.1 ne))) (cases_eq q r)
  open_or (lease j) v u r q a l o = inl (subst (λ x. HasRow x q) (sym (let_go (lease j) v r a u l).opened) o)

  -- what stays is open, or may wait
  stays_waits : (h : Holder) (v u : View P) (r q : ℕ) → LetsGo h v r Stays u → HasRow v.opened q → HasRow u.opened q ⊎ MayWait v q
  stays_waits owner v u r q l o = ⊎_elim (λ i. inl i) (λ e. inr (l.3.0, (l.3.1.0, subst (λ z. Covers v.events l.3.1.0 v.by z) (sym e) l.3.1.1.0))) (open_or owner v u r q Stays l o)
  stays_waits (lease j) v u r q l o = inl (subst (λ x. HasRow x q) (sym (let_go (lease j) v r Stays u l).opened) o)

  -- a row that is handed over is neither open here nor leased
  handed_bare : (h : Holder) (v u : View P) (r : ℕ) → Once v.opened → LetsGo h v r Yours u → ¬ (HasRow u.opened r) × ¬ (HasPair u r)
  handed_bare owner v u r once l = let g = let_go owner v r Yours u l in (
    (λ o. gone_without r v.opened once (subst (λ x. HasRow x r) g.opened o)),
    λ p. l.3 (p.0, subst (λ x. IsAmong (p.0, r) x) g.pairs p.1),
  )
  handed_bare (lease j) v u r once l = let g = let_go (lease j) v r Yours u l in (
    (λ o. l.2.closed (subst (λ x. HasRow x r) g.opened o)),
    λ p.
        let m = subst (λ x. IsAmong (p.0, r) x) g.pairs p.1 in
        lost_pair j r v.pairs (subst (λ i. IsAmong (i, r) (without_pair j r v.pairs)) (l.2.alone p.0 (lose_pair j r (p.0, r) v.pairs m)) m),
  )

  -- from v to w the rows of ys ended
  went_shelved : (v w : View P) (hs : List AcquiredRow) (xs ys : List (Spent P)) → Follows v w → ended_rows (trace w) ≡ ended_rows (trace v) ++ said ys → IsDistinct nat_eq (firsts (said ys)) → ((r : ℕ) → IsAmong r (firsts (said ys)) → ¬ (HasRow w.opened r) × ¬ (HasPair w r) × ¬ (IsAmong r v.empty) × ¬ (IsAmong r (firsts (said xs)))) → ((q : ℕ) → HasRow v.opened q → HasRow w.opened q ⊎ (IsAmong q (firsts (said ys)) ⊎ MayWait v q)) → Rises (by_stream w.by w.events) → Shelved v hs xs → Shelved w hs (xs ++ ys)
  went_shelved v w hs xs ys f trace_is once bare back rises k =
      let all : firsts (said (xs ++ ys)) ≡ firsts (said xs) ++ firsts (said ys) = ap firsts (said_append xs ys) ∙ firsts_append (said xs) (said ys) in
      let cases : (q : ℕ) → IsAmong q (firsts (said (xs ++ ys))) → IsAmong q (firsts (said xs)) ⊎ IsAmong q (firsts (said ys)) = λ q m. among_append q (firsts (said xs)) (firsts (said ys)) (subst (λ z. IsAmong q z) all m) in
      let on : (q : ℕ) → IsAmong q (firsts (said xs) ++ firsts (said ys)) → IsAmong q (firsts (said (xs ++ ys))) = λ q m. subst (λ z. IsAmong q z) (sym all) m in
      let waits : (q : ℕ) → MayWait v q → MayWait w q = λ q y. (same_main f ∙ y.0, (y.1.0, subst (λ b. Covers w.events y.1.0 b q) (sym (same_by f)) (follows_covers f y.1.1))) in record {
        said_are = trace_is ∙ ap (λ z. z ++ said ys) k.said_are ∙ sym (said_append xs ys);
        distinct = subst (IsDistinct nat_eq) (sym all) (distinct_append (firsts (said xs)) (firsts (said ys)) k.distinct once (λ q a m. (bare q m).3 a));
        opened = λ q o m. ⊎_elim (k.opened q (o.0, f.opened (q, o.0) o.1)) (λ i. (bare q i).0 o) (cases q m);
        pairs = λ j q p m. ⊎_elim (k.pairs j q (f.pairs (j, q) p)) (λ i. (bare q i).1 (j, p)) (cases q m);
        empty = λ q e m. let i = subst (λ z. IsAmong q z) (same_empty f) e in ⊎_elim (k.empty q i) (λ y. (bare q y).2 i) (cases q m);
        leased = λ j q p. ⊎_elim (λ b. inl (same_by f ∙ b)) (λ s. inr (s.0, follows_mine f s.1)) (k.leased j q (f.pairs (j, q) p));
        ended = λ q t i. ⊎_elim
            (λ o. ⊎_elim (λ h. inl h) (λ e. ⊎_elim (λ h. inr (inl (on q (among_right q (firsts (said xs)) (firsts (said ys)) h)))) (λ y. inr (inr (waits q y))) e) (back q o))
            (λ e. ⊎_elim (λ o. inr (inl (on q (among_left (firsts (said ys)) o)))) (λ y. inr (inr (waits q y))) e)
            (k.ended q t i);
        rises = rises;
      }

  module _ {ends : P → Exit → Bool → P → Type 0} {x : Exit} {h : Holder} (hs : List AcquiredRow) where
    pub released_shelved : {T : List ℕ} {v w : View P} {ys : List (Spent P)} (xs : List (Spent P)) → Released ends x h T v ys w → CanRelease h T v → Once v.opened → ((r : ℕ) → HasRow v.opened r ⊎ HasPair v r → ¬ (IsAmong r v.empty)) → Shelved v hs xs → Shelved w hs (xs ++ ys)
    released_shelved xs (done v) c once out k = subst (λ z. Shelved v hs z) (sym (append-nil xs)) k
    released_shelved xs (stays v u r l t) c once out k =
        let g = let_go h v r Stays u l in let f = go_follows g in
        let e = ap (λ z. ended_rows (trace z)) g.same ∙ sym (append-nil (ended_rows (trace v))) in
        let s = went_shelved v u hs xs [] f e distinct_nil (λ q m. absurd (among_nil m)) (λ q o. ⊎_elim (λ i. inl i) (λ i. inr (inr i)) (stays_waits h v u r q l o)) (subst (λ z. Rises (by_stream z.by z.events)) (sym g.same) k.rises) k in
        released_shelved xs t (can_stays h v u r _ l c) (f.once once) (still_out f out) (subst (λ z. Shelved u hs z) (append-nil xs) s)
    released_shelved {w = w} xs (ends_so {T = T} {ys = ys} v u y n l i t) c once out k =
        let g = let_go h v y.row Yours u l in let f = follows_then (go_follows g) (end_follows x u y n) in
        let o = holds_or h v y.row (c.rows y.row (here T)) in let b = handed_bare h v u y.row once l in
        let e = ended_next u n (Final y.row x y.ok) ∙ ap (λ z. ended_rows (trace z) ++ (y.row, y.ok) ∷ []) g.same in
        let bare : (r : ℕ) → IsAmong r (y.row ∷ []) → ¬ (HasRow u.opened r) × ¬ (HasPair u r) × ¬ (IsAmong r v.empty) × ¬ (IsAmong r (firsts (said xs))) = λ r m. ⊎_elim
        (λ a. subst (λ q. ¬ (HasRow u.opened q) × ¬ (HasPair u q) × ¬ (IsAmong q v.empty) × ¬ (IsAmong q (firsts (said xs)))) (sym a) (b.0, b.1, out y.row o, ⊎_elim (λ j. k.opened y.row j) (λ j. k.pairs j.0 y.row j.1) o))
        (λ a. absurd (among_nil a))
        (among_cons m) in
        let back : (q : ℕ) → HasRow v.opened q → HasRow u.opened q ⊎ (IsAmong q (y.row ∷ []) ⊎ MayWait v q) = λ q a. ⊎_elim (λ z. inl z) (λ z. inr (inl (subst (λ j. IsAmong j (y.row ∷ [])) (sym z) (here [])))) (open_or h v u y.row q Yours l a) in
        let s = went_shelved v (finalized x u y n) hs xs (y ∷ []) f e (distinct_one y.row) bare back (rises_next u n (Final y.row x y.ok) i.fresh (subst (λ z. Rises (by_stream z.by z.events)) (sym g.same) k.rises)) k in
        subst (λ z. Shelved w hs z) (append_assoc xs (y ∷ []) ys) (released_shelved (xs ++ y ∷ []) t (can_ends h x v u y n _ l c) (f.once once) (still_out f out) s)
