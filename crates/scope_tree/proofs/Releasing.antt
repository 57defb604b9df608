-- What is left of rows that were let go, and what they need.
use Rattle.std.proofs.Common.{◌≡◌, ◌≢◌, ℕ, ◌+◌, ◌≤◌, suc, Bool, List, [], ◌∷◌, ◌++◌, length, refl, sym, ap, ◌∙◌, subst, arith, length-append, append_assoc, append-nil}
use Rattle.chunk_core.specs.declared.code.Exit.{Exit}
use Rattle.chunk_core.specs.Lists.{IsAmong}
use Rattle.chunk_core.specs.Lists.IsAmong.{there}
use Rattle.chunk_core.proofs.Members.{among_left}
use Rattle.res_ledger.specs.declared.event.StreamNo.{StreamNo}
use Rattle.res_ledger.specs.declared.event.What.{What}
use Rattle.res_ledger.specs.declared.event.What.TheVariants.{Final}
use Rattle.res_ledger.specs.Order.{IsAny, Picks, finals, firsts}
use Rattle.res_ledger.specs.Order.Picks.{none, pass, pick}
use Rattle.res_ledger.specs.Own.{own}
use Rattle.row_seat.specs.declared.view.Left.TheVariants.{Stays, Yours}
use Rattle.row_seat.specs.declared.view.View.{View}
use Rattle.row_seat.specs.Views.{without}
use Rattle.scope_tree.specs.declared.branch.Spent.{Spent}
use Rattle.scope_tree.specs.Released.{CanLetGo, CanRelease, Finalizes, Holder, LetsGo, Released, Releases, away, finalized, most_let_go, said}
use Rattle.scope_tree.specs.Released.Holder.{owner, lease}
use Rattle.scope_tree.specs.Released.Released.{done, stays, ends_so}
use Rattle.scope_tree.proofs.Bridge.{own_snoc}
use Rattle.scope_tree.proofs.Follows.{Follows, LetGo, end_follows, follows_closed, follows_mine, follows_then, go_follows, let_go, opened_after, pairs_after}
use Rattle.scope_tree.proofs.Lists.{away_append, away_more, away_one, keep_row, other, other_pair, without_self}
use Rattle.chunk_core.proofs.Distinct.{distinct_front, distinct_head, distinct_tail}

one_more : (A B F G : List What) (w : What) → G ≡ B ++ F → B ≡ A ++ w ∷ [] → G ≡ A ++ w ∷ F
one_more A B F G w g b = g ∙ ap (λ l. l ++ F) b ∙ append_assoc A (w ∷ []) F

module _ {P : Type 0} where
  -- another row can still be let go
  still_can : (h : Holder) (v w : View P) (r q : ℕ) → Follows v w → w.opened ≡ opened_after h r v.opened → w.pairs ≡ pairs_after h r v.pairs → q ≢ r → CanLetGo h v q → CanLetGo h w q
  still_can owner v w r q f o p ne c = (
    (c.0.0, subst (λ l. IsAmong (q, c.0.0) l) (sym o) (keep_row r q c.0.0 v.opened c.0.1 ne)),
    (c.1.0, follows_mine f c.1.1, follows_closed f c.1.0 c.1.2),
    λ j m. let t = c.2 j (subst (λ l. IsAmong (j, q) l) p m) in (t.0, follows_mine f t.1),
  )
  still_can (lease j) v w r q f o p ne c = (subst (λ l. IsAmong (j, q) l) (sym p) (other_pair j r (j, q) v.pairs (λ z. ne z.1) c.0), (c.1.0, follows_mine f c.1.1))

  -- what isn't open here ends at most once
  most_stays : (h : Holder) (v u : View P) (r : ℕ) (T : List ℕ) → LetGo h v r Stays u → most_let_go h T u ≤ most_let_go h (r ∷ T) v
  most_stays owner v u r T l = omega arith
  most_stays (lease j) v u r T l = let m = away_more r T v.opened in let e = ap (away T) l.opened in omega (m, e, arith)

  most_ends : (h : Holder) (v u : View P) (r : ℕ) (T : List ℕ) → LetsGo h v r Yours u → suc (most_let_go h T u) ≤ most_let_go h (r ∷ T) v
  most_ends owner v u r T l = omega arith
  most_ends (lease j) v u r T l = let m = away_one r T v.opened l.2.closed in let e = ap (away T) (let_go (lease j) v r Yours u l).opened in omega (m, e, arith)

  most_front : (h : Holder) (T U : List ℕ) (v : View P) → most_let_go h T v ≤ most_let_go h (T ++ U) v
  most_front owner T U v = let l = length-append T U in omega arith
  most_front (lease j) T U v = let l = away_append T U v.opened in omega arith

  pub can_stays : (h : Holder) (v u : View P) (r : ℕ) (T : List ℕ) → LetsGo h v r Stays u → CanRelease h (r ∷ T) v → CanRelease h T u
  can_stays h v u r T l c = let g = let_go h v r Stays u l in record {
    distinct = distinct_tail r T c.distinct;
    rows = λ q m. still_can h v u r q (go_follows g) g.opened g.pairs (other T r q (distinct_head r T c.distinct) m) (c.rows q (there r m));
    handed = g.handed ∙ c.handed;
    taken = ap (λ x. x.taken) g.same ∙ c.taken;
    spare = let a = most_stays h v u r T g in let b = c.spare in let e = ap (λ x. x.spare) g.same in omega (a, b, e, arith);
  }

  pub can_ends : (h : Holder) (x : Exit) (v u : View P) (y : Spent P) (n : ℕ) (T : List ℕ) → LetsGo h v y.row Yours u → CanRelease h (y.row ∷ T) v → CanRelease h T (finalized x u y n)
  can_ends h x v u y n T l c =
      let g = let_go h v y.row Yours u l in let w = finalized x u y n in
      let most_same : (k : Holder) → most_let_go k T w ≡ most_let_go k T u = elim [ owner ↦ refl | lease j ↦ refl ] in record {
        distinct = distinct_tail y.row T c.distinct;
        rows = λ q m. still_can h v w y.row q (follows_then (go_follows g) (end_follows x u y n)) g.opened g.pairs (other T y.row q (distinct_head y.row T c.distinct) m) (c.rows q (there y.row m));
        handed = ap (without y.row) g.handed ∙ without_self y.row v.handed c.handed;
        taken = without_self y.row u.taken (ap (λ z. z.taken) g.same ∙ c.taken);
        spare = let a = most_ends h v u y.row T l in let b = c.spare in let e = ap (λ z. z.spare) g.same in let m = most_same h in omega (a, b, e, m, arith);
      }

  can_front : (h : Holder) (T U : List ℕ) (v : View P) → CanRelease h (T ++ U) v → CanRelease h T v
  can_front h T U v c = record {
    distinct = distinct_front T U c.distinct;
    rows = λ r m. c.rows r (among_left U m);
    handed = c.handed;
    taken = c.taken;
    spare = let a = most_front h T U v in let b = c.spare in omega (a, b, arith);
  }

  module _ {ends : P → Exit → Bool → P → Type 0} {x : Exit} {h : Holder} where
    pub released_can : {T U : List ℕ} {v w : View P} {ys : List (Spent P)} → Released ends x h T v ys w → CanRelease h (T ++ U) v → CanRelease h U w
    released_can (done v) c = c
    released_can (stays v u r l t) c = released_can t (can_stays h v u r _ l c)
    released_can (ends_so v u y n l f t) c = released_can t (can_ends h x v u y n _ l c)

    pub released_append : {T U : List ℕ} {v w u : View P} {ys zs : List (Spent P)} → Released ends x h T v ys w → Released ends x h U w zs u → Released ends x h (T ++ U) v (ys ++ zs) u
    released_append (done v) s = s
    released_append (stays v u r l t) s = stays v u r l (released_append t s)
    released_append (ends_so v u y n l f t) s = ends_so v u y n l f (released_append t s)

    -- what ended, and what may end of further rows
    pub released_most : {T : List ℕ} (U : List ℕ) {v w : View P} {ys : List (Spent P)} → Released ends x h T v ys w → length ys + most_let_go h U w ≤ most_let_go h (T ++ U) v
    released_most U (done v) = omega arith
    released_most U (stays {T = T} v u r l t) = let a = released_most U t in let b = most_stays h v u r (T ++ U) (let_go h v r Stays u l) in omega (a, b, arith)
    released_most U (ends_so {T = T} v u y n l f t) =
        let a = released_most U t in let b = most_ends h v u y.row (T ++ U) l in
        let same : (k : Holder) → most_let_go k (T ++ U) (finalized x u y n) ≡ most_let_go k (T ++ U) u = elim [ owner ↦ refl | lease j ↦ refl ] in
        let e = same h in omega (a, b, e, arith)

    pub released_spare : {T : List ℕ} {v w : View P} {ys : List (Spent P)} → Released ends x h T v ys w → v.spare ≤ w.spare + length ys
    released_spare (done v) = omega arith
    released_spare (stays v u r l t) = let a = released_spare t in let e = ap (λ z. z.spare) (let_go h v r Stays u l).same in omega (a, e, arith)
    released_spare (ends_so v u y n l f t) = let a = released_spare t in let e = ap (λ z. z.spare) (let_go h v y.row Yours u l).same in omega (a, e, arith)

    -- its stream noted the ends of the rows that ended
    pub released_own : (k : StreamNo) {T : List ℕ} {v w : View P} {ys : List (Spent P)} → Released ends x h T v ys w → v.by ≡ k → own k w.events ≡ own k v.events ++ finals x (said ys)
    released_own k (done v) b = sym (append-nil (own k v.events))
    released_own k (stays {ys = ys} v u r l t) b = let g = let_go h v r Stays u l in released_own k t (ap (λ z. z.by) g.same ∙ b) ∙ ap (λ z. own k z.events ++ finals x (said ys)) g.same
    released_own k (ends_so v u y n l f t) b =
        let g = let_go h v y.row Yours u l in let i : u.by ≡ k = ap (λ z. z.by) g.same ∙ b in
        one_more (own k v.events) _ _ _ (Final y.row x y.ok) (released_own k t i) (own_snoc k u.events (record { stamp = n; by = u.by; what = Final y.row x y.ok }) i ∙ ap (λ z. own k z.events ++ Final y.row x y.ok ∷ []) g.same)

    -- of these rows, in this order
    pub released_picks : {T : List ℕ} {v w : View P} {ys : List (Spent P)} → Released ends x h T v ys w → Picks IsAny (firsts (said ys)) T
    released_picks (done v) = none
    released_picks (stays v u r l t) = pass r tt (released_picks t)
    released_picks (ends_so v u y n l f t) = pick y.row (released_picks t)

    pub releases_none : (v : View P) (a : List (Spent P)) → Releases ends x h [] v a a v
    releases_none v a = ([], sym (append-nil a), done v)

    pub releases_stays : (v u : View P) (a : List (Spent P)) (r : ℕ) → LetsGo h v r Stays u → Releases ends x h (r ∷ []) v a a u
    releases_stays v u a r l = ([], sym (append-nil a), stays v u r l (done u))

    pub releases_ends : (v u w : View P) (a b : List (Spent P)) (r : ℕ) → LetsGo h v r Yours u → Finalizes ends x r u a b w → Releases ends x h (r ∷ []) v a b w
    releases_ends v u w a b r l f =
        let y = f.0 in
        (y ∷ [], f.3, subst (λ q. Released ends x h (q ∷ []) v (y ∷ []) w) f.2 (subst (λ z. Released ends x h (y.row ∷ []) v (y ∷ []) z) (sym f.5) (ends_so v u y f.1 (subst (λ q. LetsGo h v q Yours u) (sym f.2) l) f.4 (done (finalized x u y f.1)))))

    pub releases_append : {T U : List ℕ} {v w u : View P} (a b c : List (Spent P)) → Releases ends x h T v a b w → Releases ends x h U w b c u → Releases ends x h (T ++ U) v a c u
    releases_append a b c t s = (t.0 ++ s.0, s.1 ∙ ap (λ l. l ++ s.0) t.1 ∙ append_assoc a t.0 s.0, released_append t.2 s.2)

    pub releases_at : {T U : List ℕ} {v u w : View P} (a b : List (Spent P)) → T ≡ U → v ≡ u → Releases ends x h T v a b w → Releases ends x h U u a b w
    releases_at {T = T} {u = u} {w = w} a b e f t = subst (λ S. Releases ends x h S u a b w) e (subst (λ z. Releases ends x h T z a b w) f t)

    -- of the rows W the front D is let go, and N comes next
    pub next_can : (W D N X : List ℕ) (v w : View P) (a b : List (Spent P)) → W ≡ (D ++ N) ++ X → CanRelease h W v → Releases ends x h D v a b w → CanRelease h N w
    next_can W D N X v w a b e c t = released_can t.2 (can_front h (D ++ N) X v (subst (λ l. CanRelease h l v) e c))

    pub next_room : (W D N X : List ℕ) (v w : View P) (a b : List (Spent P)) → W ≡ (D ++ N) ++ X → Releases ends x h D v a b w → length b + most_let_go h N w ≤ length a + most_let_go h W v
    next_room W D N X v w a b e t =
        let m = released_most N t.2 in let f = most_front h (D ++ N) X v in let p = ap (λ l. most_let_go h l v) e in let q = ap length t.1 in let l = length-append a t.0 in
        omega (m, f, p, q, l, arith)
