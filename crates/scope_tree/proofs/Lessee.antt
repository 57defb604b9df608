-- What is left of the leases of rows that were left.
use Rattle.std.proofs.Common.{◌≡◌, ℕ, Bool, true, List, [], ◌∷◌, refl, sym, ap, ◌∙◌, subst, ⊎_elim}
use Rattle.chunk_core.specs.declared.code.Exit.{Exit}
use Rattle.chunk_core.specs.Lists.{IsAmong}
use Rattle.chunk_core.specs.Lists.IsAmong.{here, there}
use Rattle.chunk_core.proofs.Members.{among_cons, among_last, among_nil}
use Rattle.row_seat.specs.declared.view.Left.{Left}
use Rattle.row_seat.specs.declared.view.Left.TheVariants.{Stays, Yours}
use Rattle.row_seat.specs.declared.view.View.{View}
use Rattle.row_seat.specs.Views.{without_pair}
use Rattle.scope_tree.specs.declared.branch.Spent.{Spent}
use Rattle.res_ledger.specs.Order.{firsts}
use Rattle.scope_tree.specs.Released.{LetsGo, Released, finalized, said}
use Rattle.scope_tree.specs.Released.Holder.{lease}
use Rattle.scope_tree.specs.Released.Released.{done, stays, ends_so}
use Rattle.scope_tree.proofs.Follows.{let_go, released_follows}
use Rattle.scope_tree.proofs.Lists.{lose_pair, lost_pair, other_pair}

no_pairs : (xs : List (ℕ × ℕ)) → ((y : ℕ × ℕ) → ¬ (IsAmong y xs)) → xs ≡ []
no_pairs [] n = refl
no_pairs (x ∷ xs) n = absurd (n x (here xs))

module _ {P : Type 0} where
  less_pairs : (j : ℕ) (v u : View P) (r : ℕ) (a : Left) → LetsGo (lease j) v r a u → u.pairs ≡ without_pair j r v.pairs
  less_pairs j v u r a l = (let_go (lease j) v r a u l).pairs

  gone_now : (j : ℕ) (v u u' w : View P) (q r : ℕ) → u.pairs ≡ without_pair j q v.pairs → u'.pairs ≡ u.pairs → ((y : ℕ × ℕ) → IsAmong y w.pairs → IsAmong y u'.pairs) → r ≡ q → ¬ (IsAmong (j, r) w.pairs)
  gone_now j v u u' w q r p s f e h = lost_pair j q v.pairs (subst (λ z. IsAmong (j, z) (without_pair j q v.pairs)) e (subst (λ l. IsAmong (j, r) l) (s ∙ p) (f (j, r) h)))

  other_now : (j : ℕ) (v u : View P) (T : List ℕ) (r : ℕ) (y : ℕ × ℕ) → u.pairs ≡ without_pair j r v.pairs → ¬ ((y.0 ≡ j) × IsAmong y.1 (r ∷ T)) → IsAmong y v.pairs → IsAmong y u.pairs
  other_now j v u T r y p n h = subst (λ l. IsAmong y l) (sym p) (other_pair j r y v.pairs (λ z. n (z.0, subst (λ i. IsAmong i (r ∷ T)) (sym z.1) (here T))) h)

  module _ {ends : P → Exit → Bool → P → Type 0} {x : Exit} {j : ℕ} where
    -- what is left stays open
    pub lease_opened : {T : List ℕ} {v w : View P} {ys : List (Spent P)} → Released ends x (lease j) T v ys w → w.opened ≡ v.opened
    lease_opened (done v) = refl
    lease_opened (stays v u r l t) = lease_opened t ∙ (let_go (lease j) v r Stays u l).opened
    lease_opened (ends_so v u y n l f t) = lease_opened t ∙ (let_go (lease j) v y.row Yours u l).opened

    -- a lease on a row that was left is no longer there
    pub lease_gone : {T : List ℕ} {v w : View P} {ys : List (Spent P)} (r : ℕ) → Released ends x (lease j) T v ys w → IsAmong r T → ¬ (IsAmong (j, r) w.pairs)
    lease_gone r (done v) m h = among_nil m
    lease_gone {w = w} r (stays v u q l t) m h = ⊎_elim (λ e. gone_now j v u u w q r (less_pairs j v u q Stays l) refl (released_follows t).pairs e h) (λ i. lease_gone r t i h) (among_cons m)
    lease_gone {w = w} r (ends_so v u y n l f t) m h = ⊎_elim (λ e. gone_now j v u (finalized x u y n) w y.row r (less_pairs j v u y.row Yours l) refl (released_follows t).pairs e h) (λ i. lease_gone r t i h) (among_cons m)

    -- each other lease is still there
    pub lease_others : {T : List ℕ} {v w : View P} {ys : List (Spent P)} (y : ℕ × ℕ) → Released ends x (lease j) T v ys w → ¬ ((y.0 ≡ j) × IsAmong y.1 T) → IsAmong y v.pairs → IsAmong y w.pairs
    lease_others y (done v) n h = h
    lease_others y (stays {T = T} v u r l t) n h = lease_others y t (λ z. n (z.0, there r z.1)) (other_now j v u T r y (less_pairs j v u r Stays l) n h)
    lease_others y (ends_so {T = T} v u z i l f t) n h = lease_others y t (λ a. n (a.0, there z.row a.1)) (other_now j v u T z.row y (less_pairs j v u z.row Yours l) n h)

    -- with no others none is left
    pub lease_pairs_none : {T : List ℕ} {v w : View P} {ys : List (Spent P)} → Released ends x (lease j) T v ys w → ((i r : ℕ) → IsAmong (i, r) v.pairs → (i ≡ j) × IsAmong r T) → w.pairs ≡ []
    lease_pairs_none {w = w} t h = no_pairs w.pairs (λ y m. let a = h y.0 y.1 ((released_follows t).pairs y m) in lease_gone y.1 t a.1 (subst (λ z. IsAmong (z, y.1) w.pairs) a.0 m))

    -- the finalizer of a row that ends took the payload that the seat left in it, if it left one
    pub lease_pays : {T : List ℕ} {v w : View P} {ys : List (Spent P)} (y : Spent P) → Released ends x (lease j) T v ys w → IsAmong y ys → (p : P) × ((q : P) → IsAmong (y.row, q) v.left → q ≡ p) × (y.exit ≡ x) × ends p x y.ok y.pay
    lease_pays y (done v) m = absurd (among_nil m)
    lease_pays y (stays v u r l t) m = let a = lease_pays y t m in let g = let_go (lease j) v r Stays u l in (a.0, (λ q i. a.1 q (g.left (y.row, q) i)), a.2, a.3)
    lease_pays y (ends_so v u z n l f t) m =
        let e : l.0 ≡ f.pay = f.only l.0 (subst (λ w. IsAmong (z.row, l.0) w.given) (sym l.1) (among_last v.given (z.row, l.0))) in ⊎_elim
        (λ i. subst (λ (a : Spent P). (p : P) × ((q : P) → IsAmong (a.row, q) v.left → q ≡ p) × (a.exit ≡ x) × ends p x a.ok a.pay) (sym i) (f.pay, (λ q k. l.2.left q k ∙ e), f.exit, f.finish))
        (λ i. let a = lease_pays y t i in let g = let_go (lease j) v z.row Yours u l in (a.0, (λ q k. a.1 q (g.left (y.row, q) k)), a.2, a.3))
        (among_cons m)

    -- where no other lease and no seat could hold a row, and nothing is open, each row ends
    pub lease_ends_all : {T : List ℕ} {v w : View P} {ys : List (Spent P)} → Released ends x (lease j) T v ys w → v.main ≡ true → v.out ≡ [] → ((i r : ℕ) → IsAmong (i, r) v.pairs → i ≡ j) → v.opened ≡ [] → firsts (said ys) ≡ T
    lease_ends_all (done v) m o p e = refl
    lease_ends_all (stays v u r l t) m o p e = absurd (⊎_elim (λ h. among_nil (subst (λ z. IsAmong (r, h.0) z) e h.1)) (λ h. ⊎_elim (λ a. h.1 (p h.0 r a)) (λ a. among_nil (subst (λ z. IsAmong h.0 z) o a)) h.2.1) (l.1 m))
    lease_ends_all (ends_so v u y n l f t) m o p e =
        let g = let_go (lease j) v y.row Yours u l in
        ap (λ z. y.row ∷ z) (lease_ends_all t (ap (λ z. z.main) g.same ∙ m) (ap (λ z. z.out) g.same ∙ o) (λ i r a. p i r (lose_pair j y.row (i, r) v.pairs (subst (λ z. IsAmong (i, r) z) g.pairs a))) (g.opened ∙ e))
