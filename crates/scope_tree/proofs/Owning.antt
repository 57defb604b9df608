-- What is left of open rows that their owner let go.
use Rattle.std.proofs.Common.{◌≡◌, ◌≢◌, ℕ, ◌+◌, suc, Bool, List, length, refl, sym, ap, ◌∙◌, subst, ⊎_elim, arith}
use Rattle.chunk_core.specs.declared.code.Exit.{Exit}
use Rattle.chunk_core.specs.Lists.{IsAmong}
use Rattle.chunk_core.specs.Lists.IsAmong.{there}
use Rattle.chunk_core.proofs.Members.{among_cons, among_last, among_nil}
use Rattle.res_ledger.specs.declared.event.StreamNo.{StreamNo}
use Rattle.res_ledger.specs.Ledger.{Covers}
use Rattle.res_ledger.specs.Order.{Picks, firsts}
use Rattle.res_ledger.specs.Order.Picks.{none, pass, pick}
use Rattle.row_seat.specs.declared.view.Left.{Left}
use Rattle.row_seat.specs.declared.view.Left.TheVariants.{Stays, Yours}
use Rattle.row_seat.specs.declared.view.View.{View}
use Rattle.row_seat.specs.Views.{HasPair, HasRow, without_row}
use Rattle.scope_tree.specs.declared.branch.Spent.{Spent}
use Rattle.scope_tree.specs.Released.{IsFinished, LetsGo, Released, said}
use Rattle.scope_tree.specs.Released.Holder.{owner}
use Rattle.scope_tree.specs.Released.Released.{done, stays, ends_so}
use Rattle.scope_tree.specs.Rows.{Once}
use Rattle.scope_tree.proofs.Follows.{follows_covers, let_go, released_follows}
use Rattle.scope_tree.proofs.Lists.{differs, keep_row, length_without_row, lose_row}
use Rattle.scope_tree.proofs.Once.{gone_without, once_without}

module _ {P : Type 0} where
  -- what is closed was open
  pub was_open : (v u : View P) (r : ℕ) (a : Left) → LetsGo owner v r a u → HasRow v.opened r
  was_open v u r Stays l = (l.0, l.1)
  was_open v u r Yours l = (l.0, l.1)

  less_open : (v u : View P) (r : ℕ) (a : Left) → LetsGo owner v r a u → u.opened ≡ without_row r v.opened
  less_open v u r a l = (let_go owner v r a u l).opened

  same_pairs : (v u : View P) (r : ℕ) (a : Left) → LetsGo owner v r a u → u.pairs ≡ v.pairs
  same_pairs v u r a l = (let_go owner v r a u l).pairs

  keeps : (v u : View P) (r q : ℕ) → u.opened ≡ without_row r v.opened → q ≢ r → HasRow v.opened q → HasRow u.opened q
  keeps v u r q o ne h = (h.0, subst (λ l. IsAmong (q, h.0) l) (sym o) (keep_row r q h.0 v.opened h.1 ne))

  -- what was open before
  pub loses : (v u : View P) (r : ℕ) (y : ℕ × P) → u.opened ≡ without_row r v.opened → IsAmong y u.opened → IsAmong y v.opened
  loses v u r y o m = lose_row r y v.opened (subst (λ l. IsAmong y l) o m)

  less_count : (v u : View P) (r n : ℕ) → HasRow v.opened r → u.opened ≡ without_row r v.opened → n ≡ length u.opened → suc n ≡ length v.opened
  less_count v u r n h o e = let a = length_without_row r h.0 v.opened h.1 in let b = ap length o in omega (a, b, e, arith)

  module _ {ends : P → Exit → Bool → P → Type 0} {x : Exit} where
    -- the finalizer of a row that was handed over took the payload that it had, and no lease stood on it
    pub finished_open : (v u : View P) (y : Spent P) (n : ℕ) → LetsGo owner v y.row Yours u → (f : IsFinished ends x u y n) → IsAmong (y.row, f.pay) v.opened × ¬ (HasPair v y.row)
    finished_open v u y n l f =
        let e : l.0 ≡ f.pay = f.only l.0 (subst (λ z. IsAmong (y.row, l.0) z.given) (sym l.2) (among_last v.given (y.row, l.0))) in
        (subst (λ p. IsAmong (y.row, p) v.opened) e l.1, l.3)

    pub owner_has : {T : List ℕ} {v w : View P} {ys : List (Spent P)} (q : ℕ) → Released ends x owner T v ys w → ¬ (IsAmong q T) → HasRow v.opened q → HasRow w.opened q
    owner_has q (done v) no' h = h
    owner_has q (stays v u r l t) no' h = owner_has q t (λ m. no' (there r m)) (keeps v u r q (less_open v u r Stays l) (differs _ q r no') h)
    owner_has q (ends_so v u y n l f t) no' h = owner_has q t (λ m. no' (there y.row m)) (keeps v u y.row q (less_open v u y.row Yours l) (differs _ q y.row no') h)

    pub owner_count : {T : List ℕ} {v w : View P} {ys : List (Spent P)} → Released ends x owner T v ys w → length w.opened + length T ≡ length v.opened
    owner_count (done v) = omega arith
    owner_count (stays {T = T} {w = w} v u r l t) = let c = owner_count t in let a = less_count v u r (length w.opened + length T) (was_open v u r Stays l) (less_open v u r Stays l) c in omega (a, arith)
    owner_count (ends_so {T = T} {w = w} v u y n l f t) = let c = owner_count t in let a = less_count v u y.row (length w.opened + length T) (was_open v u y.row Yours l) (less_open v u y.row Yours l) c in omega (a, arith)

    pub owner_pairs : {T : List ℕ} {v w : View P} {ys : List (Spent P)} → Released ends x owner T v ys w → w.pairs ≡ v.pairs
    owner_pairs (done v) = refl
    owner_pairs (stays v u r l t) = owner_pairs t ∙ same_pairs v u r Stays l
    owner_pairs (ends_so v u y n l f t) = owner_pairs t ∙ same_pairs v u y.row Yours l

    -- each row that stays has a Lease that covers it
    pub owner_picks : (k : StreamNo) {T : List ℕ} {v w : View P} {ys : List (Spent P)} → Released ends x owner T v ys w → v.by ≡ k → Picks (λ r. (j : ℕ) × Covers w.events j k r) (firsts (said ys)) T
    owner_picks k (done v) b = none
    owner_picks k {w = w} (stays v u r l t) b = pass r (l.3.1.0, subst (λ i. Covers w.events l.3.1.0 i r) b (follows_covers (released_follows (stays v u r l t)) l.3.1.1.0)) (owner_picks k t (ap (λ z. z.by) (let_go owner v r Stays u l).same ∙ b))
    owner_picks k (ends_so v u y n l f t) b = pick y.row (owner_picks k t (ap (λ z. z.by) (let_go owner v y.row Yours u l).same ∙ b))

    gone_now : {T : List ℕ} (v u u' : View P) {w : View P} {ys : List (Spent P)} (r q : ℕ) → q ≡ r → u'.opened ≡ u.opened → u.opened ≡ without_row r v.opened → Once v.opened → Released ends x owner T u' ys w → ¬ (HasRow w.opened q)
    gone_now v u u' r q e s o once t h = gone_without r v.opened once (subst (λ z. HasRow (without_row r v.opened) z) e (h.0, subst (λ l. IsAmong (q, h.0) l) (s ∙ o) ((released_follows t).opened (q, h.0) h.1)))

    -- what is let go isn't open
    pub owner_gone : {T : List ℕ} {v w : View P} {ys : List (Spent P)} (q : ℕ) → Released ends x owner T v ys w → Once v.opened → IsAmong q T → ¬ (HasRow w.opened q)
    owner_gone q (done v) o m h = among_nil m
    owner_gone q (stays v u r l t) o m h = let less = less_open v u r Stays l in ⊎_elim (λ e. gone_now v u u r q e refl less o t h) (λ i. owner_gone q t (subst Once (sym less) (once_without r v.opened o)) i h) (among_cons m)
    owner_gone q (ends_so v u y n l f t) o m h = let less = less_open v u y.row Yours l in ⊎_elim (λ e. gone_now v u _ y.row q e refl less o t h) (λ i. owner_gone q t (subst Once (sym less) (once_without y.row v.opened o)) i h) (among_cons m)

    -- what ends was open, its finalizer took its payload, and no lease stood on it
    pub owner_pays : {T : List ℕ} {v w : View P} {ys : List (Spent P)} (y : Spent P) → Released ends x owner T v ys w → IsAmong y ys → (p : P) × IsAmong (y.row, p) v.opened × (y.exit ≡ x) × ends p x y.ok y.pay × ¬ (HasPair v y.row)
    owner_pays y (done v) m = absurd (among_nil m)
    owner_pays y (stays v u r l t) m =
        let a = owner_pays y t m in (a.0, loses v u r (y.row, a.0) (less_open v u r Stays l) a.1, a.2, a.3, λ h. a.4 (h.0, subst (λ ps. IsAmong (h.0, y.row) ps) (sym (same_pairs v u r Stays l)) h.1))
    owner_pays y (ends_so v u z n l f t) m =
        let o = finished_open v u z n l f in ⊎_elim
        (λ e. subst (λ (a : Spent P). (p : P) × IsAmong (a.row, p) v.opened × (a.exit ≡ x) × ends p x a.ok a.pay × ¬ (HasPair v a.row)) (sym e) (f.pay, o.0, f.exit, f.finish, o.1))
        (λ i. let a = owner_pays y t i in (a.0, loses v u z.row (y.row, a.0) (less_open v u z.row Yours l) a.1, a.2, a.3, λ h. a.4 (h.0, subst (λ ps. IsAmong (h.0, y.row) ps) (sym (same_pairs v u z.row Yours l)) h.1)))
        (among_cons m)
