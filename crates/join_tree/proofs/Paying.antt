-- What becomes of events and of the payloads of rows.
use Rattle.std.proofs.Common.{◌≡◌, ◌⊎◌, ℕ, Bool, List, inl, inr, refl, sym, ap, subst, ⊎_elim}
use Rattle.std.proofs.lemmas.Bool.{cases_eq}
use Rattle.chunk_core.specs.declared.code.Exit.{Exit}
use Rattle.chunk_core.specs.Lists.{IsAmong}
use Rattle.chunk_core.proofs.Members.{among_last, among_left}
use Rattle.res_ledger.specs.declared.event.Event.{Event}
use Rattle.row_seat.specs.declared.view.Left.{Left}
use Rattle.row_seat.specs.declared.view.Left.TheVariants.{Stays, Yours}
use Rattle.row_seat.specs.declared.view.View.{View}
use Rattle.row_seat.specs.Views.{shut}
use Rattle.scope_tree.specs.declared.branch.Spent.{Spent}
use Rattle.scope_tree.specs.Calls.{Cancels, ClosesScope, Leases, Seen}
use Rattle.scope_tree.specs.Released.{Holder, LetsGo, Released}
use Rattle.scope_tree.specs.Released.Holder.{owner, lease}
use Rattle.scope_tree.specs.Released.Released.{done, stays, ends_so}
use Rattle.scope_tree.specs.Rows.{Once}
use Rattle.scope_tree.proofs.Follows.{go_follows, let_go}
use Rattle.scope_tree.proofs.Lessee.{lease_opened}
use Rattle.scope_tree.proofs.Lists.{keep_row}
use Rattle.scope_tree.proofs.Once.{once_pay}
use Rattle.join_tree.specs.Steps.{KeepsRows}

module _ {P : Type 0} where
  pub pays_same : (v w : View P) → ((e : Event) → IsAmong e v.events → IsAmong e w.events) → w.opened ≡ v.opened → w.left ≡ v.left → w.given ≡ v.given → KeepsRows v w
  pays_same v w n o l g = record { noted = n; left = λ y m. subst (λ xs. IsAmong y xs) (sym l) m; given = λ y m. subst (λ xs. IsAmong y xs) (sym g) m; opened = λ y m. inl (subst (λ xs. IsAmong y xs) (sym o) m) }

  pays_then : (u v w : View P) → KeepsRows u v → KeepsRows v w → KeepsRows u w
  pays_then u v w a b = record { noted = λ e m. b.noted e (a.noted e m); left = λ y m. b.left y (a.left y m); given = λ y m. b.given y (a.given y m); opened = λ y m. ⊎_elim (λ o. b.opened y o) (λ l. inr (b.left y l)) (a.opened y m) }

  -- the owner of a row leaves its payload there
  shut_opened : (v : View P) (r : ℕ) (p : P) → Once v.opened → IsAmong (r, p) v.opened → (y : ℕ × P) → IsAmong y v.opened → IsAmong y (shut v r p).opened ⊎ IsAmong y (shut v r p).left
  shut_opened v r p once at y m =
      ⊎_elim
      (λ e. inr (subst (λ q. IsAmong (y.0, q) (shut v r p).left) (once_pay y.0 p y.1 v.opened once (subst (λ q. IsAmong (q, p) v.opened) (sym e) at) m) (subst (λ q. IsAmong (q, p) (shut v r p).left) (sym e) (among_last v.left (r, p)))))
      (λ ne. inl (keep_row r y.0 y.1 v.opened m ne))
      (cases_eq y.0 r)

  go_opened : (h : Holder) (v u : View P) (r : ℕ) (a : Left) → Once v.opened → LetsGo h v r a u → (y : ℕ × P) → IsAmong y v.opened → IsAmong y u.opened ⊎ IsAmong y u.left
  go_opened owner v u r Stays once l y m = subst (λ z. IsAmong y z.opened ⊎ IsAmong y z.left) (sym l.2) (shut_opened v r l.0 once l.1 y m)
  go_opened owner v u r Yours once l y m = subst (λ z. IsAmong y z.opened ⊎ IsAmong y z.left) (sym l.2) (shut_opened v r l.0 once l.1 y m)
  go_opened (lease j) v u r Stays once l y m = subst (λ z. IsAmong y z.opened ⊎ IsAmong y z.left) (sym l.0) (inl m)
  go_opened (lease j) v u r Yours once l y m = subst (λ z. IsAmong y z.opened ⊎ IsAmong y z.left) (sym l.1) (inl m)

  go_given : (h : Holder) (v u : View P) (r : ℕ) (a : Left) → LetsGo h v r a u → (y : ℕ × P) → IsAmong y v.given → IsAmong y u.given
  go_given owner v u r Stays l y m = subst (λ z. IsAmong y z.given) (sym l.2) m
  go_given owner v u r Yours l y m = subst (λ z. IsAmong y z.given) (sym l.2) (among_left _ m)
  go_given (lease j) v u r Stays l y m = subst (λ z. IsAmong y z.given) (sym l.0) m
  go_given (lease j) v u r Yours l y m = subst (λ z. IsAmong y z.given) (sym l.1) (among_left _ m)

  go_pays : (h : Holder) (v u : View P) (r : ℕ) (a : Left) → Once v.opened → LetsGo h v r a u → KeepsRows v u
  go_pays h v u r a once l = record { noted = λ e m. subst (λ xs. IsAmong e xs) (sym (ap (λ z. z.events) (let_go h v r a u l).same)) m; left = (let_go h v r a u l).left; given = go_given h v u r a l; opened = go_opened h v u r a once l }

module _ {P : Type 0} {ends : P → Exit → Bool → P → Type 0} where
  released_pays : {x : Exit} {h : Holder} {T : List ℕ} {v w : View P} {ys : List (Spent P)} → Released ends x h T v ys w → Once v.opened → KeepsRows v w
  released_pays (done v) once = pays_same v v (λ e m. m) refl refl refl
  released_pays {h = h} {w = w} (stays v u r l t) once = pays_then v u w (go_pays h v u r Stays once l) (released_pays t ((go_follows (let_go h v r Stays u l)).once once))
  released_pays {h = h} {w = w} (ends_so v u y n l f t) once =
      let k = go_pays h v u y.row Yours once l in
      let rest = released_pays t ((go_follows (let_go h v y.row Yours u l)).once once) in
      pays_then v u w k (record { noted = λ e m. rest.noted e (among_left _ m); left = rest.left; given = rest.given; opened = rest.opened })

  pub close_pays : (b c : Seen P) (s : ℕ) (x : Exit) → Once b.seat.opened → ClosesScope ends b s x c → KeepsRows b.seat c.seat
  close_pays b c s x once o = let k = released_pays o.torn.2 once in record { noted = λ e m. k.noted e (among_left _ m); left = k.left; given = k.given; opened = k.opened }

  pub cancel_pays : (b c : Seen P) (j : ℕ) (T : List ℕ) (x : Exit) → Once b.seat.opened → Cancels ends b j T x c → KeepsRows b.seat c.seat
  cancel_pays b c j T x once o = let k = released_pays o.left.2 once in record { noted = λ e m. k.noted e (among_left _ m); left = k.left; given = k.given; opened = k.opened }

  -- a lease that is given back leaves each row open that was
  pub cancel_opened : (b c : Seen P) (j : ℕ) (T : List ℕ) (x : Exit) → Cancels ends b j T x c → c.seat.opened ≡ b.seat.opened
  cancel_opened b c j T x o = lease_opened o.left.2

module _ {P : Type 0} where
  pub lease_pays : (b c : Seen P) (s j : ℕ) (T : List ℕ) → Leases b s j T c → KeepsRows b.seat c.seat
  lease_pays b c s j T o = pays_same b.seat c.seat (λ e m. subst (λ xs. IsAmong e xs) (sym (ap (λ u. u.events) o.seat)) (among_left _ m)) (ap (λ u. u.opened) o.seat) (ap (λ u. u.left) o.seat) (ap (λ u. u.given) o.seat)

  pub leases_opened : (b c : Seen P) (s j : ℕ) (T : List ℕ) → Leases b s j T c → c.seat.opened ≡ b.seat.opened
  leases_opened b c s j T o = ap (λ u. u.opened) o.seat
