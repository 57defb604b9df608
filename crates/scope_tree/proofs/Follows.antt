-- What a view keeps while rows are let go.
use Rattle.std.proofs.Common.{◌≡◌, ℕ, Bool, true, false, List, [], ◌∷◌, ◌++◌, refl, sym, ap, ◌∙◌, subst, ⊎_elim, append_assoc, append-nil}
use Rattle.chunk_core.specs.declared.code.Exit.{Exit}
use Rattle.chunk_core.specs.Lists.{IsAmong}
use Rattle.chunk_core.proofs.Filters.{among_append}
use Rattle.chunk_core.proofs.Members.{among_cons, among_left, among_nil}
use Rattle.res_ledger.specs.declared.event.Event.{Event}
use Rattle.res_ledger.specs.declared.event.StreamNo.{StreamNo}
use Rattle.res_ledger.specs.declared.event.What.{What}
use Rattle.res_ledger.specs.declared.event.What.TheVariants.{Final}
use Rattle.res_ledger.specs.Ledger.{Covers, IsClosed, Notes}
use Rattle.res_ledger.proofs.Ledgers.{closed_map}
use Rattle.row_seat.specs.declared.view.Left.{Left}
use Rattle.row_seat.specs.declared.view.Left.TheVariants.{Stays, Yours}
use Rattle.row_seat.specs.declared.view.View.{View}
use Rattle.row_seat.specs.Views.{without_pair, without_row}
use Rattle.scope_tree.specs.declared.branch.Spent.{Spent}
use Rattle.scope_tree.specs.Released.{Holder, LetsGo, Released, finalized}
use Rattle.scope_tree.specs.Released.Holder.{owner, lease}
use Rattle.scope_tree.specs.Released.Released.{done, stays, ends_so}
use Rattle.scope_tree.specs.Rows.{Once}
use Rattle.scope_tree.proofs.Lists.{lose_pair, lose_row}
use Rattle.scope_tree.proofs.Once.{once_without}

-- the event is the end of a row
abbrev pub is_end : What → Bool
is_end (Final r x ok) = true
is_end w = false

abbrev pub pairs_after : Holder → ℕ → List (ℕ × ℕ) → List (ℕ × ℕ)
pairs_after owner r xs = xs
pairs_after (lease j) r xs = without_pair j r xs

abbrev pub handed_after : Left → ℕ → List ℕ → List ℕ
handed_after Stays r xs = xs
handed_after Yours r xs = xs ++ r ∷ []

fewer_pairs : (h : Holder) (r : ℕ) (y : ℕ × ℕ) (xs : List (ℕ × ℕ)) → IsAmong y (pairs_after h r xs) → IsAmong y xs
fewer_pairs owner r y xs m = m
fewer_pairs (lease j) r y xs m = lose_pair j r y xs m

module _ {P : Type 0} where
  abbrev pub opened_after : Holder → ℕ → List (ℕ × P) → List (ℕ × P)
  opened_after owner r o = without_row r o
  opened_after (lease j) r o = o

  -- what letting a row go changes of a view
  pub record LetGo (h : Holder) (v : View P) (r : ℕ) (a : Left) (u : View P) : Type 0 where
    pub same : u ≡ record v { opened = u.opened; pairs = u.pairs; left = u.left; handed = u.handed; given = u.given }
    pub opened : u.opened ≡ opened_after h r v.opened
    pub pairs : u.pairs ≡ pairs_after h r v.pairs
    pub handed : u.handed ≡ handed_after a r v.handed
    pub left : (y : ℕ × P) → IsAmong y v.left → IsAmong y u.left

  pub let_go : (h : Holder) (v : View P) (r : ℕ) (a : Left) (u : View P) → LetsGo h v r a u → LetGo h v r a u
  let_go owner v r Stays u l = subst (λ x. LetGo owner v r Stays x) (sym l.2) (record { same = refl; opened = refl; pairs = refl; handed = refl; left = λ y m. among_left _ m })
  let_go owner v r Yours u l = subst (λ x. LetGo owner v r Yours x) (sym l.2) (record { same = refl; opened = refl; pairs = refl; handed = refl; left = λ y m. among_left _ m })
  let_go (lease j) v r Stays u l = subst (λ x. LetGo (lease j) v r Stays x) (sym l.0) (record { same = refl; opened = refl; pairs = refl; handed = refl; left = λ y m. m })
  let_go (lease j) v r Yours u l = subst (λ x. LetGo (lease j) v r Yours x) (sym l.1) (record { same = refl; opened = refl; pairs = refl; handed = refl; left = λ y m. m })

  -- from v to w rows were let go: of its own stream only ends of rows were noted, nothing came to be open or leased, and the rest is the same
  pub record Follows (v w : View P) : Type 0 where
    pub same : w ≡ record v { opened = w.opened; pairs = w.pairs; handed = w.handed; taken = w.taken; given = w.given; left = w.left; events = w.events; spare = w.spare }
    pub events : (F : List Event) × (w.events ≡ v.events ++ F) × ((e : Event) → IsAmong e F → (e.by ≡ v.by) × (is_end e.what ≡ true))
    pub opened : (y : ℕ × P) → IsAmong y w.opened → IsAmong y v.opened
    pub once : Once v.opened → Once w.opened
    pub pairs : (y : ℕ × ℕ) → IsAmong y w.pairs → IsAmong y v.pairs
    pub left : (y : ℕ × P) → IsAmong y v.left → IsAmong y w.left

  pub follows_self : (v : View P) → Follows v v
  follows_self v = record { same = refl; events = ([], sym (append-nil v.events), λ e m. absurd (among_nil m)); opened = λ y m. m; once = λ o. o; pairs = λ y m. m; left = λ y m. m }

  pub follows_then : {v u w : View P} → Follows v u → Follows u w → Follows v w
  follows_then {v = v} {w = w} a b = record {
    same = b.same ∙ ap (λ (z : View P). let y : View P = record z { opened = w.opened; pairs = w.pairs; handed = w.handed; taken = w.taken; given = w.given; left = w.left; events = w.events; spare = w.spare } in y) a.same;
    events = (
      a.events.0 ++ b.events.0,
      b.events.1 ∙ ap (λ l. l ++ b.events.0) a.events.1 ∙ append_assoc v.events a.events.0 b.events.0,
      λ e m. ⊎_elim (λ i. a.events.2 e i) (λ i. let t = b.events.2 e i in (t.0 ∙ ap (λ z. z.by) a.same, t.1)) (among_append e a.events.0 b.events.0 m),
    );
    opened = λ y m. a.opened y (b.opened y m);
    once = λ o. b.once (a.once o);
    pairs = λ y m. a.pairs y (b.pairs y m);
    left = λ y m. b.left y (a.left y m);
  }

  fewer_open : (h : Holder) (r : ℕ) (y : ℕ × P) (o : List (ℕ × P)) → IsAmong y (opened_after h r o) → IsAmong y o
  fewer_open owner r y o m = lose_row r y o m
  fewer_open (lease j) r y o m = m

  still_once : (h : Holder) (r : ℕ) (o : List (ℕ × P)) → Once o → Once (opened_after h r o)
  still_once owner r o n = once_without r o n
  still_once (lease j) r o n = n

  pub go_follows : {h : Holder} {v u : View P} {r : ℕ} {a : Left} → LetGo h v r a u → Follows v u
  go_follows {h = h} {v = v} {u = u} {r = r} l = record {
    same = l.same ∙ ap (λ (z : View P). let y : View P = record v { opened = u.opened; pairs = u.pairs; handed = u.handed; taken = z.taken; given = u.given; left = u.left; events = z.events; spare = z.spare } in y) (sym l.same);
    events = ([], ap (λ x. x.events) l.same ∙ sym (append-nil v.events), λ e m. absurd (among_nil m));
    opened = λ y m. fewer_open h r y v.opened (subst (λ o. IsAmong y o) l.opened m);
    once = λ o. subst Once (sym l.opened) (still_once h r v.opened o);
    pairs = λ y m. fewer_pairs h r y v.pairs (subst (λ o. IsAmong y o) l.pairs m);
    left = l.left;
  }

  pub end_follows : (x : Exit) (v : View P) (y : Spent P) (n : ℕ) → Follows v (finalized x v y n)
  end_follows x v y n = record {
    same = refl;
    events = (record { stamp = n; by = v.by; what = Final y.row x y.ok } ∷ [], refl, λ e m. ⊎_elim (λ i. subst (λ (z : Event). (z.by ≡ v.by) × (is_end z.what ≡ true)) (sym i) (refl, refl)) (λ i. absurd (among_nil i)) (among_cons m));
    opened = λ z m. m;
    once = λ o. o;
    pairs = λ z m. m;
    left = λ z m. m;
  }

  pub released_follows : {ends : P → Exit → Bool → P → Type 0} {x : Exit} {h : Holder} {T : List ℕ} {v w : View P} {ys : List (Spent P)} → Released ends x h T v ys w → Follows v w
  released_follows (done v) = follows_self v
  released_follows {h = h} (stays v u r l t) = follows_then (go_follows (let_go h v r Stays u l)) (released_follows t)
  released_follows {x = x} {h = h} (ends_so v u y n l f t) = follows_then (go_follows (let_go h v y.row Yours u l)) (follows_then (end_follows x u y n) (released_follows t))

  module _ {v w : View P} (f : Follows v w) where
    pub same_by : w.by ≡ v.by
    same_by = ap (λ z. z.by) f.same

    pub same_main : w.main ≡ v.main
    same_main = ap (λ z. z.main) f.same

    pub same_empty : w.empty ≡ v.empty
    same_empty = ap (λ z. z.empty) f.same

    pub follows_noted : {k : StreamNo} {u : What} → Notes v.events k u → Notes w.events k u
    follows_noted n = (n.0, subst (λ L. IsAmong n.0 L) (sym f.events.1) (among_left f.events.0 n.1), n.2, n.3)

    -- what isn't the end of a row was noted before
    pub follows_old : {k : StreamNo} {u : What} → is_end u ≡ false → Notes w.events k u → Notes v.events k u
    follows_old {k = k} {u = u} no' n = ⊎_elim
        (λ m. (n.0, m, n.2, n.3))
        (λ m. let a = (f.events.2 n.0 m).1 in let b = ap is_end n.3 in absurd (let z : true ≡ false = sym a ∙ b ∙ no' in cc))
        (among_append n.0 v.events f.events.0 (subst (λ L. IsAmong n.0 L) f.events.1 n.1))

    pub follows_covers : {j r : ℕ} {k : StreamNo} → Covers v.events j k r → Covers w.events j k r
    follows_covers c = (c.0, c.1 ++ f.events.0, c.2, c.3, f.events.1 ∙ ap (λ l. l ++ f.events.0) c.4 ∙ append_assoc c.0 (c.2 ∷ c.1) f.events.0, c.5, c.6, c.7)

    pub follows_mine : {u : What} → Notes v.events v.by u → Notes w.events w.by u
    follows_mine {u = u} n = subst (λ k. Notes w.events k u) (sym same_by) (follows_noted n)

    pub follows_closed : (s : ℕ) → IsClosed v.events v.by s → IsClosed w.events w.by s
    follows_closed s c = subst (λ k. IsClosed w.events k s) (sym same_by) (closed_map v.events w.events v.by (λ u n. follows_noted n) s c)

    pub follows_alone : ((e : Event) → IsAmong e v.events → e.by ≡ v.by) → (e : Event) → IsAmong e w.events → e.by ≡ w.by
    follows_alone a e m = ⊎_elim (λ i. a e i ∙ sym same_by) (λ i. (f.events.2 e i).0 ∙ sym same_by) (among_append e v.events f.events.0 (subst (λ L. IsAmong e L) f.events.1 m))
