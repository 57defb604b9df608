-- What the seat's own stream noted, and what that leaves as it was.
use Rattle.std.proofs.Common.{◌≡◌, ℕ, suc, Bool, cond, List, [], ◌∷◌, ◌++◌, ◌⊎◌, ◌≤◌, flat_map, length, inl, inr, refl, sym, ap, ◌∙◌, subst, ⊎_elim, append_assoc, append-nil, arith, reverse}
use Rattle.std.specs.Prelude.{◌↔◌}
use Rattle.std.specs.List.{list_any as any}
use Rattle.chunk_core.specs.Lists.IsAmong.{here}
use Rattle.std.proofs.lemmas.Grind.{flat_map-append}
use Rattle.chunk_core.specs.declared.code.Exit.{Exit}
use Rattle.chunk_core.specs.Lists.{IsAmong, has}
use Rattle.chunk_core.proofs.Members.{among_left, among_nil}
use Rattle.res_ledger.specs.declared.event.Event.{Event}
use Rattle.res_ledger.specs.declared.event.StreamNo.{StreamNo}
use Rattle.res_ledger.specs.declared.event.What.{What}
use Rattle.res_ledger.specs.declared.event.What.TheVariants.{Acquire, Lease, Open}
use Rattle.res_ledger.specs.Ledger.{IsAcquired, IsClosed, LiesWithin, Notes}
use Rattle.res_ledger.specs.Ledger.LiesWithin.{below, same}
use Rattle.res_ledger.specs.Order.{finals}
use Rattle.res_ledger.specs.Own.{closes, closes_of, is_closed, opens, opens_of, own, rows, acquires_of, up}
use Rattle.res_ledger.proofs.Growth.{noted_snoc}
use Rattle.res_ledger.proofs.Noted.{closes_notes, notes_closes, notes_opens, notes_own, opens_notes, own_notes}
use Rattle.row_seat.specs.declared.view.View.{View}
use Rattle.row_seat.specs.Views.{HasRow, noted}
use Rattle.scope_tree.specs.declared.branch.Branch.{Branch}
use Rattle.scope_tree.specs.declared.branch.AcquiredRow.{AcquiredRow}
use Rattle.scope_tree.specs.declared.branch.Spent.{Spent}
use Rattle.scope_tree.specs.Kept.{HoldsRows, Kept, Lends, Mirrors, Rests, acquisition_pairs}
use Rattle.scope_tree.specs.Released.{Holder, Released, said}
use Rattle.scope_tree.specs.Trace.{numbers, open_of, open_scopes, owed, trace}
use Rattle.scope_tree.specs.Rows.{Once}
use Rattle.scope_tree.proofs.Bridge.{own_snoc}
use Rattle.scope_tree.proofs.Follows.{follows_old, released_follows, same_by}
use Rattle.scope_tree.proofs.Releasing.{released_own}

-- no scope, row or close stands in Finals
pub opens_finals : (x : Exit) (fs : List (ℕ × Bool)) → opens (finals x fs) ≡ []
opens_finals x [] = refl
opens_finals x (f ∷ fs) = opens_finals x fs

pub rows_finals : (x : Exit) (fs : List (ℕ × Bool)) → rows (finals x fs) ≡ []
rows_finals x [] = refl
rows_finals x (f ∷ fs) = rows_finals x fs

pub closes_finals : (x : Exit) (fs : List (ℕ × Bool)) → closes (finals x fs) ≡ []
closes_finals x [] = refl
closes_finals x (f ∷ fs) = closes_finals x fs

-- what is closed is read off the Opens and the Closes
closed_same : (E F : List What) (xs : List ℕ) → opens F ≡ opens E → closes F ≡ closes E → open_of F xs ≡ open_of E xs
closed_same E F [] o c = refl
closed_same E F (x ∷ xs) o c =
    let e : is_closed F x ≡ is_closed E x = ap (λ l. any (λ a. has a (closes F)) (up (reverse l) x)) o ∙ ap (λ l. any (λ a. has a l) (up (reverse (opens E)) x)) c in
    ap (λ b. cond b (open_of F xs) (suc (open_of F xs))) e ∙ ap (λ n. cond (is_closed E x) n (suc n)) (closed_same E F xs o c)

-- what is drawn from each of a list's events stays, where nothing is drawn from those that follow
drawn_same : {A : Type 0} (of : What → List A) (E F : List What) → flat_map of F ≡ [] → flat_map of (E ++ F) ≡ flat_map of E
drawn_same of E F none = flat_map-append of E F ∙ ap (λ l. flat_map of E ++ l) none ∙ append-nil (flat_map of E)

pub within_opens : {L M : List Event} {k q : StreamNo} {s a : ℕ} → ((c p : ℕ) → Notes L k (Open c p) → Notes M q (Open c p)) → LiesWithin L k s a → LiesWithin M q s a
within_opens h (same s) = same s
within_opens h (below s p a n w) = below s p a (h s p n) (within_opens h w)

module _ {P : Type 0} where
  -- which scopes are closed is read off the Opens and the Closes
  pub closed_like : (v w : View P) → opens (trace v) ≡ opens (trace w) → closes (trace v) ≡ closes (trace w) → (s : ℕ) → IsClosed v.events v.by s → IsClosed w.events w.by s
  closed_like v w o c s x = (
    x.0,
    within_opens (λ a p n. opens_notes w.events w.by (a, p) (subst (λ l. IsAmong (a, p) l) o (notes_opens v.events v.by a p n))) x.1,
    closes_notes w.events w.by x.0 (subst (λ l. IsAmong x.0 l) c (notes_closes v.events v.by x.0 x.2)),
  )

  -- from v to w the seat's own stream noted E, and no other row was acquired
  pub record Grown (v w : View P) (E : List What) : Type 0 where
    pub trace : trace w ≡ trace v ++ E
    pub acquired : (r : ℕ) → IsAcquired w.events r → IsAcquired v.events r ⊎ ((s : ℕ) × IsAmong (r, s) (rows E))

  pub grown_note : (v : View P) (n : ℕ) (e : What) → Grown v (noted v (record { stamp = n; by = v.by; what = e })) (e ∷ [])
  grown_note v n e = let x : Event = record { stamp = n; by = v.by; what = e } in record {
    trace = own_snoc v.by v.events x refl;
    acquired = λ r a. ⊎_elim (λ m. inl (a.0, a.1, m)) (λ m. inr (a.1, subst (λ z. IsAmong (r, a.1) (rows (z ∷ []))) (sym m.1) (here []))) (noted_snoc v.events x a.0 (Acquire r a.1) a.2);
  }

  -- it noted e and then let rows go
  pub grown_release : {ends : P → Exit → Bool → P → Type 0} {x : Exit} {h : Holder} {T : List ℕ} {w : View P} {ys : List (Spent P)} (v : View P) (n : ℕ) (e : What) → Released ends x h T (noted v (record { stamp = n; by = v.by; what = e })) ys w → Grown v w (e ∷ finals x (said ys))
  grown_release {x = x} {w = w} {ys = ys} v n e t =
      let g = grown_note v n e in let f = released_follows t in record {
        trace = ap (λ b. own b w.events) (same_by f) ∙ released_own v.by t refl ∙ ap (λ l. l ++ finals x (said ys)) g.trace ∙ append_assoc (trace v) (e ∷ []) (finals x (said ys));
        acquired = λ r a. ⊎_elim (λ m. inl m) (λ m. inr (m.0, subst (λ l. IsAmong (r, m.0) (acquires_of e ++ l)) (sym (rows_finals x (said ys))) m.1)) (g.acquired r (a.0, a.1, follows_old f refl a.2));
      }

  module _ {v w : View P} {E : List What} (g : Grown v w E) where
    -- what was noted is noted
    pub grown_noted : {u : What} → Notes v.events v.by u → Notes w.events w.by u
    grown_noted {u = u} n = own_notes w.events w.by u (subst (λ l. IsAmong u l) (sym g.trace) (among_left E (notes_own v.events v.by u n)))

    pub grown_closed : (s : ℕ) → IsClosed v.events v.by s → IsClosed w.events w.by s
    grown_closed s x = (x.0, within_opens (λ a p n. grown_noted n) x.1, (x.2.0, grown_noted x.2.1))

    pub grown_opens : opens E ≡ [] → opens (trace w) ≡ opens (trace v)
    grown_opens none = ap opens g.trace ∙ drawn_same opens_of (trace v) E none

    pub grown_rows : rows E ≡ [] → rows (trace w) ≡ rows (trace v)
    grown_rows none = ap rows g.trace ∙ drawn_same acquires_of (trace v) E none

    pub grown_closes : closes E ≡ [] → closes (trace w) ≡ closes (trace v)
    grown_closes none = ap closes g.trace ∙ drawn_same closes_of (trace v) E none

    pub grown_acquired : rows E ≡ [] → (r : ℕ) → IsAcquired w.events r → IsAcquired v.events r
    grown_acquired none r a = ⊎_elim (λ m. m) (λ m. absurd (among_nil (subst (λ l. IsAmong (r, m.0) l) none m.1))) (g.acquired r a)

    -- where no scope was opened or closed
    module _ (o : opens E ≡ []) (c : closes E ≡ []) where
      pub grown_back : (s : ℕ) → IsClosed w.events w.by s → IsClosed v.events v.by s
      grown_back = closed_like w v (grown_opens o) (grown_closes c)

      pub grown_scopes : open_scopes (trace w) ≡ open_scopes (trace v)
      grown_scopes = ap (λ l. open_of (trace w) (0 ∷ numbers l)) (grown_opens o) ∙ closed_same (trace v) (trace w) (0 ∷ numbers (opens (trace v))) (grown_opens o) (grown_closes c)

-- and nothing came or went that is open, as much is owed
pub owed_still : {P : Type 0} {v w : View P} {E : List What} → Grown v w E → opens E ≡ [] → closes E ≡ [] → w.opened ≡ v.opened → owed w ≡ owed v
owed_still g o c still = let s = grown_scopes g o c in let l = ap length still in omega (s, l, arith)

-- with the same Opens, Acquires and Closes
pub mirrors_same : {E F : List What} {bs : List Branch} {hs : List AcquiredRow} → opens F ≡ opens E → rows F ≡ rows E → closes F ≡ closes E → Mirrors E bs hs → Mirrors F bs hs
mirrors_same o r c m = record {
  size = m.size;
  opens = o ∙ m.opens;
  shut = λ s d l. m.shut s d l ∙ ap (has s) (sym c);
  ended = λ s i. m.ended s (subst (λ l. IsAmong s l) c i);
  rows = r ∙ m.rows;
  parents = m.parents;
  distinct = m.distinct;
  ranged = m.ranged;
}

module _ {P : Type 0} where
  -- where the same acquired rows' scopes are closed and the same rows are open
  pub holds_same : (v w : View P) {hs : List AcquiredRow} → ((r t : ℕ) → IsAmong (r, t) (acquisition_pairs hs) → IsClosed v.events v.by t ↔ IsClosed w.events w.by t) → ((r : ℕ) → HasRow v.opened r ↔ HasRow w.opened r) → Once w.opened → HoldsRows v hs → HoldsRows w hs
  holds_same v w c o once h = record {
    live = λ r t m n. (o r).0 (h.live r t m (λ x. n ((c r t m).0 x)));
    only = λ r i. let y = h.only r ((o r).1 i) in (y.0, y.1, λ x. y.2 ((c r y.0 y.1).1 x));
    once = once;
  }

  -- with no more leases, open rows and empty rows
  pub lends_less : (v w : View P) → ((y : ℕ × ℕ) → IsAmong y w.pairs → IsAmong y v.pairs) → ((r : ℕ) → HasRow w.opened r → HasRow v.opened r) → ((r : ℕ) → IsAmong r w.empty → IsAmong r v.empty) → ((j s : ℕ) → Notes v.events v.by (Lease j s) → Notes w.events w.by (Lease j s)) → Lends v → Lends w
  lends_less v w p o e n l = record {
    pairs = λ j r m h. let y = l.pairs j r (p (j, r) m) (o r h) in (y.0, n j y.0 y.1);
    bare = λ j r m i. l.bare j r (p (j, r) m) (e r i);
  }

  -- with no more empty rows, of which no other is acquired
  pub rests_less : (v w : View P) → w.handed ≡ [] → w.taken ≡ [] → ((r : ℕ) → IsAmong r w.empty → IsAmong r v.empty × (IsAcquired w.events r → IsAcquired v.events r)) → owed w ≤ w.spare → Rests v → Rests w
  rests_less v w h t e s rests = record {
    handed = h;
    taken = t;
    empty = λ r m a. rests.empty r (e r m).0 ((e r m).1 a);
    spare = s;
  }

  -- where no scope was opened or closed and no row acquired, the same rows are open, and no more are empty
  pub kept_still : (v w : View P) {bs : List Branch} {hs : List AcquiredRow} {E : List What} → Grown v w E → opens E ≡ [] → rows E ≡ [] → closes E ≡ [] → w.opened ≡ v.opened → ((r : ℕ) → IsAmong r w.empty → IsAmong r v.empty) → w.handed ≡ [] → w.taken ≡ [] → owed v ≤ w.spare → Lends w → Kept v bs hs → Kept w bs hs
  kept_still v w g o r c still less handed taken free lends k = record {
    mirrors = mirrors_same (grown_opens g o) (grown_rows g r) (grown_closes g c) k.mirrors;
    holds = holds_same v w (λ q t m. (grown_closed g t, grown_back g o c t)) (λ q. (subst (λ l. HasRow l q) (sym still), subst (λ l. HasRow l q) still)) (subst Once (sym still) k.holds.once) k.holds;
    lends = lends;
    rests = rests_less v w handed taken (λ q m. (less q m, grown_acquired g r q)) (let s = owed_still g o c still in omega (s, free, arith)) k.rests;
  }
