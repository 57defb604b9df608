-- What a close keeps of a tree.
use Rattle.std.proofs.Common.{◌≡◌, ◌≢◌, ℕ, ◌+◌, ◌<◌, ◌≤◌, ◌⊎◌, zero, suc, Bool, true, false, cond, eqb, ◌||◌, List, [], ◌∷◌, ◌++◌, length, drop, slice_index_or, slice_set, inl, inr, refl, sym, ap, ◌∙◌, subst, ⊎_elim, arith, append-nil, ne_eqb, reverse}
use Rattle.std.specs.List.{list_any as any}
use Rattle.std.proofs.lemmas.Bool.{cases_eq}
use Rattle.std.proofs.lemmas.List.{get_or-set_same, get_or-set_other, length-set, get_or_default}
use Rattle.chunk_core.specs.declared.code.Exit.{Exit}
use Rattle.chunk_core.specs.Lists.{IsAmong, has}
use Rattle.chunk_core.specs.Lists.IsAmong.{here}
use Rattle.chunk_core.proofs.Members.{among_nil, among_cons, among_left, among_last, among_snoc}
use Rattle.res_ledger.specs.declared.event.Event.{Event}
use Rattle.res_ledger.specs.declared.event.StreamNo.{StreamNo}
use Rattle.res_ledger.specs.declared.event.What.{What}
use Rattle.res_ledger.specs.declared.event.What.TheVariants.{Close}
use Rattle.res_ledger.specs.Ledger.{LiesWithin, IsClosed, IsUsable, NotesClose}
use Rattle.res_ledger.specs.Ledger.LiesWithin.{same, below}
use Rattle.res_ledger.specs.Order.{finals}
use Rattle.res_ledger.specs.Own.{opens, rows, closes, up, ancestors, is_closed}
use Rattle.res_ledger.proofs.Noted.{closes_notes, notes_closes, notes_opens, opens_notes}
use Rattle.chunk_core.proofs.Bools.{has_in, in_has, any_at}
use Rattle.row_seat.specs.declared.view.View.{View}
use Rattle.row_seat.specs.Views.{HasRow}
use Rattle.scope_tree.specs.declared.branch.Branch.{Branch}
use Rattle.scope_tree.specs.declared.branch.AcquiredRow.{AcquiredRow}
use Rattle.scope_tree.specs.declared.branch.Spent.{Spent}
use Rattle.scope_tree.specs.Kept.{marks, Kept}
use Rattle.scope_tree.specs.Kids.{kids, whole, lasts}
use Rattle.scope_tree.specs.Released.{CanRelease, Released, said}
use Rattle.scope_tree.specs.Released.Holder.{owner}
use Rattle.scope_tree.specs.Trace.{trace, owed, shutting, open_of, open_scopes, numbers}
use Rattle.scope_tree.proofs.Beneath.{any_more, close_can, inside, noted_parent, one_open, under_within, up_self, usable_scope, whole_under}
use Rattle.scope_tree.proofs.Bridge.{closes_append}
use Rattle.scope_tree.proofs.Follows.{released_follows, same_empty}
use Rattle.scope_tree.proofs.Grown.{Grown, closes_finals, grown_acquired, grown_closed, grown_noted, grown_opens, grown_release, grown_rows, lends_less, opens_finals, rests_less, rows_finals, within_opens}
use Rattle.scope_tree.proofs.Owning.{owner_count, owner_gone, owner_has}
use Rattle.scope_tree.proofs.Parts.{pair_lasts, one_scope}
use Rattle.chunk_core.proofs.Filters.{among_right}
use Rattle.scope_tree.proofs.Releasing.{released_can, released_most, released_spare}

marks_set : (bs : List Branch) (n s : ℕ) (b : Branch) → ((d : Branch) → s < length bs → (slice_index_or bs s d).parent ≡ b.parent) → marks n (slice_set bs s b) ≡ marks n bs
marks_set [] n s b h = refl
marks_set (x ∷ bs) n zero b h = ap (λ p. let y : ℕ × ℕ = (n, p) in y ∷ marks (suc n) bs) (sym (h x (omega arith)))
marks_set (x ∷ bs) n (suc s) b h = ap (λ l. let y : ℕ × ℕ = (n, x.parent) in y ∷ l) (marks_set bs (suc n) s b (λ d l. h d (omega arith)))

marks_drop_set : (bs : List Branch) (s : ℕ) (b : Branch) → ((d : Branch) → s < length bs → (slice_index_or bs s d).parent ≡ b.parent) → marks 1 (drop 1 (slice_set bs s b)) ≡ marks 1 (drop 1 bs)
marks_drop_set [] s b h = refl
marks_drop_set (x ∷ bs) zero b h = refl
marks_drop_set (x ∷ bs) (suc s) b h = marks_set bs 1 s b (λ d l. h d (omega arith))

has_append : (c : ℕ) (xs ys : List ℕ) → has c xs ≡ true → has c (xs ++ ys) ≡ true
has_append c xs ys h = in_has c (xs ++ ys) (among_left ys (has_in c xs h))

has_last : (c s : ℕ) (xs : List ℕ) → c ≢ s → has c (xs ++ s ∷ []) ≡ has c xs
has_last c s [] ne = ap (λ b. b || false) (ne_eqb c s ne)
has_last c s (x ∷ xs) ne = ap (λ b. eqb c x || b) (has_last c s xs ne)

-- where a scope closes and none opens, one less is open
pub open_less : (E F : List What) (xs : List ℕ) → ((c : ℕ) → is_closed E c ≡ true → is_closed F c ≡ true) → open_of F xs ≤ open_of E xs
open_less E F [] h = omega arith
open_less E F (x ∷ xs) h =
    let t = open_less E F xs h in
    elim (is_closed E x) as (λ b. is_closed E x ≡ b → cond (is_closed F x) (open_of F xs) (suc (open_of F xs)) ≤ cond b (open_of E xs) (suc (open_of E xs))) [
      | true ↦ λ q. subst (λ b. cond b (open_of F xs) (suc (open_of F xs)) ≤ open_of E xs) (sym (h x q)) t
      | false ↦ λ q. elim (is_closed F x) as (λ b. cond b (open_of F xs) (suc (open_of F xs)) ≤ suc (open_of E xs)) [ true ↦ (omega arith) | false ↦ (omega arith) ]
    ] refl

open_one_less : (E F : List What) (xs : List ℕ) (s : ℕ) → ((c : ℕ) → is_closed E c ≡ true → is_closed F c ≡ true) → IsAmong s xs → is_closed E s ≡ false → is_closed F s ≡ true → open_of F xs + 1 ≤ open_of E xs
open_one_less E F [] s h m e f = absurd (among_nil m)
open_one_less E F (x ∷ xs) s h m e f =
    ⊎_elim
    (λ q. let t = open_less E F xs h in
    subst (λ b. cond (is_closed F x) (open_of F xs) (suc (open_of F xs)) + 1 ≤ cond b (open_of E xs) (suc (open_of E xs))) (sym (ap (λ z. is_closed E z) (sym q) ∙ e))
    (subst (λ b. cond b (open_of F xs) (suc (open_of F xs)) + 1 ≤ suc (open_of E xs)) (sym (ap (λ z. is_closed F z) (sym q) ∙ f)) (omega arith)))
    (λ n. let t = open_one_less E F xs s h n e f in
    elim (is_closed E x) as (λ b. is_closed E x ≡ b → cond (is_closed F x) (open_of F xs) (suc (open_of F xs)) + 1 ≤ cond b (open_of E xs) (suc (open_of E xs))) [
      | true ↦ λ q. subst (λ b. cond b (open_of F xs) (suc (open_of F xs)) + 1 ≤ open_of E xs) (sym (h x q)) t
      | false ↦ λ q. elim (is_closed F x) as (λ b. cond b (open_of F xs) (suc (open_of F xs)) + 1 ≤ suc (open_of E xs)) [ true ↦ (omega arith) | false ↦ (omega arith) ]
    ] refl)
    (among_cons m)

module _ {P : Type 0} {ends : P → Exit → Bool → P → Type 0} {x : Exit} (v w : View P) (bs : List Branch) (hs : List AcquiredRow) (ys : List (Spent P)) (s n : ℕ) (k : Kept v bs hs) (u : IsUsable v.events v.by s) (t : Released ends x owner (whole bs hs s) (shutting v s x n) ys w) where
  pub close_grown : Grown v w (Close s x ∷ finals x (said ys))
  close_grown = grown_release v n (Close s x) t

  pub opens_same : opens (trace w) ≡ opens (trace v)
  opens_same = grown_opens close_grown (opens_finals x (said ys))

  pub rows_same : rows (trace w) ≡ rows (trace v)
  rows_same = grown_rows close_grown (rows_finals x (said ys))

  closes_same : closes (trace w) ≡ closes (trace v) ++ s ∷ []
  closes_same = ap closes close_grown.trace ∙ closes_append (trace v) (Close s x ∷ finals x (said ys)) ∙ ap (λ l. closes (trace v) ++ s ∷ l) (closes_finals x (said ys))

  more_closed : (c : ℕ) → is_closed (trace v) c ≡ true → is_closed (trace w) c ≡ true
  more_closed c h =
      subst (λ o. any (λ a. has a (closes (trace w))) (up (reverse o) c) ≡ true) (sym opens_same)
      (any_more (λ a. has a (closes (trace v))) (λ a. has a (closes (trace w))) (up (reverse (opens (trace v))) c) (λ a q. subst (λ l. has a l ≡ true) (sym closes_same) (has_append a (closes (trace v)) (s ∷ []) q)) h)

  now_closed : is_closed (trace w) s ≡ true
  now_closed = any_at (λ a. has a (closes (trace w))) s (ancestors (trace w) s) (up_self (reverse (opens (trace w))) s) (subst (λ l. has s l ≡ true) (sym closes_same) (in_has s (closes (trace v) ++ s ∷ []) (among_last (closes (trace v)) s)))

  now_noted : NotesClose w.events w.by s
  now_noted = closes_notes w.events w.by s (subst (λ l. IsAmong s l) (sym closes_same) (among_last (closes (trace v)) s))

  pub old_within : {c a : ℕ} → LiesWithin w.events w.by c a → LiesWithin v.events v.by c a
  old_within l = within_opens (λ c p m. opens_notes v.events v.by (c, p) (subst (λ o. IsAmong (c, p) o) opens_same (notes_opens w.events w.by c p m))) l

  pub old_close : (a : ℕ) → NotesClose w.events w.by a → NotesClose v.events v.by a ⊎ (a ≡ s)
  old_close a m = ⊎_elim (λ i. inl (closes_notes v.events v.by a i)) (λ i. inr i) (among_snoc (closes (trace v)) a s (subst (λ l. IsAmong a l) closes_same (notes_closes w.events w.by a m)))

  -- a scope less is open, at least
  pub close_less : open_scopes (trace w) + 1 ≤ open_scopes (trace v)
  close_less =
      let d = one_open v s u in
      let a : open_of (trace w) (0 ∷ numbers (opens (trace v))) + 1 ≤ open_scopes (trace v) = open_one_less (trace v) (trace w) (0 ∷ numbers (opens (trace v))) s more_closed d.1 d.0 now_closed in
      let b : open_scopes (trace w) ≡ open_of (trace w) (0 ∷ numbers (opens (trace v))) = ap (λ o. open_of (trace w) (0 ∷ numbers o)) opens_same in
      omega arith

  -- what is free doesn't shrink
  pub close_free : v.spare + owed w ≤ w.spare + owed v
  close_free = let a = owner_count t in let b = released_spare t in let c = released_most [] t in let d = close_less in let e = ap length (append-nil (whole bs hs s)) in omega (a, b, c, d, e, arith)

  pub close_keeps : (b : Branch) → ((d : Branch) → (slice_index_or bs s d).parent ≡ b.parent) → b.shut ≡ true → Kept w (slice_set bs s b) hs
  close_keeps b same_parent sh =
      let l = usable_scope v bs hs k s u in
      let f = released_follows t in let z = length-set bs s b in let m = k.mirrors in
      let within : (c : ℕ) → c < length (slice_set bs s b) → c < length bs = λ c q. omega arith in
      let rest : CanRelease owner [] w = released_can t (subst (λ T. CanRelease owner T (shutting v s x n)) (sym (append-nil (whole bs hs s))) (close_can v bs hs k s n x u)) in
      let was : (r : ℕ) → HasRow w.opened r → HasRow v.opened r = λ r h. (h.0, f.opened (r, h.0) h.1) in record {
        mirrors = record {
          size = (let y = m.size in omega arith);
          opens = opens_same ∙ m.opens ∙ sym (marks_drop_set bs s b (λ d q. same_parent d));
          shut = λ c d q. ⊎_elim
              (λ i. subst (λ y. (slice_index_or (slice_set bs s b) y d).shut ≡ has y (closes (trace w))) (sym i)
              (ap (λ y. y.shut) (get_or-set_same bs s b d l) ∙ sh ∙ sym (subst (λ y. has s y ≡ true) (sym closes_same) (in_has s (closes (trace v) ++ s ∷ []) (among_last (closes (trace v)) s)))))
              (λ ne. ap (λ y. y.shut) (get_or-set_other bs s c b d ne) ∙ m.shut c d (within c q) ∙ sym (has_last c s (closes (trace v)) ne) ∙ ap (has c) (sym closes_same))
              (cases_eq c s);
          ended = λ c i. ⊎_elim (λ q. let y = m.ended c q in omega arith) (λ q. omega arith) (among_snoc (closes (trace v)) c s (subst (λ y. IsAmong c y) closes_same i));
          rows = rows_same ∙ m.rows;
          parents = λ c d one q. ⊎_elim
              (λ i. subst (λ y. (slice_index_or (slice_set bs s b) y d).parent < c) (sym i) (subst (λ p. p < c) (same_parent d ∙ sym (ap (λ y. y.parent) (get_or-set_same bs s b d l))) (subst (λ y. (slice_index_or bs y d).parent < c) i (m.parents c d one (within c q)))))
              (λ ne. subst (λ p. p < c) (sym (ap (λ y. y.parent) (get_or-set_other bs s c b d ne))) (m.parents c d one (within c q)))
              (cases_eq c s);
          distinct = m.distinct;
          ranged = λ r c i. (let q = m.ranged r c i in omega arith);
        };
        holds = record {
          live = λ r c i no'. owner_has r t
              (λ a. let y = whole_under bs hs r s l a in
              no' (subst (λ q. IsClosed w.events w.by q) (one_scope r y.0 c hs m.distinct y.1 i) (s, within_opens (λ a p i. grown_noted close_grown i) (under_within v bs hs k s y.0 y.2), now_noted)))
              (k.holds.live r c i (λ y. no' (grown_closed close_grown c y)));
          only = λ r h. let y = k.holds.only r (was r h) in (
            y.0,
            y.1,
            λ c. let W = old_within c.1 in ⊎_elim
                (λ i. y.2 (c.0, W, i))
                (λ i. owner_gone r t k.holds.once (inside v bs hs k r y.0 s (subst (λ q. LiesWithin v.events v.by y.0 q) i W) (m.ranged r y.0 y.1) y.2 (among_right r (kids (suc y.0) (drop (suc y.0) bs) hs y.0) (lasts hs y.0) (pair_lasts r y.0 hs y.1))) h)
                (old_close c.0 c.2),
          );
          once = f.once k.holds.once;
        };
        lends = lends_less v w f.pairs was (λ r i. subst (λ y. IsAmong r y) (same_empty f) i) (λ j c i. grown_noted close_grown i) k.lends;
        rests = rests_less v w rest.handed rest.taken
            (λ r i. (subst (λ y. IsAmong r y) (same_empty f) i, grown_acquired close_grown (rows_finals x (said ys)) r))
            (let f = close_free in let o = k.rests.spare in omega (f, o, arith)) k.rests;
      }

pub within_trans : {L : List Event} {k : StreamNo} {s t a : ℕ} → LiesWithin L k s t → LiesWithin L k t a → LiesWithin L k s a
within_trans (same s) w = w
within_trans (below s p t n u) w = below s p _ n (within_trans u w)

module _ {P : Type 0} (v : View P) (bs : List Branch) (hs : List AcquiredRow) (k : Kept v bs hs) where
  -- each scope lies within the root
  pub under_root : (n t : ℕ) → t ≤ n → t < length bs → LiesWithin v.events v.by t 0
  under_root n zero q l = same 0
  under_root zero (suc t) q l = absurd (omega arith)
  under_root (suc n) (suc t) q l =
      let d : Branch = record { parent = 0; shut = false } in let p = (slice_index_or bs (suc t) d).parent in
      let less = k.mirrors.parents (suc t) d (omega arith) l in
      below (suc t) p 0 (noted_parent v bs hs k (suc t) p (omega arith) l (λ e. ap (λ b. b.parent) (get_or_default bs (suc t) e d l))) (under_root n p (omega arith) (omega arith))

  -- where the root is closed each scope is
  pub root_closes : (t : ℕ) → t < length bs → IsClosed v.events v.by 0 → IsClosed v.events v.by t
  root_closes t l c = (c.0, within_trans (under_root t t (omega arith) l) c.1, c.2)

  open_none : (xs : List (ℕ × P)) → ((r : ℕ) → HasRow xs r → ⊥) → xs ≡ []
  open_none [] n = refl
  open_none (x ∷ xs) n = absurd (n x.0 (x.1, here xs))

  -- where the root is closed nothing is open
  pub nothing_open : IsClosed v.events v.by 0 → v.opened ≡ []
  nothing_open c = open_none v.opened (λ r h. let y = k.holds.only r h in y.2 (root_closes y.0 (k.mirrors.ranged r y.0 y.1) c))
