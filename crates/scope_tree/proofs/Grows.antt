-- What an acquisition and an opening keep of a tree.
use Rattle.std.proofs.Common.{◌≡◌, ◌≢◌, ℕ, ◌+◌, ◌<◌, ◌≤◌, ◌⊎◌, zero, suc, true, false, cond, List, [], ◌∷◌, ◌++◌, length, drop, slice_index_or, inl, inr, refl, sym, ap, ◌∙◌, subst, ⊎_elim, arith, ne_eqb, length-append, nat_eq, reverse}
use Rattle.res_ledger.specs.declared.event.What.{What}
use Rattle.res_ledger.specs.declared.event.What.TheVariants.{Open, Acquire}
use Rattle.row_seat.specs.declared.view.View.{View}
use Rattle.chunk_core.specs.Lists.{IsAmong, has}
use Rattle.res_ledger.specs.Ledger.{Notes, IsClosed, IsUsable}
use Rattle.chunk_core.specs.Lists.IsAmong.{here, there}
use Rattle.chunk_core.proofs.Members.{among_nil, among_cons, among_left, among_last, among_snoc}
use Rattle.row_seat.proofs.Members.{among_without}
use Rattle.row_seat.specs.Views.{HasRow, noted, placed}
use Rattle.res_ledger.specs.Own.{own, opens, rows, closes, up, is_closed}
use Rattle.std.specs.List.{list_any as any, IsDistinct}
use Rattle.scope_tree.specs.declared.branch.Branch.{Branch}
use Rattle.scope_tree.specs.declared.branch.AcquiredRow.{AcquiredRow}
use Rattle.scope_tree.specs.Kept.{marks, acquisition_pairs, acquisition_rows, Kept}
use Rattle.scope_tree.specs.Trace.{trace, owed, acquiring, opening, open_of, open_scopes, numbers}
use Rattle.scope_tree.specs.Calls.{AtStart}
use Rattle.std.proofs.lemmas.Bool.{cases_eq}
use Rattle.scope_tree.proofs.Beneath.{noted_scope, one_open, usable_scope, not_true'}
use Rattle.scope_tree.proofs.Grown.{Grown, grown_acquired, grown_back, grown_closed, grown_closes, grown_note, grown_noted, grown_opens, grown_rows, grown_scopes, holds_same, lends_less, rests_less}
use Rattle.scope_tree.proofs.Owed.{number_among}
use Rattle.scope_tree.specs.Rows.{Once}
use Rattle.scope_tree.proofs.Once.{once_push}
use Rattle.res_ledger.specs.Ledger.{LiesWithin}
use Rattle.res_ledger.specs.Ledger.LiesWithin.{same, below}
use Rattle.scope_tree.proofs.Parts.{row_of_pair}
use Rattle.chunk_core.proofs.Distinct.{distinct_append, distinct_one, distinct_nil}
use Rattle.scope_tree.proofs.Bridge.{in_noted, within_cases, in_rows, opens_append, rows_append}
use Rattle.res_ledger.proofs.Growth.{noted_new}
use Rattle.res_ledger.proofs.Noted.{closes_notes, notes_closes, notes_opens, opens_notes}
use Rattle.chunk_core.proofs.Bools.{has_in}
use Rattle.std.proofs.lemmas.List.{reverse-append}

pub pairs_snoc : (hs : List AcquiredRow) (h : AcquiredRow) → acquisition_pairs (hs ++ h ∷ []) ≡ acquisition_pairs hs ++ (h.row, h.scope) ∷ []
pairs_snoc [] h = refl
pairs_snoc (x ∷ hs) h = ap (λ l. let y : ℕ × ℕ = (x.row, x.scope) in y ∷ l) (pairs_snoc hs h)

pub rows_snoc : (hs : List AcquiredRow) (h : AcquiredRow) → acquisition_rows (hs ++ h ∷ []) ≡ acquisition_rows hs ++ h.row ∷ []
rows_snoc [] h = refl
rows_snoc (x ∷ hs) h = ap (λ l. x.row ∷ l) (rows_snoc hs h)

pub pair_of_row : (r : ℕ) (hs : List AcquiredRow) → IsAmong r (acquisition_rows hs) → (t : ℕ) × IsAmong (r, t) (acquisition_pairs hs)
pair_of_row r [] m = absurd (among_nil m)
pair_of_row r (h ∷ hs) m = ⊎_elim (λ e. (h.scope, subst (λ z. IsAmong (z, h.scope) (acquisition_pairs (h ∷ hs))) (sym e) (here (acquisition_pairs hs)))) (λ n. let t = pair_of_row r hs n in let y : ℕ × ℕ = (h.row, h.scope) in (t.0, there y t.1)) (among_cons m)

module _ {P : Type 0} (v : View P) (bs : List Branch) (hs : List AcquiredRow) (r s n : ℕ) (p : P) (k : Kept v bs hs) (u : IsUsable v.events v.by s) (m : IsAmong r v.empty) (f : owed v + 2 ≤ v.spare) where
  abbrev now : View P
  now = placed (noted v (acquiring v r s n)) r p

  pub acquired_grown : Grown v now (Acquire r s ∷ [])
  acquired_grown = let g = grown_note v n (Acquire r s) in record { trace = g.trace; acquired = g.acquired }

  pub acquired_opens : opens (trace now) ≡ opens (trace v)
  acquired_opens = grown_opens acquired_grown refl

  acquired_closes : closes (trace now) ≡ closes (trace v)
  acquired_closes = grown_closes acquired_grown refl

  pub acquired_rows : rows (trace now) ≡ rows (trace v) ++ (r, s) ∷ []
  acquired_rows = ap rows acquired_grown.trace ∙ rows_append (trace v) (Acquire r s ∷ [])

  -- as many scopes are open
  pub acquired_scopes : open_scopes (trace now) ≡ open_scopes (trace v)
  acquired_scopes = grown_scopes acquired_grown refl refl

  pub acquired_owed : owed now ≡ owed v + 1
  acquired_owed = let x = acquired_scopes in let y = length-append v.opened ((r, p) ∷ []) in omega arith

  new_row : ¬ (IsAmong r (acquisition_rows hs))
  new_row i = let t = pair_of_row r hs i in k.rests.empty r m (v.by, t.0, in_noted v.by (Acquire r t.0) v.events (in_rows r t.0 (trace v) (subst (λ l. IsAmong (r, t.0) l) (sym k.mirrors.rows) t.1)))

  pub acquire_keeps : Kept now bs (hs ++ record { row = r; scope = s } ∷ [])
  acquire_keeps =
      let h : AcquiredRow = record { row = r; scope = s } in
      let acquisitions : (y : ℕ × ℕ) → IsAmong y (acquisition_pairs (hs ++ h ∷ [])) → IsAmong y (acquisition_pairs hs) ⊎ (y ≡ (r, s)) = λ y i. among_snoc (acquisition_pairs hs) y (r, s) (subst (λ l. IsAmong y l) (pairs_snoc hs h) i) in
      let more : (y : ℕ × ℕ) → IsAmong y (acquisition_pairs hs ++ (r, s) ∷ []) → IsAmong y (acquisition_pairs (hs ++ h ∷ [])) = λ y i. subst (λ l. IsAmong y l) (sym (pairs_snoc hs h)) i in
      let back = grown_back acquired_grown refl refl in record {
        mirrors = record {
          size = k.mirrors.size;
          opens = acquired_opens ∙ k.mirrors.opens;
          shut = λ c d l. k.mirrors.shut c d l ∙ ap (has c) (sym acquired_closes);
          ended = λ c i. k.mirrors.ended c (subst (λ l. IsAmong c l) acquired_closes i);
          rows = acquired_rows ∙ ap (λ l. l ++ (r, s) ∷ []) k.mirrors.rows ∙ sym (pairs_snoc hs h);
          parents = k.mirrors.parents;
          distinct = subst (IsDistinct nat_eq) (sym (rows_snoc hs h)) (distinct_append (acquisition_rows hs) (r ∷ []) k.mirrors.distinct (distinct_one r) (λ x i j. ⊎_elim (λ q. new_row (subst (λ z. IsAmong z (acquisition_rows hs)) q i)) among_nil (among_cons j)));
          ranged = λ q t i. ⊎_elim (λ o. k.mirrors.ranged q t o) (λ o. subst (λ z. z < length bs) (sym (ap (λ y. y.1) o)) (usable_scope v bs hs k s u)) (acquisitions (q, t) i);
        };
        holds = record {
          live = λ q t i open'. ⊎_elim
              (λ o. let y = k.holds.live q t o (λ c. open' (grown_closed acquired_grown t c)) in (y.0, among_left ((r, p) ∷ []) y.1))
              (λ o. (p, subst (λ z. IsAmong (z, p) (v.opened ++ (r, p) ∷ [])) (sym (ap (λ y. y.0) o)) (among_last v.opened (r, p))))
              (acquisitions (q, t) i);
          only = λ q o. ⊎_elim
              (λ a. let y = k.holds.only q (o.0, a) in (y.0, more (q, y.0) (among_left ((r, s) ∷ []) y.1), λ c. y.2 (back y.0 c)))
              (λ a. (s, more (q, s) (subst (λ z. IsAmong (z, s) (acquisition_pairs hs ++ (r, s) ∷ [])) (sym (ap (λ y. y.0) a)) (among_last (acquisition_pairs hs) (r, s))), λ c. u.1 (back s c)))
              (among_snoc v.opened (q, o.0) (r, p) o.1);
          once = once_push r v.opened p k.holds.once (λ o. let y = k.holds.only r o in new_row (row_of_pair r y.0 hs y.1));
        };
        lends = record {
          pairs = λ j q i o. ⊎_elim
              (λ a. let y = k.lends.pairs j q i (o.0, a) in (y.0, grown_noted acquired_grown y.1))
              (λ a. absurd (k.lends.bare j q i (subst (λ z. IsAmong z v.empty) (sym (ap (λ y. y.0) a)) m)))
              (among_snoc v.opened (q, o.0) (r, p) o.1);
          bare = λ j q i o. k.lends.bare j q i (among_without r v.empty q o).0;
        };
        rests = rests_less v now k.rests.handed k.rests.taken
            (λ q i. let w = among_without r v.empty q i in (w.0, λ a. ⊎_elim (λ o. o) (λ o. absurd (⊎_elim (λ e. w.1 (ap (λ y. y.0) e)) among_nil (among_cons o.1))) (acquired_grown.acquired q a)))
            (let o = acquired_owed in omega arith) k.rests;
      }

pub length_pairs : (hs : List AcquiredRow) → length (acquisition_pairs hs) ≡ length hs
length_pairs [] = refl
length_pairs (h ∷ hs) = ap suc (length_pairs hs)

marks_snoc : (bs : List Branch) (n : ℕ) (b : Branch) → marks n (bs ++ b ∷ []) ≡ marks n bs ++ (length bs + n, b.parent) ∷ []
marks_snoc [] n b = let e : n ≡ 0 + n = omega arith in ap (λ m. let y : ℕ × ℕ = (m, b.parent) in y ∷ []) e
marks_snoc (x ∷ bs) n b = let e : length bs + suc n ≡ suc (length bs) + n = omega arith in let y : ℕ × ℕ = (n, x.parent) in ap (λ l. y ∷ l) (marks_snoc bs (suc n) b ∙ ap (λ m. marks (suc n) bs ++ (m, b.parent) ∷ []) e)

marks_more : (bs : List Branch) (b : Branch) → 1 ≤ length bs → marks 1 (drop 1 (bs ++ b ∷ [])) ≡ marks 1 (drop 1 bs) ++ (length bs, b.parent) ∷ []
marks_more [] b l = absurd (omega arith)
marks_more (x ∷ bs) b l = let e : length bs + 1 ≡ suc (length bs) = omega arith in marks_snoc bs 1 b ∙ ap (λ m. marks 1 bs ++ (m, b.parent) ∷ []) e

length_all : (bs : List Branch) (n : ℕ) → length (marks n bs) ≡ length bs
length_all [] n = refl
length_all (b ∷ bs) n = ap suc (length_all bs (suc n))

ne_lt : (a b : ℕ) → a ≢ b → (a < b) ⊎ (b < a)
ne_lt a b ne = grind arith

pub length_marks : (bs : List Branch) → 1 ≤ length bs → length (marks 1 (drop 1 bs)) + 1 ≡ length bs
length_marks [] l = absurd (omega arith)
length_marks (x ∷ bs) l = let t = length_all bs 1 in omega arith

at_old : {A : Type 0} (xs : List A) (y : A) (i : ℕ) (d : A) → i < length xs → slice_index_or (xs ++ y ∷ []) i d ≡ slice_index_or xs i d
at_old [] y i d l = absurd (omega arith)
at_old (x ∷ xs) y zero d l = refl
at_old (x ∷ xs) y (suc i) d l = at_old xs y i d (omega arith)

at_new : {A : Type 0} (xs : List A) (y : A) (d : A) → slice_index_or (xs ++ y ∷ []) (length xs) d ≡ y
at_new [] y d = refl
at_new (x ∷ xs) y d = at_new xs y d

numbers_snoc : (xs : List (ℕ × ℕ)) (x : ℕ × ℕ) → numbers (xs ++ x ∷ []) ≡ numbers xs ++ x.0 ∷ []
numbers_snoc [] x = refl
numbers_snoc (y ∷ xs) x = ap (λ l. y.0 ∷ l) (numbers_snoc xs x)

-- as many of these scopes are open, and the one behind them is
open_push : (E F : List What) (xs : List ℕ) (x : ℕ) → ((s : ℕ) → IsAmong s xs → is_closed F s ≡ is_closed E s) → is_closed F x ≡ false → open_of F (xs ++ x ∷ []) ≡ open_of E xs + 1
open_push E F [] x h n = ap (λ b. cond b 0 1) n
open_push E F (y ∷ xs) x h n =
    let t = open_push E F xs x (λ s m. h s (there y m)) n in
    ap (λ b. cond b (open_of F (xs ++ x ∷ [])) (suc (open_of F (xs ++ x ∷ [])))) (h y (here xs))
    ∙ (elim (is_closed E y) as (λ b. cond b (open_of F (xs ++ x ∷ [])) (suc (open_of F (xs ++ x ∷ []))) ≡ cond b (open_of E xs) (suc (open_of E xs)) + 1) [ true ↦ t | false ↦ (omega arith) ])

module _ {P : Type 0} (v : View P) (bs : List Branch) (hs : List AcquiredRow) (p n : ℕ) (k : Kept v bs hs) (u : IsUsable v.events v.by p) (f : owed v + 2 ≤ v.spare) where
  abbrev then : View P
  then = noted v (opening v (length bs) p n)

  pub opened_grown : Grown v then (Open (length bs) p ∷ [])
  opened_grown = grown_note v n (Open (length bs) p)

  pub opened_opens : opens (trace then) ≡ opens (trace v) ++ (length bs, p) ∷ []
  opened_opens = ap opens opened_grown.trace ∙ opens_append (trace v) (Open (length bs) p ∷ [])

  opened_closes : closes (trace then) ≡ closes (trace v)
  opened_closes = grown_closes opened_grown refl

  pub opened_rows : rows (trace then) ≡ rows (trace v)
  opened_rows = grown_rows opened_grown refl

  no_close : has (length bs) (closes (trace v)) ≡ false
  no_close = not_true' (has (length bs) (closes (trace v))) (λ h. let l = k.mirrors.ended (length bs) (has_in (length bs) (closes (trace v)) h) in omega arith)

  -- each other scope is closed where it was
  same_closed : (c : ℕ) → c ≢ length bs → is_closed (trace then) c ≡ is_closed (trace v) c
  same_closed c ne =
      let same : up (reverse (opens (trace then))) c ≡ up (reverse (opens (trace v))) c =
      ap (λ o. up (reverse o) c) opened_opens ∙ ap (λ o. up o c) (reverse-append (opens (trace v)) ((length bs, p) ∷ [])) ∙ ap (λ b. cond b (c ∷ up (reverse (opens (trace v))) p) (up (reverse (opens (trace v))) c)) (ne_eqb (length bs) c (λ e. ne (sym e))) in
      ap (λ l. any (λ a. has a (closes (trace then))) l) same ∙ ap (λ l. any (λ a. has a l) (up (reverse (opens (trace v))) c)) opened_closes

  pub back_within : {t a : ℕ} → t < length bs → LiesWithin then.events v.by t a → LiesWithin v.events v.by t a
  back_within l (same t) = same t
  back_within l (below t q a m w) =
      let o : Notes v.events v.by (Open t q) = ⊎_elim
      (λ x. opens_notes v.events v.by (t, q) x)
      (λ x. absurd (let e : t ≡ length bs = ap (λ y. y.0) x in omega arith))
      (among_snoc (opens (trace v)) (t, q) (length bs, p) (subst (λ z. IsAmong (t, q) z) opened_opens (notes_opens then.events v.by t q m))) in
      let z = noted_scope v bs hs k t q o in let d : Branch = record { parent = 0; shut = false } in
      below t q a o (back_within (let e = z.2 d in let g = k.mirrors.parents t d z.0 l in omega arith) w)

  pub back_closed : (t : ℕ) → t < length bs → IsClosed then.events v.by t → IsClosed v.events v.by t
  back_closed t l c = (c.0, back_within l c.1, closes_notes v.events v.by c.0 (subst (λ z. IsAmong c.0 z) opened_closes (notes_closes then.events v.by c.0 c.2)))

  -- the new scope is open
  pub opened_usable : IsUsable then.events v.by (length bs)
  opened_usable = (
    inr (p, noted_new v.events (opening v (length bs) p n)),
    λ c. ⊎_elim
        (λ e. let l = k.mirrors.ended c.0 (subst (λ z. IsAmong c.0 z) opened_closes (notes_closes then.events v.by c.0 c.2)) in let z = e in omega arith)
        (λ t.
        let o : (length bs, t.0) ≡ (length bs, p) = ⊎_elim
        (λ m. absurd (let l = (noted_scope v bs hs k (length bs) t.0 (opens_notes v.events v.by (length bs, t.0) m)).1 in omega arith))
        (λ e. e)
        (among_snoc (opens (trace v)) (length bs, t.0) (length bs, p) (subst (λ z. IsAmong (length bs, t.0) z) opened_opens (notes_opens then.events v.by (length bs) t.0 t.1))) in
        u.1 (back_closed p (usable_scope v bs hs k p u) (subst (λ z. IsClosed then.events v.by z) (ap (λ y. y.1) o) (c.0, t.2, c.2))))
        (within_cases c.1),
  )

  -- so a scope more is open
  pub opened_scopes : open_scopes (trace then) ≡ open_scopes (trace v) + 1
  opened_scopes =
      let F = trace then in
      let x : open_of F (0 ∷ numbers (opens F)) ≡ open_of F ((0 ∷ numbers (opens (trace v))) ++ length bs ∷ []) = ap (λ l. open_of F (0 ∷ l)) (ap numbers opened_opens ∙ numbers_snoc (opens (trace v)) (length bs, p)) in
      x ∙ open_push (trace v) F (0 ∷ numbers (opens (trace v))) (length bs)
      (λ s m. same_closed s (λ e. ⊎_elim
      (λ z. let l = k.mirrors.size in omega (e, z, l, arith))
      (λ i. let t = number_among s (opens (trace v)) i in let l = (noted_scope v bs hs k s t.0 (opens_notes v.events v.by (s, t.0) t.1)).1 in omega (e, l, arith))
      (among_cons m)))
      (one_open then (length bs) opened_usable).0

  pub open_keeps : Kept then (bs ++ record { parent = p; shut = false } ∷ []) hs
  open_keeps =
      let b : Branch = record { parent = p; shut = false } in
      let len = length-append bs (b ∷ []) in
      let below' : p < length bs = usable_scope v bs hs k p u in
      let old : (c : ℕ) → c < length (bs ++ b ∷ []) → c ≢ length bs → c < length bs = λ c l ne. let z = ne_lt c (length bs) ne in omega arith in record {
        mirrors = record {
          size = (let z = k.mirrors.size in omega arith);
          opens = opened_opens ∙ ap (λ l. l ++ (length bs, p) ∷ []) k.mirrors.opens ∙ sym (marks_more bs b k.mirrors.size);
          shut = λ c d l. ⊎_elim
              (λ i. subst (λ z. (slice_index_or (bs ++ b ∷ []) z d).shut ≡ has z (closes (trace then))) (sym i) (ap (λ x. x.shut) (at_new bs b d) ∙ sym no_close ∙ ap (has (length bs)) (sym opened_closes)))
              (λ ne. ap (λ x. x.shut) (at_old bs b c d (old c l ne)) ∙ k.mirrors.shut c d (old c l ne) ∙ ap (has c) (sym opened_closes))
              (cases_eq c (length bs));
          ended = λ c i. (let z = k.mirrors.ended c (subst (λ l. IsAmong c l) opened_closes i) in omega arith);
          rows = opened_rows ∙ k.mirrors.rows;
          parents = λ c d one l. ⊎_elim
              (λ i. subst (λ z. (slice_index_or (bs ++ b ∷ []) z d).parent < z) (sym i) (subst (λ q. q < length bs) (sym (ap (λ x. x.parent) (at_new bs b d))) below'))
              (λ ne. subst (λ q. q < c) (sym (ap (λ x. x.parent) (at_old bs b c d (old c l ne)))) (k.mirrors.parents c d one (old c l ne)))
              (cases_eq c (length bs));
          distinct = k.mirrors.distinct;
          ranged = λ q t i. (let z = k.mirrors.ranged q t i in omega arith);
        };
        holds = holds_same v then (λ q t i. (grown_closed opened_grown t, back_closed t (k.mirrors.ranged q t i))) (λ q. ((λ o. o), (λ o. o))) k.holds.once k.holds;
        lends = lends_less v then (λ y i. i) (λ q o. o) (λ q i. i) (λ j c i. grown_noted opened_grown i) k.lends;
        rests = rests_less v then k.rests.handed k.rests.taken (λ q i. (i, grown_acquired opened_grown refl q)) (let x = opened_scopes in omega arith) k.rests;
      }

module _ {P : Type 0} (v : View P) (a : AtStart v) where
  pub start_owed : owed v ≡ 1
  start_owed = let o = ap length a.opened in let x = ap (λ L. open_scopes (own v.by L)) a.events in omega (o, x, arith)

  pub start_root : IsUsable v.events v.by 0
  start_root = (inl refl, λ c. among_nil (subst (λ L. IsAmong c.2.1.0 L) a.events c.2.1.1))

-- a seat that has done nothing
pub start_keeps : {P : Type 0} (v : View P) → AtStart v → Kept v (record { parent = 0; shut = false } ∷ []) []
start_keeps v a =
    let E : trace v ≡ [] = ap (own v.by) a.events in let r : Branch = record { parent = 0; shut = false } in
    let none : (q : ℕ) → ¬ (HasRow v.opened q) = λ q h. among_nil (subst (λ l. IsAmong (q, h.0) l) a.opened h.1) in record {
      mirrors = record {
        size = omega arith;
        opens = ap opens E;
        shut = λ c d l. (let e : c ≡ 0 = omega arith in subst (λ z. (slice_index_or (r ∷ []) z d).shut ≡ has z (closes (trace v))) (sym e) (sym (ap (λ l. has 0 (closes l)) E)));
        ended = λ s m. absurd (among_nil (subst (λ l. IsAmong s l) (ap closes E) m));
        rows = ap rows E;
        parents = λ c d one l. absurd (omega arith);
        distinct = distinct_nil;
        ranged = λ q t m. absurd (among_nil m);
      };
      holds = record { live = λ q t m n. absurd (among_nil m); only = λ q o. absurd (none q o); once = subst Once (sym a.opened) distinct_nil };
      lends = record { pairs = λ j q m h. absurd (none q h); bare = a.bare };
      rests = record {
        handed = a.handed;
        taken = a.taken;
        empty = λ q m i. among_nil (subst (λ l. IsAmong i.2.0 l) a.events i.2.1);
        spare = (let s = a.spare in let o = start_owed v a in omega arith);
      };
    }
