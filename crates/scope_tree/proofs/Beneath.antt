-- The open scopes that stand below one, by what a tree keeps.
use Rattle.std.proofs.Common.{◌≡◌, ℕ, ◌+◌, ◌-◌, ◌<◌, ◌≤◌, zero, suc, Bool, true, false, cond, eqb, List, [], ◌∷◌, ◌++◌, length, drop, slice_index_or, refl, sym, ap, ◌∙◌, subst, ⊎_elim, arith, reverse}
use Rattle.chunk_core.specs.declared.code.Exit.{Exit}
use Rattle.res_ledger.specs.declared.event.StreamNo.{StreamNo}
use Rattle.res_ledger.specs.declared.event.What.{What}
use Rattle.res_ledger.specs.declared.event.What.TheVariants.{Open, Acquire, Close}
use Rattle.res_ledger.specs.declared.event.Event.{Event}
use Rattle.row_seat.specs.declared.view.View.{View}
use Rattle.chunk_core.specs.Lists.{IsAmong, has}
use Rattle.res_ledger.specs.Ledger.{Notes, LiesWithin, IsClosed, IsUsable, NotesClose}
use Rattle.res_ledger.specs.Ledger.LiesWithin.{same, below}
use Rattle.chunk_core.specs.Lists.IsAmong.{here, there}
use Rattle.chunk_core.proofs.Members.{among_nil, among_cons, among_left}
use Rattle.row_seat.specs.Views.{HasRow, noted}
use Rattle.res_ledger.proofs.Growth.{noted_more, noted_new, within_more}
use Rattle.res_ledger.specs.Own.{opens, rows, closes, up, ancestors, is_closed, teardown, latest}
use Rattle.std.specs.List.{list_any as any}
use Rattle.res_ledger.specs.Own.{rows_beneath as beneath}
use Rattle.scope_tree.specs.declared.branch.Branch.{Branch}
use Rattle.scope_tree.specs.declared.branch.AcquiredRow.{AcquiredRow}
use Rattle.scope_tree.specs.Kids.{lasts, kids, whole}
use Rattle.scope_tree.specs.Released.{CanRelease}
use Rattle.scope_tree.specs.Released.Holder.{owner}
use Rattle.scope_tree.specs.Kept.{marks, acquisition_pairs, Kept}
use Rattle.scope_tree.specs.Trace.{trace, open_of, numbers}
use Rattle.scope_tree.proofs.Parts.{kids_cases, lasts_pair, distinct_whole, below_is, latest_is, kids_up, eqb_eq}
use Rattle.chunk_core.proofs.Filters.{among_append, among_right}
use Rattle.scope_tree.proofs.Bridge.{noted_in, in_noted, in_opens, opens_in, in_rows, marks_at, marks_in, within_cases}
use Rattle.res_ledger.proofs.Noted.{closes_notes, notes_closes}
use Rattle.chunk_core.proofs.Bools.{any_at, any_found, has_in, in_has}
use Rattle.scope_tree.proofs.Lists.{fit_in}
use Rattle.scope_tree.proofs.Shapes.{kids_from, kids_here}
use Rattle.chunk_core.proofs.Reversed.{among_reverse}

-- an open scope t below s, by what a tree keeps
pub data Under (bs : List Branch) (s : ℕ) : ℕ → Type 0 where
  self : Under bs s s
  child : (c p : ℕ) → 1 ≤ c → c < length bs → ((d : Branch) → (slice_index_or bs c d).shut ≡ false) → ((d : Branch) → (slice_index_or bs c d).parent ≡ p) → Under bs s p → Under bs s c

pub shut_not : true ≡ false → ⊥
shut_not e = cc

module _ (bs : List Branch) (hs : List AcquiredRow) where
  -- each row below s is one of an open scope below s
  kids_under : (r s n : ℕ) (cs : List Branch) → 1 ≤ n → length cs + n ≡ length bs → ((i : ℕ) (d : Branch) → i < length cs → slice_index_or cs i d ≡ slice_index_or bs (i + n) d) → IsAmong r (kids n cs hs s) → (t : ℕ) × IsAmong (r, t) (acquisition_pairs hs) × ((a : ℕ) → Under bs a s → Under bs a t)
  kids_under r s n [] one len at m = absurd (among_nil m)
  kids_under r s n (b ∷ cs) one len at m =
      let at' : (i : ℕ) (d : Branch) → i < length cs → slice_index_or cs i d ≡ slice_index_or bs (i + suc n) d = λ i d l. let e : suc i + n ≡ i + suc n = omega arith in at (suc i) d (omega arith) ∙ ap (λ k. slice_index_or bs k d) e in
      let len' : length cs + suc n ≡ length bs = omega arith in
      let here' : (d : Branch) → slice_index_or bs n d ≡ b = λ d. let e : zero + n ≡ n = omega arith in sym (at zero d (omega arith) ∙ ap (λ k. slice_index_or bs k d) e) in
      ⊎_elim
      (λ l. kids_under r s (suc n) cs (omega arith) len' at' l)
      (λ w.
      let down : (a : ℕ) → Under bs a s → Under bs a n = λ a u. child n s one (omega arith) (λ d. ap (λ x. x.shut) (here' d) ∙ w.1) (λ d. ap (λ x. x.parent) (here' d) ∙ w.0) u in
      ⊎_elim
      (λ l. let t = kids_under r n (suc n) cs (omega arith) len' at' l in (t.0, t.1, λ a u. t.2 a (down a u)))
      (λ l. (n, lasts_pair r n hs l, down))
      w.2)
      (kids_cases r n s b cs hs m)

pub length-drop' : {A : Type 0} (n : ℕ) (xs : List A) → n ≤ length xs → length (drop n xs) + n ≡ length xs
length-drop' zero xs l = omega arith
length-drop' (suc n) [] l = absurd (omega arith)
length-drop' (suc n) (x ∷ xs) l = let t = length-drop' n xs (omega arith) in omega arith

pub at_drop : {A : Type 0} (n i : ℕ) (d : A) (xs : List A) → slice_index_or (drop n xs) i d ≡ slice_index_or xs (i + n) d
at_drop zero i d xs = let e : i ≡ i + zero = omega arith in ap (λ k. slice_index_or xs k d) e
at_drop (suc n) i d [] = refl
at_drop (suc n) i d (x ∷ xs) = let e : suc (i + n) ≡ i + suc n = omega arith in at_drop n i d xs ∙ ap (λ k. slice_index_or (x ∷ xs) k d) e

pub whole_under : (bs : List Branch) (hs : List AcquiredRow) (r s : ℕ) → s < length bs → IsAmong r (whole bs hs s) → (t : ℕ) × IsAmong (r, t) (acquisition_pairs hs) × Under bs s t
whole_under bs hs r s l m =
    ⊎_elim
    (λ k. let t = kids_under bs hs r s (suc s) (drop (suc s) bs) (omega arith) (length-drop' (suc s) bs (omega arith)) (λ i d q. at_drop (suc s) i d bs) k in (t.0, t.1, t.2 s self))
    (λ k. (s, lasts_pair r s hs k, self))
    (among_append _ (kids (suc s) (drop (suc s) bs) hs s) (lasts hs s) m)

pub any_more : (f g : ℕ → Bool) (xs : List ℕ) → ((a : ℕ) → f a ≡ true → g a ≡ true) → any f xs ≡ true → any g xs ≡ true
any_more f g xs m h = let t = any_found f xs h in any_at g t.0 xs t.1 (m t.0 t.2)

pub up_self : (os : List (ℕ × ℕ)) (s : ℕ) → IsAmong s (up os s)
up_self [] s = here []
up_self (o ∷ os) s = elim (eqb o.0 s) as (λ b. IsAmong s (cond b (s ∷ up os o.1) (up os s))) [ true ↦ here (up os o.1) | false ↦ up_self os s ]

pub up_within : (L : List Event) (k : StreamNo) (os : List (ℕ × ℕ)) (s a : ℕ) → ((c p : ℕ) → IsAmong (c, p) os → Notes L k (Open c p)) → IsAmong a (up os s) → LiesWithin L k s a
up_within L k [] s a h m = ⊎_elim (λ e. subst (λ z. LiesWithin L k s z) (sym e) (same s)) (λ n. absurd (among_nil n)) (among_cons m)
up_within L k (o ∷ os) s a h m =
    let h' : (c p : ℕ) → IsAmong (c, p) os → Notes L k (Open c p) = λ c p n. h c p (there o n) in
    elim (eqb o.0 s) as (λ b. eqb o.0 s ≡ b → IsAmong a (cond b (s ∷ up os o.1) (up os s)) → LiesWithin L k s a) [
      | true ↦ λ q n. ⊎_elim (λ e. subst (λ z. LiesWithin L k s z) (sym e) (same s)) (λ i. below s o.1 a (subst (λ z. Notes L k (Open z o.1)) (eqb_eq o.0 s q) (h o.0 o.1 (here os))) (up_within L k os o.1 a h' i)) (among_cons n)
      | false ↦ λ q n. up_within L k os s a h' n
    ] refl m

pub open_pos : (E : List What) (xs : List ℕ) (s : ℕ) → IsAmong s xs → is_closed E s ≡ false → 1 ≤ open_of E xs
open_pos E [] s m h = absurd (among_nil m)
open_pos E (x ∷ xs) s m h =
    ⊎_elim
    (λ e. subst (λ b. 1 ≤ cond b (open_of E xs) (suc (open_of E xs))) (sym (ap (λ z. is_closed E z) (sym e) ∙ h)) (omega arith))
    (λ n. let t = open_pos E xs s n h in elim (is_closed E x) as (λ b. 1 ≤ cond b (open_of E xs) (suc (open_of E xs))) [ true ↦ t | false ↦ (omega arith) ])
    (among_cons m)

pub not_true' : (b : Bool) → (b ≡ true → ⊥) → b ≡ false
not_true' true n = absurd (n refl)
not_true' false n = refl

number_in : (s p : ℕ) (os : List (ℕ × ℕ)) → IsAmong (s, p) os → IsAmong s (numbers os)
number_in s p [] m = absurd (among_nil m)
number_in s p (o ∷ os) m = ⊎_elim (λ e. subst (λ z. IsAmong s (z ∷ numbers os)) (ap (λ y. y.0) e) (here (numbers os))) (λ n. there o.0 (number_in s p os n)) (among_cons m)

module _ {P : Type 0} (v : View P) where
  pub closed_sound : (s : ℕ) → is_closed (trace v) s ≡ true → IsClosed v.events v.by s
  closed_sound s h =
      let t = any_found (λ a. has a (closes (trace v))) (ancestors (trace v) s) h in (
        t.0,
        up_within v.events v.by (reverse (opens (trace v))) s t.0 (λ c p m. in_noted v.by (Open c p) v.events (in_opens c p (trace v) (among_reverse (c, p) (opens (trace v)) m))) t.1,
        closes_notes v.events v.by t.0 (has_in t.0 (closes (trace v)) t.2),
      )

  pub one_open : (s : ℕ) → IsUsable v.events v.by s → (is_closed (trace v) s ≡ false) × IsAmong s (0 ∷ numbers (opens (trace v)))
  one_open s u = (
    not_true' (is_closed (trace v) s) (λ h. u.1 (closed_sound s h)),
    ⊎_elim (λ e. subst (λ z. IsAmong z (0 ∷ numbers (opens (trace v)))) (sym e) (here (numbers (opens (trace v))))) (λ o. there 0 (number_in s o.0 (opens (trace v)) (opens_in s o.0 (trace v) (noted_in v.by (Open s o.0) v.events o.1)))) u.0,
  )

module _ {P : Type 0} (v : View P) (bs : List Branch) (hs : List AcquiredRow) (k : Kept v bs hs) where
  -- the parent of a scope is noted
  pub noted_parent : (c p : ℕ) → 1 ≤ c → c < length bs → ((d : Branch) → (slice_index_or bs c d).parent ≡ p) → Notes v.events v.by (Open c p)
  noted_parent c p one l h =
      let i = c - 1 in let e : i + 1 ≡ c = omega arith in
      let size : i < length (drop 1 bs) = let t = length-drop' 1 bs k.mirrors.size in omega arith in
      let d : Branch = record { parent = 0; shut = false } in
      let m = marks_at (drop 1 bs) 1 i d size in
      let q : (slice_index_or (drop 1 bs) i d).parent ≡ p = ap (λ b. b.parent) (at_drop 1 i d bs ∙ ap (λ n. slice_index_or bs n d) e) ∙ h d in
      let m' : IsAmong (c, p) (marks 1 (drop 1 bs)) = subst (λ y. IsAmong y (marks 1 (drop 1 bs))) (let z : (i + 1, (slice_index_or (drop 1 bs) i d).parent) ≡ (c, p) = (cc (e, q)) in z) m in
      in_noted v.by (Open c p) v.events (in_opens c p (trace v) (subst (λ l. IsAmong (c, p) l) (sym k.mirrors.opens) m'))

  -- what is noted as opened is a scope of the tree
  pub noted_scope : (c p : ℕ) → Notes v.events v.by (Open c p) → (1 ≤ c) × (c < length bs) × ((d : Branch) → (slice_index_or bs c d).parent ≡ p)
  noted_scope c p n =
      let t = marks_in (drop 1 bs) 1 c p (subst (λ l. IsAmong (c, p) l) k.mirrors.opens (opens_in c p (trace v) (noted_in v.by (Open c p) v.events n))) in
      let l = length-drop' 1 bs k.mirrors.size in let q = t.1 in let e = t.2 in
      (omega arith, (omega arith), λ d. ap (λ b. b.parent) (ap (λ n. slice_index_or bs n d) e ∙ sym (at_drop 1 t.0 d bs)) ∙ t.3 d)

  pub usable_scope : (s : ℕ) → IsUsable v.events v.by s → s < length bs
  usable_scope s u = ⊎_elim (λ e. let z = k.mirrors.size in omega arith) (λ o. (noted_scope s o.0 o.1).1) u.0

  pub under_within : (s t : ℕ) → Under bs s t → LiesWithin v.events v.by t s
  under_within s t self = same s
  under_within s t (child c p one l sh pa u) = below c p s (noted_parent c p one l pa) (under_within s p u)

  pub open_shut : (c : ℕ) (d : Branch) → c < length bs → (slice_index_or bs c d).shut ≡ false → ¬ (NotesClose v.events v.by c)
  open_shut c d l sh n = shut_not (sym (k.mirrors.shut c d l ∙ in_has c (closes (trace v)) (notes_closes v.events v.by c n)) ∙ sh)

  pub under_open : (s t : ℕ) → Under bs s t → ¬ (IsClosed v.events v.by s) → ¬ (IsClosed v.events v.by t)
  under_open s t self n x = n x
  under_open s t (child c p one l sh pa u) n x =
      let d : Branch = record { parent = 0; shut = false } in
      ⊎_elim
      (λ e. open_shut c d l (sh d) (subst (λ a. NotesClose v.events v.by a) (sym e) x.2))
      (λ q. let o = noted_scope c q.0 q.1 in let e : q.0 ≡ p = sym (o.2 d) ∙ pa d in under_open s p u n (x.0, subst (λ a. LiesWithin v.events v.by a x.0) e q.2, x.2))
      (within_cases x.1)

  pub no_own_close : (c : ℕ) (d : Branch) → c < length bs → ¬ (NotesClose v.events v.by c) → (slice_index_or bs c d).shut ≡ false
  no_own_close c d l n = k.mirrors.shut c d l ∙ not_true' (has c (closes (trace v))) (λ h. n (closes_notes v.events v.by c (has_in c (closes (trace v)) h)))

  up_one : (r t p : ℕ) → t < length bs → 1 ≤ t → ((d : Branch) → (slice_index_or bs t d).parent ≡ p) → ((d : Branch) → (slice_index_or bs t d).shut ≡ false) → IsAmong r (whole bs hs t) → IsAmong r (whole bs hs p)
  up_one r t p l one pa sh m =
      let d : Branch = record { parent = 0; shut = false } in
      let less : p < t = subst (λ z. z < t) (pa d) (k.mirrors.parents t d one l) in
      let f = kids_from bs hs p (suc p) t (omega arith) in
      let h = kids_here bs hs p (suc t) t d refl l (pa d) (sh d) in
      among_left (lasts hs p) (subst (λ z. IsAmong r z) (sym (f.1 ∙ ap (λ z. z ++ f.0) h)) (among_left f.0 (among_right r (kids (suc t) (drop (suc t) bs) hs p) (whole bs hs t) m)))

  -- each row of an open scope below s is taken down with s
  pub inside : (r t s : ℕ) → LiesWithin v.events v.by t s → t < length bs → ¬ (IsClosed v.events v.by t) → IsAmong r (whole bs hs t) → IsAmong r (whole bs hs s)
  inside r t s (same u) l n m = m
  inside r t s (below u p a o w) l n m =
      let z = noted_scope t p o in
      let lp : p < length bs = (let d : Branch = record { parent = 0; shut = false } in let e = z.2 d in let q = k.mirrors.parents t d z.0 l in omega arith) in
      inside r p s w lp (λ c. n (c.0, below t p c.0 o c.1, c.2))
      (up_one r t p l z.0 z.2 (λ d. no_own_close t d l (λ c. n (t, same t, c))) m)

  -- the rows that stand below s are those of the definition
  pub whole_is : (s : ℕ) → s < length bs → whole bs hs s ≡ teardown (trace v) s
  whole_is s l =
      let f : ℕ → Bool = λ c. has c (closes (trace v)) in let d : Branch = record { parent = 0; shut = false } in
      let up1 = kids_up bs hs s s d k.mirrors.parents (omega arith) l in
      let b1 = below_is 1 (drop 1 bs) hs f s (λ i d q. ap (λ b. b.shut) (at_drop 1 i d bs) ∙ k.mirrors.shut (i + 1) d (let t = length-drop' 1 bs k.mirrors.size in omega arith)) in
      ap (λ l. l ++ lasts hs s) (sym up1 ∙ b1) ∙ ap (λ l. beneath (marks 1 (drop 1 bs)) f (acquisition_pairs hs) s ++ l) (latest_is hs s) ∙ ap (λ l. beneath (marks 1 (drop 1 bs)) f l s ++ latest l s) (sym k.mirrors.rows) ∙ ap (λ o. beneath o f (rows (trace v)) s ++ latest (rows (trace v)) s) (sym k.mirrors.opens)

  pub close_spare : (s : ℕ) → IsUsable v.events v.by s → 1 ≤ v.spare
  close_spare s u = let o = k.rests.spare in let c = one_open v s u in let p = open_pos (trace v) (0 ∷ numbers (opens (trace v))) s c.1 c.0 in omega arith

  pub close_count : (s : ℕ) → IsUsable v.events v.by s → length (whole bs hs s) ≤ length v.opened
  close_count s u = fit_in (whole bs hs s) v.opened (distinct_whole hs k.mirrors.distinct s bs) (λ r m. let w = whole_under bs hs r s (usable_scope s u) m in k.holds.live r w.0 w.1 (under_open s w.0 w.2 u.1))

  pub close_can : (s n : ℕ) (x : Exit) → IsUsable v.events v.by s → CanRelease owner (whole bs hs s) (noted v (record { stamp = n; by = v.by; what = Close s x }))
  close_can s n x u =
      let e : Event = record { stamp = n; by = v.by; what = Close s x } in
      let l = usable_scope s u in
      let row : (r : ℕ) → IsAmong r (whole bs hs s) → HasRow v.opened r = λ r m. let w = whole_under bs hs r s l m in k.holds.live r w.0 w.1 (under_open s w.0 w.2 u.1) in
      record {
        distinct = distinct_whole hs k.mirrors.distinct s bs;
        rows = λ r m.
            let w = whole_under bs hs r s l m in (
              row r m,
              (w.0, noted_more v.events e (in_noted v.by (Acquire r w.0) v.events (in_rows r w.0 (trace v) (subst (λ l. IsAmong (r, w.0) l) (sym k.mirrors.rows) w.1))), (s, within_more v.events e (under_within s w.0 w.2), (x, noted_new v.events e))),
              λ j a. let p = k.lends.pairs j r a (row r m) in (p.0, noted_more v.events e p.1),
            );
        handed = k.rests.handed;
        taken = k.rests.taken;
        spare = let f = fit_in (whole bs hs s) v.opened (distinct_whole hs k.mirrors.distinct s bs) row in let o = k.rests.spare in let c = one_open v s u in let p = open_pos (trace v) (0 ∷ numbers (opens (trace v))) s c.1 c.0 in omega (arith, f, o, p);
      }
