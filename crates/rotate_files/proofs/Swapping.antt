-- A rotation after a file took the place of the one before.
use Rattle.std.proofs.Common.{◌≡◌, ◌≢◌, ℕ, zero, suc, ◌+◌, ◌-◌, ◌*◌, ◌<◌, ◌≤◌, Bool, true, false, cond, nat_eq, List, [], ◌∷◌, ◌++◌, length, take, drop, Option, Some, None, IfSome, option_map, refl, sym, ap, ◌∙◌, subst, ⊎_elim, arith, append-nil, append_assoc, length-append}
use Rattle.std.proofs.lemmas.Bool.{ne_eqb}
use Rattle.std.proofs.Math.ListN.{drop_of_length-le}
use Rattle.chunk_core.specs.declared.code.Exit.{Exit}
use Rattle.chunk_core.specs.declared.code.Exit.TheVariants.{Succeeded}
use Rattle.chunk_core.specs.Lists.{IsAmong}
use Rattle.chunk_core.specs.Lists.IsAmong.{here}
use Rattle.chunk_core.proofs.Bools.{itself}
use Rattle.chunk_core.proofs.Members.{among_cons, among_nil}
use Rattle.device_port.specs.Device.{DeviceTold}
use Rattle.device_port.specs.Depot.{DepotTold}
use Rattle.res_ledger.specs.declared.event.What.{What}
use Rattle.res_ledger.specs.declared.event.What.TheVariants.{Open, Acquire, Close, Final}
use Rattle.res_ledger.specs.Order.{finals}
use Rattle.res_ledger.specs.Own.{opens}
use Rattle.row_seat.specs.Views.{without_row}
use Rattle.scope_tree.specs.declared.branch.Spent.{Spent}
use Rattle.scope_tree.specs.Calls.{Seen, TakesRoom, used}
use Rattle.scope_tree.specs.Released.{said}
use Rattle.scope_tree.specs.Trace.{owed, trace}
use Rattle.tree_laws.specs.Alone.{StaysAlone}
use Rattle.tree_laws.specs.Called.{Called}
use Rattle.tree_laws.proofs.Alone.{alone_then}
use Rattle.pull_stepper.specs.Held.{FinishesDevice, closed_as}
use Rattle.hot_swap.specs.declared.swap.Held.{Held}
use Rattle.hot_swap.specs.Swaps.{EndInTurn, IsHolding, IsUnleased, TakesPlace}
use Rattle.hot_swap.specs.TwoRows.{NotesSwaps}
use Rattle.hot_swap.specs.TwoRows.NotesSwaps.{first, next}
use Rattle.rotate_rules.specs.Pieces.{piece_of}
use Rattle.rotate_files.specs.Rotating.{AreFinished, HasLast, IsRotating, last_piece}
use Rattle.rotate_files.specs.Told.{file_told}

some_is : {A : Type 0} (x y : A) → Some x ≡ Some y → x ≡ y
some_is x y e = cc

-- what has this row
pub with_its_row : (h : Option Held) (r : ℕ) → option_map (λ (k : Held). k.row) h ≡ Some r → (k : Held) × (h ≡ Some k) × (k.row ≡ r)
with_its_row None r e = cc
with_its_row (Some k) r e = (k, refl, some_is k.row r e)

module _ {P : Type 0} (ends : P → Exit → Bool → P → Type 0) (x : Exit) where
  pub ends_none : (open_rows left : List (ℕ × P)) (ended : List (Spent P)) → EndInTurn ends x [] open_rows ended left → (ended ≡ []) × (left ≡ open_rows)
  ends_none open_rows left [] e = (refl, e)
  ends_none open_rows left (y ∷ ys) e = absurd e

  pub ends_one : (r : ℕ) (open_rows left : List (ℕ × P)) (ended : List (Spent P)) → EndInTurn ends x (r ∷ []) open_rows ended left
      → (y : Spent P) × (ended ≡ y ∷ []) × (y.row ≡ r) × (y.exit ≡ x) × ((p : P) × IsAmong (r, p) open_rows × ends p x y.ok y.pay) × (left ≡ without_row r open_rows)
  ends_one r open_rows left [] e = absurd e
  ends_one r open_rows left (y ∷ ys) e = let t = ends_none (without_row r open_rows) left ys e.3 in (y, ap (λ l. y ∷ l) t.0, e.0, e.1, e.2, t.1)

module _ {V : Type 0} where
  -- of three rows the one in the middle
  pub the_last : (i : ℕ) (src cur q : V) (rest : List (ℕ × V)) → ((p : V) → IsAmong (suc i, p) rest → ⊥) → IsAmong (suc i, q) ((0, src) ∷ (suc i, cur) ∷ rest) → q ≡ cur
  the_last i src cur q rest none m =
      ⊎_elim
      (λ e. let x : suc i ≡ 0 = ap (λ (y : ℕ × V). y.0) e in absurd (omega arith))
      (λ l. ⊎_elim (λ e. ap (λ (y : ℕ × V). y.1) e) (λ k. absurd (none q k)) (among_cons l))
      (among_cons m)

  pub not_next : (i : ℕ) (p : V) (q : V) → IsAmong {A = ℕ × V} (suc i, q) ((suc (suc i), p) ∷ []) → ⊥
  not_next i p q m = ⊎_elim (λ e. let x : suc i ≡ suc (suc i) = ap (λ (y : ℕ × V). y.0) e in absurd (omega arith)) (λ z. among_nil z) (among_cons m)

  pub without_middle : (i : ℕ) (src cur : V) (rest : List (ℕ × V)) → without_row (suc i) ((0, src) ∷ (suc i, cur) ∷ rest) ≡ (0, src) ∷ rest
  without_middle i src cur rest =
      let x : ℕ × V = (0, src) in
      let y : ℕ × V = (suc i, cur) in
      ap (λ b. cond b (y ∷ rest) (x ∷ without_row (suc i) (y ∷ rest))) (ne_eqb 0 (suc i) (λ e. absurd (omega arith)))
      ∙ ap (λ b. x ∷ cond b rest (y ∷ without_row (suc i) rest)) (itself (suc i))

module _ {V : Type 0} (told : V → DeviceTold) (old : DepotTold) (prefix : List ℕ) (n : ℕ) where
  abbrev ends : V → Exit → Bool → V → Type 0
  ends = FinishesDevice told

  finished_snoc : (given : List ℕ) (i j : ℕ) (xs : List (Spent V)) (y : Spent V) → j ≡ i + length xs → AreFinished told old prefix n given i xs → y.row ≡ suc j → y.exit ≡ Succeeded
      → told y.pay ≡ closed_as Succeeded y.ok (file_told old prefix j (piece_of n given j) 0) → AreFinished told old prefix n given i (xs ++ y ∷ [])
  finished_snoc given i j [] y e f r x t =
      let same : j ≡ i = omega arith in
      subst (λ k. (y.row ≡ suc k) × (y.exit ≡ Succeeded) × (told y.pay ≡ closed_as Succeeded y.ok (file_told old prefix k (piece_of n given k) 0)) × Unit {0}) same (r, x, t, tt)
  finished_snoc given i j (z ∷ xs) y e f r x t = (f.0, f.1, f.2, finished_snoc given (suc i) j xs y (omega arith) f.3 r x t)

  -- what became of the tree's rows, its shelf and its events
  record Swapped (b : Seen V) (h : Option Held) (files : ℕ) (given : List ℕ) (src : V) : Type 0 where
    swaps : List What
    noted : trace b.seat ≡ Acquire 0 0 ∷ swaps
    swapped : NotesSwaps swaps h
    last : HasLast told old prefix n b h files (last_piece n given files) 0 src
    finished : AreFinished told old prefix n given 0 b.shelf

  module _ (a b : Seen V) (given : List ℕ) (src p : V) (k : Held) (swaps : List What) (noted : trace a.seat ≡ Acquire 0 0 ∷ swaps) where
    first_file : (h : Option Held) → h ≡ None → NotesSwaps swaps h → a.seat.opened ≡ (0, src) ∷ [] → a.shelf ≡ [] → k.row ≡ 1 → told p ≡ file_told old prefix 0 (piece_of n given 0) 0 → TakesPlace ends a h 1 p b k → Swapped b (Some k) 1 given src
    first_file h none so open_is bare row device t0 =
        let t : TakesPlace ends a None 1 p b k = subst (λ o. TakesPlace ends a o 1 p b k) none t0 in
        let e = ends_none ends Succeeded (a.seat.opened ++ (1, p) ∷ []) b.seat.opened t.ended t.rows in
        let shelf : b.shelf ≡ [] = t.shelf ∙ (ap (λ l. a.shelf ++ l) e.0 ∙ (append-nil a.shelf ∙ bare)) in
        let F : List What = Open k.scope 0 ∷ Acquire k.row k.scope ∷ [] in
        record {
          swaps = swaps ++ F;
          noted = t.noted ∙ (ap (λ l. l ++ Open k.scope 0 ∷ Acquire 1 k.scope ∷ []) noted ∙ ap (λ r. Acquire 0 0 ∷ (swaps ++ Open k.scope 0 ∷ Acquire r k.scope ∷ [])) (sym row));
          swapped = first k (subst (NotesSwaps swaps) none so);
          last = (k, p, refl, row, e.1 ∙ ap (λ l. l ++ (1, p) ∷ []) open_is, device, ap length shelf);
          finished = subst (AreFinished told old prefix n given 0) (sym shelf) tt;
        }

    next_file : (i : ℕ) (h : Option Held) (g : Held) (cur : V) → h ≡ Some g → g.row ≡ suc i → NotesSwaps swaps h → a.seat.opened ≡ (0, src) ∷ (suc i, cur) ∷ [] → told cur ≡ file_told old prefix i (piece_of n given i) 0 → length a.shelf ≡ i → AreFinished told old prefix n given 0 a.shelf
        → k.row ≡ suc (suc i) → told p ≡ file_told old prefix (suc i) (piece_of n given (suc i)) 0 → TakesPlace ends a h (suc (suc i)) p b k → Swapped b (Some k) (suc (suc i)) given src
    next_file i h g cur is g_row so open_is written size done row device t0 =
        let t : TakesPlace ends a (Some g) (suc (suc i)) p b k = subst (λ o. TakesPlace ends a o (suc (suc i)) p b k) is t0 in
        let rows : List (ℕ × V) = a.seat.opened ++ (suc (suc i), p) ∷ [] in
        let rows_are : rows ≡ (0, src) ∷ (suc i, cur) ∷ (suc (suc i), p) ∷ [] = ap (λ l. l ++ (suc (suc i), p) ∷ []) open_is in
        let e = ends_one ends Succeeded (suc i) rows b.seat.opened t.ended (subst (λ r. EndInTurn ends Succeeded (r ∷ []) rows t.ended b.seat.opened) g_row t.rows) in
        let y = e.0 in
        let was : e.4.0 ≡ cur = the_last i src cur e.4.0 ((suc (suc i), p) ∷ []) (λ q m. not_next i p q m) (subst (IsAmong (suc i, e.4.0)) rows_are e.4.1) in
        let told_was : told e.4.0 ≡ file_told old prefix i (piece_of n given i) 0 = ap told was ∙ written in
        let closed : told y.pay ≡ closed_as Succeeded y.ok (file_told old prefix i (piece_of n given i) 0) = e.4.2.closed (ap (λ (d : DeviceTold). d.is_open) told_was) ∙ ap (closed_as Succeeded y.ok) told_was in
        let shelf : b.shelf ≡ a.shelf ++ y ∷ [] = t.shelf ∙ ap (λ l. a.shelf ++ l) e.1 in
        let G : List What = Close g.scope Succeeded ∷ finals Succeeded (said t.ended) in
        let ends_are : G ≡ Close g.scope Succeeded ∷ Final g.row Succeeded y.ok ∷ [] = ap (λ l. Close g.scope Succeeded ∷ finals Succeeded (said l)) e.1 ∙ ap (λ r. Close g.scope Succeeded ∷ Final r Succeeded y.ok ∷ []) (e.2 ∙ sym g_row) in
        record {
          swaps = swaps ++ Open k.scope 0 ∷ Acquire k.row k.scope ∷ Close g.scope Succeeded ∷ Final g.row Succeeded y.ok ∷ [];
          noted = t.noted ∙ (ap (λ l. l ++ Open k.scope 0 ∷ Acquire (suc (suc i)) k.scope ∷ G) noted ∙ (ap (λ r. Acquire 0 0 ∷ (swaps ++ Open k.scope 0 ∷ Acquire r k.scope ∷ G)) (sym row)
              ∙ ap (λ l. Acquire 0 0 ∷ (swaps ++ Open k.scope 0 ∷ Acquire k.row k.scope ∷ l)) ends_are));
          swapped = next k y.ok (subst (NotesSwaps swaps) is so);
          last = (k, p, refl, row, e.5 ∙ (ap (without_row (suc i)) rows_are ∙ without_middle i src cur ((suc (suc i), p) ∷ [])), device, ap length shelf ∙ (length-append a.shelf (y ∷ []) ∙ (let z : length a.shelf + 1 ≡ suc i = omega arith in z)));
          finished = subst (AreFinished told old prefix n given 0) (sym shelf) (finished_snoc given 0 i a.shelf y (omega arith) done e.2 e.3 closed);
        }

    swapped_rows : (files : ℕ) (h : Option Held) → HasLast told old prefix n a h files (last_piece n given files) 0 src → NotesSwaps swaps h → AreFinished told old prefix n given 0 a.shelf → k.row ≡ suc files → told p ≡ file_told old prefix files (piece_of n given files) 0
        → TakesPlace ends a h (suc files) p b k → Swapped b (Some k) (suc files) given src
    swapped_rows zero h l so done row device t = first_file h l.0 so l.1 l.2 row device t
    swapped_rows (suc i) h l so done row device t = next_file i h l.0 l.1 l.2 l.3 so l.4 l.5 l.6 done row device t

  module _ (a b : Seen V) (h k : Option Held) (files : ℕ) (given : List ℕ) (src p : V) (q : IsRotating told old prefix n a h files given (last_piece n given files) 0 src) (few : files < 1024) where
    -- a seat that stayed alone has no leases
    pub unleased : IsUnleased a.seat
    unleased = (q.alone.pairs ∙ q.others.pairs, q.alone.out ∙ q.others.out)

    pub swapped_in : option_map (λ (x : Held). x.row) k ≡ Some (suc files) → (IsUnleased a.seat → IfSome k (TakesPlace ends a h (suc files) p b)) → IsHolding b k → ((r : ℕ) → r ≢ suc files → IsAmong r a.seat.empty → IsAmong r b.seat.empty) → StaysAlone a.seat b.seat
        → a.seat.spare + owed b.seat ≤ b.seat.spare + owed a.seat + 4 → ((x : Seen V) (Cs : List (ℕ × List ℕ)) → Called ends x Cs a → Called ends x Cs b) → TakesRoom 1 1 a b → told p ≡ file_told old prefix files (piece_of n given files) 0
        → IsRotating told old prefix n b k (suc files) given (last_piece n given (suc files)) 0 src
    swapped_in current takes holding empty alone free calls room device =
        let c = with_its_row k (suc files) current in
        let t : TakesPlace ends a h (suc files) p b c.0 = subst (λ o. IfSome o (TakesPlace ends a h (suc files) p b)) c.1 (takes unleased) in
        let s = swapped_rows a b given src p c.0 q.swaps q.noted files h q.last q.swapped q.finished c.2 device t in
        record {
          first = q.first;
          start = q.start;
          others = q.others;
          named = q.named;
          bare = q.bare;
          calls = calls q.first [] q.calls;
          alone = alone_then q.first.seat a.seat b.seat q.alone alone;
          holding = holding;
          swaps = s.swaps;
          noted = s.noted;
          swapped = subst (NotesSwaps s.swaps) (sym c.1) s.swapped;
          last = subst (λ o. HasLast told old prefix n b o (suc files) (piece_of n given files) 0 src) (sym c.1) s.last;
          finished = s.finished;
          empty = λ r l m. empty r (λ e. absurd (omega arith)) (q.empty r (omega arith) m);
          opens = room.opens ∙ (let e = q.opens in omega arith);
          used = room.used ∙ (let e = q.used in omega arith);
          scopes = room.scopes ∙ q.scopes;
          rows = room.rows ∙ q.rows;
          free = let f = q.free in omega (arith, free);
          few = omega arith;
        }

taken_none : (m : ℕ) → take {A = ℕ} m [] ≡ []
taken_none zero = refl
taken_none (suc m) = refl

-- the bytes so far leave nothing for the next file
pub piece_none : (n : ℕ) (given : List ℕ) (files : ℕ) → length given ≡ files * n → piece_of n given files ≡ []
piece_none n given files e = let l : length given ≤ files * n = omega (arith, e) in ap (λ (xs : List ℕ). take n xs) (drop_of_length-le given l) ∙ taken_none n
