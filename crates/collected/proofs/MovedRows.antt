-- The rows of the outer stream and of the streams that were dealt with, by the moves that were made.
use Rattle.std.proofs.Common.{◌≡◌, ◌⊎◌, ℕ, zero, suc, ◌+◌, ◌<◌, ◌≤◌, List, [], ◌∷◌, ◌++◌, inl, inr, map, flat_map, length, Option, Some, Result, Ok, Err, sym, ◌∙◌, ap, subst, ⊎_elim, arith, append_assoc}
use Rattle.std.proofs.lemmas.Bool.{cases_lt}
use Rattle.std.proofs.lemmas.List.{map-append}
use Rattle.std.proofs.lemmas.List.Sorted.{IsPermutation-append_comm, IsPermutation-append_left, IsPermutation-append_right, IsPermutation-trans}
use Rattle.std.specs.List.{range_with_len}
use Rattle.std.specs.List.Sorted.{IsPermutation}
use Rattle.chunk_core.specs.Lists.{IsAmong}
use Rattle.chunk_core.specs.declared.code.Code.TheVariants as code
use Rattle.chunk_core.proofs.Members.{among_cons, among_nil}
use Rattle.device_port.specs.Device.{Place, DeviceTold, to_read}
use Rattle.device_port.specs.Depot.{DepotTold, Files}
use Rattle.outer_tables.specs.Devices.{new_device, unopened as never_opened}
use Rattle.outer_tables.specs.declared.not_read.NotRead.{NotRead}
use Rattle.outer_tables.specs.declared.not_read.NotRead.TheVariants as why
use Rattle.pipeline_desc.specs.Meant.{PlanMeant}
use Rattle.pipeline_desc.specs.Places.{first_row, outer_rows}
use Rattle.pipeline_desc.specs.declared.listing.ListSpec.{ListSpec}
use Rattle.run_rules.specs.Facts.{at}
use Rattle.joined_runs.proofs.MadeRows.{at_below}
use Rattle.dealt_streams.specs.Moves.{Move, Tried, dealt_of, opened_of, tried_of}
use Rattle.dealt_streams.specs.Moves.Move.{Read, Opened, Gave, Dealt}
use Rattle.dealt_streams.specs.Parts.{Part}
use Rattle.collected.proofs.DealtRows.{HaveHome, home_same}
use Rattle.collected.proofs.PlanPlaces.{behind_outer, plan_rows, rows_grow}
use Rattle.collected.proofs.Rows.{IsIn, RowsMade, bare_row, either_home, home_in, home_out, rows_first}
use Rattle.collected.proofs.TableHomes.{AreClosed, IsClosedOf}

-- Rows that tables were tried at.

-- the row behind tables that were tried from row t on
abbrev pub rows_after : {V : Type 0} → ℕ → List (Tried V) → ℕ
rows_after t [] = t
rows_after t (x ∷ xs) = rows_after (t + length x.paths) xs

module _ {V : Type 0} (T : ℕ) (all : List Place) where
  -- tables were tried one after the other from row t on, each at its place
  abbrev pub AreInOrder : ℕ → List (Tried V) → Type 0
  AreInOrder t [] = Unit {0}
  AreInOrder t (x ∷ xs) =
      (x.row ≡ t) × (t + length x.paths ≤ T) × (length x.devices + length x.back ≤ length x.paths) × ((i : ℕ) (path : List ℕ) → at x.paths i ≡ Some path → at all (x.row + i) ≡ Some (to_read path)) × AreInOrder (t + length x.paths) xs

  pub order_within : (t : ℕ) (xs : List (Tried V)) → AreInOrder t xs → (x : Tried V) → IsAmong x xs → (t ≤ x.row) × (x.row + length x.paths ≤ T) × (length x.devices + length x.back ≤ length x.paths)
  order_within t [] h x m = absurd (among_nil m)
  order_within t (y ∷ xs) h x m =
      ⊎_elim
      (λ e. subst (λ (z : Tried V). (t ≤ z.row) × (z.row + length z.paths ≤ T) × (length z.devices + length z.back ≤ length z.paths)) (sym e) (let a = h.0 in let b = h.1 in (omega (arith, a), omega (arith, a, b), h.2)))
      (λ i. let r = order_within (t + length y.paths) xs h.4 x i in let l = r.0 in (omega (arith, l), r.1, r.2))
      (among_cons m)

  pub after_more : (t : ℕ) (xs : List (Tried V)) → t ≤ rows_after t xs
  after_more t [] = omega arith
  after_more t (x ∷ xs) = let a = after_more (t + length x.paths) xs in omega (arith, a)

  pub after_few : (t : ℕ) (xs : List (Tried V)) → t ≤ T → AreInOrder t xs → rows_after t xs ≤ T
  after_few t [] l h = l
  after_few t (x ∷ xs) l h = after_few (t + length x.paths) xs h.1 h.4

module _ {V : Type 0} (told : V → DeviceTold) (p : PlanMeant) (lines : List (List ℕ)) (files : Option Files) (homes : ℕ → ℕ → DeviceTold) (stays : ℕ → List DeviceTold) (ended : ℕ → DeviceTold) where
  abbrev pub all : List Place
  all = plan_rows p lines

  abbrev pub tables : ℕ
  tables = length p.tables

  -- What is ahead where the tables below row t were tried, the list was or wasn't, and the streams below k were dealt with.
  abbrev pub IsAhead : ℕ → ℕ → ℕ → ℕ → Type 0
  IsAhead t o k r = IsIn t tables r ⊎ (IsIn (tables + o) (outer_rows p) r ⊎ (first_row p k ≤ r))

  -- What the rows have.

  -- those of tables that were tried: devices that were opened and closed, those that came back, and none for the others
  pub record HasTried (x : Tried V) (own : ℕ → DeviceTold) : Type 0 where
    pub closed : AreClosed told own x.row x.devices x.back
    pub stands : (i : ℕ) → i < length x.devices → own (x.row + i) ≡ ended (x.row + i)
    pub bare : (r : ℕ) → x.row + (length x.devices + length x.back) ≤ r → r < x.row + length x.paths → own r ≡ bare_row all files r

  -- that of the list: the one that was opened and closed, or that couldn't be opened, or none
  abbrev pub HasList : Result V NotRead → (ℕ → DeviceTold) → Type 0
  HasList (Ok d) own = own tables ≡ ended tables
  HasList (Err (why.Fault f)) own = (f ≡ code.Open) × ((l : ListSpec) × (n : ℕ) × (p.list ≡ Some l) × (own tables ≡ never_opened (new_device files n l.path)))
  HasList (Err why.Memory) own = own tables ≡ bare_row all files tables

  tried_same : (x : Tried V) (v w : ℕ → DeviceTold) → length x.devices + length x.back ≤ length x.paths → ((r : ℕ) → x.row ≤ r → r < x.row + length x.paths → v r ≡ w r) → HasTried x v → HasTried x w
  tried_same x v w few same h = record {
    closed = record {
      each = λ i d e. let l = at_below x.devices i d e in subst (IsClosedOf (told d)) (same (x.row + i) (omega arith) (omega (arith, l, few))) (h.closed.each i d e);
      others = λ i d e. let l = at_below x.back i d e in sym (same (x.row + length x.devices + i) (omega arith) (omega (arith, l, few))) ∙ h.closed.others i d e;
    };
    stands = λ i l. sym (same (x.row + i) (omega arith) (omega (arith, l, few))) ∙ h.stands i l;
    bare = λ r l u. sym (same r (omega (arith, l)) u) ∙ h.bare r l u;
  }

  list_same : (r : Result V NotRead) (v w : ℕ → DeviceTold) → v tables ≡ w tables → HasList r v → HasList r w
  list_same (Ok d) v w e h = sym e ∙ h
  list_same (Err (why.Fault f)) v w e h = (h.0, (h.1.0, h.1.1, h.1.2, sym e ∙ h.1.3))
  list_same (Err why.Memory) v w e h = sym e ∙ h

  -- devices of the outer stream stand before the others
  outer_first : (rows held : List ℕ) (left others : List DeviceTold) → IsPermutation left (map ended held ++ others) → IsPermutation (map ended rows ++ left) (map ended (rows ++ held) ++ others)
  outer_first rows held left others h =
      subst (λ l. IsPermutation (map ended rows ++ left) l) (sym (ap (λ l. l ++ others) (map-append ended rows held) ∙ append_assoc (map ended rows) (map ended held) others))
      (IsPermutation-append_right (map ended rows) left (map ended held ++ others) h)

  -- and those of a stream behind them
  stream_first : (mine left held others : List DeviceTold) → IsPermutation left (held ++ others) → IsPermutation (mine ++ left) (held ++ (mine ++ others))
  stream_first mine left held others h =
      IsPermutation-trans (mine ++ left) (mine ++ (held ++ others)) (held ++ (mine ++ others)) (IsPermutation-append_right mine left (held ++ others) h)
      (subst (λ l. IsPermutation l (held ++ (mine ++ others))) (append_assoc mine held others)
      (subst (λ l. IsPermutation ((mine ++ held) ++ others) l) (append_assoc held mine others) (IsPermutation-append_left others (mine ++ held) (held ++ mine) (IsPermutation-append_comm mine held))))

  module _ {F : Type 0} where
    -- the rows whose devices are left, of the tables and the list
    abbrev pub rows_in : Move V F → List ℕ
    rows_in (Read x) = range_with_len x.row (length x.devices)
    rows_in (Opened (Ok d)) = tables ∷ []
    rows_in (Opened (Err w)) = []
    rows_in (Gave line) = []
    rows_in (Dealt x) = []

    abbrev pub held_rows : List (Move V F) → List ℕ
    held_rows ms = flat_map rows_in ms

    -- what all rows have that were ahead
    pub record Homes (t o k : ℕ) (ms : List (Move V F)) (own : ℕ → DeviceTold) : Type 0 where
      pub tried : (x : Tried V) → IsAmong x (tried_of ms) → HasTried x own
      pub list : (r : Result V NotRead) → IsAmong r (opened_of ms) → HasList r own
      pub dealt : (i : ℕ) (x : Part V F) → at (dealt_of ms) i ≡ Some x → HaveHome told p lines files homes stays (k + i) x own
      pub behind : (r : ℕ) → IsAhead (rows_after t (tried_of ms)) (o + length (opened_of ms)) (k + length (dealt_of ms)) r → own r ≡ bare_row all files r

    -- These moves were made from there on: devices were made for rows that were ahead, some are gone, and the others are left.
    pub record AllMoved (t o k : ℕ) (ms : List (Move V F)) (old new : DepotTold) : Type 0 where
      pub own : ℕ → DeviceTold
      pub gone : List DeviceTold
      pub left : List DeviceTold
      pub rows : RowsMade all files own (IsAhead t o k) old new gone left
      pub arranged : IsPermutation left (map ended (held_rows ms) ++ flat_map stays (range_with_len k (length (dealt_of ms))))
      pub same_files : new.files ≡ old.files
      pub homes_are : Homes t o k ms own

    -- rows agree that were ahead
    homes_same : (t o k : ℕ) (ms : List (Move V F)) (v w : ℕ → DeviceTold) → AreInOrder tables all t (tried_of ms) → ((r : Result V NotRead) → IsAmong r (opened_of ms) → IsIn (tables + o) (outer_rows p) tables) → ((r : ℕ) → IsAhead t o k r → v r ≡ w r) → Homes t o k ms v → Homes t o k ms w
    homes_same t o k ms v w order list same h = record {
      tried = λ x m. let y = order_within tables all t (tried_of ms) order x m in let a = y.0 in let b = y.1 in tried_same x v w y.2 (λ r l u. same r (inl (omega (arith, a, l), omega (arith, b, u)))) (h.tried x m);
      list = λ r m. list_same r v w (same tables (inr (inl (list r m)))) (h.list r m);
      dealt = λ i x e. home_same told p lines files homes stays (k + i) x v w (λ r l u. same r (inr (inr (let g = rows_grow p k i in omega (arith, l, g))))) (h.dealt i x e);
      behind = λ r a. sym (same r (before r a)) ∙ h.behind r a;
    }
      where
        before : (r : ℕ) → IsAhead (rows_after t (tried_of ms)) (o + length (opened_of ms)) (k + length (dealt_of ms)) r → IsAhead t o k r
        before r a =
            let more = after_more tables all t (tried_of ms) in
            let grow = rows_grow p k (length (dealt_of ms)) in
            ⊎_elim
            (λ i. let l = i.0 in inl (omega (arith, l, more), i.1))
            (λ b. ⊎_elim (λ i. let l = i.0 in inr (inl (omega (arith, l), i.1))) (λ l. inr (inr (omega (arith, l, grow)))) b)
            a

    -- one move more, before the others
    module _ (t o k t' o' k' : ℕ) (m : Move V F) (ms : List (Move V F)) (old mid new : DepotTold) (a b : ℕ) (u : ℕ → DeviceTold) (g ls : List DeviceTold) (one : RowsMade all files u (IsIn a b) old mid g ls) (same : mid.files ≡ old.files) (rest : AllMoved t' o' k' ms mid new)
        (disjoint : (r : ℕ) → IsIn a b r → IsAhead t' o' k' r → ⊥) (to : (r : ℕ) → IsIn a b r ⊎ IsAhead t' o' k' r → IsAhead t o k r) (from : (r : ℕ) → IsAhead t o k r → IsIn a b r ⊎ IsAhead t' o' k' r) where
      abbrev pub both : ℕ → DeviceTold
      both = either_home a b u rest.own

      pub here_same : (r : ℕ) → IsIn a b r → u r ≡ both r
      here_same r i = home_in a b u rest.own r i

      pub there_same : (r : ℕ) → IsAhead t' o' k' r → rest.own r ≡ both r
      there_same r i = home_out a b u rest.own r (λ j. disjoint r j i)

      pub one_more : IsPermutation (ls ++ rest.left) (map ended (held_rows (m ∷ ms)) ++ flat_map stays (range_with_len k (length (dealt_of (m ∷ ms))))) → Homes t o k (m ∷ ms) both → AllMoved t o k (m ∷ ms) old new
      one_more arranged homes_are = record {
        own = both;
        gone = g ++ rest.gone;
        left = ls ++ rest.left;
        rows = rows_first all files a b u rest.own (IsAhead t o k) (IsAhead t' o' k') old mid new g ls rest.gone rest.left one rest.rows disjoint to from;
        arranged = arranged;
        same_files = rest.same_files ∙ same;
        homes_are = homes_are;
      }

    -- Tables were tried.
    module _ (t o k : ℕ) (x : Tried V) (ms : List (Move V F)) (old mid new : DepotTold) (order : AreInOrder tables all t (x ∷ tried_of ms)) (lists : (r : Result V NotRead) → IsAmong r (opened_of ms) → IsIn (tables + o) (outer_rows p) tables) (u : ℕ → DeviceTold)
        (one : RowsMade all files u (IsIn x.row (x.row + length x.paths)) old mid x.back (map ended (range_with_len x.row (length x.devices)))) (has : HasTried x u) (same : mid.files ≡ old.files) (rest : AllMoved (t + length x.paths) o k ms mid new) where
      abbrev a : ℕ
      a = x.row

      abbrev b : ℕ
      b = x.row + length x.paths

      row : x.row ≡ t
      row = order.0

      few : t + length x.paths ≤ tables
      few = order.1

      disjoint : (r : ℕ) → IsIn a b r → IsAhead (t + length x.paths) o k r → ⊥
      disjoint r i h =
          let l = i.0 in
          let v = i.1 in
          let outer = behind_outer p k in
          ⊎_elim (λ j. let w = j.0 in omega (arith, v, w, row)) (λ h. ⊎_elim (λ j. let w = j.0 in omega (arith, v, w, row, few)) (λ w. omega (arith, v, w, row, few, outer)) h) h

      to : (r : ℕ) → IsIn a b r ⊎ IsAhead (t + length x.paths) o k r → IsAhead t o k r
      to r h =
          ⊎_elim
          (λ i. let l = i.0 in let v = i.1 in inl (omega (arith, l, row), omega (arith, v, row, few)))
          (λ h. ⊎_elim (λ j. let w = j.0 in inl (omega (arith, w), j.1)) (λ j. inr j) h)
          h

      from : (r : ℕ) → IsAhead t o k r → IsIn a b r ⊎ IsAhead (t + length x.paths) o k r
      from r h =
          ⊎_elim
          (λ i. ⊎_elim (λ (l : r < t + length x.paths). let j = i.0 in inl (omega (arith, j, row), omega (arith, l, row))) (λ (l : t + length x.paths ≤ r). inr (inl (l, i.1))) (cases_lt r (t + length x.paths)))
          (λ j. inr (inr j))
          h

      abbrev w : ℕ → DeviceTold
      w = both t o k (t + length x.paths) o k (Read x) ms old mid new a b u x.back (map ended (range_with_len x.row (length x.devices))) one same rest disjoint to from

      others : Homes (t + length x.paths) o k ms w
      others = homes_same (t + length x.paths) o k ms rest.own w order.4 lists (there_same t o k (t + length x.paths) o k (Read x) ms old mid new a b u x.back (map ended (range_with_len x.row (length x.devices))) one same rest disjoint to from) rest.homes_are

      mine : HasTried x w
      mine = tried_same x u w order.2 (λ r l v. here_same t o k (t + length x.paths) o k (Read x) ms old mid new a b u x.back (map ended (range_with_len x.row (length x.devices))) one same rest disjoint to from r (l, v)) has

      pub tables_first : AllMoved t o k (Read x ∷ ms) old new
      tables_first =
          one_more t o k (t + length x.paths) o k (Read x) ms old mid new a b u x.back (map ended (range_with_len x.row (length x.devices))) one same rest disjoint to from
          (outer_first (range_with_len x.row (length x.devices)) (held_rows ms) rest.left (flat_map stays (range_with_len k (length (dealt_of ms)))) rest.arranged)
          (record {
            tried = λ y i. ⊎_elim (λ e. subst (λ z. HasTried z w) (sym e) mine) (λ j. others.tried y j) (among_cons i);
            list = others.list;
            dealt = others.dealt;
            behind = others.behind;
          })

    -- The list was tried.
    module _ (t k : ℕ) (r : Result V NotRead) (ms : List (Move V F)) (old mid new : DepotTold) (order : AreInOrder tables all t (tried_of ms)) (none : (q : Result V NotRead) → IsAmong q (opened_of ms) → ⊥) (is_there : outer_rows p ≡ tables + 1) (u : ℕ → DeviceTold) (g : List DeviceTold)
        (one : RowsMade all files u (IsIn tables (tables + 1)) old mid g (map ended (rows_in (Opened r)))) (has : HasList r u) (same : mid.files ≡ old.files) (rest : AllMoved t 1 k ms mid new) where
      list_disjoint : (q : ℕ) → IsIn tables (tables + 1) q → IsAhead t 1 k q → ⊥
      list_disjoint q i h =
          let l = i.0 in
          let v = i.1 in
          let outer = behind_outer p k in
          ⊎_elim (λ j. let w = j.1 in omega (arith, l, w)) (λ h. ⊎_elim (λ j. let w = j.0 in omega (arith, v, w)) (λ w. omega (arith, v, w, is_there, outer)) h) h

      list_to : (q : ℕ) → IsIn tables (tables + 1) q ⊎ IsAhead t 1 k q → IsAhead t 0 k q
      list_to q h =
          ⊎_elim
          (λ i. let l = i.0 in let v = i.1 in inr (inl (omega (arith, l), omega (arith, v, is_there))))
          (λ h. ⊎_elim (λ j. inl j) (λ h. ⊎_elim (λ j. let w = j.0 in inr (inl (omega (arith, w), j.1))) (λ w. inr (inr w)) h) h)
          h

      list_from : (q : ℕ) → IsAhead t 0 k q → IsIn tables (tables + 1) q ⊎ IsAhead t 1 k q
      list_from q h =
          ⊎_elim
          (λ j. inr (inl j))
          (λ h. ⊎_elim (λ j. let l = j.0 in let v = j.1 in inl (omega (arith, l), omega (arith, v, is_there))) (λ w. inr (inr (inr w))) h)
          h

      abbrev lw : ℕ → DeviceTold
      lw = both t 0 k t 1 k (Opened r) ms old mid new tables (tables + 1) u g (map ended (rows_in (Opened r))) one same rest list_disjoint list_to list_from

      list_others : Homes t 1 k ms lw
      list_others = homes_same t 1 k ms rest.own lw order (λ q m. absurd (none q m)) (there_same t 0 k t 1 k (Opened r) ms old mid new tables (tables + 1) u g (map ended (rows_in (Opened r))) one same rest list_disjoint list_to list_from) rest.homes_are

      list_mine : HasList r lw
      list_mine = list_same r u lw (here_same t 0 k t 1 k (Opened r) ms old mid new tables (tables + 1) u g (map ended (rows_in (Opened r))) one same rest list_disjoint list_to list_from tables (omega arith, omega arith)) has

      pub list_first : AllMoved t 0 k (Opened r ∷ ms) old new
      list_first =
          one_more t 0 k t 1 k (Opened r) ms old mid new tables (tables + 1) u g (map ended (rows_in (Opened r))) one same rest list_disjoint list_to list_from
          (outer_first (rows_in (Opened r)) (held_rows ms) rest.left (flat_map stays (range_with_len k (length (dealt_of ms)))) rest.arranged)
          (record {
            tried = list_others.tried;
            list = λ q i. ⊎_elim (λ e. subst (λ z. HasList z lw) (sym e) list_mine) (λ j. absurd (none q j)) (among_cons i);
            dealt = list_others.dealt;
            behind = λ q a. list_others.behind q (let z : 0 + suc (length (opened_of ms)) ≡ 1 + length (opened_of ms) = omega arith in subst (λ n. IsAhead (rows_after t (tried_of ms)) n (k + length (dealt_of ms)) q) z a);
          })

    -- A stream was dealt with.
    module _ (t o k : ℕ) (x : Part V F) (ms : List (Move V F)) (old mid new : DepotTold) (order : AreInOrder tables all t (tried_of ms)) (lists : (r : Result V NotRead) → IsAmong r (opened_of ms) → IsIn (tables + o) (outer_rows p) tables) (u : ℕ → DeviceTold) (g : List DeviceTold)
        (one : RowsMade all files u (IsIn (first_row p k) (first_row p (suc k))) old mid g (stays k)) (has : HaveHome told p lines files homes stays k x u) (same : mid.files ≡ old.files) (rest : AllMoved t o (suc k) ms mid new) where
      next : first_row p k ≤ first_row p (suc k)
      next = let g = rows_grow p k 1 in let z : k + 1 ≡ suc k = omega arith in let e = ap (first_row p) z in omega (arith, g, e)

      few_outer : tables ≤ outer_rows p
      few_outer = omega arith

      stream_disjoint : (r : ℕ) → IsIn (first_row p k) (first_row p (suc k)) r → IsAhead t o (suc k) r → ⊥
      stream_disjoint r i h =
          let l = i.0 in
          let v = i.1 in
          let outer = behind_outer p k in
          ⊎_elim (λ j. let w = j.1 in omega (arith, l, w, outer, few_outer)) (λ h. ⊎_elim (λ j. let w = j.1 in omega (arith, l, w, outer)) (λ w. omega (arith, v, w)) h) h

      stream_to : (r : ℕ) → IsIn (first_row p k) (first_row p (suc k)) r ⊎ IsAhead t o (suc k) r → IsAhead t o k r
      stream_to r h =
          ⊎_elim
          (λ i. inr (inr i.0))
          (λ h. ⊎_elim (λ j. inl j) (λ h. ⊎_elim (λ j. inr (inl j)) (λ w. inr (inr (omega (arith, w, next)))) h) h)
          h

      stream_from : (r : ℕ) → IsAhead t o k r → IsIn (first_row p k) (first_row p (suc k)) r ⊎ IsAhead t o (suc k) r
      stream_from r h =
          ⊎_elim
          (λ j. inr (inl j))
          (λ h. ⊎_elim (λ j. inr (inr (inl j))) (λ w. ⊎_elim (λ (v : r < first_row p (suc k)). inl (w, v)) (λ (v : first_row p (suc k) ≤ r). inr (inr (inr v))) (cases_lt r (first_row p (suc k)))) h)
          h

      abbrev sw : ℕ → DeviceTold
      sw = both t o k t o (suc k) (Dealt x) ms old mid new (first_row p k) (first_row p (suc k)) u g (stays k) one same rest stream_disjoint stream_to stream_from

      stream_others : Homes t o (suc k) ms sw
      stream_others = homes_same t o (suc k) ms rest.own sw order lists (there_same t o k t o (suc k) (Dealt x) ms old mid new (first_row p k) (first_row p (suc k)) u g (stays k) one same rest stream_disjoint stream_to stream_from) rest.homes_are

      stream_mine : HaveHome told p lines files homes stays k x sw
      stream_mine = home_same told p lines files homes stays k x u sw (λ r l v. here_same t o k t o (suc k) (Dealt x) ms old mid new (first_row p k) (first_row p (suc k)) u g (stays k) one same rest stream_disjoint stream_to stream_from r (l, v)) has

      mine_at : (i : ℕ) (y : Part V F) → at (x ∷ dealt_of ms) i ≡ Some y → HaveHome told p lines files homes stays (k + i) y sw
      mine_at zero y e =
          let z : k ≡ k + 0 = omega arith in
          let s : x ≡ y = cc in
          subst (λ j. HaveHome told p lines files homes stays j y sw) z (subst (λ q. HaveHome told p lines files homes stays k q sw) s stream_mine)
      mine_at (suc i) y e = let z : suc k + i ≡ k + suc i = omega arith in subst (λ j. HaveHome told p lines files homes stays j y sw) z (stream_others.dealt i y e)

      pub stream_next : AllMoved t o k (Dealt x ∷ ms) old new
      stream_next =
          let n = length (dealt_of ms) in
          let z : suc k ≡ k + 1 = omega arith in
          one_more t o k t o (suc k) (Dealt x) ms old mid new (first_row p k) (first_row p (suc k)) u g (stays k) one same rest stream_disjoint stream_to stream_from
          (stream_first (stays k) rest.left (map ended (held_rows ms)) (flat_map stays (range_with_len (k + 1) n)) (subst (λ j. IsPermutation rest.left (map ended (held_rows ms) ++ flat_map stays (range_with_len j n))) z rest.arranged))
          (record {
            tried = stream_others.tried;
            list = stream_others.list;
            dealt = mine_at;
            behind = λ r a. stream_others.behind r (let y : k + suc n ≡ suc k + n = omega arith in subst (λ j. IsAhead (rows_after t (tried_of ms)) (o + length (opened_of ms)) j r) y a);
          })
