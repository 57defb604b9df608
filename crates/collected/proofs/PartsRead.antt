-- How the tables of a plan's parts came out that were tried one part after the other.
use Rattle.std.proofs.Common.{◌≡◌, ℕ, zero, suc, ◌+◌, ◌-◌, ◌<◌, ◌≤◌, true, false, cond, nat_lt, List, [], ◌∷◌, ◌++◌, inl, inr, length, Option, Some, None, IfSome, refl, sym, ◌∙◌, ap, subst, ⊎_elim, arith, append-nil, length-append}
use Rattle.std.proofs.lemmas.Bool.{cases_lt, false≢true, lt-ltb}
use Rattle.std.specs.Prelude.{option_and_then, slice_get}
use Rattle.chunk_core.specs.Lists.{IsAmong}
use Rattle.chunk_core.specs.Lists.IsAmong.{here, there}
use Rattle.chunk_core.specs.declared.code.Code.{Code}
use Rattle.csv_pipes.specs.Dictionaries.{table_value}
use Rattle.device_port.specs.Device.{Place, DeviceTold}
use Rattle.outer_stream.specs.declared.next.OuterPart.{OuterPart}
use Rattle.outer_tables.specs.Outcomes.{values_in}
use Rattle.outer_tables.specs.declared.not_read.NotRead.{NotRead}
use Rattle.outer_tables.specs.declared.not_read.NotRead.TheVariants as why
use Rattle.pipeline_desc.specs.declared.table.TableSpec.{TableSpec}
use Rattle.run_rules.specs.Homes.{is_tried}
use Rattle.run_rules.specs.Opening.{IsTableFailed, IsTableRead}
use Rattle.run_rules.specs.Work as work
use Rattle.run_rules.specs.Work.{Opener, Part, RunRecord, rows_up_to}
use Rattle.dealt_streams.specs.Moves.{Tried, contents_in}
use Rattle.dealt_streams.specs.Standing.{ArePartsTried}
use Rattle.dealt_streams.specs.Standing.ArePartsTried.{none, read, unread}
use Rattle.collected.proofs.MovedRows.{AreInOrder, rows_after}
use Rattle.collected.proofs.PlanParts.{AreParts, part_count, parts_end}
use Rattle.collected.proofs.TableRuns.{CameOut, IsBare, IsCalm, IsSeam}

module _ {V : Type 0} where
  -- of how many parts all tables were read
  abbrev pub reads : List (Tried V) → ℕ
  reads [] = 0
  reads (x ∷ xs) = elim x.lack [ Some w ↦ 0 | None ↦ suc (reads xs) ]

  more_contents : (x : Tried V) (xs : List (Tried V)) → length (contents_in (x ∷ xs)) ≡ length x.contents + length (contents_in xs)
  more_contents x xs = length-append x.contents (contents_in xs)

-- how many streams there are before those of part i
abbrev pub before_from : ℕ → List OuterPart → ℕ → ℕ
before_from s os zero = s
before_from s os (suc i) = elim (slice_get os i) [ Some part ↦ part.behind | None ↦ 0 ]

before_more : (s : ℕ) (a : OuterPart) (os : List OuterPart) (i : ℕ) → before_from s (a ∷ os) (suc i) ≡ before_from a.behind os i
before_more s a os zero = refl
before_more s a os (suc i) = refl

pub if_less : (a b m n : ℕ) → a < b → cond (nat_lt a b) m n ≡ m
if_less a b m n l = ap (λ t. cond t m n) (lt-ltb a b l)

pub if_more : (a b m n : ℕ) → b ≤ a → cond (nat_lt a b) m n ≡ n
if_more a b m n l = ap (λ t. cond t m n) (not_less a b l)
  where
    not_less : (a b : ℕ) → b ≤ a → nat_lt a b ≡ false
    not_less a b l = grind arith

some_none : {A : Type 0} (x : A) → Some x ≡ None → ⊥
some_none x e = cc

module _ (tables : List TableSpec) {V : Type 0} where
  -- all but the last part's were read
  pub reads_are : (os : List OuterPart) (xs : List (Tried V)) (o : Option NotRead) → ArePartsTried tables os xs o → (o ≡ None → length xs ≡ reads xs) × ((w : NotRead) → o ≡ Some w → length xs ≡ suc (reads xs))
  reads_are os [] o none = (λ e. refl, λ w e. absurd (some_none w (sym e)))
  reads_are [] (x ∷ xs) o tried = elim tried [ ]
  reads_are (a ∷ os) (x ∷ xs) o (read a' x' of whole more) =
      let r = reads_are os xs o more in
      let one : reads (x ∷ xs) ≡ suc (reads xs) = ap (λ (l : Option NotRead). elim l [ Some w ↦ 0 | None ↦ suc (reads xs) ]) whole in (λ e. let k = r.0 e in omega (arith, k, one), λ w e. let k = r.1 w e in omega (arith, k, one))
  reads_are (a ∷ os) (x ∷ []) (Some v) (unread a' x' v' of lack) =
      let one : reads {V = V} (x ∷ []) ≡ 0 = ap (λ (l : Option NotRead). elim l [ Some w ↦ 0 | None ↦ suc (reads {V = V} []) ]) lack in (λ e. absurd (some_none v e), λ w e. omega (arith, one))

  module _ (op : Opener) (c : RunRecord) (w : ℕ → DeviceTold) (T : ℕ) (all : List Place) where
    -- each part's tables came out so
    abbrev pub AreOut : List (Tried V) → Type 0
    AreOut xs = (x : Tried V) → IsAmong x xs → CameOut op c w x.row x.paths x.contents x.lack

    rest_out : (x : Tried V) (xs : List (Tried V)) → AreOut (x ∷ xs) → AreOut xs
    rest_out x xs h y m = h y (there x m)

    -- the tables of the contents were read
    pub rows_read : (t : ℕ) (os : List OuterPart) (xs : List (Tried V)) (o : Option NotRead) → ArePartsTried tables os xs o → AreInOrder T all t xs → AreOut xs → (i : ℕ) → t ≤ i → i < t + length (contents_in xs) → IsTableRead op c i (w i)
    rows_read t os [] o none order outs i l u = absurd (omega (arith, l, u))
    rows_read t [] (x ∷ xs) o tried order outs i l u = elim tried [ ]
    rows_read t (a ∷ os) (x ∷ xs) o (read a' x' of whole more) order outs i l u =
        let one = outs x (here xs) in
        let count = one.whole whole in
        let sum = more_contents x xs in
        let row = order.0 in
        ⊎_elim
        (λ (h : i < t + length x.contents). let z : x.row + (i - x.row) ≡ i = omega (arith, l, row) in subst (λ k. IsTableRead op c k (w k)) z (one.read (i - x.row) (omega (arith, h, row, l))))
        (λ (h : t + length x.contents ≤ i). rows_read (t + length x.paths) os xs o more order.4 (rest_out x xs outs) i (omega (arith, h, count)) (omega (arith, u, sum, count)))
        (cases_lt i (t + length x.contents))
    rows_read t (a ∷ os) (x ∷ []) (Some v) (unread a' x' v' of lack) order outs i l u =
        let one = outs x (here []) in
        let sum = more_contents x [] in
        let row = order.0 in
        let z : x.row + (i - x.row) ≡ i = omega (arith, l, row) in
        subst (λ k. IsTableRead op c k (w k)) z (one.read (i - x.row) (omega (arith, u, sum, row, l)))

    -- no more than were tried, and where none is told not to be read all of them
    pub rows_few : (t : ℕ) (os : List OuterPart) (xs : List (Tried V)) (o : Option NotRead) → ArePartsTried tables os xs o → AreOut xs → (t + length (contents_in xs) ≤ rows_after t xs) × (o ≡ None → t + length (contents_in xs) ≡ rows_after t xs)
    rows_few t os [] o none outs = (omega arith, λ e. omega arith)
    rows_few t [] (x ∷ xs) o tried outs = elim tried [ ]
    rows_few t (a ∷ os) (x ∷ xs) o (read a' x' of whole more) outs =
        let count = (outs x (here xs)).whole whole in
        let sum = more_contents x xs in
        let r = rows_few (t + length x.paths) os xs o more (rest_out x xs outs) in
        let l = r.0 in (omega (arith, l, sum, count), λ e. let k = r.1 e in omega (arith, k, sum, count))
    rows_few t (a ∷ os) (x ∷ []) (Some v) (unread a' x' v' of lack) outs =
        let few = (outs x (here [])).few in
        let sum = more_contents x [] in (omega (arith, few, sum), λ e. absurd (some_none v e))

    -- what became of the table behind them
    pub row_failed : (f : Code) (t : ℕ) (os : List OuterPart) (xs : List (Tried V)) (o : Option NotRead) → ArePartsTried tables os xs o → AreInOrder T all t xs → AreOut xs → o ≡ Some (why.Fault f) → (t + length (contents_in xs) < rows_after t xs) × IsTableFailed op c (w (t + length (contents_in xs))) f
    row_failed f t os [] o none order outs e = absurd (some_none (why.Fault f) (sym e))
    row_failed f t [] (x ∷ xs) o tried order outs e = elim tried [ ]
    row_failed f t (a ∷ os) (x ∷ xs) o (read a' x' of whole more) order outs e =
        let count = (outs x (here xs)).whole whole in
        let sum = more_contents x xs in
        let r = row_failed f (t + length x.paths) os xs o more order.4 (rest_out x xs outs) e in
        let l = r.0 in
        let z : t + length x.paths + length (contents_in xs) ≡ t + length (contents_in (x ∷ xs)) = omega (arith, sum, count) in (omega (arith, l, z), subst (λ k. IsTableFailed op c (w k) f) z r.1)
    row_failed f t (a ∷ os) (x ∷ []) (Some v) (unread a' x' v' of lack) order outs e =
        let r = (outs x (here [])).failed f (lack ∙ e) in
        let sum = more_contents x [] in
        let row = order.0 in
        let l = r.0 in
        let z : x.row + length x.contents ≡ t + length (contents_in (x ∷ [])) = omega (arith, sum, row) in (omega (arith, l, sum), subst (λ k. IsTableFailed op c (w k) f) z r.1)

    pub row_calm : (t : ℕ) (os : List OuterPart) (xs : List (Tried V)) (o : Option NotRead) → ArePartsTried tables os xs o → AreInOrder T all t xs → AreOut xs → o ≡ Some why.Memory → t + length (contents_in xs) < rows_after t xs → IsCalm w (t + length (contents_in xs))
    row_calm t os [] o none order outs e l = absurd (some_none why.Memory (sym e))
    row_calm t [] (x ∷ xs) o tried order outs e l = elim tried [ ]
    row_calm t (a ∷ os) (x ∷ xs) o (read a' x' of whole more) order outs e l =
        let count = (outs x (here xs)).whole whole in
        let sum = more_contents x xs in
        let z : t + length x.paths + length (contents_in xs) ≡ t + length (contents_in (x ∷ xs)) = omega (arith, sum, count) in
        subst (IsCalm w) z (row_calm (t + length x.paths) os xs o more order.4 (rest_out x xs outs) e (omega (arith, l, z)))
    row_calm t (a ∷ os) (x ∷ []) (Some v) (unread a' x' v' of lack) order outs e l =
        let sum = more_contents x [] in
        let row = order.0 in
        let z : x.row + length x.contents ≡ t + length (contents_in (x ∷ [])) = omega (arith, sum, row) in
        subst (IsCalm w) z ((outs x (here [])).calm (lack ∙ e) (omega (arith, l, sum)))

    -- nothing was tried behind it
    pub rows_idle : (t : ℕ) (os : List OuterPart) (xs : List (Tried V)) (o : Option NotRead) → ArePartsTried tables os xs o → AreInOrder T all t xs → AreOut xs → (i : ℕ) → t + length (contents_in xs) < i → i < rows_after t xs → IsBare w i
    rows_idle t os [] o none order outs i l u = absurd (omega (arith, l, u))
    rows_idle t [] (x ∷ xs) o tried order outs i l u = elim tried [ ]
    rows_idle t (a ∷ os) (x ∷ xs) o (read a' x' of whole more) order outs i l u =
        let count = (outs x (here xs)).whole whole in
        let sum = more_contents x xs in
        rows_idle (t + length x.paths) os xs o more order.4 (rest_out x xs outs) i (omega (arith, l, sum, count)) u
    rows_idle t (a ∷ os) (x ∷ []) (Some v) (unread a' x' v' of lack) order outs i l u =
        let sum = more_contents x [] in
        let row = order.0 in
        (outs x (here [])).idle i (omega (arith, l, sum, row)) (omega (arith, u, row))

    module _ (S : ℕ) (T_is : T ≡ length tables) where
      -- where none is told not to be read the next part begins behind them
      pub rows_seam : (t s : ℕ) (os : List OuterPart) (qs : List Part) (xs : List (Tried V)) (o : Option NotRead) → AreParts (length tables) S t s os qs → ArePartsTried tables os xs o → AreOut xs → o ≡ None → IsSeam (t + length (contents_in xs)) t qs
      rows_seam t s os [] xs o parts tried outs e = tt
      rows_seam t s os (q ∷ qs) [] o parts none outs e = inl (omega arith)
      rows_seam t s [] (q ∷ qs) (x ∷ xs) o parts tried outs e = absurd parts
      rows_seam t s (a ∷ os) (q ∷ qs) (x ∷ xs) o parts (read a' x' of whole more) outs e =
          let end = parts_end (length tables) S (t + q.tables) (s + q.streams) os qs parts.3 in
          let size = part_count tables a x of t q.tables parts.0 parts.1 end.0 in
          let count = (outs x (here xs)).whole whole in
          let sum = more_contents x xs in
          let z : t + q.tables + length (contents_in xs) ≡ t + length (contents_in (x ∷ xs)) = omega (arith, sum, count, size) in
          inr (omega (arith, sum, count, size), subst (λ m. IsSeam m (t + q.tables) qs) z (rows_seam (t + q.tables) (s + q.streams) os qs xs o parts.3 more (rest_out x xs outs) e))
      rows_seam t s (a ∷ os) (q ∷ qs) (x ∷ []) (Some v) parts (unread a' x' v' of lack) outs e = absurd (some_none v e)

      -- All tables up to those of its part were read before a stream is leased for, where streams are leased for of the parts that were begun alone.
      pub rows_given : (leased : ℕ) (lp : List Part) (t s : ℕ) (os : List OuterPart) (qs : List Part) (xs : List (Tried V)) (o : Option NotRead) → AreParts (length tables) S t s os qs → ArePartsTried tables os xs o → AreOut xs
          → ((i : ℕ) → reads xs ≤ i → i < length os → leased ≤ before_from s os i) → (j : ℕ) → s ≤ j → j < leased → (i : ℕ) → t ≤ i → i < T → i < rows_up_to t s (qs ++ lp) j → i < t + length (contents_in xs)
      rows_given leased lp t s [] [] [] o parts none outs ahead j low high i l u r = let e = parts.0 in absurd (omega (arith, l, u, e, T_is))
      rows_given leased lp t s [] (q ∷ qs) [] o parts none outs ahead j low high i l u r = absurd parts
      rows_given leased lp t s [] [] (x ∷ xs) o parts tried outs ahead j low high i l u r = elim tried [ ]
      rows_given leased lp t s [] (q ∷ qs) (x ∷ xs) o parts tried outs ahead j low high i l u r = absurd parts
      rows_given leased lp t s (a ∷ os) qs [] o parts none outs ahead j low high i l u r = let k = ahead 0 (omega arith) (omega arith) in absurd (omega (arith, low, high, k))
      rows_given leased lp t s (a ∷ os) [] (x ∷ xs) o parts (read a' x' of whole more) outs ahead j low high i l u r = absurd parts
      rows_given leased lp t s (a ∷ os) (q ∷ qs) (x ∷ xs) o parts (read a' x' of whole more) outs ahead j low high i l u r =
          let end = parts_end (length tables) S (t + q.tables) (s + q.streams) os qs parts.3 in
          let size = part_count tables a x of t q.tables parts.0 parts.1 end.0 in
          let count = (outs x (here xs)).whole whole in
          let sum = more_contents x xs in
          let one : reads (x ∷ xs) ≡ suc (reads xs) = ap (λ (l : Option NotRead). elim l [ Some w ↦ 0 | None ↦ suc (reads xs) ]) whole in
          let later : (k : ℕ) → reads xs ≤ k → k < length os → leased ≤ before_from (s + q.streams) os k = λ k m n.
          subst (λ b. leased ≤ before_from b os k) parts.2 (subst (λ b. leased ≤ b) (before_more s a os k) (ahead (suc k) (omega (arith, m, one)) (omega (arith, n)))) in
          ⊎_elim
          (λ (h : j < s + q.streams). let e = if_less j (s + q.streams) (t + q.tables) (rows_up_to (t + q.tables) (s + q.streams) (qs ++ lp) j) h in omega (arith, r, e, size, count, sum))
          (λ (h : s + q.streams ≤ j).
          let e = if_more j (s + q.streams) (t + q.tables) (rows_up_to (t + q.tables) (s + q.streams) (qs ++ lp) j) h in
          ⊎_elim
          (λ (k : i < t + q.tables). omega (arith, k, size, count, sum))
          (λ (k : t + q.tables ≤ i). let y = rows_given leased lp (t + q.tables) (s + q.streams) os qs xs o parts.3 more (rest_out x xs outs) later j h high i k u (omega (arith, r, e)) in omega (arith, y, size, count, sum))
          (cases_lt i (t + q.tables)))
          (cases_lt j (s + q.streams))
      rows_given leased lp t s (a ∷ os) qs (x ∷ []) (Some v) parts (unread a' x' v' of lack) outs ahead j low high i l u r =
          let one : reads {V = V} (x ∷ []) ≡ 0 = ap (λ (l : Option NotRead). elim l [ Some w ↦ 0 | None ↦ suc (reads {V = V} []) ]) lack in
          let k = ahead 0 (omega (arith, one)) (omega arith) in
          absurd (omega (arith, low, high, k))

      -- A table is tried only once the streams of the parts before were leased for.
      pub rows_turns : (leased : ℕ) (lp : List Part) (t s : ℕ) (os : List OuterPart) (qs : List Part) (xs : List (Tried V)) (o : Option NotRead) → AreParts (length tables) S t s os qs → ArePartsTried tables os xs o
          → ((i : ℕ) → i < length xs → before_from s os i ≤ leased) → ((i : ℕ) → rows_after t xs ≤ i → i < T → is_tried (w i) ≡ false) → (r : ℕ) → t ≤ r → r < T → is_tried (w r) ≡ true → work.streams_before t s (qs ++ lp) r ≤ leased
      rows_turns leased lp t s os qs [] o parts none turns idle r l u is = absurd (false≢true (sym (idle r l u) ∙ is))
      rows_turns leased lp t s [] qs (x ∷ xs) o parts tried turns idle r l u is = elim tried [ ]
      rows_turns leased lp t s (a ∷ os) [] (x ∷ xs) o parts (read a' x' of whole more) turns idle r l u is = absurd parts
      rows_turns leased lp t s (a ∷ os) (q ∷ qs) (x ∷ xs) o parts (read a' x' of whole more) turns idle r l u is =
          let end = parts_end (length tables) S (t + q.tables) (s + q.streams) os qs parts.3 in
          let size = part_count tables a x of t q.tables parts.0 parts.1 end.0 in
          let next : t + length x.paths ≡ t + q.tables = omega (arith, size) in
          let first = turns 0 (omega arith) in
          let later : (k : ℕ) → k < length xs → before_from (s + q.streams) os k ≤ leased = λ k n. subst (λ b. before_from b os k ≤ leased) parts.2 (subst (λ b. b ≤ leased) (before_more s a os k) (turns (suc k) (omega (arith, n)))) in
          ⊎_elim
          (λ (h : r < t + q.tables). let e = if_less r (t + q.tables) s (work.streams_before (t + q.tables) (s + q.streams) (qs ++ lp) r) h in omega (arith, e, first))
          (λ (h : t + q.tables ≤ r).
          let e = if_more r (t + q.tables) s (work.streams_before (t + q.tables) (s + q.streams) (qs ++ lp) r) h in
          let y = rows_turns leased lp (t + q.tables) (s + q.streams) os qs xs o parts.3 more later (subst (λ k. (i : ℕ) → rows_after k xs ≤ i → i < T → is_tried (w i) ≡ false) next idle) r h u is in
          omega (arith, e, y))
          (cases_lt r (t + q.tables))
      rows_turns leased lp t s (a ∷ os) [] (x ∷ []) (Some v) parts (unread a' x' v' of lack) turns idle r l u is = absurd parts
      rows_turns leased lp t s (a ∷ os) (q ∷ qs) (x ∷ []) (Some v) parts (unread a' x' v' of lack) turns idle r l u is =
          let end = parts_end (length tables) S (t + q.tables) (s + q.streams) os qs parts.3 in
          let size = part_count tables a x of t q.tables parts.0 parts.1 end.0 in
          let first = turns 0 (omega arith) in
          ⊎_elim
          (λ (h : r < t + q.tables). let e = if_less r (t + q.tables) s (work.streams_before (t + q.tables) (s + q.streams) (qs ++ lp) r) h in omega (arith, e, first))
          (λ (h : t + q.tables ≤ r). absurd (false≢true (sym (idle r (omega (arith, h, size)) u) ∙ is)))
          (cases_lt r (t + q.tables))

    -- the values are those of the contents
    pub rows_valued : (t : ℕ) (os : List OuterPart) (xs : List (Tried V)) (o : Option NotRead) → ArePartsTried tables os xs o → AreInOrder T all t xs → AreOut xs → ((x : Tried V) → IsAmong x xs → (i : ℕ) (key : List ℕ) → i < length x.contents → IfSome (w (x.row + i)).content (λ bytes. values_in x.contents i key ≡ table_value bytes key))
        → (i : ℕ) (key : List ℕ) → i < length (contents_in xs) → IfSome (w (t + i)).content (λ bytes. values_in (contents_in xs) i key ≡ table_value bytes key)
    rows_valued t os [] o none order outs valued i key l = absurd (omega (arith, l))
    rows_valued t [] (x ∷ xs) o tried order outs valued i key l = elim tried [ ]
    rows_valued t (a ∷ os) (x ∷ xs) o (read a' x' of whole more) order outs valued i key l =
        let count = (outs x (here xs)).whole whole in
        let sum = more_contents x xs in
        ⊎_elim
        (λ (h : i < length x.contents). first_valued x xs t order.0 (valued x (here xs)) i key h)
        (λ (h : length x.contents ≤ i).
        let z : t + length x.paths + (i - length x.contents) ≡ t + i = omega (arith, h, count) in
        let is = ap (λ o. option_and_then (λ bytes. table_value bytes key) o) (slice_second x.contents (contents_in xs) i h) in
        subst (λ k. IfSome (w k).content (λ bytes. values_in (contents_in (x ∷ xs)) i key ≡ table_value bytes key)) z
        (subst (λ v. IfSome (w (t + length x.paths + (i - length x.contents))).content (λ bytes. v ≡ table_value bytes key)) (sym is) (rows_valued (t + length x.paths) os xs o more order.4 (rest_out x xs outs) (λ y m. valued y (there x m)) (i - length x.contents) key (omega (arith, l, sum, h)))))
        (cases_lt i (length x.contents))
      where
        slice_second : (ys zs : List (List ℕ)) (k : ℕ) → length ys ≤ k → slice_get (ys ++ zs) k ≡ slice_get zs (k - length ys)
        slice_second [] zs k l = let z : k ≡ k - 0 = omega arith in ap (slice_get zs) z
        slice_second (y ∷ ys) zs zero l = absurd (omega (arith, l))
        slice_second (y ∷ ys) zs (suc k) l = let z : k - length ys ≡ suc k - suc (length ys) = omega arith in slice_second ys zs k (omega (arith, l)) ∙ ap (slice_get zs) z

        slice_front : (ys zs : List (List ℕ)) (k : ℕ) → k < length ys → slice_get (ys ++ zs) k ≡ slice_get ys k
        slice_front [] zs k l = absurd (omega (arith, l))
        slice_front (y ∷ ys) zs zero l = refl
        slice_front (y ∷ ys) zs (suc k) l = slice_front ys zs k (omega (arith, l))

        first_valued : (x : Tried V) (xs : List (Tried V)) (t : ℕ) → x.row ≡ t → ((i : ℕ) (key : List ℕ) → i < length x.contents → IfSome (w (x.row + i)).content (λ bytes. values_in x.contents i key ≡ table_value bytes key)) → (i : ℕ) (key : List ℕ) → i < length x.contents
            → IfSome (w (t + i)).content (λ bytes. values_in (contents_in (x ∷ xs)) i key ≡ table_value bytes key)
        first_valued x xs t row h i key l =
            let is = ap (λ o. option_and_then (λ bytes. table_value bytes key) o) (slice_front x.contents (contents_in xs) i l) in
            subst (λ k. IfSome (w (k + i)).content (λ bytes. values_in (contents_in (x ∷ xs)) i key ≡ table_value bytes key)) row
            (subst (λ v. IfSome (w (x.row + i)).content (λ bytes. v ≡ table_value bytes key)) (sym is) (h i key l))
    rows_valued t (a ∷ os) (x ∷ []) (Some v) (unread a' x' v' of lack) order outs valued i key l =
        let sum = more_contents x [] in
        let none : x.contents ++ [] ≡ x.contents = append-nil x.contents in
        subst (λ bs. IfSome (w (t + i)).content (λ bytes. values_in bs i key ≡ table_value bytes key)) (sym none) (subst (λ k. IfSome (w (k + i)).content (λ bytes. values_in x.contents i key ≡ table_value bytes key)) order.0 (valued x (here []) i key (omega (arith, l, sum))))

-- where the tables of all parts were tried these are all
pub rows_all : (tables : List TableSpec) {V : Type 0} (S t s : ℕ) (os : List OuterPart) (qs : List Part) (xs : List (Tried V)) (o : Option NotRead) → AreParts (length tables) S t s os qs → ArePartsTried tables os xs o → length xs ≡ length os → rows_after t xs ≡ length tables
rows_all tables S t s [] [] [] o parts none e = parts.0
rows_all tables S t s [] (q ∷ qs) [] o parts none e = absurd parts
rows_all tables S t s [] [] (x ∷ xs) o parts tried e = elim tried [ ]
rows_all tables S t s [] (q ∷ qs) (x ∷ xs) o parts tried e = absurd parts
rows_all tables S t s (a ∷ os) qs [] o parts none e = absurd (omega (arith, e))
rows_all tables S t s (a ∷ os) [] (x ∷ xs) o parts (read a' x' of whole more) e = absurd parts
rows_all tables S t s (a ∷ os) (q ∷ qs) (x ∷ xs) o parts (read a' x' of whole more) e =
    let end = parts_end (length tables) S (t + q.tables) (s + q.streams) os qs parts.3 in
    let size = part_count tables a x of t q.tables parts.0 parts.1 end.0 in
    let next : t + q.tables ≡ t + length x.paths = omega (arith, size) in
    subst (λ k. rows_after k xs ≡ length tables) next (rows_all tables S (t + q.tables) (s + q.streams) os qs xs o parts.3 more (omega (arith, e)))
rows_all tables S t s (a ∷ os) [] (x ∷ []) (Some v) parts (unread a' x' v' of lack) e = absurd parts
rows_all tables S t s (a ∷ os) (q ∷ qs) (x ∷ []) (Some v) parts (unread a' x' v' of lack) e =
    let end = parts_end (length tables) S (t + q.tables) (s + q.streams) os qs parts.3 in
    let size = part_count tables a x of t q.tables parts.0 parts.1 end.0 in
    last os qs (omega (arith, e)) (omega (arith, size)) parts.3
  where
    last : (os : List OuterPart) (qs : List Part) → length os ≡ 0 → t + length x.paths ≡ t + q.tables → AreParts (length tables) S (t + q.tables) (s + q.streams) os qs → t + length x.paths ≡ length tables
    last [] [] no_more same parts = same ∙ parts.0
    last [] (r ∷ qs) no_more same parts = absurd parts
    last (a ∷ os) qs no_more same parts = absurd (omega (arith, no_more))

-- behind the tables of the parts stand the streams of all
pub streams_past : (T S t s : ℕ) (os : List OuterPart) (qs lp : List Part) → AreParts T S t s os qs → (r : ℕ) → T ≤ r → work.streams_before t s (qs ++ lp) r ≡ work.streams_before T S lp r
streams_past T S t s [] [] lp parts r l = ap (λ k. work.streams_before k s lp r) parts.0 ∙ ap (λ k. work.streams_before T k lp r) parts.1
streams_past T S t s [] (q ∷ qs) lp parts r l = absurd parts
streams_past T S t s (a ∷ os) [] lp parts r l = absurd parts
streams_past T S t s (a ∷ os) (q ∷ qs) lp parts r l =
    let end = (parts_end T S (t + q.tables) (s + q.streams) os qs parts.3).0 in
    if_more r (t + q.tables) s (work.streams_before (t + q.tables) (s + q.streams) (qs ++ lp) r) (omega (arith, end, l)) ∙ streams_past T S (t + q.tables) (s + q.streams) os qs lp parts.3 r l
