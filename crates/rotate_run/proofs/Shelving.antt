-- The devices of a rotation as it closed them, by their rows.
use Rattle.std.proofs.Common.{◌≡◌, ◌≢◌, ◌⊎◌, ℕ, zero, suc, ◌+◌, ◌<◌, ◌≤◌, Bool, true, false, nat_eq, nat_lt, if◌then◌else◌, List, [], ◌∷◌, ◌++◌, length, map, Option, Some, None, inl, inr, refl, sym, ap, ◌∙◌, subst, ⊎_elim, arith, append_assoc, append-nil, length-append}
use Rattle.std.proofs.lemmas.Bool.{cases_lt, lt-ltb, ne_eqb}
use Rattle.std.proofs.lemmas.List.{length-map}
use Rattle.std.proofs.lemmas.List.Sorted.{IsPermutation-append_comm, IsPermutation-refl}
use Rattle.std.specs.List.Sorted.{IsPermutation}
use Rattle.chunk_core.specs.Lists.{IsAmong}
use Rattle.chunk_core.specs.Lists.IsAmong.{here, there}
use Rattle.chunk_core.specs.declared.code.Code.TheVariants as code
use Rattle.chunk_core.specs.declared.code.Exit.{Exit}
use Rattle.chunk_core.specs.declared.code.Exit.TheVariants.{Succeeded}
use Rattle.chunk_core.specs.declared.code.How.{How}
use Rattle.chunk_core.specs.declared.code.How.TheVariants as how
use Rattle.chunk_core.proofs.Bools.{itself}
use Rattle.chunk_core.proofs.Filters.{among_append}
use Rattle.chunk_core.proofs.Members.{among_cons, among_left, among_mid, among_nil}
use Rattle.device_port.specs.Device.{DeviceTold, Place, to_read}
use Rattle.device_port.specs.Depot.{DepotTold, content_at}
use Rattle.res_ledger.specs.declared.event.What.{What}
use Rattle.res_ledger.specs.declared.event.What.TheVariants.{Acquire, Close, Final, Open}
use Rattle.res_ledger.specs.Own.{latest, opens, rows}
use Rattle.row_seat.specs.declared.view.View.{View}
use Rattle.row_seat.specs.Views.{without_row}
use Rattle.run_rules.specs.Facts.{at}
use Rattle.scope_tree.specs.declared.branch.Spent.{Spent}
use Rattle.scope_tree.specs.Calls.{Seen}
use Rattle.scope_tree.specs.Trace.{trace}
use Rattle.scope_tree.proofs.Bridge.{opens_append, rows_append}
use Rattle.joined_runs.proofs.MadeRows.{at_below, at_some, place_found}
use Rattle.pull_stepper.specs.Held.{FinishesDevice, closed_as}
use Rattle.hot_swap.specs.declared.swap.Held.{Held}
use Rattle.hot_swap.specs.Swaps.{EndInTurn, EndsAll, IsHolding, held_row}
use Rattle.hot_swap.specs.TwoRows.{NotesSwaps}
use Rattle.hot_swap.specs.TwoRows.NotesSwaps.{first, next, none}
use Rattle.rotate_rules.specs.Pieces.{piece_of}
use Rattle.rotate_rules.specs.Rotation.{TellsFaults}
use Rattle.rotate_files.specs.Rotating.{AreFinished, HasLast, IsRotating}
use Rattle.rotate_files.specs.Told.{file_place, file_told, source_told, unopened_device}
use Rattle.rotate_files.proofs.Swapping.{ends_none, ends_one, the_last, without_middle}
use Rattle.rotate_run.specs.Homes.{IsLeft}
use Rattle.rotate_run.proofs.Lists.{at_behind, at_map, at_split, some_is}
use Rattle.rotate_run.proofs.Places.{ArePlaces}

-- Devices as they were closed.

module _ (places : List Place) (old : DepotTold) (h : How) where
  -- what is asked of a device of the row r before it is closed
  pub record IsClosable (r : ℕ) (p : Place) (d : DeviceTold) : Type 0 where
    pub stands : at places r ≡ Some p
    pub number_is : d.number ≡ length old.made + r
    pub place_is : d.place ≡ p
    pub content_is : d.content ≡ content_at old.files p.path
    pub opens : d.opens ≡ 1
    pub closes : d.closes ≡ 0
    pub closed_well : d.close_faults ≡ 0
    pub told : TellsFaults h d

  tried_so : (opens faults : ℕ) → opens ≡ 1 → nat_lt 0 (opens + faults) ≡ true
  tried_so opens faults e = lt-ltb 0 (opens + faults) (omega (arith, e))

  -- it was closed, and is as it is left
  abbrev pub IsLeftClosed : ℕ → Exit → Bool → DeviceTold → Type 0
  IsLeftClosed r x ok d = IsLeft places old h r d × (d.opens ≡ 1) × (d.exit ≡ Some x) × (ok ≡ nat_eq d.close_faults 0)

  left_as : (r : ℕ) (p : Place) (x : Exit) (ok : Bool) (d : DeviceTold) → IsClosable r p d → IsLeftClosed r x ok (closed_as x ok d)
  left_as r p x true d q = (
    record {
      place = p;
      stands = q.stands;
      number_is = q.number_is;
      place_is = q.place_is;
      content_is = q.content_is;
      rest = record { shut = refl; stage = inr (q.opens, (let c = q.closes in omega (arith, c))) };
      tried = tried_so d.opens d.open_faults q.opens;
      told = record { opens = q.told.opens; reads = q.told.reads; writes = q.told.writes };
    },
    q.opens,
    refl,
    sym (ap (λ n. nat_eq n 0) q.closed_well),
  )
  left_as r p x false d q = (
    record {
      place = p;
      stands = q.stands;
      number_is = q.number_is;
      place_is = q.place_is;
      content_is = q.content_is;
      rest = record { shut = refl; stage = inr (q.opens, (let c = q.closes in omega (arith, c))) };
      tried = tried_so d.opens d.open_faults q.opens;
      told = record { opens = q.told.opens; reads = q.told.reads; writes = q.told.writes };
    },
    q.opens,
    refl,
    refl,
  )

  pub left_closed : (r : ℕ) (p : Place) (x : Exit) (ok : Bool) (d e : DeviceTold) → IsClosable r p d → e ≡ closed_as x ok d → IsLeftClosed r x ok e
  left_closed r p x ok d e q is = subst (IsLeftClosed r x ok) (sym is) (left_as r p x ok d q)

  -- it couldn't be opened
  pub left_unopened : (r : ℕ) (p : Place) (d : DeviceTold) → at places r ≡ Some p → d ≡ unopened_device old r p → h ≡ how.Fault code.Open → IsLeft places old h r d × (d.opens ≡ 0)
  left_unopened r p d stands is e = subst (λ y. IsLeft places old h r y × (y.opens ≡ 0)) (sym is) (
    record {
      place = p;
      stands = stands;
      number_is = refl;
      place_is = refl;
      content_is = refl;
      rest = record { shut = refl; stage = inl (refl, refl, refl, refl) };
      tried = refl;
      told = record { opens = λ l. e; reads = λ l. absurd (omega arith); writes = λ l. absurd (omega arith) };
    },
    refl,
  )

-- What is held is the last of the files, and row 0 is the root's.

latest_none : (xs : List (ℕ × ℕ)) (s : ℕ) → ((r c : ℕ) → IsAmong (r, c) xs → c ≢ s) → latest xs s ≡ []
latest_none [] s h = refl
latest_none (x ∷ xs) s h = ap (λ b. latest xs s ++ (if b then x.0 ∷ [] else [])) (ne_eqb x.1 s (h x.0 x.1 (here xs))) ∙ (append-nil (latest xs s) ∙ latest_none xs s (λ r c m. h r c (there x m)))

-- the scope of each row of a swap was opened
in_last : (E : List What) (s c : ℕ) → c ≡ s → IsAmong (c, 0) (opens E ++ (s, 0) ∷ [])
in_last E s c e = subst (λ y. IsAmong (y, 0) (opens E ++ (s, 0) ∷ [])) (sym e) (among_mid (opens E) [] (s, 0))

in_scope : {E : List What} {h : Option Held} (r c : ℕ) → NotesSwaps E h → IsAmong (r, c) (rows E) → IsAmong (c, 0) (opens E)
in_scope r c none m = absurd (among_nil m)
in_scope r c (first {E = E} k n) m =
    let F : List What = Open k.scope 0 ∷ Acquire k.row k.scope ∷ [] in
    subst (IsAmong (c, 0)) (sym (opens_append E F))
    (⊎_elim
    (λ i. among_left (opens F) (in_scope r c n i))
    (λ i. ⊎_elim (λ e. in_last E k.scope c (ap (λ (y : ℕ × ℕ). y.1) e)) (λ z. absurd (among_nil z)) (among_cons i))
    (among_append (r, c) (rows E) (rows F) (subst (IsAmong (r, c)) (rows_append E F) m)))
in_scope r c (next {E = E} {g = g} k ok n) m =
    let F : List What = Open k.scope 0 ∷ Acquire k.row k.scope ∷ Close g.scope Succeeded ∷ Final g.row Succeeded ok ∷ [] in
    subst (IsAmong (c, 0)) (sym (opens_append E F))
    (⊎_elim
    (λ i. among_left (opens F) (in_scope r c n i))
    (λ i. ⊎_elim (λ e. in_last E k.scope c (ap (λ (y : ℕ × ℕ). y.1) e)) (λ z. absurd (among_nil z)) (among_cons i))
    (among_append (r, c) (rows E) (rows F) (subst (IsAmong (r, c)) (rows_append E F) m)))

module _ {V : Type 0} where
  -- the root's own row is row 0
  root_row : (a : Seen V) (h : Option Held) (swaps : List What) → IsHolding a h → trace a.seat ≡ Acquire 0 0 ∷ swaps → NotesSwaps swaps h → latest (rows (trace a.seat)) 0 ≡ 0 ∷ []
  root_row a h swaps k is n =
      let others : latest (rows swaps) 0 ≡ [] = latest_none (rows swaps) 0 (λ r c m e. let f = k.flat c 0 (subst (λ (E : List What). IsAmong (c, 0) (opens E)) (sym is) (in_scope r c n m)) in let l = f.1 in absurd (omega (arith, l, e))) in
      ap (λ (E : List What). latest (rows E) 0) is ∙ ap (λ l. l ++ 0 ∷ []) others

  only_row : (src p : V) → IsAmong {A = ℕ × V} (0, p) ((0, src) ∷ []) → p ≡ src
  only_row src p m = ⊎_elim (λ e. ap (λ (y : ℕ × V). y.1) e) (λ z. absurd (among_nil z)) (among_cons m)

  last_of_two : (i : ℕ) (src cur p : V) → IsAmong {A = ℕ × V} (suc i, p) ((0, src) ∷ (suc i, cur) ∷ []) → p ≡ cur
  last_of_two i src cur p m = the_last i src cur p [] (λ q z. among_nil z) m

module _ {V : Type 0} (told : V → DeviceTold) (old : DepotTold) (prefix : List ℕ) (n : ℕ) (path : List ℕ) where
  -- of so many files and the one that is read each was closed, the last two as x, and this is what they were
  pub record Spends (x : Exit) (files : ℕ) (given written : List ℕ) (writes read : ℕ) (ended : Bool) (reads : ℕ) (shelf spents : List (Spent V)) : Type 0 where
    pub same : IsPermutation spents shelf
    pub count : length spents ≡ suc files
    pub source : (y : Spent V) → at spents 0 ≡ Some y → (y.row ≡ 0) × (y.exit ≡ x) × (told y.pay ≡ closed_as x y.ok (source_told old path read ended reads))
    pub full : (i : ℕ) (y : Spent V) → suc i < files → at spents (suc i) ≡ Some y → (y.row ≡ suc i) × (y.exit ≡ Succeeded) × (told y.pay ≡ closed_as Succeeded y.ok (file_told old prefix i (piece_of n given i) 0))
    pub last : (i : ℕ) (y : Spent V) → suc i ≡ files → at spents (suc i) ≡ Some y → (y.row ≡ suc i) × (y.exit ≡ x) × (told y.pay ≡ closed_as x y.ok (file_told old prefix i written writes))

  finished_at : (given : List ℕ) (i : ℕ) (xs : List (Spent V)) → AreFinished told old prefix n given i xs → (j : ℕ) (y : Spent V) → at xs j ≡ Some y → (y.row ≡ suc (i + j)) × (y.exit ≡ Succeeded) × (told y.pay ≡ closed_as Succeeded y.ok (file_told old prefix (i + j) (piece_of n given (i + j)) 0))
  finished_at given i [] f j y e = absurd cc
  finished_at given i (x ∷ xs) f zero y e =
      let z : i ≡ i + 0 = omega arith in
      subst (λ (t : Spent V). (t.row ≡ suc (i + 0)) × (t.exit ≡ Succeeded) × (told t.pay ≡ closed_as Succeeded t.ok (file_told old prefix (i + 0) (piece_of n given (i + 0)) 0))) (some_is x y e)
      (subst (λ k. (x.row ≡ suc k) × (x.exit ≡ Succeeded) × (told x.pay ≡ closed_as Succeeded x.ok (file_told old prefix k (piece_of n given k) 0))) z (f.0, f.1, f.2))
  finished_at given i (x ∷ xs) f (suc j) y e =
      let z : suc i + j ≡ i + suc j = omega arith in
      subst (λ k. (y.row ≡ suc k) × (y.exit ≡ Succeeded) × (told y.pay ≡ closed_as Succeeded y.ok (file_told old prefix k (piece_of n given k) 0))) z (finished_at given (suc i) xs f.3 j y e)

  source_open : (d : DeviceTold) (read : ℕ) (ended : Bool) (reads : ℕ) → d ≡ source_told old path read ended reads → d.is_open ≡ true
  source_open d read ended reads e = ap (λ (y : DeviceTold). y.is_open) e

  file_open : (d : DeviceTold) (i : ℕ) (written : List ℕ) (writes : ℕ) → d ≡ file_told old prefix i written writes → d.is_open ≡ true
  file_open d i written writes e = ap (λ (y : DeviceTold). y.is_open) e

  -- the device p of an open row was finished, which told so
  finished_as : (x : Exit) (p : V) (ok : Bool) (pay : V) (d : DeviceTold) → FinishesDevice told p x ok pay → told p ≡ d → (told p).is_open ≡ true → told pay ≡ closed_as x ok d
  finished_as x p ok pay d f is open_so = f.closed open_so ∙ ap (λ y. closed_as x ok y) is

  module _ (x : Exit) (a b : Seen V) (h : Option Held) (given written : List ℕ) (writes : ℕ) (src : V) (read : ℕ) (ended : Bool) (reads : ℕ) (device : told src ≡ source_told old path read ended reads) (root : latest (rows (trace a.seat)) 0 ≡ 0 ∷ []) (e : EndsAll (FinishesDevice told) a h x b) where
    -- no file was there
    spends_none : h ≡ None → a.seat.opened ≡ (0, src) ∷ [] → a.shelf ≡ [] → (spents : List (Spent V)) × Spends x 0 given written writes read ended reads b.shelf spents
    spends_none is opened bare =
        let turn : EndInTurn (FinishesDevice told) x (0 ∷ []) a.seat.opened e.ended b.seat.opened = subst (λ T. EndInTurn (FinishesDevice told) x T a.seat.opened e.ended b.seat.opened) (ap (λ o. held_row o ++ latest (rows (trace a.seat)) 0) is ∙ root) e.rows in
        let t = ends_one (FinishesDevice told) x 0 a.seat.opened b.seat.opened e.ended turn in
        let y = t.0 in
        let p = t.4.0 in
        let p_is : p ≡ src = only_row src p (subst (λ l. IsAmong (0, p) l) opened t.4.1) in
        let p_told : told p ≡ source_told old path read ended reads = ap told p_is ∙ device in
        let shelf : b.shelf ≡ y ∷ [] = e.shelf ∙ (ap (λ l. l ++ e.ended) bare ∙ t.1) in (
          y ∷ [],
          record {
            same = subst (λ l. IsPermutation (y ∷ []) l) (sym shelf) (IsPermutation-refl (y ∷ []));
            count = refl;
            source = λ z is_z.
                subst (λ (s : Spent V). (s.row ≡ 0) × (s.exit ≡ x) × (told s.pay ≡ closed_as x s.ok (source_told old path read ended reads))) (some_is y z is_z)
                (t.2, t.3, finished_as x p y.ok y.pay (source_told old path read ended reads) t.4.2 p_told (source_open (told p) read ended reads p_told));
            full = λ i z l is_z. absurd (omega arith);
            last = λ i z l is_z. absurd (omega arith);
          },
        )

    -- the last of the files was held
    spends_some : (f : ℕ) (k : Held) (cur : V) → h ≡ Some k → k.row ≡ suc f → a.seat.opened ≡ (0, src) ∷ (suc f, cur) ∷ [] → told cur ≡ file_told old prefix f written writes → length a.shelf ≡ f → AreFinished told old prefix n given 0 a.shelf
        → (spents : List (Spent V)) × Spends x (suc f) given written writes read ended reads b.shelf spents
    spends_some f k cur is row opened file size finished =
        let rows_are : held_row h ++ latest (rows (trace a.seat)) 0 ≡ suc f ∷ 0 ∷ [] = ap (λ o. held_row o ++ latest (rows (trace a.seat)) 0) is ∙ (ap (λ r. r ∷ latest (rows (trace a.seat)) 0) row ∙ ap (λ l. suc f ∷ l) root) in
        let turn : EndInTurn (FinishesDevice told) x (suc f ∷ 0 ∷ []) a.seat.opened e.ended b.seat.opened = subst (λ T. EndInTurn (FinishesDevice told) x T a.seat.opened e.ended b.seat.opened) rows_are e.rows in
        let turn_so : EndInTurn (FinishesDevice told) x (suc f ∷ 0 ∷ []) ((0, src) ∷ (suc f, cur) ∷ []) e.ended b.seat.opened = subst (λ l. EndInTurn (FinishesDevice told) x (suc f ∷ 0 ∷ []) l e.ended b.seat.opened) opened turn in
        two_ended f cur e.ended e.shelf file size finished turn_so
      where
        one_behind : (s : List (Spent V)) (y z : Spent V) → IsPermutation (z ∷ (s ++ y ∷ [])) (s ++ y ∷ z ∷ [])
        one_behind s y z = subst (λ l. IsPermutation (z ∷ (s ++ y ∷ [])) l) (append_assoc s (y ∷ []) (z ∷ [])) (IsPermutation-append_comm (z ∷ []) (s ++ y ∷ []))

        two_ended : (f : ℕ) (cur : V) (done : List (Spent V)) → b.shelf ≡ a.shelf ++ done → told cur ≡ file_told old prefix f written writes → length a.shelf ≡ f → AreFinished told old prefix n given 0 a.shelf
            → EndInTurn (FinishesDevice told) x (suc f ∷ 0 ∷ []) ((0, src) ∷ (suc f, cur) ∷ []) done b.seat.opened → (spents : List (Spent V)) × Spends x (suc f) given written writes read ended reads b.shelf spents
        two_ended f cur [] shelf file size finished turn = absurd turn
        two_ended f cur (y ∷ ys) shelf file size finished turn =
            let rest : EndInTurn (FinishesDevice told) x (0 ∷ []) ((0, src) ∷ []) ys b.seat.opened = subst (λ l. EndInTurn (FinishesDevice told) x (0 ∷ []) l ys b.seat.opened) (without_middle f src cur []) turn.3 in
            let t = ends_one (FinishesDevice told) x 0 ((0, src) ∷ []) b.seat.opened ys rest in
            let z = t.0 in
            let p = t.4.0 in
            let p_told : told p ≡ source_told old path read ended reads = ap told (only_row src p t.4.1) ∙ device in
            let c = turn.2.0 in
            let c_told : told c ≡ file_told old prefix f written writes = ap told (last_of_two f src cur c turn.2.1) ∙ file in
            let all : b.shelf ≡ a.shelf ++ y ∷ z ∷ [] = shelf ∙ ap (λ l. a.shelf ++ y ∷ l) t.1 in
            let whole = length-append a.shelf (y ∷ []) in (
              z ∷ (a.shelf ++ y ∷ []),
              record {
                same = subst (λ l. IsPermutation (z ∷ (a.shelf ++ y ∷ [])) l) (sym all) (one_behind a.shelf y z);
                count = omega (arith, whole, size);
                source = λ u is_u.
                    subst (λ (s : Spent V). (s.row ≡ 0) × (s.exit ≡ x) × (told s.pay ≡ closed_as x s.ok (source_told old path read ended reads))) (some_is z u is_u)
                    (t.2, t.3, finished_as x p z.ok z.pay (source_told old path read ended reads) t.4.2 p_told (source_open (told p) read ended reads p_told));
                full = λ i u l is_u.
                    ⊎_elim
                    (λ in_front.
                    let q : 0 + i ≡ i = omega arith in
                    subst (λ j. (u.row ≡ suc j) × (u.exit ≡ Succeeded) × (told u.pay ≡ closed_as Succeeded u.ok (file_told old prefix j (piece_of n given j) 0))) q (finished_at given 0 a.shelf finished i u in_front))
                    (λ behind. let j = behind.1 in absurd (omega (arith, j, size, l)))
                    (at_split a.shelf (y ∷ []) i u is_u);
                last = λ i u l is_u.
                    let i_is : f ≡ i = omega (arith, l) in
                    ⊎_elim
                    (λ in_front. let j = at_below a.shelf i u in_front in absurd (omega (arith, j, size, l)))
                    (λ behind.
                    let at_0 : behind.0 ≡ 0 = (let j = behind.1 in omega (arith, j, size, l)) in
                    let u_is : y ≡ u = some_is y u (sym (ap (λ k. at (y ∷ []) k) at_0) ∙ behind.2) in
                    subst (λ j. (u.row ≡ suc j) × (u.exit ≡ x) × (told u.pay ≡ closed_as x u.ok (file_told old prefix j written writes))) i_is
                    (subst (λ (s : Spent V). (s.row ≡ suc f) × (s.exit ≡ x) × (told s.pay ≡ closed_as x s.ok (file_told old prefix f written writes))) u_is
                    (turn.0, turn.1, finished_as x c y.ok y.pay (file_told old prefix f written writes) turn.2.2 c_told (file_open (told c) f written writes c_told))))
                    (at_split a.shelf (y ∷ []) i u is_u);
              },
            )

    spends_last : (files : ℕ) → HasLast told old prefix n a h files written writes src → AreFinished told old prefix n given 0 a.shelf → (spents : List (Spent V)) × Spends x files given written writes read ended reads b.shelf spents
    spends_last zero l finished = spends_none l.0 l.1 l.2
    spends_last (suc f) l finished = spends_some f l.0 l.1 l.2 l.3 l.4 l.5 l.6 finished

  -- what a rotation left on its shelf
  pub spends : (x : Exit) (a b : Seen V) (h : Option Held) (files : ℕ) (given written : List ℕ) (writes : ℕ) (src : V) (read : ℕ) (ended : Bool) (reads : ℕ) → told src ≡ source_told old path read ended reads → IsRotating told old prefix n a h files given written writes src → EndsAll (FinishesDevice told) a h x b
      → (spents : List (Spent V)) × Spends x files given written writes read ended reads b.shelf spents
  spends x a b h files given written writes src read ended reads device q e = spends_last x a b h given written writes src read ended reads device (root_row a h q.swaps q.holding q.noted q.swapped) e files q.last q.finished
