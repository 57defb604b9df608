-- The devices of all rows once the ledger is there, and those that are left.
use Rattle.std.proofs.Common.{◌≡◌, ℕ, ◌+◌, ◌-◌, ◌<◌, ◌≤◌, nat_eq, List, [], ◌∷◌, ◌++◌, inl, inr, map, flat_map, length, Option, Some, None, IfSome, Result, Ok, Err, refl, sym, ◌∙◌, ap, subst, ⊎_elim, arith, append-nil, append_assoc}
use Rattle.std.proofs.lemmas.Bool.{cases_lt}
use Rattle.std.proofs.lemmas.List.{map-append}
use Rattle.std.proofs.lemmas.List.Sorted.{IsPermutation-append, IsPermutation-append_right, IsPermutation-trans}
use Rattle.std.specs.List.{AllByRecursion, IsDistinct, range_with_len}
use Rattle.std.specs.List.Sorted.{IsPermutation}
use Rattle.channel_bounded.specs.Ends.{ReceiverSeen}
use Rattle.chunk_core.specs.Lists.{IsAmong}
use Rattle.chunk_core.specs.Lists.IsAmong.{here, there}
use Rattle.chunk_core.specs.Outcomes.{End}
use Rattle.chunk_core.specs.Tables.{Values}
use Rattle.chunk_core.specs.declared.code.How.{How}
use Rattle.chunk_core.proofs.Each.{among_each, each_among, each_append, each_permuted}
use Rattle.chunk_core.proofs.Members.{among_nil}
use Rattle.device_port.specs.Device.{Place, DeviceTold}
use Rattle.device_port.specs.Depot.{DepotTold}
use Rattle.join_tale.specs.Tales as tales
use Rattle.join_tale.specs.Tales.{Tale}
use Rattle.join_tree.specs.Settled.{Settles}
use Rattle.outer_tables.specs.declared.not_read.NotRead.{NotRead}
use Rattle.pipeline_desc.specs.Meant.{PlanMeant, stream_limit}
use Rattle.pipeline_desc.specs.Places.{first_row, outer_rows}
use Rattle.pipeline_desc.specs.Sound.{IsSoundPlan}
use Rattle.pipeline_desc.specs.declared.listing.ListSpec.{ListSpec}
use Rattle.pull_stepper.specs.Held.{closed_as}
use Rattle.pull_stepper.specs.Sites.{blank}
use Rattle.pull_turns.specs.Piping.{StateMeaning}
use Rattle.res_ledger.specs.Order.{firsts}
use Rattle.res_ledger.specs.declared.event.Event.{Event}
use Rattle.res_ledger.proofs.Noted.{flat_found, flat_holds, only}
use Rattle.res_ledger.proofs.Permuted.{among_range, range_among, range_distinct}
use Rattle.row_seat.specs.declared.view.View.{View}
use Rattle.run_rules.specs.Devices.{KeepsToWhatIsThere}
use Rattle.run_rules.specs.Facts.{at}
use Rattle.scope_tree.specs.Calls.{Seen}
use Rattle.scope_tree.specs.Released.{said}
use Rattle.scope_tree.specs.declared.branch.Spent.{Spent}
use Rattle.stream_parts.specs.Retire.{AreWrittenAlone, Exchanges, MayReturnAll, Returns}
use Rattle.stream_parts.proofs.Exchanged.{exchanges_then, may_permuted}
use Rattle.job_runs.proofs.DevicesBack.{come_back}
use Rattle.job_runs.proofs.PartedRows.{same_row}
use Rattle.job_runs.specs.Rows.{EndsAs}
use Rattle.joined_runs.specs.Devices.{MadeComeBack}
use Rattle.joined_runs.proofs.MadeRows.{at_below, at_some}
use Rattle.joined_runs.proofs.OuterFaults.{if_there}
use Rattle.collected.specs.Collected.{IsCollected, all_left}
use Rattle.dealt_streams.specs.Moves.{Move, Tried, dealt_of, lines_of, opened_in, opened_of, tried_in, tried_of}
use Rattle.dealt_streams.specs.Moves.Move.{Read, Opened, Gave, Dealt}
use Rattle.dealt_streams.specs.Parts.{Part, fate_of}
use Rattle.dealt_streams.specs.Standing.{StandsList, list_end}
use Rattle.dealt_streams.specs.Standing.StandsList.{unopened, failed, lacking, held}
use Rattle.dealt_streams.specs.declared.leftover.Leftover.{Leftover}
use Rattle.collected.proofs.AllMoved.{all_moved, held_apart}
use Rattle.collected.proofs.Chosen.{flat_chosen}
use Rattle.collected.proofs.DealtRows.{HaveHome, Leaves}
use Rattle.collected.proofs.HeldRows.{IsHeld, IsListHeld, IsRow, in_order, list_held, opens_at, outer_held, row_below, table_held, without}
use Rattle.collected.proofs.HeldRows.IsOuter.{table, list}
use Rattle.collected.proofs.MovedRows.{AllMoved, AreInOrder, Homes, IsAhead, held_rows, rows_after, rows_in}
use Rattle.collected.proofs.OwnRows.{WasNeverOpen}
use Rattle.collected.proofs.PlanPlaces.{plan_rows, rows_grow}
use Rattle.collected.proofs.Rested.{Rested, all_of, arranged, left_are, lent_of, named_is, named_none, own_of}
use Rattle.collected.proofs.Rows.{bare_row}
use Rattle.collected.proofs.ShelfHomes.{all_shelved, closed_home, home_on}
use Rattle.collected.proofs.Shelves.{all_there, below, guests, once, shelf}
use Rattle.collected.proofs.Standing.{come_begun, home_of, leaves, made, map_at, number_in, stays_of, zs, zs_apart}
use Rattle.collected.proofs.TableEnds.{table_ended}
use Rattle.collected.proofs.TableHomes.{IsClosedOf, closed_ends}

flat_same : {A B : Type 0} (f : ℕ → List B) (g : A → List B) (name : A → ℕ) (zs : List A) → ((z : A) → IsAmong z zs → f (name z) ≡ g z) → flat_map f (map name zs) ≡ flat_map g zs
flat_same f g name [] h = refl
flat_same f g name (z ∷ zs) h = ap (λ l. l ++ flat_map f (map name zs)) (h z (here zs)) ∙ ap (λ l. g z ++ l) (flat_same f g name zs (λ y m. h y (there z m)))

module _ {S V F : Type 0} (view : S → View V) (told : V → DeviceTold) (P : Values → StateMeaning F) (p : PlanMeant) (limits : IsSoundPlan p) (d0 now : DepotTold) (outer : How) (b : Seen V) (left : List (Leftover V)) (receiver : ReceiverSeen) (tale : Tale) (h : IsCollected view told P p d0 now outer b left receiver tale)
    (L : List Event) (s : Settles p.max_open (stream_limit p) b h.progress L) where
  abbrev pub lines' : List (List ℕ)
  lines' = lines_of h.moves

  abbrev pub rows : List Place
  rows = plan_rows p lines'

  abbrev pub IsRow' : ℕ → V → Type 0
  IsRow' = IsRow view told P p limits d0 now outer b left receiver tale h

  abbrev zs' : List (Rested V)
  zs' = zs view told P p d0 now outer b left receiver tale h

  abbrev homes : ℕ → ℕ → DeviceTold
  homes = home_of view told P p d0 now outer b left receiver tale h

  abbrev stays : ℕ → List DeviceTold
  stays = stays_of view told P p d0 now outer b left receiver tale h

  abbrev pub shelf' : List (Spent V)
  shelf' = shelf view told P p limits d0 now outer b left receiver tale h L s

  -- The outer stream's rows.

  -- the row of each device that was opened stands there, with the device as it was closed
  pub found : (r : ℕ) (d : V) → IsRow' r d → (x : Spent V) × IsAmong x shelf' × (x.row ≡ r) × (told x.pay ≡ closed_as x.exit x.ok (told d))
  found r d i =
      let q = outer_held i in
      let x = table_ended told p.max_open (stream_limit p) b h.progress L h.main s (guests view told P p limits d0 now outer b left receiver tale h L s) r q.noted.0 d q.noted.1 q.left q.open'.is_open in
      let low = row_below view told P p limits d0 now outer b left receiver tale h L s r d i in
      (x.0, all_there view told P p limits d0 now outer b left receiver tale h L s x.0 x.1 (let e = x.2 in omega (arith, e, low)), x.2, x.3)

  once' : IsDistinct nat_eq (firsts (said shelf'))
  once' = once view told P p limits d0 now outer b left receiver tale h L s

  -- the devices that ended there
  abbrev pub ended : ℕ → DeviceTold
  ended = closed_home (λ (x : Spent V). told x.pay) shelf' (λ r. blank)

  ended_on : (x : Spent V) → IsAmong x shelf' → ended x.row ≡ told x.pay
  ended_on x m = home_on (λ (y : Spent V). told y.pay) shelf' (λ r. blank) once' x m

  ended_is : (r : ℕ) (d : V) → IsRow' r d → IsClosedOf (told d) (ended r)
  ended_is r d i = let x = found r d i in record { exit = x.0.exit; ok = x.0.ok; is = ap ended (sym x.2) ∙ (ended_on x.0 x.1 ∙ x.3) }

  openings_few : length (opened_of h.moves) ≤ 1
  openings_few = by_list p.list refl
    where
      none_opened : (xs : List (Result V NotRead)) → ((r : Result V NotRead) → IsAmong r xs → ⊥) → length xs ≤ 1
      none_opened [] n = omega arith
      none_opened (x ∷ xs) n = absurd (n x (here xs))

      of_list : (l : ListSpec) (e : End) → StandsList p told l (opened_of h.moves) lines' e b → length (opened_of h.moves) ≤ 1
      of_list l e (unopened is none cut) = let c = ap (λ (xs : List (Result V NotRead)). length xs) is in omega (arith, c)
      of_list l e (failed f is none end) = let c = ap (λ (xs : List (Result V NotRead)). length xs) is in omega (arith, c)
      of_list l e (lacking is none cut) = let c = ap (λ (xs : List (Result V NotRead)). length xs) is in omega (arith, c)
      of_list l e (held first d faults is stands was calm lists in_time noted within) = let c = ap (λ (xs : List (Result V NotRead)). length xs) is in omega (arith, c)

      by_list : (o : Option ListSpec) → p.list ≡ o → length (opened_of h.moves) ≤ 1
      by_list None e = none_opened (opened_of h.moves) (λ r m. let x = opens_at told p [] d0 h.moves now h.moved r m in let f : Some x.0 ≡ None = sym x.1 ∙ e in cc)
      by_list (Some l) e = of_list l (list_end p h.stands.lack (Some outer)) (if_there (λ q. StandsList p told q (opened_of h.moves) lines' (list_end p h.stands.lack (Some outer)) b) p.list l e h.stands.list)

  pub order' : AreInOrder (length p.tables) rows 0 (tried_of h.moves)
  order' = in_order view told P p limits d0 now outer b left receiver tale h

  -- What became of all devices.

  pub moved : AllMoved told p lines' d0.files homes stays ended 0 0 0 h.moves d0 now
  moved =
      all_moved told p lines' (without view told P p limits d0 now outer b left receiver tale h) d0.files homes stays ended [] 0 0 0 h.moves d0 now refl refl refl order' (let l = openings_few in omega (arith, l))
      (λ x m i d e. ended_is (x.row + i) d (table x m i e refl (table_held view told P p limits d0 now outer b left receiver tale h x m i d e)))
      (λ first m. let d = list_held view told P p limits d0 now outer b left receiver tale h first m in (d.0, d.1.faults, d.1.was, ended_is (length p.tables) d.0 (list first m refl d.1)))
      (λ i x e. let z : i ≡ 0 + i = omega arith in subst (λ k. Leaves told p lines' d0.files homes stays k x) z (leaves view told P p d0 now outer b left receiver tale h i x (ap (λ l. at l i) (sym h.parts_are) ∙ e)))
      h.moved

  -- the devices of all rows
  abbrev pub W : ℕ → DeviceTold
  W = moved.own

  pub homes' : Homes told p lines' d0.files homes stays ended 0 0 0 h.moves W
  homes' = moved.homes_are

  -- that of a row of the outer stream was closed
  pub row_ended : (r : ℕ) (d : V) → IsRow' r d → W r ≡ ended r
  row_ended r d (table x m i e is q) = subst (λ k. W k ≡ ended k) (sym is) ((homes'.tried x m).stands i (at_below x.devices i d e))
  row_ended r d (list first m is q) = subst (λ k. W k ≡ ended k) (sym is) (homes'.list (Ok first) m)

  pub row_closed : (r : ℕ) (d : V) → IsRow' r d → IsClosedOf (told d) (W r)
  row_closed r d i = subst (IsClosedOf (told d)) (sym (row_ended r d i)) (ended_is r d i)

  -- the Final of each row that stands there is that of its device
  pub lent_ends : (x : Spent V) → IsAmong x shelf' → EndsAs W x
  lent_ends x m =
      let d = below view told P p limits d0 now outer b left receiver tale h L s x m in
      let y = found x.row d.0 d.1 in
      let same : y.0 ≡ x = same_row shelf' once' y.0 x y.1 m y.2 in
      let q = outer_held d.1 in
      let is : W x.row ≡ closed_as x.exit x.ok (told d.0) = row_ended x.row d.0 d.1 ∙ (ended_on x m ∙ subst (λ (z : Spent V). told z.pay ≡ closed_as z.exit z.ok (told d.0)) same y.3) in
      subst (λ (e : DeviceTold). (e.exit ≡ Some x.exit) × (x.ok ≡ nat_eq e.close_faults 0)) (sym is) (closed_ends q.files q.number q.path (told d.0) x.exit x.ok q.open')

  -- The streams' rows.

  -- the rows of a stream that was dealt with have its home, or nothing was done there
  pub part_home : (k : ℕ) (x : Part V F) → at h.parts k ≡ Some x → HaveHome told p lines' d0.files homes stays k x W
  part_home k x e = let z : 0 + k ≡ k = omega arith in subst (λ j. HaveHome told p lines' d0.files homes stays j x W) z (homes'.dealt k x (ap (λ l. at l k) h.parts_are ∙ e))

  -- no device was made for a row that is ahead
  pub ahead_bare : (r : ℕ) → IsAhead told p lines' d0.files homes stays ended (rows_after 0 (tried_of h.moves)) (length (opened_of h.moves)) (length h.parts) r → W r ≡ bare_row rows d0.files r
  ahead_bare r a =
      let o : length (opened_of h.moves) ≡ 0 + length (opened_of h.moves) = omega arith in
      let c = ap (λ (l : List (Part V F)). length l) h.parts_are in
      let k : length h.parts ≡ 0 + length (dealt_of h.moves) = omega (arith, c) in
      homes'.behind r (subst (λ n. IsAhead told p lines' d0.files homes stays ended (rows_after 0 (tried_of h.moves)) n (0 + length (dealt_of h.moves)) r) o
      (subst (λ n. IsAhead told p lines' d0.files homes stays ended (rows_after 0 (tried_of h.moves)) (length (opened_of h.moves)) n r) k a))

  pub behind_bare : (k r : ℕ) → length h.parts ≤ k → first_row p k ≤ r → W r ≡ bare_row rows d0.files r
  behind_bare k r l low =
      let g = rows_grow p (length h.parts) (k - length h.parts) in
      let y : length h.parts + (k - length h.parts) ≡ k = omega (arith, l) in
      let e = ap (first_row p) y in
      ahead_bare r (inr (inr (omega (arith, g, e, low))))

  -- All that is left.

  number_below : (k : ℕ) → IsAmong k (map (λ z. z.number) zs') → IsAmong k (range_with_len 0 (length h.parts))
  number_below k m =
      let fate : (f : tales.Fate) × (at tale.fates k ≡ Some f) = ⊎_elim (λ c. (tales.Fate.Begun, come_begun view told P p d0 now outer b left receiver tale h k c)) (λ u. (tales.Fate.Unmade, u)) (number_in view told P p d0 now outer b left receiver tale h k m) in
      let x = map_at fate_of h.parts k fate.0 (ap (λ l. at l k) (sym h.fates_are) ∙ fate.1) in
      let l = at_below h.parts k x.0 x.1 in
      range_among 0 (length h.parts) k (omega arith) (omega (arith, l))

  -- the streams' own devices, in the order in which they came back
  stays_arranged : IsPermutation (flat_map stays (range_with_len 0 (length (dealt_of h.moves)))) (flat_map (own_of told) zs')
  stays_arranged =
      subst (λ n. IsPermutation (flat_map stays (range_with_len 0 n)) (flat_map (own_of told) zs')) (ap (λ (l : List (Part V F)). length l) (sym h.parts_are))
      (subst (λ l. IsPermutation (flat_map stays (range_with_len 0 (length h.parts))) l)
      (flat_same stays (own_of told) (λ (z : Rested V). z.number) zs' (λ z m. ap (own_of told) (named_is zs' z (zs_apart view told P p d0 now outer b left receiver tale h) m)))
      (flat_chosen stays (range_with_len 0 (length h.parts)) (map (λ z. z.number) zs') (range_distinct 0 (length h.parts)) (zs_apart view told P p d0 now outer b left receiver tale h) number_below (λ k m n. ap (own_of told) (named_none zs' k n))))

  abbrev held' : List ℕ
  held' = held_rows told p lines' d0.files homes stays ended h.moves

  row_held : (r : ℕ) (d : V) → IsRow' r d → IsAmong r held'
  row_held r d (table x m i e is q) =
      let f = flat_found tried_in h.moves x m in
      flat_holds (rows_in told p lines' d0.files homes stays ended) f.0 h.moves r f.1 (of_move f.0 f.2)
    where
      of_move : (m : Move V F) → IsAmong x (tried_in m) → IsAmong r (rows_in told p lines' d0.files homes stays ended m)
      of_move (Read y) j =
          let l = at_below x.devices i d e in
          subst (λ (z : Tried V). IsAmong r (range_with_len z.row (length z.devices))) (only x y j) (range_among x.row (length x.devices) r (omega (arith, is)) (omega (arith, is, l)))
      of_move (Opened y) j = absurd (among_nil j)
      of_move (Gave line) j = absurd (among_nil j)
      of_move (Dealt y) j = absurd (among_nil j)
  row_held r d (list first m is q) =
      let f = flat_found opened_in h.moves (Ok first) m in
      flat_holds (rows_in told p lines' d0.files homes stays ended) f.0 h.moves r f.1 (of_move f.0 f.2)
    where
      of_move : (m : Move V F) → IsAmong (Ok first) (opened_in m) → IsAmong r (rows_in told p lines' d0.files homes stays ended m)
      of_move (Read y) j = absurd (among_nil j)
      of_move (Opened y) j = subst (λ z. IsAmong r (rows_in told p lines' d0.files homes stays ended {F = F} (Opened z))) (only (Ok first) y j) (subst (λ k. IsAmong k (length p.tables ∷ [])) (sym is) (here []))
      of_move (Gave line) j = absurd (among_nil j)
      of_move (Dealt y) j = absurd (among_nil j)

  held_row : (r : ℕ) → IsAmong r held' → (d : V) × IsRow' r d
  held_row r m =
      let f = flat_found (rows_in told p lines' d0.files homes stays ended) h.moves r m in
      of_move f.0 f.1 f.2
    where
      of_move : (m : Move V F) → IsAmong m h.moves → IsAmong r (rows_in told p lines' d0.files homes stays ended m) → (d : V) × IsRow' r d
      of_move (Read x) i j =
          let a = among_range x.row (length x.devices) r j in
          let low = a.0 in
          let high = a.1 in
          let z : r ≡ x.row + (r - x.row) = omega (arith, low) in
          let d = at_some x.devices (r - x.row) (omega (arith, low, high)) in
          let mine = flat_holds tried_in (Read x) h.moves x i (here []) in
          (d.0, table x mine (r - x.row) d.1 z (subst (λ k. IsHeld told b k d.0) (sym z) (table_held view told P p limits d0 now outer b left receiver tale h x mine (r - x.row) d.0 d.1)))
      of_move (Opened (Ok first)) i j =
          let mine = flat_holds opened_in (Opened (Ok first)) h.moves (Ok first) i (here []) in
          let d = list_held view told P p limits d0 now outer b left receiver tale h first mine in
          let is = only r (length p.tables) j in
          (d.0, list first mine is (subst (λ k. IsListHeld told b k first d.0) (sym is) d.1))
      of_move (Opened (Err w)) i j = absurd (among_nil j)
      of_move (Gave line) i j = absurd (among_nil j)
      of_move (Dealt x) i j = absurd (among_nil j)

  -- the devices of the outer stream's rows, in the order in which they stand
  held_arranged : IsPermutation (map ended held') (map (λ x. told x.pay) shelf')
  held_arranged =
      all_shelved told ended held' shelf' (held_apart told p lines' (without view told P p limits d0 now outer b left receiver tale h) d0.files homes stays ended 0 h.moves order' openings_few) once'
      (λ r m. let d = held_row r m in let x = found r d.0 d.1 in (x.0, x.1, x.2))
      (λ x m. let d = below view told P p limits d0 now outer b left receiver tale h L s x m in (row_held x.row d.0 d.1, ended_on x m))

  -- all that is left
  pub all_arranged : IsPermutation moved.left (all_left told b.shelf left)
  all_arranged =
      let main = map (λ (x : Spent V). told x.pay) b.shelf in
      let lents = map (λ (x : Spent V). told x.pay) (lent_of told zs') in
      let mine = flat_map (own_of told) zs' in
      IsPermutation-trans moved.left (map ended held' ++ flat_map stays (range_with_len 0 (length (dealt_of h.moves)))) (all_left told b.shelf left) moved.arranged
      (IsPermutation-trans (map ended held' ++ flat_map stays (range_with_len 0 (length (dealt_of h.moves)))) (map (λ x. told x.pay) shelf' ++ mine) (all_left told b.shelf left)
      (IsPermutation-append (map ended held') (map (λ x. told x.pay) shelf') (flat_map stays (range_with_len 0 (length (dealt_of h.moves)))) mine held_arranged stays_arranged)
      (subst (λ l. IsPermutation (map (λ x. told x.pay) (b.shelf ++ lent_of told zs') ++ mine) (main ++ l)) (sym (left_are view told P p h.parts h.progress receiver tale (made view told P p d0 now outer b left receiver tale h) left h.streams.gone h.streams.kept))
      (subst (λ l. IsPermutation (l ++ mine) (main ++ flat_map (all_of told) zs')) (sym (map-append (λ (x : Spent V). told x.pay) b.shelf (lent_of told zs')))
      (subst (λ l. IsPermutation l (main ++ flat_map (all_of told) zs')) (sym (append_assoc main lents mine))
      (IsPermutation-append_right main (lents ++ mine) (flat_map (all_of told) zs') (arranged told zs'))))))

  -- each row was ahead
  everywhere : (r : ℕ) → IsAhead told p lines' d0.files homes stays ended 0 0 0 r
  everywhere r =
      ⊎_elim
      (λ (l : r < length p.tables). inl (omega arith, l))
      (λ (l : length p.tables ≤ r). ⊎_elim (λ (u : r < outer_rows p). inr (inl (omega (arith, l), u))) (λ (u : outer_rows p ≤ r). inr (inr (let z : first_row p 0 ≡ outer_rows p = omega arith in omega (arith, u, z)))) (cases_lt r (outer_rows p)))
      (cases_lt r (length p.tables))

  -- all that is left may go back
  pub may_go : MayReturnAll now (all_left told b.shelf left)
  may_go = may_permuted now moved.left (all_left told b.shelf left) all_arranged moved.rows.may

  -- and once it went back all devices were made and came back
  pub came : AreWrittenAlone rows → AllByRecursion KeepsToWhatIsThere (all_left told b.shelf left) → (last : DepotTold) → Returns now last (all_left told b.shelf left) → MadeComeBack d0 last rows W
  came alone lawful last again =
      let m = moved.rows in
      let places = map (λ r. (W r).place) m.rows in
      let exchange = exchanges_then d0 now last places [] moved.gone again.back m.exchanges again.exchanges in
      come_back rows W alone d0 last m.rows (moved.gone ++ again.back)
      (subst (λ ps. Exchanges d0 last ps (moved.gone ++ again.back)) (append-nil places) exchange)
      m.apart
      (IsPermutation-trans (map W m.rows) (moved.gone ++ moved.left) (moved.gone ++ again.back) m.each
      (IsPermutation-append_right moved.gone moved.left again.back (IsPermutation-trans moved.left (all_left told b.shelf left) again.back all_arranged again.each)))
      m.devices
      (λ r p e n. m.others r p (everywhere r) e n)
      (each_append KeepsToWhatIsThere moved.gone again.back (each_among KeepsToWhatIsThere moved.gone (λ d i. unopened_there d (among_each WasNeverOpen d moved.gone m.unopened i))) (each_permuted KeepsToWhatIsThere (all_left told b.shelf left) again.back again.each lawful))
    where
      unread : (content : Option (List ℕ)) (n : ℕ) → n ≡ 0 → IfSome content (λ bytes. n ≤ length bytes)
      unread None n e = tt
      unread (Some bytes) n e = omega (arith, e)

      unopened_there : (d : DeviceTold) → WasNeverOpen d → KeepsToWhatIsThere d
      unopened_there d u = ((λ m q. u.opens), unread d.content d.at u.at)
