-- The devices of a rotation's rows go back.
use Rattle.std.proofs.Common.{◌≡◌, ◌⊎◌, ℕ, zero, suc, ◌+◌, ◌<◌, ◌≤◌, true, nat_eq, List, [], ◌∷◌, ◌++◌, drop, length, map, Option, Some, None, IfSome, option_map, inl, inr, refl, sym, ap, ◌∙◌, subst, ⊎_elim, arith, length-append, append-nil}
use Rattle.std.proofs.Math.Seq.{drop-append_seam}
use Rattle.std.proofs.lemmas.Bool.{cases_lt}
use Rattle.std.proofs.lemmas.List.{length-map}
use Rattle.std.proofs.lemmas.List.FromFn.{length-range_with_len}
use Rattle.std.proofs.lemmas.List.Sorted.{IsPermutation-append_left, IsPermutation-map, IsPermutation-sym, IsPermutation-trans}
use Rattle.std.specs.List.{AllByRecursion, IsDistinct, range_with_len}
use Rattle.std.specs.List.Sorted.{IsPermutation}
use Rattle.chunk_core.specs.Lists.{IsAmong}
use Rattle.chunk_core.specs.declared.code.How.{How}
use Rattle.chunk_core.proofs.Each.{among_permuted, each_permuted}
use Rattle.device_port.specs.Device.{DeviceTold, Place, faults_of, to_read}
use Rattle.device_port.specs.Depot.{DepotTold, Files, IsUnknown, MayReturn, device_numbers, fresh}
use Rattle.res_ledger.proofs.Mapped.{among_map}
use Rattle.res_ledger.proofs.Permuted.{among_range, range_among, range_distinct}
use Rattle.run_rules.specs.Devices.{KeepsToWhatIsThere, came_back}
use Rattle.run_rules.specs.Facts.{at, first_numbers}
use Rattle.run_rules.specs.Homes.{IsUntouched, is_tried}
use Rattle.scope_tree.specs.declared.branch.Spent.{Spent}
use Rattle.stream_parts.specs.Retire.{Exchanges, MayReturnAll, Returns, devices_of}
use Rattle.stream_parts.proofs.Exchanged.{exchanges_then, files_same, may_permuted}
use Rattle.joined_runs.specs.Devices.{AreMade, IsReturned, IsUnmadeAt, MadeComeBack}
use Rattle.joined_runs.proofs.MadeRows.{at_below, at_some, map_twice, place_found}
use Rattle.job_runs.proofs.Closing.{ShelfTells}
use Rattle.job_runs.proofs.DevicesBack.{come_back}
use Rattle.rotate_rules.specs.Rotation.{TellsFaults}
use Rattle.rotate_files.specs.Told.{HasMade, file_place, having_made}
use Rattle.rotate_run.specs.Homes.{AreLeft, AreShelved, IsLeft, devices_by_row, home_of, unmade_at}
use Rattle.rotate_run.proofs.Lists.{at_before, at_map, at_none, at_range, at_split, each_at, same_lists, some_is, stands_at}
use Rattle.rotate_run.proofs.Places.{ArePlaces, first_places}

unwritten : (f : Option Files) → IfSome (option_map (λ g. let none : List ℕ = [] in none) f) (λ w. w ≡ [])
unwritten None = tt
unwritten (Some f) = refl

fresh_untouched : (depot : DepotTold) (place : Place) → IsUntouched (fresh depot place)
fresh_untouched depot place = record { opens = refl; at = refl; written = unwritten depot.files; faults = refl }

module _ (places : List Place) (old : DepotTold) (how : How) (ds : List DeviceTold) (q : AreLeft places old how ds) where
  abbrev w : ℕ → DeviceTold
  w = home_of places old ds

  -- the device of a row
  pub home_here : (r : ℕ) (d : DeviceTold) → at ds r ≡ Some d → w r ≡ d
  home_here r d e = ap (λ (o : Option DeviceTold). elim o [ Some x ↦ x | None ↦ unmade_at places old r ]) e

  pub home_past : (r : ℕ) → length ds ≤ r → w r ≡ unmade_at places old r
  home_past r l = ap (λ (o : Option DeviceTold). elim o [ Some x ↦ x | None ↦ unmade_at places old r ]) (at_none ds r l)

  unmade_is : (r : ℕ) (p : Place) → at places r ≡ Some p → unmade_at places old r ≡ fresh old p
  unmade_is r p e = ap (λ (o : Option Place). elim o [ Some x ↦ fresh old x | None ↦ fresh old (to_read []) ]) e

  untouched_at : (o : Option Place) → IsUntouched (elim o [ Some x ↦ fresh old x | None ↦ fresh old (to_read []) ])
  untouched_at (Some p) = fresh_untouched old p
  untouched_at None = fresh_untouched old (to_read [])

  pub untouched_past : (r : ℕ) → length ds ≤ r → IsUntouched (w r)
  untouched_past r l = subst IsUntouched (sym (home_past r l)) (untouched_at (at places r))

  -- no act failed of a device that isn't there
  pub calm_past : (r : ℕ) → length places ≤ r → faults_of (w r) ≡ 0
  calm_past r l = let f = q.few in (untouched_past r (omega (arith, f, l))).faults

  rows_count : length (map w (first_numbers (length ds))) ≡ length ds
  rows_count = length-map (first_numbers (length ds)) w ∙ length-range_with_len 0 (length ds)

  -- those of the first rows are all
  homes_are : map w (first_numbers (length ds)) ≡ ds
  homes_are = sym (same_lists ds (map w (first_numbers (length ds))) (sym rows_count) (λ i d e.
      let l = at_below ds i d e in
      let z : 0 + i ≡ i = omega arith in
      at_map w (first_numbers (length ds)) i (0 + i) (at_range 0 (length ds) i l) ∙ ap (λ x. Some x) (ap w z ∙ home_here i d e)))

  numbers_are : device_numbers ds ≡ range_with_len (length old.made) (length ds)
  numbers_are =
      let n = length-range_with_len (length old.made) (length ds) in
      let m = length-map ds (λ (d : DeviceTold). d.number) in
      sym (same_lists (range_with_len (length old.made) (length ds)) (device_numbers ds) (n ∙ sym m) (λ i x e.
      let b = at_below (range_with_len (length old.made) (length ds)) i x e in
      let l : i < length ds = omega (arith, b, n) in
      let d = at_some ds i l in
      at_map (λ (y : DeviceTold). y.number) ds i d.0 d.1 ∙ (ap (λ k. Some k) (q.each i d.0 d.1).number_is ∙ (sym (at_range (length old.made) (length ds) i l) ∙ e))))

  -- they may go back
  pub may_go : (now : DepotTold) → now.retired ≡ old.retired → length now.made ≡ length old.made + length ds → ((r : ℕ) → r < length ds → IsUnknown (length old.made + r) old.retired) → MayReturnAll now ds
  may_go now same more known = record {
    each = each_at (MayReturn now) ds (λ r d e.
        let l = at_below ds r d e in
        let x = q.each r d e in
        record {
          made = let n = x.number_is in omega (arith, n, l, more);
          closed = x.rest.shut;
          unknown = subst (λ rs. IsUnknown d.number rs) (sym same) (subst (λ k. IsUnknown k old.retired) (sym x.number_is) (known r l));
        });
    apart = subst (IsDistinct nat_eq) (sym numbers_are) (range_distinct (length old.made) (length ds));
  }

  returned_at : (r : ℕ) → r < length ds → (p : Place) × (at places r ≡ Some p) × IsReturned old.files (length old.made + r) p (w r)
  returned_at r l =
      let d = at_some ds r l in
      let x = q.each r d.0 d.1 in (
        x.place,
        x.stands,
        subst (λ y. IsReturned old.files (length old.made + r) x.place y) (sym (home_here r d.0 d.1)) (record { number_is = x.number_is; place_is = x.place_is; content_is = x.content_is; rest = x.rest }),
      )

  made_from : (k m n : ℕ) → k + m ≤ length ds → n ≡ length old.made + k → AreMade old.files places n w (range_with_len k m)
  made_from k zero n l is = tt
  made_from k (suc m) n l is =
      let x = returned_at k (omega arith) in (
        (x.0, x.1, subst (λ j. IsReturned old.files j x.0 (w k)) (sym is) x.2),
        made_from (k + 1) m (n + 1) (omega arith) (omega (arith, is)),
      )

  others : (r : ℕ) (p : Place) → at places r ≡ Some p → ¬ (IsAmong r (first_numbers (length ds))) → IsUnmadeAt old.files p (w r)
  others r p e not_in =
      ⊎_elim
      (λ (l : r < length ds). absurd (not_in (range_among 0 (length ds) r (omega arith) (omega arith))))
      (λ (l : length ds ≤ r). subst (λ x. IsUnmadeAt old.files p x) (sym (home_past r l ∙ unmade_is r p e)) (record { place_is = refl; content_is = refl; untouched = fresh_untouched old p }))
      (cases_lt r (length ds))

  module _ (path prefix : List ℕ) (ps : ArePlaces path prefix places) (now : DepotTold) (k : ℕ) (size : length ds ≡ suc k) (few : k ≤ 1024) (made : HasMade old path prefix k now) where
    abbrev made_places : List Place
    made_places = to_read path ∷ map (λ j. file_place prefix j) (first_numbers k)

    made_size : length made_places ≡ length ds
    made_size = ap suc (length-map (first_numbers k) (λ j. file_place prefix j) ∙ length-range_with_len 0 k) ∙ sym size

    -- the places of the devices are those that were asked for
    places_so : map (λ r. (w r).place) (first_numbers (length ds)) ≡ made_places
    places_so =
        sym (map_twice w (λ (d : DeviceTold). d.place) (first_numbers (length ds))) ∙ (ap (λ xs. map (λ (d : DeviceTold). d.place) xs) homes_are ∙ sym (same_lists made_places (map (λ (d : DeviceTold). d.place) ds)
        (made_size ∙ sym (length-map ds (λ (d : DeviceTold). d.place)))
        (λ i p e.
        let b = at_below made_places i p e in
        let d = at_some ds i (omega (arith, b, made_size)) in
        let x = q.each i d.0 d.1 in
        at_map (λ (y : DeviceTold). y.place) ds i d.0 d.1 ∙ (ap (λ y. Some y) x.place_is ∙ (sym x.stands ∙ first_places path prefix places ps k i p few e)))))

    -- as they were made they are one exchange
    made_exchange : Exchanges old now made_places []
    made_exchange = subst (λ (x : DepotTold). Exchanges old x made_places []) (sym made.is) (record { made = refl; retired = sym (append-nil old.retired); files = files_same _ old.files; stored = λ own. tt })

    now_more : length now.made ≡ length old.made + length ds
    now_more = ap (λ (x : DepotTold). length x.made) made.is ∙ (length-append old.made made_places ∙ ap (λ n. length old.made + n) made_size)

    pub may_return : MayReturnAll now ds
    may_return = may_go now (ap (λ (x : DepotTold). x.retired) made.is) now_more (λ r l. made.unknown r (omega (arith, l, size)))

    -- they came back
    pub comes_back : (new : DepotTold) (back : List DeviceTold) → Exchanges now new [] back → IsPermutation ds back → AllByRecursion KeepsToWhatIsThere back → MadeComeBack old new places w
    comes_back new back e each there =
        let rows : List ℕ = first_numbers (length ds) in
        let both : Exchanges old new (made_places ++ []) ([] ++ back) = exchanges_then old now new made_places [] [] back made_exchange e in
        let so : Exchanges old new (map (λ r. (w r).place) rows) back = subst (λ l. Exchanges old new l back) (append-nil made_places ∙ sym places_so) both in
        come_back places w ps.alone old new rows back so (range_distinct 0 (length ds)) (subst (λ l. IsPermutation l back) (sym homes_are) each) (made_from 0 (length ds) (length old.made) (omega arith) (omega arith)) others there

    module _ (new : DepotTold) (back : List DeviceTold) (e : Exchanges now new [] back) (each : IsPermutation ds back) where
      came_is : came_back old new ≡ back
      came_is = ap (λ xs. drop (length old.retired) xs) (e.retired ∙ ap (λ (x : DepotTold). x.retired ++ back) made.is) ∙ drop-append_seam old.retired back

      -- what holds of each device holds of each that came back
      all_back : (P : DeviceTold → Type 0) → ((r : ℕ) (d : DeviceTold) → at ds r ≡ Some d → P d) → AllByRecursion P (came_back old new)
      all_back P h = subst (λ xs. AllByRecursion P xs) (sym came_is) (each_permuted P ds back each (each_at P ds h))

      pub tried_back : AllByRecursion (λ d. is_tried d ≡ true) (came_back old new)
      tried_back = all_back (λ d. is_tried d ≡ true) (λ r d e. (q.each r d e).tried)

      pub told_back : AllByRecursion (TellsFaults how) (came_back old new)
      told_back = all_back (TellsFaults how) (λ r d e. (q.each r d e).told)

-- What stands on the shelf.
module _ {V : Type 0} (told : V → DeviceTold) (places : List Place) (old : DepotTold) (how : How) (spents shelf : List (Spent V)) (unopened : List V) (s : AreShelved places old told how spents shelf unopened) where
  abbrev spent_devices : List DeviceTold
  spent_devices = map (λ (x : Spent V). told x.pay) spents

  -- the devices by their rows are those on the shelf and those that couldn't be opened
  pub devices_permuted : IsPermutation (devices_by_row told spents unopened) (devices_of told shelf unopened)
  devices_permuted = IsPermutation-append_left (map (λ d. told d) unopened) spent_devices (map (λ (x : Spent V). told x.pay) shelf) (IsPermutation-map (λ (x : Spent V). told x.pay) spents shelf s.same)

  pub row_device : (r : ℕ) (x : Spent V) → at spents r ≡ Some x → home_of places old (devices_by_row told spents unopened) r ≡ told x.pay
  row_device r x e = home_here places old how (devices_by_row told spents unopened) s.left r (told x.pay) (at_before spent_devices (map (λ d. told d) unopened) r (told x.pay) (at_map (λ (y : Spent V). told y.pay) spents r x e))

  -- the shelf tells of the devices that were opened
  pub shelf_tells : ShelfTells 0 (length places) (home_of places old (devices_by_row told spents unopened)) shelf
  shelf_tells = record {
    rows = λ x m.
        let p = stands_at x spents (among_permuted shelf spents (IsPermutation-sym spents shelf s.same) x m) in
        let t = s.each p.0 x p.1 in
        let is : home_of places old (devices_by_row told spents unopened) x.row ≡ told x.pay = ap (λ r. home_of places old (devices_by_row told spents unopened) r) t.0 ∙ row_device p.0 x p.1 in
        let l = at_below (devices_by_row told spents unopened) p.0 (told x.pay) (at_before spent_devices (map (λ d. told d) unopened) p.0 (told x.pay) (at_map (λ (y : Spent V). told y.pay) spents p.0 x p.1)) in
        let few = s.left.few in
        let row = t.0 in (
          (omega arith, omega (arith, l, few, row)),
          ap (λ (d : DeviceTold). d.opens) is ∙ t.1,
          ap (λ (d : DeviceTold). d.exit) is ∙ t.2,
          t.3 ∙ ap (λ (d : DeviceTold). nat_eq d.close_faults 0) (sym is),
        );
    each = λ r b l o.
        ⊎_elim
        (λ (m : r < length (devices_by_row told spents unopened)).
        let d = at_some (devices_by_row told spents unopened) r m in
        ⊎_elim
        (λ e.
        let below = at_below spent_devices r d.0 e in
        let size = length-map spents (λ (x : Spent V). told x.pay) in
        let x = at_some spents r (omega (arith, below, size)) in
        (x.0, among_permuted spents shelf s.same x.0 (place_found spents r x.0 x.1), (s.each r x.0 x.1).0))
        (λ z.
        let v = among_map (λ d. told d) d.0 unopened (place_found (map (λ d. told d) unopened) z.0 d.0 z.2) in
        let never = ap (λ (y : DeviceTold). y.opens) (home_here places old how (devices_by_row told spents unopened) s.left r d.0 d.1 ∙ sym v.2) ∙ s.waits v.0 v.1 in
        absurd (omega (arith, never, o)))
        (at_split spent_devices (map (λ d. told d) unopened) r d.0 d.1))
        (λ (m : length (devices_by_row told spents unopened) ≤ r). let never = (untouched_past places old how (devices_by_row told spents unopened) s.left r m).opens in absurd (omega (arith, never, o)))
        (cases_lt r (length (devices_by_row told spents unopened)));
  }
