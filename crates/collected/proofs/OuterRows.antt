-- The devices of rows of the outer stream that one move made: of tables that were tried, or of the list.
use Rattle.std.proofs.Common.{◌≡◌, ℕ, zero, suc, ◌+◌, ◌-◌, ◌<◌, ◌≤◌, List, [], ◌∷◌, inl, inr, map, length, take, Option, Some, refl, sym, ◌∙◌, ap, subst, arith}
use Rattle.std.proofs.lemmas.List.{length-map}
use Rattle.std.specs.List.{AllByRecursion, range_with_len}
use Rattle.chunk_core.proofs.Each.{among_each}
use Rattle.device_port.specs.declared.device.Mode.TheVariants as mode
use Rattle.device_port.specs.Device.{Place, DeviceTold, to_read}
use Rattle.device_port.specs.Depot.{DepotTold, Files, IsUnknown}
use Rattle.outer_tables.specs.Devices.{MakesDevices, new_device, unopened as never_opened, when_open}
use Rattle.outer_tables.specs.Outcomes.{ComeOut}
use Rattle.outer_tables.specs.Outcomes.ComeOut.{none, read, closed, unread, refused, unmade, cut}
use Rattle.outer_tables.specs.Whole.{WasRead}
use Rattle.outer_tables.specs.declared.not_read.NotRead.{NotRead}
use Rattle.outer_tables.proofs.Outcomes.{few_tried}
use Rattle.res_ledger.proofs.Permuted.{among_range}
use Rattle.run_rules.specs.Facts.{at}
use Rattle.stream_parts.proofs.Making.{laid, laid_outside}
use Rattle.joined_runs.specs.Devices.{AreReturned, IsReturned}
use Rattle.joined_runs.proofs.MadeRows.{at_below, at_some}
use Rattle.job_runs.proofs.DevicesBack.{at_among}
use Rattle.collected.proofs.OwnRows.{WasNeverOpen, bare_home, laid_at}
use Rattle.collected.proofs.Rows.{IsIn, RowsMade, bare_at, bare_row, either_home, home_in, home_out, map_same, rows_own}
use Rattle.collected.proofs.TableHomes.{AreClosed, IsClosedOf, closed_field, closed_returned, read_open, tables_returned}
use Rattle.collected.proofs.TriedRows.{AreTried, left_rows, tried_own}

at_mapped : {A B : Type 0} (f : A → B) (xs : List A) (i : ℕ) (x : A) → at xs i ≡ Some x → at (map f xs) i ≡ Some (f x)
at_mapped f [] i x e = cc
at_mapped f (y ∷ xs) zero x e = let same : y ≡ x = cc in ap (λ z. Some (f z)) same
at_mapped f (y ∷ xs) (suc i) x e = at_mapped f xs i x e

module _ (all : List Place) (files : Option Files) (ended : ℕ → DeviceTold) where
  -- the first m rows from this one on have the devices that they came to have, these came back, and none was made for the others
  abbrev pub block_home : ℕ → ℕ → List DeviceTold → ℕ → DeviceTold
  block_home row m back r = either_home row (row + m) ended (laid (row + m) back (bare_row all files)) r

  module _ (row m : ℕ) (back : List DeviceTold) where
    abbrev others : ℕ → DeviceTold
    others = laid (row + m) back (bare_row all files)

    pub block_stands : (r : ℕ) → row ≤ r → r < row + m → block_home row m back r ≡ ended r
    block_stands r low high = sym (home_in row (row + m) ended others r (low, high))

    pub block_others : (i : ℕ) (d : DeviceTold) → at back i ≡ Some d → block_home row m back (row + m + i) ≡ d
    block_others i d e = sym (home_out row (row + m) ended others (row + m + i) (λ k. let l = k.1 in omega (arith, l))) ∙ laid_at (row + m) back (bare_row all files) i d e

    pub block_bare : (r : ℕ) → row + (m + length back) ≤ r → block_home row m back r ≡ bare_row all files r
    block_bare r l = sym (home_out row (row + m) ended others r (λ k. let u = k.1 in omega (arith, l, u))) ∙ laid_outside (row + m) back (bare_row all files) r (inr (omega (arith, l)))

  -- a move made a device for each of the first rows, so many of which were opened and closed
  module _ (row : ℕ) (paths : List (List ℕ)) (m : ℕ) (back : List DeviceTold) (old new : DepotTold) (same : old.files ≡ files) (there : (i : ℕ) (path : List ℕ) → at paths i ≡ Some path → at all (row + i) ≡ Some (to_read path)) where
    abbrev home : ℕ → DeviceTold
    home = block_home row m back

    pub block_made : m + length back ≤ length paths → MakesDevices old new (take (m + length back) paths) back → AreReturned old.files (length old.made) home row (map to_read (take (m + length back) paths)) → ((r : ℕ) → row ≤ r → r < row + m → IsUnknown (ended r).number old.retired)
        → AllByRecursion (λ d. d.place.mode ≡ mode.Read) back → AllByRecursion WasNeverOpen back → RowsMade all files home (IsIn row (row + length paths)) old new back (map ended (range_with_len row m))
    block_made few made returned unknown reads unopened =
        let t : AreTried home row paths old new m back = record {
          few = few;
          made = made;
          returned = returned;
          others = block_others row m back;
          unknown = λ r low high. subst (λ (d : DeviceTold). IsUnknown d.number old.retired) (sym (block_stands row m back r low high)) (unknown r low high);
          reads = reads;
          closed = unopened;
          bare = λ i path e l. block_bare row m back (row + i) (omega (arith, l)) ∙ (bare_at all files (row + i) (to_read path) (there i path e) ∙ ap (λ f. bare_home f (to_read path)) (sym same));
        } in
        subst (λ k. RowsMade all files home (IsIn row (row + k)) old new back (map ended (range_with_len row m))) (length-map paths to_read)
        (subst (λ l. RowsMade all files home (IsIn row (row + length (map to_read paths))) old new back l) (map_same home ended (range_with_len row m) (λ r i. let b = among_range row m r i in block_stands row m back r b.0 b.1))
        (rows_own all files home row (map to_read paths) old new back (left_rows home row paths old new m back t) (tried_own home row paths old new m back t) same (λ i l. placed i (omega (arith, l, length-map paths to_read)))))
      where
        placed : (i : ℕ) → i < length paths → at all (row + i) ≡ at (map to_read paths) i
        placed i l = let x = at_some paths i l in there i x.0 x.1 ∙ sym (at_mapped to_read paths i x.0 x.1)

module _ {V : Type 0} (told : V → DeviceTold) (files : Option Files) where
  -- what came back was for reading
  back_reads : {n : ℕ} {paths bss : List (List ℕ)} {ds : List V} {back : List DeviceTold} {o : Option NotRead} → ComeOut told files n paths ds back bss o → AllByRecursion (λ d. d.place.mode ≡ mode.Read) back
  back_reads none = tt
  back_reads (read d g fine out) = back_reads out
  back_reads closed = (refl, tt)
  back_reads (unread d h) = tt
  back_reads (refused d bytes f g h) = tt
  back_reads unmade = tt
  back_reads (cut d h) = tt

  -- and wasn't opened, nor read
  back_closed : {n : ℕ} {paths bss : List (List ℕ)} {ds : List V} {back : List DeviceTold} {o : Option NotRead} → ComeOut told files n paths ds back bss o → AllByRecursion WasNeverOpen back
  back_closed none = tt
  back_closed (read d g fine out) = back_closed out
  back_closed closed = (record { opens = refl; at = refl }, tt)
  back_closed (unread d h) = tt
  back_closed (refused d bytes f g h) = tt
  back_closed unmade = tt
  back_closed (cut d h) = tt

-- Tables.

module _ {V : Type 0} (told : V → DeviceTold) (all : List Place) (files : Option Files) (ended : ℕ → DeviceTold) (row : ℕ) (paths : List (List ℕ)) (ds : List V) (back : List DeviceTold) (old new : DepotTold) (same : old.files ≡ files)
    (there : (i : ℕ) (path : List ℕ) → at paths i ≡ Some path → at all (row + i) ≡ Some (to_read path)) (closes : (i : ℕ) (d : V) → at ds i ≡ Some d → IsClosedOf (told d) (ended (row + i))) where
  abbrev pub table_home : ℕ → DeviceTold
  table_home = block_home all files ended row (length ds) back

  pub tables_closed : AreClosed told table_home row ds back
  tables_closed = record {
    each = λ i d e. subst (IsClosedOf (told d)) (sym (block_stands all files ended row (length ds) back (row + i) (omega arith) (let l = at_below ds i d e in omega (arith, l)))) (closes i d e);
    others = block_others all files ended row (length ds) back;
  }

  -- the rows of tables that were tried
  pub tables_made : (bss : List (List ℕ)) (o : Option NotRead) → ComeOut told old.files (length old.made) paths ds back bss o → MakesDevices old new (take (length ds + length back) paths) back → AllByRecursion (λ d. IsUnknown (told d).number old.retired) ds
      → RowsMade all files table_home (IsIn row (row + length paths)) old new back (map ended (range_with_len row (length ds)))
  tables_made bss o out made unknown =
      block_made all files ended row paths (length ds) back old new same there (few_tried out) made (tables_returned told old.files table_home out row tables_closed)
      (λ r low high.
      let i = r - row in
      let z : row + i ≡ r = omega (arith, low) in
      let d = at_some ds i (omega (arith, low, high)) in
      let c = closes i d.0 d.1 in
      let number : (ended r).number ≡ (told d.0).number = ap (λ k. (ended k).number) (sym z) ∙ (ap (λ (x : DeviceTold). x.number) c.is ∙ closed_field (λ x. x.number) c.exit c.ok (told d.0) refl refl) in
      subst (λ n. IsUnknown n old.retired) (sym number) (among_each (λ (v : V). IsUnknown (told v).number old.retired) d.0 ds unknown (at_among ds i d.0 d.1)))
      (back_reads told old.files out)
      (back_closed told old.files out)

-- The list.

module _ {V : Type 0} (told : V → DeviceTold) (all : List Place) (files : Option Files) (ended : ℕ → DeviceTold) (row : ℕ) (path : List ℕ) (old new : DepotTold) (same : old.files ≡ files) (there : at all row ≡ Some (to_read path)) where
  one_there : (i : ℕ) (q : List ℕ) → at (path ∷ []) i ≡ Some q → at all (row + i) ≡ Some (to_read q)
  one_there zero q e = let z : row ≡ row + 0 = omega arith in let s : path ≡ q = cc in ap (at all) (sym z) ∙ (there ∙ ap (λ x. Some (to_read x)) s)
  one_there (suc i) q e = cc

  -- its device was opened, and closed once it was read for some way
  pub list_made : (first now : V) (faults : ℕ) → MakesDevices old new (path ∷ []) [] → told first ≡ when_open (new_device old.files (length old.made) path) → IsUnknown (told first).number old.retired → WasRead faults (told first) (told now) → IsClosedOf (told now) (ended row)
      → RowsMade all files (block_home all files ended row 1 []) (IsIn row (row + 1)) old new [] (ended row ∷ [])
  list_made first now faults made is unknown was c =
      let open' = read_open old.files (length old.made) path (told now) faults (subst (λ e. WasRead faults e (told now)) is was) in
      let z : row ≡ row + 0 = omega arith in
      let number : (ended row).number ≡ (told first).number = ap (λ (x : DeviceTold). x.number) c.is ∙ (closed_field (λ x. x.number) c.exit c.ok (told now) refl refl ∙ ap (λ (x : DeviceTold). x.number) was) in
      block_made all files ended row (path ∷ []) 1 [] old new same one_there (omega arith) made
      (closed_returned old.files (length old.made) path (told now) (block_home all files ended row 1 [] row) open' (subst (IsClosedOf (told now)) (sym (block_stands all files ended row 1 [] row (omega arith) (omega arith))) c), tt)
      (λ r low high. let here : r ≡ row = omega (arith, low, high) in subst (λ n. IsUnknown n old.retired) (sym (ap (λ k. (ended k).number) here ∙ number)) unknown)
      tt
      tt

  -- it could not be opened
  pub list_failed : MakesDevices old new (path ∷ []) (never_opened (new_device old.files (length old.made) path) ∷ [])
      → RowsMade all files (block_home all files ended row 0 (never_opened (new_device old.files (length old.made) path) ∷ [])) (IsIn row (row + 1)) old new (never_opened (new_device old.files (length old.made) path) ∷ []) []
  list_failed made =
      let d = never_opened (new_device old.files (length old.made) path) in
      let home = block_home all files ended row 0 (d ∷ []) in
      let z : row + 0 + 0 ≡ row = omega arith in
      let is : home row ≡ d = ap home (sym z) ∙ block_others all files ended row 0 (d ∷ []) 0 d refl in
      block_made all files ended row (path ∷ []) 0 (d ∷ []) old new same one_there (omega arith) made
      (subst (IsReturned old.files (length old.made) (to_read path)) (sym is) (record { number_is = refl; place_is = refl; content_is = refl; rest = record { shut = refl; stage = inl (refl, refl, refl, refl) } }), tt)
      (λ r low high. absurd (omega (arith, low, high)))
      (refl, tt)
      (record { opens = refl; at = refl }, tt)
