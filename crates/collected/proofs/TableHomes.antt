-- What became of the devices of tables, once the rows of those that were opened have ended.
use Rattle.std.proofs.Common.{◌≡◌, ◌⊎◌, ℕ, zero, suc, ◌+◌, ◌<◌, ◌≤◌, Bool, true, false, cond, nat_eq, List, [], ◌∷◌, inl, inr, map, length, take, drop, Option, Some, None, IfSome, refl, sym, ◌∙◌, ap, subst, ⊎_elim, arith}
use Rattle.std.proofs.lemmas.Bool.{cases_lt, lt-ltb}
use Rattle.std.proofs.lemmas.List.{take_all}
use Rattle.chunk_core.specs.declared.code.Code.{Code}
use Rattle.chunk_core.specs.declared.code.Code.TheVariants as code
use Rattle.chunk_core.specs.declared.code.Exit.{Exit}
use Rattle.csv_pipes.specs.Dictionaries.{records_fault, table_fault, table_value, is_first_short, has_long_value}
use Rattle.device_port.specs.Device.{DeviceTold, closed_with, to_read}
use Rattle.device_port.specs.Depot.{Files, content_at}
use Rattle.outer_tables.specs.declared.not_read.NotRead.{NotRead}
use Rattle.outer_tables.specs.declared.not_read.NotRead.TheVariants as why
use Rattle.outer_tables.specs.Devices.{new_device, unopened as never_opened, when_open}
use Rattle.outer_tables.specs.Outcomes.{ComeOut, values_in}
use Rattle.outer_tables.specs.Outcomes.ComeOut.{none, read, closed, unread, refused, unmade, cut}
use Rattle.outer_tables.specs.Whole.{GivesAll, IsAtEnd, WasRead, most_read}
use Rattle.pull_nodes.specs.Csv.{is_too_large, is_uneven, records_of}
use Rattle.pull_stepper.specs.Held.{closed_as}
use Rattle.res_ledger.specs.Ledger.{IsAcquired}
use Rattle.run_rules.specs.Facts.{at}
use Rattle.run_rules.specs.Homes.{IsBack}
use Rattle.run_rules.specs.Opening.{IsRefusedBy, IsTableFailed, IsTableFault, IsTableRead}
use Rattle.run_rules.specs.Work.{Opener, RunRecord}
use Rattle.std.specs.List.{list_any as any}
use Rattle.std.specs.Str.{is_utf8}
use Rattle.joined_runs.specs.Devices.{AreReturned, IsReturned}
use Rattle.collected.proofs.TableRuns.{CameOut, IsBare, IsCalm}

-- One device.

-- it was closed, and told this exit
pub record IsClosedOf (d e : DeviceTold) : Type 0 where
  pub exit : Exit
  pub ok : Bool
  pub is : e ≡ closed_as exit ok d

-- what a close doesn't change
pub closed_field : {A : Type 0} (f : DeviceTold → A) (x : Exit) (ok : Bool) (d : DeviceTold) → f (closed_with x d) ≡ f d → f (record (closed_with x d) { close_faults = 1 }) ≡ f d → f (closed_as x ok d) ≡ f d
closed_field f x true d a b = a
closed_field f x false d a b = b

-- the device of a table, which was opened to be read
pub record IsOpenTable (files : Option Files) (n : ℕ) (path : List ℕ) (d : DeviceTold) : Type 0 where
  pub number : d.number ≡ n
  pub place : d.place ≡ to_read path
  pub content : d.content ≡ content_at files path
  pub is_open : d.is_open ≡ true
  pub opens : d.opens ≡ 1
  pub closes : d.closes ≡ 0
  pub open_faults : d.open_faults ≡ 0
  pub close_faults : d.close_faults ≡ 0

module _ (files : Option Files) (n : ℕ) (path : List ℕ) (d : DeviceTold) where
  pub read_open : (k : ℕ) → WasRead k (when_open (new_device files n path)) d → IsOpenTable files n path d
  read_open k e = subst (IsOpenTable files n path) (sym e) (record { number = refl; place = refl; content = refl; is_open = refl; opens = refl; closes = refl; open_faults = refl; close_faults = refl })

  pub whole_open : (bytes : List ℕ) → GivesAll (when_open (new_device files n path)) d bytes → IsOpenTable files n path d
  whole_open bytes g = subst (IsOpenTable files n path) (sym g.gives.told) (record { number = refl; place = refl; content = refl; is_open = refl; opens = refl; closes = refl; open_faults = refl; close_faults = refl })

  -- so it is once it was closed
  pub closed_returned : (e : DeviceTold) → IsOpenTable files n path d → IsClosedOf d e → IsReturned files n (to_read path) e
  closed_returned e o c =
      subst (IsReturned files n (to_read path)) (sym c.is) (record {
        number_is = closed_field (λ x. x.number) c.exit c.ok d refl refl ∙ o.number;
        place_is = closed_field (λ x. x.place) c.exit c.ok d refl refl ∙ o.place;
        content_is = closed_field (λ x. x.content) c.exit c.ok d refl refl ∙ o.content;
        rest = record { shut = shut c.exit c.ok; stage = inr (closed_field (λ x. x.opens) c.exit c.ok d refl refl ∙ o.opens, once c.exit c.ok) };
      })
    where
      shut : (x : Exit) (ok : Bool) → (closed_as x ok d).is_open ≡ false
      shut x true = refl
      shut x false = refl

      once : (x : Exit) (ok : Bool) → (closed_as x ok d).closes ≡ 1
      once x true = let z = o.closes in omega (arith, z)
      once x false = let z = o.closes in omega (arith, z)

  -- its Final tells its exit, and whether it was closed well
  pub closed_ends : (x : Exit) (ok : Bool) → IsOpenTable files n path d → ((closed_as x ok d).exit ≡ Some x) × (ok ≡ nat_eq (closed_as x ok d).close_faults 0)
  closed_ends x true o = (refl, sym (ap (λ k. nat_eq k 0) o.close_faults))
  closed_ends x false o = (refl, refl)

-- What a table holds.

-- the first bytes of a content, no fewer than it has, are the content
all_given : (content : Option (List ℕ)) (bytes : List ℕ) → IfSome content (λ c. bytes ≡ take (length bytes) (drop 0 c)) → IfSome content (λ c. length c ≤ length bytes) → IfSome content (λ c. bytes ≡ c)
all_given None bytes g e = tt
all_given (Some c) bytes g e = g ∙ take_all (length bytes) c e

large_fault : (xs : List ℕ) → is_too_large xs ≡ true → table_fault xs ≡ Some code.TooLarge
large_fault xs e = ap (λ b. cond b (Some code.TooLarge) (cond (is_utf8 xs) (records_fault (records_of xs)) (Some code.NotUtf8))) e

too_long : (xs : List ℕ) → most_read ≤ length xs → is_too_large xs ≡ true
too_long xs l = lt-ltb 16777216 (length xs) (omega (arith, l))

-- each fault of a text is one of a table
text_fault : (xs : List ℕ) (f : Code) → table_fault xs ≡ Some f → IsTableFault f
text_fault xs f = by_cases (is_too_large xs) (is_utf8 xs) (is_first_short (records_of xs)) (is_uneven (records_of xs)) (any has_long_value (records_of xs))
  where
    by_cases : (a b c d e : Bool) → cond a (Some code.TooLarge) (cond b (cond c (Some code.NoField) (cond d (Some code.Uneven) (cond e (Some code.TooLarge) None))) (Some code.NotUtf8)) ≡ Some f → IsTableFault f
    by_cases true b c d e h = let s : code.TooLarge ≡ f = cc in subst IsTableFault s tt
    by_cases false false c d e h = let s : code.NotUtf8 ≡ f = cc in subst IsTableFault s tt
    by_cases false true true d e h = let s : code.NoField ≡ f = cc in subst IsTableFault s tt
    by_cases false true false true e h = let s : code.Uneven ≡ f = cc in subst IsTableFault s tt
    by_cases false true false false true h = let s : code.TooLarge ≡ f = cc in subst IsTableFault s tt
    by_cases false true false false false h = cc

module _ (files : Option Files) (n : ℕ) (path : List ℕ) (d : DeviceTold) (bytes : List ℕ) (g : GivesAll (when_open (new_device files n path)) d bytes) where
  pub at_is : d.at ≡ length bytes
  at_is = ap (λ (x : DeviceTold). x.at) g.gives.told ∙ (let z : 0 + length bytes ≡ length bytes = omega arith in z)

  content_is : d.content ≡ content_at files path
  content_is = ap (λ (x : DeviceTold). x.content) g.gives.told

  pub unfailed : d.read_faults ≡ 0
  unfailed = ap (λ (x : DeviceTold). x.read_faults) g.gives.told

  -- read to its end, it gave its content
  pub gave_all : IsAtEnd d → IfSome d.content (λ c. bytes ≡ c)
  gave_all e = all_given d.content bytes (subst (λ o. IfSome o (λ c. bytes ≡ take (length bytes) (drop 0 c))) (sym content_is) g.gives.given) (subst (λ k. IfSome d.content (λ c. length c ≤ k)) at_is e.whole)

  -- where it isn't refused it was read to its end
  pub read_whole : table_fault bytes ≡ None → IsAtEnd d
  read_whole fine = ⊎_elim (λ e. e.1) (λ l. absurd (let f : Some code.TooLarge ≡ None = sym (large_fault bytes (too_long bytes (omega (arith, l)))) ∙ fine in cc)) g.end

  -- a refused content is refused so, where it is told
  pub refused_by : (o : Opener) → ((xs : List ℕ) → o.fault_of xs ≡ table_fault xs) → (f : Code) → table_fault bytes ≡ Some f → IsRefusedBy o d.content f
  refused_by o same f e =
      subst (λ z. IsRefusedBy o z f) (sym content_is)
      (told_or (content_at files path) g.gives.given
      (⊎_elim (λ w. inl (subst (λ z. IfSome z (λ c. bytes ≡ c)) content_is (gave_all w.1))) (λ l. inr l) g.end))
    where
      told_or : (z : Option (List ℕ)) → IfSome z (λ c. bytes ≡ take (length bytes) (drop 0 c)) → IfSome z (λ c. bytes ≡ c) ⊎ (length bytes ≡ most_read) → IsRefusedBy o z f
      told_or None given w = text_fault bytes f e
      told_or (Some c) given w =
          same c
          ∙ ⊎_elim
          (λ is. ap table_fault (sym is) ∙ e)
          (λ l. ⊎_elim
          (λ (k : length c < length bytes). ap table_fault (sym (given ∙ take_all (length bytes) c (omega (arith, k)))) ∙ e)
          (λ (k : length bytes ≤ length c). large_fault c (too_long c (omega (arith, l, k))) ∙ (sym (large_fault bytes (too_long bytes (omega (arith, l)))) ∙ e))
          (cases_lt (length c) (length bytes)))
          w

-- All of them.

module _ {V : Type 0} (told : V → DeviceTold) (w : ℕ → DeviceTold) where
  -- the devices from the row r on were closed, and behind them these came back
  pub record AreClosed (r : ℕ) (ds : List V) (back : List DeviceTold) : Type 0 where
    pub each : (i : ℕ) (d : V) → at ds i ≡ Some d → IsClosedOf (told d) (w (r + i))
    pub others : (i : ℕ) (d : DeviceTold) → at back i ≡ Some d → w (r + length ds + i) ≡ d

module _ {V : Type 0} (told : V → DeviceTold) (files : Option Files) (w : ℕ → DeviceTold) where
  first_closed : (r : ℕ) (d : V) (ds : List V) (back : List DeviceTold) → AreClosed told w r (d ∷ ds) back → IsClosedOf (told d) (w r)
  first_closed r d ds back c = let z : r + 0 ≡ r = omega arith in subst (λ k. IsClosedOf (told d) (w k)) z (c.each 0 d refl)

  rest_closed : (r : ℕ) (d : V) (ds : List V) (back : List DeviceTold) → AreClosed told w r (d ∷ ds) back → AreClosed told w (r + 1) ds back
  rest_closed r d ds back c = record {
    each = λ i e is. let z : r + suc i ≡ r + 1 + i = omega arith in subst (λ k. IsClosedOf (told e) (w k)) z (c.each (suc i) e is);
    others = λ i e is. let z : r + suc (length ds) + i ≡ r + 1 + length ds + i = omega arith in subst (λ k. w k ≡ e) z (c.others i e is);
  }

  first_back : (r : ℕ) (e : DeviceTold) → AreClosed told w r [] (e ∷ []) → w r ≡ e
  first_back r e c = let z : r + 0 + 0 ≡ r = omega arith in subst (λ k. w k ≡ e) z (c.others 0 e refl)

  one_returned : (n r : ℕ) (path : List ℕ) (paths : List (List ℕ)) → IsReturned files n (to_read path) (w r) → AreReturned files n w r (map to_read (take 1 (path ∷ paths)))
  one_returned n r path paths h = (h, tt)

  -- each was made for its row, and is at rest
  pub tables_returned : {n : ℕ} {paths bss : List (List ℕ)} {ds : List V} {back : List DeviceTold} {o : Option NotRead} → ComeOut told files n paths ds back bss o → (r : ℕ) → AreClosed told w r ds back → AreReturned files n w r (map to_read (take (length ds + length back) paths))
  tables_returned none r c = tt
  tables_returned (read {n = n} {path = path} {bytes = bytes} {paths = paths} {ds = ds} {back = back} d g fine out) r c =
      let count : length (d ∷ ds) + length back ≡ suc (length ds + length back) = omega arith in
      let next : suc n ≡ n + 1 = omega arith in
      subst (λ k. AreReturned files n w r (map to_read (take k (path ∷ paths)))) (sym count) (
        closed_returned files n path (told d) (w r) (whole_open files n path (told d) bytes g) (first_closed r d ds back c),
        subst (λ k. AreReturned files k w (r + 1) (map to_read (take (length ds + length back) paths))) next (tables_returned out (r + 1) (rest_closed r d ds back c)),
      )
  tables_returned (closed {n = n} {path = path} {paths = paths}) r c =
      one_returned n r path paths (subst (IsReturned files n (to_read path)) (sym (first_back r (never_opened (new_device files n path)) c)) (record { number_is = refl; place_is = refl; content_is = refl; rest = record { shut = refl; stage = inl (refl, refl, refl, refl) } }))
  tables_returned (unread {n = n} {path = path} {paths = paths} d e) r c = one_returned n r path paths (closed_returned files n path (told d) (w r) (read_open files n path (told d) 1 e) (first_closed r d [] [] c))
  tables_returned (refused {n = n} {path = path} {paths = paths} d bytes f g e) r c = one_returned n r path paths (closed_returned files n path (told d) (w r) (whole_open files n path (told d) bytes g) (first_closed r d [] [] c))
  tables_returned unmade r c = tt
  tables_returned (cut {n = n} {path = path} {paths = paths} d e) r c = one_returned n r path paths (closed_returned files n path (told d) (w r) (read_open files n path (told d) 0 e) (first_closed r d [] [] c))

  -- each was opened once
  pub each_open : {n : ℕ} {paths bss : List (List ℕ)} {ds : List V} {back : List DeviceTold} {o : Option NotRead} → ComeOut told files n paths ds back bss o → (i : ℕ) (d : V) → at ds i ≡ Some d → (path : List ℕ) × IsOpenTable files (n + i) path (told d)
  each_open none i d is = cc
  each_open (read {n = n} {path = path} {bytes = bytes} e g fine out) zero d is =
      let same : e ≡ d = cc in
      let z : n ≡ n + 0 = omega arith in
      (path, subst (λ k. IsOpenTable files k path (told d)) z (subst (λ x. IsOpenTable files n path (told x)) same (whole_open files n path (told e) bytes g)))
  each_open (read {n = n} e g fine out) (suc i) d is = let x = each_open out i d is in let z : suc n + i ≡ n + suc i = omega arith in (x.0, subst (λ k. IsOpenTable files k x.0 (told d)) z x.1)
  each_open closed i d is = cc
  each_open (unread {n = n} {path = path} e h) zero d is = let same : e ≡ d = cc in let z : n ≡ n + 0 = omega arith in (path, subst (λ k. IsOpenTable files k path (told d)) z (subst (λ x. IsOpenTable files n path (told x)) same (read_open files n path (told e) 1 h)))
  each_open (unread e h) (suc i) d is = cc
  each_open (refused {n = n} {path = path} e bytes f g h) zero d is = let same : e ≡ d = cc in let z : n ≡ n + 0 = omega arith in (path, subst (λ k. IsOpenTable files k path (told d)) z (subst (λ x. IsOpenTable files n path (told x)) same (whole_open files n path (told e) bytes g)))
  each_open (refused e bytes f g h) (suc i) d is = cc
  each_open unmade i d is = cc
  each_open (cut {n = n} {path = path} e h) zero d is = let same : e ≡ d = cc in let z : n ≡ n + 0 = omega arith in (path, subst (λ k. IsOpenTable files k path (told d)) z (subst (λ x. IsOpenTable files n path (told x)) same (read_open files n path (told e) 0 h)))
  each_open (cut e h) (suc i) d is = cc

  -- what came back was never opened
  pub back_unopened : {n : ℕ} {paths bss : List (List ℕ)} {ds : List V} {back : List DeviceTold} {o : Option NotRead} → ComeOut told files n paths ds back bss o → (i : ℕ) (d : DeviceTold) → at back i ≡ Some d → d.opens ≡ 0
  back_unopened none i d e = cc
  back_unopened (read x g fine out) i d e = back_unopened out i d e
  back_unopened (closed {n = n} {path = path}) zero d e = let is : never_opened (new_device files n path) ≡ d = cc in ap (λ (x : DeviceTold). x.opens) (sym is)
  back_unopened closed (suc i) d e = cc
  back_unopened (unread x h) i d e = cc
  back_unopened (refused x bytes f g h) i d e = cc
  back_unopened unmade i d e = cc
  back_unopened (cut x h) i d e = cc

  -- and could not be opened
  pub back_failed : {n : ℕ} {paths bss : List (List ℕ)} {ds : List V} {back : List DeviceTold} {o : Option NotRead} → ComeOut told files n paths ds back bss o → (i : ℕ) (d : DeviceTold) → at back i ≡ Some d → d.open_faults ≡ 1
  back_failed none i d e = cc
  back_failed (read x g fine out) i d e = back_failed out i d e
  back_failed (closed {n = n} {path = path}) zero d e = let is : never_opened (new_device files n path) ≡ d = cc in ap (λ (x : DeviceTold). x.open_faults) (sym is)
  back_failed closed (suc i) d e = cc
  back_failed (unread x h) i d e = cc
  back_failed (refused x bytes f g h) i d e = cc
  back_failed unmade i d e = cc
  back_failed (cut x h) i d e = cc

  -- each content is that of a device
  pub read_devices : {n : ℕ} {paths bss : List (List ℕ)} {ds : List V} {back : List DeviceTold} {o : Option NotRead} → ComeOut told files n paths ds back bss o → length bss ≤ length ds
  read_devices none = omega arith
  read_devices (read d g fine out) = let l = read_devices out in omega (arith, l)
  read_devices closed = omega arith
  read_devices (unread d h) = omega arith
  read_devices (refused d bytes f g h) = omega arith
  read_devices unmade = omega arith
  read_devices (cut d h) = omega arith

  -- the values are those of the contents that are told
  pub values_told : {n : ℕ} {paths bss : List (List ℕ)} {ds : List V} {back : List DeviceTold} {o : Option NotRead} → ComeOut told files n paths ds back bss o → (t : ℕ) (d : V) (key : List ℕ) → t < length bss → at ds t ≡ Some d → IfSome (told d).content (λ c. values_in bss t key ≡ table_value c key)
  values_told none t d key l is = absurd (omega (arith, l))
  values_told (read {n = n} {path = path} {bytes = bytes} x g fine out) zero d key l is =
      let same : x ≡ d = cc in
      subst (λ y. IfSome (told y).content (λ c. table_value bytes key ≡ table_value c key)) same
      (of_content (told x).content (gave_all files n path (told x) bytes g (read_whole files n path (told x) bytes g fine)))
    where
      of_content : (z : Option (List ℕ)) → IfSome z (λ c. bytes ≡ c) → IfSome z (λ c. table_value bytes key ≡ table_value c key)
      of_content None h = tt
      of_content (Some c) h = ap (λ b. table_value b key) h
  values_told (read x g fine out) (suc t) d key l is = values_told out t d key (omega (arith, l)) is
  values_told closed t d key l is = absurd (omega (arith, l))
  values_told (unread x h) t d key l is = absurd (omega (arith, l))
  values_told (refused x bytes f g h) t d key l is = absurd (omega (arith, l))
  values_told unmade t d key l is = absurd (omega (arith, l))
  values_told (cut x h) t d key l is = absurd (omega (arith, l))

  module _ (op : Opener) (c : RunRecord) (same : (xs : List ℕ) → op.fault_of xs ≡ table_fault xs) where
    -- a table that was read, once its device is closed
    read_so : (n r : ℕ) (path : List ℕ) (d : V) (bytes : List ℕ) → GivesAll (when_open (new_device files n path)) (told d) bytes → table_fault bytes ≡ None → IsClosedOf (told d) (w r) → IsAcquired c.events r → IsBack c (w r) → IsTableRead op c r (w r)
    read_so n r path d bytes g fine cl acquired back =
        let e = told d in
        let end = read_whole files n path e bytes g fine in
        let at_so : (w r).at ≡ e.at = ap (λ (x : DeviceTold). x.at) cl.is ∙ closed_field (λ x. x.at) cl.exit cl.ok e refl refl in
        let content_so : (w r).content ≡ e.content = ap (λ (x : DeviceTold). x.content) cl.is ∙ closed_field (λ x. x.content) cl.exit cl.ok e refl refl in
        record {
          acquired = acquired;
          back = back;
          ended = ap (λ (x : DeviceTold). x.ended) cl.is ∙ closed_field (λ x. x.ended) cl.exit cl.ok e refl refl ∙ end.ended;
          unfailed = ap (λ (x : DeviceTold). x.read_faults) cl.is ∙ closed_field (λ x. x.read_faults) cl.exit cl.ok e refl refl ∙ unfailed files n path e bytes g;
          whole = subst (λ z. IfSome z (λ b. ((w r).at ≡ length b) × (op.fault_of b ≡ None))) (sym content_so) (whole_of e.content (gave_all files n path e bytes g end) at_so);
        }
      where
        whole_of : (z : Option (List ℕ)) → IfSome z (λ b. bytes ≡ b) → (w r).at ≡ (told d).at → IfSome z (λ b. ((w r).at ≡ length b) × (op.fault_of b ≡ None))
        whole_of None h at_so = tt
        whole_of (Some b) h at_so = (at_so ∙ (at_is files n path (told d) bytes g ∙ ap length h), same b ∙ (ap table_fault (sym h) ∙ fine))

    opened_so : (n r : ℕ) (path : List ℕ) (d : V) → IsOpenTable files n path (told d) → IsClosedOf (told d) (w r) → (w r).opens ≡ 1
    opened_so n r path d o cl = ap (λ (x : DeviceTold). x.opens) cl.is ∙ (closed_field (λ x. x.opens) cl.exit cl.ok (told d) refl refl ∙ o.opens)

    faults_so : (r : ℕ) (d : V) → IsClosedOf (told d) (w r) → (w r).read_faults ≡ (told d).read_faults
    faults_so r d cl = ap (λ (x : DeviceTold). x.read_faults) cl.is ∙ closed_field (λ x. x.read_faults) cl.exit cl.ok (told d) refl refl

    -- no device was made for these rows
    abbrev pub AreBare : ℕ → ℕ → Type 0
    AreBare from to = (j : ℕ) → from ≤ j → j < to → IsBare w j

    -- the first table was read, and the others came out so
    more_out : (r : ℕ) (path bytes : List ℕ) (paths bss : List (List ℕ)) (o : Option NotRead) → IsTableRead op c r (w r) → CameOut op c w (r + 1) paths bss o → CameOut op c w r (path ∷ paths) (bytes ∷ bss) o
    more_out r path bytes paths bss o first m =
        let z : r + 1 + length bss ≡ r + suc (length bss) = omega arith in
        record {
          few = (let f = m.few in omega (arith, f));
          whole = λ e. ap suc (m.whole e);
          read = λ i l. read_at i l;
          failed = λ f e. let x = m.failed f e in let l = x.0 in (omega (arith, l), subst (λ k. IsTableFailed op c (w k) f) z x.1);
          calm = λ e l. subst (IsCalm w) z (m.calm e (omega (arith, l)));
          idle = λ j l k. m.idle j (omega (arith, l)) (omega (arith, k));
        }
      where
        read_at : (i : ℕ) → i < length (bytes ∷ bss) → IsTableRead op c (r + i) (w (r + i))
        read_at zero l = let y : r ≡ r + 0 = omega arith in subst (λ k. IsTableRead op c k (w k)) y first
        read_at (suc i) l = let y : r + 1 + i ≡ r + suc i = omega arith in subst (λ k. IsTableRead op c k (w k)) y (m.read i (omega (arith, l)))

    -- the first one failed
    failed_out : (r : ℕ) (path : List ℕ) (paths : List (List ℕ)) (f : Code) → IsTableFailed op c (w r) f → AreBare (r + 1) (r + length (path ∷ paths)) → CameOut op c w r (path ∷ paths) [] (Some (why.Fault f))
    failed_out r path paths f h bare =
        let z : r ≡ r + 0 = omega arith in
        record {
          few = omega arith;
          whole = λ e. cc;
          read = λ i l. absurd (omega (arith, l));
          failed = λ g e. (omega arith, subst (λ k. IsTableFailed op c (w k) g) z (subst (λ k. IsTableFailed op c (w r) k) (let s : f ≡ g = cc in s) h));
          calm = λ e. cc;
          idle = λ j l k. bare j (omega (arith, l)) k;
        }

    -- memory was wanting at the first one, if there is one
    cut_out : (r : ℕ) (paths : List (List ℕ)) → (0 < length paths → IsCalm w r) → AreBare (r + 1) (r + length paths) → CameOut op c w r paths [] (Some why.Memory)
    cut_out r paths h bare =
        let z : r ≡ r + 0 = omega arith in
        record {
          few = omega arith;
          whole = λ e. cc;
          read = λ i l. absurd (omega (arith, l));
          failed = λ g e. cc;
          calm = λ e l. subst (IsCalm w) z (h l);
          idle = λ j l k. bare j (omega (arith, l)) k;
        }

    -- so they came out
    pub came_out : {n : ℕ} {paths bss : List (List ℕ)} {ds : List V} {back : List DeviceTold} {o : Option NotRead} → ComeOut told files n paths ds back bss o → (r : ℕ) → AreClosed told w r ds back → ((i : ℕ) → i < length ds → IsAcquired c.events (r + i)) → ((i : ℕ) → i < length ds + length back → IsBack c (w (r + i)))
        → AreBare (r + (length ds + length back)) (r + length paths) → CameOut op c w r paths bss o
    came_out none r cl acquired back bare =
        record { few = omega arith; whole = λ e. refl; read = λ i l. absurd (omega (arith, l)); failed = λ f e. cc; calm = λ e. cc; idle = λ j l k. absurd (omega (arith, l, k)) }
    came_out (read {n = n} {path = path} {bytes = bytes} {paths = paths} {bss = bss} {ds = ds} {back = bs} {o = o} d g fine out) r cl acquired back bare =
        let z : r + 0 ≡ r = omega arith in
        more_out r path bytes paths bss o
        (read_so n r path d bytes g fine (first_closed r d ds bs cl) (subst (λ k. IsAcquired c.events k) z (acquired 0 (omega arith))) (subst (λ k. IsBack c (w k)) z (back 0 (omega arith))))
        (came_out out (r + 1) (rest_closed r d ds bs cl)
        (λ i l. let y : r + suc i ≡ r + 1 + i = omega arith in subst (λ k. IsAcquired c.events k) y (acquired (suc i) (omega (arith, l))))
        (λ i l. let y : r + suc i ≡ r + 1 + i = omega arith in subst (λ k. IsBack c (w k)) y (back (suc i) (omega (arith, l))))
        (λ j l k. bare j (omega (arith, l)) (omega (arith, k))))
    came_out (closed {n = n} {path = path} {paths = paths}) r cl acquired back bare =
        let z : r + 0 ≡ r = omega arith in
        let is : w r ≡ never_opened (new_device files n path) = first_back r (never_opened (new_device files n path)) cl in
        failed_out r path paths code.Open (subst (λ k. IsBack c (w k)) z (back 0 (omega arith)), inl (ap (λ (x : DeviceTold). x.opens) is, ap (λ (x : DeviceTold). x.open_faults) is, refl)) (λ j l k. bare j (omega (arith, l)) k)
    came_out (unread {n = n} {path = path} {paths = paths} d h) r cl acquired back bare =
        let z : r + 0 ≡ r = omega arith in
        let x = first_closed r d [] [] cl in
        failed_out r path paths code.Read (subst (λ k. IsBack c (w k)) z (back 0 (omega arith)), inr (opened_so n r path d (read_open files n path (told d) 1 h) x, inl (faults_so r d x ∙ ap (λ (y : DeviceTold). y.read_faults) h, refl)))
        (λ j l k. bare j (omega (arith, l)) k)
    came_out (refused {n = n} {path = path} {paths = paths} d bytes f g h) r cl acquired back bare =
        let z : r + 0 ≡ r = omega arith in
        let x = first_closed r d [] [] cl in
        let content_so : (w r).content ≡ (told d).content = ap (λ (y : DeviceTold). y.content) x.is ∙ closed_field (λ y. y.content) x.exit x.ok (told d) refl refl in
        failed_out r path paths f (
          subst (λ q. IsBack c (w q)) z (back 0 (omega arith)),
          inr (
            opened_so n r path d (whole_open files n path (told d) bytes g) x,
            inr (faults_so r d x ∙ unfailed files n path (told d) bytes g, subst (λ q. IsRefusedBy op q f) (sym content_so) (refused_by files n path (told d) bytes g op same f h)),
          ),
        )
        (λ j l k. bare j (omega (arith, l)) k)
    came_out (unmade {paths = paths}) r cl acquired back bare = cut_out r paths (λ l. (bare r (omega arith) (omega (arith, l))).1) (λ j l k. bare j (omega (arith, l)) k)
    came_out (cut {n = n} {path = path} {paths = paths} d h) r cl acquired back bare =
        let x = first_closed r d [] [] cl in
        cut_out r (path ∷ paths) (λ l. (
          ap (λ (y : DeviceTold). y.open_faults) x.is ∙ (closed_field (λ y. y.open_faults) x.exit x.ok (told d) refl refl ∙ (read_open files n path (told d) 0 h).open_faults),
          faults_so r d x ∙ ap (λ (y : DeviceTold). y.read_faults) h,
        )) (λ j l k. bare j (omega (arith, l)) k)
