-- A fault of the outer stream shows on a device of its rows, or comes of what a table or the list holds; and where nothing failed there is none, and the list is whole.
use Rattle.std.proofs.Common.{◌≡◌, ◌≢◌, ◌⊎◌, ℕ, ◌+◌, ◌-◌, ◌<◌, ◌≤◌, List, inl, inr, length, Option, Some, None, IfSome, refl, sym, ◌∙◌, ap, subst, ⊎_elim, arith}
use Rattle.std.specs.List.{AllByRecursion}
use Rattle.chunk_core.specs.Outcomes.{End, Cut, Done, Fault, Outcomes}
use Rattle.chunk_core.specs.declared.code.Code.{Code}
use Rattle.chunk_core.specs.declared.code.Code.TheVariants as code
use Rattle.chunk_core.specs.declared.code.How.{How}
use Rattle.chunk_core.specs.declared.code.How.TheVariants as how
use Rattle.device_port.specs.Device.{DeviceTold, Place, faults_of}
use Rattle.device_port.specs.Depot.{content_at}
use Rattle.run_rules.specs.Devices.{came_back}
use Rattle.run_rules.specs.Ends.{IsShown, act_count}
use Rattle.run_rules.specs.Facts.{at}
use Rattle.run_rules.specs.Listing.{AlwaysLists, IsListing, listing_of}
use Rattle.run_rules.specs.Opening.{IsListRead, IsOuterEnd}
use Rattle.run_rules.specs.Work.{Lister, Opener, RunRecord, Stream, list_places, list_row, opener_places}
use Rattle.joined_runs.specs.Devices.{MadeComeBack}
use Rattle.plan_work.specs.Joined.{places_in}
use Rattle.joined_runs.proofs.Covered.{CoversList, IsListCovered, RefusesTables}
use Rattle.joined_runs.proofs.Listings.{StopsAt, comes}
use Rattle.joined_runs.proofs.MadeRows.{IsCountedRow, at_below, at_some, place_found, shown}
use Rattle.joined_runs.proofs.RowPlaces.{at_right}
use Rattle.joined_runs.proofs.TableFaults.{outer_stands, table_stands, tables_show, tables_well}

fault_cut : (f : Code) → Fault f ≢ Cut
fault_cut f e = cc

fault_done : (f : Code) → Fault f ≢ Done
fault_done f e = cc

done_cut : Done ≢ Cut
done_cut e = cc

same_fault : (f g : Code) → Fault f ≡ Fault g → f ≡ g
same_fault f g e = cc

-- a line that is a fault names no act of a device
no_act : (d : DeviceTold) (f : Code) → (f ≡ code.TooMany) ⊎ (f ≡ code.BadPath) → IfSome (act_count f) (λ n. 0 < n d)
no_act d f is = ⊎_elim (λ e. subst (λ c. IfSome (act_count c) (λ n. 0 < n d)) (sym e) tt) (λ e. subst (λ c. IfSome (act_count c) (λ n. 0 < n d)) (sym e) tt) is

-- What a reading of the list gives that came out so.

module _ (l : Lister) (listing ideal : DeviceTold → Outcomes) (d : DeviceTold) (covers : IsListCovered listing ideal d) where
  -- all its lines were given streams and it ended by itself, or a line is a fault
  cases_of : (e : End) (i : IsListing l (listing d) e) → (listing d i.0 e × (listing_of l.most l.is_bad i.0 e ≡ record { lines = l.lines; end = e })) ⊎ StopsAt l.is_bad l.most i.0
  cases_of e (ys, g, run, is) =
      ⊎_elim
      (λ h. let same : g ≡ e = sym (h g) ∙ ap (λ x. x.end) is in inl (subst (λ x. listing d ys x) same run, subst (λ x. listing_of l.most l.is_bad ys x ≡ record { lines = l.lines; end = e }) same is))
      (λ s. inr s)
      (comes l.is_bad l.most ys)

  list_shows : (f : Code) → IsListing l (listing d) (Fault f) → IfSome (act_count f) (λ n. 0 < n d)
  list_shows f i =
      ⊎_elim
      (λ x. covers.shown i.0 f x.0)
      (λ s.
      let same : s.fault ≡ f = same_fault s.fault f (sym (s.end i.1) ∙ ap (λ x. x.end) i.3) in
      subst (λ c. IfSome (act_count c) (λ n. 0 < n d)) same (no_act d s.fault s.why))
      (cases_of (Fault f) i)

  module _ (calm : faults_of d ≡ 0) where
    -- a line that is a fault is one in each reading in which nothing is left
    stops_all : (e : End) (i : IsListing l (listing d) e) → StopsAt l.is_bad l.most i.0 → AlwaysLists l (ideal d) (λ g. g ≡ Done) → ⊥
    stops_all e (ys, g, run, is) s good =
        let z = covers.front ys g run calm in
        fault_done s.fault (sym (s.more z.3.0 z.1) ∙ (ap (λ l'. (listing_of l.most l.is_bad l' z.1).end) (sym z.3.1) ∙ good z.0 z.1 z.2))

    list_well : (f : Code) → IsListing l (listing d) (Fault f) → AlwaysLists l (ideal d) (λ g. g ≡ Done) → ⊥
    list_well f i good =
        ⊎_elim
        (λ x. fault_done f (sym (ap (λ y. y.end) x.1) ∙ good i.0 (Fault f) (covers.whole i.0 (Fault f) x.0 (fault_cut f) calm)))
        (λ s. stops_all (Fault f) i s good)
        (cases_of (Fault f) i)

    whole_listing : IsListing l (listing d) Done → IsListing l (ideal d) Done
    whole_listing i =
        ⊎_elim
        (λ x. (i.0, Done, covers.whole i.0 Done x.0 done_cut calm, x.1))
        (λ s. absurd (fault_done s.fault (sym (s.end i.1) ∙ ap (λ x. x.end) i.3)))
        (cases_of Done i)

-- the row of the list is behind those of the tables
list_stands : (o : Opener) (l : Lister) → o.list ≡ Some l → at (opener_places o) (list_row o) ≡ Some l.place
list_stands o l is =
    let none : length o.tables - length o.tables ≡ 0 = omega arith in
    at_right o.tables (list_places o.list) (length o.tables) (omega arith) ∙ (ap (at (list_places o.list)) none ∙ ap (λ x. at (list_places x) 0) is)

-- what holds of a list that is there
pub if_there : {A : Type 0} (P : A → Type 0) (o : Option A) (x : A) → o ≡ Some x → IfSome o P → P x
if_there P (Some y) x is h = subst P (let same : y ≡ x = cc in same) h
if_there P None x is h = cc

module _ (opener : Opener) (ss : List Stream) (listing ideal_listing : DeviceTold → Outcomes) (c : RunRecord) (w : ℕ → DeviceTold) (d : MadeComeBack c.depot_old c.depot_new (places_in opener ss) w) where
  abbrev row : ℕ
  row = list_row opener

  -- the list, which is there, is covered
  covered : CoversList opener listing ideal_listing w → (l : Lister) → opener.list ≡ Some l → IsListCovered listing ideal_listing (w row)
  covered h l is = if_there (λ x. IsListCovered listing ideal_listing (w row)) opener.list l is h

  -- a row of the outer stream whose device counted so
  counted_row : (a : Option (DeviceTold → ℕ)) (q : ℕ) (p : Place) → at (opener_places opener) q ≡ Some p → IfSome a (λ n. 0 < n (w q)) → IfSome a (IsCountedRow (places_in opener ss) c.depot_old c.depot_new w d (opener_places opener))
  counted_row None q p is h = tt
  counted_row (Some n) q p is h = (q, p, outer_stands opener ss c w d q p is, place_found (opener_places opener) q p is, h)

  counted_table : (a : Option (DeviceTold → ℕ)) → IfSome a (λ n. (q : ℕ) × (0 ≤ q) × (q < 0 + length opener.tables) × (0 < n (w q))) → IfSome a (IsCountedRow (places_in opener ss) c.depot_old c.depot_new w d (opener_places opener))
  counted_table None h = tt
  counted_table (Some n) (q, l, u, h) = let p = at_some opener.tables q (omega (arith, u)) in counted_row (Some n) q p.0 (table_stands opener ss c w d q p.0 p.1) h

  -- a fault of the outer stream has a device of its rows that shows it
  pub outer_shown : RefusesTables opener → CoversList opener listing ideal_listing w → (outer : How) → IsOuterEnd opener listing (length ss) c w outer → IsShown (came_back c.depot_old c.depot_new) (opener_places opener) outer
  outer_shown refuses covers outer came =
      shown (places_in opener ss) c.depot_old c.depot_new w d (opener_places opener) outer (λ f is. by_cause f (subst (λ h. IsOuterEnd opener listing (length ss) c w h) is came))
    where
      by_cause : (f : Code) → IsOuterEnd opener listing (length ss) c w (how.Fault f) → IfSome (act_count f) (IsCountedRow (places_in opener ss) c.depot_old c.depot_new w d (opener_places opener))
      by_cause f came =
          ⊎_elim
          (λ t. counted_table (act_count f) (tables_show opener refuses c w f 0 opener.tables t.0))
          (λ t. let l = t.1 in counted_row (act_count f) row l.0.place (list_stands opener l.0 l.1) (list_shows l.0 listing ideal_listing (w row) (covered covers l.0 l.1) f l.3))
          came

  module _ (calm : (r : ℕ) → r < length (places_in opener ss) → faults_of (w r) ≡ 0) (covers : CoversList opener listing ideal_listing w) where
    list_calm : (l : Lister) → opener.list ≡ Some l → faults_of (w row) ≡ 0
    list_calm l is = calm row (at_below (places_in opener ss) row l.place (outer_stands opener ss c w d row l.place (list_stands opener l is)))

    -- where nothing failed the outer stream has no fault
    pub outer_well : (f : Code) → AllByRecursion (λ p. (bytes : List ℕ) × (content_at c.depot_old.files p.path ≡ Some bytes) × (opener.fault_of bytes ≡ None)) opener.tables
        → IfSome opener.list (λ l. AlwaysLists l (ideal_listing (w row)) (λ e. e ≡ Done)) → IsOuterEnd opener listing (length ss) c w (how.Fault f) → ⊥
    outer_well f good list came =
        ⊎_elim
        (λ t. tables_well opener ss c w d calm f good t.0)
        (λ t. let l = t.1 in list_well l.0 listing ideal_listing (w row) (covered covers l.0 l.1) (list_calm l.0 l.1) f l.3 (if_there (λ x. AlwaysLists x (ideal_listing (w row)) (λ e. e ≡ Done)) opener.list l.0 l.1 list))
        came

    -- and where it is done each line of the list was given a stream
    pub list_whole : IsOuterEnd opener listing (length ss) c w how.Done → IfSome opener.list (λ l. IsListing l (ideal_listing (w row)) Done)
    list_whole came = by_list opener.list refl
      where
        by_list : (o : Option Lister) → opener.list ≡ o → IfSome o (λ l. IsListing l (ideal_listing (w row)) Done)
        by_list None is = tt
        by_list (Some l) is =
            let read = if_there (λ x. IsListRead c row (w row) × IsListing x (listing (w row)) Done) opener.list l is came.2 in
            whole_listing l listing ideal_listing (w row) (covered covers l is) (list_calm l is) read.1
