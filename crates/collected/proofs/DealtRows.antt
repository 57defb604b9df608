-- The rows of a stream that was dealt with.
use Rattle.std.proofs.Common.{◌≡◌, ℕ, suc, ◌+◌, ◌<◌, ◌≤◌, List, [], ◌∷◌, map, length, Option, Some, None, slice_get, refl, sym, ◌∙◌, ap, subst, ⊎_elim, arith}
use Rattle.std.proofs.Math.Path.{fun_ext}
use Rattle.std.proofs.lemmas.List.{length-map}
use Rattle.std.proofs.lemmas.List.Sorted.{IsPermutation-sym}
use Rattle.std.specs.List.{range_with_len}
use Rattle.std.specs.List.Sorted.{IsPermutation}
use Rattle.chunk_core.proofs.Each.{among_each, among_permuted}
use Rattle.device_port.specs.Device.{Place, DeviceTold}
use Rattle.device_port.specs.Depot.{DepotTold, Files, KeepsFilesBut}
use Rattle.pipeline_desc.specs.Meant.{PlanMeant}
use Rattle.pipeline_desc.specs.Places.{first_row, stream_places}
use Rattle.pipeline_desc.specs.declared.stream.StreamSpec.{StreamSpec}
use Rattle.plan_work.specs.Plans.{specs_of}
use Rattle.pull_nodes.specs.declared.node.Node.{Node}
use Rattle.run_rules.specs.Homes.{IsUntouched}
use Rattle.stream_jobs.specs.Running.{Origin}
use Rattle.stream_parts.specs.Made.{MakesEach, MakesInVain, fresh_for}
use Rattle.stream_parts.specs.Retire.{IsWrittenBy}
use Rattle.stream_parts.specs.Same.{AreSame}
use Rattle.stream_parts.proofs.Making.{made_untouched}
use Rattle.joined_runs.specs.Devices.{IsAtRest}
use Rattle.dealt_streams.specs.Parts.{Deals, Part, spec_of}
use Rattle.dealt_streams.specs.Parts.Part.{Begun, Skipped, Unmade}
use Rattle.collected.proofs.OwnRows.{OwnRows, made_rows, used_own, vain_own, vain_untouched, waiting_own, waiting_untouched}
use Rattle.collected.proofs.PlanPlaces.{next_row, plan_rows, rows_below, some_same, there_at}
use Rattle.collected.proofs.Rows.{IsIn, RowsMade, bare_idle, bare_row, rows_bare, rows_own}

-- files that change nowhere are the same
files_fixed : (P : List ℕ → Type 0) (f g : Option Files) → ((path : List ℕ) → ¬ (P path)) → KeepsFilesBut P f g → g ≡ f
files_fixed P None None n k = refl
files_fixed P (Some f) (Some g) n k = ap Some (fun_ext (λ path. ⊎_elim (λ h. absurd (n path h)) (λ e. e) (k path)))
files_fixed P None (Some g) n k = absurd k
files_fixed P (Some f) None n k = absurd k

-- devices that were never opened leave the files as they are
vain_files : (old new : DepotTold) (places : List Place) → MakesInVain old new places → new.files ≡ old.files
vain_files old new places v =
    files_fixed (IsWrittenBy v.back.back) v.mid.files new.files
    (λ path w.
    let m = among_permuted v.back.back v.ds (IsPermutation-sym v.ds v.back.back v.back.each) w.0 w.1 in
    let u = (among_each IsUntouched w.0 v.ds (made_untouched old v.mid v.first v.ds v.makes) m).opens in
    let o = w.3 in
    omega (arith, u, o))
    v.back.exchanges.files
    ∙ ap (λ (x : DepotTold). x.files) v.makes.made

each_files : (old new : DepotTold) (places : List Place) (ds : List DeviceTold) → MakesEach old new places ds → new.files ≡ old.files
each_files old new places ds m = ap (λ (x : DepotTold). x.files) m.made

-- there is a device for each place
each_count : {V : Type 0} (told : V → DeviceTold) (old new : DepotTold) (places : List Place) (ds : List V) → MakesEach old new places (map told ds) → length ds ≡ length places
each_count told old new places ds m = sym (length-map ds told) ∙ (ap (λ (l : List DeviceTold). length l) m.devices ∙ fresh_count old places)
  where
    fresh_count : (o : DepotTold) (ps : List Place) → length (fresh_for o ps) ≡ length ps
    fresh_count o [] = refl
    fresh_count o (p ∷ ps) = ap suc (fresh_count _ ps)

module _ {V : Type 0} (told : V → DeviceTold) (p : PlanMeant) (lines : List (List ℕ)) (files : Option Files) (homes : ℕ → ℕ → DeviceTold) (stays : ℕ → List DeviceTold) where
  -- the rows of stream k
  abbrev pub IsOf : ℕ → ℕ → Type 0
  IsOf k r = IsIn (first_row p k) (first_row p (suc k)) r

  -- stream k ran over these devices, which came to tell its home, and are left
  pub record LeavesRun (k : ℕ) (ds : List V) : Type 0 where
    pub same : AreSame told (homes k) (first_row p k) ds
    pub still : (q : ℕ) → first_row p k ≤ q → q < first_row p k + length ds → IsAtRest (homes k q)
    pub each : IsPermutation (map (homes k) (range_with_len (first_row p k) (length ds))) (stays k)

  module _ (k : ℕ) (s : StreamSpec) (is : slice_get (specs_of p lines) k ≡ Some s) (old new : DepotTold) (same : old.files ≡ files) where
    -- rows of the stream's places are those up to the next stream
    own_here : (own : ℕ → DeviceTold) (gone left : List DeviceTold) → OwnRows own (first_row p k) (stream_places s) old new gone left → left ≡ stays k → RowsMade (plan_rows p lines) files own (IsOf k) old new gone (stays k)
    own_here own gone left m e =
        subst (λ l. RowsMade (plan_rows p lines) files own (IsOf k) old new gone l) e
        (subst (λ z. RowsMade (plan_rows p lines) files own (IsIn (first_row p k) z) old new gone left) (sym (next_row p lines k s is)) (rows_own (plan_rows p lines) files own (first_row p k) (stream_places s) old new gone left m same (there_at p lines k s is)))

    up_to : (r : ℕ) → r < first_row p (suc k) → r < first_row p k + length (stream_places s)
    up_to r l = let n = next_row p lines k s is in omega (arith, l, n)

  module _ {F : Type 0} where
    -- what is left of the devices of stream k
    abbrev pub Leaves : ℕ → Part V F → Type 0
    Leaves k (Begun n ds w) = LeavesRun k ds
    Leaves k Skipped = stays k ≡ []
    Leaves k (Unmade ds) = stays k ≡ map told ds

    -- what the rows of stream k have: its home, where it was begun, and else devices on which nothing was done
    abbrev pub HaveHome : ℕ → Part V F → (ℕ → DeviceTold) → Type 0
    HaveHome k (Begun n ds w) own = (r : ℕ) → first_row p k ≤ r → r < first_row p (suc k) → own r ≡ homes k r
    HaveHome k x own = (r : ℕ) → first_row p k ≤ r → r < first_row p (suc k) → IsUntouched (own r)

    pub record OneDealt (k : ℕ) (x : Part V F) (old new : DepotTold) : Type 0 where
      pub own : ℕ → DeviceTold
      pub gone : List DeviceTold
      pub rows : RowsMade (plan_rows p lines) files own (IsOf k) old new gone (stays k)
      pub same_files : new.files ≡ old.files
      pub home : HaveHome k x own

  -- the stream that was made is the one with this number
  spec_here : (before : List (List ℕ)) (k : ℕ) (s : StreamSpec) → slice_get (specs_of p lines) k ≡ Some s → spec_of p before k ≡ slice_get (specs_of p lines) k → (z : StreamSpec) → spec_of p before k ≡ Some z → z ≡ s
  spec_here before k s is named z e = some_same z s (sym e ∙ (named ∙ is))

  module _ {F : Type 0} (contents before : List (List ℕ)) (k : ℕ) (s : StreamSpec) (is : slice_get (specs_of p lines) k ≡ Some s) (named : spec_of p before k ≡ slice_get (specs_of p lines) k) (old new : DepotTold) (same : old.files ≡ files) where
    begun_dealt : (n : Node) (ds : List V) (w : Origin V F) → MakesEach old new (stream_places s) (map told ds) → LeavesRun k ds → OneDealt k (Begun n ds w) old new
    begun_dealt n ds w makes l = record {
      own = homes k;
      gone = [];
      rows = own_here k s is old new same (homes k) [] (stays k) (used_own (first_row p k) (stream_places s) old told new ds (homes k) (stays k) makes l.same l.still l.each (each_count told old new (stream_places s) ds makes)) refl;
      same_files = each_files old new (stream_places s) (map told ds) makes;
      home = λ r a b. refl;
    }

    waiting_dealt : (ds : List V) → MakesEach old new (stream_places s) (map told ds) → stays k ≡ map told ds → OneDealt {F = F} k (Unmade ds) old new
    waiting_dealt ds makes e = record {
      own = made_rows (first_row p k) (stream_places s) old new (map told ds);
      gone = [];
      rows = own_here k s is old new same (made_rows (first_row p k) (stream_places s) old new (map told ds)) [] (map told ds) (waiting_own (first_row p k) (stream_places s) old new (map told ds) makes) (sym e);
      same_files = each_files old new (stream_places s) (map told ds) makes;
      home = λ r a b. waiting_untouched (first_row p k) (stream_places s) old new (map told ds) makes r a (up_to k s is old new same r b);
    }

    vain_dealt : (ds : List V) → MakesInVain old new (stream_places s) → stays k ≡ [] → OneDealt {F = F} k (Unmade ds) old new
    vain_dealt ds v e = record {
      own = made_rows (first_row p k) (stream_places s) old v.mid v.ds;
      gone = v.back.back;
      rows = own_here k s is old new same (made_rows (first_row p k) (stream_places s) old v.mid v.ds) v.back.back [] (vain_own (first_row p k) (stream_places s) old new v) (sym e);
      same_files = vain_files old new (stream_places s) v;
      home = λ r a b. vain_untouched (first_row p k) (stream_places s) old new v r a (up_to k s is old new same r b);
    }

    bare_dealt : (x : Part V F) → ((own : ℕ → DeviceTold) → ((r : ℕ) → first_row p k ≤ r → r < first_row p (suc k) → IsUntouched (own r)) → HaveHome k x own) → new ≡ old → stays k ≡ [] → OneDealt k x old new
    bare_dealt x idle e none = record {
      own = bare_row (plan_rows p lines) files;
      gone = [];
      rows = subst (λ l. RowsMade (plan_rows p lines) files (bare_row (plan_rows p lines) files) (IsOf k) old new [] l) (sym none)
          (subst (λ d. RowsMade (plan_rows p lines) files (bare_row (plan_rows p lines) files) (IsOf k) old d [] []) (sym e) (rows_bare (plan_rows p lines) files (IsOf k) old));
      same_files = ap (λ (d : DepotTold). d.files) e;
      home = idle (bare_row (plan_rows p lines) files) (λ r a b. bare_idle (plan_rows p lines) files r (let l = rows_below p lines k s is in omega (arith, b, l)));
    }

    pub one_dealt : (x : Part V F) → Deals told p contents before k old new x → Leaves k x → OneDealt k x old new
    one_dealt (Begun n ds w) d l = begun_dealt n ds w (subst (λ (y : StreamSpec). MakesEach old new (stream_places y) (map told ds)) (spec_here before k s is named d.0 d.1) d.4) l
    one_dealt Skipped d l = bare_dealt Skipped (λ own h. h) d.1 l
    one_dealt (Unmade ds) d l =
        let e = spec_here before k s is named d.0 d.1 in
        ⊎_elim
        (λ n.
        let none : stays k ≡ [] = l ∙ ap (map told) n.0 in
        ⊎_elim (λ same_depot. bare_dealt (Unmade ds) (λ own h. h) same_depot none) (λ v. vain_dealt ds (subst (λ (y : StreamSpec). MakesInVain old new (stream_places y)) e v) none) n.1)
        (λ m. waiting_dealt ds (subst (λ (y : StreamSpec). MakesEach old new (stream_places y) (map told ds)) e m) l)
        d.3

  pub home_same : {F : Type 0} (k : ℕ) (x : Part V F) (v w : ℕ → DeviceTold) → ((r : ℕ) → first_row p k ≤ r → r < first_row p (suc k) → v r ≡ w r) → HaveHome k x v → HaveHome k x w
  home_same k (Begun n ds z) v w e h = λ r a b. sym (e r a b) ∙ h r a b
  home_same k Skipped v w e h = λ r a b. subst IsUntouched (e r a b) (h r a b)
  home_same k (Unmade ds) v w e h = λ r a b. subst IsUntouched (e r a b) (h r a b)
