-- What the files of a rotation hold, and what its devices tell.
use Rattle.std.proofs.Common.{◌≡◌, ◌≢◌, ◌↔◌, ◌⊎◌, ℕ, zero, suc, ◌+◌, ◌*◌, ◌<◌, ◌≤◌, Bool, true, false, nat_eq, List, [], ◌∷◌, ◌++◌, length, map, Option, Some, None, IfSome, option_map, refl, sym, ap, ◌∙◌, subst, ⊎_elim, arith, length-append}
use Rattle.std.proofs.lemmas.Bool.{cases_lt}
use Rattle.std.proofs.lemmas.List.{length-map}
use Rattle.chunk_core.specs.Lists.{IsAmong}
use Rattle.chunk_core.specs.Outcomes.{End, Done, Fault, Cut}
use Rattle.chunk_core.specs.declared.code.Code.{Code}
use Rattle.chunk_core.specs.declared.code.Code.TheVariants as code
use Rattle.chunk_core.specs.declared.code.Exit.{Exit}
use Rattle.chunk_core.specs.declared.code.Exit.TheVariants.{Succeeded}
use Rattle.chunk_core.specs.declared.code.How.{How}
use Rattle.chunk_core.specs.declared.code.How.TheVariants as how
use Rattle.device_port.specs.Device.{DeviceTold, Place, to_read}
use Rattle.device_port.specs.Depot.{DepotTold, Files, content_at}
use Rattle.run_rules.specs.Ends.{act_count}
use Rattle.run_rules.specs.Facts.{at}
use Rattle.pull_turns.specs.Led.{end_of}
use Rattle.pull_stepper.specs.Held.{closed_as}
use Rattle.scope_tree.specs.declared.branch.Spent.{Spent}
use Rattle.scope_tree.specs.Calls.{Seen}
use Rattle.hot_swap.specs.declared.swap.Held.{Held}
use Rattle.joined_runs.proofs.MadeRows.{at_below, at_some, place_found}
use Rattle.rotate_rules.specs.Pieces.{EndSays, IsFront, IsLast, Rotated, piece_of}
use Rattle.rotate_rules.specs.Rotation.{TellsFaults}
use Rattle.rotate_files.specs.Told.{file_place, file_told, source_told, unopened_device}
use Rattle.rotate_run.specs.Homes.{AreLeft, AreShelved, IsLeft, devices_by_row, home_of}
use Rattle.rotate_run.proofs.Came.{Came, HasCause, says_closed}
use Rattle.rotate_run.proofs.Left.{home_here, row_device, untouched_past}
use Rattle.rotate_run.proofs.Lists.{at_behind, at_map, at_split}
use Rattle.rotate_run.proofs.Places.{ArePlaces}
use Rattle.rotate_run.proofs.Shelving.{IsClosable, Spends, left_closed, left_unopened}

-- Closing changes only how a device was closed.

content_kept : (x : Exit) (ok : Bool) (d : DeviceTold) → (closed_as x ok d).content ≡ d.content
content_kept x true d = refl
content_kept x false d = refl

written_kept : (x : Exit) (ok : Bool) (d : DeviceTold) → (closed_as x ok d).written ≡ d.written
written_kept x true d = refl
written_kept x false d = refl

opens_kept : (x : Exit) (ok : Bool) (d : DeviceTold) → (closed_as x ok d).opens ≡ d.opens
opens_kept x true d = refl
opens_kept x false d = refl

reads_kept : (x : Exit) (ok : Bool) (d : DeviceTold) → (closed_as x ok d).read_faults ≡ d.read_faults
reads_kept x true d = refl
reads_kept x false d = refl

writes_kept : (x : Exit) (ok : Bool) (d : DeviceTold) → (closed_as x ok d).write_faults ≡ d.write_faults
writes_kept x true d = refl
writes_kept x false d = refl

-- what holds of what was written, where it is told
told_so : (f : Option Files) (l : List ℕ) (P : List ℕ → Type 0) → P l → IfSome (option_map (λ x. l) f) P
told_so None l P p = tt
told_so (Some f) l P p = p

no_more_than_one : {A : Type 0} (xs : List A) (j : ℕ) (x : A) → length xs ≤ 1 → at xs j ≡ Some x → j ≡ 0
no_more_than_one xs j x few e = let l = at_below xs j x e in omega (arith, l, few)

module _ {V : Type 0} (told : V → DeviceTold) (old : DepotTold) (path prefix : List ℕ) (n : ℕ) (places : List Place) (ps : ArePlaces path prefix places) (a : Seen V) (g : Option Held) (now : DepotTold) (h : How) (x : Exit) (unopened : List V)
    (q : Came told old prefix n path a g now h unopened) (shelf spents : List (Spent V)) (s : Spends told old prefix n path x q.files q.given q.written q.writes q.read q.ended q.reads shelf spents) where
  abbrev source : DeviceTold
  source = source_told old path q.read q.ended q.reads

  closable_source : IsClosable places old h 0 (to_read path) source
  closable_source = record {
    stands = ps.first;
    number_is = refl;
    place_is = refl;
    content_is = refl;
    opens = refl;
    closes = refl;
    closed_well = refl;
    told = record { opens = λ l. absurd (omega arith); reads = q.reads_so; writes = λ l. absurd (omega arith) };
  }

  closable_file : (i : ℕ) (written : List ℕ) (writes : ℕ) → i < 1024 → (0 < writes → h ≡ how.Fault code.Write) → IsClosable places old h (suc i) (file_place prefix i) (file_told old prefix i written writes)
  closable_file i written writes few so = record {
    stands = ps.file i few;
    number_is = refl;
    place_is = refl;
    content_is = refl;
    opens = refl;
    closes = refl;
    closed_well = refl;
    told = record { opens = λ l. absurd (omega arith); reads = λ l. absurd (omega arith); writes = so };
  }

  -- a row on the shelf
  abbrev IsSpent : ℕ → Spent V → Type 0
  IsSpent r y = (y.row ≡ r) × IsLeft places old h r (told y.pay) × ((told y.pay).opens ≡ 1) × ((told y.pay).exit ≡ Some y.exit) × (y.ok ≡ nat_eq (told y.pay).close_faults 0)

  spent_as : (r : ℕ) (y : Spent V) (p : Place) (e : Exit) (d : DeviceTold) → IsClosable places old h r p d → y.row ≡ r → y.exit ≡ e → told y.pay ≡ closed_as e y.ok d → IsSpent r y
  spent_as r y p e d c row exit is = let t = left_closed places old h r p e y.ok d (told y.pay) c is in (row, t.0, t.1, t.2 ∙ ap (λ z. Some z) (sym exit), t.3)

  spent_at : (r : ℕ) (y : Spent V) → at spents r ≡ Some y → IsSpent r y
  spent_at zero y e = let t = s.source y e in spent_as 0 y (to_read path) x source closable_source t.0 t.1 t.2
  spent_at (suc i) y e =
      let b = at_below spents (suc i) y e in
      let c = s.count in
      let few = q.few in
      ⊎_elim
      (λ (l : suc i < q.files). let t = s.full i y l e in spent_as (suc i) y (file_place prefix i) Succeeded (file_told old prefix i (piece_of n q.given i) 0) (closable_file i (piece_of n q.given i) 0 (omega (arith, l, few)) (λ z. absurd (omega arith))) t.0 t.1 t.2)
      (λ (l : q.files ≤ suc i).
      let i_is : suc i ≡ q.files = omega (arith, l, b, c) in
      let t = s.last i y i_is e in
      spent_as (suc i) y (file_place prefix i) x (file_told old prefix i q.written q.writes) (closable_file i q.written q.writes (omega (arith, i_is, few)) q.writes_so) t.0 t.1 t.2)
      (cases_lt (suc i) q.files)

  spent_devices_count : length (map (λ (y : Spent V). told y.pay) spents) ≡ suc q.files
  spent_devices_count = length-map spents (λ (y : Spent V). told y.pay) ∙ s.count

  count : length (devices_by_row told spents unopened) ≡ suc (q.files + length unopened)
  count = let l = length-append (map (λ (y : Spent V). told y.pay) spents) (map (λ d. told d) unopened) in let m = length-map unopened (λ d. told d) in let k = spent_devices_count in omega (arith, l, m, k)

  -- the device that couldn't be opened is that of the next row
  waits_at : (d : DeviceTold) (j : ℕ) → at (map (λ v. told v) unopened) j ≡ Some d → IsLeft places old h (suc q.files) d × (d.opens ≡ 0)
  waits_at d j e =
      let b = at_below (map (λ v. told v) unopened) j d e in
      let m = length-map unopened (λ v. told v) in
      let v = at_some unopened j (omega (arith, b, m)) in
      let t = q.waits v.0 (place_found unopened j v.0 v.1) in
      let few = q.few in
      let is : Some d ≡ Some (told v.0) = sym e ∙ at_map (λ y. told y) unopened j v.0 v.1 in
      let d_is : d ≡ told v.0 = cc in
      left_unopened places old h (suc q.files) (file_place prefix q.files) d (ps.file q.files (omega (arith, b, m, few))) (d_is ∙ t.0) t.1

  left_at : (r : ℕ) (d : DeviceTold) → at (devices_by_row told spents unopened) r ≡ Some d → IsLeft places old h r d
  left_at r d e =
      ⊎_elim
      (λ f.
      let b = at_below (map (λ (y : Spent V). told y.pay) spents) r d f in
      let m = length-map spents (λ (y : Spent V). told y.pay) in
      let y = at_some spents r (omega (arith, b, m)) in
      let is : Some d ≡ Some (told y.0.pay) = sym f ∙ at_map (λ (z : Spent V). told z.pay) spents r y.0 y.1 in
      let d_is : told y.0.pay ≡ d = cc in
      subst (IsLeft places old h r) d_is (spent_at r y.0 y.1).1)
      (λ z.
      let b = at_below (map (λ v. told v) unopened) z.0 d z.2 in
      let m = length-map unopened (λ v. told v) in
      let one = q.alone in
      let k = spent_devices_count in
      let j = z.1 in
      let r_is : suc q.files ≡ r = omega (arith, b, m, one, k, j) in
      subst (λ i. IsLeft places old h i d) r_is (waits_at d z.0 z.2).0)
      (at_split (map (λ (y : Spent V). told y.pay) spents) (map (λ v. told v) unopened) r d e)

  pub are_left : AreLeft places old h (devices_by_row told spents unopened)
  are_left = record { few = (let c = count in let f = q.few in let m = ps.count in omega (arith, c, f, m)); each = left_at }

  pub shelved : AreShelved places old told h spents shelf unopened
  shelved = record { same = s.same; each = λ r y e. (let t = spent_at r y e in (t.0, t.2, t.3, t.4)); waits = λ d m. ap (λ (y : DeviceTold). y.opens) (q.waits d m).0; left = are_left }

  pub size : length (devices_by_row told spents unopened) ≡ suc (q.files + length unopened)
  size = count

  abbrev pub home : ℕ → DeviceTold
  home = home_of places old (devices_by_row told spents unopened)

  at_row : (r : ℕ) → r < suc q.files → (y : Spent V) × (at spents r ≡ Some y) × (home r ≡ told y.pay)
  at_row r l = let c = s.count in let y = at_some spents r (omega (arith, l, c)) in (y.0, y.1, row_device told places old h spents shelf unopened shelved r y.0 y.1)

  source_home : (ok : Bool) × (home 0 ≡ closed_as x ok source)
  source_home = let y = at_row 0 (omega arith) in (y.0.ok, y.2 ∙ (s.source y.0 y.1).2)

  full_home : (i : ℕ) → suc i < q.files → (ok : Bool) × (home (suc i) ≡ closed_as Succeeded ok (file_told old prefix i (piece_of n q.given i) 0))
  full_home i l = let y = at_row (suc i) (omega arith) in (y.0.ok, y.2 ∙ (s.full i y.0 l y.1).2)

  last_home : (i : ℕ) → suc i ≡ q.files → (ok : Bool) × (home (suc i) ≡ closed_as x ok (file_told old prefix i q.written q.writes))
  last_home i l = let y = at_row (suc i) (omega (arith, l)) in (y.0.ok, y.2 ∙ (s.last i y.0 l y.1).2)

  opened_home : (i : ℕ) → i < q.files → (home (suc i)).opens ≡ 1
  opened_home i l = let y = at_row (suc i) (omega (arith, l)) in ap (λ (d : DeviceTold). d.opens) y.2 ∙ (spent_at (suc i) y.0 y.1).2

  unopened_home : (i : ℕ) → q.files ≤ i → (home (suc i)).opens ≡ 0
  unopened_home i l =
      ⊎_elim
      (λ (b : suc i < length (devices_by_row told spents unopened)).
      let d = at_some (devices_by_row told spents unopened) (suc i) b in
      ⊎_elim
      (λ f. let k = at_below (map (λ (y : Spent V). told y.pay) spents) (suc i) d.0 f in let c = spent_devices_count in absurd (omega (arith, k, c, l)))
      (λ z. ap (λ (y : DeviceTold). y.opens) (home_here places old h (devices_by_row told spents unopened) are_left (suc i) d.0 d.1) ∙ (waits_at d.0 z.0 z.2).1)
      (at_split (map (λ (y : Spent V). told y.pay) spents) (map (λ v. told v) unopened) (suc i) d.0 d.1))
      (λ (b : length (devices_by_row told spents unopened) ≤ suc i). (untouched_past places old h (devices_by_row told spents unopened) are_left (suc i) b).opens)
      (cases_lt (suc i) (length (devices_by_row told spents unopened)))

  next_is : (i : ℕ) → suc i ≡ 1 + i
  next_is i = omega arith

  pub rotated : Rotated n home (end_of h)
  rotated = record {
    given = q.given;
    files = q.files;
    few = let f = q.few in omega (arith, f);
    front = subst (λ o. IfSome o (λ c. IsFront q.given c)) (sym (ap (λ (d : DeviceTold). d.content) source_home.1 ∙ content_kept x source_home.0 source)) q.front;
    opened = λ i m. subst (λ k. (i < q.files) ↔ ((home k).opens ≡ 1)) (next_is i) (
      λ l. opened_home i l,
      λ e. ⊎_elim (λ (l : i < q.files). l) (λ (l : q.files ≤ i). let z = unopened_home i l in absurd (omega (arith, z, e))) (cases_lt i q.files),
    );
    enough = q.enough;
    whole = λ i l. subst (λ k. IfSome (home k).written (λ b. b ≡ piece_of n q.given i)) (next_is i)
        (let t = full_home i (omega (arith, l)) in
        subst (λ o. IfSome o (λ b. b ≡ piece_of n q.given i)) (sym (ap (λ (d : DeviceTold). d.written) t.1 ∙ written_kept Succeeded t.0 (file_told old prefix i (piece_of n q.given i) 0))) (told_so old.files (piece_of n q.given i) (λ b. b ≡ piece_of n q.given i) refl));
    last = λ i l. subst (λ k. IfSome (home k).written (λ b. IsLast (end_of h) b (piece_of n q.given i))) (next_is i)
        (let e : suc i ≡ q.files = omega (arith, l) in
        let t = last_home i e in
        subst (λ o. IfSome o (λ b. IsLast (end_of h) b (piece_of n q.given i))) (sym (ap (λ (d : DeviceTold). d.written) t.1 ∙ written_kept x t.0 (file_told old prefix i q.written q.writes)))
        (told_so old.files q.written (λ b. IsLast (end_of h) b (piece_of n q.given i)) (q.last i e)));
    says = subst (λ d. EndSays n d q.given (end_of h)) (sym source_home.1) (says_closed n x source_home.0 source q.given (end_of h) q.says);
  }

  -- a fault of an act shows on the device of a row
  shown_by : (c : Code) → HasCause (how.Fault c) q.reads q.writes q.files unopened → IfSome (act_count c) (λ m. (r : ℕ) × (r < length places) × (0 < m (home r)))
  shown_by code.Read k = let f = ap (λ (d : DeviceTold). d.read_faults) source_home.1 ∙ reads_kept x source_home.0 source in let m = ps.count in (0, omega (arith, m), omega (arith, f, k))
  shown_by code.Write k = shown_write q.files refl k.1 k.0
    where
      shown_write : (files : ℕ) → files ≡ q.files → 1 ≤ files → 1 ≤ q.writes → (r : ℕ) × (r < length places) × (0 < (home r).write_faults)
      shown_write zero e l k = absurd (omega arith)
      shown_write (suc i) e l k =
          let t = last_home i e in
          let f = ap (λ (d : DeviceTold). d.write_faults) t.1 ∙ writes_kept x t.0 (file_told old prefix i q.written q.writes) in
          let m = ps.count in
          let few = q.few in
          (suc i, omega (arith, m, few, e), omega (arith, f, k))
  shown_by code.Open k =
      let us : unopened ≡ k.0 ∷ [] = k.1 in
      let c = count in
      let one : length unopened ≡ 1 = ap (λ (l : List V). length l) us in
      let b : suc q.files < length (devices_by_row told spents unopened) = omega (arith, c, one) in
      let d = at_some (devices_by_row told spents unopened) (suc q.files) b in
      let is = home_here places old h (devices_by_row told spents unopened) are_left (suc q.files) d.0 d.1 in
      let m = ps.count in
      let few = q.few in
      let at_first : at (devices_by_row told spents unopened) (suc q.files) ≡ Some (told k.0) =
      ap (λ i. at (devices_by_row told spents unopened) i) (let z : suc q.files ≡ length (map (λ (y : Spent V). told y.pay) spents) + 0 = (let w = spent_devices_count in omega (arith, w)) in z)
      ∙ (at_behind (map (λ (y : Spent V). told y.pay) spents) (map (λ v. told v) unopened) 0 ∙ ap (λ (l : List V). at (map (λ v. told v) l) 0) us) in
      let same : Some d.0 ≡ Some (told k.0) = sym d.1 ∙ at_first in
      let d_is : d.0 ≡ told k.0 = cc in
      let t = (q.waits k.0 (place_found unopened 0 k.0 (ap (λ (l : List V). at l 0) us))).0 in
      let f : (home (suc q.files)).open_faults ≡ 1 = ap (λ (y : DeviceTold). y.open_faults) (is ∙ (d_is ∙ t)) in
      (suc q.files, omega (arith, m, few, one), omega (arith, f))
  shown_by code.TooMany k = tt
  shown_by c k = absurd k

  pub shown : (c : Code) → h ≡ how.Fault c → IfSome (act_count c) (λ m. (r : ℕ) × (r < length places) × (0 < m (home r)))
  shown c e = shown_by c (subst (λ k. HasCause k q.reads q.writes q.files unopened) e q.cause)

  pub unhalted : h ≢ how.Halted
  unhalted e = subst (λ k. HasCause k q.reads q.writes q.files unopened) e q.cause
