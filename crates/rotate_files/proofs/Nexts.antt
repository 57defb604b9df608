-- The next file of a rotation, or why there is none.
use Rattle.std.proofs.Common.{◌≡◌, ◌≢◌, ℕ, zero, suc, ◌+◌, ◌*◌, ◌<◌, ◌≤◌, Bool, true, false, List, [], ◌∷◌, ◌++◌, length, map, Option, Some, None, IfSome, option_map, Result, Ok, Err, refl, sym, ap, ◌∙◌, subst, ⊎_elim, arith, append_assoc, length-append, add-one}
use Rattle.std.specs.List.{range_with_len}
use Rattle.std.specs.Result.{IsErr, IsErrAnd, OnErr, OnOk, is_err}
use Rattle.std.proofs.lemmas.Bool.{cases_lt}
use Rattle.std.proofs.lemmas.List.{length-map, map-append}
use Rattle.std.proofs.lemmas.List.FromFn.{length-range_with_len}
use Rattle.std.proofs.lemmas.Result.{err_from_is_err_and}
use Rattle.chunk_core.specs.declared.code.Exit.{Exit}
use Rattle.chunk_core.specs.Lists.{IsAmong}
use Rattle.device_port.specs.declared.device.Mode.TheVariants as mode
use Rattle.device_port.specs.Device.{DeviceTold, Place, to_read}
use Rattle.device_port.specs.Depot.{DepotTold, IsUnknown, Makes, fresh}
use Rattle.run_rules.specs.Facts.{first_numbers}
use Rattle.scope_tree.specs.Calls.{Seen, TakesRoom}
use Rattle.scope_tree.specs.Trace.{owed}
use Rattle.tree_laws.specs.Alone.{StaysAlone}
use Rattle.tree_laws.specs.Called.{Called}
use Rattle.pull_stepper.specs.Held.{FinishesDevice}
use Rattle.hot_swap.specs.declared.swap.Held.{Held}
use Rattle.hot_swap.specs.Swaps.{IsHolding, IsUnleased, TakesPlace}
use Rattle.rotate_rules.specs.Pieces.{file_name, piece_of}
use Rattle.rotate_files.specs.declared.stop.Stop.{Stop}
use Rattle.rotate_files.specs.declared.stop.Stop.TheVariants as stop
use Rattle.rotate_files.specs.Rotating.{IsInStep, IsRotating, last_piece}
use Rattle.rotate_files.specs.Stops.{NextFile}
use Rattle.rotate_files.specs.Told.{HasMade, file_place, file_told, having_made, made_device, opened_device, unopened_device}
use Rattle.rotate_files.proofs.Swapping.{piece_none, swapped_in}

pub when_err : {T E : Type 0} {P : Type 0} (r : Result T E) → true ≡ is_err r → OnErr r P → P
when_err (Ok x) e h = cc
when_err (Err x) e h = h

pub when_ok : {T E : Type 0} {P : Type 0} (r : Result T E) → false ≡ is_err r → OnOk r P → P
when_ok (Ok x) e h = h
when_ok (Err x) e h = cc

range_snoc : (a k : ℕ) → range_with_len a (suc k) ≡ range_with_len a k ++ (a + k) ∷ []
range_snoc a zero = let z : a ≡ a + 0 = omega arith in ap (λ x. x ∷ []) z
range_snoc a (suc k) = let z : a + 1 + k ≡ a + suc k = omega arith in ap (λ l. a ∷ l) (range_snoc (a + 1) k ∙ ap (λ x. range_with_len (a + 1) k ++ x ∷ []) z)

pub numbers_snoc : (k : ℕ) → first_numbers (suc k) ≡ first_numbers k ++ k ∷ []
numbers_snoc k = range_snoc 0 k ∙ (let z : 0 + k ≡ k = omega arith in ap (λ x. first_numbers k ++ x ∷ []) z)

module _ (old : DepotTold) (path prefix : List ℕ) where
  -- a device for one file more
  having_more : (k : ℕ) → having_made old path prefix (suc k) ≡ record (having_made old path prefix k) { made = (having_made old path prefix k).made ++ file_place prefix k ∷ [] }
  having_more k =
      let f : ℕ → Place = λ i. file_place prefix i in
      ap (λ l. let d : DepotTold = record old { made = old.made ++ (to_read path ∷ l) } in d) (ap (map f) (numbers_snoc k) ∙ map-append f (first_numbers k) (k ∷ []))
      ∙ ap (λ l. let d : DepotTold = record old { made = l } in d) (sym (append_assoc old.made (to_read path ∷ map f (first_numbers k)) (file_place prefix k ∷ [])))

  made_count : (k : ℕ) → length (having_made old path prefix k).made ≡ length old.made + suc k
  made_count k =
      let f : ℕ → Place = λ i. file_place prefix i in
      let whole = length-append old.made (to_read path ∷ map f (first_numbers k)) in
      let rest = length-map (first_numbers k) f in
      let size = length-range_with_len 0 k in
      omega (arith, whole, rest, size)

  fresh_made : (k : ℕ) (p : Place) → fresh (having_made old path prefix k) p ≡ made_device old (suc k) p
  fresh_made k p = ap (λ m. let d : DeviceTold = record (fresh old p) { number = m } in d) (made_count k)

  -- what making the next device leaves
  made_next : (k : ℕ) (now new : DepotTold) (d : DeviceTold) → HasMade old path prefix k now → Makes now new (file_name prefix k) mode.Write d → HasMade old path prefix (suc k) new × (d ≡ made_device old (suc k) (file_place prefix k))
  made_next k now new d has m =
      let is = has.is in
      let device : d ≡ made_device old (suc k) (file_place prefix k) = m.device ∙ (ap (λ x. fresh x (file_place prefix k)) is ∙ fresh_made k (file_place prefix k)) in
      let known : IsUnknown (length old.made + suc k) old.retired = subst (λ (x : DepotTold). IsUnknown (length old.made + suc k) x.retired) is (subst (λ (x : DeviceTold). IsUnknown x.number now.retired) device m.unknown) in (
        record {
          is = m.made ∙ (ap (λ (x : DepotTold). let y : DepotTold = record x { made = x.made ++ file_place prefix k ∷ [] } in y) is ∙ sym (having_more k));
          unknown = λ r l.
              ⊎_elim
              (λ (b : r < suc k). has.unknown r (omega arith))
              (λ (b : suc k ≤ r). let e : suc k ≡ r = omega arith in subst (λ i. IsUnknown (length old.made + i) old.retired) e known)
              (cases_lt r (suc k));
        },
        device,
      )

module _ {V : Type 0} (told : V → DeviceTold) (old : DepotTold) (prefix : List ℕ) (n : ℕ) (path : List ℕ) (a : Seen V) (h : Option Held) (now : DepotTold) (files : ℕ) (given : List ℕ) (src : V) (q : IsInStep told old prefix n path a h now files 0 given src) where
  -- where not all are there, fewer are
  pub few_files : files ≢ 1024 → files < 1024
  few_files ne = let f = q.rotating.few in ⊎_elim (λ l. l) (λ (g : 1024 ≤ files). absurd (ne (omega arith))) (cases_lt files 1024)

  -- there was no memory for it
  pub next_memory : {T : Type 0} (r : Result T (Stop V)) (new : DepotTold) → new ≡ now → IsErrAnd r (λ e. e ≡ stop.Memory) → NextFile told old prefix n path a h new files given src r
  next_memory r new same w =
      let e = err_from_is_err_and r w in
      subst (λ x. NextFile told old prefix n path a h new files given src x) (sym (e.1 ∙ ap (λ s. Err s) e.2)) ((λ x. cc), (files, record { rotating = q.rotating; made = record { is = same ∙ q.made.is; unknown = q.made.unknown }; count = q.count; fits = q.fits }))

  -- it couldn't be opened
  pub next_unopened : (T : Type 0) (new : DepotTold) (d e : V) → files < 1024 → Makes now new (file_name prefix files) mode.Write (told d) → told e ≡ record (told d) { open_faults = (told d).open_faults + 1 } → NextFile told old prefix n path {T = T} a h new files given src (Err (stop.Unopened e))
  next_unopened T new d e few makes failed =
      let m = made_next old path prefix files now new (told d) q.made makes in (
        (λ x. cc),
        (
          files,
          record {
            rotating = q.rotating;
            few = few;
            made = m.0;
            count = (let c = q.count in omega arith);
            device = failed ∙ ap (λ (x : DeviceTold). let y : DeviceTold = record x { open_faults = x.open_faults + 1 } in y) m.1;
          },
        ),
      )

  -- it is there
  pub next_ok : (new : DepotTold) (b : Seen V) (k : Option Held) (r : ℕ) (d e p : V) → files < 1024 → r ≡ suc files → Makes now new (file_name prefix files) mode.Write (told d) → told e ≡ record (told d) { is_open = true; opens = 1 } → p ≡ e
      → option_map (λ (x : Held). x.row) k ≡ Some r → (IsUnleased a.seat → IfSome k (TakesPlace (FinishesDevice told) a h r p b)) → IsHolding b k → ((s : ℕ) → s ≢ r → IsAmong s a.seat.empty → IsAmong s b.seat.empty) → StaysAlone a.seat b.seat
      → a.seat.spare + owed b.seat ≤ b.seat.spare + owed a.seat + 4 → ((x : Seen V) (Cs : List (ℕ × List ℕ)) → Called (FinishesDevice told) x Cs a → Called (FinishesDevice told) x Cs b) → TakesRoom 1 1 a b → IsInStep told old prefix n path b k new r n given src
  next_ok new b k r d e p few is makes opened same current takes holding empty alone free calls room =
      let m = made_next old path prefix files now new (told d) q.made makes in
      let full : length given ≡ files * n = (let c = q.count in omega arith) in
      let device : told p ≡ file_told old prefix files (piece_of n given files) 0 = ap told same ∙ (opened ∙ (ap (λ (x : DeviceTold). let y : DeviceTold = record x { is_open = true; opens = 1 } in y) m.1 ∙ ap (λ l. file_told old prefix files l 0) (sym (piece_none n given files full)))) in
      let rotating = swapped_in told old prefix n a b h k files given src p q.rotating few (current ∙ ap (λ x. Some x) is) (λ u. subst (λ x. IfSome k (TakesPlace (FinishesDevice told) a h x p b)) is (takes u)) holding (λ s ne i. empty s (λ x. ne (x ∙ is)) i) alone free calls room device in
      subst (λ x. IsInStep told old prefix n path b k new x n given src) (sym is) (record { rotating = rotating; made = m.0; count = omega (arith, full); fits = omega arith })
