-- A rotation after a read of the file that is copied.
use Rattle.std.proofs.Common.{◌≡◌, ◌≢◌, ℕ, zero, suc, ◌+◌, ◌-◌, ◌*◌, ◌<◌, ◌≤◌, ◌^◌, Bool, true, false, nat_eq, List, [], ◌∷◌, ◌++◌, length, take, drop, Option, Some, None, IfSome, Result, Ok, Err, refl, sym, ap, ◌∙◌, subst, arith, append_assoc, append-nil, length-append}
use Rattle.std.specs.Result.{IsErrAnd}
use Rattle.std.proofs.lemmas.Bool.{ne_eqb}
use Rattle.std.proofs.lemmas.Result.{err_from_is_err_and}
use Rattle.std.proofs.lemmas.List.{take-append-drop, length-take}
use Rattle.std.proofs.Math.Nat.{mul-le-mul_right}
use Rattle.std.proofs.Math.Seq.{drop-append_seam}
use Rattle.chunk_core.specs.Lists.{IsAmong}
use Rattle.device_port.specs.Device.{DeviceTold, moved}
use Rattle.device_port.specs.Depot.{DepotTold, content_at}
use Rattle.row_seat.specs.Views.{HasRow}
use Rattle.scope_tree.specs.Calls.{Seen}
use Rattle.hot_swap.specs.declared.swap.Held.{Held}
use Rattle.rotate_rules.specs.Pieces.{IsFront}
use Rattle.rotate_files.specs.Acts.{IsReadable, Reads, ReadsRow}
use Rattle.device_port.specs.declared.Failed.{Failed}
use Rattle.rotate_files.specs.declared.stop.Stop.{Stop}
use Rattle.rotate_files.specs.declared.stop.Stop.TheVariants as stop
use Rattle.rotate_files.specs.Stops.{StopsWithin}
use Rattle.rotate_files.specs.Copies.{Copies, IsCopying, IsSource, StopsCopying}
use Rattle.rotate_files.specs.Rotating.{IsInStep, IsRotating, last_piece}
use Rattle.rotate_files.specs.Told.{source_told}
use Rattle.rotate_files.proofs.Writes.{repaid, source_is, source_last, source_row}

-- the next bytes of a content behind a front of it
front_more : (o : Option (List ℕ)) (given buf : List ℕ) (k : ℕ) → IfSome o (λ c. IsFront given c) → IfSome o (λ c. take k buf ≡ take k (drop (length given) c)) → IfSome o (λ c. IsFront (given ++ take k buf) c)
front_more None given buf k f b = tt
front_more (Some c) given buf k f b =
    let rest : drop (length given) c ≡ f.0 = ap (λ l. drop (length given) l) f.1 ∙ drop-append_seam given f.0 in
    let next : take k buf ≡ take k f.0 = b ∙ ap (λ (l : List ℕ). take k l) rest in
    (drop k f.0, f.1 ∙ (ap (λ l. given ++ l) (sym (take-append-drop k f.0) ∙ ap (λ l. l ++ drop k f.0) (sym next)) ∙ sym (append_assoc given (take k buf) (drop k f.0))))

-- at the end nothing is left of it
front_whole : (o : Option (List ℕ)) (given : List ℕ) → IfSome o (λ c. IsFront given c) → IfSome o (λ c. length c ≤ length given) → IfSome o (λ c. given ≡ c)
front_whole None given f l = tt
front_whole (Some c) given f l = let size = ap length f.1 ∙ length-append given f.0 in sym (f.1 ∙ (ap (λ r. given ++ r) (none f.0 (omega (arith, size, l))) ∙ append-nil given))
  where
    none : (xs : List ℕ) → length xs ≤ 0 → xs ≡ []
    none [] h = refl
    none (x ∷ xs) h = absurd (omega arith)

module _ {V : Type 0} (told : V → DeviceTold) (old : DepotTold) (prefix : List ℕ) (n : ℕ) (path : List ℕ) (a : Seen V) (h : Option Held) (now : DepotTold) (files left : ℕ) (ended : Bool) (q : IsCopying told old prefix n path a h now files left ended 0) where
  pub source_there : HasRow a.seat.opened 0
  source_there = source_row told old prefix n a h files q.given (last_piece n q.given files) 0 q.src q.step.rotating

  source_told_so : (d : V) → IsAmong (0, d) a.seat.opened → told d ≡ source_told old path (length q.given) ended 0
  source_told_so d m = ap told (source_is told old prefix n a h files q.given (last_piece n q.given files) 0 q.src q.step.rotating d m) ∙ q.source.device

  pub source_readable : (d : V) → IsAmong (0, d) a.seat.opened → IsReadable (told d)
  source_readable d m = subst IsReadable (sym (source_told_so d m)) (record { is_open = refl; mode = refl; room = omega arith })

  module _ (b : Seen V) (k : Option Held) (buf : List ℕ) (r : Result ℕ Failed) (w : ReadsRow told 0 a b buf r) (same : k ≡ h) where
    pub step_with : IsInStep told old prefix n path b k now files left q.given w.after
    step_with =
        subst (λ o. IsInStep told old prefix n path b o now files left q.given w.after) (sym same) (record {
          rotating = repaid told old prefix n a h files q.given (last_piece n q.given files) 0 q.src q.step.rotating b 0 w.after source_there w.tree q.given (last_piece n q.given files) 0 w.after
              (source_last told old prefix n a h files q.given (last_piece n q.given files) 0 q.src q.step.rotating w.after) q.step.rotating.finished;
          made = q.step.made;
          count = q.step.count;
          fits = q.step.fits;
        })

    was : told w.before ≡ source_told old path (length q.given) ended 0
    was = source_told_so w.before w.held

    -- the read failed
    pub read_fault : told w.after ≡ record (told w.before) { read_faults = (told w.before).read_faults + 1 } → IsCopying told old prefix n path b k now files left ended 1
    read_fault e = record {
      given = q.given;
      src = w.after;
      step = step_with;
      source = record { device = e ∙ ap (λ (d : DeviceTold). let x : DeviceTold = record d { read_faults = d.read_faults + 1 } in x) was; front = q.source.front };
      some = q.some;
    }

    module _ (count : ℕ) (reads : Reads (told w.before) (told w.after) buf count) where
      -- it was the last
      pub read_end : count ≡ 0 → (c : IsCopying told old prefix n path b k now files left true 0) × IfSome (content_at old.files path) (λ bytes. c.given ≡ bytes)
      read_end z =
          let e : told w.after ≡ moved 0 (source_told old path (length q.given) ended 0) = reads.told ∙ (ap (λ m. moved m (told w.before)) z ∙ ap (λ d. moved 0 d) was) in
          let same_at : length q.given + 0 ≡ length q.given = omega arith in
          let over : IfSome (content_at old.files path) (λ c. length c ≤ length q.given) =
          subst (λ (d : DeviceTold). IfSome d.content (λ c. length c ≤ d.at)) was (reads.end z) in (
            record { given = q.given; src = w.after; step = step_with; source = record { device = e ∙ ap (λ m. source_told old path m true 0) same_at; front = q.source.front }; some = q.some },
            front_whole (content_at old.files path) q.given q.source.front over,
          )

      -- it gave some
      pub read_more : 1 ≤ count → IsSource told old path w.after (q.given ++ take count buf) (length (q.given ++ take count buf)) false 0
      read_more some =
          let c = reads.count in
          let t = length-take count buf in
          let l = length-append q.given (take count buf) in
          let same_at : length q.given + count ≡ length (q.given ++ take count buf) = omega (arith, c, t, l) in
          let e : told w.after ≡ moved count (source_told old path (length q.given) ended 0) = reads.told ∙ ap (λ d. moved count d) was in
          record {
            device = e ∙ (ap (λ x. source_told old path (length q.given + count) x 0) (ne_eqb count 0 (λ z. absurd (omega arith))) ∙ ap (λ m. source_told old path m false 0) same_at);
            front = front_more (content_at old.files path) q.given buf count q.source.front (subst (λ (d : DeviceTold). IfSome d.content (λ x. take count buf ≡ take count (drop d.at x))) was reads.bytes);
          }

      -- and all of that was given
      pub given_on : (d : Seen V) (o : Option Held) (later : DepotTold) (m l : ℕ) → 1 ≤ count → l < n → IsInStep told old prefix n path d o later m l (q.given ++ take count buf) w.after → IsCopying told old prefix n path d o later m l false 0
      given_on d o later m l some room step = record { given = q.given ++ take count buf; src = w.after; step = step; source = read_more some; some = room }

      stops_copying : (d : Seen V) (o : Option Held) (later : DepotTold) (s : Stop V) → 1 ≤ count → StopsWithin told old prefix n path d o later q.given (take count buf) w.after s → StopsCopying told old prefix n path d o later s
      stops_copying d o later s some t =
          let same : q.given ++ take count buf ≡ (q.given ++ t.taken) ++ t.rest = ap (λ l. q.given ++ l) t.bytes_are ∙ sym (append_assoc q.given t.taken t.rest) in
          record { given = q.given ++ t.taken; rest = t.rest; src = w.after; source = subst (λ l. IsSource told old path w.after l (length l) false 0) same (read_more some); some = t.some; stops = t.stops }

      stops_so : (T : Type 0) (d : Seen V) (o : Option Held) (later : DepotTold) (m l : ℕ) (s : Stop V) → 1 ≤ count → StopsWithin told old prefix n path d o later q.given (take count buf) w.after s → Copies told old prefix n path {T = T} d o later m l (Err s)
      stops_so T d o later m l stop.Unread some t = absurd t.stops
      stops_so T d o later m l (stop.Unopened e) some t = stops_copying d o later (stop.Unopened e) some t
      stops_so T d o later m l stop.Unwritten some t = stops_copying d o later stop.Unwritten some t
      stops_so T d o later m l stop.TooMany some t = stops_copying d o later stop.TooMany some t
      stops_so T d o later m l stop.Memory some t = stops_copying d o later stop.Memory some t

      -- or not
      pub stopped_on : {T : Type 0} (res : Result T (Stop V)) (d : Seen V) (o : Option Held) (later : DepotTold) (m l : ℕ) (s : Stop V) → 1 ≤ count → StopsWithin told old prefix n path d o later q.given (take count buf) w.after s → IsErrAnd res (λ e. e ≡ s) → Copies told old prefix n path d o later m l res
      stopped_on {T = T} res d o later m l s some t x =
          let e = err_from_is_err_and res x in
          subst (λ y. Copies told old prefix n path d o later m l y) (sym (e.1 ∙ ap (λ z. Err z) e.2)) (stops_so T d o later m l s some t)

-- where more was given, fewer bytes are left for the files
pub fewer_left : (n given more left rest files later : ℕ) → given + left ≡ files * n → more + rest ≡ later * n → later ≤ 1024 → given < more → 1024 * n + rest - later * n < 1024 * n + left - files * n
fewer_left n given more left rest files later before after few up = let most = mul-le-mul_right n few in omega (arith, before, after, most, up)

-- what was read makes more of it
pub read_grows : (given buf : List ℕ) (count : ℕ) → 1 ≤ count → count ≤ length buf → length given < length (given ++ take count buf)
read_grows given buf count some fits = let t = length-take count buf in let l = length-append given (take count buf) in omega (arith, some, fits, t, l)

-- what isn't none is some
pub read_some : (count : ℕ) → count ≢ 0 → 1 ≤ count
read_some zero ne = absurd (ne refl)
read_some (suc n) ne = omega arith
