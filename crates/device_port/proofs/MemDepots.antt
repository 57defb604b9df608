-- What a depot in memory tells after a device was made or came back.
use Rattle.std.proofs.Common.{◌≡◌, ℕ, ◌<◌, ◌≤◌, Bool, true, false, ◌&&◌, cond, List, [], ◌∷◌, ◌++◌, length, map, reverse, find, nat_eq, refl, sym, ap, arith, inl, inr, ◌⊎◌, ◌∙◌, Option, Some, option_map, length-append}
use Rattle.std.proofs.lemmas.Bool.{false≢true, eqb-true}
use Rattle.std.proofs.lemmas.List.{length-map, map-append, reverse-append}
use Rattle.std.proofs.lemmas.Slice.Eq.{bytes_eq-Decides}
use Rattle.std.specs.Str.{bytes_eq}
use Rattle.device_port.specs.Device.{DeviceTold, Place, is_write}
use Rattle.device_port.specs.Depot.{DepotTold, HaveOwnNumbers, AreBelow, IsUnknown}
use Rattle.device_port.specs.Stage.{times_opened}
use Rattle.device_port.specs.Records.{record_told}
use Rattle.device_port.specs.Files.{wrote, or_else, bytes_at, place_of}
use Rattle.device_port.specs.declared.device.Mode.{Mode}
use Rattle.device_port.specs.declared.device.Mode.TheVariants as mode
use Rattle.device_port.specs.declared.record.Record.{Record}
use Rattle.device_port.specs.declared.files.FileOf.{FileOf}
use Rattle.device_port.specs.declared.files.PlaceOf.{PlaceOf}
use Rattle.device_port.proofs.Depots.{few, apart_more, below_more}

-- what is told of these files, places and records
abbrev told_of : List FileOf → List Record → List Place → DepotTold
told_of files records places = record { files = Some (bytes_at files records); made = places; retired = map record_told records }

pub made_more : (files : List FileOf) (rs rs' : List Record) (ps ps' : List PlaceOf) (p : PlaceOf) (place : Place) → rs' ≡ rs → ps' ≡ ps ++ p ∷ [] → place_of p ≡ place
    → let new : DepotTold = record { files = Some (bytes_at files rs'); made = map place_of ps'; retired = map record_told rs' } in
    new ≡ record { files = Some (bytes_at files rs); made = map place_of ps ++ place ∷ []; retired = map record_told rs }
made_more files rs rs' ps ps' p place r m e =
    ap (λ xs. told_of files xs (map place_of ps')) r
    ∙ ap (λ xs. told_of files rs (map place_of xs)) m
    ∙ ap (λ xs. told_of files rs xs) (map-append place_of ps (p ∷ []))
    ∙ ap (λ x. told_of files rs (map place_of ps ++ x ∷ [])) e

-- there is room for one more record
pub room_for : (rs : List Record) (r : Record) (n : ℕ) → HaveOwnNumbers (map record_told rs) → AreBelow n (map record_told rs) → r.number < n → IsUnknown r.number (map record_told rs) → length rs < n
room_for rs r n a b lt u =
    let ds : List DeviceTold = map record_told rs in
    let k : length (ds ++ record_told r ∷ []) ≤ n = few n (ds ++ record_told r ∷ []) (apart_more ds (record_told r) a u) (below_more n ds (record_told r) b lt) in
    omega (arith, length-append ds (record_told r ∷ []), length-map rs record_told)

-- what a record that came back changes
pub bytes_more : (files : List FileOf) (rs : List Record) (r : Record) (path : List ℕ) → bytes_at files (rs ++ r ∷ []) path ≡ cond (wrote path r) (Some r.written.items) (bytes_at files rs path)
bytes_more files rs r path =
    let first : Option (List ℕ) = option_map (λ (f : FileOf). f.bytes) (find (λ (f : FileOf). bytes_eq f.path path) files) in
    let last : Option Record → Option (List ℕ) = λ (o : Option Record). or_else (option_map (λ (x : Record). x.written.items) o) first in
    ap (λ (xs : List Record). last (find (wrote path) xs)) (reverse-append rs (r ∷ []))
    ∙ elim (wrote path r) as (λ b. last (cond b (Some r) (find (wrote path) (reverse rs))) ≡ cond b (Some r.written.items) (last (find (wrote path) (reverse rs)))) [ true ↦ refl | false ↦ refl ]

and_left : (a b : Bool) → (a && b) ≡ true → a ≡ true
and_left true b h = refl
and_left false b h = absurd (false≢true h)

and_right : (a b : Bool) → (a && b) ≡ true → b ≡ true
and_right true b h = h
and_right false b h = absurd (false≢true h)

writes : (m : Mode) → is_write m ≡ true → m ≡ mode.Write
writes mode.Read h = absurd (false≢true h)
writes mode.Write h = refl

pub wrote_says : (path : List ℕ) (r : Record) → wrote path r ≡ true → (r.mode ≡ mode.Write) × (times_opened r.stage ≡ 1) × (path ≡ r.path)
wrote_says path r h =
    let rest = and_right (is_write r.mode) (nat_eq (times_opened r.stage) 1 && bytes_eq r.path path) h in (
      writes r.mode (and_left (is_write r.mode) (nat_eq (times_opened r.stage) 1 && bytes_eq r.path path) h),
      eqb-true (times_opened r.stage) 1 (and_left (nat_eq (times_opened r.stage) 1) (bytes_eq r.path path) rest),
      sym ((bytes_eq-Decides r.path path).0 (and_right (nat_eq (times_opened r.stage) 1) (bytes_eq r.path path) rest)),
    )

pub wrote_there : (r : Record) → r.mode ≡ mode.Write → times_opened r.stage ≡ 1 → wrote r.path r ≡ true
wrote_there r m o =
    let write : is_write r.mode ≡ true = ap is_write m in
    let once : nat_eq (times_opened r.stage) 1 ≡ true = ap (λ n. nat_eq n 1) o in
    let same : bytes_eq r.path r.path ≡ true = (bytes_eq-Decides r.path r.path).1 refl in
    rw (write, once, same) refl

-- what was written stands at its path
pub stored_there : (files : List FileOf) (rs : List Record) (r : Record) → r.mode ≡ mode.Write → times_opened r.stage ≡ 1 → bytes_at files (rs ++ r ∷ []) r.path ≡ Some r.written.items
stored_there files rs r m o = bytes_more files rs r r.path ∙ ap (λ b. cond b (Some r.written.items) (bytes_at files rs r.path)) (wrote_there r m o)

-- only at its path
pub files_more : (files : List FileOf) (rs : List Record) (r : Record) (path : List ℕ) → ((r.mode ≡ mode.Write) × (times_opened r.stage ≡ 1) × (path ≡ r.path)) ⊎ (bytes_at files (rs ++ r ∷ []) path ≡ bytes_at files rs path)
files_more files rs r path =
    let e = bytes_more files rs r path in
    (elim (wrote path r) as (λ b. wrote path r ≡ b → bytes_at files (rs ++ r ∷ []) path ≡ cond b (Some r.written.items) (bytes_at files rs path) → ((r.mode ≡ mode.Write) × (times_opened r.stage ≡ 1) × (path ≡ r.path)) ⊎ (bytes_at files (rs ++ r ∷ []) path ≡ bytes_at files rs path)) [
      | true ↦ λ h _. inl (wrote_says path r h)
      | false ↦ λ _ h. inr h
    ]) refl e
