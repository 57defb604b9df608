-- The places of a rotation's rows.
use Rattle.std.proofs.Common.{◌≡◌, ◌^◌, ℕ, zero, suc, ◌+◌, ◌<◌, ◌≤◌, List, [], ◌∷◌, ◌++◌, length, drop, map, Some, refl, sym, ap, ◌∙◌, subst, arith}
use Rattle.std.specs.Prelude.{codes, decimal}
use Rattle.std.proofs.Math.Seq.{drop-append_seam}
use Rattle.std.proofs.lemmas.Fmt.{decimal_injective}
use Rattle.std.proofs.lemmas.List.{length-map}
use Rattle.std.proofs.lemmas.List.FromFn.{length-range_with_len}
use Rattle.device_port.specs.declared.device.Mode.{Mode}
use Rattle.device_port.specs.declared.device.Mode.TheVariants as mode
use Rattle.device_port.specs.Device.{Place, to_read}
use Rattle.run_rules.specs.Facts.{at, first_numbers}
use Rattle.stream_parts.specs.Retire.{AreWrittenAlone}
use Rattle.joined_runs.proofs.MadeRows.{at_below}
use Rattle.rotate_rules.specs.Pieces.{IsApart, file_name, most_files, rotate_places}
use Rattle.rotate_files.specs.Told.{file_place}
use Rattle.rotate_run.proofs.Lists.{at_map, at_range, some_is}

-- these are the places of the file that is read and of each file that is written, of which none is written twice or is the one that is read
pub record ArePlaces (path prefix : List ℕ) (places : List Place) : Type 0 where
  pub first : at places 0 ≡ Some (to_read path)
  pub file : (i : ℕ) → i < 1024 → at places (suc i) ≡ Some (file_place prefix i)
  pub count : length places ≡ 1025
  pub alone : AreWrittenAlone places

same_number : (prefix : List ℕ) (i j : ℕ) → i < 1024 → j < 1024 → file_name prefix i ≡ file_name prefix j → i ≡ j
same_number prefix i j l m e =
    let behind : codes "." ++ decimal i ≡ codes "." ++ decimal j = sym (drop-append_seam prefix (codes "." ++ decimal i)) ∙ (ap (λ t. drop (length prefix) t) e ∙ drop-append_seam prefix (codes "." ++ decimal j)) in
    decimal_injective i j (omega arith) (omega arith) (ap (λ t. drop 1 t) behind)

module _ (path prefix : List ℕ) (places : List Place) (first : at places 0 ≡ Some (to_read path)) (file : (i : ℕ) → i < 1024 → at places (suc i) ≡ Some (file_place prefix i)) (count : length places ≡ 1025) (apart : IsApart path prefix) where
  below : (i : ℕ) (p : Place) → at places (suc i) ≡ Some p → i < 1024
  below i p e = let b = at_below places (suc i) p e in omega (arith, b, count)

  is_file : (i : ℕ) (p : Place) → at places (suc i) ≡ Some p → file_place prefix i ≡ p
  is_file i p e = some_is (file_place prefix i) p (sym (file i (below i p e)) ∙ e)

  written_alone : AreWrittenAlone places
  written_alone zero q p s e f w same = let m : mode.Read ≡ mode.Write = ap (λ (x : Place). x.mode) (some_is (to_read path) p (sym first ∙ e)) ∙ w in absurd cc
  written_alone (suc i) zero p s e f w same =
      let a : path ≡ s.path = ap (λ (x : Place). x.path) (some_is (to_read path) s (sym first ∙ f)) in
      absurd (apart i (below i p e) (a ∙ (sym same ∙ ap (λ (x : Place). x.path) (sym (is_file i p e)))))
  written_alone (suc i) (suc j) p s e f w same = ap suc (same_number prefix i j (below i p e) (below j s f) (ap (λ (x : Place). x.path) (is_file i p e) ∙ (same ∙ ap (λ (x : Place). x.path) (sym (is_file j s f)))))

-- so many files
files_at : (prefix : List ℕ) (n i : ℕ) → i < n → at (map (λ k. file_place prefix k) (first_numbers n)) i ≡ Some (file_place prefix i)
files_at prefix n i l = at_map (λ k. file_place prefix k) (first_numbers n) i (0 + i) (at_range 0 n i l) ∙ (let z : 0 + i ≡ i = omega arith in ap (λ k. Some (file_place prefix k)) z)

files_count : (prefix : List ℕ) (n : ℕ) → length (map (λ k. file_place prefix k) (first_numbers n)) ≡ n
files_count prefix n = length-map (first_numbers n) (λ k. file_place prefix k) ∙ length-range_with_len 0 n

pub rotation_places : (path prefix : List ℕ) → IsApart path prefix → ArePlaces path prefix (rotate_places path prefix)
rotation_places path prefix apart =
    let file : (i : ℕ) → i < 1024 → at (rotate_places path prefix) (suc i) ≡ Some (file_place prefix i) = λ i l. files_at prefix 1024 i l in
    let count : length (rotate_places path prefix) ≡ 1025 = ap suc (files_count prefix 1024) in
    record { first = refl; file = file; count = count; alone = written_alone path prefix (rotate_places path prefix) refl file count apart }

-- the places that devices were made for are those of the first rows
pub first_places : (path prefix : List ℕ) (places : List Place) → ArePlaces path prefix places → (k i : ℕ) (p : Place) → k ≤ 1024 → at (to_read path ∷ map (λ j. file_place prefix j) (first_numbers k)) i ≡ Some p → at places i ≡ Some p
first_places path prefix places a k zero p few e = a.first ∙ e
first_places path prefix places a k (suc i) p few e =
    let b = at_below (map (λ j. file_place prefix j) (first_numbers k)) i p e in
    let n = files_count prefix k in
    a.file i (omega (arith, b, n, few)) ∙ (sym (files_at prefix k i (omega (arith, b, n))) ∙ e)
