-- The files of a case are found by their paths.
use Rattle.std.proofs.Common.{◌≡◌, ◌≢◌, ℕ, zero, suc, ◌+◌, ◌<◌, ◌≤◌, ◌^◌, true, false, Option, Some, List, [], ◌∷◌, ◌++◌, map, drop, decimal, refl, ap, subst, ⊎_elim, arith, lit<}
use Rattle.std.specs.Prelude.{find, option_map, unwrap_or}
use Rattle.std.specs.List.{All, range_with_len}
use Rattle.std.specs.Int.{IsInRange}
use Rattle.std.specs.Str.{bytes_eq}
use Rattle.std.proofs.lemmas.Bool.{cases_eq, false_from_ne_true}
use Rattle.std.proofs.lemmas.Fmt.{decimal_injective}
use Rattle.std.proofs.lemmas.List.Elements.{All-head}
use Rattle.std.proofs.lemmas.Slice.Eq.{bytes_eq-Decides}
use Rattle.res_ledger.proofs.Words.{number_lacks}
use Rattle.device_port.specs.declared.files.FileOf.{FileOf}
use Rattle.pipeline_desc.specs.Limits.{most_streams}
use Rattle.run_rules.specs.Facts.{first_numbers}
use Rattle.gen_case.specs.Case.{stream_file, stream_path, table_file, table_path}
use Rattle.gen_case.specs.Runs.{FilesAreFound}
use Rattle.gen_case.specs.declared.case.Case.{Case}

t_apart : ¬ (IsInRange 48 57 116)
t_apart r = omega (arith, r.1)

-- the letter behind the first one of the table's path is no digit
not_t : (n : ℕ) → n < 2 ^ 64 → decimal n ≡ 116 ∷ [] → ⊥
not_t n small e = All-head (λ b. b ≢ 116) 116 [] (subst (All (λ b. b ≢ 116)) e (number_lacks 116 n t_apart small)) refl

module _ (c : Case) where
  abbrev files : ℕ → ℕ → List FileOf
  files a n = map (stream_file c) (range_with_len a n) ++ table_file ∷ []

  table_among : (n a : ℕ) → a + n ≤ 2 ^ 64 → find (λ f. bytes_eq f.path table_path) (files a n) ≡ Some table_file
  table_among zero a h = refl
  table_among (suc n) a h =
      let other = false_from_ne_true (bytes_eq (stream_path a) table_path) (λ t. not_t a (omega (arith, h)) (ap (drop 1) ((bytes_eq-Decides (stream_path a) table_path).0 t))) in
      rw other (table_among n (a + 1) (omega (arith, h)))

  stream_among : (n a k : ℕ) → a ≤ k → k < a + n → a + n ≤ 2 ^ 64 → find (λ f. bytes_eq f.path (stream_path k)) (files a n) ≡ Some (stream_file c k)
  stream_among zero a k low high h = absurd (omega (arith, low, high))
  stream_among (suc n) a k low high h = ⊎_elim
      (λ e. let same = (bytes_eq-Decides (stream_path a) (stream_path k)).1 (ap stream_path e) in rw same (ap (λ x. Some (stream_file c x)) e))
      (λ ne.
      let other =
      false_from_ne_true (bytes_eq (stream_path a) (stream_path k)) (λ t. ne (decimal_injective a k (omega (arith, h)) (omega (arith, high, h)) (ap (drop 1) ((bytes_eq-Decides (stream_path a) (stream_path k)).0 t))))
      in
      rw other (stream_among n (a + 1) k (omega (arith, low, ne)) (omega (arith, high)) (omega (arith, h))))
      (cases_eq a k)

-- the bytes of the file that is found
abbrev told : Option FileOf → Option (List ℕ)
told f = Some (unwrap_or (option_map (λ (x : FileOf). x.bytes) f) [])

pub files_are_found : FilesAreFound
files_are_found c few = record {
  table = ap told (table_among c c.streams 0 (omega (arith, few)));
  streams = λ k inside. ap told (stream_among c c.streams 0 k (omega arith) (omega (arith, inside)) (omega (arith, few)));
}
