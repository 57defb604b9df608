-- A text that is gathered, and its rows.
use Rattle.std.proofs.Common.{◌≡◌, ℕ, ◌+◌, ◌-◌, ◌^◌, ◌<◌, ◌≤◌, min, Bool, true, false, cond, List, [], ◌∷◌, ◌++◌, map, length, Option, Some, refl, ap, subst, sym, ◌∙◌, arith, length-append}
use Rattle.std.specs.Prelude.{IsUtf8}
use Rattle.std.specs.Str.{is_utf8}
use Rattle.std.proofs.lemmas.Bool.{lt-ltb, le-ltb, ltb-false, false_from_ne_true}
use Rattle.std.proofs.lemmas.List.{length-take}
use Rattle.std.specs.List.{position_or_len}
use Rattle.csv.specs.Reading.{is_bom, strip_bom}
use Rattle.csv.specs.declared.parser.State.TheVariants as st
use Rattle.std.proofs.lemmas.Str.{IsUtf8-from_is_utf8, is_utf8-from_IsUtf8}
use Rattle.chunk_core.specs.Elements.{Element, Byte, Row, LoadKind}
use Rattle.chunk_core.specs.Elements.LoadKind.{Rows}
use Rattle.chunk_core.specs.Feed.{Given, Meaning, Continues, Extends, Finishes}
use Rattle.chunk_core.specs.declared.code.Code.{Code}
use Rattle.chunk_core.specs.declared.code.Code.TheVariants as code
use Rattle.chunk_core.specs.declared.feed.Fed.{Fed}
use Rattle.chunk_core.specs.declared.feed.Fed.TheVariants as fed
use Rattle.chunk_core.specs.declared.load.Load.TheVariants as load
use Rattle.pull_nodes.specs.Csv.{csv_part, csv_all, even_rows, first_length, has_other_length, is_too_large, records_of, rows_given, uneven_fault}
use Rattle.pull_nodes.specs.PipeKinds.{gives_of}
use Rattle.pull_nodes.specs.PipeRule.{only_fault}
use Rattle.pull_nodes.specs.Pipes.{IsMeaningOf}
use Rattle.pull_nodes.specs.Plain.{bytes_of}
use Rattle.pull_nodes.specs.declared.pipe.Pipe.TheVariants as pipe
use Rattle.pull_nodes.proofs.Csv.{part_is_empty}
use Rattle.pull_nodes.proofs.Meanings.{meaning_is, from_bytes-some, extends_from, finishes_from, bytes_of-load}
use Rattle.csv_pipes.specs.CsvState.{fault_where}
use Rattle.csv_pipes.specs.Even.{Rest, even_part}
use Rattle.csv_pipes.proofs.Walks.{records_few}

-- so many bytes more are too many, or not
pub too_large : (text bytes : List ℕ) (n : ℕ) → n ≡ min (length text + length bytes) (2 ^ 64 - 1) → 16777216 < n → is_too_large (text ++ bytes) ≡ true
too_large text bytes n is more = lt-ltb 16777216 (length (text ++ bytes)) (omega (arith, length-append text bytes))

pub within : (text bytes : List ℕ) (n : ℕ) → n ≡ min (length text + length bytes) (2 ^ 64 - 1) → n ≤ 16777216 → is_too_large (text ++ bytes) ≡ false
within text bytes n is most = le-ltb 16777216 (length (text ++ bytes)) (omega (arith, length-append text bytes))

gives_rows : (m : Meaning) → IsMeaningOf pipe.Csv m → m.gives ≡ Rows
gives_rows m h = (from_bytes-some Rows m.takes m.gives (meaning_is pipe.Csv m h).1).1

module _ (m : Meaning) (h : IsMeaningOf pipe.Csv m) (xs came : List Element) (text bytes : List ℕ) (gathered : text ≡ bytes_of xs) (are : came ≡ map Byte bytes) where
  pub gathered_more : bytes_of (xs ++ came) ≡ text ++ bytes
  gathered_more = ap (λ l. bytes_of (xs ++ l)) are ∙ (bytes_of-load xs bytes ∙ ap (λ l. l ++ bytes) (sym gathered))

  -- a load of no rows, and the fault where there are too many bytes
  pub gathers : (none : List (List (List ℕ))) (large : Bool) → none ≡ [] → is_too_large (text ++ bytes) ≡ large → Extends m xs came (load.Rows none) (fault_where large)
  gathers none large empty is =
      let kind : gives_of pipe.Csv m.takes ≡ Some Rows = (meaning_is pipe.Csv m h).1 ∙ ap (λ k. Some k) (gives_rows m h) in
      let list : (csv_part (bytes_of xs)).list ++ map Row none ≡ (csv_part (bytes_of (xs ++ came))).list =
      ap (λ l. l ++ map Row none) (part_is_empty (bytes_of xs)) ∙ (ap (map Row) empty ∙ sym (part_is_empty (bytes_of (xs ++ came)))) in
      extends_from pipe.Csv m h xs came (load.Rows none) (fault_where large) kind list (ap fault_where (ap is_too_large gathered_more ∙ is))

module _ (m : Meaning) (h : IsMeaningOf pipe.Csv m) (xs : List Element) (text : List ℕ) (gathered : text ≡ bytes_of xs) (small : is_too_large (bytes_of xs) ≡ false) where
  -- the text is no UTF-8
  pub not_text : (none : List (List (List ℕ))) (Comes : List Element → Option Code → Type 0) → none ≡ [] → ¬ (IsUtf8 text) → Finishes m xs (fed.Fault (load.Rows none) code.NotUtf8) Comes
  not_text none Comes empty bad =
      let no : is_utf8 (bytes_of xs) ≡ false = ap is_utf8 (sym gathered) ∙ false_from_ne_true (is_utf8 text) (λ t. bad (IsUtf8-from_is_utf8 text t)) in
      let whole : csv_all (bytes_of xs) ≡ only_fault code.NotUtf8 = rw (small, no) refl in
      finishes_from pipe.Csv m h xs [] (fed.Fault (load.Rows none) code.NotUtf8) Comes
      (ap (λ l. l ++ []) (part_is_empty (bytes_of xs)) ∙ sym (ap (λ (g : Given). g.list) whole))
      (sym (gives_rows m h), sym (ap (map Row) empty), ap (λ (g : Given). g.fault) whole)

  -- the rows of the text are still to come
  pub reads_text : (left : Rest) (answer : Fed) (Comes : LoadKind → List Element → Option Code → Type 0) → IsUtf8 text → left ≡ even_part (records_of text)
      → Continues Rows (map Row left.0) (uneven_fault left.1) answer (Comes Rows) → Finishes m xs answer (Comes m.gives)
  reads_text left answer Comes good is given =
      let yes : is_utf8 (bytes_of xs) ≡ true = ap is_utf8 (sym gathered) ∙ is_utf8-from_IsUtf8 text good in
      let whole : csv_all (bytes_of xs) ≡ rows_given (records_of (bytes_of xs)) = rw (small, yes) refl in
      let rows : left ≡ even_part (records_of (bytes_of xs)) = is ∙ ap (λ l. even_part (records_of l)) gathered in
      let all : csv_all (bytes_of xs) ≡ record { list = map Row left.0; fault = uneven_fault left.1 } = whole ∙ ap (λ (r : Rest). record { list = map Row r.0; fault = uneven_fault r.1 }) (sym rows) in
      finishes_from pipe.Csv m h xs (map Row left.0) answer (Comes m.gives)
      (ap (λ l. l ++ map Row left.0) (part_is_empty (bytes_of xs)) ∙ sym (ap (λ (g : Given). g.list) all))
      (subst (λ k. Continues k (map Row left.0) (csv_all (bytes_of xs)).fault answer (Comes k)) (sym (gives_rows m h))
      (subst (λ c. Continues Rows (map Row left.0) c answer (Comes Rows)) (sym (ap (λ (g : Given). g.fault) all)) given))

strip_case : (b : Bool) (x y z : ℕ) (xs : List ℕ) → length (cond b xs (x ∷ y ∷ z ∷ xs)) ≤ length (x ∷ y ∷ z ∷ xs)
strip_case true x y z xs = omega arith
strip_case false x y z xs = omega arith

strip_shorter : (xs : List ℕ) → length (strip_bom xs) ≤ length xs
unfolding strip_bom
strip_shorter [] = omega arith
strip_shorter (x ∷ []) = omega arith
strip_shorter (x ∷ y ∷ []) = omega arith
strip_shorter (x ∷ y ∷ z ∷ xs) = strip_case (is_bom x y z) x y z xs

-- a text has few rows
pub few_rows : (text : List ℕ) → is_too_large text ≡ false → length (even_rows (records_of text)) ≤ 16777217
few_rows text small =
    let rows = records_of text in
    let most = ltb-false 16777216 (length text) small in
    let fewer = length-take (position_or_len (has_other_length (first_length rows)) rows) rows in
    let records = records_few (length (strip_bom text) + 1) st.StartRecord (strip_bom text) in
    let shorter = strip_shorter text in
    omega arith
