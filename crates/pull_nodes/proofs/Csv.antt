-- What holds of the pipe of comma-separated values.
use Rattle.std.proofs.Common.{◌≡◌, ℕ, Bool, true, false, cond, List, [], ◌++◌, Some, None, refl, sym, subst, arith, length-append, inl}
use Rattle.std.proofs.lemmas.Bool.Decides.{nat_tests}
use Rattle.std.specs.Str.{is_utf8}
use Rattle.chunk_core.specs.Elements.{Element}
use Rattle.chunk_core.specs.Elements.LoadKind.{Bytes, Rows}
use Rattle.chunk_core.specs.Feed.{Given}
use Rattle.chunk_core.specs.declared.code.Code.{Code}
use Rattle.chunk_core.specs.declared.code.Code.TheVariants as code
use Rattle.pull_nodes.specs.Csv.{is_too_large, records_of, is_uneven, rows_given, csv_part, csv_all, csv_rule}
use Rattle.pull_nodes.specs.Laws.{IsFront, IsNoDeviceFault}
use Rattle.pull_nodes.specs.PipeRule.{without_fault, only_fault}
use Rattle.pull_nodes.specs.Plain.{bytes_of}
use Rattle.pull_nodes.proofs.Lawful.{IsLawful, own_none, own_too_large, own_not_utf8, own_uneven, own_if}
use Rattle.pull_nodes.proofs.Steady.{SteadyBy, over_bytes}

-- more of what is too large is too large
pub too_large-append : (xs zs : List ℕ) → is_too_large xs ≡ true → is_too_large (xs ++ zs) ≡ true
too_large-append xs zs h = grind (arith, nat_tests, length-append)

nothing_if : (b : Bool) (c : Code) → (cond b (only_fault c) (without_fault [])).list ≡ []
nothing_if true c = refl
nothing_if false c = refl

-- before the end it gives nothing
pub part_is_empty : (xs : List ℕ) → (csv_part xs).list ≡ []
part_is_empty xs = nothing_if (is_too_large xs) code.TooLarge

part_front : (xs : List ℕ) (ys : List Element) → IsFront (csv_part xs).list ys
part_front xs ys = let P : List Element → Type 0 = λ l. IsFront l ys in subst P (sym (part_is_empty xs)) (ys, refl)

fault_if : (b : Bool) (c d : Code) → (cond b (only_fault c) (without_fault [])).fault ≡ Some d → b ≡ true
fault_if true c d h = refl
fault_if false c d h = (cc)

csv_stops : (xs zs : List ℕ) → is_too_large xs ≡ true → (csv_part (xs ++ zs) ≡ csv_part xs) × (csv_all (xs ++ zs) ≡ csv_part xs)
csv_stops xs zs large = let more = too_large-append xs zs large in (rw (large, more), rw (large, more))

pub csv_steady : SteadyBy csv_part csv_all
csv_steady = record {
  grows = λ xs zs n. part_front xs (csv_part (xs ++ zs)).list;
  ends = λ xs n. part_front xs (csv_all xs).list;
  stops = λ xs zs c h. csv_stops xs zs (fault_if (is_too_large xs) code.TooLarge c h);
}

own_fault_if : (b : Bool) (g h : Given) → IsNoDeviceFault g.fault → IsNoDeviceFault h.fault → IsNoDeviceFault (cond b g h).fault
own_fault_if true g h own other = own
own_fault_if false g h own other = other

own_part : (xs : List ℕ) → IsNoDeviceFault (csv_part xs).fault
own_part xs = own_fault_if (is_too_large xs) (only_fault code.TooLarge) (without_fault []) own_too_large own_none

own_rows : (rows : List (List (List ℕ))) → IsNoDeviceFault (rows_given rows).fault
own_rows rows = own_if (is_uneven rows) (Some code.Uneven) None own_uneven own_none

own_all : (xs : List ℕ) → IsNoDeviceFault (csv_all xs).fault
own_all xs =
    let read = rows_given (records_of xs) in
    let behind = own_fault_if (is_utf8 xs) read (only_fault code.NotUtf8) (own_rows (records_of xs)) own_not_utf8 in
    own_fault_if (is_too_large xs) (only_fault code.TooLarge) (cond (is_utf8 xs) read (only_fault code.NotUtf8)) own_too_large behind

pub csv_lawful : IsLawful csv_rule
csv_lawful = record {
  steady = over_bytes _ _ csv_steady;
  own = λ xs. (own_part (bytes_of xs), own_all (bytes_of xs));
  empty = part_is_empty [];
  behind_nothing = inl (Bytes, Rows, refl, refl);
}
