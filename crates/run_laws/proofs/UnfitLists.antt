-- Each run over the lines of a list with one thing wrong is refused, whichever lines are said to have been given streams.
use Rattle.std.proofs.Common.{◌≡◌, ◌⊎◌, ℕ, zero, suc, ◌+◌, ◌-◌, ◌<◌, ◌≤◌, Bool, true, false, if◌then◌else◌, List, [], ◌∷◌, map, take, length, Some, IfSome, inl, inr, refl, sym, ap, ◌∙◌, subst, ⊎_elim, arith}
use Rattle.std.proofs.lemmas.Bool.{false≢true, lt-ltb}
use Rattle.chunk_core.specs.Elements.{Element}
use Rattle.chunk_core.specs.Lists.{IsAmong}
use Rattle.chunk_core.specs.Outcomes.{Done, End, Fault}
use Rattle.chunk_core.specs.declared.code.Code.{Code}
use Rattle.chunk_core.specs.declared.code.Code.TheVariants as code
use Rattle.chunk_core.specs.declared.code.Exit.TheVariants.{Canceled}
use Rattle.chunk_core.specs.declared.code.How.TheVariants as how
use Rattle.chunk_core.proofs.Members.{among_cons}
use Rattle.device_port.specs.Device.{DeviceTold, to_read}
use Rattle.res_ledger.specs.declared.event.StreamNo.{StreamNo}
use Rattle.res_ledger.specs.declared.event.StreamNo.TheVariants.{Outer}
use Rattle.run_rules.specs.declared.end.EndOf.{EndOf}
use Rattle.run_rules.specs.Homes.{IsUntouched}
use Rattle.run_rules.specs.Listing.{IsListing, ListedLines, line_bytes, listing_of}
use Rattle.run_rules.specs.Opening.{IsListFault, IsOuterEnd}
use Rattle.run_rules.specs.Run.{Performs}
use Rattle.run_rules.specs.Work.{RunRecord, names_from}
use Rattle.run_laws.specs.Files.{path_a}
use Rattle.run_laws.specs.Lists.{ListRuns, bad_bytes, bad_line, ended_lines_in, is_no_path, list_bytes, list_work, lister, listing_opener, one_line_work, one_too_many, path_l, two_listed}
use Rattle.run_laws.specs.Streams.{file_stream}
use Rattle.run_laws.specs.Tables.{path_b, t_csv}
use Rattle.run_laws.specs.UnfitLists.{AreUnfitLists, cut_off_list, empty_line_given, fault_not_told, line_before, line_by_line_work, line_left, line_told, opened_too_early, read_too_far, table_and_list_work, three_line_bytes, unread_list}
use Rattle.run_laws.specs.Written.{used_device}
use Rattle.run_laws.proofs.Housed.{first_byte, only_one, path_byte}
use Rattle.run_laws.proofs.Judging.{no_nil, ran}
use Rattle.run_laws.proofs.ListFaults.{is_of_a_file, list_fails, list_within}
use Rattle.run_laws.proofs.ListRuns.{Spells, bad_lines, bad_spelled, two_ended, two_lines, two_spelled}
use Rattle.run_laws.proofs.Deciding.{some_is}
use Rattle.run_laws.proofs.Within.{fault_done}

-- What a listing tells.

abbrev with_line : Bool → Element → ListedLines → ListedLines
with_line b y r = if b then (record { lines = []; end = Fault code.BadPath }) else (record { lines = line_bytes y ∷ r.lines; end = r.end })

-- lines that are done are those of something that is done
pub done_is : (n : ℕ) (bad : List ℕ → Bool) (ys : List Element) (g : End) → (listing_of n bad ys g).end ≡ Done → g ≡ Done
done_is n bad [] g e = e
done_is zero bad (y ∷ ys) g e = absurd (fault_done code.TooMany e)
done_is (suc n) bad (y ∷ ys) g e = (elim (bad (line_bytes y)) as (λ b. (with_line b y (listing_of n bad ys g)).end ≡ Done → g ≡ Done) [
  | true ↦ λ f. absurd (fault_done code.BadPath f)
  | false ↦ λ f. done_is n bad ys g f
]) e

few_lines : (n : ℕ) (bad : List ℕ → Bool) (ys : List Element) (g : End) → length (listing_of n bad ys g).lines ≤ n
few_lines n bad [] g = omega arith
few_lines zero bad (y ∷ ys) g = omega arith
few_lines (suc n) bad (y ∷ ys) g = elim (bad (line_bytes y)) as (λ b. length (with_line b y (listing_of n bad ys g)).lines ≤ suc n) [
  | true ↦ omega arith
  | false ↦ let l = few_lines n bad ys g in omega (arith, l)
]

other_code : code.TooMany ≡ code.BadPath → ⊥
other_code e = cc

same_code : (c d : Code) → Fault c ≡ Fault d → c ≡ d
same_code c d e = cc

-- a bad line is told only where it could be given a stream
bad_is : (n : ℕ) (bad : List ℕ → Bool) (ys : List Element) (g : End) → (listing_of n bad ys g).end ≡ Fault code.BadPath → (g ≡ Fault code.BadPath) ⊎ (length (listing_of n bad ys g).lines < n)
bad_is n bad [] g e = inl e
bad_is zero bad (y ∷ ys) g e = absurd (other_code (same_code code.TooMany code.BadPath e))
bad_is (suc n) bad (y ∷ ys) g e = (elim (bad (line_bytes y)) as (λ b. (with_line b y (listing_of n bad ys g)).end ≡ Fault code.BadPath → (g ≡ Fault code.BadPath) ⊎ (length (with_line b y (listing_of n bad ys g)).lines < suc n)) [
  | true ↦ λ f. inr (omega arith)
  | false ↦ λ f. ⊎_elim (λ x. inl x) (λ l. inr (omega (arith, l))) (bad_is n bad ys g f)
]) e

-- too many are told only where no further one could be given a stream
many_is : (n : ℕ) (bad : List ℕ → Bool) (ys : List Element) (g : End) → (listing_of n bad ys g).end ≡ Fault code.TooMany → (g ≡ Fault code.TooMany) ⊎ (length (listing_of n bad ys g).lines ≡ n)
many_is n bad [] g e = inl e
many_is zero bad (y ∷ ys) g e = inr refl
many_is (suc n) bad (y ∷ ys) g e = (elim (bad (line_bytes y)) as (λ b. (with_line b y (listing_of n bad ys g)).end ≡ Fault code.TooMany → (g ≡ Fault code.TooMany) ⊎ (length (with_line b y (listing_of n bad ys g)).lines ≡ suc n)) [
  | true ↦ λ f. absurd (other_code (sym (same_code code.BadPath code.TooMany f)))
  | false ↦ λ f. ⊎_elim (λ x. inl x) (λ l. inr (omega (arith, l))) (many_is n bad ys g f)
]) e

-- of a list of whole lines that is done the lines are these
all_lines : (piece most : ℕ) (lines : List (List ℕ)) (d : DeviceTold) (bytes : List ℕ) (ws : List Element) → Spells bytes ws → d.content ≡ Some bytes → IsListing (lister piece most lines) (ListRuns d) Done → listing_of most is_no_path ws Done ≡ record { lines = lines; end = Done }
all_lines piece most lines d bytes ws spelled told (ys, g, run, is) =
    let end : g ≡ Done = done_is most is_no_path ys g (ap (λ (l : ListedLines). l.end) is) in
    let whole : ys ≡ ws = (list_within bytes ws spelled d told ys g run).1 end in
    subst (λ l. listing_of most is_no_path l Done ≡ record { lines = lines; end = Done }) whole (subst (λ e. listing_of most is_no_path ys e ≡ record { lines = lines; end = Done }) end is)

-- How many lines were given streams.

names_count : (k : ℕ) (lines : List (List ℕ)) → length (names_from k (map file_stream lines)) ≡ length lines
names_count k [] = refl
names_count k (l ∷ ls) = ap suc (names_count (suc k) ls)

-- as many as there are ends behind that of the outer stream
line_count : (ks : List StreamNo) (o : StreamNo) (lines : List (List ℕ)) → ks ≡ o ∷ names_from 0 (map file_stream lines) → length ks ≡ suc (length lines)
line_count ks o lines e = ap length e ∙ ap suc (names_count 0 lines)

-- The runs.

line_before_so : (lines : List (List ℕ)) → Performs (list_work lines) line_before → ⊥
line_before_so lines h =
    let r = ran (list_work lines) line_before (no_nil _ _) h in
    let told : (r.home 0).content ≡ Some list_bytes = r.rows.at_home.1 in
    let is = all_lines 4096 64 lines (r.home 0) list_bytes two_lines two_spelled told r.ends.outer.end.2.1 in
    let same : path_a ∷ path_b ∷ [] ≡ lines = ap (λ (l : ListedLines). l.lines) is in
    let few : Performs (list_work (path_a ∷ path_b ∷ [])) line_before = subst (λ ls. Performs (list_work ls) line_before) (sym same) h in
    let l = few.devices.few.1.0 in omega (arith, l)

line_left_so : (lines : List (List ℕ)) → Performs (list_work lines) line_left → ⊥
line_left_so lines h =
    let r = ran (list_work lines) line_left (no_nil _ _) h in
    let told : (r.home 0).content ≡ Some list_bytes = r.rows.at_home.1 in
    let is = all_lines 4096 64 lines (r.home 0) list_bytes two_lines two_spelled told r.ends.outer.end.2.1 in
    let two : 2 ≡ length lines = ap (λ (l : ListedLines). length l.lines) is in
    let one : 2 ≡ suc (length lines) = line_count (map (λ (e : EndOf). e.who) line_left.ends) Outer lines r.ends.named in
    omega (arith, two, one)

empty_line_so : (lines : List (List ℕ)) → Performs (list_work lines) empty_line_given → ⊥
empty_line_so lines h =
    let r = ran (list_work lines) empty_line_given (no_nil _ _) h in
    let told : (r.home 0).content ≡ Some bad_bytes = r.rows.at_home.1 in
    let is = all_lines 4096 64 lines (r.home 0) bad_bytes bad_lines bad_spelled told r.ends.outer.end.2.1 in
    fault_done code.BadPath (ap (λ (l : ListedLines). l.end) is)

-- the list's device is the one that came back, and was opened
came_back : (d x : DeviceTold) → d.opens ≡ 1 → IsAmong d (x ∷ []) ⊎ IsUntouched d → d ≡ x
came_back d x opened (inl m) = only_one d x m
came_back d x opened (inr u) = let z = u.opens in absurd (omega (arith, z, opened))

too_far_so : (lines : List (List ℕ)) → Performs (line_by_line_work lines) read_too_far → ⊥
too_far_so lines h =
    let d : DeviceTold = record (used_device 0 (to_read path_l) three_line_bytes Canceled) { at = 6 } in
    let r = ran (line_by_line_work lines) read_too_far (no_nil _ _) h in
    let is : r.home 0 ≡ d = came_back (r.home 0) d r.rows.tied.1.0 r.rows.at_home.2 in
    let needed : ended_lines_in list_bytes ≤ length lines = subst (λ (x : DeviceTold). IfSome x.content (λ bytes. ended_lines_in (take (x.at - 2) bytes) ≤ length lines)) is r.ends.outer.listed.in_time.needed in
    let one : 2 ≡ suc (length lines) = line_count (map (λ (e : EndOf). e.who) read_too_far.ends) Outer lines r.ends.named in
    omega (arith, needed, two_ended, one)

not_told_so : (lines : List (List ℕ)) → Performs (list_work lines) fault_not_told → ⊥
not_told_so lines h =
    let r = ran (list_work lines) fault_not_told (no_nil _ _) h in
    let is : r.home 0 ≡ unread_list = came_back (r.home 0) unread_list r.rows.tied.1.0 r.rows.at_home.2 in
    let faults = ap (λ (x : DeviceTold). x.read_faults) is in
    let none : (r.home 0).read_faults ≡ 0 = r.ends.outer.end.1.reading in
    omega (arith, faults, none)

too_early_so : (lines : List (List ℕ)) → Performs (table_and_list_work lines) opened_too_early → ⊥
too_early_so lines h =
    let r = ran (table_and_list_work lines) opened_too_early (no_nil _ _) h in
    let first : (r.home 0).place ≡ to_read t_csv = r.rows.at_home.0 in
    let acquired : (r.home 0).opens ≡ 1 = r.rows.tied.0 in
    let opened : (r.home 1).opens ≡ 1 = r.rows.tied.1.1.0 in
    let read = r.ends.outer.behind (lt-ltb 0 ((r.home 1).opens + (r.home 1).open_faults) (omega (arith, opened))) in
    let ended : (r.home 0).ended ≡ true = read.0.ended in
    ⊎_elim
    (λ b. ⊎_elim
    (λ e. false≢true (ap (λ (x : DeviceTold). x.ended) (sym e) ∙ ended))
    (λ m.
    let e = only_one (r.home 0) (used_device 1 (to_read path_l) list_bytes Canceled) m in
    let b = ap first_byte (sym e) ∙ path_byte (r.home 0) (to_read t_csv) first in omega (arith, b))
    (among_cons b))
    (λ (u : IsUntouched (r.home 0)). let z = u.opens in omega (arith, z, acquired))
    r.rows.at_home.2

more_so : (lines : List (List ℕ)) → Performs (one_line_work lines) two_listed → ⊥
more_so lines h =
    let r = ran (one_line_work lines) two_listed (no_nil _ _) h in
    let listing = r.ends.outer.end.2.1 in
    let few = few_lines 1 is_no_path listing.0 listing.1 in
    let same = ap (λ (l : ListedLines). length l.lines) listing.3 in
    let two : 3 ≡ suc (length lines) = line_count (map (λ (e : EndOf). e.who) two_listed.ends) Outer lines r.ends.named in
    omega (arith, few, same, two)

-- without a table the outer stream fails by its list
failed_by_the_list : (piece most : ℕ) (lines : List (List ℕ)) (c : RunRecord) (w : ℕ → DeviceTold) (f : Code) → IsOuterEnd (listing_opener [] (lister piece most lines)) ListRuns (length (map file_stream lines)) c w (how.Fault f) → IsListing (lister piece most lines) (ListRuns (w 0)) (Fault f)
failed_by_the_list piece most lines c w f (inl t) = absurd t.0
failed_by_the_list piece most lines c w f (inr (t, (l, is, back, listing, told))) = subst (λ x. IsListing x (ListRuns (w 0)) (Fault f)) (sym (some_is (lister piece most lines) l is)) listing

-- and its fault is that of its device, or nothing of it failed
told_by_the_list : (piece most : ℕ) (lines : List (List ℕ)) (c : RunRecord) (w : ℕ → DeviceTold) (f : Code) → IsOuterEnd (listing_opener [] (lister piece most lines)) ListRuns (length (map file_stream lines)) c w (how.Fault f) → IsListFault (w 0) f
told_by_the_list piece most lines c w f (inl t) = absurd t.0
told_by_the_list piece most lines c w f (inr (t, (l, is, back, listing, told))) = told

not_open : code.BadPath ≡ code.Open → ⊥
not_open e = cc

not_read : code.BadPath ≡ code.Read → ⊥
not_read e = cc

-- a bad line is told only where no read of the list failed
bad_unfailed : (d : DeviceTold) → IsListFault d code.BadPath → d.read_faults ≡ 0
bad_unfailed d told = ⊎_elim (λ o. absurd (not_open o.1)) (λ o. ⊎_elim (λ e. absurd (not_read e)) (λ z. z) o.1) told

line_told_so : (lines : List (List ℕ)) → Performs (list_work lines) line_told → ⊥
line_told_so lines h =
    let r = ran (list_work lines) line_told (no_nil _ _) h in
    let is : r.home 0 ≡ cut_off_list = came_back (r.home 0) cut_off_list r.rows.tied.1.0 r.rows.at_home.2 in
    let faults = ap (λ (x : DeviceTold). x.read_faults) is in
    let none = bad_unfailed (r.home 0) (told_by_the_list 4096 64 lines line_told r.home code.BadPath r.ends.outer.end) in
    omega (arith, faults, none)

-- a reading of these bytes fails by the file alone
file_fault : (d : DeviceTold) → d.content ≡ Some bad_bytes → (ys : List Element) (g : End) (c : Code) → ListRuns d ys g → g ≡ Fault c → is_of_a_file c ≡ true
file_fault d told ys g c run e = list_fails bad_bytes bad_lines bad_spelled d told ys c (subst (λ x. ListRuns d ys x) e run)

-- a bad line comes only where it could be given a stream
bad_fits : (most : ℕ) (lines : List (List ℕ)) (d : DeviceTold) → d.content ≡ Some bad_bytes → IsListing (lister 4096 most lines) (ListRuns d) (Fault code.BadPath) → length lines < most
bad_fits most lines d told (ys, g, run, is) = ⊎_elim
    (λ e. absurd (false≢true (file_fault d told ys g code.BadPath run e)))
    (λ l. subst (λ m. m < most) (ap (λ (x : ListedLines). length x.lines) is) l)
    (bad_is most is_no_path ys g (ap (λ (x : ListedLines). x.end) is))

-- there are too many only where no further one could be given a stream
many_fill : (most : ℕ) (lines : List (List ℕ)) (d : DeviceTold) → d.content ≡ Some bad_bytes → IsListing (lister 4096 most lines) (ListRuns d) (Fault code.TooMany) → length lines ≡ most
many_fill most lines d told (ys, g, run, is) = ⊎_elim
    (λ e. absurd (false≢true (file_fault d told ys g code.TooMany run e)))
    (λ l. sym (ap (λ (x : ListedLines). length x.lines) is) ∙ l)
    (many_is most is_no_path ys g (ap (λ (x : ListedLines). x.end) is))

bad_first_so : (lines : List (List ℕ)) → Performs (one_line_work lines) bad_line → ⊥
bad_first_so lines h =
    let r = ran (one_line_work lines) bad_line (no_nil _ _) h in
    let told : (r.home 0).content ≡ Some bad_bytes = r.rows.at_home.1 in
    let few : length lines < 1 = bad_fits 1 lines (r.home 0) told (failed_by_the_list 4096 1 lines bad_line r.home code.BadPath r.ends.outer.end) in
    let one : 2 ≡ suc (length lines) = line_count (map (λ (e : EndOf). e.who) bad_line.ends) Outer lines r.ends.named in
    omega (arith, few, one)

not_many_so : (lines : List (List ℕ)) → Performs (list_work lines) one_too_many → ⊥
not_many_so lines h =
    let r = ran (list_work lines) one_too_many (no_nil _ _) h in
    let told : (r.home 0).content ≡ Some bad_bytes = r.rows.at_home.1 in
    let all : length lines ≡ 64 = many_fill 64 lines (r.home 0) told (failed_by_the_list 4096 64 lines one_too_many r.home code.TooMany r.ends.outer.end) in
    let one : 2 ≡ suc (length lines) = line_count (map (λ (e : EndOf). e.who) one_too_many.ends) Outer lines r.ends.named in
    omega (arith, all, one)

pub unfit_lists : AreUnfitLists
unfit_lists = record {
  before = line_before_so;
  left = line_left_so;
  empty = empty_line_so;
  too_far = too_far_so;
  not_told = not_told_so;
  instead = line_told_so;
  too_early = too_early_so;
  more = more_so;
  bad_first = bad_first_so;
  not_many = not_many_so;
}
