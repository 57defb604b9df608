-- A path that is written is that of no other row.
use Rattle.std.proofs.Common.{◌≡◌, ℕ, zero, suc, ◌≤◌, Bool, true, cond, List, [], ◌∷◌, ◌++◌, count_by, Option, Some, None, refl, ap, ◌∙◌, sym, subst, ⊎_elim, arith}
use Rattle.std.specs.Prelude.{option_map, option_to_list, slice_get}
use Rattle.std.specs.List.{flat_map}
use Rattle.std.specs.Str.{bytes_eq}
use Rattle.std.proofs.lemmas.Bool.{leb-true}
use Rattle.std.proofs.lemmas.List.Sums.{sum_by-cons}
use Rattle.std.proofs.lemmas.Slice.Eq.{bytes_eq-Decides}
use Rattle.chunk_core.proofs.Filters.{among_append}
use Rattle.chunk_core.proofs.Members.{among_cons, among_nil}
use Rattle.chunk_core.specs.Lists.{IsAmong}
use Rattle.chunk_core.specs.Lists.IsAmong.{here, there}
use Rattle.device_port.specs.Device.{Place, to_read, to_write}
use Rattle.device_port.specs.declared.device.Mode.TheVariants as mode
use Rattle.pipeline_desc.specs.Laws.{WrittenPathsStandAlone}
use Rattle.pipeline_desc.specs.Outputs.{is_alone}
use Rattle.pipeline_desc.specs.Places.{all_places, list_places, second_path, stream_places, table_places}
use Rattle.pipeline_desc.specs.declared.listing.ListSpec.{ListSpec}
use Rattle.pipeline_desc.specs.declared.stream.Second.{Second}
use Rattle.pipeline_desc.specs.declared.stream.StreamSpec.{StreamSpec}
use Rattle.pipeline_desc.specs.declared.table.TableSpec.{TableSpec}

weighed : (b : Bool) → b ≡ true → cond {A = ℕ} b 1 0 ≡ 1
weighed b e = rw e refl

-- an element that passes is counted
counted : {A : Type 0} (test : A → Bool) (xs : List A) (r : ℕ) (a : A) → slice_get xs r ≡ Some a → test a ≡ true → 1 ≤ count_by test xs
counted test [] r a is passes = absurd (nothing is)
  where
    nothing : None ≡ Some a → ⊥
    nothing e = cc
counted test (x ∷ xs) zero a is passes = let same : x ≡ a = cc in omega (arith, sum_by-cons (λ y. cond (test y) 1 0) x xs, weighed (test x) (ap test same ∙ passes))
counted test (x ∷ xs) (suc r) a is passes = omega (arith, sum_by-cons (λ y. cond (test y) 1 0) x xs, counted test xs r a is passes)

-- two elements that pass are one, where at most one is counted
same_place : {A : Type 0} (test : A → Bool) (xs : List A) (r q : ℕ) (a b : A) → slice_get xs r ≡ Some a → slice_get xs q ≡ Some b → test a ≡ true → test b ≡ true → count_by test xs ≤ 1 → r ≡ q
same_place test [] r q a b is are one other few = absurd (nothing is)
  where
    nothing : None ≡ Some a → ⊥
    nothing e = cc
same_place test (x ∷ xs) zero zero a b is are one other few = refl
same_place test (x ∷ xs) zero (suc q) a b is are one other few =
    let same : x ≡ a = cc in
    absurd (omega (arith, sum_by-cons (λ y. cond (test y) 1 0) x xs, weighed (test x) (ap test same ∙ one), counted test xs q b are other, few))
same_place test (x ∷ xs) (suc r) zero a b is are one other few =
    let same : x ≡ b = cc in
    absurd (omega (arith, sum_by-cons (λ y. cond (test y) 1 0) x xs, weighed (test x) (ap test same ∙ other), counted test xs r a is one, few))
same_place test (x ∷ xs) (suc r) (suc q) a b is are one other few =
    ap suc (same_place test xs r q a b is are one other (omega (arith, sum_by-cons (λ y. cond (test y) 1 0) x xs, few)))

-- the element at a place of a list is among its elements
among_get : {A : Type 0} (xs : List A) (r : ℕ) (a : A) → slice_get xs r ≡ Some a → IsAmong a xs
among_get [] r a is = absurd (nothing is)
  where
    nothing : None ≡ Some a → ⊥
    nothing e = cc
among_get (x ∷ xs) zero a is = let same : x ≡ a = cc in subst (λ y. IsAmong y (x ∷ xs)) same (here xs)
among_get (x ∷ xs) (suc r) a is = there x (among_get xs r a is)

-- a place that is read isn't one that is written
not_written : (path : List ℕ) (a : Place) → a ≡ to_read path → a.mode ≡ mode.Write → ⊥
not_written path a e writes = let both : mode.Read ≡ mode.Write = sym (ap (λ (p : Place). p.mode) e) ∙ writes in cc

files_read : (path : List ℕ) (o : Option Second) (a : Place) → IsAmong a (to_read path ∷ option_to_list (option_map to_read (second_path o))) → a.mode ≡ mode.Write → ⊥
files_read path o a i writes = ⊎_elim (λ e. not_written path a e writes) (λ m. second_read o m) (among_cons i)
  where
    second_read : (o : Option Second) → IsAmong a (option_to_list (option_map to_read (second_path o))) → ⊥
    second_read None m = among_nil m
    second_read (Some second) m = ⊎_elim (λ e. not_written second.path a e writes) among_nil (among_cons m)

-- of a stream's places the one that is written is that of its `to`
to_written : (to : Option (List ℕ)) (path : List ℕ) (o : Option Second) (a : Place) → IsAmong a (option_to_list (option_map to_write to) ++ to_read path ∷ option_to_list (option_map to_read (second_path o)))
    → a.mode ≡ mode.Write → to ≡ Some a.path
to_written None path o a i writes = absurd (files_read path o a i writes)
to_written (Some to) path o a i writes = ⊎_elim (λ e. ap (λ (t : List ℕ). Some t) (sym (ap (λ (p : Place). p.path) e))) (λ m. absurd (files_read path o a m writes)) (among_cons i)

tables_read : (tables : List TableSpec) (a : Place) → IsAmong a (table_places tables) → a.mode ≡ mode.Write → ⊥
tables_read [] a i writes = among_nil i
tables_read (t ∷ tables) a i writes = ⊎_elim (λ e. not_written t.path a e writes) (λ m. tables_read tables a m writes) (among_cons i)

list_read : (list : Option ListSpec) (a : Place) → IsAmong a (list_places list) → a.mode ≡ mode.Write → ⊥
list_read None a i writes = among_nil i
list_read (Some l) a i writes = ⊎_elim (λ e. not_written l.path a e writes) among_nil (among_cons i)

-- one of these streams writes to the path
record IsWrittenBy (streams : List StreamSpec) (path : List ℕ) : Type 0 where
  number : ℕ
  stream : StreamSpec
  is : slice_get streams number ≡ Some stream
  to : stream.to ≡ Some path

streams_write : (streams : List StreamSpec) (a : Place) → IsAmong a (flat_map stream_places streams) → a.mode ≡ mode.Write → IsWrittenBy streams a.path
streams_write [] a i writes = absurd (among_nil i)
streams_write (s ∷ streams) a i writes =
    ⊎_elim (λ m. record { number = 0; stream = s; is = refl; to = to_written s.to s.path s.second a m writes })
    (λ m. let more = streams_write streams a m writes in record { number = suc more.number; stream = more.stream; is = more.is; to = more.to })
    (among_append a (stream_places s) (flat_map stream_places streams) i)

pub written_alone : WrittenPathsStandAlone
written_alone p sound r q a b is are writes same =
    let places = all_places p.tables p.list p.streams in
    let behind = list_places p.list ++ flat_map stream_places p.streams in
    let found : IsWrittenBy p.streams a.path =
    ⊎_elim (λ m. absurd (tables_read p.tables a m writes))
    (λ n. ⊎_elim (λ m. absurd (list_read p.list a m writes)) (λ m. streams_write p.streams a m writes) (among_append a (list_places p.list) (flat_map stream_places p.streams) n))
    (among_append a (table_places p.tables) behind (among_get places r a is)) in
    let once : is_alone places (Some a.path) ≡ true = subst (λ o. is_alone places o ≡ true) found.to (sound.alone found.number found.stream found.is) in
    let itself : bytes_eq a.path a.path ≡ true = (bytes_eq-Decides a.path a.path).1 refl in
    same_place (λ (p : Place). bytes_eq a.path p.path) places r q a b is are itself (subst (λ path. bytes_eq a.path path ≡ true) same itself)
    (leb-true (count_by (λ (p : Place). bytes_eq a.path p.path) places) 1 once)
