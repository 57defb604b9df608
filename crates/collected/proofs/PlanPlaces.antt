-- The rows of a plan, of whose list these lines were given streams, and the streams that they belong to.
use Rattle.std.proofs.Common.{◌≡◌, ℕ, zero, suc, ◌+◌, ◌-◌, ◌<◌, ◌≤◌, false, cond, nat_lt, List, [], ◌∷◌, ◌++◌, map, take, length, Option, Some, None, slice_get, refl, sym, ◌∙◌, ap, subst, ⊎_elim, arith, length-append}
use Rattle.std.proofs.lemmas.Bool.{cases_lt}
use Rattle.std.proofs.lemmas.List.{length-map}
use Rattle.std.proofs.lemmas.List.Sums.{sum_by-cons}
use Rattle.std.specs.List.{sum_by}
use Rattle.std.specs.Prelude.{option_map, option_to_list}
use Rattle.device_port.specs.Device.{Place, to_read}
use Rattle.pipeline_desc.specs.Meant.{PlanMeant, listed_stream, stream_at}
use Rattle.pipeline_desc.specs.Places.{first_row, outer_rows, row_count, stream_places, table_places}
use Rattle.pipeline_desc.specs.declared.listing.ListSpec.{ListSpec}
use Rattle.pipeline_desc.specs.declared.stream.StreamSpec.{StreamSpec}
use Rattle.pipeline_desc.specs.declared.table.TableSpec.{TableSpec}
use Rattle.pipeline_desc.proofs.NodeLaws.{shape_described, shape_listed}
use Rattle.plan_work.specs.Joined.{places_in}
use Rattle.plan_work.specs.Listed.{listed_specs, lister_of}
use Rattle.plan_work.specs.Plans.{opener_of, specs_of, stream_of, streams_of}
use Rattle.run_rules.specs.Facts.{at}
use Rattle.run_rules.specs.Work.{Stream, first_row_of, list_places, opener_places}
use Rattle.join_tale.specs.Records.{bare}
use Rattle.stream_parts.specs.Named.{path_of}
use Rattle.joined_runs.proofs.MadeRows.{at_below}
use Rattle.joined_runs.proofs.PlanRows.{outer_count, plan_row}
use Rattle.joined_runs.proofs.RowPlaces.{at_left, at_right}
use Rattle.joined_runs.proofs.StreamRows.{before_is, inside, place_of, rows_before, stream_rows}
use Rattle.dealt_streams.specs.Parts.{line_at, spec_of}

-- Places in lists.

pub slice_some : {A : Type 0} (xs : List A) (k : ℕ) → k < length xs → (x : A) × (slice_get xs k ≡ Some x)
slice_some [] k l = absurd (omega (arith, l))
slice_some (x ∷ xs) zero l = (x, refl)
slice_some (x ∷ xs) (suc k) l = slice_some xs k (omega (arith, l))

pub slice_below : {A : Type 0} (xs : List A) (k : ℕ) (x : A) → slice_get xs k ≡ Some x → k < length xs
slice_below [] k x e = cc
slice_below (y ∷ xs) zero x e = omega arith
slice_below (y ∷ xs) (suc k) x e = let l = slice_below xs k x e in omega (arith, l)

pub slice_first : {A : Type 0} (xs ys : List A) (k : ℕ) (x : A) → slice_get xs k ≡ Some x → slice_get (xs ++ ys) k ≡ Some x
slice_first [] ys k x e = cc
slice_first (y ∷ xs) ys zero x e = e
slice_first (y ∷ xs) ys (suc k) x e = slice_first xs ys k x e

slice_second : {A : Type 0} (xs ys : List A) (k : ℕ) → length xs ≤ k → slice_get (xs ++ ys) k ≡ slice_get ys (k - length xs)
slice_second [] ys k l = let z : k ≡ k - 0 = omega arith in ap (slice_get ys) z
slice_second (x ∷ xs) ys zero l = absurd (omega (arith, l))
slice_second (x ∷ xs) ys (suc k) l = let z : k - length xs ≡ suc k - suc (length xs) = omega arith in slice_second xs ys k (omega (arith, l)) ∙ ap (slice_get ys) z

slice_mapped : {A B : Type 0} (f : A → B) (xs : List A) (k : ℕ) (x : A) → slice_get xs k ≡ Some x → slice_get (map f xs) k ≡ Some (f x)
slice_mapped f [] k x e = cc
slice_mapped f (y ∷ xs) zero x e = let same : y ≡ x = cc in ap (λ z. Some (f z)) same
slice_mapped f (y ∷ xs) (suc k) x e = slice_mapped f xs k x e

pub some_same : {A : Type 0} (a b : A) → Some a ≡ Some b → a ≡ b
some_same a b e = cc

pub not_less : (a b : ℕ) → b ≤ a → nat_lt a b ≡ false
not_less a b l = grind arith

-- Streams.

at_stream : (ss : List StreamSpec) (k : ℕ) (s : StreamSpec) → slice_get ss k ≡ Some s → at (map stream_of ss) k ≡ Some (stream_of s)
at_stream [] k s e = cc
at_stream (x ∷ ss) zero s e = let same : x ≡ s = cc in ap (λ y. Some (stream_of y)) same
at_stream (x ∷ ss) (suc k) s e = at_stream ss k s e

before_next : (ss : List Stream) (k : ℕ) (s : Stream) → at ss k ≡ Some s → rows_before ss (suc k) ≡ rows_before ss k + length s.places
before_next [] k s e = cc
before_next (t ∷ ss) zero s e = let same : t ≡ s = cc in let z : length t.places + 0 ≡ 0 + length t.places = omega arith in none ss ∙ (z ∙ ap (λ (x : Stream). 0 + length x.places) same)
  where
    none : (ss : List Stream) → length t.places + rows_before ss zero ≡ length t.places + 0
    none ss = refl
before_next (t ∷ ss) (suc k) s e = let i = before_next ss k s e in omega (arith, i)

-- without a list no line is given a stream
pub no_lines : (p : PlanMeant) (lines : List (List ℕ)) → (p.list ≡ None → lines ≡ []) → length (specs_of p lines) ≡ length p.streams + length lines
no_lines p lines h = length-append p.streams (listed_specs p.list lines) ∙ ap (λ n. length p.streams + n) (count p.list h)
  where
    count : (o : Option ListSpec) → (o ≡ None → lines ≡ []) → length (listed_specs o lines) ≡ length lines
    count None h = sym (ap (λ (l : List (List ℕ)). length l) (h refl))
    count (Some l) h = length-map lines (listed_stream l)

-- the places of all rows of a plan
abbrev pub plan_rows : PlanMeant → List (List ℕ) → List Place
plan_rows p lines = places_in (opener_of p lines) (streams_of p lines)

module _ (p : PlanMeant) (lines : List (List ℕ)) where
  module _ (k : ℕ) (s : StreamSpec) (is : slice_get (specs_of p lines) k ≡ Some s) where
    pub within : k < length (specs_of p lines)
    within = slice_below (specs_of p lines) k s is

    here_at : at (streams_of p lines) k ≡ Some (stream_of s)
    here_at = at_stream (specs_of p lines) k s is

    pub next_row : first_row p (suc k) ≡ first_row p k + row_count s
    next_row =
        let a = plan_row p lines k (omega (arith, within)) in
        let b = plan_row p lines (suc k) within in
        let c = before_is (streams_of p lines) k in
        let d = before_is (streams_of p lines) (suc k) in
        let n = before_next (streams_of p lines) k (stream_of s) here_at in
        omega (arith, a, b, c, d, n)

    pub rows_below : first_row p (suc k) ≤ length (plan_rows p lines)
    rows_below =
        let i = inside (opener_of p lines) (streams_of p lines) k (stream_of s) here_at in
        let r = plan_row p lines k (omega (arith, within)) in
        omega (arith, i, r, next_row)

    pub there_at : (i : ℕ) → i < row_count s → at (plan_rows p lines) (first_row p k + i) ≡ at (stream_places s) i
    there_at i l =
        let r = plan_row p lines k (omega (arith, within)) in
        let z : first_row p k + i - first_row_of (bare (Some (opener_of p lines)) (streams_of p lines)) k ≡ i = omega (arith, r) in
        place_of (opener_of p lines) (streams_of p lines) k (stream_of s) here_at (first_row p k + i) (omega (arith, r)) (omega (arith, r, l)) ∙ ap (λ q. at (stream_places s) q) z

  -- the rows of the outer stream are among all
  pub outer_below : outer_rows p ≤ length (plan_rows p lines)
  outer_below = let c = outer_count p lines in let l = length-append (opener_places (opener_of p lines)) (stream_rows (streams_of p lines)) in omega (arith, c, l)

  -- a table's place stands at its row
  pub table_there : (i : ℕ) (t : TableSpec) → at p.tables i ≡ Some t → at (plan_rows p lines) i ≡ Some (to_read t.path)
  table_there i t e =
      let places = opener_places (opener_of p lines) in
      let here : at (table_places p.tables) i ≡ Some (to_read t.path) = at_mapped p.tables i e in
      let few = at_below (table_places p.tables) i (to_read t.path) here in
      let more = length-append (table_places p.tables) (list_places (opener_of p lines).list) in
      at_left places (stream_rows (streams_of p lines)) i (omega (arith, few, more)) ∙ (at_left (table_places p.tables) (list_places (opener_of p lines).list) i few ∙ here)
    where
      at_mapped : (ts : List TableSpec) (i : ℕ) → at ts i ≡ Some t → at (table_places ts) i ≡ Some (to_read t.path)
      at_mapped [] i e = cc
      at_mapped (x ∷ ts) zero e = let same : x ≡ t = cc in ap (λ (y : TableSpec). Some (to_read y.path)) same
      at_mapped (x ∷ ts) (suc i) e = at_mapped ts i e

  -- and the list's behind them
  pub list_there : (l : ListSpec) → p.list ≡ Some l → (at (plan_rows p lines) (length p.tables) ≡ Some (to_read l.path)) × (outer_rows p ≡ length p.tables + 1)
  list_there l is = (there, ap (λ (o : Option ListSpec). length p.tables + length (option_to_list o)) is)
    where
      there : at (plan_rows p lines) (length p.tables) ≡ Some (to_read l.path)
      there =
          let tables = length-map p.tables (λ (t : TableSpec). to_read t.path) in
          let c = outer_count p lines in
          let one = ap (λ (o : Option ListSpec). length p.tables + length (option_to_list o)) is in
          let z : length p.tables - length (table_places p.tables) ≡ 0 = omega (arith, tables) in
          at_left (opener_places (opener_of p lines)) (stream_rows (streams_of p lines)) (length p.tables) (omega (arith, c, one))
          ∙ (at_right (table_places p.tables) (list_places (opener_of p lines).list) (length p.tables) (omega (arith, tables))
          ∙ (ap (at (list_places (opener_of p lines).list)) z ∙ ap (λ (o : Option ListSpec). at (list_places (option_map (lister_of p lines) o)) 0) is))

  -- Once these lines of them were given streams, a stream below those is what it is in the end.
  module _ (without : p.list ≡ None → lines ≡ []) (before more : List (List ℕ)) (split : before ++ more ≡ lines) (k : ℕ) (below : k < length p.streams + length before) where
    described : k < length p.streams → spec_of p before k ≡ slice_get (specs_of p lines) k
    described l =
        let x = slice_some p.streams k l in
        shape_described p (path_of (line_at p before k)) k x.0 x.1 ∙ sym (slice_first p.streams (listed_specs p.list lines) k x.0 x.1)

    line_is : length p.streams ≤ k → line_at p before k ≡ slice_get before (k - length p.streams)
    line_is l = ap (λ b. cond b None (slice_get before (k - length p.streams))) (not_less k (length p.streams) l)

    listed : (o : Option ListSpec) → p.list ≡ o → length p.streams ≤ k → spec_of p before k ≡ slice_get (specs_of p lines) k
    listed None e l =
        absurd (
        let none = ap (λ (ls : List (List ℕ)). length ls) (without e) in
        let all = ap (λ (ls : List (List ℕ)). length ls) split in
        let both = length-append before more in
        omega (arith, below, l, none, all, both))
    listed (Some spec) e l =
        let i = k - length p.streams in
        let line = slice_some before i (omega (arith, below, l)) in
        ap (λ o. stream_at p (path_of o) k) (line_is l ∙ line.1)
        ∙ (shape_listed p line.0 k spec l e
        ∙ sym (slice_second p.streams (listed_specs p.list lines) k l
        ∙ (ap (λ o. slice_get (listed_specs o lines) i) e ∙ slice_mapped (listed_stream spec) lines i line.0 (ap (λ ls. slice_get ls i) (sym split) ∙ slice_first before more i line.0 line.1))))

    pub spec_same : spec_of p before k ≡ slice_get (specs_of p lines) k
    spec_same = ⊎_elim (λ (l : k < length p.streams). described l) (λ (l : length p.streams ≤ k). listed p.list refl l) (cases_lt k (length p.streams))

    pub spec_below : k < length (specs_of p lines)
    spec_below =
        let n = no_lines p lines without in
        let all = ap (λ (ls : List (List ℕ)). length ls) split in
        let both = length-append before more in
        omega (arith, below, n, all, both)

take_grows : {A : Type 0} (f : A → ℕ) (xs : List A) (k i : ℕ) → sum_by f (take k xs) ≤ sum_by f (take (k + i) xs)
take_grows f xs zero i = omega arith
take_grows f [] (suc k) i = omega arith
take_grows f (x ∷ xs) (suc k) i =
    let z : suc k + i ≡ suc (k + i) = omega arith in
    let a = sum_by-cons f x (take k xs) in
    let b = sum_by-cons f x (take (k + i) xs) in
    let g = take_grows f xs k i in
    subst (λ n. sum_by f (take (suc k) (x ∷ xs)) ≤ sum_by f (take n (x ∷ xs))) (sym z) (omega (arith, a, b, g))

-- the rows of a later stream don't begin before
pub rows_grow : (p : PlanMeant) (k i : ℕ) → first_row p k ≤ first_row p (k + i)
rows_grow p k i = let g = take_grows row_count p.streams k i in omega (arith, g)

-- they stand behind those of the outer stream
pub behind_outer : (p : PlanMeant) (k : ℕ) → outer_rows p ≤ first_row p k
behind_outer p k = omega arith
