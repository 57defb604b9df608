-- What holds of the node of a stream.
use Rattle.std.proofs.Common.{◌≡◌, ℕ, ◌+◌, ◌-◌, ◌*◌, ◌^◌, ◌<◌, ◌≤◌, true, List, [], ◌∷◌, ◌++◌, length, length-append, Option, Some, None, Result, Ok, Err, IfOk, refl, ap, ◌∙◌, sym, subst, take, ⊎_elim, arith}
use Rattle.std.specs.Option.{option_or}
use Rattle.std.specs.Prelude.{IfSome, IsOk, IsSome, is_some, option_map, option_to_list, slice_get}
use Rattle.std.specs.List.{range_with_len, sum_by}
use Rattle.std.proofs.lemmas.Bool.{false≢true}
use Rattle.std.proofs.lemmas.List.{append-nil, take_all}
use Rattle.std.proofs.lemmas.Option.{get_or_from_slice_get, none-some, slice_get_cases, slice_get_past, slice_get_within}
use Rattle.std.proofs.lemmas.List.FromFn.{length-range_with_len}
use Rattle.std.proofs.lemmas.List.Sums.{sum_by-cons, sum_by-take-le, sum_by_more}
use Rattle.device_port.specs.Device.{Place, is_read, is_write, to_read, to_write}
use Rattle.pull_nodes.specs.Kinds.{node_kind, load_kind, joined_kind}
use Rattle.pull_nodes.specs.Placed.{is_placed, is_inside}
use Rattle.pull_nodes.specs.Shape.{node_count, scope_count, places_of, reads_of, uses_of, writes_of}
use Rattle.pull_nodes.specs.declared.kind.Kind.{Kind}
use Rattle.pull_nodes.specs.declared.kind.Kind.TheVariants as kind
use Rattle.pull_nodes.specs.declared.node.Node.{Node}
use Rattle.pull_nodes.specs.declared.node.Node.TheVariants.{Weak', Into'}
use Rattle.pipeline_desc.specs.Reading.{Reading}
use Rattle.pipeline_desc.specs.Steps.{kind_given, steps_behind}
use Rattle.pipeline_desc.specs.Nodes.{Boxed, IsBody, IsOrText, IsNodeOf, IsStreamNode, IsWritten, event_count, events_of, load_of, path_row, rows_for, scopes_in, scopes_of, shape_of, stream_events}
use Rattle.pipeline_desc.specs.Places.{first_row, outer_rows, row_count, rows_of, rows_that, rows_within, second_path, stream_places}
use Rattle.pipeline_desc.specs.Limits.{most_steps, most_streams}
use Rattle.pipeline_desc.specs.Meant.{PlanMeant, SettingMeant, listed_at, listed_limit, listed_stream, setting_at, stream_at, stream_limit}
use Rattle.pipeline_desc.specs.Sound.{IsSoundList, IsSoundPlan}
use Rattle.pipeline_desc.specs.declared.listing.ListSpec.{ListSpec}
use Rattle.pipeline_desc.specs.declared.stream.Second.{Second}
use Rattle.pipeline_desc.specs.declared.stream.StreamSpec.{StreamSpec}
use Rattle.pipeline_desc.proofs.Bodies.{IsBodySeen, IsSeen, among_first, body_kind, body_seen, file_rows}
use Rattle.pipeline_desc.proofs.Consecutive.{placed_run}

-- a text of a node's kind joins with it
text_joins : (k : Kind) (text : List ℕ) → is_some (joined_kind k (load_kind (load_of k text))) ≡ true
text_joins kind.Bytes text = refl
text_joins kind.Lines text = refl
text_joins kind.Rows text = refl
text_joins kind.Any text = refl

-- a text in place of a fault changes no rows, and puts a scope round the node
or_text_seen : (ps rs us : List ℕ) (k : Kind) (o : Option (List ℕ)) (a n : Node) → IsOrText k o a n → IsSeen ps rs [] us 0 a → IsSeen ps rs [] us (length (option_to_list o)) n
or_text_seen ps rs us k None a n e seen = subst (λ m. IsSeen ps rs [] us 0 m) (sym e) seen
or_text_seen ps rs us k (Some text) a n (b, c, d, e) seen = record {
  places = ap places_of e ∙ append-nil (places_of a) ∙ seen.places;
  reads = ap reads_of e ∙ append-nil (reads_of a) ∙ seen.reads;
  writes = ap writes_of e ∙ append-nil (writes_of a) ∙ seen.writes;
  uses = ap uses_of e ∙ append-nil (uses_of a) ∙ seen.uses;
  scopes = let none = seen.scopes in ap scope_count e ∙ omega (arith, none);
}

or_text_inside : (k : Kind) (o : Option (List ℕ)) (a n : Node) (qs : List ℕ) → IsOrText k o a n → is_inside qs a ≡ true → is_inside qs n ≡ true
or_text_inside k None a n qs e inside = ap (is_inside qs) e ∙ inside
or_text_inside k (Some text) a n qs (b, c, d, e) inside = ap (is_inside qs) e ∙ rw inside refl

or_text_kind : (k : Kind) (o : Option (List ℕ)) (a n : Node) → IsOrText k o a n → node_kind a ≡ Some k → is_some (node_kind n) ≡ true
or_text_kind k None a n e is = ap (λ m. is_some (node_kind m)) e ∙ ap is_some is
or_text_kind k (Some text) a n (b, c, d, e) is = ap (λ m. is_some (node_kind m)) e ∙ rw is (text_joins k text)

or_text_count : (k : Kind) (o : Option (List ℕ)) (a n : Node) → IsOrText k o a n → node_count n ≤ node_count a + 3
or_text_count k None a n e = omega (arith, ap node_count e)
or_text_count k (Some text) a n (b, c, d, e) = omega (arith, ap node_count e)

-- one that is written to a first row
into_seen : (p : ℕ) (b c : Boxed) (ps : List ℕ) (count : ℕ) (a n : Node) → n ≡ Weak' p b (Into' p c a) → IsSeen ps ps [] ps count a → IsSeen (p ∷ ps) ps (p ∷ []) (p ∷ ps) count n
into_seen p b c ps count a n e seen = subst (λ m. IsSeen (p ∷ ps) ps (p ∷ []) (p ∷ ps) count m) (sym e) (record {
  places = ap (λ qs. p ∷ qs) seen.places;
  reads = seen.reads;
  writes = ap (λ qs. p ∷ qs) seen.writes;
  uses = ap (λ qs. p ∷ qs) seen.uses;
  scopes = seen.scopes;
})

written_inside : (p : ℕ) (o : Option (List ℕ)) (a n : Node) → IsWritten p o a n → ((qs : List ℕ) → is_inside qs a ≡ true) → is_inside [] n ≡ true
written_inside p None a n e inside = ap (is_inside []) e ∙ inside []
written_inside p (Some to) a n (b, c, e) inside = ap (is_inside []) e ∙ rw (inside (p ∷ []), among_first p []) refl

written_kind : (p : ℕ) (o : Option (List ℕ)) (a n : Node) → IsWritten p o a n → is_some (node_kind a) ≡ true → is_some (node_kind n) ≡ true
written_kind p None a n e is = ap (λ m. is_some (node_kind m)) e ∙ is
written_kind p (Some to) a n (b, c, e) is = ap (λ m. is_some (node_kind m)) e ∙ mapped (node_kind a) is
  where
    mapped : (o : Option Kind) → is_some o ≡ true → is_some (option_map (λ j. kind.Any) o) ≡ true
    mapped None h = h
    mapped (Some j) h = refl

written_count : (p : ℕ) (o : Option (List ℕ)) (a n : Node) → IsWritten p o a n → node_count n ≤ node_count a + 2
written_count p None a n e = omega (arith, ap node_count e)
written_count p (Some to) a n (b, c, e) = omega (arith, ap node_count e)

-- the rows of a stream, by what is given of it
abbrev some_rows : (to : Option (List ℕ)) (path : List ℕ) (o : Option Second) → List Place
some_rows to path o = option_to_list (option_map to_write to) ++ to_read path ∷ option_to_list (option_map to_read (second_path o))

-- what is seen of the node of these rows
record HasRows (place : ℕ) (rows : List Place) (count : ℕ) (n : Node) : Type 0 where
  seen : IsSeen (range_with_len place (length rows)) (rows_that is_read place rows) (rows_that is_write place rows) (range_with_len place (length rows)) count n

written_seen : (place row : ℕ) (to : Option (List ℕ)) (path : List ℕ) (o : Option Second) (count : ℕ) (a n : Node) → row ≡ place + length (option_to_list to) → IsWritten place to a n
    → IsSeen (file_rows row o) (file_rows row o) [] (file_rows row o) count a → HasRows place (some_rows to path o) count n
written_seen place row None path None count a n at e seen =
    let same : row ≡ place = omega (arith, at) in
    record { seen = subst (λ m. IsSeen (place ∷ []) (place ∷ []) [] (place ∷ []) count m) (sym e) (subst (λ r. IsSeen (r ∷ []) (r ∷ []) [] (r ∷ []) count a) same seen) }
written_seen place row None path (Some second) count a n at e seen =
    let same : row ≡ place = omega (arith, at) in
    let rows = place ∷ (place + 1) ∷ [] in
    record { seen = subst (λ m. IsSeen rows rows [] rows count m) (sym e) (subst (λ r. IsSeen (r ∷ (r + 1) ∷ []) (r ∷ (r + 1) ∷ []) [] (r ∷ (r + 1) ∷ []) count a) same seen) }
written_seen place row (Some to) path None count a n at (b, c, e) seen =
    let same : row ≡ place + 1 = omega (arith, at) in
    record { seen = into_seen place b c ((place + 1) ∷ []) count a n e (subst (λ r. IsSeen (r ∷ []) (r ∷ []) [] (r ∷ []) count a) same seen) }
written_seen place row (Some to) path (Some second) count a n at (b, c, e) seen =
    let same : row ≡ place + 1 = omega (arith, at) in
    record { seen = into_seen place b c ((place + 1) ∷ (place + 1 + 1) ∷ []) count a n e (subst (λ r. IsSeen (r ∷ (r + 1) ∷ []) (r ∷ (r + 1) ∷ []) [] (r ∷ (r + 1) ∷ []) count a) same seen) }

module _ (place : ℕ) (s : StreamSpec) (n : Node) (h : IsStreamNode place s n) where
  body : IsBodySeen (path_row place s) s h.0
  body = body_seen (path_row place s) s h.0 h.3

  seen : HasRows place (stream_places s) (scopes_in s) n
  seen =
      let rows = file_rows (path_row place s) s.second in
      written_seen place (path_row place s) s.to s.path s.second (scopes_in s) h.1 n refl h.6 (or_text_seen rows rows rows h.2 s.on_fault h.0 h.1 h.5 body.seen)

  inside : is_inside [] n ≡ true
  inside = written_inside place s.to h.1 n h.6 (λ qs. or_text_inside h.2 s.on_fault h.0 h.1 qs h.5 (body.inside qs))

  has_kind : IsSome (node_kind n)
  has_kind = written_kind place s.to h.1 n h.6 (or_text_kind h.2 s.on_fault h.0 h.1 h.5 h.4)

  has_few : length (s.steps ++ steps_behind s.second) ≤ 16 → node_count n < 2 ^ 32
  has_few few =
      omega (arith, few, length-append s.steps (steps_behind s.second), body.few, or_text_count h.2 s.on_fault h.0 h.1 h.5, written_count place s.to h.1 n h.6)

  has_events : (tables : ℕ) → event_count n + 1 + tables ≡ stream_events tables s
  has_events tables = rw (seen.seen.places, length-range_with_len place (row_count s), seen.seen.scopes) refl

-- a stream has few rows
some_rows_le : (to : Option (List ℕ)) (path : List ℕ) (o : Option Second) → length (some_rows to path o) ≤ 3
some_rows_le None path None = omega arith
some_rows_le None path (Some second) = omega arith
some_rows_le (Some to) path None = omega arith
some_rows_le (Some to) path (Some second) = omega arith

pub row_count_le : (s : StreamSpec) → row_count s ≤ 3
row_count_le s = some_rows_le s.to s.path s.second

-- and so have all
pub rows_le : (streams : List StreamSpec) → sum_by row_count streams ≤ 3 * length streams
rows_le [] = omega arith
rows_le (s ∷ streams) = omega (arith, sum_by-cons row_count s streams, row_count_le s, rows_le streams)

-- so have the first of them, where there are no more than there may be
pub rows_few : (streams : List StreamSpec) (k : ℕ) → length streams ≤ most_streams → sum_by row_count (take k streams) ≤ 3 * most_streams
rows_few streams k few = omega (arith, sum_by-take-le row_count streams k, rows_le streams, few)

-- there are no more streams than there may be
limit_by : (setting : SettingMeant) (n : ℕ) (o : Option ListSpec) → n ≤ most_streams → IfSome o (IsSoundList setting n) → n + listed_limit o ≤ most_streams
limit_by setting n None few h = omega (arith, few)
limit_by setting n (Some l) few h = h.few_listed

pub limit_le : (p : PlanMeant) → IsSoundPlan p → stream_limit p ≤ most_streams
limit_le p sound = limit_by (setting_at p.tables p.groups (length p.streams) (length p.streams)) (length p.streams) p.list sound.few_streams sound.list

-- without a list there are no more than are described
pub no_list : (p : PlanMeant) → p.list ≡ None → length p.streams < stream_limit p → ⊥
no_list p none more = let zero_more = ap listed_limit none in omega (arith, zero_more, more)

-- a stream that is described, and one of the list
pub shape_described : (p : PlanMeant) (line : List ℕ) (k : ℕ) (s : StreamSpec) → slice_get p.streams k ≡ Some s → stream_at p line k ≡ Some s
shape_described p line k s is = ap (λ o. option_or o (listed_at p.list line)) is

pub shape_listed : (p : PlanMeant) (line : List ℕ) (k : ℕ) (l : ListSpec) → length p.streams ≤ k → p.list ≡ Some l → stream_at p line k ≡ Some (listed_stream l line)
shape_listed p line k l behind is = ap (λ o. option_or o (listed_at p.list line)) (slice_get_past p.streams k behind) ∙ ap (λ o. listed_at o line) is

-- a stream stands among those that are described, or is one of the list
data IsSort (p : PlanMeant) (k : ℕ) (s : StreamSpec) : Type 0 where
  described : slice_get p.streams k ≡ Some s → IsSort p k s
  listed : (l : ListSpec) → length p.streams ≤ k → p.list ≡ Some l → listed_stream l [] ≡ s → IsSort p k s

some_same : {A : Type 0} (x y : A) → Some x ≡ Some y → x ≡ y
some_same x y e = cc

sort_of : (p : PlanMeant) (k : ℕ) (s : StreamSpec) → shape_of p k ≡ Some s → IsSort p k s
sort_of p k s is =
    ⊎_elim (λ there. described (there.2 ∙ ap (λ (x : StreamSpec). Some x) (some_same there.0 s (sym (shape_described p [] k there.0 there.2) ∙ is))))
    (λ past. of_list p.list refl past.0 (sym (ap (λ o. option_or o (listed_at p.list [])) past.1) ∙ is)) (slice_get_cases p.streams k).1
  where
    of_list : (o : Option ListSpec) → p.list ≡ o → length p.streams ≤ k → listed_at p.list [] ≡ Some s → IsSort p k s
    of_list None e behind at = absurd (none-some s (sym (ap (λ q. listed_at q []) e) ∙ at))
    of_list (Some l) e behind at = listed l behind e (some_same (listed_stream l []) s (sym (ap (λ q. listed_at q []) e) ∙ at))

-- the rows of a stream stand behind those before it
next_row : (p : PlanMeant) (k : ℕ) (s : StreamSpec) → IsSort p k s → first_row p (k + 1) ≡ first_row p k + row_count s
next_row p k s (described is) =
    let same = ap row_count (get_or_from_slice_get p.streams k s s is) in
    let within = slice_get_within p.streams k s is in
    omega (arith, sum_by_more row_count p.streams k s within, same, within)
next_row p k s (listed l behind e is) =
    let one : 1 ≡ row_count s = ap row_count is in
    let whole : take k p.streams ≡ p.streams = take_all k p.streams behind in
    let more : take (k + 1) p.streams ≡ p.streams = take_all (k + 1) p.streams (omega (arith, behind)) in
    let a = ap (λ l. sum_by row_count l) whole in
    let b = ap (λ l. sum_by row_count l) more in
    omega (arith, a, b, one, behind)

module _ (p : PlanMeant) (k : ℕ) (s : StreamSpec) (is : shape_of p k ≡ Some s) where
  count_is : first_row p (k + 1) - first_row p k ≡ row_count s
  count_is = omega (arith, next_row p k s (sort_of p k s is))

  -- the rows of stream k, in order
  pub rows_are : rows_within (rows_of p k) ≡ range_with_len (first_row p k) (row_count s)
  rows_are = ap (λ count. range_with_len (first_row p k) count) count_is

  is_in_rows : (n : Node) → HasRows (first_row p k) (stream_places s) (scopes_in s) n → is_inside [] n ≡ true → is_placed (rows_of p k) n ≡ true
  is_in_rows n seen inside = placed_run (rows_of p k) (first_row p k) (row_count s) n seen.seen.places seen.seen.uses inside (omega arith) (omega (arith, next_row p k s (sort_of p k s is)))

-- what callers are told of the node of stream k
pub record IsTold (p : PlanMeant) (k : ℕ) (n : Node) : Type 0 where
  pub node : IsNodeOf p k n
  pub kind : IsSome (node_kind n)
  pub few : node_count n < 2 ^ 32
  pub placed : is_placed (rows_of p k) n ≡ true
  pub places : places_of n ≡ rows_within (rows_of p k)
  pub reads : rows_for is_read p k ≡ Some (reads_of n)
  pub writes : rows_for is_write p k ≡ Some (writes_of n)
  pub scopes : scopes_of p k ≡ Some (scope_count n)
  pub events : events_of p k ≡ Some (event_count n + 1 + outer_rows p)

-- a node that is made as that of a stream is that of stream k, whichever file a stream of the list reads
node_is : (p : PlanMeant) (k : ℕ) (s : StreamSpec) (n : Node) → IsStreamNode (first_row p k) s n → IsSort p k s → IsNodeOf p k n
node_is p k s n h (described is) line = (s, shape_described p line k s is, h)
node_is p k s n h (listed l behind e is) line =
    let own : IsStreamNode (first_row p k) (listed_stream l []) n = subst (λ (x : StreamSpec). IsStreamNode (first_row p k) x n) (sym is) h in
    (listed_stream l line, shape_listed p line k l behind e, own)

pub told_of : (p : PlanMeant) (k : ℕ) (s : StreamSpec) (n : Node) → shape_of p k ≡ Some s → length (s.steps ++ steps_behind s.second) ≤ 16 → IsStreamNode (first_row p k) s n → IsTold p k n
told_of p k s n is few h =
    let place = first_row p k in
    let rows = seen place s n h in
    record {
      node = node_is p k s n h (sort_of p k s is);
      kind = has_kind place s n h;
      few = has_few place s n h few;
      placed = is_in_rows p k s is n rows (inside place s n h);
      places = rows.seen.places ∙ sym (rows_are p k s is);
      reads = rw (is, rows.seen.reads) refl;
      writes = rw (is, rows.seen.writes) refl;
      scopes = rw (is, rows.seen.scopes) refl;
      events = rw (is, has_events place s n h (outer_rows p)) refl;
    }

-- a body whose steps and join get what they take has a kind
pub body_has_kind : (place k : ℕ) (s : StreamSpec) (a : Node) → IsOk (kind_given k s.steps s.second) → IsBody place s a → IsSome (node_kind a)
body_has_kind place k s a fits body = go (kind_given k s.steps s.second) refl fits
  where
    go : (r : Reading Kind) → kind_given k s.steps s.second ≡ r → IsOk r → IsSome (node_kind a)
    go (Ok given) e ok = ap is_some (body_kind place k s a given body e)
    go (Err e) f ok = absurd (false≢true ok)

-- a stream of the list has as few steps as the list
pub few_listed : (l : ListSpec) → length l.steps ≤ most_steps → length (l.steps ++ []) ≤ most_steps
few_listed l few = omega (arith, few, length-append l.steps [])

-- the body of a stream of the list, with the text after a fault, is the stream's node
pub listed_given : {E : Type 0} (place : ℕ) (l : ListSpec) (a : Node) (r : Result Node E) → IsBody place (listed_stream l []) a → IfOk r (λ n. (k : Kind) × (node_kind a ≡ Some k) × IsOrText k l.on_fault a n)
    → IfOk r (λ n. IsStreamNode place (listed_stream l []) n)
listed_given place l a (Ok n) body h =
    let row : place ≡ path_row place (listed_stream l []) = omega arith in (a, n, h.0, subst (λ q. IsBody q (listed_stream l []) a) row body, h.1, h.2, refl)
listed_given place l a (Err e) body h = tt

-- a part that is given, with the text after a fault, is the node of its stream as far as it is written
pub node_written : {E : Type 0} (place : ℕ) (s : StreamSpec) (a m : Node) (k : Kind) (r : Result Node E) → IsBody (path_row place s) s a → node_kind a ≡ Some k → IsOrText k s.on_fault a m
    → IfOk r (λ n. IsWritten place s.to m n) → IfOk r (λ n. IsStreamNode place s n)
node_written place s a m k (Ok n) own is text h = (a, m, k, own, is, text, h)
node_written place s a m k (Err e) own is text h = tt

-- what follows of each node follows of the one that is given
pub of_given : {E : Type 0} (P Q : Node → Type 0) (r : Result Node E) → IfOk r P → ((n : Node) → P n → Q n) → IfOk r Q
of_given P Q (Ok n) h f = f n h
of_given P Q (Err e) h f = tt
