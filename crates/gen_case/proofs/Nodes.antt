-- What the streams of a case do over its files.
use Rattle.std.proofs.Common.{◌≡◌, ◌⊎◌, ℕ, zero, suc, ◌+◌, ◌<◌, ◌≤◌, ◌^◌, false, Option, Some, None, List, [], ◌∷◌, ◌++◌, map, take, length, refl, sym, ap, ◌∙◌, subst, inl, inr, ⊎_elim, append-nil, append_assoc, length-append, arith, lit≤, lit<}
use Rattle.std.specs.List.{slice_get, sum_by}
use Rattle.std.specs.Option.{option_or}
use Rattle.std.specs.Prelude.{IfSome}
use Rattle.std.proofs.lemmas.Bool.{le-ltb}
use Rattle.std.proofs.lemmas.List.{length-take, take_all}
use Rattle.chunk_core.specs.Elements.{Byte, Element}
use Rattle.chunk_core.specs.Feed.{Given}
use Rattle.chunk_core.specs.Outcomes.{Cut, Done, End, Fault, Outcomes}
use Rattle.chunk_core.specs.Tables.{Values}
use Rattle.chunk_core.specs.declared.code.Code.{Code}
use Rattle.chunk_core.specs.declared.code.Code.TheVariants as code
use Rattle.csv_pipes.specs.Dictionaries.{table_value}
use Rattle.device_port.specs.Device.{DeviceTold}
use Rattle.pipeline_desc.specs.Nodes.{Boxed, IsNodeOf, IsStreamNode}
use Rattle.pipeline_desc.specs.Places.{first_row, row_count}
use Rattle.pipeline_desc.specs.declared.stream.StreamSpec.{StreamSpec}
use Rattle.pull_nodes.specs.Csv.{csv_all, csv_part, is_too_large}
use Rattle.pull_nodes.specs.Field.{each_made, or_no_field}
use Rattle.pull_nodes.specs.Lookup.{looked_up}
use Rattle.pull_nodes.specs.PipeRule.{without_fault}
use Rattle.pull_nodes.specs.Pipes.{all_of, part_of}
use Rattle.pull_nodes.specs.Plain.{bytes_of}
use Rattle.pull_nodes.specs.Runs.{FirstBytes, Gives, GivesAtEnd, GivesBy, IsFault, IsIdealRun, IsIdle, IsRun, OrLeft, Piped, Reads, ReadsContent, ReadsWholeBy, StopsReading, any_leeway, end_by_fault, no_leeway}
use Rattle.pull_nodes.specs.declared.node.Node.{Node}
use Rattle.pull_nodes.specs.declared.node.Node.TheVariants.{Read, Through', Weak'}
use Rattle.pull_nodes.specs.declared.pipe.Pipe.TheVariants as pipe
use Rattle.pull_nodes.proofs.Meanings.{bytes_of-append, bytes_of-map}
use Rattle.run_rules.specs.Facts.{first_numbers}
use Rattle.gen_case.specs.Case.{stream_text, table_text}
use Rattle.gen_case.specs.Plan.{plan_of_case, stream_spec, streams_of}
use Rattle.gen_case.specs.Rendering.{looked_up_rows, rows_of}
use Rattle.gen_case.specs.Runs.{IsOverFiles, NodesNeverFail, NodesRunIdeal}
use Rattle.gen_case.specs.declared.case.Case.{Case}
use Rattle.gen_case.proofs.Ideal.{line_bytes}
use Rattle.gen_case.proofs.Rendering.{streams_render_ideal}
use Rattle.gen_case.proofs.Sound.{stream_at}
use Rattle.gen_case.proofs.Counted.{rows_before}

-- the node that reads the device at a place, with its parts in boxes somewhere
abbrev reader : ℕ → Node
reader p = Read p

abbrev csv_node : ℕ → Boxed → Node
csv_node p x = Through' x (reader p) pipe.Csv

abbrev lookup_node : ℕ → Boxed → Boxed → Node
lookup_node p x y = Through' y (csv_node p x) (pipe.Lookup 0 0)

abbrev case_node : ℕ → Boxed → Boxed → Boxed → Node
case_node p x y z = Weak' p z (lookup_node p x y)

or_none : (o : Option StreamSpec) → option_or o None ≡ o
or_none None = refl
or_none (Some s) = refl

-- each node of a stream is such a one
node_is : (c : Case) (k : ℕ) (n : Node) → IsNodeOf (plan_of_case c) k n → (x y z : Boxed) × (n ≡ case_node (1 + k) x y z)
node_is c k n whole =
    let (s, found, node) = whole [] in
    let at = stream_at c.streams k s (sym (or_none (slice_get (streams_of c) k)) ∙ found) in
    let row : first_row (plan_of_case c) k ≡ 1 + k = rows_before c k at.0 in
    of_spec (subst (λ p. IsStreamNode p (stream_spec k) n) row (subst (λ (x : StreamSpec). IsStreamNode (first_row (plan_of_case c) k) x n) (sym at.1) node))
  where
    of_spec : IsStreamNode (1 + k) (stream_spec k) n → (x y z : Boxed) × (n ≡ case_node (1 + k) x y z)
    of_spec (a, m, kind, (a1, m1, z, (c1, (x, is1), (c2, (y, is2), is3)), beside, weak), kinds, text, written) =
        let place : 1 + k + 0 ≡ 1 + k = omega arith in
        (x, y, z, written ∙ (text ∙ (weak ∙ (ap (λ (b : Node). Weak' (1 + k + 0) z b) (beside ∙ (is3 ∙ (is2 ∙ ap (λ (b : Node). Through' y b (pipe.Lookup 0 0)) is1))) ∙ ap (λ p. case_node p x y z) place))))

none_before : (ys more : List Element) → ys ++ more ≡ [] → ys ≡ []
none_before [] more e = refl
none_before (y ∷ ys) more e = cc

-- where something is made of each element, it is of each of a front
module _ (made : Element → Option Element) where
  front_quiet : (xs more : List Element) → (each_made made (xs ++ more)).fault ≡ None → (each_made made xs).fault ≡ None
  front_quiet [] more h = refl
  front_quiet (x ∷ xs) more h =
      elim (made x) as (λ o. (or_no_field o (each_made made (xs ++ more))).fault ≡ None → (or_no_field o (each_made made xs)).fault ≡ None) [ None ↦ λ g. g | Some y ↦ λ g. front_quiet xs more g ] h

-- what csv gives of fewer bytes than are too many
small_part : (xs : List ℕ) → length xs ≤ 16777216 → csv_part xs ≡ without_fault []
small_part xs small = rw (le-ltb 16777216 (length xs) small) refl

module _ (c : Case) (k : ℕ) (v : Values) (w : ℕ → DeviceTold) (few : c.lines ≤ 100000) (over : IsOverFiles c k v w) where
  abbrev text : List ℕ
  text = stream_text c k

  abbrev d : DeviceTold
  d = w (1 + k)

  short : length text ≤ 16777216
  short = let l = line_bytes c k in omega (arith, few, l)

  csv_is : csv_all text ≡ without_fault (rows_of c k)
  csv_is = (streams_render_ideal c k few).csv

  values_are : ◌≡◌ {A = List ℕ → Option (List ℕ)} (v 0) (table_value table_text)
  values_are = λ i key. over.values key i

  lookup_is : each_made (looked_up (v 0) 0) (rows_of c k) ≡ without_fault (looked_up_rows c k)
  lookup_is = ap (λ (f : List ℕ → Option (List ℕ)). each_made (looked_up f 0) (rows_of c k)) values_are ∙ (streams_render_ideal c k few).lookup

  -- the whole file was read, and goes through csv
  csv_done : (xs ys : List Element) (e : End) → bytes_of xs ≡ text → GivesBy (csv_part (bytes_of xs)).fault (part_of v pipe.Csv) (all_of v pipe.Csv) xs Done ys e → (ys ≡ rows_of c k) × (e ≡ Done)
  csv_done xs ys e is h =
      let all : csv_all (bytes_of xs) ≡ without_fault (rows_of c k) = ap csv_all is ∙ csv_is in
      let quiet : (csv_part (bytes_of xs)).fault ≡ None = ap (λ (t : List ℕ). (csv_part t).fault) is ∙ ap (λ (g : Given). g.fault) (small_part text short) in
      let g : GivesAtEnd (part_of v pipe.Csv) (all_of v pipe.Csv) xs Done ys e = subst (λ o. GivesBy o (part_of v pipe.Csv) (all_of v pipe.Csv) xs Done ys e) quiet h in
      (g.0 ∙ ap (λ (x : Given). x.list) all, g.1 ∙ ap (λ (x : Given). end_by_fault x.fault Done) all)

  -- less was read, and the reading was left
  csv_cut : (xs ys : List Element) (e : End) → length (bytes_of xs) ≤ 16777216 → GivesBy (csv_part (bytes_of xs)).fault (part_of v pipe.Csv) (all_of v pipe.Csv) xs Cut ys e → (ys ≡ []) × (e ≡ Cut)
  csv_cut xs ys e small h =
      let part : csv_part (bytes_of xs) ≡ without_fault [] = small_part (bytes_of xs) small in
      let g : GivesAtEnd (part_of v pipe.Csv) (all_of v pipe.Csv) xs Cut ys e = subst (λ o. GivesBy o (part_of v pipe.Csv) (all_of v pipe.Csv) xs Cut ys e) (ap (λ (x : Given). x.fault) part) h in
      (g.0 ∙ ap (λ (x : Given). x.list) part, g.1)

  -- all rows go through the lookup
  lookup_done : (xs ys : List Element) (e : End) → xs ≡ rows_of c k → GivesBy (each_made (looked_up (v 0) 0) xs).fault (part_of v (pipe.Lookup 0 0)) (all_of v (pipe.Lookup 0 0)) xs Done ys e → (e ≡ Done) × (ys ≡ looked_up_rows c k)
  lookup_done xs ys e is h =
      let all : each_made (looked_up (v 0) 0) xs ≡ without_fault (looked_up_rows c k) = ap (λ (l : List Element). each_made (looked_up (v 0) 0) l) is ∙ lookup_is in
      let g : GivesAtEnd (part_of v (pipe.Lookup 0 0)) (all_of v (pipe.Lookup 0 0)) xs Done ys e = subst (λ o. GivesBy o (part_of v (pipe.Lookup 0 0)) (all_of v (pipe.Lookup 0 0)) xs Done ys e) (ap (λ (x : Given). x.fault) all) h in
      (g.1 ∙ ap (λ (x : Given). end_by_fault x.fault Done) all, g.0 ∙ ap (λ (x : Given). x.list) all)

  -- the device is read whole
  reads_all : (xs : List Element) (e : End) → ReadsWholeBy d.content d xs e → (bytes_of xs ≡ text) × (e ≡ Done)
  reads_all xs e h =
      ⊎_elim
      (λ y. (ap bytes_of y.1 ∙ bytes_of-map text, y.2))
      (λ n. absurd (let s = short in let m : 2 ^ 40 ≤ length text = n.0 in omega (arith, s, m)))
      (subst (λ o. ReadsWholeBy o d xs e) over.content h)

  ideal : (x y z : Boxed) (ys : List Element) (e : End) → IsIdealRun v w (case_node (1 + k) x y z) ys e → (e ≡ Done) × (ys ≡ looked_up_rows c k)
  ideal x y z ys e (rows, g, (bytes, f, read, csv), lookup) =
      let r = reads_all bytes f read in
      let m = csv_done bytes rows g r.0 (subst (λ q. GivesBy (csv_part (bytes_of bytes)).fault (part_of v pipe.Csv) (all_of v pipe.Csv) bytes q rows g) r.1 csv) in
      lookup_done rows ys e m.0 (subst (λ q. GivesBy (each_made (looked_up (v 0) 0) rows).fault (part_of v (pipe.Lookup 0 0)) (all_of v (pipe.Lookup 0 0)) rows q ys e) m.1 lookup)

  -- what was read of the device, of which no read failed: all, or a part that isn't too large
  abbrev IsReadSoFar : List Element → End → Type 0
  IsReadSoFar xs g = ((bytes_of xs ≡ text) × (g ≡ Done)) ⊎ ((length (bytes_of xs) ≤ 16777216) × (g ≡ Cut))

  bytes_are : (xs : List Element) → FirstBytes d.content d.at xs → bytes_of xs ≡ take d.at text
  bytes_are xs h = let e : xs ≡ map Byte (take d.at text) = subst (λ o. FirstBytes o d.at xs) over.content h in ap bytes_of e ∙ bytes_of-map (take d.at text)

  few_bytes : (xs : List Element) → FirstBytes d.content d.at xs → length (bytes_of xs) ≤ length text
  few_bytes xs h = let e = ap length (bytes_are xs h) in let l = length-take d.at text in omega (arith, e, l)

  module _ (unread : d.read_faults ≡ 0) where
    not_endless : (2 ^ 40 ≤ length text) → ⊥
    not_endless h = let s = short in omega (arith, s, h)

    no_fault : (f : Code) → StopsReading d (Fault f) → ⊥
    no_fault code.Endless h = not_endless (subst (λ o. IfSome o (λ bytes. 2 ^ 40 ≤ length bytes)) over.content h.2)
    no_fault code.Read h = omega (arith, h, unread)
    no_fault code.Open h = h
    no_fault code.Write h = h
    no_fault code.Malformed h = h
    no_fault code.Truncated h = h
    no_fault code.LongLine h = h
    no_fault code.Uneven h = h
    no_fault code.NotUtf8 h = h
    no_fault code.NoField h = h
    no_fault code.TooLarge h = h
    no_fault code.BadPath h = h
    no_fault code.TooMany h = h
    no_fault (code.Raised r) h = h

    reads : (xs : List Element) (g : End) → Reads d xs g → IsReadSoFar xs g
    reads xs Done (first, stops) =
        let whole : d.at ≡ length text = subst (λ o. IfSome o (λ bytes. d.at ≡ length bytes)) over.content stops.3 in
        inl (bytes_are xs first ∙ take_all d.at text (omega (arith, whole)), refl)
    reads xs (Fault f) (first, stops) = absurd (no_fault f stops)
    reads xs Cut (first, stops) = let s = short in let l = few_bytes xs first in inr (omega (arith, s, l), refl)

    left : (xs : List Element) (g : End) → OrLeft (IsIdle w (reader (1 + k))) (Reads d) xs g → IsReadSoFar xs g
    left xs g (inl r) = reads xs g r
    left xs g (inr (cut, inl (none, idle))) = let z = ap (λ (l : List Element). length (bytes_of l)) none in inr (omega (arith, z), cut)
    left xs g (inr (cut, inr (more, h, (first, stops)))) =
        let s = short in
        let l = few_bytes (xs ++ more) first in
        let a = ap length (bytes_of-append xs more) in
        let b = length-append (bytes_of xs) (bytes_of more) in
        inr (omega (arith, s, l, a, b), cut)

    -- csv gives all rows, or none
    module _ (x : Boxed) where
      csv_gives : (ys : List Element) (g : End) → Gives any_leeway v w (csv_node (1 + k) x) ys g → ((ys ≡ rows_of c k) × (g ≡ Done)) ⊎ ((ys ≡ []) × (g ≡ Cut))
      csv_gives ys g (xs, h, read, by) =
          ⊎_elim
          (λ t. inl (csv_done xs ys g t.0 (subst (λ q. GivesBy (csv_part (bytes_of xs)).fault (part_of v pipe.Csv) (all_of v pipe.Csv) xs q ys g) t.1 by)))
          (λ t. inr (csv_cut xs ys g t.0 (subst (λ q. GivesBy (csv_part (bytes_of xs)).fault (part_of v pipe.Csv) (all_of v pipe.Csv) xs q ys g) t.1 by)))
          (left xs h read)

      -- so a front of the rows, and no fault
      abbrev IsFrontOfRows : List Element → End → Type 0
      IsFrontOfRows ys g = ((more : List Element) × (ys ++ more ≡ rows_of c k)) × (IsFault g → ⊥)

      no_rows : (ys : List Element) (g : End) → ys ≡ [] → g ≡ Cut → IsFrontOfRows ys g
      no_rows ys g none cut = ((rows_of c k, ap (λ (l : List Element). l ++ rows_of c k) none), λ f. subst IsFault cut f)

      rows_front : (ys : List Element) (g : End) → OrLeft (IsIdle w (csv_node (1 + k) x)) (Gives any_leeway v w (csv_node (1 + k) x)) ys g → IsFrontOfRows ys g
      rows_front ys g (inl r) = ⊎_elim (λ t. (([], append-nil ys ∙ t.0), λ f. subst IsFault t.1 f)) (λ t. no_rows ys g t.0 t.1) (csv_gives ys g r)
      rows_front ys g (inr (cut, inl (none, idle))) = no_rows ys g none cut
      rows_front ys g (inr (cut, inr (more, h, r))) = ⊎_elim (λ t. ((more, t.0), λ f. subst IsFault cut f)) (λ t. no_rows ys g (none_before ys more t.0) cut) (csv_gives (ys ++ more) h r)

    lookup_ends : (xs ys : List Element) (g e : End) → (each_made (looked_up (v 0) 0) xs).fault ≡ None → (IsFault g → ⊥)
        → GivesAtEnd (part_of v (pipe.Lookup 0 0)) (all_of v (pipe.Lookup 0 0)) xs g ys e → IsFault e → ⊥
    lookup_ends xs ys Done e quiet sound h f = subst IsFault (h.1 ∙ ap (λ o. end_by_fault o Done) quiet) f
    lookup_ends xs ys (Fault q) e quiet sound h f = sound tt
    lookup_ends xs ys Cut e quiet sound h f = subst IsFault h.1 f

    module _ (unopened : d.open_faults ≡ 0) (x y z : Boxed) where
      looks_up : (ys : List Element) (e : End) → Gives any_leeway v w (lookup_node (1 + k) x y) ys e → IsFault e → ⊥
      looks_up ys e (xs, g, front, by) f =
          let r = rows_front x xs g front in
          let quiet : (each_made (looked_up (v 0) 0) xs).fault ≡ None =
          front_quiet (looked_up (v 0) 0) xs r.0.0 (ap (λ (l : List Element). (each_made (looked_up (v 0) 0) l).fault) r.0.1 ∙ ap (λ (q : Given). q.fault) lookup_is) in
          lookup_ends xs ys g e quiet r.1 (subst (λ o. GivesBy o (part_of v (pipe.Lookup 0 0)) (all_of v (pipe.Lookup 0 0)) xs g ys e) quiet by) f

      opened : (ys : List Element) (e : End) → OrLeft (IsIdle w (lookup_node (1 + k) x y)) (Gives any_leeway v w (lookup_node (1 + k) x y)) ys e → IsFault e → ⊥
      opened ys e (inl r) f = looks_up ys e r f
      opened ys e (inr (cut, rest)) f = subst IsFault cut f

      unfailed : (ys : List Element) (e : End) → IsRun v w (case_node (1 + k) x y z) ys e → IsFault e → ⊥
      unfailed ys e (inr (cut, rest)) f = subst IsFault cut f
      unfailed ys e (inl (inl (opens, quiet, run))) f = opened ys e run f
      unfailed ys e (inl (inr (opens, failed, none, fault, idle))) f = omega (arith, unopened, failed)

pub nodes_run_ideal : NodesRunIdeal
nodes_run_ideal c k v w n ys e few node over run =
    let is = node_is c k n node in
    ideal c k v w few over is.0 is.1 is.2 ys e (subst (λ (m : Node). IsIdealRun v w m ys e) is.3 run)

pub nodes_never_fail : NodesNeverFail
nodes_never_fail c k v w n ys e few node over unopened unread run =
    let is = node_is c k n node in
    unfailed c k v w few over unread unopened is.0 is.1 is.2 ys e (subst (λ (m : Node). IsRun v w m ys e) is.3 run)
