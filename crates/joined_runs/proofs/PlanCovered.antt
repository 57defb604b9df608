-- The runs of a plan's stream are covered by the devices of its rows.
use Rattle.std.proofs.Common.{◌≡◌, ◌≢◌, ℕ, ◌+◌, ◌<◌, ◌≤◌, ◌^◌, List, [], ◌∷◌, ◌++◌, inl, inr, length, Option, Some, None, refl, sym, ap, subst, arith}
use Rattle.std.proofs.lemmas.Bool.{false≢true}
use Rattle.std.specs.Prelude.{IsSome, option_map, option_to_list}
use Rattle.chunk_core.specs.Elements.{Element, rendering_of}
use Rattle.chunk_core.specs.Outcomes.{End, Done, Fault, Cut}
use Rattle.chunk_core.specs.Tables.{Values}
use Rattle.chunk_core.specs.declared.code.Code.{Code}
use Rattle.device_port.specs.Device.{DeviceTold, faults_of, to_read, to_write}
use Rattle.pull_nodes.specs.Kinds.{node_kind}
use Rattle.pull_nodes.specs.Runs.{Gives, IsIdealRun, IsIdle, IsRun, IsUnwritten, any_leeway}
use Rattle.pull_nodes.specs.Shape.{EachPlace, EachWrite, acquired_place, used_place}
use Rattle.pull_nodes.proofs.Failures.{IsWell, no_failure, node_tells}
use Rattle.pull_nodes.specs.declared.kind.Kind.{Kind}
use Rattle.pull_nodes.specs.declared.node.Node.{Node}
use Rattle.pull_nodes.specs.declared.node.Node.TheVariants.{Append', Emit, Into', Merge', OnFault', Read, Scope', Take', Through', Weak', Zip'}
use Rattle.pipeline_desc.specs.Meant.{PlanMeant}
use Rattle.pipeline_desc.specs.Nodes.{Boxed, IsBehind, IsBeside, IsBody, IsCore, IsJoined, IsNodeOf, IsOrText, IsStreamNode, IsWritten, load_of, path_row}
use Rattle.pipeline_desc.specs.Places.{first_row, row_count, second_path}
use Rattle.pipeline_desc.specs.declared.join.Join.{Join}
use Rattle.pipeline_desc.specs.declared.join.Join.TheVariants as join
use Rattle.pipeline_desc.specs.declared.step.Step.{Step}
use Rattle.pipeline_desc.specs.declared.step.Step.TheVariants as step
use Rattle.pipeline_desc.specs.declared.stream.Second.{Second}
use Rattle.pipeline_desc.specs.declared.stream.StreamSpec.{StreamSpec}
use Rattle.run_rules.specs.Homes.{IsUntouched}
use Rattle.run_rules.specs.Wholeness.{AreUnfailed}
use Rattle.plan_work.specs.Plans.{IdealPlanRuns, PlanRuns}
use Rattle.plan_work.specs.Seen.{below, visible}
use Rattle.joined_runs.proofs.Covered.{IsCovered}
use Rattle.joined_runs.proofs.NodeCovered.{AreAlike, IsCalm, IsSeenAt, WritesNothing, WritesOutside, each_nothing, node_shows, node_whole, outside}
use Rattle.joined_runs.proofs.Reading.{IsCountedBy, cleared}
use Rattle.joined_runs.proofs.StepRuns.{left_shows}

-- A node of each stream.

-- a place where a part may lie
module _ (b : Boxed) where
  some_behind : (steps : List Step) (a : Node) → (n : Node) × IsBehind steps a n
  some_behind [] a = (a, refl)
  some_behind (step.Take k ∷ steps) a = let n = some_behind steps (Take' k b a) in (n.0, (Take' k b a, (b, refl), n.1))
  some_behind (step.Pipe p ∷ steps) a = let n = some_behind steps (Through' b a p) in (n.0, (Through' b a p, (b, refl), n.1))

  some_joined : (j : Join) (a c : Node) → (n : Node) × IsJoined j a c n
  some_joined join.Append a c = (Append' b a b c, (b, b, refl))
  some_joined join.Zip a c = (Zip' b a b c, (b, b, refl))
  some_joined join.Merge a c = (Merge' b a b c, (b, b, refl))

  some_core : (place : ℕ) (steps : List Step) (o : Option Second) → (n : Node) × IsCore place steps o n
  some_core place steps None = some_behind steps (Read place)
  some_core place steps (Some second) =
      let a = some_behind steps (Read place) in
      let c = some_behind steps (Read (place + 1)) in
      let m = some_joined second.join a.0 c.0 in
      let n = some_behind second.after m.0 in
      (n.0, (a.0, c.0, m.0, a.1, c.1, m.1, n.1))

  some_beside : (place : ℕ) (o : Option Second) (a : Node) → (n : Node) × IsBeside place o a n
  some_beside place None a = (a, refl)
  some_beside place (Some second) a = (Weak' (place + 1) b a, (b, refl))

  some_body : (place : ℕ) (s : StreamSpec) → (n : Node) × IsBody place s n
  some_body place s = let a = some_core place s.steps s.second in let m = some_beside place s.second a.0 in (Weak' place b m.0, (a.0, m.0, b, a.1, m.1, refl))

  some_or_text : (k : Kind) (o : Option (List ℕ)) (a : Node) → (n : Node) × IsOrText k o a n
  some_or_text k None a = (a, refl)
  some_or_text k (Some text) a = (OnFault' b (Scope' b a) b (Emit (load_of k text)), (b, b, b, refl))

  some_written : (place : ℕ) (o : Option (List ℕ)) (a : Node) → (n : Node) × IsWritten place o a n
  some_written place None a = (a, refl)
  some_written place (Some to) a = (Weak' place b (Into' place b a), (b, b, refl))

  kind_is : (o : Option Kind) → IsSome o → (k : Kind) × (o ≡ Some k)
  kind_is (Some k) e = (k, refl)
  kind_is None e = absurd (false≢true e)

  pub some_node : (first : ℕ) (s : StreamSpec) → ((a : Node) → IsBody (path_row first s) s a → IsSome (node_kind a)) → (n : Node) × IsStreamNode first s n
  some_node first s kinds =
      let a = some_body (path_row first s) s in
      let k = kind_is (node_kind a.0) (kinds a.0 a.1) in
      let m = some_or_text k.0 s.on_fault a.0 in
      let n = some_written first s.to m.0 in
      (n.0, (a.0, m.0, k.0, a.1, k.1, m.1, n.1))

-- What holds of each row of a stream holds of each place of its node, which writes outside of all else.

-- this holds of each place of the node, which writes nothing
record HoldsInside (Q : ℕ → Type 0) (n : Node) : Type 0 where
  acquired : EachPlace acquired_place Q n
  used : EachPlace used_place Q n
  nothing : WritesNothing n

-- this holds of each place of the node, which writes outside of all else
pub record HoldsOutside (Q : ℕ → Type 0) (n : Node) : Type 0 where
  pub acquired : EachPlace acquired_place Q n
  pub used : EachPlace used_place Q n
  pub written : EachWrite Q n
  pub outside : WritesOutside n

module _ (Q : ℕ → Type 0) where
  same_holds : (a n : Node) → HoldsInside Q a → n ≡ a → HoldsInside Q n
  same_holds a n h e = subst (λ x. HoldsInside Q x) (sym e) h

  behind_holds : (steps : List Step) (a n : Node) → HoldsInside Q a → IsBehind steps a n → HoldsInside Q n
  behind_holds [] a n h e = same_holds a n h e
  behind_holds (step.Take k ∷ steps) a n h (m, (b, e), more) = behind_holds steps m n (same_holds (Take' k b a) m (record { acquired = h.acquired; used = h.used; nothing = h.nothing }) e) more
  behind_holds (step.Pipe p ∷ steps) a n h (m, (b, e), more) = behind_holds steps m n (same_holds (Through' b a p) m (record { acquired = h.acquired; used = h.used; nothing = h.nothing }) e) more

  joined_holds : (j : Join) (a c n : Node) → HoldsInside Q a → HoldsInside Q c → IsJoined j a c n → HoldsInside Q n
  joined_holds join.Append a c n h k (x, y, e) = same_holds (Append' x a y c) n (record { acquired = (h.acquired, k.acquired); used = (h.used, k.used); nothing = (h.nothing, k.nothing) }) e
  joined_holds join.Zip a c n h k (x, y, e) = same_holds (Zip' x a y c) n (record { acquired = (h.acquired, k.acquired); used = (h.used, k.used); nothing = (h.nothing, k.nothing) }) e
  joined_holds join.Merge a c n h k (x, y, e) = same_holds (Merge' x a y c) n (record { acquired = (h.acquired, k.acquired); used = (h.used, k.used); nothing = (h.nothing, k.nothing) }) e

  read_holds : (p : ℕ) → Q p → HoldsInside Q (Read p)
  read_holds p q = record { acquired = tt; used = (q, tt); nothing = tt }

  weak_holds : (p : ℕ) (b : Boxed) (a : Node) → Q p → HoldsInside Q a → HoldsInside Q (Weak' p b a)
  weak_holds p b a q h = record { acquired = (q, h.acquired); used = h.used; nothing = h.nothing }

  -- the place of the second side, where there is one
  abbrev HasSecond : ℕ → Option Second → Type 0
  HasSecond place None = Unit {0}
  HasSecond place (Some second) = Q (place + 1)

  core_holds : (place : ℕ) (steps : List Step) (o : Option Second) (n : Node) → Q place → HasSecond place o → IsCore place steps o n → HoldsInside Q n
  core_holds place steps None n q r h = behind_holds steps (Read place) n (read_holds place q) h
  core_holds place steps (Some second) n q r (a, c, m, x, y, j, h) =
      behind_holds second.after m n (joined_holds second.join a c m (behind_holds steps (Read place) a (read_holds place q) x) (behind_holds steps (Read (place + 1)) c (read_holds (place + 1) r) y) j) h

  beside_holds : (place : ℕ) (o : Option Second) (a n : Node) → HasSecond place o → HoldsInside Q a → IsBeside place o a n → HoldsInside Q n
  beside_holds place None a n r h e = same_holds a n h e
  beside_holds place (Some second) a n r h (b, e) = same_holds (Weak' (place + 1) b a) n (weak_holds (place + 1) b a r h) e

  body_holds : (place : ℕ) (s : StreamSpec) (n : Node) → Q place → HasSecond place s.second → IsBody place s n → HoldsInside Q n
  body_holds place s n q r (a, m, b, core, beside, e) = same_holds (Weak' place b m) n (weak_holds place b m q (beside_holds place s.second a m r (core_holds place s.steps s.second a q r core) beside)) e

  or_text_holds : (k : Kind) (o : Option (List ℕ)) (a n : Node) → HoldsInside Q a → IsOrText k o a n → HoldsInside Q n
  or_text_holds k None a n h e = same_holds a n h e
  or_text_holds k (Some text) a n h (b, c, d, e) = same_holds (OnFault' b (Scope' c a) d (Emit (load_of k text))) n (record { acquired = (h.acquired, tt); used = (h.used, tt); nothing = (h.nothing, tt) }) e

  -- the place that is written, where there is one
  abbrev HasOutput : ℕ → Option (List ℕ) → Type 0
  HasOutput place None = Unit {0}
  HasOutput place (Some to) = Q place

  written_holds : (place : ℕ) (o : Option (List ℕ)) (a n : Node) → HasOutput place o → HoldsInside Q a → IsWritten place o a n → HoldsOutside Q n
  written_holds place None a n q h e = subst (λ x. HoldsOutside Q x) (sym e) (record { acquired = h.acquired; used = h.used; written = each_nothing Q a h.nothing; outside = outside a h.nothing })
  written_holds place (Some to) a n q h (b, c, e) =
      subst (λ x. HoldsOutside Q x) (sym e) (record { acquired = (q, h.acquired); used = (q, h.used); written = (q, each_nothing Q a h.nothing); outside = h.nothing })

  -- the rows of a stream are those of its output, its file and its second side
  rows_are : (s : StreamSpec) → row_count s ≡ length (option_to_list s.to) + 1 + length (option_to_list s.second)
  rows_are s = counted s.to s.second
    where
      counted : (o : Option (List ℕ)) (x : Option Second) → length (option_to_list (option_map to_write o) ++ to_read s.path ∷ option_to_list (option_map to_read (second_path x))) ≡ length (option_to_list o) + 1 + length (option_to_list x)
      counted None None = refl
      counted None (Some second) = refl
      counted (Some to) None = refl
      counted (Some to) (Some second) = refl

  pub stream_holds : (first : ℕ) (s : StreamSpec) (n : Node) → ((r : ℕ) → first ≤ r → r < first + row_count s → Q r) → IsStreamNode first s n → HoldsOutside Q n
  stream_holds first s n rows (a, m, k, body, kind, text, written) =
      written_holds first s.to m n (output s.to refl) (or_text_holds k s.on_fault a m (body_holds (path_row first s) s a (rows (path_row first s) (omega arith) (omega (arith, rows_are s))) (second s.second refl) body) text) written
    where
      output : (o : Option (List ℕ)) → s.to ≡ o → HasOutput first o
      output None e = tt
      output (Some to) e = rows first (omega arith) (omega (arith, rows_are s))

      second : (o : Option Second) → s.second ≡ o → HasSecond (path_row first s) o
      second None e = tt
      second (Some x) e = let one = ap (λ (o : Option Second). length (option_to_list o)) e in rows (path_row first s + 1) (omega arith) (omega (arith, rows_are s, one))

-- The stream of a plan.

-- no act failed on a device that nothing was done on
untouched_well : (d : DeviceTold) → IsUntouched d → IsWell d
untouched_well d h = record { opening = omega (arith, h.faults); reading = omega (arith, h.faults); writing = omega (arith, h.faults) }

-- all devices without their faults
abbrev clean : (ℕ → DeviceTold) → ℕ → DeviceTold
clean w r = cleared (w r)

cleared_alike : (d : DeviceTold) → AreAlike d (cleared d)
cleared_alike d = record { content = refl; at = refl; written = refl }

alike_itself : (d : DeviceTold) → AreAlike d d
alike_itself d = record { content = refl; at = refl; written = refl }

-- stream k of the plan has a node as s has, which doesn't depend on the file that a stream of the list reads
pub record HasShape (p : PlanMeant) (k : ℕ) (s : StreamSpec) : Type 0 where
  pub node : (n : Node) → IsNodeOf p k n → IsStreamNode (first_row p k) s n
  pub made : (n : Node) → IsStreamNode (first_row p k) s n → IsNodeOf p k n

module _ (b : Boxed) (p : PlanMeant) (k : ℕ) (s : StreamSpec) (shape : HasShape p k s) (kinds : (a : Node) → IsBody (path_row (first_row p k) s) s a → IsSome (node_kind a)) (values : Values) (w : ℕ → DeviceTold) where
  abbrev from : ℕ
  from = first_row p k

  abbrev to : ℕ
  to = from + row_count s

  -- the values that it sees
  abbrev seen : Values
  seen = below (visible p k) values

  -- the rows of the stream are the places of its node
  node_holds : (Q : ℕ → Type 0) (n : Node) → ((r : ℕ) → from ≤ r → r < to → Q r) → IsNodeOf p k n → HoldsOutside Q n
  node_holds Q n rows of = stream_holds Q from s n rows (shape.node n of)

  idle : ((r : ℕ) → from ≤ r → r < to → IsUntouched (w r)) → PlanRuns p k values w [] Cut
  idle rest =
      let n = some_node b from s kinds in
      let of : IsNodeOf p k n.0 = shape.made n.0 n.1 in
      let unwritten = (node_holds (λ r. IsUnwritten (w r)) n.0 (λ r l m. (rest r l m).written) of).written in
      let well = node_holds (λ r. IsWell (w r)) n.0 (λ r l m. untouched_well (w r) (rest r l m)) of in
      (n.0, of, (inr (refl, inl (refl, unwritten)), node_tells w n.0 Cut (no_failure w n.0 well.acquired well.used)))

  -- the count of a device of its rows rose
  abbrev Rose : (DeviceTold → ℕ) → Type 0
  Rose n = (r : ℕ) × (from ≤ r) × (r < to) × (0 < n (w r))

  shows : (n : Node) → IsNodeOf p k n → (ys : List Element) (c : Code) → IsRun seen w n ys (Fault c) → IsCountedBy Rose c
  shows n of =
      let h = node_holds (λ r. IsSeenAt Rose seen w r) n (λ r l m count some. (r, l, m, some)) of in
      left_shows Rose (Gives any_leeway seen w n) (node_shows Rose seen w n h.acquired h.used) (IsIdle w n)

  shown : (ys : List Element) (c : Code) → PlanRuns p k values w ys (Fault c) → IsCountedBy Rose c
  shown ys c (n, of, run) = shows n of ys c run.0

  whole : ((r : ℕ) → from ≤ r → r < to → (w r).at ≤ 2 ^ 40) → (ys : List Element) (e : End) → PlanRuns p k values w ys e → e ≢ Cut → ((r : ℕ) → from ≤ r → r < to → faults_of (w r) ≡ 0)
      → ((u : ℕ → DeviceTold) (zs : List Element) (g : End) → AreUnfailed u w → IdealPlanRuns p k values u zs g → g ≡ Done)
      → (e ≡ Done) × ((zs : List Element) × IdealPlanRuns p k values w zs Done × (rendering_of ys ≡ rendering_of zs))
  whole within ys e (n, of, (r, told)) c calm ideal =
      let h = node_holds (λ q. IsCalm (w q)) n (λ q l m. record { faults = calm q l m; within = within q l m }) of in
      let done : e ≡ Done = ideal (clean w) ys e (λ q. (refl, refl)) (n, of, node_whole seen w (clean w) (λ q. cleared_alike (w q)) n h.outside h.acquired h.used ys e r c) in
      (done, (ys, (n, of, subst (λ g. IsIdealRun seen w n ys g) done (node_whole seen w w (λ q. alike_itself (w q)) n h.outside h.acquired h.used ys e r c)), refl))

  pub plan_covered : ((r : ℕ) → from ≤ r → r < to → (w r).at ≤ 2 ^ 40) → IsCovered (PlanRuns p) (IdealPlanRuns p) values k from to w
  plan_covered within = record { idle = idle; shown = shown; whole = whole within }
