-- The runs of a plan's list are covered by its device.
use Rattle.std.proofs.Common.{◌≡◌, ◌≢◌, ℕ, ◌<◌, ◌≤◌, ◌^◌, List, refl, sym, subst}
use Rattle.chunk_core.specs.Elements.{Element}
use Rattle.chunk_core.specs.Outcomes.{End, Cut, Fault}
use Rattle.chunk_core.specs.Tables.{no_values}
use Rattle.chunk_core.specs.declared.code.Code.{Code}
use Rattle.device_port.specs.Device.{DeviceTold, faults_of}
use Rattle.pull_nodes.specs.Runs.{Gives, IsIdle, any_leeway}
use Rattle.pull_nodes.specs.Shape.{EachPlace, acquired_place, used_place}
use Rattle.pull_nodes.specs.declared.node.Node.{Node}
use Rattle.plan_work.specs.Listed.{IdealListRuns, IsListNode, ListRuns}
use Rattle.joined_runs.proofs.Covered.{IsListCovered}
use Rattle.joined_runs.proofs.NodeCovered.{AreAlike, IsCalm, IsSeenAt, WritesNothing, node_nears, node_shows, node_whole, outside}
use Rattle.joined_runs.proofs.Reading.{IsCountedBy}
use Rattle.joined_runs.proofs.StepRuns.{left_shows}

module _ (d : DeviceTold) where
  -- each place has this device
  abbrev alone : ℕ → DeviceTold
  alone r = d

  same_device : (p : ℕ) → AreAlike (alone p) (alone p)
  same_device p = record { content = refl; at = refl; written = refl }

  acquired : (Q : ℕ → Type 0) (n : Node) → Q 0 → IsListNode n → EachPlace acquired_place Q n
  acquired Q n q (a, b, c, is) = subst (λ x. EachPlace acquired_place Q x) (sym is) (q, tt)

  used : (Q : ℕ → Type 0) (n : Node) → Q 0 → IsListNode n → EachPlace used_place Q n
  used Q n q (a, b, c, is) = subst (λ x. EachPlace used_place Q x) (sym is) (q, tt)

  nothing : (n : Node) → IsListNode n → WritesNothing n
  nothing n (a, b, c, is) = subst WritesNothing (sym is) tt

  -- the device counted so
  abbrev Counts : (DeviceTold → ℕ) → Type 0
  Counts n = 0 < n d

  shown : (ys : List Element) (c : Code) → ListRuns d ys (Fault c) → IsCountedBy Counts c
  shown ys c (n, of, run) =
      left_shows Counts (Gives any_leeway no_values alone n) (node_shows Counts no_values alone n (acquired (IsSeenAt Counts no_values alone) n (λ m some. some) of) (used (IsSeenAt Counts no_values alone) n (λ m some. some) of)) (IsIdle alone n) ys c run

  module _ (within : d.at ≤ 2 ^ 40) where
    calm_at : faults_of d ≡ 0 → IsCalm d
    calm_at calm = record { faults = calm; within = within }

    whole : (ys : List Element) (e : End) → ListRuns d ys e → e ≢ Cut → faults_of d ≡ 0 → IdealListRuns d ys e
    whole ys e (n, of, run) left calm =
        (n, of, node_whole no_values alone alone same_device n (outside n (nothing n of)) (acquired (λ p. IsCalm (alone p)) n (calm_at calm) of) (used (λ p. IsCalm (alone p)) n (calm_at calm) of) ys e run left)

    pub list_covered : IsListCovered ListRuns IdealListRuns d
    list_covered = record {
      shown = shown;
      whole = whole;
      front = λ ys e r calm.
          let near = (node_nears no_values alone alone same_device r.0 (nothing r.0 r.1) (acquired (λ p. IsCalm (alone p)) r.0 (calm_at calm) r.1) (used (λ p. IsCalm (alone p)) r.0 (calm_at calm) r.1)).front ys e r.2 in
          (near.0, near.1, (r.0, r.1, near.2), near.3);
    }
