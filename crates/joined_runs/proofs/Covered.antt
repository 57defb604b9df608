-- What holds of the runs of one stream, and of what tables are refused for.
use Rattle.std.proofs.Common.{◌≡◌, ◌≢◌, ℕ, ◌+◌, ◌<◌, ◌≤◌, List, [], length, Some, IfSome}
use Rattle.chunk_core.specs.Elements.{Element, rendering_of}
use Rattle.chunk_core.specs.Outcomes.{End, Cut, Done, Fault, Outcomes}
use Rattle.chunk_core.specs.Tables.{Values}
use Rattle.chunk_core.specs.declared.code.Code.{Code}
use Rattle.device_port.specs.Device.{DeviceTold, faults_of}
use Rattle.pull_nodes.specs.Plain.{IsFront}
use Rattle.run_rules.specs.Ends.{act_count}
use Rattle.run_rules.specs.Facts.{at}
use Rattle.run_rules.specs.Homes.{IsUntouched}
use Rattle.run_rules.specs.Opening.{IsTableFault}
use Rattle.run_rules.specs.Wholeness.{AreUnfailed}
use Rattle.join_tale.specs.Records.{bare}
use Rattle.run_rules.specs.Work.{Opener, Stream, first_row_of, list_row}

-- Stream k, which has these rows, may be left before it did anything. A fault of it has a device of its rows that shows it; and where nothing failed it is done, and
-- what it gave is an ideal run.
pub record IsCovered (runs ideal : ℕ → Values → (ℕ → DeviceTold) → Outcomes) (values : Values) (k from to : ℕ) (home : ℕ → DeviceTold) : Type 0 where
  pub idle : ((r : ℕ) → from ≤ r → r < to → IsUntouched (home r)) → runs k values home [] Cut
  pub shown : (ys : List Element) (c : Code) → runs k values home ys (Fault c) → IfSome (act_count c) (λ n. (r : ℕ) × (from ≤ r) × (r < to) × (0 < n (home r)))
  pub whole : (ys : List Element) (e : End) → runs k values home ys e → e ≢ Cut → ((r : ℕ) → from ≤ r → r < to → faults_of (home r) ≡ 0)
      → ((u : ℕ → DeviceTold) (zs : List Element) (g : End) → AreUnfailed u home → ideal k values u zs g → g ≡ Done)
      → (e ≡ Done) × ((zs : List Element) × ideal k values home zs Done × (rendering_of ys ≡ rendering_of zs))

-- What the list may give, which has this device. A fault of it shows on the device; and where nothing failed there, what it gave and ended by itself is what it gives where nothing is left,
-- and else a front of that.
pub record IsListCovered (listing ideal : DeviceTold → Outcomes) (d : DeviceTold) : Type 0 where
  pub shown : (ys : List Element) (c : Code) → listing d ys (Fault c) → IfSome (act_count c) (λ n. 0 < n d)
  pub whole : (ys : List Element) (e : End) → listing d ys e → e ≢ Cut → faults_of d ≡ 0 → ideal d ys e
  pub front : (ys : List Element) (e : End) → listing d ys e → faults_of d ≡ 0 → (zs : List Element) × (g : End) × ideal d zs g × IsFront ys zs

-- so is the list, where there is one
abbrev pub CoversList : Opener → (DeviceTold → Outcomes) → (DeviceTold → Outcomes) → (ℕ → DeviceTold) → Type 0
CoversList opener listing ideal home = IfSome opener.list (λ l. IsListCovered listing ideal (home (list_row opener)))

-- what a table holds is refused for what it holds
abbrev pub RefusesTables : Opener → Type 0
RefusesTables opener = (bytes : List ℕ) (c : Code) → opener.fault_of bytes ≡ Some c → IsTableFault c

-- so is each of these streams
abbrev pub AreCovered : Opener → List Stream → (ℕ → Values → (ℕ → DeviceTold) → Outcomes) → (ℕ → Values → (ℕ → DeviceTold) → Outcomes) → Values → (ℕ → DeviceTold) → Type 0
AreCovered opener ss runs ideal values home = (k : ℕ) (s : Stream) → at ss k ≡ Some s → IsCovered runs ideal values k (first_row_of (bare (Some opener) ss) k) (first_row_of (bare (Some opener) ss) k + length s.places) home
