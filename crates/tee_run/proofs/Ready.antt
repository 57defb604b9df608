-- The device of the reader: made, run over, and given back.
use Rattle.std.proofs.Common.{◌≡◌, ℕ, List, [], ◌∷◌, None, refl, sym, subst, inl}
use Rattle.chunk_core.specs.Tables.{no_values}
use Rattle.device_port.specs.declared.device.Mode.TheVariants as mode
use Rattle.device_port.specs.Device.{DeviceTold}
use Rattle.device_port.specs.Depot.{DepotTold, Makes}
use Rattle.device_port.specs.Sink.{SinkTold}
use Rattle.pipeline_desc.specs.declared.step.Step.{Step}
use Rattle.pull_nodes.specs.Failures.{IsToldRun}
use Rattle.pull_nodes.specs.Shape.{scope_count}
use Rattle.pull_nodes.specs.declared.node.Node.{Node}
use Rattle.res_ledger.specs.declared.event.StreamNo.TheVariants.{Outer}
use Rattle.run_rules.specs.Devices.{KeepsToWhatIsThere}
use Rattle.stream_parts.specs.Retire.{MayReturnAll, Returns, devices_of}
use Rattle.cat_run.specs.Cat.{cat_work}
use Rattle.cat_run.proofs.Unmade.{performs_nothing, unmade_outcome, wrote_none}
use Rattle.lone_stream.specs.declared.run.Ran.{Ran}
use Rattle.lone_stream.specs.Account.{IsAccountOf}
use Rattle.lone_stream.specs.Rooms.{IsFileNode}
use Rattle.lone_stream.proofs.OneFile.{comes_back, may_return}
use Rattle.tee_run.specs.Tee.{RunsTee}
use Rattle.tee_run.specs.Telling.{TeesAll}
use Rattle.tee_run.specs.declared.told.Teeing.{Teeing}
use Rattle.tee_run.proofs.Teed.{teed_file}

module _ {V : Type 0} (told : V → DeviceTold) (path : List ℕ) (branches : List (List Step)) (old mid : DepotTold) (so sn : SinkTold) (n : Node) (d : V) (is : IsFileNode n) (makes : Makes old mid path mode.Read (told d)) (r : Teeing V) (all : TeesAll told branches n (d ∷ []) so sn r) where
  -- what is left of the reader
  abbrev left : Ran V
  left = record { how = all.how; ledger = r.outcome.ledger; shelf = r.shelf; unopened = r.unopened }

  -- its device may go back
  pub may_go : MayReturnAll mid (devices_of told r.shelf r.unopened)
  may_go = may_return told path old mid d makes Outer n all.home left all.comes

  -- the file was read for the branches
  pub tee_ran : ((v : V) → KeepsToWhatIsThere (told v)) → (new : DepotTold) → Returns mid new (devices_of told r.shelf r.unopened) → RunsTee path branches old new so sn r.outcome
  tee_ran each_there new back =
      teed_file path branches old new so sn r.outcome all.home all.how all.given all.end
      (subst (λ m. IsToldRun no_values all.home m all.given all.end) is.1 all.run) all.reported
      (comes_back told path old mid d makes Outer n all.home left all.comes each_there new back)
      (subst (λ m. IsAccountOf Outer 1 (scope_count m) all.home all.how r.outcome.ledger) is.1 all.comes.account) all.prints

-- nothing was begun
pub tee_makes_nothing : (path : List ℕ) (branches : List (List Step)) (old new : DepotTold) (so sn : SinkTold) → new ≡ old → sn ≡ so → RunsTee path branches old new so sn unmade_outcome
tee_makes_nothing path branches old new so sn e quiet =
    subst (λ x. RunsTee path branches old x so sn unmade_outcome) (sym e) (
    let none = performs_nothing (cat_work path) old in
    record {
      frames = [];
      cut = None;
      rest = [];
      broke = refl;
      tees = record {
        devices = none.devices;
        ledger = record { stamped = none.ledger.stamped; legal = none.ledger.legal; complete = none.ledger.complete; ordered = none.ledger.ordered; own = tt; scopes = refl };
        ran = inl (record { memory = refl; depot = refl; ends = refl; events = refl; frames = refl; cut = refl; rest = refl });
      };
      wrote = wrote_none so sn quiet;
    })
