-- The device of cat: made, run over, and given back.
use Rattle.std.proofs.Common.{◌≡◌, ℕ, List, [], ◌∷◌, refl, subst}
use Rattle.device_port.specs.declared.device.Mode.TheVariants as mode
use Rattle.device_port.specs.Device.{DeviceTold, to_read}
use Rattle.device_port.specs.Depot.{DepotTold, Makes}
use Rattle.device_port.specs.Sink.{SinkTold}
use Rattle.pull_nodes.specs.declared.node.Node.{Node}
use Rattle.pull_nodes.specs.declared.node.Node.TheVariants.{Read, Weak'}
use Rattle.res_ledger.specs.declared.event.StreamNo.TheVariants.{Inner}
use Rattle.run_rules.specs.Devices.{KeepsToWhatIsThere}
use Rattle.stream_parts.specs.Retire.{Returns, MayReturnAll, devices_of}
use Rattle.lone_stream.specs.declared.run.Ran.{Ran}
use Rattle.lone_stream.specs.Rooms.{IsFileNode}
use Rattle.lone_stream.proofs.OneFile.{comes_back, may_return}
use Rattle.cat_run.specs.declared.alone.Printed.{Printed}
use Rattle.cat_run.specs.Alone.{RunsAlone}
use Rattle.cat_run.specs.Cat.{FileRuns, RunsCat}
use Rattle.cat_run.specs.Streams.{RunsStream}
use Rattle.cat_run.proofs.CatRuns.{cat_runs_alone}

module _ {V : Type 0} (told : V → DeviceTold) (path : List ℕ) (chunk : ℕ) (old mid : DepotTold) (so sn : SinkTold) (n : Node) (d : V) (is : IsFileNode n) (makes : Makes old mid path mode.Read (told d)) (r : Printed V) (ran : RunsStream told n (d ∷ []) chunk so sn r) where
  -- what is left of its stream
  abbrev left : Ran V
  left = record { how = ran.how; ledger = r.outcome.ledger; shelf = r.shelf; unopened = r.unopened }

  -- the device may go back
  pub may_go : MayReturnAll mid (devices_of told r.shelf r.unopened)
  may_go = may_return told path old mid d makes (Inner 0) n ran.home left ran.comes

  abbrev ran_so : RunsStream told (Weak' 0 is.0 (Read 0)) (d ∷ []) chunk so sn r
  ran_so = subst (λ m. RunsStream told m (d ∷ []) chunk so sn r) is.1 ran

  abbrev left_so : Ran V
  left_so = record { how = ran_so.how; ledger = r.outcome.ledger; shelf = r.shelf; unopened = r.unopened }

  module _ (each_there : (v : V) → KeepsToWhatIsThere (told v)) (new : DepotTold) (back : Returns mid new (devices_of told r.shelf r.unopened)) where
    -- the stream ran over its file
    runs_alone : RunsAlone (to_read path ∷ []) 0 (λ w. FileRuns (w 0)) chunk old new so sn r.outcome
    runs_alone = record {
      home = ran_so.home;
      how = ran_so.how;
      devices = comes_back told path old mid d makes (Inner 0) (Weak' 0 is.0 (Read 0)) ran_so.home left_so ran_so.comes each_there new back;
      account = ran_so.comes.account;
      printed = ran_so.printed;
      small = ran_so.small tt;
      run = ran_so.run;
      ends = ran_so.ends;
    }

    -- the work of cat was done
    pub cat_ran : RunsCat path chunk old new so sn r.outcome
    cat_ran = cat_runs_alone path chunk old new so sn r.outcome runs_alone
