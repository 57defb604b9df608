-- The device of a stream that reads one file: made, run over, and given back.
use Rattle.std.proofs.Common.{◌≡◌, ℕ, zero, suc, List, [], ◌∷◌, refl, sym, ap, subst, ⊎_elim, arith}
use Rattle.std.proofs.lemmas.List.Sorted.{IsPermutation-trans}
use Rattle.chunk_core.proofs.Members.{among_nil, among_cons}
use Rattle.device_port.specs.declared.device.Mode.TheVariants as mode
use Rattle.device_port.specs.Device.{Place, DeviceTold, to_read}
use Rattle.device_port.specs.Depot.{DepotTold, Makes}
use Rattle.pull_nodes.specs.declared.node.Node.{Node}
use Rattle.pull_nodes.specs.declared.node.Node.TheVariants.{Read, Weak'}
use Rattle.pull_stepper.proofs.Beginning.{fresh_unused}
use Rattle.pull_stepper.specs.Sites.{IsUnused}
use Rattle.pull_stepper.specs.Stepping.{IsSupplied}
use Rattle.res_ledger.specs.declared.event.StreamNo.{StreamNo}
use Rattle.run_rules.specs.Devices.{KeepsToWhatIsThere}
use Rattle.stream_parts.specs.Made.{MakesEach}
use Rattle.stream_parts.specs.Retire.{AreWrittenAlone, MayReturnAll, Returns, devices_of}
use Rattle.stream_parts.proofs.Exchanged.{exchanges_then, may_permuted}
use Rattle.stream_parts.proofs.Making.{made_exchanges, made_may_return, makes_one, same_may_return}
use Rattle.job_runs.proofs.Returned.{made_returned}
use Rattle.lone_stream.specs.declared.run.Ran.{Ran}
use Rattle.lone_stream.specs.Account.{ComesBack}
use Rattle.lone_stream.specs.Ran.{ComesHome}
use Rattle.lone_stream.specs.Rooms.{IsFileNode}
use Rattle.lone_stream.proofs.ComingBack.{all_come_back, back_there}

module _ {V : Type 0} (told : V → DeviceTold) where
  -- one device for the node of a file
  pub file_supplied : (old new : DepotTold) (path : List ℕ) (n : Node) (d : V) → IsFileNode n → Makes old new path mode.Read (told d) → IsSupplied told n (d ∷ [])
  file_supplied old new path n d is makes = subst (λ m. IsSupplied told m (d ∷ [])) (sym is.1) (record {
    kind = refl;
    few = omega arith;
    placed = refl;
    count = refl;
    unused = λ x m. ⊎_elim (λ e. subst (λ y. IsUnused (told y)) (sym e) (fresh_unused old (to_read path) (told d) makes.device)) (λ i. absurd (among_nil i)) (among_cons m);
    reads = ((λ e s. let same : d ≡ e = cc in subst (λ x. (told x).place.mode ≡ mode.Read) same (ap (λ (x : DeviceTold). x.place.mode) makes.device)), tt);
    writes = tt;
  })

-- one row stands alone
pub one_alone : (p : Place) → AreWrittenAlone (p ∷ [])
one_alone p zero zero a b e f writes same = refl
one_alone p zero (suc q) a b e f writes same = absurd cc
one_alone p (suc r) q a b e f writes same = absurd cc

module _ {V : Type 0} (told : V → DeviceTold) (path : List ℕ) (old mid : DepotTold) (d : V) (makes : Makes old mid path mode.Read (told d)) (who : StreamNo) (n : Node) (home : ℕ → DeviceTold) (r : Ran V) (came : ComesHome told who n (d ∷ []) home r) where
  made : MakesEach old mid (to_read path ∷ []) (told d ∷ [])
  made = makes_one old mid (to_read path) (told d) makes

  -- the device may go back
  pub may_return : MayReturnAll mid (devices_of told r.shelf r.unopened)
  may_return = may_permuted mid (home 0 ∷ []) (devices_of told r.shelf r.unopened) came.each
      (same_may_return told home mid 0 (d ∷ []) (made_may_return old mid (to_read path ∷ []) (told d ∷ []) made) came.same (λ q l m. (came.rest q m).shut))

  -- and came back
  pub comes_back : ((v : V) → KeepsToWhatIsThere (told v)) → (new : DepotTold) → Returns mid new (devices_of told r.shelf r.unopened) → ComesBack old new (to_read path ∷ []) home
  comes_back each_there new back = all_come_back (to_read path ∷ []) home (one_alone (to_read path)) old new back.back
      (exchanges_then old mid new (to_read path ∷ []) [] [] back.back (made_exchanges old mid (to_read path ∷ []) (told d ∷ []) made) back.exchanges)
      (IsPermutation-trans (home 0 ∷ []) (devices_of told r.shelf r.unopened) back.back came.each back.each)
      (made_returned told home old 0 (to_read path ∷ []) (d ∷ []) made.devices came.same (λ q l m. came.rest q m))
      (back_there told each_there r.shelf r.unopened back.back back.each)
