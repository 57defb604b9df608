-- Lists of devices that go back one after the other.
use Rattle.std.proofs.Common.{◌≡◌, List, [], ◌∷◌, ◌++◌, sym, subst, ◌∙◌, append_assoc, append-nil}
use Rattle.std.proofs.lemmas.Grind.{flat_map-append}
use Rattle.std.specs.List.Sorted.{IsPermutation}
use Rattle.std.proofs.lemmas.List.Sorted.{IsPermutation-append_comm, IsPermutation-trans}
use Rattle.device_port.specs.Device.{DeviceTold}
use Rattle.device_port.specs.Depot.{DepotTold}
use Rattle.stream_parts.specs.Retire.{MayReturnAll, Returns, devices_of}
use Rattle.stream_parts.proofs.Exchanged.{exchanges_none, may_parts, may_permuted, may_second, returns_both}
use Rattle.std.proofs.lemmas.List.Sorted.{IsPermutation-refl}
use Rattle.par_join.specs.Left.{left_devices}
use Rattle.dealt_streams.specs.declared.leftover.Leftover.{Leftover}

-- what came back in one order came back in another
pub returns_permuted : (old new : DepotTold) (xs ys : List DeviceTold) → IsPermutation ys xs → Returns old new xs → Returns old new ys
returns_permuted old new xs ys p r = record { back = r.back; each = IsPermutation-trans ys xs r.back p r.each; exchanges = r.exchanges }

-- nothing came back
pub returns_none : (now : DepotTold) → Returns now now []
returns_none now = record { back = []; each = IsPermutation-refl []; exchanges = exchanges_none now }

module _ {V : Type 0} (told : V → DeviceTold) where
  pub left_more : (xs ys : List (Leftover V)) → left_devices told (xs ++ ys) ≡ left_devices told xs ++ left_devices told ys
  left_more xs ys = flat_map-append (λ (x : Leftover V). devices_of told x.shelf x.unopened) xs ys

  pub left_one : (x : Leftover V) → left_devices told (x ∷ []) ≡ devices_of told x.shelf x.unopened
  left_one x = append-nil (devices_of told x.shelf x.unopened)

  -- all but these have come back, and these may
  pub record GoesBack (old now : DepotTold) (all rest : List (Leftover V)) : Type 0 where
    pub done : List (Leftover V)
    pub all_is : all ≡ rest ++ done
    pub back : Returns old now (left_devices told done)
    pub may : MayReturnAll now (left_devices told rest)

  pub goes_start : (old : DepotTold) (all : List (Leftover V)) → MayReturnAll old (left_devices told all) → GoesBack old old all all
  goes_start old all m = record { done = []; all_is = sym (append-nil all); back = returns_none old; may = m }

  -- the last of them may go
  pub goes_last : (now : DepotTold) (rest : List (Leftover V)) (x : Leftover V) → MayReturnAll now (left_devices told (rest ++ x ∷ [])) → MayReturnAll now (devices_of told x.shelf x.unopened)
  goes_last now rest x m =
      subst (λ ds. MayReturnAll now ds) (left_one x) ((may_parts now (left_devices told rest) (left_devices told (x ∷ [])) (subst (λ ds. MayReturnAll now ds) (left_more rest (x ∷ [])) m)).1)

  pub goes_on : (old now new : DepotTold) (all rest : List (Leftover V)) (x : Leftover V) → GoesBack old now all (rest ++ x ∷ []) → Returns now new (devices_of told x.shelf x.unopened) → GoesBack old new all rest
  goes_on old now new all rest x g r =
      let ds = devices_of told x.shelf x.unopened in
      let dones = left_devices told g.done in
      record {
        done = x ∷ g.done;
        all_is = g.all_is ∙ append_assoc rest (x ∷ []) g.done;
        back = returns_permuted old new (dones ++ ds) (ds ++ dones) (IsPermutation-append_comm ds dones) (returns_both old now new dones ds g.back r);
        may = may_second now new ds (left_devices told rest) r
            (may_permuted now (left_devices told rest ++ ds) (ds ++ left_devices told rest) (IsPermutation-append_comm (left_devices told rest) ds)
            (subst (λ es. MayReturnAll now (left_devices told rest ++ es)) (left_one x) (subst (λ es. MayReturnAll now es) (left_more rest (x ∷ [])) g.may)));
      }

  pub gone_back : (old new : DepotTold) (all : List (Leftover V)) → GoesBack old new all [] → Returns old new (left_devices told all)
  gone_back old new all g = subst (λ xs. Returns old new (left_devices told xs)) (sym g.all_is) g.back
