-- Devices that a depot makes one after the other.
use Rattle.std.specs.Prelude.{◌≡◌, List, [], ◌∷◌, ◌++◌, map}
use Rattle.std.specs.List.{AllByRecursion}
use Rattle.device_port.specs.Device.{Place, DeviceTold}
use Rattle.device_port.specs.Depot.{DepotTold, IsUnknown, fresh}
use Rattle.stream_parts.specs.Retire.{Returns}

-- the depot that has made a device more, for this place
abbrev pub having_made : DepotTold → Place → DepotTold
having_made depot place = record depot { made = depot.made ++ place ∷ [] }

-- a new device for each place
abbrev pub fresh_for : DepotTold → List Place → List DeviceTold
fresh_for depot [] = []
fresh_for depot (p ∷ ps) = fresh depot p ∷ fresh_for (having_made depot p) ps

-- a device was made for each place, in this order
pub record MakesEach (old new : DepotTold) (places : List Place) (ds : List DeviceTold) : Type 0 where
  pub made : new ≡ record old { made = old.made ++ places }
  pub devices : ds ≡ fresh_for old places
  pub unknown : AllByRecursion (λ d. IsUnknown d.number old.retired) ds

-- devices were made for the first of these places, and went back as they were made
pub record MakesInVain (old new : DepotTold) (places : List Place) : Type 0 where
  pub first : List Place
  pub rest : List Place
  pub split : places ≡ first ++ rest
  pub mid : DepotTold
  pub ds : List DeviceTold
  pub makes : MakesEach old mid first ds
  pub back : Returns mid new ds

module _ {V : Type 0} (told : V → DeviceTold) where
  -- devices that were made for these places stand behind those that stood there before
  pub record MakesMore (old new : DepotTold) (places : List Place) (before after : List V) : Type 0 where
    pub more : List V
    pub after_is : after ≡ before ++ more
    pub makes : MakesEach old new places (map told more)

  -- these devices were made for the first of the places
  pub record MakesFirst (old new : DepotTold) (places : List Place) (ds : List V) : Type 0 where
    pub first : List Place
    pub rest : List Place
    pub split : places ≡ first ++ rest
    pub makes : MakesEach old new first (map told ds)
