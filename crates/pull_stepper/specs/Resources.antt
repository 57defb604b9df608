-- What contracts see of the resources of a stream.
use Rattle.device_port.specs.Device.{DeviceTold}
use Rattle.pull_turns.specs.Around.{Around, OpenAreHeld}
use Rattle.row_seat.specs.declared.view.View.{View}
use Rattle.row_seat.specs.Views.{OthersFit}
use Rattle.scope_tree.specs.Trees.{Fits, seen as tree_seen}
use Rattle.pull_stepper.specs.declared.resources.Resources.{Resources}
use Rattle.pull_stepper.specs.Held.{FinishesDevice}
use Rattle.pull_stepper.specs.Sites.{InOrder, Since, Site, around}

module _ {S V D : Type 0} (view : S → View V) where
  -- the tree, the first place and the devices that weren't acquired
  abbrev pub site : Resources S V V D → Site V
  site o = record { tree = tree_seen view o.tree; from = o.from; slots = o.slots.items }

  module _ (told : V → DeviceTold) where
    -- what a node is run over
    abbrev pub around_of : Resources S V V D → Around
    around_of o = around told (site o)

    module _ (fits : S → D → Type 0) where
      -- the tree fits the desk, and the resources are in order; each device that is open is held by an open scope
      pub record AreInOrder (o : Resources S V V D) (d : D) : Type 0 where
        pub tree : Fits view fits o.tree d
        pub order : InOrder told (site o)
        pub held : OpenAreHeld (around_of o)

      -- what was done in between, to the resources and at the desk
      pub record Later (a : Resources S V V D) (d : D) (b : Resources S V V D) (e : D) : Type 0 where
        pub since : Since told (FinishesDevice told) (site a) (site b)
        pub others : OthersFit view fits (view a.tree.seat).by d e
