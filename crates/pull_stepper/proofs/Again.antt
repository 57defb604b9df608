-- A tree that is seen as before leaves a stepper as it was.
use Rattle.std.proofs.Common.{◌≡◌, ◌≤◌, sym, ap, ◌∙◌, subst, vec_len, vec_capacity}
use Rattle.chunk_core.specs.Tables.{Values}
use Rattle.device_port.specs.Device.{DeviceTold}
use Rattle.pull_turns.specs.Around.{OpenAreHeld}
use Rattle.row_seat.specs.declared.view.View.{View}
use Rattle.scope_tree.specs.Calls.{Seen}
use Rattle.scope_tree.specs.Trees.{Fits, seen}
use Rattle.scope_tree.specs.declared.tree.Tree.{Tree}
use Rattle.pull_stepper.specs.declared.resources.Resources.{Resources}
use Rattle.pull_stepper.specs.declared.stepper.Stepper.{Stepper}
use Rattle.pull_stepper.specs.Resources.{site}
use Rattle.pull_stepper.specs.Sites.{InOrder, Site, around}
use Rattle.pull_stepper.specs.Steppers.{Works, stepping}
use Rattle.pull_stepper.specs.Stepping.{Stepping}

module _ {S V F D T : Type 0} (view : S → View V) (s : Stepper S V F V D T) (o : Resources S V V D) (t : Tree S V D) (is : o ≡ s.runner.outside) (same : seen view t ≡ seen view o.tree) where
  -- the stepper with this tree
  abbrev pub with_tree : Stepper S V F V D T
  with_tree = record s { runner = record s.runner { outside = record o { tree = t } } }

  site_again : site view (record o { tree = t }) ≡ site view s.runner.outside
  site_again = ap (λ (x : Seen V). let y : Site V = record { tree = x; from = o.from; slots = o.slots.items } in y) same ∙ ap (site view) is

  pub stepping_again : (values : T → Values) → stepping view values with_tree ≡ stepping view values s
  stepping_again values = ap (λ (x : Site V). let y : Stepping V F = record (stepping view values s) { site = x } in y) site_again

  pub works_again : (told : V → DeviceTold) (fits : S → D → Type 0) (d e : D) → Works view told fits s d → Fits view fits t e → Works view told fits with_tree e
  works_again told fits d e w f = record {
    stands = record {
      tree = f;
      order = subst (λ x. InOrder told x) (sym site_again) w.stands.order;
      held = subst (λ x. OpenAreHeld (around told x)) (sym site_again) w.stands.held;
    };
    empty = w.empty;
    enough = subst (λ (r : Resources S V V D). vec_len r.slots ≤ vec_capacity s.room) (sym is) w.enough;
  }
