-- What a list gives is a run of its node.
use Rattle.std.proofs.Common.{◌≡◌, List, ◌++◌, Option, Some, None, inl, inr, refl, sym, ap, ◌∙◌, subst, ⊎_elim}
use Rattle.std.specs.Ptr.{null_ptr}
use Rattle.chunk_core.specs.Elements.{Element}
use Rattle.chunk_core.specs.Feed.{Given}
use Rattle.chunk_core.specs.Outcomes.{Cut, Done, End, Fault, Outcomes}
use Rattle.chunk_core.specs.Tables.{no_values}
use Rattle.chunk_core.specs.declared.code.Code.{Code}
use Rattle.device_port.specs.Device.{DeviceTold}
use Rattle.pipeline_desc.specs.Nodes.{Boxed}
use Rattle.pull_nodes.specs.Pipes.{all_of, part_of}
use Rattle.pull_nodes.specs.Runs.{GivesBy, OrLeft, Piped, Reads}
use Rattle.pull_nodes.specs.declared.node.Node.{Node}
use Rattle.pull_nodes.specs.declared.node.Node.TheVariants.{Read, Through', Weak'}
use Rattle.pull_nodes.specs.declared.pipe.Pipe.TheVariants as pipe
use Rattle.chain_pipes.specs.Over.{Came, chain_all, chain_part, fault_of, over}
use Rattle.chain_pipes.proofs.Runs.{over_is_a_run}
use Rattle.list_runs.specs.Laws.{RunsAreListRuns}
use Rattle.list_runs.specs.Meant.{list_steps}
use Rattle.list_runs.proofs.Steps.{all_end, cut_end, end_with, failed_over, part_is}

abbrev somewhere : Boxed
somewhere = record { ptr = null_ptr; alloc = record { memory = record { seal = tt } }; value = tt }

-- the node of a list
abbrev list_node : Node
list_node = Weak' 0 somewhere (Through' somewhere (Through' somewhere (Read 0) pipe.Utf8) pipe.Lines)

module _ (d : DeviceTold) where
  -- the device is read, or the reading is left
  abbrev pub Reading : Outcomes
  Reading = OrLeft (Unit {0}) (Reads d)

  -- its bytes are text, and all of that is cut into lines
  abbrev pub TextLines : Outcomes
  TextLines = Piped (part_of no_values pipe.Lines) (all_of no_values pipe.Lines) (Piped (part_of no_values pipe.Utf8) (all_of no_values pipe.Utf8) Reading)

  -- or the text may be left
  abbrev LeftLines : Outcomes
  LeftLines = Piped (part_of no_values pipe.Lines) (all_of no_values pipe.Lines) (OrLeft (Unit {0}) (Piped (part_of no_values pipe.Utf8) (all_of no_values pipe.Utf8) Reading))

  pub none_left : (ys : List Element) (e : End) → TextLines ys e → LeftLines ys e
  none_left ys e h = (h.0, h.1, inl h.2, h.3)

  -- the reading may as well have been left there
  left_there : (xs : List Element) (g : End) → Reading xs g → Reading xs Cut
  left_there xs g h = ⊎_elim (λ r. inl (r.0, tt)) (λ c. inr (refl, c.1)) h

  goes_over : (xs : List Element) (g : End) → Reading xs g → TextLines (over list_steps xs g).list (over list_steps xs g).end
  goes_over xs g h =
      let o = over_is_a_run list_steps xs g in
      let i = o.2 in
      (o.0, o.1, (i.0, i.1, subst (λ ys. Reading ys i.1) (sym i.2.0) (subst (λ e. Reading xs e) (sym i.2.1) h), i.3), o.3)

  came_over : (xs : List Element) (g : End) (ys : List Element) (e : End) → ys ≡ (over list_steps xs g).list → e ≡ (over list_steps xs g).end → Reading xs g → TextLines ys e
  came_over xs g ys e list end h = subst (λ l. TextLines l e) (sym list) (subst (λ k. TextLines (over list_steps xs g).list k) (sym end) (goes_over xs g h))

  by_fault : (f : Option Code) (xs : List Element) (g : End) (ys : List Element) (e : End) → (chain_part list_steps xs).fault ≡ f → Reading xs g → GivesBy f (chain_part list_steps) (chain_all list_steps) xs g ys e → TextLines ys e
  by_fault f xs g ys e is h by = cases f g (sym (ap (λ (n : Given). n.fault) (part_is xs)) ∙ is) h by
    where
      part_list : (chain_part list_steps xs).list ≡ (over list_steps xs Cut).list
      part_list = ap (λ (n : Given). n.list) (part_is xs)

      cases : (f : Option Code) (g : End) → fault_of (over list_steps xs Cut).end ≡ f → Reading xs g → GivesBy f (chain_part list_steps) (chain_all list_steps) xs g ys e → TextLines ys e
      cases (Some c) g is h by = came_over xs Cut ys e (by.0 ∙ part_list) (by.1 ∙ sym (end_with (over list_steps xs Cut).end c is)) (left_there xs g h)
      cases None Done is h by = came_over xs Done ys e by.0 (by.1 ∙ all_end xs) h
      cases None (Fault c) is h by =
          let o = failed_over xs c is in
          came_over xs (Fault c) ys e (by.0 ∙ (part_list ∙ sym (ap (λ (n : Came). n.list) o))) (by.1 ∙ sym (ap (λ (n : Came). n.end) o)) h
      cases None Cut is h by = came_over xs Cut ys e (by.0 ∙ part_list) (by.1 ∙ sym (cut_end xs is)) h

  -- what goes through the steps as one pipe goes through one behind the other
  pub text_lines : (ys : List Element) (e : End) → Piped (chain_part list_steps) (chain_all list_steps) Reading ys e → TextLines ys e
  text_lines ys e h = by_fault (chain_part list_steps h.0).fault h.0 h.1 ys e refl h.2 h.3

pub runs_are_list_runs : RunsAreListRuns
runs_are_list_runs d ys e opened unfailed h = (
  list_node,
  (somewhere, somewhere, somewhere, refl),
  ⊎_elim
      (λ r. inl (inl (opened, unfailed, inl (none_left d ys e (text_lines d ys e r)))))
      (λ c. inr (c.0, ⊎_elim (λ i. inl i) (λ i. inr (i.0, i.1, inl (opened, unfailed, inl (none_left d (ys ++ i.0) i.1 (text_lines d (ys ++ i.0) i.1 i.2))))) c.1))
      h,
)
