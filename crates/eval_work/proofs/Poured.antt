-- What comes of a chain that is fed a text and then the end.
use Rattle.std.proofs.Common.{◌≡◌, ◌≢◌, ℕ, true, false, nat_le, Bool, if◌then◌else◌, List, [], ◌∷◌, ◌++◌, length, map, take, Option, Some, None, refl, sym, ◌∙◌, ap}
use Rattle.std.proofs.lemmas.Grind.{flat_map-append}
use Rattle.std.specs.Prelude.{IsSome}
use Rattle.chunk_core.specs.Elements.{Byte, Element, LoadKind, elements, elements_of, rendering_of}
use Rattle.chunk_core.specs.Elements.LoadKind.{Bytes}
use Rattle.chunk_core.specs.Feed.{Given, Meaning}
use Rattle.chunk_core.specs.Outcomes.{Cut, Done, End, Fault}
use Rattle.chunk_core.specs.Tables.{no_values}
use Rattle.chunk_core.specs.declared.code.Code.{Code}
use Rattle.chunk_core.specs.declared.load.Load.{Load}
use Rattle.any_pipe.specs.Pouring.{Pours, StopsAtFault}
use Rattle.any_pipe.proofs.Whole.{some_of}
use Rattle.any_pipe.specs.Pouring.Pours.{whole, broken}
use Rattle.pipeline_desc.specs.declared.step.Step.{Step}
use Rattle.pipeline_desc.specs.declared.step.Step.TheVariants as step
use Rattle.pull_nodes.specs.Pipes.{all_of, part_of}
use Rattle.pull_nodes.specs.Runs.{end_by_fault}
use Rattle.chain_pipes.specs.Chains.{StandsFor}
use Rattle.chain_pipes.specs.Over.{Came, IsChainMeaning, came, chain_meaning, chain_all, chain_part, fault_of, over, step_over, through}
use Rattle.chain_pipes.specs.declared.chain.Chain.{Chain}
use Rattle.chain_pipes.proofs.Steady.{chains_are_steady}
use Rattle.eval_rules.specs.Answers.{group_over, how_of}
use Rattle.step_words.specs.Words.{kind_behind}
use Rattle.eval_work.specs.Texts.{MayPourText, PoursText}
use Rattle.eval_work.specs.Works.{ends_by}

-- Steps whose input isn't cut aren't cut.

by_fault : (o : Option Code) → end_by_fault o Done ≢ Cut
by_fault None e = cc
by_fault (Some c) e = cc

passed : (o : Option Code) (part all : Given) (e : End) → e ≢ Cut → (through o part all e).end ≢ Cut
passed (Some c) part all e n is = cc
passed None part all Done n is = by_fault all.fault is
passed None part all (Fault c) n is = cc
passed None part all Cut n is = n refl

abbrev either : Bool → List Element → List Element → End → Came
either b ys xs e = if b then came ys Done else came xs e

taken_so : (b : Bool) (ys xs : List Element) (e : End) → e ≢ Cut → (either b ys xs e).end ≢ Cut
taken_so true ys xs e n is = cc
taken_so false ys xs e n is = n is

step_whole : (s : Step) (xs : List Element) (e : End) → e ≢ Cut → (step_over s xs e).end ≢ Cut
step_whole (step.Pipe p) xs e n = passed (part_of no_values p xs).fault (part_of no_values p xs) (all_of no_values p xs) e n
step_whole (step.Take k) xs e n = taken_so (nat_le k (length xs)) (take k xs) xs e n

pub over_whole : (steps : List Step) (xs : List Element) (e : End) → e ≢ Cut → (over steps xs e).end ≢ Cut
over_whole [] xs e n = n
over_whole (s ∷ ss) xs e n = over_whole ss (step_over s xs e).list (step_over s xs e).end (step_whole s xs e n)

-- the fault or none tells the end
ends_so : (e : End) → e ≢ Cut → ends_by (fault_of e) ≡ how_of e
ends_so Done n = refl
ends_so (Fault c) n = refl
ends_so Cut n = absurd (n refl)

done_whole : Done ≢ Cut
done_whole e = cc

module _ (steps : List Step) (gives : LoadKind) (loads given : List Load) (c : Option Code) where
  abbrev m : Meaning
  m = chain_meaning steps gives

  abbrev whole_of : Came
  whole_of = over steps (elements_of loads) Done

  pub record IsWholeOf : Type 0 where
    pub list : elements_of given ≡ whole_of.list
    pub fault : c ≡ fault_of whole_of.end

  -- where a fault came before the end, what was fed by then tells all
  at_fault : (code : Code) → c ≡ Some code → StopsAtFault m [] loads given code → IsWholeOf
  at_fault code is s =
      let front = elements_of s.front in
      let unfed = elements_of s.unfed in
      let parts : elements_of loads ≡ front ++ unfed = ap elements_of s.whole ∙ flat_map-append elements s.front s.unfed in
      let stops = (chains_are_steady steps gives).stops front unfed code (sym s.made.fault) in
      let all : chain_all steps (elements_of loads) ≡ chain_part steps front = ap (chain_all steps) parts ∙ stops.1 in
      record {
        list = s.made.list ∙ sym (ap (λ (x : Given). x.list) all);
        fault = is ∙ (s.made.fault ∙ sym (ap (λ (x : Given). x.fault) all));
      }

  poured_whole : Pours m [] loads given c → IsWholeOf
  poured_whole (whole made) = record { list = made.list; fault = made.fault }
  poured_whole (broken code is s) = at_fault code is s

  pub poured_list : Pours m [] loads given c → elements_of given ≡ whole_of.list
  poured_list p = (poured_whole p).list

  pub poured_end : Pours m [] loads given c → ends_by c ≡ how_of whole_of.end
  poured_end p = ap ends_by (poured_whole p).fault ∙ ends_so whole_of.end (over_whole steps (elements_of loads) Done done_whole)

-- What a chain of these steps gives of the text of a group.
module _ (steps : List Step) (chain : Chain) (fits : IsSome (kind_behind steps Bytes)) (stands : (m : Meaning) → IsChainMeaning steps m → StandsFor chain m []) where
  gives_of_steps : (gives : LoadKind) × (kind_behind steps Bytes ≡ Some gives)
  gives_of_steps = some_of (kind_behind steps Bytes) fits

  abbrev n : Meaning
  n = chain_meaning steps gives_of_steps.0

  begun : StandsFor chain n []
  begun = stands n (gives_of_steps.1, refl)

  pub may_pour : MayPourText (StandsFor chain)
  may_pour = (n, begun, refl)

  module _ (xs : List Element) (bytes : List ℕ) (is : bytes ≡ rendering_of xs) (text : List ℕ) (c : Option Code) (poured : (m : Meaning) → StandsFor chain m [] → m.takes ≡ Bytes → PoursText m bytes text c) where
    abbrev p : PoursText n bytes text c
    p = poured n begun refl

    same : elements_of p.loads ≡ map Byte (rendering_of xs)
    same = p.whole ∙ ap (λ l. map Byte l) is

    pub group_text : text ≡ rendering_of (group_over steps xs).list
    group_text = p.told ∙ ap rendering_of (poured_list steps gives_of_steps.0 p.loads p.given c p.pours ∙ ap (λ l. (over steps l Done).list) same)

    pub group_end : ends_by c ≡ how_of (group_over steps xs).end
    group_end = poured_end steps gives_of_steps.0 p.loads p.given c p.pours ∙ ap (λ l. how_of (over steps l Done).end) same
