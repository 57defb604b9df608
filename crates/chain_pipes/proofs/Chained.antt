-- What a chain gives as a pipe.
use Rattle.std.proofs.Common.{◌≡◌, ℕ, ◌<◌, ◌+◌, List, [], ◌∷◌, ◌++◌, length, length-append, Option, None, Some, refl, ap, sym, subst, ◌∙◌, arith, append-nil}
use Rattle.chunk_core.specs.Elements.{Element, LoadKind, elements, elements_of, kind_of}
use Rattle.chunk_core.specs.Elements.LoadKind.{Bytes}
use Rattle.chunk_core.specs.Feed.{Extends, Feeds, Given, Meaning}
use Rattle.chunk_core.specs.Outcomes.{Cut, Done, End, Fault}
use Rattle.chunk_core.specs.declared.code.Code.{Code}
use Rattle.chunk_core.specs.declared.feed.Fed.{Fed}
use Rattle.chunk_core.specs.declared.feed.Fed.TheVariants as fed
use Rattle.chunk_core.specs.declared.load.Load.{Load}
use Rattle.any_pipe.specs.Pouring.{AreOf}
use Rattle.pipeline_desc.specs.declared.step.Step.{Step}
use Rattle.pull_nodes.specs.PipeKinds.{stream_kind}
use Rattle.pull_nodes.specs.PipeRule.{without_fault}
use Rattle.chain_pipes.specs.Over.{Came, IsChainMeaning, came, chain_all, chain_meaning, chain_part, fault_of, given_of, over}
use Rattle.chain_pipes.specs.Links.{LinksStand, Passes, PassesSteps, end_of, given}
use Rattle.chain_pipes.specs.Chains.{Comes, StageComes, StageStands, StandsFor, part_of_some, sound}
use Rattle.chain_pipes.specs.declared.batch.Batch.{Batch}
use Rattle.chain_pipes.specs.declared.batch.Tail.{Tail}
use Rattle.chain_pipes.specs.declared.batch.Tail.TheVariants as tail
use Rattle.chain_pipes.specs.declared.chain.Chain.{Chain}
use Rattle.chain_pipes.specs.declared.chain.Stage.{Stage}
use Rattle.chain_pipes.specs.declared.chain.Stage.TheVariants as stage
use Rattle.chain_pipes.proofs.Steady.{over_met}

some_more : (xs ys : List Element) → 0 < length ys → 0 < length (xs ++ ys)
some_more xs ys h = let l = length-append xs ys in omega (arith, l, h)

-- nothing was fed, and nothing comes
pub feeds_nothing : (q : Chain) (m : Meaning) (xs : List Element) (load out : Load) → StandsFor q m xs → elements load ≡ [] → elements out ≡ [] → kind_of out ≡ m.gives → Feeds m xs (elements load) (fed.Out out) (StandsFor q m)
feeds_nothing q m xs load out h none gives kind =
    let same : xs ++ elements load ≡ xs = ap (λ l. xs ++ l) none ∙ append-nil xs in (
      record {
        kind = kind;
        list = ap (λ l. (m.part xs).list ++ l) gives ∙ (append-nil (m.part xs).list ∙ ap (λ l. (m.part l).list) (sym same));
        fault = ap (λ l. (m.part l).fault) same ∙ sound q m xs h;
      },
      subst (StandsFor q m) (sym same) h,
    )

module _ (steps : List Step) (m : Meaning) (is : IsChainMeaning steps m) where
  part_is : (xs : List Element) → m.part xs ≡ chain_part steps xs
  part_is xs = ap (λ (n : Meaning). n.part xs) is.1

  all_is : (xs : List Element) → m.all xs ≡ chain_all steps xs
  all_is xs = ap (λ (n : Meaning). n.all xs) is.1

  -- what came of more elements extends what was given
  extends : (xs ys zs : List Element) (load : Load) (e : End) → 0 < length ys → (m.part xs).list ≡ given steps xs → over steps (xs ++ ys) Cut ≡ came (given steps xs ++ zs) e → elements load ≡ zs → kind_of load ≡ m.gives
      → Extends m xs ys load (fault_of e)
  extends xs ys zs load e some before made list kind =
      let now : m.part (xs ++ ys) ≡ given_of (came (given steps xs ++ zs) e) = part_is (xs ++ ys) ∙ (part_of_some steps (xs ++ ys) (some_more xs ys some) ∙ ap given_of made) in
      record {
        kind = kind;
        list = ap (λ l. l ++ elements load) before ∙ (ap (λ l. given steps xs ++ l) list ∙ sym (ap (λ (g : Given). g.list) now));
        fault = ap (λ (g : Given). g.fault) now;
      }

  module _ (xs : List Element) (opened : chain_part steps xs ≡ without_fault (given steps xs)) (load out : Load) (some : 0 < length (elements load))
      (b r : Batch) (fed_is : elements_of b.loads.items ≡ elements load) (more : b.tail ≡ tail.More) (Goes : List Element → Type 0)
      (passed : PassesSteps steps m.gives xs b r Goes) (list : elements out ≡ elements_of r.loads.items) (kind : kind_of out ≡ m.gives) where
    before : (m.part xs).list ≡ given steps xs
    before = ap (λ (g : Given). g.list) (part_is xs ∙ opened)

    made : over steps (xs ++ elements load) Cut ≡ came (given steps xs ++ elements_of r.loads.items) (end_of r.tail)
    made = ap (λ l. over steps (xs ++ l) Cut) (sym fed_is) ∙ (ap (λ t. over steps (xs ++ elements_of b.loads.items) (end_of t)) (sym more) ∙ passed.made)

    ended : (t : Tail) → r.tail ≡ t → Extends m xs (elements load) out (fault_of (end_of t))
    ended t e = extends xs (elements load) (elements_of r.loads.items) out (end_of t) some before (made ∙ ap (λ u. came (given steps xs ++ elements_of r.loads.items) (end_of u)) e) list kind

    -- a step failed
    pub feeds_fault : (q : Chain) (c : Code) → r.tail ≡ tail.Fault c → Feeds m xs (elements load) (fed.Fault out c) (StandsFor q m)
    feeds_fault q c e = ended (tail.Fault c) e

    -- a `take` was met
    pub feeds_last : (q : Chain) → q.gives ≡ stream_kind m.gives → q.stage ≡ stage.Met → r.tail ≡ tail.End → Feeds m xs (elements load) (fed.Out out) (StandsFor q m)
    feeds_last q gives met e =
        let end : (over steps (xs ++ elements load) Cut).end ≡ Done = ap (λ (c : Came). c.end) made ∙ ap end_of e in
        (ended tail.End e, (steps, is, gives, subst (λ s. StageStands s steps m.gives (xs ++ elements load)) (sym met) (some_more xs (elements load) some, end)))

    -- each step goes on
    pub feeds_more : (q : Chain) → q.gives ≡ stream_kind m.gives → ((ys : List Element) → Goes ys → chain_part steps ys ≡ without_fault (given steps ys) → StageStands q.stage steps m.gives ys) → r.tail ≡ tail.More
        → Feeds m xs (elements load) (fed.Out out) (StandsFor q m)
    feeds_more q gives stand e =
        let ws = xs ++ elements load in
        let g = passed.goes (ap end_of e) in
        let there : Goes ws = subst (λ l. Goes (xs ++ l)) fed_is g.stands in
        let whole : given steps xs ++ elements_of r.loads.items ≡ given steps ws = g.list ∙ ap (λ l. given steps (xs ++ l)) fed_is in
        let part : chain_part steps ws ≡ without_fault (given steps ws) =
        part_of_some steps ws (some_more xs (elements load) some)
        ∙ (ap given_of (made ∙ ap (λ u. came (given steps xs ++ elements_of r.loads.items) (end_of u)) e) ∙ ap without_fault whole)
        in
        (ended tail.More e, (steps, is, gives, stand ws there part))

  -- where a `take` was met nothing more comes
  pub feeds_met : (q : Chain) (xs : List Element) (load out : Load) → q.gives ≡ stream_kind m.gives → q.stage ≡ stage.Met → 0 < length xs → (over steps xs Cut).end ≡ Done → elements out ≡ [] → kind_of out ≡ m.gives
      → Feeds m xs (elements load) (fed.Out out) (StandsFor q m)
  feeds_met q xs load out gives met some end none kind =
      let ws = xs ++ elements load in
      let still : 0 < length ws = let l = length-append xs (elements load) in omega (arith, l, some) in
      let same : over steps ws Cut ≡ over steps xs Cut = over_met steps xs (elements load) Cut end in
      let part : m.part ws ≡ m.part xs = part_is ws ∙ (part_of_some steps ws still ∙ (ap given_of same ∙ (sym (part_of_some steps xs some) ∙ sym (part_is xs)))) in (
        record {
          kind = kind;
          list = ap (λ l. (m.part xs).list ++ l) none ∙ (append-nil (m.part xs).list ∙ sym (ap (λ (g : Given). g.list) part));
          fault = ap (λ (g : Given). g.fault) (part ∙ (part_is xs ∙ part_of_some steps xs some)) ∙ ap fault_of end;
        },
        (steps, is, gives, subst (λ s. StageStands s steps m.gives ws) (sym met) (still, ap (λ (c : Came). c.end) same ∙ end)),
      )

  -- the input has ended: what the steps then give is still to come
  pub ends_running : (xs : List Element) (b r : Batch) (Goes : List Element → Type 0) → chain_part steps xs ≡ without_fault (given steps xs) → b.loads.items ≡ [] → b.tail ≡ tail.End → PassesSteps steps m.gives xs b r Goes
      → ((m.part xs).list ++ elements_of r.loads.items ≡ (m.all xs).list) × (fault_of (end_of r.tail) ≡ (m.all xs).fault) × AreOf m.gives r.loads.items
  ends_running xs b r Goes opened none done passed =
      let made : over steps xs Done ≡ came (given steps xs ++ elements_of r.loads.items) (end_of r.tail) =
      ap (λ l. over steps l Done) (sym (append-nil xs)) ∙ (ap (λ l. over steps (xs ++ elements_of l) Done) (sym none) ∙ (ap (λ t. over steps (xs ++ elements_of b.loads.items) (end_of t)) (sym done) ∙ passed.made))
      in
      let all : m.all xs ≡ given_of (came (given steps xs ++ elements_of r.loads.items) (end_of r.tail)) = all_is xs ∙ ap given_of made in (
        ap (λ (g : Given). g.list ++ elements_of r.loads.items) (part_is xs ∙ opened) ∙ sym (ap (λ (g : Given). g.list) all),
        sym (ap (λ (g : Given). g.fault) all),
        passed.kinds,
      )

  -- so it is where a `take` was met: nothing is
  pub ends_met : (xs : List Element) → 0 < length xs → (over steps xs Cut).end ≡ Done → ((m.part xs).list ++ [] ≡ (m.all xs).list) × (None ≡ (m.all xs).fault)
  ends_met xs some end =
      let same : over steps xs Done ≡ over steps xs Cut = ap (λ l. over steps l Done) (sym (append-nil xs)) ∙ over_met steps xs [] Done end in
      let all : m.all xs ≡ m.part xs = all_is xs ∙ (ap given_of same ∙ (sym (part_of_some steps xs some) ∙ sym (part_is xs))) in
      (append-nil (m.part xs).list ∙ sym (ap (λ (g : Given). g.list) all), sym (ap (λ (g : Given). g.fault) (all_is xs ∙ ap given_of same) ∙ ap fault_of end))
