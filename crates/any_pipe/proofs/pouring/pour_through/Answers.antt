use Rattle.std.proofs.Common.{◌≡◌, List, [], Some}
use Rattle.std.proofs.lemmas.Result.{IfOk-weaker}
use Rattle.std.specs.Prelude.{IfOk}
use Rattle.chunk_core.specs.Elements.{Element, LoadKind, elements_of}
use Rattle.chunk_core.specs.Feed.{Meaning}
use Rattle.pull_nodes.specs.PipeKinds.{gives_of}
use Rattle.pull_nodes.specs.Pipes.{meaning_over}
use Rattle.any_pipe.specs.Pouring.{AreOf, Pours}
use Rattle.any_pipe.proofs.Whole.{GivesAll, gives_all, is_meaning, some_of}
use Rattle.any_pipe.proofs.pouring.pour_through.Given as given
use Rattle.any_pipe.proofs.pouring.pour_through.Goals as goal

pub pour-requires : goal.pour-requires
pour-requires g c =
    let pipe = c.args.pipe in
    let t = g.F.PipeState.values c.args.tables.now in
    let takes = c.requires.0 in
    let gives = some_of (gives_of pipe takes) c.requires.1 in
    let m = meaning_over t pipe takes gives.0 in
    (m, [], c.in_ok-state.ensures m (is_meaning t pipe takes gives.0 gives.1), c.requires.2)

-- what came is what the pipe gives of the whole input, at each kind that the loads have
whole_given : (g : given.Over) (c : goal.After-pour g)
    → IfOk c.pour.result (λ p. (takes gives : LoadKind) → gives_of c.args.pipe takes ≡ Some gives → AreOf takes c.args.loads.items → GivesAll (g.F.PipeState.values c.args.tables.now) c.args.pipe gives (elements_of c.args.loads.items) p.loads.items p.fault)
whole_given g c =
    let pipe = c.args.pipe in
    let t = g.F.PipeState.values c.args.tables.now in
    let loads = c.args.loads.items in
    IfOk-weaker c.pour.result
    (λ p. (m : Meaning) (xs : List Element) → g.F.Feed.stands c.in_ok-state.state m xs → AreOf m.takes loads → Pours m xs loads p.loads.items p.fault)
    (λ p. (takes gives : LoadKind) → gives_of pipe takes ≡ Some gives → AreOf takes loads → GivesAll t pipe gives (elements_of loads) p.loads.items p.fault)
    (λ p poured takes gives e are.
    let m = meaning_over t pipe takes gives in
    gives_all t pipe takes gives e loads p.loads.items p.fault (poured m [] (c.in_ok-state.ensures m (is_meaning t pipe takes gives e)) are))
    c.pour.ensures

pub returns-clause-list : goal.returns-clause-list
returns-clause-list g c =
    let gives = some_of (gives_of c.args.pipe c.requires.0) c.requires.1 in
    IfOk-weaker c.pour.result _ _ (λ p h. (h c.requires.0 gives.0 gives.1 c.requires.2).list) (whole_given g c)

pub returns-clause-fault : goal.returns-clause-fault
returns-clause-fault g c =
    let gives = some_of (gives_of c.args.pipe c.requires.0) c.requires.1 in
    IfOk-weaker c.pour.result _ _ (λ p h. (h c.requires.0 gives.0 gives.1 c.requires.2).fault) (whole_given g c)

pub returns-clause-kind : goal.returns-clause-kind
returns-clause-kind g c = IfOk-weaker c.pour.result _ _ (λ p h takes gives are e. (h takes gives e are).kinds) (whole_given g c)
