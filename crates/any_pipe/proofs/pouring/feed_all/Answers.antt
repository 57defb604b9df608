use Rattle.std.proofs.Common.{◌+◌, [], ◌∷◌, ◌++◌, None, length, drop, ap, sym, subst, ◌∙◌}
use Rattle.std.proofs.lemmas.Iterator.Adapters.{YieldsList-from_vec}
use Rattle.std.proofs.lemmas.Iterator.Consumers.{YieldsList-so_far, YieldsList-turn}
use Rattle.chunk_core.specs.Elements.{kind_of, elements_of}
use Rattle.any_pipe.specs.Pouring.{MakesUp}
use Rattle.any_pipe.proofs.Feeding.{broken_off, fed_more, up_to}
use Rattle.any_pipe.proofs.pouring.feed_all.Goals as goal

pub returns-in-Fault : goal.returns-in-Fault
returns-in-Fault g c m xs s are =
    let all = c.args.loads.items in
    let ys = c.loop-load.yielded in
    let load = c.in-Some.load in
    let left = c.loop-load.load-iterator in
    let starts = c.into_iter-load-iterator.ensures.into_iter_gives in
    let road = YieldsList-from_vec {s = c.into_iter-load-iterator.result} all starts.0 (starts.1 ∙ c.args.loads.ok.0) in
    let so_far = YieldsList-so_far road ys left c.loop-load.yielded_by in
    let turn = YieldsList-turn road ys left c.loop-load.yielded_by c.next.result c.next.new.self load c.in-Some.is c.next.ensures.steps in
    let fed = c.loop-load.invariant m xs s are in
    let takes = sym (ap kind_of turn.1 ∙ are (length ys) load turn.0) in
    let answer = rw c.in-Fault.is at c.in_ok-out.ensures in
    broken_off m xs all ys c.loop-load.given.items c.push-in-Fault.new.self.items load c.in-Fault.out c.in-Fault.code (g.F.Feed.stands c.loop-load.pipe m) (g.F.Feed.stands c.feed.new.self m)
    fed (answer m (xs ++ elements_of ys) fed.1 takes) (drop (length ys + 1) all) (up_to all ys load so_far turn) c.in_ok-push-in-Fault.ensures.items

pub loop-load-preserved : goal.loop-load-preserved
loop-load-preserved g c m xs s are =
    let all = c.args.loads.items in
    let ys = c.loop-load.yielded in
    let load = c.in-Some.load in
    let left = c.loop-load.load-iterator in
    let starts = c.into_iter-load-iterator.ensures.into_iter_gives in
    let road = YieldsList-from_vec {s = c.into_iter-load-iterator.result} all starts.0 (starts.1 ∙ c.args.loads.ok.0) in
    let turn = YieldsList-turn road ys left c.loop-load.yielded_by c.next.result c.next.new.self load c.in-Some.is c.next.ensures.steps in
    let fed = c.loop-load.invariant m xs s are in
    let takes = sym (ap kind_of turn.1 ∙ are (length ys) load turn.0) in
    let answer = rw c.in-Out.is at c.in_ok-out.ensures in
    let more = fed_more m xs ys c.loop-load.given.items load c.in-Out.out (g.F.Feed.stands c.loop-load.pipe m) (g.F.Feed.stands c.feed.new.self m)
    fed (answer m (xs ++ elements_of ys) fed.1 takes) in
    (subst (λ l. MakesUp m xs l None (m.part (xs ++ elements_of (ys ++ load ∷ [])))) (sym c.in_ok-push-in-Out.ensures.items) more.0, more.1)
