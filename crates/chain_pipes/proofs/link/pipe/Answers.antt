use Rattle.std.proofs.Common.{◌≡◌, ◌++◌, ◌∙◌, List, None, Some, ap, refl, sym, subst}
use Rattle.chunk_core.specs.Elements.{Element, elements_of}
use Rattle.any_pipe.specs.Pouring.{FeedsAll}
use Rattle.chain_pipes.specs.declared.batch.Batch.{Batch}
use Rattle.chain_pipes.specs.declared.batch.Tail.TheVariants as tail
use Rattle.chain_pipes.proofs.Piped.{pipe_ends, pipe_stops}
use Rattle.chain_pipes.proofs.link.pipe.Goals as goal

pub returns-in-Some : goal.returns-in-Some
returns-in-Some g c m xs steady stands are =
    let b = c.args.batch in
    let r : Batch = record { loads = c.in_ok-fed.fed.loads; tail = tail.Fault c.in-Some.code } in
    let fed = subst (λ f. FeedsAll m xs b.loads.items c.in_ok-fed.fed.loads.items f (g.F.Feed.stands c.feed_all.new.pipe m)) c.in-Some.is (c.in_ok-fed.ensures m xs stands are) in
    pipe_stops m xs b r c.in-Some.code (g.F.Feed.stands c.feed_all.new.pipe m) steady fed refl

pub returns-in_ok-whole-in-End : goal.returns-in_ok-whole-in-End
returns-in_ok-whole-in-End g c m xs steady stands are =
    let b = c.args.batch in
    let r : Batch = record { loads = c.in_ok-whole-in-End.whole.loads; tail = c.tail_of.result } in
    let ws = xs ++ elements_of b.loads.items in
    let fed = subst (λ f. FeedsAll m xs b.loads.items c.in_ok-fed.fed.loads.items f (g.F.Feed.stands c.feed_all.new.pipe m)) c.in_default.is (c.in_ok-fed.ensures m xs stands are) in
    pipe_ends m xs b r c.in_ok-fed.fed.loads.items c.in_ok-whole-in-End.whole.fault (g.F.Feed.stands c.finish_all.new.pipe m) c.in-End.is fed.0 (c.in_ok-whole-in-End.ensures m ws fed.1) c.tail_of.ensures
