use Rattle.std.proofs.Common.{refl, ◌≡◌, rules, ◌∙◌, ap, ◌++◌, ◌-◌, take, length}
use Rattle.std.proofs.lemmas.Iterator.Consumers.{YieldsList-from_deque, YieldsList-at, YieldsList-end, YieldsList-so_far}
use Rattle.chunk_core.proofs.Clones.{appended}
use Rattle.chunk_core.proofs.Queues.{gathered, enough}
use Rattle.chunk_core.proofs.queue.ChunkQueue.front.Goals as goal
use Rattle.chunk_core.proofs.queue.ChunkQueue.front.Goals.{in-None, in-Some+then-wanted-eq0}

pub loop-chunk-preserved : goal.loop-chunk-preserved
loop-chunk-preserved g c = gathered (λ chunk. chunk.now) c.args.n c.loop-chunk.yielded c.in-Some.chunk c.loop-chunk.front.items _ c.loop-chunk.invariant
    (appended g.T.Clone.is_clone c.loop-chunk.front.items _ _ c.requires.same c.in_ok-extend_with_clones.ensures.items ∙ ap (λ l. c.loop-chunk.front.items ++ l) (c.front.ensures ∙ ap (λ k. take (c.args.n - k) c.in-Some.chunk.now) (search rules)))

pub returns : goal.returns
returns g c =
    let list = YieldsList-at c.into_iter-chunk-iterator.ensures.into_iter_gives (YieldsList-from_deque {s = c.iter-chunk-items.result} c.self.inside.chunks.items c.iter-chunk-items.ensures.rest) in
    elim c.match-next.branch [
      | in-None w ↦ let t = YieldsList-end list c.loop-chunk.yielded _ c.loop-chunk.yielded_by _ _ w.in-None.is c.next.ensures.steps in c.loop-chunk.invariant ∙ rw (t.0, c.self.view_is) refl
      | in-Some+then-wanted-eq0 w ↦
          let t = YieldsList-so_far list c.loop-chunk.yielded _ c.loop-chunk.yielded_by in
          let l : w.len.result ≡ length c.loop-chunk.front.items = search rules in
          enough c.args.n (length c.loop-chunk.yielded) c.self.inside.chunks.items c.loop-chunk.front.items (c.loop-chunk.invariant ∙ rw t refl) (rw l at w.if-wanted-eq0.true) ∙ ap (take c.args.n) c.self.view_is
    ]
