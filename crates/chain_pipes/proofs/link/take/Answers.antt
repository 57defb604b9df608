use Rattle.std.proofs.Common.{◌≡◌, ◌+◌, ◌≤◌, [], ◌∷◌, ◌++◌, ◌∙◌, length, take, drop, map, ap, sym, subst, refl, arith}
use Rattle.std.proofs.lemmas.List.{map-id}
use Rattle.std.proofs.lemmas.List.Elements.{All-take}
use Rattle.std.proofs.lemmas.Iterator.Adapters.{YieldsList-from_vec}
use Rattle.std.proofs.lemmas.Iterator.Consumers.{YieldsList-so_far, YieldsList-turn}
use Rattle.chunk_core.specs.Elements.{kind_of, elements}
use Rattle.any_pipe.specs.Pouring.{AreOf}
use Rattle.any_pipe.proofs.Feeding.{up_to}
use Rattle.chain_pipes.specs.declared.batch.Batch.{Batch}
use Rattle.chain_pipes.specs.declared.batch.Tail.TheVariants as tail
use Rattle.chain_pipes.proofs.Taking.{taker_ends}
use Rattle.chain_pipes.proofs.link.take.Goals as goal

pub returns-then-len-wanted : goal.returns-then-len-wanted
returns-then-len-wanted c takes xs are =
    let all = c.args.batch.loads.items in
    let ys = c.loop-load.yielded in
    let load = c.in-Some.load in
    let left = c.loop-load.load-iterator in
    let starts = c.into_iter-load-iterator.ensures.into_iter_gives in
    let road = YieldsList-from_vec {s = c.into_iter-load-iterator.result} all starts.0 (starts.1 ∙ c.args.batch.loads.ok.0) in
    let so_far = YieldsList-so_far road ys left c.loop-load.yielded_by in
    let turn = YieldsList-turn road ys left c.loop-load.yielded_by c.next.result c.next.new.self load c.in-Some.is c.next.ensures.steps in
    let r : Batch = record { loads = c.push.new.self; tail = tail.End } in
    let before = subst (λ l. AreOf takes l) (sym (sym (map-id ys) ∙ so_far)) (All-take (λ l. kind_of l ≡ takes) (length ys) all are) in
    let given = c.in_ok-push.ensures.items ∙ ap (λ l. l ++ c.in_ok-split.field-0 ∷ []) c.loop-load.invariant.0 in
    let enough : c.loop-load.wanted ≤ length (elements load) = omega (arith, c.if-len-wanted.true, c.len-len.ensures) in
    taker_ends takes xs c.args.batch r ys (drop (length ys + 1) all) load c.in_ok-split.field-0 c.args.wanted.now c.loop-load.wanted _ (up_to all ys load so_far turn) before (ap kind_of turn.1 ∙ are (length ys) load turn.0) c.in_ok-split.ensures.kind c.in_ok-split.ensures.front enough
    c.loop-load.invariant.2 given refl
