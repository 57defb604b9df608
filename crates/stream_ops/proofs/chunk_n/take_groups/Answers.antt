use Rattle.std.proofs.Common.{◌+◌, ◌-◌, ◌%◌, ◌++◌, ◌∙◌, ap, arith}
use Rattle.stream_ops.proofs.Groupings.{few_groups, few_rest, full_groups, full_rest}
use Rattle.stream_ops.proofs.chunk_n.take_groups.Goals as goal

pub returns-then-len-wanted-clause-groups : goal.returns-then-len-wanted-clause-groups
returns-then-len-wanted-clause-groups g c = c.in_ok-none.ensures.front ∙ few_groups c.args.size c.args.held.now.items c.args.chunk (omega arith) (omega arith)

pub returns-then-len-wanted-clause-rest : goal.returns-then-len-wanted-clause-rest
returns-then-len-wanted-clause-rest g c =
    c.in_ok-append.ensures ∙ (ap (λ l. c.args.held.now.items ++ l) (c.as_slice.ensures ∙ c.in_ok-none.ensures.rest) ∙ few_rest c.args.size c.args.held.now.items c.args.chunk (omega arith) (omega arith))

pub returns-clause-groups : goal.returns-clause-groups
returns-clause-groups g c =
    let held = c.args.held.now.items in
    let wanted = c.args.size - c.len.result in
    let more = c.len-3.result - wanted in
    c.in_ok-groups.ensures.all ∙ (ap (λ l. held ++ l) c.in_ok-front.ensures.front
    ∙ full_groups c.args.size held c.args.chunk (omega arith) more (wanted + (more - more % c.args.size)) (omega arith) (omega arith) (omega arith))

pub returns-clause-rest : goal.returns-clause-rest
returns-clause-rest g c =
    let held = c.args.held.now.items in
    let wanted = c.args.size - c.len.result in
    let more = c.len-3.result - wanted in
    c.in_ok-append-2.ensures ∙ ((λ i. c.in_ok-groups.ensures.none i ++ c.as_slice-2.ensures i) ∙ (c.in_ok-front.ensures.rest
    ∙ full_rest c.args.size held c.args.chunk (omega arith) more (wanted + (more - more % c.args.size)) (omega arith) (omega arith) (omega arith)))
