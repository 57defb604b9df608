use Rattle.std.proofs.Common.{◌≤◌, ◌++◌, ◌∷◌, [], map, length, take, refl, ap, sym, ◌∙◌, arith}
use Rattle.std.specs.Prelude.{option_map, unwrap_or}
use Rattle.std.specs.FinMap.{get}
use Rattle.std.proofs.lemmas.Iterator.Adapters.{YieldsList-from_vec}
use Rattle.std.proofs.lemmas.Iterator.Consumers.{YieldsList-turn, YieldsList-end}
use Rattle.std.proofs.lemmas.List.{length_push}
use Rattle.chunk_core.specs.Elements.{Row}
use Rattle.pull_nodes.specs.Field.{each_made}
use Rattle.pull_nodes.specs.Lookup.{looked_up, with_value}
use Rattle.csv_pipes.proofs.MadeRows.{made_all, made_more, made_lacks}
use Rattle.csv_pipes.proofs.lookup_pipe.lengthen.Goals as goal

pub loop-row-preserved : goal.loop-row-preserved
loop-row-preserved c =
    let all = c.args.rows.items in
    let i = length c.loop-row.yielded in
    let row = c.in-Some.row in
    let starts = c.into_iter-row-iterator.ensures.into_iter_gives in
    let road = YieldsList-from_vec {s = c.into_iter-row-iterator.result} all starts.0 (starts.1 ∙ c.args.rows.ok.0) in
    let turn = YieldsList-turn road c.loop-row.yielded c.loop-row.row-iterator c.loop-row.yielded_by c.next.result c.next.new.self row c.in-Some.is c.next.ensures.steps in
    let made = looked_up (get c.args.table.now) c.args.field in
    let value = unwrap_or (get c.args.table.now c.in-Some-get.key.now) [] in
    let longer = row ++ value ∷ [] in
    let found = c.value_of-value.ensures ∙ ap (λ k. unwrap_or (get c.args.table.now k) []) c.as_slice.ensures in
    ap (λ n. each_made made (map Row (take n all))) (length_push c.loop-row.yielded row)
    ∙ made_more made all i (map Row c.loop-row.given.items) c.loop-row.invariant row turn.0 turn.1 Row c.loop-row.given.items c.push.new.self.items longer refl
    (ap (option_map (with_value (get c.args.table.now) (Row row))) (sym c.in-Some-get.ensures))
    (c.in_ok-push.ensures.items ∙ ap (λ l. c.loop-row.given.items ++ l ∷ []) (c.in_ok-push_value.ensures ∙ ap (λ v. row ++ v ∷ []) found))

pub returns-in_default : goal.returns-in_default
returns-in_default c =
    let all = c.args.rows.items in
    let i = length c.loop-row.yielded in
    let row = c.in-Some.row in
    let starts = c.into_iter-row-iterator.ensures.into_iter_gives in
    let road = YieldsList-from_vec {s = c.into_iter-row-iterator.result} all starts.0 (starts.1 ∙ c.args.rows.ok.0) in
    let turn = YieldsList-turn road c.loop-row.yielded c.loop-row.row-iterator c.loop-row.yielded_by c.next.result c.next.new.self row c.in-Some.is c.next.ensures.steps in
    made_lacks (looked_up (get c.args.table.now) c.args.field) all i (map Row c.loop-row.given.items) c.loop-row.invariant row turn.0 turn.1
    (ap (option_map (with_value (get c.args.table.now) (Row row))) (sym c.in_default.ensures))

pub returns : goal.returns
returns c =
    let all = c.args.rows.items in
    let i = length c.loop-row.yielded in
    let starts = c.into_iter-row-iterator.ensures.into_iter_gives in
    let road = YieldsList-from_vec {s = c.into_iter-row-iterator.result} all starts.0 (starts.1 ∙ c.args.rows.ok.0) in
    let end = YieldsList-end road c.loop-row.yielded c.loop-row.row-iterator c.loop-row.yielded_by c.next.result c.next.new.self c.in-None.is c.next.ensures.steps in
    let whole : length all ≤ i = omega (arith, end.1) in
    made_all (looked_up (get c.args.table.now) c.args.field) all i (map Row c.loop-row.given.items) c.loop-row.invariant whole
