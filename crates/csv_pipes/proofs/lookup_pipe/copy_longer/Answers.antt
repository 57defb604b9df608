use Rattle.std.proofs.Common.{◌++◌, ◌∷◌, [], map, refl, ap, sym, ◌∙◌}
use Rattle.std.specs.Prelude.{option_map, unwrap_or}
use Rattle.std.specs.FinMap.{get}
use Rattle.pull_nodes.specs.Lookup.{looked_up, with_value}
use Rattle.chunk_core.specs.Elements.{Row}
use Rattle.csv_pipes.proofs.MadeRows.{made_all, made_more, made_lacks}
use Rattle.csv_pipes.proofs.lookup_pipe.copy_longer.Goals as goal

pub loop-row-preserved : goal.loop-row-preserved
loop-row-preserved c =
    made_more (looked_up (get c.args.table.now) c.args.field) c.args.rows.now c.loop-row.row-index (map Row c.loop-row.given.items) c.loop-row.invariant c.row-item.result c.loop-row-test.true c.row-item.is
    Row c.loop-row.given.items c.push.new.self.items (c.row-item.result ++ unwrap_or (get c.args.table.now c.in-Some.key.now) [] ∷ []) refl
    (ap (option_map (with_value (get c.args.table.now) (Row c.row-item.result))) (sym c.in-Some.ensures))
    (c.in_ok-push.ensures.items ∙ ap (λ l. c.loop-row.given.items ++ l ∷ [])
    (c.in_ok-longer.ensures ∙ (λ i. c.as_slice-in-loop-row.ensures i ++ (c.value_of-value.ensures ∙ ap (λ k. unwrap_or (get c.args.table.now k) []) c.as_slice.ensures) i ∷ [])))

pub returns-in_default : goal.returns-in_default
returns-in_default c =
    made_lacks (looked_up (get c.args.table.now) c.args.field) c.args.rows.now c.loop-row.row-index (map Row c.loop-row.given.items) c.loop-row.invariant c.row-item.result c.loop-row-test.true c.row-item.is
    (ap (option_map (with_value (get c.args.table.now) (Row c.row-item.result))) (sym c.in_default.ensures))

pub returns : goal.returns
returns c = made_all (looked_up (get c.args.table.now) c.args.field) c.args.rows.now c.loop-row.row-index (map Row c.loop-row.given.items) c.loop-row.invariant c.loop-row-test.false
