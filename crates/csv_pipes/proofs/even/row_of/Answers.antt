use Rattle.std.proofs.Common.{◌+◌, ◌∙◌, ap, sym, arith, ◌++◌, ◌∷◌, [], ◌<◌, length, take}
use Rattle.std.proofs.lemmas.List.{take_more}
use Rattle.csv.specs.Records.{fields_of}
use Rattle.csv.proofs.RecordFacts.{field-get, field-there}
use Rattle.csv_pipes.proofs.even.row_of.Goals as goal
use Rattle.csv_pipes.proofs.even.row_of.Goals.{in-Some+in_ok-put, in_default}

pub loop-i-preserved : goal.loop-i-preserved
loop-i-preserved c =
    let fields = fields_of c.args.record.now in
    let i = c.loop-i.i in
    let there : i < length fields = omega (arith, c.len-i-end.ensures) in
    elim c.match-get.branch [
      | in-Some+in_ok-put w ↦
          let field = sym (field-get fields i w.in-Some.field.now (sym w.in-Some.ensures.value)) in
          let len = ap (λ v. length v.items) w.fields-is in
          record {
            front = ap (λ v. take (i + 1) v.items) w.fields-is ∙ (w.in_ok-put.ensures.front ∙ ((λ j. c.loop-i.invariant.front j ++ field j ∷ []) ∙ sym (take_more fields i [] there)));
            within = omega (arith, len, w.in_ok-put.ensures.within);
          }
      | in_default w ↦ absurd (field-there fields i there (sym w.in_default.ensures.value))
    ]
