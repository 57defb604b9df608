use Rattle.std.proofs.Common.{◌∙◌, ◌++◌, ◌∷◌, [], ap, sym, refl, true, false}
use Rattle.std.specs.FinMap.{get, get-empty}
use Rattle.std.specs.Ordering.{nat_cmp}
use Rattle.std.specs.Cmp.Lexicographic.{slice_cmp}
use Rattle.csv.specs.Records.{fields_of}
use Rattle.csv_pipes.specs.Dictionaries.{value_for}
use Rattle.csv_pipes.specs.Even.{Rest}
use Rattle.csv_pipes.proofs.Rests.{rest_more, rest_all}
use Rattle.csv_pipes.proofs.Tables.{all_read, long_value, no_field, uneven}
use Rattle.csv_pipes.proofs.table.read_rows.Goals as goal

pub records-init : goal.records-init
records-init c = (
  [],
  refl,
  record { values = λ key. ap (λ d. get d key) c.new.ensures ∙ get-empty (slice_cmp nat_cmp) key; long = refl; whole = refl },
)

pub returns-then-not-branch-clause-refused : goal.returns-then-not-branch-clause-refused
returns-then-not-branch-clause-refused c = λ records are.
    let (seen, before, draft) = c.records.invariant in
    let fields = fields_of c.next.new.record in
    let new = c.next.new.self in
    let next = rw c.in-Row.is at c.in_ok-next.ensures in
    let short = rw c.if-not-branch.true at (c.in_ok-take-in-Row.ensures seen draft) in
    no_field records seen new.0 fields new.1 (sym are ∙ (before ∙ ap (λ (r : Rest). (seen ++ r.0, r.1)) next)) short

pub records-preserved : goal.records-preserved
records-preserved c =
    let (seen, before, draft) = c.records.invariant in
    let fields = fields_of c.next.new.record in
    let next = rw c.in-Row.is at c.in_ok-next.ensures in
    (seen ++ fields ∷ [], rest_more seen c.records.rows c.args.rows before fields c.next.new.self next, rw c.if-not-branch.false at (c.in_ok-take-in-Row.ensures seen draft))

pub returns-in-End-clause-refused : goal.returns-in-End-clause-refused
returns-in-End-clause-refused c = λ records are.
    let (seen, before, draft) = c.records.invariant in
    let all = sym are ∙ rest_all seen c.records.rows c.args.rows before false (rw c.in-End.is at c.in_ok-next.ensures) in
    long_value records seen false all draft.whole refl true (sym c.if-draft.true ∙ draft.long)

pub returns-in-End-2-clause-ok : goal.returns-in-End-2-clause-ok
returns-in-End-2-clause-ok c = λ records are.
    let (seen, before, draft) = c.records.invariant in
    let all = sym are ∙ rest_all seen c.records.rows c.args.rows before false (rw c.in-End-2.is at c.in_ok-next.ensures) in (
      long_value records seen false all draft.whole refl false (sym c.if-draft.false ∙ draft.long),
      λ key. draft.values key ∙ ap (value_for key) (sym (all_read records seen false all draft.whole refl)),
    )

pub returns-in-Uneven-clause-refused : goal.returns-in-Uneven-clause-refused
returns-in-Uneven-clause-refused c = λ records are.
    let (seen, before, draft) = c.records.invariant in
    uneven records seen true (sym are ∙ rest_all seen c.records.rows c.args.rows before true (rw c.in-Uneven.is at c.in_ok-next.ensures)) draft.whole refl
