use Rattle.std.proofs.Common.{◌≤◌, sym, subst, length, drop, Some}
use Rattle.std.proofs.lemmas.Result.{IfOk-weaker}
use Rattle.pull_nodes.specs.Plain.{bytes_of}
use Rattle.csv_pipes.specs.CsvState.{Comes, HasGathered}
use Rattle.csv_pipes.specs.Even.{Rest}
use Rattle.csv_pipes.proofs.Gathering.{few_rows, not_text, reads_text}
use Rattle.csv_pipes.proofs.csv_pipe.CsvPipeFeed.finish.Goals as goal

pub returns-in_default-clause-first : goal.returns-in_default-clause-first
returns-in_default-clause-first c = λ m xs h.
    let gathered = subst (λ s. HasGathered s (bytes_of xs)) (sym c.in-Gathering.ensures.value) h.1 in
    not_text m h.0 xs c.in-Gathering.text.items gathered h.2 c.in_ok-split-in-Gathering.field-0 _ c.in_ok-split-in-Gathering.ensures.front
    (rw c.as_slice.ensures.value at c.in_default.ensures)

pub returns-in_ok-left-in-Gathering-clause-first : goal.returns-in_ok-left-in-Gathering-clause-first
returns-in_ok-left-in-Gathering-clause-first c =
    let text = c.in-Gathering.text.items in
    let left = c.in_ok-left-in-Gathering.left in
    IfOk-weaker c.answer.result _ _ (λ fed given m xs h.
    let gathered = subst (λ s. HasGathered s (bytes_of xs)) (sym c.in-Gathering.ensures.value) h.1 in
    let is = c.in_ok-left-in-Gathering.ensures text (λ i. Some (drop (c.new.ensures.position i) (c.new.ensures.inner i).items)) in
    reads_text m h.0 xs text gathered h.2 left fed (Comes c.answer.new.self) (rw c.as_slice.ensures.value at c.in-Ok.ensures.1) is
    (given (subst (λ (r : Rest). length r.0 ≤ 16777217) (sym is) (few_rows text (rw (sym gathered) at h.2)))))
    c.answer.ensures
