use Rattle.std.proofs.Common.{◌≡◌, ◌∙◌, false, drop, sym, ap, arith}
use Rattle.std.proofs.lemmas.List.{take_rest}
use Rattle.pull_nodes.specs.Utf8.{is_unfinished}
use Rattle.text_pipes.proofs.LossyTails.{searched-start, searched-next}
use Rattle.text_pipes.proofs.lossy.finished_len.Goals as goal

pub tails-init : goal.tails-init
tails-init c = searched-start c.args.bytes.now c.saturating_sub-at.result (omega arith)

pub tails-preserved : goal.tails-preserved
tails-preserved c =
    let no_start : is_unfinished (drop c.tails.at c.args.bytes.now) ≡ false = ap is_unfinished (sym (take_rest c.args.bytes.now c.tails.at)) ∙ (sym c.ends_within.ensures ∙ c.if-ends_within.false) in
    searched-next c.tails.at c.args.bytes.now c.tails.invariant c.tails-test.true no_start
