use Rattle.std.proofs.Common.{◌≡◌, ◌∙◌, ◌+◌, ◌-◌, ◌^◌, ◌++◌, min, ap, sym, true, false}
use Rattle.chunk_core.specs.Elements.{elements}
use Rattle.pull_nodes.specs.Csv.{is_too_large}
use Rattle.pull_nodes.specs.Plain.{bytes_of}
use Rattle.csv_pipes.proofs.Gathering.{gathers, gathered_more, too_large, within}
use Rattle.csv_pipes.proofs.csv_pipe.CsvPipeFeed.feed.Goals as goal

pub returns-then-saturating_add-gt-MOST_GATHERED : goal.returns-then-saturating_add-gt-MOST_GATHERED
returns-then-saturating_add-gt-MOST_GATHERED c m xs h takes =
    let text = c.in-Gathering.text.items in
    let bytes = c.in-Bytes.bytes in
    let gathered : text ≡ bytes_of xs = rw c.in-Gathering.is at h.1 in
    let len = c.saturating_add.ensures ∙ (λ i. min ((c.len.ensures ∙ c.in-Gathering.text.ok.0) i + c.len-2.ensures i) (2 ^ 64 - 1)) in
    gathers m h.0 xs (elements c.args.load) text bytes gathered (ap elements c.in-Bytes.is) c.in_ok-split.field-0 true c.in_ok-split.ensures.front
    (too_large text bytes c.saturating_add.result len c.if-saturating_add-gt-MOST_GATHERED.true)

pub returns : goal.returns
returns c m xs h takes =
    let text = c.in-Gathering.text.items in
    let bytes = c.in-Bytes.bytes in
    let came = elements c.args.load in
    let gathered : text ≡ bytes_of xs = rw c.in-Gathering.is at h.1 in
    let len = c.saturating_add.ensures ∙ (λ i. min ((c.len.ensures ∙ c.in-Gathering.text.ok.0) i + c.len-2.ensures i) (2 ^ 64 - 1)) in
    let more = gathered_more m h.0 xs came text bytes gathered (ap elements c.in-Bytes.is) in
    let small = within text bytes c.saturating_add.result len c.if-saturating_add-gt-MOST_GATHERED.false in (
      gathers m h.0 xs came text bytes gathered (ap elements c.in-Bytes.is) c.in_ok-split.field-0 false c.in_ok-split.ensures.front small,
      (h.0, c.in_ok-extend_from_slice.ensures.items ∙ (ap (λ l. text ++ l) c.as_slice.ensures ∙ sym more), ap is_too_large more ∙ small),
    )
