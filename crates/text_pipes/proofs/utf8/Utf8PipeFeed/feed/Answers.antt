use Rattle.std.proofs.Common.{◌≡◌, ◌∙◌, false, true, None, Some, sym, subst}
use Rattle.std.specs.Prelude.{IsUtf8}
use Rattle.chunk_core.specs.Elements.{elements}
use Rattle.chunk_core.specs.declared.code.Code.TheVariants as code
use Rattle.pull_nodes.specs.Utf8.{utf8_rest, is_malformed}
use Rattle.pull_nodes.proofs.Utf8Laws.{part_fault-malformed}
use Rattle.text_pipes.proofs.Utf8Feeds.{utf8_extends, utf8_stands, whole_front, cut_at, part_fault-fine}
use Rattle.text_pipes.proofs.utf8.Utf8PipeFeed.feed.Goals as goal

pub returns-in-Ok : goal.returns-in-Ok
returns-in-Ok c m xs h takes =
    let kept = c.args.self.now.held.items in
    let all = c.in_ok-bytes.bytes in
    let parts = whole_front all (subst IsUtf8 c.as_slice.ensures c.in-Ok.ensures.cases.1) in (
      utf8_extends kept c.into_bytes.result all all None c.in_ok-bytes.ensures.all parts.0 (part_fault-fine (utf8_rest all) parts.2)
          m xs (elements c.args.load) c.into_bytes.ensures h.0 h.1,
      (
        h.0,
        utf8_stands kept c.into_bytes.result all c.take_held.new.held.items c.in_ok-bytes.ensures.all (c.in_ok-bytes.ensures.none ∙ parts.1) parts.2
            xs (elements c.args.load) c.into_bytes.ensures h.1,
      ),
    )

pub returns-then-is_some : goal.returns-then-is_some
returns-then-is_some c m xs h takes =
    let all = c.in_ok-bytes.bytes in
    let cut = cut_at all c.as_slice.result.now c.valid_up_to.result c.in-Err.error.valid_up_to c.in-Err.error.error_len
    c.as_slice.ensures c.valid_up_to.ensures c.in-Err.ensures.valid_len c.in-Err.ensures.fault in
    let bad : is_malformed (utf8_rest all) ≡ true = sym cut.2 ∙ cc in
    utf8_extends c.args.self.now.held.items c.into_bytes.result all c.in_ok-split-in-Err.field-0 (Some code.Malformed) c.in_ok-bytes.ensures.all
    (c.in_ok-split-in-Err.ensures.front ∙ cut.0) (part_fault-malformed (utf8_rest all) bad) m xs (elements c.args.load) c.into_bytes.ensures h.0 h.1

pub returns-in_ok-self-in-Err : goal.returns-in_ok-self-in-Err
returns-in_ok-self-in-Err c m xs h takes =
    let kept = c.args.self.now.held.items in
    let all = c.in_ok-bytes.bytes in
    let cut = cut_at all c.as_slice.result.now c.valid_up_to.result c.in-Err.error.valid_up_to c.in-Err.error.error_len
    c.as_slice.ensures c.valid_up_to.ensures c.in-Err.ensures.valid_len c.in-Err.ensures.fault in
    let fine : is_malformed (utf8_rest all) ≡ false = sym cut.2 ∙ cc in
    let rest = c.in_ok-self-in-Err.ensures.items ∙ (c.as_slice-in-Err.ensures ∙ (c.in_ok-split-in-Err.ensures.rest ∙ cut.1)) in (
      utf8_extends kept c.into_bytes.result all c.in_ok-split-in-Err.field-0 None c.in_ok-bytes.ensures.all
          (c.in_ok-split-in-Err.ensures.front ∙ cut.0) (part_fault-fine (utf8_rest all) fine) m xs (elements c.args.load) c.into_bytes.ensures h.0 h.1,
      (
        h.0,
        utf8_stands kept c.into_bytes.result all c.in_ok-self-in-Err.field-0.items c.in_ok-bytes.ensures.all rest fine
            xs (elements c.args.load) c.into_bytes.ensures h.1,
      ),
    )
