use Rattle.std.proofs.Common.{[], ◌++◌, inl, refl, sym}
use Rattle.chunk_core.specs.Elements.{elements}
use Rattle.chunk_core.specs.Elements.LoadKind.{Bytes}
use Rattle.step_words.specs.Words.{kind_behind}
use Rattle.chain_pipes.specs.Over.{chain_meaning}
use Rattle.chain_pipes.proofs.Begun.{some_kind}
use Rattle.crate_pages.proofs.chain_pipes_page.chained.Goals as goal

pub feed-requires : goal.feed-requires
feed-requires c =
    let steps = c.in_ok-steps.field-0 in
    let kind = some_kind (kind_behind steps Bytes) c.in_ok-steps.ensures.kinds in
    let m = chain_meaning steps kind.0 in (m, [], c.in_ok-chain.ensures m (kind.1, refl), sym c.in_ok-bytes.ensures)

pub feed-requires-2 : goal.feed-requires-2
feed-requires-2 c =
    let steps = c.in_ok-steps.field-0 in
    let kind = some_kind (kind_behind steps Bytes) c.in_ok-steps.ensures.kinds in
    let m = chain_meaning steps kind.0 in
    let fed = rw c.in-Out.is at c.in_ok-first.ensures m [] (c.in_ok-chain.ensures m (kind.1, refl)) (sym c.in_ok-bytes.ensures) in (m, elements c.in_ok-bytes.field-0, fed.1, sym c.in_ok-bytes-2.ensures)

pub finish-requires : goal.finish-requires
finish-requires c =
    let steps = c.in_ok-steps.field-0 in
    let kind = some_kind (kind_behind steps Bytes) c.in_ok-steps.ensures.kinds in
    let m = chain_meaning steps kind.0 in
    let fed = rw c.in-Out.is at c.in_ok-first.ensures m [] (c.in_ok-chain.ensures m (kind.1, refl)) (sym c.in_ok-bytes.ensures) in
    let more = rw c.in-Out-2.is at c.in_ok-second.ensures m (elements c.in_ok-bytes.field-0) fed.1 (sym c.in_ok-bytes-2.ensures) in inl (m, elements c.in_ok-bytes.field-0 ++ elements c.in_ok-bytes-2.field-0, more.1)
