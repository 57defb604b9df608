-- A group was gathered, or none is left.
use Rattle.eval_reader.proofs.Grouping.{ended}
use Rattle.eval_reader.proofs.reader.Reader.next_group.Goals as goal

pub returns-then-self-eq0-clause-gives : goal.returns-then-self-eq0-clause-gives
returns-then-self-eq0-clause-gives g c a groups k =
    let e = c.in_ok-fill.ensures in ended _ _ c.args.size a _ groups (e.grouping a groups k) c.requires.size c.if-self-eq0.true e.whole e.none

pub take-requires-clause-grouping : goal.take-requires-clause-grouping
take-requires-clause-grouping g c = let r = c.requires.grouping in (r.0, r.1, c.in_ok-fill.ensures.grouping r.0 r.1 r.2)

pub returns-clause-gives : goal.returns-clause-gives
returns-clause-gives g c a groups k = c.in_ok-group.ensures.gives a groups (c.in_ok-fill.ensures.grouping a groups k)
