use Rattle.chain_pipes.proofs.chain.ChainFeed.finish.Goals as goal

pub returns-clause-first : goal.returns-clause-first
returns-clause-first c m xs s =
    let e = c.in_ok-settle.ensures.first m xs s in
    record { rest = e.0; whole = e.1; given = c.give.ensures m.gives e.0 (m.all xs).fault e.2 }
