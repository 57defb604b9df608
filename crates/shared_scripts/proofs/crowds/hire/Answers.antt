use Rattle.std.proofs.Common.{◌+◌, refl, sym, subst, arith}
use Rattle.row_shared.specs.Seats.{shown}
use Rattle.shared_scripts.specs.Crowds.{IsHost}
use Rattle.shared_scripts.proofs.crowds.hire.Goals as goal

pub lend-requires-clause-stream : goal.lend-requires-clause-stream
lend-requires-clause-stream c = (c.requires.hosting.stream.0, c.requires.more)

pub lend-requires-clause-host : goal.lend-requires-clause-host
lend-requires-clause-host c = c.requires.hosting.host

pub lend-requires-clause-fits : goal.lend-requires-clause-fits
lend-requires-clause-fits c = c.requires.hosting.fits

pub returns-clause-hosting : goal.returns-clause-hosting
returns-clause-hosting c = let h = c.in_ok-own.ensures.host in let one = c.requires.hosting.stream.0 in let more = c.requires.more in record {
  fits = c.lend.ensures.fits;
  stream = (omega arith, omega arith);
  host = subst (λ o. IsHost (shown c.lend.new.seat) o 8 0 (c.args.stream + 1)) (sym h.out_is) h;
}

pub returns-clause-ready : goal.returns-clause-ready
returns-clause-ready c = let h = c.in_ok-own.ensures.host in let l = c.in_ok-own.ensures.living in (
  record {
    fits = c.in_ok-share.ensures c.in_ok-own.own l.1;
    stream = (c.requires.hosting.stream.0, c.requires.more);
    living = l.0;
    pays = c.in_ok-pays.ensures;
    other = c.lend.new.seat;
    named = h.by;
    beside = c.in_ok-share.ensures c.lend.new.seat c.lend.ensures.fits;
  },
  refl,
)

pub returns-clause-out : goal.returns-clause-out
returns-clause-out c = c.in_ok-own.ensures.host.out_is

pub returns-clause-home : goal.returns-clause-home
returns-clause-home c = c.in_ok-own.ensures.living.1

pub returns-clause-earlier : goal.returns-clause-earlier
returns-clause-earlier c = λ s ne early f. c.lend.ensures.others s ne f
