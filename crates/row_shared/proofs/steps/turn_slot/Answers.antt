use Rattle.row_shared.proofs.Called.{carried, turned_is, turned_was}
use Rattle.row_shared.proofs.steps.turn_slot.Goals as goal

pub exchange-requires : goal.exchange-requires
exchange-requires g c = let me = c.args.pass.now.me in let h = c.requires.held in (c.requires.table, (h.0, carried me.0.token c.args.row h.0 me h.1))

pub returns : goal.returns
returns g c = let me = c.args.pass.now.me in let h = c.requires.held in let e = c.exchange.ensures in record {
  table = e.0;
  was = turned_was me.0.token c.args.row h.0 c.exchange.result me h.1 e.2;
  is = turned_is me.0.token c.args.row h.0 c.args.new me c.exchange.new.seat.me h.1 e.3;
}
