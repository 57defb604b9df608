use Rattle.std.proofs.Common.{◌≡◌, sym, ap, ◌∙◌, []}
use Rattle.std.specs.Map.{keys_of}
use Rattle.row_seat.proofs.Ends.{all_canceled, all_events, all_final, all_payloads}
use Rattle.row_seat.proofs.Stayed.{all_names}
use Rattle.row_seat.proofs.plain.PlainSeatRowSeat.finish.Goals as goal

pub returns : goal.returns
returns g c = let h = c.requires.fits in let can = c.requires.can in let rule = h.table.rule in let seat = h.seated in
    let none : c.args.self.token.opened ≡ [] = sym h.held ∙ ap keys_of can.1.0 in
    rw (c.of_events.ensures, c.replace-events.ensures.value) (record {
      stamped = rule.books.stamped;
      legal = rule.books.legal;
      whole = all_events rule seat can.0 can.2;
      ended = all_final rule seat can.0 can.2 none can.1.2 can.1.4 can.1.1;
      canceled = all_canceled rule seat can.0 can.2 can.1.3;
      names = all_names rule seat can.0;
      payloads = all_payloads rule seat can.0 can.2;
    })
