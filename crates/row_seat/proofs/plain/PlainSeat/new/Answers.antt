use Rattle.std.proofs.Common.{◌∷◌, ◌-◌, ◌^◌, [], refl, ap, ◌∙◌}
use Rattle.row_seat.specs.declared.token.Token.{Token}
use Rattle.row_seat.proofs.Starts.{start_sits}
use Rattle.row_seat.proofs.plain.PlainSeat.new.Goals as goal

pub returns : goal.returns
returns g c = let t = c.know-token.ensures in let w = c.in_ok-words.ensures in let h = c.in_ok-hands.ensures in let r = c.in_ok-room.ensures in (
  rw (t, h.items) refl,
  start_sits _ _ c.args.by c.args.rows c.args.events (2 ^ 32 - 1) t (c.know-views.ensures ∙ ap (λ (x : Token g.row.P.Denot). x ∷ []) t) c.know-id.ensures refl c.in_ok-slots.ensures w.0 w.1 r.capacity r.items h.items h.capacity h.len,
)
