use Rattle.std.proofs.Common.{◌≡◌, ℕ, slice_set, refl, ap, ◌∙◌, arith, ◌++◌, ◌∷◌, []}
use Rattle.std.proofs.lemmas.List.{map_push}
use Rattle.std.specs.Map.{keys_of}
use Rattle.row_seat.specs.Steps.{placed}
use Rattle.row_seat.proofs.Members.{length_without}
use Rattle.row_seat.proofs.Moves.{no_pair_on}
use Rattle.row_seat.proofs.Sitting.{empty_row, has_place, others_put, place_table, sits_put}
use Rattle.row_seat.proofs.plain.PlainSeatRowSeat.place.Goals as goal

pub push_reserved-requires : goal.push_reserved-requires
push_reserved-requires g c = let h = c.requires.fits in let l = length_without c.args.row c.args.self.now.token.empty c.requires.row.0 in let m = h.hold in omega arith

pub index_mut-requires : goal.index_mut-requires
index_mut-requires g c = let h = c.requires.fits in let b = (has_place h c.args.row (empty_row h c.args.row c.requires.row.0)).0 in omega arith

pub returns : goal.returns
returns g c = let s = c.args.self.now in let d = c.args.desk.now in let h = c.requires.fits in let row = c.args.row in let can = c.requires.row in let w = placed s.token row in
    let t = place_table h row can in let put = c.push_reserved.ensures in let cap = put.capacity in
    let views : c.put.result ≡ slice_set d.views s.id w = c.put.ensures ∙ ap (λ t. slice_set d.views s.id t) c.step.ensures in record {
      view = rw (c.step.ensures, put.items) refl;
      bare = λ p. no_pair_on h.table.rule h.seated row can.0 s.id s.token h.seated.at p.0 p.1;
      fits = sits_put h w views t refl refl c.step.ensures h.seated.live h.by
          (ap keys_of put.items ∙ (map_push (λ (x : ℕ × g.row.P.Denot). x.0) s.hands.items (row, c.args.pay) ∙ ap (λ l. l ++ row ∷ []) h.held))
          (let l = length_without row s.token.empty can.0 in let m = h.hold in let n = put.len in omega arith)
          (λ m. let a = h.whole m in omega arith);
      others = others_put h w views t refl;
    }
