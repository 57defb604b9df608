use Rattle.std.proofs.Common.{◌≡◌, ◌+◌, ◌-◌, ◌≤◌, length, refl, sym, ap, ◌∙◌, subst, arith, replicate}
use Rattle.std.specs.Prelude.{vec_capacity}
use Rattle.std.proofs.lemmas.List.{length-replicate}
use Rattle.chunk_core.proofs.Filters.{bool_not}
use Rattle.std.specs.Map.{keys_of}
use Rattle.row_seat.specs.Rule.{IsInside}
use Rattle.row_shared.specs.declared.table.Place.{Place}
use Rattle.row_shared.specs.declared.table.Start.{Start}
use Rattle.row_shared.specs.Places.{IsOfTable, first_place}
use Rattle.row_shared.proofs.Itself.{first_itself}
use Rattle.row_shared.proofs.Openings.{first_inside, opens}
use Rattle.row_shared.proofs.Sitting.{fits_put}
use Rattle.row_shared.proofs.seat.SharedSeat.new.Goals as goal

pub vacant-requires : goal.vacant-requires
vacant-requires g c = let k : Start = record { by = c.args.by; rows = c.args.rows; seats = c.args.seats; events = c.args.events } in
    let all : c.as_slice.result.now ≡ replicate (c.args.rows + 1) 0 = c.as_slice.ensures.value ∙ c.in_ok-words.ensures.items_if_clones_equal (λ y e. e) in
    rw all (opens k c.requires.events)

pub returns : goal.returns
returns g c = let k : Start = record { by = c.args.by; rows = c.args.rows; seats = c.args.seats; events = c.args.events } in let t = c.in_ok-table.ensures in let hands = c.in_ok-hands.ensures in let pages = c.in_ok-pages.ensures in
    let P : Type 0 = g.row.P.Denot in let first : Place P = first_place k in let key : Start = c.in_ok-table.table.shared.key in
    let all : c.as_slice.result.now ≡ replicate (c.args.rows + 1) 0 = c.as_slice.ensures.value ∙ c.in_ok-words.ensures.items_if_clones_equal (λ y e. e) in
    let words : c.in_ok-table.table.shared.table_id.words ≡ key.rows + 1 = t.0 ∙ (ap length all ∙ (length-replicate (c.args.rows + 1) 0 ∙ sym (ap (λ (z : Start). z.rows + 1) t.5))) in
    let slots : c.in_ok-table.table.shared.table_id.slots ≡ key.rows = t.1 ∙ sym (ap (λ (z : Start). z.rows) t.5) in
    let ok = sym c.in_ok-table-2.ensures.ok in let rows = t.1 in let events : key.events ≡ c.args.events = ap (λ (z : Start). z.events) t.5 in (
      rw (t.4, hands.items) refl,
      fits_put (record { table = c.in_ok-table-2.table }) first.token (subst (λ a. IsOfTable c.in_ok-table.pass.table_id a.shared.table_id a.shared.key) ok (t.2, words, slots)) t.4 refl refl
          (λ m. subst (λ a. c.args.by ≡ a.shared.key.by) ok (sym (ap (λ (z : Start). z.by) t.5)))
          (subst (λ a. IsInside a.shared.table_id.slots first.token) ok (subst (λ n. IsInside n first.token) (sym rows) (first_inside k))) (first_itself c.args.by c.args.rows c.args.events (c.args.seats - 1)) (ap keys_of hands.items) pages.items
          (λ m. subst (λ a. a.shared.table_id.slots ≤ vec_capacity c.in_ok-hands.hands) ok (let b = hands.capacity in omega arith))
          (λ m. absurd (bool_not m))
          (λ m. subst (λ a. a.shared.key.events ≤ vec_capacity c.in_ok-pages.pages) ok (let b = pages.capacity in omega arith))
          (λ m. absurd (bool_not m)),
    )
