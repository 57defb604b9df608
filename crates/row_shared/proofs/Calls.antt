-- What the calls of a seat say of its view, and that it still fits.
use Rattle.std.proofs.Common.{◌≡◌, ℕ, ◌≤◌, List, [], refl, sym, ap, ◌∙◌, ⊎_elim, arith}
use Rattle.std.proofs.lemmas.Bool.{cases_Bool}
use Rattle.std.specs.Prelude.{vec_capacity, vec_len}
use Rattle.std.specs.Arc.{arc_value}
use Rattle.chunk_core.specs.Lists.{IsAmong}
use Rattle.row_seat.specs.declared.view.Left.{Left}
use Rattle.row_seat.specs.declared.view.Left.TheVariants.{Stays, Yours}
use Rattle.std.specs.Map.{keys_of}
use Rattle.row_seat.specs.Rule.{view_of}
use Rattle.row_seat.specs.Steps.{gone, handed_over, joined, shut, without_one}
use Rattle.row_seat.specs.Views.{CanJoin, ClosesRow, HasRow, LeavesRow, without_row}
use Rattle.row_seat.proofs.Hands.{row_among, rows_without}
use Rattle.row_shared.specs.declared.seat.SharedSeat.{SharedSeat}
use Rattle.row_shared.specs.declared.seat.TableRef.{TableRef}
use Rattle.row_shared.specs.Places.{Seated, TookIn}
use Rattle.row_shared.specs.Seats.{SharedFits, shown}
use Rattle.row_shared.specs.Told.{Closed, Gave}
use Rattle.row_shared.proofs.Itself.{gone_itself, handed_itself, shut_itself}
use Rattle.row_shared.proofs.Sitting.{fits_put}

module _ {P : Type 0} {s : SharedSeat P} (d : TableRef P) (h : SharedFits s d) where
  pub in_hand : (r : ℕ) → HasRow s.hands.items r → IsAmong r s.pass.me.0.token.opened
  in_hand r m = row_among r s.hands.items s.pass.me.0.token.opened h.held m

  pub none_open : s.hands.items ≡ [] → s.pass.me.0.token.opened ≡ []
  none_open e = sym h.held ∙ ap keys_of e

  -- the lease is gone
  pub leaves_view : (rows j r : ℕ) (left : Left) (after : Seated P) → Gave rows j r left s.pass.me.0.token after → LeavesRow (shown s) j r left (view_of after.0.token s.hands.items)
  leaves_view rows j r Stays after g = (ap (λ (m : Seated P). view_of m.0.token s.hands.items) g.0.0, λ main. g.1 main s.hands.items h.held)
  leaves_view rows j r Yours after g = (g.0, ap (λ (m : Seated P). view_of m.0.token s.hands.items) g.1.0, g.2 s.hands.items h.held)

  pub leaves_fits : (s' : SharedSeat P) (j r : ℕ) (left : Left) → s'.pass.table_id ≡ s.pass.table_id → s'.by ≡ s.by → s'.hands ≡ s.hands → s'.events ≡ s.events → Gave (arc_value d.table).shared.table_id.slots j r left s.pass.me.0.token s'.pass.me → SharedFits s' d
  leaves_fits s' j r Stays table by hands events g = let t = s.pass.me.0.token in fits_put d (gone t j r) (table ∙ h.table.0, h.table.1, h.table.2) g.0.0 h.calm.1 (by ∙ h.by) h.first g.0.1 (gone_itself t h.itself j r)
      (rw hands h.held) (rw events h.noted) (rw hands h.whole) (rw hands h.hold) (rw events h.pages) (rw events h.leaves)
  leaves_fits s' j r Yours table by hands events g = let t = s.pass.me.0.token in let u = gone t j r in fits_put d (handed_over u r g.0) (table ∙ h.table.0, h.table.1, h.table.2) g.1.0 h.calm.1 (by ∙ h.by) h.first g.1.1 (handed_itself u (gone_itself t h.itself j r) r g.0)
      (rw hands h.held) (rw events h.noted) (rw hands h.whole) (rw hands h.hold) (rw events h.pages) (rw events h.leaves)

  -- the row is closed
  pub closes_view : (rows r : ℕ) (p : P) (left : Left) (after : Seated P) (hands : List (ℕ × P)) → IsAmong (r, p) s.hands.items → hands ≡ without_row r s.hands.items → Closed rows r p left s.pass.me.0.token after → ClosesRow (shown s) r left (view_of after.0.token hands)
  closes_view rows r p Stays after hands m e g = (p, m, ap (λ (m : Seated P). view_of m.0.token hands) g.0.0 ∙ ap (λ l. view_of (shut s.pass.me.0.token r p) l) e, g.1)
  closes_view rows r p Yours after hands m e g = (p, m, ap (λ (m : Seated P). view_of m.0.token hands) g.0.0 ∙ ap (λ l. view_of (handed_over (shut s.pass.me.0.token r p) r p) l) e, λ k. g.1 k.0 k.1)

  pub closes_fits : (s' : SharedSeat P) (r : ℕ) (p : P) (left : Left) → s'.pass.table_id ≡ s.pass.table_id → s'.by ≡ s.by → s'.events ≡ s.events → s'.hands.items ≡ without_row r s.hands.items → vec_len s'.hands ≤ vec_len s.hands → vec_capacity s'.hands ≡ vec_capacity s.hands
      → Closed (arc_value d.table).shared.table_id.slots r p left s.pass.me.0.token s'.pass.me → SharedFits s' d
  closes_fits s' r p Stays table by events items less same g = let t = s.pass.me.0.token in fits_put d (shut t r p) (table ∙ h.table.0, h.table.1, h.table.2) g.0.0 h.calm.1 (by ∙ h.by) h.first g.0.1 (shut_itself t h.itself r p)
      (ap keys_of items ∙ (rows_without r s.hands.items ∙ ap (without_one r) h.held)) (rw events h.noted) (λ m. let a = h.whole m in omega arith) (λ m. let a = h.hold m in omega arith) (rw events h.pages) (rw events h.leaves)
  closes_fits s' r p Yours table by events items less same g = let t = s.pass.me.0.token in let u = shut t r p in fits_put d (handed_over u r p) (table ∙ h.table.0, h.table.1, h.table.2) g.0.0 h.calm.1 (by ∙ h.by) h.first g.0.1 (handed_itself u (shut_itself t h.itself r p) r p)
      (ap keys_of items ∙ (rows_without r s.hands.items ∙ ap (without_one r) h.held)) (rw events h.noted) (λ m. let a = h.whole m in omega arith) (λ m. let a = h.hold m in omega arith) (rw events h.pages) (rw events h.leaves)

  -- the other seat comes back to this main one
  pub comes_back : {o : SharedSeat P} → SharedFits o d → CanJoin (shown s) (shown o) → TookIn (joined s.pass.me.0.token o.pass.me.0.token) s.pass.me.0.token o.pass.me.0.token
  comes_back {o} f can = record {
    is = refl;
    name = can.1.0;
    by = can.1.1;
    out = can.1.2;
    side = ⊎_elim (λ m. absurd ((h.itself.outs can.1.0 can.1.2).1 (h.first can.0 ∙ (sym (f.first m) ∙ can.1.1)))) (λ x. x) (cases_Bool o.pass.me.0.token.main);
    mine = h.itself;
    theirs = f.itself;
    shut = sym f.held ∙ ap keys_of can.2.0;
    unused = can.2.1;
  }
