use Rattle.std.proofs.Common.{◌≡◌, ℕ, [], sym, ap, ◌∙◌, subst}
use Rattle.res_ledger.specs.declared.event.StreamNo.TheVariants.{Inner, Outer}
use Rattle.row_seat.specs.declared.view.View.{View}
use Rattle.row_seat.specs.Views.{CanFinish, CanJoin, IsLedgerOf, joined}
use Rattle.row_shared.specs.Seats.{shown}
use Rattle.row_shared.specs.Handles.{fits_other}
use Rattle.shared_scripts.specs.Scopes.{HasScopes}
use Rattle.shared_scripts.proofs.Scoping.{can_end, can_first, can_second, has_all, inner_apart, joined_is, main_is, one_is, one_view, outer_inner, parted_view, two_is}
use Rattle.shared_scripts.proofs.notes.both_note.Goals as goal

pub join-requires-clause-can : goal.join-requires-clause-can
join-requires-clause-can g c = let e = c.in_ok-seat.ensures.0 in let a = c.in_ok-one.ensures.ok in let b = c.in_ok-two.ensures.ok in let n = c.args.count in let s = c.join-left.ensures.first.0 in let t = c.join-left.ensures.second.0 in
    let v = main_is n (shown c.in_ok-seat.seat) (shown c.split.new.self) (shown c.split-2.new.self) e a.0 b.0 in
    let w = one_is n s.0 (shown c.in_ok-seat.seat) (shown c.in_ok-one.one) (shown c.join-left.result.0.0) e a.1 s.1 in
    let u = two_is n t.0 (shown c.in_ok-seat.seat) (shown c.split.new.self) (shown c.in_ok-two.two) (shown c.join-left.result.1.0) e a.0 b.1 t.1 in
    subst (λ (x : View ℕ). CanJoin x (shown c.join-left.result.0.0)) (sym v) (subst (λ (y : View ℕ). CanJoin (parted_view n [] []) y) (sym w) (can_first n s.0 s.0))

pub join-requires-2-clause-fits : goal.join-requires-2-clause-fits
join-requires-2-clause-fits g c = let e = c.in_ok-seat.ensures.0 in let a = c.in_ok-one.ensures.ok in let b = c.in_ok-two.ensures.ok in let n = c.args.count in let s = c.join-left.ensures.first.0 in let t = c.join-left.ensures.second.0 in
    let v = main_is n (shown c.in_ok-seat.seat) (shown c.split.new.self) (shown c.split-2.new.self) e a.0 b.0 in
    let w = one_is n s.0 (shown c.in_ok-seat.seat) (shown c.in_ok-one.one) (shown c.join-left.result.0.0) e a.1 s.1 in
    let u = two_is n t.0 (shown c.in_ok-seat.seat) (shown c.split.new.self) (shown c.in_ok-two.two) (shown c.join-left.result.1.0) e a.0 b.1 t.1 in
    let named : (shown c.split-2.new.self).by ≡ Outer = ap (λ (z : View ℕ). z.by) v in let other : (shown c.join-left.result.1.0).by ≡ Inner 2 = ap (λ (z : View ℕ). z.by) u in let first : (shown c.join-left.result.0.0).by ≡ Inner 1 = ap (λ (z : View ℕ). z.by) w in
    let two : (shown c.in_ok-two.two).by ≡ Inner 2 = ap (λ (z : View ℕ). z.by) b.1 in
    let main = c.in_ok-two.ensures.fits in
    let there = c.join-left.ensures.second.1.1 c.split-2.new.self (λ q. outer_inner 2 (sym named ∙ (q ∙ two))) (c.in_ok-second.ensures c.split-2.new.self main) in
    let mine = fits_other c.split-2.new.self c.join-left.result.1.0 c.split-2.new.desk c.join-left.result.1.1 main there c.join-left.ensures.second.1.0 (ap (λ (z : View ℕ). z.main) u) in
    (c.join.ensures.fits, c.join.ensures.others c.join-left.result.1.0 (λ q. outer_inner 2 (sym named ∙ (sym q ∙ other))) (λ q. inner_apart (sym other ∙ (q ∙ first))) mine)

pub join-requires-2-clause-can : goal.join-requires-2-clause-can
join-requires-2-clause-can g c = let e = c.in_ok-seat.ensures.0 in let a = c.in_ok-one.ensures.ok in let b = c.in_ok-two.ensures.ok in let n = c.args.count in let s = c.join-left.ensures.first.0 in let t = c.join-left.ensures.second.0 in
    let v = main_is n (shown c.in_ok-seat.seat) (shown c.split.new.self) (shown c.split-2.new.self) e a.0 b.0 in
    let w = one_is n s.0 (shown c.in_ok-seat.seat) (shown c.in_ok-one.one) (shown c.join-left.result.0.0) e a.1 s.1 in
    let u = two_is n t.0 (shown c.in_ok-seat.seat) (shown c.split.new.self) (shown c.in_ok-two.two) (shown c.join-left.result.1.0) e a.0 b.1 t.1 in
    let x = joined_is (shown c.split-2.new.self) (shown c.join-left.result.0.0) (shown c.join.new.self) _ _ v w c.join.ensures.view in
    subst (λ (z : View ℕ). CanJoin z (shown c.join-left.result.1.0)) (sym x) (subst (λ (z : View ℕ). CanJoin (joined (parted_view n [] []) (one_view n s.0 s.0)) z) (sym u) (can_second n s.0 t.0))

pub finish-requires-clause-can : goal.finish-requires-clause-can
finish-requires-clause-can g c = let e = c.in_ok-seat.ensures.0 in let a = c.in_ok-one.ensures.ok in let b = c.in_ok-two.ensures.ok in let n = c.args.count in let s = c.join-left.ensures.first.0 in let t = c.join-left.ensures.second.0 in
    let v = main_is n (shown c.in_ok-seat.seat) (shown c.split.new.self) (shown c.split-2.new.self) e a.0 b.0 in
    let w = one_is n s.0 (shown c.in_ok-seat.seat) (shown c.in_ok-one.one) (shown c.join-left.result.0.0) e a.1 s.1 in
    let u = two_is n t.0 (shown c.in_ok-seat.seat) (shown c.split.new.self) (shown c.in_ok-two.two) (shown c.join-left.result.1.0) e a.0 b.1 t.1 in
    let x = joined_is (shown c.split-2.new.self) (shown c.join-left.result.0.0) (shown c.join.new.self) _ _ v w c.join.ensures.view in
    let y = joined_is (shown c.join.new.self) (shown c.join-left.result.1.0) (shown c.join-2.new.self) _ _ x u c.join-2.ensures.view in
    subst (λ (z : View ℕ). CanFinish z) (sym y) (can_end n s.0 t.0)

pub returns : goal.returns
returns g c = let e = c.in_ok-seat.ensures.0 in let a = c.in_ok-one.ensures.ok in let b = c.in_ok-two.ensures.ok in let n = c.args.count in let s = c.join-left.ensures.first.0 in let t = c.join-left.ensures.second.0 in
    let v = main_is n (shown c.in_ok-seat.seat) (shown c.split.new.self) (shown c.split-2.new.self) e a.0 b.0 in
    let w = one_is n s.0 (shown c.in_ok-seat.seat) (shown c.in_ok-one.one) (shown c.join-left.result.0.0) e a.1 s.1 in
    let u = two_is n t.0 (shown c.in_ok-seat.seat) (shown c.split.new.self) (shown c.in_ok-two.two) (shown c.join-left.result.1.0) e a.0 b.1 t.1 in
    let x = joined_is (shown c.split-2.new.self) (shown c.join-left.result.0.0) (shown c.join.new.self) _ _ v w c.join.ensures.view in
    let y = joined_is (shown c.join.new.self) (shown c.join-left.result.1.0) (shown c.join-2.new.self) _ _ x u c.join-2.ensures.view in
    has_all n s.0 t.0 c.finish.result (subst (λ (z : View ℕ). IsLedgerOf z c.finish.result) y (record { stamped = c.finish.ensures.stamped; whole = c.finish.ensures.whole; legal = c.finish.ensures.legal; ended = c.finish.ensures.ended; canceled = c.finish.ensures.canceled; names = c.finish.ensures.names; payloads = c.finish.ensures.payloads }))
    (subst (λ k. HasScopes s.0 k n) (ap (λ (z : View ℕ). z.by) a.1) s.2) (subst (λ k. HasScopes t.0 k n) (ap (λ (z : View ℕ). z.by) b.1) t.2)
