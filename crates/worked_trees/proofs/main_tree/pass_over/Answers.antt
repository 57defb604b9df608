use Rattle.std.proofs.Common.{◌≡◌, ℕ, ◌+◌, ◌≤◌, Bool, List, [], ◌∷◌, length, Ok, refl, sym, ap, subst, arith}
use Rattle.chunk_core.specs.declared.code.Exit.{Exit}
use Rattle.chunk_core.specs.declared.code.Exit.TheVariants.{Canceled, Succeeded}
use Rattle.scope_tree.specs.Calls.{Seen}
use Rattle.scope_tree.specs.Released.{away}
use Rattle.scope_tree.specs.Trees.{seen}
use Rattle.scope_tree.specs.Trace.{owed}
use Rattle.tree_laws.proofs.Guests.{nothing_among}
use Rattle.chunk_core.proofs.Members.{among_nil}
use Rattle.join_tree.specs.Mains.{IsMain}
use Rattle.join_tree.specs.Progress.{closing_root, leasing_next, none_done, skipping}
use Rattle.join_tree.specs.Steps.{Pulls}
use Rattle.join_tree.proofs.Growing.{had_older, out_had}
use Rattle.worked_trees.proofs.main_tree.pass_over.Goals as goal

first_is : (j : ℕ) (T : List ℕ) → j ≡ 0 → let ws : List (ℕ × List ℕ) = (0, T) ∷ [] in let us : List (ℕ × List ℕ) = (j, T) ∷ [] in ws ≡ us
first_is j T e = ap (λ k. let ws : List (ℕ × List ℕ) = (k, T) ∷ [] in ws) (sym e)

-- no seat is out yet
room_left : {P : Type 0} {ends : P → Exit → Bool → P → Type 0} {b : Seen P} → IsMain ends 1 1 b (none_done P) → length b.seat.out + 0 ≤ 1
room_left {b = b} h = subst (λ l. length l + 0 ≤ 1) (sym (nothing_among b.seat.out (λ j m. (let l = had_older h j (out_had h j m) in omega (arith, l))))) (omega arith)

pub close_outer-requires-clause-main : goal.close_outer-requires-clause-main
close_outer-requires-clause-main g c =
    let none = none_done g.row.S-Pay.Denot in
    let t = subst (λ o. Pulls g.S.Pay.Finish.ends 1 1 (seen g.S.RowSeat.view c.args.tree.now) (seen g.S.RowSeat.view c.pull.new.tree) none (Ok o)) c.in-Ok-Some.field-0-is (c.in-Ok-Some.ensures.pulls 1 none c.requires.main refl refl (room_left c.requires.main)) in
    (1, 1, leasing_next none c.in-Ok-Some.lease.rows.items, t.4, refl)

pub cancel_waiting-requires-clause-main : goal.cancel_waiting-requires-clause-main
cancel_waiting-requires-clause-main g c =
    let none = none_done g.row.S-Pay.Denot in
    let rows = c.in-Ok-Some.lease.rows.items in
    let t = subst (λ o. Pulls g.S.Pay.Finish.ends 1 1 (seen g.S.RowSeat.view c.args.tree.now) (seen g.S.RowSeat.view c.pull.new.tree) none (Ok o)) c.in-Ok-Some.field-0-is (c.in-Ok-Some.ensures.pulls 1 none c.requires.main refl refl (room_left c.requires.main)) in
    let p = leasing_next none rows in
    (1, 1, closing_root p Succeeded, [], c.close_outer.ensures.main 1 1 p t.4 refl, first_is c.in-Ok-Some.lease.stream rows t.1)

pub cancel_waiting-requires-clause-free : goal.cancel_waiting-requires-clause-free
cancel_waiting-requires-clause-free g c =
    let none = none_done g.row.S-Pay.Denot in
    let rows = c.in-Ok-Some.lease.rows.items in
    let t = subst (λ o. Pulls g.S.Pay.Finish.ends 1 1 (seen g.S.RowSeat.view c.args.tree.now) (seen g.S.RowSeat.view c.pull.new.tree) none (Ok o)) c.in-Ok-Some.field-0-is (c.in-Ok-Some.ensures.pulls 1 none c.requires.main refl refl (room_left c.requires.main)) in
    let v = g.S.RowSeat.view c.close_outer.new.tree.seat in
    let bare : rows ≡ [] = nothing_among rows (λ r m. among_nil (t.3 r m).1) in
    let a = c.requires.free in let b = c.in-Ok-Some.ensures.events in let d = c.close_outer.ensures.events in
    subst (λ l. owed v + 1 + away l v.opened ≤ v.spare) (sym bare) (omega (a, b, d, arith))

pub close_outer-requires-in-Err-clause-main : goal.close_outer-requires-in-Err-clause-main
close_outer-requires-in-Err-clause-main g c =
    let none = none_done g.row.S-Pay.Denot in
    let t = c.in-Err.ensures.pulls 1 none c.requires.main refl refl (room_left c.requires.main) in
    (1, 1, none, subst (λ b. IsMain g.S.Pay.Finish.ends 1 1 b none) (sym t.1) c.requires.main, refl)

pub returns-in-Ok-Some-clause-main : goal.returns-in-Ok-Some-clause-main
returns-in-Ok-Some-clause-main g c =
    let none = none_done g.row.S-Pay.Denot in
    let rows = c.in-Ok-Some.lease.rows.items in
    let t = subst (λ o. Pulls g.S.Pay.Finish.ends 1 1 (seen g.S.RowSeat.view c.args.tree.now) (seen g.S.RowSeat.view c.pull.new.tree) none (Ok o)) c.in-Ok-Some.field-0-is (c.in-Ok-Some.ensures.pulls 1 none c.requires.main refl refl (room_left c.requires.main)) in
    let p = leasing_next none rows in
    let q = closing_root p Succeeded in
    (skipping q [], Succeeded, c.cancel_waiting.ensures.main 1 1 q [] (c.close_outer.ensures.main 1 1 p t.4 refl) (first_is c.in-Ok-Some.lease.stream rows t.1), refl, refl, refl)

pub returns-in-Ok-None-clause-main : goal.returns-in-Ok-None-clause-main
returns-in-Ok-None-clause-main g c =
    let none = none_done g.row.S-Pay.Denot in
    let t = subst (λ o. Pulls g.S.Pay.Finish.ends 1 1 (seen g.S.RowSeat.view c.args.tree.now) (seen g.S.RowSeat.view c.pull.new.tree) none (Ok o)) c.in-Ok-None.field-0-is (c.in-Ok-None.ensures.pulls 1 none c.requires.main refl refl (room_left c.requires.main)) in
    (closing_root none Succeeded, Succeeded, t.1, refl, refl, refl)

pub returns-in-Err-clause-main : goal.returns-in-Err-clause-main
returns-in-Err-clause-main g c =
    let none = none_done g.row.S-Pay.Denot in
    let t = c.in-Err.ensures.pulls 1 none c.requires.main refl refl (room_left c.requires.main) in
    let h = subst (λ b. IsMain g.S.Pay.Finish.ends 1 1 b none) (sym t.1) c.requires.main in
    (closing_root none Canceled, Canceled, c.close_outer-in-Err.ensures.main 1 1 none h refl, refl, refl, refl)
