use Rattle.std.proofs.Common.{sym, ap, ◌∙◌, arith}
use Rattle.std.proofs.lemmas.List.{get_or_default}
use Rattle.row_seat.proofs.Hands.{absent, spot_is}
use Rattle.row_seat.proofs.hand.find.Goals as goal

pub unreachable-requires : goal.unreachable-requires
unreachable-requires g c = absent c.args.hands.now c.args.row (λ k d l. let t = c.loop-i-test.false in c.loop-i.invariant k d (omega arith)) c.requires

pub returns-then-hand-row-clause-place : goal.returns-then-hand-row-clause-place
returns-then-hand-row-clause-place g c = let xs = c.args.hands.now in let i = c.loop-i.i in let l = c.loop-i-test.true in let x = c.index-hands-i.result in
    sym (spot_is c.args.row xs i l (λ d. ap (λ z. z.0) (get_or_default xs i d x l ∙ sym c.index-hands-i.is) ∙ c.if-hand-row.true) c.loop-i.invariant)
