use Rattle.std.proofs.Common.{◌≡◌, ◌↔◌, sym, subst, true, Result, Ok, Err}
use Rattle.std.specs.Prelude.{IfOk}
use Rattle.res_ledger.specs.Ledger.{MayFollow}
use Rattle.ledger_books.proofs.books.Books.may_follow.Goals as goal

pub returns-in-Open : goal.returns-in-Open
returns-in-Open c = subst (λ w. (c.may_open.result ≡ true) ↔ MayFollow c.args.past.now c.args.event.by w) (sym c.in-Open.is) c.may_open.ensures

pub returns-in-Acquire : goal.returns-in-Acquire
returns-in-Acquire c = subst (λ w. (c.may_acquire.result ≡ true) ↔ MayFollow c.args.past.now c.args.event.by w) (sym c.in-Acquire.is) c.may_acquire.ensures

pub returns-in-Lease : goal.returns-in-Lease
returns-in-Lease c = subst (λ w. (c.may_lease.result ≡ true) ↔ MayFollow c.args.past.now c.args.event.by w) (sym c.in-Lease.is) c.may_lease.ensures

pub returns-in-Cancel : goal.returns-in-Cancel
returns-in-Cancel c = subst (λ w. (c.may_cancel.result ≡ true) ↔ MayFollow c.args.past.now c.args.event.by w) (sym c.in-Cancel.is) (c.may_cancel.ensures c.in-Cancel.exit)

pub returns-in-Close : goal.returns-in-Close
returns-in-Close c = subst (λ w. (c.is_usable.result ≡ true) ↔ MayFollow c.args.past.now c.args.event.by w) (sym c.in-Close.is) c.is_usable.ensures

if_ok : {T E : Type 0} {A B : T → Type 0} (r : Result T E) → ((x : T) → A x → B x) → IfOk r A → IfOk r B
if_ok (Ok x) f a = f x a
if_ok (Err e) f a = tt

pub returns-in-Final : goal.returns-in-Final
returns-in-Final c = if_ok c.may_end.result (λ b f. subst (λ w. (b ≡ true) ↔ MayFollow c.args.past.now c.args.event.by w) (sym c.in-Final.is) (f c.in-Final.exit c.in-Final.ok)) c.may_end.ensures
