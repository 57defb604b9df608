use Rattle.std.proofs.Common.{ap, ◌∙◌}
use Rattle.res_ledger.specs.declared.event.What.TheVariants.{Acquire, Lease}
use Rattle.row_seat.specs.Views.{leased, noted, placed, split_main, split_off}
use Rattle.shared_scripts.proofs.Lent.{lessee_is, may_acquire, may_lease, may_note, may_place, may_split, owner_is}
use Rattle.shared_scripts.proofs.Racing.{event}
use Rattle.shared_scripts.proofs.races.lend.Goals as goal

pub note-requires-clause-room : goal.note-requires-clause-room
note-requires-clause-room g c = (may_acquire _ _ c.requires.start).1

pub note-requires-clause-event : goal.note-requires-clause-event
note-requires-clause-event g c = (may_acquire _ _ c.requires.start).0

pub place-requires-clause-row : goal.place-requires-clause-row
place-requires-clause-row g c = let n = c.note.result in may_place _ _ n (c.note.ensures.view ∙ ap (λ v. noted v (event v n (Acquire 0 0))) c.requires.start)

pub lease-requires-clause-row : goal.lease-requires-clause-row
lease-requires-clause-row g c = let n = c.note.result in let e = c.note.ensures.view ∙ ap (λ v. noted v (event v n (Acquire 0 0))) c.requires.start in
    may_lease _ _ n c.args.pay (c.place.ensures.view ∙ ap (λ v. placed v 0 c.args.pay) e)

pub note-requires-2-clause-room : goal.note-requires-2-clause-room
note-requires-2-clause-room g c = let n = c.note.result in let e = c.note.ensures.view ∙ ap (λ v. noted v (event v n (Acquire 0 0))) c.requires.start in
    let f = c.place.ensures.view ∙ ap (λ v. placed v 0 c.args.pay) e in (may_note _ _ n c.args.pay (c.lease.ensures.view ∙ ap (λ v. leased v 1 0) f)).1

pub note-requires-2-clause-event : goal.note-requires-2-clause-event
note-requires-2-clause-event g c = let n = c.note.result in let e = c.note.ensures.view ∙ ap (λ v. noted v (event v n (Acquire 0 0))) c.requires.start in
    let f = c.place.ensures.view ∙ ap (λ v. placed v 0 c.args.pay) e in (may_note _ _ n c.args.pay (c.lease.ensures.view ∙ ap (λ v. leased v 1 0) f)).0

pub split-requires-clause-can : goal.split-requires-clause-can
split-requires-clause-can g c = let n = c.note.result in let k = c.note-2.result in let e = c.note.ensures.view ∙ ap (λ v. noted v (event v n (Acquire 0 0))) c.requires.start in
    let f = c.place.ensures.view ∙ ap (λ v. placed v 0 c.args.pay) e in let h = c.lease.ensures.view ∙ ap (λ v. leased v 1 0) f in
    may_split _ _ n c.args.pay k (c.note-2.ensures.view ∙ ap (λ v. noted v (event v k (Lease 1 0))) h) c.requires.splits

pub returns-clause-ok : goal.returns-clause-ok
returns-clause-ok g c = let q = (g.S.RowSeat.view c.args.seat.now).splits in let n = c.note.result in let k = c.note-2.result in let e = c.note.ensures.view ∙ ap (λ v. noted v (event v n (Acquire 0 0))) c.requires.start in
    let f = c.place.ensures.view ∙ ap (λ v. placed v 0 c.args.pay) e in let h = c.lease.ensures.view ∙ ap (λ v. leased v 1 0) f in
    let l = c.note-2.ensures.view ∙ ap (λ v. noted v (event v k (Lease 1 0))) h in let o = c.in_ok-lessee.ensures.ok in
    (owner_is _ q n c.args.pay k (o.0 ∙ ap (λ v. split_main v 1 0 0 2) l), lessee_is _ q n c.args.pay k (o.1 ∙ ap (λ v. split_off v 1 0 0 2) l), o.2)
