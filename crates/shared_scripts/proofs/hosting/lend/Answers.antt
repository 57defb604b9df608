use Rattle.std.proofs.Common.{◌+◌, ◌-◌, ◌*◌, ◌≤◌, [], ◌∷◌, ◌++◌, sym, ap, ◌∙◌, subst, arith}
use Rattle.res_ledger.specs.declared.event.What.TheVariants.{Lease}
use Rattle.row_seat.specs.Views.{CanSplit, MayNote, split_main, split_off}
use Rattle.shared_scripts.specs.Crowds.{IsHost, IsLiving}
use Rattle.shared_scripts.specs.Rows.{with_note}
use Rattle.shared_scripts.proofs.Hosts.{guest_lives, host_after, host_notes, host_splits}
use Rattle.shared_scripts.proofs.hosting.lend.Goals as goal

pub lease_common-requires-clause-host : goal.lease_common-requires-clause-host
lease_common-requires-clause-host g c = ((g.S.RowSeat.view c.args.seat.now).out, c.requires.host)

pub note-requires-clause-room : goal.note-requires-clause-room
note-requires-clause-room g c = let v = g.S.RowSeat.view c.args.seat.now in let s = c.requires.stream in
    subst (λ w. 1 ≤ w.spare) (sym c.lease_common.ensures.view) (host_notes v v.out c.args.stream c.requires.host s.0 s.1).1

pub note-requires-clause-event : goal.note-requires-clause-event
note-requires-clause-event g c = let v = g.S.RowSeat.view c.args.seat.now in let s = c.requires.stream in
    subst (λ w. MayNote w (Lease c.args.stream 0)) (sym c.lease_common.ensures.view) (host_notes v v.out c.args.stream c.requires.host s.0 s.1).0

pub split-requires-clause-can : goal.split-requires-clause-can
split-requires-clause-can g c = let v = g.S.RowSeat.view c.args.seat.now in let s = c.requires.stream in let j = c.args.stream in
    let e = c.note.ensures.view ∙ ap (λ w. with_note w c.note.result (Lease j 0)) c.lease_common.ensures.view in
    subst (λ a. CanSplit (g.S.RowSeat.view c.note.new.self) j a (a + 64) 265) (sym c.first_row-from.ensures) (subst (λ w. CanSplit w j (64 * j - 56) (64 * j - 56 + 64) 265) (sym e) (host_splits v v.out j c.requires.host s.0 s.1 c.note.result))

pub returns-clause-host : goal.returns-clause-host
returns-clause-host g c = let v = g.S.RowSeat.view c.args.seat.now in let s = c.requires.stream in let j = c.args.stream in
    let e = c.note.ensures.view ∙ ap (λ w. with_note w c.note.result (Lease j 0)) c.lease_common.ensures.view in
    subst (λ w. IsHost w (v.out ++ j ∷ []) 8 0 (j + 1)) (sym (c.in_ok-own.ensures.ok.0 ∙ (ap (λ a. split_main (g.S.RowSeat.view c.note.new.self) j a (a + 64) 265) c.first_row-from.ensures ∙ ap (λ w. split_main w j (64 * j - 56) (64 * j - 56 + 64) 265) e)))
    (host_after v v.out j c.requires.host s.0 s.1 c.note.result)

pub returns-clause-living : goal.returns-clause-living
returns-clause-living g c = let v = g.S.RowSeat.view c.args.seat.now in let s = c.requires.stream in let j = c.args.stream in
    let e = c.note.ensures.view ∙ ap (λ w. with_note w c.note.result (Lease j 0)) c.lease_common.ensures.view in (
      subst (λ w. IsLiving w j (64 * j - 56)) (sym (c.in_ok-own.ensures.ok.1 ∙ (ap (λ a. split_off (g.S.RowSeat.view c.note.new.self) j a (a + 64) 265) c.first_row-from.ensures ∙ ap (λ w. split_off w j (64 * j - 56) (64 * j - 56 + 64) 265) e)))
          (guest_lives v v.out j c.requires.host s.0 s.1 c.note.result),
      c.in_ok-own.ensures.ok.2,
    )
