use Rattle.std.proofs.Common.{ℕ, eqb, filter, List, refl, sym, ap, ◌∙◌, ⊎_elim}
use Rattle.res_ledger.specs.declared.event.Event.{Event}
use Rattle.chunk_core.proofs.Members.{among_last, among_cons, among_nil}
use Rattle.res_ledger.proofs.Apart.{apart}
use Rattle.row_seat.specs.Views.{stream_pairs}
use Rattle.worked_values.proofs.seat_lives.hand_out.Goals as goal

pub join-requires-clause-can : goal.join-requires-clause-can
join-requires-clause-can g c = let o = c.in_ok-other.ensures.ok in let can = c.requires.can in let j = c.args.stream in
    rw (c.note-2.ensures.view, c.note.ensures.view, o.0, o.1) (
      can.0,
      (j, refl, among_last _ j),
      (
        refl,
        (λ r m a. ⊎_elim (λ e. apart (sym (ap (λ (x : Event). x.what) e) ∙ a.2.3) refl) (λ n. among_nil n) (among_cons a.2.1)),
        ap (λ (l : List (ℕ × ℕ)). stream_pairs j l) c.requires.rest.0,
        ap (λ (l : List ℕ). filter (λ x. eqb x j) l) c.requires.rest.1,
        refl,
        refl,
      ),
    )
