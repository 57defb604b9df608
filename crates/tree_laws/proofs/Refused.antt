-- Ledgers that are written out.
use Rattle.std.proofs.Common.{◌≡◌, ℕ, false, List, [], sym, ap, ◌∙◌, subst, refl, arith}
use Rattle.std.proofs.lemmas.Bool.{false≢true}
use Rattle.chunk_core.specs.Lists.IsAmong.{here}
use Rattle.chunk_core.proofs.Members.{among_nil}
use Rattle.res_ledger.specs.declared.event.Event.{Event}
use Rattle.res_ledger.specs.declared.event.StreamNo.{StreamNo}
use Rattle.res_ledger.specs.declared.event.StreamNo.TheVariants.{Outer, Inner}
use Rattle.res_ledger.specs.declared.event.What.TheVariants.{Acquire, Lease}
use Rattle.res_ledger.specs.Ledger.{IsCanceled, IsFinalized, IsLegal, Notes}
use Rattle.res_ledger.specs.Order.{is_in_order}
use Rattle.res_ledger.specs.Own.{leased_of, own}
use Rattle.res_ledger.specs.Whole.{cancel_count, final_count}
use Rattle.res_ledger.proofs.Judged.{final_in, legal_sound}
use Rattle.res_ledger.proofs.Noted.{flat_holds, notes_own, notes_rows, only}
use Rattle.res_ledger.proofs.Ordering.{in_order_complete, in_order_sound}
use Rattle.res_ledger.proofs.Scopes.{closed_sound}
use Rattle.tree_laws.specs.Refused.{IsLegalButNotWhole, first_row_first, lease_left_over, row_left_over}
use Rattle.tree_laws.specs.Whole.{IsWholeFor}
use Rattle.tree_laws.proofs.Complete.{complete_for}

pub not_in_order : (L : List Event) (k : StreamNo) → is_in_order L k ≡ false → ¬ (IsWholeFor L k)
not_in_order L k h w = false≢true (sym h ∙ in_order_complete L k w.order)

pub no_final : (L : List Event) (k : StreamNo) (r s : ℕ) → Notes L k (Acquire r s) → final_count r L ≡ 0 → ¬ (IsWholeFor L k)
no_final L k r s n z w = let e = w.complete.finalized_once r s n in absurd (omega (e, z, arith))

pub no_cancel : (L : List Event) (k : StreamNo) (j s : ℕ) → Notes L k (Lease j s) → cancel_count j L ≡ 0 → ¬ (IsWholeFor L k)
no_cancel L k j s n z w = let e = w.complete.canceled_once j s n in absurd (omega (e, z, arith))

pub first_row_first_refused : IsLegalButNotWhole first_row_first Outer
first_row_first_refused = (legal_sound first_row_first refl, not_in_order first_row_first Outer refl)

pub row_left_over_refused : IsLegalButNotWhole row_left_over Outer
row_left_over_refused = (legal_sound row_left_over refl, no_final row_left_over Outer 0 0 (_, here _, refl, refl) refl)

pub lease_left_over_refused : IsLegalButNotWhole lease_left_over Outer
lease_left_over_refused = (legal_sound lease_left_over refl, no_cancel lease_left_over Outer 0 0 (_, here _, refl, refl) refl)

-- it is whole for the leased stream
pub lease_left_over_whole : IsWholeFor lease_left_over (Inner 0)
lease_left_over_whole =
    let L = lease_left_over in
    let legal : IsLegal L = legal_sound L refl in
    let one : (r s : ℕ) → Notes L (Inner 0) (Acquire r s) → IsFinalized L r = λ r s n.
    let q : ℕ × ℕ = (r, s) in let z : ℕ × ℕ = (0, 0) in
    subst (λ x. IsFinalized L x) (sym (ap (λ (y : ℕ × ℕ). y.0) (only q z (notes_rows L (Inner 0) r s n)))) (final_in L 0 refl) in
    let none : (j s : ℕ) → Notes L (Inner 0) (Lease j s) → IsCanceled L j = λ j s n.
    let q : ℕ × ℕ = (j, s) in
    absurd (among_nil (flat_holds leased_of (Lease j s) (own (Inner 0) L) q (notes_own L (Inner 0) (Lease j s) n) (here []))) in
    record { legal = legal; order = in_order_sound L (Inner 0) refl; complete = complete_for L (Inner 0) legal (closed_sound L (Inner 0) 0 refl) one none }
