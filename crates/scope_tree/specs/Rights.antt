-- Which leases a seat has, and what a call of a tree leaves of them to the next.
use Rattle.std.specs.Prelude.{◌≡◌, ◌≢◌, ℕ, List, ◌∷◌}
use Rattle.chunk_core.specs.declared.code.Exit.{Exit}
use Rattle.chunk_core.specs.Lists.{IsAmong}
use Rattle.res_ledger.specs.declared.event.StreamNo.TheVariants.{Inner}
use Rattle.res_ledger.specs.declared.event.What.TheVariants.{Cancel}
use Rattle.res_ledger.specs.Ledger.{IsLeased}
use Rattle.row_seat.specs.declared.view.View.{View}
use Rattle.row_seat.specs.Views.{MayNote}

module _ {P : Type 0} where
  -- the stream j may be leased for: it isn't this one, had no seat here and has no Lease
  abbrev pub IsNewStream : View P → ℕ → Type 0
  IsNewStream v j = (v.by ≢ Inner j) × ¬ (IsAmong j v.had) × ¬ (IsLeased v.events j)

  -- each Lease that is kept here, and each lease on a row, is one of Ls, which has each with its rows
  pub record HasNoLeaseBut (v : View P) (Ls : List (ℕ × List ℕ)) : Type 0 where
    pub kept : (j : ℕ) → IsAmong j v.kept → (T : List ℕ) × IsAmong (j, T) Ls
    pub pairs : (j r : ℕ) → IsAmong (j, r) v.pairs → (T : List ℕ) × IsAmong (j, T) Ls × IsAmong r T

  -- it is the seat of the same stream, is or isn't the main one, and has split off and has out the same seats
  pub record IsSameSeat (v w : View P) : Type 0 where
    pub by : w.by ≡ v.by
    pub main : w.main ≡ v.main
    pub had : w.had ≡ v.had
    pub out : w.out ≡ v.out

  -- no lease came or went: what may be leased and cancelled for another stream may be so still
  pub record KeepsLeases (v w : View P) : Type 0 where
    pub new : (j : ℕ) → IsNewStream v j → IsNewStream w j
    pub may : (j : ℕ) (x : Exit) → v.by ≢ Inner j → MayNote v (Cancel j x) → MayNote w (Cancel j x)
    pub pairs : (j r : ℕ) → IsAmong (j, r) v.pairs → IsAmong (j, r) w.pairs
    pub only : (Ls : List (ℕ × List ℕ)) → HasNoLeaseBut v Ls → HasNoLeaseBut w Ls

  -- a lease for the stream j, which is another, came, on the rows T
  pub record AddsLease (v : View P) (j : ℕ) (T : List ℕ) (w : View P) : Type 0 where
    pub new : (i : ℕ) → i ≢ j → IsNewStream v i → IsNewStream w i
    pub may : (i : ℕ) (x : Exit) → v.by ≢ Inner i → MayNote v (Cancel i x) → MayNote w (Cancel i x)
    pub other : w.by ≢ Inner j
    pub may_it : (x : Exit) → MayNote w (Cancel j x)
    pub pairs : (i r : ℕ) → IsAmong (i, r) v.pairs → IsAmong (i, r) w.pairs
    pub only : (Ls : List (ℕ × List ℕ)) → HasNoLeaseBut v Ls → HasNoLeaseBut w ((j, T) ∷ Ls)

  -- a lease for the stream j on the rows T went
  pub record DropsLease (v : View P) (j : ℕ) (T : List ℕ) (w : View P) : Type 0 where
    pub may : (i : ℕ) (x : Exit) → i ≢ j → v.by ≢ Inner i → MayNote v (Cancel i x) → MayNote w (Cancel i x)
    pub pairs : (i r : ℕ) → i ≢ j → IsAmong (i, r) v.pairs → IsAmong (i, r) w.pairs
    pub only : (Ls : List (ℕ × List ℕ)) → HasNoLeaseBut v ((j, T) ∷ Ls) → HasNoLeaseBut w Ls
