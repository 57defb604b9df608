-- It is told anew which streams are out.
use Rattle.std.proofs.Common.{ℕ, Bool, List, inl, refl, arith}
use Rattle.chunk_core.specs.declared.code.Exit.{Exit}
use Rattle.chunk_core.specs.Lists.{IsAmong}
use Rattle.scope_tree.specs.Calls.{Seen}
use Rattle.join_tree.specs.Mains.{IsMain}
use Rattle.join_tree.specs.Progress.{Progress, telling_out}
use Rattle.join_tree.proofs.Telling.{note_stays, told_calls}
use Rattle.join_tree.proofs.Turns.{outs_told}

module _ {P : Type 0} {ends : P → Exit → Bool → P → Type 0} {width n : ℕ} where
  pub main_tells_out : (b : Seen P) (p : Progress P) (out : List ℕ) → IsMain ends width n b p → ((j : ℕ) → IsAmong j b.seat.out → IsAmong j out) → IsMain ends width n b (telling_out p out)
  main_tells_out b p out h told = record {
    family = h.family;
    shelf = h.shelf;
    room = h.room;
    by = h.by;
    apart = h.apart;
    order = h.order;
    few = h.few;
    waits = h.waits;
    lent = h.lent;
    older = h.older;
    paced = h.paced;
    root = h.root;
    told = told_calls p (telling_out p out) b.seat.events b.seat.events h.told refl refl
        (note_stays p (telling_out p out) (omega arith) (omega arith) (λ z e. e) (λ w i. i))
        (λ e m. m) (λ e m. inl m) h.told.acquired h.told.leases h.told.root h.told.dealt h.told.skipped;
    gives = h.gives;
    outs = outs_told b.seat out h.outs told;
    met = h.met;
    home = h.home;
  }
