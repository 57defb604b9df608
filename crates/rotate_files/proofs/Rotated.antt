-- However a copy ends, it was a rotation until then.
use Rattle.std.proofs.Common.{◌≡◌, ℕ, suc, List, [], Option, Result, Ok, Err, ◌∙◌, subst}
use Rattle.chunk_core.specs.Lists.{IsAmong}
use Rattle.chunk_core.proofs.Members.{among_nil}
use Rattle.device_port.specs.Device.{DeviceTold}
use Rattle.device_port.specs.Depot.{DepotTold}
use Rattle.scope_tree.specs.Calls.{Seen}
use Rattle.scope_tree.specs.Rights.{HasNoLeaseBut}
use Rattle.hot_swap.specs.declared.swap.Held.{Held}
use Rattle.hot_swap.specs.Swaps.{IsUnleased}
use Rattle.rotate_rules.specs.Pieces.{most_files}
use Rattle.rotate_files.specs.declared.stop.Stop.{Stop}
use Rattle.rotate_files.specs.declared.stop.Stop.TheVariants as stop
use Rattle.rotate_files.specs.Copies.{Copies}
use Rattle.rotate_files.specs.Rotating.{IsRotating, last_piece}

module _ {V : Type 0} (told : V → DeviceTold) (old : DepotTold) (prefix : List ℕ) (n : ℕ) where
  -- it is a rotation of so many files, of which the last was written this
  abbrev pub IsRotatingSo : Seen V → Option Held → Type 0
  IsRotatingSo a h = (files : ℕ) × (given : List ℕ) × (written : List ℕ) × (faults : ℕ) × (src : V) × IsRotating told old prefix n a h files given written faults src

  pub copies_rotate : {T : Type 0} (path : List ℕ) (a : Seen V) (h : Option Held) (now : DepotTold) (files left : ℕ) (r : Result T (Stop V)) → Copies told old prefix n path a h now files left r → IsRotatingSo a h
  copies_rotate path a h now files left (Ok x) c = (files, c.0.given, last_piece n c.0.given files, 0, c.0.src, c.0.step.rotating)
  copies_rotate path a h now files left (Err stop.Unread) c = (files, c.1.given, last_piece n c.1.given files, 0, c.1.src, c.1.step.rotating)
  copies_rotate path a h now files left (Err (stop.Unopened d)) c = (c.stops.0, c.given, last_piece n c.given c.stops.0, 0, c.src, c.stops.1.rotating)
  copies_rotate path a h now files left (Err stop.Unwritten) c = (suc c.stops.0, c.given, c.stops.1.written, 1, c.src, c.stops.1.rotating)
  copies_rotate path a h now files left (Err stop.TooMany) c = (most_files, c.given, last_piece n c.given most_files, 0, c.src, c.stops.rotating)
  copies_rotate path a h now files left (Err stop.Memory) c = (c.stops.0, c.given, last_piece n c.given c.stops.0, 0, c.src, c.stops.1.rotating)

  -- its seat has no leases and gave no other
  pub rotating_unleased : (a : Seen V) (h : Option Held) → IsRotatingSo a h → IsUnleased a.seat
  rotating_unleased a h q = (q.5.alone.pairs ∙ q.5.others.pairs, q.5.alone.out ∙ q.5.others.out)

  pub rotating_leaseless : (a : Seen V) (h : Option Held) → IsRotatingSo a h → HasNoLeaseBut a.seat []
  rotating_leaseless a h q = record {
    kept = λ j m. absurd (among_nil (subst (λ xs. IsAmong j xs) (q.5.alone.kept ∙ q.5.others.kept) m));
    pairs = λ j r m. absurd (among_nil (subst (λ xs. IsAmong (j, r) xs) (q.5.alone.pairs ∙ q.5.others.pairs) m));
  }
