-- When a seat may be split off, so that the finished ledger keeps the pace.
use Rattle.std.specs.Prelude.{◌≡◌, ◌⊎◌, ℕ, ◌+◌, ◌<◌, List, length}
use Rattle.chunk_core.specs.declared.code.Exit.{Exit}
use Rattle.chunk_core.specs.declared.code.Exit.TheVariants.{Succeeded}
use Rattle.chunk_core.specs.Lists.{IsAmong}
use Rattle.res_ledger.specs.declared.event.Event.{Event}
use Rattle.res_ledger.specs.declared.event.StreamNo.{StreamNo}
use Rattle.res_ledger.specs.declared.event.StreamNo.TheVariants.{Inner}
use Rattle.res_ledger.specs.declared.event.What.{What}
use Rattle.res_ledger.specs.declared.event.What.TheVariants.{Cancel, Close, Lease}
use Rattle.tree_families.specs.Families.{Split}

-- k noted w with a stamp below n
abbrev pub NotesBelow : ℕ → List Event → StreamNo → What → Type 0
NotesBelow n L k w = (e : Event) × IsAmong e L × (e.by ≡ k) × (e.what ≡ w) × (e.stamp < n)

-- when the seat of m was split off, its stream was announced, fewer than `width` seats were out, each lower stream had a seat among ms or the Cancel of its lease, and each such seat was out or its Cancel was noted
pub record IsInPace (width : ℕ) (L : List Event) (outer : StreamNo) (ms : List Split) (m : Split) : Type 0 where
  pub lease : (s : ℕ) × NotesBelow m.floor L outer (Lease m.stream s)
  pub next : ((s : ℕ) × NotesBelow m.floor L outer (Lease (m.stream + 1) s)) ⊎ NotesBelow m.floor L outer (Close 0 Succeeded)
  pub narrow : length m.out < width
  pub dealt : (i : ℕ) → i < m.stream → ((p : Split) × IsAmong p ms × (p.stream ≡ i)) ⊎ ((x : Exit) × NotesBelow m.floor L outer (Cancel i x))
  pub over : (p : Split) → IsAmong p ms → p.stream < m.stream → IsAmong p.stream m.out ⊎ ((x : Exit) × NotesBelow m.floor L (Inner p.stream) (Cancel p.stream x))
