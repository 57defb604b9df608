-- The tree of a rotation's room.
use Rattle.std.proofs.Common.{◌≡◌, ℕ, ◌<◌, ◌≤◌, [], ap, sym, subst, arith}
use Rattle.chunk_core.specs.Lists.{IsAmong}
use Rattle.res_ledger.specs.declared.event.StreamNo.TheVariants.{Inner}
use Rattle.row_seat.specs.Views.{start}
use Rattle.scope_tree.specs.Calls.{IsOpenScope, Seen, used}
use Rattle.scope_tree.specs.Trace.{owed}
use Rattle.tree_laws.proofs.Alone.{first_alone, first_at_start}
use Rattle.lone_stream.proofs.StreamRuns.{in_run}
use Rattle.rotate_files.specs.Beginning.{IsUnused}

-- over a fresh seat with room for all, nothing was done
pub unused_tree : {P : Type 0} (a : Seen P) (rows events splits : ℕ) → a.seat ≡ start (Inner 0) rows events splits → 1025 ≤ rows → 4099 ≤ events → a.shelf ≡ [] → IsOpenScope a 0 → used a ≡ 0 → owed a.seat ≡ 1 → a.scopes ≡ 1025 → a.rows ≡ 1025 → IsUnused a
unused_tree a rows events splits is enough room shelf root none owes scopes most = record {
  start = first_at_start a.seat (Inner 0) rows events splits is (omega arith);
  others = first_alone a.seat (Inner 0) rows events splits is;
  named = ap (λ v. v.by) is;
  shelf = shelf;
  root = root;
  empty = λ r l. subst (λ v. IsAmong r v.empty) (sym is) (in_run 0 rows r (omega arith) (omega arith));
  used = none;
  owed = owes;
  spare = let s = ap (λ v. v.spare) is in omega (arith, s, room);
  scopes = scopes;
  rows = most;
}
