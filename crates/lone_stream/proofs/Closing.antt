-- What a tree closed that stayed alone, and what its ledger tells.
use Rattle.std.proofs.Common.{◌≡◌, ℕ, ◌≤◌, List, [], length, None, sym, ◌∙◌, ap, subst, append-nil, arith}
use Rattle.chunk_core.specs.Lists.{IsAmong}
use Rattle.chunk_core.specs.Lists.IsAmong.{here}
use Rattle.chunk_core.proofs.Members.{among_nil, among_mid}
use Rattle.chunk_core.specs.Outcomes.{exit_of}
use Rattle.chunk_core.specs.declared.code.Exit.{Exit}
use Rattle.chunk_core.specs.declared.code.How.{How}
use Rattle.res_ledger.specs.declared.event.StreamNo.{StreamNo}
use Rattle.res_ledger.specs.declared.event.What.TheVariants.{Acquire, Close, Final}
use Rattle.res_ledger.specs.declared.event.Event.{Event}
use Rattle.res_ledger.specs.Ledger.{Notes, IsClosed}
use Rattle.res_ledger.specs.Order.{firsts}
use Rattle.res_ledger.specs.Own.{leased_of, opens, own}
use Rattle.res_ledger.proofs.Noted.{flat_holds, notes_own}
use Rattle.device_port.specs.Device.{DeviceTold}
use Rattle.row_seat.specs.declared.view.View.{View}
use Rattle.row_seat.specs.Views.{IsLedgerOf}
use Rattle.scope_tree.specs.declared.branch.Spent.{Spent}
use Rattle.scope_tree.specs.Released.{said}
use Rattle.scope_tree.specs.Trace.{trace}
use Rattle.tree_laws.specs.Shelves.{finals_of, noted_ends, shelf_ends}
use Rattle.tree_laws.specs.Whole.{IsWholeLedger}
use Rattle.run_rules.specs.Facts.{leased_stream}
use Rattle.lone_stream.specs.Account.{IsAccountOf}
use Rattle.job_runs.specs.Rows.{CoversNone}
use Rattle.chunk_core.proofs.Each.{each_among}
use Rattle.job_runs.proofs.Closing.{Part, ShelfTells, lease_none, not_leased, part, shelf_has}

module _ {P : Type 0} where
  -- What a tree that stayed alone tells, whose ledger is that of its own seat.
  module _ {who : StreamNo} (v : View P) (L : List Event) (shelf : List (Spent P)) (count scopes : ℕ) (w : ℕ → DeviceTold) (how : How) (name : v.by ≡ who) (ledger : IsLedgerOf v L) (whole : IsWholeLedger L) (opened : length (opens (own who L)) ≤ scopes)
      (alone : (e : Event) → IsAmong e v.events → (e.by ≡ v.by) × (leased_of e.what ≡ [])) (finals : noted_ends (trace v) ≡ shelf_ends shelf) (closed : IsClosed v.events v.by 0) (exits : (x : Exit) → Notes v.events v.by (Close 0 x) → x ≡ exit_of how)
      (tells : ShelfTells 0 count w shelf) where
    -- what was acquired has ended, and only the stream itself can have ended it
    over_alone : (r s : ℕ) → Notes v.events v.by (Acquire r s) → IsAmong r (firsts (said shelf))
    over_alone r s n =
        let f = ledger.ended r (v.by, s, (n.0, (ledger.whole n.0).1 n.1, n.2, n.3)) in
        let m = (ledger.whole f.2.1.0).0 f.2.1.1 in
        let here_it : IsAmong (Final r f.2.0 f.1) (trace v) = notes_own v.events v.by (Final r f.2.0 f.1) (f.2.1.0, m, (alone f.2.1.0 m).0, f.2.1.3) in
        shelf_has shelf r f.2.0 f.1 (subst (λ l. IsAmong (r, f.2.0, f.1) l) finals (flat_holds finals_of (Final r f.2.0 f.1) (trace v) (r, f.2.0, f.1) here_it (here [])))

    uncovered_alone : CoversNone 0 count L
    uncovered_alone j r q l c =
        let m : IsAmong c.2 L = subst (λ l. IsAmong c.2 l) (sym c.4) (among_mid c.0 c.1 c.2) in
        lease_none j c.3 c.2.what c.6 (alone c.2 ((ledger.whole c.2).0 m)).1

    its_part : Part who 0 count scopes w how L
    its_part =
        part v v L shelf [] who 0 count scopes w how name ledger (λ e b. (λ m. m, λ m. m)) whole uncovered_alone opened (λ e m b. (alone e m).1) (finals ∙ ap (λ xs. shelf_ends xs) (sym (append-nil shelf))) over_alone closed exits tells (λ x m. absurd (among_nil m))

    pub account : IsAccountOf who count scopes w how L
    account = record {
      stamped = ledger.stamped;
      legal = whole.legal;
      complete = whole.complete;
      ordered = whole.order;
      own = each_among (λ (e : Event). (e.by ≡ who) × (leased_stream e.what ≡ None)) L (λ e m. let o = alone e ((ledger.whole e).0 m) in (o.0 ∙ name, not_leased e.what o.1));
      opened = its_part.opened;
      acquired = λ r s n. let a = its_part.acquired r s n in (a.1, a.2);
      each = λ r l o. let a = its_part.each r (omega arith) l o in (who, a.0, a.1);
      ended = its_part.ended;
      closed = its_part.closed;
      exits = its_part.exits;
    }
