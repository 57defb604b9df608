-- How far the main tree is between the steps of a pull of the outer stream.
use Rattle.std.proofs.Common.{◌≡◌, ℕ, suc, ◌+◌, ◌-◌, ◌<◌, ◌≤◌, List, [], ◌∷◌, ◌++◌, append-nil, filter, map, length, Option, Some, None, option_map, refl, sym, ap, ◌∙◌, subst, arith}
use Rattle.std.specs.List.{AllByRecursion}
use Rattle.std.proofs.lemmas.List.Elements.{filter-append}
use Rattle.chunk_core.specs.Lists.{IsAmong}
use Rattle.chunk_core.specs.Outcomes.{exit_of}
use Rattle.chunk_core.specs.declared.code.How.{How}
use Rattle.chunk_core.proofs.Each.{each_snoc}
use Rattle.device_port.specs.Device.{DeviceTold}
use Rattle.join_tree.specs.Given.{GivesMore, given}
use Rattle.join_tree.specs.Mains.{IsMain}
use Rattle.join_tree.specs.Notes.{is_table_note}
use Rattle.join_tree.specs.Progress.{Progress, closing_root, leasing_next, reading}
use Rattle.join_tree.specs.Steps.{TakesEvents}
use Rattle.outer_source.specs.Standing.{events_left}
use Rattle.outer_source.specs.declared.source.OuterSource.{OuterSource}
use Rattle.outer_stream.specs.Steps.{KeepsOthers}
use Rattle.pipeline_desc.specs.Meant.{PlanMeant, stream_limit}
use Rattle.pipeline_desc.specs.Places.{outer_rows, rows_of}
use Rattle.pull_stepper.specs.Held.{FinishesDevice}
use Rattle.res_ledger.specs.declared.event.What.{What}
use Rattle.res_ledger.specs.declared.event.What.TheVariants.{Lease as Lease_note}
use Rattle.row_seat.specs.Views.{IsWithin}
use Rattle.scope_tree.specs.Calls.{Seen}
use Rattle.scope_tree.specs.Trace.{owed}
use Rattle.scope_tree.specs.Visible.{lessee, rows_covered}
use Rattle.dealt_streams.specs.Parts.{AreTableRows}
use Rattle.dealt_streams.specs.Standing.{plan_parts}
use Rattle.collector.specs.declared.waiting.Waiting.{Waiting}
use Rattle.collector.specs.Starting.{ClosesOuter}
use Rattle.collector.specs.Trees.{KeepsTree, events_from, outer_left, waiting_of}
use Rattle.collector.proofs.Lists.{map_snoc, snoc_length}
use Rattle.collector.proofs.Tree.{outer_room, root_open}

-- The outer stream, which is open, has leased for so many streams, and may note so many events still beside its leases and what it owes; else the main tree is as that of a collector.
pub record TreeAt {V : Type 0} (told : V → DeviceTold) (p : PlanMeant) (waits : ℕ) (b : Seen V) (left leased : ℕ) (ws : List Waiting) (dealt : ℕ) (progress : Progress V) : Type 0 where
  pub main : IsMain (FinishesDevice told) p.max_open (stream_limit p) b progress
  pub leased_is : progress.leased ≡ leased
  pub next_is : progress.next ≡ dealt
  pub root : progress.root ≡ None
  pub waits_are : progress.waits ≡ map waiting_of ws
  pub rows : AllByRecursion (λ w. AreTableRows (outer_rows p) (rows_covered w.lease)) ws
  pub few : length ws ≤ waits
  pub some : 0 < waits → 1 ≤ length ws
  pub empty : (k r : ℕ) → dealt ≤ k → k < stream_limit p → IsWithin (rows_of p k).from (rows_of p k).to r → IsAmong r b.seat.empty
  pub splits : stream_limit p ≤ b.seat.splits + dealt
  pub spare : owed b.seat + left + (stream_limit p - leased) + events_from p dealt ≤ b.seat.spare
  pub noted : progress.tables ≡ filter is_table_note (given b.seat)

module _ {V : Type 0} (told : V → DeviceTold) (p : PlanMeant) where
  pub tree_begins : {waits : ℕ} {b : Seen V} {outer : Option How} {x : OuterSource} {ws : List Waiting} {dealt : ℕ} {progress : Progress V} → KeepsTree p told waits b outer x ws dealt progress → outer ≡ None → TreeAt told p waits b (events_left p (plan_parts p) x) x.outer.leased ws dealt progress
  tree_begins {b = b} {x = x} {dealt = dealt} kt none = record {
    main = kt.main;
    leased_is = kt.leased_is;
    next_is = kt.next_is;
    root = root_open told p kt none;
    waits_are = kt.waits_are;
    rows = kt.rows;
    few = kt.few;
    some = λ l. kt.some none l;
    empty = kt.empty;
    splits = kt.splits;
    spare = subst (λ o. owed b.seat + outer_left p o x + (stream_limit p - x.outer.leased) + events_from p dealt ≤ b.seat.spare) none kt.spare;
    noted = kt.noted none;
  }

  module _ {waits : ℕ} {b : Seen V} {left leased : ℕ} {ws : List Waiting} {dealt : ℕ} {progress : Progress V} (t : TreeAt told p waits b left leased ws dealt progress) where
    pub tree_ends : (outer : Option How) (y : OuterSource) → outer ≡ None → y.outer.leased ≡ leased → events_left p (plan_parts p) y ≤ left → KeepsTree p told waits b outer y ws dealt progress
    tree_ends outer y none same few = record {
      main = t.main;
      leased_is = t.leased_is ∙ sym same;
      next_is = t.next_is;
      root_is = t.root ∙ sym (ap (option_map exit_of) none);
      waits_are = t.waits_are;
      rows = t.rows;
      few = t.few;
      some = λ e l. t.some l;
      empty = t.empty;
      splits = t.splits;
      spare = subst (λ o. owed b.seat + outer_left p o y + (stream_limit p - y.outer.leased) + events_from p dealt ≤ b.seat.spare) (sym none) (let s = t.spare in omega (arith, s, same, few));
      noted = λ e. t.noted;
    }

    -- more was noted of tables and child scopes
    pub tree_reads : (c : Seen V) (E : List What) (again : ℕ) → IsMain (FinishesDevice told) p.max_open (stream_limit p) c (reading progress E) → {u : ℕ} → u ≤ outer_rows p → KeepsOthers u b c → progress.tables ++ E ≡ filter is_table_note (given c.seat) → b.seat.spare + owed c.seat + again ≤ c.seat.spare + owed b.seat + left
        → TreeAt told p waits c again leased ws dealt (reading progress E)
    tree_reads c E again main low keeps noted paid = record {
      main = main;
      leased_is = t.leased_is;
      next_is = t.next_is;
      root = t.root;
      waits_are = t.waits_are;
      rows = t.rows;
      few = t.few;
      some = t.some;
      empty = λ k r from below w. keeps.empty r (let f = outer_room p k (omega (arith, below)) in let g = w.0 in omega (arith, f, g, low)) (t.empty k r from below w);
      splits = let s = t.splits in let e = keeps.splits in omega (arith, s, e);
      spare = let s = t.spare in omega (arith, s, paid);
      noted = noted;
    }

    -- where all that was noted is of these, what was told of them was noted
    pub notes_on : (c : Seen V) (E : List What) → GivesMore E b c → filter is_table_note E ≡ E → progress.tables ++ E ≡ filter is_table_note (given c.seat)
    notes_on c E gives notes = ap (λ l. l ++ E) t.noted ∙ (ap (λ l. filter is_table_note (given b.seat) ++ l) (sym notes) ∙ (sym (filter-append is_table_note (given b.seat) E) ∙ sym (ap (λ l. filter is_table_note l) gives)))

    -- the next stream was leased for
    pub tree_leases : (c : Seen V) (w : Waiting) (s : ℕ) → IsMain (FinishesDevice told) p.max_open (stream_limit p) c (leasing_next progress (rows_covered w.lease)) → leased < stream_limit p → lessee w.lease ≡ leased → KeepsOthers 0 b c → GivesMore (Lease_note leased s ∷ []) b c → TakesEvents 1 b c
        → AreTableRows (outer_rows p) (rows_covered w.lease) → TreeAt told p (1 + length ws) c left (suc leased) (ws ++ w ∷ []) dealt (leasing_next progress (rows_covered w.lease))
    tree_leases c w s main less its keeps gives paid table =
        let more = snoc_length ws w in
        let is = t.leased_is in
        record {
          main = main;
          leased_is = ap suc is;
          next_is = t.next_is;
          root = t.root;
          waits_are = ap (λ xs. xs ++ (progress.leased, rows_covered w.lease) ∷ []) t.waits_are ∙ (ap (λ k. map waiting_of ws ++ (k, rows_covered w.lease) ∷ []) (is ∙ sym its) ∙ sym (map_snoc waiting_of ws w));
          rows = each_snoc (λ (x : Waiting). AreTableRows (outer_rows p) (rows_covered x.lease)) ws w t.rows table;
          few = omega (arith, more);
          some = λ l. omega (arith, more);
          empty = λ k r low high i. keeps.empty r (omega arith) (t.empty k r low high i);
          splits = let s' = t.splits in let e = keeps.splits in omega (arith, s', e);
          spare = let s' = t.spare in omega (arith, s', paid, less);
          noted = t.noted ∙ sym (ap (λ E. filter is_table_note E) gives ∙ (filter-append is_table_note (given b.seat) (Lease_note leased s ∷ []) ∙ append-nil (filter is_table_note (given b.seat))));
        }

    -- it came to its end, and its root was closed
    pub tree_closes : (y : OuterSource) (c d : Seen V) (h : How) (E : List What) → IsMain (FinishesDevice told) p.max_open (stream_limit p) c (reading progress E) → y.outer.leased ≡ leased → {u : ℕ} → u ≤ outer_rows p → KeepsOthers u b c → b.seat.spare + owed c.seat ≤ c.seat.spare + owed b.seat + left
        → ClosesOuter (FinishesDevice told) h c d → KeepsTree p told waits d (Some h) y ws dealt (closing_root (reading progress E) (exit_of h))
    tree_closes y c d h E main same low keeps paid close = record {
      main = close.main p.max_open (stream_limit p) (reading progress E) main t.root;
      leased_is = t.leased_is ∙ sym same;
      next_is = t.next_is;
      root_is = refl;
      waits_are = t.waits_are;
      rows = t.rows;
      few = t.few;
      some = λ e. cc;
      empty = λ k r from below w. close.guests.empty r (keeps.empty r (let f = outer_room p k (omega (arith, below)) in let g = w.0 in omega (arith, f, g, low)) (t.empty k r from below w));
      splits = let s = t.splits in let x = keeps.splits in let z = close.guests.splits in omega (arith, s, x, z);
      spare = let s = t.spare in let u = close.events in omega (arith, s, paid, u, same);
      noted = λ e. cc;
    }
