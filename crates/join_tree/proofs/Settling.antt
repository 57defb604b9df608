-- What the ledger of a main tree tells.
use Rattle.std.specs.Prelude.{not}
use Rattle.std.proofs.Common.{arith, ◌≡◌, ◌+◌, ◌≤◌, ◌↔◌, Bool, List, filter, length, map, inl, inr, sym, ap, ◌∙◌, subst, ⊎_elim}
use Rattle.chunk_core.specs.declared.code.Exit.{Exit}
use Rattle.chunk_core.specs.Lists.{IsAmong}
use Rattle.chunk_core.proofs.Members.{among_nil}
use Rattle.res_ledger.specs.declared.event.Event.{Event}
use Rattle.res_ledger.specs.declared.event.StreamNo.TheVariants.{Outer}
use Rattle.res_ledger.specs.declared.event.What.TheVariants.{Final}
use Rattle.res_ledger.specs.Ledger.{Notes}
use Rattle.res_ledger.specs.Own.{opens, own}
use Rattle.res_ledger.specs.Streams.{by_stream}
use Rattle.scope_tree.specs.Released.{said}
use Rattle.scope_tree.specs.Trace.{trace}
use Rattle.scope_tree.proofs.Parting.{ended_final}
use Rattle.scope_tree.proofs.Tidy.{own_by}
use Rattle.tree_laws.specs.Ends.{IsFinishedLedger}
use Rattle.tree_laws.proofs.Ends.{called_events}
use Rattle.tree_laws.proofs.Guests.{nothing_among}
use Rattle.tree_laws.proofs.Room.{called_room}
use Rattle.tree_laws.proofs.Said.{called_said}
use Rattle.tree_families.proofs.Families.{family_whole}
use Rattle.tree_families.proofs.Pacing.{family_ahead, family_begins, family_room, family_within}
use Rattle.run_rules.specs.Giving.{is_giving}
use Rattle.join_tree.specs.Laws.{MainMayFinish, MainSettles}
use Rattle.join_tree.specs.Mains.{IsRoot, Waits}
use Rattle.join_tree.specs.Progress.{Progress}
use Rattle.join_tree.specs.Notes.{GivesInPace, IsTold}
use Rattle.join_tree.proofs.Giving.{gives_same}
use Rattle.join_tree.proofs.Growing.{main_main}
use Rattle.join_tree.proofs.Pacing.{leases_cover, leases_in_order, outer_waits, rows_rise}
use Rattle.join_tree.proofs.Queue.{follow_least}
use Rattle.join_tree.proofs.Turns.{stood_in, turns_taken}
use Rattle.join_tree.proofs.Telling.{notes_more}

-- lists with the same events tell the same
pub told_same : {P : Type 0} (p : Progress P) (L M : List Event) → ((e : Event) → IsAmong e M ↔ IsAmong e L) → IsTold p L → IsTold p M
told_same p L M same t =
    let up : (e : Event) → IsAmong e L → IsAmong e M = λ e m. (same e).1 m in
    let down : (e : Event) → IsAmong e M → IsAmong e L = λ e m. (same e).0 m in
    record {
      outer = λ w n. t.outer w (notes_more down n);
      lessor = λ k j s n. t.lessor k j s (notes_more down n);
      acquired = λ r m. notes_more up (t.acquired r m);
      leases = λ j l. let x = t.leases j l in (x.0, notes_more up x.1);
      root = λ x e. notes_more up (t.root x e);
      dealt = λ j l. ⊎_elim (λ b. inl b) (λ n. inr (notes_more up n)) (t.dealt j l);
      skipped = λ j x n. t.skipped j x (notes_more down n);
      whose = λ e m. t.whose e (down e m);
      own = λ y i e k. ((λ m. (t.own y i e k).0 (down e m)), (λ m. up e ((t.own y i e k).1 m)));
      back = t.back;
    }

module _ {P : Type 0} {ends : P → Exit → Bool → P → Type 0} where
  pub main_may_finish : MainMayFinish ends
  main_may_finish width n b p h waits out rest =
      let w = subst (λ l. Waits b.seat l) waits h.waits in (
        main_main h,
        (rest.0, rest.3, nothing_among b.seat.pairs (λ x m. among_nil (w.held x.0 x.1 m).1), nothing_among b.seat.kept (λ j m. among_nil (w.kept j m).1), rest.1, rest.2),
        out,
      )

  pub main_settles : MainSettles ends
  main_settles width n b p x L h root out ledger =
      let v = b.seat in
      let closed' = subst (λ o. IsRoot b o) root h.root in
      let told : IsTold p L = told_same p v.events L ledger.whole h.told in
      let gives : GivesInPace width L = gives_same v.events L ledger.whole h.gives in
      let own_end : IsFinishedLedger b v L = record { ledger = ledger; own = λ e k. ((λ m. m), (λ m. m)) } in
      let events : by_stream v.by L ≡ by_stream v.by v.events = called_events v L h.family.start h.family.calls own_end in
      let mine : own Outer L ≡ trace v = ap (λ k. own k L) (sym h.by) ∙ (own_by v.by L ∙ (ap (map (λ (e : Event). e.what)) events ∙ sym (own_by v.by v.events))) in
      record {
        ledger = ledger;
        whole = family_whole b p.splits L h.family out closed' ledger;
        paced = record {
          ahead = family_ahead b p.splits L width h.family h.by out ledger h.paced;
          within = family_within b p.splits L width h.family h.by out ledger h.paced n;
          leases = leases_in_order p L ledger.stamped told gives;
          waits = outer_waits p L ledger.stamped told gives n;
          begins = family_begins b p.splits L width h.family h.by out ledger h.paced;
        };
        rise = rows_rise p L ledger.stamped told gives;
        covers = leases_cover p L ledger.stamped told gives ledger.legal;
        turns = turns_taken p L told;
        stood = stood_in p L told v ledger.stamped ledger.whole h.outs (λ R S e k i is by l none. family_room b p.splits L width h.family h.by out ledger h.paced R S e k i is by l (ap not none));
        told = told;
        scopes = subst (λ E. length (opens E) + 1 ≤ b.scopes) (sym mine) (called_room h.family.start h.room h.family.calls).0;
        gave = ap (filter is_giving) mine;
        names = λ e m. ⊎_elim
            (λ o. inl o)
            (λ y.
            let t = told.back y.0 y.1 in
            let l = h.older t.2.0 t.2.1 in let k = t.2.2 in
            let few = h.few in let next = follow_least p.next p.waits p.leased h.order in
            inr (t.0, omega (l, k, few, next, arith), y.2 ∙ t.1))
            (told.whose e m);
        few = h.few;
        dealt = follow_least p.next p.waits p.leased h.order;
        older = h.older;
        met = λ m i. ⊎_elim (λ o. absurd (among_nil (subst (λ l. IsAmong m.stream l) out o))) (λ y. y) (h.met m i);
        back = λ y i. record { ledger = ledger; own = λ e k. h.told.own y i e k };
        shelf = λ r m.
            let f = ended_final v (said b.shelf) (called_said h.family.start h.shelf h.family.calls) r m in
            let g : Notes v.events Outer (Final r f.1.0 f.0) = subst (λ k. Notes v.events k (Final r f.1.0 f.0)) h.by f.1.1 in
            h.told.outer (Final r f.1.0 f.0) g;
      }
