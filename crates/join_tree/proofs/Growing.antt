-- What each call of a main tree keeps.
use Rattle.std.proofs.Common.{◌≡◌, ◌≢◌, ℕ, suc, ◌+◌, ◌<◌, ◌≤◌, ◌⊎◌, Bool, true, false, nat_eq, List, [], ◌∷◌, ◌++◌, length, Option, Some, None, inl, inr, refl, sym, ap, ◌∙◌, subst, ⊎_elim, arith}
use Rattle.std.specs.List.{IsDistinct}
use Rattle.chunk_core.specs.declared.code.Exit.{Exit}
use Rattle.chunk_core.specs.declared.code.Exit.TheVariants.{Canceled}
use Rattle.chunk_core.specs.Lists.{IsAmong}
use Rattle.chunk_core.specs.Lists.IsAmong.{here, there}
use Rattle.chunk_core.proofs.Distinct.{distinct_nil}
use Rattle.chunk_core.proofs.Filters.{among_append, among_right}
use Rattle.chunk_core.proofs.Members.{among_cons, among_last, among_left, among_nil, among_snoc}
use Rattle.chunk_core.proofs.Reversed.{reverse_among}
use Rattle.res_ledger.specs.declared.event.Event.{Event}
use Rattle.res_ledger.specs.declared.event.StreamNo.TheVariants.{Inner, Outer}
use Rattle.res_ledger.specs.declared.event.What.{What}
use Rattle.res_ledger.specs.declared.event.What.TheVariants.{Acquire, Cancel, Close, Final, Lease}
use Rattle.res_ledger.specs.Ledger.{IsClosed, IsLeased, IsUsable, Notes}
use Rattle.res_ledger.proofs.Ledgers.{cancel_stream}
use Rattle.row_seat.specs.declared.view.View.{View}
use Rattle.row_seat.specs.Views.{noted, start as first_view, without}
use Rattle.row_seat.proofs.Members.{among_kept, among_without}
use Rattle.scope_tree.specs.Calls.{AtStart, Cancels, ClosesScope, IsClosedScope, IsOpenScope, KeepsScopes, Leases, Seen}
use Rattle.scope_tree.specs.Trace.{canceling, closing as closing_event, leasing as leasing_event}
use Rattle.scope_tree.proofs.Follows.{Follows, is_end}
use Rattle.scope_tree.proofs.Lessee.{lease_gone, lease_others}
use Rattle.scope_tree.proofs.Use.{cancel_follows, close_follows, close_pairs}
use Rattle.tree_laws.specs.Alone.{HasNoOthers, StaysAlone}
use Rattle.tree_laws.specs.Called.{Called, MayCancel, MayLease}
use Rattle.tree_laws.specs.Called.Called.{none, cancelled, closed, leased as lease_made}
use Rattle.tree_laws.specs.Lent.{Lent}
use Rattle.tree_laws.proofs.Alone.{first_alone, first_at_start}
use Rattle.tree_laws.proofs.Along.{called_after}
use Rattle.tree_laws.proofs.Follows.{called_then}
use Rattle.tree_laws.proofs.Kept.{events_stay, leases_lent, lent_stays}
use Rattle.tree_families.specs.Families.{IsFamily, Split}
use Rattle.tree_families.proofs.Families.{family_calls}
use Rattle.tree_families.proofs.Noting.{follows_cases}
use Rattle.join_tree.specs.Mains.{IsMain, IsRoot, Waits}
use Rattle.join_tree.specs.Progress.{Follow, Progress, closing_root, leasing_next, none_done, reading, skipping, standing}
use Rattle.join_tree.specs.Notes.{GivesInPace, IsOuterNote, IsTold, RowsRise, is_table_note}
use Rattle.join_tree.specs.Turns.{KeepsOuts}
use Rattle.join_tree.proofs.Ending.{ended_own}
use Rattle.join_tree.proofs.Giving.{gives_calm, gives_leases, gives_none, gives_reads, paced_more}
use Rattle.join_tree.proofs.Queue.{follow_least, follow_other, follow_snoc, waits_less, waits_more, waits_same}
use Rattle.join_tree.proofs.Turns.{not_root, outs_calm, outs_closes, outs_leases, outs_none}
use Rattle.join_tree.proofs.Telling.{below_or, end_note, notes_more, some_is, table_note, told_calls, note_stays}

module _ {P : Type 0} where
  pub root_stays : (b c : Seen P) (o : Option Exit) → KeepsScopes b c → IsRoot b o → IsRoot c o
  root_stays b c None k r = k.usable 0 r
  root_stays b c (Some x) k r = k.closed 0 r

  -- with the same events
  pub root_same : (b c : Seen P) (o : Option Exit) → c.seat.by ≡ b.seat.by → c.seat.events ≡ b.seat.events → IsRoot b o → IsRoot c o
  root_same b c None by events r = subst (λ k. IsUsable c.seat.events k 0) (sym by) (subst (λ L. IsUsable L b.seat.by 0) (sym events) r)
  root_same b c (Some x) by events r = subst (λ k. IsClosed c.seat.events k 0) (sym by) (subst (λ L. IsClosed L b.seat.by 0) (sym events) r)

  pub follows_last : (v w : View P) (x : Event) → Follows (noted v x) w → IsAmong x w.events
  follows_last v w x f = subst (λ l. IsAmong x l) (sym f.events.1) (among_left f.events.0 (among_last v.events x))

module _ {P : Type 0} {ends : P → Exit → Bool → P → Type 0} where
  -- a family as it goes on, which began as it did
  abbrev pub onward : {b c : Seen P} {ms ns : List Split} {Ds : List (ℕ × List ℕ)} → (f : IsFamily ends b ms) → IsFamily ends c ns → Called ends b Ds c → ((j : ℕ) (T : List ℕ) → IsAmong (j, T) Ds → Lent b.seat j T) → IsFamily ends c ns
  onward {b = b} {c = c} {Ds = Ds} f g k l = record {
    first = f.first;
    start = f.start;
    alone = f.alone;
    cancelled = f.cancelled ++ Ds;
    calls = called_then f.calls k;
    lent = λ j T m. lent_stays k (⊎_elim (λ i. f.lent j T i) (λ i. l j T i) (among_append (j, T) f.cancelled Ds m));
    listed = g.listed;
    met = g.met;
  }

module _ {P : Type 0} {ends : P → Exit → Bool → P → Type 0} {width n : ℕ} where
  pub main_starts : (b : Seen P) → AtStart b.seat → HasNoOthers b.seat → b.seat.by ≡ Outer → b.shelf ≡ [] → 1 ≤ b.scopes → IsOpenScope b 0 → IsMain ends width n b (none_done P)
  main_starts b s alone by shelf room root =
      let nothing : (e : Event) → IsAmong e b.seat.events → ⊥ = λ e m. among_nil (subst (λ l. IsAmong e l) s.events m) in record {
        family = record {
          first = b;
          start = s;
          alone = alone;
          cancelled = [];
          calls = none;
          lent = λ j T m. absurd (among_nil m);
          listed = λ j m. absurd (among_nil (subst (λ l. IsAmong j l) alone.had m));
          met = λ m i. absurd (among_nil i);
        };
        shelf = shelf;
        room = room;
        by = by;
        apart = subst (IsDistinct nat_eq) (sym alone.out) distinct_nil;
        order = refl;
        few = omega arith;
        waits = record {
          kept = λ j m. absurd (among_nil (subst (λ l. IsAmong j l) alone.kept m));
          keeps = λ j T m. absurd (among_nil m);
          held = λ j r m. absurd (among_nil (subst (λ l. IsAmong (j, r) l) alone.pairs m));
          holds = λ j r T m i. absurd (among_nil m);
        };
        lent = λ j T m. absurd (among_nil m);
        older = λ m i. absurd (among_nil i);
        paced = λ m i. absurd (among_nil i);
        root = root;
        told = record {
          outer = λ w x. absurd (nothing x.0 x.1);
          lessor = λ k j s x. absurd (nothing x.0 x.1);
          acquired = λ r m. absurd (among_nil m);
          leases = λ j l. absurd (let z : j < 0 = l in omega arith);
          root = λ x e. absurd (let z : None ≡ Some x = e in cc);
          dealt = λ j l. absurd (let z : j < 0 = l in omega arith);
          skipped = λ j x m. absurd (nothing m.0 m.1);
          whose = λ e m. absurd (nothing e m);
          own = λ y m. absurd (among_nil m);
          back = λ y m. absurd (among_nil m);
        };
        gives = gives_none b.seat.events nothing;
        outs = outs_none b.seat (λ j m. among_nil (subst (λ l. IsAmong j l) alone.out m)) nothing;
        met = λ m i. absurd (among_nil i);
        home = λ y j i. absurd (among_nil i);
      }

  -- a tree over the first seat of a run
  pub main_begins : (b : Seen P) (v : View P) (events placed scopes rows : ℕ) → b ≡ record { seat = v; shelf = []; scopes = scopes; rows = rows } → v ≡ first_view Outer placed events v.splits → 1 ≤ events → 1 ≤ scopes → IsOpenScope b 0 → IsMain ends width n b (none_done P)
  main_begins b v events placed scopes rows made first some room root =
      let seat : b.seat ≡ v = ap (λ (x : Seen P). x.seat) made in
      main_starts b
      (subst AtStart (sym seat) (first_at_start v Outer placed events v.splits first some))
      (subst HasNoOthers (sym seat) (first_alone v Outer placed events v.splits first))
      (ap (λ (x : View P). x.by) (seat ∙ first))
      (ap (λ (x : Seen P). x.shelf) made)
      (subst (λ k. 1 ≤ k) (sym (ap (λ (x : Seen P). x.scopes) made)) room)
      root

  -- a call by which no seat goes out or comes in
  pub main_calls : (b c : Seen P) (p : Progress P) (ws : List (ℕ × List ℕ)) (next leased : ℕ) (E : List What) (o : Option Exit) (stood : List (ℕ × List ℕ)) (last : List ℕ) (Ds : List (ℕ × List ℕ)) → IsMain ends width n b p → Called ends b Ds c → ((j : ℕ) (T : List ℕ) → IsAmong (j, T) Ds → Lent b.seat j T) → c.seat.had ≡ b.seat.had → c.seat.out ≡ b.seat.out → Follow next ws leased → leased ≤ n → p.next ≤ next → Waits c.seat ws → ((j : ℕ) (T : List ℕ) → IsAmong (j, T) ws → Lent c.seat j T) → IsRoot c o → IsTold (record p { waits = ws; next = next; leased = leased; tables = E; root = o; ahead = stood; last = last }) c.seat.events → GivesInPace width c.seat.events → KeepsOuts p.out stood last leased c.seat → IsMain ends width n c (record p { waits = ws; next = next; leased = leased; tables = E; root = o; ahead = stood; last = last })
  main_calls b c p ws next' leased' E o stood last Ds h k lent had out order few older waits lents root told gives outs = record {
    family = onward h.family (family_calls b c p.splits Ds h.family k had out lent) k lent;
    shelf = h.shelf;
    room = h.room;
    by = (called_after k).by ∙ h.by;
    apart = subst (IsDistinct nat_eq) (sym out) h.apart;
    order = order;
    few = few;
    waits = waits;
    lent = lents;
    older = λ m i. (let l = h.older m i in omega arith);
    paced = λ m i. paced_more (events_stay k) (h.paced m i);
    root = root;
    told = told;
    gives = gives;
    outs = outs;
    met = λ m i. ⊎_elim (λ x. inl (subst (λ l. IsAmong m.stream l) (sym out) x)) (λ y. inr y) (h.met m i);
    home = λ y j i e m. h.home y j i e (subst (λ l. IsAmong j l) out m);
  }

  -- the rows that the outer stream ended are those of tables, where each that it acquired is
  main_ended : (b c : Seen P) (p : Progress P) (tables : List What) (Ds : List (ℕ × List ℕ)) → IsMain ends width n b p → Called ends b Ds c → ((j : ℕ) (T : List ℕ) → IsAmong (j, T) Ds → Lent b.seat j T) → ((r s : ℕ) → Notes c.seat.events Outer (Acquire r s) → IsAmong (Acquire r s) tables) → (r : ℕ) (x : Exit) (ok : Bool) → Notes c.seat.events Outer (Final r x ok) → (s : ℕ) × IsAmong (Acquire r s) tables
  main_ended b c p tables Ds h k lent acquired r x ok m =
      let f = h.family in
      let by : c.seat.by ≡ Outer = (called_after k).by ∙ h.by in
      let t = ended_own f.start (called_then f.calls k) (λ j T i. lent_stays k (⊎_elim (λ y. f.lent j T y) (λ y. lent j T y) (among_append (j, T) f.cancelled Ds i))) r x ok (subst (λ z. Notes c.seat.events z (Final r x ok)) (sym by) m) in
      (t.0, acquired r t.0 (subst (λ z. Notes c.seat.events z (Acquire r t.0)) by t.1))

  -- what was noted by an event that acquires nothing, and the ends that followed it, acquires nothing
  follows_acquired : (b c : Seen P) (p : Progress P) (x : Event) → IsMain ends width n b p → Follows (noted b.seat x) c.seat → ((r s : ℕ) → Acquire r s ≡ x.what → ⊥) → (r s : ℕ) → Notes c.seat.events Outer (Acquire r s) → IsAmong (Acquire r s) p.tables
  follows_acquired b c p x h f other r s m = ⊎_elim
      (λ i. h.told.outer (Acquire r s) (m.0, i, m.2, m.3))
      (λ i. ⊎_elim
      (λ e. absurd (other r s (sym m.3 ∙ ap (λ (z : Event). z.what) e)))
      (λ e. let w : false ≡ true = ap is_end (sym m.3) ∙ e.1 in cc)
      i)
      (follows_cases b.seat c.seat x f m.0 m.1)

  -- nor does it lease, where that event isn't a Lease: so the pace is kept
  follows_gives : (b c : Seen P) (p : Progress P) (x : Event) → IsMain ends width n b p → ((e : Event) → IsAmong e b.seat.events → IsAmong e c.seat.events) → Follows (noted b.seat x) c.seat → ((r s : ℕ) → Acquire r s ≡ x.what → ⊥) → ((j s : ℕ) → Lease j s ≡ x.what → ⊥) → GivesInPace width c.seat.events
  follows_gives b c p x h more f acquires leases =
      let old : (e : Event) (w : What) → IsAmong e c.seat.events → e.what ≡ w → is_end w ≡ false → (w ≡ x.what → ⊥) → IsAmong e b.seat.events = λ e w m i no other. ⊎_elim
      (λ o. o)
      (λ o. ⊎_elim
      (λ q. absurd (other (sym i ∙ ap (λ (z : Event). z.what) q)))
      (λ q. let z : false ≡ true = sym no ∙ (ap is_end (sym i) ∙ q.1) in cc)
      o)
      (follows_cases b.seat c.seat x f e m) in
      gives_calm b.seat.events c.seat.events h.gives more
      (λ e j s m w. old e (Lease j s) m w refl (leases j s))
      (λ e r s m by w. old e (Acquire r s) m w refl (acquires r s))

  -- nor does it close the root, where that event isn't such a Close: so what stood is told still
  follows_outs : (b c : Seen P) (p : Progress P) (x : Event) → IsMain ends width n b p → ((e : Event) → IsAmong e b.seat.events → IsAmong e c.seat.events) → c.seat.out ≡ b.seat.out → Follows (noted b.seat x) c.seat → ((j s : ℕ) → Lease j s ≡ x.what → ⊥) → ((y : Exit) → Close 0 y ≡ x.what → ⊥) → KeepsOuts p.out p.ahead p.last p.leased c.seat
  follows_outs b c p x h more out f leases closes =
      let old : (e : Event) (w : What) → IsAmong e c.seat.events → e.what ≡ w → is_end w ≡ false → (w ≡ x.what → ⊥) → IsAmong e b.seat.events = λ e w m i no other. ⊎_elim
      (λ o. o)
      (λ o. ⊎_elim
      (λ q. absurd (other (sym i ∙ ap (λ (z : Event). z.what) q)))
      (λ q. let z : false ≡ true = sym no ∙ (ap is_end (sym i) ∙ q.1) in cc)
      o)
      (follows_cases b.seat c.seat x f e m) in
      outs_calm b.seat c.seat h.outs (λ j m. subst (λ l. IsAmong j l) out m) more
      (λ e j s m w. old e (Lease j s) m w refl (leases j s))
      (λ e y m by w. old e (Close 0 y) m w refl (closes y))

  -- a stream that had a seat was dealt with
  pub had_older : {b : Seen P} {p : Progress P} → IsMain ends width n b p → (j : ℕ) → IsAmong j b.seat.had → j < p.next
  had_older h j m = let t = h.family.listed j m in let l = h.older t.0 t.1 in let e = t.2 in omega (l, e, arith)

  pub out_had : {b : Seen P} {p : Progress P} → IsMain ends width n b p → (j : ℕ) → IsAmong j b.seat.out → IsAmong j b.seat.had
  out_had h j m = ((called_after h.family.calls).given (λ i o. absurd (among_nil (subst (λ l. IsAmong i l) h.family.alone.out o))) j m).0

  -- a stream that is leased for is below `leased`
  pub leased_below : {b : Seen P} {p : Progress P} → IsMain ends width n b p → (j : ℕ) → IsLeased b.seat.events j → j < p.leased
  leased_below h j l =
      let x = l.2 in
      let k : l.0 ≡ Outer = h.told.lessor l.0 j l.1 x in
      h.told.outer (Lease j l.1) (x.0, x.1, x.2 ∙ k, x.3)

  pub main_main : {b : Seen P} {p : Progress P} → IsMain ends width n b p → b.seat.main ≡ true
  main_main h = (called_after h.family.calls).main ∙ h.family.alone.main

  pub not_inner : {b : Seen P} {p : Progress P} → IsMain ends width n b p → (j : ℕ) → b.seat.by ≢ Inner j
  not_inner h j e = let z : Outer ≡ Inner j = sym h.by ∙ e in cc

  -- an open scope may be leased for the next stream
  pub main_may_lease : {b : Seen P} {p : Progress P} {s : ℕ} → IsMain ends width n b p → IsOpenScope b s → MayLease b s p.leased
  main_may_lease {b = b} {p = p} h open' = record {
    main = main_main h;
    scope = open';
    other = not_inner h p.leased;
    new = λ m. (let l = had_older h p.leased m in let k = follow_least p.next p.waits p.leased h.order in omega arith);
    unleased = λ m. (let l = leased_below h p.leased m in omega arith);
  }

  -- the root is open that wasn't closed
  pub root_open : {b : Seen P} {p : Progress P} → IsMain ends width n b p → p.root ≡ None → IsOpenScope b 0
  root_open {b = b} h none' = subst (λ o. IsRoot b o) none' h.root

  pub main_leases : (b c : Seen P) (p : Progress P) (s : ℕ) (T : List ℕ) → IsMain ends width n b p → p.root ≡ None → p.leased < n → length b.seat.out + length p.waits ≤ width → IsOpenScope b s → Leases b s p.leased T c → KeepsScopes b c → IsMain ends width n c (leasing_next p T)
  main_leases b c p s T h none' less fits open' o keeps =
      let k = p.leased in
      let v = b.seat in
      let x : Event = leasing_event v k s o.stamp in
      let call : Called ends b [] c = lease_made b c s k T none (main_may_lease h open') o in
      let events : c.seat.events ≡ v.events ++ x ∷ [] = ap (λ u. u.events) o.seat in
      let more : (e : Event) → IsAmong e v.events → IsAmong e c.seat.events = events_stay call in
      let old : (e : Event) → IsAmong e c.seat.events → IsAmong e v.events ⊎ (e ≡ x) = λ e m. among_snoc v.events e x (subst (λ l. IsAmong e l) events m) in
      let now : Notes c.seat.events Outer (Lease k s) = (x, subst (λ l. IsAmong x l) (sym events) (among_last v.events x), h.by, refl) in
      main_calls b c p (p.waits ++ (k, T) ∷ []) p.next (suc k) p.tables p.root ((k, standing p) ∷ p.ahead) p.last [] h call (λ j U m. absurd (among_nil m)) (ap (λ u. u.had) o.seat) (ap (λ u. u.out) o.seat)
      (follow_snoc p.next p.waits k T h.order)
      (omega (less, arith))
      (omega arith)
      (waits_more v c.seat p.waits k T (ap (λ u. u.kept) o.seat) (ap (λ u. u.pairs) o.seat) h.waits)
      (λ j U m. ⊎_elim (λ i. lent_stays call (h.lent j U i)) (λ e. subst (λ (z : ℕ × List ℕ). Lent c.seat z.0 z.1) (sym e) (leases_lent o)) (among_snoc p.waits (j, U) (k, T) m))
      (root_stays b c p.root keeps h.root)
      (told_calls p (leasing_next p T) v.events c.seat.events h.told refl refl
      (note_stays p (leasing_next p T) (omega arith) (omega arith) (λ y e. e) (λ w i. i))
      more
      (λ e m. ⊎_elim (λ i. inl i) (λ i. inr (ap (λ (z : Event). z.by) i ∙ h.by, subst (λ (z : Event). IsOuterNote (leasing_next p T) z.what) (sym i) (let z : k < suc k = omega arith in z))) (old e m))
      (λ r m. notes_more more (h.told.acquired r m))
      (λ j l. ⊎_elim (λ i. let y = h.told.leases j i in (y.0, notes_more more y.1)) (λ e. (s, subst (λ i. Notes c.seat.events Outer (Lease i s)) (sym e) now)) (below_or j k l))
      (λ y e. notes_more more (h.told.root y e))
      (λ j l. ⊎_elim (λ i. inl i) (λ i. inr (notes_more more i)) (h.told.dealt j l))
      (λ j y m i. ⊎_elim
      (λ q. h.told.skipped j y (m.0, q, m.2, m.3) i)
      (λ q. let z : Cancel j y ≡ Lease k s = sym m.3 ∙ ap (λ (e : Event). e.what) q in cc)
      (old m.0 m.1)))
      (gives_leases b p h c s T fits o)
      (outs_leases b p h none' c s T o)

  -- the root was closed
  pub main_closes : (b c : Seen P) (p : Progress P) (x : Exit) → IsMain ends width n b p → p.root ≡ None → ClosesScope ends b 0 x c → IsClosedScope c 0 → IsMain ends width n c (closing_root p x)
  main_closes b c p x h none' o shut =
      let v = b.seat in
      let q = closing_root p x in
      let root : IsOpenScope b 0 = subst (λ i. IsRoot b i) none' h.root in
      let call : Called ends b [] c = closed b c 0 x none root o in
      let f = close_follows o in
      let y : Event = closing_event v 0 x o.stamp in
      let more : (e : Event) → IsAmong e v.events → IsAmong e c.seat.events = events_stay call in
      let old = follows_cases v c.seat y f in
      let now : Notes c.seat.events Outer (Close 0 x) = (y, follows_last v c.seat y f, h.by, refl) in
      let ended : (r : ℕ) (z : Exit) (ok : Bool) → Notes c.seat.events Outer (Final r z ok) → (s : ℕ) × IsAmong (Acquire r s) p.tables = main_ended b c p p.tables [] h call (λ j U m. absurd (among_nil m)) (follows_acquired b c p y h f (λ r s e. cc)) in
      main_calls b c p p.waits p.next p.leased p.tables (Some x) p.ahead (standing p) [] h call (λ j U m. absurd (among_nil m)) (ap (λ z. z.had) f.same) (ap (λ z. z.out) f.same)
      h.order
      h.few
      (omega arith)
      (waits_same v c.seat p.waits (ap (λ z. z.kept) f.same) (close_pairs o) h.waits)
      (λ j U m. lent_stays call (h.lent j U m))
      shut
      (told_calls p q v.events c.seat.events h.told refl refl
      (note_stays p q (omega arith) (omega arith) (λ z e. absurd (let i : None ≡ Some z = sym none' ∙ e in cc)) (λ w i. i))
      more
      (λ e m. ⊎_elim
      (λ i. inl i)
      (λ i. ⊎_elim
      (λ s. inr (ap (λ (z : Event). z.by) s ∙ h.by, subst (λ (z : Event). IsOuterNote q z.what) (sym s) refl))
      (λ s. inr (s.0 ∙ h.by, end_note q c.seat.events ended e.what s.1 (e, m, s.0 ∙ h.by, refl)))
      i)
      (old e m))
      (λ r m. notes_more more (h.told.acquired r m))
      (λ j l. let y = h.told.leases j l in (y.0, notes_more more y.1))
      (λ z e. let s : x ≡ z = some_is x z e in subst (λ i. Notes c.seat.events Outer (Close 0 i)) s now)
      (λ j l. ⊎_elim (λ i. inl i) (λ i. inr (notes_more more i)) (h.told.dealt j l))
      (λ j z m i. ⊎_elim
      (λ s. h.told.skipped j z (m.0, s, m.2, m.3) i)
      (λ s. ⊎_elim
      (λ t. let w : Cancel j z ≡ Close 0 x = sym m.3 ∙ ap (λ (e : Event). e.what) t in cc)
      (λ t. let w : false ≡ true = ap is_end (sym m.3) ∙ t.1 in cc)
      s)
      (old m.0 m.1)))
      (follows_gives b c p y h more f (λ r s e. cc) (λ j s e. cc))
      (outs_closes b p h none' c x o more)

  -- a child scope was closed
  pub main_closes_child : (b c : Seen P) (p : Progress P) (s : ℕ) (x : Exit) → IsMain ends width n b p → p.root ≡ None → IsOpenScope b (suc s) → ClosesScope ends b (suc s) x c → IsOpenScope c 0 → IsMain ends width n c (reading p (Close (suc s) x ∷ []))
  main_closes_child b c p s x h none' open' o still =
      let v = b.seat in
      let w : What = Close (suc s) x in
      let q = reading p (w ∷ []) in
      let call : Called ends b [] c = closed b c (suc s) x none open' o in
      let f = close_follows o in
      let y : Event = closing_event v (suc s) x o.stamp in
      let more : (e : Event) → IsAmong e v.events → IsAmong e c.seat.events = events_stay call in
      let old = follows_cases v c.seat y f in
      let ended : (r : ℕ) (z : Exit) (ok : Bool) → Notes c.seat.events Outer (Final r z ok) → (t : ℕ) × IsAmong (Acquire r t) (p.tables ++ w ∷ []) = main_ended b c p (p.tables ++ w ∷ []) [] h call (λ j U m. absurd (among_nil m)) (λ r t m. among_left (w ∷ []) (follows_acquired b c p y h f (λ i j e. cc) r t m)) in
      main_calls b c p p.waits p.next p.leased (p.tables ++ w ∷ []) p.root p.ahead p.last [] h call (λ j U m. absurd (among_nil m)) (ap (λ z. z.had) f.same) (ap (λ z. z.out) f.same)
      h.order
      h.few
      (omega arith)
      (waits_same v c.seat p.waits (ap (λ z. z.kept) f.same) (close_pairs o) h.waits)
      (λ j U m. lent_stays call (h.lent j U m))
      (subst (λ i. IsRoot c i) (sym none') still)
      (told_calls p q v.events c.seat.events h.told refl refl
      (note_stays p q (omega arith) (omega arith) (λ z e. e) (λ u i. among_left (w ∷ []) i))
      more
      (λ e m. ⊎_elim
      (λ i. inl i)
      (λ i. ⊎_elim
      (λ t. inr (ap (λ (z : Event). z.by) t ∙ h.by, subst (λ (z : Event). IsOuterNote q z.what) (sym t) (among_last p.tables w)))
      (λ t. inr (t.0 ∙ h.by, end_note q c.seat.events ended e.what t.1 (e, m, t.0 ∙ h.by, refl)))
      i)
      (old e m))
      (λ r m. ⊎_elim (λ i. notes_more more (h.told.acquired r i)) (λ i. absurd (⊎_elim (λ (e : Acquire r 0 ≡ w). cc) (λ z. among_nil z) (among_cons i))) (among_append (Acquire r 0) p.tables (w ∷ []) m))
      (λ j l. let z = h.told.leases j l in (z.0, notes_more more z.1))
      (λ z e. notes_more more (h.told.root z e))
      (λ j l. ⊎_elim (λ i. inl i) (λ i. inr (notes_more more i)) (h.told.dealt j l))
      (λ j z m i. ⊎_elim
      (λ t. h.told.skipped j z (m.0, t, m.2, m.3) i)
      (λ t. ⊎_elim
      (λ u. let k : Cancel j z ≡ w = sym m.3 ∙ ap (λ (e : Event). e.what) u in cc)
      (λ u. let k : false ≡ true = ap is_end (sym m.3) ∙ u.1 in cc)
      t)
      (old m.0 m.1)))
      (follows_gives b c p y h more f (λ r i e. cc) (λ j i e. cc))
      (follows_outs b c p y h more (ap (λ z. z.out) f.same) f (λ j i e. cc) (λ z e. not_root s z x e))

  -- the first lease that waits may be cancelled
  pub main_may_cancel : (b : Seen P) (p : Progress P) (us : List (ℕ × List ℕ)) (j : ℕ) (T : List ℕ) → IsMain ends width n b p → p.waits ≡ (j, T) ∷ us → MayCancel b j T
  main_may_cancel b p us j T h is =
      let w = subst (λ l. Waits b.seat l) is h.waits in record {
        kept = w.keeps j T (here us);
        ended = λ e. absurd (not_inner h j e);
        pairs = λ r m. w.holds j r T (here us) m;
      }

  -- the first lease that waits was cancelled: its stream is never begun
  pub main_cancels : (b c : Seen P) (p : Progress P) (us : List (ℕ × List ℕ)) (j : ℕ) (T : List ℕ) → IsMain ends width n b p → p.waits ≡ (j, T) ∷ us → Cancels ends b j T Canceled c → KeepsScopes b c → IsMain ends width n c (skipping p us)
  main_cancels b c p us j T h is o keeps =
      let v = b.seat in
      let q = skipping p us in
      let call : Called ends b ((j, T) ∷ []) c = cancelled b c j T Canceled none (main_may_cancel b p us j T h is) o in
      let f = cancel_follows o in
      let y : Event = canceling v j Canceled o.stamp in
      let order : Follow p.next ((j, T) ∷ us) p.leased = subst (λ l. Follow p.next l p.leased) is h.order in
      let first : j ≡ p.next = order.0 in
      let waits : Waits v ((j, T) ∷ us) = subst (λ l. Waits v l) is h.waits in
      let among : (i : ℕ) (U : List ℕ) → IsAmong (i, U) ((j, T) ∷ us) → IsAmong (i, U) p.waits = λ i U m. subst (λ l. IsAmong (i, U) l) (sym is) m in
      let kept : c.seat.kept ≡ without j v.kept = ap (λ z. z.kept) f.same in
      let more : (e : Event) → IsAmong e v.events → IsAmong e c.seat.events = events_stay call in
      let old = follows_cases v c.seat y f in
      let now : Notes c.seat.events Outer (Cancel j Canceled) = (y, follows_last v c.seat y f, h.by, refl) in
      let lent : (i : ℕ) (U : List ℕ) → IsAmong {A = ℕ × List ℕ} (i, U) ((j, T) ∷ []) → Lent v i U = λ i U m. ⊎_elim (λ e. subst (λ (z : ℕ × List ℕ). Lent v z.0 z.1) (sym e) (h.lent j T (among j T (here us)))) (λ z. absurd (among_nil z)) (among_cons m) in
      let ended : (r : ℕ) (z : Exit) (ok : Bool) → Notes c.seat.events Outer (Final r z ok) → (s : ℕ) × IsAmong (Acquire r s) p.tables = main_ended b c p p.tables ((j, T) ∷ []) h call lent (follows_acquired b c p y h f (λ r s e. cc)) in
      main_calls b c p us (suc p.next) p.leased p.tables p.root p.ahead p.last ((j, T) ∷ []) h call
      lent
      (ap (λ z. z.had) f.same) (ap (λ z. z.out) f.same)
      order.1
      h.few
      (omega arith)
      (waits_less v c.seat us j T
      (λ i m. among_without j v.kept i (subst (λ l. IsAmong i l) kept m))
      (λ i m ne. subst (λ l. IsAmong i l) (sym kept) (among_kept j v.kept i m ne))
      (λ i r m. (f.pairs (i, r) m, λ z. lease_gone r o.left.2 (reverse_among r T z.1) (subst (λ k. IsAmong (k, r) c.seat.pairs) z.0 m)))
      (λ i r m ne. lease_others (i, r) o.left.2 (λ z. ne z.0) m)
      (λ i U m. follow_other p.next us p.leased j i T U order m)
      waits)
      (λ i U m. lent_stays call (h.lent i U (among i U (there (j, T) m))))
      (root_stays b c p.root keeps h.root)
      (told_calls p q v.events c.seat.events h.told refl refl
      (note_stays p q (omega arith) (omega arith) (λ z e. e) (λ w i. i))
      more
      (λ e m. ⊎_elim
      (λ i. inl i)
      (λ i. ⊎_elim
      (λ s. inr (ap (λ (z : Event). z.by) s ∙ h.by, subst (λ (z : Event). IsOuterNote q z.what) (sym s) (refl, omega (first, arith))))
      (λ s. inr (s.0 ∙ h.by, end_note q c.seat.events ended e.what s.1 (e, m, s.0 ∙ h.by, refl)))
      i)
      (old e m))
      (λ r m. notes_more more (h.told.acquired r m))
      (λ i l. let y = h.told.leases i l in (y.0, notes_more more y.1))
      (λ z e. notes_more more (h.told.root z e))
      (λ i l. ⊎_elim
      (λ less. ⊎_elim (λ z. inl z) (λ z. inr (notes_more more z)) (h.told.dealt i less))
      (λ e. inr (subst (λ k. Notes c.seat.events Outer (Cancel k Canceled)) (first ∙ sym e) now))
      (below_or i p.next l))
      (λ i z m a. ⊎_elim
      (λ s. h.told.skipped i z (m.0, s, m.2, m.3) a)
      (λ s. ⊎_elim
      (λ t.
      let k : i ≡ j = cancel_stream i j z Canceled (sym m.3 ∙ ap (λ (e : Event). e.what) t) in
      let l = h.older a.0 a.1 in let u = a.2 in omega (k, l, u, first, arith))
      (λ t. let w : false ≡ true = ap is_end (sym m.3) ∙ t.1 in cc)
      s)
      (old m.0 m.1)))
      (follows_gives b c p y h more f (λ r s e. cc) (λ i s e. cc))
      (follows_outs b c p y h more (ap (λ z. z.out) f.same) f (λ i s e. cc) (λ z e. cc))

  -- calls for the tables
  pub main_reads : (b c : Seen P) (p : Progress P) (E : List What) → IsMain ends width n b p → p.root ≡ None → Called ends b [] c → StaysAlone b.seat c.seat → IsOpenScope c 0 → ((e : Event) → IsAmong e c.seat.events → IsAmong e b.seat.events ⊎ IsAmong e.what E) → ((w : What) → IsAmong w E → is_table_note w ≡ true) → ((r : ℕ) → IsAmong (Acquire r 0) E → Notes c.seat.events Outer (Acquire r 0)) → ((r : ℕ) → IsAmong (Acquire r 0) E → p.leased ≡ 0) → RowsRise c.seat.events → IsMain ends width n c (reading p E)
  main_reads b c p E h none' call alone open' new table acquired first rise =
      let v = b.seat in
      let q = reading p E in
      let more : (e : Event) → IsAmong e v.events → IsAmong e c.seat.events = events_stay call in
      let ended : (r : ℕ) (z : Exit) (ok : Bool) → Notes c.seat.events Outer (Final r z ok) → (s : ℕ) × IsAmong (Acquire r s) (p.tables ++ E) = main_ended b c p (p.tables ++ E) [] h call (λ j U m. absurd (among_nil m)) (λ r s m. ⊎_elim
      (λ i. among_left E (h.told.outer (Acquire r s) (m.0, i, m.2, m.3)))
      (λ i. among_right (Acquire r s) p.tables E (subst (λ w. IsAmong w E) m.3 i))
      (new m.0 m.1)) in
      main_calls b c p p.waits p.next p.leased (p.tables ++ E) p.root p.ahead p.last [] h call (λ j U m. absurd (among_nil m)) alone.had alone.out
      h.order
      h.few
      (omega arith)
      (waits_same v c.seat p.waits alone.kept alone.pairs h.waits)
      (λ j U m. lent_stays call (h.lent j U m))
      (subst (λ o. IsRoot c o) (sym none') open')
      (told_calls p q v.events c.seat.events h.told refl refl
      (note_stays p q (omega arith) (omega arith) (λ z e. e) (λ w i. among_left E i))
      more
      (λ e m. ⊎_elim
      (λ i. inl i)
      (λ i. ⊎_elim (λ o. inl o) (λ o. let by = o.0 ∙ alone.by ∙ h.by in inr (by, table_note q E c.seat.events (λ w z. among_right w p.tables E z) table ended e.what i (e, m, by, refl))) (alone.events e m))
      (new e m))
      (λ r m. ⊎_elim (λ i. notes_more more (h.told.acquired r i)) (λ i. acquired r i) (among_append (Acquire r 0) p.tables E m))
      (λ j l. let y = h.told.leases j l in (y.0, notes_more more y.1))
      (λ z e. notes_more more (h.told.root z e))
      (λ j l. ⊎_elim (λ i. inl i) (λ i. inr (notes_more more i)) (h.told.dealt j l))
      (λ j z m i. ⊎_elim
      (λ s. h.told.skipped j z (m.0, s, m.2, m.3) i)
      (λ s. let w : false ≡ true = ap is_table_note (sym m.3) ∙ table m.0.what s in cc)
      (new m.0 m.1)))
      (gives_reads p v.events c.seat.events h.told h.gives more
      (λ e j s m w. ⊎_elim (λ i. i) (λ i. let z : false ≡ true = ap is_table_note (sym w) ∙ table e.what i in cc) (new e m))
      rise
      (λ e r m w. ⊎_elim (λ i. inl i) (λ i. inr (first r (subst (λ u. IsAmong u E) w i))) (new e m)))
      (outs_calm v c.seat h.outs (λ j m. subst (λ l. IsAmong j l) alone.out m) more
      (λ e j s m w. ⊎_elim (λ i. i) (λ i. let z : false ≡ true = ap is_table_note (sym w) ∙ table e.what i in cc) (new e m))
      (λ e x m by w. ⊎_elim (λ i. i) (λ i. let z : false ≡ true = ap is_table_note (sym w) ∙ table e.what i in cc) (new e m)))
