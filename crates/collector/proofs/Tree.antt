-- How far the main tree is, call by call.
use Rattle.std.proofs.Common.{◌≡◌, ◌⊎◌, ℕ, zero, suc, ◌+◌, ◌-◌, ◌<◌, ◌≤◌, Bool, true, false, not, nat_eq, leb, ltb, cond, List, [], ◌∷◌, append-nil, filter, map, length, Option, Some, None, option_map, unwrap_or, inl, inr, refl, sym, ◌∙◌, ap, subst, arith, leb-true, ltb-true}
use Rattle.std.specs.List.{AllByRecursion, IsDistinct, range_with_len, sum_by}
use Rattle.std.specs.Prelude.{IfSome, Result, option_to_list}
use Rattle.std.proofs.lemmas.List.Sums.{sum_by-cons}
use Rattle.chunk_core.specs.Lists.{IsAmong}
use Rattle.chunk_core.specs.Outcomes.{exit_of}
use Rattle.chunk_core.specs.declared.code.Exit.TheVariants.{Succeeded}
use Rattle.chunk_core.specs.declared.code.How.{How}
use Rattle.chunk_core.specs.declared.code.How.TheVariants as how
use Rattle.chunk_core.proofs.Filters.{filter_among}
use Rattle.device_port.specs.Device.{DeviceTold}
use Rattle.join_tree.specs.Given.{GivesMore, given as given_by}
use Rattle.join_tree.specs.Guests.{IsReady}
use Rattle.join_tree.specs.Mains.{IsMain}
use Rattle.join_tree.specs.Notes.{is_table_note}
use Rattle.outer_stream.specs.declared.next.OuterPart.{OuterPart}
use Rattle.outer_stream.specs.Parts.{Gave}
use Rattle.outer_source.specs.Lists.{IsInList}
use Rattle.outer_source.specs.Standing.{HasRoomForList, IsAmidAll, IsAmidParts, IsSourceAt, MayPullAll}
use Rattle.outer_source.specs.Standing.IsAmidAll.{in_list, in_parts}
use Rattle.outer_source.specs.declared.source.OuterSource.{OuterSource}
use Rattle.outer_tables.specs.declared.not_read.NotRead.{NotRead}
use Rattle.join_tree.specs.Progress.{Follow, Progress, closing_root, skipping, splitting}
use Rattle.pipeline_desc.specs.Meant.{PlanMeant, stream_limit}
use Rattle.pipeline_desc.specs.Nodes.{events_of, stream_events}
use Rattle.pipeline_desc.specs.Places.{first_row, outer_rows, rows_of}
use Rattle.pipeline_desc.specs.Sound.{IsSoundPlan}
use Rattle.pipeline_desc.specs.declared.listing.ListSpec.{ListSpec}
use Rattle.pipeline_desc.specs.declared.stream.StreamSpec.{StreamSpec}
use Rattle.pull_stepper.specs.Held.{FinishesDevice}
use Rattle.res_ledger.specs.Own.{opens}
use Rattle.row_seat.specs.Views.{IsWithin, run, split_main, within}
use Rattle.scope_tree.specs.Calls.{KeepsScopes, Seen, TakesRoom, used}
use Rattle.scope_tree.specs.Released.{away}
use Rattle.scope_tree.specs.Trace.{owed}
use Rattle.scope_tree.specs.Visible.{lessee, rows_covered}
use Rattle.scope_tree.proofs.Lists.{away_le}
use Rattle.stream_parts.proofs.Naming.{stream_there}
use Rattle.stream_parts.proofs.PartsMade.{row_behind}
use Rattle.dealt_streams.specs.Parts.{AreTableRows}
use Rattle.dealt_streams.specs.Standing.{plan_parts}
use Rattle.collector.specs.declared.waiting.Waiting.{Waiting}
use Rattle.collector.specs.Trees.{KeepsTree, events_at, events_from, outer_left, waiting_of}
use Rattle.collector.specs.Starting.{ClosesOuter, PassesOver}
use Rattle.res_ledger.proofs.Permuted.{distinct_within}
use Rattle.collector.proofs.Lists.{map_length, run_length, run_there}

-- so many leases wait
pub follow_count : (next : ℕ) (ws : List (ℕ × List ℕ)) (leased : ℕ) → Follow next ws leased → next + length ws ≡ leased
follow_count next [] leased f = omega (arith, f)
follow_count next (w ∷ ws) leased f = let t = follow_count (suc next) ws leased f.1 in omega (arith, t)

module _ (p : PlanMeant) where
  sum_next : (k n : ℕ) → sum_by (events_at p) (range_with_len k (suc n)) ≡ events_at p k + sum_by (events_at p) (range_with_len (suc k) n)
  sum_next k n = let e : k + 1 ≡ suc k = omega arith in sum_by-cons (events_at p) k (range_with_len (k + 1) n) ∙ ap (λ i. events_at p k + sum_by (events_at p) (range_with_len i n)) e

  -- the events of a stream, and of those behind it
  pub events_next : (k : ℕ) → k < stream_limit p → events_from p k ≡ events_at p k + events_from p (suc k)
  events_next k l =
      let e : stream_limit p - k ≡ suc (stream_limit p - suc k) = omega (arith, l) in
      ap (λ n. sum_by (events_at p) (range_with_len k n)) e ∙ sum_next k (stream_limit p - suc k)

  -- a stream's own events
  pub events_are : (k : ℕ) (s : StreamSpec) → events_of p k ≡ Some (stream_events (outer_rows p) s) → events_at p k ≡ stream_events (outer_rows p) s
  events_are k s e = ap (λ o. unwrap_or o 0) e

  -- a stream's Close, its Cancel and the Finals of the outer stream's rows are among them
  pub some_events : (k : ℕ) → k < stream_limit p → 2 + outer_rows p + events_from p (suc k) ≤ events_from p k
  some_events k l =
      let s = stream_there p [] k l in
      let own = events_are k s.0 (ap (option_map (stream_events (outer_rows p))) s.1) in
      let e = events_next k l in
      omega (arith, e, own)

  -- the rows of a later stream lie behind
  pub rows_behind : (d k : ℕ) → k + d ≤ stream_limit p → first_row p k ≤ first_row p (k + d)
  rows_behind zero k l = let e : k + 0 ≡ k = omega arith in subst (λ n. first_row p k ≤ first_row p n) (sym e) (omega arith)
  rows_behind (suc d) k l =
      let s = stream_there p [] (k + d) (omega (arith, l)) in
      let r = row_behind p [] (k + d) s.0 s.1 in
      let t = rows_behind d k (omega (arith, l)) in
      let e : k + suc d ≡ k + d + 1 = omega arith in
      subst (λ n. first_row p k ≤ first_row p n) (sym e) (omega (arith, r, t))

  pub rows_apart : (k j r : ℕ) → k < j → j ≤ stream_limit p → first_row p j ≤ r → r < first_row p (k + 1) → ⊥
  rows_apart k j r l high low less =
      let d = rows_behind (j - (k + 1)) (k + 1) (omega (arith, l, high)) in
      let e : k + 1 + (j - (k + 1)) ≡ j = omega (arith, l) in
      let f = subst (λ n. first_row p (k + 1) ≤ first_row p n) e d in
      absurd (omega (arith, f, low, less))

  -- the rows of the outer stream are the first ones
  pub outer_room : (k : ℕ) → k ≤ stream_limit p → outer_rows p ≤ first_row p k
  outer_room k l =
      let b = rows_behind k 0 (omega (arith, l)) in
      let z : 0 + k ≡ k = omega arith in
      let c = subst (λ i. first_row p 0 ≤ first_row p i) z b in
      omega (arith, c)

-- an empty list has nothing
empty_so : {A : Type 0} (xs : List A) → length xs ≡ 0 → xs ≡ []
empty_so [] e = refl
empty_so (x ∷ xs) e = absurd (omega (arith, e))

-- a row that isn't within is told so
pub not_within : (from to r : ℕ) → (IsWithin from to r → ⊥) → not (within from to r) ≡ true
not_within from to r n = tests (leb from r) (ltb r to) refl refl
  where
    tests : (a b : Bool) → leb from r ≡ a → ltb r to ≡ b → not (within from to r) ≡ true
    tests true true e f = absurd (n (leb-true from r e, ltb-true r to f))
    tests true false e f = ap (λ x. not (cond x (ltb r to) false)) e ∙ ap not f
    tests false b e f = ap (λ x. not (cond x (ltb r to) false)) e

module _ {V : Type 0} where
  -- nothing more was given
  pub gives_same : (b c : Seen V) → GivesMore [] b c → given_by c.seat ≡ given_by b.seat
  gives_same b c e = e ∙ append-nil (given_by b.seat)

module _ {V : Type 0} {told : V → DeviceTold} {p : PlanMeant} {parts : List OuterPart} {x : OuterSource} {b : Seen V} where
  parts_kept : IsAmidParts told p parts x b → (c : Seen V) → GivesMore [] b c → KeepsScopes b c → TakesRoom 0 0 b c → ((r : ℕ) → r < outer_rows p → IsAmong r b.seat.empty → IsAmong r c.seat.empty) → IsAmidParts told p parts x c
  parts_kept h c gives scopes room empty = record {
    amid = record {
      gave = subst (λ E. Gave parts x.outer.part x.outer.scope x.outer.table x.outer.behind x.outer.leased E) (sym (gives_same b c gives)) h.amid.gave;
      follow = h.amid.follow;
      scope = scopes.usable x.outer.scope h.amid.scope;
      rows = λ r low high. empty r (omega (arith, high)) (h.amid.rows r low high);
      used = let a = h.amid.used in let u = room.used in let r = room.rows in omega (arith, a, u, r);
      scopes = let a = h.amid.scopes in let o = room.opens in let r = room.scopes in omega (arith, a, o, r);
    };
    unopened = h.unopened;
    room = by_list p.list refl h.room;
  }
    where
      by_list : (o : Option ListSpec) → p.list ≡ o → IfSome o (λ l. HasRoomForList told p parts x.outer b) → IfSome o (λ l. HasRoomForList told p parts x.outer c)
      by_list None e r = tt
      by_list (Some l) e r =
          let one = ap (λ (z : Option ListSpec). length p.tables + length (option_to_list z)) e in
          record {
            row = empty (length p.tables) (omega (arith, one)) r.row;
            used = let a = r.used in let u = room.used in let s = room.rows in omega (arith, a, u, s);
            scopes = let a = r.scopes in let u = room.opens in let s = room.scopes in omega (arith, a, u, s);
          }

  list_kept : {l : ListSpec} {first : V} {lines : List (List ℕ)} → IsInList told p parts l first lines x b → (c : Seen V) → GivesMore [] b c → KeepsScopes b c → c.seat.opened ≡ b.seat.opened → IsInList told p parts l first lines x c
  list_kept h c gives scopes opened = let a = h.amid in record {
    amid = record {
      now = a.now;
      held = subst (λ ys. IsAmong (length p.tables, a.now) ys) (sym opened) a.held;
      opened = a.opened;
      has = a.has;
      before = a.before;
      parts_given = a.parts_given;
      gave = gives_same b c gives ∙ a.gave;
      usable = scopes.usable (length parts) a.usable;
      part = a.part;
      scope = a.scope;
      table = a.table;
      leased = a.leased;
      few = a.few;
      good = a.good;
    };
    reader = h.reader;
    is = h.is;
    at = h.at;
  }

  -- the outer stream is amid its parts or its list still, where no scope was closed and none opened, no open row has changed, and no right to one of its rows was lost
  pub amid_kept : {openings : List (Result V NotRead)} {lines : List (List ℕ)} → IsAmidAll told p parts openings lines x b → (c : Seen V) → GivesMore [] b c → KeepsScopes b c → TakesRoom 0 0 b c → c.seat.opened ≡ b.seat.opened → ((r : ℕ) → r < outer_rows p → IsAmong r b.seat.empty → IsAmong r c.seat.empty) → IsAmidAll told p parts openings lines x c
  amid_kept (in_parts h) c gives scopes room opened empty = in_parts (parts_kept h c gives scopes room empty)
  amid_kept (in_list l first is h) c gives scopes room opened empty = in_list l first is (list_kept h c gives scopes opened)

module _ {V : Type 0} (told : V → DeviceTold) (p : PlanMeant) where
  abbrev parts : List OuterPart
  parts = plan_parts p

  abbrev T : ℕ
  T = length p.tables

  -- What is known of a tree of which a lease waits.
  module _ {waits : ℕ} {b : Seen V} {outer : Option How} {given : OuterSource} {w : Waiting} {ws : List Waiting} {dealt : ℕ} {progress : Progress V} (kt : KeepsTree p told waits b outer given (w ∷ ws) dealt progress) where
    follows : Follow progress.next (waiting_of w ∷ map waiting_of ws) progress.leased
    follows = subst (λ xs. Follow progress.next xs progress.leased) kt.waits_are kt.main.order

    -- it is the next stream's
    pub next_is : lessee w.lease ≡ dealt
    next_is = follows.0 ∙ kt.next_is

    -- which was leased for, and is one of those that there may be
    pub next_leased : dealt < given.outer.leased
    next_leased =
        let f = follow_count (suc progress.next) (map waiting_of ws) progress.leased follows.1 in
        let n = kt.next_is in
        let m = kt.leased_is in
        omega (arith, f, n, m)

    pub next_below : dealt < stream_limit p
    next_below = let l = next_leased in let n = kt.leased_is in let m = kt.main.few in omega (arith, l, n, m)

    -- it may be cancelled
    pub cancel_free : owed b.seat + 1 + away (rows_covered w.lease) b.seat.opened ≤ b.seat.spare
    cancel_free =
        let e = some_events p dealt next_below in
        let s = kt.spare in
        let few = away_le (rows_covered w.lease) b.seat.opened in
        let count = kt.rows.0.few in
        omega (arith, e, s, few, count)

    -- it was cancelled
    pub passed : (c : Seen V) (again : ℕ) → PassesOver (FinishesDevice told) (lessee w.lease) (rows_covered w.lease) b c → length ws ≤ again → (outer ≡ None → 0 < again → 1 ≤ length ws) → KeepsTree p told again c outer given ws (suc dealt) (skipping progress (map waiting_of ws))
    passed c again pass few some = record {
      main = pass.main p.max_open (stream_limit p) progress (map waiting_of ws) kt.main kt.waits_are;
      leased_is = kt.leased_is;
      next_is = ap suc kt.next_is;
      root_is = kt.root_is;
      waits_are = refl;
      rows = kt.rows.1;
      few = few;
      some = some;
      empty = λ k r low high i. pass.guests.empty r (kt.empty k r (omega (arith, low)) high i);
      splits = let s = kt.splits in let e = pass.guests.splits in omega (arith, s, e);
      spare =
          let e = some_events p dealt next_below in
          let s = kt.spare in
          let few = away_le (rows_covered w.lease) b.seat.opened in
          let count = kt.rows.0.few in
          let takes = pass.events in
          omega (arith, e, s, few, count, takes);
      noted = λ e. kt.noted e ∙ sym (ap (λ E. filter is_table_note E) (gives_same b c pass.gives));
    }

    -- its stream's seat may be split off
    pub split_rows : (r : ℕ) → IsWithin (rows_of p dealt).from (rows_of p dealt).to r → IsAmong r b.seat.empty
    split_rows r i = kt.empty dealt r (omega arith) next_below i

    pub split_room : 1 ≤ b.seat.splits
    split_room = let s = kt.splits in let l = next_below in omega (arith, s, l)

    pub split_free : (e : ℕ) → events_of p dealt ≡ Some e → (1 ≤ e) × (owed b.seat + e ≤ b.seat.spare)
    split_free e is =
        let own : events_at p dealt ≡ e = ap (λ o. unwrap_or o 0) is in
        let n = events_next p dealt next_below in
        let s = some_events p dealt next_below in
        let t = kt.spare in
        (omega (arith, own, n, s), omega (arith, own, n, t))

    -- it was split off
    pub split_so : (c : Seen V) (e : ℕ) → events_of p dealt ≡ Some e → IsMain (FinishesDevice told) p.max_open (stream_limit p) c (splitting progress b.seat (lessee w.lease) (map waiting_of ws))
        → c ≡ record b { seat = split_main b.seat (lessee w.lease) (rows_of p dealt).from (rows_of p dealt).to e } → owed c.seat ≡ owed b.seat → GivesMore [] b c → KeepsScopes b c → TakesRoom 0 0 b c
        → (again : ℕ) → length ws ≤ again → (outer ≡ None → 0 < again → 1 ≤ length ws) → KeepsTree p told again c outer given ws (suc dealt) (splitting progress b.seat (lessee w.lease) (map waiting_of ws))
    split_so c e is main made owes gives scopes room again few some = record {
      main = main;
      leased_is = kt.leased_is;
      next_is = ap suc kt.next_is;
      root_is = kt.root_is;
      waits_are = refl;
      rows = kt.rows.1;
      few = few;
      some = some;
      empty = λ k r low high i. kept r (λ j. rows_apart p dealt k r low (omega (arith, high)) i.0 j.1) (kt.empty k r (omega (arith, low)) high i);
      splits = let t = kt.splits in let x = ap (λ (y : Seen V). y.seat.splits) made in let l = next_below in omega (arith, t, x, l);
      spare =
          let own : events_at p dealt ≡ e = ap (λ o. unwrap_or o 0) is in
          let n = events_next p dealt next_below in
          let t = kt.spare in
          let f = ap (λ (y : Seen V). y.seat.spare) made in
          omega (arith, own, n, t, f, owes);
      noted = λ o. kt.noted o ∙ sym (ap (λ E. filter is_table_note E) (gives_same b c gives));
    }
      where
        kept : (r : ℕ) → (IsWithin (rows_of p dealt).from (rows_of p dealt).to r → ⊥) → IsAmong r b.seat.empty → IsAmong r c.seat.empty
        kept r out m = subst (λ (y : Seen V). IsAmong r y.seat.empty) (sym made) (filter_among (λ q. not (within (rows_of p dealt).from (rows_of p dealt).to q)) r b.seat.empty m (not_within (rows_of p dealt).from (rows_of p dealt).to r out))

    -- no right to a row of the outer stream went with it
    pub split_empty : (c : Seen V) (e : ℕ) → c ≡ record b { seat = split_main b.seat (lessee w.lease) (rows_of p dealt).from (rows_of p dealt).to e } → (r : ℕ) → r < outer_rows p → IsAmong r b.seat.empty → IsAmong r c.seat.empty
    split_empty c e made r l m =
        let f = outer_room p dealt (let n = next_below in omega (arith, n)) in
        subst (λ (y : Seen V). IsAmong r y.seat.empty) (sym made) (filter_among (λ q. not (within (rows_of p dealt).from (rows_of p dealt).to q)) r b.seat.empty m (not_within (rows_of p dealt).from (rows_of p dealt).to r (λ j. let low = j.0 in absurd (omega (arith, f, low, l)))))

    -- it may begin
    pub ready_so : (outs : ℕ) → length b.seat.out ≤ outs → outs < p.max_open → (outer ≡ None → 1 ≤ length ws) → ((h : How) → outer ≡ Some h → h ≡ how.Done) → IsReady p.max_open b progress
    ready_so outs few less ahead done = record {
      ahead = ahead_so outer kt.root_is ahead done;
      narrow = omega (arith, few, less);
    }
      where
        ahead_so : (o : Option How) → progress.root ≡ option_map exit_of o → (o ≡ None → 1 ≤ length ws) → ((h : How) → o ≡ Some h → h ≡ how.Done) → (2 ≤ length progress.waits) ⊎ (progress.root ≡ Some Succeeded)
        ahead_so None e a d = let v = ap (λ (xs : List (ℕ × List ℕ)). length xs) kt.waits_are in let n = map_length waiting_of ws in let m = a refl in inl (omega (arith, v, n, m))
        ahead_so (Some h) e a d = inr (e ∙ ap (λ x. Some (exit_of x)) (d h refl))

  module _ {waits : ℕ} {b : Seen V} {outer : Option How} {given : OuterSource} {ws : List Waiting} {dealt : ℕ} {progress : Progress V} (kt : KeepsTree p told waits b outer given ws dealt progress) where
    -- so many may wait
    pub tree_widened : (again : ℕ) → length ws ≤ again → (outer ≡ None → 0 < again → 1 ≤ length ws) → KeepsTree p told again b outer given ws dealt progress
    tree_widened again few some = record { main = kt.main; leased_is = kt.leased_is; next_is = kt.next_is; root_is = kt.root_is; waits_are = kt.waits_are; rows = kt.rows; few = few; some = some; empty = kt.empty; splits = kt.splits; spare = kt.spare; noted = kt.noted }

    -- the root is open still
    pub root_open : outer ≡ None → progress.root ≡ None
    root_open e = kt.root_is ∙ ap (option_map exit_of) e

    pub waiting_count : dealt + length ws ≡ given.outer.leased
    waiting_count =
        let f = follow_count progress.next progress.waits progress.leased kt.main.order in
        let n = kt.next_is in
        let m = kt.leased_is in
        let w = ap (λ (xs : List (ℕ × List ℕ)). length xs) kt.waits_are ∙ map_length waiting_of ws in
        omega (arith, f, n, m, w)

    -- each stream that waits was leased for
    pub waiting_below : AllByRecursion (λ w. lessee w.lease < given.outer.leased) ws
    waiting_below = below_all ws progress.next (subst (λ xs. Follow progress.next xs progress.leased) kt.waits_are kt.main.order)
      where
        below_all : (vs : List Waiting) (from : ℕ) → Follow from (map waiting_of vs) progress.leased → AllByRecursion (λ w. lessee w.lease < given.outer.leased) vs
        below_all [] from f = tt
        below_all (v ∷ vs) from f = (let n = follow_count (suc from) (map waiting_of vs) progress.leased f.1 in let e = f.0 in let is = kt.leased_is in omega (arith, n, e, is), below_all vs (suc from) f.1)

    -- the outer stream may be pulled
    pub may_pull : outer ≡ None → MayPullAll told p parts given b
    may_pull none =
        let s = subst (λ o. owed b.seat + outer_left p o given + (stream_limit p - given.outer.leased) + events_from p dealt ≤ b.seat.spare) none kt.spare in
        record {
          free = omega (arith, s);
          leases = λ l. let c = waiting_count in let e = some_events p dealt (omega (arith, c, l)) in omega (arith, e, s, l);
        }

    pub source_at : IsSoundPlan p → {openings : List (Result V NotRead)} {lines : List (List ℕ)} → IsAmidAll told p parts openings lines given b → outer ≡ None → length b.seat.out + length progress.waits ≤ p.max_open → IsSourceAt told p parts p.max_open openings lines progress given b
    source_at sound amid none narrow = record {
      sound = sound;
      some_parts = omega arith;
      main = kt.main;
      root = root_open none;
      leased = kt.leased_is;
      noted = kt.noted none;
      narrow = narrow;
      amid = amid;
      may = may_pull none;
    }

    -- the outer stream ended
    pub closed : (h : How) (c : Seen V) → outer ≡ None → ClosesOuter (FinishesDevice told) h b c → KeepsTree p told waits c (Some h) given ws dealt (closing_root progress (exit_of h))
    closed h c none close = record {
      main = close.main p.max_open (stream_limit p) progress kt.main (root_open none);
      leased_is = kt.leased_is;
      next_is = kt.next_is;
      root_is = refl;
      waits_are = kt.waits_are;
      rows = kt.rows;
      few = kt.few;
      some = λ e. cc;
      empty = λ k r low high w. close.guests.empty r (kt.empty k r low high w);
      splits = let s = kt.splits in let e = close.guests.splits in omega (arith, s, e);
      spare = let s = kt.spare in let t = close.events in omega (arith, s, t);
      noted = λ e. cc;
    }

-- the rows of a lease are rows of tables, and no more
pub table_rows : (tables most : ℕ) (rows : List ℕ) → tables ≤ most → IsDistinct nat_eq rows → ((r : ℕ) → IsAmong r rows → r < tables) → AreTableRows most rows
table_rows tables most rows few apart below = record {
  below = λ r m. let b = below r m in omega (arith, b, few);
  few = let l = distinct_within rows (run 0 tables) apart (λ r m. run_there 0 tables r (omega arith) (let b = below r m in omega (arith, b))) in let n = run_length 0 tables in omega (arith, l, n, few);
}
