-- The next part is begun.
use Rattle.std.proofs.Common.{◌≡◌, ℕ, zero, suc, ◌+◌, ◌*◌, ◌-◌, ◌<◌, ◌≤◌, List, [], ◌∷◌, ◌++◌, append_assoc, filter, length, length-drop, map, if◌then◌else◌, take, drop, Some, None, Result, Ok, Err, refl, sym, ap, ◌∙◌, subst, ⊎_elim, arith}
use Rattle.std.specs.List.{AllByRecursion, slice_get}
use Rattle.std.proofs.lemmas.List.{length-map, length-take-le}
use Rattle.std.proofs.lemmas.List.Elements.{filter-append}
use Rattle.std.proofs.lemmas.Option.{slice_get_within}
use Rattle.chunk_core.specs.declared.code.How.TheVariants as how
use Rattle.chunk_core.specs.Lists.{IsAmong}
use Rattle.chunk_core.proofs.Filters.{among_append, among_filter}
use Rattle.csv_pipes.specs.Dictionaries.{Dictionary}
use Rattle.device_port.specs.Device.{DeviceTold}
use Rattle.device_port.specs.Depot.{DepotTold}
use Rattle.join_tree.specs.Given.{GivesMore, given}
use Rattle.join_tree.specs.Mains.{IsMain}
use Rattle.join_tree.specs.Notes.{is_table_note}
use Rattle.join_tree.specs.Progress.{Progress, reading}
use Rattle.join_tree.specs.Steps.{KeepsRows}
use Rattle.outer_tables.specs.declared.not_read.NotRead.{NotRead}
use Rattle.outer_tables.specs.declared.not_read.NotRead.TheVariants as why
use Rattle.outer_tables.specs.Rows.{AcquiresRows, acquires}
use Rattle.outer_tables.proofs.Outcomes.{all_opened, few_tried}
use Rattle.pipeline_desc.specs.declared.table.TableSpec.{TableSpec}
use Rattle.res_ledger.specs.declared.event.Event.{Event}
use Rattle.res_ledger.specs.declared.event.StreamNo.{StreamNo}
use Rattle.res_ledger.specs.declared.event.What.{What}
use Rattle.res_ledger.specs.declared.event.What.TheVariants.{Acquire}
use Rattle.res_ledger.specs.Own.{own}
use Rattle.res_ledger.specs.Streams.{same_stream}
use Rattle.res_ledger.proofs.Scopes.{own_append}
use Rattle.res_ledger.proofs.Tests.{named}
use Rattle.run_rules.specs.Giving.{is_giving}
use Rattle.scope_tree.specs.Calls.{IsOpenScope, Seen}
use Rattle.scope_tree.specs.Trace.{owed, trace}
use Rattle.outer_stream.specs.declared.next.OuterPart.{OuterPart}
use Rattle.outer_stream.specs.declared.outer.Outer.{Outer}
use Rattle.outer_stream.specs.Parts.{FillsRoom, FollowParts, Gave, GaveLast, IsAmid, MayPull, beginning, children_left, closing, left_of, opening, paths_of, table_count}
use Rattle.outer_stream.specs.Parts.Gave.{begun, left}
use Rattle.outer_stream.specs.Parts.GaveLast.{within}
use Rattle.outer_stream.specs.Pulls.{BeginsPart, Ends, Goes, IsOpenAt, MayRead, ReadsPart, how_unread}
use Rattle.outer_stream.specs.Pulls.IsOverBy.{unread}
use Rattle.outer_stream.specs.Pulls.Went.{nowhere, on}
use Rattle.outer_stream.specs.Steps.{KeepsOthers, Steps, children, ends}
use Rattle.outer_stream.proofs.Follow.{IsNextPart, next_part}
use Rattle.outer_stream.proofs.Gave.{acquires_give, beginning_notes, closing_notes, gave_first, gave_leased, gave_rows, no_row}
use Rattle.outer_stream.proofs.Keeping.{acquired_keeps, acquired_rows, others_kept, others_then, rows_then}

-- what k noted alone
own_all : (k : StreamNo) (L : List Event) → AllByRecursion (λ e. e.by ≡ k) L → own k L ≡ map (λ e. e.what) L
own_all k [] h = refl
own_all k (e ∷ L) h = ap (λ b. if b then e.what ∷ own k L else own k L) (ap (λ i. same_stream i k) h.0 ∙ named k) ∙ ap (λ E. e.what ∷ E) (own_all k L h.1)

module _ {V : Type 0} (told : V → DeviceTold) where
  -- rows that were acquired are told
  pub acquired_gives : (s r : ℕ) (ds : List V) (a b : Seen V) → AcquiresRows (ends told) s r ds a b → GivesMore (acquires s r (length ds)) a b
  acquired_gives s r ds a b f =
      let mine : own a.seat.by f.events ≡ acquires s r (length ds) = own_all a.seat.by f.events f.own ∙ f.noted in
      let said : trace b.seat ≡ trace a.seat ++ acquires s r (length ds) = ap (λ (x : Seen V). trace x.seat) f.tree ∙ (own_append a.seat.by a.seat.events f.events ∙ ap (λ E. trace a.seat ++ E) mine) in
      ap (filter is_giving) said ∙ (filter-append is_giving (trace a.seat) (acquires s r (length ds)) ∙ ap (λ E. given a.seat ++ E) (acquires_give s r (length ds)))

pub span_length : (ts : List TableSpec) (p : OuterPart) → p.tables.from ≤ p.tables.to → p.tables.to ≤ length ts → length (paths_of ts p) ≡ table_count p
span_length ts p l w = let d = length-drop p.tables.from ts in length-map (take (table_count p) (drop p.tables.from ts)) (λ (t : TableSpec). t.path) ∙ length-take-le (table_count p) (drop p.tables.from ts) (omega (d, l, w, arith))

-- of the child scopes one is opened for a part that has one
pub child_taken : (parts : List OuterPart) (k : ℕ) → k < length parts → children_left parts k ≡ children k + children_left parts (suc k)
child_taken parts zero l = omega arith
child_taken parts (suc k) l = omega (l, arith)

module _ {V : Type 0} (told : V → DeviceTold) (parts : List OuterPart) (tables : List TableSpec) (n width N : ℕ) (q : Progress V) (x : Outer) (p : OuterPart) (a b : Seen V) (o : IsOpenAt told parts tables n width N q x a) (full : x.leased ≡ x.behind) (is : slice_get parts x.part ≡ Some p) (f : Steps told (closing x.scope ++ opening x.part) (children x.part) (2 * children x.part) a b) (scope : IsOpenScope b x.part) where
  next : IsNextPart parts x.part x.table x.behind (length tables) n p
  next = next_part parts x.part x.table x.behind (length tables) n p is o.amid.follow

  -- the part before was given
  before : Gave parts x.part 0 x.table x.leased x.leased (given a.seat ++ closing x.scope)
  before = left (subst (λ i. Gave parts x.part x.scope x.table i x.leased (given a.seat)) (sym full) o.amid.gave)

  taken : children_left parts x.part ≡ children x.part + children_left parts (suc x.part)
  taken = child_taken parts x.part (slice_get_within parts x.part p is)

  pub may_read : MayRead (length tables) p (record x { scope = x.part }) b
  may_read = record {
    scope = scope;
    from = next.from;
    to = next.to;
    within = next.within;
    rows = λ r l m. f.guests.empty r (o.amid.rows r l m);
    used = let u = f.room.used in let v = f.room.rows in let w = o.amid.used in omega (u, v, w, arith);
    free = let e = f.events in let h = o.may.free in let c = taken in omega (e, h, c, arith);
  }

  module _ (y : Outer) (old new : DepotTold) (c : Seen V) (result : Result (Unit {0}) NotRead) (r : ReadsPart told tables p (record x { scope = x.part }) y old new b c result) where
    abbrev count : ℕ
    count = length r.reads.tries.devices

    abbrev notes : List What
    notes = closing x.scope ++ beginning x.part p count

    few : count ≤ table_count p
    few = let s = span_length tables p (let t = next.to in let z = next.from in omega (t, z, arith)) next.within in let t = few_tried r.reads.tries.out in omega (s, t, arith)

    gives : GivesMore notes a c
    gives =
        acquired_gives told x.part p.tables.from r.reads.tries.devices b c r.reads.tries.rows
        ∙ (ap (λ L. L ++ acquires x.part p.tables.from count) f.gives
        ∙ (append_assoc (given a.seat) (closing x.scope ++ opening x.part) (acquires x.part p.tables.from count)
        ∙ ap (λ L. given a.seat ++ L) (append_assoc (closing x.scope) (opening x.part) (acquires x.part p.tables.from count))))

    -- rows are acquired upwards, and those of the root before the first lease
    first : x.part ≡ 0 → q.leased ≡ 0
    first e = let l = gave_leased o.amid.gave in let z = (gave_first o.amid.gave e).2 in let s = o.leased in omega (l, z, s, arith)

    below : (i t : ℕ) → IsAmong (Acquire i t) (q.tables ++ (closing x.scope ++ opening x.part)) → i < p.tables.from
    below i t m = ⊎_elim
        (λ h. let l = gave_rows o.amid.gave i t (among_filter is_table_note (Acquire i t) (given a.seat) (subst (λ L. IsAmong (Acquire i t) L) o.noted h)).0 in let e = next.from in omega (l, e, arith))
        (λ h. absurd (no_row x.scope x.part i t h))
        (among_append (Acquire i t) q.tables (closing x.scope ++ opening x.part) m)

    main : IsMain (ends told) width N c (reading q notes)
    main = subst (λ T. IsMain (ends told) width N c (record q { tables = T }))
        (append_assoc q.tables (closing x.scope ++ opening x.part) (acquires x.part p.tables.from count)
        ∙ ap (λ L. q.tables ++ L) (append_assoc (closing x.scope) (opening x.part) (acquires x.part p.tables.from count)))
        (r.reads.main width N (reading q (closing x.scope ++ opening x.part)) (f.main width N q o.main o.root) o.root first below)

    keeps : KeepsOthers (length tables) a c
    keeps = others_then (length tables) (length tables) a b c (omega arith) (others_kept (length tables) a b f.guests)
        (acquired_keeps (ends told) x.part p.tables.from r.reads.tries.devices b c r.reads.tries.rows (length tables) (let l = few in let t = next.to in let z = next.from in let w = next.within in omega (l, t, z, w, arith)))

    rows : KeepsRows a.seat c.seat
    rows = rows_then a b c f.rows (acquired_rows (ends told) x.part p.tables.from r.reads.tries.devices b c r.reads.tries.rows)

    -- the events that were noted, and are owed then
    spent : a.seat.spare + owed c.seat ≤ c.seat.spare + owed a.seat + 2 * children x.part + 2 * count
    spent =
        let e = f.events in
        let w = r.reads.tries.rows.owed in
        let s : c.seat.spare ≡ b.seat.spare - count = ap (λ (z : Seen V). z.seat.spare) r.reads.tries.rows.tree in
        let h = may_read.free in
        let l = few in
        let t = next.to in
        let z = next.from in
        let d = next.within in
        omega (e, w, s, h, l, t, z, d, arith)

  -- it isn't done then
  never_done : (w : NotRead) → how_unread w ≡ how.Done → ⊥
  never_done (why.Fault f) e = cc
  never_done why.Memory e = cc

  -- a table of the part wasn't read
  pub part_unread : (y : Outer) (old new : DepotTold) (c : Seen V) (w : NotRead) → ReadsPart told tables p (record x { scope = x.part }) y old new b c (Err w) → Ends told parts tables n width N q x y old new a c (how_unread w)
  part_unread y old new c w r = record {
    cause = unread w (record {
      part = p;
      is = is;
      ready = b;
      kept = f.rows;
      tries = r.reads.tries;
      noted = gives y old new c (Err w) r;
      leased = r.leased;
      now = λ e. cc;
      values = λ e. cc;
    });
    noted = notes y old new c (Err w) r;
    gives = gives y old new c (Err w) r;
    main = main y old new c (Err w) r;
    gave = subst (λ L. GaveLast parts n (how_unread w) L)
        (append_assoc (given a.seat) (closing x.scope) (beginning x.part p (length r.reads.tries.devices)) ∙ sym (gives y old new c (Err w) r))
        (within p (length r.reads.tries.devices) is next.from (few y old new c (Err w) r) before);
    leased = r.leased;
    keeps = keeps y old new c (Err w) r;
    rows = rows y old new c (Err w) r;
    room = λ e. absurd (never_done w e);
    paid =
        let e = spent y old new c (Err w) r in
        let l = few y old new c (Err w) r in
        let t = taken in
        let z = next.from in
        let u = next.to in
        let d = next.within in
        omega (e, l, t, z, u, d, arith);
  }

  module _ (old new : DepotTold) (c : Seen V) (ds : List Dictionary) (r : ReadsPart told tables p (record x { scope = x.part }) (record x { scope = x.part; part = x.part + 1; behind = p.behind; table = p.tables.to; tables = ds }) old new b c (Ok tt)) where
    -- so the outer stream stands then
    abbrev y : Outer
    y = record x { scope = x.part; part = x.part + 1; behind = p.behind; table = p.tables.to; tables = ds }

    one_more : x.part + 1 ≡ suc x.part
    one_more = omega arith

    many : length r.reads.tries.devices ≡ table_count p
    many = all_opened r.reads.tries.out ∙ span_length tables p (let t = next.to in let z = next.from in omega (t, z, arith)) next.within

    begins : BeginsPart told parts tables x y old new a c None
    begins = record {
      part = p;
      is = is;
      ready = b;
      kept = f.rows;
      tries = r.reads.tries;
      noted = gives y old new c (Ok tt) r;
      leased = refl;
      now = λ e. (refl, refl, refl, refl);
      values = λ e. r.reads.values;
    }

    gave : Gave parts (suc x.part) x.part p.tables.to p.behind x.leased (given c.seat)
    gave = subst (λ L. Gave parts (suc x.part) x.part p.tables.to p.behind x.leased L)
        (append_assoc (given a.seat) (closing x.scope) (beginning x.part p (table_count p))
        ∙ ap (λ m. given a.seat ++ (closing x.scope ++ beginning x.part p m)) (sym many) ∙ sym (gives y old new c (Ok tt) r))
        (begun p is next.from next.to (let l = next.behind in omega (l, full, arith)) before)

    amid : IsAmid parts (length tables) n y c
    amid =
        let t = r.reads.tries in
        let from = next.from in
        let to = next.to in
        let within = next.within in record {
          gave = subst (λ k. Gave parts k x.part p.tables.to p.behind x.leased (given c.seat)) (sym one_more) gave;
          follow = subst (λ k. FollowParts p.tables.to p.behind (drop k parts) (length tables) n) (sym one_more) next.rest;
          scope = t.rows.scopes.usable x.part scope;
          rows = λ i l m. (t.rows.empty i).1 (f.guests.empty i (o.amid.rows i (omega (l, to, arith)) m), λ w. let u = w.1 in absurd (omega (u, l, many, from, to, arith)));
          used = let u = t.rows.room.used in let v = t.rows.room.rows in let w = may_read.used in omega (u, v, w, many, from, to, within, arith);
          scopes =
              let u = t.rows.room.opens in
              let v = t.rows.room.scopes in
              let g = f.room.opens in
              let h = f.room.scopes in
              let w = o.amid.scopes in
              let z = taken in
              let k : children_left parts (x.part + 1) ≡ children_left parts (suc x.part) = ap (children_left parts) one_more in
              omega (u, v, g, h, w, z, k, arith);
        }

    paid : a.seat.spare + owed c.seat + left_of parts (length tables) y ≤ c.seat.spare + owed a.seat + left_of parts (length tables) x
    paid =
        let e = spent y old new c (Ok tt) r in
        let z = taken in
        let k : children_left parts (x.part + 1) ≡ children_left parts (suc x.part) = ap (children_left parts) one_more in
        let from = next.from in
        let to = next.to in
        let within = next.within in
        omega (e, z, k, many, from, to, within, arith)

    room : FillsRoom parts (length tables) n x y a c
    room =
        let t = r.reads.tries.rows.room in
        let from = next.from in
        let to = next.to in
        let within = next.within in record {
          used = let u = t.used in let v = f.room.used in omega (u, v, many, from, to, within, arith);
          opens =
              let u = t.opens in
              let v = f.room.opens in
              let z = taken in
              let k : children_left parts (x.part + 1) ≡ children_left parts (suc x.part) = ap (children_left parts) one_more in
              omega (u, v, z, k, arith);
          rows = t.rows ∙ f.room.rows;
          scopes = t.scopes ∙ f.room.scopes;
        }

    may : MayPull parts (length tables) n y c
    may = record {
      free = let e = paid in let h = o.may.free in omega (e, h, arith);
      leases = λ less. let e = paid in let h = o.may.leases less in omega (e, h, arith);
    }

    noted : q.tables ++ notes y old new c (Ok tt) r ≡ filter is_table_note (given c.seat)
    noted =
        let E = beginning x.part p (length r.reads.tries.devices) in
        let plain : filter is_table_note (closing x.scope ++ E) ≡ closing x.scope ++ E = filter-append is_table_note (closing x.scope) E ∙ (ap (λ L. L ++ filter is_table_note E) (closing_notes x.scope) ∙ ap (λ L. closing x.scope ++ L) (beginning_notes x.part p (length r.reads.tries.devices))) in
        ap (λ L. L ++ (closing x.scope ++ E)) o.noted ∙ sym (ap (filter is_table_note) (gives y old new c (Ok tt) r) ∙ (filter-append is_table_note (given a.seat) (closing x.scope ++ E) ∙ ap (λ L. filter is_table_note (given a.seat) ++ L) plain))

    pub part_begun : Goes told parts tables n width N q x y old new a c
    part_begun = record {
      went = on nowhere begins;
      noted = notes y old new c (Ok tt) r;
      gives = gives y old new c (Ok tt) r;
      now = record {
        main = main y old new c (Ok tt) r;
        root = o.root;
        leased = o.leased;
        noted = noted;
        narrow = subst (λ l. length l + length q.waits ≤ width) (sym (keeps y old new c (Ok tt) r).out) o.narrow;
        few = o.few;
        small = o.small;
        amid = amid;
        may = may;
      };
      leased = refl;
      keeps = keeps y old new c (Ok tt) r;
      rows = rows y old new c (Ok tt) r;
      room = room;
      paid = paid;
    }
