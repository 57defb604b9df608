-- How the outer stream stands while others are at work, and as parts of it are begun.
use Rattle.std.proofs.Common.{◌≡◌, ◌⊎◌, ℕ, zero, suc, ◌+◌, ◌-◌, ◌<◌, ◌≤◌, Bool, true, List, [], ◌∷◌, ◌++◌, append_assoc, append-nil, length, Option, Some, None, IfSome, Result, inl, inr, refl, sym, ◌∙◌, ap, subst, ⊎_elim, arith, slice_get}
use Rattle.std.specs.List.{AllByRecursion}
use Rattle.chunk_core.specs.Lists.{IsAmong}
use Rattle.chunk_core.specs.Lists.IsAmong.{here, there}
use Rattle.chunk_core.specs.Outcomes.{End}
use Rattle.chunk_core.specs.declared.code.How.{How}
use Rattle.chunk_core.specs.declared.code.How.TheVariants as how
use Rattle.chunk_core.proofs.Each.{each_snoc}
use Rattle.chunk_core.proofs.Filters.{among_append, among_filter, among_right}
use Rattle.chunk_core.proofs.Members.{among_last, among_left}
use Rattle.csv_pipes.specs.Dictionaries.{Dictionary}
use Rattle.device_port.specs.Device.{DeviceTold}
use Rattle.device_port.specs.Depot.{DepotTold}
use Rattle.join_tree.specs.Given.{GivesMore, given}
use Rattle.join_tree.specs.Steps.{KeepsRows}
use Rattle.outer_stream.specs.Parts.{beginning, closing, opening, paths_of}
use Rattle.outer_stream.specs.Pulls.{BeginsPart, Went}
use Rattle.outer_stream.specs.Pulls.Went.{nowhere, on}
use Rattle.outer_stream.specs.Steps.{ends}
use Rattle.outer_stream.specs.declared.next.OuterPart.{OuterPart}
use Rattle.outer_stream.specs.declared.outer.Outer.{Outer}
use Rattle.outer_stream.proofs.Keeping.{acquired_rows, rows_then}
use Rattle.outer_tables.specs.Outcomes.{AreOf}
use Rattle.outer_tables.specs.Rows.{acquires, rows_from}
use Rattle.outer_tables.specs.declared.not_read.NotRead.{NotRead}
use Rattle.outer_tables.specs.declared.not_read.NotRead.TheVariants as why
use Rattle.pipeline_desc.specs.Meant.{PlanMeant}
use Rattle.pipeline_desc.specs.declared.listing.ListSpec.{ListSpec}
use Rattle.pipeline_desc.specs.declared.table.TableSpec.{TableSpec}
use Rattle.res_ledger.specs.Ledger.{Notes}
use Rattle.res_ledger.specs.declared.event.StreamNo.TheVariants.{Outer as outer_name}
use Rattle.res_ledger.specs.declared.event.What.{What}
use Rattle.res_ledger.specs.declared.event.What.TheVariants.{Acquire}
use Rattle.res_ledger.proofs.Mapped.{map_among}
use Rattle.res_ledger.proofs.Noted.{own_notes}
use Rattle.row_seat.specs.declared.view.View.{View}
use Rattle.row_seat.specs.Views.{run}
use Rattle.run_rules.specs.Facts.{at}
use Rattle.run_rules.specs.Giving.{is_giving}
use Rattle.scope_tree.specs.Calls.{Seen}
use Rattle.scope_tree.specs.Trace.{trace}
use Rattle.dealt_streams.specs.Moves.{AreMoved, Move, Tried, Tries, contents_in, lines_of, opened_of, tried_of}
use Rattle.dealt_streams.specs.Moves.Move.{Dealt}
use Rattle.dealt_streams.specs.Parts.{Part}
use Rattle.dealt_streams.specs.Standing.{ArePartsTried, EndsRead, HasRows, IsListRow, IsOfPart, IsStoppedBy, IsTableRow, StandsBy, StandsList, StandsOuter, list_end, plan_parts}
use Rattle.dealt_streams.specs.Standing.ArePartsTried.{none, read, unread}
use Rattle.dealt_streams.specs.Standing.StandsList.{failed, held, lacking, unopened}
use Rattle.collector.proofs.Gaving.{begun_rows, closed_rows}
use Rattle.collector.proofs.Lists.{run_there, snoc_length}
use Rattle.collector.proofs.Moving.{contents_snoc, lines_dealt, moved_reads, opened_dealt, reads, tried_dealt}
use Rattle.collector.proofs.Tree.{gives_same}

-- a payload stays in its row, or is left in it
pub pays_kept : {V : Type 0} (v w : View V) → KeepsRows v w → (y : ℕ × V) → IsAmong y v.opened ⊎ IsAmong y v.left → IsAmong y w.opened ⊎ IsAmong y w.left
pays_kept v w k y m = ⊎_elim (λ o. k.opened y o) (λ i. inr (k.left y i)) m

stopped_still : (w : NotRead) (m n : Bool) (h : How) → (m ≡ true → n ≡ true) → IsStoppedBy w m h → IsStoppedBy w n h
stopped_still (why.Fault f) m n h more s = s
stopped_still why.Memory m n h more s = (s.0, more s.1)

pub none_some : {A X : Type 0} (x : A) → None ≡ Some x → X
none_some x e = absurd cc

module _ {V : Type 0} (a b : Seen V) (rows : KeepsRows a.seat b.seat) where
  pub rows_kept : (xs : List (Tried V)) → AllByRecursion (HasRows a) xs → AllByRecursion (HasRows b) xs
  rows_kept [] h = tt
  rows_kept (x ∷ xs) h = (
    record {
      noted = λ i l. let n = h.0.noted i l in let e = n.1 in (n.0, (e.0, rows.noted e.0 e.1, e.2, e.3));
      pays = λ i d e. pays_kept a.seat b.seat rows (x.row + i, d) (h.0.pays i d e);
    },
    rows_kept xs h.1,
  )

module _ {V : Type 0} (told : V → DeviceTold) (p : PlanMeant) where
  list_kept : (l : ListSpec) (openings : List (Result V NotRead)) (lines : List (List ℕ)) (e : End) (a b : Seen V) → KeepsRows a.seat b.seat → StandsList p told l openings lines e a → StandsList p told l openings lines e b
  list_kept l openings lines e a b rows (unopened o n c) = unopened o n c
  list_kept l openings lines e a b rows (failed f o n c) = failed f o n c
  list_kept l openings lines e a b rows (lacking o n c) = lacking o n c
  list_kept l openings lines e a b rows (held first now faults o pay was fault listing time note at) = held first now faults o (pays_kept a.seat b.seat rows (length p.tables, now) pay) was fault listing time (let e = note.1 in (note.0, (e.0, rows.noted e.0 e.1, e.2, e.3))) at

  pub some_kept : (o : Option ListSpec) (openings : List (Result V NotRead)) (lines : List (List ℕ)) (e : End) (a b : Seen V) → KeepsRows a.seat b.seat → IfSome o (λ l. StandsList p told l openings lines e a) → IfSome o (λ l. StandsList p told l openings lines e b)
  some_kept None openings lines e a b rows h = tt
  some_kept (Some l) openings lines e a b rows h = list_kept l openings lines e a b rows h

  module _ {tables : List (Tried V)} {openings : List (Result V NotRead)} {lines : List (List ℕ)} {begun leased : ℕ} {dicts : List Dictionary} where
    -- it stands on while no event and no payload is lost, and nothing more is given
    pub stands_on : {over : Option How} {m : Bool} {a : Seen V} → StandsBy p told tables openings lines begun leased dicts over m a → (b : Seen V) (n : Bool) → (m ≡ true → n ≡ true) → KeepsRows a.seat b.seat → GivesMore [] a b → StandsBy p told tables openings lines begun leased dicts over n b
    stands_on {over = over} {m = m} {a = a} s b n more rows gives =
        let same = gives_same a b gives in
        record {
          lack = s.lack;
          tried = s.tried;
          rows = rows_kept a b rows tables s.rows;
          read = s.read;
          unread = λ w e. let u = s.unread w e in let h = u.1 in (u.0, (h.0, h.1, stopped_still w m n h.0 more h.2));
          turns = s.turns;
          ahead = s.ahead;
          behind = s.behind;
          lines_are = s.lines_are;
          noted = let r = s.noted in (r.0, ap (λ E. E ++ r.0) same ∙ r.1);
          acquired = λ r c i. s.acquired r c (subst (λ E. IsAmong (Acquire r c) E) same i);
          list = some_kept p.list openings lines (list_end p s.lack over) a b rows s.list;
          ended = λ e. subst (λ E. IfSome over (EndsRead p lines E)) (sym same) (s.ended e);
          nobody = s.nobody;
        }

    -- while it is open all tables were read that were tried
    pub open_read : {m : Bool} {a : Seen V} (s : StandsBy p told tables openings lines begun leased dicts None m a) → s.lack ≡ None
    open_read s = by_lack s.lack refl
      where
        by_lack : (o : Option NotRead) → s.lack ≡ o → o ≡ None
        by_lack None e = refl
        by_lack (Some w) e = let h = (s.unread w e).1 in none_some h.0 h.1

    -- where frames are wanted it is halted
    pub stands_halted : {m : Bool} {a : Seen V} → StandsBy p told tables openings lines begun leased dicts None m a → StandsBy p told tables openings lines begun leased dicts (Some how.Halted) m a
    stands_halted {a = a} s =
        let open' = open_read s in
        record {
          lack = s.lack;
          tried = s.tried;
          rows = s.rows;
          read = s.read;
          unread = λ w e. none_some w (sym open' ∙ e);
          turns = s.turns;
          ahead = s.ahead;
          behind = s.behind;
          lines_are = s.lines_are;
          noted = s.noted;
          acquired = s.acquired;
          list = subst (λ e. IfSome p.list (λ l. StandsList p told l openings lines e a)) (ap (λ o. list_end p o None) open' ∙ sym (ap (λ o. list_end p o (Some how.Halted)) open')) s.list;
          ended = λ e. tt;
          nobody = λ w. none_some how.Halted (s.nobody w).2;
        }

  -- it stands so by a stream more that was dealt with
  pub stands_dealt : {F : Type 0} (moves : List (Move V F)) {begun leased : ℕ} {dicts : List Dictionary} {over : Option How} {m : Bool} {b : Seen V} → StandsOuter p told moves begun leased dicts over m b → (x : Part V F) → StandsOuter p told (moves ++ Dealt x ∷ []) begun leased dicts over m b
  stands_dealt moves {begun = begun} {leased = leased} {dicts = dicts} {over = over} {m = m} {b = b} s x =
      subst (λ t. StandsBy p told t (opened_of (moves ++ Dealt x ∷ [])) (lines_of (moves ++ Dealt x ∷ [])) begun leased dicts over m b) (sym (tried_dealt moves x))
      (subst (λ o. StandsBy p told (tried_of moves) o (lines_of (moves ++ Dealt x ∷ [])) begun leased dicts over m b) (sym (opened_dealt moves x))
      (subst (λ l. StandsBy p told (tried_of moves) (opened_of moves) l begun leased dicts over m b) (sym (lines_dealt moves x)) s))

-- The tables of one part more.

module _ {V : Type 0} (tables : List TableSpec) where
  tried_further : {parts : List OuterPart} {xs : List (Tried V)} {o : Option NotRead} → ArePartsTried tables parts xs o → o ≡ None → (part : OuterPart) (x : Tried V) → slice_get parts (length xs) ≡ Some part → IsOfPart tables part x → ArePartsTried tables parts (xs ++ x ∷ []) x.lack
  tried_further {parts = parts} (none) open' part x is own = first parts is
    where
      by_lack : (q : OuterPart) (qs : List OuterPart) → q ≡ part → (o : Option NotRead) → x.lack ≡ o → ArePartsTried tables (q ∷ qs) (x ∷ []) o
      by_lack q qs same None e = read q x (subst (λ y. IsOfPart tables y x) (sym same) own) e none
      by_lack q qs same (Some w) e = unread q x w (subst (λ y. IsOfPart tables y x) (sym same) own) e

      first : (qs : List OuterPart) → slice_get qs 0 ≡ Some part → ArePartsTried tables qs (x ∷ []) x.lack
      first [] e = absurd cc
      first (q ∷ qs) e = by_lack q qs (let same : q ≡ part = cc in same) x.lack refl
  tried_further (read q y mine all rest) open' part x is own = read q y mine all (tried_further rest open' part x is own)
  tried_further (unread q y w mine lack) open' part x is own = none_some w (sym open')

-- what was tried so far, of which all was read: each device that was opened is in its row, and those alone were acquired
pub record HasRead {V : Type 0} (p : PlanMeant) (openings : List (Result V NotRead)) (xs : List (Tried V)) (begun : ℕ) (dicts : List Dictionary) (b : Seen V) : Type 0 where
  pub tried : ArePartsTried p.tables (plan_parts p) xs None
  pub count : length xs ≡ begun
  pub dicts_are : AreOf dicts (contents_in xs)
  pub given_so : AllByRecursion (λ x. (i : ℕ) → i < length x.devices → (s : ℕ) × IsAmong (Acquire (x.row + i) s) (given b.seat)) xs
  pub pays : AllByRecursion (λ x. (i : ℕ) (d : V) → at x.devices i ≡ Some d → IsAmong (x.row + i, d) b.seat.opened ⊎ IsAmong (x.row + i, d) b.seat.left) xs
  pub acquired : (r s : ℕ) → IsAmong (Acquire r s) (given b.seat) → IsTableRow xs r ⊎ IsListRow (length p.tables) openings r

-- so they are told
pub parts_told : {V : Type 0} (b : Seen V) (xs : List (Tried V)) → b.seat.by ≡ outer_name → AllByRecursion (λ x. (i : ℕ) → i < length x.devices → (s : ℕ) × IsAmong (Acquire (x.row + i) s) (given b.seat)) xs
    → AllByRecursion (λ x. (i : ℕ) (d : V) → at x.devices i ≡ Some d → IsAmong (x.row + i, d) b.seat.opened ⊎ IsAmong (x.row + i, d) b.seat.left) xs → AllByRecursion (HasRows b) xs
parts_told {V = V} b xs by given_so pays = each xs given_so pays
  where
    each : (ys : List (Tried V)) → AllByRecursion (λ x. (i : ℕ) → i < length x.devices → (s : ℕ) × IsAmong (Acquire (x.row + i) s) (given b.seat)) ys
        → AllByRecursion (λ x. (i : ℕ) (d : V) → at x.devices i ≡ Some d → IsAmong (x.row + i, d) b.seat.opened ⊎ IsAmong (x.row + i, d) b.seat.left) ys → AllByRecursion (HasRows b) ys
    each [] g q = tt
    each (y ∷ ys) g q = (
      record {
        noted = λ i l.
            let n = g.0 i l in
            let t = (among_filter is_giving (Acquire (y.row + i) n.0) (trace b.seat) n.1).0 in
            (n.0, subst (λ k. Notes b.seat.events k (Acquire (y.row + i) n.0)) by (own_notes b.seat.events b.seat.by (Acquire (y.row + i) n.0) t));
        pays = q.0;
      },
      each ys g.1 q.1,
    )

-- a row is acquired with each device
acquires_there : (s r n i : ℕ) → i < n → IsAmong (Acquire (r + i) s) (acquires s r n)
acquires_there s r n i l = map_among (λ q. Acquire q s) (r + i) (run r n) (run_there r n (r + i) (omega arith) (omega (arith, l)))

payload_there : {V : Type 0} (r : ℕ) (ds : List V) (i : ℕ) (d : V) → at ds i ≡ Some d → IsAmong (r + i, d) (rows_from r ds)
payload_there r [] i d e = absurd cc
payload_there r (x ∷ ds) zero d e = let z : r + 0 ≡ r = omega arith in let same : x ≡ d = cc in subst (λ q. IsAmong (q, d) ((r, x) ∷ rows_from (suc r) ds)) (sym z) (subst (λ y. IsAmong (r, d) ((r, y) ∷ rows_from (suc r) ds)) (sym same) (here (rows_from (suc r) ds)))
payload_there r (x ∷ ds) (suc i) d e = let z : suc r + i ≡ r + suc i = omega arith in there (r, x) (subst (λ q. IsAmong (q, d) (rows_from (suc r) ds)) z (payload_there (suc r) ds i d e))

row_more : {V : Type 0} {xs : List (Tried V)} (x : Tried V) (r : ℕ) → IsTableRow xs r → IsTableRow (xs ++ x ∷ []) r
row_more x r (y, m, i) = (y, among_left (x ∷ []) m, i)

-- parts were begun one after another
pub record ReadOn {V F : Type 0} (told : V → DeviceTold) (p : PlanMeant) (openings : List (Result V NotRead)) (before : List (Move V F)) (xs : List (Tried V)) (y : Outer) (old new : DepotTold) (b : Seen V) : Type 0 where
  pub more : List (Tried V)
  pub moved : AreMoved told p before old (reads more) new
  pub has : HasRead p openings (xs ++ more) y.part y.tables b

module _ {V : Type 0} (told : V → DeviceTold) (p : PlanMeant) {openings : List (Result V NotRead)} where
  pub tables_told : {xs : List (Tried V)} {begun : ℕ} {dicts : List Dictionary} {b : Seen V} → HasRead p openings xs begun dicts b → b.seat.by ≡ outer_name → AllByRecursion (HasRows b) xs
  tables_told {xs = xs} {b = b} h by = parts_told b xs by h.given_so h.pays

  -- and stays so, where no row more was acquired
  pub has_kept : {xs : List (Tried V)} {begun : ℕ} {dicts : List Dictionary} (a b : Seen V) → KeepsRows a.seat b.seat → (E : List What) → GivesMore E a b → ((r s : ℕ) → IsAmong (Acquire r s) E → ⊥) → HasRead p openings xs begun dicts a → HasRead p openings xs begun dicts b
  has_kept {xs = xs} a b rows E gives free h = record {
    tried = h.tried;
    count = h.count;
    dicts_are = h.dicts_are;
    given_so = older xs h.given_so;
    pays = paid xs h.pays;
    acquired = λ r s m. ⊎_elim (λ i. h.acquired r s i) (λ i. absurd (free r s i)) (among_append (Acquire r s) (given a.seat) E (subst (λ l. IsAmong (Acquire r s) l) gives m));
  }
    where
      older : (zs : List (Tried V)) → AllByRecursion (λ z. (i : ℕ) → i < length z.devices → (s : ℕ) × IsAmong (Acquire (z.row + i) s) (given a.seat)) zs → AllByRecursion (λ z. (i : ℕ) → i < length z.devices → (s : ℕ) × IsAmong (Acquire (z.row + i) s) (given b.seat)) zs
      older [] q = tt
      older (z ∷ zs) q = (λ i l. let n = q.0 i l in (n.0, subst (λ l. IsAmong (Acquire (z.row + i) n.0) l) (sym gives) (among_left E n.1)), older zs q.1)

      paid : (zs : List (Tried V)) → AllByRecursion (λ z. (i : ℕ) (d : V) → at z.devices i ≡ Some d → IsAmong (z.row + i, d) a.seat.opened ⊎ IsAmong (z.row + i, d) a.seat.left) zs → AllByRecursion (λ z. (i : ℕ) (d : V) → at z.devices i ≡ Some d → IsAmong (z.row + i, d) b.seat.opened ⊎ IsAmong (z.row + i, d) b.seat.left) zs
      paid [] q = tt
      paid (z ∷ zs) q = (λ i d e. pays_kept a.seat b.seat rows (z.row + i, d) (q.0 i d e), paid zs q.1)

  -- the tables of the next part were tried, so far that they came out so
  module _ {xs : List (Tried V)} {dicts : List Dictionary} {x y : Outer} {old new : DepotTold} {a b : Seen V} {o : Option NotRead} (h : HasRead p openings xs x.part dicts a) (g : BeginsPart told (plan_parts p) p.tables x y old new a b o) where
    abbrev pub tried_part : Tried V
    tried_part = record { row = g.part.tables.from; paths = paths_of p.tables g.part; devices = g.tries.devices; back = g.tries.back; contents = g.tries.contents; lack = o }

    pub tries_part : Tries told old new tried_part
    tries_part = record { out = g.tries.out; made = g.tries.made; unknown = g.tries.unknown }

    pub part_tried : ArePartsTried p.tables (plan_parts p) (xs ++ tried_part ∷ []) o
    part_tried = tried_further p.tables h.tried refl g.part tried_part (ap (λ n. slice_get (plan_parts p) n) h.count ∙ g.is) (record { row = refl; paths = refl })

    kept_rows : KeepsRows a.seat b.seat
    kept_rows = rows_then a g.ready b g.kept (acquired_rows (ends told) x.part g.part.tables.from g.tries.devices g.ready b g.tries.rows)

    abbrev more : List What
    more = closing x.scope ++ beginning x.part g.part (length g.tries.devices)

    given_more : (w : What) → IsAmong w (given a.seat) → IsAmong w (given b.seat)
    given_more w m = subst (λ E. IsAmong w E) (sym g.noted) (among_left more m)

    pub part_given : AllByRecursion (λ z. (i : ℕ) → i < length z.devices → (s : ℕ) × IsAmong (Acquire (z.row + i) s) (given b.seat)) (xs ++ tried_part ∷ [])
    part_given = each_snoc (λ (z : Tried V). (i : ℕ) → i < length z.devices → (s : ℕ) × IsAmong (Acquire (z.row + i) s) (given b.seat)) xs tried_part (older xs h.given_so) (λ i l. (
      x.part,
      subst (λ E. IsAmong (Acquire (g.part.tables.from + i) x.part) E) (sym g.noted)
          (among_right (Acquire (g.part.tables.from + i) x.part) (given a.seat) more
          (among_right (Acquire (g.part.tables.from + i) x.part) (closing x.scope) (beginning x.part g.part (length g.tries.devices))
          (among_right (Acquire (g.part.tables.from + i) x.part) (opening x.part) (acquires x.part g.part.tables.from (length g.tries.devices)) (acquires_there x.part g.part.tables.from (length g.tries.devices) i l)))),
    ))
      where
        older : (zs : List (Tried V)) → AllByRecursion (λ z. (i : ℕ) → i < length z.devices → (s : ℕ) × IsAmong (Acquire (z.row + i) s) (given a.seat)) zs → AllByRecursion (λ z. (i : ℕ) → i < length z.devices → (s : ℕ) × IsAmong (Acquire (z.row + i) s) (given b.seat)) zs
        older [] q = tt
        older (z ∷ zs) q = (λ i l. let n = q.0 i l in (n.0, given_more (Acquire (z.row + i) n.0) n.1), older zs q.1)

    pub part_pays : AllByRecursion (λ z. (i : ℕ) (d : V) → at z.devices i ≡ Some d → IsAmong (z.row + i, d) b.seat.opened ⊎ IsAmong (z.row + i, d) b.seat.left) (xs ++ tried_part ∷ [])
    part_pays = each_snoc (λ (z : Tried V). (i : ℕ) (d : V) → at z.devices i ≡ Some d → IsAmong (z.row + i, d) b.seat.opened ⊎ IsAmong (z.row + i, d) b.seat.left) xs tried_part (older xs h.pays) (λ i d e.
        inl (subst (λ (s : Seen V). IsAmong (g.part.tables.from + i, d) s.seat.opened) (sym g.tries.rows.tree) (among_right (g.part.tables.from + i, d) g.ready.seat.opened (rows_from g.part.tables.from g.tries.devices) (payload_there g.part.tables.from g.tries.devices i d e))))
      where
        older : (zs : List (Tried V)) → AllByRecursion (λ z. (i : ℕ) (d : V) → at z.devices i ≡ Some d → IsAmong (z.row + i, d) a.seat.opened ⊎ IsAmong (z.row + i, d) a.seat.left) zs → AllByRecursion (λ z. (i : ℕ) (d : V) → at z.devices i ≡ Some d → IsAmong (z.row + i, d) b.seat.opened ⊎ IsAmong (z.row + i, d) b.seat.left) zs
        older [] q = tt
        older (z ∷ zs) q = (λ i d e. pays_kept a.seat b.seat kept_rows (z.row + i, d) (q.0 i d e), older zs q.1)

    pub part_acquired : (r s : ℕ) → IsAmong (Acquire r s) (given b.seat) → IsTableRow (xs ++ tried_part ∷ []) r ⊎ IsListRow (length p.tables) openings r
    part_acquired r s m = ⊎_elim
        (λ i. ⊎_elim (λ t. inl (row_more tried_part r t)) (λ l. inr l) (h.acquired r s i))
        (λ i. let w = begun_rows x.part g.part (length g.tries.devices) r s (closed_rows x.scope (beginning x.part g.part (length g.tries.devices)) r s i) in
        inl (tried_part, among_last xs tried_part, (r - g.part.tables.from, within w.0 w.1, at_row w.0)))
        (among_append (Acquire r s) (given a.seat) more (subst (λ E. IsAmong (Acquire r s) E) g.noted m))
      where
        within : g.part.tables.from ≤ r → r < g.part.tables.from + length g.tries.devices → r - g.part.tables.from < length g.tries.devices
        within low high = omega (arith, low, high)

        at_row : g.part.tables.from ≤ r → r ≡ g.part.tables.from + (r - g.part.tables.from)
        at_row low = omega (arith, low)

  -- all of them were read
  pub read_further : {xs : List (Tried V)} {x y : Outer} {old new : DepotTold} {a b : Seen V} (h : HasRead p openings xs x.part x.tables a) (g : BeginsPart told (plan_parts p) p.tables x y old new a b None) → HasRead p openings (xs ++ tried_part h g ∷ []) y.part y.tables b
  read_further {xs = xs} {y = y} h g =
      let t = tried_part h g in
      record {
        tried = part_tried h g;
        count = let more = snoc_length xs t in let had = h.count in let now = (g.now refl).0 in omega (arith, more, had, now);
        dicts_are = subst (λ l. AreOf y.tables l) (sym (contents_snoc xs t)) (g.values refl (contents_in xs) h.dicts_are);
        given_so = part_given h g;
        pays = part_pays h g;
        acquired = part_acquired h g;
      }

  pub went_reads : {F : Type 0} (before : List (Move V F)) (xs : List (Tried V)) {x y : Outer} {old new : DepotTold} {a b : Seen V} → HasRead p openings xs x.part x.tables a → Went told (plan_parts p) p.tables x y old new a b → ReadOn told p openings before xs y old new b
  went_reads before xs {x = x} {a = a} h (nowhere) = record { more = []; moved = refl; has = subst (λ l. HasRead p openings l x.part x.tables a) (sym (append-nil xs)) h }
  went_reads before xs h (on {z = z} {old = old} {mid = mid} {new = new} {c = c} w g) =
      let r = went_reads before xs h w in
      let t = tried_part r.has g in
      record {
        more = r.more ++ t ∷ [];
        moved = moved_reads told p before old mid new r.more t r.moved (tries_part r.has g);
        has = subst (λ l. HasRead p openings l z.part z.tables c) (append_assoc xs r.more (t ∷ [])) (read_further r.has g);
      }
