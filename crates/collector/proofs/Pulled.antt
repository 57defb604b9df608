-- How the outer stream stands once it was pulled.
use Rattle.std.proofs.Common.{◌≡◌, ◌⊎◌, ℕ, zero, suc, ◌+◌, ◌-◌, ◌<◌, ◌≤◌, ◌||◌, Bool, true, false, List, [], ◌∷◌, ◌++◌, append_assoc, append-nil, length, Some, None, IfSome, Result, option_map, refl, sym, ◌∙◌, ap, subst, ⊎_elim, arith}
use Rattle.std.specs.List.{AllByRecursion}
use Rattle.std.proofs.lemmas.Bool.{cases_lt}
use Rattle.std.proofs.lemmas.List.{length-append}
use Rattle.chunk_core.specs.Lists.{IsAmong}
use Rattle.chunk_core.specs.Outcomes.{Cut, Done}
use Rattle.chunk_core.specs.declared.code.How.{How}
use Rattle.chunk_core.specs.declared.code.How.TheVariants as how
use Rattle.chunk_core.proofs.Filters.{filter_among}
use Rattle.csv_pipes.specs.Dictionaries.{Dictionary}
use Rattle.device_port.specs.Device.{DeviceTold}
use Rattle.device_port.specs.Depot.{DepotTold}
use Rattle.join_tree.specs.Given.{GivesMore, given}
use Rattle.join_tree.specs.Progress.{Progress}
use Rattle.join_tree.specs.Steps.{KeepsRows}
use Rattle.outer_stream.specs.Parts.{Gave, IsAmid, beginning, closing}
use Rattle.outer_stream.specs.Parts.Gave.{left}
use Rattle.outer_stream.specs.Pulls.{BeginsPart, Ends, IsOverBy, Leases, Went, how_unread}
use Rattle.outer_stream.specs.Pulls.IsOverBy.{done, unleased, unread}
use Rattle.outer_stream.specs.declared.next.OuterPart.{OuterPart}
use Rattle.outer_stream.specs.declared.outer.Outer.{Outer}
use Rattle.outer_tables.specs.declared.not_read.NotRead.{NotRead}
use Rattle.outer_tables.specs.declared.not_read.NotRead.TheVariants as why
use Rattle.pipeline_desc.specs.Meant.{PlanMeant}
use Rattle.pipeline_desc.specs.Sound.{IsSoundPlan}
use Rattle.res_ledger.specs.declared.event.StreamNo.TheVariants.{Outer as outer_name}
use Rattle.plan_work.specs.Listed.{lister_of}
use Rattle.res_ledger.specs.Own.{own}
use Rattle.res_ledger.specs.declared.event.What.{What}
use Rattle.res_ledger.specs.declared.event.What.TheVariants.{Acquire, Lease}
use Rattle.res_ledger.proofs.Noted.{notes_own}
use Rattle.run_rules.specs.Facts.{at, is_memory}
use Rattle.run_rules.specs.Giving.{giving_children, is_giving}
use Rattle.run_rules.specs.Work.{list_parts}
use Rattle.scope_tree.specs.Calls.{Seen}
use Rattle.scope_tree.specs.Trace.{trace}
use Rattle.scope_tree.specs.declared.leases.Lease.{Lease as Lease_told}
use Rattle.dealt_streams.specs.Moves.{AreMoved, Move, Tried}
use Rattle.dealt_streams.specs.Standing.{ArePartsTried, HasRows, IsStoppedBy, StandsBy, StandsList, all_given, list_end, plan_parts, streams_before}
use Rattle.collector.proofs.AllGiven.{all_parts_given, front_given, list_left}
use Rattle.collector.proofs.Gaving.{all_front, gave_ahead, gave_begun, gave_behind, gave_few, gave_front, gave_turns, last_front, lease_left, left_at, no_closed, no_lease, parts_left}
use Rattle.collector.proofs.Lists.{below_is, snoc_length}
use Rattle.collector.proofs.Moving.{moved_reads, reads}
use Rattle.collector.proofs.PlanParts.{plan_follow, streams_all}
use Rattle.collector.proofs.Standing.{HasRead, ReadOn, has_kept, none_some, open_read, part_acquired, part_given, part_pays, part_tried, parts_told, some_kept, tables_told, tries_part, tried_part, went_reads}

no_more : {A : Type 0} (x y : A) (xs ys : List A) → x ∷ xs ≡ y ∷ ys → x ≡ y
no_more x y xs ys e = cc

pub append_same : {A : Type 0} (xs ys zs : List A) → xs ++ ys ≡ xs ++ zs → ys ≡ zs
append_same [] ys zs e = e
append_same (x ∷ xs) ys zs e = append_same xs ys zs (let t : xs ++ ys ≡ xs ++ zs = cc in t)

or_more : (m n : Bool) → m ≡ true → (m || n) ≡ true
or_more true n e = refl
or_more false n e = absurd cc

or_last : (m : Bool) → (m || true) ≡ true
or_last true = refl
or_last false = refl

-- where a part was begun all streams of those before were given
behind_given : (parts : List OuterPart) {k s t behind j : ℕ} {E : List What} → Gave parts k s t behind j E → (p : OuterPart) (m : ℕ) (rest : List What) → (E ++ (closing s ++ beginning k p m)) ++ rest ≡ parts_left 0 0 parts → behind ≤ j
behind_given parts {k = zero} g p m rest e = let b = (gave_behind g).0 in omega (arith, b)
behind_given parts {k = suc k} {s = s} {behind = behind} {j = j} {E = E} g p m rest e = ⊎_elim (λ less. absurd (no_lease_next s (heads less))) (λ more. more) (cases_lt j behind)
  where
    heads : j < behind → (closing s ++ beginning (suc k) p m) ++ rest ≡ Lease j s ∷ left_at parts (suc k) s behind (suc j)
    heads less = append_same E ((closing s ++ beginning (suc k) p m) ++ rest) (Lease j s ∷ left_at parts (suc k) s behind (suc j)) (sym (append_assoc E (closing s ++ beginning (suc k) p m) rest) ∙ (e ∙ sym (ap (λ l. E ++ l) (sym (lease_first less)) ∙ gave_front parts g)))
      where
        lease_first : j < behind → left_at parts (suc k) s behind j ≡ Lease j s ∷ left_at parts (suc k) s behind (suc j)
        lease_first l = lease_left parts (suc k) s behind j l

    no_lease_next : (c : ℕ) → (closing c ++ beginning (suc k) p m) ++ rest ≡ Lease j s ∷ left_at parts (suc k) s behind (suc j) → ⊥
    no_lease_next zero q = cc
    no_lease_next (suc c) q = cc

-- without a list no line was given a stream
no_lines : (p : PlanMeant) (sound : IsSoundPlan p) (lines : List (List ℕ)) {k s t behind j : ℕ} {E : List What} → Gave (plan_parts p) k s t behind j E → length lines ≡ j - length p.streams → length lines ≡ 0
no_lines p sound lines g e = let f = gave_few (length p.tables) (length p.streams) (plan_follow p sound) g in omega (arith, e, f)

front_so : (p : PlanMeant) (sound : IsSoundPlan p) (lines : List (List ℕ)) {k s t behind j : ℕ} {E : List What} → Gave (plan_parts p) k s t behind j E → length lines ≡ j - length p.streams → (rest : List What) × (E ++ rest ≡ all_given p lines)
front_so p sound lines {k = k} {s = s} {behind = behind} {j = j} {E = E} g e = front_given p sound lines (λ z. no_lines p sound lines g e) E (left_at (plan_parts p) k s behind j) (gave_front (plan_parts p) g)

module _ {V : Type 0} (told : V → DeviceTold) (p : PlanMeant) (sound : IsSoundPlan p) {tables : List (Tried V)} {openings : List (Result V NotRead)} {lines : List (List ℕ)} where
  -- what was read, as it was noted
  pub has_read : {begun leased : ℕ} {dicts : List Dictionary} {m : Bool} {a : Seen V} → StandsBy p told tables openings lines begun leased dicts None m a → a.seat.by ≡ outer_name → HasRead p openings tables begun dicts a
  has_read {a = a} s by =
      let r = s.read (open_read told p s) in
      record {
        tried = subst (λ o. ArePartsTried p.tables (plan_parts p) tables o) (open_read told p s) s.tried;
        count = r.0;
        dicts_are = r.1;
        given_so = each tables s.rows;
        pays = paid tables s.rows;
        acquired = s.acquired;
      }
    where
      each : (xs : List (Tried V)) → AllByRecursion (HasRows a) xs → AllByRecursion (λ x. (i : ℕ) → i < length x.devices → (s : ℕ) × IsAmong (Acquire (x.row + i) s) (given a.seat)) xs
      each [] h = tt
      each (x ∷ xs) h = (
        λ i l.
            let n = h.0.noted i l in
            let o = notes_own a.seat.events outer_name (Acquire (x.row + i) n.0) n.1 in
            (n.0, filter_among is_giving (Acquire (x.row + i) n.0) (trace a.seat) (subst (λ k. IsAmong (Acquire (x.row + i) n.0) (own k a.seat.events)) (sym by) o) refl),
        each xs h.1,
      )

      paid : (xs : List (Tried V)) → AllByRecursion (HasRows a) xs → AllByRecursion (λ x. (i : ℕ) (d : V) → at x.devices i ≡ Some d → IsAmong (x.row + i, d) a.seat.opened ⊎ IsAmong (x.row + i, d) a.seat.left) xs
      paid [] h = tt
      paid (x ∷ xs) h = (h.0.pays, paid xs h.1)

  module _ {begun leased : ℕ} {dicts : List Dictionary} {m : Bool} {a : Seen V} (s : StandsBy p told tables openings lines begun leased dicts None m a) where
    -- it is open still, with parts that were begun or a stream that was leased for
    stands_open : {xs : List (Tried V)} {x : Outer} {b : Seen V} → HasRead p openings xs x.part x.tables b → b.seat.by ≡ outer_name → KeepsRows a.seat b.seat → IsAmid (plan_parts p) (length p.tables) (length p.streams) x b → length tables ≤ length xs → leased ≤ x.leased → length lines ≡ x.leased - length p.streams → StandsBy p told xs openings lines x.part x.leased x.tables None m b
    stands_open {xs = xs} {x = x} {b = b} h by rows amid more grows count =
        let f = plan_follow p sound in
        record {
          lack = None;
          tried = h.tried;
          rows = tables_told told p h by;
          read = λ e. (h.count, h.dicts_are);
          unread = λ w e. none_some w e;
          turns = λ i l. gave_turns (length p.tables) (length p.streams) f amid.gave i (let c = h.count in omega (arith, l, c));
          ahead = λ i l n. gave_ahead (length p.tables) (length p.streams) f amid.gave i l n;
          behind = λ o i.
              let b = s.behind o i in
              let all = b.1 in
              let given = b.2 in
              let few = gave_begun amid.gave in
              let c = h.count in
              (refl, omega (arith, all, more, few, c), omega (arith, given, grows));
          lines_are = count;
          noted = front_so p sound lines amid.gave count;
          acquired = h.acquired;
          list = some_kept told p p.list openings lines Cut a b rows (subst (λ o. IfSome p.list (λ l. StandsList p told l openings lines (list_end p o None) a)) (open_read told p s) s.list);
          ended = λ e. tt;
          nobody = λ w. none_some how.Halted (s.nobody w).2;
        }

    -- parts were begun
    pub stands_begun : {F : Type 0} (before : List (Move V F)) {x y : Outer} {old new : DepotTold} {b : Seen V} → begun ≡ x.part → dicts ≡ x.tables → leased ≡ x.leased → a.seat.by ≡ outer_name → b.seat.by ≡ outer_name → Went told (plan_parts p) p.tables x y old new a b → KeepsRows a.seat b.seat → IsAmid (plan_parts p) (length p.tables) (length p.streams) y b → y.leased ≡ x.leased
        → (r : ReadOn told p openings before tables y old new b) × StandsBy p told (tables ++ r.more) openings lines y.part y.leased y.tables None m b
    stands_begun before {x = x} {y = y} {b = b} begun_is dicts_are leased_is by own went rows amid same =
        let h = has_read s by in
        let h' : HasRead p openings tables x.part x.tables a = subst (λ n. HasRead p openings tables n x.tables a) begun_is (subst (λ d. HasRead p openings tables begun d a) dicts_are h) in
        let r = went_reads told p before tables h' went in
        (r, stands_open r.has own rows amid (let n = length-append tables r.more in omega (arith, n)) (omega (arith, leased_is, same)) (s.lines_are ∙ ap (λ n. n - length p.streams) (leased_is ∙ sym same)))

    module _ {x : Outer} (begun_is : begun ≡ x.part) (dicts_are : dicts ≡ x.tables) (leased_is : leased ≡ x.leased) (by : a.seat.by ≡ outer_name) (amid : IsAmid (plan_parts p) (length p.tables) (length p.streams) x a) where
      here_read : HasRead p openings tables x.part x.tables a
      here_read = subst (λ n. HasRead p openings tables n x.tables a) begun_is (subst (λ d. HasRead p openings tables begun d a) dicts_are (has_read s by))

      -- the next stream was leased for
      pub stands_leased : {width most : ℕ} {q : Progress V} {y : Outer} {b : Seen V} {l : Lease_told} → b.seat.by ≡ outer_name → Leases told (plan_parts p) p.tables (length p.streams) width most q x y a b l → StandsBy p told tables openings lines y.part y.leased y.tables None m b
      stands_leased {y = y} {b = b} own l =
          let h = has_kept told p a b l.kept (Lease x.leased x.scope ∷ []) l.gives (λ r c i. no_lease x.leased x.scope r c i) here_read in
          let h' : HasRead p openings tables y.part y.tables b = subst (λ (z : Outer). HasRead p openings tables z.part z.tables b) (sym l.now) h in
          let one : y.leased ≡ x.leased + 1 = ap (λ (z : Outer). z.leased) l.now in
          let less = l.less in
          let count = s.lines_are in
          stands_open h' own l.kept l.amid (omega arith) (omega (arith, one, leased_is)) (omega (arith, one, less, count, leased_is))

      -- it came to its end
      module _ {width most : ℕ} {q : Progress V} {y : Outer} {old new : DepotTold} {b : Seen V} {h : How} (e : Ends told (plan_parts p) p.tables (length p.streams) width most q x y old new a b h) (own : b.seat.by ≡ outer_name) where
        same_leased : leased ≡ y.leased
        same_leased = leased_is ∙ sym e.leased

        stands_done : p.list ≡ None → h ≡ how.Done → x.part ≡ length (plan_parts p) → x.leased ≡ length p.streams → GivesMore (closing x.scope) a b → StandsBy p told tables openings lines begun y.leased dicts (Some how.Done) m b
        stands_done unlisted is all gave gives =
            let d = has_kept told p a b e.rows (closing x.scope) gives (λ r c i. no_closed x.scope r c i) (has_read s by) in
            let bound = gave_behind amid.gave in
            let last = bound.0 in
            let end = streams_all (plan_parts p) (length p.tables) (length p.streams) (plan_follow p sound) in
            let behind : x.behind ≡ length p.streams = last ∙ (ap (λ k. streams_before (plan_parts p) k) all ∙ end) in
            let g : Gave (plan_parts p) (length (plan_parts p)) 0 x.table (length p.streams) (length p.streams) (given b.seat) =
            subst (λ E. Gave (plan_parts p) (length (plan_parts p)) 0 x.table (length p.streams) (length p.streams) E) (sym gives)
            (left (subst (λ j. Gave (plan_parts p) (length (plan_parts p)) x.scope x.table (length p.streams) j (given a.seat)) gave
            (subst (λ k. Gave (plan_parts p) (length (plan_parts p)) x.scope x.table k x.leased (given a.seat)) behind
            (subst (λ k. Gave (plan_parts p) k x.scope x.table x.behind x.leased (given a.seat)) all amid.gave)))) in
            let whole : given b.seat ≡ all_given p lines = all_front (plan_parts p) g ∙ (sym (append-nil (parts_left 0 0 (plan_parts p))) ∙ (ap (λ l. parts_left 0 0 (plan_parts p) ++ l) (sym (no_list_left unlisted)) ∙ all_parts_given p sound lines (λ z. no_lines p sound lines amid.gave (s.lines_are ∙ ap (λ n. n - length p.streams) leased_is)))) in
            record {
              lack = None;
              tried = d.tried;
              rows = tables_told told p d own;
              read = λ z. (d.count, d.dicts_are);
              unread = λ w z. none_some w z;
              turns = λ i l. let t = s.turns i l in omega (arith, t, same_leased);
              ahead = λ i l n. let t = s.ahead i l n in omega (arith, t, same_leased);
              behind = λ o i. let b = s.behind o i in let given = b.2 in (refl, b.1, omega (arith, given, same_leased));
              lines_are = s.lines_are ∙ ap (λ n. n - length p.streams) same_leased;
              noted = ([], append-nil (given b.seat) ∙ whole);
              acquired = d.acquired;
              list = no_list_stands unlisted;
              ended = λ z. whole;
              nobody = λ w. none_some how.Halted (s.nobody w).2;
            }
          where
            no_list_left : p.list ≡ None → list_left p sound lines (λ z. no_lines p sound lines amid.gave (s.lines_are ∙ ap (λ n. n - length p.streams) leased_is)) ≡ []
            no_list_left z = ap (λ o. giving_children (suc (length p.groups)) (length p.tables) (length p.streams) (list_parts (option_map (lister_of p lines) o))) z

            no_list_stands : p.list ≡ None → IfSome p.list (λ l. StandsList p told l openings lines Done b)
            no_list_stands z = subst (λ o. IfSome o (λ l. StandsList p told l openings lines Done b)) (sym z) tt

        stands_unleased : h ≡ how.Memory → y ≡ x → b ≡ a → StandsBy p told tables openings lines begun y.leased dicts (Some how.Memory) (m || true) b
        stands_unleased is same at =
            let read = open_read told p s in
            subst (λ z. StandsBy p told tables openings lines begun y.leased dicts (Some how.Memory) (m || true) z) (sym at) (record {
              lack = s.lack;
              tried = s.tried;
              rows = s.rows;
              read = s.read;
              unread = λ w z. none_some w (sym read ∙ z);
              turns = λ i l. let t = s.turns i l in omega (arith, t, same_leased);
              ahead = λ i l n. let t = s.ahead i l n in omega (arith, t, same_leased);
              behind = λ o i. let b = s.behind o i in let given = b.2 in (b.0, b.1, omega (arith, given, same_leased));
              lines_are = s.lines_are ∙ ap (λ n. n - length p.streams) same_leased;
              noted = s.noted;
              acquired = s.acquired;
              list = subst (λ z. IfSome p.list (λ l. StandsList p told l openings lines z a)) (ap (λ o. list_end p o None) read ∙ sym (ap (λ o. list_end p o (Some how.Memory)) read)) s.list;
              ended = λ z. tt;
              nobody = λ w. none_some how.Halted (s.nobody w).2;
            })

        stands_unread : (w : NotRead) → h ≡ how_unread w → (g : BeginsPart told (plan_parts p) p.tables x y old new a b (Some w)) → StandsBy p told (tables ++ tried_part told p here_read g ∷ []) openings lines begun y.leased y.tables (Some h) (m || is_memory h) b
        stands_unread w is g =
            let t = tried_part told p here_read g in
            let front = last_front (plan_parts p) e.gave in
            let count = here_read.count in
            let more = snoc_length tables t in
            record {
              lack = Some w;
              tried = part_tried told p here_read g;
              rows = parts_told b (tables ++ t ∷ []) own (part_given told p here_read g) (part_pays told p here_read g);
              read = λ z. none_some w (sym z);
              unread = λ v z. (omega (arith, more, count, begun_is), (h, refl, subst (λ u. IsStoppedBy u (m || is_memory h) h) (some_is w v z) (stopped_so w is)));
              turns = λ i l. ⊎_elim
                  (λ less. let u = s.turns i (omega (arith, less, count)) in omega (arith, u, same_leased))
                  (λ high.
                  let at : i ≡ x.part = omega (arith, high, l, more, count) in
                  let b = (gave_behind amid.gave).0 in
                  let d = behind_given (plan_parts p) amid.gave g.part (length g.tries.devices) front.0 (ap (λ E. E ++ front.0) (sym g.noted) ∙ front.1) in
                  let u : streams_before (plan_parts p) i ≡ x.behind = ap (λ k. streams_before (plan_parts p) k) at ∙ sym b in
                  let same = e.leased in
                  omega (arith, u, d, same)) (cases_lt i x.part);
              ahead = λ i l n. let u = s.ahead i l n in omega (arith, u, same_leased);
              behind = λ o i. let n = (s.behind o i).1 in let less = below_is (plan_parts p) x.part g.part g.is in absurd (omega (arith, n, count, begun_is, less));
              lines_are = s.lines_are ∙ ap (λ n. n - length p.streams) same_leased;
              noted = front_given p sound lines (λ z. no_lines p sound lines amid.gave (s.lines_are ∙ ap (λ n. n - length p.streams) leased_is)) (given b.seat) front.0 front.1;
              acquired = part_acquired told p here_read g;
              list = some_kept told p p.list openings lines Cut a b e.rows (subst (λ o. IfSome p.list (λ l. StandsList p told l openings lines (list_end p o None) a)) (open_read told p s) s.list);
              ended = λ z. none_some w (sym z);
              nobody = λ v. none_some how.Halted (s.nobody v).2;
            }
          where
            some_is : (u v : NotRead) → Some u ≡ Some v → u ≡ v
            some_is u v z = cc

            stopped_so : (u : NotRead) → h ≡ how_unread u → IsStoppedBy u (m || is_memory h) h
            stopped_so (why.Fault f) z = z
            stopped_so why.Memory z = (z, subst (λ k. (m || is_memory k) ≡ true) (sym z) (or_last m))

        -- how it stands then, by these moves more
        pub record IsOver {F : Type 0} (before : List (Move V F)) : Type 0 where
          pub more : List (Tried V)
          pub moved : AreMoved told p before old (reads more) new
          pub stands : StandsBy p told (tables ++ more) openings lines begun y.leased y.tables (Some h) (m || is_memory h) b

        none_more : {F : Type 0} (before : List (Move V F)) → new ≡ old → y.tables ≡ x.tables → StandsBy p told tables openings lines begun y.leased dicts (Some h) (m || is_memory h) b → IsOver before
        none_more before depot same st = record {
          more = [];
          moved = depot;
          stands = subst (λ l. StandsBy p told l openings lines begun y.leased y.tables (Some h) (m || is_memory h) b) (sym (append-nil tables)) (subst (λ d. StandsBy p told tables openings lines begun y.leased d (Some h) (m || is_memory h) b) (dicts_are ∙ sym same) st);
        }

        pub stands_over : {F : Type 0} (before : List (Move V F)) → (h ≡ how.Done → p.list ≡ None) → IsOver before
        stands_over before unlisted = by_cause h refl e.cause
          where
            over_so : (k : How) → k ≡ h → StandsBy p told tables openings lines begun y.leased dicts (Some k) (m || is_memory k) b → StandsBy p told tables openings lines begun y.leased dicts (Some h) (m || is_memory h) b
            over_so k is st = subst (λ j. StandsBy p told tables openings lines begun y.leased dicts (Some j) (m || is_memory j) b) is st

            or_none : (n : Bool) → StandsBy p told tables openings lines begun y.leased dicts (Some how.Done) n b → StandsBy p told tables openings lines begun y.leased dicts (Some how.Done) (n || false) b
            or_none true st = st
            or_none false st = st

            by_cause : (k : How) → k ≡ h → IsOverBy told (plan_parts p) p.tables (length p.streams) width most x y old new a b k → IsOver before
            by_cause k is (done all gave now depot gives) = none_more before depot (ap (λ (z : Outer). z.tables) now) (over_so how.Done is (or_none m (stands_done (unlisted (sym is)) (sym is) all gave gives)))
            by_cause k is (unread w g) = record {
              more = tried_part told p here_read g ∷ [];
              moved = moved_reads told p before old old new [] (tried_part told p here_read g) refl (tries_part told p here_read g);
              stands = stands_unread w (sym is) g;
            }
            by_cause k is (unleased now depot at) = none_more before depot (ap (λ (z : Outer). z.tables) now) (over_so how.Memory is (stands_unleased (sym is) now at))
