-- What comes of a list, line by line.
use Rattle.std.proofs.Common.{◌≡◌, ◌≢◌, ℕ, zero, suc, ◌+◌, ◌<◌, ◌≤◌, true, false, List, [], ◌∷◌, ◌++◌, append-nil, append_assoc, length, length-append, Ok, inl, refl, sym, ap, ◌∙◌, subst, ⊎_elim, arith}
use Rattle.std.specs.Prelude.{IsUtf8}
use Rattle.std.specs.List.{AllByRecursion}
use Rattle.chain_pipes.specs.Chains.{StandsFor, sound}
use Rattle.chunk_core.specs.Lists.{IsAmong}
use Rattle.chunk_core.specs.Outcomes.{Cut, End}
use Rattle.chunk_core.specs.declared.code.Code.TheVariants as code
use Rattle.chunk_core.specs.declared.code.How.{How}
use Rattle.chunk_core.specs.declared.code.How.TheVariants as how
use Rattle.chunk_core.proofs.Each.{each_last, each_left, each_snoc}
use Rattle.chunk_core.proofs.Filters.{among_append, among_filter}
use Rattle.chunk_core.proofs.Members.{among_cons, among_nil}
use Rattle.device_port.specs.Device.{DeviceTold}
use Rattle.join_tree.specs.Given.{GivesMore, given}
use Rattle.join_tree.specs.Mains.{IsMain}
use Rattle.join_tree.specs.Notes.{is_table_note}
use Rattle.join_tree.specs.Progress.{Progress, reading}
use Rattle.join_tree.specs.Steps.{KeepsGuests, KeepsRows, LeasesNext, TakesEvents}
use Rattle.list_lines.specs.Lists.{end_of}
use Rattle.list_lines.proofs.Given.{given_has_run}
use Rattle.list_runs.specs.Meant.{list_meaning}
use Rattle.list_runs.proofs.Texts.{at_are_texts}
use Rattle.outer_stream.specs.Steps.{ends}
use Rattle.outer_stream.specs.declared.next.OuterPart.{OuterPart}
use Rattle.outer_stream.specs.declared.outer.Outer.{Outer}
use Rattle.outer_stream.proofs.Gave.{gave_rows}
use Rattle.outer_stream.proofs.Keeping.{others_kept, others_same, rows_same}
use Rattle.outer_tables.specs.Whole.{WasRead}
use Rattle.pipeline_desc.specs.Meant.{PlanMeant, stream_limit}
use Rattle.pipeline_desc.specs.declared.listing.ListSpec.{ListSpec}
use Rattle.plan_work.specs.Listed.{is_bad_line}
use Rattle.res_ledger.specs.declared.event.What.TheVariants.{Acquire, Lease as lease_note, Open}
use Rattle.run_rules.specs.Giving.{leases_for}
use Rattle.scope_tree.specs.Calls.{IsOpenScope, KeepsScopes, Seen}
use Rattle.scope_tree.specs.Trace.{owed}
use Rattle.scope_tree.specs.declared.leases.Lease.{Lease}
use Rattle.outer_source.specs.Lists.{HasListed, IsAmidList, IsInList, list_closing, list_notes}
use Rattle.outer_source.specs.Pulls.{EndsList, GivesListed, HasEnded, HasLine}
use Rattle.outer_source.specs.declared.source.OuterSource.{OuterSource}
use Rattle.outer_source.proofs.Kept.{rows_but, rows_more}
use Rattle.outer_source.proofs.Listed.{bad_line, listed_so, many_lines, unfailed}
use Rattle.outer_source.proofs.Standing.{most_with}

-- one line more
leases_more : (k n m : ℕ) → leases_for k n m ++ (lease_note (n + m) k ∷ []) ≡ leases_for k n (suc m)
leases_more k n zero = ap (λ i. lease_note i k ∷ []) (let e : n + 0 ≡ n = omega arith in e)
leases_more k n (suc m) =
    ap (λ L. lease_note n k ∷ L) (ap (λ i. leases_for k (n + 1) m ++ (lease_note i k ∷ [])) (let e : n + suc m ≡ n + 1 + m = omega arith in e) ∙ leases_more k (n + 1) m)

-- no row is acquired by leases
no_lease_row : (r i k n m : ℕ) → IsAmong (Acquire r i) (leases_for k n m) → ⊥
no_lease_row r i k n zero j = among_nil j
no_lease_row r i k n (suc m) j = ⊎_elim (λ (e : Acquire r i ≡ lease_note n k). cc) (λ z. no_lease_row r i k (n + 1) m z) (among_cons j)

same_acquired : (r i q t : ℕ) → Acquire r i ≡ Acquire q t → r ≡ q
same_acquired r i q t e = cc

module _ {V : Type 0} (told : V → DeviceTold) (p : PlanMeant) (parts : List OuterPart) (width : ℕ) (l : ListSpec) (first : V) (lines : List (List ℕ)) where
  abbrev T : ℕ
  T = length p.tables

  abbrev k : ℕ
  k = length parts

  abbrev n : ℕ
  n = length p.streams

  -- the list so far, with another end
  with_end : {x : Outer} {a : Seen V} {e : End} (f : End) (h : IsAmidList told p parts l first lines e x a) → HasListed told p l first h.now lines f → IsAmidList told p parts l first lines f x a
  with_end f h has = record {
    now = h.now;
    held = h.held;
    opened = h.opened;
    has = has;
    before = h.before;
    parts_given = h.parts_given;
    gave = h.gave;
    usable = h.usable;
    part = h.part;
    scope = h.scope;
    table = h.table;
    leased = h.leased;
    few = h.few;
    good = h.good;
  }

  module _ {q : Progress V} where
    reads_none : (a : Seen V) → IsMain (ends told) width (stream_limit p) a q → IsMain (ends told) width (stream_limit p) a (reading q [])
    reads_none a m = subst (λ E. IsMain (ends told) width (stream_limit p) a (record q { tables = E })) (sym (append-nil q.tables)) m

    -- The list is over, and its scope stays open: it isn't done.
    pub ends_open : {x : Outer} {y : OuterSource} {a : Seen V} (h : How) → list_closing k h ≡ [] → HasEnded told p parts width l first lines q x a h → y.outer.leased ≡ x.leased → y.outer.tables ≡ x.tables → EndsList told p parts width l first lines q x y a a h
    ends_open {a = a} h none e leased tables = record {
      now = e.amid.now;
      held = inl e.amid.held;
      has = e.amid.has;
      over = e.unhalted;
      gives = subst (λ E. GivesMore E a a) (sym none) (sym (append-nil (given a.seat)));
      main = subst (λ E. IsMain (ends told) width (stream_limit p) a (reading q E)) (sym none) (reads_none a e.stands.main);
      before = e.amid.before;
      parts_given = e.amid.parts_given;
      gave = e.amid.gave ∙ (sym (append-nil (e.amid.before ++ list_notes k T n (length lines))) ∙ ap (λ E. (e.amid.before ++ list_notes k T n (length lines)) ++ E) (sym none));
      leased = leased;
      tables = tables;
      keeps = others_same 0 a;
      kept = rows_but T a.seat a.seat (rows_same a);
      paid = omega arith;
    }

    -- it is done, and its scope was closed
    pub ends_done : {x : Outer} {y : OuterSource} {a b : Seen V} → HasEnded told p parts width l first lines q x a how.Done → y.outer.leased ≡ x.leased → y.outer.tables ≡ x.tables → IsMain (ends told) width (stream_limit p) b (reading q (list_closing k how.Done)) → GivesMore (list_closing k how.Done) a b → KeepsGuests a b → KeepsRows a.seat b.seat → TakesEvents 0 a b
        → EndsList told p parts width l first lines q x y a b how.Done
    ends_done {a = a} {b = b} e leased tables main gives guests rows events = record {
      now = e.amid.now;
      held = rows.opened (T, e.amid.now) e.amid.held;
      has = e.amid.has;
      over = e.unhalted;
      gives = gives;
      main = main;
      before = e.amid.before;
      parts_given = e.amid.parts_given;
      gave = gives ∙ ap (λ E. E ++ list_closing k how.Done) e.amid.gave;
      leased = leased;
      tables = tables;
      keeps = others_kept 0 a b guests;
      kept = rows_but T a.seat b.seat rows;
      paid = events;
    }

    -- its scope may be closed
    pub close_may : {x : Outer} {a : Seen V} {h : How} → 1 ≤ k → HasEnded told p parts width l first lines q x a h → (1 ≤ x.scope) × IsOpenScope a x.scope
    close_may {a = a} some e = let s = e.amid.scope in (omega (s, some, arith), subst (λ i. IsOpenScope a i) (sym s) e.amid.usable)

    -- whatever the end, where it was closed if it is done
    pub ends_undone : {x : Outer} {y : OuterSource} {a : Seen V} (h : How) → h ≢ how.Done → HasEnded told p parts width l first lines q x a h → y.outer.leased ≡ x.leased → y.outer.tables ≡ x.tables → EndsList told p parts width l first lines q x y a a h
    ends_undone how.Done ne e leased tables = absurd (ne refl)
    ends_undone how.Halted ne e leased tables = ends_open how.Halted refl e leased tables
    ends_undone (how.Fault c) ne e leased tables = ends_open (how.Fault c) refl e leased tables
    ends_undone how.Memory ne e leased tables = ends_open how.Memory refl e leased tables

    module _ {x : OuterSource} {line : List ℕ} {a : Seen V} (h : HasLine told p parts width l first lines q x line a) where
      was_read : WasRead 0 (told first) (told h.amid.now)
      was_read = unfailed told p l first h.amid.now lines h.amid.opened h.amid.has

      so_many : length lines + n ≡ x.outer.leased
      so_many = let e = h.amid.leased in omega (e, arith)

      ended : (g : How) → HasListed told p l first h.amid.now lines (end_of g) → (g ≡ how.Halted → ⊥) → HasEnded told p parts width l first lines q x.outer a g
      ended g has unhalted = record { stands = h.stands; amid = with_end (end_of g) h.amid has; unhalted = unhalted }

      -- there is one too many
      pub line_too_many : x.outer.leased ≡ stream_limit p → EndsList told p parts width l first lines q x.outer x a a (how.Fault code.TooMany)
      line_too_many full = ends_open (how.Fault code.TooMany) refl
          (ended (how.Fault code.TooMany) (many_lines told p l first h.amid.now h.amid.opened lines h.amid.good was_read line h.reader h.at (let m = most_with p l h.stands.list_is in let s = so_many in omega (full, m, s, arith))) (λ e. cc))
          refl refl

      few_lines : x.outer.leased ≢ stream_limit p → length lines < l.max
      few_lines ne = let m = most_with p l h.stands.list_is in let s = so_many in let f = h.amid.few in omega (ne, m, s, f, arith)

      -- its text, and what a lease for it asks
      pub line_is_text : IsUtf8 line
      line_is_text = each_last IsUtf8 lines line (each_left IsUtf8 (lines ++ line ∷ []) h.reader.waiting.items (at_are_texts StandsFor (told h.amid.now) (lines ++ line ∷ []) h.reader h.at.now))

      pub line_less : x.outer.leased ≢ stream_limit p → x.outer.leased < stream_limit p
      line_less ne = let f = few_lines ne in let m = most_with p l h.stands.list_is in let s = so_many in omega (f, m, s, arith)

      pub lease_free : x.outer.leased ≢ stream_limit p → owed a.seat + 2 ≤ a.seat.spare
      lease_free ne = let l = line_less ne in let f = h.stands.free l in omega (l, f, arith)

      pub lease_scope : IsOpenScope a x.outer.scope
      lease_scope = subst (λ i. IsOpenScope a i) (sym h.amid.scope) h.amid.usable

      -- or it is bad
      pub line_bad : x.outer.leased ≢ stream_limit p → is_bad_line p line ≡ true → EndsList told p parts width l first lines q x.outer x a a (how.Fault code.BadPath)
      line_bad ne bad = ends_open (how.Fault code.BadPath) refl
          (ended (how.Fault code.BadPath) (bad_line told p l first h.amid.now h.amid.opened lines h.amid.good was_read line h.reader h.at (few_lines ne) bad) (λ e. cc))
          refl refl

      -- or memory was wanting for it
      pub line_unmade : (b : Seen V) → b ≡ a → EndsList told p parts width l first lines q x.outer x a b how.Memory
      line_unmade b same = subst (λ (z : Seen V). EndsList told p parts width l first lines q x.outer x a z how.Memory) (sym same) (ends_open how.Memory refl (ended how.Memory h.amid.has (λ e. cc)) refl refl)

      -- or it is given a stream
      module _ (b : Seen V) (lease : Lease) (y : OuterSource) (now : y ≡ record x { outer = record x.outer { leased = x.outer.leased + 1 } }) (ne : x.outer.leased ≢ stream_limit p) (good : is_bad_line p line ≡ false) (next : LeasesNext (ends told) width (stream_limit p) a b q k (Ok lease)) (gives : GivesMore (lease_note x.outer.leased k ∷ []) a b) (scopes : KeepsScopes a b) (guests : KeepsGuests a b) (rows : KeepsRows a.seat b.seat) (opened : b.seat.opened ≡ a.seat.opened) (events : TakesEvents 1 a b) where
        abbrev lines1 : List (List ℕ)
        lines1 = lines ++ line ∷ []

        one_more : length lines1 ≡ length lines + 1
        one_more = length-append lines (line ∷ [])

        lines_good : AllByRecursion (λ z. is_bad_line p z ≡ false) lines1
        lines_good = each_snoc (λ z. is_bad_line p z ≡ false) lines line h.amid.good good

        listed_more : HasListed told p l first h.amid.now lines1 Cut
        listed_more = listed_so told p l first h.amid.now h.amid.opened lines1 lines_good 0 was_read h.at.now.in_time (let f = few_lines ne in let o = one_more in omega (f, o, arith)) how.Memory (inl refl) (given_has_run StandsFor sound list_meaning (told h.amid.now) lines1 h.reader h.at.now)

        given_more : given b.seat ≡ h.amid.before ++ list_notes k T n (length lines1)
        given_more =
            let e : x.outer.leased ≡ n + length lines = h.amid.leased in
            gives
            ∙ (ap (λ E. E ++ (lease_note x.outer.leased k ∷ [])) h.amid.gave
            ∙ (append_assoc h.amid.before (list_notes k T n (length lines)) (lease_note x.outer.leased k ∷ [])
            ∙ ap (λ E. h.amid.before ++ (Open k 0 ∷ (Acquire T k ∷ E)))
            (ap (λ i. leases_for k n (length lines) ++ (lease_note i k ∷ [])) e ∙ (leases_more k n (length lines) ∙ ap (leases_for k n) (let o = one_more in let e : suc (length lines) ≡ length lines1 = omega (o, arith) in e)))))

        low_row : (r : ℕ) → (i : ℕ) → IsAmong (Acquire r i) (given a.seat) → r < T + 1
        low_row r i m = ⊎_elim
            (λ j. let g = gave_rows h.amid.parts_given r i j in omega (g, arith))
            (λ j. ⊎_elim
            (λ (e : Acquire r i ≡ Open k 0). cc)
            (λ j2. ⊎_elim (λ e. let s = same_acquired r i T k e in omega (s, arith)) (λ j3. absurd (no_lease_row r i k n (length lines) j3)) (among_cons j2))
            (among_cons j))
            (among_append (Acquire r i) h.amid.before (list_notes k T n (length lines)) (subst (λ E. IsAmong (Acquire r i) E) h.amid.gave m))

        pub line_given : GivesListed told p parts width l first lines q x.outer y a b lease line
        line_given = record {
          less = line_less ne;
          lessee_is = next.0 ∙ h.stands.leased;
          rows_are = next.1;
          lent = next.2;
          low = λ r i.
              let e = next.2 r i in
              let g = low_row r e.0 (among_filter is_table_note (Acquire r e.0) (given a.seat) (subst (λ E. IsAmong (Acquire r e.0) E) h.stands.noted e.1)).0 in
              let w = rows_more p l h.stands.list_is in omega (g, w, arith);
          gives = gives;
          main = next.3;
          now = ap (λ (z : OuterSource). z.outer) now;
          amid = subst (λ (z : OuterSource). IsInList told p parts l first lines1 z b) (sym now) (record {
            amid = record {
              now = h.amid.now;
              held = subst (λ xs. IsAmong (T, h.amid.now) xs) (sym opened) h.amid.held;
              opened = h.amid.opened;
              has = listed_more;
              before = h.amid.before;
              parts_given = h.amid.parts_given;
              gave = given_more;
              usable = scopes.usable k h.amid.usable;
              part = h.amid.part;
              scope = h.amid.scope;
              table = h.amid.table;
              leased = let e = h.amid.leased in let o = one_more in omega (e, o, arith);
              few = let f = few_lines ne in let o = one_more in omega (f, o, arith);
              good = lines_good;
            };
            reader = h.reader;
            is = h.is;
            at = h.at.now;
          });
          keeps = others_kept 0 a b guests;
          kept = rows_but T a.seat b.seat rows;
          paid = events;
        }
