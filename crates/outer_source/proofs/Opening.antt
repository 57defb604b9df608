-- The list is opened behind the parts.
use Rattle.std.proofs.Common.{◌≡◌, ℕ, ◌+◌, ◌-◌, ◌<◌, ◌≤◌, List, [], ◌∷◌, ◌++◌, append_assoc, length, map, take, Option, Some, None, IfSome, Result, Ok, Err, inl, inr, refl, sym, ap, ◌∙◌, subst, ⊎_elim, arith}
use Rattle.std.specs.Prelude.{IsErrAnd}
use Rattle.chunk_core.specs.Elements.{Byte}
use Rattle.chunk_core.specs.Lists.{IsAmong}
use Rattle.chunk_core.specs.Outcomes.{Cut}
use Rattle.chunk_core.specs.declared.code.How.TheVariants as how
use Rattle.chunk_core.proofs.Filters.{among_append, among_filter}
use Rattle.chunk_core.proofs.Members.{among_cons, among_last, among_nil}
use Rattle.device_port.specs.Device.{DeviceTold}
use Rattle.device_port.specs.Depot.{DepotTold, Files}
use Rattle.join_tree.specs.Given.{GivesMore, given}
use Rattle.join_tree.specs.Mains.{IsMain}
use Rattle.join_tree.specs.Notes.{is_table_note}
use Rattle.join_tree.specs.Progress.{Progress, reading}
use Rattle.join_tree.specs.Steps.{KeepsGuests, KeepsRows, TakesEvents}
use Rattle.list_lines.specs.Lists.{IsInTime, IsUnread}
use Rattle.list_runs.specs.Meant.{list_meaning}
use Rattle.outer_stream.specs.Steps.{ends}
use Rattle.outer_stream.specs.declared.next.OuterPart.{OuterPart}
use Rattle.outer_stream.specs.declared.outer.Outer.{Outer}
use Rattle.outer_stream.proofs.Begun.{acquired_gives}
use Rattle.outer_stream.proofs.Gave.{gave_opens, gave_rows, opens_given}
use Rattle.outer_stream.proofs.Keeping.{acquired_keeps, acquired_rows, others_kept, others_then, rows_then}
use Rattle.outer_tables.specs.Devices.{OpensDevice, new_device, when_open}
use Rattle.outer_tables.specs.Rows.{AcquiresRows}
use Rattle.outer_tables.specs.declared.not_read.NotRead.{NotRead}
use Rattle.outer_tables.proofs.Acquiring.{acquires_one}
use Rattle.outer_tables.proofs.Reading.{rows_main}
use Rattle.pipeline_desc.specs.Meant.{PlanMeant, stream_limit}
use Rattle.pipeline_desc.specs.declared.listing.ListSpec.{ListSpec}
use Rattle.res_ledger.specs.declared.event.What.{What}
use Rattle.res_ledger.specs.declared.event.What.TheVariants.{Acquire, Open}
use Rattle.res_ledger.specs.Own.{opens}
use Rattle.scope_tree.specs.Calls.{AcquiresRow as Acquired, IsOpenScope, KeepsScopes, Seen, TakesRoom, used}
use Rattle.scope_tree.specs.Trace.{owed, trace}
use Rattle.outer_source.specs.Lists.{HasListed, IsJustOpened}
use Rattle.outer_source.specs.Pulls.{FailsList, MayOpenList, OpensList, TriesList}
use Rattle.outer_source.proofs.Listed.{listed_so}

-- a device that was just opened
pub just_opened : (files : Option Files) (n : ℕ) (path : List ℕ) (d : DeviceTold) → d ≡ when_open (new_device files n path) → IsJustOpened d × IsUnread d
just_opened files n path d e = (
  subst (λ t. IsJustOpened t) (sym e) (record { is_open = refl; mode = refl; opens = refl; open_faults = refl; read_faults = refl }),
  subst (λ t. IsUnread t) (sym e) (record { at = refl; ended = refl; unfailed = refl }),
)

-- no line of it was needed, and none was given
unread_timely : (d : DeviceTold) → IsUnread d → IsInTime list_meaning d []
unread_timely d u = record {
  needed = subst (λ k. IfSome d.content (λ c. length (list_meaning.part (map Byte (take (k - 4096) c))).list ≤ 0)) (sym u.at) (none d.content);
  ended = λ e. let h = sym u.ended ∙ e in cc;
  few = let z = u.at in omega (z, arith);
}
  where
    none : (o : Option (List ℕ)) → IfSome o (λ c. length (list_meaning.part (map Byte (take (0 - 4096) c))).list ≤ 0)
    none None = tt
    none (Some c) = omega arith

module _ {V : Type 0} (told : V → DeviceTold) (p : PlanMeant) (parts : List OuterPart) (width : ℕ) {q : Progress V} {x : Outer} {a : Seen V} (h : MayOpenList told p parts width q x a) where
  abbrev T : ℕ
  T = length p.tables

  abbrev k : ℕ
  k = length parts

  abbrev n : ℕ
  n = length p.streams

  -- so many scopes were opened
  opened_so_far : length (opens (trace a.seat)) ≡ k - 1
  opened_so_far = ap length (sym (opens_given (trace a.seat))) ∙ gave_opens h.parts_given

  pub scope_room : length (opens (trace a.seat)) + 1 < a.scopes
  scope_room = let s = h.scopes in omega (s, arith)

  pub scope_free : owed a.seat + 2 ≤ a.seat.spare
  scope_free = let f = h.free in omega (f, arith)

  -- the list's scope has the number behind those of the parts
  pub scope_is : (s : ℕ) → s ≡ length (opens (trace a.seat)) + 1 → s ≡ k
  scope_is s e = let o = opened_so_far in let c = h.some_parts in omega (e, o, c, arith)

  -- a child scope was opened
  pub record OpensScope (b : Seen V) (s : ℕ) : Type 0 where
    pub is : s ≡ k
    pub main : IsMain (ends told) width (stream_limit p) b (reading q (Open s 0 ∷ []))
    pub gives : GivesMore (Open s 0 ∷ []) a b
    pub usable : IsOpenScope b s
    pub guests : KeepsGuests a b
    pub rows : KeepsRows a.seat b.seat
    pub events : TakesEvents 2 a b
    pub room : TakesRoom 1 0 a b

  module _ (b : Seen V) (s : ℕ) (w : OpensScope b s) where
    -- the device wasn't opened
    pub fails_so : (l : ListSpec) (old new : DepotTold) (why : NotRead) → OpensDevice told l.path old new (Err why) → FailsList told p parts width l why q x (record x { scope = s }) old new a b
    fails_so l old new why o = record {
      opens = o;
      gives = subst (λ i. GivesMore (Open i 0 ∷ []) a b) w.is w.gives;
      main = subst (λ i. IsMain (ends told) width (stream_limit p) b (reading q (Open i 0 ∷ []))) w.is w.main;
      now = ap (λ i. let z : Outer = record x { scope = i } in z) w.is;
      keeps = others_kept 0 a b w.guests;
      rows = w.rows;
      paid = w.events;
    }

    -- the device may be acquired
    pub row_empty : IsAmong T b.seat.empty
    row_empty = w.guests.empty T h.row

    pub row_room : used b + 1 ≤ b.rows
    row_room = let u = w.room.used in let v = w.room.rows in let z = h.used in omega (u, v, z, arith)

    pub row_free : owed b.seat + 2 ≤ b.seat.spare
    row_free = let e = w.events in let f = h.free in omega (e, f, arith)

    module _ (l : ListSpec) (old new : DepotTold) (d : V) (o : OpensDevice told l.path old new (Ok d)) (c : Seen V) (pay : V) (same : pay ≡ d) (acquires : Acquired b s T pay c) (scopes : KeepsScopes b c) (more : TakesRoom 0 1 b c) (owes : owed c.seat ≡ owed b.seat + 1) where
      f : AcquiresRows (ends told) k T (d ∷ []) b c
      f = subst (λ i. AcquiresRows (ends told) i T (d ∷ []) b c) w.is
          (subst (λ v. AcquiresRows (ends told) s T (v ∷ []) b c) same (acquires_one (ends told) b c s T pay (record { scope = w.usable; row = row_empty }) acquires scopes more owes))

      abbrev notes : List What
      notes = Open k 0 ∷ (Acquire T k ∷ [])

      all_given : GivesMore notes a c
      all_given = acquired_gives told k T (d ∷ []) b c f ∙ (ap (λ L. L ++ (Acquire T k ∷ [])) (subst (λ i. GivesMore (Open i 0 ∷ []) a b) w.is w.gives) ∙ append_assoc (given a.seat) (Open k 0 ∷ []) (Acquire T k ∷ []))

      older : (i t : ℕ) → IsAmong (Acquire i t) (q.tables ++ (Open k 0 ∷ [])) → i < T
      older i t m = ⊎_elim
          (λ j. gave_rows h.parts_given i t (among_filter is_table_note (Acquire i t) (given a.seat) (subst (λ L. IsAmong (Acquire i t) L) h.noted j)).0)
          (λ j. ⊎_elim (λ (e : Acquire i t ≡ Open k 0). cc) (λ z. absurd (among_nil z)) (among_cons j))
          (among_append (Acquire i t) q.tables (Open k 0 ∷ []) m)

      main_so : IsMain (ends told) width (stream_limit p) c (reading q notes)
      main_so = subst (λ E. IsMain (ends told) width (stream_limit p) c (record q { tables = E })) (append_assoc q.tables (Open k 0 ∷ []) (Acquire T k ∷ []))
          (rows_main (ends told) k T (d ∷ []) b c f width (stream_limit p) (reading q (Open k 0 ∷ [])) (subst (λ i. IsMain (ends told) width (stream_limit p) b (reading q (Open i 0 ∷ []))) w.is w.main) h.root (λ z. absurd (let g = h.some_parts in omega (z, g, arith))) older)

      fresh : IsJustOpened (told d) × IsUnread (told d)
      fresh = just_opened old.files (length old.made) l.path (told d) o.1

      none_listed : HasListed told p l d d [] Cut
      none_listed = listed_so told p l d d fresh.0 [] tt 0 (ap (λ i. let t : DeviceTold = record (told d) { read_faults = i } in t) (let e : (told d).read_faults ≡ (told d).read_faults + 0 = omega arith in e)) (unread_timely (told d) fresh.1) (omega arith) how.Memory (inl refl) (inr (refl, inl (refl, tt)))

      pub opens_so : OpensList told p parts width l d q x (record x { scope = s }) old new a c
      opens_so = record {
        opens = o;
        gives = all_given;
        main = main_so;
        amid = record {
          now = d;
          held = subst (λ xs. IsAmong (T, d) xs) (sym (ap (λ (z : Seen V). z.seat.opened) f.tree)) (among_last b.seat.opened (T, d));
          opened = fresh.0;
          has = none_listed;
          before = given a.seat;
          parts_given = h.parts_given;
          gave = all_given;
          usable = scopes.usable k (subst (λ i. IsOpenScope b i) w.is w.usable);
          part = h.part;
          scope = w.is;
          table = h.table;
          leased = let e = h.whole in omega (e, arith);
          few = omega arith;
          good = tt;
        };
        unread = fresh.1;
        now = ap (λ i. let z : Outer = record x { scope = i } in z) w.is;
        keeps = others_then (T + 1) (T + 1) a b c (omega arith) (others_kept (T + 1) a b w.guests) (acquired_keeps (ends told) k T (d ∷ []) b c f (T + 1) (omega arith));
        rows = rows_then a b c w.rows (acquired_rows (ends told) k T (d ∷ []) b c f);
        paid = let e = w.events in let v = owes in let z : c.seat.spare ≡ b.seat.spare - 1 = ap (λ (y : Seen V). y.seat.spare) f.tree in let r = row_free in omega (e, v, z, r, arith);
      }

-- the error that is handed on
pub tries_badly : {V : Type 0} (told : V → DeviceTold) (p : PlanMeant) (parts : List OuterPart) (width : ℕ) (l : ListSpec) (q : Progress V) (x z : Outer) (old new : DepotTold) (a b : Seen V) (e : Result (Unit {0}) NotRead) (why : NotRead) → IsErrAnd e (λ v. v ≡ why) → FailsList told p parts width l why q x z old new a b → TriesList told p parts width l q x z old new a b e
tries_badly told p parts width l q x z old new a b (Ok u) why is f = absurd is
tries_badly told p parts width l q x z old new a b (Err w) why is f = subst (λ v. FailsList told p parts width l v q x z old new a b) (sym is) f
