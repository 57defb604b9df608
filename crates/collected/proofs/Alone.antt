-- A path that a stream of a plan writes to is that of no other row, whichever lines of its list were given streams.
use Rattle.std.proofs.Common.{◌≡◌, ℕ, zero, suc, ◌-◌, ◌<◌, ◌≤◌, Bool, true, false, if◌then◌else◌, List, [], ◌∷◌, ◌++◌, length, map, Option, Some, None, refl, sym, ◌∙◌, ap, subst, ⊎_elim, append_assoc}
use Rattle.std.proofs.lemmas.Bool.{cases_lt, false≢true}
use Rattle.std.proofs.lemmas.Slice.Eq.{bytes_eq-Decides}
use Rattle.std.specs.List.{flat_map}
use Rattle.std.specs.Prelude.{option_map, option_to_list, slice_get}
use Rattle.std.specs.Str.{bytes_eq}
use Rattle.channel_bounded.specs.Ends.{ReceiverSeen}
use Rattle.chunk_core.specs.Elements.{Element}
use Rattle.chunk_core.specs.Lists.{IsAmong}
use Rattle.chunk_core.specs.Lists.IsAmong.{here, there}
use Rattle.chunk_core.specs.Outcomes.{End, Fault}
use Rattle.chunk_core.specs.Tables.{Values}
use Rattle.chunk_core.specs.declared.code.Code.TheVariants as code
use Rattle.chunk_core.specs.declared.code.How.{How}
use Rattle.chunk_core.proofs.Bools.{any_at, or_right}
use Rattle.chunk_core.proofs.Filters.{among_append}
use Rattle.chunk_core.proofs.Members.{among_cons, among_nil}
use Rattle.device_port.specs.Device.{Place, DeviceTold, to_read, to_write}
use Rattle.device_port.specs.Depot.{DepotTold}
use Rattle.device_port.specs.declared.device.Mode.TheVariants as mode
use Rattle.join_tale.specs.Tales.{Tale}
use Rattle.pipeline_desc.specs.Meant.{PlanMeant}
use Rattle.pipeline_desc.specs.Places.{all_places, list_places, second_path, stream_places, table_places}
use Rattle.pipeline_desc.specs.Sound.{IsSoundPlan}
use Rattle.pipeline_desc.specs.declared.listing.ListSpec.{ListSpec}
use Rattle.pipeline_desc.specs.declared.stream.Second.{Second}
use Rattle.pipeline_desc.specs.declared.stream.StreamSpec.{StreamSpec}
use Rattle.pipeline_desc.specs.declared.table.TableSpec.{TableSpec}
use Rattle.pipeline_desc.proofs.Alone.{written_alone}
use Rattle.plan_work.specs.Listed.{is_bad_line, is_output, listed_specs, lister_of}
use Rattle.plan_work.specs.Plans.{stream_of}
use Rattle.pull_turns.specs.Piping.{StateMeaning}
use Rattle.res_ledger.proofs.Noted.{flat_found}
use Rattle.row_seat.specs.declared.view.View.{View}
use Rattle.run_rules.specs.Facts.{at}
use Rattle.run_rules.specs.Listing.{ListedLines, line_bytes, listing_of}
use Rattle.run_rules.specs.Work as work
use Rattle.scope_tree.specs.Calls.{Seen}
use Rattle.stream_parts.specs.Retire.{AreWrittenAlone}
use Rattle.joined_runs.proofs.MadeRows.{place_found}
use Rattle.joined_runs.proofs.OuterFaults.{if_there}
use Rattle.joined_runs.proofs.RowPlaces.{at_left, at_right}
use Rattle.collected.specs.Collected.{IsCollected}
use Rattle.dealt_streams.specs.Moves.{lines_of, opened_of}
use Rattle.dealt_streams.specs.Standing.{StandsList, list_end}
use Rattle.dealt_streams.specs.Standing.StandsList.{unopened, failed, lacking, held}
use Rattle.dealt_streams.specs.declared.leftover.Leftover.{Leftover}
use Rattle.collected.proofs.PlanPlaces.{plan_rows}

-- No line that was given a stream is bad.

module _ (bad : List ℕ → Bool) where
  behind_first : (y : Element) (rest : ListedLines) (b : Bool) → bad (line_bytes y) ≡ b → ((line : List ℕ) → IsAmong line rest.lines → bad line ≡ false) → (line : List ℕ)
      → IsAmong line (if◌then◌else◌ {A = ListedLines} b (record { lines = []; end = Fault code.BadPath }) (record { lines = line_bytes y ∷ rest.lines; end = rest.end })).lines → bad line ≡ false
  behind_first y rest true e h line m = absurd (among_nil m)
  behind_first y rest false e h line m = ⊎_elim (λ s. ap bad s ∙ e) (h line) (among_cons m)

  none_bad : (n : ℕ) (ys : List Element) (e : End) (line : List ℕ) → IsAmong line (listing_of n bad ys e).lines → bad line ≡ false
  none_bad zero [] e line m = absurd (among_nil m)
  none_bad (suc n) [] e line m = absurd (among_nil m)
  none_bad zero (y ∷ ys) e line m = absurd (among_nil m)
  none_bad (suc n) (y ∷ ys) e line m = behind_first y (listing_of n bad ys e) (bad (line_bytes y)) refl (none_bad n ys e) line m

-- The rows of a plan.

at_slice : {A : Type 0} (xs : List A) (i : ℕ) → at xs i ≡ slice_get xs i
at_slice [] i = refl
at_slice (x ∷ xs) zero = refl
at_slice (x ∷ xs) (suc i) = at_slice xs i

-- those of the lines that were given streams
abbrev listed_places : Option ListSpec → List (List ℕ) → List Place
listed_places o lines = flat_map (λ s. s.places) (map stream_of (listed_specs o lines))

streams_parted : (ss ls : List StreamSpec) → flat_map (λ s. s.places) (map stream_of (ss ++ ls)) ≡ flat_map stream_places ss ++ flat_map (λ s. s.places) (map stream_of ls)
streams_parted [] ls = refl
streams_parted (s ∷ ss) ls = ap (λ l. stream_places s ++ l) (streams_parted ss ls) ∙ sym (append_assoc (stream_places s) (flat_map stream_places ss) (flat_map (λ s. s.places) (map stream_of ls)))

list_same : (p : PlanMeant) (lines : List (List ℕ)) (o : Option ListSpec) → work.list_places (option_map (lister_of p lines) o) ≡ list_places o
list_same p lines None = refl
list_same p lines (Some l) = refl

-- those that are described, and behind them those of lines
rows_parted : (p : PlanMeant) (lines : List (List ℕ)) → plan_rows p lines ≡ all_places p.tables p.list p.streams ++ listed_places p.list lines
rows_parted p lines =
    let streams = flat_map stream_places p.streams in
    let listed = listed_places p.list lines in
    ap (λ l. (table_places p.tables ++ l) ++ flat_map (λ s. s.places) (map stream_of (p.streams ++ listed_specs p.list lines))) (list_same p lines p.list)
    ∙ (ap (λ l. (table_places p.tables ++ list_places p.list) ++ l) (streams_parted p.streams (listed_specs p.list lines))
    ∙ (sym (append_assoc (table_places p.tables ++ list_places p.list) streams listed) ∙ ap (λ l. l ++ listed) (append_assoc (table_places p.tables) (list_places p.list) streams)))

record IsListed (o : Option ListSpec) (lines : List (List ℕ)) (x : Place) : Type 0 where
  list : ListSpec
  is : o ≡ Some list
  line : List ℕ
  among : IsAmong line lines
  place : x ≡ to_read line

listed_place : (o : Option ListSpec) (lines : List (List ℕ)) (i : ℕ) (x : Place) → at (listed_places o lines) i ≡ Some x → IsListed o lines x
listed_place None lines i x e = absurd (let f : None ≡ Some x = e in cc)
listed_place (Some l) [] i x e = absurd (let f : None ≡ Some x = e in cc)
listed_place (Some l) (line ∷ lines) zero x e = let same : to_read line ≡ x = cc in record { list = l; is = refl; line = line; among = here lines; place = sym same }
listed_place (Some l) (line ∷ lines) (suc i) x e = let r = listed_place (Some l) lines i x e in record { list = r.list; is = r.is; line = r.line; among = there line r.among; place = r.place }

-- Which paths are written.

not_written : (path : List ℕ) (a : Place) → a ≡ to_read path → a.mode ≡ mode.Write → ⊥
not_written path a e writes = let both : mode.Read ≡ mode.Write = sym (ap (λ (p : Place). p.mode) e) ∙ writes in cc

read_alone : (path : List ℕ) (o : Option Second) (a : Place) → IsAmong a (to_read path ∷ option_to_list (option_map to_read (second_path o))) → a.mode ≡ mode.Write → ⊥
read_alone path None a i writes = ⊎_elim (λ e. not_written path a e writes) among_nil (among_cons i)
read_alone path (Some second) a i writes = ⊎_elim (λ e. not_written path a e writes) (λ m. ⊎_elim (λ e. not_written second.path a e writes) among_nil (among_cons m)) (among_cons i)

written_to : (to : Option (List ℕ)) (path : List ℕ) (o : Option Second) (a : Place) → IsAmong a (option_to_list (option_map to_write to) ++ to_read path ∷ option_to_list (option_map to_read (second_path o))) → a.mode ≡ mode.Write
    → elim to [ Some t ↦ bytes_eq t a.path | None ↦ false ] ≡ true
written_to None path o a i writes = absurd (read_alone path o a i writes)
written_to (Some to) path o a i writes = ⊎_elim (λ e. (bytes_eq-Decides to a.path).1 (sym (ap (λ (p : Place). p.path) e))) (λ m. absurd (read_alone path o a m writes)) (among_cons i)

module _ (p : PlanMeant) where
  tables_read : (tables : List TableSpec) (a : Place) → IsAmong a (table_places tables) → a.mode ≡ mode.Write → ⊥
  tables_read [] a i writes = among_nil i
  tables_read (t ∷ tables) a i writes = ⊎_elim (λ e. not_written t.path a e writes) (λ m. tables_read tables a m writes) (among_cons i)

  list_read : (o : Option ListSpec) (a : Place) → IsAmong a (list_places o) → a.mode ≡ mode.Write → ⊥
  list_read None a i writes = among_nil i
  list_read (Some l) a i writes = ⊎_elim (λ e. not_written l.path a e writes) among_nil (among_cons i)

  -- of the described rows one that is written is that of a stream's output
  output_of : (a : Place) → IsAmong a (all_places p.tables p.list p.streams) → a.mode ≡ mode.Write → is_output p a.path ≡ true
  output_of a i writes =
      ⊎_elim
      (λ m. absurd (tables_read p.tables a m writes))
      (λ m. ⊎_elim
      (λ n. absurd (list_read p.list a n writes))
      (λ n.
      let f = flat_found stream_places p.streams a n in
      any_at (λ (s : StreamSpec). elim s.to [ Some to ↦ bytes_eq to a.path | None ↦ false ]) f.0 p.streams f.1 (written_to f.0.to f.0.path f.0.second a f.2 writes))
      (among_append a (list_places p.list) (flat_map stream_places p.streams) m))
      (among_append a (table_places p.tables) (list_places p.list ++ flat_map stream_places p.streams) i)

  module _ (sound : IsSoundPlan p) (lines : List (List ℕ)) (good : (l : ListSpec) → p.list ≡ Some l → (line : List ℕ) → IsAmong line lines → is_bad_line p line ≡ false) where
    abbrev described : List Place
    described = all_places p.tables p.list p.streams

    abbrev listed : List Place
    listed = listed_places p.list lines

    parted_alone : AreWrittenAlone (described ++ listed)
    parted_alone r q x y is are writes path =
        ⊎_elim
        (λ (l : r < length described). ⊎_elim (λ (m : q < length described). both l m) (λ (m : length described ≤ q). absurd (clash l m)) (cases_lt q (length described)))
        (λ (l : length described ≤ r). let i = listed_place p.list lines (r - length described) x (sym (at_right described listed r l) ∙ is) in absurd (not_written i.line x i.place writes))
        (cases_lt r (length described))
      where
        first : r < length described → at described r ≡ Some x
        first l = sym (at_left described listed r l) ∙ is

        both : r < length described → q < length described → r ≡ q
        both l m = written_alone p sound r q x y (sym (at_slice described r) ∙ first l) (sym (at_slice described q) ∙ (sym (at_left described listed q m) ∙ are)) writes path

        clash : r < length described → length described ≤ q → ⊥
        clash l m =
            let i = listed_place p.list lines (q - length described) y (sym (at_right described listed q m) ∙ are) in
            let out = output_of x (place_found described r x (first l)) writes in
            let same : x.path ≡ i.line = path ∙ ap (λ (z : Place). z.path) i.place in
            let bad : is_bad_line p i.line ≡ true = or_right _ (is_output p i.line) (ap (is_output p) (sym same) ∙ out) in
            false≢true (sym (good i.list i.is i.line i.among) ∙ bad)

    -- so a path that is written stands alone
    pub rows_alone : AreWrittenAlone (plan_rows p lines)
    rows_alone = subst AreWrittenAlone (sym (rows_parted p lines)) parted_alone

module _ {S V F : Type 0} (view : S → View V) (told : V → DeviceTold) (P : Values → StateMeaning F) (p : PlanMeant) (limits : IsSoundPlan p) (d0 now : DepotTold) (outer : How) (b : Seen V) (left : List (Leftover V)) (receiver : ReceiverSeen) (tale : Tale) (h : IsCollected view told P p d0 now outer b left receiver tale) where
  lines_good : (l : ListSpec) → p.list ≡ Some l → (line : List ℕ) → IsAmong line (lines_of h.moves) → is_bad_line p line ≡ false
  lines_good l is line m = by_list (list_end p h.stands.lack (Some outer)) (if_there (λ q. StandsList p told q (opened_of h.moves) (lines_of h.moves) (list_end p h.stands.lack (Some outer)) b) p.list l is h.stands.list)
    where
      none : lines_of h.moves ≡ [] → is_bad_line p line ≡ false
      none e = absurd (among_nil (subst (λ ls. IsAmong line ls) e m))

      by_list : (g : End) → StandsList p told l (opened_of h.moves) (lines_of h.moves) g b → is_bad_line p line ≡ false
      by_list g (unopened opened e cut) = none e
      by_list g (failed f opened e end) = none e
      by_list g (lacking opened e cut) = none e
      by_list g (held first d faults opened pay was calm lists in_time noted within) =
          none_bad (is_bad_line p) l.max lists.0 lists.1 line (subst (λ ls. IsAmong line ls) (sym (ap (λ (x : ListedLines). x.lines) lists.3)) m)

  pub places_alone : AreWrittenAlone (plan_rows p (lines_of h.moves))
  places_alone = rows_alone p limits (lines_of h.moves) lines_good
