-- How the outer stream stands once it is in its list.
use Rattle.std.proofs.Common.{◌≡◌, ◌≢◌, ◌⊎◌, ℕ, zero, suc, ◌+◌, ◌-◌, ◌<◌, ◌≤◌, Bool, List, [], ◌∷◌, ◌++◌, append_assoc, append-nil, length, Option, Some, None, inl, inr, refl, sym, ap, ◌∙◌, subst, ⊎_elim, arith}
use Rattle.std.specs.List.{AllByRecursion}
use Rattle.std.specs.Prelude.{IfSome, IsSome, Result, Ok, Err, option_map}
use Rattle.chunk_core.specs.Lists.{IsAmong}
use Rattle.chunk_core.specs.Outcomes.{End}
use Rattle.chunk_core.specs.declared.code.Exit.TheVariants.{Succeeded}
use Rattle.chunk_core.specs.declared.code.How.{How}
use Rattle.chunk_core.specs.declared.code.How.TheVariants as how
use Rattle.chunk_core.proofs.Filters.{among_append, among_filter, among_right}
use Rattle.chunk_core.proofs.Members.{among_left}
use Rattle.chunk_core.specs.Lists.IsAmong.{here, there}
use Rattle.csv_pipes.specs.Dictionaries.{Dictionary}
use Rattle.device_port.specs.Depot.{DepotTold, Files}
use Rattle.device_port.specs.Device.{DeviceTold}
use Rattle.join_tree.specs.Given.{GivesMore, given}
use Rattle.join_tree.specs.Steps.{KeepsRows}
use Rattle.list_lines.specs.Lists.{end_of}
use Rattle.list_rows.specs.Reading.{KeepsRowsBut}
use Rattle.outer_source.specs.Lists.{HasListed, list_closing, list_notes}
use Rattle.outer_stream.specs.Parts.{FollowParts, Gave}
use Rattle.outer_stream.specs.Pulls.{how_unread}
use Rattle.outer_stream.specs.declared.next.OuterPart.{OuterPart}
use Rattle.outer_tables.specs.Outcomes.{ComeOut}
use Rattle.outer_tables.specs.Outcomes.ComeOut.{closed, cut, none, read, refused, unmade, unread}
use Rattle.outer_tables.specs.declared.not_read.NotRead.{NotRead}
use Rattle.outer_tables.specs.declared.not_read.NotRead.TheVariants as why
use Rattle.pipeline_desc.specs.Meant.{PlanMeant}
use Rattle.pipeline_desc.specs.Sound.{IsSoundPlan}
use Rattle.pipeline_desc.specs.declared.listing.ListSpec.{ListSpec}
use Rattle.pipeline_desc.specs.declared.table.TableSpec.{TableSpec}
use Rattle.plan_work.specs.Listed.{lister_of}
use Rattle.res_ledger.specs.Ledger.{Notes}
use Rattle.res_ledger.specs.declared.event.StreamNo.TheVariants.{Outer as outer_name}
use Rattle.res_ledger.specs.declared.event.What.{What}
use Rattle.res_ledger.specs.declared.event.What.TheVariants.{Acquire, Close, Open}
use Rattle.res_ledger.proofs.Noted.{own_notes}
use Rattle.run_rules.specs.Facts.{at}
use Rattle.run_rules.specs.Giving.{giving_children, is_giving, leases_for}
use Rattle.run_rules.specs.Work.{list_parts}
use Rattle.scope_tree.specs.Calls.{Seen}
use Rattle.scope_tree.specs.Trace.{trace}
use Rattle.dealt_streams.specs.Moves.{AreMoved, Move, Tried, tried_of}
use Rattle.dealt_streams.specs.Moves.Move.{Dealt, Gave as Gave_line, Opened, Read}
use Rattle.dealt_streams.specs.Standing.{ArePartsTried, EndsRead, IsListRow, StandsBy, StandsList, all_given, group_part, list_end, plan_parts}
use Rattle.dealt_streams.specs.Standing.ArePartsTried.{none as none_tried, read as part_read, unread as part_unread}
use Rattle.dealt_streams.specs.Standing.StandsList.{failed, held, lacking}
use Rattle.collector.proofs.AllGiven.{all_parts_given, list_left}
use Rattle.collector.proofs.Gaving.{all_front}
use Rattle.collector.proofs.Lists.{map_length}
use Rattle.collector.proofs.PlanParts.{plan_follow, streams_all, streams_up}
use Rattle.collector.proofs.Standing.{HasRead, none_some, tables_told}
use Rattle.collector.proofs.Visible.{follow_below, path_count}

-- The rows of tables lie below that of the list.

-- no more devices were opened than there are paths
come_few : {V : Type 0} {told : V → DeviceTold} {files : Option Files} {n : ℕ} {paths : List (List ℕ)} {ds : List V} {back : List DeviceTold} {bss : List (List ℕ)} {o : Option NotRead} → ComeOut told files n paths ds back bss o → length ds ≤ length paths
come_few (none) = omega arith
come_few (read d gives ok rest) = let l = come_few rest in omega (arith, l)
come_few (closed) = omega arith
come_few (unread d was) = omega arith
come_few (refused d bytes f gives bad) = omega arith
come_few (unmade) = omega arith
come_few (cut d was) = omega arith

abbrev pub AreFew : {V : Type 0} → List (Tried V) → Type 0
AreFew xs = AllByRecursion (λ x. length x.devices ≤ length x.paths) xs

abbrev pub AreLow : {V : Type 0} → ℕ → List (Tried V) → Type 0
AreLow most xs = AllByRecursion (λ x. x.row + length x.devices ≤ most) xs

pub moved_few : {V F : Type 0} (told : V → DeviceTold) (p : PlanMeant) (before : List (Move V F)) (old : DepotTold) (moves : List (Move V F)) (new : DepotTold) → AreMoved told p before old moves new → AreFew (tried_of moves)
moved_few told p before old [] new h = tt
moved_few told p before old (Read x ∷ ms) new h = (come_few h.1.out, moved_few told p (before ++ Read x ∷ []) h.0 ms new h.2)
moved_few told p before old (Opened r ∷ ms) new h = moved_few told p (before ++ Opened r ∷ []) h.0 ms new h.2
moved_few told p before old (Gave_line line ∷ ms) new h = moved_few told p (before ++ Gave_line line ∷ []) h.0 ms new h.2
moved_few told p before old (Dealt x ∷ ms) new h = moved_few told p (before ++ Dealt x ∷ []) h.0 ms new h.2

-- each part that was tried has its rows among those of all tables
pub tried_low : {V : Type 0} (tables : List TableSpec) (n t s : ℕ) (ps : List OuterPart) → FollowParts t s ps (length tables) n → {xs : List (Tried V)} {o : Option NotRead} → ArePartsTried tables ps xs o → AreFew xs → AreLow (length tables) xs
tried_low tables n t s ps f (none_tried) few = tt
tried_low tables n t s (p ∷ ps) f (part_read q x own lack rest) few =
    let low = f.1 in
    let from = f.0 in
    let high = follow_below p.tables.to p.behind ps (length tables) n f.3 in
    let paths = ap (λ (xs : List (List ℕ)). length xs) own.paths ∙ path_count tables p.tables.from p.tables.to (omega (arith, from, low)) high in
    let devices = few.0 in
    let row = own.row in
    (omega (arith, low, from, high, paths, devices, row), tried_low tables n p.tables.to p.behind ps f.3 rest few.1)
tried_low tables n t s (p ∷ ps) f (part_unread q x w own lack) few =
    let low = f.1 in
    let from = f.0 in
    let high = follow_below p.tables.to p.behind ps (length tables) n f.3 in
    let paths = ap (λ (xs : List (List ℕ)). length xs) own.paths ∙ path_count tables p.tables.from p.tables.to (omega (arith, from, low)) high in
    let devices = few.0 in
    let row = own.row in
    (omega (arith, low, from, high, paths, devices, row), tt)

pub rows_but : {P : Type 0} (r : ℕ) (a b : Seen P) → KeepsRows a.seat b.seat → KeepsRowsBut r a.seat b.seat
rows_but r a b k = record { noted = k.noted; left = k.left; given = k.given; opened = λ y n m. k.opened y m }

at_less : {A : Type 0} (xs : List A) (i : ℕ) (x : A) → at xs i ≡ Some x → i < length xs
at_less [] i x e = absurd cc
at_less (y ∷ xs) zero x e = omega arith
at_less (y ∷ xs) (suc i) x e = let l = at_less xs i x e in omega (arith, l)

-- What was read stays read while the list is opened and read, where no row but the list's is acquired.
pub has_on : {V : Type 0} (p : PlanMeant) {openings : List (Result V NotRead)} {xs : List (Tried V)} {begun : ℕ} {dicts : List Dictionary} (again : List (Result V NotRead)) (a b : Seen V) → KeepsRowsBut (length p.tables) a.seat b.seat → AreLow (length p.tables) xs → (E : List What) → GivesMore E a b
    → ((r s : ℕ) → IsAmong (Acquire r s) E → IsListRow (length p.tables) again r) → ((r : ℕ) → IsListRow (length p.tables) openings r → IsListRow (length p.tables) again r) → HasRead p openings xs begun dicts a → HasRead p again xs begun dicts b
has_on {V = V} p {xs = xs} again a b rows low E gives new old h = record {
  tried = h.tried;
  count = h.count;
  dicts_are = h.dicts_are;
  given_so = older xs h.given_so;
  pays = paid xs low h.pays;
  acquired = λ r s m. ⊎_elim (λ i. ⊎_elim (λ t. inl t) (λ l. inr (old r l)) (h.acquired r s i)) (λ i. inr (new r s i)) (among_append (Acquire r s) (given a.seat) E (subst (λ l. IsAmong (Acquire r s) l) gives m));
}
  where
    older : (zs : List (Tried V)) → AllByRecursion (λ z. (i : ℕ) → i < length z.devices → (s : ℕ) × IsAmong (Acquire (z.row + i) s) (given a.seat)) zs → AllByRecursion (λ z. (i : ℕ) → i < length z.devices → (s : ℕ) × IsAmong (Acquire (z.row + i) s) (given b.seat)) zs
    older [] q = tt
    older (z ∷ zs) q = (λ i l. let n = q.0 i l in (n.0, subst (λ l. IsAmong (Acquire (z.row + i) n.0) l) (sym gives) (among_left E n.1)), older zs q.1)

    paid : (zs : List (Tried V)) → AreLow (length p.tables) zs → AllByRecursion (λ z. (i : ℕ) (d : V) → at z.devices i ≡ Some d → IsAmong (z.row + i, d) a.seat.opened ⊎ IsAmong (z.row + i, d) a.seat.left) zs → AllByRecursion (λ z. (i : ℕ) (d : V) → at z.devices i ≡ Some d → IsAmong (z.row + i, d) b.seat.opened ⊎ IsAmong (z.row + i, d) b.seat.left) zs
    paid [] l q = tt
    paid (z ∷ zs) l q = (
      λ i d e.
          let less = at_less z.devices i d e in
          let most = l.0 in
          ⊎_elim (λ o. rows.opened (z.row + i, d) (λ (same : z.row + i ≡ length p.tables). absurd (omega (arith, less, most, same))) o) (λ m. inr (rows.left (z.row + i, d) m)) (q.0 i d e),
      paid zs l.1 q.1,
    )

-- What is noted of the list.
module _ (p : PlanMeant) (sound : IsSoundPlan p) (l : ListSpec) (is : p.list ≡ Some l) (lines : List (List ℕ)) where
  abbrev k : ℕ
  k = length (plan_parts p)

  abbrev T : ℕ
  T = length p.tables

  abbrev n : ℕ
  n = length p.streams

  pub unlisted : p.list ≡ None → length lines ≡ 0
  unlisted e = none_some l (sym e ∙ is)

  pub list_all : list_left p sound lines unlisted ≡ list_notes k T n (length lines) ++ Close k Succeeded ∷ []
  list_all =
      let number : suc (length p.groups) ≡ k = ap suc (sym (map_length group_part p.groups)) in
      ap (λ o. giving_children (suc (length p.groups)) T n (list_parts (option_map (lister_of p lines) o))) is ∙ ap (λ i. list_notes i T n (length lines) ++ Close i Succeeded ∷ []) number

  module _ {t : ℕ} {before : List What} (g : Gave (plan_parts p) k 0 t n n before) where
    -- the list was done, and all was noted
    pub all_noted : (before ++ list_notes k T n (length lines)) ++ Close k Succeeded ∷ [] ≡ all_given p lines
    all_noted = append_assoc before (list_notes k T n (length lines)) (Close k Succeeded ∷ []) ∙ (ap (λ x. before ++ x) (sym list_all) ∙ (ap (λ x. x ++ list_left p sound lines unlisted) (all_front (plan_parts p) g) ∙ all_parts_given p sound lines unlisted))

    -- it is a front of that, however the list ends
    pub ended_noted : (h : How) (E : List What) → E ≡ (before ++ list_notes k T n (length lines)) ++ list_closing k h → (rest : List What) × (E ++ rest ≡ all_given p lines)
    ended_noted how.Done E e = ([], append-nil E ∙ (e ∙ all_noted))
    ended_noted how.Halted E e = (Close k Succeeded ∷ [], ap (λ x. x ++ Close k Succeeded ∷ []) (e ∙ append-nil (before ++ list_notes k T n (length lines))) ∙ all_noted)
    ended_noted (how.Fault f) E e = (Close k Succeeded ∷ [], ap (λ x. x ++ Close k Succeeded ∷ []) (e ∙ append-nil (before ++ list_notes k T n (length lines))) ∙ all_noted)
    ended_noted how.Memory E e = (Close k Succeeded ∷ [], ap (λ x. x ++ Close k Succeeded ∷ []) (e ∙ append-nil (before ++ list_notes k T n (length lines))) ∙ all_noted)

    pub ended_read : (h : How) (E : List What) → E ≡ (before ++ list_notes k T n (length lines)) ++ list_closing k h → EndsRead p lines E h
    ended_read how.Done E e = e ∙ all_noted
    ended_read how.Halted E e = tt
    ended_read (how.Fault f) E e = subst (λ o. IsSome o) (sym is) refl
    ended_read how.Memory E e = tt

    -- so it is where the device of the list wasn't opened
    pub failed_noted : (E : List What) → E ≡ before ++ Open k 0 ∷ [] → (rest : List What) × (E ++ rest ≡ all_given p lines)
    failed_noted E e =
        let rest = Acquire T k ∷ (leases_for k n (length lines) ++ Close k Succeeded ∷ []) in
        (rest, ap (λ x. x ++ rest) e ∙ (append_assoc before (Open k 0 ∷ []) rest ∙ (sym (append_assoc before (list_notes k T n (length lines)) (Close k Succeeded ∷ [])) ∙ all_noted)))

    -- so it is while the list goes on
    pub amid_noted : (E : List What) → E ≡ before ++ list_notes k T n (length lines) → (rest : List What) × (E ++ rest ≡ all_given p lines)
    amid_noted E e = (Close k Succeeded ∷ [], ap (λ x. x ++ Close k Succeeded ∷ []) e ∙ all_noted)

-- its row was acquired
pub acquired_there : (before : List What) (k T n m : ℕ) → IsAmong (Acquire T k) (before ++ list_notes k T n m)
acquired_there before k T n m = among_right (Acquire T k) before (list_notes k T n m) (there (Open k 0) (here (leases_for k n m)))

pub noted_there : {V : Type 0} (b : Seen V) → b.seat.by ≡ outer_name → (r s : ℕ) → IsAmong (Acquire r s) (given b.seat) → (s : ℕ) × Notes b.seat.events outer_name (Acquire r s)
noted_there b by r s i =
    let t = (among_filter is_giving (Acquire r s) (trace b.seat) i).0 in
    (s, subst (λ k. Notes b.seat.events k (Acquire r s)) by (own_notes b.seat.events b.seat.by (Acquire r s) t))

pub end_is : (p : PlanMeant) (h : How) → end_of h ≡ list_end p None (Some h)
end_is p how.Done = refl
end_is p how.Halted = refl
end_is p (how.Fault f) = refl
end_is p how.Memory = refl

module _ {V : Type 0} (told : V → DeviceTold) (p : PlanMeant) where
  -- the list as it stands, whose device is in its row or was left there
  pub list_held : {l : ListSpec} {first now : V} {lines : List (List ℕ)} {e : End} (b : Seen V) → b.seat.by ≡ outer_name → IsAmong (length p.tables, now) b.seat.opened ⊎ IsAmong (length p.tables, now) b.seat.left → HasListed told p l first now lines e → (s : ℕ) → IsAmong (Acquire (length p.tables) s) (given b.seat) → StandsList p told l (Ok first ∷ []) lines e b
  list_held {first = first} {now = now} b by pay h s i = held first now h.faults refl pay h.reads h.failed h.listing h.in_time (noted_there b by (length p.tables) s i) h.few

  -- or its device couldn't be opened
  pub list_failed : (l : ListSpec) (b : Seen V) (f : NotRead) (h : How) → h ≡ how_unread f → StandsList p told l (Err f ∷ []) [] (list_end p None (Some h)) b
  list_failed l b (why.Fault f) h e = failed f refl refl (ap (λ x. list_end p None (Some x)) e)
  list_failed l b why.Memory h e = lacking refl refl (ap (λ x. list_end p None (Some x)) e)

  -- The outer stream behind its parts, all of whose tables were read.
  pub stands_behind : {openings : List (Result V NotRead)} {lines : List (List ℕ)} {xs : List (Tried V)} {dicts : List Dictionary} (leased : ℕ) (over : Option How) (m : Bool) (b : Seen V) → IsSoundPlan p → HasRead p openings xs (length (plan_parts p)) dicts b → b.seat.by ≡ outer_name
      → length p.streams ≤ leased → length lines ≡ leased - length p.streams → (rest : List What) × (given b.seat ++ rest ≡ all_given p lines) → IfSome p.list (λ l. StandsList p told l openings lines (list_end p None over) b) → IfSome over (EndsRead p lines (given b.seat)) → (p.take ≢ Some 0)
      → StandsBy p told xs openings lines (length (plan_parts p)) leased dicts over m b
  stands_behind {xs = xs} leased over m b sound h by more count noted list ended wanted =
      let f = plan_follow p sound in
      let c = h.count in
      record {
        lack = None;
        tried = h.tried;
        rows = tables_told told p h by;
        read = λ e. (c, h.dicts_are);
        unread = λ w e. none_some w e;
        turns = λ i l. let u = streams_up (plan_parts p) (length p.tables) (length p.streams) f i (length (plan_parts p)) (omega (arith, l, c)) (omega arith) in let all = streams_all (plan_parts p) (length p.tables) (length p.streams) f in omega (arith, u, all, more);
        ahead = λ i low high. absurd (omega (arith, low, high));
        behind = λ o i. (refl, c, more);
        lines_are = count;
        noted = noted;
        acquired = h.acquired;
        list = list;
        ended = λ e. ended;
        nobody = λ w. absurd (wanted w);
      }
