-- The main tree and the outer stream before the first pull.
use Rattle.std.proofs.Common.{◌≡◌, ◌≢◌, ℕ, suc, ◌+◌, ◌-◌, ◌*◌, ◌<◌, ◌≤◌, Bool, [], ◌++◌, filter, length, Option, Some, None, IfSome, option_to_list, refl, sym, ap, subst, arith}
use Rattle.chunk_core.specs.Lists.{IsAmong}
use Rattle.chunk_core.specs.Outcomes.{Cut}
use Rattle.chunk_core.specs.declared.code.How.{How}
use Rattle.chunk_core.specs.declared.code.How.TheVariants as how
use Rattle.chunk_core.proofs.Members.{among_nil}
use Rattle.device_port.specs.Device.{DeviceTold}
use Rattle.join_tree.specs.Given.{given}
use Rattle.join_tree.specs.Mains.{IsMain}
use Rattle.join_tree.specs.Notes.{is_table_note}
use Rattle.join_tree.specs.Progress.{none_done}
use Rattle.outer_stream.specs.Parts.{Gave, IsAmid}
use Rattle.outer_stream.specs.Parts.Gave.{nothing}
use Rattle.outer_source.specs.Standing.{HasRoomForList, IsAmidAll}
use Rattle.outer_source.specs.Standing.IsAmidAll.{in_parts}
use Rattle.pipeline_desc.specs.Meant.{PlanMeant, stream_limit}
use Rattle.pipeline_desc.specs.Places.{first_row, outer_rows, rows_of}
use Rattle.pipeline_desc.specs.Sound.{IsSoundPlan}
use Rattle.pipeline_desc.specs.declared.listing.ListSpec.{ListSpec}
use Rattle.pull_stepper.specs.Held.{FinishesDevice}
use Rattle.res_ledger.specs.Own.{opens}
use Rattle.res_ledger.specs.declared.event.What.TheVariants.{Acquire}
use Rattle.row_seat.specs.declared.view.View.{View}
use Rattle.row_seat.specs.Views.{IsWithin}
use Rattle.scope_tree.specs.Calls.{Seen, used}
use Rattle.scope_tree.specs.Trace.{owed, trace}
use Rattle.dealt_streams.specs.Standing.{EndsRead, StandsBy, StandsList, all_given, group_part, list_end, plan_parts}
use Rattle.dealt_streams.specs.Standing.ArePartsTried.{none}
use Rattle.dealt_streams.specs.Standing.StandsList.{unopened}
use Rattle.collector.specs.Starting.{IsFirstSeat, child_scopes, unpulled}
use Rattle.collector.specs.Trees.{KeepsTree, events_from}
use Rattle.collector.proofs.Lists.{map_length, run_there}
use Rattle.collector.proofs.PlanParts.{plan_follow}
use Rattle.collector.proofs.Standing.{none_some}
use Rattle.collector.proofs.Tree.{outer_room, rows_behind}

-- frames are wanted
pub take_some : (o : Option ℕ) → IfSome o (λ n. 1 ≤ n) → o ≢ Some 0
take_some None l e = cc
take_some (Some n) l e = let z : n ≡ 0 = cc in absurd (omega (arith, l, z))

module _ {V : Type 0} (p : PlanMeant) (a : View V) (first : IsFirstSeat p a) where
  -- the rows of the outer stream are there
  pub outer_empty : (r : ℕ) → r < outer_rows p → IsAmong r a.empty
  outer_empty r l =
      let t = outer_room p (stream_limit p) (omega arith) in
      let n = first.all_rows in
      subst (λ (v : View V). IsAmong r v.empty) (sym first.is) (run_there 0 first.rows r (omega arith) (omega (arith, l, t, n)))

  -- so are those of the streams
  pub stream_rows : (k r : ℕ) → k < stream_limit p → IsWithin (rows_of p k).from (rows_of p k).to r → IsAmong r a.empty
  stream_rows k r l w =
      let b = rows_behind p (stream_limit p - (k + 1)) (k + 1) (omega (arith, l)) in
      let z : k + 1 + (stream_limit p - (k + 1)) ≡ stream_limit p = omega (arith, l) in
      let c = subst (λ i. first_row p (k + 1) ≤ first_row p i) z b in
      let n = first.all_rows in
      let high = w.1 in
      subst (λ (v : View V). IsAmong r v.empty) (sym first.is) (run_there 0 first.rows r (omega arith) (omega (arith, high, c, n)))

  pub first_owes : owed a ≡ 1
  first_owes = ap (λ (v : View V). owed v) first.is

  -- there is room for the events of the outer stream, and for those behind
  pub first_spare : 1 + (2 * outer_rows p + 2 * child_scopes p) + stream_limit p + events_from p 0 ≤ a.spare
  first_spare = let s = ap (λ (v : View V). v.spare) first.is in let n = first.all_events in omega (arith, s, n)

  pub first_out : a.out ≡ []
  first_out = ap (λ (v : View V). v.out) first.is

  pub first_given : given a ≡ []
  first_given = ap (λ (v : View V). given v) first.is

  first_opens : length (opens (trace a)) ≡ 0
  first_opens = ap (λ (v : View V). length (opens (trace v))) first.is

module _ {V : Type 0} (told : V → DeviceTold) (p : PlanMeant) (sound : IsSoundPlan p) (a : Seen V) (first : IsFirstSeat p a.seat) (rows : outer_rows p ≤ a.rows) (used_none : used a ≡ 0) (scopes : 1 + child_scopes p ≤ a.scopes) (main : IsMain (FinishesDevice told) p.max_open (stream_limit p) a (none_done V)) where
  parts_count : length (plan_parts p) ≡ suc (length p.groups)
  parts_count = ap suc (map_length group_part p.groups)

  first_parts : IsAmid (plan_parts p) (length p.tables) (length p.streams) unpulled.outer a
  first_parts = record {
    gave = subst (λ E. Gave (plan_parts p) 0 0 0 0 0 E) (sym (first_given p a.seat first)) nothing;
    follow = plan_follow p sound;
    scope = main.root;
    rows = λ r low high. outer_empty p a.seat first r (omega (arith, high));
    used = omega (arith, rows, used_none);
    scopes = let o = first_opens p a.seat first in let c = parts_count in omega (arith, scopes, o, c);
  }

  list_room : (o : Option ListSpec) → p.list ≡ o → IfSome o (λ l. HasRoomForList told p (plan_parts p) unpulled.outer a)
  list_room None e = tt
  list_room (Some l) e =
      let one = ap (λ (z : Option ListSpec). length (option_to_list z)) e in
      record {
        row = outer_empty p a.seat first (length p.tables) (omega (arith, one));
        used = omega (arith, rows, used_none, one);
        scopes = let o = first_opens p a.seat first in let c = parts_count in omega (arith, scopes, o, c, one);
      }

  -- the outer stream is amid its parts, of which none was begun
  pub first_amid : IsAmidAll told p (plan_parts p) [] [] unpulled a
  first_amid = in_parts (record { amid = first_parts; unopened = refl; room = list_room p.list refl })

  -- the tree before the outer stream is pulled
  pub untouched_tree : (waits : ℕ) → waits ≡ 0 → KeepsTree p told waits a None unpulled [] 0 (none_done V)
  untouched_tree waits zero' = record {
    main = main;
    leased_is = refl;
    next_is = refl;
    root_is = refl;
    waits_are = refl;
    rows = tt;
    few = omega arith;
    some = λ e l. absurd (omega (arith, l, zero'));
    empty = λ k r low high w. stream_rows p a.seat first k r high w;
    splits = let s = ap (λ (v : View V). v.splits) first.is in let n = first.all_splits in omega (arith, s, n);
    spare = let s = first_spare p a.seat first in let o = first_owes p a.seat first in let c = parts_count in omega (arith, s, o, c);
    noted = λ e. sym (ap (λ E. filter is_table_note E) (first_given p a.seat first));
  }

module _ {V : Type 0} (told : V → DeviceTold) (p : PlanMeant) where
  unlisted_yet : (o : Option ListSpec) (b : Seen V) → IfSome o (λ l. StandsList p told l [] [] Cut b)
  unlisted_yet None b = tt
  unlisted_yet (Some l) b = unopened refl refl refl

  -- the outer stream that gave nothing
  pub untouched_outer : (over : Option How) (m : Bool) (b : Seen V) → given b.seat ≡ [] → list_end p None over ≡ Cut → IfSome over (EndsRead p [] (given b.seat)) → (p.take ≡ Some 0 → over ≡ Some how.Halted) → StandsBy p told [] [] [] 0 0 [] over m b
  untouched_outer over m b nothing_given cut ended nobody = record {
    lack = None;
    tried = none;
    rows = tt;
    read = λ e. (refl, tt);
    unread = λ w e. none_some w e;
    turns = λ i l. absurd (omega (arith, l));
    ahead = λ i l n. omega arith;
    behind = λ o i. absurd (among_nil i);
    lines_are = omega arith;
    noted = (all_given p [], ap (λ E. E ++ all_given p []) nothing_given);
    acquired = λ r s i. absurd (among_nil (subst (λ E. IsAmong (Acquire r s) E) nothing_given i));
    list = subst (λ e. IfSome p.list (λ l. StandsList p told l [] [] e b)) (sym cut) (unlisted_yet p.list b);
    ended = λ e. ended;
    nobody = λ w. (refl, refl, nobody w);
  }
