-- How the outer stream stands, by other calls and by steps of its own.
use Rattle.std.proofs.Common.{◌≡◌, ℕ, ◌+◌, ◌*◌, ◌-◌, ◌<◌, ◌≤◌, List, [], append-nil, length, option_to_list, Option, Some, None, IfSome, Result, refl, sym, ap, ◌∙◌, subst, arith}
use Rattle.chunk_core.specs.Lists.{IsAmong}
use Rattle.chunk_core.specs.Outcomes.{End}
use Rattle.device_port.specs.Device.{DeviceTold}
use Rattle.device_port.specs.Depot.{DepotTold}
use Rattle.join_tree.specs.Given.{GivesMore, given}
use Rattle.join_tree.specs.Progress.{Progress}
use Rattle.outer_stream.specs.Parts.{Gave, IsAmid}
use Rattle.outer_stream.specs.Pulls.{Goes, IsOpenAt, Leases}
use Rattle.outer_stream.specs.declared.next.OuterPart.{OuterPart}
use Rattle.outer_stream.specs.declared.outer.Outer.{Outer}
use Rattle.outer_stream.proofs.Follow.{follow_within}
use Rattle.outer_stream.proofs.Gave.{gave_leased, opens_given}
use Rattle.outer_tables.specs.declared.not_read.NotRead.{NotRead}
use Rattle.pipeline_desc.specs.Meant.{PlanMeant, listed_limit, stream_limit}
use Rattle.pipeline_desc.specs.Places.{outer_rows}
use Rattle.pipeline_desc.specs.declared.listing.ListSpec.{ListSpec}
use Rattle.res_ledger.specs.Own.{opens}
use Rattle.scope_tree.specs.Calls.{KeepsScopes, Seen, TakesRoom, used}
use Rattle.scope_tree.specs.Trace.{trace}
use Rattle.scope_tree.specs.declared.leases.Lease.{Lease}
use Rattle.outer_source.specs.Lists.{IsAmidList}
use Rattle.outer_source.specs.Standing.{HasRoomForList, IsAmidAll, IsAmidParts, IsSourceAt, list_left, unpulled}
use Rattle.outer_source.specs.Standing.IsAmidAll.{in_list, in_parts}
use Rattle.outer_source.specs.declared.source.OuterSource.{OuterSource}

-- what holds of a list, where there is one
pub if_some : {A : Type 0} {P Q : A → Type 0} (o : Option A) → ((a : A) → P a → Q a) → IfSome o P → IfSome o Q
if_some None f h = tt
if_some (Some a) f h = f a h

-- with a list there may be so many streams
pub most_with : (p : PlanMeant) (l : ListSpec) → p.list ≡ Some l → stream_limit p ≡ length p.streams + l.max
most_with p l is = ap (λ o. length p.streams + listed_limit o) is

-- the events that are left for a list that wasn't opened
pub left_unopened : {L : Type 0} (p : PlanMeant) (o : Option L) (l : ListSpec) → p.list ≡ Some l → o ≡ None → list_left p.list o ≡ 4
left_unopened p o l is none = ap (λ q. list_left p.list q) none ∙ ap (λ q. 4 * length (option_to_list q)) is

module _ {V : Type 0} (told : V → DeviceTold) (p : PlanMeant) (parts : List OuterPart) where
  abbrev T : ℕ
  T = length p.tables

  abbrev n : ℕ
  n = length p.streams

  -- nothing more was noted
  same_given : (a b : Seen V) → GivesMore [] a b → given b.seat ≡ given a.seat
  same_given a b g = g ∙ append-nil (given a.seat)

  module _ (a b : Seen V) (gives : GivesMore [] a b) (scopes : KeepsScopes a b) (room : TakesRoom 0 0 a b) (opened : b.seat.opened ≡ a.seat.opened) (empty : (r : ℕ) → r < outer_rows p → IsAmong r a.seat.empty → IsAmong r b.seat.empty) where
    parts_stay : (x : OuterSource) → IsAmidParts told p parts x a → IsAmidParts told p parts x b
    parts_stay x h = record {
      amid = record {
        gave = subst (λ E. Gave parts x.outer.part x.outer.scope x.outer.table x.outer.behind x.outer.leased E) (sym (same_given a b gives)) h.amid.gave;
        follow = h.amid.follow;
        scope = scopes.usable x.outer.scope h.amid.scope;
        rows = λ r low high. empty r (omega (high, arith)) (h.amid.rows r low high);
        used = let u = room.used in let v = room.rows in let w = h.amid.used in omega (u, v, w, arith);
        scopes = let u = room.opens in let v = room.scopes in let w = h.amid.scopes in omega (u, v, w, arith);
      };
      unopened = h.unopened;
      room = room_stays p.list refl h.room;
    }
      where
        room_stays : (o : Option ListSpec) → o ≡ p.list → IfSome o (λ l. HasRoomForList told p parts x.outer a) → IfSome o (λ l. HasRoomForList told p parts x.outer b)
        room_stays None is r = tt
        room_stays (Some l) is r = record {
          row = empty T (let e = ap (λ o. length p.tables + length (option_to_list o)) is in omega (e, arith)) r.row;
          used = let u = room.used in let v = room.rows in let w = r.used in omega (u, v, w, arith);
          scopes = let u = room.opens in let v = room.scopes in let w = r.scopes in omega (u, v, w, arith);
        }

    list_stays : (l : ListSpec) (first : V) (lines : List (List ℕ)) (e : End) (x : Outer) → IsAmidList told p parts l first lines e x a → IsAmidList told p parts l first lines e x b
    list_stays l first lines e x h = record {
      now = h.now;
      held = subst (λ xs. IsAmong (T, h.now) xs) (sym opened) h.held;
      opened = h.opened;
      has = h.has;
      before = h.before;
      parts_given = h.parts_given;
      gave = same_given a b gives ∙ h.gave;
      usable = scopes.usable (length parts) h.usable;
      part = h.part;
      scope = h.scope;
      table = h.table;
      leased = h.leased;
      few = h.few;
      good = h.good;
    }

    -- calls that give nothing, and leave the open rows as they are, leave it as it stands
    pub amid_stays : {openings : List (Result V NotRead)} {lines : List (List ℕ)} {x : OuterSource} → IsAmidAll told p parts openings lines x a → IsAmidAll told p parts openings lines x b
    unfolding list_stays
    amid_stays {x = x} (in_parts h) = in_parts (parts_stay x h)
    amid_stays {lines = lines} {x = x} (in_list l first is h) = in_list l first is (record {
      amid = list_stays l first lines _ x.outer h.amid;
      reader = h.reader;
      is = h.is;
      at = h.at;
    })

  -- as it stands before the first pull
  pub unpulled_amid : (b : Seen V) → IsAmid parts T n unpulled.outer b → given b.seat ≡ [] → 1 ≤ length parts → used b ≡ 0 → outer_rows p ≤ b.rows → length parts + length (option_to_list p.list) ≤ b.scopes → ((r : ℕ) → r < outer_rows p → IsAmong r b.seat.empty) → IsAmidAll told p parts [] [] unpulled b
  unpulled_amid b amid nothing some none rows scopes empty = in_parts (record { amid = amid; unopened = refl; room = room p.list refl })
    where
      no_scopes : length (opens (trace b.seat)) ≡ 0
      no_scopes = ap length (sym (opens_given (trace b.seat)) ∙ ap opens nothing)

      room : (o : Option ListSpec) → o ≡ p.list → IfSome o (λ l. HasRoomForList told p parts unpulled.outer b)
      room None is = tt
      room (Some l) is =
          let e = ap (λ o. length (option_to_list o)) is in record {
            row = empty T (omega (e, arith));
            used = omega (none, rows, e, arith);
            scopes = omega (no_scopes, scopes, some, e, arith);
          }

  -- so many lines were given streams
  pub lines_are : {openings : List (Result V NotRead)} {lines : List (List ℕ)} {x : OuterSource} {b : Seen V} → IsAmidAll told p parts openings lines x b → (length lines ≡ x.outer.leased - n) × (x.outer.leased ≤ stream_limit p)
  lines_are {x = x} (in_parts h) =
      let l = gave_leased h.amid.gave in
      let s = (follow_within x.outer.table x.outer.behind _ T n h.amid.follow).1 in
      (omega (l, s, arith), omega (l, s, arith))
  lines_are {x = x} (in_list l first is h) =
      let e = h.amid.leased in
      let f = h.amid.few in
      let m = most_with p l is in
      (omega (e, arith), omega (e, f, m, arith))

  module _ (width : ℕ) where
    -- amid its parts it is pulled as an outer stream without a list
    pub open_at : (q : Progress V) (x : OuterSource) (a : Seen V) → IsSourceAt told p parts width [] [] q x a → IsAmidParts told p parts x a → IsOpenAt told parts p.tables n width (stream_limit p) q x.outer a
    open_at q x a s h = record {
      main = s.main;
      root = s.root;
      leased = s.leased;
      noted = s.noted;
      narrow = s.narrow;
      few = omega arith;
      small = let l = s.sound.few_streams in omega (l, arith);
      amid = h.amid;
      may = record {
        free = let f = s.may.free in omega (f, arith);
        leases = λ less. let f = s.may.leases (omega (less, arith)) in omega (f, less, arith);
      };
    }

    module _ {q : Progress V} (x : OuterSource) {between : Outer} {old depot : DepotTold} {a mid : Seen V} (g : Goes told parts p.tables n width (stream_limit p) q x.outer between old depot a mid) where
      pub room_goes : (l : ListSpec) → HasRoomForList told p parts x.outer a → HasRoomForList told p parts between mid
      room_goes l r = record {
        row = g.keeps.empty T (omega arith) r.row;
        used = let u = g.room.used in let v = g.room.rows in let w = r.used in omega (u, v, w, arith);
        scopes = let u = g.room.opens in let v = g.room.scopes in let w = r.scopes in omega (u, v, w, arith);
      }

      -- parts were begun
      pub goes_amid : IsAmidParts told p parts x a → IsAmidParts told p parts (record x { outer = between }) mid
      goes_amid h = record {
        amid = g.now.amid;
        unopened = h.unopened;
        room = if_some p.list room_goes h.room;
      }

      -- and the next stream was leased for
      pub leased_amid : {r : Progress V} {y : OuterSource} {b : Seen V} {lease : Lease} → IsAmidParts told p parts x a → Leases told parts p.tables n width (stream_limit p) r between y.outer mid b lease → y.list ≡ x.list → IsAmidParts told p parts y b
      leased_amid {y = y} {b = b} h l same = record {
        amid = l.amid;
        unopened = same ∙ h.unopened;
        room = if_some p.list (λ s r. leased_room (room_goes s r)) h.room;
      }
        where
          leased_room : HasRoomForList told p parts between mid → HasRoomForList told p parts y.outer b
          leased_room r = subst (λ (z : Outer). HasRoomForList told p parts z b) (sym l.now) (record {
            row = l.keeps.empty T (omega arith) r.row;
            used = let u = l.room.used in let v = l.room.rows in let w = r.used in omega (u, v, w, arith);
            scopes = let u = l.room.opens in let v = l.room.scopes in let w = r.scopes in omega (u, v, w, arith);
          })
