-- Behind the last part a list may be opened.
use Rattle.std.proofs.Common.{◌≡◌, ℕ, ◌≤◌, List, [], ◌∷◌, ◌++◌, filter, length, Option, Some, IfSome, refl, sym, ap, ◌∙◌, subst, arith}
use Rattle.std.proofs.lemmas.List.Elements.{filter-append}
use Rattle.chunk_core.specs.declared.code.How.{How}
use Rattle.chunk_core.specs.declared.code.How.TheVariants as how
use Rattle.device_port.specs.Device.{DeviceTold}
use Rattle.device_port.specs.Depot.{DepotTold}
use Rattle.join_tree.specs.Given.{GivesMore, given}
use Rattle.join_tree.specs.Notes.{is_table_note}
use Rattle.join_tree.specs.Progress.{Progress, reading}
use Rattle.outer_stream.specs.Parts.{Gave, closing}
use Rattle.outer_stream.specs.Parts.Gave.{left}
use Rattle.outer_stream.specs.Pulls.{Ends, Goes, IsOverBy, how_unread}
use Rattle.outer_stream.specs.Pulls.IsOverBy.{done, unleased, unread}
use Rattle.outer_stream.specs.declared.next.OuterPart.{OuterPart}
use Rattle.outer_stream.specs.declared.outer.Outer.{Outer}
use Rattle.outer_stream.proofs.Follow.{follow_done}
use Rattle.outer_stream.proofs.Gave.{closing_notes}
use Rattle.outer_tables.specs.declared.not_read.NotRead.{NotRead}
use Rattle.outer_tables.specs.declared.not_read.NotRead.TheVariants as why
use Rattle.pipeline_desc.specs.Meant.{PlanMeant, setting_at, stream_limit}
use Rattle.pipeline_desc.specs.Sound.{IsSoundList}
use Rattle.pipeline_desc.specs.declared.listing.ListSpec.{ListSpec}
use Rattle.pipeline_desc.specs.declared.table.TableSpec.{TableSpec}
use Rattle.scope_tree.specs.Calls.{Seen}
use Rattle.outer_source.specs.Pulls.{MayOpenList}
use Rattle.outer_source.specs.Standing.{HasRoomForList, IsAmidParts, IsSourceAt}
use Rattle.outer_source.specs.declared.source.OuterSource.{OuterSource}
use Rattle.outer_source.proofs.Standing.{left_unopened, most_with, room_goes}

append_same : {A : Type 0} (xs ys zs : List A) → xs ++ ys ≡ xs ++ zs → ys ≡ zs
append_same [] ys zs e = e
append_same (x ∷ xs) ys zs e = append_same xs ys zs (let t : xs ++ ys ≡ xs ++ zs = cc in t)

never_done : (w : NotRead) → how_unread w ≡ how.Done → ⊥
never_done (why.Fault f) e = cc
never_done why.Memory e = cc

there_is : {A : Type 0} (P : A → Type 0) (o : Option A) (a : A) → o ≡ Some a → IfSome o P → P a
there_is P o a is h = subst (λ z. IfSome z P) is h

module _ {V : Type 0} (told : V → DeviceTold) (parts : List OuterPart) (tables : List TableSpec) (n width N : ℕ) where
  -- it is over as done by its last part alone
  pub record IsDone (x y : Outer) (old new : DepotTold) (a b : Seen V) : Type 0 where
    pub all : x.part ≡ length parts
    pub whole : x.leased ≡ n
    pub now : y ≡ record x { scope = 0 }
    pub depot : new ≡ old
    pub gives : GivesMore (closing x.scope) a b

  pub done_so : {x y : Outer} {old new : DepotTold} {a b : Seen V} (h : How) → h ≡ how.Done → IsOverBy told parts tables n width N x y old new a b h → IsDone x y old new a b
  done_so h e (done all whole now depot gives) = record { all = all; whole = whole; now = now; depot = depot; gives = gives }
  done_so h e (unread w b) = absurd (never_done w e)
  done_so h e (unleased now depot same) = absurd cc

module _ {V : Type 0} (told : V → DeviceTold) (p : PlanMeant) (parts : List OuterPart) (width : ℕ) {q : Progress V} {x : OuterSource} {between last : Outer} {old depot made : DepotTold} {a mid c : Seen V} (s : IsSourceAt told p parts width [] [] q x a) (h : IsAmidParts told p parts x a) (l : ListSpec) (is : p.list ≡ Some l) (g : Goes told parts p.tables (length p.streams) width (stream_limit p) q x.outer between old depot a mid) (e : Ends told parts p.tables (length p.streams) width (stream_limit p) (reading q g.noted) between last depot made mid c how.Done) where
  abbrev T : ℕ
  T = length p.tables

  abbrev n : ℕ
  n = length p.streams

  abbrev k : ℕ
  k = length parts

  d : IsDone told parts p.tables n width (stream_limit p) between last depot made mid c
  d = done_so told parts p.tables n width (stream_limit p) how.Done refl e.cause

  closed : e.noted ≡ closing between.scope
  closed = append_same (given mid.seat) e.noted (closing between.scope) (sym e.gives ∙ d.gives)

  ends_at : (between.table ≡ T) × (between.behind ≡ n)
  ends_at = follow_done parts between.part between.table between.behind T n d.all g.now.amid.follow

  given_all : Gave parts k 0 T n n (given c.seat)
  given_all =
      let g0 : Gave parts k between.scope between.table between.behind between.leased (given mid.seat) = subst (λ i. Gave parts i between.scope between.table between.behind between.leased (given mid.seat)) d.all g.now.amid.gave in
      let g1 : Gave parts k between.scope T between.behind between.leased (given mid.seat) = subst (λ t. Gave parts k between.scope t between.behind between.leased (given mid.seat)) ends_at.0 g0 in
      let g2 : Gave parts k between.scope T n between.leased (given mid.seat) = subst (λ i. Gave parts k between.scope T i between.leased (given mid.seat)) ends_at.1 g1 in
      let g3 : Gave parts k between.scope T n n (given mid.seat) = subst (λ j. Gave parts k between.scope T n j (given mid.seat)) d.whole g2 in
      subst (λ E. Gave parts k 0 T n n E) (sym d.gives) (left g3)

  noted_so : (q.tables ++ g.noted) ++ e.noted ≡ filter is_table_note (given c.seat)
  noted_so =
      ap (λ E. E ++ e.noted) g.now.noted
      ∙ (ap (λ E. filter is_table_note (given mid.seat) ++ E) (closed ∙ (sym (closing_notes between.scope) ∙ ap (filter is_table_note) (sym closed)))
      ∙ (sym (filter-append is_table_note (given mid.seat) e.noted) ∙ ap (filter is_table_note) (sym e.gives)))

  room : HasRoomForList told p parts between mid
  room = room_goes told p parts width x g l (there_is (λ z. HasRoomForList told p parts x.outer a) p.list l is h.room)

  some_listed : 1 ≤ l.max
  some_listed = (there_is (IsSoundList (setting_at p.tables p.groups (length p.streams) (length p.streams)) (length p.streams)) p.list l is s.sound.list).some_listed

  pub may_open : MayOpenList told p parts width (reading (reading q g.noted) e.noted) last c
  may_open =
      let taken = e.room refl in record {
        some_parts = s.some_parts;
        main = e.main;
        root = s.root;
        noted = noted_so;
        parts_given = given_all;
        part = ap (λ (z : Outer). z.part) d.now ∙ d.all;
        table = ap (λ (z : Outer). z.table) d.now ∙ ends_at.0;
        leased = s.leased ∙ (sym g.leased ∙ sym e.leased);
        whole = e.leased ∙ d.whole;
        narrow = let w = s.narrow in let u = ap length g.keeps.out in let v = ap length e.keeps.out in omega (w, u, v, arith);
        row = e.keeps.empty T (omega arith) room.row;
        used = let u = taken.used in let v = taken.rows in let w = room.used in omega (u, v, w, arith);
        scopes = let u = taken.opens in let v = taken.scopes in let w = room.scopes in omega (u, v, w, arith);
        free =
            let m = most_with p l is in
            let o = some_listed in
            let y = g.leased in
            let z = e.leased in
            let f = d.whole in
            let t = s.may.leases (omega (m, o, y, f, arith)) in
            let left = left_unopened p x.list l is h.unopened in
            let u = g.paid in
            let v = e.paid in
            omega (t, left, u, v, y, z, arith);
      }
