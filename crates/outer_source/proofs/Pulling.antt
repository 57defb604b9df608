-- The pulls of an outer stream with a list.
use Rattle.std.proofs.Common.{◌≡◌, ℕ, ◌+◌, false, true, List, [], ◌∷◌, ◌++◌, filter, length, Option, Some, None, is_some, Result, Ok, Err, refl, sym, ap, ◌∙◌, subst, arith}
use Rattle.std.proofs.lemmas.List.Elements.{filter-append}
use Rattle.chain_pipes.specs.Chains.{StandsFor}
use Rattle.chain_pipes.specs.declared.chain.Chain.{Chain}
use Rattle.chunk_core.specs.declared.code.Code.{Code}
use Rattle.chunk_core.specs.declared.code.How.{How}
use Rattle.chunk_core.specs.declared.code.How.TheVariants as how
use Rattle.device_port.specs.Device.{DeviceTold}
use Rattle.device_port.specs.Depot.{DepotTold}
use Rattle.join_tree.specs.Given.{given}
use Rattle.join_tree.specs.Notes.{is_table_note}
use Rattle.join_tree.specs.Progress.{Progress, reading}
use Rattle.list_lines.specs.Lists.{IsAt, IsUnread}
use Rattle.list_lines.specs.declared.lines.ListLines.{ListLines}
use Rattle.list_rows.specs.Reading.{KeepsRowsBut}
use Rattle.list_runs.specs.Meant.{list_meaning}
use Rattle.outer_stream.specs.Pulls.{Goes, IsOpenAt, Leases, Pulls, how_unread}
use Rattle.outer_stream.specs.Steps.{KeepsOthers}
use Rattle.outer_stream.specs.declared.next.Next.{Next as NextOfParts}
use Rattle.outer_stream.specs.declared.next.Next.TheVariants as next_part
use Rattle.outer_stream.specs.declared.next.OuterPart.{OuterPart}
use Rattle.outer_stream.specs.declared.outer.Outer.{Outer}
use Rattle.outer_stream.proofs.Keeping.{others_then}
use Rattle.outer_tables.specs.declared.not_read.NotRead.{NotRead}
use Rattle.outer_tables.specs.declared.not_read.NotRead.TheVariants as why
use Rattle.pipeline_desc.specs.Meant.{PlanMeant, stream_limit}
use Rattle.pipeline_desc.specs.Places.{outer_rows}
use Rattle.pipeline_desc.specs.declared.listing.ListSpec.{ListSpec}
use Rattle.pipeline_desc.specs.declared.table.TableSpec.{TableSpec}
use Rattle.res_ledger.specs.declared.event.What.{What}
use Rattle.res_ledger.specs.declared.event.What.TheVariants.{Acquire, Open}
use Rattle.scope_tree.specs.Calls.{Seen}
use Rattle.scope_tree.specs.declared.leases.Lease.{Lease}
use Rattle.outer_source.specs.Lists.{IsInList}
use Rattle.outer_source.specs.Pulls.{BeginsList, ComesOfList, Draws, FailsList, IsListAt, MayOpenList, MayRead, OpensList, PullsAll}
use Rattle.outer_source.specs.Pulls.BeginsList.{begun, unopened}
use Rattle.outer_source.specs.Pulls.Draws.{behind, leased, listed, over}
use Rattle.outer_source.specs.Standing.{IsAmidAll, IsAmidParts, IsSourceAt}
use Rattle.outer_source.specs.Standing.IsAmidAll.{in_list, in_parts}
use Rattle.outer_source.specs.declared.next.Next.{Next}
use Rattle.outer_source.specs.declared.next.Next.TheVariants as next
use Rattle.outer_source.specs.declared.source.OuterSource.{OuterSource}
use Rattle.outer_source.proofs.Kept.{but_then, others_less, rows_but, rows_more}
use Rattle.outer_source.proofs.Lines.{ends_open}
use Rattle.outer_source.proofs.Standing.{leased_amid}

pub none_so : {A : Type 0} (o : Option A) → is_some o ≡ false → o ≡ None
none_so None e = refl
none_so (Some a) e = let z : true ≡ false = e in cc

no_some : {A : Type 0} (o : Option A) → o ≡ None → is_some o ≡ true → ⊥
no_some None e t = cc
no_some (Some a) e t = cc

module _ {V : Type 0} (told : V → DeviceTold) (p : PlanMeant) (parts : List OuterPart) (width : ℕ) where
  abbrev T : ℕ
  T = length p.tables

  abbrev n : ℕ
  n = length p.streams

  abbrev k : ℕ
  k = length parts

  abbrev most : ℕ
  most = stream_limit p

  -- the tables are told by another name
  module _ {tables : List TableSpec} (same : tables ≡ p.tables) {q : Progress V} {x : Outer} {a : Seen V} where
    pub opens_with : IsOpenAt told parts p.tables n width most q x a → IsOpenAt told parts tables n width most q x a
    opens_with h = subst (λ t. IsOpenAt told parts t n width most q x a) (sym same) h

    module _ {y : Outer} {old new : DepotTold} {b : Seen V} where
      pub pulls_with : (r : NextOfParts) → Pulls told parts tables n width most q x y old new a b r → Pulls told parts p.tables n width most q x y old new a b r
      pulls_with r h = subst (λ t. Pulls told parts t n width most q x y old new a b r) same h

      pub pulls_done : (h : How) → h ≡ how.Done → Pulls told parts tables n width most q x y old new a b (next_part.Over h) → Pulls told parts p.tables n width most q x y old new a b (next_part.Over how.Done)
      pulls_done h is f = pulls_with (next_part.Over how.Done) (subst (λ e. Pulls told parts tables n width most q x y old new a b (next_part.Over e)) is f)

  -- what is kept as something comes of a list
  pub comes_keep : (l : ListSpec) (first : V) (lines : List (List ℕ)) (q : Progress V) (x : Outer) (y : OuterSource) (a b : Seen V) (result : Next) (more : List (List ℕ)) → ComesOfList told p parts width l first lines q x y a b result more → KeepsOthers 0 a b × KeepsRowsBut T a.seat b.seat
  comes_keep l first lines q x y a b (next.Leased lease) more h = absurd h
  comes_keep l first lines q x y a b (next.Listed lease line) more h = (h.1.keeps, h.1.kept)
  comes_keep l first lines q x y a b (next.Over h') more h = (h.1.keeps, h.1.kept)

  -- The list was opened.
  module _ {q : Progress V} {x z : Outer} {old new : DepotTold} {a c : Seen V} (h : MayOpenList told p parts width q x a) (l : ListSpec) (is : p.list ≡ Some l) (first : V) (o : OpensList told p parts width l first q x z old new a c) where
    abbrev notes : List What
    notes = Open k 0 ∷ (Acquire T k ∷ [])

    stands : IsListAt told p parts width l first [] (reading q notes) z c
    stands = record {
      list_is = is;
      main = o.main;
      root = h.root;
      leased = h.leased ∙ sym (ap (λ (y : Outer). y.leased) o.now);
      noted = ap (λ E. E ++ notes) h.noted ∙ (sym (filter-append is_table_note (given a.seat) notes) ∙ ap (filter is_table_note) (sym o.gives));
      narrow = let w = h.narrow in let u = ap length o.keeps.out in omega (w, u, arith);
      free = λ less. let f = h.free in let e = o.paid in let y = ap (λ (y : Outer). y.leased) o.now in omega (f, e, y, arith);
    }

    -- its first line may be read
    pub begin_read : (reader : ListLines Chain) (x1 : OuterSource) → x1 ≡ record { outer = z; list = Some reader } → ((d : DeviceTold) → IsUnread d → IsAt StandsFor list_meaning d [] reader) → MayRead told p parts width l first [] (reading q notes) x1 c
    begin_read reader x1 same at = subst (λ (y : OuterSource). MayRead told p parts width l first [] (reading q notes) y c) (sym same)
        (record { stands = stands; list = record { amid = o.amid; reader = reader; is = refl; at = at (told o.amid.now) o.unread } })

    pub begins_so : (y : OuterSource) (b : Seen V) (result : Next) (more : List (List ℕ)) → ComesOfList told p parts width l first [] (reading q notes) z y c b result more → (opened : List (Result V NotRead)) × (more' : List (List ℕ)) × BeginsList told p parts width l q x y old new a b result opened more'
    begins_so y b result more comes = (Ok first ∷ [], more, begun first o comes)

    -- memory was wanting to read it
    pub begins_unread : (y : OuterSource) → y.outer ≡ z → (opened : List (Result V NotRead)) × (more : List (List ℕ)) × BeginsList told p parts width l q x y old new a c (next.Over how.Memory) opened more
    begins_unread y same = begins_so y c (next.Over how.Memory) [] (
      refl,
      ends_open told p parts width l first [] how.Memory refl (record { stands = stands; amid = o.amid; unhalted = λ e. cc }) (ap (λ (u : Outer). u.leased) same) (ap (λ (u : Outer). u.tables) same),
    )

  -- its device wasn't opened
  pub begins_not : {q : Progress V} {x : Outer} {y : OuterSource} {old new : DepotTold} {a b : Seen V} (l : ListSpec) (w : NotRead) → FailsList told p parts width l w q x y.outer old new a b → (opened : List (Result V NotRead)) × (more : List (List ℕ)) × BeginsList told p parts width l q x y old new a b (next.Over (how_unread w)) opened more
  begins_not l w f = (Err w ∷ [], [], unopened w f)

  -- by this fault, or as memory was wanting
  pub begins_fault : {q : Progress V} {x : Outer} {y : OuterSource} {old new : DepotTold} {a b : Seen V} (l : ListSpec) (w : NotRead) (f g : Code) → w ≡ why.Fault g → f ≡ g → FailsList told p parts width l w q x y.outer old new a b → (opened : List (Result V NotRead)) × (more : List (List ℕ)) × BeginsList told p parts width l q x y old new a b (next.Over (how.Fault f)) opened more
  begins_fault {q = q} {x = x} {y = y} {old = old} {new = new} {a = a} {b = b} l w f g is same t =
      subst (λ r. (opened : List (Result V NotRead)) × (more : List (List ℕ)) × BeginsList told p parts width l q x y old new a b r opened more) (ap (λ u. next.Over (how_unread u)) is ∙ ap (λ u. next.Over (how.Fault u)) (sym same)) (begins_not l w t)

  pub begins_memory : {q : Progress V} {x : Outer} {y : OuterSource} {old new : DepotTold} {a b : Seen V} (l : ListSpec) (w : NotRead) → w ≡ why.Memory → FailsList told p parts width l w q x y.outer old new a b → (opened : List (Result V NotRead)) × (more : List (List ℕ)) × BeginsList told p parts width l q x y old new a b (next.Over how.Memory) opened more
  begins_memory {q = q} {x = x} {y = y} {old = old} {new = new} {a = a} {b = b} l w is t =
      subst (λ r. (opened : List (Result V NotRead)) × (more : List (List ℕ)) × BeginsList told p parts width l q x y old new a b r opened more) (ap (λ u. next.Over (how_unread u)) is) (begins_not l w t)

  begins_keep : (l : ListSpec) → p.list ≡ Some l → {q : Progress V} {x : Outer} {y : OuterSource} {old new : DepotTold} {a b : Seen V} {result : Next} {opened : List (Result V NotRead)} {more : List (List ℕ)} → BeginsList told p parts width l q x y old new a b result opened more → KeepsOthers (outer_rows p) a b × KeepsRowsBut T a.seat b.seat
  begins_keep l is {a = a} {b = b} (unopened w f) = (others_less 0 (outer_rows p) a b (omega arith) f.keeps, rows_but T a.seat b.seat f.rows)
  begins_keep l is {q = q} {y = y} {a = a} {b = b} (begun {z = z} {c = c} {result = result} {more = more} first o comes) =
      let m = rows_more p l is in
      let k = comes_keep l first [] (reading q (Open (length parts) 0 ∷ (Acquire T (length parts) ∷ []))) z y c b result more comes in (
        others_then 0 (outer_rows p) a c b (omega arith) (others_less (T + 1) (outer_rows p) a c (omega (m, arith)) o.keeps) k.0,
        but_then T a.seat c.seat b.seat (rows_but T a.seat c.seat o.rows) k.1,
      )

  module _ {openings : List (Result V NotRead)} {lines : List (List ℕ)} {q : Progress V} {x : OuterSource} {a : Seen V} (s : IsSourceAt told p parts width openings lines q x a) where
    -- The list was opened before.
    pub record InList : Type 0 where
      pub l : ListSpec
      pub first : V
      pub opened : openings ≡ Ok first ∷ []
      pub is : p.list ≡ Some l
      pub may : MayRead told p parts width l first lines q x a

    pub in_list_so : is_some x.list ≡ true → InList
    in_list_so t = by_amid s.amid refl refl
      where
        by_amid : {os : List (Result V NotRead)} {ls : List (List ℕ)} → IsAmidAll told p parts os ls x a → openings ≡ os → lines ≡ ls → InList
        by_amid (in_parts h) e f = absurd (no_some x.list h.unopened t)
        by_amid (in_list l first is h) e f = record {
          l = l;
          first = first;
          opened = e;
          is = is;
          may = record {
            stands = record {
              list_is = is;
              main = s.main;
              root = s.root;
              leased = s.leased;
              noted = s.noted;
              narrow = s.narrow;
              free = λ less. let g = s.may.leases less in omega (g, arith);
            };
            list = subst (λ ls. IsInList told p parts l first ls x a) (sym f) h;
          };
        }

    pub pulled_listed : (i : InList) (y : OuterSource) (old : DepotTold) (b : Seen V) (result : Next) (more : List (List ℕ)) → ComesOfList told p parts width i.l i.first lines q x.outer y a b result more → PullsAll told p parts width openings lines q x y old old a b result
    pulled_listed i y old b result more comes =
        let k = comes_keep i.l i.first lines q x.outer y a b result more comes in
        subst (λ os. PullsAll told p parts width os lines q x y old old a b result) (sym i.opened) (record {
          opened = Ok i.first ∷ [];
          more = more;
          draws = listed i.l i.first i.is refl comes;
          keeps = others_less 0 (outer_rows p) a b (omega arith) k.0;
          rows = k.1;
        })

    -- It is amid its parts.
    pub record InParts : Type 0 where
      pub none : openings ≡ []
      pub no_lines : lines ≡ []
      pub source : IsSourceAt told p parts width [] [] q x a
      pub amid : IsAmidParts told p parts x a

    pub in_parts_so : x.list ≡ None → InParts
    in_parts_so shut = by_amid s.amid refl refl
      where
        by_amid : {os : List (Result V NotRead)} {ls : List (List ℕ)} → IsAmidAll told p parts os ls x a → openings ≡ os → lines ≡ ls → InParts
        by_amid (in_parts h) e f = record {
          none = e;
          no_lines = f;
          source = subst (λ os. IsSourceAt told p parts width os [] q x a) e (subst (λ ls. IsSourceAt told p parts width openings ls q x a) f s);
          amid = h;
        }
        by_amid (in_list l first is h) e f = let c = sym shut ∙ h.is in cc

    module _ (i : InParts) {y : OuterSource} {old new : DepotTold} {b : Seen V} where
      so_pulled : {result : Next} → PullsAll told p parts width [] [] q x y old new a b result → PullsAll told p parts width openings lines q x y old new a b result
      so_pulled {result = result} h = subst (λ os. PullsAll told p parts width os lines q x y old new a b result) (sym i.none) (subst (λ ls. PullsAll told p parts width [] ls q x y old new a b result) (sym i.no_lines) h)

      -- the next described stream was leased for
      pub pulled_leased : (lease : Lease) → Pulls told parts p.tables n width most q x.outer y.outer old new a b (next_part.Leased lease) → y.list ≡ x.list → PullsAll told p parts width openings lines q x y old new a b (next.Leased lease)
      pulled_leased lease h same =
          so_pulled (record {
            opened = [];
            more = [];
            draws = draws_so h.depot h.comes.0 h.goes h.comes.1;
            keeps = others_less T (outer_rows p) a b (omega arith) h.keeps;
            rows = rows_but T a.seat b.seat h.rows;
          })
        where
          draws_so : (d : DepotTold) → new ≡ d → (g : Goes told parts p.tables n width most q x.outer h.between old d a h.mid) → Leases told parts p.tables n width most (reading q g.noted) h.between y.outer h.mid b lease → Draws told p parts width q x y old new a b [] [] (next.Leased lease) [] []
          draws_so d e g le = subst (λ z. Draws told p parts width q x y old z a b [] [] (next.Leased lease) [] []) (sym e) (leased g le (leased_amid told p parts width x g i.amid le same))

      -- or it was over by its parts
      pub pulled_over : (h : How) → Pulls told parts p.tables n width most q x.outer y.outer old new a b (next_part.Over h) → (h ≡ how.Done → p.list ≡ None) → PullsAll told p parts width openings lines q x y old new a b (next.Over h)
      pulled_over h f unlisted = so_pulled (record {
        opened = [];
        more = [];
        draws = over f.goes f.comes unlisted;
        keeps = others_less T (outer_rows p) a b (omega arith) f.keeps;
        rows = rows_but T a.seat b.seat f.rows;
      })

    -- or the list was tried behind them
    module _ (i : InParts) {last : Outer} {y : OuterSource} {old made new : DepotTold} {c b : Seen V} (f : Pulls told parts p.tables n width most q x.outer last old made a c (next_part.Over how.Done)) (l : ListSpec) (is : p.list ≡ Some l) (result : Next) (opened : List (Result V NotRead)) (more : List (List ℕ)) where
      pub pulled_behind : BeginsList told p parts width l (reading (reading q f.goes.noted) f.comes.noted) last y made new c b result opened more → PullsAll told p parts width openings lines q x y old new a b result
      pulled_behind g =
          let k = begins_keep l is g in
          so_pulled i (record {
            opened = opened;
            more = more;
            draws = behind l is f.goes f.comes g;
            keeps = others_then (outer_rows p) (outer_rows p) a c b (omega arith) (others_less T (outer_rows p) a c (omega arith) f.keeps) k.0;
            rows = but_then T a.seat c.seat b.seat (rows_but T a.seat c.seat f.rows) k.1;
          })
