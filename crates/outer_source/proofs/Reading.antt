-- The next line of the list is read in its row.
use Rattle.std.proofs.Common.{◌≡◌, ℕ, Bool, true, false, nat_eq, cond, List, [], ◌∷◌, ◌++◌, append-nil, filter, length, Some, refl, sym, ap, ◌∙◌, subst, ⊎_elim, eq-eqb, arith}
use Rattle.chain_pipes.specs.Chains.{StandsFor}
use Rattle.chain_pipes.specs.declared.chain.Chain.{Chain}
use Rattle.chunk_core.specs.Lists.{IsAmong}
use Rattle.chunk_core.specs.Lists.IsAmong.{here, there}
use Rattle.chunk_core.specs.Outcomes.{Cut, End}
use Rattle.chunk_core.specs.declared.code.How.{How}
use Rattle.chunk_core.proofs.Bools.{number}
use Rattle.chunk_core.proofs.Members.{among_cons, among_nil}
use Rattle.device_port.specs.Device.{DeviceTold}
use Rattle.device_port.specs.declared.device.Mode.TheVariants as mode
use Rattle.join_tree.specs.Given.{GivesMore, given}
use Rattle.join_tree.specs.Mains.{IsMain}
use Rattle.join_tree.specs.Notes.{is_table_note}
use Rattle.join_tree.specs.Progress.{Progress}
use Rattle.join_tree.specs.Steps.{KeepsGuests, TakesEvents}
use Rattle.list_lines.specs.Lists.{GivesLine, IsAt, IsOver, OnlyReads, end_of}
use Rattle.list_lines.specs.declared.listed.Listed.{Listed}
use Rattle.list_lines.specs.declared.lines.ListLines.{ListLines}
use Rattle.list_rows.specs.Reading.{KeepsRowsBut, ReadsLine}
use Rattle.list_runs.specs.Meant.{list_meaning}
use Rattle.outer_stream.specs.Steps.{ends}
use Rattle.outer_stream.specs.declared.next.OuterPart.{OuterPart}
use Rattle.outer_stream.specs.declared.outer.Outer.{Outer}
use Rattle.outer_stream.proofs.Keeping.{others_kept, others_then}
use Rattle.outer_tables.specs.Whole.{WasRead}
use Rattle.pipeline_desc.specs.Meant.{PlanMeant, stream_limit}
use Rattle.pipeline_desc.specs.declared.listing.ListSpec.{ListSpec}
use Rattle.res_ledger.specs.Own.{leased_rows}
use Rattle.res_ledger.specs.declared.event.What.TheVariants.{Lease as lease_note}
use Rattle.row_seat.specs.Views.{HasRow, with_row}
use Rattle.scope_tree.specs.Calls.{KeepsScopes, Seen}
use Rattle.scope_tree.specs.Rows.{Once}
use Rattle.scope_tree.specs.Trace.{trace}
use Rattle.scope_tree.proofs.Once.{once_pay}
use Rattle.outer_source.specs.Lists.{HasListed, IsAmidList, list_closing}
use Rattle.outer_source.specs.Pulls.{ComesOfList, EndsList, GivesListed, HasEnded, HasLine, IsListAt, MayRead}
use Rattle.outer_source.specs.declared.next.Next.{Next}
use Rattle.outer_source.specs.declared.next.Next.TheVariants as next
use Rattle.outer_source.specs.declared.source.OuterSource.{OuterSource}
use Rattle.outer_source.proofs.Kept.{but_then}
use Rattle.outer_source.proofs.Listed.{before_line, listed_so, reads_on, unfailed}

-- a row that has a payload has another one
with_it : {P : Type 0} (r : ℕ) (p q : P) (xs : List (ℕ × P)) → IsAmong (r, p) xs → IsAmong (r, q) (with_row r q xs)
with_it r p q [] m = absurd (among_nil m)
with_it {P = P} r p q (x ∷ xs) m = ⊎_elim
    (λ e. this (nat_eq x.0 r) (ap (λ (z : ℕ × P). z.0) (sym e)) (eq-eqb x.0 r (ap (λ (z : ℕ × P). z.0) (sym e))))
    (λ i. either (nat_eq x.0 r) refl (with_it r p q xs i))
    (among_cons m)
  where
    this : (b : Bool) → x.0 ≡ r → b ≡ true → IsAmong (r, q) (cond b ((x.0, q) ∷ xs) (x ∷ with_row r q xs))
    this true e t = subst (λ i. IsAmong (r, q) ((i, q) ∷ xs)) (sym e) (here xs)
    this false e t = absurd cc

    either : (b : Bool) → nat_eq x.0 r ≡ b → IsAmong (r, q) (with_row r q xs) → IsAmong (r, q) (cond b ((x.0, q) ∷ xs) (x ∷ with_row r q xs))
    either true e i = this true (number x.0 r e) refl
    either false e i = there x i

same_some : {A : Type 0} {a b : A} → Some a ≡ Some b → a ≡ b
same_some e = cc

module _ {V : Type 0} (told : V → DeviceTold) (p : PlanMeant) (parts : List OuterPart) (width : ℕ) (l : ListSpec) (first : V) (lines : List (List ℕ)) where
  abbrev T : ℕ
  T = length p.tables

  abbrev k : ℕ
  k = length parts

  abbrev n : ℕ
  n = length p.streams

  -- What reading the next line asks.
  module _ {q : Progress V} {a : Seen V} {x : OuterSource} (h : MayRead told p parts width l first lines q x a) (once : Once a.seat.opened) where
    only_device : (d : V) → IsAmong (T, d) a.seat.opened → d ≡ h.list.amid.now
    only_device d i = once_pay T d h.list.amid.now a.seat.opened once i h.list.amid.held

    read_so : WasRead 0 (told first) (told h.list.amid.now)
    read_so = unfailed told p l first h.list.amid.now lines h.list.amid.opened h.list.amid.has

    pub row_there : HasRow a.seat.opened T
    row_there = (h.list.amid.now, h.list.amid.held)

    pub row_at : (reader : ListLines Chain) → x.list ≡ Some reader → (d : V) → IsAmong (T, d) a.seat.opened → IsAt StandsFor list_meaning (told d) lines reader
    row_at reader is d i = subst (λ v. IsAt StandsFor list_meaning (told v) lines reader) (sym (only_device d i)) (subst (λ r. IsAt StandsFor list_meaning (told h.list.amid.now) lines r) (same_some (sym h.list.is ∙ is)) h.list.at)

    pub row_open : (d : V) → IsAmong (T, d) a.seat.opened → (told d).is_open ≡ true
    row_open d i = ap (λ v. (told v).is_open) (only_device d i) ∙ (ap (λ (t : DeviceTold). t.is_open) read_so ∙ h.list.amid.opened.is_open)

    pub row_mode : (d : V) → IsAmong (T, d) a.seat.opened → (told d).place.mode ≡ mode.Read
    row_mode d i = ap (λ v. (told v).place.mode) (only_device d i) ∙ (ap (λ (t : DeviceTold). t.place.mode) read_so ∙ h.list.amid.opened.mode)

  module _ {a b : Seen V} (gives : GivesMore [] a b) (guests : KeepsGuests a b) (rows : KeepsRowsBut T a.seat b.seat) (events : TakesEvents 0 a b) where
    given_same : given b.seat ≡ given a.seat
    given_same = gives ∙ append-nil (given a.seat)

    -- what comes of the list behind that
    pub comes_then : (q : Progress V) (x : Outer) (y : OuterSource) (c : Seen V) (result : Next) (more : List (List ℕ)) → trace b.seat ≡ trace a.seat → ComesOfList told p parts width l first lines q x y b c result more → ComesOfList told p parts width l first lines q x y a c result more
    comes_then q x y c (next.Leased lease) more same h = h
    comes_then q x y c (next.Listed lease line) more same h =
        let g : GivesListed told p parts width l first lines q x y b c lease line = h.1 in (
          h.0,
          record {
            less = g.less;
            lessee_is = g.lessee_is;
            rows_are = g.rows_are ∙ ap (λ E. leased_rows E k) same;
            lent = g.lent;
            low = g.low;
            gives = g.gives ∙ ap (λ E. E ++ (lease_note x.leased k ∷ [])) given_same;
            main = g.main;
            now = g.now;
            amid = g.amid;
            keeps = others_then 0 0 a b c (omega arith) (others_kept 0 a b guests) g.keeps;
            kept = but_then T a.seat b.seat c.seat rows g.kept;
            paid = let e = events in let f = g.paid in omega (e, f, arith);
          },
        )
    comes_then q x y c (next.Over how) more same h =
        let g : EndsList told p parts width l first lines q x y b c how = h.1 in (
          h.0,
          record {
            now = g.now;
            held = g.held;
            has = g.has;
            over = g.over;
            gives = g.gives ∙ ap (λ E. E ++ list_closing k how) given_same;
            main = g.main;
            before = g.before;
            parts_given = g.parts_given;
            gave = g.gave;
            leased = g.leased;
            tables = g.tables;
            keeps = others_then 0 0 a b c (omega arith) (others_kept 0 a b guests) g.keeps;
            kept = but_then T a.seat b.seat c.seat rows g.kept;
            paid = let e = events in let f = g.paid in omega (e, f, arith);
          },
        )

    module _ {q : Progress V} (main : IsMain (ends told) width (stream_limit p) b q) (scopes : KeepsScopes a b) {x : OuterSource} (h : MayRead told p parts width l first lines q x a) (reader : ListLines Chain) (result : Listed) (r : ReadsLine told StandsFor T list_meaning lines a b reader result) (once : Once a.seat.opened) where
      stands : IsListAt told p parts width l first lines q x.outer b
      stands = record {
        list_is = h.stands.list_is;
        main = main;
        root = h.stands.root;
        leased = h.stands.leased;
        noted = h.stands.noted ∙ ap (filter is_table_note) (sym given_same);
        narrow = let w = h.stands.narrow in let u = ap length guests.out in omega (w, u, arith);
        free = λ less. let f = h.stands.free less in let e = events in omega (f, e, arith);
      }

      abbrev amid : IsAmidList told p parts l first lines Cut x.outer a
      amid = h.list.amid

      it_is : r.before ≡ amid.now
      it_is = once_pay T r.before amid.now a.seat.opened once r.held amid.held

      was : WasRead (told r.after).read_faults (told first) (told r.after)
      was = reads_on (told first) (told amid.now) (told r.after) amid.opened (unfailed told p l first amid.now lines amid.opened amid.has) (subst (λ v. OnlyReads (told v) (told r.after)) it_is r.reads)

      held : IsAmong (T, r.after) b.seat.opened
      held = subst (λ xs. IsAmong (T, r.after) xs) (sym (ap (λ (z : Seen V). z.seat.opened) r.tree)) (with_it T r.before r.after a.seat.opened r.held)

      amid_now : (e : End) → HasListed told p l first r.after lines e → IsAmidList told p parts l first lines e x.outer b
      amid_now e has = record {
        now = r.after;
        held = held;
        opened = amid.opened;
        has = has;
        before = amid.before;
        parts_given = amid.parts_given;
        gave = given_same ∙ amid.gave;
        usable = scopes.usable k amid.usable;
        part = amid.part;
        scope = amid.scope;
        table = amid.table;
        leased = amid.leased;
        few = amid.few;
        good = amid.good;
      }

      -- a line came
      pub has_line : (line : List ℕ) → GivesLine StandsFor list_meaning (told r.after) lines reader line → HasLine told p parts width l first lines q (record x { list = Some reader }) line b
      unfolding amid_now
      has_line line g =
          let w : WasRead 0 (told first) (told r.after) = subst (λ i. WasRead i (told first) (told r.after)) g.unfailed was in
          record {
            stands = stands;
            amid = amid_now Cut (before_line told p l first r.after amid.opened lines amid.good w line reader g amid.few);
            reader = reader;
            is = refl;
            at = g;
          }

      -- or the list is over
      pub has_ended : (how : How) → IsOver list_meaning (told r.after) lines how → HasEnded told p parts width l first lines q x.outer b how
      has_ended how o = record {
        stands = stands;
        amid = amid_now (end_of how) (listed_so told p l first r.after amid.opened lines amid.good (told r.after).read_faults was o.in_time amid.few how o.faults o.run);
        unhalted = o.unhalted;
      }
