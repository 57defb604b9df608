-- What each step of a pull comes to, of the parts and of the list.
use Rattle.std.proofs.Common.{◌≡◌, ◌⊎◌, ℕ, zero, suc, ◌+◌, Bool, List, [], ◌∷◌, filter, length, Option, None, refl, sym, ap, ◌∙◌, subst, ⊎_elim, arith}
use Rattle.std.specs.Prelude.{IsSome, Result, Ok}
use Rattle.chunk_core.specs.Lists.{IsAmong}
use Rattle.chunk_core.specs.declared.code.How.{How}
use Rattle.chunk_core.specs.declared.code.How.TheVariants as how
use Rattle.chunk_core.proofs.Members.{among_cons, among_nil}
use Rattle.csv_pipes.specs.Dictionaries.{Dictionary}
use Rattle.device_port.specs.Device.{DeviceTold}
use Rattle.device_port.specs.Depot.{DepotTold}
use Rattle.join_tree.specs.Given.{GivesMore}
use Rattle.join_tree.specs.Notes.{is_table_note}
use Rattle.outer_source.specs.Lists.{list_closing}
use Rattle.outer_source.specs.Standing.{IsAmidAll}
use Rattle.outer_source.specs.Standing.IsAmidAll.{in_list, in_parts}
use Rattle.outer_source.specs.declared.source.OuterSource.{OuterSource}
use Rattle.outer_stream.specs.Parts.{closing, left_of}
use Rattle.outer_stream.specs.Pulls.{IsOverBy, how_unread}
use Rattle.outer_stream.specs.Pulls.IsOverBy.{done, unleased, unread}
use Rattle.outer_stream.specs.declared.next.OuterPart.{OuterPart}
use Rattle.outer_stream.specs.declared.outer.Outer.{Outer as Parts_outer}
use Rattle.outer_tables.specs.declared.not_read.NotRead.{NotRead}
use Rattle.outer_tables.specs.declared.not_read.NotRead.TheVariants as why
use Rattle.pipeline_desc.specs.Meant.{PlanMeant}
use Rattle.pipeline_desc.specs.declared.table.TableSpec.{TableSpec}
use Rattle.res_ledger.specs.declared.event.What.{What}
use Rattle.res_ledger.specs.declared.event.What.TheVariants.{Acquire, Open}
use Rattle.scope_tree.specs.Calls.{Seen}
use Rattle.dealt_streams.specs.Moves.{Move, Tried, lines_of, opened_of, tried_of}
use Rattle.dealt_streams.specs.Standing.{EndsRead, StandsBy, StandsOuter, plan_parts}
use Rattle.collector.proofs.Gaving.{no_closed}

-- so it stands by these moves
pub as_moves : {V F : Type 0} (told : V → DeviceTold) (p : PlanMeant) (moves : List (Move V F)) {begun leased : ℕ} {dicts : List Dictionary} {over : Option How} {m : Bool} {b : Seen V} (xs : List (Tried V)) (os : List (Result V NotRead)) (ls : List (List ℕ)) → tried_of moves ≡ xs → opened_of moves ≡ os → lines_of moves ≡ ls
    → StandsBy p told xs os ls begun leased dicts over m b → StandsOuter p told moves begun leased dicts over m b
as_moves told p moves {begun = begun} {leased = leased} {dicts = dicts} {over = over} {m = m} {b = b} xs os ls e f g s =
    subst (λ t. StandsBy p told t (opened_of moves) (lines_of moves) begun leased dicts over m b) (sym e)
    (subst (λ o. StandsBy p told xs o (lines_of moves) begun leased dicts over m b) (sym f) (subst (λ l. StandsBy p told xs os l begun leased dicts over m b) (sym g) s))

-- by its parts the outer stream is done behind their last stream alone
pub done_so : {V : Type 0} {told : V → DeviceTold} {parts : List OuterPart} {tables : List TableSpec} {n width most : ℕ} {x y : Parts_outer} {old new : DepotTold} {a b : Seen V} {h : How} → IsOverBy told parts tables n width most x y old new a b h → h ≡ how.Done
    → (x.part ≡ length parts) × (x.leased ≡ n) × (y ≡ record x { scope = 0 }) × (new ≡ old) × GivesMore (closing x.scope) a b
done_so (done all gave now depot gives) e = (all, gave, now, depot, gives)
done_so (unread (why.Fault f) g) e = cc
done_so (unread why.Memory g) e = cc
done_so (unleased now depot at) e = cc

-- it is never halted
pub unread_unhalted : (f : NotRead) → how_unread f ≡ how.Halted → ⊥
unread_unhalted (why.Fault f) e = cc
unread_unhalted why.Memory e = cc

pub over_unhalted : {V : Type 0} {told : V → DeviceTold} {parts : List OuterPart} {tables : List TableSpec} {n width most : ℕ} {x y : Parts_outer} {old new : DepotTold} {a b : Seen V} {h : How} → IsOverBy told parts tables n width most x y old new a b h → h ≡ how.Halted → ⊥
over_unhalted (done all gave now depot gives) e = cc
over_unhalted (unread f g) e = unread_unhalted f e
over_unhalted (unleased now depot at) e = cc

pub closing_notes : (s : ℕ) → filter is_table_note (closing s) ≡ closing s
closing_notes zero = refl
closing_notes (suc s) = refl

pub unopened_yet : {V : Type 0} {told : V → DeviceTold} {p : PlanMeant} {parts : List OuterPart} {os : List (Result V NotRead)} {ls : List (List ℕ)} {x : OuterSource} {a : Seen V} → IsAmidAll told p parts os ls x a → os ≡ [] → x.list ≡ None
unopened_yet (in_parts h) e = h.unopened
unopened_yet (in_list l first is h) e = cc

pub listed_yet : {V : Type 0} {told : V → DeviceTold} {p : PlanMeant} {parts : List OuterPart} {os : List (Result V NotRead)} {ls : List (List ℕ)} {x : OuterSource} {a : Seen V} → IsAmidAll told p parts os ls x a → (first : V) → os ≡ Ok first ∷ [] → (x.outer.part ≡ length parts) × (x.outer.leased ≡ length p.streams + length ls)
listed_yet (in_parts h) first e = cc
listed_yet (in_list l f is h) first e = (h.amid.part, h.amid.leased)

-- no row is acquired where the list is opened but its own
pub no_row : (k r s : ℕ) → IsAmong (Acquire r s) (Open k 0 ∷ []) → ⊥
no_row k r s m = ⊎_elim (λ e. cc) (λ n. among_nil n) (among_cons m)

pub own_row : (k T r s : ℕ) → IsAmong (Acquire r s) (Open k 0 ∷ (Acquire T k ∷ [])) → r ≡ T
own_row k T r s m = ⊎_elim (λ e. cc) (λ n. ⊎_elim (λ e. cc) (λ i. absurd (among_nil i)) (among_cons n)) (among_cons m)

pub no_closing_row : (groups : ℕ) (h : How) (r s : ℕ) → IsAmong (Acquire r s) (list_closing (suc groups) h) → ⊥
no_closing_row groups how.Done r s m = no_closed (suc groups) r s m
no_closing_row groups how.Halted r s m = among_nil m
no_closing_row groups (how.Fault f) r s m = among_nil m
no_closing_row groups how.Memory r s m = among_nil m

pub failed_read : (p : PlanMeant) (lines : List (List ℕ)) (E : List What) → IsSome p.list → (f : NotRead) → EndsRead p lines E (how_unread f)
failed_read p lines E there (why.Fault f) = there
failed_read p lines E there why.Memory = tt

-- behind all parts there are no events left of them
pub none_left : (p : PlanMeant) (x : Parts_outer) → x.part ≡ length (plan_parts p) → x.table ≡ length p.tables → left_of (plan_parts p) (length p.tables) x ≡ 0
none_left p x part table = ap (λ (z : Parts_outer). left_of (plan_parts p) (length p.tables) z) same ∙ none
  where
    same : x ≡ record x { part = length (plan_parts p); table = length p.tables }
    same = ap (λ i. let z : Parts_outer = record x { part = i } in z) part ∙ ap (λ i. let z : Parts_outer = record x { part = length (plan_parts p); table = i } in z) table

    none : left_of (plan_parts p) (length p.tables) (record x { part = length (plan_parts p); table = length p.tables }) ≡ 0
    none = omega arith
