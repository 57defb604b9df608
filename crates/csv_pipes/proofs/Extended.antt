-- What the pipes over rows answer to a load.
use Rattle.std.proofs.Common.{◌≡◌, ℕ, Bool, List, ◌++◌, map, Option, Some, None, refl, ap, sym, ◌∙◌}
use Rattle.chunk_core.specs.Elements.{Element, Line, Row, LoadKind, elements, kind_of}
use Rattle.chunk_core.specs.Elements.LoadKind.{Lines, Rows}
use Rattle.chunk_core.specs.Feed.{Given, Meaning, Extends}
use Rattle.chunk_core.specs.Tables.{Values, no_values}
use Rattle.chunk_core.specs.declared.load.Load.{Load}
use Rattle.chunk_core.specs.declared.load.Load.TheVariants as load
use Rattle.pull_nodes.specs.Field.{each_made, field_line}
use Rattle.pull_nodes.specs.Lookup.{looked_up}
use Rattle.pull_nodes.specs.PipeKinds.{gives_of}
use Rattle.pull_nodes.specs.PipeRule.{from_rows}
use Rattle.pull_nodes.specs.Pipes.{IsMeaningOf, IsMeaningOver, part_of}
use Rattle.pull_nodes.specs.declared.pipe.Pipe.{Pipe}
use Rattle.pull_nodes.specs.declared.pipe.Pipe.TheVariants as pipe
use Rattle.pull_nodes.proofs.Field.{and_then, each_made-append}
use Rattle.pull_nodes.proofs.Meanings.{is_meaning_over, from_rows-some, extends_over}
use Rattle.csv_pipes.specs.Made.{made_of, fault_unless}

-- what was made of a load's rows goes on from what was made of those before it
made_behind : (made : Element → Option Element) (xs came given : List Element) (all : Bool) → (each_made made xs).fault ≡ None → each_made made came ≡ made_of given all
    → each_made made (xs ++ came) ≡ record { list = (each_made made xs).list ++ given; fault = fault_unless all }
made_behind made xs came given all fine is = each_made-append made xs came fine ∙ ap (and_then made (each_made made xs)) is

made_extends : (t : Values) (p : Pipe) (m : Meaning) → IsMeaningOver t p m → (gives : LoadKind) → gives_of p m.takes ≡ from_rows gives m.takes
    → (made : Element → Option Element) → ((xs : List Element) → part_of t p xs ≡ each_made made xs)
    → (xs came : List Element) (load : Load) (all : Bool) → kind_of load ≡ gives → (each_made made xs).fault ≡ None → each_made made came ≡ made_of (elements load) all
    → Extends m xs came load (fault_unless all)
made_extends t p m h gives of made part xs came load all kind fine is =
    let gave = (is_meaning_over t p m h).1 in
    let same : gives_of p m.takes ≡ Some (kind_of load) = gave ∙ ap (λ k. Some k) ((from_rows-some gives m.takes m.gives (sym of ∙ gave)).1 ∙ sym kind) in
    let whole = part (xs ++ came) ∙ made_behind made xs came (elements load) all fine is in
    let before = ap (λ (g : Given). g.list ++ elements load) (part xs) in
    extends_over t p m h xs came load (fault_unless all) same (before ∙ sym (ap (λ (g : Given). g.list) whole)) (ap (λ (g : Given). g.fault) whole)

-- the lines of a load's rows, and the fault unless all have the field
pub field_feeds : (i : ℕ) (came : List Element) (rows : List (List (List ℕ))) (lines given : List (List ℕ)) (all : Bool) → came ≡ map Row rows
    → each_made (field_line i) (map Row rows) ≡ made_of (map Line lines) all → given ≡ lines → (m : Meaning) (xs : List Element) → IsMeaningOf (pipe.Field i) m → (each_made (field_line i) xs).fault ≡ None
    → Extends m xs came (load.Lines given) (fault_unless all) × ((each_made (field_line i) (xs ++ came)).fault ≡ fault_unless all)
field_feeds i came rows lines given all are made is m xs h fine =
    let whole : each_made (field_line i) came ≡ made_of (map Line given) all = ap (each_made (field_line i)) are ∙ (made ∙ ap (λ l. made_of (map Line l) all) (sym is)) in (
      made_extends no_values (pipe.Field i) m h Lines refl (field_line i) (λ zs. refl) xs came (load.Lines given) all refl fine whole,
      ap (λ (g : Given). g.fault) (made_behind (field_line i) xs came (map Line given) all fine whole),
    )

-- a load's rows with the table's values, and the fault unless all have the field
pub lookup_feeds : (v : Values) (t : ℕ) (i : ℕ) (value : List ℕ → Option (List ℕ)) (came : List Element) (rows longer given : List (List (List ℕ))) (all : Bool) → came ≡ map Row rows
    → each_made (looked_up value i) (map Row rows) ≡ made_of (map Row longer) all → given ≡ longer → ((key : List ℕ) → v t key ≡ value key)
    → (m : Meaning) (xs : List Element) → IsMeaningOver v (pipe.Lookup t i) m → (each_made (looked_up (v t) i) xs).fault ≡ None
    → Extends m xs came (load.Rows given) (fault_unless all) × ((each_made (looked_up (v t) i) (xs ++ came)).fault ≡ fault_unless all)
lookup_feeds v t i value came rows longer given all are made is same m xs h fine =
    let values : v t ≡ value = λ j key. same key j in
    let whole : each_made (looked_up (v t) i) came ≡ made_of (map Row given) all =
    ap (each_made (looked_up (v t) i)) are ∙ (ap (λ f. each_made (looked_up f i) (map Row rows)) values ∙ (made ∙ ap (λ l. made_of (map Row l) all) (sym is))) in (
      made_extends v (pipe.Lookup t i) m h Rows refl (looked_up (v t) i) (λ zs. refl) xs came (load.Rows given) all refl fine whole,
      ap (λ (g : Given). g.fault) (made_behind (looked_up (v t) i) xs came (map Row given) all fine whole),
    )
