-- What a pipe does with a load, from what it gives of lists.
use Rattle.std.proofs.Common.{◌≡◌, ℕ, List, ◌∷◌, [], ◌++◌, map, Option, Some, None, refl, ap, sym, ◌∙◌, subst}
use Rattle.std.specs.Prelude.{option_map}
use Rattle.chunk_core.specs.Elements.{Element, Byte, Line, Row, LoadKind, elements, kind_of}
use Rattle.chunk_core.specs.Elements.LoadKind.{Bytes, Lines, Rows}
use Rattle.chunk_core.specs.Feed.{Given, Meaning, Extends, Continues, Finishes}
use Rattle.chunk_core.specs.declared.code.Code.{Code}
use Rattle.chunk_core.specs.declared.feed.Fed.{Fed}
use Rattle.chunk_core.specs.declared.load.Load.{Load}
use Rattle.pull_nodes.specs.PipeKinds.{gives_of}
use Rattle.pull_nodes.specs.PipeRule.{from_bytes, from_lines, from_rows}
use Rattle.pull_nodes.specs.Pipes.{meaning, meaning_over, IsMeaningOf, IsMeaningOver, part_of, all_of}
use Rattle.pull_nodes.specs.Plain.{bytes_of}
use Rattle.chunk_core.specs.Tables.{Values, no_values}
use Rattle.pull_nodes.specs.declared.pipe.Pipe.{Pipe}

from_some : (t : Values) (p : Pipe) (m : Meaning) (o : Option LoadKind) → option_map (meaning_over t p m.takes) o ≡ Some m → (m ≡ meaning_over t p m.takes m.gives) × (o ≡ Some m.gives)
from_some t p m None h = (cc)
from_some t p m (Some g) h =
    let is : meaning_over t p m.takes g ≡ m = cc in
    let gives : g ≡ m.gives = ap (λ (x : Meaning). x.gives) is in
    (sym is ∙ ap (meaning_over t p m.takes) gives, ap (λ k. Some k) gives)

-- a meaning of a pipe is what the pipe gives
pub is_meaning_over : (t : Values) (p : Pipe) (m : Meaning) → IsMeaningOver t p m → (m ≡ meaning_over t p m.takes m.gives) × (gives_of p m.takes ≡ Some m.gives)
is_meaning_over t p m h = from_some t p m (gives_of p m.takes) h

pub meaning_is : (p : Pipe) (m : Meaning) → IsMeaningOf p m → (m ≡ meaning p m.takes m.gives) × (gives_of p m.takes ≡ Some m.gives)
meaning_is p m h = is_meaning_over no_values p m h

-- a pipe that takes bytes alone, one that takes lines alone, and one that takes rows alone
pub from_bytes-some : (gives kind g : LoadKind) → from_bytes gives kind ≡ Some g → (kind ≡ Bytes) × (g ≡ gives)
from_bytes-some gives Bytes g h = (refl, cc)
from_bytes-some gives Lines g h = (cc)
from_bytes-some gives Rows g h = (cc)

pub from_lines-some : (gives kind g : LoadKind) → from_lines gives kind ≡ Some g → (kind ≡ Lines) × (g ≡ gives)
from_lines-some gives Bytes g h = (cc)
from_lines-some gives Lines g h = (refl, cc)
from_lines-some gives Rows g h = (cc)

pub from_rows-some : (gives kind g : LoadKind) → from_rows gives kind ≡ Some g → (kind ≡ Rows) × (g ≡ gives)
from_rows-some gives Bytes g h = (cc)
from_rows-some gives Lines g h = (cc)
from_rows-some gives Rows g h = (refl, cc)

-- the pipe gave this load of ys behind xs, and then this fault or none
pub extends_over : (t : Values) (p : Pipe) (m : Meaning) → IsMeaningOver t p m → (xs ys : List Element) (load : Load) (c : Option Code) → gives_of p m.takes ≡ Some (kind_of load)
    → (part_of t p xs).list ++ elements load ≡ (part_of t p (xs ++ ys)).list → (part_of t p (xs ++ ys)).fault ≡ c → Extends m xs ys load c
extends_over t p m h xs ys load c kind list fault =
    let is = is_meaning_over t p m h in
    let same : kind_of load ≡ m.gives = cc in
    let part : m.part ≡ part_of t p = ap (λ (n : Meaning). n.part) is.0 in
    let P : (List Element → Given) → Type 0 = λ f. ((f xs).list ++ elements load ≡ (f (xs ++ ys)).list) × ((f (xs ++ ys)).fault ≡ c) in
    let both = subst P (sym part) (list, fault) in
    record { kind = same; list = both.0; fault = both.1 }

-- the pipe's first answer where xs is the whole input
pub finishes_over : (t : Values) (p : Pipe) (m : Meaning) → IsMeaningOver t p m → (xs rest : List Element) (answer : Fed) (Comes : List Element → Option Code → Type 0)
    → (part_of t p xs).list ++ rest ≡ (all_of t p xs).list → Continues m.gives rest (all_of t p xs).fault answer Comes → Finishes m xs answer Comes
finishes_over t p m h xs rest answer Comes whole given =
    let is = is_meaning_over t p m h in
    let part : m.part ≡ part_of t p = ap (λ (n : Meaning). n.part) is.0 in
    let all : m.all ≡ all_of t p = ap (λ (n : Meaning). n.all) is.0 in
    record {
      rest = rest;
      whole = ap (λ (f : List Element → Given). (f xs).list ++ rest) part ∙ (whole ∙ ap (λ (f : List Element → Given). (f xs).list) (sym all));
      given = subst (λ (f : List Element → Given). Continues m.gives rest (f xs).fault answer Comes) (sym all) given;
    }

-- no fault was given yet
pub sound_over : (t : Values) (p : Pipe) (m : Meaning) → IsMeaningOver t p m → (xs : List Element) → (part_of t p xs).fault ≡ None → (m.part xs).fault ≡ None
sound_over t p m h xs none = ap (λ (n : Meaning). (n.part xs).fault) (is_meaning_over t p m h).0 ∙ none

-- the same of a pipe that looks nothing up
pub extends_from : (p : Pipe) (m : Meaning) → IsMeaningOf p m → (xs ys : List Element) (load : Load) (c : Option Code) → gives_of p m.takes ≡ Some (kind_of load)
    → (part_of no_values p xs).list ++ elements load ≡ (part_of no_values p (xs ++ ys)).list → (part_of no_values p (xs ++ ys)).fault ≡ c → Extends m xs ys load c
extends_from = extends_over no_values

pub finishes_from : (p : Pipe) (m : Meaning) → IsMeaningOf p m → (xs rest : List Element) (answer : Fed) (Comes : List Element → Option Code → Type 0)
    → (part_of no_values p xs).list ++ rest ≡ (all_of no_values p xs).list → Continues m.gives rest (all_of no_values p xs).fault answer Comes → Finishes m xs answer Comes
finishes_from = finishes_over no_values

pub sound_from : (p : Pipe) (m : Meaning) → IsMeaningOf p m → (xs : List Element) → (part_of no_values p xs).fault ≡ None → (m.part xs).fault ≡ None
sound_from = sound_over no_values

pub bytes_of-append : (xs zs : List Element) → bytes_of (xs ++ zs) ≡ bytes_of xs ++ bytes_of zs
bytes_of-append [] zs = refl
bytes_of-append (Byte b ∷ xs) zs = ap (λ l. b ∷ l) (bytes_of-append xs zs)
bytes_of-append (Line line ∷ xs) zs = bytes_of-append xs zs
bytes_of-append (Row fields ∷ xs) zs = bytes_of-append xs zs

pub bytes_of-map : (bytes : List ℕ) → bytes_of (map Byte bytes) ≡ bytes
bytes_of-map [] = refl
bytes_of-map (b ∷ bytes) = ap (λ l. b ∷ l) (bytes_of-map bytes)

-- the bytes of what came before and of a load
pub bytes_of-load : (xs : List Element) (bytes : List ℕ) → bytes_of (xs ++ map Byte bytes) ≡ bytes_of xs ++ bytes
bytes_of-load xs bytes = bytes_of-append xs (map Byte bytes) ∙ ap (λ l. bytes_of xs ++ l) (bytes_of-map bytes)
