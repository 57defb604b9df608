-- What the value at a key means, one definition for each sort of value.
use Rattle.std.specs.Prelude.{ℕ, Bool, true, ◌&&◌, nat_le, List, [], ◌∷◌, length, Option, Some, None, Ok, ℤ, pos, negsuc, if◌then◌else◌, unwrap_or}
use Rattle.std.specs.List.{list_any}
use Rattle.std.specs.Str.{bytes_eq}
use Rattle.toml.specs.Data.{Data, Items, no_items, item, Members, no_members, member, as_integer, as_str, as_array, as_table}
use Rattle.toml.specs.View.{items_view}
use Rattle.toml.specs.declared.value.Value.{Value}
use Rattle.pipeline_desc.specs.Limits.{is_between}
use Rattle.pipeline_desc.specs.Reading.{Reading, refuse, ◌>>=◌, passes, present}
use Rattle.pipeline_desc.specs.declared.refusal.Position.{Position}
use Rattle.pipeline_desc.specs.declared.refusal.Position.TheVariants.{Nowhere}
use Rattle.pipeline_desc.specs.declared.refusal.RefusalKind.{RefusalKind}
use Rattle.pipeline_desc.specs.declared.refusal.RefusalKind.TheVariants as refused

-- each key is one of these names
abbrev pub all_known : List (List ℕ) → Members → Bool
all_known names no_members = true
all_known names (member key d ms) = list_any (bytes_eq key) names && all_known names ms

-- no key has another name
abbrev pub known_keys : List (List ℕ) → Position → Members → Reading (Unit {0})
known_keys names position ms = passes (all_known names ms) refused.UnknownKey position

-- where there is a value, what it means
abbrev pub where_given : {A : Type 0} → (Data → Reading A) → Option Data → Reading (Option A)
where_given f None = Ok None
where_given f (Some d) = f d >>= (λ x. Ok (Some x))

-- what a value means that has to be there
abbrev pub required : {A : Type 0} → (Data → Reading A) → Position → Option Data → Reading A
required f position None = refuse refused.WrongType position
required f position (Some d) = f d

-- the integer, where it is a number that passes
abbrev pub limited : (ℕ → Bool) → ℤ → Option ℕ
limited test (pos n) = if test n then Some n else None
limited test (negsuc n) = None

-- a number that passes, or else is refused so
abbrev pub number_or : RefusalKind → (ℕ → Bool) → Position → Data → Reading ℕ
number_or kind test position d = present (as_integer d) refused.WrongType position >>= (λ z. present (limited test z) kind position)

-- a number within limits
abbrev pub number_within : ℕ → ℕ → Position → Data → Reading ℕ
number_within low high position d = number_or refused.OutOfRange (is_between low high) position d

-- a text that passes
abbrev pub text_that : (List ℕ → Bool) → Position → Data → Reading (List ℕ)
text_that test position d =
    present (as_str d) refused.WrongType position >>= (λ text. passes (test text) refused.OutOfRange position >>= (λ _. Ok text))

-- a table
abbrev pub table_that : Position → Data → Reading Members
table_that position d = present (as_table d) refused.WrongType position

-- an element and then others, where all are there
abbrev pub both_or_none : {A : Type 0} → Option A → Option (List A) → Option (List A)
both_or_none None more = None
both_or_none (Some x) None = None
both_or_none (Some x) (Some xs) = Some (x ∷ xs)

-- each item as f sees it, or nothing where one of them isn't such
abbrev pub each_as : {A : Type 0} → (Data → Option A) → Items → Option (List A)
each_as f no_items = Some []
each_as f (item d ds) = both_or_none (f d) (each_as f ds)

-- the items of an array, or none where there is no value
abbrev pub array_at : Position → Option Data → Reading Items
array_at position None = Ok no_items
array_at position (Some d) = present (as_array d) refused.WrongType position

-- the items of an array, each as f sees it
abbrev pub list_at : {A : Type 0} → (Data → Option A) → Position → Option Data → Reading (List A)
list_at f position d = array_at position d >>= (λ ds. present (each_as f ds) refused.WrongType position)

-- an array of at most so many tables, which stands at the top
abbrev pub tables_at : ℕ → Option Data → Reading (List Members)
tables_at most d =
    list_at as_table Nowhere d >>= (λ tables.
    passes (nat_le (length tables) most) refused.OutOfRange Nowhere >>= (λ _. Ok tables))

-- the values as f sees them
abbrev pub seen_as : {A : Type 0} → (Data → Option A) → List Value → List A
seen_as f values = unwrap_or (each_as f (items_view values)) []
