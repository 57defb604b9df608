-- Where scopes are closed, told ahead.
use Rattle.std.specs.Prelude.{◌≡◌, ◌↔◌, ◌⊎◌, ◌<◌, ◌≤◌, ◌^◌, ℕ, if◌then◌else◌, List, ◌++◌, Some, slice_get, unwrap_or}
use Rattle.chunk_core.specs.declared.code.Exit.{Exit}
use Rattle.res_ledger.specs.declared.event.StreamNo.{StreamNo}
use Rattle.res_ledger.specs.declared.event.What.TheVariants.{Close}
use Rattle.res_ledger.specs.declared.event.Event.{Event}
use Rattle.res_ledger.specs.Ledger.{LiesWithin}
use Rattle.ledger_books.specs.declared.index.Key.{Key}
use Rattle.ledger_books.specs.declared.index.Key.TheVariants.{Acquired, Closed, Finalized, Opened}
use Rattle.ledger_books.specs.declared.index.Index.{Index}
use Rattle.ledger_books.specs.declared.ends.Ends.{Ends}
use Rattle.ledger_books.specs.Key.{place_of, same_key}
use Rattle.ledger_books.specs.Keyed.{NotesAt, key_of, number_of}
use Rattle.ledger_books.specs.Untils.{Settles}

-- the index has each thing that is noted in L, at its first place
pub record IsFirsts (x : Index) (L : List Event) : Type 0 where
  pub found : (q : Key) (i : ℕ) → place_of x q ≡ Some i → (e : Event) × (slice_get L i ≡ Some e) × (key_of e.by e.what ≡ q)
  pub first : (m : ℕ) (e : Event) → slice_get L m ≡ Some e → (i : ℕ) × (place_of x (key_of e.by e.what) ≡ Some i) × (i ≤ m)

-- where the scope s of stream k has a Close of its own; the greatest number where it has none
abbrev pub close_of : Ends → ℕ → ℕ → ℕ
close_of x k s = unwrap_or (place_of x.firsts (Closed k s)) 18446744073709551615

-- where the scope s of stream k is closed
abbrev pub end_of : Ends → ℕ → ℕ → ℕ
end_of x k s = unwrap_or (place_of x.ends (Opened k s)) (close_of x k s)

-- by when the leases behind the row r are canceled
abbrev pub until_of : Ends → ℕ → ℕ
until_of x r = unwrap_or (place_of x.untils (Acquired r)) 18446744073709551615

-- where the row r is final; the greatest number where it isn't
abbrev pub final_of : Ends → ℕ → ℕ
final_of x r = unwrap_or (place_of x.firsts (Finalized r)) 18446744073709551615

-- k closes s or a scope above it, as far as it is opened in P, at a place of L in front of i
abbrev pub EndsBefore : List Event → List Event → StreamNo → ℕ → ℕ → Type 0
EndsBefore L P k s i = (a : ℕ) × LiesWithin P k s a × ((m : ℕ) × (y : Exit) × (m < i) × NotesAt L m k (Close a y))

-- it tells of each scope where it is closed in L, by what is opened in P
pub record Foresees (x : Ends) (L P : List Event) : Type 0 where
  pub firsts : IsFirsts x.firsts L
  pub untils : Settles x.untils x.firsts L
  pub ends : (k : StreamNo) (s i : ℕ) → i < 2 ^ 64 → (end_of x (number_of k) s < i) ↔ EndsBefore L P k s i

-- it tells of each scope where it is closed in a ledger that begins with P
abbrev pub Foretells : Ends → List Event → Type 0
Foretells x P = (L Q : List Event) × (L ≡ P ++ Q) × Foresees x L P

-- the scope s is closed where its parent p is, or by a Close of its own
pub record OpensEnd (x y : Ends) (k s p : ℕ) : Type 0 where
  pub firsts : y.firsts ≡ x.firsts
  pub untils : y.untils ≡ x.untils
  pub end : (n : ℕ) × ((i : ℕ) → (n < i) ↔ ((close_of x k s < i) ⊎ (end_of x k p < i))) × ((q : Key) → place_of y.ends q ≡ (if same_key (Opened k s) q then Some n else place_of x.ends q))
