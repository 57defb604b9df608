-- What contracts see of the accounts of the streams.
use Rattle.std.specs.Prelude.{◌≡◌, ℕ, Bool, true, List, [], ◌∷◌, map, length, slice_set}
use Rattle.chunk_core.specs.declared.code.How.{How}
use Rattle.res_ledger.specs.declared.event.StreamNo.{StreamNo}
use Rattle.res_ledger.specs.declared.event.StreamNo.TheVariants.{Outer, Inner}
use Rattle.run_rules.specs.Facts.{first_numbers}
use Rattle.run_rules.specs.declared.end.EndOf.{EndOf}

-- for each stream by its number, how it is reported, and whether a load of it was left unwritten
pub record AccountsSeen : Type 0 where
  pub hows : List How
  pub unwritten : List Bool

-- the names of the first n streams
abbrev pub names_below : ℕ → List StreamNo
names_below n = map Inner (first_numbers n)

-- the ends behind the outer stream's
abbrev pub hows_behind : List EndOf → List How
hows_behind [] = []
hows_behind (e ∷ es) = map (λ x. x.how) es

-- the accounts as they lie there
abbrev pub seen_accounts : List EndOf → List Bool → AccountsSeen
seen_accounts es bs = record { hows = hows_behind es; unwritten = bs }

-- the ends are those of the outer stream and of each stream in order
abbrev pub IsListed : List EndOf → List Bool → Type 0
IsListed es bs = map (λ e. e.who) es ≡ Outer ∷ names_below (length bs)

-- a load of stream k was left unwritten
abbrev pub losing : AccountsSeen → ℕ → AccountsSeen
losing a k = record a { unwritten = slice_set a.unwritten k true }

-- stream k is reported so
abbrev pub telling : AccountsSeen → ℕ → How → AccountsSeen
telling a k h = record a { hows = slice_set a.hows k h }
