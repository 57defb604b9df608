-- What stands behind the frames: the lines of ends, and the ledger.
use Rattle.std.specs.Prelude.{◌≡◌, ◌≢◌, ◌⊎◌, ℕ, ◌<◌, Bool, nat_eq, List, [], ◌∷◌, ◌++◌, All, flat_map, codes, count_by}
use Rattle.std.specs.List.{AllByRecursion}
use Rattle.res_ledger.specs.declared.event.Event.{Event}
use Rattle.res_ledger.specs.Limits.{IsLedger}
use Rattle.res_ledger.specs.Texts.{ledger_text}
use Rattle.ledger_text.specs.Reading.{IsFirstBadLine, IsSpelled}
use Rattle.cut_text.specs.declared.tail.TailEnd.{TailEnd}
use Rattle.cut_text.specs.declared.tail.TailEnd.TheVariants.{Whole, Cut, BadLine, BadCount, Memory}

-- a line that begins as those of ends do; which stream it names and how that ended isn't looked at
abbrev pub IsEndLike : List ℕ → Type 0
IsEndLike line = (x : List ℕ) × All (λ c. c ≢ 10) x × (line ≡ x ++ 10 ∷ []) × ((how : List ℕ) × (x ≡ codes "end " ++ how))

-- the text begins with no such line
abbrev pub HasNoEnd : List ℕ → Type 0
HasNoEnd text = (line rest : List ℕ) → IsEndLike line → text ≢ line ++ rest

-- it begins with one, before the rest
abbrev pub HasEndInFront : List ℕ → List ℕ → Type 0
HasEndInFront text rest = (line : List ℕ) × IsEndLike line × (text ≡ line ++ rest)

-- the text is the lines of ends, and a ledger
pub record IsTail (text : List ℕ) (lines : List (List ℕ)) (L : List Event) : Type 0 where
  pub ends : AllByRecursion IsEndLike lines
  pub ledger : IsLedger L
  pub is : text ≡ flat_map (λ l. l) lines ++ ledger_text L

abbrev pub is_lf : ℕ → Bool
is_lf c = nat_eq c 10

-- what stands behind the lines of ends is a ledger; its first line that isn't well spelled is its last, which isn't ended, or it has fewer events than its
-- head says; that line is ended; or it has more events
abbrev pub IsJudgedLedger : List ℕ → TailEnd → Type 0
IsJudgedLedger text Whole = (L : List Event) × IsLedger L × (text ≡ ledger_text L)
IsJudgedLedger text Cut = IsFirstBadLine text (count_by is_lf text) ⊎ ((said found : ℕ) × IsSpelled text said found × (found < said))
IsJudgedLedger text (BadLine i) = IsFirstBadLine text i × (i ≢ count_by is_lf text)
IsJudgedLedger text (BadCount said found) = IsSpelled text said found × (said < found)
IsJudgedLedger text Memory = Unit {0}

-- the text is so many lines of ends, and behind the last of them something of which this holds
abbrev pub BehindEnds : List ℕ → (List ℕ → Type 0) → Type 0
BehindEnds text Holds = (lines : List (List ℕ)) × (rest : List ℕ) × AllByRecursion IsEndLike lines × (text ≡ flat_map (λ l. l) lines ++ rest) × HasNoEnd rest × Holds rest

-- what the text behind the frames is
abbrev pub IsJudged : List ℕ → TailEnd → Type 0
IsJudged text e = BehindEnds text (λ rest. IsJudgedLedger rest e)
