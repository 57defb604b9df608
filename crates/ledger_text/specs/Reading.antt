-- Which texts are a ledger's, and where another text is none.
use Rattle.std.specs.Prelude.{◌≡◌, ◌≢◌, ℕ, ◌<◌, ◌^◌, ◌==◌, if◌then◌else◌, List, [], ◌∷◌, ◌++◌, length, Option, MatchOption, codes, decimal}
use Rattle.std.specs.List.{onto_first, AllByRecursion}
use Rattle.std.specs.Borrow.{Bor}
use Rattle.res_ledger.specs.declared.event.Event.{Event}
use Rattle.ledger_text.specs.declared.reading.LedgerRefused.{LedgerRefused}
use Rattle.ledger_text.specs.declared.reading.LedgerRefused.TheVariants.{Memory, BadLine, BadCount}
use Rattle.res_ledger.specs.Texts.{event_line, ledger_text}
use Rattle.res_ledger.specs.Limits.{IsSmallEvent, IsLedger}

-- the text, cut after each LF
abbrev pub cut_of : List ℕ → List (List ℕ)
cut_of [] = []
cut_of (c ∷ cs) = if c == 10 then (c ∷ []) ∷ cut_of cs else onto_first c (cut_of cs)

-- the lines of a text: what stands behind the last LF is one, and so is a text of no bytes
abbrev pub lines_of : List ℕ → List (List ℕ)
lines_of [] = [] ∷ []
lines_of (c ∷ cs) = cut_of (c ∷ cs)

-- the first line of the text of n events
abbrev pub head_line : ℕ → List ℕ
head_line n = codes "ledger " ++ decimal n ++ codes "\n"

-- the line is that of an event
abbrev pub IsEventLine : List ℕ → Type 0
IsEventLine line = (e : Event) × IsSmallEvent e × (line ≡ event_line e)

-- the lines are spelled as those that a ledger's text begins with: a head, and then events
abbrev pub AreSpelled : List (List ℕ) → Type 0
AreSpelled [] = Unit {0}
AreSpelled (head ∷ lines) = ((n : ℕ) × (n < 2 ^ 64) × (head ≡ head_line n)) × AllByRecursion IsEventLine lines

-- line i of the text is the first that isn't well spelled; the head is line 0
abbrev pub IsFirstBadLine : List ℕ → ℕ → Type 0
IsFirstBadLine text i = (before after : List (List ℕ)) × (line : List ℕ) × (lines_of text ≡ before ++ line ∷ after) × (length before ≡ i) × AreSpelled before × ¬ (AreSpelled (before ++ line ∷ []))

-- each line of the text is well spelled: the head says `said`, and `found` events follow it
abbrev pub IsSpelled : List ℕ → ℕ → ℕ → Type 0
IsSpelled text said found = (lines : List (List ℕ)) × (lines_of text ≡ head_line said ∷ lines) × (said < 2 ^ 64) × AllByRecursion IsEventLine lines × (length lines ≡ found)

-- why the text isn't a ledger's; nothing is said of memory
abbrev pub IsRefusal : List ℕ → LedgerRefused → Type 0
IsRefusal text Memory = Unit {0}
IsRefusal text (BadLine i) = IsFirstBadLine text i
IsRefusal text (BadCount said found) = IsSpelled text said found × (said ≢ found)

-- a text has one first line that isn't well spelled, or each is and both numbers are given
abbrev pub RefusalIsOne : Type 0
RefusalIsOne = (text : List ℕ) (r q : LedgerRefused) → r ≢ Memory → q ≢ Memory → IsRefusal text r → IsRefusal text q → r ≡ q

-- the text of a ledger isn't refused
abbrev pub TextIsNotRefused : Type 0
TextIsNotRefused = (L : List Event) → IsLedger L → (r : LedgerRefused) → IsRefusal (ledger_text L) r → r ≡ Memory

-- ledgers with one text are one
abbrev pub TextIsOne : Type 0
TextIsOne = (L M : List Event) → IsLedger L → IsLedger M → ledger_text L ≡ ledger_text M → L ≡ M

-- the value that the text spells, of the values with P, or None where it spells none
abbrev pub IsReadAs : {A : Type 0} → (A → Type 0) → (A → List ℕ) → List ℕ → Option A → Type 0
IsReadAs {A} P spelling text r = MatchOption r ((x : A) → P x → text ≢ spelling x) (λ x. P x × (text ≡ spelling x))

-- the same of a value that the text begins with, and what stands behind it
abbrev pub IsReadInFront : {A : Type 0} → (A → Type 0) → (A → List ℕ) → List ℕ → Option (A × Bor (List ℕ)) → Type 0
IsReadInFront {A} P spelling text r = MatchOption r ((x : A) (rest : List ℕ) → P x → text ≢ spelling x ++ rest) (λ p. P p.0 × (text ≡ spelling p.0 ++ p.1.now))
