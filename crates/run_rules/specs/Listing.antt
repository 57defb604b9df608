-- The lines of a list that are given streams.
use Rattle.std.specs.Prelude.{◌≡◌, ℕ, zero, suc, ◌-◌, ◌≤◌, Bool, true, if◌then◌else◌, List, [], ◌∷◌, length, take, IfSome}
use Rattle.chunk_core.specs.Elements.{Element, Byte, Line, Row}
use Rattle.chunk_core.specs.Outcomes.{End, Fault, Outcomes}
use Rattle.chunk_core.specs.declared.code.Code.TheVariants as code
use Rattle.device_port.specs.Device.{DeviceTold}
use Rattle.run_rules.specs.Work.{Lister}

-- the bytes of a line
abbrev pub line_bytes : Element → List ℕ
line_bytes (Line bytes) = bytes
line_bytes (Byte b) = []
line_bytes (Row fields) = []

-- lines, and how they end
pub record ListedLines : Type 0 where
  pub lines : List (List ℕ)
  pub end : End

-- Of lines that end so, the first ones that are given streams: at most n, and none that is bad. A further one is a fault, and that there are too many goes
-- before that it is bad.
abbrev pub listing_of : ℕ → (List ℕ → Bool) → List Element → End → ListedLines
listing_of n is_bad [] e = record { lines = []; end = e }
listing_of zero is_bad (y ∷ ys) e = record { lines = []; end = Fault code.TooMany }
listing_of (suc n) is_bad (y ∷ ys) e =
    if is_bad (line_bytes y) then (record { lines = []; end = Fault code.BadPath }) else (record { lines = line_bytes y ∷ (listing_of n is_bad ys e).lines; end = (listing_of n is_bad ys e).end })

-- the lines that were given streams are all those of something that a reading of the list may give, and they end so
abbrev pub IsListing : Lister → Outcomes → End → Type 0
IsListing l A e = (ys : List Element) × (g : End) × A ys g × (listing_of l.most l.is_bad ys g ≡ record { lines = l.lines; end = e })

-- whatever a reading of the list gives, its lines end so
abbrev pub AlwaysLists : Lister → Outcomes → (End → Type 0) → Type 0
AlwaysLists l A EndsSo = (ys : List Element) (g : End) → A ys g → EndsSo (listing_of l.most l.is_bad ys g).end

-- The list is read no further than its next line needs: before the last read, which gave at most a piece, each line that had ended was given a stream;
-- and where the end was met, so was each that ended before it.
pub record IsReadInTime (l : Lister) (d : DeviceTold) : Type 0 where
  pub needed : IfSome d.content (λ bytes. l.ended_in (take (d.at - l.piece) bytes) ≤ length l.lines)
  pub ended : d.ended ≡ true → IfSome d.content (λ bytes. l.ended_in (take d.at bytes) ≤ length l.lines)
