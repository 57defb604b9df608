-- What a node may give and how it may end, over what the device of each place tells at the end.
use Rattle.std.specs.Prelude.{◌≡◌, ◌⊎◌, ℕ, ◌<◌, ◌≤◌, ◌^◌, true, List, [], ◌∷◌, ◌++◌, map, take, length, Option, Some, None, IfSome}
use Rattle.chunk_core.specs.declared.code.Code.{Code}
use Rattle.chunk_core.specs.declared.code.Code.TheVariants as code
use Rattle.chunk_core.specs.Elements.{Element, Byte, elements, rendering_of}
use Rattle.chunk_core.specs.Feed.{Given}
use Rattle.chunk_core.specs.Outcomes.{End, Done, Fault, Cut, Outcomes}
use Rattle.pull_nodes.specs.Pairs.{pairs_of}
use Rattle.device_port.specs.Device.{DeviceTold}
use Rattle.pull_nodes.specs.Pipes.{part_of, all_of}
use Rattle.pull_nodes.specs.Plain.{IsFront}
use Rattle.pull_nodes.specs.Shape.{EachWrite}
use Rattle.chunk_core.specs.Tables.{Values}
use Rattle.pull_nodes.specs.declared.node.Node.{Node}
use Rattle.pull_nodes.specs.declared.node.Node.TheVariants.{Nil, Emit, Raise, Read, Weak', Scope', Append', OnFault', Through', Take', Zip', Merge', Into'}

-- or left by whoever ran it: before it did anything, or with a front of what it may give
abbrev pub OrLeft : Type 0 → Outcomes → Outcomes
OrLeft Idle R ys e = R ys e ⊎ ((e ≡ Cut) × (((ys ≡ []) × Idle) ⊎ ((more : List Element) × (g : End) × R (ys ++ more) g)))

-- these elements and this end
abbrev pub Exactly : List Element → End → Outcomes
Exactly xs g ys e = (ys ≡ xs) × (e ≡ g)

-- the first n bytes that a device gave: those of its content where that is told
abbrev pub FirstBytes : Option (List ℕ) → ℕ → List Element → Type 0
FirstBytes None n ys = (bytes : List ℕ) × (length bytes ≡ n) × (ys ≡ map Byte bytes)
FirstBytes (Some c) n ys = ys ≡ map Byte (take n c)

-- why a device is read no further: its end was met below the limit, and no read failed; the limit was reached, and no read failed; the one read failed; or the reading was left
abbrev pub StopsReading : DeviceTold → End → Type 0
StopsReading d Done = (d.ended ≡ true) × (d.at < 2 ^ 40) × (d.read_faults ≡ 0) × IfSome d.content (λ c. d.at ≡ length c)
StopsReading d (Fault code.Endless) = (d.at ≡ 2 ^ 40) × (d.read_faults ≡ 0) × IfSome d.content (λ c. 2 ^ 40 ≤ length c)
StopsReading d (Fault code.Read) = d.read_faults ≡ 1
StopsReading d (Fault _) = ⊥
StopsReading d Cut = Unit {0}

-- a device is read: as many bytes came as its place says, and for one of these reasons no more
abbrev pub Reads : DeviceTold → Outcomes
Reads d ys e = FirstBytes d.content d.at ys × StopsReading d e

-- a device with this content is read to its end, or to the limit
abbrev pub ReadsContent : List ℕ → Outcomes
ReadsContent c ys e =
    ((length c < 2 ^ 40) × (ys ≡ map Byte c) × (e ≡ Done))
    ⊎ ((2 ^ 40 ≤ length c) × (ys ≡ map Byte (take (2 ^ 40) c)) × (e ≡ Fault code.Endless))

abbrev pub ReadsWholeBy : Option (List ℕ) → DeviceTold → Outcomes
ReadsWholeBy None d ys e = FirstBytes None d.at ys × (((d.at < 2 ^ 40) × (e ≡ Done)) ⊎ ((d.at ≡ 2 ^ 40) × (e ≡ Fault code.Endless)))
ReadsWholeBy (Some c) d ys e = ReadsContent c ys e

-- a device of which no read fails is read whole; of one that tells no content as many bytes come as its place says
abbrev pub ReadsWhole : DeviceTold → Outcomes
ReadsWhole d = ReadsWholeBy d.content d

-- a device is opened and then A runs, or its one open failed and A, which never ran, did nothing
abbrev pub OpensThen : DeviceTold → Outcomes → Type 0 → Outcomes
OpensThen d A Idle ys e =
    ((d.opens ≡ 1) × (d.open_faults ≡ 0) × A ys e)
    ⊎ ((d.opens ≡ 0) × (d.open_faults ≡ 1) × (ys ≡ []) × (e ≡ Fault code.Open) × Idle)

-- the end is a fault
abbrev pub IsFault : End → Type 0
IsFault Done = ⊥
IsFault (Fault c) = Unit {0}
IsFault Cut = ⊥

-- A runs, and B behind it where A's end is as Begins says; elsewhere B, which never ran, did nothing
abbrev pub Follows : (End → Type 0) → Outcomes → Outcomes → Type 0 → Outcomes
Follows Begins A B Idle zs e =
    (A zs e × (Begins e → ⊥) × Idle)
    ⊎ ((xs ys : List Element) × (g : End) × A xs g × Begins g × B ys e × (zs ≡ xs ++ ys))

-- the first n elements that A gives, and no more is asked then; or all where there are fewer
abbrev pub Taken : ℕ → Outcomes → Outcomes
Taken n A ys e =
    (xs : List Element) × (g : End) × A xs g
    × (((n ≤ length xs) × (ys ≡ take n xs) × (e ≡ Done)) ⊎ ((length xs < n) × (ys ≡ xs) × (e ≡ g)))

-- after a fault, or this end where there was none
abbrev pub end_by_fault : Option Code → End → End
end_by_fault None g = g
end_by_fault (Some c) g = Fault c

-- a pipe was fed xs without a fault, and then its input ended so: it gives what belongs to a whole input only where it is one
abbrev pub GivesAtEnd : (List Element → Given) → (List Element → Given) → List Element → End → Outcomes
GivesAtEnd part all xs Done ys e = (ys ≡ (all xs).list) × (e ≡ end_by_fault (all xs).fault Done)
GivesAtEnd part all xs (Fault c) ys e = (ys ≡ (part xs).list) × (e ≡ Fault c)
GivesAtEnd part all xs Cut ys e = (ys ≡ (part xs).list) × (e ≡ Cut)

-- a pipe was fed xs, and has this fault or none; a fault of its own comes before the end of its input
abbrev pub GivesBy : Option Code → (List Element → Given) → (List Element → Given) → List Element → End → Outcomes
GivesBy (Some c) part all xs g ys e = (ys ≡ (part xs).list) × (e ≡ Fault c)
GivesBy None part all xs g ys e = GivesAtEnd part all xs g ys e

-- what A gives goes through a pipe
abbrev pub Piped : (List Element → Given) → (List Element → Given) → Outcomes → Outcomes
Piped part all A ys e = (xs : List Element) × (g : End) × A xs g × GivesBy (part xs).fault part all xs g ys e

-- A and B run side by side, and what they give comes in pairs, as far as both go. It ends as the side that had no more when an element of it
-- was wanted: A is asked first, and B for the partner of what A gave.
abbrev pub Zipped : Outcomes → Outcomes → Outcomes
Zipped A B zs h =
    (xs ys : List Element) × (e g : End) × A xs e × B ys g × (zs ≡ pairs_of xs ys)
    × (((length xs ≤ length ys) × (h ≡ e)) ⊎ ((length ys < length xs) × (h ≡ g)))

-- the third list has the elements of both, those of each in their order
abbrev pub IsInterleaving : List Element → List Element → List Element → Type 0
IsInterleaving xs ys [] = (xs ≡ []) × (ys ≡ [])
IsInterleaving xs ys (z ∷ zs) =
    ((more : List Element) × (xs ≡ z ∷ more) × IsInterleaving more ys zs)
    ⊎ ((more : List Element) × (ys ≡ z ∷ more) × IsInterleaving xs more zs)

-- how two sides that end so end together: both are done, or one failed, or one was left and none failed
abbrev pub EndsTogether : End → End → End → Type 0
EndsTogether e g Done = (e ≡ Done) × (g ≡ Done)
EndsTogether e g (Fault c) = (e ≡ Fault c) ⊎ (g ≡ Fault c)
EndsTogether e g Cut = ((e ≡ Cut) ⊎ (g ≡ Cut)) × (IsFault e → ⊥) × (IsFault g → ⊥)

-- A runs beside what ended so: where that is a fault, A may be left
abbrev pub Beside : End → Outcomes → Type 0 → Outcomes
Beside g A Idle xs e = A xs e ⊎ (IsFault g × OrLeft Idle A xs e)

-- A and B run side by side, and what they give comes in any order that keeps that of each
abbrev pub Merged : Outcomes → Type 0 → Outcomes → Type 0 → Outcomes
Merged A IdleA B IdleB zs h =
    (xs ys : List Element) × (e g : End) × Beside g A IdleA xs e × Beside e B IdleB ys g × IsInterleaving xs ys zs × EndsTogether e g h

-- the text of what A gives is written to a device, and nothing is given on: no write failed, or one did behind a front of the text, and this is the end
abbrev pub Written : DeviceTold → Outcomes → Outcomes
Written d A ys e =
    (xs : List Element) × (g : End) × A xs g × (ys ≡ [])
    × (((d.write_faults ≡ 0) × IfSome d.written (λ bytes. bytes ≡ rendering_of xs) × (e ≡ g))
    ⊎ ((d.write_faults ≡ 1) × IfSome d.written (λ bytes. IsFront bytes (rendering_of xs)) × (e ≡ Fault code.Write)))

-- the whole text is written
abbrev pub WrittenWhole : DeviceTold → Outcomes → Outcomes
WrittenWhole d A ys e = (xs : List Element) × A xs e × (ys ≡ []) × IfSome d.written (λ bytes. bytes ≡ rendering_of xs)

-- nothing was written to the device, where it tells what was
abbrev pub IsUnwritten : DeviceTold → Type 0
IsUnwritten d = IfSome d.written (λ bytes. bytes ≡ [])

-- the node never ran: nothing was written at its places
abbrev pub IsIdle : (ℕ → DeviceTold) → Node → Type 0
IsIdle w n = EachWrite (λ p. IsUnwritten (w p)) n

-- what may come between in a run: how a part may be left, and how a device may be opened, read and written
pub record Leeway : Type 1 where
  pub left : Type 0 → Outcomes → Outcomes
  pub opens : DeviceTold → Outcomes → Type 0 → Outcomes
  pub reads : DeviceTold → Outcomes
  pub writes : DeviceTold → Outcomes → Outcomes

-- each part may be left at any time, and each device may fail
abbrev pub any_leeway : Leeway
any_leeway = record { left = OrLeft; opens = OpensThen; reads = Reads; writes = Written }

-- nothing is left, and no device fails
abbrev pub no_leeway : Leeway
no_leeway = record { left = λ Idle R. R; opens = λ d A Idle. A; reads = ReadsWhole; writes = WrittenWhole }

-- what the node may give, with this leeway, where the tables have these values and the devices tell this at the end
abbrev pub Gives : Leeway → Values → (ℕ → DeviceTold) → Node → Outcomes
Gives l t w Nil = Exactly [] Done
Gives l t w (Emit load) = Exactly (elements load) Done
Gives l t w (Raise c) = Exactly [] (Fault (code.Raised c))
Gives l t w (Read p) = l.reads (w p)
Gives l t w (Weak' p _ a) = l.opens (w p) (l.left (IsIdle w a) (Gives l t w a)) (IsIdle w a)
Gives l t w (Scope' _ a) = l.left (IsIdle w a) (Gives l t w a)
Gives l t w (Append' _ a _ b) = Follows (λ g. g ≡ Done) (l.left (IsIdle w a) (Gives l t w a)) (l.left (IsIdle w b) (Gives l t w b)) (IsIdle w b)
Gives l t w (OnFault' _ a _ b) = Follows IsFault (l.left (IsIdle w a) (Gives l t w a)) (l.left (IsIdle w b) (Gives l t w b)) (IsIdle w b)
Gives l t w (Through' _ a q) = Piped (part_of t q) (all_of t q) (l.left (IsIdle w a) (Gives l t w a))
Gives l t w (Take' n _ a) = Taken n (l.left (IsIdle w a) (Gives l t w a))
Gives l t w (Zip' _ a _ b) = Zipped (l.left (IsIdle w a) (Gives l t w a)) (l.left (IsIdle w b) (Gives l t w b))
Gives l t w (Merge' _ a _ b) = Merged (l.left (IsIdle w a) (Gives l t w a)) (IsIdle w a) (l.left (IsIdle w b) (Gives l t w b)) (IsIdle w b)
Gives l t w (Into' p _ a) = l.writes (w p) (l.left (IsIdle w a) (Gives l t w a))

-- a run of the node; it and each of its parts may be left at any time
abbrev pub IsRun : Values → (ℕ → DeviceTold) → Node → Outcomes
IsRun t w n = OrLeft (IsIdle w n) (Gives any_leeway t w n)

-- a run in which nothing is left and no device fails. It takes from a device only what it holds and what was written to it, so that a part that
-- never ran, as behind a taker that had enough, gives what it would have given.
abbrev pub IsIdealRun : Values → (ℕ → DeviceTold) → Node → Outcomes
IsIdealRun t w n = Gives no_leeway t w n
