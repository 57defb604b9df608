-- What a node is run over: devices by their places, scopes, and the room that there is.
use Rattle.std.specs.Prelude.{◌≡◌, ◌≢◌, ◌⊎◌, ◌↔◌, ℕ, ◌+◌, ◌<◌, ◌≤◌, ◌^◌, true, false, List, take, drop, length, Some, None, IfSome}
use Rattle.chunk_core.specs.declared.code.Exit.{Exit}
use Rattle.device_port.specs.Device.{DeviceTold, moved, with_written}

-- what the device of each place tells, which scopes are open, which were closed for themselves and with which exit,
-- which lie within which, which devices were never asked, which are held by which scope, and room for events, for scopes and for rows
pub record Around : Type 1 where
  pub told : ℕ → DeviceTold
  pub opened : ℕ → Type 0
  pub closed : ℕ → Exit → Type 0
  pub within : ℕ → ℕ → Type 0
  pub waits : ℕ → Type 0
  pub holds : ℕ → ℕ → Type 0
  pub events : ℕ
  pub scopes : ℕ
  pub rows : ℕ

-- what a device tells, but for whether it was closed, and how
abbrev pub gist : DeviceTold → DeviceTold
gist d = record d { is_open = false; closes = 0; close_faults = 0; exit = None }

-- a device that told d may come to tell e
pub record Goes (d e : DeviceTold) : Type 0 where
  pub content : e.content ≡ d.content
  pub place : e.place ≡ d.place
  pub at : d.at ≤ e.at
  pub within : d.at ≤ 2 ^ 40 → e.at ≤ 2 ^ 40
  pub opens : d.opens ≡ 1 → (e.opens ≡ 1) × (e.open_faults ≡ d.open_faults)

-- nobody tried to open the device
pub record IsUntried (d : DeviceTold) : Type 0 where
  pub opens : d.opens ≡ 0
  pub open_faults : d.open_faults ≡ 0

-- the place is held by a scope
abbrev pub IsHeld : Around → ℕ → Type 0
IsHeld a p = (k : ℕ) × a.holds p k

-- each scope lies within itself, and within all that a scope lies in within which it lies
pub data IsNested (a : Around) : Type 0 where
  nesting : ((k : ℕ) → a.within k k) → ((i j k : ℕ) → a.within i j → a.within j k → a.within i k) → IsNested a

-- each device that is open is held by an open scope
abbrev pub OpenAreHeld : Around → Type 0
OpenAreHeld a = (q : ℕ) → (a.told q).is_open ≡ true → (k : ℕ) × a.holds q k × a.opened k

-- the scope k is open, and lies within none of these
abbrev pub IsSpared : Around → (ℕ → Type 0) → ℕ → Type 0
IsSpared a Closing k = a.opened k × ((c : ℕ) → Closing c → a.within k c → ⊥)

-- the scope k lies within the same scopes as before
abbrev pub LiesAsBefore : Around → ℕ → Around → Type 0
LiesAsBefore a k b = (c : ℕ) → b.within k c ↔ a.within k c

-- the scope k is open, where it was
pub record StaysOpen (a : Around) (k : ℕ) (b : Around) : Type 0 where
  pub opened : b.opened k
  pub within : LiesAsBefore a k b

-- the devices of other places than the touched ones are as they were, and so are the open scopes that lie within none of the closing ones, with what they hold
pub record Keeps (a : Around) (Touched Closing : ℕ → Type 0) (b : Around) : Type 0 where
  pub told : (q : ℕ) → (Touched q → ⊥) → gist (b.told q) ≡ gist (a.told q)
  pub waits : (q : ℕ) → (Touched q → ⊥) → a.waits q → b.waits q
  pub holds : (q k : ℕ) → (Touched q → ⊥) → IsSpared a Closing k → a.holds q k → b.holds q k
  pub stays : (k : ℕ) → IsSpared a Closing k → StaysOpen a k b

-- all scopes stay open, and only the device of p was touched
abbrev pub KeepsBut : Around → ℕ → Around → Type 0
KeepsBut a p b = Keeps a (λ q. q ≡ p) (λ c. ⊥) b

-- the same room at least
pub record Affords (a b : Around) : Type 0 where
  pub events : a.events ≤ b.events
  pub scopes : a.scopes ≤ b.scopes
  pub rows : a.rows ≤ b.rows

-- the device of p was opened, and the scope s holds it
pub record AcquiresDevice (a : Around) (s p : ℕ) (b : Around) : Type 0 where
  pub told : b.told p ≡ record (a.told p) { is_open = true; opens = 1 }
  pub keeps : KeepsBut a p b
  pub holds : (q k : ℕ) → a.holds q k → b.holds q k
  pub held : b.holds p s
  pub events : a.events ≤ b.events + 2
  pub scopes : a.scopes ≤ b.scopes
  pub rows : a.rows ≤ b.rows + 1

-- the device of p could not be opened
pub record Refuses (a : Around) (p : ℕ) (b : Around) : Type 0 where
  pub told : b.told p ≡ record (a.told p) { open_faults = (a.told p).open_faults + 1 }
  pub keeps : KeepsBut a p b
  pub affords : Affords a b

-- the device of p gave the first n bytes of the buffer, and none only at its end
pub record GivesPiece (a : Around) (p n : ℕ) (buf : List ℕ) (b : Around) : Type 0 where
  pub count : n ≤ length buf
  pub told : b.told p ≡ moved n (a.told p)
  pub bytes : IfSome (a.told p).content (λ c. take n buf ≡ take n (drop (a.told p).at c))
  pub end : n ≡ 0 → IfSome (a.told p).content (λ c. length c ≤ (a.told p).at)
  pub keeps : KeepsBut a p b
  pub holds : (q k : ℕ) → a.holds q k → b.holds q k
  pub affords : Affords a b

-- the device of p could not be read
pub record FailsToRead (a : Around) (p : ℕ) (b : Around) : Type 0 where
  pub told : b.told p ≡ record (a.told p) { read_faults = (a.told p).read_faults + 1 }
  pub keeps : KeepsBut a p b
  pub affords : Affords a b

-- the scopes are as they were, and hold what they held
pub record SameScopes (a b : Around) : Type 0 where
  pub opened : (k : ℕ) → b.opened k → a.opened k
  pub closed : (k : ℕ) (x : Exit) → b.closed k x ↔ a.closed k x
  pub within : (k : ℕ) → LiesAsBefore a k b
  pub holds : (q k : ℕ) → a.holds q k → b.holds q k

-- the device of p took a front of these bytes that isn't empty, n of them
pub record TakesPiece (a : Around) (p n : ℕ) (bytes : List ℕ) (b : Around) : Type 0 where
  pub some : 1 ≤ n
  pub count : n ≤ length bytes
  pub told : b.told p ≡ with_written (a.told p) (take n bytes)
  pub keeps : KeepsBut a p b
  pub scopes : SameScopes a b
  pub affords : Affords a b

-- the device of p could not be written
pub record FailsToWrite (a : Around) (p : ℕ) (b : Around) : Type 0 where
  pub told : b.told p ≡ record (a.told p) { write_faults = (a.told p).write_faults + 1 }
  pub keeps : KeepsBut a p b
  pub scopes : SameScopes a b
  pub affords : Affords a b

-- these bytes were written to the device of p, and so many writes failed
pub record Writes (a : Around) (p : ℕ) (bytes : List ℕ) (faults : ℕ) (b : Around) : Type 0 where
  pub told : b.told p ≡ record (with_written (a.told p) bytes) { write_faults = (a.told p).write_faults + faults }
  pub keeps : KeepsBut a p b
  pub scopes : SameScopes a b
  pub affords : Affords a b

-- a device that told d tells the same of what was written to it, and no further act on it failed
abbrev pub StaysWell : DeviceTold → DeviceTold → Type 0
StaysWell d e = (e.written ≡ d.written) × (e.write_faults ≡ d.write_faults) × (e.read_faults ≡ d.read_faults) × (e.open_faults ≡ d.open_faults)

-- nothing was written to any device, and no act on one failed
abbrev pub AllStayWell : (ℕ → DeviceTold) → (ℕ → DeviceTold) → Type 0
AllStayWell before now = (p : ℕ) → StaysWell (before p) (now p)

-- the scope c, within which no open scope lay, was opened in s: it lies within itself and where s does
pub record Enters (a : Around) (s c : ℕ) (b : Around) : Type 0 where
  pub within : (k : ℕ) → b.within c k ↔ ((k ≡ c) ⊎ a.within s k)
  pub fresh : (k : ℕ) → a.opened k → b.within k c → ⊥
  pub opened : b.opened c
  pub keeps : Keeps a (λ q. ⊥) (λ k. ⊥) b
  pub events : a.events ≤ b.events + 2
  pub scopes : a.scopes ≤ b.scopes + 1
  pub rows : a.rows ≤ b.rows

-- the scope c was closed for itself, once, with the exit x
pub record IsClosedWith (a : Around) (c : ℕ) (x : Exit) : Type 0 where
  pub gone : a.opened c → ⊥
  pub exit : (y : Exit) → a.closed c y ↔ (y ≡ x)

-- the scope c was closed with the exit x and with what it held, and no other scope for itself, but each scope within it;
-- a device of a scope that was closed with it is closed, each that was closed tells that exit, and with the root each scope is closed
pub record LeavesScope (a : Around) (c : ℕ) (x : Exit) (b : Around) : Type 0 where
  pub told : (q : ℕ) → gist (b.told q) ≡ gist (a.told q)
  pub keeps : Keeps a (λ q. ⊥) (λ k. k ≡ c) b
  pub closed : IsClosedWith b c x
  pub others : (k : ℕ) (y : Exit) → k ≢ c → b.closed k y ↔ a.closed k y
  pub only : (k : ℕ) → b.opened k → a.opened k
  pub inside : (k : ℕ) → a.within k c → b.opened k → ⊥
  pub shut : (q k : ℕ) → a.holds q k → (b.opened k → ⊥) → (b.told q).is_open ≡ false
  pub exits : (q : ℕ) → (b.told q ≡ a.told q) ⊎ ((b.told q).exit ≡ Some x)
  pub root : c ≡ 0 → (k : ℕ) → b.opened k → ⊥
  pub affords : Affords a b
