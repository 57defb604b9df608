-- What is left of a node.
use Rattle.std.specs.Prelude.{◌≡◌, ◌⊎◌, ℕ, ◌+◌, ◌*◌, ◌<◌, ◌≤◌, ◌^◌, List, [], ◌++◌, drop, map, take, length, Option, Some, None, IfSome, option_map, true, if◌then◌else◌, ◌||◌}
use Rattle.chunk_core.specs.declared.code.Code.{Code}
use Rattle.chunk_core.specs.declared.code.Code.TheVariants as code
use Rattle.chunk_core.specs.Elements.{Byte, Element, LoadKind, rendering_of}
use Rattle.chunk_core.specs.Feed.{Meaning}
use Rattle.chunk_core.specs.Outcomes.{End, Done, Fault, Outcomes}
use Rattle.device_port.specs.Device.{DeviceTold}
use Rattle.device_port.specs.declared.device.Mode.TheVariants as mode
use Rattle.pull_nodes.specs.Plain.{IsFront}
use Rattle.pull_nodes.specs.declared.node.Node.{Node}
use Rattle.pull_nodes.specs.declared.node.Node.TheVariants as node
use Rattle.pull_nodes.specs.Runs.{OrLeft, Exactly, Follows, Merged, Taken, Zipped, IsFault, IsIdle, IsRun, IsUnwritten, StopsReading, end_by_fault}
use Rattle.pull_nodes.specs.Shape.{SomePlace, acquired_place, folded, node_count, places_of, scope_count}
use Rattle.pull_turns.specs.Around.{Around, IsNested, IsUntried}
use Rattle.pull_turns.specs.Groups.{HasElements, HasNoGroups, waiting}
use Rattle.pull_turns.specs.Piping.{StateMeaning, HasKind, PipesFit, PipedOn, Behind}
use Rattle.pull_turns.specs.Shape.{rest_folded}
use Rattle.stream_sides.specs.MergeTurns.{IsGoing, MergeTurns}
use Rattle.stream_sides.specs.declared.side.Side.TheVariants.{Left, Right}
use Rattle.pull_turns.specs.declared.rest.Rest.{Rest}
use Rattle.pull_turns.specs.declared.rest.Rest.TheVariants.{Nil, Start, Read, Within', Then', Through', Finishing, Faulty, Groups', Take', Into', Zip', Merge'}
use Rattle.pull_turns.specs.declared.rest.When.{When}
use Rattle.pull_turns.specs.declared.rest.When.TheVariants as when

-- the bytes that a device gave from a place on up to the place n: those of its content where that is told
abbrev pub BytesFrom : Option (List ℕ) → ℕ → ℕ → List Element → Type 0
BytesFrom None from n ys = (bytes : List ℕ) × (from + length bytes ≡ n) × (ys ≡ map Byte bytes)
BytesFrom (Some c) from n ys = ys ≡ map Byte (drop from (take n c))

-- a device is read on from a place
abbrev pub ReadsFrom : ℕ → DeviceTold → Outcomes
ReadsFrom from d ys e = BytesFrom d.content from d.at ys × StopsReading d e

-- the end of a first part begins the second
abbrev pub Begins : When → End → Type 0
Begins when.Done g = g ≡ Done
Begins when.Fault g = IsFault g

-- below a taker that has all it wants nothing more is written; at the place of a stream that is written stands what stands there now, and no write failed
abbrev pub WritesNoMoreAt : {F : Type 0} → (ℕ → DeviceTold) → Rest F → Type 0 → Type 0
WritesNoMoreAt w (Take' n _ a) Q = 0 < n → Q
WritesNoMoreAt w (Into' p v _ a) Q = ((w p).written ≡ v) × ((w p).write_faults ≡ 0) × Q
WritesNoMoreAt w r Q = Q

-- nothing more was written by what is left, and no write failed
abbrev pub WritesNoMore : {F : Type 0} → (ℕ → DeviceTold) → Rest F → Type 0
WritesNoMore w r = rest_folded (Unit {0}) (λ Q R. Q × R) (IsIdle w) (WritesNoMoreAt w) r

-- the first n elements that A gives, or none, and A is asked no more, where none is wanted
abbrev pub TakenOn : ℕ → Outcomes → Outcomes
TakenOn n A ys e = ((n ≡ 0) × (ys ≡ []) × (e ≡ Done)) ⊎ ((0 < n) × Taken n A ys e)

-- the device tells that these bytes were written behind v, where it tells what was written
abbrev pub StandsBehind : Option (List ℕ) → List ℕ → DeviceTold → Type 0
StandsBehind v bytes d = d.written ≡ option_map (λ w. w ++ bytes) v

-- what A gives is written to a device behind v, and nothing is given on: no write failed, or one did behind a front of the text, and this is the end
abbrev pub WrittenOn : Option (List ℕ) → DeviceTold → Outcomes → Outcomes
WrittenOn v d A ys e =
    (xs : List Element) × (g : End) × A xs g × (ys ≡ [])
    × (((d.write_faults ≡ 0) × StandsBehind v (rendering_of xs) d × (e ≡ g))
    ⊎ ((d.write_faults ≡ 1) × ((front : List ℕ) × IsFront front (rendering_of xs) × StandsBehind v front d) × (e ≡ Fault code.Write)))

-- a run of what is left, by what the devices tell at the end; what a pipe still gives is so for each input that its state stands for, of a pipe that takes what comes to it
abbrev pub IsRunOfRest : {F : Type 0} → StateMeaning F → (ℕ → DeviceTold) → Rest F → Outcomes
IsRunOfRest P w Nil = OrLeft (Unit {0}) (Exactly [] Done)
IsRunOfRest P w (Start n) = IsRun P.values w n
IsRunOfRest P w (Read p from) = OrLeft (Unit {0}) (ReadsFrom from (w p))
IsRunOfRest P w (Within' s _ a) = OrLeft (WritesNoMore w a) (IsRunOfRest P w a)
IsRunOfRest P w (Then' v _ a b) = OrLeft (WritesNoMore w a × IsIdle w b.value) (Follows (Begins v) (IsRunOfRest P w a) (IsRun P.values w b.value) (IsIdle w b.value))
IsRunOfRest P w (Through' _ a q) = λ ys e. (m : Meaning) (xs : List Element) → P.stands q m xs → HasKind P m.takes a → OrLeft (WritesNoMore w a) (PipedOn m xs (IsRunOfRest P w a)) ys e
IsRunOfRest P w (Finishing q) = λ ys e. (k : LoadKind) (xs : List Element) (c : Option Code) → P.comes q k xs c → OrLeft (Unit {0}) (Exactly xs (end_by_fault c Done)) ys e
IsRunOfRest P w (Faulty c) = OrLeft (Unit {0}) (Exactly [] (Fault c))
IsRunOfRest P w (Groups' n f _ a) = OrLeft (WritesNoMore w a) (Behind (waiting f) (IsRunOfRest P w a))
IsRunOfRest P w (Take' n _ a) = OrLeft (0 < n → WritesNoMore w a) (TakenOn n (IsRunOfRest P w a))
IsRunOfRest P w (Into' p v _ a) = OrLeft (((w p).written ≡ v) × ((w p).write_faults ≡ 0) × WritesNoMore w a) (WrittenOn v (w p) (IsRunOfRest P w a))
IsRunOfRest P w (Zip' z _ a _ b) = OrLeft (WritesNoMore w a × WritesNoMore w b) (Zipped (Behind z.left (IsRunOfRest P w a)) (Behind z.right (IsRunOfRest P w b)))
IsRunOfRest P w (Merge' m _ a _ b) = OrLeft (WritesNoMore w a × WritesNoMore w b) (Merged (IsRunOfRest P w a) (WritesNoMore w a) (IsRunOfRest P w b) (WritesNoMore w b))

-- the place is the node's own, or the fact
abbrev pub IsInAt : ℕ → Node → Type 0 → Type 0
IsInAt p (node.Read q) Q = p ≡ q
IsInAt p (node.Weak' q _ a) Q = (p ≡ q) ⊎ Q
IsInAt p (node.Into' q _ a) Q = (p ≡ q) ⊎ Q
IsInAt p n Q = Q

-- the place is acquired, read or written in the node
abbrev pub IsIn : ℕ → Node → Type 0
IsIn p n = folded ⊥ ◌⊎◌ (IsInAt p) n

-- the place is acquired in the node
abbrev pub IsAsked : ℕ → Node → Type 0
IsAsked p n = SomePlace acquired_place (λ q. p ≡ q) n

-- the place is the part's own, or the fact; what is below a take that has all it wants is asked no more
abbrev pub IsLiveAt : {F : Type 0} → ℕ → Rest F → Type 0 → Type 0
IsLiveAt p (Read q from) Q = p ≡ q
IsLiveAt p (Take' n _ a) Q = (0 < n) × Q
IsLiveAt p (Into' q v _ a) Q = (p ≡ q) ⊎ Q
IsLiveAt p r Q = Q

-- the place is acquired, read or written in what is left
abbrev pub IsLive : {F : Type 0} → ℕ → Rest F → Type 0
IsLive p r = rest_folded ⊥ ◌⊎◌ (IsIn p) (IsLiveAt p) r

-- the scope is the part's own, or the fact; what is below a take that has all it wants runs no more
abbrev pub IsScopeOfAt : {F : Type 0} → ℕ → Rest F → Type 0 → Type 0
IsScopeOfAt c (Within' s _ a) Q = (c ≡ s) ⊎ Q
IsScopeOfAt c (Take' n _ a) Q = (0 < n) × Q
IsScopeOfAt c r Q = Q

-- the scope was opened for a part of what is left, that may still run
abbrev pub IsScopeOf : {F : Type 0} → ℕ → Rest F → Type 0
IsScopeOf c r = rest_folded ⊥ ◌⊎◌ (λ n. ⊥) (IsScopeOfAt c) r

-- the place is held by an open scope in which s lies
abbrev pub IsHeldBy : Around → ℕ → ℕ → Type 0
IsHeldBy a s p = (k : ℕ) × a.opened k × a.within s k × a.holds p k

-- a device for reading, of which nothing was read
pub record IsToRead (d : DeviceTold) : Type 0 where
  pub mode : d.place.mode ≡ mode.Read
  pub at : d.at ≡ 0
  pub faults : d.read_faults ≡ 0

-- a device for writing, to which nothing was written
pub record IsToWrite (d : DeviceTold) : Type 0 where
  pub mode : d.place.mode ≡ mode.Write
  pub written : IsUnwritten d
  pub faults : d.write_faults ≡ 0

-- a device for writing, where v was written
pub record HasWritten (d : DeviceTold) (v : Option (List ℕ)) : Type 0 where
  pub mode : d.place.mode ≡ mode.Write
  pub written : d.written ≡ v
  pub faults : d.write_faults ≡ 0

-- no place stands in both nodes
abbrev pub HaveNoPlaceInCommon : Node → Node → Type 0
HaveNoPlaceInCommon n m = (p : ℕ) → IsIn p n → IsIn p m → ⊥

-- what a node's own place and its parts ask, where this is asked of its parts, by the places that will be held
abbrev pub IsFreshAt : Around → ℕ → Node → ((ℕ → Type 0) → Type 0) → (ℕ → Type 0) → Type 0
IsFreshAt a s (node.Read p) Q P = IsToRead (a.told p) × (P p ⊎ IsHeldBy a s p)
IsFreshAt a s (node.Weak' p _ n) Q P = a.waits p × (IsAsked p n → ⊥) × Q (λ q. (q ≡ p) ⊎ P q) × IsUntried (a.told p)
IsFreshAt a s (node.Append' _ n _ m) Q P = HaveNoPlaceInCommon n m × Q P
IsFreshAt a s (node.OnFault' _ n _ m) Q P = HaveNoPlaceInCommon n m × Q P
IsFreshAt a s (node.Into' p _ n) Q P = IsToWrite (a.told p) × (P p ⊎ IsHeldBy a s p) × (IsIn p n → ⊥) × Q P
IsFreshAt a s (node.Zip' _ n _ m) Q P = HaveNoPlaceInCommon n m × Q P
IsFreshAt a s (node.Merge' _ n _ m) Q P = HaveNoPlaceInCommon n m × Q P
IsFreshAt a s n Q P = Q P

-- a node that wasn't entered may be run in the scope s: its devices wait, nothing was done with one, and what it reads or writes is held,
-- or is one of the places that will be held by then; no place stands on both sides of a join, or in what is written to it
abbrev pub IsFresh : Around → (ℕ → Type 0) → ℕ → Node → Type 0
IsFresh a P s n = folded (λ P. Unit {0}) (λ Q R P. Q P × R P) (IsFreshAt a s) n P

-- no place is held yet
abbrev pub NoPlace : ℕ → Type 0
NoPlace p = ⊥

-- two parts that may both run: no place is of both, and no scope of one lies within one of the other
pub record AreApart {F : Type 0} (a : Around) (x y : Rest F) : Type 0 where
  pub places : (p : ℕ) → IsLive p x → IsLive p y → ⊥
  pub scopes : (c d : ℕ) → IsScopeOf c x → IsScopeOf d y → (a.within c d → ⊥) × (a.within d c → ⊥)

-- the devices and scopes let what is left be run on in the scope s: a part's own scope lies within that in which the part was entered, and not the
-- other way round; no read failed of a device that is still read, and no write of one that is still written; below a step no part is grouped
abbrev pub IsReady : {F : Type 0} → Around → ℕ → Rest F → Type 0
IsReady a s Nil = Unit {0}
IsReady a s (Start n) = IsFresh a NoPlace s n
IsReady a s (Read p from) =
    ((a.told p).at ≡ from) × ((a.told p).read_faults ≡ 0) × (from ≤ 2 ^ 40) × IfSome (a.told p).content (λ c. from ≤ length c) × IsHeldBy a s p × ((a.told p).place.mode ≡ mode.Read)
IsReady a s (Within' c _ r) = a.within c s × (a.within s c → ⊥) × a.opened c × IsReady a c r
IsReady a s (Then' w _ r b) = ((p : ℕ) → IsLive p r → IsIn p b.value → ⊥) × IsReady a s r × IsFresh a NoPlace s b.value
IsReady a s (Through' _ r q) = IsReady a s r × HasNoGroups r
IsReady a s (Finishing q) = Unit {0}
IsReady a s (Faulty c) = Unit {0}
IsReady a s (Groups' n f _ r) = (0 < n) × HasElements f × IsReady a s r × HasNoGroups r
IsReady a s (Take' n _ r) = (0 < n → IsReady a s r) × HasNoGroups r
IsReady a s (Into' p v _ r) = HasWritten (a.told p) v × IsHeldBy a s p × (IsLive p r → ⊥) × IsReady a s r × HasNoGroups r
IsReady a s (Zip' z _ x _ y) = AreApart a x y × IsReady a s x × IsReady a s y × HasNoGroups x × HasNoGroups y
IsReady a s (Merge' m _ x _ y) = AreApart a x y × IsReady a s x × IsReady a s y × (IsGoing m Left ⊎ IsGoing m Right) × (m.left_ended ≡ true → x ≡ Nil) × (m.right_ended ≡ true → y ≡ Nil)

-- what the nodes that weren't entered count, and what the parts add to what is left below them
abbrev pub total : {F : Type 0} → (Node → ℕ) → (Rest F → ℕ → ℕ) → Rest F → ℕ
total count add r = rest_folded 0 ◌+◌ count add r

-- no part adds anything
abbrev pub adds_none : {F : Type 0} → Rest F → ℕ → ℕ
adds_none r n = n

-- a merge is left once by the side that ends first
abbrev pub leavings_of : MergeTurns → ℕ
leavings_of m = if m.left_ended || m.right_ended then 0 else 1

-- each part adds its leaving; groups have none, and what stands alone was left
abbrev pub adds_leaving : {F : Type 0} → Rest F → ℕ → ℕ
adds_leaving (Read p from) n = n + 1
adds_leaving (Within' s _ a) n = n + 1
adds_leaving (Then' w _ a b) n = n + 1
adds_leaving (Through' _ a q) n = n + 1
adds_leaving (Take' k _ a) n = n + 1
adds_leaving (Into' p v _ a) n = n + 1
adds_leaving (Zip' z _ a _ b) n = n + 1
adds_leaving (Merge' m _ a _ b) n = n + leavings_of m
adds_leaving r n = n

-- entries and leavings that weren't made yet, at first twice the nodes
abbrev pub left : {F : Type 0} → Rest F → ℕ
left r = total (λ n. 2 * node_count n) adds_leaving r

-- the devices that may still be acquired
abbrev pub rows_left : {F : Type 0} → Rest F → ℕ
rows_left r = total (λ n. length (places_of n)) adds_none r

-- the scopes that may still be opened
abbrev pub scopes_left : {F : Type 0} → Rest F → ℕ
scopes_left r = total scope_count adds_none r

-- what is left may be run on, and there is room for it
pub record CanStep {F : Type 0} (P : StateMeaning F) (a : Around) (s : ℕ) (r : Rest F) : Type 0 where
  pub ready : IsReady a s r
  pub pipes : PipesFit P r
  pub nested : IsNested a
  pub opened : a.opened s
  pub events : 2 * rows_left r + 2 * scopes_left r ≤ a.events
  pub scopes : scopes_left r ≤ a.scopes
  pub rows : rows_left r ≤ a.rows
