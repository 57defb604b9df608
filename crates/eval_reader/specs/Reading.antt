-- What reading the lines of a file in groups does.
use Rattle.std.specs.Prelude.{◌≡◌, ◌≤◌, ℕ, ◌+◌, Bool, true, false, List, [], ◌∷◌, ◌++◌, length, map, Option, Some, None, IfSome, Result, Ok, Err}
use Rattle.chunk_core.specs.Elements.{Byte, Element, elements, rendering_of}
use Rattle.chunk_core.specs.Elements.Element.{Line}
use Rattle.chunk_core.specs.declared.load.Load.{Load}
use Rattle.chunk_core.specs.Elements.LoadKind.{Lines}
use Rattle.chunk_core.specs.Outcomes.{End}
use Rattle.chunk_core.specs.Tables.{Values}
use Rattle.chunk_core.specs.declared.code.How.{How}
use Rattle.chunk_core.specs.declared.code.How.TheVariants as how
use Rattle.device_port.specs.Device.{DeviceTold}
use Rattle.pull_nodes.specs.Plain.{IsFront}
use Rattle.pull_stepper.specs.Held.{FinishesDevice}
use Rattle.pull_stepper.specs.Sites.{Since, around, told_at}
use Rattle.pull_stepper.specs.Steppers.{Works, stepping}
use Rattle.pull_stepper.specs.Stepping.{CanGo, IsOver, Stepping}
use Rattle.pull_turns.specs.Around.{Goes}
use Rattle.pull_turns.specs.Led.{Led}
use Rattle.pull_turns.specs.Piping.{HasKind, StateMeaning}
use Rattle.pull_turns.specs.Failures.{IsToldRunOfRest}
use Rattle.pull_turns.specs.Turned.{Spends, SpendsWithin}
use Rattle.pull_turns.specs.Work.{work_left}
use Rattle.row_seat.specs.declared.view.View.{View}
use Rattle.run_rules.specs.Facts.{is_over}
use Rattle.run_rules.specs.Outputs.{IsReported}
use Rattle.eval_rules.specs.Answers.{groups_of}
use Rattle.eval_reader.specs.declared.reader.Reader.{Reader}

-- the lines of a chunk, where one came
abbrev pub lines_by : Option (List (List ℕ)) → List Element
lines_by None = []
lines_by (Some lines) = map Line lines

-- it ended by itself
abbrev pub ends_itself : Option How → Bool
ends_itself None = false
ends_itself (Some h) = is_over h

-- how a stepper that stood so has ended once it is stopped
abbrev pub stopped_from : Option How → How
stopped_from None = how.Halted
stopped_from (Some h) = h

-- how much work is left, none where it has ended
abbrev pub work_until : Option How → ℕ → ℕ
work_until None n = n + 1
work_until (Some h) n = 0

-- how much work is left of a stepper, where the pipes still owe so much
abbrev pub work_of : {V F : Type 0} → (F → ℕ) → Stepping V F → ℕ
work_of due b = work_until b.how (work_left due b.rest)

-- the text of a group, as bytes
abbrev pub text_of : List Element → List Element
text_of group = map Byte (rendering_of group)

-- what callers see of a reader: its stepper, the text of the lines that were gathered for the next group and how many they are, and the lines that wait behind them
pub record SeenReader (V F : Type 0) : Type 0 where
  pub stepper : Stepping V F
  pub text : List ℕ
  pub count : ℕ
  pub waiting : List (List ℕ)

module _ {S V F D T : Type 0} (view : S → View V) where
  -- what callers see of it, where the tables have these values
  abbrev pub seen_reader : (T → Values) → Reader S V F V D T → SeenReader V F
  seen_reader values r = record { stepper = stepping view values r.stepper; text = r.gathering.text.items; count = r.gathering.count; waiting = r.gathering.lines }

  -- its stepper fits the desk
  abbrev pub ReaderWorks : (V → DeviceTold) → (S → D → Type 0) → Reader S V F V D T → D → Type 0
  ReaderWorks told fits r d = Works view told fits r.stepper d

module _ {V F : Type 0} (P : Values → StateMeaning F) (told : V → DeviceTold) where
  -- turns were made since a, which gave these elements, and more may be made, of which lines come
  pub record Reads (a b : Stepping V F) (given : List Element) : Type 0 where
    pub can : CanGo P told b
    pub tables : b.tables ≡ a.tables
    pub chunk : b.chunk ≡ a.chunk
    pub spends : Spends (around told a.site) (around told b.site) a.rest b.rest
    pub led : Led (P a.tables) (told_at told a.site) (told_at told b.site) a.rest b.rest given
    pub lines : HasKind (P a.tables) Lines b.rest

  -- turns were made since a, which gave these elements, and it has ended so
  pub record HasEnded (a b : Stepping V F) (given : List Element) (h : How) : Type 0 where
    pub end : End
    pub run : IsToldRunOfRest (P a.tables) (told_at told b.site) a.rest given end
    pub reported : IsReported end h
    pub over : IsOver told b
    pub goes : (p : ℕ) → Goes (told_at told a.site p) (told_at told b.site p)
    pub spends : SpendsWithin (around told a.site) (around told b.site) a.rest

  abbrev pub ReadsTo : Stepping V F → Stepping V F → List Element → Option How → Type 0
  ReadsTo a b given None = Reads a b given
  ReadsTo a b given (Some h) = HasEnded a b given h

  -- turns were made since a, which gave these elements, and it goes on or has ended
  pub record IsReading (a b : Stepping V F) (given : List Element) : Type 0 where
    pub since : Since told (FinishesDevice told) a.site b.site
    pub at : ReadsTo a b given b.how

  -- it wasn't halted, and the elements that were given are in these groups of n, and those that were gathered for the next one, and those that wait
  pub record IsGrouping (n : ℕ) (a : Stepping V F) (r : SeenReader V F) (groups : List (List Element)) : Type 0 where
    pub given : List Element
    pub gathered : List (List ℕ)
    pub reading : IsReading a r.stepper given
    pub unstopped : IfSome r.stepper.how (λ h. is_over h ≡ true)
    pub counted : r.count ≡ length gathered
    pub small : length gathered ≤ n
    pub written : r.text ≡ rendering_of (map Line gathered)
    pub grouped : (more : List Element) → (ends_itself r.stepper.how ≡ true → more ≡ []) → groups_of n (given ++ more) ≡ groups ++ groups_of n (map Line (gathered ++ r.waiting) ++ more)

  -- it has ended, and the elements that were given, whatever would have come behind them, begin with these groups of n
  pub record HasStopped (n : ℕ) (a : Stepping V F) (r : SeenReader V F) (groups : List (List Element)) : Type 0 where
    pub given : List Element
    pub how : How
    pub ended : r.stepper.how ≡ Some how
    pub reading : IsReading a r.stepper given
    pub fronts : (more : List Element) → (is_over how ≡ true → more ≡ []) → IsFront groups (groups_of n (given ++ more))

  -- it ended by itself, and the elements that were given are these groups of n
  pub record IsWhole (n : ℕ) (a : Stepping V F) (r : SeenReader V F) (groups : List (List Element)) : Type 0 where
    pub given : List Element
    pub how : How
    pub ended : r.stepper.how ≡ Some how
    pub itself : is_over how ≡ true
    pub reading : IsReading a r.stepper given
    pub whole : groups_of n given ≡ groups

  -- the text of a further group was given, or none is left, or memory was wanting and it has ended
  abbrev pub GivesGroup : {E : Type 0} → ℕ → Stepping V F → SeenReader V F → List (List Element) → Result (Option Load) E → Type 0
  GivesGroup n a r groups (Ok (Some load)) = (group : List Element) × (elements load ≡ text_of group) × IsGrouping n a r (groups ++ group ∷ [])
  GivesGroup n a r groups (Ok None) = IsWhole n a r groups
  GivesGroup n a r groups (Err _) = HasStopped n a r groups
