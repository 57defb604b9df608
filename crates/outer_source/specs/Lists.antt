-- The list of an outer stream, as it is read.
use Rattle.std.specs.Prelude.{◌≡◌, ◌⊎◌, ℕ, ◌+◌, ◌^◌, ◌≤◌, false, true, List, [], ◌∷◌, ◌++◌, length, Some}
use Rattle.chain_pipes.specs.Chains.{StandsFor}
use Rattle.chain_pipes.specs.declared.chain.Chain.{Chain}
use Rattle.chunk_core.specs.Lists.{IsAmong}
use Rattle.chunk_core.specs.Outcomes.{Cut, End, Fault}
use Rattle.chunk_core.specs.declared.code.Code.TheVariants as code
use Rattle.chunk_core.specs.declared.code.Exit.TheVariants.{Succeeded}
use Rattle.chunk_core.specs.declared.code.How.{How}
use Rattle.chunk_core.specs.declared.code.How.TheVariants as how
use Rattle.device_port.specs.Device.{DeviceTold}
use Rattle.device_port.specs.declared.device.Mode.TheVariants as mode
use Rattle.join_tree.specs.Given.{given}
use Rattle.list_lines.specs.Lists.{IsAt}
use Rattle.list_lines.specs.declared.lines.ListLines.{ListLines}
use Rattle.list_runs.specs.Meant.{list_meaning}
use Rattle.outer_stream.specs.Parts.{Gave}
use Rattle.outer_stream.specs.declared.next.OuterPart.{OuterPart}
use Rattle.outer_stream.specs.declared.outer.Outer.{Outer}
use Rattle.outer_tables.specs.Whole.{WasRead}
use Rattle.pipeline_desc.specs.Meant.{PlanMeant}
use Rattle.pipeline_desc.specs.declared.listing.ListSpec.{ListSpec}
use Rattle.plan_work.specs.Listed.{is_bad_line, lister_of}
use Rattle.plan_work.specs.Plans.{run_work}
use Rattle.res_ledger.specs.declared.event.What.{What}
use Rattle.res_ledger.specs.declared.event.What.TheVariants.{Acquire, Close, Open}
use Rattle.run_rules.specs.Giving.{leases_for}
use Rattle.run_rules.specs.Listing.{IsListing, IsReadInTime}
use Rattle.scope_tree.specs.Calls.{IsOpenScope, Seen}
use Rattle.std.specs.List.{AllByRecursion}
use Rattle.outer_source.specs.declared.source.OuterSource.{OuterSource}

-- what is noted of a list that has the row T in the scope k, behind n streams, of which m lines were given streams
abbrev pub list_notes : (k T n m : ℕ) → List What
list_notes k T n m = Open k 0 ∷ (Acquire T k ∷ leases_for k n m)

-- its scope is closed where the list is done
abbrev pub list_closing : ℕ → How → List What
list_closing k how.Done = Close k Succeeded ∷ []
list_closing k h = []

-- a device that was just opened to be read
pub record IsJustOpened (d : DeviceTold) : Type 0 where
  pub is_open : d.is_open ≡ true
  pub mode : d.place.mode ≡ mode.Read
  pub opens : d.opens ≡ 1
  pub open_faults : d.open_faults ≡ 0
  pub read_faults : d.read_faults ≡ 0

module _ {V : Type 0} (told : V → DeviceTold) (p : PlanMeant) where
  -- Of the list l, whose device was opened as `first` and is now `now`, these lines were given streams, and they end so: these are all that it gives as far as it was read, which wasn't too far; no read has failed, or one has and this is the end.
  pub record HasListed (l : ListSpec) (first now : V) (lines : List (List ℕ)) (e : End) : Type 0 where
    pub faults : ℕ
    pub reads : WasRead faults (told first) (told now)
    pub failed : (faults ≡ 0) ⊎ (e ≡ Fault code.Read)
    pub listing : IsListing (lister_of p lines l) ((run_work p lines).listing (told now)) e
    pub in_time : IsReadInTime (lister_of p lines l) (told now)
    pub few : (told now).at ≤ 2 ^ 40

  module _ (parts : List OuterPart) where
    abbrev T : ℕ
    T = length p.tables

    abbrev n : ℕ
    n = length p.streams

    abbrev k : ℕ
    k = length parts

    -- The outer stream has given all parts and opened the list l, whose device, which was opened as `first`, is in its row, in the scope behind those of the parts. These lines were given streams, and all of them are good and not too many; as far as the list was read they end so.
    pub record IsAmidList (l : ListSpec) (first : V) (lines : List (List ℕ)) (e : End) (x : Outer) (b : Seen V) : Type 0 where
      pub now : V
      pub held : IsAmong (T, now) b.seat.opened
      pub opened : IsJustOpened (told first)
      pub has : HasListed l first now lines e
      pub before : List What
      pub parts_given : Gave parts k 0 T n n before
      pub gave : given b.seat ≡ before ++ list_notes k T n (length lines)
      pub usable : IsOpenScope b k
      pub part : x.part ≡ k
      pub scope : x.scope ≡ k
      pub table : x.table ≡ T
      pub leased : x.leased ≡ n + length lines
      pub few : length lines ≤ l.max
      pub good : AllByRecursion (λ line. is_bad_line p line ≡ false) lines

    -- and what reads it has given just these lines, behind which it was left
    pub record IsInList (l : ListSpec) (first : V) (lines : List (List ℕ)) (x : OuterSource) (b : Seen V) : Type 0 where
      pub amid : IsAmidList l first lines Cut x.outer b
      pub reader : ListLines Chain
      pub is : x.list ≡ Some reader
      pub at : IsAt StandsFor list_meaning (told amid.now) lines reader
