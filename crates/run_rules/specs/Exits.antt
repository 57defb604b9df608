-- What the finalizers were told.
use Rattle.std.specs.Prelude.{◌≡◌, ◌≢◌, ◌⊎◌, ℕ, zero, suc, true, List, None}
use Rattle.std.specs.List.{AllByRecursion}
use Rattle.chunk_core.specs.Elements.{Element}
use Rattle.chunk_core.specs.Outcomes.{End, exit_of}
use Rattle.chunk_core.specs.declared.code.Exit.{Exit}
use Rattle.chunk_core.specs.declared.code.Exit.TheVariants.{Succeeded, Canceled}
use Rattle.chunk_core.specs.declared.code.How.{How}
use Rattle.chunk_core.specs.declared.code.How.TheVariants as how
use Rattle.res_ledger.specs.declared.event.StreamNo.TheVariants.{Outer, Inner}
use Rattle.res_ledger.specs.declared.event.What.{What}
use Rattle.res_ledger.specs.declared.event.What.TheVariants.{Cancel, Close}
use Rattle.res_ledger.specs.Streams.{by_stream}
use Rattle.device_port.specs.Device.{DeviceTold}
use Rattle.run_rules.specs.declared.end.EndOf.{EndOf}
use Rattle.run_rules.specs.Ends.{IsSilenced}
use Rattle.run_rules.specs.Outputs.{IsReported}
use Rattle.run_rules.specs.Work.{Work, Values, RunRecord}

-- the exit of a Close by a stream that ended so: its root has that of its end, and the outer one closes its other scopes where it goes on
abbrev pub ClosesWith : EndOf → ℕ → Exit → Type 0
ClosesWith e zero x = x ≡ exit_of e.how
ClosesWith e (suc s) x = elim e.who [ Outer ↦ x ≡ Succeeded | Inner k ↦ Unit {0} ]

-- the exit of a Cancel by a stream that ended so: of its own lease it has that of its end, and the outer one cancels where a stream wasn't started
abbrev pub CancelsWith : EndOf → Exit → Type 0
CancelsWith e x = elim e.who [ Outer ↦ x ≡ Canceled | Inner k ↦ x ≡ exit_of e.how ]

-- what a stream that ended so notes of exits
abbrev pub HasExit : EndOf → What → Type 0
HasExit e (Close s x) = ClosesWith e s x
HasExit e (Cancel j x) = CancelsWith e x
HasExit e w = Unit {0}

-- a stream beside an outer one may have ended by itself and be reported as halted, where no more was printed
pub record IsExitHidden (work : Work) (c : RunRecord) (e : EndOf) : Type 0 where
  pub beside : work.opener ≢ None
  pub inner : e.who ≢ Outer
  pub halted : e.how ≡ how.Halted
  pub ceased : IsSilenced work c ⊎ (c.memory ≡ true)

-- what a stream noted of exits tells of one end, which is the one that is reported unless that is hidden
pub record HasOneExit (work : Work) (c : RunRecord) (v : Values) (w : ℕ → DeviceTold) (e : EndOf) : Type 0 where
  pub how : How
  pub same : (how ≡ e.how) ⊎ IsExitHidden work c e
  pub told : AllByRecursion (λ x. HasExit (record { who = e.who; how = how }) x.what) (by_stream e.who c.events)
  -- that end is the end of a run of the stream over these devices
  pub ran : (k : ℕ) → e.who ≡ Inner k → (ys : List Element) × (end : End) × work.runs k v w ys end × IsReported end how

-- each Close of a root, each Cancel and each Close by the outer stream has its exit
abbrev pub HaveExits : Work → RunRecord → Values → (ℕ → DeviceTold) → Type 0
HaveExits work c v w = AllByRecursion (HasOneExit work c v w) c.ends
