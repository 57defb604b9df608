-- What was printed of what the branches say.
use Rattle.std.specs.Prelude.{◌≡◌, ◌⊎◌, ℕ, zero, suc, ◌-◌, ◌^◌, ◌<◌, true, List, [], ◌∷◌, ◌++◌}
use Rattle.chunk_core.specs.Lists.{IsAmong}
use Rattle.chunk_core.specs.declared.code.How.{How}
use Rattle.channel_bounded.specs.Ends.{HubSeen}
use Rattle.device_port.specs.Sink.{SinkTold}
use Rattle.pull_nodes.specs.Plain.{IsFront}
use Rattle.tee_prints.specs.Printed.{IsStop, Prints}
use Rattle.tee_prints.specs.declared.printer.Printer.{Printer}
use Rattle.tee_texts.specs.Texts.{end_message}

-- the numbers below n
abbrev pub numbers : ℕ → List ℕ
numbers zero = []
numbers (suc n) = numbers n ++ n ∷ []

-- the printer of n branches at this queue, and what it printed since the sink was so
pub record IsPrinting (hub : HubSeen) (n : ℕ) (start now : SinkTold) (p : Printer) : Type 0 where
  pub hub_is : p.receiver.hub ≡ hub.id
  pub made : p.receiver.made ≡ numbers n
  pub closed : p.receiver.closed ≡ []
  pub prints : Prints n start now p.receiver.got p.ends.items p.broken
  pub room : start.faults < 2 ^ 64 - 1

-- it received more, or nothing, and a write that failed stays failed
pub record GoesOn (a b : Printer) : Type 0 where
  pub got : IsFront a.receiver.got b.receiver.got
  pub broken : a.broken ≡ true → b.broken ≡ true

-- a write failed, or one of n branches said that it found a fault or no memory
abbrev pub HasCause : ℕ → Printer → Type 0
HasCause n p = (p.broken ≡ true) ⊎ ((i : ℕ) × (h : How) × (i < n) × IsStop h × IsAmong (end_message i h) p.receiver.got)
