-- What is printed where all was read.
use Rattle.std.specs.Prelude.{◌≡◌, ℕ, List, map, Some}
use Rattle.chunk_core.specs.Elements.{Byte, rendering_of}
use Rattle.chunk_core.specs.Lists.{IsAmong}
use Rattle.chunk_core.specs.Outcomes.{Done}
use Rattle.chunk_core.specs.Texts.{payloads_of}
use Rattle.chunk_core.specs.declared.code.How.TheVariants as how
use Rattle.device_port.specs.Depot.{content_at}
use Rattle.pipeline_desc.specs.declared.step.Step.{Step}
use Rattle.chain_pipes.specs.Over.{over}
use Rattle.res_ledger.specs.declared.event.StreamNo.TheVariants.{Inner}
use Rattle.run_rules.specs.declared.end.EndOf.{EndOf}
use Rattle.run_rules.specs.Facts.{at}
use Rattle.run_rules.specs.Work.{RunRecord}
use Rattle.tee_rules.specs.Tee.{TeesFile}

-- branch i is done
abbrev pub IsDone : RunRecord → ℕ → Type 0
IsDone c i = (e : EndOf) × IsAmong e c.ends × (e.who ≡ Inner i) × (e.how ≡ how.Done)

-- what branch i printed, which is done, is the text of what its steps give of the whole content
abbrev pub PrintsWhole : Type 0
PrintsWhole = (path : List ℕ) (branches : List (List Step)) (c : RunRecord) (bytes : List ℕ) (i : ℕ) (steps : List Step) → TeesFile path branches c → content_at c.depot_old.files path ≡ Some bytes → at branches i ≡ Some steps → IsDone c i
    → payloads_of i c.frames ≡ rendering_of (over steps (map Byte bytes) Done).list
