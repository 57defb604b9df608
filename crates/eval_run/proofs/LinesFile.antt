-- The stream of a file's lines: its node, its device, and how its reading ends.
use Rattle.std.proofs.Common.{◌≡◌, ℕ, List, [], ◌∷◌, inl, length, Option, Some, None, refl, sym, ap, ◌∙◌, subst, ⊎_elim, arith}
use Rattle.chunk_core.specs.Elements.{Element}
use Rattle.chunk_core.specs.Elements.LoadKind.{Bytes, Lines}
use Rattle.chunk_core.specs.Tables.{Values}
use Rattle.chunk_core.specs.declared.code.How.{How}
use Rattle.chunk_core.proofs.Members.{among_cons, among_nil}
use Rattle.device_port.specs.Depot.{DepotTold, Makes}
use Rattle.device_port.specs.Device.{DeviceTold, to_read}
use Rattle.device_port.specs.Sink.{SinkTold}
use Rattle.device_port.specs.declared.device.Mode.TheVariants as mode
use Rattle.device_port.proofs.Puts.{with_bytes_none}
use Rattle.eval_reader.specs.Reading.{IsReading, ReadsTo}
use Rattle.eval_reader.specs.Reading.{HasEnded as HasReadTo}
use Rattle.eval_rules.specs.Answers.{groups_of}
use Rattle.lone_stream.specs.Ran.{RunsLone}
use Rattle.lone_stream.specs.Steps.{HasEnded, IsBegun, IsPast}
use Rattle.lone_stream.specs.declared.run.Ran.{Ran}
use Rattle.par_eval.specs.Messages.{AreResults, Meaning}
use Rattle.par_eval.proofs.Places.{at_below}
use Rattle.pull_nodes.specs.Pipes.{meaning_over}
use Rattle.pull_nodes.specs.Shape.{places_of, scope_count}
use Rattle.pull_nodes.specs.declared.node.Node.{Node}
use Rattle.pull_nodes.specs.declared.pipe.Pipe.TheVariants as pipe
use Rattle.pull_stepper.proofs.Beginning.{fresh_unused}
use Rattle.pull_stepper.specs.Held.{FinishesDevice}
use Rattle.pull_stepper.specs.Placing.{first_of}
use Rattle.pull_stepper.specs.Sites.{IsUnused, Since}
use Rattle.pull_stepper.specs.Stepping.{IsSupplied, Stepping}
use Rattle.pull_turns.specs.Piping.{HasKind, HasKindOf, StateMeaning}
use Rattle.res_ledger.specs.declared.event.StreamNo.{StreamNo}
use Rattle.res_ledger.specs.declared.event.StreamNo.TheVariants.{Inner}
use Rattle.eval_run.specs.Pumping.{HasPumped, HasRead}
use Rattle.eval_run.specs.Ready.{IsLinesNode}
use Rattle.eval_run.specs.Runs.{AreGroups, Evaluated}
use Rattle.eval_run.specs.declared.stop.Stop.{Stop}
use Rattle.eval_run.specs.declared.stop.Stop.TheVariants as stop

-- The node.

pub lines_first : (n : Node) → IsLinesNode n → first_of (places_of n) ≡ 0
lines_first n is = ap (λ (m : Node). first_of (places_of m)) is.2

pub lines_places : (n : Node) → IsLinesNode n → length (places_of n) ≡ 1
lines_places n is = ap (λ (m : Node). length (places_of m)) is.2

pub lines_scopes : (n : Node) → IsLinesNode n → scope_count n ≡ 0
lines_scopes n is = ap (λ (m : Node). scope_count m) is.2

-- one device for the node
pub lines_supplied : {V : Type 0} (told : V → DeviceTold) (old new : DepotTold) (path : List ℕ) (n : Node) (d : V) → IsLinesNode n → Makes old new path mode.Read (told d) → IsSupplied told n (d ∷ [])
lines_supplied told old new path n d is makes = subst (λ m. IsSupplied told m (d ∷ [])) (sym is.2) (record {
  kind = refl;
  few = omega arith;
  placed = refl;
  count = refl;
  unused = λ x m. ⊎_elim (λ e. subst (λ y. IsUnused (told y)) (sym e) (fresh_unused old (to_read path) (told d) makes.device)) (λ i. absurd (among_nil i)) (among_cons m);
  reads = ((λ e s. let same : d ≡ e = cc in subst (λ x. (told x).place.mode ≡ mode.Read) same (ap (λ (x : DeviceTold). x.place.mode) makes.device)), tt);
  writes = tt;
})

module _ {V F : Type 0} (P : Values → StateMeaning F) (told : V → DeviceTold) where
  -- it gives lines
  pub lines_kind : (who : StreamNo) (n : Node) (devices : List V) (chunk : ℕ) (a : Stepping V F) → IsLinesNode n → IsBegun P told who n devices chunk a → HasKind (P a.tables) Lines a.rest
  lines_kind who n devices chunk a is b =
      let v : Values = (P b.tables).values in
      subst (λ (x : Stepping V F). HasKind (P x.tables) Lines x.rest) (sym b.is) (subst (λ m. HasKindOf v Lines m) (sym is.2) (inl (meaning_over v pipe.Lines Bytes Lines, refl, refl, refl)))

  -- How its reading ends.

  module _ (n : ℕ) (a b : Stepping V F) where
    -- it has ended so, and these are groups of what it gave
    pub record EndsReading (gs : List (List Element)) (s : Option Stop) : Type 0 where
      pub given : List Element
      pub how : How
      pub ended : b.how ≡ Some how
      pub since : Since told (FinishesDevice told) a.site b.site
      pub at : HasEnded P told a b given how
      pub groups : AreGroups n given how gs s

    same_end : (given : List Element) (h : How) → HasReadTo P told a b given h → HasEnded P told a b given h
    same_end given h r = record { end = r.end; run = r.run; reported = r.reported; over = r.over; goes = r.goes; spends = r.spends }

    ended_so : (given : List Element) (h : How) → b.how ≡ Some h → IsReading P told a b given → HasEnded P told a b given h
    ended_so given h e r = same_end given h (subst (λ o. ReadsTo P told a b given o) e r.at)

    pub ends_reading : (gs : List (List Element)) (s : Option Stop) → HasRead P told n a b gs s → EndsReading gs s
    ends_reading gs None h = record { given = h.given; how = h.how; ended = h.ended; since = h.reading.since; at = ended_so h.given h.how h.ended h.reading; groups = (h.itself, h.whole) }
    ends_reading gs (Some x) h = record { given = h.given; how = h.how; ended = h.ended; since = h.reading.since; at = ended_so h.given h.how h.ended h.reading; groups = h.fronts }

    pub past_of : (gs : List (List Element)) (s : Option Stop) → EndsReading gs s → IsPast told a b
    past_of gs s e = record { since = e.since; goes = e.at.goes; spends = e.at.spends }

    same_how : (h k : How) → Some h ≡ Some k → h ≡ k
    same_how h k e = cc

    -- the stream was taken apart
    pub evaluated_so : (f : Meaning) (so sn : SinkTold) (s : Option Stop) (node : Node) (devices : List V) (r : Ran V) → HasPumped P told f n a b so sn s → b.how ≡ Some r.how
        → ((given : List Element) (h : How) → Since told (FinishesDevice told) a.site b.site → b.how ≡ Some h → HasEnded P told a b given h → RunsLone told (Inner 0) node devices given r) → Evaluated told f n node devices so sn r s
    evaluated_so f so sn s node devices r p how ran =
        let e = ends_reading p.gs s p.read in
        let same : e.how ≡ r.how = same_how e.how r.how (sym e.ended ∙ how) in
        record {
          given = e.given;
          runs = ran e.given e.how e.since e.ended e.at;
          evaluated = record { ds = p.ds; gs = p.gs; ws = p.ws; texts = p.texts; groups = subst (λ h. AreGroups n e.given h p.gs s) same e.groups; printed = p.printed; results = p.results; count = p.count };
        }

-- A stream that couldn't be begun.

no_results : (f : Meaning) → AreResults f [] []
no_results f q w at = absurd (let b = at_below [] q w at in omega arith)

-- no group was read, and nothing was printed
pub unbegun_so : {V : Type 0} (told : V → DeviceTold) (f : Meaning) (n : ℕ) (node : Node) (devices : List V) (so sn : SinkTold) (r : Ran V) → RunsLone told (Inner 0) node devices [] r → sn ≡ so → Evaluated told f n node devices so sn r (Some stop.Memory)
unbegun_so told f n node devices so sn r runs quiet = record {
  given = [];
  runs = runs;
  evaluated = record {
    ds = [];
    gs = [];
    ws = [];
    texts = refl;
    groups = λ more over. (groups_of n more, refl);
    printed = record { front = []; rest = []; whole = refl; done = tt; stops = quiet ∙ sym (with_bytes_none so) };
    results = no_results f;
    count = refl;
  };
}
