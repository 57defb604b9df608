-- What is told of branches that have come to their end, or that were given nothing.
use Rattle.std.proofs.Common.{◌≡◌, ℕ, suc, ◌+◌, ◌<◌, true, false, List, [], ◌∷◌, ◌++◌, length, Option, Some, None, IfSome, refl, sym, ◌∙◌, ap, subst, inl, inr, ⊎_elim, arith}
use Rattle.std.proofs.lemmas.List.{length-map}
use Rattle.std.specs.Prelude.{option_to_list}
use Rattle.std.specs.List.{AllByRecursion, list_any}
use Rattle.chunk_core.specs.Elements.{Element}
use Rattle.chunk_core.specs.Lists.{IsAmong}
use Rattle.chunk_core.specs.Lists.IsAmong.{here, there}
use Rattle.chunk_core.proofs.Each.{each_among}
use Rattle.chunk_core.proofs.Members.{among_cons, among_nil}
use Rattle.chunk_core.specs.Outcomes.{Cut, Done, End}
use Rattle.chunk_core.specs.Texts.{Frame}
use Rattle.chunk_core.specs.Totals.{IsAt}
use Rattle.chunk_core.specs.declared.code.Code.{Code}
use Rattle.chunk_core.specs.declared.code.How.{How}
use Rattle.chunk_core.specs.declared.code.How.TheVariants as how
use Rattle.device_port.specs.Sink.{SinkTold, with_bytes}
use Rattle.chunk_core.specs.Texts.{frames_text}
use Rattle.chain_pipes.specs.Over.{over}
use Rattle.pipeline_desc.specs.declared.step.Step.{Step}
use Rattle.pull_nodes.specs.Plain.{IsFront}
use Rattle.res_ledger.proofs.Ledgers.{inner_is}
use Rattle.res_ledger.specs.declared.event.StreamNo.TheVariants.{Inner, Outer}
use Rattle.run_rules.specs.Facts.{IsOver, is_memory}
use Rattle.run_rules.specs.Outputs.{IsReported}
use Rattle.run_rules.specs.declared.end.EndOf.{EndOf}
use Rattle.cat_run.specs.Cat.{and_one}
use Rattle.cat_run.specs.declared.outcome.Outcome.{Outcome}
use Rattle.cat_run.proofs.Unmade.{wrote_none}
use Rattle.tee_branches.specs.Messages.{gives}
use Rattle.tee_pump.specs.Finished.{IsCause, IsFinished, IsPrintedOf}
use Rattle.tee_pump.specs.Stopping.{IsEarly}
use Rattle.tee_pump.specs.declared.ended.TeeEnd.{TeeEnd}
use Rattle.tee_rules.specs.Branches.{AreBranches}
use Rattle.tee_rules.proofs.Given.{reported_done}
use Rattle.tee_run.specs.Chains.{meaning_of, meanings_of}
use Rattle.tee_run.specs.Telling.{GivesFault, HasCause, PrintsBranches, all_halted, begun_of, ends_from}
use Rattle.tee_run.proofs.ChainLaws.{at_map, branches_from, front_trans}
use Rattle.tee_run.proofs.Ends.{among_at, at_among, at_both, halted_among}

begun_is : (frames : List Frame) (cut : Option Frame) → frames ++ option_to_list cut ≡ begun_of frames cut
begun_is frames (Some f) = refl
begun_is frames None = refl

-- each end is that of the branch that it names
end_at : (k : ℕ) (hs : List How) (e : EndOf) → IsAmong e (ends_from k hs) → (i : ℕ) × IsAt hs i e.how × (e.who ≡ Inner (k + i))
end_at k [] e m = absurd (among_nil m)
end_at k (h ∷ hs) e m =
    ⊎_elim
    (λ is. (0, subst (λ (x : EndOf). IsAt (h ∷ hs) 0 x.how) (sym is) refl, ap (λ (x : EndOf). x.who) is ∙ ap Inner (let z : k ≡ k + 0 = omega arith in z)))
    (λ n. let r = end_at (k + 1) hs e n in (suc r.0, r.1, r.2 ∙ ap Inner (let z : (k + 1) + r.0 ≡ k + suc r.0 = omega arith in z)))
    (among_cons m)

module _ (branches : List (List Step)) (given took : List Element) (outer : End) (h : How) (reported : IsReported outer h) (front : IsFront took given) (all : h ≡ how.Done → took ≡ given) (so sn : SinkTold) (t : TeeEnd) (caused : h ≡ how.Halted → IsCause t)
    (f : IsFinished (meanings_of branches) took h so sn t) (o : Outcome) (ends : o.ends ≡ record { who = Outer; how = h } ∷ ends_from 0 t.ends.items) (sink : o.sink_failed ≡ t.broken) (memory : o.memory ≡ list_any is_memory (h ∷ t.ends.items)) where
  abbrev hows : List How
  hows = t.ends.items

  count : length (meanings_of branches) ≡ length branches
  count = length-map branches meaning_of

  many : length hows ≡ length branches
  many = f.count ∙ count

  abbrev F : List Frame
  F = f.frames ++ option_to_list f.cut

  printed : (i : ℕ) (s : List Step) (x : How) → IsAt branches i s → IsAt hows i x → IsPrintedOf took h F i (meaning_of s) x
  printed i s x at_s at_x = f.branches i (meaning_of s) x (at_map meaning_of branches i s at_s) at_x

  all_branches : AreBranches given outer (begun_of f.frames f.cut) 0 branches (ends_from 0 hows)
  all_branches = subst (λ G. AreBranches given outer G 0 branches (ends_from 0 hows)) (begun_is f.frames f.cut)
      (branches_from given took outer h F reported front all 0 branches hows many (λ i s x a b. subst (λ j. IsPrintedOf took h F j (meaning_of s) x) (let z : i ≡ 0 + i = omega arith in z) (printed i s x a b)))

  unfinished : (c : Option Frame) → IfSome c (λ x. (k : How) → IsAt hows x.stream k → ¬ (IsOver k)) → IfSome c (λ x. AllByRecursion (λ e. e.who ≡ Inner x.stream → ¬ (IsOver e.how)) (ends_from 0 hows))
  unfinished None u = tt
  unfinished (Some x) u = each_among (λ (e : EndOf). e.who ≡ Inner x.stream → ¬ (IsOver e.how)) (ends_from 0 hows) (λ e m who.
      let r = end_at 0 hows e m in
      let same : r.0 ≡ x.stream = (let z : r.0 ≡ 0 + r.0 = omega arith in z) ∙ inner_is (0 + r.0) x.stream (sym r.2 ∙ who) in
      u e.how (subst (λ j. IsAt hows j e.how) same r.1))

  by_cause : IsCause t → HasCause o.sink_failed (h ∷ hows)
  by_cause (inl b) = inl (sink ∙ b)
  by_cause (inr (i, k, at_k, s)) = inr (k, there h (at_among hows i k at_k), s)

  by_early : (k : How) → h ≡ k → IsEarly k → HasCause o.sink_failed (h ∷ hows)
  by_early how.Done e r = absurd r
  by_early (how.Fault c) e r = inr (how.Fault c, subst (λ x. IsAmong x (h ∷ hows)) e (here hows), tt)
  by_early how.Memory e r = inr (how.Memory, subst (λ x. IsAmong x (h ∷ hows)) e (here hows), tt)
  by_early how.Halted e r = by_cause (caused e)

  why : IsAmong how.Halted (h ∷ hows) → HasCause o.sink_failed (h ∷ hows)
  why m = ⊎_elim (λ e. by_cause (caused (sym e))) (λ n. let r = among_at how.Halted hows n in ⊎_elim by_cause (λ e. by_early h refl e) (f.halted r.0 r.1)) (among_cons m)

  fault_by : (c : Code) (s : List Step) (i : ℕ) → IsAt branches i s → IsAt hows i (how.Fault c) → (xs : List Element) × IsFront xs given × GivesFault s given outer xs c
  fault_by c s i at_s at_c = (p.input, front_trans p.input took given p.is_input.front front, ⊎_elim cut whole p.is_input.ended)
    where
      p : IsPrintedOf took h F i (meaning_of s) (how.Fault c)
      p = printed i s (how.Fault c) at_s at_c

      cut : p.end ≡ Cut → GivesFault s given outer p.input c
      cut e = inl (subst (λ x. (gives (meaning_of s) p.input x).fault ≡ Some c) e p.printed.0)

      whole : (p.end ≡ Done) × (h ≡ how.Done) × (p.input ≡ took) → GivesFault s given outer p.input c
      whole w = inr (reported_done outer (subst (λ x. IsReported outer x) w.1 reported), w.2 ∙ all w.1, subst (λ x. (gives (meaning_of s) p.input x).fault ≡ Some c) w.0 p.printed.0)

  pub prints : PrintsBranches branches given outer h so sn o
  prints = record {
    hows = hows;
    frames = f.frames;
    cut = f.cut;
    rest = f.rest;
    broke = f.broke ∙ sym sink;
    front = f.front;
    wrote = subst (λ b. sn ≡ record (with_bytes so (frames_text f.frames ++ f.rest)) { faults = and_one b so.faults }) (sym sink) f.wrote;
    numbers = subst (λ n. AllByRecursion (λ (x : Frame). (x.stream < n) × (0 < length x.payload)) (begun_of f.frames f.cut)) count
        (subst (λ G. AllByRecursion (λ (x : Frame). (x.stream < length (meanings_of branches)) × (0 < length x.payload)) G) (begun_is f.frames f.cut) f.numbers);
    each = all_branches;
    unfinished = unfinished f.cut f.cut_branch;
    ends = ends;
    memory = memory;
    faults = λ c m.
        let r = among_at (how.Fault c) hows m in
        let s = at_both hows branches many r.0 (how.Fault c) r.1 in
        let x = fault_by c s.0 r.0 s.1 r.1 in
        (s.0, x.0, at_among branches r.0 s.0 s.1, x.1, x.2);
    caused = why;
  }

-- Branches that were given nothing and halted printed nothing.
halted_branches : (outer : End) (k : ℕ) (bs : List (List Step)) → AreBranches [] outer [] k bs (ends_from k (all_halted (length bs)))
halted_branches outer k [] = refl
halted_branches outer k (s ∷ bs) = (
  refl,
  record {
    input = [];
    end = Cut;
    is_input = record { front = ([], refl); ended = inl refl };
    pieces = [];
    frames = refl;
    printed = ((over s [] Cut).list, refl);
  },
  halted_branches outer (k + 1) bs,
)

pub prints_nothing : (branches : List (List Step)) (outer : End) (so : SinkTold) (o : Outcome) → o.ends ≡ record { who = Outer; how = how.Memory } ∷ ends_from 0 (all_halted (length branches)) → o.sink_failed ≡ false → o.memory ≡ true → PrintsBranches branches [] outer how.Memory so so o
prints_nothing branches outer so o ends sink memory = record {
  hows = all_halted (length branches);
  frames = [];
  cut = None;
  rest = [];
  broke = sym sink;
  front = refl;
  wrote = subst (λ b. so ≡ record (with_bytes so []) { faults = and_one b so.faults }) (sym sink) (wrote_none so so refl);
  numbers = tt;
  each = halted_branches outer 0 branches;
  unfinished = tt;
  ends = ends;
  memory = memory;
  faults = λ c m. absurd (let no : how.Fault c ≡ how.Halted = halted_among (length branches) (how.Fault c) m in cc);
  caused = λ m. inr (how.Memory, here (all_halted (length branches)), tt);
}
