-- What was printed of the answer to lines.
use Rattle.std.proofs.Common.{◌≡◌, ℕ, ◌+◌, ◌<◌, true, List, [], ◌∷◌, ◌++◌, take, drop, length, Option, Some, None, is_some, refl, sym, ap, ◌∙◌, subst, append-nil, length-drop, arith}
use Rattle.std.proofs.lemmas.List.{length-map, take-append-drop}
use Rattle.std.specs.List.{AllByRecursion}
use Rattle.cat_run.specs.Alone.{and_one}
use Rattle.chunk_core.specs.Elements.{Element, elements, rendering_of}
use Rattle.chunk_core.specs.Lists.{IsAmong}
use Rattle.chunk_core.specs.Outcomes.{End, Fault}
use Rattle.chunk_core.specs.Texts.{Frame, IsRestOf, frame_text, frames_text}
use Rattle.chunk_core.specs.declared.code.Code.{Code}
use Rattle.chunk_core.specs.declared.code.How.{How}
use Rattle.chunk_core.specs.declared.code.How.TheVariants as how
use Rattle.chunk_core.specs.declared.load.Load.{Load}
use Rattle.chunk_core.proofs.Members.{among_left}
use Rattle.device_port.specs.Sink.{SinkTold, with_bytes}
use Rattle.device_port.proofs.Puts.{with_bytes_twice}
use Rattle.eval_reader.specs.Reading.{text_of}
use Rattle.eval_rules.specs.Answers.{Answer, answer_in_groups, answer_of, framed, group_over, groups_of}
use Rattle.eval_work.specs.Works.{result_of}
use Rattle.frames.proofs.Rendered.{rendering_some}
use Rattle.par_eval.specs.declared.work.Worked.{Worked}
use Rattle.pipeline_desc.specs.declared.step.Step.{Step}
use Rattle.pull_nodes.specs.Plain.{IsFront}
use Rattle.run_rules.specs.Facts.{is_over}
use Rattle.eval_run.specs.Printing.{BreaksFrame, StopsAt, frames_by, frames_in, is_unwritten}
use Rattle.eval_run.specs.Pumping.{AreTexts}
use Rattle.eval_run.specs.Runs.{AreGroups, HasEvaluated}
use Rattle.eval_run.specs.declared.stop.Stop.{Stop}
use Rattle.eval_run.specs.declared.stop.Stop.TheVariants as stop
use Rattle.eval_run.proofs.Answered.{Follow, all_answered, failed_answer, failed_group, follow, front_answer, next_answer}

-- the frame, where a write of it failed
abbrev pub cut_list : Option Frame → List Frame
cut_list o = elim o [ Some f ↦ f ∷ [] | None ↦ [] ]

-- an answer of these frames, which ended so
abbrev pub the_answer : List Frame → End → Answer
the_answer F e = record { frames = F; end = e }

module _ (steps : List Step) (n : ℕ) (given : List Element) (h : How) where
  -- one of the groups failed so
  abbrev pub HasFailed : Code → Type 0
  HasFailed c = (group : List Element) × IsAmong group (groups_of n given) × ((group_over steps group).end ≡ Fault c)

  -- these are the frames of the whole answer, where the lines ended or a group failed
  abbrev pub TellsAnswer : List Frame → Option Stop → Type 0
  TellsAnswer F None = (is_over h ≡ true) × ((e : End) → answer_of steps n given e ≡ the_answer F e)
  TellsAnswer F (Some (stop.Fault c)) = ((more : List Element) (e : End) → (is_over h ≡ true → more ≡ []) → answer_of steps n (given ++ more) e ≡ the_answer F (Fault c)) × HasFailed c
  TellsAnswer F (Some stop.Unwritten) = Unit {0}
  TellsAnswer F (Some stop.Memory) = Unit {0}

  -- the frames that were printed, and that one whose write failed, are a front of the answer
  pub record Shows (so sn : SinkTold) (s : Option Stop) : Type 0 where
    pub frames : List Frame
    pub cut : Option Frame
    pub rest : List ℕ
    pub broke : is_some cut ≡ is_unwritten s
    pub rest_of : IsRestOf cut rest
    pub wrote : sn ≡ record (with_bytes so (frames_text frames ++ rest)) { faults = and_one (is_unwritten s) so.faults }
    pub begun : (more : List Element) (e : End) → (is_over h ≡ true → more ≡ []) → IsFront (frames ++ cut_list cut) (answer_of steps n (given ++ more) e).frames
    pub tells : TellsAnswer frames s

framed_is : (text : List ℕ) → 0 < length text → framed text ≡ record { stream = 0; payload = text } ∷ []
framed_is [] some = absurd (omega arith)
framed_is (b ∷ text) some = refl

-- the frame of a load that isn't empty
abbrev frame_by : Load → Frame
frame_by load = record { stream = 0; payload = rendering_of (elements load) }

by_is : (load : Load) → 0 < length (elements load) → frames_by load ≡ frame_by load ∷ []
by_is load some = framed_is (rendering_of (elements load)) (rendering_some (elements load) some)

-- a front of a text that isn't all of it, and the rest
left_over : (text : List ℕ) (k : ℕ) → k < length text → (0 < length (drop k text)) × (take k text ++ drop k text ≡ text)
left_over text k l = (omega (arith, length-drop k text), take-append-drop k text)

written_whole : (so sn : SinkTold) (F : List Frame) → sn ≡ with_bytes so (frames_text F) → sn ≡ record (with_bytes so (frames_text F ++ [])) { faults = so.faults }
written_whole so sn F e = e ∙ ap (λ b. with_bytes so b) (sym (append-nil (frames_text F)))

written_part : (so sn : SinkTold) (F : List Frame) (load : Load) (b : BreaksFrame (with_bytes so (frames_text F)) sn load)
    → sn ≡ record (with_bytes so (frames_text F ++ take b.breaks.count (frame_text 0 (rendering_of (elements load))))) { faults = so.faults + 1 }
written_part so sn F load b =
    b.breaks.told ∙ ap (λ (x : SinkTold). let y : SinkTold = record x { faults = so.faults + 1 } in y) (with_bytes_twice so (frames_text F) (take b.breaks.count (frame_text 0 (rendering_of (elements load)))))

same_front : (F : List Frame) (a : Answer) (G : List Frame) (e : End) → a ≡ the_answer G e → G ≡ F → IsFront (F ++ []) a.frames
same_front F a G e is same = ([], ap (λ (x : Answer). x.frames) is ∙ (same ∙ (sym (append-nil F) ∙ sym (append-nil (F ++ [])))))

module _ (steps : List Step) (n : ℕ) (given : List Element) (h : How) (so sn : SinkTold) (gs : List (List Element)) (ws : List Worked) (count : length ws ≡ length gs) (fol : Follow steps gs ws) where
  -- the groups of what was read, of which these are the first
  split : (f : IsFront gs (groups_of n (given ++ []))) → groups_of n given ≡ gs ++ f.0
  split f = ap (λ xs. groups_of n xs) (sym (append-nil given)) ∙ f.1

  in_front : (F : List Frame) (more : List Element) (f : IsFront gs (groups_of n (given ++ more))) (e : End) → IsFront F (answer_in_groups steps (gs ++ f.0) e).frames → IsFront F (answer_of steps n (given ++ more) e).frames
  in_front F more f e i = subst (λ (x : List (List Element)). IsFront F (answer_in_groups steps x e).frames) (sym f.1) i

  all_shown : (front rest : List Worked) → ws ≡ front ++ rest → AllByRecursion (λ w. w.how ≡ how.Done) front → AreGroups n given h gs None → StopsAt so sn front rest None → Shows steps n given h so sn None
  all_shown front rest whole done groups stops =
      let is : ws ≡ front = whole ∙ (ap (λ xs. front ++ xs) stops.0 ∙ append-nil front) in
      let tells : (e : End) → answer_of steps n given e ≡ the_answer (frames_in front) e =
      λ e. ap (λ x. answer_in_groups steps x e) groups.1 ∙ all_answered steps gs front e (subst (λ xs. Follow steps gs xs) is fol) done (sym (ap length is) ∙ count) in
      record {
        frames = frames_in front;
        cut = None;
        rest = [];
        broke = refl;
        rest_of = refl;
        wrote = written_whole so sn (frames_in front) stops.1;
        begun = λ more e left. same_front (frames_in front) (answer_of steps n (given ++ more) e) (frames_in front) e (ap (λ (xs : List Element). answer_of steps n xs e) (ap (λ (xs : List Element). given ++ xs) (left groups.0) ∙ append-nil given) ∙ tells e) refl;
        tells = (groups.0, tells);
      }

  -- of what follows, in two parts
  fol_of : (front rest : List Worked) → ws ≡ front ++ rest → Follow steps gs (front ++ rest)
  fol_of front rest whole = subst (λ xs. Follow steps gs xs) whole fol

  some_shown : (front rest : List Worked) → ws ≡ front ++ rest → AllByRecursion (λ w. w.how ≡ how.Done) front → AreGroups n given h gs (Some stop.Memory) → StopsAt so sn front rest (Some stop.Memory) → Shows steps n given h so sn (Some stop.Memory)
  some_shown front rest whole done groups stops =
      record {
        frames = frames_in front;
        cut = None;
        rest = [];
        broke = refl;
        rest_of = refl;
        wrote = written_whole so sn (frames_in front) stops;
        begun = λ more e left. let f = groups more left in subst (λ F. IsFront F (answer_of steps n (given ++ more) e).frames) (sym (append-nil (frames_in front))) (in_front (frames_in front) more f e (front_answer steps gs front rest (fol_of front rest whole) done f.0 e));
        tells = tt;
      }

  fault_shown : (c : Code) (front rest : List Worked) (w : Worked) → ws ≡ front ++ w ∷ rest → AllByRecursion (λ w. w.how ≡ how.Done) front → AreGroups n given h gs (Some (stop.Fault c)) → StopsAt so sn front (w ∷ rest) (Some (stop.Fault c)) → Shows steps n given h so sn (Some (stop.Fault c))
  fault_shown c front rest w whole done groups stops =
      let f = groups [] (λ o. refl) in
      let fol_so = fol_of front (w ∷ rest) whole in
      let F : List Frame = frames_in front ++ frames_by w.out in
      let failed = failed_group steps gs front rest w c fol_so stops.0 in
      record {
        frames = F;
        cut = None;
        rest = [];
        broke = refl;
        rest_of = refl;
        wrote = written_whole so sn F stops.1;
        begun = λ more e left. let m = groups more left in same_front F (answer_of steps n (given ++ more) e) F (Fault c) (ap (λ (x : List (List Element)). answer_in_groups steps x e) m.1 ∙ failed_answer steps gs front rest w c fol_so done stops.0 m.0 e) refl;
        tells = (
          λ more e over. let m = groups more over in ap (λ (x : List (List Element)). answer_in_groups steps x e) m.1 ∙ failed_answer steps gs front rest w c fol_so done stops.0 m.0 e,
          (failed.0, subst (λ (x : List (List Element)). IsAmong failed.0 x) (sym (split f)) (among_left f.0 failed.1), failed.2),
        );
      }

  broken_shown : (front rest : List Worked) (w : Worked) → ws ≡ front ++ w ∷ rest → AllByRecursion (λ w. w.how ≡ how.Done) front → AreGroups n given h gs (Some stop.Unwritten) → StopsAt so sn front (w ∷ rest) (Some stop.Unwritten) → Shows steps n given h so sn (Some stop.Unwritten)
  broken_shown front rest w whole done groups stops =
      let b = stops.1 in
      let text : List ℕ = frame_text 0 (rendering_of (elements w.out)) in
      let parts = left_over text b.breaks.count b.breaks.front in
      record {
        frames = frames_in front;
        cut = Some (frame_by w.out);
        rest = take b.breaks.count text;
        broke = refl;
        rest_of = (drop b.breaks.count text, parts.0, parts.1);
        wrote = written_part so sn (frames_in front) w.out b;
        begun = λ more e left. let f = groups more left in subst (λ G. IsFront (frames_in front ++ G) (answer_of steps n (given ++ more) e).frames) (by_is w.out b.some)
            (in_front (frames_in front ++ frames_by w.out) more f e (next_answer steps gs front rest w (fol_of front (w ∷ rest) whole) done stops.0 f.0 e));
        tells = tt;
      }

  shown_by : (s : Option Stop) (front rest : List Worked) → ws ≡ front ++ rest → AllByRecursion (λ w. w.how ≡ how.Done) front → AreGroups n given h gs s → StopsAt so sn front rest s → Shows steps n given h so sn s
  shown_by None front rest whole done groups stops = all_shown front rest whole done groups stops
  shown_by (Some stop.Memory) front rest whole done groups stops = some_shown front rest whole done groups stops
  shown_by (Some (stop.Fault c)) front [] whole done groups stops = absurd stops
  shown_by (Some (stop.Fault c)) front (w ∷ rest) whole done groups stops = fault_shown c front rest w whole done groups stops
  shown_by (Some stop.Unwritten) front [] whole done groups stops = absurd stops
  shown_by (Some stop.Unwritten) front (w ∷ rest) whole done groups stops = broken_shown front rest w whole done groups stops

-- as many texts as groups
same_count : (ds : List Load) (gs : List (List Element)) → AreTexts ds gs → length ds ≡ length gs
same_count ds gs t = sym (length-map ds elements) ∙ (ap (λ (xs : List (List Element)). length xs) t ∙ length-map gs text_of)

pub shown : (steps : List Step) (n : ℕ) (given : List Element) (h : How) (so sn : SinkTold) (s : Option Stop) → HasEvaluated (result_of steps) n given h so sn s → Shows steps n given h so sn s
shown steps n given h so sn s v = shown_by steps n given h so sn v.gs v.ws (v.count ∙ same_count v.ds v.gs v.texts) (follow steps v.ds v.gs v.ws v.texts v.results) s v.printed.front v.printed.rest v.printed.whole v.printed.done v.groups v.printed.stops
