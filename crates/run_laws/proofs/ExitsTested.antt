-- The tests of exits are exact, and a run whose exits tell of the ends that are reported.
use Rattle.std.proofs.Common.{◌≡◌, ℕ, zero, suc, ◌+◌, Bool, true, false, ◌&&◌, ◌||◌, not, List, [], ◌∷◌, map, drop, Option, Some, None, inl, inr, refl, sym, ◌∙◌, subst, arith, ⊎_elim}
use Rattle.std.specs.Prelude.{is_some}
use Rattle.std.specs.Bool.{Decides}
use Rattle.std.specs.List.{list_all as all, list_any as any, AllByRecursion}
use Rattle.chunk_core.specs.Elements.{Element}
use Rattle.chunk_core.specs.Outcomes.{End, Cut, Done, Fault, exit_of}
use Rattle.chunk_core.specs.declared.code.Code.TheVariants as code
use Rattle.chunk_core.specs.declared.code.Exit.{Exit}
use Rattle.chunk_core.specs.declared.code.Exit.TheVariants.{Succeeded, Errored, Canceled}
use Rattle.chunk_core.specs.declared.code.How.{How}
use Rattle.chunk_core.specs.declared.code.How.TheVariants as how
use Rattle.chunk_core.proofs.Bools.{all_at, and_true, any_found, both, each_passes, either, no, or_left, or_right}
use Rattle.chunk_core.proofs.Each.{among_each, each_among}
use Rattle.res_ledger.specs.declared.event.StreamNo.{StreamNo}
use Rattle.res_ledger.specs.declared.event.StreamNo.TheVariants.{Inner, Outer}
use Rattle.res_ledger.specs.declared.event.What.{What}
use Rattle.res_ledger.specs.declared.event.What.TheVariants.{Cancel, Close}
use Rattle.res_ledger.specs.declared.event.Event.{Event}
use Rattle.res_ledger.specs.Order.{same_exit}
use Rattle.res_ledger.specs.Streams.{by_stream, same_stream}
use Rattle.res_ledger.proofs.Tests.{exit_is, exit_same}
use Rattle.device_port.specs.Device.{DeviceTold}
use Rattle.run_rules.specs.declared.end.EndOf.{EndOf}
use Rattle.run_rules.specs.Ends.{HaveEnds}
use Rattle.run_rules.specs.Exits.{ClosesWith, HasExit, HasOneExit, HaveExits, IsExitHidden}
use Rattle.run_rules.specs.Facts.{is_halted, is_memory}
use Rattle.run_rules.specs.Homes.{HaveHomes}
use Rattle.run_rules.specs.Memory.{IsWanting}
use Rattle.run_rules.specs.Outputs.{AreOutputs, HaveOutputs, IsReported, RunsOrLeft, elements_in_pieces}
use Rattle.run_rules.specs.Run.{Ran}
use Rattle.run_rules.specs.Wholeness.{IsWholeRun, NothingFailed}
use Rattle.run_rules.specs.Work.{Opener, RunRecord, Stream, Values, Work, inner_ends, names_from, names_of}
use Rattle.run_laws.specs.EndTests.{closes_with, has_one_exit, is_exit_hidden, is_silenced, tell_exit, tells_exit}
use Rattle.run_laws.specs.Laws.{work_of}
use Rattle.run_laws.proofs.WorksLeft.{MayBeLeft}
use Rattle.run_laws.proofs.Deciding.{Decides-to, always, and_so, each_so, flag, halted_so, memory_so, not_so, or_so, same_stream_so, some_so}
use Rattle.run_laws.proofs.EndsTested.{silenced_so}

pub exit_hidden_so : (work : Work) (c : RunRecord) (e : EndOf) → Decides (is_exit_hidden work c e) (IsExitHidden work c e)
exit_hidden_so work c e = Decides-to (is_exit_hidden work c e) (λ t. record { beside = t.0; inner = t.1.0; halted = t.1.1.0; ceased = t.1.1.1 }) (λ r. (r.beside, (r.inner, (r.halted, r.ceased))))
    (and_so (is_some work.opener) (not (same_stream e.who Outer) && (is_halted e.how && (is_silenced work c || c.memory))) (some_so work.opener)
    (and_so (not (same_stream e.who Outer)) (is_halted e.how && (is_silenced work c || c.memory)) (not_so (same_stream e.who Outer) (same_stream_so e.who Outer))
    (and_so (is_halted e.how) (is_silenced work c || c.memory) (halted_so e.how) (or_so (is_silenced work c) c.memory (silenced_so work c) (flag c.memory)))))

pub exit_same_so : (x y : Exit) → Decides (same_exit x y) (x ≡ y)
exit_same_so x y = (λ h. exit_is x y h, λ e. subst (λ z. same_exit x z ≡ true) e (exit_same x))

closes_so : (k : StreamNo) (h : How) (s : ℕ) (y : Exit) → Decides (closes_with k (exit_of h) s y) (ClosesWith (record { who = k; how = h }) s y)
closes_so k h zero y = exit_same_so y (exit_of h)
closes_so Outer h (suc s) y = exit_same_so y Succeeded
closes_so (Inner j) h (suc s) y = always

tells_so : (k : StreamNo) (h : How) (w : What) → Decides (tells_exit k (exit_of h) w) (HasExit (record { who = k; how = h }) w)
tells_so k h (Close s y) = closes_so k h s y
tells_so Outer h (Cancel j y) = exit_same_so y Canceled
tells_so (Inner i) h (Cancel j y) = exit_same_so y (exit_of h)
tells_so k h w = always

-- what the stream noted of exits tells of this end
abbrev TellsOf : RunRecord → StreamNo → How → Type 0
TellsOf c k h = AllByRecursion (λ (x : Event). HasExit (record { who = k; how = h }) x.what) (by_stream k c.events)

tell_so : (c : RunRecord) (k : StreamNo) (h : How) → Decides (tell_exit c k (exit_of h)) (TellsOf c k h)
tell_so c k h = each_so (λ (e : Event). tells_exit k (exit_of h) e.what) (λ (e : Event). HasExit (record { who = k; how = h }) e.what) (λ e. tells_so k h e.what) (by_stream k c.events)

abbrev tell_some : RunRecord → StreamNo → Bool
tell_some c k = tell_exit c k Succeeded || (tell_exit c k Errored || tell_exit c k Canceled)

some_told : (c : RunRecord) (k : StreamNo) → tell_some c k ≡ true → (h : How) × TellsOf c k h
some_told c k t = ⊎_elim
    (λ x. (how.Done, (tell_so c k how.Done).0 x))
    (λ x. ⊎_elim (λ y. (how.Fault code.Read, (tell_so c k (how.Fault code.Read)).0 y)) (λ y. (how.Halted, (tell_so c k how.Halted).0 y)) (either (tell_exit c k Errored) (tell_exit c k Canceled) x))
    (either (tell_exit c k Succeeded) (tell_exit c k Errored || tell_exit c k Canceled) t)

told_some : (c : RunRecord) (k : StreamNo) (h : How) → TellsOf c k h → tell_some c k ≡ true
told_some c k how.Done t = or_left (tell_exit c k Succeeded) (tell_exit c k Errored || tell_exit c k Canceled) ((tell_so c k how.Done).1 t)
told_some c k (how.Fault f) t = or_right (tell_exit c k Succeeded) (tell_exit c k Errored || tell_exit c k Canceled) (or_left (tell_exit c k Errored) (tell_exit c k Canceled) ((tell_so c k (how.Fault f)).1 t))
told_some c k how.Halted t = or_right (tell_exit c k Succeeded) (tell_exit c k Errored || tell_exit c k Canceled) (or_right (tell_exit c k Errored) (tell_exit c k Canceled) ((tell_so c k how.Halted).1 t))
told_some c k how.Memory t = or_right (tell_exit c k Succeeded) (tell_exit c k Errored || tell_exit c k Canceled) (or_right (tell_exit c k Errored) (tell_exit c k Canceled) ((tell_so c k how.Memory).1 t))

-- a run of the stream over these devices has an end that is reported so
abbrev pub EndsSo : Work → Values → (ℕ → DeviceTold) → StreamNo → How → Type 0
EndsSo work v w who h = (k : ℕ) → who ≡ Inner k → (ys : List Element) × (end : End) × work.runs k v w ys end × IsReported end h

module _ (work : Work) (c : RunRecord) (v : Values) (w : ℕ → DeviceTold) (e : EndOf) where
  -- the end that is reported is told, and a run has it
  pub told_as_reported : EndsSo work v w e.who e.how → tell_exit c e.who (exit_of e.how) ≡ true → HasOneExit work c v w e
  told_as_reported ran t = record { how = e.how; same = inl refl; told = (tell_so c e.who e.how).0 t; ran = ran }

  pub exit_passes : HasOneExit work c v w e → has_one_exit work c e ≡ true
  exit_passes r = ⊎_elim
      (λ q. or_left (tell_exit c e.who (exit_of e.how)) (is_exit_hidden work c e && tell_some c e.who) ((tell_so c e.who e.how).1 (subst (λ h. TellsOf c e.who h) q r.told)))
      (λ n. or_right (tell_exit c e.who (exit_of e.how)) (is_exit_hidden work c e && tell_some c e.who) (and_true (is_exit_hidden work c e) (tell_some c e.who) ((exit_hidden_so work c e).1 n) (told_some c e.who r.how r.told)))
      r.same

  -- where runs have whatever end is told
  pub one_exit_so : ((h : How) → EndsSo work v w e.who h) → Decides (has_one_exit work c e) (HasOneExit work c v w e)
  one_exit_so ran = (
    λ h. ⊎_elim
        (λ t. told_as_reported (ran e.how) t)
        (λ t.
        let b = both (is_exit_hidden work c e) (tell_some c e.who) t in
        let s = some_told c e.who b.1 in
        record { how = s.0; same = inr ((exit_hidden_so work c e).0 b.0); told = s.1; ran = ran s.0 })
        (either (tell_exit c e.who (exit_of e.how)) (is_exit_hidden work c e && tell_some c e.who) h),
    exit_passes,
  )

-- some end is reported so
reported_end : (h : How) → (end : End) × IsReported end h
reported_end how.Done = (Done, refl)
reported_end (how.Fault f) = (Fault f, refl)
reported_end how.Halted = (Cut, inl refl)
reported_end how.Memory = (Cut, inr refl)

-- streams that may give anything have whatever end is told
pub any_run : (o : Option Opener) (ss : List Stream) (v : Values) (w : ℕ → DeviceTold) (who : StreamNo) (h : How) → EndsSo (work_of o ss) v w who h
any_run o ss v w who h = λ k q. let r = reported_end h in ([], r.0, tt, r.1)

-- stream k has this run, and ended so
pub ends_at : (work : Work) (v : Values) (w : ℕ → DeviceTold) (k : ℕ) (ys : List Element) (e : End) (h : How) → work.runs k v w ys e → IsReported e h → EndsSo work v w (Inner k) h
ends_at work v w k ys e h run told j q = subst (λ i. (zs : List Element) × (end : End) × work.runs i v w zs end × IsReported end h) (number k j q) (ys, e, run, told)
  where
    number : (i j : ℕ) → Inner i ≡ Inner j → i ≡ j
    number i j q = cc

-- the outer stream is none of those that a work runs
pub outer_ends : (work : Work) (v : Values) (w : ℕ → DeviceTold) (h : How) → EndsSo work v w Outer h
outer_ends work v w h k q = let x : ⊥ = cc in absurd x

module _ (work : Work) (c : RunRecord) (v : Values) (w : ℕ → DeviceTold) where
  pub exits_pass : HaveExits work c v w → all (has_one_exit work c) c.ends ≡ true
  exits_pass h = each_passes (has_one_exit work c) c.ends (λ e m. exit_passes work c v w e (among_each (HasOneExit work c v w) e c.ends h m))

  abbrev pub Ended : EndOf → Type 0
  Ended e = EndsSo work v w e.who e.how

  inner_is : (j k : ℕ) → Inner j ≡ Inner k → j ≡ k
  inner_is j k e = cc

  ran_or_left : MayBeLeft work → (k : ℕ) (ys : List Element) (e : End) → RunsOrLeft (work.runs k v w) ys e → work.runs k v w ys e
  ran_or_left leaves k ys e (inl r) = r
  ran_or_left leaves k ys e (inr (cut, (more, g, r))) = subst (λ x. work.runs k v w ys x) (sym cut) (leaves v w k ys more g r)

  -- the runs of the outputs have the ends that are reported
  inner_ended : MayBeLeft work → (k : ℕ) (ss : List Stream) (es : List EndOf) → map (λ (e : EndOf). e.who) es ≡ names_from k ss → AreOutputs work v w c.frames k ss es → AllByRecursion Ended es
  inner_ended leaves k [] [] n o = tt
  inner_ended leaves k [] (e ∷ es) n o = let x : ⊥ = cc in absurd x
  inner_ended leaves k (s ∷ ss) [] n o = tt
  inner_ended leaves k (s ∷ ss) (e ∷ es) n o =
      let who : e.who ≡ Inner k = cc in
      let rest : map (λ (x : EndOf). x.who) es ≡ names_from (suc k) ss = cc in
      let next : suc k ≡ k + 1 = omega arith in (
        λ j q. subst (λ i. (ys : List Element) × (end : End) × work.runs i v w ys end × IsReported end e.how) (inner_is k j (sym who ∙ q)) (elements_in_pieces o.0.pieces, o.0.end, ran_or_left leaves k (elements_in_pieces o.0.pieces) o.0.end o.0.run, o.0.reported),
        inner_ended leaves (k + 1) ss es (subst (λ i. map (λ (x : EndOf). x.who) es ≡ names_from i ss) next rest) o.1,
      )

  all_ended : MayBeLeft work → map (λ (e : EndOf). e.who) c.ends ≡ names_of work → AreOutputs work v w c.frames 0 work.streams (inner_ends work c.ends) → AllByRecursion Ended c.ends
  all_ended leaves = (elim work.opener as (λ p. map (λ (e : EndOf). e.who) c.ends ≡ (elim p [ Some o ↦ Outer ∷ names_from 0 work.streams | None ↦ names_from 0 work.streams ]) → AreOutputs work v w c.frames 0 work.streams (elim p [ Some o ↦ drop 1 c.ends | None ↦ c.ends ]) → AllByRecursion Ended c.ends) [
    | Some o ↦ behind c.ends
    | None ↦ inner_ended leaves 0 work.streams c.ends
  ])
    where
      behind : (es : List EndOf) → map (λ (e : EndOf). e.who) es ≡ Outer ∷ names_from 0 work.streams → AreOutputs work v w c.frames 0 work.streams (drop 1 es) → AllByRecursion Ended es
      behind [] n o = tt
      behind (e ∷ es) n o =
          let who : e.who ≡ Outer = cc in
          let rest : map (λ (x : EndOf). x.who) es ≡ names_from 0 work.streams = cc in
          (subst (λ s. EndsSo work v w s e.how) (sym who) (outer_ends work v w e.how), inner_ended leaves 0 work.streams es rest o)

  -- where memory was wanting, an end says so
  abbrev remembers : Bool
  remembers = not c.memory || any (λ (e : EndOf). is_memory e.how) c.ends

  remembered : remembers ≡ true → c.memory ≡ true → IsWanting work c v w
  remembered t m = let f = any_found (λ (e : EndOf). is_memory e.how) c.ends (⊎_elim (λ n. absurd (no c.memory n m)) (λ y. y) (either (not c.memory) (any (λ (e : EndOf). is_memory e.how) c.ends) t)) in (f.0, f.1, inl ((memory_so f.0.how).0 f.2))

  -- the streams ran, where what they noted of exits tells of the ends that are reported, and an end says where memory was wanting
  pub ran_so : AllByRecursion Ended c.ends → HaveHomes work c v w → HaveOutputs work c v w → HaveEnds work c w → (all (λ e. tell_exit c e.who (exit_of e.how)) c.ends && remembers) ≡ true → (c.memory ≡ false → NothingFailed work c v w → IsWholeRun work c v w) → Ran work c
  ran_so ended rows outputs ends told completeness = record {
    values = v;
    home = w;
    rows = rows;
    outputs = outputs;
    ends = ends;
    exits = each_among (HasOneExit work c v w) c.ends (λ e m. told_as_reported work c v w e (among_each Ended e c.ends ended m) (all_at (λ (x : EndOf). tell_exit c x.who (exit_of x.how)) e c.ends m (both (all (λ x. tell_exit c x.who (exit_of x.how)) c.ends) remembers told).0));
    wanting = remembered (both (all (λ x. tell_exit c x.who (exit_of x.how)) c.ends) remembers told).1;
    completeness = completeness;
  }

  -- the same of streams that may be left
  pub ran_by : MayBeLeft work → HaveHomes work c v w → HaveOutputs work c v w → HaveEnds work c w → (all (λ e. tell_exit c e.who (exit_of e.how)) c.ends && remembers) ≡ true → (c.memory ≡ false → NothingFailed work c v w → IsWholeRun work c v w) → Ran work c
  ran_by leaves rows outputs ends told completeness = ran_so (all_ended leaves ends.named outputs.outputs) rows outputs ends told completeness
