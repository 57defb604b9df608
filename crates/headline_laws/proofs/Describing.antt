-- Each call of run that went as it should meets the contract.
use Rattle.std.proofs.Common.{◌≡◌, ◌≢◌, ℕ, ◌+◌, true, false, [], ◌∷◌, ◌++◌, length, Some, None, Ok, Err, refl, sym, ap, subst, inl, inr, ◌∙◌, ⊎_elim, arith, Result}
use Rattle.std.specs.Fmt.{digits}
use Rattle.std.specs.Str.{is_utf8, chars}
use Rattle.std.proofs.lemmas.Bool.{false≢true}
use Rattle.std.proofs.lemmas.List.Sorted.{IsPermutation-refl}
use Rattle.toml.proofs.OnLiterals.{toml_on_literals}
use Rattle.chunk_core.specs.Texts.{frames_text}
use Rattle.chunk_core.specs.Lists.{IsAmong}
use Rattle.chunk_core.specs.Lists.IsAmong.{here}
use Rattle.chunk_core.specs.declared.code.Exit.TheVariants.{Succeeded}
use Rattle.chunk_core.specs.declared.code.How.TheVariants as how
use Rattle.chunk_core.proofs.Distinct.{distinct_nil}
use Rattle.chunk_core.proofs.Members.{among_cons, among_nil}
use Rattle.res_ledger.specs.declared.event.Event.{Event}
use Rattle.res_ledger.specs.declared.event.StreamNo.TheVariants.{Inner, Outer}
use Rattle.res_ledger.specs.declared.event.What.TheVariants.{Close, Lease}
use Rattle.device_port.specs.Sink.{with_bytes}
use Rattle.pipeline_desc.specs.Meant.{PlanMeant}
use Rattle.pipeline_desc.specs.Plans.{plan_of}
use Rattle.pipeline_desc.specs.Worked.{plan_by_default}
use Rattle.pipeline_desc.specs.declared.refusal.Refusal.{Refusal}
use Rattle.run_rules.specs.declared.end.EndOf.{EndOf}
use Rattle.run_rules.specs.Ends.{HadTurn}
use Rattle.run_rules.specs.Facts.{leased_stream}
use Rattle.run_rules.specs.Rules.{KeepsRules}
use Rattle.run_rules.specs.Run.{Performs}
use Rattle.run_rules.specs.Texts.{tail_text}
use Rattle.run_rules.specs.Work.{Values}
use Rattle.run_laws.proofs.GivingTested.{outer_by, rules_by}
use Rattle.plan_work.specs.Plans.{run_work}
use Rattle.flume_cli.specs.declared.status.Status.TheVariants as status
use Rattle.flume_cli.specs.Status.{Causes, line_of}
use Rattle.flume_cli.specs.Headline.{DoesPlan, run_of_call, RunsStreams, TellsPlan}
use Rattle.headline_laws.specs.Described.{clash, clash_refusal, empty_description, no_memory, outer_ledger, refused_description, unread_source}
use Rattle.headline_laws.specs.Calls.{event}
use Rattle.headline_laws.specs.Worked.{missing_device}
use Rattle.headline_laws.proofs.Asked.{run_holds, run_means}

-- What the descriptions mean.

pub clash_means : plan_of clash ≡ Err (clash_refusal 0)
unfolding toml_on_literals is_utf8 chars
clash_means = refl

pub nothing_means : plan_of [] ≡ Ok (plan_by_default [])
unfolding toml_on_literals is_utf8 chars
nothing_means = refl

-- Where nothing was done.

refusal_told : refused_description.err_new ≡ with_bytes refused_description.err_old (line_of (status.Refused (clash_refusal 0)))
unfolding digits
refusal_told = refl

abbrev causes_of_refusal : Causes
causes_of_refusal = record { early = false; words = true; unread = false; refused = Some (clash_refusal 0); unwritten = false; memory = false; faulty = false; unclean = false }

pub refused_description_holds : RunsStreams refused_description
refused_description_holds =
    run_holds refused_description causes_of_refusal refl refl
    (record { words = run_means; unread = refl; unwritten = refl; memory = λ h. absurd (false≢true h); faulty = refl; unclean = refl; status = refl; line = inl refusal_told })
    (inr (record {
      bytes = clash;
      input = record { few = omega arith; told = refl; given = refl };
      plan = subst (λ (q : Result PlanMeant Refusal). DoesPlan refused_description causes_of_refusal None q) (sym clash_means) (refl, record { depot = refl; out = refl; ends = refl; events = refl });
    }))

pub unread_source_holds : RunsStreams unread_source
unread_source_holds =
    run_holds unread_source (record { early = false; words = true; unread = true; refused = None; unwritten = false; memory = false; faulty = false; unclean = false }) refl refl
    (record { words = run_means; unread = refl; unwritten = refl; memory = λ h. absurd (false≢true h); faulty = refl; unclean = refl; status = refl; line = inl refl })
    (inl (record { cause = inl refl; taken = record { count = 10; few = omega arith; told = refl; ended = λ h. refl }; refused = refl; nothing = record { depot = refl; out = refl; ends = refl; events = refl } }))

pub no_memory_holds : RunsStreams no_memory
no_memory_holds =
    run_holds no_memory (record { early = false; words = true; unread = false; refused = None; unwritten = false; memory = true; faulty = false; unclean = false }) refl refl
    (record { words = run_means; unread = refl; unwritten = refl; memory = λ h. refl; faulty = refl; unclean = refl; status = refl; line = inl refl })
    (inl (record { cause = inr refl; taken = record { count = length clash; few = omega arith; told = refl; ended = λ h. absurd (false≢true h) }; refused = refl; nothing = record { depot = refl; out = refl; ends = refl; events = refl } }))

-- Where no stream is described.

text_of_empty_description : empty_description.out_new.written ≡ Some ([] ++ (frames_text [] ++ ([] ++ tail_text empty_description.ends empty_description.events)))
unfolding digits
text_of_empty_description = refl

rules_of_none : KeepsRules (run_work (plan_by_default []) []) outer_ledger
rules_of_none = rules_by (run_work (plan_by_default []) []) outer_ledger refl refl refl refl refl (omega arith, tt) refl refl

none_some : {A : Type 0} {x : A} → None ≢ Some x
none_some e = cc

abbrev no_values : Values
no_values t key = None

abbrev causes_of_none : Causes
causes_of_none = record { early = false; words = true; unread = false; refused = None; unwritten = false; memory = false; faulty = false; unclean = false }

-- the one event of the run that lists nothing
abbrev only_close : Event
only_close = event 0 Outer (Close 0 Succeeded)

-- with it no stream had its turn
no_turn : (k : ℕ) → HadTurn (only_close ∷ []) k → ⊥
no_turn k (e, among, turn) = ⊎_elim
    (λ (q : e ≡ only_close). ⊎_elim
    (λ by. let d : Outer ≡ Inner k = sym (ap (λ (x : Event). x.by) q) ∙ by in cc)
    (λ t. ⊎_elim
    (λ leased. let d : None ≡ Some (k + 1) = sym (ap (λ (x : Event). leased_stream x.what) q) ∙ leased in cc)
    (λ c. let l = c.2 in let n = l.2 in not_leased n.0 k l.1 n.1 n.3)
    t)
    turn)
    (λ m. among_nil m)
    (among_cons among)
  where
    not_leased : (f : Event) (j s : ℕ) → IsAmong f (only_close ∷ []) → f.what ≡ Lease j s → ⊥
    not_leased f j s m w = ⊎_elim
        (λ (q : f ≡ only_close). let d : Close 0 Succeeded ≡ Lease j s = sym (ap (λ (x : Event). x.what) q) ∙ w in cc)
        (λ m. among_nil m)
        (among_cons m)

none_performs : Performs (run_work (plan_by_default []) []) (run_of_call empty_description [] None [] false)
none_performs = record {
  devices = record { made = refl; few = tt; retired = refl; once = IsPermutation-refl _; shut = tt; rows = (tt, tt); acquired = tt; failed = tt; exits = λ x. tt; files = λ path. inr refl; stored = tt };
  ledger = rules_of_none;
  ran = inr (record {
    values = no_values;
    home = λ r. missing_device;
    rows = record { at_home = tt; apart = distinct_nil; tied = (tt, tt); values = λ t key l. absurd (omega (arith, l)); alone = λ k r s is idle l m. absurd (none_some is); housed = λ d b. absurd (among_nil b) };
    outputs = record { numbers = tt; few = tt; in_turn = λ e. absurd (false≢true e); outputs = refl; rest = refl };
    ends = record {
      named = refl;
      caused = (record { halted = λ e. let x : ⊥ = cc in absurd x; fault = tt; root = λ b. (Succeeded, (event 0 Outer (Close 0 Succeeded), here [], refl, refl)) }, tt);
      outer = outer_by (tt, refl, tt) tt refl tt tt (λ e. absurd (none_some e));
      stopped = record { failed = λ t. absurd (false≢true t); silenced = λ t. absurd (false≢true t); ended = λ t. absurd (false≢true t); halted = λ e k m who is early. ⊎_elim (λ (q : e ≡ record { who = Outer; how = how.Done }). let d = ap (λ (x : EndOf). x.who) q in let x : ⊥ = cc in absurd x) (λ m. absurd (among_nil m)) (among_cons m); nobody = λ t. absurd (none_some t) };
      begins = record {
        room = λ k h. absurd (no_turn k h);
        passed = λ e k m who idle. ⊎_elim (λ (q : e ≡ record { who = Outer; how = how.Done }). let d : Outer ≡ Inner k = sym (ap (λ (x : EndOf). x.who) q) ∙ who in let x : ⊥ = cc in absurd x) (λ m. absurd (among_nil m)) (among_cons m);
      };
      memory = λ e m is. ⊎_elim (λ (q : e ≡ record { who = Outer; how = how.Done }). let d = ap (λ (x : EndOf). x.how) q in let x : ⊥ = cc in absurd x) (λ m. absurd (among_nil m)) (among_cons m);
    };
    exits = (record { how = how.Done; same = inl refl; told = (refl, tt); ran = λ k e. let x : ⊥ = cc in absurd x }, tt);
    wanting = λ t. absurd (false≢true t);
    completeness = λ m n. record { done = (refl, tt); clean = refl; listed = tt; output = tt };
  });
}

none_told : TellsPlan (plan_by_default []) empty_description causes_of_none
none_told = (
  [],
  record {
    frames = [];
    cut = None;
    rest = [];
    wanted = false;
    performs = none_performs;
    text = record { said = tail_text empty_description.ends empty_description.events; written = text_of_empty_description; tail = refl; spoke = λ e. absurd (some_end e); once = omega arith };
  },
)
  where
    some_end : empty_description.ends ≡ [] → ⊥
    some_end e = cc

pub empty_description_holds : RunsStreams empty_description
empty_description_holds =
    run_holds empty_description causes_of_none refl refl
    (record { words = run_means; unread = refl; unwritten = refl; memory = λ h. absurd (false≢true h); faulty = refl; unclean = refl; status = refl; line = inl refl })
    (inr (record {
      bytes = [];
      input = record { few = omega arith; told = refl; given = refl };
      plan = subst (λ (q : Result PlanMeant Refusal). DoesPlan empty_description causes_of_none None q) (sym nothing_means) (refl, none_told);
    }))
