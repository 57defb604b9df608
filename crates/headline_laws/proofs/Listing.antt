-- A call of run with a list that went as it should, and one with a table that another group has.
use Rattle.std.proofs.Common.{◌≡◌, ℕ, ◌+◌, true, false, List, [], ◌∷◌, map, None, Ok, Err, inl, inr, refl, sym, ap, subst, arith, Some, Result}
use Rattle.std.specs.Prelude.{codes}
use Rattle.std.specs.Fmt.{digits}
use Rattle.std.specs.Ptr.{null_ptr}
use Rattle.std.specs.Str.{chars, is_utf8}
use Rattle.std.proofs.lemmas.Bool.{false≢true}
use Rattle.toml.proofs.OnLiterals.{toml_on_literals}
use Rattle.chunk_core.specs.Elements.{Byte, Element}
use Rattle.chunk_core.specs.Lists.IsAmong.{here, there}
use Rattle.chunk_core.specs.Outcomes.{Done}
use Rattle.chunk_core.specs.Tables.{no_values}
use Rattle.chunk_core.specs.declared.code.Exit.TheVariants.{Succeeded}
use Rattle.chunk_core.specs.declared.code.How.TheVariants as how
use Rattle.chunk_core.proofs.Distinct.{test_distinct}
use Rattle.res_ledger.specs.declared.event.StreamNo.TheVariants.{Outer}
use Rattle.device_port.specs.Device.{DeviceTold, to_read}
use Rattle.device_port.specs.Sink.{with_bytes}
use Rattle.pull_nodes.specs.declared.kind.Kind.TheVariants as kind
use Rattle.pull_nodes.specs.declared.node.Node.{Node}
use Rattle.pull_nodes.specs.declared.node.Node.TheVariants.{Read, Through', Weak'}
use Rattle.pull_nodes.specs.declared.pipe.Pipe.TheVariants as pipe
use Rattle.pipeline_desc.specs.Meant.{PlanMeant, listed_stream}
use Rattle.pipeline_desc.specs.Nodes.{Boxed, IsNodeOf}
use Rattle.pipeline_desc.specs.Plans.{plan_of}
use Rattle.pipeline_desc.specs.WorkedParts.{list_of}
use Rattle.pipeline_desc.specs.declared.refusal.Refusal.{Refusal}
use Rattle.run_rules.specs.Run.{Performs}
use Rattle.run_rules.specs.Texts.{tail_text}
use Rattle.run_rules.specs.Work.{Work, begun_frames}
use Rattle.plan_work.specs.Listed.{IsListNode}
use Rattle.plan_work.specs.Plans.{run_work}
use Rattle.run_laws.specs.Files.{path_a}
use Rattle.run_laws.specs.Lists.{list_bytes, list_devices, list_files, path_l, two_listed}
use Rattle.run_laws.specs.Tables.{path_b}
use Rattle.run_laws.specs.Written.{homes_of, read_device}
use Rattle.run_laws.proofs.Devices.{accounted}
use Rattle.run_laws.proofs.EndsTested.{unbounded}
use Rattle.run_laws.proofs.ExitsTested.{ends_at, outer_ends, ran_so}
use Rattle.run_laws.proofs.GivingTested.{outer_by, rules_by}
use Rattle.run_laws.proofs.ListRuns.{ideal_list, none_ended, two_ended, two_lines, two_spelled, whole_list}
use Rattle.run_laws.proofs.Lists.{two_listed_right}
use Rattle.run_laws.proofs.Performing.{read_only}
use Rattle.run_laws.proofs.RoomTested.{ends_by}
use Rattle.run_laws.proofs.RowsTested.{housed_by, left_alone_so, never_fall_so}
use Rattle.flume_cli.specs.declared.status.Status.TheVariants as status
use Rattle.flume_cli.specs.Status.{Causes, line_of}
use Rattle.flume_cli.specs.Headline.{DoesPlan, RunsStreams, TellsPlan}
use Rattle.headline_laws.specs.Listed.{list_description, list_plan, other_group, other_group_refusal, other_group_refused, two_lines_listed}
use Rattle.headline_laws.proofs.Asked.{run_holds, run_means}
use Rattle.headline_laws.proofs.Refusing.{an_end}

-- What the descriptions mean.

pub list_means : plan_of list_description ≡ Ok list_plan
unfolding toml_on_literals is_utf8 chars
list_means = refl

pub other_group_means : plan_of other_group ≡ Err other_group_refusal
unfolding toml_on_literals is_utf8 chars
other_group_means = refl

-- The nodes of the list and of its streams.

abbrev somewhere : Boxed
somewhere = record { ptr = null_ptr; alloc = record { memory = record { seal = tt } }; value = tt }

-- that of stream k, whose row stands behind that of the list
abbrev node_at : ℕ → Node
node_at k = Weak' (1 + k) somewhere (Read (1 + k))

first_node : IsNodeOf list_plan 0 (node_at 0)
first_node line = (listed_stream (list_of path_l []) line, refl, (node_at 0, node_at 0, kind.Bytes, (Read 1, Read 1, somewhere, refl, refl, refl), refl, refl, refl))

second_node : IsNodeOf list_plan 1 (node_at 1)
second_node line = (listed_stream (list_of path_l []) line, refl, (node_at 1, node_at 1, kind.Bytes, (Read 2, Read 2, somewhere, refl, refl, refl), refl, refl, refl))

abbrev list_node : Node
list_node = Weak' 0 somewhere (Through' somewhere (Through' somewhere (Read 0) pipe.Utf8) pipe.Lines)

is_list_node : IsListNode list_node
is_list_node = (somewhere, somewhere, somewhere, refl)

-- The run.

abbrev work : Work
work = run_work list_plan (path_a ∷ path_b ∷ [])

abbrev bytes_of : List ℕ → List Element
bytes_of bytes = map Byte bytes

abbrev list_device : DeviceTold
list_device = read_device 0 path_l list_bytes Succeeded

abbrev homes : ℕ → DeviceTold
homes = homes_of list_devices

performs : Performs work two_listed
performs = record {
  devices = accounted list_devices (to_read path_l ∷ to_read path_a ∷ to_read path_b ∷ []) two_listed.events (list_files list_bytes) (list_files list_bytes) refl refl refl refl refl refl refl refl refl (λ path. inr refl)
      (read_only two_listed.depot_new.files list_device refl, (read_only two_listed.depot_new.files (read_device 1 path_a (codes "x\n") Succeeded) refl, (read_only two_listed.depot_new.files (read_device 2 path_b (codes "y\n") Succeeded) refl, tt)));
  ledger = rules_by work two_listed.events refl refl refl refl refl (omega arith, (omega arith, (omega arith, tt))) refl refl;
  ran = inr (ran_so work two_listed no_values homes (
    outer_ends work no_values homes how.Done,
    (
      ends_at work no_values homes 0 (bytes_of (codes "x\n")) Done how.Done (node_at 0, first_node, (inl (inl (refl, refl, inl (refl, (refl, omega arith, refl, refl)))), inl (refl, inl (refl, tt)))) refl,
      (ends_at work no_values homes 1 (bytes_of (codes "y\n")) Done how.Done (node_at 1, second_node, (inl (inl (refl, refl, inl (refl, (refl, omega arith, refl, refl)))), inl (refl, inl (refl, tt)))) refl, tt),
    ),
  )
      (record {
        at_home = (refl, refl, inl (here _), (refl, refl, inl (there _ (here _)), (refl, refl, inl (there _ (there _ (here _))), tt)));
        apart = test_distinct (0 ∷ 1 ∷ 2 ∷ []) refl;
        tied = (tt, (refl, (tt, (tt, (refl, (tt, ((refl, refl), (tt, (tt, (tt, (refl, (tt, ((refl, refl), (tt, ((refl, refl), tt)))))))))))))));
        values = λ t key l. absurd (omega (arith, l));
        alone = (left_alone_so work two_listed homes).0 refl;
        housed = housed_by work two_listed homes ((0, omega arith, refl), ((1, omega arith, refl), ((2, omega arith, refl), tt)));
      })
      (record {
        numbers = ((omega arith, omega arith), ((omega arith, omega arith), tt));
        few = tt;
        in_turn = λ t. (never_fall_so (begun_frames two_listed)).0 refl;
        outputs = (
          record { pieces = bytes_of (codes "x\n") ∷ []; end = Done; run = inl (node_at 0, first_node, (inl (inl (refl, refl, inl (refl, (refl, omega arith, refl, refl)))), inl (refl, inl (refl, tt)))); printed = refl; reported = refl },
          (record { pieces = bytes_of (codes "y\n") ∷ []; end = Done; run = inl (node_at 1, second_node, (inl (inl (refl, refl, inl (refl, (refl, omega arith, refl, refl)))), inl (refl, inl (refl, tt)))); printed = refl; reported = refl }, refl),
        );
        rest = refl;
      })
      (ends_by work two_listed homes refl refl
      (outer_by
      (tt, refl, (record { acquired = (Outer, 1, (_, there _ (here _), refl, refl)); back = here _; ended = refl; unfailed = refl; whole = refl }, (two_lines, Done, (list_node, is_list_node, whole_list list_bytes two_lines two_spelled list_device refl refl (refl, (refl, omega arith, refl, refl))), refl)))
      (tt, (tt, tt)) refl (λ t. tt)
      (record {
        leased = ((Outer, 1, (_, there _ (there _ (here _)), refl, refl)), ((Outer, 1, (_, there _ (there _ (there _ (here _))), refl, refl)), tt));
        in_time = record { needed = omega (arith, none_ended); ended = λ t. omega (arith, two_ended) };
      })
      unbounded)
      refl refl refl)
      refl
      (λ m n. record {
        done = (refl, (refl, (refl, tt)));
        clean = refl;
        listed = (two_lines, Done, (list_node, is_list_node, ideal_list list_bytes two_lines two_spelled list_device (inl (omega arith, refl, refl))), refl);
        output = ((bytes_of (codes "x\n"), (node_at 0, first_node, inl (omega arith, refl, refl)), refl), ((bytes_of (codes "y\n"), (node_at 1, second_node, inl (omega arith, refl, refl)), refl), tt));
      }));
}

-- The calls.

abbrev all_well : Causes
all_well = record { early = false; words = true; unread = false; refused = None; unwritten = false; memory = false; faulty = false; unclean = false }

told : TellsPlan list_plan two_lines_listed all_well
told = (
  path_a ∷ path_b ∷ [],
  record {
    frames = two_listed.frames;
    cut = None;
    rest = [];
    wanted = false;
    performs = performs;
    text = record { said = tail_text two_listed.ends two_listed.events; written = ap (λ b. Some b) (sym two_listed_right.printed); tail = refl; spoke = λ e. absurd (an_end _ _ e); once = omega arith };
  },
)

pub two_lines_hold : RunsStreams two_lines_listed
two_lines_hold =
    run_holds two_lines_listed all_well refl refl
    (record { words = run_means; unread = refl; unwritten = refl; memory = λ h. absurd (false≢true h); faulty = refl; unclean = refl; status = refl; line = inl refl })
    (inr (record {
      bytes = list_description;
      input = record { few = omega arith; told = refl; given = refl };
      plan = subst (λ (q : Result PlanMeant Refusal). DoesPlan two_lines_listed all_well None q) (sym list_means) (refl, told);
    }))

line_of_refusal : other_group_refused.err_new ≡ with_bytes other_group_refused.err_old (line_of (status.Refused other_group_refusal))
unfolding digits
line_of_refusal = refl

abbrev causes_of_refusal : Causes
causes_of_refusal = record all_well { refused = Some other_group_refusal }

pub other_group_refused_holds : RunsStreams other_group_refused
other_group_refused_holds =
    run_holds other_group_refused causes_of_refusal refl refl
    (record { words = run_means; unread = refl; unwritten = refl; memory = λ h. absurd (false≢true h); faulty = refl; unclean = refl; status = refl; line = inl line_of_refusal })
    (inr (record {
      bytes = other_group;
      input = record { few = omega arith; told = refl; given = refl };
      plan = subst (λ (q : Result PlanMeant Refusal). DoesPlan other_group_refused causes_of_refusal None q) (sym other_group_means) (refl, record { depot = refl; out = refl; ends = refl; events = refl });
    }))
