use Rattle.std.proofs.Common.{◌≡◌, ◌<◌, codes, None, Some, inl, inr, refl, arith}
use Rattle.std.specs.Str.{is_utf8, chars}
use Rattle.toml.proofs.OnLiterals.{toml_on_literals}
use Rattle.pull_nodes.specs.declared.kind.Kind.TheVariants as kind
use Rattle.desc_laws.specs.Flaws.Flaw.{HalfJoined, OutOfLimits, OtherArgument, OtherKey, OtherKind, OtherListKey, OtherPath, OtherStep, OtherTable}
use Rattle.desc_laws.specs.Flaws.Key.{Until}
use Rattle.desc_laws.specs.Flaws.Part.{Stream, Top}
use Rattle.desc_laws.specs.Has.{HasFlaw}
use Rattle.desc_laws.specs.Stages.Stage.{Word}
use Rattle.desc_laws.specs.Worked.{FlawsAreThere, FlawsFollow, PartsFollow, PartsHaveFlaws, one_stream}
use Rattle.desc_laws.proofs.Keys.{is_found}
use Rattle.std.proofs.lemmas.Bool.{false≢true}
use Rattle.pipeline_desc.specs.Plans.{first_keys}
use Rattle.pipeline_desc.specs.Streams.{list_keys}
use Rattle.desc_laws.proofs.laws.worked.Goals as goal

flaws_follow : FlawsFollow
unfolding toml_on_literals is_utf8 chars
flaws_follow = (refl, refl)

other_kind : HasFlaw (one_stream (codes "steps = ['lines', 'utf8']\n")) (OtherKind 0 1)
unfolding toml_on_literals is_utf8 chars
other_kind = (Word (codes "utf8"), kind.Lines, refl, refl, refl)

other_step : HasFlaw (one_stream (codes "steps = ['lines']\nafter = ['shout']\n")) (OtherStep 0 2)
unfolding toml_on_literals is_utf8 chars
other_step = (codes "shout", refl, refl)

other_argument : HasFlaw (one_stream (codes "steps = ['take ten']\n")) (OtherArgument 0 0)
unfolding toml_on_literals is_utf8 chars
other_argument = (codes "take ten", refl, refl)

other_table : HasFlaw (one_stream (codes "steps = ['csv', 'lookup price 0']\n")) (OtherTable 0 1)
unfolding toml_on_literals is_utf8 chars
other_table = (codes "lookup price 0", refl, refl)

half_joined : HasFlaw (one_stream (codes "with = 'b'\n")) (HalfJoined 0)
unfolding toml_on_literals is_utf8 chars
half_joined = inl ((_, refl), (λ g. let (d, e) = g in let no : None ≡ Some d = e in cc))

bad_until : HasFlaw (one_stream (codes "until = 0\n")) (OutOfLimits (Stream 0) Until)
unfolding toml_on_literals is_utf8 chars
bad_until = ((_, refl), (λ w. let (n, is, below, other) = w in let first : n < 1 = below in other (omega (arith, first))))

other_path : HasFlaw (one_stream (codes "to = 'a'\n")) (OtherPath 0)
unfolding toml_on_literals is_utf8 chars
other_path = (codes "a", refl, inr (0, inl refl))

flaws_are_there : FlawsAreThere
flaws_are_there = (other_kind, other_step, other_argument, other_table, half_joined, bad_until, other_path)

parts_follow : PartsFollow
unfolding toml_on_literals is_utf8 chars
parts_follow = refl

first_version : HasFlaw (codes "list = {path = 'l'}\n") (OtherKey Top)
unfolding toml_on_literals is_utf8 chars
first_version = inl (λ i. false≢true (is_found (codes "list") first_keys i))

written_list : HasFlaw (codes "version = 2\nlist = {path = 'l', to = 'a'}\n") (OtherListKey 0)
unfolding toml_on_literals is_utf8 chars
written_list = inr (inl (λ i. false≢true (is_found (codes "to") list_keys i)))

other_group : HasFlaw (codes "version = 2\n[[group]]\ntable = [{name = 't', path = 'a'}]\n[[group]]\nstream = [{path = 'b', steps = ['csv', 'lookup t 0']}]\n") (OtherTable 0 1)
unfolding toml_on_literals is_utf8 chars
other_group = (codes "lookup t 0", refl, refl)

parts_have_flaws : PartsHaveFlaws
parts_have_flaws = (first_version, written_list, other_group)

pub returns-clause-parts : goal.returns-clause-parts
returns-clause-parts c = parts_follow

pub returns-clause-flaws : goal.returns-clause-flaws
returns-clause-flaws c = parts_have_flaws

pub returns-clause-follow : goal.returns-clause-follow
returns-clause-follow c = flaws_follow

pub returns-clause-there : goal.returns-clause-there
returns-clause-there c = flaws_are_there
