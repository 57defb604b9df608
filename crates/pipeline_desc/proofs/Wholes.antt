-- The parts of a plan that were read are within all limits.
use Rattle.std.proofs.Common.{◌≡◌, ◌≤◌, List, Option, length, ap, ◌∙◌, sym, subst, refl}
use Rattle.std.specs.Prelude.{IfSome}
use Rattle.pipeline_desc.specs.Groups.{DescribedMeant, FollowOn, Follows, HaveTables}
use Rattle.pipeline_desc.specs.Limits.{most_groups, most_streams, most_tables}
use Rattle.pipeline_desc.specs.Meant.{setting_at, top_streams, top_tables}
use Rattle.pipeline_desc.specs.Places.{all_places}
use Rattle.pipeline_desc.specs.Sound.{AreAlone, AreSoundNumbers, AreSoundStreams, AreSoundTables, IsSoundList, IsSoundPlan}
use Rattle.pipeline_desc.specs.declared.group.GroupSpec.{GroupSpec}
use Rattle.pipeline_desc.specs.declared.listing.ListSpec.{ListSpec}
use Rattle.pipeline_desc.specs.declared.plan.Numbers.{Numbers}
use Rattle.pipeline_desc.specs.declared.stream.StreamSpec.{StreamSpec}
use Rattle.pipeline_desc.specs.declared.table.TableSpec.{TableSpec}
use Rattle.pipeline_desc.proofs.Groups.{have_tables}

module _ (d : DescribedMeant) (tables records : List TableSpec) (spans : List GroupSpec) (of_records : records ≡ tables) (of_spans : spans ≡ d.groups) (count : length tables ≡ length d.tables) (follow : Follows d) where
  -- the tables that streams may look up are there
  pub tables_there : HaveTables (length records) spans
  tables_there =
      let own = have_tables (top_tables (length d.tables) d.groups) (top_streams (length d.streams) d.groups) (length d.tables) (length d.streams) d.groups refl follow in
      let many : length d.tables ≡ length records = sym count ∙ ap (λ (ts : List TableSpec). length ts) (sym of_records) in
      subst (λ n. HaveTables n spans) many (subst (λ gs. HaveTables (length d.tables) gs) (sym of_spans) own)

  module _ (streams all : List StreamSpec) (list : Option ListSpec) (n : Numbers) (of_all : all ≡ streams) (many : length streams ≡ length d.streams) where
    -- so is the plan of them
    pub whole_sound : length tables ≤ most_tables → length streams ≤ most_streams → length d.groups ≤ most_groups → AreSoundNumbers n → AreSoundTables tables → AreSoundStreams (setting_at records spans (length streams)) streams
        → IfSome list (IsSoundList (setting_at records spans (length all) (length all)) (length all)) → AreAlone (all_places records list all) all
        → IsSoundPlan (record { max_open = n.max_open; queue = n.queue; chunk = n.chunk; take = n.take; tables = tables; streams = streams; groups = d.groups; list = list })
    whole_sound few_tables few_streams few_groups numbers sound_tables sound_streams sound_list alone = record {
      some_open = numbers.some_open;
      few_open = numbers.few_open;
      some_wait = numbers.some_wait;
      few_wait = numbers.few_wait;
      some_read = numbers.some_read;
      few_read = numbers.few_read;
      few_taken = numbers.few_taken;
      few_tables = few_tables;
      few_streams = few_streams;
      tables = sound_tables;
      few_groups = few_groups;
      follow = subst (λ t. FollowOn (top_tables t d.groups) (top_streams (length streams) d.groups) d.groups t (length streams)) (sym count)
          (subst (λ s. FollowOn (top_tables (length d.tables) d.groups) (top_streams s d.groups) d.groups (length d.tables) s) (sym many) follow);
      streams = subst (λ ts. AreSoundStreams (setting_at ts d.groups (length streams)) streams) of_records (subst (λ gs. AreSoundStreams (setting_at records gs (length streams)) streams) of_spans sound_streams);
      list = subst (λ (ss : List StreamSpec). IfSome list (IsSoundList (setting_at tables d.groups (length ss) (length ss)) (length ss))) of_all
          (subst (λ ts. IfSome list (IsSoundList (setting_at ts d.groups (length all) (length all)) (length all))) of_records
          (subst (λ gs. IfSome list (IsSoundList (setting_at records gs (length all) (length all)) (length all))) of_spans sound_list));
      alone = subst (λ ss. AreAlone (all_places tables list ss) ss) of_all (subst (λ ts. AreAlone (all_places ts list all) all) of_records alone);
    }
