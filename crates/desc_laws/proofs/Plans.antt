-- What holds of a whole description.
use Rattle.std.proofs.Common.{◌≡◌, ◌↔◌, ℕ, zero, suc, ◌+◌, ◌-◌, List, [], ◌∷◌, ◌++◌, drop, take, length, Some, None, Option, Ok, Err, refl, ap, ◌∙◌, sym, subst, arith, append-nil}
use Rattle.std.specs.Prelude.{option_to_list, slice_get, unwrap_or}
use Rattle.std.specs.List.{flat_map}
use Rattle.toml.specs.Data.{Members, no_members}
use Rattle.pipeline_desc.specs.Groups.{BelowMeant}
use Rattle.pipeline_desc.specs.Meant.{NamedTables, PlanMeant, SettingMeant, named_from, own_tables, setting_at, top_tables}
use Rattle.pipeline_desc.specs.Outputs.{outputs_alone}
use Rattle.pipeline_desc.specs.Plans.{below_meant, document_of, is_second, numbers_meant, plan_below, plan_meant, plan_of, top_keys}
use Rattle.pipeline_desc.specs.Reading.{Reading, ◌>>=◌, each_from}
use Rattle.pipeline_desc.specs.Streams.{list_behind, list_meant, stream_meant, streams_meant}
use Rattle.pipeline_desc.specs.Tables.{tables_meant}
use Rattle.pipeline_desc.specs.Values.{known_keys, number_within, where_given}
use Rattle.pipeline_desc.specs.declared.group.GroupSpec.{GroupSpec}
use Rattle.pipeline_desc.specs.declared.listing.ListSpec.{ListSpec}
use Rattle.pipeline_desc.specs.declared.plan.Numbers.{Numbers}
use Rattle.pipeline_desc.specs.declared.refusal.Refusal.{Refusal}
use Rattle.pipeline_desc.specs.declared.stream.StreamSpec.{StreamSpec}
use Rattle.pipeline_desc.specs.declared.table.TableSpec.{TableSpec}
use Rattle.desc_laws.specs.First.{IsFirst, NoneOf}
use Rattle.desc_laws.specs.Flaws.{Key}
use Rattle.desc_laws.specs.Flaws.Flaw.{OtherKey}
use Rattle.desc_laws.specs.Flaws.Key.{Version, MaxOpen, Queue, Chunk, Take, Tables, Streams, Groups, Listing, Name}
use Rattle.desc_laws.specs.Flaws.Part.{Table, Top as AtTop}
use Rattle.desc_laws.specs.Has.{HasFlaw, flaws_of, flaws_of_bytes, flaws_of_groups, flaws_of_keys, flaws_of_lists, flaws_of_outputs, flaws_of_part, flaws_of_streams, flaws_of_tables}
use Rattle.desc_laws.specs.Places.{document_in, entries_at, groups_in, list_in, part_in, spans_from, spans_in, streams_in, tables_in, text_in, value_at, value_in}
use Rattle.desc_laws.specs.Says.{SaysLimit, SaysNumber, SaysPlan, SaysTables}
use Rattle.desc_laws.specs.Stages.{all_names, names_from}
use Rattle.desc_laws.proofs.Agree.{Agrees, made_agrees, reads_where_none, refused_for_first, then_agrees}
use Rattle.desc_laws.proofs.Alone.{outputs_agree}
use Rattle.desc_laws.proofs.Lists.{list_of, lists_agree, lists_said}
use Rattle.desc_laws.proofs.Numbers.{says_limit, says_number}
use Rattle.desc_laws.proofs.Outputs.{said_text}
use Rattle.desc_laws.proofs.Parts.{below_agrees, below_is}
use Rattle.desc_laws.proofs.Positions.{at_top}
use Rattle.desc_laws.proofs.Said.{tables_said}
use Rattle.desc_laws.proofs.Streams.{stream_of, streams_agree, streams_said}
use Rattle.desc_laws.proofs.Tables.{tables_agree_all}
use Rattle.desc_laws.proofs.Texts.{bind_ok}
use Rattle.desc_laws.proofs.Top.{bytes_agree, document_is, keys_agree, numbers_agree}
use Rattle.desc_laws.proofs.Words.{setting_in}

-- the names of tables that were read are those that stand there
names_said : (bytes : List ℕ) (i : ℕ) (xs : List Members) (tables : List TableSpec) → ((j : ℕ) (x : Members) → slice_get xs j ≡ Some x → part_in bytes (Table (i + j)) ≡ x) → length tables ≡ length xs → SaysTables bytes i tables
    → named_from i tables ≡ names_from i xs
names_said bytes i [] [] stand e said = refl
names_said bytes i [] (t ∷ tables) stand e said = absurd (omega (arith, e))
names_said bytes i (x ∷ xs) [] stand e said = absurd (omega (arith, e))
names_said bytes i (x ∷ xs) (t ∷ tables) stand e said =
    let zero_more : i ≡ i + 0 = omega arith in
    let here : part_in bytes (Table i) ≡ x = ap (λ n. part_in bytes (Table n)) zero_more ∙ stand 0 x refl in
    let name : unwrap_or (text_in (value_in x Name)) [] ≡ t.name = ap (λ ms. unwrap_or (text_in (value_in ms Name)) []) (sym here) ∙ ap (λ o. unwrap_or o []) (said_text (value_at bytes (Table i) Name) t.name said.0.name) in
    let next : i + 1 ≡ suc i = omega arith in
    let more : named_from (i + 1) tables ≡ names_from (i + 1) xs = names_said bytes (i + 1) xs tables (λ j y h. let one_on : i + 1 + j ≡ i + suc j = omega arith in ap (λ n. part_in bytes (Table n)) one_on ∙ stand (suc j) y h) (omega (arith, e)) said.1 in
    ap (λ (n : List ℕ). (n, i) ∷ named_from (suc i) tables) (sym name) ∙ ap (λ (l : NamedTables). (unwrap_or (text_in (value_in x Name)) [], i) ∷ l) (subst (λ n. named_from n tables ≡ names_from n xs) next more)

-- of tables with their names and numbers, the first ones and those behind
named_take : (n i : ℕ) (tables : List TableSpec) → named_from i (take n tables) ≡ take n (named_from i tables)
named_take zero i tables = refl
named_take (suc n) i [] = refl
named_take (suc n) i (t ∷ tables) = ap (λ (l : NamedTables). (t.name, i) ∷ l) (named_take n (suc i) tables)

named_drop : (n i : ℕ) (tables : List TableSpec) → named_from (i + n) (drop n tables) ≡ drop n (named_from i tables)
named_drop zero i tables = let same : i + 0 ≡ i = omega arith in ap (λ m. named_from m tables) same
named_drop (suc n) i [] = refl
named_drop (suc n) i (t ∷ tables) = let same : i + suc n ≡ suc i + n = omega arith in ap (λ m. named_from m (drop n tables)) same ∙ named_drop n (suc i) tables

-- how many tables stand at the top
first_of : (tables : List Members) (table stream : ℕ) (groups : List Members) → table ≡ length tables → top_tables (length (tables ++ flat_map (λ g. entries_at g Tables) groups)) (spans_from table stream groups) ≡ table
first_of tables table stream [] e = omega (arith, e, ap (λ (l : List Members). length l) (append-nil tables))
first_of tables table stream (g ∷ groups) e = refl

-- what is read of each element doesn't differ where the readings don't
each_alike : {A B : Type 0} (f g : ℕ → A → Reading B) → ((k : ℕ) (x : A) → f k x ≡ g k x) → (i : ℕ) (xs : List A) → each_from f i xs ≡ each_from g i xs
each_alike f g same i [] = refl
each_alike f g same i (x ∷ xs) =
    ap (λ r. r >>= (λ y. each_from f (i + 1) xs >>= (λ ys. Ok (y ∷ ys)))) (same i x) ∙ ap (λ r. g i x >>= (λ y. r >>= (λ ys. Ok (y ∷ ys)))) (each_alike f g same (i + 1) xs)

module _ (bytes : List ℕ) where
  tables_stand : (j : ℕ) (x : Members) → slice_get (tables_in bytes) j ≡ Some x → part_in bytes (Table (0 + j)) ≡ x
  tables_stand j x e = let same : 0 + j ≡ j = omega arith in ap (λ n. part_in bytes (Table n)) same ∙ ap (λ o. unwrap_or o no_members) e

  -- tables that were read
  tables_read : (tables : List TableSpec) → tables_meant (tables_in bytes) ≡ Ok tables → (length tables ≡ length (tables_in bytes)) × SaysTables bytes 0 tables
  tables_read tables e =
      let (more, same, number, said) = tables_said bytes 0 [] (tables_in bytes) tables tables_stand e in
      (ap length same ∙ number, subst (SaysTables bytes 0) (sym same) said)

  abbrev setting_with : NamedTables → SettingMeant
  setting_with names = record { tables = names; count = length (streams_in bytes) }

  -- beside them the streams and the list are read
  setting_is : (tables : List TableSpec) → tables_meant (tables_in bytes) ≡ Ok tables → (k : ℕ) → setting_at tables (spans_in bytes) (length (streams_in bytes)) k ≡ setting_in bytes k
  setting_is tables e k =
      let (number, said) = tables_read tables e in
      let whole : named_from 0 tables ≡ all_names bytes = names_said bytes 0 (tables_in bytes) tables tables_stand number said in
      let own = own_tables (spans_in bytes) k in
      let first : top_tables (length tables) (spans_in bytes) ≡ length (entries_at (document_in bytes) Tables) =
      ap (λ n. top_tables n (spans_in bytes)) number
      ∙ first_of (entries_at (document_in bytes) Tables) (length (entries_at (document_in bytes) Tables)) (length (entries_at (document_in bytes) Streams)) (groups_in bytes) refl in
      let of_top : named_from 0 (take (top_tables (length tables) (spans_in bytes)) tables) ≡ take (length (entries_at (document_in bytes) Tables)) (all_names bytes) =
      ap (λ n. named_from 0 (take n tables)) first ∙ (named_take (length (entries_at (document_in bytes) Tables)) 0 tables ∙ ap (take (length (entries_at (document_in bytes) Tables))) whole) in
      let zero_more : own.from ≡ 0 + own.from = omega arith in
      let of_own : named_from own.from (take (own.to - own.from) (drop own.from tables)) ≡ take (own.to - own.from) (drop own.from (all_names bytes)) =
      named_take (own.to - own.from) own.from (drop own.from tables)
      ∙ (ap (λ n. take (own.to - own.from) (named_from n (drop own.from tables))) zero_more ∙ (ap (take (own.to - own.from)) (named_drop own.from 0 tables) ∙ ap (λ l. take (own.to - own.from) (drop own.from l)) whole)) in
      ap (λ (l : NamedTables). setting_with (l ++ named_from own.from (take (own.to - own.from) (drop own.from tables)))) of_top
      ∙ ap (λ (l : NamedTables). setting_with (take (length (entries_at (document_in bytes) Tables)) (all_names bytes) ++ l)) of_own

  streams_are : (tables : List TableSpec) → tables_meant (tables_in bytes) ≡ Ok tables → streams_meant tables (spans_in bytes) (streams_in bytes) ≡ each_from (stream_of bytes) 0 (streams_in bytes)
  streams_are tables e =
      each_alike (λ k. stream_meant (setting_at tables (spans_in bytes) (length (streams_in bytes)) k) k) (stream_of bytes) (λ k x. ap (λ (c : SettingMeant). stream_meant c k x) (setting_is tables e k)) 0 (streams_in bytes)

  lists_are : (tables : List TableSpec) → tables_meant (tables_in bytes) ≡ Ok tables → (o : Option Members) → list_behind tables (spans_in bytes) (length (streams_in bytes)) o ≡ list_of bytes o
  lists_are tables e None = refl
  lists_are tables e (Some ms) = ap (λ (c : SettingMeant). list_meant c (length (streams_in bytes)) ms >>= (λ l. Ok (Some l))) (setting_is tables e (length (streams_in bytes)))

  -- what was read of the numbers
  record AreSaid (n : Numbers) : Type 0 where
    pub max_open : SaysNumber (value_at bytes AtTop MaxOpen) 4 n.max_open
    pub queue : SaysNumber (value_at bytes AtTop Queue) 16 n.queue
    pub chunk : SaysNumber (value_at bytes AtTop Chunk) 4096 n.chunk
    pub take : SaysLimit (value_at bytes AtTop Take) n.take

  abbrev number_at : ℕ → ℕ → Key → Reading (Option ℕ)
  number_at low high key = where_given (number_within low high at_top.0) (value_at bytes AtTop key)

  abbrev behind_take : Option ℕ → Option ℕ → Option ℕ → Option ℕ → Reading Numbers
  behind_take max_open queue chunk take = Ok (record { max_open = unwrap_or max_open 4; queue = unwrap_or queue 16; chunk = unwrap_or chunk 4096; take = take })

  abbrev behind_chunk : Option ℕ → Option ℕ → Option ℕ → Reading Numbers
  behind_chunk max_open queue chunk = number_at 0 1000000000 Take >>= behind_take max_open queue chunk

  abbrev behind_queue : Option ℕ → Option ℕ → Reading Numbers
  behind_queue max_open queue = number_at 1 65536 Chunk >>= behind_chunk max_open queue

  abbrev behind_open : Option ℕ → Reading Numbers
  behind_open max_open = number_at 1 64 Queue >>= behind_queue max_open

  numbers_same : (m n : Numbers) → ◌≡◌ {A = Reading Numbers} (Ok m) (Ok n) → m ≡ n
  numbers_same m n e = cc

  numbers_said : (n : Numbers) → numbers_meant (document_in bytes) ≡ Ok n → AreSaid n
  numbers_said n e =
      let (v, version, e1) = bind_ok (number_at 1 2 Version) (λ _. number_at 1 64 MaxOpen >>= behind_open) n e in
      let (w, a, e2) = bind_ok (number_at 1 64 MaxOpen) behind_open n e1 in
      let (x, b, e3) = bind_ok (number_at 1 64 Queue) (behind_queue w) n e2 in
      let (y, c, e4) = bind_ok (number_at 1 65536 Chunk) (behind_chunk w x) n e3 in
      let (z, d, e5) = bind_ok (number_at 0 1000000000 Take) (behind_take w x y) n e4 in
      subst AreSaid (numbers_same _ n e5) (record {
        max_open = says_number (value_at bytes AtTop MaxOpen) 1 64 4 w a;
        queue = says_number (value_at bytes AtTop Queue) 1 64 16 x b;
        chunk = says_number (value_at bytes AtTop Chunk) 1 65536 4096 y c;
        take = says_limit (value_at bytes AtTop Take) 0 1000000000 z d;
      })

  -- the plan of what stands below the top
  abbrev plan_with : Numbers → List TableSpec → List StreamSpec → Option ListSpec → PlanMeant
  plan_with n tables streams list = record {
    max_open = n.max_open;
    queue = n.queue;
    chunk = n.chunk;
    take = n.take;
    tables = tables;
    streams = streams;
    groups = spans_in bytes;
    list = list;
  }

  -- what is read behind the list, behind the streams, behind the tables, and behind the numbers
  abbrev behind_list : Numbers → List TableSpec → List StreamSpec → Option ListSpec → Reading PlanMeant
  behind_list n tables streams list = outputs_alone tables list streams >>= (λ _. Ok (plan_with n tables streams list))

  abbrev behind_streams : Numbers → Option Members → List TableSpec → List StreamSpec → Reading PlanMeant
  behind_streams n o tables streams = list_behind tables (spans_in bytes) (length streams) o >>= behind_list n tables streams

  abbrev behind_tables : Numbers → Option Members → List TableSpec → Reading PlanMeant
  behind_tables n o tables = streams_meant tables (spans_in bytes) (streams_in bytes) >>= behind_streams n o tables

  abbrev behind_below : Numbers → Option Members → Reading PlanMeant
  behind_below n o = tables_meant (tables_in bytes) >>= behind_tables n o

  abbrev below_of : List Members → List Members → List GroupSpec → Option Members → BelowMeant
  below_of tables streams groups list = record { described = record { tables = tables; streams = streams; groups = groups }; list = list }

  -- so it is read where that stands there
  plan_same : (n : Numbers) (b : BelowMeant) → b.described.tables ≡ tables_in bytes → b.described.streams ≡ streams_in bytes → b.described.groups ≡ spans_in bytes → plan_below n b ≡ behind_below n b.list
  plan_same n b t s g =
      let same : below_of b.described.tables b.described.streams b.described.groups b.list ≡ below_of (tables_in bytes) (streams_in bytes) (spans_in bytes) b.list =
      ap (λ (l : List Members). below_of l b.described.streams b.described.groups b.list) t
      ∙ (ap (λ (l : List Members). below_of (tables_in bytes) l b.described.groups b.list) s ∙ ap (λ (l : List GroupSpec). below_of (tables_in bytes) (streams_in bytes) l b.list) g) in
      ap (plan_below n) same

  -- what was read of the list behind as many streams as there are
  list_is : (o : Option Members) (tables : List TableSpec) (streams : List StreamSpec) → tables_meant (tables_in bytes) ≡ Ok tables → length streams ≡ length (streams_in bytes)
      → list_behind tables (spans_in bytes) (length streams) o ≡ list_of bytes o
  list_is o tables streams e many = ap (λ n. list_behind tables (spans_in bytes) n o) many ∙ lists_are tables e o

  module _ (o : Option Members) (there : list_in bytes ≡ option_to_list o) where
    streams_then : (n : Numbers) (tables : List TableSpec) → tables_meant (tables_in bytes) ≡ Ok tables → Agrees (HasFlaw bytes) (flaws_of_streams bytes ++ (flaws_of_lists bytes ++ flaws_of_outputs bytes)) (behind_tables n o tables)
    streams_then n tables e =
        then_agrees (HasFlaw bytes) (flaws_of_streams bytes) (flaws_of_lists bytes ++ flaws_of_outputs bytes) (streams_meant tables (spans_in bytes) (streams_in bytes)) (behind_streams n o tables)
        (subst (Agrees (HasFlaw bytes) (flaws_of_streams bytes)) (sym (streams_are tables e)) (streams_agree bytes))
        (λ streams is.
        let (few, table_part) = tables_read tables e in
        let (many, stream_part) = streams_said bytes streams (sym (streams_are tables e) ∙ is) in
        let same = list_is o tables streams e many in
        then_agrees (HasFlaw bytes) (flaws_of_lists bytes) (flaws_of_outputs bytes) (list_behind tables (spans_in bytes) (length streams) o) (behind_list n tables streams)
        (subst (Agrees (HasFlaw bytes) (flaws_of_lists bytes)) (sym same) (lists_agree bytes o there))
        (λ list given.
        made_agrees (HasFlaw bytes) (flaws_of_outputs bytes) (outputs_alone tables list streams) (λ _. Ok (plan_with n tables streams list))
        (outputs_agree bytes tables list streams table_part few (lists_said bytes o list there (sym same ∙ given)) stream_part many) (λ u alone. tt)))

    tables_then : (n : Numbers) → Agrees (HasFlaw bytes) (flaws_of_tables bytes ++ (flaws_of_streams bytes ++ (flaws_of_lists bytes ++ flaws_of_outputs bytes))) (behind_below n o)
    tables_then n =
        then_agrees (HasFlaw bytes) (flaws_of_tables bytes) (flaws_of_streams bytes ++ (flaws_of_lists bytes ++ flaws_of_outputs bytes)) (tables_meant (tables_in bytes)) (behind_tables n o) (tables_agree_all bytes) (streams_then n)

    -- a plan is what the keys say
    plan_is : (n : Numbers) (p : PlanMeant) → numbers_meant (document_in bytes) ≡ Ok n → behind_below n o ≡ Ok p → SaysPlan bytes p
    plan_is n p numbers e =
        let (tables, read, e1) = bind_ok (tables_meant (tables_in bytes)) (behind_tables n o) p e in
        let (streams, given, e2) = bind_ok (streams_meant tables (spans_in bytes) (streams_in bytes)) (behind_streams n o tables) p e1 in
        let (list, listed, e3) = bind_ok (list_behind tables (spans_in bytes) (length streams) o) (behind_list n tables streams) p e2 in
        let (u, alone, last) = bind_ok (outputs_alone tables list streams) (λ _. Ok (plan_with n tables streams list)) p e3 in
        let (few, table_part) = tables_read tables read in
        let (many, stream_part) = streams_said bytes streams (sym (streams_are tables read) ∙ given) in
        let list_part = lists_said bytes o list there (sym (list_is o tables streams read many) ∙ listed) in
        let said = numbers_said n numbers in
        subst (SaysPlan bytes) (plan_whole n tables streams list p last) (record {
          max_open = said.max_open;
          queue = said.queue;
          chunk = said.chunk;
          take = said.take;
          count = few;
          tables = table_part;
          stream_count = many;
          streams = stream_part;
          groups = refl;
          list = list_part.says;
        })
      where
        plan_whole : (n : Numbers) (tables : List TableSpec) (streams : List StreamSpec) (list : Option ListSpec) (p : PlanMeant) → ◌≡◌ {A = Reading PlanMeant} (Ok (plan_with n tables streams list)) (Ok p) → plan_with n tables streams list ≡ p
        plan_whole n tables streams list p e = cc

  top_then : Agrees (HasFlaw bytes) (flaws_of_part bytes AtTop ++ (flaws_of_groups bytes ++ (flaws_of_tables bytes ++ (flaws_of_streams bytes ++ (flaws_of_lists bytes ++ flaws_of_outputs bytes))))) (plan_meant (document_in bytes))
  top_then =
      let ms = document_in bytes in
      let rest = flaws_of_tables bytes ++ (flaws_of_streams bytes ++ (flaws_of_lists bytes ++ flaws_of_outputs bytes)) in
      let arrays = flaws_of_keys bytes AtTop (Tables ∷ Streams ∷ Groups ∷ Listing ∷ []) in
      then_agrees (HasFlaw bytes) (OtherKey AtTop ∷ []) (flaws_of_keys bytes AtTop (Version ∷ MaxOpen ∷ Queue ∷ Chunk ∷ Take ∷ []) ++ (arrays ++ (flaws_of_groups bytes ++ rest))) (known_keys (top_keys (is_second ms)) at_top.0 ms) (λ _. numbers_meant ms >>= (λ n. below_meant ms >>= plan_below n))
      (keys_agree bytes AtTop) (λ u known.
      then_agrees (HasFlaw bytes) (flaws_of_keys bytes AtTop (Version ∷ MaxOpen ∷ Queue ∷ Chunk ∷ Take ∷ [])) (arrays ++ (flaws_of_groups bytes ++ rest)) (numbers_meant ms) (λ n. below_meant ms >>= plan_below n) (numbers_agree bytes) (λ n is.
      then_agrees (HasFlaw bytes) (arrays ++ flaws_of_groups bytes) rest (below_meant ms) (plan_below n) (below_agrees bytes) (λ b are.
      let there = below_is bytes b are in
      subst (Agrees (HasFlaw bytes) rest) (sym (plan_same n b there.tables there.streams there.groups)) (tables_then b.list there.list n))))

  plan_agrees : Agrees (HasFlaw bytes) (flaws_of bytes) (plan_of bytes)
  plan_agrees =
      let rest = flaws_of_part bytes AtTop ++ (flaws_of_groups bytes ++ (flaws_of_tables bytes ++ (flaws_of_streams bytes ++ (flaws_of_lists bytes ++ flaws_of_outputs bytes)))) in
      then_agrees (HasFlaw bytes) flaws_of_bytes rest (document_of bytes) plan_meant (bytes_agree bytes)
      (λ ms is. subst (λ m. Agrees (HasFlaw bytes) rest (plan_meant m)) (document_is bytes ms is) top_then)

  -- a refusal, and a plan
  pub refused_first : (r : Refusal) → (plan_of bytes ≡ Err r) ↔ IsFirst (HasFlaw bytes) (flaws_of bytes) r
  refused_first r = refused_for_first (HasFlaw bytes) (flaws_of bytes) (plan_of bytes) r plan_agrees

  pub accepted_without : ((p : PlanMeant) × (plan_of bytes ≡ Ok p)) ↔ NoneOf (HasFlaw bytes) (flaws_of bytes)
  accepted_without = reads_where_none (HasFlaw bytes) (flaws_of bytes) (plan_of bytes) plan_agrees

  pub plan_said : (p : PlanMeant) → plan_of bytes ≡ Ok p → SaysPlan bytes p
  plan_said p e =
      let (ms, document, more) = bind_ok (document_of bytes) plan_meant p e in
      let same = document_is bytes ms document in
      let (u, known, e1) = bind_ok (known_keys (top_keys (is_second (document_in bytes))) at_top.0 (document_in bytes)) (λ _. numbers_meant (document_in bytes) >>= (λ n. below_meant (document_in bytes) >>= plan_below n)) p (ap plan_meant same ∙ more) in
      let (n, numbers, e2) = bind_ok (numbers_meant (document_in bytes)) (λ n. below_meant (document_in bytes) >>= plan_below n) p e1 in
      let (b, below, e3) = bind_ok (below_meant (document_in bytes)) (plan_below n) p e2 in
      let there = below_is bytes b below in
      plan_is b.list there.list n p numbers (sym (plan_same n b there.tables there.streams there.groups) ∙ e3)
