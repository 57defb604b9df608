-- The groups of a description, and what stands below its top.
use Rattle.std.proofs.Common.{◌≡◌, ℕ, suc, ◌+◌, false, List, [], ◌∷◌, ◌++◌, length, length-append, Option, Some, None, Ok, inl, refl, ap, ◌∙◌, sym, subst, append_assoc, append-nil, nat_le, leb-true, leb-false, arith, codes}
use Rattle.std.specs.Prelude.{option_and_then, option_to_list, slice_get, unwrap_or}
use Rattle.std.specs.List.{flat_map}
use Rattle.std.proofs.lemmas.Bool.{false≢true}
use Rattle.toml.specs.Data.{Data, Items, no_items, Members, no_members, as_array, as_table, get_member}
use Rattle.pipeline_desc.specs.Groups.{BelowMeant, DescribedMeant, at_top as of_top, group_from, with_group}
use Rattle.pipeline_desc.specs.Limits.{most_groups, most_streams, most_tables}
use Rattle.pipeline_desc.specs.Plans.{are_few, below_meant, group_keys, group_meant, groups_meant}
use Rattle.pipeline_desc.specs.Reading.{Reading, ◌>>=◌, passes, present, refusal_of}
use Rattle.pipeline_desc.specs.Values.{each_as, known_keys, list_at, table_that, tables_at, where_given}
use Rattle.pipeline_desc.specs.declared.refusal.RefusalKind.TheVariants as refused
use Rattle.desc_laws.specs.First.{IsFirst}
use Rattle.desc_laws.specs.Flaws.{Key, Part, of_part}
use Rattle.desc_laws.specs.Flaws.Flaw.{OtherKey, OtherType, ManyTables, ManyStreams}
use Rattle.desc_laws.specs.Flaws.Key.{Tables, Streams, Groups, Listing}
use Rattle.desc_laws.specs.Flaws.Part.{Top, Group}
use Rattle.desc_laws.specs.Has.{HasFlaw, flaws_at, flaws_from, flaws_of_groups, flaws_of_keys, flaws_of_part}
use Rattle.desc_laws.specs.Places.{document_in, entries_at, entries_in, groups_in, list_in, part_in, spans_from, spans_in, streams_in, tables_in, value_at, value_in}
use Rattle.desc_laws.specs.Values.{IsArrayOf, IsMistyped, IsOfType, is_required}
use Rattle.desc_laws.proofs.Agree.{Agrees, made_agrees, test_agrees, then_agrees}
use Rattle.desc_laws.proofs.Keys.{given_agrees, mistyped, within}
use Rattle.desc_laws.proofs.Positions.{at_top}
use Rattle.desc_laws.proofs.Tables.{tables_seen}
use Rattle.desc_laws.proofs.Texts.{bind_ok}
use Rattle.desc_laws.proofs.Top.{keys_agree, tables_agree}

-- an array of tables at a key
module _ (bytes : List ℕ) (at : Part) (key : Key) (told : refusal_of refused.WrongType at_top.0 ≡ of_part at refused.WrongType) (type : (d : Data) → IsOfType key d ≡ IsArrayOf as_table d) (optional : is_required key ≡ false) where
  pub array_agrees : Agrees (HasFlaw bytes) (OtherType at key ∷ []) (list_at as_table at_top.0 (value_at bytes at key))
  array_agrees = go (value_at bytes at key) refl
    where
      go : (o : Option Data) → value_at bytes at key ≡ o → Agrees (HasFlaw bytes) (OtherType at key ∷ []) (list_at as_table at_top.0 o)
      go None e = ((λ m. false≢true (sym optional ∙ subst (IsMistyped key) e m)), tt)
      go (Some d) e = array (as_array d) refl
        where
          wrong : (IsArrayOf as_table d → ⊥) → IsFirst (HasFlaw bytes) (OtherType at key ∷ []) (refusal_of refused.WrongType at_top.0)
          wrong h = inl (subst (IsMistyped key) (sym e) (λ t. h (subst (λ B. B) (type d) t)), told)

          each : (items : Items) → as_array d ≡ Some items → (p : Option (List Members)) → each_as as_table items ≡ p → Agrees (HasFlaw bytes) (OtherType at key ∷ []) (present p refused.WrongType at_top.0)
          each items is None none = wrong (λ t. let (other, xs, that, seen) = t in let same : Some items ≡ Some other = sym is ∙ that in let one : other ≡ items = cc in let no : None ≡ Some xs = sym none ∙ (ap (each_as as_table) (sym one) ∙ seen) in cc)
          each items is (Some xs) some = ((λ m. subst (IsMistyped key) e m (subst (λ B. B) (sym (type d)) (items, xs, is, some))), tt)

          array : (p : Option Items) → as_array d ≡ p → Agrees (HasFlaw bytes) (OtherType at key ∷ []) (present p refused.WrongType at_top.0 >>= (λ ds. present (each_as as_table ds) refused.WrongType at_top.0))
          array None is = wrong (λ t. let (items, xs, that, seen) = t in let no : None ≡ Some items = sym is ∙ that in cc)
          array (Some items) is = each items is (each_as as_table items) refl

pub array_seen : (o : Option Data) (xs : List Members) → list_at as_table at_top.0 o ≡ Ok xs → entries_in as_table o ≡ xs
array_seen None xs e = (cc)
array_seen (Some d) xs e = array (as_array d) e
  where
    each : (p : Option (List Members)) → present p refused.WrongType at_top.0 ≡ Ok xs → unwrap_or p [] ≡ xs
    each None e = (cc)
    each (Some ys) e = (cc)

    array : (p : Option Items) → (present p refused.WrongType at_top.0 >>= (λ ds. present (each_as as_table ds) refused.WrongType at_top.0)) ≡ Ok xs → unwrap_or (each_as as_table (unwrap_or p no_items)) [] ≡ xs
    array None e = (cc)
    array (Some items) e = each (each_as as_table items) e

-- a group behind what is described
group_agrees : (bytes : List ℕ) (g : ℕ) (d : DescribedMeant) → Agrees (HasFlaw bytes) (flaws_of_part bytes (Group g)) (group_meant d (part_in bytes (Group g)))
group_agrees bytes g d =
    then_agrees (HasFlaw bytes) (OtherKey (Group g) ∷ []) (OtherType (Group g) Tables ∷ OtherType (Group g) Streams ∷ []) _ _ (keys_agree bytes (Group g)) (λ u known.
    then_agrees (HasFlaw bytes) (OtherType (Group g) Tables ∷ []) (OtherType (Group g) Streams ∷ []) _ _ (array_agrees bytes (Group g) Tables refl (λ d. refl) refl) (λ tables ts.
    made_agrees (HasFlaw bytes) (OtherType (Group g) Streams ∷ []) _ _ (array_agrees bytes (Group g) Streams refl (λ d. refl) refl) (λ streams ss. tt)))

-- these stand from number i on
abbrev Stand : List ℕ → ℕ → List Members → Type 0
Stand bytes i gs = (j : ℕ) (x : Members) → slice_get gs j ≡ Some x → part_in bytes (Group (i + j)) ≡ x

groups_follow : (bytes : List ℕ) (i : ℕ) (d : DescribedMeant) (gs : List Members) → Stand bytes i gs → Agrees (HasFlaw bytes) (flaws_from (λ g. flaws_of_part bytes (Group g)) i gs) (groups_meant d gs)
groups_follow bytes i d [] stand = tt
groups_follow bytes i d (g ∷ gs) stand =
    then_agrees (HasFlaw bytes) (flaws_of_part bytes (Group i)) (flaws_from (λ n. flaws_of_part bytes (Group n)) (i + 1) gs) (group_meant d g) (λ more. groups_meant more gs)
    (subst (λ ms. Agrees (HasFlaw bytes) (flaws_of_part bytes (Group i)) (group_meant d ms)) here (group_agrees bytes i d))
    (λ more is. groups_follow bytes (i + 1) more gs (λ j y e. ap (λ n. part_in bytes (Group n)) (next j) ∙ stand (suc j) y e))
  where
    here : part_in bytes (Group i) ≡ g
    here = let zero_more : i ≡ i + 0 = omega arith in ap (λ n. part_in bytes (Group n)) zero_more ∙ stand 0 g refl

    next : (j : ℕ) → i + 1 + j ≡ i + suc j
    next j = omega arith

-- what was read of a group
abbrev behind_tables : DescribedMeant → Members → List Members → Reading DescribedMeant
behind_tables d ms tables = list_at as_table at_top.0 (get_member (codes "stream") ms) >>= (λ streams. Ok (with_group d tables streams))

group_is : (d e : DescribedMeant) (ms : Members) → group_meant d ms ≡ Ok e → with_group d (entries_at ms Tables) (entries_at ms Streams) ≡ e
group_is d e ms h =
    let (u, known, more) = bind_ok (known_keys group_keys at_top.0 ms) (λ _. list_at as_table at_top.0 (get_member (codes "table") ms) >>= behind_tables d ms) e h in
    let (tables, ts, next) = bind_ok (list_at as_table at_top.0 (get_member (codes "table") ms)) (behind_tables d ms) e more in
    let (streams, ss, last) = bind_ok (list_at as_table at_top.0 (get_member (codes "stream") ms)) (λ streams. Ok (with_group d tables streams)) e next in
    let same : with_group d tables streams ≡ e = cc in
    ap (λ l. with_group d l (entries_at ms Streams)) (array_seen (value_in ms Tables) tables ts) ∙ (ap (with_group d tables) (array_seen (value_in ms Streams) streams ss) ∙ same)

-- what was read of groups, behind what is described
record IsGathered (d : DescribedMeant) (gs : List Members) (e : DescribedMeant) : Type 0 where
  pub tables : e.tables ≡ d.tables ++ flat_map (λ g. entries_at g Tables) gs
  pub streams : e.streams ≡ d.streams ++ flat_map (λ g. entries_at g Streams) gs
  pub groups : e.groups ≡ d.groups ++ spans_from (length d.tables) (length d.streams) gs

one_gathered : (d e : DescribedMeant) (g : Members) (gs : List Members) → IsGathered (with_group d (entries_at g Tables) (entries_at g Streams)) gs e → IsGathered d (g ∷ gs) e
one_gathered d e g gs h =
    let tables = entries_at g Tables in
    let streams = entries_at g Streams in
    let span = group_from (length d.tables) (length tables) (length d.streams) (length streams) in
    let rest : spans_from (length (d.tables ++ tables)) (length (d.streams ++ streams)) gs ≡ spans_from (length d.tables + length tables) (length d.streams + length streams) gs =
    ap (λ n. spans_from n (length (d.streams ++ streams)) gs) (length-append d.tables tables) ∙ ap (λ n. spans_from (length d.tables + length tables) n gs) (length-append d.streams streams) in
    record {
      tables = h.tables ∙ append_assoc d.tables tables (flat_map (λ x. entries_at x Tables) gs);
      streams = h.streams ∙ append_assoc d.streams streams (flat_map (λ x. entries_at x Streams) gs);
      groups = h.groups ∙ (ap (λ l. (d.groups ++ span ∷ []) ++ l) rest ∙ append_assoc d.groups (span ∷ []) (spans_from (length d.tables + length tables) (length d.streams + length streams) gs));
    }

groups_are : (d e : DescribedMeant) (gs : List Members) → groups_meant d gs ≡ Ok e → IsGathered d gs e
groups_are d e [] h = let same : d ≡ e = cc in subst (IsGathered d []) same (record { tables = sym (append-nil d.tables); streams = sym (append-nil d.streams); groups = sym (append-nil d.groups) })
groups_are d e (g ∷ gs) h =
    let (m, one, more) = bind_ok (group_meant d g) (λ m. groups_meant m gs) e h in
    one_gathered d e g gs (subst (λ x. IsGathered x gs e) (sym (group_is d m g one)) (groups_are m e gs more))

-- how many there are in all
few_agree : (bytes : List ℕ) (d : DescribedMeant) → d.tables ≡ tables_in bytes → d.streams ≡ streams_in bytes → Agrees (HasFlaw bytes) (ManyTables ∷ ManyStreams ∷ []) (are_few d)
few_agree bytes d tables streams =
    let t = ap (λ (l : List Members). length l) tables in
    let s = ap (λ (l : List Members). length l) streams in
    then_agrees (HasFlaw bytes) (ManyTables ∷ []) (ManyStreams ∷ []) (passes (nat_le (length d.tables) most_tables) refused.OutOfRange at_top.0) (λ _. passes (nat_le (length d.streams) most_streams) refused.OutOfRange at_top.0)
    (test_agrees (HasFlaw bytes) ManyTables (nat_le (length d.tables) most_tables) (λ e h. omega (arith, h, t, leb-true (length d.tables) most_tables e)) (λ e. let more = leb-false (length d.tables) most_tables e in omega (arith, more, t)))
    (λ u is. test_agrees (HasFlaw bytes) ManyStreams (nat_le (length d.streams) most_streams) (λ e h. omega (arith, h, s, leb-true (length d.streams) most_streams e)) (λ e. let more = leb-false (length d.streams) most_streams e in omega (arith, more, s)))

-- the table of the list
listing_agrees : (bytes : List ℕ) → Agrees (HasFlaw bytes) (flaws_at Top Listing) (where_given (table_that at_top.0) (value_at bytes Top Listing))
listing_agrees bytes = given_agrees bytes Top Listing (table_that at_top.0) refl (λ d e. go d e (as_table d) refl)
  where
    go : (d : Data) → value_at bytes Top Listing ≡ Some d → (o : Option Members) → as_table d ≡ o → Agrees (HasFlaw bytes) (flaws_at Top Listing) (present o refused.WrongType at_top.0)
    go d e None is = mistyped bytes Top Listing d e (λ t. let (ms, some) = t in let no : None ≡ Some ms = sym is ∙ some in cc)
    go d e (Some ms) is = within bytes Top Listing d e (ms, is) tt

listing_is : (v : Option Data) (o : Option Members) → where_given (table_that at_top.0) v ≡ Ok o → option_and_then as_table v ≡ o
listing_is None o e = (cc)
listing_is (Some d) o e = go (as_table d) e
  where
    go : (p : Option Members) → (present p refused.WrongType at_top.0 >>= (λ x. Ok (Some x))) ≡ Ok o → p ≡ o
    go None e = (cc)
    go (Some ms) e = (cc)

-- what stands below the top is what stands there
pub record IsBelow (bytes : List ℕ) (b : BelowMeant) : Type 0 where
  pub tables : b.described.tables ≡ tables_in bytes
  pub streams : b.described.streams ≡ streams_in bytes
  pub groups : b.described.groups ≡ spans_in bytes
  pub list : list_in bytes ≡ option_to_list b.list

module _ (bytes : List ℕ) where
  abbrev ms : Members
  ms = document_in bytes

  abbrev below_with : DescribedMeant → Option Members → BelowMeant
  below_with described list = record { described = described; list = list }

  -- the arrays of the top, as they are read one after another
  abbrev behind_groups : Option Members → DescribedMeant → Reading BelowMeant
  behind_groups list described = are_few described >>= (λ _. Ok (below_with described list))

  abbrev behind_list : List Members → List Members → List Members → Option Members → Reading BelowMeant
  behind_list tables streams groups list = groups_meant (of_top tables streams) groups >>= behind_groups list

  abbrev behind_group : List Members → List Members → List Members → Reading BelowMeant
  behind_group tables streams groups = where_given (table_that at_top.0) (value_in ms Listing) >>= behind_list tables streams groups

  abbrev behind_stream : List Members → List Members → Reading BelowMeant
  behind_stream tables streams = tables_at most_groups (value_in ms Groups) >>= behind_group tables streams

  abbrev behind_table : List Members → Reading BelowMeant
  behind_table tables = tables_at most_streams (value_in ms Streams) >>= behind_stream tables

  gathered : (tables streams groups : List Members) (d : DescribedMeant) → entries_at ms Tables ≡ tables → entries_at ms Streams ≡ streams → groups_in bytes ≡ groups → groups_meant (of_top tables streams) groups ≡ Ok d
      → (d.tables ≡ tables_in bytes) × (d.streams ≡ streams_in bytes) × (d.groups ≡ spans_in bytes)
  gathered tables streams groups d t s g e =
      let own : groups_meant (of_top (entries_at ms Tables) (entries_at ms Streams)) (groups_in bytes) ≡ Ok d =
      ap (λ l. groups_meant (of_top l (entries_at ms Streams)) (groups_in bytes)) t ∙ (ap (λ l. groups_meant (of_top tables l) (groups_in bytes)) s ∙ (ap (groups_meant (of_top tables streams)) g ∙ e)) in
      let all = groups_are (of_top (entries_at ms Tables) (entries_at ms Streams)) d (groups_in bytes) own in (all.tables, all.streams, all.groups)

  groups_stand : Stand bytes 0 (groups_in bytes)
  groups_stand j x e = let same : 0 + j ≡ j = omega arith in ap (λ n. part_in bytes (Group n)) same ∙ ap (λ o. unwrap_or o no_members) e

  pub below_agrees : Agrees (HasFlaw bytes) (flaws_of_keys bytes Top (Tables ∷ Streams ∷ Groups ∷ Listing ∷ []) ++ flaws_of_groups bytes) (below_meant ms)
  below_agrees =
      then_agrees (HasFlaw bytes) (flaws_at Top Tables) (flaws_at Top Streams ++ (flaws_at Top Groups ++ (flaws_at Top Listing ++ flaws_of_groups bytes))) (tables_at most_tables (value_in ms Tables)) behind_table
      (tables_agree bytes Tables most_tables refl refl (λ d. refl) (λ d. refl)) (λ tables t.
      then_agrees (HasFlaw bytes) (flaws_at Top Streams) (flaws_at Top Groups ++ (flaws_at Top Listing ++ flaws_of_groups bytes)) (tables_at most_streams (value_in ms Streams)) (behind_stream tables)
      (tables_agree bytes Streams most_streams refl refl (λ d. refl) (λ d. refl)) (λ streams s.
      then_agrees (HasFlaw bytes) (flaws_at Top Groups) (flaws_at Top Listing ++ flaws_of_groups bytes) (tables_at most_groups (value_in ms Groups)) (behind_group tables streams)
      (tables_agree bytes Groups most_groups refl refl (λ d. refl) (λ d. refl)) (λ groups g.
      then_agrees (HasFlaw bytes) (flaws_at Top Listing) (flaws_of_groups bytes) (where_given (table_that at_top.0) (value_in ms Listing)) (behind_list tables streams groups) (listing_agrees bytes) (λ list l.
      let there = tables_seen most_groups (value_in ms Groups) groups g in
      then_agrees (HasFlaw bytes) (flaws_from (λ g. flaws_of_part bytes (Group g)) 0 (groups_in bytes)) (ManyTables ∷ ManyStreams ∷ []) (groups_meant (of_top tables streams) groups) (behind_groups list)
      (subst (λ gs. Agrees (HasFlaw bytes) (flaws_from (λ g. flaws_of_part bytes (Group g)) 0 (groups_in bytes)) (groups_meant (of_top tables streams) gs)) there (groups_follow bytes 0 (of_top tables streams) (groups_in bytes) groups_stand))
      (λ described d.
      let (a, b, c) = gathered tables streams groups described (tables_seen most_tables (value_in ms Tables) tables t) (tables_seen most_streams (value_in ms Streams) streams s) there d in
      made_agrees (HasFlaw bytes) (ManyTables ∷ ManyStreams ∷ []) (are_few described) (λ _. Ok (below_with described list)) (few_agree bytes described a b) (λ u few. tt))))))

  below_same : (described : DescribedMeant) (list : Option Members) (b : BelowMeant) → ◌≡◌ {A = Reading BelowMeant} (Ok (below_with described list)) (Ok b) → below_with described list ≡ b
  below_same described list b e = cc

  pub below_is : (b : BelowMeant) → below_meant ms ≡ Ok b → IsBelow bytes b
  below_is b e =
      let (tables, t, e1) = bind_ok (tables_at most_tables (value_in ms Tables)) behind_table b e in
      let (streams, s, e2) = bind_ok (tables_at most_streams (value_in ms Streams)) (behind_stream tables) b e1 in
      let (groups, g, e3) = bind_ok (tables_at most_groups (value_in ms Groups)) (behind_group tables streams) b e2 in
      let (list, l, e4) = bind_ok (where_given (table_that at_top.0) (value_in ms Listing)) (behind_list tables streams groups) b e3 in
      let (described, d, e5) = bind_ok (groups_meant (of_top tables streams) groups) (behind_groups list) b e4 in
      let (u, few, e6) = bind_ok (are_few described) (λ _. Ok (below_with described list)) b e5 in
      let (a, c, f) = gathered tables streams groups described (tables_seen most_tables (value_in ms Tables) tables t) (tables_seen most_streams (value_in ms Streams) streams s) (tables_seen most_groups (value_in ms Groups) groups g) d in
      subst (IsBelow bytes) (below_same described list b e6) (record { tables = a; streams = c; groups = f; list = ap option_to_list (listing_is (value_in ms Listing) list l) })
