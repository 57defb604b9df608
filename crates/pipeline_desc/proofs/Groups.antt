-- What holds of the groups of a description.
use Rattle.std.proofs.Common.{◌≡◌, ℕ, ◌+◌, ◌≤◌, ◌<◌, Bool, true, false, List, [], ◌∷◌, ◌++◌, length, length-append, drop, get_or, Ok, Err, refl, ap, ◌∙◌, sym, subst, add-one, arith, append_assoc}
use Rattle.std.proofs.Math.Seq.{drop-cons}
use Rattle.std.specs.Borrow.{Bor}
use Rattle.std.specs.BTreeMap.{BTreeMap}
use Rattle.std.specs.Prelude.{String, if◌then◌else◌}
use Rattle.std.specs.declared.alloc.Global.{Global}
use Rattle.std.proofs.lemmas.List.{append-nil, drop-map, drop_all, length-map, map-append}
use Rattle.chunk_core.specs.declared.code.Span.{Span}
use Rattle.pull_nodes.specs.Placed.{is_within}
use Rattle.toml.specs.Data.{Members}
use Rattle.toml.specs.View.{table_view}
use Rattle.toml.specs.declared.value.Value.{Value}
use Rattle.pipeline_desc.specs.Groups.{DescribedMeant, FollowOn, Follows, HaveTables, at_top, group_from, members_of, with_group}
use Rattle.pipeline_desc.specs.Meant.{own_tables, top_streams, top_tables}
use Rattle.pipeline_desc.specs.Plans.{group_meant, groups_meant}
use Rattle.pipeline_desc.specs.Reading.{Reading, ◌>>=◌, RefusesAs}
use Rattle.pipeline_desc.specs.declared.group.GroupSpec.{GroupSpec}
use Rattle.pipeline_desc.specs.declared.refusal.Refused.{Refused}
use Rattle.pipeline_desc.specs.declared.refusal.Refused.TheVariants as refused

-- one group more behind those that follow one another
follow_more : (table stream tables streams more others : ℕ) (groups : List GroupSpec) → FollowOn table stream groups tables streams
    → FollowOn table stream (groups ++ group_from tables more streams others ∷ []) (tables + more) (streams + others)
follow_more table stream tables streams more others [] h = (sym h.0, sym h.1, omega (arith, h.0), omega (arith, h.1), (refl, refl))
follow_more table stream tables streams more others (g ∷ groups) h =
    (h.0, h.1, h.2, h.3, follow_more g.tables.to g.streams.to tables streams more others groups h.4)

-- the first numbers stay, and those of the first group are where the top ends
top_stays : (count more next others size : ℕ) (groups : List GroupSpec) → top_tables (count + more) (groups ++ group_from count next others size ∷ []) ≡ top_tables count groups
top_stays count more next others size [] = refl
top_stays count more next others size (g ∷ groups) = refl

streams_stay : (count more next others size : ℕ) (groups : List GroupSpec) → top_streams (count + more) (groups ++ group_from others size count next ∷ []) ≡ top_streams count groups
streams_stay count more next others size [] = refl
streams_stay count more next others size (g ∷ groups) = refl

pub group_follows : (d : DescribedMeant) (tables streams : List Members) → Follows d → Follows (with_group d tables streams)
group_follows d tables streams h =
    let t = length d.tables in
    let s = length d.streams in
    let more = length tables in
    let others = length streams in
    let groups = d.groups ++ group_from t more s others ∷ [] in
    let all = follow_more (top_tables t d.groups) (top_streams s d.groups) t s more others d.groups h in
    subst (λ n. FollowOn (top_tables n groups) (top_streams (length (d.streams ++ streams)) groups) groups n (length (d.streams ++ streams))) (sym (length-append d.tables tables))
    (subst (λ n. FollowOn (top_tables (t + more) groups) (top_streams n groups) groups (t + more) n) (sym (length-append d.streams streams))
    (subst (λ n. FollowOn n (top_streams (s + others) groups) groups (t + more) (s + others)) (sym (top_stays t more more s others d.groups))
    (subst (λ n. FollowOn (top_tables t d.groups) n groups (t + more) (s + others)) (sym (streams_stay s others others t more d.groups)) all)))

pub top_follows : (tables streams : List Members) → Follows (at_top tables streams)
top_follows tables streams = (refl, refl)

-- what is read of a group
record IsRead (d : DescribedMeant) (e : DescribedMeant) : Type 0 where
  tables : List Members
  streams : List Members
  is : with_group d tables streams ≡ e

one_read : {A B : Type 0} (a : Reading (Unit {0})) (b : Reading A) (c : Reading B) (made : A → B → DescribedMeant) (e : DescribedMeant) → (a >>= (λ _. b >>= (λ x. c >>= (λ y. Ok (made x y))))) ≡ Ok e
    → (x : A) × (y : B) × (made x y ≡ e)
one_read (Ok u) (Ok x) (Ok y) made e h = (x, y, (let same : Ok (made x y) ≡ Ok e = h in cc))
one_read (Err r) b c made e h = (cc)
one_read (Ok u) (Err r) c made e h = (cc)
one_read (Ok u) (Ok x) (Err r) made e h = (cc)

group_read : (d e : DescribedMeant) (ms : Members) → group_meant d ms ≡ Ok e → IsRead d e
group_read d e ms h = let (tables, streams, is) = one_read _ _ _ (with_group d) e h in record { tables = tables; streams = streams; is = is }

then_read : {A B : Type 0} (a : Reading A) (f : A → Reading B) (z : B) → (a >>= f) ≡ Ok z → (x : A) × (a ≡ Ok x) × (f x ≡ Ok z)
then_read (Ok x) f z h = (x, refl, h)
then_read (Err r) f z h = (cc)

-- the groups of a description follow those of the top, and there are as many as are described
pub groups_follow : (d e : DescribedMeant) (gs : List Members) → groups_meant d gs ≡ Ok e → Follows d → Follows e
groups_follow d e [] h f = let same : d ≡ e = cc in subst Follows same f
groups_follow d e (ms ∷ gs) h f =
    let (m, one, more) = then_read (group_meant d ms) (λ x. groups_meant x gs) e h in
    let read = group_read d m ms one in
    groups_follow m e gs more (subst Follows read.is (group_follows d read.tables read.streams f))

pub groups_count : (d e : DescribedMeant) (gs : List Members) → groups_meant d gs ≡ Ok e → length e.groups ≡ length d.groups + length gs
groups_count d e [] h = let same : d ≡ e = cc in ap (λ (x : DescribedMeant). length x.groups) (sym same) ∙ omega arith
groups_count d e (ms ∷ gs) h =
    let (m, one, more) = then_read (group_meant d ms) (λ x. groups_meant x gs) e h in
    let read = group_read d m ms one in
    let grown : length m.groups ≡ length d.groups + 1 = ap (λ (x : DescribedMeant). length x.groups) (sym read.is) ∙ (length-append d.groups _ ∙ omega arith) in
    omega (arith, groups_count m e gs more, grown)

-- groups that follow one another are within what they follow to
follow_le : (table stream tables streams : ℕ) (groups : List GroupSpec) → FollowOn table stream groups tables streams → table ≤ tables
follow_le table stream tables streams [] h = omega (arith, h.0)
follow_le table stream tables streams (g ∷ groups) h = omega (arith, h.2, follow_le g.tables.to g.streams.to tables streams groups h.4)

abbrev AreIn : ℕ → Span → Type 0
AreIn tables s = (s.from ≤ s.to) × (s.to ≤ tables)

own_if : (b : Bool) (tables : ℕ) (x y : Span) → AreIn tables x → AreIn tables y → AreIn tables (if b then x else y)
own_if true tables x y h k = h
own_if false tables x y h k = k

own_in : (table stream tables streams : ℕ) (groups : List GroupSpec) → FollowOn table stream groups tables streams → (k : ℕ) → AreIn tables (own_tables groups k)
own_in table stream tables streams [] h k = (omega arith, omega arith)
own_in table stream tables streams (g ∷ groups) h k =
    own_if (is_within g.streams k) tables g.tables (own_tables groups k)
    (omega (arith, h.0, h.2), follow_le g.tables.to g.streams.to tables streams groups h.4)
    (own_in g.tables.to g.streams.to tables streams groups h.4 k)

pub have_tables : (table stream tables streams : ℕ) (groups : List GroupSpec) → table ≡ top_tables tables groups → FollowOn table stream groups tables streams → HaveTables tables groups
have_tables table stream tables streams groups e h = record {
  top = omega (arith, e, follow_le table stream tables streams groups h);
  own = λ k. (own_in table stream tables streams groups h k).0;
  there = λ k. (own_in table stream tables streams groups h k).1;
}

-- the tables of a document, one after another
module _ (ts : List (Bor (BTreeMap (String Global) Value))) where
  pub members_count : length (members_of ts) ≡ length ts
  members_count = length-map ts (λ t. table_view t.now)

  -- the one at a place stands before those behind it
  pub members_at : (i : ℕ) (t : Bor (BTreeMap (String Global) Value)) → i < length ts → t ≡ get_or ts i t → drop i (members_of ts) ≡ table_view t.now ∷ drop (i + 1) (members_of ts)
  members_at i t within at =
      let here : drop i ts ≡ t ∷ drop (i + 1) ts = rw (add-one, drop-cons ts i t) (rw (← at) refl) in
      drop-map (λ (x : Bor (BTreeMap (String Global) Value)). table_view x.now) i ts
      ∙ (ap members_of here ∙ ap (λ l. table_view t.now ∷ l) (sym (drop-map (λ (x : Bor (BTreeMap (String Global) Value)). table_view x.now) (i + 1) ts)))

  -- one more
  pub members_more : (t : Bor (BTreeMap (String Global) Value)) (i : ℕ) (seen whole : List Members) → members_of ts ++ drop i seen ≡ whole → drop i seen ≡ table_view t.now ∷ drop (i + 1) seen → members_of (ts ++ t ∷ []) ++ drop (i + 1) seen ≡ whole
  members_more t i seen whole so_far at =
      ap (λ l. l ++ drop (i + 1) seen) (map-append (λ (x : Bor (BTreeMap (String Global) Value)). table_view x.now) ts (t ∷ []))
      ∙ (append_assoc (members_of ts) (table_view t.now ∷ []) (drop (i + 1) seen) ∙ (ap (λ l. members_of ts ++ l) (sym at) ∙ so_far))

  -- and none behind the last
  pub members_end : (i : ℕ) (seen whole : List Members) → members_of ts ++ drop i seen ≡ whole → length seen ≤ i → whole ≡ members_of ts
  members_end i seen whole so_far past = sym so_far ∙ rw (drop_all i seen past, append-nil (members_of ts)) refl

-- what is read alike is alike
pub read_same : (d e : DescribedMeant) → ◌≡◌ {A = Reading DescribedMeant} (Ok d) (Ok e) → d ≡ e
read_same d e h = cc

-- as many are seen as there are
pub same_count : (xs ys : List (Bor (BTreeMap (String Global) Value))) (n : ℕ) → n ≡ length xs → xs ≡ ys → n ≡ length (members_of ys)
same_count xs ys n e same = e ∙ (ap (λ (ts : List (Bor (BTreeMap (String Global) Value))). length ts) same ∙ sym (members_count ys))

-- how the groups of a description are read one after another
module _ (d : DescribedMeant) (xs : List Members) (whole : Reading DescribedMeant) (i : ℕ) (so_far : whole ≡ groups_meant d (drop i xs)) where
  pub group_next : (x : Members) (e : DescribedMeant) → drop i xs ≡ x ∷ drop (i + 1) xs → group_meant d x ≡ Ok e → whole ≡ groups_meant e (drop (i + 1) xs)
  group_next x e at is = so_far ∙ (ap (groups_meant d) at ∙ ap (λ r. r >>= (λ m. groups_meant m (drop (i + 1) xs))) is)

  pub group_fails : (x : Members) (e : Refused) → drop i xs ≡ x ∷ drop (i + 1) xs → RefusesAs e (group_meant d x) → RefusesAs e whole
  group_fails x refused.Memory at h = tt
  group_fails x (refused.Desc e) at h = so_far ∙ (ap (groups_meant d) at ∙ ap (λ r. r >>= (λ m. groups_meant m (drop (i + 1) xs))) h)

  pub groups_end : length xs ≤ i → whole ≡ Ok d
  groups_end past = so_far ∙ ap (groups_meant d) (drop_all i xs past)
