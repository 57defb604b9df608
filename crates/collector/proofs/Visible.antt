-- The tables that a stream may look up were read by the time it is given.
use Rattle.std.proofs.Common.{◌≡◌, ◌⊎◌, ℕ, zero, suc, ◌+◌, ◌-◌, ◌<◌, ◌≤◌, Bool, true, false, nat_lt, nat_le, ◌&&◌, if◌then◌else◌, List, [], ◌∷◌, ◌++◌, map, take, drop, length, length-append, length-drop, length-take-le, Option, Some, None, refl, sym, ◌∙◌, ap, ⊎_elim, arith, slice_get, leb-true}
use Rattle.std.specs.List.{AllByRecursion}
use Rattle.std.proofs.Math.Path.{fun_ext}
use Rattle.std.proofs.lemmas.Bool.{cases_lt}
use Rattle.std.proofs.lemmas.List.{length-map}
use Rattle.chunk_core.specs.declared.code.Span.{Span}
use Rattle.csv_pipes.specs.Dictionaries.{Dictionary, values_of}
use Rattle.device_port.specs.Device.{DeviceTold}
use Rattle.device_port.specs.Depot.{DepotTold, Files}
use Rattle.outer_stream.specs.Parts.{FollowParts}
use Rattle.outer_stream.specs.declared.next.OuterPart.{OuterPart}
use Rattle.outer_tables.specs.Outcomes.{AreOf, ComeOut, values_in}
use Rattle.outer_tables.specs.Outcomes.ComeOut.{closed, cut, none, read, refused, unmade, unread}
use Rattle.outer_tables.specs.declared.not_read.NotRead.{NotRead}
use Rattle.outer_tables.proofs.Reading.{of_values}
use Rattle.pipeline_desc.specs.Groups.{FollowOn}
use Rattle.pipeline_desc.specs.Meant.{PlanMeant, top_streams, top_tables}
use Rattle.pipeline_desc.specs.Sound.{IsSoundPlan}
use Rattle.pipeline_desc.specs.declared.group.GroupSpec.{GroupSpec}
use Rattle.pipeline_desc.specs.declared.table.TableSpec.{TableSpec}
use Rattle.plan_work.specs.Seen.{visible, visible_in}
use Rattle.pull_nodes.specs.Placed.{is_within}
use Rattle.dealt_streams.specs.Moves.{AreMoved, Move, Tried, contents_in, tried_of}
use Rattle.dealt_streams.specs.Moves.Move.{Dealt, Gave, Opened, Read}
use Rattle.dealt_streams.specs.Standing.{ArePartsTried, group_part, plan_parts, streams_before, top_part}
use Rattle.dealt_streams.specs.Standing.ArePartsTried.{none as none_tried, read as part_read, unread as part_unread}
use Rattle.collector.proofs.PlanParts.{before, before_next, plan_follow, same_before}
use Rattle.collector.proofs.Standing.{none_some}

-- tables that all were read have a content each
come_all : {V : Type 0} {told : V → DeviceTold} {files : Option Files} {n : ℕ} {paths : List (List ℕ)} {ds : List V} {back : List DeviceTold} {bss : List (List ℕ)} {o : Option NotRead} → ComeOut told files n paths ds back bss o → o ≡ None → length bss ≡ length paths
come_all (none) e = refl
come_all (read d gives ok rest) e = ap suc (come_all rest e)
come_all (closed) e = none_some _ (sym e)
come_all (unread d was) e = none_some _ (sym e)
come_all (refused d bytes f gives bad) e = none_some _ (sym e)
come_all (unmade) e = none_some _ (sym e)
come_all (cut d was) e = none_some _ (sym e)

-- of tables that were tried, where all were read
abbrev pub AreWhole : {V : Type 0} → List (Tried V) → Type 0
AreWhole xs = AllByRecursion (λ x. x.lack ≡ None → length x.contents ≡ length x.paths) xs

pub moved_whole : {V F : Type 0} (told : V → DeviceTold) (p : PlanMeant) (before : List (Move V F)) (old : DepotTold) (moves : List (Move V F)) (new : DepotTold) → AreMoved told p before old moves new → AreWhole (tried_of moves)
moved_whole told p before old [] new h = tt
moved_whole told p before old (Read x ∷ ms) new h = (λ e. come_all h.1.out e, moved_whole told p (before ++ Read x ∷ []) h.0 ms new h.2)
moved_whole told p before old (Opened r ∷ ms) new h = moved_whole told p (before ++ Opened r ∷ []) h.0 ms new h.2
moved_whole told p before old (Gave line ∷ ms) new h = moved_whole told p (before ++ Gave line ∷ []) h.0 ms new h.2
moved_whole told p before old (Dealt x ∷ ms) new h = moved_whole told p (before ++ Dealt x ∷ []) h.0 ms new h.2

pub follow_below : (t s : ℕ) (ps : List OuterPart) (T n : ℕ) → FollowParts t s ps T n → t ≤ T
follow_below t s [] T n f = let e = f.0 in omega (arith, e)
follow_below t s (p ∷ ps) T n f = let l = f.1 in let h = follow_below p.tables.to p.behind ps T n f.3 in omega (arith, l, h)

pub path_count : (tables : List TableSpec) (from to : ℕ) → from ≤ to → to ≤ length tables → length (map (λ (t : TableSpec). t.path) (take (to - from) (drop from tables))) ≡ to - from
path_count tables from to low high =
    let d = length-drop from tables in
    length-map (take (to - from) (drop from tables)) (λ (t : TableSpec). t.path) ∙ length-take-le (to - from) (drop from tables) (omega (arith, d, low, high))

module _ {V : Type 0} (tables : List TableSpec) (n : ℕ) where
  -- the tables of each part that was tried are among those whose contents there are
  read_through : (t s : ℕ) (ps : List OuterPart) → FollowParts t s ps (length tables) n → {xs : List (Tried V)} {o : Option NotRead} → ArePartsTried tables ps xs o → o ≡ None → AreWhole xs → (i : ℕ) (part : OuterPart) → slice_get ps i ≡ Some part → i < length xs → part.tables.to ≤ t + length (contents_in xs)
  read_through t s ps f (none_tried) e whole i part is l = absurd (omega (arith, l))
  read_through t s (p ∷ ps) f (part_unread q x w own lack) e whole i part is l = none_some _ (sym e)
  read_through t s (p ∷ ps) f (part_read {xs = xs} q x own lack rest) e whole i part is l = by_place (λ j part z m. read_through p.tables.to p.behind ps f.3 rest e whole.1 j part z m) i part is l
    where
      count : t + length x.contents ≡ p.tables.to
      count =
          let from = f.0 in
          let low = f.1 in
          let high = follow_below p.tables.to p.behind ps (length tables) n f.3 in
          let paths = ap (λ (xs : List (List ℕ)). length xs) own.paths ∙ path_count tables p.tables.from p.tables.to (omega (arith, from, low)) high in
          let all = whole.0 lack in
          omega (arith, from, low, paths, all)

      more : length (contents_in (x ∷ xs)) ≡ length x.contents + length (contents_in xs)
      more = length-append x.contents (contents_in xs)

      by_place : ((j : ℕ) (part : OuterPart) → slice_get ps j ≡ Some part → j < length xs → part.tables.to ≤ p.tables.to + length (contents_in xs)) → (j : ℕ) (part : OuterPart) → slice_get (p ∷ ps) j ≡ Some part → j < length (x ∷ xs) → part.tables.to ≤ t + length (contents_in (x ∷ xs))
      by_place deeper zero part z m = let same : p ≡ part = cc in let to = ap (λ (y : OuterPart). y.tables.to) same in omega (arith, to, count, more)
      by_place deeper (suc j) part z m = let r = deeper j part z (omega (arith, m)) in omega (arith, r, count, more)

-- the streams before a group end where its own begin
groups_from : (t s : ℕ) (gs : List GroupSpec) (T n : ℕ) → FollowOn t s gs T n → (d : ℕ) (g : GroupSpec) → slice_get gs d ≡ Some g → before s (map group_part gs) d ≡ g.streams.from
groups_from t s [] T n f d g is = cc
groups_from t s (h ∷ gs) T n f zero g is = let same : h ≡ g = cc in sym f.1 ∙ ap (λ (y : GroupSpec). y.streams.from) same
groups_from t s (h ∷ gs) T n f (suc d) g is = before_next s (group_part h) (map group_part gs) d (group_there gs d g is) ∙ groups_from h.tables.to h.streams.to gs T n f.4 d g is
  where
    group_there : (gs : List GroupSpec) (d : ℕ) (g : GroupSpec) → slice_get gs d ≡ Some g → d < length (map group_part gs)
    group_there [] d g e = cc
    group_there (y ∷ ys) zero g e = omega arith
    group_there (y ∷ ys) (suc d) g e = let l = group_there ys d g e in omega (arith, l)

part_there : (gs : List GroupSpec) (d : ℕ) (g : GroupSpec) → slice_get gs d ≡ Some g → (slice_get (map group_part gs) d ≡ Some (group_part g)) × (d < length (map group_part gs))
part_there [] d g e = cc
part_there (y ∷ ys) zero g e = let same : y ≡ g = cc in (ap (λ z. Some (group_part z)) same, omega arith)
part_there (y ∷ ys) (suc d) g e = let r = part_there ys d g e in let l = r.1 in (r.0, omega (arith, l))

low_within : (s : Span) (k : ℕ) → is_within s k ≡ true → s.from ≤ k
low_within s k e = by_test (nat_le s.from k) refl
  where
    by_test : (b : Bool) → nat_le s.from k ≡ b → s.from ≤ k
    by_test true q = leb-true s.from k q
    by_test false q = let z : false ≡ true = sym (ap (λ b. b && nat_lt k s.to) q) ∙ e in cc

visible_within : (top N k : ℕ) (gs : List GroupSpec) → ((d : ℕ) (g : GroupSpec) → slice_get gs d ≡ Some g → g.streams.from ≤ k → g.tables.to ≤ N) → top ≤ N → visible_in top gs k ≤ N
visible_within top N k [] own few = few
visible_within top N k (g ∷ gs) own few = by_test (visible_within top N k gs (λ d h is low. own (suc d) h is low) few) (is_within g.streams k) refl
  where
    by_test : visible_in top gs k ≤ N → (b : Bool) → is_within g.streams k ≡ b → (if b then g.tables.to else visible_in top gs k) ≤ N
    by_test rest true e = own 0 g refl (low_within g.streams k e)
    by_test rest false e = rest

-- so many parts were begun, and streams were given of these alone
pub visible_read : {V : Type 0} (p : PlanMeant) → IsSoundPlan p → (xs : List (Tried V)) → ArePartsTried p.tables (plan_parts p) xs None → AreWhole xs → (leased : ℕ) → ((i : ℕ) → length xs ≤ i → i < length (plan_parts p) → leased ≤ streams_before (plan_parts p) i) → (k : ℕ) → k < leased → visible p k ≤ length (contents_in xs)
visible_read p sound xs tried whole leased ahead k less = visible_within (top_tables (length p.tables) p.groups) (length (contents_in xs)) k p.groups of_group of_top
  where
    through : (i : ℕ) (part : OuterPart) → slice_get (plan_parts p) i ≡ Some part → i < length xs → part.tables.to ≤ 0 + length (contents_in xs)
    through i part is l = read_through p.tables (length p.streams) 0 0 (plan_parts p) (plan_follow p sound) tried refl whole i part is l

    of_top : top_tables (length p.tables) p.groups ≤ length (contents_in xs)
    of_top = ⊎_elim (λ l. let r = through 0 (top_part p) refl l in omega (arith, r)) (λ h. let a = ahead 0 h (omega arith) in absurd (omega (arith, a, less))) (cases_lt 0 (length xs))

    of_group : (d : ℕ) (g : GroupSpec) → slice_get p.groups d ≡ Some g → g.streams.from ≤ k → g.tables.to ≤ length (contents_in xs)
    of_group d g is low =
        let t = part_there p.groups d g is in
        let there = t.1 in
        let from : streams_before (plan_parts p) (suc d) ≡ g.streams.from = same_before (plan_parts p) (suc d) ∙ (before_next 0 (top_part p) (map group_part p.groups) d there
        ∙ groups_from (top_tables (length p.tables) p.groups) (top_streams (length p.streams) p.groups) p.groups (length p.tables) (length p.streams) sound.follow d g is) in
        ⊎_elim (λ l. let r = through (suc d) (group_part g) t.0 l in omega (arith, r)) (λ h. let a = ahead (suc d) h (omega (arith, there)) in absurd (omega (arith, a, less, low, from))) (cases_lt (suc d) (length xs))

take_of : (n : ℕ) (ds : List Dictionary) (bss : List (List ℕ)) → AreOf ds bss → AreOf (take n ds) (take n bss)
take_of zero ds bss h = tt
take_of (suc n) [] [] h = tt
take_of (suc n) [] (b ∷ bss) h = absurd h
take_of (suc n) (d ∷ ds) [] h = absurd h
take_of (suc n) (d ∷ ds) (b ∷ bss) h = (h.0, take_of n ds bss h.1)

-- the first dictionaries have the values of the first contents
pub values_first : (n : ℕ) (ds : List Dictionary) (bss : List (List ℕ)) → AreOf ds bss → values_of (take n ds) ≡ values_in (take n bss)
values_first n ds bss h = fun_ext (λ t. fun_ext (λ key. of_values (take n ds) (take n bss) t key (take_of n ds bss h)))
