-- The parts of a plan's outer stream, as the collector and as the rules have them.
use Rattle.std.proofs.Common.{◌≡◌, ℕ, zero, suc, ◌+◌, ◌-◌, ◌≤◌, List, [], ◌∷◌, map, length, take, drop, Option, Some, None, option_map, refl, sym, ◌∙◌, ap, subst, arith}
use Rattle.std.proofs.lemmas.List.{length-drop, length-map, length-take-le}
use Rattle.std.proofs.lemmas.List.Sums.{sum_by-append, sum_by-cons}
use Rattle.std.specs.List.{sum_by}
use Rattle.chunk_core.specs.Lists.{IsAmong}
use Rattle.chunk_core.specs.Lists.IsAmong.{here, there}
use Rattle.device_port.specs.Device.{Place, to_read}
use Rattle.outer_stream.specs.declared.next.OuterPart.{OuterPart}
use Rattle.outer_tables.specs.declared.not_read.NotRead.{NotRead}
use Rattle.pipeline_desc.specs.Groups.{FollowOn}
use Rattle.pipeline_desc.specs.Meant.{PlanMeant, top_streams, top_tables}
use Rattle.pipeline_desc.specs.Sound.{IsSoundPlan}
use Rattle.pipeline_desc.specs.declared.group.GroupSpec.{GroupSpec}
use Rattle.pipeline_desc.specs.declared.listing.ListSpec.{ListSpec}
use Rattle.pipeline_desc.specs.declared.table.TableSpec.{TableSpec}
use Rattle.plan_work.specs.Listed.{lister_of}
use Rattle.plan_work.specs.Plans.{opener_of, part_of_group}
use Rattle.run_rules.specs.Facts.{at}
use Rattle.run_rules.specs.Work.{Part, list_parts, top_of}
use Rattle.dealt_streams.specs.Moves.{Tried}
use Rattle.dealt_streams.specs.Standing.{ArePartsTried, IsOfPart, group_part, plan_parts}
use Rattle.dealt_streams.specs.Standing.ArePartsTried.{none, read, unread}
use Rattle.collected.proofs.MovedRows.{AreInOrder}

-- These parts have the tables from t on and the streams from s on, up to the T tables and S streams, each so many as is told.
abbrev pub AreParts : ℕ → ℕ → ℕ → ℕ → List OuterPart → List Part → Type 0
AreParts T S t s [] [] = (t ≡ T) × (s ≡ S)
AreParts T S t s (a ∷ os) (q ∷ qs) = (a.tables.from ≡ t) × (a.tables.to ≡ t + q.tables) × (a.behind ≡ s + q.streams) × AreParts T S (t + q.tables) (s + q.streams) os qs
AreParts T S t s _ _ = ⊥

pub parts_end : (T S t s : ℕ) (os : List OuterPart) (qs : List Part) → AreParts T S t s os qs → (t ≤ T) × (s ≤ S)
parts_end T S t s [] [] h = let a = h.0 in let b = h.1 in (omega (arith, a), omega (arith, b))
parts_end T S t s (a ∷ os) (q ∷ qs) h = let r = parts_end T S (t + q.tables) (s + q.streams) os qs h.3 in let a = r.0 in let b = r.1 in (omega (arith, a), omega (arith, b))
parts_end T S t s [] (q ∷ qs) h = absurd h
parts_end T S t s (a ∷ os) [] h = absurd h

-- Of a sound plan.

groups_so : (T S t s : ℕ) (groups : List GroupSpec) → FollowOn t s groups T S → AreParts T S t s (map group_part groups) (map part_of_group groups)
groups_so T S t s [] h = h
groups_so T S t s (g ∷ groups) h =
    let from = h.0 in
    let first = h.1 in
    let some = h.2 in
    let more = h.3 in
    let t_is : g.tables.to ≡ t + (g.tables.to - g.tables.from) = omega (arith, from, some) in
    let s_is : g.streams.to ≡ s + (g.streams.to - g.streams.from) = omega (arith, first, more) in (
      from,
      t_is,
      s_is,
      subst (λ k. AreParts T S k (s + (g.streams.to - g.streams.from)) (map group_part groups) (map part_of_group groups)) t_is (subst (λ k. AreParts T S g.tables.to k (map group_part groups) (map part_of_group groups)) s_is (groups_so T S g.tables.to g.streams.to groups h.4)),
    )

-- what the groups have beside the top
group_sums : (T S t s : ℕ) (groups : List GroupSpec) → FollowOn t s groups T S → (t + sum_by (λ (q : Part). q.tables) (map part_of_group groups) ≡ T) × (s + sum_by (λ (q : Part). q.streams) (map part_of_group groups) ≡ S)
group_sums T S t s [] h = let a = h.0 in let b = h.1 in (omega (arith, a), omega (arith, b))
group_sums T S t s (g ∷ groups) h =
    let r = group_sums T S g.tables.to g.streams.to groups h.4 in
    let a = sum_by-cons (λ (q : Part). q.tables) (part_of_group g) (map part_of_group groups) in
    let b = sum_by-cons (λ (q : Part). q.streams) (part_of_group g) (map part_of_group groups) in
    let from = h.0 in
    let first = h.1 in
    let some = h.2 in
    let more = h.3 in
    let x = r.0 in
    let y = r.1 in (omega (arith, a, from, some, x), omega (arith, b, first, more, y))

module _ (p : PlanMeant) (lines : List (List ℕ)) (limits : IsSoundPlan p) (n : ℕ) (n_is : n ≡ length p.streams + length lines) (without : p.list ≡ None → lines ≡ []) where
  -- how many tables and streams stand at the top
  abbrev pub top : Part
  top = top_of (opener_of p lines) n

  list_streams : sum_by (λ (q : Part). q.streams) (list_parts (option_map (lister_of p lines) p.list)) ≡ length lines
  list_streams = by_list p.list refl
    where
      by_list : (o : Option ListSpec) → p.list ≡ o → sum_by (λ (q : Part). q.streams) (list_parts (option_map (lister_of p lines) o)) ≡ length lines
      by_list None e = sym (ap (λ (l : List (List ℕ)). length l) (without e))
      by_list (Some l) e = sum_by-cons (λ (q : Part). q.streams) (record { tables = 1; streams = length lines }) [] ∙ (let z : length lines + 0 ≡ length lines = omega arith in z)

  top_is : (top.tables ≡ top_tables (length p.tables) p.groups) × (top.streams ≡ top_streams (length p.streams) p.groups)
  top_is =
      let g = group_sums (length p.tables) (length p.streams) (top_tables (length p.tables) p.groups) (top_streams (length p.streams) p.groups) p.groups limits.follow in
      let count = length-map p.tables (λ (t : TableSpec). to_read t.path) in
      let both = sum_by-append (λ (q : Part). q.streams) (map part_of_group p.groups) (list_parts (option_map (lister_of p lines) p.list)) in
      let x = g.0 in
      let y = g.1 in (omega (arith, x, count), omega (arith, y, both, list_streams, n_is))

  -- they are those of the plan's work, but for the list
  pub plan_so : AreParts (length p.tables) (length p.streams) 0 0 (plan_parts p) (top ∷ (opener_of p lines).groups)
  plan_so =
      let t = top_is.0 in
      let s = top_is.1 in
      let zt : 0 + top.tables ≡ top_tables (length p.tables) p.groups = omega (arith, t) in
      let zs : 0 + top.streams ≡ top_streams (length p.streams) p.groups = omega (arith, s) in (
        refl,
        sym zt,
        sym zs,
        subst (λ k. AreParts (length p.tables) (length p.streams) k (0 + top.streams) (map group_part p.groups) (map part_of_group p.groups)) (sym zt)
            (subst (λ k. AreParts (length p.tables) (length p.streams) (top_tables (length p.tables) p.groups) k (map group_part p.groups) (map part_of_group p.groups)) (sym zs)
            (groups_so (length p.tables) (length p.streams) (top_tables (length p.tables) p.groups) (top_streams (length p.streams) p.groups) p.groups limits.follow)),
      )

-- The tables of the parts that were tried.

at_take : {A : Type 0} (k : ℕ) (xs : List A) (i : ℕ) (x : A) → at (take k xs) i ≡ Some x → at xs i ≡ Some x
at_take zero xs i x e = cc
at_take (suc k) [] i x e = cc
at_take (suc k) (y ∷ xs) zero x e = e
at_take (suc k) (y ∷ xs) (suc i) x e = at_take k xs i x e

at_drop : {A : Type 0} (k : ℕ) (xs : List A) (i : ℕ) → at (drop k xs) i ≡ at xs (k + i)
at_drop zero xs i = let z : 0 + i ≡ i = omega arith in ap (at xs) (sym z)
at_drop (suc k) [] i = refl
at_drop (suc k) (x ∷ xs) i = let z : suc k + i ≡ suc (k + i) = omega arith in at_drop k xs i ∙ ap (at (x ∷ xs)) (sym z)

map_at : {A B : Type 0} (f : A → B) (xs : List A) (k : ℕ) (z : B) → at (map f xs) k ≡ Some z → (x : A) × (at xs k ≡ Some x) × (f x ≡ z)
map_at f [] k z e = cc
map_at f (y ∷ xs) zero z e = (y, refl, cc)
map_at f (y ∷ xs) (suc k) z e = map_at f xs k z e

module _ (tables : List TableSpec) {V : Type 0} where
  module _ (a : OuterPart) (x : Tried V) (of : IsOfPart tables a x) (t m : ℕ) (from : a.tables.from ≡ t) (to : a.tables.to ≡ t + m) (few : t + m ≤ length tables) where
    -- the part's tables are so many
    pub part_count : length x.paths ≡ m
    part_count =
        let z : a.tables.to - a.tables.from ≡ m = omega (arith, from, to) in
        let behind = length-drop a.tables.from tables in
        let enough : a.tables.to - a.tables.from ≤ length (drop a.tables.from tables) = omega (arith, behind, from, to, few) in
        let taken = length-take-le (a.tables.to - a.tables.from) (drop a.tables.from tables) enough in
        ap (λ (ps : List (List ℕ)). length ps) of.paths ∙ (length-map (take (a.tables.to - a.tables.from) (drop a.tables.from tables)) (λ (t : TableSpec). t.path) ∙ (taken ∙ z))

module _ (tables : List TableSpec) (all : List Place) (placed : (i : ℕ) (t : TableSpec) → at tables i ≡ Some t → at all i ≡ Some (to_read t.path)) {V : Type 0} where
  module _ (a : OuterPart) (x : Tried V) (of : IsOfPart tables a x) (t m : ℕ) (from : a.tables.from ≡ t) (to : a.tables.to ≡ t + m) (few : t + m ≤ length tables) where
    -- and stand at their places
    pub part_there : (i : ℕ) (path : List ℕ) → at x.paths i ≡ Some path → at all (x.row + i) ≡ Some (to_read path)
    part_there i path e =
        let y = map_at (λ (t : TableSpec). t.path) (take (a.tables.to - a.tables.from) (drop a.tables.from tables)) i path (ap (λ ps. at ps i) (sym of.paths) ∙ e) in
        let here_it = sym (at_drop a.tables.from tables i) ∙ at_take (a.tables.to - a.tables.from) (drop a.tables.from tables) i y.0 y.1 in
        ap (λ r. at all (r + i)) of.row ∙ (placed (a.tables.from + i) y.0 here_it ∙ ap (λ q. Some (to_read q)) y.2)

  -- they were tried in order
  pub parts_order : (S t s : ℕ) (os : List OuterPart) (qs : List Part) (xs : List (Tried V)) (o : Option NotRead) → AreParts (length tables) S t s os qs → ArePartsTried tables os xs o → ((x : Tried V) → IsAmong x xs → length x.devices + length x.back ≤ length x.paths) → AreInOrder (length tables) all t xs
  parts_order S t s os qs [] o parts none few = tt
  parts_order S t s [] qs (x ∷ xs) o parts tried few = elim tried [ ]
  parts_order S t s (a ∷ os) (q ∷ qs) (x ∷ xs) o parts (read a' x' of whole more) few =
      let e = parts_end (length tables) S (t + q.tables) (s + q.streams) os qs parts.3 in
      let count = part_count tables a x of t q.tables parts.0 parts.1 e.0 in
      let f = e.0 in
      let next : t + q.tables ≡ t + length x.paths = omega (arith, count) in (
        of.row ∙ parts.0,
        omega (arith, count, f),
        few x (here xs),
        part_there a x of t q.tables parts.0 parts.1 e.0,
        subst (λ k. AreInOrder (length tables) all k xs) next (parts_order S (t + q.tables) (s + q.streams) os qs xs o parts.3 more (λ y m. few y (there x m))),
      )
  parts_order S t s (a ∷ os) [] (x ∷ xs) o parts (read a' x' of whole more) few = absurd parts
  parts_order S t s (a ∷ os) (q ∷ qs) (x ∷ []) (Some w) parts (unread a' x' w' of lack) few =
      let e = parts_end (length tables) S (t + q.tables) (s + q.streams) os qs parts.3 in
      let count = part_count tables a x of t q.tables parts.0 parts.1 e.0 in
      let f = e.0 in (of.row ∙ parts.0, omega (arith, count, f), few x (here []), part_there a x of t q.tables parts.0 parts.1 e.0, tt)
  parts_order S t s (a ∷ os) [] (x ∷ []) (Some w) parts (unread a' x' w' of lack) few = absurd parts
