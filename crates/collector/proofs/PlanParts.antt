-- The parts of a plan's outer stream, which follow one another.
use Rattle.std.proofs.Common.{◌≡◌, ℕ, zero, suc, ◌+◌, ◌-◌, ◌<◌, ◌≤◌, List, [], ◌∷◌, map, length, Option, Some, None, refl, sym, ◌∙◌, ap, subst, arith, slice_get}
use Rattle.pipeline_desc.specs.Groups.{FollowOn}
use Rattle.pipeline_desc.specs.Meant.{PlanMeant, top_streams, top_tables}
use Rattle.pipeline_desc.specs.Sound.{IsSoundPlan}
use Rattle.pipeline_desc.specs.declared.group.GroupSpec.{GroupSpec}
use Rattle.outer_stream.specs.Parts.{FollowParts}
use Rattle.outer_stream.specs.declared.next.OuterPart.{OuterPart}
use Rattle.dealt_streams.specs.Standing.{group_part, plan_parts, streams_before, top_part}
use Rattle.collector.proofs.Lists.{there_is}

groups_follow : (t s : ℕ) (gs : List GroupSpec) (T n : ℕ) → FollowOn t s gs T n → FollowParts t s (map group_part gs) T n
groups_follow t s [] T n f = f
groups_follow t s (g ∷ gs) T n f = (f.0, f.2, f.3, groups_follow g.tables.to g.streams.to gs T n f.4)

pub plan_follow : (p : PlanMeant) → IsSoundPlan p → FollowParts 0 0 (plan_parts p) (length p.tables) (length p.streams)
plan_follow p sound = (refl, omega arith, omega arith, groups_follow (top_tables (length p.tables) p.groups) (top_streams (length p.streams) p.groups) p.groups (length p.tables) (length p.streams) sound.follow)

-- how many streams there are before those of part i, where the parts follow s streams
abbrev pub before : ℕ → List OuterPart → ℕ → ℕ
before s ps zero = s
before s ps (suc i) = elim (slice_get ps i) [ Some part ↦ part.behind | None ↦ 0 ]

pub before_next : (s : ℕ) (p : OuterPart) (ps : List OuterPart) (i : ℕ) → i < length ps → before s (p ∷ ps) (suc i) ≡ before p.behind ps i
before_next s p ps zero l = refl
before_next s p ps (suc i) l = refl

next_higher : (t s : ℕ) (ps : List OuterPart) (T n : ℕ) → FollowParts t s ps T n → (i : ℕ) → i < length ps → before s ps i ≤ before s ps (suc i)
next_higher t s [] T n f i l = absurd (omega (arith, l))
next_higher t s (p ∷ ps) T n f zero l = f.2
next_higher t s (p ∷ ps) T n f (suc i) l =
    let h = next_higher p.tables.to p.behind ps T n f.3 i (omega (arith, l)) in
    let e = before_next s p ps i (omega (arith, l)) in
    omega (arith, h, e)

before_all : (t s : ℕ) (ps : List OuterPart) (T n : ℕ) → FollowParts t s ps T n → before s ps (length ps) ≡ n
before_all t s [] T n f = f.1
before_all t s (p ∷ []) T n f = f.3.1
before_all t s (p ∷ q ∷ ps) T n f = before_all p.tables.to p.behind (q ∷ ps) T n f.3

pub same_before : (ps : List OuterPart) (i : ℕ) → streams_before ps i ≡ before 0 ps i
same_before ps zero = refl
same_before ps (suc i) = refl

module _ (ps : List OuterPart) (T n : ℕ) (f : FollowParts 0 0 ps T n) where
  up : (i d : ℕ) → i + d ≤ length ps → before 0 ps i ≤ before 0 ps (i + d)
  up i zero l = let e : i + 0 ≡ i = omega arith in subst (λ j. before 0 ps i ≤ before 0 ps j) (sym e) (omega arith)
  up i (suc d) l =
      let h = up i d (omega (arith, l)) in
      let m = next_higher 0 0 ps T n f (i + d) (omega (arith, l)) in
      let e : i + suc d ≡ suc (i + d) = omega arith in
      subst (λ j. before 0 ps i ≤ before 0 ps j) (sym e) (omega (arith, h, m))

  -- later parts have later streams
  pub streams_up : (i j : ℕ) → i ≤ j → j ≤ length ps → streams_before ps i ≤ streams_before ps j
  streams_up i j l m =
      let e : i + (j - i) ≡ j = omega (arith, l) in
      let u = up i (j - i) (omega (arith, e, m)) in
      let a = same_before ps i in
      let b = same_before ps j in
      let w = subst (λ k. before 0 ps i ≤ before 0 ps k) e u in
      omega (arith, w, a, b)

  -- and behind the last part stand all
  pub streams_all : streams_before ps (length ps) ≡ n
  streams_all = same_before ps (length ps) ∙ before_all 0 0 ps T n f
