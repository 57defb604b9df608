-- All that the outer stream of a plan may note as it gives streams.
use Rattle.std.proofs.Common.{◌≡◌, ℕ, zero, suc, ◌+◌, ◌-◌, ◌≤◌, List, [], ◌∷◌, ◌++◌, append_assoc, map, length, Option, Some, None, option_map, refl, sym, ◌∙◌, ap, subst, arith}
use Rattle.std.specs.List.{sum_by}
use Rattle.std.proofs.lemmas.List.{length-map}
use Rattle.std.proofs.lemmas.List.Sums.{sum_by-append, sum_by-cons}
use Rattle.chunk_core.specs.declared.code.Exit.TheVariants.{Succeeded}
use Rattle.device_port.specs.Device.{Place, to_read}
use Rattle.outer_stream.specs.Parts.{table_count}
use Rattle.outer_tables.specs.Rows.{acquires as acquires_run}
use Rattle.pipeline_desc.specs.Groups.{FollowOn}
use Rattle.pipeline_desc.specs.Meant.{PlanMeant, top_streams, top_tables}
use Rattle.pipeline_desc.specs.Sound.{IsSoundPlan}
use Rattle.pipeline_desc.specs.declared.group.GroupSpec.{GroupSpec}
use Rattle.pipeline_desc.specs.declared.listing.ListSpec.{ListSpec}
use Rattle.pipeline_desc.specs.declared.table.TableSpec.{TableSpec}
use Rattle.plan_work.specs.Listed.{lister_of}
use Rattle.plan_work.specs.Plans.{opener_of, part_of_group}
use Rattle.res_ledger.specs.declared.event.What.{What}
use Rattle.res_ledger.specs.declared.event.What.TheVariants.{Acquire, Close, Open}
use Rattle.run_rules.specs.Giving.{acquires, giving_children, giving_part, leases_for}
use Rattle.run_rules.specs.Work.{Lister, Part, list_parts, parts_of, top_of}
use Rattle.dealt_streams.specs.Standing.{all_given, group_part, plan_parts, top_part}
use Rattle.collector.proofs.Gaving.{parts_left}
use Rattle.collector.proofs.Lists.{run_range}

acquires_same : (s r n : ℕ) → acquires_run s r n ≡ acquires s r n
acquires_same s r n = ap (λ l. map (λ q. Acquire q s) l) (run_range r n)

join_all : (A L : List What) (c : What) (P R : List What) → (A ++ (L ++ c ∷ P)) ++ R ≡ (A ++ L) ++ c ∷ (P ++ R)
join_all A L c P R = append_assoc A (L ++ c ∷ P) R ∙ (ap (λ l. A ++ l) (append_assoc L (c ∷ P) R) ∙ sym (append_assoc A L (c ∷ (P ++ R))))

-- the groups, each in a child scope, and what follows
groups_given : (k t s : ℕ) (gs : List GroupSpec) (T n : ℕ) (ps : List Part) → FollowOn t s gs T n → parts_left (suc k) s (map group_part gs) ++ giving_children (suc k + length gs) T n ps ≡ giving_children (suc k) t s (map part_of_group gs ++ ps)
groups_given k t s [] T n ps f =
    let z : suc k + 0 ≡ suc k = omega arith in
    ap (λ i. giving_children i T n ps) z ∙ (ap (λ i. giving_children (suc k) i n ps) (sym f.0) ∙ ap (λ i. giving_children (suc k) t i ps) (sym f.1))
groups_given k t s (g ∷ gs) T n ps f =
    let from = f.0 in
    let first = f.1 in
    let low = f.2 in
    let high = f.3 in
    let count = g.tables.to - g.tables.from in
    let streams = g.streams.to - g.streams.from in
    let A = acquires_run (suc k) g.tables.from count in
    let P = parts_left (suc (suc k)) g.streams.to (map group_part gs) in
    let R = giving_children (suc k + suc (length gs)) T n ps in
    let G = giving_children (suc (suc k)) g.tables.to g.streams.to (map part_of_group gs ++ ps) in
    let z : suc k + suc (length gs) ≡ suc (suc k) + length gs = omega arith in
    let rest : P ++ R ≡ G = ap (λ i. P ++ giving_children i T n ps) z ∙ groups_given (suc k) g.tables.to g.streams.to gs T n ps f.4 in
    let own : A ≡ acquires (suc k) t count = acquires_same (suc k) g.tables.from count ∙ ap (λ i. acquires (suc k) i count) from in
    let same : g.streams.to - s ≡ streams = ap (λ i. g.streams.to - i) (sym first) in
    let row : g.tables.to ≡ t + count = omega (arith, from, low) in
    let number : g.streams.to ≡ s + streams = omega (arith, first, high) in
    ap (λ l. Open (suc k) 0 ∷ l) (
    join_all A (leases_for (suc k) s (g.streams.to - s)) (Close (suc k) Succeeded) P R
    ∙ (ap (λ l. (l ++ leases_for (suc k) s (g.streams.to - s)) ++ Close (suc k) Succeeded ∷ (P ++ R)) own
    ∙ (ap (λ m. (acquires (suc k) t count ++ leases_for (suc k) s m) ++ Close (suc k) Succeeded ∷ (P ++ R)) same
    ∙ (ap (λ l. (acquires (suc k) t count ++ leases_for (suc k) s streams) ++ Close (suc k) Succeeded ∷ l) rest
    ∙ (ap (λ i. (acquires (suc k) t count ++ leases_for (suc k) s streams) ++ Close (suc k) Succeeded ∷ giving_children (suc (suc k)) i g.streams.to (map part_of_group gs ++ ps)) row
    ∙ ap (λ i. (acquires (suc k) t count ++ leases_for (suc k) s streams) ++ Close (suc k) Succeeded ∷ giving_children (suc (suc k)) (t + count) i (map part_of_group gs ++ ps)) number))))
    )

-- how many tables and streams the groups have
group_sums : (t s : ℕ) (gs : List GroupSpec) (T n : ℕ) → FollowOn t s gs T n → (t + sum_by (λ (x : Part). x.tables) (map part_of_group gs) ≡ T) × (s + sum_by (λ (x : Part). x.streams) (map part_of_group gs) ≡ n)
group_sums t s [] T n f = let a = f.0 in let b = f.1 in (omega (arith, a), omega (arith, b))
group_sums t s (g ∷ gs) T n f =
    let r = group_sums g.tables.to g.streams.to gs T n f.4 in
    let tables = sum_by-cons (λ (x : Part). x.tables) (part_of_group g) (map part_of_group gs) in
    let streams = sum_by-cons (λ (x : Part). x.streams) (part_of_group g) (map part_of_group gs) in
    let a = f.0 in
    let b = f.1 in
    let c = f.2 in
    let d = f.3 in
    let u = r.0 in
    let v = r.1 in
    (omega (arith, tables, a, c, u), omega (arith, streams, b, d, v))

module _ (p : PlanMeant) (sound : IsSoundPlan p) (lines : List (List ℕ)) (none : p.list ≡ None → length lines ≡ 0) where
  abbrev top : Part
  top = top_of (opener_of p lines) (length p.streams + length lines)

  abbrev listed : List Part
  listed = list_parts (option_map (lister_of p lines) p.list)

  -- what is left to note of the list
  abbrev pub list_left : List What
  list_left = giving_children (suc (length p.groups)) (length p.tables) (length p.streams) listed

  listed_streams : sum_by (λ (x : Part). x.streams) listed ≡ length lines
  listed_streams = by_list p.list refl
    where
      by_list : (o : Option ListSpec) → p.list ≡ o → sum_by (λ (x : Part). x.streams) (list_parts (option_map (lister_of p lines) o)) ≡ length lines
      by_list None e = sym (none e)
      by_list (Some l) e = let s = sum_by-cons (λ (x : Part). x.streams) (record { tables = 1; streams = length lines }) [] in omega (arith, s)

  tables_top : top.tables ≡ top_tables (length p.tables) p.groups
  tables_top =
      let g = (group_sums (top_tables (length p.tables) p.groups) (top_streams (length p.streams) p.groups) p.groups (length p.tables) (length p.streams) sound.follow).0 in
      let n = length-map p.tables (λ (t : TableSpec). to_read t.path) in
      omega (arith, g, n)

  streams_top : top.streams ≡ top_streams (length p.streams) p.groups
  streams_top =
      let g = (group_sums (top_tables (length p.tables) p.groups) (top_streams (length p.streams) p.groups) p.groups (length p.tables) (length p.streams) sound.follow).1 in
      let s = sum_by-append (λ (x : Part). x.streams) (map part_of_group p.groups) listed in
      let l = listed_streams in
      omega (arith, g, s, l)

  pub all_parts_given : parts_left 0 0 (plan_parts p) ++ list_left ≡ all_given p lines
  all_parts_given =
      let t = top_tables (length p.tables) p.groups in
      let s = top_streams (length p.streams) p.groups in
      let A = acquires_run 0 0 (t - 0) in
      let L = leases_for 0 0 (s - 0) in
      let P = parts_left 1 s (map group_part p.groups) in
      let C = giving_children 1 t s (map part_of_group p.groups ++ listed) in
      let one : suc (length p.groups) ≡ suc 0 + length p.groups = omega arith in
      let rest : P ++ list_left ≡ C = ap (λ j. P ++ giving_children j (length p.tables) (length p.streams) listed) one ∙ groups_given 0 t s p.groups (length p.tables) (length p.streams) listed sound.follow in
      let m : t - 0 ≡ t = omega arith in
      let i : s - 0 ≡ s = omega arith in
      append_assoc A (L ++ P) list_left
      ∙ (ap (λ l. A ++ l) (append_assoc L P list_left ∙ ap (λ l. L ++ l) rest)
      ∙ (sym (append_assoc A L C)
      ∙ (ap (λ l. (l ++ L) ++ C) (acquires_same 0 0 (t - 0) ∙ ap (λ n. acquires 0 0 n) m)
      ∙ (ap (λ n. (acquires 0 0 t ++ leases_for 0 0 n) ++ C) i
      ∙ (ap (λ n. giving_part 0 0 0 (record { tables = n; streams = s }) ++ giving_children 1 n s (map part_of_group p.groups ++ listed)) (sym tables_top)
      ∙ ap (λ n. giving_part 0 0 0 (record { tables = top.tables; streams = n }) ++ giving_children 1 top.tables n (map part_of_group p.groups ++ listed)) (sym streams_top))))))

  -- what is noted of the parts is a front of what is noted of all
  pub front_given : (E rest : List What) → E ++ rest ≡ parts_left 0 0 (plan_parts p) → (more : List What) × (E ++ more ≡ all_given p lines)
  front_given E rest e = (rest ++ list_left, sym (append_assoc E rest list_left) ∙ (ap (λ l. l ++ list_left) e ∙ all_parts_given))
