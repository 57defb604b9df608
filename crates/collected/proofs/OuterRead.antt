-- How the tables of a plan's collector came out.
use Rattle.std.proofs.Common.{◌≡◌, ◌⊎◌, ℕ, ◌+◌, ◌<◌, ◌≤◌, List, [], ◌∷◌, length, Option, Some, None, refl, sym, ap, subst, ⊎_elim, arith}
use Rattle.std.proofs.lemmas.Bool.{cases_lt}
use Rattle.std.proofs.lemmas.List.{length-map}
use Rattle.channel_bounded.specs.Ends.{ReceiverSeen}
use Rattle.chunk_core.specs.Lists.{IsAmong}
use Rattle.chunk_core.specs.Tables.{Values}
use Rattle.chunk_core.specs.declared.code.Code.{Code}
use Rattle.chunk_core.specs.declared.code.How.{How}
use Rattle.chunk_core.proofs.Members.{among_cons, among_nil}
use Rattle.device_port.specs.Device.{Place, DeviceTold, to_read}
use Rattle.device_port.specs.Depot.{DepotTold}
use Rattle.join_tale.specs.Tales.{Tale}
use Rattle.join_tree.specs.Given.{given}
use Rattle.join_tree.specs.Settled.{Settles}
use Rattle.outer_tables.specs.declared.not_read.NotRead.{NotRead}
use Rattle.outer_tables.specs.declared.not_read.NotRead.TheVariants as why
use Rattle.pipeline_desc.specs.Meant.{PlanMeant, stream_limit}
use Rattle.pipeline_desc.specs.Sound.{IsSoundPlan}
use Rattle.pipeline_desc.specs.declared.table.TableSpec.{TableSpec}
use Rattle.plan_work.specs.Plans.{opener_of}
use Rattle.pull_turns.specs.Piping.{StateMeaning}
use Rattle.res_ledger.specs.declared.event.Event.{Event}
use Rattle.res_ledger.specs.declared.event.What.TheVariants.{Acquire}
use Rattle.row_seat.specs.declared.view.View.{View}
use Rattle.run_rules.specs.Giving.{giving_all}
use Rattle.run_rules.specs.Opening.{ArePartsRead, AreTablesFailed, AreTablesLeft, AreTablesRead, IsTableFailed, IsTableRead}
use Rattle.run_rules.specs.Work.{Opener, Part, RunRecord}
use Rattle.scope_tree.specs.Calls.{Seen}
use Rattle.joined_runs.specs.Devices.{MadeComeBack}
use Rattle.collected.specs.Collected.{IsCollected}
use Rattle.dealt_streams.specs.Moves.{Tried, contents_in, tried_of}
use Rattle.dealt_streams.specs.Standing.{plan_parts}
use Rattle.dealt_streams.specs.declared.leftover.Leftover.{Leftover}
use Rattle.collected.proofs.AllGiven.{all_acquire, all_rows}
use Rattle.collected.proofs.Core.{W, lines', order', rows}
use Rattle.collected.proofs.HeldRows.{count, parts_so, without}
use Rattle.collected.proofs.MovedRows.{AreInOrder, after_few, after_more, order_within, rows_after}
use Rattle.collected.proofs.PartsRead.{row_calm, row_failed, rows_all, rows_few, rows_idle, rows_read, rows_seam}
use Rattle.collected.proofs.PlanParts.{AreParts, top}
use Rattle.collected.proofs.TableRuns.{CameOut, IsBare, IsCalm, IsSeam, each_read, failed_at, left_at, parts_at}
use Rattle.collected.proofs.ToldRows.{tables_behind, tables_out}

among_more : {V : Type 0} (t : ℕ) (xs : List (Tried V)) (x : Tried V) (T : ℕ) (all : List Place) → AreInOrder T all t xs → IsAmong x xs → x.row + length x.paths ≤ rows_after t xs
among_more t [] x T all order m = absurd (among_nil m)
among_more t (y ∷ xs) x T all order m =
    ⊎_elim
    (λ e. let a = after_more T all (t + length y.paths) xs in let row = order.0 in let r = ap (λ (z : Tried _). z.row) e in let l = ap (λ (z : Tried _). length z.paths) e in omega (arith, a, row, r, l))
    (λ i. among_more (t + length y.paths) xs x T all order.4 i)
    (among_cons m)

module _ {S V F : Type 0} (view : S → View V) (told : V → DeviceTold) (P : Values → StateMeaning F) (p : PlanMeant) (limits : IsSoundPlan p) (d0 now : DepotTold) (outer : How) (b : Seen V) (left : List (Leftover V)) (receiver : ReceiverSeen) (tale : Tale) (h : IsCollected view told P p d0 now outer b left receiver tale)
    (L : List Event) (s : Settles p.max_open (stream_limit p) b h.progress L) where
  abbrev pub lines'' : List (List ℕ)
  lines'' = lines' view told P p limits d0 now outer b left receiver tale h L s

  abbrev pub op : Opener
  op = opener_of p lines''

  abbrev pub n' : ℕ
  n' = count view told P p limits d0 now outer b left receiver tale h

  abbrev pub W' : ℕ → DeviceTold
  W' = W view told P p limits d0 now outer b left receiver tale h L s

  abbrev pub all' : List Place
  all' = rows view told P p limits d0 now outer b left receiver tale h L s

  abbrev pub tables : List (Tried V)
  tables = tried_of h.moves

  abbrev pub lack : Option NotRead
  lack = h.stands.lack

  abbrev pub T : ℕ
  T = length p.tables

  -- how many tables were read, and up to which row some were tried
  abbrev pub m : ℕ
  m = length (contents_in tables)

  abbrev pub e : ℕ
  e = rows_after 0 tables

  abbrev pub groups : List Part
  groups = top p lines'' limits n' refl (without view told P p limits d0 now outer b left receiver tale h) ∷ op.groups

  pub parts : AreParts T (length p.streams) 0 0 (plan_parts p) groups
  parts = parts_so view told P p limits d0 now outer b left receiver tale h

  pub tables_are : length op.tables ≡ T
  tables_are = length-map p.tables (λ (t : TableSpec). to_read t.path)

  module _ (last : DepotTold) (came : MadeComeBack d0 last all' W') (c : RunRecord) (is_old : c.depot_old ≡ d0) (is_last : c.depot_new ≡ last) (events : c.events ≡ L) where
    pub outs : (x : Tried V) → IsAmong x tables → CameOut op c W' x.row x.paths x.contents x.lack
    outs = tables_out view told P p limits d0 now outer b left receiver tale h L s last came c is_old is_last events

    -- The tables.

    pub read_so : (i : ℕ) → i < m → IsTableRead op c i (W' i)
    read_so i l = rows_read p.tables op c W' T all' 0 (plan_parts p) tables lack h.stands.tried (order' view told P p limits d0 now outer b left receiver tale h L s) outs i (omega arith) (omega (arith, l))

    pub few : (m ≤ e) × (lack ≡ None → m ≡ e)
    few = let f = rows_few p.tables op c W' T all' 0 (plan_parts p) tables lack h.stands.tried outs in let l = f.0 in (omega (arith, l), λ none. let q = f.1 none in omega (arith, q))

    end_few : e ≤ T
    end_few = after_few T all' 0 tables (omega arith) (order' view told P p limits d0 now outer b left receiver tale h L s)

    pub behind_bare : (i : ℕ) → e ≤ i → i < T → IsBare W' i
    behind_bare i l u = (tables_behind view told P p limits d0 now outer b left receiver tale h L s i l u).0

    -- nothing was tried behind those that were read and the one that wasn't
    idle_so : (i : ℕ) → m < i → i < T → IsBare W' i
    idle_so i l u =
        ⊎_elim
        (λ (k : i < e). rows_idle p.tables op c W' T all' 0 (plan_parts p) tables lack h.stands.tried (order' view told P p limits d0 now outer b left receiver tale h L s) outs i (omega (arith, l)) k)
        (λ (k : e ≤ i). behind_bare i k u)
        (cases_lt i e)

    pub read_all : T ≤ m → AreTablesRead op c W' 0 op.tables
    read_all l = each_read op c W' 0 op.tables (λ i low high. read_so i (omega (arith, high, tables_are, l)))

    -- where the tables of all parts were tried, and none wasn't read
    pub all_tried : lack ≡ None → length tables ≡ length (plan_parts p) → T ≤ m
    all_tried none count = let a = rows_all p.tables (length p.streams) 0 0 (plan_parts p) groups tables lack parts h.stands.tried count in let f = few.1 none in omega (arith, a, f)

    -- where all was given
    pub all_given : given b.seat ≡ giving_all op n' → T ≤ e
    all_given is = ⊎_elim (λ (l : e < T). absurd (not_before l)) (λ l. l) (cases_lt e T)
      where
        not_before : e < T → ⊥
        not_before l =
            let all = all_rows op n' in
            let a = all_acquire op n' e (omega (arith, l, all, tables_are)) in
            ⊎_elim
            (λ x.
            let more = among_more 0 tables x.0 T all' (order' view told P p limits d0 now outer b left receiver tale h L s) x.1 in
            let w = order_within T all' 0 tables (order' view told P p limits d0 now outer b left receiver tale h L s) x.0 x.1 in
            let some = w.2 in
            let i = x.2.1 in
            let r = x.2.2 in
            omega (arith, more, some, i, r))
            (λ x. let r = x.0 in omega (arith, l, r))
            (h.stands.acquired e a.0 (subst (λ E. IsAmong (Acquire e a.0) E) (sym is) a.1))

    pub failed_so : (f : Code) → lack ≡ Some (why.Fault f) → AreTablesFailed op c W' 0 op.tables f
    failed_so f is =
        let x = row_failed p.tables op c W' T all' f 0 (plan_parts p) tables lack h.stands.tried (order' view told P p limits d0 now outer b left receiver tale h L s) outs is in
        let l = x.0 in
        let end = end_few in
        let z : 0 + m ≡ m = omega arith in
        failed_at op c W' f m 0 op.tables (omega arith) (omega (arith, l, end, tables_are)) (λ i low high. read_so i high) (subst (λ k. IsTableFailed op c (W' k) f) z x.1) (λ i low high. (idle_so i low (omega (arith, high, tables_are))).0)

    pub left_so : (lack ≡ None) ⊎ (lack ≡ Some why.Memory) → AreTablesLeft op c W' 0 op.tables
    left_so cause =
        left_at op c W' m 0 op.tables (omega arith) (λ i low high more. read_so i high)
        (λ i low high. ⊎_elim (λ (k : m < i). (idle_so i k (omega (arith, high, tables_are))).1) (λ (k : i ≤ m). calm_at i (omega (arith, low, k)) (omega (arith, high, tables_are))) (cases_lt m i))
        (λ i low high. (idle_so i low (omega (arith, high, tables_are))).0)
      where
        calm_at : (i : ℕ) → i ≡ m → i < T → IsCalm W' i
        calm_at i is u =
            ⊎_elim
            (λ (k : i < e).
            ⊎_elim
            (λ none. absurd (let f = few.1 none in omega (arith, f, is, k)))
            (λ memory. let z : 0 + m ≡ i = omega (arith, is) in subst (IsCalm W') z (row_calm p.tables op c W' T all' 0 (plan_parts p) tables lack h.stands.tried (order' view told P p limits d0 now outer b left receiver tale h L s) outs memory (omega (arith, k, is))))
            cause)
            (λ (k : e ≤ i). (behind_bare i k u).1)
            (cases_lt i e)

    pub parts_read : lack ≡ None → ArePartsRead op c W' 0 op.tables groups
    parts_read none =
        let f = few.1 none in
        let z : 0 + m ≡ m = omega arith in
        parts_at op c W' m 0 op.tables groups (subst (λ k. IsSeam k 0 groups) z (rows_seam p.tables op c W' T all' (length p.streams) refl 0 0 (plan_parts p) groups tables lack parts h.stands.tried outs none)) (λ i low high more. read_so i high) (λ i low high. (behind_bare i (omega (arith, low, f)) (omega (arith, high, tables_are))).0)
