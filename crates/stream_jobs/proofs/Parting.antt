-- A stream whose stepper has ended leaves.
use Rattle.std.proofs.Common.{◌≡◌, ℕ, suc, ◌+◌, ◌-◌, ◌≤◌, true, false, cond, nat_eq, List, [], ◌∷◌, length, refl, sym, ◌∙◌, ap, subst, arith}
use Rattle.std.specs.List.{IsDistinct}
use Rattle.chunk_core.specs.Lists.{IsAmong, has}
use Rattle.chunk_core.specs.Outcomes.{exit_of}
use Rattle.chunk_core.specs.declared.code.Exit.{Exit}
use Rattle.chunk_core.specs.declared.code.How.{How}
use Rattle.device_port.specs.Device.{DeviceTold}
use Rattle.tree_families.proofs.Leavers.{parts_leave_last}
use Rattle.res_ledger.specs.declared.event.StreamNo.TheVariants.{Inner}
use Rattle.res_ledger.specs.declared.event.What.TheVariants.{Acquire}
use Rattle.res_ledger.specs.Ledger.{IsFinalized, Notes}
use Rattle.res_ledger.specs.Order.{firsts}
use Rattle.row_seat.specs.declared.view.View.{View}
use Rattle.scope_tree.specs.declared.branch.Spent.{Spent}
use Rattle.scope_tree.specs.Calls.{Cancels, IsClosedScope, Seen, used}
use Rattle.scope_tree.specs.Released.{away, said}
use Rattle.scope_tree.specs.Rows.{strangers}
use Rattle.scope_tree.specs.Trace.{owed, own_rows}
use Rattle.scope_tree.proofs.Lists.{away_le}
use Rattle.tree_laws.specs.Called.{Called}
use Rattle.tree_laws.specs.Called.Called.{cancelled}
use Rattle.tree_laws.specs.Visits.{HasNothingOpen}
use Rattle.pull_stepper.specs.Held.{FinishesDevice}
use Rattle.pull_stepper.specs.Sites.{Site}
use Rattle.pull_stepper.specs.Stepping.{StepperEnds, Stepping}
use Rattle.stream_jobs.specs.Leaving.{CanLeave, IsVisiting, Leaves}

-- so many rows at most are strangers
strangers_few : (own T : List ℕ) → strangers own T ≤ length T
strangers_few own [] = omega arith
strangers_few own (r ∷ T) = let few = strangers_few own T in elim (has r own) as (λ b. cond b (strangers own T) (suc (strangers own T)) ≤ suc (length T)) [ true ↦ omega (arith, few) | false ↦ omega (arith, few) ]

module _ {V : Type 0} (told : V → DeviceTold) (k : ℕ) (T : List ℕ) (x y : Site V) (b : Seen V) (b_is : b ≡ y.tree) where
  -- there is room for the Cancel and the ends of its rows
  pub leave_rows : CanLeave told T y → used b ≤ b.rows → used b + strangers (own_rows b.seat) T ≤ b.rows
  leave_rows c u =
      let few = strangers_few (own_rows b.seat) T in
      let room : length T ≤ b.rows - used b = subst (λ t. length T ≤ t.rows - used t) (sym b_is) c.rows in
      omega (arith, few, room, u)

  pub leave_events : CanLeave told T y → owed b.seat + 1 + away T b.seat.opened ≤ b.seat.spare
  leave_events c =
      let few = away_le T b.seat.opened in
      let room : 1 + length T ≤ b.seat.spare - owed b.seat = subst (λ t. 1 + length T ≤ t.seat.spare - owed t.seat) (sym b_is) c.events in
      omega (arith, few, room)

  module _ (v : IsVisiting told k T x y) where
    pub visit_by : b.seat.by ≡ Inner k
    visit_by = ap (λ t. t.seat.by) b_is ∙ (v.since.alone.by ∙ v.guest.by)

    pub visit_main : b.seat.main ≡ false
    visit_main = ap (λ t. t.seat.main) b_is ∙ (v.since.alone.main ∙ v.guest.main)

    -- the lease is still there, with its rows
    pub visit_kept : IsAmong k b.seat.kept
    visit_kept = subst (λ l. IsAmong k l) (sym (ap (λ t. t.seat.kept) b_is ∙ v.since.alone.kept)) ((v.guest.kept k).1 refl)

    pub visit_pairs : (r : ℕ) → IsAmong r T → IsAmong (k, r) b.seat.pairs
    visit_pairs r m = subst (λ l. IsAmong (k, r) l) (sym (ap (λ t. t.seat.pairs) b_is ∙ v.since.alone.pairs)) ((v.guest.pairs k r).1 (refl, m))

    visit_calls : Called (FinishesDevice told) x.tree [] b
    visit_calls = subst (λ t. Called (FinishesDevice told) x.tree [] t) (sym b_is) v.since.calls

    -- then it cancelled its lease, and was all that it was to be
    pub leaves_so : {F : Type 0} (s : Stepping V F) (h : How) (unopened : List V) (z : Exit) (last : Seen V) (seat : View V) (shelf : List (Spent V)) → StepperEnds told s b h unopened → z ≡ exit_of h → Cancels (FinishesDevice told) b k T z last
        → ((r q : ℕ) → Notes b.seat.events b.seat.by (Acquire r q) → IsFinalized b.seat.events r) → IsClosedScope last 0 → IsDistinct nat_eq (firsts (said last.shelf)) → seat ≡ last.seat → shelf ≡ last.shelf → HasNothingOpen seat → Leaves told k T x s seat shelf unopened h
    leaves_so s h unopened z last seat shelf ended z_is cancels finalized root once seat_is shelf_is rest = record {
      ended = subst (λ t. StepperEnds told s t h unopened) ended.tree ended;
      finalized = subst (λ (t : Seen V). (r q : ℕ) → Notes t.seat.events t.seat.by (Acquire r q) → IsFinalized t.seat.events r) ended.tree finalized;
      last = last;
      cancels = subst (λ t. Cancels (FinishesDevice told) t k T (exit_of h) last) ended.tree (subst (λ e. Cancels (FinishesDevice told) b k T e last) z_is cancels);
      seat_is = seat_is;
      shelf_is = shelf_is;
      once = subst (λ xs. IsDistinct nat_eq (firsts (said xs))) (sym shelf_is) once;
      visit = record {
        first = x.tree;
        guest = v.guest;
        calls = cancelled b last k T z visit_calls (record { kept = visit_kept; ended = λ by. finalized; pairs = visit_pairs }) cancels;
        root = root;
      };
      rest = subst HasNothingOpen seat_is rest;
      leaves = parts_leave_last x.tree b last k T z v.guest.start visit_calls ended.root cancels;
    }
