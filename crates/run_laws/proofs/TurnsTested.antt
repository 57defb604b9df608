-- The tests of whose turn it was are exact.
use Rattle.std.proofs.Common.{◌≡◌, ◌≢◌, ℕ, zero, suc, ◌+◌, ◌≤◌, Bool, true, false, ◌&&◌, ◌||◌, not, nat_le, if◌then◌else◌, List, [], ◌∷◌, ◌++◌, Some, None, inl, inr, refl, sym, ap, ◌∙◌, subst, ⊎_elim, arith}
use Rattle.std.specs.Bool.{Decides}
use Rattle.std.specs.List.{list_all as all}
use Rattle.std.proofs.lemmas.Bool.{false≢true}
use Rattle.chunk_core.specs.Lists.{IsAmong}
use Rattle.chunk_core.specs.Lists.IsAmong.{here, there}
use Rattle.chunk_core.specs.declared.code.Exit.{Exit}
use Rattle.chunk_core.specs.declared.code.Exit.TheVariants.{Canceled}
use Rattle.chunk_core.proofs.Bools.{either, no, not_so, or_left, or_right, tested}
use Rattle.chunk_core.proofs.Members.{among_cons, among_nil}
use Rattle.res_ledger.specs.declared.event.StreamNo.TheVariants.{Inner, Outer}
use Rattle.res_ledger.specs.declared.event.What.{What}
use Rattle.res_ledger.specs.declared.event.Event.{Event}
use Rattle.res_ledger.specs.Judge.{is_leased}
use Rattle.res_ledger.specs.Ledger.{IsLeased}
use Rattle.res_ledger.specs.Order.{same_exit}
use Rattle.res_ledger.specs.Streams.{same_stream}
use Rattle.res_ledger.specs.Whole.{is_cancel}
use Rattle.run_rules.specs.Ends.{HadTurn, IsLastTurn, IsTurn, WasIn}
use Rattle.run_rules.specs.Facts.{has_event, holds_number, leased_stream, root_exit}
use Rattle.run_laws.specs.EndTests.{each_turn, is_last_leased, is_last_turn, is_turn, is_unstopped, is_unstopped_close, passes_before, until_left, was_in}
use Rattle.run_laws.proofs.Deciding.{Decides-to, all_so, and_so, any_so, at_most, each_some_so, found_so, if_so, inner_so, not_so as isnt_so, number_so, or_so, same_stream_so}
use Rattle.run_laws.proofs.ExitsTested.{exit_same_so}
use Rattle.run_laws.proofs.Tested.{leased_so}

-- unless the first is so, the second is
pub unless_so : {P Q : Type 0} (a b : Bool) → Decides a P → Decides b Q → Decides (a || b) (¬ P → Q)
unless_so a b d e = (
  λ h n. ⊎_elim (λ x. absurd (n (d.0 x))) (λ y. e.0 y) (either a b h),
  λ f. ⊎_elim (λ x. or_left a b x) (λ x. or_right a b (e.1 (f (λ p. no a x (d.1 p))))) (tested a),
)

-- Turns.

-- the root is closed, and not as one that is stopped
abbrev IsUnstopped : What → Type 0
IsUnstopped w = (x : Exit) × (root_exit w ≡ Some x) × (x ≢ Canceled)

unstopped_close_so : (w : What) → Decides (is_unstopped_close w) (IsUnstopped w)
unstopped_close_so w = found_so (root_exit w) (λ x. not (same_exit x Canceled)) (λ x. x ≢ Canceled) (λ x. isnt_so (same_exit x Canceled) (exit_same_so x Canceled))

-- k is the last that was leased for
abbrev IsLastLeased : List Event → ℕ → Type 0
IsLastLeased L k = IsLeased L k × ¬ (IsLeased L (k + 1))

last_leased_so : (L : List Event) (k : ℕ) → Decides (is_last_leased L k) (IsLastLeased L k)
last_leased_so L k = and_so (is_leased L k) (not (is_leased L (k + 1))) (leased_so L k) (isnt_so (is_leased L (k + 1)) (leased_so L (k + 1)))

pub turn_so : (L : List Event) (k : ℕ) (e : Event) → Decides (is_turn L k e) (IsTurn L k e)
turn_so L k e =
    let shuts : Bool = same_stream e.by Outer && (is_unstopped_close e.what && is_last_leased L k) in
    or_so (same_stream e.by (Inner k)) (holds_number (leased_stream e.what) (k + 1) || shuts) (same_stream_so e.by (Inner k))
    (or_so (holds_number (leased_stream e.what) (k + 1)) shuts (number_so (leased_stream e.what) (k + 1))
    (Decides-to shuts (λ t. (t.0, t.1.0, t.1.1.0, t.1.1.1)) (λ t. (t.0, (t.1, (t.2, t.3))))
    (and_so (same_stream e.by Outer) (is_unstopped_close e.what && is_last_leased L k) (same_stream_so e.by Outer)
    (and_so (is_unstopped_close e.what) (is_last_leased L k) (unstopped_close_so e.what) (last_leased_so L k)))))

module _ (p : ℕ → Bool) (P : ℕ → Type 0) (d : (k : ℕ) → Decides (p k) (P k)) where
  before_so : (j : ℕ) → Decides (passes_before p j) ((k : ℕ) → j ≡ k + 1 → P k)
  before_so zero = (λ h k e. absurd (omega (arith, e)), λ f. refl)
  before_so (suc i) = (λ h k e. let s : i ≡ k = omega (arith, e) in subst P s ((d i).0 h), λ f. (d i).1 (f i (omega arith)))

  module _ (L : List Event) where
    -- the event leases for the stream behind one, which passes
    abbrev LeasesBehind : Event → Type 0
    LeasesBehind e = (j : ℕ) → leased_stream e.what ≡ Some j → (k : ℕ) → j ≡ k + 1 → P k

    -- the event leases for the last one, which passes
    abbrev LeasesLast : Event → Type 0
    LeasesLast e = (k : ℕ) → leased_stream e.what ≡ Some k → IsLastLeased L k → P k

    abbrev IsShut : Type 0
    IsShut = (e : Event) × IsAmong e L × ((e.by ≡ Outer) × IsUnstopped e.what)

    acting_so : Decides (all (λ e. elim e.by [ Inner k ↦ p k | Outer ↦ true ]) L) ((e : Event) → IsAmong e L → (k : ℕ) → e.by ≡ Inner k → P k)
    acting_so = all_so (λ e. elim e.by [ Inner k ↦ p k | Outer ↦ true ]) (λ e. (k : ℕ) → e.by ≡ Inner k → P k) (λ e. inner_so e.by p P d) L

    behind_so : Decides (all (λ e. elim (leased_stream e.what) [ Some j ↦ passes_before p j | None ↦ true ]) L) ((e : Event) → IsAmong e L → LeasesBehind e)
    behind_so = all_so (λ e. elim (leased_stream e.what) [ Some j ↦ passes_before p j | None ↦ true ]) LeasesBehind (λ e. each_some_so (leased_stream e.what) (passes_before p) (λ j. (k : ℕ) → j ≡ k + 1 → P k) before_so) L

    shut_so : Decides (is_unstopped L) IsShut
    shut_so = any_so (λ e. same_stream e.by Outer && is_unstopped_close e.what) (λ e. (e.by ≡ Outer) × IsUnstopped e.what) (λ e. and_so (same_stream e.by Outer) (is_unstopped_close e.what) (same_stream_so e.by Outer) (unstopped_close_so e.what)) L

    last_so : Decides (all (λ e. elim (leased_stream e.what) [ Some k ↦ not (is_last_leased L k) || p k | None ↦ true ]) L) ((e : Event) → IsAmong e L → LeasesLast e)
    last_so = all_so (λ e. elim (leased_stream e.what) [ Some k ↦ not (is_last_leased L k) || p k | None ↦ true ]) LeasesLast
        (λ e. each_some_so (leased_stream e.what) (λ k. not (is_last_leased L k) || p k) (λ k. IsLastLeased L k → P k) (λ k. if_so (is_last_leased L k) (p k) (last_leased_so L k) (d k))) L

    abbrev Parts : Type 0
    Parts = ((e : Event) → IsAmong e L → (k : ℕ) → e.by ≡ Inner k → P k) × (((e : Event) → IsAmong e L → LeasesBehind e) × (IsShut → (e : Event) → IsAmong e L → LeasesLast e))

    each_by : Parts → (k : ℕ) → HadTurn L k → P k
    each_by t k h = ⊎_elim
        (λ by. t.0 h.0 h.1 k by)
        (λ x. ⊎_elim
        (λ l. t.1.0 h.0 h.1 (k + 1) l k refl)
        (λ q. let n = q.2.2 in t.1.1 (h.0, h.1, (q.0, q.1)) n.0 n.1 k (ap leased_stream n.3) (q.2, q.3))
        x)
        h.2

    by_each : ((k : ℕ) → HadTurn L k → P k) → Parts
    by_each f = (
      λ e m k by. f k (e, m, inl by),
      (λ e m j l k is. f k (e, m, inr (inl (l ∙ ap Some is))), λ s e m k l last. f k (s.0, s.1, inr (inr (s.2.0, s.2.1, last.0, last.1)))),
    )

    pub each_turn_so : Decides (each_turn p L) ((k : ℕ) → HadTurn L k → P k)
    each_turn_so =
        let acting : Bool = all (λ e. elim e.by [ Inner k ↦ p k | Outer ↦ true ]) L in
        let behind : Bool = all (λ e. elim (leased_stream e.what) [ Some j ↦ passes_before p j | None ↦ true ]) L in
        let last : Bool = all (λ e. elim (leased_stream e.what) [ Some k ↦ not (is_last_leased L k) || p k | None ↦ true ]) L in
        Decides-to (each_turn p L) each_by by_each
        (and_so acting (behind && (not (is_unstopped L) || last)) acting_so (and_so behind (not (is_unstopped L) || last) behind_so (if_so (is_unstopped L) last shut_so last_so)))

pub last_turn_so : (j : ℕ) (L : List Event) → Decides (is_last_turn j L) (IsLastTurn j L)
last_turn_so j L = each_turn_so (λ k. nat_le k j) (λ k. k ≤ j) (λ k. at_most k j) L

-- Leaving.

neither : (a b : Bool) → (a || b) ≡ false → (a ≡ false) × (b ≡ false)
neither true b e = absurd (false≢true (sym e))
neither false b e = (refl, e)

-- what stands up to the Cancel has none before it
left_found : (i : ℕ) (L : List Event) (e : Event) → IsAmong e (until_left i L) → (P Q : List Event) × (L ≡ P ++ e ∷ Q) × (has_event (is_cancel i) P ≡ false)
left_found i [] e m = absurd (among_nil m)
left_found i (x ∷ L) e m = ⊎_elim
    (λ q. ([], L, ap (λ z. z ∷ L) (sym q), refl))
    (λ n. ⊎_elim
    (λ t. absurd (among_nil (subst (λ b. IsAmong e (if b then [] else until_left i L)) t n)))
    (λ t.
    let f : is_cancel i x.what ≡ false = not_so (is_cancel i x.what) t in
    let r = left_found i L e (subst (λ b. IsAmong e (if b then [] else until_left i L)) f n) in
    (x ∷ r.0, r.1, ap (λ l. x ∷ l) r.2, ap (λ b. b || has_event (is_cancel i) r.0) f ∙ r.3))
    (tested (is_cancel i x.what)))
    (among_cons m)

left_at : (i : ℕ) (P Q : List Event) (e : Event) → has_event (is_cancel i) P ≡ false → IsAmong e (until_left i (P ++ e ∷ Q))
left_at i [] Q e none = here _
left_at i (x ∷ P) Q e none =
    let n = neither (is_cancel i x.what) (has_event (is_cancel i) P) none in
    there x (subst (λ b. IsAmong e (if b then [] else until_left i (P ++ e ∷ Q))) (sym n.0) (left_at i P Q e n.1))

pub was_in_so : (L : List Event) (k i : ℕ) → Decides (was_in L k i) (WasIn L k i)
was_in_so L k i = Decides-to (was_in L k i)
    (λ f. let l = left_found i L f.0 f.1 in (l.0, l.1, f.0, l.2, f.2, l.3))
    (λ w. (w.2, subst (λ l. IsAmong w.2 (until_left i l)) (sym w.3) (left_at i w.0 w.1 w.2 w.5), w.4))
    (any_so (is_turn L k) (IsTurn L k) (turn_so L k) (until_left i L))
