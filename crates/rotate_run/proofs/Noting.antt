-- What a rotation noted, when its root is closed.
use Rattle.std.proofs.Common.{◌≡◌, ℕ, ◌+◌, ◌<◌, ◌≤◌, Bool, true, false, not, ◌&&◌, ◌||◌, cond, nat_eq, List, [], ◌∷◌, ◌++◌, length, map, filter, Option, refl, sym, ap, ◌∙◌, subst, ⊎_elim, arith, append_assoc, append-nil, length-append}
use Rattle.std.specs.List.{list_any as any}
use Rattle.std.proofs.lemmas.List.{length-map}
use Rattle.chunk_core.specs.declared.code.Exit.{Exit}
use Rattle.chunk_core.specs.declared.code.How.{How}
use Rattle.chunk_core.specs.Outcomes.{exit_of}
use Rattle.chunk_core.specs.Lists.{IsAmong}
use Rattle.chunk_core.specs.Lists.IsAmong.{here, there}
use Rattle.chunk_core.proofs.Bools.{both}
use Rattle.chunk_core.proofs.Filters.{among_append}
use Rattle.chunk_core.proofs.Members.{among_cons, among_left, among_nil}
use Rattle.res_ledger.specs.declared.event.StreamNo.TheVariants.{Inner}
use Rattle.res_ledger.specs.declared.event.What.{What}
use Rattle.res_ledger.specs.declared.event.What.TheVariants.{Acquire, Close}
use Rattle.res_ledger.specs.declared.event.Event.{Event}
use Rattle.res_ledger.specs.Judge.{is_noted}
use Rattle.res_ledger.specs.Ledger.{Notes}
use Rattle.res_ledger.specs.Order.{finals}
use Rattle.res_ledger.specs.Own.{closes, closes_of, leased_of, opens, own, rows}
use Rattle.res_ledger.specs.Streams.{same_stream}
use Rattle.res_ledger.specs.Whole.{is_final}
use Rattle.res_ledger.proofs.Noted.{flat_holds, notes_own}
use Rattle.res_ledger.proofs.Scopes.{own_append}
use Rattle.device_port.specs.Device.{DeviceTold}
use Rattle.row_seat.specs.declared.view.View.{View}
use Rattle.row_seat.specs.Views.{IsLedgerOf}
use Rattle.scope_tree.specs.declared.branch.Spent.{Spent}
use Rattle.scope_tree.specs.Calls.{AtStart, ClosesScope, IsClosedScope, IsOpenScope, Seen}
use Rattle.scope_tree.specs.Trace.{trace}
use Rattle.scope_tree.proofs.Bridge.{opens_append, rows_append}
use Rattle.scope_tree.proofs.Grown.{closes_finals, opens_finals, rows_finals}
use Rattle.scope_tree.proofs.Tidy.{ledger_by, own_by}
use Rattle.tree_laws.specs.Alone.{StaysAlone}
use Rattle.tree_laws.specs.Called.{Called}
use Rattle.tree_laws.specs.Called.Called.{closed}
use Rattle.tree_laws.specs.Whole.{IsWholeLedger}
use Rattle.tree_laws.proofs.Alone.{alone_closes, alone_then, alone_whole}
use Rattle.tree_laws.proofs.Kept.{called_rises}
use Rattle.tree_laws.proofs.Said.{called_ends}
use Rattle.pull_stepper.specs.Held.{FinishesDevice}
use Rattle.hot_swap.specs.declared.swap.Held.{Held}
use Rattle.hot_swap.specs.TwoRows.{NotesSwaps, has_final, rows_open}
use Rattle.hot_swap.proofs.TwoRows.{along, few_pass, fewer_pass, one_open, open_more, two_fronts}
use Rattle.job_runs.proofs.Closing.{ShelfTells}
use Rattle.lone_stream.specs.Account.{IsAccount}
use Rattle.lone_stream.proofs.Closing.{account}
use Rattle.rotate_rules.specs.Rotation.{HoldsTwo, open_files}

-- What is open at each position.

-- the rows but row 0 that were acquired and have no Final
abbrev open_in : List What → List ℕ
open_in E = filter (λ r. not (nat_eq r 0) && not (has_final E r)) (map (λ x. x.0) (rows E))

-- of a ledger that stream 0 alone noted
any_own : (P : List Event) → ((e : Event) → IsAmong e P → e.by ≡ Inner 0) → (p : What → Bool) → is_noted p P ≡ any p (own (Inner 0) P)
any_own [] h p = refl
any_own (e ∷ P) h p =
    let mine : same_stream e.by (Inner 0) ≡ true = ap (λ k. same_stream k (Inner 0)) (h e (here P)) in
    ap (λ b. p e.what || b) (any_own P (λ x m. h x (there e m)) p) ∙ ap (λ b. any p (cond b (e.what ∷ own (Inner 0) P) (own (Inner 0) P))) (sym mine)

open_own : (P : List Event) → ((e : Event) → IsAmong e P → e.by ≡ Inner 0) → length (open_files P) ≤ length (open_in (own (Inner 0) P))
open_own P h =
    fewer_pass (λ r. not (nat_eq r 0) && not (is_noted (is_final r) P)) (λ r. not (nat_eq r 0) && not (has_final (own (Inner 0) P) r)) (map (λ x. x.0) (rows (own (Inner 0) P))) (λ r t. ap (λ b. not (nat_eq r 0) && not b) (sym (any_own P h (is_final r))) ∙ t)

closing_rows : (x : Exit) (fs : List (ℕ × Bool)) → rows (Close 0 x ∷ finals x fs) ≡ []
closing_rows x fs = rows_finals x fs

none_in : (xs ys : List (ℕ × ℕ)) → xs ++ ys ≡ [] → length xs ≡ 0
none_in [] ys e = refl
none_in (x ∷ xs) ys e = absurd cc

-- what is noted behind the swaps acquires nothing
none_behind : (x : Exit) (fs : List (ℕ × Bool)) (Z B : List What) → Close 0 x ∷ finals x fs ≡ Z ++ B → length (rows Z) ≡ 0
none_behind x fs Z B e = none_in (rows Z) (rows B) (sym (rows_append Z B) ∙ (ap rows (sym e) ∙ closing_rows x fs))

-- at most two along swaps and a close
two_in_swaps : {h : Option Held} (swaps A B : List What) (x : Exit) (fs : List (ℕ × Bool)) → NotesSwaps swaps h → swaps ++ Close 0 x ∷ finals x fs ≡ A ++ B → length (rows_open A) ≤ 2
two_in_swaps swaps A B x fs n e =
    ⊎_elim
    (λ z. along A z.0 n z.1)
    (λ z.
    let none = none_behind x fs z.0 B z.2 in
    let one = one_open n in
    let more = open_more swaps z.0 in
    let same = ap (λ l. length (rows_open l)) z.1 in
    omega (arith, none, one, more, same))
    (two_fronts swaps (Close 0 x ∷ finals x fs) A B e)

same_head : {A : Type 0} (x y : A) (xs ys : List A) → x ∷ xs ≡ y ∷ ys → (x ≡ y) × (xs ≡ ys)
same_head x y xs ys e = (cc, cc)

-- behind the Acquire of row 0
two_files_in : {h : Option Held} (swaps A B : List What) (x : Exit) (fs : List (ℕ × Bool)) → NotesSwaps swaps h → A ++ B ≡ Acquire 0 0 ∷ (swaps ++ Close 0 x ∷ finals x fs) → length (open_in A) ≤ 2
two_files_in swaps [] B x fs n e = omega arith
two_files_in swaps (a ∷ A) B x fs n e =
    let t = same_head a (Acquire 0 0) (A ++ B) (swaps ++ Close 0 x ∷ finals x fs) e in
    let few = two_in_swaps swaps A B x fs n (sym t.1) in
    let less = fewer_pass (λ r. not (nat_eq r 0) && not (has_final (Acquire 0 0 ∷ A) r)) (λ r. not (has_final A r)) (map (λ (y : ℕ × ℕ). y.0) (rows A)) (λ r u. (both (not (nat_eq r 0)) (not (has_final A r)) u).1) in
    let first : length (open_in (Acquire 0 0 ∷ A)) ≤ 2 = omega (arith, few, less) in
    subst (λ y. length (open_in (y ∷ A)) ≤ 2) (sym t.0) first

-- where nothing was acquired
two_of_none : (A B : List What) (x : Exit) (fs : List (ℕ × Bool)) → A ++ B ≡ Close 0 x ∷ finals x fs → length (open_in A) ≤ 2
two_of_none A B x fs e =
    let none = none_behind x fs A B (sym e) in
    let size = length-map (rows A) (λ (y : ℕ × ℕ). y.0) in
    let few = few_pass (λ r. not (nat_eq r 0) && not (has_final A r)) (map (λ (y : ℕ × ℕ). y.0) (rows A)) in
    omega (arith, none, size, few)

no_close : (x : Exit) (fs : List (ℕ × Bool)) (s : ℕ) (y : Exit) → IsAmong (Close s y) (finals x fs) → ⊥
no_close x fs s y m = among_nil (subst (λ l. IsAmong s l) (closes_finals x fs) (flat_holds closes_of (Close s y) (finals x fs) s m (here [])))

same_exit_of : (s : ℕ) (x y : Exit) → Close s y ≡ Close s x → y ≡ x
same_exit_of s x y e = cc

module _ {V : Type 0} (told : V → DeviceTold) (first tree : Seen V) (start : AtStart first.seat) (named : first.seat.by ≡ Inner 0) (bare : first.shelf ≡ []) (calls : Called (FinishesDevice told) first [] tree) (alone : StaysAlone first.seat tree.seat)
    (few : length (opens (trace tree.seat)) ≤ 1024) (root : IsOpenScope tree 0) (never : ¬ (IsAmong 0 (closes (trace tree.seat)))) (how : How) (x : Exit) (exit : x ≡ exit_of how) (v : View V) (shelf : List (Spent V)) (L : List Event)
    (closes_it : ClosesScope (FinishesDevice told) tree 0 x (record tree { seat = v; shelf = shelf })) (shut : IsClosedScope (record tree { seat = v; shelf = shelf }) 0) (fs : List (ℕ × Bool)) (noted : trace v ≡ trace tree.seat ++ Close 0 x ∷ finals x fs) (ledger : IsLedgerOf v L) where
  abbrev last : Seen V
  last = record tree { seat = v; shelf = shelf }

  all_calls : Called (FinishesDevice told) first [] last
  all_calls = closed tree last 0 x calls root closes_it

  all_alone : StaysAlone first.seat v
  all_alone = alone_then first.seat tree.seat v alone (alone_closes closes_it)

  name : v.by ≡ Inner 0
  name = all_alone.by ∙ named

  whole : IsWholeLedger L
  whole = alone_whole L start all_calls all_alone shut ledger

  -- what the ledger has is what the stream noted
  own_is : own (Inner 0) L ≡ trace v
  own_is = subst (λ k. own k L ≡ trace v) name (own_by v.by L ∙ ap (map (λ (e : Event). e.what)) (ledger_by v L v.by ledger (called_rises start all_calls)) ∙ sym (own_by v.by v.events))

  opened : length (opens (own (Inner 0) L)) ≤ 1024
  opened =
      let parts : opens (trace v) ≡ opens (trace tree.seat) ++ [] = ap opens noted ∙ (opens_append (trace tree.seat) (Close 0 x ∷ finals x fs) ∙ ap (λ l. opens (trace tree.seat) ++ l) (opens_finals x fs)) in
      let same = ap length (ap opens own_is ∙ (parts ∙ append-nil (opens (trace tree.seat)))) in
      omega (arith, same, few)

  mine : (e : Event) → IsAmong e v.events → (e.by ≡ v.by) × (leased_of e.what ≡ [])
  mine e m = ⊎_elim (λ i. absurd (among_nil (subst (λ l. IsAmong e l) start.events i))) (λ k. k) (all_alone.events e m)

  exits : (y : Exit) → Notes v.events v.by (Close 0 y) → y ≡ exit_of how
  exits y n =
      ⊎_elim
      (λ i. absurd (never (flat_holds closes_of (Close 0 y) (trace tree.seat) 0 i (here []))))
      (λ i. ⊎_elim (λ e. same_exit_of 0 x y e ∙ exit) (λ z. absurd (no_close x fs 0 y z)) (among_cons i))
      (among_append (Close 0 y) (trace tree.seat) (Close 0 x ∷ finals x fs) (subst (λ l. IsAmong (Close 0 y) l) noted (notes_own v.events v.by (Close 0 y) n)))

  -- its ledger is that of stream 0 alone
  pub accounts : (count : ℕ) (w : ℕ → DeviceTold) → ShelfTells 0 count w shelf → IsAccount count 1024 w how L
  accounts count w tells = account v L shelf count 1024 w how name ledger whole opened mine (called_ends start bare all_calls) shut exits tells

  by_0 : (e : Event) → IsAmong e L → e.by ≡ Inner 0
  by_0 e m = (mine e ((ledger.whole e).0 m)).0 ∙ name

  -- at most two files are open, where that is so of each front of what was noted
  pub holds : ((A B : List What) → A ++ B ≡ trace tree.seat ++ Close 0 x ∷ finals x fs → length (open_in A) ≤ 2) → HoldsTwo L
  holds two P Q e is =
      let front : List Event = P ++ e ∷ [] in
      let parts : L ≡ front ++ Q = is ∙ sym (append_assoc P (e ∷ []) Q) in
      let so = open_own front (λ y m. by_0 y (subst (λ l. IsAmong y l) (sym parts) (among_left Q m))) in
      let most = two (own (Inner 0) front) (own (Inner 0) Q) (sym (own_append (Inner 0) front Q) ∙ (ap (λ l. own (Inner 0) l) (sym parts) ∙ (own_is ∙ noted))) in
      omega (arith, so, most)

  pub holds_swaps : {h : Option Held} (swaps : List What) → trace tree.seat ≡ Acquire 0 0 ∷ swaps → NotesSwaps swaps h → HoldsTwo L
  holds_swaps swaps is n = holds (λ A B e. two_files_in swaps A B x fs n (e ∙ ap (λ l. l ++ Close 0 x ∷ finals x fs) is))

  pub holds_none : trace tree.seat ≡ [] → HoldsTwo L
  holds_none is = holds (λ A B e. two_of_none A B x fs (e ∙ ap (λ l. l ++ Close 0 x ∷ finals x fs) is))
