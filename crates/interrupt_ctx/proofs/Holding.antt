-- What follows from the rule.
use Rattle.std.proofs.Common.{◌≡◌, ◌≢◌, inl, inr, ℕ, ◌+◌, ◌≤◌, Bool, true, false, true≢false, cond, List, [], ◌∷◌, Option, Some, None, refl, sym, ap, ◌∙◌, subst, ⊎_elim, ne_eqb, arith}
use Rattle.std.specs.Prelude.{◌&&◌, not, slice_index, is_some}
use Rattle.std.specs.Bool.{OnFalse}
use Rattle.std.proofs.lemmas.Bool.{cases_eq}
use mathlib.Core.Logic.{dite}
use native.Mathlib.Decide.{dec_le}
use Rattle.chunk_core.specs.Lists.{IsAmong}
use Rattle.chunk_core.specs.Lists.IsAmong.{here, there}
use Rattle.chunk_core.specs.Totals.{IsAt}
use Rattle.chunk_core.proofs.Members.{among_left, among_snoc}
use Rattle.chunk_core.proofs.Totals.{one_at, total_at, total_one, total_some}
use Rattle.atomic_table.specs.Seated.{TableId}
use Rattle.atomic_table.specs.Table.{Me}
use Rattle.interrupt_ctx.specs.declared.view.Interruption.{Interruption}
use Rattle.interrupt_ctx.specs.declared.view.View.{View}
use Rattle.interrupt_ctx.specs.declared.why.Stop.{Stop}
use Rattle.interrupt_ctx.specs.Codes.{code_of, word_of}
use Rattle.interrupt_ctx.specs.Views.{FindsKnown, IsOfOneBoard, Knows, context_times, interruption, noted, with_seen}
use Rattle.interrupt_ctx.specs.Rule.{BoardRule, SeatsAgree, WordsAgree, first_count, out_count, sets_of}
use Rattle.interrupt_ctx.specs.Steps.{Finds, looked, looked_up}
use Rattle.interrupt_ctx.specs.Ends.{HasFound, SeatSeen}
use Rattle.interrupt_ctx.proofs.Words.{code_of-injective, code_of-positive, word_of-injective}

-- what stands in a list for the context
pub found_set : (i : ℕ) (xs : List Interruption) → 1 ≤ context_times i xs → (stop : Stop) × IsAmong (interruption i stop) xs
found_set i [] h = absurd (omega arith)
found_set i (x ∷ xs) h = ⊎_elim
    (λ (e : x.context ≡ i). (x.stop, subst (λ c. IsAmong (interruption c x.stop) (x ∷ xs)) e (here xs)))
    (λ (ne : x.context ≢ i). let h' : 1 ≤ 0 + context_times i xs = subst (λ b. 1 ≤ cond b 1 0 + context_times i xs) (ne_eqb x.context i ne) h in let t = found_set i xs (omega arith) in (t.0, there x t.1))
    (cases_eq x.context i)

pub first_some : (v : View) → v.first ≡ true → 1 ≤ first_count v
first_some v e = subst (λ b. 1 ≤ cond b 1 0) (sym e) (omega arith)

pub out_one : (v : View) → v.live ≡ true → v.first ≡ false → out_count v ≡ 1
out_one v l f = λ k. cond (l k && not (f k)) 1 0

module _ {n : ℕ} {words : List ℕ} {views : List View} (h : WordsAgree n words views) where
  -- a context that wasn't interrupted stands in no list
  pub none_set : (i : ℕ) → slice_index words i ≡ 0 → (p : ℕ) (v : View) → IsAt views p v → sets_of i v ≡ 0
  none_set i z p v at = ⊎_elim (λ e. e)
      (λ ne. let t = found_set i v.set (omega arith) in let c = h.told p v at i t.0 (inl t.1) in let one = code_of-positive t.0 in absurd (omega arith))
      (cases_eq (sets_of i v) 0)

  pub of_one_board : (p : ℕ) (v : View) → IsAt views p v → IsOfOneBoard v
  of_one_board p v at = record {
    one_cause = λ i stop other a b.
        let one : slice_index words i ≡ code_of stop = h.told p v at i stop a in
        let two : slice_index words i ≡ code_of other = h.told p v at i other b in
        code_of-injective stop other (sym one ∙ two);
    set_once = λ i. dite (dec_le 1 (slice_index words i))
        (λ le. let o = h.once i le in let t = total_at (sets_of i) views p v at in omega arith)
        (λ more. let z : slice_index words i ≡ 0 = omega arith in let t = none_set i z p v at in omega arith);
  }

  -- what was found in a context and noted is what stands there
  pub noted_told : (p : ℕ) (v : View) → IsAt views p v → (j : ℕ) (found : Option Stop) → slice_index words j ≡ word_of found → (i : ℕ) (stop : Stop) → IsAmong (interruption i stop) (noted v.seen j found)
      → slice_index words i ≡ code_of stop
  noted_told p v at j None is i stop m = h.told p v at i stop (inr m)
  noted_told p v at j (Some stood) is i stop m = ⊎_elim (λ a. h.told p v at i stop (inr a))
      (λ (e : interruption i stop ≡ interruption j stood). ap (λ (x : Interruption). slice_index words x.context) e ∙ is ∙ sym (ap (λ (x : Interruption). code_of x.stop) e))
      (among_snoc v.seen (interruption i stop) (interruption j stood) m)

-- there is one first seat
pub only : (views : List View) → SeatsAgree views → (i j : ℕ) (v w : View) → IsAt views i v → IsAt views j w → v.first ≡ true → w.first ≡ true → i ≡ j
only views h i j v w at at' f g = let o = h.one in total_one first_count views i j v w (omega arith) at at' (first_some v f) (first_some w g)

module _ {n : ℕ} {words : List ℕ} {views : List View} (h : BoardRule n words views) where
  -- while no other seat is out, whoever set a context is the first seat
  setter : (p : ℕ) (v : View) → IsAt views p v → v.first ≡ true → v.out ≡ 0 → (i q : ℕ) (u : View) → IsAt views q u → 1 ≤ sets_of i u → u.first ≡ true
  setter p v at first none i q u at' some = by_cases u.first u.live
      (λ f l. let o = out_one u l f in let t = total_at out_count views q u at' in let s = h.seats_agree.out p v at first in absurd (omega arith))
      (λ l. let e : sets_of i u ≡ 0 = ap (sets_of i) (h.seats_agree.taken_in q u at' l) in absurd (omega arith))
    where
      by_cases : (f l : Bool) → (f ≡ false → l ≡ true → ⊥) → (l ≡ false → ⊥) → f ≡ true
      by_cases true l a b = refl
      by_cases false true a b = absurd (a refl refl)
      by_cases false false a b = absurd (b refl)

  pub mine : (p : ℕ) (v : View) → IsAt views p v → v.first ≡ true → v.out ≡ 0 → (i : ℕ) (stop : Stop) → slice_index words i ≡ code_of stop → IsAmong (interruption i stop) v.set
  mine p v at first none i stop is =
      let one = code_of-positive stop in
      let o = h.words_agree.once i (omega arith) in
      let t = total_some (sets_of i) views (omega arith) in
      let place : t.0 ≡ p = only views h.seats_agree t.0 p t.1 v t.2 at (setter p v at first none i t.0 t.1 t.2 t.3) first in
      let same : t.1 ≡ v = one_at views p t.1 v (subst (λ q. IsAt views q t.1) place t.2) at in
      let f = found_set i v.set (subst (λ u. 1 ≤ sets_of i u) same t.3) in
      let stands : slice_index words i ≡ code_of f.0 = h.words_agree.told p v at i f.0 (inl f.1) in
      subst (λ w. IsAmong (interruption i w) v.set) (code_of-injective f.0 stop (sym stands ∙ is)) f.1

  -- what stands in a word is what a step finds there
  pub finds : (p : ℕ) (me : Me ℕ View) → IsAt views p me.0 → (j : ℕ) (found : Option Stop) → slice_index words j ≡ word_of found → Finds me j (slice_index words j) found
  finds p me at j found is = record {
    is = is;
    known = λ stop k. word_of-injective found (Some stop) (sym is ∙ h.words_agree.told p me.0 at j stop k);
    own = λ first none stop s. mine p me.0 at first none j stop (is ∙ ap word_of s);
  }

-- what a seat knew of context 0 before a look is what the second load finds
pub look_root : (seat : SeatSeen) (id : TableId) (v a b : View) (i : ℕ) (own root : Option Stop) → record { board = id; view = v } ≡ seat → a ≡ looked v i own → FindsKnown a 0 root → b ≡ looked_up a root
    → (stop : Stop) → Knows seat.view 0 stop → b.last.root ≡ Some stop
look_root seat id v a b i own root is first known second stop k =
    let before : Knows v 0 stop = subst (λ (s : SeatSeen). Knows s.view 0 stop) (sym is) k in
    let after : Knows a 0 stop = subst (λ u. Knows u 0 stop) (sym first) (⊎_elim (λ m. inl m) (λ m. inr (still own m)) before) in
    ap (λ (u : View). u.last.root) second ∙ known stop after
  where
    still : (found : Option Stop) → IsAmong (interruption 0 stop) v.seen → IsAmong (interruption 0 stop) (noted v.seen i found)
    still None m = m
    still (Some stood) m = among_left (interruption i stood ∷ []) m

-- the seat has noted what a step found
pub found_told : (old : SeatSeen) (id new_id : TableId) (v w : View) (i : ℕ) (that : Stop) → record { board = id; view = v } ≡ old → new_id ≡ id → w ≡ with_seen v i (Some that) → (let new : SeatSeen = record { board = new_id; view = w } in HasFound old new i that)
found_told old id new_id v w i that is same e =
    (λ k. let s : SeatSeen = record { board = same k; view = e k } in s) ∙ ap (λ (s : SeatSeen). let t : SeatSeen = record s { view = with_seen s.view i (Some that) } in t) is

-- where a call answers false something stood there
pub stood : (answer : Bool) (found : Option Stop) (P : Type 0) → is_some found ≡ not answer → ((that : Stop) → found ≡ Some that → P) → OnFalse answer P
stood true found P e f = tt
stood false (Some that) P e f = f that refl
stood false None P e f = absurd (true≢false (sym e))
