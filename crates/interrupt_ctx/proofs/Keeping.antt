-- Each step keeps the rule, and tells what it is to tell.
use Rattle.std.proofs.Common.{◌≡◌, ◌≢◌, inl, inr, ℕ, zero, suc, ◌+◌, ◌<◌, ◌≤◌, Bool, true, false, true≢false, cond, List, [], ◌∷◌, ◌++◌, Option, Some, None, length, replicate, refl, sym, ap, ◌∙◌, subst, ⊎_elim, lt_of_not-le, eq-eqb, ne_eqb, arith}
use Rattle.std.specs.Prelude.{◌==◌, ◌&&◌, not, slice_index, slice_set}
use Rattle.std.proofs.lemmas.Bool.{cases_eq}
use Rattle.std.proofs.lemmas.List.{get_or-set_same, get_or-set_other, get_or-replicate, get_or_past, length-replicate, length-set, set-get_or}
use mathlib.Core.Logic.{dite}
use mathlib.Core.Option.{none, some-ne-none, some-injective}
use native.Mathlib.Decide.{dec_le}
use prog.Atomic.{either}
use Rattle.chunk_core.specs.Lists.{IsAmong}
use Rattle.chunk_core.specs.Totals.{IsAt, total}
use Rattle.chunk_core.proofs.Members.{among_nil, among_snoc}
use Rattle.chunk_core.proofs.Filters.{among_append}
use Rattle.chunk_core.proofs.Places.{at_set}
use Rattle.chunk_core.proofs.Totals.{each, total_append, total_at, total_none, total_push, total_set}
use Rattle.chunk_core.proofs.Changes.{each_more, each_two, total_both, total_more}
use Rattle.atomic_table.specs.Table.{Act, Allows, Joins, Me, Splits, State, Valid, carried_after, keeps, step, stepped}
use Rattle.atomic_table.proofs.Lists.{exchanged}
use Rattle.interrupt_ctx.specs.declared.view.Interruption.{Interruption}
use Rattle.interrupt_ctx.specs.declared.view.View.{View}
use Rattle.interrupt_ctx.specs.declared.why.Stop.{Stop}
use Rattle.interrupt_ctx.specs.Codes.{code_of, word_of}
use Rattle.interrupt_ctx.specs.Views.{Knows, context_times, first_view, giving, interruption, joined, blank_view, split_off, with_seen, with_set}
use Rattle.interrupt_ctx.specs.Rule.{BoardRule, SeatsAgree, WordsAgree, first_count, out_count, sets_of}
use Rattle.interrupt_ctx.specs.Steps.{LearnTells, OwnTells, RootTells, SetTells, looked, looked_up}
use Rattle.interrupt_ctx.proofs.Words.{code_of-positive}
use Rattle.interrupt_ctx.proofs.Holding.{finds, mine, none_set, noted_told, of_one_board, only, out_one}

abbrev rule : ℕ → State ℕ View → Type 0
rule n s = BoardRule n s.words s.views

pub begins : (n : ℕ) (words : List ℕ) → words ≡ replicate n 0 → BoardRule n words (first_view ∷ [])
begins n words e = record {
  words_agree = record {
    count = ap length e ∙ length-replicate n 0;
    coded = λ i. (None, zeros i);
    once = λ i le. let z = zeros i in absurd (omega arith);
    told = λ p v at i stop k. absurd (nothing p v at i stop k);
  };
  seats_agree = record {
    one = refl;
    out = λ p v at f. ap (λ (u : View). u.out) (first p v at);
    taken_in = λ p v at d. absurd (true≢false (sym (ap (λ (u : View). u.live) (first p v at)) ∙ d));
  };
}
  where
    zeros : (i : ℕ) → slice_index words i ≡ 0
    zeros i = ap (λ l. slice_index l i) e ∙ dite (dec_le n i) (λ le. let l : length (replicate {A = ℕ} n 0) ≡ n = length-replicate n 0 in get_or_past (replicate n 0) i 0 (omega arith)) (λ more. get_or-replicate n i 0 0 (lt_of_not-le more))

    first : (p : ℕ) (v : View) → IsAt (first_view ∷ []) p v → v ≡ first_view
    first zero v at = sym (some-injective first_view v at)
    first (suc p) v at = absurd (some-ne-none v (sym at))

    nothing : (p : ℕ) (v : View) → IsAt (first_view ∷ []) p v → (i : ℕ) (stop : Stop) → Knows v i stop → ⊥
    nothing p v at i stop k = ⊎_elim (λ a. among_nil a) (λ a. among_nil a) (subst (λ u. Knows u i stop) (first p v at) k)

-- a view changes that stays in use, and stays the first or another
seats_stay : (views : List View) (p : ℕ) (v w : View) → IsAt views p v → SeatsAgree views → v.live ≡ true → w.first ≡ v.first → w.live ≡ v.live → w.out ≡ v.out → SeatsAgree (slice_set views p w)
seats_stay views p v w at h live f l o =
    let firsts : total first_count (slice_set views p w) ≡ total first_count views = let t = total_set first_count views p v w at in let e : first_count w ≡ first_count v = λ k. cond (f k) 1 0 in omega arith in
    let outs : total out_count (slice_set views p w) ≡ total out_count views = let t = total_set out_count views p v w at in let e : out_count w ≡ out_count v = λ k. cond (l k && not (f k)) 1 0 in omega arith in
    record {
      one = firsts ∙ h.one;
      out = each views p w (λ i u. u.first ≡ true → u.out ≡ total out_count (slice_set views p w)) (λ g. o ∙ h.out p v at (sym f ∙ g) ∙ sym outs) (λ i u _ e g. h.out i u e g ∙ sym outs);
      taken_in = each views p w (λ i u. u.live ≡ false → u ≡ blank_view) (λ d. absurd (true≢false (sym live ∙ sym l ∙ d))) (λ i u _ e. h.taken_in i u e);
    }

-- a view changes that has set what it had, and no word
words_stay : (n : ℕ) (words : List ℕ) (views : List View) (p : ℕ) (v w : View) → IsAt views p v → WordsAgree n words views → w.set ≡ v.set
    → ((i : ℕ) (stop : Stop) → IsAmong (interruption i stop) w.seen → slice_index words i ≡ code_of stop) → WordsAgree n words (slice_set views p w)
words_stay n words views p v w at h s seen = record {
  count = h.count;
  coded = h.coded;
  once = λ i le. let t = total_set (sets_of i) views p v w at in let e : sets_of i w ≡ sets_of i v = ap (context_times i) s in let o = h.once i le in omega arith;
  told = each views p w (λ q u. (i : ℕ) (stop : Stop) → Knows u i stop → slice_index words i ≡ code_of stop)
      (λ i stop k. ⊎_elim (λ a. h.told p v at i stop (inl (subst (IsAmong (interruption i stop)) s a))) (seen i stop) k)
      (λ q u _ e. h.told q u e);
}

-- the word was 0 and becomes a code, which the view has set
words_set : (n : ℕ) (words : List ℕ) (views : List View) (p : ℕ) (v : View) (i : ℕ) (stop : Stop) → IsAt views p v → i < n → WordsAgree n words views → slice_index words i ≡ 0
    → WordsAgree n (slice_set words i (code_of stop)) (slice_set views p (with_set v i stop))
words_set n words views p v i stop at lt h z =
    let w = with_set v i stop in
    let ws = slice_set words i (code_of stop) in
    let here : slice_index ws i ≡ code_of stop = get_or-set_same words i (code_of stop) 0 (let e = h.count in omega arith) in
    let there : (j : ℕ) → j ≢ i → slice_index ws j ≡ slice_index words j = λ j ne. get_or-set_other words i j (code_of stop) 0 ne in
    let old : (j : ℕ) (y : Stop) → slice_index words j ≡ code_of y → slice_index ws j ≡ code_of y =
    λ j y e. there j (λ same. let f : slice_index words j ≡ 0 = ap (slice_index words) same ∙ z in let one = code_of-positive y in omega arith) ∙ e in
    record {
      count = length-set words i (code_of stop) ∙ h.count;
      coded = λ j. ⊎_elim (λ (e : j ≡ i). (Some stop, ap (slice_index ws) e ∙ here)) (λ (ne : j ≢ i). let c = h.coded j in (c.0, there j ne ∙ c.1)) (cases_eq j i);
      once = λ j le.
          let t = total_set (sets_of j) views p v w at in
          let more : sets_of j w ≡ sets_of j v + cond {A = ℕ} (i == j) 1 0 = total_push (λ (x : Interruption). cond (x.context == j) 1 0) v.set (interruption i stop) in
          ⊎_elim
          (λ (e : j ≡ i).
          let none_yet = total_none (sets_of j) views (λ q u a. none_set h j (ap (slice_index words) e ∙ z) q u a) in
          let one : cond {A = ℕ} (i == j) 1 0 ≡ 1 = ap (λ (b : Bool). cond {A = ℕ} b 1 0) (eq-eqb i j (sym e)) in
          let m = total_at (sets_of j) views p v at in omega arith)
          (λ (ne : j ≢ i).
          let same : cond {A = ℕ} (i == j) 1 0 ≡ 0 = ap (λ (b : Bool). cond {A = ℕ} b 1 0) (ne_eqb i j (λ e. ne (sym e))) in
          let o = h.once j (subst (λ k. 1 ≤ k) (there j ne) le) in omega arith)
          (cases_eq j i);
      told = each views p w (λ q u. (j : ℕ) (y : Stop) → Knows u j y → slice_index ws j ≡ code_of y)
          (λ j y k. ⊎_elim
          (λ a. ⊎_elim (λ b. old j y (h.told p v at j y (inl b)))
          (λ (e : interruption j y ≡ interruption i stop). ap (λ (x : Interruption). slice_index ws x.context) e ∙ here ∙ sym (ap (λ (x : Interruption). code_of x.stop) e))
          (among_snoc v.set (interruption j y) (interruption i stop) a))
          (λ b. old j y (h.told p v at j y (inr b))) k)
          (λ q u _ e j y k. old j y (h.told q u e j y k));
    }

-- a load writes what it found
load_is : (words : List ℕ) (i : ℕ) → slice_set words i (slice_index words i) ≡ words
load_is words i = set-get_or words i 0

-- what was found in a context is noted, and no word changes
sees : (n p i j : ℕ) (v w : View) (s : State ℕ View) → rule n s → IsAt s.views p v → v.live ≡ true → w.set ≡ v.set → w.first ≡ v.first → w.live ≡ v.live → w.out ≡ v.out
    → ((i : ℕ) (stop : Stop) → IsAmong (interruption i stop) w.seen → slice_index s.words i ≡ code_of stop)
    → BoardRule n (slice_set s.words j (slice_index s.words j)) (slice_set s.views p w)
sees n p i j v w s h at live set' f l o seen = subst (λ ws. BoardRule n ws (slice_set s.views p w)) (sym (load_is s.words j))
    record { words_agree = words_stay n s.words s.views p v w at h.words_agree set' seen; seats_agree = seats_stay s.views p v w at h.seats_agree live f l o }

pub looks_at_own : (n slots p i : ℕ) (me : Me ℕ View) → me.0.live ≡ true → Allows (rule n) slots p me i (λ x. x) (OwnTells (step slots i 0 0 none) me)
looks_at_own n slots p i me live s h _ at _ =
    let f = h.words_agree.coded i in
    (looked me.0 i f.0, keeps, tt, sees n p i i me.0 (looked me.0 i f.0) s h at live refl refl refl refl (noted_told h.words_agree p me.0 at i f.0 f.1), (refl, (f.0, finds h p me at i f.0 f.1, refl)))

pub looks_at_root : (n slots p : ℕ) (me : Me ℕ View) → me.0.live ≡ true → Allows (rule n) slots p me 0 (λ x. x) (RootTells (step slots 0 0 0 none) me)
looks_at_root n slots p me live s h _ at _ =
    let f = h.words_agree.coded 0 in
    (looked_up me.0 f.0, keeps, tt, sees n p 0 0 me.0 (looked_up me.0 f.0) s h at live refl refl refl refl (noted_told h.words_agree p me.0 at 0 f.0 f.1), (refl, (f.0, finds h p me at 0 f.0 f.1, refl)))

pub learns : (n slots p : ℕ) (me : Me ℕ View) → me.0.live ≡ true → Allows (rule n) slots p me 0 (λ x. x) (LearnTells (step slots 0 0 0 none) me)
learns n slots p me live s h _ at _ =
    (me.0, keeps, tt, sees n p 0 0 me.0 me.0 s h at live refl refl refl refl (λ i stop a. h.words_agree.told p me.0 at i stop (inr a)), (refl, of_one_board h.words_agree p me.0 at, λ first alone i stop k. mine h p me.0 at first alone i stop (h.words_agree.told p me.0 at i stop k)))

-- the step of `set`, by what it finds
set_step : (n slots p i c : ℕ) (stop : Stop) (me : Me ℕ View) (s : State ℕ View) → c ≡ code_of stop → me.0.live ≡ true → i < n → rule n s → IsAt s.views p me.0 → (found : Option Stop) → slice_index s.words i ≡ word_of found
    → (w : View) × (a : Act ℕ) × Valid s.homes me.1 a × rule n (stepped s i (either (slice_index s.words i == 0) c (slice_index s.words i)) p me.1 w a) × SetTells (step slots i 0 c none) me (slice_index s.words i) (w, carried_after me.1 a)
set_step n slots p i c stop me s e live lt h at None is =
    let w = with_set me.0 i stop in
    let rest = seats_stay s.views p me.0 w at h.seats_agree live refl refl refl in (
      w,
      keeps,
      tt,
      exchanged (slice_index s.words i) 0 c (λ x. BoardRule n (slice_set s.words i x) (slice_set s.views p w))
          (λ _. subst (λ x. BoardRule n (slice_set s.words i x) (slice_set s.views p w)) (sym e) record { words_agree = words_set n s.words s.views p me.0 i stop at lt h.words_agree is; seats_agree = rest })
          (λ ne. absurd (ne is)),
      (refl, (None, finds h p me at i None is, (stop, e, refl))),
    )
set_step n slots p i c stop me s e live lt h at (Some there) is =
    let w = with_seen me.0 i (Some there) in
    let one = code_of-positive there in (
      w,
      keeps,
      tt,
      exchanged (slice_index s.words i) 0 c (λ x. BoardRule n (slice_set s.words i x) (slice_set s.views p w))
          (λ z. absurd (omega arith))
          (λ _. sees n p i i me.0 w s h at live refl refl refl refl (noted_told h.words_agree p me.0 at i (Some there) is)),
      (refl, (Some there, finds h p me at i (Some there) is, refl)),
    )

pub sets : (n slots p i c : ℕ) (stop : Stop) (me : Me ℕ View) → c ≡ code_of stop → me.0.live ≡ true → i < n → Allows (rule n) slots p me i (λ x. either (x == 0) c x) (SetTells (step slots i 0 c none) me)
sets n slots p i c stop me e live lt s h _ at _ = let f = h.words_agree.coded i in set_step n slots p i c stop me s e live lt h at f.0 f.1

pub splits : (n p : ℕ) (v : View) → v.first ≡ true → v.live ≡ true → Splits (rule n) p v (giving v) (split_off v)
splits n p v first live s h at =
    let a = giving v in
    let b = split_off v in
    let views = slice_set s.views p a ++ b ∷ [] in
    let outs : total out_count views ≡ total out_count s.views + 1 = let t = total_more s.views p v a b at out_count in omega arith in
    record {
      words_agree = record {
        count = h.words_agree.count;
        coded = h.words_agree.coded;
        once = λ i le. let t = total_more s.views p v a b at (sets_of i) in let o = h.words_agree.once i le in omega arith;
        told = each_more s.views p v a b at (λ q u. (i : ℕ) (stop : Stop) → Knows u i stop → slice_index s.words i ≡ code_of stop)
            (h.words_agree.told p v at)
            (λ q u _ e. h.words_agree.told q u e)
            (λ i stop k. ⊎_elim (λ m. absurd (among_nil m)) (λ m. h.words_agree.told p v at i stop (among_append (interruption i stop) v.set v.seen m)) k);
      };
      seats_agree = record {
        one = let t = total_more s.views p v a b at first_count in let o = h.seats_agree.one in omega arith;
        out = each_more s.views p v a b at (λ q u. u.first ≡ true → u.out ≡ total out_count views)
            (λ _. let o = h.seats_agree.out p v at first in omega arith)
            (λ q u far e f. absurd (far (only s.views h.seats_agree q p u v e at f first)))
            (λ f. absurd (true≢false (sym f)));
        taken_in = each_more s.views p v a b at (λ q u. u.live ≡ false → u ≡ blank_view) (λ d. absurd (true≢false (sym live ∙ d))) (λ q u _ e. h.seats_agree.taken_in q u e) (λ d. absurd (true≢false d));
      };
    }

pub joins : (n p : ℕ) (v : View) (other : ℕ) (u : View) → v.first ≡ true → v.live ≡ true → u.live ≡ true → Joins (rule n) p v other u (joined v u) blank_view
joins n p v other u first live live' s h at apart at'' =
    let a = joined v u in
    let ne : p ≢ other = λ e. apart (sym e) in
    let at' : IsAt s.views other u = ⊎_elim (λ x. absurd (apart x.0)) (λ x. x.1) (at_set s.views p other a u at'') in
    let views = slice_set (slice_set s.views p a) other blank_view in
    let rest : u.first ≡ false = not_first u.first (λ f. apart (only s.views h.seats_agree other p u v at' at f first)) in
    let outs : total out_count views + 1 ≡ total out_count s.views = let t = total_both s.views p other v u a blank_view at at' ne out_count in let o = out_one u live' rest in omega arith in
    record {
      words_agree = record {
        count = h.words_agree.count;
        coded = h.words_agree.coded;
        once = λ i le.
            let t = total_both s.views p other v u a blank_view at at' ne (sets_of i) in
            let both : sets_of i a ≡ sets_of i v + sets_of i u = total_append (λ (x : Interruption). cond (x.context == i) 1 0) v.set u.set in
            let o = h.words_agree.once i le in omega arith;
        told = each_two s.views p other v u a blank_view at at' ne (λ q y. (i : ℕ) (stop : Stop) → Knows y i stop → slice_index s.words i ≡ code_of stop)
            (λ i stop k. ⊎_elim (λ m. ⊎_elim (λ b. h.words_agree.told p v at i stop (inl b)) (λ b. h.words_agree.told other u at' i stop (inl b)) (among_append (interruption i stop) v.set u.set m))
            (λ m. ⊎_elim (λ b. h.words_agree.told p v at i stop (inr b)) (λ b. h.words_agree.told other u at' i stop (inr b)) (among_append (interruption i stop) v.seen u.seen m)) k)
            (λ i stop k. ⊎_elim (λ m. absurd (among_nil m)) (λ m. absurd (among_nil m)) k)
            (λ q y _ _ e. h.words_agree.told q y e);
      };
      seats_agree = record {
        one = let t = total_both s.views p other v u a blank_view at at' ne first_count in let o = h.seats_agree.one in let z : first_count u ≡ 0 = ap (λ b. cond b 1 0) rest in omega arith;
        out = each_two s.views p other v u a blank_view at at' ne (λ q y. y.first ≡ true → y.out ≡ total out_count views)
            (λ _. let o = h.seats_agree.out p v at first in omega arith)
            (λ f. absurd (true≢false (sym f)))
            (λ q y far _ e f. absurd (far (only s.views h.seats_agree q p y v e at f first)));
        taken_in = each_two s.views p other v u a blank_view at at' ne (λ q y. y.live ≡ false → y ≡ blank_view) (λ d. absurd (true≢false (sym live ∙ d))) (λ _. refl) (λ q y _ _ e. h.seats_agree.taken_in q y e);
      };
    }
  where
    not_first : (b : Bool) → (b ≡ true → ⊥) → b ≡ false
    not_first true f = absurd (f refl)
    not_first false f = refl
