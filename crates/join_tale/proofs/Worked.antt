-- The tale that is written out, step by step, and those that can't be.
use Rattle.std.proofs.Common.{◌≡◌, ℕ, zero, suc, ◌<◌, ◌≤◌, true, false, List, [], ◌∷◌, Some, inl, inr, refl, ap, ⊎_elim, arith}
use Rattle.chunk_core.specs.Lists.{IsAmong}
use Rattle.chunk_core.specs.Lists.IsAmong.{here, there}
use Rattle.chunk_core.proofs.Members.{among_cons, among_nil}
use Rattle.chunk_core.specs.declared.code.Code.TheVariants as code
use Rattle.chunk_core.specs.declared.code.How.{How}
use Rattle.chunk_core.specs.declared.code.How.TheVariants as how
use Rattle.interrupt_ctx.specs.Views.{interruption}
use Rattle.interrupt_ctx.specs.declared.view.Interruption.{Interruption}
use Rattle.interrupt_ctx.specs.declared.why.Why.TheVariants as why
use Rattle.res_ledger.specs.declared.event.StreamNo.TheVariants.{Outer}
use Rattle.run_rules.specs.Facts.{at}
use Rattle.join_tale.specs.Ended.Ended.{halted, told}
use Rattle.join_tale.specs.Keeping.{HasLacked, IsTale}
use Rattle.join_tale.specs.Steps.{MayBegin, TellsEnd, TellsOuter, dropped, ended, ended_late, fated, first_tale, heeded, learned, outer_ended, written}
use Rattle.join_tale.specs.Steps.Marks.{fresh}
use Rattle.join_tale.specs.Tales.{HasCome, IsBegun, Message, Tale, end_of, load_of}
use Rattle.join_tale.specs.Tales.Fate.{Begun, Unmade}
use Rattle.join_tale.specs.Worked.{AreRefused, IsWorked, for_cause, plain_tale, two_streams, worked_tale}
use Rattle.join_tale.proofs.Ending.{ends, ends_late}
use Rattle.join_tale.proofs.Heeding.{heeds}
use Rattle.join_tale.proofs.Parts.{frame_of, no_end, same_end}
use Rattle.join_tale.proofs.Places.{none_some, not_both, some_is}
use Rattle.join_tale.proofs.Receiving.{drops, meets, writes}
use Rattle.join_tale.proofs.Steps.{begins, outer_ends, starts}

not_number : (a b : ℕ) → (a ≡ b → ⊥) → Some a ≡ Some b → ⊥
not_number a b n e = n (some_is a b e)

no_until : (i k : ℕ) → two_streams.until i ≡ Some k → ⊥
no_until zero k e = none_some e
no_until (suc zero) k e = none_some e
no_until (suc (suc i)) k e = none_some e

-- what comes first is no end of k
skip_load : (k j : ℕ) (h : How) (x : List ℕ) (ms : List Message) → IsAmong (end_of k h) (load_of j x ∷ ms) → IsAmong (end_of k h) ms
skip_load k j h x ms m = ⊎_elim (λ e. absurd (no_end k j h x e)) (λ n. n) (among_cons m)

skip_end : (k j : ℕ) (h g : How) (ms : List Message) → (k ≡ j → ⊥) → IsAmong (end_of k h) (end_of j g ∷ ms) → IsAmong (end_of k h) ms
skip_end k j h g ms n m = ⊎_elim (λ e. absurd (n (same_end k j h g e).0)) (λ o. o) (among_cons m)

one_zero : ◌≡◌ {A = ℕ} 1 0 → ⊥
one_zero e = omega (e, arith)

abbrev begun_0 : Tale
begun_0 = fated first_tale Begun

abbrev gave_a : Tale
gave_a = written begun_0 0 (65 ∷ [])

abbrev done_0 : Tale
done_0 = learned (ended gave_a 0 how.Done) [] []

abbrev begun_1 : Tale
begun_1 = fated done_0 Begun

abbrev gave_b : Tale
gave_b = record (learned (written begun_1 1 (66 ∷ [])) (interruption 0 (for_cause why.Take) ∷ []) []) { ceased = true }

abbrev gave_c : Tale
gave_c = dropped gave_b 1 (67 ∷ [])

abbrev done_1 : Tale
done_1 = learned (ended_late gave_c 1 how.Done) [] []

may_0 : MayBegin two_streams first_tale
may_0 = record {
  run = λ k. ⊎_elim (λ s. among_nil s.1) (λ s. among_nil s.1) k;
  own = λ k. ⊎_elim (λ s. among_nil s.1) (λ s. among_nil s.1) k;
  alone = λ w j b. absurd (none_some b);
  room = (omega arith, λ k b. absurd (none_some b.0));
}

may_1 : MayBegin two_streams done_0
may_1 = record {
  run = λ k. ⊎_elim (λ s. among_nil s.1) (λ s. among_nil s.1) k;
  own = λ k. ⊎_elim (λ s. among_nil s.1) (λ s. among_nil s.1) k;
  alone = λ w j b. by_number j b;
  room = (omega arith, λ k b. absurd (b.1 (by_number k b.0)));
}
  where
    by_number : (j : ℕ) → IsBegun done_0 j → HasCome done_0 j
    by_number zero b = (how.Done, inl (there (load_of 0 (65 ∷ [])) (here [])))
    by_number (suc j) b = absurd (none_some b)

-- the end of a stream that is done sets and finds nothing
tells_done : (u : Tale) (k : ℕ) → TellsEnd two_streams u k how.Done []
tells_done u k = record {
  caused = λ c w m. absurd (among_nil m);
  halted = λ e. absurd (not_halted e);
  fault = λ c e. absurd (not_fault c e);
  memory = λ e. absurd (not_memory e);
  until = λ i e. absurd (no_until i k e);
}
  where
    not_halted : how.Done ≡ how.Halted → ⊥
    not_halted e = cc

    not_memory : how.Done ≡ how.Memory → ⊥
    not_memory e = cc

    not_fault : (c : _) → how.Done ≡ how.Fault c → ⊥
    not_fault c e = cc

tale_a : IsTale two_streams gave_a
tale_a = writes two_streams begun_0 0 (65 ∷ []) (begins two_streams first_tale (starts two_streams (not_number 2 0 (λ e. omega (e, arith)))) may_0) (refl, λ c. ⊎_elim (λ m. among_nil m) (λ m. among_nil m) c.1) (omega arith) refl (not_number 2 1 (λ e. omega (e, arith)))

tale_0 : IsTale two_streams done_0
tale_0 = ends two_streams gave_a 0 how.Done [] [] tale_a (refl, λ c. ⊎_elim (λ m. among_nil (skip_load 0 0 c.0 (65 ∷ []) [] m)) (λ m. among_nil m) c.1) refl (tells_done done_0 0)

no_end_1 : (ms : List Message) (h : How) → IsAmong (end_of 1 h) (load_of 0 (65 ∷ []) ∷ end_of 0 how.Done ∷ ms) → IsAmong (end_of 1 h) ms
no_end_1 ms h m = skip_end 1 0 h how.Done ms one_zero (skip_load 1 0 h (65 ∷ []) (end_of 0 how.Done ∷ ms) m)

tale_b : IsTale two_streams gave_b
tale_b = meets two_streams begun_1 1 (66 ∷ []) (begins two_streams done_0 tale_0 may_1) (refl, λ c. ⊎_elim (λ m. among_nil (no_end_1 [] c.0 m)) (λ m. among_nil m) c.1) (omega arith) (interruption 0 (for_cause why.Take) ∷ []) [] refl fresh refl refl

tale_c : IsTale two_streams gave_c
tale_c = drops two_streams gave_b 1 (67 ∷ []) tale_b (refl, λ c. ⊎_elim (λ m. among_nil (skip_load 1 1 c.0 (66 ∷ []) [] (no_end_1 (load_of 1 (66 ∷ []) ∷ []) c.0 m))) (λ m. among_nil m) c.1) (omega arith) refl

tale_1 : IsTale two_streams done_1
tale_1 = ends_late two_streams gave_c 1 how.Done [] [] tale_c
    (refl, λ c. ⊎_elim (λ m. among_nil (skip_load 1 1 c.0 (66 ∷ []) [] (no_end_1 (load_of 1 (66 ∷ []) ∷ []) c.0 m))) (λ m. among_nil (skip_load 1 1 c.0 (67 ∷ []) [] m)) c.1)
    refl (tells_done done_1 1)

-- the outer stream is halted by it
abbrev heeding : Tale
heeding = heeded done_1 ((Outer, for_cause why.Take) ∷ [])

tells_found : TellsOuter two_streams (learned (outer_ended heeding how.Halted) [] (interruption 0 (for_cause why.Take) ∷ [])) how.Halted []
tells_found = record {
  caused = λ c w m. absurd (among_nil m);
  halted = λ e. (for_cause why.Take, here [], here []);
  fault = λ c e. absurd (not_fault c e);
  memory = λ e. absurd (not_memory e);
}
  where
    not_memory : how.Halted ≡ how.Memory → ⊥
    not_memory e = cc

    not_fault : (c : _) → how.Halted ≡ how.Fault c → ⊥
    not_fault c e = cc

tale_all : IsTale two_streams worked_tale
tale_all = outer_ends two_streams heeding (heeds two_streams done_1 tale_1 ((Outer, for_cause why.Take) ∷ [])) how.Halted [] (interruption 0 (for_cause why.Take) ∷ []) refl tells_found

pub is_worked : IsWorked
is_worked = record {
  tale = tale_all;
  first = told (there (load_of 0 (65 ∷ [])) (here (load_of 1 (66 ∷ []) ∷ [])));
  second = halted how.Done (there (load_of 1 (67 ∷ [])) (here [])) (λ e. cc) (λ e z. cc) refl;
}

-- no end came, and the only stream was begun
lacks_nothing : HasLacked two_streams (record (plain_tale [] (Begun ∷ [])) { set = interruption 0 (for_cause why.Memory) ∷ []; ceased = true; memory = true }) → ⊥
lacks_nothing h = ⊎_elim
    (λ m. ⊎_elim (λ n. among_nil n) (λ n. among_nil n) m.1)
    (λ y. ⊎_elim (λ o. none_some o) (λ z. ⊎_elim (λ f. begun_alone f.0 f.1) (λ l. no_first l.0 l.1.load l.1.others l.1.late) z) y)
    h
  where
    begun_alone : (k : ℕ) → at (Begun ∷ []) k ≡ Some Unmade → ⊥
    begun_alone zero e = let q : Begun ≡ Unmade = some_is Begun Unmade e in cc
    begun_alone (suc k) e = none_some e

    no_first : (k : ℕ) (x : List ℕ) (ms : List Message) → [] ≡ load_of k x ∷ ms → ⊥
    no_first k x ms e = cc

pub are_refused : AreRefused
are_refused = record {
  halted_for_nothing = λ i. let q = i.ends.halted 0 (inl (here [])) in ⊎_elim (λ f. among_nil f.0) (λ f. among_nil f.0) q.2;
  three_frames = λ i. (let l : 3 ≤ 2 = i.frames.few in omega (l, arith));
  begun_behind_fault = λ i. (let l : 1 ≤ 0 = (i.ends.fault 0 code.Read (inl (here []))).1 refl 1 refl in omega (l, arith));
  never_begun = λ i. none_some (i.frames.ours (load_of 1 (65 ∷ [])) (inl (here []))).0;
  empty_load = λ i. (let l : 0 < 0 = (i.frames.ours (load_of 0 []) (inl (here []))).1 in omega (l, arith));
  ended_twice = λ i. (let e : how.Done ≡ how.Fault code.Read = i.ends.once 0 how.Done (how.Fault code.Read) (inl (here (end_of 0 (how.Fault code.Read) ∷ []))) (inl (there (end_of 0 how.Done) (here []))) in cc);
  frames_fall = λ i. (let l : 1 ≤ 0 = i.frames.in_turn refl (frame_of 1 (65 ∷ []) ∷ []) [] (frame_of 1 (65 ∷ [])) (frame_of 0 (66 ∷ [])) refl (here []) in omega (l, arith));
  wanting_for_nothing = λ i. lacks_nothing (i.lacked refl);
  halted_by_a_later_end = λ i. let told = i.ends.halted 0 (inl (here (end_of 1 how.Done ∷ []))) in ⊎_elim
      (λ f. let e = f.1 refl in let l : e.0 ≤ 0 = e.3 in let q : 1 ≡ e.0 = some_is 1 e.0 e.1 in omega (l, q, arith))
      (λ f. let q : 0 ≡ 1 = (⊎_elim (λ (m : interruption 0 told.0 ≡ interruption 1 (for_cause why.Until)). ap (λ (x : Interruption). x.context) m) (λ n. absurd (among_nil n)) (among_cons f.0)) in omega (q, arith))
      told.2;
  begun_behind_skipped = λ i. ⊎_elim
      (λ f. let q : 1 ≡ 0 = (⊎_elim (λ (m : interruption 1 f.0.0 ≡ interruption 0 (for_cause why.Fault)). ap (λ (x : Interruption). x.context) m) (λ n. absurd (among_nil n)) (among_cons f.0.1)) in one_zero q)
      (λ s. let l : 1 ≤ 0 = s.1 1 (inl refl) in omega (l, arith))
      (i.fates.skipped 0 refl);
  pulled_behind_fault = λ i. among_nil ((i.room.had 1 (inr (here []))).1 0 (omega arith) (inr (inl (inl (code.Read, inl (here []))))));
  goes_on = λ i. not_both false refl (i.frames.met refl);
}
