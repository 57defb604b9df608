-- Those streams are interrupted that are to end with another one.
use Rattle.std.proofs.Common.{◌≡◌, ◌⊎◌, ℕ, zero, suc, ◌+◌, ◌<◌, List, [], ◌∷◌, ◌++◌, refl, sym, ◌∙◌, ap, subst, inl, inr, ⊎_elim, arith, append_assoc, append-nil}
use Rattle.chunk_core.specs.Lists.{IsAmong}
use Rattle.chunk_core.specs.Lists.IsAmong.{here}
use Rattle.chunk_core.proofs.Filters.{among_append, among_right}
use Rattle.chunk_core.proofs.Members.{among_cons, among_left, among_nil}
use Rattle.interrupt_ctx.specs.Views.{interruption}
use Rattle.interrupt_ctx.specs.declared.view.Interruption.{Interruption}
use Rattle.interrupt_ctx.specs.declared.why.Stop.{Stop}
use Rattle.join_report.specs.Stopping.{Interrupts, Learns, view_of}
use Rattle.join_report.specs.declared.stops.Stops.{Stops}
use Rattle.join_tale.specs.Steps.{Marks}
use Rattle.join_tale.specs.Steps.Marks.{fresh, stale}
use Rattle.pipeline_desc.specs.Meant.{PlanMeant}
use Rattle.collector.specs.Receiving.{EndsWith, StopsOne, StopsThose, until_at}

learns_nothing : (s : Stops) → Learns s s [] []
learns_nothing s = record { board = refl; set = sym (append-nil (view_of s).set); seen = sym (append-nil (view_of s).seen); out = refl }

learns_both : (a b c : Stops) (xs ys us vs : List Interruption) → Learns a b xs ys → Learns b c us vs → Learns a c (xs ++ us) (ys ++ vs)
learns_both a b c xs ys us vs one two = record {
  board = two.board ∙ one.board;
  set = two.set ∙ (ap (λ l. l ++ us) one.set ∙ append_assoc (view_of a).set xs us);
  seen = two.seen ∙ (ap (λ l. l ++ vs) one.seen ∙ append_assoc (view_of a).seen ys vs);
  out = two.out ∙ one.out;
}

only_one : (p : PlanMeant) (k i at : ℕ) → EndsWith p k i → (context : ℕ) (w : Stop) → IsAmong (interruption context w) (interruption (suc i) (until_at at) ∷ []) → (w ≡ until_at at) × (context ≡ suc i) × EndsWith p k i
only_one p k i at e context w m =
    let is : interruption context w ≡ interruption (suc i) (until_at at) = ⊎_elim (λ z. z) (λ z. absurd (among_nil z)) (among_cons m) in
    (ap (λ (x : Interruption). x.stop) is, ap (λ (x : Interruption). x.context) is, e)

stops_one : (p : PlanMeant) (k i at : ℕ) (a b : Stops) (vs cs : List Interruption) → EndsWith p k i → Marks (suc i) (until_at at) vs cs → Learns a b vs cs → StopsOne p k i at a b
stops_one p k i at a b vs cs e (fresh) l = record { set = vs; seen = cs; learns = l; only = λ context w m. only_one p k i at e context w m; known = λ z. (until_at at, inl (here [])) }
stops_one p k i at a b vs cs e (stale there) l = record { set = vs; seen = cs; learns = l; only = λ context w m. absurd (among_nil m); known = λ z. (there, inr (here [])) }

pub stops_it : (p : PlanMeant) (k i at : ℕ) (a b : Stops) → EndsWith p k i → Interrupts a b (1 + i) (until_at at) → StopsOne p k i at a b
stops_it p k i at a b e (vs, cs, marks, l) = stops_one p k i at a b vs cs e (subst (λ n. Marks n (until_at at) vs cs) (let z : 1 + i ≡ suc i = omega arith in z) marks) l

pub leaves_it : (p : PlanMeant) (k i at : ℕ) (a : Stops) → (EndsWith p k i → ⊥) → StopsOne p k i at a a
leaves_it p k i at a none = record { set = []; seen = []; learns = learns_nothing a; only = λ context w m. absurd (among_nil m); known = λ e. absurd (none e) }

pub stops_none : (p : PlanMeant) (k at : ℕ) (a : Stops) → StopsThose p k 0 at a a
stops_none p k at a = record { set = []; seen = []; learns = learns_nothing a; only = λ context w m. absurd (among_nil m); each = λ i l e. absurd (omega (arith, l)) }

split_last : (i n : ℕ) → i < n + 1 → (i < n) ⊎ (i ≡ n)
split_last zero zero l = inr refl
split_last zero (suc n) l = inl (omega arith)
split_last (suc i) zero l = absurd (omega (arith, l))
split_last (suc i) (suc n) l = ⊎_elim (λ a. inl (omega (arith, a))) (λ e. inr (ap suc e)) (split_last i n (omega (arith, l)))

pub stops_more : (p : PlanMeant) (k n at : ℕ) (a b c : Stops) → StopsThose p k n at a b → StopsOne p k n at b c → StopsThose p k (n + 1) at a c
stops_more p k n at a b c s o = record {
  set = s.set ++ o.set;
  seen = s.seen ++ o.seen;
  learns = learns_both a b c s.set s.seen o.set o.seen s.learns o.learns;
  only = λ context w m. ⊎_elim (λ z. s.only context w z) (λ z. let r = o.only context w z in (r.0, (n, r.1, r.2))) (among_append (interruption context w) s.set o.set m);
  each = λ i l e. ⊎_elim
      (λ z. let r = s.each i z e in (r.0, ⊎_elim (λ q. inl (among_left o.set q)) (λ q. inr (among_left o.seen q)) r.1))
      (λ z. let r = o.known (subst (λ j. EndsWith p k j) z e) in (r.0, ⊎_elim (λ q. inl (subst (λ j. IsAmong (interruption (suc j) r.0) (s.set ++ o.set)) (sym z) (among_right (interruption (suc n) r.0) s.set o.set q))) (λ q. inr (subst (λ j. IsAmong (interruption (suc j) r.0) (s.seen ++ o.seen)) (sym z) (among_right (interruption (suc n) r.0) s.seen o.seen q))) r.1))
      (split_last i n l);
}
