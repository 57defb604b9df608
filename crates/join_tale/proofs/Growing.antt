-- What stays known while a tale goes on.
use Rattle.std.proofs.Common.{◌≡◌, ◌⊎◌, ℕ, suc, ◌≤◌, true, List, [], ◌++◌, length, Some, is_some, inl, inr, refl, sym, ◌∙◌, ap, subst, ⊎_elim, arith, append-nil}
use Rattle.chunk_core.specs.Lists.{IsAmong}
use Rattle.chunk_core.specs.Texts.{Frame}
use Rattle.chunk_core.proofs.Filters.{among_append}
use Rattle.chunk_core.proofs.Members.{among_cons, among_last, among_left, among_nil}
use Rattle.chunk_core.specs.declared.code.Code.{Code}
use Rattle.chunk_core.specs.declared.code.How.{How}
use Rattle.chunk_core.specs.declared.code.How.TheVariants as how
use Rattle.interrupt_ctx.specs.Views.{interruption}
use Rattle.interrupt_ctx.specs.declared.view.Interruption.{Interruption}
use Rattle.interrupt_ctx.specs.declared.why.Stop.{Stop}
use Rattle.interrupt_ctx.specs.declared.why.Why.{Why}
use Rattle.interrupt_ctx.specs.declared.why.Why.TheVariants as why
use Rattle.res_ledger.specs.declared.event.StreamNo.{StreamNo}
use Rattle.res_ledger.specs.declared.event.StreamNo.TheVariants.{Outer, Inner}
use Rattle.run_rules.specs.Facts.{at}
use Rattle.join_tale.specs.Bounds.{Bounds, is_in_turn}
use Rattle.join_tale.specs.Keeping.{HadTurn, HasLacked, IsEndedInTurn, IsLast, IsLastTurn, IsOuterStopped, IsOuterTold, IsOwnCode, IsPassedOver, IsToldBy, IsToldToHalt, KeepsEnds, KeepsFates, LacksForLoad}
use Rattle.join_tale.specs.Steps.{Marks, learned}
use Rattle.join_tale.specs.Steps.Marks.{fresh, stale}
use Rattle.join_tale.specs.Tales.{AreCaused, Came, Fate, HasCome, HasMet, IsBegun, IsCaused, IsFoundSet, IsKnown, Message, Tale, end_of, frames_of}
use Rattle.join_tale.specs.Tales.Fate.{Skipped, Unmade}

pub found_more : (t : Tale) (vs cs : List Interruption) (c : ℕ) → IsFoundSet t c → IsFoundSet (learned t vs cs) c
found_more t vs cs c f = (f.0, among_left cs f.1)

pub known_more : (t : Tale) (vs cs : List Interruption) (c : ℕ) → IsKnown t c → IsKnown (learned t vs cs) c
known_more t vs cs c k = ⊎_elim (λ s. inl (s.0, among_left vs s.1)) (λ f. inr (found_more t vs cs c f)) k

-- what is marked is known, and set for its cause
pub marked_known : (t : Tale) (c : ℕ) (w : Stop) (vs cs : List Interruption) → Marks c w vs cs → IsKnown (learned t vs cs) c
marked_known t c w vs cs fresh = inl (w, among_last t.set (interruption c w))
marked_known t c w vs cs (stale there) = inr (there, among_last t.seen (interruption c there))

pub marked_caused : (bounds : Bounds) (u : Tale) (c : ℕ) (w : Stop) (vs cs : List Interruption) → Marks c w vs cs → IsCaused bounds u c w.why → AreCaused bounds u vs
marked_caused bounds u c w vs cs fresh is d v m = ⊎_elim (λ e. subst (λ (z : Interruption). IsCaused bounds u z.context z.stop.why) (sym e) is) (λ n. absurd (among_nil n)) (among_cons m)
marked_caused bounds u c w vs cs (stale there) is d v m = absurd (among_nil m)

-- a cause by its name
pub why_caused : (bounds : Bounds) (t : Tale) (c : ℕ) (w : Stop) (v : Why) → w.why ≡ v → IsCaused bounds t c v → IsCaused bounds t c w.why
why_caused bounds t c w v is h = subst (λ z. IsCaused bounds t c z) (sym is) h

-- a code in the context of k is set for the end that stops k
pub until_came : (bounds : Bounds) (t : Tale) (k : ℕ) (w : Why) → IsCaused bounds t (suc k) w → (j : ℕ) × (bounds.until k ≡ Some j) × HasCome t j
until_came bounds t k why.Take h = absurd (let q : suc k ≡ 0 = h.0 in omega (q, arith))
until_came bounds t k why.Until h = let same : h.0 ≡ k = (let q : suc k ≡ suc h.0 = h.2 in omega (q, arith)) in (h.1, subst (λ n. bounds.until n ≡ Some h.1) same h.3, h.4)
until_came bounds t k why.Sink h = absurd (let q : suc k ≡ 0 = h.0 in omega (q, arith))
until_came bounds t k why.Memory h = absurd (let q : suc k ≡ 0 = h.0 in omega (q, arith))
until_came bounds t k why.Fault h = absurd (let q : suc k ≡ 0 = h.0 in omega (q, arith))

-- and why
pub until_why : (bounds : Bounds) (t : Tale) (k : ℕ) (w : Why) → IsCaused bounds t (suc k) w → w ≡ why.Until
until_why bounds t k why.Take h = absurd (let q : suc k ≡ 0 = h.0 in omega (q, arith))
until_why bounds t k why.Until h = refl
until_why bounds t k why.Sink h = absurd (let q : suc k ≡ 0 = h.0 in omega (q, arith))
until_why bounds t k why.Memory h = absurd (let q : suc k ≡ 0 = h.0 in omega (q, arith))
until_why bounds t k why.Fault h = absurd (let q : suc k ≡ 0 = h.0 in omega (q, arith))

-- where none that has come is above k, its own code tells it to halt, the end having come whose end stops it
pub own_told : (bounds : Bounds) (t : Tale) (k : ℕ) → AreCaused bounds t t.set → (is_in_turn bounds ≡ true → (j : ℕ) → HasCome t j → j ≤ k) → IsOwnCode bounds t k → IsFoundSet t (suc k) × IsEndedInTurn bounds t k
own_told bounds t k caused below own = (own.0, λ w. let s = own.1 w in let u = until_came bounds t k s.0.why (caused (suc k) s.0 s.1) in (u.0, u.1, u.2, below w u.0 u.2))

-- nothing is begun nor pulled, and what came and what is known stay
pub record Grows (t u : Tale) : Type 0 where
  pub begun : (k : ℕ) → IsBegun u k → IsBegun t k
  pub came : (k : ℕ) (h : How) → Came t k h → Came u k h
  pub seen : (x : Interruption) → IsAmong x t.seen → IsAmong x u.seen
  pub obeyed : (k : StreamNo) (w : Stop) → IsAmong (k, w) t.obeyed → IsAmong (k, w) u.obeyed
  pub known : (c : ℕ) → IsKnown t c → IsKnown u c
  pub memory : t.memory ≡ true → u.memory ≡ true
  pub pulled : (k : ℕ) → IsAmong k u.pulled → IsAmong k t.pulled

-- ends that came anew
pub record AreFresh (bounds : Bounds) (t u : Tale) (N : ℕ → How → Type 0) : Type 0 where
  pub halted : (k : ℕ) → N k how.Halted → IsToldToHalt bounds u k
  pub fault : (k : ℕ) (c : Code) → N k (how.Fault c) → IsKnown u 0
  pub memory : (k : ℕ) → N k how.Memory → u.memory ≡ true
  pub until : (j k : ℕ) (h : How) → N j h → bounds.until k ≡ Some j → IsKnown u (suc k)
  pub last : (k : ℕ) (h : How) → N k h → IsLast bounds t k
  pub alone : (k : ℕ) (h : How) → N k h → ¬ (HasCome t k)
  pub one : (k : ℕ) (h g : How) → N k h → N k g → h ≡ g

-- no end came
abbrev pub NoEnd : ℕ → How → Type 0
NoEnd k h = ⊥

pub none_fresh : (bounds : Bounds) (t u : Tale) → AreFresh bounds t u NoEnd
none_fresh bounds t u = record {
  halted = λ k n. absurd n;
  fault = λ k c n. absurd n;
  memory = λ k n. absurd n;
  until = λ j k h n. absurd n;
  last = λ k h n. absurd n;
  alone = λ k h n. absurd n;
  one = λ k h g n. absurd n;
}

-- what memory was wanting for is a load still, where later messages alone came
pub lacks_more : (bounds : Bounds) (t u : Tale) (ms : List Message) → u.late ≡ t.late ++ ms → u.cut ≡ t.cut → frames_of u.front ≡ frames_of t.front → (k : ℕ) → LacksForLoad bounds t k → LacksForLoad bounds u k
lacks_more bounds t u ms late cut front k l = record {
  load = l.load;
  others = l.others ++ ms;
  late = late ∙ ap (λ xs. xs ++ ms) l.late;
  uncut = cut ∙ l.uncut;
  unmet = λ m. l.unmet (m ∙ ap (λ (F : List Frame). Some (length F)) front);
}

pub lacks_still : (bounds : Bounds) (t u : Tale) → u.late ≡ t.late → u.cut ≡ t.cut → frames_of u.front ≡ frames_of t.front → (k : ℕ) → LacksForLoad bounds t k → LacksForLoad bounds u k
lacks_still bounds t u late = lacks_more bounds t u [] (late ∙ sym (append-nil t.late))

module _ (bounds : Bounds) (t u : Tale) (g : Grows t u) where
  pub last_grows : (k : ℕ) → IsLast bounds t k → IsLast bounds u k
  last_grows k l w j b = l w j (g.begun j b)

  pub found_grows : (c : ℕ) → IsFoundSet t c → IsFoundSet u c
  found_grows c f = (f.0, g.seen (interruption c f.0) f.1)

  ended_grows : (k : ℕ) → IsEndedInTurn bounds t k → IsEndedInTurn bounds u k
  ended_grows k h w = let e = h w in (e.0, e.1, (e.2.0, g.came e.0 e.2.0 e.2.1), e.3)

  pub own_grows : (k : ℕ) → IsFoundSet t (suc k) × IsEndedInTurn bounds t k → IsFoundSet u (suc k) × IsEndedInTurn bounds u k
  own_grows k f = (found_grows (suc k) f.0, ended_grows k f.1)

  told_by_grows : (k : ℕ) (w : Stop) → IsToldBy bounds t k w → IsToldBy bounds u k w
  told_by_grows k w h = ⊎_elim (λ f. inl (g.seen (interruption (suc k) w) f.0, ended_grows k f.1)) (λ f. inr (g.seen (interruption 0 w) f.0, last_grows k f.1)) h

  pub told_grows : (k : ℕ) → IsToldToHalt bounds t k → IsToldToHalt bounds u k
  told_grows k h = (h.0, g.obeyed (Inner k) h.0 h.1, told_by_grows k h.0 h.2)

  pub outer_told_grows : IsOuterTold t → IsOuterTold u
  outer_told_grows h = (h.0, g.obeyed Outer h.0 h.1, g.seen (interruption 0 h.0) h.2)

  pub turn_grows : (k : ℕ) → HadTurn u k → HadTurn t k
  turn_grows k h = ⊎_elim (λ b. inl (g.begun k b)) (λ m. inr (g.pulled k m)) h

  last_turn_grows : (k : ℕ) → IsLastTurn t k → IsLastTurn u k
  last_turn_grows k l j h = l j (turn_grows j h)

  passed_grows : (IsOuterStopped t → IsOuterStopped u) → (k : ℕ) → IsPassedOver bounds t k → IsPassedOver bounds u k
  passed_grows outer k h = ⊎_elim (λ f. inl (own_grows k f)) (λ f. inr (⊎_elim (λ a. inl (found_grows 0 a)) (λ s. inr (outer s)) f.0, last_turn_grows k f.1)) h

  -- the ends, where these came anew
  pub ends_kept : (N : ℕ → How → Type 0) → AreFresh bounds t u N → KeepsEnds bounds t → ((k : ℕ) (h : How) → IsAmong (end_of k h) u.front → IsAmong (end_of k h) t.front ⊎ N k h) → ((k : ℕ) (h : How) → IsAmong (end_of k h) u.late → IsAmong (end_of k h) t.late ⊎ N k h)
      → ((k : ℕ) (h q : How) → IsAmong (end_of k h) u.front → ¬ (IsAmong (end_of k q) u.late)) → KeepsEnds bounds u
  ends_kept N f i front late apart =
      let back : (k : ℕ) (h : How) → Came u k h → Came t k h ⊎ N k h = λ k h c. ⊎_elim (λ m. ⊎_elim (λ o. inl (inl o)) (λ n. inr n) (front k h m)) (λ m. ⊎_elim (λ o. inl (inr o)) (λ n. inr n) (late k h m)) c in
      record {
        halted = λ k c. ⊎_elim (λ o. told_grows k (i.halted k o)) (λ n. f.halted k n) (back k how.Halted c);
        fault = λ k c m. ⊎_elim (λ o. let q = i.fault k c o in (g.known 0 q.0, last_grows k q.1)) (λ n. (f.fault k c n, last_grows k (f.last k (how.Fault c) n))) (back k (how.Fault c) m);
        memory = λ k m. ⊎_elim (λ o. let q = i.memory k o in (g.memory q.0, last_grows k q.1)) (λ n. (f.memory k n, last_grows k (f.last k how.Memory n))) (back k how.Memory m);
        until = λ j k c is. ⊎_elim
            (λ o. let q = i.until j k (c.0, o) is in (g.known (suc k) q.0, λ w b. q.1 w (g.begun k b)))
            (λ n. (f.until j k c.0 n is, λ w b. f.last j c.0 n w k (g.begun k b)))
            (back j c.0 c.1);
        late = λ k h m. ⊎_elim (λ o. last_grows k (i.late k h o)) (λ n. last_grows k (f.last k h n)) (late k h m);
        in_turn = λ w k b. ⊎_elim (λ c. inl (c.0, g.came k c.0 c.1)) (λ l. inr (λ j d. l j (g.begun j d))) (i.in_turn w k (g.begun k b));
        once = λ k h q c d. ⊎_elim
            (λ o. ⊎_elim (λ p. i.once k h q o p) (λ n. absurd (f.alone k q n (h, o))) (back k q d))
            (λ n. ⊎_elim (λ p. absurd (f.alone k h n (q, p))) (λ m. f.one k h q n m) (back k q d))
            (back k h c);
        apart = apart;
      }

  -- what became of the streams, where these weren't begun anew, and of the outer one
  pub fates_kept : KeepsFates bounds t → ((k : ℕ) → at u.fates k ≡ Some Skipped → (at t.fates k ≡ Some Skipped) ⊎ IsPassedOver bounds u k) → ((k : ℕ) → at u.fates k ≡ Some Unmade → (at t.fates k ≡ Some Unmade) ⊎ ((u.memory ≡ true) × IsLastTurn u k)) → (IsOuterStopped t → IsOuterStopped u)
      → (u.outer ≡ Some how.Halted → IsOuterTold u) → ((c : Code) → u.outer ≡ Some (how.Fault c) → IsKnown u 0) → (u.outer ≡ Some how.Memory → u.memory ≡ true) → KeepsFates bounds u
  fates_kept i skipped unmade outer halted fault memory = record {
    skipped = λ k e. ⊎_elim (λ o. passed_grows outer k (i.skipped k o)) (λ n. n) (skipped k e);
    unmade = λ k e. ⊎_elim (λ o. let q = i.unmade k o in (g.memory q.0, last_turn_grows k q.1)) (λ n. n) (unmade k e);
    nobody = λ m. let q = i.nobody m in (g.known 0 q.0, λ k b. q.1 k (g.begun k b));
    outer_halted = halted;
    outer_fault = fault;
    outer_memory = memory;
  }

  -- nothing became of one, nor of the outer one
  pub fates_stay : KeepsFates bounds t → u.fates ≡ t.fates → u.outer ≡ t.outer → KeepsFates bounds u
  fates_stay i same outer = fates_kept i
      (λ k e. inl (sym (ap (λ (l : List Fate). at l k) same) ∙ e))
      (λ k e. inl (sym (ap (λ (l : List Fate). at l k) same) ∙ e))
      (λ s. (s.0, outer ∙ s.1, s.2))
      (λ e. outer_told_grows (i.outer_halted (sym outer ∙ e)))
      (λ c e. g.known 0 (i.outer_fault c (sym outer ∙ e)))
      (λ e. g.memory (i.outer_memory (sym outer ∙ e)))

  -- what memory was wanting for stays so
  pub lacked_grows : (t.outer ≡ Some how.Memory → u.outer ≡ Some how.Memory) → ((k : ℕ) → at t.fates k ≡ Some Unmade → at u.fates k ≡ Some Unmade) → ((k : ℕ) → LacksForLoad bounds t k → LacksForLoad bounds u k) → HasLacked bounds t → HasLacked bounds u
  lacked_grows outer fates late h = ⊎_elim
      (λ c. inl (c.0, g.came c.0 how.Memory c.1))
      (λ y. inr (⊎_elim (λ o. inl (outer o)) (λ z. inr (⊎_elim (λ f. inl (f.0, fates f.0 f.1)) (λ l. inr (l.0, late l.0 l.1)) z)) y))
      h

  -- a cause stays one
  pub cause_grows : (HasMet bounds t → HasMet bounds u) → (is_some t.cut ≡ true → is_some u.cut ≡ true) → ((c : Code) → t.outer ≡ Some (how.Fault c) → u.outer ≡ Some (how.Fault c)) → (c : ℕ) (w : Why) → IsCaused bounds t c w → IsCaused bounds u c w
  cause_grows met cut outer c why.Take i = (i.0, met i.1)
  cause_grows met cut outer c why.Until i = (i.0, i.1, i.2, i.3, (i.4.0, g.came i.1 i.4.0 i.4.1))
  cause_grows met cut outer c why.Sink i = (i.0, cut i.1)
  cause_grows met cut outer c why.Memory i = (i.0, g.memory i.1)
  cause_grows met cut outer c why.Fault i = (i.0, ⊎_elim (λ x. inl (x.0, x.1, g.came x.0 (how.Fault x.1) x.2)) (λ x. inr (x.0, outer x.0 x.1)) i.1)

  pub caused_more : (vs : List Interruption) → (HasMet bounds t → HasMet bounds u) → (is_some t.cut ≡ true → is_some u.cut ≡ true) → ((c : Code) → t.outer ≡ Some (how.Fault c) → u.outer ≡ Some (how.Fault c)) → AreCaused bounds t t.set → AreCaused bounds u vs → AreCaused bounds u (t.set ++ vs)
  caused_more vs met cut outer old new c w m = ⊎_elim (λ o. cause_grows met cut outer c w.why (old c w o)) (λ n. new c w n) (among_append (interruption c w) t.set vs m)
