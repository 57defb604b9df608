-- Hands that take turns.
use Rattle.std.proofs.Common.{◌≡◌, ◌≢◌, ℕ, zero, suc, ◌+◌, ◌*◌, ◌%◌, ◌/◌, ◌<◌, ◌≤◌, ◌⊎◌, List, [], ◌∷◌, ◌++◌, length, Option, Some, None, inl, inr, slice_set, refl, sym, ap, ◌∙◌, subst, ⊎_elim, arith, length-append, append-nil, true, false, map}
use Rattle.std.specs.Prelude.{IsSome}
use mathlib.Core.Option.{some, some-ne-none}
use Rattle.std.proofs.lemmas.Bool.{cases_eq}
use Rattle.std.proofs.lemmas.List.{length-map, length-set, map_push}
use Rattle.chunk_core.proofs.Changes.{at_more}
use Rattle.std.proofs.lemmas.Nat.{div-mul-add, mod-mul-add}
use Rattle.chunk_core.specs.Totals.{IsAt, total}
use Rattle.chunk_core.specs.declared.load.Load.{Load as Piece}
use Rattle.chunk_core.proofs.Places.{at_last, at_longer, at_set}
use Rattle.chunk_core.proofs.Totals.{each, map_back, put_here, total_set}
use Rattle.channel_bounded.specs.Ends.{SenderSeen}
use Rattle.channel_bounded.specs.declared.message.Body.{Body}
use Rattle.channel_bounded.specs.declared.message.Body.TheVariants.{Load, End}
use Rattle.par_eval.specs.Dealers.{AllAnswer, AreInOrder, CollectsAt, DealerSeen, InTurn, IsDealer, IsDealerAt, IsDealt, IsOpenAt, IsSettled, IsTaken, IsTeam, LaneSeen, LaneTakes, PostsAt, Puts, SendsEnds, Takes, TakesAt, collects, dealt, dealt_to, ends_sent, message, new_hand, new_lane, posted, taken, taken_from, the_end}
use Rattle.par_eval.specs.Hands.{Answers, HandSeen, received, said}
use Rattle.par_eval.specs.Messages.{AreResults, IsResult, Meaning, bodies, loads_in, results_in}
use Rattle.par_eval.specs.declared.work.Worked.{Worked}
use Rattle.par_eval.proofs.Pairs.{bodies_more, loads_more, results_longer}
use Rattle.par_eval.proofs.Places.{at_below}
use Rattle.par_eval.specs.Lanes.{LaneHubs}
use Rattle.par_eval.proofs.SeatLists.{at_exists, ends_back, ends_open, stays_at}

module _ (f : LaneSeen → ℕ) where
  pub turn_keep : (n : ℕ) (xs : List LaneSeen) (k : ℕ) (l m : LaneSeen) → InTurn f n xs → IsAt xs k l → f m ≡ f l → InTurn f n (slice_set xs k m)
  turn_keep n xs k l m t at same = record {
    within = subst (λ j. n < j) (sym (length-set xs k m)) t.within;
    rounds = t.rounds;
    before = each xs k m (λ h u. h < n → f u ≡ suc t.rounds) (λ less. same ∙ t.before k l at less) (λ h u ne g. t.before h u g);
    behind = each xs k m (λ h u. n ≤ h → f u ≡ t.rounds) (λ le. same ∙ t.behind k l at le) (λ h u ne g. t.behind h u g);
  }

  -- the turn goes on to the next hand
  pub turn_on : (n : ℕ) (xs : List LaneSeen) (l m : LaneSeen) (k : ℕ) → InTurn f n xs → IsAt xs n l → f m ≡ suc (f l) → (n + 1 < length xs → k ≡ n + 1) → (n + 1 ≡ length xs → k ≡ 0) → InTurn f k (slice_set xs n m)
  turn_on n xs l m k t at more goes wraps = ⊎_elim within wrapped (less_or (n + 1) (length xs))
    where
      less_or : (i j : ℕ) → (i < j) ⊎ (j ≤ i)
      less_or zero zero = inr (omega arith)
      less_or zero (suc j) = inl (omega arith)
      less_or (suc i) zero = inr (omega arith)
      less_or (suc i) (suc j) = ⊎_elim (λ x. inl (omega arith)) (λ x. inr (omega arith)) (less_or i j)

      one : f m ≡ suc t.rounds
      one = more ∙ ap suc (t.behind n l at (omega arith))

      within : n + 1 < length xs → InTurn f k (slice_set xs n m)
      within less = let e = goes less in record {
        within = subst (λ j. k < j) (sym (length-set xs n m)) (omega arith);
        rounds = t.rounds;
        before = each xs n m (λ h u. h < k → f u ≡ suc t.rounds) (λ _. one) (λ h u ne g low. t.before h u g (⊎_elim (λ x. x) (λ x. absurd (ne (omega arith))) (less_or h n)));
        behind = each xs n m (λ h u. k ≤ h → f u ≡ t.rounds) (λ high. absurd (omega arith)) (λ h u ne g high. t.behind h u g (omega arith));
      }

      wrapped : length xs ≤ n + 1 → InTurn f k (slice_set xs n m)
      wrapped le = let w = t.within in let e = wraps (omega arith) in record {
        within = subst (λ j. k < j) (sym (length-set xs n m)) (omega arith);
        rounds = suc t.rounds;
        before = λ h u g low. absurd (omega arith);
        behind = each xs n m (λ h u. k ≤ h → f u ≡ suc t.rounds) (λ _. one) (λ h u ne g high. let b = at_below xs h u g in t.before h u g (⊎_elim (λ x. x) (λ x. absurd (ne (omega arith))) (less_or h n)));
      }

  total_turn : (xs : List LaneSeen) (n r : ℕ) → n ≤ length xs → ((h : ℕ) (u : LaneSeen) → IsAt xs h u → h < n → f u ≡ suc r) → ((h : ℕ) (u : LaneSeen) → IsAt xs h u → n ≤ h → f u ≡ r) → total f xs ≡ r * length xs + n
  total_turn [] n r le before behind = omega arith
  total_turn (x ∷ xs) zero r le before behind = let e = behind 0 x refl (omega arith) in let t = total_turn xs 0 r (omega arith) (λ h u g low. absurd (omega arith)) (λ h u g _. behind (suc h) u g (omega arith)) in omega arith
  total_turn (x ∷ xs) (suc n) r le before behind = let e = before 0 x refl (omega arith) in let t = total_turn xs n r (omega arith) (λ h u g low. before (suc h) u g (omega arith)) (λ h u g high. behind (suc h) u g (omega arith)) in omega arith

  pub turn_total : (n : ℕ) (xs : List LaneSeen) (t : InTurn f n xs) → total f xs ≡ t.rounds * length xs + n
  turn_total n xs t = let w = t.within in total_turn xs n t.rounds (omega arith) t.before t.behind

  -- whose turn it is
  pub turn_is : (n : ℕ) (xs : List LaneSeen) (t : InTurn f n xs) → total f xs % length xs ≡ n
  turn_is n xs t = ap (λ k. k % length xs) (turn_total n xs t) ∙ mod-mul-add t.rounds (length xs) n t.within

  pub round_is : (n : ℕ) (xs : List LaneSeen) (t : InTurn f n xs) → total f xs / length xs ≡ t.rounds
  round_is n xs t = ap (λ k. k / length xs) (turn_total n xs t) ∙ div-mul-add t.rounds (length xs) n t.within

pub posted_load : (lane : LaneSeen) (load : Piece) → dealt_to (posted lane (Load load)) ≡ dealt_to lane ++ load ∷ []
posted_load lane load = ap loads_in (bodies_more lane.tasks.sent (message (Load load))) ∙ loads_more (bodies lane.tasks.sent) (Load load ∷ [])

one_longer : {A : Type 0} (xs ys : List A) (x : A) → ys ≡ xs ++ x ∷ [] → length ys ≡ suc (length xs)
one_longer xs ys x e = let a = ap length e in let b = length-append xs (x ∷ []) in omega arith

pub settles : (f : Meaning) (lane : LaneSeen) (hand : HandSeen) → IsSettled lane hand → Answers f hand → AreResults f (dealt_to lane) (taken_from lane)
settles f lane hand s a = λ q w at.
    let sent : IsAt (results_in (bodies hand.results.sent)) q w = subst (λ l. IsAt (results_in l) q w) s.results (results_longer (bodies lane.results.got) s.unread q w at) in
    let t = a q w (results_longer (bodies hand.results.sent) hand.waiting q w sent) in
    (t.0, subst (λ l. IsAt l q t.0) (sym (loads_more (bodies hand.tasks.got) s.queued) ∙ ap loads_in s.tasks) (at_longer (received hand) (loads_in s.queued) q t.0 t.1), t.2)

pub in_order : (f : Meaning) (lanes : List LaneSeen) → ((h : ℕ) (lane : LaneSeen) (hand : HandSeen) → IsAt lanes h lane → lane.collected ≡ Some hand → IsSettled lane hand) → AllAnswer f lanes → AreInOrder f lanes
in_order f lanes settled all = λ i w t.
    let a = all (i % length lanes) t.0 t.1 in
    let r = settles f t.0 a.0 (settled (i % length lanes) t.0 a.0 t.1 a.1) a.2 (i / length lanes) w t.2 in
    (r.0, (t.0, t.1, r.1), r.2)

some_is : {A : Type 0} (x y : A) → Some x ≡ Some y → x ≡ y
some_is x y e = ap (λ (o : Option _). elim o [ Some z ↦ z | None ↦ x ]) e

none_some : {A : Type 0} (x : A) (o : Option A) → o ≡ None → o ≡ Some x → ⊥
none_some x o e h = let z : Some x ≡ None = sym h ∙ e in cc

-- a dealer that took a hand in
pub collect_dealer : (a b : List LaneSeen) (p t o : ℕ) (e : Option ℕ) (hand : HandSeen) → IsDealer a p t o e → e ≡ Some (length a) → CollectsAt hand a b → IsDealer b p t o e
collect_dealer a b p t o e hand d ended c = subst (λ l. IsDealer l p t o e) (sym c.2) (record {
  few = subst (λ n. n ≤ 64) (sym (length-set a hand.number new)) d.few;
  deals = turn_keep (λ l. length (dealt_to l)) p a hand.number c.0 new d.deals c.1 refl;
  takes = turn_keep (λ l. length (taken_from l)) t a hand.number c.0 new d.takes c.1 refl;
  counts = let x = total_set (λ l. length (taken_from l)) a hand.number c.0 new c.1 in let y = total_set (λ l. length (dealt_to l)) a hand.number c.0 new c.1 in let z = d.counts in omega arith;
  idle = d.idle;
  open_until = λ n. absurd (n (ended ∙ ap (λ (k : ℕ). Some k) (sym (length-set a hand.number new))));
  settled = λ h l w g. each a hand.number new (λ i u. (x : HandSeen) → u.collected ≡ Some x → IsSettled u x) (λ x is. subst (λ (y : HandSeen). IsSettled new y) (some_is hand x is) c.3) (λ i u ne k x. d.settled i u x k) h l g w;
})
  where
    new : LaneSeen
    new = collects c.0 hand

pub collect_at : (hubs : List LaneHubs) (a b : List LaneSeen) (hand : HandSeen) → IsDealerAt hubs a → CollectsAt hand a b → IsDealerAt hubs b
collect_at hubs a b hand at c = subst (λ (l : List LaneSeen). IsDealerAt hubs l) (sym c.2) (stays_at hubs a hand.number c.0 (collects c.0 hand) at c.1 refl refl)

-- while groups are out no hand was collected
pub uncollected : (a : List LaneSeen) (p t o : ℕ) (e : Option ℕ) → IsDealer a p t o e → 0 < o → (h : ℕ) (lane : LaneSeen) → IsAt a h lane → lane.collected ≡ None
uncollected a p t o e d busy = d.open_until (λ is. let z = d.idle (subst (λ (x : Option ℕ). IsSome x) (sym is) refl) in omega arith)

pub put_dealer : (a b : List LaneSeen) (p t o : ℕ) (load : Piece) (k : ℕ) → IsDealer a p t o None → PostsAt (Load load) p a b → (p + 1 < length a → k ≡ p + 1) → (p + 1 ≡ length a → k ≡ 0) → IsDealer b k t (o + 1) None
put_dealer a b p t o load k d c goes wraps = subst (λ l. IsDealer l k t (o + 1) None) (sym c.2) (record {
  few = subst (λ n. n ≤ 64) (sym (length-set a p new)) d.few;
  deals = turn_on (λ l. length (dealt_to l)) p a c.0 new k d.deals c.1 more goes wraps;
  takes = turn_keep (λ l. length (taken_from l)) t a p c.0 new d.takes c.1 refl;
  counts = let x = total_set (λ l. length (taken_from l)) a p c.0 new c.1 in let y = total_set (λ l. length (dealt_to l)) a p c.0 new c.1 in let z = d.counts in let m = more in omega arith;
  idle = λ is. let z : false ≡ true = is in cc;
  open_until = λ n. none;
  settled = λ h l w g is. absurd (none_some w l.collected (none h l g) is);
})
  where
    new : LaneSeen
    new = posted c.0 (Load load)

    more : length (dealt_to new) ≡ suc (length (dealt_to c.0))
    more = one_longer (dealt_to c.0) (dealt_to new) load (posted_load c.0 load)

    before : (h : ℕ) (l : LaneSeen) → IsAt a h l → l.collected ≡ None
    before = d.open_until (λ is. let z : None ≡ Some (length a) = is in cc)

    none : (h : ℕ) (l : LaneSeen) → IsAt (slice_set a p new) h l → l.collected ≡ None
    none = each a p new (λ _ l. l.collected ≡ None) (before p c.0 c.1) (λ h l ne g. before h l g)

pub putting_is : (a : List LaneSeen) (p t o : ℕ) (e : Option ℕ) → IsDealer a p t o e → dealt a % length a ≡ p
putting_is a p t o e d = turn_is (λ l. length (dealt_to l)) p a d.deals

pub taking_is : (a : List LaneSeen) (p t o : ℕ) (e : Option ℕ) → IsDealer a p t o e → taken a % length a ≡ t
taking_is a p t o e d = turn_is (λ l. length (taken_from l)) t a d.takes

pub put_puts : (a b : List LaneSeen) (p t o : ℕ) (e : Option ℕ) (load : Piece) → IsDealer a p t o e → PostsAt (Load load) p a b → Puts load (record { lanes = a; out = o; ended = e }) (record { lanes = b; out = o + 1; ended = e })
put_puts a b p t o e load d c = record {
  lane = c.0;
  place = subst (λ n. IsAt a n c.0) (sym (putting_is a p t o e d)) c.1;
  becomes = ap (λ (l : List LaneSeen). mk l) (c.2 ∙ ap (λ n. slice_set a n (posted c.0 (Load load))) (sym (putting_is a p t o e d)));
}
  where
    mk : List LaneSeen → DealerSeen
    mk l = record { lanes = l; out = o + 1; ended = e }

pub put_dealt : (a b : List LaneSeen) (p t o : ℕ) (e : Option ℕ) (load : Piece) → IsDealer a p t o e → PostsAt (Load load) p a b → IsDealt b (dealt a) load
put_dealt a b p t o e load d c = subst (λ l. IsDealt l (dealt a) load) (sym c.2) (
  new,
  subst (λ n. IsAt (slice_set a p new) (dealt a % n) new) (sym (length-set a p new)) (subst (λ n. IsAt (slice_set a p new) n new) (sym (putting_is a p t o e d)) (put_here a p c.0 new c.1)),
  subst (λ n. IsAt (dealt_to new) (dealt a / n) load) (sym (length-set a p new)) (subst (λ n. IsAt (dealt_to new) n load) (sym (round_is (λ l. length (dealt_to l)) p a d.deals))
      (subst (λ l. IsAt l d.deals.rounds load) (sym (posted_load c.0 load)) (at_last (dealt_to c.0) load d.deals.rounds (d.deals.behind p c.0 c.1 (omega arith))))),
)
  where
    new : LaneSeen
    new = posted c.0 (Load load)

pub put_at : (hubs : List LaneHubs) (a b : List LaneSeen) (p : ℕ) (body : Body) → IsDealerAt hubs a → PostsAt body p a b → IsDealerAt hubs b
put_at hubs a b p body at c = subst (λ (l : List LaneSeen). IsDealerAt hubs l) (sym c.2) (stays_at hubs a p c.0 (posted c.0 body) at c.1 refl refl)

pub take_any : (ws : List Worked) (a b : List LaneSeen) (p t o k m : ℕ) (e : Option ℕ) → IsDealer a p t o e → 0 < o → (c : TakesAt ws t a b) → InTurn (λ l. length (taken_from l)) k (slice_set a t c.1) → m + length ws ≡ o → IsDealer b p k m e
take_any ws a b p t o k m e d busy c turns out = subst (λ l. IsDealer l p k m e) (sym c.4) (record {
  few = subst (λ n. n ≤ 64) (sym (length-set a t c.1)) d.few;
  deals = turn_keep (λ l. length (dealt_to l)) p a t c.0 c.1 d.deals c.2 tasks;
  takes = turns;
  counts = let x = total_set (λ l. length (taken_from l)) a t c.0 c.1 c.2 in let y = total_set (λ l. length (dealt_to l)) a t c.0 c.1 c.2 in let z = d.counts in let u = ap length c.3.takes in let v = length-append (taken_from c.0) ws in let w = tasks in omega arith;
  idle = λ is. let z = d.idle is in omega arith;
  open_until = λ n. none;
  settled = λ h l w g is. absurd (none_some w l.collected (none h l g) is);
})
  where
    tasks : length (dealt_to c.1) ≡ length (dealt_to c.0)
    tasks = ap (λ (s : SenderSeen). length (loads_in (bodies s.sent))) c.3.tasks

    none : (h : ℕ) (l : LaneSeen) → IsAt (slice_set a t c.1) h l → l.collected ≡ None
    none = each a t c.1 (λ _ l. l.collected ≡ None) (c.3.collected ∙ uncollected a p t o e d busy t c.0 c.2) (λ h l ne g. uncollected a p t o e d busy h l g)

pub take_one : (w : Worked) (a b : List LaneSeen) (p t o k m : ℕ) (e : Option ℕ) → IsDealer a p t o e → 0 < o → TakesAt (w ∷ []) t a b → (t + 1 < length a → k ≡ t + 1) → (t + 1 ≡ length a → k ≡ 0) → m + 1 ≡ o → IsDealer b p k m e
take_one w a b p t o k m e d busy c goes wraps out = take_any (w ∷ []) a b p t o k m e d busy c
    (turn_on (λ l. length (taken_from l)) t a c.0 c.1 k d.takes c.2 (one_longer (taken_from c.0) (taken_from c.1) w c.3.takes) goes wraps) out

pub take_nothing : (a b : List LaneSeen) (p t o : ℕ) (e : Option ℕ) → IsDealer a p t o e → 0 < o → TakesAt [] t a b → IsDealer b p t o e
take_nothing a b p t o e d busy c = take_any [] a b p t o t o e d busy c
    (turn_keep (λ l. length (taken_from l)) t a t c.0 c.1 d.takes c.2 (let u = ap length c.3.takes in let v = length-append (taken_from c.0) [] in omega arith)) (omega arith)

pub take_takes : (ws : List Worked) (a b : List LaneSeen) (p t o m : ℕ) (e : Option ℕ) → IsDealer a p t o e → TakesAt ws t a b → m + length ws ≡ o → Takes ws (record { lanes = a; out = o; ended = e }) (record { lanes = b; out = m; ended = e })
take_takes ws a b p t o m e d c out = record {
  lane = c.0;
  after = c.1;
  place = subst (λ n. IsAt a n c.0) (sym (taking_is a p t o e d)) c.2;
  takes = c.3;
  lanes = c.4 ∙ ap (λ n. slice_set a n c.1) (sym (taking_is a p t o e d));
  out = out;
  ended = refl;
}

pub take_taken : (w : Worked) (a b : List LaneSeen) (p t o : ℕ) (e : Option ℕ) → IsDealer a p t o e → TakesAt (w ∷ []) t a b → IsTaken b (taken a) w
take_taken w a b p t o e d c = subst (λ l. IsTaken l (taken a) w) (sym c.4) (
  c.1,
  subst (λ n. IsAt (slice_set a t c.1) (taken a % n) c.1) (sym (length-set a t c.1)) (subst (λ n. IsAt (slice_set a t c.1) n c.1) (sym (taking_is a p t o e d)) (put_here a t c.0 c.1 c.2)),
  subst (λ n. IsAt (taken_from c.1) (taken a / n) w) (sym (length-set a t c.1)) (subst (λ n. IsAt (taken_from c.1) n w) (sym (round_is (λ l. length (taken_from l)) t a d.takes))
      (subst (λ l. IsAt l d.takes.rounds w) (sym c.3.takes) (at_last (taken_from c.0) w d.takes.rounds (d.takes.behind t c.0 c.2 (omega arith))))),
)

pub take_at : (ws : List Worked) (hubs : List LaneHubs) (a b : List LaneSeen) (t : ℕ) → IsDealerAt hubs a → TakesAt ws t a b → IsDealerAt hubs b
take_at ws hubs a b t at c = subst (λ (l : List LaneSeen). IsDealerAt hubs l) (sym c.4) (stays_at hubs a t c.0 c.1 at c.2 (ap (λ (s : SenderSeen). s.hub) c.3.tasks) c.3.hub)

posted_end : (lane : LaneSeen) → dealt_to (posted lane the_end) ≡ dealt_to lane
posted_end lane = ap loads_in (bodies_more lane.tasks.sent (message the_end)) ∙ loads_more (bodies lane.tasks.sent) (the_end ∷ []) ∙ append-nil (dealt_to lane)

turn_same : (f : LaneSeen → ℕ) (m n k : ℕ) (a b : List LaneSeen) → SendsEnds m n a b → ((l : LaneSeen) → f (posted l the_end) ≡ f l) → InTurn f k a → InTurn f k b
turn_same f m n k a b s same t = record {
  within = subst (λ j. k < j) (sym s.count) t.within;
  rounds = t.rounds;
  before = λ h u g low. let x = ends_back m n a b s h u g in ⊎_elim (λ e. ap f e ∙ t.before h x.0 x.1 low) (λ e. ap f e ∙ same x.0 ∙ t.before h x.0 x.1 low) x.2;
  behind = λ h u g high. let x = ends_back m n a b s h u g in ⊎_elim (λ e. ap f e ∙ t.behind h x.0 x.1 high) (λ e. ap f e ∙ same x.0 ∙ t.behind h x.0 x.1 high) x.2;
}

total_same : (f : LaneSeen → ℕ) (k : ℕ) (a b : List LaneSeen) (t : InTurn f k a) (u : InTurn f k b) → u.rounds ≡ t.rounds → length b ≡ length a → total f b ≡ total f a
total_same f k a b t u r n = turn_total f k b u ∙ ap (λ x. x * length b + k) r ∙ ap (λ x. t.rounds * x + k) n ∙ sym (turn_total f k a t)

pub not_whole : (e : Option ℕ) (n : ℕ) → ends_sent e < n → ¬ (e ≡ Some n)
not_whole e n less is = let z : ends_sent e ≡ n = ap ends_sent is in omega arith

pub end_dealer : (a b : List LaneSeen) (p t o m n : ℕ) (e : Option ℕ) → IsDealer a p t o e → o ≡ 0 → ends_sent e < length a → SendsEnds m n a b → IsDealer b p t o (Some n)
unfolding turn_same
end_dealer a b p t o m n e d out less s = record {
  few = subst (λ k. k ≤ 64) (sym s.count) d.few;
  deals = deals;
  takes = takes;
  counts = let x = total_same (λ l. length (dealt_to l)) p a b d.deals deals refl s.count in let y = total_same (λ l. length (taken_from l)) t a b d.takes takes refl s.count in let z = d.counts in omega arith;
  idle = λ _. out;
  open_until = λ _. none;
  settled = λ h l w g is. absurd (none_some w l.collected (none h l g) is);
}
  where
    deals : InTurn (λ l. length (dealt_to l)) p b
    deals = turn_same (λ l. length (dealt_to l)) m n p a b s (λ l. ap length (posted_end l)) d.deals

    takes : InTurn (λ l. length (taken_from l)) t b
    takes = turn_same (λ l. length (taken_from l)) m n t a b s (λ l. refl) d.takes

    none : (h : ℕ) (l : LaneSeen) → IsAt b h l → l.collected ≡ None
    none h l g = ends_open m n a b s h l g (λ lane at. d.open_until (not_whole e (length a) less) h lane at)

module _ (jobs : ℕ) (hubs : List LaneHubs) (lanes : List LaneSeen) (hands : List HandSeen) (team : IsTeam jobs hubs lanes hands) where
  fresh : (f : LaneSeen → ℕ) → ((hub : LaneHubs) → f (new_lane hub) ≡ 0) → 0 < jobs → InTurn f 0 lanes
  fresh f none busy = record {
    within = let a = ap length team.lanes_are in let b = length-map hubs new_lane in let e = team.count in omega arith;
    rounds = 0;
    before = λ h u g low. absurd (omega arith);
    behind = λ h u g _. let x = map_back new_lane hubs h u (subst (λ l. IsAt l h u) team.lanes_are g) in ap f (sym x.2) ∙ none x.0;
  }

  pub new_dealer : 0 < jobs → jobs ≤ 64 → IsDealer lanes 0 0 0 None
  unfolding fresh
  new_dealer busy few = record {
    few = let a = ap length team.lanes_are in let b = length-map hubs new_lane in let e = team.count in omega arith;
    deals = fresh (λ l. length (dealt_to l)) (λ _. refl) busy;
    takes = fresh (λ l. length (taken_from l)) (λ _. refl) busy;
    counts = let x = turn_total (λ l. length (dealt_to l)) 0 lanes (fresh (λ l. length (dealt_to l)) (λ _. refl) busy) in let y = turn_total (λ l. length (taken_from l)) 0 lanes (fresh (λ l. length (taken_from l)) (λ _. refl) busy) in omega arith;
    idle = λ is. refl;
    open_until = λ _ h l g. let x = map_back new_lane hubs h l (subst (λ k. IsAt k h l) team.lanes_are g) in ap (λ (u : LaneSeen). u.collected) (sym x.2);
    settled = λ h l w g is. let x = map_back new_lane hubs h l (subst (λ k. IsAt k h l) team.lanes_are g) in absurd (none_some w l.collected (ap (λ (u : LaneSeen). u.collected) (sym x.2)) is);
  }

pub no_team : IsTeam 0 [] [] []
no_team = record { count = refl; lanes_are = refl; hands_count = refl; hands_are = λ h hub g. absurd (some-ne-none hub (sym g)) }

pub team_more : (n : ℕ) (hubs : List LaneHubs) (lanes : List LaneSeen) (hands : List HandSeen) (hub : LaneHubs) (lane : LaneSeen) (hand : HandSeen) → lane ≡ new_lane hub → hand ≡ new_hand n hub → IsTeam n hubs lanes hands → IsTeam (n + 1) (hubs ++ hub ∷ []) (lanes ++ lane ∷ []) (hands ++ hand ∷ [])
team_more n hubs lanes hands hub lane hand l h t = record {
  count = let a = length-append hubs (hub ∷ []) in let e = t.count in omega arith;
  lanes_are = ap (λ x. x ++ lane ∷ []) t.lanes_are ∙ ap (λ (x : LaneSeen). map new_lane hubs ++ x ∷ []) l ∙ sym (map_push new_lane hubs hub);
  hands_count = let a = length-append hands (hand ∷ []) in let e = t.hands_count in omega arith;
  hands_are = λ i x g. ⊎_elim
      (λ o. at_longer hands (hand ∷ []) i (new_hand i x) (t.hands_are i x o))
      (λ o. at_last hands hand i (t.hands_count ∙ sym t.count ∙ sym o.0) ∙ ap (λ (y : HandSeen). some y) (h ∙ ap (λ k. new_hand k hub) (sym t.count ∙ sym o.0) ∙ ap (λ (y : LaneHubs). new_hand i y) o.1))
      (at_more hubs hub i x g);
}

pub team_push : (n : ℕ) (hubs hubs' : List LaneHubs) (lanes lanes' : List LaneSeen) (hands hands' : List HandSeen) (hub : LaneHubs) (lane : LaneSeen) (hand : HandSeen) → lane ≡ new_lane hub → hand ≡ new_hand n hub → hubs' ≡ hubs ++ hub ∷ [] → lanes' ≡ lanes ++ lane ∷ [] → hands' ≡ hands ++ hand ∷ [] → IsTeam n hubs lanes hands → IsTeam (n + 1) hubs' lanes' hands'
team_push n hubs hubs' lanes lanes' hands hands' hub lane hand l h a b c t =
    subst (λ (x : List LaneHubs). IsTeam (n + 1) x lanes' hands') (sym a)
    (subst (λ (x : List LaneSeen). IsTeam (n + 1) (hubs ++ hub ∷ []) x hands') (sym b)
    (subst (λ (x : List HandSeen). IsTeam (n + 1) (hubs ++ hub ∷ []) (lanes ++ lane ∷ []) x) (sym c) (team_more n hubs lanes hands hub lane hand l h t)))
