-- Hands that are taken in, from the last one on.
use Rattle.std.proofs.Common.{◌≡◌, ℕ, suc, ◌<◌, ◌≤◌, List, [], ◌∷◌, ◌++◌, length, get_or, slice_set, Option, Some, refl, sym, ap, ◌∙◌, subst, ⊎_elim, arith, length-append}
use Rattle.chunk_core.specs.Totals.{IsAt}
use Rattle.chunk_core.specs.declared.load.Load.{Load as Piece}
use Rattle.chunk_core.proofs.Changes.{at_more}
use Rattle.chunk_core.proofs.Places.{at_last, at_longer}
use Rattle.chunk_core.proofs.Totals.{each}
use Rattle.par_eval.specs.Dealers.{AllAnswer, AreInOrder, CollectsAt, IsDealerAt, IsOpenAt, LaneSeen, new_hand}
use Rattle.par_eval.specs.Hands.{HandSeen, IsHandAt}
use Rattle.par_eval.specs.Lanes.{LaneHubs}
use Rattle.par_eval.specs.Messages.{Meaning}
use Rattle.par_eval.specs.declared.work.Worked.{Worked}
use Rattle.par_eval.proofs.SeatLists.{at_read}
use Rattle.eval_hands.specs.Crews.{AreAllAt, AreHired, AreHiredFirst, AreUncollected, HasDealt, IsHiredAt}
use Rattle.eval_hands.specs.Hiring.{IsHired}
use Rattle.eval_hands.specs.Returns.{Returns}
use Rattle.eval_hands.specs.declared.hired.Hired.{Hired}
use Rattle.eval_hands.proofs.Deals.{AreTakenIn, all_taken_in, collect_has, hand_stays, new_answers, new_at, none_taken_in, one_taken_in}

-- what is read at a place is there
pub at_place : {A : Type 0} (xs : List A) (i : ℕ) (x : A) → i < length xs → x ≡ get_or xs i x → IsAt xs i x
at_place {A} xs i x less e = subst (λ (y : A). IsAt xs i y) (sym e) (at_read xs i x less e)

-- a hand of a list, each of which is at its lane
pub turn_at : (hubs : List LaneHubs) (hands : List HandSeen) (n : ℕ) (hand : HandSeen) → AreAllAt hubs hands → (n < length hands) × (hand ≡ get_or hands n hand) → (hub : LaneHubs) × IsAt hubs n hub × (hand ≡ new_hand n hub)
turn_at hubs hands n hand a turn = a.each n hand (at_place hands n hand turn.0 turn.1)

pub turn_hand : (hubs : List LaneHubs) (hands : List HandSeen) (n : ℕ) (hand : HandSeen) → AreAllAt hubs hands → (n < length hands) × (hand ≡ get_or hands n hand) → IsHandAt hubs hand
turn_hand hubs hands n hand a turn = let t = turn_at hubs hands n hand a turn in subst (λ (y : HandSeen). IsHandAt hubs y) (sym t.2) (new_at hubs n t.0 t.1)

module _ {W : Type 0} (r : W → Meaning) (work : W) (hubs : List LaneHubs) where
  -- a further hand was hired
  pub hired_more : (hs : List (Hired W)) (x : Hired W) (hands : List HandSeen) (n : ℕ) (hand : HandSeen) → length hs ≡ n → AreAllAt hubs hands → (n < length hands) × (hand ≡ get_or hands n hand) → IsHired r work hand x → AreHiredFirst r work hubs hs → (ys : List (Hired W)) → ys ≡ hs ++ x ∷ [] → AreHiredFirst r work hubs ys
  hired_more hs x hands n hand same a turn is first ys e = subst (λ l. AreHiredFirst r work hubs l) (sym e) each_of
    where
      each_of : AreHiredFirst r work hubs (hs ++ x ∷ [])
      each_of i h g =
          let t = turn_at hubs hands n hand a turn in
          let here : IsHiredAt r work hubs n x = (t.0, t.1, subst (λ (y : HandSeen). IsHired r work y x) t.2 is) in
          ⊎_elim (λ low. first i h low)
          (λ e. subst (λ (y : Hired W). IsHiredAt r work hubs i y) e.1 (subst (λ j. IsHiredAt r work hubs j x) (sym (e.0 ∙ same)) here))
          (at_more hs x i h g)

  -- a hand that was hired, where it is still
  pub hired_here : (i : ℕ) (h : Hired W) → IsHiredAt r work hubs i h → (first : HandSeen) × IsHired r work first h × IsHandAt hubs first
  hired_here i h t = (new_hand i t.0, t.2, new_at hubs i t.0 t.1)

  -- one of them was given a turn
  pub hired_turned : (hs : List (Hired W)) (i : ℕ) (old new : Hired W) → AreHired r work hubs hs → IsAt hs i old → ((first : HandSeen) → IsHired r work first old → IsHired r work first new) → length (slice_set hs i new) ≡ length hs → AreHired r work hubs (slice_set hs i new)
  hired_turned hs i old new a at keeps same = record {
    count = same ∙ a.count;
    each = each hs i new (λ j h. IsHiredAt r work hubs j h) (let t = a.each i old at in (t.0, t.1, keeps (new_hand i t.0) t.2)) (λ j h ne g. a.each j h g);
  }

  -- those behind the first ones were taken in
  pub record IsCollecting (first now : List LaneSeen) (ended : Option ℕ) (hands : List (Hired W)) : Type 0 where
    pub at : IsDealerAt hubs now
    pub end : ended ≡ Some (length now)
    pub few : length hands ≤ length hubs
    pub taken_in : AreTakenIn (r work) (length hands) now
    pub hired : AreHiredFirst r work hubs hands
    pub has : (ds : List Piece) (ws : List Worked) → HasDealt first ds ws → HasDealt now ds ws
    pub in_order : length hands < length hubs → AllAnswer (r work) now → AreInOrder (r work) now

  pub collecting_none : (lanes : List LaneSeen) (ended : Option ℕ) (hands : List (Hired W)) → IsDealerAt hubs lanes → ended ≡ Some (length lanes) → AreUncollected lanes → AreHired r work hubs hands → IsCollecting lanes lanes ended hands
  collecting_none lanes ended hands at end still a = record {
    at = at;
    end = end;
    few = let c = a.count in omega (arith, c);
    taken_in = subst (λ n. AreTakenIn (r work) n lanes) (at.count ∙ sym a.count) (none_taken_in (r work) lanes still);
    hired = a.each;
    has = λ ds ws h. h;
    in_order = λ l. absurd (let c = a.count in omega (arith, c, l));
  }

  module _ (first now : List LaneSeen) (ended : Option ℕ) (hands rest : List (Hired W)) (x : Hired W) (c : IsCollecting first now ended hands) (last : hands ≡ rest ++ x ∷ []) where
    shorter : length hands ≡ suc (length rest)
    shorter = ap length last ∙ (let a = length-append rest (x ∷ []) in omega (arith, a))

    here : IsHiredAt r work hubs (length rest) x
    here = c.hired (length rest) x (subst (λ l. IsAt l (length rest) x) (sym last) (at_last rest x (length rest) refl))

    pub last_hired : (f : HandSeen) × IsHired r work f x × IsHandAt hubs f
    last_hired = hired_here (length rest) x here

    module _ (hand : HandSeen) (back : (f : HandSeen) → IsHired r work f x → Returns (r work) f hand) where
      came : Returns (r work) (new_hand (length rest) here.0) hand
      came = back (new_hand (length rest) here.0) here.2

      number : hand.number ≡ length rest
      number = came.same.number

      pub last_at : IsHandAt hubs hand
      last_at = hand_stays hubs (new_hand (length rest) here.0) hand came.same (new_at hubs (length rest) here.0 here.1)

      pub last_open : IsOpenAt now hand.number
      last_open lane g = c.taken_in.before hand.number lane g (let s = shorter in let n = number in omega (arith, s, n))

      pub collecting_more : (after : List LaneSeen) (e : Option ℕ) → CollectsAt hand now after → IsDealerAt hubs after → e ≡ ended → ((f : Meaning) → AllAnswer f after → AreInOrder f after) → IsCollecting first after e rest
      collecting_more after e k at same order = record {
        at = at;
        end = same ∙ (c.end ∙ ap (λ n. Some n) (c.at.count ∙ sym at.count));
        few = let s = shorter in let f = c.few in omega (arith, s, f);
        taken_in = one_taken_in (r work) hand now after (length rest) k number (came.answers (new_answers (r work) (length rest) here.0)) (subst (λ n. AreTakenIn (r work) n now) shorter c.taken_in);
        hired = λ i h g. c.hired i h (subst (λ l. IsAt l i h) (sym last) (at_longer rest (x ∷ []) i h g));
        has = λ ds ws h. collect_has hand now after k ds ws (c.has ds ws h);
        in_order = λ l. order (r work);
      }

  pub collected_all : (first now : List LaneSeen) (ended : Option ℕ) (hands : List (Hired W)) → IsCollecting first now ended hands → length hands ≡ 0 → 0 < length hubs → AreInOrder (r work) now
  collected_all first now ended hands c none some = c.in_order (omega (arith, none, some)) (all_taken_in (r work) now (subst (λ k. AreTakenIn (r work) k now) none c.taken_in))
