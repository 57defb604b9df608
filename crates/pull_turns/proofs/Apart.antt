-- What a turn of one part leaves of another that may run too.
use Rattle.std.proofs.Common.{◌≡◌, inl, inr, ℕ, sym, subst}
use Rattle.pull_turns.specs.Around.{Around, IsSpared}
use Rattle.pull_turns.specs.Piping.{StateMeaning}
use Rattle.pull_turns.specs.Rest.{AreApart, CanStep, IsLive, IsReady, IsScopeOf}
use Rattle.pull_turns.specs.Turned.{GoesOn, Turned}
use Rattle.pull_turns.specs.declared.rest.Rest.{Rest}
use Rattle.pull_turns.specs.declared.turn.Turn.{Turn}
use Rattle.pull_turns.proofs.Kept.{own_spared, ready_kept, scope_inside, scope_open, spares_around}

pub apart_across : {F : Type 0} (a : Around) (x y : Rest F) → AreApart a x y → AreApart a y x
apart_across a x y h = record { places = λ p i j. h.places p j i; scopes = λ c d i j. let k = h.scopes d c j i in (k.1, k.0) }

module _ {F : Type 0} (P : StateMeaning F) (a b : Around) (s n : ℕ) (x new y : Rest F) (t : Turn) (can : CanStep P a s x) (h : Turned P a b s n x new t) (apart : AreApart a x y) (ready : IsReady a s y) where
  -- a scope of the other part stays as it was
  pub other_spared : (d : ℕ) → IsScopeOf d y → IsSpared a (λ c. IsScopeOf c x) d
  other_spared d i = (scope_open a s d y ready i, λ c j w. (apart.scopes c d j i).1 w)

  pub other_ready : IsReady b s y
  other_ready =
      ready_kept a b (λ p. IsLive p x) (λ c. IsScopeOf c x) (spares_around a (λ c. IsScopeOf c x) can.nested) h.moved.keeps s y (λ p i j. apart.places p j i)
      (own_spared a can.nested s x can.opened can.ready) other_spared ready

  -- what the turn left of the part and the other part may both run on
  pub still_apart : GoesOn t → AreApart b new y
  still_apart g = record {
    places = λ p i j. apart.places p (h.live p i) j;
    scopes = λ c d i j.
        let spared = other_spared d j in
        let lies = (h.moved.keeps.stays d spared).within in
        elim (h.scopes g c i) [
          | inl k ↦ let before = apart.scopes c d k.0 j in (λ w. before.0 ((k.1 d).0 w), λ w. before.1 ((lies c).0 w))
          | inr k ↦ (
            λ w. elim (k.inside d w) [
              | inl e ↦ k.fresh d spared.0 (subst (λ m. b.within d m) e (subst (λ m. b.within m d) (sym e) w))
              | inr (e, m, v) ↦ elim m [ inl o ↦ (scope_inside a can.nested s d y ready j).1 (subst (λ l. a.within l d) o v) | inr o ↦ (apart.scopes e d o j).0 v ]
            ],
            λ w. k.fresh d spared.0 w,
          )
        ];
  }
