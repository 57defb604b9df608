-- From step to step within one call.
use Rattle.std.proofs.Common.{◌≡◌, ◌≢◌, ℕ, true, List, [], ◌∷◌, sym, ap, ◌∙◌, subst}
use Rattle.std.specs.Prelude.{Option, Some, None}
use Rattle.atomic_table.specs.Table.{Allows, rest}
use Rattle.chunk_core.specs.Lists.{IsAmong}
use Rattle.chunk_core.proofs.Members.{among_last}
use Rattle.row_seat.specs.declared.token.Token.{Token}
use Rattle.row_seat.specs.declared.view.Left.TheVariants.{Stays, Yours}
use Rattle.row_seat.specs.Steps.{joined, took}
use Rattle.row_seat.proofs.Moves.{some_is, some_none}
use Rattle.row_shared.specs.declared.table.Start.{Start}
use Rattle.row_shared.specs.Places.{IsRows, Seated, TookIn, at_rest, holding, idle}
use Rattle.row_shared.specs.Told.{Closed, IsGiven, IsIdle, Joined, Met, Shut, Taken}

module _ {P : Type 0} where
  -- what a step may do from rest it may do where the seat stands at rest
  pub from_rest : {k : Start} {rows id : ℕ} {me : Seated P} → me ≡ idle me.0.token → (i : ℕ) (f : ℕ → ℕ) (T : ℕ → Seated P → Type 0) → Allows (λ s. IsRows k s) rows id (idle me.0.token) i f T → Allows (λ s. IsRows k s) rows id me i f T
  from_rest {k = k} {rows = rows} {id = id} e i f T a = subst (λ (m : Seated P). Allows (λ s. IsRows k s) rows id m i f T) (sym e) a

  pub idle_is : (t : Token P) (me : Seated P) → me ≡ idle t → t.live ≡ true → IsIdle me
  idle_is t me e live = let f = ap (λ (m : Seated P). m.0.token) e in (e ∙ ap idle (sym f), ap (λ (z : Token P). z.live) f ∙ live)

  pub still_idle : (t : Token P) (me : Seated P) → me ≡ idle me.0.token → (let w : Seated P = (at_rest t, me.1) in w ≡ idle t)
  still_idle t me e = ap (λ (m : Seated P). let w : Seated P = (at_rest t, m.1) in w) e

  module _ (t : Token P) (r : ℕ) where
    pub held_is : (y : Option P) (me : Seated P) → me ≡ holding t r y → me ≡ holding me.0.token r y
    held_is y me e = e ∙ ap (λ (z : Token P). holding z r y) (sym (ap (λ (m : Seated P). m.0.token) e))

    pub carried : (y : Option P) (me : Seated P) → me ≡ holding t r y → me.1 ≡ (r, y) ∷ rest me.1
    carried y me e = ap (λ (m : Seated P). m.1) e ∙ ap (λ (l : List (ℕ × Option P)). (r, y) ∷ l) (sym (ap (λ (m : Seated P). rest m.1) e))

    pub turned_was : (y x : Option P) (me : Seated P) → me ≡ holding t r y → me.1 ≡ (r, x) ∷ rest me.1 → me ≡ holding t r x
    turned_was y x me e f = let a = ap (λ (m : Seated P). m.0) e in let b = f ∙ ap (λ (l : List (ℕ × Option P)). (r, x) ∷ l) (ap (λ (m : Seated P). rest m.1) e) in λ i. (a i, b i)

    pub turned_is : (y x : Option P) (me after : Seated P) → me ≡ holding t r y → (let w : Seated P = (me.0, (r, x) ∷ rest me.1) in after ≡ w) → after ≡ holding t r x
    turned_is y x me after e f = f ∙ ap (λ (m : Seated P). let w : Seated P = (m.0, (r, x) ∷ rest m.1) in w) e

  abbrev first_of : List (ℕ × Option P) → Option P
  first_of [] = None
  first_of (x ∷ xs) = x.1

  -- what is in the slot
  same_slot : (t u : Token P) (r : ℕ) (x y : Option P) (me : Seated P) → me ≡ holding t r x → me ≡ holding u r y → x ≡ y
  same_slot t u r x y me e f = ap (λ (m : Seated P). first_of m.1) (sym e ∙ f)

  module _ (t : Token P) (r : ℕ) where
    pub shut_told : (rows n : ℕ) (pay : P) (held after : Seated P) → held ≡ holding t r (Some pay) → Shut rows r held n after → (n ≡ 1 → Closed rows r pay Yours t after) × (n ≢ 1 → Closed rows r pay Stays t after)
    shut_told rows n pay held after e told =
        let q : pay ≡ told.0 = some_is pay told.0 (same_slot t held.0.token r (Some pay) (Some told.0) held e told.1) in let f = ap (λ (m : Seated P). m.0.token) e in (
          (λ i. subst (λ (z : Token P). Closed rows r pay Yours z after) f (subst (λ p. Closed rows r p Yours held.0.token after) (sym q) (told.2 i))),
          (λ i. subst (λ (z : Token P). Closed rows r pay Stays z after) f (subst (λ p. Closed rows r p Stays held.0.token after) (sym q) (told.3 i))),
        )

    -- the slot that was taken with a payload has it
    pub not_empty : (x : P) (u : Token P) (me : Seated P) → me ≡ holding t r (Some x) → me ≡ holding u r None → ⊥
    not_empty x u me e f = some_none x (same_slot t u r (Some x) None me e f)

    pub taken_row : (y : Option P) (me : Seated P) → me ≡ holding (took t r) r y → IsAmong r t.handed → IsAmong r me.0.token.handed × IsAmong r me.0.token.taken
    taken_row y me e m = subst (λ (z : Seated P). IsAmong r z.0.token.handed × IsAmong r z.0.token.taken) (sym e) (m, among_last t.taken r)

    pub taken_told : (x : P) (pay : P) (fetched emptied after : Seated P) → fetched ≡ holding (took t r) r (Some x) → IsGiven r x t → fetched ≡ holding fetched.0.token r (Some pay) → emptied ≡ holding (took t r) r None → after ≡ idle emptied.0.token → Taken r pay t after
    taken_told x pay fetched emptied after e given was is last =
        let q : x ≡ pay = some_is x pay (same_slot (took t r) fetched.0.token r (Some x) (Some pay) fetched e was) in
        (last ∙ ap idle (ap (λ (m : Seated P). m.0.token) is), subst (λ z. IsGiven r z t) q given)

  pub joined_told : (rows room : ℕ) (v w : Token P) (met after : Seated P) → TookIn (joined v w) v w → met ≡ idle (joined v w) → Met rows room met.0.token after → Joined rows room v w after
  joined_told rows room v w met after two e told =
      let s = subst (λ (z : Token P). Met rows room z after) (ap (λ (m : Seated P). m.0.token) e) told in (s.0, s.1, s.2 v w two)
