-- The ways up from scopes.
use Rattle.std.proofs.Common.{◌≡◌, ℕ, Bool, true, false, cond, List, [], ◌∷◌, ◌++◌, refl, sym, ap, ◌∙◌, subst, None, Some}
use Rattle.chunk_core.proofs.Members.{among_last}
use Rattle.res_ledger.specs.declared.event.StreamNo.{StreamNo}
use Rattle.res_ledger.specs.declared.event.What.TheVariants.{Open}
use Rattle.res_ledger.specs.declared.event.Event.{Event}
use Rattle.res_ledger.specs.Ledger.{LiesWithin}
use Rattle.res_ledger.specs.Ledger.LiesWithin.{same, below}
use Rattle.res_ledger.proofs.Prefixes.{front_within}
use Rattle.ledger_books.specs.declared.index.Key.{Key}
use Rattle.ledger_books.specs.declared.index.Key.TheVariants.{Opened}
use Rattle.ledger_books.specs.declared.jumps.Jump.{Jump}
use Rattle.ledger_books.specs.declared.jumps.Jumps.{Jumps}
use Rattle.ledger_books.specs.Jumps.{LeadsUp, jump_of}
use Rattle.ledger_books.specs.Key.{same_key}
use Rattle.ledger_books.specs.Keyed.{number_of}
use Rattle.ledger_books.proofs.Keys.{number_is}
use Rattle.ledger_books.proofs.Ending.{same_end}

pub within_then : {P : List Event} {k : StreamNo} {s a x : ℕ} → LiesWithin P k s a → LiesWithin P k a x → LiesWithin P k s x
within_then (same s) v = v
within_then (below s p a n w) v = below s p _ n (within_then w v)

pub leads_none : (x : Jumps) → ((q : Key) → jump_of x q ≡ None) → LeadsUp x []
leads_none x n k s j h = let u : None ≡ Some j = sym (n (Opened (number_of k) s)) ∙ h in cc

-- no event more that opens a scope
pub leads_still : (x : Jumps) (P : List Event) (e : Event) → LeadsUp x P → LeadsUp x (P ++ e ∷ [])
leads_still x P e f k s j h = let t = f k s j h in (front_within (e ∷ []) t.0, front_within (e ∷ []) t.1)

-- a scope is opened
pub leads_open : (x y : Jumps) (P : List Event) (e : Event) (s p : ℕ) (j : Jump) → e.what ≡ Open s p → j.parent ≡ p → (LeadsUp x P → LiesWithin P e.by p j.above) → ((q : Key) → jump_of y q ≡ cond (same_key (Opened (number_of e.by) s) q) (Some j) (jump_of x q)) → LeadsUp x P → LeadsUp y (P ++ e ∷ [])
leads_open x y P e s p j w d up set f k t i h = at (same_key (Opened (number_of e.by) s) (Opened (number_of k) t)) refl (sym (set (Opened (number_of k) t)) ∙ h)
  where
    at : (c : Bool) → same_key (Opened (number_of e.by) s) (Opened (number_of k) t) ≡ c → cond c (Some j) (jump_of x (Opened (number_of k) t)) ≡ Some i → LiesWithin (P ++ e ∷ []) k t i.parent × LiesWithin (P ++ e ∷ []) k t i.above
    at false g h = leads_still x P e f k t i h
    at true g h =
        let q = same_end (number_of e.by) s (number_of k) t g in
        let b : e.by ≡ k = number_is e.by k q.0 in
        let v : j ≡ i = cc in
        let a : LiesWithin P k p j.above = subst (λ l. LiesWithin P l p j.above) b (up f) in
        let n : e.what ≡ Open t p = w ∙ ap (λ z. Open z p) q.1 in
        let one : LiesWithin (P ++ e ∷ []) k t p = below t p p (e, among_last P e, b, n) (same p) in (
          subst (LiesWithin (P ++ e ∷ []) k t) (sym d ∙ ap (λ z. z.parent) v) one,
          subst (LiesWithin (P ++ e ∷ []) k t) (ap (λ z. z.above) v) (within_then one (front_within (e ∷ []) a)),
        )
