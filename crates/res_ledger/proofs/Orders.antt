-- A ledger is told by its events and their stamps.
use Rattle.std.proofs.Common.{◌≡◌, ℕ, suc, ◌+◌, ◌<◌, ◌≤◌, ◌↔◌, List, [], ◌∷◌, ◌++◌, length, refl, ap, ◌∙◌, ⊎_elim, arith}
use Rattle.chunk_core.specs.Lists.{IsAmong}
use Rattle.chunk_core.specs.Lists.IsAmong.{here, there}
use Rattle.chunk_core.proofs.Members.{among_cons, among_nil}
use Rattle.chunk_core.proofs.Cuts.{among_parts}
use Rattle.res_ledger.specs.declared.event.Event.{Event}
use Rattle.res_ledger.specs.Ledger.{IsStamped}
use Rattle.res_ledger.specs.Rising.{Rises}

-- the event at position i has the stamp n + i
abbrev IsStampedFrom : ℕ → List Event → Type 0
IsStampedFrom n L = (P Q : List Event) (e : Event) → L ≡ P ++ e ∷ Q → e.stamp ≡ n + length P

rest : (n : ℕ) (e : Event) (L : List Event) → IsStampedFrom n (e ∷ L) → IsStampedFrom (suc n) L
rest n e L h P Q x is = h (e ∷ P) Q x (ap (λ l. e ∷ l) is) ∙ omega arith

same_stamp : (x y : Event) → x ≡ y → x.stamp ≡ y.stamp
same_stamp x y e = ap (λ (z : Event). z.stamp) e

same_from : (n : ℕ) (L M : List Event) → IsStampedFrom n L → Rises M → ((x : Event) → IsAmong x M → n ≤ x.stamp) → ((x : Event) → IsAmong x L ↔ IsAmong x M) → L ≡ M
same_from n [] [] h r low both = refl
same_from n [] (m ∷ M) h r low both = absurd (among_nil ((both m).1 (here M)))
same_from n (e ∷ L) [] h r low both = absurd (among_nil ((both e).0 (here L)))
same_from n (e ∷ L) (m ∷ M) h r low both =
    let first : e.stamp ≡ n = h [] L e refl ∙ omega arith in
    let above : (x : Event) → IsAmong x L → n < x.stamp = λ x a. let t = among_parts x L a in let s = h (e ∷ t.0) t.1 x (ap (λ l. e ∷ l) t.2) in omega arith in
    let is : e ≡ m = ⊎_elim (λ s. s) (λ a. let s = r.0 e a in let l = low m (here M) in absurd (omega arith)) (among_cons ((both e).0 (here L))) in
    let tails : L ≡ M = same_from (suc n) L M (rest n e L h) r.1 (λ x a. let s = r.0 x a in let l = low m (here M) in omega arith)
    (λ x. (
      (λ a. ⊎_elim (λ s. let b = above x a in let c = same_stamp x m s in let d = same_stamp e m is in absurd (omega arith)) (λ b. b) (among_cons ((both x).0 (there e a)))),
      (λ a. ⊎_elim (λ s. let b = r.0 x a in let c = same_stamp x e s in let d = same_stamp e m is in absurd (omega arith)) (λ b. b) (among_cons ((both x).1 (there m a)))),
    )) in
    ap (λ y. y ∷ L) is ∙ ap (λ l. m ∷ l) tails

-- a ledger with the same events as a list of rising stamps is that list
pub rising_is : (L M : List Event) → IsStamped L → Rises M → ((x : Event) → IsAmong x L ↔ IsAmong x M) → L ≡ M
rising_is L M h r both = same_from 0 L M (λ P Q e is. h P Q e is ∙ omega arith) r (λ x a. omega arith) both
