use Rattle.std.proofs.Common.{◌≡◌, ℕ, List, [], ◌∷◌, ◌++◌, ap, ◌∙◌, subst, ⊎_elim, arith}
use Rattle.chunk_core.specs.Lists.{IsAmong}
use Rattle.chunk_core.proofs.Members.{among_cons, among_nil}
use Rattle.channel_bounded.specs.Ends.{ReceiverSeen}
use Rattle.worked_threads.proofs.channels.run_four.Goals as goal

made_more : (r s : ReceiverSeen) (k : ℕ) (xs : List ℕ) → s ≡ record r { made = r.made ++ k ∷ [] } → r.made ≡ xs → s.made ≡ xs ++ k ∷ []
made_more r s k xs e f = ap (λ (x : ReceiverSeen). x.made) e ∙ ap (λ l. l ++ k ∷ []) f

not_two : (xs : List ℕ) → xs ≡ 0 ∷ 1 ∷ [] → ¬ IsAmong 2 xs
not_two xs e h = ⊎_elim (λ (a : 2 ≡ 0). absurd (omega arith)) (λ t. ⊎_elim (λ (b : 2 ≡ 1). absurd (omega arith)) (λ n. among_nil n) (among_cons t)) (among_cons (subst (λ l. IsAmong 2 l) e h))

not_three : (xs : List ℕ) → xs ≡ 0 ∷ 1 ∷ 2 ∷ [] → ¬ IsAmong 3 xs
not_three xs e h = ⊎_elim (λ (a : 3 ≡ 0). absurd (omega arith))
    (λ t. ⊎_elim (λ (b : 3 ≡ 1). absurd (omega arith)) (λ n. ⊎_elim (λ (d : 3 ≡ 2). absurd (omega arith)) (λ o. among_nil o) (among_cons n)) (among_cons t))
    (among_cons (subst (λ l. IsAmong 3 l) e h))

pub split-two-requires-clause-fresh : goal.split-two-requires-clause-fresh
split-two-requires-clause-fresh g c = not_two _ (made_more _ _ 1 _ c.split-one.ensures.receiver (made_more _ _ 0 _ c.split-zero.ensures.receiver c.requires.1))

pub split-three-requires-clause-fresh : goal.split-three-requires-clause-fresh
split-three-requires-clause-fresh g c =
    not_three _ (made_more _ _ 2 _ c.split-two.ensures.receiver (made_more _ _ 1 _ c.split-one.ensures.receiver (made_more _ _ 0 _ c.split-zero.ensures.receiver c.requires.1)))
