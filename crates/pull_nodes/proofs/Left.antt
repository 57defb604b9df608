-- What may be left may be left earlier.
use Rattle.std.proofs.Common.{◌≡◌, List, [], ◌∷◌, ◌++◌, inl, inr, refl, append_assoc}
use Rattle.chunk_core.specs.Elements.{Element}
use Rattle.chunk_core.specs.Outcomes.{End, Cut, Outcomes}
use Rattle.pull_nodes.specs.Runs.{OrLeft}

no_front : {A : Type 0} (xs ys : List A) → xs ++ ys ≡ [] → xs ≡ []
no_front [] ys h = refl
no_front (x ∷ xs) ys h = cc

pub left : (Idle : Type 0) (R : Outcomes) (ys more : List Element) (e : End) → OrLeft Idle R (ys ++ more) e → OrLeft Idle R ys Cut
left Idle R ys more e (inl r) = inr (refl, inr (more, e, r))
left Idle R ys more e (inr (is, inl (none, idle))) = inr (refl, inl (no_front ys more none, idle))
left Idle R ys more e (inr (is, inr (rest, g, r))) = inr (refl, inr (more ++ rest, g, rw (← append_assoc) r))
