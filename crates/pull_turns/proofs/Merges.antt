-- How the runs of two sides go through a merge.
use Rattle.std.proofs.Common.{◌≡◌, ◌⊎◌, inl, inr, List, [], ◌∷◌, ◌++◌, refl, sym, ◌∙◌, ap, subst, append_assoc, append-nil}
use Rattle.chunk_core.specs.Elements.{Element}
use Rattle.chunk_core.specs.Outcomes.{End, Cut, Done, Fault, Outcomes}
use Rattle.chunk_core.specs.declared.code.Code.{Code}
use Rattle.pull_nodes.specs.Runs.{Beside, EndsTogether, IsFault, IsInterleaving, Merged, OrLeft}
use Rattle.pull_turns.specs.Turned.{Leads}
use Rattle.pull_turns.proofs.Leads.{HasRun}

-- what one side gave first comes first
first_of_left : (ls xs ys zs : List Element) → IsInterleaving xs ys zs → IsInterleaving (ls ++ xs) ys (ls ++ zs)
first_of_left [] xs ys zs h = h
first_of_left (l ∷ ls) xs ys zs h = inl (ls ++ xs, refl, first_of_left ls xs ys zs h)

first_of_right : (ls xs ys zs : List Element) → IsInterleaving xs ys zs → IsInterleaving xs (ls ++ ys) (ls ++ zs)
first_of_right [] xs ys zs h = h
first_of_right (l ∷ ls) xs ys zs h = inr (ls ++ ys, refl, first_of_right ls xs ys zs h)

module _ (ls : List Element) (A A' : Outcomes) (I I' : Type 0) (f : Leads ls A' A) (stops : I' → A' [] Cut) where
  left_behind : (xs : List Element) (e : End) → OrLeft I' A' xs e → OrLeft I A (ls ++ xs) e
  left_behind xs e (inl h) = inl (f.gives xs e h)
  left_behind xs e (inr (cut, inl none)) = inl (subst (λ g. A (ls ++ xs) g) (sym cut) (f.gives xs Cut (subst (λ us. A' us Cut) (sym none.0) (stops none.1))))
  left_behind xs e (inr (cut, inr (more, g, h))) = inr (cut, inr (more, g, subst (λ us. A us g) (sym (append_assoc ls xs more)) (f.gives (xs ++ more) g h)))

  beside_behind : (g : End) (xs : List Element) (e : End) → Beside g A' I' xs e → Beside g A I (ls ++ xs) e
  beside_behind g xs e (inl h) = inl (f.gives xs e h)
  beside_behind g xs e (inr (fault, h)) = inr (fault, left_behind xs e h)

-- what a side gave comes first of the merge
pub by_merged_left : (ls : List Element) (A A' B : Outcomes) (I I' J : Type 0) → Leads ls A' A → (I' → A' [] Cut) → Leads ls (Merged A' I' B J) (Merged A I B J)
by_merged_left ls A A' B I I' J f stops = record {
  gives = λ zs h (xs, ys, e, g, a, b, order, ends). (ls ++ xs, ys, e, g, beside_behind ls A A' I I' f stops g xs e a, b, first_of_left ls xs ys zs order, ends);
}

pub by_merged_right : (ls : List Element) (A B B' : Outcomes) (I J J' : Type 0) → Leads ls B' B → (J' → B' [] Cut) → Leads ls (Merged A I B' J') (Merged A I B J)
by_merged_right ls A B B' I J J' f stops = record {
  gives = λ zs h (xs, ys, e, g, a, b, order, ends). (xs, ls ++ ys, e, g, a, beside_behind ls B B' J J' f stops e ys g b, first_of_right ls xs ys zs order, ends);
}

-- both sides end
pub merged_ends : (A B : Outcomes) (I J : Type 0) (e g h : End) → A [] e → B [] g → EndsTogether e g h → Merged A I B J [] h
merged_ends A B I J e g h a b ends = ([], [], e, g, inl a, inl b, (refl, refl), ends)

-- two sides that may be left have a run
pub merged_stops : (A B : Outcomes) (I J : Type 0) → A [] Cut → B [] Cut → HasRun (Merged A I B J)
merged_stops A B I J a b = ([], Cut, merged_ends A B I J Cut Cut Cut a b (inl refl, λ i. i, λ i. i))
