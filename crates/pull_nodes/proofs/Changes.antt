-- What holds of the pipe of elements that differ from the one before them.
use Rattle.std.proofs.Common.{◌≡◌, ◌↔◌, Bool, true, false, cond, List, [], ◌∷◌, ◌++◌, refl, ap, inr}
use Rattle.std.proofs.lemmas.Bool.{eq-eqb, eqb-true}
use lib.Pointwise.{bytes_decides, pointwise_decides}
use Rattle.chunk_core.specs.Elements.{Element, Byte, Line, Row}
use Rattle.chunk_core.specs.Elements.LoadKind.{Lines}
use Rattle.pull_nodes.specs.Changes.{same_element, changes_after, changes, changes_rule}
use Rattle.pull_nodes.specs.Laws.{IsFront}
use Rattle.pull_nodes.proofs.Fronts.{front_cons}
use Rattle.pull_nodes.proofs.Lawful.{IsLawful, own_none}
use Rattle.pull_nodes.proofs.Steady.{same_at_end}

changes_case : (t : Bool) (x : Element) (ys zs : List Element) → IsFront ys zs → IsFront (cond t ys (x ∷ ys)) (cond t zs (x ∷ zs))
changes_case true x ys zs f = f
changes_case false x ys zs f = front_cons x ys zs f

pub changes_after_front : (y : Element) (xs zs : List Element) → IsFront (changes_after y xs) (changes_after y (xs ++ zs))
changes_after_front y [] zs = (changes_after y zs, refl)
changes_after_front y (x ∷ xs) zs = changes_case (same_element y x) x (changes_after x xs) (changes_after x (xs ++ zs)) (changes_after_front x xs zs)

changes_front : (xs zs : List Element) → IsFront (changes xs) (changes (xs ++ zs))
changes_front [] zs = (changes zs, refl)
changes_front (x ∷ xs) zs = front_cons x _ _ (changes_after_front x xs zs)

-- the test of two elements
pub same_is_equal : (x y : Element) → (same_element x y ≡ true) ↔ (x ≡ y)
same_is_equal (Byte a) (Byte b) = (λ h. ap Byte (eqb-true a b h), λ e. eq-eqb a b (cc))
same_is_equal (Line a) (Line b) = let d = bytes_decides a b in (λ h. ap Line (d.0 h), λ e. d.1 (cc))
same_is_equal (Row a) (Row b) = let d = pointwise_decides bytes_decides a b in (λ h. ap Row (d.0 h), λ e. d.1 (cc))
same_is_equal (Byte a) (Line b) = (λ h. (cc), λ e. (cc))
same_is_equal (Byte a) (Row b) = (λ h. (cc), λ e. (cc))
same_is_equal (Line a) (Byte b) = (λ h. (cc), λ e. (cc))
same_is_equal (Line a) (Row b) = (λ h. (cc), λ e. (cc))
same_is_equal (Row a) (Byte b) = (λ h. (cc), λ e. (cc))
same_is_equal (Row a) (Line b) = (λ h. (cc), λ e. (cc))

pub changes_lawful : IsLawful changes_rule
changes_lawful = record {
  steady = same_at_end changes changes_front;
  own = λ xs. (own_none, own_none);
  empty = refl;
  behind_nothing = inr (Lines, Lines, refl, refl);
}
