-- Loads that are still to come.
use Rattle.std.proofs.Common.{◌≡◌, ℕ, suc, ◌+◌, ◌<◌, List, [], ◌∷◌, ◌++◌, length, get_or, Option, Some, refl, ap, sym, ◌∙◌, arith}
use Rattle.std.specs.Prelude.{option_to_list}
use Rattle.chunk_core.specs.Elements.{Element, LoadKind, elements, elements_of, kind_of}
use Rattle.chunk_core.specs.declared.load.Load.{Load}
use Rattle.any_pipe.specs.Pouring.{AreOf}

-- the first load and the others
front : (old new : List Load) (load : Load) (r : Option Load) → old ≡ option_to_list r ++ new → r ≡ Some load → old ≡ load ∷ new
front old new load r whole is = whole ∙ ap (λ o. option_to_list o ++ new) is

pub first_load : (before old new : List Load) (load : Load) (r : Option Load) → elements_of before ≡ elements_of old → old ≡ option_to_list r ++ new → r ≡ Some load → elements_of before ≡ elements load ++ elements_of new
first_load before old new load r same whole is = same ∙ ap elements_of (front old new load r whole is)

pub first_kind : (k : LoadKind) (old new : List Load) (load : Load) (r : Option Load) → old ≡ option_to_list r ++ new → r ≡ Some load → AreOf k old → (kind_of load ≡ k) × AreOf k new
first_kind k old new load r whole is are =
    let f = front old new load r whole is in (
      ap (λ l. kind_of (get_or l 0 load)) (sym f) ∙ are 0 load (let n = ap length f in omega (arith, n)),
      λ i d h. ap (λ l. kind_of (get_or l (suc i) d)) (sym f) ∙ are (suc i) d (let n = ap length f in omega (arith, n, h)),
    )

-- a list of length 0
pub none_of : (xs : List Element) → length xs ≡ 0 → xs ≡ []
none_of [] h = refl
none_of (x ∷ xs) h = absurd (omega (arith, h))

-- where the first is empty the others have all
pub skipped : (before old new : List Load) (load : Load) (r : Option Load) → elements_of before ≡ elements_of old → old ≡ option_to_list r ++ new → r ≡ Some load → length (elements load) ≡ 0 → elements_of before ≡ elements_of new
skipped before old new load r same whole is none = first_load before old new load r same whole is ∙ ap (λ l. l ++ elements_of new) (none_of (elements load) none)
