-- Step after step.
use Rattle.std.proofs.Common.{◌≡◌, ℕ, ◌+◌, ◌-◌, ◌≤◌, List, [], ◌++◌, length, take, drop, Option, sym, ap, ◌∙◌, subst, arith, append_assoc, length-drop}
use Rattle.std.proofs.Math.Seq.{take-add}
use Rattle.std.proofs.lemmas.List.{append-nil, take_all}
use Rattle.cut_frames.specs.declared.step.Place.{Place}
use Rattle.cut_frames.specs.Frames.{Stands}

-- what was taken so far leads from a place to the next
abbrev pub Leads : Option ℕ → Place → Place → List ℕ → ℕ → List ℕ → Type 0
Leads wanted place next text taken out = (front given : List ℕ) → Stands wanted place front given → Stands wanted next (front ++ take taken text) (given ++ out)

pub begins : (wanted : Option ℕ) (place : Place) (text : List ℕ) → Leads wanted place place text 0 []
begins wanted place text front given s = subst (λ f. Stands wanted place f (given ++ [])) (sym (nil front)) (subst (λ g. Stands wanted place front g) (sym (nil given)) s)
  where
    nil : (xs : List ℕ) → xs ++ [] ≡ xs
    nil xs = append-nil xs

-- a text behind what was taken of it, as a slice of it
pub rest_is : (text : List ℕ) (taken : ℕ) → take (length text - taken) (drop taken text) ≡ drop taken text
rest_is text taken = take_all (length text - taken) (drop taken text) (omega (arith, length-drop taken text))

-- one step more
pub leads_on : (wanted : Option ℕ) (place here next : Place) (text out part rest : List ℕ) (taken count : ℕ) → rest ≡ drop taken text → Leads wanted place here text taken out
    → ((front given : List ℕ) → Stands wanted here front given → Stands wanted next (front ++ take count rest) (given ++ part))
    → Leads wanted place next text (taken + count) (out ++ part)
leads_on wanted place here next text out part rest taken count is leads step front given s =
    subst (λ f. Stands wanted next f (given ++ (out ++ part))) (ap (λ l. (front ++ take taken text) ++ take count l) is ∙ append_assoc front (take taken text) (take count (drop taken text)) ∙ ap (λ l. front ++ l) (sym (take-add taken count text)))
    (subst (λ g. Stands wanted next ((front ++ take taken text) ++ take count rest) g) (append_assoc given out part) (step (front ++ take taken text) (given ++ out) (leads front given s)))

pub within_more : (text rest : List ℕ) (taken count : ℕ) → rest ≡ drop taken text → taken ≤ length text → count ≤ length rest → taken + count ≤ length text
within_more text rest taken count is few fits = omega (arith, few, fits, ap (λ l. length l) is, length-drop taken text)
