-- How the lines of a list that are given streams end.
use Rattle.std.proofs.Common.{◌≡◌, ◌⊎◌, ℕ, zero, suc, Bool, true, false, if◌then◌else◌, List, [], ◌∷◌, ◌++◌, inl, inr, refl, ◌∙◌, ap, ⊎_elim}
use Rattle.chunk_core.specs.Elements.{Element}
use Rattle.chunk_core.specs.Outcomes.{End, Fault}
use Rattle.chunk_core.specs.declared.code.Code.{Code}
use Rattle.chunk_core.specs.declared.code.Code.TheVariants as code
use Rattle.run_rules.specs.Listing.{ListedLines, line_bytes, listing_of}

either_way : (b : Bool) → (b ≡ true) ⊎ (b ≡ false)
either_way true = inl refl
either_way false = inr refl

-- the lines of a list, of which the first one is bad or isn't
abbrev behind : Bool → List ℕ → ListedLines → ListedLines
behind b line rest = if b then (record { lines = []; end = Fault code.BadPath }) else (record { lines = line ∷ rest.lines; end = rest.end })

module _ (bad : List ℕ → Bool) where
  -- whatever comes behind these elements, a line among them is a fault: there are too many, or it is bad
  pub record StopsAt (n : ℕ) (ys : List Element) : Type 0 where
    pub fault : Code
    pub why : (fault ≡ code.TooMany) ⊎ (fault ≡ code.BadPath)
    pub end : (e : End) → (listing_of n bad ys e).end ≡ Fault fault
    pub more : (zs : List Element) (e : End) → (listing_of n bad (ys ++ zs) e).end ≡ Fault fault

  -- all lines of these elements are given streams, and they end as they do
  abbrev pub GoesOn : ℕ → List Element → Type 0
  GoesOn n ys = (e : End) → (listing_of n bad ys e).end ≡ e

  module _ (n : ℕ) (y : Element) (ys : List Element) where
    stops_here : bad (line_bytes y) ≡ true → StopsAt (suc n) (y ∷ ys)
    stops_here is = record {
      fault = code.BadPath;
      why = inr refl;
      end = λ e. ap (λ b. (behind b (line_bytes y) (listing_of n bad ys e)).end) is;
      more = λ zs e. ap (λ b. (behind b (line_bytes y) (listing_of n bad (ys ++ zs) e)).end) is;
    }

    stops_later : bad (line_bytes y) ≡ false → StopsAt n ys → StopsAt (suc n) (y ∷ ys)
    stops_later is s = record {
      fault = s.fault;
      why = s.why;
      end = λ e. ap (λ b. (behind b (line_bytes y) (listing_of n bad ys e)).end) is ∙ s.end e;
      more = λ zs e. ap (λ b. (behind b (line_bytes y) (listing_of n bad (ys ++ zs) e)).end) is ∙ s.more zs e;
    }

    goes_on : bad (line_bytes y) ≡ false → GoesOn n ys → GoesOn (suc n) (y ∷ ys)
    goes_on is h e = ap (λ b. (behind b (line_bytes y) (listing_of n bad ys e)).end) is ∙ h e

  -- they end in one of these ways
  pub comes : (n : ℕ) (ys : List Element) → GoesOn n ys ⊎ StopsAt n ys
  comes zero [] = inl (λ e. refl)
  comes (suc n) [] = inl (λ e. refl)
  comes zero (y ∷ ys) = inr (record { fault = code.TooMany; why = inl refl; end = λ e. refl; more = λ zs e. refl })
  comes (suc n) (y ∷ ys) =
      ⊎_elim
      (λ is. inr (stops_here n y ys is))
      (λ is. ⊎_elim (λ h. inl (goes_on n y ys is h)) (λ s. inr (stops_later n y ys is s)) (comes n ys))
      (either_way (bad (line_bytes y)))
