-- Pairs of sides that go on.
use Rattle.std.proofs.Common.{◌≡◌, ℕ, List, [], ◌∷◌, ◌++◌, length, drop, refl, sym, ap, ◌∙◌, arith, append-nil}
use Rattle.chunk_core.specs.Elements.{Element}
use Rattle.pull_nodes.specs.Pairs.{pairs_of, pair_of}
use Rattle.stream_sides.specs.Sides.{Sides, AddsPairs, paired, unpaired, with_more}
use Rattle.stream_sides.specs.declared.side.Side.{Side}
use Rattle.stream_sides.specs.declared.side.Side.TheVariants.{Left, Right}

-- Both sides go on: the pairs so far, and those of what waited and what came.
pub pairs_on : (xs ys us vs : List Element) → pairs_of xs ys ++ pairs_of (drop (length ys) xs ++ us) (drop (length xs) ys ++ vs) ≡ pairs_of (xs ++ us) (ys ++ vs)
pairs_on [] [] us vs = refl
pairs_on [] (y ∷ ys) us vs = refl
pairs_on (x ∷ xs) [] us vs = refl
pairs_on (x ∷ xs) (y ∷ ys) us vs = ap (λ l. pair_of (x, y) ∷ l) (pairs_on xs ys us vs)

sides_are : (xs ys us vs : List Element) → xs ≡ us → ys ≡ vs → ◌≡◌ {A = Sides} (record { left = xs; right = ys }) (record { left = us; right = vs })
sides_are xs ys us vs p q = λ i. record { left = p i; right = q i }

unpaired_left : (xs ys zs : List Element) → drop (length (drop (length xs) ys)) (drop (length ys) xs ++ zs) ≡ drop (length ys) (xs ++ zs)
unpaired_left [] [] zs = refl
unpaired_left [] (y ∷ ys) zs = refl
unpaired_left (x ∷ xs) [] zs = refl
unpaired_left (x ∷ xs) (y ∷ ys) zs = unpaired_left xs ys zs

unpaired_right : (xs ys zs : List Element) → drop (length (drop (length ys) xs ++ zs)) (drop (length xs) ys) ≡ drop (length (xs ++ zs)) ys
unpaired_right [] [] zs = refl
unpaired_right [] (y ∷ ys) zs = refl
unpaired_right (x ∷ xs) [] zs = refl
unpaired_right (x ∷ xs) (y ∷ ys) zs = unpaired_right xs ys zs

-- What waits after what came is what waits of all.
pub waits_of_all : (all : Sides) (side : Side) (zs : List Element) → unpaired (with_more (unpaired all) side zs) ≡ unpaired (with_more all side zs)
waits_of_all all Left zs = sides_are _ _ _ _ (unpaired_left all.left all.right zs) (unpaired_right all.left all.right zs)
waits_of_all all Right zs = sides_are _ _ _ _ (unpaired_right all.right all.left zs) (unpaired_left all.right all.left zs)

pairs_of_all : (all : Sides) (side : Side) (zs : List Element) → paired all ++ paired (with_more (unpaired all) side zs) ≡ paired (with_more all side zs)
pairs_of_all all Left zs = simp append-nil at (pairs_on all.left all.right zs [])
pairs_of_all all Right zs = simp append-nil at (pairs_on all.left all.right [] zs)

pub adds_pairs : (all now new : Sides) (side : Side) (more given : List Element) → now ≡ unpaired all → given ≡ paired (with_more now side more)
    → new ≡ unpaired (with_more now side more) → AddsPairs all side more given new
adds_pairs all now new side more given waits pairs rest = record {
  pairs = ap (λ l. paired all ++ l) (pairs ∙ ap (λ t. paired (with_more t side more)) waits) ∙ pairs_of_all all side more;
  rest = rest ∙ (ap (λ t. unpaired (with_more t side more)) waits ∙ waits_of_all all side more);
}
