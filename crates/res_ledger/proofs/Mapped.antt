-- Membership in a list of images.
use Rattle.std.proofs.Common.{◌≡◌, List, [], ◌∷◌, map, sym, ⊎_elim}
use Rattle.chunk_core.specs.Lists.{IsAmong}
use Rattle.chunk_core.specs.Lists.IsAmong.{here, there}
use Rattle.chunk_core.proofs.Members.{among_cons, among_nil}

module _ {A B : Type 0} (f : A → B) where
  pub map_among : (x : A) (xs : List A) → IsAmong x xs → IsAmong (f x) (map f xs)
  map_among x xs (here ys) = here (map f ys)
  map_among x xs (there {xs = ys} y m) = there (f y) (map_among x ys m)

  pub among_map : (y : B) (xs : List A) → IsAmong y (map f xs) → (x : A) × IsAmong x xs × (f x ≡ y)
  among_map y [] m = absurd (among_nil m)
  among_map y (x ∷ xs) m = ⊎_elim (λ e. (x, here xs, sym e)) (λ i. let r = among_map y xs i in (r.0, there x r.1, r.2)) (among_cons m)
