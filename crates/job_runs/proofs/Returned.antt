-- Devices that were made for rows, and came back.
use Rattle.std.proofs.Common.{◌≡◌, ℕ, suc, ◌+◌, ◌<◌, ◌≤◌, List, [], ◌∷◌, length, map, Option, Some, refl, ◌∙◌, ap, subst, arith}
use Rattle.std.specs.List.{range_with_len}
use Rattle.device_port.specs.Device.{Place, DeviceTold}
use Rattle.device_port.specs.Depot.{DepotTold, Files, fresh}
use Rattle.run_rules.specs.Facts.{at}
use Rattle.stream_parts.specs.Made.{fresh_for, having_made}
use Rattle.stream_parts.specs.Same.{AreSame}
use Rattle.stream_parts.proofs.Making.{one_more}
use Rattle.joined_runs.specs.Devices.{AreMade, AreReturned, IsAtRest}

module _ (files : Option Files) (w : ℕ → DeviceTold) where
  pub are_made : (places : List Place) (n r : ℕ) (ps : List Place) → AreReturned files n w r ps → ((i : ℕ) (p : Place) → at ps i ≡ Some p → at places (r + i) ≡ Some p) → AreMade files places n w (range_with_len r (length ps))
  are_made places n r [] h in_place = tt
  are_made places n r (p ∷ ps) h in_place =
      let first : r ≡ r + 0 = omega arith in (
        (p, ap (λ k. at places k) first ∙ in_place 0 p refl, h.0),
        are_made places (n + 1) (r + 1) ps h.1 (λ i q e. let next : r + 1 + i ≡ r + suc i = omega arith in ap (λ k. at places k) next ∙ in_place (suc i) q e),
      )

  pub places_are : (n r : ℕ) (ps : List Place) → AreReturned files n w r ps → map (λ q. (w q).place) (range_with_len r (length ps)) ≡ ps
  places_are n r [] h = refl
  places_are n r (p ∷ ps) h = ap (λ q. q ∷ map (λ k. (w k).place) (range_with_len (r + 1) (length ps))) h.0.place_is ∙ ap (λ l. p ∷ l) (places_are (n + 1) (r + 1) ps h.1)

module _ {V : Type 0} (told : V → DeviceTold) (w : ℕ → DeviceTold) where
  -- they were made for the rows, with the numbers behind those before
  pub made_returned : (depot : DepotTold) (r : ℕ) (ps : List Place) (devices : List V) → map told devices ≡ fresh_for depot ps → AreSame told w r devices → ((q : ℕ) → r ≤ q → q < r + length devices → IsAtRest (w q)) → AreReturned depot.files (length depot.made) w r ps
  made_returned depot r [] devices e s rest = tt
  made_returned depot r (p ∷ ps) [] e s rest = absurd cc
  made_returned depot r (p ∷ ps) (d ∷ devices) e s rest =
      let next : suc r ≡ r + 1 = omega arith in
      let first : told d ≡ fresh depot p = cc in
      let others : map told devices ≡ fresh_for (having_made depot p) ps = cc in (
        record {
          number_is = s.0.number ∙ ap (λ (x : DeviceTold). x.number) first;
          place_is = s.0.place ∙ ap (λ (x : DeviceTold). x.place) first;
          content_is = s.0.content ∙ ap (λ (x : DeviceTold). x.content) first;
          rest = rest r (omega arith) (omega arith);
        },
        subst (λ n. AreReturned depot.files n w (r + 1) ps) (one_more depot p)
            (made_returned (having_made depot p) (r + 1) ps devices others (subst (λ q. AreSame told w q devices) next s.1) (λ q l m. rest q (omega (arith, l)) (omega (arith, m)))),
      )
