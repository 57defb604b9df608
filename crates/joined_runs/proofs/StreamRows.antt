-- The rows of each stream among those of all.
use Rattle.std.proofs.Common.{◌≡◌, ℕ, zero, suc, ◌+◌, ◌-◌, ◌<◌, ◌≤◌, List, [], ◌∷◌, ◌++◌, map, take, flat_map, length, Some, refl, sym, ◌∙◌, ap, subst, ⊎_elim, arith, length-append}
use Rattle.std.specs.List.{sum_by}
use Rattle.std.proofs.lemmas.Bool.{cases_lt}
use Rattle.std.proofs.lemmas.List.{length-map}
use Rattle.std.proofs.lemmas.List.Sums.{sum_by-cons}
use Rattle.res_ledger.specs.declared.event.StreamNo.TheVariants.{Inner, Outer}
use Rattle.device_port.specs.Device.{Place}
use Rattle.run_rules.specs.Facts.{at}
use Rattle.run_rules.specs.Work.{Opener, Stream, first_row_of, opener_places, owners_from}
use Rattle.join_tale.specs.Records.{bare}
use Rattle.plan_work.specs.Joined.{places_in}
use Rattle.joined_runs.proofs.JoinedRules.{owners_in}
use Rattle.joined_runs.proofs.RowPlaces.{at_each, at_left, at_right, owner_right}

-- the places of the streams' rows
abbrev pub stream_rows : List Stream → List Place
stream_rows ss = flat_map (λ s. s.places) ss

-- how many rows stand before those of stream k
abbrev pub rows_before : List Stream → ℕ → ℕ
rows_before ss zero = 0
rows_before [] (suc k) = 0
rows_before (s ∷ ss) (suc k) = length s.places + rows_before ss k

pub before_is : (ss : List Stream) (k : ℕ) → rows_before ss k ≡ sum_by (λ (s : Stream). length s.places) (take k ss)
before_is ss zero = refl
before_is [] (suc k) = refl
before_is (s ∷ ss) (suc k) = let c = sum_by-cons (λ (t : Stream). length t.places) s (take k ss) in let i = before_is ss k in omega (arith, c, i)

same_some : {A : Type 0} (x y : A) → Some x ≡ Some y → x ≡ y
same_some x y e = cc

-- row i of stream k is one of all rows
pub place_at : (ss : List Stream) (k : ℕ) (s : Stream) (i : ℕ) → at ss k ≡ Some s → i < length s.places → at (stream_rows ss) (rows_before ss k + i) ≡ at s.places i
place_at [] k s i e l = cc
place_at (t ∷ ss) zero s i e l =
    let same : t ≡ s = same_some t s e in
    let z : 0 + i ≡ i = omega arith in
    ap (at (t.places ++ stream_rows ss)) z ∙ (subst (λ (x : Stream). at (x.places ++ stream_rows ss) i ≡ at s.places i) (sym same) (at_left s.places (stream_rows ss) i l))
place_at (t ∷ ss) (suc k) s i e l =
    let z : length t.places + rows_before ss k + i - length t.places ≡ rows_before ss k + i = omega arith in
    at_right t.places (stream_rows ss) (length t.places + rows_before ss k + i) (omega arith) ∙ (ap (at (stream_rows ss)) z ∙ place_at ss k s i e l)

-- and the stream's own
pub owner_at_row : (j : ℕ) (ss : List Stream) (k : ℕ) (s : Stream) (i : ℕ) → at ss k ≡ Some s → i < length s.places → at (owners_from j ss) (rows_before ss k + i) ≡ Some (Inner (j + k))
owner_at_row j [] k s i e l = cc
owner_at_row j (t ∷ ss) zero s i e l =
    let same : t ≡ s = same_some t s e in
    let z : 0 + i ≡ i = omega arith in
    let first : j ≡ j + 0 = omega arith in
    let here : i < length t.places = subst (λ (x : Stream). i < length x.places) (sym same) l in
    let long = length-map t.places (λ (p : Place). Inner j) in
    ap (at (owners_from j (t ∷ ss))) z ∙ (at_left (map (λ p. Inner j) t.places) (owners_from (suc j) ss) i (omega (arith, here, long)) ∙ (at_each (Inner j) t.places i here ∙ ap (λ n. Some (Inner n)) first))
owner_at_row j (t ∷ ss) (suc k) s i e l =
    let z : length t.places + rows_before ss k + i - length t.places ≡ rows_before ss k + i = omega arith in
    let next : suc j + k ≡ j + suc k = omega arith in
    owner_right (Inner j) t.places (owners_from (suc j) ss) (length t.places + rows_before ss k + i) (omega arith) ∙ (ap (at (owners_from (suc j) ss)) z ∙ (owner_at_row (suc j) ss k s i e l ∙ ap (λ n. Some (Inner n)) next))

-- a row that belongs to stream k
pub record IsRowOf (ss : List Stream) (q : ℕ) : Type 0 where
  pub number : ℕ
  pub stream : Stream
  pub is : at ss number ≡ Some stream
  pub from : rows_before ss number ≤ q
  pub to : q < rows_before ss number + length stream.places

-- each row belongs to a stream
pub row_found : (ss : List Stream) (q : ℕ) → q < length (stream_rows ss) → IsRowOf ss q
row_found [] q l = absurd (omega arith)
row_found (s ∷ ss) q l =
    ⊎_elim
    (λ (h : q < length s.places). record { number = 0; stream = s; is = refl; from = omega arith; to = omega (arith, h) })
    (λ (h : length s.places ≤ q).
    let sum = length-append s.places (stream_rows ss) in
    let r = row_found ss (q - length s.places) (omega (arith, h, l, sum)) in
    let low = r.from in
    let high = r.to in
    record { number = suc r.number; stream = r.stream; is = r.is; from = omega (arith, h, low); to = omega (arith, h, high) })
    (cases_lt q (length s.places))

-- the rows of a stream are no more than all
pub rows_inside : (ss : List Stream) (k : ℕ) (s : Stream) → at ss k ≡ Some s → rows_before ss k + length s.places ≤ length (stream_rows ss)
rows_inside [] k s e = cc
rows_inside (t ∷ ss) zero s e =
    let same : t ≡ s = same_some t s e in
    let sum = length-append t.places (stream_rows ss) in
    let long = ap (λ (x : Stream). length x.places) same in
    omega (arith, sum, long)
rows_inside (t ∷ ss) (suc k) s e = let sum = length-append t.places (stream_rows ss) in let i = rows_inside ss k s e in omega (arith, sum, i)

module _ (opener : Opener) (ss : List Stream) where
  pub count_is : length (places_in opener ss) ≡ length (opener_places opener) + length (stream_rows ss)
  count_is = length-append (opener_places opener) (stream_rows ss)

  -- what holds of stream k and of its rows, which begin with `from`
  module _ (k : ℕ) (s : Stream) (is : at ss k ≡ Some s) where
    abbrev pub from : ℕ
    from = first_row_of (bare (Some opener) ss) k

    abbrev pub to : ℕ
    to = from + length s.places

    from_is : from ≡ length (opener_places opener) + rows_before ss k
    from_is = let b = before_is ss k in omega (arith, b)

    pub behind_outer : length (opener_places opener) ≤ from
    behind_outer = omega arith

    pub inside : to ≤ length (places_in opener ss)
    inside = let f = from_is in let c = count_is in let i = rows_inside ss k s is in omega (arith, f, c, i)

    -- the row in the list of the streams' rows
    pub place_of : (r : ℕ) → from ≤ r → r < to → at (places_in opener ss) r ≡ at s.places (r - from)
    place_of r l m =
        let f = from_is in
        let z : r - length (opener_places opener) ≡ rows_before ss k + (r - from) = omega (arith, f, l) in
        at_right (opener_places opener) (stream_rows ss) r (omega (arith, f, l)) ∙ (ap (at (stream_rows ss)) z ∙ place_at ss k s (r - from) is (omega (arith, l, m)))

    pub owner_of : (r : ℕ) → from ≤ r → r < to → at (owners_in opener ss) r ≡ Some (Inner k)
    owner_of r l m =
        let f = from_is in
        let z : r - length (opener_places opener) ≡ rows_before ss k + (r - from) = omega (arith, f, l) in
        let same : 0 + k ≡ k = omega arith in
        owner_right Outer (opener_places opener) (owners_from 0 ss) r (omega (arith, f, l)) ∙ (ap (at (owners_from 0 ss)) z ∙ (owner_at_row 0 ss k s (r - from) is (omega (arith, l, m)) ∙ ap (λ n. Some (Inner n)) same))

  -- a row behind the outer stream's is one of a stream
  pub record IsRowHere (r : ℕ) : Type 0 where
    pub number : ℕ
    pub stream : Stream
    pub is : at ss number ≡ Some stream
    pub low : first_row_of (bare (Some opener) ss) number ≤ r
    pub high : r < first_row_of (bare (Some opener) ss) number + length stream.places

  pub row_here : (r : ℕ) → length (opener_places opener) ≤ r → r < length (places_in opener ss) → IsRowHere r
  row_here r l m =
      let c = count_is in
      let x = row_found ss (r - length (opener_places opener)) (omega (arith, l, m, c)) in
      let f = from_is x.number x.stream x.is in
      let low = x.from in
      let high = x.to in
      record { number = x.number; stream = x.stream; is = x.is; low = omega (arith, f, l, low); high = omega (arith, f, l, high) }
