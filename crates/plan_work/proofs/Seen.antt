-- What the first dictionaries have.
use Rattle.std.proofs.Common.{◌≡◌, ℕ, zero, suc, ◌<◌, ◌≤◌, Bool, true, false, nat_lt, if◌then◌else◌, List, [], ◌∷◌, take, None, refl, ap, arith}
use Rattle.std.specs.Prelude.{slice_get}
use Rattle.std.proofs.Math.Path.{fun_ext}
use Rattle.std.proofs.lemmas.Bool.{ltb-true}
use Rattle.csv_pipes.specs.Dictionaries.{Dictionary, value_in, values_of}
use Rattle.plan_work.specs.Seen.{below}

get_low : (m : ℕ) (ds : List Dictionary) (t : ℕ) → t < m → slice_get (take m ds) t ≡ slice_get ds t
get_low zero ds t l = absurd (omega (l, arith))
get_low (suc m) [] t l = refl
get_low (suc m) (d ∷ ds) zero l = refl
get_low (suc m) (d ∷ ds) (suc t) l = get_low m ds t (omega (l, arith))

get_high : (m : ℕ) (ds : List Dictionary) (t : ℕ) → m ≤ t → slice_get (take m ds) t ≡ None
get_high zero ds t l = refl
get_high (suc m) [] t l = refl
get_high (suc m) (d ∷ ds) zero l = absurd (omega (l, arith))
get_high (suc m) (d ∷ ds) (suc t) l = get_high m ds t (omega (l, arith))

not_less : (t m : ℕ) → nat_lt t m ≡ false → m ≤ t
not_less t m h = grind (arith, h)

at_key : (m : ℕ) (ds : List Dictionary) (t : ℕ) (key : List ℕ) → values_of (take m ds) t key ≡ below m (values_of ds) t key
at_key m ds t key = by_test (nat_lt t m) refl
  where
    by_test : (b : Bool) → nat_lt t m ≡ b → value_in (slice_get (take m ds) t) key ≡ (if b then value_in (slice_get ds t) key else None)
    by_test true h = ap (λ o. value_in o key) (get_low m ds t (ltb-true t m h))
    by_test false h = ap (λ o. value_in o key) (get_high m ds t (not_less t m h))

-- they have the values of the tables below their number
pub first_below : (m : ℕ) (ds : List Dictionary) → values_of (take m ds) ≡ below m (values_of ds)
first_below m ds = fun_ext (λ t. fun_ext (λ key. at_key m ds t key))
