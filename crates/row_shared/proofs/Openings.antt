-- The table when it is made.
use Rattle.std.proofs.Common.{replicate, ◌≡◌, ℕ, zero, suc, ◌⊎◌, ◌+◌, ◌-◌, ◌<◌, ◌^◌, map, [], inl, refl, ◌∙◌, subst, arith}
use Rattle.std.specs.Prelude.{slice_index, None, Option}
use Rattle.std.proofs.lemmas.List.{length-replicate, length-map}
use mathlib.Core.Option.{some}
use Rattle.atomic_table.specs.Table.{opening}
use Rattle.atomic_table.proofs.Lists.{some_there}
use Rattle.chunk_core.specs.Lists.{IsAmong}
use Rattle.chunk_core.proofs.Members.{among_nil}
use Rattle.row_seat.specs.Fronts.{IsSight}
use Rattle.row_seat.specs.Rule.{IsInside}
use Rattle.row_seat.specs.Views.{run}
use Rattle.row_seat.proofs.Splits.{in_run}
use Rattle.row_seat.proofs.Starts.{one_view, starts}
use Rattle.row_seat.proofs.Times.{run_length}
use Rattle.row_shared.specs.declared.table.Place.{Place}
use Rattle.row_shared.specs.declared.table.Start.{Start}
use Rattle.row_shared.specs.Places.{IsRows, first_place, row_slot, row_word}

all_zero : (n r : ℕ) → slice_index (replicate n 0) r ≡ 0
all_zero zero r = refl
all_zero (suc n) zero = refl
all_zero (suc n) (suc r) = all_zero n r

module _ {P : Type 0} (k : Start) where
  pub opens : k.events < 2 ^ 40 → IsRows {P = P} k (opening (replicate (k.rows + 1) 0) (replicate k.rows None) (first_place k))
  opens small = let f = first_place {P = P} k in let ws = replicate (k.rows + 1) 0 in let none : Option P = None in let hs = map some (replicate k.rows none) in record {
    log = [];
    small = small;
    words = length-replicate (k.rows + 1) 0;
    slots = length-map (replicate k.rows none) some ∙ length-replicate k.rows none;
    stamp = all_zero (k.rows + 1) 0;
    rule = starts k.by k.rows k.events (k.seats - 1) (row_word ws) (row_slot hs) (λ r. all_zero (k.rows + 1) (r + 1));
    homes = λ r l. inl (some_there (replicate k.rows none) r (let e = length-replicate k.rows none in omega arith));
    lifts = λ i r u g. one_view f (λ i u. IsAmong r u.lifted → IsAmong r u.token.opened ⊎ IsAmong r u.token.handed) (λ m. absurd (among_nil m)) i u g;
    sights = λ i u x g. one_view f (λ i u. IsAmong x u.sights → IsSight [] x) (λ m. absurd (among_nil m)) i u g;
  }

  pub first_inside : (let v : Place P = first_place k in IsInside k.rows v.token)
  first_inside = let e = run_length 0 k.rows in record {
    empty = λ r m. (in_run 0 k.rows r (subst (λ n. IsAmong r (run 0 n)) (let z : k.rows ≡ k.rows - 0 = omega arith in z) m)).1;
    opened = λ r m. absurd (among_nil m);
    pairs = λ j r m. absurd (among_nil m);
    handed = λ r m. absurd (among_nil m);
    few = omega arith;
  }
