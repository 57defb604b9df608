-- The devices of a stream's own rows: made for all of them or for the first, and left as they are or gone.
use Rattle.std.proofs.Common.{◌≡◌, ℕ, zero, suc, ◌+◌, ◌-◌, ◌<◌, ◌≤◌, cond, inl, inr, List, [], ◌∷◌, ◌++◌, map, length, Option, Some, None, refl, sym, ◌∙◌, ap, subst, ⊎_elim, arith, append-nil, eq-eqb, ne_eqb}
use Rattle.std.proofs.lemmas.Bool.{cases_lt}
use Rattle.std.proofs.lemmas.List.Sorted.{IsPermutation-refl}
use Rattle.std.specs.List.{AllByRecursion, range_with_len}
use Rattle.std.specs.List.Sorted.{IsPermutation}
use Rattle.device_port.specs.Device.{Place, DeviceTold}
use Rattle.device_port.specs.Depot.{DepotTold, Files, content_at}
use Rattle.pull_stepper.specs.Sites.{IsUnused, blank}
use Rattle.run_rules.specs.Facts.{at}
use Rattle.run_rules.specs.Homes.{IsUntouched}
use Rattle.stream_parts.specs.Made.{MakesEach, MakesInVain, fresh_for}
use Rattle.stream_parts.specs.Retire.{Exchanges, MayReturnAll}
use Rattle.stream_parts.specs.Same.{AreSame}
use Rattle.stream_parts.proofs.Exchanged.{exchanges_none, exchanges_then, may_permuted}
use Rattle.stream_parts.proofs.Making.{laid, laid_outside, laid_same, made_exchanges, made_may_return, made_untouched, made_unused, same_may_return}
use Rattle.joined_runs.specs.Devices.{AreReturned, IsAtRest, IsUnmadeAt}
use Rattle.job_runs.proofs.Returned.{made_returned}
use Rattle.chunk_core.proofs.Distinct.{distinct_nil}
use Rattle.chunk_core.proofs.Each.{among_each, each_among, each_permuted}
use Rattle.job_runs.proofs.DevicesBack.{at_among}
use Rattle.joined_runs.proofs.MadeRows.{at_some}

-- what is told of a row without a device
abbrev pub bare_home : Option Files → Place → DeviceTold
bare_home files p = record blank { place = p; content = content_at files p.path }

pub bare_unmade : (files : Option Files) (p : Place) → IsUnmadeAt files p (bare_home files p)
bare_unmade files p = record { place_is = refl; content_is = refl; untouched = record { opens = refl; at = refl; written = tt; faults = refl } }

-- each of them is there
pub laid_at : (r : ℕ) (ds : List DeviceTold) (w : ℕ → DeviceTold) (i : ℕ) (d : DeviceTold) → at ds i ≡ Some d → laid r ds w (r + i) ≡ d
laid_at r [] w i d e = cc
laid_at r (x ∷ ds) w zero d e = let here : r + 0 ≡ r = omega arith in ap (λ b. cond b x (laid (r + 1) ds w (r + 0))) (eq-eqb (r + 0) r here) ∙ (let same : x ≡ d = cc in same)
laid_at r (x ∷ ds) w (suc i) d e =
    let next : r + 1 + i ≡ r + suc i = omega arith in
    ap (λ b. cond b x (laid (r + 1) ds w (r + suc i))) (ne_eqb (r + suc i) r (λ q. omega (arith, q))) ∙ (ap (λ k. laid (r + 1) ds w k) (sym next) ∙ laid_at (r + 1) ds w i d e)

-- rows whose devices are these, in order
pub map_laid : (w : ℕ → DeviceTold) (r : ℕ) (ds : List DeviceTold) → ((i : ℕ) (d : DeviceTold) → at ds i ≡ Some d → w (r + i) ≡ d) → map w (range_with_len r (length ds)) ≡ ds
map_laid w r [] h = refl
map_laid w r (d ∷ ds) h =
    let z : r + 0 ≡ r = omega arith in
    ap (λ x. x ∷ map w (range_with_len (r + 1) (length ds))) (subst (λ k. w k ≡ d) z (h 0 d refl))
    ∙ ap (λ l. d ∷ l) (map_laid w (r + 1) ds (λ i e is. let y : r + suc i ≡ r + 1 + i = omega arith in subst (λ k. w k ≡ e) y (h (suc i) e is)))

-- it was never opened, and nothing was read of it
pub record WasNeverOpen (d : DeviceTold) : Type 0 where
  pub opens : d.opens ≡ 0
  pub at : d.at ≡ 0

-- for the first of these places devices were made, which are those of the rows from `from` on; they are gone and were never opened, or are left and may go back
pub record OwnRows (own : ℕ → DeviceTold) (from : ℕ) (places : List Place) (old new : DepotTold) (gone left : List DeviceTold) : Type 0 where
  pub first : List Place
  pub rest : List Place
  pub split : places ≡ first ++ rest
  pub exchanges : Exchanges old new first gone
  pub returned : AreReturned old.files (length old.made) own from first
  pub each : IsPermutation (map own (range_with_len from (length first))) (gone ++ left)
  pub others : (i : ℕ) (p : Place) → at rest i ≡ Some p → IsUnmadeAt old.files p (own (from + length first + i))
  pub may : MayReturnAll new left
  pub unopened : AllByRecursion WasNeverOpen gone

-- what the rows from `from` on have where none was made for them
abbrev pub bare_rows : Option Files → ℕ → List Place → ℕ → DeviceTold
bare_rows files from places r = elim (at places (r - from)) [ Some p ↦ bare_home files p | None ↦ blank ]

pub bare_row : (files : Option Files) (from : ℕ) (places : List Place) (i : ℕ) (p : Place) → at places i ≡ Some p → bare_rows files from places (from + i) ≡ bare_home files p
bare_row files from places i p e = let z : from + i - from ≡ i = omega arith in ap (λ k. elim (at places k) [ Some q ↦ bare_home files q | None ↦ blank ]) z ∙ ap (λ (o : Option Place). elim o [ Some q ↦ bare_home files q | None ↦ blank ]) e

at_right : {A : Type 0} (xs ys : List A) (i : ℕ) → at (xs ++ ys) (length xs + i) ≡ at ys i
at_right [] ys i = let z : 0 + i ≡ i = omega arith in ap (λ k. at ys k) z
at_right (x ∷ xs) ys i = let z : suc (length xs) + i ≡ suc (length xs + i) = omega arith in ap (λ k. at (x ∷ xs ++ ys) k) z ∙ at_right xs ys i

no_place : {A : Type 0} (i : ℕ) (x : A) → at [] i ≡ Some x → ⊥
no_place i x e = cc

unused_rest : (d : DeviceTold) → IsUnused d → IsAtRest d
unused_rest d u = record { shut = u.is_open; stage = inl (u.opens, u.closes, u.close_faults, u.exit) }

module _ (from : ℕ) (places : List Place) (old : DepotTold) where
  pub bare_untouched : (q : ℕ) → from ≤ q → q < from + length places → IsUntouched (bare_rows old.files from places q)
  bare_untouched q low high =
      let p = at_some places (q - from) (omega (arith, low, high)) in
      let same : from + (q - from) ≡ q = omega (arith, low) in
      subst (λ k. IsUntouched (bare_rows old.files from places k)) same (subst IsUntouched (sym (bare_row old.files from places (q - from) p.0 p.1)) (bare_unmade old.files p.0).untouched)

  -- none was made
  pub none_own : OwnRows (bare_rows old.files from places) from places old old [] []
  none_own = record {
    first = [];
    rest = places;
    split = refl;
    exchanges = exchanges_none old;
    returned = tt;
    each = IsPermutation-refl [];
    others = λ i p e. let z : from + 0 + i ≡ from + i = omega arith in subst (λ d. IsUnmadeAt old.files p d) (sym (ap (λ k. bare_rows old.files from places k) z ∙ bare_row old.files from places i p e)) (bare_unmade old.files p);
    may = record { each = tt; apart = distinct_nil };
    unopened = tt;
  }

  module _ (new : DepotTold) where
    -- the rows of the devices that were made
    abbrev pub made_rows : List DeviceTold → ℕ → DeviceTold
    made_rows ds = laid from ds (bare_rows old.files from places)

    module _ (first rest : List Place) (split : places ≡ first ++ rest) (ds : List DeviceTold) (m : MakesEach old new first ds) where
      count : length ds ≡ length first
      count = ap (λ l. length l) m.devices ∙ fresh_count old first
        where
          fresh_count : (o : DepotTold) (ps : List Place) → length (fresh_for o ps) ≡ length ps
          fresh_count o [] = refl
          fresh_count o (p ∷ ps) = ap suc (fresh_count _ ps)

      is_laid : (i : ℕ) (d : DeviceTold) → at ds i ≡ Some d → made_rows ds (from + i) ≡ d
      is_laid i d e = laid_at from ds (bare_rows old.files from places) i d e

      all_laid : map (made_rows ds) (range_with_len from (length first)) ≡ ds
      all_laid = ap (λ k. map (made_rows ds) (range_with_len from k)) (sym count) ∙ map_laid (made_rows ds) from ds is_laid

      laid_returned : AreReturned old.files (length old.made) (made_rows ds) from first
      laid_returned =
          made_returned (λ (d : DeviceTold). d) (made_rows ds) old from first ds (map_self ds ∙ m.devices) (subst (λ l. AreSame (λ (d : DeviceTold). d) (laid from l (bare_rows old.files from places)) from ds) (map_self ds) (laid_same (λ (d : DeviceTold). d) (bare_rows old.files from places) from ds))
          (λ q l k. rest_at (q - from) q (omega (arith, l)) (omega (arith, l, k)))
        where
          map_self : (xs : List DeviceTold) → map (λ d. d) xs ≡ xs
          map_self [] = refl
          map_self (x ∷ xs) = ap (λ l. x ∷ l) (map_self xs)

          rest_at : (i q : ℕ) → from + i ≡ q → i < length ds → IsAtRest (made_rows ds q)
          rest_at i q e l =
              let d = at_some ds i l in
              subst (λ k. IsAtRest (made_rows ds k)) e (subst IsAtRest (sym (is_laid i d.0 d.1)) (unused_rest d.0 (among_each IsUnused d.0 ds (made_unused old new first ds m) (at_among ds i d.0 d.1))))

      laid_others : (i : ℕ) (p : Place) → at rest i ≡ Some p → IsUnmadeAt old.files p (made_rows ds (from + length first + i))
      laid_others i p e =
          let off = laid_outside from ds (bare_rows old.files from places) (from + length first + i) (inr (omega (arith, count))) in
          let z : from + length first + i ≡ from + (length first + i) = omega arith in
          let there : at places (length first + i) ≡ Some p = ap (λ l. at l (length first + i)) split ∙ (at_right first rest i ∙ e) in
          subst (λ d. IsUnmadeAt old.files p d) (sym (off ∙ (ap (λ k. bare_rows old.files from places k) z ∙ bare_row old.files from places (length first + i) p there))) (bare_unmade old.files p)

      -- nothing was done on any of them
      laid_untouched : (q : ℕ) → from ≤ q → q < from + length places → IsUntouched (made_rows ds q)
      laid_untouched q low high =
          ⊎_elim
          (λ (l : q - from < length ds).
          let d = at_some ds (q - from) l in
          let same : from + (q - from) ≡ q = omega (arith, low) in
          subst (λ k. IsUntouched (made_rows ds k)) same (subst IsUntouched (sym (is_laid (q - from) d.0 d.1)) (among_each IsUntouched d.0 ds (made_untouched old new first ds m) (at_among ds (q - from) d.0 d.1))))
          (λ (l : length ds ≤ q - from). subst IsUntouched (sym (laid_outside from ds (bare_rows old.files from places) q (inr (omega (arith, l, low))))) (bare_untouched q low high))
          (cases_lt (q - from) (length ds))

    -- they were made, and wait
    pub waiting_own : (ds : List DeviceTold) → MakesEach old new places ds → OwnRows (made_rows ds) from places old new [] ds
    waiting_own ds m = record {
      first = places;
      rest = [];
      split = sym (append-nil places);
      exchanges = made_exchanges old new places ds m;
      returned = laid_returned places [] (sym (append-nil places)) ds m;
      each = subst (λ l. IsPermutation l ds) (sym (all_laid places [] (sym (append-nil places)) ds m)) (IsPermutation-refl ds);
      others = λ i p e. absurd (no_place i p e);
      may = made_may_return old new places ds m;
      unopened = tt;
    }

    pub waiting_untouched : (ds : List DeviceTold) → MakesEach old new places ds → (q : ℕ) → from ≤ q → q < from + length places → IsUntouched (made_rows ds q)
    waiting_untouched ds m = laid_untouched places [] (sym (append-nil places)) ds m

  pub vain_untouched : (new : DepotTold) (v : MakesInVain old new places) → (q : ℕ) → from ≤ q → q < from + length places → IsUntouched (made_rows v.mid v.ds q)
  vain_untouched new v = laid_untouched v.mid v.first v.rest v.split v.ds v.makes

  -- some were made, and went back
  pub vain_own : (new : DepotTold) (v : MakesInVain old new places) → OwnRows (made_rows v.mid v.ds) from places old new v.back.back []
  vain_own new v = record {
    first = v.first;
    rest = v.rest;
    split = v.split;
    exchanges =
        subst (λ ps. Exchanges old new ps v.back.back) (append-nil v.first) (exchanges_then old v.mid new v.first [] [] v.back.back (made_exchanges old v.mid v.first v.ds v.makes) v.back.exchanges);
    returned = laid_returned v.mid v.first v.rest v.split v.ds v.makes;
    each = subst (λ l. IsPermutation l (v.back.back ++ [])) (sym (all_laid v.mid v.first v.rest v.split v.ds v.makes)) (subst (λ l. IsPermutation v.ds l) (sym (append-nil v.back.back)) v.back.each);
    others = laid_others v.mid v.first v.rest v.split v.ds v.makes;
    may = record { each = tt; apart = distinct_nil };
    unopened = each_permuted WasNeverOpen v.ds v.back.back v.back.each (each_among WasNeverOpen v.ds (λ d m. let u = among_each IsUnused d v.ds (made_unused old v.mid v.first v.ds v.makes) m in record { opens = u.opens; at = u.at }));
  }

  -- they were made, run over, and left at rest
  pub used_own : {V : Type 0} (told : V → DeviceTold) (new : DepotTold) (vs : List V) (own : ℕ → DeviceTold) (left : List DeviceTold) → MakesEach old new places (map told vs) → AreSame told own from vs → ((q : ℕ) → from ≤ q → q < from + length vs → IsAtRest (own q)) → IsPermutation (map own (range_with_len from (length vs))) left → length vs ≡ length places
      → OwnRows own from places old new [] left
  used_own told new vs own left m same rest each count = record {
    first = places;
    rest = [];
    split = sym (append-nil places);
    exchanges = made_exchanges old new places (map told vs) m;
    returned = made_returned told own old from places vs m.devices same rest;
    each = subst (λ k. IsPermutation (map own (range_with_len from k)) left) count each;
    others = λ i p e. absurd (no_place i p e);
    may = may_permuted new (map own (range_with_len from (length vs))) left each (same_may_return told own new from vs (made_may_return old new places (map told vs) m) same (λ q l k. (rest q l k).shut));
    unopened = tt;
  }
