-- Devices that were just made, and what became of them.
use Rattle.std.proofs.Common.{◌≡◌, ◌≢◌, ℕ, suc, ◌+◌, ◌<◌, ◌≤◌, ◌⊎◌, inl, inr, cond, false, nat_eq, List, [], ◌∷◌, ◌++◌, map, length, Option, Some, None, IfSome, option_map, refl, sym, ◌∙◌, ap, subst, ⊎_elim, arith, append_assoc, append-nil, eq-eqb, length-append, ne_eqb}
use Rattle.std.proofs.lemmas.Bool.{cases_eq}
use Rattle.std.proofs.lemmas.List.{map-append}
use Rattle.std.proofs.lemmas.List.Sorted.{IsPermutation-refl}
use Rattle.std.specs.Prelude.{OnErr, Result, Ok, Err}
use Rattle.std.specs.List.{AllByRecursion, IsDistinct, range_with_len}
use Rattle.chunk_core.specs.Lists.{IsAmong}
use Rattle.chunk_core.proofs.Each.{among_each, each_among, each_append}
use Rattle.device_port.specs.Device.{Place, DeviceTold}
use Rattle.device_port.specs.Depot.{DepotTold, Files, IsUnknown, KeepsFilesBut, Makes, MayReturn, device_numbers, fresh}
use Rattle.pull_stepper.specs.Sites.{IsUnused, SameDevice}
use Rattle.pull_stepper.proofs.Beginning.{fresh_unused}
use Rattle.run_rules.specs.Homes.{IsUntouched}
use Rattle.stream_parts.specs.Made.{MakesEach, MakesFirst, MakesInVain, MakesMore, fresh_for, having_made}
use Rattle.stream_parts.specs.Retire.{Exchanges, IsWrittenBy, MayReturnAll, Returns}
use Rattle.stream_parts.specs.Same.{AreSame}
use Rattle.stream_parts.proofs.Exchanged.{exchanges_none, files_same}
use Rattle.res_ledger.proofs.Mapped.{map_among}
use Rattle.res_ledger.proofs.Permuted.{among_range, range_distinct}

-- Devices that were just made.

-- what holds of a device that was just made holds of each
fresh_each : (P : DeviceTold → Type 0) → ((depot : DepotTold) (place : Place) → P (fresh depot place)) → (depot : DepotTold) (ps : List Place) → AllByRecursion P (fresh_for depot ps)
fresh_each P f depot [] = tt
fresh_each P f depot (p ∷ ps) = (f depot p, fresh_each P f (having_made depot p) ps)

fresh_untouched : (depot : DepotTold) (place : Place) → IsUntouched (fresh depot place)
fresh_untouched depot place = record { opens = refl; at = refl; written = unwritten depot.files; faults = refl }
  where
    unwritten : (f : Option Files) → IfSome (option_map (λ g. let none : List ℕ = [] in none) f) (λ w. w ≡ [])
    unwritten None = tt
    unwritten (Some f) = refl

-- one more in the list of those that were made
pub one_more : (depot : DepotTold) (p : Place) → length (having_made depot p).made ≡ length depot.made + 1
one_more depot p = length-append depot.made (p ∷ [])

-- their numbers are those behind the devices that were made before
fresh_numbers : (depot : DepotTold) (ps : List Place) → device_numbers (fresh_for depot ps) ≡ range_with_len (length depot.made) (length ps)
fresh_numbers depot [] = refl
fresh_numbers depot (p ∷ ps) = ap (λ ns. length depot.made ∷ ns) (fresh_numbers (having_made depot p) ps ∙ ap (λ n. range_with_len n (length ps)) (one_more depot p))

-- those of other places behind them
fresh_then : (depot : DepotTold) (ps qs : List Place) → fresh_for depot (ps ++ qs) ≡ fresh_for depot ps ++ fresh_for (record depot { made = depot.made ++ ps }) qs
fresh_then depot [] qs = ap (λ (l : List Place). fresh_for (record depot { made = l }) qs) (sym (append-nil depot.made))
fresh_then depot (p ∷ ps) qs = ap (λ ds. fresh depot p ∷ ds) (fresh_then (having_made depot p) ps qs ∙ ap (λ (l : List Place). fresh_for (having_made depot p) ps ++ fresh_for (record depot { made = l }) qs) (append_assoc depot.made (p ∷ []) ps))

pub makes_none : (depot : DepotTold) → MakesEach depot depot [] []
makes_none depot = record { made = ap (λ (l : List Place). record depot { made = l }) (sym (append-nil depot.made)); devices = refl; unknown = tt }

pub makes_one : (old new : DepotTold) (q : Place) (d : DeviceTold) → Makes old new q.path q.mode d → MakesEach old new (q ∷ []) (d ∷ [])
makes_one old new q d m = record { made = m.made; devices = ap (λ x. x ∷ []) m.device; unknown = (m.unknown, tt) }

-- devices that were made, and then others
pub makes_then : (old mid new : DepotTold) (ps qs : List Place) (ds es : List DeviceTold) → MakesEach old mid ps ds → MakesEach mid new qs es → MakesEach old new (ps ++ qs) (ds ++ es)
makes_then old mid new ps qs ds es m n = record {
  made = n.made ∙ (ap (λ (x : DepotTold). record x { made = x.made ++ qs }) m.made ∙ ap (λ (l : List Place). record old { made = l }) (append_assoc old.made ps qs));
  devices = ap (λ l. l ++ es) m.devices ∙ (ap (λ l. fresh_for old ps ++ l) (n.devices ∙ ap (λ x. fresh_for x qs) m.made) ∙ sym (fresh_then old ps qs));
  unknown = each_append (λ (x : DeviceTold). IsUnknown x.number old.retired) ds es m.unknown (subst (λ (x : DepotTold). AllByRecursion (λ d. IsUnknown d.number x.retired) es) m.made n.unknown);
}

module _ (old new : DepotTold) (ps : List Place) (ds : List DeviceTold) (m : MakesEach old new ps ds) where
  pub made_unused : AllByRecursion IsUnused ds
  made_unused = subst (AllByRecursion IsUnused) (sym m.devices) (fresh_each IsUnused (λ x p. fresh_unused x p (fresh x p) refl) old ps)

  pub made_untouched : AllByRecursion IsUntouched ds
  made_untouched = subst (AllByRecursion IsUntouched) (sym m.devices) (fresh_each IsUntouched fresh_untouched old ps)

  -- they are one exchange
  pub made_exchanges : Exchanges old new ps []
  made_exchanges = record {
    made = ap (λ (x : DepotTold). x.made) m.made;
    retired = ap (λ (x : DepotTold). x.retired) m.made ∙ sym (append-nil old.retired);
    files = subst (λ (x : DepotTold). KeepsFilesBut (IsWrittenBy []) old.files x.files) (sym m.made) (files_same (IsWrittenBy []) old.files);
    stored = λ own. tt;
  }

  pub made_numbers : device_numbers ds ≡ range_with_len (length old.made) (length ps)
  made_numbers = ap device_numbers m.devices ∙ fresh_numbers old ps

  -- the numbers are new
  pub number_within : (d : DeviceTold) → IsAmong d ds → (length old.made ≤ d.number) × (d.number < length old.made + length ps)
  number_within d i = among_range (length old.made) (length ps) d.number (subst (λ ns. IsAmong d.number ns) made_numbers (map_among (λ (x : DeviceTold). x.number) d ds i))

  -- as they were made they may go back
  pub made_may_return : MayReturnAll new ds
  made_may_return = record {
    each = each_among (MayReturn new) ds (λ d i. record {
      made = let n = number_within d i in let e = ap (λ (x : DepotTold). length x.made) m.made in let l = length-append old.made ps in omega (arith, n.1, e, l);
      closed = (among_each IsUnused d ds made_unused i).is_open;
      unknown = subst (λ (x : DepotTold). IsUnknown d.number x.retired) (sym m.made) (among_each (λ (x : DeviceTold). IsUnknown x.number old.retired) d ds m.unknown i);
    });
    apart = subst (IsDistinct nat_eq) (sym made_numbers) (range_distinct (length old.made) (length ps));
  }

-- Devices that were made so far.

module _ {V : Type 0} (told : V → DeviceTold) where
  pub more_then : (old mid new : DepotTold) (ps qs : List Place) (xs ys zs : List V) → MakesMore told old mid ps xs ys → MakesMore told mid new qs ys zs → MakesMore told old new (ps ++ qs) xs zs
  more_then old mid new ps qs xs ys zs m n = record {
    more = m.more ++ n.more;
    after_is = n.after_is ∙ (ap (λ l. l ++ n.more) m.after_is ∙ append_assoc xs m.more n.more);
    makes = subst (λ ds. MakesEach old new (ps ++ qs) ds) (sym (map-append told m.more n.more)) (makes_then old mid new ps qs (map told m.more) (map told n.more) m.makes n.makes);
  }

  -- there was no memory for the next one
  pub first_made : {T E : Type 0} (r : Result T E) (old mid new : DepotTold) (places ps qs : List Place) (xs ys : List V) → places ≡ ps ++ qs → MakesMore told old mid ps [] xs → OnErr r (new ≡ mid) → OnErr r (ys ≡ xs) → OnErr r (MakesFirst told old new places ys)
  first_made (Ok x) old mid new places ps qs xs ys split m p q = tt
  first_made (Err e) old mid new places ps qs xs ys split m p q = record { first = ps; rest = qs; split = split; makes = subst (λ (d : DepotTold). MakesEach old d ps (map told ys)) (sym p) (subst (λ l. MakesEach old mid ps (map told l)) (sym (q ∙ m.after_is)) m.makes) }

  -- they went back
  pub made_in_vain : (old mid new : DepotTold) (places : List Place) (devices : List V) → MakesFirst told old mid places devices → Returns mid new (map told devices) → MakesInVain old new places
  made_in_vain old mid new places devices f back = record { first = f.first; rest = f.rest; split = f.split; mid = mid; ds = map told devices; makes = f.makes; back = back }

pub none_in_vain : (old : DepotTold) (places : List Place) → MakesInVain old old places
none_in_vain old places = record {
  first = [];
  rest = places;
  split = refl;
  mid = old;
  ds = [];
  makes = makes_none old;
  back = record { back = []; each = IsPermutation-refl []; exchanges = exchanges_none old };
}

-- What became of them, in the rows from r on.
module _ {V : Type 0} (told : V → DeviceTold) (w : ℕ → DeviceTold) where
  same_numbers : (r : ℕ) (devices : List V) → AreSame told w r devices → device_numbers (map w (range_with_len r (length devices))) ≡ device_numbers (map told devices)
  same_numbers r [] s = refl
  same_numbers r (d ∷ devices) s =
      let next : suc r ≡ r + 1 = omega arith in
      ap (λ n. n ∷ device_numbers (map w (range_with_len (r + 1) (length devices)))) s.0.number ∙ ap (λ ns. (told d).number ∷ ns) (same_numbers (r + 1) devices (subst (λ q. AreSame told w q devices) next s.1))

  -- the same devices may go back, whatever was done with them, that aren't open
  pub same_may_return : (depot : DepotTold) (r : ℕ) (devices : List V) → MayReturnAll depot (map told devices) → AreSame told w r devices → ((q : ℕ) → r ≤ q → q < r + length devices → (w q).is_open ≡ false) → MayReturnAll depot (map w (range_with_len r (length devices)))
  same_may_return depot r devices may same shut = record { each = each_may r devices may.each same shut; apart = subst (IsDistinct nat_eq) (sym (same_numbers r devices same)) may.apart }
    where
      each_may : (i : ℕ) (ds : List V) → AllByRecursion (MayReturn depot) (map told ds) → AreSame told w i ds → ((q : ℕ) → i ≤ q → q < i + length ds → (w q).is_open ≡ false) → AllByRecursion (MayReturn depot) (map w (range_with_len i (length ds)))
      each_may i [] may s shut = tt
      each_may i (d ∷ ds) may s shut =
          let next : suc i ≡ i + 1 = omega arith in (
            record { made = subst (λ n. n < length depot.made) (sym s.0.number) may.0.made; closed = shut i (omega arith) (omega arith); unknown = subst (λ n. IsUnknown n depot.retired) (sym s.0.number) may.0.unknown },
            each_may (i + 1) ds may.1 (subst (λ q. AreSame told w q ds) next s.1) (λ q l m. shut q (omega (arith, l)) (omega (arith, m))),
          )

-- Devices in the rows of a home.

-- these devices have the rows from r on, and other rows those of another home
abbrev pub laid : ℕ → List DeviceTold → (ℕ → DeviceTold) → ℕ → DeviceTold
laid r [] w q = w q
laid r (d ∷ ds) w q = cond (nat_eq q r) d (laid (r + 1) ds w q)

pub laid_outside : (r : ℕ) (ds : List DeviceTold) (w : ℕ → DeviceTold) (q : ℕ) → (q < r) ⊎ (r + length ds ≤ q) → laid r ds w q ≡ w q
laid_outside r [] w q out = refl
laid_outside r (d ∷ ds) w q out =
    let apart : q ≢ r = λ e. ⊎_elim (λ l. omega (arith, l, e)) (λ l. omega (arith, l, e)) out in
    ap (λ b. cond b d (laid (r + 1) ds w q)) (ne_eqb q r apart) ∙ laid_outside (r + 1) ds w q (⊎_elim (λ l. inl (omega (arith, l))) (λ l. inr (omega (arith, l))) out)

pub laid_each : (P : DeviceTold → Type 0) (r : ℕ) (ds : List DeviceTold) (w : ℕ → DeviceTold) → AllByRecursion P ds → (q : ℕ) → r ≤ q → q < r + length ds → P (laid r ds w q)
laid_each P r [] w each q l m = absurd (omega (arith, l, m))
laid_each P r (d ∷ ds) w each q l m =
    ⊎_elim
    (λ e. subst (λ b. P (cond b d (laid (r + 1) ds w q))) (sym (eq-eqb q r e)) each.0)
    (λ n. subst (λ b. P (cond b d (laid (r + 1) ds w q))) (sym (ne_eqb q r n)) (laid_each P (r + 1) ds w each.1 q (omega (arith, l, n)) (omega (arith, m))))
    (cases_eq q r)

pub same_itself : (d : DeviceTold) → SameDevice d d
same_itself d = record { number = refl; place = refl; present = refl; content = refl }

module _ {V : Type 0} (told : V → DeviceTold) where
  same_through : (v w : ℕ → DeviceTold) (r : ℕ) (devices : List V) → ((q : ℕ) → r ≤ q → v q ≡ w q) → AreSame told v r devices → AreSame told w r devices
  same_through v w r [] e s = tt
  same_through v w r (d ∷ devices) e s = (subst (SameDevice (told d)) (e r (omega arith)) s.0, same_through v w (suc r) devices (λ q l. e q (omega (arith, l))) s.1)

  pub laid_same : (w : ℕ → DeviceTold) (r : ℕ) (devices : List V) → AreSame told (laid r (map told devices) w) r devices
  laid_same w r [] = tt
  laid_same w r (d ∷ devices) =
      let next : r + 1 ≡ suc r = omega arith in (
        subst (λ b. SameDevice (told d) (cond b (told d) (laid (r + 1) (map told devices) w r))) (sym (eq-eqb r r refl)) (same_itself (told d)),
        same_through (laid (r + 1) (map told devices) w) (laid r (told d ∷ map told devices) w) (suc r) devices
            (λ q l. ap (λ b. cond b (told d) (laid (r + 1) (map told devices) w q)) (sym (ne_eqb q r (λ e. omega (arith, e, l)))))
            (subst (λ q. AreSame told (laid (r + 1) (map told devices) w) q devices) next (laid_same w (r + 1) devices)),
      )
