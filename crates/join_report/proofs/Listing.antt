-- The ends of the outer stream and of each stream in order.
use Rattle.std.proofs.Common.{◌≡◌, ℕ, zero, suc, ◌+◌, ◌≤◌, Bool, List, [], ◌∷◌, ◌++◌, map, length, replicate, take, refl, sym, ap, subst, ◌∙◌, arith}
use Rattle.std.proofs.Math.ListN.{set, get_or}
use Rattle.std.proofs.lemmas.List.{map-set, take-map}
use Rattle.std.proofs.lemmas.List.FromFn.{length-range_with_len, map-range_with_len_more, take-map-range_with_len}
use Rattle.std.specs.List.{range_with_len}
use Rattle.std.proofs.Math.Seq.{map-set_same}
use Rattle.chunk_core.specs.declared.code.How.{How}
use Rattle.chunk_core.specs.declared.code.How.TheVariants as how
use Rattle.res_ledger.specs.declared.event.StreamNo.TheVariants.{Outer, Inner}
use Rattle.run_rules.specs.Facts.{first_numbers}
use Rattle.run_rules.specs.Work.{Stream, names_from}
use Rattle.run_rules.specs.declared.end.EndOf.{EndOf}
use Rattle.join_report.specs.Accounts.{AccountsSeen, IsListed, hows_behind, names_below, telling}

-- the end of a stream of which nothing else is known
abbrev pub halted_end : ℕ → EndOf
halted_end k = record { who = Inner k; how = how.Halted }

abbrev pub ends_below : ℕ → List EndOf
ends_below k = record { who = Outer; how = how.Halted } ∷ map halted_end (first_numbers k)

pub ends_more : (k : ℕ) → ends_below k ++ halted_end k ∷ [] ≡ ends_below (k + 1)
ends_more k = ap (λ (l : List EndOf). record { who = Outer; how = how.Halted } ∷ l) (sym (map-range_with_len_more halted_end 0 k k (omega arith)))

names_mapped : (ns : List ℕ) → map (λ (e : EndOf). e.who) (map halted_end ns) ≡ map Inner ns
names_mapped [] = refl
names_mapped (n ∷ ns) = ap (λ l. Inner n ∷ l) (names_mapped ns)

hows_mapped : (ns : List ℕ) → map (λ (e : EndOf). e.how) (map halted_end ns) ≡ replicate (length ns) how.Halted
hows_mapped [] = refl
hows_mapped (n ∷ ns) = ap (λ l. how.Halted ∷ l) (hows_mapped ns)

pub ends_listed : (k : ℕ) (bs : List Bool) → length bs ≡ k → IsListed (ends_below k) bs
ends_listed k bs e = ap (λ l. Outer ∷ l) (names_mapped (first_numbers k) ∙ ap names_below (sym e))

pub hows_below : (k : ℕ) → hows_behind (ends_below k) ≡ replicate k how.Halted
hows_below k = hows_mapped (first_numbers k) ∙ ap (λ n. replicate n how.Halted) (length-range_with_len 0 k)

length_map : {A B : Type 0} (f : A → B) (xs : List A) → length (map f xs) ≡ length xs
length_map f [] = refl
length_map f (x ∷ xs) = ap (λ n. suc n) (length_map f xs)

pub listed_length : (es : List EndOf) (bs : List Bool) → IsListed es bs → length es ≡ suc (length bs)
listed_length es bs e = sym (length_map (λ (x : EndOf). x.who) es) ∙ ap length e ∙ ap (λ n. suc n) (length_map Inner (first_numbers (length bs)) ∙ length-range_with_len 0 (length bs))

-- an end is told otherwise, of the same stream
pub listed_told : (es : List EndOf) (bs : List Bool) (i : ℕ) (y d : EndOf) → y.who ≡ (get_or es i d).who → IsListed es bs → IsListed (set es i y) bs
listed_told es bs i y d e l = map-set_same (λ (x : EndOf). x.who) es i y d e ∙ l

behind_set : (es : List EndOf) (k i : ℕ) (y : EndOf) → i ≡ suc k → hows_behind (set es i y) ≡ set (hows_behind es) k y.how
behind_set [] k i y e = refl
behind_set (x ∷ es) k i y e = ap (λ n. hows_behind (set (x ∷ es) n y)) e ∙ map-set (λ (z : EndOf). z.how) es k y

-- what is seen of it
pub seen_told : (a : AccountsSeen) (es : List EndOf) (bs : List Bool) (k : ℕ) (y : EndOf) → record { hows = hows_behind es; unwritten = bs } ≡ a → record { hows = hows_behind (set es (k + 1) y); unwritten = bs } ≡ telling a k y.how
seen_told a es bs k y e = ap (λ (hs : List How). record { hows = hs; unwritten = bs }) (behind_set es k (k + 1) y (omega arith)) ∙ ap (λ (b : AccountsSeen). telling b k y.how) e

names_shift : (k n : ℕ) (ss : List Stream) → length ss ≡ n → map Inner (range_with_len k n) ≡ names_from k ss
names_shift k zero [] e = refl
names_shift k zero (s ∷ ss) e = absurd (omega arith)
names_shift k (suc n) [] e = absurd (omega arith)
names_shift k (suc n) (s ∷ ss) e = ap (λ l. Inner k ∷ l) (let q : k + 1 ≡ suc k = omega arith in ap (λ m. map Inner (range_with_len m n)) q ∙ names_shift (suc k) n ss (omega arith))

-- the names of the streams that run
pub names_agree : (ss : List Stream) → names_below (length ss) ≡ names_from 0 ss
names_agree ss = names_shift 0 (length ss) ss refl

-- the ends of the first so many streams, and the outer stream's, which ended so
pub record AreFirst (es : List EndOf) (n : ℕ) (h : How) (xs : List EndOf) : Type 0 where
  pub names : map (λ (e : EndOf). e.who) xs ≡ Outer ∷ names_below n
  pub hows : map (λ (e : EndOf). e.how) xs ≡ h ∷ take n (hows_behind es)

first_of : (es : List EndOf) (bs : List Bool) (n : ℕ) (h : How) (d : EndOf) → IsListed es bs → n ≤ length bs → d ≡ get_or (take (suc n) es) 0 d → AreFirst es n h (set (take (suc n) es) 0 (record { who = d.who; how = h }))
first_of [] bs n h d l few is = absurd (let z : [] ≡ Outer ∷ names_below (length bs) = l in cc)
first_of (e ∷ es) bs n h d l few is =
    let who : e.who ≡ Outer = cc in
    let rest : map (λ (x : EndOf). x.who) es ≡ names_below (length bs) = cc in
    let first : d.who ≡ Outer = ap (λ (x : EndOf). x.who) is ∙ who in
    record {
      names = ap (λ w. w ∷ map (λ (x : EndOf). x.who) (take n es)) first ∙ ap (λ l. Outer ∷ l) (sym (take-map (λ (x : EndOf). x.who) n es) ∙ (ap (λ l. take n l) rest ∙ take-map-range_with_len Inner 0 (length bs) n few));
      hows = ap (λ l. h ∷ l) (sym (take-map (λ (x : EndOf). x.how) n es));
    }

pub first_ends : (es : List EndOf) (bs : List Bool) (n : ℕ) (h : How) (d : EndOf) (xs : List EndOf) → IsListed es bs → n ≤ length bs → xs ≡ take (n + 1) es → d ≡ get_or xs 0 d → AreFirst es n h (set xs 0 (record { who = d.who; how = h }))
first_ends es bs n h d xs l few is first =
    let more : n + 1 ≡ suc n = omega arith in
    let at : xs ≡ take (suc n) es = is ∙ ap (λ m. take m es) more in
    subst (λ ys. AreFirst es n h (set ys 0 (record { who = d.who; how = h }))) (sym at) (first_of es bs n h d l few (subst (λ ys. d ≡ get_or ys 0 d) at first))
