-- What follows of the order in which the outer stream gives its streams.
use Rattle.std.proofs.Common.{◌≡◌, ℕ, zero, suc, ◌+◌, ◌<◌, ◌≤◌, Bool, true, false, cond, List, [], ◌∷◌, ◌++◌, filter, refl, sym, ap, ◌∙◌, subst, ⊎_elim, arith, add-one, append_assoc}
use Rattle.std.specs.List.{range_with_len, sum_by}
use Rattle.std.proofs.lemmas.Bool.{cases_lt}
use Rattle.std.proofs.lemmas.Grind.{flat_map-append}
use Rattle.std.proofs.lemmas.List.Sums.{sum_by-cons}
use Rattle.chunk_core.specs.Lists.{IsAmong}
use Rattle.chunk_core.specs.declared.code.Exit.TheVariants.{Succeeded}
use Rattle.chunk_core.proofs.Filters.{among_filter, among_right}
use Rattle.chunk_core.proofs.Members.{among_cons, among_left, among_nil}
use Rattle.chunk_core.specs.Lists.IsAmong.{there}
use Rattle.res_ledger.specs.Ledger.{IsLeased}
use Rattle.res_ledger.specs.Own.{acquires_of, own, rows}
use Rattle.res_ledger.specs.declared.event.Event.{Event}
use Rattle.res_ledger.specs.declared.event.StreamNo.TheVariants.{Outer}
use Rattle.res_ledger.specs.declared.event.What.{What}
use Rattle.res_ledger.specs.declared.event.What.TheVariants.{Open, Acquire, Lease, Cancel, Close, Final}
use Rattle.res_ledger.specs.Streams.{same_stream}
use Rattle.res_ledger.proofs.Mapped.{map_among}
use Rattle.res_ledger.proofs.Noted.{notes_rows, own_notes}
use Rattle.res_ledger.proofs.Permuted.{range_among}
use Rattle.res_ledger.proofs.Scopes.{own_append}
use Rattle.run_rules.specs.Giving.{GivesAll, GivesInOrder, acquires, givings, giving_all, giving_children, giving_part, is_giving, leases_for}
use Rattle.run_rules.specs.Work.{Opener, Part, parts_of, top_of}
use Rattle.run_laws.specs.Laws.{TablesRise}

-- Rows that rise.

-- each row is m or above, and above those before it
abbrev Rising : ℕ → List (ℕ × ℕ) → Type 0
Rising m [] = Unit {0}
Rising m (x ∷ xs) = (m ≤ x.0) × Rising (suc x.0) xs

rising_lower : (m n : ℕ) (xs : List (ℕ × ℕ)) → m ≤ n → Rising n xs → Rising m xs
rising_lower m n [] l h = tt
rising_lower m n (x ∷ xs) l h = (let a = h.0 in omega (arith, l, a), h.1)

rising_front : (m : ℕ) (xs ys : List (ℕ × ℕ)) → Rising m (xs ++ ys) → Rising m xs
rising_front m [] ys h = tt
rising_front m (x ∷ xs) ys h = (h.0, rising_front (suc x.0) xs ys h.1)

rising_at : (m : ℕ) (xs ys : List (ℕ × ℕ)) (y : ℕ × ℕ) → Rising m (xs ++ y ∷ ys) → m ≤ y.0
rising_at m [] ys y h = h.0
rising_at m (x ∷ xs) ys y h = let a = h.0 in let b = rising_at (suc x.0) xs ys y h.1 in omega (arith, a, b)

-- a row stands behind those below it
rising_before : (m : ℕ) (xs ys : List (ℕ × ℕ)) (x y : ℕ × ℕ) → Rising m (xs ++ y ∷ ys) → IsAmong x xs → x.0 < y.0
rising_before m [] ys x y h i = absurd (among_nil i)
rising_before m (z ∷ xs) ys x y h i = ⊎_elim
    (λ e. let b = rising_at (suc z.0) xs ys y h.1 in let s = ap (λ (p : ℕ × ℕ). p.0) e in omega (arith, b, s))
    (λ n. rising_before (suc z.0) xs ys x y h.1 n)
    (among_cons i)

acquires_rise : (s r n : ℕ) (E : List What) → Rising (r + n) (rows E) → Rising r (rows (acquires s r n ++ E))
acquires_rise s r zero E h = rising_lower r (r + 0) (rows E) (omega arith) h
acquires_rise s r (suc n) E h = (omega arith, subst (λ m. Rising m (rows (acquires s (r + 1) n ++ E))) (add-one r) (acquires_rise s (r + 1) n E (rising_lower (r + 1 + n) (r + suc n) (rows E) (omega arith) h)))

leases_rows : (s j n : ℕ) (E : List What) → rows (leases_for s j n ++ E) ≡ rows E
leases_rows s j zero E = refl
leases_rows s j (suc n) E = leases_rows s (j + 1) n E

part_rises : (s r j : ℕ) (p : Part) (E : List What) → Rising (r + p.tables) (rows E) → Rising r (rows (giving_part s r j p ++ E))
part_rises s r j p E h =
    subst (λ l. Rising r (rows l)) (sym (append_assoc (acquires s r p.tables) (leases_for s j p.streams) E))
    (acquires_rise s r p.tables (leases_for s j p.streams ++ E) (subst (λ l. Rising (r + p.tables) l) (sym (leases_rows s j p.streams E)) h))

children_rise : (ps : List Part) (s r j : ℕ) → Rising r (rows (giving_children s r j ps))
children_rise [] s r j = tt
children_rise (p ∷ ps) s r j = part_rises s r j p (Close s Succeeded ∷ giving_children (suc s) (r + p.tables) (j + p.streams) ps) (children_rise ps (suc s) (r + p.tables) (j + p.streams))

all_rise : (o : Opener) (n : ℕ) → Rising 0 (rows (giving_all o n))
all_rise o n =
    let top : Part = top_of o n in
    let E : List What = giving_children 1 top.tables top.streams (parts_of o) in
    part_rises 0 0 0 top E (rising_lower (0 + top.tables) top.tables (rows E) (omega arith) (children_rise (parts_of o) 1 top.tables top.streams))

-- what is left out acquires nothing
acquires_giving : (w : What) → acquires_of w ≡ cond (is_giving w) (acquires_of w) []
acquires_giving (Open s p) = refl
acquires_giving (Acquire r s) = refl
acquires_giving (Lease j s) = refl
acquires_giving (Cancel j x) = refl
acquires_giving (Close zero x) = refl
acquires_giving (Close (suc s) x) = refl
acquires_giving (Final r x ok) = refl

filtered_rows : (b : Bool) (w : What) (E : List What) → cond b (acquires_of w) [] ++ rows E ≡ rows (cond b (w ∷ E) E)
filtered_rows true w E = refl
filtered_rows false w E = refl

rows_giving : (E : List What) → rows E ≡ rows (filter is_giving E)
rows_giving [] = refl
rows_giving (w ∷ E) = ap (λ l. l ++ rows E) (acquires_giving w) ∙ (ap (λ l. cond (is_giving w) (acquires_of w) [] ++ l) (rows_giving E) ∙ filtered_rows (is_giving w) w (filter is_giving E))

-- what the outer stream notes, in order
own_cut : (P Q : List Event) (e : Event) → e.by ≡ Outer → own Outer (P ++ e ∷ Q) ≡ own Outer P ++ e.what ∷ own Outer Q
own_cut P Q e by = own_append Outer P (e ∷ Q) ∙ ap (λ b. own Outer P ++ cond b (e.what ∷ own Outer Q) (own Outer Q)) (ap (λ k. same_stream k Outer) by)

pub rows_rise : (o : Opener) (n : ℕ) (L : List Event) → GivesInOrder o n L → TablesRise L
rows_rise o n L given P Q e r s q t is by what before =
    let all : Rising 0 (rows (givings L ++ given.0)) = subst (λ l. Rising 0 (rows l)) (sym given.1) (all_rise o n) in
    let front : Rising 0 (rows (givings L)) = rising_front 0 (rows (givings L)) (rows given.0) (subst (λ l. Rising 0 l) (flat_map-append acquires_of (givings L) given.0) all) in
    let own_rise : Rising 0 (rows (own Outer L)) = subst (λ l. Rising 0 l) (sym (rows_giving (own Outer L))) front in
    let cut : own Outer L ≡ own Outer P ++ Acquire r s ∷ own Outer Q = ap (own Outer) is ∙ (own_cut P Q e by ∙ ap (λ w. own Outer P ++ w ∷ own Outer Q) what) in
    let parts : Rising 0 (rows (own Outer P) ++ (r, s) ∷ rows (own Outer Q)) = subst (λ l. Rising 0 l) (ap rows cut ∙ flat_map-append acquires_of (own Outer P) (Acquire r s ∷ own Outer Q)) own_rise in
    rising_before 0 (rows (own Outer P)) (rows (own Outer Q)) (q, t) (r, s) parts (notes_rows P Outer q t before)

-- Streams that are all leased for.

leases_at : (s j n k : ℕ) → j ≤ k → k < j + n → IsAmong (Lease k s) (leases_for s j n)
leases_at s j n k l m = map_among (λ i. Lease i s) k (range_with_len j n) (range_among j n k l m)

part_leases : (s r j k : ℕ) (p : Part) (E : List What) → j ≤ k → k < j + p.streams → IsAmong (Lease k s) (giving_part s r j p ++ E)
part_leases s r j k p E l m = among_left E (among_right (Lease k s) (acquires s r p.tables) (leases_for s j p.streams) (leases_at s j p.streams k l m))

children_lease : (ps : List Part) (s r j k : ℕ) → j ≤ k → k < j + sum_by (λ p. p.streams) ps → (t : ℕ) × IsAmong (Lease k t) (giving_children s r j ps)
children_lease [] s r j k l m = absurd (omega (arith, l, m))
children_lease (p ∷ ps) s r j k l m =
    let more = sum_by-cons (λ (x : Part). x.streams) p ps in
    let E : List What = Close s Succeeded ∷ giving_children (suc s) (r + p.tables) (j + p.streams) ps in
    ⊎_elim
    (λ (b : k < j + p.streams). (s, there (Open s 0) (part_leases s r j k p E l b)))
    (λ (b : j + p.streams ≤ k).
    let c = children_lease ps (suc s) (r + p.tables) (j + p.streams) k b (omega (arith, m, more)) in
    (c.0, there (Open s 0) (among_right (Lease k c.0) (giving_part s r j p) E (there (Close s Succeeded) c.1))))
    (cases_lt k (j + p.streams))

all_lease : (o : Opener) (n k : ℕ) → k < n → (t : ℕ) × IsAmong (Lease k t) (giving_all o n)
all_lease o n k b =
    let top : Part = top_of o n in
    let E : List What = giving_children 1 top.tables top.streams (parts_of o) in
    ⊎_elim
    (λ (l : k < top.streams). (0, part_leases 0 0 0 k top E (omega arith) (omega (arith, l))))
    (λ (l : top.streams ≤ k).
    let c = children_lease (parts_of o) 1 top.tables top.streams k l (omega (arith, b)) in
    (c.0, among_right (Lease k c.0) (giving_part 0 0 0 top) E c.1))
    (cases_lt k top.streams)

pub leases_all : (o : Opener) (n : ℕ) (L : List Event) → GivesAll o n L → (k : ℕ) → k < n → IsLeased L k
leases_all o n L all k b =
    let c = all_lease o n k b in
    let i = among_filter is_giving (Lease k c.0) (own Outer L) (subst (λ l. IsAmong (Lease k c.0) l) (sym all) c.1) in
    (Outer, c.0, own_notes L Outer (Lease k c.0) i.0)
