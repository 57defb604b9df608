-- All that an outer stream gives: each of its rows, each of its streams, and closed scopes.
use Rattle.std.proofs.Common.{◌≡◌, ℕ, suc, ◌+◌, ◌<◌, ◌≤◌, List, [], ◌∷◌, length, ⊎_elim, arith}
use Rattle.std.proofs.lemmas.Bool.{cases_lt}
use Rattle.std.proofs.lemmas.List.Sums.{sum_by-append, sum_by-cons}
use Rattle.std.specs.List.{range_with_len, sum_by}
use Rattle.chunk_core.specs.Lists.{IsAmong}
use Rattle.chunk_core.specs.Lists.IsAmong.{there}
use Rattle.chunk_core.specs.declared.code.Exit.{Exit}
use Rattle.chunk_core.specs.declared.code.Exit.TheVariants.{Succeeded}
use Rattle.chunk_core.proofs.Filters.{among_append, among_right}
use Rattle.chunk_core.proofs.Members.{among_cons, among_left, among_nil}
use Rattle.res_ledger.specs.declared.event.What.{What}
use Rattle.res_ledger.specs.declared.event.What.TheVariants.{Open, Acquire, Lease, Close}
use Rattle.res_ledger.proofs.Mapped.{among_map, map_among}
use Rattle.res_ledger.proofs.Permuted.{range_among}
use Rattle.run_rules.specs.Giving.{acquires, giving_all, giving_children, giving_part, leases_for}
use Rattle.run_rules.specs.Work.{Opener, Part, list_parts, parts_of, top_of}

-- how many rows and streams parts have
abbrev pub rows_in : List Part → ℕ
rows_in ps = sum_by (λ p. p.tables) ps

abbrev pub streams_in : List Part → ℕ
streams_in ps = sum_by (λ p. p.streams) ps

-- Of one part.

part_acquires : (s r j q : ℕ) (p : Part) → r ≤ q → q < r + p.tables → IsAmong (Acquire q s) (giving_part s r j p)
part_acquires s r j q p l u = among_left (leases_for s j p.streams) (map_among (λ x. Acquire x s) q (range_with_len r p.tables) (range_among r p.tables q l u))

part_leases : (s r j k : ℕ) (p : Part) → j ≤ k → k < j + p.streams → IsAmong (Lease k s) (giving_part s r j p)
part_leases s r j k p l u = among_right (Lease k s) (acquires s r p.tables) (leases_for s j p.streams) (map_among (λ x. Lease x s) k (range_with_len j p.streams) (range_among j p.streams k l u))

part_closes : (s r j t : ℕ) (x : Exit) (p : Part) → IsAmong (Close t x) (giving_part s r j p) → ⊥
part_closes s r j t x p m =
    ⊎_elim
    (λ a. let y = among_map (λ q. Acquire q s) (Close t x) (range_with_len r p.tables) a in let e : Acquire y.0 s ≡ Close t x = y.2 in cc)
    (λ l. let y = among_map (λ k. Lease k s) (Close t x) (range_with_len j p.streams) l in let e : Lease y.0 s ≡ Close t x = y.2 in cc)
    (among_append (Close t x) (acquires s r p.tables) (leases_for s j p.streams) m)

-- Of parts that have scopes of their own.

module _ (s r j : ℕ) (p : Part) (ps : List Part) (w : What) where
  abbrev first : List What
  first = giving_part s r j p

  abbrev rest : List What
  rest = giving_children (suc s) (r + p.tables) (j + p.streams) ps

  in_first : IsAmong w first → IsAmong w (giving_children s r j (p ∷ ps))
  in_first m = there (Open s 0) (among_left (Close s Succeeded ∷ rest) m)

  in_rest : IsAmong w rest → IsAmong w (giving_children s r j (p ∷ ps))
  in_rest m = there (Open s 0) (among_right w first (Close s Succeeded ∷ rest) (there (Close s Succeeded) m))

children_acquire : (s r j q : ℕ) (ps : List Part) → r ≤ q → q < r + rows_in ps → (t : ℕ) × IsAmong (Acquire q t) (giving_children s r j ps)
children_acquire s r j q [] l u = absurd (omega (arith, l, u))
children_acquire s r j q (p ∷ ps) l u =
    let sum = sum_by-cons (λ (x : Part). x.tables) p ps in
    ⊎_elim
    (λ (k : q < r + p.tables). (s, in_first s r j p ps (Acquire q s) (part_acquires s r j q p l k)))
    (λ (k : r + p.tables ≤ q). let x = children_acquire (suc s) (r + p.tables) (j + p.streams) q ps k (omega (arith, u, sum)) in (x.0, in_rest s r j p ps (Acquire q x.0) x.1))
    (cases_lt q (r + p.tables))

children_lease : (s r j k : ℕ) (ps : List Part) → j ≤ k → k < j + streams_in ps → (t : ℕ) × IsAmong (Lease k t) (giving_children s r j ps)
children_lease s r j k [] l u = absurd (omega (arith, l, u))
children_lease s r j k (p ∷ ps) l u =
    let sum = sum_by-cons (λ (x : Part). x.streams) p ps in
    ⊎_elim
    (λ (h : k < j + p.streams). (s, in_first s r j p ps (Lease k s) (part_leases s r j k p l h)))
    (λ (h : j + p.streams ≤ k). let x = children_lease (suc s) (r + p.tables) (j + p.streams) k ps h (omega (arith, u, sum)) in (x.0, in_rest s r j p ps (Lease k x.0) x.1))
    (cases_lt k (j + p.streams))

children_close : (s r j t : ℕ) (x : Exit) (ps : List Part) → IsAmong (Close t x) (giving_children s r j ps) → x ≡ Succeeded
children_close s r j t x [] m = absurd (among_nil m)
children_close s r j t x (p ∷ ps) m =
    ⊎_elim
    (λ e. absurd (let f : Close t x ≡ Open s 0 = e in cc))
    (λ i. ⊎_elim
    (λ a. absurd (part_closes s r j t x p a))
    (λ a. ⊎_elim (λ e. let f : Close t x ≡ Close s Succeeded = e in cc) (λ b. children_close (suc s) (r + p.tables) (j + p.streams) t x ps b) (among_cons a))
    (among_append (Close t x) (giving_part s r j p) (Close s Succeeded ∷ giving_children (suc s) (r + p.tables) (j + p.streams) ps) i))
    (among_cons m)

-- Of all.

module _ (o : Opener) (n : ℕ) where
  abbrev top : Part
  top = top_of o n

  abbrev top_gives : List What
  top_gives = giving_part 0 0 0 top

  abbrev others : List What
  others = giving_children 1 top.tables top.streams (parts_of o)

  -- each row of the outer stream is acquired
  pub all_acquire : (q : ℕ) → q < top.tables + rows_in (parts_of o) → (t : ℕ) × IsAmong (Acquire q t) (giving_all o n)
  all_acquire q u =
      ⊎_elim
      (λ (k : q < top.tables). (0, among_left others (part_acquires 0 0 0 q top (omega arith) (omega (arith, k)))))
      (λ (k : top.tables ≤ q). let x = children_acquire 1 top.tables top.streams q (parts_of o) k u in (x.0, among_right (Acquire q x.0) top_gives others x.1))
      (cases_lt q top.tables)

  -- each stream is leased for
  pub all_lease : (k : ℕ) → k < n → (t : ℕ) × IsAmong (Lease k t) (giving_all o n)
  all_lease k u =
      ⊎_elim
      (λ (h : k < top.streams). (0, among_left others (part_leases 0 0 0 k top (omega arith) (omega (arith, h)))))
      (λ (h : top.streams ≤ k). let x = children_lease 1 top.tables top.streams k (parts_of o) h (omega (arith, u)) in (x.0, among_right (Lease k x.0) top_gives others x.1))
      (cases_lt k top.streams)

  -- each scope that is closed succeeded
  pub all_close : (t : ℕ) (x : Exit) → IsAmong (Close t x) (giving_all o n) → x ≡ Succeeded
  all_close t x m = ⊎_elim (λ i. absurd (part_closes 0 0 0 t x top i)) (λ i. children_close 1 top.tables top.streams t x (parts_of o) i) (among_append (Close t x) top_gives others m)

  -- the rows are those of the tables, and those of what follows the groups
  pub all_rows : length o.tables ≤ top.tables + rows_in (parts_of o)
  all_rows = let sum = sum_by-append (λ (x : Part). x.tables) o.groups (list_parts o.list) in omega (arith, sum)
