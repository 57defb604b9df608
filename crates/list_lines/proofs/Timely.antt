-- A list is read no further than is needed.
use Rattle.std.proofs.Common.{◌≡◌, ℕ, ◌+◌, ◌-◌, ◌^◌, ◌≤◌, true, false, List, [], ◌∷◌, ◌++◌, length, length-append, map, take, drop, Option, Some, None, refl, sym, ap, ◌∙◌, subst, arith}
use Rattle.std.specs.Prelude.{IfSome}
use Rattle.std.proofs.lemmas.List.{length-map, map-append}
use Rattle.std.proofs.Math.Seq.{take-add}
use Rattle.chunk_core.specs.Elements.{Byte, Element, Line}
use Rattle.chunk_core.specs.Feed.{Given, Meaning}
use Rattle.chunk_core.specs.declared.code.Code.{Code}
use Rattle.chunk_core.proofs.Bools.{number}
use Rattle.device_port.specs.Device.{DeviceTold, moved}
use Rattle.pull_nodes.specs.Laws.{IsSteady}
use Rattle.pull_nodes.specs.Runs.{FirstBytes}
use Rattle.list_lines.specs.Lists.{GivesLines, IsInTime, IsUnread}

-- of more input no fewer elements have come
part_grows : (m : Meaning) → IsSteady m → (xs zs : List Element) → length (m.part xs).list ≤ length (m.part (xs ++ zs)).list
part_grows m steady xs zs = by_fault (m.part xs).fault refl
  where
    by_fault : (o : Option Code) → (m.part xs).fault ≡ o → length (m.part xs).list ≤ length (m.part (xs ++ zs)).list
    by_fault None e = let f = steady.grows xs zs e in let a = ap length f.1 in let b = length-append (m.part xs).list f.0 in omega (a, b, arith)
    by_fault (Some c) e = let a = ap (λ (g : Given). length g.list) (steady.stops xs zs c e).0 in omega (a, arith)

front_few : (m : Meaning) → IsSteady m → (bytes : List ℕ) (k at : ℕ) → k ≤ at → length (m.part (map Byte (take k bytes))).list ≤ length (m.part (map Byte (take at bytes))).list
front_few m steady bytes k at l =
    let e : at ≡ k + (at - k) = omega (l, arith) in
    let whole : map Byte (take at bytes) ≡ map Byte (take k bytes) ++ map Byte (take (at - k) (drop k bytes)) = ap (λ i. map Byte (take i bytes)) e ∙ (ap (map Byte) (take-add k (at - k) bytes) ∙ map-append Byte (take k bytes) (take (at - k) (drop k bytes))) in
    subst (λ xs. length (m.part (map Byte (take k bytes))).list ≤ length (m.part xs).list) (sym whole) (part_grows m steady (map Byte (take k bytes)) (map Byte (take (at - k) (drop k bytes))))

-- a front of the bytes of which these lines came
came_few : (m : Meaning) → IsSteady m → (content : Option (List ℕ)) (at k : ℕ) (xs : List Element) (given : List (List ℕ)) → FirstBytes content at xs → (m.part xs).list ≡ map Line given → k ≤ at → IfSome content (λ c. length (m.part (map Byte (take k c))).list ≤ length given)
came_few m steady None at k xs given f came l = tt
came_few m steady (Some c) at k xs given f came l =
    let a = front_few m steady c k at l in
    let b : (m.part (map Byte (take at c))).list ≡ map Line given = ap (λ ys. (m.part ys).list) (sym f) ∙ came in
    let e = ap length b in
    let n = length-map given Line in
    omega (a, e, n, arith)

-- nothing was read
pub unread_in_time : (m : Meaning) (d : DeviceTold) → GivesLines m → IsUnread d → IsInTime m d []
unread_in_time m d g u = record {
  needed = nothing_needed d.content (d.at - 4096) (let e = u.at in omega (e, arith));
  ended = λ e. absurd (let z : true ≡ false = sym e ∙ u.ended in cc);
  few = let e = u.at in omega (e, arith);
}
  where
    nothing_needed : (content : Option (List ℕ)) (k : ℕ) → k ≡ 0 → IfSome content (λ c. length (m.part (map Byte (take k c))).list ≤ 0)
    nothing_needed None k e = tt
    nothing_needed (Some c) k e = subst (λ i. length (m.part (map Byte (take i c))).list ≤ 0) (sym e) (let z = ap length g.nothing in omega (z, arith))

-- where no line was left, a read of at most a piece was needed
pub read_in_time : (m : Meaning) (old new : DeviceTold) (n : ℕ) (xs : List Element) (given : List (List ℕ)) → GivesLines m → FirstBytes old.content old.at xs → (m.part xs).list ≡ map Line given → n ≤ 4096 → old.at + n ≤ 2 ^ 40 → new ≡ moved n old → IsInTime m new given
read_in_time m old new n xs given g first came few limit told = subst (λ d. IsInTime m d given) (sym told) (record {
  needed = came_few m g.steady old.content old.at (old.at + n - 4096) xs given first came (omega (few, arith));
  ended = λ e. came_few m g.steady old.content old.at (old.at + n) xs given first came (let z = number n 0 e in omega (z, arith));
  few = limit;
})

-- a read that fails gives nothing
pub failed_in_time : (m : Meaning) (old new : DeviceTold) (k : ℕ) (given : List (List ℕ)) → new ≡ record old { read_faults = k } → IsInTime m old given → IsInTime m new given
failed_in_time m old new k given told h = subst (λ d. IsInTime m d given) (sym told) (record { needed = h.needed; ended = h.ended; few = h.few })

-- nor are more lines that were given a wrong
pub more_in_time : (m : Meaning) (d : DeviceTold) (given : List (List ℕ)) (line : List ℕ) → IsInTime m d given → IsInTime m d (given ++ line ∷ [])
more_in_time m d given line h = record {
  needed = more d.content (d.at - 4096) h.needed;
  ended = λ e. more d.content d.at (h.ended e);
  few = h.few;
}
  where
    more : (content : Option (List ℕ)) (k : ℕ) → IfSome content (λ c. length (m.part (map Byte (take k c))).list ≤ length given) → IfSome content (λ c. length (m.part (map Byte (take k c))).list ≤ length (given ++ line ∷ []))
    more None k h = tt
    more (Some c) k h = let a = length-append given (line ∷ []) in omega (a, h, arith)
