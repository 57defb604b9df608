-- The well-formed bytes that were given stay given, and a fault is final.
use Rattle.std.proofs.Common.{◌≡◌, ℕ, Bool, true, false, cond, List, [], ◌∷◌, ◌++◌, map, Option, Some, None, is_some, refl, ap, ◌∙◌, sym}
use Rattle.std.proofs.lemmas.List.{append-nil, map-append}
use Rattle.chunk_core.specs.Elements.{Byte}
use Rattle.chunk_core.specs.declared.code.Code.{Code}
use Rattle.chunk_core.specs.declared.code.Code.TheVariants as code
use Rattle.pull_nodes.specs.Utf8.{utf8_front, utf8_rest, is_malformed, part_fault, end_fault, utf8_part, utf8_all}
use Rattle.pull_nodes.proofs.Fronts.{front_same}
use Rattle.pull_nodes.proofs.Malformed.{malformed-none, error_len-append, not_malformed, nil-error_len}
use Rattle.pull_nodes.proofs.Steady.{SteadyBy}
use Rattle.pull_nodes.proofs.Utf8Cuts.{front-IsUtf8, front-after, rest-after, front_and_rest-append, rest-none, none_is_rest}

-- the front and the rest of bytes that go on
pub front-append : (xs zs : List ℕ) → utf8_front (xs ++ zs) ≡ utf8_front xs ++ utf8_front (utf8_rest xs ++ zs)
front-append xs zs = ap utf8_front (front_and_rest-append xs zs) ∙ front-after (utf8_front xs) (utf8_rest xs ++ zs) (front-IsUtf8 xs)

pub rest-append : (xs zs : List ℕ) → utf8_rest (xs ++ zs) ≡ utf8_rest (utf8_rest xs ++ zs)
rest-append xs zs = ap utf8_rest (front_and_rest-append xs zs) ∙ rest-after (utf8_front xs) (utf8_rest xs ++ zs) (front-IsUtf8 xs)

pub part_fault-some : (r : List ℕ) (c : Code) → part_fault r ≡ Some c → is_malformed r ≡ true
part_fault-some r c h = from (is_malformed r) h
  where
    from : (b : Bool) → cond b (Some code.Malformed) None ≡ Some c → b ≡ true
    from true h = refl
    from false h = (cc)

pub part_fault-none : (r : List ℕ) → part_fault r ≡ None → is_malformed r ≡ false
part_fault-none r h = from (is_malformed r) h
  where
    from : (b : Bool) → cond {A = Option Code} b (Some code.Malformed) None ≡ None → b ≡ false
    from true h = (cc)
    from false h = refl

pub part_fault-malformed : (r : List ℕ) → is_malformed r ≡ true → part_fault r ≡ Some code.Malformed
part_fault-malformed r h = rw h

pub end_fault-malformed : (r : List ℕ) → is_malformed r ≡ true → end_fault r ≡ Some code.Malformed
end_fault-malformed [] h = absurd (not_malformed [] nil-error_len h)
end_fault-malformed (b ∷ r) h = rw h

-- behind bytes at fault nothing is given any more
pub malformed-append : (xs zs : List ℕ) → is_malformed (utf8_rest xs) ≡ true
    → (utf8_front (xs ++ zs) ≡ utf8_front xs) × (is_malformed (utf8_rest (xs ++ zs)) ≡ true)
malformed-append xs zs bad =
    let r = utf8_rest xs in
    let parts = none_is_rest (r ++ zs) (malformed-none r zs (rest-none xs) bad) in
    let front : utf8_front (xs ++ zs) ≡ utf8_front xs = front-append xs zs ∙ (ap (λ t. utf8_front xs ++ t) parts.0 ∙ append-nil (utf8_front xs)) in
    let rest : utf8_rest (xs ++ zs) ≡ r ++ zs = rest-append xs zs ∙ parts.1 in
    (front, ap is_malformed rest ∙ (ap (λ (o : Option ℕ). is_some o) (error_len-append r zs bad) ∙ bad))

utf8_stops : (xs zs : List ℕ) → is_malformed (utf8_rest xs) ≡ true → (utf8_part (xs ++ zs) ≡ utf8_part xs) × (utf8_all (xs ++ zs) ≡ utf8_part xs)
utf8_stops xs zs bad =
    let more = malformed-append xs zs bad in
    let was = part_fault-malformed (utf8_rest xs) bad in
    let part : part_fault (utf8_rest (xs ++ zs)) ≡ part_fault (utf8_rest xs) = part_fault-malformed (utf8_rest (xs ++ zs)) more.1 ∙ sym was in
    let all : end_fault (utf8_rest (xs ++ zs)) ≡ part_fault (utf8_rest xs) = end_fault-malformed (utf8_rest (xs ++ zs)) more.1 ∙ sym was in
    ((λ i. record { list = map Byte (more.0 i); fault = part i }), (λ i. record { list = map Byte (more.0 i); fault = all i }))

pub utf8_steady : SteadyBy utf8_part utf8_all
utf8_steady = record {
  grows = λ xs zs n.
      let more = utf8_front (utf8_rest xs ++ zs) in
      (map Byte more, ap (map Byte) (front-append xs zs) ∙ map-append Byte (utf8_front xs) more);
  ends = λ xs n. front_same (map Byte (utf8_front xs));
  stops = λ xs zs c h. utf8_stops xs zs (part_fault-some (utf8_rest xs) c h);
}
