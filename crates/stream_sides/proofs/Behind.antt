-- What stands behind the pairs of two lists.
use Rattle.std.proofs.Common.{◌≡◌, ℕ, ◌<◌, ◌≤◌, zero, suc, List, [], ◌∷◌, ◌++◌, length, take, drop, map, Option, Some, None, ◌⊎◌, inr, ⊎_elim, refl, sym, ap, subst, ◌∙◌, arith}
use Rattle.std.proofs.lemmas.List.{drop-map, drop_all, length-map}
use Rattle.chunk_core.specs.Elements.{Element, Line}
use Rattle.pull_nodes.specs.Pairs.{pairs_of, pair_of}
use Rattle.stream_sides.specs.Sides.{Sides, IsNeeded, paired, unpaired, with_more}
use Rattle.stream_sides.specs.Waiting.{waits}
use Rattle.stream_sides.specs.declared.side.Side.{Side}
use Rattle.stream_sides.specs.declared.side.Side.TheVariants.{Left, Right}

-- Where one side is at its end there is no further pair.
pub no_pairs : (xs ys : List Element) → (xs ≡ []) ⊎ (ys ≡ []) → pairs_of xs ys ≡ []
no_pairs [] ys h = refl
no_pairs (x ∷ xs) [] h = refl
no_pairs (x ∷ xs) (y ∷ ys) h = ⊎_elim (λ e. absurd (cc e)) (λ e. absurd (cc e)) h

-- Passing over as many as there are pairs is passing over as many as the other side has.
pub behind_left : (xs ys : List Element) → drop (length (pairs_of xs ys)) xs ≡ drop (length ys) xs
behind_left [] [] = refl
behind_left [] (y ∷ ys) = refl
behind_left (x ∷ xs) [] = refl
behind_left (x ∷ xs) (y ∷ ys) = behind_left xs ys

pub behind_right : (xs ys : List Element) → drop (length (pairs_of xs ys)) ys ≡ drop (length xs) ys
behind_right [] [] = refl
behind_right [] (y ∷ ys) = refl
behind_right (x ∷ xs) [] = refl
behind_right (x ∷ xs) (y ∷ ys) = behind_right xs ys

-- The shorter side has nothing behind the pairs.
pub none_right : (xs ys : List Element) → length (pairs_of xs ys) < length xs → drop (length xs) ys ≡ []
none_right [] ys h = absurd (omega arith)
none_right (x ∷ xs) [] h = refl
none_right (x ∷ xs) (y ∷ ys) h = none_right xs ys (omega arith)

pub none_left : (xs ys : List Element) → length (pairs_of xs ys) < length ys → drop (length ys) xs ≡ []
none_left xs [] h = absurd (omega arith)
none_left [] (y ∷ ys) h = refl
none_left (x ∷ xs) (y ∷ ys) h = none_left xs ys (omega arith)

lefts_and_rights : (xs ys us vs : List Element) → xs ≡ us → ys ≡ vs → ◌≡◌ {A = Sides} (record { left = xs; right = ys }) (record { left = us; right = vs })
lefts_and_rights xs ys us vs p q = λ i. record { left = p i; right = q i }

-- the lines behind so many, which are as many as the pairs
rest_of : (n : ℕ) (ws : List (List ℕ)) (k : ℕ) → n ≡ k → map Line (drop n ws) ≡ drop k (map Line ws)
rest_of n ws k e = sym (drop-map Line n ws) ∙ ap (λ j. drop j (map Line ws)) e

long : (ws : List (List ℕ)) (n : ℕ) → n < length ws → n < length (map Line ws)
long ws n h = simp length-map h

none : (ws : List (List ℕ)) (n k : ℕ) → length ws ≤ n → n ≡ k → [] ≡ drop k (map Line ws)
none ws n k h e = let short : length (map Line ws) ≤ k = simp length-map (omega arith) in sym (drop_all k (map Line ws) short)

-- Fewer pairs than what waited: it waits further.
further : (s side : Side) (ws zs : List (List ℕ)) (n : ℕ) → IsNeeded (waits s (Some ws)) side
    → n ≡ length (paired (with_more (waits s (Some ws)) side (map Line zs))) → n < length ws
    → waits s (Some (drop n ws)) ≡ unpaired (with_more (waits s (Some ws)) side (map Line zs))
further Left Left ws zs n needed e h = let no : length (map Line ws) ≡ 0 = ap length (needed.0 refl) in let l = long ws n h in absurd (omega arith)
further Left Right ws zs n needed e h =
    let xs = map Line ws in
    let ys = map Line zs in
    let l : length (pairs_of xs ys) < length xs = subst (λ k. k < length xs) e (long ws n h) in
    lefts_and_rights _ _ _ _ (rest_of n ws _ e ∙ behind_left xs ys) (sym (none_right xs ys l))
further Right Left ws zs n needed e h =
    let xs = map Line zs in
    let ys = map Line ws in
    let l : length (pairs_of xs ys) < length ys = subst (λ k. k < length ys) e (long ws n h) in
    lefts_and_rights _ _ _ _ (sym (none_left xs ys l)) (rest_of n ws _ e ∙ behind_right xs ys)
further Right Right ws zs n needed e h = absurd (cc (needed.1 refl))

pub waits_further : (now : Sides) (s side : Side) (o : Option (List (List ℕ))) (ws rest zs : List (List ℕ)) (n : ℕ)
    → now ≡ waits s o → o ≡ Some ws → rest ≡ drop n ws → IsNeeded now side
    → n ≡ length (paired (with_more now side (map Line zs))) → n < length ws
    → waits s (Some rest) ≡ unpaired (with_more now side (map Line zs))
waits_further now s side o ws rest zs n is some e needed count h =
    let at : now ≡ waits s (Some ws) = is ∙ ap (waits s) some in
    ap (λ l. waits s (Some l)) e
    ∙ (further s side ws zs n (subst (λ t. IsNeeded t side) at needed) (subst (λ t. n ≡ length (paired (with_more t side (map Line zs)))) at count) h
    ∙ ap (λ t. unpaired (with_more t side (map Line zs))) (sym at))

-- No fewer pairs than what waited: what came waits, behind them.
came : (s side : Side) (o : Option (List (List ℕ))) (zs : List (List ℕ)) (n : ℕ) → IsNeeded (waits s o) side
    → n ≡ length (paired (with_more (waits s o) side (map Line zs))) → ((ws : List (List ℕ)) → o ≡ Some ws → length ws ≤ n)
    → waits side (Some (drop n zs)) ≡ unpaired (with_more (waits s o) side (map Line zs))
came s Left None zs n needed e h =
    lefts_and_rights _ _ _ _ (rest_of n zs _ e ∙ behind_left (map Line zs) []) (sym (drop_all (length (map Line zs)) [] (omega arith)))
came s Right None zs n needed e h = absurd (cc (needed.1 refl))
came Left Left (Some []) zs n needed e h =
    lefts_and_rights _ _ _ _ (rest_of n zs _ e ∙ behind_left (map Line zs) []) (sym (drop_all (length (map Line zs)) [] (omega arith)))
came Left Left (Some (w ∷ ws)) zs n needed e h = absurd (cc (needed.0 refl))
came Left Right (Some ws) zs n needed e h =
    let xs = map Line ws in
    let ys = map Line zs in
    lefts_and_rights _ _ _ _ (none ws n _ (h ws refl) e ∙ behind_left xs ys) (rest_of n zs _ e ∙ behind_right xs ys)
came Right Left (Some ws) zs n needed e h =
    let xs = map Line zs in
    let ys = map Line ws in
    lefts_and_rights _ _ _ _ (rest_of n zs _ e ∙ behind_left xs ys) (none ws n _ (h ws refl) e ∙ behind_right xs ys)
came Right Right (Some ws) zs n needed e h = absurd (cc (needed.1 refl))

pub came_waits : (now : Sides) (s side : Side) (o : Option (List (List ℕ))) (zs : List (List ℕ)) (n : ℕ)
    → now ≡ waits s o → IsNeeded now side → n ≡ length (paired (with_more now side (map Line zs))) → ((ws : List (List ℕ)) → o ≡ Some ws → length ws ≤ n)
    → waits side (Some (drop n zs)) ≡ unpaired (with_more now side (map Line zs))
came_waits now s side o zs n is needed count h =
    came s side o zs n (subst (λ t. IsNeeded t side) is needed) (subst (λ t. n ≡ length (paired (with_more t side (map Line zs)))) is count) h
    ∙ ap (λ t. unpaired (with_more t side (map Line zs))) (sym is)

-- Where nothing waits there is no pair.
none_with : (s side : Side) (zs : List Element) → paired (with_more (waits s None) side zs) ≡ []
none_with s Left zs = no_pairs zs [] (inr refl)
none_with s Right zs = refl

pub none_paired : (now : Sides) (s side : Side) (zs : List Element) → now ≡ waits s None → paired (with_more now side zs) ≡ []
none_paired now s side zs is = ap (λ t. paired (with_more t side zs)) is ∙ none_with s side zs
