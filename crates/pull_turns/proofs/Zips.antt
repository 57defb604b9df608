-- How the runs of two sides go through their pairs.
use Rattle.std.proofs.Common.{◌≡◌, ◌⊎◌, inl, inr, ℕ, ◌+◌, ◌-◌, ◌<◌, ◌≤◌, List, [], ◌∷◌, ◌++◌, length, drop, refl, sym, ◌∙◌, ap, subst, arith, append_assoc, append-nil, length-append}
use Rattle.std.proofs.lemmas.List.{length-drop}
use Rattle.chunk_core.specs.Elements.{Element}
use Rattle.chunk_core.specs.Outcomes.{End, Cut, Outcomes}
use Rattle.pull_nodes.specs.Pairs.{pair_of, pairs_of}
use Rattle.pull_nodes.specs.Runs.{Zipped}
use Rattle.stream_sides.proofs.Feeding.{pairs_on}
use Rattle.pull_turns.specs.Piping.{Behind}
use Rattle.pull_turns.specs.Turned.{Leads}
use Rattle.pull_turns.proofs.Leads.{HasRun}

-- what stands behind the pairs is as much longer on one side as all was
behind_length : (xs ys us : List Element) → length (drop (length ys) xs ++ us) ≡ (length xs - length ys) + length us
behind_length xs ys us = length-append (drop (length ys) xs) us ∙ ap (λ n. n + length us) (length-drop (length ys) xs)

module _ (l r ls rs : List Element) (A A' B B' : Outcomes) (f : Leads ls A' A) (k : Leads rs B' B) where
  abbrev L : List Element
  L = l ++ ls

  abbrev R : List Element
  R = r ++ rs

  -- both sides gave some, which stand behind what waited: their pairs come, and what stands behind these waits
  pub by_zipped : Leads (pairs_of L R) (Zipped (Behind (drop (length R) L) A') (Behind (drop (length L) R) B')) (Zipped (Behind l A) (Behind r B))
  by_zipped = record {
    gives = λ zs h (xs, ys, e, g, (us, a, ex), (vs, b, ey), ez, c).
        let all : (l ++ (ls ++ us) ≡ L ++ us) × (r ++ (rs ++ vs) ≡ R ++ vs) = (sym (append_assoc l ls us), sym (append_assoc r rs vs)) in
        let left_is : length xs ≡ (length L - length R) + length us = ap length ex ∙ behind_length L R us in
        let right_is : length ys ≡ (length R - length L) + length vs = ap length ey ∙ behind_length R L vs in
        let left_all : length (l ++ (ls ++ us)) ≡ length L + length us = ap length all.0 ∙ length-append L us in
        let right_all : length (r ++ (rs ++ vs)) ≡ length R + length vs = ap length all.1 ∙ length-append R vs in (
          l ++ (ls ++ us),
          r ++ (rs ++ vs),
          e,
          g,
          (ls ++ us, f.gives us e a, refl),
          (rs ++ vs, k.gives vs g b, refl),
          ap (λ qs. pairs_of L R ++ qs) (ez ∙ (ap (λ qs. pairs_of qs ys) ex ∙ ap (λ qs. pairs_of (drop (length R) L ++ us) qs) ey))
              ∙ (pairs_on L R us vs ∙ sym (ap (λ qs. pairs_of qs (r ++ (rs ++ vs))) all.0 ∙ ap (λ qs. pairs_of (L ++ us) qs) all.1)),
          elim c [
            | inl i ↦ inl (omega (arith, i.0, left_is, right_is, left_all, right_all), i.1)
            | inr i ↦ inr (omega (arith, i.0, left_is, right_is, left_all, right_all), i.1)
          ],
        );
  }

-- the left side was asked, since nothing of it waits, and ends
pub zipped_left_ends : (l r : List Element) (A B : Outcomes) (e : End) → l ≡ [] → A [] e → B [] Cut → Zipped (Behind l A) (Behind r B) [] e
zipped_left_ends l r A B e none a b = ([], r ++ [], e, Cut, ([], a, sym (append-nil l ∙ none)), ([], b, refl), refl, inl (omega arith, refl))

-- the right side was asked, of which nothing waits, since some of the left side does, and ends
pub zipped_right_ends : (l r : List Element) (A B : Outcomes) (g : End) → 0 < length l → r ≡ [] → A [] Cut → B [] g → Zipped (Behind l A) (Behind r B) [] g
zipped_right_ends l r A B g some none a b = (l ++ [], [], Cut, g, ([], a, refl), ([], b, sym (append-nil r ∙ none)), no_pairs (l ++ []), inr (omega (arith, some, ap length (append-nil l)), refl))
  where
    no_pairs : (xs : List Element) → [] ≡ pairs_of xs []
    no_pairs [] = refl
    no_pairs (x ∷ xs) = refl

-- only the left side gave some
pub by_zipped_left : (l r ls : List Element) (A A' B : Outcomes) → Leads ls A' A
    → Leads (pairs_of (l ++ ls) r) (Zipped (Behind (drop (length r) (l ++ ls)) A') (Behind (drop (length (l ++ ls)) r) B)) (Zipped (Behind l A) (Behind r B))
by_zipped_left l r ls A A' B f =
    subst (λ (q : List Element). Leads (pairs_of (l ++ ls) q) (Zipped (Behind (drop (length q) (l ++ ls)) A') (Behind (drop (length (l ++ ls)) q) B)) (Zipped (Behind l A) (Behind r B))) (append-nil r)
    (by_zipped l r ls [] A A' B B f (record { gives = λ ys e h. h }))

-- only the right side gave some
pub by_zipped_right : (l r rs : List Element) (A B B' : Outcomes) → Leads rs B' B
    → Leads (pairs_of l (r ++ rs)) (Zipped (Behind (drop (length (r ++ rs)) l) A) (Behind (drop (length l) (r ++ rs)) B')) (Zipped (Behind l A) (Behind r B))
by_zipped_right l r rs A B B' k =
    subst (λ (q : List Element). Leads (pairs_of q (r ++ rs)) (Zipped (Behind (drop (length (r ++ rs)) q) A) (Behind (drop (length q) (r ++ rs)) B')) (Zipped (Behind l A) (Behind r B))) (append-nil l)
    (by_zipped l r [] rs A A B B' (record { gives = λ ys e h. h }) k)

-- a side made a turn and gave nothing
pub by_zipped_same : (l r : List Element) (A A' B B' : Outcomes) → Leads [] A' A → Leads [] B' B → Leads [] (Zipped (Behind l A') (Behind r B')) (Zipped (Behind l A) (Behind r B))
by_zipped_same l r A A' B B' f k = record {
  gives = λ zs h (xs, ys, e, g, (us, a, ex), (vs, b, ey), ez, c). (xs, ys, e, g, (us, f.gives us e a, ex), (vs, k.gives vs g b, ey), ez, c);
}

-- one list is no longer than the other, or the other is shorter
compare : (xs ys : List Element) → (length xs ≤ length ys) ⊎ (length ys < length xs)
compare [] ys = inl (omega arith)
compare (x ∷ xs) [] = inr (omega arith)
compare (x ∷ xs) (y ∷ ys) = elim (compare xs ys) [ inl i ↦ inl (omega (arith, i)) | inr i ↦ inr (omega (arith, i)) ]

-- two sides that may be left have a run
pub zipped_stops : (l r : List Element) (A B : Outcomes) → A [] Cut → B [] Cut → HasRun (Zipped (Behind l A) (Behind r B))
zipped_stops l r A B a b =
    (pairs_of (l ++ []) (r ++ []), Cut, (l ++ [], r ++ [], Cut, Cut, ([], a, refl), ([], b, refl), refl, elim (compare (l ++ []) (r ++ [])) [ inl i ↦ inl (i, refl) | inr i ↦ inr (i, refl) ]))

-- before anything came
pub by_zipped_first : (A B : Outcomes) → Leads [] (Zipped (Behind [] A) (Behind [] B)) (Zipped A B)
by_zipped_first A B = record {
  gives = λ zs h (xs, ys, e, g, (us, a, ex), (vs, b, ey), ez, c). (xs, ys, e, g, subst (λ l. A l e) (sym ex) a, subst (λ l. B l g) (sym ey) b, ez, c);
}
