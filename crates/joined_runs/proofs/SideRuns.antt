-- Runs that may have been left, beside runs in which nothing is left, where two parts come one after the other or side by side.
use Rattle.std.proofs.Common.{◌≡◌, ◌≢◌, ◌⊎◌, ℕ, ◌<◌, ◌≤◌, List, [], ◌∷◌, ◌++◌, inl, inr, length, refl, sym, ◌∙◌, ap, subst, ⊎_elim, arith, length-append}
use Rattle.std.specs.List.{zip}
use Rattle.chunk_core.specs.Elements.{Element}
use Rattle.chunk_core.specs.Outcomes.{End, Done, Fault, Cut, Outcomes}
use Rattle.pull_nodes.specs.Pairs.{pair_of, pairs_of}
use Rattle.pull_nodes.specs.Plain.{IsFront}
use Rattle.pull_nodes.specs.Runs.{Beside, EndsTogether, Follows, IsFault, IsInterleaving, Merged, OrLeft, Zipped}
use Rattle.pull_nodes.proofs.Fronts.{front_append, front_cons, front_map}
use Rattle.joined_runs.proofs.Reading.{fault_cut, fault_done}
use Rattle.joined_runs.proofs.StepRuns.{IsFrontOfRun, Nears, done_cut, front_then, left_nears}

-- One after the other.

-- after an end that isn't a fault, or that is one
pub fault_or_not : (g : End) → IsFault g ⊎ (IsFault g → ⊥)
fault_or_not Done = inr (λ f. f)
fault_or_not (Fault c) = inl tt
fault_or_not Cut = inr (λ f. f)

pub fault_not_cut : (g : End) → IsFault g → g ≢ Cut
fault_not_cut Done f e = f
fault_not_cut (Fault c) f e = fault_cut c e
fault_not_cut Cut f e = f

pub done_or_not : (g : End) → (g ≡ Done) ⊎ (g ≡ Done → ⊥)
done_or_not Done = inl refl
done_or_not (Fault c) = inr (λ e. fault_done c e)
done_or_not Cut = inr (λ e. done_cut (sym e))

pub done_not_cut : (g : End) → g ≡ Done → g ≢ Cut
done_not_cut g d e = done_cut (sym d ∙ e)

module _ (Begins : End → Type 0) (begins : (g : End) → Begins g ⊎ (Begins g → ⊥)) (not_cut : (g : End) → Begins g → g ≢ Cut) (A B I J : Outcomes) (IdleB IdleJ : Type 0) (a : Nears A I) (b : Nears B J) (idle : IdleJ) where
  -- a front of what the first part gives goes on with what the second one gives
  then_some : (ys zs : List Element) (g : End) → I zs g → IsFront ys zs → Begins g ⊎ (Begins g → ⊥) → IsFrontOfRun (Follows Begins I J IdleJ) ys
  then_some ys zs g r f (inl k) = let s = b.some in (zs ++ s.0, s.1, inr (zs, s.0, g, r, k, s.2, refl), front_then ys zs (zs ++ s.0) f (s.0, refl))
  then_some ys zs g r f (inr k) = (zs, g, inl (r, k, idle), f)

  pub follows_nears : Nears (Follows Begins A B IdleB) (Follows Begins I J IdleJ)
  follows_nears = record { some = some; whole = whole; front = front }
    where
      some : (zs : List Element) × (g : End) × Follows Begins I J IdleJ zs g
      some = let s = a.some in let f = then_some [] s.0 s.1 s.2 (s.0, refl) (begins s.1) in (f.0, f.1, f.2)

      whole : (ys : List Element) (e : End) → Follows Begins A B IdleB ys e → e ≢ Cut → Follows Begins I J IdleJ ys e
      whole ys e (inl r) n = inl (a.whole ys e r.0 n, r.1, idle)
      whole ys e (inr (xs, zs, g, r, k, q, is)) n = inr (xs, zs, g, a.whole xs g r (not_cut g k), k, b.whole zs e q n, is)

      front : (ys : List Element) (e : End) → Follows Begins A B IdleB ys e → IsFrontOfRun (Follows Begins I J IdleJ) ys
      front ys e (inl r) = let f = a.front ys e r.0 in then_some ys f.0 f.1 f.2 f.3 (begins f.1)
      front ys e (inr (xs, zs, g, r, k, q, is)) =
          let f = b.front zs e q in
          (xs ++ f.0, f.1, inr (xs, f.0, g, a.whole xs g r (not_cut g k), k, f.2, refl), subst (λ l. IsFront l (xs ++ f.0)) (sym is) (front_append xs zs f.0 f.3))

-- Side by side, in pairs.

pub pairs_front : (xs us ys vs : List Element) → IsFront (pairs_of xs ys) (pairs_of (xs ++ us) (ys ++ vs))
pairs_front xs us ys vs = front_map pair_of (zip xs ys) (zip (xs ++ us) (ys ++ vs)) (zip_front xs ys)
  where
    zip_front : (xs ys : List Element) → IsFront (zip xs ys) (zip (xs ++ us) (ys ++ vs))
    zip_front [] ys = (zip us (ys ++ vs), refl)
    zip_front (x ∷ xs) [] = (zip (x ∷ (xs ++ us)) vs, refl)
    zip_front (x ∷ xs) (y ∷ ys) = let p : Element × Element = (x, y) in front_cons p (zip xs ys) (zip (xs ++ us) (ys ++ vs)) (zip_front xs ys)

-- what one side has more than the other isn't paired
pub pairs_more : (xs ys vs : List Element) → length xs ≤ length ys → pairs_of xs (ys ++ vs) ≡ pairs_of xs ys
pairs_more [] ys vs l = refl
pairs_more (x ∷ xs) [] vs l = absurd (omega arith)
pairs_more (x ∷ xs) (y ∷ ys) vs l = let p : Element × Element = (x, y) in ap (λ ps. pair_of p ∷ ps) (pairs_more xs ys vs (omega arith))

pub pairs_longer : (xs us ys : List Element) → length ys ≤ length xs → pairs_of (xs ++ us) ys ≡ pairs_of xs ys
pairs_longer [] [] [] l = refl
pairs_longer [] (u ∷ us) [] l = refl
pairs_longer [] us (y ∷ ys) l = absurd (omega arith)
pairs_longer (x ∷ xs) us [] l = refl
pairs_longer (x ∷ xs) us (y ∷ ys) l = let p : Element × Element = (x, y) in ap (λ ps. pair_of p ∷ ps) (pairs_longer xs us ys (omega arith))

module _ (A B I J : Outcomes) (a : Nears A I) (b : Nears B J) where
  within_or : (m n : ℕ) → (m ≤ n) ⊎ (n < m)
  within_or m n = grind arith

  zip_front_of : (xs ys : List Element) → IsFrontOfRun I xs → IsFrontOfRun J ys → IsFrontOfRun (Zipped I J) (pairs_of xs ys)
  zip_front_of xs ys f g =
      let same : IsFront (pairs_of xs ys) (pairs_of f.0 g.0) = subst (λ l. IsFront (pairs_of xs ys) (pairs_of l g.0)) (sym f.3.1) (subst (λ l. IsFront (pairs_of xs ys) (pairs_of (xs ++ f.3.0) l)) (sym g.3.1) (pairs_front xs f.3.0 ys g.3.0)) in
      ⊎_elim
      (λ (l : length f.0 ≤ length g.0). (pairs_of f.0 g.0, f.1, (f.0, g.0, f.1, g.1, f.2, g.2, refl, inl (l, refl)), same))
      (λ (l : length g.0 < length f.0). (pairs_of f.0 g.0, g.1, (f.0, g.0, f.1, g.1, f.2, g.2, refl, inr (l, refl)), same))
      (within_or (length f.0) (length g.0))

  pub zip_nears : Nears (Zipped A B) (Zipped I J)
  zip_nears = record { some = some; whole = whole; front = front }
    where
      some : (zs : List Element) × (g : End) × Zipped I J zs g
      some =
          let s = a.some in
          let t = b.some in
          let f = zip_front_of [] [] (s.0, s.1, s.2, (s.0, refl)) (t.0, t.1, t.2, (t.0, refl)) in
          (f.0, f.1, f.2)

      whole : (zs : List Element) (h : End) → Zipped A B zs h → h ≢ Cut → Zipped I J zs h
      whole zs h (xs, ys, e, g, r, q, is, inl (l, ends)) n =
          let f = b.front ys g q in
          let long = ap length f.3.1 in
          let sum = length-append ys f.3.0 in
          (xs, f.0, e, f.1, a.whole xs e r (λ c. n (ends ∙ c)), f.2, is ∙ (sym (pairs_more xs ys f.3.0 l) ∙ ap (λ k. pairs_of xs k) (sym f.3.1)), inl (omega (arith, l, long, sum), ends))
      whole zs h (xs, ys, e, g, r, q, is, inr (l, ends)) n =
          let f = a.front xs e r in
          let long = ap length f.3.1 in
          let sum = length-append xs f.3.0 in
          (f.0, ys, f.1, g, f.2, b.whole ys g q (λ c. n (ends ∙ c)), is ∙ (sym (pairs_longer xs f.3.0 ys (omega (arith, l))) ∙ ap (λ k. pairs_of k ys) (sym f.3.1)), inr (omega (arith, l, long, sum), ends))

      front : (zs : List Element) (h : End) → Zipped A B zs h → IsFrontOfRun (Zipped I J) zs
      front zs h (xs, ys, e, g, r, q, is, ends) = subst (λ l. IsFrontOfRun (Zipped I J) l) (sym is) (zip_front_of xs ys (a.front xs e r) (b.front ys g q))

-- Side by side, as they come.

-- the one behind the other is an interleaving of the two
weave_all : (xs ys : List Element) → IsInterleaving xs ys (xs ++ ys)
weave_all [] [] = (refl, refl)
weave_all [] (y ∷ ys) = inr (ys, refl, weave_all [] ys)
weave_all (x ∷ xs) ys = inl (xs, refl, weave_all xs ys)

-- what comes behind both comes behind their interleaving
weave_more : (xs us ys vs zs : List Element) → IsInterleaving xs ys zs → IsInterleaving (xs ++ us) (ys ++ vs) (zs ++ (us ++ vs))
weave_more xs us ys vs [] w = subst (λ l. IsInterleaving (l ++ us) (ys ++ vs) (us ++ vs)) (sym w.0) (subst (λ l. IsInterleaving us (l ++ vs) (us ++ vs)) (sym w.1) (weave_all us vs))
weave_more xs us ys vs (z ∷ zs) (inl (more, is, w)) = inl (more ++ us, ap (λ l. l ++ us) is, weave_more more us ys vs zs w)
weave_more xs us ys vs (z ∷ zs) (inr (more, is, w)) = inr (more ++ vs, ap (λ l. l ++ vs) is, weave_more xs us more vs zs w)

-- two sides come to an end together
together : (e g : End) → (h : End) × EndsTogether e g h
together Done Done = (Done, (refl, refl))
together Done (Fault c) = (Fault c, inr refl)
together Done Cut = (Cut, (inr refl, (λ f. f), (λ f. f)))
together (Fault c) g = (Fault c, inl refl)
together Cut Done = (Cut, (inl refl, (λ f. f), (λ f. f)))
together Cut (Fault c) = (Fault c, inr refl)
together Cut Cut = (Cut, (inl refl, (λ f. f), (λ f. f)))

cut_or_not : (e : End) → (e ≡ Cut) ⊎ (e ≢ Cut)
cut_or_not Done = inr (λ k. done_cut k)
cut_or_not (Fault c) = inr (λ k. fault_cut c k)
cut_or_not Cut = inl refl

-- one side, which was left only beside a fault
module _ (A I : Outcomes) (IdleA IdleI : Type 0) (a : Nears A I) where
  -- a front is a run that was left
  left_of : (xs : List Element) → IsFrontOfRun I xs → OrLeft IdleI I xs Cut
  left_of xs f = inr (refl, inr (f.3.0, f.1, subst (λ l. I l f.1) f.3.1 f.2))

  side_front : (g : End) (xs : List Element) (e : End) → Beside g A IdleA xs e → IsFrontOfRun I xs
  side_front g xs e (inl r) = a.front xs e r
  side_front g xs e (inr (f, r)) = (left_nears IdleA A I a).front xs e r

  side_whole : (g : End) (xs : List Element) (e : End) → (e ≡ Cut → IsFault g) → Beside g A IdleA xs e → Beside g I IdleI xs e
  side_whole g xs e beside r =
      ⊎_elim
      (λ c. inr (beside c, subst (λ k. OrLeft IdleI I xs k) (sym c) (left_of xs (side_front g xs e r))))
      (λ n. inl ((left_nears IdleA A I a).whole xs e (as_left r) n))
      (cut_or_not e)
    where
      as_left : Beside g A IdleA xs e → OrLeft IdleA A xs e
      as_left (inl q) = inl q
      as_left (inr q) = q.1

module _ (A B I J : Outcomes) (IdleA IdleB IdleI IdleJ : Type 0) (a : Nears A I) (b : Nears B J) where
  merge_front_of : (xs ys zs : List Element) → IsInterleaving xs ys zs → IsFrontOfRun I xs → IsFrontOfRun J ys → IsFrontOfRun (Merged I IdleI J IdleJ) zs
  merge_front_of xs ys zs w f g =
      let h = together f.1 g.1 in
      let more = f.3.0 ++ g.3.0 in
      let woven : IsInterleaving f.0 g.0 (zs ++ more) = subst (λ l. IsInterleaving l g.0 (zs ++ more)) (sym f.3.1) (subst (λ l. IsInterleaving (xs ++ f.3.0) l (zs ++ more)) (sym g.3.1) (weave_more xs f.3.0 ys g.3.0 zs w)) in
      (zs ++ more, h.0, (f.0, g.0, f.1, g.1, inl f.2, inl g.2, woven, h.1), (more, refl))

  pub merge_nears : Nears (Merged A IdleA B IdleB) (Merged I IdleI J IdleJ)
  merge_nears = record { some = some; whole = whole; front = front }
    where
      some : (zs : List Element) × (g : End) × Merged I IdleI J IdleJ zs g
      some =
          let s = a.some in
          let t = b.some in
          let f = merge_front_of [] [] [] (refl, refl) (s.0, s.1, s.2, (s.0, refl)) (t.0, t.1, t.2, (t.0, refl)) in
          (f.0, f.1, f.2)

      whole_of : (xs ys zs : List Element) (e g h : End) → (e ≡ Cut → IsFault g) → (g ≡ Cut → IsFault e) → Beside g A IdleA xs e → Beside e B IdleB ys g → IsInterleaving xs ys zs → EndsTogether e g h → Merged I IdleI J IdleJ zs h
      whole_of xs ys zs e g h m n r q w ends = (xs, ys, e, g, side_whole A I IdleA IdleI a g xs e m r, side_whole B J IdleB IdleJ b e ys g n q, w, ends)

      whole : (zs : List Element) (h : End) → Merged A IdleA B IdleB zs h → h ≢ Cut → Merged I IdleI J IdleJ zs h
      whole zs Done (xs, ys, e, g, r, q, w, ends) n = whole_of xs ys zs e g Done (λ c. absurd (done_cut (sym ends.0 ∙ c))) (λ c. absurd (done_cut (sym ends.1 ∙ c))) r q w ends
      whole zs (Fault c) (xs, ys, e, g, r, q, w, inl ends) n = whole_of xs ys zs e g (Fault c) (λ k. absurd (fault_cut c (sym ends ∙ k))) (λ k. subst (λ x. IsFault x) (sym ends) tt) r q w (inl ends)
      whole zs (Fault c) (xs, ys, e, g, r, q, w, inr ends) n = whole_of xs ys zs e g (Fault c) (λ k. subst (λ x. IsFault x) (sym ends) tt) (λ k. absurd (fault_cut c (sym ends ∙ k))) r q w (inr ends)
      whole zs Cut r n = absurd (n refl)

      front : (zs : List Element) (h : End) → Merged A IdleA B IdleB zs h → IsFrontOfRun (Merged I IdleI J IdleJ) zs
      front zs h (xs, ys, e, g, r, q, w, ends) = merge_front_of xs ys zs w (side_front A I IdleA IdleI a g xs e r) (side_front B J IdleB IdleJ b e ys g q)
