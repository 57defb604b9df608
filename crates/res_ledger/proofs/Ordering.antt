-- The test of the order is sound and complete.
use Rattle.std.proofs.Common.{◌≡◌, ◌≢◌, ℕ, Bool, true, false, cond, ◌&&◌, List, [], ◌∷◌, ◌++◌, reverse, ◌⊎◌, inl, inr, refl, sym, ap, ◌∙◌, subst, ⊎_elim, append_assoc, append-nil, ne_eqb, eq-eqb}
use Rattle.std.proofs.lemmas.Bool.{cases_eq, false≢true}
use Rattle.chunk_core.specs.Lists.{IsAmong, has}
use Rattle.std.specs.List.{list_all as all}
use Rattle.chunk_core.specs.Lists.IsAmong.{here, there}
use Rattle.chunk_core.specs.declared.code.Exit.{Exit}
use Rattle.chunk_core.specs.declared.code.Exit.TheVariants.{Succeeded}
use Rattle.res_ledger.specs.declared.event.StreamNo.{StreamNo}
use Rattle.res_ledger.specs.declared.event.What.{What}
use Rattle.res_ledger.specs.declared.event.What.TheVariants.{Cancel, Close, Final}
use Rattle.res_ledger.specs.declared.event.Event.{Event}
use Rattle.res_ledger.specs.Own.{own, teardown}
use Rattle.res_ledger.specs.Streams.{same_stream}
use Rattle.res_ledger.specs.Order.{Picks, IsInBlocks, finals, firsts, is_plain, covered, covered_by, passes_after, any_row, same_exit, is_in_blocks, is_in_order, is_ordered, IsInOrder, IsOrdered}
use Rattle.res_ledger.specs.Order.Picks.{none as nothing, pick, pass}
use Rattle.res_ledger.specs.Order.IsInBlocks.{none, plain, close, cancel}
use Rattle.res_ledger.proofs.Blocks.{picks_map}
use Rattle.res_ledger.proofs.Tests.{exit_is, exit_same, name}
use Rattle.chunk_core.proofs.Bools.{both, and_true, all_at, each_passes}

picks_none : (m : ℕ → Bool) (xs : List ℕ) → all m xs ≡ true → Picks (λ r. m r ≡ true) [] xs
picks_none m [] h = nothing
picks_none m (x ∷ xs) h = let t = both (m x) (all m xs) h in pass x t.0 (picks_none m xs t.1)

after_sound : (m : ℕ → Bool) (r : ℕ) (xs : List ℕ) (go : List ℕ → Bool) → passes_after m r xs go ≡ true → (ys : List ℕ) × (go ys ≡ true) × ((zs : List ℕ) → Picks (λ q. m q ≡ true) zs ys → Picks (λ q. m q ≡ true) (r ∷ zs) xs)
after_sound m r [] go h = absurd (false≢true h)
after_sound m r (y ∷ ys) go h =
    ⊎_elim
    (λ e. (ys, ap (λ b. cond b (go ys) (m y && passes_after m r ys go)) (sym (eq-eqb y r e)) ∙ h, λ zs p. subst (λ z. Picks (λ q. m q ≡ true) (z ∷ zs) (y ∷ ys)) e (pick y p)))
    (λ ne. let g = both (m y) (passes_after m r ys go) (ap (λ b. cond b (go ys) (m y && passes_after m r ys go)) (sym (ne_eqb y r ne)) ∙ h) in let t = after_sound m r ys go g.1 in (t.0, t.1, λ zs p. pass y g.0 (t.2 zs p)))
    (cases_eq y r)

nil_of : {may : ℕ → Type 0} (fs : List (ℕ × Bool)) → Picks may (firsts fs) [] → fs ≡ []
nil_of [] p = refl
nil_of (f ∷ fs) p = absurd (elim p [ ])

module _ (may : ℕ → Bool) (due : ℕ → List ℕ) where
  -- E, standing after A, is Finals of xs with the exit x and then blocks
  abbrev Reads : List What → Exit → (ℕ → Bool) → List ℕ → List What → Type 0
  Reads A x m xs E = (fs : List (ℕ × Bool)) × (R : List What) × (E ≡ finals x fs ++ R) × Picks (λ q. m q ≡ true) (firsts fs) xs × IsInBlocks (λ q. may q ≡ true) due (A ++ finals x fs) R

  -- blocks that no Final stands before
  begun : (A E : List What) (x : Exit) (m : ℕ → Bool) (xs : List ℕ) → all m xs ≡ true → IsInBlocks (λ q. may q ≡ true) due A E → Reads A x m xs E
  begun A E x m xs h b = ([], E, refl, picks_none m xs h, subst (λ l. IsInBlocks (λ q. may q ≡ true) due l E) (sym (append-nil A)) b)

  plain_reads : (A E : List What) (x : Exit) (w : What) → is_plain w ≡ true → Reads (A ++ w ∷ []) x any_row [] E → IsInBlocks (λ q. may q ≡ true) due A (w ∷ E)
  plain_reads A E x w p t =
      let z = nil_of t.0 t.3 in
      let b : IsInBlocks (λ q. may q ≡ true) due (A ++ w ∷ []) t.1 = subst (λ l. IsInBlocks (λ q. may q ≡ true) due l t.1) (ap (λ fs. (A ++ w ∷ []) ++ finals x fs) z ∙ append-nil (A ++ w ∷ [])) t.4 in
      let e : E ≡ t.1 = t.2 ∙ ap (λ fs. finals x fs ++ t.1) z in
      plain A E w p (subst (λ l. IsInBlocks (λ q. may q ≡ true) due (A ++ w ∷ []) l) (sym e) b)

  cancel_reads : (A E : List What) (j : ℕ) (x : Exit) → Reads (A ++ Cancel j x ∷ []) x any_row (due j) E → IsInBlocks (λ q. may q ≡ true) due A (Cancel j x ∷ E)
  cancel_reads A E j x r =
      subst (λ l. IsInBlocks (λ q. may q ≡ true) due A (Cancel j x ∷ l)) (sym r.2)
      (cancel A r.1 j x r.0 (picks_map (λ q i. tt) r.3) (subst (λ l. IsInBlocks (λ q. may q ≡ true) due l r.1) (append_assoc A (Cancel j x ∷ []) (finals x r.0)) r.4))

  close_reads : (A E : List What) (s : ℕ) (x : Exit) → Reads (A ++ Close s x ∷ []) x may (teardown A s) E → IsInBlocks (λ q. may q ≡ true) due A (Close s x ∷ E)
  close_reads A E s x r =
      subst (λ l. IsInBlocks (λ q. may q ≡ true) due A (Close s x ∷ l)) (sym r.2)
      (close A r.1 s x r.0 r.3 (subst (λ l. IsInBlocks (λ q. may q ≡ true) due l r.1) (append_assoc A (Close s x ∷ []) (finals x r.0)) r.4))

  pub runs_sound : (E A : List What) (x : Exit) (m : ℕ → Bool) (xs : List ℕ) → is_in_blocks may due A x m xs E ≡ true → Reads A x m xs E
  runs_sound [] A x m xs h = begun A [] x m xs h (none A)
  runs_sound (Cancel j y ∷ E) A x m xs h =
      let t = both (all m xs) (is_in_blocks may due (A ++ Cancel j y ∷ []) y any_row (due j) E) h in
      begun A (Cancel j y ∷ E) x m xs t.0 (cancel_reads A E j y (runs_sound E (A ++ Cancel j y ∷ []) y any_row (due j) t.1))
  runs_sound (Close s y ∷ E) A x m xs h =
      let t = both (all m xs) (is_in_blocks may due (A ++ Close s y ∷ []) y may (teardown A s) E) h in
      begun A (Close s y ∷ E) x m xs t.0 (close_reads A E s y (runs_sound E (A ++ Close s y ∷ []) y may (teardown A s) t.1))
  runs_sound (Final r y ok ∷ E) A x m xs h =
      let g = both (same_exit y x) (passes_after m r xs (λ ys. is_in_blocks may due (A ++ Final r y ok ∷ []) x m ys E)) h in
      let t = after_sound m r xs (λ ys. is_in_blocks may due (A ++ Final r y ok ∷ []) x m ys E) g.1 in
      let i = runs_sound E (A ++ Final r y ok ∷ []) x m t.0 t.1 in
      let same : Final r y ok ≡ Final r x ok = ap (λ z. Final r z ok) (exit_is y x g.0) in
      let f : ℕ × Bool = (r, ok) in
      let b : IsInBlocks (λ q. may q ≡ true) due (A ++ Final r y ok ∷ finals x i.0) i.1 = subst (λ l. IsInBlocks (λ q. may q ≡ true) due l i.1) (append_assoc A (Final r y ok ∷ []) (finals x i.0)) i.4 in
      (f ∷ i.0, i.1, ap (λ l. Final r y ok ∷ l) i.2 ∙ ap (λ v. v ∷ (finals x i.0 ++ i.1)) same, t.2 (firsts i.0) i.3, subst (λ v. IsInBlocks (λ q. may q ≡ true) due (A ++ v ∷ finals x i.0) i.1) same b)
  runs_sound (w ∷ E) A x m xs h =
      let t = both (all m xs) (is_in_blocks may due (A ++ w ∷ []) x any_row [] E) h in
      begun A (w ∷ E) x m xs t.0 (plain_reads A E x w refl (runs_sound E (A ++ w ∷ []) x any_row [] t.1))

-- the test of one stream is sound
pub in_order_sound : (L : List Event) (k : StreamNo) → is_in_order L k ≡ true → IsInOrder L k
in_order_sound L k h =
    let t = runs_sound (λ r. has r (covered L)) (λ j. reverse (covered_by L j)) (own k L) [] Succeeded any_row [] h in
    let z = nil_of t.0 t.3 in
    subst (λ l. IsInBlocks (λ r. has r (covered L) ≡ true) (λ j. reverse (covered_by L j)) [] l) (sym (t.2 ∙ ap (λ fs. finals Succeeded fs ++ t.1) z))
    (subst (λ l. IsInBlocks (λ r. has r (covered L) ≡ true) (λ j. reverse (covered_by L j)) l t.1) (ap (finals Succeeded) z) t.4)

-- what a pick or a pass says of the first row
passed : (m : ℕ → Bool) (x : ℕ) (xs : List ℕ) → Picks (λ q. m q ≡ true) [] (x ∷ xs) → (m x ≡ true) × Picks (λ q. m q ≡ true) [] xs
passed m x xs (pass y h p) = (h, p)

drop_head : {m : ℕ → Bool} {r : ℕ} {zs ys : List ℕ} → m r ≡ true → Picks (λ q. m q ≡ true) (r ∷ zs) ys → Picks (λ q. m q ≡ true) zs ys
drop_head h (pick x p) = pass x h p
drop_head h (pass y g p) = pass y g (drop_head h p)

skip_first : (m : ℕ → Bool) (r x : ℕ) (zs xs : List ℕ) → x ≡ r → Picks (λ q. m q ≡ true) (r ∷ zs) (x ∷ xs) → Picks (λ q. m q ≡ true) zs xs
skip_first m r x zs xs e (pick y p) = p
skip_first m r x zs xs e (pass y h p) = drop_head (ap m (sym e) ∙ h) p

must_pass : (m : ℕ → Bool) (r x : ℕ) (zs xs : List ℕ) → x ≢ r → Picks (λ q. m q ≡ true) (r ∷ zs) (x ∷ xs) → (m x ≡ true) × Picks (λ q. m q ≡ true) (r ∷ zs) xs
must_pass m r x zs xs ne (pick y p) = absurd (ne refl)
must_pass m r x zs xs ne (pass y h p) = (h, p)

all_of : (m : ℕ → Bool) (xs : List ℕ) → Picks (λ q. m q ≡ true) [] xs → all m xs ≡ true
all_of m [] p = refl
all_of m (x ∷ xs) p = let t = passed m x xs p in ap (λ b. b && all m xs) t.0 ∙ all_of m xs t.1

after_here : (m : ℕ → Bool) (r y : ℕ) (ys : List ℕ) (go : List ℕ → Bool) → y ≡ r → go ys ≡ true → passes_after m r (y ∷ ys) go ≡ true
after_here m r y ys go e g = ap (λ b. cond b (go ys) (m y && passes_after m r ys go)) (eq-eqb y r e) ∙ g

after_next : (m : ℕ → Bool) (r y : ℕ) (ys : List ℕ) (go : List ℕ → Bool) → y ≢ r → m y ≡ true → passes_after m r ys go ≡ true → passes_after m r (y ∷ ys) go ≡ true
after_next m r y ys go ne h g = ap (λ b. cond b (go ys) (m y && passes_after m r ys go)) (ne_eqb y r ne) ∙ ap (λ b. b && passes_after m r ys go) h ∙ g

after_complete : (m : ℕ → Bool) (r : ℕ) (zs xs : List ℕ) (go : List ℕ → Bool) → ((ys : List ℕ) → Picks (λ q. m q ≡ true) zs ys → go ys ≡ true) → Picks (λ q. m q ≡ true) (r ∷ zs) xs → passes_after m r xs go ≡ true
after_complete m r zs [] go k p = absurd (elim p [ ])
after_complete m r zs (x ∷ xs) go k p =
    ⊎_elim
    (λ e. after_here m r x xs go e (k xs (skip_first m r x zs xs e p)))
    (λ ne. let t = must_pass m r x zs xs ne p in after_next m r x xs go ne t.0 (after_complete m r zs xs go k t.1))
    (cases_eq x r)

module _ (may : ℕ → Bool) (due : ℕ → List ℕ) where
  after_finals : (R : List What) (x : Exit) (fs : List (ℕ × Bool)) (A B : List What) (m : ℕ → Bool) (xs : List ℕ) → A ≡ B ++ finals x fs → ((m : ℕ → Bool) (xs : List ℕ) → Picks (λ q. m q ≡ true) [] xs → is_in_blocks may due A x m xs R ≡ true) → Picks (λ q. m q ≡ true) (firsts fs) xs → is_in_blocks may due B x m xs (finals x fs ++ R) ≡ true
  after_finals R x [] A B m xs e k p = subst (λ l. is_in_blocks may due l x m xs R ≡ true) (e ∙ append-nil B) (k m xs p)
  after_finals R x (f ∷ fs) A B m xs e k p =
      let go : List ℕ → Bool = λ ys. is_in_blocks may due (B ++ Final f.0 x f.1 ∷ []) x m ys (finals x fs ++ R) in
      and_true (same_exit x x) (passes_after m f.0 xs go) (exit_same x)
      (after_complete m f.0 (firsts fs) xs go (λ ys q. after_finals R x fs A (B ++ Final f.0 x f.1 ∷ []) m ys (e ∙ sym (append_assoc B (Final f.0 x f.1 ∷ []) (finals x fs))) k q) p)

  plain_complete : (A E : List What) (w : What) (x : Exit) (m : ℕ → Bool) (xs : List ℕ) → is_plain w ≡ true → all m xs ≡ true → is_in_blocks may due (A ++ w ∷ []) x any_row [] E ≡ true → is_in_blocks may due A x m xs (w ∷ E) ≡ true
  plain_complete A E (Cancel j y) x m xs i h g = absurd (false≢true i)
  plain_complete A E (Close s y) x m xs i h g = absurd (false≢true i)
  plain_complete A E (Final r y ok) x m xs i h g = absurd (false≢true i)
  plain_complete A E w x m xs i h g = and_true (all m xs) (is_in_blocks may due (A ++ w ∷ []) x any_row [] E) h g

  pub runs_complete : {A R : List What} → IsInBlocks (λ q. may q ≡ true) due A R → (x : Exit) (m : ℕ → Bool) (xs : List ℕ) → Picks (λ q. m q ≡ true) [] xs → is_in_blocks may due A x m xs R ≡ true
  runs_complete (none A) x m xs p = all_of m xs p
  runs_complete (plain A E w i b) x m xs p = plain_complete A E w x m xs i (all_of m xs p) (runs_complete b x any_row [] nothing)
  runs_complete (close A E s y fs q b) x m xs p =
      and_true (all m xs) (is_in_blocks may due (A ++ Close s y ∷ []) y may (teardown A s) (finals y fs ++ E)) (all_of m xs p)
      (after_finals E y fs (A ++ Close s y ∷ finals y fs) (A ++ Close s y ∷ []) may (teardown A s) (sym (append_assoc A (Close s y ∷ []) (finals y fs))) (runs_complete b y) q)
  runs_complete (cancel A E j y fs q b) x m xs p =
      and_true (all m xs) (is_in_blocks may due (A ++ Cancel j y ∷ []) y any_row (due j) (finals y fs ++ E)) (all_of m xs p)
      (after_finals E y fs (A ++ Cancel j y ∷ finals y fs) (A ++ Cancel j y ∷ []) any_row (due j) (sym (append_assoc A (Cancel j y ∷ []) (finals y fs))) (runs_complete b y) (picks_map (λ r i. refl) q))

-- the test of one stream is complete
pub in_order_complete : (L : List Event) (k : StreamNo) → IsInOrder L k → is_in_order L k ≡ true
in_order_complete L k b = runs_complete (λ r. has r (covered L)) (λ j. reverse (covered_by L j)) b Succeeded any_row [] nothing

own_step : (k : StreamNo) (e : Event) (L : List Event) (b : Bool) → same_stream e.by k ≡ b → ((x : Event) × IsAmong x L × (x.by ≡ k)) ⊎ (own k L ≡ []) → ((x : Event) × IsAmong x (e ∷ L) × (x.by ≡ k)) ⊎ (own k (e ∷ L) ≡ [])
own_step k e L true t r = inl (e, here L, name e.by k t)
own_step k e L false t r = ⊎_elim (λ f. inl (f.0, there e f.1, f.2)) (λ z. inr (ap (λ b. cond b (e.what ∷ own k L) (own k L)) t ∙ z)) r

-- a stream noted something, or its list is empty
own_none_or : (k : StreamNo) (L : List Event) → ((e : Event) × IsAmong e L × (e.by ≡ k)) ⊎ (own k L ≡ [])
own_none_or k [] = inr refl
own_none_or k (e ∷ L) = own_step k e L (same_stream e.by k) refl (own_none_or k L)

-- the test is sound
pub ordered_sound : (L : List Event) → is_ordered L ≡ true → IsOrdered L
ordered_sound L h k = ⊎_elim
    (λ f. in_order_sound L k (subst (λ q. is_in_order L q ≡ true) f.2 (all_at (λ e. is_in_order L e.by) f.0 L f.1 h)))
    (λ z. subst (λ l. IsInBlocks (λ r. has r (covered L) ≡ true) (λ j. reverse (covered_by L j)) [] l) (sym z) (none []))
    (own_none_or k L)

-- the test is complete
pub ordered_complete : (L : List Event) → IsOrdered L → is_ordered L ≡ true
ordered_complete L o = each_passes (λ e. is_in_order L e.by) L (λ e m. in_order_complete L e.by (o e.by))
