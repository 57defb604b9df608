-- A dealer's sides of all hands, of which one changes.
use Rattle.std.proofs.Math.Seq.{take-append_seam}
use Rattle.std.proofs.Common.{◌≡◌, ◌≢◌, ℕ, zero, suc, ◌+◌, ◌<◌, ◌≤◌, ◌⊎◌, List, [], ◌∷◌, ◌++◌, take, drop, length, get_or, Option, Some, None, Result, Ok, Err, inl, inr, slice_set, refl, sym, ap, ◌∙◌, subst, ⊎_elim, arith}
use Rattle.std.specs.Prelude.{IfErr, IfNone, IfOk, IfSome, OnErr, OnOk}
use Rattle.std.proofs.lemmas.Bool.{cases_eq}
use Rattle.std.proofs.lemmas.List.{length-set}
use Rattle.atomic_table.proofs.Lists.{at_index}
use Rattle.chunk_core.specs.Totals.{IsAt}
use Rattle.chunk_core.proofs.Places.{at_set}
use Rattle.chunk_core.proofs.Totals.{one_at, put_else, put_here}
use Rattle.par_eval.specs.Dealers.{IsDealerAt, LaneSeen, PostsAt, SendsEnds, posted, the_end}
use Rattle.par_eval.specs.Lanes.{LaneHubs}
use Rattle.par_eval.proofs.Places.{at_below}

pub at_exists : {A : Type 0} (xs : List A) (i : ℕ) → i < length xs → (x : A) × IsAt xs i x
at_exists [] i h = absurd (omega arith)
at_exists (x ∷ xs) zero h = (x, refl)
at_exists (x ∷ xs) (suc i) h = at_exists xs i (omega arith)

-- what is read at a place stands there
pub at_read : {A : Type 0} (xs : List A) (i : ℕ) (x : A) → i < length xs → x ≡ get_or xs i x → IsAt xs i (get_or xs i x)
at_read xs i x less is = subst (λ y. IsAt xs i y) is (at_index xs i x less is)

pub if_some : {A : Type 0} {P Q : A → Type 0} (o : Option A) → ((x : A) → P x → Q x) → IfSome o P → IfSome o Q
if_some (Some x) f p = f x p
if_some None f p = tt

pub if_none : {A : Type 0} {P Q : Type 0} (o : Option A) → (P → Q) → IfNone o P → IfNone o Q
if_none (Some x) f p = tt
if_none None f p = f p

pub on_ok : {T E : Type 0} {P Q : Type 0} (r : Result T E) → (P → Q) → OnOk r P → OnOk r Q
on_ok (Ok x) f p = f p
on_ok (Err e) f p = tt

pub on_err : {T E : Type 0} {P Q : Type 0} (r : Result T E) → (P → Q) → OnErr r P → OnErr r Q
on_err (Ok x) f p = tt
on_err (Err e) f p = f p

pub lane_there : (hubs : List LaneHubs) (lanes : List LaneSeen) (h : ℕ) → IsDealerAt hubs lanes → h < length lanes → (hub : LaneHubs) × IsAt hubs h hub
lane_there hubs lanes h at less = at_exists hubs h (subst (λ n. h < n) at.count less)

-- one lane changes, and its queues stay
pub stays_at : (hubs : List LaneHubs) (a : List LaneSeen) (h : ℕ) (lane after : LaneSeen) → IsDealerAt hubs a → IsAt a h lane → after.tasks.hub ≡ lane.tasks.hub → after.results.hub ≡ lane.results.hub → IsDealerAt hubs (slice_set a h after)
stays_at hubs a h lane after at place tasks results = record {
  count = length-set a h after ∙ at.count;
  places = λ i l hub g k. ⊎_elim
      (λ t. let e = at.places h lane hub place (subst (λ n. IsAt hubs n hub) t.0 k) in (ap (λ (x : LaneSeen). x.tasks.hub) (sym t.1) ∙ tasks ∙ e.0, ap (λ (x : LaneSeen). x.results.hub) (sym t.1) ∙ results ∙ e.1))
      (λ t. at.places i l hub t.1 k)
      (at_set a h i after l g);
}

-- ends are sent to one hand after another
pub no_ends : (m : ℕ) (a : List LaneSeen) → SendsEnds m m a a
no_ends m a = record { count = refl; sent = λ h lane at le less. absurd (omega arith); others = λ h lane at o. at }

pub one_more_end : (m n : ℕ) (a b c : List LaneSeen) → m ≤ n → SendsEnds m n a b → PostsAt the_end n b c → SendsEnds m (n + 1) a c
one_more_end m n a b c le s p = record {
  count = ap length p.2 ∙ length-set b n (posted p.0 the_end) ∙ s.count;
  sent = λ h lane at low high. ⊎_elim
      (λ e. let here : IsAt b h lane = s.others h lane at (inr (omega arith)) in
      let same : lane ≡ p.0 = one_at b n lane p.0 (subst (λ k. IsAt b k lane) e here) p.1 in
      subst (λ (l : List LaneSeen). IsAt l h (posted lane the_end)) (sym p.2) (subst (λ k. IsAt (slice_set b n (posted p.0 the_end)) k (posted lane the_end)) (sym e) (subst (λ (x : LaneSeen). IsAt (slice_set b n (posted p.0 the_end)) n (posted x the_end)) (sym same) (put_here b n p.0 (posted p.0 the_end) p.1))))
      (λ ne. subst (λ (l : List LaneSeen). IsAt l h (posted lane the_end)) (sym p.2) (put_else b n h (posted lane the_end) (posted p.0 the_end) ne (s.sent h lane at low (omega arith))))
      (cases_eq h n);
  others = λ h lane at o. subst (λ (l : List LaneSeen). IsAt l h lane) (sym p.2)
      (put_else b n h lane (posted p.0 the_end) (⊎_elim (λ (x : h < m) (e : h ≡ n). omega arith) (λ (x : n + 1 ≤ h) (e : h ≡ n). omega arith) o) (s.others h lane at (⊎_elim (λ x. inl x) (λ x. inr (omega arith)) o)));
}

-- each lane is as it was, or has its end
pub ends_back : (m n : ℕ) (a b : List LaneSeen) → SendsEnds m n a b → (h : ℕ) (after : LaneSeen) → IsAt b h after → (lane : LaneSeen) × IsAt a h lane × ((after ≡ lane) ⊎ (after ≡ posted lane the_end))
ends_back m n a b s h after at =
    let x = at_exists a h (subst (λ k. h < k) s.count (at_below b h after at)) in (
      x.0,
      x.1,
      ⊎_elim
          (λ low. inl (one_at b h after x.0 at (s.others h x.0 x.1 (inl low))))
          (λ low. ⊎_elim (λ high. inr (one_at b h after (posted x.0 the_end) at (s.sent h x.0 x.1 low high))) (λ high. inl (one_at b h after x.0 at (s.others h x.0 x.1 (inr high)))) (less_or h n))
          (less_or h m),
    )
  where
    less_or : (i j : ℕ) → (i < j) ⊎ (j ≤ i)
    less_or zero zero = inr (omega arith)
    less_or zero (suc j) = inl (omega arith)
    less_or (suc i) zero = inr (omega arith)
    less_or (suc i) (suc j) = ⊎_elim (λ x. inl (omega arith)) (λ x. inr (omega arith)) (less_or i j)

pub ends_at : (hubs : List LaneHubs) (m n : ℕ) (a b : List LaneSeen) → SendsEnds m n a b → IsDealerAt hubs a → IsDealerAt hubs b
ends_at hubs m n a b s at = record {
  count = s.count ∙ at.count;
  places = λ h after hub g k. let x = ends_back m n a b s h after g in let e = at.places h x.0 hub x.1 k in ⊎_elim
      (λ is. (ap (λ (l : LaneSeen). l.tasks.hub) is ∙ e.0, ap (λ (l : LaneSeen). l.results.hub) is ∙ e.1))
      (λ is. (ap (λ (l : LaneSeen). l.tasks.hub) is ∙ e.0, ap (λ (l : LaneSeen). l.results.hub) is ∙ e.1))
      x.2;
}

pub ends_open : (m n : ℕ) (a b : List LaneSeen) → SendsEnds m n a b → (h : ℕ) (after : LaneSeen) → IsAt b h after → ((lane : LaneSeen) → IsAt a h lane → lane.collected ≡ None) → after.collected ≡ None
ends_open m n a b s h after g uncollected = let x = ends_back m n a b s h after g in ⊎_elim
    (λ is. ap (λ (l : LaneSeen). l.collected) is ∙ uncollected x.0 x.1)
    (λ is. ap (λ (l : LaneSeen). l.collected) is ∙ uncollected x.0 x.1)
    x.2

-- a lane that the ends didn't reach is as it was
pub ends_else : (m n : ℕ) (a b : List LaneSeen) → SendsEnds m n a b → (h : ℕ) (after : LaneSeen) → IsAt b h after → n ≤ h → IsAt a h after
ends_else m n a b s h after g high =
    let x = at_exists a h (subst (λ k. h < k) s.count (at_below b h after g)) in
    subst (λ (l : LaneSeen). IsAt a h l) (one_at b h x.0 after (s.others h x.0 x.1 (inr high)) g) x.1

-- what comes back from a borrowed slice
pub back : (n : ℕ) (new old : List LaneSeen) → length new ≡ n → take n (new ++ drop (length new) old) ≡ new
back n new old e = ap (λ k. take k (new ++ drop (length new) old)) (sym e) ∙ take-append_seam new (drop (length new) old)

pub moved : (P : List LaneSeen → List LaneSeen → Type 0) (a x b y : List LaneSeen) → a ≡ x → b ≡ y → P a b → P x y
moved P a x b y e h p = subst (λ l. P l y) e (subst (λ l. P a l) h p)
