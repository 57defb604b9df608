-- Of nothing nothing was printed; and which ends are told.
use Rattle.std.proofs.Common.{◌≡◌, ℕ, zero, suc, ◌+◌, ◌<◌, ◌≤◌, Bool, inl, inr, true, false, List, [], ◌∷◌, ◌++◌, length, is_some, slice_index_or, Option, Some, None, refl, sym, ap, ◌∙◌, subst, ⊎_elim, arith}
use Rattle.std.proofs.lemmas.Bool.{cases_lt, false≢true}
use mathlib.Core.Option.{some, some-injective, some-ne-none}
use Rattle.chunk_core.proofs.Members.{among_nil}
use Rattle.chunk_core.specs.Totals.{IsAt}
use Rattle.chunk_core.specs.declared.code.How.{How}
use Rattle.device_port.specs.Sink.{SinkTold}
use Rattle.device_port.proofs.Puts.{with_bytes_none}
use Rattle.tee_prints.specs.Printed.{IsStop, MustStop, Prints}

-- so many ends, none of which is told
pub record Untold (n : ℕ) (ends : List (Option How)) : Type 0 where
  pub count : length ends ≡ n
  pub none : (i : ℕ) (h : How) → IsAt ends i (Some h) → ⊥

none_at : (l : List (Option How)) (i : ℕ) (h : How) → IsAt (l ++ None ∷ []) i (Some h) → IsAt l i (Some h)
none_at [] zero h e = absurd (let is : None ≡ Some h = some-injective None (Some h) e in cc)
none_at [] (suc i) h e = absurd (some-ne-none (Some h) (sym e))
none_at (x ∷ xs) zero h e = e
none_at (x ∷ xs) (suc i) h e = none_at xs i h e

count_more : (l : List (Option How)) → length (l ++ None ∷ []) ≡ length l + 1
count_more [] = refl
count_more (x ∷ xs) = let h = count_more xs in omega arith

pub none_yet : Untold 0 []
none_yet = record { count = refl; none = λ i h e. some-ne-none (Some h) (sym e) }

pub none_more : (n : ℕ) (l : List (Option How)) → Untold n l → Untold (n + 1) (l ++ None ∷ [])
none_more n l u = record { count = count_more l ∙ ap (λ k. k + 1) u.count; none = λ i h e. u.none i h (none_at l i h e) }

pub begins : (n k : ℕ) (sink : SinkTold) (ends : List (Option How)) → Untold k ends → k ≡ n → Prints n sink sink [] ends false
begins n k sink ends u e = record {
  printed = [];
  writes = (refl, sym (with_bytes_none sink));
  branches = u.count ∙ e;
  told = λ i h t. absurd (u.none i h t);
  plain = λ b i h t. absurd (u.none i h t);
  kept = λ i h l m. absurd (among_nil m);
}

-- the ends before n are told
abbrev pub ToldBelow : List (Option How) → ℕ → Type 0
ToldBelow ends n = (i : ℕ) → i < n → (h : How) × IsAt ends i (Some h)

some_of : (o : Option How) → is_some o ≡ true → (h : How) × (o ≡ Some h)
some_of None e = absurd (false≢true e)
some_of (Some h) e = (h, refl)

pub none_of : (o : Option How) → is_some o ≡ false → o ≡ None
none_of None e = refl
none_of (Some h) e = absurd (false≢true (sym e))

pub at_index : (l : List (Option How)) (i : ℕ) (x : Option How) → i < length l → x ≡ slice_index_or l i x → IsAt l i x
at_index [] i x h e = absurd (omega (arith, h))
at_index (y ∷ ys) zero x h e = ap some (sym e)
at_index (y ∷ ys) (suc i) x h e = at_index ys i x (omega (arith, h)) e

pub told_more : (ends : List (Option How)) (n : ℕ) (x : Option How) → ToldBelow ends n → IsAt ends n x → is_some x ≡ true → ToldBelow ends (n + 1)
told_more ends n x t a s i l =
    ⊎_elim (λ b. t i b) (λ o. let same : n ≡ i = omega (arith, l, o) in let y = some_of x s in (y.0, subst (λ j. IsAt ends j (Some y.0)) same (subst (λ z. IsAt ends n z) y.1 a))) (cases_lt i n)

-- none of the ends before n is one by which the branches are to stop
abbrev pub NoStopBelow : List (Option How) → ℕ → Type 0
NoStopBelow ends n = (i : ℕ) (h : How) → i < n → IsAt ends i (Some h) → IsStop h → ⊥

one_at : (ends : List (Option How)) (i : ℕ) (x y : Option How) → IsAt ends i x → IsAt ends i y → x ≡ y
one_at ends i x y a b = some-injective x y (sym a ∙ b)

pub no_stop_more : (ends : List (Option How)) (n : ℕ) (x : Option How) → NoStopBelow ends n → IsAt ends n x → ((h : How) → x ≡ Some h → IsStop h → ⊥) → NoStopBelow ends (n + 1)
no_stop_more ends n x t a s i h l at =
    ⊎_elim (λ b. t i h b at) (λ o. let same : n ≡ i = omega (arith, l, o) in s h (one_at ends n x (Some h) a (subst (λ j. IsAt ends j (Some h)) (sym same) at))) (cases_lt i n)

at_below : (ends : List (Option How)) (i : ℕ) (x : Option How) → IsAt ends i x → i < length ends
at_below [] i x e = absurd (some-ne-none x (sym e))
at_below (y ∷ ys) zero x e = omega arith
at_below (y ∷ ys) (suc i) x e = let h = at_below ys i x e in omega (arith, h)

pub no_stop : (ends : List (Option How)) (n : ℕ) (b : Bool) → b ≡ false → length ends ≤ n → NoStopBelow ends n → MustStop ends b → ⊥
no_stop ends n b f l t (inl e) = false≢true (sym f ∙ e)
no_stop ends n b f l t (inr h) = let k = at_below ends h.0 (Some h.1) h.2 in t h.0 h.1 (omega (arith, k, l)) h.2 h.3
