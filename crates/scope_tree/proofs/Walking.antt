-- Steps of a walk upward.
use Rattle.std.proofs.Common.{◌⊎◌, ◌≡◌, ℕ, zero, suc, ◌<◌, ◌≤◌, Bool, true, false, not, List, length, slice_index_or, refl, sym, ap, ◌∙◌, subst, ⊎_elim, inl, inr, arith}
use Rattle.std.proofs.lemmas.List.{get_or_default}
use Rattle.row_seat.specs.declared.view.View.{View}
use Rattle.res_ledger.specs.Ledger.{IsClosed, LiesWithin, IsUsable, NotesClose}
use Rattle.scope_tree.specs.Walks.{FirstOpen}
use Rattle.scope_tree.specs.Walks.FirstOpen.{this_one, above_it}
use Rattle.scope_tree.specs.Walks.Nearest.{this, next}
use Rattle.res_ledger.specs.Ledger.LiesWithin.{same, below as beneath}
use Rattle.scope_tree.specs.declared.branch.Branch.{Branch}
use Rattle.scope_tree.specs.declared.branch.AcquiredRow.{AcquiredRow}
use Rattle.scope_tree.specs.Kept.{Kept}
use Rattle.scope_tree.specs.Trace.{trace}
use Rattle.res_ledger.specs.Own.{closes}
use Rattle.scope_tree.specs.Walks.{Clear, Falls, Shaded, Nearest, IsRootOpen, StandsAbove}
use Rattle.scope_tree.specs.Walks.StandsAbove.{itself, further}
use Rattle.scope_tree.specs.Walks.Clear.{root, below}
use Rattle.scope_tree.specs.Walks.Shaded.{own, under}
use Rattle.scope_tree.proofs.Bridge.{within_cases}
use Rattle.res_ledger.proofs.Noted.{closes_notes}
use Rattle.chunk_core.proofs.Bools.{has_in}
use Rattle.scope_tree.proofs.Beneath.{noted_parent, noted_scope, open_shut}

pub so : (b : Bool) → not b ≡ false → b ≡ true
so true h = refl
so false h = cc

module _ (bs : List Branch) (c : ℕ) (d : Branch) (l : c < length bs) where
  pub shut_any : (b : Bool) → (slice_index_or bs c d).shut ≡ b → (e : Branch) → (slice_index_or bs c e).shut ≡ b
  shut_any b h e = ap (λ x. x.shut) (get_or_default bs c e d l) ∙ h

  pub parent_any : (e : Branch) → (slice_index_or bs c e).parent ≡ (slice_index_or bs c d).parent
  parent_any e = ap (λ x. x.parent) (get_or_default bs c e d l)

  pub clear_up : 1 ≤ c → (slice_index_or bs c d).shut ≡ false → Clear bs (slice_index_or bs c d).parent → Clear bs c
  clear_up one h x = below c (slice_index_or bs c d).parent one (shut_any false h) parent_any x

  pub shade_up : 1 ≤ c → Shaded bs (slice_index_or bs c d).parent → Shaded bs c
  shade_up one x = under c (slice_index_or bs c d).parent one parent_any x

rooted : (bs : List Branch) (c : ℕ) → IsRootOpen bs → ((d : Branch) → (slice_index_or bs c d).shut ≡ true) → 1 ≤ c
rooted bs zero r h = absurd (let d : Branch = record { parent = 0; shut = false } in let e : true ≡ false = sym (h d) ∙ r d in cc)
rooted bs (suc c) r h = omega arith

pub shaded_root : (bs : List Branch) (c : ℕ) → IsRootOpen bs → Shaded bs c → 1 ≤ c
shaded_root bs c r (own e h) = rooted bs c r h
shaded_root bs c r (under e p one pa x) = one

pub clear_zero : (bs : List Branch) (c : ℕ) (d : Branch) → c ≤ 0 → c < length bs → (slice_index_or bs c d).shut ≡ false → Clear bs c
clear_zero bs c d z l h = let e : c ≡ 0 = omega arith in subst (λ n. Clear bs n) (sym e) (root (λ x. subst (λ n. (slice_index_or bs n x).shut ≡ false) e (shut_any bs c d l false h x)))

-- what is clear is open, what is shaded is closed
module _ {P : Type 0} (v : View P) (bs : List Branch) (hs : List AcquiredRow) (k : Kept v bs hs) where
  pub shaded_closed : (c : ℕ) → c < length bs → Shaded bs c → IsClosed v.events v.by c
  shaded_closed c l (own e h) = let d : Branch = record { parent = 0; shut = false } in (c, same c, closes_notes v.events v.by c (has_in c (closes (trace v)) (sym (k.mirrors.shut c d l) ∙ h d)))
  shaded_closed c l (under e p one pa x) =
      let d : Branch = record { parent = 0; shut = false } in
      let less = k.mirrors.parents c d one l in let q = pa d in
      let y = shaded_closed p (omega arith) x in (y.0, beneath c p y.0 (noted_parent v bs hs k c p one l pa) y.1, y.2)

  pub clear_open : (c : ℕ) → c < length bs → Clear bs c → ¬ (IsClosed v.events v.by c)
  clear_open c l (root h) x =
      let d : Branch = record { parent = 0; shut = false } in
      ⊎_elim
      (λ e. open_shut v bs hs k 0 d l (h d) (subst (λ a. NotesClose v.events v.by a) (sym e) x.2))
      (λ q. let o = noted_scope v bs hs k 0 q.0 q.1 in let z = o.0 in omega arith)
      (within_cases x.1)
  clear_open c l (below e p one sh pa y) x =
      let d : Branch = record { parent = 0; shut = false } in
      let less = k.mirrors.parents e d one l in let q' = pa d in
      ⊎_elim
      (λ i. open_shut v bs hs k e d l (sh d) (subst (λ a. NotesClose v.events v.by a) (sym i) x.2))
      (λ q. let o = noted_scope v bs hs k e q.0 q.1 in let i : q.0 ≡ p = sym (o.2 d) ∙ pa d in clear_open p (omega arith) y (x.0, subst (λ a. LiesWithin v.events v.by a x.0) i q.2, x.2))
      (within_cases x.1)

  pub nearest_first : (c q : ℕ) → c < length bs → Nearest bs c q → FirstOpen v.events v.by c q × (q < length bs)
  nearest_first c q l (this e x) = (this_one e (clear_open e l x), l)
  nearest_first c q l (next e p r x one pa y) =
      let d : Branch = record { parent = 0; shut = false } in let less = k.mirrors.parents e d one l in let i = pa d in
      let t = nearest_first p r (omega arith) y in (above_it e p r (shaded_closed e l x) (noted_parent v bs hs k e p one l pa) t.0, t.1)

  first_open_is : (c q : ℕ) → FirstOpen v.events v.by c q → ¬ (IsClosed v.events v.by q)
  first_open_is c q (this_one e n) = n
  first_open_is c q (above_it e p r x o f) = first_open_is p r f

  pub first_usable : (c q : ℕ) → q < length bs → FirstOpen v.events v.by c q → IsUsable v.events v.by q
  first_usable c zero l f = (inl refl, first_open_is c zero f)
  first_usable c (suc q) l f = let d : Branch = record { parent = 0; shut = false } in (inr ((slice_index_or bs (suc q) d).parent, noted_parent v bs hs k (suc q) ((slice_index_or bs (suc q) d).parent) (omega arith) l (λ e. parent_any bs (suc q) d l e)), first_open_is c (suc q) f)

pub above_cases : {bs : List Branch} {s a : ℕ} → StandsAbove bs s a → (s ≡ a) ⊎ ((p : ℕ) × (1 ≤ s) × ((d : Branch) → (slice_index_or bs s d).parent ≡ p) × StandsAbove bs p a)
above_cases (itself s) = inl refl
above_cases (further s p a one pa x) = inr (p, one, pa, x)

-- a scope above another has no greater number
pub above_le : (bs : List Branch) (s a : ℕ) → Falls bs → s < length bs → StandsAbove bs s a → a ≤ s
above_le bs s a f l (itself q) = omega arith
above_le bs s a f l (further q p b one pa x) = let d : Branch = record { parent = 0; shut = false } in let e = pa d in let g = f q d one l in let i = above_le bs p b f (omega (e, g, l, arith)) x in omega (e, g, i, arith)

module _ {P : Type 0} (v : View P) (bs : List Branch) (hs : List AcquiredRow) (k : Kept v bs hs) where
  pub stands_within : (s a : ℕ) → s < length bs → StandsAbove bs s a → LiesWithin v.events v.by s a
  stands_within s a l (itself q) = same q
  stands_within s a l (further q p b one pa x) =
      let d : Branch = record { parent = 0; shut = false } in let e = pa d in let g = k.mirrors.parents q d one l in
      beneath q p b (noted_parent v bs hs k q p one l pa) (stands_within p b (omega (e, g, l, arith)) x)

  pub within_stands : {s a : ℕ} → LiesWithin v.events v.by s a → StandsAbove bs s a
  within_stands (same s) = itself s
  within_stands (beneath s p a n w) = let z = noted_scope v bs hs k s p n in further s p a z.0 z.2 (within_stands w)
