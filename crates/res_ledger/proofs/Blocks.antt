-- How a stream's events grow by blocks.
use Rattle.std.proofs.Common.{◌≡◌, ℕ, Bool, true, List, [], ◌∷◌, ◌++◌, sym, subst, append_assoc, append-nil}
use Rattle.chunk_core.specs.declared.code.Exit.{Exit}
use Rattle.res_ledger.specs.declared.event.What.{What}
use Rattle.res_ledger.specs.declared.event.What.TheVariants.{Close, Cancel}
use Rattle.res_ledger.specs.Own.{teardown}
use Rattle.res_ledger.specs.Order.{Picks, IsInBlocks, finals, firsts, is_plain, IsAny}
use Rattle.res_ledger.specs.Order.Picks.{none as nothing, pick, pass}
use Rattle.res_ledger.specs.Order.IsInBlocks.{none, plain, close, cancel}

pub picks_map : {may may' : ℕ → Type 0} {xs ys : List ℕ} → ((r : ℕ) → may r → may' r) → Picks may xs ys → Picks may' xs ys
picks_map h nothing = nothing
picks_map h (pick x p) = pick x (picks_map h p)
picks_map h (pass y m p) = pass y (h y m) (picks_map h p)

module _ {may : ℕ → Type 0} {due : ℕ → List ℕ} where
  -- blocks after blocks
  pub blocks_append : {A E : List What} (F : List What) → IsInBlocks may due A E → IsInBlocks may due (A ++ E) F → IsInBlocks may due A (E ++ F)
  blocks_append F (none A) s = subst (λ l. IsInBlocks may due l F) (append-nil A) s
  blocks_append F (plain A E w p b) s = plain A (E ++ F) w p (blocks_append F b (subst (λ l. IsInBlocks may due l F) (sym (append_assoc A (w ∷ []) E)) s))
  blocks_append F (close A E c x fs p b) s =
      subst (λ l. IsInBlocks may due A (Close c x ∷ l)) (sym (append_assoc (finals x fs) E F))
      (close A (E ++ F) c x fs p (blocks_append F b (subst (λ l. IsInBlocks may due l F) (sym (append_assoc A (Close c x ∷ finals x fs) E)) s)))
  blocks_append F (cancel A E j x fs p b) s =
      subst (λ l. IsInBlocks may due A (Cancel j x ∷ l)) (sym (append_assoc (finals x fs) E F))
      (cancel A (E ++ F) j x fs p (blocks_append F b (subst (λ l. IsInBlocks may due l F) (sym (append_assoc A (Cancel j x ∷ finals x fs) E)) s)))

  pub blocks_plain : (E : List What) (w : What) → is_plain w ≡ true → IsInBlocks may due [] E → IsInBlocks may due [] (E ++ w ∷ [])
  blocks_plain E w p b = blocks_append (w ∷ []) b (plain E [] w p (none (E ++ w ∷ [])))

  pub blocks_close : (E : List What) (s : ℕ) (x : Exit) (fs : List (ℕ × Bool)) → Picks may (firsts fs) (teardown E s) → IsInBlocks may due [] E → IsInBlocks may due [] (E ++ Close s x ∷ finals x fs)
  blocks_close E s x fs p b = blocks_append (Close s x ∷ finals x fs) b (subst (λ l. IsInBlocks may due E (Close s x ∷ l)) (append-nil (finals x fs)) (close E [] s x fs p (none (E ++ Close s x ∷ finals x fs))))

  pub blocks_cancel : (E : List What) (j : ℕ) (x : Exit) (fs : List (ℕ × Bool)) → Picks IsAny (firsts fs) (due j) → IsInBlocks may due [] E → IsInBlocks may due [] (E ++ Cancel j x ∷ finals x fs)
  blocks_cancel E j x fs p b = blocks_append (Cancel j x ∷ finals x fs) b (subst (λ l. IsInBlocks may due E (Cancel j x ∷ l)) (append-nil (finals x fs)) (cancel E [] j x fs p (none (E ++ Cancel j x ∷ finals x fs))))

-- more that may be left out
pub blocks_map : {may may' : ℕ → Type 0} {due : ℕ → List ℕ} {A E : List What} → ((r : ℕ) → may r → may' r) → IsInBlocks may due A E → IsInBlocks may' due A E
blocks_map h (none A) = none A
blocks_map h (plain A E w p b) = plain A E w p (blocks_map h b)
blocks_map h (close A E c x fs p b) = close A E c x fs (picks_map h p) (blocks_map h b)
blocks_map h (cancel A E j x fs p b) = cancel A E j x fs p (blocks_map h b)
