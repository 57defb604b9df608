-- What a tale tells of one stream stays.
use Rattle.std.proofs.Common.{◌≡◌, ℕ, zero, suc, Bool, not, List, [], ◌∷◌, ◌++◌, length, inl, inr, refl, sym, ap, ◌∙◌, ⊎_elim}
use Rattle.chunk_core.specs.Lists.{IsAmong}
use Rattle.chunk_core.proofs.Members.{among_left}
use Rattle.chunk_core.specs.declared.code.How.{How}
use Rattle.chunk_core.specs.declared.code.How.TheVariants as how
use Rattle.run_rules.specs.Facts.{at}
use Rattle.join_tale.specs.Ended.{Ended}
use Rattle.join_tale.specs.Ended.Ended.{told, wanting, whole, halted, unmade, skipped}
use Rattle.join_tale.specs.Tales.{Fate, HasCome, Tale, end_of, load_of, loads_of}
use Rattle.join_tale.proofs.Parts.{end_before_end, end_before_load, loads_end, loads_other}
use Rattle.join_report.specs.Reports.{IsAccount, is_none}

-- the ends and the late loads of stream j, and what became of it
pub record Agrees (t u : Tale) (j : ℕ) : Type 0 where
  pub front : (h : How) → IsAmong (end_of j h) t.front → IsAmong (end_of j h) u.front
  pub late : (h : How) → IsAmong (end_of j h) t.late → IsAmong (end_of j h) u.late
  pub back : HasCome u j → HasCome t j
  pub loads : loads_of j u.late ≡ loads_of j t.late
  pub fate : at u.fates j ≡ at t.fates j

module _ (t u : Tale) (j : ℕ) (a : Agrees t u j) where
  pub came_on : HasCome t j → HasCome u j
  came_on c = (c.0, ⊎_elim (λ m. inl (a.front c.0 m)) (λ m. inr (a.late c.0 m)) c.1)

  pub ended_on : (h : How) → Ended t j h → Ended u j h
  ended_on h (told m) = told (a.front h m)
  ended_on h (wanting m e) = wanting (a.late how.Memory m) e
  ended_on h (whole m l e) = whole (a.late how.Done m) (a.loads ∙ l) e
  ended_on h (halted g m nm nl e) = halted g (a.late g m) nm (λ d z. nl d (sym a.loads ∙ z)) e
  ended_on h (unmade e f) = unmade (a.fate ∙ e) f
  ended_on h (skipped e f) = skipped (a.fate ∙ e) f

  pub account_on : (h : How) (b : Bool) → IsAccount t j h b → IsAccount u j h b
  account_on h b i = record {
    ended = λ c. ended_on h (i.ended (a.back c));
    unmade = λ e. i.unmade (sym a.fate ∙ e);
    halted = λ n m. i.halted (λ c. n (came_on c)) (λ e. m (a.fate ∙ e));
    lost = i.lost ∙ ap (λ l. not (is_none l)) (sym a.loads);
  }

-- the same messages, of the same fates
pub agrees_same : (t u : Tale) (j : ℕ) → u.front ≡ t.front → u.late ≡ t.late → u.fates ≡ t.fates → Agrees t u j
agrees_same t u j f l e = record {
  front = λ h m. rw f m;
  late = λ h m. rw l m;
  back = λ c. (c.0, ⊎_elim (λ m. inl (rw f at m)) (λ m. inr (rw l at m)) c.1);
  loads = ap (λ x. loads_of j x) l;
  fate = ap (λ (x : List Fate). at x j) e;
}

-- a load came while frames are written
pub agrees_written : (t u : Tale) (j k : ℕ) (x : List ℕ) → u.front ≡ t.front ++ load_of k x ∷ [] → u.late ≡ t.late → u.fates ≡ t.fates → Agrees t u j
agrees_written t u j k x f l e = record {
  front = λ h m. rw f (among_left (load_of k x ∷ []) m);
  late = λ h m. rw l m;
  back = λ c. (c.0, ⊎_elim (λ m. inl (end_before_load j k c.0 x t.front (rw f at m))) (λ m. inr (rw l at m)) c.1);
  loads = ap (λ y. loads_of j y) l;
  fate = ap (λ (y : List Fate). at y j) e;
}

-- no end came with a late load
pub lost_back : (t u : Tale) (j k : ℕ) (x : List ℕ) → u.front ≡ t.front → u.late ≡ t.late ++ load_of k x ∷ [] → HasCome u j → HasCome t j
lost_back t u j k x f l c = (c.0, ⊎_elim (λ m. inl (rw f at m)) (λ m. inr (end_before_load j k c.0 x t.late (rw l at m))) c.1)

-- a load of another stream came too late
pub agrees_lost : (t u : Tale) (j k : ℕ) (x : List ℕ) → u.front ≡ t.front → u.late ≡ t.late ++ load_of k x ∷ [] → u.fates ≡ t.fates → (j ≡ k → ⊥) → Agrees t u j
agrees_lost t u j k x f l e n = record {
  front = λ h m. rw f m;
  late = λ h m. rw l (among_left (load_of k x ∷ []) m);
  back = lost_back t u j k x f l;
  loads = ap (λ y. loads_of j y) l ∙ loads_other j k x t.late n;
  fate = ap (λ (y : List Fate). at y j) e;
}

-- the end of another stream came while frames are written
pub agrees_ended : (t u : Tale) (j k : ℕ) (g : How) → u.front ≡ t.front ++ end_of k g ∷ [] → u.late ≡ t.late → u.fates ≡ t.fates → (j ≡ k → ⊥) → Agrees t u j
agrees_ended t u j k g f l e n = record {
  front = λ h m. rw f (among_left (end_of k g ∷ []) m);
  late = λ h m. rw l m;
  back = λ c. (c.0, ⊎_elim (λ m. ⊎_elim (λ o. inl o) (λ s. absurd (n s.0)) (end_before_end j k c.0 g t.front (rw f at m))) (λ m. inr (rw l at m)) c.1);
  loads = ap (λ y. loads_of j y) l;
  fate = ap (λ (y : List Fate). at y j) e;
}

-- the end of another stream came later
pub agrees_ended_late : (t u : Tale) (j k : ℕ) (g : How) → u.front ≡ t.front → u.late ≡ t.late ++ end_of k g ∷ [] → u.fates ≡ t.fates → (j ≡ k → ⊥) → Agrees t u j
agrees_ended_late t u j k g f l e n = record {
  front = λ h m. rw f m;
  late = λ h m. rw l (among_left (end_of k g ∷ []) m);
  back = λ c. (c.0, ⊎_elim (λ m. inl (rw f at m)) (λ m. ⊎_elim (λ o. inr o) (λ s. absurd (n s.0)) (end_before_end j k c.0 g t.late (rw l at m))) c.1);
  loads = ap (λ y. loads_of j y) l ∙ loads_end j k g t.late;
  fate = ap (λ (y : List Fate). at y j) e;
}

-- the element at another place of a list that one is put behind
pub at_other : {A : Type 0} (xs : List A) (y : A) (j : ℕ) → (j ≡ length xs → ⊥) → at (xs ++ y ∷ []) j ≡ at xs j
at_other [] y zero n = absurd (n refl)
at_other [] y (suc j) n = refl
at_other (x ∷ xs) y zero n = refl
at_other (x ∷ xs) y (suc j) n = at_other xs y j (λ e. n (ap (λ z. suc z) e))

-- another stream has its fate
pub agrees_fated : (t u : Tale) (j : ℕ) (f : Fate) → u.front ≡ t.front → u.late ≡ t.late → u.fates ≡ t.fates ++ f ∷ [] → (j ≡ length t.fates → ⊥) → Agrees t u j
agrees_fated t u j f p l e n = record {
  front = λ h m. rw p m;
  late = λ h m. rw l m;
  back = λ c. (c.0, ⊎_elim (λ m. inl (rw p at m)) (λ m. inr (rw l at m)) c.1);
  loads = ap (λ x. loads_of j x) l;
  fate = ap (λ (x : List Fate). at x j) e ∙ at_other t.fates f j n;
}
