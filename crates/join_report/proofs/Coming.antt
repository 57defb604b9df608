-- What came of the stream that a step is about.
use Rattle.std.proofs.Common.{◌≡◌, ◌<◌, ℕ, Bool, true, false, not, List, [], ◌∷◌, ◌++◌, Some, length, inl, inr, refl, sym, ap, ◌∙◌, arith}
use Rattle.std.proofs.lemmas.Bool.{false≢true}
use Rattle.std.proofs.lemmas.Grind.{flat_map-append}
use Rattle.chunk_core.proofs.Members.{among_last}
use Rattle.chunk_core.specs.Lists.{IsAmong}
use Rattle.chunk_core.specs.declared.code.How.{How}
use Rattle.chunk_core.specs.declared.code.How.TheVariants as how
use Rattle.run_rules.specs.Facts.{at}
use Rattle.join_tale.specs.Ended.{Ended}
use Rattle.join_tale.specs.Ended.Ended.{told, wanting, whole, halted}
use Rattle.join_tale.specs.Tales.{Fate, HasCome, IsBegun, IsOpen, Tale, end_of, load_of, loads_in, loads_of}
use Rattle.join_tale.specs.Tales.Fate.{Begun, Unmade}
use Rattle.join_tale.proofs.Parts.{loads_end, loads_first}
use Rattle.join_tale.proofs.Places.{at_below, some_is}
use Rattle.join_report.specs.Calls.{told_how}
use Rattle.join_report.specs.Reports.{IsAccount, is_none}

-- a list that one more is put behind has some
some_behind : (xs : List (List ℕ)) (x : List ℕ) → not (is_none (xs ++ x ∷ [])) ≡ true
some_behind [] x = refl
some_behind (y ∷ xs) x = refl

-- a late load of the stream is one of them
pub loads_late : (k : ℕ) (x : List ℕ) (t : Tale) (u : Tale) → u.late ≡ t.late ++ load_of k x ∷ [] → not (is_none (loads_of k u.late)) ≡ true
loads_late k x t u e =
    ap (λ y. not (is_none (loads_of k y))) e
    ∙ ap (λ (l : List (List ℕ)). not (is_none l)) (flat_map-append (loads_in k) t.late (load_of k x ∷ []) ∙ ap (λ (l : List (List ℕ)). loads_of k t.late ++ l) (loads_first k x []))
    ∙ some_behind (loads_of k t.late) x

pub none_is : (xs : List (List ℕ)) → not (is_none xs) ≡ false → xs ≡ []
none_is [] e = refl
none_is (x ∷ xs) e = absurd (false≢true (sym e))

pub some_is_not : (xs : List (List ℕ)) → not (is_none xs) ≡ true → xs ≡ [] → ⊥
some_is_not xs e n = false≢true (sym (ap (λ l. not (is_none l)) n) ∙ e)

-- a stream that was begun isn't one that couldn't be made
pub begun_made : (t u : Tale) (k : ℕ) → IsBegun t k → u.fates ≡ t.fates → at u.fates k ≡ Some Unmade → ⊥
begun_made t u k b e m = let q : Begun ≡ Unmade = some_is Begun Unmade (sym b ∙ sym (ap (λ (l : List Fate). at l k) e) ∙ m) in cc

-- a load of the open stream came too late: that is noted, and it is reported as before
pub account_lost : (t u : Tale) (k : ℕ) (x : List ℕ) (h : How) (b : Bool) → IsOpen t k → (HasCome u k → HasCome t k) → u.late ≡ t.late ++ load_of k x ∷ [] → u.fates ≡ t.fates → IsAccount t k h b → IsAccount u k h true
account_lost t u k x h b o back l f i = record {
  ended = λ c. absurd (o.1 (back c));
  unmade = λ m. absurd (begun_made t u k o.0 f m);
  halted = λ n m. i.halted o.1 (begun_made t t k o.0 refl);
  lost = sym (loads_late k x t u l);
}

-- its end came while frames are written
pub account_ended : (t u : Tale) (k : ℕ) (g h : How) (b : Bool) → IsOpen t k → u.front ≡ t.front ++ end_of k g ∷ [] → u.late ≡ t.late → u.fates ≡ t.fates → IsAccount t k h b → IsAccount u k g b
account_ended t u k g h b o e l f i =
    let m = rw (← e) at (among_last t.front (end_of k g)) in
    record {
      ended = λ c. told m;
      unmade = λ z. absurd (begun_made t u k o.0 f z);
      halted = λ n z. absurd (n (g, inl m));
      lost = i.lost ∙ ap (λ y. not (is_none (loads_of k y))) (sym l);
    }

-- how a stream ended whose end came later
late_end : (u : Tale) (k : ℕ) (g : How) (b : Bool) → b ≡ not (is_none (loads_of k u.late)) → IsAmong (end_of k g) u.late → Ended u k (told_how true b g)
late_end u k how.Memory b e m = wanting m refl
late_end u k how.Done true e m = halted how.Done m (λ z. cc) (λ z. some_is_not (loads_of k u.late) (sym e)) refl
late_end u k how.Done false e m = whole m (none_is (loads_of k u.late) (sym e)) refl
late_end u k how.Halted b e m = halted how.Halted m (λ z. cc) (λ z. cc) refl
late_end u k (how.Fault c) b e m = halted (how.Fault c) m (λ z. cc) (λ z. cc) refl

pub account_ended_late : (t u : Tale) (k : ℕ) (g h : How) (b : Bool) → IsOpen t k → u.late ≡ t.late ++ end_of k g ∷ [] → u.fates ≡ t.fates → IsAccount t k h b → IsAccount u k (told_how true b g) b
account_ended_late t u k g h b o l f i =
    let m = rw (← l) at (among_last t.late (end_of k g)) in
    let lost : b ≡ not (is_none (loads_of k u.late)) = i.lost ∙ ap (λ (y : List (List ℕ)). not (is_none y)) (sym (loads_end k k g t.late)) ∙ ap (λ y. not (is_none (loads_of k y))) (sym l) in
    record {
      ended = λ c. late_end u k g b lost m;
      unmade = λ z. absurd (begun_made t u k o.0 f z);
      halted = λ n z. absurd (n (g, inr m));
      lost = lost;
    }

-- nothing stands behind a list's end
at_end : {A : Type 0} (xs : List A) (x : A) → at xs (length xs) ≡ Some x → ⊥
at_end xs x e = let q : length xs < length xs = at_below xs (length xs) x e in omega arith

at_new : {A : Type 0} (xs : List A) (y : A) → at (xs ++ y ∷ []) (length xs) ≡ Some y
at_new [] y = refl
at_new (x ∷ xs) y = at_new xs y

module _ (t u : Tale) (f : Fate) (h : How) (b : Bool) (ours : (k : ℕ) → HasCome t k → IsBegun t k) (back : HasCome u (length t.fates) → HasCome t (length t.fates)) (l : u.late ≡ t.late) (e : u.fates ≡ t.fates ++ f ∷ []) where
  next_new : at u.fates (length t.fates) ≡ Some f
  next_new = ap (λ (x : List Fate). at x (length t.fates)) e ∙ at_new t.fates f

  not_come : HasCome t (length t.fates) → ⊥
  not_come c = at_end t.fates Begun (ours (length t.fates) c)

  late_same : IsAccount t (length t.fates) h b → b ≡ not (is_none (loads_of (length t.fates) u.late))
  late_same i = i.lost ∙ ap (λ y. not (is_none (loads_of (length t.fates) y))) (sym l)

  -- the next stream begins or is skipped
  pub account_fated : (f ≡ Unmade → ⊥) → IsAccount t (length t.fates) h b → IsAccount u (length t.fates) h b
  account_fated n i = record {
    ended = λ c. absurd (not_come (back c));
    unmade = λ z. absurd (n (some_is f Unmade (sym next_new ∙ z)));
    halted = λ m z. i.halted not_come (λ w. at_end t.fates Unmade w);
    lost = late_same i;
  }

  -- there is no memory to make it
  pub account_unmade : f ≡ Unmade → IsAccount t (length t.fates) h b → IsAccount u (length t.fates) how.Memory b
  account_unmade is i = record {
    ended = λ c. absurd (not_come (back c));
    unmade = λ z. refl;
    halted = λ m z. absurd (z (next_new ∙ ap (λ x. Some x) is));
    lost = late_same i;
  }
