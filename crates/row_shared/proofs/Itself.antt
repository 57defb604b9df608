-- What a seat knows of itself alone, after each step.
use Rattle.std.proofs.Common.{◌≡◌, ◌≢◌, ℕ, true, false, not, List, [], ◌∷◌, ◌++◌, inl, inr, refl, sym, ap, ◌∙◌, subst, ⊎_elim, arith}
use Rattle.std.proofs.lemmas.Bool.{cases_eq}
use Rattle.std.proofs.lemmas.Bool.Decides.{nat_tests}
use Rattle.chunk_core.specs.Lists.{IsAmong}
use Rattle.chunk_core.proofs.Filters.{among_append, among_right, bool_not, filter_among}
use Rattle.chunk_core.proofs.Members.{among_last, among_left, among_nil, among_snoc}
use Rattle.res_ledger.specs.declared.event.Event.{Event}
use Rattle.res_ledger.specs.declared.event.What.{What}
use Rattle.res_ledger.specs.declared.event.What.TheVariants.{Acquire}
use Rattle.res_ledger.specs.declared.event.StreamNo.{StreamNo}
use Rattle.res_ledger.specs.declared.event.StreamNo.TheVariants.{Inner}
use Rattle.res_ledger.specs.Ledger.{IsAcquired}
use Rattle.res_ledger.proofs.Ledgers.{acquired_snoc}
use Rattle.row_seat.specs.declared.token.Token.{Token}
use Rattle.row_seat.specs.Rule.{view_of}
use Rattle.row_seat.specs.Steps.{first_token, gone, handed_over, joined, leased, noted, placed, shut, split_main, split_off, took}
use Rattle.row_seat.specs.Views.{IsWithin, MayNote, name_of, within}
use Rattle.row_seat.proofs.Members.{among_kept, among_without}
use Rattle.row_seat.proofs.Rejoined.{KnowsNames}
use Rattle.row_seat.proofs.Times.{one_kept}
use Rattle.row_shared.specs.Places.{KnowsItself, TookIn}

outside : (from to r : ℕ) → ¬ (IsWithin from to r) → within from to r ≡ false
outside from to r beyond = grind (arith, nat_tests)

module _ {P : Type 0} where
  pub names_kept : (v : Token P) → KnowsItself v → KnowsNames v
  names_kept v k e m = ⊎_elim (λ o. inl o) (λ o. inr (o.0, o.1, o.3)) (k.names e m)

  pub first_itself : (by : StreamNo) (rows events splits : ℕ) → KnowsItself (first_token {P = P} by rows events splits)
  first_itself by rows events splits = record { rows = λ r a. absurd (among_nil a.2.1); names = λ e m. absurd (among_nil m); pure = λ side e m. absurd (among_nil m); outs = λ m a. absurd (among_nil a) }

  -- the row that an event acquires was empty here
  acquires : (v : Token P) (hands : List (ℕ × P)) (x y : What) (r s : ℕ) → MayNote (view_of v hands) x → x ≡ y → y ≡ Acquire r s → IsAmong r v.empty
  acquires v hands x y r s may is e = (subst (λ z. MayNote (view_of v hands) z) (is ∙ e) may).0

  module _ (v : Token P) (k : KnowsItself v) where
    pub noted_itself : (e : Event) (hands : List (ℕ × P)) → e.by ≡ v.by → MayNote (view_of v hands) e.what → KnowsItself (noted v e)
    noted_itself e hands by may = record {
      rows = λ r a. ⊎_elim (k.rows r) (λ s. inl (acquires v hands e.what e.what r s.0 may refl s.1)) (acquired_snoc v.events e r a);
      names = λ d m. ⊎_elim (k.names d) (λ q. inl (ap (λ (z : Event). z.by) q ∙ by)) (among_snoc v.events d e m);
      pure = λ side d m. ⊎_elim (k.pure side d) (λ q. ap (λ (z : Event). z.by) q ∙ by) (among_snoc v.events d e m);
      outs = k.outs;
    }

    pub placed_itself : (r : ℕ) → KnowsItself (placed v r)
    placed_itself r = record {
      rows = λ q a. ⊎_elim
          (λ m. ⊎_elim (λ e. inr (inl (subst (λ n. IsAmong n (v.opened ++ r ∷ [])) (sym e) (among_last v.opened r)))) (λ ne. inl (among_kept r v.empty q m ne)) (cases_eq q r))
          (λ o. ⊎_elim (λ m. inr (inl (among_left (r ∷ []) m))) (λ l. inr (inr l)) o)
          (k.rows q a);
      names = k.names;
      pure = k.pure;
      outs = k.outs;
    }

    pub leased_itself : (j r : ℕ) → KnowsItself (leased v j r)
    leased_itself j r = record { rows = k.rows; names = k.names; pure = k.pure; outs = k.outs }

    pub gone_itself : (j r : ℕ) → KnowsItself (gone v j r)
    gone_itself j r = record { rows = k.rows; names = k.names; pure = k.pure; outs = k.outs }

    pub handed_itself : (r : ℕ) (p : P) → KnowsItself (handed_over v r p)
    handed_itself r p = record { rows = k.rows; names = k.names; pure = k.pure; outs = k.outs }

    pub took_itself : (r : ℕ) → KnowsItself (took v r)
    took_itself r = record { rows = k.rows; names = k.names; pure = k.pure; outs = k.outs }

    pub shut_itself : (r : ℕ) (p : P) → KnowsItself (shut v r p)
    shut_itself r p = record {
      rows = λ q a. ⊎_elim
          (λ m. inl m)
          (λ o. ⊎_elim
          (λ m. ⊎_elim (λ e. inr (inr (p, subst (λ n. IsAmong (n, p) (v.left ++ (r, p) ∷ [])) (sym e) (among_last v.left (r, p))))) (λ ne. inr (inl (one_kept r q v.opened m ne))) (cases_eq q r))
          (λ l. inr (inr (l.0, among_left ((r, p) ∷ []) l.1)))
          o)
          (k.rows q a);
      names = k.names;
      pure = k.pure;
      outs = k.outs;
    }

    pub main_itself : (j from to n : ℕ) → v.main ≡ true → v.by ≢ Inner j → ¬ (IsAmong j v.had) → ((r : ℕ) → IsWithin from to r → IsAmong r v.empty × ¬ (IsAcquired v.events r)) → KnowsItself (split_main v j from to n)
    main_itself j from to n main foreign no_seat span = record {
      rows = λ r a. ⊎_elim
          (λ m. inl (filter_among (λ q. not (within from to q)) r v.empty m (ap not (outside from to r (λ w. (span r w).1 a)))))
          (λ o. inr o)
          (k.rows r a);
      names = λ e m. ⊎_elim
          (λ o. inl o)
          (λ o. inr (o.0, o.1, among_left (j ∷ []) o.2, λ b. ⊎_elim o.3 (λ s. no_seat (subst (λ i. IsAmong i v.had) s o.2)) (among_snoc v.out o.0 j b)))
          (k.names e m);
      pure = λ side. absurd (bool_not (sym main ∙ side));
      outs = λ i a. ⊎_elim (λ o. let x = k.outs i o in (among_left (j ∷ []) x.0, x.1)) (λ s. (subst (λ z. IsAmong z (v.had ++ j ∷ [])) (sym s) (among_last v.had j), subst (λ z. v.by ≢ Inner z) (sym s) foreign)) (among_snoc v.out i j a);
    }

    pub joined_itself : (w : Token P) → v.main ≡ true → TookIn (joined v w) v w → KnowsItself (joined v w)
    joined_itself w main two = let theirs = two.theirs in record {
      rows = λ r a. ⊎_elim
          (λ m. ⊎_elim (λ x. inl (among_left w.empty x)) (λ o. inr (⊎_elim (λ x. inl x) (λ l. inr (l.0, among_left w.left l.1)) o)) (k.rows r (a.0, a.1, (a.2.0, m, a.2.2, a.2.3))))
          (λ m. ⊎_elim (λ x. inl (among_right r v.empty w.empty x)) (λ o. inr (inr (⊎_elim (λ x. absurd (among_nil (subst (λ l. IsAmong r l) two.shut x))) (λ l. (l.0, among_right (r, l.0) v.left w.left l.1)) o))) (theirs.rows r (a.0, a.1, (a.2.0, m, a.2.2, a.2.3))))
          (among_append a.2.0 v.events w.events a.2.1);
      names = λ e m. ⊎_elim
          (λ n. ⊎_elim (λ o. inl o) (λ o. inr (o.0, o.1, o.2, λ b. o.3 (among_without (name_of w.by) v.out o.0 b).0)) (k.names e n))
          (λ n. inr (two.name, theirs.pure two.side e n ∙ two.by, (k.outs two.name two.out).0, λ b. (among_without (name_of w.by) v.out two.name b).1 (sym (ap name_of two.by))))
          (among_append e v.events w.events m);
      pure = λ side. absurd (bool_not (sym main ∙ side));
      outs = λ i a. k.outs i (among_without (name_of w.by) v.out i a).0;
    }

  pub off_itself : (v : Token P) (j from to n : ℕ) → KnowsItself (split_off v j from to n)
  off_itself v j from to n = record { rows = λ r a. absurd (among_nil a.2.1); names = λ e m. absurd (among_nil m); pure = λ side e m. absurd (among_nil m); outs = λ m a. absurd (among_nil a) }
