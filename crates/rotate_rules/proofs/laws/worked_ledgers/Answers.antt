use Rattle.std.proofs.Common.{◌≡◌, ◌≤◌, ℕ, Some, Bool, true, false, List, [], ◌∷◌, ◌++◌, length, refl, sym, ap, ◌∙◌, subst, arith, zero, suc}
use Rattle.std.proofs.lemmas.Bool.{false≢true}
use Rattle.chunk_core.specs.declared.code.Exit.TheVariants.{Succeeded}
use Rattle.chunk_core.specs.Lists.{IsAmong}
use Rattle.chunk_core.specs.Lists.IsAmong.{here}
use Rattle.chunk_core.proofs.Each.{each_among}
use Rattle.res_ledger.specs.declared.event.StreamNo.{StreamNo}
use Rattle.res_ledger.specs.declared.event.StreamNo.TheVariants.{Inner, Outer}
use Rattle.res_ledger.specs.declared.event.What.{What}
use Rattle.res_ledger.specs.declared.event.What.TheVariants.{Open, Acquire, Lease, Cancel, Close, Final}
use Rattle.res_ledger.specs.declared.event.Event.{Event}
use Rattle.res_ledger.specs.Ledger.{IsLegal, IsStamped, stamped}
use Rattle.res_ledger.specs.Order.{IsOrdered}
use Rattle.res_ledger.specs.Whole.{IsComplete}
use Rattle.res_ledger.proofs.Prefixes.{split_at}
use Rattle.run_rules.specs.Facts.{at}
use Rattle.run_rules.specs.Work.{owners_of}
use Rattle.res_ledger.specs.Own.{own, opens}
use Rattle.res_ledger.specs.Order.{is_ordered}
use Rattle.res_ledger.specs.Judge.{each_after, is_legal, is_complete}
use Rattle.res_ledger.proofs.Stamps.{stamped_sound}
use Rattle.res_ledger.proofs.Ordering.{ordered_sound}
use Rattle.res_ledger.proofs.Judged.{each_event, legal_sound, complete_sound}
use Rattle.run_rules.specs.Rules.{IsOurs, KeepsRules}
use Rattle.rotate_rules.specs.Pieces.{most_files, rotate_work}
use Rattle.rotate_rules.specs.Rotation.{HoldsTwo, open_files}
use Rattle.rotate_rules.specs.Worked.{failed_open, two_files}
use Rattle.rotate_rules.proofs.laws.worked_ledgers.Goals as goal

abbrev at_most : ℕ → Bool
at_most = elim [ zero ↦ true | suc n ↦ elim n [ zero ↦ true | suc m ↦ elim m [ zero ↦ true | suc k ↦ false ] ] ]

at_most_is : (n : ℕ) → at_most n ≡ true → n ≤ 2
at_most_is zero h = omega arith
at_most_is (suc zero) h = omega arith
at_most_is (suc (suc zero)) h = omega arith
at_most_is (suc (suc (suc n))) h = absurd (false≢true h)

abbrev cancels_nothing : What → Bool
cancels_nothing (Cancel j x) = false
cancels_nothing w = true

-- leases nothing, and acquires one of the first rows
abbrev is_plain : What → Bool
is_plain (Lease j s) = false
is_plain (Acquire r s) = at_most r
is_plain w = true

plain_lease : (w : What) (j s : ℕ) → is_plain w ≡ true → w ≡ Lease j s → ⊥
plain_lease w j s h e = false≢true (sym (ap is_plain e) ∙ h)

plain_acquire : (w : What) (r s : ℕ) → is_plain w ≡ true → w ≡ Acquire r s → r ≤ 2
plain_acquire w r s h e = at_most_is r (sym (ap is_plain e) ∙ h)

abbrev is_ours : StreamNo → Bool
is_ours (Inner zero) = true
is_ours (Inner (suc k)) = false
is_ours Outer = false

ours_is : (k : StreamNo) → is_ours k ≡ true → k ≡ Inner 0
ours_is (Inner zero) h = refl
ours_is (Inner (suc k)) h = absurd (false≢true h)
ours_is Outer h = absurd (false≢true h)

module _ (n : ℕ) (path prefix : List ℕ) where
  owner : (r : ℕ) → r ≤ 2 → at (owners_of (rotate_work path prefix n)) r ≡ Some (Inner 0)
  owner zero l = refl
  owner (suc zero) l = refl
  owner (suc (suc zero)) l = refl
  owner (suc (suc (suc r))) l = absurd (omega arith)

  module _ (L : List Event) (stamps : IsStamped L) (legal : IsLegal L) (complete : IsComplete L) (ordered : IsOrdered L) (scopes : length (opens (own (Inner 0) L)) ≤ most_files)
      (plain : (P Q : List Event) (e : Event) → L ≡ P ++ e ∷ Q → is_plain e.what ≡ true) (mine : (P Q : List Event) (e : Event) → L ≡ P ++ e ∷ Q → is_ours e.by ≡ true) (stays : (P Q : List Event) (e : Event) → L ≡ P ++ e ∷ Q → cancels_nothing e.what ≡ true) where
    by_0 : (e : Event) → IsAmong e L → e.by ≡ Inner 0
    by_0 e m = let s = split_at e L m in ours_is e.by (mine s.0 s.1 e s.2)

    plain_at : (e : Event) → IsAmong e L → is_plain e.what ≡ true
    plain_at e m = let s = split_at e L m in plain s.0 s.1 e s.2

    keeps : KeepsRules (rotate_work path prefix n) L
    keeps = record {
      stamped = stamps;
      legal = legal;
      complete = complete;
      ordered = ordered;
      ours = each_among (IsOurs (rotate_work path prefix n)) L (λ e m. record {
        by = subst (λ k. IsAmong k (Inner 0 ∷ [])) (sym (by_0 e m)) (here []);
        leases = λ j s w. absurd (plain_lease e.what j s (plain_at e m) w);
        owns = λ r s w. owner r (plain_acquire e.what r s (plain_at e m) w) ∙ ap Some (sym (by_0 e m));
      });
      scopes = (scopes, tt);
      leaving = λ P Q e j x is by what. absurd (false≢true (sym (ap cancels_nothing what) ∙ stays P Q e is));
      given = tt;
    }

pub returns : goal.returns
returns c = record {
  two = λ P Q e q. at_most_is (length (open_files (P ++ e ∷ []))) (each_event (λ P e. at_most (length (open_files (P ++ e ∷ [])))) two_files P Q e refl q);
  failed = λ P Q e q. at_most_is (length (open_files (P ++ e ∷ []))) (each_event (λ P e. at_most (length (open_files (P ++ e ∷ [])))) failed_open P Q e refl q);
  late = λ h. let t = h (stamped 0 ((Inner 0, Acquire 0 0) ∷ (Inner 0, Open 1 0) ∷ (Inner 0, Acquire 1 1) ∷ (Inner 0, Open 2 0) ∷ (Inner 0, Acquire 2 2) ∷ (Inner 0, Open 3 0) ∷ [])) (stamped 7 ((Inner 0, Close 0 Succeeded) ∷ (Inner 0, Final 3 Succeeded true) ∷ (Inner 0, Final 2 Succeeded true) ∷ (Inner 0, Final 1 Succeeded true) ∷ (Inner 0, Final 0 Succeeded true) ∷ [])) (record { stamp = 6; by = Inner 0; what = Acquire 3 3 }) refl in absurd (omega arith);
  rules = λ n path prefix. keeps n path prefix two_files (stamped_sound two_files two_files refl refl) (legal_sound two_files refl) (complete_sound two_files (legal_sound two_files refl) refl) (ordered_sound two_files refl) (omega arith)
      (λ P Q e is. each_event (λ P e. is_plain e.what) two_files P Q e refl is) (λ P Q e is. each_event (λ P e. is_ours e.by) two_files P Q e refl is) (λ P Q e is. each_event (λ P e. cancels_nothing e.what) two_files P Q e refl is);
  failed_rules = λ n path prefix. keeps n path prefix failed_open (stamped_sound failed_open failed_open refl refl) (legal_sound failed_open refl) (complete_sound failed_open (legal_sound failed_open refl) refl) (ordered_sound failed_open refl) (omega arith)
      (λ P Q e is. each_event (λ P e. is_plain e.what) failed_open P Q e refl is) (λ P Q e is. each_event (λ P e. is_ours e.by) failed_open P Q e refl is) (λ P Q e is. each_event (λ P e. cancels_nothing e.what) failed_open P Q e refl is);
}
