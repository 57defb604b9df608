-- The one device of the reader, and its ledger.
use Rattle.std.proofs.Common.{◌≡◌, ℕ, zero, suc, ◌≤◌, Bool, nat_eq, List, [], ◌∷◌, length, drop, Some, refl, sym, ◌∙◌, ap, subst, inl, inr, ⊎_elim, arith}
use Rattle.std.proofs.Math.Seq.{drop-append_seam}
use Rattle.std.specs.List.{AllByRecursion}
use Rattle.std.proofs.lemmas.List.Sorted.{IsPermutation-sym}
use Rattle.chunk_core.specs.Lists.{IsAmong}
use Rattle.chunk_core.specs.Lists.IsAmong.{here}
use Rattle.chunk_core.specs.declared.code.Exit.{Exit}
use Rattle.chunk_core.specs.declared.code.How.{How}
use Rattle.chunk_core.proofs.Each.{among_permuted, each_among}
use Rattle.chunk_core.proofs.Members.{among_cons, among_left, among_nil}
use Rattle.res_ledger.proofs.Prefixes.{split_at}
use Rattle.device_port.specs.Device.{DeviceTold, to_read}
use Rattle.device_port.specs.Depot.{DepotTold, content_at}
use Rattle.joined_runs.proofs.MadeRows as made
use Rattle.joined_runs.specs.Devices.{MadeComeBack}
use Rattle.res_ledger.specs.declared.event.Event.{Event}
use Rattle.res_ledger.specs.declared.event.StreamNo.TheVariants.{Outer}
use Rattle.res_ledger.specs.declared.event.What.{What}
use Rattle.res_ledger.specs.declared.event.What.TheVariants.{Acquire, Cancel, Close, Final, Open}
use Rattle.res_ledger.specs.Ledger.{Notes}
use Rattle.res_ledger.specs.Own.{opens, opens_of, own}
use Rattle.res_ledger.proofs.Ledgers.{at_noted}
use Rattle.res_ledger.proofs.Noted.{flat_holds, notes_own}
use Rattle.run_rules.specs.Devices.{DevicesAccounted, came_back}
use Rattle.run_rules.specs.Exits.{HasExit}
use Rattle.run_rules.specs.Homes.{IsTied}
use Rattle.run_rules.specs.Work.{RunRecord}
use Rattle.lone_stream.specs.Account.{ComesBack, IsAccountOf}
use Rattle.lone_stream.proofs.AloneWork as lone
use Rattle.lone_stream.proofs.Accounts.{its_own, no_cancel}
use Rattle.tee_rules.specs.Reader.{IsReaderHome, KeepsReaderRules, tee_places}

none_of : {A : Type 0} (xs : List A) → length xs ≤ 0 → xs ≡ []
none_of [] l = refl
none_of (x ∷ xs) l = absurd (omega (arith, l))

module _ (path : List ℕ) (old new : DepotTold) (w : ℕ → DeviceTold) (h : How) (L : List Event) (d : ComesBack old new (tee_places path) w) (a : IsAccountOf Outer 1 0 w h L) where
  pub accounted : DevicesAccounted old new (tee_places path) L
  accounted = lone.accounted (tee_places path) 0 old new w h L d a

  pub keeps_rules : KeepsReaderRules L
  keeps_rules = record { stamped = a.stamped; legal = a.legal; complete = a.complete; ordered = a.ordered; own = a.own; scopes = none_of (opens (own Outer L)) a.opened }

  -- a row that has a Final was acquired, so it is the only one
  row_ended : (r : ℕ) (x : Exit) (ok : Bool) (e : Event) → IsAmong e L → e.what ≡ Final r x ok → 0 ≡ r
  row_ended r x ok e i v =
      let parts = split_at e L i in
      let closed = a.complete.after_close parts.0 parts.1 e r x ok parts.2 v in
      let n : Notes parts.0 closed.0 (Acquire r closed.1) = closed.2 in
      let m : IsAmong n.0 L = subst (λ l. IsAmong n.0 l) (sym parts.2) (among_left (e ∷ parts.1) n.1) in
      let l = (a.acquired r closed.1 (n.0, m, its_own 1 0 w h L a n.0 m, n.3)).0 in omega (arith, l)

  tied_what : (e : Event) → IsAmong e L → (v : What) → e.what ≡ v → IsTied (λ r. w 0) v
  tied_what e i (Acquire r s) is =
      let o = a.acquired r s (e, i, its_own 1 0 w h L a e i, is) in
      let z : r ≡ 0 = omega (arith, o.0) in subst (λ k. (w k).opens ≡ 1) z o.1
  tied_what e i (Final r x ok) is =
      subst (λ k. ((w k).exit ≡ Some x) × (ok ≡ nat_eq (w k).close_faults 0)) (sym (row_ended r x ok e i is)) (a.ended r x ok (e, i, its_own 1 0 w h L a e i, is))
  tied_what e i v is = tt

  abbrev every : MadeComeBack old new (tee_places path) w
  every = lone.all_made old new (tee_places path) w d

  back_is : came_back old new ≡ d.back
  back_is = ap (λ ds. drop (length old.retired) ds) d.retired ∙ drop-append_seam old.retired d.back

  only_back : (x : DeviceTold) → IsAmong x d.back → x ≡ w 0
  only_back x m = ⊎_elim (λ e. e) (λ n. absurd (among_nil n)) (among_cons (among_permuted d.back (w 0 ∷ []) (IsPermutation-sym (w 0 ∷ []) d.back d.each) x m))

  -- its home
  pub reader_home : (c : RunRecord) → c.depot_old ≡ old → c.depot_new ≡ new → c.events ≡ L → IsReaderHome path c (w 0)
  reader_home c before after is =
      let same : came_back c.depot_old c.depot_new ≡ came_back old new = ap (λ x. came_back x c.depot_new) before ∙ ap (λ x. came_back old x) after in
      let back : came_back c.depot_old c.depot_new ≡ d.back = same ∙ back_is in
      let all_back : came_back c.depot_old c.depot_new ≡ every.back = same ∙ made.back_is (tee_places path) old new w every in
      let p = made.placed_at (tee_places path) old new w every 0 (to_read path) refl in
      record {
        place = p.0;
        content = p.1 ∙ ap (λ (t : DepotTold). content_at t.files path) (sym before);
        back = ⊎_elim (λ i. inl (subst (λ ds. IsAmong (w 0) ds) (sym all_back) i)) (λ u. inr u) p.2;
        tied = subst (λ (l : List Event). AllByRecursion (λ e. IsTied (λ r. w 0) e.what) l) (sym is) (each_among (λ (e : Event). IsTied (λ r. w 0) e.what) L (λ e i. tied_what e i e.what refl));
        only = λ x m. only_back x (subst (λ ds. IsAmong x ds) back m);
      }

  -- no scope was opened
  none_opened : (s q : ℕ) → Notes L Outer (Open s q) → ⊥
  none_opened s q n =
      let o : ℕ × ℕ = (s, q) in
      let m : IsAmong o (opens (own Outer L)) = flat_holds opens_of (Open s q) (own Outer L) o (notes_own L Outer (Open s q) n) (here []) in
      among_nil (subst (λ l. IsAmong o l) (none_of (opens (own Outer L)) a.opened) m)

  exit_what : (e : Event) → IsAmong e L → (v : What) → e.what ≡ v → HasExit (record { who = Outer; how = h }) v
  exit_what e i (Close zero x) is = a.exits x (e, i, its_own 1 0 w h L a e i, is)
  exit_what e i (Close (suc s) x) is =
      let t = at_noted L Outer (Close (suc s) x) a.legal (e, i, its_own 1 0 w h L a e i, is) in
      absurd (⊎_elim (λ z. let no : suc s ≡ 0 = z in omega (arith, no)) (λ o. none_opened (suc s) o.0 (o.1.0, t.2 o.1.0 o.1.1, o.1.2, o.1.3)) t.1.0)
  exit_what e i (Cancel j x) is = absurd (no_cancel 1 0 w h L a e i j x is)
  exit_what e i v is = tt

  -- what it noted of exits tells of its end
  pub exits : AllByRecursion (λ e. HasExit (record { who = Outer; how = h }) e.what) L
  exits = each_among (λ (e : Event). HasExit (record { who = Outer; how = h }) e.what) L (λ e i. exit_what e i e.what refl)
