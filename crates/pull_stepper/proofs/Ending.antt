-- What closing rows does to the devices in them, where no lease keeps one.
use Rattle.std.proofs.Common.{◌≡◌, ◌≢◌, ℕ, ◌+◌, ◌⊎◌, Bool, true, false, nat_eq, List, [], ◌∷◌, ◌++◌, Some, inl, inr, refl, sym, ap, ◌∙◌, subst, ⊎_elim, append_assoc, append-nil}
use Rattle.std.proofs.lemmas.Bool.{cases_eq}
use Rattle.chunk_core.specs.declared.code.Exit.{Exit}
use Rattle.chunk_core.specs.Lists.{IsAmong}
use Rattle.chunk_core.specs.Lists.IsAmong.{here, there}
use Rattle.chunk_core.proofs.Members.{among_snoc}
use Rattle.device_port.specs.Device.{DeviceTold}
use Rattle.pull_turns.specs.Around.{gist}
use Rattle.res_ledger.specs.declared.event.Event.{Event}
use Rattle.res_ledger.specs.declared.event.What.TheVariants.{Final, Lease}
use Rattle.res_ledger.specs.Ledger.{Covers}
use Rattle.res_ledger.proofs.Apart.{apart}
use Rattle.res_ledger.proofs.Ledgers.{covers_snoc}
use Rattle.row_seat.specs.declared.view.Left.TheVariants.{Yours}
use Rattle.row_seat.specs.declared.view.View.{View}
use Rattle.row_seat.specs.Views.{HasRow, without_row}
use Rattle.scope_tree.specs.declared.branch.Spent.{Spent}
use Rattle.scope_tree.specs.Released.{LetsGo, Released, finalized}
use Rattle.scope_tree.specs.Released.Holder.{owner}
use Rattle.scope_tree.specs.Released.Released.{done, stays, ends_so}
use Rattle.scope_tree.specs.Rows.{Once}
use Rattle.scope_tree.proofs.Follows.{LetGo, let_go}
use Rattle.scope_tree.proofs.Lists.{keep_row, lose_row}
use Rattle.scope_tree.proofs.Once.{gone_without, once_without}
use Rattle.scope_tree.proofs.Owning.{finished_open, owner_pays}
use Rattle.pull_stepper.specs.Held.{FinishesDevice, closed_as}
use Rattle.pull_stepper.specs.Sites.{IsClosedDevice, pay_in, pays, told_or}
use Rattle.pull_stepper.proofs.Payloads.{pay_back, pay_front, pay_here, pay_left, pay_once, pay_past, pay_right, pay_without, pays_append}
use Rattle.pull_stepper.proofs.Tellings.{IsSameOrShut, shut_then}

module _ {V : Type 0} where
  -- no Lease of the view's own stream covers an open row
  abbrev pub IsBare : View V → Type 0
  IsBare v = (j r : ℕ) → HasRow v.opened r → ¬ (Covers v.events j v.by r)

  -- an event that is no Lease covers nothing
  pub bare_noted : (v w : View V) (e : Event) → ((j s : ℕ) → e.what ≢ Lease j s) → w.by ≡ v.by → w.events ≡ v.events ++ e ∷ [] → ((r : ℕ) → HasRow w.opened r → HasRow v.opened r) → IsBare v → IsBare w
  bare_noted v w e n by events less b j r h c =
      ⊎_elim (λ o. b j r (less r h) o) (λ o. n j o.0 o.2)
      (covers_snoc v.events e j r v.by (subst (λ k. Covers (v.events ++ e ∷ []) j k r) by (subst (λ L. Covers L j w.by r) events c)))

  -- a list with another row at its end
  pub pay_snoc : (q : ℕ) (xs : List (ℕ × V)) (y : ℕ × V) → y.0 ≢ q → pay_in q (xs ++ y ∷ []) ≡ pay_in q xs
  pay_snoc q xs y n = pay_front q xs (y ∷ []) [] (pay_past q y [] n) ∙ ap (pay_in q) (append-nil xs)

  ended_has : (xs : List (Spent V)) (x : Spent V) (r : ℕ) → HasRow (pays (xs ++ x ∷ [])) r → HasRow (pays xs) r ⊎ (r ≡ x.row)
  ended_has xs x r h = ⊎_elim (λ m. inl (h.0, m)) (λ e. inr (ap (λ y. y.0) e)) (among_snoc (pays xs) (r, h.0) (x.row, x.pay) (subst (λ l. IsAmong (r, h.0) l) (pays_append xs (x ∷ [])) h.1))

  module _ (told : V → DeviceTold) where
    -- each open row's device is open
    abbrev pub HasOpen : View V → Type 0
    HasOpen v = (r : ℕ) (d : V) → IsAmong (r, d) v.opened → (told d).is_open ≡ true

    shut_as : (x : Exit) (d e : V) (ok : Bool) → told e ≡ closed_as x ok (told d) → IsSameOrShut x (told d) (told e)
    shut_as x d e true h = inr (ap gist h, ap (λ t. t.exit) h)
    shut_as x d e false h = inr (ap gist h, ap (λ t. t.exit) h)

    -- the row of y is open no more, and stands on the shelf
    step_told : (x : Exit) (q : ℕ) (opened : List (ℕ × V)) (old : List (Spent V)) (y : Spent V) (p : V) → Once opened → IsAmong (y.row, p) opened → ¬ (HasRow (pays old) y.row) → IsSameOrShut x (told p) (told y.pay)
        → IsSameOrShut x (told_or told (pay_in q (opened ++ pays old))) (told_or told (pay_in q (without_row y.row opened ++ pays (old ++ y ∷ []))))
    step_told x q opened old y p o m n g =
        let z : ℕ × V = (y.row, y.pay) in
        ⊎_elim
        (λ e.
        let was : pay_in y.row (opened ++ pays old) ≡ Some p = pay_left y.row p opened (pays old) (pay_once y.row p opened o m) in
        let now : pay_in y.row (without_row y.row opened ++ pays (old ++ y ∷ [])) ≡ Some y.pay =
        pay_right y.row (without_row y.row opened) (pays (old ++ y ∷ [])) (gone_without y.row opened o) ∙ ap (pay_in y.row) (pays_append old (y ∷ [])) ∙ pay_right y.row (pays old) (z ∷ []) n ∙ pay_here y.row z [] refl in
        subst (λ r. IsSameOrShut x (told_or told (pay_in r (opened ++ pays old))) (told_or told (pay_in r (without_row y.row opened ++ pays (old ++ y ∷ []))))) e
        (subst (λ t. IsSameOrShut x (told_or told t) (told_or told (pay_in y.row (without_row y.row opened ++ pays (old ++ y ∷ []))))) (sym was)
        (subst (λ t. IsSameOrShut x (told p) (told_or told t)) (sym now) g)))
        (λ ne. inl (ap (told_or told)
        (pay_back q (without_row y.row opened) opened (pays (old ++ y ∷ [])) (pay_without y.row q opened (λ i. ne (sym i)))
        ∙ pay_front q opened (pays (old ++ y ∷ [])) (pays old) (ap (pay_in q) (pays_append old (y ∷ [])) ∙ pay_snoc q (pays old) z ne))))
        (cases_eq y.row q)

  module _ (told : V → DeviceTold) (once : (d : V) → (told d).is_open ≡ true → ((told d).opens ≡ 1) × ((told d).closes ≡ 0) × ((told d).close_faults ≡ 0)) where
    is_closed_device : (x : Exit) (d e : V) (ok : Bool) → (told d).is_open ≡ true → told e ≡ closed_as x ok (told d) → IsClosedDevice (told e) x ok
    is_closed_device x d e true o h = let k = once d o in record {
      is_open = ap (λ t. t.is_open) h;
      opens = ap (λ t. t.opens) h ∙ k.0;
      closes = ap (λ t. t.closes) h ∙ ap (λ n. n + 1) k.1;
      exit = ap (λ t. t.exit) h;
      answer = sym (ap (λ n. nat_eq n 0) (ap (λ t. t.close_faults) h ∙ k.2));
    }
    is_closed_device x d e false o h = let k = once d o in record {
      is_open = ap (λ t. t.is_open) h;
      opens = ap (λ t. t.opens) h ∙ k.0;
      closes = ap (λ t. t.closes) h ∙ ap (λ n. n + 1) k.1;
      exit = ap (λ t. t.exit) h;
      answer = sym (ap (λ n. nat_eq n 0) (ap (λ t. t.close_faults) h));
    }

    module _ (e : Exit) where
      less_open : (v u : View V) (y : Spent V) (n : ℕ) → LetsGo owner v y.row Yours u → (r : ℕ) (d : V) → IsAmong (r, d) (finalized e u y n).opened → IsAmong (r, d) v.opened
      less_open v u y n l r d m = lose_row y.row (r, d) v.opened (subst (λ o. IsAmong (r, d) o) (let_go owner v y.row Yours u l).opened m)

      bare_next : (v u : View V) (y : Spent V) (n : ℕ) → LetsGo owner v y.row Yours u → IsBare v → IsBare (finalized e u y n)
      bare_next v u y n l b =
          let z : Event = record { stamp = n; by = u.by; what = Final y.row e y.ok } in
          let g : LetGo owner v y.row Yours u = let_go owner v y.row Yours u l in
          bare_noted v (finalized e u y n) z (λ j s i. apart i refl) (ap (λ t. t.by) g.same) (ap (λ t. t.events ++ z ∷ []) g.same) (λ q h. (h.0, less_open v u y n l q h.0 h.1)) b

      -- each device that ended was opened, and closed with this exit
      pub ended_device : {T : List ℕ} {v w : View V} {ys : List (Spent V)} (y : Spent V) → Released (FinishesDevice told) e owner T v ys w → HasOpen told v → IsAmong y ys → IsClosedDevice (told y.pay) y.exit y.ok
      ended_device y t o i =
          let a = owner_pays y t i in
          subst (λ x. IsClosedDevice (told y.pay) x y.ok) (sym a.2) (is_closed_device e a.0 y.pay y.ok (o y.row a.0 a.1) (a.3.closed (o y.row a.0 a.1)))

      pub ended_bare : {T : List ℕ} {v w : View V} {ys : List (Spent V)} → Released (FinishesDevice told) e owner T v ys w → IsBare v → IsBare w
      ended_bare (done v) b = b
      ended_bare (stays v u r l t) b = absurd (b l.3.1.0 r (l.0, l.1) l.3.1.1.0)
      ended_bare (ends_so v u y n l f t) b = ended_bare t (bare_next v u y n l b)

      -- each row that was open is open or ended
      pub open_or_ended : {T : List ℕ} {v w : View V} {ys : List (Spent V)} (q : ℕ) → Released (FinishesDevice told) e owner T v ys w → IsBare v → HasRow v.opened q → HasRow w.opened q ⊎ ((y : Spent V) × IsAmong y ys × (y.row ≡ q))
      open_or_ended q (done v) b h = inl h
      open_or_ended q (stays v u r l t) b h = absurd (b l.3.1.0 r (l.0, l.1) l.3.1.1.0)
      open_or_ended q (ends_so {ys = ys} v u y n l f t) b h =
          ⊎_elim
          (λ i. inr (y, here ys, sym i))
          (λ ne. ⊎_elim (λ o. inl o) (λ o. inr (o.0, there y o.1, o.2))
          (open_or_ended q t (bare_next v u y n l b) (h.0, subst (λ o. IsAmong (q, h.0) o) (sym (let_go owner v y.row Yours u l).opened) (keep_row y.row q h.0 v.opened h.1 ne))))
          (cases_eq q y.row)

      -- each device tells what it told, or was closed with this exit
      pub ended_told : {T : List ℕ} {v w : View V} {ys : List (Spent V)} (q : ℕ) (old : List (Spent V)) → Released (FinishesDevice told) e owner T v ys w → IsBare v → HasOpen told v → Once v.opened → ((r : ℕ) → HasRow v.opened r → ¬ (HasRow (pays old) r))
          → IsSameOrShut e (told_or told (pay_in q (v.opened ++ pays old))) (told_or told (pay_in q (w.opened ++ pays (old ++ ys))))
      ended_told q old (done v) b o k n = inl (ap (λ l. told_or told (pay_in q (v.opened ++ pays l))) (append-nil old))
      ended_told q old (stays v u r l t) b o k n = absurd (b l.3.1.0 r (l.0, l.1) l.3.1.1.0)
      ended_told {w = w} q old (ends_so {ys = ys} v u y i l f t) b o k n =
          let less = (let_go owner v y.row Yours u l).opened in
          let m = (finished_open v u y i l f).0 in
          let first = step_told told e q v.opened old y f.pay k m (n y.row (f.pay, m)) (shut_as told e f.pay y.pay y.ok (f.finish.closed (o y.row f.pay m))) in
          let second = ended_told q (old ++ y ∷ []) t (bare_next v u y i l b) (λ r d z. o r d (less_open v u y i l r d z)) (subst Once (sym less) (once_without y.row v.opened k))
          (λ r h j. ⊎_elim (n r (h.0, less_open v u y i l r h.0 h.1)) (λ z. gone_without y.row v.opened k (subst (λ q. HasRow (without_row y.row v.opened) q) z (h.0, subst (λ c. IsAmong (r, h.0) c) less h.1))) (ended_has old y r j)) in
          shut_then e (told_or told (pay_in q (v.opened ++ pays old))) (told_or told (pay_in q (without_row y.row v.opened ++ pays (old ++ y ∷ [])))) (told_or told (pay_in q (w.opened ++ pays (old ++ y ∷ ys)))) first
          (subst (λ z. IsSameOrShut e (told_or told (pay_in q (z ++ pays (old ++ y ∷ [])))) (told_or told (pay_in q (w.opened ++ pays (old ++ y ∷ ys))))) less
          (subst (λ z. IsSameOrShut e (told_or told (pay_in q (u.opened ++ pays (old ++ y ∷ [])))) (told_or told (pay_in q (w.opened ++ pays z)))) (append_assoc old (y ∷ []) ys) second))
