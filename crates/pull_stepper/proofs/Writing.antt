-- What a site is after the device in an open row was written.
use Rattle.std.proofs.Common.{◌≡◌, Bool, ℕ, ◌+◌, ◌≤◌, List, length, take, refl, sym, ap, ◌∙◌, subst}
use Rattle.std.specs.Prelude.{IfOk, OnErr, Result, Ok, Err}
use Rattle.chunk_core.specs.declared.code.Exit.{Exit}
use Rattle.chunk_core.specs.Lists.{IsAmong}
use Rattle.device_port.specs.Device.{DeviceTold, with_written}
use Rattle.pull_turns.specs.Around.{FailsToWrite, SameScopes, TakesPiece}
use Rattle.row_seat.specs.declared.view.View.{View}
use Rattle.row_seat.specs.Views.{paid}
use Rattle.scope_tree.specs.Rows.{Once}
use Rattle.pull_stepper.specs.Sites.{InOrder, SameDevice, Site, around}
use Rattle.pull_stepper.proofs.Reading.{changed, changed_affords, changed_holds, changed_keeps, seated, told_after, told_before}

-- a device that was written, well or not, is the same
pub same_written : (d e : DeviceTold) (bytes : List ℕ) → e ≡ with_written d bytes → SameDevice d e
same_written d e bytes h = subst (λ t. SameDevice d t) (sym h) (record { number = refl; place = refl; present = refl; content = refl })

pub same_unwritten : (d e : DeviceTold) → e ≡ record d { write_faults = d.write_faults + 1 } → SameDevice d e
same_unwritten d e h = subst (λ t. SameDevice d t) (sym h) (record { number = refl; place = refl; present = refl; content = refl })

module _ {V : Type 0} (told : V → DeviceTold) (ends : V → Exit → Bool → V → Type 0) (x : Site V) (p : ℕ) (d e : V) (once : Once x.tree.seat.opened) (order : InOrder told x) (held : IsAmong (p, d) x.tree.seat.opened) where
  scopes_same : (open' : (told e).is_open ≡ (told d).is_open) (same : SameDevice (told d) (told e)) → SameScopes (around told x) (around told (changed told ends x p d e once order held open' same))
  scopes_same open' same = record { opened = λ k o. o; closed = λ k y. (λ i. i, λ i. i); within = λ k c. (λ w. w, λ w. w); holds = changed_holds told ends x p d e once order held open' same }

  pub takes : (n : ℕ) (bytes : List ℕ) (h : told e ≡ with_written (told d) (take n bytes)) → (1 ≤ n) × (n ≤ length bytes)
      → TakesPiece (around told x) p n bytes (around told (changed told ends x p d e once order held (ap (λ t. t.is_open) h) (same_written (told d) (told e) (take n bytes) h)))
  takes n bytes h count =
      let o = ap (λ t. t.is_open) h in let s = same_written (told d) (told e) (take n bytes) h in record {
        some = count.0;
        count = count.1;
        told = told_after told ends x p d e once order held o s ∙ h ∙ ap (λ t. with_written t (take n bytes)) (sym (told_before told x p d once order held));
        keeps = changed_keeps told ends x p d e once order held o s;
        scopes = scopes_same o s;
        affords = changed_affords told ends x p d e once order held o s;
      }

  pub fails : (h : told e ≡ record (told d) { write_faults = (told d).write_faults + 1 })
      → FailsToWrite (around told x) p (around told (changed told ends x p d e once order held (ap (λ t. t.is_open) h) (same_unwritten (told d) (told e) h)))
  fails h =
      let o = ap (λ t. t.is_open) h in let s = same_unwritten (told d) (told e) h in record {
        told = told_after told ends x p d e once order held o s ∙ h ∙ ap (λ (t : DeviceTold). record t { write_faults = t.write_faults + 1 }) (sym (told_before told x p d once order held));
        keeps = changed_keeps told ends x p d e once order held o s;
        scopes = scopes_same o s;
        affords = changed_affords told ends x p d e once order held o s;
      }

-- a write, well or not
pub after_write : {V F : Type 0} (told : V → DeviceTold) (d e : V) (bytes : List ℕ) (r : Result ℕ F) → IfOk r (λ n. told e ≡ with_written (told d) (take n bytes)) → OnErr r (told e ≡ record (told d) { write_faults = (told d).write_faults + 1 })
    → ((told e).is_open ≡ (told d).is_open) × SameDevice (told d) (told e)
after_write told d e bytes (Ok n) h f = (ap (λ t. t.is_open) h, same_written (told d) (told e) (take n bytes) h)
after_write told d e bytes (Err z) h f = (ap (λ t. t.is_open) f, same_unwritten (told d) (told e) f)

module _ {V : Type 0} (told : V → DeviceTold) (ends : V → Exit → Bool → V → Type 0) (x : Site V) (p : ℕ) (d e : V) (once : Once x.tree.seat.opened) (order : InOrder told x) (held : IsAmong (p, d) x.tree.seat.opened) (v : View V) (is : v ≡ paid x.tree.seat p e) where
  pub takes_if : {F : Type 0} (r : Result ℕ F) (bytes : List ℕ) → IfOk r (λ n. (1 ≤ n) × (n ≤ length bytes)) → IfOk r (λ n. told e ≡ with_written (told d) (take n bytes)) → IfOk r (λ n. TakesPiece (around told x) p n bytes (around told (seated told ends x p d e once order held v is v)))
  takes_if (Ok n) bytes count h = subst (λ w. TakesPiece (around told x) p n bytes (around told (record x { tree = record x.tree { seat = w } }))) (sym is) (takes told ends x p d e once order held n bytes h count)
  takes_if (Err z) bytes count h = tt

  pub fails_if : {F : Type 0} (r : Result ℕ F) → OnErr r (told e ≡ record (told d) { write_faults = (told d).write_faults + 1 }) → OnErr r (FailsToWrite (around told x) p (around told (seated told ends x p d e once order held v is v)))
  fails_if (Ok n) h = tt
  fails_if (Err z) h = subst (λ w. FailsToWrite (around told x) p (around told (record x { tree = record x.tree { seat = w } }))) (sym is) (fails told ends x p d e once order held h)
