-- What was done in a first stretch and in a second was done in both.
use Rattle.std.specs.Prelude.{ℕ, ◌+◌, Bool, length, refl}
use Rattle.std.proofs.Common.{inl, inr, ◌∙◌, subst, sym, ⊎_elim}
use Rattle.chunk_core.specs.declared.code.Exit.{Exit}
use Rattle.device_port.specs.Device.{DeviceTold}
use Rattle.pull_turns.specs.Around.{IsNested, IsUntried}
use Rattle.pull_turns.specs.Around.IsNested.{nesting}
use Rattle.res_ledger.specs.Ledger.LiesWithin.{same}
use Rattle.row_seat.specs.declared.view.View.{View}
use Rattle.row_seat.specs.Views.{IsWithin}
use Rattle.scope_tree.proofs.Keeps.{within_trans}
use Rattle.tree_laws.specs.Called.Called.{none}
use Rattle.tree_laws.proofs.Alone.{alone_same, alone_then}
use Rattle.tree_laws.proofs.Follows.{called_then}
use Rattle.pull_stepper.specs.declared.resources.Resources.{Resources}
use Rattle.pull_stepper.specs.Held.{FinishesDevice}
use Rattle.pull_stepper.specs.Resources.{Later, around_of, site}
use Rattle.pull_stepper.specs.Sites.{Since, Site, around, pay_of, told_by}

module _ {V : Type 0} (told : V → DeviceTold) (ends : V → Exit → Bool → V → Type 0) where
  pub since_same : (x : Site V) → Since told ends x x
  since_same x = record {
    calls = none;
    alone = alone_same x.tree.seat;
    shelf = λ s m. inl m;
    from = refl;
    places = refl;
    same = λ p. record { number = refl; place = refl; present = refl; content = refl };
    taken = λ p e. e;
  }

  pub since_then : (x y z : Site V) → Since told ends x y → Since told ends y z → Since told ends x z
  since_then x y z a b = record {
    calls = called_then a.calls b.calls;
    alone = alone_then x.tree.seat y.tree.seat z.tree.seat a.alone b.alone;
    shelf = λ s m. ⊎_elim
        (λ n. a.shelf s n)
        (λ p. inr (subst (λ n. IsWithin x.from (x.from + n) s.row) a.places (subst (λ f. IsWithin f (f + length y.slots) s.row) a.from p)))
        (b.shelf s m);
    from = b.from ∙ a.from;
    places = b.places ∙ a.places;
    same = λ p. let s = a.same p in let t = b.same p in record { number = t.number ∙ s.number; place = t.place ∙ s.place; present = t.present ∙ s.present; content = t.content ∙ s.content };
    taken = λ p e. b.taken p (a.taken p e);
  }

-- what lies within a scope lies within all that that lies in
pub around_nested : {V : Type 0} (told : V → DeviceTold) (x : Site V) → IsNested (around told x)
around_nested told x = nesting (λ k. same k) (λ i j k w v. within_trans w v)

-- a device that waits was never asked
pub waits_untried : {S V D : Type 0} (view : S → View V) (told : V → DeviceTold) (o : Resources S V V D) (p : ℕ) → (around_of view told o).waits p → IsUntried ((around_of view told o).told p)
waits_untried view told o p w = subst (λ s. IsUntried (told_by told s (pay_of (site view o).tree p))) (sym w.1) (record { opens = w.2.opens; open_faults = w.2.open_faults })

module _ {S V D : Type 0} (view : S → View V) (told : V → DeviceTold) (fits : S → D → Type 0) where
  -- nothing was done
  pub later_same : (a : Resources S V V D) (d : D) → Later view told fits a d a d
  later_same a d = record { since = since_same told (FinishesDevice told) _; others = λ o n f. f }

  -- one stretch after the other
  pub later_then : (a b c : Resources S V V D) (d e f : D) → Later view told fits a d b e → Later view told fits b e c f → Later view told fits a d c f
  later_then a b c d e f h i = record {
    since = since_then told (FinishesDevice told) _ _ _ h.since i.since;
    others = λ o n t. i.others o (λ q. n (q ∙ h.since.alone.by)) (h.others o n t);
  }
