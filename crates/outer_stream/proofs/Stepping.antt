-- The steps of the outer stream that open and close child scopes.
use Rattle.std.proofs.Common.{◌≡◌, ◌≢◌, ℕ, zero, suc, ◌+◌, ◌*◌, ◌≤◌, List, [], ◌∷◌, ◌++◌, append-nil, append_assoc, refl, sym, ap, ◌∙◌, subst, arith}
use Rattle.chunk_core.specs.declared.code.Exit.TheVariants.{Succeeded}
use Rattle.device_port.specs.Device.{DeviceTold}
use Rattle.join_tree.specs.Given.{given}
use Rattle.join_tree.specs.Mains.{IsMain}
use Rattle.join_tree.specs.Progress.{reading}
use Rattle.join_tree.proofs.Keeping.{keeps_same}
use Rattle.res_ledger.specs.declared.event.What.{What}
use Rattle.res_ledger.specs.declared.event.What.TheVariants.{Close, Open}
use Rattle.scope_tree.specs.Calls.{Seen}
use Rattle.outer_stream.specs.Parts.{closing, opening}
use Rattle.outer_stream.specs.Steps.{Steps, children, ends}
use Rattle.outer_stream.proofs.Keeping.{rows_same, rows_then}

module _ {V : Type 0} (told : V → DeviceTold) where
  steps_stay : (a : Seen V) → Steps told [] 0 0 a a
  steps_stay a = record {
    main = λ width n q h root. subst (λ T. IsMain (ends told) width n a (record q { tables = T })) (sym (append-nil q.tables)) h;
    gives = sym (append-nil (given a.seat));
    guests = keeps_same a a refl;
    rows = rows_same a;
    events = omega arith;
    room = record { opens = omega arith; used = omega arith; own = λ T. omega arith; scopes = refl; rows = refl };
  }

  -- the part stands in the root
  pub root_left : (s : ℕ) (a : Seen V) → s ≡ 0 → Steps told (closing s) 0 0 a a
  root_left s a e = subst (λ i. Steps told (closing i) 0 0 a a) (sym e) (steps_stay a)

  pub root_entered : (s : ℕ) (a : Seen V) → s ≡ 0 → Steps told (opening s) (children s) (2 * children s) a a
  root_entered s a e = subst (λ i. Steps told (opening i) (children i) (2 * children i) a a) (sym e) (steps_stay a)

  -- it has a child scope
  pub child_left : (s : ℕ) (a b : Seen V) → s ≢ 0 → Steps told (Close s Succeeded ∷ []) 0 0 a b → Steps told (closing s) 0 0 a b
  child_left zero a b some h = absurd (some refl)
  child_left (suc s) a b some h = h

  pub child_entered : (s : ℕ) (a b : Seen V) → 1 ≤ s → Steps told (Open s 0 ∷ []) 1 2 a b → Steps told (opening s) (children s) (2 * children s) a b
  child_entered zero a b some h = absurd (omega (some, arith))
  child_entered (suc s) a b some h = h

  -- one step after another
  pub steps_then : (E F : List What) (k l m r : ℕ) (a b c : Seen V) → Steps told E k m a b → Steps told F l r b c → Steps told (E ++ F) (k + l) (m + r) a c
  steps_then E F k l m r a b c f g = record {
    main = λ width n q h root. subst (λ T. IsMain (ends told) width n c (record q { tables = T })) (append_assoc q.tables E F) (g.main width n (reading q E) (f.main width n q h root) root);
    gives = g.gives ∙ (ap (λ L. L ++ F) f.gives ∙ append_assoc (given a.seat) E F);
    guests = record {
      out = g.guests.out ∙ f.guests.out;
      splits = g.guests.splits ∙ f.guests.splits;
      empty = λ i h. g.guests.empty i (f.guests.empty i h);
      lent = λ j T h. g.guests.lent j T (f.guests.lent j T h);
    };
    rows = rows_then a b c f.rows g.rows;
    events = let e = f.events in let h = g.events in omega (e, h, arith);
    room = record {
      opens = let e = f.room.opens in let h = g.room.opens in omega (e, h, arith);
      used = let e = f.room.used in let h = g.room.used in omega (e, h, arith);
      own = λ T. let e = f.room.own T in let h = g.room.own T in omega (e, h, arith);
      scopes = g.room.scopes ∙ f.room.scopes;
      rows = g.room.rows ∙ f.room.rows;
    };
  }
