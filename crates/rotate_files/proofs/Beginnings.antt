-- A rotation of which the file that is read is open, and no other.
use Rattle.std.proofs.Common.{◌≡◌, ◌≢◌, ℕ, ◌+◌, ◌*◌, ◌-◌, ◌<◌, ◌≤◌, false, List, [], ◌∷◌, ◌++◌, length, Option, Some, None, IfSome, refl, sym, ap, ◌∙◌, subst, ⊎_elim, arith}
use Rattle.chunk_core.specs.Lists.{IsAmong}
use Rattle.chunk_core.proofs.Members.{among_cons, among_nil}
use Rattle.device_port.specs.Device.{DeviceTold}
use Rattle.device_port.specs.Depot.{DepotTold, content_at}
use Rattle.res_ledger.specs.declared.event.What.{What}
use Rattle.res_ledger.specs.declared.event.What.TheVariants.{Acquire}
use Rattle.res_ledger.specs.Own.{opens, own, rows}
use Rattle.scope_tree.specs.Calls.{AcquiresRow, Seen, TakesRoom}
use Rattle.scope_tree.specs.Trace.{owed, trace}
use Rattle.scope_tree.proofs.Use.{acquired_said}
use Rattle.tree_laws.specs.Called.Called.{acquired, none}
use Rattle.tree_laws.proofs.Alone.{alone_acquires}
use Rattle.pull_stepper.specs.Held.{FinishesDevice}
use Rattle.hot_swap.specs.declared.swap.Held.{Held}
use Rattle.hot_swap.specs.Swaps.{IsHolding}
use Rattle.hot_swap.specs.TwoRows.NotesSwaps.{none as no_swaps}
use Rattle.rotate_rules.specs.Pieces.{IsFront}
use Rattle.rotate_files.specs.Beginning.{IsUnused}
use Rattle.rotate_files.specs.Copies.{IsCopying}
use Rattle.rotate_files.specs.Rotating.{AreFinished, IsRotating}
use Rattle.rotate_files.specs.Told.{HasMade, source_told}

module _ {V : Type 0} (a b : Seen V) (src : V) (unused : IsUnused a) (q : AcquiresRow a 0 0 src b) where
  -- only this was noted
  pub one_noted : trace b.seat ≡ Acquire 0 0 ∷ []
  one_noted = acquired_said q ∙ ap (λ L. own a.seat.by L ++ Acquire 0 0 ∷ []) unused.start.events

  pub none_opened : opens (trace b.seat) ≡ []
  none_opened = ap opens one_noted

  pub in_root : (r c : ℕ) → IsAmong (r, c) (rows (trace b.seat)) → c ≡ 0
  in_root r c m = ⊎_elim (λ e. ap (λ (x : ℕ × ℕ). x.1) e) (λ z. absurd (among_nil z)) (among_cons (subst (λ (E : List What). IsAmong (r, c) (rows E)) one_noted m))

  one_open : b.seat.opened ≡ (0, src) ∷ []
  one_open = ap (λ v. v.opened) q.seat ∙ ap (λ xs. xs ++ (0, src) ∷ []) unused.start.opened

  bare : b.shelf ≡ []
  bare = q.shelf ∙ unused.shelf

  spare : b.seat.spare ≡ a.seat.spare - 1
  spare = ap (λ v. v.spare) q.seat

  module _ (told : V → DeviceTold) (old : DepotTold) (prefix : List ℕ) (n : ℕ) (path : List ℕ) (h : Option Held) (is_none : h ≡ None) (holding : IsHolding b None)
      (empty : (r : ℕ) → r ≢ 0 → IsAmong r a.seat.empty → IsAmong r b.seat.empty) (room : TakesRoom 0 1 a b) (owes : owed b.seat ≡ owed a.seat + 1) where
    rotating_first : IsRotating told old prefix n b None 0 [] [] 0 src
    rotating_first = record {
      first = a;
      start = unused.start;
      others = unused.others;
      named = unused.named;
      bare = unused.shelf;
      calls = acquired a b 0 0 src none (record { scope = unused.root; row = unused.empty 0 (omega arith) }) q;
      alone = alone_acquires q;
      holding = holding;
      swaps = [];
      noted = one_noted;
      swapped = no_swaps;
      last = (refl, one_open, bare);
      finished = subst (AreFinished told old prefix n [] 0) (sym bare) tt;
      empty = λ r l m. empty r (λ e. absurd (omega arith)) (unused.empty r m);
      opens = ap length none_opened;
      used = room.used ∙ (let u = unused.used in omega arith);
      scopes = room.scopes ∙ unused.scopes;
      rows = room.rows ∙ unused.rows;
      free = let u = unused.owed in let s = unused.spare in omega (arith, u, s, owes, spare);
      few = omega arith;
    }

    front_none : (o : Option (List ℕ)) → IfSome o (λ c. IsFront [] c)
    front_none None = tt
    front_none (Some c) = (c, refl)

    copying_first : (now : DepotTold) → 1 ≤ n → HasMade old path prefix 0 now → told src ≡ source_told old path 0 false 0 → IsCopying told old prefix n path b None now 0 0 false 0
    copying_first now some made device = record {
      given = [];
      src = src;
      step = record { rotating = rotating_first; made = made; count = omega arith; fits = omega arith };
      source = record { device = device; front = front_none (content_at old.files path) };
      some = some;
    }

    -- nothing was copied yet
    pub begun : (now : DepotTold) (p : V) → 1 ≤ n → HasMade old path prefix 0 now → src ≡ p → told p ≡ source_told old path 0 false 0 → IsCopying told old prefix n path b h now 0 0 false 0
    begun now p some made same device = subst (λ o. IsCopying told old prefix n path b o now 0 0 false 0) (sym is_none) (copying_first now some made (ap told same ∙ device))
