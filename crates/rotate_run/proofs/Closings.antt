-- A tree with which nothing was done is closed.
use Rattle.std.proofs.Common.{◌≡◌, ℕ, List, [], ◌++◌, Option, Some, None, refl, sym, ap, ◌∙◌, subst, append-nil}
use Rattle.chunk_core.specs.Lists.{IsAmong}
use Rattle.chunk_core.specs.declared.code.Code.TheVariants as code
use Rattle.chunk_core.specs.declared.code.Exit.{Exit}
use Rattle.chunk_core.specs.declared.code.Exit.TheVariants.{Errored}
use Rattle.chunk_core.specs.declared.code.How.TheVariants as how
use Rattle.chunk_core.proofs.Members.{among_nil}
use Rattle.device_port.specs.Device.{DeviceTold}
use Rattle.res_ledger.specs.declared.event.What.{What}
use Rattle.res_ledger.specs.Own.{latest, opens, own, rows}
use Rattle.row_seat.specs.declared.view.View.{View}
use Rattle.scope_tree.specs.declared.branch.Spent.{Spent}
use Rattle.scope_tree.specs.Calls.{ClosesScope, IsClosedScope, Seen}
use Rattle.scope_tree.specs.Rights.{HasNoLeaseBut}
use Rattle.scope_tree.specs.Trace.{trace}
use Rattle.pull_stepper.specs.Held.{FinishesDevice}
use Rattle.hot_swap.specs.declared.swap.Held.{Held}
use Rattle.hot_swap.specs.Swaps.{EndInTurn, EndsAll, IsUnleased}
use Rattle.rotate_files.specs.Beginning.{IsUnused}
use Rattle.rotate_files.proofs.Swapping.{ends_none}
use Rattle.rotate_run.specs.Rans.{ClosesUnopened}

module _ {V : Type 0} (a : Seen V) (u : IsUnused a) where
  pub none_noted : trace a.seat ≡ []
  none_noted = ap (λ L. own a.seat.by L) u.start.events

  pub no_scope : opens (trace a.seat) ≡ []
  no_scope = ap opens none_noted

  pub no_row : (r c : ℕ) → IsAmong (r, c) (rows (trace a.seat)) → c ≡ 0
  no_row r c m = absurd (among_nil (subst (λ (E : List What). IsAmong (r, c) (rows E)) none_noted m))

  pub no_lease : HasNoLeaseBut a.seat []
  no_lease = record {
    kept = λ j m. absurd (among_nil (subst (λ xs. IsAmong j xs) u.others.kept m));
    pairs = λ j r m. absurd (among_nil (subst (λ xs. IsAmong (j, r) xs) u.others.pairs m));
  }

  -- no device was closed
  pub closed_bare : (told : V → DeviceTold) (x : Exit) (b : Seen V) → EndsAll (FinishesDevice told) a None x b → b.shelf ≡ []
  closed_bare told x b e =
      let none : latest (rows (trace a.seat)) 0 ≡ [] = ap (λ E. latest (rows E) 0) none_noted in
      let t = ends_none (FinishesDevice told) x a.seat.opened b.seat.opened e.ended (subst (λ T. EndInTurn (FinishesDevice told) x T a.seat.opened e.ended b.seat.opened) none e.rows) in
      e.shelf ∙ (ap (λ l. a.shelf ++ l) t.0 ∙ (append-nil a.shelf ∙ u.shelf))

  -- what the closing of all leaves, where s is the tree
  pub closes_unused : (told : V → DeviceTold) (d : V) (s : Seen V) (h : Option Held) (v : View V) (shelf : List (Spent V)) → s ≡ a → h ≡ None
      → (IsUnleased s.seat → EndsAll (FinishesDevice told) s h Errored (record s { seat = v; shelf = shelf })) → ClosesScope (FinishesDevice told) s 0 Errored (record s { seat = v; shelf = shelf }) → IsClosedScope (record s { seat = v; shelf = shelf }) 0
      → ClosesUnopened told d a v shelf (how.Fault code.Open) (Some d)
  closes_unused told d s h v shelf is none ends closes root =
      let all : EndsAll (FinishesDevice told) s h Errored (record s { seat = v; shelf = shelf }) = ends (subst (λ (x : Seen V). IsUnleased x.seat) (sym is) (u.others.pairs, u.others.out)) in
      let bare_end : EndsAll (FinishesDevice told) a None Errored (record a { seat = v; shelf = shelf }) =
      subst (λ o. EndsAll (FinishesDevice told) a o Errored (record a { seat = v; shelf = shelf })) none (subst (λ (x : Seen V). EndsAll (FinishesDevice told) x h Errored (record x { seat = v; shelf = shelf })) is all) in
      record {
        how = refl;
        device = refl;
        bare = closed_bare told Errored (record a { seat = v; shelf = shelf }) bare_end;
        ends = bare_end;
        closes = subst (λ (x : Seen V). ClosesScope (FinishesDevice told) x 0 Errored (record x { seat = v; shelf = shelf })) is closes;
        root = subst (λ (x : Seen V). IsClosedScope (record x { seat = v; shelf = shelf }) 0) is root;
      }
