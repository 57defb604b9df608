-- What calls of a tree leave of its room for events.
use Rattle.std.proofs.Common.{◌≡◌, ℕ, ◌+◌, ◌-◌, ◌≤◌, Bool, false, List, [], ◌∷◌, ◌++◌, length, length-append, refl, ap, ◌∙◌, arith, append-nil, reverse}
use Rattle.chunk_core.specs.declared.code.Exit.{Exit}
use Rattle.chunk_core.specs.Lists.IsAmong.{here}
use Rattle.res_ledger.specs.declared.event.What.{What}
use Rattle.res_ledger.specs.declared.event.What.TheVariants.{Cancel, Lease}
use Rattle.res_ledger.specs.Order.{finals}
use Rattle.res_ledger.specs.Own.{closes, is_closed, opens, teardown}
use Rattle.row_seat.specs.declared.view.View.{View}
use Rattle.row_seat.specs.Views.{joined, noted}
use Rattle.scope_tree.specs.Calls.{Cancels, Leases, Seen}
use Rattle.scope_tree.specs.Leased.{leased_all}
use Rattle.scope_tree.specs.Released.{away, said}
use Rattle.scope_tree.specs.Trace.{leasing, numbers, open_scopes, owed, trace}
use Rattle.scope_tree.proofs.Beneath.{closed_sound, not_true', open_pos}
use Rattle.scope_tree.proofs.Grown.{Grown, closes_finals, grown_note, grown_release, grown_scopes, opens_finals}
use Rattle.scope_tree.proofs.Lessee.{lease_opened}
use Rattle.scope_tree.proofs.Owed.{nothing_owed}
use Rattle.scope_tree.proofs.Owning.{owner_count}
use Rattle.scope_tree.proofs.Parting.{join_trace}
use Rattle.scope_tree.proofs.Releasing.{released_most, released_spare}
use Rattle.scope_tree.proofs.Use.{closed_now}
use Rattle.tree_laws.specs.Owing.{OwedStays, RootOwesNothing}
use Rattle.scope_tree.proofs.Rooms.{away_reverse}

-- what opens and closes nothing leaves what is owed, where no row is opened or closed
owed_same : {P : Type 0} (v w : View P) (E : List What) → Grown v w E → opens E ≡ [] → closes E ≡ [] → w.opened ≡ v.opened → owed w ≡ owed v
owed_same v w E g o c same = let a = grown_scopes g o c in let b : length w.opened ≡ length v.opened = ap length same in omega (a, b, arith)

leases_owe : {P : Type 0} (a b : Seen P) (s j : ℕ) (T : List ℕ) → Leases a s j T b → (owed b.seat ≡ owed a.seat) × (b.seat.spare ≡ a.seat.spare - 1)
leases_owe a b s j T o =
    let v = leased_all a.seat j T in
    (ap owed o.seat ∙ owed_same v (noted v (leasing a.seat j s o.stamp)) (Lease j s ∷ []) (grown_note v o.stamp (Lease j s)) refl refl refl, ap (λ x. x.spare) o.seat)

module _ {P : Type 0} {ends : P → Exit → Bool → P → Type 0} where
  cancels_owe : (a b : Seen P) (j : ℕ) (T : List ℕ) (x : Exit) → Cancels ends a j T x b → (owed b.seat ≡ owed a.seat) × (a.seat.spare ≤ b.seat.spare + 1 + away T a.seat.opened)
  cancels_owe a b j T x o =
      let E = Cancel j x ∷ finals x (said o.left.0) in
      let spare = released_spare o.left.2 in
      let less = released_most [] o.left.2 in
      let all : away (reverse T ++ []) a.seat.opened ≡ away T a.seat.opened = ap (λ l. away l a.seat.opened) (append-nil (reverse T)) ∙ away_reverse T a.seat.opened in (
        owed_same a.seat b.seat E (grown_release a.seat o.stamp (Cancel j x) o.left.2) (opens_finals x (said o.left.0)) (closes_finals x (said o.left.0)) (lease_opened o.left.2),
        omega (spare, less, all, arith),
      )

  pub owed_stays : OwedStays ends
  owed_stays = record {
    leases = leases_owe;
    splits = λ v j from to n. (refl, refl);
    joins = λ v w a. (let e : open_scopes (trace (joined v w)) ≡ open_scopes (trace v) = ap open_scopes (join_trace v w a) in omega (e, arith), refl);
    cancels = cancels_owe;
  }

pub root_owes_nothing : {S P D : Type 0} {ends : P → Exit → Bool → P → Type 0} (view : S → View P) → RootOwesNothing ends view D
root_owes_nothing view t u x s r root c =
    let v = view t.seat in
    let w = view u.seat in
    let none = nothing_owed w u.branches.items u.acquisitions.items r.kept (closed_now c) in
    let count = owner_count c.torn.2 in
    let spare = released_spare c.torn.2 in
    let fewer = released_most [] c.torn.2 in
    let all = length-append (teardown (trace v) 0) [] in
    let here' : is_closed (trace v) 0 ≡ false = not_true' (is_closed (trace v) 0) (λ h. root.1 (closed_sound v 0 h)) in
    let one : 1 ≤ open_scopes (trace v) = open_pos (trace v) (0 ∷ numbers (opens (trace v))) 0 (here (numbers (opens (trace v)))) here' in
    (none, omega (count, spare, fewer, all, one, arith))
