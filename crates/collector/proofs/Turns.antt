-- Whose turn it was, as the main tree and the tale go on.
use Rattle.std.proofs.Common.{◌≡◌, ◌≢◌, ◌⊎◌, ℕ, suc, ◌+◌, ◌<◌, ◌≤◌, Bool, List, [], ◌∷◌, ◌++◌, Option, Some, None, inl, inr, sym, ◌∙◌, ap, subst, ⊎_elim, arith}
use Rattle.std.proofs.lemmas.Bool.{cases_eq}
use Rattle.chunk_core.specs.Lists.{IsAmong}
use Rattle.chunk_core.specs.declared.code.Exit.{Exit}
use Rattle.chunk_core.specs.declared.code.Exit.TheVariants.{Canceled}
use Rattle.chunk_core.specs.declared.code.How.{How}
use Rattle.chunk_core.proofs.Members.{among_cons, among_nil, among_snoc}
use Rattle.interrupt_ctx.specs.declared.view.Interruption.{Interruption}
use Rattle.join_tale.specs.Steps.{first_tale}
use Rattle.join_tale.specs.Tales.{Tale}
use Rattle.join_tree.specs.Progress.{Progress, closing_root, joining, none_done, splitting, standing}
use Rattle.join_tree.specs.Turns.{EndedBehind, WentOn}
use Rattle.res_ledger.specs.declared.event.What.{What}
use Rattle.row_seat.specs.declared.view.View.{View}
use Rattle.scope_tree.specs.Calls.{Seen}
use Rattle.tree_families.specs.Families.{Split, split_of}
use Rattle.dealt_streams.specs.Turns.{KeepsTurns}
use Rattle.collector.proofs.Streams.{moved, retold}

-- nothing was done
pub turns_none : {V : Type 0} (root : Option Exit) (outer : Option How) (set found : List Interruption) (ceased memory : Bool) → KeepsTurns (moved (none_done V) [] 0 0 [] root) (retold first_tale outer set found ceased memory)
turns_none {V = V} root outer set found ceased memory = record {
  pulled = λ k w. absurd (none_went k w);
  ahead = λ k is m. absurd (among_nil m);
  room = λ k i l s. absurd (⊎_elim (λ m. among_nil m.1) (λ y. ⊎_elim (λ a. among_nil a.1) (λ e. none_went k (inr e.0)) y) s);
}
  where
    none_went : (k : ℕ) → WentOn (moved (none_done V) [] 0 0 [] root) k → ⊥
    none_went k w = ⊎_elim (λ (l : suc k < 0). omega (arith, l)) (λ e. let z : 0 ≡ suc k = e.0 in omega (arith, z)) w

-- what the outer stream may go on with: in the turn of the one that was leased for last it was pulled, and those that stand below it are told to be open
pub record IsReady {V : Type 0} (p : Progress V) (t : Tale) : Type 0 where
  pub pulled : (k : ℕ) → suc k ≡ p.leased → IsAmong k t.pulled
  pub room : (k i : ℕ) → suc k ≡ p.leased → i < k → IsAmong i (standing p) → IsAmong i (t.room k)

module _ {V : Type 0} (p : Progress V) (t : Tale) where
  -- it is told as before
  pub turns_same : (u : Tale) → u.pulled ≡ t.pulled → u.room ≡ t.room → KeepsTurns p t → KeepsTurns p u
  turns_same u pulled room k = record {
    pulled = λ i w. subst (λ l. IsAmong i l) (sym pulled) (k.pulled i w);
    ahead = k.ahead;
    room = λ i j l s. subst (λ (r : ℕ → List ℕ). IsAmong j (r i)) (sym room) (k.room i j l s);
  }

  -- the root was closed as one that is stopped
  pub turns_halted : (u : Tale) → u.pulled ≡ t.pulled → u.room ≡ t.room → KeepsTurns p t → KeepsTurns (closing_root p Canceled) u
  turns_halted u pulled room k = turns_same' u pulled room (record {
    pulled = λ i w. ⊎_elim (λ l. k.pulled i (inl l)) (λ e. absurd (stopped i e)) w;
    ahead = k.ahead;
    room = λ i j l s. ⊎_elim (λ m. k.room i j l (inl m)) (λ y. ⊎_elim (λ a. k.room i j l (inr (inl a))) (λ e. absurd (stopped i e.0)) y) s;
  })
    where
      stopped : (i : ℕ) → EndedBehind (closing_root p Canceled) i → ⊥
      stopped i e = e.1.2 (let same : Canceled ≡ e.1.0 = exit_is Canceled e.1.0 e.1.1 in sym same)
        where
          exit_is : (x y : Exit) → Some x ≡ Some y → x ≡ y
          exit_is x y q = cc

      turns_same' : (v : Tale) → v.pulled ≡ t.pulled → v.room ≡ t.room → KeepsTurns (closing_root p Canceled) t → KeepsTurns (closing_root p Canceled) v
      turns_same' v a b h = record {
        pulled = λ i w. subst (λ l. IsAmong i l) (sym a) (h.pulled i w);
        ahead = h.ahead;
        room = λ i j l s. subst (λ (r : ℕ → List ℕ). IsAmong j (r i)) (sym b) (h.room i j l s);
      }

  -- a tree came back
  pub turns_joined : (y : Seen V) (u : Tale) → u.pulled ≡ t.pulled → u.room ≡ t.room → KeepsTurns p t → KeepsTurns (joining p y) u
  turns_joined y u pulled room k = let h = turns_same u pulled room k in record { pulled = h.pulled; ahead = h.ahead; room = h.room }

  module _ (k : KeepsTurns p t) (ready : IsReady p t) where
    -- a number below the next one is below, or the last one
    below_or : (i : ℕ) → suc i < suc p.leased → (suc i < p.leased) ⊎ (suc i ≡ p.leased)
    below_or i l = ⊎_elim (λ e. inr e) (λ ne. inl (omega (arith, l, ne))) (cases_eq (suc i) p.leased)

    -- the next stream was leased for
    pub turns_leased : p.root ≡ None → (waits : List (ℕ × List ℕ)) (tables : List What) → KeepsTurns (record p { waits = waits; leased = suc p.leased; tables = tables; ahead = (p.leased, standing p) ∷ p.ahead }) t
    turns_leased none waits tables = record {
      pulled = λ i w. ⊎_elim (λ l. by_count i l) (λ e. absurd (open_yet i e.1)) w;
      ahead = λ i is m. ⊎_elim
          (λ (e : (suc i, is) ≡ (p.leased, standing p)). let z : suc i ≡ p.leased = ap (λ (y : ℕ × List ℕ). y.0) e in omega (arith, z))
          (λ n. let l = k.ahead i is n in omega (arith, l))
          (among_cons m);
      room = λ i j l s. ⊎_elim
          (λ m. k.room i j l (inl m))
          (λ y. ⊎_elim
          (λ a. ⊎_elim
          (λ (e : (suc i, a.0) ≡ (p.leased, standing p)). ready.room i j (ap (λ (y : ℕ × List ℕ). y.0) e) l (subst (λ xs. IsAmong j xs) (ap (λ (y : ℕ × List ℕ). y.1) e) a.2))
          (λ n. k.room i j l (inr (inl (a.0, n, a.2))))
          (among_cons a.1))
          (λ e. absurd (open_yet i e.0.1))
          y)
          s;
    }
      where
        open_yet : (i : ℕ) → ((x : Exit) × (p.root ≡ Some x) × (x ≢ Canceled)) → ⊥
        open_yet i e = let z : None ≡ Some e.0 = sym none ∙ e.1 in cc

        by_count : (i : ℕ) → suc i < suc p.leased → IsAmong i t.pulled
        by_count i l = ⊎_elim (λ b. k.pulled i (inl b)) (λ e. ready.pulled i e) (below_or i l)

    -- the root was closed, also by a tale that goes on so
    pub turns_closed : (u : Tale) → u.pulled ≡ t.pulled → u.room ≡ t.room → (tables : List What) (x : Exit) → KeepsTurns (closing_root (record p { tables = tables }) x) u
    turns_closed u pulled room tables x = record {
      pulled = λ i w. subst (λ l. IsAmong i l) (sym pulled) (⊎_elim (λ l. k.pulled i (inl l)) (λ e. ready.pulled i (sym e.0)) w);
      ahead = k.ahead;
      room = λ i j l s. subst (λ (r : ℕ → List ℕ). IsAmong j (r i)) (sym room) (⊎_elim
          (λ m. k.room i j l (inl m))
          (λ y. ⊎_elim (λ a. k.room i j l (inr (inl a))) (λ e. ready.room i j (sym e.0.0) l e.1) y)
          s);
    }

  -- the seat of the next stream was split off, while those that were out are told to have been open
  pub turns_split : KeepsTurns p t → (u : Tale) → u.pulled ≡ t.pulled → u.room ≡ t.room → (v : View V) (n : ℕ) (us : List (ℕ × List ℕ)) → ((i : ℕ) → IsAmong i v.out → IsAmong i (t.room n)) → KeepsTurns (splitting p v n us) u
  turns_split k u pulled room v n us told = record {
    pulled = λ i w. subst (λ l. IsAmong i l) (sym pulled) (k.pulled i w);
    ahead = k.ahead;
    room = λ i j l s. subst (λ (r : ℕ → List ℕ). IsAmong j (r i)) (sym room) (⊎_elim
        (λ m. ⊎_elim
        (λ o. k.room i j l (inl (m.0, o, m.2, m.3)))
        (λ (e : m.0 ≡ split_of v n). subst (λ z. IsAmong j (t.room z)) (sym (ap (λ (y : Split). y.stream) e) ∙ m.2) (told j (subst (λ (y : Split). IsAmong j y.out) e m.3)))
        (among_snoc p.splits m.0 (split_of v n) m.1))
        (λ y. k.room i j l (inr y))
        s);
  }
