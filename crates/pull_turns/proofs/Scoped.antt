-- What a turn did to scopes is so after a scope around it was closed.
use Rattle.std.proofs.Common.{◌≡◌, ◌≢◌, ℕ, refl, sym, subst, arith, Option, Some, None, IfSome, Box, Global, inl, inr, ap, length, [], ◌<◌}
use Rattle.chunk_core.specs.declared.code.Exit.{Exit}
use Rattle.chunk_core.specs.declared.code.Exit.TheVariants.{Succeeded, Errored}
use Rattle.chunk_core.specs.declared.code.How.{How}
use Rattle.chunk_core.specs.Outcomes.{exit_of}
use Rattle.chunk_core.specs.declared.load.Load.{Load}
use Rattle.pull_nodes.specs.declared.node.Node.{Node}
use Rattle.pull_nodes.specs.declared.node.Node.TheVariants as node
use Rattle.pull_turns.specs.Around.{Around, IsClosedWith, LeavesScope, SameScopes}
use Rattle.pull_turns.specs.Groups.{GroupedOf}
use Rattle.pull_turns.specs.Moves.{IntoTurn, LeavesAtEnd, MergeTurn, TakenOf, ZipTurn, how_of, side_left, turn_of_first}
use Rattle.pull_turns.specs.Passing.{Passes}
use Rattle.pull_turns.specs.Piping.{StateMeaning}
use Rattle.pull_turns.specs.Rest.{CanStep}
use Rattle.pull_turns.specs.Scoped.{ClosesAtEnd, EntersIn, Scoped}
use Rattle.pull_turns.specs.Turned.{IsQuiet, Turned}
use Rattle.pull_turns.specs.declared.piping.After.{After}
use Rattle.stream_sides.specs.Sides.{Sides}
use Rattle.stream_sides.specs.MergeTurns.{MergeTurns}
use Rattle.stream_sides.specs.declared.side.Side.{Side}
use Rattle.stream_sides.specs.declared.side.Side.TheVariants.{Left, Right}
use Rattle.pull_turns.specs.declared.rest.Rest.{Rest}
use Rattle.pull_turns.specs.declared.rest.Rest.TheVariants.{Nil, Start, Read, Within', Then', Through', Finishing, Faulty, Groups', Take', Into', Zip', Merge'}
use Rattle.pull_turns.specs.declared.rest.When.{When}
use Rattle.pull_turns.specs.declared.turn.Turn.{Turn}
use Rattle.pull_turns.specs.declared.turn.Turn.TheVariants as turn
use Rattle.pull_turns.proofs.Kept.{own_spared}

-- a scope that was closed before is another one
closed_on : (b c : Around) (k : ℕ) (x : Exit) → LeavesScope b k x c → b.opened k → (j : ℕ) (y : Exit) → IsClosedWith b j y → IsClosedWith c j y
closed_on b c k x l o j y h =
    let other : j ≢ k = λ e. h.gone (subst (λ n. b.opened n) (sym e) o) in
    record { gone = λ i. h.gone (l.only j i); exit = λ e. (λ i. (h.exit e).0 ((l.others j e other).0 i), λ i. (l.others j e other).1 ((h.exit e).1 i)) }

-- a quiet turn below is a quiet turn
quiet_first : (w : When) (u : Turn) → IsQuiet u → IsQuiet (turn_of_first w u)
quiet_first w (turn.Chunk l) i = i
quiet_first w turn.Quiet i = i
quiet_first w turn.Done i = absurd i
quiet_first w (turn.Fault c) i = absurd i

quiet_taken : (n m : ℕ) (u t : Turn) → TakenOf n m u t → IsQuiet u → IsQuiet t
quiet_taken n m (turn.Chunk l) t h i = absurd i
quiet_taken n m turn.Quiet t h i = subst IsQuiet (sym h.1) i
quiet_taken n m turn.Done t h i = absurd i
quiet_taken n m (turn.Fault c) t h i = absurd i

quiet_grouped : (n : ℕ) (g : Option Load) (u t : Turn) → GroupedOf n None g u t → IsQuiet u → IsQuiet t
quiet_grouped n g (turn.Chunk l) t h i = absurd i
quiet_grouped n g turn.Quiet t h i = subst IsQuiet (sym h.1) i
quiet_grouped n g turn.Done t h i = absurd i
quiet_grouped n g (turn.Fault c) t h i = absurd i

quiet_written : (u t : Turn) → IntoTurn u t → IsQuiet u → IsQuiet t
quiet_written (turn.Chunk l) t h i = absurd i
quiet_written turn.Quiet t h i = subst IsQuiet (sym h) i
quiet_written turn.Done t h i = absurd i
quiet_written (turn.Fault c) t h i = absurd i

-- the scopes were left as they were
pub closed_same : (b c : Around) → SameScopes b c → (j : ℕ) (y : Exit) → IsClosedWith b j y → IsClosedWith c j y
closed_same b c k j y h = record { gone = λ i. h.gone (k.opened j i); exit = λ e. (λ i. (h.exit e).0 ((k.closed j e).0 i), λ i. (k.closed j e).1 ((h.exit e).1 i)) }

quiet_zipped : (z : Sides) (side : Side) (v : Sides) (u t : Turn) → ZipTurn z side v u t → IsQuiet u → IsQuiet t
quiet_zipped z side v (turn.Chunk l) t h i = absurd i
quiet_zipped z side v turn.Quiet t h i = subst IsQuiet (sym h.1) i
quiet_zipped z side v turn.Done t h i = absurd i
quiet_zipped z side v (turn.Fault c) t h i = absurd i

quiet_merged : (m : MergeTurns) (side : Side) (n : MergeTurns) (u t : Turn) → MergeTurn m side n u t → IsQuiet u → IsQuiet t
quiet_merged m side n (turn.Chunk l) t h i = absurd i
quiet_merged m side n turn.Quiet t h i = subst IsQuiet (sym h.1) i
quiet_merged m side n turn.Done t h i = absurd i
quiet_merged m side n (turn.Fault c) t h i = absurd i

module _ {F : Type 0} (P : StateMeaning F) where
  quiet_passed : (q r : F) (u t : Turn) (z : After) → Passes P q r u t z → IsQuiet u → IsQuiet t
  quiet_passed q r (turn.Chunk l) t z h i = absurd i
  quiet_passed q r turn.Quiet t z h i = subst IsQuiet (sym h.1) i
  quiet_passed q r turn.Done t z h i = absurd i
  quiet_passed q r (turn.Fault c) t z h i = absurd i

  module _ (a b c : Around) (on : (j : ℕ) (y : Exit) → IsClosedWith b j y → IsClosedWith c j y) where
    closes_on : (j : ℕ) (h : Option How) → IfSome h (λ e. IsClosedWith b j (exit_of e)) → IfSome h (λ e. IsClosedWith c j (exit_of e))
    closes_on j None i = i
    closes_on j (Some e) i = on j (exit_of e) i

    enters_on : (s : ℕ) (n : Node) (y : Rest F) (t : Turn) → (IsQuiet t → ⊥) → EntersIn a b s n y t → EntersIn a c s n y t
    enters_on s (node.Scope' p n) y t loud h = absurd (loud (subst IsQuiet (sym h.3) tt))
    enters_on s (node.Weak' p q n) y t loud h = λ e. absurd (loud (subst IsQuiet (sym e) tt))
    enters_on s n y t loud h = tt

    -- of a turn that is not quiet
    pub scoped_kept : (s : ℕ) (r y : Rest F) (t : Turn) → (IsQuiet t → ⊥) → Scoped P a b s r y t → Scoped P a c s r y t
    scoped_kept s Nil y t loud h = h
    scoped_kept s (Start n) y t loud h = enters_on s n y t loud h
    scoped_kept s (Read p from) y t loud h = h
    scoped_kept s (Within' j q r) y t loud (p, z, u, h, (new, same, closes)) =
        (p, z, u, scoped_kept j r z u (λ i. loud (subst IsQuiet (sym same) i)) h, (new, same, closes_on j (how_of u) closes))
    scoped_kept s (Then' w q r m) y t loud (p, z, u, h, (new, same)) =
        (p, z, u, scoped_kept s r z u (λ i. loud (subst IsQuiet (sym same) (quiet_first w u i))) h, (new, same))
    scoped_kept s (Through' q r f) y t loud (p, z, u, h, (g, after, passes, new)) =
        (p, z, u, scoped_kept s r z u (λ i. loud (quiet_passed f g u t after passes i)) h, (g, after, passes, new))
    scoped_kept s (Finishing f) y t loud h = h
    scoped_kept s (Faulty d) y t loud h = h
    scoped_kept s (Groups' n f q r) y t loud h = λ e.
        let i = h e in (i.0, i.1, i.2, scoped_kept s r i.1 i.2 (λ j. loud (quiet_grouped n i.4.0 i.2 t i.4.1 j)) i.3, i.4)
    scoped_kept s (Take' n q r) y t loud h = λ some.
        let i = h some in (i.0, i.1, i.2, scoped_kept s r i.1 i.2 (λ j. loud (quiet_taken n i.4.0 i.2 t i.4.1 j)) i.3, i.4)
    scoped_kept s (Into' i v q r) y t loud (p, z, u, h, (g, turns, new)) =
        (p, z, u, scoped_kept s r z u (λ j. loud (quiet_written u t turns j)) h, (g, turns, new))
    scoped_kept s (Zip' z _ x _ y) r t loud h = (
      λ need. let i = h.0 need in (i.0, i.1, i.2, scoped_kept s x i.1 i.2 (λ j. loud (quiet_zipped z Left i.4.0 i.2 t i.4.2 j)) i.3, i.4),
      λ need. let i = h.1 need in (i.0, i.1, i.2, scoped_kept s y i.1 i.2 (λ j. loud (quiet_zipped z Right i.4.0 i.2 t i.4.2 j)) i.3, i.4),
    )
    scoped_kept s (Merge' m _ x _ y) r t loud h = elim h [
      | inl i ↦ inl (i.0, i.1, i.2, scoped_kept s x i.1 i.2 (λ j. loud (quiet_merged m Left i.4.0 i.2 t i.4.2 j)) i.3, i.4)
      | inr i ↦ inr (i.0, i.1, i.2, scoped_kept s y i.1 i.2 (λ j. loud (quiet_merged m Right i.4.0 i.2 t i.4.2 j)) i.3, i.4)
    ]

  -- a scope was closed after it
  pub scoped_on : (a b c : Around) (k : ℕ) (x : Exit) → LeavesScope b k x c → b.opened k → (s : ℕ) (r y : Rest F) (t : Turn) → (IsQuiet t → ⊥) → Scoped P a b s r y t → Scoped P a c s r y t
  scoped_on a b c k x l o = scoped_kept a b c (closed_on b c k x l o)

  -- the scope in which the part ran is left at its end
  module _ {O : Type 0} (seen : O → Around) (a : Around) (y z : O) (s n c : ℕ) (q : Box (Unit {0}) Global) (x new : Rest F) (r : CanStep P a c x) where
    stays : (t : Turn) → z ≡ y → ClosesAtEnd (seen y) c t → Scoped P a (seen y) c x new t → Scoped P a (seen z) s (Within' c q x) (Within' c q new) t
    stays t e k h = subst (λ (v : O). Scoped P a (seen v) s (Within' c q x) (Within' c q new) t) (sym e) (q, new, t, h, (refl, refl, k))

    closes : (t : Turn) (j : Exit) → LeavesScope (seen y) c j (seen z) → ClosesAtEnd (seen z) c t → (IsQuiet t → ⊥) → Turned P a (seen y) c n x new t → Scoped P a (seen y) c x new t → Scoped P a (seen z) s (Within' c q x) (Within' c q new) t
    closes t j e k loud m h = (q, new, t, scoped_on a (seen y) (seen z) c j e (m.moved.keeps.stays c (own_spared a r.nested c x r.opened r.ready)).opened c x new t loud h, (refl, refl, k))

    pub within_scoped : (t : Turn) → LeavesAtEnd seen y c t z → Turned P a (seen y) c n x new t → Scoped P a (seen y) c x new t → Scoped P a (seen z) s (Within' c q x) (Within' c q new) t
    within_scoped (turn.Chunk l) e m h = stays (turn.Chunk l) e tt h
    within_scoped turn.Quiet e m h = stays turn.Quiet e tt h
    within_scoped turn.Done e m h = closes turn.Done Succeeded e e.closed (λ i. i) m h
    within_scoped (turn.Fault d) e m h = closes (turn.Fault d) Errored e e.closed (λ i. i) m h

  -- the side that is needed was asked
  pub zip_left_scoped : (a b : Around) (s : ℕ) (z w : Sides) (u v : Box (Unit {0}) Global) (x new y : Rest F) (t o : Turn) → z.left ≡ [] → ZipTurn z Left w t o → Scoped P a b s x new t → Scoped P a b s (Zip' z u x v y) (Zip' w u new v y) o
  zip_left_scoped a b s z w u v x new y t o none is h = (λ need. (u, new, t, h, (w, v, is, refl)), λ need. absurd (let e : Right ≡ Left = need.1 none in cc))

  pub zip_right_scoped : (a b : Around) (s : ℕ) (z w : Sides) (u v : Box (Unit {0}) Global) (x y new : Rest F) (t o : Turn) → 0 < length z.left → ZipTurn z Right w t o → Scoped P a b s y new t → Scoped P a b s (Zip' z u x v y) (Zip' w u x v new) o
  zip_right_scoped a b s z w u v x y new t o some is h = (λ need. absurd (omega (arith, some, ap length (need.0 refl))), λ need. (v, new, t, h, (w, u, is, refl)))

  -- one side was asked
  pub merge_left_scoped : (a b : Around) (s : ℕ) (m k : MergeTurns) (u v : Box (Unit {0}) Global) (x new y part : Rest F) (t o : Turn) → MergeTurn m Left k t o → part ≡ side_left t new → Scoped P a b s x new t → Scoped P a b s (Merge' m u x v y) (Merge' k u part v y) o
  merge_left_scoped a b s m k u v x new y part t o is e h = inl (u, new, t, h, (k, v, is, ap (λ q. Merge' k u q v y) e))

  pub merge_right_scoped : (a b : Around) (s : ℕ) (m k : MergeTurns) (u v : Box (Unit {0}) Global) (x y new part : Rest F) (t o : Turn) → MergeTurn m Right k t o → part ≡ side_left t new → Scoped P a b s y new t → Scoped P a b s (Merge' m u x v y) (Merge' k u x v part) o
  merge_right_scoped a b s m k u v x y new part t o is e h = inr (v, new, t, h, (k, u, is, ap (λ q. Merge' k u x v q) e))
