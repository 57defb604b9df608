-- What a turn tells of failures that reads, writes or opens, or enters a node.
use Rattle.std.proofs.Common.{◌≡◌, ◌⊎◌, inl, inr, ℕ, zero, suc, ◌+◌, List, Option, None, Some, refl, sym, ◌∙◌, ap, subst, arith, take, Box, Global}
use Rattle.std.proofs.lemmas.Bool.Decides.{eqb_tells}
use Rattle.chunk_core.specs.declared.code.Code.TheVariants as code
use Rattle.chunk_core.specs.declared.load.Load.{Load}
use Rattle.chunk_core.specs.Elements.{elements, rendering_of}
use Rattle.chunk_core.specs.Outcomes.{End, Done, Fault, Cut}
use Rattle.device_port.specs.Device.{DeviceTold}
use Rattle.pull_nodes.specs.declared.node.Node.{Node}
use Rattle.pull_nodes.specs.declared.node.Node.TheVariants as node
use Rattle.pull_nodes.specs.declared.pipe.Pipe.{Pipe}
use Rattle.pull_turns.specs.Around.{AcquiresDevice, Around, Goes, IsUntried, Refuses, Writes, gist}
use Rattle.pull_turns.specs.Failures.{RestTells, TellsOn, TurnTells}
use Rattle.pull_turns.specs.Groups.{IsInGroups}
use Rattle.pull_turns.specs.Moves.{ReadsPiece, WritesTurn}
use Rattle.pull_turns.specs.Piping.{StateMeaning}
use Rattle.pull_turns.specs.Rest.{CanStep, IsAsked, IsLive, IsReady, NoPlace}
use Rattle.pull_turns.specs.Turned.{Over, TellsAtEnd, Turned}
use Rattle.pull_turns.specs.declared.rest.Rest.{Rest}
use Rattle.pull_turns.specs.declared.rest.Rest.TheVariants.{Nil, Start, Read, Through', Take', Into'}
use Rattle.pull_turns.specs.declared.turn.Turn.{Turn}
use Rattle.pull_turns.specs.declared.turn.Turn.TheVariants as turn
use Rattle.pull_nodes.proofs.Failures.{node_tells}
use Rattle.pull_turns.proofs.Failures.{tells_stopped, unfailed_by, unfailed_fresh}
use Rattle.pull_turns.proofs.Into.{goes_written}
use Rattle.pull_turns.proofs.Kept.{asked_in, goes_gist, goes_on}
use Rattle.pull_turns.proofs.Unwritten.{stays_well}

-- the turn of a read
pub read_tells : (F : Type 0) (a b : Around) (s n p from to : ℕ) (t : Turn) → IsReady {F = F} a s (Read p from) → ReadsPiece a b n p from to t → TurnTells {F = F} b.told (Read p from) (Read p to) t
read_tells F a b s n p from to (turn.Chunk l) r h = λ w o e i. i
read_tells F a b s n p from to turn.Quiet r h = absurd h.piece
read_tells F a b s n p from to turn.Done r h = λ w o. inl (ap (λ (d : DeviceTold). d.read_faults) (o.over p refl) ∙ (h.piece.3 ∙ r.1), tt)
read_tells F a b s n p from to (turn.Fault code.Endless) r h = λ w o. inl (ap (λ (d : DeviceTold). d.read_faults) (o.over p refl) ∙ (h.piece.3 ∙ r.1), tt)
read_tells F a b s n p from to (turn.Fault code.Read) r h = λ w o. inr (omega (arith, ap (λ (d : DeviceTold). d.read_faults) (o.over p refl), h.piece.2, r.1), refl, tt)
read_tells F a b s n p from to (turn.Fault c) r h = absurd h.piece

-- what is written
module _ {F : Type 0} (P : StateMeaning F) (a m b : Around) (s n p : ℕ) (v g : Option (List ℕ)) (q r : Box (Unit {0}) Global) (x new : Rest F) (can : CanStep P a s (Into' p v q x)) where
  -- no write had failed before
  unfailed : (t : Turn) → Turned P a m s n x new t → (m.told p).write_faults ≡ 0
  unfailed t h = ap (λ (d : DeviceTold). d.write_faults) (h.moved.keeps.told p can.ready.2) ∙ can.ready.0.faults

  part_on : (w : ℕ → DeviceTold) → TellsAtEnd m.told w (Into' p v q x) (Into' p v r new) → TellsAtEnd m.told w x new
  part_on w o = record { over = λ i live never. o.over i (inr live) (elim [ inl j ↦ can.ready.2 (subst (λ c. IsLive c x) j live) | inr j ↦ never j ]); goes = o.goes }

  part_over : (w : ℕ → DeviceTold) → Over m.told w (Into' p v q x) → Over m.told w x
  part_over w o = record { over = λ i j. o.over i (inr j); goes = o.goes }

  -- nothing was written
  pub kept_on : TellsOn m.told x new → TellsOn m.told (Into' p v q x) (Into' p v r new)
  kept_on f = λ w o e. elim [ inl i ↦ inl (i.0, f w (part_on w o) e i.1) | inr i ↦ inr (i.0, i.1, f w (part_on w o) Cut i.2) ]

  pub kept_ends : (t : Turn) (e : End) → Turned P a m s n x new t → ((w : ℕ → DeviceTold) → Over m.told w x → RestTells w x e) → (w : ℕ → DeviceTold) → Over m.told w (Into' p v q x) → RestTells w (Into' p v q x) e
  kept_ends t e h f = λ w o. inl (ap (λ (d : DeviceTold). d.write_faults) (o.over p (inl refl)) ∙ unfailed t h, f w (part_over w o))

  -- a load came, and this was written behind it
  module _ (l : Load) (h : Turned P a m s n x new (turn.Chunk l)) (f : TellsOn m.told x new) (text : List ℕ) (faults : ℕ) (wrote : Writes m p text faults b) where
    later : (i : ℕ) → Goes (m.told i) (b.told i)
    later i = elim (eqb_tells i p) [ inl j ↦ subst (λ c. Goes (m.told c) (b.told c)) (sym j.1) (goes_written m b p text faults wrote) | inr j ↦ goes_gist (m.told i) (b.told i) (wrote.keeps.told i j.1) ]

    other : (w : ℕ → DeviceTold) (i : ℕ) → IsLive i x → gist (w i) ≡ gist (b.told i) → gist (w i) ≡ gist (m.told i)
    other w i live e = e ∙ wrote.keeps.told i (λ j. can.ready.2 (subst (λ c. IsLive c x) j live))

    wrote_on : TellsOn b.told (Into' p v q x) (Into' p g r new)
    wrote_on = λ w o e.
        let ends : TellsAtEnd m.told w x new = record {
          over = λ i live never. other w i live (o.over i (inr live) (elim [ inl j ↦ can.ready.2 (subst (λ c. IsLive c x) j live) | inr j ↦ never j ]));
          goes = λ i. goes_on (m.told i) (b.told i) (w i) (later i) (o.goes i);
        } in
        elim [ inl i ↦ inl (i.0, f w ends e i.1) | inr i ↦ inr (i.0, i.1, f w ends Cut i.2) ]

    write_failed : faults ≡ 1 → (w : ℕ → DeviceTold) → Over b.told w (Into' p v q x) → RestTells w (Into' p v q x) (Fault code.Write)
    write_failed one = λ w o.
        let over : Over m.told w x = record { over = λ i live. other w i live (o.over i (inr live)); goes = λ i. goes_on (m.told i) (b.told i) (w i) (later i) (o.goes i) } in
        let now : (b.told p).write_faults ≡ (m.told p).write_faults + faults = ap (λ (d : DeviceTold). d.write_faults) wrote.told in
        inr (omega (arith, ap (λ (d : DeviceTold). d.write_faults) (o.over p (inl refl)), now, unfailed (turn.Chunk l) h, one), refl, tells_stopped m s x new f (h.ready tt) h.live w over Cut)

module _ {F : Type 0} (P : StateMeaning F) {O : Type 0} (seen : O → Around) (a : Around) (y z : O) (s n p : ℕ) (v g : Option (List ℕ)) (q r : Box (Unit {0}) Global) (x new : Rest F) (can : CanStep P a s (Into' p v q x)) where
  same : (t u : Turn) → z ≡ y → g ≡ v → u ≡ t → TurnTells (seen y).told (Into' p v q x) (Into' p v r new) t → TurnTells (seen z).told (Into' p v q x) (Into' p g r new) u
  same t u e f i h = rw (e, f, i) h

  pub into_tells : (t u : Turn) → WritesTurn seen y z p v g t u → Turned P a (seen y) s n x new t → TurnTells (seen y).told x new t → TurnTells (seen z).told (Into' p v q x) (Into' p g r new) u
  into_tells (turn.Chunk l) (turn.Chunk k) w h f = absurd w
  into_tells (turn.Chunk l) turn.Quiet w h f = wrote_on P a (seen y) (seen z) s n p v g q r x new can l h f (rendering_of (elements l)) 0 w.0
  into_tells (turn.Chunk l) turn.Done w h f = absurd w
  into_tells (turn.Chunk l) (turn.Fault c) w h f = rw w.0 (write_failed P a (seen y) (seen z) s n p v g q r x new can l h f (take w.2.0 (rendering_of (elements l))) 1 w.2.1 refl)
  into_tells turn.Quiet u w h f = same turn.Quiet u w.0 w.1 w.2 (kept_on P a (seen y) (seen y) s n p v g q r x new can f)
  into_tells turn.Done u w h f = same turn.Done u w.0 w.1 w.2 (kept_ends P a (seen y) (seen y) s n p v g q r x new can turn.Done Done h f)
  into_tells (turn.Fault c) u w h f = same (turn.Fault c) u w.0 w.1 w.2 (kept_ends P a (seen y) (seen y) s n p v g q r x new can (turn.Fault c) (Fault c) h f)

-- a node is entered
module _ {F : Type 0} (P : StateMeaning F) (a b : Around) (s : ℕ) where
  -- the device was opened
  pub weak_tells : (p : ℕ) (q : Box (Unit {0}) Global) (x : Node) → IsUntried (a.told p) → AcquiresDevice a s p b → TurnTells {F = F} b.told (Start (node.Weak' p q x)) (Start x) turn.Quiet
  weak_tells p q x untried got = λ w o e i.
      let opened = (o.goes p).opens (ap (λ (d : DeviceTold). d.opens) got.told) in
      inl (opened.1 ∙ (ap (λ (d : DeviceTold). d.open_faults) got.told ∙ untried.open_faults), i)

  -- it was not
  pub refused_tells : (p : ℕ) (q : Box (Unit {0}) Global) (x : Node) → IsUntried (a.told p) → CanStep P a s (Start (node.Weak' p q x)) → Refuses a p b → TurnTells {F = F} b.told (Start (node.Weak' p q x)) Nil (turn.Fault code.Open)
  refused_tells p q x untried can not = λ w o.
      let risen : (b.told p).open_faults ≡ (a.told p).open_faults + 1 = ap (λ (d : DeviceTold). d.open_faults) not.told in
      inr (
        omega (arith, risen, ap (λ (d : DeviceTold). d.open_faults) (o.over p (inl refl)), untried.open_faults),
        refl,
        unfailed_by a w (λ i. (i ≡ p) ⊎ NoPlace i) s x can.ready.2 (λ i j. others i (w i) (o.over i (inr j))) (λ i j. opens i (w i) (λ e. can.ready.1 (subst (λ k. IsAsked k x) e j)) (o.over i (inr (asked_in i x j)))),
      )
    where
      others : (i : ℕ) (d : DeviceTold) → gist d ≡ gist (b.told i) → (d.write_faults ≡ (a.told i).write_faults) × (d.read_faults ≡ (a.told i).read_faults)
      others i d e =
          let k = stays_well (b.told i) d e in
          let now : ((b.told i).write_faults ≡ (a.told i).write_faults) × ((b.told i).read_faults ≡ (a.told i).read_faults) = elim (eqb_tells i p) [
            | inl m ↦ subst (λ c. ((b.told c).write_faults ≡ (a.told c).write_faults) × ((b.told c).read_faults ≡ (a.told c).read_faults)) (sym m.1) (ap (λ (x : DeviceTold). x.write_faults) not.told, ap (λ (x : DeviceTold). x.read_faults) not.told)
            | inr m ↦ let l = stays_well (a.told i) (b.told i) (not.keeps.told i m.1) in (l.1, l.2)
          ] in
          (k.1 ∙ now.0, k.2 ∙ now.1)

      opens : (i : ℕ) (d : DeviceTold) → (i ≡ p → ⊥) → gist d ≡ gist (b.told i) → d.open_faults ≡ (a.told i).open_faults
      opens i d never e = ap (λ (x : DeviceTold). x.open_faults) (e ∙ not.keeps.told i never)

  -- where none is wanted, what is below never runs
  pub taker_tells : (m : ℕ) (p r : Box (Unit {0}) Global) (x : Node) → CanStep P a s (Start (node.Take' m p x)) → TurnTells {F = F} a.told (Start (node.Take' m p x)) (Take' m r (Start x)) turn.Quiet
  taker_tells zero p r x can = λ w o e i. node_tells w x e (unfailed_fresh a w NoPlace s x can.ready (λ k j. stays_well (a.told k) (w k) (o.over k j (λ l. absurd (omega (arith, l.0))))))
  taker_tells (suc m) p r x can = λ w o e i. i (omega arith)

  pub piped_tells : (p r : Box (Unit {0}) Global) (x : Node) (pipe : Pipe) (q : F) (o : Option ℕ) (y : Rest F) → IsInGroups o (Through' r (Start x) q) y → TurnTells a.told (Start (node.Through' p x pipe)) y turn.Quiet
  piped_tells p r x pipe q None y made = rw made (λ w o e i. i)
  piped_tells p r x pipe q (Some k) y made = rw made.1 (λ w o e i. i)
