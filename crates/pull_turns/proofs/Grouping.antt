-- A turn of a part whose groups leave the run one by one.
use Rattle.std.proofs.Common.{◌≡◌, inl, inr, ℕ, ◌<◌, List, [], ◌++◌, length, take, Option, Some, None, IfSome, refl, sym, ◌∙◌, ap, subst, arith, append_assoc, append-nil, Box, Global}
use Rattle.std.proofs.lemmas.List.{length-take, take-append-drop}
use Rattle.chunk_core.specs.declared.load.Load.{Load}
use Rattle.chunk_core.specs.Elements.{Element, LoadKind, elements}
use Rattle.chunk_core.specs.Outcomes.{End, Outcomes}
use Rattle.device_port.specs.Device.{DeviceTold}
use Rattle.pull_nodes.specs.Runs.{Gives, IsIdle, OrLeft, any_leeway}
use Rattle.pull_nodes.specs.declared.node.Node.{Node}
use Rattle.pull_nodes.specs.declared.node.Node.TheVariants as node
use Rattle.pull_nodes.specs.declared.pipe.Pipe.{Pipe}
use Rattle.pull_nodes.proofs.Left.{left as left_earlier}
use Rattle.pull_turns.specs.Around.{Around}
use Rattle.pull_turns.specs.Groups.{GroupedOf, HasElements, HasNoGroups, IsFirstGroup, IsInGroups, IsOfKind, waiting}
use Rattle.pull_turns.specs.Groups.GaveGroup.{group}
use Rattle.pull_turns.specs.Piping.{Behind, HasKind, StateMeaning}
use Rattle.pull_turns.specs.Rest.{CanStep, IsRunOfRest, WritesNoMore}
use Rattle.pull_turns.specs.Turned.{Gave, GivesKind, GoesOn, HasCause, IsLoadOrDone, Leads, Moved, Turned}
use Rattle.pull_turns.specs.Turned.HasFinished.{grouped}
use Rattle.pull_turns.specs.declared.rest.Rest.{Rest}
use Rattle.pull_turns.specs.declared.rest.Rest.TheVariants.{Start, Through', Groups'}
use Rattle.pull_turns.specs.declared.turn.Turn.{Turn}
use Rattle.pull_turns.specs.declared.turn.Turn.TheVariants as turn
use Rattle.pull_turns.proofs.Leads.{HasRun, by_left, stopped}
use Rattle.pull_turns.proofs.Turns.{by_three, cause_none, cause_part, caused_part, chunk_goes_on, one_of_three, turned_by}

-- these elements came, and those behind them wait
behind_lead : (xs us vs zs : List Element) (A B : Outcomes) → xs ++ us ≡ vs ++ zs → Leads zs A B → Leads xs (Behind us A) (Behind vs B)
behind_lead xs us vs zs A B e f = record {
  gives = λ ys g h. (
    zs ++ h.0,
    f.gives h.0 g h.1,
    ap (λ ws. xs ++ ws) h.2 ∙ (sym (append_assoc xs us h.0) ∙ (ap (λ ws. ws ++ h.0) e ∙ append_assoc vs zs h.0)),
  );
}

some_behind : (us : List Element) (A : Outcomes) → HasRun A → HasRun (Behind us A)
some_behind us A h = (us ++ h.0, h.1, (h.0, h.2, refl))

-- what was touched below groups
pub groups_moved : {F : Type 0} (a b : Around) (k : ℕ) (p : Box (Unit {0}) Global) (x : Rest F) → Moved a b x → Moved a b (Groups' k None p x)
groups_moved a b k p x h = record { keeps = h.keeps; goes = h.goes }

-- a group and those behind it are the load
whole_load : (k : ℕ) (l m : Load) (g : Option Load) → IsFirstGroup k l m g → elements m ++ waiting g ≡ elements l
whole_load k l m g h = ap (λ xs. xs ++ waiting g) h.front ∙ (ap (λ xs. take k (elements l) ++ xs) h.behind ∙ take-append-drop k (elements l))

-- a group of a load has elements
some_group : (k : ℕ) (l m : Load) (g : Option Load) → 0 < k → 0 < length (elements l) → IsFirstGroup k l m g → 0 < length (elements m)
some_group k l m g some long h = omega (arith, ap length h.front, length-take k (elements l), some, long)

module _ {F : Type 0} (P : StateMeaning F) where
  leads_on : (w : ℕ → DeviceTold) (x new : Rest F) (xs us vs zs : List Element) → xs ++ us ≡ vs ++ zs → Leads zs (IsRunOfRest P w new) (IsRunOfRest P w x)
      → Leads xs (OrLeft (WritesNoMore w new) (Behind us (IsRunOfRest P w new))) (OrLeft (WritesNoMore w x) (Behind vs (IsRunOfRest P w x)))
  leads_on w x new xs us vs zs e f = by_left (behind_lead xs us vs zs (IsRunOfRest P w new) (IsRunOfRest P w x) e f) (λ i. some_behind us (IsRunOfRest P w new) (stopped P w new i))

  -- the first of the groups that wait is given
  pub waited_step : (a : Around) (s n k : ℕ) (p q : Box (Unit {0}) Global) (x : Rest F) (l m : Load) (g : Option Load) → CanStep P a s (Groups' k (Some l) p x) → IsFirstGroup k l m g
      → Turned P a a s n (Groups' k (Some l) p x) (Groups' k g q x) (turn.Chunk m)
  waited_step a s n k p q x l m g r h = turned_by P a s n (Groups' k (Some l) p x) (Groups' k g q x) (turn.Chunk m) (λ i j. j) (omega arith) (omega arith) (omega arith) (λ c i. i)
      (λ i. (r.ready.0, h.some, r.ready.2, r.ready.3)) (λ i. r.pipes)
      (λ j i. (h.kind ∙ i.0, (subst (λ c. IsOfKind c g) i.0 h.kinds, i.1)))
      (inr (group k p q x l g (sym (whole_load k l m g h))))
      (cause_none a.told a.told _ _ (chunk_goes_on m)) (
        some_group k l m g r.ready.0 r.ready.1 h,
        λ w e. leads_on w x x (elements m) (waiting g) (elements l) [] (whole_load k l m g h ∙ sym (append-nil (elements l))) (record { gives = λ ys d i. i }),
      )

  module _ (a b : Around) (s n k : ℕ) (p q : Box (Unit {0}) Global) (x new : Rest F) (some : 0 < k) (plain : HasNoGroups x) (still : HasNoGroups new) where
    -- no group waited, and these wait behind the turn
    grouping : (g : Option Load) (t u : Turn) → (GoesOn u → GoesOn t) → (IsLoadOrDone u → IsLoadOrDone t) → HasElements g → HasCause a.told b.told x u → ((j : LoadKind) → HasKind P j x → GivesKind P j (Groups' k g q new) u)
        → Turned P a b s n x new t → Gave P b.told (Groups' k None p x) (Groups' k g q new) u → Turned P a b s n (Groups' k None p x) (Groups' k g q new) u
    grouping g t u on gives has cause kinds h gave = record {
      moved = groups_moved a b k p x h.moved;
      once = h.once;
      writes = λ i. h.writes (gives i);
      live = h.live;
      fewer = omega (arith, h.fewer);
      spends = record { events = h.spends.events; scopes = h.spends.scopes; rows = h.spends.rows };
      ready = λ i. (some, has, h.ready (on i), still);
      scopes = λ i. h.scopes (on i);
      pipes = λ i. h.pipes (on i);
      kinds = λ j i. kinds j i.1;
      caused = by_three P a.told b.told (Groups' k None p x) (Groups' k g q new) u
          (λ i. caused_part P a.told b.told x new (Groups' k None p x) (Groups' k g q new) (λ l. omega (arith, l)) (λ r j. j) (λ e. grouped k p q x new None g e) (one_of_three P a.told b.told x new t plain h.caused (on i)));
      cause = cause_part a.told b.told x (Groups' k None p x) u (λ r i. i) cause;
      gave = gave;
    }

    -- what comes of a turn below where no group waits
    pub groups_step : (g : Option Load) (t u : Turn) → GroupedOf k None g t u → Turned P a b s n x new t → Turned P a b s n (Groups' k None p x) (Groups' k g q new) u
    groups_step g (turn.Chunk l) (turn.Chunk m) e h =
        grouping g (turn.Chunk l) (turn.Chunk m) (λ i. i) (λ i. i) e.some (cause_none a.told b.told x (turn.Chunk m) (chunk_goes_on m))
        (λ j i. let d = h.kinds j i in (e.kind ∙ d.0, (subst (λ c. IsOfKind c g) d.0 e.kinds, d.1))) h (
          some_group k l m g some h.gave.0 e,
          λ w o. leads_on w x new (elements m) (waiting g) [] (elements l) (whole_load k l m g e) (h.gave.1 w (record { over = o.over; goes = o.goes })),
        )
    groups_step g (turn.Chunk l) turn.Quiet e h = absurd e
    groups_step g (turn.Chunk l) turn.Done e h = absurd e
    groups_step g (turn.Chunk l) (turn.Fault c) e h = absurd e
    groups_step g turn.Quiet u e h = rw (e.0, e.1) (grouping None turn.Quiet turn.Quiet (λ i. i) (λ i. i) tt h.cause (λ j i. (tt, h.kinds j i)) h (λ w o. leads_on w x new [] [] [] [] refl (h.gave w (record { over = o.over; goes = o.goes }))))
    groups_step g turn.Done u e h = rw (e.0, e.1) (grouping None turn.Done turn.Done (λ i. i) (λ i. i) tt h.cause (λ j i. tt) h (λ w o. inl ([], h.gave w (record { over = o.over; goes = o.goes }), refl)))
    groups_step g (turn.Fault c) u e h = rw (e.0, e.1) (grouping None (turn.Fault c) (turn.Fault c) (λ i. i) (λ i. i) tt h.cause (λ j i. tt) h (λ w o. inl ([], h.gave w (record { over = o.over; goes = o.goes }), refl)))

-- a run with nothing before it that may be left is one that may be left
left_once : (I : Type 0) (A B : Outcomes) → Leads [] A (OrLeft I B) → Leads [] (OrLeft I (Behind [] A)) (OrLeft I B)
left_once I A B f = record { gives = by }
  where
    now : (ys : List Element) (e : End) → Behind [] A ys e → OrLeft I B ys e
    now ys e h = subst (λ us. OrLeft I B us e) (sym h.2) (f.gives h.0 e h.1)

    by : (ys : List Element) (e : End) → OrLeft I (Behind [] A) ys e → OrLeft I B ys e
    by ys e (inl h) = now ys e h
    by ys e (inr (is, inl none)) = inr (is, inl none)
    by ys e (inr (is, inr (more, g, h))) = subst (λ d. OrLeft I B ys d) (sym is) (left_earlier I B ys more g (now (ys ++ more) g h))

module _ {F : Type 0} (P : StateMeaning F) (a : Around) (s n : ℕ) (p r : Box (Unit {0}) Global) (x : Node) (pipe : Pipe) (q : F) where
  -- a pipe is entered whose groups leave the run one by one
  pub groups_enter : (k : ℕ) (c : Box (Unit {0}) Global) → 0 < k → Turned P a a s n (Start (node.Through' p x pipe)) (Through' r (Start x) q) turn.Quiet
      → Turned P a a s n (Start (node.Through' p x pipe)) (Groups' k None c (Through' r (Start x) q)) turn.Quiet
  groups_enter k c some h = record {
    moved = h.moved;
    once = h.once;
    writes = λ i. absurd i;
    live = h.live;
    fewer = omega arith;
    spends = record { events = h.spends.events; scopes = h.spends.scopes; rows = h.spends.rows };
    ready = λ i. (some, tt, h.ready i, tt);
    scopes = λ i c j. absurd j;
    pipes = λ i. h.pipes i;
    kinds = λ j i. (tt, h.kinds j i);
    caused = inl (omega arith);
    cause = h.cause;
    gave = λ w e. left_once (IsIdle w x) (IsRunOfRest P w (Through' r (Start x) q)) (Gives any_leeway P.values w (node.Through' p x pipe)) (h.gave w (record { over = e.over; goes = e.goes }));
  }

  pub groups_entered : (o : Option ℕ) (y : Rest F) → IfSome o (λ k. 0 < k) → IsInGroups o (Through' r (Start x) q) y → Turned P a a s n (Start (node.Through' p x pipe)) (Through' r (Start x) q) turn.Quiet
      → Turned P a a s n (Start (node.Through' p x pipe)) y turn.Quiet
  groups_entered None y some h t = rw h t
  groups_entered (Some k) y some h t = rw h.1 (groups_enter k h.0 some t)
