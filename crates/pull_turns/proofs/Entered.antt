-- All that is told of the turn in which a node is entered.
use Rattle.std.proofs.Common.{◌≡◌, inl, inr, ℕ, zero, suc, ◌≤◌, Bool, true, false, List, [], length, Option, Some, None, refl, sym, subst, arith, Box, Global}
use Rattle.chunk_core.specs.declared.code.Code.{Code}
use Rattle.chunk_core.specs.declared.code.Code.TheVariants as code
use Rattle.chunk_core.specs.declared.load.Load.{Load}
use Rattle.chunk_core.specs.Elements.{elements}
use Rattle.chunk_core.specs.Feed.{IsSound, Meaning}
use Rattle.pull_nodes.specs.Pipes.{IsMeaningOver, groups_of}
use Rattle.pull_nodes.specs.declared.node.Node.{Node}
use Rattle.pull_nodes.specs.declared.node.Node.TheVariants as node
use Rattle.pull_nodes.specs.declared.pipe.Pipe.{Pipe}
use Rattle.pull_turns.specs.Around.{AcquiresDevice, Around, Enters, IsUntried, Refuses}
use Rattle.pull_turns.specs.Groups.{GivesAtMost, Grouped, HasNoGroups, IsInGroups, size_above}
use Rattle.pull_turns.specs.Moves.{giving, load_or_quiet}
use Rattle.pull_turns.specs.Piping.{StateMeaning}
use Rattle.pull_turns.specs.Rest.{CanStep}
use Rattle.pull_turns.specs.Stepped.{Stepped}
use Rattle.pull_turns.specs.declared.rest.Rest.{Rest}
use Rattle.pull_turns.specs.declared.rest.Rest.TheVariants.{Nil, Start, Read, Within', Then', Through', Take', Into', Zip', Merge'}
use Rattle.pull_turns.specs.declared.rest.When.TheVariants as when
use Rattle.pull_turns.specs.declared.turn.Turn.TheVariants as turn
use Rattle.stream_sides.specs.declared.side.Side.TheVariants.{Left}
use Rattle.pull_turns.proofs.Coming.{through_enter}
use Rattle.pull_turns.proofs.Entering.{append_enter, emit_enter, guard_enter, into_enter, merge_enter, nil_enter, raise_enter, read_enter, scope_enter, take_enter, weak_enter, weak_refused, zip_enter}
use Rattle.pull_turns.proofs.Grouped.{some_size}
use Rattle.pull_turns.proofs.Grouping.{groups_entered}
use Rattle.pull_turns.proofs.Kept.{in_itself}
use Rattle.pull_turns.proofs.Sized.{emit_sized}
use Rattle.pull_turns.proofs.Telling.{tells_none}
use Rattle.pull_turns.proofs.TellingActs.{piped_tells, refused_tells, taker_tells, weak_tells}
use Rattle.pull_turns.proofs.Work.{append_enter_work, emit_work, guard_enter_work, into_enter_work, merge_enter_work, through_enter_work, zip_enter_work}

fault_is_not_quiet : (c : Code) → turn.Fault c ≡ turn.Quiet → ⊥
fault_is_not_quiet c e = cc

most_given : (k n : ℕ) (l : Load) → length (elements l) ≤ k → GivesAtMost k (load_or_quiet n l)
most_given k zero l h = tt
most_given k (suc n) l h = h

-- no load passes through a part that gives groups where a step gets the loads whole
pipe_whole : {F : Type 0} (above : Bool) (pipe : Pipe) (r : Box (Unit {0}) Global) (x : Node) (q : F) (y : Rest F) → IsInGroups (size_above above pipe) (Through' r (Start x) q) y → above ≡ true → HasNoGroups y
pipe_whole true pipe r x q y made e = subst HasNoGroups (sym made) tt
pipe_whole false pipe r x q y made e = let i : ⊥ = cc in absurd i

pipe_grouped : {F : Type 0} (p r : Box (Unit {0}) Global) (x : Node) (pipe : Pipe) (q : F) (o : Option ℕ) (y : Rest F) → o ≡ groups_of pipe → IsInGroups o (Through' r (Start x) q) y → Grouped (Start (node.Through' p x pipe)) y turn.Quiet
pipe_grouped p r x pipe q None y is made = rw made (record { most = λ k i. absurd (rw (← is) at i); group = tt; waits = tt })
pipe_grouped p r x pipe q (Some j) y is made = rw made.1 (record { most = λ k i. (rw (← is) at i, tt); group = tt; waits = tt })

pipe_groups : {F : Type 0} (above : Bool) (p r : Box (Unit {0}) Global) (x : Node) (pipe : Pipe) (q : F) (y : Rest F) → IsInGroups (size_above above pipe) (Through' r (Start x) q) y → above ≡ false → Grouped (Start (node.Through' p x pipe)) y turn.Quiet
pipe_groups true p r x pipe q y made e = let i : ⊥ = cc in absurd i
pipe_groups false p r x pipe q y made e = pipe_grouped p r x pipe q (groups_of pipe) y refl made

module _ {F : Type 0} (P : StateMeaning F) (due : F → ℕ) where
  pub nil_entered : (a : Around) (s n : ℕ) (above : Bool) → Stepped P due a a s n above (Start node.Nil) Nil turn.Done
  nil_entered a s n above = record {
    turned = nil_enter P a s n;
    work = record { falls = λ g. absurd g };
    sized = λ f. record { plain = tt; piece = omega arith; pieces = omega arith };
    whole = λ e. tt;
    grouped = λ e. record { most = λ k i. (tt, tt); group = tt; waits = tt };
    scoped = tt;
    failures = λ w o. tt;
  }

  pub emit_entered : (a : Around) (s n : ℕ) (above : Bool) (l : Load) → Stepped P due a a s n above (Start (node.Emit l)) Nil (giving l)
  emit_entered a s n above l = record {
    turned = emit_enter P a s n l (length (elements l)) refl;
    work = emit_work due l (giving l);
    sized = λ f. emit_sized n l;
    whole = λ e. tt;
    grouped = λ e. record { most = λ k i. (tt, most_given k (length (elements l)) l i); group = tt; waits = tt };
    scoped = tt;
    failures = tells_none a.told (Start (node.Emit l)) Nil (giving l) (λ w e. tt);
  }

  pub raise_entered : (a : Around) (s n : ℕ) (above : Bool) (c : ℕ) → Stepped P due a a s n above (Start (node.Raise c)) Nil (turn.Fault (code.Raised c))
  raise_entered a s n above c = record {
    turned = raise_enter P a s n c;
    work = record { falls = λ g. absurd g };
    sized = λ f. record { plain = tt; piece = omega arith; pieces = omega arith };
    whole = λ e. tt;
    grouped = λ e. record { most = λ k i. (tt, tt); group = tt; waits = tt };
    scoped = tt;
    failures = λ w o. tt;
  }

  pub read_entered : (a : Around) (s n : ℕ) (above : Bool) (p : ℕ) → CanStep P a s (Start (node.Read p)) → Stepped P due a a s n above (Start (node.Read p)) (Read p 0) turn.Quiet
  read_entered a s n above p can = record {
    turned = read_enter P a s n p can;
    work = record { falls = λ g. omega arith };
    sized = λ f. record { plain = tt; piece = omega arith; pieces = omega arith };
    whole = λ e. tt;
    grouped = λ e. record { most = λ k i. absurd i; group = tt; waits = tt };
    scoped = tt;
    failures = λ w o e i. i;
  }

  pub weak_entered : (a b : Around) (s n : ℕ) (above : Bool) (p : ℕ) (q : Box (Unit {0}) Global) (x : Node) → IsUntried (a.told p) → CanStep P a s (Start (node.Weak' p q x)) → AcquiresDevice a s p b
      → Stepped P due a b s n above (Start (node.Weak' p q x)) (Start x) turn.Quiet
  weak_entered a b s n above p q x untried can got = record {
    turned = weak_enter P a b s n p q x untried can got;
    work = record { falls = λ g. omega arith };
    sized = λ f. record { plain = f; piece = omega arith; pieces = omega arith };
    whole = λ e. tt;
    grouped = λ e. record { most = λ k i. (i, tt); group = tt; waits = tt };
    scoped = λ e. got.held;
    failures = weak_tells P a b s p q x untried got;
  }

  pub weak_failed : (a b : Around) (s n : ℕ) (above : Bool) (p : ℕ) (q : Box (Unit {0}) Global) (x : Node) → IsUntried (a.told p) → CanStep P a s (Start (node.Weak' p q x)) → Refuses a p b
      → Stepped P due a b s n above (Start (node.Weak' p q x)) Nil (turn.Fault code.Open)
  weak_failed a b s n above p q x untried can not = record {
    turned = weak_refused P a b s n p q x untried can not;
    work = record { falls = λ g. absurd g };
    sized = λ f. record { plain = tt; piece = omega arith; pieces = omega arith };
    whole = λ e. tt;
    grouped = λ e. record { most = λ k i. (tt, tt); group = tt; waits = tt };
    scoped = λ e. absurd (fault_is_not_quiet code.Open e);
    failures = refused_tells P a b s p q x untried can not;
  }

  pub scope_entered : (a b : Around) (s n : ℕ) (above : Bool) (c : ℕ) (q r : Box (Unit {0}) Global) (x : Node) → CanStep P a s (Start (node.Scope' q x)) → Enters a s c b
      → Stepped P due a b s n above (Start (node.Scope' q x)) (Within' c r (Start x)) turn.Quiet
  scope_entered a b s n above c q r x can opens = record {
    turned = scope_enter P a b s n c q r x can opens;
    work = record { falls = λ g. omega arith };
    sized = λ f. record { plain = f; piece = omega arith; pieces = omega arith };
    whole = λ e. tt;
    grouped = λ e. record { most = λ k i. (i, tt); group = tt; waits = tt };
    scoped = (c, r, refl, refl, (opens.within s).1 (inr (in_itself a can.nested s)), opens.fresh s can.opened, opens.opened, λ o. opens.fresh c o ((opens.within c).1 (inl refl)));
    failures = λ w o e i. i;
  }

  pub append_entered : (a : Around) (s n : ℕ) (above : Bool) (p q r : Box (Unit {0}) Global) (b : Box Node Global) (x : Node) → CanStep P a s (Start (node.Append' p x q b.value))
      → Stepped P due a a s n above (Start (node.Append' p x q b.value)) (Then' when.Done r (Start x) b) turn.Quiet
  append_entered a s n above p q r b x can = record {
    turned = append_enter P a s n p q r b x can;
    work = append_enter_work due p q r x b;
    sized = λ f. record { plain = f; piece = omega arith; pieces = omega arith };
    whole = λ e. (tt, tt);
    grouped = λ e. record { most = λ k i. (i, tt); group = tt; waits = tt };
    scoped = tt;
    failures = λ w o e i. i;
  }

  pub guard_entered : (a : Around) (s n : ℕ) (above : Bool) (p q r : Box (Unit {0}) Global) (b : Box Node Global) (x : Node) → CanStep P a s (Start (node.OnFault' p x q b.value))
      → Stepped P due a a s n above (Start (node.OnFault' p x q b.value)) (Then' when.Fault r (Start x) b) turn.Quiet
  guard_entered a s n above p q r b x can = record {
    turned = guard_enter P a s n p q r b x can;
    work = guard_enter_work due p q r x b;
    sized = λ f. record { plain = f; piece = omega arith; pieces = omega arith };
    whole = λ e. (tt, tt);
    grouped = λ e. record { most = λ k i. (i, tt); group = tt; waits = tt };
    scoped = tt;
    failures = λ w o e i. i;
  }

  pub take_entered : (a : Around) (s n : ℕ) (above : Bool) (m : ℕ) (p r : Box (Unit {0}) Global) (x : Node) → CanStep P a s (Start (node.Take' m p x)) → Stepped P due a a s n above (Start (node.Take' m p x)) (Take' m r (Start x)) turn.Quiet
  take_entered a s n above m p r x can = record {
    turned = take_enter P a s n m p r x can;
    work = record { falls = λ g. omega arith };
    sized = λ f. record { plain = f; piece = omega arith; pieces = omega arith };
    whole = λ e. tt;
    grouped = λ e. record { most = λ k i. absurd i; group = tt; waits = tt };
    scoped = tt;
    failures = taker_tells P a a s m p r x can;
  }

  pub into_entered : (a : Around) (s n : ℕ) (above : Bool) (p : ℕ) (q r : Box (Unit {0}) Global) (v : Option (List ℕ)) (x : Node) → v ≡ (a.told p).written → CanStep P a s (Start (node.Into' p q x))
      → Stepped P due a a s n above (Start (node.Into' p q x)) (Into' p v r (Start x)) turn.Quiet
  into_entered a s n above p q r v x is can = record {
    turned = into_enter P a s n p q r v x is can;
    work = into_enter_work due p v q r x;
    sized = λ f. record { plain = f; piece = omega arith; pieces = omega arith };
    whole = λ e. tt;
    grouped = λ e. record { most = λ k i. (tt, tt); group = tt; waits = tt };
    scoped = tt;
    failures = λ w o e i. i;
  }

  pub zip_entered : (a : Around) (s n : ℕ) (above : Bool) (p q u v : Box (Unit {0}) Global) (x y : Node) → CanStep P a s (Start (node.Zip' p x q y))
      → Stepped P due a a s n above (Start (node.Zip' p x q y)) (Zip' (record { left = []; right = [] }) u (Start x) v (Start y)) turn.Quiet
  zip_entered a s n above p q u v x y can = record {
    turned = zip_enter P a s n p q u v x y can;
    work = zip_enter_work due (record { left = []; right = [] }) p q u v x y;
    sized = λ f. record { plain = f; piece = omega arith; pieces = omega arith };
    whole = λ e. (tt, tt);
    grouped = λ e. record { most = λ k i. absurd i; group = tt; waits = tt };
    scoped = tt;
    failures = λ w o e i. i;
  }

  pub merge_entered : (a : Around) (s n : ℕ) (above : Bool) (p q u v : Box (Unit {0}) Global) (x y : Node) → CanStep P a s (Start (node.Merge' p x q y))
      → Stepped P due a a s n above (Start (node.Merge' p x q y)) (Merge' (record { turn = Left; left_ended = false; right_ended = false }) u (Start x) v (Start y)) turn.Quiet
  merge_entered a s n above p q u v x y can = record {
    turned = merge_enter P a s n p q u v x y can;
    work = merge_enter_work due p q u v x y;
    sized = λ f. record { plain = f; piece = omega arith; pieces = omega arith };
    whole = λ e. (tt, tt);
    grouped = λ e. record { most = λ k i. (i, tt); group = tt; waits = tt };
    scoped = tt;
    failures = λ w o e i. i;
  }

  pub through_entered : ((q : F) → IsSound (P.stands q)) → (a : Around) (s n : ℕ) (above : Bool) (p r : Box (Unit {0}) Global) (x : Node) (pipe : Pipe) (q : F) (y : Rest F) → CanStep P a s (Start (node.Through' p x pipe))
      → ((m : Meaning) → IsMeaningOver P.values pipe m → P.stands q m []) → IsInGroups (size_above above pipe) (Through' r (Start x) q) y → Stepped P due a a s n above (Start (node.Through' p x pipe)) y turn.Quiet
  through_entered sound a s n above p r x pipe q y can of made = record {
    turned = groups_entered P a s n p r x pipe q (size_above above pipe) y (some_size above pipe) made (through_enter P sound a s n p r x pipe q can of);
    work = through_enter_work due p r x pipe q (size_above above pipe) y made;
    sized = λ f. absurd f;
    whole = pipe_whole above pipe r x q y made;
    grouped = pipe_groups above p r x pipe q y made;
    scoped = tt;
    failures = piped_tells P a a s p r x pipe q (size_above above pipe) y made;
  }
