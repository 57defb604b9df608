-- The turn in which a node is entered.
use Rattle.std.proofs.Common.{◌≡◌, inl, inr, ℕ, zero, suc, ◌+◌, ◌≤◌, List, [], ◌++◌, length, ◌⊎◌, refl, sym, ◌∙◌, ap, subst, arith, Box, Global, append-nil, length-append, Option, Some, None, IfSome, false}
use Rattle.chunk_core.specs.declared.code.Code.TheVariants as code
use Rattle.std.proofs.lemmas.Bool.Decides.{eqb_tells}
use Rattle.chunk_core.specs.declared.load.Load.{Load}
use Rattle.chunk_core.specs.Elements.{elements}
use Rattle.chunk_core.specs.Outcomes.{Done, Cut}
use Rattle.device_port.specs.Device.{DeviceTold}
use Rattle.pull_nodes.specs.declared.node.Node.{Node}
use Rattle.pull_nodes.specs.declared.node.Node.TheVariants as node
use Rattle.pull_nodes.specs.Runs.{IsRun}
use Rattle.pull_nodes.specs.Shape.{places_of}
use Rattle.pull_turns.specs.Around.{AcquiresDevice, Around, Enters, IsUntried, Refuses}
use Rattle.pull_turns.specs.Piping.{StateMeaning}
use Rattle.pull_turns.specs.Rest.{AreApart, CanStep, IsIn, NoPlace}
use Rattle.pull_turns.specs.Turned.{IsOpenedIn, TellsAtEnd, Turned}
use Rattle.pull_turns.specs.Moves.{load_or_quiet}
use Rattle.pull_turns.specs.declared.rest.Rest.TheVariants.{Nil, Start, Read, Within', Then', Take', Into', Zip', Merge'}
use Rattle.pull_turns.specs.declared.rest.When.TheVariants as when
use Rattle.pull_turns.specs.declared.turn.Turn.TheVariants as turn
use Rattle.pull_turns.proofs.Leads.{by_left, by_taken_first, taken_stops}
use Rattle.pull_turns.proofs.Lists.{no_length}
use Rattle.pull_turns.proofs.Kept.{field_same, fresh_entered, fresh_opened, in_itself}
use Rattle.pull_turns.proofs.Turns.{moved_place, moved_none, once_same, quiet_goes_on, chunk_goes_on, done_is_no_fault, cause_none, turned_same}
use Rattle.pull_turns.proofs.Pieces.{reads_start, some_run}
use Rattle.pull_turns.proofs.Unwritten.{idle_fresh, written_same}
use Rattle.pull_turns.proofs.Written.{some_written, written_first}
use Rattle.pull_turns.proofs.Zips.{by_zipped_first, zipped_stops}
use Rattle.std.proofs.lemmas.Bool.{false≢true}
use Rattle.stream_sides.specs.declared.side.Side.TheVariants.{Left}

raised_is_no_open : (c : ℕ) → turn.Fault (code.Raised c) ≡ turn.Fault code.Open → ⊥
raised_is_no_open c e = cc

raised_is_no_read : (c : ℕ) → turn.Fault (code.Raised c) ≡ turn.Fault code.Read → ⊥
raised_is_no_read c e = cc

raised_is_no_write : (c : ℕ) → turn.Fault (code.Raised c) ≡ turn.Fault code.Write → ⊥
raised_is_no_write c e = cc

open_is_no_write : turn.Fault code.Open ≡ turn.Fault code.Write → ⊥
open_is_no_write e = cc

open_is_no_read : turn.Fault code.Open ≡ turn.Fault code.Read → ⊥
open_is_no_read e = cc

none_left : (o : Option (List ℕ)) → IfSome o (λ c. 0 ≤ length c)
none_left None = tt
none_left (Some c) = omega arith

module _ {F : Type 0} (P : StateMeaning F) where
  pub nil_enter : (a : Around) (s n : ℕ) → Turned P a a s n (Start node.Nil) Nil turn.Done
  nil_enter a s n = turned_same P a s n _ _ _ (λ p i. i) (omega arith) (omega arith) (omega arith) (λ c i. i) (λ g. absurd g) (λ g. absurd g) (λ k h. tt) (λ g. absurd g)
      (cause_none a.told a.told _ _ done_is_no_fault) (λ w o. inl (refl, refl))

  pub emit_enter : (a : Around) (s n : ℕ) (l : Load) (k : ℕ) → k ≡ length (elements l) → Turned P a a s n (Start (node.Emit l)) Nil (load_or_quiet k l)
  emit_enter a s n l zero e = turned_same P a s n _ _ _ (λ p i. i) (omega arith) (omega arith) (omega arith) (λ c i. i) (λ g. tt) (λ g. tt) (λ k h. tt) (λ g. inl (omega arith))
      (cause_none a.told a.told _ _ quiet_goes_on)
      (λ w o. by_left (record { gives = λ ys g h. (h.0 ∙ sym (no_length (elements l) (sym e)), h.1) }) (λ i. ([], Done, (refl, refl))))
  emit_enter a s n l (suc k) e = turned_same P a s n _ _ _ (λ p i. i) (omega arith) (omega arith) (omega arith) (λ c i. i) (λ g. tt) (λ g. tt) (λ k h. (h, tt)) (λ g. inl (omega arith))
      (cause_none a.told a.told _ _ (chunk_goes_on l))
      (omega (arith, e), λ w o. by_left (record { gives = λ ys g h. (ap (λ zs. elements l ++ zs) h.0 ∙ append-nil (elements l), h.1) }) (λ i. ([], Done, (refl, refl))))

  pub raise_enter : (a : Around) (s n c : ℕ) → Turned P a a s n (Start (node.Raise c)) Nil (turn.Fault (code.Raised c))
  raise_enter a s n c = turned_same P a s n _ _ _ (λ p i. i) (omega arith) (omega arith) (omega arith) (λ c i. i) (λ g. absurd g) (λ g. absurd g) (λ k h. tt) (λ g. absurd g)
      (record { open_fault = λ e. absurd (raised_is_no_open c e); read_fault = λ e. absurd (raised_is_no_read c e); write_fault = λ e. absurd (raised_is_no_write c e) }) (λ w o. inl (refl, refl))

  pub read_enter : (a : Around) (s n p : ℕ) → CanStep P a s (Start (node.Read p)) → Turned P a a s n (Start (node.Read p)) (Read p 0) turn.Quiet
  read_enter a s n p h = turned_same P a s n _ _ _ (λ p i. i) (omega arith) (omega arith) (omega arith) (λ c i. i)
      (λ g. (h.ready.0.at, h.ready.0.faults, omega arith, none_left (a.told p).content, elim h.ready.1 [ inl i ↦ absurd i | inr i ↦ i ], h.ready.0.mode)) (λ g. tt) (λ k i. i) (λ g. inl (omega arith))
      (cause_none a.told a.told _ _ quiet_goes_on)
      (λ w o. by_left (reads_start (w p)) (λ i. some_run (w p) 0 (omega arith)))

  pub weak_enter : (a b : Around) (s n p : ℕ) (q : _) (x : Node) → IsUntried (a.told p) → CanStep P a s (Start (node.Weak' p q x)) → AcquiresDevice a s p b
      → Turned P a b s n (Start (node.Weak' p q x)) (Start x) turn.Quiet
  weak_enter a b s n p q x untried h k =
      let opens : (b.told p).opens ≡ 1 = ap (λ (d : DeviceTold). d.opens) k.told in
      let at : (b.told p).at ≡ (a.told p).at = ap (λ (d : DeviceTold). d.at) k.told in
      let faults : (b.told p).open_faults ≡ (a.told p).open_faults = ap (λ (d : DeviceTold). d.open_faults) k.told in
      record {
        moved = moved_place a b p (Start (node.Weak' p q x)) (inl refl) k.keeps (record { content = ap (λ (d : DeviceTold). d.content) k.told; place = ap (λ (d : DeviceTold). d.place) k.told; at = omega (arith, at); within = λ w. omega (arith, at, w); opens = λ o. (opens, faults) });
        once = once_same a.told b.told n
            (field_same (λ d. d.at) b.told a.told p at (λ r m. ap (λ (d : DeviceTold). d.at) (k.keeps.told r m)))
            (field_same (λ d. d.read_faults) b.told a.told p (ap (λ (d : DeviceTold). d.read_faults) k.told) (λ r m. ap (λ (d : DeviceTold). d.read_faults) (k.keeps.told r m)));
        writes = λ i. absurd i;
        live = λ r i. inr i;
        fewer = omega arith;
        spends = record { events = omega (arith, k.events); scopes = omega (arith, k.scopes); rows = omega (arith, k.rows) };
        ready = λ g. fresh_opened a b s p h.nested h.opened k x h.ready.1 h.ready.2;
        scopes = λ g c i. absurd i;
        pipes = λ g. h.pipes;
        kinds = λ k i. i;
        caused = inl (omega arith);
        cause = cause_none a.told b.told _ _ quiet_goes_on;
        gave = λ w e. record { gives = λ ys g i. let o = (e.goes p).opens opens in inl (inl (o.0, o.1 ∙ (faults ∙ untried.open_faults), i)) };
      }

  pub weak_refused : (a b : Around) (s n p : ℕ) (q : _) (x : Node) → IsUntried (a.told p) → CanStep P a s (Start (node.Weak' p q x)) → Refuses a p b → Turned P a b s n (Start (node.Weak' p q x)) Nil (turn.Fault code.Open)
  weak_refused a b s n p q x untried h k =
      let opens : (b.told p).opens ≡ (a.told p).opens = ap (λ (d : DeviceTold). d.opens) k.told in
      let at : (b.told p).at ≡ (a.told p).at = ap (λ (d : DeviceTold). d.at) k.told in
      let risen : (b.told p).open_faults ≡ (a.told p).open_faults + 1 = ap (λ (d : DeviceTold). d.open_faults) k.told in
      let refused_same : (r : ℕ) → (b.told r).written ≡ (a.told r).written =
      λ r. elim (eqb_tells r p) [ inl m ↦ subst (λ j. (b.told j).written ≡ (a.told j).written) (sym m.1) (ap (λ (d : DeviceTold). d.written) k.told) | inr m ↦ written_same (a.told r) (b.told r) (k.keeps.told r m.1) ] in
      record {
        moved = moved_place a b p (Start (node.Weak' p q x)) (inl refl) k.keeps (record { content = ap (λ (d : DeviceTold). d.content) k.told; place = ap (λ (d : DeviceTold). d.place) k.told; at = omega (arith, at); within = λ w. omega (arith, at, w); opens = λ o. absurd (omega (arith, o, untried.opens)) });
        once = once_same a.told b.told n
            (field_same (λ d. d.at) b.told a.told p at (λ r m. ap (λ (d : DeviceTold). d.at) (k.keeps.told r m)))
            (field_same (λ d. d.read_faults) b.told a.told p (ap (λ (d : DeviceTold). d.read_faults) k.told) (λ r m. ap (λ (d : DeviceTold). d.read_faults) (k.keeps.told r m)));
        writes = λ i. absurd i;
        live = λ r i. absurd i;
        fewer = omega arith;
        spends = record { events = omega (arith, k.affords.events); scopes = omega (arith, k.affords.scopes); rows = omega (arith, k.affords.rows) };
        ready = λ g. absurd g;
        scopes = λ g. absurd g;
        pipes = λ g. absurd g;
        kinds = λ k i. tt;
        caused = tt;
        cause = record { open_fault = λ e. (p, inl refl, omega (arith, risen)); read_fault = λ e. absurd (open_is_no_read e); write_fault = λ e. absurd (open_is_no_write e) };
        gave = λ w o.
            let is = o.over p (inl refl) in
            inl (inr (ap (λ (d : DeviceTold). d.opens) is ∙ (opens ∙ untried.opens), omega (arith, risen, ap (λ (d : DeviceTold). d.open_faults) is, untried.open_faults), refl, refl, idle_fresh a w (λ r. (r ≡ p) ⊎ NoPlace r) s x h.ready.2 (λ r i. written_same (b.told r) (w r) (o.over r (inr i)) ∙ refused_same r)));
      }

  pub scope_enter : (a b : Around) (s n c : ℕ) (q r : _) (x : Node) → CanStep P a s (Start (node.Scope' q x)) → Enters a s c b
      → Turned P a b s n (Start (node.Scope' q x)) (Within' c r (Start x)) turn.Quiet
  scope_enter a b s n c q r x h k = record {
    moved = moved_none a b (λ c. ⊥) (Start (node.Scope' q x)) (λ c i. i) k.keeps;
    once = once_same a.told b.told n (λ i. ap (λ (d : DeviceTold). d.at) (k.keeps.told i (λ j. j))) (λ i. ap (λ (d : DeviceTold). d.read_faults) (k.keeps.told i (λ j. j)));
    writes = λ i. absurd i;
    live = λ p i. i;
    fewer = omega arith;
    spends = record { events = omega (arith, k.events); scopes = omega (arith, k.scopes); rows = omega (arith, k.rows) };
    ready = λ g. ((k.within s).1 (inr (in_itself a h.nested s)), k.fresh s h.opened, k.opened, fresh_entered a b s c x k h.ready);
    scopes = λ g d. elim [
      | inl e ↦ inr (subst (λ i. IsOpenedIn a b s (λ j. ⊥) i) (sym e) (record { fresh = k.fresh; inside = λ i w. elim ((k.within i).0 w) [ inl j ↦ inl j | inr j ↦ inr (s, inl refl, j) ] }))
      | inr i ↦ absurd i
    ];
    pipes = λ g. h.pipes;
    kinds = λ k i. i;
    caused = inl (omega arith);
    cause = cause_none a.told b.told _ _ quiet_goes_on;
    gave = λ w e. record { gives = λ ys g i. i };
  }

  pub append_enter : (a : Around) (s n : ℕ) (p q r : Box (Unit {0}) Global) (b : Box Node Global) (x : Node) → CanStep P a s (Start (node.Append' p x q b.value)) → Turned P a a s n (Start (node.Append' p x q b.value)) (Then' when.Done r (Start x) b) turn.Quiet
  append_enter a s n p q r b x h = turned_same P a s n _ _ _ (λ p i. i) (omega arith)
      (omega (arith, length-append (places_of x) (places_of b.value))) (omega arith) (λ c. elim [ inl i ↦ i | inr i ↦ i ]) (λ g. (h.ready.0, h.ready.1.0, h.ready.1.1)) (λ g. h.pipes) (λ k i. i) (λ g. inl (omega arith))
      (cause_none a.told a.told _ _ quiet_goes_on) (λ w o. record { gives = λ ys g i. i })

  pub guard_enter : (a : Around) (s n : ℕ) (p q r : Box (Unit {0}) Global) (b : Box Node Global) (x : Node) → CanStep P a s (Start (node.OnFault' p x q b.value)) → Turned P a a s n (Start (node.OnFault' p x q b.value)) (Then' when.Fault r (Start x) b) turn.Quiet
  guard_enter a s n p q r b x h = turned_same P a s n _ _ _ (λ p i. i) (omega arith)
      (omega (arith, length-append (places_of x) (places_of b.value))) (omega arith) (λ c. elim [ inl i ↦ i | inr i ↦ i ]) (λ g. (h.ready.0, h.ready.1.0, h.ready.1.1)) (λ g. h.pipes) (λ k i. i) (λ g. inl (omega arith))
      (cause_none a.told a.told _ _ quiet_goes_on) (λ w o. record { gives = λ ys g i. i })

  pub take_enter : (a : Around) (s n m : ℕ) (p r : _) (x : Node) → CanStep P a s (Start (node.Take' m p x)) → Turned P a a s n (Start (node.Take' m p x)) (Take' m r (Start x)) turn.Quiet
  take_enter a s n m p r x h = turned_same P a s n _ _ _ (λ p i. i.1) (omega arith) (omega arith) (omega arith) (λ c i. i.1) (λ g. (λ some. h.ready, tt)) (λ g. h.pipes) (λ k i. i) (λ g. inl (omega arith))
      (cause_none a.told a.told _ _ quiet_goes_on)
      (λ w o. by_left (by_taken_first m (unmet w o)) (λ i. taken_stops m (λ some. inr (refl, inl (refl, i some)))))
    where
      -- where none is wanted, what is below never runs
      unmet : (w : ℕ → DeviceTold) → TellsAtEnd {F = F} a.told w (Start (node.Take' m p x)) (Take' m r (Start x)) → m ≡ 0 → IsRun P.values w x [] Cut
      unmet w o z = inr (refl, inl (refl, idle_fresh a w NoPlace s x h.ready (λ q i. written_same (a.told q) (w q) (o.over q i (λ j. absurd (omega (arith, j.0, z)))))))

  pub into_enter : (a : Around) (s n p : ℕ) (q r : _) (v : Option (List ℕ)) (x : Node) → v ≡ (a.told p).written → CanStep P a s (Start (node.Into' p q x)) → Turned P a a s n (Start (node.Into' p q x)) (Into' p v r (Start x)) turn.Quiet
  into_enter a s n p q r v x e h =
      let none : IfSome v (λ bytes. bytes ≡ []) = subst (λ o. IfSome o (λ bytes. bytes ≡ [])) (sym e) h.ready.0.written in
      turned_same P a s n _ _ _ (λ p i. i) (omega arith) (omega arith) (omega arith) (λ c i. i)
      (λ g. (record { mode = h.ready.0.mode; written = sym e; faults = h.ready.0.faults }, elim h.ready.1 [ inl i ↦ absurd i | inr i ↦ i ], h.ready.2, h.ready.3, tt))
      (λ g. h.pipes) (λ k i. i) (λ g. inl (omega arith))
      (cause_none a.told a.told _ _ quiet_goes_on)
      (λ w o. by_left (written_first v (w p) (IsRun P.values w x) none) (λ i. some_written v (w p) (IsRun P.values w x) i.0 i.1 (inr (refl, inl (refl, i.2)))))

  -- both sides are about to run, and nothing waits
  sides_ready : (a : Around) (s : ℕ) (x y : Node) → ((p : ℕ) → IsIn p x → IsIn p y → ⊥) → AreApart {F = F} a (Start x) (Start y)
  sides_ready a s x y never = record { places = never; scopes = λ c d i j. absurd i }

  pub zip_enter : (a : Around) (s n : ℕ) (p q u v : Box (Unit {0}) Global) (x y : Node) → CanStep P a s (Start (node.Zip' p x q y)) → Turned P a a s n (Start (node.Zip' p x q y)) (Zip' (record { left = []; right = [] }) u (Start x) v (Start y)) turn.Quiet
  zip_enter a s n p q u v x y h = turned_same P a s n _ _ _ (λ p i. i) (omega arith)
      (omega (arith, length-append (places_of x) (places_of y))) (omega arith) (λ c. elim [ inl i ↦ i | inr i ↦ i ])
      (λ g. (sides_ready a s x y h.ready.0, h.ready.1.0, h.ready.1.1, tt, tt)) (λ g. h.pipes) (λ k i. i) (λ g. inl (omega arith))
      (cause_none a.told a.told _ _ quiet_goes_on)
      (λ w o. by_left (by_zipped_first (IsRun P.values w x) (IsRun P.values w y)) (λ i. zipped_stops [] [] (IsRun P.values w x) (IsRun P.values w y) (inr (refl, inl (refl, i.0))) (inr (refl, inl (refl, i.1)))))

  pub merge_enter : (a : Around) (s n : ℕ) (p q u v : Box (Unit {0}) Global) (x y : Node) → CanStep P a s (Start (node.Merge' p x q y))
      → Turned P a a s n (Start (node.Merge' p x q y)) (Merge' (record { turn = Left; left_ended = false; right_ended = false }) u (Start x) v (Start y)) turn.Quiet
  merge_enter a s n p q u v x y h = turned_same P a s n _ _ _ (λ p i. i) (omega arith)
      (omega (arith, length-append (places_of x) (places_of y))) (omega arith) (λ c. elim [ inl i ↦ i | inr i ↦ i ])
      (λ g. (sides_ready a s x y h.ready.0, h.ready.1.0, h.ready.1.1, inl refl, (λ i. absurd (false≢true i)), (λ i. absurd (false≢true i)))) (λ g. h.pipes) (λ k i. i) (λ g. inl (omega arith))
      (cause_none a.told a.told _ _ quiet_goes_on) (λ w o. record { gives = λ ys g i. i })
