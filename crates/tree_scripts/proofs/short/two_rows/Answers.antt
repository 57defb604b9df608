use Rattle.std.proofs.Common.{◌∷◌, [], ◌++◌, ap, ◌∙◌, subst, arith, lit≤}
use Rattle.chunk_core.specs.Lists.IsAmong.{here, there}
use Rattle.res_ledger.specs.declared.event.StreamNo.TheVariants.{Outer}
use Rattle.res_ledger.specs.declared.event.What.TheVariants.{Acquire, Open}
use Rattle.scope_tree.proofs.Rights.{start_leases, start_new}
use Rattle.scope_tree.proofs.Use.{open_number}
use Rattle.tree_scripts.proofs.Telling.{Tells, acquire_tells, first_tells, new_tells}
use Rattle.tree_scripts.proofs.ThreeRows.{script_start}
use Rattle.tree_scripts.proofs.short.two_rows.Goals as goal

pub acquired-requires-clause-scope : goal.acquired-requires-clause-scope
acquired-requires-clause-scope g c = c.open-child.ensures.scopes.usable 0 c.new-tree.ensures.root

pub acquired-requires-clause-row : goal.acquired-requires-clause-row
acquired-requires-clause-row g c = c.open-child.ensures.empty 0 (c.new-tree.ensures.empty 0 (rw c.requires.start (here (1 ∷ []))))

pub acquired-requires-2-clause-scope : goal.acquired-requires-2-clause-scope
acquired-requires-2-clause-scope g c = c.acquired.ensures.scopes.usable c.open-child.result c.open-child.ensures.child

pub acquired-requires-2-clause-row : goal.acquired-requires-2-clause-row
acquired-requires-2-clause-row g c = c.acquired.ensures.empty 1 (λ e. omega arith) (c.open-child.ensures.empty 1 (c.new-tree.ensures.empty 1 (rw c.requires.start (there 0 (here [])))))

pub returns-clause-two : goal.returns-clause-two
returns-clause-two g c =
    let v = g.S.RowSeat.view in let s = c.requires.start in let n = c.new-tree.ensures in let o = c.open-child.ensures in let p = c.acquired.ensures in let q = c.acquired-2.ensures in
    let t0 : Tells Outer [] (v c.new-tree.result.seat) = new_tells (script_start (v c.args.seat) Outer 2 16 _ (lit≤ tt) s) (ap (λ x. x.seat) n.seen) (ap (λ x. x.by) s) in
    let t3 : Tells Outer (Open 1 0 ∷ Acquire 0 0 ∷ Acquire 1 1 ∷ []) (v c.acquired-2.new.self.seat) = subst (λ i. Tells Outer (Open 1 0 ∷ Acquire 0 0 ∷ Acquire 1 i ∷ []) (v c.acquired-2.new.self.seat)) (open_number t0.said o.opens) (acquire_tells (acquire_tells (first_tells t0 o.opens) p.acquires) q.acquires) in
    let s0 = ap (λ x. x.seat.spare) n.seen in let s1 = ap (λ x. x.spare) s in let s2 = ap (λ x. x.spare) o.opens.seat in let s3 = ap (λ x. x.spare) p.acquires.seat in let s4 = ap (λ x. x.spare) q.acquires.seat in
    let z = n.used.0 in let y = ap (λ x. x.rows) n.seen in
    record {
      root = q.scopes.usable 0 (p.scopes.usable 0 (o.scopes.usable 0 n.root));
      new = q.leases.new 7 (p.leases.new 7 (o.leases.new 7 (n.leases.new 7 (start_new (v c.args.seat) Outer 2 16 _ 7 (λ e. cc) s))));
      leases = q.leases.only [] (p.leases.only [] (o.leases.only [] (n.leases.only [] (start_leases (v c.args.seat) Outer 2 16 _ s))));
      main = q.rights.main ∙ p.rights.main ∙ o.rights.main ∙ n.rights.main ∙ ap (λ x. x.main) s;
      out = q.rights.out ∙ p.rights.out ∙ o.rights.out ∙ n.rights.out ∙ ap (λ x. x.out) s;
      by = t3.by;
      trace_is = t3.said;
      events = t3.alone;
      opened = ap (λ x. x.opened) q.acquires.seat ∙ ap (λ l. l ++ (1, c.args.second) ∷ []) (ap (λ x. x.opened) p.acquires.seat ∙ ap (λ l. l ++ (0, c.args.first) ∷ []) (ap (λ x. x.opened) o.opens.seat ∙ ap (λ x. x.seat.opened) n.seen ∙ ap (λ x. x.opened) s));
      spare = omega (n.owed, o.owed, p.owed, q.owed, s0, s1, s2, s3, s4, arith);
      room = omega (z, y, o.room.used, o.room.rows, p.room.used, p.room.rows, q.room.used, q.room.rows, c.requires.room.1, arith);
    }
