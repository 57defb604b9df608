use Rattle.std.proofs.Common.{◌≡◌, true, false, length, Ok, Err, refl, sym, ◌∙◌, subst, arith}
use Rattle.chunk_core.specs.declared.code.How.TheVariants as how
use Rattle.join_tree.specs.Progress.{reading}
use Rattle.scope_tree.specs.Trees.{seen}
use Rattle.outer_stream.specs.Pulls.{Ends, NextPart}
use Rattle.outer_stream.proofs.Going.{amid_leased, ends_unleased, goes_nowhere, goes_then, some_left}
use Rattle.outer_stream.proofs.Keeping.{others_kept, others_then, rows_then}
use Rattle.outer_stream.proofs.outer.Outer.pull.Goals as goal

pub loop-self-init : goal.loop-self-init
loop-self-init g c =
    let view = g.S.RowSeat.view in
    record {
      goes = λ n width N q h. goes_nowhere g.D.Dev.Device.told c.args.parts.now c.args.tables.now n width N q c.args.self.now (g.D.Depot.told c.args.depot.now) (seen view c.args.tree.now) h;
      fits = c.requires.fits;
      others = λ o n h. h;
    }

pub next_part-requires-clause-main : goal.next_part-requires-clause-main
next_part-requires-clause-main g c =
    let m = c.requires.main in
    let f = c.loop-self.invariant.goes m.0 m.1 m.2 m.3 m.4 in
    (m.0, m.1, m.2, reading m.3 f.noted, f.now)

pub loop-self-preserved : goal.loop-self-preserved
loop-self-preserved g c =
    let view = g.S.RowSeat.view in
    let told = g.D.Dev.Device.told in
    let P = c.args.parts.now in
    let i = c.loop-self.invariant in
    let e = c.in-Ok-true.ensures in
    let at : c.in-Ok-true.field-0 ≡ true = c.in-Ok-true.field-0-test in
    record {
      goes = λ n width N q h.
          let f = i.goes n width N q h in
          let s = subst (λ b. NextPart told P c.args.tables.now n width N (reading q f.noted) c.loop-self.self c.next_part.new.self (g.D.Depot.told c.loop-self.depot) (g.D.Depot.told c.next_part.new.depot) (seen view c.loop-self.tree) (seen view c.next_part.new.tree) (Ok b)) at (e.next n width N (reading q f.noted) f.now) in
          goes_then told P c.args.tables.now n width N q c.args.self.now c.loop-self.self c.next_part.new.self (g.D.Depot.told c.args.depot.now) (g.D.Depot.told c.loop-self.depot) (g.D.Depot.told c.next_part.new.depot) (seen view c.args.tree.now) (seen view c.loop-self.tree) (seen view c.next_part.new.tree) f s.2;
      fits = e.fits;
      others = λ o n h. e.others o n (i.others o n h);
    }

pub loop-self-smaller : goal.loop-self-smaller
loop-self-smaller g c =
    let view = g.S.RowSeat.view in
    let told = g.D.Dev.Device.told in
    let P = c.args.parts.now in
    let m = c.requires.main in
    let e = c.in-Ok-true.ensures in
    let at : c.in-Ok-true.field-0 ≡ true = c.in-Ok-true.field-0-test in
    let f = c.loop-self.invariant.goes m.0 m.1 m.2 m.3 m.4 in
    let s = subst (λ b. NextPart told P c.args.tables.now m.0 m.1 m.2 (reading m.3 f.noted) c.loop-self.self c.next_part.new.self (g.D.Depot.told c.loop-self.depot) (g.D.Depot.told c.next_part.new.depot) (seen view c.loop-self.tree) (seen view c.next_part.new.tree) (Ok b)) at (e.next m.0 m.1 m.2 (reading m.3 f.noted) f.now) in
    let l = s.0 in
    let k = s.1 in
    omega (l, k, arith)

pub returns-in-Ok-false-clause-pulls : goal.returns-in-Ok-false-clause-pulls
returns-in-Ok-false-clause-pulls g c n width N q h =
    let view = g.S.RowSeat.view in
    let told = g.D.Dev.Device.told in
    let P = c.args.parts.now in
    let f = c.loop-self.invariant.goes n width N q h in
    let at : c.in-Ok-false.field-0 ≡ false = c.in-Ok-false.field-0-test in
    let s = subst (λ b. NextPart told P c.args.tables.now n width N (reading q f.noted) c.loop-self.self c.next_part.new.self (g.D.Depot.told c.loop-self.depot) (g.D.Depot.told c.next_part.new.depot) (seen view c.loop-self.tree) (seen view c.next_part.new.tree) (Ok b)) at (c.in-Ok-false.ensures.next n width N (reading q f.noted) f.now) in
    record {
      between = c.loop-self.self;
      depot = g.D.Depot.told c.loop-self.depot;
      mid = seen view c.loop-self.tree;
      goes = f;
      comes = s;
      keeps = others_then (length c.args.tables.now) (length c.args.tables.now) (seen view c.args.tree.now) (seen view c.loop-self.tree) (seen view c.next_part.new.tree) (omega arith) f.keeps s.keeps;
      rows = rows_then (seen view c.args.tree.now) (seen view c.loop-self.tree) (seen view c.next_part.new.tree) f.rows s.rows;
    }

pub returns-in-Err-Fault-clause-pulls : goal.returns-in-Err-Fault-clause-pulls
returns-in-Err-Fault-clause-pulls g c n width N q h =
    let view = g.S.RowSeat.view in
    let told = g.D.Dev.Device.told in
    let P = c.args.parts.now in
    let f = c.loop-self.invariant.goes n width N q h in
    let r = subst (λ e. NextPart told P c.args.tables.now n width N (reading q f.noted) c.loop-self.self c.next_part.new.self (g.D.Depot.told c.loop-self.depot) (g.D.Depot.told c.next_part.new.depot) (seen view c.loop-self.tree) (seen view c.next_part.new.tree) (Err e)) c.in-Err-Fault.field-0-is (c.in-Err-Fault.ensures.next n width N (reading q f.noted) f.now) in
    let s = subst (λ k. Ends told P c.args.tables.now n width N (reading q f.noted) c.loop-self.self c.next_part.new.self (g.D.Depot.told c.loop-self.depot) (g.D.Depot.told c.next_part.new.depot) (seen view c.loop-self.tree) (seen view c.next_part.new.tree) (how.Fault k)) (sym c.in-Err-Fault.code-is) r in
    record {
      between = c.loop-self.self;
      depot = g.D.Depot.told c.loop-self.depot;
      mid = seen view c.loop-self.tree;
      goes = f;
      comes = s;
      keeps = others_then (length c.args.tables.now) (length c.args.tables.now) (seen view c.args.tree.now) (seen view c.loop-self.tree) (seen view c.next_part.new.tree) (omega arith) f.keeps s.keeps;
      rows = rows_then (seen view c.args.tree.now) (seen view c.loop-self.tree) (seen view c.next_part.new.tree) f.rows s.rows;
    }

pub returns-in-Err-Memory-clause-pulls : goal.returns-in-Err-Memory-clause-pulls
returns-in-Err-Memory-clause-pulls g c n width N q h =
    let view = g.S.RowSeat.view in
    let told = g.D.Dev.Device.told in
    let P = c.args.parts.now in
    let f = c.loop-self.invariant.goes n width N q h in
    let s = subst (λ e. NextPart told P c.args.tables.now n width N (reading q f.noted) c.loop-self.self c.next_part.new.self (g.D.Depot.told c.loop-self.depot) (g.D.Depot.told c.next_part.new.depot) (seen view c.loop-self.tree) (seen view c.next_part.new.tree) (Err e)) c.in-Err-Memory.field-0-is (c.in-Err-Memory.ensures.next n width N (reading q f.noted) f.now) in
    record {
      between = c.loop-self.self;
      depot = g.D.Depot.told c.loop-self.depot;
      mid = seen view c.loop-self.tree;
      goes = f;
      comes = s;
      keeps = others_then (length c.args.tables.now) (length c.args.tables.now) (seen view c.args.tree.now) (seen view c.loop-self.tree) (seen view c.next_part.new.tree) (omega arith) f.keeps s.keeps;
      rows = rows_then (seen view c.args.tree.now) (seen view c.loop-self.tree) (seen view c.next_part.new.tree) f.rows s.rows;
    }

pub lease_next-requires-clause-main : goal.lease_next-requires-clause-main
lease_next-requires-clause-main g c =
    let view = g.S.RowSeat.view in
    let m = c.requires.main in
    let f = c.loop-self.invariant.goes m.0 m.1 m.2 m.3 m.4 in
    let o = f.now in
    let less = some_left g.D.Dev.Device.told c.args.parts.now c.args.tables.now m.0 m.1 m.2 (reading m.3 f.noted) c.loop-self.self (seen view c.loop-self.tree) o c.loop-self-test.false in
    let l = o.leased in
    let few = o.few in
    (m.1, m.2, reading m.3 f.noted, o.main, o.root, o.leased, omega (less, l, few, arith))

pub lease_next-requires-clause-scope : goal.lease_next-requires-clause-scope
lease_next-requires-clause-scope g c = let m = c.requires.main in (c.loop-self.invariant.goes m.0 m.1 m.2 m.3 m.4).now.amid.scope

pub lease_next-requires-clause-free : goal.lease_next-requires-clause-free
lease_next-requires-clause-free g c =
    let view = g.S.RowSeat.view in
    let m = c.requires.main in
    let f = c.loop-self.invariant.goes m.0 m.1 m.2 m.3 m.4 in
    let less = some_left g.D.Dev.Device.told c.args.parts.now c.args.tables.now m.0 m.1 m.2 (reading m.3 f.noted) c.loop-self.self (seen view c.loop-self.tree) f.now c.loop-self-test.false in
    let h = f.now.may.leases less in
    omega (less, h, arith)

pub returns-in-Ok-clause-pulls : goal.returns-in-Ok-clause-pulls
returns-in-Ok-clause-pulls g c n width N q h =
    let view = g.S.RowSeat.view in
    let told = g.D.Dev.Device.told in
    let P = c.args.parts.now in
    let ts = c.args.tables.now in
    let f = c.loop-self.invariant.goes n width N q h in
    let o = f.now in
    let x = c.loop-self.self in
    let mid = seen view c.loop-self.tree in
    let b = seen view c.lease_next.new.tree in
    let e = c.in-Ok.ensures in
    let less = some_left told P ts n width N (reading q f.noted) x mid o c.loop-self-test.false in
    let l = o.leased in
    let few = o.few in
    let r = e.leases width N (reading q f.noted) o.main o.root o.leased (omega (less, l, few, arith)) o.narrow in
    record {
      between = x;
      depot = g.D.Depot.told c.loop-self.depot;
      mid = mid;
      goes = f;
      comes = (
        refl,
        record {
          less = less;
          lessee = r.0 ∙ o.leased;
          rows = r.1;
          lent = r.2;
          gives = e.gives;
          main = r.3;
          now = refl;
          amid = amid_leased told P ts n width N (reading q f.noted) x mid o b c.loop-self-test.false e.gives e.guests e.scopes e.room;
          keeps = others_kept 0 mid b e.guests;
          kept = e.rows;
          room = e.room;
          paid = e.events;
        },
      );
      keeps = others_then 0 (length ts) (seen view c.args.tree.now) mid b (omega arith) f.keeps (others_kept 0 mid b e.guests);
      rows = rows_then (seen view c.args.tree.now) mid b f.rows e.rows;
    }

pub returns-in-Err-clause-pulls : goal.returns-in-Err-clause-pulls
returns-in-Err-clause-pulls g c n width N q h =
    let view = g.S.RowSeat.view in
    let told = g.D.Dev.Device.told in
    let P = c.args.parts.now in
    let ts = c.args.tables.now in
    let f = c.loop-self.invariant.goes n width N q h in
    let o = f.now in
    let x = c.loop-self.self in
    let mid = seen view c.loop-self.tree in
    let b = seen view c.lease_next.new.tree in
    let e = c.in-Err.ensures in
    let less = some_left told P ts n width N (reading q f.noted) x mid o c.loop-self-test.false in
    let l = o.leased in
    let few = o.few in
    let same : b ≡ mid = e.leases width N (reading q f.noted) o.main o.root o.leased (omega (less, l, few, arith)) o.narrow in
    record {
      between = x;
      depot = g.D.Depot.told c.loop-self.depot;
      mid = mid;
      goes = f;
      comes = ends_unleased told P ts n width N (reading q f.noted) x mid o (g.D.Depot.told c.loop-self.depot) b same;
      keeps = others_then 0 (length ts) (seen view c.args.tree.now) mid b (omega arith) f.keeps (others_kept 0 mid b e.guests);
      rows = rows_then (seen view c.args.tree.now) mid b f.rows e.rows;
    }

pub overflow_add-self : goal.overflow_add-self
overflow_add-self g c =
    let view = g.S.RowSeat.view in
    let m = c.requires.main in
    let f = c.loop-self.invariant.goes m.0 m.1 m.2 m.3 m.4 in
    let less = some_left g.D.Dev.Device.told c.args.parts.now c.args.tables.now m.0 m.1 m.2 (reading m.3 f.noted) c.loop-self.self (seen view c.loop-self.tree) f.now c.loop-self-test.false in
    let h = f.now.small in
    omega (less, h, arith)
