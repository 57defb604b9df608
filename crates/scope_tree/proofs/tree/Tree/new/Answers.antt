use Rattle.std.proofs.Common.{rules, false, ◌≡◌, length, [], ◌∷◌, ◌++◌, sym, ap, ◌∙◌, subst, arith}
use Rattle.scope_tree.specs.declared.branch.Branch.{Branch}
use Rattle.scope_tree.specs.Kept.{Kept, Shelved}
use Rattle.scope_tree.proofs.Grows.{start_keeps, start_owed, start_root}
use Rattle.scope_tree.proofs.Rooms.{used_is}
use Rattle.scope_tree.proofs.Shelving.{start_shelved}
use Rattle.scope_tree.proofs.tree.Tree.new.Goals as goal

pub returns-clause-fits : goal.returns-clause-fits
returns-clause-fits g c = λ d f.
    let v = g.S.RowSeat.view c.args.seat in let room = c.args.room in let root : Branch = record { parent = 0; shut = false } in
    let items : c.push_reserved.new.self.items ≡ root ∷ [] = c.push_reserved.ensures.items ∙ ap (λ l. l ++ root ∷ []) room.nothing.0 in
    let k = start_keeps v c.requires.start in let u = used_is v (root ∷ []) [] k [] in
    let kept : Kept v c.push_reserved.new.self.items room.acquisitions.items = subst (λ l. Kept v l room.acquisitions.items) (sym items) (subst (λ l. Kept v (root ∷ []) l) (sym room.nothing.1) k) in
    let e = room.enough in let cap = c.push_reserved.ensures.capacity in record {
      seat = f;
      sound = record {
        kept = kept;
        shelved = subst (λ l. Shelved v l room.shelf.items) (sym room.nothing.1) (subst (λ l. Shelved v [] l) (sym room.nothing.2) (start_shelved v c.requires.start));
        used = rw room.nothing.2 (omega (u, arith));
        branches = (let a = e.0 in omega (a, cap, arith));
        acquisitions = e.1;
        shelf = e.2;
        limit = search rules;
        rows_limit = search rules;
      };
    }

pub push_reserved-requires : goal.push_reserved-requires
push_reserved-requires g c = let e = c.args.room.enough in let o = c.args.room.one in let n = ap length c.args.room.nothing.0 in let z = c.args.room.branches.ok.0 in let a = e.0 in omega (o, n, z, a, arith)

pub returns-clause-root : goal.returns-clause-root
returns-clause-root g c = start_root (g.S.RowSeat.view c.args.seat) c.requires.start

pub returns-clause-owed : goal.returns-clause-owed
returns-clause-owed g c = start_owed (g.S.RowSeat.view c.args.seat) c.requires.start
