use Rattle.std.proofs.Common.{◌≡◌, [], ◌∷◌, ◌++◌, inl, inr, refl, sym, ap, ◌∙◌, subst, arith}
use Rattle.chunk_core.specs.Lists.{IsAmong}
use Rattle.chunk_core.specs.Lists.IsAmong.{here, there}
use Rattle.res_ledger.specs.declared.event.What.TheVariants.{Open, Acquire, Final}
use Rattle.res_ledger.specs.Own.{opens, closes}
use Rattle.res_ledger.specs.Order.{finals}
use Rattle.scope_tree.specs.Released.{said}
use Rattle.scope_tree.specs.Trace.{trace}
use Rattle.scope_tree.proofs.Use.{acquire_more, all_open, closed_now, open_number, open_one, start_said}
use Rattle.tree_scripts.proofs.Chain.{close_four, close_rows, two_of, two_opened, two_pays, still_empty, Three, Four}
use Rattle.tree_scripts.proofs.uses.two.Goals as goal
use Rattle.chunk_core.specs.declared.code.Exit.TheVariants.{Succeeded}

pub open-child-requires-clause-root : goal.open-child-requires-clause-root
open-child-requires-clause-root g c =
    let w = start_said (g.S.RowSeat.view c.args.seat) (g.S.RowSeat.view c.new-tree.result.seat) c.requires.start (ap (λ x. x.seat) c.new-tree.ensures.seen) in
    (all_open (g.S.RowSeat.view c.new-tree.result.seat) 0 (ap closes w) (inl refl)).1

pub acquired-requires-clause-scope : goal.acquired-requires-clause-scope
acquired-requires-clause-scope g c =
    let w = start_said (g.S.RowSeat.view c.args.seat) (g.S.RowSeat.view c.new-tree.result.seat) c.requires.start (ap (λ x. x.seat) c.new-tree.ensures.seen) in
    all_open (g.S.RowSeat.view c.open-child.new.self.seat) 0 (ap closes (open_one w c.open-child.ensures.opens)) (inl refl)

pub acquired-requires-2-clause-scope : goal.acquired-requires-2-clause-scope
acquired-requires-2-clause-scope g c =
    let w = start_said (g.S.RowSeat.view c.args.seat) (g.S.RowSeat.view c.new-tree.result.seat) c.requires.start (ap (λ x. x.seat) c.new-tree.ensures.seen) in
    let w3 = acquire_more (open_one w c.open-child.ensures.opens) c.acquired.ensures.acquires in
    let n = open_number w c.open-child.ensures.opens in
    all_open (g.S.RowSeat.view c.acquired.new.self.seat) c.open-child.result (ap closes w3) (inr (0, subst (λ E. IsAmong (c.open-child.result, 0) (opens E)) (sym w3) (subst (λ z. IsAmong (z, 0) ((1, 0) ∷ [])) (sym n) (here []))))

pub acquired-requires-2-clause-row : goal.acquired-requires-2-clause-row
acquired-requires-2-clause-row g c =
    let e : (g.S.RowSeat.view c.new-tree.result.seat).empty ≡ (g.S.RowSeat.view c.args.seat).empty = ap (λ x. x.seat.empty) c.new-tree.ensures.seen in
    still_empty (subst (λ l. IsAmong 1 l) (sym e) c.requires.rows.1) (λ z. omega arith) c.open-child.ensures.opens c.acquired.ensures.acquires

pub close-requires-clause-scope : goal.close-requires-clause-scope
close-requires-clause-scope g c =
    let w = start_said (g.S.RowSeat.view c.args.seat) (g.S.RowSeat.view c.new-tree.result.seat) c.requires.start (ap (λ x. x.seat) c.new-tree.ensures.seen) in
    let w4 = acquire_more (acquire_more (open_one w c.open-child.ensures.opens) c.acquired.ensures.acquires) c.acquired-2.ensures.acquires in
    all_open (g.S.RowSeat.view c.acquired-2.new.self.seat) 0 (ap closes w4) (inl refl)

pub end-requires : goal.end-requires
end-requires g c =
    let w = start_said (g.S.RowSeat.view c.args.seat) (g.S.RowSeat.view c.new-tree.result.seat) c.requires.start (ap (λ x. x.seat) c.new-tree.ensures.seen) in
    let w4 : trace (g.S.RowSeat.view c.acquired-2.new.self.seat) ≡ Open 1 0 ∷ Acquire 0 0 ∷ Acquire 1 c.open-child.result ∷ [] = acquire_more (acquire_more (open_one w c.open-child.ensures.opens) c.acquired.ensures.acquires) c.acquired-2.ensures.acquires in
    let w5 : trace (g.S.RowSeat.view c.acquired-2.new.self.seat) ≡ Three = w4 ∙ ap (λ n. Open 1 0 ∷ Acquire 0 0 ∷ Acquire 1 n ∷ []) (open_number w c.open-child.ensures.opens) in
    record {
      tree = c.close.ensures.fits.sound;
      closed = closed_now c.close.ensures.closes;
    }

pub returns-clause-two : goal.returns-clause-two
returns-clause-two g c =
    let w = start_said (g.S.RowSeat.view c.args.seat) (g.S.RowSeat.view c.new-tree.result.seat) c.requires.start (ap (λ x. x.seat) c.new-tree.ensures.seen) in
    let w4 : trace (g.S.RowSeat.view c.acquired-2.new.self.seat) ≡ Open 1 0 ∷ Acquire 0 0 ∷ Acquire 1 c.open-child.result ∷ [] = acquire_more (acquire_more (open_one w c.open-child.ensures.opens) c.acquired.ensures.acquires) c.acquired-2.ensures.acquires in
    let w5 : trace (g.S.RowSeat.view c.acquired-2.new.self.seat) ≡ Three = w4 ∙ ap (λ n. Open 1 0 ∷ Acquire 0 0 ∷ Acquire 1 n ∷ []) (open_number w c.open-child.ensures.opens) in
    let k = c.close.ensures.closes in let xs = k.torn.0 in
    let t = two_of xs 1 0 (close_rows w5 k) in
    let shelf : c.acquired-2.new.self.shelf.items ≡ [] = c.acquired-2.ensures.acquires.shelf ∙ c.acquired.ensures.acquires.shelf ∙ c.open-child.ensures.opens.shelf ∙ ap (λ x. x.shelf) c.new-tree.ensures.seen in
    let opened = two_opened (ap (λ x. x.seat.opened) c.new-tree.ensures.seen ∙ c.requires.start.opened) c.open-child.ensures.opens c.acquired.ensures.acquires c.acquired-2.ensures.acquires in
    let once = c.acquired-2.ensures.fits.sound.kept.holds.once in
    let one = two_pays t.0 1 c.args.second k once opened (subst (λ l. IsAmong t.0 l) (sym t.2) (here (t.1 ∷ []))) t.3 (there (0, c.args.first) (here [])) in
    let other = two_pays t.1 0 c.args.first k once opened (subst (λ l. IsAmong t.1 l) (sym t.2) (there t.0 (here []))) t.4 (here ((1, c.args.second) ∷ [])) in
    record {
      one = t.0;
      other = t.1;
      rows = (t.3, t.4);
      exits = (one.0, other.0);
      finished = (one.1, other.1);
      shelf_is = c.end.ensures.shelf ∙ k.torn.1 ∙ ap (λ l. l ++ xs) shelf ∙ t.2;
      events = ap trace c.end.ensures.seat ∙ close_four w5 k ∙ ap (λ l. Four ++ finals Succeeded (said l)) t.2 ∙ ap (λ r. Four ++ Final r Succeeded t.0.ok ∷ Final t.1.row Succeeded t.1.ok ∷ []) t.3 ∙ ap (λ r. Four ++ Final 1 Succeeded t.0.ok ∷ Final r Succeeded t.1.ok ∷ []) t.4;
    }

pub returns-clause-fits : goal.returns-clause-fits
returns-clause-fits g c = c.end.ensures.fits c.close.new.desk c.close.ensures.fits
