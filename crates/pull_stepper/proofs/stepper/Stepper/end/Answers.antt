use Rattle.std.proofs.Common.{◌≡◌, ◌+◌, ◌∙◌, length, ap, subst, sym, nat_eq}
use Rattle.std.specs.List.{filter_map, IsDistinct}
use Rattle.chunk_core.specs.Outcomes.{exit_of}
use Rattle.res_ledger.specs.declared.event.What.TheVariants.{Close}
use Rattle.res_ledger.specs.Ledger.{Notes}
use Rattle.res_ledger.specs.Order.{firsts}
use Rattle.scope_tree.specs.Calls.{IsClosedScope}
use Rattle.scope_tree.specs.Released.{said}
use Rattle.scope_tree.specs.Trees.{seen}
use Rattle.scope_tree.proofs.Keeps.{nothing_open}
use Rattle.pull_stepper.specs.Resources.{site}
use Rattle.pull_stepper.specs.Sites.{Parted, told_at}
use Rattle.pull_stepper.proofs.Parting.{parted, root_closed}
use Rattle.pull_stepper.proofs.stepper.Stepper.end.Goals as goal

pub returns-clause-ends : goal.returns-clause-ends
returns-clause-ends g c =
    let told = g.V.Device.told in let view = g.S.RowSeat.view in
    let o = c.args.self.runner.outside in let t = o.tree in
    let stands = c.requires.fits.1.stands in let sound = stands.tree.sound in
    let x = site view o in
    let same : c.end-outside.result.0 ≡ o = c.end-outside.ensures.outside in
    let closed : IsClosedScope (seen view t) 0 = root_closed (view t.seat) t.branches.items t.acquisitions.items sound.kept (c.requires.over.shut.scopes 0) in
    let known : c.requires.over.how ≡ c.end-outside.result.1 = (let a = c.requires.over.ended in let b = c.end-outside.ensures.how in cc) in
    let unopened : c.of_vec.result ≡ filter_map (λ s. s) x.slots = c.of_vec.ensures ∙ (c.from_slots.ensures ∙ ap (λ r. filter_map (λ s. s) r.slots.items) same) in
    let all = parted told x stands.order (nothing_open (view t.seat) t.branches.items t.acquisitions.items sound.kept closed) sound.shelved.distinct sound.shelved.empty in
    record {
      tree = ap (λ r. seen view r.tree) same;
      how = c.end-outside.ensures.how;
      exit = λ y n. (c.requires.over.exit.exit y).0 (subst (λ r. Notes (seen view r.tree).seat.events (seen view r.tree).seat.by (Close 0 y)) same n) ∙ ap exit_of known;
      root = subst (λ r. IsClosedScope (seen view r.tree) 0) (sym same) closed;
      once = subst (λ r. IsDistinct nat_eq (firsts (said r.tree.shelf.items))) (sym same) sound.shelved.distinct;
      parted = subst (λ r. Parted told (told_at told x) r.tree.shelf.items (x.from + length x.slots) x.from c.of_vec.result) (sym same)
          (subst (λ ds. Parted told (told_at told x) x.tree.shelf (x.from + length x.slots) x.from ds) (sym unopened) all);
    }
