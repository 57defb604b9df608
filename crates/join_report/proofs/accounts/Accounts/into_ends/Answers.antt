-- The ends of so many streams, and the outer stream's.
use Rattle.std.proofs.Common.{◌≡◌, ◌∙◌, ◌∷◌, length, map, ap, arith, take}
use Rattle.run_rules.specs.declared.end.EndOf.{EndOf}
use Rattle.join_report.specs.Accounts.{AccountsSeen}
use Rattle.join_report.proofs.Listing.{first_ends}
use Rattle.join_report.proofs.accounts.Accounts.into_ends.Goals as goal

pub returns : goal.returns
returns c =
    let same : length c.self.inside.unwritten.items ≡ length c.args.self.unwritten = ap (λ (a : AccountsSeen). length a.unwritten) c.self.view_is in
    let few = c.requires in
    let first = first_ends c.self.inside.ends.items c.self.inside.unwritten.items c.args.streams c.args.outer c.index_mut-end.result.now c.truncate.new.self.items c.self.invariant (omega (arith, same, few)) c.truncate.ensures.items c.index_mut-end.ensures.value in
    record {
      names = ap (λ xs. map (λ (e : EndOf). e.who) xs) c.of_vec.ensures ∙ first.names;
      hows = ap (λ xs. map (λ (e : EndOf). e.how) xs) c.of_vec.ensures ∙ (first.hows ∙ ap (λ (a : AccountsSeen). c.args.outer ∷ take c.args.streams a.hows) c.self.view_is);
    }
