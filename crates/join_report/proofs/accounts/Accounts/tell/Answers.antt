-- The end stands behind the outer stream's, and names the same stream as before.
use Rattle.std.proofs.Common.{◌≡◌, length, ap, arith}
use Rattle.run_rules.specs.declared.end.EndOf.{EndOf}
use Rattle.join_report.specs.Accounts.{AccountsSeen}
use Rattle.join_report.proofs.Listing.{listed_length, listed_told, seen_told}
use Rattle.join_report.proofs.accounts.Accounts.tell.Goals as goal

pub index_mut-end-requires : goal.index_mut-end-requires
index_mut-end-requires c =
    let all = listed_length _ _ c.self.invariant in
    let seen : length c.self.inside.unwritten.items ≡ length c.args.self.now.unwritten = ap (λ (a : AccountsSeen). length a.unwritten) c.self.view_is in
    omega (arith, all, seen, c.self.inside.ends.ok)

pub invariant_of-self : goal.invariant_of-self
invariant_of-self c = listed_told _ _ _ _ c.index_mut-end.result.now (ap (λ (e : EndOf). e.who) c.index_mut-end.ensures.value) c.self.invariant

pub returns : goal.returns
returns c = seen_told _ _ _ _ _ c.self.view_is
