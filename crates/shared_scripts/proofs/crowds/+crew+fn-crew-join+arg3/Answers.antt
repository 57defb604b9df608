use Rattle.std.proofs.Common.{◌≡◌, ◌≢◌, ◌+◌, ◌≤◌, [], ◌∷◌, ◌++◌, sym, ◌∙◌, subst, arith}
use Rattle.row_shared.specs.Seats.{shown}
use Rattle.shared_scripts.specs.Crowds.{IsGathered}
use Rattle.shared_scripts.proofs.Homes.{inner_apart}
use Rattle.shared_scripts.proofs.Racing.{outer_inner}
use Rattle.shared_scripts.proofs.crowds.+crew+fn-crew-join+arg3.Goals as goal

pub shut_common-requires-clause-host : goal.shut_common-requires-clause-host
shut_common-requires-clause-host g n c = (c.args.stream, c.requires.hosting.host)

pub gather-requires-clause-fits : goal.gather-requires-clause-fits
gather-requires-clause-fits g n c =
    let hired = c.in_ok-host.ensures in let guest = c.in_ok-host.guest in let desk = c.in_ok-host-2.host.desk in
    let named = hired.ready.0.living.by in let same = hired.ready.1 in
    let fits = rw c.in_ok-host-2.was at c.join-own.ensures.second.1.0 in
    let earlier = rw c.in_ok-host-2.was at c.join-own.ensures.second.1.1 in
    (fits, c.join-own.ensures.first.1 desk (earlier guest.seat (λ q. outer_inner guest.stream (sym q ∙ named)) (λ k le q. inner_apart guest.stream k (λ e. omega (arith, le, e, same)) (sym named ∙ q)) hired.home))

pub returns-clause-gathered : goal.returns-clause-gathered
returns-clause-gathered g n c =
    let out = (shown c.args.host.seat).out in let j = c.args.stream in
    let gathered = rw c.in_ok-host-2.was at c.join-own.ensures.second.0 in
    c.gather.ensures.host out (subst (λ o. IsGathered (shown c.in_ok-host-2.host.seat) o) c.in_ok-host.ensures.out gathered) (λ m. let l = c.requires.hosting.host.outs j m in omega (arith, l))

pub returns-clause-earlier : goal.returns-clause-earlier
returns-clause-earlier g n c = λ s ne early f.
    let earlier = rw c.in_ok-host-2.was at c.join-own.ensures.second.1.1 in
    c.gather.ensures.earlier s ne early (earlier s ne (λ k le. early k (omega (arith, le))) (c.in_ok-host.ensures.earlier s ne early f))
