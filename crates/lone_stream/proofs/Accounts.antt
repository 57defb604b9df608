-- What a ledger of one stream alone says of it.
use Rattle.std.proofs.Common.{◌≡◌, ℕ, zero, suc, ◌<◌, false, List, [], ◌∷◌, ◌++◌, map, length, Some, None, refl, sym, ◌∙◌, ap, subst, arith}
use Rattle.std.specs.List.{AllByRecursion}
use Rattle.chunk_core.specs.Lists.{IsAmong}
use Rattle.chunk_core.specs.Lists.IsAmong.{here}
use Rattle.chunk_core.specs.Outcomes.{exit_of}
use Rattle.chunk_core.specs.declared.code.Exit.{Exit}
use Rattle.chunk_core.specs.declared.code.How.{How}
use Rattle.chunk_core.proofs.Each.{each_among, among_each}
use Rattle.chunk_core.proofs.Members.{among_mid}
use Rattle.res_ledger.specs.declared.event.StreamNo.{StreamNo}
use Rattle.res_ledger.specs.declared.event.StreamNo.TheVariants.{Inner}
use Rattle.res_ledger.specs.declared.event.What.{What}
use Rattle.res_ledger.specs.declared.event.What.TheVariants.{Cancel, Close}
use Rattle.res_ledger.specs.declared.event.Event.{Event}
use Rattle.res_ledger.specs.Streams.{by_stream}
use Rattle.res_ledger.proofs.Ledgers.{by_in, canceled_leased, inner_is}
use Rattle.device_port.specs.Device.{Place, DeviceTold}
use Rattle.run_rules.specs.Facts.{at, leased_stream, is_failed, has_event}
use Rattle.run_rules.specs.declared.end.EndOf.{EndOf}
use Rattle.run_rules.specs.Ends.{IsLast}
use Rattle.run_rules.specs.Exits.{HasExit}
use Rattle.run_rules.specs.Rules.{ClosesBeforeLeaving, IsOurs}
use Rattle.lone_stream.specs.Account.{alone, IsAccount, IsAccountOf}
use Rattle.joined_runs.proofs.JoinedRules.{none_leased}
use Rattle.joined_runs.proofs.RowAccounts as rows
use Rattle.joined_runs.proofs.RowAccounts.{AreRowsKept}

module _ {who : StreamNo} (count scopes : ℕ) (w : ℕ → DeviceTold) (how : How) (L : List Event) (a : IsAccountOf who count scopes w how L) where
  -- each event is the stream's
  pub its_own : (e : Event) → IsAmong e L → e.by ≡ who
  its_own e i = (among_each (λ x. (x.by ≡ who) × (leased_stream x.what ≡ None)) e L a.own i).0

  -- its rows are kept
  pub kept : AreRowsKept count w L
  kept = record {
    legal = a.legal;
    complete = a.complete;
    acquired = λ k r s n. a.acquired r s (n.0, n.1, its_own n.0 n.1, n.3);
    each = a.each;
    ended = λ k r x ok n. a.ended r x ok (n.0, n.1, its_own n.0 n.1, n.3);
  }

  -- where each device was closed well, so says each Final
  pub clean : ((r : ℕ) → r < count → (w r).close_faults ≡ 0) → has_event is_failed L ≡ false
  clean well = rows.clean count w L kept well

  -- nothing was leased, so no lease was cancelled
  pub no_cancel : (e : Event) → IsAmong e L → (j : ℕ) (x : Exit) → e.what ≡ Cancel j x → ⊥
  no_cancel e i j x is =
      let n = canceled_leased L j a.legal (e.by, (x, (e, i, refl, is))) in
      let m : Event = n.2.0 in
      none_leased m.what j n.1 (among_each (λ x. (x.by ≡ who) × (leased_stream x.what ≡ None)) m L a.own n.2.1).1 n.2.3

  pub leaves_closed : ClosesBeforeLeaving L
  leaves_closed P Q e j x is by what = absurd (no_cancel e (subst (λ l. IsAmong e l) (sym is) (among_mid P Q e)) j x what)

module _ (count scopes : ℕ) (w : ℕ → DeviceTold) (how : How) (L : List Event) (a : IsAccount count scopes w how L) where
  -- no stream above any noted something
  pub none_above : (k : ℕ) → IsLast k L
  none_above k j acts = let n = inner_is j 0 (sym acts.2 ∙ its_own count scopes w how L a acts.0 acts.1) in omega (arith, n)

  abbrev end_0 : EndOf
  end_0 = record { who = Inner 0; how = how }

  exit_what : (v : What) → ((x : Exit) → v ≡ Close 0 x → x ≡ exit_of how) → ((j : ℕ) (x : Exit) → v ≡ Cancel j x → ⊥) → HasExit end_0 v
  exit_what (Close zero x) p q = p x refl
  exit_what (Close (suc s) x) p q = tt
  exit_what (Cancel j x) p q = absurd (q j x refl)
  exit_what v p q = tt

  pub told_as_ended : AllByRecursion (λ e. HasExit end_0 e.what) (by_stream (Inner 0) L)
  told_as_ended = each_among (λ (e : Event). HasExit end_0 e.what) (by_stream (Inner 0) L) (λ e m.
      let i = by_in (Inner 0) L e m in
      exit_what e.what (λ x v. a.exits x (e, i.0, i.1, v)) (λ j x v. no_cancel count scopes w how L a e i.0 j x v))

-- each row of the only stream is its own
pub owner_at : (ps : List Place) (r : ℕ) → r < length ps → at (map (λ p. Inner 0) ps ++ []) r ≡ Some (Inner 0)
owner_at [] r l = absurd (omega arith)
owner_at (p ∷ ps) zero l = refl
owner_at (p ∷ ps) (suc r) l = owner_at ps r (omega arith)

-- no event is of a stream or of a row that isn't there
pub ours : (places : List Place) (scopes : ℕ) (w : ℕ → DeviceTold) (how : How) (L : List Event) → IsAccount (length places) scopes w how L → (runs ideal : _) → AllByRecursion (IsOurs (alone places scopes runs ideal)) L
ours places scopes w how L a runs ideal =
    each_among (IsOurs (alone places scopes runs ideal)) L (λ e i.
    let own = among_each (λ x. (x.by ≡ Inner 0) × (leased_stream x.what ≡ None)) e L a.own i in
    record {
      by = subst (λ k. IsAmong k (Inner 0 ∷ [])) (sym own.0) (here []);
      leases = λ j s v. absurd (none_leased e.what j s own.1 v);
      owns = λ r s v. owner_at places r (a.acquired r s (e, i, own.0, v)).0 ∙ ap Some (sym own.0);
    })
