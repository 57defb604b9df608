-- What the rule tells of a main seat and one of its seats that are out.
use Rattle.std.proofs.Common.{◌≡◌, ◌≢◌, ℕ, true, false, map, List, refl, sym, ap, ◌∙◌, subst, ⊎_elim, arith}
use Rattle.std.specs.Prelude.{Option}
use Rattle.chunk_core.specs.Lists.{IsAmong}
use Rattle.chunk_core.proofs.Places.{at_map}
use Rattle.res_ledger.specs.declared.event.Event.{Event}
use Rattle.res_ledger.specs.declared.event.StreamNo.TheVariants.{Inner}
use Rattle.res_ledger.proofs.Ledgers.{by_in, by_out}
use Rattle.row_seat.specs.declared.token.Token.{Token}
use Rattle.row_seat.specs.Rule.{IsSeated, RuleHolds, Holdings, book, ownership, view_of, who, work}
use Rattle.row_seat.specs.Totals.{IsAt, row_times, times}
use Rattle.row_seat.specs.Views.{AreApart}
use Rattle.row_seat.proofs.Rows.{is_vacant}
use Rattle.std.proofs.lemmas.Bool.{cases_Bool}
use Rattle.row_seat.proofs.Times.{row_some, times_some}
use Rattle.row_seat.proofs.Totals.{one_at, total_at}

module _ {P : Type 0} {rows room : ℕ} {word : ℕ → ℕ} {slot : ℕ → Option P} {log : List Event} {views : List (Token P)} (rule : RuleHolds rows room word slot log views) {id : ℕ} {v : Token P} (seat : IsSeated views id v) (main : v.main ≡ true) {jd : ℕ} {w : Token P} (other : IsSeated views jd w) (n : ℕ) (by : w.by ≡ Inner n) (out : IsAmong n v.out) where
  open seat use {at}

  foreign : v.by ≢ Inner n
  foreign = let aw = at_map who views id v at in rule.seats.apart id n (who v) aw main (rule.seats.had id n (who v) aw main out)

  side : w.main ≡ false
  side = ⊎_elim
      (λ m. absurd (foreign (ap (λ (u : Token P). u.by) (one_at views jd v w (subst (λ k. IsAt views k v) (rule.seats.one id jd (who v) (who w) (at_map who views id v at) (at_map who views jd w other.at) main m) at) other.at) ∙ by)))
      (λ f. f)
      (cases_Bool w.main)

  pub seats_apart : (mine theirs : List (ℕ × P)) → AreApart (view_of v mine) (view_of w theirs)
  seats_apart mine theirs =
      let bv = at_map book views id v at in let bw = at_map book views jd w other.at in record {
        events = λ e m b. foreign (sym b ∙ (rule.books.pure jd (book w) e bw side m ∙ by));
        own = λ e m. rule.books.pure jd (book w) e bw side m;
        mine = λ e m b. let t = (by_in w.by w.events e (subst (λ l. IsAmong e l) (sym (rule.books.own jd (book w) bw other.live)) (by_out w.by log e (rule.books.inside id (book v) e bv m) b))).0 in
            foreign (ap (λ (u : Token P). u.by) (one_at views jd v w (subst (λ k. IsAt views k v) (rule.books.one id jd (book v) (book w) e e bv bw m t refl) at) other.at) ∙ by);
        kept = λ r m a. (a.0, a.1, rule.ownerships.fresh id r a.1 a.0 (ownership v) (at_map ownership views id v at) m (a.2.0, rule.books.inside jd (book w) a.2.0 bw a.2.1, a.2.2, a.2.3));
        taken = λ r m a. (a.0, a.1, rule.ownerships.fresh jd r a.1 a.0 (ownership w) (at_map ownership views jd w other.at) m (a.2.0, rule.books.inside id (book v) a.2.0 bv a.2.1, a.2.2, a.2.3));
        vacant = λ r m.
            let l = total_at (λ (u : Holdings). times r u.empty) (map work views) jd (work w) (at_map work views jd w other.at) in let o = times_some r w.empty m in
            let s = is_vacant (rule.words r) (omega (l, o, arith)) in (
              (λ f. s.6 (f.0, f.1, (f.2.0, (f.2.1.0, rule.books.inside id (book v) f.2.1.0 bv f.2.1.1, f.2.1.2, f.2.1.3)))),
              λ j p.
                  let k = total_at (λ (u : Holdings). row_times r u.pairs) (map work views) id (work v) (at_map work views id v at) in let q = row_some j r v.pairs p in let z = s.4 in absurd (omega (k, q, z, arith)),
            );
      }
