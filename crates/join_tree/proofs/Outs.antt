-- Which seats are out.
use Rattle.std.proofs.Common.{◌≡◌, ◌≢◌, ℕ, ◌≤◌, Bool, nat_eq, List, [], ◌∷◌, ◌++◌, length, map, sym, ap, ◌∙◌, subst, ⊎_elim, arith}
use Rattle.std.proofs.lemmas.List.{length-map, map-append}
use Rattle.std.specs.List.{IsDistinct}
use Rattle.chunk_core.specs.declared.code.Exit.{Exit}
use Rattle.chunk_core.specs.Lists.{IsAmong}
use Rattle.chunk_core.specs.Lists.IsAmong.{here, there}
use Rattle.chunk_core.proofs.Distinct.{distinct_append, distinct_head, distinct_nil, distinct_one, distinct_tail}
use Rattle.chunk_core.proofs.Members.{among_cons, among_last, among_left, among_nil, among_snoc}
use Rattle.res_ledger.proofs.Mapped.{among_map, map_among}
use Rattle.res_ledger.proofs.Permuted.{distinct_within}
use Rattle.row_seat.specs.declared.view.View.{View}
use Rattle.row_seat.specs.Views.{AreApart, CanJoin, CanSplit, joined, name_of, split_main, without}
use Rattle.row_seat.proofs.Members.{among_kept, among_without}
use Rattle.scope_tree.specs.Calls.{Seen}
use Rattle.tree_laws.specs.Called.{Called}
use Rattle.tree_laws.specs.Called.Called.{none, split, taken_in}
use Rattle.tree_laws.specs.Visits.{Visits}
use Rattle.tree_laws.proofs.Guests.{nothing_among}
use Rattle.tree_laws.proofs.Kept.{lent_stays}
use Rattle.tree_families.specs.Families.{Split, split_of}
use Rattle.join_tree.specs.Guests.{AreOut, Guest, IsOut}
use Rattle.join_tree.specs.Laws.{GuestsStay}
use Rattle.join_tree.specs.Mains.{IsMain}
use Rattle.join_tree.specs.Progress.{Follow, Progress}
use Rattle.join_tree.specs.Steps.{KeepsGuests, guest_of}
use Rattle.join_tree.proofs.Growing.{had_older, out_had}
use Rattle.join_tree.proofs.Passing.{visit_by}

abbrev streams : List Guest → List ℕ
streams gs = map (λ g. g.stream) gs

module _ {P : Type 0} where
  outs_none : (b : Seen P) (ms : List Split) → b.seat.out ≡ [] → AreOut b ms []
  outs_none b ms e = record {
    each = λ g m. absurd (among_nil m);
    all = λ j m. absurd (among_nil (subst (λ l. IsAmong j l) e m));
    apart = distinct_nil;
  }

  pub outs_stay : (b c : Seen P) (ms : List Split) (gs : List Guest) → KeepsGuests b c → AreOut b ms gs → AreOut c ms gs
  outs_stay b c ms gs k o = record {
    each = λ g m. let t = o.each g m in record { out = subst (λ l. IsAmong g.stream l) (sym k.out) t.out; floor = t.floor; lent = k.lent g.stream g.rows t.lent };
    all = λ j m. o.all j (subst (λ l. IsAmong j l) k.out m);
    apart = o.apart;
  }

  outs_order : (b : Seen P) (ms : List Split) (gs hs : List Guest) → AreOut b ms gs → ((g : Guest) → IsAmong g hs → IsAmong g gs) → ((g : Guest) → IsAmong g gs → IsAmong g hs) → IsDistinct nat_eq (map (λ g. g.stream) hs) → AreOut b ms hs
  outs_order b ms gs hs o from to apart = record {
    each = λ g m. o.each g (from g m);
    all = λ j m. let t = o.all j m in (t.0, to t.0 t.1, t.2);
    apart = apart;
  }

  outs_few : (b : Seen P) (ms : List Split) (gs : List Guest) → IsDistinct nat_eq b.seat.out → AreOut b ms gs → length b.seat.out ≤ length gs
  outs_few b ms gs d o =
      let l = distinct_within b.seat.out (streams gs) d (λ j m. let t = o.all j m in subst (λ z. IsAmong z (streams gs)) t.2 (map_among (λ (g : Guest). g.stream) t.0 gs t.1)) in
      let k = length-map gs (λ (g : Guest). g.stream) in omega (l, k, arith)

  outs_empty : (b : Seen P) (ms : List Split) → AreOut b ms [] → b.seat.out ≡ []
  outs_empty b ms o = nothing_among b.seat.out (λ j m. among_nil (o.all j m).1)

pub guests_stay : (P : Type 0) → GuestsStay P
guests_stay P = record { none = outs_none; stay = outs_stay; order = outs_order; few = outs_few; empty = outs_empty }

module _ {P : Type 0} {ends : P → Exit → Bool → P → Type 0} {width n : ℕ} where
  -- the seat of the first stream that waits went out
  pub outs_split : (b c : Seen P) (p : Progress P) (us : List (ℕ × List ℕ)) (gs : List Guest) (j : ℕ) (T : List ℕ) (from to x : ℕ) → IsMain ends width n b p → p.waits ≡ (j, T) ∷ us → CanSplit b.seat j from to x → c ≡ record b { seat = split_main b.seat j from to x } → AreOut b p.splits gs → AreOut c (p.splits ++ split_of b.seat j ∷ []) (gs ++ guest_of b.seat j T ∷ [])
  outs_split b c p us gs j T from to x h is can made o =
      let m = split_of b.seat j in
      let g = guest_of b.seat j T in
      let call : Called ends b [] c = split b c j from to x none can made in
      let out : c.seat.out ≡ b.seat.out ++ j ∷ [] = ap (λ y. y.seat.out) made in
      let order : Follow p.next ((j, T) ∷ us) p.leased = subst (λ l. Follow p.next l p.leased) is h.order in
      let first : j ≡ p.next = order.0 in
      let older : (i : ℕ) → IsAmong i b.seat.out → i ≢ j = λ i a e. (let l = had_older h i (out_had h i a) in omega (l, e, first, arith)) in
      record {
        each = λ k a. ⊎_elim
            (λ i. let t = o.each k i in record {
              out = subst (λ l. IsAmong k.stream l) (sym out) (among_left (j ∷ []) t.out);
              floor = λ q s e. ⊎_elim (λ z. t.floor q z e) (λ z. absurd (older k.stream t.out (sym e ∙ ap (λ (y : Split). y.stream) z))) (among_snoc p.splits q m s);
              lent = lent_stays call t.lent;
            })
            (λ i. subst (IsOut c (p.splits ++ m ∷ [])) (sym i) (record {
              out = subst (λ l. IsAmong j l) (sym out) (among_last b.seat.out j);
              floor = λ q s e. ⊎_elim (λ z. absurd (let l = h.older q z in omega (l, e, first, arith))) (λ z. ap (λ (y : Split). y.floor) z) (among_snoc p.splits q m s);
              lent = lent_stays call (h.lent j T (subst (λ l. IsAmong (j, T) l) (sym is) (here us)));
            }))
            (among_snoc gs k g a);
        all = λ i a. ⊎_elim
            (λ z. let t = o.all i z in (t.0, among_left (g ∷ []) t.1, t.2))
            (λ z. (g, among_last gs g, sym z))
            (among_snoc b.seat.out i j (subst (λ l. IsAmong i l) out a));
        apart = subst (IsDistinct nat_eq) (sym (map-append (λ (y : Guest). y.stream) gs (g ∷ []))) (distinct_append (streams gs) (j ∷ []) o.apart (distinct_one j) (λ i a z. ⊎_elim
            (λ e. let t = among_map (λ (y : Guest). y.stream) i gs a in older t.0.stream (o.each t.0 t.1).out (t.2 ∙ e))
            (λ q. among_nil q)
            (among_cons z)));
      }

module _ {P : Type 0} {ends : P → Exit → Bool → P → Type 0} where
  -- the seat of the first guest came back
  pub outs_join : (b c y : Seen P) (ms : List Split) (g : Guest) (gs : List Guest) → CanJoin b.seat y.seat → AreApart b.seat y.seat → c ≡ record b { seat = joined b.seat y.seat } → Visits ends g.stream g.floor g.rows y → AreOut b ms (g ∷ gs) → AreOut c ms gs
  outs_join b c y ms g gs can apart made visit o =
      let call : Called ends b [] c = taken_in b c y.seat none can apart made in
      let name : name_of y.seat.by ≡ g.stream = ap name_of (visit_by visit) in
      let out : c.seat.out ≡ without (name_of y.seat.by) b.seat.out = ap (λ z. z.seat.out) made in
      let other : (k : Guest) → IsAmong k gs → k.stream ≢ g.stream = λ k m e. distinct_head g.stream (streams gs) o.apart (subst (λ z. IsAmong z (streams gs)) e (map_among (λ (z : Guest). z.stream) k gs m)) in
      record {
        each = λ k m. let t = o.each k (there g m) in record {
          out = subst (λ l. IsAmong k.stream l) (sym out) (among_kept (name_of y.seat.by) b.seat.out k.stream t.out (λ e. other k m (e ∙ name)));
          floor = t.floor;
          lent = lent_stays call t.lent;
        };
        all = λ i m.
            let a = among_without (name_of y.seat.by) b.seat.out i (subst (λ l. IsAmong i l) out m) in
            let t = o.all i a.0 in
            (t.0, ⊎_elim (λ e. absurd (a.1 (sym t.2 ∙ (ap (λ (z : Guest). z.stream) e ∙ sym name)))) (λ z. z) (among_cons t.1), t.2);
        apart = distinct_tail g.stream (streams gs) o.apart;
      }

  -- the same of a seat that is as the guest's tree stood last
  pub outs_take_in : (b c y : Seen P) (v : View P) (ms : List Split) (g : Guest) (gs : List Guest) → CanJoin b.seat v → AreApart b.seat v → c ≡ record b { seat = joined b.seat v } → Visits ends g.stream g.floor g.rows y → v ≡ y.seat → AreOut b ms (g ∷ gs) → AreOut c ms gs
  outs_take_in b c y v ms g gs can apart made visit is o = outs_join b c y ms g gs (subst (λ u. CanJoin b.seat u) is can) (subst (λ u. AreApart b.seat u) is apart) (subst (λ u. c ≡ record b { seat = joined b.seat u }) is made) visit o
