-- What a seat saw of a ledger stays so as that grows.
use Rattle.std.proofs.Common.{◌≡◌, ◌≤◌, List, [], ◌∷◌, ◌++◌, cond, length, refl, sym, ap, ◌∙◌, subst, ⊎_elim, arith, length-append}
use Rattle.std.proofs.lemmas.List.{length_push}
use Rattle.chunk_core.specs.Lists.{IsAmong}
use Rattle.chunk_core.proofs.Cuts.{split_snoc}
use Rattle.chunk_core.proofs.Members.{among_mid}
use Rattle.res_ledger.specs.Ledger.{IsStamped}
use Rattle.res_ledger.specs.Streams.{by_stream}
use Rattle.res_ledger.specs.declared.event.Event.{Event}
use Rattle.res_ledger.specs.declared.event.StreamNo.{StreamNo}
use Rattle.res_ledger.proofs.Ledgers.{by_both, by_in, by_place, stream_cases}
use Rattle.row_seat.specs.Fronts.{IsSight, StandsBehind}
use Rattle.row_seat.specs.declared.front.Sight.{Sight}

pub sight_grows : (L : List Event) (e : Event) (x : Sight) → IsSight L x → IsSight (L ++ e ∷ []) x
sight_grows L e x h = record {
  reached = let a = h.reached in let l = length_push L e in omega arith;
  behind = λ A B d is by few. ⊎_elim
      (λ t. let a = h.reached in let l = ap length t.0 in omega arith)
      (λ t. h.behind A t.0 d t.1 by few)
      (split_snoc L A B e d is);
}

by_here : (k : StreamNo) (B : List Event) (e : Event) → e.by ≡ k → by_stream k (e ∷ B) ≡ e ∷ by_stream k B
by_here k B e by = ⊎_elim (λ t. subst (λ b. cond b (e ∷ by_stream k B) (by_stream k B) ≡ e ∷ by_stream k B) (sym t.1) refl) (λ t. absurd (t.0 by)) (stream_cases e.by k)

-- who sees all that there is, and knows all events of its own stream, has seen this
pub sight_now : (L : List Event) (x : Sight) → x.front ≡ length L → x.count ≡ length (by_stream x.by L) → IsSight L x
sight_now L x front count = record {
  reached = omega arith;
  behind = λ A B e is by few.
      let all : by_stream x.by L ≡ by_stream x.by A ++ e ∷ by_stream x.by B = ap (by_stream x.by) is ∙ (by_both x.by A (e ∷ B) ∙ ap (λ l. by_stream x.by A ++ l) (by_here x.by B e by)) in
      let n = ap length all in let m = length-append (by_stream x.by A) (e ∷ by_stream x.by B) in absurd (omega arith);
}

-- what the stream noted since stands behind the front that was seen
pub sight_tells : (L M : List Event) (x : Sight) → IsStamped L → by_stream x.by M ≡ by_stream x.by L → IsSight L x → StandsBehind x M
sight_tells L M x stamped same h A B e is few =
    let t = by_place x.by L A B e (sym same ∙ is) in
    let mine : IsAmong e (by_stream x.by M) = subst (λ l. IsAmong e l) (sym is) (among_mid A B e) in
    let by = (by_in x.by M e mine).1 in
    let s : e.stamp ≡ length t.0 = stamped t.0 t.1 e t.2 in
    let b = h.behind t.0 t.1 e t.2 by (subst (λ l. x.count ≤ length l) (sym t.3) few) in omega arith
