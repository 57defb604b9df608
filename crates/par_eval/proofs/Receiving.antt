-- What a dealer receives of a hand.
use Rattle.std.proofs.Common.{◌≡◌, ◌==◌, ℕ, true, List, [], ◌∷◌, ◌++◌, map, filter, Option, Some, None, if◌then◌else◌, refl, sym, ap, ◌∙◌, subst, ⊎_elim, eq-eqb, append_assoc, append-nil}
use Rattle.std.specs.Prelude.{IfNone, IfSome, option_to_list}
use Rattle.std.proofs.lemmas.List.{map-append}
use Rattle.chunk_core.specs.Lists.{IsAmong}
use Rattle.chunk_core.specs.Lists.IsAmong.{here, there}
use Rattle.chunk_core.specs.declared.code.How.{How}
use Rattle.chunk_core.specs.declared.load.Load.{Load as Piece}
use Rattle.chunk_core.proofs.Members.{among_cons, among_nil}
use Rattle.channel_bounded.specs.Ends.{MayReceive, ReceiverSeen, ReceiverSees}
use Rattle.channel_bounded.specs.Queue.{KeptByGet}
use Rattle.channel_bounded.specs.Streams.{IsWhole, of_stream}
use Rattle.channel_bounded.specs.declared.message.Body.{Body}
use Rattle.channel_bounded.specs.declared.message.Body.TheVariants.{Load, End}
use Rattle.channel_bounded.specs.declared.message.Msg.{Msg}
use Rattle.par_eval.specs.Inboxes.{Gets, GetsEnd, IsInbox, IsSameInbox, MayReceiveOn, ReceivedThen, TakesNext, results_got, with_got}
use Rattle.par_eval.specs.Messages.{IsPaired, bodies, messages_of, paired, results_in, the_stream}
use Rattle.par_eval.specs.declared.work.Worked.{Worked}
use Rattle.channel_bounded.proofs.Streams.{of_stream-append}
use Rattle.par_eval.proofs.Pairs.{bodies_more, messages_more, paired_end, paired_load}

-- messages of one stream are all of that stream
all_of_it : (k : ℕ) (ms : List Msg) → ((m : Msg) → IsAmong m ms → m.stream ≡ k) → of_stream k ms ≡ ms
all_of_it k [] h = refl
all_of_it k (m ∷ ms) h =
    ap (λ b. if b then (m ∷ of_stream k ms) else of_stream k ms) (eq-eqb m.stream k (h m (here ms)))
    ∙ ap (λ l. m ∷ l) (all_of_it k ms (λ n i. h n (there m i)))

only_it : (k j : ℕ) → IsAmong j (k ∷ []) → j ≡ k
only_it k j m = ⊎_elim (λ e. e) (λ n. absurd (among_nil n)) (among_cons m)

no_other : (may : List Msg → List Msg → Type 0) (r : ReceiverSeen) (queued : List Msg) → r.made ≡ the_stream ∷ [] → ReceiverSees may r queued → of_stream the_stream (r.got ++ queued) ≡ r.got ++ queued
no_other may r queued made s = all_of_it the_stream (r.got ++ queued) (λ m i. only_it the_stream m.stream (subst (λ l. IsAmong m.stream l) made (s.0.senders m i)))

-- all that was sent was received or is queued
pub whole_bodies : (may : List Msg → List Msg → Type 0) (r s : ReceiverSeen) (k : ℕ) (sent queued : List Msg) → r.made ≡ the_stream ∷ [] → s.made ≡ r.made → s.got ≡ r.got → k ≡ the_stream → IsWhole k sent r.got queued → ReceiverSees may s queued → bodies r.got ++ bodies queued ≡ bodies sent
whole_bodies may r s k sent queued made same got is whole sees =
    let rule : of_stream the_stream (s.got ++ queued) ≡ s.got ++ queued = no_other may s queued (same ∙ made) sees in
    let each : of_stream the_stream (r.got ++ queued) ≡ r.got ++ queued = subst (λ l. of_stream the_stream (l ++ queued) ≡ l ++ queued) got rule in
    sym (map-append (λ (m : Msg). m.body) r.got queued)
    ∙ ap bodies (sym each ∙ of_stream-both r.got queued ∙ subst (λ n. of_stream n r.got ++ of_stream n queued ≡ sent) is whole)
  where
    of_stream-both : (xs ys : List Msg) → of_stream the_stream (xs ++ ys) ≡ of_stream the_stream xs ++ of_stream the_stream ys
    of_stream-both xs ys = of_stream-append the_stream xs ys

seen_paired : (may : List Msg → List Msg → Type 0) (r : ReceiverSeen) (m : Msg) (rest : List Msg) → r.made ≡ the_stream ∷ [] → ReceiverSees (paired may) r (m ∷ rest) → IsPaired (bodies r.got ++ m.body ∷ bodies rest)
seen_paired may r m rest made s = subst IsPaired (ap bodies (no_other (paired may) r (m ∷ rest) made s) ∙ map-append (λ (n : Msg). n.body) r.got (m ∷ rest)) s.1.1

pub kept_paired : (may : List Msg → List Msg → Type 0) (r : ReceiverSeen) → MayReceive may r → MayReceive (paired may) r
kept_paired may r keep = λ m rest f. (keep m rest (f.0, f.1.0), subst (λ l. IsPaired (bodies (of_stream the_stream l))) (sym (append_assoc r.got (m ∷ []) rest)) f.1.1)

load_not_end : (l : Piece) (h : How) → Load l ≡ End h → ⊥
load_not_end l h e = cc

pub comes_load : (may : List Msg → List Msg → Type 0) (r : ReceiverSeen) (m : Msg) (h : How) → ReceivedThen r [] → ((rest : List Msg) × ReceiverSees (paired may) r (m ∷ rest)) → m.body ≡ End h → ⊥
comes_load may r m h w s e =
    let t = paired_load w.results m.body (bodies s.0) (subst (λ l. IsPaired (l ++ m.body ∷ bodies s.0)) (w.holds ∙ append-nil (messages_of w.results)) (seen_paired may r m s.0 w.made s.1)) in
    load_not_end t.0 h (sym t.1 ∙ e)

pub comes_end : (may : List Msg → List Msg → Type 0) (r : ReceiverSeen) (out l : Piece) (m : Msg) → ReceivedThen r (Load out ∷ []) → ((rest : List Msg) × ReceiverSees (paired may) r (m ∷ rest)) → m.body ≡ Load l → ⊥
comes_end may r out l m w s e =
    let p : IsPaired ((messages_of w.results ++ Load out ∷ []) ++ m.body ∷ bodies s.0) = subst (λ l. IsPaired (l ++ m.body ∷ bodies s.0)) w.holds (seen_paired may r m s.0 w.made s.1) in
    let t = paired_end w.results out m.body (bodies s.0) (subst IsPaired (append_assoc (messages_of w.results) (Load out ∷ []) (m.body ∷ bodies s.0)) p) in
    load_not_end l t.0 (sym e ∙ t.1)

results_then : (ws : List Worked) → results_in (messages_of ws ++ []) ≡ ws
results_then [] = refl
results_then (w ∷ ws) = ap (λ l. w ∷ l) (results_then ws)

results_half : (ws : List Worked) (l : Piece) → results_in (messages_of ws ++ Load l ∷ []) ≡ ws
results_half [] l = refl
results_half (w ∷ ws) l = ap (λ l. w ∷ l) (results_half ws l)

pub may_now : (may : List Msg → List Msg → Type 0) (r : ReceiverSeen) → MayReceiveOn may r → MayReceive may r
may_now may r all = subst (λ l. KeptByGet may l r.made r.closed) (append-nil r.got) (all [])

pub may_then : (may : List Msg → List Msg → Type 0) (r s : ReceiverSeen) (b : Body) → Gets r s b → MayReceiveOn may r → MayReceive may s
may_then may r s b g all = subst (λ (x : ReceiverSeen). MayReceive may x) (sym g.2) (all (g.0 ∷ []))

-- after the load its end is to come
pub gets_load : (r s : ReceiverSeen) (out : Piece) → ReceivedThen r [] → Gets r s (Load out) → ReceivedThen s (Load out ∷ [])
gets_load r s out w g = record {
  made = ap (λ (x : ReceiverSeen). x.made) g.2 ∙ w.made;
  results = w.results;
  holds = ap (λ (x : ReceiverSeen). bodies x.got) g.2 ∙ bodies_more r.got g.0 ∙ ap (λ l. l ++ g.0.body ∷ []) (w.holds ∙ append-nil (messages_of w.results)) ∙ ap (λ (b : Body). messages_of w.results ++ b ∷ []) g.1;
}

pub half_results : (r : ReceiverSeen) (out : Piece) (w : ReceivedThen r (Load out ∷ [])) → results_got r ≡ w.results
half_results r out w = ap results_in w.holds ∙ results_half w.results out

whole_results : (r : ReceiverSeen) (w : ReceivedThen r []) → results_got r ≡ w.results
whole_results r w = ap results_in w.holds ∙ results_then w.results

gets_end : (r s : ReceiverSeen) (out : Piece) (x : Worked) (w : ReceivedThen r (Load out ∷ [])) → x.out ≡ out → Gets r s (End x.how) → bodies s.got ≡ messages_of (w.results ++ x ∷ []) ++ []
gets_end r s out x w is g =
    ap (λ (t : ReceiverSeen). bodies t.got) g.2 ∙ bodies_more r.got g.0
    ∙ ap (λ l. l ++ g.0.body ∷ []) w.holds
    ∙ ap (λ (b : Body). (messages_of w.results ++ Load out ∷ []) ++ b ∷ []) g.1
    ∙ append_assoc (messages_of w.results) (Load out ∷ []) (End x.how ∷ [])
    ∙ ap (λ (l : Piece). messages_of w.results ++ Load l ∷ End x.how ∷ []) (sym is)
    ∙ sym (messages_more w.results x)
    ∙ sym (append-nil (messages_of (w.results ++ x ∷ [])))

-- what is left once the end of the result whose load came was looked for
pub takes_end : (may : List Msg → List Msg → Type 0) (a r s : ReceiverSeen) (out : Piece) (half : Option Piece) (res : Option Worked) → ReceivedThen r (Load out ∷ []) → results_got r ≡ results_got a → IsSameInbox a r → GetsEnd may r s out half res → TakesNext may a s half res
takes_end may a r s out half (Some x) w before same g = record {
  inbox = subst (λ (h : Option Piece). IsInbox s h) (sym g.1) (record {
    made = ap (λ (t : ReceiverSeen). t.made) g.2.2 ∙ w.made;
    results = w.results ++ x ∷ [];
    holds = gets_end r s out x w g.0 g.2;
  });
  some = ap results_in (gets_end r s out x w g.0 g.2) ∙ results_then (w.results ++ x ∷ []) ∙ ap (λ l. l ++ x ∷ []) (sym (half_results r out w) ∙ before);
  none = tt;
  empty = tt;
  same = record {
    hub = ap (λ (t : ReceiverSeen). t.hub) g.2.2 ∙ same.hub;
    made = ap (λ (t : ReceiverSeen). t.made) g.2.2 ∙ same.made;
    closed = ap (λ (t : ReceiverSeen). t.closed) g.2.2 ∙ same.closed;
  };
}
takes_end may a r s out half None w before same g = record {
  inbox = subst (λ (h : Option Piece). IsInbox s h) (sym g.0) (subst (λ (t : ReceiverSeen). ReceivedThen t (Load out ∷ [])) (sym g.1) w);
  some = tt;
  none = ap results_got g.1 ∙ before;
  empty = subst (λ (t : ReceiverSeen). ReceiverSees may t []) (sym g.1) g.2;
  same = record {
    hub = ap (λ (t : ReceiverSeen). t.hub) g.1 ∙ same.hub;
    made = ap (λ (t : ReceiverSeen). t.made) g.1 ∙ same.made;
    closed = ap (λ (t : ReceiverSeen). t.closed) g.1 ∙ same.closed;
  };
}

pub takes_both : (may : List Msg → List Msg → Type 0) (a r s : ReceiverSeen) (out : Piece) (half : Option Piece) (res : Option Worked) → ReceivedThen a [] → Gets a r (Load out) → GetsEnd may r s out half res → TakesNext may a s half res
unfolding gets_load
takes_both may a r s out half res w got g =
    takes_end may a r s out half res (gets_load a r out w got) (half_results r out (gets_load a r out w got) ∙ sym (whole_results a w))
    (record { hub = ap (λ (t : ReceiverSeen). t.hub) got.2; made = ap (λ (t : ReceiverSeen). t.made) got.2; closed = ap (λ (t : ReceiverSeen). t.closed) got.2 })
    g

pub takes_none : (may : List Msg → List Msg → Type 0) (a s : ReceiverSeen) (half : Option Piece) (res : Option Worked) → res ≡ None → half ≡ None → ReceivedThen a [] → s ≡ a → ReceiverSees may a [] → TakesNext may a s half res
takes_none may a s half res none h w e sees = subst (λ (o : Option Worked). TakesNext may a s half o) (sym none) (subst (λ (o : Option Piece). TakesNext may a s o None) (sym h) (subst (λ (t : ReceiverSeen). TakesNext may a t None None) (sym e)
    (record { inbox = w; some = tt; none = refl; empty = sees; same = record { hub = refl; made = refl; closed = refl } })))

pub takes_half : (may : List Msg → List Msg → Type 0) (a s : ReceiverSeen) (out : Piece) (before half : Option Piece) (res : Option Worked) → before ≡ Some out → IsInbox a before → GetsEnd may a s out half res → TakesNext may a s half res
takes_half may a s out before half res is inbox g = takes_end may a a s out half res (subst (λ (h : Option Piece). IsInbox a h) is inbox) refl (record { hub = refl; made = refl; closed = refl }) g
