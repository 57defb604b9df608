-- A collector with no lease that waits and no job that is open has come to its end.
use Rattle.std.proofs.Common.{◌≡◌, ◌≢◌, ◌⊎◌, ℕ, nat_eq, List, [], ◌∷◌, inl, inr, map, length, Option, Some, None, option_map, refl, sym, ◌∙◌, ap, subst, ⊎_elim, arith}
use Rattle.std.proofs.lemmas.Bool.{cases_eq}
use Rattle.std.specs.List.{IsDistinct}
use Rattle.chunk_core.specs.Lists.{IsAmong}
use Rattle.chunk_core.specs.Lists.IsAmong.{here, there}
use Rattle.chunk_core.specs.Outcomes.{exit_of}
use Rattle.chunk_core.specs.Tables.{Values}
use Rattle.chunk_core.specs.declared.code.Exit.{Exit}
use Rattle.chunk_core.specs.declared.code.How.{How}
use Rattle.chunk_core.proofs.Members.{among_cons, among_nil}
use Rattle.collector.specs.declared.collector.Collector.{Collector}
use Rattle.collector.specs.Collecting.{IsCollecting, between}
use Rattle.collector.specs.Members.{members}
use Rattle.collector.specs.Streams.{AreJobs}
use Rattle.collector.specs.Trees.{waiting_of}
use Rattle.device_port.specs.Device.{DeviceTold}
use Rattle.device_port.specs.Depot.{DepotTold}
use Rattle.device_port.specs.Sink.{SinkTold}
use Rattle.join_report.proofs.Learning.{settles}
use Rattle.join_tale.specs.Tales as tales
use Rattle.join_tale.specs.Tales.{Body, HasCome, Message, Tale, end_of}
use Rattle.join_tale.specs.Tales.Body.{End, Load}
use Rattle.join_tree.specs.Mains.{IsRoot}
use Rattle.pipeline_desc.specs.Meant.{PlanMeant}
use Rattle.pull_turns.specs.Piping.{StateMeaning}
use Rattle.res_ledger.specs.Order.{firsts}
use Rattle.row_seat.specs.declared.view.View.{View}
use Rattle.scope_tree.specs.Calls.{IsClosedScope, Seen}
use Rattle.scope_tree.specs.Released.{said}
use Rattle.scope_tree.specs.Trees.{Fits, seen}
use Rattle.scope_tree.specs.declared.tree.Tree.{Tree}
use Rattle.scope_tree.proofs.Owed.{nothing_owed}
use Rattle.stream_jobs.specs.Running.{Origin}
use Rattle.collected.specs.Collected.{IsCollected}
use Rattle.dealt_streams.specs.Standing.{StandsOuter}

-- Whether an end came.

-- whether the message is an end of stream k
is_end : (k : ℕ) (m : Message) → ((h : How) × (m ≡ end_of k h)) ⊎ ((h : How) → m ≢ end_of k h)
is_end k m = by_body m.stream m.body
  where
    load_end : (s : ℕ) (x : List ℕ) (h : How) → (let y : Message = record { stream = s; body = Load x } in y) ≢ end_of k h
    load_end s x h e = let f : Load x ≡ End h = ap (λ (y : Message). y.body) e in cc

    by_body : (s : ℕ) (y : Body) → ((h : How) × ((let z : Message = record { stream = s; body = y } in z) ≡ end_of k h)) ⊎ ((h : How) → (let z : Message = record { stream = s; body = y } in z) ≢ end_of k h)
    by_body s (Load x) = inr (λ h. load_end s x h)
    by_body s (End h) = ⊎_elim (λ e. inl (h, ap (λ q. end_of q h) e)) (λ n. inr (λ g e. n (ap (λ (x : Message). x.stream) e))) (cases_eq s k)

ends_in : (k : ℕ) (ms : List Message) → ((h : How) × IsAmong (end_of k h) ms) ⊎ ((h : How) → ¬ (IsAmong (end_of k h) ms))
ends_in k [] = inr (λ h m. among_nil m)
ends_in k (m ∷ ms) =
    ⊎_elim
    (λ e. inl (e.0, subst (λ x. IsAmong x (m ∷ ms)) e.1 (here ms)))
    (λ n. ⊎_elim (λ i. inl (i.0, there m i.1)) (λ i. inr (λ h j. ⊎_elim (λ s. n h (sym s)) (λ q. i h q) (among_cons j))) (ends_in k ms))
    (is_end k m)

-- the end of a stream came or it didn't
pub come_or : (t : Tale) (k : ℕ) → HasCome t k ⊎ ¬ (HasCome t k)
come_or t k =
    ⊎_elim
    (λ e. inl (e.0, inl e.1))
    (λ n. ⊎_elim (λ e. inl (e.0, inr e.1)) (λ m. inr (λ c. ⊎_elim (λ i. n c.0 i) (λ i. m c.0 i) c.1)) (ends_in k t.late))
    (ends_in k t.front)

-- The main tree.

empty_so : {A : Type 0} (xs : List A) → 0 ≡ length xs → xs ≡ []
empty_so [] e = refl
empty_so (x ∷ xs) e = absurd (omega (arith, e))

-- once its root is closed no row of it is open, and each that ended stands on the shelf once
closed_rests : {S P D : Type 0} (view : S → View P) (fits : S → D → Type 0) (t : Tree S P D) (d : D) → Fits view fits t d → IsClosedScope (seen view t) 0 → ((seen view t).seat.opened ≡ []) × IsDistinct nat_eq (firsts (said (seen view t).shelf))
closed_rests view fits t d f root = (empty_so (view t.seat).opened (let z = nothing_owed (view t.seat) t.branches.items t.acquisitions.items f.sound.kept root in omega (arith, z)), f.sound.shelved.distinct)

root_closed : {P : Type 0} (b : Seen P) (o : Option Exit) (x : Exit) → o ≡ Some x → IsRoot b o → IsClosedScope b 0
root_closed b None x e r = absurd (let f : None ≡ Some x = e in cc)
root_closed b (Some y) x e r = r

module _ {S V F D T : Type 0} (view : S → View V) (told : V → DeviceTold) (fits : S → D → Type 0) (values : T → Values) (P : Values → StateMeaning F) (p : PlanMeant) (d0 : DepotTold) (s0 : SinkTold) (depot : DepotTold) (sink : SinkTold) (d : D) (c : Collector S V F D T)
    (i : IsCollecting (members view told fits values P) p d0 s0 (between 1 depot sink d c)) (none_waits : c.waiting.items ≡ []) (none_open : c.jobs.items ≡ []) where
  -- the collector has come to its end: how its outer stream ended, and what stands
  pub record IsAtEnd : Type 0 where
    pub outer : How
    pub outer_is : c.outer ≡ Some outer
    pub collected : IsCollected view told P p d0 depot outer (seen view c.tree) c.left.items c.receiver i.tale
    pub moves_are : collected.moves ≡ i.moves

  outer_some : (o : Option How) → c.outer ≡ o → (h : How) × (c.outer ≡ Some h)
  outer_some (Some h) e = (h, e)
  outer_some None e = absurd (let l = i.tree.some e (omega arith) in let z = ap (λ (xs : List _). length xs) none_waits in omega (arith, l, z))

  pub no_origins : (ws : List (Origin V F)) → AreJobs (members view told fits values P) c.hub c.stops.board d i.parts c.jobs.items ws → ws ≡ []
  no_origins ws j = by_list c.jobs.items ws none_open j
    where
      by_list : (js : List _) (ws : List (Origin V F)) → js ≡ [] → AreJobs (members view told fits values P) c.hub c.stops.board d i.parts js ws → ws ≡ []
      by_list [] [] e j = refl
      by_list [] (w ∷ ws) e j = absurd j
      by_list (x ∷ js) ws e j = cc

  -- each stream that was begun has come back
  come : (k : ℕ) → tales.IsBegun i.tale k → HasCome i.tale k
  come k e =
      ⊎_elim
      (λ y. y)
      (λ n.
      let m = (i.streams.opens k).1 (e, n) in
      absurd (among_nil (subst (λ ws. IsAmong k (map (λ w. w.stream) ws)) (no_origins i.streams.origins i.streams.jobs_are) m)))
      (come_or i.tale k)

  pub at_end : IsAtEnd
  at_end =
      let o = outer_some c.outer refl in
      let outer = o.0 in
      let root : i.progress.root ≡ Some (exit_of outer) = i.tree.root_is ∙ ap (option_map exit_of) o.1 in
      let rests = closed_rests view fits c.tree d i.fits_desk (root_closed (seen view c.tree) i.progress.root (exit_of outer) root i.tree.main.root) in
      record {
        outer = outer;
        outer_is = o.1;
        collected = record {
          moves = i.moves;
          parts = i.parts;
          parts_are = i.parts_are;
          progress = i.progress;
          main = i.tree.main;
          next = i.tree.next_is;
          waits = i.tree.waits_are ∙ ap (map waiting_of) none_waits;
          root = root;
          shut = rests.0;
          once = rests.1;
          moved = i.moved;
          begun = i.begun;
          dicts = c.outer_stream.outer.tables;
          stands = subst (λ l. StandsOuter p told i.moves i.begun l c.outer_stream.outer.tables (Some outer) i.tale.memory (seen view c.tree)) (sym i.tree.leased_is)
              (subst (λ q. StandsOuter p told i.moves i.begun c.outer_stream.outer.leased c.outer_stream.outer.tables q i.tale.memory (seen view c.tree)) o.1 i.stands);
          streams = record {
            begun = i.streams.begun;
            come = come;
            gone = i.streams.gone;
            kept = i.streams.kept;
            apart = i.streams.apart;
            numbers = i.streams.numbers;
            home = i.streams.home;
            given = i.streams.given;
            got = i.streams.got;
          };
          is_tale = i.telling.is_tale;
          fates_are = i.telling.fates_are;
          outer_is = i.telling.outer_is ∙ o.1;
          turns = i.turns;
          places = i.places;
          settled = settles i.tale c.stops i.telling.known i.telling.seated (i.telling.seats ∙ ap (λ (js : List _). length js) none_open);
        };
        moves_are = refl;
      }
