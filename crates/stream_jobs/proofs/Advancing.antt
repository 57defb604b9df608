-- A stream goes on, or leaves.
use Rattle.std.proofs.Common.{◌≡◌, ℕ, ◌<◌, Bool, true, false, List, [], ◌∷◌, ◌++◌, length, Option, Some, None, IfSome, refl, sym, ◌∙◌, ap, subst, ⊎_elim, append-nil}
use Rattle.std.proofs.lemmas.List.{map-append}
use Rattle.chunk_core.specs.Elements.{elements}
use Rattle.chunk_core.specs.Outcomes.{exit_of}
use Rattle.chunk_core.specs.Tables.{Values}
use Rattle.chunk_core.specs.declared.code.How.{How}
use Rattle.chunk_core.specs.declared.code.How.TheVariants as how
use Rattle.chunk_core.specs.declared.load.Load.{Load}
use Rattle.channel_bounded.specs.declared.message.Msg.{Msg}
use Rattle.device_port.specs.Device.{DeviceTold}
use Rattle.interrupt_ctx.specs.declared.why.Stop.{Stop}
use Rattle.pull_turns.specs.Around.{IsClosedWith}
use Rattle.pull_turns.specs.Piping.{StateMeaning}
use Rattle.pull_turns.specs.declared.turn.Turn.{Turn}
use Rattle.pull_turns.specs.declared.turn.Turn.TheVariants as turn
use Rattle.row_seat.specs.declared.view.View.{View}
use Rattle.scope_tree.specs.declared.branch.Spent.{Spent}
use Rattle.tree_laws.specs.Visits.{IsNewGuest}
use Rattle.pull_stepper.specs.Held.{FinishesDevice}
use Rattle.pull_stepper.specs.Sites.{Since, Site, around}
use Rattle.pull_stepper.specs.Stepping.{Halts, IsOver, Stepping, TakesTurn, stopped_by}
use Rattle.stream_jobs.specs.Leaving.{IsVisiting, Leaves}
use Rattle.stream_jobs.specs.Messages.{AreTextsOf, IsNews, end_message, held, load_message, load_messages}
use Rattle.stream_jobs.specs.Running.{IsEndedJob, HasRun, IsBegun, Origin}
use Rattle.stream_jobs.specs.Steps.{ObeysFound}
use Rattle.stream_jobs.proofs.Runs.{none_is_not_some, same_end}
use Rattle.stream_jobs.proofs.Texts.{texts_more}

-- a stop closes the root as canceled
stopped_exit : (m : Bool) → exit_of (stopped_by m) ≡ exit_of how.Halted
stopped_exit true = refl
stopped_exit false = refl

module _ {V F : Type 0} (told : V → DeviceTold) (P : Values → StateMeaning F) where
  halted_over : (a b : Stepping V F) → Halts told a b → IsOver told b
  halted_over a b h = record {
    how = stopped_by a.wanting;
    ended = h.how;
    shut = h.shut;
    exit = subst (λ x. IsClosedWith (around told b.site) 0 x) (sym (stopped_exit a.wanting)) h.exit;
  }

  turn_over : (a b : Stepping V F) (t : Turn) → TakesTurn P told a b t → (h : How) → b.how ≡ Some h → IsOver told b
  turn_over a b (turn.Chunk l) k h e = absurd (none_is_not_some b.how h k.how e)
  turn_over a b turn.Quiet k h e = absurd (none_is_not_some b.how h k.how e)
  turn_over a b turn.Done k h e = record { how = how.Done; ended = k.how; shut = k.turns.shut (λ n. n); exit = k.turns.closed }
  turn_over a b (turn.Fault c) k h e = record { how = how.Fault c; ended = k.how; shut = k.turns.shut (λ n. n); exit = k.turns.closed }

  -- where the stepper has ended each scope and each device is closed
  pub obeyed_over : (a b : Stepping V F) (found : Option Stop) (load : Option Load) → ObeysFound P told found a b load → (h : How) → b.how ≡ Some h → IsOver told b
  obeyed_over a b (Some stop) load o h e = halted_over a b o.0
  obeyed_over a b None load o h e = ⊎_elim (λ k. turn_over a b k.0 k.1 h e) (λ k. halted_over k.0 b k.2) o

  -- its tree is that of a stream that has a lease on the rows T
  pub visiting_at : (j : ℕ) (T : List ℕ) (w : Origin V F) (y : Site V) → j ≡ w.stream → T ≡ w.leased → IsBegun told w → Since told (FinishesDevice told) w.start.site y → IsVisiting told j T w.start.site y
  visiting_at j T w y stream leased b since = record {
    guest = subst (λ k. IsNewGuest w.start.site.tree.seat k w.start.site.tree.seat.floor T) (sym stream) (subst (λ R. IsNewGuest w.start.site.tree.seat w.stream w.start.site.tree.seat.floor R) (sym leased) b.guest);
    since = since;
  }

  -- the texts of the loads so far, and that of the one that came, were said
  pub said_on : (j k : ℕ) (loads texts : List Load) (load : Option Load) (said message : List Msg) → j ≡ k → AreTextsOf loads texts → said ≡ load_messages k texts → IsNews j None load message → IfSome load (λ l. 0 < length (elements l)) → (more : List Load) × AreTextsOf (loads ++ held load) more × (said ++ message ≡ load_messages k more)
  said_on j k loads texts None said message same are is n full = (texts, subst (λ xs. AreTextsOf xs texts) (sym (append-nil loads)) are, ap (λ m. said ++ m) n ∙ (append-nil said ∙ is))
  said_on j k loads texts (Some load) said message same are is n full = (
    texts ++ n.0 ∷ [],
    texts_more loads texts load n.0 are n.1 full,
    ap (λ m. said ++ m) n.2 ∙ (ap (λ i. said ++ load_message i n.0 ∷ []) same ∙ (ap (λ s. s ++ load_message k n.0 ∷ []) is ∙ sym (map-append (load_message k) texts (n.0 ∷ [])))),
  )

  -- the end was said behind the texts of the loads, and the stream has left
  pub left_so : (w : Origin V F) (a b : Stepping V F) (loads texts : List Load) (said : List Msg) (j : ℕ) (T : List ℕ) (h g : How) (seat : View V) (shelf : List (Spent V)) (unopened : List V) (message : Msg)
      → IsBegun told w → AreTextsOf loads texts → said ≡ load_messages w.stream texts → j ≡ w.stream → T ≡ w.leased → HasRun told P w b h loads → b.how ≡ Some h → Leaves told j T w.start.site b seat shelf unopened g → message ≡ end_message w.stream h
      → IsEndedJob told P w seat shelf unopened g (said ++ message ∷ [])
  left_so w a b loads texts said j T h g seat shelf unopened message begun are is stream leased run how_is l m =
      let same : h ≡ g = same_end b.how h g how_is l.ended.how in
      record {
        begun = begun;
        loads = loads;
        texts = texts;
        texts_are = are;
        said_is = ap (λ s. s ++ message ∷ []) is ∙ ap (λ x. load_messages w.stream texts ++ x ∷ []) (m ∙ ap (λ x. end_message w.stream x) same);
        last_step = b;
        run = subst (λ x. HasRun told P w b x loads) same run;
        leaves = subst (λ R. Leaves told w.stream R w.start.site b seat shelf unopened g) leased (subst (λ i. Leaves told i T w.start.site b seat shelf unopened g) stream l);
      }
