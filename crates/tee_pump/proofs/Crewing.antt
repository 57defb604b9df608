-- One branch more, of the ends that are split off for it.
use Rattle.std.proofs.Common.{◌≡◌, ◌⊎◌, ℕ, ◌-◌, ◌^◌, ◌<◌, ◌≤◌, false, List, [], ◌∷◌, ◌++◌, length, vec_capacity, Option, inl, inr, refl, sym, ap, ◌∙◌, subst, arith}
use Rattle.std.proofs.lemmas.Bool.{false≢true}
use Rattle.std.specs.Global.{Global}
use Rattle.std.specs.declared.vec.Vec.{Vec}
use Rattle.chunk_core.proofs.Members.{among_nil}
use Rattle.chunk_core.proofs.Totals.{one_at}
use Rattle.chunk_core.specs.Elements.{Element, LoadKind}
use Rattle.chunk_core.specs.Feed.{Meaning}
use Rattle.chunk_core.specs.Lists.{IsAmong}
use Rattle.chunk_core.specs.Totals.{IsAt}
use Rattle.chunk_core.specs.declared.code.Code.{Code}
use Rattle.chunk_core.specs.declared.code.How.{How}
use Rattle.channel_bounded.specs.Ends.{ReceiverSeen}
use Rattle.device_port.specs.Sink.{SinkTold}
use Rattle.interrupt_ctx.specs.Ends.{SeatSeen}
use Rattle.interrupt_ctx.specs.Views.{interruption}
use Rattle.channel_bounded.specs.declared.message.Msg.{Msg}
use Rattle.topic_hub.specs.Places.{bodies}
use Rattle.topic_hub.specs.Topics.{NothingPending, PublisherSeen}
use Rattle.tee_branches.specs.declared.branch.Branch.{Branch}
use Rattle.tee_prints.specs.Printed.{IsToldEnd, MustStop, Prints}
use Rattle.tee_prints.specs.declared.printer.Printer.{Printer}
use Rattle.tee_texts.specs.Texts.{end_message}
use Rattle.tee_pump.specs.declared.crew.Crew.{Crew}
use Rattle.tee_pump.specs.declared.pump.Pump.{Pump}
use Rattle.tee_pump.specs.Branches.{AreBranches, AreHired, IsBranch, SharedSeen}
use Rattle.tee_pump.specs.Making.{ArePipes, HasSplit, IsCrew, IsPipeOf}
use Rattle.tee_pump.specs.Printing.{IsPrinting, numbers}
use Rattle.tee_pump.specs.Publishing.{IsPublishing}
use Rattle.tee_pump.specs.Pumps.{IsPumping}
use Rattle.tee_pump.proofs.Published.{none_some}
use Rattle.tee_pump.proofs.Fronts.{cons_nil}
use Rattle.tee_pump.proofs.Places.{at_below, at_snoc, at_some}
use Rattle.tee_pump.proofs.Printing.{numbers_below}

-- who received nothing got nothing
pub nothing_got : (got : List Msg) → bodies got ≡ [] → got ≡ []
nothing_got [] e = refl
nothing_got (x ∷ xs) e = absurd (cons_nil x.body (bodies xs) e)

-- the next number is fresh
pub fresh_number : (i k : ℕ) → k ≡ i → IsAmong k (numbers i) → ⊥
fresh_number i k e m = let l = numbers_below i k m in omega (arith, e, l)

-- the first of the branches
abbrev pub AreBranchesFirst : {F : Type 0} → (F → Meaning → List Element → Type 0) → (F → LoadKind → List Element → Option Code → Type 0) → SharedSeen → List F → List (Branch F) → Type 0
AreBranchesFirst {F} StandsFor Comes s pipes bs = (i : ℕ) (m : Meaning) (f : F) (b : Branch F) → IsAt pipes i f → IsAt bs i b → IsPipeOf StandsFor m f → IsBranch StandsFor Comes s i m b

pub branches_more : {F : Type 0} (StandsFor : F → Meaning → List Element → Type 0) (Comes : F → LoadKind → List Element → Option Code → Type 0) (s : SharedSeen) (pipes : List F) (bs : List (Branch F)) (n : ℕ) (f : F) (b : Branch F)
    → length bs ≡ n → AreBranchesFirst StandsFor Comes s pipes bs → IsAt pipes n f → ((m : Meaning) → IsPipeOf StandsFor m f → IsBranch StandsFor Comes s n m b) → AreBranchesFirst StandsFor Comes s pipes (bs ++ b ∷ [])
branches_more {F} StandsFor Comes s pipes bs n f b c h here is i m g x p q of = more (at_snoc bs b x i q)
  where
    same_pipe : (g : F) → IsAt pipes n g → g ≡ f
    same_pipe g p = let t = one_at pipes n g f p here in t

    more : IsAt bs i x ⊎ ((i ≡ length bs) × (x ≡ b)) → IsBranch StandsFor Comes s i m x
    more (inl o) = h i m g x p o of
    more (inr t) =
        let e = t.0 ∙ c in
        let same = same_pipe g (subst (λ k. IsAt pipes k g) e p) in
        subst (λ y. IsBranch StandsFor Comes s i m y) (sym t.1) (subst (λ k. IsBranch StandsFor Comes s k m b) (sym e) (is m (subst (λ y. IsPipeOf StandsFor m y) same of)))

pub branches_all : {F : Type 0} (StandsFor : F → Meaning → List Element → Type 0) (Comes : F → LoadKind → List Element → Option Code → Type 0) (s : SharedSeen) (pipes : List F) (bs : List (Branch F)) (ms : List Meaning)
    → length bs ≡ length pipes → AreBranchesFirst StandsFor Comes s pipes bs → ArePipes StandsFor ms pipes → AreBranches StandsFor Comes s ms bs
branches_all {F} StandsFor Comes s pipes bs ms c h a = record {
  count = c ∙ a.count;
  each = λ i m b p q. let l = at_below bs i b q in let f = at_some pipes i (omega (arith, l, c)) in h i m f.0 b f.1 q (a.each i m f.0 p f.1);
}

-- a pump of a crew that has begun
pub pump_begins : {F : Type 0} (StandsFor : F → Meaning → List Element → Type 0) (Comes : F → LoadKind → List Element → Option Code → Type 0) (s : SharedSeen) (ms : List Meaning) (start : SinkTold) (c : Crew F) (p : Pump F)
    → start.faults < 2 ^ 64 - 1 → IsCrew StandsFor Comes s ms c → p.publisher ≡ c.publisher → p.printer ≡ c.printer → p.seat ≡ c.seat → p.ends ≡ c.ends → AreHired StandsFor Comes s ms p.hired.items → IsPumping StandsFor Comes s ms start [] start p
pump_begins {F} StandsFor Comes s ms start c p room h a b d e hired = record {
  some = h.some;
  topic = h.split.topic;
  serving = record {
    hired = hired;
    printing = subst (IsPrinting s.hub (length ms) start start) (sym b) printing;
    context = h.split.context;
    seat = record {
      board_is = ap (λ (x : SeatSeen). x.board) d ∙ h.split.seat_is.board_is;
      first = ap (λ (x : SeatSeen). x.view.first) d ∙ h.split.seat_is.first;
      out = ap (λ (x : SeatSeen). x.view.out) d ∙ h.split.seat_is.out;
      caused = λ stop m. absurd (h.split.seat_is.caused stop (subst (λ (x : SeatSeen). IsAmong (interruption 0 stop) x.view.set) d m));
    };
    obeyed = λ m. absurd (none_stops (subst (λ (x : Printer). MustStop x.ends.items x.broken) b m));
    none_told = ap (λ (x : Vec How Global). x.items) e ∙ h.none_told;
    room = subst (λ (x : Vec How Global). length ms ≤ vec_capacity x) (sym e) h.room.1;
  };
  loads = [];
  kinds = tt;
  given_is = refl;
  sent = [];
  front = ([], refl);
  published = subst (IsPublishing s.topic (length ms) []) (sym a) h.split.published;
  pending = λ i b e. absurd (none_some b (sym (subst NothingPending (sym a) h.split.none_pending i) ∙ e));
  goes_on = ap (λ (x : PublisherSeen). x.ended) a ∙ h.split.goes_on;
  whole = λ n. (refl, subst NothingPending (sym a) h.split.none_pending);
}
  where
    prints : Prints (length ms) start start [] c.printer.ends.items false
    prints = h.prints start

    printing : IsPrinting s.hub (length ms) start start c.printer
    printing = record {
      hub_is = ap (λ (r : ReceiverSeen). r.hub) h.split.receiver;
      made = ap (λ (r : ReceiverSeen). r.made) h.split.receiver;
      closed = ap (λ (r : ReceiverSeen). r.closed) h.split.receiver;
      prints = subst (λ g. Prints (length ms) start start g c.printer.ends.items c.printer.broken) (sym (ap (λ (r : ReceiverSeen). r.got) h.split.receiver)) (subst (λ x. Prints (length ms) start start [] c.printer.ends.items x) (sym h.unbroken) prints);
      room = room;
    }

    none_told : (i : ℕ) (x : How) → IsToldEnd [] prints.printed i x → ⊥
    none_told i x (inl m) = among_nil (subst (λ l. IsAmong (end_message i x) l) (sym prints.writes.0) m)
    none_told i x (inr t) = among_nil t.1

    none_stops : MustStop c.printer.ends.items c.printer.broken → ⊥
    none_stops (inl x) = false≢true (sym h.unbroken ∙ x)
    none_stops (inr t) = none_told t.0 t.1 (prints.told t.0 t.1 t.2)

-- all that takes memory is there
pub crew_of : {F : Type 0} (StandsFor : F → Meaning → List Element → Type 0) (Comes : F → LoadKind → List Element → Option Code → Type 0) (s : SharedSeen) (ms : List Meaning) (pipes : List F) (c : Crew F) (k : ℕ)
    → ArePipes StandsFor ms pipes → 0 < length pipes → HasSplit s (length pipes) (length pipes) c.publisher c.printer.receiver c.seat → AreBranches StandsFor Comes s ms c.branches.items → ((sink : SinkTold) → Prints k sink sink [] c.printer.ends.items false)
    → k ≡ length pipes → c.printer.broken ≡ false → c.hired.items ≡ [] → c.ends.items ≡ [] → length pipes ≤ vec_capacity c.hired → length pipes ≤ vec_capacity c.ends → IsCrew StandsFor Comes s ms c
crew_of StandsFor Comes s ms pipes c k a some split branches prints e unbroken hired ends room more =
    let n = a.count in
    record {
      some = omega (arith, n, some);
      split = subst (λ l. HasSplit s l l c.publisher c.printer.receiver c.seat) n split;
      branches = branches;
      prints = λ sink. subst (λ l. Prints l sink sink [] c.printer.ends.items false) (e ∙ n) (prints sink);
      unbroken = unbroken;
      none_hired = hired;
      none_told = ends;
      room = (omega (arith, n, room), omega (arith, n, more));
    }
