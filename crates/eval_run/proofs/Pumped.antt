-- Groups that are dealt one after another.
use Rattle.std.proofs.Common.{◌≡◌, ℕ, ◌+◌, ◌<◌, ◌≤◌, List, [], ◌∷◌, ◌++◌, map, length, Option, Some, None, IfSome, Ok, Err, sym, ap, ◌∙◌, subst, append-nil, append_assoc, arith, length-append}
use Rattle.std.proofs.lemmas.List.{map-append}
use Rattle.chunk_core.specs.Elements.{Element, elements}
use Rattle.chunk_core.specs.Tables.{Values}
use Rattle.chunk_core.specs.declared.load.Load.{Load}
use Rattle.device_port.specs.Device.{DeviceTold}
use Rattle.device_port.specs.Sink.{SinkTold}
use Rattle.eval_hands.specs.Crews.{IsCrew}
use Rattle.eval_hands.specs.declared.crew.Crew.{Crew}
use Rattle.eval_reader.specs.Reading.{HasStopped, IsGrouping, IsWhole, SeenReader, text_of}
use Rattle.eval_rules.specs.Answers.{groups_of}
use Rattle.par_eval.specs.Lanes.{LaneHubs}
use Rattle.par_eval.specs.Messages.{AreResults, Meaning}
use Rattle.par_eval.specs.declared.work.Worked.{Worked}
use Rattle.pull_nodes.specs.Plain.{IsFront}
use Rattle.pull_stepper.specs.Stepping.{Stepping}
use Rattle.pull_turns.specs.Piping.{StateMeaning}
use Rattle.eval_run.specs.Printing.{Printed, PrintsResult}
use Rattle.eval_run.specs.Pumping.{AreTexts, DealsAll, HasPumped, HasRead, IsPumping, read_by}
use Rattle.eval_run.specs.declared.stop.Stop.{Stop}
use Rattle.eval_run.specs.declared.stop.Stop.TheVariants as stop
use Rattle.eval_run.proofs.Printed.{printed_more, printed_next, printed_none, printed_wanting}

one_longer : {A : Type 0} (xs : List A) (x : A) → length (xs ++ x ∷ []) ≡ length xs + 1
one_longer xs x = length-append xs (x ∷ [])

module _ {W : Type 0} (result_of : W → Meaning) (work : W) (hubs : List LaneHubs) (first : SinkTold) (ds : List Load) (ws : List Worked) where
  -- a result more was taken, and isn't printed
  pub taken_more : (c d : Crew W) (now : SinkTold) (w : Worked) (s : Stop) → IsPumping result_of work hubs c first now ds ws (Some s) → IsCrew result_of work hubs d ds (ws ++ w ∷ []) → IsPumping result_of work hubs d first now ds (ws ++ w ∷ []) (Some s)
  taken_more c d now w s p crew = record { crew = crew; printed = printed_more first now ws w s p.printed }

  -- a result more was taken and printed
  pub taken_done : (c d : Crew W) (mid now : SinkTold) (w : Worked) (u : Unit {0}) → IsPumping result_of work hubs c first mid ds ws None → IsCrew result_of work hubs d ds (ws ++ w ∷ []) → PrintsResult {T = Unit {0}} mid now w (Ok u) → IsPumping result_of work hubs d first now ds (ws ++ w ∷ []) None
  taken_done c d mid now w u p crew h = record { crew = crew; printed = printed_next first mid now ws w (Ok u) p.printed h }

  -- it was taken, and nothing may be printed behind it
  pub taken_last : (c d : Crew W) (mid now : SinkTold) (w : Worked) (s : Stop) → IsPumping result_of work hubs c first mid ds ws None → IsCrew result_of work hubs d ds (ws ++ w ∷ []) → PrintsResult {T = Unit {0}} mid now w (Err s) → IsPumping result_of work hubs d first now ds (ws ++ w ∷ []) (Some s)
  taken_last c d mid now w s p crew h = record { crew = crew; printed = printed_next first mid now ws w (Err s) p.printed h }

  -- way was made for a load by the next result
  pub way_made : (c d : Crew W) (mid now : SinkTold) (jobs : ℕ) (s : Option Stop) → length ds ≤ length ws + jobs → ((w : Worked) × IsPumping result_of work hubs d first now ds (ws ++ w ∷ []) s)
      → (more : List Worked) × IsPumping result_of work hubs d first now ds more s × (length ds < length more + jobs)
  way_made c d mid now jobs s most p = let e = one_longer ws p.0 in (ws ++ p.0 ∷ [], p.1, omega (arith, e, most))

  -- nothing was dealt
  pub nothing_dealt : (c : Crew W) → IsCrew result_of work hubs c [] [] → IsPumping result_of work hubs c first first [] [] None
  nothing_dealt c crew = record { crew = crew; printed = printed_none first }

module _ {V F : Type 0} (P : Values → StateMeaning F) (told : V → DeviceTold) (n : ℕ) (a b : Stepping V F) where
  less : (gs : List (List Element)) (g : List Element) (all : List (List Element)) → IsFront (gs ++ g ∷ []) all → IsFront gs all
  less gs g all f = (g ∷ f.0, f.1 ∙ append_assoc gs (g ∷ []) f.0)

  -- what was read is known of the stepper alone
  pub stopped_read : (r : SeenReader V F) → r.stepper ≡ b → (gs : List (List Element)) (s : Stop) → HasStopped P told n a r gs → HasRead P told n a b gs (Some s)
  stopped_read r is gs s h = subst (λ x. HasStopped P told n a (read_by x) gs) is (record { given = h.given; how = h.how; ended = h.ended; reading = h.reading; fronts = h.fronts })

  pub whole_read : (r : SeenReader V F) → r.stepper ≡ b → (gs : List (List Element)) → IsWhole P told n a r gs → HasRead P told n a b gs None
  whole_read r is gs h = subst (λ x. IsWhole P told n a (read_by x) gs) is (record { given = h.given; how = h.how; ended = h.ended; itself = h.itself; reading = h.reading; whole = h.whole })

  -- where it stopped behind a group, it stopped behind those before it
  pub stopped_before : (r : SeenReader V F) → r.stepper ≡ b → (gs : List (List Element)) (g : List Element) (s : Stop) → HasStopped P told n a r (gs ++ g ∷ []) → HasRead P told n a b gs (Some s)
  stopped_before r is gs g s h = stopped_read r is gs s (record {
    given = h.given;
    how = h.how;
    ended = h.ended;
    reading = h.reading;
    fronts = λ more over. less gs g (groups_of n (h.given ++ more)) (h.fronts more over);
  })

  -- all groups are the first ones
  whole_stopped : (gs : List (List Element)) → IsWhole P told n a (read_by b) gs → HasStopped P told n a (read_by b) gs
  whole_stopped gs h = record {
    given = h.given;
    how = h.how;
    ended = h.ended;
    reading = h.reading;
    fronts = λ more over. ([], ap (λ ms. groups_of n (h.given ++ ms)) (over h.itself) ∙ (ap (λ xs. groups_of n xs) (append-nil h.given) ∙ (h.whole ∙ sym (append-nil gs))));
  }

  read_so : (gs : List (List Element)) (s z : Option Stop) → IfSome s (λ x. z ≡ Some x) → HasRead P told n a b gs s → HasRead P told n a b gs z
  read_so gs (Some x) z kept h = subst (λ y. HasRead P told n a b gs y) (sym kept) h
  read_so gs None None kept h = h
  read_so gs None (Some y) kept h = whole_stopped gs h

  -- the results that were out were taken, and the crew was joined
  pub pumped_all : {W : Type 0} (result_of : W → Meaning) (work : W) (hubs : List LaneHubs) (c d : Crew W) (first mid now : SinkTold) (s z : Option Stop) → (deals : DealsAll P told result_of work hubs n a b c first mid s) → IfSome s (λ x. z ≡ Some x)
      → (rest : (more : List Worked) × IsPumping result_of work hubs d first now deals.ds more z × (length more ≡ length deals.ds)) → AreResults (result_of work) deals.ds rest.0 → HasPumped P told (result_of work) n a b first now z
  pumped_all result_of work hubs c d first mid now s z deals kept rest results = record {
    ds = deals.ds;
    gs = deals.gs;
    ws = rest.0;
    texts = deals.texts;
    printed = rest.1.printed;
    read = read_so deals.gs s z kept deals.read;
    results = results;
    count = rest.2;
  }

-- the texts with one more
pub texts_more : (ds : List Load) (gs : List (List Element)) (load : Load) (g : List Element) → AreTexts ds gs → elements load ≡ text_of g → AreTexts (ds ++ load ∷ []) (gs ++ g ∷ [])
texts_more ds gs load g are is = map-append elements ds (load ∷ []) ∙ (ap (λ xs. xs ++ elements load ∷ []) are ∙ (ap (λ x. map text_of gs ++ x ∷ []) is ∙ sym (map-append text_of gs (g ∷ []))))

module _ {W V F : Type 0} (P : Values → StateMeaning F) (told : V → DeviceTold) (result_of : W → Meaning) (work : W) (hubs : List LaneHubs) (n : ℕ) (a : Stepping V F) (first now : SinkTold) (ds : List Load) (gs : List (List Element)) (are : AreTexts ds gs) where
  -- way was made for a load
  abbrev pub HasWay : Crew W → ℕ → Option Stop → Type 0
  HasWay c jobs s = (more : List Worked) × IsPumping result_of work hubs c first now ds more s × (length ds < length more + jobs)

  -- no group is left
  pub dealt_whole : (b : Stepping V F) (c : Crew W) (r : SeenReader V F) → r.stepper ≡ b → (ws : List Worked) → IsPumping result_of work hubs c first now ds ws None → IsWhole P told n a r gs → DealsAll P told result_of work hubs n a b c first now None
  dealt_whole b c r is ws p h = record { ds = ds; gs = gs; ws = ws; texts = are; pumping = p; read = whole_read P told n a b r is gs h }

  -- memory was wanting for the next group
  pub dealt_wanting : (b : Stepping V F) (c : Crew W) (r : SeenReader V F) → r.stepper ≡ b → (ws : List Worked) → IsPumping result_of work hubs c first now ds ws None → HasStopped P told n a r gs → DealsAll P told result_of work hubs n a b c first now (Some stop.Memory)
  dealt_wanting b c r is ws p h = record {
    ds = ds;
    gs = gs;
    ws = ws;
    texts = are;
    pumping = record { crew = p.crew; printed = printed_wanting first now ws p.printed };
    read = stopped_read P told n a b r is gs stop.Memory h;
  }

  -- something stopped the printing before the next group was dealt
  pub dealt_before : (b : Stepping V F) (c : Crew W) (r : SeenReader V F) → r.stepper ≡ b → (g : List Element) (jobs : ℕ) (o : Option Stop) (s : Stop) → o ≡ Some s → HasWay c jobs o → HasStopped P told n a r (gs ++ g ∷ []) → DealsAll P told result_of work hubs n a b c first now (Some s)
  dealt_before b c r is g jobs o s stops m h = record {
    ds = ds;
    gs = gs;
    ws = m.0;
    texts = are;
    pumping = subst (λ x. IsPumping result_of work hubs c first now ds m.0 x) stops m.1;
    read = stopped_before P told n a b r is gs g s h;
  }

  -- the next group was dealt
  pub dealt_more : (c d : Crew W) (r : SeenReader V F) (load : Load) (g : List Element) → elements load ≡ text_of g → (jobs : ℕ) (o : Option Stop) → o ≡ None → (m : HasWay c jobs o) → IsCrew result_of work hubs d (ds ++ load ∷ []) m.0 → IsGrouping P told n a r (gs ++ g ∷ [])
      → (es : List Load) × (ws : List Worked) × IsPumping result_of work hubs d first now es ws None × (length es ≤ length ws + jobs) × ((hs : List (List Element)) × AreTexts es hs × IsGrouping P told n a r hs)
  dealt_more c d r load g is jobs o none m crew h =
      let e = one_longer ds load in
      let less = m.2 in
      (ds ++ load ∷ [], m.0, record { crew = crew; printed = subst (λ x. Printed first now m.0 x) none m.1.printed }, omega (arith, e, less), (gs ++ g ∷ [], texts_more ds gs load g are is, h))

-- what stopped it stops it still
pub kept_same : (o z : Option Stop) → o ≡ z → IfSome o (λ s. z ≡ Some s)
kept_same None z is = tt
kept_same (Some s) z is = sym is

pub kept_none : (o z : Option Stop) → o ≡ None → IfSome o (λ s. z ≡ Some s)
kept_none None z is = tt
kept_none (Some s) z is = absurd (let e : Some s ≡ None = is in cc)

pub kept_then : (o z y : Option Stop) → IfSome o (λ s. z ≡ Some s) → IfSome z (λ s. y ≡ Some s) → IfSome o (λ s. y ≡ Some s)
kept_then None z y h k = tt
kept_then (Some s) z y h k = subst (λ (x : Option Stop). IfSome x (λ t. y ≡ Some t)) h k
