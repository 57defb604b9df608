-- What the reading of a list gives, told of its device.
use Rattle.std.proofs.Common.{◌≡◌, ℕ, zero, suc, true, false, Bool, List, [], Option, Some, None, IfSome, inl, inr, length, refl, sym, ◌∙◌, ap, subst, ⊎_elim}
use Rattle.chunk_core.specs.Elements.{Element}
use Rattle.chunk_core.specs.Feed.{Given}
use Rattle.chunk_core.specs.Outcomes.{Cut, Done, End, Fault, Outcomes}
use Rattle.chunk_core.specs.Tables.{no_values}
use Rattle.chunk_core.specs.declared.code.Code.{Code}
use Rattle.chunk_core.specs.declared.code.Code.TheVariants as code
use Rattle.chunk_core.specs.declared.code.Exit.{Exit}
use Rattle.device_port.specs.Device.{DeviceTold}
use Rattle.pull_nodes.specs.Runs.{Gives, GivesAtEnd, GivesBy, IsIdle, IsRun, OrLeft, Piped, any_leeway}
use Rattle.pull_nodes.specs.declared.node.Node.{Node}
use Rattle.pull_nodes.specs.declared.node.Node.TheVariants.{Read, Through', Weak'}
use Rattle.pull_nodes.specs.declared.pipe.Pipe.TheVariants as pipe
use Rattle.pull_stepper.specs.Held.{closed_as}
use Rattle.plan_work.specs.Listed.{ListRuns}
use Rattle.run_rules.specs.Listing.{IsListing, IsReadInTime, listing_of}
use Rattle.run_rules.specs.Work.{Lister}
use Rattle.joined_runs.proofs.Listings.{comes}
use Rattle.joined_runs.proofs.PlansTogether.{box}
use Rattle.collected.proofs.TableHomes.{IsClosedOf}

done_cut : Done ≡ Cut → ⊥
done_cut e = cc

done_fault : (c : Code) → Done ≡ Fault c → ⊥
done_fault c e = cc

fault_done : (c : Code) → Fault c ≡ Done → ⊥
fault_done c e = cc

-- A reading that is done.

left_done : (Idle : Type 0) (R : Outcomes) (ys : List Element) → OrLeft Idle R ys Done → R ys Done
left_done Idle R ys h = ⊎_elim (λ r. r) (λ l. absurd (done_cut l.0)) h

end_done : (part all : List Element → Given) (xs ys : List Element) (g : End) → GivesAtEnd part all xs g ys Done → g ≡ Done
end_done part all xs ys Done h = refl
end_done part all xs ys (Fault c) h = absurd (done_fault c h.1)
end_done part all xs ys Cut h = absurd (done_cut h.1)

by_done : (f : Option Code) (part all : List Element → Given) (xs ys : List Element) (g : End) → GivesBy f part all xs g ys Done → g ≡ Done
by_done (Some c) part all xs ys g h = absurd (done_fault c h.1)
by_done None part all xs ys g h = end_done part all xs ys g h

piped_done : (part all : List Element → Given) (A : Outcomes) (ys : List Element) → Piped part all A ys Done → (xs : List Element) × A xs Done
piped_done part all A ys (xs, g, a, h) = (xs, subst (λ e. A xs e) (by_done (part xs).fault part all xs ys g h) a)

module _ (d : DeviceTold) where
  abbrev alone : ℕ → DeviceTold
  alone r = d

  -- its device was read to the end
  pub done_read : (ys : List Element) → ListRuns d ys Done → (d.ended ≡ true) × (d.read_faults ≡ 0) × IfSome d.content (λ c. d.at ≡ length c)
  done_read ys (n, (a, b, c, is), run) =
      let inner = Through' c (Read 0) pipe.Utf8 in
      let outer = Through' b inner pipe.Lines in
      let here = subst (λ m. IsRun no_values alone m ys Done) is run in
      let opened = left_done (IsIdle alone (Weak' 0 a outer)) (Gives any_leeway no_values alone (Weak' 0 a outer)) ys here in
      let read = ⊎_elim (λ o. o.2) (λ f. absurd (done_fault code.Open f.3)) opened in
      let lines = piped_done _ _ _ ys (left_done (IsIdle alone outer) (Gives any_leeway no_values alone outer) ys read) in
      let text = piped_done _ _ _ lines.0 (left_done (IsIdle alone inner) (Gives any_leeway no_values alone inner) lines.0 lines.1) in
      let bytes = left_done (IsIdle alone (Read 0)) (Gives any_leeway no_values alone (Read 0)) text.0 text.1 in
      (bytes.1.0, bytes.1.2, bytes.1.3)

-- lines that end as done were all given streams
pub listing_done : (l : Lister) (A : Outcomes) → IsListing l A Done → (ys : List Element) × A ys Done
listing_done l A (ys, g, run, is) =
    ⊎_elim
    (λ goes. (ys, subst (λ e. A ys e) (sym (goes g) ∙ ap (λ x. x.end) is) run))
    (λ stops. absurd (fault_done stops.fault (sym (stops.end g) ∙ ap (λ x. x.end) is)))
    (comes l.is_bad l.most ys)

-- A list of which nothing was read.

-- where its device is opened and read, its bytes go through as lines of text
abbrev some_node : Node
some_node = Weak' 0 box (Through' box (Through' box (Read 0) pipe.Utf8) pipe.Lines)

none_listed : (n : ℕ) (bad : List ℕ → Bool) (e : End) → listing_of n bad [] e ≡ record { lines = []; end = e }
none_listed zero bad e = refl
none_listed (suc n) bad e = refl

-- nothing was done with its device
pub left_listing : (l : Lister) (d : DeviceTold) → l.lines ≡ [] → IsListing l (ListRuns d) Cut
left_listing l d none = ([], Cut, (some_node, (box, box, box, refl), inr (refl, inl (refl, tt))), none_listed l.most l.is_bad Cut ∙ ap (λ ls. record { lines = ls; end = Cut }) (sym none))

-- it could not be opened
pub failed_listing : (l : Lister) (d : DeviceTold) → l.lines ≡ [] → d.opens ≡ 0 → d.open_faults ≡ 1 → IsListing l (ListRuns d) (Fault code.Open)
failed_listing l d none opens faults = ([], Fault code.Open, (some_node, (box, box, box, refl), inl (inr (opens, faults, refl, refl, tt))), none_listed l.most l.is_bad (Fault code.Open) ∙ ap (λ ls. record { lines = ls; end = Fault code.Open }) (sym none))

-- A device that was closed tells of its reading what it told before.

closed_runs : (x : Exit) (ok : Bool) (d : DeviceTold) (ys : List Element) (e : End) → ListRuns d ys e → ListRuns (closed_as x ok d) ys e
closed_runs x true d ys e (n, (a, b, c, is), run) =
    let m = Weak' 0 a (Through' b (Through' c (Read 0) pipe.Utf8) pipe.Lines) in
    (m, (a, b, c, refl), subst (λ m. IsRun no_values (λ r. d) m ys e) is run)
closed_runs x false d ys e (n, (a, b, c, is), run) =
    let m = Weak' 0 a (Through' b (Through' c (Read 0) pipe.Utf8) pipe.Lines) in
    (m, (a, b, c, refl), subst (λ m. IsRun no_values (λ r. d) m ys e) is run)

closed_time : (l : Lister) (x : Exit) (ok : Bool) (d : DeviceTold) → IsReadInTime l d → IsReadInTime l (closed_as x ok d)
closed_time l x true d h = record { needed = h.needed; ended = h.ended }
closed_time l x false d h = record { needed = h.needed; ended = h.ended }

module _ (l : Lister) (d e : DeviceTold) (c : IsClosedOf d e) where
  pub closed_listing : (g : End) → IsListing l (ListRuns d) g → IsListing l (ListRuns e) g
  closed_listing g (ys, f, run, is) = (ys, f, subst (λ x. ListRuns x ys f) (sym c.is) (closed_runs c.exit c.ok d ys f run), is)

  pub closed_in_time : IsReadInTime l d → IsReadInTime l e
  closed_in_time h = subst (IsReadInTime l) (sym c.is) (closed_time l c.exit c.ok d h)
