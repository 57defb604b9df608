-- What is left of each stream that is no longer open.
use Rattle.std.proofs.Common.{◌≡◌, ◌≢◌, ℕ, cond, nat_eq, List, [], ◌∷◌, ◌++◌, map, flat_map, Some, refl, sym, ◌∙◌, ap, subst, ⊎_elim, append_assoc, eq-eqb, ne_eqb}
use Rattle.std.proofs.lemmas.List.{map-append}
use Rattle.std.proofs.lemmas.List.Sorted.{IsPermutation-append, IsPermutation-append_comm, IsPermutation-append_left, IsPermutation-refl, IsPermutation-trans}
use Rattle.std.specs.List.{IsDistinct}
use Rattle.std.specs.List.Sorted.{IsPermutation}
use Rattle.channel_bounded.specs.Ends.{ReceiverSeen}
use Rattle.chunk_core.specs.Lists.{IsAmong}
use Rattle.chunk_core.specs.Lists.IsAmong.{here, there}
use Rattle.chunk_core.specs.Tables.{Values}
use Rattle.chunk_core.proofs.Distinct.{distinct_head, distinct_tail}
use Rattle.chunk_core.proofs.Members.{among_cons, among_nil}
use Rattle.device_port.specs.Device.{DeviceTold}
use Rattle.join_tale.specs.Tales.{Tale}
use Rattle.join_tree.specs.Progress.{Progress}
use Rattle.pipeline_desc.specs.Meant.{PlanMeant}
use Rattle.pull_nodes.specs.declared.node.Node.{Node}
use Rattle.pull_stepper.specs.Sites.{blank}
use Rattle.pull_turns.specs.Piping.{StateMeaning}
use Rattle.row_seat.specs.declared.view.View.{View}
use Rattle.run_rules.specs.Facts.{at}
use Rattle.scope_tree.specs.declared.branch.Spent.{Spent}
use Rattle.stream_jobs.specs.declared.job.JobEnd.{JobEnd}
use Rattle.stream_jobs.specs.Running.{Origin}
use Rattle.res_ledger.proofs.Mapped.{map_among}
use Rattle.stream_parts.specs.Retire.{devices_of}
use Rattle.job_runs.specs.Runs.{RunsJob}
use Rattle.job_runs.proofs.Ended.{jobs_end}
use Rattle.dealt_streams.specs.Kept.{AreKept, HasComeBack, IsKept}
use Rattle.dealt_streams.specs.Kept.{Gone, number_of}
use Rattle.dealt_streams.specs.declared.leftover.Leftover.{Leftover}
use Rattle.dealt_streams.specs.Kept.Gone.{Came, Missed}
use Rattle.dealt_streams.specs.Parts.{IsMadeOf, Part}
use Rattle.dealt_streams.specs.Parts.Part.{Begun}
use Rattle.collected.proofs.Rows.{swapped}

-- the devices of a stream, which came to tell its home: those on its shelf, those of rows of tables that it was the last to leave, and those never opened
pub record Rested (V : Type 0) : Type 0 where
  pub number : ℕ
  pub home : ℕ → DeviceTold
  pub mine : List (Spent V)
  pub lent : List (Spent V)
  pub unopened : List V

module _ {V : Type 0} where
  -- a stream that has no devices
  abbrev pub nothing : Rested V
  nothing = record { number = 0; home = λ r. blank; mine = []; lent = []; unopened = [] }

  -- the one with this number
  abbrev pub named : List (Rested V) → ℕ → Rested V
  named [] k = nothing
  named (z ∷ zs) k = cond (nat_eq z.number k) z (named zs k)

  pub named_is : (zs : List (Rested V)) (z : Rested V) → IsDistinct nat_eq (map (λ x. x.number) zs) → IsAmong z zs → named zs z.number ≡ z
  named_is [] z d m = absurd (among_nil m)
  named_is (y ∷ zs) z d m =
      ⊎_elim
      (λ e. ap (λ b. cond b y (named zs z.number)) (eq-eqb y.number z.number (ap (λ (x : Rested V). x.number) (sym e))) ∙ sym e)
      (λ i.
      let other : y.number ≢ z.number = λ e. distinct_head y.number (map (λ x. x.number) zs) d (subst (λ k. IsAmong k (map (λ x. x.number) zs)) (sym e) (map_among (λ x. x.number) z zs i)) in
      ap (λ b. cond b y (named zs z.number)) (ne_eqb y.number z.number other) ∙ named_is zs z (distinct_tail y.number (map (λ x. x.number) zs) d) i)
      (among_cons m)

  pub named_none : (zs : List (Rested V)) (k : ℕ) → ¬ (IsAmong k (map (λ x. x.number) zs)) → named zs k ≡ nothing
  named_none [] k n = refl
  named_none (y ∷ zs) k n =
      ap (λ b. cond b y (named zs k)) (ne_eqb y.number k (λ e. n (subst (λ q. IsAmong q (y.number ∷ map (λ x. x.number) zs)) e (here (map (λ x. x.number) zs)))))
      ∙ named_none zs k (λ m. n (there y.number m))

  module _ (told : V → DeviceTold) where
    -- its own devices
    abbrev pub own_of : Rested V → List DeviceTold
    own_of z = devices_of told z.mine z.unopened

    -- all devices that it left
    abbrev pub all_of : Rested V → List DeviceTold
    all_of z = devices_of told (z.mine ++ z.lent) z.unopened

    -- the rows of tables that streams left last
    abbrev pub lent_of : List (Rested V) → List (Spent V)
    lent_of zs = flat_map (λ z. z.lent) zs

    one_arranged : (z : Rested V) → IsPermutation (map (λ x. told x.pay) z.lent ++ own_of z) (all_of z)
    one_arranged z =
        let l = map (λ (x : Spent V). told x.pay) z.lent in
        let m = map (λ (x : Spent V). told x.pay) z.mine in
        let u = map told z.unopened in
        subst (λ k. IsPermutation (l ++ (m ++ u)) (k ++ u)) (sym (map-append (λ (x : Spent V). told x.pay) z.mine z.lent))
        (subst (λ k. IsPermutation k ((m ++ l) ++ u)) (append_assoc l m u) (IsPermutation-append_left u (l ++ m) (m ++ l) (IsPermutation-append_comm l m)))

    -- the rows of tables may stand before the streams' own
    pub arranged : (zs : List (Rested V)) → IsPermutation (map (λ x. told x.pay) (lent_of zs) ++ flat_map own_of zs) (flat_map all_of zs)
    arranged [] = IsPermutation-refl []
    arranged (z ∷ zs) =
        let l = map (λ (x : Spent V). told x.pay) z.lent in
        let ls = map (λ (x : Spent V). told x.pay) (lent_of zs) in
        subst (λ k. IsPermutation (k ++ (own_of z ++ flat_map own_of zs)) (all_of z ++ flat_map all_of zs)) (sym (map-append (λ (x : Spent V). told x.pay) z.lent (lent_of zs)))
        (IsPermutation-trans ((l ++ ls) ++ (own_of z ++ flat_map own_of zs)) ((l ++ own_of z) ++ (ls ++ flat_map own_of zs)) (all_of z ++ flat_map all_of zs)
        (swapped l ls (own_of z) (flat_map own_of zs))
        (IsPermutation-append (l ++ own_of z) (all_of z) (ls ++ flat_map own_of zs) (flat_map all_of zs) (one_arranged z) (arranged zs)))

-- a stream was made so, once some contents of tables were read and some lines were given streams
pub record MadeSo {V F : Type 0} (told : V → DeviceTold) (p : PlanMeant) (k : ℕ) (n : Node) (ds : List V) (w : Origin V F) : Type 0 where
  pub contents : List (List ℕ)
  pub lines : List (List ℕ)
  pub made : IsMadeOf told p contents lines k n ds w

module _ {S V F : Type 0} (view : S → View V) (told : V → DeviceTold) (P : Values → StateMeaning F) (p : PlanMeant) (parts : List (Part V F)) (progress : Progress V) (receiver : ReceiverSeen) (tale : Tale)
    (made : (k : ℕ) (n : Node) (ds : List V) (w : Origin V F) → at parts k ≡ Some (Begun n ds w) → MadeSo told p k n ds w) where
  -- what the job of a stream did that has come back
  abbrev pub job_of : (x : Leftover V) (n : Node) (ds : List V) (w : Origin V F) (e : JobEnd S V) (h : HasComeBack view told P parts progress receiver tale x n ds w e) → RunsJob told view (P w.start.tables).values n ds w.stream (made w.stream n ds w h.begun).made.site.seat.floor w.leased e
  job_of x n ds w e h = let m = (made w.stream n ds w h.begun).made in jobs_end view told P n m.site ds w e m.is_of m.scopes h.ends

  abbrev pub rest_of : (x : Leftover V) (g : Gone S V F) → IsKept view told P parts progress receiver tale x g → Rested V
  rest_of x (Came n ds w e) h = let j = job_of x n ds w e h in record { number = w.stream; home = j.home; mine = j.visited.mine; lent = j.visited.lent; unopened = e.unopened }
  rest_of x (Missed k ds) h = record { number = k; home = λ r. blank; mine = []; lent = []; unopened = ds }

  abbrev pub rests : (xs : List (Leftover V)) (gs : List (Gone S V F)) → AreKept view told P parts progress receiver tale xs gs → List (Rested V)
  rests [] [] h = []
  rests (x ∷ xs) (g ∷ gs) h = rest_of x g h.0 ∷ rests xs gs h.1
  rests [] (g ∷ gs) h = []
  rests (x ∷ xs) [] h = []

  number_is : (x : Leftover V) (g : Gone S V F) (h : IsKept view told P parts progress receiver tale x g) → (rest_of x g h).number ≡ number_of g
  number_is x (Came n ds w e) h = refl
  number_is x (Missed k ds) h = refl

  pub numbers_are : (xs : List (Leftover V)) (gs : List (Gone S V F)) (h : AreKept view told P parts progress receiver tale xs gs) → map (λ z. z.number) (rests xs gs h) ≡ map number_of gs
  numbers_are [] [] h = refl
  numbers_are (x ∷ xs) (g ∷ gs) h = ap (λ k. k ∷ map (λ z. z.number) (rests xs gs h.1)) (number_is x g h.0) ∙ ap (λ l. number_of g ∷ l) (numbers_are xs gs h.1)
  numbers_are [] (g ∷ gs) h = absurd h
  numbers_are (x ∷ xs) [] h = absurd h

  -- each stands there
  pub rest_among : (xs : List (Leftover V)) (gs : List (Gone S V F)) (h : AreKept view told P parts progress receiver tale xs gs) (g : Gone S V F) → IsAmong g gs → (x : Leftover V) × (k : IsKept view told P parts progress receiver tale x g) × IsAmong (rest_of x g k) (rests xs gs h)
  rest_among [] gs h g m = absurd (none gs h m)
    where
      none : (gs : List (Gone S V F)) → AreKept view told P parts progress receiver tale [] gs → IsAmong g gs → ⊥
      none [] h m = among_nil m
      none (y ∷ gs) h m = h
  rest_among (x ∷ xs) [] h g m = absurd h
  rest_among (x ∷ xs) (y ∷ gs) h g (here zs) = (x, h.0, here (rests xs gs h.1))
  rest_among (x ∷ xs) (y ∷ gs) h g (there {xs = zs} z m) = let r = rest_among xs gs h.1 g m in (r.0, r.1, there (rest_of x y h.0) r.2)

  -- and no other
  pub among_rest : (xs : List (Leftover V)) (gs : List (Gone S V F)) (h : AreKept view told P parts progress receiver tale xs gs) (z : Rested V) → IsAmong z (rests xs gs h) → (x : Leftover V) × (g : Gone S V F) × (k : IsKept view told P parts progress receiver tale x g) × IsAmong g gs × (z ≡ rest_of x g k)
  among_rest [] [] h z m = absurd (among_nil m)
  among_rest (x ∷ xs) (g ∷ gs) h z m = ⊎_elim (λ e. (x, g, h.0, here gs, e)) (λ i. let r = among_rest xs gs h.1 z i in (r.0, r.1, r.2, there g r.3, r.4)) (among_cons m)
  among_rest [] (g ∷ gs) h z m = absurd h
  among_rest (x ∷ xs) [] h z m = absurd h

  one_left : (x : Leftover V) (g : Gone S V F) (h : IsKept view told P parts progress receiver tale x g) → devices_of told x.shelf x.unopened ≡ all_of told (rest_of x g h)
  one_left x (Came n ds w e) h = ap (λ s. devices_of told s x.unopened) (h.shelf_is ∙ (job_of x n ds w e h).visited.parts) ∙ ap (λ u. devices_of told ((job_of x n ds w e h).visited.mine ++ (job_of x n ds w e h).visited.lent) u) h.unopened_is
  one_left x (Missed k ds) h = ap (λ s. devices_of told s x.unopened) h.1 ∙ ap (λ u. devices_of told [] u) h.2

  -- the devices that were left are theirs
  pub left_are : (xs : List (Leftover V)) (gs : List (Gone S V F)) (h : AreKept view told P parts progress receiver tale xs gs) → flat_map (λ x. devices_of told x.shelf x.unopened) xs ≡ flat_map (all_of told) (rests xs gs h)
  left_are [] [] h = refl
  left_are (x ∷ xs) (g ∷ gs) h = ap (λ l. l ++ flat_map (λ y. devices_of told y.shelf y.unopened) xs) (one_left x g h.0) ∙ ap (λ l. all_of told (rest_of x g h.0) ++ l) (left_are xs gs h.1)
  left_are [] (g ∷ gs) h = absurd h
  left_are (x ∷ xs) [] h = absurd h
