-- Which streams were begun, and what is left of the devices of each.
use Rattle.std.proofs.Common.{◌≡◌, ◌⊎◌, ℕ, zero, suc, ◌+◌, ◌<◌, nat_eq, List, [], ◌∷◌, ◌++◌, inl, inr, map, length, Option, Some, refl, sym, ◌∙◌, ap, subst, ⊎_elim, arith, append_assoc, length-append}
use Rattle.std.proofs.lemmas.Grind.{flat_map-append}
use Rattle.std.specs.List.{IsDistinct, range_with_len}
use Rattle.std.specs.List.Sorted.{IsPermutation}
use Rattle.channel_bounded.specs.Ends.{ReceiverSeen}
use Rattle.chunk_core.specs.Lists.{IsAmong}
use Rattle.chunk_core.specs.Tables.{Values}
use Rattle.chunk_core.specs.declared.code.How.{How}
use Rattle.device_port.specs.Device.{DeviceTold}
use Rattle.device_port.specs.Depot.{DepotTold}
use Rattle.join_tale.specs.Tales as tales
use Rattle.join_tale.specs.Tales.{HasCome, Tale}
use Rattle.pipeline_desc.specs.Meant.{PlanMeant}
use Rattle.pipeline_desc.specs.Places.{first_row}
use Rattle.pipeline_desc.specs.declared.stream.StreamSpec.{StreamSpec}
use Rattle.pull_nodes.specs.declared.node.Node.{Node}
use Rattle.pull_turns.specs.Piping.{StateMeaning}
use Rattle.row_seat.specs.declared.view.View.{View}
use Rattle.run_rules.specs.Facts.{at}
use Rattle.scope_tree.specs.Calls.{Seen}
use Rattle.stream_jobs.specs.declared.job.JobEnd.{JobEnd}
use Rattle.stream_jobs.specs.Running.{Origin}
use Rattle.res_ledger.proofs.Mapped.{among_map}
use Rattle.stream_parts.proofs.PartsMade.{first_place}
use Rattle.stream_parts.specs.Same.{AreSame}
use Rattle.job_runs.specs.Rows.{from_row}
use Rattle.joined_runs.specs.Devices.{IsAtRest}
use Rattle.collected.specs.Collected.{IsCollected}
use Rattle.dealt_streams.specs.Kept.{Gone, HasComeBack, number_of}
use Rattle.dealt_streams.specs.Kept.Gone.{Came, Missed}
use Rattle.dealt_streams.specs.Moves.{AreMoved, Move, contents_of, dealt_in, dealt_of, lines_of}
use Rattle.dealt_streams.specs.Moves.Move.{Read, Opened, Gave, Dealt}
use Rattle.dealt_streams.specs.Parts.{Deals, IsMadeOf, Part, fate_of, spec_of}
use Rattle.dealt_streams.specs.Parts.Part.{Begun, Skipped, Unmade}
use Rattle.dealt_streams.specs.declared.leftover.Leftover.{Leftover}
use Rattle.collected.proofs.DealtRows.{Leaves, LeavesRun}
use Rattle.collected.proofs.Rested.{MadeSo, Rested, job_of, named, named_is, named_none, numbers_are, own_of, rest_among, rest_of, rests}

at_map : {A B : Type 0} (f : A → B) (xs : List A) (k : ℕ) (x : A) → at xs k ≡ Some x → at (map f xs) k ≡ Some (f x)
at_map f [] k x e = cc
at_map f (y ∷ xs) zero x e = let same : y ≡ x = cc in ap (λ z. Some (f z)) same
at_map f (y ∷ xs) (suc k) x e = at_map f xs k x e

pub map_at : {A B : Type 0} (f : A → B) (xs : List A) (k : ℕ) (z : B) → at (map f xs) k ≡ Some z → (x : A) × (at xs k ≡ Some x) × (f x ≡ z)
map_at f [] k z e = cc
map_at f (y ∷ xs) zero z e = (y, refl, cc)
map_at f (y ∷ xs) (suc k) z e = map_at f xs k z e

module _ {V F : Type 0} where
  begun_skipped : (n : Node) (ds : List V) (w : Origin V F) → Some (Begun n ds w) ≡ Some Skipped → ⊥
  begun_skipped n ds w e = cc

  begun_unmade : (n : Node) (ds es : List V) (w : Origin V F) → Some (Begun n ds w) ≡ Some (Unmade es) → ⊥
  begun_unmade n ds es w e = cc

  skipped_unmade : (es : List V) → ◌≡◌ {A = Option (Part V F)} (Some Skipped) (Some (Unmade es)) → ⊥
  skipped_unmade es e = cc

  same_unmade : (ds es : List V) → ◌≡◌ {A = Option (Part V F)} (Some (Unmade ds)) (Some (Unmade es)) → ds ≡ es
  same_unmade ds es e = cc

  same_begun : (n m : Node) (ds es : List V) (w v : Origin V F) → Some (Begun n ds w) ≡ Some (Begun m es v) → (n ≡ m) × (ds ≡ es) × (w ≡ v)
  same_begun n m ds es w v e = (cc, cc, cc)

  not_begun : (x : Part V F) → fate_of x ≡ tales.Fate.Begun → (n : Node) × (ds : List V) × (w : Origin V F) × (x ≡ Begun n ds w)
  not_begun (Begun n ds w) e = (n, ds, w, refl)
  not_begun Skipped e = cc
  not_begun (Unmade ds) e = cc

  not_unmade : (x : Part V F) → fate_of x ≡ tales.Fate.Unmade → (ds : List V) × (x ≡ Unmade ds)
  not_unmade (Begun n ds w) e = cc
  not_unmade Skipped e = cc
  not_unmade (Unmade ds) e = (ds, refl)

  one_more : (m : Move V F) (before ms : List (Move V F)) → (before ++ m ∷ []) ++ ms ≡ before ++ m ∷ ms
  one_more m before ms = append_assoc before (m ∷ []) ms

  more_dealt : (m : Move V F) (before : List (Move V F)) → length (dealt_of (before ++ m ∷ [])) ≡ length (dealt_of before) + length (dealt_of (m ∷ []))
  more_dealt m before = ap (λ (l : List (Part V F)). length l) (flat_map-append dealt_in before (m ∷ [])) ∙ length-append (dealt_of before) (dealt_of (m ∷ []))

  -- a stream that was begun was made so, behind the moves before
  pub record MadeAt (told : V → DeviceTold) (p : PlanMeant) (moves : List (Move V F)) (k : ℕ) (n : Node) (ds : List V) (w : Origin V F) : Type 0 where
    pub before : List (Move V F)
    pub rest : List (Move V F)
    pub split : before ++ rest ≡ moves
    pub spec : StreamSpec
    pub spec_is : spec_of p (lines_of before) k ≡ Some spec
    pub below : k < length p.streams + length (lines_of before)
    pub made : IsMadeOf told p (contents_of before) (lines_of before) k n ds w

  -- what holds behind one move more holds behind those before it
  moved_on : (told : V → DeviceTold) (p : PlanMeant) (m : Move V F) (before ms : List (Move V F)) (i j : ℕ) (n : Node) (ds : List V) (w : Origin V F) → length (dealt_of (m ∷ [])) + i ≡ j → MadeAt told p ((before ++ m ∷ []) ++ ms) (length (dealt_of (before ++ m ∷ [])) + i) n ds w
      → MadeAt told p (before ++ m ∷ ms) (length (dealt_of before) + j) n ds w
  moved_on told p m before ms i j n ds w e h =
      let d = more_dealt m before in
      let z : length (dealt_of (before ++ m ∷ [])) + i ≡ length (dealt_of before) + j = omega (arith, d, e) in
      subst (λ k. MadeAt told p (before ++ m ∷ ms) k n ds w) z (subst (λ l. MadeAt told p l (length (dealt_of (before ++ m ∷ [])) + i) n ds w) (one_more m before ms) h)

  dealt_made : (told : V → DeviceTold) (p : PlanMeant) (before : List (Move V F)) (old : DepotTold) (ms : List (Move V F)) (new : DepotTold) → AreMoved told p before old ms new → (i : ℕ) (n : Node) (ds : List V) (w : Origin V F) → at (dealt_of ms) i ≡ Some (Begun n ds w)
      → MadeAt told p (before ++ ms) (length (dealt_of before) + i) n ds w
  dealt_made told p before old [] new moved i n ds w e = cc
  dealt_made told p before old (Read x ∷ ms) new (mid, m, moved) i n ds w e = moved_on told p (Read x) before ms i i n ds w (omega arith) (dealt_made told p (before ++ Read x ∷ []) mid ms new moved i n ds w e)
  dealt_made told p before old (Opened r ∷ ms) new (mid, m, moved) i n ds w e = moved_on told p (Opened r) before ms i i n ds w (omega arith) (dealt_made told p (before ++ Opened r ∷ []) mid ms new moved i n ds w e)
  dealt_made told p before old (Gave line ∷ ms) new (mid, m, moved) i n ds w e = moved_on told p (Gave line) before ms i i n ds w (omega arith) (dealt_made told p (before ++ Gave line ∷ []) mid ms new moved i n ds w e)
  dealt_made told p before old (Dealt x ∷ ms) new (mid, m, moved) zero n ds w e =
      let same : x ≡ Begun n ds w = cc in
      let d = subst (λ y. Deals told p (contents_of before) (lines_of before) (length (dealt_of before)) old mid y) same m in
      let z : length (dealt_of before) ≡ length (dealt_of before) + 0 = omega arith in
      subst (λ k. MadeAt told p (before ++ Dealt x ∷ ms) k n ds w) z (record { before = before; rest = Dealt x ∷ ms; split = refl; spec = d.0; spec_is = d.1; below = d.2; made = d.3 })
  dealt_made told p before old (Dealt x ∷ ms) new (mid, m, moved) (suc i) n ds w e = moved_on told p (Dealt x) before ms i (suc i) n ds w (omega arith) (dealt_made told p (before ++ Dealt x ∷ []) mid ms new moved i n ds w e)

module _ {S V F : Type 0} (view : S → View V) (told : V → DeviceTold) (P : Values → StateMeaning F) (p : PlanMeant) (d0 now : DepotTold) (outer : How) (b : Seen V) (left : List (Leftover V)) (receiver : ReceiverSeen) (tale : Tale) (h : IsCollected view told P p d0 now outer b left receiver tale) where
  pub made_so : (k : ℕ) (n : Node) (ds : List V) (w : Origin V F) → at h.parts k ≡ Some (Begun n ds w) → MadeAt told p h.moves k n ds w
  made_so k n ds w e =
      let z : 0 + k ≡ k = omega arith in
      subst (λ j. MadeAt told p h.moves j n ds w) z (dealt_made told p [] d0 h.moves now h.moved k n ds w (ap (λ l. at l k) h.parts_are ∙ e))

  pub made : (k : ℕ) (n : Node) (ds : List V) (w : Origin V F) → at h.parts k ≡ Some (Begun n ds w) → MadeSo told p k n ds w
  made k n ds w e = let m = made_so k n ds w e in record { contents = contents_of m.before; lines = lines_of m.before; made = m.made }

  -- what is left of the streams
  abbrev pub zs : List (Rested V)
  zs = rests view told P p h.parts h.progress receiver tale made left h.streams.gone h.streams.kept

  pub numbers : map (λ z. z.number) zs ≡ map number_of h.streams.gone
  numbers = numbers_are view told P p h.parts h.progress receiver tale made left h.streams.gone h.streams.kept

  pub zs_apart : IsDistinct nat_eq (map (λ z. z.number) zs)
  zs_apart = subst (IsDistinct nat_eq) (sym numbers) h.streams.apart

  -- what the devices of stream k came to tell, and those of them that are left
  abbrev pub home_of : ℕ → ℕ → DeviceTold
  home_of k = (named zs k).home

  abbrev pub stays_of : ℕ → List DeviceTold
  stays_of k = own_of told (named zs k)

  fate_at : (k : ℕ) (x : Part V F) → at h.parts k ≡ Some x → at tale.fates k ≡ Some (fate_of x)
  fate_at k x e = ap (λ l. at l k) h.fates_are ∙ at_map fate_of h.parts k x e

  pub begun_at : (k : ℕ) → tales.IsBegun tale k → (n : Node) × (ds : List V) × (w : Origin V F) × (at h.parts k ≡ Some (Begun n ds w))
  begun_at k e =
      let x = map_at fate_of h.parts k tales.Fate.Begun (ap (λ l. at l k) (sym h.fates_are) ∙ e) in
      let y = not_begun x.0 x.2 in
      (y.0, y.1, y.2, x.1 ∙ ap Some y.3)

  pub is_begun : (k : ℕ) (n : Node) (ds : List V) (w : Origin V F) → at h.parts k ≡ Some (Begun n ds w) → tales.IsBegun tale k
  is_begun k n ds w e = fate_at k (Begun n ds w) e

  -- a stream whose end came was begun
  pub come_begun : (k : ℕ) → HasCome tale k → tales.IsBegun tale k
  come_begun k c = (h.is_tale.frames.ours (tales.end_of k c.0) c.1).0

  -- what is kept of a stream that was begun
  pub record IsBack (k : ℕ) (n : Node) (ds : List V) (w : Origin V F) : Type 0 where
    pub x : Leftover V
    pub e : JobEnd S V
    pub back : HasComeBack view told P h.parts h.progress receiver tale x n ds w e
    pub among : IsAmong (rest_of view told P p h.parts h.progress receiver tale made x (Came n ds w e) back) zs
    pub is : named zs k ≡ rest_of view told P p h.parts h.progress receiver tale made x (Came n ds w e) back

  back_of : (k : ℕ) (n : Node) (ds : List V) (w : Origin V F) → at h.parts k ≡ Some (Begun n ds w) → (g : Gone S V F) → IsAmong g h.streams.gone → number_of g ≡ k → IsBack k n ds w
  back_of k n ds w e (Came m es v je) among same =
      let r = rest_among view told P p h.parts h.progress receiver tale made left h.streams.gone h.streams.kept (Came m es v je) among in
      let eq = same_begun m n es ds v w (sym r.1.begun ∙ (ap (at h.parts) same ∙ e)) in
      go m es v je r.0 r.1 r.2 same eq.0 eq.1 eq.2
    where
      go : (m : Node) (es : List V) (v : Origin V F) (je : JobEnd S V) (x : Leftover V) (c : HasComeBack view told P h.parts h.progress receiver tale x m es v je) → IsAmong (rest_of view told P p h.parts h.progress receiver tale made x (Came m es v je) c) zs → v.stream ≡ k → m ≡ n → es ≡ ds → v ≡ w → IsBack k n ds w
      go m es v je x c i st em ee ew =
          subst (λ y. IsBack k n ds y) ew (subst (λ y. IsBack k n y v) ee (subst (λ y. IsBack k y es v) em
          (record { x = x; e = je; back = c; among = i; is = ap (named zs) (sym st) ∙ named_is zs (rest_of view told P p h.parts h.progress receiver tale made x (Came m es v je) c) zs_apart i })))
  back_of k n ds w e (Missed j es) among same =
      let r = rest_among view told P p h.parts h.progress receiver tale made left h.streams.gone h.streams.kept (Missed j es) among in
      absurd (begun_unmade n ds es w (sym e ∙ (ap (at h.parts) (sym same) ∙ r.1.0)))

  pub is_back : (k : ℕ) (n : Node) (ds : List V) (w : Origin V F) → at h.parts k ≡ Some (Begun n ds w) → IsBack k n ds w
  is_back k n ds w e =
      let m = (h.streams.numbers k).1 (inl (h.streams.come k (is_begun k n ds w e))) in
      let g = among_map number_of k h.streams.gone m in
      back_of k n ds w e g.0 g.1 g.2

  -- what is left of each stream that was dealt with
  abbrev pub Left_so : ℕ → Part V F → Type 0
  Left_so k x = Leaves told p (lines_of h.moves) d0.files home_of stays_of k x

  -- its first row
  pub first_so : (k : ℕ) (n : Node) (ds : List V) (w : Origin V F) → at h.parts k ≡ Some (Begun n ds w) → from_row n ≡ first_row p k
  first_so k n ds w e = let m = (made k n ds w e).made in let node = m.node [] in first_place p [] k node.0 node.1 n m.places

  leaves_begun : (k : ℕ) (n : Node) (ds : List V) (w : Origin V F) → at h.parts k ≡ Some (Begun n ds w) → LeavesRun told p (lines_of h.moves) d0.files home_of stays_of k ds
  leaves_begun k n ds w e =
      let m = (made k n ds w e).made in
      let c = is_back k n ds w e in
      let j = job_of view told P p h.parts h.progress receiver tale made c.x n ds w c.e c.back in
      let first = first_so k n ds w e in
      let count = m.is_of.supplied.count in
      let home_is : j.home ≡ home_of k = ap (λ (z : Rested V). z.home) (sym c.is) in
      let stays_is : own_of told (rest_of view told P p h.parts h.progress receiver tale made c.x (Came n ds w c.e) c.back) ≡ stays_of k = ap (own_of told) (sym c.is) in
      record {
        same = subst (λ w. AreSame told w (first_row p k) ds) home_is (subst (λ f. AreSame told j.home f ds) first j.visited.same);
        still = λ q l u. subst (λ w. IsAtRest (w q)) home_is (j.visited.still q (omega (arith, l, first), omega (arith, u, first, count)));
        each = subst (λ w. IsPermutation (map w (range_with_len (first_row p k) (length ds))) (stays_of k)) home_is
            (subst (λ l. IsPermutation (map j.home (range_with_len (first_row p k) (length ds))) l) stays_is
            (subst (λ f. IsPermutation (map j.home (range_with_len f (length ds))) (own_of told (rest_of view told P p h.parts h.progress receiver tale made c.x (Came n ds w c.e) c.back))) first j.visited.each));
      }

  pub number_in : (k : ℕ) → IsAmong k (map (λ z. z.number) zs) → HasCome tale k ⊎ (at tale.fates k ≡ Some tales.Fate.Unmade)
  number_in k m = (h.streams.numbers k).0 (subst (λ l. IsAmong k l) numbers m)

  fates_apart : (x y : tales.Fate) (k : ℕ) → at tale.fates k ≡ Some x → at tale.fates k ≡ Some y → x ≡ y
  fates_apart x y k a c = let s : Some x ≡ Some y = sym a ∙ c in cc

  -- nothing is left of a stream that was passed over
  pub none_left : (k : ℕ) → at tale.fates k ≡ Some tales.Fate.Skipped → stays_of k ≡ []
  none_left k e =
      ap (own_of told) (named_none zs k (λ m. ⊎_elim
      (λ c. absurd (let f : tales.Fate.Begun ≡ tales.Fate.Skipped = fates_apart tales.Fate.Begun tales.Fate.Skipped k (come_begun k c) e in cc))
      (λ u. absurd (let f : tales.Fate.Unmade ≡ tales.Fate.Skipped = fates_apart tales.Fate.Unmade tales.Fate.Skipped k u e in cc))
      (number_in k m)))

  unmade_of : (k : ℕ) (ds : List V) → at h.parts k ≡ Some (Unmade ds) → (g : Gone S V F) → IsAmong g h.streams.gone → number_of g ≡ k → stays_of k ≡ map told ds
  unmade_of k ds e (Came m es v je) among same =
      let r = rest_among view told P p h.parts h.progress receiver tale made left h.streams.gone h.streams.kept (Came m es v je) among in
      absurd (begun_unmade m es ds v (sym r.1.begun ∙ (ap (at h.parts) same ∙ e)))
  unmade_of k ds e (Missed j es) among same =
      let r = rest_among view told P p h.parts h.progress receiver tale made left h.streams.gone h.streams.kept (Missed j es) among in
      let eq : es ≡ ds = same_unmade es ds (sym r.1.0 ∙ (ap (at h.parts) same ∙ e)) in
      ap (own_of told) (ap (named zs) (sym same) ∙ named_is zs (rest_of view told P p h.parts h.progress receiver tale made r.0 (Missed j es) r.1) zs_apart r.2) ∙ ap (map told) eq

  pub leaves : (k : ℕ) (x : Part V F) → at h.parts k ≡ Some x → Left_so k x
  leaves k (Begun n ds w) e = leaves_begun k n ds w e
  leaves k Skipped e = none_left k (fate_at k Skipped e)
  leaves k (Unmade ds) e =
      let m = (h.streams.numbers k).1 (inr (fate_at k (Unmade ds) e)) in
      let g = among_map number_of k h.streams.gone m in
      unmade_of k ds e g.0 g.1 g.2
