-- Runs that may have been left, beside runs in which nothing is left, through a stream's steps.
use Rattle.std.proofs.Common.{◌≡◌, ◌≢◌, ◌⊎◌, ℕ, ◌<◌, ◌≤◌, List, ◌++◌, inl, inr, take, length, Option, Some, None, refl, sym, ◌∙◌, ap, subst, ⊎_elim, arith, append_assoc, length-append}
use Rattle.std.proofs.lemmas.List.{take_all, take-append-le}
use Rattle.chunk_core.specs.Elements.{Element}
use Rattle.chunk_core.specs.Feed.{Given}
use Rattle.chunk_core.specs.Outcomes.{End, Done, Fault, Cut, Outcomes}
use Rattle.chunk_core.specs.declared.code.Code.{Code}
use Rattle.chunk_core.specs.declared.code.Code.TheVariants as code
use Rattle.device_port.specs.Device.{DeviceTold}
use Rattle.pull_nodes.specs.Laws.{IsNoDeviceFault}
use Rattle.pull_nodes.specs.Plain.{IsFront}
use Rattle.pull_nodes.specs.Runs.{Beside, Follows, GivesBy, Merged, OpensThen, OrLeft, Piped, Taken, Written, Zipped, end_by_fault}
use Rattle.pull_nodes.proofs.Fronts.{front_same, take_front}
use Rattle.pull_nodes.proofs.Steady.{SteadyBy}
use Rattle.joined_runs.proofs.Reading.{IsCountedBy, counted_as, fault_cut, fault_done, fault_is}

-- a front of the elements of a run
abbrev pub IsFrontOfRun : Outcomes → List Element → Type 0
IsFrontOfRun I ys = (zs : List Element) × (g : End) × I zs g × IsFront ys zs

-- each run of A that wasn't left is one of I, and what any gives is a front of what one of I gives
pub record Nears (A I : Outcomes) : Type 0 where
  pub some : (zs : List Element) × (g : End) × I zs g
  pub whole : (ys : List Element) (e : End) → A ys e → e ≢ Cut → I ys e
  pub front : (ys : List Element) (e : End) → A ys e → IsFrontOfRun I ys

pub front_then : (xs ys zs : List Element) → IsFront xs ys → IsFront ys zs → IsFront xs zs
front_then xs ys zs f g = (f.0 ++ g.0, g.1 ∙ (ap (λ l. l ++ g.0) f.1 ∙ append_assoc xs f.0 g.0))

pub done_cut : Done ≢ Cut
done_cut e = cc

-- a part that may be left
pub left_nears : (Idle : Type 0) (A I : Outcomes) → Nears A I → Nears (OrLeft Idle A) I
left_nears Idle A I h = record { some = h.some; whole = whole; front = front }
  where
    whole : (ys : List Element) (e : End) → OrLeft Idle A ys e → e ≢ Cut → I ys e
    whole ys e (inl r) n = h.whole ys e r n
    whole ys e (inr x) n = absurd (n x.0)

    front : (ys : List Element) (e : End) → OrLeft Idle A ys e → IsFrontOfRun I ys
    front ys e (inl r) = h.front ys e r
    front ys e (inr (c, inl (none, idle))) = (h.some.0, h.some.1, h.some.2, (h.some.0, ap (λ l. l ++ h.some.0) (sym none)))
    front ys e (inr (c, inr (more, g, r))) = let f = h.front (ys ++ more) g r in (f.0, f.1, f.2, front_then ys (ys ++ more) f.0 (more, refl) f.3)

-- a device that is opened, of which no open failed
pub opens_nears : (d : DeviceTold) (Idle : Type 0) (A I : Outcomes) → d.open_faults ≡ 0 → Nears A I → Nears (OpensThen d A Idle) I
opens_nears d Idle A I calm h = record { some = h.some; whole = whole; front = front }
  where
    whole : (ys : List Element) (e : End) → OpensThen d A Idle ys e → e ≢ Cut → I ys e
    whole ys e (inl r) n = h.whole ys e r.2 n
    whole ys e (inr r) n = absurd (omega (arith, calm, r.1))

    front : (ys : List Element) (e : End) → OpensThen d A Idle ys e → IsFrontOfRun I ys
    front ys e (inl r) = h.front ys e r.2
    front ys e (inr r) = absurd (omega (arith, calm, r.1))

-- the first elements of a part
module _ (n : ℕ) (A I : Outcomes) (h : Nears A I) where
  within_or : (a b : ℕ) → (a ≤ b) ⊎ (b < a)
  within_or a b = grind arith

  -- of a list with enough elements, as far as it goes in front of another
  full : (xs ys : List Element) → IsFrontOfRun I xs → n ≤ length xs → ys ≡ take n xs → Taken n I ys Done
  full xs ys f l is =
      let long = ap length f.3.1 in
      let sum = length-append xs f.3.0 in
      (f.0, f.1, f.2, inl (omega (arith, l, long, sum), is ∙ (sym (take-append-le n xs f.3.0 l) ∙ ap (take n) (sym f.3.1)), refl))

  front_of_taken : (ys : List Element) → length ys < n → IsFrontOfRun I ys → IsFrontOfRun (Taken n I) ys
  front_of_taken ys l f =
      ⊎_elim
      (λ (m : n ≤ length f.0). (
        take n f.0,
        Done,
        (f.0, f.1, f.2, inl (m, refl, refl)),
        subst (λ xs. IsFront xs (take n f.0)) (take_all (length ys) ys (omega arith)) (subst (λ zs. IsFront (take (length ys) ys) (take n zs)) (sym f.3.1) (take_front (length ys) n ys f.3.0 (omega (arith, l)) (omega arith))),
      ))
      (λ (m : length f.0 < n). (f.0, f.1, (f.0, f.1, f.2, inr (m, refl, refl)), f.3))
      (within_or n (length f.0))

  pub taken_nears : Nears (Taken n A) (Taken n I)
  taken_nears = record { some = some; whole = whole; front = front }
    where
      some : (zs : List Element) × (g : End) × Taken n I zs g
      some = let s = h.some in ⊎_elim (λ (m : n ≤ length s.0). (take n s.0, Done, (s.0, s.1, s.2, inl (m, refl, refl)))) (λ (m : length s.0 < n). (s.0, s.1, (s.0, s.1, s.2, inr (m, refl, refl)))) (within_or n (length s.0))

      whole : (ys : List Element) (e : End) → Taken n A ys e → e ≢ Cut → Taken n I ys e
      whole ys e (xs, g, r, inl (l, is, d)) c = subst (λ x. Taken n I ys x) (sym d) (full xs ys (h.front xs g r) l is)
      whole ys e (xs, g, r, inr (l, is, d)) c = (xs, g, h.whole xs g r (λ k. c (d ∙ k)), inr (l, is, d))

      front : (ys : List Element) (e : End) → Taken n A ys e → IsFrontOfRun (Taken n I) ys
      front ys e (xs, g, r, inl (l, is, d)) = (ys, Done, full xs ys (h.front xs g r) l is, front_same ys)
      front ys e (xs, g, r, inr (l, is, d)) = subst (λ x. IsFrontOfRun (Taken n I) x) (sym is) (front_of_taken xs l (h.front xs g r))

-- what goes through a pipe
module _ (part all : List Element → Given) (s : SteadyBy part all) (A I : Outcomes) (h : Nears A I) where
  -- whatever came, something is given
  gives_some : (o : Option Code) (zs : List Element) (g : End) → (us : List Element) × (k : End) × GivesBy o part all zs g us k
  gives_some (Some c) zs g = ((part zs).list, Fault c, (refl, refl))
  gives_some None zs Done = ((all zs).list, end_by_fault (all zs).fault Done, (refl, refl))
  gives_some None zs (Fault c) = ((part zs).list, Fault c, (refl, refl))
  gives_some None zs Cut = ((part zs).list, Cut, (refl, refl))

  -- what was given of it so far is a front
  gives_more : (o : Option Code) (zs : List Element) (g : End) → (part zs).fault ≡ o → (us : List Element) × (k : End) × GivesBy o part all zs g us k × IsFront (part zs).list us
  gives_more (Some c) zs g e = ((part zs).list, Fault c, (refl, refl), front_same (part zs).list)
  gives_more None zs Done e = ((all zs).list, end_by_fault (all zs).fault Done, (refl, refl), s.ends zs e)
  gives_more None zs (Fault c) e = ((part zs).list, Fault c, (refl, refl), front_same (part zs).list)
  gives_more None zs Cut e = ((part zs).list, Cut, (refl, refl), front_same (part zs).list)

  -- a fault of the pipe itself stays where more comes
  own_fault : (c : Code) (xs ys : List Element) (e : End) → IsFrontOfRun I xs → (part xs).fault ≡ Some c → ys ≡ (part xs).list → e ≡ Fault c → Piped part all I ys e
  own_fault c xs ys e f is list end =
      let same : part f.0 ≡ part xs = ap part f.3.1 ∙ (s.stops xs f.3.0 c is).0 in
      (f.0, f.1, f.2, subst (λ o. GivesBy o part all f.0 f.1 ys e) (sym (ap (λ (g : Given). g.fault) same ∙ is)) (list ∙ ap (λ (g : Given). g.list) (sym same), end))

  pub piped_nears : Nears (Piped part all A) (Piped part all I)
  piped_nears = record { some = some; whole = whole; front = front }
    where
      some : (zs : List Element) × (g : End) × Piped part all I zs g
      some = let z = h.some in let x = gives_some (part z.0).fault z.0 z.1 in (x.0, x.1, (z.0, z.1, z.2, x.2))

      whole_by : (o : Option Code) (xs ys : List Element) (g e : End) → (part xs).fault ≡ o → A xs g → GivesBy o part all xs g ys e → e ≢ Cut → Piped part all I ys e
      whole_by (Some c) xs ys g e is r q n = own_fault c xs ys e (h.front xs g r) is q.0 q.1
      whole_by None xs ys Done e is r q n = (xs, Done, h.whole xs Done r done_cut, subst (λ o. GivesBy o part all xs Done ys e) (sym is) q)
      whole_by None xs ys (Fault c) e is r q n = (xs, Fault c, h.whole xs (Fault c) r (fault_cut c), subst (λ o. GivesBy o part all xs (Fault c) ys e) (sym is) q)
      whole_by None xs ys Cut e is r q n = absurd (n q.1)

      whole : (ys : List Element) (e : End) → Piped part all A ys e → e ≢ Cut → Piped part all I ys e
      whole ys e (xs, g, r, q) n = whole_by (part xs).fault xs ys g e refl r q n

      front_by : (o : Option Code) (xs ys : List Element) (g e : End) → (part xs).fault ≡ o → A xs g → GivesBy o part all xs g ys e → IsFrontOfRun (Piped part all I) ys
      front_by (Some c) xs ys g e is r q = (ys, e, own_fault c xs ys e (h.front xs g r) is q.0 q.1, front_same ys)
      front_by None xs ys Done e is r q = (ys, e, (xs, Done, h.whole xs Done r done_cut, subst (λ o. GivesBy o part all xs Done ys e) (sym is) q), front_same ys)
      front_by None xs ys (Fault c) e is r q = (ys, e, (xs, Fault c, h.whole xs (Fault c) r (fault_cut c), subst (λ o. GivesBy o part all xs (Fault c) ys e) (sym is) q), front_same ys)
      front_by None xs ys Cut e is r q =
          let f = h.front xs Cut r in
          let grown : IsFront (part xs).list (part f.0).list = subst (λ zs. IsFront (part xs).list (part zs).list) (sym f.3.1) (s.grows xs f.3.0 is) in
          let x = gives_more (part f.0).fault f.0 f.1 refl in
          (x.0, x.1, (f.0, f.1, f.2, x.2), subst (λ l. IsFront l x.0) (sym q.0) (front_then (part xs).list (part f.0).list x.0 grown x.3))

      front : (ys : List Element) (e : End) → Piped part all A ys e → IsFrontOfRun (Piped part all I) ys
      front ys e (xs, g, r, q) = front_by (part xs).fault xs ys g e refl r q

-- Faults.

-- a fault of A is counted so
abbrev pub Shows : ((DeviceTold → ℕ) → Type 0) → Outcomes → Type 0
Shows X A = (ys : List Element) (c : Code) → A ys (Fault c) → IsCountedBy X c

module _ (X : (DeviceTold → ℕ) → Type 0) where
  no_device : (c : Code) → IsNoDeviceFault (Some c) → IsCountedBy X c
  no_device code.Open n = absurd (n.opening refl)
  no_device code.Read n = absurd (n.reading refl)
  no_device code.Write n = absurd (n.writing refl)
  no_device c n = tt

  module _ (A : Outcomes) (h : Shows X A) where
    pub left_shows : (Idle : Type 0) → Shows X (OrLeft Idle A)
    left_shows Idle ys c (inl r) = h ys c r
    left_shows Idle ys c (inr x) = absurd (fault_cut c x.0)

    -- a device that could not be opened is counted
    pub opens_shows : (d : DeviceTold) → (0 < d.open_faults → IsCountedBy X code.Open) → (Idle : Type 0) → Shows X (OpensThen d A Idle)
    opens_shows d k Idle ys c (inl r) = h ys c r.2
    opens_shows d k Idle ys c (inr r) = counted_as X c code.Open (fault_is c code.Open r.3) (k (omega (arith, r.1)))

    -- and so is one that could not be written
    pub written_shows : (d : DeviceTold) → (0 < d.write_faults → IsCountedBy X code.Write) → Shows X (Written d A)
    written_shows d k ys c (xs, g, r, none, inl (calm, told, is)) = h xs c (subst (λ x. A xs x) (sym is) r)
    written_shows d k ys c (xs, g, r, none, inr (failed, told, is)) = counted_as X c code.Write (fault_is c code.Write is) (k (omega (arith, failed)))

    pub taken_shows : (n : ℕ) → Shows X (Taken n A)
    taken_shows n ys c (xs, g, r, inl (l, is, e)) = absurd (fault_done c e)
    taken_shows n ys c (xs, g, r, inr (l, is, e)) = h xs c (subst (λ x. A xs x) (sym e) r)

    module _ (part all : List Element → Given) (own : (xs : List Element) → IsNoDeviceFault (part xs).fault × IsNoDeviceFault (all xs).fault) where
      at_end : (o : Option Code) (c : Code) → IsNoDeviceFault o → Fault c ≡ end_by_fault o Done → IsCountedBy X c
      at_end None c n e = absurd (fault_done c e)
      at_end (Some k) c n e = counted_as X c k (fault_is c k e) (no_device k n)

      piped_by : (o : Option Code) (xs ys : List Element) (g : End) (c : Code) → (part xs).fault ≡ o → A xs g → GivesBy o part all xs g ys (Fault c) → IsCountedBy X c
      piped_by (Some k) xs ys g c is r q = counted_as X c k (fault_is c k q.1) (no_device k (subst (λ o. IsNoDeviceFault o) is (own xs).0))
      piped_by None xs ys Done c is r q = at_end (all xs).fault c (own xs).1 q.1
      piped_by None xs ys (Fault k) c is r q = counted_as X c k (fault_is c k q.1) (h xs k r)
      piped_by None xs ys Cut c is r q = absurd (fault_cut c q.1)

      pub piped_shows : Shows X (Piped part all A)
      piped_shows ys c (xs, g, r, q) = piped_by (part xs).fault xs ys g c refl r q

  -- a side of a merge that failed wasn't left
  side_shows : (A : Outcomes) → Shows X A → (Idle : Type 0) (g : End) (xs : List Element) (c : Code) → Beside g A Idle xs (Fault c) → IsCountedBy X c
  side_shows A a Idle g xs c (inl r) = a xs c r
  side_shows A a Idle g xs c (inr (f, r)) = left_shows A a Idle xs c r

  module _ (A B : Outcomes) (a : Shows X A) (b : Shows X B) where
    pub follows_shows : (Begins : End → Type 0) (Idle : Type 0) → Shows X (Follows Begins A B Idle)
    follows_shows Begins Idle ys c (inl r) = a ys c r.0
    follows_shows Begins Idle ys c (inr (xs, zs, g, r, k, q, is)) = b zs c q

    pub zip_shows : Shows X (Zipped A B)
    zip_shows zs c (xs, ys, e, g, r, q, is, inl (l, ends)) = a xs c (subst (λ x. A xs x) (sym ends) r)
    zip_shows zs c (xs, ys, e, g, r, q, is, inr (l, ends)) = b ys c (subst (λ x. B ys x) (sym ends) q)

    pub merge_shows : (IdleA IdleB : Type 0) → Shows X (Merged A IdleA B IdleB)
    merge_shows IdleA IdleB zs c (xs, ys, e, g, r, q, w, inl ends) = side_shows A a IdleA g xs c (subst (λ x. Beside g A IdleA xs x) ends r)
    merge_shows IdleA IdleB zs c (xs, ys, e, g, r, q, w, inr ends) = side_shows B b IdleB e ys c (subst (λ x. Beside e B IdleB ys x) ends q)
