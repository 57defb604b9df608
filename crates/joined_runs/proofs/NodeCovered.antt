-- The runs of a node are covered by the devices of its places.
use Rattle.std.proofs.Common.{◌≡◌, ◌≢◌, ◌⊎◌, ℕ, ◌<◌, ◌≤◌, ◌^◌, List, [], ◌∷◌, ◌++◌, inl, inr, Option, Some, None, IfSome, refl, sym, ◌∙◌, subst, arith}
use Rattle.chunk_core.specs.Elements.{Element, elements, rendering_of}
use Rattle.chunk_core.specs.Lists.{IsAmong}
use Rattle.chunk_core.specs.Lists.IsAmong.{here, there}
use Rattle.chunk_core.specs.Outcomes.{End, Done, Fault, Cut, Outcomes}
use Rattle.chunk_core.specs.Tables.{Values}
use Rattle.chunk_core.specs.declared.code.Code.TheVariants as code
use Rattle.chunk_core.proofs.Filters.{among_right}
use Rattle.chunk_core.proofs.Members.{among_left}
use Rattle.device_port.specs.Device.{DeviceTold, faults_of}
use Rattle.pull_nodes.specs.Pipes.{all_of, part_of}
use Rattle.pull_nodes.specs.Runs.{Exactly, FirstBytes, Gives, IsFault, IsIdealRun, IsIdle, IsRun, IsUnwritten, OrLeft, Reads, ReadsWhole, ReadsWholeBy, any_leeway, no_leeway}
use Rattle.pull_nodes.specs.Shape.{AndOf, EachPlace, EachWrite, acquired_place, listed, used_place, written_place}
use Rattle.pull_nodes.specs.declared.node.Node.{Node}
use Rattle.pull_nodes.specs.declared.node.Node.TheVariants.{Nil, Emit, Raise, Read, Weak', Scope', Append', OnFault', Through', Take', Zip', Merge', Into'}
use Rattle.pull_nodes.proofs.Folds.{side_by_side}
use Rattle.pull_nodes.proofs.Fronts.{front_same}
use Rattle.pull_nodes.proofs.PipeLaws.{lawful_pipe}
use Rattle.joined_runs.proofs.Reading.{counted_as, counted_more, fault_done, fault_is, front_read, some_read, stops_shows, whole_is}
use Rattle.joined_runs.proofs.SideRuns.{done_not_cut, done_or_not, fault_not_cut, fault_or_not, follows_nears, merge_nears, zip_nears}
use Rattle.joined_runs.proofs.StepRuns.{Nears, Shows, follows_shows, left_nears, left_shows, merge_shows, opens_nears, opens_shows, piped_nears, piped_shows, taken_nears, taken_shows, written_shows, zip_shows}

-- What holds of each place that is listed holds of each place.
pub each_listed : (own : Node → Option ℕ) (Q : ℕ → Type 0) (n : Node) → ((p : ℕ) → IsAmong p (listed own n) → Q p) → EachPlace own Q n
each_listed own Q =
    side_by_side (λ (ps : List ℕ) (T : Type 0). ((p : ℕ) → IsAmong p ps → Q p) → T) [] (Unit {0}) ◌++◌ (λ R S. R × S) _ (λ m R. AndOf Q (own m) R)
    (λ h. tt) (λ ps qs R S f g h. (f (λ p i. h p (among_left qs i)), g (λ p i. h p (among_right p ps qs i)))) (λ m ps R f h. at_own (own m) ps R f h)
  where
    at_own : (o : Option ℕ) (ps : List ℕ) (R : Type 0) → (((p : ℕ) → IsAmong p ps → Q p) → R) → ((p : ℕ) → IsAmong p (elim o [ Some q ↦ q ∷ [] | None ↦ [] ] ++ ps) → Q p) → AndOf Q o R
    at_own None ps R f h = f h
    at_own (Some q) ps R f h = (h q (here ps), f (λ p i. h p (there q i)))

-- A fault shows on a device of a place.

module _ (X : (DeviceTold → ℕ) → Type 0) (t : Values) (w : ℕ → DeviceTold) where
  -- the device of a place whose count rose is counted
  abbrev pub IsSeenAt : ℕ → Type 0
  IsSeenAt p = (n : DeviceTold → ℕ) → 0 < n (w p) → X n

  exactly_shows : (xs : List Element) → Shows X (Exactly xs Done)
  exactly_shows xs ys c r = absurd (fault_done c r.1)

  pub node_shows : (n : Node) → EachPlace acquired_place IsSeenAt n → EachPlace used_place IsSeenAt n → Shows X (Gives any_leeway t w n)
  node_shows Nil a u = exactly_shows []
  node_shows (Emit load) a u = exactly_shows (elements load)
  node_shows (Raise c) a u = λ ys k r. counted_as X k (code.Raised c) (fault_is k (code.Raised c) r.1) tt
  node_shows (Read p) a u = λ ys c r. counted_more (λ n. 0 < n (w p)) X u.0 c (stops_shows (w p) c r.1)
  node_shows (Weak' p x m) a u = opens_shows X (OrLeft (IsIdle w m) (Gives any_leeway t w m)) (left_shows X (Gives any_leeway t w m) (node_shows m a.1 u) (IsIdle w m)) (w p) (a.0 (λ d. d.open_faults)) (IsIdle w m)
  node_shows (Scope' x m) a u = left_shows X (Gives any_leeway t w m) (node_shows m a u) (IsIdle w m)
  node_shows (Append' x m y n) a u =
      follows_shows X (OrLeft (IsIdle w m) (Gives any_leeway t w m)) (OrLeft (IsIdle w n) (Gives any_leeway t w n)) (left_shows X (Gives any_leeway t w m) (node_shows m a.0 u.0) (IsIdle w m)) (left_shows X (Gives any_leeway t w n) (node_shows n a.1 u.1) (IsIdle w n))
      (λ g. g ≡ Done) (IsIdle w n)
  node_shows (OnFault' x m y n) a u =
      follows_shows X (OrLeft (IsIdle w m) (Gives any_leeway t w m)) (OrLeft (IsIdle w n) (Gives any_leeway t w n)) (left_shows X (Gives any_leeway t w m) (node_shows m a.0 u.0) (IsIdle w m)) (left_shows X (Gives any_leeway t w n) (node_shows n a.1 u.1) (IsIdle w n))
      IsFault (IsIdle w n)
  node_shows (Through' x m q) a u = piped_shows X (OrLeft (IsIdle w m) (Gives any_leeway t w m)) (left_shows X (Gives any_leeway t w m) (node_shows m a u) (IsIdle w m)) (part_of t q) (all_of t q) (lawful_pipe t q).own
  node_shows (Take' k x m) a u = taken_shows X (OrLeft (IsIdle w m) (Gives any_leeway t w m)) (left_shows X (Gives any_leeway t w m) (node_shows m a u) (IsIdle w m)) k
  node_shows (Zip' x m y n) a u =
      zip_shows X (OrLeft (IsIdle w m) (Gives any_leeway t w m)) (OrLeft (IsIdle w n) (Gives any_leeway t w n)) (left_shows X (Gives any_leeway t w m) (node_shows m a.0 u.0) (IsIdle w m)) (left_shows X (Gives any_leeway t w n) (node_shows n a.1 u.1) (IsIdle w n))
  node_shows (Merge' x m y n) a u =
      merge_shows X (OrLeft (IsIdle w m) (Gives any_leeway t w m)) (OrLeft (IsIdle w n) (Gives any_leeway t w n)) (left_shows X (Gives any_leeway t w m) (node_shows m a.0 u.0) (IsIdle w m)) (left_shows X (Gives any_leeway t w n) (node_shows n a.1 u.1) (IsIdle w n))
      (IsIdle w m) (IsIdle w n)
  node_shows (Into' p x m) a u = written_shows X (OrLeft (IsIdle w m) (Gives any_leeway t w m)) (left_shows X (Gives any_leeway t w m) (node_shows m a u.1) (IsIdle w m)) (w p) (u.0 (λ d. d.write_faults))

-- What a node gives where no device of its places has a fault is what it gives of devices like these.

-- the node writes at no place
abbrev pub WritesNothing : Node → Type 0
WritesNothing n = EachWrite (λ p. ⊥) n

-- so anything holds of each place that it writes
pub each_nothing : (P : ℕ → Type 0) (n : Node) → WritesNothing n → EachWrite P n
each_nothing P =
    side_by_side (λ (R : Type 0) (S : Type 0). R → S) (Unit {0}) (Unit {0}) (λ R S. R × S) (λ R S. R × S) (λ m R. AndOf (λ p. ⊥) (written_place m) R) (λ m R. AndOf P (written_place m) R)
    (λ x. x) (λ R R' S S' f g x. (f x.0, g x.1)) (λ m R S f x. at_own (written_place m) R S f x)
  where
    at_own : (o : Option ℕ) (R S : Type 0) → (R → S) → AndOf (λ p. ⊥) o R → AndOf P o S
    at_own None R S f x = f x
    at_own (Some p) R S f x = absurd x.0

-- what is written is written outside of all else
abbrev pub WritesOutside : Node → Type 0
WritesOutside (Weak' p x a) = WritesOutside a
WritesOutside (Into' p x a) = WritesNothing a
WritesOutside n = WritesNothing n

pub outside : (n : Node) → WritesNothing n → WritesOutside n
outside (Weak' p x a) q = outside a q
outside (Into' p x a) q = absurd q.0
outside n q = q

-- two devices have the same content, are at the same place, and were written the same
pub record AreAlike (d f : DeviceTold) : Type 0 where
  pub content : f.content ≡ d.content
  pub at : f.at ≡ d.at
  pub written : f.written ≡ d.written

-- no act failed on the device, which was read up to the limit at most
pub record IsCalm (d : DeviceTold) : Type 0 where
  pub faults : faults_of d ≡ 0
  pub within : d.at ≤ 2 ^ 40

nears_more : (A I J : Outcomes) → ((ys : List Element) (e : End) → I ys e → J ys e) → Nears A I → Nears A J
nears_more A I J f h = record {
  some = let s = h.some in (s.0, s.1, f s.0 s.1 s.2);
  whole = λ ys e r n. f ys e (h.whole ys e r n);
  front = λ ys e r. let s = h.front ys e r in (s.0, s.1, f s.0 s.1 s.2, s.3);
}

whole_alike : (d f : DeviceTold) → AreAlike d f → (ys : List Element) (e : End) → ReadsWhole d ys e → ReadsWhole f ys e
whole_alike d f h ys e r = subst (λ o. ReadsWholeBy o f ys e) (sym h.content) (by_content d.content r)
  where
    by_content : (o : Option (List ℕ)) → ReadsWholeBy o d ys e → ReadsWholeBy o f ys e
    by_content (Some c) r = r
    by_content None r = subst (λ n. FirstBytes None n ys × (((n < 2 ^ 40) × (e ≡ Done)) ⊎ ((n ≡ 2 ^ 40) × (e ≡ Fault code.Endless)))) (sym h.at) r

read_nears : (d : DeviceTold) → IsCalm d → Nears (Reads d) (ReadsWhole d)
read_nears d h = record {
  some = some_read d.content d h.within;
  whole = λ ys e r n. whole_is d ys e h.faults n r;
  front = λ ys e r. front_read d.content d ys h.within r.0;
}

exactly_nears : (xs : List Element) (g : End) → Nears (Exactly xs g) (Exactly xs g)
exactly_nears xs g = record { some = (xs, g, (refl, refl)); whole = λ ys e r n. r; front = λ ys e r. (ys, e, r, front_same ys) }

module _ (t : Values) (w u : ℕ → DeviceTold) (alike : (p : ℕ) → AreAlike (w p) (u p)) where
  -- each part may be left, and gives nearly what it gives where nothing is left
  pub node_nears : (n : Node) → WritesNothing n → EachPlace acquired_place (λ p. IsCalm (w p)) n → EachPlace used_place (λ p. IsCalm (w p)) n → Nears (OrLeft (IsIdle w n) (Gives any_leeway t w n)) (Gives no_leeway t u n)
  node_nears Nil q a c = left_nears (IsIdle w Nil) (Exactly [] Done) (Exactly [] Done) (exactly_nears [] Done)
  node_nears (Emit load) q a c = left_nears (IsIdle w (Emit load)) (Exactly (elements load) Done) (Exactly (elements load) Done) (exactly_nears (elements load) Done)
  node_nears (Raise k) q a c = left_nears (IsIdle w (Raise k)) (Exactly [] (Fault (code.Raised k))) (Exactly [] (Fault (code.Raised k))) (exactly_nears [] (Fault (code.Raised k)))
  node_nears (Read p) q a c = left_nears (IsIdle w (Read p)) (Reads (w p)) (ReadsWhole (u p)) (nears_more (Reads (w p)) (ReadsWhole (w p)) (ReadsWhole (u p)) (whole_alike (w p) (u p) (alike p)) (read_nears (w p) c.0))
  node_nears (Weak' p x m) q a c = let f = a.0.faults in left_nears (IsIdle w m) _ (Gives no_leeway t u m) (opens_nears (w p) (IsIdle w m) (OrLeft (IsIdle w m) (Gives any_leeway t w m)) (Gives no_leeway t u m) (omega (arith, f)) (node_nears m q a.1 c))
  node_nears (Scope' x m) q a c = left_nears (IsIdle w m) (OrLeft (IsIdle w m) (Gives any_leeway t w m)) (Gives no_leeway t u m) (node_nears m q a c)
  node_nears (Append' x m y n) q a c =
      left_nears (IsIdle w (Append' x m y n)) _ _
      (follows_nears (λ g. g ≡ Done) done_or_not done_not_cut (OrLeft (IsIdle w m) (Gives any_leeway t w m)) (OrLeft (IsIdle w n) (Gives any_leeway t w n)) (Gives no_leeway t u m) (Gives no_leeway t u n) (IsIdle w n) (IsIdle u n)
      (node_nears m q.0 a.0 c.0) (node_nears n q.1 a.1 c.1) (each_nothing (λ p. IsUnwritten (u p)) n q.1))
  node_nears (OnFault' x m y n) q a c =
      left_nears (IsIdle w (OnFault' x m y n)) _ _
      (follows_nears IsFault fault_or_not fault_not_cut (OrLeft (IsIdle w m) (Gives any_leeway t w m)) (OrLeft (IsIdle w n) (Gives any_leeway t w n)) (Gives no_leeway t u m) (Gives no_leeway t u n) (IsIdle w n) (IsIdle u n)
      (node_nears m q.0 a.0 c.0) (node_nears n q.1 a.1 c.1) (each_nothing (λ p. IsUnwritten (u p)) n q.1))
  node_nears (Through' x m p) q a c =
      left_nears (IsIdle w m) _ _ (piped_nears (part_of t p) (all_of t p) (lawful_pipe t p).steady (OrLeft (IsIdle w m) (Gives any_leeway t w m)) (Gives no_leeway t u m) (node_nears m q a c))
  node_nears (Take' k x m) q a c = left_nears (IsIdle w m) _ _ (taken_nears k (OrLeft (IsIdle w m) (Gives any_leeway t w m)) (Gives no_leeway t u m) (node_nears m q a c))
  node_nears (Zip' x m y n) q a c =
      left_nears (IsIdle w (Zip' x m y n)) _ _
      (zip_nears (OrLeft (IsIdle w m) (Gives any_leeway t w m)) (OrLeft (IsIdle w n) (Gives any_leeway t w n)) (Gives no_leeway t u m) (Gives no_leeway t u n) (node_nears m q.0 a.0 c.0) (node_nears n q.1 a.1 c.1))
  node_nears (Merge' x m y n) q a c =
      left_nears (IsIdle w (Merge' x m y n)) _ _
      (merge_nears (OrLeft (IsIdle w m) (Gives any_leeway t w m)) (OrLeft (IsIdle w n) (Gives any_leeway t w n)) (Gives no_leeway t u m) (Gives no_leeway t u n) (IsIdle w m) (IsIdle w n) (IsIdle u m) (IsIdle u n) (node_nears m q.0 a.0 c.0) (node_nears n q.1 a.1 c.1))
  node_nears (Into' p x m) q a c = absurd q.0

  -- a run that was not left is one in which nothing is left
  pub node_whole : (n : Node) → WritesOutside n → EachPlace acquired_place (λ p. IsCalm (w p)) n → EachPlace used_place (λ p. IsCalm (w p)) n → (ys : List Element) (e : End) → IsRun t w n ys e → e ≢ Cut → IsIdealRun t u n ys e
  node_whole n q a c ys e (inr r) k = absurd (k r.0)
  node_whole (Weak' p x m) q a c ys e (inl (inl r)) k = node_whole m q a.1 c ys e r.2 k
  node_whole (Weak' p x m) q a c ys e (inl (inr r)) k = let f = a.0.faults in let t = r.1 in absurd (omega (arith, f, t))
  node_whole (Into' p x m) q a c ys e (inl (xs, g, r, none, inl (calm, told, is))) k =
      let d = alike p in
      (xs, subst (λ h. Gives no_leeway t u m xs h) (sym is) ((node_nears m q a c.1).whole xs g r (λ h. k (is ∙ h))), none, subst (λ (o : Option (List ℕ)). IfSome o (λ bytes. bytes ≡ rendering_of xs)) (sym d.written) told)
  node_whole (Into' p x m) q a c ys e (inl (xs, g, r, none, inr (failed, told, is))) k = let f = c.0.faults in absurd (omega (arith, f, failed))
  node_whole n q a c ys e (inl r) k = (node_nears n q a c).whole ys e (inl r) k
