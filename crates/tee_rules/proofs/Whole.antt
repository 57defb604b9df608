-- A branch that is done printed what its steps give of the whole file.
use Rattle.std.proofs.Common.{◌≡◌, ℕ, ◌+◌, ◌≤◌, zero, suc, Bool, true, false, nat_eq, List, [], ◌∷◌, ◌++◌, map, filter, flat_map, Option, Some, None, IfSome, inl, refl, sym, ap, ◌∙◌, subst, ⊎_elim, append-nil, arith}
use Rattle.std.proofs.lemmas.Bool.Decides.{nat_tests}
use Rattle.std.proofs.lemmas.List.Elements.{filter-append}
use Rattle.std.specs.List.{AllByRecursion}
use Rattle.chunk_core.proofs.Each.{among_each}
use Rattle.chunk_core.proofs.Members.{among_cons, among_nil}
use Rattle.chunk_core.specs.Elements.{Byte, Element, rendering_of}
use Rattle.chunk_core.specs.Lists.{IsAmong}
use Rattle.chunk_core.specs.Outcomes.{Done, End}
use Rattle.chunk_core.specs.Texts.{Frame, payloads_of}
use Rattle.chunk_core.specs.declared.code.How.TheVariants as how
use Rattle.device_port.specs.Depot.{content_at}
use Rattle.pipeline_desc.specs.declared.step.Step.{Step}
use Rattle.chain_pipes.specs.Over.{over}
use Rattle.res_ledger.specs.declared.event.StreamNo.{StreamNo}
use Rattle.res_ledger.specs.declared.event.StreamNo.TheVariants.{Outer, Inner}
use Rattle.run_rules.specs.declared.end.EndOf.{EndOf}
use Rattle.run_rules.specs.Facts.{IsOver, at}
use Rattle.run_rules.specs.Outputs.{elements_in_pieces, payloads_by}
use Rattle.run_rules.specs.Work.{RunRecord, begun_frames}
use Rattle.tee_rules.specs.Branches.{AreBranches, IsBranch}
use Rattle.tee_rules.specs.Reader.{ReaderRuns}
use Rattle.tee_rules.specs.Tee.{Teed, TeesFile}
use Rattle.tee_rules.specs.Whole.{IsDone, PrintsWhole}
use Rattle.tee_rules.proofs.Given.{all_given, outer_done, pieces_text, whole_content}

-- the number of a stream that isn't the outer one
abbrev number_of : StreamNo → ℕ
number_of Outer = 0
number_of (Inner i) = i

same_number : (i j : ℕ) → Inner i ≡ Inner j → i ≡ j
same_number i j e = ap number_of e

not_outer : (i : ℕ) → Inner i ≡ Outer → ⊥
not_outer i e = cc

module _ (given : List Element) (outer : End) (F : List Frame) (steps : List Step) where
  -- the ends of the branches from k on have no earlier number
  later : (k n : ℕ) (bs : List (List Step)) (es : List EndOf) (e : EndOf) → AreBranches given outer F k bs es → IsAmong e es → e.who ≡ Inner n → k ≤ n
  later k n [] es e b m w = absurd (among_nil (subst (IsAmong e) b m))
  later k n (s ∷ bs) [] e b m w = absurd b
  later k n (s ∷ bs) (x ∷ es) e b m w =
      ⊎_elim (λ i. let same : k ≡ n = same_number k n (sym b.0 ∙ (sym (ap (λ (y : EndOf). y.who) i) ∙ w)) in omega (arith, same)) (λ r. let l = later (k + 1) n bs es e b.2 r w in omega (arith, l)) (among_cons m)

  -- the branch that is the j-th behind k, and is done
  find : (k n j : ℕ) (bs : List (List Step)) (es : List EndOf) (e : EndOf) → n ≡ k + j → AreBranches given outer F k bs es → at bs j ≡ Some steps → IsAmong e es → e.who ≡ Inner n → e.how ≡ how.Done → IsBranch given outer F n steps how.Done
  find k n j [] es e q b a m w d = absurd (among_nil (subst (IsAmong e) b m))
  find k n j (s ∷ bs) [] e q b a m w d = absurd b
  find k n zero (s ∷ bs) (x ∷ es) e q b a m w d =
      ⊎_elim (λ i. subst (λ h. IsBranch given outer F n steps h) (sym (ap (λ (y : EndOf). y.how) i) ∙ d) (subst (λ t. IsBranch given outer F n t x.how) (let is : Some s ≡ Some steps = a in cc) (subst (λ y. IsBranch given outer F y s x.how) (let is : k ≡ n = omega (arith, q) in is) b.1)))
      (λ r. absurd (let l = later (k + 1) n bs es e b.2 r w in omega (arith, q, l))) (among_cons m)
  find k n (suc j) (s ∷ bs) (x ∷ es) e q b a m w d =
      ⊎_elim (λ i. absurd (let same : k ≡ n = same_number k n (sym b.0 ∙ (sym (ap (λ (y : EndOf). y.who) i) ∙ w)) in omega (arith, same, q)))
      (λ r. find (k + 1) n j bs es e (omega (arith, q)) b.2 a r w d) (among_cons m)

-- payloads one after another
payloads_joined : (F : List Frame) → flat_map (λ (f : Frame). f.payload) F ≡ flat_map (λ t. t) (map (λ (f : Frame). f.payload) F)
payloads_joined [] = refl
payloads_joined (f ∷ F) = ap (λ t. f.payload ++ t) (payloads_joined F)

-- a frame of another stream counts for nothing
module _ (i : ℕ) where
  dropped : (f : Frame) (is : Bool) → nat_eq f.stream i ≡ is → (f.stream ≡ i → ⊥) → filter (λ (x : Frame). nat_eq x.stream i) (f ∷ []) ≡ []
  dropped f true q other = absurd (other (grind (arith, nat_tests, q)))
  dropped f false q other = rw q refl

  without_cut : (F : List Frame) (o : Option Frame) → IfSome o (λ f. f.stream ≡ i → ⊥) → payloads_by i (F ++ elim o [ Some f ↦ f ∷ [] | None ↦ [] ]) ≡ payloads_by i F
  without_cut F None other = ap (payloads_by i) (append-nil F)
  without_cut F (Some f) other =
      ap (map (λ (x : Frame). x.payload)) (filter-append (λ (x : Frame). nat_eq x.stream i) F (f ∷ []) ∙ (ap (λ l. filter (λ (x : Frame). nat_eq x.stream i) F ++ l) (dropped f (nat_eq f.stream i) refl other) ∙ append-nil (filter (λ (x : Frame). nat_eq x.stream i) F)))

module _ (path : List ℕ) (branches : List (List Step)) (c : RunRecord) (bytes : List ℕ) (i : ℕ) (steps : List Step) (told : content_at c.depot_old.files path ≡ Some bytes) (there : at branches i ≡ Some steps) (done : IsDone c i) where
  module _ (r : Teed path branches c) where
    e : EndOf
    e = done.0

    inside : IsAmong done.0 r.inner
    inside = ⊎_elim (λ o. absurd (not_outer i (sym done.2 ∙ ap (λ (x : EndOf). x.who) o))) (λ m. m) (among_cons (subst (IsAmong done.0) r.ends done.1))

    b : IsBranch r.given r.end (begun_frames c) i steps how.Done
    b = find r.given r.end (begun_frames c) steps 0 i i branches r.inner done.0 (omega arith) r.each there inside done.2 done.3

    whole : r.given ≡ map Byte bytes
    whole = whole_content r.home r.given bytes (r.row.content ∙ told) (subst (ReaderRuns r.home r.given) (outer_done r.given r.end (begun_frames c) i steps b) r.reader.run)

    elements : elements_in_pieces b.pieces ≡ (over steps (map Byte bytes) Done).list
    elements = b.printed.2 ∙ (ap (λ xs. (over steps xs b.end).list) (all_given r.given r.end (begun_frames c) i steps b ∙ whole) ∙ ap (λ x. (over steps (map Byte bytes) x).list) b.printed.0)

    -- the frame that was begun last isn't this branch's
    others : (o : Option Frame) → IfSome o (λ f. AllByRecursion (λ (x : EndOf). x.who ≡ Inner f.stream → ¬ (IsOver x.how)) r.inner) → IfSome o (λ f. f.stream ≡ i → ⊥)
    others None u = tt
    others (Some f) u = λ s. among_each (λ (x : EndOf). x.who ≡ Inner f.stream → IsOver x.how → ⊥) done.0 r.inner u inside (done.2 ∙ ap Inner (sym s)) (inl done.3)

    prints : payloads_of i c.frames ≡ rendering_of (over steps (map Byte bytes) Done).list
    prints =
        payloads_joined (filter (λ (f : Frame). nat_eq f.stream i) c.frames)
        ∙ (ap (flat_map (λ t. t)) (sym (without_cut i c.frames c.cut (others c.cut r.unfinished)) ∙ b.frames)
        ∙ (pieces_text b.pieces ∙ ap rendering_of elements))

  of_run : TeesFile path branches c → payloads_of i c.frames ≡ rendering_of (over steps (map Byte bytes) Done).list
  of_run t = ⊎_elim (λ u. absurd (among_nil (subst (IsAmong done.0) u.ends done.1))) prints t.ran

pub prints_whole : PrintsWhole
prints_whole path branches c bytes i steps t told there done = of_run path branches c bytes i steps told there done t
