-- What the outer stream gives, what branches were given, and what pieces come to.
use Rattle.std.proofs.Common.{◌≡◌, ℕ, List, [], ◌∷◌, ◌++◌, map, length, flat_map, Some, IfSome, inl, inr, refl, sym, ap, ◌∙◌, subst, ⊎_elim, append_assoc, arith}
use Rattle.std.proofs.lemmas.List.{take_all}
use Rattle.chunk_core.specs.Elements.{Byte, Element, element_text, rendering_of}
use Rattle.chunk_core.specs.Outcomes.{Cut, Done, End, Fault}
use Rattle.device_port.specs.Device.{DeviceTold}
use Rattle.pull_nodes.specs.Runs.{OrLeft, OpensThen, Reads, FirstBytes, StopsReading}
use Rattle.chunk_core.specs.Texts.{Frame}
use Rattle.chunk_core.specs.declared.code.Code.TheVariants as code
use Rattle.chunk_core.specs.declared.code.How.TheVariants as how
use Rattle.pipeline_desc.specs.declared.step.Step.{Step}
use Rattle.run_rules.specs.Outputs.{IsReported, elements_in_pieces}
use Rattle.tee_rules.specs.Branches.{IsBranch}
use Rattle.tee_rules.specs.Reader.{ReaderRuns}

module _ (d : DeviceTold) (given : List Element) (bytes : List ℕ) (told : d.content ≡ Some bytes) where
  abbrev Whole : Type 0
  Whole = given ≡ map Byte bytes

  at_end : StopsReading d Done → d.at ≡ length bytes
  at_end s = subst (λ o. IfSome o (λ c. d.at ≡ length c)) told s.3

  read_all : FirstBytes d.content d.at given → d.at ≡ length bytes → Whole
  read_all f n = subst (λ o. FirstBytes o d.at given) told f ∙ ap (map Byte) (take_all d.at bytes (omega (arith, n)))

  reads : OrLeft (Unit {0}) (Reads d) given Done → Whole
  reads (inl r) = read_all r.0 (at_end r.1)
  reads (inr l) = absurd (let no : Done ≡ Cut = l.0 in cc)

  opens : OpensThen d (OrLeft (Unit {0}) (Reads d)) (Unit {0}) given Done → Whole
  opens (inl r) = reads r.2
  opens (inr f) = absurd (let no : Done ≡ Fault code.Open = f.3 in cc)

  -- the whole of a told content was given, where the outer stream is done
  pub whole_content : ReaderRuns d given Done → Whole
  whole_content (inl r, t) = opens r
  whole_content (inr l, t) = absurd (let no : Done ≡ Cut = l.0 in cc)

rendered_both : (xs ys : List Element) → rendering_of (xs ++ ys) ≡ rendering_of xs ++ rendering_of ys
rendered_both [] ys = refl
rendered_both (x ∷ xs) ys = ap (λ t. element_text x ++ t) (rendered_both xs ys) ∙ sym (append_assoc (element_text x) (rendering_of xs) (rendering_of ys))

-- the text of pieces is that of all their elements
pub pieces_text : (pieces : List (List Element)) → flat_map (λ t. t) (map rendering_of pieces) ≡ rendering_of (elements_in_pieces pieces)
pieces_text [] = refl
pieces_text (p ∷ ps) = ap (λ t. rendering_of p ++ t) (pieces_text ps) ∙ sym (rendered_both p (elements_in_pieces ps))

-- the outer stream is done only where its device had no fault
read_reads : (d : DeviceTold) (given : List Element) → OrLeft (Unit {0}) (Reads d) given Done → d.read_faults ≡ 0
read_reads d given (inl r) = r.1.2
read_reads d given (inr l) = absurd (let no : Done ≡ Cut = l.0 in cc)

read_opens : (d : DeviceTold) (given : List Element) → OpensThen d (OrLeft (Unit {0}) (Reads d)) (Unit {0}) given Done → d.read_faults ≡ 0
read_opens d given (inl r) = read_reads d given r.2
read_opens d given (inr f) = absurd (let no : Done ≡ Fault code.Open = f.3 in cc)

pub read_well : (d : DeviceTold) (given : List Element) → ReaderRuns d given Done → d.read_faults ≡ 0
read_well d given (inl r, t) = read_opens d given r
read_well d given (inr l, t) = absurd (let no : Done ≡ Cut = l.0 in cc)

-- only a run that is done is reported so
pub reported_done : (e : End) → IsReported e how.Done → e ≡ Done
reported_done Done r = refl
reported_done (Fault c) r = absurd (let no : how.Done ≡ how.Fault c = r in cc)
reported_done Cut r = absurd (⊎_elim (λ h. let no : how.Done ≡ how.Halted = h in cc) (λ m. let no : how.Done ≡ how.Memory = m in cc) r)

-- a branch that is done was given all, and the outer stream is done
module _ (given : List Element) (outer : End) (F : List Frame) (i : ℕ) (steps : List Step) (b : IsBranch given outer F i steps how.Done) where
  not_cut : b.end ≡ Cut → ⊥
  not_cut c = let no : Done ≡ Cut = sym b.printed.0 ∙ c in cc

  pub all_given : b.input ≡ given
  all_given = ⊎_elim (λ c. absurd (not_cut c)) (λ w. w.2) b.is_input.ended

  pub outer_done : outer ≡ Done
  outer_done = ⊎_elim (λ c. absurd (not_cut c)) (λ w. w.1) b.is_input.ended
