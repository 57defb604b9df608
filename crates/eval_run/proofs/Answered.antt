-- What the results of groups are of the answer of one thread.
use Rattle.std.proofs.Common.{◌≡◌, ◌⊎◌, ℕ, suc, ◌+◌, inl, inr, List, [], ◌∷◌, ◌++◌, map, length, refl, sym, ap, ◌∙◌, subst, ⊎_elim, append-nil, append_assoc, arith}
use mathlib.Core.Option.{some-injective, some-ne-none}
use Rattle.std.specs.List.{AllByRecursion}
use Rattle.chunk_core.specs.Elements.{Byte, Element, elements, rendering_of}
use Rattle.chunk_core.specs.Outcomes.{Cut, Done, End, Fault}
use Rattle.chunk_core.specs.Texts.{Frame}
use Rattle.chunk_core.specs.Lists.{IsAmong}
use Rattle.chunk_core.specs.Lists.IsAmong.{here, there}
use Rattle.chunk_core.specs.declared.code.Code.{Code}
use Rattle.chunk_core.specs.declared.code.How.{How}
use Rattle.chunk_core.specs.declared.code.How.TheVariants as how
use Rattle.chunk_core.specs.declared.load.Load.{Load as Piece}
use Rattle.par_eval.specs.Hows.{IsDoneOrFault}
use Rattle.par_eval.specs.Messages.{AreResults, IsLacking, IsResult}
use Rattle.par_eval.specs.declared.work.Worked.{Worked}
use Rattle.pipeline_desc.specs.declared.step.Step.{Step}
use Rattle.pull_nodes.specs.Plain.{IsFront}
use Rattle.chain_pipes.specs.Over.{Came, over}
use Rattle.eval_reader.specs.Reading.{text_of}
use Rattle.eval_rules.specs.Answers.{Answer, and_then, answer_in_groups, framed, frames_of, group_over, how_of}
use Rattle.eval_work.specs.Works.{result_of}
use Rattle.eval_run.specs.Printing.{frames_by, frames_in}
use Rattle.eval_run.specs.Pumping.{AreTexts}

-- the text of bytes
text_bytes : (text : List ℕ) → rendering_of (map Byte text) ≡ text
text_bytes [] = refl
text_bytes (b ∷ text) = ap (λ t. b ∷ t) (text_bytes text)

-- frames before an answer
abbrev pub with_front : List Frame → Answer → Answer
with_front F a = record { frames = F ++ a.frames; end = a.end }

with_both : (F G : List Frame) (a : Answer) → with_front F (with_front G a) ≡ with_front (F ++ G) a
with_both F G a = ap (λ (H : List Frame). let b : Answer = record { frames = H; end = a.end } in b) (sym (append_assoc F G a.frames))

done_is : (e : End) → how_of e ≡ how.Done → e ≡ Done
done_is Done h = refl
done_is (Fault c) h = cc
done_is Cut h = cc

fault_is : (e : End) (c : Code) → how_of e ≡ how.Fault c → e ≡ Fault c
fault_is Done c h = cc
fault_is (Fault d) c h = let s : d ≡ c = cc in ap (λ x. Fault x) s
fault_is Cut c h = cc

module _ (steps : List Step) where
  -- the result is that of the text of this group, or memory was wanting
  abbrev pub AnswersGroup : List Element → Worked → Type 0
  AnswersGroup g w = ((elements w.out, w.how) ≡ result_of steps g) ⊎ IsLacking w

  -- each of the results is that of the group with its number
  abbrev pub Follow : List (List Element) → List Worked → Type 0
  Follow gs [] = Unit {0}
  Follow [] (w ∷ ws) = ⊥
  Follow (g ∷ gs) (w ∷ ws) = AnswersGroup g w × Follow gs ws

  -- steps make the same of a group and of its text
  same_text : (g : List Element) → result_of steps (text_of g) ≡ result_of steps g
  same_text g = ap (λ (t : List ℕ). (map Byte (rendering_of (over steps (map Byte t) Done).list), how_of (over steps (map Byte t) Done).end)) (text_bytes (rendering_of g))

  answers : (d : Piece) (g : List Element) (w : Worked) → elements d ≡ text_of g → IsResult (result_of steps) d w → AnswersGroup g w
  answers d g w is r = ⊎_elim (λ e. inl (e ∙ (ap (λ xs. result_of steps xs) is ∙ same_text g))) (λ l. inr l) r

  first_text : (x y : List Element) (xs ys : List (List Element)) → x ∷ xs ≡ y ∷ ys → x ≡ y
  first_text x y xs ys e = cc

  other_texts : (x y : List Element) (xs ys : List (List Element)) → x ∷ xs ≡ y ∷ ys → xs ≡ ys
  other_texts x y xs ys e = cc

  pub follow : (ds : List Piece) (gs : List (List Element)) (ws : List Worked) → AreTexts ds gs → AreResults (result_of steps) ds ws → Follow gs ws
  follow ds gs [] t r = tt
  follow [] gs (w ∷ ws) t r = let x = r 0 w refl in absurd (some-ne-none x.0 (sym x.1))
  follow (d ∷ ds) [] (w ∷ ws) t r = cc
  follow (d ∷ ds) (g ∷ gs) (w ∷ ws) t r =
      let x = r 0 w refl in
      (answers d g w (first_text (elements d) (text_of g) (map elements ds) (map text_of gs) t) (subst (λ l. IsResult (result_of steps) l w) (sym (some-injective d x.0 x.1)) x.2), follow ds gs ws (other_texts (elements d) (text_of g) (map elements ds) (map text_of gs) t) (λ q v at. r (suc q) v at))

  -- a result that is done or failed isn't lacking
  real : (g : List Element) (w : Worked) → AnswersGroup g w → IsDoneOrFault w.how → (elements w.out, w.how) ≡ result_of steps g
  real g w r is = ⊎_elim (λ e. e) (λ (l : IsLacking w). absurd (subst IsDoneOrFault l.1 is)) r

  module _ (g : List Element) (w : Worked) (r : AnswersGroup g w) (is : IsDoneOrFault w.how) where
    abbrev came_of : Came
    came_of = group_over steps g

    frames_are : frames_by w.out ≡ frames_of came_of
    frames_are = ap (λ (x : List Element × How). framed (rendering_of x.0)) (real g w r is) ∙ ap framed (text_bytes (rendering_of came_of.list))

    how_are : w.how ≡ how_of came_of.end
    how_are = ap (λ (x : List Element × How). x.1) (real g w r is)

  was_done : (w : Worked) → w.how ≡ how.Done → IsDoneOrFault w.how
  was_done w e = subst IsDoneOrFault (sym e) tt

  has_failed : (w : Worked) (c : Code) → w.how ≡ how.Fault c → IsDoneOrFault w.how
  has_failed w c e = subst IsDoneOrFault (sym e) tt

  -- a group that is done goes before the others
  one_done : (g : List Element) (w : Worked) (gs : List (List Element)) (e : End) → AnswersGroup g w → w.how ≡ how.Done → answer_in_groups steps (g ∷ gs) e ≡ with_front (frames_by w.out) (answer_in_groups steps gs e)
  one_done g w gs e r is =
      let c = group_over steps g in
      let over : c.end ≡ Done = done_is c.end (sym (how_are g w r (was_done w is)) ∙ is) in
      ap (λ x. and_then (frames_of c) x (answer_in_groups steps gs e)) over ∙ ap (λ F. with_front F (answer_in_groups steps gs e)) (sym (frames_are g w r (was_done w is)))

  -- results that are done go before what comes of the other groups
  pub record GoesBefore (gs : List (List Element)) (front rest : List Worked) : Type 0 where
    pub others : List (List Element)
    pub follows : Follow others rest
    pub answer : (more : List (List Element)) (e : End) → answer_in_groups steps (gs ++ more) e ≡ with_front (frames_in front) (answer_in_groups steps (others ++ more) e)
    pub count : length gs ≡ length front + length others

  pub goes_before : (gs : List (List Element)) (front rest : List Worked) → Follow gs (front ++ rest) → AllByRecursion (λ w. w.how ≡ how.Done) front → GoesBefore gs front rest
  goes_before gs [] rest f done = record { others = gs; follows = f; answer = λ more e. refl; count = omega arith }
  goes_before [] (w ∷ front) rest f done = absurd f
  goes_before (g ∷ gs) (w ∷ front) rest f done =
      let b = goes_before gs front rest f.1 done.1 in
      record {
        others = b.others;
        follows = b.follows;
        answer = λ more e.
            one_done g w (gs ++ more) e f.0 done.0
            ∙ (ap (λ a. with_front (frames_by w.out) a) (b.answer more e) ∙ with_both (frames_by w.out) (frames_in front) (answer_in_groups steps (b.others ++ more) e));
        count = let k = b.count in omega (arith, k);
      }

  -- all groups were answered
  pub all_answered : (gs : List (List Element)) (ws : List Worked) (e : End) → Follow gs ws → AllByRecursion (λ w. w.how ≡ how.Done) ws → length ws ≡ length gs → answer_in_groups steps gs e ≡ record { frames = frames_in ws; end = e }
  all_answered gs ws e f done count =
      let b = goes_before gs ws [] (subst (λ l. Follow gs l) (sym (append-nil ws)) f) done in
      let none : b.others ≡ [] = nothing b.others (let c = b.count in omega (arith, c, count)) in
      ap (λ xs. answer_in_groups steps xs e) (sym (append-nil gs))
      ∙ (b.answer [] e ∙ (ap (λ (os : List (List Element)). with_front (frames_in ws) (answer_in_groups steps (os ++ []) e)) none ∙ ap (λ (F : List Frame). let b : Answer = record { frames = F; end = e } in b) (append-nil (frames_in ws))))
    where
      nothing : (os : List (List Element)) → length os ≡ 0 → os ≡ []
      nothing [] h = refl
      nothing (o ∷ os) h = absurd (omega arith)

  -- a group failed behind those that are done
  pub failed_answer : (gs : List (List Element)) (front rest : List Worked) (w : Worked) (c : Code) → Follow gs (front ++ w ∷ rest) → AllByRecursion (λ w. w.how ≡ how.Done) front → w.how ≡ how.Fault c → (more : List (List Element)) (e : End)
      → answer_in_groups steps (gs ++ more) e ≡ record { frames = frames_in front ++ frames_by w.out; end = Fault c }
  failed_answer gs front rest w c f done is more e = let b = goes_before gs front (w ∷ rest) f done in b.answer more e ∙ at b.others b.follows
    where
      at : (others : List (List Element)) → Follow others (w ∷ rest) → with_front (frames_in front) (answer_in_groups steps (others ++ more) e) ≡ record { frames = frames_in front ++ frames_by w.out; end = Fault c }
      at [] h = absurd h
      at (g ∷ others) h =
          let k = group_over steps g in
          let over : k.end ≡ Fault c = fault_is k.end c (sym (how_are g w h.0 (has_failed w c is)) ∙ is) in
          ap (λ a. with_front (frames_in front) a)
          (ap (λ x. and_then (frames_of k) x (answer_in_groups steps (others ++ more) e)) over ∙ ap (λ (F : List Frame). let b : Answer = record { frames = F; end = Fault c } in b) (sym (frames_are g w h.0 (has_failed w c is))))

  -- the group that failed
  pub failed_group : (gs : List (List Element)) (front rest : List Worked) (w : Worked) (c : Code) → Follow gs (front ++ w ∷ rest) → w.how ≡ how.Fault c → (g : List Element) × IsAmong g gs × ((group_over steps g).end ≡ Fault c)
  failed_group [] [] rest w c f is = absurd f
  failed_group [] (x ∷ front) rest w c f is = absurd f
  failed_group (g ∷ gs) [] rest w c f is = (g, here gs, fault_is (group_over steps g).end c (sym (how_are g w f.0 (has_failed w c is)) ∙ is))
  failed_group (g ∷ gs) (x ∷ front) rest w c f is = let b = failed_group gs front rest w c f.1 is in (b.0, there g b.1, b.2)

  -- what was printed of those that are done is a front of the answer
  pub front_answer : (gs : List (List Element)) (front rest : List Worked) → Follow gs (front ++ rest) → AllByRecursion (λ w. w.how ≡ how.Done) front → (more : List (List Element)) (e : End) → IsFront (frames_in front) (answer_in_groups steps (gs ++ more) e).frames
  front_answer gs front rest f done more e = let b = goes_before gs front rest f done in ((answer_in_groups steps (b.others ++ more) e).frames, ap (λ (a : Answer). a.frames) (b.answer more e))

  -- and so is the frame of the next result, which is done or failed
  pub next_answer : (gs : List (List Element)) (front rest : List Worked) (w : Worked) → Follow gs (front ++ w ∷ rest) → AllByRecursion (λ w. w.how ≡ how.Done) front → IsDoneOrFault w.how → (more : List (List Element)) (e : End) → IsFront (frames_in front ++ frames_by w.out) (answer_in_groups steps (gs ++ more) e).frames
  next_answer gs front rest w f done is more e =
      let b = goes_before gs front (w ∷ rest) f done in
      let x = at b.others b.follows in (x.0, ap (λ (a : Answer). a.frames) (b.answer more e) ∙ (ap (λ F. frames_in front ++ F) x.1 ∙ sym (append_assoc (frames_in front) (frames_by w.out) x.0)))
    where
      begun : (k : Came) (F : List Frame) (e : End) (a : Answer) → IsFront F (and_then F e a).frames
      begun k F Done a = (a.frames, refl)
      begun k F (Fault c) a = ([], sym (append-nil F))
      begun k F Cut a = (a.frames, refl)

      at : (others : List (List Element)) → Follow others (w ∷ rest) → IsFront (frames_by w.out) (answer_in_groups steps (others ++ more) e).frames
      at [] h = absurd h
      at (g ∷ others) h =
          let k = group_over steps g in
          subst (λ F. IsFront F (answer_in_groups steps ((g ∷ others) ++ more) e).frames) (sym (frames_are g w h.0 is)) (begun k (frames_of k) k.end (answer_in_groups steps (others ++ more) e))
