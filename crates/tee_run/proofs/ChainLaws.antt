-- What a chain gives is what its steps give.
use Rattle.std.proofs.Common.{◌≡◌, ◌≢◌, ℕ, zero, suc, ◌+◌, Bool, true, false, List, [], ◌∷◌, ◌++◌, length, take, map, Option, Some, None, refl, sym, ◌∙◌, ap, subst, inl, inr, ⊎_elim, arith, append_assoc}
use mathlib.Core.Option.{some, some-injective, some-ne-none}
use Rattle.std.specs.Prelude.{if◌then◌else◌, nat_le}
use Rattle.chunk_core.specs.Elements.{Element}
use Rattle.chunk_core.specs.Outcomes.{Cut, Done, End, Fault}
use Rattle.chunk_core.specs.Tables.{no_values}
use Rattle.chunk_core.specs.Texts.{Frame}
use Rattle.chunk_core.specs.Totals.{IsAt}
use Rattle.chunk_core.specs.declared.code.Code.{Code}
use Rattle.chunk_core.specs.declared.code.How.{How}
use Rattle.chunk_core.specs.declared.code.How.TheVariants as how
use Rattle.chunk_core.specs.Feed.{Given}
use Rattle.chain_pipes.specs.Over.{Came, IsChainMeaning, at_end, came, chain_part, fault_of, given_of, over, step_over, through}
use Rattle.pipeline_desc.specs.declared.step.Step.{Step}
use Rattle.pipeline_desc.specs.declared.step.Step.TheVariants as step
use Rattle.pull_nodes.specs.Pipes.{all_of, part_of}
use Rattle.pull_nodes.specs.Plain.{IsFront}
use Rattle.pull_nodes.specs.Runs.{end_by_fault}
use Rattle.run_rules.specs.Outputs.{IsReported, elements_in_pieces}
use Rattle.tee_branches.specs.Messages.{IsSaidOf, gives}
use Rattle.tee_pump.specs.Finished.{IsPrintedOf}
use Rattle.tee_rules.specs.Branches.{AreBranches, IsBranch, IsPrinted}
use Rattle.tee_rules.proofs.Given.{reported_done}
use Rattle.tee_run.specs.Chains.{meaning_of, meanings_of, or_bytes}
use Rattle.std.specs.Prelude.{IsSome}
use Rattle.std.proofs.lemmas.List.{length-map}
use Rattle.chunk_core.specs.Elements.{LoadKind}
use Rattle.chunk_core.specs.Elements.LoadKind.{Bytes}
use Rattle.chunk_core.proofs.Changes.{at_more}
use Rattle.chunk_core.proofs.Totals.{map_back, one_at}
use Rattle.chain_pipes.specs.Chains.{StandsFor}
use Rattle.chain_pipes.specs.declared.chain.Chain.{Chain}
use Rattle.step_words.specs.Words.{kind_behind}
use Rattle.tee_pump.specs.Making.{ArePipes, IsPipeOf}
use Rattle.tee_run.specs.Telling.{ends_from}

-- What comes of a whole input isn't cut.

fault_uncut : (o : Option Code) → end_by_fault o Done ≢ Cut
fault_uncut None e = cc
fault_uncut (Some c) e = cc

end_uncut : (part all : Given) (e : End) → e ≢ Cut → (at_end part all e).end ≢ Cut
end_uncut part all Done n i = fault_uncut all.fault i
end_uncut part all (Fault c) n i = cc
end_uncut part all Cut n i = n i

through_uncut : (o : Option Code) (part all : Given) (e : End) → e ≢ Cut → (through o part all e).end ≢ Cut
through_uncut None part all e n i = end_uncut part all e n i
through_uncut (Some c) part all e n i = cc

taken_uncut : (b : Bool) (n : ℕ) (xs : List Element) (e : End) → e ≢ Cut → (let c : Came = (if b then came (take n xs) Done else came xs e) in c.end) ≢ Cut
taken_uncut true n xs e k i = cc
taken_uncut false n xs e k i = k i

step_uncut : (s : Step) (xs : List Element) (e : End) → e ≢ Cut → (step_over s xs e).end ≢ Cut
step_uncut (step.Take n) xs e k = taken_uncut (nat_le n (length xs)) n xs e k
step_uncut (step.Pipe p) xs e k = through_uncut (part_of no_values p xs).fault (part_of no_values p xs) (all_of no_values p xs) e k

pub over_uncut : (steps : List Step) (xs : List Element) (e : End) → e ≢ Cut → (over steps xs e).end ≢ Cut
over_uncut [] xs e k = k
over_uncut (s ∷ ss) xs e k = over_uncut ss (step_over s xs e).list (step_over s xs e).end (step_uncut s xs e k)

-- An end by its fault.

pub faulty : (e : End) (c : Code) → fault_of e ≡ Some c → e ≡ Fault c
faulty Done c i = cc
faulty (Fault d) c i = ap Fault (let same : d ≡ c = cc in same)
faulty Cut c i = cc

sound : (e : End) → fault_of e ≡ None → e ≢ Cut → e ≡ Done
sound Done i n = refl
sound (Fault c) i n = cc
sound Cut i n = absurd (n refl)

done_uncut : Done ≢ Cut
done_uncut e = cc

-- of nothing only nothing is a front, and of whatever comes
front_of_none : {A : Type 0} (ys zs : List A) → IsFront ys [] → IsFront ys zs
front_of_none [] zs f = (zs, refl)
front_of_none (y ∷ ys) zs f = absurd (let e : [] ≡ y ∷ (ys ++ f.0) = f.1 in cc)

-- what a branch said is what tee_rules asks that it printed

of_whole : (steps : List Step) (h : How) (xs ys : List Element) → IsSaidOf h Done (given_of (over steps xs Done)) ys → IsPrinted h Done (over steps xs Done) ys
of_whole steps how.Done xs ys s = (refl, sound (over steps xs Done).end s.1 (over_uncut steps xs Done done_uncut), s.2)
of_whole steps (how.Fault c) xs ys s = (faulty (over steps xs Done).end c s.0, s.1)
of_whole steps how.Halted xs ys s = s
of_whole steps how.Memory xs ys s = s

of_cut : (steps : List Step) (h : How) (xs ys : List Element) → IsSaidOf h Cut (chain_part steps xs) ys → IsPrinted h Cut (over steps xs Cut) ys
of_cut steps how.Done xs ys s = absurd (let e : Cut ≡ Done = s.0 in cc)
of_cut steps (how.Fault c) [] ys s = absurd (let e : None ≡ Some c = s.0 in cc)
of_cut steps (how.Fault c) (x ∷ xs) ys s = (faulty (over steps (x ∷ xs) Cut).end c s.0, s.1)
of_cut steps how.Halted [] ys s = front_of_none ys (over steps [] Cut).list s
of_cut steps how.Halted (x ∷ xs) ys s = s
of_cut steps how.Memory [] ys s = front_of_none ys (over steps [] Cut).list s
of_cut steps how.Memory (x ∷ xs) ys s = s

pub front_trans : {A : Type 0} (xs ys zs : List A) → IsFront xs ys → IsFront ys zs → IsFront xs zs
front_trans xs ys zs f g = (f.0 ++ g.0, g.1 ∙ (ap (λ l. l ++ g.0) f.1 ∙ append_assoc xs f.0 g.0))

-- The reader gave these elements, which ended so and is reported so; the branches took a front, all of it where it is done.
module _ (given took : List Element) (outer : End) (h : How) (F : List Frame) (reported : IsReported outer h) (front : IsFront took given) (all : h ≡ how.Done → took ≡ given) where
  branch : (i : ℕ) (steps : List Step) (k : How) → IsPrintedOf took h F i (meaning_of steps) k → IsBranch given outer F i steps k
  branch i steps k p = ⊎_elim cut whole p.is_input.ended
    where
      start : IsFront p.input given
      start = front_trans p.input took given p.is_input.front front

      cut : p.end ≡ Cut → IsBranch given outer F i steps k
      cut e = record {
        input = p.input;
        end = Cut;
        is_input = record { front = start; ended = inl refl };
        pieces = p.pieces;
        frames = p.frames;
        printed = of_cut steps k p.input (elements_in_pieces p.pieces) (subst (λ x. IsSaidOf k x (gives (meaning_of steps) p.input x) (elements_in_pieces p.pieces)) e p.printed);
      }

      whole : (p.end ≡ Done) × (h ≡ how.Done) × (p.input ≡ took) → IsBranch given outer F i steps k
      whole w = record {
        input = p.input;
        end = Done;
        is_input = record { front = start; ended = inr (refl, reported_done outer (subst (λ x. IsReported outer x) w.1 reported), w.2 ∙ all w.1) };
        pieces = p.pieces;
        frames = p.frames;
        printed = of_whole steps k p.input (elements_in_pieces p.pieces) (subst (λ x. IsSaidOf k x (gives (meaning_of steps) p.input x) (elements_in_pieces p.pieces)) w.0 p.printed);
      }

  -- each branch from k on
  pub branches_from : (k : ℕ) (bs : List (List Step)) (hows : List How) → length hows ≡ length bs → ((i : ℕ) (s : List Step) (x : How) → IsAt bs i s → IsAt hows i x → IsPrintedOf took h F (k + i) (meaning_of s) x) → AreBranches given outer F k bs (ends_from k hows)
  branches_from k [] [] n p = refl
  branches_from k [] (x ∷ xs) n p = absurd (omega (arith, n))
  branches_from k (s ∷ bs) [] n p = absurd (omega (arith, n))
  branches_from k (s ∷ bs) (x ∷ xs) n p = (
    refl,
    branch k s x (subst (λ j. IsPrintedOf took h F j (meaning_of s) x) (let e : k + 0 ≡ k = omega arith in e) (p 0 s x refl refl)),
    branches_from (k + 1) bs xs (omega (arith, n)) (λ i t y a b. subst (λ j. IsPrintedOf took h F j (meaning_of t) y) (let e : k + suc i ≡ (k + 1) + i = omega arith in e) (p (suc i) t y a b)),
  )

pub at_map : {A B : Type 0} (f : A → B) (xs : List A) (i : ℕ) (x : A) → IsAt xs i x → IsAt (map f xs) i (f x)
at_map f [] i x a = absurd (some-ne-none x (sym a))
at_map f (y ∷ xs) zero x a = ap (λ z. some (f z)) (some-injective y x a)
at_map f (y ∷ xs) (suc i) x a = at_map f xs i x a

-- these chains stand for the steps of the first branches
abbrev pub AreFirst : List (List Step) → List Chain → Type 0
AreFirst bs fs = (i : ℕ) (s : List Step) (f : Chain) → IsAt bs i s → IsAt fs i f → StandsFor f (meaning_of s) []

-- one more
pub first_more : (bs : List (List Step)) (fs : List Chain) (s : List Step) (f : Chain) → AreFirst bs fs → IsAt bs (length fs) s → StandsFor f (meaning_of s) [] → AreFirst bs (fs ++ f ∷ [])
first_more bs fs s f first here_it stands i t q at_t at_q =
    ⊎_elim
    (λ a. first i t q at_t a)
    (λ e. let same : s ≡ t = one_at bs (length fs) s t here_it (subst (λ j. IsAt bs j t) e.0 at_t) in subst (λ x. StandsFor x (meaning_of t) []) e.1 (subst (λ x. StandsFor f (meaning_of x) []) same stands))
    (at_more fs f i q at_q)

-- a chain for each branch
pub all_pipes : (bs : List (List Step)) (fs : List Chain) → length fs ≡ length bs → AreFirst bs fs → ArePipes StandsFor (meanings_of bs) fs
all_pipes bs fs n first = record {
  count = n ∙ sym (length-map bs meaning_of);
  each = λ i m f at_m at_f.
      let b = map_back meaning_of bs i m at_m in
      subst (λ x. IsPipeOf StandsFor x f) b.2 (record { takes = refl; nothing = refl; stands = first i b.0 f b.1 at_f });
}

-- the meaning of steps that fit
pub is_meaning : (s : List Step) → IsSome (kind_behind s Bytes) → IsChainMeaning s (meaning_of s)
is_meaning s fits = (some_kind (kind_behind s Bytes) fits, refl)
  where
    some_kind : (o : Option LoadKind) → IsSome o → o ≡ Some (or_bytes o)
    some_kind (Some k) i = refl
    some_kind None i = cc
