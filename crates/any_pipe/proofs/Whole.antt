-- What came of a whole input.
use Rattle.std.proofs.Common.{◌≡◌, List, [], ◌++◌, Option, None, Some, true, false, refl, ap, sym, subst, ◌∙◌, append_assoc}
use Rattle.std.specs.Prelude.{IsSome, is_some, option_map}
use Rattle.std.proofs.lemmas.List.Concat.{flat_map-append}
use Rattle.std.proofs.lemmas.List.Elements.{All-append}
use Rattle.chunk_core.specs.Elements.{Element, LoadKind, elements, kind_of, elements_of}
use Rattle.chunk_core.specs.Feed.{Meaning}
use Rattle.chunk_core.specs.declared.code.Code.{Code}
use Rattle.chunk_core.specs.declared.load.Load.{Load}
use Rattle.pull_nodes.specs.PipeKinds.{gives_of}
use Rattle.pull_nodes.specs.Pipes.{meaning_over, IsMeaningOver, part_of, all_of}
use Rattle.chunk_core.specs.Tables.{Values}
use Rattle.pull_nodes.specs.declared.pipe.Pipe.{Pipe}
use Rattle.pull_nodes.proofs.Beginnings.{part_of-nil}
use Rattle.pull_nodes.proofs.PipeLaws.{steady}
use Rattle.any_pipe.specs.Pouring.{AreOf, FeedsAll, FinishesAll, MakesUp, Pours}
use Rattle.any_pipe.specs.Pouring.Pours.{whole, broken}

-- a fault came before the end
pub poured_early : (m : Meaning) (xs : List Element) (loads given : List Load) (c : Option Code) (Stands : List Element → Type 0)
    → FeedsAll m xs loads given c Stands → is_some c ≡ true → Pours m xs loads given c
poured_early m xs loads given None Stands fed some = absurd (cc)
poured_early m xs loads given (Some c) Stands fed some = broken c refl fed

-- no fault came before the end
pub poured_late : (m : Meaning) (xs : List Element) (loads before given : List Load) (b c : Option Code) (Stands : List Element → Type 0)
    → FeedsAll m xs loads before b Stands → is_some b ≡ false → (Stands (xs ++ elements_of loads) → FinishesAll m (xs ++ elements_of loads) before given c) → Pours m xs loads given c
poured_late m xs loads before given None c Stands fed none finish =
    let end = finish fed.1 in
    let both : elements_of given ≡ elements_of before ++ elements_of end.rest = ap elements_of end.whole ∙ flat_map-append elements before end.rest in
    whole (
    record {
      kinds = subst (λ l. AreOf m.gives l) (sym end.whole) (All-append (λ l. kind_of l ≡ m.gives) before end.rest fed.0.kinds end.made.kinds);
      list = ap (λ l. (m.part xs).list ++ l) both ∙ (sym (append_assoc (m.part xs).list (elements_of before) (elements_of end.rest)) ∙ (ap (λ l. l ++ elements_of end.rest) fed.0.list ∙ end.made.list));
      fault = end.made.fault;
    }
    )
poured_late m xs loads before given (Some d) c Stands fed none finish = absurd (cc)

-- the value that is there
pub some_of : {A : Type 0} (o : Option A) → IsSome o → (x : A) × (o ≡ Some x)
some_of None h = absurd (cc)
some_of (Some x) h = (x, refl)

-- the meaning of a pipe that takes a kind
pub is_meaning : (t : Values) (p : Pipe) (takes gives : LoadKind) → gives_of p takes ≡ Some gives → IsMeaningOver t p (meaning_over t p takes gives)
is_meaning t p takes gives e = ap (option_map (meaning_over t p takes)) e

-- a pipe that was fed nothing before gives what it gives of the whole input, also where a fault came before its end
all_given : (t : Values) (p : Pipe) (takes gives : LoadKind) → gives_of p takes ≡ Some gives → (loads given : List Load) (c : Option Code)
    → Pours (meaning_over t p takes gives) [] loads given c → MakesUp (meaning_over t p takes gives) [] given c (all_of t p (elements_of loads))
all_given t p takes gives e loads given c (whole made) = made
all_given t p takes gives e loads given c (broken d is b) =
    let m = meaning_over t p takes gives in
    let stops = ((steady t p m (is_meaning t p takes gives e)).stops (elements_of b.front) (elements_of b.unfed) d (sym b.made.fault)).1 in
    let same : part_of t p (elements_of b.front) ≡ all_of t p (elements_of loads) = sym stops ∙ ap (all_of t p) (sym (ap elements_of b.whole ∙ flat_map-append elements b.front b.unfed)) in
    let made = subst (λ w. MakesUp m [] given (Some d) w) same b.made in
    subst (λ f. MakesUp m [] given f (all_of t p (elements_of loads))) (sym is) made

-- what came, and the fault
pub record GivesAll (t : Values) (p : Pipe) (gives : LoadKind) (xs : List Element) (given : List Load) (c : Option Code) : Type 0 where
  pub kinds : AreOf gives given
  pub list : elements_of given ≡ (all_of t p xs).list
  pub fault : c ≡ (all_of t p xs).fault

pub gives_all : (t : Values) (p : Pipe) (takes gives : LoadKind) → gives_of p takes ≡ Some gives → (loads given : List Load) (c : Option Code)
    → Pours (meaning_over t p takes gives) [] loads given c → GivesAll t p gives (elements_of loads) given c
gives_all t p takes gives e loads given c poured =
    let made = all_given t p takes gives e loads given c poured in
    record { kinds = made.kinds; list = sym (ap (λ l. l ++ elements_of given) (part_of-nil t p)) ∙ made.list; fault = made.fault }
