-- What a pipe still gives, after a load or the end.
use Rattle.std.proofs.Common.{◌≡◌, List, ◌++◌, [], Some, None, refl, sym, ◌∙◌, ap, subst, append_assoc, append-nil}
use Rattle.chunk_core.specs.declared.code.Code.{Code}
use Rattle.chunk_core.specs.declared.load.Load.{Load}
use Rattle.chunk_core.specs.Elements.{Element, elements}
use Rattle.chunk_core.specs.Feed.{Extends, Meaning}
use Rattle.chunk_core.specs.Outcomes.{End, Done, Fault, Cut, Outcomes}
use Rattle.pull_nodes.specs.Runs.{Exactly, GivesAtEnd, GivesBy, end_by_fault}
use Rattle.pull_turns.specs.Piping.{PipedOn}
use Rattle.pull_turns.specs.Turned.{Leads}
use Rattle.pull_turns.proofs.Leads.{HasRun}

assoc : (xs ys zs : List Element) → (xs ++ ys) ++ zs ≡ xs ++ (ys ++ zs)
assoc xs ys zs = simp append_assoc

-- where there was no fault, only the end of the input decides
by_none : (m : Meaning) (xs : List Element) (g : End) (ys : List Element) (e : End) → (m.part xs).fault ≡ None → GivesAtEnd m.part m.all xs g ys e → GivesBy (m.part xs).fault m.part m.all xs g ys e
by_none m xs g ys e none h = subst (λ c. GivesBy c m.part m.all xs g ys e) (sym none) h

-- the input ended with nothing more
at_once : (m : Meaning) (xs : List Element) (A : Outcomes) (g : End) (ys : List Element) (e : End) → (m.part xs).fault ≡ None → A [] g → GivesAtEnd m.part m.all xs g ((m.part xs).list ++ ys) e → PipedOn m xs A ys e
at_once m xs A g ys e none a h = ([], g, a, subst (λ zs. GivesBy (m.part zs).fault m.part m.all zs g ((m.part xs).list ++ ys) e) (sym (append-nil xs)) (by_none m xs g ((m.part xs).list ++ ys) e none h))

pub some_piped : (m : Meaning) (xs : List Element) (A : Outcomes) → (m.part xs).fault ≡ None → A [] Cut → HasRun (PipedOn m xs A)
some_piped m xs A none a = ([], Cut, at_once m xs A Cut [] Cut none a (append-nil (m.part xs).list, refl))

-- what is below gave nothing
pub none_fed : (m : Meaning) (xs : List Element) (A B : Outcomes) → Leads [] A B → Leads [] (PipedOn m xs A) (PipedOn m xs B)
none_fed m xs A B f = record { gives = λ ys e h. (h.0, h.1, f.gives h.0 h.1 h.2, h.3) }

-- what is below gave zs, of which the pipe made this load
pub load_fed : (m : Meaning) (xs zs : List Element) (l : Load) (A B : Outcomes) → Extends m xs zs l None → Leads zs A B → Leads (elements l) (PipedOn m (xs ++ zs) A) (PipedOn m xs B)
load_fed m xs zs l A B x f = record {
  gives = λ ys e h.
      let list : (m.part (xs ++ zs)).list ++ ys ≡ (m.part xs).list ++ (elements l ++ ys) = ap (λ us. us ++ ys) (sym x.list) ∙ assoc (m.part xs).list (elements l) ys in
      let given : GivesBy (m.part ((xs ++ zs) ++ h.0)).fault m.part m.all ((xs ++ zs) ++ h.0) h.1 ((m.part xs).list ++ (elements l ++ ys)) e =
      subst (λ us. GivesBy (m.part ((xs ++ zs) ++ h.0)).fault m.part m.all ((xs ++ zs) ++ h.0) h.1 us e) list h.3 in
      (zs ++ h.0, h.1, f.gives h.0 h.1 h.2, subst (λ us. GivesBy (m.part us).fault m.part m.all us h.1 ((m.part xs).list ++ (elements l ++ ys)) e) (assoc xs zs h.0) given);
}

-- of an empty load nothing is given
pub nothing_fed : (m : Meaning) (xs zs : List Element) (l : Load) (A B : Outcomes) → elements l ≡ [] → Extends m xs zs l None → Leads zs A B → Leads [] (PipedOn m (xs ++ zs) A) (PipedOn m xs B)
nothing_fed m xs zs l A B e x f = subst (λ us. Leads us (PipedOn m (xs ++ zs) A) (PipedOn m xs B)) e (load_fed m xs zs l A B x f)

-- what is below gave zs, at which the pipe failed, and is asked no more
pub fault_fed : (m : Meaning) (xs zs : List Element) (l : Load) (c : Code) (A : Outcomes) → Extends m xs zs l (Some c) → A zs Cut → Leads (elements l) (Exactly [] (Fault c)) (PipedOn m xs A)
fault_fed m xs zs l c A x a = record {
  gives = λ ys e h.
      let list : (m.part xs).list ++ (elements l ++ ys) ≡ (m.part (xs ++ zs)).list = ap (λ us. (m.part xs).list ++ (elements l ++ us)) h.0 ∙ (ap (λ us. (m.part xs).list ++ us) (append-nil (elements l)) ∙ x.list) in
      (zs, Cut, a, subst (λ o. GivesBy o m.part m.all (xs ++ zs) Cut ((m.part xs).list ++ (elements l ++ ys)) e) (sym x.fault) (list, h.1));
}

-- the input has ended, and this is what the pipe gives beyond what it gave
pub at_end : (m : Meaning) (xs : List Element) (A : Outcomes) (ys : List Element) (e : End) → (m.part xs).fault ≡ None → A [] Done → (m.part xs).list ++ ys ≡ (m.all xs).list → e ≡ end_by_fault (m.all xs).fault Done → PipedOn m xs A ys e
at_end m xs A ys e none a list end = at_once m xs A Done ys e none a (list, end)

-- the input has ended in a fault
pub at_fault : (m : Meaning) (xs : List Element) (A : Outcomes) (c : Code) → (m.part xs).fault ≡ None → A [] (Fault c) → PipedOn m xs A [] (Fault c)
at_fault m xs A c none a = at_once m xs A (Fault c) [] (Fault c) none a (append-nil (m.part xs).list, refl)

-- of what is still to come, the front came
pub more_comes : (xs ys rest : List Element) (g : End) → ys ≡ xs ++ rest → Leads xs (Exactly rest g) (Exactly ys g)
more_comes xs ys rest g e = record { gives = λ zs f h. (ap (λ us. xs ++ us) h.0 ∙ sym e, h.1) }
