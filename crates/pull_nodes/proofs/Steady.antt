-- What was given stays given: over any lists, and of pipes that know no fault.
use Rattle.std.proofs.Common.{◌≡◌, ℕ, List, ◌++◌, Some, None, sym, subst}
use Rattle.chunk_core.specs.Elements.{Element}
use Rattle.chunk_core.specs.Feed.{Given, Meaning}
use Rattle.chunk_core.specs.declared.code.Code.{Code}
use Rattle.pull_nodes.specs.Laws.{IsFront, IsSteady}
use Rattle.pull_nodes.specs.PipeRule.{without_fault}
use Rattle.pull_nodes.specs.Plain.{bytes_of}
use Rattle.pull_nodes.proofs.Fronts.{front_same}
use Rattle.pull_nodes.proofs.Meanings.{bytes_of-append}

-- the same of lists of any elements
pub record SteadyBy {A : Type 0} (part all : List A → Given) : Type 0 where
  pub grows : (xs zs : List A) → (part xs).fault ≡ None → IsFront (part xs).list (part (xs ++ zs)).list
  pub ends : (xs : List A) → (part xs).fault ≡ None → IsFront (part xs).list (all xs).list
  pub stops : (xs zs : List A) (c : Code) → (part xs).fault ≡ Some c → (part (xs ++ zs) ≡ part xs) × (all (xs ++ zs) ≡ part xs)

pub steady_by : (m : Meaning) → SteadyBy m.part m.all → IsSteady m
steady_by m s = record { grows = s.grows; ends = s.ends; stops = s.stops }

-- a pipe without a fault
pub faultless : {A : Type 0} (part all : List A → List Element)
    → ((xs zs : List A) → IsFront (part xs) (part (xs ++ zs))) → ((xs : List A) → IsFront (part xs) (all xs))
    → SteadyBy (λ xs. without_fault (part xs)) (λ xs. without_fault (all xs))
faultless part all g e = record {
  grows = λ xs zs n. g xs zs;
  ends = λ xs n. e xs;
  stops = λ xs zs c n. (cc);
}

-- the same at the end
pub same_at_end : (f : List Element → List Element) → ((xs zs : List Element) → IsFront (f xs) (f (xs ++ zs))) → SteadyBy (λ xs. without_fault (f xs)) (λ xs. without_fault (f xs))
same_at_end f g = faultless f f g (λ xs. front_same (f xs))

-- a pipe over the bytes among the elements
pub over_bytes : (part all : List ℕ → Given) → SteadyBy part all → SteadyBy (λ xs. part (bytes_of xs)) (λ xs. all (bytes_of xs))
over_bytes part all s = record {
  grows = λ xs zs n.
      let P : List ℕ → Type 0 = λ b. IsFront (part (bytes_of xs)).list (part b).list in
      subst P (sym (bytes_of-append xs zs)) (s.grows (bytes_of xs) (bytes_of zs) n);
  ends = λ xs n. s.ends (bytes_of xs) n;
  stops = λ xs zs c n.
      let P : List ℕ → Type 0 = λ b. (part b ≡ part (bytes_of xs)) × (all b ≡ part (bytes_of xs)) in
      subst P (sym (bytes_of-append xs zs)) (s.stops (bytes_of xs) (bytes_of zs) c n);
}
