-- What a chain gave stays given, and its ends are final.
use Rattle.std.proofs.Common.{◌≡◌, ℕ, ◌+◌, ◌-◌, ◌<◌, ◌≤◌, Bool, true, false, nat_le, if◌then◌else◌, List, [], ◌∷◌, ◌++◌, length, take, Option, Some, None, refl, sym, ap, ◌∙◌, subst, arith, append-nil, append_assoc, length-append}
use Rattle.std.proofs.lemmas.Bool.{leb-true, le-leb}
use Rattle.std.proofs.lemmas.List.{take-append-le}
use Rattle.std.proofs.Math.Seq.{take-append-add}
use Rattle.chunk_core.specs.Elements.{Element, LoadKind}
use Rattle.chunk_core.specs.Feed.{Given}
use Rattle.chunk_core.specs.Outcomes.{Cut, Done, End, Fault}
use Rattle.chunk_core.specs.Tables.{no_values}
use Rattle.chunk_core.specs.declared.code.Code.{Code}
use Rattle.pipeline_desc.specs.declared.step.Step.{Step}
use Rattle.pipeline_desc.specs.declared.step.Step.TheVariants as step
use Rattle.pull_nodes.specs.Laws.{IsFront, IsSteady}
use Rattle.pull_nodes.specs.Pipes.{all_of, part_of}
use Rattle.pull_nodes.specs.declared.pipe.Pipe.{Pipe}
use Rattle.pull_nodes.proofs.Fronts.{front_same}
use Rattle.pull_nodes.proofs.PipeLaws.{lawful_pipe}
use Rattle.chain_pipes.specs.Worked.{ChainsAreSteady}
use Rattle.chain_pipes.specs.Over.{Came, at_end, came, chain_part, fault_of, given_of, over, step_over, through}

-- d is what c may become as more comes: c was cut, and d goes on; or c is final
data Grows : Came → Came → Type 0 where
  goes_on : (xs more : List Element) (e : End) → Grows (came xs Cut) (came (xs ++ more) e)
  final : (c : Came) → Grows c c

front_grows : (ys : List Element) (d : Came) → IsFront ys d.list → Grows (came ys Cut) d
front_grows ys d f = subst (λ l. Grows (came ys Cut) (came l d.end)) (sym f.1) (goes_on ys f.0 d.end)

same_grows : (c d : Came) → d ≡ c → Grows c d
same_grows c d e = subst (λ x. Grows c x) (sym e) (final c)

less : (n m : ℕ) → nat_le n m ≡ false → m < n
less n m h = grind (arith, h)

module _ (n : ℕ) (xs more : List Element) (e : End) where
  abbrev front_of : Bool → List Element → End → Came
  front_of b ys g = if b then came (take n ys) Done else came ys g

  by_both : (b d : Bool) → nat_le n (length xs) ≡ b → nat_le n (length (xs ++ more)) ≡ d → Grows (front_of b xs Cut) (front_of d (xs ++ more) e)
  by_both true true h k = same_grows (came (take n xs) Done) (came (take n (xs ++ more)) Done) (ap (λ l. came l Done) (take-append-le n xs more (leb-true n (length xs) h)))
  by_both true false h k =
      let a = leb-true n (length xs) h in
      let b = less n (length (xs ++ more)) k in
      let l = length-append xs more in absurd (omega (a, b, l, arith))
  by_both false true h k =
      let a = less n (length xs) h in
      front_grows xs (came (take n (xs ++ more)) Done) (take (n - length xs) more, ap (λ i. take i (xs ++ more)) (let z : n ≡ length xs + (n - length xs) = omega (a, arith) in z) ∙ take-append-add xs more (n - length xs))
  by_both false false h k = goes_on xs more e

module _ (q : Pipe) (xs more : List Element) where
  abbrev part : List Element → Given
  part = part_of no_values q

  abbrev all : List Element → Given
  all = all_of no_values q

  part_front : (part xs).fault ≡ None → IsFront (part xs).list (part (xs ++ more)).list
  part_front h = (lawful_pipe no_values q).steady.grows xs more h

  then_front : (ys zs ws : List Element) → IsFront ys zs → IsFront zs ws → IsFront ys ws
  then_front ys zs ws f g = (f.0 ++ g.0, g.1 ∙ (ap (λ l. l ++ g.0) f.1 ∙ append_assoc ys f.0 g.0))

  all_front : (f : Option Code) → (part (xs ++ more)).fault ≡ f → (part xs).fault ≡ None → IsFront (part xs).list (all (xs ++ more)).list
  all_front None k h = then_front (part xs).list (part (xs ++ more)).list (all (xs ++ more)).list (part_front h) ((lawful_pipe no_values q).steady.ends (xs ++ more) k)
  all_front (Some c) k h =
      let s = ((lawful_pipe no_values q).steady.stops (xs ++ more) [] c k).1 in
      let w : all (xs ++ more) ≡ part (xs ++ more) = ap all (sym (append-nil (xs ++ more))) ∙ s in
      subst (λ (g : Given). IsFront (part xs).list g.list) (sym w) (part_front h)

  at_end_front : (e : End) → (part (xs ++ more)).fault ≡ None → (part xs).fault ≡ None → IsFront (part xs).list (at_end (part (xs ++ more)) (all (xs ++ more)) e).list
  at_end_front Done k h = all_front None k h
  at_end_front (Fault c) k h = part_front h
  at_end_front Cut k h = part_front h

  piped : (e : End) (f g : Option Code) → (part xs).fault ≡ f → (part (xs ++ more)).fault ≡ g → Grows (through f (part xs) (all xs) Cut) (through g (part (xs ++ more)) (all (xs ++ more)) e)
  piped e None None h k = front_grows (part xs).list (at_end (part (xs ++ more)) (all (xs ++ more)) e) (at_end_front e k h)
  piped e None (Some d) h k = front_grows (part xs).list (came (part (xs ++ more)).list (Fault d)) (part_front h)
  piped e (Some c) g h k =
      let s : part (xs ++ more) ≡ part xs = ((lawful_pipe no_values q).steady.stops xs more c h).0 in
      let same : g ≡ Some c = sym k ∙ (ap (λ (z : Given). z.fault) s ∙ h) in
      same_grows (came (part xs).list (Fault c)) (through g (part (xs ++ more)) (all (xs ++ more)) e)
      (ap (λ z. through z (part (xs ++ more)) (all (xs ++ more)) e) same ∙ ap (λ (z : Given). came z.list (Fault c)) s)

step_grows : (s : Step) (c d : Came) → Grows c d → Grows (step_over s c.list c.end) (step_over s d.list d.end)
step_grows s c d (final x) = final (step_over s x.list x.end)
step_grows (step.Take n) c d (goes_on xs more e) = by_both n xs more e (nat_le n (length xs)) (nat_le n (length (xs ++ more))) refl refl
step_grows (step.Pipe q) c d (goes_on xs more e) = piped q xs more e (part_of no_values q xs).fault (part_of no_values q (xs ++ more)).fault refl refl

over_grows : (steps : List Step) (c d : Came) → Grows c d → Grows (over steps c.list c.end) (over steps d.list d.end)
over_grows [] c d g = g
over_grows (s ∷ ss) c d g = over_grows ss (step_over s c.list c.end) (step_over s d.list d.end) (step_grows s c d g)

grows_met : (c d : Came) → c.end ≡ Done → Grows c d → d ≡ c
grows_met c d h (goes_on xs more e) = absurd (let no : Cut ≡ Done = h in cc)
grows_met c d h (final x) = refl

-- where a `take` was met nothing more comes, whatever comes behind
pub over_met : (steps : List Step) (xs more : List Element) (e : End) → (over steps xs Cut).end ≡ Done → over steps (xs ++ more) e ≡ over steps xs Cut
over_met steps xs more e h = grows_met (over steps xs Cut) (over steps (xs ++ more) e) h (over_grows steps (came xs Cut) (came (xs ++ more) e) (goes_on xs more e))

fault_grows : (c d : Came) (f : Code) → fault_of c.end ≡ Some f → Grows c d → d ≡ c
fault_grows c d f h (goes_on xs more e) = absurd (let no : None ≡ Some f = h in cc)
fault_grows c d f h (final x) = refl

grows_front : (c d : Came) → Grows c d → IsFront c.list d.list
grows_front c d (goes_on xs more e) = (more, refl)
grows_front c d (final x) = front_same x.list

module _ (steps : List Step) where
  grown : (xs more : List Element) (e : End) → Grows (over steps xs Cut) (over steps (xs ++ more) e)
  grown xs more e = over_grows steps (came xs Cut) (came (xs ++ more) e) (goes_on xs more e)

  part_grows : (xs zs : List Element) → IsFront (chain_part steps xs).list (chain_part steps (xs ++ zs)).list
  part_grows [] zs = ((chain_part steps zs).list, refl)
  part_grows (x ∷ xs) zs = grows_front (over steps (x ∷ xs) Cut) (over steps (x ∷ xs ++ zs) Cut) (grown (x ∷ xs) zs Cut)

  part_ends : (xs : List Element) → IsFront (chain_part steps xs).list (over steps xs Done).list
  part_ends [] = ((over steps [] Done).list, refl)
  part_ends (x ∷ xs) = grows_front (over steps (x ∷ xs) Cut) (over steps (x ∷ xs) Done) (subst (λ l. Grows (over steps (x ∷ xs) Cut) (over steps l Done)) (append-nil (x ∷ xs)) (grown (x ∷ xs) [] Done))

  part_stops : (xs zs : List Element) (c : Code) → (chain_part steps xs).fault ≡ Some c → (chain_part steps (xs ++ zs) ≡ chain_part steps xs) × (given_of (over steps (xs ++ zs) Done) ≡ chain_part steps xs)
  part_stops [] zs c h = absurd (let no : None ≡ Some c = h in cc)
  part_stops (x ∷ xs) zs c h = (
    ap given_of (fault_grows (over steps (x ∷ xs) Cut) (over steps (x ∷ xs ++ zs) Cut) c h (grown (x ∷ xs) zs Cut)),
    ap given_of (fault_grows (over steps (x ∷ xs) Cut) (over steps (x ∷ xs ++ zs) Done) c h (grown (x ∷ xs) zs Done)),
  )

pub chains_are_steady : ChainsAreSteady
chains_are_steady steps gives = record { grows = λ xs zs none. part_grows steps xs zs; ends = λ xs none. part_ends steps xs; stops = part_stops steps }
