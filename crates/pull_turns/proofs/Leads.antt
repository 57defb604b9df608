-- How the runs of what is left go through each row.
use Rattle.std.proofs.Common.{◌≡◌, inl, inr, ℕ, ◌-◌, ◌<◌, ◌≤◌, List, ◌++◌, [], ◌∷◌, length, take, refl, ap, subst, arith, append_assoc, append-nil, length-append, zero, suc}
use Rattle.std.proofs.lemmas.List.{take_all}
use Rattle.std.proofs.Math.Nat.{suc-sub-suc, zero-sub, sub-zero}
use Rattle.chunk_core.specs.Elements.{Element}
use Rattle.chunk_core.specs.Outcomes.{End, Done, Fault, Cut, Outcomes}
use Rattle.device_port.specs.Device.{DeviceTold}
use Rattle.pull_nodes.specs.Runs.{Exactly, Follows, Gives, IsIdle, IsRun, OrLeft, Taken, any_leeway, end_by_fault, Merged, Zipped}
use Rattle.pull_nodes.proofs.Left.{left as or_left}
use Rattle.pull_turns.specs.Groups.{waiting}
use Rattle.pull_turns.specs.Piping.{Behind, PipedOn, StateMeaning}
use Rattle.pull_turns.specs.Rest.{Begins, IsRunOfRest, ReadsFrom, TakenOn, WritesNoMore, WrittenOn}
use Rattle.pull_turns.specs.Turned.{Leads}
use Rattle.pull_turns.specs.declared.rest.Rest.{Rest}
use Rattle.pull_turns.specs.declared.rest.Rest.TheVariants.{Nil, Start, Read, Within', Then', Through', Finishing, Faulty, Groups', Take', Into', Zip', Merge'}

-- there is a run
abbrev pub HasRun : Outcomes → Type 0
HasRun A = (ys : List Element) × (e : End) × A ys e

-- what wrote no more may be left at once
pub can_stop : {F : Type 0} (P : StateMeaning F) (w : ℕ → DeviceTold) (r : Rest F) → WritesNoMore w r → IsRunOfRest P w r [] Cut
can_stop P w Nil i = inr (refl, inl (refl, i))
can_stop P w (Start n) i = inr (refl, inl (refl, i))
can_stop P w (Read p from) i = inr (refl, inl (refl, i))
can_stop P w (Within' s _ a) i = inr (refl, inl (refl, i))
can_stop P w (Then' v _ a b) i = inr (refl, inl (refl, i))
can_stop P w (Through' _ a q) i = λ m xs s k. inr (refl, inl (refl, i))
can_stop P w (Finishing q) i = λ k xs c h. inr (refl, inl (refl, i))
can_stop P w (Faulty c) i = inr (refl, inl (refl, i))
can_stop P w (Groups' n f _ a) i = inr (refl, inl (refl, i))
can_stop P w (Take' n _ a) i = inr (refl, inl (refl, i))
can_stop P w (Into' p v _ a) i = inr (refl, inl (refl, i))
can_stop P w (Zip' z _ a _ b) i = inr (refl, inl (refl, i))
can_stop P w (Merge' m _ a _ b) i = inr (refl, inl (refl, i))

pub stopped : {F : Type 0} (P : StateMeaning F) (w : ℕ → DeviceTold) (r : Rest F) → WritesNoMore w r → HasRun (IsRunOfRest P w r)
stopped P w r i = ([], Cut, can_stop P w r i)

-- a front of a run is a run that was left
pub left_earlier : {F : Type 0} (P : StateMeaning F) (w : ℕ → DeviceTold) (r : Rest F) (ys more : List Element) (e : End) → IsRunOfRest P w r (ys ++ more) e → IsRunOfRest P w r ys Cut
left_earlier P w Nil ys more e h = or_left (Unit {0}) (Exactly [] Done) ys more e h
left_earlier P w (Start n) ys more e h = or_left (IsIdle w n) (Gives any_leeway P.values w n) ys more e h
left_earlier P w (Read p from) ys more e h = or_left (Unit {0}) (ReadsFrom from (w p)) ys more e h
left_earlier P w (Within' s _ a) ys more e h = or_left (WritesNoMore w a) (IsRunOfRest P w a) ys more e h
left_earlier P w (Then' v _ a b) ys more e h = or_left (WritesNoMore w a × IsIdle w b.value) (Follows (Begins v) (IsRunOfRest P w a) (IsRun P.values w b.value) (IsIdle w b.value)) ys more e h
left_earlier P w (Through' _ a q) ys more e h = λ m xs s k. or_left (WritesNoMore w a) (PipedOn m xs (IsRunOfRest P w a)) ys more e (h m xs s k)
left_earlier P w (Finishing q) ys more e h = λ k xs c i. or_left (Unit {0}) (Exactly xs (end_by_fault c Done)) ys more e (h k xs c i)
left_earlier P w (Faulty c) ys more e h = or_left (Unit {0}) (Exactly [] (Fault c)) ys more e h
left_earlier P w (Groups' n f _ a) ys more e h = or_left (WritesNoMore w a) (Behind (waiting f) (IsRunOfRest P w a)) ys more e h
left_earlier P w (Take' n _ a) ys more e h = or_left (0 < n → WritesNoMore w a) (TakenOn n (IsRunOfRest P w a)) ys more e h
left_earlier P w (Into' p v _ a) ys more e h = or_left (((w p).written ≡ v) × ((w p).write_faults ≡ 0) × WritesNoMore w a) (WrittenOn v (w p) (IsRunOfRest P w a)) ys more e h
left_earlier P w (Zip' z _ a _ b) ys more e h = or_left (WritesNoMore w a × WritesNoMore w b) (Zipped (Behind z.left (IsRunOfRest P w a)) (Behind z.right (IsRunOfRest P w b))) ys more e h
left_earlier P w (Merge' m _ a _ b) ys more e h = or_left (WritesNoMore w a × WritesNoMore w b) (Merged (IsRunOfRest P w a) (WritesNoMore w a) (IsRunOfRest P w b) (WritesNoMore w b)) ys more e h

pub by_left : {I J : Type 0} {xs : List Element} {A B : Outcomes} → Leads xs A B → (I → HasRun A) → Leads xs (OrLeft I A) (OrLeft J B)
by_left {xs = xs} f some = record {
  gives = λ ys e. elim [
    | inl h ↦ inl (f.gives ys e h)
    | inr h ↦ inr (
      h.0,
      elim h.1 [
        | inl none ↦ let run = some none.1 in inr (run.0, run.1, rw (none.0, append-nil) (f.gives run.0 run.1 run.2))
        | inr more ↦ inr (more.0, more.1, rw append_assoc (f.gives (ys ++ more.0) more.1 more.2))
      ],
    )
  ];
}

pub by_first : {P : End → Type 0} {I : Type 0} {xs : List Element} {A B C : Outcomes} → Leads xs A B → Leads xs (Follows P A C I) (Follows P B C I)
by_first {xs = xs} f = record {
  gives = λ ys e. elim [
    | inl h ↦ inl (f.gives ys e h.0, h.1, h.2)
    | inr h ↦ inr (xs ++ h.0, h.1, h.2, f.gives h.0 h.2 h.3, h.4, h.5, rw (h.6, append_assoc) refl)
  ];
}

pub by_second : {P : End → Type 0} {I J : Type 0} {A C : Outcomes} (g : End) → P g → A [] g → Leads [] C (OrLeft J (Follows P A C I))
by_second g p a = record { gives = λ ys e h. inl (inr ([], ys, g, a, p, h, refl)) }

-- the first n of two lists
take_both : (n : ℕ) (xs ys : List Element) → take n xs ++ take (n - length xs) ys ≡ take n (xs ++ ys)
take_both zero [] ys = refl
take_both (suc n) [] ys = rw sub-zero refl
take_both zero (x ∷ xs) ys = rw zero-sub refl
take_both (suc n) (x ∷ xs) ys = ap (λ zs. x ∷ zs) (rw suc-sub-suc (take_both n xs ys))

-- these elements came of A's, and where no more are wanted A is left
pub by_taken : {xs : List Element} {A B : Outcomes} (n : ℕ) → 0 < n → (n ≤ length xs → A [] Cut) → Leads xs A B → Leads (take n xs) (TakenOn (n - length xs) A) (TakenOn n B)
by_taken {xs = xs} {B = B} n some stop f = record {
  gives = λ ys e. elim [
    | inl h ↦
        let all : n ≤ length xs = omega (arith, h.0) in
        let run : B xs Cut = subst (λ zs. B zs Cut) (append-nil xs) (f.gives [] Cut (stop all)) in
        inr (some, (xs, Cut, run, inl (all, rw (h.1, append-nil) refl, h.2)))
    | inr (more, h) ↦ inr (
      some,
      (
        xs ++ h.0,
        h.1,
        f.gives h.0 h.1 h.2,
        elim h.3 [
          | inl i ↦ inl (omega (arith, length-append xs h.0, i.0), rw i.1 (take_both n xs h.0), i.2)
          | inr i ↦ let le : length xs ≤ n = omega (arith, i.0) in inr (omega (arith, length-append xs h.0, i.0), rw (take_all n xs le, i.1) refl, i.2)
        ],
      ),
    )
  ];
}

pub by_taken_none : {A B : Outcomes} (n : ℕ) → Leads [] A B → Leads [] (TakenOn n A) (TakenOn n B)
by_taken_none n f = record { gives = λ ys e. elim [ inl h ↦ inl h | inr h ↦ inr (h.0, (h.1.0, h.1.1, f.gives h.1.0 h.1.1 h.1.2, h.1.3)) ] }

pub taken_stops : {A : Outcomes} (n : ℕ) → (0 < n → A [] Cut) → HasRun (TakenOn n A)
taken_stops zero a = ([], Done, inl (refl, refl, refl))
taken_stops (suc n) a = ([], Cut, inr (omega arith, ([], Cut, a (omega arith), inr (omega arith, refl, refl))))

-- before anything was taken
pub by_taken_first : {A : Outcomes} (n : ℕ) → (n ≡ 0 → A [] Cut) → Leads [] (TakenOn n A) (Taken n A)
by_taken_first n stop = record {
  gives = λ ys e. elim [
    | inl h ↦ ([], Cut, stop h.0, inl (omega (arith, h.0), rw (h.0, h.1) refl, h.2))
    | inr h ↦ h.1
  ];
}
