-- What is written to a device, and how the runs of it go on.
use Rattle.std.proofs.Common.{◌≡◌, inl, inr, ℕ, List, [], ◌++◌, refl, sym, ◌∙◌, ap, subst, append_assoc, append-nil, Option, Some, None, IfSome}
use Rattle.std.specs.List.{flat_map}
use Rattle.std.proofs.lemmas.Grind.{flat_map-append}
use Rattle.std.specs.Prelude.{option_map}
use Rattle.chunk_core.specs.declared.code.Code.TheVariants as code
use Rattle.chunk_core.specs.Elements.{Element, element_text, rendering_of}
use Rattle.chunk_core.specs.Outcomes.{End, Cut, Fault, Outcomes}
use Rattle.device_port.specs.Device.{DeviceTold}
use Rattle.pull_nodes.specs.Plain.{IsFront}
use Rattle.pull_nodes.specs.Runs.{Written}
use Rattle.pull_turns.specs.Rest.{StandsBehind, WrittenOn}
use Rattle.pull_turns.specs.Turned.{Leads}
use Rattle.pull_turns.proofs.Leads.{HasRun}

pub none_behind : (v : Option (List ℕ)) → option_map (λ w. w ++ []) v ≡ v
none_behind None = refl
none_behind (Some w) = ap (λ u. Some u) (append-nil w)

pub more_behind : (v : Option (List ℕ)) (xs ys : List ℕ) → option_map (λ w. w ++ ys) (option_map (λ w. w ++ xs) v) ≡ option_map (λ w. w ++ (xs ++ ys)) v
more_behind None xs ys = refl
more_behind (Some w) xs ys = ap (λ u. Some u) (append_assoc w xs ys)

-- behind nothing
from_none : (v : Option (List ℕ)) (bytes : List ℕ) (d : DeviceTold) → IfSome v (λ w. w ≡ []) → StandsBehind v bytes d → IfSome d.written (λ w. w ≡ bytes)
from_none None bytes d none h = subst (λ o. IfSome o (λ w. w ≡ bytes)) (sym h) tt
from_none (Some w) bytes d none h = subst (λ o. IfSome o (λ w. w ≡ bytes)) (sym h) (ap (λ u. u ++ bytes) none)

from_front : (v : Option (List ℕ)) (front text : List ℕ) (d : DeviceTold) → IfSome v (λ w. w ≡ []) → IsFront front text → StandsBehind v front d → IfSome d.written (λ w. IsFront w text)
from_front None front text d none f h = subst (λ o. IfSome o (λ w. IsFront w text)) (sym h) tt
from_front (Some w) front text d none f h = subst (λ o. IfSome o (λ w. IsFront w text)) (sym h) (f.0, f.1 ∙ ap (λ u. u ++ f.0) (ap (λ u. u ++ front) (sym none)))

-- before anything was written
pub written_first : (v : Option (List ℕ)) (d : DeviceTold) (A : Outcomes) → IfSome v (λ w. w ≡ []) → Leads [] (WrittenOn v d A) (Written d A)
written_first v d A none = record {
  gives = λ ys e h. (
    h.0,
    h.1,
    h.2,
    h.3,
    elim h.4 [
      | inl i ↦ inl (i.0, from_none v (rendering_of h.0) d none i.1, i.2)
      | inr i ↦ inr (i.0, from_front v i.1.0 (rendering_of h.0) d none i.1.1 i.1.2, i.2)
    ],
  );
}

-- what is below ended with nothing more
pub written_ends : (v : Option (List ℕ)) (d : DeviceTold) (A : Outcomes) (e : End) → d.written ≡ v → d.write_faults ≡ 0 → A [] e → WrittenOn v d A [] e
written_ends v d A e same faults a = ([], e, a, refl, inl (faults, same ∙ sym (none_behind v), refl))

-- nothing more was written, and no write failed
pub some_written : (v : Option (List ℕ)) (d : DeviceTold) (A : Outcomes) → d.written ≡ v → d.write_faults ≡ 0 → A [] Cut → HasRun (WrittenOn v d A)
some_written v d A same faults a = ([], Cut, written_ends v d A Cut same faults a)

-- the text of xs was written
pub written_lead : (v z : Option (List ℕ)) (d : DeviceTold) (xs : List Element) (A B : Outcomes) → z ≡ option_map (λ w. w ++ rendering_of xs) v → Leads xs A B → Leads [] (WrittenOn z d A) (WrittenOn v d B)
written_lead v z d xs A B is f = record {
  gives = λ ys e h. (
    xs ++ h.0,
    h.1,
    f.gives h.0 h.1 h.2,
    h.3,
    elim h.4 [
      | inl i ↦ inl (i.0, behind (rendering_of h.0) (rendering_of (xs ++ h.0)) (both h.0) i.1, i.2)
      | inr i ↦ inr (
        i.0,
        (
          rendering_of xs ++ i.1.0,
          (i.1.1.0, both h.0 ∙ (ap (λ u. rendering_of xs ++ u) i.1.1.1 ∙ sym (append_assoc (rendering_of xs) i.1.0 i.1.1.0))),
          behind i.1.0 (rendering_of xs ++ i.1.0) refl i.1.2,
        ),
        i.2,
      )
    ],
  );
}
  where
    both : (zs : List Element) → rendering_of (xs ++ zs) ≡ rendering_of xs ++ rendering_of zs
    both zs = flat_map-append element_text xs zs

    behind : (bytes text : List ℕ) → text ≡ rendering_of xs ++ bytes → StandsBehind z bytes d → StandsBehind v text d
    behind bytes text e h = h ∙ (ap (λ o. option_map (λ w. w ++ bytes) o) is ∙ (more_behind v (rendering_of xs) bytes ∙ ap (λ u. option_map (λ w. w ++ u) v) (sym e)))

-- a front of the text of xs was written, and then a write failed
pub written_fails : (v : Option (List ℕ)) (d : DeviceTold) (xs : List Element) (front : List ℕ) (A : Outcomes) → A xs Cut → d.write_faults ≡ 1 → IsFront front (rendering_of xs) → StandsBehind v front d
    → WrittenOn v d A [] (Fault code.Write)
written_fails v d xs front A a faults f h = (xs, Cut, a, refl, inr (faults, (front, f, h), refl))
