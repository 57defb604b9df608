-- What the devices of a site tell.
use Rattle.std.proofs.Common.{◌≡◌, ◌⊎◌, Option, Some, None, inl, inr, refl, ap, ◌∙◌, subst}
use Rattle.chunk_core.specs.declared.code.Exit.{Exit}
use Rattle.device_port.specs.Device.{DeviceTold}
use Rattle.pull_turns.specs.Around.{gist}
use Rattle.pull_stepper.specs.Sites.{SameDevice, told_by, told_or}

-- a device that told d tells the same, or was closed with the exit x
abbrev pub IsSameOrShut : Exit → DeviceTold → DeviceTold → Type 0
IsSameOrShut x d e = (e ≡ d) ⊎ ((gist e ≡ gist d) × (e.exit ≡ Some x))

pub shut_then : (x : Exit) (c d e : DeviceTold) → IsSameOrShut x c d → IsSameOrShut x d e → IsSameOrShut x c e
shut_then x c d e (inl a) b = subst (λ t. IsSameOrShut x t e) a b
shut_then x c d e (inr a) (inl b) = inr (ap gist b ∙ a.0, ap (λ t. t.exit) b ∙ a.1)
shut_then x c d e (inr a) (inr b) = inr (b.0 ∙ a.0, b.1)

pub shut_gist : (x : Exit) (d e : DeviceTold) → IsSameOrShut x d e → gist e ≡ gist d
shut_gist x d e (inl a) = ap gist a
shut_gist x d e (inr a) = a.0

pub shut_exit : (x : Exit) (d e : DeviceTold) → IsSameOrShut x d e → (e ≡ d) ⊎ (e.exit ≡ Some x)
shut_exit x d e (inl a) = inl a
shut_exit x d e (inr a) = inr a.1

pub same_gist : (d e : DeviceTold) → gist e ≡ gist d → SameDevice d e
same_gist d e h = record {
  number = ap (λ t. t.number) h;
  place = ap (λ t. t.place) h;
  present = ap (λ t. t.present) h;
  content = ap (λ t. t.content) h;
}

pub same_device : (d : DeviceTold) → SameDevice d d
same_device d = record { number = refl; place = refl; present = refl; content = refl }

module _ {V : Type 0} (told : V → DeviceTold) where
  -- where the tree's device does so, the place's does
  pub told_shut : (x : Exit) (o : Option (Option V)) (p q : Option V) → IsSameOrShut x (told_or told p) (told_or told q) → IsSameOrShut x (told_by told o p) (told_by told o q)
  told_shut x None p q h = inl refl
  told_shut x (Some (Some d)) p q h = inl refl
  told_shut x (Some None) p q h = h
