-- A place is the same as itself.
use Rattle.std.proofs.Common.{◌≡◌, ℕ, true, ◌&&◌, List, [], ◌∷◌, refl, sym, subst}
use Rattle.std.specs.Str.{bytes_eq}
use Rattle.chunk_core.proofs.Bools.{itself}
use Rattle.device_port.specs.declared.device.Mode.{Mode}
use Rattle.device_port.specs.declared.device.Mode.TheVariants as mode
use Rattle.device_port.specs.Device.{Place}
use Rattle.run_rules.specs.Facts.{is_mode, is_place}

path_itself : (p : List ℕ) → bytes_eq p p ≡ true
path_itself [] = refl
path_itself (x ∷ p) = subst (λ b. (b && bytes_eq p p) ≡ true) (sym (itself x)) (path_itself p)

mode_itself : (m : Mode) → is_mode m m ≡ true
mode_itself mode.Read = refl
mode_itself mode.Write = refl

pub place_itself : (p : Place) → is_place p p ≡ true
place_itself p = subst (λ b. (b && is_mode p.mode p.mode) ≡ true) (sym (path_itself p.path)) (mode_itself p.mode)
