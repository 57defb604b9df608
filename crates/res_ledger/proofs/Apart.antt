-- Events of two kinds are two.
use Rattle.std.proofs.Common.{◌≡◌, ℕ, false, nat_eq, sym, ap, ◌∙◌}
use Rattle.std.proofs.lemmas.Bool.{false≢true}
use Rattle.res_ledger.specs.declared.event.What.{What}
use Rattle.res_ledger.specs.declared.event.What.TheVariants.{Open, Acquire, Lease, Cancel, Close, Final}
use Rattle.chunk_core.proofs.Bools.{itself}

-- a number for each kind of event
abbrev pub kind : What → ℕ
kind (Open s p) = 0
kind (Acquire r s) = 1
kind (Lease j s) = 2
kind (Cancel j x) = 3
kind (Close s x) = 4
kind (Final r x ok) = 5

-- written `apart e refl`, where e says that events of two kinds are one
pub apart : {v w : What} → v ≡ w → nat_eq (kind v) (kind w) ≡ false → ⊥
apart {v = v} {w = w} e h = false≢true (sym h ∙ sym (ap (λ x. nat_eq (kind v) (kind x)) e) ∙ itself (kind v))
