-- The path `a` begins otherwise than the prefix `p`.
use Rattle.std.proofs.Common.{nat_eq, ap, sym, ◌∙◌, get_or}
use Rattle.std.proofs.lemmas.Bool.{false≢true}
use Rattle.rotate_rules.specs.Pieces.{file_name}
use Rattle.worked_rotations.proofs.page.one_file_is_copied_into_two.Goals as goal

pub run_rotate-outcome-requires-clause-apart : goal.run_rotate-outcome-requires-clause-apart
run_rotate-outcome-requires-clause-apart g c =
    λ i few same. false≢true (ap (λ xs. nat_eq (get_or xs 0 0) 112) (sym c.in_ok-path.ensures ∙ (same ∙ ap (λ p. file_name p i) c.in_ok-prefix.ensures)))
