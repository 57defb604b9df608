-- What is known of each row that a node reads or writes.
use Rattle.std.proofs.Common.{◌≡◌, ℕ, List, [], ◌++◌, Option, Some, None, sym, subst}
use Rattle.std.specs.Prelude.{option_to_list}
use Rattle.std.specs.List.{AllByRecursion}
use Rattle.chunk_core.proofs.Each.{each_left, each_right}
use Rattle.pull_nodes.specs.Shape.{AndOf, EachPlace, EachRead, EachWrite, listed, read_place, reads_of, written_place, writes_of}
use Rattle.pull_nodes.specs.declared.node.Node.{Node}
use Rattle.pull_nodes.proofs.Folds.{side_by_side}

module _ (P : ℕ → Type 0) where
  and_of : (o : Option ℕ) (ps : List ℕ) (Q : Type 0) → (AllByRecursion P ps → Q) → AllByRecursion P (option_to_list o ++ ps) → AndOf P o Q
  and_of None ps Q f h = f h
  and_of (Some p) ps Q f h = (h.0, f h.1)

  -- of each place that is listed, of each place of the node
  each_listed : (own : Node → Option ℕ) (n : Node) → AllByRecursion P (listed own n) → EachPlace own P n
  each_listed own =
      side_by_side {A = List ℕ} {B = Type 0} (λ ps Q. AllByRecursion P ps → Q) [] (Unit {0}) ◌++◌ (λ Q R. Q × R) (λ m ps. option_to_list (own m) ++ ps) (λ m Q. AndOf P (own m) Q)
      (λ h. tt) (λ ps qs Q R f g h. (f (each_left P ps qs h), g (each_right P ps qs h))) (λ m. and_of (own m))

  -- a node that reads these rows
  pub each_read : (n : Node) (rows : List ℕ) → reads_of n ≡ rows → AllByRecursion P rows → EachRead P n
  each_read n rows is h = each_listed read_place n (subst (AllByRecursion P) (sym is) h)

  -- a node that writes these rows
  pub each_written : (n : Node) (rows : List ℕ) → writes_of n ≡ rows → AllByRecursion P rows → EachWrite P n
  each_written n rows is h = each_listed written_place n (subst (AllByRecursion P) (sym is) h)
