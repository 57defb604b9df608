-- A path that is any word.
use Rattle.std.proofs.Common.{◌≡◌, ◌≢◌, ◌<◌, ◌≤◌, ◌==◌, ℕ, true, false, List, [], ◌∷◌, length, nat_le, Some, None, arith, ne_eqb}
use Rattle.std.specs.Prelude.{codes}
use Rattle.std.proofs.lemmas.Bool.{le-leb, lt-leb}
use Rattle.clap.specs.Words.{Text, fault_of, first_of, matches_of}
use Rattle.clap.proofs.OnLiterals.{clap_on_literals}
use Rattle.command_words.specs.declared.asked.Asked.TheVariants.{Cat}
use Rattle.command_words.specs.Words.{cat_app, cat_at, command_of}

one_fault : (c : ℕ) (rest : Text) → (c == 45) ≡ false → fault_of cat_app (codes "cat" ∷ (c ∷ rest) ∷ []) ≡ []
unfolding clap_on_literals
one_fault c rest e = simp e

one_path : (c : ℕ) (rest : Text) → (c == 45) ≡ false → first_of (codes "path") (matches_of cat_app (codes "cat" ∷ (c ∷ rest) ∷ [])) ≡ Some (c ∷ rest)
unfolding clap_on_literals
one_path c rest e = simp e

no_chunk : (c : ℕ) (rest : Text) → (c == 45) ≡ false → first_of (codes "chunk") (matches_of cat_app (codes "cat" ∷ (c ∷ rest) ∷ [])) ≡ None
unfolding clap_on_literals
no_chunk c rest e = simp e

by_path : (c : ℕ) (rest : Text) → c ≢ 45 → command_of (codes "cat" ∷ (c ∷ rest) ∷ []) ≡ cat_at None (Some (c ∷ rest))
by_path c rest other = let e = ne_eqb c 45 other in rw (one_fault c rest e, one_path c rest e, no_chunk c rest e)

pub any_path : (c : ℕ) (rest : List ℕ) → c ≢ 45 → length rest ≤ 1023 → command_of (codes "cat" ∷ (c ∷ rest) ∷ []) ≡ Some (Cat 4096 (c ∷ rest))
any_path c rest other few = let some : nat_le 1 (length (c ∷ rest)) ≡ true = le-leb _ _ (omega arith) in let fits : nat_le (length (c ∷ rest)) 1024 ≡ true = le-leb _ _ (omega (arith, few)) in rw (by_path c rest other, some, fits)

pub any_long_path : (c : ℕ) (rest : List ℕ) → c ≢ 45 → 1023 < length rest → command_of (codes "cat" ∷ (c ∷ rest) ∷ []) ≡ None
any_long_path c rest other many = let some : nat_le 1 (length (c ∷ rest)) ≡ true = le-leb _ _ (omega arith) in let fits : nat_le (length (c ∷ rest)) 1024 ≡ false = lt-leb _ _ (omega (arith, many)) in rw (by_path c rest other, some, fits)
