-- The plan that counts lines is within the limits of plans.
use Rattle.std.proofs.Common.{◌≡◌, ℕ, zero, suc, ◌≤◌, true, Some, None, List, [], ◌∷◌, length, map, refl, subst, lit≤, arith}
use Rattle.std.specs.List.{AllByRecursion, slice_get}
use Rattle.std.proofs.lemmas.List.{length-map}
use Rattle.pipeline_desc.specs.Limits.{is_path, most_streams}
use Rattle.pipeline_desc.specs.Meant.{setting_at}
use Rattle.pipeline_desc.specs.Outputs.{is_alone}
use Rattle.pipeline_desc.specs.Places.{all_places}
use Rattle.pipeline_desc.specs.Sound.{AreSoundTables, IsSoundPlan, IsSoundStream}
use Rattle.pipeline_desc.specs.declared.stream.StreamSpec.{StreamSpec}
use Rattle.digest_parts.specs.Plan.{counting_plan, lines_of}

none_is_some : {A : Type 0} (x : A) → None ≡ Some x → ⊥
none_is_some x e = cc

some_is : {A : Type 0} (x y : A) → Some x ≡ Some y → x ≡ y
some_is x y e = cc

-- the stream at a place is that of a path
stream_at : (paths : List (List ℕ)) (k : ℕ) (s : StreamSpec) → AllByRecursion (λ p. is_path p ≡ true) paths → slice_get (map lines_of paths) k ≡ Some s → (p : List ℕ) × (is_path p ≡ true) × (lines_of p ≡ s)
stream_at [] k s all e = absurd (none_is_some s e)
stream_at (p ∷ paths) zero s all e = (p, all.0, some_is (lines_of p) s e)
stream_at (p ∷ paths) (suc k) s all e = stream_at paths k s all.1 e

one_stream : (count k : ℕ) (p : List ℕ) → is_path p ≡ true → IsSoundStream (setting_at [] [] count k) k (lines_of p)
one_stream count k p fit = record { path = fit; steps = refl; second = tt; few = lit≤ tt; between = lit≤ tt; on_fault = tt; to = tt; until = tt; kinds = refl }

no_tables : AreSoundTables []
no_tables i t e = absurd (none_is_some t e)

pub sound : (paths : List (List ℕ)) → length paths ≤ most_streams → AllByRecursion (λ p. is_path p ≡ true) paths → IsSoundPlan (counting_plan paths)
sound paths few all = record {
  some_open = lit≤ tt;
  few_open = lit≤ tt;
  some_wait = lit≤ tt;
  few_wait = lit≤ tt;
  some_read = lit≤ tt;
  few_read = lit≤ tt;
  few_taken = tt;
  few_tables = lit≤ tt;
  few_streams = omega (arith, few, length-map paths lines_of);
  tables = no_tables;
  few_groups = lit≤ tt;
  follow = (refl, refl);
  streams = λ k s e. let at = stream_at paths k s all e in subst (λ x. IsSoundStream (setting_at [] [] (length (map lines_of paths)) k) k x) at.2 (one_stream (length (map lines_of paths)) k at.0 at.1);
  list = tt;
  alone = λ k s e. let at = stream_at paths k s all e in subst (λ x. is_alone (all_places [] None (map lines_of paths)) x.to ≡ true) at.2 refl;
}
