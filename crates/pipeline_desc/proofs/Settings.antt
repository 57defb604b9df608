-- Streams beside tables, one after another.
use Rattle.std.proofs.Common.{◌≡◌, ◌⊎◌, ℕ, zero, suc, ◌≤◌, List, [], ◌∷◌, ◌++◌, length, take, Some, Result, Ok, Err, IfOk, inl, inr, arith, refl, ap, ◌∙◌, sym, subst, ⊎_elim}
use Rattle.std.specs.Prelude.{slice_get}
use Rattle.std.proofs.Math.Seq.{take-append_seam}
use Rattle.std.proofs.lemmas.List.{take-append-le}
use Rattle.std.proofs.lemmas.Option.{slice_get_within}
use Rattle.toml.specs.Data.{Members}
use Rattle.pipeline_desc.specs.Meant.{SettingMeant, setting_at}
use Rattle.pipeline_desc.specs.Reading.{each_from}
use Rattle.pipeline_desc.specs.Sound.{AreSoundStreams, AreSoundTables, IsSoundStream, IsSoundTable}
use Rattle.pipeline_desc.specs.Streams.{stream_meant, streams_meant}
use Rattle.pipeline_desc.specs.declared.group.GroupSpec.{GroupSpec}
use Rattle.pipeline_desc.specs.declared.stream.StreamSpec.{StreamSpec}
use Rattle.pipeline_desc.specs.declared.table.TableSpec.{TableSpec}

-- an element of a list with one more stands in the list, or is that one
get_more : {A : Type 0} (xs : List A) (y : A) (k : ℕ) (x : A) → slice_get (xs ++ y ∷ []) k ≡ Some x → (slice_get xs k ≡ Some x) ⊎ ((k ≡ length xs) × (y ≡ x))
get_more [] y zero x is = inr (refl, cc)
get_more [] y (suc k) x is = inl is
get_more (z ∷ zs) y zero x is = inl is
get_more (z ∷ zs) y (suc k) x is = ⊎_elim (λ before. inl before) (λ last. inr (omega (arith, last.0), last.1)) (get_more zs y k x is)

-- one more stream
pub sound_more : (setting : ℕ → SettingMeant) (found : List StreamSpec) (i : ℕ) (s : StreamSpec) → length found ≡ i → AreSoundStreams setting found → IsSoundStream (setting i) i s → AreSoundStreams setting (found ++ s ∷ [])
sound_more setting found i s count sound one k x is =
    ⊎_elim (λ before. sound k x before)
    (λ last. subst (λ (y : StreamSpec). IsSoundStream (setting k) k y) last.1 (subst (λ n. IsSoundStream (setting n) n s) (sym (last.0 ∙ count)) one))
    (get_more found s k x is)

-- one more table
pub tables_more : (before found : List TableSpec) (t : TableSpec) → before ≡ found → AreSoundTables found → IsSoundTable before t → AreSoundTables (found ++ t ∷ [])
tables_more before found t same sound one i x is =
    ⊎_elim (λ before. let within : i ≤ length found = omega (arith, slice_get_within found i x before) in rw (take-append-le i found (t ∷ []) within) (sound i x before))
    (λ last. subst (λ (y : TableSpec). IsSoundTable (take i (found ++ t ∷ [])) y) last.1 (subst (λ b. IsSoundTable b t) (same ∙ sym (ap (λ n. take n (found ++ t ∷ [])) last.0 ∙ take-append_seam found (t ∷ []))) one))
    (get_more found t i x is)

-- as many streams are counted as are described
pub setting_is : (tables : List TableSpec) (groups : List GroupSpec) (xs : List Members) (n : ℕ) → length xs ≡ n
    → each_from (λ k. stream_meant (setting_at tables groups n k) k) 0 xs ≡ streams_meant tables groups xs
setting_is tables groups xs n e = ap (λ m. each_from (λ k. stream_meant (setting_at tables groups m k) k) 0 xs) (sym e)

-- streams that are sound where so many are counted
pub sound_counted : {E : Type 0} (tables : List TableSpec) (groups : List GroupSpec) (count : ℕ) (r : Result (List StreamSpec) E) → IfOk r (AreSoundStreams (setting_at tables groups count)) → IfOk r (λ s. length s ≡ count)
    → IfOk r (λ s. AreSoundStreams (setting_at tables groups (length s)) s)
sound_counted tables groups count (Ok s) sound n = subst (λ m. AreSoundStreams (setting_at tables groups m) s) (sym n) sound
sound_counted tables groups count (Err e) sound n = tt
