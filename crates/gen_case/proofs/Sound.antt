-- The plan of a case is within the limits of plans.
use Rattle.std.proofs.Common.{◌≡◌, ℕ, zero, suc, ◌<◌, ◌≤◌, ◌^◌, ◌&&◌, Some, None, true, [], length, map, decimal, refl, sym, ◌∙◌, subst, lit≤, lit<, arith}
use Rattle.std.specs.List.{slice_get}
use Rattle.std.proofs.lemmas.Bool.{le-leb}
use Rattle.std.proofs.lemmas.Option.{get_or_from_slice_get, slice_get_within}
use Rattle.std.proofs.lemmas.List.FromFn.{get_or-map-range_with_len, length-map-range_with_len}
use Rattle.std.proofs.lemmas.Fmt.{length-decimal-le}
use Rattle.pipeline_desc.specs.Limits.{is_path, most_streams}
use Rattle.pipeline_desc.specs.Meant.{setting_at}
use Rattle.pipeline_desc.specs.Sound.{AreAlone, AreSoundStreams, AreSoundTables, IsSoundStream, IsSoundTable}
use Rattle.pipeline_desc.specs.Places.{all_places}
use Rattle.pipeline_desc.specs.Outputs.{is_alone}
use Rattle.pipeline_desc.specs.declared.stream.StreamSpec.{StreamSpec}
use Rattle.run_rules.specs.Facts.{first_numbers}
use Rattle.gen_case.specs.Case.{stream_path}
use Rattle.gen_case.specs.Plan.{PlansAreSound, stream_spec, streams_of, tables_of_case}
use Rattle.gen_case.specs.declared.case.Case.{Case}
use Rattle.gen_case.proofs.Frames.{none_is_some, some_is}

tables_sound : AreSoundTables tables_of_case
tables_sound zero t e = subst (λ x. IsSoundTable [] x) (some_is _ t e) (record { name = refl; path = refl })
tables_sound (suc i) t e = absurd (none_is_some t e)

-- the stream at a place has the place's number
pub stream_at : (n k : ℕ) (s : StreamSpec) → slice_get (map stream_spec (first_numbers n)) k ≡ Some s → (k < n) × (stream_spec k ≡ s)
stream_at n k s e =
    let inside : k < n = omega (arith, slice_get_within (map stream_spec (first_numbers n)) k s e, length-map-range_with_len stream_spec 0 n) in
    (inside, sym (get_or-map-range_with_len stream_spec 0 n k k s inside (omega arith)) ∙ get_or_from_slice_get (map stream_spec (first_numbers n)) k s s e)

path_is : (k : ℕ) → k < 2 ^ 64 → is_path (stream_path k) ≡ true
path_is k h =
    let short : length (decimal k) ≤ 20 = length-decimal-le 20 k (lit< tt) (omega arith) h in
    (λ i. le-leb 1 (suc (length (decimal k))) (omega arith) i && le-leb (suc (length (decimal k))) 1024 (omega arith) i)

one_stream : (count k : ℕ) → k < 2 ^ 64 → IsSoundStream (setting_at tables_of_case [] count k) k (stream_spec k)
one_stream count k h = record {
  path = path_is k h;
  steps = refl;
  second = tt;
  few = lit≤ tt;
  between = lit≤ tt;
  on_fault = tt;
  to = tt;
  until = tt;
  kinds = refl;
}

streams_sound : (c : Case) → c.streams ≤ most_streams → AreSoundStreams (setting_at tables_of_case [] (length (streams_of c))) (streams_of c)
streams_sound c few k s e =
    let at = stream_at c.streams k s e in
    subst (λ x. IsSoundStream (setting_at tables_of_case [] (length (streams_of c)) k) k x) at.1 (one_stream (length (streams_of c)) k (omega (arith, at.0)))

streams_alone : (c : Case) → AreAlone (all_places tables_of_case None (streams_of c)) (streams_of c)
streams_alone c k s e = subst (λ x. is_alone (all_places tables_of_case None (streams_of c)) x.to ≡ true) (stream_at c.streams k s e).1 refl

pub plans_are_sound : PlansAreSound
plans_are_sound c few = record {
  some_open = lit≤ tt;
  few_open = lit≤ tt;
  some_wait = lit≤ tt;
  few_wait = lit≤ tt;
  some_read = lit≤ tt;
  few_read = lit≤ tt;
  few_taken = tt;
  few_tables = lit≤ tt;
  few_streams = omega (arith, length-map-range_with_len stream_spec 0 c.streams);
  tables = tables_sound;
  few_groups = lit≤ tt;
  follow = (refl, refl);
  streams = streams_sound c few;
  list = tt;
  alone = streams_alone c;
}
