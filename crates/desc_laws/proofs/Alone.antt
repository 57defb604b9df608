-- What the streams write to is no other path of a description.
use Rattle.std.proofs.Common.{◌≡◌, ◌≢◌, ◌⊎◌, ℕ, suc, ◌+◌, ◌<◌, cond, List, [], ◌∷◌, ◌++◌, length, Option, Some, None, inl, inr, ⊎_elim, refl, ap, ◌∙◌, sym, subst, arith, leb-true, leb-false, flat_map, append_assoc}
use Rattle.std.specs.Prelude.{option_to_list, unwrap_or}
use Rattle.std.specs.Str.{bytes_eq}
use Rattle.std.proofs.lemmas.Bool.{cases_eq, cases_lt}
use Rattle.std.proofs.lemmas.List.{length-append}
use Rattle.std.proofs.lemmas.List.Sums.{sum_by-append, sum_by-cons}
use Rattle.std.proofs.lemmas.Grind.{flat_map-append}
use Rattle.std.proofs.lemmas.Option.{slice_get_past}
use Rattle.std.proofs.lemmas.Slice.Eq.{bytes_eq-Decides}
use Rattle.toml.specs.Data.{no_members}
use Rattle.device_port.specs.Device.{Place, to_write}
use Rattle.pipeline_desc.specs.Outputs.{alone_from, is_alone, outputs_alone}
use Rattle.pipeline_desc.specs.Places.{all_places, list_places, stream_places, table_places}
use Rattle.pipeline_desc.specs.Reading.{passes}
use Rattle.pipeline_desc.specs.declared.refusal.RefusalKind.TheVariants as refused
use Rattle.pipeline_desc.specs.declared.listing.ListSpec.{ListSpec}
use Rattle.pipeline_desc.specs.declared.stream.StreamSpec.{StreamSpec}
use Rattle.pipeline_desc.specs.declared.table.TableSpec.{TableSpec}
use Rattle.desc_laws.specs.Flaws.{Flaw, Key}
use Rattle.desc_laws.specs.Flaws.Flaw.{OtherPath}
use Rattle.desc_laws.specs.Flaws.Key.{Path, With, To}
use Rattle.desc_laws.specs.Flaws.Part.{Table, Stream}
use Rattle.desc_laws.specs.Has.{HasFlaw, flaws_from, flaws_of_outputs}
use Rattle.desc_laws.specs.Places.{HasText, list_in, streams_in, tables_in, text_in, value_at, value_in}
use Rattle.desc_laws.specs.Says.{SaysStream, SaysStreams, SaysTables}
use Rattle.desc_laws.specs.Stages.{IsPathBeside}
use Rattle.desc_laws.proofs.Agree.{Agrees, test_agrees, then_agrees}
use Rattle.desc_laws.proofs.Lists.{AreListed}
use Rattle.desc_laws.proofs.Outputs.{IsNamed, IsOne, IsRead, IsTable, Tells, both_tell, count, given_text, list_tells, reads, reads_tell, streams_tell, tables_tell}
use Rattle.desc_laws.proofs.Positions.{at_stream}

-- where a text stands, there is a table or a stream
nothing_there : (t : List ℕ) → None ≡ Some t → ⊥
nothing_there t e = cc

stream_within : (bytes : List ℕ) (k : ℕ) (key : Key) (t : List ℕ) → HasText bytes (Stream k) key t → k < length (streams_in bytes ++ list_in bytes)
stream_within bytes k key t h =
    ⊎_elim (λ below. below)
    (λ past. absurd (nothing_there t (sym (ap (λ o. text_in (value_in (unwrap_or o no_members) key)) (slice_get_past (streams_in bytes ++ list_in bytes) k past)) ∙ h)))
    (cases_lt k (length (streams_in bytes ++ list_in bytes)))

table_within : (bytes : List ℕ) (i : ℕ) (key : Key) (t : List ℕ) → HasText bytes (Table i) key t → i < length (tables_in bytes)
table_within bytes i key t h =
    ⊎_elim (λ below. below)
    (λ past. absurd (nothing_there t (sym (ap (λ o. text_in (value_in (unwrap_or o no_members) key)) (slice_get_past (tables_in bytes) i past)) ∙ h)))
    (cases_lt i (length (tables_in bytes)))

-- what is said of streams is said of those before one, of that one, and of those behind it
said_split : (bytes : List ℕ) (i n : ℕ) (before rest : List StreamSpec) (s : StreamSpec) → n ≡ i + length before → SaysStreams bytes i (before ++ s ∷ rest) → SaysStreams bytes i before × SaysStream bytes n s × SaysStreams bytes (n + 1) rest
said_split bytes i n [] rest s e h = let same : i ≡ n = omega (arith, e) in (tt, subst (λ m. SaysStream bytes m s) same h.0, subst (λ m. SaysStreams bytes (m + 1) rest) same h.1)
said_split bytes i n (x ∷ before) rest s e h =
    let (a, b, c) = said_split bytes (i + 1) n before rest s (omega (arith, e)) h.1 in ((h.0, a), b, c)

module _ (bytes : List ℕ) (tables : List TableSpec) (list : Option ListSpec) (streams : List StreamSpec) (tables_said : SaysTables bytes 0 tables) (few : length tables ≡ length (tables_in bytes)) (list_said : AreListed bytes list)
    (streams_said : SaysStreams bytes 0 streams) (many : length streams ≡ length (streams_in bytes)) where
  abbrev places : List Place
  places = all_places tables list streams

  -- the number of the list, and whether there is one
  abbrev last : ℕ
  last = length (streams_in bytes)

  abbrev listed : ℕ
  listed = length (option_to_list list)

  module _ (before rest : List StreamSpec) (s : StreamSpec) (t : List ℕ) (all : streams ≡ before ++ s ∷ rest) (to : s.to ≡ Some t) where
    -- the other places
    abbrev others : List Place
    others = table_places tables ++ (list_places list ++ (flat_map stream_places before ++ (reads t bytes s ++ flat_map stream_places rest)))

    abbrev of_streams : List Place
    of_streams = flat_map stream_places before ++ (reads t bytes s ++ flat_map stream_places rest)

    abbrev Named : ℕ → Type 0
    Named = IsNamed t bytes

    abbrev AmongStreams : ℕ → Type 0
    AmongStreams n = IsOne Named 0 (length before) ⊎ (IsRead t bytes n ⊎ IsOne Named (n + 1) (length rest))

    abbrev Beside : ℕ → Type 0
    Beside n = IsOne (IsTable t bytes) 0 (length tables) ⊎ (IsOne Named last listed ⊎ AmongStreams n)

    split : (n : ℕ) → n ≡ 0 + length before → SaysStreams bytes 0 before × SaysStream bytes n s × SaysStreams bytes (n + 1) rest
    split n e = said_split bytes 0 n before rest s e (subst (SaysStreams bytes 0) all streams_said)

    others_tell : (n : ℕ) → n ≡ 0 + length before → Tells t others (Beside n)
    others_tell n e =
        let (a, b, c) = split n e in
        both_tell t (table_places tables) (list_places list ++ of_streams) (IsOne (IsTable t bytes) 0 (length tables)) (IsOne Named last listed ⊎ AmongStreams n)
        (tables_tell t bytes 0 tables tables_said)
        (both_tell t (list_places list) of_streams (IsOne Named last listed) (AmongStreams n) (list_tells t bytes last (list_in bytes) list list_said.says list_said.number list_said.bare)
        (both_tell t (flat_map stream_places before) (reads t bytes s ++ flat_map stream_places rest) (IsOne Named 0 (length before)) (IsRead t bytes n ⊎ IsOne Named (n + 1) (length rest)) (streams_tell t bytes 0 before a)
        (both_tell t (reads t bytes s) (flat_map stream_places rest) (IsRead t bytes n) (IsOne Named (n + 1) (length rest)) (reads_tell t bytes n s b) (streams_tell t bytes (n + 1) rest c))))

    -- the path stands once more than among the others
    once_more : count t places ≡ 1 + count t others
    once_more =
        let own : count t (stream_places s) ≡ 1 + count t (reads t bytes s) = ap (λ o. count t (stream_places (record s { to = o }))) to ∙ (sum_by-cons (λ q. cond (bytes_eq t q.path) 1 0) (to_write t) (reads t bytes s)
        ∙ ap (λ b. cond {A = ℕ} b 1 0 + count t (reads t bytes s)) ((bytes_eq-Decides t t).1 refl)) in
        let whole : count t places ≡ count t (table_places tables) + count t (list_places list ++ flat_map stream_places streams) = sum_by-append (λ q. cond (bytes_eq t q.path) 1 0) (table_places tables) (list_places list ++ flat_map stream_places streams) in
        let listed_too : count t (list_places list ++ flat_map stream_places streams) ≡ count t (list_places list) + count t (flat_map stream_places streams) = sum_by-append (λ q. cond (bytes_eq t q.path) 1 0) (list_places list) (flat_map stream_places streams) in
        let parts : count t (flat_map stream_places streams) ≡ count t (flat_map stream_places before) + count t (stream_places s ++ flat_map stream_places rest) =
        ap (λ l. count t (flat_map stream_places l)) all ∙ (ap (count t) (flat_map-append stream_places before (s ∷ rest)) ∙ sum_by-append (λ q. cond (bytes_eq t q.path) 1 0) (flat_map stream_places before) (stream_places s ++ flat_map stream_places rest)) in
        let here = sum_by-append (λ q. cond (bytes_eq t q.path) 1 0) (stream_places s) (flat_map stream_places rest) in
        let first = sum_by-append (λ q. cond (bytes_eq t q.path) 1 0) (table_places tables) (list_places list ++ of_streams) in
        let next = sum_by-append (λ q. cond (bytes_eq t q.path) 1 0) (list_places list) of_streams in
        let second = sum_by-append (λ q. cond (bytes_eq t q.path) 1 0) (flat_map stream_places before) (reads t bytes s ++ flat_map stream_places rest) in
        let third = sum_by-append (λ q. cond (bytes_eq t q.path) 1 0) (reads t bytes s) (flat_map stream_places rest) in
        omega (arith, own, whole, listed_too, parts, here, first, next, second, third)

    within : (j : ℕ) → Named j → j < last + listed
    within j h =
        let below : j < length (streams_in bytes ++ list_in bytes) = ⊎_elim (λ e. stream_within bytes j To t e) (λ r. ⊎_elim (λ e. stream_within bytes j Path t e) (λ e. stream_within bytes j With t e) r) h in
        omega (arith, below, length-append (streams_in bytes) (list_in bytes), list_said.number)

    in_all : last ≡ length before + suc (length rest)
    in_all = omega (arith, many, ap length all, length-append before (s ∷ rest))

    -- they are those that another key names
    beside_one : (n : ℕ) → n ≡ 0 + length before → IsPathBeside bytes n t → Beside n
    beside_one n e h = ⊎_elim (λ table. let (i, there) = table in inl (record { number = i; low = omega arith; high = let below = table_within bytes i Path t there in omega (arith, below, few); is = there })) (λ stream. stream_one stream.0 stream.1) h
      where
        -- one of stream j
        placed : (j : ℕ) → Named j → (j ≡ n → IsRead t bytes n) → Beside n
        placed j named own =
            ⊎_elim (λ same. inr (inr (inr (inl (own same)))))
            (λ other. ⊎_elim (λ low. inr (inr (inl (record { number = j; low = omega arith; high = omega (arith, low, e); is = named }))))
            (λ past. ⊎_elim (λ inside. inr (inr (inr (inr (record { number = j; low = omega (arith, past, other); high = omega (arith, e, inside, in_all); is = named })))))
            (λ behind. inr (inl (record { number = j; low = behind; high = within j named; is = named }))) (cases_lt j last)) (cases_lt j n))
            (cases_eq j n)

        stream_one : (j : ℕ) → HasText bytes (Stream j) Path t ⊎ (HasText bytes (Stream j) With t ⊎ ((j ≢ n) × HasText bytes (Stream j) To t)) → Beside n
        stream_one j h =
            ⊎_elim (λ path. placed j (inr (inl path)) (λ same. inl (subst (λ m. HasText bytes (Stream m) Path t) same path)))
            (λ more. ⊎_elim (λ side. placed j (inr (inr side)) (λ same. inr (subst (λ m. HasText bytes (Stream m) With t) same side))) (λ written. placed j (inl written.1) (λ same. absurd (written.0 same))) more)
            h

    one_beside : (n : ℕ) → n ≡ 0 + length before → Beside n → IsPathBeside bytes n t
    one_beside n e h =
        ⊎_elim (λ table. inl (table.number, table.is))
        (λ some. ⊎_elim (λ list. stream_beside list.number list.is (λ same. omega (arith, same, list.low, in_all, e)))
        (λ more. ⊎_elim (λ early. stream_beside early.number early.is (λ same. omega (arith, same, early.high, e)))
        (λ later. ⊎_elim (λ own. inr (n, ⊎_elim (λ path. inl path) (λ side. inr (inl side)) own)) (λ late. stream_beside late.number late.is (λ same. omega (arith, same, late.low))) later) more) some)
        h
      where
        stream_beside : (j : ℕ) → Named j → j ≢ n → IsPathBeside bytes n t
        stream_beside j named other = inr (j, ⊎_elim (λ written. inr (inr (other, written))) (λ r. ⊎_elim (λ path. inl path) (λ side. inr (inl side)) r) named)

  -- a stream that writes to no other path, or writes to none
  stream_alone : (before rest : List StreamSpec) (s : StreamSpec) (n : ℕ) → n ≡ 0 + length before → streams ≡ before ++ s ∷ rest → Agrees (HasFlaw bytes) (OtherPath n ∷ []) (passes (is_alone places s.to) refused.OutOfRange (at_stream n).0)
  stream_alone before rest s n e all = go s.to refl
    where
      is : text_in (value_at bytes (Stream n) To) ≡ s.to
      is = let (a, b, c) = said_split bytes 0 n before rest s e (subst (SaysStreams bytes 0) all streams_said) in given_text (value_at bytes (Stream n) To) s.to b.to

      go : (o : Option (List ℕ)) → s.to ≡ o → Agrees (HasFlaw bytes) (OtherPath n ∷ []) (passes (is_alone places o) refused.OutOfRange (at_stream n).0)
      go None none = ((λ h. let (text, has, beside) = h in nothing_there text (sym none ∙ (sym is ∙ has))), tt)
      go (Some t) some =
          test_agrees (HasFlaw bytes) (OtherPath n) (is_alone places (Some t))
          (λ t_alone h. let (text, has, beside) = h in
          let both : Some t ≡ Some text = sym some ∙ (sym is ∙ has) in let same : text ≡ t = cc in
          let more = (others_tell before rest s t all some n e).1 (beside_one before rest s t all some n e (subst (IsPathBeside bytes n) same beside)) in
          omega (arith, more, once_more before rest s t all some, leb-true (count t places) 1 t_alone))
          (λ crowded. let many_times = leb-false (count t places) 1 crowded in
          (t, is ∙ some, one_beside before rest s t all some n e ((others_tell before rest s t all some n e).0 (omega (arith, many_times, once_more before rest s t all some)))))

  alone_follow : (before rest : List StreamSpec) (n : ℕ) → n ≡ 0 + length before → streams ≡ before ++ rest → Agrees (HasFlaw bytes) (flaws_from (λ k. OtherPath k ∷ []) n rest) (alone_from places n rest)
  alone_follow before [] n e all = tt
  alone_follow before (s ∷ rest) n e all =
      then_agrees (HasFlaw bytes) (OtherPath n ∷ []) (flaws_from (λ k. OtherPath k ∷ []) (n + 1) rest) (passes (is_alone places s.to) refused.OutOfRange (at_stream n).0) (λ _. alone_from places (n + 1) rest)
      (stream_alone before rest s n e all)
      (λ u is. alone_follow (before ++ s ∷ []) rest (n + 1) (omega (arith, e, length-append before (s ∷ []))) (all ∙ sym (append_assoc before (s ∷ []) rest)))

  flaws_alike : {A B : Type 0} (of : ℕ → List Flaw) (i : ℕ) (xs : List A) (ys : List B) → length xs ≡ length ys → flaws_from of i xs ≡ flaws_from of i ys
  flaws_alike of i [] [] e = refl
  flaws_alike of i (x ∷ xs) (y ∷ ys) e = ap (λ fs. of i ++ fs) (flaws_alike of (i + 1) xs ys (omega (arith, e)))
  flaws_alike of i [] (y ∷ ys) e = absurd (omega (arith, e))
  flaws_alike of i (x ∷ xs) [] e = absurd (omega (arith, e))

  -- all that the streams write to
  pub outputs_agree : Agrees (HasFlaw bytes) (flaws_of_outputs bytes) (outputs_alone tables list streams)
  outputs_agree = subst (λ fs. Agrees (HasFlaw bytes) fs (outputs_alone tables list streams)) (flaws_alike (λ k. OtherPath k ∷ []) 0 streams (streams_in bytes) many) (alone_follow [] streams 0 refl refl)
