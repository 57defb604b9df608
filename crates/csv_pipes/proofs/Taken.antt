-- A record that was read is the first of those that were left.
use Rattle.std.proofs.Common.{◌≡◌, ℕ, ◌+◌, ◌<◌, true, false, List, [], ◌∷◌, length, Option, Some, refl, ap, Bool, ◌∙◌, sym, arith, inl}
use Rattle.csv.specs.Machine.{Read, next_record, ends_at_end}
use Rattle.csv.specs.Reading.{ReadRecord, Reached, default_config, records_from, source_of, took_first}
use Rattle.csv.specs.declared.reader.Reader.{Reader}
use Rattle.csv.proofs.ReadFacts.{rows-end, rows-more}
use Rattle.csv_pipes.specs.Left.{IsReading, TakesRecord, records_at, records_behind}
use Rattle.csv_pipes.proofs.Walks.{records_take, records_end, state_between}

module _ {R : Type 0} (remaining : R → Option (List ℕ)) (a b : Reader R) (fields : List (List ℕ)) (reading : IsReading remaining a) where
  -- what the read showed, where there was a record
  shown : ReadRecord remaining a b true fields
      → (z : List ℕ) × (source_of remaining b ≡ Some z) × (p : Read) × (next_record default_config a.state [] [] reading.known.0 ≡ Some p) × (fields ≡ p.0) × (p.1 ≡ b.state) × (p.2 ≡ z)
  unfolding Reached
  shown read = let m = rows-more remaining a b fields default_config a.state reading.known.0 reading.known.0 [] reading.config reading.known.1 (refl, refl) read in
      (m.0, m.1, m.2.0, m.2.1, m.2.2, m.2.3.0, m.2.3.1)

  takes_first : ReadRecord remaining a b true fields → records_at remaining a ≡ fields ∷ records_at remaining b
  takes_first read =
      let (z, source, p, next, is, state, rest) = shown read in
      let xs = reading.known.0 in
      let long : length xs < length xs + 1 = omega arith in
      let behind : records_from default_config (length p.2 + 1) p.1 p.2 ≡ records_at remaining b =
      (λ i. records_from default_config (length (rest i) + 1) (state i) (rest i)) ∙ ap (records_behind b.state) (sym source) in
      ap (records_behind a.state) reading.known.1 ∙ (records_take (length xs + 1) a.state xs p reading.between long next ∙ (λ i. sym is i ∷ behind i))

  none_left : ReadRecord remaining a b false fields → records_at remaining a ≡ []
  none_left read =
      let xs = reading.known.0 in
      ap (records_behind a.state) reading.known.1
      ∙ records_end (length xs + 1) a.state xs (rows-end remaining a b fields default_config xs reading.config reading.known.1 read)

  -- the record is the first, or there was none
  pub takes : (found : Bool) → ReadRecord remaining a b found fields → TakesRecord found (records_at remaining a) fields (records_at remaining b)
  takes true read = takes_first read
  takes false read = none_left read

  -- behind a record it reads on
  pub reads_on : took_first b ≡ true → ReadRecord remaining a b true fields → IsReading remaining b
  reads_on took read =
      let (z, source, p, next, is, state, rest) = shown read in
      record {
        plain = read.3 ∙ reading.plain;
        ready = inl took;
        config = read.2 ∙ reading.config;
        between = ap ends_at_end (sym state) ∙ state_between reading.known.0 a.state p reading.between next;
        known = (z, source);
      }
