-- Each run with one thing wrong is refused.
use Rattle.std.proofs.Common.{◌≡◌, ◌+◌, ℕ, List, [], ◌∷◌, ◌++◌, map, flat_map, length, Option, Some, None, IfSome, refl, sym, ap, ◌∙◌, subst, inl, inr, arith, ⊎_elim}
use Rattle.std.specs.Prelude.{codes, unwrap_or}
use Rattle.std.proofs.lemmas.Bool.{false≢true, lt-ltb}
use Rattle.chunk_core.specs.Elements.{Byte, Element, Row, rendering_of}
use Rattle.chunk_core.specs.Lists.{IsAmong}
use Rattle.chunk_core.specs.Feed.{Given}
use Rattle.chunk_core.specs.Outcomes.{End, Cut, Done, Fault, Outcomes}
use Rattle.chunk_core.specs.Tables.{no_values}
use Rattle.chunk_core.specs.declared.code.Code.{Code}
use Rattle.chunk_core.specs.declared.code.Code.TheVariants as code
use Rattle.chunk_core.specs.declared.code.Exit.TheVariants.{Errored}
use Rattle.chunk_core.specs.declared.code.How.{How}
use Rattle.chunk_core.specs.declared.code.How.TheVariants as how
use Rattle.chunk_core.proofs.Members.{among_cons, among_nil}
use Rattle.res_ledger.specs.declared.event.Event.{Event}
use Rattle.res_ledger.specs.Ledger.{IsAcquired}
use Rattle.res_ledger.proofs.Apart.{apart}
use Rattle.res_ledger.proofs.Judged.{legal_found}
use Rattle.res_ledger.proofs.Ordering.{ordered_complete}
use Rattle.device_port.specs.Device.{Place, DeviceTold, to_read}
use Rattle.pull_nodes.specs.PipeRule.{without_fault}
use Rattle.pull_nodes.specs.Pairs.{pair_of, pairs_of}
use Rattle.pull_nodes.specs.Pipes.{all_of, part_of}
use Rattle.pull_nodes.specs.Plain.{IsFront}
use Rattle.pull_nodes.specs.Runs.{GivesAtEnd, Reads, Zipped}
use Rattle.pull_nodes.specs.declared.pipe.Pipe.TheVariants as pipe
use Rattle.pull_nodes.proofs.Fronts.{front_cons}
use Rattle.pull_nodes.proofs.Lines.{lines_lawful}
use Rattle.run_rules.specs.Homes.{IsUntouched}
use Rattle.run_rules.specs.Opening.{AreTablesFailed, IsOuterEnd}
use Rattle.run_rules.specs.Outputs.{IsReported, RunsOrLeft, elements_in_pieces}
use Rattle.run_rules.specs.Run.{Performs}
use Rattle.run_rules.specs.Work.{Opener, RunRecord}
use Rattle.run_laws.specs.FiveFiles.{five_work}
use Rattle.run_laws.specs.OneStream.{one_stream_work}
use Rattle.run_laws.specs.Others.{copy_work, no_streams, silent_work, stopped_work, u_csv}
use Rattle.run_laws.specs.Refused.{another_number, another_value, begins_behind_a_failed_write, begins_behind_a_fault, begins_in_silence, begins_unwanted, cancel_told_otherwise, canceled_by_another, crossed_pairs, cut_behind_the_last, done_without_close, fault_of_no_device, first_table_first, halted_by_a_later_one, in_turn_work, invented_scope, lease_by_a_stream, leased_table_ended, left_before_closing, next_table_tried, nobody_given, one_frame_too_many, one_frame_work, other_bytes_stored, root_never_closed, root_told_otherwise, second_device, side_left_open, stolen_row, stopped_by_nothing, stopped_one_begins, tables_never_acquired, third_pair, third_too_early, two_open, with_text, without_lease}
use Rattle.run_laws.specs.Sides.{LinesIn, PairsIn, paired, pairs_work, three_lines, two_lines}
use Rattle.run_laws.specs.Streams.{Gathered, InFile, Leaves, ThroughPipe, no_listing, opener, value_in}
use Rattle.run_laws.specs.Tables.{looked_up, lookup_work, t_csv, table_bytes, unread_table_device}
use Rattle.run_laws.specs.Written.{read_device}
use Rattle.run_laws.proofs.Judging.{by_causes, by_exits, by_leaving, by_ours, by_pace, by_shut, by_stops, no_nil, ran}
use Rattle.run_laws.proofs.Sides.{pairs, pairs_text, three, three_all, three_fault, two, two_all, two_fault}
use Rattle.run_laws.proofs.Tables.{row_texts}
use Rattle.run_laws.proofs.Within.{IsWithin, file_within, front_trans, left_within, or_left_within, piped_within, reads_within, rendered_front, rendered_pieces}

-- How far the outer stream is ahead, and how many are open.

pub without_lease_refused : ¬ (Performs stopped_work without_lease)
without_lease_refused h = by_pace without_lease.events refl h.ledger.given.pace

pub two_open_refused : ¬ (Performs in_turn_work two_open)
two_open_refused h = by_pace two_open.events refl h.ledger.given.pace

-- Rows.

pub first_table_first_refused : ¬ (Performs (no_streams (t_csv ∷ u_csv ∷ [])) first_table_first)
first_table_first_refused h = false≢true (ordered_complete first_table_first.events h.ledger.ordered)

pub leased_table_ended_refused : ¬ (Performs lookup_work leased_table_ended)
leased_table_ended_refused h = false≢true (legal_found leased_table_ended.events h.ledger.legal)

pub stolen_row_refused : ¬ (Performs stopped_work stolen_row)
stolen_row_refused = by_ours stopped_work stolen_row refl

pub invented_scope_refused : ¬ (Performs copy_work invented_scope)
invented_scope_refused h = let l = h.ledger.scopes.1.0 in omega (arith, l)

pub lease_by_a_stream_refused : ¬ (Performs stopped_work lease_by_a_stream)
lease_by_a_stream_refused = by_ours stopped_work lease_by_a_stream refl

pub left_before_closing_refused : ¬ (Performs copy_work left_before_closing)
left_before_closing_refused = by_leaving copy_work left_before_closing refl

-- Devices.

pub second_device_refused : ¬ (Performs copy_work second_device)
second_device_refused h = let l = h.devices.few.1.0 in omega (arith, l)

abbrev pub size_of : Option (List ℕ) → ℕ
size_of (Some bytes) = length bytes
size_of None = 0

pub other_bytes_stored_refused : ¬ (Performs copy_work other_bytes_stored)
other_bytes_stored_refused h = let e : Some (codes "hell") ≡ Some (codes "hello\n") = h.devices.stored.0 refl refl in let l = ap size_of e in omega (arith, l)

-- Outputs.

pub one_frame_too_many_refused : ¬ (Performs silent_work one_frame_too_many)
one_frame_too_many_refused h = let r = ran silent_work one_frame_too_many (no_nil _ _) h in let l = r.outputs.few in omega (arith, l)

pub cut_behind_the_last_refused : ¬ (Performs one_frame_work cut_behind_the_last)
cut_behind_the_last_refused h = let r = ran one_frame_work cut_behind_the_last (no_nil _ _) h in let l = r.outputs.few in omega (arith, l)

abbrev end_number : End → ℕ
end_number Done = 0
end_number (Fault c) = 1
end_number Cut = 2

abbrev how_number : How → ℕ
how_number how.Done = 0
how_number how.Halted = 1
how_number (how.Fault c) = 2
how_number how.Memory = 3

-- an end that is reported as done is Done
pub done : (e : End) → IsReported e how.Done → e ≡ Done
done Done r = refl
done (Fault c) r = let h = ap how_number r in absurd (omega (arith, h))
done Cut (inl r) = let h = ap how_number r in absurd (omega (arith, h))
done Cut (inr r) = let h = ap how_number r in absurd (omega (arith, h))

-- what is done was not left
ended_run : (A : Outcomes) (ys : List Element) (e : End) → e ≡ Done → RunsOrLeft A ys e → A ys e
ended_run A ys e q (inl r) = r
ended_run A ys e q (inr r) = let n = ap end_number (sym q ∙ r.0) in absurd (omega (arith, n))

-- what was gathered to the end is given
given_at_end : (given : Given) (xs : List Element) (g : End) (ys : List Element) (e : End) → e ≡ Done → GivesAtEnd (λ zs. without_fault []) (λ zs. given) xs g ys e → ys ≡ given.list
given_at_end given xs Done ys e q h = h.0
given_at_end given xs (Fault c) ys e q h = let n = ap end_number (sym q ∙ h.1) in absurd (omega (arith, n))
given_at_end given xs Cut ys e q h = let n = ap end_number (sym q ∙ h.1) in absurd (omega (arith, n))

gathered_done : (d : DeviceTold) (given : Given) (ys : List Element) (e : End) → e ≡ Done → InFile d (Gathered (Leaves (Reads d)) given) ys e → ys ≡ given.list
gathered_done d given ys e q (inl (inl (o, f, inl x))) = given_at_end given x.0 x.1 ys e q x.3
gathered_done d given ys e q (inl (inl (o, f, inr x))) = let n = ap end_number (sym q ∙ x.0) in absurd (omega (arith, n))
gathered_done d given ys e q (inl (inr x)) = let n = ap end_number (sym q ∙ x.3) in absurd (omega (arith, n))
gathered_done d given ys e q (inr x) = let n = ap end_number (sym q ∙ x.0) in absurd (omega (arith, n))

abbrev third_of : List ℕ → ℕ
third_of (a ∷ b ∷ c ∷ xs) = c
third_of xs = 0

-- the rows, by the values of the two keys
abbrev rows_by : Option (List ℕ) → Option (List ℕ) → List Element
rows_by k z = Row (codes "k" ∷ unwrap_or k [] ∷ []) ∷ Row (codes "z" ∷ unwrap_or z [] ∷ []) ∷ []

pub another_value_refused : ¬ (Performs lookup_work another_value)
another_value_refused h =
    let r = ran lookup_work another_value (no_nil _ _) h in
    let o = r.outputs.outputs.0 in
    let content : (r.home 0).content ≡ Some table_bytes = r.rows.at_home.1 in
    let at_key : (key : List ℕ) → r.values 0 key ≡ value_in table_bytes key = λ key. subst (λ c. IfSome c (λ bytes. r.values 0 key ≡ value_in bytes key)) content (r.rows.values 0 key (omega arith)) in
    let rows : elements_in_pieces o.pieces ≡ (looked_up r.values).list = gathered_done (r.home 1) (looked_up r.values) (elements_in_pieces o.pieces) o.end (done o.end o.reported) (ended_run (InFile (r.home 1) (Gathered (Leaves (Reads (r.home 1))) (looked_up r.values))) (elements_in_pieces o.pieces) o.end (done o.end o.reported) o.run) in
    let same : (looked_up r.values).list ≡ rows_by (Some (codes "v")) None = ap (λ x. rows_by x (r.values 0 (codes "z"))) (at_key (codes "k")) ∙ ap (λ x. rows_by (Some (codes "v")) x) (at_key (codes "z")) in
    let text : codes "k,w\nz,\n" ≡ codes "k,v\nz,\n" = ap (λ ps. flat_map (λ p. p) ps) o.printed ∙ (sym (rendered_pieces o.pieces) ∙ (ap rendering_of (rows ∙ same) ∙ sym row_texts)) in
    let n = ap third_of text in omega (arith, n)

-- Ends.

pub halted_by_a_later_one_refused : ¬ (Performs in_turn_work halted_by_a_later_one)
halted_by_a_later_one_refused = by_causes in_turn_work halted_by_a_later_one (no_nil _ _) refl

pub stopped_by_nothing_refused : ¬ (Performs copy_work stopped_by_nothing)
stopped_by_nothing_refused = by_causes copy_work stopped_by_nothing (no_nil _ _) refl

pub fault_of_no_device_refused : ¬ (Performs lookup_work fault_of_no_device)
fault_of_no_device_refused = by_causes lookup_work fault_of_no_device (no_nil _ _) refl

pub root_never_closed_refused : ¬ (Performs silent_work root_never_closed)
root_never_closed_refused = by_causes silent_work root_never_closed (no_nil _ _) refl

pub tables_never_acquired_refused : ¬ (Performs (no_streams (t_csv ∷ u_csv ∷ [])) tables_never_acquired)
tables_never_acquired_refused h =
    let r = ran (no_streams (t_csv ∷ u_csv ∷ [])) tables_never_acquired (no_nil _ _) h in
    let a : IsAcquired tables_never_acquired.events 0 = r.ends.outer.end.0.0.acquired in
    ⊎_elim (λ e. apart (ap (λ (x : Event). x.what) (sym e) ∙ a.2.3) refl) among_nil (among_cons a.2.1)

pub nobody_given_refused : ¬ (Performs in_turn_work nobody_given)
nobody_given_refused h =
    let r = ran in_turn_work nobody_given (no_nil _ _) h in
    no_nil _ _ (sym r.ends.outer.end.1)

abbrev first_of : List ℕ → ℕ
first_of [] = 0
first_of (b ∷ bs) = b

-- the device is one of the two, and is the one for t.csv
first_device : (d x y : DeviceTold) → d.place ≡ to_read t_csv → y.place ≡ to_read u_csv → IsAmong d (x ∷ y ∷ []) → d ≡ x
first_device d x y at other m = ⊎_elim
    (λ e. e)
    (λ n. ⊎_elim
    (λ e. let p : to_read t_csv ≡ to_read u_csv = sym at ∙ (ap (λ (z : DeviceTold). z.place) e ∙ other) in let b = ap (λ (z : Place). first_of z.path) p in absurd (omega (arith, b)))
    (λ k. absurd (among_nil k))
    (among_cons n))
    (among_cons m)

-- without a list the outer stream fails by a table
failed_by_a_table : (o : Opener) (A : DeviceTold → Outcomes) (n : ℕ) (c : RunRecord) (w : ℕ → DeviceTold) (f : Code) → o.list ≡ None → IsOuterEnd o A n c w (how.Fault f) → AreTablesFailed o c w 0 o.tables f
failed_by_a_table o A n c w f none (inl t) = t.0
failed_by_a_table o A n c w f none (inr l) = let e = sym none ∙ l.1.1 in let x : ⊥ = cc in absurd x

pub next_table_tried_refused : ¬ (Performs (no_streams (t_csv ∷ u_csv ∷ [])) next_table_tried)
next_table_tried_refused h =
    let r = ran (no_streams (t_csv ∷ u_csv ∷ [])) next_table_tried (no_nil _ _) h in
    let opened : (r.home 1).opens ≡ 1 = r.rows.tied.1.0 in
    ⊎_elim
    (λ x. false≢true (sym x.1.0 ∙ lt-ltb 0 ((r.home 1).opens + (r.home 1).open_faults) (omega (arith, opened))))
    (λ x. ⊎_elim
    (λ b.
    let d = first_device (r.home 0) (record unread_table_device { number = 0 }) (read_device 1 u_csv (codes "k,w\n") Errored) r.rows.at_home.0 refl b in
    let f = ap (λ (z : DeviceTold). z.read_faults) d in
    let u : (r.home 0).read_faults ≡ 0 = x.0.unfailed in omega (arith, f, u))
    (λ (n : IsUntouched (r.home 0)). let z = n.opens in let o : (r.home 0).opens ≡ 1 = r.rows.tied.0 in omega (arith, z, o))
    r.rows.at_home.2)
    (failed_by_a_table (opener (t_csv ∷ u_csv ∷ []) 4 None) no_listing 0 next_table_tried r.home code.Read refl r.ends.outer.end)

-- Stopping.

pub stopped_one_begins_refused : ¬ (Performs stopped_work stopped_one_begins)
stopped_one_begins_refused = by_stops stopped_work stopped_one_begins (no_nil _ _) refl

pub begins_behind_a_fault_refused : ¬ (Performs in_turn_work begins_behind_a_fault)
begins_behind_a_fault_refused = by_stops in_turn_work begins_behind_a_fault (no_nil _ _) refl

pub begins_behind_a_failed_write_refused : ¬ (Performs in_turn_work begins_behind_a_failed_write)
begins_behind_a_failed_write_refused = by_stops in_turn_work begins_behind_a_failed_write (no_nil _ _) refl

pub begins_in_silence_refused : ¬ (Performs silent_work begins_in_silence)
begins_in_silence_refused = by_stops silent_work begins_in_silence (no_nil _ _) refl

-- Exits.

pub root_told_otherwise_refused : ¬ (Performs copy_work root_told_otherwise)
root_told_otherwise_refused = by_exits copy_work root_told_otherwise (no_nil _ _) refl

pub cancel_told_otherwise_refused : ¬ (Performs copy_work cancel_told_otherwise)
cancel_told_otherwise_refused = by_exits copy_work cancel_told_otherwise (no_nil _ _) refl

-- Two sides.

-- the pairs of fronts are a front of the pairs
pairs_front : (xs ys us vs : List Element) → IsFront (pairs_of xs ys) (pairs_of (xs ++ us) (ys ++ vs))
pairs_front [] ys us vs = (pairs_of us (ys ++ vs), refl)
pairs_front (x ∷ xs) [] us vs = (pairs_of (x ∷ (xs ++ us)) vs, refl)
pairs_front (x ∷ xs) (y ∷ ys) us vs = front_cons (pair_of (x, y)) (pairs_of xs ys) (pairs_of (xs ++ us) (ys ++ vs)) (pairs_front xs ys us vs)

pairs_within : (xs ys vs ws : List Element) → IsFront xs vs → IsFront ys ws → IsFront (pairs_of xs ys) (pairs_of vs ws)
pairs_within xs ys vs ws f g = subst (λ l. IsFront (pairs_of xs ys) (pairs_of l ws)) (sym f.1) (subst (λ l. IsFront (pairs_of xs ys) (pairs_of (xs ++ f.0) l)) (sym g.1) (pairs_front xs ys f.0 g.0))

-- what two files give in pairs is a front of their pairs
zipped_front : (A B : Outcomes) (vs ws zs : List Element) (h : End) → IsWithin A vs → IsWithin B ws → Zipped A B zs h → IsFront zs (pairs_of vs ws)
zipped_front A B vs ws zs h a b z = subst (λ l. IsFront l (pairs_of vs ws)) (sym z.6) (pairs_within z.0 z.1 vs ws (a z.0 z.2 z.4).0 (b z.1 z.3 z.5).0)

zipped_left : (A B : Outcomes) (vs ws zs : List Element) (h : End) → IsWithin A vs → IsWithin B ws → Leaves (Zipped A B) zs h → IsFront zs (pairs_of vs ws)
zipped_left A B vs ws zs h a b (inl z) = zipped_front A B vs ws zs h a b z
zipped_left A B vs ws zs h a b (inr (c, inl n)) = subst (λ l. IsFront l (pairs_of vs ws)) (sym n.0) (pairs_of vs ws, refl)
zipped_left A B vs ws zs h a b (inr (c, inr m)) = front_trans zs (zs ++ m.0) (pairs_of vs ws) (m.0, refl) (zipped_front A B vs ws (zs ++ m.0) m.1 a b m.2)

-- a file of these bytes gives these lines or a front of them
pub lines_within : (d : DeviceTold) (bytes : List ℕ) (lines : List Element) → d.content ≡ Some bytes → (part_of no_values pipe.Lines (map Byte bytes)).fault ≡ None → all_of no_values pipe.Lines (map Byte bytes) ≡ without_fault lines → IsWithin (LinesIn d) lines
lines_within d bytes lines k good e =
    subst (λ l. IsWithin (LinesIn d) l) (ap (λ (g : Given). g.list) e)
    (file_within d (ThroughPipe (Leaves (Reads d)) pipe.Lines) (all_of no_values pipe.Lines (map Byte bytes)).list
    (piped_within (part_of no_values pipe.Lines) (all_of no_values pipe.Lines) lines_lawful.steady (map Byte bytes) good (Leaves (Reads d)) (left_within (Reads d) (map Byte bytes) (reads_within d bytes k))))

-- a text of pairs is a front of that of the two
pairs_printed : (text : List ℕ) → Performs pairs_work (with_text paired text) → IsFront (text ++ []) (codes "a,1\nb,2\n")
pairs_printed text h =
    let r = ran pairs_work (with_text paired text) (no_nil _ _) h in
    let o = r.outputs.outputs.0 in
    let left : (r.home 0).content ≡ Some three_lines = r.rows.at_home.1 in
    let right : (r.home 1).content ≡ Some two_lines = r.rows.at_home.3.1 in
    let within : (zs : List Element) (h : End) → PairsIn (r.home 0) (r.home 1) zs h → IsFront zs pairs =
    λ zs h z. zipped_left (LinesIn (r.home 0)) (LinesIn (r.home 1)) three two zs h (lines_within (r.home 0) three_lines three left three_fault three_all) (lines_within (r.home 1) two_lines two right two_fault two_all) z in
    let front = ⊎_elim (λ z. within (elements_in_pieces o.pieces) o.end z) (λ z. front_trans (elements_in_pieces o.pieces) (elements_in_pieces o.pieces ++ z.1.0) pairs (z.1.0, refl) (within (elements_in_pieces o.pieces ++ z.1.0) z.1.1 z.1.2)) o.run in
    subst (λ t. IsFront t (codes "a,1\nb,2\n")) (rendered_pieces o.pieces ∙ sym (ap (λ ps. flat_map (λ p. p) ps) o.printed)) (subst (λ t. IsFront (rendering_of (elements_in_pieces o.pieces)) t) (sym pairs_text) (rendered_front (elements_in_pieces o.pieces) pairs front))

pub third_pair_refused : ¬ (Performs pairs_work third_pair)
third_pair_refused h = let f = pairs_printed (codes "a,1\nb,2\nc,\n") h in let l = ap length f.1 in omega (arith, l)

pub crossed_pairs_refused : ¬ (Performs pairs_work crossed_pairs)
crossed_pairs_refused h = let f = pairs_printed (codes "a,2\nb,1\n") h in let l = ap third_of f.1 in omega (arith, l)

pub side_left_open_refused : ¬ (Performs pairs_work side_left_open)
side_left_open_refused = by_shut pairs_work side_left_open refl

-- Five files.

pub third_too_early_refused : ¬ (Performs five_work third_too_early)
third_too_early_refused h = by_pace third_too_early.events refl h.ledger.given.pace

pub another_number_refused : ¬ (Performs five_work another_number)
another_number_refused h =
    let r = ran five_work another_number (no_nil _ _) h in
    let o = r.outputs.outputs.1.0 in
    let nothing : (r.home 1).content ≡ Some [] = r.rows.at_home.3.1 in
    let front = rendered_front (elements_in_pieces o.pieces) [] (or_left_within (InFile (r.home 1) (Reads (r.home 1))) [] (file_within (r.home 1) (Reads (r.home 1)) [] (reads_within (r.home 1) [] nothing)) (elements_in_pieces o.pieces) o.end o.run).0 in
    let f : IsFront (codes "a") [] = subst (λ t. IsFront t []) (rendered_pieces o.pieces ∙ sym (ap (λ ps. flat_map (λ p. p) ps) o.printed)) front in
    no_nil 97 f.0 (sym f.1)

-- One stream.

pub done_without_close_refused : ¬ (Performs (one_stream_work None) done_without_close)
done_without_close_refused = by_causes (one_stream_work None) done_without_close (no_nil _ _) refl

pub begins_unwanted_refused : ¬ (Performs (one_stream_work (Some 0)) begins_unwanted)
begins_unwanted_refused = by_stops (one_stream_work (Some 0)) begins_unwanted (no_nil _ _) refl

pub canceled_by_another_refused : ¬ (Performs (one_stream_work None) canceled_by_another)
canceled_by_another_refused h = false≢true (legal_found canceled_by_another.events h.ledger.legal)
