-- Calls of rotate: which the contract takes, and that it refuses each that has one thing wrong.
use Rattle.std.proofs.Common.{◌≡◌, ◌≢◌, ℕ, true, false, List, [], ◌∷◌, ◌++◌, length, Some, None, inl, refl, sym, ap, ◌∙◌, arith}
use Rattle.std.specs.Prelude.{codes}
use Rattle.std.specs.Fmt.{digits}
use Rattle.std.proofs.lemmas.Bool.{false≢true}
use Rattle.clap.proofs.OnLiterals.{clap_on_literals}
use Rattle.command_words.specs.Words.{command_of}
use Rattle.command_words.specs.declared.asked.Asked.TheVariants.{Rotate}
use Rattle.run_rules.specs.Texts.{tail_text}
use Rattle.flume_cli.specs.Status.{Causes}
use Rattle.flume_cli.specs.Headline.{Call, HasStatus, Headline, ReadsNothing, RunsStreams, TellsRotation, is_meant}
use Rattle.flume_cli.proofs.Calling.{done_for, source_for}
use Rattle.headline_laws.specs.Calls.{a}
use Rattle.headline_laws.specs.Rotated.{closed_at_the_end, cut_piece, done_as_errored, halted_rotation, p, printed_too, too_many_of_six, two_pieces, two_text, unfailed_write, unopened_piece}
use Rattle.headline_laws.proofs.Asked.{asks_as, done_if, refuses, unless_early}
use Rattle.headline_laws.proofs.Misrotated.{never_cut, never_errored, never_halted, never_made_up, never_three, never_too_many}
use Rattle.headline_laws.proofs.Refusing.{an_end, bytes_of, good, went}
use Rattle.headline_laws.proofs.Rotations.{one_rotates, two_rotates}

abbrev words_of : List ℕ → List (List ℕ)
words_of n = codes "rotate" ∷ codes "--bytes" ∷ n ∷ a ∷ p ∷ []

four_asks : command_of (words_of (codes "4")) ≡ Some (Rotate 4 a p)
unfolding clap_on_literals
four_asks = refl

two_asks : command_of (words_of (codes "2")) ≡ Some (Rotate 2 a p)
unfolding clap_on_literals
two_asks = refl

four_means : true ≡ is_meant (command_of (words_of (codes "4")))
four_means = sym (ap is_meant four_asks)

-- what was done, where there are ends
rotation_of : (n : ℕ) (text : List ℕ) → command_of (words_of text) ≡ Some (Rotate n a p) → (c : Call) (h : RunsStreams c) → c.words ≡ words_of text → c.ends ≢ [] → TellsRotation a p n c h.causes
rotation_of n text asks c h words some = done_if c h.causes (Some (Rotate n a p)) (asks_as _ _ _ words asks) (unless_early c h.causes h.causes.early some h.does) h.does

by_four : (c : Call) (h : RunsStreams c) → c.words ≡ words_of (codes "4") → c.ends ≢ [] → TellsRotation a p 4 c h.causes
by_four c h words some = rotation_of 4 (codes "4") four_asks c h words some

refuses_four : (c : Call) → c.words ≡ words_of (codes "4") → ¬ (RunsStreams c) → ¬ (Headline c)
refuses_four c words n = refuses c (Some (Rotate 4 a p)) (asks_as _ _ _ words four_asks) refl n

-- Calls that went as they should.

four_holds : (c : Call) (k : Causes) → c.words ≡ words_of (codes "4") → k.early ≡ false → HasStatus c k → ReadsNothing c k → TellsRotation a p 4 c k → RunsStreams c
four_holds c k words e s source told =
    let is = asks_as _ _ _ words four_asks in
    record { causes = k; status = s; source = source_for c k (Some (Rotate 4 a p)) e is source; does = done_for c k (Some (Rotate 4 a p)) e is told }

text_of_two : two_pieces.out_new.written ≡ Some ([] ++ ([] ++ ([] ++ tail_text two_pieces.ends two_pieces.events)))
unfolding digits
text_of_two = refl

text_of_unopened : unopened_piece.out_new.written ≡ Some ([] ++ ([] ++ ([] ++ tail_text unopened_piece.ends unopened_piece.events)))
unfolding digits
text_of_unopened = refl

pub two_pieces_hold : RunsStreams two_pieces
two_pieces_hold =
    four_holds two_pieces (record { early = false; words = true; unread = false; refused = None; unwritten = false; memory = false; faulty = false; unclean = false }) refl refl
    (record { words = four_means; unread = refl; unwritten = refl; memory = λ h. absurd (false≢true h); faulty = refl; unclean = refl; status = refl; line = inl refl }) (record { kept = refl; refused = refl })
    (record { wanted = false; rotates = two_rotates; text = record { said = tail_text two_pieces.ends two_pieces.events; written = text_of_two; tail = refl; spoke = λ e. absurd (an_end _ _ e); once = omega arith } })

pub unopened_piece_holds : RunsStreams unopened_piece
unopened_piece_holds =
    four_holds unopened_piece (record { early = false; words = true; unread = false; refused = None; unwritten = false; memory = false; faulty = true; unclean = false }) refl refl
    (record { words = four_means; unread = refl; unwritten = refl; memory = λ h. absurd (false≢true h); faulty = refl; unclean = refl; status = refl; line = inl refl }) (record { kept = refl; refused = refl })
    (record { wanted = false; rotates = one_rotates; text = record { said = tail_text unopened_piece.ends unopened_piece.events; written = text_of_unopened; tail = refl; spoke = λ e. absurd (an_end _ _ e); once = omega arith } })

-- Calls that are refused.

pub cut_piece_refused : ¬ (Headline cut_piece)
cut_piece_refused = refuses_four cut_piece refl (λ h. let t = by_four cut_piece h refl (an_end _ []) in never_cut (codes "e") t.wanted (omega arith) t.rotates)

pub closed_at_the_end_refused : ¬ (Headline closed_at_the_end)
closed_at_the_end_refused =
    refuses closed_at_the_end (Some (Rotate 2 a p)) two_asks refl (λ h. let t = rotation_of 2 (codes "2") two_asks closed_at_the_end h refl (an_end _ []) in never_three 2 _ _ t.wanted t.rotates)

pub too_many_of_six_refused : ¬ (Headline too_many_of_six)
too_many_of_six_refused = refuses_four too_many_of_six refl (λ h. let t = by_four too_many_of_six h refl (an_end _ []) in never_too_many _ _ t.wanted t.rotates)

pub halted_rotation_refused : ¬ (Headline halted_rotation)
halted_rotation_refused = refuses_four halted_rotation refl (λ h. let t = by_four halted_rotation h refl (an_end _ []) in never_halted 4 _ _ t.wanted t.rotates)

pub unfailed_write_refused : ¬ (Headline unfailed_write)
unfailed_write_refused = refuses_four unfailed_write refl (λ h. let t = by_four unfailed_write h refl (an_end _ []) in never_made_up 4 _ _ t.wanted (refl, (refl, (refl, tt))) t.rotates)

pub done_as_errored_refused : ¬ (Headline done_as_errored)
done_as_errored_refused = refuses_four done_as_errored refl (λ h. let t = by_four done_as_errored h refl (an_end _ []) in never_errored 4 _ t.wanted t.rotates)

-- the tail alone is shorter
tail_length : length (tail_text printed_too.ends printed_too.events) ≡ length (codes "end 0 done\n" ++ two_text)
unfolding digits
tail_length = refl

pub printed_too_refused : ¬ (Headline printed_too)
printed_too_refused = refuses_four printed_too refl (λ h.
    let t = by_four printed_too h refl (an_end _ []) in
    let w = went h.causes (good h.causes h.status.status) t.text.said _ false t.wanted t.text.tail in
    let n = ap (λ (xs : List ℕ). length xs) (ap bytes_of t.text.written ∙ w.said_is) in
    let m = tail_length in
    omega (arith, n, m))
